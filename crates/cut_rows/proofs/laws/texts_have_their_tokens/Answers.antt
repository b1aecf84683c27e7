use Rattle.cxx_tokens.proofs.CutLaws.{scan_is_cut}
use Rattle.cut_rows.proofs.Rows.{rows}
use Rattle.cut_rows.proofs.laws.texts_have_their_tokens.Goals as goal

pub returns : goal.returns
returns c = rows scan_is_cut
