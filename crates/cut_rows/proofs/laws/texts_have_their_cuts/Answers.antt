use Rattle.cut_rows.proofs.Cuts as cuts
use Rattle.cut_rows.proofs.laws.texts_have_their_cuts.Goals as goal

pub returns : goal.returns
returns c = cuts.rows
