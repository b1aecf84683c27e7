use Rattle.cxx_base.proofs.LibraryNames.{are_declared}
use Rattle.cxx_base.proofs.library.names_have_their_scopes.Goals as goal

pub returns : goal.returns
returns c = are_declared
