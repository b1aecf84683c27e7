use Rattle.cxx_base.proofs.LibraryNames.{in_place}
use Rattle.cxx_base.proofs.names.names_are_in_place.Goals as goal

pub returns : goal.returns
returns c = in_place c.args.names.now c.len-count.ensures.library
