-- The texts that tell a limit, with its number as the code writes it.
use Rattle.std.specs.Prelude.{◌++◌, codes, decimal}
use Rattle.std.specs.Fmt.{digits}
use Rattle.std.proofs.Common.{◌≡◌, refl}
use Rattle.cxx_base.specs.declared.limits.TheConstants.{MAX_SOURCE, MAX_NESTING, MAX_PIECES, MAX_UNITS}

pub source_text : codes "source is longer than 4194304 bytes" ≡ codes "source is longer than " ++ decimal MAX_SOURCE ++ codes " bytes"
unfolding digits
source_text = refl

pub nesting_text : codes "nesting is deeper than 256" ≡ codes "nesting is deeper than " ++ decimal MAX_NESTING
unfolding digits
nesting_text = refl

pub pieces_text : codes "more than 65536 pieces" ≡ codes "more than " ++ decimal MAX_PIECES ++ codes " pieces"
unfolding digits
pieces_text = refl

pub units_text : codes "more than 256 units" ≡ codes "more than " ++ decimal MAX_UNITS ++ codes " units"
unfolding digits
units_text = refl
