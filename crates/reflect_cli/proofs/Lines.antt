-- Lines of refusals, computed from the definition: also of codes that no source is refused with yet.
use Rattle.std.specs.Prelude.{codes, []}
use Rattle.std.specs.Fmt.{digits}
use Rattle.std.proofs.Common.{◌≡◌, refl}
use Rattle.cxx_base.specs.Refusals.{whole, of_read, met, notes_of}
use Rattle.cxx_base.specs.declared.place.Place.{Place}
use Rattle.cxx_base.specs.declared.code.Code.TheVariants.{N1, R1, V1, V14}
use Rattle.reflect_cli.specs.Report.{refusal_line, message}

abbrev pub line_3 : Place
line_3 = record { line = 3; column = 19 }

abbrev pub line_4 : Place
line_4 = record { line = 4; column = 1 }

pub first_piece : refusal_line (of_read (record { 0 = 0 }) line_3) ≡ codes "3:19: error R1: piece 0 is refused\n"
unfolding refusal_line message digits
first_piece = refl

pub last_piece : refusal_line (met R1 65535 line_3 line_4 (notes_of []))
    ≡ codes "3:19: error R1: piece 65535 is refused (at 4:1)\n"
unfolding refusal_line message digits
last_piece = refl

pub undeclared_name : refusal_line (whole N1 line_3) ≡ codes "3:19: error N1: name is not declared\n"
unfolding refusal_line message digits
undeclared_name = refl

pub least_value : refusal_line (met V1 2 line_3 line_4 (notes_of []))
    ≡ codes "3:19: error V1: least value divided by -1 (at 4:1)\n"
unfolding refusal_line message digits
least_value = refl

pub call_without_a_value : refusal_line (met V14 7 line_3 line_4 (notes_of []))
    ≡ codes "3:19: error V14: function ended without a value (at 4:1)\n"
unfolding refusal_line message digits
call_without_a_value = refl
