use Rattle.std.proofs.Common.{◌∙◌, sym, ap, subst, length, arith}
use Rattle.std.proofs.lemmas.List.{length-take-le}
use Rattle.std.specs.Str.{IsUtf8}
use Rattle.cxx_tokens.proofs.Cut.{characters_are_few}
use Rattle.cxx_tokens.proofs.lexing.fault_place.Goals as goal

pub end_of-requires : goal.end_of-requires
end_of-requires c =
    let few = characters_are_few c.in-Ok.text.now (subst IsUtf8 (sym c.in-Ok.ensures.cases.0) c.in-Ok.ensures.cases.1) in
    let all = ap length c.in-Ok.ensures.cases.0 ∙ length-take-le c.args.valid c.args.bytes.now c.requires.within in
    omega (arith, few, all, c.without_byte_order_mark.ensures.shorter, c.requires.short, c.requires.within)
