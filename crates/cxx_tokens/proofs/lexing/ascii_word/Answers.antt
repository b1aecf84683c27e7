use Rattle.std.proofs.Common.{ap, length, arith}
use Rattle.cxx_tokens.proofs.Cut.{characters_are_few}
use Rattle.cxx_tokens.proofs.lexing.ascii_word.Goals as goal

pub overflow_add-result : goal.overflow_add-result
overflow_add-result c =
    let few = characters_are_few c.args.text.now c.utf8.text in
    let all = ap length c.requires in
    omega (arith, few, all, c.in-Some.ensures.cut.within)
