use Rattle.std.proofs.Common.{arith}
use Rattle.cxx_tokens.proofs.Cut.{characters_are_few}
use Rattle.cxx_tokens.proofs.lexing.character_token_at.Goals as goal

pub behind_one-requires : goal.behind_one-requires
behind_one-requires c =
    let few = characters_are_few c.args.text.now c.utf8.text in
    omega (arith, few, c.in-Some.ensures.cut.within)
