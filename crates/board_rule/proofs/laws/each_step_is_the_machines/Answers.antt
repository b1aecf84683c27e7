use Rattle.board_rule.proofs.StepLaw.{makes_of}
use Rattle.board_rule.proofs.laws.each_step_is_the_machines.Goals as goal

pub returns : goal.returns
returns g c = record {
  rule = λ key s id v kind e r seat share can. (makes_of (λ x. g.M.Meaning.meant x) g.met.M.Meaning.lawful c.args.meaning.now key s id v kind e r seat share can).0;
  steps = λ key s id v kind e r seat share can. (makes_of (λ x. g.M.Meaning.meant x) g.met.M.Meaning.lawful c.args.meaning.now key s id v kind e r seat share can).1;
}
