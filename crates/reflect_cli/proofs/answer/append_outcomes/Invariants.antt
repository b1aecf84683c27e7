use Rattle.std.proofs.Common.{◌≡◌, ◌≤◌, ◌++◌, take}
use Rattle.std.specs.List.{flat_map, count_by}
use Rattle.reflect_cli.specs.Report.{outcome_line, is_refused}
use Rattle.reflect_cli.proofs.answer.append_outcomes.Given as goal

abbrev pub invariant-loop-outcome : goal.invariant-loop-outcome
invariant-loop-outcome l = record {
  text : l.out ≡ l.fn.out ++ flat_map (outcome_line l.names) (take l.outcome-index l.outcomes);
  refused : l.refused ≡ count_by is_refused (take l.outcome-index l.outcomes);
  few : l.refused ≤ l.outcome-index;
}
