use Rattle.std.proofs.Common.{◌≡◌, drop}
use Rattle.cxx_base.specs.declared.operator.IntKind.TheVariants.{Int}
use Rattle.int_kinds.specs.Kind.{IsInRange}
use Rattle.reflect_cli.specs.Chains.{links_value, literal_value}
use Rattle.reflect_cli.proofs.const_eval.literal_links_value.Given as goal

-- what is left gives the value of all
abbrev pub invariant-loop-link : goal.invariant-loop-link
invariant-loop-link l = record {
  same : links_value l.place literal_value l.value (drop l.link-index l.links) ≡ links_value l.place literal_value l.fn.first l.links;
  in_range : IsInRange Int l.value;
}
