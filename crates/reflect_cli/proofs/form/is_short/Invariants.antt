use Rattle.std.proofs.Common.{◌≡◌, ◌+◌, ◌-◌, ◌^◌, min, take, sum_by}
use Rattle.reflect_cli.specs.Form.{product_size}
use Rattle.reflect_cli.proofs.form.is_short.Given as goal

abbrev pub invariant-loop-link : goal.invariant-loop-link
invariant-loop-link l =
    l.size ≡ min (product_size l.fn.sum.first + sum_by (λ link. product_size link.operand) (take l.link-index l.fn.sum.rest)) (2 ^ 64 - 1)
