use Rattle.std.proofs.Common.{◌∙◌, sym, ap}
use Rattle.cxx_type.specs.Layers.{runs_if_any}
use Rattle.cxx_type.proofs.Stretches.{nonempty, same_layers}
use Rattle.cxx_type.proofs.layering.Layers.same.Goals as goal

pub returns-in-Some-outermost : goal.returns-in-Some-outermost
returns-in-Some-outermost c =
    let both = same_layers c.self.inside.outermost c.other.inside.outermost _ _ c.self.view_is c.other.view_is c.self.invariant.1 c.other.invariant.1 in
    let x = ap runs_if_any c.in-Some.is in
    let y = ap runs_if_any c.in-Some-outermost.is in
    (λ yes. both.0 (x ∙ c.runs_same.ensures.0 yes ∙ sym y), λ e. c.runs_same.ensures.1 (sym x ∙ both.1 e ∙ y))

pub returns-in-None-outermost : goal.returns-in-None-outermost
returns-in-None-outermost c =
    let both = same_layers c.self.inside.outermost c.other.inside.outermost _ _ c.self.view_is c.other.view_is c.self.invariant.1 c.other.invariant.1 in
    let x = ap runs_if_any c.in-Some.is in
    let y = ap runs_if_any c.in-None-outermost.is in
    (λ no. cc, λ e. absurd (nonempty _ (sym x ∙ both.1 e ∙ y)))

pub returns-in-Some-outermost-2 : goal.returns-in-Some-outermost-2
returns-in-Some-outermost-2 c =
    let both = same_layers c.self.inside.outermost c.other.inside.outermost _ _ c.self.view_is c.other.view_is c.self.invariant.1 c.other.invariant.1 in
    let x = ap runs_if_any c.in-None.is in
    let y = ap runs_if_any c.in-Some-outermost-2.is in
    (λ no. cc, λ e. absurd (nonempty _ (sym y ∙ sym (both.1 e) ∙ x)))

pub returns-in-None-outermost-2 : goal.returns-in-None-outermost-2
returns-in-None-outermost-2 c =
    let both = same_layers c.self.inside.outermost c.other.inside.outermost _ _ c.self.view_is c.other.view_is c.self.invariant.1 c.other.invariant.1 in
    let x = ap runs_if_any c.in-None.is in
    let y = ap runs_if_any c.in-None-outermost-2.is in
    (λ yes. both.0 (x ∙ sym y), λ e. cc)
