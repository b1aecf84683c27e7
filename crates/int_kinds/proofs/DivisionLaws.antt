-- The laws of division.
use Rattle.std.proofs.Common.{◌≡◌, ◌≢◌, ◌⊎◌, inl, inr, ◌%◌, ◌^◌, ◌-◌, ◌<◌, ◌≤◌, ℕ, suc, Bool as Test, true, false, ℤ, pos, negsuc, ◌+ℤ◌, ◌≤ℤ◌, int_div, int_rem, unsigned_abs, Option, Some, None, Ok, Err, arith, sym, ◌∙◌, ap, subst, refl}
use Rattle.std.proofs.Math.Nat.{mod-le, div-one}
use Rattle.std.proofs.Math.IntN.{*ℤ_comm}
use Rattle.std.proofs.lemmas.Int.{ints, quot-rem, rem_below}
use Rattle.std.proofs.lemmas.Nat.{pow_pos}
use Rattle.std.proofs.lemmas.Bool.{false≢true}
use Rattle.std.proofs.lemmas.Bool.Decides.{nat_tests, Decides-int_eq}
use Rattle.int_kinds.specs.declared.fault.ArithFault.{ArithFault}
use Rattle.int_kinds.specs.declared.fault.ArithFault.TheVariants.{LeastByMinusOne}
use Rattle.int_kinds.specs.Kind.{width_of, is_signed, least_at, IsInRangeAt}
use Rattle.int_kinds.specs.Operate.{division_fault_at, value_unless}
use Rattle.int_kinds.specs.Division.{FitTogether, DivisionIsWhole, RefusesOnlyBeyondRange}
use Rattle.int_kinds.proofs.Division.{not_zero}
use Rattle.int_kinds.proofs.Ranges.{quotient_in_range}

-- a value comes only where there is no fault
value_unless_ok :
    (fault : Option ArithFault) (n value : ℤ) → value_unless fault n ≡ Ok value
    → (fault ≡ None) × (n ≡ value)
value_unless_ok None n value e = (refl, cc)
value_unless_ok (Some f) n value e = cc

-- what a divisor and a remainder are like
abs_positive : (b : ℤ) → b ≢ pos 0 → 0 < unsigned_abs b
abs_positive b ne = omega (arith, ints)

rem_not_negative : (a b : ℤ) → pos 0 ≤ℤ a → pos 0 ≤ℤ int_rem a b
rem_not_negative (pos a) b h = omega (arith, ints)
rem_not_negative (negsuc a) b h = absurd (omega (arith, ints))

rem_not_positive : (a b : ℤ) → a ≤ℤ pos 0 → int_rem a b ≤ℤ pos 0
rem_not_positive (pos a) b h =
    let small : a % unsigned_abs b ≤ a = mod-le a (unsigned_abs b) in omega (arith, ints)
rem_not_positive (negsuc a) b h = omega (arith, ints)

fit_together : (a b : ℤ) → b ≢ pos 0 → FitTogether a b (int_div a b) (int_rem a b)
fit_together a b ne = record {
  whole = sym (quot-rem a b) ∙ ap (λ n. n +ℤ int_rem a b) (*ℤ_comm (int_div a b) b);
  smaller = rem_below a b (abs_positive b ne);
  not_negative = rem_not_negative a b;
  not_positive = rem_not_positive a b;
}

pub division_is_whole : DivisionIsWhole
division_is_whole kind a b quotient remainder divided reduced =
    let fault : Option ArithFault = division_fault_at (width_of kind) (is_signed kind) a b in
    let d : (fault ≡ None) × (int_div a b ≡ quotient) = value_unless_ok fault (int_div a b) quotient divided in
    let r : (fault ≡ None) × (int_rem a b ≡ remainder) = value_unless_ok fault (int_rem a b) remainder reduced in
    subst (λ n. FitTogether a b n remainder) d.1
    (subst (λ n. FitTogether a b (int_div a b) n) r.1 (fit_together a b (not_zero (width_of kind) (is_signed kind) a b d.0)))

-- a fault is what `/` gives
value_unless_err :
    (fault : Option ArithFault) (n : ℤ) (f : ArithFault) → value_unless fault n ≡ Err f → fault ≡ Some f
value_unless_err None n f e = cc
value_unless_err (Some g) n f e = cc

-- what the tests of a division say
fault_means :
    (bits : ℕ) (signed : Test) (a b : ℤ) → division_fault_at bits signed a b ≡ Some LeastByMinusOne
    → (signed ≡ true) × (a ≡ least_at bits signed) × (b ≡ negsuc 0)
fault_means bits true a b e = let h : (a ≡ least_at bits true) × (b ≡ negsuc 0) = grind (arith, nat_tests, Decides-int_eq) in (refl, h.0, h.1)
fault_means bits false a b e = absurd (grind (arith, nat_tests, Decides-int_eq))

-- where the divisor is not 0, either that fault comes or none
either :
    (bits : ℕ) (signed : Test) (a b : ℤ) → b ≢ pos 0
    → (division_fault_at bits signed a b ≡ Some LeastByMinusOne) ⊎ (division_fault_at bits signed a b ≡ None)
either bits true a b nonzero = grind (arith, nat_tests, Decides-int_eq)
either bits false a b nonzero = grind (arith, nat_tests, Decides-int_eq)

-- the quotient of the least value by -1 is beyond the greatest value
beyond : (bits : ℕ) (a b : ℤ) → a ≡ least_at bits true → b ≡ negsuc 0 → ¬ IsInRangeAt bits true (int_div a b)
beyond bits (pos a) b least minus_one within =
    let some : 0 < 2 ^ (bits - 1) = pow_pos (bits - 1) in absurd (omega (arith, ints))
beyond bits (negsuc a) b least minus_one within =
    let some : 0 < 2 ^ (bits - 1) = pow_pos (bits - 1) in
    let e : int_div (negsuc a) b ≡ pos (suc a) = ap (int_div (negsuc a)) minus_one ∙ ap pos (div-one (suc a)) in
    omega (arith, ints, within.1)

refused_beyond :
    (bits : ℕ) (signed : Test) (a b : ℤ) → division_fault_at bits signed a b ≡ Some LeastByMinusOne
    → ¬ IsInRangeAt bits signed (int_div a b)
refused_beyond bits true a b fault = let m = fault_means bits true a b fault in beyond bits a b m.1 m.2
refused_beyond bits false a b fault = let m = fault_means bits false a b fault in absurd (false≢true m.0)

pub refuses_only_beyond_range : RefusesOnlyBeyondRange
refuses_only_beyond_range kind a b in_a in_b nonzero = (
  λ refused. refused_beyond (width_of kind) (is_signed kind) a b
      (value_unless_err (division_fault_at (width_of kind) (is_signed kind) a b) (int_div a b) LeastByMinusOne refused),
  λ outside. elim (either (width_of kind) (is_signed kind) a b nonzero) [
    | inl fault ↦ ap (λ f. value_unless f (int_div a b)) fault
    | inr none ↦ absurd (outside (quotient_in_range (width_of kind) (is_signed kind) a b in_a in_b none))
  ],
)
