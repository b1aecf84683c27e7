-- How large a quotient and a remainder are, and what the machine makes of them.
use Rattle.std.proofs.Common.{◌≡◌, ℕ, zero, suc, ◌-◌, ◌/◌, ◌<◌, ◌≤◌, ◌≢◌, ◌^◌, Bool as Test, ℤ, pos, negsuc, ◌≤ℤ◌, int_div, FitsSigned, Option, None, arith, ap, refl, sym, ◌∙◌}
use Rattle.std.specs.Int.{w128}
use Rattle.std.proofs.Math.Nat.{div-le_self, div-lt_self, div-one}
use Rattle.std.proofs.lemmas.Int.{ints}
use Rattle.int_kinds.specs.declared.fault.ArithFault.{ArithFault}
use Rattle.int_kinds.specs.Operate.{division_fault_at, value_unless}

-- a quotient lies between the bounds of a signed type, except for that of the least value by -1
pub quotient_fits :
    (g : ℕ) (a b : ℤ) → negsuc g ≤ℤ a → a ≤ℤ pos g → (a ≡ negsuc g → b ≢ negsuc 0)
    → (negsuc g ≤ℤ int_div a b) × (int_div a b ≤ℤ pos g)
quotient_fits g (pos a) (pos b) low high ne =
    let h : a / b ≤ a = div-le_self a b in (omega (arith, ints), omega (arith, ints))
quotient_fits g (pos a) (negsuc b) low high ne =
    let h : a / suc b ≤ a = div-le_self a (suc b) in (omega (arith, ints), omega (arith, ints))
quotient_fits g (negsuc a) (pos b) low high ne =
    let h : suc a / b ≤ suc a = div-le_self (suc a) b in (omega (arith, ints), omega (arith, ints))
quotient_fits g (negsuc a) (negsuc zero) low high ne =
    let h : suc a / 1 ≡ suc a = div-one (suc a) in
    let not_least : a ≢ g = λ e. ne (ap negsuc e) refl in
    (omega (arith, ints), omega (arith, ints))
quotient_fits g (negsuc a) (negsuc (suc b)) low high ne =
    let h : suc a / suc (suc b) < suc a = div-lt_self (omega arith) (omega arith) in
    (omega (arith, ints), omega (arith, ints))

-- so the machine has that of a number of few bits
pub quotient_fits_machine : (a b : ℤ) → negsuc (2 ^ 126) ≤ℤ a → a ≤ℤ pos (2 ^ 126) → FitsSigned w128 (int_div a b)
quotient_fits_machine a b low high =
    let bounds = quotient_fits (2 ^ 127 - 1) a b (omega (arith, ints)) (omega (arith, ints)) (λ e. absurd (omega (arith, ints))) in
    omega (arith, ints)

-- where there is no fault, the divisor is not 0
pub not_zero : (bits : ℕ) (signed : Test) (a b : ℤ) → division_fault_at bits signed a b ≡ None → b ≢ pos 0
not_zero bits signed a (pos zero) e = cc
not_zero bits signed a (pos (suc n)) e = λ z. cc
not_zero bits signed a (negsuc n) e = λ z. cc

-- and the value is what the machine has
pub unless_none :
    (fault : Option ArithFault) (m n : ℤ) → fault ≡ None → m ≡ n → value_unless None m ≡ value_unless fault n
unless_none fault m n none e = ap (value_unless None) e ∙ ap (λ f. value_unless f n) (sym none)
