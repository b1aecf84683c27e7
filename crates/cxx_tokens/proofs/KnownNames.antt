-- A text that stands at a place of the names has this number.
use Rattle.std.proofs.Common.{◌≡◌, ℕ, zero, suc, ◌+◌, Bool, true, false, ◌||◌, not, cond, List, [], ◌∷◌, Some, slice_get, refl, sym, subst, arith}
use Rattle.std.specs.Cmp.Lexicographic.{bytes_decides}
use Rattle.std.specs.List.{AllByRecursion, IsDistinct}
use Rattle.std.specs.Str.{bytes_eq}
use Rattle.cxx_base.specs.Texts.{Text, AreDistinct, has_text, number_of, with_text}

is_same : (text other : Text) → text ≡ other → bytes_eq text other ≡ true
is_same text other h = (bytes_decides text other).1 h

all_at : (P : Text → Type 0) (texts : List Text) (n : ℕ) (text : Text) → AllByRecursion P texts → slice_get texts n ≡ Some text → P text
all_at P [] n text all h = absurd (cc h)
all_at P (first ∷ texts) zero text all h = let same : first ≡ text = cc h in subst P same all.0
all_at P (first ∷ texts) (suc n) text all h = all_at P texts n text all.1 h

pub number_here : (texts : List Text) (n : ℕ) (text : Text) → AreDistinct texts → slice_get texts n ≡ Some text → n ≡ number_of texts text
unfolding IsDistinct
number_here [] n text distinct h = absurd (cc h)
number_here (first ∷ texts) zero text distinct h =
    let same : first ≡ text = cc h in
    let yes : bytes_eq text first ≡ true = is_same text first (sym same) in
    rw yes refl
number_here (first ∷ texts) (suc n) text distinct h =
    let apart : bytes_eq first text ≡ false = all_at (λ other. bytes_eq first other ≡ false) texts n text distinct.0 h in
    let rest : n ≡ number_of texts text = number_here texts n text distinct.1 h in
    by (bytes_eq text first) refl apart rest
  where
    by : (b : Bool) → bytes_eq text first ≡ b → bytes_eq first text ≡ false → n ≡ number_of texts text → suc n ≡ cond (not b) (1 + number_of texts text) 0
    by true e apart rest =
        let same : text ≡ first = (bytes_decides text first).0 e in
        absurd (cc (is_same first text (sym same), apart))
    by false e apart rest = omega (arith, rest)

pub held_here : (texts : List Text) (n : ℕ) (text : Text) → slice_get texts n ≡ Some text → has_text texts text ≡ true
held_here [] n text h = absurd (cc h)
held_here (first ∷ texts) zero text h =
    let same : first ≡ text = cc h in
    let yes : bytes_eq text first ≡ true = is_same text first (sym same) in
    rw yes refl
held_here (first ∷ texts) (suc n) text h = later (bytes_eq text first) (held_here texts n text h)
  where
    later : (b : Bool) → has_text texts text ≡ true → (b || has_text texts text) ≡ true
    later true rest = refl
    later false rest = rest

-- a text that is held changes nothing
pub held_stays : (texts : List Text) (text : Text) → has_text texts text ≡ true → texts ≡ with_text texts text
held_stays texts text h = rw h refl
