-- The notes where one call more is active.
use Rattle.std.proofs.Common.{◌≡◌, ℕ, zero, suc, ◌+◌, ◌<◌, ◌≤◌, List, [], ◌∷◌, ◌++◌, length, take, set, replicate, sym, ap, ◌∙◌, refl, arith}
use Rattle.std.proofs.lemmas.List.{take-replicate, length-append}
use Rattle.cxx_base.specs.Refusals.{no_call, notes_of}
use Rattle.cxx_base.specs.declared.note.Note.{Note}
use Rattle.cxx_base.specs.declared.note.Notes.{Notes}

module _ (none outer : Note) where
  -- a call that is shown stands behind those within it
  pub shown : (k : ℕ) (calls : List Note) (room : ℕ) → k ≤ room → length calls < k
      → take k ((calls ++ outer ∷ []) ++ replicate room none) ≡ set (take k (calls ++ replicate room none)) (length calls) outer
  shown zero calls room h within = absurd (omega (arith, within))
  shown (suc k) [] zero h within = absurd (omega (arith, h))
  shown (suc k) [] (suc room) h within =
      ap (λ more. outer ∷ more) (take-replicate k (suc room) none (omega (arith, h)) ∙ sym (take-replicate k room none (omega (arith, h))))
  shown (suc k) (call ∷ calls) room h within = ap (λ more. call ∷ more) (shown k calls room (omega (arith, h)) (omega (arith, within)))

  -- one that is not shown changes none that is
  pub hidden : (k : ℕ) (calls : List Note) (room : ℕ) → k ≤ length calls
      → take k ((calls ++ outer ∷ []) ++ replicate room none) ≡ take k (calls ++ replicate room none)
  hidden zero calls room h = refl
  hidden (suc k) [] room h = absurd (omega (arith, h))
  hidden (suc k) (call ∷ calls) room h = ap (λ more. call ∷ more) (hidden k calls room (omega (arith, h)))

abbrev notes : ℕ → List Note → Notes
notes count entries = record { count = count; shown = entries }

-- the notes that are made, from their number and their entries
pub made : (count : ℕ) (entries : List Note) (outer : Note) (calls : List Note) → count ≡ length calls
    → entries ≡ (notes_of (calls ++ outer ∷ [])).shown → notes (count + 1) entries ≡ notes_of (calls ++ outer ∷ [])
made count entries outer calls e f =
    ap (λ n. notes (n + 1) entries) e ∙ ap (λ n. notes n entries) (sym (length-append calls (outer ∷ [])))
    ∙ ap (notes (length (calls ++ outer ∷ []))) f

pub made_shown : (self : Notes) (outer : Note) (calls : List Note) → self ≡ notes_of calls → self.count < 8
    → set self.shown self.count outer ≡ (notes_of (calls ++ outer ∷ [])).shown
made_shown self outer calls e within =
    ap (λ (n : Notes). set n.shown n.count outer) e
    ∙ sym (shown no_call outer 8 calls 8 (omega arith) (omega (arith, ap (λ (n : Notes). n.count) e, within)))

pub made_hidden : (self : Notes) (outer : Note) (calls : List Note) → self ≡ notes_of calls → 8 ≤ self.count
    → self.shown ≡ (notes_of (calls ++ outer ∷ [])).shown
made_hidden self outer calls e within =
    ap (λ (n : Notes). n.shown) e ∙ sym (hidden no_call outer 8 calls 8 (omega (arith, ap (λ (n : Notes). n.count) e, within)))
