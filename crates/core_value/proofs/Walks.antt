-- A walk along two lists whose rest of the second has run out.
use Rattle.std.proofs.Common.{◌≡◌, ℕ, ◌<◌, List, [], ◌∷◌, length, drop, arith}
use Rattle.std.proofs.lemmas.List.{length-drop}

longer : {A : Type 0} (xs ys : List A) → 0 < length xs → length ys ≡ 0 → xs ≡ ys → ⊥
longer [] ys some none same = omega arith
longer (x ∷ xs) [] some none same = let p : x ∷ xs ≡ [] = same in cc
longer (x ∷ xs) (y ∷ ys) some none same = omega arith

pub runs_out : {A : Type 0} (xs rest : List A) (i : ℕ) → i < length xs → length rest ≡ 0 → drop i xs ≡ rest → ⊥
runs_out xs rest i more none same =
    let some : 0 < length (drop i xs) = simp length-drop (omega arith) in
    longer (drop i xs) rest some none same
