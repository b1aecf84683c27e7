-- The bound of a repetition cuts nothing off, where each turn takes a token and none begins behind the last one.
use Rattle.std.proofs.Common.{◌≡◌, ℕ, zero, suc, ◌+◌, ◌≤◌, refl, sym, arith}
use Rattle.cxx_tokens.specs.declared.token.Tokens.{Tokens}
use Rattle.cxx_reading.specs.Extents.{EndsFrom, Rises, Needs}
use Rattle.cxx_reading.specs.Reading.{End, Tree, No, Nothing, TooDeep, Rule, go_on, turns, left}
use Rattle.cxx_reading.proofs.Turns.{turns_none}

module _ {A : Type 0} (tokens : Tokens) (p : A → Rule A) (rises : (x : A) → Rises (p x)) (needs : (x : A) → Needs tokens (p x)) where
  fewer : (i j n : ℕ) → left tokens i ≤ n + 1 → i + 1 ≤ j → left tokens j ≤ n
  unfolding left
  fewer i j n h g = omega arith

  none_left : (i : ℕ) → left tokens i ≤ 0 → left tokens i ≡ 0
  none_left i h = omega arith

  both : (n m i : ℕ) (x : A) (e : End A) → EndsFrom (i + 1) e → left tokens i ≤ n + 1 → left tokens i ≤ m + 1
      → ((y : A) (j : ℕ) → left tokens j ≤ n → left tokens j ≤ m → turns n p y j ≡ turns m p y j)
      → go_on (turns n p) x i e ≡ go_on (turns m p) x i e
  both n m i x (Tree y j) r h g same = same y j (fewer i j n h r) (fewer i j m g r)
  both n m i x (No Nothing) r h g same = refl
  both n m i x (No TooDeep) r h g same = refl

  pub same_turns : (n m : ℕ) (x : A) (i : ℕ) → left tokens i ≤ n → left tokens i ≤ m → turns n p x i ≡ turns m p x i
  unfolding turns
  same_turns zero m x i h g = sym (turns_none p x i m ((needs x).at i (none_left i h)))
  same_turns (suc n) zero x i h g = turns_none p x i (suc n) ((needs x).at i (none_left i g))
  same_turns (suc n) (suc m) x i h g =
      let h' : left tokens i ≤ n + 1 = omega arith in
      let g' : left tokens i ≤ m + 1 = omega arith in
      both n m i x (p x i) ((rises x).at i) h' g' (λ y j. same_turns n m y j)

  after : (n i : ℕ) (x y : A) (j : ℕ) (e : End A) → EndsFrom (i + 1) e → left tokens i ≤ n + 1 → p x i ≡ e
      → ((z : A) (k : ℕ) → left tokens k ≤ n → turns n p z k ≡ Tree y j → p y j ≡ No Nothing)
      → go_on (turns n p) x i e ≡ Tree y j → p y j ≡ No Nothing
  after n i x y j (Tree z k) r h is rest e = rest z k (fewer i k n h r) e
  after n i x y j (No Nothing) r h is rest e = cc
  after n i x y j (No TooDeep) r h is rest e = cc

  pub ends_at_nothing : (n : ℕ) (x y : A) (i j : ℕ) → left tokens i ≤ n → turns n p x i ≡ Tree y j → p y j ≡ No Nothing
  unfolding turns
  ends_at_nothing zero x y i j h e = let here : p x i ≡ No Nothing = (needs x).at i (none_left i h) in cc
  ends_at_nothing (suc n) x y i j h e =
      let h' : left tokens i ≤ n + 1 = omega arith in
      after n i x y j (p x i) ((rises x).at i) h' refl (λ z k. ends_at_nothing n z y k j) e
