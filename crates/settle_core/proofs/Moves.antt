-- What one step makes of a piece, in a sound state: a sound piece, and a step more.
use Rattle.std.proofs.Common.{◌≡◌, ℕ, ◌+◌, ◌*◌, ◌<◌, ◌≤◌, List, [], ◌∷◌, ◌++◌, length, length-append, get_or, slice_get, Bool, true, false, ltb, lt-ltb, if◌then◌else◌, ◌==◌, is_some, Option, Some, None, refl, sym, ap, ◌∙◌, subst, arith, ⊎_elim}
use Rattle.std.proofs.lemmas.Bool.{le-ltb, eqb-true}
use Rattle.cxx_base.specs.declared.number.PieceNo.{PieceNo}
use Rattle.settle_core.specs.Meant.{Meant, Lawful, outcome, reads}
use Rattle.settle_core.specs.Next.{NextOf, Read, Ends, IsNext}
use Rattle.settle_core.specs.State.{PieceState, Fresh, Held, Parked, Settled, CoreStep, Claim, Advance, Park, Resume, Settle, settled_at, IsSettledAt, outcome_in}
use Rattle.settle_core.specs.Steps.{named, after_advance, after_park, after_resume, after_settle, made}
use Rattle.settle_core.specs.Sound.{IsSoundTask, IsSoundPark, IsSound, Sound}
use Rattle.settle_core.specs.Bound.{idle}
use Rattle.settle_core.proofs.Options.{some_injective, none_is_no_some, from_map}
use Rattle.settle_core.proofs.Tasks.{front_length, takes_more, is_advanced, next_cases}

pub one_at_most : (b : Bool) → (if b then 1 else 0) ≤ 1
one_at_most true = omega arith
one_at_most false = omega arith

module _ {T O : Type 0} (m : Meant T O) (s : List (PieceState O)) where
  -- 2 for a task that has taken n reads and whose next read is settled
  abbrev pub bonus : ℕ → ℕ → ℕ
  bonus k n = if ltb n (length (reads m k)) then (if is_some (settled_at s (get_or (reads m k) n 0)) then 2 else 0) else 0

  -- The most steps that a piece can have had, where each Park on a settled piece counts 2 less: a claim, an Advance for each read taken, a
  -- Park and a Resume for each of these and for the next one where that is settled, and an Advance without a read
  abbrev pub spent : ℕ → PieceState O → ℕ
  spent k Fresh = 0
  spent k (Held worker taken mark) = 1 + 3 * length taken + (if mark then 1 else 0) + bonus k (length taken)
  spent k (Parked taken mark on) = 2 + 3 * length taken + (if mark then 1 else 0)
  spent k (Settled o) = 3 + 3 * length (reads m k)

module _ {T O : Type 0} (m : Meant T O) (s : List (PieceState O)) (sound : Sound m s) where
  -- what a settled piece has is its outcome in the fold
  pub settled_outcome : (j : ℕ) (o : O) → settled_at s j ≡ Some o → o ≡ outcome m j
  settled_outcome j o e = in_place (slice_get s j) refl e
    where
      in_place : (p : Option (PieceState O)) → slice_get s j ≡ p → outcome_in p ≡ Some o → o ≡ outcome m j
      in_place None h e = absurd (none_is_no_some o e)
      in_place (Some Fresh) h e = absurd (none_is_no_some o e)
      in_place (Some (Held w taken mark)) h e = absurd (none_is_no_some o e)
      in_place (Some (Parked taken mark on)) h e = absurd (none_is_no_some o e)
      in_place (Some (Settled u)) h e = sym (some_injective u o e) ∙ sound.each j (Settled u) h

module _ {T O : Type 0} (m : Meant T O) (lawful : Lawful m) (next : ℕ → List (ℕ × O) → NextOf O) (law : IsNext m next) (s : List (PieceState O)) (sound : Sound m s) (k : ℕ) (inside : k < m.pieces) where
  -- q is what a step with i idle Parks makes of p
  pub record Moved (i : ℕ) (p q : PieceState O) : Type 0 where
    pub is_sound : IsSound m s k q
    pub more : spent m s k p + 1 ≤ spent m s k q + 2 * i

  bonus_ends : (n : ℕ) → n ≡ length (reads m k) → bonus m s k n ≡ 0
  bonus_ends n e = ap (λ b. if b then (if is_some (settled_at s (get_or (reads m k) n 0)) then 2 else 0) else 0) (le-ltb n (length (reads m k)) (omega arith))

  bonus_settled : (n : ℕ) → n < length (reads m k) → IsSettledAt s (get_or (reads m k) n 0) → bonus m s k n ≡ 2
  bonus_settled n l e = ap (λ b. if b then (if is_some (settled_at s (get_or (reads m k) n 0)) then 2 else 0) else 0) (lt-ltb n (length (reads m k)) l)
      ∙ ap (λ b. if b then 2 else 0) e

  bonus_idle : (n j : ℕ) → j ≡ get_or (reads m k) n 0 → bonus m s k n ≤ 2 * (if is_some (settled_at s j) then 1 else 0)
  bonus_idle n j e = subst (λ (i : ℕ). bonus m s k n ≤ 2 * (if is_some (settled_at s i) then 1 else 0)) (sym e) (few (ltb n (length (reads m k))) (is_some (settled_at s (get_or (reads m k) n 0))))
    where
      few : (a b : Bool) → (if a then (if b then 2 else 0) else 0) ≤ 2 * (if b then 1 else 0)
      few true true = omega arith
      few true false = omega arith
      few false true = omega arith
      few false false = omega arith

  claims : (worker : ℕ) → Moved 0 Fresh (Held worker [] false)
  claims worker = record {
    is_sound = record { count = 0; within = omega arith; prefix = refl; settled = λ i l. absurd (omega arith); marked = λ _. refl };
    more = omega arith;
  }

  module _ (worker : ℕ) (taken : List (ℕ × O)) (mark : Bool) (t : IsSoundTask m s k taken mark) where
    abbrev j : ℕ
    j = get_or (reads m k) t.count 0

    takes : (o : O) → settled_at s j ≡ Some o → t.count < length (reads m k) → Moved 0 (Held worker taken mark) (Held worker (taken ++ (j, o) ∷ []) true)
    takes o e l = let here : IsSettledAt s j = ap is_some e in record {
      is_sound = subst (λ (x : O). IsSoundTask m s k (taken ++ (j, x) ∷ []) true) (sym (settled_outcome m s sound j o e)) (takes_more m s k taken mark t l here);
      more = let n = front_length m k taken t.count t.within t.prefix in
          let b : bonus m s k (length taken) ≡ 2 = ap (bonus m s k) n ∙ bonus_settled t.count l here in
          let f = one_at_most mark in
          let a : length (taken ++ (j, o) ∷ []) ≡ length taken + 1 = length-append taken ((j, o) ∷ []) in
          omega arith;
    }

    ends : mark ≡ false → t.count ≡ length (reads m k) → Moved 0 (Held worker taken mark) (Held worker taken true)
    ends e l = record { is_sound = is_advanced m s k taken mark t l; more = let f : if◌then◌else◌ {A = ℕ} mark 1 0 ≡ 0 = ap (λ b. if◌then◌else◌ {A = ℕ} b 1 0) e in omega arith }

    ends_by : (b : Bool) → mark ≡ b → t.count ≡ length (reads m k) → (q : PieceState O) → after_advance s worker taken b (Ends (outcome m k)) ≡ Some q → Moved 0 (Held worker taken mark) q
    ends_by true h l q e = absurd (none_is_no_some q e)
    ends_by false h l q e = subst (Moved 0 (Held worker taken mark)) (some_injective (Held worker taken true) q e) (ends h l)

    advances : (q : PieceState O) → after_advance s worker taken mark (next k taken) ≡ Some q → Moved 0 (Held worker taken mark) q
    advances q e = ⊎_elim
        (λ r. let f = from_map (λ o. Held worker (taken ++ (j, o) ∷ []) true) (settled_at s j) q (sym (ap (after_advance s worker taken mark) r.0) ∙ e) in
        subst (Moved 0 (Held worker taken mark)) f.2 (takes f.0 f.1 r.1))
        (λ r. ends_by mark refl r.1 q (sym (ap (after_advance s worker taken mark) r.0) ∙ e))
        (next_cases m k taken t.count t.within t.prefix next law inside)

    parks_on : (on : PieceNo) → on.0 ≡ j → t.count < length (reads m k) → Moved (if is_some (settled_at s on.0) then 1 else 0) (Held worker taken mark) (Parked taken mark on)
    parks_on on e l = record {
      is_sound = record { task = t; has_next = l; is_next = e; below = subst (λ (i : ℕ). i < k) (sym e) (lawful.below k t.count inside l) };
      more = let n = front_length m k taken t.count t.within t.prefix in
          let b : bonus m s k (length taken) ≤ 2 * (if is_some (settled_at s on.0) then 1 else 0) = subst (λ (i : ℕ). bonus m s k i ≤ 2 * (if is_some (settled_at s on.0) then 1 else 0)) (sym n) (bonus_idle t.count on.0 e) in
          omega arith;
    }

    parks : (on : PieceNo) (q : PieceState O) → after_park on taken mark (next k taken) ≡ Some q → Moved (if is_some (settled_at s on.0) then 1 else 0) (Held worker taken mark) q
    parks on q e = ⊎_elim
        (λ r. let f : after_park on taken mark (Read (record { 0 = j })) ≡ Some q = sym (ap (after_park on taken mark) r.0) ∙ e in
        chosen (j == on.0) refl f r.1)
        (λ r. absurd (none_is_no_some q (sym (ap (after_park on taken mark) r.0) ∙ e)))
        (next_cases m k taken t.count t.within t.prefix next law inside)
      where
        chosen : (b : Bool) → (j == on.0) ≡ b → (if b then Some (Parked taken mark on) else None) ≡ Some q → t.count < length (reads m k) → Moved (if is_some (settled_at s on.0) then 1 else 0) (Held worker taken mark) q
        chosen true h f l = subst (Moved (if is_some (settled_at s on.0) then 1 else 0) (Held worker taken mark)) (some_injective (Parked taken mark on) q f) (parks_on on (sym (eqb-true j on.0 h)) l)
        chosen false h f l = absurd (none_is_no_some q f)

    settles_by : (b : Bool) → mark ≡ b → t.count ≡ length (reads m k) → (q : PieceState O) → after_settle b (Ends (outcome m k)) ≡ Some q → Moved 0 (Held worker taken mark) q
    settles_by true h l q e = subst (Moved 0 (Held worker taken mark)) (some_injective (Settled (outcome m k)) q e) record {
      is_sound = refl;
      more = let n = front_length m k taken t.count t.within t.prefix in
          let b : bonus m s k (length taken) ≡ 0 = bonus_ends (length taken) (n ∙ l) in
          let f : if◌then◌else◌ {A = ℕ} mark 1 0 ≡ 1 = ap (λ b. if◌then◌else◌ {A = ℕ} b 1 0) h in omega arith;
    }
    settles_by false h l q e = absurd (none_is_no_some q e)

    settles : (q : PieceState O) → after_settle mark (next k taken) ≡ Some q → Moved 0 (Held worker taken mark) q
    settles q e = ⊎_elim
        (λ r. absurd (none_is_no_some q (sym (ap (after_settle mark) r.0) ∙ e)))
        (λ r. settles_by mark refl r.1 q (sym (ap (after_settle mark) r.0) ∙ e))
        (next_cases m k taken t.count t.within t.prefix next law inside)

  resumes : (worker : ℕ) (taken : List (ℕ × O)) (mark : Bool) (on : PieceNo) → IsSoundPark m s k taken mark on → (q : PieceState O) → after_resume s worker taken mark on ≡ Some q → Moved 0 (Parked taken mark on) q
  resumes worker taken mark on t q e = let f = from_map (λ o. Held worker taken mark) (settled_at s on.0) q e in subst (Moved 0 (Parked taken mark on)) f.2 record {
    is_sound = t.task;
    more = let n = front_length m k taken t.task.count t.task.within t.task.prefix in
        let h : IsSettledAt s (get_or (reads m k) t.task.count 0) = subst (λ (i : ℕ). IsSettledAt s i) t.is_next (ap is_some f.1) in
        let b : bonus m s k (length taken) ≡ 2 = ap (bonus m s k) n ∙ bonus_settled t.task.count t.has_next h in
        omega arith;
  }

  pub moves : (step : CoreStep) (p q : PieceState O) → named step ≡ k → IsSound m s k p → made next s step p ≡ Some q → Moved (idle s step) p q
  moves (Claim j worker) Fresh q is h e = subst (Moved 0 Fresh) (some_injective (Held worker [] false) q e) (claims worker)
  moves (Advance j) (Held worker taken mark) q is h e = advances worker taken mark h q (ap (λ i. after_advance s worker taken mark (next i taken)) (sym is) ∙ e)
  moves (Park j on) (Held worker taken mark) q is h e = parks worker taken mark h on q (ap (λ i. after_park on taken mark (next i taken)) (sym is) ∙ e)
  moves (Resume j worker) (Parked taken mark on) q is h e = resumes worker taken mark on h q e
  moves (Settle j) (Held worker taken mark) q is h e = settles worker taken mark h q (ap (λ i. after_settle mark (next i taken)) (sym is) ∙ e)
  moves step p q is h e = absurd (none_is_no_some q e)
