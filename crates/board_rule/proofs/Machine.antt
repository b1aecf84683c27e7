-- Where steps of the machine of parked tasks lead: one step of a piece, and the steps that a store stands for which settles a piece or
-- parks it.
use Rattle.std.proofs.Common.{◌≡◌, ◌≢◌, ℕ, zero, suc, ◌+◌, ◌<◌, ◌≤◌, List, [], ◌∷◌, ◌++◌, length, if◌then◌else◌, slice_get, slice_set, Bool, true, false, Some, None, eq-eqb, sym, refl, ap, ◌∙◌, subst, arith}
use Rattle.std.specs.Option.{option_map}
use Rattle.cxx_base.specs.declared.number.PieceNo.{PieceNo}
use Rattle.settle_core.specs.Meant.{Meant, Lawful, outcome, reads}
use Rattle.settle_core.specs.declared.next_of.NextOf.{NextOf}
use Rattle.settle_core.specs.declared.next_of.NextOf.TheVariants.{Ends}
use Rattle.settle_core.specs.declared.piece_state.PieceState.{PieceState}
use Rattle.settle_core.specs.declared.piece_state.PieceState.TheVariants.{Fresh, Held, Parked}
use Rattle.settle_core.specs.declared.core_step.CoreStep.{CoreStep}
use Rattle.settle_core.specs.declared.core_step.CoreStep.TheVariants.{Claim, Advance, Park, Resume, Settle}
use Rattle.settle_core.specs.Next.{IsNext, firsts}
use Rattle.settle_core.specs.State.{outcome_in, settled_at}
use Rattle.settle_core.specs.Steps.{option_bind, named, made, after_advance, after_park, after_settle, stepped, replayed}
use Rattle.settle_core.proofs.Options.{some_injective, from_bind}
use Rattle.settle_core.proofs.Tasks.{front_more}
use Rattle.board_rule.specs.Maps.{put_at}
use Rattle.board_rule.specs.Stages.{Stage, untouched, worked, waiting, ended, IsEnded, state_of, states, LeadsBy, Reached}
use Rattle.board_rule.specs.Standing.{next_read}
use Rattle.board_rule.specs.Kinds.{advances_then, advances_left}
use Rattle.board_rule.proofs.Maps.{by_same, put_here, put_else, values_at, values_same, values_set, values_all}

module _ {O : Type 0} (next : ℕ → List (ℕ × O) → NextOf O) where
  pub replayed_both : (before after : List CoreStep) (s t u : List (PieceState O)) → replayed next s before ≡ Some t → replayed next t after ≡ Some u → replayed next s (before ++ after) ≡ Some u
  replayed_both [] after s t u e h = ap (λ x. replayed next x after) (some_injective s t e) ∙ h
  replayed_both (x ∷ xs) after s t u e h = let v = from_bind (λ v. replayed next v xs) (stepped next s x) t e in
      ap (λ o. option_bind o (λ w. replayed next w (xs ++ after))) v.1 ∙ replayed_both xs after v.0 t u v.2 h

  -- a step of the piece that it names
  stepped_to : (s : List (PieceState O)) (step : CoreStep) (p q : PieceState O) → slice_get s (named step) ≡ Some p → made next s step p ≡ Some q → stepped next s step ≡ Some (slice_set s (named step) q)
  stepped_to s step p q e h = ap (λ o. option_bind o (λ x. option_map (slice_set s (named step)) (made next s step x))) e ∙ ap (option_map (slice_set s (named step))) h

module _ {T O : Type 0} (m : Meant T O) where
  pub nothing_done : (f : ℕ → Stage) → ((k : ℕ) → f k ≡ untouched) → Reached m f
  nothing_done f h next law = ([], ap Some (sym (values_all Fresh m.pieces) ∙ values_same (λ _. Fresh) (λ k. state_of m k (f k)) m.pieces (λ k l. sym (ap (state_of m k) (h k)))))

  pub reached_on : (steps : List CoreStep) (f g : ℕ → Stage) → Reached m f → LeadsBy m steps f g → Reached m g
  reached_on steps f g r leads next law = let x = r next law in (x.0 ++ steps, replayed_both next x.0 steps _ (states m f) (states m g) x.1 (leads next law))

  -- no stage changes
  stays : (f g : ℕ → Stage) → ((j : ℕ) → g j ≡ f j) → LeadsBy m [] f g
  stays f g e next law = ap Some (values_same (λ k. state_of m k (f k)) (λ k. state_of m k (g k)) m.pieces (λ k l. sym (ap (state_of m k) (e k))))

  pub still : (f g : ℕ → Stage) (k : ℕ) (p : Stage) → f k ≡ p → g k ≡ p → ((j : ℕ) → j ≢ k → g j ≡ f j) → LeadsBy m [] f g
  still f g k p a b h = stays f g (λ j. by_same j k (λ (q : j ≡ k). subst (λ (z : ℕ). g z ≡ f z) (sym q) (b ∙ sym a)) (λ (n : j ≢ k). h j n))

  ended_outcome : (j : ℕ) (p : Stage) → IsEnded p → outcome_in (Some (state_of m j p)) ≡ Some (outcome m j)
  ended_outcome j untouched h = absurd h
  ended_outcome j (worked i n a) h = absurd h
  ended_outcome j (waiting n a) h = absurd h
  ended_outcome j ended h = refl

  module _ (lawful : Lawful m) (k : ℕ) (inside : k < m.pieces) where
    abbrev this : PieceNo
    this = record { 0 = k }

    -- the step makes q of p in the place of k, whatever says what comes next
    abbrev Makes : (ℕ → Stage) → CoreStep → Stage → Stage → Type 0
    Makes f step p q = (next : ℕ → List (ℕ × O) → NextOf O) → IsNext m next → made next (states m f) step (state_of m k p) ≡ Some (state_of m k q)

    -- one step of the piece k, and then others
    goes : (f g : ℕ → Stage) (p q : Stage) (step : CoreStep) (steps : List CoreStep) → f k ≡ p → named step ≡ k → Makes f step p q → LeadsBy m steps (put_at f k q) g → LeadsBy m (step ∷ steps) f g
    goes f g p q step steps was names makes leads next law =
        ap (λ o. option_bind o (λ v. replayed next v steps))
        (stepped_to next (states m f) step (state_of m k p) (state_of m k q) (ap (slice_get (states m f)) names ∙ (values_at (λ j. state_of m j (f j)) m.pieces k inside ∙ ap (λ x. Some (state_of m k x)) was)) (makes next law)
        ∙ ap Some (ap (λ z. slice_set (states m f) z (state_of m k q)) names ∙ (ap (λ x. slice_set (states m f) k (state_of m k x)) (sym (put_here f k q))
        ∙ values_set (λ j. state_of m j (f j)) (λ j. state_of m j (put_at f k q j)) m.pieces k inside (λ j l n. ap (state_of m j) (put_else f k q j n)))))
        ∙ leads next law

    -- q is in the place of k, and that is all
    arrived : (f g : ℕ → Stage) (q : Stage) → g k ≡ q → ((j : ℕ) → j ≢ k → g j ≡ f j) → LeadsBy m [] (put_at f k q) g
    arrived f g q here others = still (put_at f k q) g k q (put_here f k q) here (λ j n. others j n ∙ sym (put_else f k q j n))

    module _ (f : ℕ → Stage) where
      -- a read of k that has ended is settled in the state
      read_settled : (n : ℕ) → n < length (reads m k) → IsEnded (f (next_read m k n)) → settled_at (states m f) (next_read m k n) ≡ Some (outcome m (next_read m k n))
      read_settled n l h = let b = lawful.below k n inside l in ap outcome_in (values_at (λ j. state_of m j (f j)) m.pieces (next_read m k n) (omega arith)) ∙ ended_outcome (next_read m k n) (f (next_read m k n)) h

      at_end : (next : ℕ → List (ℕ × O) → NextOf O) → IsNext m next → (n : ℕ) → n ≡ length (reads m k) → next k (firsts m k n) ≡ Ends (outcome m k)
      at_end next law n e = ap (λ z. next k (firsts m k z)) e ∙ law.ends_with k inside

      takes : (i n : ℕ) (a : Bool) → n < length (reads m k) → IsEnded (f (next_read m k n)) → Makes f (Advance this) (worked i n a) (worked i (suc n) true)
      takes i n a l h next law = ap (after_advance (states m f) i (firsts m k n) a) (law.reads_next k n inside l)
          ∙ ap (option_map (λ o. Held i (firsts m k n ++ (next_read m k n, o) ∷ []) true)) (read_settled n l h)
          ∙ ap (λ ts. Some (Held i ts true)) (front_more m k (firsts m k n) n (omega arith) refl l)

      finishes : (i n : ℕ) → n ≡ length (reads m k) → Makes f (Advance this) (worked i n false) (worked i n true)
      finishes i n l next law = ap (after_advance (states m f) i (firsts m k n) false) (at_end next law n l)

      waits : (i n : ℕ) (a : Bool) → n < length (reads m k) → Makes f (Park this (record { 0 = next_read m k n })) (worked i n a) (waiting n a)
      waits i n a l next law = let on : PieceNo = record { 0 = next_read m k n } in ap (after_park on (firsts m k n) a) (law.reads_next k n inside l)
          ∙ ap (λ c. if c then Some (Parked (firsts m k n) a on) else None) (eq-eqb (next_read m k n) (next_read m k n) refl)

      goes_on : (i n : ℕ) (a : Bool) → n < length (reads m k) → IsEnded (f (next_read m k n)) → Makes f (Resume this i) (waiting n a) (worked i n a)
      goes_on i n a l h next law = ap (option_map (λ o. Held i (firsts m k n) a)) (read_settled n l h)

      ends : (i n : ℕ) → n ≡ length (reads m k) → Makes f (Settle this) (worked i n true) ended
      ends i n l next law = ap (after_settle true) (at_end next law n l)

      -- a fresh piece is claimed, and a parked one
      pub claimed : (g : ℕ → Stage) (i : ℕ) → f k ≡ untouched → g k ≡ worked i 0 false → ((j : ℕ) → j ≢ k → g j ≡ f j) → LeadsBy m (Claim this i ∷ []) f g
      claimed g i was here others = goes f g untouched (worked i 0 false) (Claim this i) [] was refl (λ next law. refl) (arrived f g (worked i 0 false) here others)

      pub resumed : (g : ℕ → Stage) (i n : ℕ) (a : Bool) → n < length (reads m k) → IsEnded (f (next_read m k n)) → f k ≡ waiting n a → g k ≡ worked i n a → ((j : ℕ) → j ≢ k → g j ≡ f j) → LeadsBy m (Resume this i ∷ []) f g
      resumed g i n a l h was here others = goes f g (waiting n a) (worked i n a) (Resume this i) [] was refl (goes_on i n a l h) (arrived f g (worked i n a) here others)

    -- the reads of k are others
    read_stays : (f : ℕ → Stage) (p : Stage) (n : ℕ) → n < length (reads m k) → IsEnded (f (next_read m k n)) → IsEnded (put_at f k p (next_read m k n))
    read_stays f p n l h = subst IsEnded (sym (put_else f k p (next_read m k n) (λ q. (let b = lawful.below k n inside l in omega arith)))) h

    -- d advances in a row, by outcomes that are all there, and then other steps
    takes_all : (f g : ℕ → Stage) (i n d : ℕ) (a b : Bool) (steps : List CoreStep) → f k ≡ worked i n a → n + d ≤ length (reads m k) → ((j : ℕ) → j < n + d → IsEnded (f (next_read m k j))) → (d ≡ 0 → b ≡ a) → (0 < d → b ≡ true)
        → ((f' : ℕ → Stage) → f' k ≡ worked i (n + d) b → ((j : ℕ) → j ≢ k → f' j ≡ f j) → LeadsBy m steps f' g) → LeadsBy m (advances_then this d steps) f g
    takes_all f g i n zero a b steps was l all same up more = more f (was ∙ (λ z. worked i (e z) (sym (same refl) z))) (λ j n. refl)
      where
        e : n ≡ n + 0
        e = omega arith
    takes_all f g i n (suc d) a b steps was l all same up more = let q = worked i (suc n) true in
        goes f g (worked i n a) q (Advance this) (advances_then this d steps) was refl (takes f i n a (omega arith) (all n (omega arith)))
        (takes_all (put_at f k q) g i (suc n) d true b steps (put_here f k q) (omega arith) (λ j h. read_stays f q j (omega arith) (all j (omega arith))) (λ _. up (omega arith)) (λ _. up (omega arith))
        (λ f' here others. more f' (subst (λ (x : ℕ). f' k ≡ worked i x b) shift here) (λ j z. others j z ∙ put_else f k q j z)))
      where
        shift : suc n + d ≡ n + suc d
        shift = omega arith

    settles_now : (f g : ℕ → Stage) (i n : ℕ) → f k ≡ worked i n true → n ≡ length (reads m k) → g k ≡ ended → ((j : ℕ) → j ≢ k → g j ≡ f j) → LeadsBy m (Settle this ∷ []) f g
    settles_now f g i n was l here others = goes f g (worked i n true) ended (Settle this) [] was refl (ends f i n l) (arrived f g ended here others)

    -- a task takes the reads that are left, and its piece is settled
    pub settles_by : (f g : ℕ → Stage) (i n d : ℕ) (a : Bool) → f k ≡ worked i n a → n + d ≡ length (reads m k) → ((j : ℕ) → j < n + d → IsEnded (f (next_read m k j)))
        → g k ≡ ended → ((j : ℕ) → j ≢ k → g j ≡ f j) → LeadsBy m (advances_then this (advances_left d a) (Settle this ∷ [])) f g
    settles_by f g i n zero true was l all here others = settles_now f g i n was (omega arith) here others
    settles_by f g i n zero false was l all here others = let q = worked i n true in
        goes f g (worked i n false) q (Advance this) (Settle this ∷ []) was refl (finishes f i n (omega arith))
        (settles_now (put_at f k q) g i n (put_here f k q) (omega arith) here (λ j z. others j z ∙ sym (put_else f k q j z)))
    settles_by f g i n (suc d) a was l all here others = takes_all f g i n (suc d) a true (Settle this ∷ []) was (omega arith) all (λ q. absurd (omega arith)) (λ _. refl)
        (λ f' here' others'. settles_now f' g i (n + suc d) here' l here (λ j z. others j z ∙ sym (others' j z)))

    -- a task takes d reads more, and its piece is parked on the next
    pub parks_by : (f g : ℕ → Stage) (i n d : ℕ) (a b : Bool) → f k ≡ worked i n a → n + d < length (reads m k) → ((j : ℕ) → j < n + d → IsEnded (f (next_read m k j))) → (d ≡ 0 → b ≡ a) → (0 < d → b ≡ true)
        → g k ≡ waiting (n + d) b → ((j : ℕ) → j ≢ k → g j ≡ f j) → LeadsBy m (advances_then this d (Park this (record { 0 = next_read m k (n + d) }) ∷ [])) f g
    parks_by f g i n d a b was l all same up here others = let on : PieceNo = record { 0 = next_read m k (n + d) } in
        takes_all f g i n d a b (Park this on ∷ []) was (omega arith) all same up
        (λ f' here' others'. goes f' g (worked i (n + d) b) (waiting (n + d) b) (Park this on) [] here' refl (waits f' i (n + d) b l)
        (arrived f' g (waiting (n + d) b) here (λ j z. others j z ∙ sym (others' j z))))
