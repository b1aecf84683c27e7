-- Pieces without reads, each of which comes to its number.
use Rattle.std.specs.Prelude.{◌≡◌, ℕ, suc, ◌<◌, ◌^◌, List, [], false}
use Rattle.std.proofs.Common.{arith, refl, ap}
use Rattle.settle_core.specs.Meant.{Meant, Lawful, outcome, reads}
use Rattle.settle_core.specs.declared.next_of.NextOf.{NextOf}
use Rattle.settle_core.specs.declared.next_of.NextOf.TheVariants.{Read, Ends}
use Rattle.settle_core.specs.Next.{IsNext}

abbrev pub pieces_without_reads : ℕ → Meant ℕ ℕ
pieces_without_reads n = record {
  pieces = n;
  reads_over = λ k before. [];
  outcome_over = λ k before. k;
  is_task = λ k t. t ≡ 0;
  taken = λ t. t;
  advanced = λ t. false;
  task_steps = λ t. t;
  outcome_steps = λ o. 1;
}

pub lawful_without_reads : (n : ℕ) → n < 2 ^ 32 → Lawful (pieces_without_reads n)
unfolding reads
lawful_without_reads n small = record {
  small = small;
  below = λ k i inside l. absurd (omega arith);
  once = λ k i j inside l w. absurd (omega arith);
  within = λ k t inside h. omega arith;
  marked = λ k t inside h l. absurd (omega arith);
  cheap = λ k t inside h. omega arith;
}

abbrev pub readless_next : ℕ → List (ℕ × ℕ) → NextOf ℕ
readless_next k taken = Ends k

read_of : ℕ → NextOf ℕ → ℕ
read_of j (Read p) = p.0
read_of j (Ends o) = suc j

no_read : (k j : ℕ) → ◌≡◌ {A = NextOf ℕ} (Ends k) (Read (record { 0 = j })) → ⊥
unfolding read_of
no_read k j e = let h : suc j ≡ j = ap (read_of j) e in omega (arith, h)

pub readless_plays : (n : ℕ) → IsNext (pieces_without_reads n) readless_next
unfolding reads outcome
readless_plays n = record { untaken = λ k j taken inside e. absurd (no_read k j e); reads_next = λ k i inside l. absurd (omega arith); ends_with = λ k inside. refl }
