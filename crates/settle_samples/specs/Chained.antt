-- A chain of pieces, each of which reads the two before it and comes to their sum and one more.
use Rattle.std.specs.Prelude.{ℕ, zero, suc, ◌+◌, ◌%◌, ◌^◌, ◌≤◌, List, [], ◌∷◌, slice_index, ltb, Option, None, Some}
use Rattle.settle_core.specs.Meant.{Meant}
use Rattle.settle_core.specs.declared.next_of.NextOf.{NextOf}
use Rattle.settle_core.specs.declared.next_of.NextOf.TheVariants.{Read, Ends}
use Rattle.settle_core.specs.Next.{taken_outcome}

abbrev pub chain_reads : ℕ → List ℕ
chain_reads zero = []
chain_reads (suc zero) = 0 ∷ []
chain_reads (suc (suc k)) = suc k ∷ k ∷ []

abbrev pub one_more : ℕ → ℕ
one_more o = (o + 1) % 2 ^ 64

abbrev pub sum_and_one : ℕ → ℕ → ℕ
sum_and_one a b = one_more ((a + b) % 2 ^ 64)

abbrev pub chain_outcome : ℕ → List ℕ → ℕ
chain_outcome zero before = 1
chain_outcome (suc zero) before = one_more (slice_index before 0)
chain_outcome (suc (suc k)) before = sum_and_one (slice_index before (suc k)) (slice_index before k)

-- a task is the number of the reads that it has taken, and has had as many steps; an outcome has had two
abbrev pub chain_of : ℕ → Meant ℕ ℕ
chain_of n = record {
  pieces = n;
  reads_over = λ k before. chain_reads k;
  outcome_over = chain_outcome;
  is_task = λ k t. (t ≤ k) × (t ≤ 2);
  taken = λ t. t;
  advanced = λ t. ltb 0 t;
  task_steps = λ t. t;
  outcome_steps = λ o. 2;
}

abbrev pub read_it : ℕ → (ℕ → NextOf ℕ) → Option ℕ → NextOf ℕ
read_it j goes None = Read (record { 0 = j })
read_it j goes (Some o) = goes o

abbrev pub chain_next : ℕ → List (ℕ × ℕ) → NextOf ℕ
chain_next zero taken = Ends 1
chain_next (suc zero) taken = read_it 0 (λ a. Ends (one_more a)) (taken_outcome taken 0)
chain_next (suc (suc k)) taken = read_it (suc k) (λ a. read_it k (λ b. Ends (sum_and_one a b)) (taken_outcome taken k)) (taken_outcome taken (suc k))
