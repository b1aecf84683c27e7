-- Three pieces, of which the last reads by what it has read. Piece 1 reads piece 0, and comes to ten more. Piece 2 reads piece 0, and then
-- piece 1 where the outcome of piece 0 is odd; it comes to ten more than what it read last.
use Rattle.std.specs.Prelude.{ℕ, ◌+◌, ◌/◌, ◌%◌, ◌^◌, ◌≤◌, List, [], ◌∷◌, length, slice_index, ltb, Bool, false, if◌then◌else◌, ◌==◌, Option, None, Some}
use Rattle.settle_core.specs.Meant.{Meant}
use Rattle.settle_core.specs.declared.next_of.NextOf.{NextOf}
use Rattle.settle_core.specs.declared.next_of.NextOf.TheVariants.{Read, Ends}
use Rattle.settle_core.specs.Next.{taken_outcome}

-- whether the piece k reads piece 1 once it has read o of piece 0
abbrev pub goes_further : ℕ → ℕ → Bool
goes_further k o = if k == 2 then o % 2 == 1 else false

abbrev pub ten_more : ℕ → ℕ
ten_more o = (o + 10) % 2 ^ 64

abbrev pub three_reads : ℕ → List ℕ → List ℕ
three_reads k before = if k == 0 then [] else if goes_further k (slice_index before 0) then 0 ∷ 1 ∷ [] else 0 ∷ []

abbrev pub three_outcome : ℕ → ℕ → List ℕ → ℕ
three_outcome first k before = if k == 0 then first else ten_more (slice_index before (if goes_further k (slice_index before 0) then 1 else 0))

-- how many pieces the piece k reads
abbrev pub read_count : ℕ → ℕ → ℕ
read_count first k = length (three_reads k (first ∷ []))

-- Piece 0 comes to `first`. A task is the number of its steps, and takes a read with every fourth; an outcome has had eleven, no fewer than
-- any task
abbrev pub three_pieces : ℕ → Meant ℕ ℕ
three_pieces first = record {
  pieces = 3;
  reads_over = three_reads;
  outcome_over = three_outcome first;
  is_task = λ k t. t / 4 ≤ read_count first k;
  taken = λ t. t / 4;
  advanced = λ t. ltb 0 (t / 4);
  task_steps = λ t. t;
  outcome_steps = λ o. 11;
}

abbrev pub read_first : ℕ → (ℕ → NextOf ℕ) → Option ℕ → NextOf ℕ
read_first j goes None = Read (record { 0 = j })
read_first j goes (Some o) = goes o

abbrev pub three_next : ℕ → ℕ → List (ℕ × ℕ) → NextOf ℕ
three_next first k taken = if k == 0 then Ends first else
    read_first 0 (λ o. if goes_further k o then read_first 1 (λ p. Ends (ten_more p)) (taken_outcome taken 1) else Ends (ten_more o)) (taken_outcome taken 0)
