-- Trees of pieces as a meaning of the machine of parked tasks.
use Rattle.std.specs.Prelude.{◌≡◌, ℕ, ◌≤◌, List, [], slice_get, length, false, ltb}
use Rattle.settle_core.specs.Meant.{Meant, reads}
use Rattle.settle_core.specs.declared.next_of.NextOf.{NextOf}
use Rattle.settle_core.specs.declared.next_of.NextOf.TheVariants.{Read, Ends}
use Rattle.settle_core.specs.Next.{taken_outcome, firsts}
use Rattle.read_trees.specs.Walks.{Walks}
use Rattle.read_trees.specs.Runs.{Closed, Came, Ended, Lacks, run, reads_of, below}

-- What a language gives: O is what a piece comes to, B what its tree ends with
pub record Defined (O B : Type 0) : Type 0 where
  -- how many pieces there are
  pub pieces : ℕ
  -- what is to do for each
  pub piece : ℕ → Closed O B
  -- how a piece ends that reads one which is not before it
  pub broken : B
  -- the outcome of an end with its steps
  pub finish : B → ℕ → O
  -- the steps of an outcome
  pub steps : O → ℕ
  pub counted : (b : B) (n : ℕ) → steps (finish b n) ≡ n

module _ {O B : Type 0} (d : Defined O B) where
  -- the tree of a piece. It reads pieces before it alone.
  abbrev pub tree : ℕ → Closed O B
  tree k = below k d.broken (d.piece k)

  -- the outcome of what a tree came to. Where all pieces before it are known it has ended.
  abbrev pub outcome_of : Came B → O
  outcome_of (Ended b n) = d.finish b n
  outcome_of (Lacks j n) = d.finish d.broken n

  -- what a piece does next, by what its tree came to
  abbrev pub next_after : Came B → NextOf O
  next_after (Ended b n) = Ends (d.finish b n)
  next_after (Lacks j n) = Read (record { 0 = j })

  -- what a piece does next, where it has taken these outcomes
  abbrev pub next_of : ℕ → List (ℕ × O) → NextOf O
  next_of k taken = next_after (run (taken_outcome taken) (tree k))

  -- the meaning, with no word of tasks
  abbrev pub plain : Meant (Unit {0}) O
  plain = record {
    pieces = d.pieces;
    reads_over = λ k before. reads_of (slice_get before) [] (tree k);
    outcome_over = λ k before. outcome_of (run (slice_get before) (tree k));
    is_task = λ k t. Unit {0};
    taken = λ t. 0;
    advanced = λ t. false;
    task_steps = λ t. 0;
    outcome_steps = d.steps;
  }

  -- Tasks: `list` is what one has taken, `steps` the steps that it has had, and `Left` what is left of its piece.
  module _ {T : Type 0} (list : T → List (ℕ × O)) (steps : T → ℕ) (Left : ℕ → T → Closed O B → Type 0) where
    -- It has taken the first of the reads of its piece, with their outcomes in the fold, and what is left is what the tree leaves there.
    pub record IsTask (k : ℕ) (t : T) : Type 0 where
      pub rest : Closed O B
      pub left : Left k t rest
      pub walks : Walks (taken_outcome (list t)) (tree k) rest (steps t)
      pub prefix : list t ≡ firsts plain k (length (list t))
      pub within : length (list t) ≤ length (reads plain k)

    -- the meaning with these tasks
    abbrev pub meant_by : Meant T O
    meant_by = record {
      pieces = d.pieces;
      reads_over = λ k before. reads_of (slice_get before) [] (tree k);
      outcome_over = λ k before. outcome_of (run (slice_get before) (tree k));
      is_task = IsTask;
      taken = λ t. length (list t);
      advanced = λ t. ltb 0 (length (list t));
      task_steps = steps;
      outcome_steps = d.steps;
    }
