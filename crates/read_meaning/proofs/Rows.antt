-- The meaning computed for four small pieces: 0 comes to 5 in two steps; 1 reads 0 and adds 10; 2 reads 1 and 0, and 1 once more; 3 reads
-- itself. An outcome is a number with its steps, and 0 is the end of a piece that reads one which is not before it.
use Rattle.std.proofs.Common.{◌≡◌, ℕ, zero, suc, ◌+◌, [], ◌∷◌, refl}
use Rattle.settle_core.specs.Meant.{outcomes_below, reads}
use Rattle.settle_core.specs.declared.next_of.NextOf.TheVariants.{Read, Ends}
use Rattle.read_trees.specs.Trees.{Goes, Pays, Reads, pays}
use Rattle.read_trees.specs.Runs.{Closed}
use Rattle.read_meaning.specs.Pieces.{Defined, next_of, plain}

abbrev piece_of : ℕ → Closed (ℕ × ℕ) ℕ
piece_of zero = pays 2 (Goes 5)
piece_of (suc zero) = Reads 0 (λ a. Pays (Goes (a.0 + 10)))
piece_of (suc (suc zero)) = Reads 1 (λ a. Reads 0 (λ b. Reads 1 (λ c. Pays (Goes (a.0 + b.0 + c.0)))))
piece_of k = Pays (Reads k (λ a. Goes 1))

abbrev four : Defined (ℕ × ℕ) ℕ
four = record { pieces = 4; piece = piece_of; broken = 0; finish = λ b n. (b, n); steps = λ o. o.1; counted = λ b n. refl }

four_in_order : outcomes_below (plain four) 4 ≡ (5, 2) ∷ (15, 1) ∷ (35, 1) ∷ (0, 1) ∷ []
four_in_order = refl

-- each piece that is read stands once, where it is first read; a piece that is not before the reader is not read
two_reads_two : reads (plain four) 2 ≡ 1 ∷ 0 ∷ []
unfolding reads
two_reads_two = refl

three_reads_none : reads (plain four) 3 ≡ []
unfolding reads
three_reads_none = refl

first_read : next_of four 2 [] ≡ Read (record { 0 = 1 })
first_read = refl

-- by what it has taken, and nothing else
second_read : next_of four 2 ((1, (100, 7)) ∷ []) ≡ Read (record { 0 = 0 })
second_read = refl

all_taken : next_of four 2 ((1, (100, 7)) ∷ (0, (1, 1)) ∷ []) ≡ Ends (201, 1)
all_taken = refl

no_read_of_itself : next_of four 3 [] ≡ Ends (0, 1)
no_read_of_itself = refl
