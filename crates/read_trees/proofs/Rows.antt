-- The words computed on small definitions. What a piece comes to is a number, or 0 where it was refused; a question is a number as well,
-- and its answer one more. A refusal is a number, here 90 and the piece.
use Rattle.std.proofs.Common.{◌≡◌, ℕ, ◌+◌, List, [], ◌∷◌, if◌then◌else◌, ◌==◌, Option, Some, None, refl}
use Rattle.read_trees.specs.Trees.{ReadTree, Goes, Pays, pays, fetched, answered, asked, and_then, handled}
use Rattle.read_trees.specs.Loops.{folded, first, each}
use Rattle.read_trees.specs.Walks.{Facts}
use Rattle.read_trees.specs.Runs.{Closed, Ended, Lacks, run, reads_of, below}

-- what an outcome has for those that read it: no outcome that can be read is 1
abbrev has : ℕ → Option ℕ
has o = if o == 1 then None else Some o

abbrev fetch : ℕ → ReadTree ℕ ℕ ℕ ℕ ℕ
fetch j = fetched (λ o. o == 0) has (λ j. 90 + j) 80 j

-- piece 0 came to 5, piece 1 to 7, piece 2 was refused, pieces 3 and 4 are not known, piece 5 came to what no piece can
abbrev some_facts : Facts ℕ
some_facts j = if j == 0 then Some 5 else if j == 1 then Some 7 else if j == 2 then Some 0 else if j == 5 then Some 1 else None

-- its questions answered, the number of them kept, a refusal as a result
abbrev settled : ReadTree ℕ ℕ ℕ ℕ ℕ → Closed ℕ (ℕ × ℕ)
settled t = handled {M = ℕ} (λ m q. Pays (Goes (q + 1, m + 1))) (λ m a. Goes (a, m)) (λ m e. Goes (e, m)) 0 t

-- the sum of two pieces, for a step
abbrev sum_of : ℕ → ℕ → ReadTree ℕ ℕ ℕ ℕ ℕ
sum_of i j = and_then (fetch i) (λ a. and_then (fetch j) (λ b. Pays (Goes (a + b))))

-- ---- ends, steps, reads

sum_is_known : run some_facts (settled (sum_of 0 1)) ≡ Ended (12, 0) 1
sum_is_known = refl

refused_piece_is_named : run some_facts (settled (sum_of 2 1)) ≡ Ended (92, 0) 0
refused_piece_is_named = refl

unfit_piece_is_told_apart : run some_facts (settled (sum_of 0 5)) ≡ Ended (80, 0) 0
unfit_piece_is_told_apart = refl

-- what stands behind a refusal is not read
nothing_behind_a_refusal : reads_of some_facts [] (settled (sum_of 2 3)) ≡ 2 ∷ []
nothing_behind_a_refusal = refl

first_unknown_is_lacked : run some_facts (settled (sum_of 3 2)) ≡ Lacks 3 0
first_unknown_is_lacked = refl

-- the first piece that is not known is the last of the reads
reads_are_in_order : reads_of some_facts [] (settled (and_then (sum_of 1 0) (λ a. sum_of 1 3))) ≡ 1 ∷ 0 ∷ 3 ∷ []
reads_are_in_order = refl

steps_before_a_lack_count : run some_facts (settled (and_then (sum_of 1 0) (λ a. pays 3 (fetch 4)))) ≡ Lacks 4 4
steps_before_a_lack_count = refl

-- ---- questions

-- each answer pays a step, and is kept with those before it
questions_are_answered_in_order : run some_facts (settled (and_then (asked 7) (λ a. and_then (asked a) (λ b. Goes (a + b))))) ≡ Ended (17, 2) 2
questions_are_answered_in_order = refl

no_question_is_left : answered (pays {Q = ℕ} {R = ℕ} {O = ℕ} {E = ℕ} 0 (asked 7)) 9 ≡ Goes 9
no_question_is_left = refl

-- ---- the guard

own_number_ends_it : run some_facts (below 1 (0, 0) (settled (sum_of 0 1))) ≡ Ended (0, 0) 0
own_number_ends_it = refl

lower_numbers_are_read : run some_facts (below 2 (0, 0) (settled (sum_of 0 1))) ≡ Ended (12, 0) 1
lower_numbers_are_read = refl

-- ---- loops

sum_of_all : run some_facts (settled (folded (λ a j. and_then (fetch j) (λ b. Pays (Goes (a + b)))) 1 (0 ∷ 1 ∷ 0 ∷ []))) ≡ Ended (18, 0) 3
sum_of_all = refl

abbrev is_seven : ℕ → ReadTree ℕ ℕ ℕ ℕ (Option ℕ)
is_seven j = and_then (fetch j) (λ a. if a == 7 then Goes (Some j) else Goes None)

abbrev or_zero : Option ℕ → ReadTree ℕ ℕ ℕ ℕ ℕ
or_zero None = Goes 0
or_zero (Some a) = Goes a

-- what stands behind the first that has it is not read
first_ends_the_loop : reads_of some_facts [] (settled (and_then (first is_seven (0 ∷ 1 ∷ 2 ∷ [])) or_zero)) ≡ 0 ∷ 1 ∷ []
first_ends_the_loop = refl

first_is_found : run some_facts (settled (and_then (first is_seven (0 ∷ 1 ∷ 2 ∷ [])) or_zero)) ≡ Ended (1, 0) 0
first_is_found = refl

nothing_is_found : run some_facts (settled (and_then (first is_seven (0 ∷ 0 ∷ [])) or_zero)) ≡ Ended (0, 0) 0
nothing_is_found = refl

abbrev two_of : List ℕ → ReadTree ℕ ℕ ℕ ℕ ℕ
two_of (a ∷ b ∷ []) = Goes (a + 10 + b)
two_of xs = Goes 0

all_are_given : run some_facts (settled (and_then (each fetch (1 ∷ 0 ∷ [])) two_of)) ≡ Ended (22, 0) 0
all_are_given = refl
