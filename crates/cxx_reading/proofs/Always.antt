-- Rules that always read, or are too deep.
use Rattle.std.proofs.Common.{ℕ, zero, suc, Bool, true, false, if◌then◌else◌, nat_lt, List}
use Rattle.cxx_reading.specs.Extents.{IsNothing, Reads}
use Rattle.cxx_reading.specs.Reading.{End, Tree, No, Nothing, TooDeep, Rule, and_then, longer, or_absent, or_none, or_empty, go_on, turns, present, optional, if_any}

pub reads_pure : {A : Type 0} (a : ℕ → A) → Reads {A = A} (λ i. Tree (a i) i)
reads_pure a = record { at = λ i g. g }

pub reads_deep : {A : Type 0} → Reads {A = A} (λ i. No TooDeep)
reads_deep = record { at = λ i g. g }

pub bound_reads : {A B : Type 0} (e : End A) (f : A → Rule B) → (IsNothing e → ⊥) → ((a : A) (j : ℕ) → IsNothing (f a j) → ⊥) → IsNothing (and_then e f) → ⊥
bound_reads (Tree a j) f h g n = g a j n
bound_reads (No Nothing) f h g n = h n
bound_reads (No TooDeep) f h g n = n

pub reads_bind : {A B : Type 0} (p : Rule A) (f : ℕ → A → Rule B) → Reads p → ((i : ℕ) (a : A) → Reads (f i a)) → Reads {A = B} (λ i. and_then (p i) (f i))
reads_bind p f h g = record { at = λ i n. bound_reads (p i) (f i) (h.at i) (λ a j. (g i a).at j) n }

-- a choice reads where one of its forms does
either : {A : Type 0} (b : Bool) (x y : A) (i j : ℕ) → IsNothing (if b then Tree y j else Tree x i) → ⊥
either true x y i j n = n
either false x y i j n = n

first_reads : {A : Type 0} (x y : End A) → (IsNothing x → ⊥) → IsNothing (longer x y) → ⊥
first_reads (No Nothing) y h n = h tt
first_reads (No TooDeep) y h n = n
first_reads (Tree a i) (No Nothing) h n = n
first_reads (Tree a i) (No TooDeep) h n = n
first_reads (Tree a i) (Tree b j) h n = either (nat_lt i j) a b i j n

second_reads : {A : Type 0} (x y : End A) → (IsNothing y → ⊥) → IsNothing (longer x y) → ⊥
second_reads (No Nothing) y h n = h n
second_reads (No TooDeep) y h n = n
second_reads (Tree a i) (No Nothing) h n = n
second_reads (Tree a i) (No TooDeep) h n = n
second_reads (Tree a i) (Tree b j) h n = either (nat_lt i j) a b i j n

pub reads_first : {A : Type 0} (p q : Rule A) → Reads p → Reads {A = A} (λ i. longer (p i) (q i))
reads_first p q h = record { at = λ i n. first_reads (p i) (q i) (h.at i) n }

pub reads_second : {A : Type 0} (p q : Rule A) → Reads q → Reads {A = A} (λ i. longer (p i) (q i))
reads_second p q h = record { at = λ i n. second_reads (p i) (q i) (h.at i) n }

absent : {A : Type 0} (i : ℕ) (e : End A) → IsNothing (or_absent e i) → ⊥
absent i (Tree a j) n = n
absent i (No Nothing) n = n
absent i (No TooDeep) n = n

pub reads_present : {A : Type 0} (p : Rule A) → Reads (present p)
unfolding present
reads_present p = record { at = λ i n. absent i (p i) n }

none : {A : Type 0} (i : ℕ) (e : End A) → IsNothing (or_none e i) → ⊥
none i (Tree a j) n = n
none i (No Nothing) n = n
none i (No TooDeep) n = n

pub reads_optional : {A : Type 0} (p : Rule A) → Reads (optional p)
unfolding optional
reads_optional p = record { at = λ i n. none i (p i) n }

empty : {A : Type 0} (i : ℕ) (e : End (List A)) → IsNothing (or_empty e i) → ⊥
empty i (Tree a j) n = n
empty i (No Nothing) n = n
empty i (No TooDeep) n = n

pub reads_if_any : {A : Type 0} (p : Rule (List A)) → Reads (if_any p)
unfolding if_any
reads_if_any p = record { at = λ i n. empty i (p i) n }

went : {A : Type 0} (again : A → Rule A) (x : A) (i : ℕ) (e : End A) → ((y : A) (j : ℕ) → IsNothing (again y j) → ⊥) → IsNothing (go_on again x i e) → ⊥
went again x i (Tree y j) h n = h y j n
went again x i (No Nothing) h n = n
went again x i (No TooDeep) h n = n

pub turns_read : {A : Type 0} (n : ℕ) (p : A → Rule A) (x : A) (i : ℕ) → IsNothing (turns n p x i) → ⊥
unfolding turns
turns_read zero p x i none = none
turns_read (suc n) p x i none = went (turns n p) x i (p x i) (λ y j. turns_read n p y j) none

pub reads_turns : {A : Type 0} (n : ℕ) (p : A → Rule A) (x : A) → Reads (turns n p x)
reads_turns n p x = record { at = λ i none. turns_read n p x i none }

pub reads_repeated : {A : Type 0} (n : ℕ → ℕ) (p : A → Rule A) (x : A) → Reads {A = A} (λ i. turns (n i) p x i)
reads_repeated n p x = record { at = λ i none. turns_read (n i) p x i none }

pub ruleset always_reads = (reads_pure, reads_deep, reads_bind, reads_first, reads_second, reads_present, reads_optional, reads_if_any, reads_turns, reads_repeated)
