-- Lemmas on known bytes, and on what is read and written a piece at a time.
use Rattle.std.proofs.Common.{◌≡◌, ℕ, ◌+◌, ◌-◌, ◌<◌, ◌≤◌, List, ◌++◌, None, Some, length, take, drop, refl, sym, ap, subst, ◌∙◌, length-append, length-drop, arith, take-append-drop, IfSome}
use Rattle.std.specs.Prelude.{Option, Err, IsErrOf}
use Rattle.std.proofs.lemmas.List.{drop-drop, take_all}
use Rattle.std.proofs.Math.Seq.{drop-append_seam, take-add}
use Rattle.std.specs.Io.KnownBytes.{Appends, Consumes, IsAtEnd}
use Rattle.std.proofs.KnownBytes.{Consumes-trans, Consumes-whole, Appends-trans}
use Rattle.io_edge.specs.Edge.{TellsOn, LosesPrefix, AppendsPrefix, Drops}
use Rattle.io_edge.specs.Gather.{LosesCount}

-- the n elements after the first i, and those after them
pub take_more_of_drop : (i n : ℕ) (xs : List ℕ) → take n (drop i xs) ++ drop (i + n) xs ≡ drop i xs
take_more_of_drop i n xs = rw (← drop-drop n i xs) (take-append-drop n (drop i xs))

-- what a slice from i to the end holds
pub rest_is : (i : ℕ) (xs : List ℕ) → take (length xs - i) (drop i xs) ≡ drop i xs
rest_is i xs = take_all (length xs - i) (drop i xs) (omega (arith, length-drop i xs))

-- what a read from memory gives is taken off what was left
pub left_after_copy : (left bytes shown given : List ℕ) (i n : ℕ) → drop i bytes ≡ left → shown ≡ bytes
    → take n given ≡ take n (take (length shown - i) (drop i shown)) → left ≡ take n given ++ drop (i + n) bytes
left_after_copy left bytes shown given i n is same copied =
    let front : take n given ≡ take n (drop i bytes) =
    copied ∙ ap (take n) (rest_is i shown) ∙ ap (λ xs. take n (drop i xs)) same in
    sym is ∙ sym (take_more_of_drop i n bytes) ∙ ap (λ xs. xs ++ drop (i + n) bytes) (sym front)

-- the error is the same one, whatever the call would have given
pub same_error : {T U E : Type 0} (e f : E) → IsErrOf {T = T} (Err e) f → IsErrOf {T = U} (Err e) f
same_error e f is = let same : e ≡ f = cc in ap Err same

-- a source that loses bytes tells its bytes still
pub TellsOn-Consumes : (a b : Option (List ℕ)) (bs : List ℕ) → Consumes a b bs → TellsOn a b
TellsOn-Consumes None b bs p = tt
TellsOn-Consumes (Some xs) None bs p = p
TellsOn-Consumes (Some xs) (Some ys) bs p = tt

-- what a step loses is lost after what was read before it
pub LosesPrefix-after : (a b c : Option (List ℕ)) (bs : List ℕ) → Consumes a b bs → LosesPrefix b c → LosesPrefix a c
LosesPrefix-after a b c bs p q = (bs ++ q.0, Consumes-trans a b c bs q.0 p q.1)

pub LosesCount-after : (a b c : Option (List ℕ)) (bs : List ℕ) (n total : ℕ)
    → length bs + n ≡ total → Consumes a b bs → LosesCount b c n → LosesCount a c total
LosesCount-after a b c bs n total e p q =
    (bs ++ q.0, omega (arith, length-append bs q.0, q.1), Consumes-trans a b c bs q.0 p q.2)

-- a source that lost more bytes than the cap had more
pub LosesCount-above : (a b : Option (List ℕ)) (n cap : ℕ) → cap < n → LosesCount a b n → IfSome a (λ xs. cap < length xs)
LosesCount-above None b n cap h p = tt
LosesCount-above (Some xs) None n cap h p = absurd p.2
LosesCount-above (Some xs) (Some ys) n cap h p =
    omega (arith, h, p.1, ap length p.2, length-append p.0 ys)

-- and what is left is past those that it lost
pub LosesCount-Drops : (a b : Option (List ℕ)) (n : ℕ) → LosesCount a b n → Drops a b n
LosesCount-Drops None b n p = tt
LosesCount-Drops (Some xs) None n p = absurd p.2
LosesCount-Drops (Some xs) (Some ys) n p =
    sym (ap (drop n) p.2 ∙ ap (λ k. drop k (p.0 ++ ys)) (sym p.1) ∙ drop-append_seam p.0 ys)

-- bytes that were appended a piece at a time
pub Appends-more : (a b c : Option (List ℕ)) (bs : List ℕ) (i n : ℕ)
    → Appends a b (take i bs) → Appends b c (take n (take (length bs - i) (drop i bs)))
    → Appends a c (take (i + n) bs)
Appends-more a b c bs i n p q =
    let next : Appends b c (take n (drop i bs)) = subst (λ rest. Appends b c (take n rest)) (rest_is i bs) q in
    subst (Appends a c) (sym (take-add i n bs)) (Appends-trans a b c (take i bs) (take n (drop i bs)) p next)

pub AppendsPrefix-more : (a b c : Option (List ℕ)) (bs : List ℕ) (i : ℕ) → i ≤ length bs
    → Appends a b (take i bs) → AppendsPrefix b c (take (length bs - i) (drop i bs)) → AppendsPrefix a c bs
AppendsPrefix-more a b c bs i h p q =
    let within : q.0 ≤ length (drop i bs) = subst (λ rest. q.0 ≤ length rest) (rest_is i bs) q.1 in
    (i + q.0, omega (arith, within, length-drop i bs), Appends-more a b c bs i q.0 p q.2)

-- ---- from the words of the steps to those of the whole

pub TellsOn-LosesPrefix : (a b : Option (List ℕ)) → LosesPrefix a b → TellsOn a b
TellsOn-LosesPrefix a b p = TellsOn-Consumes a b p.0 p.1

-- all that was left was read
pub whole_of_Consumes : (a b : Option (List ℕ)) (bs : List ℕ) → Consumes a b bs → IsAtEnd b → IfSome a (λ xs. bs ≡ xs)
whole_of_Consumes a b bs p q = Consumes-whole a b bs (λ xs. bs ≡ xs) p q refl

pub length_of_Consumes : (a b : Option (List ℕ)) (bs : List ℕ) (cap : ℕ)
    → Consumes a b bs → IsAtEnd b → length bs ≤ cap → IfSome a (λ xs. length xs ≤ cap)
length_of_Consumes a b bs cap p q h = Consumes-whole a b bs (λ xs. length xs ≤ cap) p q h
