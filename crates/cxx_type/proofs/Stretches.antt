-- Runs of layers, and the layers that they stand for.
use Rattle.std.proofs.Common.{arith, ◌≡◌, ◌↔◌, ℕ, zero, suc, ◌+◌, ◌-◌, ◌<◌, ◌≤◌, List, [], ◌∷◌, ◌++◌, Option, Some, None, drop, length, replicate, slice_get, refl, sym, ap, subst, ◌∙◌}
use Rattle.std.proofs.lemmas.List.{length-append, length-replicate, drop_at}
use denote.Hole.Carrier
use Rattle.cxx_type.specs.declared.runs.Layer.{Layer}
use Rattle.std.specs.declared.alloc.Global.{Global}
use Rattle.std.specs.declared.sync.Arc.{Arc}
use Rattle.std.specs.Arc.{arc_value}
use Rattle.cxx_type.specs.declared.runs.Run.{Run, Run', out-Run, None', Some'}
use Rattle.cxx_type.specs.Layers.{Apart, Begins, BeginsWith, IsOutermost, runs_held, runs_if_any, runs_of, under_of, wide}

-- ---- layers more or less

pub longer : (l : Layer) (n m : ℕ) (rest : List (Layer × ℕ)) → wide ((l, n + m) ∷ rest) ≡ replicate m l ++ wide ((l, n) ∷ rest)
longer l n zero rest = let e : n + 0 ≡ n = omega arith in ap (λ k. replicate k l ++ wide rest) e
longer l n (suc m) rest =
    let e : n + suc m ≡ suc (n + m) = omega arith in
    ap (λ k. replicate k l ++ wide rest) e ∙ ap (λ (ls : List Layer). l ∷ ls) (longer l n m rest)

pub shorter : (l : Layer) (n : ℕ) (rest : List (Layer × ℕ)) → 0 < n → drop 1 (wide ((l, n) ∷ rest)) ≡ wide ((l, n - 1) ∷ rest)
shorter l zero rest h = absurd (omega (arith, h))
shorter l (suc n) rest h = let e : suc n - 1 ≡ n = omega arith in rw e refl

pub no_longer_than_all : (l : Layer) (n : ℕ) (rest : List (Layer × ℕ)) → n ≤ length (wide ((l, n) ∷ rest))
no_longer_than_all l n rest = omega (arith, length-append (replicate n l) (wide rest), length-replicate n l)

-- how many there are with a run more
pub length_of_run : (n : ℕ) (l : Layer) (layers : List Layer) → length (replicate n l ++ layers) ≡ n + length layers
length_of_run n l layers = omega (arith, length-append (replicate n l) layers, length-replicate n l)

-- ---- the outermost run

pub first_of : (l : Layer) (n : ℕ) (rest : List (Layer × ℕ)) → 0 < n → Some l ≡ slice_get (wide ((l, n) ∷ rest)) 0
first_of l zero rest h = absurd (omega (arith, h))
first_of l (suc n) rest h = refl

begins : (l : Layer) (runs : List (Layer × ℕ)) → Apart runs → Begins l (wide runs) → BeginsWith l runs
begins l [] apart b = b
begins l ((k, zero) ∷ rest) apart b = absurd (omega (arith, apart.0))
begins l ((k, suc n) ∷ rest) apart b = b

pub is_outermost : (l : Layer) (n : ℕ) (rest : List (Layer × ℕ)) → Apart ((l, n) ∷ rest) → IsOutermost l n (wide ((l, n) ∷ rest))
is_outermost l n rest apart =
    let e : drop n (replicate n l ++ wide rest) ≡ wide rest = drop_at (replicate n l) (wide rest) n (length-replicate n l) in
    rw e (apart.0, refl, λ b. apart.1 (begins l rest apart.2 b))

-- ---- the layers decide the runs

counts : (l : Layer) (n m : ℕ) (u v : List Layer) → (Begins l u → ⊥) → (Begins l v → ⊥) → replicate n l ++ u ≡ replicate m l ++ v → (n ≡ m) × (u ≡ v)
counts l zero zero u v not_u not_v e = (refl, e)
counts l zero (suc m) u v not_u not_v e = absurd (not_u (rw e refl))
counts l (suc n) zero u v not_u not_v e = absurd (not_v (rw (sym e) refl))
counts l (suc n) (suc m) u v not_u not_v e =
    let more = counts l n m u v not_u not_v (ap (drop 1) e) in (ap suc more.0, more.1)

alike : (l k : Layer) (n m : ℕ) (xs ys : List (Layer × ℕ)) → l ≡ k → Apart ((l, n) ∷ xs) → Apart ((k, m) ∷ ys)
    → wide ((l, n) ∷ xs) ≡ wide ((k, m) ∷ ys) → (wide xs ≡ wide ys → xs ≡ ys) → (l, n) ∷ xs ≡ (k, m) ∷ ys
alike l k n m xs ys same of_x of_y e rest =
    let P : Layer → Type 0 = λ k. Apart ((k, m) ∷ ys) → wide ((l, n) ∷ xs) ≡ wide ((k, m) ∷ ys) → (l, n) ∷ xs ≡ (k, m) ∷ ys in
    let here : P l = λ of_y e. (
    let both = counts l n m (wide xs) (wide ys) (λ b. of_x.1 (begins l xs of_x.2 b)) (λ b. of_y.1 (begins l ys of_y.2 b)) e in
    cc (both.0, rest both.1)) in
    subst P same here of_y e

pub decided : (xs ys : List (Layer × ℕ)) → Apart xs → Apart ys → wide xs ≡ wide ys → xs ≡ ys
decided [] [] of_x of_y e = refl
decided [] ((k, zero) ∷ ys) of_x of_y e = absurd (omega (arith, of_y.0))
decided [] ((k, suc m) ∷ ys) of_x of_y e = absurd (cc e)
decided ((l, zero) ∷ xs) ys of_x of_y e = absurd (omega (arith, of_x.0))
decided ((l, suc n) ∷ xs) [] of_x of_y e = absurd (cc e)
decided ((l, suc n) ∷ xs) ((k, zero) ∷ ys) of_x of_y e = absurd (omega (arith, of_y.0))
decided ((l, suc n) ∷ xs) ((k, suc m) ∷ ys) of_x of_y e =
    alike l k (suc n) (suc m) xs ys (cc e) of_x of_y e (decided xs ys of_x.2 of_y.2)

-- ---- the same, of runs as the code holds them

pub first_is : (r : Run) → Apart (runs_of r) → Some (out-Run r).layer ≡ slice_get (wide (runs_of r)) 0
unfolding out-Run denote.Hole.Carrier.out
first_is (Run' l n u) apart = first_of l n (runs_held u) apart.0

pub outermost_is : (r : Run) → Apart (runs_of r) → IsOutermost (out-Run r).layer (out-Run r).count (wide (runs_of r))
unfolding out-Run denote.Hole.Carrier.out
outermost_is (Run' l n u) apart = is_outermost l n (runs_held u) apart

pub count_within : (r : Run) → (out-Run r).count ≤ length (wide (runs_of r))
unfolding out-Run denote.Hole.Carrier.out
count_within (Run' l n u) = no_longer_than_all l n (runs_held u)

pub longer_layers : (r over : Run) (layer : Layer) (m : ℕ) → (out-Run r).layer ≡ layer
    → runs_of over ≡ ((out-Run r).layer, (out-Run r).count + m) ∷ under_of (runs_of r) → wide (runs_of over) ≡ replicate m layer ++ wide (runs_of r)
unfolding out-Run denote.Hole.Carrier.out
longer_layers (Run' l n u) over layer m same e =
    ap wide e ∙ longer l n m (runs_held u) ∙ ap (λ k. replicate m k ++ wide ((l, n) ∷ runs_held u)) same

pub longer_apart : (r over : Run) (m : ℕ) → Apart (runs_of r)
    → runs_of over ≡ ((out-Run r).layer, (out-Run r).count + m) ∷ under_of (runs_of r) → Apart (runs_of over)
unfolding out-Run denote.Hole.Carrier.out
longer_apart (Run' l n u) over m apart e =
    let some : 0 < n = apart.0 in
    subst Apart (sym e) ((let more : 0 < n + m = omega (arith, some) in more), apart.1, apart.2)

pub another_layers : (r over : Run) (layer : Layer) (m : ℕ) → runs_of over ≡ (layer, m) ∷ runs_of r
    → wide (runs_of over) ≡ replicate m layer ++ wide (runs_of r)
another_layers r over layer m e = ap wide e

pub another_apart : (r over : Run) (layer : Layer) (m : ℕ) → 0 < m → ((out-Run r).layer ≡ layer → ⊥) → Apart (runs_of r)
    → runs_of over ≡ (layer, m) ∷ runs_of r → Apart (runs_of over)
unfolding out-Run denote.Hole.Carrier.out
another_apart (Run' l n u) over layer m some other apart e = subst Apart (sym e) (some, other, apart)

pub shorter_layers : (r less : Run) → 1 < (out-Run r).count
    → runs_of less ≡ ((out-Run r).layer, (out-Run r).count - 1) ∷ under_of (runs_of r) → wide (runs_of less) ≡ drop 1 (wide (runs_of r))
unfolding out-Run denote.Hole.Carrier.out
shorter_layers (Run' l n u) less more e = let above : 1 < n = more in let some : 0 < n = omega (arith, above) in ap wide e ∙ sym (shorter l n (runs_held u) some)

pub shorter_apart : (r less : Run) → 1 < (out-Run r).count → Apart (runs_of r)
    → runs_of less ≡ ((out-Run r).layer, (out-Run r).count - 1) ∷ under_of (runs_of r) → Apart (runs_of less)
unfolding out-Run denote.Hole.Carrier.out
shorter_apart (Run' l n u) less more apart e = let above : 1 < n = more in let some : 0 < n - 1 = omega (arith, above) in subst Apart (sym e) (some, apart.1, apart.2)

pub below_layers : (r : Run) (below : Option Run) → (1 < (out-Run r).count → ⊥) → Apart (runs_of r)
    → runs_if_any below ≡ under_of (runs_of r) → wide (runs_if_any below) ≡ drop 1 (wide (runs_of r))
unfolding out-Run denote.Hole.Carrier.out
below_layers (Run' l zero u) below only apart e = absurd (omega (arith, apart.0))
below_layers (Run' l (suc zero) u) below only apart e = ap wide e
below_layers (Run' l (suc (suc n)) u) below only apart e = absurd (only (omega arith))

pub below_apart : (r : Run) (below : Option Run) → Apart (runs_of r) → runs_if_any below ≡ under_of (runs_of r) → Apart (runs_if_any below)
unfolding out-Run denote.Hole.Carrier.out
below_apart (Run' l n u) below apart e = subst Apart (sym e) apart.2

pub under_layers : (r : Run) (below : Option Run) → runs_if_any below ≡ under_of (runs_of r)
    → wide (runs_if_any below) ≡ drop (out-Run r).count (wide (runs_of r))
unfolding out-Run denote.Hole.Carrier.out
under_layers (Run' l n u) below e = ap wide e ∙ sym (drop_at (replicate n l) (wide (runs_held u)) n (length-replicate n l))

pub under_len : (r : Run) (below : Option Run) → runs_if_any below ≡ under_of (runs_of r)
    → length (wide (runs_if_any below)) + (out-Run r).count ≡ length (wide (runs_of r))
unfolding out-Run denote.Hole.Carrier.out
under_len (Run' l n u) below e =
    let same = ap (λ runs. length (wide runs)) e in
    let all = length_of_run n l (wide (runs_held u)) in
    omega (arith, same, all)

-- ---- there is one outermost run

pub no_outermost : (l : Layer) (n : ℕ) (layers : List Layer) → layers ≡ [] → IsOutermost l n layers → ⊥
no_outermost l zero layers e is = omega (arith, is.0)
no_outermost l (suc n) layers e is = cc (sym e ∙ is.1)

one_run : (l k : Layer) (n m : ℕ) (layers : List Layer) → IsOutermost l n layers → IsOutermost k m layers → n ≡ m
one_run l k zero m layers of_n of_m = absurd (omega (arith, of_n.0))
one_run l k (suc n) zero layers of_n of_m = absurd (omega (arith, of_m.0))
one_run l k (suc n) (suc m) layers of_n of_m =
    let both : l ∷ (replicate n l ++ drop (suc n) layers) ≡ k ∷ (replicate m k ++ drop (suc m) layers) = sym of_n.1 ∙ of_m.1 in
    same l k n m (drop (suc n) layers) (drop (suc m) layers) (cc both) of_n.2 of_m.2 (ap (drop 1) both)
  where
    same : (l k : Layer) (n m : ℕ) (u v : List Layer) → l ≡ k → (Begins l u → ⊥) → (Begins k v → ⊥)
        → replicate n l ++ u ≡ replicate m k ++ v → suc n ≡ suc m
    same l k n m u v e not_u not_v both =
        let P : Layer → Type 0 = λ k. (Begins k v → ⊥) → replicate n l ++ u ≡ replicate m k ++ v → suc n ≡ suc m in
        let here : P l = λ not_v both. ap suc (counts l n m u v not_u not_v both).0 in
        subst P e here not_v both

pub under_run_is : (r : Run) (layers below : List Layer) → Apart (runs_of r) → wide (runs_of r) ≡ layers
    → below ≡ drop (out-Run r).count (wide (runs_of r)) → (l : Layer) (n : ℕ) → IsOutermost l n layers → below ≡ drop n layers
under_run_is r layers below apart is e l n of_n =
    let here : IsOutermost (out-Run r).layer (out-Run r).count layers = subst (IsOutermost (out-Run r).layer (out-Run r).count) is (outermost_is r apart) in
    e ∙ ap (drop (out-Run r).count) is ∙ ap (λ k. drop k layers) (one_run (out-Run r).layer l (out-Run r).count n layers here of_n)

pub nothing_under : (n : ℕ) (layers below : List Layer) → below ≡ drop n layers → layers ≡ [] → below ≡ []
nothing_under zero layers below e none = e ∙ none
nothing_under (suc n) layers below e none = e ∙ ap (drop (suc n)) none

-- ---- runs that are compared

pub under_some : (r : Run) (under : Arc Run Global) → (out-Run r).under ≡ Some under → under_of (runs_of r) ≡ runs_of (arc_value under)
unfolding out-Run denote.Hole.Carrier.out
under_some (Run' l n None') under e = absurd (cc e)
under_some (Run' l n (Some' p run)) under e = let same : arc_value under ≡ run = cc e in ap runs_of (sym same)

pub under_none : (r : Run) → (out-Run r).under ≡ None → under_of (runs_of r) ≡ []
unfolding out-Run denote.Hole.Carrier.out
under_none (Run' l n None') e = refl
under_none (Run' l n (Some' p run)) e = absurd (cc e)

pub nonempty : (r : Run) → runs_of r ≡ [] → ⊥
nonempty (Run' l n u) e = absurd (cc e)

pub some_none : (x y : Run) (a : Arc Run Global) → (out-Run x).under ≡ Some a → (out-Run y).under ≡ None → runs_of x ≡ runs_of y → ⊥
some_none x y a of_x of_y e = nonempty (arc_value a) (sym (under_some x a of_x) ∙ ap under_of e ∙ under_none y of_y)

-- ---- layers that are compared

pub same_layers : (x y : Option Run) (m n : List Layer) → wide (runs_if_any x) ≡ m → wide (runs_if_any y) ≡ n → Apart (runs_if_any x) → Apart (runs_if_any y)
    → (runs_if_any x ≡ runs_if_any y) ↔ (m ≡ n)
same_layers x y m n of_m of_n of_x of_y =
    (λ e. sym of_m ∙ ap wide e ∙ of_n, λ e. decided (runs_if_any x) (runs_if_any y) of_x of_y (of_m ∙ e ∙ sym of_n))

pub ruleset over_steps = (longer_layers, longer_apart, another_layers, another_apart, count_within)

pub ruleset less_steps = (shorter_layers, shorter_apart, below_layers, below_apart)

pub ruleset under_steps = (under_layers, under_len, below_apart)

pub ruleset first_steps = (first_is, outermost_is)
