-- What holds of a tree and of the token behind it, and how this is shown of rules that are made of others.
use Rattle.std.proofs.Common.{◌≡◌, ℕ, zero, suc, ◌<◌, ◌≤◌, Bool, true, false, List, [], ◌∷◌, ◌++◌, length, Option, Some, None, refl, arith, nat_lt, if◌then◌else◌}
use Rattle.cxx_base.specs.declared.place.Span.{Span}
use Rattle.cxx_tokens.specs.declared.token.Tokens.{Tokens}
use Rattle.cxx_reading.specs.Any.{unless}
use Rattle.cxx_reading.specs.Reading.{End, Tree, No, Nothing, TooDeep, Rule, and_then, longer, or_absent, or_none, or_empty, go_on, turns, present, optional, if_any, ◌>>=◌, pure, span}
use Rattle.tree_stands.specs.Stands.{Among, InOrder, IfAny}

-- what holds of the tree and the token behind it, where there is a tree
abbrev pub Holds : {A : Type 0} → (A → ℕ → Type 0) → End A → Type 0
Holds P (Tree a k) = P a k
Holds P (No why) = Unit {0}

pub record Where {A : Type 0} (P : A → ℕ → Type 0) (e : End A) : Type 0 where
  pub holds : Holds P e

-- ---- parts in order

bound : {A B : Type 0} (P : A → ℕ → Type 0) (Q : B → ℕ → Type 0) (e : End A) (f : A → Rule B) → Holds P e → ((a : A) (k : ℕ) → P a k → Where Q (f a k)) → Holds Q (and_then e f)
bound P Q (Tree a k) f h g = (g a k h).holds
bound P Q (No why) f h g = tt

pub next : {A B : Type 0} (P : A → ℕ → Type 0) (Q : B → ℕ → Type 0) (e : End A) (f : A → Rule B) → Where P e → ((a : A) (k : ℕ) → P a k → Where Q (f a k)) → Where Q (and_then e f)
next P Q e f h g = record { holds = bound P Q e f h.holds g }

kept : {A : Type 0} (P Q : A → ℕ → Type 0) (e : End A) → ((a : A) (k : ℕ) → P a k → Q a k) → Holds P e → Holds Q e
kept P Q (Tree a k) g h = g a k h
kept P Q (No why) g h = tt

pub so : {A : Type 0} (P Q : A → ℕ → Type 0) (e : End A) → Where P e → ((a : A) (k : ℕ) → P a k → Q a k) → Where Q e
so P Q e h g = record { holds = kept P Q e g h.holds }

joined : {A : Type 0} (P Q R : A → ℕ → Type 0) (e : End A) → ((a : A) (k : ℕ) → P a k → Q a k → R a k) → Holds P e → Holds Q e → Holds R e
joined P Q R (Tree a k) f h g = f a k h g
joined P Q R (No why) f h g = tt

pub both : {A : Type 0} (P Q R : A → ℕ → Type 0) (e : End A) → Where P e → Where Q e → ((a : A) (k : ℕ) → P a k → Q a k → R a k) → Where R e
both P Q R e h g f = record { holds = joined P Q R e f h.holds g.holds }

-- ---- choices and side rules

chosen : {A : Type 0} (P : A → ℕ → Type 0) (b : Bool) (x y : End A) → Holds P x → Holds P y → Holds P (if b then x else y)
chosen P true x y h g = h
chosen P false x y h g = g

longest : {A : Type 0} (P : A → ℕ → Type 0) (x y : End A) → Holds P x → Holds P y → Holds P (longer x y)
longest P (No Nothing) y h g = g
longest P (No TooDeep) y h g = tt
longest P (Tree a j) (No Nothing) h g = h
longest P (Tree a j) (No TooDeep) h g = tt
longest P (Tree a j) (Tree b k) h g = chosen P (nat_lt j k) (Tree b k) (Tree a j) g h

pub either : {A : Type 0} (P : A → ℕ → Type 0) (x y : End A) → Where P x → Where P y → Where P (longer x y)
either P x y h g = record { holds = longest P x y h.holds g.holds }

pub one_of : {A : Type 0} (P : A → ℕ → Type 0) (b : Bool) (x y : End A) → Where P x → Where P y → Where P (if b then x else y)
one_of P b x y h g = record { holds = chosen P b x y h.holds g.holds }

lacking : {A B : Type 0} (P : B → ℕ → Type 0) (x : End A) (e : End B) → Holds P e → Holds P (unless x e)
lacking P (Tree a j) e h = tt
lacking P (No why) e h = h

pub otherwise : {A B : Type 0} (P : B → ℕ → Type 0) (x : End A) (e : End B) → Where P e → Where P (unless x e)
otherwise P x e h = record { holds = lacking P x e h.holds }

-- ---- repetitions

went : {A : Type 0} (P : A → ℕ → Type 0) (again : A → Rule A) (x : A) (i : ℕ) (e : End A) → P x i → Holds P e → ((y : A) (k : ℕ) → P y k → Where P (again y k)) → Holds P (go_on again x i e)
went P again x i (Tree y k) now h g = (g y k h).holds
went P again x i (No Nothing) now h g = now
went P again x i (No TooDeep) now h g = tt

pub turned : {A : Type 0} (P : A → ℕ → Type 0) (p : A → Rule A) → ((x : A) (i : ℕ) → P x i → Where P (p x i)) → (n : ℕ) (x : A) (i : ℕ) → P x i → Where P (turns n p x i)
unfolding turns
turned P p h zero x i now = record { holds = now }
turned P p h (suc n) x i now = record { holds = went P (turns n p) x i (p x i) now (h x i now).holds (turned P p h n) }

-- ---- trees among tokens

abbrev pub In : {A : Type 0} → (ℕ → ℕ → A → Type 0) → ℕ → ℕ → A → Type 0
In StandsAt i j x = Among (λ a b. StandsAt a b x) i j

-- What stands among some tokens stands among more of them.
pub wider : {A : Type 0} (StandsAt : ℕ → ℕ → A → Type 0) (i j k l : ℕ) (x : A) → i ≤ j → k ≤ l → In StandsAt j k x → In StandsAt i l x
wider StandsAt i j k l x before behind h = (h.0, h.1, omega arith, h.3, omega arith)

pub wider_any : {A : Type 0} (StandsAt : ℕ → ℕ → A → Type 0) (i j k l : ℕ) (x : Option A) → i ≤ j → k ≤ l → IfAny StandsAt j k x → IfAny StandsAt i l x
wider_any StandsAt i j k l None before behind h = omega arith
wider_any StandsAt i j k l (Some x) before behind h = wider StandsAt i j k l x before behind h

-- one more behind a list
pub in_order : {A : Type 0} (StandsAt : ℕ → ℕ → A → Type 0) (xs : List A) (x : A) (i j k : ℕ) → InOrder StandsAt i j xs → In StandsAt j k x → InOrder StandsAt i k (xs ++ x ∷ [])
in_order StandsAt [] x i j k h g = (g.0, g.1, omega arith, g.3, g.4)
in_order StandsAt (y ∷ ys) x i j k h g = (h.0, h.1, h.2, h.3, in_order StandsAt ys x h.1 j k h.4 g)

pub in_order_wider : {A : Type 0} (StandsAt : ℕ → ℕ → A → Type 0) (xs : List A) (i j k l : ℕ) → i ≤ j → k ≤ l → InOrder StandsAt j k xs → InOrder StandsAt i l xs
in_order_wider StandsAt [] i j k l before behind h = omega arith
in_order_wider StandsAt (x ∷ xs) i j k l before behind h = (h.0, h.1, omega arith, h.3, in_order_wider StandsAt xs h.1 h.1 k l (omega arith) behind h.4)

module _ (tokens : Tokens) where
  -- at least one token, none of them behind the last
  pub record Took (i k : ℕ) : Type 0 where
    pub rises : i < k
    pub within : k ≤ length tokens.list

  -- tokens or none
  pub record Passed (i k : ℕ) : Type 0 where
    pub goes : i ≤ k
    pub within : i ≤ length tokens.list → k ≤ length tokens.list

  -- A tree that was read from these tokens, of which there is one at least, stands there.
  pub record Part {A : Type 0} (StandsAt : ℕ → ℕ → A → Type 0) (i : ℕ) (x : A) (k : ℕ) : Type 0 where
    pub rises : i < k
    pub within : k ≤ length tokens.list
    pub stands : StandsAt i k x

  -- What may have no tokens stands in whichever tokens these are among.
  pub record Group {A : Type 0} (StandsAt : ℕ → ℕ → A → Type 0) (i : ℕ) (x : A) (k : ℕ) : Type 0 where
    pub goes : i ≤ k
    pub within : i ≤ length tokens.list → k ≤ length tokens.list
    pub stands : (first end : ℕ) → first ≤ i → k ≤ end → StandsAt first end x

  -- the same of rules
  abbrev pub Takes : {A : Type 0} → Rule A → Type 0
  Takes p = (i : ℕ) → Where (λ x k. Took i k) (p i)

  abbrev pub Passes : {A : Type 0} → Rule A → Type 0
  Passes p = (i : ℕ) → Where (λ x k. Passed i k) (p i)

  abbrev pub TreeStands : {A : Type 0} → (ℕ → ℕ → A → Type 0) → Rule A → Type 0
  TreeStands StandsAt p = (i : ℕ) → Where (λ x k. Part StandsAt i x k) (p i)

  abbrev pub GroupStands : {A : Type 0} → (ℕ → ℕ → A → Type 0) → Rule A → Type 0
  GroupStands StandsAt p = (i : ℕ) → Where (λ x k. Group StandsAt i x k) (p i)

  abbrev pub ListStands : {A : Type 0} → (ℕ → ℕ → A → Type 0) → Rule (List A) → Type 0
  ListStands StandsAt p = GroupStands (InOrder StandsAt) p

  abbrev pub StandsIfAny : {A : Type 0} → (ℕ → ℕ → A → Type 0) → Rule (Option A) → Type 0
  StandsIfAny StandsAt p = GroupStands (IfAny StandsAt) p

  -- a tree that is given the span of its tokens
  given_span : {A : Type 0} (P : A → ℕ → Type 0) (first : ℕ) (e : End (Span → A)) → Holds (λ f k. P (f (span tokens first k)) k) e → Holds P (and_then e (λ f k. Tree (f (span tokens first k)) k))
  given_span P first (Tree f k) h = h
  given_span P first (No why) h = tt

  pub spanned : {A : Type 0} (P : A → ℕ → Type 0) (first : ℕ) (e : End (Span → A)) → Where (λ f k. P (f (span tokens first k)) k) e → Where P (and_then e (λ f k. Tree (f (span tokens first k)) k))
  spanned P first e h = record { holds = given_span P first e h.holds }

  -- ---- trees behind a mark

  pub loosened : {A : Type 0} (StandsAt : ℕ → ℕ → A → Type 0) (i : ℕ) (x : A) (k : ℕ) → Part StandsAt i x k → Part (In StandsAt) i x k
  loosened StandsAt i x k h = record { rises = h.rises; within = h.within; stands = (i, k, omega arith, h.stands, omega arith) }

  pub loosely : {A : Type 0} (StandsAt : ℕ → ℕ → A → Type 0) (p : Rule A) → TreeStands StandsAt p → TreeStands (In StandsAt) p
  loosely StandsAt p h i = so (λ x k. Part StandsAt i x k) (λ x k. Part (In StandsAt) i x k) (p i) (h i) (loosened StandsAt i)

  pub part_later : {A : Type 0} (StandsAt : ℕ → ℕ → A → Type 0) (i j k : ℕ) (x : A) → i ≤ j → Part StandsAt j x k → Part (In StandsAt) i x k
  part_later StandsAt i j k x before h = let r : j < k = h.rises in record { rises = omega arith; within = h.within; stands = (j, k, before, h.stands, omega arith) }

  pub later : {A : Type 0} (StandsAt : ℕ → ℕ → A → Type 0) (i j : ℕ) (e : End A) → i ≤ j → Where (λ x k. Part StandsAt j x k) e → Where (λ x k. Part (In StandsAt) i x k) e
  later StandsAt i j e before h = so (λ x k. Part StandsAt j x k) (λ x k. Part (In StandsAt) i x k) e h (λ x k hx. part_later StandsAt i j k x before hx)

  pub takes_later : {A : Type 0} (i j : ℕ) (e : End A) → i ≤ j → Where (λ x k. Took j k) e → Where (λ x k. Took i k) e
  takes_later i j e before h = so (λ x k. Took j k) (λ x k. Took i k) e h (λ x k hx. record { rises = omega arith; within = hx.within })

  -- ---- parts that may be missing

  absent : {A : Type 0} (i : ℕ) (e : End A) → Holds (λ x k. Took i k) e → Holds (λ b k. Passed i k) (or_absent e i)
  absent i (Tree a k) h = let r : i < k = h.rises in record { goes = omega arith; within = λ _. h.within }
  absent i (No Nothing) h = record { goes = omega arith; within = λ before. before }
  absent i (No TooDeep) h = tt

  pub passes_present : {A : Type 0} (p : Rule A) → Takes p → Passes (present p)
  unfolding present
  passes_present p h i = record { holds = absent i (p i) (h i).holds }

  passed : {A : Type 0} (i : ℕ) (e : End A) → Holds (λ x k. Took i k) e → Holds (λ b k. Passed i k) (or_none e i)
  passed i (Tree a k) h = let r : i < k = h.rises in record { goes = omega arith; within = λ _. h.within }
  passed i (No Nothing) h = record { goes = omega arith; within = λ before. before }
  passed i (No TooDeep) h = tt

  pub passes_optional : {A : Type 0} (p : Rule A) → Takes p → Passes (optional p)
  unfolding optional
  passes_optional p h i = record { holds = passed i (p i) (h i).holds }

  -- where a part is missing, the token behind is the one at which it was asked for
  abbrev pub StaysAtNone : {A : Type 0} → Option A → ℕ → ℕ → Type 0
  StaysAtNone None i k = k ≡ i
  StaysAtNone (Some x) i k = Unit {0}

  pub record Optional {A : Type 0} (StandsAt : ℕ → ℕ → A → Type 0) (i : ℕ) (x : Option A) (k : ℕ) : Type 0 where
    pub any : Group (IfAny StandsAt) i x k
    pub stays : StaysAtNone x i k

  missing : {A : Type 0} (StandsAt : ℕ → ℕ → A → Type 0) (i : ℕ) (e : End A) → Holds (λ x k. Part (In StandsAt) i x k) e → Holds (λ x k. Optional StandsAt i x k) (or_none e i)
  missing StandsAt i (Tree a k) h = let r : i < k = h.rises in record {
    any = record {
      goes = omega arith;
      within = λ _. h.within;
      stands = λ first end before behind. wider StandsAt first i k end a before behind h.stands;
    };
    stays = tt;
  }
  missing StandsAt i (No Nothing) h = record { any = record { goes = omega arith; within = λ before. before; stands = λ first end before behind. omega arith }; stays = refl }
  missing StandsAt i (No TooDeep) h = tt

  pub optional_stands : {A : Type 0} (StandsAt : ℕ → ℕ → A → Type 0) (p : Rule A) → TreeStands (In StandsAt) p → (i : ℕ) → Where (λ x k. Optional StandsAt i x k) (optional p i)
  unfolding optional
  optional_stands StandsAt p h i = record { holds = missing StandsAt i (p i) (h i).holds }

  pub stands_optional : {A : Type 0} (StandsAt : ℕ → ℕ → A → Type 0) (p : Rule A) → TreeStands (In StandsAt) p → StandsIfAny StandsAt (optional p)
  stands_optional StandsAt p h i = so (λ x k. Optional StandsAt i x k) (λ x k. Group (IfAny StandsAt) i x k) (optional p i) (optional_stands StandsAt p h i) (λ x k hx. hx.any)

  empty : {A : Type 0} (StandsAt : ℕ → ℕ → A → Type 0) (i : ℕ) (e : End (List A)) → Holds (λ xs k. Group (InOrder StandsAt) i xs k) e → Holds (λ xs k. Group (InOrder StandsAt) i xs k) (or_empty e i)
  empty StandsAt i (Tree xs k) h = h
  empty StandsAt i (No Nothing) h = record { goes = omega arith; within = λ before. before; stands = λ first end before behind. omega arith }
  empty StandsAt i (No TooDeep) h = tt

  pub stand_if_any : {A : Type 0} (StandsAt : ℕ → ℕ → A → Type 0) (p : Rule (List A)) → ListStands StandsAt p → ListStands StandsAt (if_any p)
  unfolding if_any
  stand_if_any StandsAt p h i = record { holds = empty StandsAt i (p i) (h i).holds }

  -- ---- lists

  pub one_more : {A : Type 0} (StandsAt : ℕ → ℕ → A → Type 0) (i j k : ℕ) (xs : List A) (x : A) → Group (InOrder StandsAt) i xs j → Part (In StandsAt) j x k → Group (InOrder StandsAt) i (xs ++ x ∷ []) k
  one_more StandsAt i j k xs x h g = let s : i ≤ j = h.goes in let r : j < k = g.rises in record {
    goes = omega arith;
    within = λ _. g.within;
    stands = λ first end before behind. in_order StandsAt xs x first j end (h.stands first j before (omega arith)) (wider StandsAt j j k end x (omega arith) behind g.stands);
  }

  pub alone : {A : Type 0} (StandsAt : ℕ → ℕ → A → Type 0) (i k : ℕ) (x : A) → Part (In StandsAt) i x k → Group (InOrder StandsAt) i (x ∷ []) k
  alone StandsAt i k x h = let r : i < k = h.rises in record {
    goes = omega arith;
    within = λ _. h.within;
    stands = λ first end before behind. wider StandsAt first i k end x before behind h.stands;
  }

  pub no_part : {A : Type 0} (StandsAt : ℕ → ℕ → A → Type 0) (i : ℕ) → Group (InOrder StandsAt) i [] i
  no_part StandsAt i = record { goes = omega arith; within = λ before. before; stands = λ first end before behind. omega arith }

  -- a part as often as it reads, behind those that were read from a token on
  pub stand_repeated : {A : Type 0} (StandsAt : ℕ → ℕ → A → Type 0) (q : Rule A) → TreeStands (In StandsAt) q → (first : ℕ) (n : ℕ) (xs : List A) (i : ℕ) → Group (InOrder StandsAt) first xs i
      → Where (λ ys k. Group (InOrder StandsAt) first ys k) (turns n (λ found. q >>= (λ x. pure (found ++ x ∷ []))) xs i)
  stand_repeated StandsAt q h first n xs i now = turned (λ ys k. Group (InOrder StandsAt) first ys k) (λ found. q >>= (λ x. pure (found ++ x ∷ [])))
      (λ ys j g. next (λ x k. Part (In StandsAt) j x k) (λ zs k. Group (InOrder StandsAt) first zs k) (q j) (λ x. pure (ys ++ x ∷ [])) (h j) (λ x k hx. record { holds = one_more StandsAt first j k ys x g hx })) n xs i now

  -- where there is none, the token behind is the first one
  abbrev pub StaysAtEmpty : {A : Type 0} → List A → ℕ → ℕ → Type 0
  StaysAtEmpty [] i k = k ≡ i
  StaysAtEmpty (x ∷ xs) i k = Unit {0}

  pub record Listed {A : Type 0} (StandsAt : ℕ → ℕ → A → Type 0) (i : ℕ) (xs : List A) (k : ℕ) : Type 0 where
    pub all : Group (InOrder StandsAt) i xs k
    pub stays : StaysAtEmpty xs i k

  one_behind : {A : Type 0} (xs : List A) (x : A) (i k : ℕ) → StaysAtEmpty (xs ++ x ∷ []) i k
  one_behind [] x i k = tt
  one_behind (y ∷ ys) x i k = tt

  pub listed : {A : Type 0} (StandsAt : ℕ → ℕ → A → Type 0) (q : Rule A) → TreeStands (In StandsAt) q → (n i : ℕ) → Where (λ ys k. Listed StandsAt i ys k) (turns n (λ found. q >>= (λ x. pure (found ++ x ∷ []))) [] i)
  listed StandsAt q h n i = turned (λ ys k. Listed StandsAt i ys k) (λ found. q >>= (λ x. pure (found ++ x ∷ [])))
      (λ ys j g. next (λ x k. Part (In StandsAt) j x k) (λ zs k. Listed StandsAt i zs k) (q j) (λ x. pure (ys ++ x ∷ [])) (h j)
      (λ x k hx. record { holds = record { all = one_more StandsAt i j k ys x g.all hx; stays = one_behind ys x i k } })) n [] i (record { all = no_part StandsAt i; stays = refl })

  -- words as often as they read
  pub passes_repeated : {A : Type 0} (p : A → Rule A) → ((x : A) → Takes (p x)) → (n : ℕ) (x : A) (i : ℕ) → Where (λ y k. Passed i k) (turns n p x i)
  passes_repeated p h n x i = turned (λ y k. Passed i k) p (λ y j now. so (λ z k. Took j k) (λ z k. Passed i k) (p y j) (h y j) (λ z k hz. record { goes = omega arith; within = λ _. hz.within })) n x i (record { goes = omega arith; within = λ before. before })

  -- ---- where a tree goes on no further

  pub ends_there : {A : Type 0} (StandsAt : ℕ → ℕ → A → Type 0) (i j k : ℕ) (x : A) → k ≡ j → Part StandsAt i x j → Part StandsAt i x k
  ends_there StandsAt i j k x e h = rw e h
