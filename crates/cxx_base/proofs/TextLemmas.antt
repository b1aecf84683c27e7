-- A list of keys, seen as the list of their texts.
use Rattle.std.proofs.Common.{◌≡◌, ℕ, suc, ◌+◌, ◌<◌, ◌≤◌, Bool, true, false, not, ◌||◌, cond, ltb, List, [], ◌∷◌, ◌++◌, length, map, take, get_or, Option, Some, None, IfSome, is_some, slice_get, refl, sym, ap, ◌∙◌, arith}
use Rattle.std.proofs.lemmas.Bool.{ltb-true, ltb-false}
use Rattle.std.proofs.lemmas.List.Sums.{fold-append}
use Rattle.std.proofs.lemmas.List.{map-append, length-append, take_more}
use Rattle.std.specs.List.{list_any, position, position_or_len, IsDistinct, AllByRecursion}
use Rattle.std.specs.Str.{bytes_eq}
use Rattle.std.specs.Cmp.Lexicographic.{bytes_decides}
use Rattle.cxx_base.specs.Texts.{Text, has_text, number_of, with_text, with_texts, AreDistinct}

-- an answer where a text stands, if it does
pub record Finds (texts : List Text) (t : Text) (found : Option ℕ) : Type 0 where
  pub number : IfSome found (λ n. n ≡ number_of texts t)
  pub held : is_some found ≡ has_text texts t
  pub stored : IfSome found (λ n. slice_get texts n ≡ Some t)

module _ {K : Type 0} (f : K → Text) (t : Text) where
  -- the test that finds the key of the text
  abbrev pub is_key : K → Bool
  is_key k = bytes_eq t (f k)

  pub has_text-map : (ks : List K) → has_text (map f ks) t ≡ list_any is_key ks
  has_text-map [] = refl
  has_text-map (k ∷ ks) = ap (λ b. is_key k || b) (has_text-map ks)

  pub number_of-map : (ks : List K) → number_of (map f ks) t ≡ position_or_len is_key ks
  number_of-map [] = refl
  number_of-map (k ∷ ks) = ap (λ n. cond (not (is_key k)) (1 + n) 0) (number_of-map ks)

  -- the number of a text that is held is its place
  pub record HeldAt (ks : List K) (n : ℕ) : Type 0 where
    pub held : list_any is_key ks ≡ true
    pub stored : slice_get (map f ks) n ≡ Some t

  held_first : (k : K) (ks : List K) → is_key k ≡ true → HeldAt (k ∷ ks) 0
  held_first k ks e = record { held = rw e; stored = ap Some (sym ((bytes_decides t (f k)).0 e)) }

  held_later : (k : K) (ks : List K) (n : ℕ) → HeldAt ks n → is_key k ≡ false → HeldAt (k ∷ ks) (1 + n)
  held_later k ks n h e =
      let one : 1 + n ≡ suc n = omega arith in
      record { held = rw e h.held; stored = ap (slice_get (map f (k ∷ ks))) one ∙ h.stored }

  pub held_at : (ks : List K) → position_or_len is_key ks < length ks → HeldAt ks (position_or_len is_key ks)
  held_at [] h = absurd (omega (arith, h))
  held_at (k ∷ ks) h = by (is_key k) refl h (held_at ks)
    where
      by : (b : Bool) → is_key k ≡ b → position_or_len is_key (k ∷ ks) < length (k ∷ ks)
          → (position_or_len is_key ks < length ks → HeldAt ks (position_or_len is_key ks)) → HeldAt (k ∷ ks) (position_or_len is_key (k ∷ ks))
      by true e h rest = rw e (held_first k ks e)
      by false e h rest =
          let later : position_or_len is_key (k ∷ ks) ≡ 1 + position_or_len is_key ks = rw e in
          rw later (held_later k ks _ (rest (omega (arith, h, later))) e)

  pub not_held : (ks : List K) → length ks ≤ position_or_len is_key ks → list_any is_key ks ≡ false
  not_held [] h = refl
  not_held (k ∷ ks) h = by (is_key k) refl h (not_held ks)
    where
      by : (b : Bool) → is_key k ≡ b → length (k ∷ ks) ≤ position_or_len is_key (k ∷ ks)
          → (length ks ≤ position_or_len is_key ks → list_any is_key ks ≡ false) → list_any is_key (k ∷ ks) ≡ false
      by true e h rest = let first : position_or_len is_key (k ∷ ks) ≡ 0 = rw e in absurd (omega (arith, h, first))
      by false e h rest =
          let later : position_or_len is_key (k ∷ ks) ≡ 1 + position_or_len is_key ks = rw e in
          rw e (rest (omega (arith, h, later)))

  -- what a search of the keys finds
  pub record FoundAt (ks : List K) (n : ℕ) : Type 0 where
    pub number : number_of (map f ks) t ≡ n
    pub held : has_text (map f ks) t ≡ true
    pub stored : slice_get (map f ks) n ≡ Some t

  found_at : (ks : List K) (n : ℕ) → position_or_len is_key ks ≡ n → HeldAt ks (position_or_len is_key ks) → FoundAt ks n
  found_at ks n e h = record {
    number = number_of-map ks ∙ e;
    held = has_text-map ks ∙ h.held;
    stored = rw e at h.stored;
  }

  pub found_position : (ks : List K) (n : ℕ) → position is_key ks ≡ Some n → FoundAt ks n
  found_position ks n h = by (ltb (position_or_len is_key ks) (length ks)) refl h
    where
      by : (b : Bool) → ltb (position_or_len is_key ks) (length ks) ≡ b → cond b (Some (position_or_len is_key ks)) None ≡ Some n → FoundAt ks n
      by true e h = found_at ks n (cc h) (held_at ks (ltb-true _ _ e))
      by false e h = absurd (cc h)

  pub no_position : (ks : List K) → position is_key ks ≡ None → has_text (map f ks) t ≡ false
  no_position ks h = by (ltb (position_or_len is_key ks) (length ks)) refl h
    where
      by : (b : Bool) → ltb (position_or_len is_key ks) (length ks) ≡ b → cond b (Some (position_or_len is_key ks)) None ≡ None → has_text (map f ks) t ≡ false
      by true e h = absurd (cc h)
      by false e h = has_text-map ks ∙ not_held ks (ltb-false _ _ e)

  -- what a search of the keys answers
  pub finds : (ks : List K) (found : Option ℕ) → found ≡ position is_key ks → Finds (map f ks) t found
  finds ks None e = record { number = tt; held = sym (no_position ks (sym e)); stored = tt }
  finds ks (Some n) e =
      let at = found_position ks n (sym e) in
      record { number = sym at.number; held = sym at.held; stored = at.stored }

-- a key that goes into the keys as a set does
module _ {K : Type 0} (f : K → Text) (k : K) (ks : List K) where
  pub with_text-map : map f (cond (list_any (is_key f (f k)) ks) ks (ks ++ k ∷ [])) ≡ with_text (map f ks) (f k)
  with_text-map = rw (has_text-map f (f k) ks) (by (list_any (is_key f (f k)) ks))
    where
      by : (b : Bool) → map f (cond b ks (ks ++ k ∷ [])) ≡ cond b (map f ks) (map f ks ++ f k ∷ [])
      by true = refl
      by false = map-append f ks (k ∷ [])

-- one text more makes the list longer by at most one
pub length-with_text : (texts : List Text) (text : Text) → length (with_text texts text) ≤ length texts + 1
length-with_text texts text = by (has_text texts text)
  where
    by : (b : Bool) → length (cond b texts (texts ++ text ∷ [])) ≤ length texts + 1
    by true = omega arith
    by false = omega (arith, length-append texts (text ∷ []))

module _ {K : Type 0} (eq : K → K → Bool) (f : K → Text) (same : (a b : K) → eq a b ≡ bytes_eq (f a) (f b)) where
  apart : (k : K) (ks : List K) → AllByRecursion (λ y. eq k y ≡ false) ks → AllByRecursion (λ t. bytes_eq (f k) t ≡ false) (map f ks)
  apart k [] h = tt
  apart k (x ∷ xs) h = (sym (same k x) ∙ h.0, apart k xs h.1)

  -- keys that differ have texts that differ
  pub distinct-map : (ks : List K) → IsDistinct eq ks → AreDistinct (map f ks)
  unfolding IsDistinct
  distinct-map [] h = tt
  distinct-map (k ∷ ks) h = (apart k ks h.0, distinct-map ks h.1)

-- one text more of those that are numbered
pub with_texts_more : {X : Type 0} (f : X → Text) (texts : List Text) (xs : List X) (i : ℕ) (d : X) → i < length xs
    → with_texts texts (map f (take (i + 1) xs)) ≡ with_text (with_texts texts (map f (take i xs))) (f (get_or xs i d))
with_texts_more f texts xs i d h =
    ap (λ some. with_texts texts (map f some)) (take_more xs i d h)
    ∙ ap (with_texts texts) (map-append f (take i xs) (get_or xs i d ∷ []))
    ∙ fold-append with_text texts (map f (take i xs)) (f (get_or xs i d) ∷ [])
