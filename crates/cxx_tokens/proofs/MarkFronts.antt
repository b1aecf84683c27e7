-- The longest listed punctuator is a listed text, and no longer front of the text is one.
use Rattle.std.proofs.Common.{◌≡◌, ℕ, ◌+◌, ◌<◌, ◌≤◌, Bool, true, false, ◌||◌, cond, eqb, ltb, List, [], ◌∷◌, length, take, codes, Option, Some, None, refl, sym, ap, subst, ◌∙◌, arith, true≢false}
use Rattle.std.proofs.lemmas.Bool.{and_parts, false_from_ne_true, or_right, ltb-false}
use Rattle.std.proofs.lemmas.List.{length-take, length-take-le}
use Rattle.std.specs.Cmp.Lexicographic.{bytes_decides}
use Rattle.std.specs.Str.{bytes_eq}
use Rattle.cxx_base.specs.Texts.{Text}
use Rattle.cxx_tokens.specs.Characters.{Characters, begins_with}
use Rattle.cxx_tokens.specs.Munch.{is_listed}
use Rattle.cxx_tokens.specs.Punctuators.{Punctuator, is_bracket_and_scope, longer, longest, longest_from, punctuator_at}
use Rattle.cxx_tokens.specs.Tables.{punctuators}
use Rattle.cxx_tokens.proofs.Search.{bracket_is, longer_least}

longer_other : (first other : Punctuator) → other.length ≤ (longer first (Some other)).length
longer_other first other = by (ltb first.length other.length) refl
  where
    by : (b : Bool) → ltb first.length other.length ≡ b → other.length ≤ (cond b other first).length
    by true e = omega arith
    by false e = let less = ltb-false first.length other.length e in omega (arith, less)

found_is_listed : (number : ℕ) (texts : List Text) (text : Characters) (mark : Punctuator) → longest_from number texts text ≡ Some mark
    → is_listed texts (take mark.length text) ≡ true
found_is_listed number [] text mark h = cc h
found_is_listed number (listed ∷ more) text mark h =
    by (begins_with listed text) refl (longest_from (number + 1) more text) refl h (λ other e. found_is_listed (number + 1) more text other e)
  where
    here : Punctuator
    here = record { number = number; length = length listed }

    is_of : Punctuator → Type 0
    is_of other = is_listed (listed ∷ more) (take other.length text) ≡ true

    alone : begins_with listed text ≡ true → is_listed (listed ∷ more) (take (length listed) text) ≡ true
    alone e = rw e refl

    by : (b : Bool) → begins_with listed text ≡ b → (rest : Option Punctuator) → longest_from (number + 1) more text ≡ rest
        → cond b (Some (longer (record { number = number; length = length listed }) rest)) rest ≡ Some mark
        → ((other : Punctuator) → longest_from (number + 1) more text ≡ Some other → is_listed more (take other.length text) ≡ true)
        → is_listed (listed ∷ more) (take mark.length text) ≡ true
    by false e rest r h go = or_right _ _ (go mark (r ∙ h))
    by true e None r h go =
        let same : record { number = number; length = length listed } ≡ mark = cc h in
        subst (λ (other : Punctuator). is_listed (listed ∷ more) (take other.length text) ≡ true) same (alone e)
    by true e (Some other) r h go = which (ltb (length listed) other.length) h
      where
        which : (b : Bool) → Some (cond b other (record { number = number; length = length listed })) ≡ Some mark → is_listed (listed ∷ more) (take mark.length text) ≡ true
        which true h =
            let same : other ≡ mark = cc h in
            subst (λ (other : Punctuator). is_listed (listed ∷ more) (take other.length text) ≡ true) same (or_right _ _ (go other r))
        which false h =
            let same : record { number = number; length = length listed } ≡ mark = cc h in
            subst (λ (other : Punctuator). is_listed (listed ∷ more) (take other.length text) ≡ true) same (alone e)

-- a text begins with no longer one
begins_within : (listed text : Characters) → begins_with listed text ≡ true → length listed ≤ length text
begins_within listed text h =
    let same : length (take (length listed) text) ≡ length listed = ap length ((bytes_decides (take (length listed) text) listed).0 h) in
    let short = length-take (length listed) text in
    omega (arith, same, short)

found_within : (number : ℕ) (texts : List Text) (text : Characters) (mark : Punctuator) → longest_from number texts text ≡ Some mark → mark.length ≤ length text
found_within number [] text mark h = cc h
found_within number (listed ∷ more) text mark h =
    by (begins_with listed text) refl (longest_from (number + 1) more text) refl h (λ other e. found_within (number + 1) more text other e)
  where
    by : (b : Bool) → begins_with listed text ≡ b → (rest : Option Punctuator) → longest_from (number + 1) more text ≡ rest
        → cond b (Some (longer (record { number = number; length = length listed }) rest)) rest ≡ Some mark
        → ((other : Punctuator) → longest_from (number + 1) more text ≡ Some other → other.length ≤ length text) → mark.length ≤ length text
    by false e rest r h go = go mark (r ∙ h)
    by true e None r h go =
        let same : record { number = number; length = length listed } ≡ mark = cc h in
        subst (λ (other : Punctuator). other.length ≤ length text) same (begins_within listed text e)
    by true e (Some other) r h go = which (ltb (length listed) other.length) h
      where
        which : (b : Bool) → Some (cond b other (record { number = number; length = length listed })) ≡ Some mark → mark.length ≤ length text
        which true h =
            let same : other ≡ mark = cc h in
            subst (λ (other : Punctuator). other.length ≤ length text) same (go other r)
        which false h =
            let same : record { number = number; length = length listed } ≡ mark = cc h in
            subst (λ (other : Punctuator). other.length ≤ length text) same (begins_within listed text e)

abbrev HasAtLeast : ℕ → Option Punctuator → Type 0
HasAtLeast m None = ⊥
HasAtLeast m (Some mark) = m ≤ mark.length

found_is_most : (number : ℕ) (texts : List Text) (text : Characters) (m : ℕ) → m ≤ length text → is_listed texts (take m text) ≡ true
    → HasAtLeast m (longest_from number texts text)
found_is_most number [] text m within h = absurd (true≢false (sym h))
found_is_most number (listed ∷ more) text m within h =
    by (bytes_eq (take m text) listed) refl h (begins_with listed text) refl (longest_from (number + 1) more text)
    (λ more_h. found_is_most (number + 1) more text m within more_h)
  where
    by : (a : Bool) → bytes_eq (take m text) listed ≡ a → (a || is_listed more (take m text)) ≡ true → (b : Bool) → begins_with listed text ≡ b
        → (rest : Option Punctuator) → (is_listed more (take m text) ≡ true → HasAtLeast m rest)
        → HasAtLeast m (cond b (Some (longer (record { number = number; length = length listed }) rest)) rest)
    by true e h b f rest go =
        let same : take m text ≡ listed = (bytes_decides (take m text) listed).0 e in
        let long : length listed ≡ m = ap length (sym same) ∙ length-take-le m text within in
        let begins : begins_with listed text ≡ true = (bytes_decides (take (length listed) text) listed).1 (ap (λ k. take k text) long ∙ same) in
        let least : length listed ≤ (longer (record { number = number; length = length listed }) rest).length = longer_least (record { number = number; length = length listed }) rest in
        let enough : m ≤ (longer (record { number = number; length = length listed }) rest).length = omega (arith, least, long) in
        subst (λ (b : Bool). HasAtLeast m (cond b (Some (longer (record { number = number; length = length listed }) rest)) rest)) (sym begins ∙ f) enough
    by false e h true f None go = absurd (go h)
    by false e h true f (Some other) go =
        let most = longer_other (record { number = number; length = length listed }) other in
        let enough : m ≤ other.length = go h in
        omega (arith, most, enough)
    by false e h false f rest go = go h

-- what the longest listed text is, of a mark that was found
pub record IsMark (text : Characters) (n : ℕ) : Type 0 where
  pub within : n ≤ length text
  pub listed : is_listed punctuators (take n text) ≡ true
  pub longest : is_bracket_and_scope text ≡ false → (m : ℕ) → n < m → m ≤ length text → is_listed punctuators (take m text) ≡ false
  pub bracket : is_bracket_and_scope text ≡ true → n ≡ 1

begins_bracket : (text : Characters) → is_bracket_and_scope text ≡ true → begins_with (codes "[") text ≡ true
begins_bracket [] h = absurd (true≢false (sym h))
begins_bracket (c ∷ text) h =
    let first : eqb c 91 ≡ true = (and_parts (eqb c 91) _ ((and_parts (begins_with (codes "[::") (c ∷ text)) _ h).0)).0 in
    rw first refl

one_of_one : (text : Characters) → take 1 (take 1 text) ≡ take 1 text
one_of_one [] = refl
one_of_one (c ∷ text) = refl

pub mark_found : (text : Characters) (mark : Punctuator) → punctuator_at text ≡ Some mark → IsMark text mark.length
unfolding punctuator_at
mark_found text mark h = by (is_bracket_and_scope text) refl h
  where
    by : (b : Bool) → is_bracket_and_scope text ≡ b → longest (cond b (take 1 text) text) ≡ Some mark → IsMark text mark.length
    by true e h =
        let bracket = bracket_is text (begins_bracket text e) in
        let same : record { number = 2; length = 1 } ≡ mark = cc (bracket, h) in
        let one : mark.length ≡ 1 = sym (ap (λ (m : Punctuator). m.length) same) in
        let whole : is_listed punctuators (take mark.length (take 1 text)) ≡ true = found_is_listed 0 punctuators (take 1 text) mark h in
        let front : take mark.length (take 1 text) ≡ take mark.length text = ap (λ k. take k (take 1 text)) one ∙ one_of_one text ∙ ap (λ k. take k text) (sym one) in
        let short = found_within 0 punctuators (take 1 text) mark h in
        let least = length-take 1 text in
        record {
          within = omega (arith, short, least);
          listed = ap (is_listed punctuators) (sym front) ∙ whole;
          longest = λ no. absurd (true≢false (sym e ∙ no));
          bracket = λ _. one;
        }
    by false e h =
        record {
          within = found_within 0 punctuators text mark h;
          listed = found_is_listed 0 punctuators text mark h;
          longest = λ no m less within. false_from_ne_true _ (λ yes.
              let most : m ≤ mark.length = subst (HasAtLeast m) h (found_is_most 0 punctuators text m within yes) in
              absurd (omega (arith, most, less)));
          bracket = λ yes. absurd (true≢false (sym yes ∙ e));
        }
