-- Forms that share a beginning give together what the joined form gives.
use Rattle.std.proofs.Common.{◌≡◌, ℕ, ◌+◌, ◌<◌, Bool, true, false, ◌&&◌, if◌then◌else◌, Some, refl, sym, ◌∙◌, arith}
use Rattle.cxx_tree.specs.declared.identifier.NameTree.{NameTree}
use Rattle.cxx_tree.specs.declared.expr.Expr.{Expr}
use Rattle.cxx_tree.specs.declared.expr.Expr.TheVariants as expr-of
use Rattle.cxx_tree.specs.declared.expr.BasicTree.TheVariants as basic-of
use Rattle.cxx_tree.specs.declared.expr.BracedTree.{BracedTree}
use Rattle.cxx_tree.specs.declared.expr.NewInit.{NewInit}
use Rattle.cxx_tree.specs.declared.expr.NewInit.TheVariants as init-of
use Rattle.cxx_tokens.specs.declared.token.Tokens.{Tokens}
use Rattle.cxx_tokens.specs.declared.mark.TheConstants.{LEFT_BRACE, LESS}
use Rattle.cxx_tokens.specs.declared.keyword.TheConstants.{TYPENAME}
use Rattle.cxx_reading.specs.declared.seen.Seen.TheVariants.{Identifier, Word, Punctuator}
use Rattle.cxx_reading.specs.Extents.{EndsFrom, Rises}
use Rattle.cxx_reading.specs.Reading.{End, Tree, No, Nothing, TooDeep, and_then, longer, or_none, optional, kind, span, word, is_punctuator}
use Rattle.cxx_reading.proofs.Starts.{is_that_punctuator, longer_nothing}
use Rattle.cxx_reading.proofs.Choices.{longer_later}
use Rattle.cxx_reading.proofs.Factor.{assoc, pointwise, factor, mapped}
use Rattle.cxx_grammar.specs.Names.{vector_head, name, extracts, is_extract}
use Rattle.cxx_grammar.specs.Fundamentals.{fund}
use Rattle.cxx_grammar.specs.Types.{basic_fund, basic_name, basic_typename, basic, splice}
use Rattle.cxx_grammar.specs.Lists.{args, braced}
use Rattle.cxx_grammar.specs.Primaries.{name_form, braced_form, fund_call_form, typename_call_form, extract_of, extract_form}
use Rattle.cxx_grammar.specs.Unaries.{init_args, init_braced, new_init}
use Rattle.cxx_grammar.specs.Rules.{Rules}
use Rattle.cxx_grammar.specs.Joined.{fund_made, typename_made, name_made, fund_rest, fund_joined, typename_rest, typename_joined, extract_rest, name_rest, named_rest, named_joined}
use Rattle.cxx_grammar.proofs.Begins.{no_args, no_braced}
use Rattle.cxx_grammar.proofs.TypeArms.{basic_at_name, basic_punctuator, basic_at_typename, basic_word}

-- two forms of which at most one begins there may stand in either order
swapped : {A : Type 0} (b : Bool) (x y : End A) → (b ≡ true → y ≡ No Nothing) → (b ≡ false → x ≡ No Nothing) → longer x y ≡ longer y x
swapped true x y h g = let e : y ≡ No Nothing = h refl in rw e (longer_nothing x)
swapped false x y h g = let e : x ≡ No Nothing = g refl in rw e (sym (longer_nothing y))

both_right : (a b : Bool) → (a && b) ≡ true → b ≡ true
both_right true b h = h
both_right false b h = cc

module _ (tokens : Tokens) (deeper : Rules) where
  -- ---- arguments or a braced list behind a type

  no_args_at : (j : ℕ) → is_punctuator LEFT_BRACE (kind tokens j) ≡ true → args tokens deeper j ≡ No Nothing
  no_args_at j h = no_args tokens deeper j _ (is_that_punctuator LEFT_BRACE (kind tokens j) h) refl

  no_braced_at : (j : ℕ) → is_punctuator LEFT_BRACE (kind tokens j) ≡ false → braced tokens deeper j ≡ No Nothing
  no_braced_at j h = no_braced tokens deeper j _ refl h

  made_with : (h : NewInit → ℕ → Expr) (j : ℕ)
      → longer (and_then (braced tokens deeper j) (λ x k. Tree (h (init-of.Braced x) k) k)) (and_then (args tokens deeper j) (λ x k. Tree (h (init-of.Args x) k) k))
      ≡ and_then (new_init tokens deeper j) (λ m k. Tree (h m k) k)
  unfolding new_init init_args init_braced
  made_with h j =
      swapped (is_punctuator LEFT_BRACE (kind tokens j))
      (and_then (braced tokens deeper j) (λ x k. Tree (h (init-of.Braced x) k) k)) (and_then (args tokens deeper j) (λ x k. Tree (h (init-of.Args x) k) k))
      (λ b. rw (no_args_at j b)) (λ b. rw (no_braced_at j b))
      ∙ (simp assoc at (mapped (and_then (args tokens deeper j) (λ x k. Tree (init-of.Args x) k)) (and_then (braced tokens deeper j) (λ x k. Tree (init-of.Braced x) k)) h))

  module _ (i : ℕ) where
    pub fund_is : (n : ℕ) → kind tokens i ≡ Some (Word n) → (n ≡ TYPENAME → ⊥) → longer (braced_form tokens deeper i) (fund_call_form tokens deeper i) ≡ fund_joined tokens deeper i
    unfolding braced_form fund_call_form basic_fund fund_joined fund_rest
    fund_is n e h = simp (basic_word tokens deeper i n e h, assoc, factor) (pointwise (fund tokens i) _ _ (λ f j. made_with (λ m k. fund_made (span tokens i k) (span tokens i j) f m) j))

    pub typename_is : kind tokens i ≡ Some (Word TYPENAME) → longer (braced_form tokens deeper i) (typename_call_form tokens deeper i) ≡ typename_joined tokens deeper i
    unfolding braced_form typename_call_form basic_typename typename_joined typename_rest
    typename_is e = simp (basic_at_typename tokens deeper i e, assoc, factor) (pointwise (word tokens TYPENAME i) _ _ (λ t j. pointwise (splice tokens deeper j) _ _
        (λ n k. made_with (λ m l. typename_made (span tokens i l) (span tokens i k) n m) k)))

    -- ---- a name, and what may stand behind it

    extract_part : (n : NameTree) (j : ℕ) → extracts tokens n j ≡ true
        → longer (if extracts tokens n j then No Nothing else Tree (expr-of.Name n) j)
        (longer (and_then (braced tokens deeper j) (λ x k. Tree (expr-of.Braced (span tokens i k) (basic-of.Name n) x) k))
        (and_then (if extracts tokens n j then extract_of tokens deeper n j else No Nothing) (λ f k. Tree (f (span tokens i k)) k)))
        ≡ named_rest tokens deeper i n j
    unfolding named_rest extract_rest
    extract_part n j h =
        let less : kind tokens j ≡ Some (Punctuator LESS) = is_that_punctuator LESS (kind tokens j) (both_right (is_extract n) (is_punctuator LESS (kind tokens j)) h) in
        simp (h, no_braced tokens deeper j _ less refl)

    made_or_not : (n : NameTree) (j : ℕ) (e : End BracedTree) → EndsFrom (j + 1) e
        → longer (Tree (expr-of.Name n) j) (and_then e (λ x k. Tree (expr-of.Braced (span tokens i k) (basic-of.Name n) x) k))
        ≡ and_then (or_none e j) (λ x k. Tree (name_made n x (span tokens i k)) k)
    made_or_not n j (Tree x k) h = let lt : j < k = omega arith in longer_later _ _ j k lt
    made_or_not n j (No Nothing) h = refl
    made_or_not n j (No TooDeep) h = refl

    name_part : Rises (braced tokens deeper) → (n : NameTree) (j : ℕ) → extracts tokens n j ≡ false
        → longer (if extracts tokens n j then No Nothing else Tree (expr-of.Name n) j)
        (longer (and_then (braced tokens deeper j) (λ x k. Tree (expr-of.Braced (span tokens i k) (basic-of.Name n) x) k))
        (and_then (if extracts tokens n j then extract_of tokens deeper n j else No Nothing) (λ f k. Tree (f (span tokens i k)) k)))
        ≡ named_rest tokens deeper i n j
    unfolding named_rest name_rest optional
    name_part r n j h = simp (h, longer_nothing, assoc) (made_or_not n j (braced tokens deeper j) (r.at j))

    either_part : Rises (braced tokens deeper) → (n : NameTree) (j : ℕ) (b : Bool) → extracts tokens n j ≡ b
        → longer (if extracts tokens n j then No Nothing else Tree (expr-of.Name n) j)
        (longer (and_then (braced tokens deeper j) (λ x k. Tree (expr-of.Braced (span tokens i k) (basic-of.Name n) x) k))
        (and_then (if extracts tokens n j then extract_of tokens deeper n j else No Nothing) (λ f k. Tree (f (span tokens i k)) k)))
        ≡ named_rest tokens deeper i n j
    either_part r n j true h = extract_part n j h
    either_part r n j false h = name_part r n j h

    named_by : Rises (braced tokens deeper) → basic tokens deeper i ≡ basic_name tokens i
        → longer (name_form tokens i) (longer (braced_form tokens deeper i) (extract_form tokens deeper i)) ≡ named_joined tokens deeper i
    unfolding name_form braced_form extract_form basic_name named_joined
    named_by r b = simp (b, assoc, factor) (pointwise (name tokens i) _ _ (λ n j. either_part r n j (extracts tokens n j) refl))

    pub named_is_identifier : Rises (braced tokens deeper) → kind tokens i ≡ Some Identifier → vector_head tokens i ≡ No Nothing
        → longer (name_form tokens i) (longer (braced_form tokens deeper i) (extract_form tokens deeper i)) ≡ named_joined tokens deeper i
    named_is_identifier r e v = named_by r (basic_at_name tokens deeper i e v)

    pub named_is_punctuator : Rises (braced tokens deeper) → (n : ℕ) → kind tokens i ≡ Some (Punctuator n)
        → longer (name_form tokens i) (longer (braced_form tokens deeper i) (extract_form tokens deeper i)) ≡ named_joined tokens deeper i
    named_is_punctuator r n e = named_by r (basic_punctuator tokens deeper i n e)
