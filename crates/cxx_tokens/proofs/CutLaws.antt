-- The scan of a text is its cut into gaps and tokens, and there is one cut.
use Rattle.std.proofs.Common.{◌≡◌, ◌⊎◌, inl, inr, ℕ, zero, suc, ◌+◌, ◌-◌, ◌<◌, ◌≤◌, Bool, true, false, List, [], ◌∷◌, ◌++◌, length, take, drop, codes, Option, Some, None, Result, Ok, Err, refl, sym, ap, subst, ◌∙◌, arith, true≢false}
use Rattle.std.proofs.Math.Seq.{take-append_seam}
use Rattle.std.proofs.lemmas.List.{append-nil, append_assoc, length-append, length-drop, length-take-le, take-append-drop}
use Rattle.std.specs.Str.{is_utf8}
use Rattle.cxx_base.specs.Texts.{Text}
use Rattle.cxx_base.specs.declared.place.Place.{Place}
use Rattle.cxx_tokens.specs.Characters.{Characters, after, after_all, begins_with, characters_of, start}
use Rattle.cxx_tokens.specs.Cutting.{AreOne, IsCutUpTo, IsGap, IsLexed, Said, Span, Gap, Piece, Stands, Cut, Stuck, NoCharacters, characters_in, is_first_behind, joined, kind_by, last_line, names_by, said_of, tokens_in, with_token}
use Rattle.cxx_tokens.specs.Faults.{Fault}
use Rattle.cxx_tokens.specs.Gaps.{gap_at}
use Rattle.cxx_tokens.specs.Lex.{Found, Lexed, behind, lex, lex_characters, lex_from, token_at, token_from}
use Rattle.cxx_tokens.specs.Munch.{IsLongest}
use Rattle.cxx_tokens.specs.declared.token.Token.{Token}
use Rattle.cxx_tokens.proofs.GapForms.{GapFound, gap_found, gap_is_found, gap_refused, no_gap_no_comment}
use Rattle.cxx_tokens.proofs.TokenForms.{comment_refused, fault_at, found_by, one_longest, tail_of, token_found, token_is_found, token_refused}
use Rattle.cxx_tokens.proofs.Turning.{first_is_gone}

-- ---- cuts from left to right

-- each of the spans stands at its place, behind those before
abbrev pub Chain : List Span → List Span → Characters → Type 0
Chain before [] rest = Unit {0}
Chain before (span ∷ spans) rest = Stands before span (joined spans ++ rest) × Chain (before ++ span ∷ []) spans rest

stands_behind : (a b : List Span) → a ≡ b → (span : Span) (rest : Characters) → Stands a span rest → Stands b span rest
stands_behind a b same span rest h = subst (λ (before : List Span). Stands before span rest) same h

chain_of : (before spans : List Span) (rest : Characters)
    → ((b : List Span) (span : Span) (more : List Span) → spans ≡ b ++ span ∷ more → Stands (before ++ b) span (joined more ++ rest)) → Chain before spans rest
chain_of before [] rest each = tt
chain_of before (span ∷ spans) rest each = (
  stands_behind (before ++ []) before (append-nil before) span (joined spans ++ rest) (each [] span spans refl),
  chain_of (before ++ span ∷ []) spans rest
      (λ b other more same.
      stands_behind (before ++ span ∷ b) ((before ++ span ∷ []) ++ b) (sym (append_assoc before (span ∷ []) b)) other (joined more ++ rest)
      (each (span ∷ b) other more (ap (λ (t : List Span). span ∷ t) same))),
)

each_of : (before spans : List Span) (rest : Characters) → Chain before spans rest
    → (b : List Span) (span : Span) (more : List Span) → spans ≡ b ++ span ∷ more → Stands (before ++ b) span (joined more ++ rest)
each_of before [] rest chain [] span more same = cc same
each_of before [] rest chain (other ∷ b) span more same = cc same
each_of before (first ∷ spans) rest chain [] span more same =
    let a : first ≡ span = cc same in
    let b : spans ≡ more = cc same in
    stands_behind before (before ++ []) (sym (append-nil before)) span (joined more ++ rest)
    (subst (λ (more : List Span). Stands before span (joined more ++ rest)) b (subst (λ (span : Span). Stands before span (joined spans ++ rest)) a chain.0))
each_of before (first ∷ spans) rest chain (other ∷ b) span more same =
    let a : first ≡ other = cc same in
    let e : spans ≡ b ++ span ∷ more = cc same in
    stands_behind ((before ++ first ∷ []) ++ b) (before ++ other ∷ b)
    (append_assoc before (first ∷ []) b ∙ ap (λ (first : Span). before ++ first ∷ b) a) span (joined more ++ rest)
    (each_of (before ++ first ∷ []) spans rest chain.1 b span more e)

-- ---- what stands before a span

joined_both : (a b : List Span) → joined (a ++ b) ≡ joined a ++ joined b
joined_both [] b = refl
joined_both (span ∷ a) b = ap (λ (t : Characters). characters_in span ++ t) (joined_both a b) ∙ sym (append_assoc (characters_in span) (joined a) (joined b))

after_both : (place : Place) (a b : Characters) → after_all place (a ++ b) ≡ after_all (after_all place a) b
after_both place [] b = refl
after_both place (c ∷ a) b = after_both (after place c) a b

abbrev place_behind : List Span → Place
place_behind before = after_all start (joined before)

abbrev line_behind : List Span → ℕ
line_behind before = last_line 0 start before

place_one_more : (before : List Span) (span : Span) → place_behind (before ++ span ∷ []) ≡ after_all (place_behind before) (characters_in span)
place_one_more before span =
    ap (after_all start) (joined_both before (span ∷ []) ∙ ap (λ (t : Characters). joined before ++ t) (append-nil (characters_in span)))
    ∙ after_both start (joined before) (characters_in span)

line_both : (line : ℕ) (place : Place) (a b : List Span) → last_line line place (a ++ b) ≡ last_line (last_line line place a) (after_all place (joined a)) b
line_both line place [] b = refl
line_both line place (Gap front ∷ a) b =
    line_both line (after_all place front) a b ∙ ap (λ p. last_line (last_line line (after_all place front) a) p b) (sym (after_both place front (joined a)))
line_both line place (Piece front said ∷ a) b =
    line_both place.line (after_all place front) a b ∙ ap (λ p. last_line (last_line place.line (after_all place front) a) p b) (sym (after_both place front (joined a)))

-- ---- what stands at a place is what the scan finds there

abbrev next : List Span → Characters → Result (Option ℕ) Fault
next before text = gap_at (place_behind before) (is_first_behind before) text

gap_next : (before : List Span) (front rest : Characters) → Stands before (Gap front) rest → next before (front ++ rest) ≡ Ok (Some (length front))
gap_next before front rest gap = gap_is_found (is_first_behind before) front rest gap (place_behind before)

-- a token stands where the scan finds no gap and a token
record IsNext (before : List Span) (front rest : Characters) (said : Said) : Type 0 where
  gap : next before (front ++ rest) ≡ Ok None
  token : (place : Place) (names : List Text) → token_at place names (front ++ rest) ≡ Ok (found_by names said (length front))
  some : 0 < length front

no_gap_here : (before : List Span) (text : Characters) → ((gap behind : Characters) → gap ++ behind ≡ text → IsGap (is_first_behind before) gap behind → ⊥)
    → begins_with (codes "/*") text ≡ false → next before text ≡ Ok None
no_gap_here before text none no_comment = by (next before text) refl
  where
    by : (r : Result (Option ℕ) Fault) → next before text ≡ r → r ≡ Ok None
    by (Ok None) e = refl
    by (Ok (Some n)) e =
        let found = gap_found (is_first_behind before) (place_behind before) text n e in
        absurd (none (take n text) (drop n text) (take-append-drop n text) found.gap)
    by (Err fault) e = absurd (true≢false (sym (gap_refused (is_first_behind before) (place_behind before) text fault e).0 ∙ no_comment))

token_next : (before : List Span) (front rest : Characters) (said : Said) → Stands before (Piece front said) rest → IsNext before front rest said
token_next before front rest said token =
    record {
      gap = no_gap_here before (front ++ rest) token.no_gap token.no_comment;
      token = λ place names. token_is_found place names front rest said token.longest token.says;
      some = (let tail = tail_of (length front) (front ++ rest) token.longest in omega (arith, tail.1));
    }

-- and the other way round
token_stands : (before : List Span) (text : Characters) (found : Found) → next before text ≡ Ok None → token_at (place_behind before) [] text ≡ Ok found
    → (said : Said) × Stands before (Piece (take found.length text) said) (drop found.length text)
token_stands before text found gap h =
    let n = found.length in
    let is = token_found (place_behind before) [] text found h in
    let long = length-take-le n text is.longest.within in
    let all = take-append-drop n text in (
      is.said,
      record {
        no_gap = λ front behind same g. nothing front behind same g;
        no_comment = ap (begins_with (codes "/*")) all ∙ no_gap_no_comment (is_first_behind before) (place_behind before) text gap;
        longest = subst (λ k. IsLongest k (take n text ++ drop n text)) (sym long) (subst (IsLongest n) (sym all) is.longest);
        says = is.says;
      },
    )
  where
    nothing : (front behind : Characters) → front ++ behind ≡ take found.length text ++ drop found.length text → IsGap (is_first_behind before) front behind → ⊥
    nothing front behind same g =
        let other : next before text ≡ Ok (Some (length front)) = ap (next before) (sym (same ∙ take-append-drop found.length text)) ∙ gap_next before front behind g in
        absurd (cc (sym gap ∙ other))

-- ---- there is a cut as far as one goes

abbrev StuckAt : List Span → Characters → Type 0
StuckAt before rest = (0 < length rest) × ((span : Span) (more : Characters) → characters_in span ++ more ≡ rest → Stands before span more → ⊥)

record Cutting (before : List Span) (text : Characters) : Type 0 where
  spans : List Span
  rest : Characters
  all : joined spans ++ rest ≡ text
  chain : Chain before spans rest
  ends : (rest ≡ []) ⊎ StuckAt (before ++ spans) rest

one_more : (before : List Span) (span : Span) (text behind : Characters) → characters_in span ++ behind ≡ text → Stands before span behind
    → Cutting (before ++ span ∷ []) behind → Cutting before text
one_more before span text behind same stands more =
    record {
      spans = span ∷ more.spans;
      rest = more.rest;
      all = append_assoc (characters_in span) (joined more.spans) more.rest ∙ ap (λ (t : Characters). characters_in span ++ t) more.all ∙ same;
      chain = (subst (Stands before span) (sym more.all) stands, more.chain);
      ends = ends more.ends;
    }
  where
    ends : (more.rest ≡ []) ⊎ StuckAt ((before ++ span ∷ []) ++ more.spans) more.rest → (more.rest ≡ []) ⊎ StuckAt (before ++ span ∷ more.spans) more.rest
    ends (inl h) = inl h
    ends (inr h) = inr (subst (λ (all : List Span). StuckAt all more.rest) (append_assoc before (span ∷ []) more.spans) h)

stuck_here : (before : List Span) (text : Characters) → StuckAt before text → Cutting before text
stuck_here before text stuck =
    record {
      spans = [];
      rest = text;
      all = refl;
      chain = tt;
      ends = inr (subst (λ (all : List Span). StuckAt all text) (sym (append-nil before)) stuck);
    }

cutting : (n : ℕ) (before : List Span) (text : Characters) → length text ≤ n → Cutting before text
cutting n before [] few = record { spans = []; rest = []; all = refl; chain = tt; ends = inl refl }
cutting zero before (c ∷ text) few = absurd (omega (arith, few))
cutting (suc n) before (c ∷ text) few = by (next before (c ∷ text)) refl (λ b t h. cutting n b t h)
  where
    all : Characters
    all = c ∷ text

    shorter : (k : ℕ) → 0 < k → k ≤ length all → length (drop k all) ≤ n
    shorter k some within = let l = length-drop k all in omega (arith, few, some, within, l)

    by : (r : Result (Option ℕ) Fault) → next before all ≡ r → ((b : List Span) (t : Characters) → length t ≤ n → Cutting b t) → Cutting before all
    by (Ok (Some k)) e go =
        let found = gap_found (is_first_behind before) (place_behind before) all k e in
        one_more before (Gap (take k all)) all (drop k all) (take-append-drop k all) found.gap
        (go (before ++ Gap (take k all) ∷ []) (drop k all) (shorter k found.some found.within))
    by (Err fault) e go =
        let refused = gap_refused (is_first_behind before) (place_behind before) all fault e in
        stuck_here before all (omega arith, none refused.0)
      where
        none : begins_with (codes "/*") all ≡ true → (span : Span) (more : Characters) → characters_in span ++ more ≡ all → Stands before span more → ⊥
        none begins (Gap front) more same stands = absurd (cc (sym e ∙ ap (next before) (sym same) ∙ gap_next before front more stands))
        none begins (Piece front said) more same stands = absurd (true≢false (sym begins ∙ ap (begins_with (codes "/*")) (sym same) ∙ stands.no_comment))
    by (Ok None) e go = other (token_at (place_behind before) [] all) refl
      where
        other : (r : Result Found Fault) → token_at (place_behind before) [] all ≡ r → Cutting before all
        other (Ok found) f =
            let stands = token_stands before all found e f in
            let is = token_found (place_behind before) [] all found f in
            let tail = tail_of found.length all is.longest in
            one_more before (Piece (take found.length all) stands.0) all (drop found.length all) (take-append-drop found.length all) stands.1
            (go (before ++ Piece (take found.length all) stands.0 ∷ []) (drop found.length all) (shorter found.length (omega (arith, tail.1)) is.longest.within))
        other (Err fault) f = stuck_here before all (omega arith, none)
          where
            none : (span : Span) (more : Characters) → characters_in span ++ more ≡ all → Stands before span more → ⊥
            none (Gap front) more same stands = absurd (cc (sym e ∙ ap (next before) (sym same) ∙ gap_next before front more stands))
            none (Piece front said) more same stands =
                let is = token_next before front more said stands in
                absurd (cc (sym f ∙ ap (token_at (place_behind before) []) (sym same) ∙ is.token (place_behind before) []))

-- ---- the scan over the spans of a cut

abbrev scan : List Span → ℕ → List Text → Characters → Result Lexed Fault
scan before number names text = lex_from 0 (place_behind before) (line_behind before) number names text

scan_gap : (before : List Span) (number : ℕ) (names : List Text) (front rest : Characters) → Stands before (Gap front) rest
    → scan before number names (front ++ rest) ≡ scan (before ++ Gap front ∷ []) number names rest
scan_gap before number names front rest stands = by (front ++ rest) refl (gap_next before front rest stands)
  where
    found : GapFound (is_first_behind before) (front ++ rest) (length front)
    found = gap_found (is_first_behind before) (place_behind before) (front ++ rest) (length front) (gap_next before front rest stands)

    by : (all : Characters) → front ++ rest ≡ all → next before all ≡ Ok (Some (length front))
        → scan before number names all ≡ scan (before ++ Gap front ∷ []) number names rest
    by [] same e = cc e
    by (c ∷ text) same e =
        let n = length front in
        let first : scan before number names (c ∷ text) ≡ lex_from (n - 1) (after (place_behind before) c) (line_behind before) number names text = rw e refl in
        let within = subst (λ (t : Characters). n ≤ length t) same found.within in
        let front_is : take n (c ∷ text) ≡ front = ap (take n) (sym same) ∙ take-append_seam front rest in
        let rest_is : drop n (c ∷ text) ≡ rest = ap (drop n) (sym same) ∙ drop_seam front rest in
        let place : place_behind (before ++ Gap front ∷ []) ≡ after_all (place_behind before) front = place_one_more before (Gap front) in
        let line : line_behind (before ++ Gap front ∷ []) ≡ line_behind before = line_both 0 start before (Gap front ∷ []) in
        first ∙ first_is_gone (place_behind before) (line_behind before) number names c text n found.some within
        ∙ ap (λ (front : Characters). lex_from 0 (after_all (place_behind before) front) (line_behind before) number names (drop n (c ∷ text))) front_is
        ∙ ap (λ (rest : Characters). lex_from 0 (after_all (place_behind before) front) (line_behind before) number names rest) rest_is
        ∙ ap (λ place. lex_from 0 place (line_behind before) number names rest) (sym place)
        ∙ ap (λ line. lex_from 0 (place_behind (before ++ Gap front ∷ [])) line number names rest) (sym line)
      where
        drop_seam : (a b : Characters) → drop (length a) (a ++ b) ≡ b
        drop_seam [] b = refl
        drop_seam (x ∷ a) b = drop_seam a b

scan_token : (before : List Span) (number : ℕ) (names : List Text) (front rest : Characters) (said : Said) → Stands before (Piece front said) rest
    → scan before number names (front ++ rest)
    ≡ behind (token_from (kind_by names said) (place_behind before) number ∷ []) (scan (before ++ Piece front said ∷ []) (number + 1) (names_by names said) rest)
scan_token before number names front rest said stands = by (front ++ rest) refl is.gap (is.token (place_behind before) names)
  where
    is : IsNext before front rest said
    is = token_next before front rest said stands

    by : (all : Characters) → front ++ rest ≡ all → next before all ≡ Ok None → token_at (place_behind before) names all ≡ Ok (found_by names said (length front))
        → scan before number names all
        ≡ behind (token_from (kind_by names said) (place_behind before) number ∷ []) (scan (before ++ Piece front said ∷ []) (number + 1) (names_by names said) rest)
    by [] same e f = let l : length front + length rest ≡ 0 = sym (length-append front rest) ∙ ap length same in let some = is.some in absurd (omega (arith, l, some))
    by (c ∷ text) same e f =
        let n = length front in
        let tok = token_from (kind_by names said) (place_behind before) number in
        let line = (place_behind before).line in
        let first : scan before number names (c ∷ text) ≡ behind (tok ∷ []) (lex_from (n - 1) (after (place_behind before) c) line (number + 1) (names_by names said) text) = rw (e, f) refl in
        let l : length front + length rest ≡ length (c ∷ text) = sym (length-append front rest) ∙ ap length same in
        let front_is : take n (c ∷ text) ≡ front = ap (take n) (sym same) ∙ take-append_seam front rest in
        let rest_is : drop n (c ∷ text) ≡ rest = ap (drop n) (sym same) ∙ drop_seam front rest in
        let place : place_behind (before ++ Piece front said ∷ []) ≡ after_all (place_behind before) front = place_one_more before (Piece front said) in
        let last : line_behind (before ++ Piece front said ∷ []) ≡ line = line_both 0 start before (Piece front said ∷ []) in
        first ∙ ap (behind (tok ∷ []))
        (first_is_gone (place_behind before) line (number + 1) (names_by names said) c text n is.some (omega (arith, l))
        ∙ ap (λ (front : Characters). lex_from 0 (after_all (place_behind before) front) line (number + 1) (names_by names said) (drop n (c ∷ text))) front_is
        ∙ ap (λ (rest : Characters). lex_from 0 (after_all (place_behind before) front) line (number + 1) (names_by names said) rest) rest_is
        ∙ ap (λ place. lex_from 0 place line (number + 1) (names_by names said) rest) (sym place)
        ∙ ap (λ line. lex_from 0 (place_behind (before ++ Piece front said ∷ [])) line (number + 1) (names_by names said) rest) (sym last))
      where
        drop_seam : (a b : Characters) → drop (length a) (a ++ b) ≡ b
        drop_seam [] b = refl
        drop_seam (x ∷ a) b = drop_seam a b

-- all of it
behind_ok : (token : Token) (found : Lexed) → behind (token ∷ []) (Ok found) ≡ Ok (with_token token found)
behind_ok token found = refl

scan_all : (before spans : List Span) (number : ℕ) (names : List Text) → Chain before spans []
    → scan before number names (joined spans ++ []) ≡ Ok (tokens_in (place_behind before) number names spans)
scan_all before [] number names chain = refl
scan_all before (Gap front ∷ spans) number names chain =
    ap (scan before number names) (append_assoc front (joined spans) [])
    ∙ scan_gap before number names front (joined spans ++ []) chain.0
    ∙ scan_all (before ++ Gap front ∷ []) spans number names chain.1
    ∙ ap (λ place. Ok (tokens_in place number names spans)) (place_one_more before (Gap front))
scan_all before (Piece front said ∷ spans) number names chain =
    let tok = token_from (kind_by names said) (place_behind before) number in
    ap (scan before number names) (append_assoc front (joined spans) [])
    ∙ scan_token before number names front (joined spans ++ []) said chain.0
    ∙ ap (behind (tok ∷ []))
    (scan_all (before ++ Piece front said ∷ []) spans (number + 1) (names_by names said) chain.1
    ∙ ap (λ place. Ok (tokens_in place (number + 1) (names_by names said) spans)) (place_one_more before (Piece front said)))

-- the scan is refused where the cut is stuck
scan_stuck : (before : List Span) (number : ℕ) (names : List Text) (rest : Characters) → StuckAt before rest
    → scan before number names rest ≡ Err (fault_at (place_behind before) rest)
scan_stuck before number names [] stuck = absurd (omega (arith, stuck.0))
scan_stuck before number names (c ∷ text) stuck = by (next before (c ∷ text)) refl
  where
    all : Characters
    all = c ∷ text

    by : (r : Result (Option ℕ) Fault) → next before all ≡ r → scan before number names all ≡ Err (fault_at (place_behind before) all)
    by (Ok (Some n)) e =
        let found = gap_found (is_first_behind before) (place_behind before) all n e in
        absurd (stuck.1 (Gap (take n all)) (drop n all) (take-append-drop n all) found.gap)
    by (Err fault) e =
        let refused = gap_refused (is_first_behind before) (place_behind before) all fault e in
        let here : scan before number names all ≡ Err fault = rw e refl in
        here ∙ ap Err (refused.1 ∙ comment_refused (place_behind before) all refused.0)
    by (Ok None) e = other (token_at (place_behind before) names all) refl
      where
        other : (r : Result Found Fault) → token_at (place_behind before) names all ≡ r → scan before number names all ≡ Err (fault_at (place_behind before) all)
        other (Ok found) f =
            let is = token_found (place_behind before) names all found f in
            let long = length-take-le found.length all is.longest.within in
            let whole = take-append-drop found.length all in
            let longest = subst (λ k. IsLongest k (take found.length all ++ drop found.length all)) (sym long) (subst (IsLongest found.length) (sym whole) is.longest) in
            let unnamed = ap (token_at (place_behind before) []) (sym whole) ∙ token_is_found (place_behind before) [] (take found.length all) (drop found.length all) is.said longest is.says in
            let stands = token_stands before all (found_by [] is.said (length (take found.length all))) e unnamed in
            absurd (stuck.1 (Piece (take (length (take found.length all)) all) stands.0) (drop (length (take found.length all)) all) (take-append-drop (length (take found.length all)) all) stands.1)
        other (Err fault) f =
            let here : scan before number names all ≡ Err fault = rw (e, f) refl in
            here ∙ ap Err (token_refused (place_behind before) names c text fault f (no_gap_no_comment (is_first_behind before) (place_behind before) all e))

scan_to_stuck : (before spans : List Span) (number : ℕ) (names : List Text) (rest : Characters) → Chain before spans rest → StuckAt (before ++ spans) rest
    → scan before number names (joined spans ++ rest) ≡ Err (fault_at (place_behind (before ++ spans)) rest)
scan_to_stuck before [] number names rest chain stuck =
    let same = append-nil before in
    scan_stuck before number names rest (subst (λ (all : List Span). StuckAt all rest) same stuck) ∙ ap (λ (all : List Span). Err (fault_at (place_behind all) rest)) (sym same)
scan_to_stuck before (Gap front ∷ spans) number names rest chain stuck =
    let same = append_assoc before (Gap front ∷ []) spans in
    ap (scan before number names) (append_assoc front (joined spans) rest)
    ∙ scan_gap before number names front (joined spans ++ rest) chain.0
    ∙ scan_to_stuck (before ++ Gap front ∷ []) spans number names rest chain.1 (subst (λ (all : List Span). StuckAt all rest) (sym same) stuck)
    ∙ ap (λ (all : List Span). Err (fault_at (place_behind all) rest)) same
scan_to_stuck before (Piece front said ∷ spans) number names rest chain stuck =
    let same = append_assoc before (Piece front said ∷ []) spans in
    let tok = token_from (kind_by names said) (place_behind before) number in
    ap (scan before number names) (append_assoc front (joined spans) rest)
    ∙ scan_token before number names front (joined spans ++ rest) said chain.0
    ∙ ap (behind (tok ∷ []))
    (scan_to_stuck (before ++ Piece front said ∷ []) spans (number + 1) (names_by names said) rest chain.1 (subst (λ (all : List Span). StuckAt all rest) (sym same) stuck)
    ∙ ap (λ (all : List Span). Err (fault_at (place_behind all) rest)) same)

-- ---- the laws

pub chain_from_cut : (text : Characters) (spans : List Span) (rest : Characters) → IsCutUpTo text spans rest → Chain [] spans rest
chain_from_cut text spans rest cut = chain_of [] spans rest cut.each

cut_from_chain : (text : Characters) (spans : List Span) (rest : Characters) → joined spans ++ rest ≡ text → Chain [] spans rest → IsCutUpTo text spans rest
cut_from_chain text spans rest all chain = record { all = all; each = each_of [] spans rest chain }

-- what the definition answers, the scan does
pub scan_is : (names : List Text) (bytes : Text) (answer : Result Lexed Fault) → IsLexed names bytes answer → lex names bytes ≡ answer
unfolding lex
scan_is names bytes answer (Cut spans utf8 cut) =
    rw utf8 (ap (lex_characters names) (sym cut.all) ∙ scan_all [] spans 0 names (chain_from_cut (characters_of bytes) spans [] cut))
scan_is names bytes answer (Stuck spans rest utf8 stuck) =
    rw utf8 (ap (lex_characters names) (sym stuck.cut.all) ∙ scan_to_stuck [] spans 0 names rest (chain_from_cut (characters_of bytes) spans rest stuck.cut) (stuck.some, stuck.none))
scan_is names bytes answer (NoCharacters other) = rw other refl

pub scan_is_cut : (names : List Text) (bytes : Text) → IsLexed names bytes (lex names bytes)
unfolding lex
scan_is_cut names bytes = by (is_utf8 bytes) refl
  where
    text : Characters
    text = characters_of bytes

    by : (b : Bool) → is_utf8 bytes ≡ b → IsLexed names bytes (lex names bytes)
    by false e = subst (IsLexed names bytes) (sym (scan_is names bytes _ (NoCharacters e))) (NoCharacters e)
    by true e = ended (cutting (length text) [] text (omega arith))
      where
        ended : Cutting [] text → IsLexed names bytes (lex names bytes)
        ended found = which found.ends
          where
            which : (found.rest ≡ []) ⊎ StuckAt ([] ++ found.spans) found.rest → IsLexed names bytes (lex names bytes)
            which (inl none) =
                let cut = Cut found.spans e (subst (IsCutUpTo text found.spans) none (cut_from_chain text found.spans found.rest found.all found.chain)) in
                subst (IsLexed names bytes) (sym (scan_is names bytes _ cut)) cut
            which (inr stuck) =
                let is = Stuck found.spans found.rest e (record { cut = cut_from_chain text found.spans found.rest found.all found.chain; some = stuck.0; none = stuck.1 }) in
                subst (IsLexed names bytes) (sym (scan_is names bytes _ is)) is

-- ---- there is one cut

same_front : (front other rest more : Characters) → front ++ rest ≡ other ++ more → length front ≡ length other → front ≡ other
same_front [] [] rest more same long = refl
same_front [] (d ∷ other) rest more same long = absurd (omega (arith, long))
same_front (c ∷ front) [] rest more same long = absurd (omega (arith, long))
same_front (c ∷ front) (d ∷ other) rest more same long =
    let first : c ≡ d = cc same in
    let tail : front ++ rest ≡ other ++ more = cc same in
    ap (λ c. c ∷ front) first ∙ ap (λ (t : Characters). d ∷ t) (same_front front other rest more tail (omega (arith, long)))

same_rest : (front other rest more : Characters) → front ++ rest ≡ other ++ more → front ≡ other → rest ≡ more
same_rest [] other rest more same e = same ∙ ap (λ (t : Characters). t ++ more) (sym e)
same_rest (c ∷ front) [] rest more same e = cc e
same_rest (c ∷ front) (d ∷ other) rest more same e = same_rest front other rest more (cc same) (cc e)

one_span : (before : List Span) (a b : Span) (rest more : Characters) → characters_in a ++ rest ≡ characters_in b ++ more → Stands before a rest → Stands before b more → a ≡ b
one_span before (Gap front) (Gap other) rest more same first second =
    let one : Some (length front) ≡ Some (length other) = cc (sym (gap_next before front rest first) ∙ ap (next before) same ∙ gap_next before other more second) in
    ap Gap (same_front front other rest more same (cc one))
one_span before (Gap front) (Piece other said) rest more same first second =
    absurd (second.no_gap front rest same first)
one_span before (Piece front said) (Gap other) rest more same first second =
    absurd (first.no_gap other more (sym same) second)
one_span before (Piece front said) (Piece other says) rest more same first second =
    let long = one_longest (length front) (length other) (other ++ more) (subst (IsLongest (length front)) same first.longest) second.longest in
    let e = same_front front other rest more same long in
    let r = same_rest front other rest more same e in
    let both : Some said ≡ Some says = sym first.says ∙ ap (λ front. said_of front rest) e ∙ ap (said_of other) r ∙ second.says in
    ap (λ front. Piece front said) e ∙ ap (Piece other) (cc both)

pub some_characters : (before : List Span) (span : Span) (rest : Characters) → Stands before span rest → 0 < length (characters_in span)
some_characters before (Gap front) rest stands = (gap_found (is_first_behind before) (place_behind before) (front ++ rest) (length front) (gap_next before front rest stands)).some
some_characters before (Piece front said) rest stands = (token_next before front rest said stands).some

one_chain : (before a b : List Span) → joined a ++ [] ≡ joined b ++ [] → Chain before a [] → Chain before b [] → a ≡ b
one_chain before [] [] same first second = refl
one_chain before [] (span ∷ b) same first second =
    let some = some_characters before span (joined b ++ []) second.0 in
    let l : 0 ≡ length ((characters_in span ++ joined b) ++ []) = ap length same in
    let m = length-append (characters_in span ++ joined b) [] in
    let n = length-append (characters_in span) (joined b) in
    absurd (omega (arith, some, l, m, n))
one_chain before (span ∷ a) [] same first second =
    let some = some_characters before span (joined a ++ []) first.0 in
    let l : length ((characters_in span ++ joined a) ++ []) ≡ 0 = ap length same in
    let m = length-append (characters_in span ++ joined a) [] in
    let n = length-append (characters_in span) (joined a) in
    absurd (omega (arith, some, l, m, n))
one_chain before (span ∷ a) (other ∷ b) same first second =
    let here = sym (append_assoc (characters_in span) (joined a) []) ∙ same ∙ append_assoc (characters_in other) (joined b) [] in
    let e = one_span before span other (joined a ++ []) (joined b ++ []) here first.0 second.0 in
    let rest = same_rest (characters_in span) (characters_in other) (joined a ++ []) (joined b ++ []) here (ap characters_in e) in
    let chain = subst (λ (span : Span). Chain (before ++ span ∷ []) a []) e first.1 in
    ap (λ (span : Span). span ∷ a) e ∙ ap (λ (t : List Span). other ∷ t) (one_chain (before ++ other ∷ []) a b rest chain second.1)

pub are_one : AreOne
are_one =
    record {
      cuts = λ text a b first second. one_chain [] a b (first.all ∙ sym second.all) (chain_from_cut text a [] first) (chain_from_cut text b [] second);
      answers = λ names bytes a b first second. sym (scan_is names bytes a first) ∙ scan_is names bytes b second;
    }
