-- The cuts of the texts, computed span by span.
use Rattle.std.proofs.Common.{◌≡◌, List, [], ◌∷◌, ◌++◌, length, drop, Some, None, Ok, refl, sym, ap, subst, ◌∙◌}
use Rattle.std.proofs.Math.Seq.{take-append_seam}
use Rattle.std.proofs.lemmas.List.{append-nil, append_assoc}
use Rattle.cut_rows.specs.Cuts.{HaveTheirCuts}
use Rattle.cxx_tokens.specs.Characters.{Characters, start}
use Rattle.cxx_tokens.specs.Cutting.{IsCut, IsGap, Span, Gap, Piece, Stands, is_first_behind, joined, said_of}
use Rattle.cxx_tokens.specs.Gaps.{gap_at}
use Rattle.cxx_tokens.specs.Lex.{token_at}
use Rattle.cxx_tokens.specs.Punctuators.{punctuator_at}
use Rattle.cxx_tokens.specs.Tables.{punctuators}
use Rattle.cxx_tokens.proofs.GapForms.{gap_found, gap_is_found, no_gap_no_comment}
use Rattle.cxx_tokens.proofs.TokenForms.{found_by, token_found}
use Rattle.ucd_derived.specs.XidContinueRanges.{xid_continue_ranges}
use Rattle.ucd_derived.specs.XidStartRanges.{xid_start_ranges}
use Rattle.ucd_table.specs.Rows.{in_ranges}
use Rattle.unicode_ident.specs.Ident.{is_xid_start, is_xid_continue}

-- ---- what the scan finds at a place stands there

-- it finds the gap; or no gap, and the token, which says this
abbrev Shows : List Span → Span → Characters → Type 0
Shows before (Gap front) rest = gap_at start (is_first_behind before) (front ++ rest) ≡ Ok (Some (length front))
Shows before (Piece front said) rest =
    (gap_at start (is_first_behind before) (front ++ rest) ≡ Ok None)
    × (token_at start [] (front ++ rest) ≡ Ok (found_by [] said (length front))) × (said_of front rest ≡ Some said)

drop_seam : (front rest : Characters) → drop (length front) (front ++ rest) ≡ rest
drop_seam [] rest = refl
drop_seam (c ∷ front) rest = drop_seam front rest

shown : (before : List Span) (span : Span) (rest : Characters) → Shows before span rest → Stands before span rest
shown before (Gap front) rest h =
    subst (λ (behind : Characters). IsGap (is_first_behind before) front behind) (drop_seam front rest)
    (subst (λ (gap : Characters). IsGap (is_first_behind before) gap (drop (length front) (front ++ rest))) (take-append_seam front rest)
    (gap_found (is_first_behind before) start (front ++ rest) (length front) h).gap)
shown before (Piece front said) rest h =
    record {
      no_gap = λ gap behind same g.
          absurd (cc (sym h.0 ∙ ap (gap_at start (is_first_behind before)) (sym same) ∙ gap_is_found (is_first_behind before) gap behind g start));
      no_comment = no_gap_no_comment (is_first_behind before) start (front ++ rest) h.0;
      longest = (token_found start [] (front ++ rest) (found_by [] said (length front)) h.1).longest;
      says = h.2;
    }

-- ---- from the first span to the last

abbrev AllShow : List Span → List Span → Type 0
AllShow before [] = Unit {0}
AllShow before (span ∷ spans) = Shows before span (joined spans ++ []) × AllShow (before ++ span ∷ []) spans

stands_behind : (a b : List Span) → a ≡ b → (span : Span) (rest : Characters) → Stands a span rest → Stands b span rest
stands_behind a b same span rest h = subst (λ (before : List Span). Stands before span rest) same h

each : (before spans : List Span) → AllShow before spans
    → (b : List Span) (span : Span) (more : List Span) → spans ≡ b ++ span ∷ more → Stands (before ++ b) span (joined more ++ [])
each before [] all [] span more same = cc same
each before [] all (other ∷ b) span more same = cc same
each before (first ∷ spans) all [] span more same =
    let a : first ≡ span = cc same in
    let b : spans ≡ more = cc same in
    stands_behind before (before ++ []) (sym (append-nil before)) span (joined more ++ [])
    (subst (λ (more : List Span). Stands before span (joined more ++ [])) b
    (subst (λ (span : Span). Stands before span (joined spans ++ [])) a (shown before first (joined spans ++ []) all.0)))
each before (first ∷ spans) all (other ∷ b) span more same =
    let a : first ≡ other = cc same in
    let e : spans ≡ b ++ span ∷ more = cc same in
    stands_behind ((before ++ first ∷ []) ++ b) (before ++ other ∷ b)
    (append_assoc before (first ∷ []) b ∙ ap (λ (first : Span). before ++ first ∷ b) a) span (joined more ++ [])
    (each (before ++ first ∷ []) spans all.1 b span more e)

cut : (text : Characters) (spans : List Span) → joined spans ++ [] ≡ text → AllShow [] spans → IsCut text spans
cut text spans all shows = record { all = all; each = λ b span more same. each [] spans shows b span more same }

pub rows : HaveTheirCuts
unfolding said_of token_at punctuator_at punctuators is_xid_start is_xid_continue in_ranges xid_start_ranges xid_continue_ranges
rows =
    record {
      first_end = cut _ _ refl (refl, ((refl, refl, refl), ((refl, refl, refl), tt)));
      two_colons = cut _ _ refl ((refl, refl, refl), ((refl, refl, refl), ((refl, refl, refl), tt)));
      three_colons = cut _ _ refl ((refl, refl, refl), ((refl, refl, refl), ((refl, refl, refl), tt)));
      skipped_behind_comment = cut _ _ refl (refl, (refl, (refl, (refl, ((refl, refl, refl), tt)))));
      separated = cut _ _ refl ((refl, refl, refl), (refl, (refl, (refl, tt))));
    }
