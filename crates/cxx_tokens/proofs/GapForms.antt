-- The gaps that the scan finds are those of the definition.
use Rattle.std.proofs.Common.{◌≡◌, ℕ, suc, ◌+◌, ◌<◌, ◌≤◌, Bool, true, false, ◌&&◌, not, cond, eqb, [], ◌∷◌, ◌++◌, length, take, drop, codes, Option, Some, None, option_map, Ok, Err, refl, sym, ap, subst, ◌∙◌, arith, true≢false}
use Rattle.std.proofs.lemmas.Bool.{and_parts, and_from, eqb-true}
use Rattle.std.proofs.lemmas.List.{length-append}
use Rattle.std.proofs.lemmas.List.Sums.{prefix_len-le-length}
use Rattle.std.specs.List.{list_all, prefix_len}
use Rattle.cxx_base.specs.declared.place.Place.{Place}
use Rattle.cxx_tokens.specs.Characters.{Characters, begins_with, first_is, is_in_line, is_space, line_feed, number_sign, slash, star}
use Rattle.cxx_tokens.specs.Cutting.{IsGap, ends_line, white, line, block, skipped}
use Rattle.cxx_tokens.specs.Faults.{Fault, L4}
use Rattle.cxx_tokens.specs.Gaps.{block_len, comment_at, ended, gap_at, is_skipped, skipped_len}
use Rattle.cxx_tokens.specs.Literals.{is_line_end}
use Rattle.cxx_tokens.proofs.Fronts.{run_front}
use Rattle.cxx_tokens.proofs.SkippedForms.{skipped_is_scanned, scanned_is_skipped}

-- ---- lines

line_end : (text : Characters) → is_line_end (drop (prefix_len is_in_line text) text) ≡ true
line_end [] = refl
line_end (c ∷ text) = by (eqb c line_feed) refl (line_end text)
  where
    by : (b : Bool) → eqb c line_feed ≡ b → is_line_end (drop (prefix_len is_in_line text) text) ≡ true
        → is_line_end (drop (cond (not b) (1 + prefix_len is_in_line text) 0) (c ∷ text)) ≡ true
    by true e more = e
    by false e more =
        let one : 1 + prefix_len is_in_line text ≡ suc (prefix_len is_in_line text) = omega arith in
        ap (λ n. is_line_end (drop n (c ∷ text))) one ∙ more

ends_here : (text : Characters) → ends_line (take (prefix_len is_in_line text) text) (drop (prefix_len is_in_line text) text) ≡ true
ends_here text = and_from _ _ (run_front is_in_line (prefix_len is_in_line text) text (omega arith)) (line_end text)

line_len : (front rest : Characters) → ends_line front rest ≡ true → prefix_len is_in_line (front ++ rest) ≡ length front
line_len [] [] h = refl
line_len [] (c ∷ rest) h = let e : c ≡ line_feed = eqb-true c line_feed h in rw e refl
line_len (c ∷ front) rest h =
    let parts = and_parts (list_all is_in_line (c ∷ front)) (is_line_end rest) h in
    let both = and_parts (is_in_line c) (list_all is_in_line front) parts.0 in
    let more = line_len front rest (and_from _ _ both.1 parts.1) in
    ap (λ b. cond b (1 + prefix_len is_in_line (front ++ rest)) 0) both.0 ∙ omega (arith, more)

-- ---- comments

-- what is before the first end of a comment
pub record FirstEnd (text : Characters) (n : ℕ) : Type 0 where
  pub body : Characters
  pub rest : Characters
  pub same : text ≡ body ++ star ∷ slash ∷ rest
  pub long : n ≡ length body + 2
  pub first : (other behind : Characters) → other ++ star ∷ slash ∷ behind ≡ body ++ star ∷ slash ∷ [] → behind ≡ []

no_length : (text : Characters) → length text ≡ 0 → text ≡ []
no_length [] h = refl
no_length (c ∷ text) h = absurd (omega (arith, h))

heads : (c d : ℕ) (text other : Characters) → c ∷ text ≡ d ∷ other → c ≡ d
heads c d text other h = cc h

tails : (c d : ℕ) (text other : Characters) → c ∷ text ≡ d ∷ other → text ≡ other
tails c d text other h = cc h

first_end : (text : Characters) (n : ℕ) → block_len text ≡ Some n → FirstEnd text n
first_end [] n h = cc h
first_end (c ∷ text) n h = by (eqb c star && first_is (λ d. eqb d slash) text) refl (block_len text) refl h (λ k f. first_end text k f)
  where
    here : (text : Characters) → (eqb c star && first_is (λ d. eqb d slash) text) ≡ true → n ≡ 2 → FirstEnd (c ∷ text) n
    here [] e long = absurd (true≢false (sym (and_parts (eqb c star) false e).1))
    here (d ∷ text) e long =
        let parts = and_parts (eqb c star) (eqb d slash) e in
        let a : c ≡ star = eqb-true c star parts.0 in
        let b : d ≡ slash = eqb-true d slash parts.1 in
        record {
          body = [];
          rest = text;
          same = ap (λ c. c ∷ d ∷ text) a ∙ ap (λ d. star ∷ d ∷ text) b;
          long = long ∙ omega arith;
          first = λ other behind same.
              (let all = ap length same in
              let l = length-append other (star ∷ slash ∷ behind) in
              no_length behind (omega (arith, all, l)));
        }

    by : (b : Bool) → (eqb c star && first_is (λ d. eqb d slash) text) ≡ b → (o : Option ℕ) → block_len text ≡ o
        → cond b (Some 2) (option_map (λ n. 1 + n) o) ≡ Some n → ((k : ℕ) → block_len text ≡ Some k → FirstEnd text k) → FirstEnd (c ∷ text) n
    by true e o f h go = let two : 2 ≡ n = cc h in here text e (sym two)
    by false e None f h go = cc h
    by false e (Some k) f h go =
        let one : 1 + k ≡ n = cc h in
        let more = go k f in
        record {
          body = c ∷ more.body;
          rest = more.rest;
          same = ap (λ (t : Characters). c ∷ t) more.same;
          long = omega (arith, one, more.long);
          first = λ other behind same. none_before more other behind same;
        }
      where
        slash_first : (body rest behind : Characters) → slash ∷ behind ≡ body ++ star ∷ slash ∷ [] → first_is (λ d. eqb d slash) (body ++ star ∷ slash ∷ rest) ≡ true
        slash_first [] rest behind h = let e : slash ≡ star = heads slash star behind (slash ∷ []) h in absurd (omega (arith, e))
        slash_first (d ∷ body) rest behind h = let e : slash ≡ d = heads slash d behind (body ++ star ∷ slash ∷ []) h in rw (sym e) refl

        none_before : (more : FirstEnd text k) (other behind : Characters) → other ++ star ∷ slash ∷ behind ≡ c ∷ (more.body ++ star ∷ slash ∷ []) → behind ≡ []
        none_before more [] behind same =
            let is : star ≡ c = heads star c (slash ∷ behind) (more.body ++ star ∷ slash ∷ []) same in
            let next = slash_first more.body more.rest behind (tails star c (slash ∷ behind) (more.body ++ star ∷ slash ∷ []) same) in
            let both : (eqb c star && first_is (λ d. eqb d slash) text) ≡ true = and_from _ _ (ap (λ d. eqb d star) (sym is)) (ap (first_is (λ d. eqb d slash)) more.same ∙ next) in
            absurd (true≢false (sym both ∙ e))
        none_before more (d ∷ other) behind same = more.first other behind (tails d c (other ++ star ∷ slash ∷ behind) (more.body ++ star ∷ slash ∷ []) same)

-- the scan ends at the first end
ends_first : (body rest : Characters) → ((other behind : Characters) → other ++ star ∷ slash ∷ behind ≡ body ++ star ∷ slash ∷ [] → behind ≡ [])
    → block_len (body ++ star ∷ slash ∷ rest) ≡ Some (length body + 2)
ends_first [] rest first = refl
ends_first (c ∷ body) rest first =
    by (eqb c star) refl (first_is (λ d. eqb d slash) (body ++ star ∷ slash ∷ rest)) refl
    (goes_on (ends_first body rest (λ other behind same. first (c ∷ other) behind (ap (λ (t : Characters). c ∷ t) same))))
  where
    goes_on : block_len (body ++ star ∷ slash ∷ rest) ≡ Some (length body + 2) → option_map (λ n. 1 + n) (block_len (body ++ star ∷ slash ∷ rest)) ≡ Some (length (c ∷ body) + 2)
    goes_on more = let e : 1 + (length body + 2) ≡ suc (length body) + 2 = omega arith in ap (option_map (λ n. 1 + n)) more ∙ ap Some e

    no_end : (body : Characters) → ((other behind : Characters) → other ++ star ∷ slash ∷ behind ≡ c ∷ (body ++ star ∷ slash ∷ []) → behind ≡ []) → c ≡ star
        → first_is (λ d. eqb d slash) (body ++ star ∷ slash ∷ rest) ≡ true → true ≡ false
    no_end [] first is next = sym next
    no_end (d ∷ body) first is next =
        let e : d ≡ slash = eqb-true d slash next in
        let none : body ++ star ∷ slash ∷ [] ≡ [] = first [] (body ++ star ∷ slash ∷ []) (ap (λ d. star ∷ d ∷ (body ++ star ∷ slash ∷ [])) (sym e) ∙ ap (λ c. c ∷ d ∷ (body ++ star ∷ slash ∷ [])) (sym is)) in
        let l = length-append body (star ∷ slash ∷ []) in
        let z : length (body ++ star ∷ slash ∷ []) ≡ 0 = ap length none in
        absurd (omega (arith, l, z))

    by : (a : Bool) → eqb c star ≡ a → (b : Bool) → first_is (λ d. eqb d slash) (body ++ star ∷ slash ∷ rest) ≡ b
        → option_map (λ n. 1 + n) (block_len (body ++ star ∷ slash ∷ rest)) ≡ Some (length (c ∷ body) + 2)
        → cond (a && b) (Some 2) (option_map (λ n. 1 + n) (block_len (body ++ star ∷ slash ∷ rest))) ≡ Some (length (c ∷ body) + 2)
    by true e true f on = absurd (true≢false (no_end body first (eqb-true c star e) f))
    by true e false f on = on
    by false e b f on = on

-- ---- gaps of the definition are found

append_both : (a b c : Characters) → (a ++ b) ++ c ≡ a ++ (b ++ c)
append_both [] b c = refl
append_both (x ∷ a) b c = ap (λ (t : Characters). x ∷ t) (append_both a b c)

pub gap_is_found : (first : Bool) (front rest : Characters) → IsGap first front rest → (place : Place) → gap_at place first (front ++ rest) ≡ Ok (Some (length front))
gap_is_found first front rest (white c h s) place = rw (h, s) refl
gap_is_found first front rest (line text h e) place =
    let run = line_len text rest e in
    let n : 2 + prefix_len is_in_line (text ++ rest) ≡ length (slash ∷ slash ∷ text) = omega (arith, run) in
    ap (λ front. gap_at place first (front ++ rest)) h ∙ ap (λ n. Ok (Some n)) n ∙ ap (λ front. Ok (Some (length front))) (sym h)
gap_is_found first front rest (block text h once) place =
    let found = ends_first text rest (λ other behind same. once other behind (ap (λ (t : Characters). slash ∷ star ∷ t) same ∙ sym h)) in
    let l = length-append text (star ∷ slash ∷ []) in
    let n : 2 + (length text + 2) ≡ length (slash ∷ star ∷ (text ++ star ∷ slash ∷ [])) = omega (arith, l) in
    ap (λ front. gap_at place first (front ++ rest)) h
    ∙ ap (λ t. ended place (block_len t)) (append_both text (star ∷ slash ∷ []) rest) ∙ ap (ended place) found
    ∙ ap (λ n. Ok (Some n)) n ∙ ap (λ front. Ok (Some (length front))) (sym h)
gap_is_found first front rest (skipped is text h s e) place =
    let run = line_len text rest e in
    let whole : take (prefix_len is_in_line (text ++ rest)) (text ++ rest) ≡ text = ap (λ n. take n (text ++ rest)) run ∙ front_of text rest in
    let n : 1 + prefix_len is_in_line (text ++ rest) ≡ length (number_sign ∷ text) = omega (arith, run) in
    let yes : is_skipped (take (prefix_len is_in_line (text ++ rest)) (text ++ rest)) ≡ true = ap is_skipped whole ∙ skipped_is_scanned text s in
    ap (λ front. gap_at place first (front ++ rest)) h ∙ ap (λ b. cond b (Ok (skipped_len (text ++ rest))) (Ok None)) is
    ∙ ap (λ b. Ok (cond b (Some (1 + prefix_len is_in_line (text ++ rest))) None)) yes
    ∙ ap (λ n. Ok (Some n)) n ∙ ap (λ front. Ok (Some (length front))) (sym h)
  where
    front_of : (text rest : Characters) → take (length text) (text ++ rest) ≡ text
    front_of [] rest = refl
    front_of (c ∷ text) rest = ap (λ (t : Characters). c ∷ t) (front_of text rest)

-- ---- gaps that are found are those of the definition

-- a gap of so many characters
pub record GapFound (first : Bool) (text : Characters) (n : ℕ) : Type 0 where
  pub some : 0 < n
  pub within : n ≤ length text
  pub gap : IsGap first (take n text) (drop n text)

-- two characters and a front
behind_two : (c d : ℕ) (text : Characters) (n k : ℕ) → n ≡ 2 + k → k ≤ length text → (first : Bool) → IsGap first (c ∷ d ∷ take k text) (drop k text) → GapFound first (c ∷ d ∷ text) n
behind_two c d text n k long few first gap =
    let two : 2 + k ≡ suc (suc k) = omega arith in
    subst (GapFound first (c ∷ d ∷ text)) (sym (long ∙ two)) (record { some = omega arith; within = omega (arith, few); gap = gap })

comment_found : (first : Bool) (place : Place) (text : Characters) (n : ℕ) → comment_at place text ≡ Ok (Some n) → GapFound first (slash ∷ text) n
comment_found first place [] n h = cc h
comment_found first place (d ∷ text) n h = by (eqb d slash) refl (eqb d star) refl (block_len text) refl h
  where
    by : (a : Bool) → eqb d slash ≡ a → (b : Bool) → eqb d star ≡ b → (o : Option ℕ) → block_len text ≡ o
        → cond a (Ok (Some (2 + prefix_len is_in_line text))) (cond b (ended place o) (Ok None)) ≡ Ok (Some n) → GapFound first (slash ∷ d ∷ text) n
    by true e b f o g h =
        let long : 2 + prefix_len is_in_line text ≡ n = cc h in
        let is : d ≡ slash = eqb-true d slash e in
        let k = prefix_len is_in_line text in
        behind_two slash d text n k (sym long) (prefix_len-le-length is_in_line text) first
        (line (take k text) (ap (λ d. slash ∷ d ∷ take k text) is) (ends_here text))
    by false e true f None g h = cc h
    by false e true f (Some k) g h =
        let long : 2 + k ≡ n = cc h in
        let is : d ≡ star = eqb-true d star f in
        let end = first_end text k g in
        let l = length-append end.body (star ∷ slash ∷ end.rest) in
        let all : length text ≡ length (end.body ++ star ∷ slash ∷ end.rest) = ap length end.same in
        let front : take k text ≡ end.body ++ star ∷ slash ∷ [] = ap (λ n. take n text) end.long ∙ ap (take (length end.body + 2)) end.same ∙ front_and_two end.body end.rest in
        behind_two slash d text n k (sym long) (omega (arith, l, all, end.long)) first
        (block end.body (ap (λ d. slash ∷ d ∷ take k text) is ∙ ap (λ (t : Characters). slash ∷ star ∷ t) front)
        (λ other behind same.
        end.first other behind (tails star d (other ++ star ∷ slash ∷ behind) (take k text) (tails slash slash (star ∷ (other ++ star ∷ slash ∷ behind)) (d ∷ take k text) same) ∙ front)))
      where
        front_and_two : (body rest : Characters) → take (length body + 2) (body ++ star ∷ slash ∷ rest) ≡ body ++ star ∷ slash ∷ []
        front_and_two [] rest = refl
        front_and_two (c ∷ body) rest =
            let e : suc (length body) + 2 ≡ suc (length body + 2) = omega arith in
            ap (λ n. take n (c ∷ (body ++ star ∷ slash ∷ rest))) e ∙ ap (λ (t : Characters). c ∷ t) (front_and_two body rest)
    by false e false f o g h = cc h

skipped_found : (text : Characters) (n : ℕ) → skipped_len text ≡ Some n → GapFound true (number_sign ∷ text) n
skipped_found text n h = by (is_skipped (take (prefix_len is_in_line text) text)) refl h
  where
    by : (b : Bool) → is_skipped (take (prefix_len is_in_line text) text) ≡ b → cond b (Some (1 + prefix_len is_in_line text)) None ≡ Some n
        → GapFound true (number_sign ∷ text) n
    by true e h =
        let long : 1 + prefix_len is_in_line text ≡ n = cc h in
        let k = prefix_len is_in_line text in
        let few = prefix_len-le-length is_in_line text in
        let one : 1 + k ≡ suc k = omega arith in
        subst (GapFound true (number_sign ∷ text)) (sym one ∙ long)
        (record { some = omega arith; within = omega (arith, few); gap = skipped refl (take k text) refl (scanned_is_skipped (take k text) e) (ends_here text) })
    by false e h = cc h

pub gap_found : (first : Bool) (place : Place) (text : Characters) (n : ℕ) → gap_at place first text ≡ Ok (Some n) → GapFound first text n
gap_found first place [] n h = cc h
gap_found first place (c ∷ text) n h = by (is_space c) refl (eqb c slash) refl (eqb c number_sign) refl first refl h
  where
    by : (a : Bool) → is_space c ≡ a → (b : Bool) → eqb c slash ≡ b → (d : Bool) → eqb c number_sign ≡ d → (f : Bool) → first ≡ f
        → cond a (Ok (Some 1)) (cond b (comment_at place text) (cond (d && f) (Ok (skipped_len text)) (Ok None))) ≡ Ok (Some n)
        → GapFound first (c ∷ text) n
    by true e b g d k f i h =
        let one : 1 ≡ n = cc h in
        subst (GapFound first (c ∷ text)) one (record { some = omega arith; within = omega arith; gap = white c refl e })
    by false e true g d k f i h =
        let is : c ≡ slash = eqb-true c slash g in
        subst (λ c. GapFound first (c ∷ text) n) (sym is) (comment_found first place text n h)
    by false e false g true k true i h =
        let is : c ≡ number_sign = eqb-true c number_sign k in
        subst (λ first. GapFound first (c ∷ text) n) (sym i) (subst (λ c. GapFound true (c ∷ text) n) (sym is) (skipped_found text n (cc h)))
    by false e false g true k false i h = cc h
    by false e false g false k f i h = cc h

-- where no gap begins, no comment does
pub no_gap_no_comment : (first : Bool) (place : Place) (text : Characters) → gap_at place first text ≡ Ok None → begins_with (codes "/*") text ≡ false
no_gap_no_comment first place [] h = refl
no_gap_no_comment first place (c ∷ []) h = by (eqb c slash)
  where
    by : (a : Bool) → (a && false) ≡ false
    by true = refl
    by false = refl
no_gap_no_comment first place (c ∷ d ∷ text) h = by (eqb c slash) refl (eqb d star) refl
  where
    never : (o : Option ℕ) → ended place o ≡ Ok None → (true && (true && true)) ≡ false
    never None h = cc h
    never (Some n) h = cc h

    by : (a : Bool) → eqb c slash ≡ a → (b : Bool) → eqb d star ≡ b → (a && (b && true)) ≡ false
    by true e true f =
        let first_is : c ≡ slash = eqb-true c slash e in
        let next_is : d ≡ star = eqb-true d star f in
        never (block_len text) (sym (ap (λ d. gap_at place first (slash ∷ d ∷ text)) next_is) ∙ sym (ap (λ c. gap_at place first (c ∷ d ∷ text)) first_is) ∙ h)
    by true e false f = refl
    by false e b f = refl

-- where the scan refuses a gap, a comment begins that does not end
pub gap_refused : (first : Bool) (place : Place) (text : Characters) (fault : Fault) → gap_at place first text ≡ Err fault
    → (begins_with (codes "/*") text ≡ true) × (fault ≡ L4 place)
gap_refused first place [] fault h = cc h
gap_refused first place (c ∷ text) fault h = by (is_space c) (eqb c slash) refl (eqb c number_sign && first) h
  where
    comment : (text : Characters) → comment_at place text ≡ Err fault → (first_is (λ d. eqb d star) text ≡ true) × (fault ≡ L4 place)
    comment [] h = cc h
    comment (d ∷ text) h = other (eqb d slash) (eqb d star) refl (block_len text) h
      where
        other : (a b : Bool) → eqb d star ≡ b → (o : Option ℕ) → cond a (Ok (Some (2 + prefix_len is_in_line text))) (cond b (ended place o) (Ok None)) ≡ Err fault
            → (eqb d star ≡ true) × (fault ≡ L4 place)
        other true b e o h = cc h
        other false true e None h = let same : L4 place ≡ fault = cc h in (e, sym same)
        other false true e (Some n) h = cc h
        other false false e o h = cc h

    begins : (text : Characters) → first_is (λ d. eqb d star) text ≡ true → eqb c slash ≡ true → begins_with (codes "/*") (c ∷ text) ≡ true
    begins [] next e = absurd (true≢false (sym next))
    begins (d ∷ text) next e = rw (e, next) refl

    by : (a b : Bool) → eqb c slash ≡ b → (d : Bool) → cond a (Ok (Some 1)) (cond b (comment_at place text) (cond d (Ok (skipped_len text)) (Ok None))) ≡ Err fault
        → (begins_with (codes "/*") (c ∷ text) ≡ true) × (fault ≡ L4 place)
    by true b e d h = cc h
    by false true e d h = let is = comment text h in (begins text is.0 e, is.1)
    by false false e true h = cc h
    by false false e false h = cc h
