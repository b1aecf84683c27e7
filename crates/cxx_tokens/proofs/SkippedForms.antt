-- The lines that the scan skips are those of the definition.
use Rattle.std.proofs.Common.{◌≡◌, ◌⊎◌, inl, inr, ℕ, suc, ◌+◌, ◌<◌, Bool, true, false, ◌||◌, not, cond, eqb, ltb, List, [], ◌∷◌, ◌++◌, length, map, take, drop, codes, refl, sym, ap, ◌∙◌, arith, true≢false}
use Rattle.std.proofs.lemmas.Bool.{and_parts, and_from, eqb-true, ltb-true}
use Rattle.std.proofs.lemmas.Bool.Decides.{nat_tests}
use Rattle.std.proofs.lemmas.List.{take-append-drop}
use Rattle.std.specs.Char.{is_ascii_digit}
use Rattle.std.specs.Cmp.Lexicographic.{bytes_decides}
use Rattle.std.specs.List.{list_all, prefix_len, AllByRecursion}
use Rattle.cxx_tokens.specs.Characters.{Characters, begins_with, first_is, is_blank, double_quote}
use Rattle.cxx_tokens.specs.Gaps.{past, is_empty, is_no_quote, is_flags, is_end_of_marker, has_file_name, is_marker, is_header, is_include, is_skipped}
use Rattle.cxx_tokens.specs.SkippedLines.{AreBlanks, AreDigits, AreUnquoted, IsSkipped, end_to_end, marker, header}

-- ---- runs of a class

module _ (p : ℕ → Bool) where
  -- a character of the class is passed
  passed : (c : ℕ) (text : Characters) → p c ≡ true → past p (c ∷ text) ≡ past p text
  passed c text e =
      let one : 1 + prefix_len p text ≡ suc (prefix_len p text) = omega arith in
      ap (λ b. drop (cond b (1 + prefix_len p text) 0) (c ∷ text)) e ∙ ap (λ n. drop n (c ∷ text)) one

  -- and no other is
  stopped : (c : ℕ) (text : Characters) → p c ≡ false → past p (c ∷ text) ≡ c ∷ text
  stopped c text e = ap (λ b. drop (cond b (1 + prefix_len p text) 0) (c ∷ text)) e

  past_run : (run rest : Characters) → list_all p run ≡ true → first_is p rest ≡ false → past p (run ++ rest) ≡ rest
  past_run [] [] all none = refl
  past_run [] (c ∷ rest) all none = stopped c rest none
  past_run (c ∷ run) rest all none =
      let both = and_parts (p c) (list_all p run) all in
      passed c (run ++ rest) both.0 ∙ past_run run rest both.1 none

  past_all : (run : Characters) → list_all p run ≡ true → past p run ≡ []
  past_all [] all = refl
  past_all (c ∷ run) all =
      let both = and_parts (p c) (list_all p run) all in
      passed c run both.0 ∙ past_all run both.1

  all_passed : (text : Characters) → is_empty (past p text) ≡ true → list_all p text ≡ true
  all_passed [] h = refl
  all_passed (c ∷ text) h = by (p c) refl (all_passed text)
    where
      by : (b : Bool) → p c ≡ b → (is_empty (past p text) ≡ true → list_all p text ≡ true) → list_all p (c ∷ text) ≡ true
      by true e more = and_from (p c) (list_all p text) e (more (ap is_empty (sym (passed c text e)) ∙ h))
      by false e more = absurd (true≢false (sym h ∙ ap is_empty (stopped c text e)))

  -- the longest run at the front of a text
  pub record Split (text : Characters) : Type 0 where
    pub run : Characters
    pub whole : text ≡ run ++ past p text
    pub all : list_all p run ≡ true
    pub long : length run ≡ prefix_len p text
    pub none : first_is p (past p text) ≡ false

  split : (text : Characters) → Split text
  split [] = record { run = []; whole = refl; all = refl; long = refl; none = refl }
  split (c ∷ text) = by (p c) refl (split text)
    where
      by : (b : Bool) → p c ≡ b → Split text → Split (c ∷ text)
      by true e more =
          let on = passed c text e in
          let one : length (c ∷ more.run) ≡ 1 + prefix_len p text = omega (arith, more.long) in
          record {
            run = c ∷ more.run;
            whole = ap (λ (t : Characters). c ∷ t) more.whole ∙ ap (λ (t : Characters). (c ∷ more.run) ++ t) (sym on);
            all = and_from (p c) (list_all p more.run) e more.all;
            long = one ∙ ap (λ b. cond b (1 + prefix_len p text) 0) (sym e);
            none = ap (first_is p) on ∙ more.none;
          }
      by false e more =
          let here = stopped c text e in
          record {
            run = [];
            whole = sym here;
            all = refl;
            long = ap (λ b. cond b (1 + prefix_len p text) 0) (sym e);
            none = ap (first_is p) here ∙ e;
          }

  -- the first character of a text that begins with a run of another class
  module _ (q : ℕ → Bool) (apart : (c : ℕ) → p c ≡ true → q c ≡ false) where
    first_of_run : (run rest : Characters) → 0 < length run → list_all p run ≡ true → first_is q (run ++ rest) ≡ false
    first_of_run [] rest some all = absurd (omega (arith, some))
    first_of_run (c ∷ run) rest some all = apart c (and_parts (p c) (list_all p run) all).0

    first_behind_run : (run rest : Characters) → list_all p run ≡ true → first_is q rest ≡ false → first_is q (run ++ rest) ≡ false
    first_behind_run [] rest all none = none
    first_behind_run (c ∷ run) rest all none = apart c (and_parts (p c) (list_all p run) all).0

-- ---- classes

digit_is_no_blank : (c : ℕ) → is_ascii_digit c ≡ true → is_blank c ≡ false
digit_is_no_blank c h = grind (arith, nat_tests)

blank_is_no_digit : (c : ℕ) → is_blank c ≡ true → is_ascii_digit c ≡ false
blank_is_no_digit c h = grind (arith, nat_tests)

some_run : (p : ℕ → Bool) (run rest : Characters) → 0 < length run → list_all p run ≡ true → ltb 0 (prefix_len p (run ++ rest)) ≡ true
some_run p [] rest some all = absurd (omega (arith, some))
some_run p (c ∷ run) rest some all =
    let some : ltb 0 (1 + prefix_len p (run ++ rest)) ≡ true = grind (arith, nat_tests) in
    ap (λ b. ltb 0 (cond b (1 + prefix_len p (run ++ rest)) 0)) (and_parts (p c) (list_all p run) all).0 ∙ some

-- ---- groups of digits

any_blank : (a b : Bool) → a ≡ true → (a || b) ≡ true
any_blank true b h = refl
any_blank false b h = absurd (true≢false (sym h))

any_digit : (a b : Bool) → b ≡ true → (a || b) ≡ true
any_digit true b h = refl
any_digit false b h = h

flags_and : (a b : Characters) → is_flags a ≡ true → is_flags b ≡ true → is_flags (a ++ b) ≡ true
flags_and [] b h k = k
flags_and (c ∷ a) b h k =
    let both = and_parts (is_blank c || is_ascii_digit c) (is_flags a) h in
    and_from (is_blank c || is_ascii_digit c) (is_flags (a ++ b)) both.0 (flags_and a b both.1 k)

blanks_are_flags : (text : Characters) → AreBlanks text → is_flags text ≡ true
blanks_are_flags [] h = refl
blanks_are_flags (c ∷ text) h =
    let both = and_parts (is_blank c) (list_all is_blank text) h in
    and_from (is_blank c || is_ascii_digit c) (is_flags text) (any_blank (is_blank c) (is_ascii_digit c) both.0) (blanks_are_flags text both.1)

digits_are_flags : (text : Characters) → AreDigits text → is_flags text ≡ true
digits_are_flags [] h = refl
digits_are_flags (c ∷ text) h =
    let both = and_parts (is_ascii_digit c) (list_all is_ascii_digit text) h in
    and_from (is_blank c || is_ascii_digit c) (is_flags text) (any_digit (is_blank c) (is_ascii_digit c) both.0) (digits_are_flags text both.1)

group_is_flags : (text : Characters) → AreBlanks text ⊎ AreDigits text → is_flags text ≡ true
group_is_flags text (inl h) = blanks_are_flags text h
group_is_flags text (inr h) = digits_are_flags text h

groups_are_flags : (groups : List Characters) → AllByRecursion (λ group. AreBlanks group ⊎ AreDigits group) groups → is_flags (end_to_end groups) ≡ true
groups_are_flags [] h = refl
groups_are_flags (group ∷ groups) h = flags_and group (end_to_end groups) (group_is_flags group h.0) (groups_are_flags groups h.1)

-- each character by itself
single : ℕ → Characters
single c = c ∷ []

singles : (text : Characters) → end_to_end (map single text) ≡ text
unfolding single
singles [] = refl
singles (c ∷ text) = ap (λ (t : Characters). c ∷ t) (singles text)

single_group : (c : ℕ) → (a b : Bool) → is_blank c ≡ a → is_ascii_digit c ≡ b → (a || b) ≡ true → AreBlanks (single c) ⊎ AreDigits (single c)
unfolding single
single_group c true b e f h = inl (and_from (is_blank c) true e refl)
single_group c false b e f h = inr (and_from (is_ascii_digit c) true (f ∙ h) refl)

flags_are_groups : (text : Characters) → is_flags text ≡ true → AllByRecursion (λ group. AreBlanks group ⊎ AreDigits group) (map single text)
flags_are_groups [] h = tt
flags_are_groups (c ∷ text) h =
    let both = and_parts (is_blank c || is_ascii_digit c) (is_flags text) h in
    (single_group c (is_blank c) (is_ascii_digit c) refl refl both.0, flags_are_groups text both.1)

-- ---- what is skipped is scanned

pub skipped_is_scanned : (line : Characters) → IsSkipped line → is_skipped line ≡ true
skipped_is_scanned line (marker before digits between name groups whole blank some digit spaced unquoted each) =
    let flags = end_to_end groups in
    let quoted = double_quote ∷ (name ++ (double_quote ∷ flags)) in
    let behind = between ++ quoted in
    let text = digits ++ behind in
    let begins : past is_blank (before ++ text) ≡ text = past_run is_blank before text blank (first_of_run is_ascii_digit is_blank digit_is_no_blank digits behind some digit) in
    let numbered : past is_ascii_digit text ≡ behind = past_run is_ascii_digit digits behind digit (first_behind_run is_blank is_ascii_digit blank_is_no_digit between quoted spaced refl) in
    let named : past is_blank behind ≡ quoted = past_run is_blank between quoted spaced refl in
    let ended : past is_no_quote (name ++ (double_quote ∷ flags)) ≡ double_quote ∷ flags = past_run is_no_quote name (double_quote ∷ flags) unquoted refl in
    let file : has_file_name (past is_blank (past is_ascii_digit text)) ≡ true =
    ap (λ (t : Characters). has_file_name (past is_blank t)) numbered ∙ ap has_file_name named ∙ ap is_end_of_marker ended ∙ groups_are_flags groups each in
    let is : is_marker text ≡ true =
    and_from (ltb 0 (prefix_len is_ascii_digit text)) (has_file_name (past is_blank (past is_ascii_digit text))) (some_run is_ascii_digit digits behind some digit) file in
    ap is_skipped whole ∙ ap (λ (t : Characters). is_marker t || is_include t) begins ∙ ap (λ b. b || is_include text) is
skipped_is_scanned line (header before between behind whole blank spaced blanks) =
    let named = codes "<meta>" ++ behind in
    let text = codes "include" ++ (between ++ named) in
    let begins : past is_blank (before ++ text) ≡ text = past_run is_blank before text blank refl in
    let heads : past is_blank (between ++ named) ≡ named = past_run is_blank between named spaced refl in
    ap is_skipped whole ∙ ap (λ (t : Characters). is_marker t || is_include t) begins ∙ ap is_header heads ∙ ap is_empty (past_all is_blank behind blanks)

-- ---- what is scanned is skipped

from_not : (b : Bool) → not b ≡ false → b ≡ true
from_not true h = refl
from_not false h = absurd (true≢false h)

-- a text in quotes, and what stands behind it
record FileName (text : Characters) : Type 0 where
  name : Characters
  flags : Characters
  whole : text ≡ double_quote ∷ (name ++ (double_quote ∷ flags))
  unquoted : AreUnquoted name
  all : is_flags flags ≡ true

quoted : (c : ℕ) (text : Characters) → c ≡ double_quote → (name rest : Characters) → text ≡ name ++ rest → AreUnquoted name
    → first_is is_no_quote rest ≡ false → is_end_of_marker rest ≡ true → FileName (c ∷ text)
quoted c text is name [] whole unquoted none h = absurd (true≢false (sym h))
quoted c text is name (d ∷ flags) whole unquoted none h =
    let ends : d ≡ double_quote = eqb-true d double_quote (from_not (eqb d double_quote) none) in
    record {
      name = name;
      flags = flags;
      whole = ap (λ c. c ∷ text) is ∙ ap (λ (t : Characters). double_quote ∷ t) (whole ∙ ap (λ d. name ++ (d ∷ flags)) ends);
      unquoted = unquoted;
      all = h;
    }

file_name : (text : Characters) → has_file_name text ≡ true → FileName text
file_name [] h = absurd (true≢false (sym h))
file_name (c ∷ text) h =
    let both = and_parts (eqb c double_quote) (is_end_of_marker (past is_no_quote text)) h in
    let parts = split is_no_quote text in
    quoted c text (eqb-true c double_quote both.0) parts.run (past is_no_quote text) parts.whole parts.all parts.none both.1

begins : (front text : Characters) → begins_with front text ≡ true → text ≡ front ++ drop (length front) text
begins front text h =
    sym (take-append-drop (length front) text) ∙ ap (λ (t : Characters). t ++ drop (length front) text) ((bytes_decides (take (length front) text) front).0 h)

marker_is_skipped : (line : Characters) → is_marker (past is_blank line) ≡ true → IsSkipped line
marker_is_skipped line h =
    let text = past is_blank line in
    let before = split is_blank line in
    let both = and_parts (ltb 0 (prefix_len is_ascii_digit text)) (has_file_name (past is_blank (past is_ascii_digit text))) h in
    let digits = split is_ascii_digit text in
    let between = split is_blank (past is_ascii_digit text) in
    let file = file_name (past is_blank (past is_ascii_digit text)) both.1 in
    let some : 0 < length digits.run = omega (arith, digits.long, ltb-true 0 (prefix_len is_ascii_digit text) both.0) in
    let ends : text ≡ digits.run ++ (between.run ++ (double_quote ∷ (file.name ++ (double_quote ∷ end_to_end (map single file.flags))))) =
    digits.whole
    ∙ ap (λ (t : Characters). digits.run ++ t)
    (between.whole
    ∙ ap (λ (t : Characters). between.run ++ t)
    (file.whole ∙ ap (λ (t : Characters). double_quote ∷ (file.name ++ (double_quote ∷ t))) (sym (singles file.flags)))) in
    marker before.run digits.run between.run file.name (map single file.flags) (before.whole ∙ ap (λ (t : Characters). before.run ++ t) ends)
    before.all some digits.all between.all file.unquoted (flags_are_groups file.flags file.all)

header_is_skipped : (line : Characters) → is_include (past is_blank line) ≡ true → IsSkipped line
header_is_skipped line h =
    let text = past is_blank line in
    let before = split is_blank line in
    let rest = drop (length (codes "include")) text in
    let both = and_parts (begins_with (codes "include") text) (is_header (past is_blank rest)) h in
    let between = split is_blank rest in
    let named = past is_blank rest in
    let behind = drop (length (codes "<meta>")) named in
    let last = and_parts (begins_with (codes "<meta>") named) (is_empty (past is_blank behind)) both.1 in
    let ends : text ≡ codes "include" ++ (between.run ++ (codes "<meta>" ++ behind)) =
    begins (codes "include") text both.0
    ∙ ap (λ (t : Characters). codes "include" ++ t)
    (between.whole ∙ ap (λ (t : Characters). between.run ++ t) (begins (codes "<meta>") named last.0)) in
    header before.run between.run behind (before.whole ∙ ap (λ (t : Characters). before.run ++ t) ends) before.all between.all
    (all_passed is_blank behind last.1)

pub scanned_is_skipped : (line : Characters) → is_skipped line ≡ true → IsSkipped line
scanned_is_skipped line h = by (is_marker (past is_blank line)) refl h
  where
    by : (b : Bool) → is_marker (past is_blank line) ≡ b → (b || is_include (past is_blank line)) ≡ true → IsSkipped line
    by true e h = marker_is_skipped line e
    by false e h = header_is_skipped line h
