-- Why a string is refused: its line ends, or an escape is bad.
use Rattle.std.proofs.Common.{◌≡◌, ℕ, zero, suc, Bool, true, false, ◌&&◌, ◌||◌, not, cond, eqb, [], ◌∷◌, take, Option, Some, None, is_some, Result, Ok, Err, refl, sym, ap, ◌∙◌, true≢false}
use Rattle.std.proofs.lemmas.Bool.{and_parts, eqb-true}
use Rattle.std.specs.List.{list_all}
use Rattle.std.specs.Prelude.{encode_utf8}
use Rattle.cxx_base.specs.Texts.{Text}
use Rattle.cxx_base.specs.declared.place.Place.{Place}
use Rattle.cxx_tokens.specs.Characters.{Characters, backslash, double_quote, line_feed}
use Rattle.cxx_tokens.specs.Cutting.{is_open}
use Rattle.cxx_tokens.specs.Faults.{Fault, L2, L4}
use Rattle.cxx_tokens.specs.Literals.{Escape, Quoted, behind_one, no_escape, unless_none, escape_at, string_from}
use Rattle.cxx_tokens.proofs.CharacterFronts.{escape_found}
use Rattle.cxx_tokens.proofs.StringFronts.{is_inner, parts}

-- L4 where the line ends before
abbrev pub pick : Place → Bool → Fault
pick place opens = cond opens (L4 place) (L2 place)

abbrev pub why : Place → Characters → Fault
why place text = pick place (is_open text)

behind_fails : (bytes : Text) (read : Result Quoted Fault) (fault : Fault) → behind_one bytes read ≡ Err fault → read ≡ Err fault
behind_fails bytes (Ok found) fault h = cc h
behind_fails bytes (Err other) fault h = h

-- a character that ends no string and begins no escape
inner_stays : (c : ℕ) (text : Characters) → is_inner c ≡ true → is_open (c ∷ text) ≡ is_open text
inner_stays c [] inner = by (eqb c backslash) (eqb c double_quote) (eqb c line_feed) inner
  where
    by : (a b d : Bool) → not (a || (b || d)) ≡ true → not b ≡ true
    by true b d h = absurd (true≢false (sym h))
    by false true d h = absurd (true≢false (sym h))
    by false false d h = refl
inner_stays c (d ∷ text) inner = by (eqb c backslash) (eqb c double_quote) (eqb c line_feed) inner
  where
    by : (a b e : Bool) → not (a || (b || e)) ≡ true
        → cond e true (cond a (eqb d line_feed || (is_some (escape_at (d ∷ text)) && is_open text)) (not b && is_open (d ∷ text))) ≡ is_open (d ∷ text)
    by true b e h = absurd (true≢false (sym h))
    by false true e h = absurd (true≢false (sym h))
    by false false true h = absurd (true≢false (sym h))
    by false false false h = refl

line_end_opens : (c : ℕ) (text : Characters) → eqb c line_feed ≡ true → is_open (c ∷ text) ≡ true
line_end_opens c [] h = let e : c ≡ line_feed = eqb-true c line_feed h in rw e refl
line_end_opens c (d ∷ text) h = rw h refl

no_escape_is_line_end : (d : ℕ) (text : Characters) (e : Escape) → escape_at (d ∷ text) ≡ Some e → eqb d line_feed ≡ false
no_escape_is_line_end d text e h = by (eqb d line_feed) refl
  where
    by : (b : Bool) → eqb d line_feed ≡ b → b ≡ false
    by false f = refl
    by true f =
        let is : d ≡ line_feed = eqb-true d line_feed f in
        sym (ap is_some h) ∙ ap (λ d. is_some (escape_at (d ∷ text))) is

pub refused_string : (left : ℕ) (place : Place) (text : Characters) (fault : Fault) → list_all is_inner (take left text) ≡ true
    → string_from left place text ≡ Err fault → fault ≡ why place text
refused_string zero place [] fault inner h = let same : L4 place ≡ fault = cc h in sym same
refused_string (suc left) place [] fault inner h = let same : L4 place ≡ fault = cc h in sym same
refused_string (suc left) place (c ∷ text) fault inner h =
    let parts_of = and_parts (is_inner c) (list_all is_inner (take left text)) inner in
    let more = refused_string left place text fault parts_of.1 (behind_fails [] (string_from left place text) fault h) in
    more ∙ ap (pick place) (sym (inner_stays c text parts_of.0))
refused_string zero place (c ∷ []) fault inner h = by (eqb c double_quote) refl (eqb c line_feed) (eqb c backslash) h
  where
    by : (a : Bool) → eqb c double_quote ≡ a → (b s : Bool)
        → cond {A = Result Quoted Fault} a (Ok (record { length = 1; bytes = [] })) (cond b (Err (L4 place)) (cond s (Err (no_escape place [])) (Err (L4 place)))) ≡ Err fault
        → fault ≡ pick place (not (eqb c double_quote))
    by true e b s h = cc h
    by false e true s h = let same : L4 place ≡ fault = cc h in sym same ∙ rw e refl
    by false e false true h = let same : L4 place ≡ fault = cc h in sym same ∙ rw e refl
    by false e false false h = let same : L4 place ≡ fault = cc h in sym same ∙ rw e refl
refused_string zero place (c ∷ d ∷ text) fault inner h =
    by (eqb c double_quote) refl (eqb c line_feed) refl (eqb c backslash) refl (escape_at (d ∷ text)) refl h
    (λ k r g. refused_string k place text fault r g) (λ g. refused_string zero place (d ∷ text) fault refl g)
  where
    by : (a : Bool) → eqb c double_quote ≡ a → (b : Bool) → eqb c line_feed ≡ b → (s : Bool) → eqb c backslash ≡ s
        → (o : Option Escape) → escape_at (d ∷ text) ≡ o
        → cond {A = Result Quoted Fault} a (Ok (record { length = 1; bytes = [] })) (cond b (Err (L4 place))
        (cond s (unless_none (no_escape place (d ∷ text)) o (λ escape. behind_one (escape.byte ∷ []) (string_from escape.length place (d ∷ text))))
        (behind_one (encode_utf8 c) (string_from zero place (d ∷ text))))) ≡ Err fault
        → ((k : ℕ) → list_all is_inner (take k text) ≡ true → string_from k place text ≡ Err fault → fault ≡ why place text)
        → (string_from zero place (d ∷ text) ≡ Err fault → fault ≡ why place (d ∷ text))
        → fault ≡ why place (c ∷ d ∷ text)
    by true e b f s g o i h go one = cc h
    by false e true f s g o i h go one =
        let same : L4 place ≡ fault = cc h in sym same ∙ ap (pick place) (sym (line_end_opens c (d ∷ text) f))
    by false e false f true g None i h go one =
        let same : no_escape place (d ∷ text) ≡ fault = cc h in
        let opens : is_open (c ∷ d ∷ text) ≡ eqb d line_feed = rw (f, g, i) (none (eqb d line_feed)) in
        sym same ∙ ap (pick place) (sym opens)
      where
        none : (b : Bool) → (b || false) ≡ b
        none true = refl
        none false = refl
    by false e false f true g (Some escape) i h go one =
        let p = parts d text escape.length (escape_found d text escape i) in
        let first = behind_fails (escape.byte ∷ []) (string_from escape.length place (d ∷ text)) fault h in
        let next = behind_fails [] (string_from p.k place text) fault (ap (λ n. string_from n place (d ∷ text)) (sym p.long) ∙ first) in
        let opens : is_open (c ∷ d ∷ text) ≡ is_open text = rw (f, g, no_escape_is_line_end d text escape i, i) refl in
        go p.k p.inner next ∙ ap (pick place) (sym opens)
    by false e false f false g o i h go one =
        let inner : is_inner c ≡ true = rw (g, e, f) refl in
        one (behind_fails (encode_utf8 c) (string_from zero place (d ∷ text)) fault h)
        ∙ ap (pick place) (sym (inner_stays c (d ∷ text) inner))
