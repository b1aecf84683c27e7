-- One turn of the lexer.
use Rattle.std.proofs.Common.{◌≡◌, ◌≢◌, false, eqb, ℕ, zero, suc, ◌+◌, ◌-◌, ◌<◌, ◌≤◌, List, [], ◌∷◌, ◌++◌, length, take, drop, Some, None, Result, Ok, Err, true, true≢false, refl, sym, ap, ◌∙◌, arith}
use Rattle.std.proofs.lemmas.Bool.{ne_eqb}
use Rattle.std.proofs.lemmas.Bool.Decides.{nat_tests}
use Rattle.std.proofs.lemmas.List.{append_assoc, append-nil, length-append}
use Rattle.std.specs.Char.{is_ascii_digit}
use Rattle.cxx_base.specs.Texts.{Text, with_texts}
use Rattle.cxx_base.specs.declared.place.Place.{Place}
use Rattle.cxx_tokens.specs.Characters.{Characters, after, after_all, is_blank, is_space, number_sign, slash}
use Rattle.cxx_tokens.specs.Faults.{Fault}
use Rattle.cxx_tokens.specs.Faults as spec
use Rattle.cxx_tokens.specs.Gives.{Fails}
use Rattle.cxx_tokens.specs.Lex.{Found, Lexed, behind, lex_from, members, token_at, token_from}
use Rattle.cxx_tokens.specs.Turns.{lexed_on, next_gap}
use Rattle.cxx_tokens.specs.declared.fault.LexFault.{LexFault}
use Rattle.cxx_tokens.specs.declared.fault.LexFault.TheVariants.{L1, L2, L3, L4, L5, Memory}
use Rattle.cxx_tokens.specs.declared.lexing.Position.{Position}
use Rattle.cxx_tokens.specs.declared.token.Token.{Token}

-- the characters that are left of a gap or a token are passed
skips : (left : ℕ) (place : Place) (last number : ℕ) (names : List Text) (text : Characters) → left ≤ length text
    → lex_from left place last number names text ≡ lex_from 0 (after_all place (take left text)) last number names (drop left text)
skips zero place last number names text h = refl
skips (suc left) place last number names [] h = absurd (omega (arith, h))
skips (suc left) place last number names (c ∷ text) h = skips left (after place c) last number names text (omega (arith, h))

pub first_is_gone : (place : Place) (last number : ℕ) (names : List Text) (c : ℕ) (text : Characters) (n : ℕ) → 0 < n → n ≤ length (c ∷ text)
    → lex_from (n - 1) (after place c) last number names text ≡ lex_from 0 (after_all place (take n (c ∷ text))) last number names (drop n (c ∷ text))
first_is_gone place last number names c text zero some within = absurd (omega (arith, some))
first_is_gone place last number names c text (suc n) some within =
    let same : suc n - 1 ≡ n = omega arith in
    ap (λ k. lex_from k (after place c) last number names text) same ∙ skips n (after place c) last number names text (omega (arith, within))

behind-behind : (a b : List Token) (rest : Result Lexed Fault) → behind a (behind b rest) ≡ behind (a ++ b) rest
behind-behind a b (Ok found) = ap (λ tokens. Ok (record found { tokens = tokens })) (sym (append_assoc a b found.tokens))
behind-behind a b (Err fault) = refl

-- a gap
pub gap_turn : (tokens : List Token) (at : Position) (names : List Text) (text : Characters) (n : ℕ) → next_gap at text ≡ Ok (Some n) → 0 < n → n ≤ length text
    → lexed_on tokens at names text ≡ lexed_on tokens (record { place = after_all at.place (take n text); last = at.last }) names (drop n text)
gap_turn tokens at names [] n h some within = absurd (omega (arith, some, within))
gap_turn tokens at names (c ∷ text) n h some within =
    let first : lex_from 0 at.place at.last (length tokens) names (c ∷ text) ≡ lex_from (n - 1) (after at.place c) at.last (length tokens) names text = rw h refl in
    ap (behind tokens) (first ∙ first_is_gone at.place at.last (length tokens) names c text n some within)

-- a white-space character
pub space_turn : (at : Position) (text : Characters) (c : ℕ) (rest : Characters) → text ≡ c ∷ rest → is_space c ≡ true → (tokens : List Token) (names : List Text)
    → lexed_on tokens at names text ≡ lexed_on tokens (record { place = after at.place c; last = at.last }) names rest
space_turn at text c rest here space tokens names =
    let first : lex_from 0 at.place at.last (length tokens) names (c ∷ rest) ≡ lex_from 0 (after at.place c) at.last (length tokens) names rest = rw space refl in
    ap (lexed_on tokens at names) here ∙ ap (behind tokens) first

-- one within a line, behind which the next column stands
pub blank_turn : (at : Position) (text : Characters) (c : ℕ) (rest : Characters) → text ≡ c ∷ rest → is_blank c ≡ true → c ≢ 10 → (tokens : List Token) (names : List Text)
    → lexed_on tokens at names text ≡ lexed_on tokens (record { place = record { line = at.place.line; column = at.place.column + 1 }; last = at.last }) names rest
blank_turn at text c rest here blank other tokens names =
    let no : eqb c 10 ≡ false = ne_eqb c 10 other in
    let space : is_space c ≡ true = rw blank refl in
    let next : after at.place c ≡ record { line = at.place.line; column = at.place.column + 1 } = rw no refl in
    space_turn at text c rest here space tokens names ∙ ap (λ place. lexed_on tokens (record { place = place; last = at.last }) names rest) next

-- a token
pub token_turn : (tokens : List Token) (at : Position) (names : List Text) (text : Characters) (found : Found) → next_gap at text ≡ Ok None
    → token_at at.place names text ≡ Ok found → 0 < found.length → found.length ≤ length text
    → lexed_on tokens at names text
    ≡ lexed_on (tokens ++ token_from found.kind at.place (length tokens) ∷ []) (record { place = after_all at.place (take found.length text); last = at.place.line }) found.names (drop found.length text)
token_turn tokens at names [] found gap e some within = absurd (omega (arith, some, within))
token_turn tokens at names (c ∷ text) found gap e some within =
    let number = length tokens in
    let tok = token_from found.kind at.place number in
    let longer : number + 1 ≡ length (tokens ++ tok ∷ []) = sym (length-append tokens (tok ∷ [])) in
    let first : lex_from 0 at.place at.last number names (c ∷ text) ≡ behind (tok ∷ []) (lex_from (found.length - 1) (after at.place c) at.place.line (number + 1) found.names text) = rw (gap, e) refl in
    ap (behind tokens) first ∙ behind-behind tokens (tok ∷ []) _
    ∙ ap (behind (tokens ++ tok ∷ [])) (first_is_gone at.place at.place.line (number + 1) found.names c text found.length some within
    ∙ ap (λ k. lex_from 0 (after_all at.place (take found.length (c ∷ text))) at.place.line k found.names (drop found.length (c ∷ text))) longer)

-- a fault at a gap, and one at a token
gap_fault : (tokens : List Token) (at : Position) (names : List Text) (text : Characters) (fault : Fault) → 0 < length text → next_gap at text ≡ Err fault
    → lexed_on tokens at names text ≡ Err fault
gap_fault tokens at names [] fault some h = absurd (omega (arith, some))
gap_fault tokens at names (c ∷ text) fault some h = rw h refl

token_fault : (tokens : List Token) (at : Position) (names : List Text) (text : Characters) (fault : Fault) → 0 < length text → next_gap at text ≡ Ok None
    → token_at at.place names text ≡ Err fault → lexed_on tokens at names text ≡ Err fault
token_fault tokens at names [] fault some gap e = absurd (omega (arith, some))
token_fault tokens at names (c ∷ text) fault some gap e = rw (gap, e) refl

pub Fails-at_token : (tokens : List Token) (at : Position) (names : List Text) (text : Characters) (fault : LexFault) → 0 < length text → next_gap at text ≡ Ok None
    → Fails fault (token_at at.place names text) → Fails fault (lexed_on tokens at names text)
Fails-at_token tokens at names text Memory some gap h = tt
Fails-at_token tokens at names text (L1 place) some gap h = token_fault tokens at names text (spec.L1 place) some gap h
Fails-at_token tokens at names text (L2 place) some gap h = token_fault tokens at names text (spec.L2 place) some gap h
Fails-at_token tokens at names text (L3 place) some gap h = token_fault tokens at names text (spec.L3 place) some gap h
Fails-at_token tokens at names text (L4 place) some gap h = token_fault tokens at names text (spec.L4 place) some gap h
Fails-at_token tokens at names text (L5 place) some gap h = token_fault tokens at names text (spec.L5 place) some gap h

pub Fails-at_gap : (tokens : List Token) (at : Position) (names : List Text) (text : Characters) (place : Place) → 0 < length text → next_gap at text ≡ Err (spec.L4 place)
    → Fails (L4 place) (lexed_on tokens at names text)
Fails-at_gap tokens at names text place some h = gap_fault tokens at names text (spec.L4 place) some h

-- the end
pub no_more : (tokens : List Token) (at : Position) (names : List Text) (text : Characters) → text ≡ []
    → lexed_on tokens at names text ≡ Ok (record { tokens = tokens; names = with_texts names members; end = at.place })
no_more tokens at names text h =
    ap (lexed_on tokens at names) h ∙ ap (λ all. Ok (record { tokens = all; names = with_texts names members; end = at.place })) (append-nil tokens)

pub behind_none : (rest : Result Lexed Fault) → behind [] rest ≡ rest
behind_none (Ok found) = refl
behind_none (Err fault) = refl

-- where a character begins neither white space nor a comment nor a skipped line, no gap begins
pub no_gap : (at : Position) (text : Characters) (c : ℕ) (rest : Characters) → text ≡ c ∷ rest → 32 < c → c ≢ 35 → c ≢ 47 → next_gap at text ≡ Ok None
no_gap at text c rest here far line comment =
    let space : is_space c ≡ false = grind (arith, nat_tests) in
    let no_line : eqb c number_sign ≡ false = ne_eqb c number_sign line in
    let no_comment : eqb c slash ≡ false = ne_eqb c slash comment in
    rw (here, space, no_comment, no_line) refl

pub digit_no_gap : (at : Position) (text : Characters) (c : ℕ) (rest : Characters) → text ≡ c ∷ rest → is_ascii_digit c ≡ true → next_gap at text ≡ Ok None
digit_no_gap at text c rest here digit =
    no_gap at text c rest here (grind (arith, nat_tests)) (λ e. true≢false (sym digit ∙ ap is_ascii_digit e)) (λ e. true≢false (sym digit ∙ ap is_ascii_digit e))
