-- What `tokens` tells, from what the scan gives.
use Rattle.std.proofs.Common.{◌≡◌, ◌≤◌, List, length, Result, Ok, Err, IfOk, All, true, subst}
use Rattle.cxx_base.specs.Texts.{Text, has_text}
use Rattle.cxx_tokens.specs.Characters.{characters_of}
use Rattle.cxx_tokens.specs.Cutting.{IsLexed}
use Rattle.cxx_tokens.specs.Gives.{GivesCut, GivesTokens}
use Rattle.cxx_tokens.specs.Lex.{lex, members}
use Rattle.cxx_tokens.specs.Usable.{AreUsable, IsKnown, Rise}
use Rattle.cxx_tokens.specs.declared.fault.LexFault.{LexFault}
use Rattle.cxx_tokens.specs.declared.fault.LexFault.TheVariants.{L1, L2, L3, L4, L5, Memory}
use Rattle.cxx_tokens.specs.declared.token.Tokens.{Tokens}
use Rattle.cxx_tokens.proofs.CutLaws.{scan_is_cut}
use Rattle.cxx_tokens.proofs.UsableLaws.{usable}

pub is_cut : (result : Result Tokens LexFault) (before after : List Text) (bytes : Text) → GivesTokens result after (lex before bytes) → GivesCut result before after bytes
is_cut (Ok found) before after bytes h = subst (IsLexed before bytes) h (scan_is_cut before bytes)
is_cut (Err (L1 place)) before after bytes h = subst (IsLexed before bytes) h (scan_is_cut before bytes)
is_cut (Err (L2 place)) before after bytes h = subst (IsLexed before bytes) h (scan_is_cut before bytes)
is_cut (Err (L3 place)) before after bytes h = subst (IsLexed before bytes) h (scan_is_cut before bytes)
is_cut (Err (L4 place)) before after bytes h = subst (IsLexed before bytes) h (scan_is_cut before bytes)
is_cut (Err (L5 place)) before after bytes h = subst (IsLexed before bytes) h (scan_is_cut before bytes)
is_cut (Err Memory) before after bytes h = tt

-- the tokens are usable
usable_tokens : (found : Tokens) (before after : List Text) (bytes : Text) → GivesTokens (Ok found) after (lex before bytes)
    → AreUsable bytes (record { tokens = found.list; names = after; end = found.end })
usable_tokens found before after bytes h = usable before bytes (record { tokens = found.list; names = after; end = found.end }) (is_cut (Ok found) before after bytes h)

pub each_known : (result : Result Tokens LexFault) (before after : List Text) (bytes : Text) → GivesTokens result after (lex before bytes)
    → IfOk result (λ found. All (λ token. IsKnown after token.kind) found.list)
each_known (Ok found) before after bytes h = (usable_tokens found before after bytes h).known
each_known (Err fault) before after bytes h = tt

pub holds_members : (result : Result Tokens LexFault) (before after : List Text) (bytes : Text) → GivesTokens result after (lex before bytes)
    → IfOk result (λ found. All (λ text. has_text after text ≡ true) members)
holds_members (Ok found) before after bytes h = (usable_tokens found before after bytes h).members
holds_members (Err fault) before after bytes h = tt

pub ends_rising : (result : Result Tokens LexFault) (before after : List Text) (bytes : Text) → GivesTokens result after (lex before bytes)
    → IfOk result (λ found. Rise found.list found.end)
ends_rising (Ok found) before after bytes h = (usable_tokens found before after bytes h).rise
ends_rising (Err fault) before after bytes h = tt

pub are_few : (result : Result Tokens LexFault) (before after : List Text) (bytes : Text) → GivesTokens result after (lex before bytes)
    → IfOk result (λ found. length found.list ≤ length (characters_of bytes))
are_few (Ok found) before after bytes h = (usable_tokens found before after bytes h).few
are_few (Err fault) before after bytes h = tt
