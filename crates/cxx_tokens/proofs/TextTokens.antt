-- String literals with their bytes in a box.
use Rattle.std.proofs.Common.{◌≡◌, List, Result, Ok, Err, IfOk, IfErr, sym, ap, subst, ◌∙◌}
use Rattle.cxx_base.specs.Texts.{Text}
use Rattle.cxx_tokens.specs.Cuts.{IsCutBehindOne}
use Rattle.cxx_tokens.specs.Faults.{Fault}
use Rattle.cxx_tokens.specs.Gives.{Fails, GivesToken}
use Rattle.cxx_tokens.specs.Lex.{Found}
use Rattle.cxx_tokens.specs.declared.fault.LexFault.{LexFault}
use Rattle.cxx_tokens.specs.declared.fault.LexFault.TheVariants.{Memory}
use Rattle.cxx_tokens.specs.declared.lexing.FoundToken.{FoundToken}
use Rattle.cxx_tokens.specs.declared.text.Cut.{Cut}
use Rattle.cxx_tokens.specs.declared.token.TokenKind.TheVariants as kind

pub text_gives : (r : Result FoundToken LexFault) (bytes : Text) (cut : Cut) (names : List Text) (read : Result Found Fault)
    → IfOk r (λ found. (found.kind ≡ kind.Text bytes) × (found.cut ≡ cut)) → IfErr r (λ fault. fault ≡ Memory)
    → read ≡ Ok (record { kind = kind.Text bytes; length = cut.length; names = names }) → GivesToken r names read
text_gives (Ok found) bytes cut names read is memory e =
    e ∙ ap (λ kind. Ok (record { kind = kind; length = cut.length; names = names })) (sym is.0)
    ∙ ap (λ (cut : Cut). Ok (record { kind = found.kind; length = cut.length; names = names })) (sym is.1)
text_gives (Err fault) bytes cut names read is memory e = subst (λ (fault : LexFault). Fails fault read) (sym memory) tt

pub text_cut : (r : Result FoundToken LexFault) (bytes text : Text) (cut : Cut) → IfOk r (λ found. (found.kind ≡ kind.Text bytes) × (found.cut ≡ cut))
    → IsCutBehindOne text cut → IfOk r (λ found. IsCutBehindOne text found.cut)
text_cut (Ok found) bytes text cut is h = subst (IsCutBehindOne text) (sym is.1) h
text_cut (Err fault) bytes text cut is h = tt
