-- How far a source was read, and what is told of one that is too long.
use Rattle.std.proofs.Common.{◌≡◌, ℕ, ◌+◌, ◌≤◌, ◌<◌, Bool, true, false, true≢false, nat_lt, List, length, Option, None, Some, IfSome, refl, sym, ap, ◌∙◌, arith}
use Rattle.std.proofs.Math.ListN.{drop_of_length-le}
use Rattle.std.proofs.Math.Bridge.{le_prop}
use Rattle.std.proofs.lemmas.Bool.{lt-ltb, ltb-false, ltb-true}
use Rattle.std.specs.Io.KnownBytes.{IsAtEnd}
use Rattle.io_edge.specs.Edge.{Drops, TellsOn}
use Rattle.cxx_base.specs.declared.code.Code.TheVariants.{L6}
use Rattle.cxx_base.specs.declared.limits.TheConstants.{MAX_SOURCE}
use Rattle.reflect_cli.specs.Answers.{IsTold}
use Rattle.cxx_base.specs.Texts.{Text}
use Rattle.reflect_cli.specs.Program.{program_of, source_refusal}
use Rattle.reflect_cli.specs.Told.{answer_by, report_by, report_of, refused}
use Rattle.reflect_cli.specs.declared.answer.Answer.{Answer}

-- a source that is read to its end and was not longer
pub drops_all : (cap : ℕ) (old new : Option (List ℕ)) → TellsOn old new → IsAtEnd new → IfSome old (λ xs. length xs ≤ cap) → Drops old new (cap + 1)
drops_all cap None new tells end short = tt
drops_all cap (Some xs) None tells end short = absurd tells
drops_all cap (Some xs) (Some ys) tells end short = end ∙ sym (drop_of_length-le xs (omega (arith, short)))

-- a source that is too long
pub too_long : (old : Option (List ℕ)) (answer : Answer) → IfSome old (λ xs. MAX_SOURCE < length xs) → IsTold (refused (source_refusal L6)) answer
    → IfSome old (λ xs. IsTold (report_of xs) answer)
unfolding report_of
too_long None answer long told = tt
too_long (Some xs) answer long told = by (nat_lt MAX_SOURCE (length xs)) refl
  where
    by : (is_long : Bool) (e : nat_lt MAX_SOURCE (length xs) ≡ is_long) → IsTold (report_by xs is_long e) answer
    by true e = told
    by false e = absurd (true≢false (sym (lt-ltb MAX_SOURCE (length xs) long) ∙ e))

-- and of one that is not
pub not_too_long : (xs : Text) (fits : length xs ≤ MAX_SOURCE) → report_of xs ≡ answer_by (program_of xs fits)
unfolding report_of
not_too_long xs fits = by (nat_lt MAX_SOURCE (length xs)) refl
  where
    by : (is_long : Bool) (e : nat_lt MAX_SOURCE (length xs) ≡ is_long) → report_by xs is_long e ≡ answer_by (program_of xs fits)
    by true e = absurd (let more = ltb-true MAX_SOURCE (length xs) e in omega (arith, more, fits))
    by false e = ap (λ (f : length xs ≤ MAX_SOURCE). answer_by (program_of xs f)) (le_prop (ltb-false MAX_SOURCE (length xs) e) fits)
