use Rattle.std.proofs.Common.{◌∙◌, sym}
use Rattle.std.proofs.lemmas.Result.{IfOk-weaker}
use Rattle.cxx_tokens.proofs.Runs.{ascii_composed, before_marks_composed, short_and_composed, too_long}
use Rattle.cxx_tokens.proofs.lexing.is_short_and_composed.Goals as goal

pub returns-then-word-gt-MAX_IDENTIFIER : goal.returns-then-word-gt-MAX_IDENTIFIER
returns-then-word-gt-MAX_IDENTIFIER c = too_long c.args.word.now c.utf8.word c.if-word-gt-MAX_IDENTIFIER.true

pub returns-then-word-count : goal.returns-then-word-count
returns-then-word-count c = ascii_composed c.args.word.now c.utf8.word c.if-word-gt-MAX_IDENTIFIER.false (c.if-word-count.true ∙ c.requires)

pub returns-then-is_before_marks : goal.returns-then-is_before_marks
returns-then-is_before_marks c =
    before_marks_composed c.args.word.now c.utf8.word c.if-word-gt-MAX_IDENTIFIER.false (sym c.is_before_marks.ensures ∙ c.if-is_before_marks.true)

pub returns : goal.returns
returns c = IfOk-weaker c.is_nfc.result _ _ (λ answer says. short_and_composed c.args.word.now c.utf8.word c.if-word-gt-MAX_IDENTIFIER.false answer says) c.is_nfc.ensures.answer
