use Rattle.std.proofs.Common.{ap, ◌∙◌}
use Rattle.cxx_base.specs.declared.note.Notes.{Notes}
use Rattle.cxx_base.proofs.CallNotes.{made, made_shown, made_hidden}
use Rattle.cxx_base.proofs.note.Notes.called_from.Goals as goal
use Rattle.cxx_base.proofs.note.Notes.called_from.Goals.{then-at-lt-SHOWN_CALLS, else-at-lt-SHOWN_CALLS}

pub returns : goal.returns
returns c calls e =
    elim c.if-at-lt-SHOWN_CALLS.branch [
      | then-at-lt-SHOWN_CALLS w ↦
          made c.if-at-lt-SHOWN_CALLS.notes.count c.if-at-lt-SHOWN_CALLS.notes.shown c.args.outer calls
          (ap (λ (n : Notes). n.count) w.notes-is ∙ ap (λ (n : Notes). n.count) e)
          (ap (λ (n : Notes). n.shown) w.notes-is ∙ made_shown c.args.self c.args.outer calls e w.if-at-lt-SHOWN_CALLS.true)
      | else-at-lt-SHOWN_CALLS w ↦
          made c.if-at-lt-SHOWN_CALLS.notes.count c.if-at-lt-SHOWN_CALLS.notes.shown c.args.outer calls
          (ap (λ (n : Notes). n.count) w.notes-is ∙ ap (λ (n : Notes). n.count) e)
          (ap (λ (n : Notes). n.shown) w.notes-is ∙ made_hidden c.args.self c.args.outer calls e w.if-at-lt-SHOWN_CALLS.false)
    ]
