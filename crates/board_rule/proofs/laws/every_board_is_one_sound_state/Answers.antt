use Rattle.std.proofs.Common.{sym, subst, ◌∙◌}
use Rattle.board_rule.specs.Shows.{Shows, ShowsSound, ViewsTell, SumsUp}
use Rattle.board_rule.proofs.Showing.{shows_it, shows_sound, views_tell, sums_up}
use Rattle.board_rule.proofs.laws.every_board_is_one_sound_state.Goals as goal

pub returns : goal.returns
returns g c = record {
  sound = λ key s e r. subst (λ x. ShowsSound (g.M.Meaning.meant x) s) e (shows_sound (λ x. g.M.Meaning.meant x) key s r (g.met.M.Meaning.lawful key.meaning));
  one = λ key s state other e r a b. shows_it (λ x. g.M.Meaning.meant x) key s r state (subst (λ x. Shows (g.M.Meaning.meant x) s state) (sym e) a)
      ∙ sym (shows_it (λ x. g.M.Meaning.meant x) key s r other (subst (λ x. Shows (g.M.Meaning.meant x) s other) (sym e) b));
  told = λ key s e r. subst (λ x. ViewsTell (g.M.Meaning.meant x) s) e (views_tell (λ x. g.M.Meaning.meant x) key s r);
  spent = λ key s e r. subst (λ x. SumsUp (g.M.Meaning.meant x) s) e (sums_up (λ x. g.M.Meaning.meant x) key s r);
  shares = λ key s r. record { all = r.shares; idle = λ id v e. (r.views id v e).idle };
}
