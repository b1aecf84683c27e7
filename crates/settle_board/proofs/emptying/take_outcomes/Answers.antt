use Rattle.std.proofs.Common.{rules, ◌≡◌, ◌<◌, ◌∙◌, sym, ap, subst, refl, arith, length, length-append, [], ◌∷◌, ℕ}
use Rattle.std.specs.Slots.{slots_items, slots_len}
use mathlib.Core.Option.{some}
use Rattle.settle_board.proofs.Taking.{one_more, out_same, emptied}
use Rattle.settle_board.proofs.emptying.take_outcomes.Goals as goal

pub loop-k-preserved : goal.loop-k-preserved
loop-k-preserved g c = let v = c.loop-k.invariant in let t = c.take-home.ensures in let p = c.push_reserved.ensures in let o = t.others in record {
  inside = (let q = c.loop-k-test.true in let s = c.slot_count.ensures in let a = o.2 in omega arith);
  full = search rules;
  empty = emptied _ _ c.loop-k.k o.1 v.empty;
  words = o.3 ∙ v.words;
  slots = (o.0 ∙ v.slots.0, o.2 ∙ v.slots.1);
  count = (let q = ap length p.items in let r = length-append c.loop-k.room.items (c.in-Outcome.outcome ∷ []) in let s = v.count in omega arith);
  room = (let a = p.capacity in let b = v.room in let d = o.2 in omega arith);
  out = λ j l. out_same (slots_items c.loop-k.closed.words) (slots_items c.loop-k.closed.slots) _ _ (ap slots_items (sym o.3)) (sym o.0) _ _ (sym p.items) j
      (one_more (slots_items c.loop-k.closed.words) (slots_items c.loop-k.closed.slots) c.loop-k.room.items c.in-Outcome.outcome c.loop-k.k v.out v.count
      (c.word-word.ensures ∙ ap (λ (z : ℕ). some z) c.if-word-ne3.false) (t.value ∙ ap (λ z. some z) c.in-Outcome.is) j l);
}

pub returns : goal.returns
returns g c = let v = c.loop-k.invariant in
    let e : c.loop-k.k ≡ slots_len c.args.closed.slots = (let q = c.loop-k-test.false in let s = c.slot_count.ensures in let a = v.inside in let b = v.slots.1 in omega arith) in
    (v.count ∙ e, λ j l. out_same (slots_items c.loop-k.closed.words) (slots_items c.loop-k.closed.slots) _ _ (ap slots_items v.words) v.slots.0 _ _ refl j (v.out j (subst (λ (z : ℕ). j < z) (sym e) l)))
