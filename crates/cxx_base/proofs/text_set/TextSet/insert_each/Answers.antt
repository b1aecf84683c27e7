use Rattle.std.proofs.Common.{◌∙◌, ap, sym, arith, length, get_or, Bor, List, ℕ, []}
use Rattle.cxx_base.specs.Texts.{with_text}
use Rattle.cxx_base.proofs.TextLemmas.{with_texts_more, length-with_text}
use Rattle.cxx_base.proofs.text_set.TextSet.insert_each.Goals as goal

pub loop-text-preserved : goal.loop-text-preserved
loop-text-preserved c =
    let none : Bor (List ℕ) = record { ref_ptr = (0, 0); now = [] } in
    let names = c.in_ok-insert.ensures.texts in
    let more = with_texts_more (λ (text : Bor (List ℕ)). text.now) c.args.self.now.texts c.args.texts.now c.loop-text.text-index none (omega arith) in
    let longer = length-with_text c.loop-text.self.texts (get_or c.args.texts.now c.loop-text.text-index none).now in
    record {
      texts = names ∙ ap (λ found. with_text found (get_or c.args.texts.now c.loop-text.text-index none).now) c.loop-text.invariant.texts ∙ sym more;
      few = omega (arith, ap length names, longer);
      hash = c.in_ok-insert.ensures.hash ∙ c.loop-text.invariant.hash;
    }
