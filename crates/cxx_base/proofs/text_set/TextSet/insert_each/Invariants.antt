use Rattle.std.proofs.Common.{◌≡◌, ◌≤◌, ◌+◌, length, map, take}
use Rattle.cxx_base.specs.Texts.{with_texts}
use Rattle.cxx_base.proofs.text_set.TextSet.insert_each.Given as goal

-- the texts so far are in, no more than these are held, and the table hashes as before
abbrev pub invariant-loop-text : goal.invariant-loop-text
invariant-loop-text l = record {
  texts : l.self.texts ≡ with_texts l.fn.self.texts (map (λ text. text.now) (take l.text-index l.texts));
  few : length l.self.texts ≤ length l.fn.self.texts + l.text-index;
  hash : l.self.hash ≡ l.fn.self.hash;
}
