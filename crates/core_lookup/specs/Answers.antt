-- What the calls of a lookup answer.
use Rattle.std.specs.Prelude.{◌≡◌, ℕ, Bool, true, false, None}
use Rattle.cxx_base.specs.declared.number.PieceNo.{PieceNo}
use Rattle.cxx_base.specs.declared.refusal.Refusal.{Refusal}
use Rattle.core_outcome.specs.declared.outcome.OutcomeParts.{OutcomeParts}
use Rattle.core_lookup.specs.declared.step.AccessStep.{AccessStep}
use Rattle.core_lookup.specs.declared.step.AccessStep.TheVariants as access
use Rattle.core_lookup.specs.declared.step.ClassStep.{ClassStep}
use Rattle.core_lookup.specs.declared.step.ClassStep.TheVariants as class
use Rattle.core_lookup.specs.declared.step.FindStep.{FindStep}
use Rattle.core_lookup.specs.declared.step.FindStep.TheVariants as find
use Rattle.read_trees.specs.Trees.{ReadTree, Goes, Stops, Reads}
use Rattle.read_trees.specs.Walks.{Facts, Walks}
use Rattle.core_lookup.specs.Classes.{ClassAt, Text, Injected, Incomplete}
use Rattle.core_lookup.specs.Found.{Match, Entity_, Described}

-- a question that none asks, and its answer
abbrev pub Reading : Type 0 → Type 0 → Type 0
Reading E A = ReadTree ⊥ ⊥ OutcomeParts E A

abbrev IsText : PieceNo → ClassAt → Type 0
IsText j (Text closing c) = j ≡ closing
IsText j _ = ⊥

abbrev IsInjected : PieceNo → ClassAt → Type 0
IsInjected j (Injected block c) = j ≡ block
IsInjected j _ = ⊥

module _ (F : Facts OutcomeParts) where
  -- the piece is not known, and it is the next that is read
  abbrev pub Lacks : {E A : Type 0} → Reading E A → PieceNo → Type 0
  Lacks {E} {A} t j = (F j.0 ≡ None) × (g : OutcomeParts → Reading E A) × Walks F t (Reads j.0 g) 0

  abbrev pub Finds : Reading Refusal Match → FindStep → Type 0
  Finds t (find.Found e) = Walks F t (Goes (Entity_ e)) 0
  Finds t (find.Member c i) = Walks F t (Goes (Described c i)) 0
  Finds t (find.Refused r) = Walks F t (Stops r) 0
  Finds t (find.Needs j) = Lacks t j

  abbrev pub Stands : Reading ℕ ClassAt → ClassStep → Type 0
  Stands t (class.Text j) = (at : ClassAt) × Walks F t (Goes at) 0 × IsText j at
  Stands t (class.Injected j) = (at : ClassAt) × Walks F t (Goes at) 0 × IsInjected j at
  Stands t class.Incomplete = Walks F t (Goes Incomplete) 0
  Stands t (class.Refused j) = Walks F t (Stops j.0) 0
  Stands t (class.Needs j) = Lacks t j

  abbrev pub Allows : Reading ℕ Bool → AccessStep → Type 0
  Allows t access.Yes = Walks F t (Goes true) 0
  Allows t access.No = Walks F t (Goes false) 0
  Allows t (access.Refused j) = Walks F t (Stops j.0) 0
  Allows t (access.Needs j) = Lacks t j
