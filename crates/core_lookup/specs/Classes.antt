-- A class at a point: complete by its text, complete by a block, or incomplete ([class.mem], P3289R1).
use Rattle.std.specs.Prelude.{ℕ, zero, suc, Bool, false, ◌||◌, if◌then◌else◌, nat_eq, nat_lt, List, [], ◌∷◌, Option, None, Some, is_some}
use Rattle.cxx_base.specs.declared.number.EntityNo.{EntityNo}
use Rattle.cxx_base.specs.declared.number.PieceNo.{PieceNo}
use Rattle.core_outcome.specs.declared.completions.Completion.{Completion}
use Rattle.core_outcome.specs.declared.declared.Declared.{Declared}
use Rattle.core_outcome.specs.declared.declared.Declared.TheVariants as declared
use Rattle.core_outcome.specs.declared.outcome.OutcomeParts.{OutcomeParts}
use Rattle.core_shape.specs.declared.class.Base.{Base, out-Base}
use Rattle.core_shape.specs.declared.class.Class.{Class, out-Class}
use Rattle.core_shape.specs.declared.shape.Shape.{out-Shape}
use Rattle.program_tables.specs.declared.entity.ClassText.{ClassText}
use Rattle.program_tables.specs.declared.entity.Entity.{Entity}
use Rattle.read_trees.specs.Trees.{ReadTree, Goes, Stops, Reads, and_then}
use Rattle.read_trees.specs.Loops.{first}
use Rattle.core_lookup.specs.Tables.{Tables, entity_at, text_of}
use Rattle.core_lookup.specs.Scopes.{blocks_between}

-- How a class stands at a point: the closing of its first text, or the block, and the class. A closing has a class; where an outcome is none of a
-- closing, there is none.
pub data ClassAt : Type 0 where
  Text : PieceNo → Option Class → ClassAt
  Injected : PieceNo → Class → ClassAt
  Incomplete : ClassAt

abbrev pub class_in : ClassAt → Option Class
class_in (Text closing c) = c
class_in (Injected block c) = Some c
class_in Incomplete = None

abbrev pub is_refused : OutcomeParts → Bool
is_refused o = is_some o.refusal

abbrev closed_by : Declared → Option Class
closed_by (declared.Closing c) = Some c
closed_by _ = None

abbrev completion_among : EntityNo → List Completion → Option Class
completion_among e [] = None
completion_among e (c ∷ cs) = if nat_eq (out-Class c.class).head.entity.0 e.0 then Some c.class else completion_among e cs

-- A block that was refused completes nothing.
abbrev pub completed_by : EntityNo → OutcomeParts → Option Class
completed_by e o = if is_refused o then None else completion_among e o.completions

abbrev by_block : ℕ → Option Class → Option ClassAt
by_block b None = None
by_block b (Some c) = Some (Injected (record { 0 = b }) c)

abbrev or_incomplete : Option ClassAt → ClassAt
or_incomplete None = Incomplete
or_incomplete (Some at) = at

module _ {Q R E : Type 0} (refused : ℕ → E) where
  abbrev text_read : PieceNo → OutcomeParts → ReadTree Q R OutcomeParts E ClassAt
  text_read closing o = if is_refused o then Stops (refused closing.0) else Goes (Text closing (closed_by o.declared))

  abbrev block_read : EntityNo → ℕ → ReadTree Q R OutcomeParts E (Option ClassAt)
  block_read e b = Reads b (λ o. Goes (by_block b (completed_by e o)))

  -- by the first block behind its first declaration that reaches it and completes it
  abbrev by_blocks : Tables → ℕ → EntityNo → Entity → Option PieceNo → ReadTree Q R OutcomeParts E ClassAt
  by_blocks t k c e None = Goes Incomplete
  by_blocks t k c e (Some declared) =
      and_then (first (block_read c) (blocks_between t e.scope c declared.0 k)) (λ at. Goes (or_incomplete at))

  abbrev unless_text : Tables → ℕ → EntityNo → Option Entity → ReadTree Q R OutcomeParts E ClassAt
  unless_text t k c None = Goes Incomplete
  unless_text t k c (Some e) = by_blocks t k c e e.first

  abbrev by_text : Tables → ℕ → EntityNo → Option ClassText → ReadTree Q R OutcomeParts E ClassAt
  by_text t k c None = unless_text t k c (entity_at t c)
  by_text t k c (Some text) =
      if nat_lt text.closing.0 k then Reads text.closing.0 (text_read text.closing) else unless_text t k c (entity_at t c)

  -- The class at the point k: the first of the closing of its first text, refused where that is; a block, of which a refused one completes nothing and
  -- is no refusal; incomplete. The blocks are read in order, up to the first that completes it.
  abbrev pub class_at : Tables → ℕ → EntityNo → ReadTree Q R OutcomeParts E ClassAt
  class_at t k c = by_text t k c (text_of t c)

-- Bases of a complete class: the class itself says them, at any depth.

abbrev is_entity : EntityNo → Class → Bool
is_entity e c = nat_eq (out-Class c).head.entity.0 e.0

abbrev pub class_of_base : Base → Option Class
class_of_base b = (out-Shape (out-Base b).shape).class

abbrev any_base : (Option Class → Bool) → List Base → Bool
any_base f [] = false
any_base f (b ∷ bs) = f (class_of_base b) || any_base f bs

-- whether a class is e, or has e as a base, at no more than so many levels
abbrev is_or_derives : ℕ → EntityNo → Option Class → Bool
is_or_derives n e None = false
is_or_derives zero e (Some c) = false
is_or_derives (suc n) e (Some c) = is_entity e c || any_base (is_or_derives n e) (out-Class c).bases

-- whether a class has e as a base
abbrev pub derives : ℕ → EntityNo → Option Class → Bool
derives n e None = false
derives n e (Some c) = any_base (is_or_derives n e) (out-Class c).bases
