use Rattle.std.proofs.Common.{◌∙◌, ap, chars}
use Rattle.cxx_tokens.proofs.Cut.{from_start, front_boundary, front_bytes, front_characters, no_longer}
use Rattle.cxx_tokens.proofs.text.front.Goals as goal

pub overflow_sub-text : goal.overflow_sub-text
overflow_sub-text c = no_longer c.args.text.now c.args.rest.now c.args.count c.utf8.text c.utf8.rest c.requires

pub range-requires-clause-end_boundary : goal.range-requires-clause-end_boundary
range-requires-clause-end_boundary c = front_boundary c.args.text.now c.args.rest.now c.args.count c.utf8.text c.utf8.rest c.requires

pub returns-clause-characters : goal.returns-clause-characters
returns-clause-characters c = ap chars (c.range.ensures.value ∙ from_start c.args.text.now _) ∙ front_characters c.args.text.now c.args.rest.now c.args.count c.utf8.text c.utf8.rest c.requires

pub returns-clause-bytes : goal.returns-clause-bytes
returns-clause-bytes c = c.range.ensures.value ∙ from_start c.args.text.now _ ∙ front_bytes c.args.text.now c.args.rest.now c.args.count c.utf8.text c.utf8.rest c.requires
