use Rattle.std.proofs.Common.{◌∙◌, ap, sym}
use Rattle.cxx_tree.specs.MoreSpans.{span_of_class}
use Rattle.cxx_tree.proofs.Boxes.{class_span}
use Rattle.cxx_tree.proofs.stmt.Stmt.span.Goals as goal

pub returns-in-Class : goal.returns-in-Class
returns-in-Class c = c.span-in-Class.ensures ∙ ap span_of_class c.get.ensures ∙ sym (class_span c.args.self.now _ c.in-Class.is)
