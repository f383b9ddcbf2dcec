use Rattle.std.proofs.Common.{◌∙◌, sym}
use Rattle.object_machine.proofs.Generated.{encloser, no_encloser}
use Rattle.object_machine.proofs.levelled.encloser_in.Goals as goal

pub returns-then-not-is_link : goal.returns-then-not-is_link
returns-then-not-is_link c = record { row = λ cells m h lead o go. no_encloser m c.args.slot o go (sym c.is_link.ensures ∙ c.if-not-is_link.true) }

pub returns : goal.returns
returns c = record { row = λ cells m h lead. encloser c.parent_in.result c.args.frames.now m c.args.slot (sym c.is_link.ensures ∙ c.if-not-is_link.false) (c.parent_in.ensures.row cells m h lead) }
