use Rattle.object_machine.proofs.Fitted.{alike_anyhow, alike_by_class, not_alike}
use Rattle.std.proofs.Common.{sym, ◌∙◌}
use Rattle.object_machine.proofs.fitting.alike.Goals as goal

pub returns-then-not-same_type : goal.returns-then-not-same_type
returns-then-not-same_type c = not_alike c.args.classes c.args.formal c.args.actual (sym c.same_type.ensures ∙ c.if-not-same_type.true)

pub returns-then-is_reference : goal.returns-then-is_reference
returns-then-is_reference c = alike_by_class c.args.classes c.args.formal c.args.actual (sym c.same_type.ensures ∙ c.if-not-same_type.false) (sym c.is_reference.ensures ∙ c.if-is_reference.true)

pub returns : goal.returns
returns c = alike_anyhow c.args.classes c.args.formal c.args.actual (sym c.same_type.ensures ∙ c.if-not-same_type.false) (sym c.is_reference.ensures ∙ c.if-is_reference.false)
