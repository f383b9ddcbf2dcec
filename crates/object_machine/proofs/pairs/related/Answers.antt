use Rattle.std.proofs.Common.{◌∙◌, ap, sym}
use Rattle.sim_values.specs.Operators.{holds, two_of}
use Rattle.sim_values.specs.Plain.{Text}
use Rattle.object_machine.specs.Pairs.{relating_by}
use Rattle.object_machine.proofs.PairRows.{compare_says, same_says}
use Rattle.object_machine.proofs.pairs.related.Goals as goal

pub returns-in-Some : goal.returns-in-Some
returns-in-Some c = record { says = ap (λ q. two_of (relating_by q) c.args.texts.now (Text c.args.left) (Text c.args.right)) c.in-Some.is ∙ compare_says c.in-Some.relation c.args.texts.now c.args.left c.args.right c.holds.result (sym (c.holds.ensures.result ∙ ap (λ q. holds c.in-Some.relation q) c.compare.ensures.order)) }

pub returns-in-None : goal.returns-in-None
returns-in-None c = record { says = ap (λ q. two_of (relating_by q) c.args.texts.now (Text c.args.left) (Text c.args.right)) c.in-None.is ∙ same_says c.args.texts.now c.args.left c.args.right c.is_same.result (sym c.is_same.ensures) }
