use Rattle.std.proofs.Common.{rules, ◌∷◌, ◌++◌, [], ◌∙◌, ap, sym}
use Rattle.simset.specs.Sets.{Head, Link}
use Rattle.object_machine.specs.Enrolling.{fresh_as}
use Rattle.object_machine.proofs.Enrolments.{added}
use Rattle.object_machine.proofs.members.add.Goals as goal

pub returns-in-Link : goal.returns-in-Link
returns-in-Link c = record {
  row = λ frames m o e all here.
      added frames m c.args.members.now _ c.args.object (fresh_as c.args.kind) o (search rules)
      (c.add_link.ensures.sets ∙ ap (λ l. l ++ Link ∷ []) c.reserve.ensures.sets ∙ ap (λ k. c.args.members.now.rings.sets ++ fresh_as k ∷ []) (sym c.in-Link.is)) e all here;
}

pub returns-in-Head : goal.returns-in-Head
returns-in-Head c = record {
  row = λ frames m o e all here.
      added frames m c.args.members.now _ c.args.object (fresh_as c.args.kind) o (search rules)
      (c.add_head.ensures.sets ∙ ap (λ l. l ++ Head [] ∷ []) c.reserve.ensures.sets ∙ ap (λ k. c.args.members.now.rings.sets ++ fresh_as k ∷ []) (sym c.in-Head.is)) e all here;
}
