use Rattle.std.proofs.Common.{refl, sym, ◌∙◌}
use Rattle.object_machine.proofs.VirtualRows.{matched_behind, matched_here, none_matched}
use Rattle.object_machine.proofs.virtuals.matched.Goals as goal

pub loop-entry-init : goal.loop-entry-init
loop-entry-init c = refl

pub returns-then-entry-number : goal.returns-then-entry-number
returns-then-entry-number c = sym (c.loop-entry.invariant ∙ matched_here c.args.number c.args.matches.now c.loop-entry.entry-index _ c.loop-entry-test.true c.if-entry-number.true)

pub loop-entry-preserved : goal.loop-entry-preserved
loop-entry-preserved c = c.loop-entry.invariant ∙ matched_behind c.args.number c.args.matches.now c.loop-entry.entry-index _ c.loop-entry-test.true c.if-entry-number.false

pub returns : goal.returns
returns c = sym (c.loop-entry.invariant ∙ none_matched c.args.number c.args.matches.now c.loop-entry.entry-index c.loop-entry-test.false)
