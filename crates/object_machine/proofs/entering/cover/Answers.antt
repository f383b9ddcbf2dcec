use Rattle.std.proofs.Common.{◌≤◌, length, sym, subst, ap}
use Rattle.object_machine.specs.Standing.{AllFit}
use Rattle.object_machine.proofs.Covered.{behind, more_fit, under_of}
use Rattle.object_machine.proofs.entering.cover.Goals as goal

pub returns-in_default-clause-others : goal.returns-in_default-clause-others
returns-in_default-clause-others c = subst (λ w. AllFit w) (sym c.in_default.ensures.items) c.requires.others

pub returns-clause-others : goal.returns-clause-others
returns-clause-others c =
    let u = c.replace-under.result in
    more_fit c.args.below.now.items c.push.new.self.items (under_of u) c.in-Ok.ensures.items c.requires.others (subst (λ v. v.registers.depth ≤ length v.stack.items) (sym c.replace-under.ensures.value) c.requires.fits)

pub returns-clause-row : goal.returns-clause-row
returns-clause-row c =
    let u = c.replace-under.result in
    (c.replace-under.ensures.after, (under_of u, c.in-Ok.ensures.items, ap (λ v. behind v) c.replace-under.ensures.value, ap (λ v. v.stack.items) c.replace-under.ensures.value))
