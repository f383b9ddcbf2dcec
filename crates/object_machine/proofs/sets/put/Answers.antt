use Rattle.std.proofs.Common.{◌≡◌, ◌∙◌, IfSome, List, sym, subst}
use Rattle.std.specs.Prelude.{false}
use Rattle.sim_code.specs.Machine.{Machine, Value}
use Rattle.sim_code.specs.Outcome.{Run, World}
use Rattle.frame_arena.specs.Arrays.{names_array}
use Rattle.frame_arena.specs.Stacks.{values_of}
use Rattle.object_machine.specs.SetRows.{with_slot}
use Rattle.object_machine.proofs.Scalars.{off}
use Rattle.object_machine.proofs.SetRows.{put_row}
use Rattle.object_machine.proofs.sets.put.Goals as goal

pub returns-clause-leads_arrays : goal.returns-clause-leads_arrays
returns-clause-leads_arrays c regions arrays all quiet =
    c.push.ensures.leads_arrays regions arrays all (λ names. absurd (off (sym (subst (λ v. IfSome v (λ s. names_array s.kind ≡ false)) c.in-Some.is quiet) ∙ names)))

pub returns-clause-row : goal.returns-clause-row
returns-clause-row c =
    let old = c.args.stack.now in
    let new = c.push.new.stack in
    subst (λ v. IfSome c.push.result (λ n. (o : World) (go : List Value → Run Machine) → go (with_slot v (values_of c.args.depth old)) ≡ go (values_of n new))) (sym c.in-Some.is)
    (put_row c.push.result c.args.depth old new c.in-Some.slot c.requires.fits c.push.ensures.long c.push.ensures.deeper c.push.ensures.within c.push.ensures.row)
