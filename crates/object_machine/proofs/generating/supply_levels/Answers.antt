use Rattle.std.proofs.Common.{rules, sym, subst, refl}
use Rattle.std.specs.Vec.{with_items}
use Rattle.std.proofs.lemmas.List.{with_items_is, places}
use Rattle.frame_arena.specs.Arrays.{AllLeadArrays}
use Rattle.frame_arena.specs.Frames.{AllLead, Holds, Leads}
use Rattle.frame_arena.specs.Stacks.{values_from}
use Rattle.object_machine.specs.declared.machine.Storage.{Storage}
use Rattle.object_machine.specs.Calling.{Filled}
use Rattle.sim_code.specs.Levels.{parameter_cell}
use Rattle.object_machine.specs.Parameters.{cells_set_by}
use Rattle.object_machine.specs.Entering.{opened}
use Rattle.object_machine.specs.Standing.{SameBut}
use Rattle.object_machine.proofs.Supplied.{supplied_by}
use Rattle.object_machine.proofs.generating.supply_levels.Goals as goal

pub returns-clause-row : goal.returns-clause-row
returns-clause-row c on code l before now p o m k b g parent t r eb ec eh h w =
    let p1 = c.args.storage.now in
    let p2 : Storage = record p1 { cells = with_items p1.cells c.fill_parameters.new.cells } in
    let same : SameBut p1 p2 = record { frames = refl; parks = refl; entered = refl; arrays = refl; texts = refl; image = refl; members = refl; simulations = refl; ticks = refl; words = refl } in
    let m2 = opened m k b g parent in
    let vs = values_from c.args.stack.now c.args.actuals.at c.args.actuals.count in
    let w1 = h.others r c.args.stack.now w in
    let h0 : Holds c.deref.result.now c.deref_mut.result.now m2 = subst (λ f. Holds f c.deref_mut.result.now m2) (sym c.deref.ensures.value) (subst (λ x. Holds p1.frames.items x m2) (sym c.deref_mut.ensures.value) h.stores.frames) in
    let home : Leads c.deref.result.now m2 c.args.home = subst (λ f. Leads f m2 c.args.home) (sym c.deref.ensures.value) (subst (λ z. Leads p1.frames.items m2 z) eh h.works.home) in
    let slots : AllLead c.deref.result.now m2 c.args.stack.now = subst (λ f. AllLead f m2 c.args.stack.now) (sym c.deref.ensures.value) w1.slots in
    let f : Filled p1.frames.items c.fill_parameters.new.cells m2 (cells_set_by m2 t.registers.home.stamp (parameter_cell code c.args.class) 0 vs) =
    subst (λ z. Filled p1.frames.items c.fill_parameters.new.cells m2 (cells_set_by m2 z.stamp (parameter_cell code c.args.class) 0 vs)) (sym eh) (subst (λ f. Filled f c.fill_parameters.new.cells m2 (cells_set_by m2 c.args.home.stamp (parameter_cell code c.args.class) 0 vs)) c.deref.ensures.value (c.fill_parameters.ensures.row on code m2 eb ec h0 home slots)) in
    let arrays : AllLeadArrays p1.arrays.regions o.arrays c.fill_parameters.new.cells = c.fill_parameters.ensures.arrays p1.arrays.regions o.arrays (subst (λ x. AllLeadArrays p1.arrays.regions o.arrays x) (sym c.deref_mut.ensures.value) h.stores.cells) w1.arrays_lead in
    supplied_by l p p1 p2 same k b g parent t before now o m h c.fill_parameters.new.cells (with_items_is p1.cells c.fill_parameters.new.cells (search (rules, places))) (parameter_cell code c.args.class) vs f arrays
