use Rattle.std.proofs.Common.{◌≡◌, ◌∙◌, [], ap, sym, subst, refl}
use Rattle.std.specs.Prelude.{true, false}
use Rattle.sim_values.specs.declared.value.FrameRef.{FrameRef}
use Rattle.sim_code.specs.Events.{having}
use Rattle.sim_code.specs.Machine.{Frames, Machine, cell_set}
use Rattle.sim_code.specs.Outcome.{Run, World}
use Rattle.frame_arena.specs.Arrays.{AllLeadArrays}
use Rattle.frame_arena.specs.Frames.{Holds, HoldsAfter, Leads, LeadsAfter, SlotLeads, names_frame}
use Rattle.frame_arena.specs.Slots.{count_of, value_of}
use Rattle.object_machine.proofs.Places.{cell_not_placed, cell_placed}
use Rattle.object_machine.proofs.Putting.{cell_class, put_cell_is}
use Rattle.object_machine.proofs.placing.place_in_cell.Goals as goal

pub returns-then-address-ne0 : goal.returns-then-address-ne0
returns-then-address-ne0 c = record {
  row = λ l p p2 r stack below before now o m same e e2 e3 s la lv go.
      cell_class o m (λ rest. go) c.args.address (value_of c.args.value) [] c.requires.kind c.if-address-ne0.true;
}

pub returns-then-set_cell : goal.returns-then-set_cell
returns-then-set_cell c = record {
  row = λ l p p2 r stack below before now o m same e e2 e3 s la lv.
      let address = c.args.address in
      let j = count_of address.«data» in
      let es : c.stamp_of.result ≡ j = c.stamp_of.ensures in
      let slot = c.held-stored.result in
      let q = cell_set m j address.more (value_of slot) in
      let is : (go : World → Frames → Run Machine) → _ = λ go. put_cell_is o m (λ rest. go) address (value_of c.args.value) [] c.requires.kind c.if-address-ne0.false ∙ ap (λ x. having (cell_set m j address.more x) o (λ m2. go o m2)) (sym c.held-stored.ensures.value) in
      let h : Holds c.args.frames.now c.args.cells.now m = subst (λ x. Holds c.args.frames.now x m) e2 (subst (λ x. Holds x p.cells.items m) e s.stores.frames) in
      let there : Leads c.args.frames.now m (record { frame = address.name; stamp = c.stamp_of.result }) =
      subst (λ n. Leads c.args.frames.now m (record { frame = address.name; stamp = n })) (sym es) (subst (λ x. Leads x m (record { frame = address.name; stamp = j })) e (la.0 (ap names_frame c.requires.kind))) in
      let led : SlotLeads c.args.frames.now m slot = c.held-stored.ensures.leads c.args.frames.now m (subst (λ x. SlotLeads x m c.args.value) e lv.0) in
      let after0 = subst (λ n. HoldsAfter true c.args.frames.now c.set_cell.new.cells (cell_set m n address.more (value_of slot))) es (c.if-set_cell.ensures.holds m h there led c.held-stored.ensures.held) in
      let after : HoldsAfter true p.frames.items p2.cells.items q = subst (λ f. HoldsAfter true f p2.cells.items q) (sym e) (subst (λ x. HoldsAfter true c.args.frames.now x q) (sym e3) after0) in
      let leads : (f : FrameRef) → Leads p.frames.items m f → LeadsAfter p.frames.items q f = λ f lf.
      subst (λ w. LeadsAfter w q f) (sym e) (subst (λ n. LeadsAfter c.args.frames.now (cell_set m n address.more (value_of slot)) f) es (c.if-set_cell.ensures.leads m (value_of slot) f (subst (λ w. Leads w m f) e lf))) in
      let arrays = subst (λ x. AllLeadArrays p.arrays.regions o.arrays x) (sym e3)
      (c.if-set_cell.ensures.arrays p.arrays.regions o.arrays (subst (λ x. AllLeadArrays p.arrays.regions o.arrays x) e2 s.stores.cells) (c.held-stored.ensures.leads_arrays p.arrays.regions o.arrays lv.1)) in
      cell_placed l 0 p p2 same below before now r r stack o m address c.args.value j address.more (value_of slot) q refl after leads arrays s is refl;
}

pub returns : goal.returns
returns c = record {
  row = λ l p p2 r stack below before now o m same e e2 e3 s la lv go.
      let address = c.args.address in
      let j = count_of address.«data» in
      let es : c.stamp_of.result ≡ j = c.stamp_of.ensures in
      let slot = c.held-stored.result in
      let q = cell_set m j address.more (value_of slot) in
      let begun = put_cell_is o m (λ rest. go) address (value_of c.args.value) [] c.requires.kind c.if-address-ne0.false ∙ ap (λ x. having (cell_set m j address.more x) o (λ m2. go o m2)) (sym c.held-stored.ensures.value) in
      let h : Holds c.args.frames.now c.args.cells.now m = subst (λ x. Holds c.args.frames.now x m) e2 (subst (λ x. Holds x p.cells.items m) e s.stores.frames) in
      let there : Leads c.args.frames.now m (record { frame = address.name; stamp = c.stamp_of.result }) =
      subst (λ n. Leads c.args.frames.now m (record { frame = address.name; stamp = n })) (sym es) (subst (λ x. Leads x m (record { frame = address.name; stamp = j })) e (la.0 (ap names_frame c.requires.kind))) in
      let led : SlotLeads c.args.frames.now m slot = c.held-stored.ensures.leads c.args.frames.now m (subst (λ x. SlotLeads x m c.args.value) e lv.0) in
      let after0 = subst (λ n. HoldsAfter false c.args.frames.now c.set_cell.new.cells (cell_set m n address.more (value_of slot))) es (c.if-set_cell.ensures.holds m h there led c.held-stored.ensures.held) in
      begun ∙ cell_not_placed l 0 p p2 same below before now r r stack o m c.set_cell.new.cells q (subst (λ f. HoldsAfter false f c.set_cell.new.cells q) (sym e) after0) (λ m2. go o m2);
}
