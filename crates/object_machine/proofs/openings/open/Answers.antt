use Rattle.std.proofs.Common.{None, rules, ◌≡◌, ◌+◌, length, replicate, refl, sym, subst, ap, ◌∙◌}
use Rattle.std.specs.Prelude.{Some, map, false}
use Rattle.sim_code.specs.Code.{BlockOf}
use Rattle.sim_values.specs.declared.value.FrameRef.{FrameRef}
use Rattle.sim_code.specs.Machine.{first_cells, first_value}
use Rattle.sim_code.specs.Instances.{entered}
use Rattle.frame_arena.specs.Arrays.{AllLeadArrays}
use Rattle.frame_arena.specs.Frames.{Holds, IsKeeping, KeptBefore, Leads, AllLead, Has, cells_at, frame_at, number_in, stands_first}
use Rattle.frame_arena.specs.Slots.{empty_slot}
use Rattle.std.specs.Vec.{with_items}
use Rattle.std.proofs.lemmas.List.{with_items_is, places}
use Rattle.object_machine.specs.declared.machine.Storage.{Storage}
use Rattle.object_machine.specs.declared.machine.Activation as working
use Rattle.object_machine.specs.Entering.{opened}
use Rattle.object_machine.proofs.Opened.{first_activation, for_block, opens_from, empty_leads, empty_leads_arrays}
use Rattle.object_machine.proofs.Parks.{rooms_count}
use Rattle.object_machine.proofs.Places.{has_leads}
use Rattle.object_machine.proofs.openings.open.Goals as goal

pub returns-clause-row : goal.returns-clause-row
returns-clause-row c l before now o m s up =
    let p = c.args.storage.now in
    let b : BlockOf = record { kind = c.block.inside.kind; level = c.block.inside.level; cells = c.block.inside.cells; temps = c.block.inside.temps; room = c.block.inside.room; entry = c.block.inside.entry; class_free = c.block.inside.class_free; result_type = c.block.inside.result_type; class = c.block.inside.class; types = c.block.inside.types.items; formals = c.block.inside.formals.items } in
    let h1 : Holds c.reserve.new.frames.items c.reserve.new.cells.items m = c.in_ok-place.ensures.holds m s.frames in
    let h0 : Holds c.deref.result.now c.deref_mut-3.result.now m = subst (λ f. Holds f c.deref_mut-3.result.now m) (sym c.deref.ensures.value) (subst (λ x. Holds c.reserve.new.frames.items x m) (sym c.deref_mut-3.ensures.value) h1) in
    let h2 : Holds c.reserve.new.frames.items c.fill_first.new.cells m = subst (λ f. Holds f c.fill_first.new.cells m) c.deref.ensures.value (c.fill_first.ensures.holds m h0) in
    let n : c.in-Ok.count ≡ length c.block.inside.types.items = search rules in
    let e0 = c.fill_first.ensures.cells m h0 in
    let e1 = subst (λ f. cells_at c.fill_first.new.cells (frame_at f c.in_ok-place.place).base (length c.deref-2.result.now) ≡ map first_value c.deref-2.result.now) c.deref.ensures.value e0 in
    let e2 = subst (λ ts. cells_at c.fill_first.new.cells (frame_at c.reserve.new.frames.items c.in_ok-place.place).base (length ts) ≡ map first_value ts) c.deref-2.ensures.value e1 in
    let e : cells_at c.fill_first.new.cells (frame_at c.reserve.new.frames.items c.in_ok-place.place).base (frame_at c.reserve.new.frames.items c.in_ok-place.place).cells ≡ first_cells b =
    ap (λ k. cells_at c.fill_first.new.cells (frame_at c.reserve.new.frames.items c.in_ok-place.place).base k) (c.in_ok-place.ensures.cells ∙ n) ∙ e2 in
    let up1 : (r : FrameRef) → c.args.parent ≡ Some r → Leads c.deref_mut-4.result.now m r = λ r is. subst (λ f. Leads f m r) (sym c.deref_mut-4.ensures.value) (c.in_ok-place.ensures.leads m r (up r is)) in
    let h3 : Holds c.enter.new.frames c.fill_first.new.cells (opened m c.args.number b c.args.beginning c.args.parent) =
    subst (λ f. Holds c.enter.new.frames c.fill_first.new.cells (entered m (record { text = c.args.number; level = b.level; encloser = number_in c.args.parent; cells = first_cells b; passing = f; kept = false; given_back = false }) (stands_first c.args.beginning.object))) c.passes.ensures
    (subst (λ cs. Holds c.enter.new.frames c.fill_first.new.cells (entered m (record { text = c.args.number; level = b.level; encloser = number_in c.args.parent; cells = cs; passing = c.passes.result; kept = false; given_back = false }) (stands_first c.args.beginning.object))) e
    (subst (λ f. Holds c.enter.new.frames c.fill_first.new.cells (entered m (record { text = c.args.number; level = b.level; encloser = number_in c.args.parent; cells = cells_at c.fill_first.new.cells (frame_at f c.in_ok-place.place).base (frame_at f c.in_ok-place.place).cells; passing = c.passes.result; kept = false; given_back = false }) (stands_first c.args.beginning.object))) c.deref_mut-4.ensures.value
    (c.enter.ensures.holds c.fill_first.new.cells m (subst (λ f. Holds f c.fill_first.new.cells m) (sym c.deref_mut-4.ensures.value) h2) s.entered up1))) in
    let later : (r : FrameRef) → Leads p.frames.items m r → Leads c.enter.new.frames (opened m c.args.number b c.args.beginning c.args.parent) r =
    λ r leads. c.enter.ensures.leads m _ (stands_first c.args.beginning.object) r (subst (λ f. Leads f m r) (sym c.deref_mut-4.ensures.value) (c.in_ok-place.ensures.leads m r leads)) in
    let before_kept : KeptBefore p.frames.items c.enter.new.frames = λ at number x h. c.in_ok-place.ensures.chains at number x (subst (λ f. IsKeeping f at number x) c.deref_mut-4.ensures.value (c.enter.ensures.chains at number x h)) in
    let each : length c.reserve.new.parks.items ≡ length c.enter.new.frames = c.in_ok-place.ensures.each s.parks.each ∙ ap (λ f. length f) (sym c.deref_mut-4.ensures.value) ∙ rooms_count c.deref_mut-4.result.now c.enter.new.frames c.enter.ensures.stacks in
    let here : Has c.enter.new.frames c.in-Ok-try_from.region p.entered = subst (λ k. Has c.enter.new.frames k p.entered) (let q : c.in_ok-place.place ≡ c.in-Ok-try_from.region = search rules in q) c.enter.ensures.here in
    let room : c.in_ok-stack.stack.items ≡ replicate c.block.inside.room empty_slot = c.in_ok-stack.ensures in
    let p2 : Storage = record { frames = with_items c.reserve.new.frames c.enter.new.frames; cells = with_items c.reserve.new.cells c.fill_first.new.cells; spares = with_items c.reserve.new.spares c.take_stack.new.spares; idle = p.idle; parks = c.reserve.new.parks; heads = with_items p.heads c.reserve.new.heads; entered = p.entered + 1; arrays = p.arrays; texts = p.texts; image = p.image; members = p.members; simulations = p.simulations; ticks = p.ticks; words = p.words; wanted = p.wanted } in
    let t : working.Activation = record { registers = record { thunk = None; home = record { frame = c.in-Ok-try_from.region; stamp = p.entered }; pc = c.args.beginning.start; depth = 0; stage = c.args.beginning.stage }; stack = c.in_ok-stack.stack } in
    for_block l p p2 c.args.number b c.args.block.now c.args.beginning c.args.parent t before now o m c.block.view_is
    (opens_from l p p2 c.args.number b c.args.beginning c.args.parent t before now o m s c.enter.new.frames c.fill_first.new.cells
    (with_items_is c.reserve.new.frames c.enter.new.frames (search (rules, places))) (with_items_is c.reserve.new.cells c.fill_first.new.cells (search (rules, places))) refl refl refl refl refl refl refl refl h3 later
    (c.fill_first.ensures.arrays p.arrays.regions o.arrays (subst (λ x. AllLeadArrays p.arrays.regions o.arrays x) (sym c.deref_mut-3.ensures.value) (c.in_ok-place.ensures.arrays p.arrays.regions o.arrays s.cells)))
    (has_leads c.enter.new.frames c.fill_first.new.cells (opened m c.args.number b c.args.beginning c.args.parent) (record { frame = c.in-Ok-try_from.region; stamp = p.entered }) h3 here)
    (subst (λ x. AllLead c.enter.new.frames (opened m c.args.number b c.args.beginning c.args.parent) x) (sym room) (empty_leads c.block.inside.room c.enter.new.frames (opened m c.args.number b c.args.beginning c.args.parent)))
    (subst (λ x. AllLeadArrays p.arrays.regions o.arrays x) (sym room) (empty_leads_arrays c.block.inside.room p.arrays.regions o.arrays))
    each c.in_ok-place.ensures.parked before_kept
    (first_activation None p.entered (length m.instances) c.in-Ok-try_from.region c.args.beginning.start c.block.inside.room c.args.beginning.stage c.in_ok-stack.stack.items s.entered room))
