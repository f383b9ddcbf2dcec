use Rattle.std.specs.Prelude.{◌<◌, false, None, Some}
use Rattle.frame_arena.specs.declared.frames.Component.TheVariants as component
use Rattle.frame_arena.specs.declared.frames.Frame.{Frame}
use Rattle.std.proofs.Common.{rules, ◌≡◌, length, subst, sym, refl, arith}
use Rattle.frame_arena.specs.Frames.{KeptBefore, Holds, Laid, Leads, rooms}
use Rattle.frame_arena.proofs.Growth.{adds, kept_more, leads_more}
use Rattle.frame_arena.proofs.Rooms.{laid_to}
use Rattle.frame_arena.specs.Free.{FreeLists, end_of_list}
use Rattle.frame_arena.proofs.Freed.{free_added}
use Rattle.frame_arena.proofs.regions.add_region.Goals as goal

pub returns-clause-holds : goal.returns-clause-holds
returns-clause-holds c m h =
    let base : c.in-Ok.base ≡ length c.args.cells.now.items = search rules in
    let long = c.in_ok-grow.ensures.long in
    subst (λ l. Holds l c.grow.new.slots.items m) (sym c.in_ok-push.ensures.items)
    (adds c.args.frames.now.items c.args.cells.now.items c.grow.new.slots.items m _ h (c.in_ok-grow.ensures.holds c.args.frames.now.items m h) refl base (omega (arith, base, long)))

pub returns-clause-stacks : goal.returns-clause-stacks
returns-clause-stacks c h =
    let floor : c.in-Ok-try_from.floor ≡ length c.args.stacks.now.items = search rules in
    let f : Frame = record { live = false; number = 0; block = 0; level = 0; parent = None; passing = false; kept = false; component = component.NoObject; base = c.in-Ok.base; cells = c.args.count; floor = c.in-Ok-try_from.floor; room = c.args.room; next = 0 } in
    subst (λ l. Laid 0 (rooms l) (length c.grow-2.new.slots.items)) (sym c.in_ok-push.ensures.items)
    (laid_to (length c.args.stacks.now.items) (length c.grow-2.new.slots.items) c.args.frames.now.items f h floor c.in_ok-grow-2.ensures.long)

pub returns-clause-leads : goal.returns-clause-leads
returns-clause-leads c m r leads =
    let f : Frame = record { live = false; number = 0; block = 0; level = 0; parent = None; passing = false; kept = false; component = component.NoObject; base = c.in-Ok.base; cells = c.args.count; floor = c.in-Ok-try_from.floor; room = c.args.room; next = 0 } in
    subst (λ l. Leads l m r) (sym c.in_ok-push.ensures.items) (leads_more c.args.frames.now.items f refl m r leads)

pub returns-clause-chains : goal.returns-clause-chains
returns-clause-chains c =
    let f : Frame = record { live = false; number = 0; block = 0; level = 0; parent = None; passing = false; kept = false; component = component.NoObject; base = c.in-Ok.base; cells = c.args.count; floor = c.in-Ok-try_from.floor; room = c.args.room; next = 0 } in
    subst (λ l. KeptBefore c.args.frames.now.items l) (sym c.in_ok-push.ensures.items) (kept_more c.args.frames.now.items f refl)

pub returns-clause-lists : goal.returns-clause-lists
returns-clause-lists c heads lists h =
    let place : c.len-place.result ≡ length c.args.frames.now.items = search rules in
    subst (λ n. FreeLists c.push.new.self.items heads lists (Some n)) (sym place)
    (subst (λ l. FreeLists l heads lists (Some (length c.args.frames.now.items))) (sym c.in_ok-push.ensures.items) (free_added c.args.frames.now.items heads lists _ h (let room : length c.args.frames.now.items < end_of_list = search rules in room)))
