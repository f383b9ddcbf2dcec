use Rattle.std.proofs.Common.{rules, ◌≡◌, true, false, ◌∷◌, ap, sym, subst, ◌∙◌}
use Rattle.std.specs.List.{list_any}
use Rattle.std.specs.Vec.{with_items}
use Rattle.std.proofs.lemmas.List.{with_items_is, places}
use Rattle.sim_code.specs.Instances.{kept_on}
use Rattle.sim_code.specs.Machine.{is_held, owner}
use Rattle.frame_arena.specs.Frames.{Holds}
use Rattle.object_machine.specs.Keeping.{KeptIn}
use Rattle.object_machine.specs.Standing.{below_of}
use Rattle.object_machine.proofs.Held.{kept_where}
use Rattle.object_machine.proofs.calling.keep_for.Goals as goal

pub returns-clause-row : goal.returns-clause-row
returns-clause-row c all cells m a own holds =
    let p = c.args.storage.now in
    let b = c.args.block.now in
    let frames = with_items p.frames c.keep_frames.new.frames in
    let listed : frames.items ≡ c.keep_frames.new.frames = with_items_is p.frames c.keep_frames.new.frames (search (rules, places)) in
    let free : b.class_free ≡ false = ap (λ b. b.class_free) (sym c.block.view_is) ∙ c.if-block.false in
    let one : c.holds_one.result ≡ true = search rules in
    let held : list_any is_held b.formals ≡ true = ap (list_any is_held) (ap (λ b. b.formals) (sym c.block.view_is) ∙ sym c.deref.ensures.value) ∙ sym c.holds_one.ensures ∙ one in
    let there : Holds c.deref_mut.result.now cells m = subst (λ f. Holds f cells m) (sym c.deref_mut.ensures.value) holds in
    let m2 = kept_on owner (a ∷ below_of c.args.below.now) m in
    let kept = c.keep_frames.ensures.row all cells m a own there in
    subst (KeptIn p.frames.items frames.items cells m) (sym (kept_where b (a ∷ below_of c.args.below.now) m free held))
    (subst (λ f. KeptIn p.frames.items f cells m m2) (sym listed) (subst (λ f. KeptIn f c.keep_frames.new.frames cells m m2) c.deref_mut.ensures.value kept))
