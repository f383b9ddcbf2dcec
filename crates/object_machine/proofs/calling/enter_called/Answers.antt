use Rattle.std.proofs.Common.{rules, ◌≡◌, ◌∷◌, ℕ, length, refl, sym, subst, ap, ◌∙◌}
use Rattle.std.specs.Prelude.{Some, None, false, if◌then◌else◌}
use Rattle.sim_values.specs.Words.{instance_words}
use Rattle.sim_code.specs.Arrays.{handed_over}
use Rattle.sim_code.specs.Machine.{arrays_by_value, filled, first_cells, first_value, frames_kept, in_frame, is_nothing, waiting, words_of_block}
use Rattle.frame_arena.specs.Frames.{Leads}
use Rattle.frame_arena.specs.Stacks.{values_from, values_of}
use Rattle.object_machine.specs.declared.machine.Flow.TheVariants as flow
use Rattle.object_machine.specs.Entering.{Opens, Pays, as_frame, paid}
use Rattle.object_machine.specs.Keeping.{KeptIn}
use Rattle.object_machine.specs.Standing.{AllAtWork, AtWork, Leaves, Obeys, activation_at, below_of}
use Rattle.object_machine.proofs.BlockFacts.{same_found}
use Rattle.object_machine.proofs.Called.{values_long}
use Rattle.object_machine.proofs.Calls.{all_fit, map_long, none_fit}
use Rattle.object_machine.proofs.Firsts.{pays_off}
use Rattle.object_machine.proofs.Going.{along, no_rule_in}
use Rattle.object_machine.proofs.KeptFrames.{stores_kept, works_kept}
use Rattle.object_machine.proofs.calling.enter_called.Goals as goal

pub returns-then-not-keep_for-clause-row : goal.returns-then-not-keep_for-clause-row
unfolding Obeys Leaves
returns-then-not-keep_for-clause-row c line now lead before o m s = tt

pub returns-in-Err-clause-row : goal.returns-in-Err-clause-row
unfolding Obeys Leaves
returns-in-Err-clause-row c line now lead before o m s = tt

pub returns-then-not-is_filled-clause-row : goal.returns-then-not-is_filled-clause-row
unfolding Obeys
returns-then-not-is_filled-clause-row c line now lead before o m s =
    let l = c.args.limits.now in
    let p = c.args.storage.now in
    let t = c.args.top.now in
    let stack = t.stack.items in
    let a = activation_at t.registers stack in
    let under = below_of c.args.below.now.items in
    let acts = c.args.actuals in
    let vs = values_from stack acts.at acts.count in
    let b = c.args.block.now in
    let q = filled (if is_nothing b.result_type then 0 else 1) vs (first_cells b) in
    let long : length (first_cells b) ≡ c.len.result = map_long first_value b.types ∙ ap (λ b. length b.types) (sym c.block.view_is) ∙ (let n : length c.block.inside.types.items ≡ c.len.result = search rules in n) in
    let start : c.first_formal-first.result ≡ (if is_nothing b.result_type then 0 else 1) = c.first_formal-first.ensures.is ∙ ap (λ b. if is_nothing b.result_type then 0 else 1) c.block.view_is in
    let none : q ≡ None = ap (λ n. filled n vs (first_cells b)) (sym start) ∙ c.is_filled.ensures.no c.if-not-is_filled.true vs (first_cells b) (values_long stack acts.at acts.count) long in
    no_rule_in l line p p c.args.below.now.items before now t.registers t.registers stack stack o m s (none_fit l o m a under line vs (values_of acts.under stack) acts.parent.stamp c.args.number b q none)

pub returns-in_default : goal.returns-in_default
unfolding Obeys
returns-in_default c = record {
  fits = c.requires.fits;
  others = c.requires.others;
  texts = c.pay-flow.ensures.texts ∙ c.keep_for.ensures.texts;
  image = c.pay-flow.ensures.image ∙ c.keep_for.ensures.image;
  row = λ line now lead before o m s.
      let l = c.args.limits.now in
      let t = c.args.top.now in
      let stack = t.stack.items in
      let a = activation_at t.registers stack in
      let under = below_of c.args.below.now.items in
      let acts = c.args.actuals in
      let vs = values_from stack acts.at acts.count in
      let b = c.args.block.now in
      let q = filled (if is_nothing b.result_type then 0 else 1) vs (first_cells b) in
      let long : length (first_cells b) ≡ c.len.result = map_long first_value b.types ∙ ap (λ b. length b.types) (sym c.block.view_is) ∙ (let n : length c.block.inside.types.items ≡ c.len.result = search rules in n) in
      let start : c.first_formal-first.result ≡ (if is_nothing b.result_type then 0 else 1) = c.first_formal-first.ensures.is ∙ ap (λ b. if is_nothing b.result_type then 0 else 1) c.block.view_is in
      let fill = c.is_filled.ensures.yes c.if-not-is_filled.false vs (first_cells b) (values_long stack acts.at acts.count) long in
      let is : q ≡ Some fill.cells = ap (λ n. filled n vs (first_cells b)) (sym start) ∙ fill.is in
      let cells : b.cells ≡ c.block.inside.cells = ap (λ b. b.cells) (sym c.block.view_is) in
      let w : c.words_instance.result ≡ words_of_block b = c.words_instance.ensures.words ∙ ap (λ n. instance_words n false) (sym cells) in
      let whole = all_fit l o m a under line vs (values_of acts.under stack) acts.parent.stamp c.args.number b q fill.cells is in
      let p = c.args.storage.now in
      let p0 = c.keep_for.new.storage in
      let m2 = frames_kept b (a ∷ under) m in
      let kept : KeptIn p.frames.items p0.frames.items p.cells.items m m2 = subst (λ w. KeptIn p.frames.items p0.frames.items p.cells.items m (frames_kept b (a ∷ below_of w) m)) c.deref.ensures.value (c.keep_for.ensures.row c.if-not-keep_for.false p.cells.items m a refl s.stores.frames) in
      let stores = stores_kept l p before now o m m2 p0 c.keep_for.ensures.same c.keep_for.ensures.stacks kept s.stores in
      let pays : Pays c.pay-flow.result l line (words_of_block b) c.pay-flow.new.storage before now o m2 = subst (λ n. Pays c.pay-flow.result l line n c.pay-flow.new.storage before now o m2) w (c.pay-flow.ensures.row line before now o m2 stores) in
      along l line c.pay-flow.new.storage c.args.below.now.items before now c.pay-flow.result t.registers stack _ _ whole
      (pays_off c.pay-flow.result l line (words_of_block b) c.pay-flow.new.storage before now o m2 c.in_default.not-On pays t.registers stack c.args.below.now.items _);
}

pub returns-in-Ok-clause-row : goal.returns-in-Ok-clause-row
unfolding Obeys Pays
returns-in-Ok-clause-row c line now lead before o m s =
    let l = c.args.limits.now in
    let p = c.args.storage.now in
    let t = c.args.top.now in
    let stack = t.stack.items in
    let a = activation_at t.registers stack in
    let under = below_of c.args.below.now.items in
    let acts = c.args.actuals in
    let vs = values_from stack acts.at acts.count in
    let rest = values_of acts.under stack in
    let k : ℕ = c.args.number in
    let b = c.args.block.now in
    let q = filled (if is_nothing b.result_type then 0 else 1) vs (first_cells b) in
    let long : length (first_cells b) ≡ c.len.result = map_long first_value b.types ∙ ap (λ b. length b.types) (sym c.block.view_is) ∙ (let n : length c.block.inside.types.items ≡ c.len.result = search rules in n) in
    let start : c.first_formal-first.result ≡ (if is_nothing b.result_type then 0 else 1) = c.first_formal-first.ensures.is ∙ ap (λ b. if is_nothing b.result_type then 0 else 1) c.block.view_is in
    let fill = c.is_filled.ensures.yes c.if-not-is_filled.false vs (first_cells b) (values_long stack acts.at acts.count) long in
    let is : q ≡ Some fill.cells = ap (λ n. filled n vs (first_cells b)) (sym start) ∙ fill.is in
    let cells : b.cells ≡ c.block.inside.cells = ap (λ b. b.cells) (sym c.block.view_is) in
    let w : c.words_instance.result ≡ words_of_block b = c.words_instance.ensures.words ∙ ap (λ n. instance_words n false) (sym cells) in
    let whole = all_fit l o m a under line vs rest acts.parent.stamp k b q fill.cells is in
    let p0 = c.keep_for.new.storage in
    let m2 = frames_kept b (a ∷ under) m in
    let kept : KeptIn p.frames.items p0.frames.items p.cells.items m m2 = subst (λ w. KeptIn p.frames.items p0.frames.items p.cells.items m (frames_kept b (a ∷ below_of w) m)) c.deref.ensures.value (c.keep_for.ensures.row c.if-not-keep_for.false p.cells.items m a refl s.stores.frames) in
    let stores = stores_kept l p before now o m m2 p0 c.keep_for.ensures.same c.keep_for.ensures.stacks kept s.stores in
    let still = works_kept l p before now o m m2 p0 c.keep_for.ensures.same kept in
    let pays : Pays flow.On l line (words_of_block b) c.pay-flow.new.storage before now o m2 = subst (λ n. Pays flow.On l line n c.pay-flow.new.storage before now o m2) w (c.in-On.ensures.row line before now o m2 stores) in
    let world = paid o (words_of_block b) in
    let p1 = c.pay-flow.new.storage in
    let same = c.in-On.ensures.same refl in
    let works : AtWork p1 world m2 t.registers stack = subst (λ v. AtWork v world m2 t.registers stack) (sym same) (still t.registers stack s.top) in
    let others : AllAtWork p1 world m2 c.args.below.now.items = subst (λ v. AllAtWork v world m2 c.args.below.now.items) (sym same) (λ k u there. still u.registers u.stack.items (s.others k u there)) in
    let leads : Leads p1.frames.items m2 acts.parent = subst (λ v. Leads v.frames.items m2 acts.parent) (sym same) (kept.leads acts.parent (lead p.cells.items m s.stores.frames s.top.slots)) in
    let opens = subst (λ g. Opens l p1 c.open.new.storage k b g (Some acts.parent) c.in-Ok.next before now world m2) c.as_frame.ensures
    (c.in-Ok.ensures.row l before now world m2 pays.1 (λ r is. subst (λ f. Leads p1.frames.items m2 f) (same_found (Some acts.parent) acts.parent r refl is) leads)) in
    let formals : b.formals ≡ c.deref-in-Ok.result.now = ap (λ b. b.formals) (sym c.block.view_is) ∙ sym c.deref-in-Ok.ensures.value in
    let top = c.pass.new.top in
    let f = c.pass.result in
    along l line c.pass.new.storage c.pass.new.below.items before now f top.registers top.stack.items _ _ (whole ∙ pays.0 _ ∙ ap (λ n. in_frame (handed_over n (arrays_by_value b.formals vs) world) m2 k b (Some acts.parent.stamp) fill.cells (waiting a rest ∷ under)) (sym kept.count))
    (c.pass.ensures.row l line before now p1 world m2 k b (as_frame b) (Some acts.parent) fill.cells formals opens works others fill.is)
