use Rattle.std.proofs.Common.{rules, to_z, of_z, w64, ◌≡◌, ◌∷◌, ℕ, refl, sym, subst, ap, ◌∙◌}
use Rattle.std.specs.Prelude.{Some, false, slice_get}
use Rattle.sim_values.specs.Words.{instance_words}
use Rattle.sim_code.specs.Code.{BlockOf}
use Rattle.sim_code.specs.Events.{entering}
use Rattle.sim_code.specs.Machine.{Machine, in_frame, first_cells, waiting, words_of_block}
use Rattle.sim_code.specs.Outcome.{Run}
use Rattle.frame_arena.specs.Frames.{Leads}
use Rattle.frame_arena.specs.Stacks.{values_of}
use Rattle.object_machine.specs.declared.machine.Flow.TheVariants as flow
use Rattle.object_machine.specs.Entering.{Opens, Pays, as_frame, paid}
use Rattle.object_machine.specs.Standing.{AllAtWork, AtWork, Leaves, Obeys, activation_at, below_of}
use Rattle.object_machine.proofs.BlockFacts.{same_found}
use Rattle.object_machine.proofs.Covered.{covered_by, opens_first}
use Rattle.object_machine.proofs.Firsts.{pays_off}
use Rattle.object_machine.proofs.Going.{along, no_rule_in}
use Rattle.object_machine.proofs.Jumps.{found_at}
use Rattle.object_machine.proofs.entering.enter.Goals as goal

pub returns-in_default-clause-row : goal.returns-in_default-clause-row
unfolding Obeys
returns-in_default-clause-row c code line now e e2 before o m s =
    let ez : to_z w64 (of_z w64 c.args.operand) ≡ c.args.operand = search rules in
    let l = c.args.limits.now in
    let p = c.args.storage.now in
    let t = c.args.top.now in
    let go : ℕ → BlockOf → Run Machine = λ k x. entering l line (words_of_block x) o (λ p. in_frame p m k x (Some t.registers.home.stamp) (first_cells x) (waiting (activation_at t.registers t.stack.items) (values_of t.registers.depth t.stack.items) ∷ below_of c.args.below.now.items)) in
    no_rule_in l line p p c.args.below.now.items before now t.registers t.registers t.stack.items t.stack.items o m s (c.in_default.ensures.row code c.args.operand e e2 (sym ez) o (λ k x y. go k x))

pub returns-in_default-try_from-clause-row : goal.returns-in_default-try_from-clause-row
unfolding Obeys Leaves
returns-in_default-try_from-clause-row c code line now e e2 before o m s = tt

pub returns-in-Err-clause-row : goal.returns-in-Err-clause-row
unfolding Obeys Leaves
returns-in-Err-clause-row c code line now e e2 before o m s = tt

pub returns-in_default-flow : goal.returns-in_default-flow
unfolding Obeys
returns-in_default-flow c = record {
  fits = c.requires.fits;
  others = c.requires.others;
  texts = c.pay-flow.ensures.texts;
  image = c.pay-flow.ensures.image;
  row = λ code line now e e2 before o m s.
      let ez : to_z w64 (of_z w64 c.args.operand) ≡ c.args.operand = search rules in
      let l = c.args.limits.now in
      let t = c.args.top.now in
      let b = c.index-blocks-number.result in
      let cells : b.cells ≡ c.block.inside.cells = ap (λ b. b.cells) (sym c.block.view_is) in
      let there : slice_get code.blocks c.in-Some.number ≡ Some b = ap (λ v. slice_get v c.in-Some.number) e ∙ found_at c.args.blocks.now c.in-Some.number b c.in-Some.ensures.within c.index-blocks-number.is in
      let go : ℕ → BlockOf → Run Machine = λ k x. entering l line (words_of_block x) o (λ p. in_frame p m k x (Some t.registers.home.stamp) (first_cells x) (waiting (activation_at t.registers t.stack.items) (values_of t.registers.depth t.stack.items) ∷ below_of c.args.below.now.items)) in
      let w : c.words_instance.result ≡ words_of_block b = c.words_instance.ensures.words ∙ ap (λ n. instance_words n false) (sym cells) in
      let pays : Pays c.pay-flow.result l line (words_of_block b) c.pay-flow.new.storage before now o m = subst (λ n. Pays c.pay-flow.result l line n c.pay-flow.new.storage before now o m) w (c.pay-flow.ensures.row line before now o m s.stores) in
      along l line c.pay-flow.new.storage c.args.below.now.items before now c.pay-flow.result t.registers t.stack.items _ _ (c.in-Some.ensures.row code c.args.operand e e2 (sym ez) b there o go)
      (pays_off c.pay-flow.result l line (words_of_block b) c.pay-flow.new.storage before now o m c.in_default-flow.not-On pays t.registers t.stack.items c.args.below.now.items _);
}

pub returns-in-Ok-open-clause-row : goal.returns-in-Ok-open-clause-row
unfolding Obeys Pays
returns-in-Ok-open-clause-row c code line now e e2 before o m s =
    let ez : to_z w64 (of_z w64 c.args.operand) ≡ c.args.operand = search rules in
    let l = c.args.limits.now in
    let p = c.args.storage.now in
    let t = c.args.top.now in
    let b = c.index-blocks-number.result in
    let home = t.registers.home in
    let cells : b.cells ≡ c.block.inside.cells = ap (λ b. b.cells) (sym c.block.view_is) in
    let there : slice_get code.blocks c.in-Some.number ≡ Some b = ap (λ v. slice_get v c.in-Some.number) e ∙ found_at c.args.blocks.now c.in-Some.number b c.in-Some.ensures.within c.index-blocks-number.is in
    let under = waiting (activation_at t.registers t.stack.items) (values_of t.registers.depth t.stack.items) in
    let go : ℕ → BlockOf → Run Machine = λ k x. entering l line (words_of_block x) o (λ p. in_frame p m k x (Some home.stamp) (first_cells x) (under ∷ below_of c.args.below.now.items)) in
    let w : c.words_instance.result ≡ words_of_block b = c.words_instance.ensures.words ∙ ap (λ n. instance_words n false) (sym cells) in
    let pays : Pays flow.On l line (words_of_block b) c.pay-flow.new.storage before now o m = subst (λ n. Pays flow.On l line n c.pay-flow.new.storage before now o m) w (c.in-On.ensures.row line before now o m s.stores) in
    let number : c.in-Ok.short ≡ c.in-Some.number = search rules in
    let q = paid o (words_of_block b) in
    let p1 = c.pay-flow.new.storage in
    let same = c.in-On.ensures.same refl in
    let works : AtWork p1 q m t.registers t.stack.items = subst (λ v. AtWork v q m t.registers t.stack.items) (sym same) s.top in
    let others : AllAtWork p1 q m c.args.below.now.items = subst (λ v. AllAtWork v q m c.args.below.now.items) (sym same) s.others in
    let opens = subst (λ g. Opens l p1 c.open.new.storage c.in-Ok.short b g (Some home) c.in-Ok-open.next before now q m) c.as_frame.ensures
    (c.in-Ok-open.ensures.row l before now q m pays.1 (λ r is. subst (λ f. Leads p1.frames.items m f) (same_found (Some home) home r refl is) works.home)) in
    let next = c.in-Ok-open.next in
    let top = c.cover.new.top in
    let f = c.cover.result in
    along l line c.open.new.storage c.cover.new.below.items before now f top.registers top.stack.items _ _ (c.in-Some.ensures.row code c.args.operand e e2 (sym ez) b there o go ∙ pays.0 _)
    (subst (λ k. Leaves f l line c.open.new.storage top.registers top.stack.items c.cover.new.below.items before now (in_frame q m k b (Some home.stamp) (first_cells b) (under ∷ below_of c.args.below.now.items))) number
    (covered_by l line p1 c.open.new.storage c.in-Ok.short b (as_frame b) (Some home) (first_cells b) next t.registers t.stack.items c.args.below.now.items top c.cover.new.below.items before now q q m (opens_first l p1 c.open.new.storage c.in-Ok.short b (as_frame b) (Some home) next before now q m opens) (opens.others t.registers t.stack.items works) others f c.cover.ensures.row))
