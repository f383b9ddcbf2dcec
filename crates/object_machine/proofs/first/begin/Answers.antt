use Rattle.std.proofs.Common.{◌≡◌, [], refl, sym, subst, ap, ◌∙◌}
use Rattle.std.specs.Prelude.{Some, None, false, slice_get}
use Rattle.sim_values.specs.Words.{instance_words}
use Rattle.sim_code.specs.Machine.{words_of_block}
use Rattle.sim_code.specs.Rows.{first_stage, program_begun}
use Rattle.frame_arena.specs.Frames.{empty_memory}
use Rattle.object_machine.specs.declared.machine.Flow.TheVariants as flow
use Rattle.object_machine.specs.declared.openings.Beginning.{Beginning}
use Rattle.object_machine.specs.Entering.{Opens, Pays, opened, paid}
use Rattle.object_machine.specs.Making.{AllRegisteredBelow, Registered}
use Rattle.object_machine.specs.Running.{Begins, IsFit, IsUnread}
use Rattle.object_machine.specs.Standing.{Leaves}
use Rattle.object_machine.proofs.Firsts.{block_first, entry_first, no_block_first, no_entry_first, no_stage_first, none_some, none_stores, pays_off, stage_first}
use Rattle.object_machine.proofs.Jumps.{found_at, none_at}
use Rattle.object_machine.proofs.Registrations.{all_registered, enters_alone, program_only, registered, registered_at}
use Rattle.object_machine.proofs.first.begin.Goals as goal

pub returns-in_default-clause-row : goal.returns-in_default-clause-row
returns-in_default-clause-row c code before now o e e2 e3 s =
    let l = c.args.limits.now in
    subst (λ b. Begins b code l c.args.storage.now before now o) (sym c.stopped.ensures) (
      refl,
      λ r stack. subst (λ q. Leaves flow.NoRule l 0 c.args.storage.now r stack [] before now q) (sym (no_block_first code l o (ap (λ v. slice_get v 0) e ∙ none_at c.args.blocks.now 0 c.in_default.ensures.lookup.3)))
          (none_stores l 0 c.args.storage.now r stack [] before now o empty_memory s),
    )

pub returns-in_default-first_stage-clause-row : goal.returns-in_default-first_stage-clause-row
returns-in_default-first_stage-clause-row c code before now o e e2 e3 s =
    let l = c.args.limits.now in
    let b = c.in-Some.block.now in
    let there : slice_get code.blocks 0 ≡ Some b = ap (λ v. slice_get v 0) e ∙ found_at c.args.blocks.now 0 b c.in-Some.ensures.lookup.3.0 c.in-Some.ensures.lookup.1 in
    let none : first_stage b.kind ≡ None = ap (λ b. first_stage b.kind) (sym c.block.view_is) ∙ sym c.in_default-first_stage.ensures in
    subst (λ b. Begins b code l c.args.storage.now before now o) (sym c.stopped-in_default-first_stage.ensures) (
      refl,
      λ r stack. subst (λ q. Leaves flow.NoRule l 0 c.args.storage.now r stack [] before now q) (sym (block_first code l o b there ∙ no_stage_first code l o b none))
          (none_stores l 0 c.args.storage.now r stack [] before now o empty_memory s),
    )

pub returns-in_default-get-clause-row : goal.returns-in_default-get-clause-row
returns-in_default-get-clause-row c code before now o e e2 e3 s =
    let l = c.args.limits.now in
    let b = c.in-Some.block.now in
    let t = c.in-Some-first_stage.stage in
    let there : slice_get code.blocks 0 ≡ Some b = ap (λ v. slice_get v 0) e ∙ found_at c.args.blocks.now 0 b c.in-Some.ensures.lookup.3.0 c.in-Some.ensures.lookup.1 in
    let stage : first_stage b.kind ≡ Some t = ap (λ b. first_stage b.kind) (sym c.block.view_is) ∙ sym c.in-Some-first_stage.ensures in
    let at : b.entry ≡ c.block.inside.entry = ap (λ b. b.entry) (sym c.block.view_is) in
    let none : slice_get code.instrs b.entry ≡ None = ap (λ v. slice_get v b.entry) e2 ∙ ap (λ k. slice_get c.args.instrs.now k) at ∙ none_at c.args.instrs.now c.block.inside.entry c.in_default-get.ensures.lookup.3 in
    subst (λ b. Begins b code l c.args.storage.now before now o) (sym c.stopped-in_default-get.ensures) (
      refl,
      λ r stack. subst (λ q. Leaves flow.NoRule l 0 c.args.storage.now r stack [] before now q) (sym (block_first code l o b there ∙ stage_first code l o b t stage ∙ no_entry_first code l o b t none))
          (none_stores l 0 c.args.storage.now r stack [] before now o empty_memory s),
    )

pub returns-in_default-open-clause-row : goal.returns-in_default-open-clause-row
unfolding Leaves
returns-in_default-open-clause-row c code before now o e e2 e3 s = subst (λ b. Begins b code c.args.limits.now c.open.new.storage before now o) (sym c.stopped-in_default-open.ensures) (refl, λ r stack. tt)

pub returns-in_default-begin_program-clause-row : goal.returns-in_default-begin_program-clause-row
unfolding Leaves
returns-in_default-begin_program-clause-row c code before now o e e2 e3 s = subst (λ b. Begins b code c.args.limits.now c.begin_program.new.storage before now o) (sym c.stopped-in_default-begin_program.ensures) (refl, λ r stack. tt)

pub returns-in_default-flow : goal.returns-in_default-flow
returns-in_default-flow c = record {
  fits = subst (λ b. IsFit b) (sym c.stopped-in_default-flow.ensures) tt;
  read = subst (λ b. IsUnread b) (sym c.stopped-in_default-flow.ensures) c.pay-flow.ensures.read;
  texts = c.pay-flow.ensures.texts;
  image = c.pay-flow.ensures.image;
  row = λ code before now o e e2 e3 s.
      let l = c.args.limits.now in
      let b = c.in-Some.block.now in
      let t = c.in-Some-first_stage.stage in
      let x = c.in-Some-get.entry.now in
      let at : b.entry ≡ c.block.inside.entry = ap (λ b. b.entry) (sym c.block.view_is) in
      let cells : b.cells ≡ c.block.inside.cells = ap (λ b. b.cells) (sym c.block.view_is) in
      let there : slice_get code.blocks 0 ≡ Some b = ap (λ v. slice_get v 0) e ∙ found_at c.args.blocks.now 0 b c.in-Some.ensures.lookup.3.0 c.in-Some.ensures.lookup.1 in
      let stage : first_stage b.kind ≡ Some t = ap (λ b. first_stage b.kind) (sym c.block.view_is) ∙ sym c.in-Some-first_stage.ensures in
      let entry : slice_get code.instrs b.entry ≡ Some x = ap (λ v. slice_get v b.entry) e2 ∙ ap (λ k. slice_get c.args.instrs.now k) at ∙ found_at c.args.instrs.now c.block.inside.entry x c.in-Some-get.ensures.lookup.3.0 c.in-Some-get.ensures.lookup.1 in
      let eq = block_first code l o b there ∙ stage_first code l o b t stage ∙ entry_first code l o b t x entry in
      let w : c.words_instance.result ≡ words_of_block b = c.words_instance.ensures.words ∙ ap (λ n. instance_words n false) (sym cells) in
      let pays : Pays c.pay-flow.result l x.line.0 (words_of_block b) c.pay-flow.new.storage before now o empty_memory = subst (λ n. Pays c.pay-flow.result l x.line.0 n c.pay-flow.new.storage before now o empty_memory) w (c.pay-flow.ensures.row x.line.0 before now o empty_memory s) in
      subst (λ q. Begins q code l c.pay-flow.new.storage before now o) (sym c.stopped-in_default-flow.ensures) (
        refl,
        λ r stack. subst (λ q. Leaves c.pay-flow.result l x.line.0 c.pay-flow.new.storage r stack [] before now q) (sym eq)
            (pays_off c.pay-flow.result l x.line.0 (words_of_block b) c.pay-flow.new.storage before now o empty_memory c.in_default-flow.not-On pays r stack [] _),
      );
}

pub returns-clause-row : goal.returns-clause-row
unfolding Pays
returns-clause-row c code before now o e e2 e3 s =
    let l = c.args.limits.now in
    let b = c.in-Some.block.now in
    let t = c.in-Some-first_stage.stage in
    let x = c.in-Some-get.entry.now in
    let at : b.entry ≡ c.block.inside.entry = ap (λ b. b.entry) (sym c.block.view_is) in
    let cells : b.cells ≡ c.block.inside.cells = ap (λ b. b.cells) (sym c.block.view_is) in
    let there : slice_get code.blocks 0 ≡ Some b = ap (λ v. slice_get v 0) e ∙ found_at c.args.blocks.now 0 b c.in-Some.ensures.lookup.3.0 c.in-Some.ensures.lookup.1 in
    let stage : first_stage b.kind ≡ Some t = ap (λ b. first_stage b.kind) (sym c.block.view_is) ∙ sym c.in-Some-first_stage.ensures in
    let entry : slice_get code.instrs b.entry ≡ Some x = ap (λ v. slice_get v b.entry) e2 ∙ ap (λ k. slice_get c.args.instrs.now k) at ∙ found_at c.args.instrs.now c.block.inside.entry x c.in-Some-get.ensures.lookup.3.0 c.in-Some-get.ensures.lookup.1 in
    let eq = block_first code l o b there ∙ stage_first code l o b t stage ∙ entry_first code l o b t x entry in
    let w : c.words_instance.result ≡ words_of_block b = c.words_instance.ensures.words ∙ ap (λ n. instance_words n false) (sym cells) in
    let pays : Pays flow.On l x.line.0 (words_of_block b) c.pay-flow.new.storage before now o empty_memory = subst (λ n. Pays flow.On l x.line.0 n c.pay-flow.new.storage before now o empty_memory) w (c.in-On.ensures.row x.line.0 before now o empty_memory s) in
    let p = paid o (words_of_block b) in
    let opens0 = c.in-Ok.ensures.row l before now p empty_memory pays.1 (λ r is. absurd (none_some r is)) in
    let opens : Opens l c.pay-flow.new.storage c.open.new.storage 0 b (record { start = b.entry; stage = t; object = false }) None c.in-Ok.activation before now p empty_memory =
    subst (λ n. Opens l c.pay-flow.new.storage c.open.new.storage 0 b (record { start = n; stage = t; object = false }) None c.in-Ok.activation before now p empty_memory) (sym at) opens0 in
    let g : Beginning = record { start = b.entry; stage = t; object = false } in
    let m2 = opened empty_memory 0 b g None in
    let p2 = c.open.new.storage in
    let p3 = c.begin_program.new.storage in
    let next = c.in-Ok.activation in
    let stamp : next.registers.home.stamp ≡ 0 = ap (λ a. a.home) opens.top in
    let all : AllRegisteredBelow next.registers.home.stamp p = registered_at 0 next.registers.home.stamp p (sym stamp) (all_registered l c.pay-flow.new.storage before now p empty_memory pays.1) in
    let w = program_begun code b p in
    let made : Registered p2.frames.items m2 p3 w = c.in-Ok-begin_program.ensures.row code p2.frames.items m2 p e e3 stamp (registered l p2 before now p m2 opens.stores) all opens.works.home in
    subst (λ q. Leaves flow.On l 0 p3 next.registers next.stack.items [] before now q) (sym (eq ∙ pays.0 _))
    (enters_alone l 0 c.pay-flow.new.storage p2 p3 c.begin_program.ensures.same b t next before now p w (program_only code b p) opens made)
