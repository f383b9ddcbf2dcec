use Rattle.std.proofs.Common.{rules, to_z, of_z, w64, ◌≡◌, ◌∙◌, ap, sym, refl}
use Rattle.sim_code.specs.declared.instr.Instr.TheVariants as i
use Rattle.std.specs.Vec.{with_items}
use Rattle.std.proofs.lemmas.List.{with_items_is, places}
use Rattle.std.proofs.lemmas.Option.{IfSome_then}
use Rattle.object_machine.proofs.Going.{for_instr}
use Rattle.object_machine.proofs.rows.obey.Goals as goal

pub returns-in-Halt-clause-row : goal.returns-in-Halt-clause-row
returns-in-Halt-clause-row c code line below now e =
    for_instr _ code c.args.limits.now line _ _ _ _ _ _ below now c.args.instr _ (c.in-Halt.is) (c.halt.ensures.row c.args.limits.now line c.args.storage.now c.args.regs.now c.args.stack.now below now)

pub returns-in-Int-clause-row : goal.returns-in-Int-clause-row
returns-in-Int-clause-row c code line below now e =
    let evalue : to_z w64 (of_z w64 c.in-Int.value) ≡ c.in-Int.value = search rules in
    for_instr _ code c.args.limits.now line _ _ _ _ _ _ below now c.args.instr _ (c.in-Int.is ∙ ap i.Int (sym evalue)) (c.push_integer.ensures.row c.args.limits.now line c.args.storage.now below now)

pub returns-in-Bool-clause-row : goal.returns-in-Bool-clause-row
returns-in-Bool-clause-row c code line below now e =
    let evalue : to_z w64 (of_z w64 c.in-Bool.value) ≡ c.in-Bool.value = search rules in
    for_instr _ code c.args.limits.now line _ _ _ _ _ _ below now c.args.instr _ (c.in-Bool.is ∙ ap i.Bool (sym evalue)) (c.push_truth.ensures.row c.args.limits.now line c.args.storage.now below now)

pub returns-in-Char-clause-row : goal.returns-in-Char-clause-row
returns-in-Char-clause-row c code line below now e =
    let evalue : to_z w64 (of_z w64 c.in-Char.value) ≡ c.in-Char.value = search rules in
    for_instr _ code c.args.limits.now line _ _ _ _ _ _ below now c.args.instr _ (c.in-Char.is ∙ ap i.Char (sym evalue)) (c.push_character.ensures.row c.args.limits.now line c.args.storage.now below now)

pub returns-in-None-clause-row : goal.returns-in-None-clause-row
returns-in-None-clause-row c code line below now e =
    for_instr _ code c.args.limits.now line _ _ _ _ _ _ below now c.args.instr _ (c.in-None.is) (c.push_none.ensures.row c.args.limits.now line c.args.storage.now below now)

pub returns-in-Load-clause-row : goal.returns-in-Load-clause-row
returns-in-Load-clause-row c code line below now e =
    let elevel : to_z w64 (of_z w64 c.in-Load.level) ≡ c.in-Load.level = search rules in
    let ecell : to_z w64 (of_z w64 c.in-Load.cell) ≡ c.in-Load.cell = search rules in
    for_instr _ code c.args.limits.now line _ _ _ _ _ _ below now c.args.instr _ (c.in-Load.is ∙ ap (λ z. i.Load z c.in-Load.cell) (sym elevel) ∙ ap (λ z. i.Load (to_z w64 (of_z w64 c.in-Load.level)) z) (sym ecell)) (c.load.ensures.row c.args.limits.now line c.args.storage.now below now (sym c.deref.ensures.value) (sym c.deref-in-Load.ensures.value))

pub returns-in-Store-clause-row : goal.returns-in-Store-clause-row
returns-in-Store-clause-row c code line below now e =
    let elevel : to_z w64 (of_z w64 c.in-Store.level) ≡ c.in-Store.level = search rules in
    let ecell : to_z w64 (of_z w64 c.in-Store.cell) ≡ c.in-Store.cell = search rules in
    for_instr _ code c.args.limits.now line _ _ _ _ _ _ below now c.args.instr _ (c.in-Store.is ∙ ap (λ z. i.Store z c.in-Store.cell) (sym elevel) ∙ ap (λ z. i.Store (to_z w64 (of_z w64 c.in-Store.level)) z) (sym ecell)) (c.store.ensures.row c.args.limits.now line c.args.storage.now (record c.args.storage.now { cells = with_items c.args.storage.now.cells c.store.new.cells }) below now (record { frames = refl; parks = refl; entered = refl; arrays = refl; texts = refl; image = refl; members = refl; simulations = refl; ticks = refl; words = refl }) (sym c.deref-in-Store.ensures.value) (sym c.deref_mut.ensures.value) (with_items_is c.args.storage.now.cells c.store.new.cells (search (rules, places))))

pub returns-in-Dup-clause-row : goal.returns-in-Dup-clause-row
returns-in-Dup-clause-row c code line below now e =
    for_instr _ code c.args.limits.now line _ _ _ _ _ _ below now c.args.instr _ (c.in-Dup.is) (c.dup.ensures.row c.args.limits.now line c.args.storage.now below now)

pub returns-in-Pop-clause-row : goal.returns-in-Pop-clause-row
returns-in-Pop-clause-row c code line below now e =
    for_instr _ code c.args.limits.now line _ _ _ _ _ _ below now c.args.instr _ (c.in-Pop.is) (c.drop_top.ensures.row c.args.limits.now line c.args.storage.now below now)

pub returns-in-Swap-clause-row : goal.returns-in-Swap-clause-row
returns-in-Swap-clause-row c code line below now e =
    for_instr _ code c.args.limits.now line _ _ _ _ _ _ below now c.args.instr _ (c.in-Swap.is) (c.swap.ensures.row c.args.limits.now line c.args.storage.now below now)

pub returns-in-Neg-clause-row : goal.returns-in-Neg-clause-row
returns-in-Neg-clause-row c code line below now e =
    for_instr _ code c.args.limits.now line _ _ _ _ _ _ below now c.args.instr _ (c.in-Neg.is) (c.one.ensures.row c.args.limits.now line c.args.storage.now below now)

pub returns-in-Add-clause-row : goal.returns-in-Add-clause-row
returns-in-Add-clause-row c code line below now e =
    for_instr _ code c.args.limits.now line _ _ _ _ _ _ below now c.args.instr _ (c.in-Add.is) (c.two.ensures.row c.args.limits.now line c.args.storage.now below now)

pub returns-in-Sub-clause-row : goal.returns-in-Sub-clause-row
returns-in-Sub-clause-row c code line below now e =
    for_instr _ code c.args.limits.now line _ _ _ _ _ _ below now c.args.instr _ (c.in-Sub.is) (c.two-in-Sub.ensures.row c.args.limits.now line c.args.storage.now below now)

pub returns-in-Mul-clause-row : goal.returns-in-Mul-clause-row
returns-in-Mul-clause-row c code line below now e =
    for_instr _ code c.args.limits.now line _ _ _ _ _ _ below now c.args.instr _ (c.in-Mul.is) (c.two-in-Mul.ensures.row c.args.limits.now line c.args.storage.now below now)

pub returns-in-Div-clause-row : goal.returns-in-Div-clause-row
returns-in-Div-clause-row c code line below now e =
    for_instr _ code c.args.limits.now line _ _ _ _ _ _ below now c.args.instr _ (c.in-Div.is) (c.two-in-Div.ensures.row c.args.limits.now line c.args.storage.now below now)

pub returns-in-Pow-clause-row : goal.returns-in-Pow-clause-row
returns-in-Pow-clause-row c code line below now e =
    for_instr _ code c.args.limits.now line _ _ _ _ _ _ below now c.args.instr _ (c.in-Pow.is) (c.two-in-Pow.ensures.row c.args.limits.now line c.args.storage.now below now)

pub returns-in-Rel-clause-row : goal.returns-in-Rel-clause-row
returns-in-Rel-clause-row c code line below now e =
    let eoperand : to_z w64 (of_z w64 c.in-Rel.operand) ≡ c.in-Rel.operand = search rules in
    for_instr _ code c.args.limits.now line _ _ _ _ _ _ below now c.args.instr _ (c.in-Rel.is ∙ ap i.Rel (sym eoperand)) (c.relation.ensures.row c.args.limits.now line c.args.storage.now below now)

pub returns-in-Same-clause-row : goal.returns-in-Same-clause-row
returns-in-Same-clause-row c code line below now e =
    for_instr _ code c.args.limits.now line _ _ _ _ _ _ below now c.args.instr _ (c.in-Same.is) (c.two-in-Same.ensures.row c.args.limits.now line c.args.storage.now below now)

pub returns-in-Not-clause-row : goal.returns-in-Not-clause-row
returns-in-Not-clause-row c code line below now e =
    for_instr _ code c.args.limits.now line _ _ _ _ _ _ below now c.args.instr _ (c.in-Not.is) (c.one-in-Not.ensures.row c.args.limits.now line c.args.storage.now below now)

pub returns-in-And-clause-row : goal.returns-in-And-clause-row
returns-in-And-clause-row c code line below now e =
    for_instr _ code c.args.limits.now line _ _ _ _ _ _ below now c.args.instr _ (c.in-And.is) (c.two-in-And.ensures.row c.args.limits.now line c.args.storage.now below now)

pub returns-in-Or-clause-row : goal.returns-in-Or-clause-row
returns-in-Or-clause-row c code line below now e =
    for_instr _ code c.args.limits.now line _ _ _ _ _ _ below now c.args.instr _ (c.in-Or.is) (c.two-in-Or.ensures.row c.args.limits.now line c.args.storage.now below now)

pub returns-in-Imp-clause-row : goal.returns-in-Imp-clause-row
returns-in-Imp-clause-row c code line below now e =
    for_instr _ code c.args.limits.now line _ _ _ _ _ _ below now c.args.instr _ (c.in-Imp.is) (c.two-in-Imp.ensures.row c.args.limits.now line c.args.storage.now below now)

pub returns-in-Eqv-clause-row : goal.returns-in-Eqv-clause-row
returns-in-Eqv-clause-row c code line below now e =
    for_instr _ code c.args.limits.now line _ _ _ _ _ _ below now c.args.instr _ (c.in-Eqv.is) (c.two-in-Eqv.ensures.row c.args.limits.now line c.args.storage.now below now)

pub returns-in-Jump-clause-row : goal.returns-in-Jump-clause-row
returns-in-Jump-clause-row c code line below now e =
    let eto : to_z w64 (of_z w64 c.in-Jump.to) ≡ c.in-Jump.to = search rules in
    for_instr _ code c.args.limits.now line _ _ _ _ _ _ below now c.args.instr _ (c.in-Jump.is ∙ ap i.Jump (sym eto)) (c.jump.ensures.row code c.args.limits.now line c.args.storage.now c.args.stack.now below now e)

pub returns-in-JumpF-clause-row : goal.returns-in-JumpF-clause-row
returns-in-JumpF-clause-row c code line below now e =
    let eto : to_z w64 (of_z w64 c.in-JumpF.to) ≡ c.in-JumpF.to = search rules in
    for_instr _ code c.args.limits.now line _ _ _ _ _ _ below now c.args.instr _ (c.in-JumpF.is ∙ ap i.JumpF (sym eto)) (c.jump_if_false.ensures.row code c.args.limits.now line c.args.storage.now below now e)

pub returns-in-Tick-clause-row : goal.returns-in-Tick-clause-row
returns-in-Tick-clause-row c code line below now e =
    for_instr _ code c.args.limits.now line _ _ _ _ _ _ below now c.args.instr _ (c.in-Tick.is) (c.tick.ensures.row line c.args.stack.now below now)

pub returns-in-StepTest-clause-row : goal.returns-in-StepTest-clause-row
returns-in-StepTest-clause-row c code line below now e =
    for_instr _ code c.args.limits.now line _ _ _ _ _ _ below now c.args.instr _ (c.in-StepTest.is) (c.step_test.ensures.row c.args.limits.now line c.args.storage.now below now)

pub returns-in-Elem-clause-row : goal.returns-in-Elem-clause-row
returns-in-Elem-clause-row c =
    let esubscripts : to_z w64 (of_z w64 c.in-Elem.subscripts) ≡ c.in-Elem.subscripts = search rules in
    let eclass : to_z w64 (of_z w64 c.in-Elem.class) ≡ c.in-Elem.class = search rules in
    IfSome_then c.elem.result c.elem.ensures.row
    (λ f did code line below now e. for_instr f code c.args.limits.now line _ _ _ _ _ _ below now c.args.instr _ (c.in-Elem.is ∙ ap (λ z. i.Elem z c.in-Elem.class) (sym esubscripts) ∙ ap (λ z. i.Elem (to_z w64 (of_z w64 c.in-Elem.subscripts)) z) (sym eclass)) (did code c.args.limits.now line c.args.storage.now below now refl))

pub returns-in-Fetch-clause-row : goal.returns-in-Fetch-clause-row
returns-in-Fetch-clause-row c code line below now e =
    for_instr _ code c.args.limits.now line _ _ _ _ _ _ below now c.args.instr _ (c.in-Fetch.is) (c.fetch.ensures.row c.args.limits.now line c.args.storage.now below now (sym c.deref-in-Fetch.ensures.value) (sym c.deref-in-Fetch-2.ensures.value) refl refl)

pub returns-in-Put-clause-row : goal.returns-in-Put-clause-row
returns-in-Put-clause-row c =
    IfSome_then c.put.result c.put.ensures.row (λ f did code line below now e. for_instr f code c.args.limits.now line _ _ _ _ _ _ below now c.args.instr _ (c.in-Put.is) (did code c.args.limits.now line below now))

pub returns-in-Link-clause-row : goal.returns-in-Link-clause-row
returns-in-Link-clause-row c code line below now e =
    let elevel : to_z w64 (of_z w64 c.in-Link.level) ≡ c.in-Link.level = search rules in
    for_instr _ code c.args.limits.now line _ _ _ _ _ _ below now c.args.instr _ (c.in-Link.is ∙ ap i.Link (sym elevel)) (c.link.ensures.row c.args.limits.now line c.args.storage.now below now (sym c.deref-in-Link.ensures.value))

pub returns-in-Addr-clause-row : goal.returns-in-Addr-clause-row
returns-in-Addr-clause-row c =
    let elevel : to_z w64 (of_z w64 c.in-Addr.level) ≡ c.in-Addr.level = search rules in
    let ecell : to_z w64 (of_z w64 c.in-Addr.cell) ≡ c.in-Addr.cell = search rules in
    let eclass : to_z w64 (of_z w64 c.in-Addr.class) ≡ c.in-Addr.class = search rules in
    IfSome_then c.address.result c.address.ensures.row
    (λ f did code line below now e. for_instr f code c.args.limits.now line _ _ _ _ _ _ below now c.args.instr _
    (c.in-Addr.is ∙ ap (λ z. i.Addr z c.in-Addr.cell c.in-Addr.class) (sym elevel) ∙ ap (λ z. i.Addr (to_z w64 (of_z w64 c.in-Addr.level)) z c.in-Addr.class) (sym ecell) ∙ ap (λ z. i.Addr (to_z w64 (of_z w64 c.in-Addr.level)) (to_z w64 (of_z w64 c.in-Addr.cell)) z) (sym eclass))
    (did code c.args.limits.now line c.args.storage.now below now (sym c.deref-in-Addr.ensures.value)))

pub returns-in-Std-clause-row : goal.returns-in-Std-clause-row
returns-in-Std-clause-row c =
    let eoperand : to_z w64 (of_z w64 c.in-Std.operand) ≡ c.in-Std.operand = search rules in
    IfSome_then c.quiet_standard.result c.quiet_standard.ensures.row
    (λ f did code line below now e. for_instr f code c.args.limits.now line _ _ _ _ _ _ below now c.args.instr _ (c.in-Std.is ∙ ap i.Std (sym eoperand)) (did code line below now))
