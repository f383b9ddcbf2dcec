use Rattle.std.proofs.Common.{rules, to_z, of_z, w64, ◌≡◌, ◌∙◌, ap, sym, refl}
use Rattle.sim_code.specs.declared.instr.Instr.TheVariants as i
use Rattle.object_machine.proofs.Going.{for_instr}
use Rattle.object_machine.proofs.rows.obey_other.Goals as goal

pub returns-in-This-clause-row : goal.returns-in-This-clause-row
returns-in-This-clause-row c code line below now eb ec =
    let elevel : to_z w64 (of_z w64 c.in-This.level) ≡ c.in-This.level = search rules in
    for_instr _ code c.args.limits.now line _ _ _ _ _ _ below now c.args.instr _ (c.in-This.is ∙ ap i.This (sym elevel)) (c.this.ensures.row c.args.limits.now line c.args.storage.now below now (sym c.deref.ensures.value))

pub returns-in-AddrR-clause-row : goal.returns-in-AddrR-clause-row
returns-in-AddrR-clause-row c code line below now eb ec =
    let ecell : to_z w64 (of_z w64 c.in-AddrR.cell) ≡ c.in-AddrR.cell = search rules in
    let eclass : to_z w64 (of_z w64 c.in-AddrR.class) ≡ c.in-AddrR.class = search rules in
    for_instr _ code c.args.limits.now line _ _ _ _ _ _ below now c.args.instr _ (c.in-AddrR.is ∙ ap (λ z. i.AddrR z c.in-AddrR.class) (sym ecell) ∙ ap (λ z. i.AddrR (to_z w64 (of_z w64 c.in-AddrR.cell)) z) (sym eclass)) (c.attribute_address.ensures.row code c.args.limits.now line c.args.storage.now below now ec (sym c.deref-in-AddrR.ensures.value))

pub returns-in-AddrImg-clause-row : goal.returns-in-AddrImg-clause-row
returns-in-AddrImg-clause-row c code line below now eb ec =
    let enumber : to_z w64 (of_z w64 c.in-AddrImg.number) ≡ c.in-AddrImg.number = search rules in
    for_instr _ code c.args.limits.now line _ _ _ _ _ _ below now c.args.instr _ (c.in-AddrImg.is ∙ ap i.AddrImg (sym enumber)) (c.image_address.ensures.row c.args.limits.now line c.args.storage.now below now)

pub returns-in-NoText-clause-row : goal.returns-in-NoText-clause-row
returns-in-NoText-clause-row c code line below now eb ec =
    for_instr _ code c.args.limits.now line _ _ _ _ _ _ below now c.args.instr _ (c.in-NoText.is) (c.notext.ensures.row c.args.limits.now line c.args.storage.now below now)

pub returns-in-Is-clause-row : goal.returns-in-Is-clause-row
returns-in-Is-clause-row c code line below now eb ec =
    let eclass : to_z w64 (of_z w64 c.in-Is.class) ≡ c.in-Is.class = search rules in
    for_instr _ code c.args.limits.now line _ _ _ _ _ _ below now c.args.instr _ (c.in-Is.is ∙ ap i.Is (sym eclass)) (c.test_class.ensures.row code c.args.limits.now line c.args.storage.now below now eb ec (sym c.deref-in-Is.ensures.value))

pub returns-in-In-clause-row : goal.returns-in-In-clause-row
returns-in-In-clause-row c code line below now eb ec =
    let eclass : to_z w64 (of_z w64 c.in-In.class) ≡ c.in-In.class = search rules in
    for_instr _ code c.args.limits.now line _ _ _ _ _ _ below now c.args.instr _ (c.in-In.is ∙ ap i.In (sym eclass)) (c.test_class-in-In.ensures.row code c.args.limits.now line c.args.storage.now below now eb ec (sym c.deref-in-In.ensures.value))

pub returns-in-Qua-clause-row : goal.returns-in-Qua-clause-row
returns-in-Qua-clause-row c code line below now eb ec =
    let eclass : to_z w64 (of_z w64 c.in-Qua.class) ≡ c.in-Qua.class = search rules in
    for_instr _ code c.args.limits.now line _ _ _ _ _ _ below now c.args.instr _ (c.in-Qua.is ∙ ap i.Qua (sym eclass)) (c.qua.ensures.row code c.args.limits.now line c.args.storage.now below now eb ec (sym c.deref-in-Qua.ensures.value))

pub returns-in-ProcVal-clause-row : goal.returns-in-ProcVal-clause-row
returns-in-ProcVal-clause-row c code line below now eb ec =
    let eblock : to_z w64 (of_z w64 c.in-ProcVal.block) ≡ c.in-ProcVal.block = search rules in
    for_instr _ code c.args.limits.now line _ _ _ _ _ _ below now c.args.instr _ (c.in-ProcVal.is ∙ ap i.ProcVal (sym eblock)) (c.procedure_value.ensures.row code c.args.limits.now line c.args.storage.now below now eb)

pub returns-in-NotNone-clause-row : goal.returns-in-NotNone-clause-row
returns-in-NotNone-clause-row c code line below now eb ec =
    for_instr _ code c.args.limits.now line _ _ _ _ _ _ below now c.args.instr _ (c.in-NotNone.is) (c.not_none.ensures.row c.args.limits.now line c.args.storage.now below now)

pub returns-in-Array-clause-row : goal.returns-in-Array-clause-row
returns-in-Array-clause-row c code line below now eb ec =
    let eelement : to_z w64 (of_z w64 c.in-Array.element) ≡ c.in-Array.element = search rules in
    let edimensions : to_z w64 (of_z w64 c.in-Array.dimensions) ≡ c.in-Array.dimensions = search rules in
    for_instr _ code c.args.limits.now line _ _ _ _ _ _ below now c.args.instr _ (c.in-Array.is ∙ ap (λ z. i.Array z c.in-Array.dimensions) (sym eelement) ∙ ap (λ z. i.Array (to_z w64 (of_z w64 c.in-Array.element)) z) (sym edimensions)) (c.array.ensures.row line below now)

pub returns-in-CopyArr-clause-row : goal.returns-in-CopyArr-clause-row
returns-in-CopyArr-clause-row c code line below now eb ec =
    for_instr _ code c.args.limits.now line _ _ _ _ _ _ below now c.args.instr _ (c.in-CopyArr.is) (c.copy_array.ensures.row line below now)

pub returns-in-Keep-clause-row : goal.returns-in-Keep-clause-row
returns-in-Keep-clause-row c code line below now eb ec =
    for_instr _ code c.args.limits.now line _ _ _ _ _ _ below now c.args.instr _ (c.in-Keep.is) (c.keep.ensures.row c.args.limits.now line c.args.storage.now _ below now refl refl)

pub returns-in-RelT-clause-row : goal.returns-in-RelT-clause-row
returns-in-RelT-clause-row c code line below now eb ec =
    let eoperand : to_z w64 (of_z w64 c.in-RelT.operand) ≡ c.in-RelT.operand = search rules in
    for_instr _ code c.args.limits.now line _ _ _ _ _ _ below now c.args.instr _ (c.in-RelT.is ∙ ap i.RelT (sym eoperand)) (c.relation_of_texts.ensures.row c.args.limits.now line c.args.storage.now below now refl)

pub returns-in-SameT-clause-row : goal.returns-in-SameT-clause-row
returns-in-SameT-clause-row c code line below now eb ec =
    for_instr _ code c.args.limits.now line _ _ _ _ _ _ below now c.args.instr _ (c.in-SameT.is) (c.relate.ensures.row c.args.limits.now line c.args.storage.now below now refl)

pub returns-in-Addr-clause-row : goal.returns-in-Addr-clause-row
returns-in-Addr-clause-row c code line below now eb ec =
    let elevel : to_z w64 (of_z w64 c.in-Addr.level) ≡ c.in-Addr.level = search rules in
    let ecell : to_z w64 (of_z w64 c.in-Addr.cell) ≡ c.in-Addr.cell = search rules in
    let eclass : to_z w64 (of_z w64 c.in-Addr.class) ≡ c.in-Addr.class = search rules in
    for_instr _ code c.args.limits.now line _ _ _ _ _ _ below now c.args.instr _
    (c.in-Addr.is ∙ ap (λ z. i.Addr z c.in-Addr.cell c.in-Addr.class) (sym elevel) ∙ ap (λ z. i.Addr (to_z w64 (of_z w64 c.in-Addr.level)) z c.in-Addr.class) (sym ecell) ∙ ap (λ z. i.Addr (to_z w64 (of_z w64 c.in-Addr.level)) (to_z w64 (of_z w64 c.in-Addr.cell)) z) (sym eclass))
    (c.qualified_address.ensures.row code c.args.limits.now line c.args.storage.now below now ec (sym c.deref-in-Addr.ensures.value))

pub returns-in-Elem-clause-row : goal.returns-in-Elem-clause-row
returns-in-Elem-clause-row c code line below now eb ec =
    let esubscripts : to_z w64 (of_z w64 c.in-Elem.subscripts) ≡ c.in-Elem.subscripts = search rules in
    let eclass : to_z w64 (of_z w64 c.in-Elem.class) ≡ c.in-Elem.class = search rules in
    for_instr _ code c.args.limits.now line _ _ _ _ _ _ below now c.args.instr _ (c.in-Elem.is ∙ ap (λ z. i.Elem z c.in-Elem.class) (sym esubscripts) ∙ ap (λ z. i.Elem (to_z w64 (of_z w64 c.in-Elem.subscripts)) z) (sym eclass)) (c.qualified_element.ensures.row code c.args.limits.now line c.args.storage.now below now ec refl)

pub returns-in-Put-clause-row : goal.returns-in-Put-clause-row
returns-in-Put-clause-row c code line below now eb ec =
    for_instr _ code c.args.limits.now line _ _ _ _ _ _ below now c.args.instr _ (c.in-Put.is) (c.qualified_put.ensures.row code c.args.limits.now line below now eb ec)
