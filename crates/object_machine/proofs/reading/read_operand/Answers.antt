use Rattle.std.proofs.Common.{◌∙◌, sym}
use Rattle.object_machine.proofs.ReadOperands.{operand_cell, operand_element, operand_image}
use Rattle.object_machine.proofs.reading.read_operand.Goals as goal

pub returns-in-Cell-clause-value : goal.returns-in-Cell-clause-value
returns-in-Cell-clause-value c o m source h arrays ports lead leads =
    operand_cell o m c.args.slot.kind c.args.slot c.in-Cell.is ∙ sym (c.text_at.ensures.value o m source h arrays ports lead leads)

pub returns-in-Element-clause-value : goal.returns-in-Element-clause-value
returns-in-Element-clause-value c o m source h arrays ports lead leads =
    operand_element o m c.args.slot.kind c.args.slot c.in-Element.is ∙ sym (c.text_at-in-Element.ensures.value o m source h arrays ports lead leads)

pub returns-in-Image-clause-value : goal.returns-in-Image-clause-value
returns-in-Image-clause-value c o m source h arrays ports lead leads =
    operand_image o m c.args.slot.kind c.args.slot c.in-Image.is ∙ sym (c.text_at-in-Image.ensures.value o m source h arrays ports lead leads)
