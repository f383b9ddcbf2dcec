use Rattle.codegen_expr.proofs.Slots.{number_alone, number_behind}
use Rattle.codegen_expr.proofs.lookups.cell_number.Goals as goal

pub returns-in_ok-number-in-Some : goal.returns-in_ok-number-in-Some
returns-in_ok-number-in-Some c =
    number_behind c.args.bound.now c.args.draft.now.classes c.args.text c.args.place c.in-Some.front c.block_number.result c.size_of.result c.in_ok-number-in-Some.number c.prefix_of.result c.prefix_of.ensures c.in-Some.is c.block_number.ensures c.size_of.ensures c.in_ok-number-in-Some.ensures

pub returns-in-None : goal.returns-in-None
returns-in-None c = number_alone c.args.bound.now c.args.draft.now.classes c.args.text c.args.place c.prefix_of.result c.prefix_of.ensures c.in-None.is
