use Rattle.object_machine.specs.Levelling.{stage_of}
use Rattle.object_machine.proofs.StageRows.{levels_found, levels_missing, levels_of_thunk, stage_wrong}
use Rattle.object_machine.proofs.stages.under_way.Goals as goal

pub returns-in_default-clause-row : goal.returns-in_default-clause-row
returns-in_default-clause-row c code cells stack m eb ec h leads o go = stage_wrong code m c.args.regs.now stack (stage_of c.args.part c.args.level) o go c.in_default.ensures

pub returns-then-is_thunk-clause-row : goal.returns-then-is_thunk-clause-row
returns-then-is_thunk-clause-row c code cells stack m eb ec h leads o go =
    levels_of_thunk code m c.args.regs.now stack (stage_of c.args.part c.args.level) o go c.in-Some.ensures.1 (c.is_thunk.ensures.yes c.if-is_thunk.true)

pub returns-in_default-own_levels-clause-row : goal.returns-in_default-own_levels-clause-row
returns-in_default-own_levels-clause-row c code cells stack m eb ec h leads o go =
    levels_missing code m c.args.regs.now stack (stage_of c.args.part c.args.level) o go c.in-Some.ensures.1 (c.is_thunk.ensures.no c.if-is_thunk.false) (c.in_default-own_levels.ensures.row code cells m eb ec h leads)

pub returns-clause-row : goal.returns-clause-row
returns-clause-row c code cells stack m eb ec h leads =
    let own = c.in-Some-own_levels.ensures.row code cells m eb ec h leads in
    record {
      list = own.list;
      levels_are = own.is;
      long = own.long;
      number = c.in-Some.ensures.0;
      is = λ o go. levels_found code m c.args.regs.now stack (stage_of c.args.part c.args.level) o go own.list c.in-Some.ensures.1 (c.is_thunk.ensures.no c.if-is_thunk.false) own.found;
    }

pub returns-clause-number : goal.returns-clause-number
returns-clause-number c = c.in-Some.ensures.0
