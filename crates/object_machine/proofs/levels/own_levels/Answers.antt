use Rattle.std.proofs.Common.{◌∙◌, ap, sym}
use Rattle.sim_code.specs.Classes.{levels, levels_in}
use Rattle.object_machine.proofs.LevelRows.{counted_list, uncounted}
use Rattle.object_machine.proofs.levels.own_levels.Goals as goal

pub returns-in_default : goal.returns-in_default
returns-in_default c = record { row = λ code cells m eb ec h leads. ap (levels_in code) (sym (c.in_default.ensures.row code cells m eb h leads)) }

pub returns-in_default-count_levels : goal.returns-in_default-count_levels
returns-in_default-count_levels c = record {
  row = λ code cells m eb ec h leads. ap (levels_in code) (sym (c.in-Some.ensures.row code cells m eb h leads)) ∙ uncounted (levels code c.in-Some.class) (c.in_default-count_levels.ensures.row code ec);
}

pub returns : goal.returns
returns c = record {
  row = λ code cells m eb ec h leads.
      let found = counted_list (levels code c.in-Some.class) c.in-Some-count_levels.count (c.in-Some-count_levels.ensures.row code ec) in
      record { list = found.list; found = ap (levels_in code) (sym (c.in-Some.ensures.row code cells m eb h leads)) ∙ found.is; is = found.is; long = found.long };
}
