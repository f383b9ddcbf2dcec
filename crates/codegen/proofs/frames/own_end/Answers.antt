use Rattle.std.proofs.Common.{◌∙◌}
use Rattle.codegen.proofs.Planned as w
use Rattle.codegen.proofs.frames.own_end.Goals as goal

pub returns : goal.returns
returns c =
    w.end_found c.args.bound.now c.args.draft.now.classes c.args.text c.new-hidden.result.items c.hide_cells.new.types.items c.in_ok-count.count c.cell_count.result c.in_ok-own.own c.in_ok-end.end c.new-hidden.ensures.items c.in_ok-hide_cells.ensures (c.in_ok-count.ensures ∙ c.len.ensures ∙ c.hide_cells.new.types.ok.0)
    c.cell_count.ensures c.in_ok-own.ensures c.in_ok-end.ensures
