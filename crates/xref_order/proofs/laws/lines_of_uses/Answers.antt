use Rattle.sim_scope.specs.Source.{source_of}
use Rattle.sim_xref.specs.Rows.{uses_of}
use Rattle.xref_order.proofs.Rising.{uses_rise}
use Rattle.xref_order.proofs.laws.lines_of_uses.Goals as goal

pub returns : goal.returns
returns c = λ source tokens b d spelled tree is.
    let uses = uses_of (source_of b) d.0 in
    let exact = c.exact_uses.ensures (source_of b) d in
    let lines = c.exact_lines.ensures (source_of b) uses in
    record {
      all = lines.all;
      only = lines.only;
      once = lines.once (uses_rise source tokens b d (c.each_source_is_read.ensures.ascend source tokens spelled) (c.places_and_lines.ensures.line source tokens spelled) tree is exact);
    }
