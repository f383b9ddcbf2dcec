use Rattle.std.proofs.Common.{ap, ◌∙◌}
use Rattle.sim_scope.specs.Source.{source_of}
use Rattle.sim_xref.specs.Filling.{unused_from, with_uses}
use Rattle.sim_xref.specs.Rows.{all_rows_of}
use Rattle.sim_xref.proofs.Filling.{rows_filled}
use Rattle.sim_xref.proofs.rows.all_rows.Goals as goal

pub returns : goal.returns
unfolding source_of all_rows_of
returns c =
    let s = source_of c.args.bound.now in
    c.in_ok-add_uses.ensures
    ∙ ap (λ us. with_uses 0 us 0 c.in_ok-rows.rows.items) c.deref.ensures.value
    ∙ ap (with_uses 0 s.uses 0) (c.in_ok-rows.ensures ∙ ap (unused_from 0) c.declarations.ensures)
    ∙ rows_filled s 0 s.tables.declarations
