use Rattle.std.proofs.Common.{ap, rules, ◌∙◌}
use Rattle.std.proofs.lemmas.Fn.{filter_same}
use Rattle.std.specs.List.{filter}
use Rattle.sim_scope.specs.Source.{source_of}
use Rattle.sim_xref.specs.Rows.{is_of_source, rows_of}
use Rattle.sim_xref.proofs.rows.xref.Goals as goal

pub returns : goal.returns
unfolding source_of rows_of
returns c =
    let s = source_of c.args.bound.now in
    filter_same _ (λ r. is_of_source s.tables r.decl) _ (λ x b f k. search rules) _ _ c.retain.ensures.filtered
    ∙ ap (filter (λ r. is_of_source s.tables r.decl)) c.in_ok-rows.ensures
