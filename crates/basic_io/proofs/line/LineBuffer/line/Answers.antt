use Rattle.std.proofs.Common.{ap, rules, tests, take, ◌∙◌}
use Rattle.std.specs.List.{before_first}
use Rattle.std.proofs.lemmas.Iterator.{YieldsList-from_slice}
use Rattle.std.proofs.lemmas.Iterator.Search.{position_from_yields_List}
use Rattle.sim_values.specs.Images.{is_line_feed}
use Rattle.basic_io.proofs.Lines.{line_end}
use Rattle.basic_io.proofs.line.LineBuffer.line.Goals as goal

pub returns : goal.returns
returns c =
    let found = position_from_yields_List is_line_feed _ _ c.position-end.result c.position-end.ensures.ran (YieldsList-from_slice c.held-held.result.now cc) (λ x b q k. search (rules, tests)) in
    let end = line_end is_line_feed _ _ _ found c.unwrap_or.ensures in
    ap (λ n. take n c.held-held.result.now) end ∙ ap (before_first is_line_feed) c.held-held.ensures
