use Rattle.std.proofs.Common.{rules, to_z, of_z, w64, ◌≡◌, ℕ, refl, ap, sym, ◌∙◌}
use Rattle.sim_code.specs.Events.{having, when}
use Rattle.sim_code.specs.Machine.{has_cell, index}
use Rattle.object_machine.proofs.Places.{never, no_cells}
use Rattle.object_machine.proofs.VirtualRows.{when_fails}
use Rattle.object_machine.proofs.cells.frame_cell.Goals as goal

pub returns-in_default : goal.returns-in_default
unfolding having
returns-in_default c = record {
  row = λ cells m o go h led.
      let gone = c.in_default.ensures.gone m led refl in
      never c.args.cell o (λ k. when (has_cell m c.args.at.stamp k) o (go k)) (λ k. when_fails (has_cell m c.args.at.stamp k) o (go k) (no_cells m c.args.at.stamp k gone));
}

pub returns : goal.returns
returns c = record {
  row = λ cells m o go h led.
      let en : to_z w64 (of_z w64 c.args.cell) ≡ c.args.cell = search rules in
      let same : c.span_at.result.number ≡ c.args.at.stamp = search rules in
      ap (λ j. index c.args.cell o (λ k. when (has_cell m j k) o (go k))) (sym same)
      ∙ ap (λ z. index z o (λ k. when (has_cell m c.span_at.result.number k) o (go k))) (sym en)
      ∙ c.cell_of.ensures.row c.args.frames.now cells m o go h c.span_at.ensures.span;
}
