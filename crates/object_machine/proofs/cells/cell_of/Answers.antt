use Rattle.std.proofs.Common.{rules, to_z, of_z, w64, ◌≡◌, ℕ, ap, sym, ◌∙◌, arith}
use Rattle.std.specs.Prelude.{false, true, nat_lt}
use Rattle.sim_code.specs.Events.{having, when}
use Rattle.sim_code.specs.Machine.{Machine, has_cell, number}
use Rattle.sim_code.specs.Outcome.{Run}
use Rattle.object_machine.proofs.Places.{cells_counted}
use Rattle.object_machine.proofs.StageRows.{index_is, index_none}
use Rattle.object_machine.proofs.VirtualRows.{when_fails, when_holds}
use Rattle.object_machine.proofs.cells.cell_of.Goals as goal

pub returns-in_default : goal.returns-in_default
unfolding having
returns-in_default c = record {
  row = λ frames cells m o go h is.
      let en : to_z w64 (of_z w64 c.args.cell) ≡ c.args.cell = search rules in
      index_none c.args.cell o (λ k. when (has_cell m c.args.span.number k) o (go k)) (c.in_default.ensures ∙ ap number en);
}

pub returns-then-number-span : goal.returns-then-number-span
unfolding having
returns-then-number-span c = record {
  row = λ frames cells m o go h is.
      let en : to_z w64 (of_z w64 c.args.cell) ≡ c.args.cell = search rules in
      let n = c.in-Some.number in
      let past = c.if-number-span.true in
      let least : nat_lt n c.args.span.cells ≡ false = grind (arith, past) in
      index_is c.args.cell n o (λ k. when (has_cell m c.args.span.number k) o (go k)) (c.in-Some.ensures ∙ ap number en)
      ∙ when_fails (has_cell m c.args.span.number n) o (go n) (cells_counted frames cells m h c.args.span is n ∙ least);
}

pub returns : goal.returns
unfolding having
returns c = record {
  row = λ frames cells m o go h is.
      let en : to_z w64 (of_z w64 c.args.cell) ≡ c.args.cell = search rules in
      let n = c.in-Some.number in
      let within = c.if-number-span.false in
      let less : nat_lt n c.args.span.cells ≡ true = grind (arith, within) in
      index_is c.args.cell n o (λ k. when (has_cell m c.args.span.number k) o (go k)) (c.in-Some.ensures ∙ ap number en)
      ∙ when_holds (has_cell m c.args.span.number n) o (go n) (cells_counted frames cells m h c.args.span is n ∙ less);
}
