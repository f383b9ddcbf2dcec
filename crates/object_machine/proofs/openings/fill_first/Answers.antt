use Rattle.std.proofs.Common.{◌≡◌, ◌+◌, ℕ, length, take, set, refl, sym, subst, ap, ◌∙◌, arith}
use Rattle.std.specs.Prelude.{map, true}
use Rattle.sim_code.specs.Machine.{first_value}
use Rattle.frame_arena.specs.Frames.{cells_at, frame_at}
use Rattle.frame_arena.specs.Slots.{cell_value}
use Rattle.object_machine.proofs.Filling.{one_more_filled, region_count, take_whole}
use Rattle.object_machine.proofs.Going.{lt_true}
use Rattle.object_machine.proofs.Scalars.{off}
use Rattle.object_machine.proofs.openings.fill_first.Goals as goal

pub loop-at-preserved : goal.loop-at-preserved
loop-at-preserved c = (
  λ m h.
      let here = c.loop-at.invariant.0 m h in
      let base : ℕ = (frame_at c.args.frames.now c.args.place).base in
      let n : ℕ = length c.args.types.now in
      let long : length (cells_at c.loop-at.cells base n) ≡ n = region_count c.loop-at.cells base n in
      let on : c.set_free.result ≡ true = c.set_free.ensures.written m here.0 ∙ lt_true c.loop-at.at (frame_at c.args.frames.now c.args.place).cells (omega (arith, c.loop-at-test.true, c.requires.count)) in
      let e = subst (λ k. cells_at c.set_free.new.cells base k ≡ set (cells_at c.loop-at.cells base k) c.loop-at.at (cell_value c.first_slot-slot.result)) c.requires.count (c.set_free.ensures.cells on) in (
        c.set_free.ensures.holds m here.0 (λ names. absurd (off (sym c.first_slot-slot.ensures.no_frame ∙ names))),
        ap (λ l. take (c.loop-at.at + 1) l) e
            ∙ one_more_filled (cells_at c.loop-at.cells base n) c.args.types.now c.loop-at.at _ (cell_value c.first_slot-slot.result) (omega (arith, long, c.loop-at-test.true)) c.loop-at-test.true here.1 c.first_slot-slot.ensures.value,
      ),
  λ regions arrays h. c.set_free.ensures.arrays regions arrays (c.loop-at.invariant.1 regions arrays h) (λ names. absurd (off (sym c.first_slot-slot.ensures.no_array ∙ names))),
)

pub loop-at-init : goal.loop-at-init
loop-at-init c = (λ m h. (h, refl), λ regions arrays h. h)

pub returns-clause-cells : goal.returns-clause-cells
returns-clause-cells c m h =
    let base : ℕ = (frame_at c.args.frames.now c.args.place).base in
    let n : ℕ = length c.args.types.now in
    let long : length (cells_at c.loop-at.cells base n) ≡ n = region_count c.loop-at.cells base n in
    sym (take_whole (cells_at c.loop-at.cells base n) c.loop-at.at (omega (arith, long, c.loop-at-test.false)))
    ∙ (c.loop-at.invariant.0 m h).1
    ∙ ap (λ l. map first_value l) (take_whole c.args.types.now c.loop-at.at c.loop-at-test.false)
