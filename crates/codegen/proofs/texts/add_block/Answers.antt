use Rattle.std.proofs.Common.{◌≡◌, List, refl, sym, ap, ◌∙◌, arith}
use Rattle.std.specs.Prelude.{slice_get}
use Rattle.sim_code.specs.declared.code.CodeType.{CodeType}
use Rattle.codegen_expr.specs.Drafts.{PlannedOf, planned_at, planned_or_none}
use Rattle.codegen.specs.EmitProgram.{AddsBlock, FormalsGiven}
use Rattle.codegen.proofs.Planned.{index_found}
use Rattle.codegen.proofs.texts.add_block.Goals as goal

pub returns : goal.returns
unfolding AddsBlock FormalsGiven
returns c =
    let plan = c.args.written.now.draft.classes in
    let number = c.block_number-block.result in
    let x = c.in-Some.planned.now in
    let y = c.planned-2.inside in
    let at : planned_at plan number ≡ x = ap planned_or_none (ap (λ v. slice_get v number) (sym c.planned.ensures) ∙ index_found c.planned.result.now number x c.in-Some.ensures.lookup.3.0 c.in-Some.ensures.lookup.1) in
    let types : c.in_ok-types.types.items ≡ y.types.items = c.in_ok-types.ensures ∙ c.deref.ensures.value in
    let whole = ap {A = List CodeType} {B = PlannedOf} (λ z. record { class = y.class; cells = y.cells; room = y.room; types = z }) types in
    let size = c.in_ok-size.ensures in
    let length_is = c.len.ensures ∙ c.in_ok-types.types.ok.0 in
    let size_is = c.size.ensures in
    let enough = c.if-size.false in
    let room_is = c.room.ensures in
    let roomy = c.if-room.false in
    let left = c.in_ok-temps.ensures in
    record {
      same = refl;
      same_classes = refl;
      block = _;
      is = c.in_ok-push.ensures.items;
      is_kind = refl;
      level = c.level_of.ensures;
      starts = refl;
      class_free = c.is_class_free.ensures;
      gives = refl;
      formals = c.in_ok-formals.ensures;
      planned = whole ∙ c.planned-2.view_is ∙ sym at ∙ ap (planned_at plan) c.block_number-block.ensures;
      temps = left ∙ size ∙ length_is;
      room = omega (arith, room_is, roomy);
      size = omega (arith, size, length_is, size_is, enough);
    }
