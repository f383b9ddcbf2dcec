use Rattle.std.proofs.Common.{◌≡◌, ◌-◌, ◌∙◌, ap, sym}
use Rattle.std.specs.Prelude.{Some, slice_get}
use Rattle.sim_code.specs.Classes.{class_numbered}
use Rattle.sim_code.specs.Code.{BlockOf, ClassOf}
use Rattle.object_machine.proofs.ClassRows.{numbered_at, numbered_past}
use Rattle.object_machine.proofs.Fitted.{level_is, level_unknown, no_level_block}
use Rattle.object_machine.proofs.Jumps.{found_at, none_at}
use Rattle.object_machine.proofs.checking.class_level.Goals as goal

pub returns-then-class-eq0 : goal.returns-then-class-eq0
returns-then-class-eq0 c = record { row = λ code eb ec. level_unknown code c.args.class (ap (class_numbered code) c.if-class-eq0.true) }

pub returns-in_default : goal.returns-in_default
returns-in_default c = record {
  row = λ code eb ec.
      let at = c.args.class in
      level_unknown code at (numbered_past code at c.if-class-eq0.false (ap (λ v. slice_get v (at - 1)) ec ∙ none_at c.args.classes.now (at - 1) c.in_default.ensures.lookup.3));
}

pub returns-in_default-get : goal.returns-in_default-get
returns-in_default-get c = record {
  row = λ code eb ec.
      let at = c.args.class in
      let x = c.in-Some.record.now in
      let there : class_numbered code at ≡ Some x = numbered_at code at x c.if-class-eq0.false (ap (λ v. slice_get v (at - 1)) ec ∙ found_at c.args.classes.now (at - 1) x c.in-Some.ensures.lookup.3.0 c.in-Some.ensures.lookup.1) in
      let block = ap {A = ClassOf} (λ r. r.block) (sym c.record.view_is) in
      no_level_block code at x there (ap (slice_get code.blocks) block ∙ ap (λ v. slice_get v c.record.inside.block) eb ∙ none_at c.args.blocks.now c.record.inside.block c.in_default-get.ensures.lookup.3);
}

pub returns : goal.returns
returns c = record {
  row = λ code eb ec.
      let at = c.args.class in
      let x = c.in-Some.record.now in
      let there : class_numbered code at ≡ Some x = numbered_at code at x c.if-class-eq0.false (ap (λ v. slice_get v (at - 1)) ec ∙ found_at c.args.classes.now (at - 1) x c.in-Some.ensures.lookup.3.0 c.in-Some.ensures.lookup.1) in
      let block = ap {A = ClassOf} (λ r. r.block) (sym c.record.view_is) in
      let b = c.in-Some-get.block.now in
      ap {A = BlockOf} (λ r. Some r.level) c.block.view_is
      ∙ level_is code at x there b (ap (slice_get code.blocks) block ∙ ap (λ v. slice_get v c.record.inside.block) eb ∙ found_at c.args.blocks.now c.record.inside.block b c.in-Some-get.ensures.lookup.3.0 c.in-Some-get.ensures.lookup.1);
}
