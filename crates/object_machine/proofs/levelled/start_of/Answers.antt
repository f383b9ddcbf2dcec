use Rattle.std.proofs.Common.{◌≡◌, ◌∙◌, ap, sym, refl}
use Rattle.std.specs.Prelude.{Some, slice_get}
use Rattle.sim_code.specs.Classes.{levels}
use Rattle.sim_code.specs.Code.{BlockOf}
use Rattle.sim_code.specs.Levels.{class_at_level}
use Rattle.sim_code.specs.Machine.{same_kind}
use Rattle.object_machine.specs.declared.levels.Part.TheVariants as part
use Rattle.object_machine.proofs.BlockFacts.{same_found}
use Rattle.object_machine.proofs.Generated.{leads_off, leads_on, no_block_there, no_first_there, no_levels_there, other_kind_there}
use Rattle.object_machine.proofs.Jumps.{found_at, get_within, none_at}
use Rattle.object_machine.proofs.LevelRows.{counted_list, uncounted}
use Rattle.object_machine.proofs.StageRows.{begins, begins_nowhere, first_line}
use Rattle.object_machine.proofs.levelled.start_of.Goals as goal

pub returns-in_default : goal.returns-in_default
returns-in_default c = record {
  row = λ code eb ei ec o go. no_block_there code c.args.kind c.args.number o go (ap (λ v. slice_get v c.args.number) eb ∙ none_at c.args.blocks.now c.args.number c.in_default.ensures.lookup.3);
}

pub returns-then-not-same_kind : goal.returns-then-not-same_kind
returns-then-not-same_kind c = record {
  row = λ code eb ei ec o go.
      let b = c.in-Some.block.now in
      let there = ap (λ v. slice_get v c.args.number) eb ∙ found_at c.args.blocks.now c.args.number b c.in-Some.ensures.lookup.3.0 c.in-Some.ensures.lookup.1 in
      other_kind_there code c.args.kind c.args.number o go b there (ap (λ b. same_kind b.kind c.args.kind) (sym c.block.view_is) ∙ (sym c.same_kind.ensures ∙ c.if-not-same_kind.true));
}

pub returns-in_default-count_levels : goal.returns-in_default-count_levels
returns-in_default-count_levels c = record {
  row = λ code eb ei ec o go.
      let b = c.in-Some.block.now in
      let there = ap (λ v. slice_get v c.args.number) eb ∙ found_at c.args.blocks.now c.args.number b c.in-Some.ensures.lookup.3.0 c.in-Some.ensures.lookup.1 in
      let kind = ap (λ b. same_kind b.kind c.args.kind) (sym c.block.view_is) ∙ (sym c.same_kind.ensures ∙ c.if-not-same_kind.false) in
      let class = ap {A = BlockOf} (λ b. b.class) (sym c.block.view_is) in
      no_levels_there code c.args.kind c.args.number o go b there kind (ap (levels code) class ∙ uncounted (levels code c.block.inside.class) (c.in_default-count_levels.ensures.row code ec));
}

pub returns-in_default-part_of_level : goal.returns-in_default-part_of_level
returns-in_default-part_of_level c = record {
  row = λ code eb ei ec o go.
      let b = c.in-Some.block.now in
      let there = ap (λ v. slice_get v c.args.number) eb ∙ found_at c.args.blocks.now c.args.number b c.in-Some.ensures.lookup.3.0 c.in-Some.ensures.lookup.1 in
      let kind = ap (λ b. same_kind b.kind c.args.kind) (sym c.block.view_is) ∙ (sym c.same_kind.ensures ∙ c.if-not-same_kind.false) in
      let class = ap {A = BlockOf} (λ b. b.class) (sym c.block.view_is) in
      let found = counted_list (levels code c.block.inside.class) c.in-Some-count_levels.count (c.in-Some-count_levels.ensures.row code ec) in
      let nowhere = begins_nowhere part.Declarations (class_at_level code found.list 0) (c.in_default-part_of_level.ensures.row code found.list ec found.is found.long) in
      no_first_there code c.args.kind c.args.number o go b there found.list kind (ap (levels code) class ∙ found.is) nowhere;
}

pub returns-then-start-instrs : goal.returns-then-start-instrs
returns-then-start-instrs c = record {
  row = λ code eb ei ec o go.
      let b = c.in-Some.block.now in
      let there = ap (λ v. slice_get v c.args.number) eb ∙ found_at c.args.blocks.now c.args.number b c.in-Some.ensures.lookup.3.0 c.in-Some.ensures.lookup.1 in
      let kind = ap (λ b. same_kind b.kind c.args.kind) (sym c.block.view_is) ∙ (sym c.same_kind.ensures ∙ c.if-not-same_kind.false) in
      let class = ap {A = BlockOf} (λ b. b.class) (sym c.block.view_is) in
      let found = counted_list (levels code c.block.inside.class) c.in-Some-count_levels.count (c.in-Some-count_levels.ensures.row code ec) in
      let p = begins part.Declarations (class_at_level code found.list 0) c.in-Some-part_of_level.start (c.in-Some-part_of_level.ensures.row code found.list ec found.is found.long) in
      leads_off code c.args.kind c.args.number o go b there found.list p.x c.in-Some-part_of_level.start kind (ap (levels code) class ∙ found.is) p.there (same_found (Some p.x.declarations) p.x.declarations c.in-Some-part_of_level.start refl p.is)
      (ap (λ v. slice_get v c.in-Some-part_of_level.start) ei ∙ none_at c.args.instrs.now c.in-Some-part_of_level.start c.if-start-instrs.true);
}

pub returns : goal.returns
returns c = record {
  row = λ code eb ei ec b there o go.
      let b2 = c.in-Some.block.now in
      let there2 = ap (λ v. slice_get v c.args.number) eb ∙ found_at c.args.blocks.now c.args.number b2 c.in-Some.ensures.lookup.3.0 c.in-Some.ensures.lookup.1 in
      let same : b2 ≡ b = same_found (slice_get code.blocks c.args.number) b2 b there2 there in
      let kind = ap (λ b. same_kind b.kind c.args.kind) (sym c.block.view_is) ∙ (sym c.same_kind.ensures ∙ c.if-not-same_kind.false) in
      let class = ap {A = BlockOf} (λ b. b.class) (sym c.block.view_is) in
      let found = counted_list (levels code c.block.inside.class) c.in-Some-count_levels.count (c.in-Some-count_levels.ensures.row code ec) in
      let p = begins part.Declarations (class_at_level code found.list 0) c.in-Some-part_of_level.start (c.in-Some-part_of_level.ensures.row code found.list ec found.is found.long) in
      leads_on code c.args.kind c.args.number o go b2 there2 found.list p.x c.in-Some-part_of_level.start _ kind (ap (levels code) class ∙ found.is) p.there (same_found (Some p.x.declarations) p.x.declarations c.in-Some-part_of_level.start refl p.is)
      (ap (λ v. slice_get v c.in-Some-part_of_level.start) ei ∙ get_within c.args.instrs.now c.in-Some-part_of_level.start first_line c.if-start-instrs.false)
      ∙ ap (λ b. go b c.in-Some-part_of_level.start) same;
}
