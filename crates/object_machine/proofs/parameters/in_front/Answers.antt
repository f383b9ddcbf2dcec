use Rattle.std.proofs.Common.{rules, ◌≡◌, ◌-◌, ◌∙◌, ap, sym, length}
use Rattle.std.specs.Prelude.{Some, slice_get}
use Rattle.sim_code.specs.Classes.{class_numbered}
use Rattle.sim_code.specs.Code.{ClassOf}
use Rattle.sim_code.specs.Levels.{in_front}
use Rattle.object_machine.proofs.ClassRows.{numbered_at, numbered_past}
use Rattle.object_machine.proofs.Jumps.{found_at, none_at}
use Rattle.object_machine.proofs.ParameterCells.{front_missing_at, front_of_block_at}
use Rattle.object_machine.proofs.parameters.in_front.Goals as goal

pub returns-then-prefix-eq0-clause-row : goal.returns-then-prefix-eq0-clause-row
returns-then-prefix-eq0-clause-row c code eb ec = sym (ap (in_front code) c.if-prefix-eq0.true)

pub returns-in_default-clause-row : goal.returns-in_default-clause-row
returns-in_default-clause-row c code eb ec =
    let at = c.args.prefix in
    sym (front_missing_at code at c.if-prefix-eq0.false (numbered_past code at c.if-prefix-eq0.false (ap (λ v. slice_get v (at - 1)) ec ∙ none_at c.args.classes.now (at - 1) c.in_default.ensures.lookup.3)))

pub returns-in_default-get-clause-row : goal.returns-in_default-get-clause-row
returns-in_default-get-clause-row c code eb ec =
    let at = c.args.prefix in
    let x = c.in-Some.record.now in
    let there : class_numbered code at ≡ Some x = numbered_at code at x c.if-prefix-eq0.false (ap (λ v. slice_get v (at - 1)) ec ∙ found_at c.args.classes.now (at - 1) x c.in-Some.ensures.lookup.3.0 c.in-Some.ensures.lookup.1) in
    let block = ap {A = ClassOf} (λ r. r.block) (sym c.record.view_is) in
    sym (front_of_block_at code at x _ c.if-prefix-eq0.false there (ap (slice_get code.blocks) block ∙ ap (λ v. slice_get v c.record.inside.block) eb ∙ none_at c.args.blocks.now c.record.inside.block c.in_default-get.ensures.lookup.3))

pub returns-clause-row : goal.returns-clause-row
returns-clause-row c code eb ec =
    let at = c.args.prefix in
    let x = c.in-Some.record.now in
    let b = c.in-Some-get.block.now in
    let there : class_numbered code at ≡ Some x = numbered_at code at x c.if-prefix-eq0.false (ap (λ v. slice_get v (at - 1)) ec ∙ found_at c.args.classes.now (at - 1) x c.in-Some.ensures.lookup.3.0 c.in-Some.ensures.lookup.1) in
    let block = ap {A = ClassOf} (λ r. r.block) (sym c.record.view_is) in
    let types : length b.types ≡ c.len.result = ap (λ b. length b.types) (sym c.block.view_is) ∙ (let n : length c.block.inside.types.items ≡ c.len.result = search rules in n) in
    let formals : length b.formals ≡ c.len-2.result = ap (λ b. length b.formals) (sym c.block.view_is) ∙ (let n : length c.block.inside.formals.items ≡ c.len-2.result = search rules in n) in
    sym (front_of_block_at code at x _ c.if-prefix-eq0.false there (ap (slice_get code.blocks) block ∙ ap (λ v. slice_get v c.record.inside.block) eb ∙ found_at c.args.blocks.now c.record.inside.block b c.in-Some-get.ensures.lookup.3.0 c.in-Some-get.ensures.lookup.1)
    ∙ ap (λ n. Some (n, length b.formals)) types ∙ ap (λ n. Some (c.len.result, n)) formals)
