use Rattle.std.proofs.Common.{rules, ◌≡◌, ◌∙◌, length, ap, sym, arith}
use Rattle.std.specs.Prelude.{None, Some}
use Rattle.sim_code.specs.Code.{BlockOf}
use Rattle.sim_code.specs.Levels.{filled_by, parameter_cell}
use Rattle.sim_code.specs.Machine.{first_cells, first_value}
use Rattle.object_machine.proofs.Calls.{map_long}
use Rattle.object_machine.proofs.Prepared.{right_count, wrong_count}
use Rattle.object_machine.proofs.generating.supplies.Goals as goal

pub returns-then-count-formals-clause-no : goal.returns-then-count-formals-clause-no
returns-then-count-formals-clause-no c off code vs eb ec long =
    let b = c.args.block.now in
    let formals : length b.formals ≡ c.len-formals.result = ap (λ b. length b.formals) (sym c.block.view_is) ∙ (let n : length c.block.inside.formals.items ≡ c.len-formals.result = search rules in n) in
    wrong_count code b.class b vs (λ e. c.if-count-formals.true (sym long ∙ e ∙ formals))

pub returns-clause-no : goal.returns-clause-no
returns-clause-no c off code vs eb ec long =
    let b = c.args.block.now in
    let formals : length b.formals ≡ c.len-formals.result = ap (λ b. length b.formals) (sym c.block.view_is) ∙ (let n : length c.block.inside.formals.items ≡ c.len-formals.result = search rules in n) in
    let class = ap {A = BlockOf} (λ b. b.class) (sym c.block.view_is) in
    let types : length (first_cells b) ≡ c.len.result = map_long first_value b.types ∙ ap (λ b. length b.types) (sym c.block.view_is) ∙ (let n : length c.block.inside.types.items ≡ c.len.result = search rules in n) in
    let none : filled_by (parameter_cell code b.class) 0 vs (Some (first_cells b)) ≡ None = ap (λ k. filled_by (parameter_cell code k) 0 vs (Some (first_cells b))) class ∙ c.are_supplied.ensures.no off code vs (first_cells b) eb ec long types in
    right_count code b.class b vs (omega (arith, long, formals, c.if-count-formals.false)) ∙ none

pub returns-clause-yes : goal.returns-clause-yes
returns-clause-yes c on code vs eb ec long =
    let b = c.args.block.now in
    let formals : length b.formals ≡ c.len-formals.result = ap (λ b. length b.formals) (sym c.block.view_is) ∙ (let n : length c.block.inside.formals.items ≡ c.len-formals.result = search rules in n) in
    let class = ap {A = BlockOf} (λ b. b.class) (sym c.block.view_is) in
    let types : length (first_cells b) ≡ c.len.result = map_long first_value b.types ∙ ap (λ b. length b.types) (sym c.block.view_is) ∙ (let n : length c.block.inside.types.items ≡ c.len.result = search rules in n) in
    let fill = c.are_supplied.ensures.yes on code vs (first_cells b) eb ec long types in
    let is : filled_by (parameter_cell code b.class) 0 vs (Some (first_cells b)) ≡ Some fill.cells = ap (λ k. filled_by (parameter_cell code k) 0 vs (Some (first_cells b))) class ∙ fill.is in
    record { cells = fill.cells; filled = is; is = right_count code b.class b vs (omega (arith, long, formals, c.if-count-formals.false)) ∙ is }
