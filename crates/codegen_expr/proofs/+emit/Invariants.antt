use Rattle.std.proofs.Common.{◌-◌, drop, length, map}
use Rattle.sim_tree.specs.SyntaxOf.{factor_syntax, operand_syntax, term_syntax, with_operator}
use Rattle.codegen_expr.specs.Emit.{OwesActuals, OwesList, OwesTails, Steady, WritesNot}
use Rattle.codegen_expr.specs.EmitVirtuals.{OwesParameters}
use Rattle.codegen_expr.proofs.Taken.{TakenOf}
use Rattle.codegen_expr.proofs.+emit.Given as goal

abbrev pub invariant-operands::emit_factors-loop-item : goal.invariant-operands::emit_factors-loop-item
invariant-operands::emit_factors-loop-item l = OwesTails l.bound l.spot l.depth l.fn.draft (map factor_syntax l.rest) l.draft (map factor_syntax (drop l.item-index l.rest))

abbrev pub invariant-operands::emit_not-loop-done : goal.invariant-operands::emit_not-loop-done
invariant-operands::emit_not-loop-done l = WritesNot l.bound l.fn.spot l.depth l.fn.draft l.draft (drop (length l.tokens - l.done) l.tokens) l.expr

abbrev pub invariant-operands::emit_operands-loop-item : goal.invariant-operands::emit_operands-loop-item
invariant-operands::emit_operands-loop-item l = Steady l.operator → OwesTails l.bound l.spot l.depth l.fn.draft (map (with_operator l.operator) (map operand_syntax l.rest)) l.draft (map (with_operator l.operator) (map operand_syntax (drop l.item-index l.rest)))

abbrev pub invariant-operands::emit_terms-loop-item : goal.invariant-operands::emit_terms-loop-item
invariant-operands::emit_terms-loop-item l = OwesTails l.bound l.spot l.depth l.fn.draft (map term_syntax l.rest) l.draft (map term_syntax (drop l.item-index l.rest))

abbrev pub invariant-operands::emit_list-loop-item : goal.invariant-operands::emit_list-loop-item
invariant-operands::emit_list-loop-item l = OwesList l.bound l.spot l.depth l.fn.draft l.list l.inside l.draft (drop l.item-index l.list)

abbrev pub invariant-calls::emit_actuals-loop-index : goal.invariant-calls::emit_actuals-loop-index
invariant-calls::emit_actuals-loop-index l = OwesActuals l.bound l.spot l.depth l.fn.draft l.keeps l.token l.list l.formals l.inside l.draft (drop l.index l.list) (drop l.index l.formals)

abbrev pub invariant-selectors::emit_steps-loop-done : goal.invariant-selectors::emit_steps-loop-done
invariant-selectors::emit_steps-loop-done l = TakenOf l.bound l.spot l.depth l.fn.draft l.fn.object l.rest l.draft l.taken l.done

abbrev pub invariant-actuals::emit_parameters-loop-index : goal.invariant-actuals::emit_parameters-loop-index
invariant-actuals::emit_parameters-loop-index l = OwesParameters l.bound l.spot l.depth l.fn.draft l.token l.list l.inside l.index l.draft (drop l.index l.list)
