use Rattle.std.proofs.Common.{arith, refl, ap, ◌∙◌, sym}
use denote.Param.Weighed.{most}
use Rattle.sim_tree.specs.declared.stmt.Stmt.{size-Stmt}
use Rattle.sim_tree.specs.declared.stmt.Decl.TheViews.{size-When}
use Rattle.sim_tree.specs.Nesting.{apart, branch_derivation}
use Rattle.sim_tree.specs.Derivation.{derivation_of}
use Rattle.sim_tree.specs.ProgramDerivation.{declaration_derivation, next_statement, statement_derivation}
use Rattle.sim_tree.proofs.Nests as nests
use Rattle.sim_tree.proofs.Sizes as sizes
use Rattle.sim_tree.proofs.Statements as st
use Rattle.sim_tree.proofs.StatementLemmas as lemma
use Rattle.sim_tree.proofs.nesting.+statement.Goals as goal

pub arms-loop-item-init : goal.arms-loop-item-init
arms-loop-item-init t c = nests.begins c.args.list.now

pub arms-loop-item-preserved : goal.arms-loop-item-preserved
arms-loop-item-preserved t c =
    let x = c.item-item.result in
    nests.goes_on c.args.list.now c.loop-item.item-index x c.statement.result c.loop-item.deepest c.max-deepest.result c.loop-item-test.true c.item-item.is (nests.along (lemma.derivation-when x.token x.class x.opening x.body x.end) (nests.nests_leaf (nests.nests_leaf (nests.nests_leaf (st.nests_to_its_end x.end.0 c.statement.ensures))))) (omega arith) c.loop-item.invariant

pub arms-returns : goal.arms-returns
arms-returns t c = nests.ends c.args.list.now c.loop-item.item-index c.loop-item.deepest c.loop-item-test.false c.loop-item.invariant

pub declarations-loop-item-init : goal.declarations-loop-item-init
declarations-loop-item-init t c = nests.begins c.args.list.now

pub declarations-loop-item-preserved : goal.declarations-loop-item-preserved
declarations-loop-item-preserved t c =
    let x = c.item-item.result in
    nests.goes_on c.args.list.now c.loop-item.item-index x c.declaration.result c.loop-item.deepest c.max-deepest.result c.loop-item-test.true c.item-item.is c.declaration.ensures (omega arith) c.loop-item.invariant

pub declarations-returns : goal.declarations-returns
declarations-returns t c = nests.ends c.args.list.now c.loop-item.item-index c.loop-item.deepest c.loop-item-test.false c.loop-item.invariant

pub statements-loop-item-init : goal.statements-loop-item-init
statements-loop-item-init t c = nests.begins c.args.list.now

pub statements-loop-item-preserved : goal.statements-loop-item-preserved
statements-loop-item-preserved t c =
    let x = c.item-item.result in
    nests.goes_on c.args.list.now c.loop-item.item-index x c.statement.result c.loop-item.deepest c.max-deepest.result c.loop-item-test.true c.item-item.is c.statement.ensures (omega arith) c.loop-item.invariant

pub statements-returns : goal.statements-returns
statements-returns t c = nests.ends c.args.list.now c.loop-item.item-index c.loop-item.deepest c.loop-item-test.false c.loop-item.invariant

pub block_depth-returns : goal.block_depth-returns
block_depth-returns t c =
    nests.same (sym c.max.ensures) (st.nests_block c.args.block.now (nests.at_list c.deref.ensures.value c.declarations.ensures) (nests.at_list c.deref-2.ensures.value c.statements.ensures))

pub branch-returns-in-Some : goal.branch-returns-in-Some
branch-returns-in-Some t c =
    nests.along (ap branch_derivation c.in-Some.is) (st.at_stmt c.deref.ensures c.statement.ensures)

pub branch-returns-in-None : goal.branch-returns-in-None
branch-returns-in-None t c =
    nests.along (ap branch_derivation c.in-None.is) nests.nests_done

pub declaration-returns-in-Variables : goal.declaration-returns-in-Variables
declaration-returns-in-Variables t c =
    let w = c.in-Variables in
    nests.along (ap (λ z. apart (declaration_derivation z)) w.is ∙ ap apart (lemma.derivation-Variables w.type_name w.variables))
    (nests.nests_alone refl (st.before refl (st.flat_type w.type_name) (nests.nests_alone refl (st.flat_variables w.variables.items))))

pub declaration-returns-in-Arrays : goal.declaration-returns-in-Arrays
declaration-returns-in-Arrays t c =
    let w = c.in-Arrays in
    nests.along (ap (λ z. apart (declaration_derivation z)) w.is ∙ ap apart (lemma.derivation-Arrays w.type_name w.token w.list))
    (nests.nests_alone refl (st.before refl (st.flat_type w.type_name) (nests.nests_alone refl (nests.nests_leaf (st.nests_segments (nests.at_list c.deref.ensures.value c.segments.ensures))))))

pub declaration-returns-in-Procedure : goal.declaration-returns-in-Procedure
declaration-returns-in-Procedure t c =
    let w = c.in-Procedure in
    nests.along (ap (λ z. apart (declaration_derivation z)) w.is) (st.nests_declared_procedure w.result w.token w.procedure (st.at_stmt c.deref-in-Procedure.ensures c.statement.ensures))

pub declaration-returns-in-Class : goal.declaration-returns-in-Class
declaration-returns-in-Class t c =
    let w = c.in-Class in
    nests.along (ap (λ z. apart (declaration_derivation z)) w.is) (st.nests_declared_class w.prefix w.token w.class (st.at_stmt c.deref-in-Class.ensures c.statement-in-Class.ensures))

pub statement-returns-in-Empty : goal.statement-returns-in-Empty
statement-returns-in-Empty t c =
    let w = c.in-Empty in
    nests.along (ap (λ z. next_statement (statement_derivation z)) w.is ∙ ap next_statement (lemma.derivation-Empty w.token)) (nests.nests_empty w.token.0)

pub statement-returns-in-Block : goal.statement-returns-in-Block
statement-returns-in-Block t c =
    let w = c.in-Block in
    nests.along (ap (λ z. next_statement (statement_derivation z)) w.is ∙ ap next_statement (lemma.derivation-Block w.block)) (nests.same (omega arith) (st.nests_stmt refl (nests.nests_alone refl c.block_depth.ensures)))

pub statement-returns-in-PrefixedBlock : goal.statement-returns-in-PrefixedBlock
statement-returns-in-PrefixedBlock t c =
    let w = c.in-PrefixedBlock in
    nests.along (ap (λ z. next_statement (statement_derivation z)) w.is ∙ ap next_statement (lemma.derivation-PrefixedBlock w.prefix w.block))
    (nests.same (omega arith) (st.nests_stmt refl (st.nests_prefixed w.prefix w.prefix.arguments.items refl c.block_prefix.ensures (nests.nests_alone refl (nests.nests_alone refl c.block_depth-in-PrefixedBlock.ensures)))))

pub statement-returns-in-Inner : goal.statement-returns-in-Inner
statement-returns-in-Inner t c =
    let w = c.in-Inner in
    nests.along (ap (λ z. next_statement (statement_derivation z)) w.is ∙ ap next_statement (lemma.derivation-Inner w.token)) (nests.same (omega arith) (st.nests_stmt refl (nests.nests_leaf nests.nests_done)))

pub statement-returns-in-Call : goal.statement-returns-in-Call
statement-returns-in-Call t c =
    let w = c.in-Call in
    nests.along (ap (λ z. next_statement (statement_derivation z)) w.is ∙ ap next_statement (lemma.derivation-Call w.call)) (nests.same (omega arith) (nests.nests_acted (derivation_of w.call) c.inside.ensures nests.nests_done))

pub statement-returns-in-Assignment : goal.statement-returns-in-Assignment
statement-returns-in-Assignment t c =
    let w = c.in-Assignment in
    nests.along (ap (λ z. next_statement (statement_derivation z)) w.is ∙ ap next_statement (lemma.derivation-Assignment w.left w.rest)) (nests.same (omega arith) (st.nests_assigning w.left w.rest.items c.inside-in-Assignment.ensures (nests.at_list c.deref.ensures.value c.assigned.ensures)))

pub statement-returns-in-If : goal.statement-returns-in-If
statement-returns-in-If t c =
    let w = c.in-If in
    nests.along (ap (λ z. next_statement (statement_derivation z)) w.is) (nests.same (omega arith) (st.nests_if w.token w.condition w.then_branch w.else_branch c.expression.ensures (st.at_stmt c.deref-in-If.ensures c.statement.ensures) c.branch-else_branch.ensures))

pub statement-returns-in-While : goal.statement-returns-in-While
statement-returns-in-While t c =
    let w = c.in-While in
    nests.along (ap (λ z. next_statement (statement_derivation z)) w.is ∙ ap next_statement (lemma.derivation-While w.token w.condition w.body)) (nests.same (omega arith) (st.nests_stmt refl (nests.nests_leaf (nests.followed c.expression-in-While.ensures (st.at_stmt c.deref-in-While.ensures c.statement-in-While.ensures)))))

pub statement-returns-in-For : goal.statement-returns-in-For
statement-returns-in-For t c =
    let w = c.in-For in
    nests.along (ap (λ z. next_statement (statement_derivation z)) w.is ∙ ap next_statement (lemma.derivation-For w.token w.variable w.sign w.elements w.body))
    (nests.same (omega arith) (st.nests_stmt refl (nests.nests_leaf (nests.nests_leaf (nests.nests_node refl (nests.nests_leaf (st.nests_for_elements (nests.at_list c.deref-in-For.ensures.value c.for_elements.ensures))) (st.at_stmt c.deref-in-For-2.ensures c.statement-in-For.ensures))))))

pub statement-returns-in-ForReference : goal.statement-returns-in-ForReference
statement-returns-in-ForReference t c =
    let w = c.in-ForReference in
    nests.along (ap (λ z. next_statement (statement_derivation z)) w.is ∙ ap next_statement (lemma.derivation-ForReference w.token w.variable w.sign w.elements w.body))
    (nests.same (omega arith) (st.nests_stmt refl (nests.nests_leaf (nests.nests_leaf (nests.nests_node refl (nests.nests_leaf (st.nests_reference_elements (nests.at_list c.deref-in-ForReference.ensures.value c.reference_elements.ensures))) (st.at_stmt c.deref-in-ForReference-2.ensures c.statement-in-ForReference.ensures))))))

pub statement-returns-in-Inspect : goal.statement-returns-in-Inspect
statement-returns-in-Inspect t c =
    let w = c.in-Inspect in
    nests.along (ap (λ z. next_statement (statement_derivation z)) w.is) (nests.same (omega arith) (st.nests_inspect w.token w.object w.opening w.body w.end w.otherwise c.expression-in-Inspect.ensures (st.at_stmt c.deref-in-Inspect.ensures c.statement-in-Inspect.ensures) c.branch-otherwise.ensures))

pub statement-returns-in-InspectWhen : goal.statement-returns-in-InspectWhen
statement-returns-in-InspectWhen t c =
    let w = c.in-InspectWhen in
    nests.along (ap (λ z. next_statement (statement_derivation z)) w.is) (nests.same (omega arith) (st.nests_inspect_when w.token w.object w.list w.otherwise c.expression-in-InspectWhen.ensures (nests.at_list c.deref-in-InspectWhen.ensures.value c.arms.ensures) c.branch-otherwise-in-InspectWhen.ensures))

pub statement-returns-in-Activation : goal.statement-returns-in-Activation
statement-returns-in-Activation t c =
    let w = c.in-Activation in
    nests.along (ap (λ z. next_statement (statement_derivation z)) w.is ∙ ap next_statement (lemma.derivation-Activation w.token w.activation w.process w.timing)) (nests.same (omega arith) (st.nests_stmt refl (nests.nests_leaf (nests.followed c.expression-in-Activation.ensures c.timing_depth.ensures))))

pub statement-arms-requires : goal.statement-arms-requires
statement-arms-requires t c =
    let w = c.in-InspectWhen in
    (omega (arith, sizes.inspectwhen_holds w.token w.object w.list w.otherwise, ap size-Stmt w.is, ap (most size-When) c.deref-in-InspectWhen.ensures.value), tt)
