mod Inspections
mod Sequences
mod Declarations
use Rattle.std.proofs.Common.{◌≡◌, true, false, [], ◌∷◌, Some, refl, map, inl, inr, sym, ap, ◌∙◌, subst, arith}
use Rattle.sim_base.specs.declared.token.TokenKind.TheVariants as k
use Rattle.sim_expr_parser.proofs.Steps.{exit, gone, kept, marked, maybe, once, opened, passed, skipped, stops-at, stops-in, to}
use Rattle.sim_expr_parser.proofs.Tables.{under-limit}
use Rattle.sim_expr_parser.proofs.Tokens.{made_is, took_one}
use Rattle.sim_parser.proofs.Exits.{here, here_kept, here_mark, here_part, out, past_kept, past_mark, past_part, past_to, rest}
use Rattle.sim_parser.proofs.Along.{all, along, along-ends, along-stops, left, past}
use Rattle.sim_parser.proofs.StatementRows.{after_head, block_at, branch_no_end, branch_row, branch_uncounted, for_at, from_inside, identified_at, if_at, inner_at, inside, inspect_at, nothing_read, operation_begins, operation_stands, too_deep, while_at, activate_at, reactivate_at}
use Rattle.sim_parser.proofs.StatementShapes.{acted_named, for_reference_derivation, for_derivation, if_derivation, while_derivation}
use Rattle.sim_parser.specs.Elements.{for_list_derivation}
use Rattle.sim_parser.specs.Parsing.{GivesAll, GivesPart, begins, body_row, branch_part, branch_derivation, branch_word, for_row, identified_row, if_row, inspect_row, operation_row, activation_row, while_row}
use Rattle.sim_parser.specs.declared.statement.Branch.TheVariants as branch
use Rattle.sim_tree.proofs.DerivationLemmas.{raise-same, derivation-Named}
use Rattle.sim_tree.proofs.StatementLemmas.{derivation-Block, derivation-Empty, derivation-PrefixedBlock}
use Rattle.sim_tree.specs.Claim.{one}
use Rattle.sim_tree.specs.Grammar as g
use Rattle.sim_tree.specs.Grammar.{Once, Maybe, Many, Of, Kept, Mark, is, just, one_of, right_side, begins_statement}
use Rattle.sim_tree.specs.Reading.{done, leaf, node, place, kind_at, bare_leaf}
use Rattle.sim_tree.specs.Derivation.{Derivation, arguments, identifier, raise, row, selector_derivation, derivation_of}
use Rattle.sim_tree.specs.ProgramDerivation.{acted, assigned_derivation, block_derivation, statement_derivation}
use Rattle.sim_tree.specs.Tree.{ReadsPart}
use Rattle.sim_tree.specs.declared.program.BlockPrefix.{BlockPrefix}
use Rattle.sim_tree.specs.declared.stmt.Stmt.TheVariants as s
use Rattle.sim_parser.proofs.statement.+statement.Goals as goal
use Rattle.sim_parser.proofs.statement.+statement.Goals.{for_statement-in-Values, for_statement-in-References}
use Rattle.sim_parser.proofs.statement.+statement.Answers.Inspections as inspections
use Rattle.sim_parser.proofs.statement.+statement.Answers.Sequences as sequences
use Rattle.sim_parser.proofs.statement.+statement.Answers.Declarations as declarations

pub block_statement-returns-in_err-block : goal.block_statement-returns-in_err-block
block_statement-returns-in_err-block u c =
    let ws = c.args.source.now in
    let d = c.args.depth in
    let i = c.args.at in
    let r = c.from_residual in
    exit (λ r. GivesAll ws d (one g.Compound) i statement_derivation r) r.result c.in_err-block.field-0.0 r.ensures.1 c.in_err-block.ensures

pub block_statement-returns : goal.block_statement-returns
block_statement-returns u c =
    let ws = c.args.source.now in
    let d = c.args.depth in
    let i = c.args.at in
    let b = c.in_ok-block.block in
    all (past (along d i (one g.Compound) c.requires.within) (once c.in_ok-block.ensures)) (statement_derivation (s.Block b)) (sym (derivation-Block b))

pub if_statement-returns-in_err-next : goal.if_statement-returns-in_err-next
if_statement-returns-in_err-next u c =
    let r = c.from_residual in
    out c.args.source.now c.args.depth if_row c.args.at statement_derivation r.result c.in_err-next.field-0.0 r.ensures.1
    (here_kept c.in_err-next.ensures)

pub if_statement-returns-in_err-condition : goal.if_statement-returns-in_err-condition
if_statement-returns-in_err-condition u c =
    let r = c.from_residual-in_err-condition in
    out c.args.source.now c.args.depth if_row c.args.at statement_derivation r.result c.in_err-condition.field-0.0 r.ensures.1
    (past_kept c.in_ok-next.ensures (here_part c.in_err-condition.ensures))

pub if_statement-returns-in_err-next-2 : goal.if_statement-returns-in_err-next-2
if_statement-returns-in_err-next-2 u c =
    let r = c.from_residual-in_err-next-2 in
    out c.args.source.now c.args.depth if_row c.args.at statement_derivation r.result c.in_err-next-2.field-0.0 r.ensures.1
    (past_kept c.in_ok-next.ensures (past_part c.in_ok-condition.ensures.1 (here_mark c.in_err-next-2.ensures)))

pub if_statement-returns-in_err-first : goal.if_statement-returns-in_err-first
if_statement-returns-in_err-first u c =
    let r = c.from_residual-in_err-first in
    out c.args.source.now c.args.depth if_row c.args.at statement_derivation r.result c.in_err-first.field-0.0 r.ensures.1
    (past_kept c.in_ok-next.ensures (past_part c.in_ok-condition.ensures.1 (past_mark c.in_ok-next-2.ensures (here_part c.in_err-first.ensures))))

pub if_statement-returns-in_err-else_branch : goal.if_statement-returns-in_err-else_branch
if_statement-returns-in_err-else_branch u c =
    let r = c.from_residual-in_err-else_branch in
    out c.args.source.now c.args.depth if_row c.args.at statement_derivation r.result c.in_err-else_branch.field-0.0 r.ensures.1
    (past_kept c.in_ok-next.ensures (past_part c.in_ok-condition.ensures.1 (past_mark c.in_ok-next-2.ensures (past_part c.in_ok-first.ensures (rest c.in_err-else_branch.ensures)))))

pub if_statement-returns : goal.if_statement-returns
if_statement-returns u c =
    let ws = c.args.source.now in
    let d = c.args.depth in
    let i = c.args.at in
    let n = c.token_no-token.result in
    let w0 = along d i if_row c.requires.within in
    let w1 = past w0 (kept n.0 c.token_no-token.ensures (took_one ws i c.in_ok-next.next k.If refl c.in_ok-next.ensures)) in
    let w2 = past w1 (once c.in_ok-condition.ensures.1) in
    let w3 = past w2 (marked c.in_ok-next-2.ensures) in
    let w4 = past w3 (once c.in_ok-first.ensures) in
    let a = c.in_ok-then_branch.then_branch in
    let o = c.in_ok-else_branch.else_branch in
    let e = c.in_ok-condition.condition in
    left w4 (branch_derivation branch.Else o) c.in_ok-else_branch.ensures (statement_derivation (s.If n e a o)) (if_derivation n e c.in_ok-first.first a o c.in_ok-then_branch.ensures.ok)

pub optional_branch-eat-requires-clause-no_end : goal.optional_branch-eat-requires-clause-no_end
optional_branch-eat-requires-clause-no_end u c = ap (is k.EndOfSource) c.word.ensures ∙ branch_no_end c.args.branch

pub optional_branch-returns-in_default : goal.optional_branch-returns-in_default
optional_branch-returns-in_default u c =
    let ws = c.args.source.now in
    let d = c.args.depth in
    let i = c.args.at in
    let b = c.args.branch in
    let none = branch_row b (kind_at ws i) false (ap (is (kind_at ws i)) (sym c.word.ensures) ∙ c.in_default.ensures) in
    all (past (along d i (Of Maybe (branch_part b) ∷ []) c.requires.within) (skipped none c.requires.within)) done refl

pub optional_branch-returns-in_err-body : goal.optional_branch-returns-in_err-body
optional_branch-returns-in_err-body u c =
    let ws = c.args.source.now in
    let d = c.args.depth in
    let i = c.args.at in
    let b = c.args.branch in
    let w = c.in-Some.ensures in
    let h = ap (is (kind_at ws i)) (sym c.word.ensures) ∙ w.0 in
    let m0 = opened ws d i (branch_part b) (Mark (branch_word b) ∷ one g.Statement) (branch_uncounted b) (branch_row b (kind_at ws i) true h) c.requires.within in
    let m1 = to m0 (marked (h, w.1, w.2)) in
    let e = c.in_err-body.field-0.0 in
    let r = c.from_residual in
    exit (λ r. GivesAll ws d (Of Maybe (branch_part b) ∷ []) i (branch_derivation b) r) r.result e r.ensures.1
    (stops-at Maybe m1 e c.in_err-body.ensures [])

pub optional_branch-returns : goal.optional_branch-returns
optional_branch-returns u c =
    let ws = c.args.source.now in
    let d = c.args.depth in
    let i = c.args.at in
    let b = c.args.branch in
    let w = c.in-Some.ensures in
    let h = ap (is (kind_at ws i)) (sym c.word.ensures) ∙ w.0 in
    let m0 = opened ws d i (branch_part b) (Mark (branch_word b) ∷ one g.Statement) (branch_uncounted b) (branch_row b (kind_at ws i) true h) c.requires.within in
    let m1 = to m0 (marked (h, w.1, w.2)) in
    let m2 = to m1 (once c.in_ok-body.ensures) in
    let x = c.in_ok-body.body in
    let a = c.in_ok-new.field-0 in
    all (past (along d i (Of Maybe (branch_part b) ∷ []) c.requires.within) (maybe (gone m2 (node g.Statement (statement_derivation x) done) refl))) (branch_derivation b (Some a))
    (ap (λ z. node (branch_part b) (node g.Statement (statement_derivation z) done) done) (sym c.in_ok-new.ensures.ok))

pub while_statement-returns-in_err-next : goal.while_statement-returns-in_err-next
while_statement-returns-in_err-next u c =
    let r = c.from_residual in
    out c.args.source.now c.args.depth while_row c.args.at statement_derivation r.result c.in_err-next.field-0.0 r.ensures.1
    (here_kept c.in_err-next.ensures)

pub while_statement-returns-in_err-condition : goal.while_statement-returns-in_err-condition
while_statement-returns-in_err-condition u c =
    let r = c.from_residual-in_err-condition in
    out c.args.source.now c.args.depth while_row c.args.at statement_derivation r.result c.in_err-condition.field-0.0 r.ensures.1
    (past_kept c.in_ok-next.ensures (here_part c.in_err-condition.ensures))

pub while_statement-returns-in_err-body : goal.while_statement-returns-in_err-body
while_statement-returns-in_err-body u c =
    let r = c.from_residual-in_err-body in
    out c.args.source.now c.args.depth while_row c.args.at statement_derivation r.result c.in_err-body.field-0.0 r.ensures.1
    (past_kept c.in_ok-next.ensures (past_part c.in_ok-condition.ensures.1 (rest c.in_err-body.ensures)))

pub while_statement-returns : goal.while_statement-returns
while_statement-returns u c =
    let ws = c.args.source.now in
    let d = c.args.depth in
    let i = c.args.at in
    let n = c.token_no-token.result in
    let w0 = along d i while_row c.requires.within in
    let w1 = past w0 (kept n.0 c.token_no-token.ensures (took_one ws i c.in_ok-next.next k.While refl c.in_ok-next.ensures)) in
    let w2 = past w1 (once c.in_ok-condition.ensures.1) in
    let e = c.in_ok-condition.condition in
    let a = c.in_ok-body-2.body in
    left w2 (node g.Statement (statement_derivation c.in_ok-body.body) done) c.in_ok-body.ensures (statement_derivation (s.While n e a)) (while_derivation n e c.in_ok-body.body a c.in_ok-body-2.ensures.ok)

pub body-returns-in_err-next : goal.body-returns-in_err-next
body-returns-in_err-next u c =
    let r = c.from_residual in
    out c.args.source.now c.args.depth body_row c.args.at (λ x. node g.Statement (statement_derivation x) done) r.result c.in_err-next.field-0.0 r.ensures.1
    (here_mark c.in_err-next.ensures)

pub body-returns : goal.body-returns
body-returns u c =
    let ws = c.args.source.now in
    let d = c.args.depth in
    let i = c.args.at in
    let w1 = past (along d i body_row c.requires.within) (marked c.in_ok-next.ensures) in
    passed (GivesPart ws d g.Statement c.in_ok-next.next statement_derivation) (GivesAll ws d body_row i (λ x. node g.Statement (statement_derivation x) done))
    (λ x h. all (past w1 (once h)) (node g.Statement (statement_derivation x.0) done) refl) (λ e h. along-ends w1 e h)
    c.statement.result c.statement.ensures

pub for_statement-returns-in_err-next : goal.for_statement-returns-in_err-next
for_statement-returns-in_err-next u c =
    let r = c.from_residual in
    out c.args.source.now c.args.depth for_row c.args.at statement_derivation r.result c.in_err-next.field-0.0 r.ensures.1
    (here_kept c.in_err-next.ensures)

pub for_statement-returns-in_err-variable : goal.for_statement-returns-in_err-variable
for_statement-returns-in_err-variable u c =
    let r = c.from_residual-in_err-variable in
    out c.args.source.now c.args.depth for_row c.args.at statement_derivation r.result c.in_err-variable.field-0.0 r.ensures.1
    (past_kept c.in_ok-next.ensures (here (c.in_err-variable.ensures c.args.depth)))

pub for_statement-returns-in_err-list : goal.for_statement-returns-in_err-list
for_statement-returns-in_err-list u c =
    let r = c.from_residual-in_err-list in
    out c.args.source.now c.args.depth for_row c.args.at statement_derivation r.result c.in_err-list.field-0.0 r.ensures.1
    (past_kept c.in_ok-next.ensures (past_to (c.in_ok-variable.ensures c.args.depth) (here_part c.in_err-list.ensures)))

pub for_statement-returns-in_err-body : goal.for_statement-returns-in_err-body
for_statement-returns-in_err-body u c =
    let r = c.from_residual-in_err-body in
    out c.args.source.now c.args.depth for_row c.args.at statement_derivation r.result c.in_err-body.field-0.0 r.ensures.1
    (past_kept c.in_ok-next.ensures (past_to (c.in_ok-variable.ensures c.args.depth) (past_part c.in_ok-list.ensures (rest c.in_err-body.ensures))))

pub identified_statement-returns-in_err-name : goal.identified_statement-returns-in_err-name
identified_statement-returns-in_err-name u c =
    let r = c.from_residual in
    out c.args.source.now c.args.depth identified_row c.args.at statement_derivation r.result c.in_err-name.field-0.0 r.ensures.1
    (here (c.in_err-name.ensures c.args.depth))

pub identified_statement-returns-in_err-arguments : goal.identified_statement-returns-in_err-arguments
identified_statement-returns-in_err-arguments u c =
    let r = c.from_residual-in_err-arguments in
    out c.args.source.now c.args.depth identified_row c.args.at statement_derivation r.result c.in_err-arguments.field-0.0 r.ensures.1
    (past_to (c.in_ok-name.ensures c.args.depth) (here c.in_err-arguments.ensures))

pub identified_statement-returns-in_err-block : goal.identified_statement-returns-in_err-block
identified_statement-returns-in_err-block u c =
    let ws = c.args.source.now in
    let d = c.args.depth in
    let i = c.args.at in
    let w2 = past (past (along d i identified_row c.requires.within) (c.in_ok-name.ensures d)) c.in_ok-arguments.ensures in
    let j = c.in_ok-arguments.next in
    let begin = ap (λ z. is z k.Begin) (sym c.kind_at.ensures) ∙ made_is _ _ true c.if-eq.ensures in
    let m0 = opened ws d j g.AfterFirstOperand (one g.Compound) refl (after_head (kind_at ws j) true begin) w2.within in
    let e = c.in_err-block.field-0.0 in
    let r = c.from_residual-in_err-block in
    exit (λ r. GivesAll ws d identified_row i statement_derivation r) r.result e r.ensures.1
    (along-stops w2 e (stops-at Once m0 e c.in_err-block.ensures))

pub identified_statement-returns-then-eq : goal.identified_statement-returns-then-eq
identified_statement-returns-then-eq u c =
    let ws = c.args.source.now in
    let d = c.args.depth in
    let i = c.args.at in
    let w2 = past (past (along d i identified_row c.requires.within) (c.in_ok-name.ensures d)) c.in_ok-arguments.ensures in
    let j = c.in_ok-arguments.next in
    let begin = ap (λ z. is z k.Begin) (sym c.kind_at.ensures) ∙ made_is _ _ true c.if-eq.ensures in
    let m0 = opened ws d j g.AfterFirstOperand (one g.Compound) refl (after_head (kind_at ws j) true begin) w2.within in
    let b = c.in_ok-block.block in
    let m1 = gone (to m0 (once c.in_ok-block.ensures)) (node g.Compound (block_derivation b) done) refl in
    let p : BlockPrefix = record { class = c.in_ok-name.name; arguments = c.in_ok-arguments.arguments } in
    all (past w2 (once m1)) (statement_derivation (s.PrefixedBlock p b)) (sym (derivation-PrefixedBlock p b))

pub identified_statement-returns-in_err-selectors : goal.identified_statement-returns-in_err-selectors
identified_statement-returns-in_err-selectors u c =
    let ws = c.args.source.now in
    let d = c.args.depth in
    let i = c.args.at in
    let w2 = past (past (along d i identified_row c.requires.within) (c.in_ok-name.ensures d)) c.in_ok-arguments.ensures in
    let j = c.in_ok-arguments.next in
    let begin = ap (λ z. is z k.Begin) (sym c.kind_at.ensures) ∙ made_is _ _ false c.if-eq.ensures in
    let m0 = opened ws d j g.AfterFirstOperand (Of Many g.Selection ∷ Of Many g.Assigned ∷ []) refl (after_head (kind_at ws j) false begin) w2.within in
    let e = c.in_err-selectors.field-0.0 in
    let r = c.from_residual-in_err-selectors in
    exit (λ r. GivesAll ws d identified_row i statement_derivation r) r.result e r.ensures.1
    (along-stops w2 e (stops-in Once m0 e c.in_err-selectors.ensures))

pub identified_statement-returns-in_err-rest : goal.identified_statement-returns-in_err-rest
identified_statement-returns-in_err-rest u c =
    let ws = c.args.source.now in
    let d = c.args.depth in
    let i = c.args.at in
    let w2 = past (past (along d i identified_row c.requires.within) (c.in_ok-name.ensures d)) c.in_ok-arguments.ensures in
    let j = c.in_ok-arguments.next in
    let begin = ap (λ z. is z k.Begin) (sym c.kind_at.ensures) ∙ made_is _ _ false c.if-eq.ensures in
    let m0 = opened ws d j g.AfterFirstOperand (Of Many g.Selection ∷ Of Many g.Assigned ∷ []) refl (after_head (kind_at ws j) false begin) w2.within in
    let m1 = to m0 c.in_ok-selectors.ensures in
    let e = c.in_err-rest.field-0.0 in
    let r = c.from_residual-in_err-rest in
    exit (λ r. GivesAll ws d identified_row i statement_derivation r) r.result e r.ensures.1
    (along-stops w2 e (stops-in Once m1 e c.in_err-rest.ensures))

pub identified_statement-returns : goal.identified_statement-returns
identified_statement-returns u c =
    let ws = c.args.source.now in
    let d = c.args.depth in
    let i = c.args.at in
    let w2 = past (past (along d i identified_row c.requires.within) (c.in_ok-name.ensures d)) c.in_ok-arguments.ensures in
    let j = c.in_ok-arguments.next in
    let begin = ap (λ z. is z k.Begin) (sym c.kind_at.ensures) ∙ made_is _ _ false c.if-eq.ensures in
    let m0 = opened ws d j g.AfterFirstOperand (Of Many g.Selection ∷ Of Many g.Assigned ∷ []) refl (after_head (kind_at ws j) false begin) w2.within in
    let m2 = to (to m0 c.in_ok-selectors.ensures) c.in_ok-rest.ensures in
    let x = c.in_ok-name.name in
    let l = c.in_ok-arguments.arguments in
    let v = map selector_derivation c.in_ok-selectors.selectors.items in
    let rest = row g.Assigned (map assigned_derivation c.in_ok-rest.rest.items) done in
    let named = derivation-Named x l in
    let inner : Derivation = record { level = 0; inside = identifier x (arguments (map derivation_of l.items) done) } in
    let left =
    c.in_ok-left.ensures (ap (λ z. z.level) named) ∙ ap (λ z. node g.Primary (raise 0 z) (row g.Selection v done)) named
    ∙ ap (λ z. node g.Primary z (row g.Selection v done)) (raise-same 0 inner refl) in
    let made = c.operation.ensures ∙ ap (λ z. acted z rest) left ∙ acted_named x (map derivation_of l.items) v rest in
    all (past w2 (once (gone m2 (row g.Selection v rest) refl))) (statement_derivation c.operation.result) (sym made)

pub statement-returns-then-not-begins_statement : goal.statement-returns-then-not-begins_statement
statement-returns-then-not-begins_statement u c =
    let ws = c.args.source.now in
    let d = c.args.depth in
    let i = c.args.at in
    let n = c.token_no-token.result in
    let none = ap (one_of begins) (sym c.kind_at.ensures) ∙ sym c.begins_statement.ensures ∙ c.if-not-begins_statement.true in
    subst (λ z. ReadsPart ws d g.Statement i z i) (ap (λ z. place z done) (sym c.token_no-token.ensures) ∙ sym (derivation-Empty n)) (nothing_read ws d i none c.requires.within)

pub statement-returns-then-depth-eq-LIMIT : goal.statement-returns-then-depth-eq-LIMIT
statement-returns-then-depth-eq-LIMIT u c =
    let b = ap (one_of begins) (sym c.kind_at.ensures) ∙ sym c.begins_statement.ensures ∙ c.if-not-begins_statement.false in
    too_deep c.args.source.now c.args.depth c.args.at b (omega arith)

pub statement-returns : goal.statement-returns
statement-returns u c =
    let b = ap (one_of begins) (sym c.kind_at.ensures) ∙ sym c.begins_statement.ensures ∙ c.if-not-begins_statement.false in
    from_inside c.args.source.now c.args.depth c.args.at b (under-limit c.args.depth c.requires.shallow c.if-depth-eq-LIMIT.false) c.begun_statement.result c.begun_statement.ensures

pub begun_statement-returns-in-Begin : goal.begun_statement-returns-in-Begin
begun_statement-returns-in-Begin u c =
    inside c.args.source.now c.args.depth c.args.at (one g.Compound) (ap (right_side g.Statement) (sym c.kind_at.ensures ∙ c.in-Begin.is) ∙ block_at) c.block_statement.result c.block_statement.ensures

pub begun_statement-returns-in-Identifier : goal.begun_statement-returns-in-Identifier
begun_statement-returns-in-Identifier u c =
    inside c.args.source.now c.args.depth c.args.at identified_row (ap (right_side g.Statement) (sym c.kind_at.ensures ∙ c.in-Identifier.is) ∙ identified_at) c.identified_statement.result c.identified_statement.ensures

pub begun_statement-returns-in-If : goal.begun_statement-returns-in-If
begun_statement-returns-in-If u c =
    inside c.args.source.now c.args.depth c.args.at if_row (ap (right_side g.Statement) (sym c.kind_at.ensures ∙ c.in-If.is) ∙ if_at) c.if_statement.result c.if_statement.ensures

pub begun_statement-returns-in-While : goal.begun_statement-returns-in-While
begun_statement-returns-in-While u c =
    inside c.args.source.now c.args.depth c.args.at while_row (ap (right_side g.Statement) (sym c.kind_at.ensures ∙ c.in-While.is) ∙ while_at) c.while_statement.result c.while_statement.ensures

pub begun_statement-returns-in-For : goal.begun_statement-returns-in-For
begun_statement-returns-in-For u c =
    inside c.args.source.now c.args.depth c.args.at for_row (ap (right_side g.Statement) (sym c.kind_at.ensures ∙ c.in-For.is) ∙ for_at) c.for_statement.result c.for_statement.ensures

pub begun_statement-returns-in-Inspect : goal.begun_statement-returns-in-Inspect
begun_statement-returns-in-Inspect u c =
    inside c.args.source.now c.args.depth c.args.at inspect_row (ap (right_side g.Statement) (sym c.kind_at.ensures ∙ c.in-Inspect.is) ∙ inspect_at) c.inspect_statement.result c.inspect_statement.ensures

pub begun_statement-returns-in-Inner : goal.begun_statement-returns-in-Inner
begun_statement-returns-in-Inner u c =
    inside c.args.source.now c.args.depth c.args.at (Kept (just k.Inner) ∷ []) (ap (right_side g.Statement) (sym c.kind_at.ensures ∙ c.in-Inner.is) ∙ inner_at) c.inner_statement.result
    (c.inner_statement.ensures c.args.depth)

pub begun_statement-returns-in-Activate : goal.begun_statement-returns-in-Activate
begun_statement-returns-in-Activate u c =
    let ws = c.args.source.now in
    let i = c.args.at in
    let at : right_side g.Statement c.kind_at.result ≡ Some activation_row = elim c.in-Activate.is [
      | inl e ↦ ap (right_side g.Statement) e ∙ activate_at
      | inr e ↦ ap (right_side g.Statement) e ∙ reactivate_at
    ] in
    inside ws c.args.depth i activation_row (ap (right_side g.Statement) (sym c.kind_at.ensures) ∙ at) c.activation_statement.result c.activation_statement.ensures

pub begun_statement-returns-in_default : goal.begun_statement-returns-in_default
begun_statement-returns-in_default u c =
    let ws = c.args.source.now in
    let i = c.args.at in
    let a = c.kind_at.result in
    let n = c.in_default in
    let b = ap (one_of begins) c.kind_at.ensures ∙ c.requires.begins in
    let h = operation_begins a b n.not-Begin n.not-Identifier n.not-Inner n.not-If n.not-While n.not-For n.not-Inspect n.not-Activate n.not-Reactivate in
    inside ws c.args.depth i operation_row (ap (right_side g.Statement) (sym c.kind_at.ensures) ∙ operation_stands a h) c.operation_statement.result c.operation_statement.ensures

pub for_statement-returns : goal.for_statement-returns
for_statement-returns u c =
    let ws = c.args.source.now in
    let d = c.args.depth in
    let i = c.args.at in
    let n = c.token_no-token.result in
    let w0 = along d i for_row c.requires.within in
    let w1 = past w0 (kept n.0 c.token_no-token.ensures (took_one ws i c.in_ok-next.next k.For refl c.in_ok-next.ensures)) in
    let w2 = past w1 (c.in_ok-variable.ensures d) in
    let w3 = past w2 (once c.in_ok-list.ensures) in
    let x = c.in_ok-variable.variable in
    let y = c.in_ok-body.body in
    let a = c.in_ok-body-2.body in
    let m = c.match-list-3.statement in
    let made : bare_leaf n.0 k.For (identifier x (node g.ForList (for_list_derivation c.in_ok-list.list) (node g.Statement (statement_derivation y) done))) ≡ statement_derivation m = elim c.match-list-3.branch [
      | for_statement-in-Values w ↦
          ap (λ z. bare_leaf n.0 k.For (identifier x (node g.ForList (for_list_derivation z) (node g.Statement (statement_derivation y) done)))) w.in-Values.is
          ∙ for_derivation n x w.in-Values.sign w.in-Values.elements y a c.in_ok-body-2.ensures.ok ∙ ap statement_derivation (sym w.statement-is)
      | for_statement-in-References w ↦
          ap (λ z. bare_leaf n.0 k.For (identifier x (node g.ForList (for_list_derivation z) (node g.Statement (statement_derivation y) done)))) w.in-References.is
          ∙ for_reference_derivation n x w.in-References.sign w.in-References.elements y a c.in_ok-body-2.ensures.ok ∙ ap statement_derivation (sym w.statement-is)
    ] in
    left w3 (node g.Statement (statement_derivation y) done) c.in_ok-body.ensures (statement_derivation m) made

pub for_statement-for_list-requires-clause-within : goal.for_statement-for_list-requires-clause-within
for_statement-for_list-requires-clause-within u c = (c.in_ok-variable.ensures 0).within

pub for_statement-body-requires : goal.for_statement-body-requires
for_statement-body-requires u c =
    let q = c.in_ok-list.ensures in
    (omega (arith, c.decreases), (q.within, c.requires.shallow))

pub identified_statement-arguments-requires-clause-within : goal.identified_statement-arguments-requires-clause-within
identified_statement-arguments-requires-clause-within u c = (c.in_ok-name.ensures 0).within

pub identified_statement-compound-requires : goal.identified_statement-compound-requires
identified_statement-compound-requires u c =
    let q = c.in_ok-arguments.ensures in
    (omega (arith, c.decreases), (q.within, c.requires.shallow))

pub inspect_statement-returns-in_err-next : goal.inspect_statement-returns-in_err-next
inspect_statement-returns-in_err-next = inspections.inspect_statement-returns-in_err-next

pub inspect_statement-returns-in_err-object : goal.inspect_statement-returns-in_err-object
inspect_statement-returns-in_err-object = inspections.inspect_statement-returns-in_err-object

pub inspect_statement-returns-in_err-connection : goal.inspect_statement-returns-in_err-connection
inspect_statement-returns-in_err-connection = inspections.inspect_statement-returns-in_err-connection

pub inspect_statement-returns-in_err-otherwise : goal.inspect_statement-returns-in_err-otherwise
inspect_statement-returns-in_err-otherwise = inspections.inspect_statement-returns-in_err-otherwise

pub inspect_statement-returns-then-eq : goal.inspect_statement-returns-then-eq
inspect_statement-returns-then-eq = inspections.inspect_statement-returns-then-eq

pub inspect_statement-returns-in_err-arms : goal.inspect_statement-returns-in_err-arms
inspect_statement-returns-in_err-arms = inspections.inspect_statement-returns-in_err-arms

pub inspect_statement-returns-in_err-otherwise-2 : goal.inspect_statement-returns-in_err-otherwise-2
inspect_statement-returns-in_err-otherwise-2 = inspections.inspect_statement-returns-in_err-otherwise-2

pub inspect_statement-returns : goal.inspect_statement-returns
inspect_statement-returns = inspections.inspect_statement-returns

pub when_arms-returns-in_err-expect : goal.when_arms-returns-in_err-expect
when_arms-returns-in_err-expect = inspections.when_arms-returns-in_err-expect

pub when_arms-loop-arms-init : goal.when_arms-loop-arms-init
when_arms-loop-arms-init = inspections.when_arms-loop-arms-init

pub when_arms-returns-in_err-arm : goal.when_arms-returns-in_err-arm
when_arms-returns-in_err-arm = inspections.when_arms-returns-in_err-arm

pub when_arms-loop-arms-preserved : goal.when_arms-loop-arms-preserved
when_arms-loop-arms-preserved = inspections.when_arms-loop-arms-preserved

pub when_arms-returns : goal.when_arms-returns
when_arms-returns = inspections.when_arms-returns

pub when_arm-returns-in_err-next : goal.when_arm-returns-in_err-next
when_arm-returns-in_err-next = inspections.when_arm-returns-in_err-next

pub when_arm-returns-in_err-class : goal.when_arm-returns-in_err-class
when_arm-returns-in_err-class = inspections.when_arm-returns-in_err-class

pub when_arm-returns-in_err-connection : goal.when_arm-returns-in_err-connection
when_arm-returns-in_err-connection = inspections.when_arm-returns-in_err-connection

pub when_arm-returns : goal.when_arm-returns
when_arm-returns = inspections.when_arm-returns

pub connected_at-returns-in_err-next : goal.connected_at-returns-in_err-next
connected_at-returns-in_err-next = inspections.connected_at-returns-in_err-next

pub connected_at-returns-in_err-body : goal.connected_at-returns-in_err-body
connected_at-returns-in_err-body = inspections.connected_at-returns-in_err-body

pub connected_at-returns : goal.connected_at-returns
connected_at-returns = inspections.connected_at-returns

pub compound-returns-in_err-next : goal.compound-returns-in_err-next
compound-returns-in_err-next = sequences.compound-returns-in_err-next

pub compound-returns-in_err-declarations : goal.compound-returns-in_err-declarations
compound-returns-in_err-declarations = sequences.compound-returns-in_err-declarations

pub compound-returns-in_err-sequence : goal.compound-returns-in_err-sequence
compound-returns-in_err-sequence = sequences.compound-returns-in_err-sequence

pub compound-returns : goal.compound-returns
compound-returns = sequences.compound-returns

pub declarations-loop-list-init : goal.declarations-loop-list-init
declarations-loop-list-init = declarations.declarations-loop-list-init

pub declarations-returns-in_err-declared : goal.declarations-returns-in_err-declared
declarations-returns-in_err-declared = declarations.declarations-returns-in_err-declared

pub declarations-loop-list-preserved : goal.declarations-loop-list-preserved
declarations-loop-list-preserved = declarations.declarations-loop-list-preserved

pub declarations-returns : goal.declarations-returns
declarations-returns = declarations.declarations-returns

pub declaration-returns-in_err-prefix : goal.declaration-returns-in_err-prefix
declaration-returns-in_err-prefix = declarations.declaration-returns-in_err-prefix

pub declaration-returns-in_err-next : goal.declaration-returns-in_err-next
declaration-returns-in_err-next = declarations.declaration-returns-in_err-next

pub declaration-returns-in_err-class : goal.declaration-returns-in_err-class
declaration-returns-in_err-class = declarations.declaration-returns-in_err-class

pub declaration-returns-in_err-end : goal.declaration-returns-in_err-end
declaration-returns-in_err-end = declarations.declaration-returns-in_err-end

pub declaration-returns-in-Some : goal.declaration-returns-in-Some
declaration-returns-in-Some = declarations.declaration-returns-in-Some

pub declaration-returns-then-not-begins_declaration : goal.declaration-returns-then-not-begins_declaration
declaration-returns-then-not-begins_declaration = declarations.declaration-returns-then-not-begins_declaration

pub declaration-returns-in_err-declared : goal.declaration-returns-in_err-declared
declaration-returns-in_err-declared = declarations.declaration-returns-in_err-declared

pub declaration-returns-in_err-end-2 : goal.declaration-returns-in_err-end-2
declaration-returns-in_err-end-2 = declarations.declaration-returns-in_err-end-2

pub declaration-returns : goal.declaration-returns
declaration-returns = declarations.declaration-returns

pub plain_declaration-returns-in_err-procedure : goal.plain_declaration-returns-in_err-procedure
plain_declaration-returns-in_err-procedure = declarations.plain_declaration-returns-in_err-procedure

pub plain_declaration-returns-in-Some : goal.plain_declaration-returns-in-Some
plain_declaration-returns-in-Some = declarations.plain_declaration-returns-in-Some

pub plain_declaration-returns-in_err-class : goal.plain_declaration-returns-in_err-class
plain_declaration-returns-in_err-class = declarations.plain_declaration-returns-in_err-class

pub plain_declaration-returns-in-Some-eat : goal.plain_declaration-returns-in-Some-eat
plain_declaration-returns-in-Some-eat = declarations.plain_declaration-returns-in-Some-eat

pub plain_declaration-returns-in_err-name : goal.plain_declaration-returns-in_err-name
plain_declaration-returns-in_err-name = declarations.plain_declaration-returns-in_err-name

pub plain_declaration-returns : goal.plain_declaration-returns
plain_declaration-returns = declarations.plain_declaration-returns

pub typed_declaration-returns-in_err-procedure : goal.typed_declaration-returns-in_err-procedure
typed_declaration-returns-in_err-procedure = declarations.typed_declaration-returns-in_err-procedure

pub typed_declaration-returns-in-Some : goal.typed_declaration-returns-in-Some
typed_declaration-returns-in-Some = declarations.typed_declaration-returns-in-Some

pub typed_declaration-returns-in_err-segments : goal.typed_declaration-returns-in_err-segments
typed_declaration-returns-in_err-segments = declarations.typed_declaration-returns-in_err-segments

pub typed_declaration-returns-in-Some-eat : goal.typed_declaration-returns-in-Some-eat
typed_declaration-returns-in-Some-eat = declarations.typed_declaration-returns-in-Some-eat

pub typed_declaration-returns-in_err-expect : goal.typed_declaration-returns-in_err-expect
typed_declaration-returns-in_err-expect = declarations.typed_declaration-returns-in_err-expect

pub typed_declaration-returns-in_err-variables : goal.typed_declaration-returns-in_err-variables
typed_declaration-returns-in_err-variables = declarations.typed_declaration-returns-in_err-variables

pub typed_declaration-returns : goal.typed_declaration-returns
typed_declaration-returns = declarations.typed_declaration-returns

pub procedure-returns-in_err-name : goal.procedure-returns-in_err-name
procedure-returns-in_err-name = declarations.procedure-returns-in_err-name

pub procedure-returns-in_err-heading : goal.procedure-returns-in_err-heading
procedure-returns-in_err-heading = declarations.procedure-returns-in_err-heading

pub procedure-returns-in_err-body : goal.procedure-returns-in_err-body
procedure-returns-in_err-body = declarations.procedure-returns-in_err-body

pub procedure-returns : goal.procedure-returns
procedure-returns = declarations.procedure-returns

pub class-returns-in_err-name : goal.class-returns-in_err-name
class-returns-in_err-name = declarations.class-returns-in_err-name

pub class-returns-in_err-heading : goal.class-returns-in_err-heading
class-returns-in_err-heading = declarations.class-returns-in_err-heading

pub class-returns-in_err-protections : goal.class-returns-in_err-protections
class-returns-in_err-protections = declarations.class-returns-in_err-protections

pub class-returns-in_err-virtuals : goal.class-returns-in_err-virtuals
class-returns-in_err-virtuals = declarations.class-returns-in_err-virtuals

pub class-returns-in_err-body : goal.class-returns-in_err-body
class-returns-in_err-body = declarations.class-returns-in_err-body

pub class-returns : goal.class-returns
class-returns = declarations.class-returns

pub sequence_at-returns-in-Some : goal.sequence_at-returns-in-Some
sequence_at-returns-in-Some = sequences.sequence_at-returns-in-Some

pub sequence_at-returns-then-not-begins_statement : goal.sequence_at-returns-then-not-begins_statement
sequence_at-returns-then-not-begins_statement = sequences.sequence_at-returns-then-not-begins_statement

pub sequence_at-returns-in_err-statements : goal.sequence_at-returns-in_err-statements
sequence_at-returns-in_err-statements = sequences.sequence_at-returns-in_err-statements

pub sequence_at-returns-in_err-next : goal.sequence_at-returns-in_err-next
sequence_at-returns-in_err-next = sequences.sequence_at-returns-in_err-next

pub sequence_at-returns : goal.sequence_at-returns
sequence_at-returns = sequences.sequence_at-returns

pub statements-returns-in_err-first : goal.statements-returns-in_err-first
statements-returns-in_err-first = sequences.statements-returns-in_err-first

pub statements-loop-next-init : goal.statements-loop-next-init
statements-loop-next-init = sequences.statements-loop-next-init

pub statements-returns-in_err-following : goal.statements-returns-in_err-following
statements-returns-in_err-following = sequences.statements-returns-in_err-following

pub statements-loop-next-preserved : goal.statements-loop-next-preserved
statements-loop-next-preserved = sequences.statements-loop-next-preserved

pub statements-returns : goal.statements-returns
statements-returns = sequences.statements-returns

pub when_arms-loop-arms-smaller : goal.when_arms-loop-arms-smaller
when_arms-loop-arms-smaller = inspections.when_arms-loop-arms-smaller

pub when_arm-connected_at-requires : goal.when_arm-connected_at-requires
when_arm-connected_at-requires = inspections.when_arm-connected_at-requires

pub compound-declarations-requires : goal.compound-declarations-requires
compound-declarations-requires = sequences.compound-declarations-requires

pub compound-sequence_at-requires : goal.compound-sequence_at-requires
compound-sequence_at-requires = sequences.compound-sequence_at-requires

pub plain_declaration-typed_declaration-requires : goal.plain_declaration-typed_declaration-requires
plain_declaration-typed_declaration-requires = declarations.plain_declaration-typed_declaration-requires

pub procedure-heading_at-requires : goal.procedure-heading_at-requires
procedure-heading_at-requires = declarations.procedure-heading_at-requires

pub class-heading_at-requires : goal.class-heading_at-requires
class-heading_at-requires = declarations.class-heading_at-requires

pub procedure-statement-requires : goal.procedure-statement-requires
procedure-statement-requires = declarations.procedure-statement-requires

pub class-protections-requires : goal.class-protections-requires
class-protections-requires = declarations.class-protections-requires

pub class-virtuals-requires : goal.class-virtuals-requires
class-virtuals-requires = declarations.class-virtuals-requires

pub class-statement-requires : goal.class-statement-requires
class-statement-requires = declarations.class-statement-requires
