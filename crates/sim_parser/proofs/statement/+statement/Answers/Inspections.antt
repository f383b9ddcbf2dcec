-- Connections and their arms.
use Rattle.std.proofs.Common.{true, false, [], refl, map, sym, ap, ◌∙◌, arith}
use Rattle.sim_base.specs.declared.token.TokenKind.TheVariants as k
use Rattle.sim_expr_parser.proofs.Steps.{exit, kept, once, opened, stops-at, to, row-end, row-more, row-start, row-stops}
use Rattle.sim_expr_parser.proofs.Tables.{by_test, just_is, one_row}
use Rattle.sim_expr_parser.proofs.Tokens.{made_is, took_one}
use Rattle.sim_parser.proofs.Exits.{here, here_kept, here_part, out, out_part, past_kept, past_part, past_to, rest}
use Rattle.sim_parser.proofs.Along.{all, along, along-ends, along-stops, closed-by, left, past}
use Rattle.sim_parser.proofs.BlockShapes.{inspect_derivation, inspect_when_derivation}
use Rattle.sim_parser.proofs.BlockSteps.{at_place, many_of_one, many_reads, many_stops, part_ahead, unexpected}
use Rattle.sim_parser.proofs.BlockTables.{arm_row, arms_do, arms_row, arms_when, no_arms, no_do}
use Rattle.sim_parser.specs.Parsing.{GivesAll, GivesPart, connection_row, connection_derivation, branch_derivation, inspect_row}
use Rattle.sim_parser.specs.declared.statement.Branch.TheVariants as branch
use Rattle.sim_tree.proofs.StatementLemmas.{derivation-when}
use Rattle.sim_tree.specs.Grammar as g
use Rattle.sim_tree.specs.Grammar.{Once, is, just}
use Rattle.sim_tree.specs.Reading.{done, kind_at, reads-done}
use Rattle.sim_tree.specs.Derivation.{row}
use Rattle.sim_tree.specs.ProgramDerivation.{statement_derivation, when_derivation}
use Rattle.sim_tree.specs.declared.stmt.Stmt.TheVariants as s
use Rattle.sim_parser.proofs.statement.+statement.Goals as goal

pub inspect_statement-returns-in_err-next : goal.inspect_statement-returns-in_err-next
inspect_statement-returns-in_err-next u c =
    let r = c.from_residual in
    out c.args.source.now c.args.depth inspect_row c.args.at statement_derivation r.result c.in_err-next.field-0.0 r.ensures.1
    (here_kept c.in_err-next.ensures)

pub inspect_statement-returns-in_err-object : goal.inspect_statement-returns-in_err-object
inspect_statement-returns-in_err-object u c =
    let r = c.from_residual-in_err-object in
    out c.args.source.now c.args.depth inspect_row c.args.at statement_derivation r.result c.in_err-object.field-0.0 r.ensures.1
    (past_kept c.in_ok-next.ensures (here_part c.in_err-object.ensures))

pub inspect_statement-returns-in_err-connection : goal.inspect_statement-returns-in_err-connection
inspect_statement-returns-in_err-connection u c =
    let ws = c.args.source.now in
    let d = c.args.depth in
    let i = c.args.at in
    let w0 = along d i inspect_row c.requires.within in
    let w1 = past w0 (kept i refl (took_one ws i c.in_ok-next.next k.Inspect refl c.in_ok-next.ensures)) in
    let w2 = past w1 (once c.in_ok-object.ensures.1) in
    let j = c.in_ok-object.next in
    let h = ap (λ z. is z k.Do) (sym c.kind_at.ensures) ∙ made_is _ _ true c.if-eq.ensures in
    let m0 = opened ws d j g.Arms connection_row refl (by_test g.Arms (kind_at ws j) k.Do connection_row h arms_do) w2.within in
    let e = c.in_err-connection.field-0.0 in
    let r = c.from_residual-in_err-connection in
    exit (λ r. GivesAll ws d inspect_row i statement_derivation r) r.result e r.ensures.1
    (along-stops w2 e (stops-at Once m0 e c.in_err-connection.ensures))

pub inspect_statement-returns-in_err-otherwise : goal.inspect_statement-returns-in_err-otherwise
inspect_statement-returns-in_err-otherwise u c =
    let ws = c.args.source.now in
    let d = c.args.depth in
    let i = c.args.at in
    let w0 = along d i inspect_row c.requires.within in
    let w1 = past w0 (kept i refl (took_one ws i c.in_ok-next.next k.Inspect refl c.in_ok-next.ensures)) in
    let w2 = past w1 (once c.in_ok-object.ensures.1) in
    let j = c.in_ok-object.next in
    let h = ap (λ z. is z k.Do) (sym c.kind_at.ensures) ∙ made_is _ _ true c.if-eq.ensures in
    let m0 = opened ws d j g.Arms connection_row refl (by_test g.Arms (kind_at ws j) k.Do connection_row h arms_do) w2.within in
    let w3 = past w2 (once (closed-by m0 (connection_derivation c.in_ok-connection.connection) c.in_ok-connection.ensures (connection_derivation c.in_ok-connection.connection) refl)) in
    let e = c.in_err-otherwise.field-0.0 in
    let r = c.from_residual-in_err-otherwise in
    exit (λ r. GivesAll ws d inspect_row i statement_derivation r) r.result e r.ensures.1
    (along-ends w3 e c.in_err-otherwise.ensures)

pub inspect_statement-returns-then-eq : goal.inspect_statement-returns-then-eq
inspect_statement-returns-then-eq u c =
    let ws = c.args.source.now in
    let d = c.args.depth in
    let i = c.args.at in
    let n = c.token_no-token.result in
    let w0 = along d i inspect_row c.requires.within in
    let w1 = past w0 (kept n.0 c.token_no-token.ensures (took_one ws i c.in_ok-next.next k.Inspect refl c.in_ok-next.ensures)) in
    let w2 = past w1 (once c.in_ok-object.ensures.1) in
    let j = c.in_ok-object.next in
    let h = ap (λ z. is z k.Do) (sym c.kind_at.ensures) ∙ made_is _ _ true c.if-eq.ensures in
    let m0 = opened ws d j g.Arms connection_row refl (by_test g.Arms (kind_at ws j) k.Do connection_row h arms_do) w2.within in
    let w3 = past w2 (once (closed-by m0 (connection_derivation c.in_ok-connection.connection) c.in_ok-connection.ensures (connection_derivation c.in_ok-connection.connection) refl)) in
    let a = c.in_ok-body.body in
    let o = c.in_ok-otherwise.otherwise in
    let x = c.in_ok-object.object in
    let b = c.in_ok-connection.connection in
    left w3 (branch_derivation branch.Otherwise o) c.in_ok-otherwise.ensures (statement_derivation (s.Inspect n x b.opening a b.end o)) (inspect_derivation n x b.opening b.body b.end a o c.in_ok-body.ensures.ok)

pub inspect_statement-returns-in_err-arms : goal.inspect_statement-returns-in_err-arms
inspect_statement-returns-in_err-arms u c =
    let r = c.from_residual-in_err-arms in
    out c.args.source.now c.args.depth inspect_row c.args.at statement_derivation r.result c.in_err-arms.field-0.0 r.ensures.1
    (past_kept c.in_ok-next.ensures (past_part c.in_ok-object.ensures.1 (here_part c.in_err-arms.ensures)))

pub inspect_statement-returns-in_err-otherwise-2 : goal.inspect_statement-returns-in_err-otherwise-2
inspect_statement-returns-in_err-otherwise-2 u c =
    let r = c.from_residual-in_err-otherwise-2 in
    out c.args.source.now c.args.depth inspect_row c.args.at statement_derivation r.result c.in_err-otherwise-2.field-0.0 r.ensures.1
    (past_kept c.in_ok-next.ensures (past_part c.in_ok-object.ensures.1 (past_part c.in_ok-arms.ensures (rest c.in_err-otherwise-2.ensures))))

pub inspect_statement-returns : goal.inspect_statement-returns
inspect_statement-returns u c =
    let ws = c.args.source.now in
    let d = c.args.depth in
    let i = c.args.at in
    let n = c.token_no-token.result in
    let w0 = along d i inspect_row c.requires.within in
    let w1 = past w0 (kept n.0 c.token_no-token.ensures (took_one ws i c.in_ok-next.next k.Inspect refl c.in_ok-next.ensures)) in
    let w2 = past w1 (once c.in_ok-object.ensures.1) in
    let w3 = past w2 (once c.in_ok-arms.ensures) in
    let o = c.in_ok-otherwise-2.otherwise in
    let x = c.in_ok-object.object in
    let v = c.in_ok-arms.arms in
    left w3 (branch_derivation branch.Otherwise o) c.in_ok-otherwise-2.ensures (statement_derivation (s.InspectWhen n x v o)) (inspect_when_derivation n x v o)

pub when_arms-returns-in_err-expect : goal.when_arms-returns-in_err-expect
when_arms-returns-in_err-expect u c =
    let ws = c.args.source.now in
    let d = c.args.depth in
    let i = c.args.start in
    let e = c.in_err-expect.field-0.0 in
    let r = c.from_residual in
    exit (λ r. GivesPart ws d g.Arms i (λ v. row g.WhenArm (map when_derivation v.items) done) r) r.result e r.ensures.1
    (unexpected ws d i g.Arms e c.in_err-expect.ensures.1 (no_arms (kind_at ws i) (no_do (kind_at ws i) c.requires.no_do) c.in_err-expect.ensures.0))

pub when_arms-loop-arms-init : goal.when_arms-loop-arms-init
when_arms-loop-arms-init u c =
    let ws = c.args.source.now in
    let d = c.args.depth in
    let i = c.args.start in
    record {
      goes = row-start when_derivation c.new-arms.result.items c.new-arms.ensures.items;
      ahead = omega arith;
      within = c.requires.within;
    }

pub when_arms-returns-in_err-arm : goal.when_arms-returns-in_err-arm
when_arms-returns-in_err-arm u c =
    let ws = c.args.source.now in
    let l = c.loop-arms in
    let at = ap (λ z. is z k.When) (sym c.kind_at.ensures) ∙ made_is _ _ true c.loop-arms-test.ensures in
    let e = c.in_err-arm.field-0.0 in
    let r = c.from_residual-in_err-arm in
    out_part ws c.args.depth c.args.start g.Arms arms_row refl (by_test g.Arms (kind_at ws c.args.start) k.When arms_row c.in_ok-expect.ensures.0 arms_when) c.requires.within (λ v. row g.WhenArm (map when_derivation v.items) done) r.result e r.ensures.1
    (rest (many_stops ws c.args.depth c.args.start g.WhenArm arm_row [] (one_row g.WhenArm (just k.When) arm_row (kind_at ws c.args.start) true refl (just_is _ _ _ c.in_ok-expect.ensures.0)) e (row-stops ws c.args.depth c.args.start l.at g.WhenArm _ l.invariant.goes e (many_of_one ws c.args.depth l.at g.WhenArm arm_row (one_row g.WhenArm (just k.When) arm_row (kind_at ws l.at) true refl (just_is _ _ _ at)) e c.in_err-arm.ensures) [])))

pub when_arms-loop-arms-preserved : goal.when_arms-loop-arms-preserved
when_arms-loop-arms-preserved u c =
    let ws = c.args.source.now in
    let d = c.args.depth in
    let i = c.args.start in
    let l = c.loop-arms in
    let p = c.in_ok-arm.ensures in
    record {
      goes = row-more when_derivation l.arms.items c.push.new.self.items c.in_ok-arm.arm (when_derivation c.in_ok-arm.arm) l.invariant.goes p c.in_ok-push.ensures.items refl;
      ahead = omega (arith, l.invariant.ahead, p.ahead);
      within = p.within;
    }

pub when_arms-returns : goal.when_arms-returns
when_arms-returns u c =
    let ws = c.args.source.now in
    let d = c.args.depth in
    let i = c.args.start in
    let l = c.loop-arms in
    let h = c.in_ok-expect.ensures.0 in
    let w0 = opened ws d i g.Arms arms_row refl (by_test g.Arms (kind_at ws i) k.When arms_row h arms_when) c.requires.within in
    let fs = map when_derivation l.arms.items in
    let no = ap (λ z. is z k.When) (sym c.kind_at.ensures) ∙ made_is _ _ false c.loop-arms-test.ensures in
    let to_end = row-end when_derivation l.arms.items l.invariant.goes (one_row g.WhenArm (just k.When) arm_row (kind_at ws l.at) false refl (just_is _ _ _ no)) l.invariant.ahead l.invariant.within in
    let read = to_end.reads [] done l.at reads-done in
    closed-by w0 (row g.WhenArm fs done) (record { reads = many_reads (one_row g.WhenArm (just k.When) arm_row (kind_at ws i) true refl (just_is _ _ _ h)) read; ahead = l.invariant.ahead; within = l.invariant.within }) (row g.WhenArm fs done) refl

pub when_arm-returns-in_err-next : goal.when_arm-returns-in_err-next
when_arm-returns-in_err-next u c =
    let ws = c.args.source.now in
    let d = c.args.depth in
    let i = c.args.at in
    let e = c.in_err-next.field-0.0 in
    let r = c.from_residual in
    exit (λ r. GivesPart ws d g.WhenArm i when_derivation r) r.result e r.ensures.1
    (unexpected ws d i g.WhenArm e c.in_err-next.ensures.1 (one_row g.WhenArm (just k.When) arm_row (kind_at ws i) false refl (just_is _ _ _ c.in_err-next.ensures.0)))

pub when_arm-returns-in_err-class : goal.when_arm-returns-in_err-class
when_arm-returns-in_err-class u c =
    let r = c.from_residual-in_err-class in
    out_part c.args.source.now c.args.depth c.args.at g.WhenArm arm_row refl (one_row g.WhenArm (just k.When) arm_row (kind_at c.args.source.now c.args.at) true refl (just_is _ _ _ c.in_ok-next.ensures.0)) c.requires.within when_derivation r.result c.in_err-class.field-0.0 r.ensures.1
    (past_kept c.in_ok-next.ensures (here (c.in_err-class.ensures c.args.depth)))

pub when_arm-returns-in_err-connection : goal.when_arm-returns-in_err-connection
when_arm-returns-in_err-connection u c =
    let r = c.from_residual-in_err-connection in
    out_part c.args.source.now c.args.depth c.args.at g.WhenArm arm_row refl (one_row g.WhenArm (just k.When) arm_row (kind_at c.args.source.now c.args.at) true refl (just_is _ _ _ c.in_ok-next.ensures.0)) c.requires.within when_derivation r.result c.in_err-connection.field-0.0 r.ensures.1
    (past_kept c.in_ok-next.ensures (past_to (c.in_ok-class.ensures c.args.depth) (rest c.in_err-connection.ensures)))

pub when_arm-returns : goal.when_arm-returns
when_arm-returns u c =
    let ws = c.args.source.now in
    let d = c.args.depth in
    let i = c.args.at in
    let n = c.token_no-token.result in
    let m0 = opened ws d i g.WhenArm arm_row refl (one_row g.WhenArm (just k.When) arm_row (kind_at ws i) true refl (just_is _ _ _ c.in_ok-next.ensures.0)) c.requires.within in
    let m1 = to m0 (kept n.0 c.token_no-token.ensures (took_one ws i c.in_ok-next.next k.When refl c.in_ok-next.ensures)) in
    let m2 = to m1 (c.in_ok-class.ensures d) in
    let b = c.in_ok-connection.connection in
    closed-by m2 (connection_derivation b) c.in_ok-connection.ensures _ (sym (derivation-when n c.in_ok-class.class b.opening b.body b.end))

pub connected_at-returns-in_err-next : goal.connected_at-returns-in_err-next
connected_at-returns-in_err-next u c =
    let r = c.from_residual in
    out c.args.source.now c.args.depth connection_row c.args.at connection_derivation r.result c.in_err-next.field-0.0 r.ensures.1
    (here_kept c.in_err-next.ensures)

pub connected_at-returns-in_err-body : goal.connected_at-returns-in_err-body
connected_at-returns-in_err-body u c =
    let r = c.from_residual-in_err-body in
    out c.args.source.now c.args.depth connection_row c.args.at connection_derivation r.result c.in_err-body.field-0.0 r.ensures.1
    (past_kept c.in_ok-next.ensures (here_part c.in_err-body.ensures))

pub connected_at-returns : goal.connected_at-returns
connected_at-returns u c =
    let ws = c.args.source.now in
    let d = c.args.depth in
    let i = c.args.at in
    let n = c.token_no-opening.result in
    let m = c.token_no-end.result in
    let w0 = along d i connection_row c.requires.within in
    let w1 = past w0 (kept n.0 c.token_no-opening.ensures (took_one ws i c.in_ok-next.next k.Do refl c.in_ok-next.ensures)) in
    let w2 = past w1 (once c.in_ok-body.ensures) in
    all (past w2 (at_place m.0 c.token_no-end.ensures w2.within)) _ refl

pub when_arms-loop-arms-smaller : goal.when_arms-loop-arms-smaller
when_arms-loop-arms-smaller u c =
    let ws = c.args.source.now in
    let d = c.args.depth in
    let i = c.args.start in
    let p = c.in_ok-arm.ensures in
    omega (arith, part_ahead ws d c.loop-arms.at c.in_ok-arm.next g.WhenArm _ refl p, p.within)

pub when_arm-connected_at-requires : goal.when_arm-connected_at-requires
when_arm-connected_at-requires u c =
    let q = c.in_ok-class.ensures 0 in
    (omega (arith, c.decreases), (q.within, c.requires.shallow))
