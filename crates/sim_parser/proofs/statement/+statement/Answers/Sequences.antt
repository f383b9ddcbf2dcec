-- Compounds, and sequences of statements.
use Rattle.std.proofs.Common.{◌≡◌, length, true, false, [], ◌∷◌, refl, map, sym, ap, ◌∙◌, subst, arith, ◌++◌, length-append}
use Rattle.sim_base.specs.declared.token.TokenKind.TheVariants as k
use Rattle.sim_expr_parser.proofs.Shapes.{some-mapped}
use Rattle.sim_expr_parser.proofs.Steps.{exit, gone, kept, marked, once, once-stops, opened, stops-in, to, leads-stops}
use Rattle.sim_expr_parser.proofs.Tables.{by_test, just_is, one_row}
use Rattle.sim_expr_parser.proofs.Tokens.{took_one}
use Rattle.sim_expr_parser.specs.Parsing.{Stops}
use Rattle.sim_expr_parser.specs.declared.refusal.Stop.TheVariants as stop
use Rattle.sim_parser.proofs.Exits.{here_part, out_part, past_kept, past_to}
use Rattle.sim_parser.proofs.BlockShapes.{contents_declared, statements-more}
use Rattle.sim_parser.proofs.BlockSteps.{sequence_reads, sequence_stops, unexpected}
use Rattle.sim_parser.proofs.BlockTables.{block_ends, compound_row, end_row, next_row, no_block, or_left, or_right}
use Rattle.sim_parser.specs.Parsing.{GivesPart, begins, GivesStatements, statement_list, statements_then}
use Rattle.sim_tree.proofs.StatementLemmas.{derivation-block}
use Rattle.sim_tree.proofs.Steps.{leads-as, past-one, start}
use Rattle.sim_tree.specs.Claim.{one}
use Rattle.sim_tree.specs.Grammar as g
use Rattle.sim_tree.specs.Grammar.{Many, Of, is, just, one_of, begins_statement}
use Rattle.sim_tree.specs.Reading.{done, node, kind_at, Unexpected, reads-done, reads-skip, after-skip, fails-kept, fails-part, bare_leaf}
use Rattle.sim_tree.specs.ProgramDerivation.{block_derivation, statement_derivation, declaration_derivation, next_statement, statements as statements_derivation}
use Rattle.sim_parser.proofs.statement.+statement.Goals as goal

pub compound-returns-in_err-next : goal.compound-returns-in_err-next
compound-returns-in_err-next u c =
    let ws = c.args.source.now in
    let d = c.args.depth in
    let i = c.args.at in
    let e = c.in_err-next.field-0.0 in
    let r = c.from_residual in
    exit (λ r. GivesPart ws d g.Compound i block_derivation r) r.result e r.ensures.1
    (unexpected ws d i g.Compound e c.in_err-next.ensures.1 (one_row g.Compound (just k.Begin) compound_row (kind_at ws i) false refl (just_is _ _ _ c.in_err-next.ensures.0)))

pub compound-returns-in_err-declarations : goal.compound-returns-in_err-declarations
compound-returns-in_err-declarations u c =
    let r = c.from_residual-in_err-declarations in
    out_part c.args.source.now c.args.depth c.args.at g.Compound compound_row refl (one_row g.Compound (just k.Begin) compound_row (kind_at c.args.source.now c.args.at) true refl (just_is _ _ _ c.in_ok-next.ensures.0)) c.requires.within block_derivation r.result c.in_err-declarations.field-0.0 r.ensures.1
    (past_kept c.in_ok-next.ensures (past_to (c.past_semicolons-next.ensures c.args.depth) (here_part c.in_err-declarations.ensures)))

pub compound-returns-in_err-sequence : goal.compound-returns-in_err-sequence
compound-returns-in_err-sequence u c =
    let r = c.from_residual-in_err-sequence in
    out_part c.args.source.now c.args.depth c.args.at g.Compound compound_row refl (one_row g.Compound (just k.Begin) compound_row (kind_at c.args.source.now c.args.at) true refl (just_is _ _ _ c.in_ok-next.ensures.0)) c.requires.within block_derivation r.result c.in_err-sequence.field-0.0 r.ensures.1
    (past_kept c.in_ok-next.ensures (past_to (c.past_semicolons-next.ensures c.args.depth) (here_part (c.in_ok-declarations.ensures.0.fails c.in_err-sequence.field-0.0 c.in_err-sequence.ensures))))

pub compound-returns : goal.compound-returns
compound-returns u c =
    let ws = c.args.source.now in
    let d = c.args.depth in
    let i = c.args.at in
    let n = c.token_no-token.result in
    let w0 = opened ws d i g.Compound compound_row refl (one_row g.Compound (just k.Begin) compound_row (kind_at ws i) true refl (just_is _ _ _ c.in_ok-next.ensures.0)) c.requires.within in
    let w1 = to w0 (kept n.0 c.token_no-token.ensures (took_one ws i c.in_ok-next.next k.Begin refl c.in_ok-next.ensures)) in
    let w2 = to w1 (c.past_semicolons-next.ensures d) in
    let ds = c.in_ok-declarations.declarations in
    let q = c.in_ok-sequence.sequence in
    let p = c.in_ok-declarations.ensures.0.reads _ _ c.in_ok-sequence.ensures in
    let fs = map statement_derivation q.statements.items in
    gone (to w2 (once p)) _
    (ap (λ z. bare_leaf n.0 k.Begin (node g.Block z done)) (contents_declared (map declaration_derivation ds.items) fs q.end.0) ∙ sym (derivation-block n ds q.statements q.end))

pub sequence_at-returns-in-Some : goal.sequence_at-returns-in-Some
sequence_at-returns-in-Some u c =
    let ws = c.args.source.now in
    let d = c.args.depth in
    let i = c.args.at in
    let w = c.in-Some.ensures in
    let n = c.token_no-end.result in
    let w0 = opened ws d i g.Block end_row refl (by_test g.Block (kind_at ws i) k.End end_row w.0 block_ends) c.requires.within in
    let w1 = to w0 (kept n.0 c.token_no-end.ensures (took_one ws i c.in-Some.next k.End refl w)) in
    gone w1 _ (ap (λ z. statements_derivation (map statement_derivation z) n.0) (sym c.new-statements.ensures.items))

pub sequence_at-returns-then-not-begins_statement : goal.sequence_at-returns-then-not-begins_statement
sequence_at-returns-then-not-begins_statement u c =
    let ws = c.args.source.now in
    let d = c.args.depth in
    let i = c.args.at in
    let b = ap (one_of begins) (sym c.kind_at.ensures) ∙ sym c.if-not-begins_statement.ensures in
    let a = kind_at ws i in
    fails-part (no_block a c.requires.no_declaration.plain (or_left (is a k.Identifier) (one_of begins_statement a) b) c.in_default.ensures (or_right (is a k.Identifier) (one_of begins_statement a) b)) refl

pub sequence_at-returns-in_err-statements : goal.sequence_at-returns-in_err-statements
sequence_at-returns-in_err-statements u c =
    let ws = c.args.source.now in
    let d = c.args.depth in
    let i = c.args.at in
    let b = ap (one_of begins) (sym c.kind_at.ensures) ∙ sym c.if-not-begins_statement.ensures in
    let e = c.in_err-statements.field-0.0 in
    let r = c.from_residual in
    exit (λ r. GivesPart ws d g.Block i (λ s. statements_derivation (map statement_derivation s.statements.items) s.end.0) r) r.result e r.ensures.1
    (sequence_stops ws d i c.requires.no_declaration b c.in_default.ensures e (c.in_err-statements.ensures end_row))

pub sequence_at-returns-in_err-next : goal.sequence_at-returns-in_err-next
sequence_at-returns-in_err-next u c =
    let ws = c.args.source.now in
    let d = c.args.depth in
    let i = c.args.at in
    let b = ap (one_of begins) (sym c.kind_at.ensures) ∙ sym c.if-not-begins_statement.ensures in
    let j = c.in_ok-statements.next in
    let e = c.in_err-next.field-0.0 in
    let r = c.from_residual-in_err-next in
    exit (λ r. GivesPart ws d g.Block i (λ s. statements_derivation (map statement_derivation s.statements.items) s.end.0) r) r.result e r.ensures.1
    (subst (λ z. Stops ws d (one g.Block) i z) (sym c.in_err-next.ensures.1) (sequence_stops ws d i c.requires.no_declaration b c.in_default.ensures (stop.Unexpected j) (c.in_ok-statements.ensures.1.fails end_row (Unexpected j) (fails-kept (just_is _ _ _ c.in_err-next.ensures.0)))))

pub sequence_at-returns : goal.sequence_at-returns
sequence_at-returns u c =
    let ws = c.args.source.now in
    let d = c.args.depth in
    let i = c.args.at in
    let b = ap (one_of begins) (sym c.kind_at.ensures) ∙ sym c.if-not-begins_statement.ensures in
    let j = c.in_ok-statements.next in
    let n = c.token_no-end-2.result in
    let q = c.in_ok-statements.ensures in
    let v = c.in_ok-statements.statements in
    let w = c.in_ok-next.ensures in
    let read = (kept {ws = ws} {d = d} n.0 c.token_no-end-2.ensures (took_one ws j c.in_ok-next.next k.End refl w)).reads [] done c.in_ok-next.next reads-done in
    sequence_reads ws d i c.requires.no_declaration b c.in_default.ensures (map statement_derivation v.items) n.0 (some-mapped statement_derivation v.items q.0) (q.1.reads end_row (bare_leaf n.0 k.End done) c.in_ok-next.next read) (omega (arith, q.1.ahead, w.1)) w.2

pub statements-returns-in_err-first : goal.statements-returns-in_err-first
statements-returns-in_err-first u c =
    let ws = c.args.source.now in
    let d = c.args.depth in
    let i = c.args.start in
    let e = c.in_err-first.field-0.0 in
    let r = c.from_residual in
    exit (λ r. GivesStatements ws d i r) r.result e r.ensures.1
    (λ s. once-stops ws d i g.Statement e c.in_err-first.ensures (Of Many g.NextStatement ∷ s))

pub statements-loop-next-init : goal.statements-loop-next-init
statements-loop-next-init u c =
    let ws = c.args.source.now in
    let d = c.args.depth in
    let i = c.args.start in
    let x = c.in_ok-first.first in
    let p = c.in_ok-first.ensures in
    let items : c.push.new.self.items ≡ x ∷ [] = c.in_ok-push.ensures.items ∙ ap (λ l. l ++ x ∷ []) c.new-list.ensures.items in
    record {
      goes = λ s. leads-as (λ f. node g.Statement (statement_derivation x) f) (statement_list (map statement_derivation c.push.new.self.items)) (λ f. ap (λ l. statement_list (map statement_derivation l) f) (sym items))
          (past-one (start d (statements_then s) i) p);
      some = omega (arith, ap length items);
      ahead = p.ahead;
      within = p.within;
    }

pub statements-returns-in_err-following : goal.statements-returns-in_err-following
statements-returns-in_err-following u c =
    let ws = c.args.source.now in
    let d = c.args.depth in
    let i = c.args.start in
    let l = c.loop-next in
    let at = l.at in
    let w = c.in-Some.ensures in
    let m0 = opened ws d at g.NextStatement next_row refl (one_row g.NextStatement (just k.Semicolon) next_row (kind_at ws at) true refl (just_is _ _ _ w.0)) l.invariant.within in
    let m1 = to m0 (marked w) in
    let e = c.in_err-following.field-0.0 in
    let r = c.from_residual-in_err-following in
    exit (λ r. GivesStatements ws d i r) r.result e r.ensures.1
    (λ s. leads-stops (l.invariant.goes s) e (stops-in Many m1 e (once-stops ws d c.in-Some.next g.Statement e c.in_err-following.ensures) s))

pub statements-loop-next-preserved : goal.statements-loop-next-preserved
statements-loop-next-preserved u c =
    let ws = c.args.source.now in
    let d = c.args.depth in
    let i = c.args.start in
    let l = c.loop-next in
    let at = l.at in
    let w = c.in-Some.ensures in
    let m0 = opened ws d at g.NextStatement next_row refl (one_row g.NextStatement (just k.Semicolon) next_row (kind_at ws at) true refl (just_is _ _ _ w.0)) l.invariant.within in
    let m1 = to m0 (marked w) in
    let x = c.in_ok-following.following in
    let p = c.in_ok-following.ensures in
    let items = c.in_ok-push-2.ensures.items in
    let part = gone (to m1 (once p)) (next_statement (statement_derivation x)) refl in
    record {
      goes = λ s. leads-as (λ h. statement_list (map statement_derivation l.list.items) (node g.NextStatement (next_statement (statement_derivation x)) h)) (statement_list (map statement_derivation c.push-in-Some.new.self.items)) (λ h. statements-more l.list.items c.push-in-Some.new.self.items x h l.invariant.some items)
          (past-one (l.invariant.goes s) part);
      some = omega (arith, ap length items, length-append l.list.items (x ∷ []));
      ahead = omega (arith, l.invariant.ahead, w.1, p.ahead);
      within = p.within;
    }

pub statements-returns : goal.statements-returns
statements-returns u c =
    let ws = c.args.source.now in
    let d = c.args.depth in
    let i = c.args.start in
    let l = c.loop-next in
    let none = one_row g.NextStatement (just k.Semicolon) next_row (kind_at ws l.at) false refl (just_is _ _ _ c.in_default.ensures) in (
      l.invariant.some,
      record {
        reads = λ s f m q. (l.invariant.goes s).reads f m (reads-skip none refl q);
        fails = λ s e q. (l.invariant.goes s).fails e (after-skip none refl q);
        ahead = l.invariant.ahead;
        within = l.invariant.within;
      },
    )

pub compound-declarations-requires : goal.compound-declarations-requires
compound-declarations-requires u c =
    let q = c.past_semicolons-next.ensures 0 in
    (omega (arith, c.decreases), (q.within, c.requires.shallow))

pub compound-sequence_at-requires : goal.compound-sequence_at-requires
compound-sequence_at-requires u c =
    let p = c.in_ok-declarations.ensures in
    (omega (arith, c.decreases), (p.0.within, (c.requires.shallow, p.1)))
