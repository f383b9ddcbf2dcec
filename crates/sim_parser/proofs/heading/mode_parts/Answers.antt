use Rattle.std.proofs.Common.{arith, refl, map, true, false}
use Rattle.sim_base.specs.declared.token.TokenKind.TheVariants as k
use Rattle.sim_tree.specs.Grammar as g
use Rattle.sim_tree.specs.Grammar.{Many}
use Rattle.sim_tree.specs.Reading.{done, node, kind_at, bare_leaf}
use Rattle.sim_tree.specs.ProgramDerivation.{ids, mode_kind, mode_derivation}
use Rattle.sim_expr_parser.specs.Parsing.{GivesRow}
use Rattle.sim_expr_parser.proofs.Steps.{opened, to, stops-in, gone, exit, kept, once, once-stops, marked, mark-stops, row-more, row-end, row-stops}
use Rattle.sim_expr_parser.proofs.Tables.{one_row}
use Rattle.sim_parser.specs.Fronts.{modes}
use Rattle.sim_parser.proofs.HeadingSteps.{mode_row}
use Rattle.sim_parser.proofs.heading.mode_parts.Goals as goal

pub returns-in_err-names : goal.returns-in_err-names
returns-in_err-names c = λ d.
    let ws = c.args.source.now in
    let l = c.loop-mode in
    let w = c.in-Some.ensures in
    let e = c.in_err-names.field-0.0 in
    let r = c.from_residual in
    let m1 = to (opened ws d l.at g.Mode mode_row refl (one_row g.Mode modes mode_row (kind_at ws l.at) true refl w.among) l.invariant.within) (kept l.at refl w) in
    exit (λ r. GivesRow ws d g.Mode c.args.start (λ v. map mode_derivation v.items) r) r.result e r.ensures.1
    (row-stops ws d c.args.start l.at g.Mode _ (l.invariant.goes d) e (stops-in Many m1 e (once-stops ws d c.in-Some.next g.Identifiers e (c.in_err-names.ensures d))))

pub expect-requires-clause-within : goal.expect-requires-clause-within
expect-requires-clause-within c = (c.in_ok-names.ensures 0).within

pub returns-in_err-end : goal.returns-in_err-end
returns-in_err-end c = λ d.
    let ws = c.args.source.now in
    let l = c.loop-mode in
    let w = c.in-Some.ensures in
    let e = c.in_err-end.field-0.0 in
    let r = c.from_residual-in_err-end in
    let m1 = to (opened ws d l.at g.Mode mode_row refl (one_row g.Mode modes mode_row (kind_at ws l.at) true refl w.among) l.invariant.within) (kept l.at refl w) in
    exit (λ r. GivesRow ws d g.Mode c.args.start (λ v. map mode_derivation v.items) r) r.result e r.ensures.1
    (row-stops ws d c.args.start l.at g.Mode _ (l.invariant.goes d) e (stops-in Many (to m1 (once (c.in_ok-names.ensures d))) e (mark-stops ws d c.in_ok-names.next k.Semicolon e c.in_err-end.ensures)))

pub loop-mode-smaller : goal.loop-mode-smaller
loop-mode-smaller c = omega (arith, c.in-Some.ensures.ahead, (c.in_ok-names.ensures 0).ahead, c.in_ok-end.ensures.1, c.in_ok-end.ensures.2)

pub loop-mode-preserved : goal.loop-mode-preserved
loop-mode-preserved c =
    let ws = c.args.source.now in
    let l = c.loop-mode in
    let w = c.in-Some.ensures in
    let n = c.token_no-token.result in
    let f = bare_leaf n.0 (mode_kind c.in-Some.mode) (node g.Identifiers (ids c.in_ok-names.names.items) done) in
    record {
      goes = λ d.
          let m1 = to (opened ws d l.at g.Mode mode_row refl (one_row g.Mode modes mode_row (kind_at ws l.at) true refl w.among) l.invariant.within) (kept n.0 c.token_no-token.ensures w) in
          row-more mode_derivation l.parts.items c.push.new.self.items _ f (l.invariant.goes d) (gone (to (to m1 (once (c.in_ok-names.ensures d))) (marked c.in_ok-end.ensures)) f refl) c.in_ok-push.ensures.items refl;
      ahead = omega (arith, l.invariant.ahead, w.ahead, (c.in_ok-names.ensures 0).ahead, c.in_ok-end.ensures.1);
      within = c.in_ok-end.ensures.2;
    }

pub returns : goal.returns
returns c = λ d.
    let l = c.loop-mode in
    row-end mode_derivation l.parts.items (l.invariant.goes d) (one_row g.Mode modes mode_row (kind_at c.args.source.now l.at) false refl c.in_default.ensures) l.invariant.ahead l.invariant.within
