use Rattle.std.proofs.Common.{refl, arith, true, false, [], ◌∷◌, map}
use Rattle.sim_tree.specs.Grammar as g
use Rattle.sim_tree.specs.Grammar.{Kept, Many, Of, Once, assignments}
use Rattle.sim_tree.specs.Reading.{kind_at, done, bare_leaf}
use Rattle.sim_tree.specs.ProgramDerivation.{assigned_derivation, assignment_kind, expr}
use Rattle.sim_expr_parser.specs.Parsing.{GivesRow}
use Rattle.sim_expr_parser.proofs.Tables.{one_row}
use Rattle.sim_expr_parser.proofs.Steps.{exit, opened, to, kept, gone, once, once-stops, row-start, row-more, row-end, row-stops, stops-in}
use Rattle.sim_parser.proofs.operation.assigned.Goals as goal

pub loop-sign-init : goal.loop-sign-init
loop-sign-init c = record {
  goes = row-start assigned_derivation c.new-rest.result.items c.new-rest.ensures.items;
  ahead = omega arith;
  within = c.requires.within;
}

pub returns-in_err-value : goal.returns-in_err-value
returns-in_err-value c =
    let ws = c.args.source.now in
    let d = c.args.depth in
    let l = c.loop-sign in
    let w = c.in-Some.ensures in
    let e = c.in_err-value.field-0.0 in
    let sy = Kept assignments ∷ Of Once g.Expression ∷ [] in
    let m1 = to (opened ws d l.at g.Assigned sy refl (one_row g.Assigned assignments sy (kind_at ws l.at) true refl w.among) l.invariant.within) (kept l.at refl w) in
    exit (λ r. GivesRow ws d g.Assigned c.args.start (λ v. map assigned_derivation v.items) r) c.from_residual.result e c.from_residual.ensures.1
    (row-stops ws d c.args.start l.at g.Assigned _ l.invariant.goes e (stops-in Many m1 e (once-stops ws d c.in-Some.next g.Expression e c.in_err-value.ensures)))

pub loop-sign-preserved : goal.loop-sign-preserved
loop-sign-preserved c =
    let ws = c.args.source.now in
    let d = c.args.depth in
    let l = c.loop-sign in
    let w = c.in-Some.ensures in
    let n = c.token_no-token.result in
    let sy = Kept assignments ∷ Of Once g.Expression ∷ [] in
    let p = c.in_ok-value.ensures.1 in
    let m2 = to (to (opened ws d l.at g.Assigned sy refl (one_row g.Assigned assignments sy (kind_at ws l.at) true refl w.among) l.invariant.within) (kept n.0 c.token_no-token.ensures w)) (once p) in
    let made = bare_leaf n.0 (assignment_kind c.in-Some.sign) (expr c.in_ok-value.value done) in
    record {
      goes = row-more assigned_derivation l.rest.items c.add.new.list.items _ made l.invariant.goes (gone m2 made refl) c.in_ok-add.ensures refl;
      ahead = omega (arith, l.invariant.ahead, w.ahead, p.ahead);
      within = p.within;
    }

pub returns : goal.returns
returns c =
    let ws = c.args.source.now in
    let l = c.loop-sign in
    row-end assigned_derivation l.rest.items l.invariant.goes (one_row g.Assigned assignments (Kept assignments ∷ Of Once g.Expression ∷ []) (kind_at ws l.at) false refl c.in_default.ensures) l.invariant.ahead l.invariant.within
