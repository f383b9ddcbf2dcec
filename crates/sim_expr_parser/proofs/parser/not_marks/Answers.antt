use Rattle.std.proofs.Common.{refl, arith, true, false, [], ◌∷◌}
use Rattle.sim_base.specs.declared.token.TokenKind.TheVariants as k
use Rattle.sim_tree.specs.Grammar as g
use Rattle.sim_tree.specs.Grammar.{Kept, just}
use Rattle.sim_tree.specs.Reading.{kind_at, done, bare_leaf}
use Rattle.sim_tree.specs.Derivation.{not_mark}
use Rattle.sim_expr_parser.proofs.Tokens.{took_one}
use Rattle.sim_expr_parser.proofs.Tables.{one_row, just_is}
use Rattle.sim_expr_parser.proofs.Steps.{opened, to, kept, gone, row-more, row-end}
use Rattle.sim_expr_parser.proofs.parser.not_marks.Goals as goal

pub loop-next-preserved : goal.loop-next-preserved
loop-next-preserved c =
    let ws = c.args.source.now in
    let at = c.loop-next.at in
    let w = c.in-Some.ensures in
    let n = c.token_no.result in
    record {
      goes = λ d s. row-more not_mark c.loop-next.marks.items c.push.new.self.items n (bare_leaf n.0 k.Not done) (c.loop-next.invariant.goes d)
          (gone (to (opened ws d at g.NotSign (Kept (just k.Not) ∷ []) refl (one_row g.NotSign (just k.Not) (Kept (just k.Not) ∷ []) (kind_at ws at) true refl (just_is _ _ _ w.0)) c.loop-next.invariant.within)
          (kept n.0 c.token_no.ensures (took_one ws at c.in-Some.next k.Not refl w))) (bare_leaf n.0 k.Not done) refl) c.in_ok-push.ensures.items refl s;
      ahead = omega (arith, c.loop-next.invariant.ahead, w.1);
      within = w.2;
    }

pub returns : goal.returns
returns c = λ d.
    row-end not_mark c.loop-next.marks.items (c.loop-next.invariant.goes d) (one_row g.NotSign (just k.Not) (Kept (just k.Not) ∷ []) (kind_at c.args.source.now c.loop-next.at) false refl (just_is _ _ _ c.in_default.ensures))
    c.loop-next.invariant.ahead c.loop-next.invariant.within
