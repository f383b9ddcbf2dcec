use Rattle.std.proofs.Common.{refl, true, false, [], ◌∷◌}
use Rattle.sim_base.specs.declared.token.TokenKind.TheVariants as k
use Rattle.sim_tree.specs.Grammar as g
use Rattle.sim_tree.specs.Grammar.{Kept, just}
use Rattle.sim_tree.specs.Reading.{kind_at, done, bare_leaf}
use Rattle.sim_expr_parser.proofs.Tokens.{took_one}
use Rattle.sim_expr_parser.proofs.Tables.{one_row, just_is}
use Rattle.sim_expr_parser.proofs.Steps.{opened, to, kept, gone}
use Rattle.sim_parser.proofs.Along.{maybe-all, skipped-all}
use Rattle.sim_parser.proofs.operation.prior.Goals as goal

pub returns-in-Some : goal.returns-in-Some
returns-in-Some c = λ d.
    let ws = c.args.source.now in
    let at = c.args.at in
    let w = c.in-Some.ensures in
    let n = c.token_no.result in
    let sy = Kept (just k.Prior) ∷ [] in
    let m0 = opened ws d at g.PriorMark sy refl (one_row g.PriorMark (just k.Prior) sy (kind_at ws at) true refl (just_is _ _ _ w.0)) c.requires.within in
    maybe-all (gone (to m0 (kept n.0 c.token_no.ensures (took_one ws at c.in-Some.next k.Prior refl w))) (bare_leaf n.0 k.Prior done) refl) c.requires.within

pub returns-in-None : goal.returns-in-None
returns-in-None c = λ d.
    skipped-all (one_row g.PriorMark (just k.Prior) (Kept (just k.Prior) ∷ []) (kind_at c.args.source.now c.args.at) false refl (just_is _ _ _ c.in-None.ensures)) c.requires.within
