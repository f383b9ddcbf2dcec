use Rattle.std.proofs.Common.{refl}
use Rattle.sim_base.specs.declared.token.TokenKind.TheVariants as k
use Rattle.sim_tree.specs.Grammar as g
use Rattle.sim_tree.specs.Grammar.{just}
use Rattle.sim_tree.specs.Reading.{kind_at}
use Rattle.sim_tree.proofs.DerivationLemmas.{derivation-This}
use Rattle.sim_expr_parser.specs.Parsing.{GivesLevel}
use Rattle.sim_expr_parser.proofs.Tables.{by_test, just_is, primary_this, this_symbols}
use Rattle.sim_expr_parser.proofs.Tokens.{took_one}
use Rattle.sim_expr_parser.proofs.Steps.{exit, kept, kept-stops, level-made, opened, stops, to}
use Rattle.sim_expr_parser.proofs.parser.local_object.Goals as goal

pub returns-in_err-next : goal.returns-in_err-next
returns-in_err-next c =
    let ws = c.args.source.now in
    let i = c.args.at in
    λ d h.
    let m0 = opened ws d i g.Primary this_symbols refl (by_test g.Primary (kind_at ws i) k.This this_symbols h primary_this) c.requires.within in
    let e = c.in_err-next.field-0.0 in
    let r = c.from_residual in
    exit (λ r. GivesLevel ws d 0 i r) r.result e r.ensures.1
    (stops m0 e (kept-stops ws d i (just k.This) e (just_is _ _ _ c.in_err-next.ensures.0) c.in_err-next.ensures.1))

pub returns-in_err-class : goal.returns-in_err-class
returns-in_err-class c =
    let ws = c.args.source.now in
    let i = c.args.at in
    let n = c.token_no-token.result in
    λ d h.
    let m0 = opened ws d i g.Primary this_symbols refl (by_test g.Primary (kind_at ws i) k.This this_symbols h primary_this) c.requires.within in
    let m1 = to m0 (kept n.0 c.token_no-token.ensures (took_one ws i c.in_ok-next.next k.This refl c.in_ok-next.ensures)) in
    let e = c.in_err-class.field-0.0 in
    let r = c.from_residual-in_err-class in
    exit (λ r. GivesLevel ws d 0 i r) r.result e r.ensures.1
    (stops m1 e (c.in_err-class.ensures d))

pub returns : goal.returns
returns c =
    let ws = c.args.source.now in
    let i = c.args.at in
    let n = c.token_no-token.result in
    λ d h.
    let m0 = opened ws d i g.Primary this_symbols refl (by_test g.Primary (kind_at ws i) k.This this_symbols h primary_this) c.requires.within in
    let m1 = to m0 (kept n.0 c.token_no-token.ensures (took_one ws i c.in_ok-next.next k.This refl c.in_ok-next.ensures)) in
    level-made 0 _ _ (derivation-This n c.in_ok-class.class) refl (to m1 (c.in_ok-class.ensures d)) refl
