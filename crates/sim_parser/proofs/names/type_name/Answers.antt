use Rattle.std.proofs.Common.{refl}
use Rattle.sim_base.specs.declared.token.TokenKind.TheVariants as k
use Rattle.sim_tree.specs.Grammar as g
use Rattle.sim_tree.specs.Grammar.{is, right_side}
use Rattle.sim_tree.specs.Reading.{kind_at, done, bare_leaf}
use Rattle.sim_tree.specs.Derivation.{identifier}
use Rattle.sim_tree.specs.ProgramDerivation.{type_derivation}
use Rattle.sim_expr_parser.proofs.Steps.{to, stops, gone, marked, mark-stops, exit}
use Rattle.sim_parser.specs.Parsing.{GivesPart}
use Rattle.sim_parser.proofs.NameSteps.{simple-type, no-types, no-type-stops, opened-ref}
use Rattle.sim_parser.proofs.names.type_name.Goals as goal

pub returns-in-Some : goal.returns-in-Some
unfolding is right_side
returns-in-Some c = λ d. simple-type c.args.source.now d c.args.at c.in-Some.next k.IntegerWord c.token_no-token.result refl refl refl c.in-Some.ensures c.token_no-token.ensures c.requires.within

pub returns-in-Some-eat : goal.returns-in-Some-eat
unfolding is right_side
returns-in-Some-eat c = λ d. simple-type c.args.source.now d c.args.at c.in-Some-eat.next k.Boolean c.token_no-token.result refl refl refl c.in-Some-eat.ensures c.token_no-token.ensures c.requires.within

pub returns-in-Some-eat-2 : goal.returns-in-Some-eat-2
unfolding is right_side
returns-in-Some-eat-2 c = λ d. simple-type c.args.source.now d c.args.at c.in-Some-eat-2.next k.CharacterWord c.token_no-token.result refl refl refl c.in-Some-eat-2.ensures c.token_no-token.ensures c.requires.within

pub returns-in-Some-eat-3 : goal.returns-in-Some-eat-3
unfolding is right_side
returns-in-Some-eat-3 c = λ d. simple-type c.args.source.now d c.args.at c.in-Some-eat-3.next k.TextWord c.token_no-token.result refl refl refl c.in-Some-eat-3.ensures c.token_no-token.ensures c.requires.within

pub returns-in_err-next : goal.returns-in_err-next
returns-in_err-next c = λ d.
    let ws = c.args.source.now in
    let i = c.args.at in
    let e = c.in_err-next.field-0.0 in
    let none = no-types (kind_at ws i) c.in_default.ensures c.in_default-eat.ensures c.in_default-eat-2.ensures c.in_default-eat-3.ensures c.in_err-next.ensures.0 in
    exit (λ r. GivesPart ws d g.TypeName i type_derivation r) c.from_residual.result e c.from_residual.ensures.1
    (no-type-stops ws d i e none c.in_err-next.ensures.1)

pub returns-in_err-next-2 : goal.returns-in_err-next-2
returns-in_err-next-2 c = λ d.
    let ws = c.args.source.now in
    let i = c.args.at in
    let e = c.in_err-next-2.field-0.0 in
    let r = c.from_residual-in_err-next-2 in
    let w0 = opened-ref ws d i c.in_ok-next.next c.token_no-token.result c.in_ok-next.ensures c.token_no-token.ensures c.requires.within in
    exit (λ r. GivesPart ws d g.TypeName i type_derivation r) r.result e r.ensures.1
    (stops w0 e (mark-stops ws d c.in_ok-next.next k.Open e c.in_err-next-2.ensures))

pub returns-in_err-class : goal.returns-in_err-class
returns-in_err-class c = λ d.
    let ws = c.args.source.now in
    let i = c.args.at in
    let e = c.in_err-class.field-0.0 in
    let r = c.from_residual-in_err-class in
    let w0 = opened-ref ws d i c.in_ok-next.next c.token_no-token.result c.in_ok-next.ensures c.token_no-token.ensures c.requires.within in
    let w1 = to w0 (marked c.in_ok-next-2.ensures) in
    exit (λ r. GivesPart ws d g.TypeName i type_derivation r) r.result e r.ensures.1
    (stops w1 e (c.in_err-class.ensures d))

pub expect-requires-3-clause-within : goal.expect-requires-3-clause-within
expect-requires-3-clause-within c = (c.in_ok-class.ensures 0).within

pub returns-in_err-end : goal.returns-in_err-end
returns-in_err-end c = λ d.
    let ws = c.args.source.now in
    let i = c.args.at in
    let e = c.in_err-end.field-0.0 in
    let r = c.from_residual-in_err-end in
    let w0 = opened-ref ws d i c.in_ok-next.next c.token_no-token.result c.in_ok-next.ensures c.token_no-token.ensures c.requires.within in
    let w2 = to (to w0 (marked c.in_ok-next-2.ensures)) (c.in_ok-class.ensures d) in
    exit (λ r. GivesPart ws d g.TypeName i type_derivation r) r.result e r.ensures.1
    (stops w2 e (mark-stops ws d c.in_ok-class.next k.Close e c.in_err-end.ensures))

pub returns : goal.returns
returns c = λ d.
    let ws = c.args.source.now in
    let i = c.args.at in
    let n = c.token_no-token.result in
    let w0 = opened-ref ws d i c.in_ok-next.next n c.in_ok-next.ensures c.token_no-token.ensures c.requires.within in
    let w2 = to (to w0 (marked c.in_ok-next-2.ensures)) (c.in_ok-class.ensures d) in
    gone (to w2 (marked c.in_ok-end.ensures)) (bare_leaf n.0 k.Ref (identifier c.in_ok-class.class done)) refl
