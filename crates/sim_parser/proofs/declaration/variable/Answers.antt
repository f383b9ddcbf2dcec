use Rattle.std.proofs.Common.{[], ◌∷◌, true, false, refl}
use Rattle.sim_base.specs.declared.token.TokenKind.TheVariants as k
use Rattle.sim_tree.specs.Grammar as g
use Rattle.sim_tree.specs.Grammar.{Of, Maybe, just}
use Rattle.sim_tree.specs.Reading.{kind_at, done, node}
use Rattle.sim_tree.specs.Derivation.{identifier}
use Rattle.sim_tree.specs.ProgramDerivation.{constant_derivation, variable_derivation}
use Rattle.sim_expr_parser.proofs.Tables.{one_row, just_is}
use Rattle.sim_expr_parser.proofs.Steps.{exit, opened, to, gone, once, maybe, skipped, marked, stops, stops-in, once-stops}
use Rattle.sim_parser.specs.Parsing.{GivesPart}
use Rattle.sim_parser.proofs.DeclarationSteps.{first-stops, opened-past}
use Rattle.sim_parser.proofs.DeclarationTables.{value_symbols}
use Rattle.sim_parser.proofs.declaration.variable.Goals as goal

pub returns-in_err-name : goal.returns-in_err-name
returns-in_err-name c = λ d.
    let e = c.in_err-name.field-0.0 in
    let r = c.from_residual in
    exit (λ r. GivesPart c.args.source.now d g.Variable c.args.at variable_derivation r) r.result e r.ensures.1
    (first-stops c.args.source.now d c.args.at g.Variable (just k.Identifier) (Of Maybe g.Value ∷ []) refl refl c.requires.within e (c.in_err-name.ensures d (Of Maybe g.Value ∷ [])))

pub eat-requires-clause-within : goal.eat-requires-clause-within
eat-requires-clause-within c = (c.in_ok-name.ensures 0).within

pub returns-in_default : goal.returns-in_default
returns-in_default c = λ d.
    let ws = c.args.source.now in
    let name = c.in_ok-name.ensures d in
    let w1 = opened-past ws d c.args.at c.in_ok-name.next g.Variable (just k.Identifier) (Of Maybe g.Value ∷ []) (identifier c.in_ok-name.name) refl refl c.requires.within name in
    gone (to w1 (skipped (one_row g.Value (just k.Equal) value_symbols (kind_at ws c.in_ok-name.next) false refl (just_is _ _ _ c.in_default.ensures)) name.within)) _ refl

pub returns-in_err-constant : goal.returns-in_err-constant
returns-in_err-constant c = λ d.
    let ws = c.args.source.now in
    let at = c.in_ok-name.next in
    let w = c.in-Some.ensures in
    let name = c.in_ok-name.ensures d in
    let w1 = opened-past ws d c.args.at at g.Variable (just k.Identifier) (Of Maybe g.Value ∷ []) (identifier c.in_ok-name.name) refl refl c.requires.within name in
    let m0 = opened ws d at g.Value value_symbols refl (one_row g.Value (just k.Equal) value_symbols (kind_at ws at) true refl (just_is _ _ _ w.0)) name.within in
    let m1 = to m0 (marked w) in
    let e = c.in_err-constant.field-0.0 in
    let r = c.from_residual-in_err-constant in
    exit (λ r. GivesPart ws d g.Variable c.args.at variable_derivation r) r.result e r.ensures.1
    (stops w1 e (stops-in Maybe m1 e (once-stops ws d c.in-Some.next g.Constant e (c.in_err-constant.ensures d))))

pub returns : goal.returns
returns c = λ d.
    let ws = c.args.source.now in
    let at = c.in_ok-name.next in
    let w = c.in-Some.ensures in
    let name = c.in_ok-name.ensures d in
    let w1 = opened-past ws d c.args.at at g.Variable (just k.Identifier) (Of Maybe g.Value ∷ []) (identifier c.in_ok-name.name) refl refl c.requires.within name in
    let m0 = opened ws d at g.Value value_symbols refl (one_row g.Value (just k.Equal) value_symbols (kind_at ws at) true refl (just_is _ _ _ w.0)) name.within in
    let m1 = to m0 (marked w) in
    gone (to w1 (maybe (gone (to m1 (once (c.in_ok-constant.ensures d))) (node g.Constant (constant_derivation c.in_ok-constant.constant) done) refl))) _ refl
