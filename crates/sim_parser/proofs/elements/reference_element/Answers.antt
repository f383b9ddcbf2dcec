use Rattle.std.proofs.Common.{true, false, refl}
use Rattle.sim_base.specs.declared.token.TokenKind.TheVariants as k
use Rattle.sim_tree.specs.Grammar as g
use Rattle.sim_tree.specs.Grammar.{Of, Once, Maybe, Many, Kept, Mark, just}
use Rattle.sim_tree.specs.Reading.{kind_at, done, bare_leaf}
use Rattle.sim_tree.specs.ProgramDerivation.{reference_element_derivation, expr}
use Rattle.sim_expr_parser.proofs.Tables.{only, one_row, just_is}
use Rattle.sim_expr_parser.proofs.Tokens.{took_one}
use Rattle.sim_expr_parser.proofs.Steps.{exit, opened, to, gone, once, maybe, skipped, kept, stops, stops-in, once-stops}
use Rattle.sim_parser.specs.Parsing.{GivesPart}
use Rattle.sim_parser.proofs.ElementsTables.{reference_symbols, while_symbols}
use Rattle.sim_parser.proofs.elements.reference_element.Goals as goal

pub returns-in_err-value : goal.returns-in_err-value
returns-in_err-value c =
    let ws = c.args.source.now in
    let d = c.args.depth in
    let i = c.args.at in
    let w0 = opened ws d i g.ReferenceElement reference_symbols refl (only g.ReferenceElement reference_symbols (kind_at ws i) refl) c.requires.within in
    let e = c.in_err-value.field-0.0 in
    let r = c.from_residual in
    exit (λ r. GivesPart ws d g.ReferenceElement i reference_element_derivation r) r.result e r.ensures.1
    (stops w0 e (once-stops ws d i g.Expression e c.in_err-value.ensures))

pub returns-in_default : goal.returns-in_default
returns-in_default c =
    let ws = c.args.source.now in
    let d = c.args.depth in
    let i = c.args.at in
    let w0 = opened ws d i g.ReferenceElement reference_symbols refl (only g.ReferenceElement reference_symbols (kind_at ws i) refl) c.requires.within in
    let p = c.in_ok-value.ensures.1 in
    let at = c.in_ok-value.next in
    let w1 = to w0 (once p) in
    gone (to w1 (skipped (one_row g.ReferenceElementTail (just k.While) while_symbols (kind_at ws at) false refl (just_is _ _ _ c.in_default.ensures)) p.within)) _ refl

pub returns-in_err-condition : goal.returns-in_err-condition
returns-in_err-condition c =
    let ws = c.args.source.now in
    let d = c.args.depth in
    let i = c.args.at in
    let w0 = opened ws d i g.ReferenceElement reference_symbols refl (only g.ReferenceElement reference_symbols (kind_at ws i) refl) c.requires.within in
    let p = c.in_ok-value.ensures.1 in
    let at = c.in_ok-value.next in
    let w1 = to w0 (once p) in
    let w = c.in-Some.ensures in
    let n = c.token_no-token.result in
    let m0 = opened ws d at g.ReferenceElementTail while_symbols refl (one_row g.ReferenceElementTail (just k.While) while_symbols (kind_at ws at) true refl (just_is _ _ _ w.0)) p.within in
    let m1 = to m0 (kept n.0 c.token_no-token.ensures (took_one ws at c.in-Some.next k.While refl w)) in
    let e = c.in_err-condition.field-0.0 in
    let r = c.from_residual-in_err-condition in
    exit (λ r. GivesPart ws d g.ReferenceElement i reference_element_derivation r) r.result e r.ensures.1
    (stops w1 e (stops-in Maybe m1 e (once-stops ws d c.in-Some.next g.Expression e c.in_err-condition.ensures)))

pub returns : goal.returns
returns c =
    let ws = c.args.source.now in
    let d = c.args.depth in
    let i = c.args.at in
    let w0 = opened ws d i g.ReferenceElement reference_symbols refl (only g.ReferenceElement reference_symbols (kind_at ws i) refl) c.requires.within in
    let p = c.in_ok-value.ensures.1 in
    let at = c.in_ok-value.next in
    let w1 = to w0 (once p) in
    let w = c.in-Some.ensures in
    let n = c.token_no-token.result in
    let m0 = opened ws d at g.ReferenceElementTail while_symbols refl (one_row g.ReferenceElementTail (just k.While) while_symbols (kind_at ws at) true refl (just_is _ _ _ w.0)) p.within in
    let m1 = to m0 (kept n.0 c.token_no-token.ensures (took_one ws at c.in-Some.next k.While refl w)) in
    gone (to w1 (maybe (gone (to m1 (once c.in_ok-condition.ensures.1)) (bare_leaf n.0 k.While (expr c.in_ok-condition.condition done)) refl))) _ refl
