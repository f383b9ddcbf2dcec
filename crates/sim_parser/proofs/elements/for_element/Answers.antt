use Rattle.std.proofs.Common.{refl}
use Rattle.sim_base.specs.declared.token.TokenKind.TheVariants as k
use Rattle.sim_tree.specs.Grammar as g
use Rattle.sim_tree.specs.Grammar.{Of, Once, Maybe, Many, Kept, Mark, just}
use Rattle.sim_tree.specs.Reading.{kind_at, done, bare_leaf}
use Rattle.sim_tree.specs.ProgramDerivation.{for_element_derivation, expr}
use Rattle.sim_expr_parser.proofs.Tables.{only, by_test}
use Rattle.sim_expr_parser.proofs.Tokens.{took_one}
use Rattle.sim_expr_parser.proofs.Steps.{exit, opened, to, gone, once, maybe, skipped, marked, kept, stops, stops-in, once-stops, mark-stops}
use Rattle.sim_parser.specs.Parsing.{GivesPart}
use Rattle.sim_parser.proofs.ElementsTables.{element_symbols, step_symbols, while_symbols, step_row, while_row, no_tail}
use Rattle.sim_parser.proofs.elements.for_element.Goals as goal

pub returns-in_err-value : goal.returns-in_err-value
returns-in_err-value c =
    let ws = c.args.source.now in
    let d = c.args.depth in
    let i = c.args.at in
    let w0 = opened ws d i g.ForElement element_symbols refl (only g.ForElement element_symbols (kind_at ws i) refl) c.requires.within in
    let e = c.in_err-value.field-0.0 in
    let r = c.from_residual in
    exit (λ r. GivesPart ws d g.ForElement i for_element_derivation r) r.result e r.ensures.1
    (stops w0 e (once-stops ws d i g.Expression e c.in_err-value.ensures))

pub returns-in_err-step : goal.returns-in_err-step
returns-in_err-step c =
    let ws = c.args.source.now in
    let d = c.args.depth in
    let i = c.args.at in
    let w0 = opened ws d i g.ForElement element_symbols refl (only g.ForElement element_symbols (kind_at ws i) refl) c.requires.within in
    let p = c.in_ok-value.ensures.1 in
    let at = c.in_ok-value.next in
    let w1 = to w0 (once p) in
    let w = c.in-Some.ensures in
    let n = c.token_no-token.result in
    let m0 = opened ws d at g.ForElementTail step_symbols refl (by_test g.ForElementTail (kind_at ws at) k.Step step_symbols w.0 step_row) p.within in
    let m1 = to m0 (kept n.0 c.token_no-token.ensures (took_one ws at c.in-Some.next k.Step refl w)) in
    let e = c.in_err-step.field-0.0 in
    let r = c.from_residual-in_err-step in
    exit (λ r. GivesPart ws d g.ForElement i for_element_derivation r) r.result e r.ensures.1
    (stops w1 e (stops-in Maybe m1 e (once-stops ws d c.in-Some.next g.Expression e c.in_err-step.ensures)))

pub returns-in_err-next : goal.returns-in_err-next
returns-in_err-next c =
    let ws = c.args.source.now in
    let d = c.args.depth in
    let i = c.args.at in
    let w0 = opened ws d i g.ForElement element_symbols refl (only g.ForElement element_symbols (kind_at ws i) refl) c.requires.within in
    let p = c.in_ok-value.ensures.1 in
    let at = c.in_ok-value.next in
    let w1 = to w0 (once p) in
    let w = c.in-Some.ensures in
    let n = c.token_no-token.result in
    let m0 = opened ws d at g.ForElementTail step_symbols refl (by_test g.ForElementTail (kind_at ws at) k.Step step_symbols w.0 step_row) p.within in
    let m1 = to m0 (kept n.0 c.token_no-token.ensures (took_one ws at c.in-Some.next k.Step refl w)) in
    let m2 = to m1 (once c.in_ok-step.ensures.1) in
    let e = c.in_err-next.field-0.0 in
    let r = c.from_residual-in_err-next in
    exit (λ r. GivesPart ws d g.ForElement i for_element_derivation r) r.result e r.ensures.1
    (stops w1 e (stops-in Maybe m2 e (mark-stops ws d c.in_ok-step.next k.Until e c.in_err-next.ensures)))

pub returns-in_err-limit : goal.returns-in_err-limit
returns-in_err-limit c =
    let ws = c.args.source.now in
    let d = c.args.depth in
    let i = c.args.at in
    let w0 = opened ws d i g.ForElement element_symbols refl (only g.ForElement element_symbols (kind_at ws i) refl) c.requires.within in
    let p = c.in_ok-value.ensures.1 in
    let at = c.in_ok-value.next in
    let w1 = to w0 (once p) in
    let w = c.in-Some.ensures in
    let n = c.token_no-token.result in
    let m0 = opened ws d at g.ForElementTail step_symbols refl (by_test g.ForElementTail (kind_at ws at) k.Step step_symbols w.0 step_row) p.within in
    let m1 = to m0 (kept n.0 c.token_no-token.ensures (took_one ws at c.in-Some.next k.Step refl w)) in
    let m2 = to m1 (once c.in_ok-step.ensures.1) in
    let m3 = to m2 (marked c.in_ok-next.ensures) in
    let e = c.in_err-limit.field-0.0 in
    let r = c.from_residual-in_err-limit in
    exit (λ r. GivesPart ws d g.ForElement i for_element_derivation r) r.result e r.ensures.1
    (stops w1 e (stops-in Maybe m3 e (once-stops ws d c.in_ok-next.next g.Expression e c.in_err-limit.ensures)))

pub returns-in-Some : goal.returns-in-Some
returns-in-Some c =
    let ws = c.args.source.now in
    let d = c.args.depth in
    let i = c.args.at in
    let w0 = opened ws d i g.ForElement element_symbols refl (only g.ForElement element_symbols (kind_at ws i) refl) c.requires.within in
    let p = c.in_ok-value.ensures.1 in
    let at = c.in_ok-value.next in
    let w1 = to w0 (once p) in
    let w = c.in-Some.ensures in
    let n = c.token_no-token.result in
    let m0 = opened ws d at g.ForElementTail step_symbols refl (by_test g.ForElementTail (kind_at ws at) k.Step step_symbols w.0 step_row) p.within in
    let m1 = to m0 (kept n.0 c.token_no-token.ensures (took_one ws at c.in-Some.next k.Step refl w)) in
    let m2 = to m1 (once c.in_ok-step.ensures.1) in
    let m3 = to m2 (marked c.in_ok-next.ensures) in
    gone (to w1 (maybe (gone (to m3 (once c.in_ok-limit.ensures.1)) (bare_leaf n.0 k.Step (expr c.in_ok-step.step (expr c.in_ok-limit.limit done))) refl))) _ refl

pub returns-in_default-eat : goal.returns-in_default-eat
returns-in_default-eat c =
    let ws = c.args.source.now in
    let d = c.args.depth in
    let i = c.args.at in
    let w0 = opened ws d i g.ForElement element_symbols refl (only g.ForElement element_symbols (kind_at ws i) refl) c.requires.within in
    let p = c.in_ok-value.ensures.1 in
    let at = c.in_ok-value.next in
    let w1 = to w0 (once p) in
    gone (to w1 (skipped (no_tail (kind_at ws at) c.in_default.ensures c.in_default-eat.ensures) p.within)) _ refl

pub returns-in_err-condition : goal.returns-in_err-condition
returns-in_err-condition c =
    let ws = c.args.source.now in
    let d = c.args.depth in
    let i = c.args.at in
    let w0 = opened ws d i g.ForElement element_symbols refl (only g.ForElement element_symbols (kind_at ws i) refl) c.requires.within in
    let p = c.in_ok-value.ensures.1 in
    let at = c.in_ok-value.next in
    let w1 = to w0 (once p) in
    let w = c.in-Some-eat.ensures in
    let n = c.token_no-token.result in
    let m0 = opened ws d at g.ForElementTail while_symbols refl (by_test g.ForElementTail (kind_at ws at) k.While while_symbols w.0 while_row) p.within in
    let m1 = to m0 (kept n.0 c.token_no-token.ensures (took_one ws at c.in-Some-eat.next k.While refl w)) in
    let e = c.in_err-condition.field-0.0 in
    let r = c.from_residual-in_err-condition in
    exit (λ r. GivesPart ws d g.ForElement i for_element_derivation r) r.result e r.ensures.1
    (stops w1 e (stops-in Maybe m1 e (once-stops ws d c.in-Some-eat.next g.Expression e c.in_err-condition.ensures)))

pub returns : goal.returns
returns c =
    let ws = c.args.source.now in
    let d = c.args.depth in
    let i = c.args.at in
    let w0 = opened ws d i g.ForElement element_symbols refl (only g.ForElement element_symbols (kind_at ws i) refl) c.requires.within in
    let p = c.in_ok-value.ensures.1 in
    let at = c.in_ok-value.next in
    let w1 = to w0 (once p) in
    let w = c.in-Some-eat.ensures in
    let n = c.token_no-token.result in
    let m0 = opened ws d at g.ForElementTail while_symbols refl (by_test g.ForElementTail (kind_at ws at) k.While while_symbols w.0 while_row) p.within in
    let m1 = to m0 (kept n.0 c.token_no-token.ensures (took_one ws at c.in-Some-eat.next k.While refl w)) in
    gone (to w1 (maybe (gone (to m1 (once c.in_ok-condition.ensures.1)) (bare_leaf n.0 k.While (expr c.in_ok-condition.condition done)) refl))) _ refl
