use Rattle.std.proofs.Common.{refl}
use Rattle.sim_base.specs.declared.token.TokenKind.TheVariants as k
use Rattle.sim_tree.specs.Grammar as g
use Rattle.sim_tree.specs.Reading.{kind_at}
use Rattle.sim_expr_parser.proofs.Tables.{by_test}
use Rattle.sim_expr_parser.proofs.Tokens.{took_one}
use Rattle.sim_expr_parser.proofs.Steps.{exit, opened, to, kept}
use Rattle.sim_parser.specs.Parsing.{GivesPart}
use Rattle.sim_parser.specs.Elements.{for_list_derivation}
use Rattle.sim_parser.proofs.Exits.{out_part, past_kept, rest}
use Rattle.sim_parser.proofs.DeclarationSteps.{gone-all, unexpected}
use Rattle.sim_parser.proofs.ElementsTables.{values_symbols, references_symbols, values_row, references_row, no_list}
use Rattle.sim_parser.proofs.elements.for_list.Goals as goal

pub returns-in_err-elements : goal.returns-in_err-elements
returns-in_err-elements c =
    let r = c.from_residual in
    out_part c.args.source.now c.args.depth c.args.at g.ForList values_symbols refl (by_test g.ForList (kind_at c.args.source.now c.args.at) k.Assign values_symbols c.in-Some.ensures.0 values_row) c.requires.within for_list_derivation r.result c.in_err-elements.field-0.0 r.ensures.1
    (past_kept c.in-Some.ensures (rest c.in_err-elements.ensures))

pub returns-in-Some : goal.returns-in-Some
returns-in-Some c =
    let ws = c.args.source.now in
    let d = c.args.depth in
    let i = c.args.at in
    let w = c.in-Some.ensures in
    let n = c.token_no-sign.result in
    let w0 = opened ws d i g.ForList values_symbols refl (by_test g.ForList (kind_at ws i) k.Assign values_symbols w.0 values_row) c.requires.within in
    let w1 = to w0 (kept n.0 c.token_no-sign.ensures (took_one ws i c.in-Some.next k.Assign refl w)) in
    gone-all w1 c.in_ok-elements.ensures _ refl

pub returns-in_err-next : goal.returns-in_err-next
returns-in_err-next c =
    let ws = c.args.source.now in
    let d = c.args.depth in
    let i = c.args.at in
    let e = c.in_err-next.field-0.0 in
    let r = c.from_residual-in_err-next in
    exit (λ r. GivesPart ws d g.ForList i for_list_derivation r) r.result e r.ensures.1
    (unexpected ws d i g.ForList e c.in_err-next.ensures.1 (no_list (kind_at ws i) c.in_default.ensures c.in_err-next.ensures.0))

pub returns-in_err-elements-2 : goal.returns-in_err-elements-2
returns-in_err-elements-2 c =
    let r = c.from_residual-in_err-elements-2 in
    out_part c.args.source.now c.args.depth c.args.at g.ForList references_symbols refl (by_test g.ForList (kind_at c.args.source.now c.args.at) k.AssignReference references_symbols c.in_ok-next.ensures.0 references_row) c.requires.within for_list_derivation r.result c.in_err-elements-2.field-0.0 r.ensures.1
    (past_kept c.in_ok-next.ensures (rest c.in_err-elements-2.ensures))

pub returns : goal.returns
returns c =
    let ws = c.args.source.now in
    let d = c.args.depth in
    let i = c.args.at in
    let w = c.in_ok-next.ensures in
    let n = c.token_no-sign.result in
    let w0 = opened ws d i g.ForList references_symbols refl (by_test g.ForList (kind_at ws i) k.AssignReference references_symbols w.0 references_row) c.requires.within in
    let w1 = to w0 (kept n.0 c.token_no-sign.ensures (took_one ws i c.in_ok-next.next k.AssignReference refl w)) in
    gone-all w1 c.in_ok-elements-2.ensures _ refl
