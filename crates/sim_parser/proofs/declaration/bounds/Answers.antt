use Rattle.std.proofs.Common.{refl}
use Rattle.sim_tree.specs.Grammar as g
use Rattle.sim_tree.specs.Reading.{kind_at}
use Rattle.sim_tree.specs.ProgramDerivation.{bounds_derivation}
use Rattle.sim_expr_parser.proofs.Tables.{only}
use Rattle.sim_expr_parser.proofs.Steps.{opened, to, gone, once, marked}
use Rattle.sim_parser.proofs.Exits.{here_mark, here_part, out_part, past_mark, past_part}
use Rattle.sim_parser.proofs.DeclarationTables.{bounds_symbols}
use Rattle.sim_parser.proofs.declaration.bounds.Goals as goal

pub returns-in_err-lower : goal.returns-in_err-lower
returns-in_err-lower c =
    let r = c.from_residual in
    out_part c.args.source.now c.args.depth c.args.at g.Bounds bounds_symbols refl (only g.Bounds bounds_symbols (kind_at c.args.source.now c.args.at) refl) c.requires.within bounds_derivation r.result c.in_err-lower.field-0.0 r.ensures.1
    (here_part c.in_err-lower.ensures)

pub returns-in_err-next : goal.returns-in_err-next
returns-in_err-next c =
    let r = c.from_residual-in_err-next in
    out_part c.args.source.now c.args.depth c.args.at g.Bounds bounds_symbols refl (only g.Bounds bounds_symbols (kind_at c.args.source.now c.args.at) refl) c.requires.within bounds_derivation r.result c.in_err-next.field-0.0 r.ensures.1
    (past_part c.in_ok-lower.ensures.1 (here_mark c.in_err-next.ensures))

pub returns-in_err-upper : goal.returns-in_err-upper
returns-in_err-upper c =
    let r = c.from_residual-in_err-upper in
    out_part c.args.source.now c.args.depth c.args.at g.Bounds bounds_symbols refl (only g.Bounds bounds_symbols (kind_at c.args.source.now c.args.at) refl) c.requires.within bounds_derivation r.result c.in_err-upper.field-0.0 r.ensures.1
    (past_part c.in_ok-lower.ensures.1 (past_mark c.in_ok-next.ensures (here_part c.in_err-upper.ensures)))

pub returns : goal.returns
returns c =
    let ws = c.args.source.now in
    let d = c.args.depth in
    let i = c.args.at in
    let w0 = opened ws d i g.Bounds bounds_symbols refl (only g.Bounds bounds_symbols (kind_at ws i) refl) c.requires.within in
    let w1 = to w0 (once c.in_ok-lower.ensures.1) in
    let w2 = to w1 (marked c.in_ok-next.ensures) in
    gone (to w2 (once c.in_ok-upper.ensures.1)) _ refl
