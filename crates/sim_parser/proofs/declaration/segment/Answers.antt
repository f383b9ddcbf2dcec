use Rattle.std.proofs.Common.{◌≡◌, List, [], ◌∷◌, refl, ap}
use Rattle.sim_tree.specs.declared.stmt.Bounds.{Bounds}
use Rattle.sim_base.specs.declared.token.TokenKind.TheVariants as k
use Rattle.sim_tree.specs.Grammar as g
use Rattle.sim_tree.specs.Grammar.{Mark}
use Rattle.sim_tree.specs.Reading.{kind_at, done, node}
use Rattle.sim_tree.specs.ProgramDerivation.{bounds_derivation, segment_derivation, dimensions, ids}
use Rattle.sim_expr_parser.proofs.Tables.{only}
use Rattle.sim_expr_parser.proofs.Steps.{exit, opened, to, gone, once, marked, stops, mark-stops}
use Rattle.sim_parser.specs.Parsing.{GivesPart}
use Rattle.sim_parser.specs.CommaLists.{listed_with}
use Rattle.sim_parser.proofs.Exits.{here_mark, here_part, out_part, past_mark, past_part, rest}
use Rattle.sim_parser.proofs.ListSteps.{to-items}
use Rattle.sim_parser.proofs.DeclarationTables.{segment_symbols}
use Rattle.sim_parser.proofs.declaration.segment.Goals as goal

then-done : (xs : List Bounds) → listed_with (λ b. node g.Bounds (bounds_derivation b)) g.NextBounds xs done ≡ dimensions xs
then-done [] = refl
then-done (x ∷ xs) = refl

pub returns-in_err-names : goal.returns-in_err-names
returns-in_err-names c =
    let r = c.from_residual in
    out_part c.args.source.now c.args.depth c.args.at g.ArraySegment segment_symbols refl (only g.ArraySegment segment_symbols (kind_at c.args.source.now c.args.at) refl) c.requires.within segment_derivation r.result c.in_err-names.field-0.0 r.ensures.1
    (here_part (c.in_err-names.ensures c.args.depth))

pub expect-requires-clause-within : goal.expect-requires-clause-within
expect-requires-clause-within c =
    (c.in_ok-names.ensures 0).within

pub returns-in_err-next : goal.returns-in_err-next
returns-in_err-next c =
    let r = c.from_residual-in_err-next in
    out_part c.args.source.now c.args.depth c.args.at g.ArraySegment segment_symbols refl (only g.ArraySegment segment_symbols (kind_at c.args.source.now c.args.at) refl) c.requires.within segment_derivation r.result c.in_err-next.field-0.0 r.ensures.1
    (past_part (c.in_ok-names.ensures c.args.depth) (here_mark c.in_err-next.ensures))

pub returns-in_err-bounds : goal.returns-in_err-bounds
returns-in_err-bounds c =
    let r = c.from_residual-in_err-bounds in
    out_part c.args.source.now c.args.depth c.args.at g.ArraySegment segment_symbols refl (only g.ArraySegment segment_symbols (kind_at c.args.source.now c.args.at) refl) c.requires.within segment_derivation r.result c.in_err-bounds.field-0.0 r.ensures.1
    (past_part (c.in_ok-names.ensures c.args.depth) (past_mark c.in_ok-next.ensures (rest (c.in_err-bounds.ensures (Mark k.Close ∷ [])))))

pub returns-in_err-end : goal.returns-in_err-end
returns-in_err-end c =
    let ws = c.args.source.now in
    let d = c.args.depth in
    let i = c.args.at in
    let w0 = opened ws d i g.ArraySegment segment_symbols refl (only g.ArraySegment segment_symbols (kind_at ws i) refl) c.requires.within in
    let w1 = to w0 (once (c.in_ok-names.ensures d)) in
    let w2 = to w1 (marked c.in_ok-next.ensures) in
    let w3 = to-items w2 c.in_ok-bounds.ensures in
    let e = c.in_err-end.field-0.0 in
    let r = c.from_residual-in_err-end in
    exit (λ r. GivesPart ws d g.ArraySegment i segment_derivation r) r.result e r.ensures.1
    (stops w3 e (mark-stops ws d c.in_ok-bounds.next k.Close e c.in_err-end.ensures))

pub returns : goal.returns
returns c =
    let ws = c.args.source.now in
    let d = c.args.depth in
    let i = c.args.at in
    let w0 = opened ws d i g.ArraySegment segment_symbols refl (only g.ArraySegment segment_symbols (kind_at ws i) refl) c.requires.within in
    let w1 = to w0 (once (c.in_ok-names.ensures d)) in
    let w2 = to w1 (marked c.in_ok-next.ensures) in
    let w3 = to-items w2 c.in_ok-bounds.ensures in
    gone (to w3 (marked c.in_ok-end.ensures)) (node g.Identifiers (ids c.in_ok-names.names.items) (dimensions c.in_ok-bounds.bounds.items))
    (ap (node g.Identifiers (ids c.in_ok-names.names.items)) (then-done c.in_ok-bounds.bounds.items))
