-- How large an expression and a statement are beside the lists in them, so that a walk over them is seen to end.
use Rattle.std.proofs.Common.{◌<◌, ◌+◌, Option, arith, ap, ◌∙◌}
use Rattle.std.specs.declared.alloc.Global.{Global}
use Rattle.std.specs.declared.boxed.Box.{Box}
use Rattle.std.specs.declared.vec.Vec.{Vec}
use denote.Param.Weighed.{most}
use denote.Hole.Weighs.{depth-Weighs}
use denote.Hole.Carrier.{out, fold}
use denote.Hole.Rolled.{depth}
use Rattle.sim_tree.specs.declared.expr.Expr.{Expr, size-Expr}
use Rattle.sim_tree.specs.declared.expr.Expr.TheVariants as e
use Rattle.sim_tree.specs.declared.expr.Expr.TheViews.{size-Operand, size-Term, size-Factor, size-Selector, out-Expr}
use Rattle.sim_tree.specs.declared.expr.Expr.TheBlock as block
use Rattle.sim_tree.specs.declared.expr.Expr.TheBlock.{the_depth}
use Rattle.sim_tree.specs.declared.expr.Factor.{Factor}
use Rattle.sim_tree.specs.declared.expr.LeadingSign.{LeadingSign}
use Rattle.sim_tree.specs.declared.expr.Operand.{Operand}
use Rattle.sim_tree.specs.declared.expr.Selector.{Selector}
use Rattle.sim_tree.specs.declared.expr.Term.{Term}
use Rattle.sim_base.specs.declared.numbering.TokenNo.{TokenNo}
use Rattle.sim_tree.specs.declared.stmt.Stmt.{Stmt, size-Stmt}
use Rattle.sim_tree.specs.declared.stmt.Stmt.TheVariants as s
use Rattle.sim_tree.specs.declared.stmt.When.{When}
use Rattle.sim_tree.specs.declared.stmt.Decl.TheViews.{size-When, out-Stmt}
use Rattle.sim_tree.specs.declared.stmt.Decl.TheBlock as stmt_block
use Rattle.sim_tree.specs.declared.stmt.Decl.TheBlock.{the_depth as stmt_depth}

pub orelse_holds : (a : Box Expr Global) (v : Vec Operand Global) → most size-Operand v.items < size-Expr (e.OrElse a v)
unfolding out out-Expr depth the_depth fold
orelse_holds a v =
    let whole = depth-Weighs block.the_members block.the_sigs block.the_carrier block.member-Expr block.weighs-Expr (e.OrElse a v) in
    let layer = ap (λ z. (block.weighs-Expr).weight (block.the_carrier).T (depth block.the_members block.the_sigs block.the_carrier) z + 1) (e.outs-OrElse a v) in
    omega (arith, whole ∙ layer)

pub andthen_holds : (a : Box Expr Global) (v : Vec Operand Global) → most size-Operand v.items < size-Expr (e.AndThen a v)
unfolding out out-Expr depth the_depth fold
andthen_holds a v =
    let whole = depth-Weighs block.the_members block.the_sigs block.the_carrier block.member-Expr block.weighs-Expr (e.AndThen a v) in
    let layer = ap (λ z. (block.weighs-Expr).weight (block.the_carrier).T (depth block.the_members block.the_sigs block.the_carrier) z + 1) (e.outs-AndThen a v) in
    omega (arith, whole ∙ layer)

pub eqv_holds : (a : Box Expr Global) (v : Vec Operand Global) → most size-Operand v.items < size-Expr (e.Eqv a v)
unfolding out out-Expr depth the_depth fold
eqv_holds a v =
    let whole = depth-Weighs block.the_members block.the_sigs block.the_carrier block.member-Expr block.weighs-Expr (e.Eqv a v) in
    let layer = ap (λ z. (block.weighs-Expr).weight (block.the_carrier).T (depth block.the_members block.the_sigs block.the_carrier) z + 1) (e.outs-Eqv a v) in
    omega (arith, whole ∙ layer)

pub imp_holds : (a : Box Expr Global) (v : Vec Operand Global) → most size-Operand v.items < size-Expr (e.Imp a v)
unfolding out out-Expr depth the_depth fold
imp_holds a v =
    let whole = depth-Weighs block.the_members block.the_sigs block.the_carrier block.member-Expr block.weighs-Expr (e.Imp a v) in
    let layer = ap (λ z. (block.weighs-Expr).weight (block.the_carrier).T (depth block.the_members block.the_sigs block.the_carrier) z + 1) (e.outs-Imp a v) in
    omega (arith, whole ∙ layer)

pub or_holds : (a : Box Expr Global) (v : Vec Operand Global) → most size-Operand v.items < size-Expr (e.Or a v)
unfolding out out-Expr depth the_depth fold
or_holds a v =
    let whole = depth-Weighs block.the_members block.the_sigs block.the_carrier block.member-Expr block.weighs-Expr (e.Or a v) in
    let layer = ap (λ z. (block.weighs-Expr).weight (block.the_carrier).T (depth block.the_members block.the_sigs block.the_carrier) z + 1) (e.outs-Or a v) in
    omega (arith, whole ∙ layer)

pub and_holds : (a : Box Expr Global) (v : Vec Operand Global) → most size-Operand v.items < size-Expr (e.And a v)
unfolding out out-Expr depth the_depth fold
and_holds a v =
    let whole = depth-Weighs block.the_members block.the_sigs block.the_carrier block.member-Expr block.weighs-Expr (e.And a v) in
    let layer = ap (λ z. (block.weighs-Expr).weight (block.the_carrier).T (depth block.the_members block.the_sigs block.the_carrier) z + 1) (e.outs-And a v) in
    omega (arith, whole ∙ layer)

pub concatenation_holds : (a : Box Expr Global) (v : Vec Operand Global) → most size-Operand v.items < size-Expr (e.Concatenation a v)
unfolding out out-Expr depth the_depth fold
concatenation_holds a v =
    let whole = depth-Weighs block.the_members block.the_sigs block.the_carrier block.member-Expr block.weighs-Expr (e.Concatenation a v) in
    let layer = ap (λ z. (block.weighs-Expr).weight (block.the_carrier).T (depth block.the_members block.the_sigs block.the_carrier) z + 1) (e.outs-Concatenation a v) in
    omega (arith, whole ∙ layer)

pub power_holds : (a : Box Expr Global) (v : Vec Operand Global) → most size-Operand v.items < size-Expr (e.Power a v)
unfolding out out-Expr depth the_depth fold
power_holds a v =
    let whole = depth-Weighs block.the_members block.the_sigs block.the_carrier block.member-Expr block.weighs-Expr (e.Power a v) in
    let layer = ap (λ z. (block.weighs-Expr).weight (block.the_carrier).T (depth block.the_members block.the_sigs block.the_carrier) z + 1) (e.outs-Power a v) in
    omega (arith, whole ∙ layer)

pub sum_holds : (s : Option LeadingSign) (a : Box Expr Global) (v : Vec Term Global) → most size-Term v.items < size-Expr (e.Sum s a v)
unfolding out out-Expr depth the_depth fold
sum_holds s a v =
    let whole = depth-Weighs block.the_members block.the_sigs block.the_carrier block.member-Expr block.weighs-Expr (e.Sum s a v) in
    let layer = ap (λ z. (block.weighs-Expr).weight (block.the_carrier).T (depth block.the_members block.the_sigs block.the_carrier) z + 1) (e.outs-Sum s a v) in
    omega (arith, whole ∙ layer)

pub product_holds : (a : Box Expr Global) (v : Vec Factor Global) → most size-Factor v.items < size-Expr (e.Product a v)
unfolding out out-Expr depth the_depth fold
product_holds a v =
    let whole = depth-Weighs block.the_members block.the_sigs block.the_carrier block.member-Expr block.weighs-Expr (e.Product a v) in
    let layer = ap (λ z. (block.weighs-Expr).weight (block.the_carrier).T (depth block.the_members block.the_sigs block.the_carrier) z + 1) (e.outs-Product a v) in
    omega (arith, whole ∙ layer)

pub postfix_holds : (a : Box Expr Global) (v : Vec Selector Global) → most size-Selector v.items < size-Expr (e.Postfix a v)
unfolding out out-Expr depth the_depth fold
postfix_holds a v =
    let whole = depth-Weighs block.the_members block.the_sigs block.the_carrier block.member-Expr block.weighs-Expr (e.Postfix a v) in
    let layer = ap (λ z. (block.weighs-Expr).weight (block.the_carrier).T (depth block.the_members block.the_sigs block.the_carrier) z + 1) (e.outs-Postfix a v) in
    omega (arith, whole ∙ layer)

pub inspectwhen_holds : (i : TokenNo) (x : Expr) (v : Vec When Global) (o : Option (Box Stmt Global)) → most size-When v.items < size-Stmt (s.InspectWhen i x v o)
unfolding out out-Stmt depth stmt_depth fold
inspectwhen_holds i x v o =
    let whole = depth-Weighs stmt_block.the_members stmt_block.the_sigs stmt_block.the_carrier stmt_block.member-Stmt stmt_block.weighs-Stmt (s.InspectWhen i x v o) in
    let layer = ap (λ z. (stmt_block.weighs-Stmt).weight (stmt_block.the_carrier).T (depth stmt_block.the_members stmt_block.the_sigs stmt_block.the_carrier) z + 1) (s.outs-InspectWhen i x v o) in
    omega (arith, whole ∙ layer)
