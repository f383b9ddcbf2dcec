-- What is written of a whole connection, behind its tick.
use Rattle.std.specs.Prelude.{List, map, Option}
use Rattle.std.specs.declared.alloc.Global.{Global}
use Rattle.std.specs.declared.boxed.Box.{Box}
use Rattle.sim_base.specs.declared.numbering.TokenNo.{TokenNo}
use Rattle.sim_scope.specs.declared.bound.Bound.{Bound}
use Rattle.sim_scope.specs.Source.{block_around, source_of}
use Rattle.sim_tree.specs.declared.expr.Expr.{Expr}
use Rattle.sim_tree.specs.declared.stmt.Stmt.{Stmt}
use Rattle.sim_tree.specs.declared.stmt.When.{When}
use Rattle.sim_tree.specs.SyntaxOf.{syntax_of}
use Rattle.sim_tree.specs.SyntaxOfProgram.{arm_syntax, arms, branch_syntax, statement_syntax}
use Rattle.codegen_expr.specs.declared.spot.Spot.{Spot}
use Rattle.codegen_expr.specs.Built.{IsBuilt}
use Rattle.codegen_expr.specs.CodeExpr.{ExprAt}
use Rattle.codegen_expr.specs.Drafts.{DraftOf, Emits}
use Rattle.codegen.specs.BuiltProgram.{ArmsBuilt, ConnectsBuilt, StatementBuilt, StatementsBuilt}
use Rattle.codegen.specs.CodeStm.{ArmsAt, ConnectsAt, InspectAt, StmAt, StmsAt}

unfoldable pub WritesInspect : Bound → Spot → (old new : DraftOf) → Expr → (opening : TokenNo) → Stmt → Option (Box Stmt Global) → Type 0
WritesInspect b w old new e opening a x =
    let s = source_of b in
    Emits w old new (IsBuilt s w.text (syntax_of e) × ConnectsBuilt s w.text opening.0 (block_around s opening.0) (λ k. StatementBuilt s k (statement_syntax a)) × StatementsBuilt s w.text (branch_syntax x))
    (λ final site p q. InspectAt final site 0 (ExprAt s final site 0 (syntax_of e)) (ConnectsAt s final site opening.0 (block_around s opening.0) (λ site. StmAt s final site 0 (statement_syntax a))) (StmsAt s final site 0 (branch_syntax x)) p q)

-- arms, the object on top
unfoldable pub WritesArms : Bound → Spot → (old new : DraftOf) → List When → Option (Box Stmt Global) → Type 0
WritesArms b w old new whens x =
    Emits w old new (ArmsBuilt (source_of b) w.text (arms (map arm_syntax whens)) × StatementsBuilt (source_of b) w.text (branch_syntax x))
    (λ final site p q. ArmsAt (source_of b) final site 0 (arms (map arm_syntax whens)) (StmsAt (source_of b) final site 0 (branch_syntax x)) p q)
