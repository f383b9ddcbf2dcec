-- What is written of activations.
use Rattle.std.specs.Prelude.{Option}
use Rattle.sim_base.specs.declared.numbering.TokenNo.{TokenNo}
use Rattle.sim_scope.specs.declared.bound.Bound.{Bound}
use Rattle.sim_scope.specs.Source.{line_at, source_of}
use Rattle.sim_tree.specs.declared.expr.Expr.{Expr}
use Rattle.sim_tree.specs.declared.stmt.Activation.{Activation}
use Rattle.sim_tree.specs.declared.stmt.Timing.{Timing}
use Rattle.sim_tree.specs.SyntaxOf.{syntax_of}
use Rattle.sim_tree.specs.SyntaxOfProgram.{schedule_syntax}
use Rattle.sim_meaning.specs.Statements.{is_again, simulation_around}
use Rattle.codegen_expr.specs.declared.spot.Spot.{Spot}
use Rattle.codegen_expr.specs.Drafts.{DraftOf, Emits}
use Rattle.codegen.specs.BuiltProgram.{ActivatesBuilt, OperandBuilt}
use Rattle.codegen.specs.CodeStm.{ActivatesAt, OperandAt}

-- the operand of a timing, if it has one
unfoldable pub WritesOperand : Bound → Spot → (old new : DraftOf) → Option Timing → Type 0
WritesOperand b w old new o =
    Emits w old new (OperandBuilt (source_of b) w.text (schedule_syntax o)) (λ final site p q. OperandAt (source_of b) final site 2 (schedule_syntax o) p q)

-- an activation behind its tick; the token is that of the word
unfoldable pub WritesActivation : Bound → Spot → (old new : DraftOf) → TokenNo → Activation → Expr → Option Timing → Type 0
WritesActivation b w old new token word x o =
    let s = source_of b in
    Emits w old new (ActivatesBuilt s w.text (simulation_around s token.0) (syntax_of x) (schedule_syntax o))
    (λ final site p q. ActivatesAt s final site 0 (line_at s token.0) (simulation_around s token.0) (is_again word) (syntax_of x) (schedule_syntax o) p q)
