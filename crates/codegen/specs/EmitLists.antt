-- What is written of the elements of a `for` list.
use Rattle.std.specs.Prelude.{⊤, ℕ, List, [], ◌∷◌}
use Rattle.sim_scope.specs.declared.bound.Bound.{Bound}
use Rattle.sim_scope.specs.Source.{Source, source_of}
use Rattle.sim_tree.specs.declared.stmt.Stmt.{Stmt}
use Rattle.sim_tree.specs.Syntax.{Element}
use Rattle.sim_tree.specs.SyntaxOfProgram.{statement_syntax}
use Rattle.codegen_expr.specs.declared.spot.Spot.{Spot}
use Rattle.codegen_expr.specs.Drafts.{DraftOf, Emits}
use Rattle.codegen.specs.BuiltProgram.{StatementBuilt}
use Rattle.codegen.specs.CodeFor.{ElementsAt, Variable}
use Rattle.codegen.specs.CodeStm.{StmAt}
use Rattle.codegen.specs.EmitTargets.{Controls, ElementOver}
use Rattle.codegen.specs.declared.targets.Target.{Target}

-- each element with a turn of its own
abbrev pub EachBuilt : Source → (text : ℕ) → Variable → List Element → (Turn : Type 0) → Type 0
EachBuilt s text v [] Turn = ⊤
EachBuilt s text v (e ∷ es) Turn = (ElementOver s text v e × Turn) × EachBuilt s text v es Turn

-- elements, each with the statement, over a variable
unfoldable pub WritesEach : Bound → Spot → (old new : DraftOf) → (target : Target) → List Element → Stmt → Type 0
WritesEach b w old new target es a =
    (v : Variable) → Controls (source_of b) w.text target v
    → Emits w old new (EachBuilt (source_of b) w.text v es (StatementBuilt (source_of b) w.text (statement_syntax a)))
    (λ final site p q. (number : ℕ) → ElementsAt (source_of b) final site 0 v number es (λ k. StmAt (source_of b) final site 0 (statement_syntax a)) p q)

-- in a loop: what is written of the rest is written of the whole
unfoldable pub OwesEach : Bound → Spot → (old : DraftOf) → (target : Target) → List Element → Stmt → (now : DraftOf) → List Element → Type 0
OwesEach b w old target es a now rest = (end : DraftOf) → WritesEach b w now end target rest a → WritesEach b w old end target es a
