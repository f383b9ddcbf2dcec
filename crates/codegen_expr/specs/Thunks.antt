-- What is found of parameters by name.
use Rattle.std.specs.Prelude.{◌≡◌, ℕ, zero, suc, Option, None}
use Rattle.sim_base.specs.declared.numbering.DeclNo.{DeclNo}
use Rattle.sim_base.specs.declared.numbering.TokenNo.{TokenNo}
use Rattle.sim_scope.specs.declared.bound.Bound.{Bound}
use Rattle.sim_scope.specs.Source.{Source, denoted, source_of}
use Rattle.sim_tree.specs.declared.expr.Expr.{Expr}
use Rattle.sim_tree.specs.SyntaxOf.{syntax_of}
use Rattle.sim_meaning.specs.Closing.{name_denoted}
use Rattle.sim_code.specs.Code.{CodeOf}
use Rattle.codegen_expr.specs.CodeExpr.{class_given, class_or_none}
use Rattle.codegen_expr.specs.Drafts.{DraftOf, planned_at, planned_in}
use Rattle.std.specs.Prelude.{slice_get}

-- an identifier with so many subscripts: it is a formal parameter by name without any
unfoldable pub name_if : Source → (subscripts : ℕ) → TokenNo → Option DeclNo
name_if s zero token = name_denoted s (denoted s token.0)
name_if s (suc n) token = None

-- the blocks of a code are as a draft plans them
abbrev pub AsPlanned : DraftOf → CodeOf → Type 0
AsPlanned c final = (block : ℕ) → planned_in (slice_get final.blocks block) ≡ planned_at c.classes block

-- the number of a class, or 0, in each code that the draft may become
unfoldable pub ClassOrNone : Bound → DraftOf → Option ℕ → ℕ → Type 0
ClassOrNone b c class r = (final : CodeOf) → AsPlanned c final → r ≡ class_or_none (source_of b) final class

unfoldable pub ClassGiven : Bound → DraftOf → Expr → ℕ → Type 0
ClassGiven b c x r = (final : CodeOf) → AsPlanned c final → r ≡ class_given (source_of b) final (syntax_of x)
