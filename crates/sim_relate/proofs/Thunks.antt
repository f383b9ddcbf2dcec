-- Evaluations of actual parameters: what begins one, and what waits for it.
use Rattle.std.proofs.Common.{◌≡◌, ℕ, suc, Bool, true, false, List, [], ◌∷◌, Option, Some, None}
use Rattle.std.specs.Prelude.{ℤ, ⊤, slice_get}
use Rattle.sim_base.specs.declared.numbering.DeclNo.{DeclNo}
use Rattle.sim_scope.specs.Source.{Source, denoted, type_at}
use Rattle.sim_tree.specs.Syntax.{Expression, Expressions, NoMore, Then}
use Rattle.sim_tree.specs.Syntax as syntax
use Rattle.sim_code.specs.Code.{CodeOf}
use Rattle.sim_meaning.specs.Attributes.{connection_at}
use Rattle.sim_meaning.specs.Closing.{by_name, is_placed, name_denoted, stream_of, typed_token}
use Rattle.sim_meaning.specs.Levels.{qualification}
use Rattle.sim_meaning.specs.Pending.{Use}
use Rattle.codegen_expr.specs.Sites.{Site, lined}
use Rattle.codegen_expr.specs.CodeExpr.{line_of_use, use_instr}
use Rattle.sim_relate.proofs.Known.{ActualCode, Any, Kind, Located, Named, Refers}
use Rattle.sim_relate.proofs.Trees.{UseClassed}
use Rattle.sim_relate.proofs.Waiting.{AValue, NoValue, OfName, Wait}

-- Where a variable lies that is an actual parameter: a cell, or an element of an array, or where a parameter by name lies.
abbrev pub through_given : (connection : Option ℕ) → (formal : Option DeclNo) → Expressions → Kind
through_given None (Some d) NoMore = Named
through_given connection formal NoMore = Located
through_given connection formal (Then e es) = Any

abbrev pub dot_given : (stream : Option ℕ) → Expressions → Kind
dot_given None NoMore = Located
dot_given stream es = Any

abbrev pub place_given : Source → Expression → Kind
place_given s (syntax.Named name es) = through_given (connection_at s name.token.0) (name_denoted s (denoted s name.token.0)) es
place_given s (syntax.Dot token a name es) = dot_given (stream_of s a) es
place_given s _ = Any

-- what an actual parameter gives
abbrev pub kind_placed : Source → (placed : Bool) → (formal : Option DeclNo) → (class : Option ℕ) → Expression → Kind
kind_placed s false formal class e = Any
kind_placed s true None (Some k) e = Refers k
kind_placed s true formal class e = place_given s e

-- a procedure is a value
abbrev pub kind_given : Source → (as_procedure : Bool) → Expression → Kind
kind_given s true e = Any
kind_given s false e = kind_placed s (is_placed s e) (by_name s e) (qualification s (type_at s (typed_token e))) e

-- The code of an actual parameter that is closed where it is evaluated. In an evaluation all temps are in use.
pub record CloseIs (s : Source) (code : CodeOf) (site : Site) (as_procedure : Bool) (e : Expression) (p q : ℕ) (before behind : List Kind) : Type 0 where
  pub was : ℕ
  pub gives : ActualCode s code (record site { used = was }) as_procedure e p q
  pub none : before ≡ []
  pub out : behind ≡ kind_given s as_procedure e ∷ []

-- What an evaluation is for: the use of a parameter by name, or the passing of one, directly before the place where control goes on. Its operands are
-- a level and a cell, or two thunks.
pub record AskedIs (s : Source) (code : CodeOf) (wanted : Use) (pc : ℕ) : Type 0 where
  pub place : ℕ
  pub first : ℤ
  pub second : ℤ
  pub is : slice_get code.instrs place ≡ Some (lined (use_instr s code wanted first second) (line_of_use wanted))
  pub on : pc ≡ suc place
  pub classed : UseClassed s wanted

abbrev pub AskedAt : Source → CodeOf → Wait → (pc : ℕ) → Type 0
AskedAt s code NoValue pc = ⊤
AskedAt s code AValue pc = ⊤
AskedAt s code (OfName wanted) pc = AskedIs s code wanted pc
