-- Connections: the class that each one connects.
use Rattle.std.specs.Prelude.{ℕ, [], ◌∷◌, Option, Some, None}
use Rattle.sim_tree.specs.declared.expr.Identifier.{Identifier}
use Rattle.sim_tree.specs.Syntax.{Expression, Program}
use Rattle.sim_scope.specs.declared.outcome.Extent.TheVariants.{Statement}
use Rattle.sim_scope.specs.declared.scopes.Denotation.{Denotation}
use Rattle.sim_scope.specs.declared.scopes.Denotation.TheVariants as denotation
use Rattle.sim_scope.specs.declared.types.SimType.{SimType}
use Rattle.sim_scope.specs.declared.types.SimType.TheVariants as t
use Rattle.sim_scope.specs.Access.{block_at}
use Rattle.sim_scope.specs.Expressions.{judge_side}
use Rattle.sim_scope.specs.Levels.{class_block}
use Rattle.sim_scope.specs.Runs.{run}
use Rattle.sim_scope.specs.Scopes.{binding}
use Rattle.sim_scope.specs.Tables.{Tables, with_base_at}
use Rattle.sim_scope.specs.Walk.{Visit, program_events}

-- What is met, from left to right: the object of `inspect .. do`, the class behind `when`, and the beginning of a connection, which connects
-- what was met last.
pub data Connecting : Type 0 where
  Looks : (object : Expression) → Connecting
  Names : (class : Identifier) → Connecting
  Connects : (opening : ℕ) → Connecting

-- the tables so far, in which the connections further to the left have their classes; the block of the class to be connected
pub record ConnectingOf : Type 0 where
  pub tables : Tables
  pub next : Option ℕ

abbrev pub class_of_type : Tables → Option SimType → Option ℕ
class_of_type s (Some (t.Ref class)) = class_block s class
class_of_type s _ = None

abbrev pub class_of_name : Tables → Option Denotation → Option ℕ
class_of_name s (Some (denotation.Declared d)) = class_block s d
class_of_name s _ = None

abbrev pub connected_at : Tables → Option ℕ → Option ℕ → Tables
connected_at s None class = s
connected_at s (Some block) class = with_base_at s block class

unfoldable pub connecting : ConnectingOf → Connecting → ConnectingOf
connecting c (Looks object) = record c { next = class_of_type c.tables (judge_side c.tables Statement object).value.ty }
connecting c (Names class) = record c { next = class_of_name c.tables (binding c.tables class.token.0 class.name) }
connecting c (Connects opening) = record c { tables = connected_at c.tables (block_at c.tables opening) c.next }

-- what the parts of a program connect
unfoldable pub connections : Visit Connecting
connections = record {
  program = λ prefix begin. [];
  block = λ begin. [];
  prefixed = λ class arguments begin. [];
  procedure = λ result token h. [];
  class = λ prefix token h i. [];
  connected = λ opening. Connects opening ∷ [];
  leave = λ end. [];
  variables = λ type vs. [];
  arrays = λ type segments. [];
  inner = λ p token. [];
  call = λ e. [];
  assign = λ left rest. [];
  condition = λ e. [];
  control = λ x sign token es. [];
  inspect = λ token object. Looks object ∷ [];
  inspect_when = λ token object classes. [];
  arm = λ class. Names class ∷ [];
  activate = λ token word process schedule. [];
}

-- the tables of a program with the class of each connection
unfoldable pub connected : Tables → Program → Tables
connected s p = (run connecting (record { tables = s; next = None }) (program_events connections p)).tables
