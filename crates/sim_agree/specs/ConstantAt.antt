-- Where a constant is declared, and its value.
use Rattle.std.specs.Prelude.{◌≡◌, ◌⊎◌, ℕ, List, ◌∷◌, Option, Some}
use Rattle.sim_base.specs.declared.numbering.DeclNo.{DeclNo}
use Rattle.sim_tree.specs.declared.expr.Identifier.{Identifier}
use Rattle.sim_tree.specs.declared.stmt.Constant.{Constant}
use Rattle.sim_tree.specs.declared.stmt.TypeName.{TypeName}
use Rattle.sim_tree.specs.declared.stmt.Variable.{Variable}
use Rattle.sim_tree.specs.Syntax.{Declaration as Declared, Declarations, Heading, Statements, Variables, With, Expressions}
use Rattle.sim_scope.specs.declared.types.SimType.{SimType}
use Rattle.sim_scope.specs.Declare.{type_named}
use Rattle.sim_scope.specs.Source.{Source}
use Rattle.sim_meaning.specs.Texts.{BlockText, ClassText, constant_of, constant_value, kind_of_type, text, PrefixedText}

-- a declaration of variables among those of a block, and a variable among those of a declaration
pub data Lists (type : TypeName) (vs : List Variable) : Declarations → Type 0 where
  at_first : {ds : Declarations} → Lists type vs (With (Variables type vs) ds)
  further : {d : Declared} {ds : Declarations} → Lists type vs ds → Lists type vs (With d ds)

pub data OneOf (v : Variable) : List Variable → Type 0 where
  head : {vs : List Variable} → OneOf v (v ∷ vs)
  tail : {w : Variable} {vs : List Variable} → OneOf v vs → OneOf v (w ∷ vs)

-- a block with these declarations, a class, and a block with a prefix
pub record InBlock (s : Source) (k : ℕ) (ds : Declarations) : Type 0 where
  pub begin : ℕ
  pub statements : Statements
  pub is : text s k ≡ Some (BlockText begin ds statements)

pub record InClass (s : Source) (k : ℕ) (ds : Declarations) : Type 0 where
  pub prefix : Option Identifier
  pub heading : Heading
  pub statements : Statements
  pub is : text s k ≡ Some (ClassText prefix heading ds statements)

pub record InPrefixed (s : Source) (k : ℕ) (ds : Declarations) : Type 0 where
  pub class : Identifier
  pub arguments : Expressions
  pub statements : Statements
  pub is : text s k ≡ Some (PrefixedText class arguments ds statements)

-- where a constant is declared, and what is written there
pub record ConstantAt (s : Source) (d : DeclNo) (ty : SimType) : Type 0 where
  pub block : ℕ
  pub declarations : Declarations
  pub is : InBlock s block declarations ⊎ (InClass s block declarations ⊎ InPrefixed s block declarations)
  pub type : TypeName
  pub named : kind_of_type (type_named type) ≡ kind_of_type ty
  pub variables : List Variable
  pub declared : Lists type variables declarations
  pub variable : Variable
  pub one : OneOf variable variables
  pub constant : Constant
  pub has : variable.value ≡ Some constant
  pub value : constant_of s d ≡ constant_value s constant
