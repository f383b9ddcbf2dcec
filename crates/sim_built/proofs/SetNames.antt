-- The attributes of standard classes and of `simulation`: as many actual parameters as each takes, and a value just where its declaration says so.
use Rattle.std.proofs.Common.{◌≡◌, ℕ, Bool, true, false, length, Option, Some, None, refl, ◌∙◌}
use Rattle.sim_scope.specs.declared.types.SimType.{SimType}
use Rattle.sim_scope.specs.Source.{Source}
use Rattle.sim_scope.specs.Standard.{parameter_of}
use Rattle.sim_tree.specs.Syntax.{Expressions}
use Rattle.sim_values.specs.declared.standard.Standard.{Standard}
use Rattle.sim_values.specs.declared.standard.Standard.TheVariants as name
use Rattle.sim_values.specs.declared.standard.StandardType.{StandardType}
use Rattle.sim_values.specs.declared.standard.StandardType.TheVariants as of
use Rattle.sim_values.specs.Standard.{row_of}
use Rattle.sim_code.specs.Sets.{is_attribute_name, parameter_count}
use Rattle.sim_code.specs.Simulations.{actual_count, is_simulation_name}
use Rattle.sim_meaning.specs.Attributes.{attribute_formals}
use Rattle.sim_meaning.specs.Closing.{has_type}
use Rattle.sim_meaning.specs.Statements.{has_value}
use Rattle.sim_sound.specs.Typed.{SetType}
use Rattle.codegen_expr.specs.CodeExpr.{SetNamed, SimulationNamed, operands}

-- a type of the table is there where the declaration has one
type_given : (s : Source) (linkage : ℕ) (t : Option StandardType) (r : Option SimType) → SetType s linkage t r → has_type r ≡ has_value t
type_given s linkage None None a = refl
type_given s linkage None (Some r) a = absurd a
type_given s linkage (Some t) (Some r) a = refl
type_given s linkage (Some of.Integer) None a = absurd a
type_given s linkage (Some of.Boolean) None a = absurd a
type_given s linkage (Some of.Character) None a = absurd a
type_given s linkage (Some of.Text) None a = absurd a
type_given s linkage (Some of.Reference) None a = absurd a
type_given s linkage (Some of.Linkage) None a = absurd a
type_given s linkage (Some of.Link) None a = absurd a
type_given s linkage (Some of.Head) None a = absurd a
type_given s linkage (Some of.Process) None a = absurd a

abbrev one_if : Bool → ℕ
one_if true = 1
one_if false = 0

formals_given : (parameter : Option SimType) → length (attribute_formals parameter) ≡ one_if (has_type parameter)
formals_given None = refl
formals_given (Some r) = refl

-- a name takes a parameter where its row has one
row_takes : (n : Standard) → is_attribute_name n ≡ true → one_if (has_value (parameter_of n)) ≡ parameter_count n
unfolding row_of
row_takes name.Suc e = refl
row_takes name.Pred e = refl
row_takes name.Prev e = refl
row_takes name.Out e = refl
row_takes name.Follow e = refl
row_takes name.Precede e = refl
row_takes name.Into e = refl
row_takes name.First e = refl
row_takes name.Last e = refl
row_takes name.Empty e = refl
row_takes name.Cardinal e = refl
row_takes name.Clear e = refl
row_takes name.Idle e = refl
row_takes name.Terminated e = refl
row_takes name.Evtime e = refl
row_takes name.Nextev e = refl
row_takes _ e = absurd (cc)

simulation_takes : (n : Standard) → is_simulation_name n ≡ true → one_if (has_value (parameter_of n)) ≡ actual_count n
unfolding row_of
simulation_takes name.Time e = refl
simulation_takes name.Current e = refl
simulation_takes name.Main e = refl
simulation_takes name.Hold e = refl
simulation_takes name.Passivate e = refl
simulation_takes name.Wait e = refl
simulation_takes name.Cancel e = refl
simulation_takes _ e = absurd (cc)

same_one : (a b : Bool) → a ≡ b → one_if a ≡ one_if b
same_one true true e = refl
same_one false false e = refl
same_one true false e = absurd (cc)
same_one false true e = absurd (cc)

-- one is built with as many actual parameters as it has formal ones
pub set_named : (s : Source) (n : Standard) (parameter result : Option SimType) (linkage : ℕ) (es : Expressions) → is_attribute_name n ≡ true → operands es ≡ length (attribute_formals parameter)
    → SetType s linkage (parameter_of n) parameter → SetType s linkage (row_of n).result result → SetNamed n result (operands es)
set_named s n parameter result linkage es is count p r = record {
  is_name = is;
  as_many = count ∙ formals_given parameter ∙ same_one (has_type parameter) (has_value (parameter_of n)) (type_given s linkage (parameter_of n) parameter p) ∙ row_takes n is;
  leaves = type_given s linkage (row_of n).result result r;
}

pub simulation_named : (s : Source) (n : Standard) (parameter result : Option SimType) (linkage : ℕ) (es : Expressions) → is_simulation_name n ≡ true → operands es ≡ length (attribute_formals parameter)
    → SetType s linkage (parameter_of n) parameter → SetType s linkage (row_of n).result result → SimulationNamed n result (operands es)
simulation_named s n parameter result linkage es is count p r = record {
  is_name = is;
  as_many = count ∙ formals_given parameter ∙ same_one (has_type parameter) (has_value (parameter_of n)) (type_given s linkage (parameter_of n) parameter p) ∙ simulation_takes n is;
  leaves = type_given s linkage (row_of n).result result r;
}
