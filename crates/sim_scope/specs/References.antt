-- Classes in expressions: behind `new`, `this`, `qua`, `is`, `in` and `when`.
use Rattle.std.specs.Prelude.{ℕ, zero, suc, Bool, true, false, ◌||◌, ◌&&◌, not, nat_eq, if◌then◌else◌, length, Option, Some, None}
use Rattle.sim_base.specs.declared.numbering.DeclNo.{DeclNo}
use Rattle.sim_base.specs.declared.rule.Rule.TheVariants as r
use Rattle.sim_tree.specs.declared.expr.Identifier.{Identifier}
use Rattle.sim_scope.specs.declared.outcome.Actuals.{Actuals}
use Rattle.sim_scope.specs.declared.outcome.Extent.{Extent}
use Rattle.sim_scope.specs.declared.outcome.Extent.TheVariants as extent
use Rattle.sim_scope.specs.declared.outcome.Occurrence.{Occurrence}
use Rattle.sim_scope.specs.declared.outcome.Outcome.{Outcome}
use Rattle.sim_scope.specs.declared.outcome.Outcome.TheVariants as is
use Rattle.sim_scope.specs.declared.outcome.Side.{Side}
use Rattle.sim_scope.specs.declared.scopes.Denotation.{Denotation}
use Rattle.sim_scope.specs.declared.scopes.Denotation.TheVariants as denotation
use Rattle.sim_scope.specs.declared.standard.StandardName.{StandardName}
use Rattle.sim_scope.specs.declared.standard.StandardName.TheVariants as standard
use Rattle.sim_scope.specs.declared.types.StandardPrefix.TheVariants as standard_prefix
use Rattle.sim_scope.specs.declared.types.SimType.{SimType}
use Rattle.sim_scope.specs.declared.types.SimType.TheVariants as t
use Rattle.sim_scope.specs.Access.{block_at, encloser}
use Rattle.sim_scope.specs.Calls.{bound, located, misfitting_or, nothing_there, occurs}
use Rattle.sim_scope.specs.Found.{Broken, Typed}
use Rattle.sim_scope.specs.Judged.{Judged, bars, gives, next, telling}
use Rattle.sim_scope.specs.Levels.{class_block, has_level, has_standard, is_for_prefixing, is_simulation_block, level_beyond, on_one_chain, some_level}
use Rattle.sim_scope.specs.Operators.{is_reference}
use Rattle.sim_scope.specs.Outcomes.{has}
use Rattle.sim_scope.specs.Scopes.{class_formals, shows_detach}
use Rattle.sim_scope.specs.Standard.{is_standard_class}
use Rattle.sim_scope.specs.Tables.{Tables}

-- A class that is named: one of the program, or `simset` or `simulation`.
-- S12: the identifier denotes a class.
abbrev pub no_class : (token : ℕ) → Judged Occurrence
no_class token = telling (Broken token r.WrongKind) nothing_there

abbrev pub declared_class : (token : ℕ) → DeclNo → (barred : Bool) → Option ℕ → Judged Occurrence
declared_class token d barred None = no_class token
declared_class token d barred (Some block) = gives (occurs (Some (denotation.Declared d)) barred)

abbrev pub standard_class : (token : ℕ) → StandardName → (barred : Bool) → Judged Occurrence
standard_class token name barred = if is_standard_class name then gives (occurs (Some (denotation.Standard name)) barred) else no_class token

abbrev pub class_denoted : Tables → (token : ℕ) → Option Denotation → (barred : Bool) → Judged Occurrence
class_denoted s token None barred = gives nothing_there
class_denoted s token (Some (denotation.Declared d)) barred = declared_class token d barred (class_block s d)
class_denoted s token (Some (denotation.Standard name)) barred = standard_class token name barred

unfoldable pub as_class : Tables → (token : ℕ) → Occurrence → Judged Occurrence
as_class s token o = class_denoted s token o.denotes o.barred

-- a class, where the identifier denotes one, and whether S22 bars it
unfoldable pub class_named : Tables → Extent → Identifier → Judged Occurrence
class_named s e x = next (bound s e x) (as_class s x.token.0)

-- S21: `simset`, `simulation` and each class with `simulation` in its chain are only for prefixing.
abbrev pub for_prefixing : Tables → Option ℕ → Bool
for_prefixing s None = false
for_prefixing s (Some block) = is_for_prefixing s block

unfoldable pub is_only_prefix : Tables → Denotation → Bool
is_only_prefix s (denotation.Declared d) = for_prefixing s (class_block s d)
is_only_prefix s (denotation.Standard name) = true

abbrev pub only_prefix : Tables → Option Denotation → Bool
only_prefix s None = false
only_prefix s (Some class) = is_only_prefix s class

abbrev pub class_type : Denotation → SimType
class_type (denotation.Declared d) = t.Ref d
class_type (denotation.Standard name) = t.NoneType

-- S16: a reference and a class lie on one prefix chain. No reference is of a class that is only for prefixing; `none` is of every class.
abbrev pub chained_with : Tables → Denotation → SimType → Bool
chained_with s (denotation.Declared d) (t.Ref c) = on_one_chain s c d
chained_with s (denotation.Standard name) (t.Ref c) = false
chained_with s class ty = true

abbrev pub other_chain : Tables → Option Denotation → Option SimType → Bool
other_chain s (Some class) (Some ty) = not (chained_with s class ty)
other_chain s class ty = false

-- S16 and S21 of a class behind an operand, each by itself: whether one is broken
unfoldable pub class_fits : Tables → (token : ℕ) → Option Denotation → Option SimType → Judged Bool
class_fits s token class ty =
    next (bars (other_chain s class ty) token r.DifferentChains) (λ a. next (bars (only_prefix s class) token r.OnlyForPrefixing) (λ b. gives (a || b)))

-- `is`, `in` and `qua`. S13: the operand is a reference. It and the class are judged each by itself.
abbrev pub is_no_reference : Option SimType → Bool
is_no_reference None = false
is_no_reference (Some ty) = not (is_reference ty)

-- a value of a type, where both are known and nothing bars them
abbrev pub class_value : (naming : ℕ) → (barred : Bool) → Option SimType → Option Denotation → (Denotation → SimType) → Judged Outcome
class_value naming false (Some ty) (Some class) type = has naming (type class)
class_value naming barred ty class type = gives is.Refused

abbrev pub class_barred : Tables → Side → (token : ℕ) → Occurrence → Judged Bool
class_barred s x token o =
    next (bars (is_no_reference x.ty) x.first.0 r.WrongType) (λ a. next (class_fits s token o.denotes x.ty) (λ b. gives (a || b || o.barred)))

abbrev pub class_compared : Tables → (naming : ℕ) → Side → (token : ℕ) → Occurrence → (Denotation → SimType) → Judged Outcome
class_compared s naming x token o type = next (class_barred s x token o) (λ b. class_value naming b x.ty o.denotes type)

abbrev pub truth_of : Denotation → SimType
truth_of class = t.Boolean

unfoldable pub member : Tables → (naming : ℕ) → Side → Identifier → Occurrence → Judged Outcome
member s naming x name o = class_compared s naming x name.token.0 o truth_of

unfoldable pub qualified : Tables → (naming : ℕ) → Side → Identifier → Occurrence → Judged Outcome
qualified s naming x name o = class_compared s naming x name.token.0 o class_type

-- `this`. The innermost class, prefixed block or connection around a token that has a class among its levels.
abbrev pub level_is : Tables → Denotation → Option ℕ → (block : ℕ) → Bool
level_is s (denotation.Declared d) None block = false
level_is s (denotation.Declared d) (Some level) block = has_level s block level
level_is s (denotation.Standard (standard.Prefix standard_prefix.Simulation)) level block = some_level s (is_simulation_block s) block
level_is s (denotation.Standard name) level block = some_level s (has_standard s) block

abbrev pub block_of_class : Tables → Denotation → Option ℕ
block_of_class s (denotation.Declared d) = class_block s d
block_of_class s (denotation.Standard name) = None

unfoldable pub is_this : Tables → Denotation → (block : ℕ) → Bool
is_this s class block = shows_detach s block && level_is s class (block_of_class s class) block

-- the innermost of so many blocks, from one outward, that `this` means
unfoldable pub this_of : Tables → ℕ → Denotation → (block : ℕ) → Option ℕ
this_of s zero class block = None
this_of s (suc more) class block = if is_this s class block then Some block else level_beyond (λ b. this_of s more class b) (encloser s block)

-- the block that `this` means at a token
unfoldable pub this_block : Tables → (token : ℕ) → Denotation → Option ℕ
this_block s token class = level_beyond (λ b. this_of s (length s.blocks) class b) (block_at s token)

-- S22: in a bound it is not the object or prefixed block to which the array belongs
abbrev pub is_its_own : Option ℕ → ℕ → Bool
is_its_own None block = false
is_its_own (Some place) block = nat_eq place block

unfoldable pub this_barred : Tables → Extent → (token : ℕ) → Option ℕ → Bool
this_barred s e token None = false
this_barred s extent.Statement token (Some block) = false
this_barred s extent.Bound token (Some block) = is_its_own (block_at s token) block

abbrev pub is_nowhere : Option ℕ → Bool
is_nowhere None = true
is_nowhere (Some block) = false

-- S18: there is such a block. S21, S22: each by itself. Whether one is broken.
unfoldable pub this_fits : Tables → Extent → (token : ℕ) → Denotation → Option ℕ → Judged Bool
this_fits s e token class block =
    next (bars (is_nowhere block) token r.ThisOutsideItsClass) (λ a. next (bars (is_only_prefix s class) token r.OnlyForPrefixing) (λ b.
    next (bars (this_barred s e token block) token r.BoundDependsOnItsBlock) (λ c. gives (a || b || c))))

abbrev pub this_value : (naming : ℕ) → Denotation → (barred : Bool) → Judged Outcome
this_value naming class true = gives is.Refused
this_value naming class false = has naming (class_type class)

abbrev pub this_found : Tables → Extent → (naming token : ℕ) → Denotation → (barred : Bool) → Option ℕ → Judged Outcome
this_found s e naming token class barred block =
    next (located naming block) (λ n. next (this_fits s e token class block) (λ b. this_value naming class (b || barred)))

abbrev pub this_of_class : Tables → Extent → (naming token : ℕ) → Option Denotation → (barred : Bool) → Judged Outcome
this_of_class s e naming token None barred = gives is.Refused
this_of_class s e naming token (Some class) barred = this_found s e naming token class barred (this_block s token class)

unfoldable pub this_object : Tables → Extent → (naming : ℕ) → Identifier → Occurrence → Judged Outcome
this_object s e naming x o = this_of_class s e naming x.token.0 o.denotes o.barred

-- `new`. S15: there are as many actuals as the levels of the class have parameters. A generation also stands as a statement.
abbrev pub formal_count_of : Tables → Option ℕ → ℕ
formal_count_of s None = 0
formal_count_of s (Some block) = length (class_formals s block)

abbrev pub formal_count : Tables → Denotation → ℕ
formal_count s class = formal_count_of s (block_of_class s class)

abbrev pub generates : (naming : ℕ) → SimType → Judged Outcome
generates naming ty = telling (Typed naming ty) (is.Called ty)

-- While an actual has no type, their number is not judged; that the class is only for prefixing is.
abbrev pub wrong_number : Tables → Denotation → Actuals → Bool
wrong_number s class a = a.typed && not (nat_eq (formal_count s class) a.count)

abbrev pub generated : (naming : ℕ) → Denotation → Actuals → (barred : Bool) → Judged Outcome
generated naming class a true = gives is.Refused
generated naming class a false = if a.typed then misfitting_or a.misfit (generates naming (class_type class)) else gives is.Refused

abbrev pub new_of : Tables → (naming token : ℕ) → Denotation → (barred : Bool) → Actuals → Judged Outcome
new_of s naming token class barred a =
    next (bars (wrong_number s class a) token r.WrongNumber) (λ p. next (bars (is_only_prefix s class) token r.OnlyForPrefixing) (λ q.
    generated naming class a (p || q || barred)))

abbrev pub new_of_class : Tables → (naming token : ℕ) → Option Denotation → (barred : Bool) → Actuals → Judged Outcome
new_of_class s naming token None barred a = gives is.Refused
new_of_class s naming token (Some class) barred a = new_of s naming token class barred a

unfoldable pub new_object : Tables → (naming : ℕ) → Identifier → Occurrence → Actuals → Judged Outcome
new_object s naming x o a = new_of_class s naming x.token.0 o.denotes o.barred a
