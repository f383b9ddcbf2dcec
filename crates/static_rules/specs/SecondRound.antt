-- The rules of the second round, each a clause of its own: qualifications, virtual procedures and protection parts.
use Rattle.std.specs.Prelude.{◌≡◌, ℕ, ◌||◌, true, false, Option, Some, None, slice_get}
use Rattle.sim_base.specs.declared.numbering.DeclNo.{DeclNo}
use Rattle.sim_tree.specs.Syntax.{Program}
use Rattle.sim_scope.specs.Access.{hides, protector}
use Rattle.sim_scope.specs.Declare.{declared_by}
use Rattle.sim_scope.specs.Actuals.{result_in}
use Rattle.sim_scope.specs.Levels.{base, class_block, is_for_prefixing, some_level}
use Rattle.sim_scope.specs.Scopes.{binding, entry_of, lookup}
use Rattle.sim_scope.specs.Tables.{Tables}
use Rattle.sim_scope.specs.declared.scopes.Declaration.{Declaration}
use Rattle.sim_scope.specs.declared.scopes.Denotation.{Denotation}
use Rattle.sim_scope.specs.declared.scopes.Denotation.TheVariants as denotation
use Rattle.sim_scope.specs.declared.scopes.Protection.{Protection}
use Rattle.sim_scope.specs.declared.scopes.Qualification.{Qualification}
use Rattle.sim_scope.specs.declared.standard.StandardName.{StandardName}
use Rattle.sim_scope.specs.declared.types.Entry.{Entry}
use Rattle.sim_scope.specs.declared.types.Entry.TheVariants as entry
use Rattle.sim_scope.specs.declared.types.SimType.{SimType}
use Rattle.sim_static.specs.Check.{completed}
use Rattle.virtual_match.specs.Matching.{is_procedure, results_fit, virtual_for}

-- the tables with the class of each prefix, of each reference and of each connection
abbrev pub whole_tables : Program → Tables
whole_tables p = completed (declared_by p).tables p

-- What is no qualification: an identifier that is not declared, a standard name, what is no class, and a class that is only for prefixing.
pub data IsNoQualification (s : Tables) : Option Denotation → Type 0 where
  not_declared : IsNoQualification s None
  standard_name : {name : StandardName} → IsNoQualification s (Some (denotation.Standard name))
  no_class : {d : DeclNo} → class_block s d ≡ None → IsNoQualification s (Some (denotation.Declared d))
  only_for_prefixing : {d : DeclNo} {block : ℕ} → class_block s d ≡ Some block → is_for_prefixing s block ≡ true
      → IsNoQualification s (Some (denotation.Declared d))

-- S7, at the identifier in `ref( )`
pub data QualificationIsNoClass (p : Program) : (token : ℕ) → Type 0 where
  of_references : (i : ℕ) {q : Qualification} → slice_get (whole_tables p).qualifications i ≡ Some q
      → IsNoQualification (whole_tables p) (binding (whole_tables p) q.class.token.0 q.class.name) → QualificationIsNoClass p q.class.token.0

-- What is no match of a virtual: what is no procedure, and a procedure whose result has another type, or is no reference to that class or a subclass.
pub data IsNoMatch (s : Tables) (virtual : Option Entry) : Entry → Type 0 where
  no_procedure : {e : Entry} → is_procedure e ≡ false → IsNoMatch s virtual e
  other_result : {result : Option SimType} {block : ℕ} → results_fit s (result_in virtual) result ≡ false
      → IsNoMatch s virtual (entry.Procedure result block)

-- S8, at the identifier of a declaration that has the name of a virtual of its level or one outside. What `simset` and `simulation` declare is no
-- such declaration.
pub data MatchDoesNotFit (p : Program) : (token : ℕ) → Type 0 where
  of_virtual : (i : ℕ) {row : Declaration} {virtual : DeclNo} → slice_get (whole_tables p).declarations i ≡ Some row
      → (row.listed || is_procedure row.entry) ≡ true → virtual_for (whole_tables p) row ≡ Some virtual
      → IsNoMatch (whole_tables p) (entry_of (whole_tables p) virtual) row.entry → MatchDoesNotFit p row.token.0

-- Why an attribute may not stand in a protection part: it is protected and its level does not declare it; it is hidden and no level, from that one
-- outward, protects it; or a level outside hides it already.
pub data IsNotProtected (s : Tables) (q : Protection) : Type 0 where
  not_of_level : q.protects ≡ true → lookup s q.block q.attribute.name ≡ None → IsNotProtected s q
  not_protected : q.hides ≡ true → protector s q.block q.attribute.name ≡ None → IsNotProtected s q
  hidden_outside : {level outside : ℕ} → q.hides ≡ true → protector s q.block q.attribute.name ≡ Some level → base s q.block ≡ Some outside
      → some_level s (hides s level q.attribute.name) outside ≡ true → IsNotProtected s q

-- S9, at the identifier in the protection part
pub data ProtectionOfNoAttribute (p : Program) : (token : ℕ) → Type 0 where
  in_protection : (i : ℕ) {q : Protection} → slice_get (whole_tables p).protections i ≡ Some q → IsNotProtected (whole_tables p) q
      → ProtectionOfNoAttribute p q.attribute.token.0
