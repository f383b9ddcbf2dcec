-- What is written of the attributes of SIMSET and of processes.
use Rattle.std.specs.Prelude.{◌≡◌, not, ℕ, suc, pos, Bool, true, false, List, map, slice_get, Option, Some, None}
use Rattle.sim_base.specs.declared.numbering.TokenNo.{TokenNo}
use Rattle.sim_scope.specs.declared.bound.Bound.{Bound}
use Rattle.sim_scope.specs.declared.types.Entry.{Entry}
use Rattle.sim_scope.specs.declared.types.Entry.TheVariants as entry
use Rattle.sim_scope.specs.declared.types.SimType.{SimType}
use Rattle.sim_scope.specs.Source.{line_at, source_of}
use Rattle.sim_tree.specs.declared.expr.Expr.{Expr}
use Rattle.sim_tree.specs.Syntax.{expressions}
use Rattle.sim_tree.specs.SyntaxOf.{syntax_of}
use Rattle.sim_values.specs.declared.standard.Standard.{Standard}
use Rattle.sim_code.specs.declared.instr.Instr.TheVariants as i
use Rattle.sim_code.specs.Names.{standard_names}
use Rattle.sim_code.specs.Running.{runs}
use Rattle.sim_code.specs.Sets.{is_attribute_name}
use Rattle.sim_meaning.specs.Attributes.{attribute_formals}
use Rattle.codegen_expr.specs.declared.sets.SetProcedure.{SetProcedure}
use Rattle.codegen_expr.specs.declared.spot.Spot.{Spot}
use Rattle.codegen_expr.specs.Built.{ActualsBuilt}
use Rattle.codegen_expr.specs.CodeExpr.{ActualsAt, Listed, SetAt, SetNamed, operands}
use Rattle.codegen_expr.specs.Drafts.{DraftOf, Emits}
use Rattle.codegen_expr.specs.Emit.{WritesActuals}
use Rattle.codegen_expr.specs.EmitObjects.{Base, BaseAt, BaseBuilt, PutsBase}

-- an attribute of a class of SIMSET or SIMULATION, if that is declared
abbrev pub set_procedure : Option Entry → Option SetProcedure
set_procedure (Some (entry.Attribute name parameter result)) = Some (record { name = name; parameter = parameter; result = result })
set_procedure _ = None

-- whether there is a result just where a value is left
abbrev pub as_declared : Option SimType → (leaves : Bool) → Bool
as_declared None leaves = not leaves
as_declared (Some type) leaves = leaves

-- the number of a name that objects have
abbrev pub NumberOfSet : Standard → Option ℕ → Type 0
NumberOfSet name None = is_attribute_name name ≡ false
NumberOfSet name (Some n) = (is_attribute_name name ≡ true) × (slice_get standard_names n ≡ Some name) × (runs (i.Std (pos n)) ≡ true)

-- the number of one that is of an object, and has so many actual parameters
abbrev pub CodeOfSet : SetProcedure → (count : ℕ) → Option ℕ → Type 0
CodeOfSet x count None = SetNamed x.name x.result count → ⊥
CodeOfSet x count (Some n) = SetNamed x.name x.result count × (slice_get standard_names n ≡ Some x.name) × (runs (i.Std (pos n)) ≡ true)

unfoldable pub FindsSet : SetProcedure → (count : ℕ) → Option ℕ → Type 0
FindsSet x count number = CodeOfSet x count number

-- actual parameters for a formal of this type, or for none; the token is that of the identifier that is called
unfoldable pub WritesReferences : Bound → Spot → (n : ℕ) → (old new : DraftOf) → TokenNo → Option SimType → List Expr → Type 0
WritesReferences b w n old new token type es = WritesActuals b w n old new false token es (attribute_formals type)

-- such an attribute of the object on top; the token is that of its identifier
unfoldable pub WritesSet : Bound → Spot → (n : ℕ) → (old new : DraftOf) → TokenNo → SetProcedure → List Expr → Type 0
WritesSet b w n old new token y ys =
    let s = source_of b in
    let es = expressions (map syntax_of ys) in
    (start : DraftOf) (x : Base) → PutsBase s w n start old x
    → Emits w start new (BaseBuilt s w.text x × SetNamed y.name y.result (operands es) × ActualsBuilt s w.text es (Listed (attribute_formals y.parameter)))
    (λ final site p q. SetAt final (line_at s token.0) y.name y.result es (λ u v. BaseAt s final site n x u v) (λ u v. ActualsAt s final site (suc n) (line_at s token.0) false es (Listed (attribute_formals y.parameter)) u v) p q)
