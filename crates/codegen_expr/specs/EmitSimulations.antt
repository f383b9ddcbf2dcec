-- What is written of the procedures of simulation blocks, and of names that are seen without a dot.
use Rattle.std.specs.Prelude.{◌≡◌, ℕ, suc, pos, Bool, true, false, List, map, slice_get, Option, Some, None}
use Rattle.sim_base.specs.declared.numbering.DeclNo.{DeclNo}
use Rattle.sim_base.specs.declared.numbering.TokenNo.{TokenNo}
use Rattle.sim_scope.specs.declared.bound.Bound.{Bound}
use Rattle.sim_scope.specs.declared.types.Entry.{Entry}
use Rattle.sim_scope.specs.Scopes.{entry_of}
use Rattle.sim_scope.specs.Source.{found_at, line_at, source_of}
use Rattle.sim_tree.specs.declared.expr.Expr.{Expr}
use Rattle.sim_tree.specs.Syntax.{expressions}
use Rattle.sim_tree.specs.SyntaxOf.{syntax_of}
use Rattle.sim_values.specs.declared.standard.Standard.{Standard}
use Rattle.sim_code.specs.declared.instr.Instr.TheVariants as i
use Rattle.sim_code.specs.Names.{standard_names}
use Rattle.sim_code.specs.Running.{runs}
use Rattle.sim_code.specs.Simulations.{is_simulation_name}
use Rattle.sim_meaning.specs.Attributes.{attribute_formals}
use Rattle.sim_meaning.specs.Closing.{formals_at}
use Rattle.codegen_expr.specs.declared.sets.SetProcedure.{SetProcedure}
use Rattle.codegen_expr.specs.declared.spot.Spot.{Spot}
use Rattle.codegen_expr.specs.Built.{ActualsBuilt, AreBuilt, OfObjectBuilt, OwnNameBuilt, SimulationFoundBuilt, StandsIn, ThisFoundBuilt}
use Rattle.codegen_expr.specs.CodeExpr.{ActualsAt, Listed, parameters_at, ExprsAt, OfObjectAt, OwnNameAt, SimulationAt, SimulationFoundAt, SimulationNamed, ThisFoundAt, operands}
use Rattle.codegen_expr.specs.Drafts.{DraftOf, Emits}
use Rattle.codegen_expr.specs.EmitSets.{set_procedure}

-- the number of a name of simulation blocks
abbrev pub NumberOfSimulation : Standard → Option ℕ → Type 0
NumberOfSimulation name None = is_simulation_name name ≡ false
NumberOfSimulation name (Some n) = (is_simulation_name name ≡ true) × (slice_get standard_names n ≡ Some name) × (runs (i.Std (pos n)) ≡ true)

-- an attribute that a simulation block has
abbrev pub kept_if : Bool → SetProcedure → Option SetProcedure
kept_if true x = Some x
kept_if false x = None

abbrev pub of_simulation : Option SetProcedure → Option SetProcedure
of_simulation None = None
of_simulation (Some x) = kept_if (is_simulation_name x.name) x

abbrev pub simulation_procedure : Option Entry → Option SetProcedure
simulation_procedure e = of_simulation (set_procedure e)

-- the number of a procedure that is one of simulation blocks, and has so many actual parameters
abbrev pub CodeOfSimulation : SetProcedure → (count : ℕ) → Option ℕ → Type 0
CodeOfSimulation x count None = SimulationNamed x.name x.result count → ⊥
CodeOfSimulation x count (Some n) = SimulationNamed x.name x.result count × (slice_get standard_names n ≡ Some x.name) × (runs (i.Std (pos n)) ≡ true)

unfoldable pub FindsSimulation : SetProcedure → (count : ℕ) → Option ℕ → Type 0
FindsSimulation x count number = CodeOfSimulation x count number

-- a procedure of the simulation block whose text this is; the token is that of its identifier
unfoldable pub WritesSimulationOf : Bound → Spot → (n : ℕ) → (old new : DraftOf) → TokenNo → (text : ℕ) → SetProcedure → List Expr → Type 0
WritesSimulationOf b w n old new token k y ys =
    let s = source_of b in
    let es = expressions (map syntax_of ys) in
    Emits w old new (SimulationNamed y.name y.result (operands es) × StandsIn s w.text k × ActualsBuilt s w.text es (Listed (attribute_formals y.parameter)))
    (λ final site p q. SimulationAt s final site n (line_at s token.0) k y.name y.result es (λ u v. ActualsAt s final site (suc n) (line_at s token.0) false es (Listed (attribute_formals y.parameter)) u v) p q)

-- a procedure of the simulation block in which it is found
unfoldable pub WritesSimulation : Bound → Spot → (n : ℕ) → (old new : DraftOf) → TokenNo → SetProcedure → List Expr → Type 0
WritesSimulation b w n old new token y ys =
    let s = source_of b in
    let es = expressions (map syntax_of ys) in
    Emits w old new (SimulationFoundBuilt s w.text (found_at s token.0) y.name y.result es (ActualsBuilt s w.text es (Listed (attribute_formals y.parameter))))
    (λ final site p q. SimulationFoundAt s final site n (line_at s token.0) (found_at s token.0) y.name y.result es (λ u v. ActualsAt s final site (suc n) (line_at s token.0) false es (Listed (attribute_formals y.parameter)) u v) p q)

-- an attribute that is seen without a dot, by its declaration: of a simulation block around, or of the object around
unfoldable pub WritesOwnName : Bound → Spot → (n : ℕ) → (old new : DraftOf) → TokenNo → DeclNo → List Expr → Type 0
WritesOwnName b w n old new token d ys =
    let s = source_of b in
    let es = expressions (map syntax_of ys) in
    Emits w old new
    (OwnNameBuilt s w.text (found_at s token.0) (entry_of s.tables d) es (ActualsBuilt s w.text es (Listed (formals_at s d)))
    (OfObjectBuilt s d (entry_of s.tables d) es (ThisFoundBuilt s w.text (found_at s token.0)) (AreBuilt s w.text es) (ActualsBuilt s w.text es (parameters_at s d))))
    (λ final site p q. OwnNameAt s final site n (line_at s token.0) (found_at s token.0) (entry_of s.tables d) es (λ x y. ActualsAt s final site (suc n) (line_at s token.0) false es (Listed (formals_at s d)) x y)
    (λ x y. OfObjectAt s final site n (line_at s token.0) d (entry_of s.tables d) es (λ x y. ThisFoundAt s final site n (found_at s token.0) x y) (λ x y. ExprsAt s final site (suc n) es x y) (λ x y. ActualsAt s final site (suc n) (line_at s token.0) false es (parameters_at s d) x y) x y) p q)
