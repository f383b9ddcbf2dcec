-- What is written of the controlled variable of a `for` statement.
use Rattle.std.specs.Prelude.{◌≡◌, ⊤, ℕ, Bool, true, false, List, [], ◌∷◌, Option, Some, None, option_map}
use Rattle.sim_base.specs.declared.numbering.Line.{Line}
use Rattle.sim_scope.specs.declared.bound.Bound.{Bound}
use Rattle.sim_scope.specs.Source.{Source, source_of}
use Rattle.sim_tree.specs.Syntax.{Element, Named, NoMore}
use Rattle.codegen_expr.specs.declared.spot.Spot.{Spot}
use Rattle.codegen_expr.specs.Built.{KeyBuilt, slot_in}
use Rattle.codegen_expr.specs.Drafts.{DraftOf, Emits}
use Rattle.codegen.specs.declared.targets.Target.{Target}
use Rattle.codegen.specs.declared.targets.Target.TheVariants as target
use Rattle.codegen.specs.BuiltProgram.{ElementBuilt, VariableBuilt}
use Rattle.codegen.specs.CodeFor.{LoadsVariable, OfCell, OfPlace, OfReference, StoresVariable, Variable}

abbrev pub line_in : Line → ℕ
line_in line = line.0

abbrev pub is_none : Option Line → Bool
is_none None = true
is_none (Some line) = false

-- whether the variable takes values that are no references
abbrev pub takes_values : Target → Bool
takes_values (target.Cell home place assigned) = is_none assigned
takes_values (target.Place name assigned) = is_none assigned
takes_values (target.Reference name line) = false

-- the line of the sign, where its text gets the characters of others
abbrev pub assigned_in : Target → Option Line
assigned_in (target.Cell home place assigned) = assigned
assigned_in (target.Place name assigned) = assigned
assigned_in (target.Reference name line) = None

-- a variable, as it is found in a text
abbrev pub Controls : Source → (text : ℕ) → Target → Variable → Type 0
Controls s t (target.Cell text place assigned) (OfCell home key line) =
    (text ≡ home) × (slot_in s home key ≡ Some place) × (option_map line_in assigned ≡ line) × KeyBuilt s t home key
Controls s t (target.Place name assigned) (OfPlace e line) = (e ≡ Named name.now NoMore) × (option_map line_in assigned ≡ line)
Controls s t (target.Reference name at) (OfReference e line) = (e ≡ Named name.now NoMore) × (at.0 ≡ line)
Controls s t _ _ = ⊥

-- elements over a variable that is built
abbrev pub ElementOver : Source → (text : ℕ) → Variable → Element → Type 0
ElementOver s text v x = VariableBuilt s text v × ElementBuilt s text v x

abbrev pub ElementsOver : Source → (text : ℕ) → Variable → List Element → Type 0
ElementsOver s text v [] = ⊤
ElementsOver s text v (x ∷ xs) = ElementOver s text v x × ElementsOver s text v xs

-- a list of one element or more
abbrev pub ListOver : Source → (text : ℕ) → Variable → List Element → (Body : Type 0) → Type 0
ListOver s text v [] Body = ⊥
ListOver s text v (x ∷ xs) Body = ElementsOver s text v (x ∷ xs) × Body

-- the value on top of n others goes to the variable
unfoldable pub WritesStored : Bound → Spot → (n : ℕ) → (old new : DraftOf) → Target → Type 0
WritesStored b w n old new t =
    (v : Variable) → Controls (source_of b) w.text t v → Emits w old new (VariableBuilt (source_of b) w.text v) (λ final site p q. StoresVariable (source_of b) final site n v p q)

-- the value of the variable, on n others
unfoldable pub WritesLoaded : Bound → Spot → (n : ℕ) → (old new : DraftOf) → Target → Type 0
WritesLoaded b w n old new t =
    (v : Variable) → Controls (source_of b) w.text t v → Emits w old new (VariableBuilt (source_of b) w.text v) (λ final site p q. LoadsVariable (source_of b) final site n v p q)
