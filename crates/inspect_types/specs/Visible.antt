-- What is seen through a connection: the attributes of the class that is connected.
use Rattle.std.specs.Prelude.{◌≡◌, ◌-◌, ⊤, ℕ, zero, suc, Bool, true, false, drop, nat_eq, filter, List, [], ◌++◌, length, Option, Some, None, Result, Ok, Err, slice_get}
use Rattle.sim_base.specs.declared.numbering.DeclNo.{DeclNo}
use Rattle.sim_base.specs.declared.numbering.TokenNo.{TokenNo}
use Rattle.sim_base.specs.declared.rule.Rule.TheVariants as r
use Rattle.sim_scope.specs.declared.refusal.StaticRefusal.{StaticRefusal}
use Rattle.sim_scope.specs.declared.refusal.StaticRefusal.TheVariants as refusal
use Rattle.sim_scope.specs.declared.scopes.Declaration.{Declaration}
use Rattle.sim_scope.specs.Levels.{base, class_block, has_classes}
use Rattle.sim_scope.specs.Scopes.{represented, shown}
use Rattle.sim_scope.specs.Tables.{BlockOf, Tables}
use Rattle.inspect_types.specs.declared.scope.Scope.{Scope}

abbrev pub numbers_in : Option BlockOf → List DeclNo
numbers_in None = []
numbers_in (Some row) = row.numbers

abbrev pub attributes_beyond : (ℕ → List DeclNo) → Option ℕ → List DeclNo
attributes_beyond search None = []
attributes_beyond search (Some block) = search block

-- what so many levels declare, from one outward
unfoldable pub attributes_of : Tables → ℕ → (block : ℕ) → List DeclNo
attributes_of s zero block = []
attributes_of s (suc more) block = numbers_in (slice_get s.blocks block) ++ attributes_beyond (λ b. attributes_of s more b) (base s block)

-- An attribute is visible at a token where it is what its identifier denotes: no level further in shows another one, and it is accessible.
abbrev pub is_it : Tables → Option DeclNo → DeclNo → Bool
is_it s None d = false
is_it s (Some found) d = nat_eq (represented s found).0 d.0

abbrev pub is_visible_row : Tables → (token block : ℕ) → DeclNo → Option Declaration → Bool
is_visible_row s token block d None = false
is_visible_row s token block d (Some row) = is_it s (shown s (Some token) block row.name) d

unfoldable pub is_visible : Tables → (token block : ℕ) → DeclNo → Bool
is_visible s token block d = is_visible_row s token block d (slice_get s.declarations d.0)

unfoldable pub visible : Tables → (token block : ℕ) → List DeclNo
visible s token block = filter (is_visible s token block) (attributes_of s (length s.blocks) block)

abbrev pub visible_at : Tables → (token : ℕ) → Option ℕ → List DeclNo
visible_at s token None = []
visible_at s token (Some block) = visible s token block

abbrev pub has_classes_at : Tables → Option ℕ → Bool
has_classes_at s None = false
has_classes_at s (Some block) = has_classes s block

-- S17: no level of the class declares a class
abbrev pub ConnectsTo : Tables → DeclNo → TokenNo → Result Scope StaticRefusal → Type 0
ConnectsTo s class at (Ok scope) = (has_classes_at s (class_block s class) ≡ false) × (scope.visible.items ≡ visible_at s at.0 (class_block s class))
ConnectsTo s class at (Err (refusal.Broken rule token)) = (has_classes_at s (class_block s class) ≡ true) × ((rule ≡ r.ClassWithClasses) × (token ≡ at))
ConnectsTo s class at (Err refusal.Memory) = ⊤

-- a list that has grown by those of some attributes that pass a test
unfoldable pub Adds : (DeclNo → Bool) → (before after : List DeclNo) → (attributes : List DeclNo) → Type 0
Adds test before after attributes = after ≡ before ++ filter test attributes

-- In a loop over attributes: those of the rest are still to be added.
unfoldable pub Gathers : (DeclNo → Bool) → (before list now : List DeclNo) → ℕ → Type 0
Gathers test before list now i = now ++ filter test (drop i list) ≡ before ++ filter test list

-- In a loop over levels: those of the levels from one outward are.
unfoldable pub GathersLevels : Tables → (token block : ℕ) → (now : List DeclNo) → (level : ℕ) → ℕ → Type 0
GathersLevels s token block now level i =
    now ++ filter (is_visible s token block) (attributes_of s (length s.blocks - i) level) ≡ visible s token block

unfoldable pub AreVisible : Tables → (token block : ℕ) → List DeclNo → Type 0
AreVisible s token block list = list ≡ visible s token block
