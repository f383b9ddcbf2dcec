-- Virtual procedures: which declarations match one, and the rule on matches.
use Rattle.std.specs.Prelude.{◌≡◌, not, ℕ, Bool, true, false, ◌||◌, if◌then◌else◌, List, [], length, Option, Some, None, Result, Ok, Err, slice_get}
use Rattle.sim_base.specs.declared.numbering.DeclNo.{DeclNo}
use Rattle.sim_base.specs.declared.rule.Rule.TheVariants as r
use Rattle.sim_scope.specs.declared.found.Fault.{Fault}
use Rattle.prefix_bind.specs.Prefixes.{least_of, where_true}
use Rattle.sim_scope.specs.declared.refusal.StaticRefusal.{StaticRefusal}
use Rattle.sim_scope.specs.declared.refusal.StaticRefusal.TheVariants as refusal
use Rattle.sim_scope.specs.declared.scopes.Declaration.{Declaration}
use Rattle.sim_scope.specs.declared.types.Entry.{Entry}
use Rattle.sim_scope.specs.declared.types.Entry.TheVariants as entry
use Rattle.sim_scope.specs.declared.types.SimType.{SimType}
use Rattle.sim_scope.specs.declared.types.SimType.TheVariants as t
use Rattle.sim_scope.specs.Actuals.{result_in, result_matches}
use Rattle.sim_scope.specs.Along.{first_along}
use Rattle.sim_scope.specs.Levels.{base, class_block}
use Rattle.sim_scope.specs.Runs.{each}
use Rattle.sim_scope.specs.Scopes.{entry_is, entry_of, is_virtual, lookup, virtual_of}
use Rattle.sim_scope.specs.Tables.{Tables}

-- The match of a virtual in a class: the procedure that the innermost level declares that declares the identifier. At the virtual's own level,
-- where the identifier denotes the virtual, that is the procedure which the virtual knows, and the search ends there.
abbrev pub match_at : Option Entry → DeclNo → Option DeclNo
match_at (Some (entry.Virtual result own)) d = own
match_at e d = Some d

abbrev pub match_of_declared : Tables → Option DeclNo → Option DeclNo
match_of_declared s None = None
match_of_declared s (Some d) = match_at (entry_of s d) d

-- what the innermost level declares that declares an identifier
abbrev pub declared_along : Tables → List ℕ → (block : ℕ) → Option DeclNo
declared_along s name block = first_along (base s) (length s.blocks) (λ b. lookup s b name) block

abbrev pub name_in : Option Declaration → List ℕ
name_in None = []
name_in (Some row) = row.name

-- what a declaration is called
unfoldable pub name_of : Tables → DeclNo → List ℕ
name_of s d = name_in (slice_get s.declarations d.0)

abbrev pub match_in : Tables → List ℕ → Option ℕ → Option DeclNo
match_in s name None = None
match_in s name (Some block) = match_of_declared s (declared_along s name block)

-- the match of a virtual in a class
unfoldable pub match_of : Tables → (class virtual : DeclNo) → Option DeclNo
match_of s class virtual = match_in s (name_of s virtual) (class_block s class)

-- The virtual whose match a declaration would be: of its own level or one outside; of a virtual itself, of one outside.
abbrev pub virtual_from : Tables → List ℕ → Option ℕ → Option DeclNo
virtual_from s name None = None
virtual_from s name (Some block) = virtual_of s (length s.blocks) block name

abbrev pub is_procedure : Entry → Bool
is_procedure (entry.Procedure result block) = true
is_procedure _ = false

abbrev pub level_for : Tables → Declaration → Option ℕ
level_for s row = if is_virtual row.entry then base s row.block else Some row.block

unfoldable pub virtual_for : Tables → Declaration → Option DeclNo
virtual_for s row = virtual_from s row.name (level_for s row)

-- a class that S7 refuses is not known: what is declared with it keeps the type of `none`
abbrev pub is_unknown : Option SimType → Bool
is_unknown (Some t.NoneType) = true
is_unknown _ = false

-- types are compared only where both are known
abbrev pub results_fit : Tables → (wanted given : Option SimType) → Bool
results_fit s wanted given = is_unknown wanted || is_unknown given || result_matches s wanted given

-- S8: it is a procedure of the same type, or of a subclass where that is a reference
abbrev pub fits_virtual : Tables → Entry → Option Entry → Bool
fits_virtual s (entry.Procedure result block) virtual = results_fit s (result_in virtual) result
fits_virtual s e virtual = false

abbrev pub match_fault : Tables → Declaration → Option DeclNo → List Fault
match_fault s row None = []
match_fault s row (Some virtual) = where_true (not (fits_virtual s row.entry (entry_of s virtual))) row.token.0 r.MatchDoesNotFit

-- what `simset` and `simulation` declare matches nothing
unfoldable pub match_faults : Tables → Declaration → List Fault
match_faults s row = if row.listed || is_procedure row.entry then match_fault s row (virtual_for s row) else []

-- the declarations that do not fit a virtual
abbrev pub all_match_faults : Tables → List Fault
all_match_faults s = each (match_faults s) s.declarations

-- the answer of the rule on matches alone
abbrev pub Matches : Tables → Result (Unit {0}) StaticRefusal → Type 0
Matches s (Ok done) = least_of (all_match_faults s) ≡ None
Matches s (Err (refusal.Broken rule token)) = least_of (all_match_faults s) ≡ Some (record { token = token; rule = rule })
Matches s (Err refusal.Memory) = ⊥

-- The match of an identifier at a level, in a relation that does not compute: what the level declares, at the virtual's own level what the virtual
-- knows, and where it declares nothing of the name the match at the next level outward.
pub data IsMatch (s : Tables) (name : List ℕ) : (block : ℕ) → Option DeclNo → Type 0 where
  declared : {block : ℕ} {d : DeclNo} → lookup s block name ≡ Some d → entry_is is_virtual (entry_of s d) ≡ false → IsMatch s name block (Some d)
  known : {block : ℕ} {d : DeclNo} {result : Option SimType} {own : Option DeclNo} → lookup s block name ≡ Some d → entry_of s d ≡ Some (entry.Virtual result own) → IsMatch s name block own
  outside : {block around : ℕ} {m : Option DeclNo} → lookup s block name ≡ None → base s block ≡ Some around → IsMatch s name around m → IsMatch s name block m
