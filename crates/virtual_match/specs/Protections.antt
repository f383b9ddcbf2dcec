-- The rule on protection parts.
use Rattle.std.specs.Prelude.{ℕ, Bool, true, false, not, ◌||◌, ◌&&◌, List, ◌++◌, Option, Some, None}
use Rattle.sim_base.specs.declared.numbering.DeclNo.{DeclNo}
use Rattle.sim_base.specs.declared.rule.Rule.TheVariants as r
use Rattle.sim_scope.specs.declared.found.Fault.{Fault}
use Rattle.sim_scope.specs.declared.scopes.Protection.{Protection}
use Rattle.sim_scope.specs.Access.{hides, protector}
use Rattle.sim_scope.specs.Levels.{base, holds, some_level}
use Rattle.sim_scope.specs.Runs.{each}
use Rattle.sim_scope.specs.Scopes.{lookup}
use Rattle.sim_scope.specs.Tables.{Tables}
use Rattle.prefix_bind.specs.Prefixes.{where_true}
use Rattle.virtual_match.specs.Matching.{all_match_faults}
use Rattle.virtual_match.specs.Qualifying.{qualification_faults}

abbrev pub is_declared : Option DeclNo → Bool
is_declared None = false
is_declared (Some d) = true

-- S9: what is protected is declared at that level
abbrev pub protects_nothing : Tables → Protection → Bool
protects_nothing s p = p.protects && not (is_declared (lookup s p.block p.attribute.name))

-- S9: what is hidden is protected there or further out, and not hidden further out
abbrev pub is_hidden_outside : Tables → Protection → Option ℕ → Bool
is_hidden_outside s p None = true
is_hidden_outside s p (Some level) = holds (λ b. some_level s (hides s level p.attribute.name) b) (base s p.block)

abbrev pub hides_nothing : Tables → Protection → Bool
hides_nothing s p = p.hides && is_hidden_outside s p (protector s p.block p.attribute.name)

unfoldable pub protection_faults : Tables → Protection → List Fault
protection_faults s p = where_true (protects_nothing s p || hides_nothing s p) p.attribute.token.0 r.ProtectionOfNoAttribute

-- what the second round finds broken, in tables that have the class of each reference
unfoldable pub second_faults : Tables → List Fault
second_faults s = each (qualification_faults s) s.qualifications ++ (all_match_faults s ++ each (protection_faults s) s.protections)
