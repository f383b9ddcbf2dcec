-- Searches in the table of names.
use Rattle.std.proofs.Common.{◌≡◌, ◌<◌, ◌≤◌, ◌+◌, Bool, true, false, if◌then◌else◌, ℕ, List, Some, None, refl, sym, ap, ◌∙◌, drop, length}
use Rattle.std.proofs.lemmas.List.{drop_more, drop_all}
use Rattle.std.specs.Prelude.{slice_index_or}
use Rattle.sim_values.specs.declared.standard.Standard.{Standard}
use Rattle.sim_scope.specs.declared.standard.Place.{Place}
use Rattle.sim_scope.specs.Standard.{Names, Passes, first_named, is_named}

pub passes_none : (place : Place) (name : List ℕ) (table : List Standard) → Passes place name table 0
unfolding Passes
passes_none place name table = refl

at_row : (place : Place) (name : List ℕ) (table : List Standard) (i : ℕ) (r : Standard) → i < length table
    → first_named place name (drop i table) ≡ (if is_named place name (slice_index_or table i r) then Some (slice_index_or table i r) else first_named place name (drop (i + 1) table))
at_row place name table i r le = ap (first_named place name) (drop_more table i r le)

pub passes_next : (place : Place) (name : List ℕ) (table : List Standard) (i : ℕ) (r : Standard) (c : Bool) → Passes place name table i → i < length table → c ≡ is_named place name (slice_index_or table i r) → c ≡ false → Passes place name table (i + 1)
unfolding Passes
passes_next place name table i r c so_far le is other =
    so_far ∙ at_row place name table i r le ∙ ap (λ b. if b then Some (slice_index_or table i r) else first_named place name (drop (i + 1) table)) (sym is ∙ other)

pub named_here : (place : Place) (name : List ℕ) (table : List Standard) (i : ℕ) (r : Standard) (c : Bool) → Passes place name table i → i < length table → c ≡ is_named place name (slice_index_or table i r) → c ≡ true → Names place name table (Some (slice_index_or table i r))
unfolding Passes Names
named_here place name table i r c so_far le is same =
    sym (so_far ∙ at_row place name table i r le ∙ ap (λ b. if b then Some (slice_index_or table i r) else first_named place name (drop (i + 1) table)) (sym is ∙ same))

pub named_nowhere : (place : Place) (name : List ℕ) (table : List Standard) (i : ℕ) → Passes place name table i → length table ≤ i → Names place name table None
unfolding Passes Names
named_nowhere place name table i so_far le = sym (so_far ∙ ap (first_named place name) (drop_all i table le))

pub ruleset rows_passed = (passes_none, passes_next, named_here, named_nowhere)
