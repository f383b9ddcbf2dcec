-- The marks that a standard prefix in front of a block that has just begun stands for.
use Rattle.std.proofs.Common.{◌≡◌, ◌+◌, ℕ, Bool, true, false, [], ◌∷◌, ◌++◌, length, Some, refl, ap, ◌∙◌}
use Rattle.std.specs.Prelude.{nat_lt, slice_get, slice_set}
use Rattle.std.proofs.lemmas.List.{length-append, length-set}
use Rattle.sim_base.specs.declared.rule.Rule.{Rule}
use Rattle.sim_base.specs.declared.rule.Rule.TheVariants as r
use Rattle.sim_tree.specs.declared.expr.Identifier.{Identifier}
use Rattle.sim_scope.specs.declared.types.BlockKind.{BlockKind}
use Rattle.sim_scope.specs.Building.{BuildingOf, block_around, broken_if, changed, changed_row, level_in, marked, most_levels, opened, placed, prefixed_by}
use Rattle.sim_scope.specs.declared.types.StandardPrefix.{StandardPrefix}
use Rattle.sim_scope.specs.Declare.{brought_marks}
use Rattle.sim_scope.specs.Runs.{run}
use Rattle.sim_scope.specs.Tables.{BlockOf}
use Rattle.sim_scope.proofs.Kept.{more_here, set_here}
use Rattle.sim_agree.proofs.Brought.{set_twice}
use Rattle.sim_agree.proofs.BroughtRows.{added_declarations, added_rows, bringing, standard_added, with_standard}
use Rattle.sim_agree.proofs.FineBlocks.{fresh}
use Rattle.sim_agree.proofs.Groups.{whole_prefix}
use Rattle.sim_agree.proofs.StandardPrefixes.{classes_of}

-- the innermost block is the last one, and has brought nothing
pub record FreshTop (b : BuildingOf) : Type 0 where
  pub number : ℕ
  pub current : b.current ≡ Some number
  pub last : length b.tables.blocks ≡ number + 1
  pub row : BlockOf
  pub at : slice_get b.tables.blocks number ≡ Some row
  pub nameless : row.brought_names ≡ []
  pub none : row.brought ≡ []
  pub childless : row.numbers ≡ []

if_top : (c : Bool) (b : BuildingOf) (token : ℕ) (rule : Rule) → FreshTop b → FreshTop (broken_if c b token rule)
if_top true b token rule t = record { number = t.number; current = t.current; last = t.last; row = t.row; at = t.at; nameless = t.nameless; none = t.none; childless = t.childless }
if_top false b token rule t = t

pub opened_top : (b : BuildingOf) (k : BlockKind) (text first : ℕ) → FreshTop (opened b k text first)
opened_top b k text first =
    if_top (nat_lt most_levels (level_in k (block_around b.tables b.current))) (record b { tables = record b.tables { blocks = b.tables.blocks ++ fresh b k first ∷ []; places = (placed b.tables b.current first).places }; current = Some (length b.tables.blocks) }) text r.TooManyLevels
    (record { number = length b.tables.blocks; current = refl; last = length-append b.tables.blocks (fresh b k first ∷ []); row = fresh b k first; at = more_here b.tables.blocks (fresh b k first); nameless = refl; none = refl; childless = refl })

-- with its prefix
abbrev pub prefixed_top : (b : BuildingOf) → FreshTop b → Identifier → BuildingOf
prefixed_top b t y = record b { tables = record b.tables { blocks = slice_set b.tables.blocks t.number (prefixed_by y t.row) } }

pub prefixed_is : (b : BuildingOf) (t : FreshTop b) (y : Identifier) → changed b (prefixed_by y) b.current ≡ prefixed_top b t y
prefixed_is b t y = ap (changed b (prefixed_by y)) t.current ∙ ap (changed_row b (prefixed_by y) t.number) t.at

-- and with what the prefix brings
abbrev pub brought_top : (p : StandardPrefix) (b : BuildingOf) → FreshTop b → (token : ℕ) → Identifier → BuildingOf
brought_top p b t token y = with_standard p b t.number token (prefixed_by y t.row)

pub brought_is : (p : StandardPrefix) (b : BuildingOf) (t : FreshTop b) (token : ℕ) (y : Identifier) → run marked b (whole_prefix p token y) ≡ brought_top p b t token y
unfolding run marked
brought_is p b t token y =
    ap (λ c. run marked c (brought_marks token p (classes_of p))) (prefixed_is b t y)
    ∙ standard_added p (prefixed_top b t y) t.number token (prefixed_by y t.row) t.current (length-set b.tables.blocks t.number (prefixed_by y t.row) ∙ t.last) (set_here b.tables.blocks t.number t.row (prefixed_by y t.row) t.at) t.nameless t.none
    ∙ ap (λ z. let c : BuildingOf = record b { tables = record b.tables { blocks = z ++ added_rows t.number (length b.tables.declarations) t.row.level p; declarations = b.tables.declarations ++ added_declarations t.number (length b.tables.declarations) token p } } in c)
    (set_twice b.tables.blocks t.number (prefixed_by y t.row) (bringing p (length b.tables.declarations) (prefixed_by y t.row)))
