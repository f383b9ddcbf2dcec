-- What marks make of the declarations that the source itself has.
use Rattle.std.proofs.Common.{◌≡◌, ℕ, Bool, true, false, if◌then◌else◌, List, [], ◌∷◌, ◌++◌, Option, Some, None, length, refl, sym, ap, subst, append-nil, append_assoc, ◌+◌}
use Rattle.std.proofs.lemmas.Bool.{false≢true}
use Rattle.std.proofs.lemmas.List.{length-set}
use Rattle.std.specs.List.{list_any}
use Rattle.std.specs.Prelude.{◌&&◌, not, nat_eq, nat_lt, slice_get, slice_set}
use Rattle.std.specs.Str.{bytes_eq}
use Rattle.sim_base.specs.declared.numbering.DeclNo.{DeclNo}
use Rattle.sim_base.specs.declared.numbering.TokenNo.{TokenNo}
use Rattle.sim_base.specs.declared.rule.Rule.{Rule}
use Rattle.sim_base.specs.declared.rule.Rule.TheVariants as r
use Rattle.sim_scope.proofs.Kept.{more_here}
use Rattle.sim_scope.specs.Access.{is_so, kind_in}
use Rattle.sim_scope.specs.Building as g
use Rattle.sim_scope.specs.Building.{Breaks, Brings, BuildingOf, Closes, Declares, DeclaresClass, DeclaresProcedure, Headed, Inner, Mark, Moded, Opens, Parameter, Prefixes, Protects, Provides, Qualifies, Specified, broken_if, marked}
use Rattle.sim_scope.specs.Levels.{is_standard_class}
use Rattle.sim_scope.specs.Runs.{each, run}
use Rattle.sim_scope.specs.Scopes.{declared_in, entry_in, entry_of}
use Rattle.sim_scope.specs.Standard.{attribute_name}
use Rattle.sim_scope.specs.Tables.{BlockOf}
use Rattle.sim_scope.specs.declared.scopes.Declaration.{Declaration}
use Rattle.sim_scope.specs.declared.types.BlockKind.{BlockKind}
use Rattle.sim_scope.specs.declared.types.Entry.{Entry}
use Rattle.sim_scope.specs.declared.types.Entry.TheVariants as entry
use Rattle.sim_scope.specs.declared.types.FormalKind.{FormalKind}
use Rattle.sim_scope.specs.declared.types.Mode.{Mode}
use Rattle.sim_scope.specs.declared.types.SimType.{SimType}
use Rattle.sim_scope.specs.declared.types.StandardClass.{StandardClass}
use Rattle.sim_scope.specs.declared.types.WrittenMode.{WrittenMode}
use Rattle.sim_tree.specs.declared.expr.Identifier.{Identifier}
use Rattle.sim_values.specs.declared.standard.Standard.{Standard}
use Rattle.xref_order.specs.Declared.{own_token}
use Rattle.xref_order.proofs.OwnRows.{Some_of, Stand, along, both, brought, own_brought, own_new, own_of, own_rows, own_set, own_stand, same, stand_more, stand_set, with_more}

abbrev own : BuildingOf → List ℕ
own b = own_of b.tables

abbrev Calm : BuildingOf → BuildingOf → Type 0
Calm b c = Some_of (own c) (own b)

-- with at most one declaration more
abbrev Adds : BuildingOf → BuildingOf → ℕ → Type 0
Adds b c token = Some_of (own c) (own b ++ token ∷ [])

calm_adds : (b c : BuildingOf) (token : ℕ) → Calm b c → Adds b c token
calm_adds b c token h = along h (with_more (own b) (token ∷ []))

if_broken : (c : Bool) (b : BuildingOf) (token : ℕ) (rule : Rule) → own (broken_if c b token rule) ≡ own b
if_broken true b token rule = refl
if_broken false b token rule = refl

-- ---- blocks

rows_set : (b : BuildingOf) (block : ℕ) (row new : BlockOf) → slice_get b.tables.blocks block ≡ Some row → new.kind ≡ row.kind
    → Some_of (own_rows (slice_set b.tables.blocks block new) b.tables.declarations) (own b)
rows_set b block row new there kind = own_stand b.tables.blocks (slice_set b.tables.blocks block new) (stand_set b.tables.blocks block row new there kind) b.tables.declarations

opened_calm : (b : BuildingOf) (k : BlockKind) (text first level : ℕ) → Calm b (g.opened_at b k text first level)
opened_calm b k text first level =
    subst (λ z. Some_of z (own b)) (sym (if_broken (nat_lt g.most_levels level) _ text r.TooManyLevels)) (own_stand b.tables.blocks _ (stand_more b.tables.blocks _) b.tables.declarations)

closed_calm : (b : BuildingOf) (token : ℕ) (current : Option ℕ) → Calm b (g.closed b token current)
closed_calm b token None = same (own b)
closed_calm b token (Some block) = go (slice_get b.tables.blocks block) refl
  where
    go : (o : Option BlockOf) → slice_get b.tables.blocks block ≡ o → Calm b (g.closed_at b token block o)
    go None e = same (own b)
    go (Some row) e = rows_set b block row (record row { end = token }) e refl

changed_calm : (b : BuildingOf) (change : BlockOf → BlockOf) → ((row : BlockOf) → (change row).kind ≡ row.kind) → (current : Option ℕ) → Calm b (g.changed b change current)
changed_calm b change h None = same (own b)
changed_calm b change h (Some block) = go (slice_get b.tables.blocks block) refl
  where
    go : (o : Option BlockOf) → slice_get b.tables.blocks block ≡ o → Calm b (g.changed_row b change block o)
    go None e = same (own b)
    go (Some row) e = rows_set b block row (change row) e (h row)

-- ---- declarations

added_adds : (b : BuildingOf) (x : Identifier) (e : Entry) (block : ℕ) (listed : Bool) → Adds b (g.added b x e block listed) x.token.0
added_adds b x e block listed =
    subst (λ z. Some_of z (own b ++ x.token.0 ∷ [])) (sym (if_broken (nat_eq b.own g.most_declarations) _ x.token.0 r.TooManyDeclarations))
    (own_new b.tables.blocks b.tables.blocks b.tables.declarations (g.row_of x e block listed) (λ n h. h))

new_adds : (b : BuildingOf) (x : Identifier) (e : Entry) (block : ℕ) (row : BlockOf) → slice_get b.tables.blocks block ≡ Some row → Adds b (g.declared_new b x e block row) x.token.0
new_adds b x e block row there =
    let new = g.with_name row x.name (record { 0 = length b.tables.declarations }) in
    subst (λ z. Some_of z (own b ++ x.token.0 ∷ [])) (sym (if_broken (nat_eq b.own g.most_declarations) _ x.token.0 r.TooManyDeclarations))
    (own_new b.tables.blocks (slice_set b.tables.blocks block new) b.tables.declarations (g.row_of x e block true) (stand_set b.tables.blocks block row new there refl))

matching_kept : (bs : List BlockOf) (e : Entry) (d : DeclNo) → brought bs e ≡ true → brought bs (g.matching e d) ≡ true
matching_kept bs (entry.Virtual result other) d h = h
matching_kept bs _ d h = h

match_calm : (b : BuildingOf) (virtual : DeclNo) → Calm b (g.match_known b virtual)
match_calm b virtual = go (slice_get b.tables.declarations virtual.0) refl
  where
    d : DeclNo
    d = record { 0 = length b.tables.declarations }

    go : (o : Option Declaration) → slice_get b.tables.declarations virtual.0 ≡ o
        → Some_of (own_rows b.tables.blocks (g.row_matching o (record { 0 = length b.tables.declarations }) b.tables.declarations virtual.0)) (own b)
    go None e = same (own b)
    go (Some row) e =
        own_set b.tables.blocks b.tables.declarations virtual.0 row (record row { entry = g.matching row.entry (record { 0 = length b.tables.declarations }) }) e refl
        (matching_kept b.tables.blocks row.entry (record { 0 = length b.tables.declarations }))

matched_adds : (b : BuildingOf) (x : Identifier) (e : Entry) (block : ℕ) (virtual : DeclNo) → Adds b (g.matched b x e block virtual) x.token.0
matched_adds b x e block virtual = along (added_adds (g.match_known b virtual) x e block false) (both (match_calm b virtual) (same (x.token.0 ∷ [])))

again_adds : (b : BuildingOf) (x : Identifier) (e : Entry) (block : ℕ) (d : Option DeclNo) → Adds b (g.declared_again b x e block d) x.token.0
again_adds b x e block None = with_more (own b) (x.token.0 ∷ [])
again_adds b x e block (Some d) = go (g.is_match e (entry_of b.tables d))
  where
    go : (c : Bool) → Adds b (if c then g.matched b x e block d else g.declared_twice b x (Some d)) x.token.0
    go true = matched_adds b x e block d
    go false = with_more (own b) (x.token.0 ∷ [])

declared_adds : (b : BuildingOf) (x : Identifier) (e : Entry) → Adds b (g.declared b x e) x.token.0
declared_adds b x e = inside b.current
  where
    go : (block : ℕ) (o : Option BlockOf) → slice_get b.tables.blocks block ≡ o → Adds b (g.declared_at b x e block o) x.token.0
    go block None there = with_more (own b) (x.token.0 ∷ [])
    go block (Some row) there = by (list_any (bytes_eq x.name) row.names)
      where
        by : (c : Bool) → Adds b (if c then g.declared_again b x e block (declared_in (Some row) x.name) else g.declared_new b x e block row) x.token.0
        by true = again_adds b x e block (declared_in (Some row) x.name)
        by false = new_adds b x e block row there

    inside : (current : Option ℕ) → Adds b (g.declared_inside b x e current) x.token.0
    inside None = with_more (own b) (x.token.0 ∷ [])
    inside (Some block) = go block (slice_get b.tables.blocks block) refl

counted_calm : (b : BuildingOf) (current : Option ℕ) → Calm b (g.counted_in b current)
counted_calm b None = same (own b)
counted_calm b (Some block) = go (slice_get b.tables.blocks block) refl
  where
    go : (o : Option BlockOf) → slice_get b.tables.blocks block ≡ o → Calm b (g.counted b block o)
    go None e = same (own b)
    go (Some row) e = rows_set b block row (record row { formals = length row.numbers }) e refl

-- ---- headings

-- a parameter that is not specified is the source's own
unspecified_own : (bs : List BlockOf) (e : Entry) (w : Option WrittenMode) → g.unspecified e ≡ Some w → brought bs e ≡ true → ⊥
unspecified_own bs (entry.Class n) w e h = cc
unspecified_own bs (entry.Attribute name p q) w e h = cc
unspecified_own bs _ w e h = false≢true h

entered_calm : (b : BuildingOf) (d : DeclNo) (e : Entry) (w : Option WrittenMode) → g.unspecified_in (entry_of b.tables d) ≡ Some w → Calm b (g.with_entry b d e)
unfolding entry_of
entered_calm b d e w is = go (slice_get b.tables.declarations d.0) refl is
  where
    go : (o : Option Declaration) → slice_get b.tables.declarations d.0 ≡ o → g.unspecified_in (entry_in o) ≡ Some w → Calm b (g.entered b d e o)
    go None there is = same (own b)
    go (Some row) there is = own_set b.tables.blocks b.tables.declarations d.0 row (record row { entry = e }) there refl (λ h. absurd (unspecified_own b.tables.blocks row.entry w is h))

moded_calm : (b : BuildingOf) (token : TokenNo) (m : Mode) (d : Option DeclNo) → Calm b (g.moded b token m d)
moded_calm b token m None = same (own b)
moded_calm b token m (Some d) = go (g.unspecified_in (entry_of b.tables d)) refl
  where
    go : (o : Option (Option WrittenMode)) → g.unspecified_in (entry_of b.tables d) ≡ o → Calm b (g.moded_as b token m d o)
    go None e = same (own b)
    go (Some (Some written)) e = same (own b)
    go (Some None) e = by (g.is_by_name m && g.in_class b)
      where
        by : (c : Bool) → Calm b (if c then g.broken b token.0 r.ModeNotAllowed else g.with_entry b d (entry.Unspecified (Some (record { token = token; mode = m }))))
        by true = same (own b)
        by false = entered_calm b d (entry.Unspecified (Some (record { token = token; mode = m }))) None e

mode_calm : (b : BuildingOf) (d : DeclNo) (k : FormalKind) (ty : Option SimType) (w : Option WrittenMode) → g.unspecified_in (entry_of b.tables d) ≡ Some w → Calm b (g.with_mode b d k ty w)
mode_calm b d k ty None is = entered_calm b d (g.formal (g.default_mode k ty) k ty) None is
mode_calm b d k ty (Some w) is =
    subst (λ z. Some_of z (own b)) (sym (if_broken (not (g.mode_allowed w.mode k ty)) (g.with_entry b d (g.formal w.mode k ty)) w.token.0 r.ModeNotAllowed)) (entered_calm b d (g.formal w.mode k ty) (Some w) is)

specified_calm : (b : BuildingOf) (token : TokenNo) (k : FormalKind) (ty : Option SimType) (d : Option DeclNo) → Calm b (g.specified b token k ty d)
specified_calm b token k ty None = same (own b)
specified_calm b token k ty (Some d) = go (g.unspecified_in (entry_of b.tables d)) refl
  where
    go : (o : Option (Option WrittenMode)) → g.unspecified_in (entry_of b.tables d) ≡ o → Calm b (g.specified_as b token k ty d o)
    go None e = same (own b)
    go (Some w) e =
        subst (λ z. Some_of z (own b)) (sym (if_broken (g.is_procedure k && g.in_class b) (g.with_mode b d k ty w) (g.token_in (slice_get b.tables.declarations d.0)) r.ModeNotAllowed)) (mode_calm b d k ty w e)

headed_calm : (b : BuildingOf) (token : TokenNo) (o : Option (Option WrittenMode)) → Calm b (g.headed b token o)
headed_calm b token None = same (own b)
headed_calm b token (Some w) = same (own b)

inner_calm : (b : BuildingOf) (token : ℕ) (current : Option ℕ) → Calm b (g.inner b token current)
inner_calm b token None = same (own b)
inner_calm b token (Some block) = go (slice_get b.tables.blocks block) refl
  where
    go : (o : Option BlockOf) → slice_get b.tables.blocks block ≡ o → Calm b (g.inner_at b token block o)
    go None e = same (own b)
    go (Some row) e = by row.inner
      where
        by : (o : Option ℕ) → Calm b (g.inner_in b token block row o)
        by None = rows_set b block row (record row { inner = Some token }) e refl
        by (Some other) = same (own b)

qualified_calm : (b : BuildingOf) (class : Identifier) (d : Option DeclNo) → Calm b (g.qualified b class d)
qualified_calm b class None = same (own b)
qualified_calm b class (Some d) = same (own b)

guards_calm : (b : BuildingOf) (hides keeps : Bool) (x : Identifier) (current : Option ℕ) → Calm b (g.guards b hides keeps x current)
guards_calm b hides keeps x None = same (own b)
guards_calm b hides keeps x (Some block) = go (slice_get b.tables.blocks block) refl
  where
    go : (o : Option BlockOf) → slice_get b.tables.blocks block ≡ o → Calm b (g.guards_at b hides keeps x block o)
    go None e = same (own b)
    go (Some row) e = rows_set b block row (g.protecting hides keeps x.name row) e refl

-- ---- what a standard prefix declares

stand_then : (bs cs ds : List BlockOf) → Stand bs cs → Stand cs ds → Stand bs ds
stand_then bs cs ds h i = λ n e. i n (h n e)

new_calm : (b : BuildingOf) (which : StandardClass) (token block : ℕ) (row : BlockOf) → slice_get b.tables.blocks block ≡ Some row → Calm b (g.brings_new b which token block row)
new_calm b which token block row there =
    let d : DeclNo = record { 0 = length b.tables.declarations } in
    let set = slice_set b.tables.blocks block (g.with_brought (g.name_of which) d row) in
    let class = g.class_row which block row d in
    let here : slice_get (set ++ class ∷ []) (length b.tables.blocks) ≡ Some class =
    subst (λ n. slice_get (set ++ class ∷ []) n ≡ Some class) (length-set b.tables.blocks block (g.with_brought (g.name_of which) d row)) (more_here set class) in
    own_brought b.tables.blocks (set ++ class ∷ []) b.tables.declarations (g.standard_row (g.name_of which) token block (entry.Class (length b.tables.blocks)) false)
    (stand_then b.tables.blocks set (set ++ class ∷ []) (stand_set b.tables.blocks block row (g.with_brought (g.name_of which) d row) there refl) (stand_more set class))
    (ap (λ o. is_so is_standard_class (kind_in o)) here)

brings_calm : (b : BuildingOf) (which : StandardClass) (token : ℕ) (current : Option ℕ) → Calm b (g.brings b which token current)
brings_calm b which token None = same (own b)
brings_calm b which token (Some block) = go (slice_get b.tables.blocks block) refl
  where
    go : (o : Option BlockOf) → slice_get b.tables.blocks block ≡ o → Calm b (g.brings_at b which token block o)
    go None e = same (own b)
    go (Some row) e = by (list_any (bytes_eq (g.name_of which)) row.brought_names)
      where
        by : (c : Bool) → Calm b (if c then b else g.brings_new b which token block row)
        by true = same (own b)
        by false = new_calm b which token block row e

provided_calm : (b : BuildingOf) (new : BlockOf) (name : Standard) (token : ℕ) (first : Option DeclNo) (block : ℕ) (listed : Bool) (row : BlockOf) → slice_get b.tables.blocks block ≡ Some row → new.kind ≡ row.kind
    → Calm b (g.provided_at b new name token first block listed)
provided_calm b new name token first block listed row there kind =
    own_brought b.tables.blocks (slice_set b.tables.blocks block new) b.tables.declarations (g.standard_row (attribute_name name) token block (g.attribute_entry first name) listed)
    (stand_set b.tables.blocks block row new there kind) refl

provides_calm : (b : BuildingOf) (which : Option StandardClass) (name : Standard) (token : ℕ) (current : Option ℕ) → Calm b (g.provides b which name token current)
provides_calm b which name token None = same (own b)
provides_calm b which name token (Some block) = inside which (g.first_brought (slice_get b.tables.blocks block))
  where
    alone : (first : Option DeclNo) (o : Option BlockOf) → slice_get b.tables.blocks block ≡ o → Calm b (g.provided_alone b name token first block o)
    alone first None e = same (own b)
    alone first (Some row) e = by (list_any (bytes_eq (attribute_name name)) row.brought_names)
      where
        by : (c : Bool) → Calm b (if c then b else g.provided_at b (g.with_brought (attribute_name name) (record { 0 = length b.tables.declarations }) row) name token first block false)
        by true = same (own b)
        by false = provided_calm b (g.with_brought (attribute_name name) (record { 0 = length b.tables.declarations }) row) name token first block false row e refl

    listed : (first : Option DeclNo) (at : ℕ) (o : Option BlockOf) → slice_get b.tables.blocks at ≡ o → Calm b (g.provided_in b name token first at o)
    listed first at None e = same (own b)
    listed first at (Some row) e = by (list_any (bytes_eq (attribute_name name)) row.names)
      where
        by : (c : Bool) → Calm b (if c then b else g.provided_at b (g.with_name row (attribute_name name) (record { 0 = length b.tables.declarations })) name token first at true)
        by true = same (own b)
        by false = provided_calm b (g.with_name row (attribute_name name) (record { 0 = length b.tables.declarations })) name token first at true row e refl

    inside : (which : Option StandardClass) (first : Option DeclNo) → Calm b (g.provides_in b which name token block first)
    inside None first = alone first (slice_get b.tables.blocks block) refl
    inside (Some which) first = listed first (block + 1 + g.place_of which) (slice_get b.tables.blocks (block + 1 + g.place_of which)) refl

-- ---- all marks

calm : (b c : BuildingOf) → Calm b c → Some_of (own c) (own b ++ [])
calm b c h = subst (Some_of (own c)) (sym (append-nil (own b))) h

mark_adds : (b : BuildingOf) (m : Mark) → Some_of (own (marked b m)) (own b ++ own_token m)
unfolding marked
mark_adds b (Opens k text first) = calm b (marked b (Opens k text first)) (opened_calm b k text first (g.level_in k (g.block_around b.tables b.current)))
mark_adds b (Closes end) = calm b (marked b (Closes end)) (closed_calm b end b.current)
mark_adds b (Declares x e) = declared_adds b x e
mark_adds b (DeclaresProcedure x result) = declared_adds b x (entry.Procedure result (length b.tables.blocks))
mark_adds b (DeclaresClass x) =
    let c = g.declared b x (entry.Class (length b.tables.blocks)) in along (changed_calm c g.holding_class (λ row. refl) b.current) (declared_adds b x (entry.Class (length b.tables.blocks)))
mark_adds b (Parameter x) =
    let c = g.declared b x (entry.Unspecified None) in along (counted_calm c c.current) (declared_adds b x (entry.Unspecified None))
mark_adds b (Moded x m) = calm b (marked b (Moded x m)) (moded_calm b x.token m (g.found_in b.tables b.current x.name))
mark_adds b (Specified x k ty) =
    let d = g.found_in b.tables b.current x.name in calm b (marked b (Specified x k ty)) (specified_calm (record b { latest = d }) x.token k ty d)
mark_adds b (Headed x) = calm b (marked b (Headed x)) (headed_calm b x.token (g.unspecified_at b.tables (g.found_in b.tables b.current x.name)))
mark_adds b (Qualifies class) = calm b (marked b (Qualifies class)) (qualified_calm b class b.latest)
mark_adds b (Prefixes class) = calm b (marked b (Prefixes class)) (changed_calm b (g.prefixed_by class) (λ row. refl) b.current)
mark_adds b (Brings which token) = calm b (marked b (Brings which token)) (brings_calm b which token b.current)
mark_adds b (Provides which name token) = calm b (marked b (Provides which name token)) (provides_calm b which name token b.current)
mark_adds b (Protects hides keeps x) = calm b (marked b (Protects hides keeps x)) (guards_calm b hides keeps x b.current)
mark_adds b (Inner token) = calm b (marked b (Inner token)) (inner_calm b token b.current)
mark_adds b (Breaks token rule) = calm b (marked b (Breaks token rule)) (same (own b))

pub marks_add : (b : BuildingOf) (ms : List Mark) → Some_of (own_of (run marked b ms).tables) (own_of b.tables ++ each own_token ms)
unfolding run
marks_add b [] = calm b b (same (own b))
marks_add b (m ∷ ms) =
    subst (Some_of (own (run marked (marked b m) ms))) (append_assoc (own b) (own_token m) (each own_token ms)) (along (marks_add (marked b m) ms) (both (mark_adds b m) (same (each own_token ms))))
