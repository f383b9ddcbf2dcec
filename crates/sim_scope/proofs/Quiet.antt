-- What is met inside a block changes no block's kind, level, place, prefix and encloser.
use Rattle.std.proofs.Common.{◌≡◌, ◌+◌, ℕ, zero, suc, Bool, true, false, List, [], ◌∷◌, ◌++◌, length, map, Option, Some, None, refl, ap, ◌∙◌, if◌then◌else◌}
use Rattle.std.specs.Prelude.{◌&&◌, nat_eq, not, slice_get, slice_set}
use Rattle.std.specs.List.{list_any}
use Rattle.std.specs.Str.{bytes_eq}
use Rattle.sim_base.specs.declared.numbering.DeclNo.{DeclNo}
use Rattle.sim_base.specs.declared.numbering.TokenNo.{TokenNo}
use Rattle.sim_base.specs.declared.rule.Rule.{Rule}
use Rattle.sim_base.specs.declared.rule.Rule.TheVariants as r
use Rattle.sim_tree.specs.declared.expr.Identifier.{Identifier}
use Rattle.sim_scope.specs.declared.scopes.Declaration.{Declaration}
use Rattle.sim_values.specs.declared.standard.Standard.{Standard}
use Rattle.sim_scope.specs.declared.types.Entry.{Entry}
use Rattle.sim_scope.specs.declared.types.Entry.TheVariants as entry
use Rattle.sim_scope.specs.declared.types.FormalKind.{FormalKind}
use Rattle.sim_scope.specs.declared.types.Mode.{Mode}
use Rattle.sim_scope.specs.declared.types.SimType.{SimType}
use Rattle.sim_scope.specs.declared.types.StandardClass.{StandardClass}
use Rattle.sim_scope.specs.declared.types.WrittenMode.{WrittenMode}
use Rattle.sim_scope.specs.Building.{Breaks, Brings, BuildingOf, Closes, Declares, DeclaresClass, DeclaresProcedure, Headed, Inner, Mark, Moded, Opens, Parameter, Prefixes, Protects, Provides, Qualifies, Specified, broken, broken_if, changed, changed_row, counted, counted_in, counting, declared, declared_again, declared_at, declared_inside, declared_new, declared_twice, entered, first_brought, formal, found_in, guards, guards_at, headed, holding_class, in_class, inner, inner_at, inner_in, is_by_name, is_match, is_procedure, marked, matched, mode_allowed, moded, moded_as, most_declarations, place_of, protecting, provided_alone, provided_in, provides, provides_in, qualified, specified, specified_as, token_in, unspecified_at, unspecified_in, with_brought, with_entry, with_mode, with_name}
use Rattle.sim_scope.specs.Laws.{Shape, shape_of}
use Rattle.sim_scope.specs.Runs.{each, run}
use Rattle.sim_scope.specs.Scopes.{declared_in, entry_of}
use Rattle.sim_scope.specs.Standard.{attribute_name}
use Rattle.sim_scope.specs.Tables.{BlockOf}

pub map_set : {A B : Type 0} (f : A → B) (xs : List A) (j : ℕ) (row new : A) → slice_get xs j ≡ Some row → f new ≡ f row → map f (slice_set xs j new) ≡ map f xs
map_set f [] j row new at alike = absurd (cc)
map_set f (x ∷ xs) zero row new at alike = let same : row ≡ x = cc in ap (λ z. z ∷ map f xs) (alike ∙ ap f same)
map_set f (x ∷ xs) (suc j) row new at alike = ap (λ z. f x ∷ z) (map_set f xs j row new at alike)

-- the blocks have these shapes, and this one is the innermost that is open
pub record Stays (ss : List Shape) (k : Option ℕ) (b : BuildingOf) : Type 0 where
  pub shapes : map shape_of b.tables.blocks ≡ ss
  pub current : b.current ≡ k

module _ {ss : List Shape} {now : Option ℕ} where
  same_tables : (b c : BuildingOf) → c.tables.blocks ≡ b.tables.blocks → c.current ≡ b.current → Stays ss now b → Stays ss now c
  same_tables b c t e a = record { shapes = ap (map shape_of) t ∙ a.shapes; current = e ∙ a.current }

  row_stays : (b : BuildingOf) (j : ℕ) (row new : BlockOf) → slice_get b.tables.blocks j ≡ Some row → shape_of new ≡ shape_of row → Stays ss now b → Stays ss now (record b { tables = record b.tables { blocks = slice_set b.tables.blocks j new } })
  row_stays b j row new at alike a = record { shapes = map_set shape_of b.tables.blocks j row new at alike ∙ a.shapes; current = a.current }

  if-broken : (c : Bool) (b : BuildingOf) (token : ℕ) (rule : Rule) → Stays ss now b → Stays ss now (broken_if c b token rule)
  if-broken true b token rule a = same_tables b _ refl refl a
  if-broken false b token rule a = a

  if-stays : (c : Bool) (b n : BuildingOf) → Stays ss now b → Stays ss now n → Stays ss now (if c then b else n)
  if-stays true b n a h = a
  if-stays false b n a h = h

  counting-stays : (b : BuildingOf) (x : Identifier) → Stays ss now b → Stays ss now (counting b x)
  counting-stays b x a = if-broken (nat_eq b.own most_declarations) _ x.token.0 r.TooManyDeclarations (same_tables b _ refl refl a)

  again-stays : (b : BuildingOf) (x : Identifier) (e : Entry) (block : ℕ) (o : Option DeclNo) → Stays ss now b → Stays ss now (declared_again b x e block o)
  again-stays b x e block None a = same_tables b _ refl refl a
  again-stays b x e block (Some d) a = go (is_match e (entry_of b.tables d))
    where
      go : (z : Bool) → Stays ss now (if z then matched b x e block d else declared_twice b x (Some d))
      go true =
          counting-stays _ x (same_tables b _ refl refl a)
      go false = same_tables b _ refl refl a

  declared-row : (b : BuildingOf) (x : Identifier) (e : Entry) (block : ℕ) (o : Option BlockOf) → slice_get b.tables.blocks block ≡ o → Stays ss now b → Stays ss now (declared_at b x e block o)
  declared-row b x e block None at a = a
  declared-row b x e block (Some row) at a = go (list_any (bytes_eq x.name) row.names)
    where
      d : DeclNo
      d = record { 0 = length b.tables.declarations }

      go : (c : Bool) → Stays ss now (if c then declared_again b x e block (declared_in (Some row) x.name) else declared_new b x e block row)
      go true = again-stays b x e block (declared_in (Some row) x.name) a
      go false =
          counting-stays _ x (same_tables (record b { tables = record b.tables { blocks = slice_set b.tables.blocks block (with_name row x.name d) } }) _ refl refl (row_stays b block row (with_name row x.name d) at refl a))

  declared-stays : (b : BuildingOf) (x : Identifier) (e : Entry) (o : Option ℕ) → Stays ss now b → Stays ss now (declared_inside b x e o)
  declared-stays b x e None a = a
  declared-stays b x e (Some block) a = declared-row b x e block (slice_get b.tables.blocks block) refl a

  -- Headings.
  changed-row : (b : BuildingOf) (change : BlockOf → BlockOf) (block : ℕ) (o : Option BlockOf) → ((row : BlockOf) → shape_of (change row) ≡ shape_of row)
      → slice_get b.tables.blocks block ≡ o → Stays ss now b → Stays ss now (changed_row b change block o)
  changed-row b change block None alike at a = a
  changed-row b change block (Some row) alike at a = row_stays b block row (change row) at (alike row) a

  changed-stays : (b : BuildingOf) (change : BlockOf → BlockOf) (o : Option ℕ) → ((row : BlockOf) → shape_of (change row) ≡ shape_of row) → Stays ss now b → Stays ss now (changed b change o)
  changed-stays b change None alike a = a
  changed-stays b change (Some block) alike a = changed-row b change block (slice_get b.tables.blocks block) alike refl a

  counted-row : (b : BuildingOf) (block : ℕ) (o : Option BlockOf) → slice_get b.tables.blocks block ≡ o → Stays ss now b → Stays ss now (counted b block o)
  counted-row b block None at a = a
  counted-row b block (Some row) at a = row_stays b block row (record row { formals = length row.numbers }) at refl a

  counted-stays : (b : BuildingOf) (o : Option ℕ) → Stays ss now b → Stays ss now (counted_in b o)
  counted-stays b None a = a
  counted-stays b (Some block) a = counted-row b block (slice_get b.tables.blocks block) refl a

  entry-stays : (b : BuildingOf) (d : DeclNo) (e : Entry) → Stays ss now b → Stays ss now (with_entry b d e)
  entry-stays b d e a = go (slice_get b.tables.declarations d.0)
    where
      go : (o : Option Declaration) → Stays ss now (entered b d e o)
      go None = a
      go (Some row) = same_tables b _ refl refl a

  moded-row : (b : BuildingOf) (token : TokenNo) (m : Mode) (d : DeclNo) (o : Option (Option WrittenMode)) → Stays ss now b → Stays ss now (moded_as b token m d o)
  moded-row b token m d None a = same_tables b _ refl refl a
  moded-row b token m d (Some (Some written)) a = same_tables b _ refl refl a
  moded-row b token m d (Some None) a = go (is_by_name m && in_class b)
    where
      go : (c : Bool) → Stays ss now (if c then broken b token.0 r.ModeNotAllowed else with_entry b d (entry.Unspecified (Some (record { token = token; mode = m }))))
      go true = same_tables b _ refl refl a
      go false = entry-stays b d _ a

  moded-stays : (b : BuildingOf) (token : TokenNo) (m : Mode) (o : Option DeclNo) → Stays ss now b → Stays ss now (moded b token m o)
  moded-stays b token m None a = same_tables b _ refl refl a
  moded-stays b token m (Some d) a = moded-row b token m d (unspecified_in (entry_of b.tables d)) a

  with-mode : (b : BuildingOf) (d : DeclNo) (k : FormalKind) (ty : Option SimType) (o : Option WrittenMode) → Stays ss now b → Stays ss now (with_mode b d k ty o)
  with-mode b d k ty None a = entry-stays b d _ a
  with-mode b d k ty (Some w) a = if-broken (not (mode_allowed w.mode k ty)) _ w.token.0 r.ModeNotAllowed (entry-stays b d (formal w.mode k ty) a)

  specified-row : (b : BuildingOf) (token : TokenNo) (k : FormalKind) (ty : Option SimType) (d : DeclNo) (o : Option (Option WrittenMode)) → Stays ss now b → Stays ss now (specified_as b token k ty d o)
  specified-row b token k ty d None a = same_tables b _ refl refl a
  specified-row b token k ty d (Some written) a =
      if-broken (is_procedure k && in_class b) _ (token_in (slice_get b.tables.declarations d.0)) r.ModeNotAllowed (with-mode b d k ty written a)

  specified-stays : (b : BuildingOf) (token : TokenNo) (k : FormalKind) (ty : Option SimType) (o : Option DeclNo) → Stays ss now b → Stays ss now (specified b token k ty o)
  specified-stays b token k ty None a = same_tables b _ refl refl a
  specified-stays b token k ty (Some d) a = specified-row b token k ty d (unspecified_in (entry_of b.tables d)) a

  headed-stays : (b : BuildingOf) (token : TokenNo) (o : Option (Option WrittenMode)) → Stays ss now b → Stays ss now (headed b token o)
  headed-stays b token None a = a
  headed-stays b token (Some written) a = same_tables b _ refl refl a

  inner-in : (b : BuildingOf) (token block : ℕ) (row : BlockOf) (o : Option ℕ) → slice_get b.tables.blocks block ≡ Some row → Stays ss now b → Stays ss now (inner_in b token block row o)
  inner-in b token block row None at a = row_stays b block row (record row { inner = Some token }) at refl a
  inner-in b token block row (Some other) at a = same_tables b _ refl refl a

  inner-row : (b : BuildingOf) (token block : ℕ) (o : Option BlockOf) → slice_get b.tables.blocks block ≡ o → Stays ss now b → Stays ss now (inner_at b token block o)
  inner-row b token block None at a = a
  inner-row b token block (Some row) at a = inner-in b token block row row.inner at a

  inner-stays : (b : BuildingOf) (token : ℕ) (o : Option ℕ) → Stays ss now b → Stays ss now (inner b token o)
  inner-stays b token None a = a
  inner-stays b token (Some block) a = inner-row b token block (slice_get b.tables.blocks block) refl a

  -- Standard classes.
  qualified-stays : (b : BuildingOf) (class : Identifier) (o : Option DeclNo) → Stays ss now b → Stays ss now (qualified b class o)
  qualified-stays b class None a = a
  qualified-stays b class (Some d) a = same_tables b _ refl refl a

  alone-row : (b : BuildingOf) (name : Standard) (token : ℕ) (first : Option DeclNo) (block : ℕ) (o : Option BlockOf) → slice_get b.tables.blocks block ≡ o → Stays ss now b → Stays ss now (provided_alone b name token first block o)
  alone-row b name token first block None at a = a
  alone-row b name token first block (Some row) at a =
      if-stays (list_any (bytes_eq (attribute_name name)) row.brought_names) b _ a
      (same_tables (record b { tables = record b.tables { blocks = slice_set b.tables.blocks block (with_brought (attribute_name name) (record { 0 = length b.tables.declarations }) row) } }) _ refl refl
      (row_stays b block row (with_brought (attribute_name name) (record { 0 = length b.tables.declarations }) row) at refl a))

  provided-row : (b : BuildingOf) (name : Standard) (token : ℕ) (first : Option DeclNo) (block : ℕ) (o : Option BlockOf) → slice_get b.tables.blocks block ≡ o → Stays ss now b → Stays ss now (provided_in b name token first block o)
  provided-row b name token first block None at a = a
  provided-row b name token first block (Some row) at a =
      if-stays (list_any (bytes_eq (attribute_name name)) row.names) b _ a
      (same_tables (record b { tables = record b.tables { blocks = slice_set b.tables.blocks block (with_name row (attribute_name name) (record { 0 = length b.tables.declarations })) } }) _ refl refl
      (row_stays b block row (with_name row (attribute_name name) (record { 0 = length b.tables.declarations })) at refl a))

  provides-at : (b : BuildingOf) (which : Option StandardClass) (name : Standard) (token block : ℕ) (first : Option DeclNo) → Stays ss now b → Stays ss now (provides_in b which name token block first)
  provides-at b None name token block first a = alone-row b name token first block (slice_get b.tables.blocks block) refl a
  provides-at b (Some which) name token block first a = provided-row b name token first (block + 1 + place_of which) (slice_get b.tables.blocks (block + 1 + place_of which)) refl a

  provides-stays : (b : BuildingOf) (which : Option StandardClass) (name : Standard) (token : ℕ) (o : Option ℕ) → Stays ss now b → Stays ss now (provides b which name token o)
  provides-stays b which name token None a = a
  provides-stays b which name token (Some block) a = provides-at b which name token block (first_brought (slice_get b.tables.blocks block)) a

  guards-row : (b : BuildingOf) (hides keeps : Bool) (x : Identifier) (block : ℕ) (o : Option BlockOf) → slice_get b.tables.blocks block ≡ o → Stays ss now b → Stays ss now (guards_at b hides keeps x block o)
  guards-row b hides keeps x block None at a = a
  guards-row b hides keeps x block (Some row) at a =
      let new : BlockOf = protecting hides keeps x.name row in
      same_tables (record b { tables = record b.tables { blocks = slice_set b.tables.blocks block new } }) _ refl refl (row_stays b block row new at refl a)

  guards-stays : (b : BuildingOf) (hides keeps : Bool) (x : Identifier) (o : Option ℕ) → Stays ss now b → Stays ss now (guards b hides keeps x o)
  guards-stays b hides keeps x None a = a
  guards-stays b hides keeps x (Some block) a = guards-row b hides keeps x block (slice_get b.tables.blocks block) refl a

-- Marks that neither open nor close a block, and set no prefix.
abbrev pub Quiet : Mark → Type 0
Quiet (Opens k text first) = ⊥
Quiet (Closes end) = ⊥
Quiet (Prefixes class) = ⊥
Quiet (Brings which token) = ⊥
Quiet _ = Unit {0}

abbrev pub AllQuiet : List Mark → Type 0
AllQuiet [] = Unit {0}
AllQuiet (m ∷ ms) = Quiet m × AllQuiet ms

pub quiet_stays : {ss : List Shape} {k : Option ℕ} (b : BuildingOf) (m : Mark) → Quiet m → Stays ss k b → Stays ss k (marked b m)
unfolding marked
quiet_stays b (Opens k text first) q a = absurd q
quiet_stays b (Closes end) q a = absurd q
quiet_stays b (Declares x e) q a = declared-stays b x e b.current a
quiet_stays b (DeclaresProcedure x result) q a = declared-stays b x (entry.Procedure result (length b.tables.blocks)) b.current a
quiet_stays b (DeclaresClass x) q a = changed-stays (declared b x (entry.Class (length b.tables.blocks))) holding_class b.current (λ row. refl) (declared-stays b x (entry.Class (length b.tables.blocks)) b.current a)
quiet_stays b (Parameter x) q a = counted-stays (declared b x (entry.Unspecified None)) _ (declared-stays b x (entry.Unspecified None) b.current a)
quiet_stays b (Moded x m) q a = moded-stays b x.token m (found_in b.tables b.current x.name) a
quiet_stays b (Specified x k ty) q a = let d = found_in b.tables b.current x.name in specified-stays (record b { latest = d }) x.token k ty d (same_tables b _ refl refl a)
quiet_stays b (Headed x) q a = headed-stays b x.token (unspecified_at b.tables (found_in b.tables b.current x.name)) a
quiet_stays b (Qualifies class) q a = qualified-stays b class b.latest a
quiet_stays b (Prefixes class) q a = absurd q
quiet_stays b (Brings which token) q a = absurd q
quiet_stays b (Provides which name token) q a = provides-stays b which name token b.current a
quiet_stays b (Protects hides keeps x) q a = guards-stays b hides keeps x b.current a
quiet_stays b (Inner token) q a = inner-stays b token b.current a
quiet_stays b (Breaks token rule) q a = same_tables b _ refl refl a

pub all_stay : {ss : List Shape} {k : Option ℕ} (b : BuildingOf) (ms : List Mark) → AllQuiet ms → Stays ss k b → Stays ss k (run marked b ms)
unfolding run
all_stay b [] q a = a
all_stay b (m ∷ ms) q a = all_stay (marked b m) ms q.1 (quiet_stays b m q.0 a)

pub quiet_both : (xs ys : List Mark) → AllQuiet xs → AllQuiet ys → AllQuiet (xs ++ ys)
quiet_both [] ys q r = r
quiet_both (x ∷ xs) ys q r = (q.0, quiet_both xs ys q.1 r)

pub quiet_each : {A : Type 0} (f : A → List Mark) (xs : List A) → ((x : A) → AllQuiet (f x)) → AllQuiet (each f xs)
quiet_each f [] q = tt
quiet_each f (x ∷ xs) q = quiet_both (f x) (each f xs) (q x) (quiet_each f xs q)
