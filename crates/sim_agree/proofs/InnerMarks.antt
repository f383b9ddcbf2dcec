-- Marks that leave each block its `inner` and the block around it.
use Rattle.std.proofs.Common.{◌≡◌, ℕ, Bool, true, false, List, [], ◌∷◌, ◌++◌, length, map, Option, Some, None, refl, ap, ◌∙◌, if◌then◌else◌}
use Rattle.std.specs.Prelude.{◌&&◌, nat_eq, not, slice_get, slice_set}
use Rattle.std.specs.List.{list_any}
use Rattle.std.specs.Str.{bytes_eq}
use Rattle.sim_base.specs.declared.numbering.DeclNo.{DeclNo}
use Rattle.sim_base.specs.declared.numbering.TokenNo.{TokenNo}
use Rattle.sim_base.specs.declared.rule.Rule.{Rule}
use Rattle.sim_base.specs.declared.rule.Rule.TheVariants as r
use Rattle.sim_tree.specs.declared.expr.Identifier.{Identifier}
use Rattle.sim_tree.specs.declared.stmt.Constant.{Constant}
use Rattle.sim_tree.specs.declared.stmt.Mode.{Mode as Word}
use Rattle.sim_tree.specs.declared.stmt.TypeName.{TypeName}
use Rattle.sim_tree.specs.declared.stmt.TypeName.TheVariants as type_name
use Rattle.sim_tree.specs.declared.stmt.Variable.{Variable}
use Rattle.sim_tree.specs.Syntax as s
use Rattle.sim_tree.specs.Syntax.{Arrayed, Heading, Specified as Specifier, Interface}
use Rattle.sim_scope.specs.declared.scopes.Declaration.{Declaration}
use Rattle.sim_scope.specs.declared.types.Entry.{Entry}
use Rattle.sim_scope.specs.declared.types.Entry.TheVariants as entry
use Rattle.sim_scope.specs.declared.types.FormalKind.{FormalKind}
use Rattle.sim_scope.specs.declared.types.Mode.{Mode}
use Rattle.sim_scope.specs.declared.types.SimType.{SimType}
use Rattle.sim_scope.specs.declared.types.WrittenMode.{WrittenMode}
use Rattle.sim_scope.specs.Building.{Breaks, Brings, BuildingOf, Closes, Declares, DeclaresClass, DeclaresProcedure, Headed, Inner, Mark, Moded, Opens, Parameter, Prefixes, Protects, Provides, Qualifies, Specified, broken, broken_if, changed, changed_row, counted, counted_in, counting, declared, declared_again, declared_at, declared_inside, declared_new, declared_twice, entered, formal, found_in, headed, holding_class, in_class, is_by_name, is_match, is_procedure, marked, matched, mode_allowed, moded, moded_as, most_declarations, qualified, specified, specified_as, token_in, unspecified_at, unspecified_in, with_entry, with_mode, with_name, prefixed_by, guards, guards_at, protecting}
use Rattle.sim_scope.specs.Declare.{array_marks, headed_marks, heading_marks, mode_part_marks, moded_marks, parameter_marks, qualified_marks, qualified_result, segment_marks, specification_marks, specified_marks, type_named, variable_marks, interface_marks, is_written, protected_marks, protection_marks, virtual_marks, virtual_name_marks}
use Rattle.sim_scope.specs.Runs.{each, run}
use Rattle.sim_scope.specs.Scopes.{declared_in, entry_of}
use Rattle.sim_scope.specs.Tables.{BlockOf}
use Rattle.sim_scope.proofs.Quiet.{map_set}

-- of a block the `inner` that is written in it, and the block around it
pub record InnerRow : Type 0 where
  pub inner : Option ℕ
  pub encloser : Option ℕ

abbrev pub inner_row : BlockOf → InnerRow
inner_row row = record { inner = row.inner; encloser = row.encloser }

-- the blocks are these, and this one is the innermost that is open
pub record Stays (rs : List InnerRow) (k : Option ℕ) (b : BuildingOf) : Type 0 where
  pub rows : map inner_row b.tables.blocks ≡ rs
  pub current : b.current ≡ k

module _ {rs : List InnerRow} {now : Option ℕ} where
  same_tables : (b c : BuildingOf) → c.tables.blocks ≡ b.tables.blocks → c.current ≡ b.current → Stays rs now b → Stays rs now c
  same_tables b c t e a = record { rows = ap (map inner_row) t ∙ a.rows; current = e ∙ a.current }

  pub row_stays : (b : BuildingOf) (j : ℕ) (row new : BlockOf) → slice_get b.tables.blocks j ≡ Some row → inner_row new ≡ inner_row row → Stays rs now b → Stays rs now (record b { tables = record b.tables { blocks = slice_set b.tables.blocks j new } })
  row_stays b j row new at alike a = record { rows = map_set inner_row b.tables.blocks j row new at alike ∙ a.rows; current = a.current }

  if_broken : (c : Bool) (b : BuildingOf) (token : ℕ) (rule : Rule) → Stays rs now b → Stays rs now (broken_if c b token rule)
  if_broken true b token rule a = same_tables b _ refl refl a
  if_broken false b token rule a = a

  -- Declarations.
  counting_stays : (b : BuildingOf) (x : Identifier) → Stays rs now b → Stays rs now (counting b x)
  counting_stays b x a = if_broken (nat_eq b.own most_declarations) _ x.token.0 r.TooManyDeclarations (same_tables b _ refl refl a)

  again_stays : (b : BuildingOf) (x : Identifier) (e : Entry) (block : ℕ) (o : Option DeclNo) → Stays rs now b → Stays rs now (declared_again b x e block o)
  again_stays b x e block None a = same_tables b _ refl refl a
  again_stays b x e block (Some d) a = go (is_match e (entry_of b.tables d))
    where
      go : (z : Bool) → Stays rs now (if z then matched b x e block d else declared_twice b x (Some d))
      go true = counting_stays _ x (same_tables b _ refl refl a)
      go false = same_tables b _ refl refl a

  declared_row : (b : BuildingOf) (x : Identifier) (e : Entry) (block : ℕ) (o : Option BlockOf) → slice_get b.tables.blocks block ≡ o → Stays rs now b → Stays rs now (declared_at b x e block o)
  declared_row b x e block None at a = a
  declared_row b x e block (Some row) at a = go (list_any (bytes_eq x.name) row.names)
    where
      d : DeclNo
      d = record { 0 = length b.tables.declarations }

      go : (c : Bool) → Stays rs now (if c then declared_again b x e block (declared_in (Some row) x.name) else declared_new b x e block row)
      go true = again_stays b x e block (declared_in (Some row) x.name) a
      go false =
          counting_stays _ x (same_tables (record b { tables = record b.tables { blocks = slice_set b.tables.blocks block (with_name row x.name d) } }) _ refl refl (row_stays b block row (with_name row x.name d) at refl a))

  declared_stays : (b : BuildingOf) (x : Identifier) (e : Entry) (o : Option ℕ) → Stays rs now b → Stays rs now (declared_inside b x e o)
  declared_stays b x e None a = a
  declared_stays b x e (Some block) a = declared_row b x e block (slice_get b.tables.blocks block) refl a

  holding_at : (b : BuildingOf) (block : ℕ) (o : Option BlockOf) → slice_get b.tables.blocks block ≡ o → Stays rs now b → Stays rs now (changed_row b holding_class block o)
  holding_at b block None at a = a
  holding_at b block (Some row) at a = row_stays b block row (holding_class row) at refl a

  holding_stays : (b : BuildingOf) (o : Option ℕ) → Stays rs now b → Stays rs now (changed b holding_class o)
  holding_stays b None a = a
  holding_stays b (Some block) a = holding_at b block (slice_get b.tables.blocks block) refl a

  guards_at_stays : (b : BuildingOf) (hides keeps : Bool) (x : Identifier) (block : ℕ) (o : Option BlockOf) → slice_get b.tables.blocks block ≡ o → Stays rs now b → Stays rs now (guards_at b hides keeps x block o)
  guards_at_stays b hides keeps x block None at a = a
  guards_at_stays b hides keeps x block (Some row) at a =
      let new : BlockOf = protecting hides keeps x.name row in
      same_tables (record b { tables = record b.tables { blocks = slice_set b.tables.blocks block new } }) _ refl refl (row_stays b block row new at refl a)

  guards_stays : (b : BuildingOf) (hides keeps : Bool) (x : Identifier) (o : Option ℕ) → Stays rs now b → Stays rs now (guards b hides keeps x o)
  guards_stays b hides keeps x None a = a
  guards_stays b hides keeps x (Some block) a = guards_at_stays b hides keeps x block (slice_get b.tables.blocks block) refl a

  prefix_at : (b : BuildingOf) (x : Identifier) (block : ℕ) (o : Option BlockOf) → slice_get b.tables.blocks block ≡ o → Stays rs now b → Stays rs now (changed_row b (prefixed_by x) block o)
  prefix_at b x block None at a = a
  prefix_at b x block (Some row) at a = row_stays b block row (prefixed_by x row) at refl a

  prefix_stays : (b : BuildingOf) (x : Identifier) (o : Option ℕ) → Stays rs now b → Stays rs now (changed b (prefixed_by x) o)
  prefix_stays b x None a = a
  prefix_stays b x (Some block) a = prefix_at b x block (slice_get b.tables.blocks block) refl a

  qualified_stays : (b : BuildingOf) (class : Identifier) (o : Option DeclNo) → Stays rs now b → Stays rs now (qualified b class o)
  qualified_stays b class None a = a
  qualified_stays b class (Some d) a = same_tables b _ refl refl a

  -- Headings.
  counted_row : (b : BuildingOf) (block : ℕ) (o : Option BlockOf) → slice_get b.tables.blocks block ≡ o → Stays rs now b → Stays rs now (counted b block o)
  counted_row b block None at a = a
  counted_row b block (Some row) at a = row_stays b block row (record row { formals = length row.numbers }) at refl a

  counted_stays : (b : BuildingOf) (o : Option ℕ) → Stays rs now b → Stays rs now (counted_in b o)
  counted_stays b None a = a
  counted_stays b (Some block) a = counted_row b block (slice_get b.tables.blocks block) refl a

  entry_stays : (b : BuildingOf) (d : DeclNo) (e : Entry) → Stays rs now b → Stays rs now (with_entry b d e)
  entry_stays b d e a = go (slice_get b.tables.declarations d.0)
    where
      go : (o : Option Declaration) → Stays rs now (entered b d e o)
      go None = a
      go (Some row) = same_tables b _ refl refl a

  moded_row : (b : BuildingOf) (token : TokenNo) (m : Mode) (d : DeclNo) (o : Option (Option WrittenMode)) → Stays rs now b → Stays rs now (moded_as b token m d o)
  moded_row b token m d None a = same_tables b _ refl refl a
  moded_row b token m d (Some (Some written)) a = same_tables b _ refl refl a
  moded_row b token m d (Some None) a = go (is_by_name m && in_class b)
    where
      go : (c : Bool) → Stays rs now (if c then broken b token.0 r.ModeNotAllowed else with_entry b d (entry.Unspecified (Some (record { token = token; mode = m }))))
      go true = same_tables b _ refl refl a
      go false = entry_stays b d _ a

  moded_stays : (b : BuildingOf) (token : TokenNo) (m : Mode) (o : Option DeclNo) → Stays rs now b → Stays rs now (moded b token m o)
  moded_stays b token m None a = same_tables b _ refl refl a
  moded_stays b token m (Some d) a = moded_row b token m d (unspecified_in (entry_of b.tables d)) a

  mode_stays : (b : BuildingOf) (d : DeclNo) (k : FormalKind) (ty : Option SimType) (o : Option WrittenMode) → Stays rs now b → Stays rs now (with_mode b d k ty o)
  mode_stays b d k ty None a = entry_stays b d _ a
  mode_stays b d k ty (Some w) a = if_broken (not (mode_allowed w.mode k ty)) _ w.token.0 r.ModeNotAllowed (entry_stays b d (formal w.mode k ty) a)

  specified_row : (b : BuildingOf) (token : TokenNo) (k : FormalKind) (ty : Option SimType) (d : DeclNo) (o : Option (Option WrittenMode)) → Stays rs now b → Stays rs now (specified_as b token k ty d o)
  specified_row b token k ty d None a = same_tables b _ refl refl a
  specified_row b token k ty d (Some written) a =
      if_broken (is_procedure k && in_class b) _ (token_in (slice_get b.tables.declarations d.0)) r.ModeNotAllowed (mode_stays b d k ty written a)

  specified_stays : (b : BuildingOf) (token : TokenNo) (k : FormalKind) (ty : Option SimType) (o : Option DeclNo) → Stays rs now b → Stays rs now (specified b token k ty o)
  specified_stays b token k ty None a = same_tables b _ refl refl a
  specified_stays b token k ty (Some d) a = specified_row b token k ty d (unspecified_in (entry_of b.tables d)) a

  headed_stays : (b : BuildingOf) (token : TokenNo) (o : Option (Option WrittenMode)) → Stays rs now b → Stays rs now (headed b token o)
  headed_stays b token None a = a
  headed_stays b token (Some written) a = same_tables b _ refl refl a

-- Marks that begin and end no block, and no `inner`; nothing of standard prefixes is among them.
abbrev pub Keeps : Mark → Type 0
Keeps (Opens k text first) = ⊥
Keeps (Closes end) = ⊥
Keeps (Brings which token) = ⊥
Keeps (Provides which name token) = ⊥
Keeps (Inner token) = ⊥
Keeps _ = Unit {0}

abbrev pub AllKeep : List Mark → Type 0
AllKeep [] = Unit {0}
AllKeep (m ∷ ms) = Keeps m × AllKeep ms

one_stays : {rs : List InnerRow} {k : Option ℕ} (b : BuildingOf) (m : Mark) → Keeps m → Stays rs k b → Stays rs k (marked b m)
unfolding marked
one_stays b (Opens k text first) q a = absurd q
one_stays b (Closes end) q a = absurd q
one_stays b (Declares x e) q a = declared_stays b x e b.current a
one_stays b (DeclaresProcedure x result) q a = declared_stays b x (entry.Procedure result (length b.tables.blocks)) b.current a
one_stays b (DeclaresClass x) q a = holding_stays (declared b x (entry.Class (length b.tables.blocks))) b.current (declared_stays b x (entry.Class (length b.tables.blocks)) b.current a)
one_stays b (Parameter x) q a = counted_stays (declared b x (entry.Unspecified None)) _ (declared_stays b x (entry.Unspecified None) b.current a)
one_stays b (Moded x m) q a = moded_stays b x.token m (found_in b.tables b.current x.name) a
one_stays b (Specified x k ty) q a = let d = found_in b.tables b.current x.name in specified_stays (record b { latest = d }) x.token k ty d (same_tables b _ refl refl a)
one_stays b (Headed x) q a = headed_stays b x.token (unspecified_at b.tables (found_in b.tables b.current x.name)) a
one_stays b (Qualifies class) q a = qualified_stays b class b.latest a
one_stays b (Prefixes class) q a = prefix_stays b class b.current a
one_stays b (Brings which token) q a = absurd q
one_stays b (Provides which name token) q a = absurd q
one_stays b (Protects hides keeps x) q a = guards_stays b hides keeps x b.current a
one_stays b (Inner token) q a = absurd q
one_stays b (Breaks token rule) q a = same_tables b _ refl refl a

pub all_stay : {rs : List InnerRow} {k : Option ℕ} (b : BuildingOf) (ms : List Mark) → AllKeep ms → Stays rs k b → Stays rs k (run marked b ms)
unfolding run
all_stay b [] q a = a
all_stay b (m ∷ ms) q a = all_stay (marked b m) ms q.1 (one_stays b m q.0 a)

-- ---- what the parts of a declaration contribute

pub keep_both : (xs ys : List Mark) → AllKeep xs → AllKeep ys → AllKeep (xs ++ ys)
keep_both [] ys q r = r
keep_both (x ∷ xs) ys q r = (q.0, keep_both xs ys q.1 r)

keep_each : {A : Type 0} (f : A → List Mark) (xs : List A) → ((x : A) → AllKeep (f x)) → AllKeep (each f xs)
keep_each f [] q = tt
keep_each f (x ∷ xs) q = keep_both (f x) (each f xs) (q x) (keep_each f xs q)

keep_qualified : (t : TypeName) → AllKeep (qualified_marks t)
unfolding qualified_marks
keep_qualified (type_name.Integer i) = tt
keep_qualified (type_name.Boolean i) = tt
keep_qualified (type_name.Character i) = tt
keep_qualified (type_name.Text i) = tt
keep_qualified (type_name.Reference i class) = (tt, tt)

pub keep_result : (t : Option TypeName) → AllKeep (qualified_result t)
unfolding qualified_result
keep_result None = tt
keep_result (Some t) = keep_qualified t

keep_variable : (t : TypeName) (v : Variable) → AllKeep (variable_marks t v)
unfolding variable_marks
keep_variable t v = go v.value
  where
    go : (o : Option Constant) → AllKeep (elim o [ None ↦ Declares v.name (entry.Variable (type_named t)) ∷ qualified_marks t | Some c ↦ Declares v.name (entry.Constant (type_named t)) ∷ qualified_marks t ])
    go None = (tt, keep_qualified t)
    go (Some c) = (tt, keep_qualified t)

pub keep_variables : (t : TypeName) (vs : List Variable) → AllKeep (each (variable_marks t) vs)
keep_variables t vs = keep_each (variable_marks t) vs (keep_variable t)

keep_array : (t : TypeName) (n : ℕ) (x : Identifier) → AllKeep (array_marks t n x)
unfolding array_marks
keep_array t n x = (tt, keep_qualified t)

pub keep_segments : (t : TypeName) (segments : List Arrayed) → AllKeep (each (segment_marks t) segments)
keep_segments t segments = keep_each (segment_marks t) segments (λ a. keep_each (array_marks t (length a.bounds)) a.names (keep_array t (length a.bounds)))

keep_parameter : (x : Identifier) → AllKeep (parameter_marks x)
unfolding parameter_marks
keep_parameter x = (tt, tt)

keep_moded : (m : Word) (x : Identifier) → AllKeep (moded_marks m x)
unfolding moded_marks
keep_moded m x = (tt, tt)

keep_specified : (k : Specifier) (x : Identifier) → AllKeep (specified_marks k x)
unfolding specified_marks
keep_specified (s.Simple t) x = (tt, keep_qualified t)
keep_specified (s.Array t i) x = (tt, keep_qualified t)
keep_specified (s.Procedure t i) x = (tt, keep_result t)

keep_headed : (x : Identifier) → AllKeep (headed_marks x)
unfolding headed_marks
keep_headed x = (tt, tt)

pub keep_heading : (h : Heading) → AllKeep (heading_marks h)
keep_heading h =
    keep_both (each parameter_marks h.formals) _ (keep_each parameter_marks h.formals keep_parameter)
    (keep_both (each mode_part_marks h.modes) _ (keep_each mode_part_marks h.modes (λ m. keep_each (moded_marks m.mode) m.names (keep_moded m.mode)))
    (keep_both (each specification_marks h.specifications) _ (keep_each specification_marks h.specifications (λ x. keep_each (specified_marks x.kind) x.names (keep_specified x.kind)))
    (keep_each headed_marks h.formals keep_headed)))

keep_protected : (hides keeps : Bool) (x : Identifier) → AllKeep (protected_marks hides keeps x)
unfolding protected_marks
keep_protected hides keeps x = (tt, tt)

keep_virtual : (t : Option TypeName) (x : Identifier) → AllKeep (virtual_name_marks t x)
unfolding virtual_name_marks
keep_virtual t x = (tt, keep_result t)

pub keep_interface : (i : Interface) → AllKeep (interface_marks i)
keep_interface i =
    keep_both (each protection_marks i.protections) (each virtual_marks i.virtuals) (keep_each protection_marks i.protections (λ q. keep_each (protected_marks (is_written q.hidden) (is_written q.protected)) q.names (keep_protected (is_written q.hidden) (is_written q.protected))))
    (keep_each virtual_marks i.virtuals (λ v. keep_each (virtual_name_marks v.result) v.names (keep_virtual v.result)))
