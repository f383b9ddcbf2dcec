-- In the tables of a program the block of each token is the innermost one whose text has it.
use Rattle.std.proofs.Common.{◌≡◌, ◌<◌, ◌≤◌, ◌+◌, ◌-◌, ◌⊎◌, inl, inr, ℕ, Bool, true, false, List, [], ◌∷◌, ◌++◌, length, Option, Some, None, refl, sym, ap, ◌∙◌, subst, arith, if◌then◌else◌}
use Rattle.std.specs.Prelude.{◌&&◌, nat_eq, nat_lt, not, replicate, slice_get, slice_set}
use Rattle.std.specs.List.{list_any}
use Rattle.std.specs.Str.{bytes_eq}
use Rattle.std.proofs.Math.Path.{fun_ext}
use Rattle.std.proofs.lemmas.List.{length-append, length-replicate, length-set}
use Rattle.std.proofs.lemmas.Option.{slice_get_within}
use Rattle.std.proofs.lemmas.Bool.Decides.{nat_tests}
use Rattle.sim_base.specs.declared.numbering.DeclNo.{DeclNo}
use Rattle.sim_base.specs.declared.numbering.TokenNo.{TokenNo}
use Rattle.sim_base.specs.declared.rule.Rule.{Rule}
use Rattle.sim_base.specs.declared.rule.Rule.TheVariants as r
use Rattle.sim_tree.specs.declared.expr.Identifier.{Identifier}
use Rattle.sim_tree.specs.Syntax.{Program}
use Rattle.sim_scope.specs.declared.scopes.Declaration.{Declaration}
use Rattle.sim_values.specs.declared.standard.Standard.{Standard}
use Rattle.sim_scope.specs.declared.types.Entry.{Entry}
use Rattle.sim_scope.specs.declared.types.Entry.TheVariants as entry
use Rattle.sim_scope.specs.declared.types.FormalKind.{FormalKind}
use Rattle.sim_scope.specs.declared.types.Mode.{Mode}
use Rattle.sim_scope.specs.declared.types.SimType.{SimType}
use Rattle.sim_scope.specs.declared.types.StandardClass.{StandardClass}
use Rattle.sim_scope.specs.declared.types.WrittenMode.{WrittenMode}
use Rattle.sim_scope.specs.Building.{Breaks, Brings, BuildingOf, Closes, Declares, DeclaresClass, DeclaresProcedure, Headed, Inner, Mark, Moded, Opens, Parameter, Prefixes, Protects, Provides, Qualifies, Specified, added, block_around, brings, brings_at, brings_new, broken, broken_if, changed, changed_row, class_row, closed, closed_at, counted, counted_in, declared, declared_again, declared_at, declared_inside, entered, first_brought, formal, found_in, guards, guards_at, headed, holding_class, in_class, inner, inner_at, inner_in, is_by_name, is_match, is_procedure, level_in, marked, match_known, mode_allowed, moded, moded_as, most_declarations, most_levels, name_of, owner_of, place_of, prefixed_by, protecting, provided_alone, provided_in, provides, provides_in, qualified, specified, specified_as, token_in, unspecified_at, unspecified_in, with_brought, with_entry, with_mode, with_name}
use Rattle.sim_scope.specs.Declare.{declared_by, declaring, empty}
use Rattle.sim_scope.specs.Laws.{HasToken, IsPlace, Rising}
use Rattle.sim_scope.specs.Runs.{run}
use Rattle.sim_scope.specs.Scopes.{declared_in, entry_of}
use Rattle.sim_scope.specs.Standard.{attribute_name}
use Rattle.sim_scope.specs.Tables.{BlockOf}
use Rattle.sim_scope.specs.Walk.{program_events}
use Rattle.sim_scope.proofs.Inside.{Shape, Shapes, In, Inside, Open, PlacedIn, begun, brought, filled, finished, none_open, some-same}
use Rattle.sim_scope.proofs.Kept.{kept_set, more_here, more_other, set_here, set_other}

abbrev shape : Option BlockOf → Option Shape
shape None = None
shape (Some row) = Some (row.first, row.end, row.encloser)

abbrev shapes : List BlockOf → Shapes
shapes blocks b = shape (slice_get blocks b)

-- Declarations leave the shapes of blocks as they are.
record Same (a b : BuildingOf) : Type 0 where
  shaped : (k : ℕ) → shape (slice_get b.tables.blocks k) ≡ shape (slice_get a.tables.blocks k)
  size : length b.tables.blocks ≡ length a.tables.blocks
  current : b.current ≡ a.current
  places : b.tables.places ≡ a.tables.places

module _ (a : BuildingOf) where
  itself : Same a a
  itself = record { shaped = λ k. refl; size = refl; current = refl; places = refl }

  if-broken : (c : Bool) (b : BuildingOf) (token : ℕ) (rule : Rule) → Same a b → Same a (broken_if c b token rule)
  if-broken true b token rule h = record { shaped = h.shaped; size = h.size; current = h.current; places = h.places }
  if-broken false b token rule h = h

  row-same : (b c : BuildingOf) (j : ℕ) (row new : BlockOf) → slice_get b.tables.blocks j ≡ Some row → shape (Some new) ≡ shape (Some row) → c.tables.blocks ≡ slice_set b.tables.blocks j new → c.current ≡ b.current → c.tables.places ≡ b.tables.places
      → Same a b → Same a c
  row-same b c j row new at alike blocks current places h = record {
    shaped = λ k. ap (λ z. shape (slice_get z k)) blocks ∙ kept_set shape b.tables.blocks j row new at alike k ∙ h.shaped k;
    size = ap length blocks ∙ length-set b.tables.blocks j new ∙ h.size;
    current = current ∙ h.current;
    places = places ∙ h.places;
  }

  -- only the blocks, the innermost open one and the places count
  alike : (b c : BuildingOf) → c.tables.blocks ≡ b.tables.blocks → c.current ≡ b.current → c.tables.places ≡ b.tables.places → Same a b → Same a c
  alike b c blocks current places h = record {
    shaped = λ k. ap (λ z. shape (slice_get z k)) blocks ∙ h.shaped k;
    size = ap length blocks ∙ h.size;
    current = current ∙ h.current;
    places = places ∙ h.places;
  }

  if-same : (c : Bool) (b n : BuildingOf) → Same a b → Same a n → Same a (if c then b else n)
  if-same true b n h g = h
  if-same false b n h g = g

  added-same : (b : BuildingOf) (x : Identifier) (e : Entry) (block : ℕ) (listed : Bool) → Same a b → Same a (added b x e block listed)
  added-same b x e block listed h = if-broken (nat_eq b.own most_declarations) _ x.token.0 r.TooManyDeclarations (alike b _ refl refl refl h)

  again-same : (b : BuildingOf) (x : Identifier) (e : Entry) (block : ℕ) (o : Option DeclNo) → Same a b → Same a (declared_again b x e block o)
  again-same b x e block None h = alike b _ refl refl refl h
  again-same b x e block (Some d) h = if-same (is_match e (entry_of b.tables d)) _ _ (added-same (match_known b d) x e block false (alike b _ refl refl refl h)) (alike b _ refl refl refl h)

  declared-row : (b : BuildingOf) (x : Identifier) (e : Entry) (block : ℕ) (o : Option BlockOf) → slice_get b.tables.blocks block ≡ o → Same a b → Same a (declared_at b x e block o)
  declared-row b x e block None at h = h
  declared-row b x e block (Some row) at h =
      let new : BlockOf = with_name row x.name (record { 0 = length b.tables.declarations }) in
      let c : BuildingOf = record b { tables = record b.tables { blocks = slice_set b.tables.blocks block new } } in
      if-same (list_any (bytes_eq x.name) row.names) _ _ (again-same b x e block (declared_in (Some row) x.name) h) (added-same c x e block true (row-same b c block row new at refl refl refl refl h))

  declared-same : (b : BuildingOf) (x : Identifier) (e : Entry) (o : Option ℕ) → Same a b → Same a (declared_inside b x e o)
  declared-same b x e None h = h
  declared-same b x e (Some block) h = declared-row b x e block (slice_get b.tables.blocks block) refl h

  changed-row : (b : BuildingOf) (change : BlockOf → BlockOf) (block : ℕ) (o : Option BlockOf) → ((row : BlockOf) → shape (Some (change row)) ≡ shape (Some row)) → slice_get b.tables.blocks block ≡ o → Same a b → Same a (changed_row b change block o)
  changed-row b change block None like at h = h
  changed-row b change block (Some row) like at h = row-same b _ block row (change row) at (like row) refl refl refl h

  changed-same : (b : BuildingOf) (change : BlockOf → BlockOf) (o : Option ℕ) → ((row : BlockOf) → shape (Some (change row)) ≡ shape (Some row)) → Same a b → Same a (changed b change o)
  changed-same b change None like h = h
  changed-same b change (Some block) like h = changed-row b change block (slice_get b.tables.blocks block) like refl h

  qualified-same : (b : BuildingOf) (class : Identifier) (o : Option DeclNo) → Same a b → Same a (qualified b class o)
  qualified-same b class None h = h
  qualified-same b class (Some d) h = alike b _ refl refl refl h

  alone-row : (b : BuildingOf) (name : Standard) (token : ℕ) (first : Option DeclNo) (block : ℕ) (o : Option BlockOf) → slice_get b.tables.blocks block ≡ o → Same a b → Same a (provided_alone b name token first block o)
  alone-row b name token first block None at h = h
  alone-row b name token first block (Some row) at h =
      if-same (list_any (bytes_eq (attribute_name name)) row.brought_names) b _ h
      (row-same b _ block row (with_brought (attribute_name name) (record { 0 = length b.tables.declarations }) row) at refl refl refl refl h)

  provided-row : (b : BuildingOf) (name : Standard) (token : ℕ) (first : Option DeclNo) (block : ℕ) (o : Option BlockOf) → slice_get b.tables.blocks block ≡ o → Same a b → Same a (provided_in b name token first block o)
  provided-row b name token first block None at h = h
  provided-row b name token first block (Some row) at h =
      if-same (list_any (bytes_eq (attribute_name name)) row.names) b _ h
      (row-same b _ block row (with_name row (attribute_name name) (record { 0 = length b.tables.declarations })) at refl refl refl refl h)

  provides-at : (b : BuildingOf) (which : Option StandardClass) (name : Standard) (token block : ℕ) (first : Option DeclNo) → Same a b → Same a (provides_in b which name token block first)
  provides-at b None name token block first h = alone-row b name token first block (slice_get b.tables.blocks block) refl h
  provides-at b (Some which) name token block first h = provided-row b name token first (block + 1 + place_of which) (slice_get b.tables.blocks (block + 1 + place_of which)) refl h

  provides-same : (b : BuildingOf) (which : Option StandardClass) (name : Standard) (token : ℕ) (o : Option ℕ) → Same a b → Same a (provides b which name token o)
  provides-same b which name token None h = h
  provides-same b which name token (Some block) h = provides-at b which name token block (first_brought (slice_get b.tables.blocks block)) h

  guards-row : (b : BuildingOf) (hides keeps : Bool) (x : Identifier) (block : ℕ) (o : Option BlockOf) → slice_get b.tables.blocks block ≡ o → Same a b → Same a (guards_at b hides keeps x block o)
  guards-row b hides keeps x block None at h = h
  guards-row b hides keeps x block (Some row) at h = row-same b _ block row (protecting hides keeps x.name row) at refl refl refl refl h

  guards-same : (b : BuildingOf) (hides keeps : Bool) (x : Identifier) (o : Option ℕ) → Same a b → Same a (guards b hides keeps x o)
  guards-same b hides keeps x None h = h
  guards-same b hides keeps x (Some block) h = guards-row b hides keeps x block (slice_get b.tables.blocks block) refl h

  counted-row : (b : BuildingOf) (block : ℕ) (o : Option BlockOf) → slice_get b.tables.blocks block ≡ o → Same a b → Same a (counted b block o)
  counted-row b block None at h = h
  counted-row b block (Some row) at h = row-same b _ block row (record row { formals = length row.numbers }) at refl refl refl refl h

  counted-same : (b : BuildingOf) (o : Option ℕ) → Same a b → Same a (counted_in b o)
  counted-same b None h = h
  counted-same b (Some block) h = counted-row b block (slice_get b.tables.blocks block) refl h

  entered-row : (b : BuildingOf) (d : DeclNo) (e : Entry) (o : Option Declaration) → Same a b → Same a (entered b d e o)
  entered-row b d e None h = h
  entered-row b d e (Some row) h = record { shaped = h.shaped; size = h.size; current = h.current; places = h.places }

  entry-same : (b : BuildingOf) (d : DeclNo) (e : Entry) → Same a b → Same a (with_entry b d e)
  entry-same b d e h = entered-row b d e (slice_get b.tables.declarations d.0) h

  broken-same : (b : BuildingOf) (token : ℕ) (rule : Rule) → Same a b → Same a (broken b token rule)
  broken-same b token rule h = record { shaped = h.shaped; size = h.size; current = h.current; places = h.places }

  moded-row : (b : BuildingOf) (token : TokenNo) (m : Mode) (d : DeclNo) (o : Option (Option WrittenMode)) → Same a b → Same a (moded_as b token m d o)
  moded-row b token m d None h = broken-same b token.0 r.ModeNotAllowed h
  moded-row b token m d (Some (Some written)) h = broken-same b token.0 r.ModeNotAllowed h
  moded-row b token m d (Some None) h = go (is_by_name m && in_class b)
    where
      go : (c : Bool) → Same a (if c then broken b token.0 r.ModeNotAllowed else with_entry b d (entry.Unspecified (Some (record { token = token; mode = m }))))
      go true = broken-same b token.0 r.ModeNotAllowed h
      go false = entry-same b d _ h

  moded-same : (b : BuildingOf) (token : TokenNo) (m : Mode) (o : Option DeclNo) → Same a b → Same a (moded b token m o)
  moded-same b token m None h = broken-same b token.0 r.ModeNotAllowed h
  moded-same b token m (Some d) h = moded-row b token m d (unspecified_in (entry_of b.tables d)) h

  with-mode : (b : BuildingOf) (d : DeclNo) (k : FormalKind) (ty : Option SimType) (o : Option WrittenMode) → Same a b → Same a (with_mode b d k ty o)
  with-mode b d k ty None h = entry-same b d _ h
  with-mode b d k ty (Some w) h = if-broken (not (mode_allowed w.mode k ty)) _ w.token.0 r.ModeNotAllowed (entry-same b d (formal w.mode k ty) h)

  specified-row : (b : BuildingOf) (token : TokenNo) (k : FormalKind) (ty : Option SimType) (d : DeclNo) (o : Option (Option WrittenMode)) → Same a b → Same a (specified_as b token k ty d o)
  specified-row b token k ty d None h = broken-same b token.0 r.SpecificationDisagrees h
  specified-row b token k ty d (Some written) h =
      if-broken (is_procedure k && in_class b) _ (token_in (slice_get b.tables.declarations d.0)) r.ModeNotAllowed (with-mode b d k ty written h)

  specified-same : (b : BuildingOf) (token : TokenNo) (k : FormalKind) (ty : Option SimType) (o : Option DeclNo) → Same a b → Same a (specified b token k ty o)
  specified-same b token k ty None h = broken-same b token.0 r.SpecificationDisagrees h
  specified-same b token k ty (Some d) h = specified-row b token k ty d (unspecified_in (entry_of b.tables d)) h

  headed-same : (b : BuildingOf) (token : TokenNo) (o : Option (Option WrittenMode)) → Same a b → Same a (headed b token o)
  headed-same b token None h = h
  headed-same b token (Some written) h = broken-same b token.0 r.SpecificationDisagrees h

  inner-in : (b : BuildingOf) (token block : ℕ) (row : BlockOf) (o : Option ℕ) → slice_get b.tables.blocks block ≡ Some row → Same a b → Same a (inner_in b token block row o)
  inner-in b token block row None at h = row-same b _ block row (record row { inner = Some token }) at refl refl refl refl h
  inner-in b token block row (Some other) at h = broken-same b token r.InnerOutOfPlace h

  inner-row : (b : BuildingOf) (token block : ℕ) (o : Option BlockOf) → slice_get b.tables.blocks block ≡ o → Same a b → Same a (inner_at b token block o)
  inner-row b token block None at h = h
  inner-row b token block (Some row) at h = inner-in b token block row row.inner at h

  inner-same : (b : BuildingOf) (token : ℕ) (o : Option ℕ) → Same a b → Same a (inner b token o)
  inner-same b token None h = h
  inner-same b token (Some block) h = inner-row b token block (slice_get b.tables.blocks block) refl h

-- The tables so far.
abbrev InsideOf : BuildingOf → Type 0
InsideOf b = Inside (shapes b.tables.blocks) (length b.tables.blocks) b.current b.tables.places

as_before : (b c : BuildingOf) → Same b c → InsideOf b → InsideOf c
as_before b c h a =
    let same : shapes c.tables.blocks ≡ shapes b.tables.blocks = fun_ext h.shaped in
    subst (λ z. Inside z (length c.tables.blocks) c.current c.tables.places) (sym same)
    (subst (λ z. Inside (shapes b.tables.blocks) z c.current c.tables.places) (sym h.size)
    (subst (λ z. Inside (shapes b.tables.blocks) (length b.tables.blocks) z c.tables.places) (sym h.current)
    (subst (λ z. Inside (shapes b.tables.blocks) (length b.tables.blocks) b.current z) (sym h.places) a)))

-- the tables, and that they reach to a token
record Read (b : BuildingOf) (from : ℕ) : Type 0 where
  inside : InsideOf b
  reach : length b.tables.places ≤ from

read_same : (b c : BuildingOf) (from : ℕ) → Same b c → Read b from → Read c from
read_same b c from h a = record { inside = as_before b c h a.inside; reach = (let e : length c.tables.places ≡ length b.tables.places = ap length h.places in let le : length b.tables.places ≤ from = a.reach in omega arith) }

read_if : (c : Bool) (b : BuildingOf) (token : ℕ) (rule : Rule) (from : ℕ) → Read b from → Read (broken_if c b token rule) from
read_if true b token rule from a = record { inside = a.inside; reach = a.reach }
read_if false b token rule from a = a

reached : (xs : List (Option ℕ)) (o : Option ℕ) (to : ℕ) → length xs ≤ to → length (xs ++ replicate (to - length xs) o) ≡ to
reached xs o to le =
    let e : length (xs ++ replicate (to - length xs) o) ≡ length xs + (to - length xs) = length-append xs (replicate (to - length xs) o) ∙ ap (λ z. length xs + z) (length-replicate (to - length xs) o) in omega arith

begin_block : (b : BuildingOf) (n : BlockOf) (from : ℕ) → length b.tables.places ≤ n.first → n.end ≡ n.first → n.encloser ≡ b.current → InsideOf b
    → Read (record b { tables = record b.tables { blocks = b.tables.blocks ++ n ∷ []; places = b.tables.places ++ replicate (n.first - length b.tables.places) b.current }; current = Some (length b.tables.blocks) }) n.first
begin_block b n from le ends around a =
    let bs : List BlockOf = b.tables.blocks in
    let ps : List (Option ℕ) = b.tables.places ++ replicate (n.first - length b.tables.places) b.current in
    let long : length ps ≡ n.first = reached b.tables.places b.current n.first le in
    let row : shapes (bs ++ n ∷ []) (length bs) ≡ Some (n.first, n.first, b.current) =
    ap shape (more_here bs n) ∙ ap (λ z. let y : Option Shape = Some (n.first, z, n.encloser) in y) ends ∙ ap (λ z. let y : Option Shape = Some (n.first, n.first, z) in y) around in
    let more : length (bs ++ n ∷ []) ≡ length bs + 1 = length-append bs (n ∷ []) in record {
      inside = subst (λ z. Inside (shapes (bs ++ n ∷ [])) z (Some (length bs)) ps) (sym more)
          (begun (shapes bs) (shapes (bs ++ n ∷ [])) (length bs) b.current ps n.first long row (λ k e. ap shape (more_other bs n k e)) (λ i place is. slice_get_within ps i place is)
          (filled (shapes bs) (length bs) b.current b.tables.places (n.first - length b.tables.places) (omega arith) a));
      reach = omega arith;
    }

end_block : (b : BuildingOf) (end block : ℕ) (o : Option BlockOf) (from : ℕ) → slice_get b.tables.blocks block ≡ o → b.current ≡ Some block → length b.tables.places ≤ end → InsideOf b → Read (closed_at b end block o) end
end_block b end block None from at is le a = record { inside = a; reach = le }
end_block b end block (Some row) from at is le a =
    let bs : List BlockOf = b.tables.blocks in
    let ps : List (Option ℕ) = b.tables.places ++ replicate (end - length b.tables.places) b.current in
    let new : BlockOf = record row { end = end } in
    let long : length ps ≡ end = reached b.tables.places b.current end le in record {
      inside = subst (λ z. Inside (shapes (slice_set bs block new)) z row.encloser ps) (sym (length-set bs block new))
          (finished (shapes bs) (shapes (slice_set bs block new)) (length bs) block (row.first, row.end, row.encloser) b.current ps end long is (ap shape at) (ap shape (set_here bs block row new at))
          (λ k e. ap shape (set_other bs block k new (flip k e))) (λ i place is. slice_get_within ps i place is)
          (filled (shapes bs) (length bs) b.current b.tables.places (end - length b.tables.places) (omega arith) a));
      reach = omega arith;
    }
  where
    flip : (k : ℕ) → nat_eq k block ≡ false → nat_eq block k ≡ false
    flip k e = grind (arith, nat_tests)

closes : (b : BuildingOf) (end from : ℕ) (o : Option ℕ) → b.current ≡ o → length b.tables.places ≤ end → InsideOf b → Read (closed b end o) end
closes b end from None is le a = record { inside = a; reach = le }
closes b end from (Some block) is le a = end_block b end block (slice_get b.tables.blocks block) from refl is le a

-- A standard class stands behind the block that declares it.
more_read : (b : BuildingOf) (n : BlockOf) (k from : ℕ) → n.first ≡ 0 → n.end ≡ 0 → n.encloser ≡ Some k → k < length b.tables.blocks → Read b from → Read (record b { tables = record b.tables { blocks = b.tables.blocks ++ n ∷ [] } }) from
more_read b n k from first end around lt a =
    let bs : List BlockOf = b.tables.blocks in
    let row : shapes (bs ++ n ∷ []) (length bs) ≡ Some (0, 0, Some k) =
    ap shape (more_here bs n) ∙ ap (λ z. let y : Option Shape = Some (z, n.end, n.encloser) in y) first ∙ ap (λ z. let y : Option Shape = Some (0, z, n.encloser) in y) end ∙ ap (λ z. let y : Option Shape = Some (0, 0, z) in y) around in
    let more : length (bs ++ n ∷ []) ≡ length bs + 1 = length-append bs (n ∷ []) in record {
      inside = subst (λ z. Inside (shapes (bs ++ n ∷ [])) z b.current b.tables.places) (sym more)
          (brought (shapes bs) (shapes (bs ++ n ∷ [])) (length bs) b.current b.tables.places k lt row (λ j e. ap shape (more_other bs n j e)) a.inside);
      reach = a.reach;
    }

brings_row : (b : BuildingOf) (which : StandardClass) (token block from : ℕ) (o : Option BlockOf) → slice_get b.tables.blocks block ≡ o → Read b from → Read (brings_at b which token block o) from
brings_row b which token block from None at a = a
brings_row b which token block from (Some row) at a = go (list_any (bytes_eq (name_of which)) row.brought_names)
  where
    d : DeclNo
    d = record { 0 = length b.tables.declarations }

    new : BlockOf
    new = with_brought (name_of which) d row

    m : BuildingOf
    m = record b { tables = record b.tables { blocks = slice_set b.tables.blocks block new } }

    lt : block < length m.tables.blocks
    lt = subst (λ n. block < n) (sym (length-set b.tables.blocks block new)) (slice_get_within b.tables.blocks block row at)

    made : Read (record m { tables = record m.tables { blocks = m.tables.blocks ++ class_row which block row d ∷ [] } }) from
    made = more_read m (class_row which block row d) block from refl refl refl lt (read_same b m from (row-same b b m block row new at refl refl refl refl (itself b)) a)

    go : (c : Bool) → Read (if c then b else brings_new b which token block row) from
    go true = a
    go false = record { inside = made.inside; reach = made.reach }

brings_read : (b : BuildingOf) (which : StandardClass) (token from : ℕ) (o : Option ℕ) → Read b from → Read (brings b which token o) from
brings_read b which token from None a = a
brings_read b which token from (Some block) a = brings_row b which token block from (slice_get b.tables.blocks block) refl a

all_read : (ms : List Mark) (b : BuildingOf) (from : ℕ) → Rising from ms → Read b from → InsideOf (run marked b ms)
unfolding run marked
all_read [] b from rise a = a.inside
all_read (Opens k text first ∷ ms) b from rise a =
    all_read ms _ first rise.1
    (read_if (nat_lt most_levels (level_in k (block_around b.tables b.current))) _ text r.TooManyLevels first
    (begin_block b (record { kind = k; first = first; end = first; encloser = b.current; level = level_in k (block_around b.tables b.current); owner = owner_of k b.latest; formals = 0; inner = None; prefix = None; base = None; standard = None; names = []; numbers = []; has_class = false; brought_names = []; brought = []; protected = []; hidden = [] }) from
    (let le : length b.tables.places ≤ from = a.reach in let up : from ≤ first = rise.0 in omega arith) refl refl a.inside))
all_read (Closes end ∷ ms) b from rise a =
    all_read ms _ end rise.1 (closes b end from b.current refl (let le : length b.tables.places ≤ from = a.reach in let up : from ≤ end = rise.0 in omega arith) a.inside)
all_read (Declares x e ∷ ms) b from rise a = all_read ms _ from rise (read_same b _ from (declared-same b b x e b.current (itself b)) a)
all_read (DeclaresProcedure x result ∷ ms) b from rise a = all_read ms _ from rise (read_same b _ from (declared-same b b x (entry.Procedure result (length b.tables.blocks)) b.current (itself b)) a)
all_read (DeclaresClass x ∷ ms) b from rise a =
    all_read ms _ from rise (read_same b _ from (changed-same b (declared b x (entry.Class (length b.tables.blocks))) holding_class b.current (λ row. refl) (declared-same b b x (entry.Class (length b.tables.blocks)) b.current (itself b))) a)
all_read (Parameter x ∷ ms) b from rise a =
    let c : BuildingOf = declared b x (entry.Unspecified None) in
    all_read ms _ from rise (read_same b _ from (counted-same b c c.current (declared-same b b x (entry.Unspecified None) b.current (itself b))) a)
all_read (Moded x m ∷ ms) b from rise a = all_read ms _ from rise (read_same b _ from (moded-same b b x.token m (found_in b.tables b.current x.name) (itself b)) a)
all_read (Specified x k ty ∷ ms) b from rise a = all_read ms _ from rise (read_same b _ from (specified-same b (record b { latest = found_in b.tables b.current x.name }) x.token k ty (found_in b.tables b.current x.name) (alike b b _ refl refl refl (itself b))) a)
all_read (Headed x ∷ ms) b from rise a = all_read ms _ from rise (read_same b _ from (headed-same b b x.token (unspecified_at b.tables (found_in b.tables b.current x.name)) (itself b)) a)
all_read (Qualifies class ∷ ms) b from rise a = all_read ms _ from rise (read_same b _ from (qualified-same b b class b.latest (itself b)) a)
all_read (Prefixes class ∷ ms) b from rise a = all_read ms _ from rise (read_same b _ from (changed-same b b (prefixed_by class) b.current (λ row. refl) (itself b)) a)
all_read (Brings which token ∷ ms) b from rise a = all_read ms _ from rise (brings_read b which token from b.current a)
all_read (Provides which name token ∷ ms) b from rise a = all_read ms _ from rise (read_same b _ from (provides-same b b which name token b.current (itself b)) a)
all_read (Protects hides keeps x ∷ ms) b from rise a = all_read ms _ from rise (read_same b _ from (guards-same b b hides keeps x b.current (itself b)) a)
all_read (Inner token ∷ ms) b from rise a = all_read ms _ from rise (read_same b _ from (inner-same b b token b.current (itself b)) a)
all_read (Breaks token rule ∷ ms) b from rise a = all_read ms _ from rise (read_same b _ from (broken-same b b token rule (itself b)) a)

nothing_read : Read empty 0
nothing_read = record {
  inside = record { nested = λ b k is. absurd (cc); known = λ b x is. absurd (cc); total = λ b le. absurd (omega arith); within = λ k is. absurd (cc); firsts = λ b x is. absurd (cc); ends = λ b x is. absurd (cc); placed = λ i place is. absurd (cc) };
  reach = omega arith;
}

-- With no block open, a block has a token exactly where its text does.
to_in : (blocks : List BlockOf) (token b : ℕ) → HasToken blocks b token → In (shapes blocks) None token b
to_in blocks token b h = ((h.0.first, h.0.end, h.0.encloser), ap shape h.1, h.2, inr h.3)

has_token : (blocks : List BlockOf) (token b : ℕ) (x : Shape) (o : Option BlockOf) → slice_get blocks b ≡ o → shape o ≡ Some x → x.0 ≤ token → token < x.1 → HasToken blocks b token
has_token blocks token b x None at is le lt = absurd (cc)
has_token blocks token b x (Some row) at is le lt =
    let whole : Shape = (row.first, row.end, row.encloser) in
    let same : whole ≡ x = some-same whole x is in
    let first : row.first ≡ x.0 = ap (λ (y : Shape). y.0) same in
    let end : row.end ≡ x.1 = ap (λ (y : Shape). y.1) same in
    (row, at, omega arith, omega arith)

from_in : (blocks : List BlockOf) (token b : ℕ) → In (shapes blocks) None token b → HasToken blocks b token
from_in blocks token b h = go h.3
  where
    go : Open (shapes blocks) None b ⊎ (token < h.0.1) → HasToken blocks b token
    go (inl q) = absurd (none_open (shapes blocks) None b refl q)
    go (inr lt) = has_token blocks token b h.0 (slice_get blocks b) refl h.1 h.2 lt

is_place : (blocks : List BlockOf) (token : ℕ) (place : Option ℕ) → PlacedIn (shapes blocks) None token place → IsPlace blocks token place
is_place blocks token None q = λ b h. q b (to_in blocks token b h)
is_place blocks token (Some k) q = (from_in blocks token k q.0, λ b h. q.1 b (to_in blocks token b h))

pub tables_placed : (p : Program) → Rising 0 (program_events declaring p) → (declared_by p).current ≡ None → (token : ℕ) (place : Option ℕ) → slice_get (declared_by p).tables.places token ≡ Some place
    → IsPlace (declared_by p).tables.blocks token place
unfolding declared_by
tables_placed p rise closed_ token place at =
    let c : BuildingOf = run marked empty (program_events declaring p) in
    let a : InsideOf c = all_read (program_events declaring p) empty 0 rise nothing_read in
    is_place c.tables.blocks token place (subst (λ o. PlacedIn (shapes c.tables.blocks) o token place) closed_ (a.placed token place at))
