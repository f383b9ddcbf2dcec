-- Each declaration of references has a qualification: what each mark does to that.
use Rattle.std.proofs.Common.{◌≡◌, ℕ, zero, suc, Bool, true, false, List, [], ◌∷◌, ◌++◌, length, Option, Some, None, refl, sym, ap, ◌∙◌, subst, arith, if◌then◌else◌}
use Rattle.std.specs.Prelude.{◌&&◌, nat_eq, nat_lt, not, slice_get, slice_set}
use Rattle.std.specs.List.{list_any}
use Rattle.std.specs.Str.{bytes_eq}
use Rattle.std.proofs.lemmas.Bool.Decides.{nat_tests}
use Rattle.sim_base.specs.declared.numbering.DeclNo.{DeclNo}
use Rattle.sim_base.specs.declared.numbering.TokenNo.{TokenNo}
use Rattle.sim_base.specs.declared.rule.Rule.{Rule}
use Rattle.sim_base.specs.declared.rule.Rule.TheVariants as r
use Rattle.sim_tree.specs.declared.expr.Identifier.{Identifier}
use Rattle.sim_scope.specs.declared.scopes.Declaration.{Declaration}
use Rattle.sim_scope.specs.declared.scopes.Qualification.{Qualification}
use Rattle.sim_scope.specs.declared.types.BlockKind.{BlockKind}
use Rattle.sim_scope.specs.declared.types.Entry.{Entry}
use Rattle.sim_scope.specs.declared.types.Entry.TheVariants as entry
use Rattle.sim_scope.specs.declared.types.FormalKind.{FormalKind}
use Rattle.sim_scope.specs.declared.types.Mode.{Mode}
use Rattle.sim_scope.specs.declared.types.SimType.{SimType}
use Rattle.sim_scope.specs.declared.types.WrittenMode.{WrittenMode}
use Rattle.sim_scope.specs.Building.{BuildingOf, Mark, block_around, broken_if, changed, closed, closed_at, declared, declared_again, declared_at, declared_inside, declared_new, declared_twice, entered, holding_class, in_class, inner, inner_at, inner_in, is_match, is_procedure, level_in, marked, matched, matching, mode_allowed, moded as moded_of, moded_as, most_levels, opened, qualified, row_matching, row_of as new_row, specified as specified_of, specified_as, token_in, unspecified_in, with_mode, changed_row, prefixed_by, guards, guards_at, is_by_name, broken, with_entry}
use Rattle.sim_scope.specs.Runs.{run}
use Rattle.sim_scope.specs.Scopes.{declared_in, entry_of}
use Rattle.sim_scope.specs.Tables.{BlockOf}
use Rattle.sim_scope.proofs.Kept.{more_here, more_other, set_here, set_other}
use Rattle.sim_agree.proofs.Clean.{Made, SpecifiedRow, declared_clean, declared_refs, holding_same, if_clean, specified_quiet}
use Rattle.sim_agree.proofs.Groups.{AreReferences, OfReferences, Quals, qualifies, unqualified}
use Rattle.sim_agree.proofs.Marks.{declared_latest, matching_length}

abbrev pub HasQualification : List Qualification → ℕ → Type 0
HasQualification qs d = (i : ℕ) × (x : Qualification) × (slice_get qs i ≡ Some x) × (x.declaration.0 ≡ d)

abbrev pub Covered : BuildingOf → Type 0
Covered b = (d : ℕ) (row : Declaration) → slice_get b.tables.declarations d ≡ Some row → OfReferences row.entry → HasQualification b.tables.qualifications d

-- declarations of references are old ones, and the qualifications stay
abbrev pub SameRefs : BuildingOf → BuildingOf → Type 0
SameRefs b c = ((d : ℕ) (row : Declaration) → slice_get c.tables.declarations d ≡ Some row → OfReferences row.entry → slice_get b.tables.declarations d ≡ Some row) × (c.tables.qualifications ≡ b.tables.qualifications)

pub covered_stays : (b c : BuildingOf) → SameRefs b c → Covered b → Covered c
covered_stays b c s v d row at refs = let q = v d row (s.0 d row at refs) refs in (q.0, q.1, ap (λ z. slice_get z q.0) s.1 ∙ q.2, q.3)

itself : (b : BuildingOf) → SameRefs b b
itself b = ((λ d row at refs. at), refl)

broken_same : (a : Bool) (b c : BuildingOf) (token : ℕ) (rule : Rule) → SameRefs b c → SameRefs b (broken_if a c token rule)
broken_same true b c token rule h = h
broken_same false b c token rule h = h

pub opened_same : (b : BuildingOf) (k : BlockKind) (text first : ℕ) → SameRefs b (opened b k text first)
opened_same b k text first = broken_same (nat_lt most_levels (level_in k (block_around b.tables b.current))) b _ text r.TooManyLevels ((λ d row at refs. at), refl)

pub opened_least : (b : BuildingOf) (k : BlockKind) (text first : ℕ) → (opened b k text first).least ≡ None → b.least ≡ None
opened_least b k text first e = (if_clean (nat_lt most_levels (level_in k (block_around b.tables b.current))) _ text r.TooManyLevels e).1

closed_same : (b : BuildingOf) (end : ℕ) (o : Option ℕ) → SameRefs b (closed b end o)
closed_same b end None = itself b
closed_same b end (Some n) = go (slice_get b.tables.blocks n)
  where
    go : (o : Option BlockOf) → SameRefs b (closed_at b end n o)
    go None = itself b
    go (Some row) = ((λ d row at refs. at), refl)

pub holding_refs : (b : BuildingOf) (o : Option ℕ) → SameRefs b (changed b holding_class o)
holding_refs b o = let q = holding_same b o in ((λ d row at refs. ap (λ z. slice_get z d) (sym q.2) ∙ at), q.1)

inner_same : (b : BuildingOf) (token : ℕ) (o : Option ℕ) → SameRefs b (inner b token o)
inner_same b token None = itself b
inner_same b token (Some n) = go (slice_get b.tables.blocks n)
  where
    one : (row : BlockOf) (o : Option ℕ) → SameRefs b (inner_in b token n row o)
    one row None = ((λ d row at refs. at), refl)
    one row (Some other) = ((λ d row at refs. at), refl)

    go : (o : Option BlockOf) → SameRefs b (inner_at b token n o)
    go None = itself b
    go (Some row) = one row row.inner

some_same : {A : Type 0} (a b : A) → Some a ≡ Some b → a ≡ b
some_same a b e = cc

entered_same : (b : BuildingOf) (d : DeclNo) (e : Entry) (o : Option Declaration) → slice_get b.tables.declarations d.0 ≡ o → (OfReferences e → ⊥) → SameRefs b (entered b d e o)
entered_same b d e None at free = itself b
entered_same b d e (Some old) at free = ((λ m row is refs. go m row (nat_eq d.0 m) refl is refs), refl)
  where
    new : Declaration
    new = record old { entry = e }

    go : (m : ℕ) (row : Declaration) (c : Bool) → nat_eq d.0 m ≡ c → slice_get (slice_set b.tables.declarations d.0 (record old { entry = e })) m ≡ Some row → OfReferences row.entry → slice_get b.tables.declarations m ≡ Some row
    go m row true z is refs =
        let same : d.0 ≡ m = grind (arith, nat_tests) in
        let one : new ≡ row = some_same new row (sym (set_here b.tables.declarations d.0 old new at) ∙ subst (λ k. slice_get (slice_set b.tables.declarations d.0 new) k ≡ Some row) (sym same) is) in
        absurd (free (subst (λ (w : Declaration). OfReferences w.entry) (sym one) refs))
    go m row false z is refs = sym (set_other b.tables.declarations d.0 m new z) ∙ is

moded_same : (b : BuildingOf) (token : TokenNo) (m : Mode) (o : Option DeclNo) → SameRefs b (moded_of b token m o)
moded_same b token m None = ((λ d row at refs. at), refl)
moded_same b token m (Some d) = go (unspecified_in (entry_of b.tables d))
  where
    entered : (c : Bool) → SameRefs b (if c then broken b token.0 r.ModeNotAllowed else with_entry b d (entry.Unspecified (Some (record { token = token; mode = m }))))
    entered true = ((λ d row at refs. at), refl)
    entered false = entered_same b d (entry.Unspecified (Some (record { token = token; mode = m }))) (slice_get b.tables.declarations d.0) refl (λ q. q)

    go : (o : Option (Option WrittenMode)) → SameRefs b (moded_as b token m d o)
    go None = ((λ d row at refs. at), refl)
    go (Some (Some w)) = ((λ d row at refs. at), refl)
    go (Some None) = entered (is_by_name m && in_class b)

pub moded_covers : (b : BuildingOf) (token : TokenNo) (m : Mode) (o : Option DeclNo) → Covered b → Covered (moded_of b token m o)
moded_covers b token m o v = covered_stays b (moded_of b token m o) (moded_same b token m o) v

prefix_found : (b : BuildingOf) (x : Identifier) (n : ℕ) (o : Option BlockOf) → SameRefs b (changed_row b (prefixed_by x) n o)
prefix_found b x n None = itself b
prefix_found b x n (Some row) = ((λ d row at refs. at), refl)

prefix_same : (b : BuildingOf) (x : Identifier) (o : Option ℕ) → SameRefs b (changed b (prefixed_by x) o)
prefix_same b x None = itself b
prefix_same b x (Some n) = prefix_found b x n (slice_get b.tables.blocks n)

pub prefix_covers : (b : BuildingOf) (x : Identifier) (o : Option ℕ) → Covered b → Covered (changed b (prefixed_by x) o)
prefix_covers b x o v = covered_stays b (changed b (prefixed_by x) o) (prefix_same b x o) v

guards_found : (b : BuildingOf) (hides keeps : Bool) (x : Identifier) (n : ℕ) (o : Option BlockOf) → SameRefs b (guards_at b hides keeps x n o)
guards_found b hides keeps x n None = itself b
guards_found b hides keeps x n (Some row) = ((λ d row at refs. at), refl)

guards_same : (b : BuildingOf) (hides keeps : Bool) (x : Identifier) (o : Option ℕ) → SameRefs b (guards b hides keeps x o)
guards_same b hides keeps x None = itself b
guards_same b hides keeps x (Some n) = guards_found b hides keeps x n (slice_get b.tables.blocks n)

pub guards_covers : (b : BuildingOf) (hides keeps : Bool) (x : Identifier) (o : Option ℕ) → Covered b → Covered (guards b hides keeps x o)
guards_covers b hides keeps x o v = covered_stays b (guards b hides keeps x o) (guards_same b hides keeps x o) v

pub inner_covers : (b : BuildingOf) (token : ℕ) (o : Option ℕ) → Covered b → Covered (inner b token o)
inner_covers b token o v = covered_stays b (inner b token o) (inner_same b token o) v

pub closed_covers : (b : BuildingOf) (end : ℕ) (o : Option ℕ) → Covered b → Covered (closed b end o)
closed_covers b end o v = covered_stays b (closed b end o) (closed_same b end o) v

-- ---- what is declared

matching_refs : (e : Entry) (d : DeclNo) → OfReferences (matching e d) → OfReferences e
matching_refs (entry.Variable ty) d refs = refs
matching_refs (entry.Constant ty) d refs = refs
matching_refs (entry.Array ty n) d refs = refs
matching_refs (entry.Procedure result k) d refs = refs
matching_refs (entry.Class k) d refs = refs
matching_refs (entry.Virtual result own) d refs = refs
matching_refs (entry.Formal f) d refs = refs
matching_refs (entry.Unspecified w) d refs = refs
matching_refs (entry.Attribute name given result) d refs = refs

-- a virtual that knows its match is of the same references
knowing_refs : (ds : List Declaration) (v next : DeclNo) (o : Option Declaration) → slice_get ds v.0 ≡ o → (m : ℕ) (row : Declaration) → slice_get (row_matching o next ds v.0) m ≡ Some row → OfReferences row.entry → (old : Declaration) × (slice_get ds m ≡ Some old) × OfReferences old.entry
knowing_refs ds v next None at m row is refs = (row, is, refs)
knowing_refs ds v next (Some known) at m row is refs = go (nat_eq v.0 m) refl
  where
    new : Declaration
    new = record known { entry = matching known.entry next }

    go : (c : Bool) → nat_eq v.0 m ≡ c → (old : Declaration) × (slice_get ds m ≡ Some old) × OfReferences old.entry
    go true z =
        let same : v.0 ≡ m = grind (arith, nat_tests) in
        let one : new ≡ row = some_same new row (sym (set_here ds v.0 known new at) ∙ subst (λ k. slice_get (slice_set ds v.0 new) k ≡ Some row) (sym same) is) in
        (known, subst (λ k. slice_get ds k ≡ Some known) same at, matching_refs known.entry next (subst (λ (w : Declaration). OfReferences w.entry) (sym one) refs))
    go false z = (row, sym (set_other ds v.0 m new z) ∙ is, refs)

-- what is of references was there before, but for the last one
declared_others_at : (b : BuildingOf) (x : Identifier) (e : Entry) (n : ℕ) (o : Option BlockOf) (m : ℕ) (row : Declaration) → nat_eq m (length b.tables.declarations) ≡ false → slice_get (declared_at b x e n o).tables.declarations m ≡ Some row → OfReferences row.entry
    → (old : Declaration) × (slice_get b.tables.declarations m ≡ Some old) × OfReferences old.entry
declared_others_at b x e n None m row other at refs = (row, at, refs)
declared_others_at b x e n (Some found) m row other at refs = go (list_any (bytes_eq x.name) found.names) at
  where
    Was : Type 0
    Was = (old : Declaration) × (slice_get b.tables.declarations m ≡ Some old) × OfReferences old.entry

    next : DeclNo
    next = record { 0 = length b.tables.declarations }

    knowing : DeclNo → List Declaration
    knowing d = row_matching (slice_get b.tables.declarations d.0) next b.tables.declarations d.0

    if_there : (a : Bool) (c : BuildingOf) (token : ℕ) (rule : Rule) → slice_get (broken_if a c token rule).tables.declarations m ≡ Some row → slice_get c.tables.declarations m ≡ Some row
    if_there true c token rule h = h
    if_there false c token rule h = h

    known : (d : DeclNo) → slice_get (knowing d ++ new_row x e n false ∷ []) m ≡ Some row → Was
    known d h =
        let long : length (knowing d) ≡ length b.tables.declarations = matching_length (slice_get b.tables.declarations d.0) next b.tables.declarations d.0 in
        knowing_refs b.tables.declarations d next (slice_get b.tables.declarations d.0) refl m row (sym (more_other (knowing d) (new_row x e n false) m (ap (nat_eq m) long ∙ other)) ∙ h) refs

    either : (d : DeclNo) (c : Bool) → slice_get (if c then matched b x e n d else declared_twice b x (Some d)).tables.declarations m ≡ Some row → Was
    either d true h = known d (if_there (nat_eq b.own 65535) _ x.token.0 r.TooManyDeclarations h)
    either d false h = (row, h, refs)

    again : (o : Option DeclNo) → slice_get (declared_again b x e n o).tables.declarations m ≡ Some row → Was
    again None h = (row, h, refs)
    again (Some d) h = either d (is_match e (entry_of b.tables d)) h

    go : (c : Bool) → slice_get (if c then declared_again b x e n (declared_in (Some found) x.name) else declared_new b x e n found).tables.declarations m ≡ Some row → Was
    go true h = again (declared_in (Some found) x.name) h
    go false h = (row, sym (more_other b.tables.declarations (new_row x e n true) m other) ∙ if_there (nat_eq b.own 65535) _ x.token.0 r.TooManyDeclarations h, refs)

declared_others : (b : BuildingOf) (x : Identifier) (e : Entry) (n : ℕ) → b.current ≡ Some n → (m : ℕ) (row : Declaration) → nat_eq m (length b.tables.declarations) ≡ false → slice_get (declared b x e).tables.declarations m ≡ Some row → OfReferences row.entry
    → (old : Declaration) × (slice_get b.tables.declarations m ≡ Some old) × OfReferences old.entry
declared_others b x e n cur m row other at refs = declared_others_at b x e n (slice_get b.tables.blocks n) m row other (subst (λ o. slice_get (declared_inside b x e o).tables.declarations m ≡ Some row) cur at) refs

-- one declaration is new or newly specified, and the class of its references stands behind it
module _ (b c : BuildingOf) (d : ℕ) (R : Type 0) (latest : R → c.latest ≡ Some (record { 0 = d })) (others : (m : ℕ) (row : Declaration) → nat_eq d m ≡ false → slice_get c.tables.declarations m ≡ Some row → OfReferences row.entry → (old : Declaration) × (slice_get b.tables.declarations m ≡ Some old) × OfReferences old.entry)
    (own : (row : Declaration) → slice_get c.tables.declarations d ≡ Some row → OfReferences row.entry → R) (same : c.tables.qualifications ≡ b.tables.qualifications) (v : Covered b) where
  old_one : (m : ℕ) (row : Declaration) → nat_eq d m ≡ false → slice_get c.tables.declarations m ≡ Some row → OfReferences row.entry → HasQualification c.tables.qualifications m
  old_one m row other at refs = let o = others m row other at refs in let q = v m o.0 o.1 o.2 in (q.0, q.1, ap (λ z. slice_get z q.0) same ∙ q.2, q.3)

  more_at : (xs ys : List Qualification) (i : ℕ) (x : Qualification) → slice_get xs i ≡ Some x → slice_get (xs ++ ys) i ≡ Some x
  more_at [] ys i x is = absurd (cc)
  more_at (y ∷ xs) ys zero x is = is
  more_at (y ∷ xs) ys (suc i) x is = more_at xs ys i x is

  pub named_covered : (quals : List Mark) → Quals R quals → Covered (run marked c quals)
  unfolding run marked
  named_covered quals (unqualified free) = λ m row at refs. go m row at refs (nat_eq d m) refl
    where
      go : (m : ℕ) (row : Declaration) → slice_get c.tables.declarations m ≡ Some row → OfReferences row.entry → (z : Bool) → nat_eq d m ≡ z → HasQualification c.tables.qualifications m
      go m row at refs true e = let here : d ≡ m = grind (arith, nat_tests) in absurd (free (own row (subst (λ k. slice_get c.tables.declarations k ≡ Some row) (sym here) at) refs))
      go m row at refs false e = old_one m row e at refs
  named_covered quals (qualifies x q) = subst (λ o. Covered (qualified c x o)) (sym (latest q)) (λ m row at refs. go m row at refs (nat_eq d m) refl)
    where
      new : Qualification
      new = record { declaration = record { 0 = d }; class = x }

      go : (m : ℕ) (row : Declaration) → slice_get c.tables.declarations m ≡ Some row → OfReferences row.entry → (z : Bool) → nat_eq d m ≡ z → HasQualification (c.tables.qualifications ++ record { declaration = record { 0 = d }; class = x } ∷ []) m
      go m row at refs true e = let here : d ≡ m = grind (arith, nat_tests) in (length c.tables.qualifications, new, more_here c.tables.qualifications new, here)
      go m row at refs false e = let o = old_one m row e at refs in (o.0, o.1, more_at c.tables.qualifications (new ∷ []) o.0 o.1 o.2, o.3)

pub declared_covered : (b : BuildingOf) (x : Identifier) (e : Entry) (n : ℕ) (row : BlockOf) → b.current ≡ Some n → slice_get b.tables.blocks n ≡ Some row → (declared b x e).least ≡ None → (quals : List Mark) → Quals (OfReferences e) quals → Covered b → Covered (run marked (declared b x e) quals)
declared_covered b x e n row cur at clean quals q v =
    named_covered b (declared b x e) (length b.tables.declarations) (OfReferences e)
    (λ refs. declared_latest b x e n (new_row x e n made.0) cur made.1)
    (λ m found other there refs. declared_others b x e n cur m found (let P : nat_eq m (length b.tables.declarations) ≡ false = grind (arith, nat_tests) in P) there refs)
    (λ found there refs. (let one : new_row x e n made.0 ≡ found = some_same (new_row x e n made.0) found (sym made.1 ∙ there) in subst (λ (w : Declaration). OfReferences w.entry) (sym one) refs))
    (declared_refs b x e n cur) v quals q
  where
    made : Made b x e n (declared b x e)
    made = (declared_clean b x e n row cur at clean).1

-- what is no reference needs no class
pub declared_alone : (b : BuildingOf) (x : Identifier) (e : Entry) (n : ℕ) (row : BlockOf) → b.current ≡ Some n → slice_get b.tables.blocks n ≡ Some row → (declared b x e).least ≡ None → (OfReferences e → ⊥) → Covered b → Covered (declared b x e)
unfolding run
declared_alone b x e n row cur at clean free v = declared_covered b x e n row cur at clean [] (unqualified free) v

-- ---- what is specified

others_if : (a : Bool) (c : BuildingOf) (token : ℕ) (rule : Rule) (m : ℕ) → slice_get (broken_if a c token rule).tables.declarations m ≡ slice_get c.tables.declarations m
others_if true c token rule m = refl
others_if false c token rule m = refl

entered_others : (b : BuildingOf) (d : DeclNo) (e : Entry) (o : Option Declaration) (m : ℕ) → nat_eq d.0 m ≡ false → slice_get (entered b d e o).tables.declarations m ≡ slice_get b.tables.declarations m
entered_others b d e None m other = refl
entered_others b d e (Some old) m other = set_other b.tables.declarations d.0 m (record old { entry = e }) other

mode_others : (b : BuildingOf) (d : DeclNo) (k : FormalKind) (ty : Option SimType) (o : Option WrittenMode) (m : ℕ) → nat_eq d.0 m ≡ false → slice_get (with_mode b d k ty o).tables.declarations m ≡ slice_get b.tables.declarations m
mode_others b d k ty None m other = entered_others b d _ (slice_get b.tables.declarations d.0) m other
mode_others b d k ty (Some w) m other = others_if (not (mode_allowed w.mode k ty)) _ w.token.0 r.ModeNotAllowed m ∙ entered_others b d _ (slice_get b.tables.declarations d.0) m other

specified_others : (b : BuildingOf) (token : TokenNo) (k : FormalKind) (ty : Option SimType) (d : DeclNo) (o : Option (Option WrittenMode)) (m : ℕ) → nat_eq d.0 m ≡ false → slice_get (specified_as b token k ty d o).tables.declarations m ≡ slice_get b.tables.declarations m
specified_others b token k ty d None m other = refl
specified_others b token k ty d (Some w) m other = others_if (is_procedure k && in_class b) (with_mode b d k ty w) (token_in (slice_get b.tables.declarations d.0)) r.ModeNotAllowed m ∙ mode_others b d k ty w m other

pub specified_covered : (b : BuildingOf) (token : TokenNo) (k : FormalKind) (ty : Option SimType) (o : Option DeclNo) (d : DeclNo) → o ≡ Some d → (specified_of b token k ty o).latest ≡ Some d → SpecifiedRow (specified_of b token k ty o) d k ty
    → (quals : List Mark) → Quals (AreReferences ty) quals → Covered b → Covered (run marked (specified_of b token k ty o) quals)
specified_covered b token k ty o d is latest s quals q v =
    named_covered b (specified_of b token k ty o) d.0 (AreReferences ty) (λ refs. latest)
    (λ m row other at refs. (row, sym (subst (λ z. slice_get (specified_of b token k ty z).tables.declarations m ≡ slice_get b.tables.declarations m) (sym is) (specified_others b token k ty d (unspecified_in (entry_of b.tables d)) m other)) ∙ at, refs))
    (λ row there refs. (let one : s.row ≡ row = some_same s.row row (sym s.at ∙ there) in subst OfReferences (ap (λ (w : Declaration). w.entry) (sym one) ∙ s.entry) refs))
    (specified_quiet b token k ty o).0 v quals q
