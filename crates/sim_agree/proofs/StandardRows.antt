-- The standard classes in the complete tables, and the declarations of their attributes.
use Rattle.std.proofs.Common.{◌≡◌, ◌+◌, ◌⊎◌, inl, inr, ℕ, true, false, [], Option, Some, None, refl, sym, ap, ◌∙◌, subst, arith, if◌then◌else◌}
use Rattle.std.specs.Prelude.{slice_get}
use Rattle.sim_base.specs.declared.numbering.DeclNo.{DeclNo}
use Rattle.sim_values.specs.declared.standard.Owner.{Owner}
use Rattle.sim_values.specs.declared.standard.Owner.TheVariants as owner
use Rattle.sim_values.specs.declared.standard.Standard.{Standard}
use Rattle.sim_values.specs.declared.standard.Standard.TheVariants as name
use Rattle.sim_values.specs.declared.standard.StandardType.{StandardType}
use Rattle.sim_values.specs.declared.standard.StandardType.TheVariants as of_type
use Rattle.sim_values.specs.Standard.{row_of}
use Rattle.sim_agree.specs.Order.{InOrder}
use Rattle.sim_scope.specs.declared.scopes.Declaration.{Declaration}
use Rattle.sim_scope.specs.declared.types.Entry.{Entry}
use Rattle.sim_scope.specs.declared.types.Entry.TheVariants as entry
use Rattle.sim_scope.specs.declared.types.SimType.{SimType}
use Rattle.sim_scope.specs.declared.types.SimType.TheVariants as type
use Rattle.sim_scope.specs.declared.types.StandardClass.{StandardClass}
use Rattle.sim_scope.specs.declared.types.StandardClass.TheVariants as standard
use Rattle.sim_scope.specs.declared.types.StandardPrefix.{StandardPrefix}
use Rattle.sim_scope.specs.declared.types.StandardPrefix.TheVariants as prefix
use Rattle.sim_scope.specs.Access.{around, encloser}
use Rattle.sim_scope.specs.Building.{name_of, place_of, typed_or_none}
use Rattle.sim_scope.specs.Declare.{declared_by, result_named}
use Rattle.sim_scope.specs.Levels.{base, base_in, class_block, class_block_in, is_simulation, is_simulation_block, standard_in}
use Rattle.sim_scope.specs.Scopes.{entry_in, entry_of, is_procedure_entry, is_virtual}
use Rattle.sim_scope.specs.Source.{Source, block_of, block_of_row}
use Rattle.sim_scope.specs.Standard.{class_owning, parameter_of, result_of}
use Rattle.sim_code.specs.Sets.{is_attribute_name}
use Rattle.sim_code.specs.Simulations.{is_simulation_name}
use Rattle.sim_meaning.specs.Attributes.{is_connection}
use Rattle.sim_meaning.specs.Entries.{numbers_in}
use Rattle.sim_meaning.specs.Levels.{class_text, has_levels, is_class, qualification}
use Rattle.sim_meaning.specs.Texts.{BlockText, ClassText, ConnectionText, PrefixedText, ProcedureText, StandardText, Text, program_texts, text}
use Rattle.sim_sound.specs.Held.{Among, Refers, held_by, reference_to}
use Rattle.sim_sound.specs.Expressions.{ProcessClassThere}
use Rattle.sim_sound.specs.Typed.{SetClassThere, SetClasses, SetProcedureThere, SetType, SimulationClasses, SimulationProcedureThere, owner_place}
use Rattle.sim_agree.specs.Facts.{IsAttribute}
use Rattle.sim_agree.specs.TablesAgree.{ProcessBrought, is_attribute}
use Rattle.sim_agree.specs.TablesOf.{TablesOf}
use Rattle.sim_agree.proofs.ArrayNames.{own_no_attribute}
use Rattle.sim_agree.proofs.Fine.{Alike, InGroup, IsStandard, OfAttribute, OfClass, OfSimulation, RowIn, StandardGroup, attribute_row, class_row, formal_row, own_row, procedure_row, simulation_row, virtual_row}
use Rattle.sim_agree.proofs.ClassRows.{own_no_class}
use Rattle.sim_agree.proofs.Prefixing.{PrefixOf}
use Rattle.sim_agree.proofs.Retypes.{class_new}
use Rattle.sim_agree.proofs.StandardBlocks.{standard_base_of}
use Rattle.sim_agree.proofs.StandardPrefixes.{InFront, IsBrought, one_in_front}
use Rattle.sim_agree.proofs.Steps.{Parametric}
use Rattle.sim_agree.proofs.Tables as t
use Rattle.sim_agree.proofs.Tables.{Bs, Ts}
use Rattle.sim_agree.proofs.Unprefixed.{HasStandard}

some_same : {A : Type 0} (a b : A) → Some a ≡ Some b → a ≡ b
some_same a b e = cc

-- the types of standard attributes, where this prefix brought their classes
abbrev pub TypedFor : StandardPrefix → Option StandardType → Type 0
TypedFor p (Some of_type.Process) = p ≡ prefix.Simulation
TypedFor p (Some of_type.Character) = ⊥
TypedFor p (Some of_type.Text) = ⊥
TypedFor p (Some of_type.Reference) = ⊥
TypedFor p _ = Unit {0}

abbrev pub BothTyped : StandardPrefix → Standard → Type 0
BothTyped p n = TypedFor p (parameter_of n) × TypedFor p (result_of n)

pub attribute_types : (n : Standard) (p : StandardPrefix) (class : StandardClass) → IsBrought p class → class_owning (row_of n).owner ≡ Some class → is_attribute_name n ≡ true → BothTyped p n
unfolding row_of
attribute_types name.Suc p class is o e = (tt, tt)
attribute_types name.Pred p class is o e = (tt, tt)
attribute_types name.Prev p class is o e = (tt, tt)
attribute_types name.Out p class is o e = (tt, tt)
attribute_types name.Follow p class is o e = (tt, tt)
attribute_types name.Precede p class is o e = (tt, tt)
attribute_types name.Into p class is o e = (tt, tt)
attribute_types name.First p class is o e = (tt, tt)
attribute_types name.Last p class is o e = (tt, tt)
attribute_types name.Empty p class is o e = (tt, tt)
attribute_types name.Cardinal p class is o e = (tt, tt)
attribute_types name.Clear p class is o e = (tt, tt)
attribute_types name.Idle p class is o e = (tt, tt)
attribute_types name.Terminated p class is o e = (tt, tt)
attribute_types name.Evtime p class is o e = (tt, tt)
attribute_types name.Nextev p class is o e = (tt, subst (IsBrought p) (sym (some_same standard.Process class o)) is)
attribute_types _ p class is o e = absurd (cc)

pub simulation_types : (n : Standard) → is_simulation_name n ≡ true → BothTyped prefix.Simulation n
unfolding row_of
simulation_types name.Time e = (tt, tt)
simulation_types name.Current e = (tt, refl)
simulation_types name.Main e = (tt, refl)
simulation_types name.Hold e = (tt, tt)
simulation_types name.Passivate e = (tt, tt)
simulation_types name.Wait e = (tt, tt)
simulation_types name.Cancel e = (refl, tt)
simulation_types _ e = absurd (cc)

-- no name is both
pub names_apart : (n : Standard) → is_attribute_name n ≡ true → is_simulation_name n ≡ true → ⊥
names_apart name.Time a e = cc
names_apart name.Current a e = cc
names_apart name.Main a e = cc
names_apart name.Hold a e = cc
names_apart name.Passivate a e = cc
names_apart name.Wait a e = cc
names_apart name.Cancel a e = cc
names_apart _ a e = cc

third : (which : StandardClass) → place_of which ≡ 3 → which ≡ standard.Process
third standard.Linkage e = absurd (cc)
third standard.Link e = absurd (cc)
third standard.Head e = absurd (cc)
third standard.Process e = refl

-- a text with a standard prefix in front has levels, and is no connection
front_levels : (p : StandardPrefix) (x : Text) → InFront p x → (has_levels (Some x) ≡ true) × (is_connection (Some x) ≡ false)
front_levels p (ClassText before h ds ss) i = (refl, refl)
front_levels p (PrefixedText class es ds ss) i = (refl, refl)
front_levels p (BlockText j ds ss) i = absurd i
front_levels p (ProcedureText result h a) i = absurd i
front_levels p ConnectionText i = absurd i
front_levels p (StandardText which) i = absurd i

module _ (s : Source) (of : TablesOf s) (order : InOrder s.program) where
  abbrev GroupNow : StandardPrefix → (block : ℕ) (first : DeclNo) → Type 0
  GroupNow p n first = StandardGroup p (Bs s of order) (Ts s of order) n first

  -- the group that a text belongs to
  group_of : (k : ℕ) (which : StandardClass) → text s k ≡ Some (StandardText which) → InGroup (Bs s of order) (Ts s of order) k which
  unfolding text
  group_of k which at =
      let q = (t.program_agrees s.program).fine.standards k which at in
      record { prefix = q.prefix; block = q.block; first = q.first; group = t.group_now s of order q.prefix q.block q.first q.group; is = q.is; place = q.place }

  module _ (p : StandardPrefix) (n : ℕ) (first : DeclNo) (g : StandardGroup p (Bs s of order) (Ts s of order) n first) where
    -- the declaration of a class
    class_entry_of : (which : StandardClass) → IsBrought p which → entry_of s.tables (record { 0 = first.0 + place_of which }) ≡ Some (entry.Class (n + 1 + place_of which))
    class_entry_of which is =
        let o = t.program_owned s.program of.unbroken (n + 1 + place_of which) (StandardText which) (g.texts which is) in
        let same : o.0 ≡ record { 0 = first.0 + place_of which } = some_same o.0 (record { 0 = first.0 + place_of which }) (sym o.2 ∙ sym (t.same_owner s of order (n + 1 + place_of which)) ∙ g.owners which is) in
        let new = (t.completed_tables s of order).rows.stays o.0.0 o.1 o.3 in
        subst (λ z. entry_of s.tables z ≡ Some (entry.Class (n + 1 + place_of which))) same
        (t.row_entry s of order o.0 new.0 new.1 ∙ ap Some (class_new o.1.entry new.0.entry new.2.entry (n + 1 + place_of which) o.4))

    pub class_block_of : (which : StandardClass) → IsBrought p which → class_block s.tables (record { 0 = first.0 + place_of which }) ≡ Some (n + 1 + place_of which)
    unfolding class_block entry_of
    class_block_of which is = go (slice_get s.tables.declarations (first.0 + place_of which)) (class_entry_of which is)
      where
        go : (o : Option Declaration) → entry_in o ≡ Some (entry.Class (n + 1 + place_of which)) → class_block_in (elim o [ None ↦ None | Some row ↦ Some row.entry ]) ≡ Some (n + 1 + place_of which)
        go None e = absurd (cc)
        go (Some row) e = ap class_block_in e

    text_at : (m : ℕ) (which : StandardClass) → IsBrought p which → n + 1 + place_of which ≡ m → text s m ≡ Some (StandardText which)
    unfolding text
    text_at m which is e = subst (λ z. slice_get (program_texts s.program.prefix s.program.block) z ≡ Some (StandardText which)) e (g.texts which is)

    first_place : n + 1 + 0 ≡ n + 1
    first_place = omega arith

    pub set_classes : SetClasses s (n + 1)
    unfolding base
    set_classes = record {
      linkage_is = text_at (n + 1) standard.Linkage tt first_place;
      link_is = text_at (n + 1 + 1) standard.Link tt refl;
      head_is = text_at (n + 1 + 2) standard.Head tt refl;
      first = subst (λ z. base_in (slice_get s.tables.blocks z) ≡ None) first_place (g.bases standard.Linkage tt);
      link_prefix = g.bases standard.Link tt;
      head_prefix = g.bases standard.Head tt;
    }

    -- what a reference to one of these holds
    held_of : (which : StandardClass) → IsBrought p which → (m : ℕ) → n + 1 + place_of which ≡ m → held_by s (type.Ref (record { 0 = first.0 + place_of which })) ≡ Refers m
    unfolding qualification
    held_of which is m e =
        ap (λ o. reference_to (class_text s o)) (class_block_of which is ∙ ap Some e)
        ∙ ap (λ x. reference_to (if is_class x then Some m else None)) (text_at m which is e)

    pub type_of : (o : Option StandardType) → TypedFor p o → SetType s (n + 1) o (typed_or_none (Some first) o)
    type_of None q = tt
    type_of (Some of_type.Integer) q = refl
    type_of (Some of_type.Boolean) q = refl
    type_of (Some of_type.Linkage) q = held_of standard.Linkage tt (n + 1) first_place
    type_of (Some of_type.Link) q = held_of standard.Link tt (n + 1 + 1) refl
    type_of (Some of_type.Head) q = held_of standard.Head tt (n + 1 + 2) refl
    type_of (Some of_type.Process) q = held_of standard.Process q (n + 1 + 3) refl
    type_of (Some of_type.Character) q = absurd q
    type_of (Some of_type.Text) q = absurd q
    type_of (Some of_type.Reference) q = absurd q

    -- the block into which they were brought
    host_there : (has_levels (text s n) ≡ true) × (is_connection (text s n) ≡ false)
    unfolding text
    host_there = let q = front_levels p g.host.0 g.host.2 in (ap has_levels g.host.1 ∙ q.0, ap is_connection g.host.1 ∙ q.1)

    pub around_of : (which : StandardClass) → IsBrought p which → encloser s.tables (n + 1 + place_of which) ≡ Some n
    unfolding encloser
    around_of which is = g.around which is

    process_base : IsBrought p standard.Process → base s.tables (n + 1 + 3) ≡ Some (n + 2)
    unfolding base
    process_base is = g.bases standard.Process is

  fourth_place : (n : ℕ) → n + 1 + 3 ≡ n + 4
  fourth_place n = omega arith

  second_place : (n : ℕ) → n + 1 + 1 ≡ n + 2
  second_place n = omega arith

  -- the class that has an attribute
  placed : (w : StandardClass) (o : Owner) → class_owning o ≡ Some w → owner_place o ≡ Some (place_of w)
  placed w owner.Linkage e = (let z : standard.Linkage ≡ w = some_same standard.Linkage w e in ap (λ v. Some (place_of v)) z)
  placed w owner.Link e = (let z : standard.Link ≡ w = some_same standard.Link w e in ap (λ v. Some (place_of v)) z)
  placed w owner.Head e = (let z : standard.Head ≡ w = some_same standard.Head w e in ap (λ v. Some (place_of v)) z)
  placed w owner.Process e = (let z : standard.Process ≡ w = some_same standard.Process w e in ap (λ v. Some (place_of v)) z)
  placed w _ e = absurd (cc)

  pub class_there : (k : ℕ) (which : StandardClass) → text s k ≡ Some (StandardText which) → SetClassThere s k which
  class_there k which at = go which (group_of k which at)
    where
      go : (w : StandardClass) → InGroup (Bs s of order) (Ts s of order) k w → SetClassThere s k w
      go standard.Linkage q = record { linkage = q.block + 1; classes = set_classes q.prefix q.block q.first q.group; place = 0; placed = refl; is = q.place }
      go standard.Link q = record { linkage = q.block + 1; classes = set_classes q.prefix q.block q.first q.group; place = 1; placed = refl; is = q.place }
      go standard.Head q = record { linkage = q.block + 1; classes = set_classes q.prefix q.block q.first q.group; place = 2; placed = refl; is = q.place }
      go standard.Process q = record { linkage = q.block + 1; classes = set_classes q.prefix q.block q.first q.group; place = 3; placed = refl; is = q.place }

  -- ---- attributes

  no_attribute : (e f : Entry) (n : Standard) (given result : Option SimType) → f ≡ entry.Attribute n given result → Alike e f → (Alike e (entry.Attribute n given result) → ⊥) → ⊥
  no_attribute e f n given result same a never = never (subst (Alike e) same a)

  parametric_none : (f : Entry) (n : Standard) (given result : Option SimType) → f ≡ entry.Attribute n given result → Parametric f → ⊥
  parametric_none f n given result same p = subst Parametric same p

  abbrev pub AttributeRow : Declaration → Type 0
  AttributeRow row = OfAttribute (Bs s of order) (Ts s of order) row ⊎ OfSimulation (Bs s of order) (Ts s of order) row

  pub attribute_is : (d : ℕ) (row : Declaration) → slice_get s.tables.declarations d ≡ Some row → (n : Standard) (given result : Option SimType) → row.entry ≡ entry.Attribute n given result → AttributeRow row
  attribute_is d row at n given result is = let w = t.text_of_row s of order d row at in go w.0 w.2
    where
      go : (x : Text) → RowIn (Bs s of order) (Ts s of order) x d row → AttributeRow row
      go x (own_row y p) = absurd (no_attribute p.entry row.entry n given result is p.alike (own_no_attribute p.entry n given result p.fits))
      go x (procedure_row y p) = absurd (no_attribute (entry.Procedure (result_named p.result) p.number) row.entry n given result is p.entry (λ a. a))
      go x (class_row y p) = absurd (let z : entry.Class p.number ≡ entry.Attribute n given result = sym p.entry ∙ is in cc)
      go x (formal_row y p l) = absurd (parametric_none row.entry n given result is p)
      go x (virtual_row y p l) = absurd (let z : false ≡ true = sym (ap is_virtual is) ∙ p in cc)
      go x (attribute_row y p) = inl p
      go x (simulation_row y p) = inr p

  entries : (a b : Standard) (g h q r : Option SimType) → entry.Attribute a g q ≡ entry.Attribute b h r → (a ≡ b) × (g ≡ h) × (q ≡ r)
  entries a b g h q r z = (cc, cc, cc)

  pub attribute_names : (d : DeclNo) (n : Standard) (given result : Option SimType) → entry_of s.tables d ≡ Some (entry.Attribute n given result) → IsAttribute n
  attribute_names d n given result e =
      let r = t.entry_row s of order d (entry.Attribute n given result) e in go r.0 r.2 (attribute_is d.0 r.0 r.1 n given result r.2)
    where
      go : (row : Declaration) → row.entry ≡ entry.Attribute n given result → AttributeRow row → IsAttribute n
      go row is (inl p) = inl (subst (λ z. is_attribute_name z ≡ true) (entries p.name n (typed_or_none (Some p.first) (parameter_of p.name)) given (typed_or_none (Some p.first) (result_of p.name)) result (sym p.entry ∙ is)).0 p.is_attribute)
      go row is (inr p) = inr (subst (λ z. is_simulation_name z ≡ true) (entries p.name n (typed_or_none (Some p.first) (parameter_of p.name)) given (typed_or_none (Some p.first) (result_of p.name)) result (sym p.entry ∙ is)).0 p.is_simulation)

  -- an attribute of a standard class
  pub procedure_there : (d : DeclNo) (n : Standard) (given result : Option SimType) → entry_of s.tables d ≡ Some (entry.Attribute n given result) → is_attribute_name n ≡ true → SetProcedureThere s d n given result
  unfolding block_of
  procedure_there d n given result e is_name =
      let r = t.entry_row s of order d (entry.Attribute n given result) e in go r.0 r.1 r.2 (attribute_is d.0 r.0 r.1 n given result r.2)
    where
      go : (row : Declaration) → slice_get s.tables.declarations d.0 ≡ Some row → row.entry ≡ entry.Attribute n given result → AttributeRow row → SetProcedureThere s d n given result
      go row at is (inl p) =
          let same = entries p.name n (typed_or_none (Some p.first) (parameter_of p.name)) given (typed_or_none (Some p.first) (result_of p.name)) result (sym p.entry ∙ is) in
          let owned : class_owning (row_of n).owner ≡ Some p.class = subst (λ z. class_owning (row_of z).owner ≡ Some p.class) same.0 p.owner in
          let types = attribute_types n p.prefix p.class p.is owned is_name in record {
            linkage = p.block + 1;
            classes = set_classes p.prefix p.block p.first p.group;
            place = place_of p.class;
            placed = placed p.class (row_of n).owner owned;
            declared = ap block_of_row at ∙ p.stands;
            of_process = λ three. text_at p.prefix p.block p.first p.group (p.block + 1 + 3) standard.Process (subst (IsBrought p.prefix) (third p.class three) p.is) refl;
            parameter_is = subst (λ z. SetType s (p.block + 1) (parameter_of n) z) (ap (λ z. typed_or_none (Some p.first) (parameter_of z)) (sym same.0) ∙ same.1) (type_of p.prefix p.block p.first p.group (parameter_of n) types.0);
            result_is = subst (λ z. SetType s (p.block + 1) (result_of n) z) (ap (λ z. typed_or_none (Some p.first) (result_of z)) (sym same.0) ∙ same.2) (type_of p.prefix p.block p.first p.group (result_of n) types.1);
          }
      go row at is (inr p) =
          let same = entries p.name n (typed_or_none (Some p.first) (parameter_of p.name)) given (typed_or_none (Some p.first) (result_of p.name)) result (sym p.entry ∙ is) in
          absurd (names_apart n is_name (subst (λ z. is_simulation_name z ≡ true) same.0 p.is_simulation))

  -- one of `simulation` itself
  pub simulation_there : (d : DeclNo) (n : Standard) (given result : Option SimType) → entry_of s.tables d ≡ Some (entry.Attribute n given result) → is_simulation_name n ≡ true → SimulationProcedureThere s d n given result
  unfolding block_of
  simulation_there d n given result e is_name =
      let r = t.entry_row s of order d (entry.Attribute n given result) e in go r.0 r.1 r.2 (attribute_is d.0 r.0 r.1 n given result r.2)
    where
      go : (row : Declaration) → slice_get s.tables.declarations d.0 ≡ Some row → row.entry ≡ entry.Attribute n given result → AttributeRow row → SimulationProcedureThere s d n given result
      go row at is (inl p) =
          let same = entries p.name n (typed_or_none (Some p.first) (parameter_of p.name)) given (typed_or_none (Some p.first) (result_of p.name)) result (sym p.entry ∙ is) in
          absurd (names_apart n (subst (λ z. is_attribute_name z ≡ true) same.0 p.is_attribute) is_name)
      go row at is (inr p) =
          let same = entries p.name n (typed_or_none (Some p.first) (parameter_of p.name)) given (typed_or_none (Some p.first) (result_of p.name)) result (sym p.entry ∙ is) in
          let types = simulation_types n is_name in
          let block : row.block ≡ block_of s d = sym (ap block_of_row at) in
          subst (λ m. SetType s (m + 1) (parameter_of n) given × SetType s (m + 1) (result_of n) result → SimulationProcedureThere s d n given result) (sym block) (λ q. record { parameter_is = q.0; result_is = q.1 }) (
            subst (λ z. SetType s (row.block + 1) (parameter_of n) z) (ap (λ z. typed_or_none (Some p.first) (parameter_of z)) (sym same.0) ∙ same.1) (type_of prefix.Simulation row.block p.first p.group (parameter_of n) types.0),
            subst (λ z. SetType s (row.block + 1) (result_of n) z) (ap (λ z. typed_or_none (Some p.first) (result_of z)) (sym same.0) ∙ same.2) (type_of prefix.Simulation row.block p.first p.group (result_of n) types.1),
          )

  procedure_alike : (result : Option SimType) (k : ℕ) (e : Entry) → Alike (entry.Procedure result k) e → is_procedure_entry e ≡ true
  procedure_alike result k (entry.Procedure r n) a = refl
  procedure_alike result k (entry.Variable ty) a = absurd a
  procedure_alike result k (entry.Constant ty) a = absurd a
  procedure_alike result k (entry.Array ty n) a = absurd a
  procedure_alike result k (entry.Class n) a = absurd a
  procedure_alike result k (entry.Virtual r n) a = absurd a
  procedure_alike result k (entry.Formal g) a = absurd a
  procedure_alike result k (entry.Unspecified w) a = absurd a
  procedure_alike result k (entry.Attribute name given r) a = absurd a

  -- what is not listed is a class, an attribute, or a procedure
  pub unlisted : (d : DeclNo) (row : Declaration) → slice_get s.tables.declarations d.0 ≡ Some row → row.listed ≡ false → ((k : ℕ) × (row.entry ≡ entry.Class k)) ⊎ ((is_attribute row.entry ≡ true) ⊎ (is_procedure_entry row.entry ≡ true))
  unlisted d row at hidden = let w = t.text_of_row s of order d.0 row at in go w.0 w.2
    where
      shown : row.listed ≡ true → ⊥
      shown e = let z : true ≡ false = sym e ∙ hidden in cc

      go : (x : Text) → RowIn (Bs s of order) (Ts s of order) x d.0 row → ((k : ℕ) × (row.entry ≡ entry.Class k)) ⊎ ((is_attribute row.entry ≡ true) ⊎ (is_procedure_entry row.entry ≡ true))
      go x (own_row y p) = absurd (shown p.listed)
      go x (procedure_row y p) = inr (inr (procedure_alike (result_named p.result) p.number row.entry p.entry))
      go x (class_row y p) = inl (p.number, p.entry)
      go x (formal_row y p l) = absurd (shown l)
      go x (virtual_row y p l) = absurd (shown l)
      go x (attribute_row y p) = absurd (shown p.listed)
      go x (simulation_row y p) = inr (inl (ap is_attribute p.entry))

  -- a standard class declares nothing but attributes
  pub bare : (d : DeclNo) (row : Declaration) (which : StandardClass) → slice_get s.tables.declarations d.0 ≡ Some row → text s row.block ≡ Some (StandardText which) → is_attribute row.entry ≡ true
  unfolding text
  bare d row which at is = let w = t.text_of_row s of order d.0 row at in go w.0 (some_same w.0 (StandardText which) (sym w.1 ∙ is)) w.2
    where
      in_class : RowIn (Bs s of order) (Ts s of order) (StandardText which) d.0 row → is_attribute row.entry ≡ true
      in_class (own_row y p) = absurd y
      in_class (procedure_row y p) = absurd y
      in_class (class_row y p) = absurd y
      in_class (formal_row y p l) = absurd y
      in_class (virtual_row y p l) = absurd y
      in_class (attribute_row y p) = ap is_attribute p.entry
      in_class (simulation_row y p) = absurd y

      go : (x : Text) → x ≡ StandardText which → RowIn (Bs s of order) (Ts s of order) x d.0 row → is_attribute row.entry ≡ true
      go x e r = in_class (subst (λ z. RowIn (Bs s of order) (Ts s of order) z d.0 row) e r)

  -- ---- simulations

  -- where a class `process` stands
  pub process_brought : (k : ℕ) → text s k ≡ Some (StandardText standard.Process) → ProcessBrought s k
  process_brought k at =
      let q = group_of k standard.Process at in record {
        block = q.block;
        is = q.place ∙ fourth_place q.block;
        has = (host_there q.prefix q.block q.first q.group).0;
        sets = set_classes q.prefix q.block q.first q.group;
        base = ap (base s.tables) q.place ∙ process_base q.prefix q.block q.first q.group q.is;
        around = ap (encloser s.tables) q.place ∙ around_of q.prefix q.block q.first q.group standard.Process q.is;
      }

  -- a block or a class with `simulation` in front
  pub simulation_classes : (k : ℕ) → is_simulation_block s.tables k ≡ true → SimulationClasses s k
  unfolding is_simulation_block
  simulation_classes k e = go (t.headed_now s of order k prefix.Simulation (known (standard_in (slice_get s.tables.blocks k)) e))
    where
      known : (o : Option StandardPrefix) → is_simulation o ≡ true → o ≡ Some prefix.Simulation
      known None f = absurd (cc)
      known (Some prefix.Simset) f = absurd (cc)
      known (Some prefix.Simulation) f = refl

      simulates : standard_in (slice_get s.tables.blocks k) ≡ Some prefix.Simulation
      simulates = known (standard_in (slice_get s.tables.blocks k)) e

      no_base : is_connection (text s k) ≡ false → (o : Option ℕ) → base s.tables k ≡ o → o ≡ None
      no_base other None is = refl
      no_base other (Some b) is =
          let none : standard_in (slice_get s.tables.blocks k) ≡ None = (t.completed_tables s of order).standards k ∙ (t.P s of order).apart k b (sym (t.own_base_of s of order k other) ∙ is) in
          absurd (let z : None ≡ Some prefix.Simulation = sym none ∙ simulates in cc)

      go : (first : DeclNo) × GroupNow prefix.Simulation k first → SimulationClasses s k
      go (first, g) = record {
        sets = set_classes prefix.Simulation k first g;
        process_is = text_at prefix.Simulation k first g (k + 4) standard.Process refl (fourth_place k);
        process_prefix = subst (λ m. base s.tables m ≡ Some (k + 2)) (fourth_place k) (process_base prefix.Simulation k first g refl);
        process_around = subst (λ m. encloser s.tables m ≡ Some k) (fourth_place k) (around_of prefix.Simulation k first g standard.Process refl);
        has = (host_there prefix.Simulation k first g).0;
        first = no_base (host_there prefix.Simulation k first g).1 (base s.tables k) refl;
      }

  -- no block lists a standard class, which has its name
  pub class_row_of : (d : ℕ) (k : ℕ) (which : StandardClass) (row : Declaration) → slice_get s.tables.declarations d ≡ Some row → row.entry ≡ entry.Class k → text s k ≡ Some (StandardText which) → (row.listed ≡ false) × (row.name ≡ name_of which)
  unfolding text
  class_row_of d k which row at is_entry is = let w = t.text_of_row s of order d row at in go w.0 w.2
    where
      of_class : OfClass (Bs s of order) (Ts s of order) d row → (row.listed ≡ false) × (row.name ≡ name_of which)
      of_class p =
          let number : p.number ≡ k = (let z : entry.Class p.number ≡ entry.Class k = sym p.entry ∙ is_entry in cc) in
          let class : p.class ≡ StandardText which = some_same p.class (StandardText which) (sym p.text ∙ ap (slice_get (program_texts s.program.prefix s.program.block)) number ∙ is) in
          (p.hidden (subst (λ z. IsStandard z) (sym class) tt), p.named which class)

      go : (x : Text) → RowIn (Bs s of order) (Ts s of order) x d row → (row.listed ≡ false) × (row.name ≡ name_of which)
      go x (class_row y p) = of_class p
      go x (own_row y p) = absurd (own_no_class p.entry k p.fits (subst (Alike p.entry) is_entry p.alike))
      go x (procedure_row y p) = absurd (subst (Alike (entry.Procedure (result_named p.result) p.number)) is_entry p.entry)
      go x (formal_row y p l) = absurd (subst Parametric is_entry p)
      go x (virtual_row y p l) = absurd (let z : false ≡ true = sym (ap is_virtual is_entry) ∙ p in cc)
      go x (attribute_row y p) = absurd (let z : entry.Attribute p.name (typed_or_none (Some p.first) (parameter_of p.name)) (typed_or_none (Some p.first) (result_of p.name)) ≡ entry.Class k = sym p.entry ∙ is_entry in cc)
      go x (simulation_row y p) = absurd (let z : entry.Attribute p.name (typed_or_none (Some p.first) (parameter_of p.name)) (typed_or_none (Some p.first) (result_of p.name)) ≡ entry.Class k = sym p.entry ∙ is_entry in cc)

  class_hidden : (d : DeclNo) (k : ℕ) (which : StandardClass) → class_block (declared_by s.program).tables d ≡ Some k → text s k ≡ Some (StandardText which) → (row : Declaration) → slice_get (declared_by s.program).tables.declarations d.0 ≡ Some row → row.listed ≡ false
  unfolding class_block
  class_hidden d k which declares is row at =
      let new = (t.completed_tables s of order).rows.stays d.0 row at in
      sym new.2.listed ∙ (class_row_of d.0 k which new.0 new.1 (class_new row.entry new.0.entry new.2.entry k (class_of row.entry (sym (ap (λ o. class_block_in (elim o [ None ↦ None | Some row ↦ Some row.entry ])) at) ∙ declares))) is).0
    where
      class_of : (e : Entry) → class_block_in (Some e) ≡ Some k → e ≡ entry.Class k
      class_of (entry.Class m) f = ap entry.Class (some_same m k f)
      class_of _ f = absurd (cc)

  -- it is no prefix of a standard class
  no_process_above : (c k : ℕ) → base (declared_by s.program).tables c ≡ Some k → text s k ≡ Some (StandardText standard.Process) → ⊥
  unfolding base text
  no_process_above c k was at =
      let b = standard_base_of (declared_by s.program) (program_texts s.program.prefix s.program.block) [] (t.program_agrees s.program).fine c k was in
      b.2.no_process (let z : Some (StandardText b.2.above) ≡ Some (StandardText standard.Process) = sym b.2.above_text ∙ at in cc)

  -- a class `process` is in the block into which it was brought, where that knows its standard prefix
  process_of : (k : ℕ) (at : text s k ≡ Some (StandardText standard.Process)) (block : ℕ) → block ≡ (group_of k standard.Process at).block → HasStandard s.tables block → ProcessClassThere s k
  unfolding is_simulation_block
  process_of k at block same h =
      let q = group_of k standard.Process at in
      let g = t.headed_now s of order block h.0 h.1 in
      let front = (g.1).host in
      let same_text : front.0 ≡ (q.group).host.0 = some_same front.0 (q.group).host.0 (sym front.1 ∙ ap (slice_get (program_texts s.program.prefix s.program.block)) same ∙ (q.group).host.1) in
      let one : h.0 ≡ prefix.Simulation = one_in_front h.0 q.prefix (q.group).host.0 (subst (InFront h.0) same_text front.2) (q.group).host.2 ∙ q.is in
      record { block = block; is = q.place ∙ ap (λ m. m + 1 + 3) (sym same) ∙ fourth_place block; simulates = ap is_simulation (h.1 ∙ ap Some one) }

  pub process_in : (k : ℕ) → text s k ≡ Some (StandardText standard.Process) → (block : ℕ) → encloser s.tables k ≡ Some block → HasStandard s.tables block → ProcessClassThere s k
  unfolding group_of process_brought
  process_in k at block out h = let b = process_brought k at in process_of k at block (some_same block b.block (sym out ∙ b.around)) h

  -- so is one that something has for its prefix
  pub process_there : (c k : ℕ) → is_connection (text s c) ≡ false → base s.tables c ≡ Some k → text s k ≡ Some (StandardText standard.Process) → ProcessClassThere s k
  unfolding text
  process_there c k other e at = go (t.prefix_is s of order c k other e)
    where
      q : InGroup (Bs s of order) (Ts s of order) k standard.Process
      q = group_of k standard.Process at

      of_prefix : PrefixOf (declared_by s.program).tables s.tables c k → ProcessClassThere s k
      of_prefix p =
          let row = t.class_at s.program p.class k p.declares in
          let same_row : row.0 ≡ p.stands.0 = some_same row.0 p.stands.0 (sym row.1 ∙ p.stands.1) in
          let here : around (slice_get (declared_by s.program).tables.blocks k) ≡ Some p.level = row.2 ∙ ap Some (ap (λ (z : Declaration). z.block) same_row ∙ p.stands.2) in
          let there : around (slice_get (declared_by s.program).tables.blocks k) ≡ Some q.block = sym (t.same_around s of order k) ∙ ap (λ m. around (slice_get s.tables.blocks m)) q.place ∙ q.group.around standard.Process q.is in
          let block : p.level ≡ q.block = some_same p.level q.block (sym here ∙ there) in
          let hidden : (row.0).listed ≡ false = class_hidden p.class k standard.Process p.declares at row.0 row.1 in
          by_listed p.level p.class row.0 row.1 hidden block p.listed
        where
          by_listed : (level : ℕ) (class : DeclNo) (row : Declaration) → slice_get (declared_by s.program).tables.declarations class.0 ≡ Some row → row.listed ≡ false → level ≡ q.block
              → Among class (numbers_in (slice_get (declared_by s.program).tables.blocks level)) ⊎ HasStandard s.tables level → ProcessClassThere s k
          by_listed level class row is hidden same (inr h) = process_of k at level same h
          by_listed level class row is hidden same (inl a) =
              let o = (t.program_agrees s.program).fine.own level class a in
              let one : o.0 ≡ row = some_same o.0 row (sym o.1 ∙ is) in
              absurd (let z : true ≡ false = sym o.3 ∙ ap (λ (z : Declaration). z.listed) one ∙ hidden in cc)

      go : PrefixOf (declared_by s.program).tables s.tables c k ⊎ (base (declared_by s.program).tables c ≡ Some k) → ProcessClassThere s k
      go (inl p) = of_prefix p
      go (inr was) = absurd (no_process_above c k was at)
