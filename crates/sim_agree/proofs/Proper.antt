-- What the declarations of an allowed program may be: where each reference has a qualification, its type is that of a class.
use Rattle.std.proofs.Common.{◌≡◌, ◌+◌, ◌⊎◌, inl, inr, ℕ, false, List, Option, Some, None, sym, ap, ◌∙◌, subst}
use Rattle.std.specs.Prelude.{slice_get}
use Rattle.sim_base.specs.declared.numbering.DeclNo.{DeclNo}
use Rattle.sim_agree.specs.Order.{InOrder}
use Rattle.sim_scope.specs.declared.scopes.Declaration.{Declaration}
use Rattle.sim_scope.specs.declared.scopes.Denotation.TheVariants as denotation
use Rattle.sim_scope.specs.declared.types.Entry.{Entry}
use Rattle.sim_scope.specs.declared.types.Entry.TheVariants as entry
use Rattle.sim_scope.specs.declared.types.FormalKind.{FormalKind}
use Rattle.sim_scope.specs.declared.types.FormalKind.TheVariants as shape
use Rattle.sim_scope.specs.declared.types.SimType.{SimType}
use Rattle.sim_scope.specs.declared.types.SimType.TheVariants as type
use Rattle.sim_scope.specs.declared.types.StandardClass.{StandardClass}
use Rattle.sim_scope.specs.declared.types.StandardClass.TheVariants as standard
use Rattle.sim_scope.specs.declared.types.StandardPrefix.{StandardPrefix}
use Rattle.sim_scope.specs.declared.types.StandardPrefix.TheVariants as prefix
use Rattle.sim_values.specs.declared.standard.StandardType.{StandardType}
use Rattle.sim_values.specs.declared.standard.StandardType.TheVariants as of_type
use Rattle.sim_scope.specs.Building.{place_of, typed_or_none}
use Rattle.sim_scope.specs.Standard.{parameter_of, result_of}
use Rattle.sim_scope.specs.Declare.{declared_by}
use Rattle.sim_scope.specs.Levels.{class_block}
use Rattle.sim_scope.specs.Scopes.{binding, entry_of, found_in}
use Rattle.sim_scope.specs.Source.{Source}
use Rattle.virtual_match.specs.Qualifying.{entry_to, type_to}
use Rattle.sim_static.specs.Check.{second_least}
use Rattle.sim_meaning.specs.Attributes.{is_connection}
use Rattle.sim_meaning.specs.Texts.{text}
use Rattle.sim_agree.specs.Facts.{IsClass, PlainType, ProperEntry, ProperFormal, ProperResult, ProperType}
use Rattle.sim_agree.specs.TablesOf.{TablesOf}
use Rattle.sim_agree.proofs.Completing.{Retyped}
use Rattle.sim_agree.proofs.Fine.{StandardGroup}
use Rattle.sim_agree.proofs.StandardRows as rows
use Rattle.sim_agree.proofs.StandardPrefixes.{IsBrought}
use Rattle.sim_agree.proofs.Groups.{AreReferences, IsReference, OfReferences, TypedFormal}
use Rattle.sim_agree.proofs.Headings as h
use Rattle.sim_agree.proofs.Qualified as q
use Rattle.sim_agree.proofs.Steps.{IsParameter, Parametric}
use Rattle.sim_agree.proofs.Tables as t
use Rattle.sim_agree.proofs.Tables.{Bs, Ts}

-- of references or not
pub references_or : (ty : SimType) → IsReference ty ⊎ PlainType ty
references_or type.NoneType = inl tt
references_or (type.Ref class) = inl tt
references_or type.Integer = inr tt
references_or type.Boolean = inr tt
references_or type.Character = inr tt
references_or type.Text = inr tt

-- the types of what is declared, but for constants
abbrev TypesOf : Source → Entry → Type 0
TypesOf s (entry.Variable ty) = ProperType s ty
TypesOf s (entry.Array ty n) = ProperType s ty
TypesOf s (entry.Procedure result k) = ProperResult s result
TypesOf s (entry.Virtual result own) = ProperResult s result
TypesOf s (entry.Formal f) = ProperResult s f.ty
TypesOf s _ = Unit {0}

some_same : {A : Type 0} (a b : A) → Some a ≡ Some b → a ≡ b
some_same a b e = cc

plain_proper : (s : Source) (ty : SimType) → PlainType ty → ProperType s ty
plain_proper s type.Integer p = tt
plain_proper s type.Boolean p = tt
plain_proper s type.Character p = tt
plain_proper s type.Text p = tt
plain_proper s (type.Ref class) p = absurd p
plain_proper s type.NoneType p = absurd p

types_or : (s : Source) (e : Entry) → OfReferences e ⊎ TypesOf s e
types_or s (entry.Variable ty) = go (references_or ty)
  where
    go : IsReference ty ⊎ PlainType ty → IsReference ty ⊎ ProperType s ty
    go (inl r) = inl r
    go (inr p) = inr (plain_proper s ty p)
types_or s (entry.Array ty n) = go (references_or ty)
  where
    go : IsReference ty ⊎ PlainType ty → IsReference ty ⊎ ProperType s ty
    go (inl r) = inl r
    go (inr p) = inr (plain_proper s ty p)
types_or s (entry.Procedure None k) = inr tt
types_or s (entry.Procedure (Some ty) k) = go (references_or ty)
  where
    go : IsReference ty ⊎ PlainType ty → IsReference ty ⊎ ProperType s ty
    go (inl r) = inl r
    go (inr p) = inr (plain_proper s ty p)
types_or s (entry.Formal f) = go f.ty
  where
    one : (ty : SimType) → IsReference ty ⊎ PlainType ty → IsReference ty ⊎ ProperType s ty
    one ty (inl r) = inl r
    one ty (inr p) = inr (plain_proper s ty p)

    go : (o : Option SimType) → AreReferences o ⊎ ProperResult s o
    go None = inr tt
    go (Some ty) = one ty (references_or ty)
types_or s (entry.Constant ty) = inr tt
types_or s (entry.Class k) = inr tt
types_or s (entry.Virtual None own) = inr tt
types_or s (entry.Virtual (Some ty) own) = go (references_or ty)
  where
    go : IsReference ty ⊎ PlainType ty → IsReference ty ⊎ ProperType s ty
    go (inl r) = inl r
    go (inr p) = inr (plain_proper s ty p)
types_or s (entry.Unspecified w) = inr tt
types_or s (entry.Attribute name given result) = inr tt

-- a reference to a class
types_to : (s : Source) (class : DeclNo) → IsClass s class → (old : Entry) → OfReferences old → TypesOf s (entry_to class old)
unfolding entry_to
types_to s class c (entry.Variable ty) r = c
types_to s class c (entry.Constant ty) r = tt
types_to s class c (entry.Array ty n) r = c
types_to s class c (entry.Procedure (Some ty) k) r = c
types_to s class c (entry.Procedure None k) r = absurd r
types_to s class c (entry.Formal f) r = go f.ty r
  where
    go : (o : Option SimType) → AreReferences o → ProperResult s (type_to class o)
    go (Some ty) q = c
    go None q = absurd q
types_to s class c (entry.Class k) r = absurd r
types_to s class c (entry.Virtual (Some ty) own) r = c
types_to s class c (entry.Virtual None own) r = absurd r
types_to s class c (entry.Unspecified w) r = absurd r
types_to s class c (entry.Attribute name given result) r = absurd r

formal_proper : (s : Source) (k : FormalKind) (ty : Option SimType) → TypedFormal k ty → ProperResult s ty → ProperFormal s k ty
formal_proper s shape.Simple (Some ty) p r = r
formal_proper s shape.Array (Some ty) p r = r
formal_proper s shape.Simple None p r = absurd p
formal_proper s shape.Array None p r = absurd p
formal_proper s shape.Procedure ty p r = r

module _ (s : Source) (of : TablesOf s) (order : InOrder s.program)
    (second : second_least s.tables ≡ None)
    (outside : (token found : ℕ) (name : List ℕ) (d : DeclNo) (k : ℕ) → binding s.tables token name ≡ Some (denotation.Declared d) → entry_of s.tables d ≡ Some (entry.Class k) → found_in s.tables token name ≡ Some found → is_connection (text s found) ≡ false)
    (constants : (d : DeclNo) (ty : SimType) → entry_of s.tables d ≡ Some (entry.Constant ty) → PlainType ty) where
  class_is : (c : DeclNo) (n : ℕ) → class_block s.tables c ≡ Some n → IsClass s c
  class_is c n e =
      let there = q.class_entry s of order c n e in
      let k = h.classes s of order c n there in record { block = n; declares = there; is = k.0.is; owned = k.1 }

  -- a standard class, and the types of attributes
  standard_class_is : (p : StandardPrefix) (block : ℕ) (first : DeclNo) → StandardGroup p (Bs s of order) (Ts s of order) block first → (which : StandardClass) → IsBrought p which → IsClass s (record { 0 = first.0 + place_of which })
  standard_class_is p block first g which is = class_is (record { 0 = first.0 + place_of which }) (block + 1 + place_of which) (rows.class_block_of s of order p block first g which is)

  result_proper : (p : StandardPrefix) (block : ℕ) (first : DeclNo) → StandardGroup p (Bs s of order) (Ts s of order) block first → (o : Option StandardType) → rows.TypedFor p o → ProperResult s (typed_or_none (Some first) o)
  result_proper p block first g None q = tt
  result_proper p block first g (Some of_type.Linkage) q = standard_class_is p block first g standard.Linkage tt
  result_proper p block first g (Some of_type.Link) q = standard_class_is p block first g standard.Link tt
  result_proper p block first g (Some of_type.Head) q = standard_class_is p block first g standard.Head tt
  result_proper p block first g (Some of_type.Process) q = standard_class_is p block first g standard.Process q
  result_proper p block first g (Some of_type.Integer) q = tt
  result_proper p block first g (Some of_type.Boolean) q = tt
  result_proper p block first g (Some of_type.Character) q = absurd q
  result_proper p block first g (Some of_type.Text) q = absurd q
  result_proper p block first g (Some of_type.Reference) q = absurd q

  attribute_proper : (row : Declaration) → rows.AttributeRow s of order row → ProperEntry s row.entry
  attribute_proper row (inl p) =
      let types = rows.attribute_types p.name p.prefix p.class p.is p.owner p.is_attribute in
      subst (ProperEntry s) (sym p.entry) (inl p.is_attribute, result_proper p.prefix p.block p.first p.group (parameter_of p.name) types.0, result_proper p.prefix p.block p.first p.group (result_of p.name) types.1)
  attribute_proper row (inr p) =
      let types = rows.simulation_types p.name p.is_simulation in
      subst (ProperEntry s) (sym p.entry) (inr p.is_simulation, result_proper prefix.Simulation row.block p.first p.group (parameter_of p.name) types.0, result_proper prefix.Simulation row.block p.first p.group (result_of p.name) types.1)

  shaped : (d : ℕ) (row : Declaration) → slice_get s.tables.declarations d ≡ Some row → (e : Entry) → row.entry ≡ e → entry_of s.tables (record { 0 = d }) ≡ Some e → TypesOf s e → ProperEntry s e
  shaped d row at (entry.Variable ty) is en r = r
  shaped d row at (entry.Constant ty) is en r = constants (record { 0 = d }) ty en
  shaped d row at (entry.Array ty n) is en r = r
  shaped d row at (entry.Procedure result k) is en r = r
  shaped d row at (entry.Class k) is en r = tt
  shaped d row at (entry.Virtual result own) is en r = r
  shaped d row at (entry.Formal f) is en r =
      let x = t.text_of_row s of order d row at in
      let p = subst Parametric is (h.param_in s of order x.0 d row x.2 (subst IsParameter (sym is) tt)) in
      formal_proper s f.kind f.ty p r
  shaped d row at (entry.Unspecified w) is en r = absurd (t.specified_row s of order d row at w is)
  shaped d row at (entry.Attribute name given result) is en r =
      subst (ProperEntry s) is (attribute_proper row (rows.attribute_is s of order d row at name given result is))

  typed : (d : ℕ) (row : Declaration) → slice_get s.tables.declarations d ≡ Some row → (e : Entry) → row.entry ≡ e → TypesOf s e
  typed d row at e is = let w = (t.completed_tables s of order).rows.was d row at in go w.0 w.1 w.2 (types_or s w.0.entry)
    where
      of_references : (old : Declaration) → slice_get (declared_by s.program).tables.declarations d ≡ Some old → OfReferences old.entry → TypesOf s e
      of_references old was refs =
          let x = t.program_covered s.program of.unbroken d old was refs in
          let j : q.IsSet s of order s.tables d = subst (λ m. q.IsSet s of order s.tables m) x.3 (q.set_there s of order second outside x.0 x.1 x.2) in
          let same : j.row ≡ row = some_same j.row row (sym j.at ∙ at) in
          let e_is : e ≡ entry_to j.class j.old.entry = sym is ∙ ap (λ (z : Declaration). z.entry) (sym same) ∙ j.is in
          subst (TypesOf s) (sym e_is) (types_to s j.class (class_is j.class j.block j.declares) j.old.entry j.refs)

      go : (old : Declaration) → slice_get (declared_by s.program).tables.declarations d ≡ Some old → Retyped old row → OfReferences old.entry ⊎ TypesOf s old.entry → TypesOf s e
      go old was ch (inl refs) = of_references old was refs
      go old was ch (inr ty) = either ch.entry
        where
          either : (row.entry ≡ old.entry) ⊎ (OfReferences old.entry × ((class : DeclNo) × (row.entry ≡ entry_to class old.entry))) → TypesOf s e
          either (inl same) = subst (TypesOf s) (sym same ∙ is) ty
          either (inr refs) = of_references old was refs.0

  pub proper : (d : DeclNo) (e : Entry) → entry_of s.tables d ≡ Some e → ProperEntry s e
  proper d e en = let r = t.entry_row s of order d e en in shaped d.0 r.0 r.1 e r.2 en (typed d.0 r.0 r.1 e r.2)
