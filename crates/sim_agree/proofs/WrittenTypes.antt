-- Where the class of a type is declared: it is found by an identifier that stands in the block of the declaration that has the type. That of an
-- attribute of a standard class is declared beside it, that of an attribute of `simulation` itself in the same block.
use Rattle.std.proofs.Common.{◌≡◌, ◌+◌, ◌⊎◌, inl, inr, ℕ, true, false, List, Option, Some, None, sym, ap, ◌∙◌, subst}
use Rattle.std.specs.Prelude.{slice_get}
use Rattle.sim_base.specs.declared.numbering.DeclNo.{DeclNo}
use Rattle.sim_agree.specs.Order.{InOrder}
use Rattle.sim_scope.specs.declared.scopes.Declaration.{Declaration}
use Rattle.sim_scope.specs.declared.scopes.Denotation.TheVariants as denotation
use Rattle.sim_scope.specs.declared.scopes.Qualification.{Qualification}
use Rattle.sim_scope.specs.declared.types.Entry.{Entry}
use Rattle.sim_scope.specs.declared.types.Entry.TheVariants as entry
use Rattle.sim_scope.specs.declared.types.SimType.{SimType}
use Rattle.sim_scope.specs.declared.types.SimType.TheVariants as type
use Rattle.sim_scope.specs.declared.types.StandardClass.{StandardClass}
use Rattle.sim_scope.specs.declared.types.StandardClass.TheVariants as standard
use Rattle.sim_scope.specs.declared.types.StandardPrefix.{StandardPrefix}
use Rattle.sim_scope.specs.declared.types.StandardPrefix.TheVariants as prefix
use Rattle.sim_values.specs.declared.standard.Standard.{Standard}
use Rattle.sim_values.specs.declared.standard.StandardType.{StandardType}
use Rattle.sim_values.specs.declared.standard.StandardType.TheVariants as of_type
use Rattle.sim_scope.specs.Access.{block_at, encloser}
use Rattle.sim_scope.specs.Building.{place_of, typed_or_none}
use Rattle.sim_scope.specs.Standard.{result_of}
use Rattle.sim_scope.specs.Declare.{declared_by}
use Rattle.sim_scope.specs.Levels.{class_block}
use Rattle.sim_scope.specs.Scopes.{binding, entry_of, found_in}
use Rattle.sim_scope.specs.Source.{Source, block_of, block_of_row}
use Rattle.virtual_match.specs.Qualifying.{entry_to, type_to}
use Rattle.sim_static.specs.Check.{second_least}
use Rattle.sim_code.specs.Simulations.{is_simulation_name}
use Rattle.sim_meaning.specs.Attributes.{is_connection}
use Rattle.sim_meaning.specs.Texts.{text}
use Rattle.sim_sound.specs.Held.{Among}
use Rattle.sim_agree.specs.Facts.{PlainType}
use Rattle.sim_agree.specs.TablesOf.{TablesOf}
use Rattle.sim_agree.proofs.Completing.{Retyped}
use Rattle.sim_agree.proofs.Fine.{StandardGroup}
use Rattle.sim_agree.proofs.Groups.{AreReferences, IsReference, OfReferences}
use Rattle.sim_agree.proofs.Latest.{InBlock}
use Rattle.sim_agree.proofs.Placing as p
use Rattle.sim_agree.proofs.Proper.{references_or}
use Rattle.sim_agree.proofs.Qualified as q
use Rattle.sim_agree.proofs.StandardPrefixes.{IsBrought}
use Rattle.sim_agree.proofs.StandardRows as rows
use Rattle.sim_agree.proofs.Tables as t
use Rattle.sim_agree.proofs.Tables.{Bs, Ts}

-- where the class of the type of a declaration stands
pub data TypeStands (s : Source) (d class : DeclNo) : Type 0 where
  written : (token : ℕ) (name : List ℕ) → block_at s.tables token ≡ Some (block_of s d) → binding s.tables token name ≡ Some (denotation.Declared class) → TypeStands s d class
  beside : (k block : ℕ) → class_block s.tables class ≡ Some k → encloser s.tables k ≡ Some block → encloser s.tables (block_of s d) ≡ Some block → TypeStands s d class
  inside : (k : ℕ) (name : Standard) (parameter result : Option SimType) → class_block s.tables class ≡ Some k → encloser s.tables k ≡ Some (block_of s d) → entry_of s.tables d ≡ Some (entry.Attribute name parameter result) → is_simulation_name name ≡ true → TypeStands s d class

abbrev pub TypeIn : Source → DeclNo → SimType → Type 0
TypeIn s d (type.Ref class) = TypeStands s d class
TypeIn s d ty = Unit {0}

abbrev pub ResultIn : Source → DeclNo → Option SimType → Type 0
ResultIn s d None = Unit {0}
ResultIn s d (Some ty) = TypeIn s d ty

-- the type of what is declared, or of what it gives
abbrev pub TypesIn : Source → DeclNo → Entry → Type 0
TypesIn s d (entry.Variable ty) = TypeIn s d ty
TypesIn s d (entry.Array ty n) = TypeIn s d ty
TypesIn s d (entry.Procedure result k) = ResultIn s d result
TypesIn s d (entry.Virtual result own) = ResultIn s d result
TypesIn s d (entry.Formal f) = ResultIn s d f.ty
TypesIn s d (entry.Attribute name parameter result) = ResultIn s d result
TypesIn s d _ = Unit {0}

-- where it is no standard attribute
abbrev OwnTypes : Source → DeclNo → Entry → Type 0
OwnTypes s d (entry.Attribute name parameter result) = Unit {0}
OwnTypes s d e = TypesIn s d e

some_same : {A : Type 0} (a b : A) → Some a ≡ Some b → a ≡ b
some_same a b e = cc

plain_in : (s : Source) (d : DeclNo) (ty : SimType) → PlainType ty → TypeIn s d ty
plain_in s d type.Integer p = tt
plain_in s d type.Boolean p = tt
plain_in s d type.Character p = tt
plain_in s d type.Text p = tt
plain_in s d (type.Ref class) p = absurd p
plain_in s d type.NoneType p = absurd p

type_or : (s : Source) (d : DeclNo) (ty : SimType) → IsReference ty ⊎ TypeIn s d ty
type_or s d ty = go (references_or ty)
  where
    go : IsReference ty ⊎ PlainType ty → IsReference ty ⊎ TypeIn s d ty
    go (inl r) = inl r
    go (inr p) = inr (plain_in s d ty p)

result_or : (s : Source) (d : DeclNo) (o : Option SimType) → AreReferences o ⊎ ResultIn s d o
result_or s d None = inr tt
result_or s d (Some ty) = type_or s d ty

types_or : (s : Source) (d : DeclNo) (e : Entry) → OfReferences e ⊎ OwnTypes s d e
types_or s d (entry.Variable ty) = type_or s d ty
types_or s d (entry.Array ty n) = type_or s d ty
types_or s d (entry.Procedure result k) = result_or s d result
types_or s d (entry.Formal f) = result_or s d f.ty
types_or s d (entry.Virtual result own) = result_or s d result
types_or s d (entry.Constant ty) = inr tt
types_or s d (entry.Class k) = inr tt
types_or s d (entry.Unspecified w) = inr tt
types_or s d (entry.Attribute name given result) = inr tt

-- a reference to a class
result_to : (s : Source) (d class : DeclNo) → TypeStands s d class → (o : Option SimType) → AreReferences o → ResultIn s d (type_to class o)
result_to s d class c (Some ty) r = c
result_to s d class c None r = absurd r

types_to : (s : Source) (d class : DeclNo) → TypeStands s d class → (old : Entry) → OfReferences old → OwnTypes s d (entry_to class old)
unfolding entry_to
types_to s d class c (entry.Variable ty) r = c
types_to s d class c (entry.Constant ty) r = tt
types_to s d class c (entry.Array ty n) r = c
types_to s d class c (entry.Procedure result k) r = result_to s d class c result r
types_to s d class c (entry.Formal f) r = result_to s d class c f.ty r
types_to s d class c (entry.Class k) r = absurd r
types_to s d class c (entry.Virtual result own) r = result_to s d class c result r
types_to s d class c (entry.Unspecified w) r = absurd r
types_to s d class c (entry.Attribute name given result) r = absurd r

module _ (s : Source) (of : TablesOf s) (order : InOrder s.program) where
  in_block : (d : DeclNo) (n : ℕ) → InBlock (declared_by s.program).tables d n → block_of s d ≡ n
  in_block d n (inl a) = t.owned_block s of order n d (subst (λ ns. Among d ns) (sym (t.same_numbers s of order n)) a)
  in_block d n (inr w) = let m = (t.completed_tables s of order).rows.stays d.0 w.0 w.1 in t.block_is s of order d m.0 m.1 ∙ m.2.block ∙ w.2

  -- the class that is written for references stands in the block of what is of them
  written_place : (i : ℕ) (x : Qualification) → slice_get (declared_by s.program).tables.qualifications i ≡ Some x → block_at s.tables x.class.token.0 ≡ Some (block_of s x.declaration)
  written_place i x at = let w = (p.final s of order).laid.written i x at in p.at_place s of order w.0 x.class.token.0 w.1 ∙ ap Some (sym (in_block x.declaration w.0 w.2))

  -- ---- attributes

  attribute_in : (d : DeclNo) (pre : StandardPrefix) (block : ℕ) (first : DeclNo) → StandardGroup pre (Bs s of order) (Ts s of order) block first
      → ((which : StandardClass) → IsBrought pre which → TypeStands s d (record { 0 = first.0 + place_of which })) → (o : Option StandardType) → rows.TypedFor pre o → ResultIn s d (typed_or_none (Some first) o)
  attribute_in d pre block first g one None w = tt
  attribute_in d pre block first g one (Some of_type.Linkage) w = one standard.Linkage tt
  attribute_in d pre block first g one (Some of_type.Link) w = one standard.Link tt
  attribute_in d pre block first g one (Some of_type.Head) w = one standard.Head tt
  attribute_in d pre block first g one (Some of_type.Process) w = one standard.Process w
  attribute_in d pre block first g one (Some of_type.Integer) w = tt
  attribute_in d pre block first g one (Some of_type.Boolean) w = tt
  attribute_in d pre block first g one (Some of_type.Character) w = absurd w
  attribute_in d pre block first g one (Some of_type.Text) w = absurd w
  attribute_in d pre block first g one (Some of_type.Reference) w = absurd w

  attribute_stands : (d : DeclNo) (row : Declaration) → slice_get s.tables.declarations d.0 ≡ Some row → rows.AttributeRow s of order row → TypesIn s d row.entry
  unfolding block_of
  attribute_stands d row at (inl a) =
      let types = rows.attribute_types a.name a.prefix a.class a.is a.owner a.is_attribute in
      let home : encloser s.tables (block_of s d) ≡ Some a.block = ap (encloser s.tables) (ap block_of_row at ∙ a.stands) ∙ rows.around_of s of order a.prefix a.block a.first a.group a.class a.is in
      let one : (which : StandardClass) → IsBrought a.prefix which → TypeStands s d (record { 0 = a.first.0 + place_of which }) =
      λ which is. beside (a.block + 1 + place_of which) a.block (rows.class_block_of s of order a.prefix a.block a.first a.group which is) (rows.around_of s of order a.prefix a.block a.first a.group which is) home in
      subst (TypesIn s d) (sym a.entry) (attribute_in d a.prefix a.block a.first a.group one (result_of a.name) types.1)
  attribute_stands d row at (inr a) =
      let types = rows.simulation_types a.name a.is_simulation in
      let home : Some row.block ≡ Some (block_of s d) = ap (λ o. Some (block_of_row o)) (sym at) in
      let there = t.row_entry s of order d row at ∙ ap Some a.entry in
      let one : (which : StandardClass) → IsBrought prefix.Simulation which → TypeStands s d (record { 0 = a.first.0 + place_of which }) =
      λ which is. inside (row.block + 1 + place_of which) a.name _ _ (rows.class_block_of s of order prefix.Simulation row.block a.first a.group which is) (rows.around_of s of order prefix.Simulation row.block a.first a.group which is ∙ home) there a.is_simulation in
      subst (TypesIn s d) (sym a.entry) (attribute_in d prefix.Simulation row.block a.first a.group one (result_of a.name) types.1)

  -- ---- all declarations

  module _ (second : second_least s.tables ≡ None)
      (outside : (token found : ℕ) (name : List ℕ) (d : DeclNo) (k : ℕ) → binding s.tables token name ≡ Some (denotation.Declared d) → entry_of s.tables d ≡ Some (entry.Class k) → found_in s.tables token name ≡ Some found → is_connection (text s found) ≡ false) where
    set_stands : (d : DeclNo) (j : q.IsSet s of order s.tables d.0) → TypeStands s d j.class
    unfolding block_of
    set_stands d j =
        let g = j.given in
        let x = g.qualification in
        let w = q.written_is s.tables x j.class g.written in
        written x.class.token.0 x.class.name (written_place g.place x g.at ∙ ap (λ n. Some (block_of_row (slice_get s.tables.declarations n))) g.of_row) w.binds

    own_types : (d : DeclNo) (row : Declaration) → slice_get s.tables.declarations d.0 ≡ Some row → (e : Entry) → row.entry ≡ e → OwnTypes s d e
    own_types d row at e is = let w = (t.completed_tables s of order).rows.was d.0 row at in go w.0 w.1 w.2 (types_or s d w.0.entry)
      where
        of_references : (old : Declaration) → slice_get (declared_by s.program).tables.declarations d.0 ≡ Some old → OfReferences old.entry → OwnTypes s d e
        of_references old was refs =
            let x = t.program_covered s.program of.unbroken d.0 old was refs in
            let j : q.IsSet s of order s.tables d.0 = subst (λ m. q.IsSet s of order s.tables m) x.3 (q.set_there s of order second outside x.0 x.1 x.2) in
            let same : j.row ≡ row = some_same j.row row (sym j.at ∙ at) in
            let e_is : e ≡ entry_to j.class j.old.entry = sym is ∙ ap (λ (z : Declaration). z.entry) (sym same) ∙ j.is in
            subst (OwnTypes s d) (sym e_is) (types_to s d j.class (set_stands d j) j.old.entry j.refs)

        go : (old : Declaration) → slice_get (declared_by s.program).tables.declarations d.0 ≡ Some old → Retyped old row → OfReferences old.entry ⊎ OwnTypes s d old.entry → OwnTypes s d e
        go old was ch (inl refs) = of_references old was refs
        go old was ch (inr ty) = either ch.entry
          where
            either : (row.entry ≡ old.entry) ⊎ (OfReferences old.entry × ((class : DeclNo) × (row.entry ≡ entry_to class old.entry))) → OwnTypes s d e
            either (inl same) = subst (OwnTypes s d) (sym same ∙ is) ty
            either (inr refs) = of_references old was refs.0

    pub types_stand : (d : DeclNo) (e : Entry) → entry_of s.tables d ≡ Some e → TypesIn s d e
    types_stand d e en = let r = t.entry_row s of order d e en in all r.0 r.1 e r.2 (own_types d r.0 r.1 e r.2)
      where
        all : (row : Declaration) → slice_get s.tables.declarations d.0 ≡ Some row → (e : Entry) → row.entry ≡ e → OwnTypes s d e → TypesIn s d e
        all row at (entry.Attribute name given result) is own = subst (TypesIn s d) is (attribute_stands d row at (rows.attribute_is s of order d.0 row at name given result is))
        all row at (entry.Variable ty) is own = own
        all row at (entry.Constant ty) is own = own
        all row at (entry.Array ty n) is own = own
        all row at (entry.Procedure result k) is own = own
        all row at (entry.Class k) is own = own
        all row at (entry.Virtual result k) is own = own
        all row at (entry.Formal f) is own = own
        all row at (entry.Unspecified w) is own = own
