-- Rows without what the second round changes, and entries with their classes.
use Rattle.std.proofs.Common.{◌≡◌, ◌⊎◌, inl, inr, ℕ, Option, Some, None, refl, sym, ap, ◌∙◌, subst}
use Rattle.sim_base.specs.declared.numbering.DeclNo.{DeclNo}
use Rattle.sim_scope.specs.declared.types.Entry.{Entry}
use Rattle.sim_scope.specs.declared.types.Entry.TheVariants as entry
use Rattle.sim_scope.specs.declared.types.Formal.{Formal}
use Rattle.sim_scope.specs.declared.types.FormalKind.{FormalKind}
use Rattle.sim_scope.specs.declared.types.FormalKind.TheVariants as shape
use Rattle.sim_scope.specs.declared.types.SimType.{SimType}
use Rattle.sim_scope.specs.declared.types.SimType.TheVariants as t
use Rattle.sim_scope.specs.declared.types.WrittenMode.{WrittenMode}
use Rattle.sim_scope.specs.Access.{around}
use Rattle.sim_scope.specs.Scopes.{is_procedure_entry, is_virtual}
use Rattle.sim_scope.specs.Source.{level_in}
use Rattle.sim_scope.specs.Tables.{BlockOf}
use Rattle.virtual_match.specs.Qualifying.{entry_to, type_to}
use Rattle.sim_meaning.specs.Attributes.{first_in}
use Rattle.sim_meaning.specs.Entries.{numbers_in}
use Rattle.sim_meaning.specs.Texts.{Text}
use Rattle.sim_agree.proofs.Completing.{bare_row}
use Rattle.sim_agree.proofs.Fine.{Alike, AlikeResults, AlikeTypes, KindIs, deeper_in, owner_in}
use Rattle.sim_agree.proofs.Groups.{AreReferences, IsReference, OfReferences, TypedFormal}
use Rattle.sim_agree.proofs.Steps.{IsParameter, Parametric}

-- ---- of a source

-- what is the same of a block without the class that it connects
pub bare_around : (o : Option BlockOf) → around (bare_row o) ≡ around o
bare_around None = refl
bare_around (Some row) = refl

pub bare_first : (o : Option BlockOf) → first_in (bare_row o) ≡ first_in o
bare_first None = refl
bare_first (Some row) = refl

pub bare_numbers : (o : Option BlockOf) → numbers_in (bare_row o) ≡ numbers_in o
bare_numbers None = refl
bare_numbers (Some row) = refl

pub bare_level : (o : Option BlockOf) → level_in (bare_row o) ≡ level_in o
bare_level None = refl
bare_level (Some row) = refl

pub bare_owner : (o : Option BlockOf) → owner_in (bare_row o) ≡ owner_in o
bare_owner None = refl
bare_owner (Some row) = refl

pub bare_deeper : (n : ℕ) (o : Option BlockOf) → deeper_in (bare_row o) n ≡ deeper_in o n
bare_deeper n None = refl
bare_deeper n (Some row) = refl

pub bare_kind : (x : Option Text) (o : Option BlockOf) → KindIs (bare_row o) x → KindIs o x
bare_kind x None k = k
bare_kind None (Some row) k = absurd k
bare_kind (Some x) (Some row) k = k

pub kind_bare : (x : Option Text) (o : Option BlockOf) → KindIs o x → KindIs (bare_row o) x
kind_bare x None k = k
kind_bare None (Some row) k = absurd k
kind_bare (Some x) (Some row) k = k

-- entries with the classes of references
alike_reference : (a b : SimType) (class : DeclNo) → IsReference b → AlikeTypes a b → AlikeTypes a (t.Ref class)
alike_reference a t.NoneType class r e = e
alike_reference a (t.Ref d) class r e = e
alike_reference a t.Integer class r e = absurd r
alike_reference a t.Boolean class r e = absurd r
alike_reference a t.Character class r e = absurd r
alike_reference a t.Text class r e = absurd r

pub like_virtual : (e : Entry) (result : Option SimType) (own : Option DeclNo) → Alike e (entry.Virtual result own) → ⊥
like_virtual (entry.Variable ty) result own a = a
like_virtual (entry.Constant ty) result own a = a
like_virtual (entry.Array ty n) result own a = a
like_virtual (entry.Procedure given k) result own a = a
like_virtual (entry.Class k) result own a = a
like_virtual (entry.Virtual given k) result own a = a
like_virtual (entry.Formal f) result own a = a
like_virtual (entry.Unspecified v) result own a = a
like_virtual (entry.Attribute name parameter given) result own a = a

alike_to : (e old : Entry) (class : DeclNo) → OfReferences old → Alike e old → Alike e (entry_to class old)
unfolding entry_to
alike_to (entry.Variable a) (entry.Variable b) class r e = alike_reference a b class r e
alike_to (entry.Constant a) (entry.Constant b) class r e = alike_reference a b class r e
alike_to (entry.Array a n) (entry.Array b m) class r e = (alike_reference a b class r e.0, e.1)
alike_to (entry.Procedure (Some a) k) (entry.Procedure (Some b) j) class r e = (alike_reference a b class r e.0, e.1)
alike_to (entry.Procedure None k) (entry.Procedure (Some b) j) class r e = absurd e.0
alike_to (entry.Procedure a k) (entry.Procedure None j) class r e = absurd r
alike_to (entry.Class k) (entry.Class j) class r e = absurd r
alike_to (entry.Formal f) (entry.Formal g) class r e = (e.0, e.1, of_type f.ty g.ty r e.2)
  where
    of_type : (a b : Option SimType) → AreReferences b → AlikeResults a b → AlikeResults a (type_to class b)
    of_type (Some a) (Some b) r e = alike_reference a b class r e
    of_type None (Some b) r e = absurd e
    of_type a None r e = absurd r
alike_to e (entry.Unspecified w) class r a = absurd r
alike_to e (entry.Virtual result own) class r a = absurd (like_virtual e result own a)
alike_to e (entry.Attribute name given result) class r a = absurd r
alike_to _ _ class r a = absurd a

parametric_to : (old : Entry) (class : DeclNo) → Parametric old → Parametric (entry_to class old)
unfolding entry_to
parametric_to (entry.Formal f) class p = of_kind f.kind f.ty p
  where
    of_kind : (k : FormalKind) (ty : Option SimType) → TypedFormal k ty → TypedFormal k (type_to class ty)
    of_kind shape.Simple (Some ty) q = tt
    of_kind shape.Array (Some ty) q = tt
    of_kind shape.Simple None q = q
    of_kind shape.Array None q = q
    of_kind shape.Procedure ty q = tt
parametric_to (entry.Unspecified w) class p = p
parametric_to (entry.Variable ty) class p = absurd p
parametric_to (entry.Constant ty) class p = absurd p
parametric_to (entry.Array ty n) class p = absurd p
parametric_to (entry.Procedure result n) class p = absurd p
parametric_to (entry.Class n) class p = absurd p
parametric_to (entry.Virtual result n) class p = absurd p
parametric_to (entry.Attribute name given result) class p = absurd p

module _ (old new : Entry) (e : (new ≡ old) ⊎ (OfReferences old × ((class : DeclNo) × (new ≡ entry_to class old)))) where
  pub alike_new : (x : Entry) → Alike x old → Alike x new
  alike_new x a = go e
    where
      go : (new ≡ old) ⊎ (OfReferences old × ((class : DeclNo) × (new ≡ entry_to class old))) → Alike x new
      go (inl q) = subst (Alike x) (sym q) a
      go (inr q) = subst (Alike x) (sym q.1.1) (alike_to x old q.1.0 q.0 a)

  pub parametric_new : Parametric old → Parametric new
  parametric_new p = go e
    where
      go : (new ≡ old) ⊎ (OfReferences old × ((class : DeclNo) × (new ≡ entry_to class old))) → Parametric new
      go (inl q) = subst Parametric (sym q) p
      go (inr q) = subst Parametric (sym q.1.1) (parametric_to old q.1.0 p)

  pub class_new : (n : ℕ) → old ≡ entry.Class n → new ≡ entry.Class n
  class_new n is = go e
    where
      go : (new ≡ old) ⊎ (OfReferences old × ((class : DeclNo) × (new ≡ entry_to class old))) → new ≡ entry.Class n
      go (inl q) = q ∙ is
      go (inr q) = absurd (subst OfReferences is q.0)

  pub param_was : IsParameter new → IsParameter old
  unfolding entry_to
  param_was p = go e
    where
      back : (old : Entry) (class : DeclNo) → IsParameter (entry_to class old) → IsParameter old
      back (entry.Formal f) class q = tt
      back (entry.Unspecified w) class q = tt
      back (entry.Variable ty) class q = q
      back (entry.Constant ty) class q = q
      back (entry.Array ty n) class q = q
      back (entry.Procedure result n) class q = q
      back (entry.Class n) class q = q
      back (entry.Virtual result n) class q = q
      back (entry.Attribute name given result) class q = q

      go : (new ≡ old) ⊎ (OfReferences old × ((class : DeclNo) × (new ≡ entry_to class old))) → IsParameter old
      go (inl q) = subst IsParameter q p
      go (inr q) = back old q.1.0 (subst IsParameter q.1.1 p)

  pub param_now : IsParameter old → IsParameter new
  unfolding entry_to
  param_now p = go e
    where
      forth : (old : Entry) (class : DeclNo) → IsParameter old → IsParameter (entry_to class old)
      forth (entry.Formal f) class q = tt
      forth (entry.Unspecified w) class q = tt
      forth (entry.Variable ty) class q = q
      forth (entry.Constant ty) class q = q
      forth (entry.Array ty n) class q = q
      forth (entry.Procedure result n) class q = q
      forth (entry.Class n) class q = q
      forth (entry.Virtual result n) class q = q
      forth (entry.Attribute name given result) class q = q

      go : (new ≡ old) ⊎ (OfReferences old × ((class : DeclNo) × (new ≡ entry_to class old))) → IsParameter new
      go (inl q) = subst IsParameter (sym q) p
      go (inr q) = subst IsParameter (sym q.1.1) (forth old q.1.0 p)

  pub unspecified_was : (w : Option WrittenMode) → new ≡ entry.Unspecified w → old ≡ entry.Unspecified w
  unfolding entry_to
  unspecified_was w is = go e
    where
      back : (old : Entry) (class : DeclNo) → OfReferences old → entry_to class old ≡ entry.Unspecified w → ⊥
      back (entry.Variable ty) class r q = cc
      back (entry.Constant ty) class r q = cc
      back (entry.Array ty n) class r q = cc
      back (entry.Procedure result n) class r q = cc
      back (entry.Formal f) class r q = cc
      back (entry.Class n) class r q = r
      back (entry.Unspecified v) class r q = r
      back (entry.Virtual result n) class r q = cc
      back (entry.Attribute name given result) class r q = r

      go : (new ≡ old) ⊎ (OfReferences old × ((class : DeclNo) × (new ≡ entry_to class old))) → old ≡ entry.Unspecified w
      go (inl q) = sym q ∙ is
      go (inr q) = absurd (back old q.1.0 q.0 (sym q.1.1 ∙ is))

  pub formal_was : (f : Formal) → new ≡ entry.Formal f → (g : Formal) × (old ≡ entry.Formal g) × (g.mode ≡ f.mode) × (g.kind ≡ f.kind)
  unfolding entry_to
  formal_was f is = go e
    where
      back : (old : Entry) (class : DeclNo) → entry_to class old ≡ entry.Formal f → (g : Formal) × (old ≡ entry.Formal g) × (g.mode ≡ f.mode) × (g.kind ≡ f.kind)
      back (entry.Formal g) class q = (g, refl, (let h : g.mode ≡ f.mode = cc in h), (let h : g.kind ≡ f.kind = cc in h))
      back (entry.Variable ty) class q = absurd (cc)
      back (entry.Constant ty) class q = absurd (cc)
      back (entry.Array ty n) class q = absurd (cc)
      back (entry.Procedure given n) class q = absurd (cc)
      back (entry.Class n) class q = absurd (cc)
      back (entry.Unspecified w) class q = absurd (cc)
      back (entry.Virtual given n) class q = absurd (cc)
      back (entry.Attribute name parameter given) class q = absurd (cc)

      go : (new ≡ old) ⊎ (OfReferences old × ((class : DeclNo) × (new ≡ entry_to class old))) → (g : Formal) × (old ≡ entry.Formal g) × (g.mode ≡ f.mode) × (g.kind ≡ f.kind)
      go (inl q) = (f, sym q ∙ is, refl, refl)
      go (inr q) = back old q.1.0 (sym q.1.1 ∙ is)

  pub virtual_new : is_virtual new ≡ is_virtual old
  unfolding entry_to
  virtual_new = go e
    where
      kept : (old : Entry) (class : DeclNo) → is_virtual (entry_to class old) ≡ is_virtual old
      kept (entry.Variable ty) class = refl
      kept (entry.Constant ty) class = refl
      kept (entry.Array ty n) class = refl
      kept (entry.Procedure result n) class = refl
      kept (entry.Formal f) class = refl
      kept (entry.Class n) class = refl
      kept (entry.Unspecified w) class = refl
      kept (entry.Virtual result n) class = refl
      kept (entry.Attribute name given result) class = refl

      go : (new ≡ old) ⊎ (OfReferences old × ((class : DeclNo) × (new ≡ entry_to class old))) → is_virtual new ≡ is_virtual old
      go (inl q) = ap is_virtual q
      go (inr q) = ap is_virtual q.1.1 ∙ kept old q.1.0

  -- what a virtual knows stays
  pub virtual_was : (result : Option SimType) (own : Option DeclNo) → new ≡ entry.Virtual result own → (given : Option SimType) × (old ≡ entry.Virtual given own)
  unfolding entry_to
  virtual_was result own is = go e
    where
      back : (old : Entry) (class : DeclNo) → entry_to class old ≡ entry.Virtual result own → (given : Option SimType) × (old ≡ entry.Virtual given own)
      back (entry.Virtual given k) class q = (given, ap (entry.Virtual given) (let h : k ≡ own = cc in h))
      back (entry.Variable ty) class q = absurd (cc)
      back (entry.Constant ty) class q = absurd (cc)
      back (entry.Array ty n) class q = absurd (cc)
      back (entry.Procedure given n) class q = absurd (cc)
      back (entry.Formal f) class q = absurd (cc)
      back (entry.Class n) class q = absurd (cc)
      back (entry.Unspecified w) class q = absurd (cc)
      back (entry.Attribute name parameter given) class q = absurd (cc)

      go : (new ≡ old) ⊎ (OfReferences old × ((class : DeclNo) × (new ≡ entry_to class old))) → (given : Option SimType) × (old ≡ entry.Virtual given own)
      go (inl q) = (result, sym q ∙ is)
      go (inr q) = back old q.1.0 (sym q.1.1 ∙ is)

  pub procedure_new : is_procedure_entry new ≡ is_procedure_entry old
  unfolding entry_to
  procedure_new = go e
    where
      kept : (old : Entry) (class : DeclNo) → is_procedure_entry (entry_to class old) ≡ is_procedure_entry old
      kept (entry.Variable ty) class = refl
      kept (entry.Constant ty) class = refl
      kept (entry.Array ty n) class = refl
      kept (entry.Procedure result n) class = refl
      kept (entry.Formal f) class = refl
      kept (entry.Class n) class = refl
      kept (entry.Unspecified w) class = refl
      kept (entry.Virtual result n) class = refl
      kept (entry.Attribute name given result) class = refl

      go : (new ≡ old) ⊎ (OfReferences old × ((class : DeclNo) × (new ≡ entry_to class old))) → is_procedure_entry new ≡ is_procedure_entry old
      go (inl q) = ap is_procedure_entry q
      go (inr q) = ap is_procedure_entry q.1.1 ∙ kept old q.1.0
