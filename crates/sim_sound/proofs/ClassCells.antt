-- The cells with which an object begins, and the actual parameters that fill some of them.
use Rattle.std.proofs.Common.{◌≡◌, ℕ, true, List, [], ◌∷◌, map, Option, Some, None, ◌⊎◌, inl, inr, ⊎_elim, refl, sym, ap, ◌∙◌, subst}
use Rattle.sim_base.specs.declared.numbering.DeclNo.{DeclNo}
use Rattle.sim_scope.specs.declared.types.Entry.{Entry}
use Rattle.sim_scope.specs.declared.types.Entry.TheVariants as entry
use Rattle.sim_scope.specs.declared.types.Formal.{Formal}
use Rattle.sim_scope.specs.declared.types.SimType.{SimType}
use Rattle.sim_scope.specs.Scopes.{entry_of}
use Rattle.sim_scope.specs.Source.{Source}
use Rattle.sim_values.specs.Plain.{initial}
use Rattle.sim_meaning.specs.Levels.{has_levels}
use Rattle.sim_meaning.specs.Objects.{attributes_from, constant_cell, filled_in, with_attribute}
use Rattle.sim_meaning.specs.Pending.{Declared, Held, Instances, Key, Of, Val, held, held_set, same_key}
use Rattle.sim_meaning.specs.Texts.{constant_of, kind_of_type, text}
use Rattle.sim_sound.specs.Held.{Among, IsFormal, Simply, entry_holds, first, held_by, key_holds, later}
use Rattle.sim_sound.specs.Typed.{ConstantHas, Distinct, FormalsAre}
use Rattle.sim_sound.proofs.Changes.{SetAt, cell_of, equal_same, held_now, held_stays, keys_set, same_equal, set_at, set_here, set_later, set_there}
use Rattle.sim_sound.proofs.Constants.{constant_names}
use Rattle.sim_sound.proofs.FirstCells.{SomeFine, ValsFine, first_value, held_kind, one_more}
use Rattle.sim_sound.proofs.Lists.{no_some}
use Rattle.sim_sound.proofs.Sound.{holds_of}
use Rattle.sim_sound.proofs.Values.{AllArrays, CellFine, CellsFine, KeyAmong, ValFine, first_key, key_of, later_key}

-- ---- keys

abbrev pub KeysDistinct : List Key → Type 0
KeysDistinct [] = Unit {0}
KeysDistinct (k ∷ ks) = (KeyAmong k ks → ⊥) × KeysDistinct ks

attribute_among : (s : Source) (d x : DeclNo) (e : Option Entry) (hs : List Held) (ds : List DeclNo) → (KeyAmong (Declared d.0) (map key_of hs) → Among d ds) → KeyAmong (Declared d.0) (map key_of (with_attribute s x e hs)) → Among d (x ∷ ds)
attribute_among s d x (Some (entry.Variable ty)) hs ds f a = one_more d x ds (Declared d.0) (map key_of hs) refl f (Declared x.0) refl a
attribute_among s d x (Some (entry.Constant ty)) hs ds f a = one_more d x ds (Declared d.0) (map key_of hs) refl f (Declared x.0) refl a
attribute_among s d x (Some (entry.Array ty n)) hs ds f a = one_more d x ds (Declared d.0) (map key_of hs) refl f (Declared x.0) refl a
attribute_among s d x (Some (entry.Formal g)) hs ds f a = one_more d x ds (Declared d.0) (map key_of hs) refl f (Declared x.0) refl a
attribute_among s d x (Some _) hs ds f a = later (f a)
attribute_among s d x None hs ds f a = later (f a)

-- the keys are those of the declarations
pub attributes_among : (s : Source) (d : DeclNo) (ds : List DeclNo) → KeyAmong (Declared d.0) (map key_of (attributes_from s ds)) → Among d ds
attributes_among s d [] a = elim a [ ]
attributes_among s d (x ∷ ds) a = attribute_among s d x (entry_of s.tables x) (attributes_from s ds) ds (attributes_among s d ds) a

attribute_distinct : (s : Source) (x : DeclNo) (e : Option Entry) (hs : List Held) → (KeyAmong (Declared x.0) (map key_of hs) → ⊥) → KeysDistinct (map key_of hs) → KeysDistinct (map key_of (with_attribute s x e hs))
attribute_distinct s x (Some (entry.Variable ty)) hs f a = (f, a)
attribute_distinct s x (Some (entry.Constant ty)) hs f a = (f, a)
attribute_distinct s x (Some (entry.Array ty n)) hs f a = (f, a)
attribute_distinct s x (Some (entry.Formal g)) hs f a = (f, a)
attribute_distinct s x (Some _) hs f a = a
attribute_distinct s x None hs f a = a

pub attributes_distinct : (s : Source) (ds : List DeclNo) → Distinct ds → KeysDistinct (map key_of (attributes_from s ds))
attributes_distinct s [] a = tt
attributes_distinct s (x ∷ ds) a = attribute_distinct s x (entry_of s.tables x) (attributes_from s ds) (λ k. a.0 (attributes_among s x ds k)) (attributes_distinct s ds a.1)

module _ (s : Source) (o : AllArrays) (m : Instances) (j k : ℕ) where
  -- ---- cells that wait for the values of formal parameters

  abbrev Awaits : List DeclNo → Key → Type 0
  Awaits ds key = (d : DeclNo) × (key ≡ Declared d.0) × Among d ds

  abbrev pub Waiting : List DeclNo → List Held → Type 0
  Waiting ds [] = Unit {0}
  Waiting ds (h ∷ hs) = (CellFine s o m j (key_holds s k h.key) h.value ⊎ Awaits ds h.key) × Waiting ds hs

  pub none_waits : (hs : List Held) → Waiting [] hs → CellsFine s o m j k hs
  none_waits [] a = tt
  none_waits (h ∷ hs) a = (⊎_elim (λ c. c) (λ w. nothing w.0 w.2) a.0, none_waits hs a.1)
    where
      nothing : (d : DeclNo) → Among d [] → CellFine s o m j (key_holds s k h.key) h.value
      nothing d a = elim a [ ]

  -- ---- the first cells

  module _ (has : has_levels (text s k) ≡ true) (fs : List DeclNo) where
    here : (d : DeclNo) (e : Option Entry) → entry_of s.tables d ≡ e → key_holds s k (Declared d.0) ≡ entry_holds s true e
    here d e at = ap (λ z. entry_holds s z (entry_of s.tables d)) has ∙ ap (entry_holds s true) at

    constant_fine : (d : DeclNo) (ty : SimType) → ConstantHas s d ty → CellFine s o m j (Some (Simply (kind_of_type ty))) (constant_cell (constant_of s d))
    constant_fine d ty c = subst (λ z. CellFine s o m j (Some (Simply (kind_of_type ty))) (constant_cell z)) (sym c.is) (c.of_type, constant_names s m d c.value c.is)

    attribute_first : (d : DeclNo) (e : Option Entry) (hs : List Held) → entry_of s.tables d ≡ e → (IsFormal e → Among d fs) → ((ty : SimType) → e ≡ Some (entry.Constant ty) → ConstantHas s d ty) → Waiting fs hs → Waiting fs (with_attribute s d e hs)
    attribute_first d (Some (entry.Variable ty)) hs e f c a =
        (inl (subst (λ z. CellFine s o m j z (Some (Of (initial (kind_of_type ty))))) (sym (here d (Some (entry.Variable ty)) e)) (cell_of s o m j (held_by s ty) (Of (initial (kind_of_type ty))) (first_value s o m j (kind_of_type ty) (held_by s ty) (held_kind s ty)))), a)
    attribute_first d (Some (entry.Constant ty)) hs e f c a = (inl (subst (λ z. CellFine s o m j z (constant_cell (constant_of s d))) (sym (here d (Some (entry.Constant ty)) e)) (constant_fine d ty (c ty refl))), a)
    attribute_first d (Some (entry.Array ty dimensions)) hs e f c a = (inl (subst (λ z. CellFine s o m j z None) (sym (here d (Some (entry.Array ty dimensions)) e)) tt), a)
    attribute_first d (Some (entry.Formal g)) hs e f c a = (inr (d, refl, f tt), a)
    attribute_first d (Some _) hs e f c a = a
    attribute_first d None hs e f c a = a

    pub attributes_first : (ds : List DeclNo) → ((d : DeclNo) → Among d ds → IsFormal (entry_of s.tables d) → Among d fs) → ((d : DeclNo) (ty : SimType) → Among d ds → entry_of s.tables d ≡ Some (entry.Constant ty) → ConstantHas s d ty) → Waiting fs (attributes_from s ds)
    attributes_first [] f c = tt
    attributes_first (d ∷ ds) f c = attribute_first d (entry_of s.tables d) (attributes_from s ds) refl (f d first) (λ ty e. c d ty first e) (attributes_first ds (λ x a. f x (later a)) (λ x ty a. c x ty (later a)))

  -- ---- a value comes

  module _ (d : DeclNo) (v : Val) (fine : CellFine s o m j (key_holds s k (Declared d.0)) (Some v)) (ds : List DeclNo) where
    waits_on : (hs : List Held) → (KeyAmong (Declared d.0) (map key_of hs) → ⊥) → Waiting (d ∷ ds) hs → Waiting ds hs
    waits_on [] f a = tt
    waits_on (h ∷ hs) f a = (⊎_elim (λ c. inl c) (λ w. other w.0 w.1 w.2) a.0, waits_on hs (λ b. f (later_key b)) a.1)
      where
        other : (c : DeclNo) → h.key ≡ Declared c.0 → Among c (d ∷ ds) → CellFine s o m j (key_holds s k h.key) h.value ⊎ Awaits ds h.key
        other _ e first = absurd (f (subst (λ z. KeyAmong z (h.key ∷ map key_of hs)) e first_key))
        other c e (later b) = inr (c, e, b)

    value_waits : (hs hs' : List Held) → held_set (Declared d.0) v hs ≡ Some hs' → KeysDistinct (map key_of hs) → Waiting (d ∷ ds) hs → Waiting ds hs'
    value_waits [] hs' e apart a = absurd (cc)
    value_waits (h ∷ hs) hs' e apart a = by_set (λ rest f. value_waits hs rest f apart.1 a.1) (set_at (Declared d.0) v h hs hs' e)
      where
        by_set : ((rest : List Held) → held_set (Declared d.0) v hs ≡ Some rest → Waiting ds rest) → SetAt (Declared d.0) v h hs hs' → Waiting ds hs'
        by_set ih (set_here b is) =
            let same : h.key ≡ Declared d.0 = same_equal h.key (Declared d.0) b in
            subst (Waiting ds) (sym is) (inl (subst (λ z. CellFine s o m j (key_holds s k z) (Some v)) (sym same) fine), waits_on hs (λ c. apart.0 (subst (λ z. KeyAmong z (map key_of hs)) (sym same) c)) a.1)
        by_set ih (set_later rest b f is) = subst (Waiting ds) (sym is) (⊎_elim (λ c. inl c) (λ w. other w.0 w.1 w.2) a.0, ih rest f)
          where
            other : (c : DeclNo) → h.key ≡ Declared c.0 → Among c (d ∷ ds) → CellFine s o m j (key_holds s k h.key) h.value ⊎ Awaits ds h.key
            other _ e first = absurd (let yes : same_key h.key (Declared d.0) ≡ true = subst (λ z. same_key z (Declared d.0) ≡ true) (sym e) (equal_same (Declared d.0)) in cc)
            other c e (later x) = inr (c, e, x)

  -- ---- all values

  pub record FilledIn (values : List Val) (hs : List Held) (ds : List DeclNo) : Type 0 where
    pub cells : List Held
    pub filled_is : filled_in values (Some hs) ds ≡ Some cells
    pub same_keys : map key_of cells ≡ map key_of hs
    pub waits : Waiting [] cells
    pub got : (d : DeclNo) → Among d ds → held (Declared d.0) cells ≡ None → ⊥
    pub holds : (key : Key) → held key cells ≡ None → held key hs ≡ None

  pub fill : (ds : List DeclNo) (fs : List Formal) (vs : List Val) (hs : List Held) → FormalsAre s ds fs → ValsFine s o m j k (holds_of s fs) vs → ((d : DeclNo) → Among d ds → KeyAmong (Declared d.0) (map key_of hs)) → KeysDistinct (map key_of hs) → Waiting ds hs → FilledIn vs hs ds
  fill [] [] [] hs a b there apart w = record { cells = hs; filled_is = refl; same_keys = refl; waits = w; got = λ d c. nothing d c; holds = λ key e. e }
    where
      nothing : (d : DeclNo) → Among d [] → held (Declared d.0) hs ≡ None → ⊥
      nothing d c = elim c [ ]
  fill [] [] (v ∷ vs) hs a b there apart w = absurd b
  fill [] (f ∷ fs) vs hs a b there apart w = absurd a
  fill (d ∷ ds) [] vs hs a b there apart w = absurd a
  fill (d ∷ ds) (f ∷ fs) [] hs a b there apart w = absurd b
  fill (d ∷ ds) (f ∷ fs) (v ∷ vs) hs a b there apart w =
      let key : key_holds s k (Declared d.0) ≡ Some a.0 = ap (entry_holds s (has_levels (text s k))) a.1 ∙ a.2 in
      let value : ValFine s o m j a.0 v = subst (λ z. SomeFine s o m j k z v) a.2 b.0 in
      let fine : CellFine s o m j (key_holds s k (Declared d.0)) (Some v) = subst (λ z. CellFine s o m j z (Some v)) (sym key) (cell_of s o m j a.0 v value) in
      let r = set_there (Declared d.0) v hs (there d first) in
      let keys : map key_of r.0 ≡ map key_of hs = keys_set (Declared d.0) v hs r.0 r.1 in
      let rest = fill ds fs vs r.0 a.3 b.1 (λ c x. subst (KeyAmong (Declared c.0)) (sym keys) (there c (later x))) (subst KeysDistinct (sym keys) apart) (value_waits d v fine ds hs r.0 r.1 apart w) in
      record {
        cells = rest.cells;
        filled_is = ap (λ z. filled_in vs z ds) r.1 ∙ rest.filled_is;
        same_keys = rest.same_keys ∙ keys;
        waits = rest.waits;
        got = λ c x e. got_one r.0 r.1 rest.cells rest.holds rest.got c x e;
        holds = λ z e. held_stays (Declared d.0) v z hs r.0 r.1 (rest.holds z e);
      }
    where
      got_one : (hs' : List Held) → held_set (Declared d.0) v hs ≡ Some hs' → (cells : List Held) → ((key : Key) → held key cells ≡ None → held key hs' ≡ None) → ((c : DeclNo) → Among c ds → held (Declared c.0) cells ≡ None → ⊥) → (c : DeclNo) → Among c (d ∷ ds) → held (Declared c.0) cells ≡ None → ⊥
      got_one hs' is cells back more _ first e = no_some (held (Declared d.0) hs') v (back (Declared d.0) e) (held_now (Declared d.0) v hs hs' is)
      got_one hs' is cells back more c (later x) e = more c x e
