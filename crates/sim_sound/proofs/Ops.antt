-- The operators of expressions and assignments.
use Rattle.std.proofs.Common.{false, ◌≡◌, ℕ, true, List, [], ◌∷◌, length, map, Option, Some, None, ◌⊎◌, inl, inr, ⊎_elim, refl, sym, ap, ◌∙◌, subst}
use Rattle.sim_base.specs.declared.limits.Limits.{Limits}
use Rattle.sim_base.specs.declared.numbering.DeclNo.{DeclNo}
use Rattle.sim_scope.specs.Source.{Source}
use Rattle.sim_values.specs.declared.kind.Kind.{Kind}
use Rattle.sim_values.specs.declared.kind.Kind.TheVariants as kind
use Rattle.sim_values.specs.declared.value.TextVal.{TextVal}
use Rattle.sim_values.specs.Plain.{Plain, Text, Integer}
use Rattle.sim_values.specs.Store.{Store, image_at, with_image}
use Rattle.sim_values.specs.Texts.{same_text}
use Rattle.sim_code.specs.Arrays.{element, element_set, element_set_in}
use Rattle.sim_code.specs.Events.{having, image_moved, image_set, image_value, putting_back, text_of}
use Rattle.sim_code.specs.Instances.{CellPlace, ElementPlace, ImagePlace, with_instance, Instance, live}
use Rattle.sim_code.specs.Outcome.{ArrayOf as OneArray, Run, World}
use Rattle.sim_meaning.specs.Pending.{Activation, Address, ArrayValue, cell, cell_set, Configuration, Declared, Held, held, held_set, Instances, Item, Key, Link, Of, place_in, plain, ProcedureValue, Actual, Val, variable_in, Origin}
use Rattle.sim_meaning.specs.Steps.{go, of_plain, put_back, putting, value_at}
use Rattle.sim_meaning.specs.Objects.{putting_reference}
use Rattle.sim_meaning.specs.Texts.{text}
use Rattle.sim_sound.specs.Held.{ByName, Among, ArrayOf, Fits, Holds, Refers, Simply, first, key_holds, later, Procedure}
use Rattle.sim_sound.specs.Typed.{Typed}
use Rattle.sim_sound.proofs.Cells.{lies_cell, val_up, cell_put, own_key, plain_anywhere}
use Rattle.sim_sound.proofs.Changes.{ElementsFine, changed, copies_element, elements_changed, held_now, held_stays, keys_set, later_element, new}
use Rattle.sim_sound.proofs.Evals.{IsFine, Work, goes_on}
use Rattle.sim_sound.proofs.Fitting.{plain_val, val_fits}
use Rattle.sim_sound.proofs.Later.{All, AllCopies, AnySeat, Copies, Later, all_apart, fine_later, hands_later, instance_later, kept_all, own_later, present_later, seated_later, steady_same, work_later}
use Rattle.sim_sound.proofs.Lifts.{Goes, had, ran}
use Rattle.sim_sound.proofs.Names.{AllBack, element_there, image_there}
use Rattle.sim_sound.proofs.Lists.{if_true, no_some, set_len}
use Rattle.sim_sound.proofs.Members.{MembersFine}
use Rattle.sim_sound.proofs.Moves.{SameOnes, later_cell, operates_on, same_cell, same_ones, set_lives, store_cell}
use Rattle.sim_sound.proofs.Prefixes.{LevelOf, same_is}
use Rattle.sim_sound.proofs.References.{held_reference_goes}
use Rattle.sim_sound.proofs.Running.{Begun, ChainFine, Operates, SeatedFor, StoreFine, WorkFine}
use Rattle.sim_sound.proofs.Simulated.{SimulationsFine}
use Rattle.sim_sound.proofs.Sound.{Leads, OperandIs}
use Rattle.sim_sound.proofs.Values.{CellLies, Whichever, ObjectIn, AddressOf, AllArrays, Component, Copied, ElementFine, HandFine, HandsFine, ImageAddress, IsPlain, KeyAmong, Kinds, Lasting, LinkTo, Made, Marks, PlainFine, Present, ReferenceAddress, ValFine, Value, Waits, at_seat, key_of, keys_in, own_text, see, Checked, ForFormal, NewObject}
use Rattle.std.specs.Prelude.{ℤ}

among_cases : (e : DeclNo) (xs : List DeclNo) → Among e xs → (d : DeclNo) (ds : List DeclNo) → xs ≡ d ∷ ds → (e ≡ d) ⊎ Among e ds
among_cases e xs (first {ds = es}) d ds f = inl (cc)
among_cases e xs (later {e = x} {ds = es} a) d ds f = inr (subst (Among e) (let g : es ≡ ds = cc in g) a)

abbrev pub with_arrays : World → List OneArray → World
with_arrays o a = record o { arrays = a }

-- a store with other arrays
pub store_with : (s : Source) (o o' : AllArrays) (m : Instances) → Later s o m o' m All → o'.beneath ≡ o.beneath → o'.waiting ≡ o.waiting → AllCopies o o' → ElementsFine s o' m → MembersFine s o'.members m → SimulationsFine s o'.simulations m → StoreFine s o m → StoreFine s o' m
store_with s o o' m e same waits copies fine members simulations store = record {
  instances = λ j x lives. instance_later s o m o' m All e j x tt (store.instances j x lives);
  elements = fine;
  kept = kept_all s o m o' m e refl waits copies store.kept;
  noted = ap length same ∙ store.noted;
  members = members;
  simulations = simulations;
}

module _ (s : Source) (ok : Typed s) (l : Limits) (o : World) (g : Marks) (long : length g.sights ≡ length o.arrays) (m : Instances) (i t : ℕ) (rest : List Activation) (top : Operates g.beneath g.seat m i rest) where
  abbrev Wk : List Item → List DeclNo → List Kinds → Type 0
  Wk w todo ks = Work s o g long m i t rest top w todo ks

  abbrev Hd : List Kinds → List Val → Type 0
  Hd ks vals = HandsFine s (see g o) m i ks vals

  abbrev Go : Run Configuration → Type 0
  Go r = Goes (IsFine s) r

  abbrev Bg : List DeclNo → Type 0
  Bg todo = Begun s (see g o) m i t todo

  -- where a store is later, with all else as it was
  module _ (g' : Marks) (o' : World) (longer : length g'.sights ≡ length o'.arrays) (under : g'.beneath ≡ g.beneath) (waits : g'.waiting ≡ g.waiting) (seats : g'.seat ≡ g.seat) (n : Instances) (e : Later s (see g o) m (see g' o') n All) (copies : AllCopies (see g o) (see g' o')) (same : SameOnes m n) (store : StoreFine s (see g' o') n) where
    below_later : (v : Waits) → ChainFine s (see g o) m rest v → ChainFine s (see g' o') n rest v
    below_later v c = fine_later s (see g o) m (see g' o') n All e AnySeat (λ q j d k ok. copies q j d) (λ j k. steady_same (see g o) m (see g' o') n same.standings waits j) rest (all_apart None rest) (all_apart None rest) v c

    pub later_work : (w : List Item) (todo : List DeclNo) (ks : List Kinds) → Wk w todo ks → WorkFine s (see g' o') n (λ v. ChainFine s (see g' o') n rest v) (rest ≡ []) i t w todo ks
    later_work w todo ks a = work_later s (see g o) m (see g' o') n All e i t tt seats (λ own. (steady_same (see g o) m (see g' o') n same.standings waits i).1) (rest ≡ []) (rest ≡ []) (λ z. z) (λ v. ChainFine s (see g o) m rest v) (λ v. ChainFine s (see g' o') n rest v) below_later w todo ks a

    pub later_hands : (ks : List Kinds) (vals : List Val) → Hd ks vals → HandsFine s (see g' o') n i ks vals
    later_hands ks vals h = hands_later s (see g o) m (see g' o') n All e i tt ks vals (subst (λ q. Copies (see g o) (at_seat (see g' o') q) i (length vals)) (sym seats) (copies g.seat i (length vals))) h

    pub later_works : SeatedFor (see g o) m g.seat i → SeatedFor (see g' o') n g'.seat i
    later_works a = subst (λ q. SeatedFor (see g' o') n q i) (sym seats) (seated_later s (see g o) m (see g' o') n All e g.seat i tt a)

    pub later_with : (w : List Item) (vals : List Val) (todo' : List DeclNo) (ks : List Kinds) → (p : Present s n i t todo') → (p.now).text ≡ t → SeatedFor (see g o) m g.seat i → HandsFine s (see g' o') n i ks vals → Wk w todo' ks → IsFine s o' (record { chain = record { instance = i; work = w; values = vals } ∷ rest; memory = n })
    later_with w vals todo' ks p own works h work = goes_on s o' g' longer n i t rest (subst (λ q. Operates g'.beneath q n i rest) (sym seats) (subst (λ z. Operates z g.seat n i rest) (sym under) (operates_on g.beneath g.seat m n i rest same top))) w vals todo' ks (record { store = store; here = p; own = own; works = later_works works }) h (later_work w todo' ks work)

    pub later_goes : (w : List Item) (vals : List Val) (todo : List DeclNo) (ks : List Kinds) → Bg todo → Hd ks vals → Wk w todo ks → IsFine s o' (record { chain = record { instance = i; work = w; values = vals } ∷ rest; memory = n })
    later_goes w vals todo ks b h work = later_with w vals todo ks (present_later s (see g o) m (see g' o') n All e i t todo tt b.here) (own_later s (see g o) m (see g' o') n All e i t todo tt b.here ∙ b.own) b.works (later_hands ks vals h) work

  -- arrays stay as they are
  pub same_copies : AllCopies (see g o) (see g o)
  same_copies q j d e k a less f = f

  -- ---- a cell is set

  pub set_goes : (j : ℕ) (key : Key) (q : Holds) (v : Val) (w : List Item) (vals : List Val) (todo : List DeclNo) (ks : List Kinds) → CellLies s (see g o) m i j key q → IsPlain q → ValFine s (see g o) m i q v → Bg todo → Hd ks vals → Wk w todo ks → Go (having (cell_set m j key v) o (λ m. go o m i w vals rest))
  set_goes j key q v w vals todo ks c flat fine b h work =
      let p = c.here in
      let x = p.now in
      let f = b.store.instances j x p.lives in
      let at : LevelOf s x.text c.around = own_key s x c.around key p.stands c.there in
      let holds : key_holds s x.text key ≡ Some q = f.holds c.around at key c.there ∙ c.holds in
      let r = cell_put s m j x key v p.lives (f.keys c.around at key c.there) in
      had (IsFine s) (cell_set m j key v) (with_instance m j (record x { cells = r.0 })) o (λ m. go o m i w vals rest) r.2
      (later_goes g o long refl refl refl (with_instance m j (record x { cells = r.0 })) (later_cell s (see g o) m j x p.lives key v r.0 r.1) same_copies (same_cell s (see g o) m j x p.lives key v r.0 r.1)
      (store_cell s (see g o) m j x p.lives key v r.0 r.1 q holds (plain_anywhere s (see g o) m i j q v flat fine) b.store) w vals todo ks b h work)

  -- an object of `process` itself keeps where it was generated
  pub origin_goes : (j : ℕ) (z : ℤ) (x : Instance (List Held)) (lives : live m j ≡ Some x) → KeyAmong Origin (map key_of x.cells) → (w : List Item) (vals : List Val) (todo : List DeclNo) (ks : List Kinds) → Bg todo → Hd ks vals → Wk w todo ks → Go (having (cell_set m j Origin (Of (Integer z))) o (λ m. go o m i w vals rest))
  origin_goes j z x lives there w vals todo ks b h work =
      let r = cell_put s m j x Origin (Of (Integer z)) lives there in
      had (IsFine s) (cell_set m j Origin (Of (Integer z))) (with_instance m j (record x { cells = r.0 })) o (λ m. go o m i w vals rest) r.2
      (later_goes g o long refl refl refl (with_instance m j (record x { cells = r.0 })) (later_cell s (see g o) m j x lives Origin (Of (Integer z)) r.0 r.1) same_copies (same_cell s (see g o) m j x lives Origin (Of (Integer z)) r.0 r.1)
      (store_cell s (see g o) m j x lives Origin (Of (Integer z)) r.0 r.1 (Simply kind.Integer) refl (refl, tt) b.store) w vals todo ks b h work)

  made_now : (t : ℕ) (todo todo' : List DeclNo) (d : DeclNo) (v : Val) (hs cells : List Held) → held_set (Declared d.0) v hs ≡ Some cells → todo ≡ d ∷ todo' → Made s t todo hs → Made s t todo' cells
  made_now t todo todo' d v hs cells set is made u at e k holds in_text none =
      ⊎_elim
      (λ same. let now = held_now (Declared d.0) v hs cells set in let there : held (Declared d.0) cells ≡ None = ap (λ z. held (Declared z.0) cells) (sym same) ∙ none in absurd (no_some (held (Declared d.0) cells) v there now))
      (λ a. a)
      (among_cases e todo (made u at e k holds in_text (held_stays (Declared d.0) v (Declared e.0) hs cells set none)) d todo' is)

  pub stored_array : (d : DeclNo) (k : Holds) (v : Val) (w : List Item) (vals : List Val) (todo todo' : List DeclNo) (ks : List Kinds) (u : ℕ) → LevelOf s t u → key_holds s u (Declared d.0) ≡ Some (ArrayOf k) → KeyAmong (Declared d.0) (keys_in s u (text s u)) → todo ≡ d ∷ todo' → ValFine s (see g o) m i (ArrayOf k) v → Bg todo → Hd ks vals → Wk w todo' ks → Go (having (cell_set m i (Declared d.0) v) o (λ m. go o m i w vals rest))
  stored_array d k v w vals todo todo' ks u level holds there is fine b h work =
      let p = b.here in
      let x = p.now in
      let f = b.store.instances i x p.lives in
      let at : LevelOf s x.text u = subst (λ z. LevelOf s z u) (sym b.own) level in
      let r = cell_put s m i x (Declared d.0) v p.lives (f.keys u at (Declared d.0) there) in
      let n = with_instance m i (record x { cells = r.0 }) in
      let e = later_cell s (see g o) m i x p.lives (Declared d.0) v r.0 r.1 in
      let same = same_cell s (see g o) m i x p.lives (Declared d.0) v r.0 r.1 in
      let store = store_cell s (see g o) m i x p.lives (Declared d.0) v r.0 r.1 (ArrayOf k) (f.holds u at (Declared d.0) there ∙ holds) fine b.store in
      let keys : (key : Key) → KeyAmong key (map key_of x.cells) → KeyAmong key (map key_of r.0) = λ key a. subst (KeyAmong key) (sym (keys_set (Declared d.0) v x.cells r.0 r.1)) a in
      let stays : (key : Key) → held key r.0 ≡ None → held key x.cells ≡ None = λ key a. held_stays (Declared d.0) v key x.cells r.0 r.1 a in
      had (IsFine s) (cell_set m i (Declared d.0) v) n o (λ m. go o m i w vals rest) r.2
      (later_with g o long refl refl refl n e same_copies same store w vals todo' ks (record {
        now = record x { cells = r.0 };
        lives = set_lives s (see g o) m i x p.lives r.0 keys stays;
        stands = own_text (same_is s x.text t b.own);
        words = p.words;
        has_text = p.has_text;
        made = made_now x.text todo todo' d v x.cells r.0 r.1 is p.made;
      }) b.own b.works (later_hands g o long refl refl refl n e same_copies same store ks vals h) work)

  -- ---- an element is set

  pub put_element : (a n : ℕ) (h0 : Holds) (p : Plain) (w : List Item) (vals : List Val) (todo : List DeclNo) (ks : List Kinds) → (f : ElementFine (see g o) m i h0 a n) → PlainFine s m h0 p → Bg todo → Hd ks vals → Wk w todo ks → Go (having (element_set o a n p) o (λ o. go o m i w vals rest))
  put_element a n h0 p w vals todo ks f is b h work =
      let q = element_there s g o m i a n h0 b.store f in
      let now = changed (see g o) m i h0 a n p f in
      let e = later_element (see g o) m i h0 a n p f s in
      let set : element_set o a n p ≡ Some (with_arrays o now.real) = ap (λ z. element_set_in o a n p z (element o a n)) (f.array).lives ∙ ap (λ z. element_set_in o a n p (Some (f.array).it) z) q.1 in
      had (IsFine s) (element_set o a n p) (with_arrays o now.real) o (λ o. go o m i w vals rest) set
      (later_goes g (with_arrays o now.real) (long ∙ sym (set_len o.arrays a (new (see g o) m i h0 a n p f))) refl refl refl m e (copies_element (see g o) m i h0 a n p f) (same_ones m)
      (store_with s (see g o) now m e refl refl (copies_element (see g o) m i h0 a n p f) (elements_changed (see g o) m i h0 a n p f s is b.store.elements) b.store.members b.store.simulations b.store) w vals todo ks b h work)

  pub putting_goes : (q : Holds) (p v : Val) (w : List Item) (vals : List Val) (todo : List DeclNo) (ks : List Kinds) → IsPlain q → HandFine s (see g o) m i (AddressOf q) p → ValFine s (see g o) m i q v → Bg todo → Hd ks vals → Wk w todo ks → Go (having (variable_in p) o (λ p. putting p v o m (λ o m. go o m i w vals rest)))
  unfolding putting
  putting_goes q (Address (ElementPlace a n None)) v w vals todo ks flat f is b h work =
      had (IsFine s) (Some (ElementPlace a n None)) (ElementPlace a n None) o (λ z. putting z v o m (λ o m. go o m i w vals rest)) refl (by_value q v flat f is)
    where
      by_value : (q : Holds) (v : Val) → IsPlain q → ElementFine (see g o) m i q a n → ValFine s (see g o) m i q v → Go (having (plain v) o (λ p. having (element_set o a n p) o (λ o. go o m i w vals rest)))
      by_value (Simply k) (Of p) flat f is = had (IsFine s) (Some p) p o (λ p. having (element_set o a n p) o (λ o. go o m i w vals rest)) refl (put_element a n (Simply k) p w vals todo ks f is b h work)
      by_value (Refers c) (Of p) flat f is = had (IsFine s) (Some p) p o (λ p. having (element_set o a n p) o (λ o. go o m i w vals rest)) refl (put_element a n (Refers c) p w vals todo ks f is b h work)
      by_value (Simply k) _ flat f is = absurd is
      by_value (Refers c) _ flat f is = absurd is
      by_value (ArrayOf k) v flat f is = absurd flat
      by_value (Procedure k) v flat f is = absurd flat
      by_value (ByName k) v flat f is = absurd flat
  putting_goes q (Address (CellPlace e key None)) v w vals todo ks flat c is b h work =
      had (IsFine s) (Some (CellPlace e key None)) (CellPlace e key None) o (λ z. putting z v o m (λ o m. go o m i w vals rest)) refl (set_goes e key q v w vals todo ks c flat is b h work)
  putting_goes q (Address (ElementPlace a n (Some c))) v w vals todo ks flat f is b h work = absurd f
  putting_goes q (Address (CellPlace a n (Some c))) v w vals todo ks flat f is b h work = absurd f
  putting_goes q (Address (ImagePlace a)) v w vals todo ks flat f is b h work = absurd f
  putting_goes q (Of z) v w vals todo ks flat f is b h work = absurd f
  putting_goes q (Link z) v w vals todo ks flat f is b h work = absurd f
  putting_goes q (ArrayValue z) v w vals todo ks flat f is b h work = absurd f
  putting_goes q (ProcedureValue z y) v w vals todo ks flat f is b h work = absurd f
  putting_goes q (Actual home pr z) v w vals todo ks flat f is b h work = absurd f

  -- a reference is put where an address leads, if it is none or in the class there
  pub putting_reference_goes : (c line : ℕ) (v : Val) (p : Plain) (w : List Item) (vals : List Val) (todo : List DeclNo) (ks : List Kinds) → HandFine s (see g o) m i (ReferenceAddress c) v → PlainFine s m (Simply kind.Reference) p → Bg todo → Hd ks vals → Wk w todo ks → Go (having (place_in v) o (λ place. putting_reference s line place p o m (λ o m. go o m i w vals rest)))
  unfolding putting_reference
  putting_reference_goes c line (Address (ElementPlace a n (Some k))) p w vals todo ks f is b h work =
      had (IsFine s) (Some (ElementPlace a n (Some k))) (ElementPlace a n (Some k)) o (λ place. putting_reference s line place p o m (λ o m. go o m i w vals rest)) refl
      (held_reference_goes (IsFine s) s m ok k line p o (having (element_set o a n p) o (λ o. go o m i w vals rest)) is (λ fine. put_element a n (Refers c) p w vals todo ks f.1 (subst (λ z. PlainFine s m (Refers z) p) f.0 fine) b h work))
  putting_reference_goes c line (Address (CellPlace e key (Some k))) p w vals todo ks f is b h work =
      had (IsFine s) (Some (CellPlace e key (Some k))) (CellPlace e key (Some k)) o (λ place. putting_reference s line place p o m (λ o m. go o m i w vals rest)) refl
      (held_reference_goes (IsFine s) s m ok k line p o (having (cell_set m e key (Of p)) o (λ m. go o m i w vals rest)) is (λ fine. set_goes e key (Refers c) (Of p) w vals todo ks f.1 tt (subst (λ z. PlainFine s m (Refers z) p) f.0 fine) b h work))
  putting_reference_goes c line (Address (ElementPlace a n None)) p w vals todo ks f is b h work = absurd f
  putting_reference_goes c line (Address (CellPlace a n None)) p w vals todo ks f is b h work = absurd f
  putting_reference_goes c line (Address (ImagePlace a)) p w vals todo ks f is b h work = absurd f
  putting_reference_goes c line (Of z) p w vals todo ks f is b h work = absurd f
  putting_reference_goes c line (Link z) p w vals todo ks f is b h work = absurd f
  putting_reference_goes c line (ArrayValue z) p w vals todo ks f is b h work = absurd f
  putting_reference_goes c line (ProcedureValue z y) p w vals todo ks f is b h work = absurd f
  putting_reference_goes c line (Actual home pr z) p w vals todo ks f is b h work = absurd f

  -- what is read where an address leads
  read_goes : (q' q : Holds) (v : Val) (w : List Item) (vals : List Val) (todo : List DeclNo) (ks : List Kinds) → Fits s q' q → ValFine s (see g o) m i q' v → Bg todo → Hd ks vals → Wk w todo (Value q ∷ ks) → IsFine s o (record { chain = record { instance = i; work = w; values = v ∷ vals } ∷ rest; memory = m })
  read_goes q' q v w vals todo ks fits fine b h work = goes_on s o g long m i t rest top w (v ∷ vals) todo (Value q ∷ ks) b (val_fits s ok (see g o) m b.store i q' q v fits fine, h) work

  abbrev fetching : Val → List Item → List Val → Run Configuration
  fetching v w vals = having (place_in v) o (λ p. having (value_at o m p) o (λ v. go o m i w (v ∷ vals) rest))

  element_fetched : (q q' : Holds) (a n : ℕ) (class : Option ℕ) (w : List Item) (vals : List Val) (todo : List DeclNo) (ks : List Kinds) → Fits s q' q → ElementFine (see g o) m i q' a n → Bg todo → Hd ks vals → Wk w todo (Value q ∷ ks) → Go (fetching (Address (ElementPlace a n class)) w vals)
  element_fetched q q' a n class w vals todo ks is f b h work =
      let x = element_there s g o m i a n q' b.store f in
      had (IsFine s) (Some (ElementPlace a n class)) (ElementPlace a n class) o (λ p. having (value_at o m p) o (λ v. go o m i w (v ∷ vals) rest)) refl
      (had (IsFine s) (of_plain (element o a n)) (Of x.0) o (λ v. go o m i w (v ∷ vals) rest) (ap of_plain x.1) (read_goes q' q (Of x.0) w vals todo ks is (plain_val s (see g o) m i q' x.0 x.2) b h work))

  cell_fetched : (q q' : Holds) (e : ℕ) (key : Key) (class : Option ℕ) (w : List Item) (vals : List Val) (todo : List DeclNo) (ks : List Kinds) → Fits s q' q → CellLies s (see g o) m i e key q' → Bg todo → Hd ks vals → Wk w todo (Value q ∷ ks) → Go (fetching (Address (CellPlace e key class)) w vals)
  cell_fetched q q' e key class w vals todo ks is c b h work =
      let x = lies_cell s (see g o) m i e key q' b.store c in
      had (IsFine s) (Some (CellPlace e key class)) (CellPlace e key class) o (λ p. having (value_at o m p) o (λ v. go o m i w (v ∷ vals) rest)) refl
      (had (IsFine s) (cell m e key) x.0 o (λ v. go o m i w (v ∷ vals) rest) x.1 (read_goes q' q x.0 w vals todo ks is (val_up s (see g o) m i e c.near q' x.0 x.2) b h work))

  pub fetched_goes : (q : Holds) (x : Kinds) (v : Val) (w : List Item) (vals : List Val) (todo : List DeclNo) (ks : List Kinds) → Leads s x q → HandFine s (see g o) m i x v → Bg todo → Hd ks vals → Wk w todo (Value q ∷ ks) → Go (having (place_in v) o (λ p. having (value_at o m p) o (λ v. go o m i w (v ∷ vals) rest)))
  fetched_goes q (AddressOf q') (Address (ElementPlace a n None)) w vals todo ks is f b h work = element_fetched q q' a n None w vals todo ks is f b h work
  fetched_goes q (AddressOf q') (Address (CellPlace e key None)) w vals todo ks is c b h work = cell_fetched q q' e key None w vals todo ks is c b h work
  fetched_goes q ImageAddress (Address (ImagePlace n)) w vals todo ks is f b h work =
      let x = image_there o.store n f in
      had (IsFine s) (Some (ImagePlace n)) (ImagePlace n) o (λ p. having (value_at o m p) o (λ v. go o m i w (v ∷ vals) rest)) refl
      (had (IsFine s) (of_plain (image_value o n)) (Of (Text x.0)) o (λ v. go o m i w (v ∷ vals) rest) (ap (λ z. of_plain (text_of z)) x.1) (goes_on s o g long m i t rest top w (Of (Text x.0) ∷ vals) todo (Value q ∷ ks) b (subst (λ z. ValFine s (see g o) m i z (Of (Text x.0))) (sym is) (refl, tt), h) work))
  fetched_goes q (AddressOf q') (Address (ElementPlace a n (Some c))) w vals todo ks is f b h work = absurd f
  fetched_goes q (AddressOf q') (Address (CellPlace a n (Some c))) w vals todo ks is f b h work = absurd f
  fetched_goes q (AddressOf q') (Address (ImagePlace a)) w vals todo ks is f b h work = absurd f
  fetched_goes q (AddressOf q') (Of z) w vals todo ks is f b h work = absurd f
  fetched_goes q (AddressOf q') (Link z) w vals todo ks is f b h work = absurd f
  fetched_goes q (AddressOf q') (ArrayValue z) w vals todo ks is f b h work = absurd f
  fetched_goes q (AddressOf q') (ProcedureValue z y) w vals todo ks is f b h work = absurd f
  fetched_goes q (AddressOf q') (Actual home pr z) w vals todo ks is f b h work = absurd f
  fetched_goes q ImageAddress (Address (ElementPlace a n c)) w vals todo ks is f b h work = absurd f
  fetched_goes q ImageAddress (Address (CellPlace a n c)) w vals todo ks is f b h work = absurd f
  fetched_goes q ImageAddress (Of z) w vals todo ks is f b h work = absurd f
  fetched_goes q ImageAddress (Link z) w vals todo ks is f b h work = absurd f
  fetched_goes q ImageAddress (ArrayValue z) w vals todo ks is f b h work = absurd f
  fetched_goes q ImageAddress (ProcedureValue z y) w vals todo ks is f b h work = absurd f
  fetched_goes q ImageAddress (Actual home pr z) w vals todo ks is f b h work = absurd f
  fetched_goes q (Value z) v w vals todo ks is f b h work = absurd is
  fetched_goes q (Copied z) v w vals todo ks is f b h work = absurd is
  fetched_goes q (LinkTo z) v w vals todo ks is f b h work = absurd is
  fetched_goes q (Lasting z) v w vals todo ks is f b h work = absurd is
  fetched_goes q Component v w vals todo ks is f b h work = absurd is
  fetched_goes q (ObjectIn z) v w vals todo ks is f b h work = absurd is
  fetched_goes q (NewObject z) v w vals todo ks is f b h work = absurd is
  fetched_goes q (Checked es z) v w vals todo ks is f b h work = absurd is
  fetched_goes q (ForFormal z) v w vals todo ks is f b h work = absurd is
  fetched_goes q (ReferenceAddress z) v w vals todo ks is f b h work = absurd is
  fetched_goes q (Whichever true z) v w vals todo ks is f b h work = absurd is
  fetched_goes q (Whichever false z) (Address (ElementPlace a n None)) w vals todo ks is f b h work = element_fetched q (Simply z) a n None w vals todo ks (subst (Fits s (Simply z)) (sym is) refl) f.1 b h work
  fetched_goes q (Whichever false z) (Address (CellPlace e key None)) w vals todo ks is f b h work = cell_fetched q (Simply z) e key None w vals todo ks (subst (Fits s (Simply z)) (sym is) refl) f.1 b h work
  fetched_goes q (Whichever false z) (Address (ElementPlace a n (Some c))) w vals todo ks is f b h work = element_fetched q (Refers c) a n (Some c) w vals todo ks (subst (Fits s (Refers c)) (sym is) (sym f.0)) f.1 b h work
  fetched_goes q (Whichever false z) (Address (CellPlace e key (Some c))) w vals todo ks is f b h work = cell_fetched q (Refers c) e key (Some c) w vals todo ks (subst (Fits s (Refers c)) (sym is) (sym f.0)) f.1 b h work
  fetched_goes q (Whichever false z) (Address (ImagePlace n)) w vals todo ks is f b h work = absurd f
  fetched_goes q (Whichever false z) _ w vals todo ks is f b h work = absurd f

-- ---- a text that is put back to where it came from

module _ (s : Source) (ok : Typed s) (l : Limits) (o : World) (g : Marks) (long : length g.sights ≡ length o.arrays) (m : Instances) (i t : ℕ) (rest : List Activation) (top : Operates g.beneath g.seat m i rest) (ticks words : ℕ) (store : Store) (w : List Item) (vals : List Val) (todo : List DeclNo) (ks : List Kinds) (b : Begun s (see g o) m i t todo) (h : HandsFine s (see g o) m i ks vals) (work : Work s o g long m i t rest top w todo ks) where
  -- the world then
  abbrev Then : World
  Then = record (ran o ticks words) { store = store }

  stays_on : Goes (IsFine s) (go Then m i w vals rest)
  stays_on = goes_on s o g long m i t rest top w vals todo ks b h work

  text_there : (q : Holds) (x : TextVal) → q ≡ Simply kind.Text → ValFine s (see g Then) m i q (Of (Text x))
  text_there q x is = subst (λ z. ValFine s (see g Then) m i z (Of (Text x))) (sym is) (refl, tt)

  text_plain : (q : Holds) → q ≡ Simply kind.Text → IsPlain q
  text_plain q is = subst IsPlain (sym is) tt

  no_reference : (k : Kind) → k ≡ kind.Text → k ≡ kind.Reference → ⊥
  no_reference k e f = cc

  put_text : (v : Val) (x : TextVal) (from : Kinds) → OperandIs kind.Text from → HandFine s (see g o) m i from v → ((n : ℕ) → v ≡ Address (ImagePlace n) → (y : TextVal) × (image_at store n ≡ Some y) × (same_text y x ≡ true)) → Goes (IsFine s) (put_back v x Then m (λ p m. go p m i w vals rest))
  unfolding put_back putting having
  put_text (Of p) x from is a image = stays_on
  put_text (Link z) x from is a image = stays_on
  put_text (ArrayValue z) x from is a image = stays_on
  put_text (ProcedureValue z y) x from is a image = stays_on
  put_text (Actual home pr z) x from is a image = stays_on
  put_text (Address (ElementPlace n e None)) x (AddressOf q) is a image = putting_goes s ok l Then g long m i t rest top q (Address (ElementPlace n e None)) (Of (Text x)) w vals todo ks (text_plain q is.1) a (text_there q x is.1) b h work
  put_text (Address (CellPlace n e None)) x (AddressOf q) is a image = putting_goes s ok l Then g long m i t rest top q (Address (CellPlace n e None)) (Of (Text x)) w vals todo ks (text_plain q is.1) a (text_there q x is.1) b h work
  put_text (Address (ImagePlace n)) x ImageAddress is a image =
      let y = image n refl in
      had (IsFine s) (image_set Then n (Text x)) (record Then { store = with_image store n x }) Then (λ p. go p m i w vals rest) (ap (λ z. image_moved Then n z (Some x)) y.1 ∙ if_true (same_text y.0 x) (Some (record Then { store = with_image store n x })) None y.2) stays_on
  put_text (Address (ElementPlace n e (Some c))) x (AddressOf k) is a image = absurd a
  put_text (Address (CellPlace n e (Some c))) x (AddressOf k) is a image = absurd a
  put_text (Address (ImagePlace n)) x (AddressOf k) is a image = absurd a
  put_text (Address (ElementPlace n e c)) x ImageAddress is a image = absurd a
  put_text (Address (CellPlace n e c)) x ImageAddress is a image = absurd a
  put_text (Address p) x (Value (Simply k)) is a image = absurd a
  put_text (Address p) x (Value (Refers c)) is a image = absurd a
  put_text (Address p) x (Value (ArrayOf k)) is a image = absurd a
  put_text (Address p) x (Value (Procedure k)) is a image = absurd a
  put_text (Address p) x (Value (ByName k)) is a image = absurd a
  put_text (Address (ElementPlace n e None)) x (Whichever value_too k) is a image = putting_goes s ok l Then g long m i t rest top (Simply k) (Address (ElementPlace n e None)) (Of (Text x)) w vals todo ks tt a.1 (sym is.1, tt) b h work
  put_text (Address (CellPlace n e None)) x (Whichever value_too k) is a image = putting_goes s ok l Then g long m i t rest top (Simply k) (Address (CellPlace n e None)) (Of (Text x)) w vals todo ks tt a.1 (sym is.1, tt) b h work
  put_text (Address (ElementPlace n e (Some c))) x (Whichever value_too k) is a image = absurd (no_reference k is.1 a.0)
  put_text (Address (CellPlace n e (Some c))) x (Whichever value_too k) is a image = absurd (no_reference k is.1 a.0)
  put_text (Address (ImagePlace n)) x (Whichever value_too k) is a image = absurd a
  put_text (Address p) x (LinkTo u) is a image = absurd is
  put_text (Address p) x (Copied u) is a image = absurd is
  put_text (Address p) x (ReferenceAddress u) is a image = absurd is
  put_text (Address p) x (Lasting u) is a image = absurd is
  put_text (Address p) x Component is a image = absurd is
  put_text (Address p) x (ObjectIn u) is a image = absurd is
  put_text (Address p) x (NewObject u) is a image = absurd is
  put_text (Address p) x (Checked es u) is a image = absurd is
  put_text (Address p) x (ForFormal u) is a image = absurd is

  pub back_goes : (first : Option Val) (moved : Option TextVal) → AllBack (IsFine s) s o g m i store first moved → Goes (IsFine s) (putting_back put_back first moved Then m (λ p m. go p m i w vals rest))
  unfolding putting_back
  back_goes None None a = stays_on
  back_goes (Some v) None a = stays_on
  back_goes None (Some x) a = absurd a
  back_goes (Some v) (Some x) a = put_text v x a.from a.is a.hand a.image
