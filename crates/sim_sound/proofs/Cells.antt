-- What a fine cell has in it.
use Rattle.std.proofs.Common.{◌≡◌, ℕ, Bool, true, false, List, [], ◌∷◌, map, Option, Some, None, ◌⊎◌, inl, inr, ⊎_elim, refl, sym, ap, ◌∙◌, subst}
use Rattle.sim_base.specs.declared.numbering.DeclNo.{DeclNo}
use Rattle.sim_scope.specs.declared.types.Entry.{Entry}
use Rattle.sim_scope.specs.declared.types.Entry.TheVariants as entry
use Rattle.sim_scope.specs.declared.types.SimType.{SimType}
use Rattle.sim_scope.specs.declared.types.SimType.TheVariants as t
use Rattle.sim_scope.specs.Levels.{base}
use Rattle.sim_scope.specs.Scopes.{entry_of}
use Rattle.sim_scope.specs.Source.{Source, block_around}
use Rattle.sim_code.specs.Instances.{CellPlace, ElementPlace, ImagePlace, Instance, live}
use Rattle.sim_values.specs.declared.kind.Kind.{Kind}
use Rattle.sim_values.specs.declared.kind.Kind.TheVariants as kind
use Rattle.sim_code.specs.Instances as instances
use Rattle.sim_meaning.specs.Attributes.{cell_of_connection, is_connection}
use Rattle.sim_meaning.specs.Entries.{first_cells, numbers_of}
use Rattle.sim_meaning.specs.Levels.{has_levels, qualification}
use Rattle.sim_meaning.specs.Objects.{attributes_from, with_attribute}
use Rattle.sim_meaning.specs.Pending.{Actual, Address, ArrayValue, Connection, Declared, Held, Instances, Key, Of, Origin, ProcedureValue, Result, Val, cell, cell_set, held, held_set}
use Rattle.sim_meaning.specs.Texts.{BlockText, ClassText, ConnectionText, PrefixedText, ProcedureText, StandardText, Text, text}
use Rattle.sim_sound.specs.Held.{Among, ArrayOf, ByName, Holds, Procedure, Refers, Simply, connection_holds, entry_holds, given_by, held_by, key_holds, reference_to, result_type}
use Rattle.sim_sound.specs.Typed.{ConnectionTyped, Typed}
use Rattle.sim_sound.proofs.Running.{Begun, StoreFine}
use Rattle.sim_sound.proofs.Sound.{CellIs, Site, in_connection, in_instance, own_made}
use Rattle.sim_sound.proofs.Values.{AddressOf, AllArrays, CellLies, CellTarget, HandFine, InstanceFine, IsPlain, KeyAmong, Made, Near, Present, ReferenceAddress, StandsFor, Whichever, ValFine, Whole, connected, first_key, key_of, keys_in, later_key, own_text}
use Rattle.sim_sound.proofs.Changes.{held_fine, held_plain, set_there}
use Rattle.sim_sound.proofs.Lists.{same_some}
use Rattle.sim_sound.proofs.Moves.{knows_near, near_then}
use Rattle.sim_sound.proofs.Prefixes.{LevelOf, class_has, is_connection_text, level_has_levels, level_solid, level_then, only_level, prefix_level, same_level, same_levels}

-- a value that another instance knows, which is known
pub val_up : (s : Source) (o : AllArrays) (m : Instances) (i j : ℕ) → Near o m i j → (h : Holds) (v : Val) → ValFine s o m j h v → ValFine s o m i h v
val_up s o m i j near (Simply k) (Of p) a = a
val_up s o m i j near (Refers c) (Of p) a = a
val_up s o m i j near (ArrayOf k) (ArrayValue n) a = record { it = a.it; lives = a.lives; known = a.known; owned = ⊎_elim (λ k. inl k) (λ w. inr (near_then o m i j (a.it).owner near w)) a.owned; count = a.count }
val_up s o m i j near (Procedure r) (ProcedureValue k e) a = record { around = a.around; near = near_then o m i j e near a.near; whole = a.whole; procedure = a.procedure; gives = a.gives }
val_up s o m i j near (ByName h) (Actual home p e) a = record { near = near_then o m i j home near a.near; from = a.from; stands = a.stands; typed = a.typed }
val_up s o m i j near (Simply k) _ a = absurd a
val_up s o m i j near (Refers c) _ a = absurd a
val_up s o m i j near (ArrayOf k) _ a = absurd a
val_up s o m i j near (Procedure r) _ a = absurd a
val_up s o m i j near (ByName h) _ a = absurd a

-- what a variable may hold is the same for all instances
pub plain_anywhere : (s : Source) (o : AllArrays) (m : Instances) (j i : ℕ) (h : Holds) (v : Val) → IsPlain h → ValFine s o m j h v → ValFine s o m i h v
plain_anywhere s o m j i (Simply k) (Of p) is a = a
plain_anywhere s o m j i (Refers c) (Of p) is a = a
plain_anywhere s o m j i (Simply k) _ is a = absurd a
plain_anywhere s o m j i (Refers c) _ is a = absurd a
plain_anywhere s o m j i (ArrayOf k) v is a = absurd is
plain_anywhere s o m j i (Procedure r) v is a = absurd is
plain_anywhere s o m j i (ByName h) v is a = absurd is

-- ---- what is no array

reference_no_array : (c : Option ℕ) (h : Holds) → reference_to c ≡ ArrayOf h → ⊥
reference_no_array None h e = cc
reference_no_array (Some k) h e = cc

pub held_no_array : (s : Source) (type : SimType) (h : Holds) → held_by s type ≡ ArrayOf h → ⊥
held_no_array s (t.Ref d) h e = reference_no_array (qualification s (Some (t.Ref d))) h e
held_no_array s t.Integer h e = cc
held_no_array s t.Boolean h e = cc
held_no_array s t.Character h e = cc
held_no_array s t.Text h e = cc
held_no_array s t.NoneType h e = cc

some_same : {A : Type 0} (a b : A) → Some a ≡ Some b → a ≡ b
some_same a b e = cc

pub given_no_array : (s : Source) (r : Option SimType) (h : Holds) → given_by s r ≡ Some (ArrayOf h) → ⊥
given_no_array s None h e = cc
given_no_array s (Some type) h e = held_no_array s type h (some_same (held_by s type) (ArrayOf h) e)

pub connection_no_array : (s : Source) (c : Option ℕ) (h : Holds) → connection_holds s c ≡ Some (ArrayOf h) → ⊥
connection_no_array s None h e = cc
connection_no_array s (Some k) h e = reference_no_array (base s.tables k) h (some_same (reference_to (base s.tables k)) (ArrayOf h) e)

-- an array is held by the cell of a declaration
array_among : (s : Source) (t u : ℕ) (todo : List DeclNo) (hs : List Held) (key : Key) (k : Holds) → Made s t todo hs → LevelOf s t u → key_holds s u key ≡ Some (ArrayOf k) → KeyAmong key (keys_in s u (text s u)) → held key hs ≡ None → (d : DeclNo) × (key ≡ Declared d.0) × Among d todo
array_among s t u todo hs (Declared d) k made at e there f = (record { 0 = d }, refl, made u at (record { 0 = d }) k e there f)
array_among s t u todo hs Result k made at e there f = absurd (given_no_array s (result_type s u) k e)
array_among s t u todo hs (Connection n) k made at e there f = absurd (connection_no_array s (block_around s n) k e)
array_among s t u todo hs Origin k made at e there f = absurd (cc)

pub none_among : (d : DeclNo) → Among d [] → ⊥
none_among d a = elim a [ ]

-- ---- a cell is read

pub fine_at : (s : Source) (o : AllArrays) (m : Instances) (j t : ℕ) (todo : List DeclNo) → StoreFine s o m → (p : Present s m j t todo) → InstanceFine s o m j p.now
fine_at s o m j t todo store p = store.instances j p.now p.lives

-- the text of a connection has no cells
no_key : (s : Source) (t : ℕ) (key : Key) → KeyAmong key (keys_in s t (Some ConnectionText)) → ⊥
unfolding first_cells
no_key s t key a = elim a [ ]

-- a text with a cell, for which an instance stands, is a level of its own
pub own_key : (s : Source) (x : Instance (List Held)) (t : ℕ) (key : Key) → StandsFor s x t → KeyAmong key (keys_in s t (text s t)) → LevelOf s x.text t
own_key s x t key (own_text at) there = at
own_key s x t key (connected is around k a) there = absurd (no_key s t key (subst (λ z. KeyAmong key (keys_in s t z)) (is_connection_text s t is) there))

-- and so is one that is no connection
pub own_level : (s : Source) (x : Instance (List Held)) (t : ℕ) → is_connection (text s t) ≡ false → StandsFor s x t → LevelOf s x.text t
own_level s x t solid (own_text at) = at
own_level s x t solid (connected is around k a) = absurd (cc)

-- it stands for the levels of such a text, too
pub stands_level_of : (s : Source) (x : Instance (List Held)) (t u : ℕ) → is_connection (text s t) ≡ false → StandsFor s x t → LevelOf s t u → StandsFor s x u
stands_level_of s x t u solid a at = own_text (level_then s (own_level s x t solid a) at)

-- ---- what the cells of a level hold

abbrev IsDeclared : Key → Type 0
IsDeclared key = (d : ℕ) × (key ≡ Declared d)

declared_first : (key x : Key) (d : ℕ) (ks : List Key) → x ≡ Declared d → (KeyAmong key ks → IsDeclared key) → KeyAmong key (x ∷ ks) → IsDeclared key
declared_first _ x d ks e f first_key = (d, e)
declared_first key x d ks e f (later_key a) = f a

attribute_declared : (s : Source) (key : Key) (d : DeclNo) (e : Option Entry) (hs : List Held) → (KeyAmong key (map key_of hs) → IsDeclared key) → KeyAmong key (map key_of (with_attribute s d e hs)) → IsDeclared key
attribute_declared s key d (Some (entry.Variable ty)) hs f a = declared_first key (Declared d.0) d.0 (map key_of hs) refl f a
attribute_declared s key d (Some (entry.Constant ty)) hs f a = declared_first key (Declared d.0) d.0 (map key_of hs) refl f a
attribute_declared s key d (Some (entry.Array ty n)) hs f a = declared_first key (Declared d.0) d.0 (map key_of hs) refl f a
attribute_declared s key d (Some (entry.Formal g)) hs f a = declared_first key (Declared d.0) d.0 (map key_of hs) refl f a
attribute_declared s key d (Some _) hs f a = f a
attribute_declared s key d None hs f a = f a

attributes_declared : (s : Source) (key : Key) (ds : List DeclNo) → KeyAmong key (map key_of (attributes_from s ds)) → IsDeclared key
attributes_declared s key [] a = elim a [ ]
attributes_declared s key (d ∷ ds) a = attribute_declared s key d (entry_of s.tables d) (attributes_from s ds) (attributes_declared s key ds) a

-- those of what has levels are those of its declarations
leveled_key : (s : Source) (u : ℕ) (x : Option Text) (key : Key) → has_levels x ≡ true → KeyAmong key (keys_in s u x) → IsDeclared key
unfolding first_cells
leveled_key s u (Some (ClassText prefix h ds ss)) key has a = attributes_declared s key (numbers_of s u) a
leveled_key s u (Some (PrefixedText c arguments ds ss)) key has a = attributes_declared s key (numbers_of s u) a
leveled_key s u None key has a = absurd (cc)
leveled_key s u (Some (BlockText begin ds ss)) key has a = absurd (cc)
leveled_key s u (Some (ProcedureText result h b)) key has a = absurd (cc)
leveled_key s u (Some (StandardText which)) key has a = attributes_declared s key (numbers_of s u) a
leveled_key s u (Some ConnectionText) key has a = absurd (cc)

pub key_level : (s : Source) → Typed s → {k u : ℕ} → is_connection (text s k) ≡ false → LevelOf s k u → (key : Key) → KeyAmong key (keys_in s u (text s u)) → key_holds s k key ≡ key_holds s u key
key_level s ok solid same_level key a = refl
key_level s ok {k = k} {u = u} solid (prefix_level {b = b} e x) key a =
    let p = (ok.prefixes).prefixed_by k b solid e in
    let d = leveled_key s u (text s u) key (level_has_levels s ok (class_has s ok b p.prefix) x) a in
    ap (key_holds s k) d.1 ∙ ap (λ z. entry_holds s z (entry_of s.tables (record { 0 = d.0 }))) (same_levels s ok solid (prefix_level e x)) ∙ sym (ap (key_holds s u) d.1)

-- ---- of what has no levels

pub keys_alone : (s : Source) → Typed s → (k : ℕ) (ks : List Key) → is_connection (text s k) ≡ false → has_levels (text s k) ≡ false → ((key : Key) → KeyAmong key (keys_in s k (text s k)) → KeyAmong key ks) → (u : ℕ) → LevelOf s k u → (key : Key) → KeyAmong key (keys_in s u (text s u)) → KeyAmong key ks
keys_alone s ok k ks solid has_none f u at key a = f key (subst (λ z. KeyAmong key (keys_in s z (text s z))) (sym (only_level s ok solid has_none at)) a)

pub made_alone : (s : Source) → Typed s → (k : ℕ) (todo : List DeclNo) (hs : List Held) → is_connection (text s k) ≡ false → has_levels (text s k) ≡ false → ((d : DeclNo) (h : Holds) → key_holds s k (Declared d.0) ≡ Some (ArrayOf h) → KeyAmong (Declared d.0) (keys_in s k (text s k)) → held (Declared d.0) hs ≡ None → Among d todo) → Made s k todo hs
made_alone s ok k todo hs solid has_none f u at d h is there none =
    let same : u ≡ k = sym (only_level s ok solid has_none at) in
    f d h (subst (λ z. key_holds s z (Declared d.0) ≡ Some (ArrayOf h)) same is) (subst (λ z. KeyAmong (Declared d.0) (keys_in s z (text s z))) same there) none

-- ---- values in cells

pub own_cell : (s : Source) (o : AllArrays) (m : Instances) (j : ℕ) (x : Instance (List Held)) (key : Key) (h : Holds) → live m j ≡ Some x → InstanceFine s o m j x → ((k : Holds) → h ≡ ArrayOf k → held key x.cells ≡ None → ⊥) → key_holds s x.text key ≡ Some h → KeyAmong key (map key_of x.cells) → (v : Val) × (cell m j key ≡ Some v) × ValFine s o m j h v
own_cell s o m j x key h lives fine made is there = by_held (held key x.cells) refl h made is
  where
    at : cell m j key ≡ held key x.cells
    at = ap (λ z. Rattle.sim_meaning.specs.Pending.value_in (instances.cells_in z) key) lives

    by_held : (v : Option Val) → held key x.cells ≡ v → (h : Holds) → ((k : Holds) → h ≡ ArrayOf k → held key x.cells ≡ None → ⊥) → key_holds s x.text key ≡ Some h → (v : Val) × (cell m j key ≡ Some v) × ValFine s o m j h v
    by_held (Some v) e h made is = (v, at ∙ e, held_fine s o m j x.text key h x.cells v is fine.cells e)
    by_held None e (Simply k) made is = absurd (held_plain s o m j x.text key (Simply k) (λ a. a) x.cells is fine.cells there e)
    by_held None e (Refers c) made is = absurd (held_plain s o m j x.text key (Refers c) (λ a. a) x.cells is fine.cells there e)
    by_held None e (Procedure r) made is = absurd (held_plain s o m j x.text key (Procedure r) (λ a. a) x.cells is fine.cells there e)
    by_held None e (ByName k) made is = absurd (held_plain s o m j x.text key (ByName k) (λ a. a) x.cells is fine.cells there e)
    by_held None e (ArrayOf k) made is = absurd (made k refl e)

-- a cell that holds what it should, of an instance that is there for as long
pub lies_cell : (s : Source) (o : AllArrays) (m : Instances) (i j : ℕ) (key : Key) (h : Holds) → StoreFine s o m → CellLies s o m i j key h → (v : Val) × (cell m j key ≡ Some v) × ValFine s o m j h v
lies_cell s o m i j key h store c =
    let p = c.here in
    let f = fine_at s o m j c.around c.todo store p in
    let at : LevelOf s (p.now).text c.around = own_key s p.now c.around key p.stands c.there in
    own_cell s o m j p.now key h p.lives f
    (λ k is none. let a = array_among s (p.now).text c.around c.todo (p.now).cells key k p.made at (c.holds ∙ ap Some is) c.there none in c.ready a.0 a.1 a.2) (f.holds c.around at key c.there ∙ c.holds) (f.keys c.around at key c.there)

-- one that is known is there for as long
pub target_lies : (s : Source) (o : AllArrays) (m : Instances) (i j : ℕ) (key : Key) (h : Holds) → StoreFine s o m → CellTarget s m i j key h → CellLies s o m i j key h
target_lies s o m i j key h store c = record { around = c.around; todo = c.todo; near = knows_near s o m store i j c.near; here = c.here; ready = c.ready; holds = c.holds; there = c.there }

pub target_cell : (s : Source) (o : AllArrays) (m : Instances) (i j : ℕ) (key : Key) (h : Holds) → StoreFine s o m → CellTarget s m i j key h → (v : Val) × (cell m j key ≡ Some v) × ValFine s o m j h v
target_cell s o m i j key h store c = lies_cell s o m i j key h store (target_lies s o m i j key h store c)

-- the cell of a connection
connection_key : (s : Source) → Typed s → (c : ℕ) → is_connection (text s c) ≡ true → (t : ℕ) → key_holds s t (cell_of_connection s c) ≡ Some (reference_to (base s.tables c))
connection_key s ok c is t = let typed : ConnectionTyped s c = ok.texts c ConnectionText (is_connection_text s c is) in ap (connection_holds s) typed.around

pub connection_cell : (s : Source) → Typed s → (o : AllArrays) (m : Instances) (j c : ℕ) → StoreFine s o m → is_connection (text s c) ≡ true → (p : Present s m j c []) → (v : Val) × (cell m j (cell_of_connection s c) ≡ Some v) × ValFine s o m j (reference_to (base s.tables c)) v
connection_cell s ok o m j c store is p =
    own_cell s o m j p.now (cell_of_connection s c) (reference_to (base s.tables c)) p.lives (fine_at s o m j c [] store p) (λ k e none. reference_no_array (base s.tables c) k e) (connection_key s ok c is (p.now).text) (by_stands p.stands)
  where
    by_stands : StandsFor s p.now c → KeyAmong (cell_of_connection s c) (map key_of (p.now).cells)
    by_stands (own_text at) =
        let no : is_connection (text s c) ≡ false = level_solid s ok (fine_at s o m j c [] store p).solid at in
        let yes : is_connection (text s c) ≡ true = is in
        absurd (cc)
    by_stands (connected a around there b) = there

abbrev number : ℕ → DeclNo
number a = record { 0 = a }

same_decl : (a b : ℕ) → Declared a ≡ Declared b → number a ≡ number b
same_decl a b q = let r : a ≡ b = cc in ap number r

same_among : (d e : DeclNo) (key : Key) (todo : List DeclNo) → key ≡ Declared d.0 → key ≡ Declared e.0 → Among e todo → Among d todo
same_among d e key todo f g a = subst (λ z. Among z todo) (same_decl e.0 d.0 (sym g ∙ f)) a

pub cell_found : (s : Source) → Typed s → (o : AllArrays) (m : Instances) (i t : ℕ) (todo : List DeclNo) (e : ℕ) (key : Key) (h : Holds) → Begun s o m i t todo → CellIs s m i t todo e key h → (v : Val) × (cell m e key ≡ Some v) × ValFine s o m i h v
cell_found s ok o m i t todo e key h b (in_instance c) = let x = target_cell s o m i e key h b.store c in (x.0, x.1, val_up s o m i e (knows_near s o m b.store i e c.near) h x.0 x.2)
cell_found s ok o m i t todo e key h b (own_made {d = d} {u = u} same name level is there free) =
    let p = b.here in
    let f = fine_at s o m i t todo b.store p in
    let at : LevelOf s (p.now).text u = subst (λ z. LevelOf s z u) (sym b.own) level in
    let x = own_cell s o m i p.now key h p.lives f (λ k of none. let a = array_among s (p.now).text u todo (p.now).cells key k p.made at (is ∙ ap Some of) there none in free (same_among d a.0 key todo name a.1 a.2)) (f.holds u at key there ∙ is) (f.keys u at key there) in
    (x.0, ap (λ z. cell m z key) same ∙ x.1, x.2)
cell_found s ok o m i t todo e key h b (in_connection {c = c} knows whole is same holds) =
    let x = connection_cell s ok o m e c b.store is whole in
    (x.0, ap (cell m e) same ∙ x.1, val_up s o m i e (knows_near s o m b.store i e knows) h x.0 (subst (λ z. ValFine s o m e z x.0) (sym holds) x.2))

-- ---- a cell is set

pub cell_put : (s : Source) (m : Instances) (j : ℕ) (x : Instance (List Held)) (key : Key) (v : Val) → live m j ≡ Some x → KeyAmong key (map key_of x.cells) → (hs : List Held) × (held_set key v x.cells ≡ Some hs) × (cell_set m j key v ≡ Some (instances.with_instance m j (record x { cells = hs })))
cell_put s m j x key v lives there =
    let r = set_there key v x.cells there in (
      r.0,
      r.1,
      ap (λ z. instances.cells_put m j z (Rattle.sim_meaning.specs.Pending.put_in (instances.cells_in z) key v)) lives
          ∙ ap (λ z. instances.cells_put m j (Some x) z) r.1,
    )

-- ---- addresses that parameters by name mean

-- of what is no reference: where it lies, or a value
pub whichever_value : (s : Source) (o : AllArrays) (m : Instances) (i : ℕ) (value_too : Bool) (k : Kind) (v : Val) → (k ≡ kind.Reference → ⊥) → HandFine s o m i (Whichever value_too k) v → HandFine s o m i (AddressOf (Simply k)) v ⊎ ((value_too ≡ true) × ValFine s o m i (Simply k) v)
whichever_value s o m i value_too k (Address (ElementPlace a n None)) other f = inl f.1
whichever_value s o m i value_too k (Address (CellPlace e key None)) other f = inl f.1
whichever_value s o m i value_too k (Address (ElementPlace a n (Some c))) other f = absurd (other f.0)
whichever_value s o m i value_too k (Address (CellPlace e key (Some c))) other f = absurd (other f.0)
whichever_value s o m i value_too k (Address (ImagePlace n)) other f = absurd f
whichever_value s o m i true k (Of p) other f = inr (refl, f)
whichever_value s o m i false k (Of p) other f = absurd f
whichever_value s o m i value_too k _ other f = absurd f

-- of a reference, with its qualification
pub whichever_reference : (s : Source) (o : AllArrays) (m : Instances) (i : ℕ) (k : Kind) (v : Val) → k ≡ kind.Reference → HandFine s o m i (Whichever false k) v → (c : ℕ) × HandFine s o m i (ReferenceAddress c) v
whichever_reference s o m i k (Address (ElementPlace a n (Some c))) is f = (c, (refl, f.1))
whichever_reference s o m i k (Address (CellPlace e key (Some c))) is f = (c, (refl, f.1))
whichever_reference s o m i k (Address (ElementPlace a n None)) is f = absurd (f.0 is)
whichever_reference s o m i k (Address (CellPlace e key None)) is f = absurd (f.0 is)
whichever_reference s o m i k (Address (ImagePlace n)) is f = absurd f
whichever_reference s o m i k _ is f = absurd f

-- ---- where statements stand

-- when all arrays are made, the text in which a statement stands is whole
pub site_whole : (s : Source) (o : AllArrays) (m : Instances) (i t u : ℕ) → Begun s o m i t [] → Site s m i u → Whole s m i u
site_whole s o m i t u b a =
    let p = b.here in
    record { now = p.now; lives = p.lives; stands = subst (λ z. StandsFor s z u) (same_some (live m i) a.now p.now a.lives p.lives) a.stands; words = p.words; has_text = p.has_text; made = p.made }

-- and an instance stands in its own
pub own_site : (s : Source) (o : AllArrays) (m : Instances) (i t : ℕ) (todo : List DeclNo) → Begun s o m i t todo → Site s m i t
own_site s o m i t todo b = record { now = (b.here).now; lives = (b.here).lives; stands = (b.here).stands }
