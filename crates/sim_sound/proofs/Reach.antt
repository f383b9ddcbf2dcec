-- From an instance, the instance of each text that is seen is found by its level, and it is whole. Its cells are those that are declared.
use Rattle.std.proofs.Common.{◌≡◌, ◌≢◌, ℕ, zero, suc, ◌<◌, ◌≤◌, Bool, true, false, List, [], ◌∷◌, length, map, Option, Some, None, ◌⊎◌, ⊎_elim, refl, sym, ap, ◌∙◌, subst, arith}
use Rattle.std.specs.Prelude.{◌==◌, ◌||◌, nat_eq, slice_get}
use Rattle.sim_base.specs.declared.numbering.DeclNo.{DeclNo}
use Rattle.sim_scope.specs.declared.scopes.Declaration.{Declaration}
use Rattle.sim_scope.specs.declared.types.Entry.{Entry}
use Rattle.sim_scope.specs.declared.types.Entry.TheVariants as entry
use Rattle.sim_scope.specs.Access.{encloser}
use Rattle.sim_scope.specs.Levels.{has_level, some_level_of}
use Rattle.sim_scope.specs.Scopes.{entry_in, entry_of}
use Rattle.sim_scope.specs.Source.{Source, block_of, block_of_row, level_of}
use Rattle.sim_tree.specs.declared.stmt.TypeName.{TypeName}
use Rattle.sim_tree.specs.Syntax.{Heading, Statement}
use Rattle.sim_code.specs.Instances.{Instance, at_level, found_at, level_within, live, outward}
use Rattle.sim_meaning.specs.Attributes.{is_connection}
use Rattle.sim_meaning.specs.Closing.{home_of}
use Rattle.sim_meaning.specs.Entries.{cells_from, first_cells, numbers_of, with_cell, with_result}
use Rattle.sim_meaning.specs.Objects.{attributes_from, with_attribute}
use Rattle.sim_meaning.specs.Pending.{Declared, Held, Instances, Key, Result}
use Rattle.sim_meaning.specs.Texts.{BlockText, ClassText, ConnectionText, PrefixedText, ProcedureText, StandardText, Text, text}
use Rattle.sim_sound.specs.Held.{Among, Around, Holds, In, InBound, IsFixed, Place, Seen, Sees, StandsAround, entry_holds, first, from_around, further, itself, later, own_fixed, text_of}
use Rattle.sim_sound.specs.Typed.{Home, TextTyped, Typed, connected as past, stands}
use Rattle.sim_sound.proofs.Running.{StoreFine}
use Rattle.sim_sound.proofs.Values.{AllArrays, Enclosed, InstanceFine, KeyAmong, Knows, Present, Stands, StandsFor, Whole, alone, connected, first_key, in_bound, in_text, key_of, keys_in, later_key, no_further, one_out, outward as knows_outward, own_cells, own_text, within}
use Rattle.sim_sound.proofs.Cells.{fine_at, none_among, own_level, stands_level_of}
use Rattle.sim_sound.proofs.Lists.{equal_numbers, if_false, if_true, no_some, other_numbers, same_some}
use Rattle.sim_sound.proofs.Moves.{knows_itself, knows_then}
use Rattle.sim_sound.proofs.Prefixes.{LevelOf, connection_level, home_solid, level_around, level_is, level_number, level_solid, level_then, level_words}

-- what is seen from somewhere is found from the instance i
pub record Reached (s : Source) (m : Instances) (i : ℕ) (d : DeclNo) : Type 0 where
  pub instance : ℕ
  pub found : home_of s m i d ≡ Some instance
  pub near : Knows m i instance
  pub todo : List DeclNo
  pub here : Present s m instance (block_of s d) todo
  pub words : Text
  pub has_text : text s (block_of s d) ≡ Some words
  pub ready : Among d todo → ⊥
  pub solid : is_connection (text s (block_of s d)) ≡ false
  pub whole : (IsFixed (entry_of s.tables d) → ⊥) → todo ≡ []

abbrev pub Reaches : Source → Instances → ℕ → Place → Type 0
Reaches s m i from = (d : DeclNo) → Sees s from d → Reached s m i d

-- and so is a text around
pub record FoundAround (s : Source) (m : Instances) (i u : ℕ) : Type 0 where
  pub instance : ℕ
  pub found : at_level m (level_of s u) i ≡ Some instance
  pub near : Knows m i instance
  pub whole : Whole s m instance u

abbrev pub ReachesText : Source → Instances → ℕ → Place → Type 0
ReachesText s m i from = (k : ℕ) → StandsAround s from k → FoundAround s m i k

-- a text has itself for a level
pub has_itself : (s : Source) → Typed s → (k : ℕ) → has_level s.tables k k ≡ true
unfolding has_level some_level_of
has_itself s ok k = by_length (length s.tables.blocks) ok.some_block
  where
    first_test : (b c : Bool) → b ≡ true → (b || c) ≡ true
    first_test true c e = refl
    first_test false c e = absurd (cc)

    by_length : (n : ℕ) → 0 < n → some_level_of s.tables n (λ b. nat_eq b k) k ≡ true
    by_length zero lt = absurd (omega (arith, lt))
    by_length (suc n) lt = first_test (nat_eq k k) _ (equal_numbers k k refl)

module _ (s : Source) (ok : Typed s) (o : AllArrays) (m : Instances) where
  stands_level : (x : Instance (List Held)) (t : ℕ) → is_connection (text s x.text) ≡ false → StandsFor s x t → level_of s x.text ≡ level_of s t
  stands_level x t solid (own_text at) = level_number s ok solid at
  stands_level x t solid (connected {u = u} is around k a) = stands_level x u solid a ∙ sym (connection_level s ok t u is around)

  outward_step : (t u : ℕ) → encloser s.tables t ≡ Some u → level_of s u ≤ level_of s t
  outward_step t u e = by_flag (is_connection (text s t)) refl
    where
      by_flag : (b : Bool) → is_connection (text s t) ≡ b → level_of s u ≤ level_of s t
      by_flag true is = let a = connection_level s ok t u is e in omega (arith, a)
      by_flag false is = let a = ok.levels t u is e in omega (arith, a)

  outward_levels : {t u : ℕ} → Around s.tables t u → level_of s u ≤ level_of s t
  outward_levels itself = omega arith
  outward_levels (further {t = t} {u = u} e i) = let a = outward_step t u e in let b = outward_levels i in omega (arith, a, b)

  here_found : (n level j : ℕ) (x : Instance (List Held)) → live m j ≡ Some x → x.level ≡ level → level_within (suc n) m level j ≡ Some j
  here_found n level j x lives e =
      ap (found_at level (level_within n m level) j) lives ∙ if_true (x.level == level) (Some j) (outward (level_within n m level) x.encloser) (equal_numbers x.level level e)

  further_found : (n level j out : ℕ) (x : Instance (List Held)) → live m j ≡ Some x → x.level ≢ level → x.encloser ≡ Some out → level_within (suc n) m level j ≡ level_within n m level out
  further_found n level j out x lives ne e =
      ap (found_at level (level_within n m level) j) lives ∙ if_false (x.level == level) (Some j) (outward (level_within n m level) x.encloser) (other_numbers x.level level ne) ∙ ap (outward (level_within n m level)) e

  record Found (n i u : ℕ) : Type 0 where
    pub instance : ℕ
    pub found : level_within n m (level_of s u) i ≡ Some instance
    pub near : Knows m i instance
    pub whole : Whole s m instance u

  module _ (store : StoreFine s o m) where
    -- what stands for a connection stands for the nearest text that is none
    stands_home : (x : Instance (List Held)) → is_connection (text s x.text) ≡ false → {k h : ℕ} → Home s k h → (v : ℕ) → encloser s.tables k ≡ Some v → StandsFor s x v → StandsFor s x h
    stands_home x solid (stands {k = k} {u = u} e other) v f a = subst (StandsFor s x) (same_some (encloser s.tables k) v u f e) a
    stands_home x solid (past {k = k} {u = u} {h = h} e is way) v f a = by_stands (λ w around z. stands_home x solid way w around z) (subst (StandsFor s x) (same_some (encloser s.tables k) v u f e) a)
      where
        by_stands : ((w : ℕ) → encloser s.tables u ≡ Some w → StandsFor s x w → StandsFor s x h) → StandsFor s x u → StandsFor s x h
        by_stands go (own_text at) = absurd (let none : is_connection (text s u) ≡ false = level_solid s ok solid at in cc)
        by_stands go (connected {u = w} is' around key z) = go w around z

    -- and an instance of a text is one of its levels
    pub whole_level : (e t v w : ℕ) → encloser s.tables t ≡ Some v → (v ≡ w) ⊎ ((h : ℕ) × Home s t h × LevelOf s h w) → Whole s m e v → Whole s m e w
    whole_level e t v w f near p =
        ⊎_elim (λ same. subst (Whole s m e) same p)
        (λ l. record { now = p.now; lives = p.lives; stands = stands_level_of s p.now l.0 w (home_solid s l.1) (stands_home p.now (store.instances e p.now p.lives).solid l.1 v f p.stands) l.2; words = p.words; has_text = p.has_text; made = p.made }) near

    -- from the encloser of an instance outward, as it is seen from a level of the instance's text
    outside : (n i t v u : ℕ) (x : Instance (List Held)) → live m i ≡ Some x → LevelOf s x.text t → encloser s.tables t ≡ Some v → Around s.tables v u → ((e : ℕ) → e < i → Whole s m e v → Found n e u) → Found (suc n) i u
    outside n i t v u x lives at around way go = by_out f.out
      where
        f : InstanceFine s o m i x
        f = store.instances i x lives

        near : (w : ℕ) × (encloser s.tables x.text ≡ Some w) × ((w ≡ v) ⊎ ((h : ℕ) × Home s x.text h × LevelOf s h v))
        near = level_around s ok f.solid at v around

        differs : x.level ≢ level_of s u
        differs e =
            let a = ok.levels t v (level_solid s ok f.solid at) around in
            let b = outward_levels way in
            let c = f.level in
            let d = level_number s ok f.solid at in
            omega (arith, a, b, c, d, e)

        by_out : Enclosed s o m i x.text x.encloser → Found (suc n) i u
        by_out (alone is none) = absurd (no_some (encloser s.tables x.text) near.0 none near.1)
        by_out (within {e = e} {u = w} is around' less around_it whole) =
            let same : w ≡ near.0 = same_some (encloser s.tables x.text) w near.0 around' near.1 in
            let r = go e less (whole_level e x.text near.0 v near.1 near.2 (subst (Whole s m e) same whole)) in
            record { instance = r.instance; found = further_found n (level_of s u) i e x lives differs is ∙ r.found; near = knows_then s o m store i e r.instance (knows_outward (one_out lives is no_further)) r.near; whole = r.whole }

    walk : {t u : ℕ} → Around s.tables t u → (n i : ℕ) → i < n → Whole s m i t → Found n i u
    walk itself zero i lt whole = absurd (omega (arith, lt))
    walk (itself {t = t}) (suc n) i lt whole =
        let f = fine_at s o m i t [] store whole in
        record { instance = i; found = here_found n (level_of s t) i whole.now whole.lives (f.level ∙ stands_level whole.now t f.solid whole.stands); near = knows_itself m i whole.now whole.lives; whole = whole }
    walk (further {t = t} {u = v} {k = u} e way) n i lt whole = by_stands (λ n i less w. walk way n i less w) n lt whole.stands
      where
        by_stands : ((n i : ℕ) → i < n → Whole s m i v → Found n i u) → (n : ℕ) → i < n → StandsFor s whole.now t → Found n i u
        by_stands go n lt (connected {u = w} is around key a) =
            let same : w ≡ v = same_some (encloser s.tables t) w v around e in
            go n i lt (record { now = whole.now; lives = whole.lives; stands = subst (StandsFor s whole.now) same a; words = whole.words; has_text = whole.has_text; made = whole.made })
        by_stands go zero lt (own_text at) = absurd (omega (arith, lt))
        by_stands go (suc n) lt (own_text at) = outside n i t v u whole.now whole.lives at e way (λ e less w. go n e (omega (arith, less, lt)) w)

    pub text_around : (i t u : ℕ) → Around s.tables t u → Whole s m i t → FoundAround s m i u
    unfolding at_level
    text_around i t u way whole =
        let r = walk way (suc i) i (omega arith) whole in
        record { instance = r.instance; found = r.found; near = r.near; whole = r.whole }

    -- from a level of the instance that is declared in, around the arrays that are not made yet
    pub text_outside : (i t v u : ℕ) (x : Instance (List Held)) → live m i ≡ Some x → LevelOf s x.text t → encloser s.tables t ≡ Some v → Around s.tables v u → FoundAround s m i u
    unfolding at_level
    text_outside i t v u x lives at around way =
        let r = outside i i t v u x lives at around way (λ e less w. walk way i e less w) in
        record { instance = r.instance; found = r.found; near = r.near; whole = r.whole }

    reached : (i t : ℕ) (d : DeclNo) (z : Seen s t (block_of s d)) → FoundAround s m i z.found → Reached s m i d
    unfolding home_of
    reached i t d z r =
        let w = r.whole in
        let f = fine_at s o m r.instance z.found [] store w in
        let level : LevelOf s z.found (block_of s d) = level_is s z.found (block_of s d) z.level in
        let at : LevelOf s (w.now).text (block_of s d) = level_then s (own_level s w.now z.found z.instance w.stands) level in
        let words = level_words s ok f.solid at w.words w.has_text in
        record {
          instance = r.instance;
          found = ap (λ q. at_level m q i) (sym (level_number s ok z.instance level)) ∙ r.found;
          near = r.near;
          todo = [];
          here = record { now = w.now; lives = w.lives; stands = own_text at; words = w.words; has_text = w.has_text; made = w.made };
          words = words.0;
          has_text = words.1;
          ready = none_among d;
          solid = level_solid s ok z.instance level;
          whole = λ free. refl;
        }

    pub reaches_in : (i t : ℕ) → Whole s m i t → Reaches s m i (In t)
    reaches_in i t whole d z = reached i t d z (text_around i t z.found z.around whole)

    pub text_in : (i t : ℕ) → Whole s m i t → ReachesText s m i (In t)
    text_in i t whole k z = text_around i t k z whole

    -- in a bound, which stands in the level u: of its own the formal parameters and constants, and what is around
    pub reaches_bound : (i t u : ℕ) (todo : List DeclNo) → (p : Present s m i t todo) → (p.now).text ≡ t → LevelOf s t u → ((d : DeclNo) → IsFixed (entry_of s.tables d) → Among d todo → ⊥) → is_connection (text s t) ≡ false → Reaches s m i (InBound u)
    unfolding home_of at_level
    reaches_bound i t u todo p own at ready solid d (own_fixed is level) =
        let to : LevelOf s t (block_of s d) = level_then s at (level_is s u (block_of s d) level) in
        let from : LevelOf s (p.now).text (block_of s d) = subst (λ z. LevelOf s z (block_of s d)) (sym own) to in
        let f = fine_at s o m i t todo store p in
        let words = level_words s ok f.solid from p.words p.has_text in
        record {
          instance = i;
          found = here_found i (level_of s (block_of s d)) i p.now p.lives (f.level ∙ level_number s ok f.solid from);
          near = knows_itself m i p.now p.lives;
          todo = todo;
          here = record { now = p.now; lives = p.lives; stands = own_text from; words = p.words; has_text = p.has_text; made = p.made };
          words = words.0;
          has_text = words.1;
          ready = ready d is;
          solid = level_solid s ok solid to;
          whole = λ free. absurd (free is);
        }
    reaches_bound i t u todo p own at ready solid d (from_around {u = v} around z) = reached i v d z (text_outside i u v z.found p.now p.lives (subst (λ y. LevelOf s y u) (sym own) at) around z.around)

    pub text_bound : (i t u : ℕ) (todo : List DeclNo) → (p : Present s m i t todo) → (p.now).text ≡ t → LevelOf s t u → ReachesText s m i (InBound u)
    text_bound i t u todo p own at k z = text_outside i u z.next k p.now p.lives (subst (λ y. LevelOf s y u) (sym own) at) z.stands_in z.around

-- from where an expression stands
pub reaches_from : (s : Source) → Typed s → (o : AllArrays) (m : Instances) → StoreFine s o m → (i : ℕ) (from : Place) → Stands s m i from → Reaches s m i from
reaches_from s ok o m store i (In u) (in_text whole) = reaches_in s ok o m store i u whole
reaches_from s ok o m store i (InBound u) (in_bound {t = t} {todo = todo} p own at ready solid) = reaches_bound s ok o m store i t u todo p own at ready solid

pub text_from : (s : Source) → Typed s → (o : AllArrays) (m : Instances) → StoreFine s o m → (i : ℕ) (from : Place) → Stands s m i from → ReachesText s m i from
text_from s ok o m store i (In u) (in_text whole) = text_in s ok o m store i u whole
text_from s ok o m store i (InBound u) (in_bound {t = t} {todo = todo} p own at ready solid) = text_bound s ok o m store i t u todo p own at

-- the instance of a text around where an expression stands, or of that text itself
pub instance_from : (s : Source) → Typed s → (o : AllArrays) (m : Instances) → StoreFine s o m → (i : ℕ) (from : Place) → Stands s m i from → (k : ℕ) → Around s.tables (text_of from) k → (j : ℕ) × (at_level m (level_of s k) i ≡ Some j)
unfolding at_level
instance_from s ok o m store i (In u) (in_text whole) k around = let x = text_in s ok o m store i u whole k around in (x.instance, x.found)
instance_from s ok o m store i (InBound u) (in_bound {t = t} {todo = todo} p own at ready solid) k around = go around
  where
    go : {k : ℕ} → Around s.tables u k → (j : ℕ) × (at_level m (level_of s k) i ≡ Some j)
    go itself =
        let f = fine_at s o m i t todo store p in
        let from : LevelOf s (p.now).text u = subst (λ y. LevelOf s y u) (sym own) at in
        (i, here_found s ok o m i (level_of s u) i p.now p.lives (f.level ∙ level_number s ok f.solid from))
    go (further {u = v} out way) = let x = text_bound s ok o m store i t u todo p own at _ (record { next = v; stands_in = out; around = way }) in (x.instance, x.found)

-- ---- the keys of a text are those of its declarations

-- an entry that has a cell
has_cell : (s : Source) (c : Bool) (d : DeclNo) (e : Option Entry) (hs : List Held) (h : Holds) → entry_holds s c e ≡ Some h → KeyAmong (Declared d.0) (map key_of (with_cell d e hs))
has_cell s c d (Some (entry.Variable type)) hs h e = first_key
has_cell s c d (Some (entry.Constant type)) hs h e = first_key
has_cell s c d (Some (entry.Array element dimensions)) hs h e = first_key
has_cell s c d (Some (entry.Formal f)) hs h e = first_key
has_cell s c d (Some (entry.Procedure result k)) hs h e = absurd (cc)
has_cell s c d (Some _) hs h e = absurd (cc)
has_cell s c d None hs h e = absurd (cc)

cell_later : (d e : DeclNo) (x : Option Entry) (hs : List Held) → KeyAmong (Declared d.0) (map key_of hs) → KeyAmong (Declared d.0) (map key_of (with_cell e x hs))
cell_later d e (Some (entry.Variable type)) hs a = later_key a
cell_later d e (Some (entry.Constant type)) hs a = later_key a
cell_later d e (Some (entry.Array element dimensions)) hs a = later_key a
cell_later d e (Some (entry.Formal f)) hs a = later_key a
cell_later d e (Some _) hs a = a
cell_later d e None hs a = a

from_key : (s : Source) (ds : List DeclNo) (d : DeclNo) (c : Bool) (h : Holds) → Among d ds → entry_holds s c (entry_of s.tables d) ≡ Some h → KeyAmong (Declared d.0) (map key_of (cells_from s ds))
from_key s [] d c h a e = elim a [ ]
from_key s (x ∷ ds) d c h first e = has_cell s c d (entry_of s.tables d) (cells_from s ds) h e
from_key s (x ∷ ds) d c h (later a) e = cell_later d x (entry_of s.tables x) (cells_from s ds) (from_key s ds d c h a e)

attribute_cell : (s : Source) (d : DeclNo) (e : Option Entry) (hs : List Held) → map key_of (with_attribute s d e hs) ≡ map key_of (with_cell d e hs)
attribute_cell s d (Some (entry.Variable type)) hs = refl
attribute_cell s d (Some (entry.Constant type)) hs = refl
attribute_cell s d (Some (entry.Array element dimensions)) hs = refl
attribute_cell s d (Some (entry.Formal f)) hs = refl
attribute_cell s d (Some _) hs = refl
attribute_cell s d None hs = refl

pub attribute_key : (s : Source) (ds : List DeclNo) (d : DeclNo) (c : Bool) (h : Holds) → Among d ds → entry_holds s c (entry_of s.tables d) ≡ Some h → KeyAmong (Declared d.0) (map key_of (attributes_from s ds))
attribute_key s [] d c h a e = elim a [ ]
attribute_key s (x ∷ ds) d c h first e = subst (KeyAmong (Declared d.0)) (sym (attribute_cell s d (entry_of s.tables d) (attributes_from s ds))) (has_cell s c d (entry_of s.tables d) (attributes_from s ds) h e)
attribute_key s (x ∷ ds) d c h (later a) e =
    subst (KeyAmong (Declared d.0)) (sym (attribute_cell s x (entry_of s.tables x) (attributes_from s ds))) (cell_later d x (entry_of s.tables x) (attributes_from s ds) (attribute_key s ds d c h a e))

behind_result : (result : Option TypeName) (key : Key) (hs : List Held) → KeyAmong key (map key_of hs) → KeyAmong key (map key_of (with_result result hs))
behind_result None key hs a = a
behind_result (Some type) key hs a = later_key a

-- a declaration that has a cell is listed in its text
holds_in_class : (s : Source) (c : Bool) (e : Option Entry) (h : Holds) → entry_holds s c e ≡ Some h → entry_holds s true e ≡ Some h
holds_in_class s c (Some (entry.Variable type)) h e = e
holds_in_class s true (Some (entry.Constant type)) h e = e
holds_in_class s false (Some (entry.Constant type)) h e = absurd (cc)
holds_in_class s c (Some (entry.Array element dimensions)) h e = e
holds_in_class s c (Some (entry.Formal f)) h e = e
holds_in_class s c (Some _) h e = absurd (cc)
holds_in_class s c None h e = absurd (cc)

pub among_block : (s : Source) → Typed s → (d : DeclNo) (c : Bool) (h : Holds) → entry_holds s c (entry_of s.tables d) ≡ Some h → Among d (numbers_of s (block_of s d))
unfolding entry_of block_of
among_block s ok d c h is = by_row (slice_get s.tables.declarations d.0) refl (holds_in_class s c (entry_of s.tables d) h is)
  where
    by_row : (row : Option Declaration) → slice_get s.tables.declarations d.0 ≡ row → entry_holds s true (entry_in row) ≡ Some h → Among d (numbers_of s (block_of_row row))
    by_row None none is = absurd (cc)
    by_row (Some row) here is = ok.listed d row h here is

-- the cell of a declaration of a text is there
pub key_there : (s : Source) → Typed s → (k : ℕ) (x : Text) (d : DeclNo) (h : Holds) (c : Bool) → is_connection (text s k) ≡ false → text s k ≡ Some x → entry_holds s c (entry_of s.tables d) ≡ Some h → Among d (numbers_of s k) → KeyAmong (Declared d.0) (keys_in s k (text s k))
unfolding first_cells
key_there s ok k x d h c solid is e a = subst (λ z. KeyAmong (Declared d.0) (keys_in s k z)) (sym is) (by_text x (ap is_connection (sym is) ∙ solid) (ok.texts k x is))
  where
    by_text : (x : Text) → is_connection (Some x) ≡ false → TextTyped s k x → KeyAmong (Declared d.0) (map key_of (own_cells s k x))
    by_text (BlockText begin ds ss) c' z = from_key s (numbers_of s k) d c h a e
    by_text (ProcedureText result g b) c' z = behind_result result (Declared d.0) (cells_from s (numbers_of s k)) (from_key s (numbers_of s k) d c h a e)
    by_text (ClassText prefix g ds ss) c' z = attribute_key s (numbers_of s k) d c h a e
    by_text (PrefixedText class arguments ds ss) c' z = attribute_key s (numbers_of s k) d c h a e
    by_text ConnectionText c' z = absurd (cc)
    by_text (StandardText which) c' z = attribute_key s (numbers_of s k) d c h a e

pub key_of_result : (s : Source) (k : ℕ) (type : TypeName) (g : Heading) (b : Statement) → text s k ≡ Some (ProcedureText (Some type) g b) → KeyAmong Result (keys_in s k (text s k))
unfolding first_cells
key_of_result s k type g b e = subst (λ z. KeyAmong Result (keys_in s k z)) (sym e) first_key
