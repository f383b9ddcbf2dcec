-- Connections go on: the object that is connected is there in its cell, for as long as the instance is.
use Rattle.std.proofs.Common.{◌≡◌, ℕ, Bool, true, false, List, [], ◌∷◌, length, map, Option, Some, None, refl, sym, ap, ◌∙◌, subst}
use Rattle.std.specs.Prelude.{if◌then◌else◌}
use Rattle.sim_base.specs.declared.limits.Limits.{Limits}
use Rattle.sim_scope.specs.Levels.{base}
use Rattle.sim_scope.specs.Source.{Source}
use Rattle.sim_tree.specs.Syntax.{Arms, NoArm, Statement, Statements, When}
use Rattle.sim_values.specs.declared.kind.Kind.TheVariants as kind
use Rattle.sim_values.specs.Plain.{Character, Integer, MainOf, Nothing, Object, Plain, Text, Truth, kind_of}
use Rattle.sim_code.specs.Events.{pop_plain}
use Rattle.sim_code.specs.Instances as instances
use Rattle.sim_code.specs.Instances.{Instance, live, with_instance}
use Rattle.sim_code.specs.Outcome.{World}
use Rattle.sim_meaning.specs.Attributes.{cell_of_connection, is_connection}
use Rattle.sim_meaning.specs.Connections.{arm_tried, arms_tried, connected, object_connected}
use Rattle.sim_meaning.specs.Levels.{class_at, stands_in}
use Rattle.sim_meaning.specs.Meaning.{do_op}
use Rattle.sim_meaning.specs.Pending.{Activation, ConnectOp, Connection, Declared, Do, Exec, Execs, Held, Instances, Item, Key, Of, PastOp, Result, Val, WhenOp, cell_made, held, held_put, made_in, plain, same_key, Origin}
use Rattle.sim_meaning.specs.Steps.{go}
use Rattle.sim_sound.specs.Held.{Holds, Simply, connection_holds, key_holds, reference_to}
use Rattle.sim_sound.specs.Statements.{ArmsAre, ConnectionIs, StatementIs, StatementsAre}
use Rattle.sim_sound.specs.Typed.{Typed}
use Rattle.sim_sound.proofs.Changes.{cell_of}
use Rattle.sim_sound.proofs.Evals.{IsFine, Work, goes_on}
use Rattle.sim_sound.proofs.Fitting.{main_of_class, of_class}
use Rattle.sim_sound.proofs.Later.{All, Later, seated_later}
use Rattle.sim_sound.proofs.Lifts.{Goes, had, known_popped}
use Rattle.sim_sound.proofs.Lists.{numbers_equal}
use Rattle.sim_sound.proofs.Moves.{later_cells, same_cells, set_lives, store_cells}
use Rattle.sim_sound.proofs.Ops.{later_hands, later_work, same_copies}
use Rattle.sim_sound.proofs.Prefixes.{same_is}
use Rattle.sim_sound.proofs.References.{reference_popped}
use Rattle.sim_sound.proofs.Running.{Begun, Operates}
use Rattle.sim_sound.proofs.Sound.{Site}
use Rattle.sim_sound.proofs.Values.{AllArrays, CellFine, CellsFine, HandsFine, KeyAmong, Kinds, Marks, PlainFine, ReferenceFine, StandsFor, ValFine, Value, connected as through, first_key, key_of, later_key, own_text, see}

-- ---- a cell that is there from now on

same_keys : (a b : Key) → same_key a b ≡ true → a ≡ b
same_keys (Declared d) (Declared e) h = ap Declared (numbers_equal d e h)
same_keys Result Result h = refl
same_keys (Connection d) (Connection e) h = ap Connection (numbers_equal d e h)
same_keys Origin Origin h = refl
same_keys (Declared d) Origin h = absurd (cc)
same_keys Result Origin h = absurd (cc)
same_keys (Connection d) Origin h = absurd (cc)
same_keys Origin (Declared e) h = absurd (cc)
same_keys Origin Result h = absurd (cc)
same_keys Origin (Connection e) h = absurd (cc)
same_keys (Declared d) Result h = absurd (cc)
same_keys (Declared d) (Connection e) h = absurd (cc)
same_keys Result (Declared d) h = absurd (cc)
same_keys Result (Connection e) h = absurd (cc)
same_keys (Connection d) (Declared e) h = absurd (cc)
same_keys (Connection d) Result h = absurd (cc)

module _ (key : Key) (v : Val) where
  abbrev put_behind : Bool → Held → List Held → List Held
  put_behind c h hs = if c then record { key = h.key; value = Some v } ∷ hs else h ∷ held_put key v hs

  keys_put : (k : Key) (hs : List Held) → KeyAmong k (map key_of hs) → KeyAmong k (map key_of (held_put key v hs))
  keys_put k [] a = elim a [ ]
  keys_put k (h ∷ hs) a = by_key (same_key h.key key) (λ b. keys_put k hs b) a
    where
      by_key : (c : Bool) → (KeyAmong k (map key_of hs) → KeyAmong k (map key_of (held_put key v hs))) → KeyAmong k (h.key ∷ map key_of hs) → KeyAmong k (map key_of (put_behind c h hs))
      by_key true more a = a
      by_key false more a = behind h.key a
        where
          behind : (x : Key) → KeyAmong k (x ∷ map key_of hs) → KeyAmong k (x ∷ map key_of (held_put key v hs))
          behind _ first_key = first_key
          behind x (later_key b) = later_key (more b)

  key_put : (hs : List Held) → KeyAmong key (map key_of (held_put key v hs))
  key_put [] = first_key
  key_put (h ∷ hs) = by_key (same_key h.key key) refl (key_put hs)
    where
      by_key : (c : Bool) → same_key h.key key ≡ c → KeyAmong key (map key_of (held_put key v hs)) → KeyAmong key (map key_of (put_behind c h hs))
      by_key true e more = subst (λ z. KeyAmong key (z ∷ map key_of hs)) (sym (same_keys h.key key e)) first_key
      by_key false e more = later_key more

  if_held : (c : Bool) (x y y' : Option Val) → (y ≡ None → y' ≡ None) → (if c then x else y) ≡ None → (if c then x else y') ≡ None
  if_held true x y y' f e = e
  if_held false x y y' f e = f e

  if_put : (c : Bool) (x y : Option Val) → (if c then Some v else y) ≡ None → (if c then x else y) ≡ None
  if_put true x y e = absurd (cc)
  if_put false x y e = e

  holds_put : (k : Key) (hs : List Held) → held k (held_put key v hs) ≡ None → held k hs ≡ None
  holds_put k [] e = refl
  holds_put k (h ∷ hs) e = by_key (same_key h.key key) (λ f. holds_put k hs f) e
    where
      by_key : (c : Bool) → (held k (held_put key v hs) ≡ None → held k hs ≡ None) → held k (put_behind c h hs) ≡ None → held k (h ∷ hs) ≡ None
      by_key true more f = if_put (same_key h.key k) h.value (held k hs) f
      by_key false more f = if_held (same_key h.key k) h.value (held k (held_put key v hs)) (held k hs) more f

  cells_put : (s : Source) (o : AllArrays) (m : Instances) (j t : ℕ) (x : Holds) → key_holds s t key ≡ Some x → ValFine s o m j x v → (hs : List Held) → CellsFine s o m j t hs → CellsFine s o m j t (held_put key v hs)
  cells_put s o m j t x is fine [] a = (subst (λ z. CellFine s o m j z (Some v)) (sym is) (cell_of s o m j x v fine), tt)
  cells_put s o m j t x is fine (h ∷ hs) a = by_key (same_key h.key key) refl (cells_put s o m j t x is fine hs a.1)
    where
      by_key : (c : Bool) → same_key h.key key ≡ c → CellsFine s o m j t (held_put key v hs) → CellsFine s o m j t (put_behind c h hs)
      by_key true e more = (subst (λ z. CellFine s o m j z (Some v)) (sym (ap (key_holds s t) (same_keys h.key key e) ∙ is)) (cell_of s o m j x v fine), a.1)
      by_key false e more = (a.0, more)

-- what an instance stands for with more cells
stands_more : (s : Source) (x : Instance (List Held)) (cells : List Held) → ((k : Key) → KeyAmong k (map key_of x.cells) → KeyAmong k (map key_of cells)) → (t : ℕ) → StandsFor s x t → StandsFor s (record x { cells = cells }) t
stands_more s x cells keys t (own_text is) = own_text is
stands_more s x cells keys t (through {u = u} is around there a) = through is around (keys _ there) (stands_more s x cells keys u a)

module _ (s : Source) (ok : Typed s) (l : Limits) (o : World) (g : Marks) (long : length g.sights ≡ length o.arrays) (m : Instances) (i t : ℕ) (rest : List Activation) (top : Operates g.beneath g.seat m i rest) (w : List Item) (ks : List Kinds) (b : Begun s (see g o) m i t []) (work : Work s o g long m i t rest top w [] ks) where
  -- a reference of the class that is connected
  reference_val : (x : Option ℕ) (p : Plain) → PlainFine s m (reference_to x) p → ValFine s (see g o) m i (reference_to x) (Of p)
  reference_val None p a = a
  reference_val (Some k) p a = a

  connected_goes : (u token : ℕ) → Site s m i u → (c : ConnectionIs s u token) → (r : Plain) (a : Statement) → StatementIs s c.number a → (vals : List Val) → HandsFine s (see g o) m i ks vals → PlainFine s m (reference_to (base s.tables c.number)) r → Goes (IsFine s) (connected o m i w vals rest token r a)
  connected_goes u token site c r a is vals h fine =
      let p = b.here in
      let x = p.now in
      let key = Connection token in
      let v = Of r in
      let cells = held_put key v x.cells in
      let keys : (k : Key) → KeyAmong k (map key_of x.cells) → KeyAmong k (map key_of cells) = λ k z. keys_put key v k x.cells z in
      let stays : (k : Key) → held k cells ≡ None → held k x.cells ≡ None = λ k z. holds_put key v k x.cells z in
      let n = with_instance m i (record x { cells = cells }) in
      let e : Later s (see g o) m (see g o) n All = later_cells s (see g o) m i x p.lives cells keys stays in
      let same = same_cells s (see g o) m i x p.lives cells keys stays in
      let held_there : key_holds s x.text key ≡ Some (reference_to (base s.tables c.number)) = ap (connection_holds s) c.around in
      let store = store_cells s (see g o) m i x p.lives cells keys stays (cells_put key v s (see g o) m i x.text (reference_to (base s.tables c.number)) held_there (reference_val (base s.tables c.number) r fine) x.cells (b.store.instances i x p.lives).cells) b.store in
      let made : cell_made m i key v ≡ Some n = ap (λ z. instances.cells_put m i z (made_in (instances.cells_in z) key v)) p.lives in
      let at_key : KeyAmong (cell_of_connection s c.number) (map key_of cells) = subst (λ z. KeyAmong (Connection z) (map key_of cells)) (sym c.begins) (key_put key v x.cells) in
      let same_instance : site.now ≡ x = same_live site.now x site.lives p.lives in
      let stands : StandsFor s (record x { cells = cells }) c.number = through (ap is_connection c.is) c.stands_in at_key (stands_more s x cells keys u (subst (λ z. StandsFor s z u) same_instance site.stands)) in
      let there : Site s n i c.number = record { now = record x { cells = cells }; lives = set_lives s (see g o) m i x p.lives cells keys stays; stands = stands } in
      had (IsFine s) (cell_made m i key v) n o (λ m. go o m i (Do (Exec a) ∷ Do PastOp ∷ w) vals rest) made
      (goes_on s o g long n i t rest (Rattle.sim_sound.proofs.Moves.operates_on g.beneath g.seat m n i rest same top) (Do (Exec a) ∷ Do PastOp ∷ w) vals [] ks (record {
        store = store;
        here = record { now = record x { cells = cells }; lives = set_lives s (see g o) m i x p.lives cells keys stays; stands = own_text (same_is s x.text t b.own); words = p.words; has_text = p.has_text; made = λ y at d k holds among none. p.made y at d k holds among (stays (Declared d.0) none) };
        own = b.own;
        works = seated_later s (see g o) m (see g o) n All e g.seat i tt b.works;
      }) (later_hands s ok l o g long m i t rest top g o long refl refl refl n e (same_copies s ok l o g long m i t rest top) same store ks vals h)
      ([], ks, (refl, refl, refl, (c.number, there, is)), ([], ks, (refl, refl), later_work s ok l o g long m i t rest top g o long refl refl refl n e (same_copies s ok l o g long m i t rest top) same store w [] ks work)))
    where
      same_live : (y x : Instance (List Held)) → live m i ≡ Some y → live m i ≡ Some x → y ≡ x
      same_live y x e f = cc

  -- what follows `otherwise`
  others_go : (u : ℕ) → Site s m i u → (other : Statements) → StatementsAre s u other → (vals : List Val) → HandsFine s (see g o) m i ks vals → Goes (IsFine s) (go o m i (Do (Execs other) ∷ w) vals rest)
  others_go u site other is vals h = goes_on s o g long m i t rest top (Do (Execs other) ∷ w) vals [] ks b h ([], ks, (refl, refl, refl, (u, site, is)), work)

  object_goes : (u token : ℕ) → Site s m i u → (c : ConnectionIs s u token) → (a : Statement) (other : Statements) → StatementIs s c.number a → StatementsAre s u other → (vals : List Val) → HandsFine s (see g o) m i ks vals → (p : Plain) → kind_of p ≡ kind.Reference → PlainFine s m (reference_to (base s.tables c.number)) p → Goes (IsFine s) (object_connected o m i w vals rest token a other p)
  object_goes u token site c a other is are vals h (Object j) e fine = connected_goes u token site c (Object j) a is vals h fine
  object_goes u token site c a other is are vals h (MainOf z) e fine = connected_goes u token site c (MainOf z) a is vals h fine
  object_goes u token site c a other is are vals h Nothing e fine = others_go u site other are vals h
  object_goes u token site c a other is are vals h (Integer z) e fine = absurd (cc)
  object_goes u token site c a other is are vals h (Character z) e fine = absurd (cc)
  object_goes u token site c a other is are vals h (Truth z) e fine = absurd (cc)
  object_goes u token site c a other is are vals h (Text z) e fine = absurd (cc)

  reference_kind : (c : ℕ) (p : Plain) → ReferenceFine s m c p → kind_of p ≡ kind.Reference
  reference_kind c (Object j) a = refl
  reference_kind c (MainOf z) a = refl
  reference_kind c Nothing a = refl
  reference_kind c (Integer z) a = absurd a
  reference_kind c (Character z) a = absurd a
  reference_kind c (Truth z) a = absurd a
  reference_kind c (Text z) a = absurd a

  -- the reference that is connected
  popped_reference : (x : Option ℕ) (vals : List Val) (f : Plain → List Val → _) → HandsFine s (see g o) m i (Value (reference_to x) ∷ ks) vals → ((p : Plain) (vs : List Val) → kind_of p ≡ kind.Reference → PlainFine s m (reference_to x) p → HandsFine s (see g o) m i ks vs → Goes (IsFine s) (f p vs)) → Goes (IsFine s) (pop_plain plain vals o f)
  popped_reference None vals f h go = known_popped (IsFine s) s (see g o) m i kind.Reference ks vals o f h (λ p vs e more. go p vs e.0 e more)
  popped_reference (Some k) vals f h go = reference_popped (IsFine s) s (see g o) m i k ks vals o f h (λ p vs e more. go p vs (reference_kind k p e) e more)

  pub connect_goes : (token : ℕ) (a : Statement) (other : Statements) (u : ℕ) → Site s m i u → (c : ConnectionIs s u token) → StatementIs s c.number a → StatementsAre s u other → (vals : List Val) → HandsFine s (see g o) m i (Value (reference_to (base s.tables c.number)) ∷ ks) vals → Goes (IsFine s) (do_op s l o m i w vals rest (ConnectOp token a other))
  connect_goes token a other u site c is are vals h =
      popped_reference (base s.tables c.number) vals (λ p vs. object_connected o m i w vs rest token a other p) h (λ p vs e fine more. object_goes u token site c a other is are vs more p e fine)

  -- ---- `when`

  arm_goes : (fits : Bool) (u token : ℕ) → Site s m i u → (c : ConnectionIs s u token) → (r : Plain) (k : ℕ) (a : Statement) (more : Arms) (other : Statements) → base s.tables c.number ≡ Some k → PlainFine s m (Simply kind.Reference) r → (fits ≡ true → ReferenceFine s m k r) → StatementIs s c.number a → ArmsAre s u more → StatementsAre s u other → (vals : List Val) → HandsFine s (see g o) m i ks vals → Goes (IsFine s) (arm_tried o m i w vals rest fits token r a more other)
  arm_goes true u token site c r k a more other class fine test is arms are vals h = connected_goes u token site c r a is vals h (subst (λ z. PlainFine s m (reference_to z) r) (sym class) (test refl))
  arm_goes false u token site c r k a more other class fine test is arms are vals h =
      goes_on s o g long m i t rest top (Do (WhenOp more other) ∷ w) (Of r ∷ vals) [] (Value (Simply kind.Reference) ∷ ks) b (fine, h) ([], ks, (refl, refl, refl, (u, site, (arms, are))), work)

  arms_go : (arms : Arms) (other : Statements) (u : ℕ) → Site s m i u → ArmsAre s u arms → StatementsAre s u other → (vals : List Val) → HandsFine s (see g o) m i ks vals → (p : Plain) → PlainFine s m (Simply kind.Reference) p → Goes (IsFine s) (arms_tried s o m i w vals rest arms other p)
  unfolding stands_in
  arms_go (When token class opening a end more) other u site is are vals h (Object j) fine =
      let k = is.1 in
      let y = fine.1 in
      had (IsFine s) (class_at s class.token.0) k o (λ k. arm_tried o m i w vals rest (stands_in s m k (Object j)) opening (Object j) a more other) is.2
      (arm_goes (stands_in s m k (Object j)) u opening site is.0 (Object j) k a more other is.3 fine (λ e. of_class s m j y.0 k y.1 e) is.4 is.5 are vals h)
  arms_go (When token class opening a end more) other u site is are vals h (MainOf z) fine =
      let k = is.1 in
      let y = fine.1 in
      had (IsFine s) (class_at s class.token.0) k o (λ k. arm_tried o m i w vals rest (stands_in s m k (MainOf z)) opening (MainOf z) a more other) is.2
      (arm_goes (stands_in s m k (MainOf z)) u opening site is.0 (MainOf z) k a more other is.3 fine (λ e. main_of_class s m ok z y.0 k y.1 e) is.4 is.5 are vals h)
  arms_go NoArm other u site is are vals h (Object j) fine = others_go u site other are vals h
  arms_go NoArm other u site is are vals h (MainOf z) fine = others_go u site other are vals h
  arms_go (When token class opening a end more) other u site is are vals h Nothing fine = others_go u site other are vals h
  arms_go NoArm other u site is are vals h Nothing fine = others_go u site other are vals h
  arms_go arms other u site is are vals h (Integer z) fine = let e = fine.0 in absurd (cc)
  arms_go arms other u site is are vals h (Character z) fine = let e = fine.0 in absurd (cc)
  arms_go arms other u site is are vals h (Truth z) fine = let e = fine.0 in absurd (cc)
  arms_go arms other u site is are vals h (Text z) fine = let e = fine.0 in absurd (cc)

  pub when_goes : (arms : Arms) (other : Statements) (u : ℕ) → Site s m i u → ArmsAre s u arms → StatementsAre s u other → (vals : List Val) → HandsFine s (see g o) m i (Value (Simply kind.Reference) ∷ ks) vals → Goes (IsFine s) (do_op s l o m i w vals rest (WhenOp arms other))
  when_goes arms other u site is are vals h =
      known_popped (IsFine s) s (see g o) m i kind.Reference ks vals o (λ p vs. arms_tried s o m i w vs rest arms other p) h (λ p vs e more. arms_go arms other u site is are vs more p e)
