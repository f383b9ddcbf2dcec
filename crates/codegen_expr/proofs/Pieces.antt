-- Pieces of code, one behind another.
use Rattle.std.proofs.Common.{◌≡◌, ◌≢◌, ℕ, zero, suc, ◌+◌, ◌-◌, ◌<◌, ◌≤◌, max, true, false, ℤ, pos, List, [], ◌∷◌, ◌++◌, length, Some, ⊎_elim, refl, sym, ap, ◌∙◌, subst, arith, append_assoc, append-nil, length-append}
use Rattle.std.specs.Prelude.{⊤, slice_get, slice_set}
use Rattle.std.proofs.lemmas.Bool.{cases_eq}
use Rattle.std.proofs.Math.Nat.{le-max_left, le-max_right}
use Rattle.sim_code.specs.declared.instr.Instr.{Instr}
use Rattle.sim_code.specs.declared.instr.Instr.TheVariants as i
use Rattle.sim_code.specs.declared.instr.Lined.{Lined}
use Rattle.sim_code.specs.declared.code.ThunkRecord.{ThunkRecord}
use Rattle.sim_code.specs.Code.{CodeOf}
use Rattle.sim_code.specs.Running.{AllRun, runs}
use Rattle.codegen_expr.specs.declared.spot.Spot.{Spot}
use Rattle.sim_scope.specs.Source.{Source}
use Rattle.codegen_expr.specs.Sites.{At, IfAt, Pushes, Site, block_number, class_number, lined, WhenAt, LoopAt}
use Rattle.codegen_expr.specs.Drafts.{Becomes, DraftOf, PlannedOf, Emits, Grows, Longer, MoreThunks, ThunksGrow, class_of, filled_in, given_up, open_thunk, planned_at, planned_in, with_hole, with_instr, with_push, with_room, with_temp}

pub set_len : {A : Type 0} (xs : List A) (i : ℕ) (v : A) → length (slice_set xs i v) ≡ length xs
set_len [] i v = refl
set_len (x ∷ xs) zero v = refl
set_len (x ∷ xs) (suc i) v = ap suc (set_len xs i v)

pub set_same : {A : Type 0} (xs : List A) (i : ℕ) (old v : A) → slice_get xs i ≡ Some old → slice_get (slice_set xs i v) i ≡ Some v
set_same [] i old v h = absurd (cc)
set_same (x ∷ xs) zero old v h = refl
set_same (x ∷ xs) (suc i) old v h = set_same xs i old v h

pub set_other : {A : Type 0} (xs : List A) (i j : ℕ) (v : A) → j ≢ i → slice_get (slice_set xs i v) j ≡ slice_get xs j
set_other [] i j v h = refl
set_other (x ∷ xs) zero zero v h = absurd (h refl)
set_other (x ∷ xs) zero (suc j) v h = refl
set_other (x ∷ xs) (suc i) zero v h = refl
set_other (x ∷ xs) (suc i) (suc j) v h = set_other xs i j v (λ e. h (ap suc e))

pub append_at : {A : Type 0} (xs : List A) (y : A) → slice_get (xs ++ (y ∷ [])) (length xs) ≡ Some y
append_at [] y = refl
append_at (x ∷ xs) y = append_at xs y

pub get_front : {A : Type 0} (xs ys : List A) (k : ℕ) (x : A) → slice_get xs k ≡ Some x → slice_get (xs ++ ys) k ≡ Some x
get_front [] ys k x e = absurd (cc)
get_front (y ∷ xs) ys zero x e = e
get_front (y ∷ xs) ys (suc k) x e = get_front xs ys k x e

pub grows_then : (a b c : List Lined) → Grows a b → Grows b c → Grows a c
grows_then a b c f g = record { keeps = λ k x e ne. g.keeps k x (f.keeps k x e ne) ne }

-- the front of a longer list
abbrev pub Fronts : List Lined → List Lined → Type 0
Fronts a b = (r : List Lined) × (b ≡ a ++ r)

pub fronts_then : (a b c : List Lined) → Fronts a b → Fronts b c → Fronts a c
fronts_then a b c f g = (f.0 ++ g.0, g.1 ∙ ap (λ z. z ++ g.0) f.1 ∙ append_assoc a f.0 g.0)

pub grows_front : (a b : List Lined) → Fronts a b → Grows a b
grows_front a b f = record { keeps = λ k x is _. subst (λ l. slice_get l k ≡ Some x) (sym f.1) (get_front a f.0 k x is) }

pub fronts_le : (a b : List Lined) → Fronts a b → length a ≤ length b
fronts_le a b f = let e : length b ≡ length a + length f.0 = ap length f.1 ∙ length-append a f.0 in omega arith

-- longer lists
pub more_same : {A : Type 0} {a b : List A} → b ≡ a → Longer a b
more_same {A} {a} {b} e = record { more = []; front = e ∙ sym (append-nil a) }

pub more_then : {A : Type 0} {a b c : List A} → Longer a b → Longer b c → Longer a c
more_then {A} {a} {b} {c} f g = record { more = f.more ++ g.more; front = g.front ∙ ap (λ z. z ++ g.more) f.front ∙ append_assoc a f.more g.more }

pub more_before : {A : Type 0} {a b c : List A} → b ≡ a → Longer b c → Longer a c
more_before {A} {a} {b} {c} e f = record { more = f.more; front = f.front ∙ ap (λ z. z ++ f.more) e }

pub more_behind : {A : Type 0} {a b c : List A} → c ≡ b → Longer a b → Longer a c
more_behind {A} {a} {b} {c} e f = record { more = f.more; front = e ∙ f.front }

-- further thunks
pub still_same : {a b : List ThunkRecord} → b ≡ a → MoreThunks a b
still_same {a} {b} e = record { more = []; front = e ∙ sym (append-nil a); opened = ap open_thunk e }

pub still_then : {a b c : List ThunkRecord} → MoreThunks a b → MoreThunks b c → MoreThunks a c
still_then {a} {b} {c} f g = record { more = f.more ++ g.more; front = g.front ∙ ap (λ z. z ++ g.more) f.front ∙ append_assoc a f.more g.more; opened = g.opened ∙ f.opened }

pub still_before : {a b c : List ThunkRecord} → b ≡ a → MoreThunks b c → MoreThunks a c
still_before {a} {b} {c} e f = record { more = f.more; front = f.front ∙ ap (λ z. z ++ f.more) e; opened = f.opened ∙ ap open_thunk e }

pub still_behind : {a b c : List ThunkRecord} → c ≡ b → MoreThunks a b → MoreThunks a c
still_behind {a} {b} {c} e f = record { more = f.more; front = e ∙ f.front; opened = ap open_thunk e ∙ f.opened }

pub thunks_grow : (a b c : List ThunkRecord) → MoreThunks a b → ThunksGrow b c → ThunksGrow a c
thunks_grow a b c f g = record { keeps = λ k x is some'. g.keeps k x (subst (λ l. slice_get l k ≡ Some x) (sym f.front) (get_front a f.more k x is)) some' }

-- a write past the front
set_past : {A : Type 0} (xs ys : List A) (k : ℕ) (x : A) → slice_set (xs ++ ys) (length xs + k) x ≡ xs ++ slice_set ys k x
set_past [] ys k x = let e : 0 + k ≡ k = omega arith in ap (λ n. slice_set ys n x) e
set_past (z ∷ xs) ys k x = let e : suc (length xs) + k ≡ suc (length xs + k) = omega arith in ap (λ n. slice_set (z ∷ (xs ++ ys)) n x) e ∙ ap (λ l. z ∷ l) (set_past xs ys k x)

pub fronts_set : (a b new : List Lined) (k : ℕ) (x : Lined) → Fronts a b → length a ≤ k → new ≡ slice_set b k x → Fronts a new
fronts_set a b new k x f le e =
    let at : k ≡ length a + (k - length a) = omega (arith, le) in
    (slice_set f.0 (k - length a) x, e ∙ ap (λ z. slice_set z k x) f.1 ∙ ap (λ n. slice_set (a ++ f.0) n x) at ∙ set_past a f.0 (k - length a) x)

pub more_set : (a b : List ThunkRecord) (k : ℕ) (x : ThunkRecord) → Longer a b → length a ≤ k → Longer a (slice_set b k x)
more_set a b k x f le =
    let at : k ≡ length a + (k - length a) = omega (arith, le) in
    record { more = slice_set f.more (k - length a) x; front = ap (λ z. slice_set z k x) f.front ∙ ap (λ n. slice_set (a ++ f.more) n x) at ∙ set_past a f.more (k - length a) x }

-- a hole that is filled
pub fill : (code new : List Lined) (k n : ℕ) (x : Lined) → slice_get code k ≡ Some (lined i.Halt n) → new ≡ slice_set code k x → Grows code new
fill code new k n x hole e = record {
  keeps = λ j y is ne.
      ⊎_elim
      (λ same. absurd (ne (ap (λ z. z.instr) (some_same y (lined i.Halt n) (sym (subst (λ z. slice_get code z ≡ Some y) same is) ∙ hole)))))
      (λ other. ap (λ l. slice_get l j) e ∙ set_other code k j x other ∙ is)
      (cases_eq j k);
}
  where
    some_same : (y z : Lined) → Some y ≡ Some z → y ≡ z
    some_same y z h = cc

plus_one : (a b : List Lined) (x : Lined) → b ≡ a ++ (x ∷ []) → length b ≡ suc (length a)
plus_one a b x e = ap length e ∙ length-append a (x ∷ []) ∙ (let t : length a + length (x ∷ []) ≡ suc (length a) = omega arith in t)

-- ---- instructions that the machine does

all_run_append : (xs : List Lined) (y : Lined) (k : ℕ) (x : Lined) → ((j : ℕ) (u : Lined) → slice_get xs j ≡ Some u → runs u.instr ≡ true) → runs y.instr ≡ true → slice_get (xs ++ (y ∷ [])) k ≡ Some x → runs x.instr ≡ true
all_run_append [] y zero x h e is = let same : y ≡ x = some_is y x is in subst (λ z. runs z.instr ≡ true) same e
  where
    some_is : (y z : Lined) → Some y ≡ Some z → y ≡ z
    some_is y z h = cc
all_run_append [] y (suc k) x h e is = absurd (cc)
all_run_append (z ∷ xs) y zero x h e is = h zero x is
all_run_append (z ∷ xs) y (suc k) x h e is = all_run_append xs y k x (λ j u. h (suc j) u) e is

all_run_set : (xs : List Lined) (i : ℕ) (y : Lined) (k : ℕ) (x : Lined) → ((j : ℕ) (u : Lined) → slice_get xs j ≡ Some u → runs u.instr ≡ true) → runs y.instr ≡ true → slice_get (slice_set xs i y) k ≡ Some x → runs x.instr ≡ true
all_run_set [] i y k x h e is = h k x is
all_run_set (z ∷ xs) zero y zero x h e is = let same : y ≡ x = some_is y x is in subst (λ z. runs z.instr ≡ true) same e
  where
    some_is : (y z : Lined) → Some y ≡ Some z → y ≡ z
    some_is y z h = cc
all_run_set (z ∷ xs) zero y (suc k) x h e is = h (suc k) x is
all_run_set (z ∷ xs) (suc i) y zero x h e is = h zero x is
all_run_set (z ∷ xs) (suc i) y (suc k) x h e is = all_run_set xs i y k x (λ j u. h (suc j) u) e is

pub run_more : (a b : List Lined) (y : Lined) → b ≡ a ++ (y ∷ []) → runs y.instr ≡ true → AllRun a → AllRun b
unfolding AllRun
run_more a b y e r h = λ k x is. all_run_append a y k x h r (ap (λ l. slice_get l k) (sym e) ∙ is)

pub run_set : (a b : List Lined) (k : ℕ) (y : Lined) → b ≡ slice_set a k y → runs y.instr ≡ true → AllRun a → AllRun b
unfolding AllRun
run_set a b i y e r h = λ k x is. all_run_set a i y k x h r (ap (λ l. slice_get l k) (sym e) ∙ is)

-- ---- drafts

-- a draft, and a later one
pub record Later (a b : DraftOf) : Type 0 where
  pub front : Fronts a.instrs b.instrs
  pub roomier : a.room ≤ b.room
  pub larger : a.size ≤ b.size
  pub classed : b.classes ≡ a.classes
  pub thunked : MoreThunks a.thunks b.thunks
  pub listed : Longer a.lists b.lists

pub later_then : (a b c : DraftOf) → Later a b → Later b c → Later a c
later_then a b c f g = record { front = fronts_then a.instrs b.instrs c.instrs f.front g.front; roomier = (let ab = f.roomier in let bc = g.roomier in omega (arith, ab, bc)); larger = (let ab = f.larger in let bc = g.larger in omega (arith, ab, bc)); classed = g.classed ∙ f.classed; thunked = still_then f.thunked g.thunked; listed = more_then f.listed g.listed }

pub later_emits : (t : Spot) (a b : DraftOf) (P : Type 0) (H : CodeOf → Site → ℕ → ℕ → Type 0) → Emits t a b P H → Later a b
later_emits t a b P H e = record { front = (e.rest, e.front); roomier = e.roomier; larger = e.larger; classed = e.classed; thunked = e.thunked; listed = e.listed }

le_same : (m n : ℕ) → n ≡ m → m ≤ n
le_same m n e = omega (arith, e)

pub later_hole : (a b : DraftOf) → b ≡ with_hole a → Later a b
unfolding with_hole
later_hole a b e = record { front = (lined i.Halt 0 ∷ [], ap (λ z. z.instrs) e); roomier = le_same a.room b.room (ap (λ z. z.room) e); larger = le_same a.size b.size (ap (λ z. z.size) e); classed = ap (λ z. z.classes) e; thunked = still_same (ap (λ z. z.thunks) e); listed = more_same (ap (λ z. z.lists) e) }

-- what the earlier one becomes is what the later one becomes
pub becomes_later : (t : Spot) (a b : DraftOf) (final : CodeOf) (site : Site) → Later a b → Becomes t b final site → Becomes t a final site
becomes_later t a b final site l g =
    let le = fronts_le a.instrs b.instrs l.front in
    let ab = l.roomier in
    let bs = g.roomy in
    let ab' = l.larger in
    let bs' = g.sized in
    let fs = g.follows in
    record {
      grows = grows_then a.instrs b.instrs final.instrs (grows_front a.instrs b.instrs l.front) g.grows;
      roomy = omega (arith, ab, bs);
      sized = omega (arith, ab', bs');
      stands = g.stands;
      temps = g.temps;
      taken = g.taken;
      follows = omega (arith, le, fs);
      thunked = thunks_grow a.thunks b.thunks final.thunks l.thunked g.thunked;
      belongs = g.belongs ∙ l.thunked.opened;
      listed = more_then l.listed g.listed;
      classed = λ k. g.classed k ∙ ap (λ z. planned_at z k) l.classed;
    }

pub becomes_filled : (t : Spot) (a b : DraftOf) (final : CodeOf) (site : Site) (k : ℕ) (x : Instr) → slice_get a.instrs k ≡ Some (lined i.Halt 0) → b ≡ filled_in a k x → Becomes t b final site → Becomes t a final site
unfolding filled_in
becomes_filled t a b final site k x hole e g =
    let ei : b.instrs ≡ slice_set a.instrs k (lined x 0) = ap (λ z. z.instrs) e in
    let er : b.room ≡ a.room = ap (λ z. z.room) e in
    let el : length b.instrs ≡ length a.instrs = ap length ei ∙ set_len a.instrs k (lined x 0) in
    let bs = g.roomy in
    let er' : b.size ≡ a.size = ap (λ z. z.size) e in
    let bs' = g.sized in
    let fs = g.follows in
    record {
      grows = grows_then a.instrs b.instrs final.instrs (fill a.instrs b.instrs k 0 (lined x 0) hole ei) g.grows;
      roomy = omega (arith, er, bs);
      sized = omega (arith, er', bs');
      stands = g.stands;
      temps = g.temps;
      taken = g.taken;
      follows = omega (arith, el, fs);
      thunked = subst (λ z. ThunksGrow z final.thunks) (ap (λ z. z.thunks) e) g.thunked;
      belongs = g.belongs ∙ ap (λ z. open_thunk z.thunks) e;
      listed = subst (λ z. Longer z final.actual_lists) (ap (λ z. z.lists) e) g.listed;
      classed = λ k. g.classed k ∙ ap (λ z. planned_at z.classes k) e;
    }

-- one instruction
pub emits_at : (t : Spot) (a b : DraftOf) (x : Instr) (line : ℕ) → b ≡ with_instr a x line → x ≢ i.Halt → runs x ≡ true → Emits t a b ⊤ (λ final site p q. At final x line p q)
unfolding with_instr
emits_at t a b x line e ne r =
    let ei : b.instrs ≡ a.instrs ++ (lined x line ∷ []) = ap (λ z. z.instrs) e in
    let ew : b.whole ≡ a.whole = ap (λ z. z.whole) e in
    record {
      rest = lined x line ∷ [];
      front = ei;
      roomier = le_same a.room b.room (ap (λ z. z.room) e);
      larger = le_same a.size b.size (ap (λ z. z.size) e);
      classed = ap (λ z. z.classes) e;
      thunked = still_same (ap (λ z. z.thunks) e);
      listed = more_same (ap (λ z. z.lists) e);
      built = λ _ w. ew ∙ w;
      before = λ w. sym ew ∙ w;
      only = λ w. tt;
      fits = run_more a.instrs b.instrs (lined x line) ei r;
      at = λ w final site g. record {
        at = g.grows.keeps (length a.instrs) (lined x line) (subst (λ l. slice_get l (length a.instrs) ≡ Some (lined x line)) (sym ei) (append_at a.instrs (lined x line))) ne;
        on = plus_one a.instrs b.instrs (lined x line) ei;
      };
    }

-- one instruction that pushes
pub emits_push_at : (t : Spot) (a b : DraftOf) (n : ℕ) (x : Instr) (line : ℕ) → b ≡ with_push a n x line → x ≢ i.Halt → runs x ≡ true → Emits t a b ⊤ (λ final site p q. At final x line p q × (n < site.room))
unfolding with_push
emits_push_at t a b n x line e ne r =
    let ei : b.instrs ≡ a.instrs ++ (lined x line ∷ []) = ap (λ z. z.instrs) e in
    let ew : b.whole ≡ a.whole = ap (λ z. z.whole) e in
    let er : b.room ≡ max a.room (suc n) = ap (λ z. z.room) e in
    let left = le-max_left a.room (suc n) in
    let right = le-max_right a.room (suc n) in
    record {
      rest = lined x line ∷ [];
      front = ei;
      roomier = subst (λ z. a.room ≤ z) (sym er) left;
      larger = le_same a.size b.size (ap (λ z. z.size) e);
      classed = ap (λ z. z.classes) e;
      thunked = still_same (ap (λ z. z.thunks) e);
      listed = more_same (ap (λ z. z.lists) e);
      built = λ _ w. ew ∙ w;
      before = λ w. sym ew ∙ w;
      only = λ w. tt;
      fits = run_more a.instrs b.instrs (lined x line) ei r;
      at = λ w final site g. (
        record {
          at = g.grows.keeps (length a.instrs) (lined x line) (subst (λ l. slice_get l (length a.instrs) ≡ Some (lined x line)) (sym ei) (append_at a.instrs (lined x line))) ne;
          on = plus_one a.instrs b.instrs (lined x line) ei;
        },
        has_room (subst (λ z. suc n ≤ z) (sym er) right) g.roomy,
      );
    }
  where
    has_room : {m : ℕ} {r : ℕ} → suc n ≤ m → m ≤ r → n < r
    has_room h1 h2 = omega (arith, h1, h2)

-- what has no code
pub emits_nothing : (t : Spot) (a b : DraftOf) (P : Type 0) (H : CodeOf → Site → ℕ → ℕ → Type 0) → (P → ⊥) → b ≡ given_up a → Emits t a b P H
unfolding given_up
emits_nothing t a b P H never e =
    let ei : b.instrs ≡ a.instrs = ap (λ z. z.instrs) e in
    let ew : b.whole ≡ false = ap (λ z. z.whole) e in
    record {
      rest = [];
      front = ei ∙ sym (append-nil a.instrs);
      roomier = le_same a.room b.room (ap (λ z. z.room) e);
      larger = le_same a.size b.size (ap (λ z. z.size) e);
      classed = ap (λ z. z.classes) e;
      thunked = still_same (ap (λ z. z.thunks) e);
      listed = more_same (ap (λ z. z.lists) e);
      built = λ p w. absurd (never p);
      before = λ w. absurd (clash (sym ew ∙ w));
      only = λ w. absurd (clash (sym ew ∙ w));
      fits = subst AllRun (sym ei);
      at = λ w final site g. absurd (clash (sym ew ∙ w));
    }
  where
    clash : false ≡ true → ⊥
    clash h = cc

-- nothing
pub emits_none : (t : Spot) (a : DraftOf) → Emits t a a ⊤ (λ final site p q. q ≡ p)
emits_none t a = record { rest = []; front = sym (append-nil a.instrs); roomier = le_same a.room a.room refl; larger = le_same a.size a.size refl; classed = refl; thunked = still_same refl; listed = more_same refl; built = λ _ w. w; before = λ w. w; only = λ w. tt; fits = λ h. h; at = λ w final site g. refl }

-- one behind another
pub emits_then : (t : Spot) (P Q : Type 0) (A B : CodeOf → Site → ℕ → ℕ → Type 0) (a b c : DraftOf) → Emits t a b P A → Emits t b c Q B → Emits t a c (P × Q) (λ final site p q. (x : ℕ) × A final site p x × B final site x q)
emits_then t P Q A B a b c f g =
    let l = later_then a b c (later_emits t a b P A f) (later_emits t b c Q B g) in
    record {
      rest = l.front.0;
      front = l.front.1;
      roomier = l.roomier;
      larger = l.larger;
      classed = l.classed;
      thunked = l.thunked;
      listed = l.listed;
      built = λ p w. g.built p.1 (f.built p.0 w);
      before = λ w. f.before (g.before w);
      only = λ w. (f.only (g.before w), g.only w);
      fits = λ h. g.fits (f.fits h);
      at = λ w final site h. (length b.instrs, f.at (g.before w) final site (becomes_later t b c final site (later_emits t b c Q B g) h), g.at w final site h);
    }

-- said otherwise
pub emits_as : (t : Spot) (P Q : Type 0) (A B : CodeOf → Site → ℕ → ℕ → Type 0) (a b : DraftOf) → (Q → P) → (P → Q) → ((final : CodeOf) (site : Site) (p q : ℕ) → site.text ≡ t.text → site.used ≡ t.used → A final site p q → B final site p q) → Emits t a b P A → Emits t a b Q B
emits_as t P Q A B a b back forth f e = record { rest = e.rest; front = e.front; roomier = e.roomier; larger = e.larger; classed = e.classed; thunked = e.thunked; listed = e.listed; built = λ q w. e.built (back q) w; before = e.before; only = λ w. forth (e.only w); fits = e.fits; at = λ w final site g. f final site (length a.instrs) (length b.instrs) g.stands g.taken (e.at w final site g) }

pub emits_push : (t : Spot) (a b : DraftOf) (n : ℕ) (x : Instr) (line : ℕ) → b ≡ with_push a n x line → x ≢ i.Halt → runs x ≡ true → Emits t a b ⊤ (λ final site p q. Pushes final site n x p q)
emits_push t a b n x line e ne r = emits_as t ⊤ ⊤ (λ final site p q. At final x line p q × (n < site.room)) _ a b (λ z. z) (λ z. z) (λ final site p q _ _ r. record { is = record { line = line; is = r.0 }; fits = r.1 }) (emits_push_at t a b n x line e ne r)

-- one of two parts, with both jumps filled
pub emits_if : (t : Spot) (P Q R : Type 0) (A B C : CodeOf → Site → ℕ → ℕ → Type 0) (c0 c1 c2 c3 c4 c5 c6 c7 : DraftOf) (jump over : ℕ) (start end : ℤ)
    → Emits t c0 c1 P A → jump ≡ length c1.instrs → c2 ≡ with_hole c1 → Emits t c2 c3 Q B → over ≡ length c3.instrs → c4 ≡ with_hole c3 → start ≡ pos (length c4.instrs) → Emits t c4 c5 R C → end ≡ pos (length c5.instrs)
    → c6 ≡ filled_in c5 jump (i.JumpF start) → c7 ≡ filled_in c6 over (i.Jump end) → Emits t c0 c7 (P × Q × R) (λ final site p q. IfAt final (A final site) (B final site) (C final site) p q)
unfolding with_hole filled_in
emits_if t P Q R A B C c0 c1 c2 c3 c4 c5 c6 c7 jump over start end a ej e2 b eo e4 es c ee e6 e7 =
    let l01 : Later c0 c1 = later_emits t c0 c1 P A a in
    let l12 : Later c1 c2 = later_hole c1 c2 e2 in
    let l23 : Later c2 c3 = later_emits t c2 c3 Q B b in
    let l34 : Later c3 c4 = later_hole c3 c4 e4 in
    let l45 : Later c4 c5 = later_emits t c4 c5 R C c in
    let l35 : Later c3 c5 = later_then c3 c4 c5 l34 l45 in
    let l25 : Later c2 c5 = later_then c2 c3 c5 l23 l35 in
    let l15 : Later c1 c5 = later_then c1 c2 c5 l12 l25 in
    let l05 : Later c0 c5 = later_then c0 c1 c5 l01 l15 in
    let i2 : c2.instrs ≡ c1.instrs ++ (lined i.Halt 0 ∷ []) = ap (λ z. z.instrs) e2 in
    let i4 : c4.instrs ≡ c3.instrs ++ (lined i.Halt 0 ∷ []) = ap (λ z. z.instrs) e4 in
    let i6 : c6.instrs ≡ slice_set c5.instrs jump (lined (i.JumpF start) 0) = ap (λ z. z.instrs) e6 in
    let i7 : c7.instrs ≡ slice_set c6.instrs over (lined (i.Jump end) 0) = ap (λ z. z.instrs) e7 in
    let n01 : length c0.instrs ≤ length c1.instrs = fronts_le c0.instrs c1.instrs l01.front in
    let n12 : length c2.instrs ≡ suc (length c1.instrs) = plus_one c1.instrs c2.instrs (lined i.Halt 0) i2 in
    let n23 : length c2.instrs ≤ length c3.instrs = fronts_le c2.instrs c3.instrs l23.front in
    let n34 : length c4.instrs ≡ suc (length c3.instrs) = plus_one c3.instrs c4.instrs (lined i.Halt 0) i4 in
    let n45 : length c4.instrs ≤ length c5.instrs = fronts_le c4.instrs c5.instrs l45.front in
    let at0 : length c0.instrs ≤ jump = omega (arith, ej, n01) in
    let at1 : length c0.instrs ≤ over = omega (arith, eo, n01, n12, n23) in
    let f06 : Fronts c0.instrs c6.instrs = fronts_set c0.instrs c5.instrs c6.instrs jump (lined (i.JumpF start) 0) l05.front at0 i6 in
    let f07 : Fronts c0.instrs c7.instrs = fronts_set c0.instrs c6.instrs c7.instrs over (lined (i.Jump end) 0) f06 at1 i7 in
    let hole1 : slice_get c5.instrs jump ≡ Some (lined i.Halt 0) = hole c1.instrs c2.instrs c5.instrs jump l25.front ej i2 in
    let hole2' : slice_get c5.instrs over ≡ Some (lined i.Halt 0) = hole c3.instrs c4.instrs c5.instrs over l45.front eo i4 in
    let apart : over ≢ jump = λ h. (let f : ⊥ = omega (arith, h, ej, eo, n12, n23) in f) in
    let hole2 : slice_get c6.instrs over ≡ Some (lined i.Halt 0) = ap (λ z. slice_get z over) i6 ∙ set_other c5.instrs jump over (lined (i.JumpF start) 0) apart ∙ hole2' in
    let same : length c7.instrs ≡ length c5.instrs = ap length i7 ∙ set_len c6.instrs over (lined (i.Jump end) 0) ∙ ap length i6 ∙ set_len c5.instrs jump (lined (i.JumpF start) 0) in
    let room : c7.room ≡ c5.room = ap (λ z. z.room) e7 ∙ ap (λ z. z.room) e6 in
    let size : c7.size ≡ c5.size = ap (λ z. z.size) e7 ∙ ap (λ z. z.size) e6 in
    let whole : c7.whole ≡ c5.whole = ap (λ z. z.whole) e7 ∙ ap (λ z. z.whole) e6 in
    let whole34 : c4.whole ≡ c3.whole = ap (λ z. z.whole) e4 in
    let whole12 : c2.whole ≡ c1.whole = ap (λ z. z.whole) e2 in
    let put1 : slice_get c6.instrs jump ≡ Some (lined (i.JumpF start) 0) = ap (λ z. slice_get z jump) i6 ∙ set_same c5.instrs jump (lined i.Halt 0) (lined (i.JumpF start) 0) hole1 in
    let put2 : slice_get c7.instrs over ≡ Some (lined (i.Jump end) 0) = ap (λ z. slice_get z over) i7 ∙ set_same c6.instrs over (lined i.Halt 0) (lined (i.Jump end) 0) hole2 in
    let at5 : c7.whole ≡ true → c5.whole ≡ true = λ w. sym whole ∙ w in
    let at3 : c7.whole ≡ true → c3.whole ≡ true = λ w. sym whole34 ∙ c.before (at5 w) in
    let at1w : c7.whole ≡ true → c1.whole ≡ true = λ w. sym whole12 ∙ b.before (at3 w) in
    record {
      rest = f07.0;
      front = f07.1;
      roomier = subst (λ z. c0.room ≤ z) (sym room) l05.roomier;
      larger = subst (λ z. c0.size ≤ z) (sym size) l05.larger;
      classed = ap (λ z. z.classes) e7 ∙ ap (λ z. z.classes) e6 ∙ l05.classed;
      thunked = still_behind (ap (λ z. z.thunks) e7 ∙ ap (λ z. z.thunks) e6) l05.thunked;
      listed = more_behind (ap (λ z. z.lists) e7 ∙ ap (λ z. z.lists) e6) l05.listed;
      built = λ p w. whole ∙ c.built p.2 (whole34 ∙ b.built p.1 (whole12 ∙ a.built p.0 w));
      before = λ w. a.before (at1w w);
      only = λ w. (a.only (at1w w), b.only (at3 w), c.only (at5 w));
      fits = λ h.
          run_set c6.instrs c7.instrs over (lined (i.Jump end) 0) i7 refl (run_set c5.instrs c6.instrs jump (lined (i.JumpF start) 0) i6 refl
          (c.fits (run_more c3.instrs c4.instrs (lined i.Halt 0) i4 refl (b.fits (run_more c1.instrs c2.instrs (lined i.Halt 0) i2 refl (a.fits h))))));
      at = λ w final site g.
          let g6 : Becomes t c6 final site = becomes_filled t c6 c7 final site over (i.Jump end) hole2 e7 g in
          let g5 : Becomes t c5 final site = becomes_filled t c5 c6 final site jump (i.JumpF start) hole1 e6 g6 in
          let there1 : slice_get final.instrs jump ≡ Some (lined (i.JumpF start) 0) = g6.grows.keeps jump (lined (i.JumpF start) 0) put1 (λ z. cc) in
          let there2 : slice_get final.instrs over ≡ Some (lined (i.Jump end) 0) = g.grows.keeps over (lined (i.Jump end) 0) put2 (λ z. cc) in
          let fs : length c7.instrs < length final.instrs = g.follows in
          let third : C final site (length c4.instrs) (length c5.instrs) = c.at (at5 w) final site g5 in
          record {
            y = length c1.instrs;
            z = length c2.instrs;
            w = length c3.instrs;
            x = length c4.instrs;
            test = a.at (at1w w) final site (becomes_later t c1 c5 final site l15 g5);
            jump = record { line = 0; is = record { at = ap (slice_get final.instrs) (sym ej) ∙ there1 ∙ ap (λ z. Some (lined (i.JumpF z) 0)) es; on = n12 } };
            leads = record { forward = omega (arith, n12, n23, n34); there = omega (arith, n45, same, fs) };
            first = b.at (at3 w) final site (becomes_later t c3 c5 final site l35 g5);
            over = record { line = 0; is = record { at = ap (slice_get final.instrs) (sym eo) ∙ there2 ∙ ap (λ z. Some (lined (i.Jump z) 0)) (ee ∙ ap pos (sym same)); on = n34 } };
            past = record { forward = omega (arith, n34, n45, same); there = fs };
            second = subst (C final site (length c4.instrs)) (sym same) third;
          };
    }
  where
    hole : (a b c : List Lined) (k : ℕ) → Fronts b c → k ≡ length a → b ≡ a ++ (lined i.Halt 0 ∷ []) → slice_get c k ≡ Some (lined i.Halt 0)
    hole a b c k f ek eb = ap (slice_get c) ek ∙ ap (λ z. slice_get z (length a)) f.1 ∙ get_front b f.0 (length a) (lined i.Halt 0) (ap (λ z. slice_get z (length a)) eb ∙ append_at a (lined i.Halt 0))

-- a part that may be left out, with its jump filled
pub emits_when : (t : Spot) (P Q : Type 0) (A B : CodeOf → Site → ℕ → ℕ → Type 0) (c0 c1 c2 c3 c4 : DraftOf) (jump : ℕ) (end : ℤ) → Emits t c0 c1 P A → jump ≡ length c1.instrs → c2 ≡ with_hole c1 → Emits t c2 c3 Q B → end ≡ pos (length c3.instrs) → c4 ≡ filled_in c3 jump (i.JumpF end)
    → Emits t c0 c4 (P × Q) (λ final site p q. WhenAt final (A final site) (B final site) p q)
unfolding with_hole filled_in
emits_when t P Q A B c0 c1 c2 c3 c4 jump end a ej e2 b ee e4 =
    let l01 : Later c0 c1 = later_emits t c0 c1 P A a in
    let l12 : Later c1 c2 = later_hole c1 c2 e2 in
    let l23 : Later c2 c3 = later_emits t c2 c3 Q B b in
    let l13 : Later c1 c3 = later_then c1 c2 c3 l12 l23 in
    let l03 : Later c0 c3 = later_then c0 c1 c3 l01 l13 in
    let i2 : c2.instrs ≡ c1.instrs ++ (lined i.Halt 0 ∷ []) = ap (λ z. z.instrs) e2 in
    let i4 : c4.instrs ≡ slice_set c3.instrs jump (lined (i.JumpF end) 0) = ap (λ z. z.instrs) e4 in
    let n01 : length c0.instrs ≤ length c1.instrs = fronts_le c0.instrs c1.instrs l01.front in
    let n12 : length c2.instrs ≡ suc (length c1.instrs) = plus_one c1.instrs c2.instrs (lined i.Halt 0) i2 in
    let n23 : length c2.instrs ≤ length c3.instrs = fronts_le c2.instrs c3.instrs l23.front in
    let at0 : length c0.instrs ≤ jump = omega (arith, ej, n01) in
    let f04 : Fronts c0.instrs c4.instrs = fronts_set c0.instrs c3.instrs c4.instrs jump (lined (i.JumpF end) 0) l03.front at0 i4 in
    let hole : slice_get c3.instrs jump ≡ Some (lined i.Halt 0) = ap (slice_get c3.instrs) ej ∙ ap (λ z. slice_get z (length c1.instrs)) l23.front.1 ∙ get_front c2.instrs l23.front.0 (length c1.instrs) (lined i.Halt 0) (ap (λ z. slice_get z (length c1.instrs)) i2 ∙ append_at c1.instrs (lined i.Halt 0)) in
    let same : length c4.instrs ≡ length c3.instrs = ap length i4 ∙ set_len c3.instrs jump (lined (i.JumpF end) 0) in
    let room : c4.room ≡ c3.room = ap (λ z. z.room) e4 in
    let size : c4.size ≡ c3.size = ap (λ z. z.size) e4 in
    let whole : c4.whole ≡ c3.whole = ap (λ z. z.whole) e4 in
    let whole12 : c2.whole ≡ c1.whole = ap (λ z. z.whole) e2 in
    let put : slice_get c4.instrs jump ≡ Some (lined (i.JumpF end) 0) = ap (λ z. slice_get z jump) i4 ∙ set_same c3.instrs jump (lined i.Halt 0) (lined (i.JumpF end) 0) hole in
    let at3 : c4.whole ≡ true → c3.whole ≡ true = λ w. sym whole ∙ w in
    let at1 : c4.whole ≡ true → c1.whole ≡ true = λ w. sym whole12 ∙ b.before (at3 w) in
    record {
      rest = f04.0;
      front = f04.1;
      roomier = subst (λ z. c0.room ≤ z) (sym room) l03.roomier;
      larger = subst (λ z. c0.size ≤ z) (sym size) l03.larger;
      classed = ap (λ z. z.classes) e4 ∙ l03.classed;
      thunked = still_behind (ap (λ z. z.thunks) e4) l03.thunked;
      listed = more_behind (ap (λ z. z.lists) e4) l03.listed;
      built = λ p w. whole ∙ b.built p.1 (whole12 ∙ a.built p.0 w);
      before = λ w. a.before (at1 w);
      only = λ w. (a.only (at1 w), b.only (at3 w));
      fits = λ h. run_set c3.instrs c4.instrs jump (lined (i.JumpF end) 0) i4 refl (b.fits (run_more c1.instrs c2.instrs (lined i.Halt 0) i2 refl (a.fits h)));
      at = λ w final site g.
          let g3 : Becomes t c3 final site = becomes_filled t c3 c4 final site jump (i.JumpF end) hole e4 g in
          let there : slice_get final.instrs jump ≡ Some (lined (i.JumpF end) 0) = g.grows.keeps jump (lined (i.JumpF end) 0) put (λ z. cc) in
          let fs : length c4.instrs < length final.instrs = g.follows in
          let second : B final site (length c2.instrs) (length c3.instrs) = b.at (at3 w) final site g3 in
          record {
            y = length c1.instrs;
            z = length c2.instrs;
            test = a.at (at1 w) final site (becomes_later t c1 c3 final site l13 g3);
            jump = record { line = 0; is = record { at = ap (slice_get final.instrs) (sym ej) ∙ there ∙ ap (λ z. Some (lined (i.JumpF z) 0)) (ee ∙ ap pos (sym same)); on = n12 } };
            leads = record { forward = omega (arith, n12, n23, same); there = fs };
            first = subst (B final site (length c2.instrs)) (sym same) second;
          };
    }

later_instr : (a b : DraftOf) (x : Instr) (line : ℕ) → b ≡ with_instr a x line → Later a b
unfolding with_instr
later_instr a b x line e = record { front = (lined x line ∷ [], ap (λ z. z.instrs) e); roomier = le_same a.room b.room (ap (λ z. z.room) e); larger = le_same a.size b.size (ap (λ z. z.size) e); classed = ap (λ z. z.classes) e; thunked = still_same (ap (λ z. z.thunks) e); listed = more_same (ap (λ z. z.lists) e) }

-- a loop, which is a part that may be left out and ends with a jump back to its tick
pub emits_loop : (t : Spot) (P Q : Type 0) (A B : CodeOf → Site → ℕ → ℕ → Type 0) (c1 c2 c3 c4 c5 c6 new : DraftOf) (start end : ℤ) (jump : ℕ) → start ≡ pos (length c1.instrs) → c2 ≡ with_instr c1 i.Tick 0 → Emits t c2 c3 P A → jump ≡ length c3.instrs → c4 ≡ with_hole c3 → Emits t c4 c5 Q B
    → c6 ≡ with_instr c5 (i.Jump start) 0 → end ≡ pos (length c6.instrs) → new ≡ filled_in c6 jump (i.JumpF end) → Emits t c1 new (P × Q) (λ final site p q. (y : ℕ) × (w : ℕ) × LoopAt final (A final site) (B final site) p y w q)
unfolding with_instr filled_in
emits_loop t P Q A B c1 c2 c3 c4 c5 c6 new start end jump es e2 a ej e4 b e6 ee en =
    let test = emits_then t ⊤ P (λ f site p q. At f i.Tick 0 p q) A c1 c2 c3 (emits_at t c1 c2 i.Tick 0 e2 (λ z. cc) refl) a in
    let body = emits_then t Q ⊤ B (λ f site p q. At f (i.Jump start) 0 p q) c4 c5 c6 b (emits_at t c5 c6 (i.Jump start) 0 e6 (λ z. cc) refl) in
    let all = emits_when t (⊤ × P) (Q × ⊤) (λ f site p q. (x : ℕ) × At f i.Tick 0 p x × A f site x q) (λ f site p q. (x : ℕ) × B f site p x × At f (i.Jump start) 0 x q) c1 c3 c4 c6 new jump end test ej e4 body ee en in
    let l13 : Later c1 c3 = later_then c1 c2 c3 (later_instr c1 c2 i.Tick 0 e2) (later_emits t c2 c3 P A a) in
    let l35 : Later c3 c5 = later_then c3 c4 c5 (later_hole c3 c4 e4) (later_emits t c4 c5 Q B b) in
    let n15 : length c1.instrs ≤ length c5.instrs = fronts_le c1.instrs c5.instrs (later_then c1 c3 c5 l13 l35).front in
    let n56 : length c6.instrs ≡ suc (length c5.instrs) = plus_one c5.instrs c6.instrs (lined (i.Jump start) 0) (ap (λ z. z.instrs) e6) in
    let same : length new.instrs ≡ length c6.instrs = ap length (ap (λ z. z.instrs) en) ∙ set_len c6.instrs jump (lined (i.JumpF end) 0) in
    record {
      rest = all.rest;
      front = all.front;
      roomier = all.roomier;
      larger = all.larger;
      classed = all.classed;
      thunked = all.thunked;
      listed = all.listed;
      built = λ p w. all.built ((tt, p.0), (p.1, tt)) w;
      before = all.before;
      only = λ w. (let r = all.only w in (r.0.1, r.1.0));
      fits = all.fits;
      at = λ w final site g.
          let r = all.at w final site g in
          let on : length new.instrs ≡ suc r.first.0 = r.first.2.on in
          let back : At final (i.Jump (pos (length c1.instrs))) 0 r.first.0 (length new.instrs) = subst (λ z. At final (i.Jump z) 0 r.first.0 (length new.instrs)) es r.first.2 in
          (r.y, r.first.0, record { x = r.test.0; z = r.z; tick = record { line = 0; is = r.test.1 }; test = r.test.2; jump = r.jump; leads = r.leads; body = r.first.1; «back» = record { line = 0; is = back }; behind = omega (arith, on, same, n15, n56) });
    }

-- a temp that code takes, which lies behind what is in use
pub emits_temp : (t : Spot) (P : Type 0) (A : CodeOf → Site → ℕ → ℕ → Type 0) (a b c : DraftOf) (temp : ℕ) → temp ≡ t.used → b ≡ with_temp a temp → Emits t b c P A → Emits t a c P (λ final site p q. (site.used ≤ temp) × (temp < site.size) × A final site p q)
unfolding with_temp
emits_temp t P A a b c temp et e f =
    let ei : b.instrs ≡ a.instrs = ap (λ z. z.instrs) e in
    let er : b.room ≡ a.room = ap (λ z. z.room) e in
    let es : b.size ≡ max a.size (suc temp) = ap (λ z. z.size) e in
    let ew : b.whole ≡ a.whole = ap (λ z. z.whole) e in
    let left = le-max_left a.size (suc temp) in
    let right = le-max_right a.size (suc temp) in
    let bc = f.roomier in
    let bc' = f.larger in
    record {
      rest = f.rest;
      front = f.front ∙ ap (λ z. z ++ f.rest) ei;
      roomier = omega (arith, er, bc);
      larger = omega (arith, es, left, bc');
      classed = f.classed ∙ ap (λ z. z.classes) e;
      thunked = still_before (ap (λ z. z.thunks) e) f.thunked;
      listed = more_before (ap (λ z. z.lists) e) f.listed;
      built = λ p w. f.built p (ew ∙ w);
      before = λ w. sym ew ∙ f.before w;
      only = f.only;
      fits = λ h. f.fits (subst AllRun (sym ei) h);
      at = λ w final site g.
          let taken = g.taken in
          let sized = g.sized in
          (omega (arith, taken, et), omega (arith, es, right, bc', sized), subst (λ n. A final site n (length c.instrs)) (ap length ei) (f.at w final site g));
    }

-- a temp further behind
pub emits_temp_behind : (t : Spot) (P : Type 0) (A : CodeOf → Site → ℕ → ℕ → Type 0) (a b c : DraftOf) (temp : ℕ) → b ≡ with_temp a temp → Emits t b c P A → Emits t a c P (λ final site p q. (temp < site.size) × A final site p q)
unfolding with_temp
emits_temp_behind t P A a b c temp e f =
    let ei : b.instrs ≡ a.instrs = ap (λ z. z.instrs) e in
    let er : b.room ≡ a.room = ap (λ z. z.room) e in
    let es : b.size ≡ max a.size (suc temp) = ap (λ z. z.size) e in
    let ew : b.whole ≡ a.whole = ap (λ z. z.whole) e in
    let left = le-max_left a.size (suc temp) in
    let right = le-max_right a.size (suc temp) in
    let bc = f.roomier in
    let bc' = f.larger in
    record {
      rest = f.rest;
      front = f.front ∙ ap (λ z. z ++ f.rest) ei;
      roomier = omega (arith, er, bc);
      larger = omega (arith, es, left, bc');
      classed = f.classed ∙ ap (λ z. z.classes) e;
      thunked = still_before (ap (λ z. z.thunks) e) f.thunked;
      listed = more_before (ap (λ z. z.lists) e) f.listed;
      built = λ p w. f.built p (ew ∙ w);
      before = λ w. sym ew ∙ f.before w;
      only = f.only;
      fits = λ h. f.fits (subst AllRun (sym ei) h);
      at = λ w final site g. let sized = g.sized in (omega (arith, es, right, bc', sized), subst (λ n. A final site n (length c.instrs)) (ap length ei) (f.at w final site g));
    }

-- room for a value on n others
pub emits_room : (t : Spot) (P : Type 0) (A : CodeOf → Site → ℕ → ℕ → Type 0) (a b c : DraftOf) (n : ℕ) → b ≡ with_room a n → Emits t b c P A → Emits t a c P (λ final site p q. (n < site.room) × A final site p q)
unfolding with_room
emits_room t P A a b c n e f =
    let ei : b.instrs ≡ a.instrs = ap (λ z. z.instrs) e in
    let er : b.room ≡ max a.room (suc n) = ap (λ z. z.room) e in
    let es : b.size ≡ a.size = ap (λ z. z.size) e in
    let ew : b.whole ≡ a.whole = ap (λ z. z.whole) e in
    let left = le-max_left a.room (suc n) in
    let right = le-max_right a.room (suc n) in
    let bc = f.roomier in
    let bc' = f.larger in
    record {
      rest = f.rest;
      front = f.front ∙ ap (λ z. z ++ f.rest) ei;
      roomier = omega (arith, er, left, bc);
      larger = omega (arith, es, bc');
      classed = f.classed ∙ ap (λ z. z.classes) e;
      thunked = still_before (ap (λ z. z.thunks) e) f.thunked;
      listed = more_before (ap (λ z. z.lists) e) f.listed;
      built = λ p w. f.built p (ew ∙ w);
      before = λ w. sym ew ∙ f.before w;
      only = f.only;
      fits = λ h. f.fits (subst AllRun (sym ei) h);
      at = λ w final site g. let roomy = g.roomy in (omega (arith, er, right, bc, roomy), subst (λ n. A final site n (length c.instrs)) (ap length ei) (f.at w final site g));
    }

-- what stands where a temp more is in use
pub emits_inside : (t u : Spot) (P : Type 0) (A : CodeOf → Site → ℕ → ℕ → Type 0) (a b : DraftOf) (temp : ℕ) → u.text ≡ t.text → u.temps ≡ t.temps → u.used ≡ suc temp → Emits u a b P A → Emits t a b P (λ final site p q. A final (record site { used = suc temp }) p q)
emits_inside t u P A a b temp et em eu f = record {
  rest = f.rest;
  front = f.front;
  roomier = f.roomier;
  larger = f.larger;
  classed = f.classed;
  thunked = f.thunked;
  listed = f.listed;
  built = f.built;
  before = f.before;
  only = f.only;
  fits = f.fits;
  at = λ w final site g. f.at w final (record site { used = suc temp }) (record { grows = g.grows; roomy = g.roomy; sized = g.sized; stands = g.stands ∙ sym et; temps = g.temps ∙ sym em; taken = sym eu; follows = g.follows; classed = g.classed; thunked = g.thunked; belongs = g.belongs; listed = g.listed });
}

-- said otherwise, where it is known where the temps of expressions begin
pub emits_temps : (t : Spot) (P : Type 0) (A B : CodeOf → Site → ℕ → ℕ → Type 0) (a b : DraftOf) → ((final : CodeOf) (site : Site) (p q : ℕ) → site.temps ≡ t.temps → A final site p q → B final site p q) → Emits t a b P A → Emits t a b P B
emits_temps t P A B a b f e = record {
  rest = e.rest;
  front = e.front;
  roomier = e.roomier;
  larger = e.larger;
  classed = e.classed;
  thunked = e.thunked;
  listed = e.listed;
  built = e.built;
  before = e.before;
  only = e.only;
  fits = e.fits;
  at = λ w final site g. f final site (length a.instrs) (length b.instrs) g.temps (e.at w final site g);
}

-- said otherwise, where it is known that the blocks of the final code are as planned
pub emits_classed : (t : Spot) (P : Type 0) (A B : CodeOf → Site → ℕ → ℕ → Type 0) (a b : DraftOf) → ((final : CodeOf) (site : Site) (p q : ℕ) → ((k : ℕ) → planned_in (slice_get final.blocks k) ≡ planned_at a.classes k) → A final site p q → B final site p q) → Emits t a b P A → Emits t a b P B
emits_classed t P A B a b f e = record {
  rest = e.rest;
  front = e.front;
  roomier = e.roomier;
  larger = e.larger;
  classed = e.classed;
  thunked = e.thunked;
  listed = e.listed;
  built = e.built;
  before = e.before;
  only = e.only;
  fits = e.fits;
  at = λ w final site g. f final site (length a.instrs) (length b.instrs) (λ k. g.classed k ∙ ap (λ z. planned_at z k) e.classed) (e.at w final site g);
}

-- the number of a class in the final code is the one that was given out
pub class_numbered : (s : Source) (final : CodeOf) (cs : List PlannedOf) (k c : ℕ) → ((j : ℕ) → planned_in (slice_get final.blocks j) ≡ planned_at cs j) → c ≡ class_of cs (block_number s k) → class_number s final k ≡ c
unfolding class_number
class_numbered s final cs k c all e = ap (λ z. z.class) (all (block_number s k)) ∙ sym e
