-- The cells of an instance by their keys, and those of its frame by their slots.
use Rattle.std.proofs.Common.{◌≡◌, ◌⊎◌, ℕ, zero, suc, ◌+◌, ◌<◌, ◌≤◌, List, [], ◌∷◌, ◌++◌, length, Option, Some, None, Bool, true, false, inl, inr, refl, sym, ap, ◌∙◌, subst, arith}
use Rattle.std.proofs.lemmas.List.{length-set}
use Rattle.std.specs.Prelude.{◌==◌, slice_get, slice_set, nat_lt, map, if◌then◌else◌}
use Rattle.sim_base.specs.declared.numbering.DeclNo.{DeclNo}
use Rattle.sim_scope.specs.declared.types.FormalKind.{FormalKind}
use Rattle.sim_scope.specs.declared.types.FormalKind.TheVariants as shape
use Rattle.sim_scope.specs.declared.types.Mode.{Mode}
use Rattle.sim_scope.specs.declared.types.Mode.TheVariants as mode
use Rattle.sim_scope.specs.declared.types.SimType.{SimType}
use Rattle.sim_scope.specs.declared.types.Entry.{Entry}
use Rattle.sim_scope.specs.declared.types.Entry.TheVariants as entry
use Rattle.sim_scope.specs.Scopes.{entry_of}
use Rattle.sim_scope.specs.Source.{Source}
use Rattle.sim_tree.specs.declared.stmt.TypeName.{TypeName}
use Rattle.sim_values.specs.declared.kind.Kind.{Kind}
use Rattle.sim_values.specs.declared.kind.Kind.TheVariants as kind
use Rattle.sim_code.specs.declared.code.CodeType.{CodeType}
use Rattle.sim_code.specs.Code.{CodeOf}
use Rattle.sim_code.specs.Machine.{Value, first_value, joined}
use Rattle.sim_code.specs.Machine as machine
use Rattle.sim_code.proofs.Lifts.{Both, EachAt}
use Rattle.sim_meaning.specs.Pending.{Connection, Declared, Held, Instances, Key, Origin, Result, Val, held, held_put, held_set, same_key}
use Rattle.sim_meaning.specs.Pending as meaning
use Rattle.sim_meaning.specs.Entries.{cells_from, filled, filled_behind, held_before, of_formal, of_kind, with_cell, with_result}
use Rattle.sim_meaning.specs.Objects.{attributes_from, constant_cell, with_attribute}
use Rattle.sim_meaning.specs.Texts.{constant_of, kind_named, kind_of_type}
use Rattle.codegen_expr.specs.Sites.{place_of}
use Rattle.codegen.specs.Compiled.{type_of_cell, type_of_value}
use Rattle.sim_relate.proofs.Known.{SlotAt, ValAt, fixed_value, is_constant, is_fixed, plain_at}

abbrev pub value_of : Held → Option Val
value_of h = h.value

abbrev pub key_of : Held → Key
key_of h = h.key

numbers_are : (a b : ℕ) → (a == b) ≡ true → a ≡ b
numbers_are a b e = grind (arith, e)

numbers_same : (a : ℕ) → (a == a) ≡ true
numbers_same a = let e : a ≡ a = refl in grind (arith, e)

-- keys that are told to be the same are
pub same_is : (a b : Key) → same_key a b ≡ true → a ≡ b
same_is (Declared d) (Declared e) h = ap Declared (numbers_are d e h)
same_is Result Result h = refl
same_is (Connection x) (Connection y) h = ap Connection (numbers_are x y h)
same_is (Declared d) Result h = absurd (cc)
same_is (Declared d) (Connection y) h = absurd (cc)
same_is Result (Declared e) h = absurd (cc)
same_is Result (Connection y) h = absurd (cc)
same_is (Connection x) (Declared e) h = absurd (cc)
same_is (Connection x) Result h = absurd (cc)
same_is Origin Origin h = refl
same_is Origin (Declared e) h = absurd (cc)
same_is Origin Result h = absurd (cc)
same_is Origin (Connection y) h = absurd (cc)
same_is (Declared d) Origin h = absurd (cc)
same_is Result Origin h = absurd (cc)
same_is (Connection x) Origin h = absurd (cc)

pub same_self : (a : Key) → same_key a a ≡ true
same_self (Declared d) = numbers_same d
same_self Result = refl
same_self (Connection x) = numbers_same x
same_self Origin = refl

-- ---- keys

-- a key's place among others
abbrev pub place_in : Key → List Key → ℕ
place_in key [] = 0
place_in key (k ∷ ks) = if same_key k key then 0 else suc (place_in key ks)

pub place_by_keys : (key : Key) (hs : List Held) → place_of key hs ≡ place_in key (map key_of hs)
place_by_keys key [] = refl
place_by_keys key (h ∷ hs) = ap (λ n. if same_key h.key key then 0 else suc n) (place_by_keys key hs)

pub keys_place : (key : Key) (hs gs : List Held) → map key_of hs ≡ map key_of gs → place_of key hs ≡ place_of key gs
keys_place key hs gs e = place_by_keys key hs ∙ ap (place_in key) e ∙ sym (place_by_keys key gs)

keys_count : (hs : List Held) → length (map key_of hs) ≡ length hs
keys_count [] = refl
keys_count (h ∷ hs) = ap suc (keys_count hs)

pub keys_length : (hs gs : List Held) → map key_of hs ≡ map key_of gs → length hs ≡ length gs
keys_length hs gs e = sym (keys_count hs) ∙ ap length e ∙ keys_count gs

-- ---- places

-- values fill places from one on
abbrev pub put_from : ℕ → List Value → List (Option Value) → List (Option Value)
put_from zero [] cells = cells
put_from zero (y ∷ ys) [] = []
put_from zero (y ∷ ys) (c ∷ cells) = Some y ∷ put_from zero ys cells
put_from (suc n) ys [] = []
put_from (suc n) ys (c ∷ cells) = c ∷ put_from n ys cells

put_none : (n : ℕ) (cells : List (Option Value)) → put_from n [] cells ≡ cells
put_none zero cells = refl
put_none (suc n) [] = refl
put_none (suc n) (c ∷ cells) = ap (λ z. c ∷ z) (put_none n cells)

put_first : (n : ℕ) (y : Value) (ys : List Value) (cells : List (Option Value)) → put_from (suc n) ys (slice_set cells n (Some y)) ≡ put_from n (y ∷ ys) cells
put_first zero y ys [] = refl
put_first zero y ys (c ∷ cells) = refl
put_first (suc n) y ys [] = refl
put_first (suc n) y ys (c ∷ cells) = ap (λ z. c ∷ z) (put_first n y ys cells)

pub put_length : (n : ℕ) (ys : List Value) (cells : List (Option Value)) → length (put_from n ys cells) ≡ length cells
put_length zero [] cells = refl
put_length zero (y ∷ ys) [] = refl
put_length zero (y ∷ ys) (c ∷ cells) = ap suc (put_length zero ys cells)
put_length (suc n) ys [] = refl
put_length (suc n) ys (c ∷ cells) = ap suc (put_length n ys cells)

filled_if : (b : Bool) (x : Option (List (Option Value))) (z : List (Option Value)) → b ≡ true → x ≡ Some z → (if b then x else None) ≡ Some z
filled_if true x z e h = h
filled_if false x z e h = absurd (cc)

pub less_true : (n m : ℕ) → n < m → nat_lt n m ≡ true
less_true n m h = grind (arith, h)

pub machine_fills : (n : ℕ) (ys : List Value) (cells : List (Option Value)) → n + length ys ≤ length cells → machine.filled n ys cells ≡ Some (put_from n ys cells)
machine_fills n [] cells h = ap Some (sym (put_none n cells))
machine_fills n (y ∷ ys) cells h =
    filled_if (nat_lt n (length cells)) _ _ (less_true n (length cells) (omega arith))
    (machine_fills (suc n) ys (slice_set cells n (Some y)) (omega (arith, length-set cells n (Some y))) ∙ ap Some (put_first n y ys cells))

-- how many cells stand before those of the formals
abbrev pub results : Option TypeName → ℕ
results None = 0
results (Some type) = 1

-- ---- a cell by its key

-- the cells with a value in one that is there
pub record SetIn (key : Key) (v : Val) (hs : List Held) : Type 0 where
  pub now : List Held
  pub is : held_set key v hs ≡ Some now
  pub here : held key now ≡ Some v
  pub others : (k : Key) → same_key key k ≡ false → held k now ≡ held k hs
  pub places : (k : Key) → place_of k now ≡ place_of k hs
  pub long : length now ≡ length hs

set_if : (b : Bool) (h : Held) (key : Key) (v : Val) (hs : List Held) → same_key h.key key ≡ b → (if b then 0 else suc (place_of key hs)) < suc (length hs) → (place_of key hs < length hs → SetIn key v hs) → SetIn key v (h ∷ hs)
set_if true h key v hs e lt f =
    let same = same_is h.key key e in
    record {
      now = record { key = h.key; value = Some v } ∷ hs;
      is = ap (λ z. if z then Some (record { key = h.key; value = Some v } ∷ hs) else meaning.before h (held_set key v hs)) e;
      here = ap (λ z. if z then Some v else held key hs) e;
      others = λ k ne. let other : same_key h.key k ≡ false = ap (λ z. same_key z k) same ∙ ne in ap (λ z. if z then Some v else held k hs) other ∙ sym (ap (λ z. if z then h.value else held k hs) other);
      places = λ k. refl;
      long = refl;
    }
set_if false h key v hs e lt f =
    let r = f (omega (arith, lt)) in
    record {
      now = h ∷ r.now;
      is = ap (λ z. if z then Some (record { key = h.key; value = Some v } ∷ hs) else meaning.before h (held_set key v hs)) e ∙ ap (meaning.before h) r.is;
      here = ap (λ z. if z then h.value else held key r.now) e ∙ r.here;
      others = λ k ne. ap (λ z. if same_key h.key k then h.value else z) (r.others k ne);
      places = λ k. ap (λ z. if same_key h.key k then 0 else suc z) (r.places k);
      long = ap suc r.long;
    }

pub set_in : (key : Key) (v : Val) (hs : List Held) → place_of key hs < length hs → SetIn key v hs
set_in key v [] lt = absurd (omega (arith, lt))
set_in key v (h ∷ hs) lt = set_if (same_key h.key key) h key v hs refl lt (λ less. set_in key v hs less)

-- the cells with a value in one that need not be there
pub record PutIn (key : Key) (v : Val) (hs : List Held) : Type 0 where
  pub here : held key (held_put key v hs) ≡ Some v
  pub others : (k : Key) → same_key key k ≡ false → held k (held_put key v hs) ≡ held k hs
  pub stay : (k : Key) → place_of k hs < length hs → place_of k (held_put key v hs) < length (held_put key v hs)

put_if : (b : Bool) (h : Held) (key : Key) (v : Val) (hs : List Held) → same_key h.key key ≡ b → PutIn key v hs → PutIn key v (h ∷ hs)
put_if true h key v hs e f =
    let same = same_is h.key key e in
    let now : held_put key v (h ∷ hs) ≡ record { key = h.key; value = Some v } ∷ hs = ap (λ z. if z then record { key = h.key; value = Some v } ∷ hs else h ∷ held_put key v hs) e in
    record {
      here = ap (held key) now ∙ ap (λ z. if z then Some v else held key hs) e;
      others = λ k ne. let other : same_key h.key k ≡ false = ap (λ z. same_key z k) same ∙ ne in ap (held k) now ∙ ap (λ z. if z then Some v else held k hs) other ∙ sym (ap (λ z. if z then h.value else held k hs) other);
      stay = λ k lt. subst (λ z. place_of k z < length z) (sym now) lt;
    }
put_if false h key v hs e f =
    let now : held_put key v (h ∷ hs) ≡ h ∷ held_put key v hs = ap (λ z. if z then record { key = h.key; value = Some v } ∷ hs else h ∷ held_put key v hs) e in
    record {
      here = ap (held key) now ∙ ap (λ z. if z then h.value else held key (held_put key v hs)) e ∙ f.here;
      others = λ k ne. ap (held k) now ∙ ap (λ z. if same_key h.key k then h.value else z) (f.others k ne);
      stay = λ k lt. subst (λ z. place_of k z < length z) (sym now) (further (same_key h.key k) (place_of k hs) (length hs) (place_of k (held_put key v hs)) (length (held_put key v hs)) (f.stay k) lt);
    }
  where
    further : (b : Bool) (p n p' n' : ℕ) → (p < n → p' < n') → (if b then 0 else suc p) < suc n → (if b then 0 else suc p') < suc n'
    further true p n p' n' g lt = omega arith
    further false p n p' n' g lt = let more = g (omega (arith, lt)) in omega (arith, more)

pub put_in : (key : Key) (v : Val) (hs : List Held) → PutIn key v hs
put_in key v [] = record { here = ap (λ z. if z then Some v else None) (same_self key); others = λ k ne. ap (λ z. if z then Some v else None) ne; stay = λ k lt. absurd (omega (arith, lt)) }
put_in key v (h ∷ hs) = put_if (same_key h.key key) h key v hs refl (put_in key v hs)

-- different keys have different places
apart_if : (a b : Bool) (k l h : Key) (p q n : ℕ) → same_key h k ≡ a → same_key h l ≡ b → (if a then 0 else suc p) ≡ (if b then 0 else suc q) → (if a then 0 else suc p) < suc n → (p ≡ q → p < n → k ≡ l) → k ≡ l
apart_if true true k l h p q n ea eb e lt f = sym (same_is h k ea) ∙ same_is h l eb
apart_if true false k l h p q n ea eb e lt f = absurd (omega (arith, e))
apart_if false true k l h p q n ea eb e lt f = absurd (omega (arith, e))
apart_if false false k l h p q n ea eb e lt f = f (omega (arith, e)) (omega (arith, lt))

pub place_injective : (hs : List Held) (k l : Key) → place_of k hs ≡ place_of l hs → place_of k hs < length hs → k ≡ l
place_injective [] k l e lt = absurd (omega (arith, lt))
place_injective (h ∷ hs) k l e lt = apart_if (same_key h.key k) (same_key h.key l) k l h.key (place_of k hs) (place_of l hs) (length hs) refl refl e lt (λ same less. place_injective hs k l same less)

-- what has no place is not held
missing_if : (b : Bool) (h : Held) (key : Key) (hs : List Held) → suc (length hs) ≤ (if b then 0 else suc (place_of key hs)) → (length hs ≤ place_of key hs → held key hs ≡ None) → (if b then h.value else held key hs) ≡ None
missing_if true h key hs le f = absurd (omega (arith, le))
missing_if false h key hs le f = f (omega (arith, le))

pub not_held : (key : Key) (hs : List Held) → length hs ≤ place_of key hs → held key hs ≡ None
not_held key [] le = refl
not_held key (h ∷ hs) le = missing_if (same_key h.key key) h key hs le (not_held key hs)

-- places in two lists
append_if : (b : Bool) (p n p' : ℕ) → (if b then 0 else suc p) < suc n → (p < n → p' ≡ p) → (if b then 0 else suc p') ≡ (if b then 0 else suc p)
append_if true p n p' lt f = refl
append_if false p n p' lt f = ap suc (f (omega (arith, lt)))

pub place_first : (key : Key) (hs gs : List Held) → place_of key hs < length hs → place_of key (hs ++ gs) ≡ place_of key hs
place_first key [] gs lt = absurd (omega (arith, lt))
place_first key (h ∷ hs) gs lt = append_if (same_key h.key key) (place_of key hs) (length hs) (place_of key (hs ++ gs)) lt (place_first key hs gs)

behind_if : (b : Bool) (p n p' q : ℕ) → suc n ≤ (if b then 0 else suc p) → (n ≤ p → p' ≡ n + q) → (if b then 0 else suc p') ≡ suc n + q
behind_if true p n p' q le f = absurd (omega (arith, le))
behind_if false p n p' q le f = let e = f (omega (arith, le)) in omega (arith, e)

pub place_behind : (key : Key) (hs gs : List Held) → length hs ≤ place_of key hs → place_of key (hs ++ gs) ≡ length hs + place_of key gs
place_behind key [] gs le = omega arith
place_behind key (h ∷ hs) gs le = behind_if (same_key h.key key) (place_of key hs) (length hs) (place_of key (hs ++ gs)) (place_of key gs) le (place_behind key hs gs)

-- ---- cells and slots, one by one

module _ (s : Source) where
  -- the first cells are no constants'
  abbrev pub VaryFirst : ℕ → List Held → Type 0
  VaryFirst zero hs = Unit {0}
  VaryFirst (suc n) [] = Unit {0}
  VaryFirst (suc n) (h ∷ hs) = (is_fixed s h.key ≡ false) × VaryFirst n hs

  -- what the code says of cells, and behind them
  abbrev pub Typed : List CodeType → List Held → List (Option Value)
  Typed rest gs = map first_value (map type_of_cell gs ++ rest)

  attribute_keys : (d : DeclNo) (o : Option Entry) (hs gs : List Held) → map key_of hs ≡ map key_of gs → map key_of (with_attribute s d o hs) ≡ map key_of (with_cell d o gs)
  attribute_keys d (Some (entry.Variable type)) hs gs e = ap (λ z. Declared d.0 ∷ z) e
  attribute_keys d (Some (entry.Constant type)) hs gs e = ap (λ z. Declared d.0 ∷ z) e
  attribute_keys d (Some (entry.Array element dimensions)) hs gs e = ap (λ z. Declared d.0 ∷ z) e
  attribute_keys d (Some (entry.Formal f)) hs gs e = ap (λ z. Declared d.0 ∷ z) e
  attribute_keys d (Some (entry.Procedure result k)) hs gs e = e
  attribute_keys d (Some (entry.Class k)) hs gs e = e
  attribute_keys d (Some (entry.Virtual result own)) hs gs e = e
  attribute_keys d (Some (entry.Unspecified written)) hs gs e = e
  attribute_keys d (Some (entry.Attribute name parameter result)) hs gs e = e
  attribute_keys d None hs gs e = e

  pub attributes_keys : (ds : List DeclNo) → map key_of (attributes_from s ds) ≡ map key_of (cells_from s ds)
  attributes_keys [] = refl
  attributes_keys (d ∷ ds) = attribute_keys d (entry_of s.tables d) (attributes_from s ds) (cells_from s ds) (attributes_keys ds)

module _ (s : Source) (code : CodeOf) (m : Instances) where
  abbrev pub HeldAt : List Held → List (Option Value) → Type 0
  HeldAt [] cells = Unit {0}
  HeldAt (h ∷ hs) [] = ⊥
  HeldAt (h ∷ hs) (c ∷ cells) = SlotAt s code m (is_fixed s h.key) h.key h.value c × HeldAt hs cells

  pub cells_fit : (hs : List Held) (cells : List (Option Value)) → HeldAt hs cells → length hs ≤ length cells
  cells_fit [] cells a = omega arith
  cells_fit (h ∷ hs) [] a = absurd a
  cells_fit (h ∷ hs) (c ∷ cells) a = let e = cells_fit hs cells a.1 in omega (arith, e)

  read_if : (b : Bool) (key : Key) (h : Held) (xs : Option Val) (c : Option Value) (cells : List (Option Value)) (n long : ℕ) → same_key h.key key ≡ b → SlotAt s code m (is_fixed s h.key) h.key h.value c → (n < long → SlotAt s code m (is_fixed s key) key xs (joined (slice_get cells n))) → (if b then 0 else suc n) < suc long
      → SlotAt s code m (is_fixed s key) key (if b then h.value else xs) (joined (slice_get (c ∷ cells) (if b then 0 else suc n)))
  read_if true key h xs c cells n long e here there lt = subst (λ z. SlotAt s code m (is_fixed s z) z h.value c) (same_is h.key key e) here
  read_if false key h xs c cells n long e here there lt = there (omega (arith, lt))

  -- a cell by its key, and by its place
  pub cells_read : (key : Key) (hs : List Held) (cells : List (Option Value)) → HeldAt hs cells → place_of key hs < length hs → SlotAt s code m (is_fixed s key) key (held key hs) (joined (slice_get cells (place_of key hs)))
  cells_read key [] cells a lt = absurd (omega (arith, lt))
  cells_read key (h ∷ hs) [] a lt = absurd a
  cells_read key (h ∷ hs) (c ∷ cells) a lt = read_if (same_key h.key key) key h (held key hs) c cells (place_of key hs) (length hs) refl a.0 (cells_read key hs cells a.1) lt

  -- ---- filling

  -- other cells of the same keys
  pub record Written (o : Option (List Held)) (hs : List Held) (cells : List (Option Value)) : Type 0 where
    pub now : List Held
    pub is : o ≡ Some now
    pub at : HeldAt now cells
    pub keys : map key_of now ≡ map key_of hs

  fill_behind : (h g : Held) (o : Option (List Held)) (hs : List Held) (c : Option Value) (cells : List (Option Value)) → g.key ≡ h.key → SlotAt s code m (is_fixed s g.key) g.key g.value c → Written o hs cells → Written (held_before g o) (h ∷ hs) (c ∷ cells)
  fill_behind h g o hs c cells e here w = record { now = g ∷ w.now; is = ap (held_before g) w.is; at = (here, w.at); keys = ap (λ k. k ∷ map key_of w.now) e ∙ ap (λ z. h.key ∷ z) w.keys }

  pub slot_with : (fixed : Bool) (key : Key) (v : Val) (y : Value) → fixed ≡ false → ValAt s code m v y → SlotAt s code m fixed key (Some v) (Some y)
  slot_with true key v y e w = absurd (cc)
  slot_with false key v y e w = w

  pub cells_filled : (vs : List Val) (ys : List Value) (hs : List Held) (cells : List (Option Value)) → HeldAt hs cells → EachAt (ValAt s code m) vs ys → length vs ≤ length hs → VaryFirst s (length vs) hs → Written (filled vs hs) hs (put_from 0 ys cells)
  cells_filled [] [] hs cells a e le vary = record { now = hs; is = refl; at = a; keys = refl }
  cells_filled [] (y ∷ ys) hs cells a e le vary = absurd e
  cells_filled (v ∷ vs) [] hs cells a e le vary = absurd e
  cells_filled (v ∷ vs) (y ∷ ys) [] cells a e le vary = absurd (omega (arith, le))
  cells_filled (v ∷ vs) (y ∷ ys) (h ∷ hs) [] a e le vary = absurd a
  cells_filled (v ∷ vs) (y ∷ ys) (h ∷ hs) (c ∷ cells) a e le vary =
      fill_behind h (record { key = h.key; value = Some v }) (filled vs hs) hs (Some y) (put_from 0 ys cells) refl (slot_with (is_fixed s h.key) h.key v y vary.0 e.0) (cells_filled vs ys hs cells a.1 e.1 (omega (arith, le)) vary.1)

  pub cells_filled_behind : (result : Option TypeName) (vs : List Val) (ys : List Value) (hs : List Held) (cells : List (Option Value)) → HeldAt hs cells → EachAt (ValAt s code m) vs ys → results result + length vs ≤ length hs → VaryFirst s (results result + length vs) hs → Written (filled_behind result vs hs) hs (put_from (results result) ys cells)
  cells_filled_behind None vs ys hs cells a e le vary = let same : 0 + length vs ≡ length vs = omega arith in cells_filled vs ys hs cells a e (omega (arith, le)) (subst (λ n. VaryFirst s n hs) same vary)
  cells_filled_behind (Some type) vs ys [] cells a e le vary = absurd (omega (arith, le))
  cells_filled_behind (Some type) vs ys (h ∷ hs) [] a e le vary = absurd a
  cells_filled_behind (Some type) vs ys (h ∷ hs) (c ∷ cells) a e le vary =
      let same : 1 + length vs ≡ suc (length vs) = omega arith in
      let more = subst (λ n. VaryFirst s n (h ∷ hs)) same vary in
      fill_behind h h (filled vs hs) hs c (put_from 0 ys cells) refl a.0 (cells_filled vs ys hs cells a.1 e (omega (arith, le)) more.1)

  -- ---- first values

  first_kind : (k : Kind) → Both (ValAt s code m) (of_kind k) (first_value (type_of_value (of_kind k)))
  first_kind kind.Integer = plain_at
  first_kind kind.Boolean = plain_at
  first_kind kind.Character = plain_at
  first_kind kind.Text = plain_at
  first_kind kind.Reference = plain_at

  first_formal : (by : Mode) (kind : FormalKind) (type : Option SimType) → Both (ValAt s code m) (of_formal by kind type) (first_value (type_of_value (of_formal by kind type)))
  first_formal mode.ByName kind type = tt
  first_formal mode.ByValue shape.Simple (Some type) = first_kind (kind_of_type type)
  first_formal mode.ByValue shape.Simple None = tt
  first_formal mode.ByValue shape.Array type = tt
  first_formal mode.ByValue shape.Procedure type = tt
  first_formal mode.ByReference shape.Simple (Some type) = first_kind (kind_of_type type)
  first_formal mode.ByReference shape.Simple None = tt
  first_formal mode.ByReference shape.Array type = tt
  first_formal mode.ByReference shape.Procedure type = tt

  slot_false : (fixed : Bool) (key : Key) (v : Option Val) (c : Option Value) → fixed ≡ false → Both (ValAt s code m) v c → SlotAt s code m fixed key v c
  slot_false true key v c e b = absurd (cc)
  slot_false false key v c e b = b

  slot_true : (fixed : Bool) (key : Key) (v : Option Val) (c : Option Value) → fixed ≡ true → (v ≡ None) ⊎ (v ≡ fixed_value s key) → SlotAt s code m fixed key v c
  slot_true true key v c e b = b
  slot_true false key v c e b = absurd (cc)

  is_one : (d : DeclNo) (o : Option Entry) → entry_of s.tables d ≡ o → is_fixed s (Declared d.0) ≡ is_constant o
  is_one d o e = ap is_constant e

  module _ (rest : List CodeType) where
    cell_at : (d : DeclNo) (o : Option Entry) (hs gs : List Held) → entry_of s.tables d ≡ o → HeldAt hs (Typed s rest gs) → HeldAt (with_cell d o hs) (Typed s rest (with_cell d o gs))
    cell_at d (Some (entry.Variable type)) hs gs e a = (slot_false (is_fixed s (Declared d.0)) (Declared d.0) _ _ (is_one d _ e) (first_kind (kind_of_type type)), a)
    cell_at d (Some (entry.Constant type)) hs gs e a = (slot_true (is_fixed s (Declared d.0)) (Declared d.0) _ _ (is_one d _ e) (inl refl), a)
    cell_at d (Some (entry.Array element dimensions)) hs gs e a = (slot_false (is_fixed s (Declared d.0)) (Declared d.0) None None (is_one d _ e) tt, a)
    cell_at d (Some (entry.Formal f)) hs gs e a = (slot_false (is_fixed s (Declared d.0)) (Declared d.0) _ _ (is_one d _ e) (first_formal f.mode f.kind f.ty), a)
    cell_at d (Some (entry.Procedure result k)) hs gs e a = a
    cell_at d (Some (entry.Class k)) hs gs e a = a
    cell_at d (Some (entry.Virtual result own)) hs gs e a = a
    cell_at d (Some (entry.Unspecified written)) hs gs e a = a
    cell_at d (Some (entry.Attribute name parameter result)) hs gs e a = a
    cell_at d None hs gs e a = a

    pub cells_at : (ds : List DeclNo) → HeldAt (cells_from s ds) (Typed s rest (cells_from s ds))
    cells_at [] = tt
    cells_at (d ∷ ds) = cell_at d (entry_of s.tables d) (cells_from s ds) (cells_from s ds) refl (cells_at ds)

    pub result_at : (result : Option TypeName) (hs gs : List Held) → HeldAt hs (Typed s rest gs) → HeldAt (with_result result hs) (Typed s rest (with_result result gs))
    result_at None hs gs a = a
    result_at (Some type) hs gs a = (first_kind (kind_named type), a)

    attribute_at : (d : DeclNo) (o : Option Entry) (hs gs : List Held) → entry_of s.tables d ≡ o → HeldAt hs (Typed s rest gs) → HeldAt (with_attribute s d o hs) (Typed s rest (with_cell d o gs))
    attribute_at d (Some (entry.Variable type)) hs gs e a = cell_at d (Some (entry.Variable type)) hs gs e a
    attribute_at d (Some (entry.Constant type)) hs gs e a = (slot_true (is_fixed s (Declared d.0)) (Declared d.0) (constant_cell (constant_of s d)) None (is_one d _ e) (inr refl), a)
    attribute_at d (Some (entry.Array element dimensions)) hs gs e a = cell_at d (Some (entry.Array element dimensions)) hs gs e a
    attribute_at d (Some (entry.Formal f)) hs gs e a = cell_at d (Some (entry.Formal f)) hs gs e a
    attribute_at d (Some (entry.Procedure result k)) hs gs e a = a
    attribute_at d (Some (entry.Class k)) hs gs e a = a
    attribute_at d (Some (entry.Virtual result own)) hs gs e a = a
    attribute_at d (Some (entry.Unspecified written)) hs gs e a = a
    attribute_at d (Some (entry.Attribute name parameter result)) hs gs e a = a
    attribute_at d None hs gs e a = a

    pub attributes_at : (ds : List DeclNo) → HeldAt (attributes_from s ds) (Typed s rest (cells_from s ds))
    attributes_at [] = tt
    attributes_at (d ∷ ds) = attribute_at d (entry_of s.tables d) (attributes_from s ds) (cells_from s ds) refl (attributes_at ds)

-- ---- behind the declared cells

abbrev pub AllEmpty : List Held → Type 0
AllEmpty [] = Unit {0}
AllEmpty (h ∷ hs) = (h.value ≡ None) × AllEmpty hs

pub types_split : (gs hidden : List Held) (temps : List CodeType) → map type_of_cell (gs ++ hidden) ++ temps ≡ map type_of_cell gs ++ (map type_of_cell hidden ++ temps)
types_split [] hidden temps = refl
types_split (g ∷ gs) hidden temps = ap (λ z. type_of_cell g ∷ z) (types_split gs hidden temps)

empty_slot : (hidden : List Held) (temps : List CodeType) (c : ℕ) → AllEmpty hidden → c < length hidden → joined (slice_get (map first_value (map type_of_cell hidden ++ temps)) c) ≡ None
empty_slot [] temps c a lt = absurd (omega (arith, lt))
empty_slot (h ∷ hs) temps zero a lt = ap (λ v. first_value (type_of_value v)) a.0
empty_slot (h ∷ hs) temps (suc c) a lt = empty_slot hs temps c a.1 (omega (arith, lt))

pub empty_behind : (gs hidden : List Held) (temps : List CodeType) (c : ℕ) → AllEmpty hidden → length gs ≤ c → c < length (gs ++ hidden) → joined (slice_get (map first_value (map type_of_cell (gs ++ hidden) ++ temps)) c) ≡ None
empty_behind [] hidden temps c a le lt = empty_slot hidden temps c a lt
empty_behind (g ∷ gs) hidden temps zero a le lt = absurd (omega (arith, le))
empty_behind (g ∷ gs) hidden temps (suc c) a le lt = empty_behind gs hidden temps c a (omega (arith, le)) (omega (arith, lt))

-- the cell of a key begins with the value that goes with it
pub typed_slot : (key : Key) (hs : List Held) (temps : List CodeType) → place_of key hs < length hs → joined (slice_get (map first_value (map type_of_cell hs ++ temps)) (place_of key hs)) ≡ first_value (type_of_value (held key hs))
typed_slot key [] temps lt = absurd (omega (arith, lt))
typed_slot key (h ∷ hs) temps lt = by (same_key h.key key) lt (typed_slot key hs temps)
  where
    by : (c : Bool) → (if c then 0 else suc (place_of key hs)) < suc (length hs) → (place_of key hs < length hs → joined (slice_get (map first_value (map type_of_cell hs ++ temps)) (place_of key hs)) ≡ first_value (type_of_value (held key hs)))
        → joined (slice_get (map first_value (map type_of_cell (h ∷ hs) ++ temps)) (if c then 0 else suc (place_of key hs))) ≡ first_value (type_of_value (if c then h.value else held key hs))
    by true lt f = refl
    by false lt f = f (omega (arith, lt))

-- values that fill places leave those behind
pub put_behind : (n : ℕ) (ys : List Value) (cells : List (Option Value)) (c : ℕ) → n + length ys ≤ c → slice_get (put_from n ys cells) c ≡ slice_get cells c
put_behind zero [] cells c le = refl
put_behind zero (y ∷ ys) [] c le = refl
put_behind zero (y ∷ ys) (x ∷ cells) zero le = absurd (omega (arith, le))
put_behind zero (y ∷ ys) (x ∷ cells) (suc c) le = put_behind zero ys cells c (omega (arith, le))
put_behind (suc n) ys [] c le = refl
put_behind (suc n) ys (x ∷ cells) zero le = absurd (omega (arith, le))
put_behind (suc n) ys (x ∷ cells) (suc c) le = put_behind n ys cells c (omega (arith, le))
