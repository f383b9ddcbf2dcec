-- The cells with which an instance begins.
use Rattle.std.proofs.Common.{◌≡◌, ℕ, suc, ◌+◌, Bool, true, false, List, [], ◌∷◌, ◌++◌, length, map, Option, Some, None, refl, sym, ap, ◌∙◌, subst, arith}
use Rattle.std.specs.Prelude.{if◌then◌else◌}
use Rattle.sim_base.specs.declared.numbering.DeclNo.{DeclNo}
use Rattle.sim_scope.specs.declared.types.Entry.{Entry}
use Rattle.sim_scope.specs.declared.types.Entry.TheVariants as entry
use Rattle.sim_scope.specs.declared.types.Formal.{Formal}
use Rattle.sim_scope.specs.Scopes.{entry_of}
use Rattle.sim_scope.specs.Source.{Source}
use Rattle.sim_tree.specs.declared.stmt.TypeName.{TypeName}
use Rattle.sim_tree.specs.Syntax.{Declarations, Heading, Statement, Statements}
use Rattle.sim_values.specs.Plain.{initial}
use Rattle.sim_code.specs.Events.{pop_many}
use Rattle.sim_code.specs.Outcome.{Run, World}
use Rattle.sim_meaning.specs.Entries.{cells_from, filled, filled_behind, first_cells, held_before, is_array_by_value, numbers_of, with_cell, with_result}
use Rattle.sim_meaning.specs.Pending.{Declared, Held, Instances, Key, Of, Result, Val, held, same_key}
use Rattle.sim_meaning.specs.Texts.{BlockText, ProcedureText, kind_named, kind_of_type, text}
use Rattle.sim_scope.specs.declared.types.SimType.{SimType}
use Rattle.sim_scope.specs.declared.types.SimType.TheVariants as t
use Rattle.sim_values.specs.declared.kind.Kind.{Kind}
use Rattle.sim_values.specs.declared.kind.Kind.TheVariants as kind
use Rattle.sim_meaning.specs.Levels.{has_levels, qualification}
use Rattle.sim_sound.specs.Held.{Among, ArrayOf, ByName, Holds, IsOfKind, Refers, Simply, entry_holds, first, formal_holds, held_by, key_holds, later, reference_to, result_holds, Procedure}
use Rattle.sim_sound.specs.Typed.{FormalsAre, NoFormal, NoFormals, ResultWritten}
use Rattle.sim_sound.proofs.Changes.{cell_of, equal_same}
use Rattle.sim_sound.proofs.Later.{All, Copies, Later, held_later}
use Rattle.sim_sound.proofs.Sound.{formal_kinds, holds_of, onto}
use Rattle.sim_sound.proofs.Values.{AllArrays, CellFine, CellsFine, HeldDeep, NotFor, by_depth, HandsFine, KeyAmong, Kinds, ValFine, first_key, key_of, later_key, in_hand}

-- the first value of a kind names no object
pub first_value : (s : Source) (o : AllArrays) (m : Instances) (j : ℕ) (k : Kind) (h : Holds) → IsOfKind h k → ValFine s o m j h (Of (initial k))
first_value s o m j kind.Integer (Simply k) e = (sym e, tt)
first_value s o m j kind.Boolean (Simply k) e = (sym e, tt)
first_value s o m j kind.Character (Simply k) e = (sym e, tt)
first_value s o m j kind.Text (Simply k) e = (sym e, tt)
first_value s o m j kind.Reference (Simply k) e = (sym e, tt)
first_value s o m j kind.Reference (Refers c) e = tt
first_value s o m j kind.Integer (Refers c) e = absurd (cc)
first_value s o m j kind.Boolean (Refers c) e = absurd (cc)
first_value s o m j kind.Character (Refers c) e = absurd (cc)
first_value s o m j kind.Text (Refers c) e = absurd (cc)
first_value s o m j k (ArrayOf h) e = absurd e
first_value s o m j k (Procedure r) e = absurd e
first_value s o m j k (ByName h) e = absurd e

reference_kind : (c : Option ℕ) → IsOfKind (reference_to c) kind.Reference
reference_kind None = refl
reference_kind (Some k) = refl

pub held_kind : (s : Source) (type : SimType) → IsOfKind (held_by s type) (kind_of_type type)
held_kind s (t.Ref d) = reference_kind (qualification s (Some (t.Ref d)))
held_kind s t.Integer = refl
held_kind s t.Boolean = refl
held_kind s t.Character = refl
held_kind s t.Text = refl
held_kind s t.NoneType = refl

module _ (s : Source) (o : AllArrays) (m : Instances) (j k : ℕ) where
  module _ (plain : has_levels (text s k) ≡ false) where
    here : (d : DeclNo) (e : Option Entry) → entry_of s.tables d ≡ e → key_holds s k (Declared d.0) ≡ entry_holds s false e
    here d e at = ap (λ z. entry_holds s z (entry_of s.tables d)) plain ∙ ap (entry_holds s false) at

    cell_first : (d : DeclNo) (e : Option Entry) (hs : List Held) → entry_of s.tables d ≡ e → NoFormal e → CellsFine s o m j k hs → CellsFine s o m j k (with_cell d e hs)
    cell_first d (Some (entry.Variable ty)) hs e n a =
        (subst (λ z. CellFine s o m j z (Some (Of (initial (kind_of_type ty))))) (sym (here d (Some (entry.Variable ty)) e)) (cell_of s o m j (held_by s ty) (Of (initial (kind_of_type ty))) (first_value s o m j (kind_of_type ty) (held_by s ty) (held_kind s ty))), a)
    cell_first d (Some (entry.Constant ty)) hs e n a = (subst (λ z. CellFine s o m j z None) (sym (here d (Some (entry.Constant ty)) e)) tt, a)
    cell_first d (Some (entry.Array ty dimensions)) hs e n a = (subst (λ z. CellFine s o m j z None) (sym (here d (Some (entry.Array ty dimensions)) e)) tt, a)
    cell_first d (Some (entry.Formal f)) hs e n a = absurd n
    cell_first d _ hs e n a = a

    cells_first : (ds : List DeclNo) → NoFormals s ds → CellsFine s o m j k (cells_from s ds)
    cells_first [] n = tt
    cells_first (d ∷ ds) n = cell_first d (entry_of s.tables d) (cells_from s ds) refl n.0 (cells_first ds n.1)

  pub block_cells : (begin : ℕ) (ds : Declarations) (ss : Statements) → text s k ≡ Some (BlockText begin ds ss) → NoFormals s (numbers_of s k) → CellsFine s o m j k (first_cells s k (BlockText begin ds ss))
  unfolding first_cells
  block_cells begin ds ss is n = cells_first (ap has_levels is) (numbers_of s k) n

  -- ---- values fill the cells of formal parameters

  abbrev pub SomeFine : Option Holds → Val → Type 0
  SomeFine None v = ⊥
  SomeFine (Some h) v = ValFine s o m j h v

  abbrev pub ValsFine : List (Option Holds) → List Val → Type 0
  ValsFine [] [] = Unit {0}
  ValsFine [] (v ∷ vs) = ⊥
  ValsFine (h ∷ hs) [] = ⊥
  ValsFine (h ∷ hs) (v ∷ vs) = SomeFine h v × ValsFine hs vs

  abbrev pub AllHeld : List Held → Type 0
  AllHeld [] = Unit {0}
  AllHeld (h ∷ hs) = (v : Val) × (h.value ≡ Some v) × AllHeld hs

  pub record Filled (values : List Val) (hs : List Held) : Type 0 where
    pub cells : List Held
    pub filled_is : filled values hs ≡ Some cells
    pub same_keys : map key_of cells ≡ map key_of hs
    pub fine : CellsFine s o m j k cells
    pub held_all : AllHeld cells

  fill_one : (d : DeclNo) (e : Option Entry) (f : Formal) (h : Holds) (v : Val) (vs : List Val) (hs : List Held) → entry_of s.tables d ≡ e → e ≡ Some (entry.Formal f) → formal_holds s f.mode f.kind f.ty ≡ Some h → ValFine s o m j h v → Filled vs hs → Filled (v ∷ vs) (with_cell d e hs)
  fill_one d e f h v vs hs at is holds a r =
      let key : key_holds s k (Declared d.0) ≡ Some h = ap (entry_holds s (has_levels (text s k))) (at ∙ is) ∙ holds in
      subst (λ z. Filled (v ∷ vs) (with_cell d z hs)) (sym is) (record {
        cells = record { key = Declared d.0; value = Some v } ∷ r.cells;
        filled_is = ap (held_before (record { key = Declared d.0; value = Some v })) r.filled_is;
        same_keys = ap (λ z. Declared d.0 ∷ z) r.same_keys;
        fine = (subst (λ z. CellFine s o m j z (Some v)) (sym key) (cell_of s o m j h v a), r.fine);
        held_all = (v, refl, r.held_all);
      })

  fill_all : (ds : List DeclNo) (fs : List Formal) (vs : List Val) → FormalsAre s ds fs → ValsFine (holds_of s fs) vs → Filled vs (cells_from s ds)
  fill_all [] [] [] a b = record { cells = []; filled_is = refl; same_keys = refl; fine = tt; held_all = tt }
  fill_all [] [] (v ∷ vs) a b = absurd b
  fill_all [] (f ∷ fs) vs a b = absurd a
  fill_all (d ∷ ds) [] vs a b = absurd a
  fill_all (d ∷ ds) (f ∷ fs) [] a b = absurd b
  fill_all (d ∷ ds) (f ∷ fs) (v ∷ vs) a b = fill_one d (entry_of s.tables d) f a.0 v vs (cells_from s ds) refl a.1 a.2 (subst (λ z. SomeFine z v) a.2 b.0) (fill_all ds fs vs a.3 b.1)

  pub record FilledBehind (result : Option TypeName) (values : List Val) (hs : List Held) : Type 0 where
    pub cells : List Held
    pub filled_is : filled_behind result values hs ≡ Some cells
    pub same_keys : map key_of cells ≡ map key_of hs
    pub fine : CellsFine s o m j k cells
    pub held_all : AllHeld cells

  written : (type : TypeName) (r : Option Holds) → ResultWritten (Some type) r → CellFine s o m j r (Some (Of (initial (kind_named type))))
  written type None w = absurd w
  written type (Some x) w = cell_of s o m j x (Of (initial (kind_named type))) (first_value s o m j (kind_named type) x w)

  behind_result : (result : Option TypeName) (vs : List Val) (hs : List Held) → ResultWritten result (result_holds s k) → Filled vs hs → FilledBehind result vs (with_result result hs)
  behind_result None vs hs is r = record { cells = r.cells; filled_is = r.filled_is; same_keys = r.same_keys; fine = r.fine; held_all = r.held_all }
  behind_result (Some type) vs hs is r = record {
    cells = record { key = Result; value = Some (Of (initial (kind_named type))) } ∷ r.cells;
    filled_is = ap (held_before (record { key = Result; value = Some (Of (initial (kind_named type))) })) r.filled_is;
    same_keys = ap (λ z. Result ∷ z) r.same_keys;
    fine = (written type (result_holds s k) is, r.fine);
    held_all = (Of (initial (kind_named type)), refl, r.held_all);
  }

  pub procedure_cells : (result : Option TypeName) (h : Heading) (a : Statement) (fs : List Formal) (vs : List Val) → ResultWritten result (result_holds s k) → FormalsAre s (numbers_of s k) fs → ValsFine (holds_of s fs) vs → FilledBehind result vs (first_cells s k (ProcedureText result h a))
  unfolding first_cells
  procedure_cells result h a fs vs is f v = behind_result result vs (cells_from s (numbers_of s k)) is (fill_all (numbers_of s k) fs vs f v)

  key_later : (key x : Key) (ks : List Key) → KeyAmong key (x ∷ ks) → (x ≡ key → ⊥) → KeyAmong key ks
  key_later key x ks first_key f = absurd (f refl)
  key_later key x ks (later_key c) f = c

  held_choice : (key : Key) (h : Held) (hs : List Held) (v : Val) → h.value ≡ Some v → (KeyAmong key (map key_of hs) → held key hs ≡ None → ⊥) → (b : Bool) → same_key h.key key ≡ b → KeyAmong key (h.key ∷ map key_of hs) → (if b then h.value else held key hs) ≡ None → ⊥
  held_choice key h hs v is ih true c a e = cc
  held_choice key h hs v is ih false c a e =
      ih (key_later key h.key (map key_of hs) a (λ same. let yes : same_key h.key key ≡ true = subst (λ z. same_key z key ≡ true) (sym same) (equal_same key) in cc)) e

  -- a cell that is there holds something then
  pub held_there : (key : Key) (hs : List Held) → AllHeld hs → KeyAmong key (map key_of hs) → held key hs ≡ None → ⊥
  held_there key [] a b e = elim b [ ]
  held_there key (h ∷ hs) a b e = held_choice key h hs a.0 a.1 (held_there key hs a.2) (same_key h.key key) refl b e

-- ---- which declarations have cells

abbrev number : ℕ → DeclNo
number n = record { 0 = n }

same_decl : (a b : ℕ) → Declared a ≡ Declared b → a ≡ b
same_decl a b q = cc

pub first_of : (d x : DeclNo) (ds : List DeclNo) → d.0 ≡ x.0 → Among d (x ∷ ds)
first_of d x ds g = subst (λ z. Among d (z ∷ ds)) (ap number g) first

pub one_more : (d x : DeclNo) (ds : List DeclNo) (key : Key) (ks : List Key) → key ≡ Declared d.0 → (KeyAmong key ks → Among d ds) → (y : Key) → y ≡ Declared x.0 → KeyAmong key (y ∷ ks) → Among d (x ∷ ds)
one_more d x ds key ks is f y e first_key = first_of d x ds (same_decl d.0 x.0 (sym is ∙ e))
one_more d x ds key ks is f y e (later_key b) = later (f b)

cell_key : (d x : DeclNo) (e : Option Entry) (hs : List Held) (ds : List DeclNo) → (KeyAmong (Declared d.0) (map key_of hs) → Among d ds) → KeyAmong (Declared d.0) (map key_of (with_cell x e hs)) → Among d (x ∷ ds)
cell_key d x (Some (entry.Variable ty)) hs ds f a = one_more d x ds (Declared d.0) (map key_of hs) refl f (Declared x.0) refl a
cell_key d x (Some (entry.Constant ty)) hs ds f a = one_more d x ds (Declared d.0) (map key_of hs) refl f (Declared x.0) refl a
cell_key d x (Some (entry.Array ty n)) hs ds f a = one_more d x ds (Declared d.0) (map key_of hs) refl f (Declared x.0) refl a
cell_key d x (Some (entry.Formal g)) hs ds f a = one_more d x ds (Declared d.0) (map key_of hs) refl f (Declared x.0) refl a
cell_key d x _ hs ds f a = later (f a)

from_key : (s : Source) (d : DeclNo) (ds : List DeclNo) → KeyAmong (Declared d.0) (map key_of (cells_from s ds)) → Among d ds
from_key s d [] a = elim a [ ]
from_key s d (x ∷ ds) a = cell_key d x (entry_of s.tables x) (cells_from s ds) ds (from_key s d ds) a

pub block_key : (s : Source) (k begin : ℕ) (ds : Declarations) (ss : Statements) (d : DeclNo) → KeyAmong (Declared d.0) (map key_of (first_cells s k (BlockText begin ds ss))) → Among d (numbers_of s k)
unfolding first_cells
block_key s k begin ds ss d a = from_key s d (numbers_of s k) a

-- ---- values that are taken

-- values on top of others, the last one first
abbrev pub back : List Val → List Val → List Val
back [] rest = rest
back (v ∷ vs) rest = back vs (v ∷ rest)

-- values that are the actuals of formal parameters, the first one on top of so many others
abbrev pub SomeDeep : Source → AllArrays → Instances → (j depth : ℕ) → Option Kinds → Val → Type 0
SomeDeep s o m j d None v = ⊥
SomeDeep s o m j d (Some x) v = HeldDeep s o m j d x v

abbrev pub ActualsAre : Source → AllArrays → Instances → (j depth : ℕ) → List (Option Kinds) → List Val → Type 0
ActualsAre s o m j d [] [] = Unit {0}
ActualsAre s o m j d [] (v ∷ vs) = ⊥
ActualsAre s o m j d (x ∷ xs) [] = ⊥
ActualsAre s o m j d (x ∷ xs) (v ∷ vs) = SomeDeep s o m j d x v × ActualsAre s o m j (suc d) xs vs

-- they stay fine
module _ (s : Source) (o : AllArrays) (m : Instances) (o' : AllArrays) (m' : Instances) (e : Later s o m o' m' All) (j : ℕ) (copies : (d : ℕ) → Copies o o' j d) where
  some_later : (d : ℕ) (x : Option Kinds) (v : Val) → SomeDeep s o m j d x v → SomeDeep s o' m' j d x v
  some_later d None v f = f
  some_later d (Some x) v f = held_later s o m o' m' All e j tt d (copies (suc d)) x v f

  pub actuals_later : (xs : List (Option Kinds)) (vs : List Val) (d : ℕ) → ActualsAre s o m j d xs vs → ActualsAre s o' m' j d xs vs
  actuals_later [] [] d a = a
  actuals_later [] (v ∷ vs) d a = absurd a
  actuals_later (x ∷ xs) [] d a = absurd a
  actuals_later (x ∷ xs) (v ∷ vs) d a = (some_later d x v a.0, actuals_later xs vs (suc d) a.1)

pub record Taken (s : Source) (o : AllArrays) (m : Instances) (i : ℕ) (hs : List (Option Kinds)) (left : List Kinds) (vals : List Val) : Type 0 where
  pub values : List Val
  pub rest : List Val
  pub are : vals ≡ back values rest
  pub fine : ActualsAre s o m i (length rest) hs values
  pub more : HandsFine s o m i left rest
  pub count : length values ≡ length hs

abbrev pub AllSome : List (Option Kinds) → Type 0
AllSome [] = Unit {0}
AllSome (None ∷ hs) = ⊥
AllSome (Some h ∷ hs) = NotFor h × AllSome hs

pub taken : (s : Source) (o : AllArrays) (m : Instances) (i : ℕ) (hs : List (Option Kinds)) (left : List Kinds) (vals : List Val) → AllSome hs → HandsFine s o m i (onto hs left) vals → Taken s o m i hs left vals
taken s o m i [] left vals a h = record { values = []; rest = vals; are = refl; fine = tt; more = h; count = refl }
taken s o m i (None ∷ hs) left vals a h = absurd a
taken s o m i (Some x ∷ hs) left vals a h = one_more_taken (taken s o m i hs (x ∷ left) vals a.1 h)
  where
    with_rest : (vs rest : List Val) → vals ≡ back vs rest → ActualsAre s o m i (length rest) hs vs → length vs ≡ length hs → HandsFine s o m i (x ∷ left) rest → Taken s o m i (Some x ∷ hs) left vals
    with_rest vs [] e f c h = absurd h
    with_rest vs (v ∷ rest) e f c h = record { values = v ∷ vs; rest = rest; are = e; fine = (by_depth s o m i rest x v a.0 h.0, f); more = h.1; count = ap suc c }

    one_more_taken : Taken s o m i hs (x ∷ left) vals → Taken s o m i (Some x ∷ hs) left vals
    one_more_taken t = with_rest t.values t.rest t.are t.fine t.count t.more

some_first : (b : Bool) (h : Holds) (hs : List (Option Kinds)) → AllSome hs → AllSome (in_hand b (Some h) ∷ hs)
some_first true (ArrayOf k) hs a = (tt, a)
some_first true (Simply k) hs a = (tt, a)
some_first true (Refers c) hs a = (tt, a)
some_first true (Procedure r) hs a = (tt, a)
some_first true (ByName k) hs a = (tt, a)
some_first false h hs a = (tt, a)

pub formals_some : (s : Source) (ds : List DeclNo) (fs : List Formal) → FormalsAre s ds fs → AllSome (formal_kinds s fs)
formals_some s [] [] a = tt
formals_some s [] (f ∷ fs) a = absurd a
formals_some s (d ∷ ds) [] a = absurd a
formals_some s (d ∷ ds) (f ∷ fs) a = subst (λ z. AllSome (in_hand (is_array_by_value f.mode f.kind) z ∷ formal_kinds s fs)) (sym a.2) (some_first (is_array_by_value f.mode f.kind) a.0 (formal_kinds s fs) (formals_some s ds fs a.3))

-- as many values are taken in the order in which they came
many_from : {S : Type 0} (n : ℕ) (vs got rest : List Val) (o : World) (f : List Val → List Val → Run S) → pop_many (length vs + n) got (back vs rest) o f ≡ pop_many n (vs ++ got) rest o f
unfolding pop_many
many_from n [] got rest o f = let e : 0 + n ≡ n = omega arith in ap (λ z. pop_many z got rest o f) e
many_from n (v ∷ vs) got rest o f =
    let e : suc (length vs) + n ≡ length vs + suc n = omega arith in
    ap (λ z. pop_many z got (back vs (v ∷ rest)) o f) e ∙ many_from (suc n) vs got (v ∷ rest) o f

append_none : (vs : List Val) → vs ++ [] ≡ vs
append_none [] = refl
append_none (v ∷ vs) = ap (λ z. v ∷ z) (append_none vs)

pub all_taken : {S : Type 0} (vs rest : List Val) (o : World) (f : List Val → List Val → Run S) → pop_many (length vs) [] (back vs rest) o f ≡ f vs rest
unfolding pop_many
all_taken vs rest o f =
    let e : length vs ≡ length vs + 0 = omega arith in
    ap (λ z. pop_many z [] (back vs rest) o f) e ∙ many_from 0 vs [] rest o f ∙ ap (λ z. f z rest) (append_none vs)
