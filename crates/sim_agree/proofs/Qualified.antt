-- The class of each reference: where the second round breaks no rule and no class is found through a connection, each qualification found its class.
use Rattle.std.proofs.Common.{◌≡◌, ◌<◌, ◌⊎◌, inl, inr, ℕ, zero, suc, Bool, true, false, List, [], ◌∷◌, ◌++◌, length, Option, Some, None, refl, sym, ap, ◌∙◌, subst, arith, if◌then◌else◌}
use Rattle.std.specs.Prelude.{◌||◌, nat_eq, slice_get, slice_set}
use Rattle.std.proofs.lemmas.Bool.Decides.{nat_tests}
use Rattle.sim_base.specs.declared.numbering.DeclNo.{DeclNo}
use Rattle.sim_agree.specs.Order.{InOrder}
use Rattle.sim_scope.specs.declared.found.Fault.{Fault}
use Rattle.sim_scope.specs.declared.scopes.Declaration.{Declaration}
use Rattle.sim_scope.specs.declared.scopes.Denotation.{Denotation}
use Rattle.sim_scope.specs.declared.scopes.Denotation.TheVariants as denotation
use Rattle.sim_scope.specs.declared.scopes.Qualification.{Qualification}
use Rattle.sim_scope.specs.declared.types.Entry.{Entry}
use Rattle.sim_scope.specs.declared.types.Entry.TheVariants as entry
use Rattle.sim_scope.specs.Access.{block_at, is_connection as is_connection_kind, is_kind}
use Rattle.sim_scope.specs.Declare.{declared_by}
use Rattle.sim_scope.specs.Found.{precedes}
use Rattle.sim_scope.specs.Levels.{base, base_in, class_block, class_block_in, holds, is_for_prefixing, is_simulation, is_simulation_block, some_level_of, standard_in}
use Rattle.sim_scope.specs.Runs.{each, run}
use Rattle.sim_scope.specs.Scopes.{binding, entry_in, entry_is, entry_of, found_in, is_virtual}
use Rattle.sim_scope.specs.Source.{Source}
use Rattle.sim_scope.specs.Tables.{BlockOf, Tables, with_base_at, with_entry_at}
use Rattle.sim_scope.specs.Walk.{program_events}
use Rattle.sim_scope.proofs.Kept.{set_here, set_other}
use Rattle.prefix_bind.specs.Prefixes.{least_of, noted, prefixed}
use Rattle.virtual_match.specs.Protections.{second_faults}
use Rattle.virtual_match.specs.Qualifying.{class_denoted, class_unless, class_with_block, class_written, declaration_to, entry_to, fault_unless, qualification_faults, qualified, qualified_to, with_qualification}
use Rattle.inspect_types.specs.Connecting.{Connecting, ConnectingOf, Connects, Looks, Names, connected, connected_at, connecting, connections}
use Rattle.sim_static.specs.Check.{completed, second_least}
use Rattle.sim_meaning.specs.Attributes.{is_connection}
use Rattle.sim_meaning.specs.Texts.{text}
use Rattle.sim_agree.specs.TablesOf.{TablesOf}
use Rattle.sim_agree.proofs.Completing.{AllReferences, Completes, Requalified, Retyped, bare_row, class_was, entry_is_class, one_more, same_rows, twice}
use Rattle.sim_agree.proofs.Groups.{OfReferences}
use Rattle.sim_agree.proofs.Insides as ic
use Rattle.sim_agree.proofs.Prefixing.{prefixed_is, with_blocks}
use Rattle.sim_agree.proofs.Tables as t
use Rattle.sim_agree.proofs.Tables.{IsClassText, all_references, program_clean}
use Rattle.sim_agree.proofs.Retypes.{class_new}
use Rattle.sim_agree.proofs.Accessible.{rows_stand, standing}
use Rattle.sim_agree.proofs.Unconnected.{bound_alone}
use Rattle.sim_agree.proofs.Unprefixed.{no_procedure_stands}
use Rattle.sim_agree.proofs.ClassRows.{class_entry as class_text, no_class_connection}

-- ---- no fault

some_stays : (fs : List Fault) (f : Fault) → run noted (Some f) fs ≡ None → ⊥
unfolding run noted
some_stays [] f e = cc
some_stays (g ∷ fs) f e = go (precedes g f) (some_stays fs g) (some_stays fs f) e
  where
    go : (c : Bool) → (run noted (Some g) fs ≡ None → ⊥) → (run noted (Some f) fs ≡ None → ⊥) → run noted (if c then Some g else Some f) fs ≡ None → ⊥
    go true a b q = a q
    go false a b q = b q

pub no_least : (fs : List Fault) → least_of fs ≡ None → fs ≡ []
unfolding least_of run noted
no_least [] e = refl
no_least (f ∷ fs) e = absurd (some_stays fs f e)

both_none : (xs ys : List Fault) → xs ++ ys ≡ [] → (xs ≡ []) × (ys ≡ [])
both_none [] ys e = (refl, e)
both_none (x ∷ xs) ys e = absurd (cc)

each_none : (f : Qualification → List Fault) (qs : List Qualification) → each f qs ≡ [] → (i : ℕ) (x : Qualification) → slice_get qs i ≡ Some x → f x ≡ []
each_none f [] e i x at = absurd (cc)
each_none f (q ∷ qs) e zero x at = let same : q ≡ x = cc in subst (λ z. f z ≡ []) same (both_none (f q) (each f qs) e).0
each_none f (q ∷ qs) e (suc i) x at = each_none f qs (both_none (f q) (each f qs) e).1 i x at

pub written_where : (T : Tables) → second_least T ≡ None → (i : ℕ) (x : Qualification) → slice_get T.qualifications i ≡ Some x → (class : DeclNo) × (class_written T x ≡ Some class)
unfolding second_faults qualification_faults
written_where T e i x at = go (class_written T x) refl (each_none (λ q. qualification_faults T q) T.qualifications (both_none (each (λ q. qualification_faults T q) T.qualifications) _ (no_least (second_faults T) e)).0 i x at)
  where
    go : (o : Option DeclNo) → class_written T x ≡ o → fault_unless x.class.token.0 o ≡ [] → (class : DeclNo) × (class_written T x ≡ Some class)
    go None is f = absurd (cc)
    go (Some class) is f = (class, is)

-- the class that is written is what the identifier denotes
pub record Written (T : Tables) (x : Qualification) (class : DeclNo) : Type 0 where
  pub binds : binding T x.class.token.0 x.class.name ≡ Some (denotation.Declared class)
  pub block : ℕ
  pub declares : class_block T class ≡ Some block
  -- and is not only for prefixing
  pub single : is_for_prefixing T block ≡ false

pub written_is : (T : Tables) (x : Qualification) (class : DeclNo) → class_written T x ≡ Some class → Written T x class
unfolding class_written
written_is T x class e = go (binding T x.class.token.0 x.class.name) refl e
  where
    unless : (d : DeclNo) (c : Bool) → class_unless d c ≡ Some class → (d ≡ class) × (c ≡ false)
    unless d true f = absurd (cc)
    unless d false f = (cc, refl)

    with_block : (d : DeclNo) (o : Option ℕ) → class_block T d ≡ o → binding T x.class.token.0 x.class.name ≡ Some (denotation.Declared d) → class_with_block T d o ≡ Some class → Written T x class
    with_block d None is b f = absurd (cc)
    with_block d (Some n) is b f =
        let u = unless d (is_for_prefixing T n) f in
        subst (λ z. Written T x z) u.0 (record { binds = b; block = n; declares = is; single = u.1 })

    go : (o : Option Denotation) → binding T x.class.token.0 x.class.name ≡ o → class_denoted T o ≡ Some class → Written T x class
    go None is f = absurd (cc)
    go (Some (denotation.Standard name)) is f = absurd (cc)
    go (Some (denotation.Declared d)) is f = with_block d (class_block T d) refl is f

-- ---- what stays

qualification_keeps : (T : Tables) (q : Qualification) → (with_qualification T q).qualifications ≡ T.qualifications
unfolding with_qualification with_entry_at
qualification_keeps T q = go (class_written T q)
  where
    known : (class : DeclNo) (o : Option Entry) → (declaration_to T q.declaration class o).qualifications ≡ T.qualifications
    known class None = refl
    known class (Some e) = there (slice_get T.declarations q.declaration.0)
      where
        there : (o : Option Declaration) → (elim o as (λ z. Tables) [ None ↦ T | Some row ↦ record T { declarations = slice_set T.declarations q.declaration.0 (record row { entry = entry_to class e }) } ]).qualifications ≡ T.qualifications
        there None = refl
        there (Some row) = refl

    go : (o : Option DeclNo) → (qualified_to T q.declaration o).qualifications ≡ T.qualifications
    go None = refl
    go (Some class) = known class (entry_of T q.declaration)

qualifications_keep : (T : Tables) (qs : List Qualification) → (run with_qualification T qs).qualifications ≡ T.qualifications
unfolding run
qualifications_keep T [] = refl
qualifications_keep T (q ∷ qs) = qualifications_keep (with_qualification T q) qs ∙ qualification_keeps T q

abbrev SameRows : Tables → Tables → Type 0
SameRows T U = (U.declarations ≡ T.declarations) × (U.qualifications ≡ T.qualifications)

connection_keeps : (T : Tables) (o class : Option ℕ) → SameRows T (connected_at T o class)
unfolding with_base_at
connection_keeps T None class = (refl, refl)
connection_keeps T (Some k) class = go (slice_get T.blocks k)
  where
    go : (o : Option BlockOf) → SameRows T (elim o as (λ z. Tables) [ None ↦ T | Some row ↦ record T { blocks = slice_set T.blocks k (record row { base = class }) } ])
    go None = (refl, refl)
    go (Some row) = (refl, refl)

connections_keep : (es : List Connecting) (c : ConnectingOf) → SameRows c.tables (run connecting c es).tables
unfolding run connecting
connections_keep [] c = (refl, refl)
connections_keep (Looks e ∷ es) c = connections_keep es (connecting c (Looks e))
connections_keep (Names x ∷ es) c = connections_keep es (connecting c (Names x))
connections_keep (Connects i ∷ es) c =
    let q = connections_keep es (connecting c (Connects i)) in
    let p = connection_keeps c.tables (block_at c.tables i) c.next in (q.0 ∙ p.0, q.1 ∙ p.1)

class_in : (T : Tables) (d : DeclNo) (n : ℕ) → class_block T d ≡ Some n → entry_of T d ≡ Some (entry.Class n)
unfolding class_block entry_of
class_in T d n e = go (slice_get T.declarations d.0) e
  where
    go : (o : Option Declaration) → class_block_in (elim o [ None ↦ None | Some row ↦ Some row.entry ]) ≡ Some n → entry_in o ≡ Some (entry.Class n)
    go None f = absurd (cc)
    go (Some row) f = ap Some (entry_is_class n row.entry f)

module _ (s : Source) (of : TablesOf s) (order : InOrder s.program) where
  done : Completes (declared_by s.program).tables s.tables (IsClassText s.program)
  done = t.completed_tables s of order

  known : AllReferences (declared_by s.program).tables (declared_by s.program).tables.qualifications
  known = all_references (declared_by s.program).tables (declared_by s.program).tables.qualifications (program_clean s.program of.unbroken).refs

  -- the declarations of the complete tables are those with the classes of references
  rows_are : SameRows (qualified (with_blocks (declared_by s.program).tables (prefixed (declared_by s.program).tables).blocks)) s.tables
  unfolding completed connected
  rows_are =
      subst (λ z. SameRows (qualified z) s.tables) (prefixed_is (declared_by s.program).tables (t.P s of order))
      (subst (λ z. SameRows (qualified (prefixed (declared_by s.program).tables)) z) (sym of.tables)
      (connections_keep (program_events connections s.program) (record { tables = qualified (prefixed (declared_by s.program).tables); next = None })))

  same_qualifications : s.tables.qualifications ≡ (declared_by s.program).tables.qualifications
  unfolding qualified
  same_qualifications = rows_are.1 ∙ qualifications_keep (with_blocks (declared_by s.program).tables (prefixed (declared_by s.program).tables).blocks) (declared_by s.program).tables.qualifications

  pub class_entry : (d : DeclNo) (n : ℕ) → class_block s.tables d ≡ Some n → entry_of s.tables d ≡ Some (entry.Class n)
  class_entry d n e = class_in s.tables d n e

  -- it is no connection
  class_other : (d : DeclNo) (n : ℕ) → class_block s.tables d ≡ Some n → is_kind is_connection_kind s.tables n ≡ false
  unfolding text
  class_other d n e =
      let r = t.entry_row s of order d (entry.Class n) (class_entry d n e) in
      let x = t.text_of_row s of order d.0 r.0 r.1 in
      ic.connections s of order n ∙ no_class_connection (text s n) (class_text x.0 (t.Bs s of order) (t.Ts s of order) d.0 r.0 n r.2 x.2)

  -- ---- tables in which some references have their classes

  module _ (T : Tables) (r : Requalified (with_blocks (declared_by s.program).tables (prefixed (declared_by s.program).tables).blocks) T) where
    standards_early : (k : ℕ) → standard_in (slice_get T.blocks k) ≡ standard_in (slice_get (prefixed (declared_by s.program).tables).blocks k)
    standards_early k = ap (λ z. standard_in (slice_get z k)) r.blocks

    base_early : (k : ℕ) → base T k ≡ base (prefixed (declared_by s.program).tables) k
    unfolding base
    base_early k = ap (λ z. base_in (slice_get z k)) r.blocks

    text_other : (k : ℕ) → is_kind is_connection_kind s.tables k ≡ false → is_connection (text s k) ≡ false
    text_other k e = sym (ic.connections s of order k) ∙ e

    own_early : (k : ℕ) → is_kind is_connection_kind s.tables k ≡ false → base T k ≡ base s.tables k
    own_early k e = base_early k ∙ sym (t.own_base_of s of order k (text_other k e))

    none_early : (k : ℕ) → is_kind is_connection_kind s.tables k ≡ true → base T k ≡ None
    none_early k e = base_early k ∙ go (base (prefixed (declared_by s.program).tables) k) refl
      where
        go : (o : Option ℕ) → base (prefixed (declared_by s.program).tables) k ≡ o → o ≡ None
        go None is = refl
        go (Some b) is =
            absurd (let q : true ≡ false = sym e ∙ ic.connections s of order k ∙ t.next_there s of order k b ((t.P s of order).bases k b is) in cc)

    next_early : (k c : ℕ) → base s.tables k ≡ Some c → is_kind is_connection_kind s.tables c ≡ false
    next_early k c e = ic.connections s of order c ∙ no_class_connection (text s c) (t.connects s of order k c e)

    stand_early : (d : ℕ) → standing (slice_get T.declarations d) ≡ standing (slice_get s.tables.declarations d)
    stand_early d = rows_stand (declared_by s.program).tables.declarations T.declarations r.rows d ∙ sym (rows_stand (declared_by s.program).tables.declarations s.tables.declarations done.rows d)

    -- a class was a class from the start
    class_early : (d : DeclNo) (n : ℕ) → class_block s.tables d ≡ Some n → class_block T d ≡ Some n
    unfolding class_block
    class_early d n e = go (slice_get s.tables.declarations d.0) refl e
      where
        go : (o : Option Declaration) → slice_get s.tables.declarations d.0 ≡ o → class_block_in (elim o [ None ↦ None | Some row ↦ Some row.entry ]) ≡ Some n → class_block_in (elim (slice_get T.declarations d.0) [ None ↦ None | Some row ↦ Some row.entry ]) ≡ Some n
        go None at f = absurd (cc)
        go (Some row) at f =
            let w = done.rows.was d.0 row at in
            let was : w.0.entry ≡ entry.Class n = class_was n w.0.entry row.entry w.2.entry (entry_is_class n row.entry f) in
            let u = r.rows.stays d.0 w.0 w.1 in
            let now : u.0.entry ≡ entry.Class n = class_new w.0.entry u.0.entry u.2.entry n was in
            ap (λ o. class_block_in (elim o [ None ↦ None | Some row ↦ Some row.entry ])) u.1 ∙ ap (λ e. class_block_in (Some e)) now

    simulates_early : (k : ℕ) → is_simulation_block T k ≡ is_simulation_block s.tables k
    unfolding is_simulation_block
    simulates_early k = ap is_simulation (standards_early k ∙ sym (done.standards k))

    -- which levels are so
    levels_early : (n k : ℕ) → is_kind is_connection_kind s.tables k ≡ false → some_level_of T n (is_simulation_block T) k ≡ some_level_of s.tables n (is_simulation_block s.tables) k
    unfolding some_level_of
    levels_early zero k other = refl
    levels_early (suc n) k other =
        ap (λ z. z || holds (λ b. some_level_of T n (is_simulation_block T) b) (base T k)) (simulates_early k)
        ∙ ap (λ z. is_simulation_block s.tables k || z) (ap (holds (λ b. some_level_of T n (is_simulation_block T) b)) (own_early k other) ∙ further (base s.tables k) (λ b e. levels_early n b (next_early k b e)))
      where
        further : (o : Option ℕ) → ((b : ℕ) → o ≡ Some b → some_level_of T n (is_simulation_block T) b ≡ some_level_of s.tables n (is_simulation_block s.tables) b)
            → holds (λ b. some_level_of T n (is_simulation_block T) b) o ≡ holds (λ b. some_level_of s.tables n (is_simulation_block s.tables) b) o
        further None h = refl
        further (Some b) h = h b refl

    -- what is found through no connection in the complete tables is found in these
    written_early : (x : Qualification) (class : DeclNo) → Written s.tables x class → ((u : ℕ) → found_in s.tables x.class.token.0 x.class.name ≡ Some u → is_kind is_connection_kind s.tables u ≡ false) → class_written T x ≡ Some class
    unfolding class_written is_for_prefixing
    written_early x class w alone =
        ap (class_denoted T) (bound (length T.blocks) refl) ∙ ap (class_with_block T class) (class_early class w.block w.declares) ∙ ap (class_unless class) (ap (λ n. some_level_of T n (is_simulation_block T) w.block) (sym size) ∙ levels_early (length s.tables.blocks) w.block (class_other class w.block w.declares) ∙ w.single)
      where
        size : length s.tables.blocks ≡ length T.blocks
        size = done.size ∙ sym (t.P s of order).size ∙ ap length (sym r.blocks)

        bound : (n : ℕ) → length T.blocks ≡ n → binding T x.class.token.0 x.class.name ≡ Some (denotation.Declared class)
        bound zero e = absurd (let lt : 0 < length s.tables.blocks = t.some_block s of order in omega (arith, lt, size, e))
        bound (suc more) e =
            bound_alone T s.tables (λ k. done.blocks k ∙ sym ((t.P s of order).blocks k) ∙ ap (λ z. bare_row (slice_get z k)) (sym r.blocks)) size (done.places ∙ sym r.places) own_early none_early next_early stand_early (λ k. standards_early k ∙ sym (done.standards k)) more e x.class.token.0 x.class.name class (ap (entry_is is_virtual) (class_entry class w.block w.declares)) (no_procedure_stands T class (entry.Class w.block) (class_in T class w.block (class_early class w.block w.declares)) refl) w.binds alone

  -- ---- a reference has its class

  -- a class that is written for a declaration
  pub record Gives (m : ℕ) (class : DeclNo) : Type 0 where
    pub place : ℕ
    pub qualification : Qualification
    pub at : slice_get (declared_by s.program).tables.qualifications place ≡ Some qualification
    pub of_row : qualification.declaration.0 ≡ m
    pub written : class_written s.tables qualification ≡ Some class

  pub record IsSet (T : Tables) (m : ℕ) : Type 0 where
    pub row : Declaration
    pub at : slice_get T.declarations m ≡ Some row
    pub old : Declaration
    pub was : slice_get (declared_by s.program).tables.declarations m ≡ Some old
    pub refs : OfReferences old.entry
    pub class : DeclNo
    pub is : row.entry ≡ entry_to class old.entry
    pub block : ℕ
    pub declares : class_block s.tables class ≡ Some block
    pub given : Gives m class

  abbrev Known : Qualification → Type 0
  Known q = (row : Declaration) × (slice_get (declared_by s.program).tables.declarations q.declaration.0 ≡ Some row) × OfReferences row.entry

  module _ (T : Tables) (r : Requalified (with_blocks (declared_by s.program).tables (prefixed (declared_by s.program).tables).blocks) T) (q : Qualification) (knows : Known q) (class : DeclNo) (n : ℕ) (cl : class_block s.tables class ≡ Some n) (written : class_written T q ≡ Some class) (given : Gives q.declaration.0 class) where
    now : (new : Declaration) × (slice_get T.declarations q.declaration.0 ≡ Some new) × Retyped knows.0 new
    now = r.rows.stays q.declaration.0 knows.0 knows.1

    changed : Declaration
    changed = record now.0 { entry = entry_to class now.0.entry }

    changed_is : entry_to class now.0.entry ≡ entry_to class knows.0.entry
    changed_is = go now.2.entry
      where
        go : (now.0.entry ≡ knows.0.entry) ⊎ (OfReferences knows.0.entry × ((c : DeclNo) × (now.0.entry ≡ entry_to c knows.0.entry))) → entry_to class now.0.entry ≡ entry_to class knows.0.entry
        go (inl e) = ap (entry_to class) e
        go (inr f) = ap (entry_to class) f.1.1 ∙ twice knows.0.entry f.1.0 class

    after : with_qualification T q ≡ record T { declarations = slice_set T.declarations q.declaration.0 (record now.0 { entry = entry_to class now.0.entry }) }
    unfolding with_qualification with_entry_at entry_of
    after =
        ap (λ o. qualified_to T q.declaration o) written ∙ ap (λ o. declaration_to T q.declaration class (entry_in o)) now.1
        ∙ ap (λ o. elim o as (λ z. Tables) [ None ↦ T | Some row ↦ record T { declarations = slice_set T.declarations q.declaration.0 (record row { entry = entry_to class now.0.entry }) } ]) now.1

    after_rows : (with_qualification T q).declarations ≡ slice_set T.declarations q.declaration.0 (record now.0 { entry = entry_to class now.0.entry })
    after_rows = ap (λ (z : Tables). z.declarations) after

    set_now : IsSet (with_qualification T q) q.declaration.0
    set_now = record {
      row = record now.0 { entry = entry_to class now.0.entry };
      at = ap (λ z. slice_get z q.declaration.0) after_rows ∙ set_here T.declarations q.declaration.0 now.0 (record now.0 { entry = entry_to class now.0.entry }) now.1;
      old = knows.0;
      was = knows.1;
      refs = knows.2;
      class = class;
      is = changed_is;
      block = n;
      declares = cl;
      given = given;
    }

    set_stays : (m : ℕ) → IsSet T m → IsSet (with_qualification T q) m
    set_stays m i = go (nat_eq q.declaration.0 m) refl
      where
        go : (c : Bool) → nat_eq q.declaration.0 m ≡ c → IsSet (with_qualification T q) m
        go true e = let same : q.declaration.0 ≡ m = grind (arith, nat_tests) in subst (λ z. IsSet (with_qualification T q) z) same set_now
        go false e = record {
          row = i.row;
          at = ap (λ z. slice_get z m) after_rows ∙ set_other T.declarations q.declaration.0 m (record now.0 { entry = entry_to class now.0.entry }) e ∙ i.at;
          old = i.old;
          was = i.was;
          refs = i.refs;
          class = i.class;
          is = i.is;
          block = i.block;
          declares = i.declares;
          given = i.given;
        }

  -- the class of a qualification is found in all tables that have the classes of some references
  pub record Finds (x : Qualification) : Type 0 where
    pub class : DeclNo
    pub block : ℕ
    pub declares : class_block s.tables class ≡ Some block
    pub given : Gives x.declaration.0 class
    pub found : (T : Tables) → Requalified (with_blocks (declared_by s.program).tables (prefixed (declared_by s.program).tables).blocks) T → class_written T x ≡ Some class

  all_set : (qs : List Qualification) (T : Tables) → Requalified (with_blocks (declared_by s.program).tables (prefixed (declared_by s.program).tables).blocks) T → AllReferences (declared_by s.program).tables qs → ((i : ℕ) (x : Qualification) → slice_get qs i ≡ Some x → Finds x)
      → ((m : ℕ) → IsSet T m → IsSet (run with_qualification T qs) m) × ((i : ℕ) (x : Qualification) → slice_get qs i ≡ Some x → IsSet (run with_qualification T qs) x.declaration.0)
  unfolding run
  all_set [] T r a f = ((λ m i. i), λ i x at. absurd (cc))
  all_set (q ∷ qs) T r a f =
      let h = f 0 q refl in
      let rest = all_set qs (with_qualification T q) (one_more (with_blocks (declared_by s.program).tables (prefixed (declared_by s.program).tables).blocks) T r q a.0) a.1 (λ i x at. f (suc i) x at) in
      ((λ m i. rest.0 m (set_stays T r q a.0 h.class h.block h.declares (h.found T r) h.given m i)), λ i x at. go rest.0 rest.1 h i x at)
    where
      go : ((m : ℕ) → IsSet (with_qualification T q) m → IsSet (run with_qualification (with_qualification T q) qs) m) → ((i : ℕ) (x : Qualification) → slice_get qs i ≡ Some x → IsSet (run with_qualification (with_qualification T q) qs) x.declaration.0)
          → Finds q → (i : ℕ) (x : Qualification) → slice_get (q ∷ qs) i ≡ Some x → IsSet (run with_qualification (with_qualification T q) qs) x.declaration.0
      go keep rest h zero x at =
          let same : q ≡ x = cc in
          subst (λ (z : Qualification). IsSet (run with_qualification (with_qualification T q) qs) z.declaration.0) same (keep q.declaration.0 (set_now T r q a.0 h.class h.block h.declares (h.found T r) h.given))
      go keep rest h (suc i) x at = rest i x at

  -- each qualification has written its class into the complete tables
  module _ (second : second_least s.tables ≡ None)
      (outside : (token found : ℕ) (name : List ℕ) (d : DeclNo) (k : ℕ) → binding s.tables token name ≡ Some (denotation.Declared d) → entry_of s.tables d ≡ Some (entry.Class k) → found_in s.tables token name ≡ Some found → is_connection (text s found) ≡ false) where
    finds : (i : ℕ) (x : Qualification) → slice_get (declared_by s.program).tables.qualifications i ≡ Some x → Finds x
    finds i x at =
        let c = written_where s.tables second i x (ap (λ z. slice_get z i) same_qualifications ∙ at) in
        let w = written_is s.tables x c.0 c.1 in record {
          class = c.0;
          block = w.block;
          declares = w.declares;
          given = record { place = i; qualification = x; at = at; of_row = refl; written = c.1 };
          found = λ T r. written_early T r x c.0 w (λ u e. ic.connections s of order u ∙ outside x.class.token.0 u x.class.name c.0 w.block w.binds (class_entry c.0 w.block w.declares) e);
        }

    pub set_there : (i : ℕ) (x : Qualification) → slice_get (declared_by s.program).tables.qualifications i ≡ Some x → IsSet s.tables x.declaration.0
    unfolding qualified
    set_there i x at =
        let D0 : Tables = (with_blocks (declared_by s.program).tables (prefixed (declared_by s.program).tables).blocks) in
        let start : Requalified D0 D0 = record { blocks = refl; places = refl; rows = same_rows D0.declarations } in
        let j : IsSet (run with_qualification D0 D0.qualifications) x.declaration.0 = (all_set D0.qualifications D0 start known finds).1 i x at in
        record { row = j.row; at = ap (λ z. slice_get z x.declaration.0) rows_are.0 ∙ j.at; old = j.old; was = j.was; refs = j.refs; class = j.class; is = j.is; block = j.block; declares = j.declares; given = j.given }
