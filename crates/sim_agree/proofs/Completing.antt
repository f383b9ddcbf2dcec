-- What the static rules add to the tables of a program: the class of each reference and of each connection. All else stays.
use Rattle.std.proofs.Common.{◌≡◌, ◌⊎◌, inl, inr, ℕ, Bool, true, false, List, [], ◌∷◌, length, Option, Some, None, refl, sym, ap, ◌∙◌, subst, arith}
use Rattle.std.specs.Prelude.{nat_eq, slice_get, slice_set}
use Rattle.std.proofs.lemmas.List.{length-set}
use Rattle.std.proofs.lemmas.Bool.Decides.{nat_tests}
use Rattle.sim_base.specs.declared.numbering.DeclNo.{DeclNo}
use Rattle.sim_tree.specs.Syntax.{Program}
use Rattle.sim_scope.specs.declared.outcome.Extent.TheVariants as extent
use Rattle.sim_scope.specs.declared.scopes.Declaration.{Declaration}
use Rattle.sim_scope.specs.declared.scopes.Denotation.{Denotation}
use Rattle.sim_scope.specs.declared.scopes.Denotation.TheVariants as denotation
use Rattle.sim_scope.specs.declared.scopes.Qualification.{Qualification}
use Rattle.sim_scope.specs.declared.types.BlockKind.{BlockKind}
use Rattle.sim_scope.specs.declared.types.BlockKind.TheVariants as kind
use Rattle.sim_scope.specs.declared.types.Entry.{Entry}
use Rattle.sim_scope.specs.declared.types.Entry.TheVariants as entry
use Rattle.sim_scope.specs.declared.types.SimType.{SimType}
use Rattle.sim_scope.specs.declared.types.SimType.TheVariants as t
use Rattle.sim_scope.specs.Access.{block_at, joined}
use Rattle.sim_scope.specs.Expressions.{judge_side}
use Rattle.sim_scope.specs.Levels.{base_in, class_block, class_block_in, standard_in}
use Rattle.sim_scope.specs.Runs.{run}
use Rattle.sim_scope.specs.Scopes.{binding, entry_in, entry_of}
use Rattle.sim_scope.specs.Tables.{BlockOf, Tables, with_base_at, with_entry_at}
use Rattle.sim_scope.specs.Walk.{program_events}
use Rattle.sim_scope.proofs.Kept.{kept_set, set_here, set_other}
use Rattle.prefix_bind.specs.Prefixes.{prefixed}
use Rattle.virtual_match.specs.Qualifying.{class_written, declaration_to, entry_to, qualified, qualified_to, type_to, with_qualification}
use Rattle.inspect_types.specs.Connecting.{Connecting, ConnectingOf, Connects, Looks, Names, class_of_name, class_of_type, connected, connected_at, connecting, connections}
use Rattle.sim_agree.proofs.Groups.{OfReferences}
use Rattle.sim_agree.proofs.Openings.{AllOpened, Opened}
use Rattle.sim_agree.proofs.Unprefixed.{is_prefixable}

-- ---- the classes of references

-- a row is the same, but for the class by which what is of references is qualified
pub record Retyped (old new : Declaration) : Type 0 where
  pub name : new.name ≡ old.name
  pub token : new.token ≡ old.token
  pub block : new.block ≡ old.block
  pub listed : new.listed ≡ old.listed
  pub entry : (new.entry ≡ old.entry) ⊎ (OfReferences old.entry × ((class : DeclNo) × (new.entry ≡ entry_to class old.entry)))

same_retyped : (row : Declaration) → Retyped row row
same_retyped row = record { name = refl; token = refl; block = refl; listed = refl; entry = inl refl }

-- rows become such rows, each at its place
pub record Rows (ds es : List Declaration) : Type 0 where
  pub was : (d : ℕ) (new : Declaration) → slice_get es d ≡ Some new → (old : Declaration) × (slice_get ds d ≡ Some old) × Retyped old new
  pub stays : (d : ℕ) (old : Declaration) → slice_get ds d ≡ Some old → (new : Declaration) × (slice_get es d ≡ Some new) × Retyped old new

pub same_rows : (ds : List Declaration) → Rows ds ds
same_rows ds = record { was = λ d new e. (new, e, same_retyped new); stays = λ d old e. (old, e, same_retyped old) }

pub twice : (e : Entry) (c d : DeclNo) → entry_to d (entry_to c e) ≡ entry_to d e
unfolding entry_to
twice (entry.Variable ty) c d = refl
twice (entry.Constant ty) c d = refl
twice (entry.Array ty n) c d = refl
twice (entry.Procedure None k) c d = refl
twice (entry.Procedure (Some ty) k) c d = refl
twice (entry.Class k) c d = refl
twice (entry.Virtual None k) c d = refl
twice (entry.Virtual (Some ty) k) c d = refl
twice (entry.Formal f) c d = of_type f.ty
  where
    of_type : (o : Option SimType) → entry.Formal (record f { ty = type_to d (type_to c o) }) ≡ entry.Formal (record f { ty = type_to d o })
    of_type None = refl
    of_type (Some ty) = refl
twice (entry.Unspecified w) c d = refl
twice (entry.Attribute name given result) c d = refl

some_same : {A : Type 0} (a b : A) → Some a ≡ Some b → a ≡ b
some_same a b e = cc

-- one reference more
module _ (ds es : List Declaration) (r : Rows ds es) (n : ℕ) (row old : Declaration) (class : DeclNo) (at : slice_get es n ≡ Some row) (was_at : slice_get ds n ≡ Some old) (refs : OfReferences old.entry) where
  changed : Declaration
  changed = record row { entry = entry_to class row.entry }

  was_this : Retyped old row
  was_this = let q = r.was n row at in subst (λ z. Retyped z row) (some_same q.0 old (sym q.1 ∙ was_at)) q.2

  now_this : Retyped old (record row { entry = entry_to class row.entry })
  now_this = let w = was_this in record { name = w.name; token = w.token; block = w.block; listed = w.listed; entry = inr (refs, (class, go w.entry)) }
    where
      go : (row.entry ≡ old.entry) ⊎ (OfReferences old.entry × ((c : DeclNo) × (row.entry ≡ entry_to c old.entry))) → entry_to class row.entry ≡ entry_to class old.entry
      go (inl e) = ap (entry_to class) e
      go (inr q) = ap (entry_to class) q.1.1 ∙ twice old.entry q.1.0 class

  more_rows : Rows ds (slice_set es n (record row { entry = entry_to class row.entry }))
  more_rows = record { was = λ d new e. was d new (nat_eq n d) refl e; stays = λ d before e. kept d before (nat_eq n d) refl e }
    where
      here : (d : ℕ) → nat_eq n d ≡ true → slice_get (slice_set es n (record row { entry = entry_to class row.entry })) d ≡ Some (record row { entry = entry_to class row.entry })
      here d z = let same : n ≡ d = grind (arith, nat_tests) in subst (λ k. slice_get (slice_set es n (record row { entry = entry_to class row.entry })) k ≡ Some (record row { entry = entry_to class row.entry })) same (set_here es n row (record row { entry = entry_to class row.entry }) at)

      old_here : (d : ℕ) → nat_eq n d ≡ true → slice_get ds d ≡ Some old
      old_here d z = let same : n ≡ d = grind (arith, nat_tests) in subst (λ k. slice_get ds k ≡ Some old) same was_at

      was : (d : ℕ) (new : Declaration) (c : Bool) → nat_eq n d ≡ c → slice_get (slice_set es n (record row { entry = entry_to class row.entry })) d ≡ Some new → (before : Declaration) × (slice_get ds d ≡ Some before) × Retyped before new
      was d new true z e = (old, old_here d z, subst (Retyped old) (some_same (record row { entry = entry_to class row.entry }) new (sym (here d z) ∙ e)) now_this)
      was d new false z e = r.was d new (sym (set_other es n d (record row { entry = entry_to class row.entry }) z) ∙ e)

      kept : (d : ℕ) (before : Declaration) (c : Bool) → nat_eq n d ≡ c → slice_get ds d ≡ Some before → (new : Declaration) × (slice_get (slice_set es n (record row { entry = entry_to class row.entry })) d ≡ Some new) × Retyped before new
      kept d before true z e = (record row { entry = entry_to class row.entry }, here d z, subst (λ y. Retyped y (record row { entry = entry_to class row.entry })) (some_same old before (sym (old_here d z) ∙ e)) now_this)
      kept d before false z e = let q = r.stays d before e in (q.0, set_other es n d (record row { entry = entry_to class row.entry }) z ∙ q.1, q.2)

-- tables with the same blocks and places
pub record Requalified (D T : Tables) : Type 0 where
  pub blocks : T.blocks ≡ D.blocks
  pub places : T.places ≡ D.places
  pub rows : Rows D.declarations T.declarations

-- the class of each is written for what is of references
abbrev pub AllReferences : Tables → List Qualification → Type 0
AllReferences D [] = Unit {0}
AllReferences D (q ∷ qs) = ((row : Declaration) × (slice_get D.declarations q.declaration.0 ≡ Some row) × OfReferences row.entry) × AllReferences D qs

module _ (D : Tables) where
  entered : (T : Tables) → Requalified D T → (n : ℕ) (class : DeclNo) (old : Declaration) → slice_get D.declarations n ≡ Some old → OfReferences old.entry → (o : Option Declaration) → slice_get T.declarations n ≡ o → (e : Entry) → entry_in o ≡ Some e
      → Requalified D (elim o [ None ↦ T | Some row ↦ record T { declarations = slice_set T.declarations n (record row { entry = entry_to class e }) } ])
  entered T r n class old at refs None is e f = absurd (cc)
  entered T r n class old at refs (Some row) is e f =
      subst (λ z. Requalified D (record T { declarations = slice_set T.declarations n (record row { entry = entry_to class z }) })) (some_same row.entry e f)
      (record { blocks = r.blocks; places = r.places; rows = more_rows D.declarations T.declarations r.rows n row old class is at refs })

  pub one_more : (T : Tables) → Requalified D T → (q : Qualification) → (row : Declaration) × (slice_get D.declarations q.declaration.0 ≡ Some row) × OfReferences row.entry → Requalified D (with_qualification T q)
  unfolding with_qualification with_entry_at entry_of
  one_more T r q known = go (class_written T q)
    where
      entry_known : (class : DeclNo) (o : Option Entry) → entry_of T q.declaration ≡ o → Requalified D (declaration_to T q.declaration class o)
      entry_known class None is = r
      entry_known class (Some e) is = entered T r q.declaration.0 class known.0 known.1 known.2 (slice_get T.declarations q.declaration.0) refl e is

      go : (o : Option DeclNo) → Requalified D (qualified_to T q.declaration o)
      go None = r
      go (Some class) = entry_known class (entry_of T q.declaration) refl

  all_more : (T : Tables) → Requalified D T → (qs : List Qualification) → AllReferences D qs → Requalified D (run with_qualification T qs)
  unfolding run
  all_more T r [] a = r
  all_more T r (q ∷ qs) a = all_more (with_qualification T q) (one_more T r q a.0) qs a.1

  pub references_qualified : AllReferences D D.qualifications → Requalified D (qualified D)
  unfolding qualified
  references_qualified a = all_more D (record { blocks = refl; places = refl; rows = same_rows D.declarations }) D.qualifications a

-- ---- the classes of connections

-- a block without its next level and without its standard prefix
abbrev pub bare_row : Option BlockOf → Option BlockOf
bare_row None = None
bare_row (Some row) = Some (record row { base = None; standard = None })

abbrev pub kind_in : Option BlockOf → Option BlockKind
kind_in None = None
kind_in (Some row) = Some row.kind

-- a class, a block with a prefix, or a class of SIMSET
abbrev pub has_base : BlockKind → Bool
has_base kind.Class = true
has_base kind.Prefixed = true
has_base (kind.StandardClass which) = true
has_base _ = false

pub prefixable_base : (k : BlockKind) → is_prefixable k ≡ true → has_base k ≡ true
prefixable_base kind.Program e = absurd (cc)
prefixable_base kind.SubBlock e = absurd (cc)
prefixable_base kind.Procedure e = absurd (cc)
prefixable_base kind.Class e = refl
prefixable_base kind.Prefixed e = refl
prefixable_base kind.Connection e = absurd (cc)
prefixable_base (kind.StandardClass which) e = refl

-- what may have a next level: a connection, a class or a block with a prefix
abbrev pub HasNext : Tables → (block : ℕ) → Type 0
HasNext D k = (row : BlockOf) × (slice_get D.blocks k ≡ Some row) × ((row.kind ≡ kind.Connection) ⊎ (has_base row.kind ≡ true))

-- What is complete of tables: of blocks but what connections connect, the classes of references, and these are classes.
pub record Completes (D T : Tables) (IsClass : ℕ → Type 0) : Type 0 where
  pub size : length T.blocks ≡ length D.blocks
  pub blocks : (k : ℕ) → bare_row (slice_get T.blocks k) ≡ bare_row (slice_get D.blocks k)
  pub places : T.places ≡ D.places
  pub rows : Rows D.declarations T.declarations
  pub bases : (k c : ℕ) → base_in (slice_get T.blocks k) ≡ Some c → HasNext D k × IsClass c
  -- what is no connection has the base that its prefix gives it
  pub steady : (k : ℕ) → (kind_in (slice_get D.blocks k) ≡ Some kind.Connection → ⊥) → base_in (slice_get T.blocks k) ≡ base_in (slice_get (prefixed D).blocks k)
  pub standards : (k : ℕ) → standard_in (slice_get T.blocks k) ≡ standard_in (slice_get (prefixed D).blocks k)

module _ (D Q : Tables) (IsClass : ℕ → Type 0) (classes : (d : DeclNo) (n : ℕ) → class_block Q d ≡ Some n → IsClass n) where
  -- so far
  record Joined (c : ConnectingOf) : Type 0 where
    completes : Completes D c.tables IsClass
    declarations : c.tables.declarations ≡ Q.declarations
    next : (n : ℕ) → c.next ≡ Some n → IsClass n

  classed : (T : Tables) → T.declarations ≡ Q.declarations → (d : DeclNo) (n : ℕ) → class_block T d ≡ Some n → IsClass n
  unfolding class_block
  classed T same d n e = classes d n (ap (λ (rows : List Declaration). class_block_in (elim (slice_get rows d.0) [ None ↦ None | Some row ↦ Some row.entry ])) (sym same) ∙ e)

  of_type : (T : Tables) → T.declarations ≡ Q.declarations → (o : Option SimType) (n : ℕ) → class_of_type T o ≡ Some n → IsClass n
  of_type T same None n e = absurd (cc)
  of_type T same (Some (t.Ref class)) n e = classed T same class n e
  of_type T same (Some t.Integer) n e = absurd (cc)
  of_type T same (Some t.Boolean) n e = absurd (cc)
  of_type T same (Some t.Character) n e = absurd (cc)
  of_type T same (Some t.Text) n e = absurd (cc)
  of_type T same (Some t.NoneType) n e = absurd (cc)

  of_name : (T : Tables) → T.declarations ≡ Q.declarations → (o : Option Denotation) (n : ℕ) → class_of_name T o ≡ Some n → IsClass n
  of_name T same None n e = absurd (cc)
  of_name T same (Some (denotation.Declared d)) n e = classed T same d n e
  of_name T same (Some (denotation.Standard k)) n e = absurd (cc)

  -- a connection gets its class
  based : (T : Tables) → Completes D T IsClass → (k : ℕ) (next : Option ℕ) → ((n : ℕ) → next ≡ Some n → IsClass n) → ((row : BlockOf) × (slice_get D.blocks k ≡ Some row) × (row.kind ≡ kind.Connection)) → (o : Option BlockOf) → slice_get T.blocks k ≡ o
      → Completes D (elim o [ None ↦ T | Some row ↦ record T { blocks = slice_set T.blocks k (record row { base = next }) } ]) IsClass
  based T c k next is_class conn None at = c
  based T c k next is_class conn (Some row) at = record {
    size = length-set T.blocks k (record row { base = next }) ∙ c.size;
    blocks = λ j. kept_set bare_row T.blocks k row (record row { base = next }) at refl j ∙ c.blocks j;
    places = c.places;
    rows = c.rows;
    bases = λ j n e. bases j n (nat_eq k j) refl e;
    steady = λ j other. steady j (nat_eq k j) refl other;
    standards = λ j. kept_set standard_in T.blocks k row (record row { base = next }) at refl j ∙ c.standards j;
  }
    where
      steady : (j : ℕ) (z : Bool) → nat_eq k j ≡ z → (kind_in (slice_get D.blocks j) ≡ Some kind.Connection → ⊥) → base_in (slice_get (slice_set T.blocks k (record row { base = next })) j) ≡ base_in (slice_get (prefixed D).blocks j)
      steady j true z other =
          let same : k ≡ j = grind (arith, nat_tests) in
          absurd (other (subst (λ i. kind_in (slice_get D.blocks i) ≡ Some kind.Connection) same (ap kind_in conn.1 ∙ ap Some conn.2)))
      steady j false z other = ap base_in (set_other T.blocks k j (record row { base = next }) z) ∙ c.steady j other

      bases : (j n : ℕ) (z : Bool) → nat_eq k j ≡ z → base_in (slice_get (slice_set T.blocks k (record row { base = next })) j) ≡ Some n → HasNext D j × IsClass n
      bases j n true z e =
          let same : k ≡ j = grind (arith, nat_tests) in
          let f : next ≡ Some n = sym (ap base_in (subst (λ i. slice_get (slice_set T.blocks k (record row { base = next })) i ≡ Some (record row { base = next })) same (set_here T.blocks k row (record row { base = next }) at))) ∙ e in
          (subst (HasNext D) same (conn.0, conn.1, inl conn.2), is_class n f)
      bases j n false z e = c.bases j n (sym (ap base_in (set_other T.blocks k j (record row { base = next }) z)) ∙ e)

  connects_one : (c : ConnectingOf) → Joined c → (opening : ℕ) → ((k : ℕ) → joined (slice_get D.places opening) ≡ Some k → (row : BlockOf) × (slice_get D.blocks k ≡ Some row) × (row.kind ≡ kind.Connection)) → (o : Option ℕ) → block_at c.tables opening ≡ o
      → Completes D (connected_at c.tables o c.next) IsClass × ((connected_at c.tables o c.next).declarations ≡ Q.declarations)
  unfolding with_base_at block_at
  connects_one c j opening conn None at = (j.completes, j.declarations)
  connects_one c j opening conn (Some k) at =
      (based c.tables j.completes k c.next j.next (conn k (sym (ap (λ z. joined (slice_get z opening)) j.completes.places) ∙ at)) (slice_get c.tables.blocks k) refl, same (slice_get c.tables.blocks k))
    where
      same : (o : Option BlockOf) → (elim o as (λ z. Tables) [ None ↦ c.tables | Some row ↦ record c.tables { blocks = slice_set c.tables.blocks k (record row { base = c.next }) } ]).declarations ≡ Q.declarations
      same None = j.declarations
      same (Some row) = j.declarations

  run_joined : (es : List Connecting) (c : ConnectingOf) → Joined c
      → ((i k : ℕ) → Opened D.blocks i → joined (slice_get D.places i) ≡ Some k → (row : BlockOf) × (slice_get D.blocks k ≡ Some row) × (row.kind ≡ kind.Connection)) → AllOpened es D.blocks → Joined (run connecting c es)
  unfolding run connecting
  run_joined [] c j conn a = j
  run_joined (Looks e ∷ es) c j conn a = run_joined es (connecting c (Looks e)) (record { completes = j.completes; declarations = j.declarations; next = of_type c.tables j.declarations (judge_side c.tables extent.Statement e).value.ty }) conn a
  run_joined (Names x ∷ es) c j conn a = run_joined es (connecting c (Names x)) (record { completes = j.completes; declarations = j.declarations; next = of_name c.tables j.declarations (binding c.tables x.token.0 x.name) }) conn a
  run_joined (Connects i ∷ es) c j conn a =
      let q = connects_one c j i (λ k at. conn i k a.0 at) (block_at c.tables i) refl in
      run_joined es (connecting c (Connects i)) (record { completes = q.0; declarations = q.1; next = j.next }) conn a.1

  pub connections_complete : (p : Program) → Completes D Q IsClass
      → ((i k : ℕ) → Opened D.blocks i → joined (slice_get D.places i) ≡ Some k → (row : BlockOf) × (slice_get D.blocks k ≡ Some row) × (row.kind ≡ kind.Connection)) → AllOpened (program_events connections p) D.blocks
      → Completes D (connected Q p) IsClass
  unfolding connected
  connections_complete p c conn a = (run_joined (program_events connections p) (record { tables = Q; next = None }) (record { completes = c; declarations = refl; next = λ n e. absurd (cc) }) conn a).completes

-- ---- classes stay classes

pub class_was : (n : ℕ) (old new : Entry) → ((new ≡ old) ⊎ (OfReferences old × ((class : DeclNo) × (new ≡ entry_to class old)))) → new ≡ entry.Class n → old ≡ entry.Class n
unfolding entry_to
class_was n old new (inl f) g = sym f ∙ g
class_was n (entry.Variable ty) new (inr f) g = absurd (let h : entry.Variable (t.Ref f.1.0) ≡ entry.Class n = sym f.1.1 ∙ g in cc)
class_was n (entry.Constant ty) new (inr f) g = absurd (let h : entry.Constant (t.Ref f.1.0) ≡ entry.Class n = sym f.1.1 ∙ g in cc)
class_was n (entry.Array ty m) new (inr f) g = absurd (let h : entry.Array (t.Ref f.1.0) m ≡ entry.Class n = sym f.1.1 ∙ g in cc)
class_was n (entry.Procedure result m) new (inr f) g = absurd (let h : entry.Procedure (type_to f.1.0 result) m ≡ entry.Class n = sym f.1.1 ∙ g in cc)
class_was n (entry.Class m) new (inr f) g = absurd f.0
class_was n (entry.Virtual result m) new (inr f) g = absurd (let h : entry.Virtual (type_to f.1.0 result) m ≡ entry.Class n = sym f.1.1 ∙ g in cc)
class_was n (entry.Formal x) new (inr f) g = absurd (let h : entry.Formal (record x { ty = type_to f.1.0 x.ty }) ≡ entry.Class n = sym f.1.1 ∙ g in cc)
class_was n (entry.Unspecified w) new (inr f) g = absurd f.0
class_was n (entry.Attribute name given result) new (inr f) g = absurd f.0

pub entry_is_class : (n : ℕ) (e : Entry) → class_block_in (Some e) ≡ Some n → e ≡ entry.Class n
entry_is_class n (entry.Class m) h = ap entry.Class (some_same m n h)
entry_is_class n (entry.Variable ty) h = absurd (cc)
entry_is_class n (entry.Constant ty) h = absurd (cc)
entry_is_class n (entry.Array ty m) h = absurd (cc)
entry_is_class n (entry.Procedure result m) h = absurd (cc)
entry_is_class n (entry.Virtual result m) h = absurd (cc)
entry_is_class n (entry.Formal x) h = absurd (cc)
entry_is_class n (entry.Unspecified w) h = absurd (cc)
entry_is_class n (entry.Attribute name given result) h = absurd (cc)
