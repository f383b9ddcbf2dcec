-- Types of values, and classes: what refers to an object of a class refers to one of each of its levels, and the class that two have in common is a
-- level of both.
use Rattle.std.proofs.Common.{◌≡◌, ◌<◌, ℕ, zero, suc, Bool, true, false, length, Option, Some, None, refl, ap, ◌∙◌, subst, arith, if◌then◌else◌}
use Rattle.std.proofs.lemmas.Bool.{false≢true}
use Rattle.std.proofs.lemmas.Bool.Decides.{nat_tests}
use Rattle.std.specs.Prelude.{◌||◌, nat_eq, slice_get}
use Rattle.sim_base.specs.declared.numbering.DeclNo.{DeclNo}
use Rattle.sim_scope.specs.declared.scopes.Declaration.{Declaration}
use Rattle.sim_scope.specs.declared.types.Entry.{Entry}
use Rattle.sim_scope.specs.declared.types.Entry.TheVariants as entry
use Rattle.sim_scope.specs.declared.types.SimType.{SimType}
use Rattle.sim_scope.specs.declared.types.SimType.TheVariants as t
use Rattle.sim_scope.specs.Levels.{base, class_block, class_block_in, has_level, holds, level_beyond, owner_of_level, shared_class, shared_level_of, shared_of, some_level_of}
use Rattle.sim_scope.specs.Scopes.{entry_of}
use Rattle.sim_scope.specs.Source.{Source}
use Rattle.sim_scope.specs.Tables.{Tables}
use Rattle.sim_tree.specs.Syntax.{Expression}
use Rattle.sim_values.specs.declared.kind.Kind.{Kind}
use Rattle.sim_values.specs.declared.kind.Kind.TheVariants as kind
use Rattle.sim_meaning.specs.Attributes.{is_connection}
use Rattle.sim_meaning.specs.Levels.{class_text, has_levels, is_class, qualification}
use Rattle.sim_meaning.specs.Texts.{BlockText, ClassText, ConnectionText, PrefixedText, ProcedureText, StandardText, Text, kind_of_type, text}
use Rattle.sim_sound.specs.Held.{ArrayOf, ByName, Fits, Holds, Place, Procedure, Refers, Simply, held_by, reference_to}
use Rattle.sim_sound.specs.Expressions.{ExprIs, IsReference}
use Rattle.sim_agree.specs.Facts.{IsClass, PlainType, ProperType, Tabled}
use Rattle.sim_allowed.proofs.Meant.{Takes, ValueIs, ValueType}
use Rattle.sim_agree.proofs.Prefixing.{Reaches, itself, through}
use Rattle.sim_agree.proofs.Chains.{reaches_level}

-- ---- types

pub plain_proper : (s : Source) (type : SimType) → PlainType type → ProperType s type
plain_proper s t.Integer p = tt
plain_proper s t.Boolean p = tt
plain_proper s t.Character p = tt
plain_proper s t.Text p = tt
plain_proper s (t.Ref d) p = absurd p
plain_proper s t.NoneType p = absurd p

pub proper_value : (s : Source) (type : SimType) → ProperType s type → ValueType s type
proper_value s t.Integer p = tt
proper_value s t.Boolean p = tt
proper_value s t.Character p = tt
proper_value s t.Text p = tt
proper_value s (t.Ref d) p = p
proper_value s t.NoneType p = absurd p

pub proper_takes : (s : Source) (type : SimType) (h : Holds) → ProperType s type → Takes s type h → Fits s (held_by s type) h
proper_takes s t.Integer h p f = f
proper_takes s t.Boolean h p f = f
proper_takes s t.Character h p f = f
proper_takes s t.Text h p f = f
proper_takes s (t.Ref d) h p f = f
proper_takes s t.NoneType h p f = absurd p

-- what fits a kind is of that kind
simply_same : (s : Source) (k : Kind) (h : Holds) → Fits s (Simply k) h → Simply k ≡ h
simply_same s k (Simply l) f = ap Simply f
simply_same s k (Refers c) f = absurd f
simply_same s k (ArrayOf g) f = absurd f
simply_same s k (Procedure r) f = absurd f
simply_same s k (ByName g) f = absurd f

pub plain_same : (s : Source) (type : SimType) (h : Holds) → PlainType type → Takes s type h → Simply (kind_of_type type) ≡ h
plain_same s t.Integer h p f = simply_same s kind.Integer h f
plain_same s t.Boolean h p f = simply_same s kind.Boolean h f
plain_same s t.Character h p f = simply_same s kind.Character h f
plain_same s t.Text h p f = simply_same s kind.Text h f
plain_same s (t.Ref d) h p f = absurd p
plain_same s t.NoneType h p f = absurd p

pub plain_value : (s : Source) (from : Place) (e : Expression) (type : SimType) → PlainType type → ExprIs s from e (Simply (kind_of_type type)) → (h : Holds) → Takes s type h → ExprIs s from e h
plain_value s from e type p v h f = subst (λ z. ExprIs s from e z) (plain_same s type h p f) v

pub reference_simply : (s : Source) (o : Option ℕ) → Fits s (reference_to o) (Simply kind.Reference)
reference_simply s None = refl
reference_simply s (Some c) = refl

reference_taken : (s : Source) (o : Option ℕ) (h : Holds) → Fits s (reference_to o) h → IsReference h
reference_taken s None (Simply k) f = f
reference_taken s None (Refers c) f = absurd f
reference_taken s None (ArrayOf g) f = absurd f
reference_taken s None (Procedure r) f = absurd f
reference_taken s None (ByName g) f = absurd f
reference_taken s (Some c) (Simply k) f = f
reference_taken s (Some c) (Refers b) f = tt
reference_taken s (Some c) (ArrayOf g) f = absurd f
reference_taken s (Some c) (Procedure r) f = absurd f
reference_taken s (Some c) (ByName g) f = absurd f

-- each value is one of the kind of its type
pub simply_takes : (s : Source) (type : SimType) → Takes s type (Simply (kind_of_type type))
simply_takes s t.Integer = refl
simply_takes s t.Boolean = refl
simply_takes s t.Character = refl
simply_takes s t.Text = refl
simply_takes s (t.Ref d) = reference_simply s (qualification s (Some (t.Ref d)))
simply_takes s t.NoneType = refl

pub simply : (s : Source) (from : Place) (e : Expression) (type : SimType) → ValueIs s from e type → ExprIs s from e (Simply (kind_of_type type))
simply s from e type v = v.value (Simply (kind_of_type type)) (simply_takes s type)

-- where a reference may stand, `none` may
pub none_takes : (s : Source) (d : DeclNo) (h : Holds) → Takes s (t.Ref d) h → Takes s t.NoneType h
none_takes s d h f = reference_taken s (qualification s (Some (t.Ref d))) h f

-- ---- the block of a class

pub class_row : (s : Tables) (d : DeclNo) (k : ℕ) → entry_of s d ≡ Some (entry.Class k) → class_block s d ≡ Some k
unfolding entry_of class_block
class_row s d k e = go (slice_get s.declarations d.0) e
  where
    go : (row : Option Declaration) → (elim row as (λ z. Option Entry) [ None ↦ None | Some r ↦ Some r.entry ]) ≡ Some (entry.Class k) → class_block_in (elim row as (λ z. Option Entry) [ None ↦ None | Some r ↦ Some r.entry ]) ≡ Some k
    go row e = ap class_block_in e

pub row_class : (s : Tables) (d : DeclNo) (k : ℕ) → class_block s d ≡ Some k → entry_of s d ≡ Some (entry.Class k)
unfolding entry_of class_block
row_class s d k e = go (slice_get s.declarations d.0) e
  where
    of_entry : (x : Entry) → class_block_in (Some x) ≡ Some k → Some x ≡ Some (entry.Class k)
    of_entry (entry.Class j) e = let same : j ≡ k = cc in ap (λ z. Some (entry.Class z)) same
    of_entry (entry.Variable a) e = absurd (cc)
    of_entry (entry.Constant a) e = absurd (cc)
    of_entry (entry.Array a n) e = absurd (cc)
    of_entry (entry.Procedure a n) e = absurd (cc)
    of_entry (entry.Virtual a n) e = absurd (cc)
    of_entry (entry.Formal f) e = absurd (cc)
    of_entry (entry.Unspecified w) e = absurd (cc)
    of_entry (entry.Attribute name a b) e = absurd (cc)

    go : (row : Option Declaration) → class_block_in (elim row as (λ z. Option Entry) [ None ↦ None | Some r ↦ Some r.entry ]) ≡ Some k → (elim row as (λ z. Option Entry) [ None ↦ None | Some r ↦ Some r.entry ]) ≡ Some (entry.Class k)
    go None e = absurd (cc)
    go (Some r) e = of_entry r.entry e

-- the declaration of a class, where it is one
pub class_is : (s : Source) → Tabled s → (d : DeclNo) (k : ℕ) → class_block s.tables d ≡ Some k → IsClass s d
class_is s known d k e = let there = row_class s.tables d k e in let c = known.classes d k there in record { block = k; declares = there; is = c.0; owned = c.1 }

pub class_qualifies : (s : Source) (d : DeclNo) (c : IsClass s d) → qualification s (Some (t.Ref d)) ≡ Some c.block
unfolding qualification
class_qualifies s d c = ap (class_text s) (class_row s.tables d c.block c.declares) ∙ ap (λ z. if z then Some c.block else None) c.is

pub class_held : (s : Source) (d : DeclNo) (c : IsClass s d) → held_by s (t.Ref d) ≡ Refers c.block
class_held s d c = ap reference_to (class_qualifies s d c)

-- ---- one level

pub no_connection : (x : Option Text) → is_class x ≡ true → is_connection x ≡ false
no_connection None e = refl
no_connection (Some (BlockText i ds ss)) e = refl
no_connection (Some (ProcedureText r h a)) e = refl
no_connection (Some (ClassText p h ds ss)) e = refl
no_connection (Some (PrefixedText c es ds ss)) e = refl
no_connection (Some ConnectionText) e = absurd (false≢true e)
no_connection (Some (StandardText w)) e = refl

pub own_level : (tables : Tables) (k : ℕ) → 0 < length tables.blocks → has_level tables k k ≡ true
unfolding has_level some_level_of
own_level tables k some = go (length tables.blocks) some
  where
    same : nat_eq k k ≡ true
    same = grind (arith, nat_tests)

    go : (n : ℕ) → 0 < n → some_level_of tables n (λ b. nat_eq b k) k ≡ true
    go zero some = absurd (omega (arith, some))
    go (suc n) some = ap (λ z. z || holds (λ b. some_level_of tables n (λ c. nat_eq c k) b) (base tables k)) same

or_true : (x y : Bool) → y ≡ true → (x || y) ≡ true
or_true true y e = refl
or_true false y e = e

-- one level more changes nothing
pub level_more : (tables : Tables) (n : ℕ) (test : ℕ → Bool) (k : ℕ) → some_level_of tables n test k ≡ true → some_level_of tables (suc n) test k ≡ true
unfolding some_level_of
level_more tables zero test k e = absurd (false≢true e)
level_more tables (suc n) test k e = go (test k) (base tables k) e (λ c f. level_more tables n test c f)
  where
    go : (a : Bool) (o : Option ℕ) → (a || holds (λ b. some_level_of tables n test b) o) ≡ true → ((c : ℕ) → some_level_of tables n test c ≡ true → some_level_of tables (suc n) test c ≡ true) → (a || holds (λ b. some_level_of tables (suc n) test b) o) ≡ true
    go true o e rest = refl
    go false None e rest = absurd (false≢true e)
    go false (Some c) e rest = rest c e

-- what is a level of a block is reached from it
pub level_reached : (tables : Tables) (n k l : ℕ) → some_level_of tables n (λ b. nat_eq b l) k ≡ true → Reaches tables k l
unfolding some_level_of
level_reached tables zero k l e = absurd (false≢true e)
level_reached tables (suc n) k l e = go (nat_eq k l) refl (base tables k) refl e (λ c f. level_reached tables n c l f)
  where
    go : (z : Bool) → nat_eq k l ≡ z → (o : Option ℕ) → base tables k ≡ o → (z || holds (λ b. some_level_of tables n (λ x. nat_eq x l) b) o) ≡ true → ((c : ℕ) → some_level_of tables n (λ b. nat_eq b l) c ≡ true → Reaches tables c l) → Reaches tables k l
    go true z o is e rest = let same : k ≡ l = grind (arith, nat_tests) in subst (Reaches tables k) same itself
    go false z None is e rest = absurd (false≢true e)
    go false z (Some c) is e rest = through is (rest c e)

reached_both : (tables : Tables) (a b c : ℕ) → Reaches tables a b → Reaches tables b c → Reaches tables a c
reached_both tables a b c itself y = y
reached_both tables a b c (through {b = d} e x) y = through e (reached_both tables d b c x y)

-- a level of a level is a level
pub level_both : (s : Source) → Tabled s → (a b c : ℕ) → is_connection (text s a) ≡ false → has_level s.tables a b ≡ true → has_level s.tables b c ≡ true → has_level s.tables a c ≡ true
unfolding has_level
level_both s known a b c solid x y =
    reaches_level s.tables (length s.tables.blocks) a c (known.prefixes.ends a solid)
    (reached_both s.tables a b c (level_reached s.tables (length s.tables.blocks) a b x) (level_reached s.tables (length s.tables.blocks) b c y))

-- the levels of a class are classes
level_class : (s : Source) → Tabled s → (k l : ℕ) → is_class (text s k) ≡ true → Reaches s.tables k l → is_class (text s l) ≡ true
level_class s known k l class itself = class
level_class s known k l class (through {b = b} e x) = level_class s known b l (known.connects k b e) x

-- what is no connection and has a class among its levels has levels
pub levels_here : (s : Source) → Tabled s → (b block : ℕ) → is_connection (text s b) ≡ false → is_class (text s block) ≡ true → Reaches s.tables b block → has_levels (text s b) ≡ true
levels_here s known b block other class itself = known.class_levels b class
levels_here s known b block other class (through {b = c} e x) = (known.prefixes.prefixed_by b c other e).has

-- where an object of a class may stand what has the class among its levels may stand
pub fits_inside : (s : Source) → Tabled s → (a q : ℕ) → is_connection (text s a) ≡ false → has_level s.tables a q ≡ true → (h : Holds) → Fits s (Refers q) h → Fits s (Refers a) h
fits_inside s known a q solid level (Simply k) f = f
fits_inside s known a q solid level (Refers w) f = level_both s known a q w solid level f
fits_inside s known a q solid level (ArrayOf h) f = absurd f
fits_inside s known a q solid level (Procedure r) f = absurd f
fits_inside s known a q solid level (ByName h) f = absurd f

-- the class that two have in common is a level of both
pub record InBoth (s : Source) (a b : ℕ) (class : DeclNo) : Type 0 where
  pub is : IsClass s class
  pub first : has_level s.tables a is.block ≡ true
  pub second : has_level s.tables b is.block ≡ true

shared_level : (tables : Tables) (n other k l : ℕ) → shared_level_of tables n other k ≡ Some l → (some_level_of tables n (λ x. nat_eq x l) k ≡ true) × (has_level tables other l ≡ true)
unfolding shared_level_of some_level_of
shared_level tables zero other k l e = absurd (cc)
shared_level tables (suc n) other k l e = go (has_level tables other k) refl (base tables k) e (λ c f. shared_level tables n other c l f)
  where
    same_number : nat_eq k k ≡ true
    same_number = grind (arith, nat_tests)

    go : (g : Bool) → has_level tables other k ≡ g → (o : Option ℕ) → (if g then Some k else level_beyond (λ z. shared_level_of tables n other z) o) ≡ Some l
        → ((c : ℕ) → shared_level_of tables n other c ≡ Some l → (some_level_of tables n (λ x. nat_eq x l) c ≡ true) × (has_level tables other l ≡ true))
        → ((nat_eq k l || holds (λ b. some_level_of tables n (λ x. nat_eq x l) b) o) ≡ true) × (has_level tables other l ≡ true)
    go true is o e rest =
        let same : k ≡ l = cc in
        subst (λ z. ((nat_eq k z || holds (λ b. some_level_of tables n (λ x. nat_eq x z) b) o) ≡ true) × (has_level tables other z ≡ true)) same (ap (λ z. z || holds (λ b. some_level_of tables n (λ x. nat_eq x k) b) o) same_number, is)
    go false is None e rest = absurd (cc)
    go false is (Some c) e rest = let q = rest c e in (or_true (nat_eq k l) _ q.0, q.1)

pub shared_both : (s : Source) → Tabled s → (c d class : DeclNo) (a : IsClass s c) (b : IsClass s d) → shared_class s.tables c d ≡ Some class → InBoth s a.block b.block class
unfolding shared_class has_level
shared_both s known c d class a b e =
    go (shared_level_of s.tables (length s.tables.blocks) b.block a.block) refl
    (subst (λ z. shared_of s.tables (Some a.block) z ≡ Some class) (class_row s.tables d b.block b.declares) (subst (λ w. shared_of s.tables w (class_block s.tables d) ≡ Some class) (class_row s.tables c a.block a.declares) e))
  where
    go : (o : Option ℕ) → shared_level_of s.tables (length s.tables.blocks) b.block a.block ≡ o → owner_of_level s.tables o ≡ Some class → InBoth s a.block b.block class
    go None at f = absurd (cc)
    go (Some l) at f =
        let q = shared_level s.tables (length s.tables.blocks) b.block a.block l at in
        let class_l : is_class (text s l) ≡ true = level_class s known a.block l a.is (level_reached s.tables (length s.tables.blocks) a.block l q.0) in
        record { is = record { block = l; declares = known.owners l class class_l f; is = class_l; owned = f }; first = q.0; second = q.1 }
