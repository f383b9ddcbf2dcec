-- What the second round makes known of prefixes: the prefix of a class or a block is a class that is declared in the nearest block around that is no
-- connection, or in a prefix of that. All else stays.
use Rattle.std.proofs.Common.{◌≡◌, ◌<◌, ◌≤◌, ◌+◌, ◌⊎◌, inl, inr, ℕ, zero, suc, Bool, true, false, List, [], ◌∷◌, length, Option, Some, None, refl, sym, ap, ◌∙◌, subst, arith, if◌then◌else◌}
use Rattle.std.specs.Prelude.{nat_eq, not, slice_get, slice_set}
use Rattle.std.specs.Option.{option_or}
use Rattle.std.proofs.lemmas.List.{length-set}
use Rattle.std.proofs.lemmas.Bool.Decides.{nat_tests}
use Rattle.sim_base.specs.declared.numbering.DeclNo.{DeclNo}
use Rattle.sim_tree.specs.declared.expr.Identifier.{Identifier}
use Rattle.sim_tree.specs.Syntax.{Program}
use Rattle.sim_scope.specs.declared.scopes.Declaration.{Declaration}
use Rattle.sim_scope.specs.declared.scopes.Protection.{Protection}
use Rattle.sim_scope.specs.declared.scopes.Qualification.{Qualification}
use Rattle.sim_scope.specs.declared.types.BlockKind.TheVariants as kind
use Rattle.sim_scope.specs.declared.types.Entry.TheVariants as entry
use Rattle.sim_scope.specs.declared.types.StandardPrefix.{StandardPrefix}
use Rattle.sim_scope.specs.Access.{encloser, is_connection, is_kind, is_so, joined, around}
use Rattle.sim_scope.specs.Along.{first_along, from_next}
use Rattle.sim_scope.specs.Levels.{base, base_in, class_block, class_block_in, holds, standard_in}
use Rattle.sim_scope.specs.Runs.{run}
use Rattle.sim_scope.specs.Scopes.{shown, shown_of}
use Rattle.sim_scope.specs.Source.{level_in}
use Rattle.sim_scope.specs.Standard.{standard_prefix}
use Rattle.sim_scope.specs.Tables.{BlockOf, Tables, with_base_at, with_standard_at}
use Rattle.sim_scope.specs.Walk.{program_events}
use Rattle.sim_scope.proofs.Kept.{kept_set, set_here, set_other}
use Rattle.sim_scope.proofs.Walks.{run-append}
use Rattle.sim_meaning.specs.Entries.{numbers_in}
use Rattle.sim_sound.specs.Held.{Among}
use Rattle.prefix_bind.specs.declared.prefixes.PrefixFound.{PrefixFound}
use Rattle.prefix_bind.specs.declared.prefixes.PrefixFound.TheVariants as found
use Rattle.prefix_bind.specs.Prefixes.{block_prefixed, class_or_nothing, deepest, home_from, level_prefixed, numbers_to, prefix_found, prefix_from, prefix_of, prefix_of_level, prefix_outside, prefixed, shown_outward, shown_prefix, standard_or_nothing, unless_connection, with_prefix}
use Rattle.virtual_match.specs.Qualifying.{entry_to, qualified}
use Rattle.inspect_types.specs.Connecting.{connections}
use Rattle.sim_static.specs.Check.{completed}
use Rattle.sim_agree.proofs.Completing.{AllReferences, Completes, HasNext, Requalified, Rows, bare_row, prefixable_base, class_was, connections_complete, entry_is_class, kind_in, references_qualified, same_rows}
use Rattle.sim_agree.proofs.Openings.{AllOpened, Opened}
use Rattle.sim_agree.proofs.Unprefixed.{HasStandard, Showing, Shown, StandsIn, brought_of, extras_in, is_prefixable, is_wrong, shown_next, spelt_as, spelt_before}

-- a block and the levels of its prefixes
pub data Reaches (T : Tables) : (outer level : ℕ) → Type 0 where
  itself : {k : ℕ} → Reaches T k k
  through : {k b l : ℕ} → base T k ≡ Some b → Reaches T b l → Reaches T k l

-- the nearest block from one outward that is no connection
pub data HomeFrom (D : Tables) : Option ℕ → (home : ℕ) → Type 0 where
  stands : {u : ℕ} → is_kind is_connection D u ≡ false → HomeFrom D (Some u) u
  connected : {u h : ℕ} → is_kind is_connection D u ≡ true → HomeFrom D (encloser D u) h → HomeFrom D (Some u) h

-- a class or a block has this prefix
pub record PrefixOf (D T : Tables) (k c : ℕ) : Type 0 where
  pub row : BlockOf
  pub at : slice_get D.blocks k ≡ Some row
  pub kind : is_prefixable row.kind ≡ true
  pub class : DeclNo
  pub declares : class_block D class ≡ Some c
  pub outer : ℕ
  pub around : HomeFrom D row.encloser outer
  pub level : ℕ
  pub reaches : Reaches T outer level
  pub stands : StandsIn D level class
  -- its block lists it, or has a standard prefix, which brings it
  pub listed : Among class (numbers_in (slice_get D.blocks level)) ⊎ HasStandard T level

-- the tables so far
pub record Based (D T : Tables) : Type 0 where
  pub size : length T.blocks ≡ length D.blocks
  pub blocks : (k : ℕ) → bare_row (slice_get T.blocks k) ≡ bare_row (slice_get D.blocks k)
  pub places : T.places ≡ D.places
  pub declarations : T.declarations ≡ D.declarations
  pub qualifications : T.qualifications ≡ D.qualifications
  pub protections : T.protections ≡ D.protections
  -- by its prefix, or as a standard class, which has it from the start
  pub bases : (k c : ℕ) → base T k ≡ Some c → PrefixOf D T k c ⊎ (base D k ≡ Some c)
  pub standards : (k : ℕ) (p : StandardPrefix) → standard_in (slice_get T.blocks k) ≡ Some p → spelt_before (slice_get D.blocks k) ≡ Some p
  pub apart : (k c : ℕ) → base T k ≡ Some c → standard_in (slice_get T.blocks k) ≡ None
  pub kept : (k c : ℕ) → base D k ≡ Some c → base T k ≡ Some c

-- a level of blocks, and the blocks of it, are still to come
abbrev Later : Tables → (level block : ℕ) → ℕ → Type 0
Later D l i k = (l < level_in (slice_get D.blocks k)) ⊎ ((level_in (slice_get D.blocks k) ≡ l) × (i ≤ k))

record So (D T : Tables) (l i : ℕ) : Type 0 where
  based : Based D T
  later : (k : ℕ) → Later D l i k → (base T k ≡ base D k) × (standard_in (slice_get T.blocks k) ≡ None)

-- ---- rows without their bases

some_same : {A : Type 0} (a b : A) → Some a ≡ Some b → a ≡ b
some_same a b e = cc

level_bare : (o : Option BlockOf) → level_in (bare_row o) ≡ level_in o
level_bare None = refl
level_bare (Some row) = refl

around_bare : (o : Option BlockOf) → around (bare_row o) ≡ around o
around_bare None = refl
around_bare (Some row) = refl

kind_bare : (o : Option BlockOf) → kind_in (bare_row o) ≡ kind_in o
kind_bare None = refl
kind_bare (Some row) = refl

wrong_bare : (o : Option BlockOf) → (extras_in (bare_row o)).wrong ≡ (extras_in o).wrong
wrong_bare None = refl
wrong_bare (Some row) = refl

numbers_bare : (o : Option BlockOf) → numbers_in (bare_row o) ≡ numbers_in o
numbers_bare None = refl
numbers_bare (Some row) = refl

brought_bare : (o : Option BlockOf) → brought_of (bare_row o) ≡ brought_of o
brought_bare None = refl
brought_bare (Some row) = refl

-- tables with the same blocks, but for next levels and standard prefixes
pub showing_kept : (D T : Tables) → Showing D → ((k : ℕ) → bare_row (slice_get T.blocks k) ≡ bare_row (slice_get D.blocks k)) → ((k : ℕ) (d : DeclNo) → StandsIn D k d → StandsIn T k d) → Showing T
showing_kept D T w same moved = record {
  right = λ k. sym (wrong_bare (slice_get T.blocks k)) ∙ ap (λ o. (extras_in o).wrong) (same k) ∙ wrong_bare (slice_get D.blocks k) ∙ w.right k;
  lists = λ k d a. moved k d (w.lists k d (subst (λ z. Among d z) (sym (numbers_bare (slice_get T.blocks k)) ∙ ap numbers_in (same k) ∙ numbers_bare (slice_get D.blocks k)) a));
  brings = λ k d a. moved k d (w.brings k d (subst (λ z. Among d z) (sym (brought_bare (slice_get T.blocks k)) ∙ ap brought_of (same k) ∙ brought_bare (slice_get D.blocks k)) a));
}

-- the row before
row_was : (o : Option BlockOf) (row : BlockOf) → bare_row (Some row) ≡ bare_row o → (old : BlockOf) × (o ≡ Some old) × (record row { base = None; standard = None } ≡ record old { base = None; standard = None })
row_was None row e = absurd (cc)
row_was (Some old) row e = (old, refl, some_same (record row { base = None; standard = None }) (record old { base = None; standard = None }) e)

reaches_more : (T U : Tables) → ((j b : ℕ) → base T j ≡ Some b → base U j ≡ Some b) → (k l : ℕ) → Reaches T k l → Reaches U k l
reaches_more T U more k l itself = itself
reaches_more T U more k l (through {b = b} e r) = through (more k b e) (reaches_more T U more b l r)

pub prefix_more : (D T U : Tables) → ((j b : ℕ) → base T j ≡ Some b → base U j ≡ Some b) → ((j : ℕ) → HasStandard T j → HasStandard U j) → (k c : ℕ) → PrefixOf D T k c → PrefixOf D U k c
prefix_more D T U more brings k c p = record {
  row = p.row;
  at = p.at;
  kind = p.kind;
  class = p.class;
  declares = p.declares;
  outer = p.outer;
  around = p.around;
  level = p.level;
  reaches = reaches_more T U more p.outer p.level p.reaches;
  stands = p.stands;
  listed = listed p.listed;
}
  where
    listed : Among p.class (numbers_in (slice_get D.blocks p.level)) ⊎ HasStandard T p.level → Among p.class (numbers_in (slice_get D.blocks p.level)) ⊎ HasStandard U p.level
    listed (inl a) = inl a
    listed (inr h) = inr (brings p.level h)

-- what a block shows is declared in one of its levels
pub shown_reaches : (T : Tables) → Showing T → (n : ℕ) (from : Option ℕ) (k : ℕ) (name : List ℕ) (d : DeclNo) → shown_of T n from k name ≡ Some d → (l : ℕ) × Reaches T k l × Shown T l d
unfolding shown_of
shown_reaches T w zero from k name d e = absurd (cc)
shown_reaches T w (suc n) from k name d e = go (shown_next T w n from k name d e) (λ b f. shown_reaches T w n from b name d f)
  where
    go : Shown T k d ⊎ ((c : ℕ) × (base T k ≡ Some c) × (shown_of T n from c name ≡ Some d)) → ((b : ℕ) → shown_of T n from b name ≡ Some d → (l : ℕ) × Reaches T b l × Shown T l d) → (l : ℕ) × Reaches T k l × Shown T l d
    go (inl h) rest = (k, itself, h)
    go (inr h) rest = let q = rest h.0 h.2 in (q.0, through h.1 q.1, q.2)

-- so far only standard classes have a next level
module _ (D : Tables) (bare : Showing D) (bottom : (k : ℕ) (row : BlockOf) → slice_get D.blocks k ≡ Some row → is_prefixable row.kind ≡ true → base D k ≡ None) where
  -- ---- one block

  module _ (T : Tables) (s : Based D T) where
    stands_same : (k : ℕ) (d : DeclNo) → StandsIn D k d → StandsIn T k d
    stands_same k d q = (q.0, ap (λ z. slice_get z d.0) s.declarations ∙ q.1, q.2)

    stands_back : (k : ℕ) (d : DeclNo) → StandsIn T k d → StandsIn D k d
    stands_back k d q = (q.0, ap (λ z. slice_get z d.0) (sym s.declarations) ∙ q.1, q.2)

    plainly : Showing T
    plainly = showing_kept D T bare s.blocks stands_same

    same_class : (d : DeclNo) → class_block T d ≡ class_block D d
    unfolding class_block
    same_class d = ap (λ (ds : List Declaration). class_block_in (elim (slice_get ds d.0) [ None ↦ None | Some row ↦ Some row.entry ])) s.declarations

    same_kind : (u : ℕ) → is_kind is_connection T u ≡ is_kind is_connection D u
    unfolding is_kind
    same_kind u = ap (is_so is_connection) (sym (kind_bare (slice_get T.blocks u)) ∙ ap kind_in (s.blocks u) ∙ kind_bare (slice_get D.blocks u))

    same_level : (k : ℕ) → level_in (slice_get T.blocks k) ≡ level_in (slice_get D.blocks k)
    same_level k = sym (level_bare (slice_get T.blocks k)) ∙ ap level_in (s.blocks k) ∙ level_bare (slice_get D.blocks k)

    same_encloser : (u : ℕ) → encloser T u ≡ encloser D u
    unfolding encloser
    same_encloser u = sym (around_bare (slice_get T.blocks u)) ∙ ap around (s.blocks u) ∙ around_bare (slice_get D.blocks u)

    -- a prefix is looked for in the nearest block around that is no connection
    home_along : (n u h : ℕ) → first_along (encloser T) n (unless_connection T) u ≡ Some h → HomeFrom D (Some u) h
    unfolding first_along
    home_along zero u h e = absurd (cc)
    home_along (suc n) u h e = go (is_kind is_connection T u) refl e (λ b f. home_along n b h f)
      where
        next : (o : Option ℕ) → encloser T u ≡ o → from_next (λ b. first_along (encloser T) n (unless_connection T) b) o ≡ Some h → ((b : ℕ) → first_along (encloser T) n (unless_connection T) b ≡ Some h → HomeFrom D (Some b) h) → HomeFrom D (encloser D u) h
        next None is f rest = absurd (cc)
        next (Some b) is f rest = subst (λ o. HomeFrom D o h) (sym is ∙ same_encloser u) (rest b f)

        go : (c : Bool) → is_kind is_connection T u ≡ c → option_or (if c then None else Some u) (from_next (λ b. first_along (encloser T) n (unless_connection T) b) (encloser T u)) ≡ Some h
            → ((b : ℕ) → first_along (encloser T) n (unless_connection T) b ≡ Some h → HomeFrom D (Some b) h) → HomeFrom D (Some u) h
        go false is f rest = subst (λ z. HomeFrom D (Some u) z) (some_same u h f) (stands (sym (same_kind u) ∙ is))
        go true is f rest = connected (sym (same_kind u) ∙ is) (next (encloser T u) refl f rest)

    home_is : (o : Option ℕ) (h : ℕ) → home_from T o ≡ Some h → HomeFrom D o h
    home_is None h e = absurd (cc)
    home_is (Some u) h e = home_along (length T.blocks) u h e

    -- what is found
    Says : ℕ → PrefixFound → Type 0
    Says k (found.Class c) = PrefixOf D T k c
    Says k (found.Standard which) = (spelt_before (slice_get D.blocks k) ≡ Some which) × (base D k ≡ None)
    Says k found.Nothing = Unit {0}

    says_standard : (k : ℕ) (o : Option StandardPrefix) → spelt_before (slice_get D.blocks k) ≡ o → base D k ≡ None → Says k (standard_or_nothing o)
    unfolding Says
    says_standard k None e none = tt
    says_standard k (Some which) e none = (e, none)

    says_found : (k : ℕ) (row : BlockOf) → slice_get T.blocks k ≡ Some row → Says k (prefix_of T row)
    unfolding Says prefix_of shown
    says_found k row at = go row.prefix refl
      where
        was : (old : BlockOf) × (slice_get D.blocks k ≡ Some old) × (record row { base = None; standard = None } ≡ record old { base = None; standard = None })
        was = row_was (slice_get D.blocks k) row (sym (ap bare_row at) ∙ s.blocks k)

        same_kinds : row.kind ≡ (was.0).kind
        same_kinds = ap (λ (z : BlockOf). z.kind) was.2

        right : is_wrong row.kind row.prefix ≡ false
        right = sym (ap (λ o. (extras_in o).wrong) at) ∙ plainly.right k

        so : (a : Bool) → not a ≡ false → a ≡ true
        so true e = refl
        so false e = absurd (cc)

        spelt : (x : Identifier) → row.prefix ≡ Some x → spelt_before (slice_get D.blocks k) ≡ standard_prefix x.name
        spelt x e = ap spelt_before was.1 ∙ sym (ap (λ (z : BlockOf). spelt_as z.prefix) was.2) ∙ ap spelt_as e

        no_base : is_prefixable row.kind ≡ true → base D k ≡ None
        no_base p = bottom k was.0 was.1 (ap is_prefixable (sym same_kinds) ∙ p)

        outside : (x : Identifier) → row.prefix ≡ Some x → is_prefixable row.kind ≡ true → (o : Option ℕ) → Says k (prefix_outside T x o)
        outside x is class o = pick (holds (shown_outward T x.token.0 x.name) o)
          where
            pick : (c : Bool) → Says k (if c then found.Nothing else standard_or_nothing (standard_prefix x.name))
            pick true = tt
            pick false = says_standard k (standard_prefix x.name) (spelt x is) (no_base class)

        listed : (l : ℕ) (d : DeclNo) → Among d (numbers_in (slice_get T.blocks l)) ⊎ HasStandard T l → Among d (numbers_in (slice_get D.blocks l)) ⊎ HasStandard T l
        listed l d (inl a) = inl (subst (λ z. Among d z) (sym (numbers_bare (slice_get T.blocks l)) ∙ ap numbers_in (s.blocks l) ∙ numbers_bare (slice_get D.blocks l)) a)
        listed l d (inr h) = inr h

        of_class : (u : ℕ) → HomeFrom D row.encloser u → (x : Identifier) (d : DeclNo) → shown_of T (length T.blocks) (Some x.token.0) u x.name ≡ Some d → (o : Option ℕ) → class_block T d ≡ o → is_prefixable row.kind ≡ true → Says k (class_or_nothing o)
        of_class u around x d e None is class = tt
        of_class u around x d e (Some c) is class =
            let q = shown_reaches T plainly (length T.blocks) (Some x.token.0) u x.name d e in record {
              row = was.0;
              at = was.1;
              kind = ap is_prefixable (sym same_kinds) ∙ class;
              class = d;
              declares = sym (same_class d) ∙ is;
              outer = u;
              around = subst (λ o. HomeFrom D o u) (ap (λ (z : BlockOf). z.encloser) was.2) around;
              level = q.0;
              reaches = q.1;
              stands = stands_back q.0 d q.2.0;
              listed = listed q.0 d q.2.1;
            }

        of_shown : (u : ℕ) → HomeFrom D row.encloser u → (x : Identifier) → row.prefix ≡ Some x → is_prefixable row.kind ≡ true → (o : Option DeclNo) → shown_of T (length T.blocks) (Some x.token.0) u x.name ≡ o → Says k (shown_prefix T x u o)
        of_shown u around x is class None e = outside x is class (encloser T u)
        of_shown u around x is class (Some d) e = of_class u around x d e (class_block T d) refl class

        go : (p : Option Identifier) → row.prefix ≡ p → Says k (prefix_found T row p)
        go None e = tt
        go (Some x) e =
            at_home x (so (is_prefixable row.kind) (sym (ap (is_wrong row.kind) e) ∙ right)) e (home_from T row.encloser) refl
          where
            at_home : (x : Identifier) → is_prefixable row.kind ≡ true → row.prefix ≡ Some x → (o : Option ℕ) → home_from T row.encloser ≡ o → Says k (prefix_from T x o)
            at_home x class is None e = says_standard k (standard_prefix x.name) (spelt x is) (no_base class)
            at_home x class is (Some u) e = of_shown u (home_is row.encloser u e) x is class (shown_of T (length T.blocks) (Some x.token.0) u x.name) refl

  -- one block gets its prefix
  module _ (l i : ℕ) (T : Tables) (s : So D T l i) where
    not_later : (k : ℕ) → Later D l (suc i) k → Later D l i k
    not_later k (inl lt) = inl lt
    not_later k (inr q) = inr (q.0, (let le : suc i ≤ k = q.1 in omega arith))

    stays : So D T l (suc i)
    stays = record { based = s.based; later = λ k q. s.later k (not_later k q) }

    gets : (row : BlockOf) → slice_get T.blocks i ≡ Some row → row.level ≡ l → (c : ℕ) → PrefixOf D T i c → So D (record T { blocks = slice_set T.blocks i (record row { base = Some c }) }) l (suc i)
    unfolding base
    gets row at level c p = record {
      based = record {
        size = length-set T.blocks i new ∙ s.based.size;
        blocks = λ j. kept_set bare_row T.blocks i row new at refl j ∙ s.based.blocks j;
        places = s.based.places;
        declarations = s.based.declarations;
        qualifications = s.based.qualifications;
        protections = s.based.protections;
        bases = λ k d e. bases k d (nat_eq i k) refl e;
        standards = λ j p e. s.based.standards j p (sym (kept_set standard_in T.blocks i row new at refl j) ∙ e);
        apart = λ k d e. apart k d (nat_eq i k) refl e;
        kept = λ k d e. kept k d (nat_eq i k) refl (s.based.kept k d e);
      };
      later = λ k q. later k (nat_eq i k) refl q;
    }
      where
        new : BlockOf
        new = record row { base = Some c }

        U : Tables
        U = record T { blocks = slice_set T.blocks i (record row { base = Some c }) }

        own_level : level_in (slice_get D.blocks i) ≡ l
        own_level = sym (same_level T s.based i) ∙ ap level_in at ∙ level

        still : (base_in (slice_get T.blocks i) ≡ base_in (slice_get D.blocks i)) × (standard_in (slice_get T.blocks i) ≡ None)
        still = s.later i (inr (own_level, (let z : i ≤ i = omega arith in z)))

        none : base_in (slice_get T.blocks i) ≡ None
        none = still.0 ∙ bottom i p.row p.at p.kind

        kept : (k d : ℕ) (z : Bool) → nat_eq i k ≡ z → base_in (slice_get T.blocks k) ≡ Some d → base_in (slice_get (slice_set T.blocks i (record row { base = Some c })) k) ≡ Some d
        kept k d true z e = let same : i ≡ k = grind (arith, nat_tests) in absurd (let f : None ≡ Some d = sym none ∙ ap (λ m. base_in (slice_get T.blocks m)) same ∙ e in cc)
        kept k d false z e = ap base_in (set_other T.blocks i k new z) ∙ e

        apart : (k d : ℕ) (z : Bool) → nat_eq i k ≡ z → base_in (slice_get (slice_set T.blocks i (record row { base = Some c })) k) ≡ Some d → standard_in (slice_get (slice_set T.blocks i (record row { base = Some c })) k) ≡ None
        apart k d true z e = let same : i ≡ k = grind (arith, nat_tests) in kept_set standard_in T.blocks i row new at refl k ∙ subst (λ m. standard_in (slice_get T.blocks m) ≡ None) same still.1
        apart k d false z e = kept_set standard_in T.blocks i row new at refl k ∙ s.based.apart k d (sym (ap base_in (set_other T.blocks i k new z)) ∙ e)

        more : (j b : ℕ) → base T j ≡ Some b → base U j ≡ Some b
        more j b e = pick (nat_eq i j) refl
          where
            pick : (z : Bool) → nat_eq i j ≡ z → base_in (slice_get (slice_set T.blocks i (record row { base = Some c })) j) ≡ Some b
            pick true z = let same : i ≡ j = grind (arith, nat_tests) in absurd (let f : None ≡ Some b = sym none ∙ ap (λ m. base_in (slice_get T.blocks m)) same ∙ e in cc)
            pick false z = ap base_in (set_other T.blocks i j new z) ∙ e

        brought : (j : ℕ) → HasStandard T j → HasStandard U j
        brought j h = (h.0, kept_set standard_in T.blocks i row new at refl j ∙ h.1)

        bases : (k d : ℕ) (z : Bool) → nat_eq i k ≡ z → base_in (slice_get (slice_set T.blocks i (record row { base = Some c })) k) ≡ Some d → PrefixOf D U k d ⊎ (base_in (slice_get D.blocks k) ≡ Some d)
        bases k d true z e =
            let same : i ≡ k = grind (arith, nat_tests) in
            let is : Some c ≡ Some d = sym (ap base_in (subst (λ m. slice_get (slice_set T.blocks i (record row { base = Some c })) m ≡ Some new) same (set_here T.blocks i row new at))) ∙ e in
            inl (subst (λ m. PrefixOf D U m d) same (subst (λ m. PrefixOf D U i m) (some_same c d is) (prefix_more D T U more brought i c p)))
        bases k d false z e = go (s.based.bases k d (sym (ap base_in (set_other T.blocks i k new z)) ∙ e))
          where
            go : PrefixOf D T k d ⊎ (base_in (slice_get D.blocks k) ≡ Some d) → PrefixOf D U k d ⊎ (base_in (slice_get D.blocks k) ≡ Some d)
            go (inl q) = inl (prefix_more D T U more brought k d q)
            go (inr q) = inr q

        later : (k : ℕ) (z : Bool) → nat_eq i k ≡ z → Later D l (suc i) k → (base_in (slice_get (slice_set T.blocks i (record row { base = Some c })) k) ≡ base_in (slice_get D.blocks k)) × (standard_in (slice_get (slice_set T.blocks i (record row { base = Some c })) k) ≡ None)
        later k true z q = absurd (beyond (let same : i ≡ k = grind (arith, nat_tests) in same) q)
          where
            beyond : i ≡ k → Later D l (suc i) k → ⊥
            beyond same (inl lt) = let e : level_in (slice_get D.blocks k) ≡ l = subst (λ m. level_in (slice_get D.blocks m) ≡ l) same own_level in omega arith
            beyond same (inr h) = let le : suc i ≤ k = h.1 in omega arith
        later k false z q = let w = s.later k (not_later k q) in (ap base_in (set_other T.blocks i k new z) ∙ w.0, kept_set standard_in T.blocks i row new at refl k ∙ w.1)

    -- or it is a standard one
    brings : (row : BlockOf) → slice_get T.blocks i ≡ Some row → row.level ≡ l → (which : StandardPrefix) → spelt_before (slice_get D.blocks i) ≡ Some which → base D i ≡ None → So D (record T { blocks = slice_set T.blocks i (record row { standard = Some which }) }) l (suc i)
    unfolding base
    brings row at level which spelt none = record {
      based = record {
        size = length-set T.blocks i new ∙ s.based.size;
        blocks = λ j. kept_set bare_row T.blocks i row new at refl j ∙ s.based.blocks j;
        places = s.based.places;
        declarations = s.based.declarations;
        qualifications = s.based.qualifications;
        protections = s.based.protections;
        bases = λ k d e. bases k d (s.based.bases k d (was k d e));
        standards = λ j p e. standards j p (nat_eq i j) refl e;
        apart = λ k d e. apart k d (nat_eq i k) refl e;
        kept = λ k d e. kept_set base_in T.blocks i row new at refl k ∙ s.based.kept k d e;
      };
      later = λ k q. later k (nat_eq i k) refl q;
    }
      where
        new : BlockOf
        new = record row { standard = Some which }

        U : Tables
        U = record T { blocks = slice_set T.blocks i (record row { standard = Some which }) }

        own_level : level_in (slice_get D.blocks i) ≡ l
        own_level = sym (same_level T s.based i) ∙ ap level_in at ∙ level

        was : (k d : ℕ) → base_in (slice_get (slice_set T.blocks i (record row { standard = Some which })) k) ≡ Some d → base_in (slice_get T.blocks k) ≡ Some d
        was k d e = sym (kept_set base_in T.blocks i row new at refl k) ∙ e

        more : (j b : ℕ) → base T j ≡ Some b → base U j ≡ Some b
        more j b e = kept_set base_in T.blocks i row new at refl j ∙ e

        brought : (j : ℕ) (z : Bool) → nat_eq i j ≡ z → HasStandard T j → HasStandard U j
        brought j true z h = let same : i ≡ j = grind (arith, nat_tests) in (which, ap (λ m. standard_in (slice_get (slice_set T.blocks i (record row { standard = Some which })) m)) (sym same) ∙ ap standard_in (set_here T.blocks i row new at))
        brought j false z h = (h.0, ap standard_in (set_other T.blocks i j new z) ∙ h.1)

        bases : (k d : ℕ) → PrefixOf D T k d ⊎ (base_in (slice_get D.blocks k) ≡ Some d) → PrefixOf D U k d ⊎ (base_in (slice_get D.blocks k) ≡ Some d)
        bases k d (inl q) = inl (prefix_more D T U more (λ j h. brought j (nat_eq i j) refl h) k d q)
        bases k d (inr q) = inr q

        still : base_in (slice_get T.blocks i) ≡ None
        still = (s.later i (inr (own_level, (let z : i ≤ i = omega arith in z)))).0 ∙ none

        standards : (j : ℕ) (p : StandardPrefix) (z : Bool) → nat_eq i j ≡ z → standard_in (slice_get (slice_set T.blocks i (record row { standard = Some which })) j) ≡ Some p → spelt_before (slice_get D.blocks j) ≡ Some p
        standards j p true z e =
            let same : i ≡ j = grind (arith, nat_tests) in
            ap (λ m. spelt_before (slice_get D.blocks m)) (sym same) ∙ spelt ∙ sym (ap standard_in (set_here T.blocks i row new at)) ∙ ap (λ m. standard_in (slice_get (slice_set T.blocks i (record row { standard = Some which })) m)) same ∙ e
        standards j p false z e = s.based.standards j p (sym (ap standard_in (set_other T.blocks i j new z)) ∙ e)

        apart : (k d : ℕ) (z : Bool) → nat_eq i k ≡ z → base_in (slice_get (slice_set T.blocks i (record row { standard = Some which })) k) ≡ Some d → standard_in (slice_get (slice_set T.blocks i (record row { standard = Some which })) k) ≡ None
        apart k d true z e = let same : i ≡ k = grind (arith, nat_tests) in absurd (let f : None ≡ Some d = sym still ∙ ap (λ m. base_in (slice_get T.blocks m)) same ∙ was k d e in cc)
        apart k d false z e = ap standard_in (set_other T.blocks i k new z) ∙ s.based.apart k d (was k d e)

        later : (k : ℕ) (z : Bool) → nat_eq i k ≡ z → Later D l (suc i) k → (base_in (slice_get (slice_set T.blocks i (record row { standard = Some which })) k) ≡ base_in (slice_get D.blocks k)) × (standard_in (slice_get (slice_set T.blocks i (record row { standard = Some which })) k) ≡ None)
        later k true z q = absurd (beyond (let same : i ≡ k = grind (arith, nat_tests) in same) q)
          where
            beyond : i ≡ k → Later D l (suc i) k → ⊥
            beyond same (inl lt) = let e : level_in (slice_get D.blocks k) ≡ l = subst (λ m. level_in (slice_get D.blocks m) ≡ l) same own_level in omega arith
            beyond same (inr h) = let le : suc i ≤ k = h.1 in omega arith
        later k false z q = let w = s.later k (not_later k q) in (ap base_in (set_other T.blocks i k new z) ∙ w.0, ap standard_in (set_other T.blocks i k new z) ∙ w.1)

    block_so : So D (block_prefixed l T i) l (suc i)
    unfolding block_prefixed with_base_at with_standard_at Says
    block_so = go (slice_get T.blocks i) refl
      where
        of_found : (row : BlockOf) → slice_get T.blocks i ≡ Some row → row.level ≡ l → (f : PrefixFound) → Says T s.based i f → So D (with_prefix T i f) l (suc i)
        of_found row at level (found.Class c) p =
            subst (λ o. So D (elim o as (λ z. Tables) [ None ↦ T | Some x ↦ record T { blocks = slice_set T.blocks i (record x { base = Some c }) } ]) l (suc i)) (sym at) (gets row at level c p)
        of_found row at level (found.Standard which) p =
            subst (λ o. So D (elim o as (λ z. Tables) [ None ↦ T | Some x ↦ record T { blocks = slice_set T.blocks i (record x { standard = Some which }) } ]) l (suc i)) (sym at) (brings row at level which p.0 p.1)
        of_found row at level found.Nothing p = stays

        at_level : (row : BlockOf) → slice_get T.blocks i ≡ Some row → (z : Bool) → nat_eq row.level l ≡ z → So D (with_prefix T i (if z then prefix_of T row else found.Nothing)) l (suc i)
        at_level row at true z = of_found row at (let same : row.level ≡ l = grind (arith, nat_tests) in same) (prefix_of T row) (says_found T s.based i row at)
        at_level row at false z = stays

        go : (o : Option BlockOf) → slice_get T.blocks i ≡ o → So D (with_prefix T i (prefix_of_level l T o)) l (suc i)
        go None at = stays
        go (Some row) at = at_level row at (nat_eq row.level l) refl

  -- ---- all blocks of a level, and all levels

  level_so : (l : ℕ) (T : Tables) → So D T l 0 → (n : ℕ) → So D (run (block_prefixed l) T (numbers_to n)) l n
  unfolding run
  level_so l T s zero = s
  level_so l T s (suc n) =
      subst (λ z. So D z l (suc n)) (sym (run-append (block_prefixed l) T (numbers_to n) (n ∷ []))) (block_so l n (run (block_prefixed l) T (numbers_to n)) (level_so l T s n))

  next_so : (l i : ℕ) (T : Tables) → So D T l i → So D T (suc l) 0
  next_so l i T s = record { based = s.based; later = λ k q. s.later k (inl (go k q)) }
    where
      go : (k : ℕ) → Later D (suc l) 0 k → l < level_in (slice_get D.blocks k)
      go k (inl lt) = omega arith
      go k (inr q) = let e : level_in (slice_get D.blocks k) ≡ suc l = q.0 in omega arith

  levels_so : (n : ℕ) → So D D 0 0 → So D (run level_prefixed D (numbers_to n)) n 0
  unfolding run level_prefixed
  levels_so zero s = s
  levels_so (suc n) s =
      let T : Tables = run level_prefixed D (numbers_to n) in
      subst (λ z. So D z (suc n) 0) (sym (run-append level_prefixed D (numbers_to n) (n ∷ []))) (next_so n (length T.blocks) (level_prefixed T n) (level_so n T (levels_so n s) (length T.blocks)))

  pub prefixes_based : ((k : ℕ) → standard_in (slice_get D.blocks k) ≡ None) → Based D (prefixed D)
  unfolding prefixed base
  prefixes_based alone = (levels_so (deepest D.blocks + 1) (record {
    based = record { size = refl; blocks = λ k. refl; places = refl; declarations = refl; qualifications = refl; protections = refl; bases = λ k c e. inr e; standards = λ k p e. absurd (let f : None ≡ Some p = sym (alone k) ∙ e in cc); apart = λ k c e. alone k; kept = λ k c e. e };
    later = λ k q. (refl, alone k);
  })).based

-- ---- all together

refs_same : (D P : Tables) → P.declarations ≡ D.declarations → (qs : List Qualification) → AllReferences D qs → AllReferences P qs
refs_same D P same [] a = tt
refs_same D P same (q ∷ qs) a = ((a.0.0, ap (λ z. slice_get z q.declaration.0) same ∙ a.0.1, a.0.2), refs_same D P same qs a.1)

-- the tables with the prefixes of classes and blocks
pub prefixed_tables : (D : Tables) → Showing D → ((k : ℕ) (row : BlockOf) → slice_get D.blocks k ≡ Some row → is_prefixable row.kind ≡ true → base D k ≡ None) → ((k : ℕ) → standard_in (slice_get D.blocks k) ≡ None) → Based D (prefixed D)
prefixed_tables D bare bottom alone = prefixes_based D bare bottom alone

-- they are the tables before with other blocks
abbrev pub with_blocks : Tables → List BlockOf → Tables
with_blocks D bs = record D { blocks = bs }

pub prefixed_is : (D : Tables) → Based D (prefixed D) → prefixed D ≡ with_blocks D (prefixed D).blocks
prefixed_is D s = parts (prefixed D) s.places s.declarations s.qualifications s.protections
  where
    parts : (T : Tables) → T.places ≡ D.places → T.declarations ≡ D.declarations → T.qualifications ≡ D.qualifications → T.protections ≡ D.protections → T ≡ record D { blocks = T.blocks }
    parts T p d q r =
        ap (λ z. with_places T z) p ∙ ap (λ z. with_rows T z) d ∙ ap (λ z. with_quals T z) q ∙ ap (λ z. with_protected T z) r
      where
        with_places : Tables → List (Option ℕ) → Tables
        with_places T z = record T { places = z }

        with_rows : Tables → List Declaration → Tables
        with_rows T z = record T { places = D.places; declarations = z }

        with_quals : Tables → List Qualification → Tables
        with_quals T z = record T { places = D.places; declarations = D.declarations; qualifications = z }

        with_protected : Tables → List Protection → Tables
        with_protected T z = record T { places = D.places; declarations = D.declarations; qualifications = D.qualifications; protections = z }

pub references_prefixed : (D : Tables) → Based D (prefixed D) → AllReferences D D.qualifications → Requalified (prefixed D) (qualified (prefixed D))
references_prefixed D s refs = references_qualified (prefixed D) (refs_same D (prefixed D) s.declarations (prefixed D).qualifications (subst (AllReferences D) (sym s.qualifications) refs))

pub complete : (D : Tables) (p : Program) (IsClass : ℕ → Type 0) → Based D (prefixed D) → AllReferences D D.qualifications → ((d : ℕ) (n : ℕ) (row : Declaration) → slice_get D.declarations d ≡ Some row → row.entry ≡ entry.Class n → IsClass n) → ((k c : ℕ) → base D k ≡ Some c → HasNext D k × IsClass c)
    → ((i k : ℕ) → Opened D.blocks i → joined (slice_get D.places i) ≡ Some k → (row : BlockOf) × (slice_get D.blocks k ≡ Some row) × (row.kind ≡ kind.Connection)) → AllOpened (program_events connections p) D.blocks
    → Completes D (completed D p) IsClass
unfolding completed class_block entry_to base
complete D p IsClass s refs classes set_bases conn opened =
    connections_complete D (qualified (prefixed D)) IsClass class_is p (record {
      size = ap length q.blocks ∙ s.size;
      blocks = λ k. ap (λ z. bare_row (slice_get z k)) q.blocks ∙ s.blocks k;
      places = q.places ∙ s.places;
      rows = rows;
      bases = λ k c e. bases k c (sym (ap (λ z. base_in (slice_get z k)) q.blocks) ∙ e);
      steady = λ k other. ap (λ z. base_in (slice_get z k)) q.blocks;
      standards = λ k. ap (λ z. standard_in (slice_get z k)) q.blocks;
    }) conn opened
  where
    q : Requalified (prefixed D) (qualified (prefixed D))
    q = references_prefixed D s refs

    rows : Rows D.declarations (qualified (prefixed D)).declarations
    rows = subst (λ z. Rows z (qualified (prefixed D)).declarations) s.declarations q.rows

    class_there : (d : DeclNo) (n : ℕ) (rs : List Declaration) → Rows D.declarations rs → class_block_in (elim (slice_get rs d.0) [ None ↦ None | Some row ↦ Some row.entry ]) ≡ Some n → IsClass n
    class_there d n rs r e = go (slice_get rs d.0) refl e
      where
        go : (o : Option Declaration) → slice_get rs d.0 ≡ o → class_block_in (elim o [ None ↦ None | Some row ↦ Some row.entry ]) ≡ Some n → IsClass n
        go None at f = absurd (cc)
        go (Some row) at f = let w = r.was d.0 row at in classes d.0 n w.0 w.1 (class_was n w.0.entry row.entry w.2.entry (entry_is_class n row.entry f))

    class_is : (d : DeclNo) (n : ℕ) → class_block (qualified (prefixed D)) d ≡ Some n → IsClass n
    class_is d n e = class_there d n (qualified (prefixed D)).declarations rows e

    bases : (k c : ℕ) → base_in (slice_get (prefixed D).blocks k) ≡ Some c → HasNext D k × IsClass c
    bases k c e = go (s.bases k c e)
      where
        go : PrefixOf D (prefixed D) k c ⊎ (base_in (slice_get D.blocks k) ≡ Some c) → HasNext D k × IsClass c
        go (inl p) = ((p.row, p.at, inr (prefixable_base p.row.kind p.kind)), class_there p.class c D.declarations (same_rows D.declarations) p.declares)
        go (inr f) = set_bases k c f
