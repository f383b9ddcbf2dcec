-- What is looked for in tables is found by the blocks, by the levels of their prefixes, and by the classes that are connected. A procedure that
-- matches a virtual stands for that.
use Rattle.std.proofs.Common.{◌≡◌, ◌⊎◌, inl, inr, ℕ, zero, suc, Bool, true, false, List, [], ◌∷◌, length, Option, Some, None, refl, sym, ap, ◌∙◌, subst, if◌then◌else◌}
use Rattle.std.specs.Prelude.{◌&&◌, not, position, slice_get}
use Rattle.std.specs.Option.{option_or}
use Rattle.std.specs.Str.{bytes_eq}
use Rattle.sim_base.specs.declared.numbering.DeclNo.{DeclNo}
use Rattle.sim_tree.specs.declared.expr.Identifier.{Identifier}
use Rattle.sim_scope.specs.declared.scopes.Declaration.{Declaration}
use Rattle.sim_scope.specs.declared.scopes.Denotation.TheVariants as denotation
use Rattle.sim_scope.specs.declared.standard.StandardName.{StandardName}
use Rattle.sim_scope.specs.declared.types.BlockKind.{BlockKind}
use Rattle.sim_scope.specs.declared.types.BlockKind.TheVariants as kind
use Rattle.sim_scope.specs.declared.types.Entry.{Entry}
use Rattle.sim_scope.specs.declared.types.Entry.TheVariants as entry
use Rattle.sim_scope.specs.declared.types.SimType.{SimType}
use Rattle.sim_scope.specs.declared.types.StandardPrefix.{StandardPrefix}
use Rattle.sim_scope.specs.Access.{block_at, encloser, some_around}
use Rattle.sim_scope.specs.Declare.{empty}
use Rattle.sim_scope.specs.Levels.{base, standard_in}
use Rattle.sim_scope.specs.Scopes.{beyond, binding, brought_by, brought_in, declaration_from, declared_in, declared_or_standard, ends_search, entry_in, entry_is, entry_of, is_detach, is_procedure_entry, is_virtual, level_shows, lookup, numbered, or_itself, outward, represented, represented_row, seen, shown_of, shows_detach, standard_at, virtual_among, virtual_of, seen_from}
use Rattle.sim_scope.specs.Standard.{standard_name, standard_prefix}
use Rattle.sim_scope.specs.Tables.{BlockOf, Tables}
use Rattle.sim_meaning.specs.Entries.{numbers_in}
use Rattle.sim_sound.specs.Held.{Among, first, later}

-- what may have a prefix: a class or a block
abbrev pub is_prefixable : BlockKind → Bool
is_prefixable kind.Class = true
is_prefixable kind.Prefixed = true
is_prefixable _ = false

-- a prefix where none may be: in front of what is neither
abbrev pub is_wrong : BlockKind → Option Identifier → Bool
is_wrong k None = false
is_wrong k (Some x) = not (is_prefixable k)

-- the standard prefix that the one in front of a block is spelt as
abbrev pub spelt_as : Option Identifier → Option StandardPrefix
spelt_as None = None
spelt_as (Some x) = standard_prefix x.name

abbrev pub spelt_before : Option BlockOf → Option StandardPrefix
spelt_before None = None
spelt_before (Some row) = spelt_as row.prefix

-- what a block has of prefixes
pub record Extras : Type 0 where
  pub wrong : Bool
  pub standard : Option StandardPrefix

abbrev pub no_extras : Extras
no_extras = record { wrong = false; standard = None }

abbrev pub extras_in : Option BlockOf → Extras
extras_in None = no_extras
extras_in (Some row) = record { wrong = is_wrong row.kind row.prefix; standard = row.standard }

abbrev pub NoExtras : List BlockOf → Type 0
NoExtras bs = (k : ℕ) → extras_in (slice_get bs k) ≡ no_extras

pub record Unprefixed (s : Tables) : Type 0 where
  pub blocks : NoExtras s.blocks

-- The match that a virtual knows: a procedure of its name that is declared in its block.
pub record MatchOf (ds : List Declaration) (virtual : Declaration) (d : DeclNo) : Type 0 where
  pub row : Declaration
  pub at : slice_get ds d.0 ≡ Some row
  pub name : row.name ≡ virtual.name
  pub block : row.block ≡ virtual.block
  pub procedure : is_procedure_entry row.entry ≡ true

abbrev pub Known : List Declaration → Type 0
Known ds = (v : ℕ) (row : Declaration) (result : Option SimType) (d : DeclNo) → slice_get ds v ≡ Some row → row.entry ≡ entry.Virtual result (Some d) → MatchOf ds row d

-- what a block finds by a name has that name, and is declared in it
abbrev pub NamesFound : Tables → Type 0
NamesFound s = (k : ℕ) (name : List ℕ) (d : DeclNo) → declared_in (slice_get s.blocks k) name ≡ Some d → (row : Declaration) × (slice_get s.declarations d.0 ≡ Some row) × (row.name ≡ name) × (row.block ≡ k)

-- what a standard prefix brings into a block
abbrev pub brought_of : Option BlockOf → List DeclNo
brought_of None = []
brought_of (Some row) = row.brought

-- with the names by which it is found
pub record Brings : Type 0 where
  pub names : List (List ℕ)
  pub numbers : List DeclNo

abbrev pub brings_of : Option BlockOf → Brings
brings_of None = record { names = []; numbers = [] }
brings_of (Some row) = record { names = row.brought_names; numbers = row.brought }

pub brings_numbers : (o : Option BlockOf) → (brings_of o).numbers ≡ brought_of o
brings_numbers None = refl
brings_numbers (Some row) = refl

-- which are those of its declarations
abbrev pub Named : List Declaration → Brings → Type 0
Named ds x = (i : ℕ) (name : List ℕ) (d : DeclNo) → slice_get x.names i ≡ Some name → slice_get x.numbers i ≡ Some d → (row : Declaration) × (slice_get ds d.0 ≡ Some row) × (row.name ≡ name)

-- a declaration of a block
abbrev pub StandsIn : Tables → (block : ℕ) → DeclNo → Type 0
StandsIn s k d = (row : Declaration) × (slice_get s.declarations d.0 ≡ Some row) × (row.block ≡ k)

-- the standard prefix of a block
abbrev pub HasStandard : Tables → (block : ℕ) → Type 0
HasStandard s k = (which : StandardPrefix) × (standard_in (slice_get s.blocks k) ≡ Some which)

-- a declaration of a block that it shows: it lists it, or its standard prefix brings it
abbrev pub Shown : Tables → (block : ℕ) → DeclNo → Type 0
Shown s k d = StandsIn s k d × (Among d (numbers_in (slice_get s.blocks k)) ⊎ HasStandard s k)

-- What is looked for in tables: what a block lists is declared in it, and so is what its standard prefix brings.
pub record Showing (s : Tables) : Type 0 where
  pub right : (k : ℕ) → (extras_in (slice_get s.blocks k)).wrong ≡ false
  pub lists : (k : ℕ) (d : DeclNo) → Among d (numbers_in (slice_get s.blocks k)) → StandsIn s k d
  pub brings : (k : ℕ) (d : DeclNo) → Among d (brought_of (slice_get s.blocks k)) → StandsIn s k d

abbrev no_blocks : List BlockOf
no_blocks = []

none_there : (k : ℕ) → slice_get no_blocks k ≡ None
none_there zero = refl
none_there (suc k) = refl

pub nothing_bare : Unprefixed empty.tables
nothing_bare = record { blocks = λ k. ap extras_in (none_there k) }

-- ---- what is looked for

pub or_none : (x : Option DeclNo) → option_or x None ≡ x
or_none None = refl
or_none (Some d) = refl

-- what is found at a place stands among the others
pub numbered_among : (ns : List DeclNo) (o : Option ℕ) (d : DeclNo) → numbered ns o ≡ Some d → Among d ns
numbered_among ns None d e = absurd (cc)
numbered_among [] (Some n) d e = absurd (cc)
numbered_among (m ∷ ns) (Some zero) d e = subst (λ z. Among d (z ∷ ns)) (let f : d ≡ m = cc in f) first
numbered_among (m ∷ ns) (Some (suc n)) d e = later (numbered_among ns (Some n) d e)

module _ (s : Tables) (w : Showing s) where
  pub lookup_stands : (k : ℕ) (name : List ℕ) (d : DeclNo) → lookup s k name ≡ Some d → Shown s k d
  unfolding lookup
  lookup_stands k name d e = go (slice_get s.blocks k) refl e
    where
      go : (o : Option BlockOf) → slice_get s.blocks k ≡ o → declared_in o name ≡ Some d → Shown s k d
      go None at f = absurd (cc)
      go (Some row) at f = let a = subst (λ o. Among d (numbers_in o)) (sym at) (numbered_among row.numbers (position (bytes_eq name) row.names) d f) in (w.lists k d a, inl a)

  pub brought_stands : (k : ℕ) (name : List ℕ) (d : DeclNo) → brought_by s k name ≡ Some d → Shown s k d
  unfolding brought_by
  brought_stands k name d e = go (slice_get s.blocks k) refl e
    where
      of_row : (row : BlockOf) → slice_get s.blocks k ≡ Some row → (p : Option StandardPrefix) → row.standard ≡ p → (elim p [ None ↦ None | Some which ↦ numbered row.brought (position (bytes_eq name) row.brought_names) ]) ≡ Some d → Shown s k d
      of_row row at None p f = absurd (cc)
      of_row row at (Some which) p f = (w.brings k d (subst (λ o. Among d (brought_of o)) (sym at) (numbered_among row.brought (position (bytes_eq name) row.brought_names) d f)), inr (which, ap standard_in at ∙ p))

      go : (o : Option BlockOf) → slice_get s.blocks k ≡ o → brought_in o name ≡ Some d → Shown s k d
      go None at f = absurd (cc)
      go (Some row) at f = of_row row at row.standard refl f

  pub seen_there : (from : Option ℕ) (o : Option DeclNo) (d : DeclNo) → seen s from o ≡ Some d → o ≡ Some d
  seen_there from None d e = e
  seen_there from (Some f) d e = go (seen_from s from f) e
    where
      go : (c : Bool) → (if c then Some f else None) ≡ Some d → Some f ≡ Some d
      go true h = h
      go false h = absurd (cc)

  -- what a level shows is declared in it
  shows_there : (from : Option ℕ) (k : ℕ) (name : List ℕ) (d : DeclNo) → level_shows s from k name ≡ Some d → Shown s k d
  unfolding level_shows
  shows_there from k name d e = go (seen s from (lookup s k name)) refl e
    where
      go : (o : Option DeclNo) → seen s from (lookup s k name) ≡ o → option_or o (brought_by s k name) ≡ Some d → Shown s k d
      go (Some f) at h = lookup_stands k name d (seen_there from (lookup s k name) d (at ∙ h))
      go None at h = brought_stands k name d h

  -- what a block shows is declared in it, or shown by its next level
  pub shown_next : (n : ℕ) (from : Option ℕ) (k : ℕ) (name : List ℕ) (d : DeclNo) → shown_of s (suc n) from k name ≡ Some d → Shown s k d ⊎ ((c : ℕ) × (base s k ≡ Some c) × (shown_of s n from c name ≡ Some d))
  unfolding shown_of
  shown_next n from k name d e = go (level_shows s from k name) (base s k) refl refl e
    where
      go : (o : Option DeclNo) (b : Option ℕ) → level_shows s from k name ≡ o → base s k ≡ b → option_or o (beyond (λ b. shown_of s n from b name) b) ≡ Some d
          → Shown s k d ⊎ ((c : ℕ) × (b ≡ Some c) × (shown_of s n from c name ≡ Some d))
      go (Some f) b at out h = inl (shows_there from k name d (at ∙ h))
      go None None at out h = absurd (cc)
      go None (Some c) at out h = inr (c, refl, h)

  pub shown_levels : (n : ℕ) (from : Option ℕ) (k : ℕ) (name : List ℕ) (d : DeclNo) → shown_of s n from k name ≡ Some d
      → Shown s k d ⊎ ((c : ℕ) × (m : ℕ) × (base s k ≡ Some c) × (shown_of s m from c name ≡ Some d))
  unfolding shown_of
  shown_levels zero from k name d e = absurd (cc)
  shown_levels (suc n) from k name d e = go (level_shows s from k name) (base s k) refl refl e
    where
      go : (o : Option DeclNo) (b : Option ℕ) → level_shows s from k name ≡ o → base s k ≡ b → option_or o (beyond (λ b. shown_of s n from b name) b) ≡ Some d
          → Shown s k d ⊎ ((c : ℕ) × (m : ℕ) × (b ≡ Some c) × (shown_of s m from c name ≡ Some d))
      go (Some f) b at out h = inl (shows_there from k name d (at ∙ h))
      go None None at out h = absurd (cc)
      go None (Some c) at out h = inr (c, n, refl, h)

  -- one without a next level shows what it declares
  pub shown_alone : (n : ℕ) (from : Option ℕ) (k : ℕ) (name : List ℕ) (d : DeclNo) → base s k ≡ None → shown_of s n from k name ≡ Some d → Shown s k d
  shown_alone n from k name d none e = go (shown_levels n from k name d e)
    where
      go : Shown s k d ⊎ ((c : ℕ) × (m : ℕ) × (base s k ≡ Some c) × (shown_of s m from c name ≡ Some d)) → Shown s k d
      go (inl q) = q
      go (inr q) = absurd (let f : None ≡ Some q.0 = sym none ∙ q.2 in cc)

  -- the search for a name other than `detach` goes on in the block around
  pub goes_outward : (k : ℕ) (name : List ℕ) → is_detach name ≡ false → outward s k name ≡ encloser s k
  unfolding outward ends_search
  goes_outward k name other = ap (λ z. if z && shows_detach s k then None else encloser s k) other

-- ---- what stands for what

module _ (s : Tables) where
  among_is : (o : Option DeclNo) (v : DeclNo) → virtual_among s o ≡ Some v → (o ≡ Some v) × (entry_is is_virtual (entry_of s v) ≡ true)
  among_is None v e = absurd (cc)
  among_is (Some d) v e = go (entry_is is_virtual (entry_of s d)) refl e
    where
      go : (c : Bool) → entry_is is_virtual (entry_of s d) ≡ c → (if c then Some d else None) ≡ Some v → (Some d ≡ Some v) × (entry_is is_virtual (entry_of s v) ≡ true)
      go true is f = let same : d ≡ v = cc in (f, ap (λ z. entry_is is_virtual (entry_of s z)) (sym same) ∙ is)
      go false is f = absurd (cc)

  -- the virtual that is found in some of the levels of a block: it is declared in one of them
  pub data FoundIn (name : List ℕ) (v : DeclNo) : (steps block : ℕ) → Type 0 where
    here : {n b : ℕ} → lookup s b name ≡ Some v → FoundIn name v (suc n) b
    behind : {n b c : ℕ} → virtual_among s (lookup s b name) ≡ None → base s b ≡ Some c → FoundIn name v n c → FoundIn name v (suc n) b

  pub virtual_found : (n b : ℕ) (name : List ℕ) (v : DeclNo) → virtual_of s n b name ≡ Some v → FoundIn name v n b × (entry_is is_virtual (entry_of s v) ≡ true)
  unfolding virtual_of
  virtual_found zero b name v e = absurd (cc)
  virtual_found (suc n) b name v e = go (virtual_among s (lookup s b name)) refl (base s b) refl e (λ c f. virtual_found n c name v f)
    where
      go : (o : Option DeclNo) → virtual_among s (lookup s b name) ≡ o → (p : Option ℕ) → base s b ≡ p → option_or o (beyond (λ c. virtual_of s n c name) p) ≡ Some v
          → ((c : ℕ) → virtual_of s n c name ≡ Some v → FoundIn name v n c × (entry_is is_virtual (entry_of s v) ≡ true)) → FoundIn name v (suc n) b × (entry_is is_virtual (entry_of s v) ≡ true)
      go (Some d) at p out f rest = let q = among_is (lookup s b name) v (at ∙ f) in (here q.0, q.1)
      go None at None out f rest = absurd (cc)
      go None at (Some c) out f rest = let q = rest c f in (behind at out q.0, q.1)

  -- A declaration that is found stands for itself, or it is a procedure and stands for a virtual of its name that is found from its block outward.
  pub data Stands (d : DeclNo) : DeclNo → Type 0 where
    itself : Stands d d
    matches : {v : DeclNo} (row : Declaration) → slice_get s.declarations d.0 ≡ Some row → is_procedure_entry row.entry ≡ true → entry_is is_virtual (entry_of s v) ≡ true → FoundIn row.name v (length s.blocks) row.block → Stands d v

  pub stands : (d v : DeclNo) → represented s d ≡ v → Stands d v
  unfolding represented
  stands d v e = go (slice_get s.declarations d.0) refl e
    where
      itself_then : d ≡ v → Stands d v
      itself_then same = subst (Stands d) same itself

      of_virtual : (row : Declaration) → slice_get s.declarations d.0 ≡ Some row → is_procedure_entry row.entry ≡ true → (o : Option DeclNo) → virtual_of s (length s.blocks) row.block row.name ≡ o → or_itself o d ≡ v → Stands d v
      of_virtual row at proc None is f = itself_then f
      of_virtual row at proc (Some w) is f = let q = virtual_found (length s.blocks) row.block row.name v (is ∙ ap Some f) in matches row at proc q.1 q.0

      of_entry : (row : Declaration) → slice_get s.declarations d.0 ≡ Some row → (c : Bool) → is_procedure_entry row.entry ≡ c → (if c then or_itself (virtual_of s (length s.blocks) row.block row.name) d else d) ≡ v → Stands d v
      of_entry row at true proc f = of_virtual row at proc (virtual_of s (length s.blocks) row.block row.name) refl f
      of_entry row at false proc f = itself_then f

      go : (o : Option Declaration) → slice_get s.declarations d.0 ≡ o → represented_row s d o ≡ v → Stands d v
      go None at f = itself_then f
      go (Some row) at f = of_entry row at (is_procedure_entry row.entry) refl f

  plain_stands : {d v : DeclNo} → entry_is is_virtual (entry_of s v) ≡ false → Stands d v → d ≡ v
  plain_stands plain itself = refl
  plain_stands plain (matches row at proc is found) = absurd (let z : true ≡ false = sym is ∙ plain in cc)

  -- what is no virtual stands for itself alone
  pub stands_alone : (d v : DeclNo) → entry_is is_virtual (entry_of s v) ≡ false → represented s d ≡ v → d ≡ v
  stands_alone d v plain e = plain_stands plain (stands d v e)

  -- what is no procedure stands for itself
  pub no_procedure_stands : (d : DeclNo) (e : Entry) → entry_of s d ≡ Some e → is_procedure_entry e ≡ false → represented s d ≡ d
  unfolding represented entry_of
  no_procedure_stands d e at other = go (slice_get s.declarations d.0) refl
    where
      same_entry : (x y : Entry) → Some x ≡ Some y → x ≡ y
      same_entry x y f = cc

      go : (o : Option Declaration) → slice_get s.declarations d.0 ≡ o → represented_row s d o ≡ d
      go None is = refl
      go (Some row) is =
          let plain : is_procedure_entry row.entry ≡ false = ap is_procedure_entry (same_entry row.entry e (sym (ap entry_in is) ∙ at)) ∙ other in
          ap (λ c. if c then or_itself (virtual_of s (length s.blocks) row.block row.name) d else d) plain

  -- what a name denotes
  pub denoted_by : (token : ℕ) (name : List ℕ) (d : DeclNo) → binding s token name ≡ Some (denotation.Declared d) → (f : DeclNo) × (declaration_from s (Some token) (block_at s token) name ≡ Some f) × (represented s f ≡ d)
  unfolding binding
  denoted_by token name d is = go (declaration_from s (Some token) (block_at s token) name) (standard_at s token name) refl is
    where
      go : (o : Option DeclNo) (k : Option StandardName) → declaration_from s (Some token) (block_at s token) name ≡ o → declared_or_standard s o k ≡ Some (denotation.Declared d) → (f : DeclNo) × (declaration_from s (Some token) (block_at s token) name ≡ Some f) × (represented s f ≡ d)
      go (Some f) k at e = (f, at, (let h : represented s f ≡ d = cc in h))
      go None (Some k) at e = absurd (cc)
      go None None at e = absurd (cc)

  pub declared_is : (token : ℕ) (name : List ℕ) (d : DeclNo) → entry_is is_virtual (entry_of s d) ≡ false → binding s token name ≡ Some (denotation.Declared d) → declaration_from s (Some token) (block_at s token) name ≡ Some d
  declared_is token name d plain is = let q = denoted_by token name d is in q.1 ∙ ap Some (stands_alone q.0 d plain q.2)

-- a standard name that is denoted is one that is written alone
pub standard_is : (s : Tables) (token : ℕ) (name : List ℕ) (k : StandardName) → binding s token name ≡ Some (denotation.Standard k) → standard_name name ≡ Some k
unfolding binding standard_at
standard_is s token name k is = go (declaration_from s (Some token) (block_at s token) name) (is_detach name && not (some_around s (shows_detach s) token)) (standard_name name) is
  where
    go : (o : Option DeclNo) (c : Bool) (q : Option StandardName) → declared_or_standard s o (if c then None else q) ≡ Some (denotation.Standard k) → q ≡ Some k
    go (Some d) c q e = absurd (cc)
    go None true q e = absurd (cc)
    go None false (Some p) e = (let h : p ≡ k = cc in ap Some h)
    go None false None e = absurd (cc)
