-- What an identifier denotes in an allowed program, and in which block it is found.
use Rattle.std.proofs.Common.{◌≡◌, ◌<◌, ℕ, zero, suc, Bool, true, false, List, length, Option, Some, None, refl, sym, ap, ◌∙◌, subst, if◌then◌else◌}
use Rattle.std.specs.Prelude.{◌||◌, nat_eq, slice_get}
use Rattle.std.specs.Option.{option_or}
use Rattle.std.proofs.lemmas.Option.{slice_get_within}
use Rattle.sim_base.specs.declared.numbering.DeclNo.{DeclNo}
use Rattle.sim_agree.specs.Order.{InOrder}
use Rattle.sim_scope.specs.declared.scopes.Declaration.{Declaration}
use Rattle.sim_scope.specs.declared.scopes.Denotation.TheVariants as denotation
use Rattle.sim_scope.specs.declared.standard.StandardName.{StandardName}
use Rattle.sim_scope.specs.declared.types.Entry.{Entry}
use Rattle.sim_scope.specs.Access.{block_at, encloser}
use Rattle.sim_scope.specs.Along.{first_along, from_next}
use Rattle.sim_scope.specs.Calls.{attribute_in, detach_or_none}
use Rattle.sim_scope.specs.Levels.{has_level, level_beyond, some_level_of}
use Rattle.sim_scope.specs.Scopes.{beyond, binding, declaration_from, declared_or_standard, ends_search, entry_of, found_in, if_found, is_shown, outward, represented, searched, shown}
use Rattle.sim_scope.specs.Source.{Source, block_of}
use Rattle.sim_meaning.specs.Attributes.{is_connection}
use Rattle.sim_meaning.specs.Texts.{text}
use Rattle.sim_sound.specs.Held as held
use Rattle.sim_sound.specs.Held.{Around, further}
use Rattle.sim_agree.specs.Facts.{Found, FoundThrough}
use Rattle.sim_agree.specs.TablesOf.{TablesOf}
use Rattle.sim_agree.proofs.Tables as t
use Rattle.sim_agree.proofs.Chains as chains
use Rattle.sim_agree.proofs.Prefixing as reach
use Rattle.sim_agree.proofs.Prefixing.{Reaches, shown_reaches, through}
use Rattle.sim_agree.proofs.Unprefixed.{FoundIn, Showing, Stands, StandsIn, behind, denoted_by, here, itself, lookup_stands, matches, stands}

some_same : {A : Type 0} (a b : A) → Some a ≡ Some b → a ≡ b
some_same a b e = cc

in_range : {A : Type 0} (xs : List A) (n : ℕ) (o : Option A) → slice_get xs n ≡ o → (x : A) → o ≡ Some x → n < length xs
in_range xs n o at x e = slice_get_within xs n x (at ∙ e)

module _ (s : Source) (of : TablesOf s) (order : InOrder s.program) where
  bare : Showing s.tables
  bare = t.shows s of order

  -- what stands in a block
  block_stands : (k : ℕ) (d : DeclNo) → StandsIn s.tables k d → block_of s d ≡ k
  block_stands k d q = t.block_is s of order d q.0 q.1 ∙ q.2

  reaches_both : {k l b : ℕ} → Reaches s.tables k l → Reaches s.tables l b → Reaches s.tables k b
  reaches_both reach.itself r = r
  reaches_both (through e q) r = through e (reaches_both q r)

  -- a virtual that is found stands in one of the levels
  found_stands : {name : List ℕ} {v : DeclNo} (n k : ℕ) → FoundIn s.tables name v n k → (b : ℕ) × Reaches s.tables k b × StandsIn s.tables b v
  found_stands {name = name} {v = v} n k (here e) = (k, reach.itself, (lookup_stands s.tables bare k name v e).0)
  found_stands n k (behind {n = m} {c = c} none up r) = let q = found_stands m c r in (q.0, through up q.1, q.2)

  -- so what a declaration stands for does
  stood : (l : ℕ) (f d : DeclNo) → StandsIn s.tables l f → Stands s.tables f d → (b : ℕ) × Reaches s.tables l b × StandsIn s.tables b d
  stood l f d at itself = (l, reach.itself, at)
  stood l f d at (matches row there proc is found) =
      let same : row ≡ at.0 = some_same row at.0 (sym there ∙ at.1) in
      let block : row.block ≡ l = ap (λ (z : Declaration). z.block) same ∙ at.2 in
      let q = found_stands (length s.tables.blocks) row.block found in
      (q.0, subst (λ z. Reaches s.tables z q.0) block q.1, q.2)

  level_reached : (k b : ℕ) (d : DeclNo) → Reaches s.tables k b → StandsIn s.tables b d → has_level s.tables k (block_of s d) ≡ true
  unfolding has_level
  level_reached k b d r at = subst (λ z. some_level_of s.tables (length s.tables.blocks) (λ c. nat_eq c z) k ≡ true) (sym (block_stands b d at)) (chains.reaches_level s.tables (length s.tables.blocks) k b (chains.all_end s of order k) r)

  -- a class that is connected shows what it shows alone
  through_class : (k b : ℕ) (d : DeclNo) → is_connection (text s k) ≡ true → Reaches s.tables k b → StandsIn s.tables b d → FoundThrough s true k (block_of s d)
  through_class k b d is reach.itself at = absurd (t.nothing_stands_in_connections s of order k is d at)
  through_class k b d is (through {b = c} up r) at = (c, up, level_reached c b d r at)

  record Shows (k : ℕ) (d : DeclNo) : Type 0 where
    through : FoundThrough s (is_connection (text s k)) k (block_of s d)
    entry : Entry
    is : entry_of s.tables d ≡ Some entry

  -- what is shown stands for what is declared in a level, or is a match of it
  shown_stands : (from : Option ℕ) (k : ℕ) (name : List ℕ) (f d : DeclNo) → shown s.tables from k name ≡ Some f → represented s.tables f ≡ d → (b : ℕ) × Reaches s.tables k b × StandsIn s.tables b d
  unfolding shown
  shown_stands from k name f d e rep =
      let l = shown_reaches s.tables bare (length s.tables.blocks) from k name f e in
      let q = stood l.0 f d l.2.0 (stands s.tables f d rep) in
      (q.0, reaches_both l.1 q.1, q.2)

  shows : (from : Option ℕ) (k : ℕ) (name : List ℕ) (f d : DeclNo) → shown s.tables from k name ≡ Some f → represented s.tables f ≡ d → Shows k d
  shows from k name f d e rep = go (is_connection (text s k)) refl
    where
      q : (b : ℕ) × Reaches s.tables k b × StandsIn s.tables b d
      q = shown_stands from k name f d e rep

      r : (e : Entry) × (entry_of s.tables d ≡ Some e)
      r = (q.2.0.entry, t.row_entry s of order d q.2.0 q.2.1)

      go : (c : Bool) → is_connection (text s k) ≡ c → Shows k d
      go false at = record { through = subst (λ z. FoundThrough s z k (block_of s d)) (sym at) (level_reached k q.0 d q.1 q.2); entry = r.0; is = r.1 }
      go true at = record { through = subst (λ z. FoundThrough s z k (block_of s d)) (sym at) (through_class k q.0 d at q.1 q.2); entry = r.0; is = r.1 }

  -- the search from block to block
  search : (token n k : ℕ) (name : List ℕ) (d : DeclNo) → searched s.tables (Some token) n k name ≡ Some d
      → (u : ℕ) × (first_along (encloser s.tables) n (if_found s.tables token name) k ≡ Some u) × Around s.tables k u × (shown s.tables (Some token) u name ≡ Some d)
  unfolding searched first_along if_found outward
  search token zero k name d e = absurd (cc)
  search token (suc n) k name d e = go (shown s.tables (Some token) k name) refl (ends_search s.tables k name) (encloser s.tables k) refl e (λ u f. search token n u name d f)
    where
      go : (o : Option DeclNo) → shown s.tables (Some token) k name ≡ o → (c : Bool) → (b : Option ℕ) → encloser s.tables k ≡ b
          → option_or o (beyond (λ b. searched s.tables (Some token) n b name) (if c then None else b)) ≡ Some d
          → ((u : ℕ) → searched s.tables (Some token) n u name ≡ Some d → (v : ℕ) × (first_along (encloser s.tables) n (if_found s.tables token name) u ≡ Some v) × Around s.tables u v × (shown s.tables (Some token) v name ≡ Some d))
          → (u : ℕ) × (option_or (if is_shown o || c then Some k else None) (from_next (λ b. first_along (encloser s.tables) n (if_found s.tables token name) b) b) ≡ Some u) × Around s.tables k u × (shown s.tables (Some token) u name ≡ Some d)
      go (Some f) at c b out g rest = (k, refl, held.itself, at ∙ g)
      go None at true b out g rest = absurd (cc)
      go None at false None out g rest = absurd (cc)
      go None at false (Some u) out g rest = let q = rest u g in (q.0, q.1, further out q.2, q.3)

  record IsFound (token k : ℕ) (name : List ℕ) (d : DeclNo) : Type 0 where
    found : ℕ
    at : found_in s.tables token name ≡ Some found
    around : Around s.tables k found
    shows : Shows found d

  find : (token k : ℕ) (name : List ℕ) (d : DeclNo) → block_at s.tables token ≡ Some k → binding s.tables token name ≡ Some (denotation.Declared d) → IsFound token k name d
  unfolding declaration_from found_in
  find token k name d at e =
      let f = denoted_by s.tables token name d e in
      let q = search token (length s.tables.blocks) k name f.0 (ap (λ o. declaration_from s.tables (Some token) o name) (sym at) ∙ f.1) in
      record { found = q.0; at = ap (λ o. level_beyond (first_along (encloser s.tables) (length s.tables.blocks) (if_found s.tables token name)) o) at ∙ q.1; around = q.2; shows = shows (Some token) q.0 name f.0 d q.3 f.2 }

  pub around : (token k : ℕ) (name : List ℕ) (d : DeclNo) → block_at s.tables token ≡ Some k → binding s.tables token name ≡ Some (denotation.Declared d) → Found s token k name d
  around token k name d at e = let f = find token k name d at e in record { found = f.found; at = f.at; around = f.around; through = f.shows.through }

  pub there : (token : ℕ) (name : List ℕ) (d : DeclNo) → binding s.tables token name ≡ Some (denotation.Declared d) → (e : Entry) × (entry_of s.tables d ≡ Some e)
  unfolding declaration_from
  there token name d e = go (block_at s.tables token) refl
    where
      go : (o : Option ℕ) → block_at s.tables token ≡ o → (f : Entry) × (entry_of s.tables d ≡ Some f)
      go (Some k) at = let f = find token k name d at e in (f.shows.entry, f.shows.is)
      go None at = let q = denoted_by s.tables token name d e in absurd (let none : None ≡ Some q.0 = ap (λ o. declaration_from s.tables (Some token) o name) (sym at) ∙ q.1 in cc)

  pub attributes : (token block : ℕ) (name : List ℕ) (d : DeclNo) → attribute_in s.tables token block name ≡ Some (denotation.Declared d) → (e : Entry) × (entry_of s.tables d ≡ Some e) × (has_level s.tables block (block_of s d) ≡ true)
  unfolding attribute_in
  attributes token block name d e = go (shown s.tables (Some token) block name) (detach_or_none name) refl e
    where
      go : (o : Option DeclNo) (k : Option StandardName) → shown s.tables (Some token) block name ≡ o → declared_or_standard s.tables o k ≡ Some (denotation.Declared d) → (e : Entry) × (entry_of s.tables d ≡ Some e) × (has_level s.tables block (block_of s d) ≡ true)
      go (Some f) k at g =
          let rep : represented s.tables f ≡ d = cc in
          let q = shown_stands (Some token) block name f d at rep in
          (q.2.0.entry, t.row_entry s of order d q.2.0 q.2.1, level_reached block q.0 d q.1 q.2)
      go None (Some k) at g = absurd (cc)
      go None None at g = absurd (cc)
