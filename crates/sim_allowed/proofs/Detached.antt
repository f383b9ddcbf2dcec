-- Where `detach` is found: in a class, a block with a prefix or a connection of a class around it.
use Rattle.std.proofs.Common.{◌≡◌, ℕ, zero, suc, Bool, true, false, List, length, Option, Some, None, refl, sym, ap, ◌∙◌, subst, if◌then◌else◌}
use Rattle.std.proofs.lemmas.Bool.{false≢true}
use Rattle.std.specs.Prelude.{◌&&◌, ◌||◌, not, slice_get}
use Rattle.std.specs.Option.{option_or}
use Rattle.sim_base.specs.declared.numbering.DeclNo.{DeclNo}
use Rattle.sim_scope.specs.declared.scopes.Denotation.TheVariants as denotation
use Rattle.sim_scope.specs.declared.standard.StandardName.{StandardName}
use Rattle.sim_scope.specs.declared.standard.StandardName.TheVariants as found
use Rattle.sim_scope.specs.declared.types.BlockKind.{BlockKind}
use Rattle.sim_scope.specs.declared.types.BlockKind.TheVariants as block_kind
use Rattle.sim_scope.specs.Access.{block_at, encloser, has_text_of_levels, holds_at, is_connection as is_connection_kind, is_kind, is_so, kind_in, some_around, some_around_of}
use Rattle.sim_scope.specs.Along.{first_along, from_next}
use Rattle.sim_scope.specs.Levels.{base, level_beyond}
use Rattle.sim_scope.specs.Scopes.{beyond, binding, declaration_from, declared_or_standard, detach_in, ends_search, found_in, has_detach, if_found, is_connected, is_detach, is_shown, outward, searched, shown, shows_detach, standard_at}
use Rattle.sim_scope.specs.Source.{Source, found_at}
use Rattle.sim_scope.specs.Standard.{standard_name}
use Rattle.sim_scope.specs.Tables.{BlockOf, Tables}
use Rattle.sim_values.specs.declared.kind.Kind.TheVariants as kind
use Rattle.sim_values.specs.declared.standard.Standard.TheVariants as name
use Rattle.sim_meaning.specs.Attributes.{is_connection}
use Rattle.sim_meaning.specs.Levels.{has_levels}
use Rattle.sim_meaning.specs.Texts.{text}
use Rattle.sim_sound.specs.Held.{Around, In, InBound, Place, Simply, further, itself, text_of}
use Rattle.sim_sound.specs.Expressions.{ThisFound, ThisIs}
use Rattle.sim_agree.specs.Facts.{Tabled}
use Rattle.sim_agree.proofs.Unprefixed.{standard_is}
use Rattle.sim_allowed.proofs.Classes.{reference_simply}
use Rattle.sim_allowed.proofs.Meant.{InText}
use Rattle.sim_allowed.proofs.Names.{detach_spelt}
use Rattle.sim_allowed.proofs.Nowhere.{neither_or, undeclared}

-- ---- the block that shows it

module _ (s : Tables) (token : ℕ) (n : List ℕ) (spelt : is_detach n ≡ true) where
  -- what the search gives is a block around that shows it
  abbrev Gives : Option ℕ → (from : ℕ) → Type 0
  Gives o k = (b : ℕ) × (o ≡ Some b) × Around s k b × (shows_detach s b ≡ true)

  first_shows : (m k : ℕ) → searched s (Some token) m k n ≡ None → some_around_of s m (shows_detach s) k ≡ true → Gives (first_along (encloser s) m (if_found s token n) k) k
  unfolding searched first_along if_found outward ends_search some_around_of
  first_shows zero k none there = absurd (false≢true there)
  first_shows (suc m) k none there = go (λ u e f. first_shows m u e f) (shows_detach s k) refl
    where
      both : (shown s (Some token) k n ≡ None) × (beyond (λ b. searched s (Some token) m b n) (outward s k n) ≡ None)
      both = neither_or (shown s (Some token) k n) (beyond (λ b. searched s (Some token) m b n) (outward s k n)) none

      ends : (c : Bool) → shows_detach s k ≡ c → ends_search s k n ≡ c
      ends c is = ap (λ z. z && shows_detach s k) spelt ∙ is

      looked : (c : Bool) → ends_search s k n ≡ c → if_found s token n k ≡ (if c then Some k else None)
      looked c is = ap (λ z. if is_shown z || ends_search s k n then Some k else None) both.0 ∙ ap (λ z. if z then Some k else None) is

      along : (o : Option ℕ) → if_found s token n k ≡ o → first_along (encloser s) (suc m) (if_found s token n) k ≡ option_or o (from_next (λ b. first_along (encloser s) m (if_found s token n) b) (encloser s k))
      along o is = ap (λ z. option_or z (from_next (λ b. first_along (encloser s) m (if_found s token n) b) (encloser s k))) is

      rest : ((u : ℕ) → searched s (Some token) m u n ≡ None → some_around_of s m (shows_detach s) u ≡ true → Gives (first_along (encloser s) m (if_found s token n) u) u)
          → (o : Option ℕ) → encloser s k ≡ o → beyond (λ b. searched s (Some token) m b n) o ≡ None → holds_at (λ b. some_around_of s m (shows_detach s) b) o ≡ true → Gives (from_next (λ b. first_along (encloser s) m (if_found s token n) b) o) k
      rest deep None out e f = absurd (false≢true f)
      rest deep (Some u) out e f = let q = deep u e f in (q.0, q.1, further out q.2, q.3)

      go : ((u : ℕ) → searched s (Some token) m u n ≡ None → some_around_of s m (shows_detach s) u ≡ true → Gives (first_along (encloser s) m (if_found s token n) u) u)
          → (c : Bool) → shows_detach s k ≡ c → Gives (first_along (encloser s) (suc m) (if_found s token n) k) k
      go deep true is = (k, along (Some k) (looked true (ends true is)), itself, is)
      go deep false is =
          let out : outward s k n ≡ encloser s k = ap (λ z. if z then None else encloser s k) (ends false is) in
          let q = rest deep (encloser s k) refl (sym (ap (λ z. beyond (λ b. searched s (Some token) m b n) z) out) ∙ both.1) (sym (ap (λ z. z || holds_at (λ b. some_around_of s m (shows_detach s) b) (encloser s k)) is) ∙ there) in
          (q.0, along None (looked false (ends false is)) ∙ q.1, q.2, q.3)

  -- where the name is that of the language, some block around shows it
  shown_around : (k : StandardName) → binding s token n ≡ Some (denotation.Standard k) → some_around s (shows_detach s) token ≡ true
  unfolding binding standard_at
  shown_around k e = go (declaration_from s (Some token) (block_at s token) n) (is_detach n) spelt (some_around s (shows_detach s) token) e
    where
      go : (o : Option DeclNo) (a : Bool) → a ≡ true → (c : Bool) → declared_or_standard s o (if a && not c then None else standard_name n) ≡ Some (denotation.Standard k) → c ≡ true
      go o a is true e = refl
      go (Some d) a is false e = absurd (cc)
      go None true is false e = absurd (cc)
      go None false is false e = absurd (false≢true is)

  found_shows : (k : ℕ) → block_at s token ≡ Some k → declaration_from s (Some token) (block_at s token) n ≡ None → some_around s (shows_detach s) token ≡ true → Gives (found_in s token n) k
  unfolding found_in declaration_from some_around
  found_shows k placed none there =
      let q = first_shows (length s.blocks) k (sym (ap (λ z. declaration_from s (Some token) z n) placed) ∙ none) (sym (ap (λ z. holds_at (λ b. some_around_of s (length s.blocks) (shows_detach s) b) z) placed) ∙ there) in
      (q.0, ap (λ z. level_beyond (first_along (encloser s) (length s.blocks) (if_found s token n)) z) placed ∙ q.1, q.2, q.3)

-- ---- the object that it is of

-- what shows it and is no connection is a class or has a prefix
kind_of_levels : (s : Tables) (b : ℕ) → shows_detach s b ≡ true → is_kind is_connection_kind s b ≡ false → is_kind has_text_of_levels s b ≡ true
unfolding shows_detach is_kind
kind_of_levels s b shows other = go (slice_get s.blocks b) shows other
  where
    of_kind : (k : BlockKind) (class : Option ℕ) → (has_detach k && is_connected k class) ≡ true → is_connection_kind k ≡ false → has_text_of_levels k ≡ true
    of_kind block_kind.Class class e f = refl
    of_kind block_kind.Prefixed class e f = refl
    of_kind block_kind.Connection class e f = absurd (false≢true (sym f))
    of_kind block_kind.Program class e f = absurd (false≢true e)
    of_kind block_kind.SubBlock class e f = absurd (false≢true e)
    of_kind block_kind.Procedure class e f = absurd (false≢true e)
    of_kind (block_kind.StandardClass which) class e f = absurd (false≢true e)

    go : (o : Option BlockOf) → detach_in o ≡ true → is_so is_connection_kind (kind_in o) ≡ false → is_so has_text_of_levels (kind_in o) ≡ true
    go None e f = absurd (false≢true e)
    go (Some row) e f = of_kind row.kind row.base e f

this_shows : (s : Source) → Tabled s → (t b : ℕ) → Around s.tables t b → shows_detach s.tables b ≡ true → ThisIs s (In t) (is_connection (text s b)) (has_levels (text s b)) b (Simply kind.Reference)
this_shows s known t b around shows = go (is_connection (text s b)) refl
  where
    go : (c : Bool) → is_connection (text s b) ≡ c → ThisIs s (In t) c (has_levels (text s b)) b (Simply kind.Reference)
    go true is = (around, reference_simply s (base s.tables b))
    go false is = subst (λ z. ThisIs s (In t) false z b (Simply kind.Reference)) (sym (known.level_kinds b (kind_of_levels s.tables b shows (known.connections b ∙ is)))) (around, refl)

pub detach_stands : (s : Source) → Tabled s → (from : Place) (token : ℕ) (n : List ℕ) → block_at s.tables token ≡ Some (text_of from) → binding s.tables token n ≡ Some (denotation.Standard (found.Procedure name.Detach))
    → ((block : ℕ) → found_in s.tables token n ≡ Some block → found_at s token ≡ Some block) → InText from (λ t. ThisFound s (In t) (found_at s token) (Simply kind.Reference))
detach_stands s known (InBound t) token n placed binds at = tt
detach_stands s known (In t) token n placed binds at =
    let k = found.Procedure name.Detach in
    let spelt = detach_spelt n (standard_is s.tables token n k binds) in
    let f = found_shows s.tables token n spelt t placed (undeclared s.tables token n k binds) (shown_around s.tables token n spelt k binds) in
    subst (λ o. ThisFound s (In t) o (Simply kind.Reference)) (sym (at f.0 f.1)) (this_shows s known t f.0 f.2 f.3)
