-- Names that are not found through a connection denote the same where no class is connected yet.
use Rattle.std.proofs.Common.{◌≡◌, ◌⊎◌, inl, inr, ℕ, zero, suc, Bool, true, false, List, length, Option, Some, None, refl, sym, ap, ◌∙◌, if◌then◌else◌}
use Rattle.std.specs.Prelude.{◌&&◌, ◌||◌, slice_get}
use Rattle.std.specs.Option.{option_or}
use Rattle.sim_base.specs.declared.numbering.DeclNo.{DeclNo}
use Rattle.sim_scope.specs.declared.scopes.Denotation.TheVariants as denotation
use Rattle.sim_scope.specs.declared.types.BlockKind.{BlockKind}
use Rattle.sim_scope.specs.declared.types.BlockKind.TheVariants as kind
use Rattle.sim_scope.specs.Access.{around, block_at, encloser, joined, is_connection, is_kind}
use Rattle.sim_scope.specs.Along.{first_along, from_next}
use Rattle.sim_scope.specs.Levels.{base, base_in, level_beyond, standard_in}
use Rattle.sim_scope.specs.Scopes.{beyond, binding, declaration_from, declared_or_standard, detach_in, ends_search, entry_is, entry_of, found_in, has_detach, if_found, is_connected, is_detach, is_shown, is_virtual, outward, represented, searched, shown, shown_of, shows_detach, standard_at, level_shows}
use Rattle.sim_scope.specs.Tables.{BlockOf, Tables}
use Rattle.sim_agree.proofs.Completing.{bare_row}
use Rattle.sim_agree.proofs.Unprefixed.{declared_is, or_none}
use Rattle.sim_agree.proofs.Accessible.{shows_same, standing}

bare_around : (o : Option BlockOf) → around (bare_row o) ≡ around o
bare_around None = refl
bare_around (Some row) = refl

some_row : (a b : BlockOf) → Some a ≡ Some b → a ≡ b
some_row a b e = cc

-- what shows `detach` without a class that is connected shows it
detach_stays : (a b : Option BlockOf) → bare_row b ≡ bare_row a → (base_in a ≡ None) ⊎ (base_in a ≡ base_in b) → detach_in b ≡ false → detach_in a ≡ false
detach_stays None b e none f = refl
detach_stays (Some x) None e none f = absurd (cc)
detach_stays (Some x) (Some y) e either f =
    let kinds : y.kind ≡ x.kind = ap (λ (z : BlockOf). z.kind) (some_row (record y { base = None; standard = None }) (record x { base = None; standard = None }) e) in
    by_base either (ap (λ z. has_detach z && is_connected z y.base) (sym kinds) ∙ f)
  where
    go : (k : BlockKind) → (has_detach k && is_connected k y.base) ≡ false → (has_detach k && is_connected k None) ≡ false
    go kind.Program h = refl
    go kind.SubBlock h = refl
    go kind.Procedure h = refl
    go kind.Class h = h
    go kind.Prefixed h = h
    go kind.Connection h = refl
    go (kind.StandardClass which) h = refl

    by_base : (x.base ≡ None) ⊎ (x.base ≡ y.base) → (has_detach x.kind && is_connected x.kind y.base) ≡ false → (has_detach x.kind && is_connected x.kind x.base) ≡ false
    by_base (inl none) h = ap (λ z. has_detach x.kind && is_connected x.kind z) none ∙ go x.kind h
    by_base (inr same) h = ap (λ z. has_detach x.kind && is_connected x.kind z) same ∙ h

no_first : (o p : Option DeclNo) → option_or o p ≡ None → o ≡ None
no_first None p e = refl
no_first (Some d) p e = absurd (cc)

-- the blocks are the same but for what is connected, and in the one tables nothing is connected; what is no connection has a level alike
module _ (T C : Tables) (blocks : (k : ℕ) → bare_row (slice_get C.blocks k) ≡ bare_row (slice_get T.blocks k)) (size : length C.blocks ≡ length T.blocks) (places : C.places ≡ T.places) (own : (k : ℕ) → is_kind is_connection C k ≡ false → base T k ≡ base C k)
    (none_yet : (k : ℕ) → is_kind is_connection C k ≡ true → base T k ≡ None) (next : (k c : ℕ) → base C k ≡ Some c → is_kind is_connection C c ≡ false) (stand : (d : ℕ) → standing (slice_get T.declarations d) ≡ standing (slice_get C.declarations d))
    (standards : (k : ℕ) → standard_in (slice_get T.blocks k) ≡ standard_in (slice_get C.blocks k)) where
  level_same : (from : Option ℕ) (k : ℕ) (name : List ℕ) → level_shows T from k name ≡ level_shows C from k name
  level_same from k name = shows_same T C (λ j. is_kind is_connection C j ≡ false) (λ j. sym (blocks j)) (sym size) (sym places) stand (λ j e. e) standards own (λ j c other e. next j c (sym (own j other) ∙ e)) from k name

  same_encloser : (k : ℕ) → encloser T k ≡ encloser C k
  unfolding encloser
  same_encloser k = sym (bare_around (slice_get T.blocks k)) ∙ ap around (sym (blocks k)) ∙ bare_around (slice_get C.blocks k)

  not_ended : (k : ℕ) (name : List ℕ) → ends_search C k name ≡ false → ends_search T k name ≡ false
  unfolding ends_search shows_detach base
  not_ended k name e = go (is_detach name) e
    where
      either : (c : Bool) → is_kind is_connection C k ≡ c → (base_in (slice_get T.blocks k) ≡ None) ⊎ (base_in (slice_get T.blocks k) ≡ base_in (slice_get C.blocks k))
      either true is = inl (none_yet k is)
      either false is = inr (own k is)

      go : (c : Bool) → (c && detach_in (slice_get C.blocks k)) ≡ false → (c && detach_in (slice_get T.blocks k)) ≡ false
      go false h = refl
      go true h = detach_stays (slice_get T.blocks k) (slice_get C.blocks k) (blocks k) (either (is_kind is_connection C k) refl) h

  -- what is no connection shows what it will show
  shown_same : (n : ℕ) (from : Option ℕ) (k : ℕ) (name : List ℕ) → is_kind is_connection C k ≡ false → shown_of T n from k name ≡ shown_of C n from k name
  unfolding shown_of
  shown_same zero from k name other = refl
  shown_same (suc n) from k name other =
      ap (λ z. option_or z (beyond (λ b. shown_of T n from b name) (base T k))) (level_same from k name)
      ∙ ap (option_or (level_shows C from k name)) (ap (beyond (λ b. shown_of T n from b name)) (own k other) ∙ go (base C k) (λ c e. shown_same n from c name (next k c e)))
    where
      go : (o : Option ℕ) → ((c : ℕ) → o ≡ Some c → shown_of T n from c name ≡ shown_of C n from c name) → beyond (λ b. shown_of T n from b name) o ≡ beyond (λ b. shown_of C n from b name) o
      go None h = refl
      go (Some c) h = h c refl

  -- a connection shows what its own level shows, if there is a block
  shows_own : (n : ℕ) (from : Option ℕ) (k : ℕ) (name : List ℕ) → is_kind is_connection C k ≡ true → shown_of T (suc n) from k name ≡ level_shows T from k name
  unfolding shown_of
  shows_own n from k name is = ap (λ z. option_or (level_shows T from k name) (beyond (λ b. shown_of T n from b name) z)) (none_yet k is) ∙ or_none (level_shows T from k name)

  shows_none : (n : ℕ) (from : Option ℕ) (k : ℕ) (name : List ℕ) → shown_of C (suc n) from k name ≡ None → level_shows C from k name ≡ None
  unfolding shown_of
  shows_none n from k name e = no_first (level_shows C from k name) (beyond (λ b. shown_of C n from b name) (base C k)) e

  module _ (more : ℕ) (some : length T.blocks ≡ suc more) where
    shown_first : (from : Option ℕ) (k : ℕ) (name : List ℕ) (d : DeclNo) → is_kind is_connection C k ≡ false → shown C from k name ≡ Some d → shown T from k name ≡ Some d
    unfolding shown
    shown_first from k name d other e = ap (λ n. shown_of T n from k name) (sym size) ∙ shown_same (length C.blocks) from k name other ∙ e

    shown_nothing : (from : Option ℕ) (k : ℕ) (name : List ℕ) → shown C from k name ≡ None → shown T from k name ≡ None
    unfolding shown
    shown_nothing from k name e = go (is_kind is_connection C k) refl
      where
        go : (c : Bool) → is_kind is_connection C k ≡ c → shown_of T (length T.blocks) from k name ≡ None
        go false is = ap (λ n. shown_of T n from k name) (sym size) ∙ shown_same (length C.blocks) from k name is ∙ e
        go true is =
            let none : level_shows C from k name ≡ None = shows_none more from k name (sym (ap (λ n. shown_of C n from k name) (size ∙ some)) ∙ e) in
            ap (λ n. shown_of T n from k name) some ∙ shows_own more from k name is ∙ level_same from k name ∙ none

    search : (token n k : ℕ) (name : List ℕ) (d : DeclNo) → ((u : ℕ) → first_along (encloser C) n (if_found C token name) k ≡ Some u → is_kind is_connection C u ≡ false) → searched C (Some token) n k name ≡ Some d → searched T (Some token) n k name ≡ Some d
    unfolding searched first_along if_found outward
    search token zero k name d alone e = absurd (cc)
    search token (suc n) k name d alone e = go (shown C (Some token) k name) refl (ends_search C k name) refl (encloser C k) refl alone e (λ u a f. search token n u name d a f)
      where
        go : (o : Option DeclNo) → shown C (Some token) k name ≡ o → (c : Bool) → ends_search C k name ≡ c → (b : Option ℕ) → encloser C k ≡ b
            → ((u : ℕ) → option_or (if is_shown o || c then Some k else None) (from_next (λ b. first_along (encloser C) n (if_found C token name) b) b) ≡ Some u → is_kind is_connection C u ≡ false)
            → option_or o (beyond (λ b. searched C (Some token) n b name) (if c then None else b)) ≡ Some d
            → ((u : ℕ) → ((x : ℕ) → first_along (encloser C) n (if_found C token name) u ≡ Some x → is_kind is_connection C x ≡ false) → searched C (Some token) n u name ≡ Some d → searched T (Some token) n u name ≡ Some d)
            → option_or (shown T (Some token) k name) (beyond (λ b. searched T (Some token) n b name) (if ends_search T k name then None else encloser T k)) ≡ Some d
        go (Some f) at c ends b out alone g rest =
            ap (λ z. option_or z (beyond (λ b. searched T (Some token) n b name) (if ends_search T k name then None else encloser T k))) (shown_first (Some token) k name f (alone k refl) at) ∙ g
        go None at true ends b out alone g rest = absurd (cc)
        go None at false ends None out alone g rest = absurd (cc)
        go None at false ends (Some u) out alone g rest =
            ap (λ z. option_or z (beyond (λ b. searched T (Some token) n b name) (if ends_search T k name then None else encloser T k))) (shown_nothing (Some token) k name at)
            ∙ ap (λ z. option_or None (beyond (λ b. searched T (Some token) n b name) (if z then None else encloser T k))) (not_ended k name ends)
            ∙ ap (λ z. option_or None (beyond (λ b. searched T (Some token) n b name) z)) (same_encloser k ∙ out) ∙ rest u alone g

    same_places : (token : ℕ) → block_at T token ≡ block_at C token
    unfolding block_at
    same_places token = ap (λ z. joined (slice_get z token)) (sym places)

    pub bound_alone : (token : ℕ) (name : List ℕ) (d : DeclNo) → entry_is is_virtual (entry_of C d) ≡ false → represented T d ≡ d → binding C token name ≡ Some (denotation.Declared d) → ((u : ℕ) → found_in C token name ≡ Some u → is_kind is_connection C u ≡ false) → binding T token name ≡ Some (denotation.Declared d)
    unfolding binding declaration_from found_in
    bound_alone token name d plain itself e alone =
        ap (λ o. declared_or_standard T o (standard_at T token name)) (go (block_at C token) refl (declared_is C token name d plain e) alone) ∙ ap (λ z. Some (denotation.Declared z)) itself
      where
        go : (o : Option ℕ) → block_at C token ≡ o → declaration_from C (Some token) o name ≡ Some d → ((u : ℕ) → level_beyond (first_along (encloser C) (length C.blocks) (if_found C token name)) o ≡ Some u → is_kind is_connection C u ≡ false)
            → declaration_from T (Some token) (block_at T token) name ≡ Some d
        go None at f alone = absurd (cc)
        go (Some k) at f alone =
            ap (λ o. declaration_from T (Some token) o name) (same_places token ∙ at)
            ∙ ap (λ n. searched T (Some token) n k name) (sym size) ∙ search token (length C.blocks) k name d alone f
