-- Whether a declaration is accessible at a token does not depend on what connections connect: a connection gives no access, and is no level of a class.
use Rattle.std.proofs.Common.{◌≡◌, ℕ, zero, suc, Bool, true, false, List, length, Option, Some, None, refl, sym, ap, ◌∙◌, if◌then◌else◌}
use Rattle.std.specs.Option.{option_or}
use Rattle.std.specs.Prelude.{◌&&◌, ◌||◌, nat_eq, not, position, slice_get}
use Rattle.std.specs.Str.{bytes_eq}
use Rattle.sim_base.specs.declared.numbering.DeclNo.{DeclNo}
use Rattle.sim_scope.specs.declared.scopes.Declaration.{Declaration}
use Rattle.sim_scope.specs.declared.types.BlockKind.{BlockKind}
use Rattle.sim_scope.specs.declared.types.BlockKind.TheVariants as kind
use Rattle.sim_scope.specs.declared.types.StandardPrefix.{StandardPrefix}
use Rattle.sim_scope.specs.Access.{accessible, accessible_row, around, block_at, encloser, has_text_of_levels, hides, hides_in, holds_at, is_connection, is_kind, is_level, is_open, is_so, joined, kind_in, names_hidden, no_block, opens, protector, protector_of, protects, protects_in, some_around, some_around_of}
use Rattle.sim_scope.specs.Levels.{base, holds, level_beyond, some_level, some_level_of, standard_in}
use Rattle.sim_scope.specs.Scopes.{brought_by, brought_in, declared_in, level_shows, lookup, numbered, seen, seen_from}
use Rattle.sim_scope.specs.Tables.{BlockOf, Tables}
use Rattle.sim_agree.proofs.Completing.{Retyped, Rows, bare_row}

-- where a declaration stands, and its identifier
pub record Standing : Type 0 where
  pub block : ℕ
  pub name : List ℕ

abbrev pub standing : Option Declaration → Option Standing
standing None = None
standing (Some row) = Some (record { block = row.block; name = row.name })

some_standing : (a b : Standing) → Some a ≡ Some b → a ≡ b
some_standing a b e = cc

-- the classes of references change none of these
pub rows_stand : (ds es : List Declaration) → Rows ds es → (d : ℕ) → standing (slice_get es d) ≡ standing (slice_get ds d)
rows_stand ds es r d = go (slice_get ds d) refl (slice_get es d) refl
  where
    stands : (old new : Declaration) → Retyped old new → standing (Some new) ≡ standing (Some old)
    stands old new q =
        ap (λ z. let w : Standing = record { block = z; name = new.name } in Some w) q.block ∙ ap (λ z. let w : Standing = record { block = old.block; name = z } in Some w) q.name

    go : (o : Option Declaration) → slice_get ds d ≡ o → (n : Option Declaration) → slice_get es d ≡ n → standing n ≡ standing o
    go None at None there_ = refl
    go None at (Some new) there_ = absurd (let q = r.was d new there_ in let f : None ≡ Some q.0 = sym at ∙ q.1 in cc)
    go (Some old) at n there_ = let q = r.stays d old at in ap standing (sym there_ ∙ q.1) ∙ stands old q.0 q.2

kind_bare : (o : Option BlockOf) → kind_in (bare_row o) ≡ kind_in o
kind_bare None = refl
kind_bare (Some row) = refl

around_bare : (o : Option BlockOf) → around (bare_row o) ≡ around o
around_bare None = refl
around_bare (Some row) = refl

found_bare : (name : List ℕ) (o : Option BlockOf) → declared_in (bare_row o) name ≡ declared_in o name
found_bare name None = refl
found_bare name (Some row) = refl

protects_bare : (name : List ℕ) (o : Option BlockOf) → protects_in (bare_row o) name ≡ protects_in o name
protects_bare name None = refl
protects_bare name (Some row) = refl

hides_bare : (name : List ℕ) (o : Option BlockOf) → hides_in (bare_row o) name ≡ hides_in o name
hides_bare name None = refl
hides_bare name (Some row) = refl

-- what has levels of its own is no connection
text_no_connection : (k : BlockKind) → has_text_of_levels k ≡ true → is_connection k ≡ false
text_no_connection kind.Program e = refl
text_no_connection kind.SubBlock e = refl
text_no_connection kind.Procedure e = refl
text_no_connection kind.Class e = refl
text_no_connection kind.Prefixed e = refl
text_no_connection kind.Connection e = absurd (cc)
text_no_connection (kind.StandardClass which) e = refl

kind_no_connection : (o : Option BlockOf) → is_so has_text_of_levels (kind_in o) ≡ true → is_so is_connection (kind_in o) ≡ false
kind_no_connection None e = refl
kind_no_connection (Some row) e = text_no_connection row.kind e

-- Tables with the same blocks but for what is connected, and with the same declarations but for the classes of references. What is no connection
-- has the same levels in both.
module _ (T C : Tables) (Solid : ℕ → Type 0) (rows : (k : ℕ) → bare_row (slice_get T.blocks k) ≡ bare_row (slice_get C.blocks k)) (size : length T.blocks ≡ length C.blocks) (places : T.places ≡ C.places)
    (stand : (d : ℕ) → standing (slice_get T.declarations d) ≡ standing (slice_get C.declarations d)) (solid : (k : ℕ) → is_kind is_connection C k ≡ false → Solid k)
    (standards : (k : ℕ) → standard_in (slice_get T.blocks k) ≡ standard_in (slice_get C.blocks k)) (own : (k : ℕ) → Solid k → base T k ≡ base C k) (next : (k j : ℕ) → Solid k → base T k ≡ Some j → Solid j) where
  same_kinds : (test : BlockKind → Bool) (k : ℕ) → is_kind test T k ≡ is_kind test C k
  unfolding is_kind
  same_kinds test k = ap (is_so test) (sym (kind_bare (slice_get T.blocks k)) ∙ ap kind_in (rows k) ∙ kind_bare (slice_get C.blocks k))

  same_around : (k : ℕ) → encloser T k ≡ encloser C k
  unfolding encloser
  same_around k = sym (around_bare (slice_get T.blocks k)) ∙ ap around (rows k) ∙ around_bare (slice_get C.blocks k)

  same_lookup : (k : ℕ) (name : List ℕ) → lookup T k name ≡ lookup C k name
  unfolding lookup
  same_lookup k name = sym (found_bare name (slice_get T.blocks k)) ∙ ap (λ o. declared_in o name) (rows k) ∙ found_bare name (slice_get C.blocks k)

  same_protects : (k : ℕ) (name : List ℕ) → protects T k name ≡ protects C k name
  unfolding protects
  same_protects k name = sym (protects_bare name (slice_get T.blocks k)) ∙ ap (λ o. protects_in o name) (rows k) ∙ protects_bare name (slice_get C.blocks k)

  same_hidden : (k : ℕ) (name : List ℕ) → names_hidden T k name ≡ names_hidden C k name
  unfolding names_hidden
  same_hidden k name = sym (hides_bare name (slice_get T.blocks k)) ∙ ap (λ o. hides_in o name) (rows k) ∙ hides_bare name (slice_get C.blocks k)

  same_protector : (n k : ℕ) (name : List ℕ) → Solid k → protector_of T n k name ≡ protector_of C n k name
  unfolding protector_of
  same_protector zero k name p = refl
  same_protector (suc n) k name p =
      ap (λ z. if z then Some k else level_beyond (λ b. protector_of T n b name) (base T k)) (same_protects k name)
      ∙ ap (λ z. if protects C k name then Some k else z) (go (base T k) refl (λ j q. same_protector n j name q) ∙ ap (λ z. level_beyond (λ b. protector_of C n b name) z) (own k p))
    where
      go : (o : Option ℕ) → base T k ≡ o → ((j : ℕ) → Solid j → protector_of T n j name ≡ protector_of C n j name) → level_beyond (λ b. protector_of T n b name) o ≡ level_beyond (λ b. protector_of C n b name) o
      go None at rest = refl
      go (Some j) at rest = rest j (next k j p at)

  same_hides : (level : ℕ) (name : List ℕ) (k : ℕ) → Solid k → hides T level name k ≡ hides C level name k
  unfolding hides protector
  same_hides level name k p =
      ap (λ z. z && is_level (protector_of T (length T.blocks) k name) level) (same_hidden k name)
      ∙ ap (λ z. names_hidden C k name && is_level z level) (ap (λ n. protector_of T n k name) size ∙ same_protector (length C.blocks) k name p)

  same_levels : (n : ℕ) (p q : ℕ → Bool) → ((k : ℕ) → Solid k → p k ≡ q k) → (k : ℕ) → Solid k → some_level_of T n p k ≡ some_level_of C n q k
  unfolding some_level_of
  same_levels zero p q h k e = refl
  same_levels (suc n) p q h k e =
      ap (λ z. z || holds (λ b. some_level_of T n p b) (base T k)) (h k e)
      ∙ ap (λ z. q k || z) (go (base T k) refl (λ j f. same_levels n p q h j f) ∙ ap (λ z. holds (λ b. some_level_of C n q b) z) (own k e))
    where
      go : (o : Option ℕ) → base T k ≡ o → ((j : ℕ) → Solid j → some_level_of T n p j ≡ some_level_of C n q j) → holds (λ b. some_level_of T n p b) o ≡ holds (λ b. some_level_of C n q b) o
      go None at rest = refl
      go (Some j) at rest = rest j (next k j e at)

  same_opens : (level : ℕ) (name : List ℕ) (k : ℕ) → Solid k → opens T level name k ≡ opens C level name k
  unfolding opens
  same_opens level name k p =
      ap (λ z. z && no_block (λ b. some_level T (hides T level name) b) (base T k)) (ap (λ n. some_level_of T n (λ b. nat_eq b level) k) size ∙ same_levels (length C.blocks) (λ b. nat_eq b level) (λ b. nat_eq b level) (λ i f. refl) k p)
      ∙ ap (λ z. some_level C (λ b. nat_eq b level) k && z) (go (base T k) refl ∙ ap (λ z. no_block (λ b. some_level C (hides C level name) b) z) (own k p))
    where
      go : (o : Option ℕ) → base T k ≡ o → no_block (λ b. some_level T (hides T level name) b) o ≡ no_block (λ b. some_level C (hides C level name) b) o
      go None at = refl
      go (Some j) at = ap not (ap (λ n. some_level_of T n (hides T level name) j) size ∙ same_levels (length C.blocks) (hides T level name) (hides C level name) (same_hides level name) j (next k j p at))

  abbrev gives : Tables → ℕ → List ℕ → ℕ → Bool
  gives s level name b = is_kind has_text_of_levels s b && opens s level name b

  same_gives : (level : ℕ) (name : List ℕ) (k : ℕ) → gives T level name k ≡ gives C level name k
  unfolding is_kind
  same_gives level name k = ap (λ z. z && opens T level name k) (same_kinds has_text_of_levels k) ∙ go (is_so has_text_of_levels (kind_in (slice_get C.blocks k))) refl
    where
      go : (c : Bool) → is_so has_text_of_levels (kind_in (slice_get C.blocks k)) ≡ c → (c && opens T level name k) ≡ (c && opens C level name k)
      go false is = refl
      go true is = same_opens level name k (solid k (kind_no_connection (slice_get C.blocks k) is))

  same_blocks : (level : ℕ) (name : List ℕ) (n k : ℕ) → some_around_of T n (gives T level name) k ≡ some_around_of C n (gives C level name) k
  unfolding some_around_of
  same_blocks level name zero k = refl
  same_blocks level name (suc n) k =
      ap (λ z. z || holds_at (λ b. some_around_of T n (gives T level name) b) (encloser T k)) (same_gives level name k)
      ∙ ap (λ z. gives C level name k || z) (ap (λ z. holds_at (λ b. some_around_of T n (gives T level name) b) z) (same_around k) ∙ go (encloser C k) (λ j. same_blocks level name n j))
    where
      go : (o : Option ℕ) → ((j : ℕ) → some_around_of T n (gives T level name) j ≡ some_around_of C n (gives C level name) j) → holds_at (λ b. some_around_of T n (gives T level name) b) o ≡ holds_at (λ b. some_around_of C n (gives C level name) b) o
      go None rest = refl
      go (Some j) rest = rest j

  same_open : (level : ℕ) (name : List ℕ) (token : ℕ) → is_open T level name token ≡ is_open C level name token
  unfolding is_open some_around block_at
  same_open level name token = ap (λ (ps : List (Option ℕ)). holds_at (λ b. some_around_of T (length T.blocks) (gives T level name) b) (joined (slice_get ps token))) places ∙ go (joined (slice_get C.places token))
    where
      go : (o : Option ℕ) → holds_at (λ b. some_around_of T (length T.blocks) (gives T level name) b) o ≡ holds_at (λ b. some_around_of C (length C.blocks) (gives C level name) b) o
      go None = refl
      go (Some k) = ap (λ n. some_around_of T n (gives T level name) k) size ∙ same_blocks level name (length C.blocks) k

  pub accessible_same : (token : ℕ) (d : DeclNo) → accessible T token d ≡ accessible C token d
  unfolding accessible
  accessible_same token d = go (slice_get T.declarations d.0) (slice_get C.declarations d.0) (stand d.0)
    where
      go : (o n : Option Declaration) → standing o ≡ standing n → accessible_row T token o ≡ accessible_row C token n
      go None None e = refl
      go None (Some new) e = absurd (cc)
      go (Some old) None e = absurd (cc)
      go (Some old) (Some new) e =
          let q = some_standing (record { block = old.block; name = old.name }) (record { block = new.block; name = new.name }) e in
          ap (λ (z : Standing). not (protects T z.block z.name) || is_open T z.block z.name token) q
          ∙ ap (λ z. not z || is_open T new.block new.name token) (same_protects new.block new.name) ∙ ap (λ z. not (protects C new.block new.name) || z) (same_open new.block new.name token)

  seen_same : (from : Option ℕ) (o : Option DeclNo) → seen T from o ≡ seen C from o
  seen_same from None = refl
  seen_same from (Some d) = ap (λ z. if z then Some d else None) (go from)
    where
      go : (from : Option ℕ) → seen_from T from d ≡ seen_from C from d
      go None = refl
      go (Some token) = accessible_same token d

  -- what a standard prefix brings
  same_brought : (k : ℕ) (name : List ℕ) → brought_by T k name ≡ brought_by C k name
  unfolding brought_by
  same_brought k name = go (slice_get T.blocks k) (slice_get C.blocks k) (rows k) (standards k)
    where
      numbers : BlockOf → Option StandardPrefix → Option DeclNo
      numbers row p = elim p [ None ↦ None | Some which ↦ numbered row.brought (position (bytes_eq name) row.brought_names) ]

      some_row : (a b : BlockOf) → Some a ≡ Some b → a ≡ b
      some_row a b e = cc

      go : (a c : Option BlockOf) → bare_row a ≡ bare_row c → standard_in a ≡ standard_in c → brought_in a name ≡ brought_in c name
      go None None e f = refl
      go None (Some y) e f = absurd (cc)
      go (Some x) None e f = absurd (cc)
      go (Some x) (Some y) e f =
          let same : record x { base = None; standard = None } ≡ record y { base = None; standard = None } = some_row (record x { base = None; standard = None }) (record y { base = None; standard = None }) e in
          ap (numbers x) f ∙ ap (λ (z : BlockOf). numbers z y.standard) same

  -- a level shows the same in both
  pub shows_same : (from : Option ℕ) (k : ℕ) (name : List ℕ) → level_shows T from k name ≡ level_shows C from k name
  unfolding level_shows
  shows_same from k name =
      ap (λ o. option_or (seen T from o) (brought_by T k name)) (same_lookup k name) ∙ ap (λ o. option_or o (brought_by T k name)) (seen_same from (lookup C k name)) ∙ ap (λ o. option_or (seen C from (lookup C k name)) o) (same_brought k name)
