-- The block in which a class is declared that is found by its name is said to declare one: it lists the class, or its prefix brought it.
use Rattle.std.proofs.Common.{◌≡◌, ℕ, zero, suc, Bool, true, false, List, length, Option, Some, None, refl, sym, ap, ◌∙◌, subst}
use Rattle.std.specs.Prelude.{◌||◌, position, slice_get}
use Rattle.std.specs.Str.{bytes_eq}
use Rattle.std.specs.Option.{option_or}
use Rattle.sim_base.specs.declared.numbering.DeclNo.{DeclNo}
use Rattle.sim_agree.specs.Order.{InOrder}
use Rattle.sim_scope.specs.declared.scopes.Declaration.{Declaration}
use Rattle.sim_scope.specs.declared.scopes.Denotation.TheVariants as denotation
use Rattle.sim_scope.specs.declared.types.Entry.TheVariants as entry
use Rattle.sim_scope.specs.declared.types.StandardPrefix.{StandardPrefix}
use Rattle.sim_scope.specs.Access.{block_at}
use Rattle.sim_scope.specs.Levels.{base, holds_class, holds_class_in, is_standard, standard_in}
use Rattle.sim_scope.specs.Scopes.{beyond, binding, brought_by, brought_in, declaration_from, entry_is, entry_of, is_virtual, level_shows, lookup, numbered, outward, searched, seen, shown, shown_of}
use Rattle.sim_scope.specs.Source.{Source, block_of, block_of_row}
use Rattle.sim_scope.specs.Tables.{BlockOf, Tables}
use Rattle.sim_meaning.specs.Entries.{numbers_of}
use Rattle.sim_sound.specs.Held.{Among}
use Rattle.sim_agree.specs.TablesOf.{TablesOf}
use Rattle.sim_agree.proofs.Holding.{class_in_block}
use Rattle.sim_agree.proofs.Tables as t
use Rattle.sim_agree.proofs.Latest.{lookup_among}
use Rattle.sim_agree.proofs.Unprefixed.{brought_stands, declared_is, seen_there}

-- what is found is shown by some level
module _ (T : Tables) (from : Option ℕ) (name : List ℕ) (d : DeclNo) where
  abbrev pub Level : Type 0
  Level = (l : ℕ) × (level_shows T from l name ≡ Some d)

  pub shown_level : (n k : ℕ) → shown_of T n from k name ≡ Some d → Level
  unfolding shown_of
  shown_level zero k e = absurd (cc)
  shown_level (suc n) k e = go (level_shows T from k name) refl (base T k) (λ b f. shown_level n b f) e
    where
      go : (o : Option DeclNo) → level_shows T from k name ≡ o → (b : Option ℕ) → ((c : ℕ) → shown_of T n from c name ≡ Some d → Level) → option_or o (beyond (λ c. shown_of T n from c name) b) ≡ Some d → Level
      go (Some f) at b rest e = (k, at ∙ e)
      go None at None rest e = absurd (cc)
      go None at (Some b) rest e = rest b e

  searched_level : (n k : ℕ) → searched T from n k name ≡ Some d → Level
  unfolding searched shown
  searched_level zero k e = absurd (cc)
  searched_level (suc n) k e = go (shown T from k name) refl (outward T k name) (λ b f. searched_level n b f) e
    where
      go : (o : Option DeclNo) → shown T from k name ≡ o → (b : Option ℕ) → ((c : ℕ) → searched T from n c name ≡ Some d → Level) → option_or o (beyond (λ c. searched T from n c name) b) ≡ Some d → Level
      go (Some f) at b rest e = shown_level (length T.blocks) k (at ∙ e)
      go None at None rest e = absurd (cc)
      go None at (Some b) rest e = rest b e

  pub from_level : (o : Option ℕ) → declaration_from T from o name ≡ Some d → Level
  unfolding declaration_from
  from_level None e = absurd (cc)
  from_level (Some k) e = searched_level (length T.blocks) k e

pub brought_standard : (T : Tables) (k : ℕ) (name : List ℕ) (d : DeclNo) → brought_by T k name ≡ Some d → (which : StandardPrefix) × (standard_in (slice_get T.blocks k) ≡ Some which)
unfolding brought_by
brought_standard T k name d e = go (slice_get T.blocks k) e
  where
    of_row : (row : BlockOf) (p : Option StandardPrefix) → row.standard ≡ p → (elim p [ None ↦ None | Some which ↦ numbered row.brought (position (bytes_eq name) row.brought_names) ]) ≡ Some d → (which : StandardPrefix) × (row.standard ≡ Some which)
    of_row row None at f = absurd (cc)
    of_row row (Some which) at f = (which, at)

    go : (o : Option BlockOf) → brought_in o name ≡ Some d → (which : StandardPrefix) × (standard_in o ≡ Some which)
    go None f = absurd (cc)
    go (Some row) f = of_row row row.standard refl f

or_right : (a b : Bool) → b ≡ true → (a || b) ≡ true
or_right true b e = refl
or_right false b e = e

module _ (s : Source) (of : TablesOf s) (order : InOrder s.program) where
  standard_holds : (k : ℕ) (which : StandardPrefix) → standard_in (slice_get s.tables.blocks k) ≡ Some which → holds_class s.tables k ≡ true
  unfolding holds_class
  standard_holds k which e = go (slice_get s.tables.blocks k) e
    where
      go : (o : Option BlockOf) → standard_in o ≡ Some which → holds_class_in o ≡ true
      go None f = absurd (cc)
      go (Some row) f = or_right row.has_class (is_standard row.standard) (ap is_standard f)

  -- what a block lists is listed
  pub listed_there : (k : ℕ) (d : DeclNo) → Among d (numbers_of s k) → (row : Declaration) × (slice_get s.tables.declarations d.0 ≡ Some row) × (row.listed ≡ true)
  listed_there k d a =
      let q = (t.program_agrees s.program).fine.own k d (subst (λ ns. Among d ns) (t.same_numbers s of order k) a) in
      let n = (t.completed_tables s of order).rows.stays d.0 q.0 q.1 in (n.0, n.1, n.2.listed ∙ q.3)

  level_holds : (from : Option ℕ) (l : ℕ) (name : List ℕ) (d : DeclNo) (k : ℕ) → level_shows s.tables from l name ≡ Some d → entry_of s.tables d ≡ Some (entry.Class k) → holds_class s.tables (block_of s d) ≡ true
  unfolding level_shows block_of
  level_holds from l name d k e is = go (seen s.tables from (lookup s.tables l name)) refl e
    where
      listed : lookup s.tables l name ≡ Some d → holds_class s.tables (block_of s d) ≡ true
      listed at =
          let q = listed_there l d (lookup_among s.tables l name d at) in
          let r = t.entry_row s of order d (entry.Class k) is in
          let same : r.0 ≡ q.0 = some_same r.0 q.0 (sym r.1 ∙ q.1) in
          class_in_block s of order d k q.0 q.1 (sym (ap (λ (z : Declaration). z.entry) same) ∙ r.2) q.2
        where
          some_same : (a b : Declaration) → Some a ≡ Some b → a ≡ b
          some_same a b f = cc

      brought : brought_by s.tables l name ≡ Some d → holds_class s.tables (block_of s d) ≡ true
      brought at =
          let w = brought_standard s.tables l name d at in
          let r = (brought_stands s.tables (t.shows s of order) l name d at).0 in
          subst (λ z. holds_class s.tables z ≡ true) (sym (ap block_of_row r.1 ∙ r.2)) (standard_holds l w.0 w.1)

      go : (o : Option DeclNo) → seen s.tables from (lookup s.tables l name) ≡ o → option_or o (brought_by s.tables l name) ≡ Some d → holds_class s.tables (block_of s d) ≡ true
      go (Some f) at h = listed (seen_there s.tables (t.shows s of order) from (lookup s.tables l name) d (at ∙ h))
      go None at h = brought h

  pub found_class_held : (token : ℕ) (name : List ℕ) (d : DeclNo) (k : ℕ) → binding s.tables token name ≡ Some (denotation.Declared d) → entry_of s.tables d ≡ Some (entry.Class k) → holds_class s.tables (block_of s d) ≡ true
  found_class_held token name d k binds is =
      let l = from_level s.tables (Some token) name d (block_at s.tables token) (declared_is s.tables token name d (ap (entry_is is_virtual) is) binds) in
      level_holds (Some token) l.0 name d k l.1 is
