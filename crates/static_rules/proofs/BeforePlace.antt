-- What is known in front of a place is what the tables of that text say.
use Rattle.std.proofs.Common.{◌≡◌, ◌+◌, ℕ, Bool, true, false, not, if◌then◌else◌, List, [], ◌∷◌, ◌++◌, length, Option, Some, None, refl, sym, ap, ◌∙◌, subst, arith, nat_lt}
use Rattle.std.specs.Prelude.{◌&&◌, ◌||◌, slice_get, slice_set}
use Rattle.std.specs.Str.{bytes_eq}
use Rattle.sim_base.specs.declared.numbering.DeclNo.{DeclNo}
use Rattle.sim_base.specs.declared.numbering.TokenNo.{TokenNo}
use Rattle.sim_base.specs.declared.rule.Rule.TheVariants as r
use Rattle.sim_tree.specs.declared.expr.Identifier.{Identifier}
use Rattle.sim_scope.specs.Building.{Breaks, Brings, BuildingOf, Closes, Declares, DeclaresClass, DeclaresProcedure, Headed, Inner, Mark, Moded, Opens, Parameter, Prefixes, Protects, Provides, Qualifies, Specified, block_around, brings, broken, changed, closed, closed_at, counted_in, declared, declared_inside, default_mode, entered, formal, found_in, guards, headed, holding_class, in_class, inner, inner_at, inner_in, is_by_name, is_class, is_class_block, is_procedure, level_in, marked, mode_allowed, moded, moded_as, most_levels, opened, prefixed_by, provides, specified, specified_as, token_in, unspecified_at, unspecified_in, with_entry, with_mode}
use Rattle.sim_scope.specs.Declare.{empty}
use Rattle.sim_scope.specs.Runs.{run}
use Rattle.sim_scope.specs.Scopes.{entry_in, entry_of}
use Rattle.sim_scope.specs.Tables.{BlockOf, Tables, deeper}
use Rattle.sim_scope.specs.declared.scopes.Declaration.{Declaration}
use Rattle.sim_scope.specs.declared.types.BlockKind.{BlockKind}
use Rattle.sim_scope.specs.declared.types.Entry.{Entry}
use Rattle.sim_scope.specs.declared.types.Entry.TheVariants as entry
use Rattle.sim_scope.specs.declared.types.FormalKind.{FormalKind}
use Rattle.sim_scope.specs.declared.types.Mode.{Mode}
use Rattle.sim_scope.specs.declared.types.SimType.{SimType}
use Rattle.sim_scope.specs.declared.types.WrittenMode.{WrittenMode}
use Rattle.sim_scope.proofs.Kept.{more_here, set_here}
use Rattle.static_rules.specs.Reading.{Absent, Known, OpenBlock, Reading, Standing, Unmatched, Unspecified, a_class, a_parameter, a_procedure, after_mode, after_specification, blocks_after, declared_by, has_inner, if_its_own, level_inside, nothing_read, read, standing, stands_as, unspecified, with_mark}
use Rattle.static_rules.proofs.Chains.{Below, Chain, core, core_in, cores, inside, is_some, keep, number_of, outermost, sort_in, sorts, standing_of}
use Rattle.static_rules.proofs.Lists.{within}
use Rattle.static_rules.proofs.InFront.{Agrees, Innermost, View, agrees_if, core_append, core_other, found_at, in_block, inner_more, keep_all, no_block, or_false, or_true, replaced_entry, same_name, standing_more, updated, view}
use Rattle.static_rules.proofs.AfterMark.{at_current, brings_agrees, changed_agrees, counted_agrees, declared_agrees, entered_agrees, guards_agrees, provides_agrees, qualified_agrees, row_of_sort, unchanged, unspecified_is}

-- ---- modes and specifications

mode_stays : (c : Bool) (token : TokenNo) (m : Mode) (st : Standing) → unspecified st ≡ None → after_mode c token m st ≡ st
mode_stays c token m Absent is = refl
mode_stays c token m (Unspecified own written) is = absurd (cc)
mode_stays c token m Unmatched is = refl
mode_stays c token m Known is = refl

written_stays : (c : Bool) (token : TokenNo) (m : Mode) (st : Standing) (w : WrittenMode) → unspecified st ≡ Some (Some w) → after_mode c token m st ≡ st
written_stays c token m Absent w is = refl
written_stays c token m (Unspecified own None) w is = absurd (cc)
written_stays c token m (Unspecified own (Some u)) w is = refl
written_stays c token m Unmatched w is = refl
written_stays c token m Known w is = refl

specified_stays : (st : Standing) → unspecified st ≡ None → after_specification st ≡ st
specified_stays Absent is = refl
specified_stays (Unspecified own written) is = absurd (cc)
specified_stays Unmatched is = refl
specified_stays Known is = refl

barred_stays : (c : Bool) (token : TokenNo) (m : Mode) (st : Standing) → unspecified st ≡ Some None → (is_by_name m && c) ≡ true → after_mode c token m st ≡ st
barred_stays c token m Absent is both = refl
barred_stays c token m (Unspecified own None) is both = ap (λ z. if z then Unspecified own None else Unspecified own (Some (record { token = token; mode = m }))) both
barred_stays c token m (Unspecified own (Some u)) is both = absurd (cc)
barred_stays c token m Unmatched is both = refl
barred_stays c token m Known is both = refl

-- an identifier of the block that changes only where it is named
only_there : (x : Identifier) (change : Standing → Standing) (st : List ℕ → Standing) → change (st x.name) ≡ st x.name → (name : List ℕ) → if_its_own name x change (st name) ≡ st name
only_there x change st stays name = go (bytes_eq name x.name) refl
  where
    go : (f : Bool) → bytes_eq name x.name ≡ f → (if f then change (st name) else st name) ≡ st name
    go true is = let same : name ≡ x.name = same_name name x.name is in subst (λ z. change (st z) ≡ st z) (sym same) stays
    go false is = refl

pub entry_standing : (f : Entry) (token : ℕ) (written : Option WrittenMode) → unspecified_in (Some f) ≡ Some written → stands_as token f ≡ Unspecified token written
entry_standing (entry.Variable ty) token written is = absurd (cc)
entry_standing (entry.Constant ty) token written is = absurd (cc)
entry_standing (entry.Array element dimensions) token written is = absurd (cc)
entry_standing (entry.Procedure result block) token written is = absurd (cc)
entry_standing (entry.Class block) token written is = absurd (cc)
entry_standing (entry.Virtual result own) token written is = absurd (cc)
entry_standing (entry.Formal f) token written is = absurd (cc)
entry_standing (entry.Unspecified w) token written is = let same : w ≡ written = cc in ap (Unspecified token) same
entry_standing (entry.Attribute name ty result) token written is = absurd (cc)

module _ {b : BuildingOf} {o : OpenBlock} {os : List OpenBlock} (v : Innermost b o os) where
  pub class_is : in_class b ≡ is_class o.kind
  class_is = ap (λ z. is_class_block (block_around b.tables z)) v.current ∙ ap is_class_block v.at ∙ ap is_class v.is.kind

  -- what stands there
  pub absent_at : (x : Identifier) → number_of v.row.names v.row.numbers x.name ≡ None → standing o x.name ≡ Absent
  absent_at x none = sym (v.is.stands x.name) ∙ ap (standing_of (sorts b.tables)) none

  pub present_at : (x : Identifier) (d : DeclNo) (row : Declaration) → number_of v.row.names v.row.numbers x.name ≡ Some d → slice_get b.tables.declarations d.0 ≡ Some row → standing o x.name ≡ stands_as row.token.0 row.entry
  present_at x d row has at = sym (v.is.stands x.name) ∙ ap (standing_of (sorts b.tables)) has ∙ ap (λ z. elim z as (λ _. Standing) [ None ↦ Absent | Some y ↦ y.standing ]) (ap sort_in at)

  pub entry_at : (d : DeclNo) (row : Declaration) → slice_get b.tables.declarations d.0 ≡ Some row → entry_of b.tables d ≡ Some row.entry
  unfolding entry_of
  entry_at d row at = ap entry_in at

  pub unspecified_there : (x : Identifier) → unspecified_at b.tables (found_in b.tables b.current x.name) ≡ unspecified (standing o x.name)
  unspecified_there x = ap (unspecified_at b.tables) (found_at v x.name) ∙ go (number_of v.row.names v.row.numbers x.name) refl
    where
      go : (q : Option DeclNo) → number_of v.row.names v.row.numbers x.name ≡ q → unspecified_at b.tables q ≡ unspecified (standing o x.name)
      go None q = ap unspecified (sym (absent_at x q))
      go (Some d) q =
          let w = v.is.owned x.name d q in
          let row = row_of_sort (slice_get b.tables.declarations d.0) w.x w.there in
          ap unspecified_in (entry_at d row.0 row.1) ∙ unspecified_is row.0.token.0 row.0.entry ∙ ap unspecified (sym (present_at x d row.0 q row.1))

module _ {b : BuildingOf} {o : OpenBlock} {os : List OpenBlock} {n : ℕ} (v : Innermost b o os) (counts : b.own ≡ n) where
  no_inner_more : (has_inner o.own || false) ≡ has_inner o.own
  no_inner_more = or_false (has_inner o.own)

  -- a mode
  module _ (x : Identifier) (m : Mode) where
    stays : after_mode (is_class o.kind) x.token m (standing o x.name) ≡ standing o x.name → Agrees b (with_mark o (Moded x m) ∷ os) n
    stays same = unchanged v counts (Moded x m) (only_there x (after_mode (is_class o.kind) x.token m) (standing o) same) no_inner_more

    moded_entry : (d : DeclNo) (row : Declaration) → number_of v.row.names v.row.numbers x.name ≡ Some d → slice_get b.tables.declarations d.0 ≡ Some row → (q : Option (Option WrittenMode)) → unspecified_in (entry_of b.tables d) ≡ q
        → Agrees (moded_as b x.token m d q) (with_mark o (Moded x m) ∷ os) n
    moded_entry d row has at None is =
        let a = stays (mode_stays (is_class o.kind) x.token m (standing o x.name) (ap unspecified (present_at v x d row has at) ∙ sym (unspecified_is row.token.0 row.entry) ∙ sym (ap unspecified_in (entry_at v d row at)) ∙ is)) in
        record { chain = a.chain; count = a.count }
    moded_entry d row has at (Some (Some w)) is =
        let a = stays (written_stays (is_class o.kind) x.token m (standing o x.name) w (ap unspecified (present_at v x d row has at) ∙ sym (unspecified_is row.token.0 row.entry) ∙ sym (ap unspecified_in (entry_at v d row at)) ∙ is)) in
        record { chain = a.chain; count = a.count }
    moded_entry d row has at (Some None) is = go (is_by_name m && in_class b) refl
      where
        none : unspecified (standing o x.name) ≡ Some None
        none = ap unspecified (present_at v x d row has at) ∙ sym (unspecified_is row.token.0 row.entry) ∙ sym (ap unspecified_in (entry_at v d row at)) ∙ is

        new : Entry
        new = entry.Unspecified (Some (record { token = x.token; mode = m }))

        go : (c : Bool) → (is_by_name m && in_class b) ≡ c → Agrees (if c then broken b x.token.0 r.ModeNotAllowed else with_entry b d (entry.Unspecified (Some (record { token = x.token; mode = m })))) (with_mark o (Moded x m) ∷ os) n
        go true both = let a = stays (barred_stays (is_class o.kind) x.token m (standing o x.name) none (ap (λ z. is_by_name m && z) (sym (class_is v)) ∙ both)) in record { chain = a.chain; count = a.count }
        go false both =
            let own : stands_as row.token.0 row.entry ≡ Unspecified row.token.0 None = entry_standing row.entry row.token.0 None (sym (ap unspecified_in (entry_at v d row at)) ∙ is) in
            let to : after_mode (is_class o.kind) x.token m (standing o x.name) ≡ Unspecified row.token.0 (Some (record { token = x.token; mode = m })) =
            ap (after_mode (is_class o.kind) x.token m) (present_at v x d row has at ∙ own)
            ∙ ap (λ z. if z then Unspecified row.token.0 None else Unspecified row.token.0 (Some (record { token = x.token; mode = m }))) (ap (λ z. is_by_name m && z) (sym (class_is v)) ∙ both) in
            entered_agrees v counts d row (entry.Unspecified (Some (record { token = x.token; mode = m }))) (with_mark o (Moded x m) ∷ os) at
            (replaced_entry v x d row (entry.Unspecified (Some (record { token = x.token; mode = m }))) (Moded x m) (after_mode (is_class o.kind) x.token m) has at (λ name st. refl) to refl)

    moded_agrees : Agrees (moded b x.token m (found_in b.tables b.current x.name)) (with_mark o (Moded x m) ∷ os) n
    moded_agrees = subst (λ z. Agrees (moded b x.token m z) (with_mark o (Moded x m) ∷ os) n) (sym (found_at v x.name)) (go (number_of v.row.names v.row.numbers x.name) refl)
      where
        go : (q : Option DeclNo) → number_of v.row.names v.row.numbers x.name ≡ q → Agrees (moded b x.token m q) (with_mark o (Moded x m) ∷ os) n
        go None q = let a = stays (mode_stays (is_class o.kind) x.token m (standing o x.name) (ap unspecified (absent_at v x q))) in record { chain = a.chain; count = a.count }
        go (Some d) q =
            let w = v.is.owned x.name d q in
            let row = row_of_sort (slice_get b.tables.declarations d.0) w.x w.there in moded_entry d row.0 q row.1 (unspecified_in (entry_of b.tables d)) refl

  -- a specification
  module _ (x : Identifier) (k : FormalKind) (ty : Option SimType) where
    remains : after_specification (standing o x.name) ≡ standing o x.name → Agrees b (with_mark o (Specified x k ty) ∷ os) n
    remains same = unchanged v counts (Specified x k ty) (only_there x after_specification (standing o) same) no_inner_more

    specified_entry : (d : DeclNo) (row : Declaration) (f : Entry) → number_of v.row.names v.row.numbers x.name ≡ Some d → slice_get b.tables.declarations d.0 ≡ Some row → (written : Option WrittenMode) → unspecified_in (entry_of b.tables d) ≡ Some written → stands_as row.token.0 f ≡ Known
        → Agrees (with_entry b d f) (with_mark o (Specified x k ty) ∷ os) n
    specified_entry d row f has at written is known =
        let own : stands_as row.token.0 row.entry ≡ Unspecified row.token.0 written = entry_standing row.entry row.token.0 written (sym (ap unspecified_in (entry_at v d row at)) ∙ is) in
        let to : after_specification (standing o x.name) ≡ stands_as row.token.0 f = ap after_specification (present_at v x d row has at ∙ own) ∙ sym known in
        entered_agrees v counts d row f (with_mark o (Specified x k ty) ∷ os) at (replaced_entry v x d row f (Specified x k ty) after_specification has at (λ name st. refl) to refl)

    latest_agrees : (d : Option DeclNo) (c : BuildingOf) → c.tables ≡ b.tables → Agrees b (with_mark o (Specified x k ty) ∷ os) n → Agrees (record b { latest = d }) (with_mark o (Specified x k ty) ∷ os) n
    latest_agrees d c same a = record { chain = a.chain; count = a.count }

    -- the same where the latest declaration is noted
    noted_entry : (d e : DeclNo) (f : Entry) → Agrees (with_entry b d f) (with_mark o (Specified x k ty) ∷ os) n → Agrees (with_entry (record b { latest = Some e }) d f) (with_mark o (Specified x k ty) ∷ os) n
    noted_entry d e f a = go (slice_get b.tables.declarations d.0) a
      where
        go : (z : Option Declaration) → Agrees (entered b d f z) (with_mark o (Specified x k ty) ∷ os) n → Agrees (entered (record b { latest = Some e }) d f z) (with_mark o (Specified x k ty) ∷ os) n
        go None a = record { chain = a.chain; count = a.count }
        go (Some row) a = record { chain = a.chain; count = a.count }

    with_mode_agrees : (d : DeclNo) (row : Declaration) → number_of v.row.names v.row.numbers x.name ≡ Some d → slice_get b.tables.declarations d.0 ≡ Some row → (written : Option WrittenMode) → unspecified_in (entry_of b.tables d) ≡ Some written
        → Agrees (with_mode (record b { latest = Some d }) d k ty written) (with_mark o (Specified x k ty) ∷ os) n
    with_mode_agrees d row has at None is = noted_entry d d (formal (default_mode k ty) k ty) (specified_entry d row (formal (default_mode k ty) k ty) has at None is refl)
    with_mode_agrees d row has at (Some w) is =
        agrees_if (not (mode_allowed w.mode k ty)) (with_entry (record b { latest = Some d }) d (formal w.mode k ty)) w.token.0 r.ModeNotAllowed (with_mark o (Specified x k ty) ∷ os) n
        (noted_entry d d (formal w.mode k ty) (specified_entry d row (formal w.mode k ty) has at (Some w) is refl))

    specified_row : (d : DeclNo) (row : Declaration) → number_of v.row.names v.row.numbers x.name ≡ Some d → slice_get b.tables.declarations d.0 ≡ Some row → (q : Option (Option WrittenMode)) → unspecified_in (entry_of b.tables d) ≡ q
        → Agrees (specified_as (record b { latest = Some d }) x.token k ty d q) (with_mark o (Specified x k ty) ∷ os) n
    specified_row d row has at None is =
        let a = remains (specified_stays (standing o x.name) (ap unspecified (present_at v x d row has at) ∙ sym (unspecified_is row.token.0 row.entry) ∙ sym (ap unspecified_in (entry_at v d row at)) ∙ is)) in
        record { chain = a.chain; count = a.count }
    specified_row d row has at (Some written) is =
        agrees_if (is_procedure k && in_class (record b { latest = Some d })) (with_mode (record b { latest = Some d }) d k ty written) (token_in (slice_get b.tables.declarations d.0)) r.ModeNotAllowed (with_mark o (Specified x k ty) ∷ os) n
        (with_mode_agrees d row has at written is)

    specified_agrees : Agrees (specified (record b { latest = found_in b.tables b.current x.name }) x.token k ty (found_in b.tables b.current x.name)) (with_mark o (Specified x k ty) ∷ os) n
    specified_agrees = subst (λ z. Agrees (specified (record b { latest = z }) x.token k ty z) (with_mark o (Specified x k ty) ∷ os) n) (sym (found_at v x.name)) (go (number_of v.row.names v.row.numbers x.name) refl)
      where
        go : (q : Option DeclNo) → number_of v.row.names v.row.numbers x.name ≡ q → Agrees (specified (record b { latest = q }) x.token k ty q) (with_mark o (Specified x k ty) ∷ os) n
        go None q = let a = remains (specified_stays (standing o x.name) (ap unspecified (absent_at v x q))) in record { chain = a.chain; count = a.count }
        go (Some d) q =
            let w = v.is.owned x.name d q in
            let row = row_of_sort (slice_get b.tables.declarations d.0) w.x w.there in specified_row d row.0 q row.1 (unspecified_in (entry_of b.tables d)) refl

  -- `inner`
  inner_agrees : (token : ℕ) → Agrees (inner b token b.current) (with_mark o (Inner token) ∷ os) n
  inner_agrees token =
      subst (λ z. Agrees (inner b token z) (with_mark o (Inner token) ∷ os) n) (sym v.current)
      (subst (λ z. Agrees (inner_at b token v.block z) (with_mark o (Inner token) ∷ os) n) (sym v.at) (go v.row.inner refl))
    where
      now : has_inner (o.own ++ Inner token ∷ []) ≡ true
      now = inner_more o.own (Inner token) ∙ or_true (has_inner o.own)

      go : (q : Option ℕ) → v.row.inner ≡ q → Agrees (inner_in b token v.block v.row q) (with_mark o (Inner token) ∷ os) n
      go None is =
          let new : BlockOf = record v.row { inner = Some token } in
          let t : Tables = record b.tables { blocks = slice_set b.tables.blocks v.block new } in
          record {
            chain = at_current v counts t (with_mark o (Inner token) ∷ os) (updated v t (Inner token) (core new) (ap core_in (set_here b.tables.blocks v.block v.row new v.at)) refl
                (λ k c lt at. core_other b.tables.blocks v.block new k c (λ same. absurd (omega (arith, lt, same))) at) (λ d y lt at. at)
                (record { kind = v.is.kind; level = v.is.level; inner = sym now; long = v.is.long; owned = v.is.owned; stands = λ name. v.is.stands name ∙ sym (standing_more o (Inner token) name) }));
            count = counts;
          }
      go (Some other) is =
          let old : has_inner o.own ≡ true = sym v.is.inner ∙ ap is_some is in
          let a = unchanged v counts (Inner token) (λ name. refl) (or_true (has_inner o.own) ∙ sym old) in record { chain = a.chain; count = a.count }

  -- a block ends
  closed_agrees : (end : ℕ) → Agrees (closed b end b.current) os n
  closed_agrees end =
      subst (λ z. Agrees (closed b end z) os n) (sym v.current)
      (subst (λ z. Agrees (closed_at b end v.block z) os n) (sym v.at)
      (record {
        chain = keep (cores b.tables) _ (sorts b.tables) (sorts b.tables) v.block v.row.encloser os (λ k c lt at. core_other b.tables.blocks v.block (record v.row { end = end }) k c (λ same. absurd (omega (arith, lt, same))) at) (λ d y lt at. at) v.under v.rest;
        count = counts;
      }))

-- ---- a block begins

pub level_is : (b : BuildingOf) (os : List OpenBlock) (k : BlockKind) → View b os → level_in k (block_around b.tables b.current) ≡ level_inside k os
level_is b _ k (no_block none) = ap (λ z. level_in k (block_around b.tables z)) none
level_is b _ k (in_block v) = ap (λ z. level_in k (block_around b.tables z)) v.current ∙ ap (level_in k) v.at ∙ ap (deeper k) v.is.level

below_end : (b : BuildingOf) (os : List OpenBlock) → View b os → Below b.current (length b.tables.blocks)
below_end b _ (no_block none) = subst (λ z. Below z (length b.tables.blocks)) (sym none) tt
below_end b _ (in_block v) = subst (λ z. Below z (length b.tables.blocks)) (sym v.current) (within b.tables.blocks v.block v.row v.at)

opened_agrees : (b : BuildingOf) (os : List OpenBlock) (n : ℕ) (k : BlockKind) (text first : ℕ) → View b os → Agrees b os n → Agrees (opened b k text first) (record { kind = k; level = level_inside k os; own = [] } ∷ os) n
unfolding run
opened_agrees b os n k text first view a =
    let level : ℕ = level_in k (block_around b.tables b.current) in
    let o : OpenBlock = record { kind = k; level = level_inside k os; own = [] } in
    agrees_if (nat_lt most_levels level) _ text r.TooManyLevels (o ∷ os) n (record {
      chain = inside (ap core_in (more_here b.tables.blocks _))
          (record { kind = refl; level = level_is b os k view; inner = refl; long = refl; owned = λ name d at. absurd (cc); stands = λ name. refl }) (below_end b os view)
          (keep_all (cores b.tables) _ (sorts b.tables) (sorts b.tables) b.current os (λ i c e. core_append b.tables.blocks _ i c e) (λ d x e. e) a.chain);
      count = a.count;
    })

-- ---- where no block is open

module _ (b : BuildingOf) (none : b.current ≡ None) where
  at_nowhere : (c : BuildingOf) → c.current ≡ None → c.own ≡ b.own → {n : ℕ} → b.own ≡ n → Agrees c [] (n + 0)
  at_nowhere c is own {n} counts = record { chain = subst (λ z. Chain (cores c.tables) (sorts c.tables) z []) (sym is) outermost; count = omega (arith, own, counts) }

  by_current : {n : ℕ} → b.own ≡ n → (f : Option ℕ → BuildingOf) → f None ≡ b → Agrees (f b.current) [] (n + 0)
  by_current {n} counts f same = subst (λ z. Agrees (f z) [] (n + 0)) (sym none) (subst (λ c. Agrees c [] (n + 0)) (sym same) (at_nowhere b none refl counts))

-- what is known after a mark
module _ (b : BuildingOf) (n : ℕ) where
  plus_none : (c : BuildingOf) (ps : List OpenBlock) → Agrees c ps n → Agrees c ps (n + 0)
  plus_none c ps h = record { chain = h.chain; count = (let is = h.count in omega (arith, is)) }

  nowhere_step : (m : Mark) → b.current ≡ None → b.own ≡ n → Agrees b [] n → Agrees (marked b m) (blocks_after [] m) (n + declared_by [] m)
  unfolding marked
  nowhere_step (Opens k text first) none counts a = plus_none _ _ (opened_agrees b [] n k text first (no_block none) a)
  nowhere_step (Closes end) none counts a = by_current b none counts (closed b end) refl
  nowhere_step (Declares x e) none counts a = by_current b none counts (declared_inside b x e) refl
  nowhere_step (DeclaresProcedure x result) none counts a = by_current b none counts (declared_inside b x (entry.Procedure result (length b.tables.blocks))) refl
  nowhere_step (DeclaresClass x) none counts a = by_current b none counts (λ z. changed (declared_inside b x (entry.Class (length b.tables.blocks)) z) holding_class z) refl
  nowhere_step (Parameter x) none counts a =
      subst (λ z. Agrees (let c = declared_inside b x (entry.Unspecified None) z in counted_in c c.current) [] (n + 0)) (sym none) (subst (λ z. Agrees (counted_in b z) [] (n + 0)) (sym none) (at_nowhere b none b none refl counts))
  nowhere_step (Moded x m) none counts a =
      subst (λ z. Agrees (moded b x.token m (found_in b.tables z x.name)) [] (n + 0)) (sym none) (at_nowhere b none (broken b x.token.0 r.ModeNotAllowed) none refl counts)
  nowhere_step (Specified x k ty) none counts a =
      subst (λ z. Agrees (specified (record b { latest = found_in b.tables z x.name }) x.token k ty (found_in b.tables z x.name)) [] (n + 0)) (sym none) (at_nowhere b none (broken (record b { latest = None }) x.token.0 r.SpecificationDisagrees) none refl counts)
  nowhere_step (Headed x) none counts a = subst (λ z. Agrees (headed b x.token (unspecified_at b.tables (found_in b.tables z x.name))) [] (n + 0)) (sym none) (at_nowhere b none b none refl counts)
  nowhere_step (Qualifies class) none counts a = plus_none _ _ (qualified_agrees b class b.latest [] n a)
  nowhere_step (Prefixes class) none counts a = by_current b none counts (changed b (prefixed_by class)) refl
  nowhere_step (Brings which token) none counts a = by_current b none counts (brings b which token) refl
  nowhere_step (Provides which name token) none counts a = by_current b none counts (provides b which name token) refl
  nowhere_step (Protects hides keeps x) none counts a = by_current b none counts (guards b hides keeps x) refl
  nowhere_step (Inner token) none counts a = by_current b none counts (inner b token) refl
  nowhere_step (Breaks token rule) none counts a = at_nowhere b none (broken b token rule) none refl counts

  headed_agrees : (token : TokenNo) (q : Option (Option WrittenMode)) (ps : List OpenBlock) → Agrees b ps n → Agrees (headed b token q) ps n
  headed_agrees token None ps a = a
  headed_agrees token (Some w) ps a = record { chain = a.chain; count = a.count }

  inside_step : (o : OpenBlock) (os : List OpenBlock) (m : Mark) → Innermost b o os → b.own ≡ n → Agrees b (o ∷ os) n → Agrees (marked b m) (blocks_after (o ∷ os) m) (n + declared_by (o ∷ os) m)
  unfolding marked
  inside_step o os (Opens k text first) v counts a = plus_none _ _ (opened_agrees b (o ∷ os) n k text first (in_block v) a)
  inside_step o os (Closes end) v counts a = plus_none _ _ (closed_agrees v counts end)
  inside_step o os (Declares x e) v counts a = declared_agrees v counts x e e (Declares x e) (λ name st. refl) refl refl refl
  inside_step o os (DeclaresProcedure x result) v counts a =
      declared_agrees v counts x (entry.Procedure result (length b.tables.blocks)) (a_procedure result) (DeclaresProcedure x result) (λ name st. refl) refl refl refl
  inside_step o os (DeclaresClass x) v counts a =
      changed_agrees (declared b x (entry.Class (length b.tables.blocks))) holding_class b.current (with_mark o (DeclaresClass x) ∷ os) _ (λ row. refl)
      (declared_agrees v counts x (entry.Class (length b.tables.blocks)) a_class (DeclaresClass x) (λ name st. refl) refl refl refl)
  inside_step o os (Parameter x) v counts a =
      counted_agrees (declared b x (entry.Unspecified None)) (declared b x (entry.Unspecified None)).current (with_mark o (Parameter x) ∷ os) _
      (declared_agrees v counts x (entry.Unspecified None) a_parameter (Parameter x) (λ name st. refl) refl refl refl)
  inside_step o os (Moded x m) v counts a = plus_none _ _ (moded_agrees v counts x m)
  inside_step o os (Specified x k ty) v counts a = plus_none _ _ (specified_agrees v counts x k ty)
  inside_step o os (Headed x) v counts a = plus_none _ _ (headed_agrees x.token _ _ (unchanged v counts (Headed x) (λ name. refl) (or_false (has_inner o.own))))
  inside_step o os (Qualifies class) v counts a = plus_none _ _ (qualified_agrees b class b.latest _ n (unchanged v counts (Qualifies class) (λ name. refl) (or_false (has_inner o.own))))
  inside_step o os (Prefixes class) v counts a = plus_none _ _ (changed_agrees b (prefixed_by class) b.current _ n (λ row. refl) (unchanged v counts (Prefixes class) (λ name. refl) (or_false (has_inner o.own))))
  inside_step o os (Brings which token) v counts a = plus_none _ _ (brings_agrees b which token b.current _ n (unchanged v counts (Brings which token) (λ name. refl) (or_false (has_inner o.own))))
  inside_step o os (Provides which name token) v counts a =
      plus_none _ _ (provides_agrees v counts which name token (with_mark o (Provides which name token) ∷ os) (unchanged v counts (Provides which name token) (λ name. refl) (or_false (has_inner o.own))))
  inside_step o os (Protects hides keeps x) v counts a =
      plus_none _ _ (guards_agrees b hides keeps x b.current _ n (unchanged v counts (Protects hides keeps x) (λ name. refl) (or_false (has_inner o.own))))
  inside_step o os (Inner token) v counts a = plus_none _ _ (inner_agrees v counts token)
  inside_step o os (Breaks token rule) v counts a =
      (let h = unchanged v counts (Breaks token rule) (λ name. refl) (or_false (has_inner o.own)) in record { chain = h.chain; count = (let is = h.count in omega (arith, is)) })

  any_step : (os : List OpenBlock) (m : Mark) → View b os → b.own ≡ n → Agrees b os n → Agrees (marked b m) (blocks_after os m) (n + declared_by os m)
  any_step _ m (no_block none) counts a = nowhere_step m none counts a
  any_step _ m (in_block {o = o} {os = os} v) counts a = inside_step o os m v counts a

-- ---- the text in front

in_front_from : (b : BuildingOf) (q : Reading) (ms : List Mark) → Agrees b q.blocks q.count → Agrees (run marked b ms) (run read q ms).blocks (run read q ms).count
unfolding run read
in_front_from b q [] a = a
in_front_from b q (m ∷ ms) a = in_front_from (marked b m) (read q m) ms (any_step b q.count q.blocks m (view b q.blocks q.count a) a.count a)

pub in_front : (ms : List Mark) → Agrees (run marked empty ms) (run read nothing_read ms).blocks (run read nothing_read ms).count
in_front ms = in_front_from empty nothing_read ms (record { chain = outermost; count = refl })
