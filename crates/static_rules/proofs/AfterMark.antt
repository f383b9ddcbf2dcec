-- After each mark what is known is what the tables say.
use Rattle.std.proofs.Common.{◌≡◌, ◌+◌, ℕ, suc, Bool, true, false, not, if◌then◌else◌, List, [], ◌∷◌, ◌++◌, length, Option, Some, None, refl, sym, ap, ◌∙◌, subst, arith, nat_eq}
use Rattle.std.specs.List.{list_any}
use Rattle.std.specs.Prelude.{◌&&◌, ◌||◌, slice_get, slice_set}
use Rattle.std.specs.Str.{bytes_eq}
use Rattle.sim_base.specs.declared.numbering.DeclNo.{DeclNo}
use Rattle.sim_base.specs.declared.rule.Rule.TheVariants as r
use Rattle.sim_tree.specs.declared.expr.Identifier.{Identifier}
use Rattle.sim_scope.specs.Building.{BuildingOf, Mark, brings, brings_at, brings_new, changed, changed_row, counted, counted_in, declared, declared_again, declared_at, declared_inside, declared_new, declared_twice, entered, first_brought, guards, guards_at, is_class, is_match, matched, matching, most_declarations, place_of, provided_alone, provided_in, provides, provides_in, qualified, row_matching, row_of, unspecified_in, with_entry, with_name, name_of}
use Rattle.sim_scope.specs.Scopes.{declared_in, entry_in, entry_of}
use Rattle.sim_scope.specs.Standard.{attribute_name}
use Rattle.sim_scope.specs.Tables.{BlockOf, Tables}
use Rattle.sim_scope.specs.declared.scopes.Declaration.{Declaration}
use Rattle.sim_scope.specs.declared.types.Entry.{Entry}
use Rattle.sim_scope.specs.declared.types.Entry.TheVariants as entry
use Rattle.sim_scope.specs.declared.types.SimType.{SimType}
use Rattle.sim_scope.specs.declared.types.StandardClass.{StandardClass}
use Rattle.sim_values.specs.declared.standard.Standard.{Standard}
use Rattle.sim_scope.proofs.Kept.{more_here, set_here}
use Rattle.static_rules.specs.Reading.{Absent, Known, OpenBlock, Standing, Unmatched, Unspecified, after_declaration, after_mark, has_inner, if_its_own, is_double, is_inner, is_procedure_entry, one_if, standing, stands_as, unspecified, with_mark}
use Rattle.static_rules.proofs.Chains.{Below, Chain, Owned, Sort, any_number, core, core_in, cores, is_some, keep, number_more, number_of, sort, sort_in, sorts, standing_of}
use Rattle.static_rules.proofs.InFront.{Agrees, Innermost, agrees_if, core_append, core_other, core_set, inner_more, keep_all, number_at, or_false, quiet, replaced_entry, same_name, some_same, sort_append, standing_more, updated}

-- ---- lists

len_more : {A : Type 0} (xs : List A) (x : A) → length (xs ++ x ∷ []) ≡ length xs + 1
len_more [] x = refl
len_more (y ∷ xs) x = let rest = len_more xs x in omega (arith, rest)

pub row_of_sort : (o : Option Declaration) (x : Sort) → sort_in o ≡ Some x → (row : Declaration) × (o ≡ Some row) × (sort row ≡ x)
row_of_sort None x e = absurd (cc)
row_of_sort (Some row) x e = (row, refl, some_same (sort row) x e)

pub nothing : {A : Type 0} (o : Option A) → is_some o ≡ false → o ≡ None
nothing None e = refl
nothing (Some x) e = absurd (cc)

pub something : {A : Type 0} (o : Option A) → is_some o ≡ true → (x : A) × (o ≡ Some x)
something None e = absurd (cc)
something (Some x) e = (x, refl)

-- ---- entries

abbrev pub is_unmatched : Entry → Bool
is_unmatched (entry.Virtual result None) = true
is_unmatched _ = false

virtual_only : (f : Entry) → is_match (entry.Procedure None 0) (Some f) ≡ is_unmatched f
virtual_only (entry.Variable ty) = refl
virtual_only (entry.Constant ty) = refl
virtual_only (entry.Array element dimensions) = refl
virtual_only (entry.Procedure result block) = refl
virtual_only (entry.Class block) = refl
virtual_only (entry.Virtual result None) = refl
virtual_only (entry.Virtual result (Some d)) = refl
virtual_only (entry.Formal f) = refl
virtual_only (entry.Unspecified written) = refl
virtual_only (entry.Attribute name ty result) = refl

any_procedure : (result : Option SimType) (block : ℕ) (f : Entry) → is_match (entry.Procedure result block) (Some f) ≡ is_unmatched f
any_procedure result block (entry.Variable ty) = refl
any_procedure result block (entry.Constant ty) = refl
any_procedure result block (entry.Array element dimensions) = refl
any_procedure result block (entry.Procedure q n) = refl
any_procedure result block (entry.Class n) = refl
any_procedure result block (entry.Virtual q None) = refl
any_procedure result block (entry.Virtual q (Some d)) = refl
any_procedure result block (entry.Formal f) = refl
any_procedure result block (entry.Unspecified written) = refl
any_procedure result block (entry.Attribute name ty q) = refl

pub match_is : (e f : Entry) → is_match e (Some f) ≡ (is_procedure_entry e && is_unmatched f)
match_is (entry.Variable ty) f = refl
match_is (entry.Constant ty) f = refl
match_is (entry.Array element dimensions) f = refl
match_is (entry.Procedure result block) f = any_procedure result block f
match_is (entry.Class block) f = refl
match_is (entry.Virtual result own) f = refl
match_is (entry.Formal g) f = refl
match_is (entry.Unspecified written) f = refl
match_is (entry.Attribute name ty result) f = refl

pub not_not : (c : Bool) → not (not c) ≡ c
not_not true = refl
not_not false = refl

and_false : (c : Bool) → (c && false) ≡ false
and_false true = refl
and_false false = refl

pub and_true : (c : Bool) → (c && true) ≡ c
and_true true = refl
and_true false = refl

pub double_is : (e : Entry) (token : ℕ) (f : Entry) → not (is_double (stands_as token f) e) ≡ (is_procedure_entry e && is_unmatched f)
double_is e token (entry.Variable ty) = sym (and_false (is_procedure_entry e))
double_is e token (entry.Constant ty) = sym (and_false (is_procedure_entry e))
double_is e token (entry.Array element dimensions) = sym (and_false (is_procedure_entry e))
double_is e token (entry.Procedure result block) = sym (and_false (is_procedure_entry e))
double_is e token (entry.Class block) = sym (and_false (is_procedure_entry e))
double_is e token (entry.Virtual result None) = not_not (is_procedure_entry e) ∙ sym (and_true (is_procedure_entry e))
double_is e token (entry.Virtual result (Some d)) = sym (and_false (is_procedure_entry e))
double_is e token (entry.Formal f) = sym (and_false (is_procedure_entry e))
double_is e token (entry.Unspecified written) = sym (and_false (is_procedure_entry e))
double_is e token (entry.Attribute name ty result) = sym (and_false (is_procedure_entry e))

-- a double changes nothing, and a match is known then
double_stays : (token : ℕ) (e : Entry) (st : Standing) → is_double st e ≡ true → after_declaration token e st ≡ st
double_stays token e Absent is = absurd (cc)
double_stays token e (Unspecified own written) is = refl
double_stays token e Unmatched is = go (is_procedure_entry e) is
  where
    go : (c : Bool) → not c ≡ true → (if c then Known else Unmatched) ≡ Unmatched
    go true is = absurd (cc)
    go false is = refl
double_stays token e Known is = refl

matched_to : (token own : ℕ) (e f : Entry) (d : DeclNo) → (is_procedure_entry e && is_unmatched f) ≡ true → after_declaration token e (stands_as own f) ≡ stands_as own (matching f d)
matched_to token own e (entry.Variable ty) d is = absurd (let no : (is_procedure_entry e && false) ≡ false = and_false (is_procedure_entry e) in cc)
matched_to token own e (entry.Constant ty) d is = absurd (let no : (is_procedure_entry e && false) ≡ false = and_false (is_procedure_entry e) in cc)
matched_to token own e (entry.Array element dimensions) d is = absurd (let no : (is_procedure_entry e && false) ≡ false = and_false (is_procedure_entry e) in cc)
matched_to token own e (entry.Procedure result block) d is = absurd (let no : (is_procedure_entry e && false) ≡ false = and_false (is_procedure_entry e) in cc)
matched_to token own e (entry.Class block) d is = absurd (let no : (is_procedure_entry e && false) ≡ false = and_false (is_procedure_entry e) in cc)
matched_to token own e (entry.Virtual result None) d is = ap (λ c. if c then Known else Unmatched) (sym (and_true (is_procedure_entry e)) ∙ is)
matched_to token own e (entry.Virtual result (Some m)) d is = absurd (let no : (is_procedure_entry e && false) ≡ false = and_false (is_procedure_entry e) in cc)
matched_to token own e (entry.Formal f) d is = absurd (let no : (is_procedure_entry e && false) ≡ false = and_false (is_procedure_entry e) in cc)
matched_to token own e (entry.Unspecified written) d is = absurd (let no : (is_procedure_entry e && false) ≡ false = and_false (is_procedure_entry e) in cc)
matched_to token own e (entry.Attribute name ty result) d is = absurd (let no : (is_procedure_entry e && false) ≡ false = and_false (is_procedure_entry e) in cc)

pub unspecified_is : (token : ℕ) (f : Entry) → unspecified_in (Some f) ≡ unspecified (stands_as token f)
unspecified_is token (entry.Variable ty) = refl
unspecified_is token (entry.Constant ty) = refl
unspecified_is token (entry.Array element dimensions) = refl
unspecified_is token (entry.Procedure result block) = refl
unspecified_is token (entry.Class block) = refl
unspecified_is token (entry.Virtual result None) = refl
unspecified_is token (entry.Virtual result (Some d)) = refl
unspecified_is token (entry.Formal f) = refl
unspecified_is token (entry.Unspecified written) = refl
unspecified_is token (entry.Attribute name ty result) = refl

-- ---- tables alone

pub changed_agrees : (b : BuildingOf) (change : BlockOf → BlockOf) (q : Option ℕ) (os : List OpenBlock) (n : ℕ) → ((row : BlockOf) → core (change row) ≡ core row) → Agrees b os n → Agrees (changed b change q) os n
changed_agrees b change None os n same a = a
changed_agrees b change (Some block) os n same a = go (slice_get b.tables.blocks block) refl
  where
    go : (z : Option BlockOf) → slice_get b.tables.blocks block ≡ z → Agrees (changed_row b change block z) os n
    go None at = a
    go (Some row) at = record {
      chain = keep_all (cores b.tables) _ (sorts b.tables) (sorts b.tables) b.current os (λ k c e. core_set b.tables.blocks block row (change row) at (same row) k c e) (λ d x e. e) a.chain;
      count = a.count;
    }

pub counted_agrees : (b : BuildingOf) (q : Option ℕ) (os : List OpenBlock) (n : ℕ) → Agrees b os n → Agrees (counted_in b q) os n
counted_agrees b None os n a = a
counted_agrees b (Some block) os n a = go (slice_get b.tables.blocks block) refl
  where
    go : (z : Option BlockOf) → slice_get b.tables.blocks block ≡ z → Agrees (counted b block z) os n
    go None at = a
    go (Some row) at = record {
      chain = keep_all (cores b.tables) _ (sorts b.tables) (sorts b.tables) b.current os (λ k c e. core_set b.tables.blocks block row (record row { formals = length row.numbers }) at refl k c e) (λ d x e. e) a.chain;
      count = a.count;
    }

pub qualified_agrees : (b : BuildingOf) (class : Identifier) (q : Option DeclNo) (os : List OpenBlock) (n : ℕ) → Agrees b os n → Agrees (qualified b class q) os n
qualified_agrees b class None os n a = a
qualified_agrees b class (Some d) os n a = record { chain = a.chain; count = a.count }

pub guards_agrees : (b : BuildingOf) (hides keeps : Bool) (x : Identifier) (q : Option ℕ) (os : List OpenBlock) (n : ℕ) → Agrees b os n → Agrees (guards b hides keeps x q) os n
guards_agrees b hides keeps x None os n a = a
guards_agrees b hides keeps x (Some block) os n a = go (slice_get b.tables.blocks block) refl
  where
    go : (z : Option BlockOf) → slice_get b.tables.blocks block ≡ z → Agrees (guards_at b hides keeps x block z) os n
    go None at = a
    go (Some row) at = record {
      chain = keep_all (cores b.tables) _ (sorts b.tables) (sorts b.tables) b.current os (λ k c e. core_set b.tables.blocks block row _ at refl k c e) (λ d x e. e) a.chain;
      count = a.count;
    }

if_agrees : (c : Bool) (b new : BuildingOf) (os : List OpenBlock) (n : ℕ) → Agrees b os n → Agrees new os n → Agrees (if c then b else new) os n
if_agrees true b new os n a d = a
if_agrees false b new os n a d = d

pub brings_agrees : (b : BuildingOf) (which : StandardClass) (token : ℕ) (q : Option ℕ) (os : List OpenBlock) (n : ℕ) → Agrees b os n → Agrees (brings b which token q) os n
brings_agrees b which token None os n a = a
brings_agrees b which token (Some block) os n a = go (slice_get b.tables.blocks block) refl
  where
    go : (z : Option BlockOf) → slice_get b.tables.blocks block ≡ z → Agrees (brings_at b which token block z) os n
    go None at = a
    go (Some row) at = if_agrees (list_any (bytes_eq (name_of which)) row.brought_names) b (brings_new b which token block row) os n a (record {
      chain = keep_all (cores b.tables) _ (sorts b.tables) _ b.current os
          (λ k c e. core_append (slice_set b.tables.blocks block _) _ k c (core_set b.tables.blocks block row _ at refl k c e)) (λ d x e. sort_append b.tables.declarations _ d x e) a.chain;
      count = a.count;
    })

-- ---- one mark

module _ {b : BuildingOf} {o : OpenBlock} {os : List OpenBlock} {n : ℕ} (v : Innermost b o os) (counts : b.own ≡ n) where
  pub at_current : (t : Tables) (ps : List OpenBlock) → Chain (cores t) (sorts t) (Some v.block) ps → Chain (cores t) (sorts t) b.current ps
  at_current t ps h = subst (λ z. Chain (cores t) (sorts t) z ps) (sym v.current) h

  -- the block's identifiers stay
  pub unchanged : (m : Mark) → ((name : List ℕ) → after_mark (is_class o.kind) name (standing o name) m ≡ standing o name) → (has_inner o.own || is_inner m) ≡ has_inner o.own → Agrees b (with_mark o m ∷ os) n
  unchanged m says no_inner = record { chain = at_current b.tables (with_mark o m ∷ os) (quiet v b.tables m (λ k c lt e. e) (λ d x e. e) says no_inner); count = counts }

  pub provides_agrees : (which : Option StandardClass) (name : Standard) (token : ℕ) (ps : List OpenBlock) → Agrees b ps n → Agrees (provides b which name token b.current) ps n
  provides_agrees which name token ps a = subst (λ z. Agrees (provides b which name token z) ps n) (sym v.current) (go which)
    where
      first : Option DeclNo
      first = first_brought (slice_get b.tables.blocks v.block)

      alone : (z : Option BlockOf) → slice_get b.tables.blocks v.block ≡ z → Agrees (provided_alone b name token first v.block z) ps n
      alone None at = a
      alone (Some row) at = if_agrees (list_any (bytes_eq (attribute_name name)) row.brought_names) b _ ps n a (record {
        chain = keep_all (cores b.tables) _ (sorts b.tables) _ b.current ps (λ k c e. core_set b.tables.blocks v.block row _ at refl k c e) (λ d x e. sort_append b.tables.declarations _ d x e) a.chain;
        count = a.count;
      })

      within_class : (place : ℕ) (z : Option BlockOf) → slice_get b.tables.blocks (v.block + 1 + place) ≡ z → Agrees (provided_in b name token first (v.block + 1 + place) z) ps n
      within_class place None at = a
      within_class place (Some row) at = if_agrees (list_any (bytes_eq (attribute_name name)) row.names) b _ ps n a (record {
        chain = keep (cores b.tables) _ (sorts b.tables) _ (suc v.block) b.current ps
            (λ k c lt e. core_other b.tables.blocks (v.block + 1 + place) _ k c (λ same. absurd (omega (arith, lt, same))) e) (λ d x lt e. sort_append b.tables.declarations _ d x e)
            (subst (λ z. Below z (suc v.block)) (sym v.current) (omega arith)) a.chain;
        count = a.count;
      })

      go : (which : Option StandardClass) → Agrees (provides_in b which name token v.block first) ps n
      go None = alone (slice_get b.tables.blocks v.block) refl
      go (Some class) = within_class (place_of class) (slice_get b.tables.blocks (v.block + 1 + place_of class)) refl

  -- ---- declarations

  module _ (x : Identifier) (e er : Entry) (m : Mark) (says : (name : List ℕ) (st : Standing) → after_mark (is_class o.kind) name st m ≡ if_its_own name x (after_declaration x.token.0 er) st)
      (alike : stands_as x.token.0 e ≡ stands_as x.token.0 er) (kinds : is_procedure_entry e ≡ is_procedure_entry er) (no_inner : is_inner m ≡ false) where
    inner_stays : (has_inner o.own || is_inner m) ≡ has_inner o.own
    inner_stays = ap (λ z. has_inner o.own || z) no_inner ∙ or_false (has_inner o.own)

    number : DeclNo
    number = record { 0 = length b.tables.declarations }

    new_row : BlockOf
    new_row = with_name v.row x.name number

    new_tables : Tables
    new_tables = record b.tables { blocks = slice_set b.tables.blocks v.block new_row; declarations = b.tables.declarations ++ row_of x e v.block true ∷ [] }

    number_there : sorts new_tables number.0 ≡ Some (sort (row_of x e v.block true))
    unfolding new_tables number
    number_there = ap sort_in (more_here b.tables.declarations (row_of x e v.block true))

    sorts_stay : (d : ℕ) (y : Sort) → sorts b.tables d ≡ Some y → sorts new_tables d ≡ Some y
    unfolding new_tables
    sorts_stay d y at = sort_append b.tables.declarations (row_of x e v.block true ∷ []) d y at

    -- the identifier is not in the block
    module _ (fresh : number_of v.row.names v.row.numbers x.name ≡ None) where
      numbers_after : (name : List ℕ) → number_of new_row.names new_row.numbers name ≡ (elim (number_of v.row.names v.row.numbers name) as (λ _. Option DeclNo) [ Some f ↦ Some f | None ↦ if bytes_eq name x.name then Some number else None ])
      unfolding new_row
      numbers_after name = number_more v.row.names v.row.numbers x.name number name v.is.long

      owned_new : (name : List ℕ) (d : DeclNo) → number_of new_row.names new_row.numbers name ≡ Some d → Owned (sorts new_tables) v.block name d
      owned_new name d here = go (number_of v.row.names v.row.numbers name) refl (sym (numbers_after name) ∙ here)
        where
          own_one : (f : Bool) → bytes_eq name x.name ≡ f → (if f then Some number else None) ≡ Some d → Owned (sorts new_tables) v.block name d
          own_one true is at = record { x = sort (row_of x e v.block true); there = ap (λ z. sorts new_tables z.0) (sym (some_same number d at)) ∙ number_there; its_block = refl; its_name = sym (same_name name x.name is) }
          own_one false is at = absurd (cc)

          go : (q : Option DeclNo) → number_of v.row.names v.row.numbers name ≡ q → (elim q as (λ _. Option DeclNo) [ Some f ↦ Some f | None ↦ if bytes_eq name x.name then Some number else None ]) ≡ Some d → Owned (sorts new_tables) v.block name d
          go None q at = own_one (bytes_eq name x.name) refl at
          go (Some c) q at =
              let w = v.is.owned name c q in
              let same : c ≡ d = some_same c d at in
              record { x = w.x; there = ap (λ z. sorts new_tables z.0) (sym same) ∙ sorts_stay c.0 w.x w.there; its_block = w.its_block; its_name = w.its_name }

      stands_new : (name : List ℕ) → standing_of (sorts new_tables) (number_of new_row.names new_row.numbers name) ≡ if_its_own name x (after_declaration x.token.0 er) (standing o name)
      stands_new name = ap (standing_of (sorts new_tables)) (numbers_after name) ∙ go (number_of v.row.names v.row.numbers name) refl
        where
          own_one : standing o name ≡ Absent → (f : Bool) → standing_of (sorts new_tables) (if f then Some number else None) ≡ (if f then after_declaration x.token.0 er (standing o name) else standing o name)
          own_one absent true = ap (λ z. elim z as (λ _. Standing) [ None ↦ Absent | Some y ↦ y.standing ]) number_there ∙ alike ∙ sym (ap (after_declaration x.token.0 er) absent)
          own_one absent false = sym absent

          go : (q : Option DeclNo) → number_of v.row.names v.row.numbers name ≡ q → standing_of (sorts new_tables) (elim q as (λ _. Option DeclNo) [ Some f ↦ Some f | None ↦ if bytes_eq name x.name then Some number else None ])
              ≡ if_its_own name x (after_declaration x.token.0 er) (standing o name)
          go None q = own_one (sym (v.is.stands name) ∙ ap (standing_of (sorts b.tables)) q) (bytes_eq name x.name)
          go (Some c) q =
              let w = v.is.owned name c q in
              let old : standing_of (sorts b.tables) (Some c) ≡ standing o name = sym (ap (standing_of (sorts b.tables)) q) ∙ v.is.stands name in
              ap (λ z. elim z as (λ _. Standing) [ None ↦ Absent | Some y ↦ y.standing ]) (sorts_stay c.0 w.x w.there ∙ sym w.there) ∙ old ∙ other (bytes_eq name x.name) refl
            where
              other : (f : Bool) → bytes_eq name x.name ≡ f → standing o name ≡ (if f then after_declaration x.token.0 er (standing o name) else standing o name)
              other true is = absurd (let none : None ≡ Some c = sym fresh ∙ ap (number_of v.row.names v.row.numbers) (sym (same_name name x.name is)) ∙ q in cc)
              other false is = refl

      new_chain : Chain (cores new_tables) (sorts new_tables) (Some v.block) (with_mark o m ∷ os)
      unfolding new_tables new_row number
      new_chain =
          updated v new_tables m (core new_row) (ap core_in (set_here b.tables.blocks v.block v.row new_row v.at)) refl
          (λ k c lt at. core_other b.tables.blocks v.block new_row k c (λ same. absurd (omega (arith, lt, same))) at) (λ d y lt at. sorts_stay d y at)
          (record {
            kind = v.is.kind;
            level = v.is.level;
            inner = v.is.inner ∙ sym (inner_more o.own m ∙ inner_stays);
            long = (let a = len_more v.row.names x.name in let c = len_more v.row.numbers number in let l = v.is.long in omega (arith, a, c, l));
            owned = owned_new;
            stands = λ name. stands_new name ∙ sym (says name (standing o name)) ∙ sym (standing_more o m name);
          })

      absent_there : standing o x.name ≡ Absent
      absent_there = sym (v.is.stands x.name) ∙ ap (standing_of (sorts b.tables)) fresh

      new_agrees : Agrees (declared_new b x e v.block v.row) (with_mark o m ∷ os) (n + one_if (not (is_double (standing o x.name) er)))
      unfolding new_tables new_row number
      new_agrees = agrees_if (nat_eq b.own most_declarations) _ x.token.0 r.TooManyDeclarations (with_mark o m ∷ os) _
          (record { chain = at_current new_tables (with_mark o m ∷ os) new_chain; count = (let one : one_if (not (is_double (standing o x.name) er)) ≡ 1 = ap (λ z. one_if (not (is_double z er))) absent_there in omega (arith, counts, one)) })

    -- it is
    module _ (d : DeclNo) (row : Declaration) (has : number_of v.row.names v.row.numbers x.name ≡ Some d) (at : slice_get b.tables.declarations d.0 ≡ Some row) where
      there : standing o x.name ≡ stands_as row.token.0 row.entry
      there = sym (v.is.stands x.name) ∙ ap (standing_of (sorts b.tables)) has ∙ ap (λ z. elim z as (λ _. Standing) [ None ↦ Absent | Some y ↦ y.standing ]) (ap sort_in at)

      double_match : not (is_double (standing o x.name) er) ≡ is_match e (entry_of b.tables d)
      unfolding entry_of
      double_match =
          ap (λ z. not (is_double z er)) there ∙ double_is er row.token.0 row.entry ∙ ap (λ z. z && is_unmatched row.entry) (sym kinds) ∙ sym (match_is e row.entry) ∙ sym (ap (λ z. is_match e (entry_in z)) at)

      matched_agrees : is_match e (entry_of b.tables d) ≡ true → Agrees (matched b x e v.block d) (with_mark o m ∷ os) (n + one_if (not (is_double (standing o x.name) er)))
      unfolding number
      matched_agrees is =
          let is_new : not (is_double (standing o x.name) er) ≡ true = double_match ∙ is in
          let to : after_declaration x.token.0 er (standing o x.name) ≡ stands_as row.token.0 (matching row.entry number) =
          ap (after_declaration x.token.0 er) there ∙ matched_to x.token.0 row.token.0 er row.entry number (sym (double_is er row.token.0 row.entry) ∙ sym (ap (λ z. not (is_double z er)) there) ∙ is_new) in
          let set : Tables = record b.tables { declarations = slice_set b.tables.declarations d.0 (record row { entry = matching row.entry number }) } in
          let chain = replaced_entry v x d row (matching row.entry number) m (after_declaration x.token.0 er) has at says to no_inner in
          let more : Tables = record set { declarations = set.declarations ++ row_of x e v.block false ∷ [] } in
          let whole : Chain (cores more) (sorts more) (Some v.block) (with_mark o m ∷ os) = keep_all (cores set) (cores more) (sorts set) (sorts more) (Some v.block) (with_mark o m ∷ os) (λ k c at. at) (λ k y at. sort_append set.declarations _ k y at) chain in
          let same : row_matching (slice_get b.tables.declarations d.0) number b.tables.declarations d.0 ≡ set.declarations = ap (λ z. row_matching z number b.tables.declarations d.0) at in
          let more_of : List Declaration → Tables = λ ds. record b.tables { declarations = ds ++ row_of x e v.block false ∷ [] } in
          agrees_if (nat_eq b.own most_declarations) _ x.token.0 r.TooManyDeclarations (with_mark o m ∷ os) _
          (record {
            chain = subst (λ ds. Chain (cores (more_of ds)) (sorts (more_of ds)) b.current (with_mark o m ∷ os)) (sym same) (at_current more (with_mark o m ∷ os) whole);
            count = (let one : one_if (not (is_double (standing o x.name) er)) ≡ 1 = ap one_if is_new in omega (arith, counts, one));
          })

      double_agrees : is_match e (entry_of b.tables d) ≡ false → Agrees (declared_twice b x (Some d)) (with_mark o m ∷ os) (n + one_if (not (is_double (standing o x.name) er)))
      double_agrees is =
          let old : is_double (standing o x.name) er ≡ true = sym (not_not (is_double (standing o x.name) er)) ∙ ap not (double_match ∙ is) in
          let a = unchanged m (λ name. says name (standing o name) ∙ own_one old name (bytes_eq name x.name) refl) inner_stays in
          let zero_more : one_if (not (is_double (standing o x.name) er)) ≡ 0 = ap one_if (double_match ∙ is) in
          record { chain = a.chain; count = omega (arith, counts, zero_more) }
        where
          own_one : is_double (standing o x.name) er ≡ true → (name : List ℕ) (f : Bool) → bytes_eq name x.name ≡ f → (if f then after_declaration x.token.0 er (standing o name) else standing o name) ≡ standing o name
          own_one old name true same =
              let eq : name ≡ x.name = same_name name x.name same in double_stays x.token.0 er (standing o name) (ap (λ z. is_double (standing o z) er) eq ∙ old)
          own_one old name false same = refl

      again_agrees : Agrees (declared_again b x e v.block (Some d)) (with_mark o m ∷ os) (n + one_if (not (is_double (standing o x.name) er)))
      again_agrees = go (is_match e (entry_of b.tables d)) refl
        where
          go : (c : Bool) → is_match e (entry_of b.tables d) ≡ c → Agrees (if c then matched b x e v.block d else declared_twice b x (Some d)) (with_mark o m ∷ os) (n + one_if (not (is_double (standing o x.name) er)))
          go true is = matched_agrees is
          go false is = double_agrees is

    pub declared_agrees : Agrees (declared b x e) (with_mark o m ∷ os) (n + one_if (not (is_double (standing o x.name) er)))
    declared_agrees =
        subst (λ z. Agrees (declared_inside b x e z) (with_mark o m ∷ os) (n + one_if (not (is_double (standing o x.name) er)))) (sym v.current)
        (subst (λ z. Agrees (declared_at b x e v.block z) (with_mark o m ∷ os) (n + one_if (not (is_double (standing o x.name) er)))) (sym v.at) (go (list_any (bytes_eq x.name) v.row.names) refl))
      where
        any : list_any (bytes_eq x.name) v.row.names ≡ is_some (number_of v.row.names v.row.numbers x.name)
        any = any_number v.row.names v.row.numbers x.name v.is.long

        go : (c : Bool) → list_any (bytes_eq x.name) v.row.names ≡ c → Agrees (if c then declared_again b x e v.block (declared_in (Some v.row) x.name) else declared_new b x e v.block v.row) (with_mark o m ∷ os) (n + one_if (not (is_double (standing o x.name) er)))
        go true is =
            let d = something (number_of v.row.names v.row.numbers x.name) (sym any ∙ is) in
            let w = v.is.owned x.name d.0 d.1 in
            let row = row_of_sort (slice_get b.tables.declarations d.0.0) w.x w.there in
            subst (λ z. Agrees (declared_again b x e v.block z) (with_mark o m ∷ os) (n + one_if (not (is_double (standing o x.name) er)))) (sym (number_at v x.name ∙ d.1)) (again_agrees d.0 row.0 d.1 row.1)
        go false is = new_agrees (nothing (number_of v.row.names v.row.numbers x.name) (sym any ∙ is))

  -- ---- headings

  pub entered_agrees : (d : DeclNo) (row : Declaration) (f : Entry) (ps : List OpenBlock) → slice_get b.tables.declarations d.0 ≡ Some row
      → Chain (cores (record b.tables { declarations = slice_set b.tables.declarations d.0 (record row { entry = f }) })) (sorts (record b.tables { declarations = slice_set b.tables.declarations d.0 (record row { entry = f }) })) (Some v.block) ps → Agrees (with_entry b d f) ps n
  entered_agrees d row f ps at h = subst (λ z. Agrees (entered b d f z) ps n) (sym at) (record { chain = at_current (record b.tables { declarations = slice_set b.tables.declarations d.0 (record row { entry = f }) }) ps h; count = counts })
