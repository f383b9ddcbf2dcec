-- What is known at a place is what the tables of the text in front of it say.
use Rattle.std.proofs.Common.{◌≡◌, ◌<◌, ℕ, zero, suc, Bool, true, false, if◌then◌else◌, List, [], ◌∷◌, ◌++◌, Option, Some, None, refl, sym, ap, ◌∙◌, subst, arith, nat_eq}
use Rattle.std.proofs.lemmas.Bool.Decides.{nat_tests}
use Rattle.std.proofs.lemmas.Slice.Eq.{bytes_eq-Decides}
use Rattle.std.specs.Prelude.{◌||◌, slice_get, slice_set}
use Rattle.std.specs.Str.{bytes_eq}
use Rattle.sim_base.specs.declared.numbering.DeclNo.{DeclNo}
use Rattle.sim_base.specs.declared.rule.Rule.{Rule}
use Rattle.sim_tree.specs.declared.expr.Identifier.{Identifier}
use Rattle.sim_scope.specs.Building.{BuildingOf, Mark, broken_if, found_in, is_class}
use Rattle.sim_scope.specs.Runs.{run}
use Rattle.sim_scope.specs.Scopes.{declared_in, lookup}
use Rattle.sim_scope.specs.Tables.{BlockOf, Tables}
use Rattle.sim_scope.specs.declared.scopes.Declaration.{Declaration}
use Rattle.sim_scope.specs.declared.types.Entry.{Entry}
use Rattle.sim_scope.proofs.Kept.{kept_set, set_here, set_other}
use Rattle.sim_scope.proofs.Walks.{run-append}
use Rattle.static_rules.specs.Reading.{Absent, OpenBlock, Standing, after_mark, has_inner, if_its_own, is_inner, standing, stands_as, with_mark}
use Rattle.static_rules.proofs.Chains.{Below, Chain, Core, Cores, IsOf, KeepsCores, KeepsSorts, Owned, Sort, Sorts, core, core_in, cores, inside, is_kept, keep, number_of, numbered_is, outermost, sort, sort_in, sorts, standing_of}

-- ---- names

pub same_name : (x y : List ℕ) → bytes_eq x y ≡ true → x ≡ y
same_name x y e = (bytes_eq-Decides x y).0 e

pub eq_itself : (x : List ℕ) → bytes_eq x x ≡ true
eq_itself x = (bytes_eq-Decides x x).1 refl

pub some_same : {A : Type 0} (a b : A) → Some a ≡ Some b → a ≡ b
some_same a b e = cc

-- ---- marks of a block

pub standing_more : (o : OpenBlock) (m : Mark) (name : List ℕ) → standing (with_mark o m) name ≡ after_mark (is_class o.kind) name (standing o name) m
unfolding run
standing_more o m name = run-append (after_mark (is_class o.kind) name) Absent o.own (m ∷ [])

pub inner_more : (ms : List Mark) (m : Mark) → has_inner (ms ++ m ∷ []) ≡ (has_inner ms || is_inner m)
inner_more [] m = go (is_inner m)
  where
    go : (c : Bool) → (c || false) ≡ c
    go true = refl
    go false = refl
inner_more (n ∷ ms) m = ap (λ z. is_inner n || z) (inner_more ms m) ∙ go (is_inner n)
  where
    go : (c : Bool) → (c || (has_inner ms || is_inner m)) ≡ (c || has_inner ms || is_inner m)
    go true = refl
    go false = refl

pub or_false : (c : Bool) → (c || false) ≡ c
or_false true = refl
or_false false = refl

pub or_true : (c : Bool) → (c || true) ≡ true
or_true true = refl
or_true false = refl

-- ---- agreement

pub record Agrees (b : BuildingOf) (os : List OpenBlock) (n : ℕ) : Type 0 where
  pub chain : Chain (cores b.tables) (sorts b.tables) b.current os
  pub count : b.own ≡ n

pub agrees_if : (c : Bool) (b : BuildingOf) (token : ℕ) (rule : Rule) (os : List OpenBlock) (n : ℕ) → Agrees b os n → Agrees (broken_if c b token rule) os n
agrees_if true b token rule os n a = record { chain = a.chain; count = a.count }
agrees_if false b token rule os n a = a

-- the innermost block that is open
pub record Innermost (b : BuildingOf) (o : OpenBlock) (os : List OpenBlock) : Type 0 where
  pub block : ℕ
  pub row : BlockOf
  pub current : b.current ≡ Some block
  pub at : slice_get b.tables.blocks block ≡ Some row
  pub is : IsOf (sorts b.tables) block (core row) o
  pub under : Below row.encloser block
  pub rest : Chain (cores b.tables) (sorts b.tables) row.encloser os

pub data View (b : BuildingOf) : List OpenBlock → Type 0 where
  no_block : b.current ≡ None → View b []
  in_block : {o : OpenBlock} {os : List OpenBlock} → Innermost b o os → View b (o ∷ os)

row_of_core : (o : Option BlockOf) (c : Core) → core_in o ≡ Some c → (row : BlockOf) × (o ≡ Some row) × (core row ≡ c)
row_of_core None c e = absurd (cc)
row_of_core (Some row) c e = (row, refl, some_same (core row) c e)

view_from : (b : BuildingOf) (current : Option ℕ) (os : List OpenBlock) → b.current ≡ current → Chain (cores b.tables) (sorts b.tables) current os → View b os
view_from b _ _ e outermost = no_block e
view_from b _ _ e (inside {block = block} {c = c} {o = o} {os = os} at is under rest) =
    let d = row_of_core (slice_get b.tables.blocks block) c at in
    in_block (record {
      block = block;
      row = d.0;
      current = e;
      at = d.1;
      is = subst (λ z. IsOf (sorts b.tables) block z o) (sym d.2) is;
      under = subst (λ (z : Core). Below z.encloser block) (sym d.2) under;
      rest = subst (λ (z : Core). Chain (cores b.tables) (sorts b.tables) z.encloser os) (sym d.2) rest;
    })

pub view : (b : BuildingOf) (os : List OpenBlock) (n : ℕ) → Agrees b os n → View b os
view b os n a = view_from b b.current os refl a.chain

-- ---- what stays in tables

pub core_append : (xs ys : List BlockOf) (k : ℕ) (c : Core) → core_in (slice_get xs k) ≡ Some c → core_in (slice_get (xs ++ ys) k) ≡ Some c
core_append [] ys k c e = absurd (none k e)
  where
    none : (k : ℕ) → core_in (slice_get [] k) ≡ Some c → ⊥
    none zero e = cc
    none (suc k) e = cc
core_append (x ∷ xs) ys zero c e = e
core_append (x ∷ xs) ys (suc k) c e = core_append xs ys k c e

pub sort_append : (xs ys : List Declaration) (k : ℕ) (x : Sort) → sort_in (slice_get xs k) ≡ Some x → sort_in (slice_get (xs ++ ys) k) ≡ Some x
sort_append [] ys k x e = absurd (none k e)
  where
    none : (k : ℕ) → sort_in (slice_get [] k) ≡ Some x → ⊥
    none zero e = cc
    none (suc k) e = cc
sort_append (y ∷ xs) ys zero x e = e
sort_append (y ∷ xs) ys (suc k) x e = sort_append xs ys k x e

pub core_set : (xs : List BlockOf) (j : ℕ) (row new : BlockOf) → slice_get xs j ≡ Some row → core new ≡ core row → (k : ℕ) (c : Core) → core_in (slice_get xs k) ≡ Some c → core_in (slice_get (slice_set xs j new) k) ≡ Some c
core_set xs j row new at same k c e = kept_set core_in xs j row new at (ap Some same) k ∙ e

pub core_other : (xs : List BlockOf) (j : ℕ) (new : BlockOf) (k : ℕ) (c : Core) → (k ≡ j → ⊥) → core_in (slice_get xs k) ≡ Some c → core_in (slice_get (slice_set xs j new) k) ≡ Some c
core_other xs j new k c other e = ap core_in (set_other xs j k new (go (nat_eq j k) refl)) ∙ e
  where
    go : (f : Bool) → nat_eq j k ≡ f → nat_eq j k ≡ false
    go true is = absurd (other (grind (arith, nat_tests, is)))
    go false is = is

sort_other : (xs : List Declaration) (j : ℕ) (new : Declaration) (k : ℕ) → (k ≡ j → ⊥) → sort_in (slice_get (slice_set xs j new) k) ≡ sort_in (slice_get xs k)
sort_other xs j new k other = ap sort_in (set_other xs j k new (go (nat_eq j k) refl))
  where
    go : (f : Bool) → nat_eq j k ≡ f → nat_eq j k ≡ false
    go true is = absurd (other (grind (arith, nat_tests, is)))
    go false is = is

-- all rows and declarations stay
pub keep_all : (co co2 : Cores) (so so2 : Sorts) (current : Option ℕ) (os : List OpenBlock) → ((k : ℕ) (c : Core) → co k ≡ Some c → co2 k ≡ Some c) → ((d : ℕ) (x : Sort) → so d ≡ Some x → so2 d ≡ Some x) → Chain co so current os → Chain co2 so2 current os
keep_all co co2 so so2 _ _ kc ks outermost = outermost
keep_all co co2 so so2 _ _ kc ks (inside {block = block} {c = c} {o = o} {os = os} at is under rest) =
    inside (kc block c at) (is_kept so so2 block (suc block) c o (omega arith) (λ d x lt. ks d x) is) under (keep_all co co2 so so2 c.encloser os kc ks rest)

-- ---- one mark more in the innermost block

module _ {b : BuildingOf} {o : OpenBlock} {os : List OpenBlock} (v : Innermost b o os) where
  -- it says nothing of the block's identifiers, and what is known of blocks stays
  pub quiet : (t : Tables) (m : Mark) → ((k : ℕ) (c : Core) → k < suc v.block → cores b.tables k ≡ Some c → cores t k ≡ Some c) → ((d : ℕ) (x : Sort) → sorts b.tables d ≡ Some x → sorts t d ≡ Some x)
      → ((name : List ℕ) → after_mark (is_class o.kind) name (standing o name) m ≡ standing o name) → (has_inner o.own || is_inner m) ≡ has_inner o.own → Chain (cores t) (sorts t) (Some v.block) (with_mark o m ∷ os)
  quiet t m kc ks says no_inner =
      let is = is_kept (sorts b.tables) (sorts t) v.block (suc v.block) (core v.row) o (omega arith) (λ d x lt. ks d x) v.is in
      inside (kc v.block (core v.row) (omega arith) (ap core_in v.at)) (record {
        kind = is.kind;
        level = is.level;
        inner = is.inner ∙ sym no_inner ∙ sym (inner_more o.own m);
        long = is.long;
        owned = is.owned;
        stands = λ name. is.stands name ∙ sym (says name) ∙ sym (standing_more o m name);
      }) v.under (keep (cores b.tables) (cores t) (sorts b.tables) (sorts t) v.block v.row.encloser os (λ k c lt. kc k c (omega (arith, lt))) (λ d x lt. ks d x) v.under v.rest)

  -- its row is another one
  pub updated : (t : Tables) (m : Mark) (c : Core) → cores t v.block ≡ Some c → c.encloser ≡ v.row.encloser → KeepsCores (cores b.tables) (cores t) v.block → KeepsSorts (sorts b.tables) (sorts t) v.block → IsOf (sorts t) v.block c (with_mark o m)
      → Chain (cores t) (sorts t) (Some v.block) (with_mark o m ∷ os)
  updated t m c at out kc ks is =
      inside at is (subst (λ z. Below z v.block) (sym out) v.under)
      (subst (λ z. Chain (cores t) (sorts t) z os) (sym out) (keep (cores b.tables) (cores t) (sorts b.tables) (sorts t) v.block v.row.encloser os kc ks v.under v.rest))

  -- a row that is set keeps what matters
  pub set_same : (new : BlockOf) → core new ≡ core v.row → (k : ℕ) (c : Core) → cores b.tables k ≡ Some c → core_in (slice_get (slice_set b.tables.blocks v.block new) k) ≡ Some c
  set_same new same k c e = core_set b.tables.blocks v.block v.row new v.at same k c e

  -- the declaration of an identifier of the block
  pub number_at : (name : List ℕ) → declared_in (Some v.row) name ≡ number_of v.row.names v.row.numbers name
  number_at name = numbered_is v.row.names v.row.numbers name v.is.long

  pub found_at : (name : List ℕ) → found_in b.tables b.current name ≡ number_of v.row.names v.row.numbers name
  unfolding lookup
  found_at name = ap (λ z. found_in b.tables z name) v.current ∙ ap (λ z. declared_in z name) v.at ∙ number_at name

  -- an entry of the block is replaced
  module _ (x : Identifier) (d : DeclNo) (row : Declaration) (e : Entry) (m : Mark) (change : Standing → Standing)
      (has : number_of v.row.names v.row.numbers x.name ≡ Some d) (at : slice_get b.tables.declarations d.0 ≡ Some row) (says : (name : List ℕ) (st : Standing) → after_mark (is_class o.kind) name st m ≡ if_its_own name x change st)
      (to : change (standing o x.name) ≡ stands_as row.token.0 e) (no_inner : is_inner m ≡ false) where
    abbrev pub t : Tables
    t = record b.tables { declarations = slice_set b.tables.declarations d.0 (record row { entry = e }) }

    own : Owned (sorts b.tables) v.block x.name d
    own = v.is.owned x.name d has

    own_sort : sort row ≡ own.x
    own_sort = some_same (sort row) own.x (sym (ap sort_in at) ∙ own.there)

    its_block : row.block ≡ v.block
    unfolding own own_sort
    its_block = ap (λ z. z.block) own_sort ∙ own.its_block

    its_name : row.name ≡ x.name
    unfolding own own_sort
    its_name = ap (λ z. z.name) own_sort ∙ own.its_name

    new_there : sorts t d.0 ≡ Some (sort (record row { entry = e }))
    new_there = ap sort_in (set_here b.tables.declarations d.0 row (record row { entry = e }) at)

    -- other declarations stay
    other_stays : (k : ℕ) → (k ≡ d.0 → ⊥) → sorts t k ≡ sorts b.tables k
    other_stays k other = sort_other b.tables.declarations d.0 (record row { entry = e }) k other

    outer_stay : KeepsSorts (sorts b.tables) (sorts t) v.block
    outer_stay k y lt e = other_stays k (λ same. absurd (clash same)) ∙ e
      where
        clash : k ≡ d.0 → ⊥
        clash same =
            let there : Some (sort row) ≡ Some y = sym (ap sort_in at) ∙ sym (ap (λ z. sorts b.tables z) same) ∙ e in
            let its : row.block ≡ y.block = ap (λ z. z.block) (some_same (sort row) y there) in
            let at_block = its_block in omega (arith, lt, its, at_block)

    -- a number of another name is another number
    apart : (name : List ℕ) (c : DeclNo) → number_of v.row.names v.row.numbers name ≡ Some c → bytes_eq name x.name ≡ false → c.0 ≡ d.0 → ⊥
    apart name c here differs same =
        let w = v.is.owned name c here in
        let one : Some w.x ≡ Some own.x = sym w.there ∙ ap (λ z. sorts b.tables z) same ∙ own.there in
        let names : name ≡ x.name = sym w.its_name ∙ ap (λ z. z.name) (some_same w.x own.x one) ∙ own.its_name in
        let eq : bytes_eq name x.name ≡ true = ap (λ z. bytes_eq z x.name) names ∙ eq_itself x.name in cc

    owned_after : (name : List ℕ) (c : DeclNo) → number_of v.row.names v.row.numbers name ≡ Some c → Owned (sorts t) v.block name c
    owned_after name c here = go (nat_eq c.0 d.0) refl
      where
        go : (f : Bool) → nat_eq c.0 d.0 ≡ f → Owned (sorts t) v.block name c
        go true is =
            let same : c.0 ≡ d.0 = grind (arith, nat_tests, is) in
            let w = v.is.owned name c here in
            let one : Some w.x ≡ Some (sort row) = sym w.there ∙ ap (λ z. sorts b.tables z) same ∙ ap sort_in at in
            record { x = sort (record row { entry = e }); there = ap (λ z. sorts t z) same ∙ new_there; its_block = its_block; its_name = sym (ap (λ z. z.name) (some_same w.x (sort row) one)) ∙ w.its_name }
        go false is =
            let w = v.is.owned name c here in
            record { x = w.x; there = other_stays c.0 (λ same. absurd (differ same)) ∙ w.there; its_block = w.its_block; its_name = w.its_name }
          where
            differ : c.0 ≡ d.0 → ⊥
            differ same = let no_eq : nat_eq c.0 d.0 ≡ true = grind (arith, nat_tests, same) in cc

    stands_after : (name : List ℕ) (q : Option DeclNo) → number_of v.row.names v.row.numbers name ≡ q → standing_of (sorts t) q ≡ after_mark (is_class o.kind) name (standing o name) m
    stands_after name q here = go (bytes_eq name x.name) refl q here ∙ sym (says name (standing o name))
      where
        go : (f : Bool) → bytes_eq name x.name ≡ f → (q : Option DeclNo) → number_of v.row.names v.row.numbers name ≡ q → standing_of (sorts t) q ≡ if_its_own name x change (standing o name)
        go true is q here =
            let same : name ≡ x.name = same_name name x.name is in
            let q_is : q ≡ Some d = sym here ∙ ap (number_of v.row.names v.row.numbers) same ∙ has in
            ap (standing_of (sorts t)) q_is ∙ ap (λ z. elim z as (λ _. Standing) [ None ↦ Absent | Some y ↦ y.standing ]) new_there ∙ sym to ∙ ap (λ z. change (standing o z)) (sym same)
            ∙ sym (ap (λ c. if c then change (standing o name) else standing o name) is)
        go false is None here = sym (ap (standing_of (sorts b.tables)) here) ∙ v.is.stands name ∙ sym (ap (λ c. if c then change (standing o name) else standing o name) is)
        go false is (Some c) here =
            ap (λ z. elim z as (λ _. Standing) [ None ↦ Absent | Some y ↦ y.standing ]) (other_stays c.0 (apart name c here is)) ∙ sym (ap (standing_of (sorts b.tables)) here) ∙ v.is.stands name
            ∙ sym (ap (λ c. if c then change (standing o name) else standing o name) is)

    pub replaced_entry : Chain (cores t) (sorts t) (Some v.block) (with_mark o m ∷ os)
    replaced_entry =
        updated t m (core v.row) (ap core_in v.at) refl (λ k c lt e. e) outer_stay
        (record {
          kind = v.is.kind;
          level = v.is.level;
          inner = v.is.inner ∙ sym (inner_more o.own m ∙ ap (λ z. has_inner o.own || z) no_inner ∙ or_false (has_inner o.own));
          long = v.is.long;
          owned = owned_after;
          stands = λ name. stands_after name (number_of v.row.names v.row.numbers name) refl ∙ sym (standing_more o m name);
        })
