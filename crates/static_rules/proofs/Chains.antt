-- The tables of the text in front of a place, and what is known there.
use Rattle.std.proofs.Common.{◌≡◌, ◌<◌, ◌≤◌, ◌+◌, ℕ, suc, Bool, true, false, not, if◌then◌else◌, List, [], ◌∷◌, ◌++◌, length, Option, Some, None, refl, sym, ap, ◌∙◌, subst, arith, nat_lt, cond, position}
use Rattle.std.proofs.lemmas.Bool.Decides.{nat_tests}
use Rattle.std.specs.List.{list_any, position_or_len}
use Rattle.std.specs.Prelude.{◌||◌, slice_get}
use Rattle.std.specs.Str.{bytes_eq}
use Rattle.sim_base.specs.declared.numbering.DeclNo.{DeclNo}
use Rattle.sim_scope.specs.Scopes.{numbered}
use Rattle.sim_scope.specs.Tables.{BlockOf, Tables}
use Rattle.sim_scope.specs.declared.scopes.Declaration.{Declaration}
use Rattle.sim_scope.specs.declared.types.BlockKind.{BlockKind}
use Rattle.static_rules.specs.Reading.{Absent, OpenBlock, Standing, has_inner, standing, stands_as}

-- ---- names and their numbers

-- the number of a name in a block's lists
abbrev pub number_of : List (List ℕ) → List DeclNo → List ℕ → Option DeclNo
number_of [] ds name = None
number_of (y ∷ ys) [] name = None
number_of (y ∷ ys) (d ∷ ds) name = if bytes_eq name y then Some d else number_of ys ds name

abbrev pub is_some : {A : Type 0} → Option A → Bool
is_some None = false
is_some (Some x) = true

pub any_number : (ys : List (List ℕ)) (ds : List DeclNo) (name : List ℕ) → length ys ≡ length ds → list_any (bytes_eq name) ys ≡ is_some (number_of ys ds name)
any_number [] ds name e = refl
any_number (y ∷ ys) [] name e = absurd (omega (arith, e))
any_number (y ∷ ys) (d ∷ ds) name e = go (any_number ys ds name (omega (arith, e))) (bytes_eq name y)
  where
    go : list_any (bytes_eq name) ys ≡ is_some (number_of ys ds name) → (c : Bool) → (c || list_any (bytes_eq name) ys) ≡ is_some (if c then Some d else number_of ys ds name)
    go rest true = refl
    go rest false = rest

pub numbered_is : (ys : List (List ℕ)) (ds : List DeclNo) (name : List ℕ) → length ys ≡ length ds → numbered ds (position (bytes_eq name) ys) ≡ number_of ys ds name
numbered_is [] ds name e = refl
numbered_is (y ∷ ys) [] name e = absurd (omega (arith, e))
numbered_is (y ∷ ys) (d ∷ ds) name e = go (numbered_is ys ds name (omega (arith, e))) (bytes_eq name y)
  where
    later : (c : Bool) → nat_lt (position_or_len (bytes_eq name) ys) (length ys) ≡ c → numbered (d ∷ ds) (cond (nat_lt (1 + position_or_len (bytes_eq name) ys) (length (y ∷ ys))) (Some (1 + position_or_len (bytes_eq name) ys)) None)
        ≡ numbered ds (cond (nat_lt (position_or_len (bytes_eq name) ys) (length ys)) (Some (position_or_len (bytes_eq name) ys)) None)
    later true lt =
        let more : nat_lt (1 + position_or_len (bytes_eq name) ys) (length (y ∷ ys)) ≡ true = grind (arith, nat_tests, lt) in
        let next : 1 + position_or_len (bytes_eq name) ys ≡ suc (position_or_len (bytes_eq name) ys) = omega arith in
        ap (λ c. numbered (d ∷ ds) (cond c (Some (1 + position_or_len (bytes_eq name) ys)) None)) more ∙ ap (slice_get (d ∷ ds)) next ∙ sym (ap (λ c. numbered ds (cond c (Some (position_or_len (bytes_eq name) ys)) None)) lt)
    later false lt =
        let more : nat_lt (1 + position_or_len (bytes_eq name) ys) (length (y ∷ ys)) ≡ false = grind (arith, nat_tests, lt) in
        ap (λ c. numbered (d ∷ ds) (cond c (Some (1 + position_or_len (bytes_eq name) ys)) None)) more ∙ sym (ap (λ c. numbered ds (cond c (Some (position_or_len (bytes_eq name) ys)) None)) lt)

    go : numbered ds (position (bytes_eq name) ys) ≡ number_of ys ds name → (c : Bool) → numbered (d ∷ ds) (cond (nat_lt (cond (not c) (1 + position_or_len (bytes_eq name) ys) 0) (length (y ∷ ys))) (Some (cond (not c) (1 + position_or_len (bytes_eq name) ys) 0)) None)
        ≡ (if c then Some d else number_of ys ds name)
    go rest true = let first : nat_lt 0 (length (y ∷ ys)) ≡ true = grind (arith, nat_tests) in ap (λ c. numbered (d ∷ ds) (cond c (Some 0) None)) first
    go rest false = later (nat_lt (position_or_len (bytes_eq name) ys) (length ys)) refl ∙ rest

pub number_more : (ys : List (List ℕ)) (ds : List DeclNo) (y : List ℕ) (d : DeclNo) (name : List ℕ) → length ys ≡ length ds
    → number_of (ys ++ y ∷ []) (ds ++ d ∷ []) name ≡ (elim (number_of ys ds name) as (λ _. Option DeclNo) [ Some e ↦ Some e | None ↦ if bytes_eq name y then Some d else None ])
number_more [] [] y d name e = refl
number_more [] (c ∷ ds) y d name e = absurd (omega (arith, e))
number_more (z ∷ ys) [] y d name e = absurd (omega (arith, e))
number_more (z ∷ ys) (c ∷ ds) y d name e = go (number_more ys ds y d name (omega (arith, e))) (bytes_eq name z)
  where
    go : number_of (ys ++ y ∷ []) (ds ++ d ∷ []) name ≡ (elim (number_of ys ds name) as (λ _. Option DeclNo) [ Some e ↦ Some e | None ↦ if bytes_eq name y then Some d else None ])
        → (f : Bool) → (if f then Some c else number_of (ys ++ y ∷ []) (ds ++ d ∷ []) name)
        ≡ (elim (if f then Some c else number_of ys ds name) as (λ _. Option DeclNo) [ Some e ↦ Some e | None ↦ if bytes_eq name y then Some d else None ])
    go rest true = refl
    go rest false = rest

-- ---- rows

-- what matters of a block, and of a declaration
pub record Core : Type 0 where
  pub kind : BlockKind
  pub level : ℕ
  pub encloser : Option ℕ
  pub names : List (List ℕ)
  pub numbers : List DeclNo
  pub inner : Option ℕ

abbrev pub core : BlockOf → Core
core row = record { kind = row.kind; level = row.level; encloser = row.encloser; names = row.names; numbers = row.numbers; inner = row.inner }

abbrev pub core_in : Option BlockOf → Option Core
core_in None = None
core_in (Some row) = Some (core row)

pub record Sort : Type 0 where
  pub block : ℕ
  pub name : List ℕ
  pub token : ℕ
  pub standing : Standing

abbrev pub sort : Declaration → Sort
sort row = record { block = row.block; name = row.name; token = row.token.0; standing = stands_as row.token.0 row.entry }

abbrev pub sort_in : Option Declaration → Option Sort
sort_in None = None
sort_in (Some row) = Some (sort row)

abbrev pub Cores : Type 0
Cores = ℕ → Option Core

abbrev pub Sorts : Type 0
Sorts = ℕ → Option Sort

abbrev pub cores : Tables → Cores
cores s block = core_in (slice_get s.blocks block)

abbrev pub sorts : Tables → Sorts
sorts s d = sort_in (slice_get s.declarations d)

-- ---- the blocks that are open

abbrev pub standing_of : Sorts → Option DeclNo → Standing
standing_of so None = Absent
standing_of so (Some d) = (elim (so d.0) [ None ↦ Absent | Some x ↦ x.standing ])

-- what a block has of the name of one of its numbers
pub record Owned (so : Sorts) (block : ℕ) (name : List ℕ) (d : DeclNo) : Type 0 where
  pub x : Sort
  pub there : so d.0 ≡ Some x
  pub its_block : x.block ≡ block
  pub its_name : x.name ≡ name

pub record IsOf (so : Sorts) (block : ℕ) (c : Core) (o : OpenBlock) : Type 0 where
  pub kind : c.kind ≡ o.kind
  pub level : c.level ≡ o.level
  pub inner : is_some c.inner ≡ has_inner o.own
  pub long : length c.names ≡ length c.numbers
  pub owned : (name : List ℕ) (d : DeclNo) → number_of c.names c.numbers name ≡ Some d → Owned so block name d
  pub stands : (name : List ℕ) → standing_of so (number_of c.names c.numbers name) ≡ standing o name

abbrev pub Below : Option ℕ → ℕ → Type 0
Below None n = Unit {0}
Below (Some k) n = k < n

pub data Chain (co : Cores) (so : Sorts) : Option ℕ → List OpenBlock → Type 0 where
  outermost : Chain co so None []
  inside : {block : ℕ} {c : Core} {o : OpenBlock} {os : List OpenBlock} → co block ≡ Some c → IsOf so block c o → Below c.encloser block → Chain co so c.encloser os → Chain co so (Some block) (o ∷ os)

below_later : (o : Option ℕ) (m n : ℕ) → Below o m → m ≤ n → Below o n
below_later None m n b le = tt
below_later (Some k) m n b le = omega (arith, b, le)

-- ---- what stays

abbrev pub KeepsCores : Cores → Cores → ℕ → Type 0
KeepsCores co co2 n = (k : ℕ) (c : Core) → k < n → co k ≡ Some c → co2 k ≡ Some c

abbrev pub KeepsSorts : Sorts → Sorts → ℕ → Type 0
KeepsSorts so so2 n = (d : ℕ) (x : Sort) → x.block < n → so d ≡ Some x → so2 d ≡ Some x

owned_kept : (so so2 : Sorts) (block n : ℕ) (name : List ℕ) (d : DeclNo) → block < n → KeepsSorts so so2 n → Owned so block name d → Owned so2 block name d
owned_kept so so2 block n name d lt keeps w = record { x = w.x; there = keeps d.0 w.x (subst (λ k. k < n) (sym w.its_block) lt) w.there; its_block = w.its_block; its_name = w.its_name }

same_standing : (so so2 : Sorts) (d : DeclNo) (x : Sort) → so d.0 ≡ Some x → so2 d.0 ≡ Some x → standing_of so2 (Some d) ≡ standing_of so (Some d)
same_standing so so2 d x at at2 = ap (λ z. elim z as (λ _. Standing) [ None ↦ Absent | Some x ↦ x.standing ]) (at2 ∙ sym at)

standing_kept : (so so2 : Sorts) (block n : ℕ) (name : List ℕ) (o : Option DeclNo) → block < n → KeepsSorts so so2 n → ((d : DeclNo) → o ≡ Some d → Owned so block name d) → standing_of so2 o ≡ standing_of so o
standing_kept so so2 block n name None lt keeps owned = refl
standing_kept so so2 block n name (Some d) lt keeps owned =
    let w = owned d refl in same_standing so so2 d w.x w.there (keeps d.0 w.x (subst (λ k. k < n) (sym w.its_block) lt) w.there)

pub is_kept : (so so2 : Sorts) (block n : ℕ) (c : Core) (o : OpenBlock) → block < n → KeepsSorts so so2 n → IsOf so block c o → IsOf so2 block c o
is_kept so so2 block n c o lt keeps is = record {
  kind = is.kind;
  level = is.level;
  inner = is.inner;
  long = is.long;
  owned = λ name d at. owned_kept so so2 block n name d lt keeps (is.owned name d at);
  stands = λ name. standing_kept so so2 block n name (number_of c.names c.numbers name) lt keeps (is.owned name) ∙ is.stands name;
}

pub keep : (co co2 : Cores) (so so2 : Sorts) (n : ℕ) (current : Option ℕ) (os : List OpenBlock) → KeepsCores co co2 n → KeepsSorts so so2 n → Below current n → Chain co so current os → Chain co2 so2 current os
keep co co2 so so2 n _ _ kc ks b outermost = outermost
keep co co2 so so2 n _ _ kc ks b (inside {block = block} {c = c} {o = o} {os = os} at is under rest) =
    inside (kc block c b at) (is_kept so so2 block n c o b ks is) under (keep co co2 so so2 n c.encloser os kc ks (below_later c.encloser block n under (omega (arith, b))) rest)
