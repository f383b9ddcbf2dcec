-- Rows come to their uses token by token.
use Rattle.std.proofs.Common.{◌≡◌, ◌<◌, ◌≤◌, ◌+◌, true, false, if◌then◌else◌, ℕ, zero, suc, List, [], ◌∷◌, ◌++◌, Option, Some, None, refl, sym, ap, ◌∙◌, drop, take, length, append_assoc, append-nil, arith}
use Rattle.std.proofs.lemmas.Bool.Decides.{nat_tests}
use Rattle.std.proofs.lemmas.List.{drop_more, drop_all, take_all, take_more}
use Rattle.std.specs.Prelude.{nat_eq, slice_get, slice_index_or}
use Rattle.sim_base.specs.declared.numbering.DeclNo.{DeclNo}
use Rattle.sim_base.specs.declared.numbering.TokenNo.{TokenNo}
use Rattle.sim_scope.specs.declared.scopes.Declaration.{Declaration}
use Rattle.sim_scope.specs.declared.scopes.Denotation.{Denotation}
use Rattle.sim_scope.specs.declared.scopes.Denotation.TheVariants as denotation
use Rattle.sim_scope.specs.Source.{Source}
use Rattle.sim_xref.specs.Filling.{Fills, unused, unused_from, used_once, with_use, with_uses}
use Rattle.sim_xref.specs.Rows.{RowOf, row, rows_from, uses_from}

-- all declarations without uses, given all their uses
pub rows_filled : (s : Source) (number : ℕ) (ds : List Declaration) → with_uses 0 s.uses number (unused_from number ds) ≡ rows_from s number ds
unfolding with_uses
rows_filled s number [] = refl
rows_filled s number (d ∷ ds) = ap (λ rs. row s number d ∷ rs) (rows_filled s (number + 1) ds)

-- one declaration more
one_unused : (number : ℕ) (ds : List Declaration) (d : Declaration) → unused_from number (ds ++ d ∷ []) ≡ unused_from number ds ++ unused (number + length ds) d ∷ []
one_unused number [] d = ap (λ n. unused n d ∷ []) (omega arith)
one_unused number (x ∷ ds) d =
    let behind : number + 1 + length ds ≡ number + length (x ∷ ds) = omega arith in
    ap (λ rs. unused number x ∷ rs) (one_unused (number + 1) ds d ∙ ap (λ n. unused_from (number + 1) ds ++ unused n d ∷ []) behind)

length-unused : (number : ℕ) (ds : List Declaration) → length (unused_from number ds) ≡ length ds
length-unused number [] = refl
length-unused number (d ∷ ds) = let more : length (unused_from (number + 1) ds) ≡ length ds = length-unused (number + 1) ds in omega (arith, more)

pub unused_more : (ds : List Declaration) (i : ℕ) (d : Declaration) (now new : List RowOf) → i < length ds → now ≡ unused_from 0 (take i ds) → d ≡ slice_index_or ds i d → new ≡ now ++ unused (length now) d ∷ []
    → new ≡ unused_from 0 (take (i + 1) ds)
unused_more ds i d now new lt so_far is more =
    let here : length now ≡ 0 + length (take i ds) = ap length so_far ∙ length-unused 0 (take i ds) ∙ omega arith in
    more ∙ ap (λ rs. rs ++ unused (length now) d ∷ []) so_far ∙ ap (λ n. unused_from 0 (take i ds) ++ unused n d ∷ []) here
    ∙ sym (ap (unused_from 0) (take_more ds i d lt ∙ ap (λ x. take i ds ++ x ∷ []) (sym is)) ∙ one_unused 0 (take i ds) d)

pub unused_all : (ds : List Declaration) (i : ℕ) (now : List RowOf) → now ≡ unused_from 0 (take i ds) → length ds ≤ i → now ≡ unused_from 0 ds
unused_all ds i now so_far le = so_far ∙ ap (unused_from 0) (take_all i ds le)

-- a token that denotes no declaration is no use
no_use : (i : ℕ) (os : List (Option Denotation)) (number : ℕ) (rs : List RowOf) → with_uses (i + 1) os number rs ≡ with_uses i (None ∷ os) number rs
unfolding with_uses
no_use i os number [] = refl
no_use i os number (r ∷ rs) = ap (λ xs. record r { uses = r.uses ++ uses_from (i + 1) os number } ∷ xs) (no_use i os (number + 1) rs)

standard_use : (i : ℕ) (os : List (Option Denotation)) (number : ℕ) (name : _) (rs : List RowOf) → with_uses (i + 1) os number rs ≡ with_uses i (Some (denotation.Standard name) ∷ os) number rs
unfolding with_uses
standard_use i os number name [] = refl
standard_use i os number name (r ∷ rs) = ap (λ xs. record r { uses = r.uses ++ uses_from (i + 1) os number } ∷ xs) (standard_use i os (number + 1) name rs)

-- one that denotes a declaration is no use of those behind it
other_use : (i : ℕ) (os : List (Option Denotation)) (number : ℕ) (d : DeclNo) (rs : List RowOf) → d.0 < number → with_uses (i + 1) os number rs ≡ with_uses i (Some (denotation.Declared d) ∷ os) number rs
unfolding with_uses
other_use i os number d [] lt = refl
other_use i os number d (r ∷ rs) lt =
    let other : nat_eq d.0 number ≡ false = grind (arith, nat_tests) in
    let uses : uses_from (i + 1) os number ≡ (if nat_eq d.0 number then record { 0 = i } ∷ uses_from (i + 1) os number else uses_from (i + 1) os number) =
    sym (ap (λ b. if b then record { 0 = i } ∷ uses_from (i + 1) os number else uses_from (i + 1) os number) other) in
    ap (λ us. record r { uses = r.uses ++ us } ∷ with_uses (i + 1) os (number + 1) rs) uses
    ∙ ap (λ xs. record r { uses = r.uses ++ (if nat_eq d.0 number then record { 0 = i } ∷ uses_from (i + 1) os number else uses_from (i + 1) os number) } ∷ xs)
    (other_use i os (number + 1) d rs (omega (arith, lt)))

-- behind the first row
once_behind : (token : TokenNo) (r : RowOf) (rs : List RowOf) (k : ℕ) → used_once token (slice_get rs k) (suc k) (r ∷ rs) ≡ r ∷ used_once token (slice_get rs k) k rs
once_behind token r rs k = elim (slice_get rs k) as (λ x. used_once token x (suc k) (r ∷ rs) ≡ r ∷ used_once token x k rs) [ None ↦ refl | Some x ↦ refl ]

-- one that denotes a declaration is a use of that one, and of no other
own_use : (i : ℕ) (os : List (Option Denotation)) (number : ℕ) (d : DeclNo) (rs : List RowOf) (k : ℕ) → d.0 ≡ number + k
    → with_uses (i + 1) os number (used_once (record { 0 = i }) (slice_get rs k) k rs) ≡ with_uses i (Some (denotation.Declared d) ∷ os) number rs
unfolding with_uses
own_use i os number d [] k is = refl
own_use i os number d (r ∷ rs) zero is =
    let same : nat_eq d.0 number ≡ true = grind (arith, nat_tests) in
    let token : TokenNo = record { 0 = i } in
    let more = uses_from (i + 1) os number in
    let here : (r.uses ++ token ∷ []) ++ more ≡ r.uses ++ (if nat_eq d.0 number then token ∷ more else more) =
    append_assoc r.uses (token ∷ []) more ∙ sym (ap (λ b. r.uses ++ (if b then token ∷ more else more)) same) in
    ap (λ us. record r { uses = us } ∷ with_uses (i + 1) os (number + 1) rs) here
    ∙ ap (λ xs. record r { uses = r.uses ++ (if nat_eq d.0 number then token ∷ more else more) } ∷ xs) (other_use i os (number + 1) d rs (omega (arith, is)))
own_use i os number d (r ∷ rs) (suc k) is =
    let other : nat_eq d.0 number ≡ false = grind (arith, nat_tests) in
    let token : TokenNo = record { 0 = i } in
    let more = uses_from (i + 1) os number in
    let here : r.uses ++ more ≡ r.uses ++ (if nat_eq d.0 number then token ∷ more else more) = sym (ap (λ b. r.uses ++ (if b then token ∷ more else more)) other) in
    ap (with_uses (i + 1) os number) (once_behind token r rs k)
    ∙ ap (λ us. record r { uses = us } ∷ with_uses (i + 1) os (number + 1) (used_once token (slice_get rs k) k rs)) here
    ∙ ap (λ xs. record r { uses = r.uses ++ (if nat_eq d.0 number then token ∷ more else more) } ∷ xs) (own_use i os (number + 1) d rs k (omega (arith, is)))

pub token_used : (i : ℕ) (os : List (Option Denotation)) (o : Option Denotation) (rs : List RowOf) → with_uses (i + 1) os 0 (with_use (record { 0 = i }) o rs) ≡ with_uses i (o ∷ os) 0 rs
unfolding with_use
token_used i os None rs = no_use i os 0 rs
token_used i os (Some (denotation.Standard name)) rs = standard_use i os 0 name rs
token_used i os (Some (denotation.Declared d)) rs = own_use i os 0 d rs d.0 (omega arith)

-- the loop over the tokens
pub fills_none : (os : List (Option Denotation)) (rs : List RowOf) → Fills os rs rs 0
unfolding Fills
fills_none os rs = refl

pub fills_next : (os : List (Option Denotation)) (before now new : List RowOf) (i : ℕ) (token : TokenNo) (o : Option Denotation) → Fills os before now i → i < length os → token.0 ≡ i
    → new ≡ with_use token (slice_index_or os i o) now → Fills os before new (i + 1)
unfolding Fills
fills_next os before now new i token o so_far lt is step =
    let x = slice_index_or os i o in
    let same : token ≡ record { 0 = i } = ap (λ n. record { 0 = n }) is in
    ap (with_uses (i + 1) (drop (i + 1) os) 0) (step ∙ ap (λ t. with_use t x now) same)
    ∙ token_used i (drop (i + 1) os) x now
    ∙ ap (λ xs. with_uses i xs 0 now) (sym (drop_more os i o lt))
    ∙ so_far

nothing_left : (i number : ℕ) (rs : List RowOf) → with_uses i [] number rs ≡ rs
unfolding with_uses
nothing_left i number [] = refl
nothing_left i number (r ∷ rs) = ap (λ us. record r { uses = us } ∷ with_uses i [] (number + 1) rs) (append-nil r.uses) ∙ ap (λ xs. r ∷ xs) (nothing_left i (number + 1) rs)

pub fills_all : (os : List (Option Denotation)) (before now : List RowOf) (i : ℕ) → Fills os before now i → length os ≤ i → now ≡ with_uses 0 os 0 before
unfolding Fills
fills_all os before now i so_far le = sym (nothing_left i 0 now) ∙ ap (λ xs. with_uses i xs 0 now) (sym (drop_all i os le)) ∙ so_far

pub ruleset filling = (fills_none, fills_next, fills_all)
