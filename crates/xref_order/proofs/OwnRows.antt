-- The declarations that the source itself has, among all rows.
use Rattle.std.proofs.Common.{◌≡◌, ◌<◌, arith, ℕ, zero, suc, Bool, true, false, if◌then◌else◌, List, [], ◌∷◌, ◌++◌, Some, None, length, refl, sym, ap, ◌∙◌, subst, append-nil}
use Rattle.std.proofs.lemmas.Bool.{false≢true}
use Rattle.std.proofs.lemmas.Bool.Decides.{nat_tests}
use Rattle.std.proofs.lemmas.Option.{slice_get_past}
use Rattle.std.specs.List.{AllByRecursion}
use Rattle.std.specs.Prelude.{nat_eq, slice_get, slice_set}
use Rattle.sim_scope.proofs.Kept.{more_other, set_here, set_other}
use Rattle.sim_scope.specs.Access.{is_so, kind_in}
use Rattle.sim_scope.specs.Levels.{is_standard_class}
use Rattle.sim_scope.specs.Runs.{run}
use Rattle.sim_scope.specs.Tables.{BlockOf, Tables}
use Rattle.sim_scope.specs.declared.scopes.Declaration.{Declaration}
use Rattle.sim_scope.specs.declared.types.Entry.{Entry}
use Rattle.sim_scope.specs.declared.types.Entry.TheVariants as entry
use Rattle.sim_tree.specs.Named.{IsAscending}

-- ---- some of a list, in its order

pub data Some_of : List ℕ → List ℕ → Type 0 where
  nil : Some_of [] []
  over : {xs ys : List ℕ} (y : ℕ) → Some_of xs ys → Some_of xs (y ∷ ys)
  keep : {xs ys : List ℕ} (x : ℕ) → Some_of xs ys → Some_of (x ∷ xs) (x ∷ ys)

pub same : (xs : List ℕ) → Some_of xs xs
same [] = nil
same (x ∷ xs) = keep x (same xs)

pub no_one : (ys : List ℕ) → Some_of [] ys
no_one [] = nil
no_one (y ∷ ys) = over y (no_one ys)

pub along : {xs ys zs : List ℕ} → Some_of xs ys → Some_of ys zs → Some_of xs zs
along f (over z g) = over z (along f g)
along nil nil = nil
along (over y f) (keep x g) = over x (along f g)
along (keep _ f) (keep x g) = keep x (along f g)

pub both : {xs ys us vs : List ℕ} → Some_of xs ys → Some_of us vs → Some_of (xs ++ us) (ys ++ vs)
both nil g = g
both (over y f) g = over y (both f g)
both (keep x f) g = keep x (both f g)

pub with_more : (ys zs : List ℕ) → Some_of ys (ys ++ zs)
with_more ys zs = subst (λ l. Some_of l (ys ++ zs)) (append-nil ys) (both (same ys) (no_one zs))

above : (x : ℕ) {xs ys : List ℕ} → Some_of xs ys → AllByRecursion (λ y. x < y) ys → AllByRecursion (λ y. x < y) xs
above x nil all = tt
above x (over y f) all = above x f all.1
above x (keep y f) all = (all.0, above x f all.1)

pub ascend : {xs ys : List ℕ} → Some_of xs ys → IsAscending ys → IsAscending xs
ascend nil h = tt
ascend (over y f) h = ascend f h.1
ascend (keep x f) h = (above x f h.0, ascend f h.1)

-- ---- rows

abbrev pub is_standard : List BlockOf → ℕ → Bool
is_standard blocks n = is_so is_standard_class (kind_in (slice_get blocks n))

-- what a standard prefix declares
abbrev pub brought : List BlockOf → Entry → Bool
brought blocks (entry.Class n) = is_standard blocks n
brought blocks (entry.Attribute name parameter result) = true
brought blocks e = false

-- the tokens of the other declarations
abbrev pub own_rows : List BlockOf → List Declaration → List ℕ
own_rows blocks [] = []
own_rows blocks (d ∷ ds) = if brought blocks d.entry then own_rows blocks ds else d.token.0 ∷ own_rows blocks ds

abbrev pub own_of : Tables → List ℕ
own_of s = own_rows s.blocks s.declarations

-- standard classes stay so
abbrev pub Stand : List BlockOf → List BlockOf → Type 0
Stand bs cs = (n : ℕ) → is_standard bs n ≡ true → is_standard cs n ≡ true

nowhere : (bs : List BlockOf) (n : ℕ) → slice_get bs n ≡ None → is_standard bs n ≡ true → ⊥
nowhere bs n e h = false≢true (sym (ap (λ o. is_so is_standard_class (kind_in o)) e) ∙ h)

pub stand_more : (bs : List BlockOf) (new : BlockOf) → Stand bs (bs ++ new ∷ [])
stand_more bs new n h = by (nat_eq n (length bs)) refl
  where
    by : (b : Bool) → nat_eq n (length bs) ≡ b → is_standard (bs ++ new ∷ []) n ≡ true
    by true e = absurd (nowhere bs n (slice_get_past bs n (let same : n ≡ length bs = grind (arith, nat_tests) in omega (arith, same))) h)
    by false e = ap (λ o. is_so is_standard_class (kind_in o)) (more_other bs new n e) ∙ h

pub stand_set : (bs : List BlockOf) (k : ℕ) (row new : BlockOf) → slice_get bs k ≡ Some row → new.kind ≡ row.kind → Stand bs (slice_set bs k new)
stand_set bs k row new there kind n h = by (nat_eq k n) refl
  where
    by : (b : Bool) → nat_eq k n ≡ b → is_standard (slice_set bs k new) n ≡ true
    by true e =
        let same_place : k ≡ n = grind (arith, nat_tests) in
        let at : slice_get (slice_set bs k new) n ≡ Some new = subst (λ z. slice_get (slice_set bs k new) z ≡ Some new) same_place (set_here bs k row new there) in
        let was : slice_get bs n ≡ Some row = subst (λ z. slice_get bs z ≡ Some row) same_place there in
        ap (λ o. is_so is_standard_class (kind_in o)) at ∙ ap is_standard_class kind ∙ sym (ap (λ o. is_so is_standard_class (kind_in o)) was) ∙ h
    by false e = ap (λ o. is_so is_standard_class (kind_in o)) (set_other bs k n new e) ∙ h

brought_stays : (bs cs : List BlockOf) → Stand bs cs → (e : Entry) → brought bs e ≡ true → brought cs e ≡ true
brought_stays bs cs h (entry.Class n) is = h n is
brought_stays bs cs h (entry.Attribute name parameter result) is = refl
brought_stays bs cs h _ is = absurd (false≢true is)

-- one row of both
one_row : (a b : Bool) (x : ℕ) {xs ys : List ℕ} → (a ≡ true → b ≡ true) → Some_of xs ys → Some_of (if b then xs else x ∷ xs) (if a then ys else x ∷ ys)
one_row true true x h f = f
one_row true false x h f = absurd (false≢true (h refl))
one_row false true x h f = over x f
one_row false false x h f = keep x f

pub own_stand : (bs cs : List BlockOf) → Stand bs cs → (ds : List Declaration) → Some_of (own_rows cs ds) (own_rows bs ds)
own_stand bs cs h [] = nil
own_stand bs cs h (d ∷ ds) = one_row (brought bs d.entry) (brought cs d.entry) d.token.0 (brought_stays bs cs h d.entry) (own_stand bs cs h ds)

pub own_set : (bs : List BlockOf) (ds : List Declaration) (i : ℕ) (row new : Declaration) → slice_get ds i ≡ Some row → new.token ≡ row.token → (brought bs row.entry ≡ true → brought bs new.entry ≡ true)
    → Some_of (own_rows bs (slice_set ds i new)) (own_rows bs ds)
own_set bs [] i row new there token h = absurd (cc)
own_set bs (d ∷ ds) zero row new there token h =
    let is : d ≡ row = cc in
    subst (λ z. Some_of (if brought bs new.entry then own_rows bs ds else z.0 ∷ own_rows bs ds) (if brought bs d.entry then own_rows bs ds else d.token.0 ∷ own_rows bs ds)) (ap (λ (z : Declaration). z.token) is ∙ sym token)
    (one_row (brought bs d.entry) (brought bs new.entry) d.token.0 (subst (λ (z : Declaration). brought bs z.entry ≡ true → brought bs new.entry ≡ true) (sym is) h) (same (own_rows bs ds)))
own_set bs (d ∷ ds) (suc i) row new there token h = one_row (brought bs d.entry) (brought bs d.entry) d.token.0 (λ e. e) (own_set bs ds i row new there token h)

pub own_append : (bs : List BlockOf) (ds es : List Declaration) → own_rows bs (ds ++ es) ≡ own_rows bs ds ++ own_rows bs es
own_append bs [] es = refl
own_append bs (d ∷ ds) es = by (own_append bs ds es) (brought bs d.entry)
  where
    by : own_rows bs (ds ++ es) ≡ own_rows bs ds ++ own_rows bs es → (b : Bool) → (if b then own_rows bs (ds ++ es) else d.token.0 ∷ own_rows bs (ds ++ es)) ≡ (if b then own_rows bs ds else d.token.0 ∷ own_rows bs ds) ++ own_rows bs es
    by more true = more
    by more false = ap (λ z. d.token.0 ∷ z) more

-- one more row
pub own_new : (bs cs : List BlockOf) (ds : List Declaration) (d : Declaration) → Stand bs cs → Some_of (own_rows cs (ds ++ d ∷ [])) (own_rows bs ds ++ d.token.0 ∷ [])
own_new bs cs ds d h = subst (λ z. Some_of z (own_rows bs ds ++ d.token.0 ∷ [])) (sym (own_append cs ds (d ∷ []))) (both (own_stand bs cs h ds) (by (brought cs d.entry)))
  where
    by : (b : Bool) → Some_of (if b then [] else d.token.0 ∷ []) (d.token.0 ∷ [])
    by true = over d.token.0 nil
    by false = keep d.token.0 nil

-- one more that a standard prefix declares
pub own_brought : (bs cs : List BlockOf) (ds : List Declaration) (d : Declaration) → Stand bs cs → brought cs d.entry ≡ true → Some_of (own_rows cs (ds ++ d ∷ [])) (own_rows bs ds)
own_brought bs cs ds d h is =
    subst (λ z. Some_of z (own_rows bs ds)) (sym (own_append cs ds (d ∷ []) ∙ ap (λ b. own_rows cs ds ++ (if b then [] else d.token.0 ∷ [])) is ∙ append-nil (own_rows cs ds))) (own_stand bs cs h ds)

-- ---- steps that declare nothing

abbrev pub Quiet : Tables → Tables → Type 0
Quiet s t = Some_of (own_of t) (own_of s)

pub run_quiet : {S E : Type 0} (step : S → E → S) (of : S → Tables) → ((s : S) (e : E) → Quiet (of s) (of (step s e))) → (s : S) (es : List E) → Quiet (of s) (of (run step s es))
unfolding run
run_quiet step of h s [] = same (own_of (of s))
run_quiet step of h s (e ∷ es) = along (run_quiet step of h (step s e) es) (h s e)
