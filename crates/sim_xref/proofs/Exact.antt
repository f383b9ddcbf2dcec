-- Cross references leave nothing out and have nothing twice.
use Rattle.std.proofs.Common.{◌≡◌, ◌<◌, ◌≤◌, ◌+◌, ◌⊎◌, inl, inr, Bool, true, false, if◌then◌else◌, cond, ℕ, zero, suc, List, [], ◌∷◌, Option, Some, None, refl, sym, ap, ◌∙◌, subst, arith}
use Rattle.std.proofs.lemmas.Bool.Decides.{nat_tests}
use Rattle.std.proofs.lemmas.List.Elements.{Contains-get_or}
use Rattle.std.proofs.lemmas.List.Kept.{AllPairs-cons, AllPairs-filter}
use Rattle.std.specs.List.{All, AllPairs, Contains, filter}
use Rattle.std.specs.Prelude.{map, slice_get, slice_index_or}
use Rattle.sim_base.specs.declared.numbering.DeclNo.{DeclNo}
use Rattle.sim_base.specs.declared.numbering.TokenNo.{TokenNo}
use Rattle.sim_scope.specs.Access.{joined}
use Rattle.sim_scope.specs.declared.scopes.Declaration.{Declaration}
use Rattle.sim_scope.specs.declared.scopes.Denotation.{Denotation}
use Rattle.sim_scope.specs.declared.scopes.Denotation.TheVariants as denotation
use Rattle.sim_scope.specs.Source.{Source, denoted}
use Rattle.sim_xref.specs.Laws.{AreItsRows, AreItsUses, AreTheirLines}
use Rattle.sim_xref.specs.Rows.{RowOf, denotes, is_of_source, all_rows_of, row, rows_from, rows_of, uses_from, uses_of}
use Rattle.sim_xref.specs.Text.{changes, is_last, lines_of, token_line}

-- ---- lists

at_front : {A : Type 0} (x : A) (xs : List A) → Contains (x ∷ xs) x
at_front x xs = (0, omega arith, refl)

behind : {A : Type 0} (y : A) (xs : List A) (x : A) → Contains xs x → Contains (y ∷ xs) x
behind y xs x (k, lt, is) = (suc k, omega (arith, lt), is)

front_or_behind : {A : Type 0} (y : A) (xs : List A) (x : A) → Contains (y ∷ xs) x → (y ≡ x) ⊎ Contains xs x
front_or_behind y xs x (zero, lt, is) = inl is
front_or_behind y xs x (suc k, lt, is) = inr (k, omega (arith, lt), is)

in_none : {A P : Type 0} (x : A) → Contains [] x → P
in_none x (k, lt, is) = absurd (omega (arith, lt))

behind_if : {A : Type 0} (b : Bool) (y : A) (xs : List A) (x : A) → Contains xs x → Contains (if b then y ∷ xs else xs) x
behind_if true y xs x at = behind y xs x at
behind_if false y xs x at = at

pairs_none : {A : Type 0} (R : A → A → Type 0) → AllPairs R []
pairs_none R i j d lt in_list = absurd (omega (arith, in_list))

-- what holds of each element
all_in : {A : Type 0} (P : A → Type 0) (xs : List A) → ((x : A) → Contains xs x → P x) → All P xs
all_in P xs each k d lt = each (slice_index_or xs k d) (Contains-get_or xs k d lt)

kept : {A : Type 0} (p : A → Bool) (xs : List A) (x : A) → Contains xs x → p x ≡ true → Contains (filter p xs) x
kept p [] x at passes = in_none x at
kept p (y ∷ xs) x at passes = elim (front_or_behind y xs x at) [
  | inl same ↦ subst (λ b. Contains (cond b (y ∷ filter p xs) (filter p xs)) x) (sym (ap p same ∙ passes)) (subst (λ z. Contains (y ∷ filter p xs) z) same (at_front y (filter p xs)))
  | inr rest ↦ still (p y) (kept p xs x rest passes)
]
  where
    still : (b : Bool) → Contains (filter p xs) x → Contains (cond b (y ∷ filter p xs) (filter p xs)) x
    still true there = behind y (filter p xs) x there
    still false there = there

of_kept : {A : Type 0} (p : A → Bool) (xs : List A) (x : A) → Contains (filter p xs) x → Contains xs x × (p x ≡ true)
of_kept p [] x at = in_none x at
of_kept p (y ∷ xs) x at = by (λ rest. of_kept p xs x rest) (p y) refl at
  where
    by : (Contains (filter p xs) x → Contains xs x × (p x ≡ true)) → (b : Bool) → p y ≡ b → Contains (cond b (y ∷ filter p xs) (filter p xs)) x → Contains (y ∷ xs) x × (p x ≡ true)
    by known true passes there = elim (front_or_behind y (filter p xs) x there) [
      | inl same ↦ (subst (λ z. Contains (y ∷ xs) z) same (at_front y xs), sym (ap p same) ∙ passes)
      | inr rest ↦ (let h = known rest in (behind y xs x h.0, h.1))
    ]
    by known false passes there = let h = known there in (behind y xs x h.0, h.1)

-- ---- uses

itself : (d : DeclNo) → denotes d.0 (Some (denotation.Declared d)) ≡ true
itself d = grind (arith, nat_tests)

it_denotes : (d : DeclNo) (o : Option Denotation) → denotes d.0 o ≡ true → o ≡ Some (denotation.Declared d)
it_denotes d None is = absurd (cc)
it_denotes d (Some (denotation.Standard name)) is = absurd (cc)
it_denotes d (Some (denotation.Declared e)) is =
    let same : e.0 ≡ d.0 = grind (arith, nat_tests) in
    ap (λ n. Some (denotation.Declared (record { 0 = n }))) same

none_left_out : (i : ℕ) (os : List (Option Denotation)) (d : DeclNo) (k : ℕ) → slice_get os k ≡ Some (Some (denotation.Declared d)) → Contains (uses_from i os d.0) (record { 0 = i + k })
none_left_out i [] d k at = absurd (cc)
none_left_out i (o ∷ os) d zero at =
    let is : o ≡ Some (denotation.Declared d) = cc in
    let shown : denotes d.0 o ≡ true = ap (denotes d.0) is ∙ itself d in
    let here : TokenNo = record { 0 = i } in
    let rest = uses_from (i + 1) os d.0 in
    let number : i ≡ i + 0 = omega arith in
    subst (λ b. Contains (if b then here ∷ rest else rest) (record { 0 = i + 0 })) (sym shown) (subst (λ n. Contains (here ∷ rest) (record { 0 = n })) number (at_front here rest))
none_left_out i (o ∷ os) d (suc k) at =
    let rest = uses_from (i + 1) os d.0 in
    let number : i + 1 + k ≡ i + suc k = omega arith in
    behind_if (denotes d.0 o) (record { 0 = i }) rest (record { 0 = i + suc k }) (subst (λ n. Contains rest (record { 0 = n })) number (none_left_out (i + 1) os d k at))

-- where a token of the list stands
abbrev Stands : (i : ℕ) → List (Option Denotation) → DeclNo → TokenNo → Type 0
Stands i os d t = (k : ℕ) × (t.0 ≡ i + k) × (slice_get os k ≡ Some (Some (denotation.Declared d)))

no_other : (i : ℕ) (os : List (Option Denotation)) (d : DeclNo) (t : TokenNo) → Contains (uses_from i os d.0) t → Stands i os d t
no_other i [] d t at = in_none t at
no_other i (o ∷ os) d t at = by (λ rest. no_other (i + 1) os d t rest) (denotes d.0 o) refl at
  where
    further : Stands (i + 1) os d t → Stands i (o ∷ os) d t
    further (k, number, is) = (suc k, omega (arith, number), is)

    by : (Contains (uses_from (i + 1) os d.0) t → Stands (i + 1) os d t) → (b : Bool) → denotes d.0 o ≡ b → Contains (if b then record { 0 = i } ∷ uses_from (i + 1) os d.0 else uses_from (i + 1) os d.0) t → Stands i (o ∷ os) d t
    by known true shown there = elim (front_or_behind (record { 0 = i }) (uses_from (i + 1) os d.0) t there) [
      | inl same ↦ (0, (let number : i ≡ t.0 = ap (λ (u : TokenNo). u.0) same in omega (arith, number)), ap Some (it_denotes d o shown))
      | inr rest ↦ further (known rest)
    ]
    by known false shown there = further (known there)

abbrev Before : TokenNo → TokenNo → Type 0
Before t u = t.0 < u.0

uses_ascend : (i : ℕ) (os : List (Option Denotation)) (d : DeclNo) → AllPairs Before (uses_from i os d.0)
uses_ascend i [] d = pairs_none Before
uses_ascend i (o ∷ os) d = by (uses_ascend (i + 1) os d) (denotes d.0 o)
  where
    rest : List TokenNo
    rest = uses_from (i + 1) os d.0

    later : (t : TokenNo) → Contains rest t → i < t.0
    later t at = let h = no_other (i + 1) os d t at in let number : t.0 ≡ i + 1 + h.0 = h.1 in omega (arith, number)

    by : AllPairs Before rest → (b : Bool) → AllPairs Before (if b then record { 0 = i } ∷ rest else rest)
    by known true = AllPairs-cons Before (record { 0 = i }) rest (all_in (Before (record { 0 = i })) rest later) known
    by known false = known

none_before : (n : ℕ) → 0 + n ≡ n
none_before n = omega arith

from_joined : {A : Type 0} (x : Option (Option A)) (a : A) → joined x ≡ Some a → x ≡ Some (Some a)
from_joined None a is = absurd (cc)
from_joined (Some y) a is = ap Some is

pub exact_uses : (s : Source) (d : DeclNo) → AreItsUses s d (uses_of s d.0)
unfolding denoted
exact_uses s d = record {
  all = λ token is. subst (λ n. Contains (uses_of s d.0) (record { 0 = n })) (none_before token.0) (none_left_out 0 s.uses d token.0 (from_joined (slice_get s.uses token.0) (denotation.Declared d) is));
  only = λ token at. let h = no_other 0 s.uses d token at in let same : token.0 ≡ h.0 = omega (arith, h.1) in ap (λ n. joined (slice_get s.uses n)) same ∙ ap joined h.2;
  once = uses_ascend 0 s.uses d;
}

-- ---- rows

no_row_left_out : (s : Source) (n : ℕ) (ds : List Declaration) (k : ℕ) (x : Declaration) → slice_get ds k ≡ Some x → Contains (rows_from s n ds) (row s (n + k) x)
no_row_left_out s n [] k x at = absurd (cc)
no_row_left_out s n (d ∷ ds) zero x at =
    let same : d ≡ x = cc in
    let number : n ≡ n + 0 = omega arith in
    subst (λ m. Contains (rows_from s n (d ∷ ds)) (row s m x)) number (subst (λ y. Contains (rows_from s n (d ∷ ds)) (row s n y)) same (at_front (row s n d) (rows_from s (n + 1) ds)))
no_row_left_out s n (d ∷ ds) (suc k) x at =
    let number : n + 1 + k ≡ n + suc k = omega arith in
    subst (λ m. Contains (rows_from s n (d ∷ ds)) (row s m x)) number (behind (row s n d) (rows_from s (n + 1) ds) (row s (n + 1 + k) x) (no_row_left_out s (n + 1) ds k x at))

-- where a row of the list stands
abbrev IsRow : Source → (n : ℕ) → List Declaration → RowOf → Type 0
IsRow s n ds r = (k : ℕ) × (x : Declaration) × (slice_get ds k ≡ Some x) × (r ≡ row s (n + k) x)

no_other_row : (s : Source) (n : ℕ) (ds : List Declaration) (r : RowOf) → Contains (rows_from s n ds) r → IsRow s n ds r
no_other_row s n [] r at = in_none r at
no_other_row s n (d ∷ ds) r at = elim (front_or_behind (row s n d) (rows_from s (n + 1) ds) r at) [
  | inl same ↦ (0, d, refl, sym same ∙ ap (λ m. row s m d) (let number : n ≡ n + 0 = omega arith in number))
  | inr rest ↦ further (no_other_row s (n + 1) ds r rest)
]
  where
    further : IsRow s (n + 1) ds r → IsRow s n (d ∷ ds) r
    further (k, x, is, same) = (suc k, x, is, same ∙ ap (λ m. row s m x) (let number : n + 1 + k ≡ n + suc k = omega arith in number))

abbrev RowBefore : RowOf → RowOf → Type 0
RowBefore r q = r.decl.0 < q.decl.0

rows_ascend : (s : Source) (n : ℕ) (ds : List Declaration) → AllPairs RowBefore (rows_from s n ds)
rows_ascend s n [] = pairs_none RowBefore
rows_ascend s n (d ∷ ds) = AllPairs-cons RowBefore (row s n d) rest (all_in (RowBefore (row s n d)) rest later) (rows_ascend s (n + 1) ds)
  where
    rest : List RowOf
    rest = rows_from s (n + 1) ds

    later : (r : RowOf) → Contains rest r → n < r.decl.0
    later r at =
        let h = no_other_row s (n + 1) ds r at in
        let number : r.decl.0 ≡ n + 1 + h.0 = ap (λ (q : RowOf). q.decl.0) h.3 in
        omega (arith, number)

pub exact_rows : (s : Source) → AreItsRows s (rows_of s)
unfolding rows_of all_rows_of
exact_rows s = record {
  all = λ d x at own. kept (λ r. is_of_source s.tables r.decl) (rows_from s 0 s.tables.declarations) (row s d.0 x)
      (subst (λ n. Contains (rows_from s 0 s.tables.declarations) (row s n x)) (none_before d.0) (no_row_left_out s 0 s.tables.declarations d.0 x at)) own;
  only = λ r at. only r (of_kept (λ r. is_of_source s.tables r.decl) (rows_from s 0 s.tables.declarations) r at);
  once = AllPairs-filter RowBefore (λ r. is_of_source s.tables r.decl) (rows_from s 0 s.tables.declarations) (rows_ascend s 0 s.tables.declarations);
}
  where
    only : (r : RowOf) → Contains (rows_from s 0 s.tables.declarations) r × (is_of_source s.tables r.decl ≡ true) → (is_of_source s.tables r.decl ≡ true) × (x : Declaration) × (slice_get s.tables.declarations r.decl.0 ≡ Some x) × (r ≡ row s r.decl.0 x)
    only r (at, own) =
        let h = no_other_row s 0 s.tables.declarations r at in
        let number : h.0 ≡ r.decl.0 = sym (none_before h.0) ∙ sym (ap (λ (q : RowOf). q.decl.0) h.3) in
        (own, h.1, subst (λ n. slice_get s.tables.declarations n ≡ Some h.1) number h.2, subst (λ n. r ≡ row s n h.1) number (h.3 ∙ ap (λ m. row s m h.1) (none_before h.0)))

-- ---- lines

other_changes : (last : Option ℕ) (ls : List ℕ) (line : ℕ) → Contains (changes last ls) line → Contains ls line
other_changes last [] line at = in_none line at
other_changes last (l ∷ ls) line at = by (λ there. other_changes last ls line there) (λ there. other_changes (Some l) ls line there) (is_last last l) at
  where
    by : (Contains (changes last ls) line → Contains ls line) → (Contains (changes (Some l) ls) line → Contains ls line) → (b : Bool) → Contains (if b then changes last ls else l ∷ changes (Some l) ls) line → Contains (l ∷ ls) line
    by known fresh true there = behind l ls line (known there)
    by known fresh false there = elim (front_or_behind l (changes (Some l) ls) line there) [
      | inl same ↦ subst (λ z. Contains (l ∷ ls) z) same (at_front l ls)
      | inr rest ↦ behind l ls line (fresh rest)
    ]

last_is : (last : Option ℕ) (l : ℕ) → is_last last l ≡ true → last ≡ Some l
last_is None l is = absurd (cc)
last_is (Some m) l is = let same : m ≡ l = grind (arith, nat_tests) in ap Some same

changes_all : (last : Option ℕ) (ls : List ℕ) (line : ℕ) → Contains ls line → Contains (changes last ls) line ⊎ (last ≡ Some line)
changes_all last [] line at = in_none line at
changes_all last (l ∷ ls) line at = by (λ there. changes_all last ls line there) (λ there. changes_all (Some l) ls line there) (is_last last l) refl (front_or_behind l ls line at)
  where
    same_last : l ≡ line → last ≡ Some l → last ≡ Some line
    same_last same is = is ∙ ap Some same

    beyond : Contains (changes (Some l) ls) line ⊎ (Some l ≡ Some line) → Contains (l ∷ changes (Some l) ls) line
    beyond (inl there) = behind l (changes (Some l) ls) line there
    beyond (inr same) = let e : l ≡ line = cc in subst (λ z. Contains (l ∷ changes (Some l) ls) z) e (at_front l (changes (Some l) ls))

    by : (Contains ls line → Contains (changes last ls) line ⊎ (last ≡ Some line)) → (Contains ls line → Contains (changes (Some l) ls) line ⊎ (Some l ≡ Some line)) → (b : Bool) → is_last last l ≡ b → (l ≡ line) ⊎ Contains ls line → Contains (if b then changes last ls else l ∷ changes (Some l) ls) line ⊎ (last ≡ Some line)
    by known fresh true is (inl same) = inr (same_last same (last_is last l is))
    by known fresh true is (inr rest) = known rest
    by known fresh false is (inl same) = inl (subst (λ z. Contains (l ∷ changes (Some l) ls) z) same (at_front l (changes (Some l) ls)))
    by known fresh false is (inr rest) = inl (beyond (fresh rest))

abbrev NotAbove : ℕ → ℕ → Type 0
NotAbove a b = a ≤ b

abbrev Below : ℕ → ℕ → Type 0
Below a b = a < b

-- none below the last
abbrev FromLast : Option ℕ → List ℕ → Type 0
FromLast None ls = Unit {0}
FromLast (Some m) ls = (l : ℕ) → Contains ls l → m ≤ l

-- each above the last
abbrev PastLast : Option ℕ → List ℕ → Type 0
PastLast None ls = Unit {0}
PastLast (Some m) ls = (l : ℕ) → Contains ls l → m < l

from_rest : (last : Option ℕ) (l : ℕ) (ls : List ℕ) → FromLast last (l ∷ ls) → FromLast last ls
from_rest None l ls from = tt
from_rest (Some m) l ls from = λ x at. from x (behind l ls x at)

not_last : (last : Option ℕ) (l : ℕ) (ls rest : List ℕ) → is_last last l ≡ false → FromLast last (l ∷ ls) → PastLast (Some l) rest → PastLast last (l ∷ rest)
not_last None l ls rest is from past = tt
not_last (Some m) l ls rest is from past =
    let above : m ≤ l = from l (at_front l ls) in
    let lower : m < l = grind (arith, nat_tests) in
    λ x at. elim (front_or_behind l rest x at) [ inl same ↦ subst (λ z. m < z) same lower | inr there ↦ (let more : l < x = past x there in omega (arith, lower, more)) ]

none_past : (last : Option ℕ) → PastLast last []
none_past None = tt
none_past (Some m) = λ l at. in_none l at

pairs_rest : {A : Type 0} (R : A → A → Type 0) (x : A) (xs : List A) → AllPairs R (x ∷ xs) → AllPairs R xs
pairs_rest R x xs all i j d lt in_list = all (suc i) (suc j) d (omega (arith, lt)) (omega (arith, in_list))

pairs_front : {A : Type 0} (R : A → A → Type 0) (x : A) (xs : List A) → AllPairs R (x ∷ xs) → (y : A) → Contains xs y → R x y
pairs_front R x xs all y (k, lt, is) = subst (R x) is (all 0 (suc k) y (omega arith) (omega (arith, lt)))

changes_ascend : (last : Option ℕ) (ls : List ℕ) → AllPairs NotAbove ls → FromLast last ls → AllPairs Below (changes last ls) × PastLast last (changes last ls)
changes_ascend last [] all from = (pairs_none Below, none_past last)
changes_ascend last (l ∷ ls) all from =
    let rest = pairs_rest NotAbove l ls all in
    by (changes_ascend last ls rest (from_rest last l ls from)) (changes_ascend (Some l) ls rest (pairs_front NotAbove l ls all)) (is_last last l) refl
  where
    by : AllPairs Below (changes last ls) × PastLast last (changes last ls) → AllPairs Below (changes (Some l) ls) × PastLast (Some l) (changes (Some l) ls) → (b : Bool) → is_last last l ≡ b → AllPairs Below (if b then changes last ls else l ∷ changes (Some l) ls) × PastLast last (if b then changes last ls else l ∷ changes (Some l) ls)
    by known fresh true is = known
    by known fresh false is = (
      AllPairs-cons Below l (changes (Some l) ls) (all_in (Below l) (changes (Some l) ls) fresh.1) fresh.0,
      not_last last l ls (changes (Some l) ls) is from fresh.1,
    )

mapped : {A B : Type 0} (f : A → B) (xs : List A) (x : A) → Contains xs x → Contains (map f xs) (f x)
mapped f [] x at = in_none x at
mapped f (y ∷ xs) x at = elim (front_or_behind y xs x at) [
  | inl same ↦ subst (λ z. Contains (f y ∷ map f xs) (f z)) same (at_front (f y) (map f xs))
  | inr rest ↦ behind (f y) (map f xs) (f x) (mapped f xs x rest)
]

of_mapped : {A B : Type 0} (f : A → B) (xs : List A) (b : B) → Contains (map f xs) b → (x : A) × Contains xs x × (f x ≡ b)
of_mapped f [] b at = in_none b at
of_mapped f (y ∷ xs) b at = elim (front_or_behind (f y) (map f xs) b at) [
  | inl same ↦ (y, at_front y xs, same)
  | inr rest ↦ let h = of_mapped f xs b rest in (h.0, behind y xs h.0 h.1, h.2)
]

pairs_mapped : {A B : Type 0} (f : A → B) (R : B → B → Type 0) (xs : List A) → AllPairs (λ x y. R (f x) (f y)) xs → AllPairs R (map f xs)
pairs_mapped f R [] all = pairs_none R
pairs_mapped f R (x ∷ xs) all =
    AllPairs-cons R (f x) (map f xs)
    (all_in (R (f x)) (map f xs) (λ b at. let h = of_mapped f xs b at in subst (R (f x)) h.2 (pairs_front (λ y z. R (f y) (f z)) x xs all h.0 h.1)))
    (pairs_mapped f R xs (pairs_rest (λ y z. R (f y) (f z)) x xs all))

pub exact_lines : (s : Source) (uses : List TokenNo) → AreTheirLines s uses (lines_of s uses)
unfolding lines_of
exact_lines s uses = record {
  all = λ token at. elim (changes_all None (map (token_line s) uses) (token_line s token) (mapped (token_line s) uses token at)) [ inl there ↦ there | inr none ↦ absurd (cc) ];
  only = λ line at. of_mapped (token_line s) uses line (other_changes None (map (token_line s) uses) line at);
  once = λ all. (changes_ascend None (map (token_line s) uses) (pairs_mapped (token_line s) NotAbove uses all) tt).0;
}
