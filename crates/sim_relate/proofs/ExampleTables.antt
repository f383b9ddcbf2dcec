-- What is listed, item by item: for the tables of worked programs.
use Rattle.std.proofs.Common.{◌≡◌, ℕ, zero, suc, Bool, true, false, List, [], ◌∷◌, Option, Some, None, refl, ap, ◌∙◌, subst, arith, sym}
use Rattle.std.specs.Prelude.{⊤, ◌==◌, ◌||◌, slice_get}
use Rattle.sim_base.specs.declared.numbering.DeclNo.{DeclNo}
use Rattle.sim_scope.specs.declared.scopes.Declaration.{Declaration}
use Rattle.sim_scope.specs.Scopes.{entry_in, entry_is, entry_of, is_virtual}
use Rattle.sim_scope.specs.Source.{Source}
use Rattle.sim_code.specs.declared.code.Match.{Match}
use Rattle.sim_code.specs.Classes.{class_numbered}
use Rattle.sim_code.specs.Code.{ClassOf, CodeOf}
use Rattle.codegen_expr.specs.Sites.{class_number}
use Rattle.codegen.specs.Compiled.{match_of_row, matches_from, matches_of}

-- each item of a list is so
abbrev pub all_of : {A : Type 0} → (A → Type 0) → List A → Type 0
all_of Q [] = ⊤
all_of Q (x ∷ xs) = Q x × all_of Q xs

pub all_at : {A : Type 0} (Q : A → Type 0) (xs : List A) → all_of Q xs → (n : ℕ) (x : A) → slice_get xs n ≡ Some x → Q x
all_at Q [] a n x e = absurd (cc)
all_at Q (y ∷ ys) a zero x e = let same : y ≡ x = cc in subst Q same a.0
all_at Q (y ∷ ys) a (suc n) x e = all_at Q ys a.1 n x e

-- no declaration is listed twice
abbrev pub apart : List DeclNo → Type 0
apart [] = ⊤
apart (x ∷ xs) = all_of (λ y. (y.0 == x.0) ≡ false) xs × apart xs

equal_self : (n : ℕ) → (n == n) ≡ true
equal_self n = grind arith

not_again : (x : DeclNo) (xs : List DeclNo) → all_of (λ y. (y.0 == x.0) ≡ false) xs → (m : ℕ) (d : DeclNo) → x ≡ d → slice_get xs m ≡ Some d → ⊥
not_again x xs a m d same e =
    let other : (d.0 == x.0) ≡ false = all_at (λ y. (y.0 == x.0) ≡ false) xs a m d e in
    let self : (d.0 == x.0) ≡ true = ap (λ z. d.0 == z.0) same ∙ equal_self d.0 in
    cc (other, self)

pub once_at : (xs : List DeclNo) → apart xs → (n m : ℕ) (d : DeclNo) → slice_get xs n ≡ Some d → slice_get xs m ≡ Some d → n ≡ m
once_at [] a n m d e f = absurd (cc)
once_at (x ∷ xs) a zero zero d e f = refl
once_at (x ∷ xs) a zero (suc m) d e f = let same : x ≡ d = cc (e) in absurd (not_again x xs a.0 m d same f)
once_at (x ∷ xs) a (suc n) zero d e f = let same : x ≡ d = cc (f) in absurd (not_again x xs a.0 n d same e)
once_at (x ∷ xs) a (suc n) (suc m) d e f = ap suc (once_at xs a.1 n m d e f)

pub not_both : (b : Bool) → b ≡ true → b ≡ false → ⊥
not_both b e f = cc

pub not_some : {A : Type 0} (o : Option A) (x : A) → o ≡ None → o ≡ Some x → ⊥
not_some o x e f = cc

-- ---- programs without virtuals

abbrev pub any_virtual : List Declaration → Bool
any_virtual [] = false
any_virtual (row ∷ rows) = is_virtual row.entry || any_virtual rows

abbrev pub has_match : List Match → Bool
has_match [] = false
has_match (x ∷ xs) = true

abbrev pub any_match : List ClassOf → Bool
any_match [] = false
any_match (x ∷ xs) = has_match x.matches || any_match xs

neither : (a b : Bool) → (a || b) ≡ false → (a ≡ false) × (b ≡ false)
neither false b e = (refl, e)
neither true b e = absurd (cc (e))

none_in : (rows : List Declaration) → any_virtual rows ≡ false → (v : ℕ) → entry_is is_virtual (entry_in (slice_get rows v)) ≡ true → ⊥
none_in [] a v e = absurd (cc (e))
none_in (row ∷ rows) a zero e = let x = neither (is_virtual row.entry) (any_virtual rows) a in let both : true ≡ false = sym e ∙ x.0 in absurd (cc (both))
none_in (row ∷ rows) a (suc v) e = let x = neither (is_virtual row.entry) (any_virtual rows) a in none_in rows x.1 v e

pub no_virtual : (s : Source) → any_virtual s.tables.declarations ≡ false → (v : ℕ) → entry_is is_virtual (entry_of s.tables (record { 0 = v })) ≡ true → ⊥
unfolding entry_of
no_virtual s a v e = none_in s.tables.declarations a v e

none_listed : (s : Source) (k n : ℕ) (rows : List Declaration) → any_virtual rows ≡ false → matches_from s k n rows ≡ []
none_listed s k n [] a = refl
none_listed s k n (row ∷ rows) a =
    let x = neither (is_virtual row.entry) (any_virtual rows) a in
    ap (λ b. match_of_row s n k b (matches_from s k (suc n) rows)) x.0 ∙ none_listed s k (suc n) rows x.1

no_match : (xs : List Match) → has_match xs ≡ false → xs ≡ []
no_match [] e = refl
no_match (x ∷ xs) e = absurd (cc (e))

none_of : (classes : List ClassOf) → any_match classes ≡ false → (n : ℕ) (x : ClassOf) → slice_get classes n ≡ Some x → x.matches ≡ []
none_of [] a n x e = absurd (cc (e))
none_of (y ∷ ys) a zero x e = let z = neither (has_match y.matches) (any_match ys) a in let same : y ≡ x = cc (e) in no_match x.matches (subst (λ c. has_match c.matches ≡ false) same z.0)
none_of (y ∷ ys) a (suc n) x e = let z = neither (has_match y.matches) (any_match ys) a in none_of ys z.1 n x e

none_numbered : (code : CodeOf) → any_match code.classes ≡ false → (n : ℕ) (x : ClassOf) → class_numbered code n ≡ Some x → x.matches ≡ []
none_numbered code a zero x e = absurd (cc (e))
none_numbered code a (suc n) x e = none_of code.classes a n x e

pub none_matched : (s : Source) (code : CodeOf) → any_virtual s.tables.declarations ≡ false → any_match code.classes ≡ false → (k : ℕ) (x : ClassOf) → class_numbered code (class_number s code k) ≡ Some x → x.matches ≡ matches_of s k
unfolding matches_of
none_matched s code a b k x e = none_numbered code b (class_number s code k) x e ∙ sym (none_listed s k 0 s.tables.declarations a)
