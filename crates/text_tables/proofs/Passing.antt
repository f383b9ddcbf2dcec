-- One row for each of a list.
use Rattle.std.proofs.Common.{◌≡◌, ◌<◌, ◌≤◌, ◌+◌, ℕ, zero, suc, List, [], ◌∷◌, ◌++◌, length, map, drop, take, Option, Some, None, ⊎_elim, ◌⊎◌, inl, inr, refl, sym, ap, ◌∙◌, subst, arith, append_assoc, append-nil, length-append}
use Rattle.std.proofs.lemmas.List.{drop_more, drop_all}
use Rattle.std.specs.Prelude.{slice_get, slice_index_or, option_map}
use Rattle.std.specs.declared.alloc.Global.{Global}
use Rattle.std.specs.declared.vec.Vec.{Vec}
use Rattle.sim_base.specs.declared.numbering.DeclNo.{DeclNo}
use Rattle.sim_scope.specs.declared.types.Entry.{Entry}
use Rattle.sim_scope.specs.declared.types.Formal.{Formal}
use Rattle.sim_scope.specs.Scopes.{class_formal, class_formals, entry_of, formal_declared, formal_in}
use Rattle.sim_scope.specs.declared.bound.Bound.{Bound}
use Rattle.sim_scope.specs.Source.{Source, source_of}
use Rattle.sim_scope.specs.Tables.{BlockOf}
use Rattle.sim_meaning.specs.Closing.{formal_before, formals_from}
use Rattle.text_tables.specs.Making.{ClassFormals, Formals, OwesFormals, class_formals_of, Passes, formals_of, items_of, one_formal}

pub map-append : {A B : Type 0} (f : A → B) (xs ys : List A) → map f (xs ++ ys) ≡ map f xs ++ map f ys
map-append f [] ys = refl
map-append f (x ∷ xs) ys = ap (λ z. f x ∷ z) (map-append f xs ys)

pub get_map : {A B : Type 0} (f : A → B) (xs : List A) (i : ℕ) → slice_get (map f xs) i ≡ option_map f (slice_get xs i)
get_map f [] i = refl
get_map f (x ∷ xs) zero = refl
get_map f (x ∷ xs) (suc i) = get_map f xs i

pub index_any : {A : Type 0} (xs : List A) (i : ℕ) (d : A) → i < length xs → slice_index_or xs i d ≡ slice_index_or xs i (slice_index_or xs i d)
index_any [] i d le = absurd (omega (arith, le))
index_any (x ∷ xs) zero d le = refl
index_any (x ∷ xs) (suc i) d le = index_rest xs i d (slice_index_or xs i d) (omega (arith, le))
  where
    index_rest : {A : Type 0} (xs : List A) (i : ℕ) (d e : A) → i < length xs → slice_index_or xs i d ≡ slice_index_or xs i e
    index_rest [] i d e le = absurd (omega (arith, le))
    index_rest (x ∷ xs) zero d e le = refl
    index_rest (x ∷ xs) (suc i) d e le = index_rest xs i d e (omega (arith, le))

pub pass_all : {A B : Type 0} (f : A → B) (xs : List A) → Passes f xs [] 0
unfolding Passes
pass_all f xs = refl

pub pass_next : {A B : Type 0} (f : A → B) (xs : List A) (rows rows' : List B) (i : ℕ) (x : A) (y : B) → Passes f xs rows i → i < length xs → x ≡ slice_index_or xs i x → y ≡ f x → rows' ≡ rows ++ (y ∷ []) → Passes f xs rows' (i + 1)
unfolding Passes
pass_next f xs rows rows' i x y owes le is ey e =
    let from : drop i xs ≡ x ∷ drop (i + 1) xs = drop_more xs i x le ∙ ap (λ y. y ∷ drop (i + 1) xs) (sym is) in
    ap (λ z. z ++ map f (drop (i + 1) xs)) e ∙ append_assoc rows (y ∷ []) (map f (drop (i + 1) xs)) ∙ ap (λ z. rows ++ (z ∷ map f (drop (i + 1) xs))) ey ∙ ap (λ z. rows ++ map f z) (sym from) ∙ owes

pub pass_end : {A B : Type 0} (f : A → B) (xs : List A) (rows : List B) (i : ℕ) → Passes f xs rows i → length xs ≤ i → rows ≡ map f xs
unfolding Passes
pass_end f xs rows i owes le = sym (append-nil rows) ∙ ap (λ z. rows ++ map f z) (sym (drop_all i xs le)) ∙ owes

-- ---- formal parameters

more_formals : (o : Option Formal) (fs : List Formal) → formal_before o fs ≡ one_formal o ++ fs
more_formals None fs = refl
more_formals (Some f) fs = refl

pub formals_all : (s : Source) (ds : List DeclNo) → OwesFormals s ds [] 0
unfolding OwesFormals
formals_all s ds = refl

pub formals_next : (s : Source) (ds : List DeclNo) (fs fs' : List Formal) (i : ℕ) (d : DeclNo) (e : Option Entry) (o : Option Formal) → OwesFormals s ds fs i → i < length ds → d ≡ slice_index_or ds i d → e ≡ entry_of s.tables d → o ≡ formal_in e → fs' ≡ fs ++ one_formal o → OwesFormals s ds fs' (i + 1)
unfolding OwesFormals
formals_next s ds fs fs' i d e o owes le is ee eo en =
    let rest = formals_from s (drop (i + 1) ds) in
    let from : drop i ds ≡ d ∷ drop (i + 1) ds = drop_more ds i d le ∙ ap (λ y. y ∷ drop (i + 1) ds) (sym is) in
    let same : o ≡ formal_declared s.tables (Some d) = eo ∙ ap formal_in ee in
    ap (λ z. z ++ rest) en ∙ append_assoc fs (one_formal o) rest ∙ ap (λ z. fs ++ z) (sym (more_formals o rest)) ∙ ap (λ z. fs ++ formal_before z rest) same ∙ ap (λ z. fs ++ formals_from s z) (sym from) ∙ owes

pub formals_next_of : (b : Bound) (ds : List DeclNo) (fs fs' : List Formal) (i : ℕ) (d : DeclNo) (e : Option Entry) (o : Option Formal) → OwesFormals (source_of b) ds fs i → i < length ds → d ≡ slice_index_or ds i d → e ≡ entry_of b.scopes d → o ≡ formal_in e → fs' ≡ fs ++ one_formal o → OwesFormals (source_of b) ds fs' (i + 1)
unfolding source_of
formals_next_of b ds fs fs' i d e o owes le is ee eo en = formals_next (source_of b) ds fs fs' i d e o owes le is ee eo en

pub formals_end : (s : Source) (ds : List DeclNo) (fs : List Formal) (i : ℕ) → OwesFormals s ds fs i → length ds ≤ i → fs ≡ formals_from s ds
unfolding OwesFormals
formals_end s ds fs i owes le = sym (append-nil fs) ∙ ap (λ z. fs ++ formals_from s z) (sym (drop_all i ds le)) ∙ owes

pub table_next : (s : Source) (blocks : List BlockOf) (table table' : List (Vec Formal Global)) (i : ℕ) (b : BlockOf) (ds : List DeclNo) (v : Vec Formal Global) → Passes (formals_of s) blocks (map items_of table) i → i < length blocks → b ≡ slice_index_or blocks i b → ds ≡ take b.formals b.numbers → v.items ≡ formals_from s ds → table' ≡ table ++ (v ∷ []) → Passes (formals_of s) blocks (map items_of table') (i + 1)
table_next s blocks table table' i b ds v owes le is ed ev e =
    pass_next (formals_of s) blocks (map items_of table) (map items_of table') i b v.items owes le is (ev ∙ ap (formals_from s) ed) (ap (map items_of) e ∙ map-append items_of table (v ∷ []))

pub table_end : (s : Source) (blocks : List BlockOf) (table : List (Vec Formal Global)) (i : ℕ) → Passes (formals_of s) blocks (map items_of table) i → length blocks ≤ i → Formals s blocks table
unfolding Formals
table_end s blocks table i owes le = pass_end (formals_of s) blocks (map items_of table) i owes le

-- ---- formal parameters of classes

one_formal_there : (s : Source) (ds : List DeclNo) (i : ℕ) → i < length ds → (d : DeclNo) × (slice_get ds i ≡ Some d) × (drop i ds ≡ d ∷ drop (suc i) ds)
one_formal_there s [] i le = absurd (omega (arith, le))
one_formal_there s (d ∷ ds) zero le = (d, refl, refl)
one_formal_there s (d ∷ ds) (suc i) le = one_formal_there s ds i (omega (arith, le))

pub class_formals_first : (b : Bound) (k : ℕ) → OwesFormals (source_of b) (class_formals b.scopes k) [] 0
unfolding OwesFormals
class_formals_first b k = refl

pub class_formals_next : (b : Bound) (k n : ℕ) (fs fs' : List Formal) (i : ℕ) (o : Option Formal) → OwesFormals (source_of b) (class_formals b.scopes k) fs i → i < n → n ≡ length (class_formals b.scopes k) → o ≡ class_formal b.scopes k i → fs' ≡ fs ++ one_formal o → OwesFormals (source_of b) (class_formals b.scopes k) fs' (i + 1)
unfolding OwesFormals class_formal source_of
class_formals_next b k n fs fs' i o owes le en eo e =
    let s = source_of b in
    let ds = class_formals b.scopes k in
    let r = one_formal_there s ds i (omega (arith, le, en)) in
    let rest = formals_from s (drop (suc i) ds) in
    let next : suc i ≡ i + 1 = omega arith in
    let same : o ≡ formal_declared s.tables (Some r.0) = eo ∙ ap (formal_declared b.scopes) r.1 in
    ap (λ z. fs' ++ formals_from s (drop z ds)) (sym next) ∙ ap (λ z. z ++ rest) e ∙ append_assoc fs (one_formal o) rest ∙ ap (λ z. fs ++ z) (sym (more_formals o rest)) ∙ ap (λ z. fs ++ formal_before z rest) same ∙ ap (λ z. fs ++ formals_from s z) (sym r.2) ∙ owes

pub class_formals_end : (b : Bound) (k n : ℕ) (fs : List Formal) (i : ℕ) → OwesFormals (source_of b) (class_formals b.scopes k) fs i → n ≤ i → n ≡ length (class_formals b.scopes k) → fs ≡ class_formals_of (source_of b) k
unfolding OwesFormals source_of
class_formals_end b k n fs i owes le en = let past : length (class_formals b.scopes k) ≤ i = omega (arith, le, en) in sym (append-nil fs) ∙ ap (λ z. fs ++ formals_from (source_of b) z) (sym (drop_all i (class_formals b.scopes k) past)) ∙ owes

pub class_table_first : (s : Source) → ClassFormals s [] 0
unfolding ClassFormals
class_table_first s = (refl, λ k v h. absurd (cc))

table_at : (old : List (Vec Formal Global)) (y v : Vec Formal Global) (k : ℕ) → slice_get (old ++ (y ∷ [])) k ≡ Some v → (slice_get old k ≡ Some v) ⊎ ((k ≡ length old) × (y ≡ v))
table_at [] y v zero h = inr (refl, (let e : y ≡ v = cc in e))
table_at [] y v (suc k) h = absurd (cc)
table_at (x ∷ xs) y v zero h = inl h
table_at (x ∷ xs) y v (suc k) h = ⊎_elim (λ l. inl l) (λ r. inr (ap suc r.0, r.1)) (table_at xs y v k h)

pub class_table_next : (s : Source) (table table' : List (Vec Formal Global)) (i m : ℕ) (v : Vec Formal Global) → ClassFormals s table i → m ≡ i → v.items ≡ class_formals_of s m → table' ≡ table ++ (v ∷ []) → ClassFormals s table' (i + 1)
unfolding ClassFormals
class_table_next s table table' i m v f em ev e = (
  ap length e ∙ length-append table (v ∷ []) ∙ (let many = f.0 in let t : length table + length (v ∷ []) ≡ i + 1 = omega (arith, many) in t),
  λ k u h. ⊎_elim (λ l. f.1 k u l) (λ r. ap (λ z. z.items) (sym r.1) ∙ ev ∙ ap (class_formals_of s) (em ∙ sym f.0 ∙ sym r.0)) (table_at table v u k (ap (λ z. slice_get z k) (sym e) ∙ h)),
)

pub class_table_end : (s : Source) (table : List (Vec Formal Global)) (i n : ℕ) → ClassFormals s table i → i ≤ n → n ≤ i → ClassFormals s table n
class_table_end s table i n f lo hi = let e : i ≡ n = omega (arith, lo, hi) in subst (ClassFormals s table) e f

pub ruleset passing = (pass_all, pass_next, pass_end, formals_all, formals_end, table_next, table_end, class_formals_first, class_formals_next, class_formals_end, class_table_first, class_table_next)
