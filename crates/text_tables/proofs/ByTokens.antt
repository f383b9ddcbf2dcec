-- Declarations and text constants by token.
use Rattle.std.proofs.Common.{◌≡◌, ◌≢◌, ◌<◌, ◌≤◌, ◌+◌, ℕ, zero, suc, Bool, true, false, if◌then◌else◌, List, [], ◌∷◌, ◌++◌, length, map, take, Option, Some, None, ⊎_elim, refl, sym, ap, ◌∙◌, subst, arith, length-append}
use Rattle.std.specs.Prelude.{◌==◌, slice_get, slice_index_or, slice_set}
use Rattle.std.proofs.lemmas.Bool.{cases_eq, eq-eqb}
use Rattle.std.proofs.lemmas.Bool.Decides.{eqb_tells}
use Rattle.sim_base.specs.declared.numbering.DeclNo.{DeclNo}
use Rattle.sim_scope.specs.declared.bound.Bound.{Bound}
use Rattle.sim_scope.specs.declared.scopes.Declaration.{Declaration}
use Rattle.sim_scope.specs.Access.{joined}
use Rattle.sim_scope.specs.Source.{source_of}
use Rattle.sim_values.specs.Plain.{Plain}
use Rattle.sim_code.specs.Rows.{text_value}
use Rattle.sim_meaning.specs.Constants.{TextConstant, constant_from, text_constant, text_constants}
use Rattle.sim_meaning.specs.Texts.{declared_at, number_from}
use Rattle.codegen_expr.specs.Known.{number_in}
use Rattle.program_texts.specs.declared.constants.ConstantTree.{ConstantTree}
use Rattle.program_texts.specs.ConstantTrees.{AreConstants, constant_in}
use Rattle.text_tables.specs.TokenTable.{AreDeclared, AreNumbered, Longer, Noted, NotedTo, NumberedTo, noted}
use Rattle.text_tables.proofs.Placing.{get_at, set_apart, set_there}

neq-eqb : (a b : ℕ) → a ≢ b → (a == b) ≡ false
neq-eqb a b other = ⊎_elim (λ x. absurd (other x.1)) (λ x. x.0) (eqb_tells a b)

-- nothing more
none_more : {A : Type 0} (xs : List (Option A)) (t : ℕ) → joined (slice_get (xs ++ (None ∷ [])) t) ≡ joined (slice_get xs t)
none_more [] zero = refl
none_more [] (suc t) = refl
none_more (x ∷ xs) zero = refl
none_more (x ∷ xs) (suc t) = none_more xs t

pub longer_first : {A : Type 0} (a : List (Option A)) (n : ℕ) → n ≡ length a → Longer a a n
longer_first a n e = record { same = λ t. refl; long = omega (arith, e) }

pub longer_next : {A : Type 0} (a b c : List (Option A)) (n : ℕ) → Longer a b n → c ≡ b ++ (None ∷ []) → Longer a c (n + 1)
longer_next {A = A} a b c n f e =
    let le = f.long in
    let len : length c ≡ length b + length (let x : List (Option A) = None ∷ [] in x) = ap length e ∙ length-append b (None ∷ []) in
    record { same = λ t. ap (λ z. joined (slice_get z t)) e ∙ none_more b t ∙ f.same t; long = omega (arith, le, len) }

pub longer_end : {A : Type 0} (a b : List (Option A)) (n size : ℕ) → Longer a b n → size ≤ n → Longer a b size
longer_end a b n size f le = let long = f.long in record { same = f.same; long = omega (arith, long, le) }

noted_some : {A : Type 0} (o : Option A) (x : A) (token t : ℕ) (d : A) → (t ≡ token → o ≡ Some x) → noted o token t d ≡ o
noted_some (Some y) x token t d f = refl
noted_some None x token t d f = ap (λ z. if z then Some d else None) (neq-eqb token t (λ e. let g : None ≡ Some x = f (sym e) in cc))

pub note_earlier : {A : Type 0} (old new : List (Option A)) (token size : ℕ) (d x : A) (o : Option A) → Longer old new size → o ≡ joined (slice_get new token) → o ≡ Some x → Noted old new token d
unfolding Noted
note_earlier old new token size d x o f eo some t = f.same t ∙ sym (noted_some (joined (slice_get old t)) x token t d (λ e. ap (λ z. joined (slice_get old z)) e ∙ sym (f.same token) ∙ sym eo ∙ some))

pub note_here : {A : Type 0} (old mid new : List (Option A)) (token size : ℕ) (d : A) (o : Option A) → Longer old mid size → size ≡ token + 1 → o ≡ joined (slice_get mid token) → o ≡ None → new ≡ slice_set mid token (Some d) → Noted old new token d
unfolding Noted
note_here {A = A} old mid new token size d o f es eo none en t =
    let long = f.long in
    let le : token < length mid = omega (arith, long, es) in
    ⊎_elim
    (λ same.
    let at : slice_get new t ≡ Some (Some d) = ap (λ z. slice_get z t) en ∙ ap (slice_get (slice_set mid token (Some d))) same ∙ set_there mid token (Some d) le in
    let nothing : joined (slice_get old t) ≡ None = ap (λ z. joined (slice_get old z)) same ∙ sym (f.same token) ∙ sym eo ∙ none in
    ap joined at ∙ sym (ap (λ z. noted z token t d) nothing ∙ ap (λ z. if z then Some d else None) (eq-eqb token t (sym same))))
    (λ other.
    let at : slice_get new t ≡ slice_get mid t = ap (λ z. slice_get z t) en ∙ set_apart mid token t (Some d) other in
    ap joined at ∙ f.same t ∙ sym (elsewhere (joined (slice_get old t)) other))
    (cases_eq t token)
  where
    elsewhere : (o : Option A) → t ≢ token → noted o token t d ≡ o
    elsewhere (Some y) other = refl
    elsewhere None other = ap (λ z. if z then Some d else None) (neq-eqb token t (λ e. other (sym e)))

-- ---- all declarations

after : (n t : ℕ) (xs : List Declaration) (x : Declaration) → number_from n t (xs ++ (x ∷ [])) ≡ noted (number_from n t xs) x.token.0 t (record { 0 = n + length xs })
after n t [] x = let e : n ≡ n + 0 = omega arith in ap (λ z. if x.token.0 == t then Some (let d : DeclNo = record { 0 = z } in d) else None) e
after n t (y ∷ ys) x = cases (y.token.0 == t) refl (after (n + 1) t ys x)
  where
    cases : (c : Bool) → (y.token.0 == t) ≡ c → number_from (n + 1) t (ys ++ (x ∷ [])) ≡ noted (number_from (n + 1) t ys) x.token.0 t (record { 0 = n + 1 + length ys })
        → (if c then Some (let d : DeclNo = record { 0 = n } in d) else number_from (n + 1) t (ys ++ (x ∷ []))) ≡ noted (if c then Some (let d : DeclNo = record { 0 = n } in d) else number_from (n + 1) t ys) x.token.0 t (record { 0 = n + suc (length ys) })
    cases true e f = refl
    cases false e f = let g : n + 1 + length ys ≡ n + suc (length ys) = omega arith in f ∙ ap (λ z. noted (number_from (n + 1) t ys) x.token.0 t (record { 0 = z })) g

pub take_more : {A : Type 0} (xs : List A) (k : ℕ) (x : A) → slice_get xs k ≡ Some x → (take (suc k) xs ≡ take k xs ++ (x ∷ [])) × (length (take k xs) ≡ k)
take_more [] k x e = absurd (cc)
take_more (y ∷ ys) zero x e = (ap (λ z. z ∷ []) (let g : y ≡ x = cc in g), refl)
take_more (y ∷ ys) (suc k) x e = let r = take_more ys k x e in (ap (λ z. y ∷ z) r.0, ap suc r.1)

pub noted_first : (ds : List Declaration) (table : List (Option DeclNo)) → table ≡ [] → NotedTo ds table 0
unfolding NotedTo
noted_first ds table e t = ap (λ z. joined (slice_get z t)) e

pub noted_next : (ds : List Declaration) (k m : ℕ) (x : Declaration) (old new : List (Option DeclNo)) → NotedTo ds old k → k < length ds → x ≡ slice_index_or ds k x → m ≡ k → Noted old new x.token.0 (record { 0 = m }) → NotedTo ds new (k + 1)
unfolding Noted NotedTo
noted_next ds k m x old new f le is em g t =
    let r = take_more ds k x (get_at ds k x le ∙ ap Some (sym is)) in
    let here : m ≡ 0 + length (take k ds) = (let l = r.1 in omega (arith, em, l)) in
    g t ∙ ap (λ z. noted z x.token.0 t (record { 0 = m })) (f t) ∙ ap (λ z. noted (number_from 0 t (take k ds)) x.token.0 t (record { 0 = z })) here ∙ sym (ap (number_from 0 t) (ap (λ z. take z ds) (let one : k + 1 ≡ suc k = omega arith in one) ∙ r.0) ∙ after 0 t (take k ds) x)

pub noted_end : (ds : List Declaration) (table : List (Option DeclNo)) (k : ℕ) → NotedTo ds table k → k ≤ length ds → length ds ≤ k → NotedTo ds table (length ds)
noted_end ds table k f lo hi = let e : k ≡ length ds = omega (arith, lo, hi) in subst (NotedTo ds table) e f

pub take_all : {A : Type 0} (xs : List A) (k : ℕ) → length xs ≤ k → take k xs ≡ xs
take_all [] zero le = refl
take_all [] (suc k) le = refl
take_all (x ∷ xs) zero le = absurd (omega (arith, le))
take_all (x ∷ xs) (suc k) le = ap (λ z. x ∷ z) (take_all xs k (omega (arith, le)))

pub declared_all : (b : Bound) (ds : List Declaration) (table : List (Option DeclNo)) → ds ≡ b.scopes.declarations → NotedTo ds table (length ds) → AreDeclared b table
unfolding AreDeclared NotedTo declared_at source_of
declared_all b ds table ed f t = f t ∙ ap (number_from 0 t) (take_all ds (length ds) (omega arith) ∙ ed)

-- ---- all text constants

number_if : (c : Bool) (n : ℕ) (bytes : List ℕ) (o : Option Plain) → number_in (if c then Some (text_value n bytes) else o) ≡ (if c then Some n else number_in o)
number_if true n bytes o = refl
number_if false n bytes o = refl

after_text : (n t : ℕ) (xs : List TextConstant) (x : TextConstant) → number_in (constant_from n t (xs ++ (x ∷ []))) ≡ noted (number_in (constant_from n t xs)) x.token t (n + length xs)
after_text n t [] x = number_if (x.token == t) n x.bytes None ∙ (let e : n ≡ n + 0 = omega arith in ap (λ z. if x.token == t then Some z else None) e)
after_text n t (y ∷ ys) x = cases (y.token == t) (after_text (suc n) t ys x)
  where
    cases : (c : Bool) → number_in (constant_from (suc n) t (ys ++ (x ∷ []))) ≡ noted (number_in (constant_from (suc n) t ys)) x.token t (suc n + length ys)
        → number_in (if c then Some (text_value n y.bytes) else constant_from (suc n) t (ys ++ (x ∷ []))) ≡ noted (number_in (if c then Some (text_value n y.bytes) else constant_from (suc n) t ys)) x.token t (n + suc (length ys))
    cases true f = refl
    cases false f = let g : suc n + length ys ≡ n + suc (length ys) = omega arith in f ∙ ap (λ z. noted (number_in (constant_from (suc n) t ys)) x.token t z) g

map-append : {A B : Type 0} (f : A → B) (xs ys : List A) → map f (xs ++ ys) ≡ map f xs ++ map f ys
map-append f [] ys = refl
map-append f (x ∷ xs) ys = ap (λ z. f x ∷ z) (map-append f xs ys)

map-length : {A B : Type 0} (f : A → B) (xs : List A) → length (map f xs) ≡ length xs
map-length f [] = refl
map-length f (x ∷ xs) = ap suc (map-length f xs)

pub numbered_first : (cs : List ConstantTree) (table : List (Option ℕ)) → table ≡ [] → NumberedTo cs table 0
unfolding NumberedTo
numbered_first cs table e t = ap (λ z. joined (slice_get z t)) e

pub numbered_next : (cs : List ConstantTree) (k m : ℕ) (x : ConstantTree) (old new : List (Option ℕ)) → NumberedTo cs old k → k < length cs → x ≡ slice_index_or cs k x → m ≡ k → Noted old new x.token.0 m → NumberedTo cs new (k + 1)
unfolding Noted NumberedTo
numbered_next cs k m x old new f le is em g t =
    let r = take_more cs k x (get_at cs k x le ∙ ap Some (sym is)) in
    let xs = map constant_in (take k cs) in
    let here : m ≡ 0 + length xs = (let l = r.1 in let q = map-length constant_in (take k cs) in omega (arith, em, l, q)) in
    let all : map constant_in (take (k + 1) cs) ≡ xs ++ (constant_in x ∷ []) = ap (λ z. map constant_in (take z cs)) (let one : k + 1 ≡ suc k = omega arith in one) ∙ ap (map constant_in) r.0 ∙ map-append constant_in (take k cs) (x ∷ []) in
    g t ∙ ap (λ z. noted z x.token.0 t m) (f t) ∙ ap (λ z. noted (number_in (constant_from 0 t xs)) x.token.0 t z) here ∙ sym (ap (λ z. number_in (constant_from 0 t z)) all ∙ after_text 0 t xs (constant_in x))

pub numbered_end : (cs : List ConstantTree) (table : List (Option ℕ)) (k : ℕ) → NumberedTo cs table k → k ≤ length cs → length cs ≤ k → NumberedTo cs table (length cs)
numbered_end cs table k f lo hi = let e : k ≡ length cs = omega (arith, lo, hi) in subst (NumberedTo cs table) e f

constants_are : (b : Bound) (cs : List ConstantTree) → AreConstants b.program cs → map constant_in cs ≡ text_constants (source_of b)
unfolding AreConstants text_constants source_of
constants_are b cs f = f

pub numbered_all : (b : Bound) (cs ds : List ConstantTree) (table : List (Option ℕ)) → AreConstants b.program cs → ds ≡ cs → NumberedTo ds table (length ds) → AreNumbered b table
unfolding AreNumbered NumberedTo text_constant
numbered_all b cs ds table are ed f t = f t ∙ ap (λ z. number_in (constant_from 0 t (map constant_in z))) (take_all ds (length ds) (omega arith) ∙ ed) ∙ ap (λ z. number_in (constant_from 0 t z)) (constants_are b cs are)

pub ruleset by_tokens = (longer_first, longer_next, longer_end, note_earlier, note_here, noted_first, noted_next, noted_end, declared_all, numbered_first, numbered_next, numbered_end, numbered_all)
