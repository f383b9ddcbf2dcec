-- The records of classes.
use Rattle.std.proofs.Common.{◌≡◌, ◌<◌, ◌≤◌, ◌+◌, ℕ, zero, suc, List, [], ◌∷◌, ◌++◌, length, Option, Some, refl, sym, ap, ◌∙◌, subst, arith, length-append}
use Rattle.std.specs.Prelude.{slice_get}
use Rattle.sim_scope.specs.declared.bound.Bound.{Bound}
use Rattle.sim_scope.specs.Source.{Source, source_of}
use Rattle.sim_code.specs.declared.code.Match.{Match}
use Rattle.sim_code.specs.Code.{ClassOf}
use Rattle.codegen.specs.declared.texts.ClassAt.{ClassAt}
use Rattle.codegen.specs.declared.texts.Written.{Written}
use Rattle.codegen.specs.EmitMatches.{AreTextsOfClasses}
use Rattle.codegen.specs.EmitRecords.{AreClasses, AreRecords, matches_in_class, record_with}

-- the first records
pub record RecordsTo (s : Source) (cs : List (Option ClassAt)) (ks : List (Option ℕ)) (xs : List ClassOf) (done : ℕ) : Type 0 where
  pub counted : length xs ≡ done
  pub each : (j : ℕ) (c : Option ClassAt) (k : Option ℕ) → j < done → slice_get cs j ≡ Some c → slice_get ks j ≡ Some k → slice_get xs j ≡ Some (record_with c (matches_in_class s k))

pub records_first : (s : Source) (cs : List (Option ClassAt)) (ks : List (Option ℕ)) (xs : List ClassOf) → xs ≡ [] → RecordsTo s cs ks xs 0
records_first s cs ks xs e = record { counted = ap length e; each = λ j c k le. absurd (omega (arith, le)) }

get_front : {A : Type 0} (xs ys : List A) (j : ℕ) (x : A) → slice_get xs j ≡ Some x → slice_get (xs ++ ys) j ≡ Some x
get_front [] ys j x e = absurd (cc)
get_front (y ∷ xs) ys zero x e = e
get_front (y ∷ xs) ys (suc j) x e = get_front xs ys j x e

get_last : {A : Type 0} (xs : List A) (x : A) (j : ℕ) → j ≡ length xs → slice_get (xs ++ (x ∷ [])) j ≡ Some x
get_last [] x j e = ap (slice_get (x ∷ [])) e
get_last (y ∷ xs) x zero e = absurd (omega (arith, e))
get_last (y ∷ xs) x (suc j) e = get_last xs x j (omega (arith, e))

data Below (j k : ℕ) : Type 0 where
  lower : j < k → Below j k
  equal : j ≡ k → Below j k

below : (j k : ℕ) → j < k + 1 → Below j k
below zero zero le = equal refl
below zero (suc k) le = lower (omega arith)
below (suc j) zero le = absurd (omega (arith, le))
below (suc j) (suc k) le = up (below j k (omega (arith, le)))
  where
    up : Below j k → Below (suc j) (suc k)
    up (lower h) = lower (omega (arith, h))
    up (equal h) = equal (ap suc h)

some_same : {A : Type 0} (x y : A) → Some x ≡ Some y → x ≡ y
some_same x y e = cc

pub records_next : (s : Source) (cs : List (Option ClassAt)) (ks : List (Option ℕ)) (xs new : List ClassOf) (i : ℕ) (c : Option ClassAt) (k : Option ℕ) (ms : List Match) (x : ClassOf) → RecordsTo s cs ks xs i → slice_get cs i ≡ Some c → slice_get ks i ≡ Some k
    → ms ≡ matches_in_class s k → x ≡ record_with c ms → new ≡ xs ++ (x ∷ []) → RecordsTo s cs ks new (i + 1)
records_next s cs ks xs new i c k ms x f ec ek em ex e = record {
  counted = ap length e ∙ length-append xs (x ∷ []) ∙ ap (λ z. z + 1) f.counted;
  each = λ j d l le there here. cases j d l there here (below j i le);
}
  where
    cases : (j : ℕ) (d : Option ClassAt) (l : Option ℕ) → slice_get cs j ≡ Some d → slice_get ks j ≡ Some l → Below j i → slice_get new j ≡ Some (record_with d (matches_in_class s l))
    cases j d l there here (lower le) = ap (λ z. slice_get z j) e ∙ get_front xs (x ∷ []) j _ (f.each j d l le there here)
    cases j d l there here (equal eq) =
        let same_class : c ≡ d = some_same c d (sym ec ∙ ap (slice_get cs) (sym eq) ∙ there) in
        let same_text : k ≡ l = some_same k l (sym ek ∙ ap (slice_get ks) (sym eq) ∙ here) in
        ap (λ z. slice_get z j) e ∙ get_last xs x j (eq ∙ sym f.counted) ∙ ap Some (ex ∙ ap (record_with c) em ∙ ap (λ z. record_with z (matches_in_class s k)) same_class ∙ ap (λ z. record_with d (matches_in_class s z)) same_text)

within : {A : Type 0} (xs : List A) (j : ℕ) (x : A) → slice_get xs j ≡ Some x → j < length xs
within [] j x e = absurd (cc)
within (y ∷ xs) zero x e = omega arith
within (y ∷ xs) (suc j) x e = let h = within xs j x e in omega (arith, h)

pub records_last : (s : Source) (cs : List (Option ClassAt)) (ks : List (Option ℕ)) (xs : List ClassOf) (i : ℕ) → RecordsTo s cs ks xs i → i ≡ length cs → AreRecords s cs ks xs
unfolding AreRecords
records_last s cs ks xs i f e = (f.counted ∙ e, λ j c k there here. let inside = within cs j c there in f.each j c k (omega (arith, inside, e)) there here)

-- ---- with the texts

pub texts_long : (b : Bound) (w : Written) (n : ℕ) (ks ls : List (Option ℕ)) (cs : List (Option ClassAt)) → AreTextsOfClasses b w.draft n ks → n ≡ length w.classes.items → cs ≡ w.classes.items → ls ≡ ks → length cs ≤ length ls
unfolding AreTextsOfClasses
texts_long b w n ks ls cs f e ec ek =
    let long = f.0 in
    let classes : length cs ≡ length w.classes.items = ap length ec in
    let texts : length ls ≡ length ks = ap length ek in
    omega (arith, long, e, classes, texts)

pub classes_are : (b : Bound) (w : Written) (n : ℕ) (ks ls : List (Option ℕ)) (cs : List (Option ClassAt)) (xs : List ClassOf) → AreTextsOfClasses b w.draft n ks → n ≡ length w.classes.items → cs ≡ w.classes.items → ls ≡ ks → AreRecords (source_of b) cs ls xs → AreClasses b w xs
unfolding AreClasses
classes_are b w n ks ls cs xs f e ec ek g = record {
  texts = ks;
  each = subst (λ z. AreTextsOfClasses b w.draft z ks) e f;
  records = subst (λ z. AreRecords (source_of b) z ks xs) ec (subst (λ z. AreRecords (source_of b) cs z xs) ek g);
}

pub ruleset records = (texts_long, classes_are)
