-- Fields written one behind the other.
use Rattle.std.proofs.Common.{◌≡◌, ℕ, ◌+◌, ◌<◌, List, [], ◌∷◌, ◌++◌, length, take, get_or, sym, ap, subst, ◌∙◌, append_assoc, ℤ, pos, map}
use Rattle.std.specs.List.{flat_map}
use Rattle.std.proofs.lemmas.List.{append-nil, map_push, take_more}
use Rattle.std.proofs.lemmas.List.Concat.{flat_map-append}
use Rattle.code_file.specs.Fields.{Field, Fits, Operand, bytes_of, bytes_of_field}
use Rattle.code_file.specs.Spelling.{operand_fields}
use Rattle.code_file.specs.Table.{padded}
use Rattle.code_file.specs.Writing.{Appends}
use Rattle.code_file.proofs.Lists.{all_both}

pub nothing : (out : List ℕ) → Appends out out []
nothing out = record { bytes = sym (append-nil out); fits = tt }

joined : (xs ys : List Field) → bytes_of xs ++ bytes_of ys ≡ bytes_of (xs ++ ys)
joined xs ys = sym (flat_map-append bytes_of_field xs ys)

-- what was written first, and what behind it
pub appends : (a b c : List ℕ) (xs ys : List Field) → Appends a b xs → Appends b c ys → Appends a c (xs ++ ys)
appends a b c xs ys p q = record {
  bytes = q.bytes ∙ ap (λ (o : List ℕ). o ++ bytes_of ys) p.bytes ∙ append_assoc a (bytes_of xs) (bytes_of ys) ∙ ap (λ (o : List ℕ). a ++ o) (joined xs ys);
  fits = all_both Fits xs ys p.fits q.fits;
}

pub then_field : (a b c : List ℕ) (x : Field) (ys : List Field) → Appends a b (x ∷ []) → Appends b c ys → Appends a c (x ∷ ys)
then_field a b c x ys p q = appends a b c (x ∷ []) ys p q

-- an operand that there is not is 0
pub unused_too : (a b : List ℕ) (ops : List ℤ) → Appends a b (map Operand (padded ops)) → Appends a b (operand_fields ops)
unused_too a b [] h = record { bytes = h.bytes; fits = (tt, (tt, (tt, tt))) }
unused_too a b (x ∷ []) h = record { bytes = h.bytes; fits = (h.fits.0, (tt, (tt, tt))) }
unused_too a b (x ∷ y ∷ []) h = record { bytes = h.bytes; fits = (h.fits.0, (h.fits.1.0, (tt, tt))) }
unused_too a b (x ∷ y ∷ z ∷ ops) h = h

-- one more record, or operand, behind those before
pub one_more : {A : Type 0} (f : A → List Field) (a b c : List ℕ) (front : List A) (x : A) → Appends a b (flat_map f front) → Appends b c (f x) → Appends a c (flat_map f (front ++ x ∷ []))
one_more f a b c front x p q =
    subst (λ (fs : List Field). Appends a c fs) (sym (flat_map-append f front (x ∷ []) ∙ ap (λ (l : List Field). flat_map f front ++ l) (append-nil (f x)))) (appends a b c (flat_map f front) (f x) p q)

pub record_more : {A : Type 0} (f : A → List Field) (a b c : List ℕ) (xs : List A) (i : ℕ) (x : A) → i < length xs → x ≡ get_or xs i x → Appends a b (flat_map f (take i xs)) → Appends b c (f x) → Appends a c (flat_map f (take (i + 1) xs))
record_more {A} f a b c xs i x lt is p q =
    let longer : take (i + 1) xs ≡ take i xs ++ x ∷ [] = take_more xs i x lt ∙ ap (λ (y : A). take i xs ++ y ∷ []) (sym is) in
    subst (λ (ys : List A). Appends a c (flat_map f ys)) (sym longer) (one_more f a b c (take i xs) x p q)

pub operand_more : (a b c : List ℕ) (xs : List ℤ) (i : ℕ) → i < length xs → Appends a b (map Operand (take i xs)) → Appends b c (Operand (get_or xs i (pos 0)) ∷ []) → Appends a c (map Operand (take (i + 1) xs))
operand_more a b c xs i lt p q =
    let longer : map Operand (take (i + 1) xs) ≡ map Operand (take i xs) ++ Operand (get_or xs i (pos 0)) ∷ [] = ap (map Operand) (take_more xs i (pos 0) lt) ∙ map_push Operand (take i xs) (get_or xs i (pos 0)) in
    subst (λ (fs : List Field). Appends a c fs) (sym longer) (appends a b c (map Operand (take i xs)) (Operand (get_or xs i (pos 0)) ∷ []) p q)
