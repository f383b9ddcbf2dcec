-- Reading records one after the other, as a loop does.
use Rattle.std.proofs.Common.{◌≡◌, ℕ, suc, ◌-◌, ◌+◌, ◌≤◌, ◌<◌, List, [], ◌∷◌, ◌++◌, Ok, Err, refl, sym, ap, ◌∙◌, append_assoc, arith}
use Rattle.std.proofs.lemmas.List.{append-nil}
use Rattle.code_file.specs.declared.fault.Fault.{Fault}
use Rattle.code_file.specs.declared.fault.Fault.TheVariants as fault
use Rattle.code_file.specs.Reading.{Found, Reader, Fails, after, records_at}

-- what was read before, and what is still read
abbrev pub with_front : {A : Type 0} → List A → Found (List A × List ℕ) → Found (List A × List ℕ)
with_front front read = after read (λ x. Ok (front ++ x.0, x.1))

regroup : {A : Type 0} (front : List A) (n : A) (read : Found (List A × List ℕ)) → with_front front (after read (λ x. Ok (n ∷ x.0, x.1))) ≡ with_front (front ++ n ∷ []) read
regroup {A} front n (Ok x) = ap (λ (ns : List A). Ok (ns, x.1)) (simp append_assoc)
regroup front n (Err f) = refl

pub goes_on : {A : Type 0} (p : Reader A) (front : List A) (count i : ℕ) (bytes : List ℕ) (n : A) (rest : List ℕ) (total : Found (List A × List ℕ)) → i < count → p bytes ≡ Ok (n, rest)
    → with_front front (records_at p (count - i) bytes) ≡ total → with_front (front ++ n ∷ []) (records_at p (count - (i + 1)) rest) ≡ total
unfolding records_at
goes_on p front count i bytes n rest total lt h so_far =
    let k : count - i ≡ suc (count - (i + 1)) = omega arith in
    let one : with_front front (records_at p (count - i) bytes) ≡ with_front (front ++ n ∷ []) (records_at p (count - (i + 1)) rest) = rw (k, h) (regroup front n (records_at p (count - (i + 1)) rest)) in
    sym one ∙ so_far

pub ends : {A : Type 0} (p : Reader A) (e : Fault) (front : List A) (count i : ℕ) (bytes : List ℕ) (total : Found (List A × List ℕ)) → i < count → Fails e (p bytes)
    → with_front front (records_at p (count - i) bytes) ≡ total → Fails e total
unfolding records_at
ends p fault.Memory front count i bytes total lt h so_far = tt
ends p (fault.Broken rule left) front count i bytes total lt h so_far =
    let k : count - i ≡ suc (count - (i + 1)) = omega arith in
    let one : with_front front (records_at p (count - i) bytes) ≡ Err (rule, left) = rw (k, h) refl in
    sym so_far ∙ one

pub is_done : {A : Type 0} (p : Reader A) (front : List A) (count i : ℕ) (bytes : List ℕ) (total : Found (List A × List ℕ)) → count ≤ i → with_front front (records_at p (count - i) bytes) ≡ total → total ≡ Ok (front, bytes)
unfolding records_at
is_done {A} p front count i bytes total le so_far =
    let k : count - i ≡ 0 = omega arith in
    let one : with_front front (records_at p (count - i) bytes) ≡ Ok (front, bytes) = rw k (ap (λ (ns : List A). Ok (ns, bytes)) (append-nil front)) in
    sym so_far ∙ one

pub begins : {A : Type 0} (read : Found (List A × List ℕ)) → with_front [] read ≡ read
begins (Ok x) = refl
begins (Err f) = refl
