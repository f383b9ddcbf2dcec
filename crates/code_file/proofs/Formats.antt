-- A format: what reads a value at the front of bytes, and the fields of values, are two sides of one thing.
use Rattle.std.proofs.Common.{◌≡◌, ◌⊎◌, ℕ, ◌<◌, List, [], ◌∷◌, ◌++◌, length, Ok, Err, refl, sym, ap, subst, ◌∙◌, append_assoc, inl, inr}
use Rattle.code_file.specs.declared.rule.CodeRule.{CodeRule}
use Rattle.code_file.specs.declared.rule.CodeRule.TheVariants.{NoHeader, EndsEarly, OutOfRange, NotZero, AfterEnd}
use Rattle.code_file.specs.Fields.{Field, bytes_of, size, Fits}
use Rattle.code_file.specs.Faults.{IsOutOfRange, IsUsed}
use Rattle.code_file.specs.Reading.{Found, Reader, after, ◌>>=◌, done}
use Rattle.code_file.proofs.Lists.{IsBytes, AllFit, all_both, all_front, all_back, rest_small, bytes_then, cut, no_cut}

-- what is wrong with the bytes that are left in the place of a field
abbrev pub Wrong : Field → (left : List ℕ) → CodeRule → ℕ → Type 0
Wrong next left NoHeader n = ⊥
Wrong next left EndsEarly n = (length left < size next) × (n ≡ 0)
Wrong next left OutOfRange n = IsOutOfRange next left × (n ≡ length left)
Wrong next left NotZero n = IsUsed next left × (n ≡ length left)
Wrong next left AfterEnd n = ⊥

-- bytes begin with some of the fields, and then something is wrong
pub record Breaking (fields : List Field) (bytes : List ℕ) (rule : CodeRule) (n : ℕ) : Type 0 where
  pub front : List Field
  pub next : Field
  pub behind : List Field
  pub left : List ℕ
  pub split : fields ≡ front ++ next ∷ behind
  pub parts : bytes ≡ bytes_of front ++ left
  pub wrong : Wrong next left rule n

-- bytes begin with the fields of a value
pub record Taken {A : Type 0} (Valid : A → Type 0) (fields : A → List Field) (bytes : List ℕ) (x : A) (rest : List ℕ) : Type 0 where
  pub valid : Valid x
  pub fit : AllFit (fields x)
  pub parts : bytes ≡ bytes_of (fields x) ++ rest

-- bytes would begin with the fields of a value, but something is wrong
pub record Broken {A : Type 0} (Valid : A → Type 0) (fields : A → List Field) (bytes : List ℕ) (rule : CodeRule) (n : ℕ) : Type 0 where
  pub value : A
  pub valid : Valid value
  pub fit : AllFit (fields value)
  pub breaking : Breaking (fields value) bytes rule n

pub record Some {A : Type 0} (Valid : A → Type 0) (fields : A → List Field) : Type 0 where
  pub value : A
  pub valid : Valid value
  pub fit : AllFit (fields value)

pub record IsFormat {A : Type 0} (at : Reader A) (Valid : A → Type 0) (fields : A → List Field) : Type 0 where
  pub takes : (bytes : List ℕ) (x : A) (rest : List ℕ) → IsBytes bytes → at bytes ≡ Ok (x, rest) → Taken Valid fields bytes x rest
  pub again : (x : A) (rest : List ℕ) → Valid x → AllFit (fields x) → at (bytes_of (fields x) ++ rest) ≡ Ok (x, rest)
  pub fails : (bytes : List ℕ) (rule : CodeRule) (n : ℕ) → IsBytes bytes → at bytes ≡ Err (rule, n) → Broken Valid fields bytes rule n
  pub refuses : (x : A) (bytes : List ℕ) (rule : CodeRule) (n : ℕ) → Valid x → AllFit (fields x) → Breaking (fields x) bytes rule n → at bytes ≡ Err (rule, n)
  pub some : Some Valid fields

-- ---- one step behind the other

pub record AfterOk {A B : Type 0} (r : Found A) (go : A → Found B) (y : B) : Type 0 where
  pub value : A
  pub first : r ≡ Ok value
  pub second : go value ≡ Ok y

pub after_ok : {A B : Type 0} (r : Found A) (go : A → Found B) (y : B) → after r go ≡ Ok y → AfterOk r go y
after_ok (Ok x) go y e = record { value = x; first = refl; second = e }
after_ok (Err d) go y e = absurd cc

pub record AfterErr {A B : Type 0} (r : Found A) (go : A → Found B) (f : CodeRule × ℕ) : Type 0 where
  pub value : A
  pub first : r ≡ Ok value
  pub second : go value ≡ Err f

pub after_err : {A B : Type 0} (r : Found A) (go : A → Found B) (f : CodeRule × ℕ) → after r go ≡ Err f → (r ≡ Err f) ⊎ AfterErr r go f
after_err (Ok x) go f e = inr (record { value = x; first = refl; second = e })
after_err (Err d) go f e = inl (cc)

abbrev pub given : {A : Type 0} → A → Found A
given x = Ok x

pub ok_is : {A : Type 0} (x y : A) → given x ≡ given y → x ≡ y
ok_is x y e = cc

-- ---- nothing is read

done_is : {C : Type 0} (made x : C) (bytes rest : List ℕ) → done made bytes ≡ Ok (x, rest) → (made ≡ x) × (bytes ≡ rest)
done_is {C} made x bytes rest e =
    let both : (made, bytes) ≡ (x, rest) = ok_is (made, bytes) (x, rest) e in
    (ap (λ (p : C × List ℕ). p.0) both, ap (λ (p : C × List ℕ). p.1) both)

done_fails : {C : Type 0} (made : C) (bytes : List ℕ) (f : CodeRule × ℕ) → done made bytes ≡ Err f → ⊥
done_fails made bytes f e = cc

done_taken : {C : Type 0} (made : C) (V : C → Type 0) → V made → (bytes : List ℕ) (x : C) (rest : List ℕ) → done made bytes ≡ Ok (x, rest) → Taken V (λ _. []) bytes x rest
done_taken made V valid bytes x rest e = record { valid = subst V (done_is made x bytes rest e).0 valid; fit = tt; parts = (done_is made x bytes rest e).1 }

pub done_format : {C : Type 0} (made : C) (V : C → Type 0) → V made → ((c : C) → V c → c ≡ made) → IsFormat (done made) V (λ _. [])
done_format {C} made V valid same = record {
  takes = λ bytes x rest small e. done_taken made V valid bytes x rest e;
  again = λ x rest v fit. ap (λ (c : C). done c rest) (sym (same x v));
  fails = λ bytes rule n small e. absurd (done_fails made bytes (rule, n) e);
  refuses = λ x bytes rule n v fit b. absurd (no_cut b.front b.next b.behind b.split);
  some = record { value = made; valid = valid; fit = tt };
}

-- ---- a value, and then what follows from it

pub record Follows {A C : Type 0} (p : Reader A) (Vp : A → Type 0) (fp : A → List Field) (k : A → Reader C) (V : C → Type 0) (f : C → List Field) (part : C → A) (others : C → List Field) : Type 0 where
  pub first : IsFormat p Vp fp
  pub then : (x : A) → Vp x → IsFormat (k x) (λ c. V c × (part c ≡ x)) others
  pub part_valid : (c : C) → V c → Vp (part c)
  pub in_two : (c : C) → V c → f c ≡ fp (part c) ++ others c

seq_taken : {A C : Type 0} (p : Reader A) (Vp : A → Type 0) (fp : A → List Field) (k : A → Reader C) (V : C → Type 0) (f : C → List Field) (part : C → A) (others : C → List Field)
    → Follows p Vp fp k V f part others → (bytes : List ℕ) (c : C) (rest : List ℕ) → IsBytes bytes → (p >>= k) bytes ≡ Ok (c, rest) → Taken V f bytes c rest
seq_taken {A} {C} p Vp fp k V f part others h bytes c rest small e =
    let a = after_ok (p bytes) (λ x. k x.0 x.1) (c, rest) e in
    let x : A = a.value.0 in
    let t = h.first.takes bytes x a.value.1 small a.first in
    let u = (h.then x t.valid).takes a.value.1 c rest (rest_small bytes (bytes_of (fp x)) a.value.1 t.parts small) a.second in
    let whole : f c ≡ fp x ++ others c = h.in_two c u.valid.0 ∙ ap (λ (y : A). fp y ++ others c) u.valid.1 in
    let both : AllFit (fp x ++ others c) = all_both Fits (fp x) (others c) t.fit u.fit in
    let spelt : bytes ≡ bytes_of (fp x) ++ (bytes_of (others c) ++ rest) = t.parts ∙ ap (λ (b : List ℕ). bytes_of (fp x) ++ b) u.parts in
    let joined : bytes ≡ bytes_of (fp x ++ others c) ++ rest = spelt ∙ sym (bytes_then (fp x) (others c) rest) in
    record {
      valid = u.valid.0;
      fit = subst AllFit (sym whole) both;
      parts = subst (λ (fs : List Field). bytes ≡ bytes_of fs ++ rest) (sym whole) joined;
    }

seq_again : {A C : Type 0} (p : Reader A) (Vp : A → Type 0) (fp : A → List Field) (k : A → Reader C) (V : C → Type 0) (f : C → List Field) (part : C → A) (others : C → List Field)
    → Follows p Vp fp k V f part others → (c : C) (rest : List ℕ) → V c → AllFit (f c) → (p >>= k) (bytes_of (f c) ++ rest) ≡ Ok (c, rest)
seq_again {A} {C} p Vp fp k V f part others h c rest v fit =
    let x : A = part c in
    let whole : f c ≡ fp x ++ others c = h.in_two c v in
    let both : AllFit (fp x ++ others c) = subst AllFit whole fit in
    let first : p (bytes_of (fp x) ++ (bytes_of (others c) ++ rest)) ≡ Ok (x, bytes_of (others c) ++ rest) = h.first.again x (bytes_of (others c) ++ rest) (h.part_valid c v) (all_front Fits (fp x) (others c) both) in
    let second : k x (bytes_of (others c) ++ rest) ≡ Ok (c, rest) = (h.then x (h.part_valid c v)).again c rest (v, refl) (all_back Fits (fp x) (others c) both) in
    let spelt : bytes_of (f c) ++ rest ≡ bytes_of (fp x) ++ (bytes_of (others c) ++ rest) = ap (λ (fs : List Field). bytes_of fs ++ rest) whole ∙ bytes_then (fp x) (others c) rest in
    ap (p >>= k) spelt ∙ ap (λ (r : Found (A × List ℕ)). after r (λ y. k y.0 y.1)) first ∙ second

seq_fails : {A C : Type 0} (p : Reader A) (Vp : A → Type 0) (fp : A → List Field) (k : A → Reader C) (V : C → Type 0) (f : C → List Field) (part : C → A) (others : C → List Field)
    → Follows p Vp fp k V f part others → (bytes : List ℕ) (rule : CodeRule) (n : ℕ) → IsBytes bytes → (p >>= k) bytes ≡ Err (rule, n) → Broken V f bytes rule n
seq_fails {A} {C} p Vp fp k V f part others h bytes rule n small e =
    elim (after_err (p bytes) (λ x. k x.0 x.1) (rule, n) e) [
      | inl first ↦
          let b = h.first.fails bytes rule n small first in
          let s = (h.then b.value b.valid).some in
          let whole : f s.value ≡ fp b.value ++ others s.value = h.in_two s.value s.valid.0 ∙ ap (λ (y : A). fp y ++ others s.value) s.valid.1 in
          let both : AllFit (fp b.value ++ others s.value) = all_both Fits (fp b.value) (others s.value) b.fit s.fit in
          let split : f s.value ≡ b.breaking.front ++ b.breaking.next ∷ (b.breaking.behind ++ others s.value) =
          whole ∙ ap (λ (fs : List Field). fs ++ others s.value) b.breaking.split ∙ append_assoc b.breaking.front (b.breaking.next ∷ b.breaking.behind) (others s.value) in
          record {
            value = s.value;
            valid = s.valid.0;
            fit = subst AllFit (sym whole) both;
            breaking = record { front = b.breaking.front; next = b.breaking.next; behind = b.breaking.behind ++ others s.value; left = b.breaking.left; split = split; parts = b.breaking.parts; wrong = b.breaking.wrong };
          }
      | inr a ↦
          let x : A = a.value.0 in
          let t = h.first.takes bytes x a.value.1 small a.first in
          let b = (h.then x t.valid).fails a.value.1 rule n (rest_small bytes (bytes_of (fp x)) a.value.1 t.parts small) a.second in
          let c : C = b.value in
          let whole : f c ≡ fp x ++ others c = h.in_two c b.valid.0 ∙ ap (λ (y : A). fp y ++ others c) b.valid.1 in
          let both : AllFit (fp x ++ others c) = all_both Fits (fp x) (others c) t.fit b.fit in
          let split : f c ≡ (fp x ++ b.breaking.front) ++ b.breaking.next ∷ b.breaking.behind =
          whole ∙ ap (λ (fs : List Field). fp x ++ fs) b.breaking.split ∙ sym (append_assoc (fp x) b.breaking.front (b.breaking.next ∷ b.breaking.behind)) in
          let spelt : bytes ≡ bytes_of (fp x ++ b.breaking.front) ++ b.breaking.left =
          t.parts ∙ ap (λ (bs : List ℕ). bytes_of (fp x) ++ bs) b.breaking.parts ∙ sym (bytes_then (fp x) b.breaking.front b.breaking.left) in
          record {
            value = c;
            valid = b.valid.0;
            fit = subst AllFit (sym whole) both;
            breaking = record { front = fp x ++ b.breaking.front; next = b.breaking.next; behind = b.breaking.behind; left = b.breaking.left; split = split; parts = spelt; wrong = b.breaking.wrong };
          }
    ]

seq_refuses : {A C : Type 0} (p : Reader A) (Vp : A → Type 0) (fp : A → List Field) (k : A → Reader C) (V : C → Type 0) (f : C → List Field) (part : C → A) (others : C → List Field)
    → Follows p Vp fp k V f part others → (c : C) (bytes : List ℕ) (rule : CodeRule) (n : ℕ) → V c → AllFit (f c) → Breaking (f c) bytes rule n → (p >>= k) bytes ≡ Err (rule, n)
seq_refuses {A} {C} p Vp fp k V f part others h c bytes rule n v fit b =
    let x : A = part c in
    let whole : f c ≡ fp x ++ others c = h.in_two c v in
    let both : AllFit (fp x ++ others c) = subst AllFit whole fit in
    let fits : AllFit (fp x) = all_front Fits (fp x) (others c) both in
    elim (cut (fp x) (others c) b.front b.next b.behind (sym whole ∙ b.split)) [
      | inl i ↦
          let first : p bytes ≡ Err (rule, n) = h.first.refuses x bytes rule n (h.part_valid c v) fits
          (record { front = b.front; next = b.next; behind = i.after; left = b.left; split = i.is; parts = b.parts; wrong = b.wrong }) in
          ap (λ (r : Found (A × List ℕ)). after r (λ y. k y.0 y.1)) first
      | inr i ↦
          let tail : List ℕ = bytes_of i.more ++ b.left in
          let spelt : bytes ≡ bytes_of (fp x) ++ tail = b.parts ∙ ap (λ (fs : List Field). bytes_of fs ++ b.left) i.front_is ∙ bytes_then (fp x) i.more b.left in
          let first : p (bytes_of (fp x) ++ tail) ≡ Ok (x, tail) = h.first.again x tail (h.part_valid c v) fits in
          let second : k x tail ≡ Err (rule, n) = (h.then x (h.part_valid c v)).refuses c tail rule n (v, refl) (all_back Fits (fp x) (others c) both)
          (record { front = i.more; next = b.next; behind = b.behind; left = b.left; split = i.is; parts = refl; wrong = b.wrong }) in
          ap (p >>= k) spelt ∙ ap (λ (r : Found (A × List ℕ)). after r (λ y. k y.0 y.1)) first ∙ second
    ]

seq_some : {A C : Type 0} (p : Reader A) (Vp : A → Type 0) (fp : A → List Field) (k : A → Reader C) (V : C → Type 0) (f : C → List Field) (part : C → A) (others : C → List Field)
    → Follows p Vp fp k V f part others → Some V f
seq_some {A} {C} p Vp fp k V f part others h =
    let a = h.first.some in
    let s = (h.then a.value a.valid).some in
    let whole : f s.value ≡ fp a.value ++ others s.value = h.in_two s.value s.valid.0 ∙ ap (λ (y : A). fp y ++ others s.value) s.valid.1 in
    record { value = s.value; valid = s.valid.0; fit = subst AllFit (sym whole) (all_both Fits (fp a.value) (others s.value) a.fit s.fit) }

pub seq : {A C : Type 0} (p : Reader A) (Vp : A → Type 0) (fp : A → List Field) (k : A → Reader C) (V : C → Type 0) (f : C → List Field) (part : C → A) (others : C → List Field)
    → Follows p Vp fp k V f part others → IsFormat (p >>= k) V f
seq p Vp fp k V f part others h = record {
  takes = seq_taken p Vp fp k V f part others h;
  again = seq_again p Vp fp k V f part others h;
  fails = seq_fails p Vp fp k V f part others h;
  refuses = seq_refuses p Vp fp k V f part others h;
  some = seq_some p Vp fp k V f part others h;
}

-- ---- the same fields in another form

pub same_fields : {A : Type 0} (at : Reader A) (V : A → Type 0) (f g : A → List Field) → ((x : A) → V x → f x ≡ g x) → IsFormat at V f → IsFormat at V g
same_fields {A} at V f g e h = record {
  takes = λ bytes x rest small r.
      let t = h.takes bytes x rest small r in
      record { valid = t.valid; fit = subst AllFit (e x t.valid) t.fit; parts = subst (λ (fs : List Field). bytes ≡ bytes_of fs ++ rest) (e x t.valid) t.parts };
  again = λ x rest v fit. ap at (ap (λ (fs : List Field). bytes_of fs ++ rest) (sym (e x v))) ∙ h.again x rest v (subst AllFit (sym (e x v)) fit);
  fails = λ bytes rule n small r.
      let b = h.fails bytes rule n small r in
      record { value = b.value; valid = b.valid; fit = subst AllFit (e b.value b.valid) b.fit; breaking = subst (λ (fs : List Field). Breaking fs bytes rule n) (e b.value b.valid) b.breaking };
  refuses = λ x bytes rule n v fit b. h.refuses x bytes rule n v (subst AllFit (sym (e x v)) fit) (subst (λ (fs : List Field). Breaking fs bytes rule n) (sym (e x v)) b);
  some = record { value = h.some.value; valid = h.some.valid; fit = subst AllFit (e h.some.value h.some.valid) h.some.fit };
}

-- ---- the same values in other words

pub same_valid : {A : Type 0} (at : Reader A) (V W : A → Type 0) (f : A → List Field) → ((x : A) → V x → W x) → ((x : A) → W x → V x) → IsFormat at V f → IsFormat at W f
same_valid {A} at V W f to back h = record {
  takes = λ bytes x rest small r.
      let t = h.takes bytes x rest small r in
      record { valid = to x t.valid; fit = t.fit; parts = t.parts };
  again = λ x rest v fit. h.again x rest (back x v) fit;
  fails = λ bytes rule n small r.
      let b = h.fails bytes rule n small r in
      record { value = b.value; valid = to b.value b.valid; fit = b.fit; breaking = b.breaking };
  refuses = λ x bytes rule n v fit b. h.refuses x bytes rule n (back x v) fit b;
  some = record { value = h.some.value; valid = to h.some.value h.some.valid; fit = h.some.fit };
}
