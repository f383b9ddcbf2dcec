-- What reading says of bytes, and what the bytes are: two sides of one thing.
use Rattle.std.proofs.Common.{◌≡◌, ◌≢◌, ◌⊎◌, ℕ, suc, ◌+◌, ◌-◌, ◌<◌, ◌≤◌, Bool, true, false, cond, ltb, eqb, List, [], ◌∷◌, ◌++◌, length, take, drop, Ok, Err, refl, sym, ap, subst, ◌∙◌, append_assoc, arith, inl, inr}
use Rattle.std.specs.Str.{bytes_eq}
use Rattle.std.proofs.lemmas.Bool.{eqb-true, ne_eqb, lt-ltb, le-ltb, cases_lt}
use Rattle.std.proofs.lemmas.List.{append-nil, nil_from_length, take_at, drop_at, take-append-drop, take-take, take_all, length-append, length-take}
use Rattle.std.proofs.lemmas.Slice.Eq.{bytes_eq-Decides}
use Rattle.sim_code.specs.Code.{CodeOf}
use Rattle.code_file.specs.declared.rule.CodeRule.{CodeRule}
use Rattle.code_file.specs.declared.rule.CodeRule.TheVariants.{NoHeader, EndsEarly, OutOfRange, NotZero, AfterEnd}
use Rattle.code_file.specs.declared.fault.Fault.{Fault}
use Rattle.code_file.specs.declared.fault.Fault.TheVariants as fault
use Rattle.code_file.specs.Fields.{Field, bytes_of}
use Rattle.code_file.specs.Spelling.{IsCode, Spells, code_fields, header, largest, spelling}
use Rattle.code_file.specs.Faults.{Breaks, ComesTo, EndsAt, EndsInside, HasOutOfRange, HasUsed}
use Rattle.code_file.specs.Reading.{Fails, Found, IsRead, after, code_at, ended, file_at, limited, refusal_of, placed, read_of, too_long, limited_rule}
use Rattle.code_file.specs.Laws.{IsBroken, IsSpelt, OneOutcome}
use Rattle.code_file.proofs.Lists.{IsBytes, front_small, rest_small}
use Rattle.code_file.proofs.Formats.{Breaking, Wrong, after_err, after_ok, given, ok_is}
use Rattle.code_file.proofs.CodeFormat.{code_format}

-- ---- the header

cases_bool : (b : Bool) → (b ≡ true) ⊎ (b ≡ false)
cases_bool true = inl refl
cases_bool false = inr refl

headed : (bytes : List ℕ) → bytes_eq (take 8 bytes) header ≡ true → bytes ≡ header ++ drop 8 bytes
headed bytes h = sym (take-append-drop 8 bytes) ∙ ap (λ (b : List ℕ). b ++ drop 8 bytes) ((bytes_eq-Decides (take 8 bytes) header).0 h)

unheaded : (bytes : List ℕ) → bytes_eq (take 8 bytes) header ≡ false → take 8 bytes ≢ header
unheaded bytes h e =
    let t : bytes_eq (take 8 bytes) header ≡ true = (bytes_eq-Decides (take 8 bytes) header).1 e in
    absurd cc

tested : (bytes rest : List ℕ) → bytes ≡ header ++ rest → bytes_eq (take 8 bytes) header ≡ true
tested bytes rest e = (bytes_eq-Decides (take 8 bytes) header).1 (ap (take 8) e ∙ take_at header rest 8 refl)

behind : (bytes rest : List ℕ) → bytes ≡ header ++ rest → drop 8 bytes ≡ rest
behind bytes rest e = ap (drop 8) e ∙ drop_at header rest 8 refl

-- reading goes on behind the header
goes_on : (bytes rest : List ℕ) → bytes ≡ header ++ rest → file_at bytes ≡ after (code_at rest) ended
unfolding file_at
goes_on bytes rest e =
    let t : bytes_eq (take 8 bytes) header ≡ true = tested bytes rest e in
    let d : drop 8 bytes ≡ rest = behind bytes rest e in
    rw (t, d) refl

stops : (bytes : List ℕ) → take 8 bytes ≢ header → file_at bytes ≡ Err (NoHeader, length bytes)
unfolding file_at
stops bytes h =
    elim (cases_bool (bytes_eq (take 8 bytes) header)) [
      | inl t ↦ absurd (h ((bytes_eq-Decides (take 8 bytes) header).0 t))
      | inr f ↦ rw f refl
    ]

-- ---- the end

abbrev past : ℕ → Found CodeOf
past k = Err (AfterEnd, k)

abbrev unnamed : ℕ → Found CodeOf
unnamed k = Err (NoHeader, k)

abbrev faulty : CodeRule → ℕ → Found CodeOf
faulty rule k = Err (rule, k)

err_pair : (f g : CodeRule × ℕ) → faulty f.0 f.1 ≡ faulty g.0 g.1 → f ≡ g
err_pair f g e = cc

never_long : (r : Found CodeOf) (c : CodeOf) → too_long r ≡ Ok c → ⊥
never_long (Ok d) c e = cc
never_long (Err f) c e = cc

pub not_both : (r : Found CodeOf) (c : CodeOf) (f : CodeRule × ℕ) → r ≡ Ok c → r ≡ Err f → ⊥
not_both r c f e g = cc

pub same_fault : (r : Found CodeOf) (f g : CodeRule × ℕ) → r ≡ Err f → r ≡ Err g → f ≡ g
same_fault r f g e h = cc

pub same_code : (r : Found CodeOf) (c d : CodeOf) → r ≡ Ok c → r ≡ Ok d → c ≡ d
same_code r c d e h = cc

some_left : (left : List ℕ) → eqb (length left) 0 ≡ false → 0 < length left
some_left [] h = absurd cc
some_left (b ∷ left) h = omega arith

end_cases : (b : Bool) (x : CodeOf × List ℕ) (c : CodeOf) → eqb (length x.1) 0 ≡ b → cond b (given x.0) (Err (AfterEnd, length x.1)) ≡ Ok c → (x.1 ≡ []) × (x.0 ≡ c)
end_cases true x c t e = (nil_from_length x.1 (eqb-true _ _ t), ok_is x.0 c e)
end_cases false x c t e = absurd cc

end_faults : (b : Bool) (x : CodeOf × List ℕ) (f : CodeRule × ℕ) → eqb (length x.1) 0 ≡ b → cond b (given x.0) (Err (AfterEnd, length x.1)) ≡ Err f → (0 < length x.1) × ((AfterEnd, length x.1) ≡ f)
end_faults true x f t e = absurd cc
end_faults false x f t e = (some_left x.1 t, cc)

ended_err : (x : CodeOf × List ℕ) (f : CodeRule × ℕ) → ended x ≡ Err f → (0 < length x.1) × ((AfterEnd, length x.1) ≡ f)
ended_err x f e = end_faults (eqb (length x.1) 0) x f refl e

left_over : (c : CodeOf) (left : List ℕ) → 0 < length left → ended (c, left) ≡ past (length left)
left_over c [] lt = absurd (omega arith)
left_over c (b ∷ left) lt =
    let t : eqb (suc (length left)) 0 ≡ false = ne_eqb _ _ (λ e. absurd (omega (arith, e))) in
    rw t refl

ended_ok : (x : CodeOf × List ℕ) (c : CodeOf) → ended x ≡ Ok c → (x.1 ≡ []) × (x.0 ≡ c)
ended_ok x c e = end_cases (eqb (length x.1) 0) x c refl e

-- ---- a code

pub file_found : (bytes : List ℕ) (c : CodeOf) → IsBytes bytes → file_at bytes ≡ Ok c → IsCode c × (bytes ≡ spelling c)
file_found bytes c small e =
    elim (cases_bool (bytes_eq (take 8 bytes) header)) [
      | inl t ↦
          let whole : bytes ≡ header ++ drop 8 bytes = headed bytes t in
          let a = after_ok (code_at (drop 8 bytes)) ended c (sym (goes_on bytes (drop 8 bytes) whole) ∙ e) in
          let n = ended_ok a.value c a.second in
          let t = code_format.takes (drop 8 bytes) a.value.0 a.value.1 (rest_small bytes header (drop 8 bytes) whole small) a.first in
          let spelt : drop 8 bytes ≡ bytes_of (code_fields a.value.0) = t.parts ∙ ap (λ (r : List ℕ). bytes_of (code_fields a.value.0) ++ r) n.0 ∙ append-nil (bytes_of (code_fields a.value.0)) in
          let code : IsCode a.value.0 = record { typed = t.valid; fits = t.fit } in
          let here : bytes ≡ spelling a.value.0 = whole ∙ ap (λ (r : List ℕ). header ++ r) spelt in
          subst (λ (d : CodeOf). IsCode d × (bytes ≡ spelling d)) n.1 (code, here)
      | inr f ↦ let s = stops bytes (unheaded bytes f) in absurd (not_both (file_at bytes) c (NoHeader, length bytes) e s)
    ]

pub file_again : (c : CodeOf) → IsCode c → file_at (spelling c) ≡ Ok c
file_again c h =
    let plain : bytes_of (code_fields c) ≡ bytes_of (code_fields c) ++ [] = sym (append-nil (bytes_of (code_fields c))) in
    let read : code_at (bytes_of (code_fields c)) ≡ Ok (c, []) = ap code_at plain ∙ code_format.again c [] h.typed h.fits in
    goes_on (spelling c) (bytes_of (code_fields c)) refl ∙ ap (λ (r : Found (CodeOf × List ℕ)). after r ended) read

-- ---- a fault

-- fields of a code, and what is wrong in the place of the next one
pub record Comes (bytes : List ℕ) (rule : CodeRule) (n : ℕ) : Type 0 where
  pub next : Field
  pub left : List ℕ
  pub to : ComesTo bytes next left
  pub wrong : Wrong next left rule n

-- a code, and bytes behind it
pub record Passes (bytes : List ℕ) (n : ℕ) : Type 0 where
  pub code : CodeOf
  pub left : List ℕ
  pub is_code : IsCode code
  pub parts : bytes ≡ spelling code ++ left
  pub counted : n ≡ length left
  pub some : 0 < n

abbrev pub FileFault : List ℕ → CodeRule → ℕ → Type 0
FileFault bytes NoHeader n = (take 8 bytes ≢ header) × (n ≡ length bytes)
FileFault bytes EndsEarly n = Comes bytes EndsEarly n
FileFault bytes OutOfRange n = Comes bytes OutOfRange n
FileFault bytes NotZero n = Comes bytes NotZero n
FileFault bytes AfterEnd n = Passes bytes n

comes_fault : (bytes : List ℕ) (rule : CodeRule) (n : ℕ) → Comes bytes rule n → FileFault bytes rule n
comes_fault bytes NoHeader n c = absurd c.wrong
comes_fault bytes EndsEarly n c = c
comes_fault bytes OutOfRange n c = c
comes_fault bytes NotZero n c = c
comes_fault bytes AfterEnd n c = absurd c.wrong

breaking_comes : (bytes rest : List ℕ) (c : CodeOf) (rule : CodeRule) (n : ℕ) → bytes ≡ header ++ rest → IsCode c → Breaking (code_fields c) rest rule n → Comes bytes rule n
breaking_comes bytes rest c rule n e h b = record {
  next = b.next;
  left = b.left;
  to = record { code = c; is_code = h; front = b.front; after = b.behind; fields = b.split; parts = e ∙ ap (λ (r : List ℕ). header ++ r) b.parts };
  wrong = b.wrong;
}

pub file_broken : (bytes : List ℕ) (rule : CodeRule) (n : ℕ) → IsBytes bytes → file_at bytes ≡ Err (rule, n) → FileFault bytes rule n
file_broken bytes rule n small e =
    elim (cases_bool (bytes_eq (take 8 bytes) header)) [
      | inl t ↦
          let whole : bytes ≡ header ++ drop 8 bytes = headed bytes t in
          let rest_bytes : IsBytes (drop 8 bytes) = rest_small bytes header (drop 8 bytes) whole small in
          elim (after_err (code_at (drop 8 bytes)) ended (rule, n) (sym (goes_on bytes (drop 8 bytes) whole) ∙ e)) [
            | inl first ↦
                let b = code_format.fails (drop 8 bytes) rule n rest_bytes first in
                comes_fault bytes rule n (breaking_comes bytes (drop 8 bytes) b.value rule n whole (record { typed = b.valid; fits = b.fit }) b.breaking)
            | inr a ↦
                let t = code_format.takes (drop 8 bytes) a.value.0 a.value.1 rest_bytes a.first in
                let x = ended_err a.value (rule, n) a.second in
                let spelt : bytes ≡ spelling a.value.0 ++ a.value.1 = whole ∙ ap (λ (r : List ℕ). header ++ r) t.parts ∙ sym (append_assoc header (bytes_of (code_fields a.value.0)) a.value.1) in
                subst (λ (f : CodeRule × ℕ). FileFault bytes f.0 f.1) x.1 (record { code = a.value.0; left = a.value.1; is_code = record { typed = t.valid; fits = t.fit }; parts = spelt; counted = refl; some = x.0 })
          ]
      | inr f ↦ subst (λ (g : CodeRule × ℕ). FileFault bytes g.0 g.1) (same_fault (file_at bytes) (NoHeader, length bytes) (rule, n) (stops bytes (unheaded bytes f)) e) (unheaded bytes f, refl)
    ]

comes_refused : (bytes : List ℕ) (rule : CodeRule) (n : ℕ) → Comes bytes rule n → file_at bytes ≡ Err (rule, n)
comes_refused bytes rule n c =
    let rest : List ℕ = bytes_of c.to.front ++ c.left in
    let b : Breaking (code_fields c.to.code) rest rule n = record { front = c.to.front; next = c.next; behind = c.to.after; left = c.left; split = c.to.fields; parts = refl; wrong = c.wrong } in
    let read : code_at rest ≡ Err (rule, n) = code_format.refuses c.to.code rest rule n c.to.is_code.typed c.to.is_code.fits b in
    goes_on bytes rest c.to.parts ∙ ap (λ (r : Found (CodeOf × List ℕ)). after r ended) read

passes_refused : (bytes : List ℕ) (n : ℕ) → Passes bytes n → file_at bytes ≡ Err (AfterEnd, n)
passes_refused bytes n p =
    let rest : List ℕ = bytes_of (code_fields p.code) ++ p.left in
    let read : code_at rest ≡ Ok (p.code, p.left) = code_format.again p.code p.left p.is_code.typed p.is_code.fits in
    let whole : bytes ≡ header ++ rest = p.parts ∙ append_assoc header (bytes_of (code_fields p.code)) p.left in
    goes_on bytes rest whole ∙ ap (λ (r : Found (CodeOf × List ℕ)). after r ended) read ∙ left_over p.code p.left (omega (arith, p.counted, p.some)) ∙ ap (λ (k : ℕ). past k) (sym p.counted)

pub file_refused : (bytes : List ℕ) (rule : CodeRule) (n : ℕ) → FileFault bytes rule n → file_at bytes ≡ Err (rule, n)
file_refused bytes NoHeader n f = stops bytes f.0 ∙ ap (λ (k : ℕ). unnamed k) (sym f.1)
file_refused bytes EndsEarly n f = comes_refused bytes EndsEarly n f
file_refused bytes OutOfRange n f = comes_refused bytes OutOfRange n f
file_refused bytes NotZero n f = comes_refused bytes NotZero n f
file_refused bytes AfterEnd n f = passes_refused bytes n f

-- how many bytes are left where something is wrong
left_of : (bytes : List ℕ) (next : Field) (left : List ℕ) → ComesTo bytes next left → length left ≤ length bytes
left_of bytes next left to = omega (arith, ap length to.parts, length-append header (bytes_of to.front ++ left), length-append (bytes_of to.front) left)

pub left_within : (bytes : List ℕ) (rule : CodeRule) (n : ℕ) → FileFault bytes rule n → n ≤ length bytes
left_within bytes NoHeader n f = omega (arith, f.1)
left_within bytes EndsEarly n f = omega (arith, f.wrong.1)
left_within bytes OutOfRange n f = omega (arith, f.wrong.1, left_of bytes f.next f.left f.to)
left_within bytes NotZero n f = omega (arith, f.wrong.1, left_of bytes f.next f.left f.to)
left_within bytes AfterEnd n f = omega (arith, f.counted, ap length f.parts, length-append (spelling f.code) f.left)

-- ---- bytes within the limit, and too many

abbrev Within : List ℕ → Type 0
Within bytes = length bytes ≤ largest

read_within : (bytes : List ℕ) → Within bytes → read_of bytes ≡ placed (length bytes) (file_at bytes)
unfolding read_of
read_within bytes h = let t : ltb largest (length bytes) ≡ false = le-ltb _ _ h in rw t refl

read_past : (bytes : List ℕ) → largest < length bytes → read_of bytes ≡ too_long (file_at (take largest bytes))
unfolding read_of
read_past bytes h = let t : ltb largest (length bytes) ≡ true = lt-ltb _ _ h in rw t refl

pub seen_length : (bytes : List ℕ) → largest < length bytes → length (take largest bytes) ≡ largest
seen_length bytes h = omega (arith, length-take largest bytes)

pub seen_small : (bytes : List ℕ) → IsBytes bytes → IsBytes (take largest bytes)
seen_small bytes small = front_small bytes (take largest bytes) (drop largest bytes) (sym (take-append-drop largest bytes)) small

placed_ok : (count : ℕ) (r : Found CodeOf) (c : CodeOf) → placed count r ≡ Ok c → r ≡ Ok c
placed_ok count (Ok d) c e = e
placed_ok count (Err f) c e = absurd cc

record PlacedErr (count : ℕ) (r : Found CodeOf) (rule : CodeRule) (place : ℕ) : Type 0 where
  left : ℕ
  was : r ≡ Err (rule, left)
  place_is : place ≡ count - left

placed_err : (count : ℕ) (r : Found CodeOf) (rule : CodeRule) (place : ℕ) → placed count r ≡ Err (rule, place) → PlacedErr count r rule place
placed_err count (Ok d) rule place e = absurd cc
placed_err count (Err f) rule place e =
    let both : (f.0, count - f.1) ≡ (rule, place) = err_pair (f.0, count - f.1) (rule, place) e in
    let rules : f.0 ≡ rule = ap (λ (p : CodeRule × ℕ). p.0) both in
    let places : count - f.1 ≡ place = ap (λ (p : CodeRule × ℕ). p.1) both in
    record { left = f.1; was = ap (λ (r : CodeRule). faulty r f.1) rules; place_is = sym places }

pub read_found : (bytes : List ℕ) (c : CodeOf) → IsBytes bytes → read_of bytes ≡ Ok c → Spells bytes c
read_found bytes c small e =
    elim (cases_lt largest (length bytes)) [
      | inl h ↦ absurd (never_long (file_at (take largest bytes)) c (sym (read_past bytes h) ∙ e))
      | inr h ↦
          let f = file_found bytes c small (placed_ok (length bytes) (file_at bytes) c (sym (read_within bytes h) ∙ e)) in
          record { is_code = f.0; spelt = f.1; within = h }
    ]

pub read_again : (bytes : List ℕ) (c : CodeOf) → Spells bytes c → read_of bytes ≡ Ok c
read_again bytes c s =
    let read : file_at bytes ≡ Ok c = ap file_at s.spelt ∙ file_again c s.is_code in
    read_within bytes s.within ∙ ap (placed (length bytes)) read

-- ---- from faults to broken rules

within_breaks : (bytes : List ℕ) (rule : CodeRule) (left place : ℕ) → Within bytes → FileFault bytes rule left → place ≡ length bytes - left → Breaks bytes rule place
within_breaks bytes NoHeader left place h f p = (omega (arith, p, f.1), f.0)
within_breaks bytes EndsEarly left place h f p = (h, (f.next, f.left, f.to, f.wrong.0, omega (arith, p, f.wrong.1)))
within_breaks bytes OutOfRange left place h f p = subst (λ (b : List ℕ). HasOutOfRange b place) (sym (take_all largest bytes h)) (f.next, f.left, f.to, f.wrong.0, p ∙ ap (λ (k : ℕ). length bytes - k) f.wrong.1)
within_breaks bytes NotZero left place h f p = subst (λ (b : List ℕ). HasUsed b place) (sym (take_all largest bytes h)) (f.next, f.left, f.to, f.wrong.0, p ∙ ap (λ (k : ℕ). length bytes - k) f.wrong.1)
within_breaks bytes AfterEnd left place h f p =
    let before : place < length bytes = omega (arith, p, f.some, f.counted, ap length f.parts, length-append (spelling f.code) f.left) in
    let at : place ≡ length (spelling f.code) = omega (arith, p, f.counted, ap length f.parts, length-append (spelling f.code) f.left) in
    (before, inl (subst (λ (b : List ℕ). EndsAt b place) (sym (take_all largest bytes h)) (f.code, f.left, f.is_code, f.parts, at)))

along : (bytes : List ℕ) (f : CodeRule × ℕ) (rule : CodeRule) (place : ℕ) → faulty f.0 f.1 ≡ faulty rule place → Breaks bytes f.0 f.1 → Breaks bytes rule place
along bytes f rule place e b = subst (λ (g : CodeRule × ℕ). Breaks bytes g.0 g.1) (err_pair f (rule, place) e) b

long_breaks : (bytes : List ℕ) (fault : CodeRule) (left : ℕ) (rule : CodeRule) (place : ℕ) → largest < length bytes → FileFault (take largest bytes) fault left → faulty (limited_rule fault) (largest - left) ≡ faulty rule place → Breaks bytes rule place
long_breaks bytes NoHeader left rule place h f e =
    let zero_place : largest - left ≡ 0 = omega (arith, f.1, seen_length bytes h) in
    along bytes (NoHeader, largest - left) rule place e (zero_place, λ same. f.0 (take-take 8 largest bytes (omega arith) ∙ same))
long_breaks bytes EndsEarly left rule place h f e =
    let whole : largest - left ≡ length (take largest bytes) = omega (arith, f.wrong.1, seen_length bytes h) in
    along bytes (AfterEnd, largest - left) rule place e (omega (arith, h), inr (f.next, f.left, f.to, f.wrong.0, whole))
long_breaks bytes OutOfRange left rule place h f e =
    let at : largest - left ≡ length (take largest bytes) - length f.left = omega (arith, f.wrong.1, seen_length bytes h) in
    along bytes (OutOfRange, largest - left) rule place e (f.next, f.left, f.to, f.wrong.0, at)
long_breaks bytes NotZero left rule place h f e =
    let at : largest - left ≡ length (take largest bytes) - length f.left = omega (arith, f.wrong.1, seen_length bytes h) in
    along bytes (NotZero, largest - left) rule place e (f.next, f.left, f.to, f.wrong.0, at)
long_breaks bytes AfterEnd left rule place h f e =
    let before : largest - left < length bytes = omega arith in
    let at : largest - left ≡ length (spelling f.code) = omega (arith, f.counted, seen_length bytes h, ap length f.parts, length-append (spelling f.code) f.left) in
    along bytes (AfterEnd, largest - left) rule place e (before, inl (f.code, f.left, f.is_code, f.parts, at))

long_cases : (bytes : List ℕ) (r : Found CodeOf) (rule : CodeRule) (place : ℕ) → IsBytes bytes → largest < length bytes → file_at (take largest bytes) ≡ r → too_long r ≡ Err (rule, place) → Breaks bytes rule place
long_cases bytes (Ok c) rule place small h was e =
    let f = file_found (take largest bytes) c (seen_small bytes small) was in
    let at : largest ≡ length (spelling c) = omega (arith, seen_length bytes h, ap length f.1) in
    along bytes (AfterEnd, largest) rule place e (h, inl (c, [], f.0, f.1 ∙ sym (append-nil (spelling c)), at))
long_cases bytes (Err f) rule place small h was e =
    long_breaks bytes f.0 f.1 rule place h (file_broken (take largest bytes) f.0 f.1 (seen_small bytes small) was) e

pub read_broken : (bytes : List ℕ) (rule : CodeRule) (place : ℕ) → IsBytes bytes → read_of bytes ≡ Err (rule, place) → Breaks bytes rule place
read_broken bytes rule place small e =
    elim (cases_lt largest (length bytes)) [
      | inl h ↦ long_cases bytes (file_at (take largest bytes)) rule place small h refl (sym (read_past bytes h) ∙ e)
      | inr h ↦
          let p = placed_err (length bytes) (file_at bytes) rule place (sym (read_within bytes h) ∙ e) in
          within_breaks bytes rule p.left place h (file_broken bytes rule p.left small p.was) p.place_is
    ]

-- ---- from broken rules to faults

refused_within : (bytes : List ℕ) (rule : CodeRule) (n place : ℕ) → Within bytes → FileFault bytes rule n → place ≡ length bytes - n → read_of bytes ≡ Err (rule, place)
refused_within bytes rule n place h f p =
    read_within bytes h ∙ ap (placed (length bytes)) (file_refused bytes rule n f) ∙ ap (λ (k : ℕ). faulty rule k) (sym p)

within_refused : (bytes : List ℕ) (rule : CodeRule) (place : ℕ) → Within bytes → Breaks bytes rule place → read_of bytes ≡ Err (rule, place)
within_refused bytes NoHeader place h b = refused_within bytes NoHeader (length bytes) place h (b.1, refl) (omega (arith, b.0))
within_refused bytes EndsEarly place h b =
    refused_within bytes EndsEarly 0 place h (record { next = b.1.0; left = b.1.1; to = b.1.2; wrong = (b.1.3, refl) }) (omega (arith, b.1.4))
within_refused bytes OutOfRange place h b =
    let x : HasOutOfRange bytes place = subst (λ (s : List ℕ). HasOutOfRange s place) (take_all largest bytes h) b in
    refused_within bytes OutOfRange (length x.1) place h (record { next = x.0; left = x.1; to = x.2; wrong = (x.3, refl) }) x.4
within_refused bytes NotZero place h b =
    let x : HasUsed bytes place = subst (λ (s : List ℕ). HasUsed s place) (take_all largest bytes h) b in
    refused_within bytes NotZero (length x.1) place h (record { next = x.0; left = x.1; to = x.2; wrong = (x.3, refl) }) x.4
within_refused bytes AfterEnd place h b =
    elim b.1 [
      | inl at ↦
          let x : EndsAt bytes place = subst (λ (s : List ℕ). EndsAt s place) (take_all largest bytes h) at in
          let total : length bytes ≡ length (spelling x.0) + length x.1 = ap length x.3 ∙ length-append (spelling x.0) x.1 in
          let some : 0 < length x.1 = omega (arith, b.0, x.4, total) in
          refused_within bytes AfterEnd (length x.1) place h (record { code = x.0; left = x.1; is_code = x.2; parts = x.3; counted = refl; some = some }) (omega (arith, x.4, total))
      | inr inside ↦
          let x : EndsInside bytes place = subst (λ (s : List ℕ). EndsInside s place) (take_all largest bytes h) inside in
          absurd (omega (arith, b.0, x.4))
    ]

refused_long : (bytes : List ℕ) (fault : CodeRule) (n : ℕ) (rule : CodeRule) (place : ℕ) → largest < length bytes → FileFault (take largest bytes) fault n → faulty (limited_rule fault) (largest - n) ≡ faulty rule place → read_of bytes ≡ Err (rule, place)
refused_long bytes fault n rule place h f e = read_past bytes h ∙ ap too_long (file_refused (take largest bytes) fault n f) ∙ e

ends_long : (bytes : List ℕ) (place : ℕ) (code : CodeOf) (left : List ℕ) → largest < length bytes → IsCode code → take largest bytes ≡ spelling code ++ left → place ≡ length (spelling code) → read_of bytes ≡ Err (AfterEnd, place)
ends_long bytes place code [] h is parts p =
    let read : file_at (take largest bytes) ≡ Ok code = ap file_at (parts ∙ append-nil (spelling code)) ∙ file_again code is in
    let at : largest ≡ place = omega (arith, seen_length bytes h, ap length (parts ∙ append-nil (spelling code)), p) in
    read_past bytes h ∙ ap too_long read ∙ ap past at
ends_long bytes place code (b ∷ left) h is parts p =
    let total : length (take largest bytes) ≡ length (spelling code) + suc (length left) = ap length parts ∙ length-append (spelling code) (b ∷ left) in
    let at : largest - suc (length left) ≡ place = omega (arith, total, seen_length bytes h, p) in
    refused_long bytes AfterEnd (suc (length left)) AfterEnd place h (record { code = code; left = b ∷ left; is_code = is; parts = parts; counted = refl; some = omega arith }) (ap past at)

long_refused : (bytes : List ℕ) (rule : CodeRule) (place : ℕ) → largest < length bytes → Breaks bytes rule place → read_of bytes ≡ Err (rule, place)
long_refused bytes NoHeader place h b =
    let at : largest - length (take largest bytes) ≡ place = omega (arith, seen_length bytes h, b.0) in
    refused_long bytes NoHeader (length (take largest bytes)) NoHeader place h ((λ same. b.1 (sym (take-take 8 largest bytes (omega arith)) ∙ same)), refl) (ap unnamed at)
long_refused bytes EndsEarly place h b = absurd (omega (arith, b.0))
long_refused bytes OutOfRange place h b =
    let at : largest - length b.1 ≡ place = omega (arith, seen_length bytes h, b.4) in
    refused_long bytes OutOfRange (length b.1) OutOfRange place h (record { next = b.0; left = b.1; to = b.2; wrong = (b.3, refl) }) (ap (faulty OutOfRange) at)
long_refused bytes NotZero place h b =
    let at : largest - length b.1 ≡ place = omega (arith, seen_length bytes h, b.4) in
    refused_long bytes NotZero (length b.1) NotZero place h (record { next = b.0; left = b.1; to = b.2; wrong = (b.3, refl) }) (ap (faulty NotZero) at)
long_refused bytes AfterEnd place h b =
    elim b.1 [
      | inl x ↦ ends_long bytes place x.0 x.1 h x.2 x.3 x.4
      | inr x ↦ refused_long bytes EndsEarly 0 AfterEnd place h (record { next = x.0; left = x.1; to = x.2; wrong = (x.3, refl) }) (ap past (omega (arith, seen_length bytes h, x.4)))
    ]

pub read_refused : (bytes : List ℕ) (rule : CodeRule) (place : ℕ) → Breaks bytes rule place → read_of bytes ≡ Err (rule, place)
read_refused bytes rule place b =
    elim (cases_lt largest (length bytes)) [
      | inl h ↦ long_refused bytes rule place h b
      | inr h ↦ within_refused bytes rule place h b
    ]

-- ---- one outcome

outcome : (bytes : List ℕ) (r : Found CodeOf) → IsBytes bytes → read_of bytes ≡ r → IsSpelt bytes ⊎ IsBroken bytes
outcome bytes (Ok c) small e = inl (record {
  code = c;
  spells = read_found bytes c small e;
  only = λ other s. same_code (read_of bytes) other c (read_again bytes other s) e;
  unbroken = λ rule place b. not_both (read_of bytes) c (rule, place) e (read_refused bytes rule place b);
})
outcome bytes (Err f) small e = inr (record {
  rule = f.0;
  place = f.1;
  breaks = read_broken bytes f.0 f.1 small e;
  only_rule = λ other at b. ap (λ (p : CodeRule × ℕ). p.0) (same_fault (read_of bytes) (other, at) f (read_refused bytes other at b) e);
  only_place = λ other at b. ap (λ (p : CodeRule × ℕ). p.1) (same_fault (read_of bytes) (other, at) f (read_refused bytes other at b) e);
  no_code = λ code s. not_both (read_of bytes) code f (read_again bytes code s) e;
})

pub one_outcome : (bytes : List ℕ) → OneOutcome bytes
one_outcome bytes small = outcome bytes (read_of bytes) small refl

-- ---- what a function answers

pub within_ok : (bytes : List ℕ) (c : CodeOf) → length bytes ≤ largest → file_at bytes ≡ Ok c → read_of bytes ≡ Ok c
within_ok bytes c h e = read_within bytes h ∙ ap (placed (length bytes)) e

pub within_err : (bytes : List ℕ) (f : Fault) → length bytes ≤ largest → Fails f (file_at bytes) → IsRead (refusal_of f (length bytes)) (read_of bytes)
within_err bytes fault.Memory h e = tt
within_err bytes (fault.Broken rule left) h e = read_within bytes h ∙ ap (placed (length bytes)) e

pub past_ok : (bytes : List ℕ) (c : CodeOf) → largest < length bytes → file_at (take largest bytes) ≡ Ok c → read_of bytes ≡ Err (AfterEnd, largest)
past_ok bytes c h e = read_past bytes h ∙ ap too_long e

pub past_err : (bytes : List ℕ) (f : Fault) → largest < length bytes → Fails f (file_at (take largest bytes)) → IsRead (refusal_of (limited f) largest) (read_of bytes)
past_err bytes fault.Memory h e = tt
past_err bytes (fault.Broken rule left) h e = read_past bytes h ∙ ap too_long e
