-- The formats of the fields, one by one.
use Rattle.std.proofs.Common.{◌≡◌, ℕ, zero, suc, ◌^◌, ◌<◌, ◌≤◌, Bool, true, false, cond, ltb, List, [], ◌∷◌, ◌++◌, length, get_or, take, drop, Ok, Err, refl, sym, ap, subst, ◌∙◌, arith, inl, inr}
use Rattle.std.specs.Int.{w32, to_le_bytes, from_le_bytes}
use Rattle.std.proofs.lemmas.Bool.{ltb-false, ltb-true, le-ltb, lt-ltb}
use Rattle.std.proofs.lemmas.List.{append-nil, take_at, drop_at, take-append-drop, length-append, length-take, get_or-take}
use Rattle.std.proofs.lemmas.Nat.{le_bytes_4, from_le_bytes-to_le_bytes_4}
use Rattle.code_file.specs.declared.rule.CodeRule.{CodeRule}
use Rattle.code_file.specs.declared.rule.CodeRule.TheVariants.{NoHeader, EndsEarly, OutOfRange, NotZero, AfterEnd}
use Rattle.code_file.specs.Fields.{Field, Number, Listed, Opcode, Characters, bytes_of, Fits}
use Rattle.code_file.specs.Table.{instructions, last_instruction}
use Rattle.code_file.specs.Reading.{Found, Reader, number_at, refused_by, listed_at, opcode_at, characters_at}
use Rattle.code_file.proofs.Lists.{IsBytes, small_at, front_small, no_cut}
use Rattle.code_file.proofs.Formats.{Wrong, Breaking, Taken, IsFormat, after_ok, after_err}

-- ---- what is wrong with one field

one_wrong : (f : Field) (front : List Field) (next : Field) (behind : List Field) (left : List ℕ) (bytes : List ℕ) (rule : CodeRule) (n : ℕ)
    → f ∷ [] ≡ front ++ next ∷ behind → bytes ≡ bytes_of front ++ left → Wrong next left rule n → Wrong f bytes rule n
one_wrong f [] next behind left bytes rule n split parts wrong =
    let same : next ≡ f = cc in
    let all : left ≡ bytes = sym parts in
    subst (λ (g : Field). Wrong g bytes rule n) same (subst (λ (bs : List ℕ). Wrong next bs rule n) all wrong)
one_wrong f (g ∷ front) next behind left bytes rule n split parts wrong =
    let nothing : [] ≡ front ++ next ∷ behind = cc in
    absurd (no_cut front next behind nothing)

pub wrong_of : (f : Field) (bytes : List ℕ) (rule : CodeRule) (n : ℕ) → Breaking (f ∷ []) bytes rule n → Wrong f bytes rule n
wrong_of f bytes rule n b = one_wrong f b.front b.next b.behind b.left bytes rule n b.split b.parts b.wrong

pub breaking_of : (f : Field) (bytes : List ℕ) (rule : CodeRule) (n : ℕ) → Wrong f bytes rule n → Breaking (f ∷ []) bytes rule n
breaking_of f bytes rule n w = record { front = []; next = f; behind = []; left = bytes; split = refl; parts = refl; wrong = w }

-- where reading fails only as a field is wrong, whatever the field
pub record FieldReads {A : Type 0} (at : Reader A) (V : A → Type 0) (field : A → Field) : Type 0 where
  pub takes : (bytes : List ℕ) (x : A) (rest : List ℕ) → IsBytes bytes → at bytes ≡ Ok (x, rest) → Taken V (λ y. field y ∷ []) bytes x rest
  pub again : (x : A) (rest : List ℕ) → V x → Fits (field x) → at (bytes_of (field x ∷ []) ++ rest) ≡ Ok (x, rest)
  pub value : A
  pub valid : V value
  pub fit : Fits (field value)
  pub fails : (bytes : List ℕ) (rule : CodeRule) (n : ℕ) → IsBytes bytes → at bytes ≡ Err (rule, n) → Wrong (field value) bytes rule n
  pub refuses : (x : A) (bytes : List ℕ) (rule : CodeRule) (n : ℕ) → V x → Wrong (field x) bytes rule n → at bytes ≡ Err (rule, n)

pub field_format : {A : Type 0} (at : Reader A) (V : A → Type 0) (field : A → Field) → FieldReads at V field → IsFormat at V (λ y. field y ∷ [])
field_format at V field h = record {
  takes = h.takes;
  again = λ x rest v fit. h.again x rest v fit.0;
  fails = λ bytes rule n small e. record { value = h.value; valid = h.valid; fit = (h.fit, tt); breaking = breaking_of (field h.value) bytes rule n (h.fails bytes rule n small e) };
  refuses = λ x bytes rule n v fit b. h.refuses x bytes rule n v (wrong_of (field x) bytes rule n b);
  some = record { value = h.value; valid = h.valid; fit = (h.fit, tt) };
}

-- ---- tests

abbrev pub failed : {A : Type 0} → CodeRule → ℕ → Found A
failed rule n = Err (rule, n)

-- a test that is passed, or not
pub chosen_ok : {A : Type 0} (b : Bool) (d : CodeRule × ℕ) (x y : A) → cond b (Err d) (Ok x) ≡ Ok y → (b ≡ false) × (x ≡ y)
chosen_ok true d x y e = absurd cc
chosen_ok false d x y e = (refl, cc)

pub chosen_err : {A : Type 0} (b : Bool) (d f : CodeRule × ℕ) (x : A) → cond b (Err d) (Ok x) ≡ Err f → (b ≡ true) × (d ≡ f)
chosen_err true d f x e = (refl, cc)
chosen_err false d f x e = absurd cc

pub refused_ok : {A : Type 0} (b : Bool) (rule : CodeRule) (left : ℕ) (x y : A) → refused_by b rule left x ≡ Ok y → (b ≡ false) × (x ≡ y)
refused_ok true rule left x y e = absurd cc
refused_ok false rule left x y e = (refl, cc)

pub refused_err : {A : Type 0} (b : Bool) (rule : CodeRule) (left : ℕ) (x : A) (f : CodeRule × ℕ) → refused_by b rule left x ≡ Err f → (b ≡ true) × ((rule, left) ≡ f)
refused_err true rule left x f e = (refl, cc)
refused_err false rule left x f e = absurd cc

abbrev failing : (A : Type 0) → CodeRule × ℕ → Found A
failing A f = Err f

err_is : (A : Type 0) (d f : CodeRule × ℕ) → failing A d ≡ failing A f → d ≡ f
err_is A d f e = cc

-- ---- numbers

-- only the first bytes count
pub four_taken : (bytes : List ℕ) → from_le_bytes w32 (take 4 bytes) ≡ from_le_bytes w32 bytes
four_taken bytes = rw (get_or-take 4 bytes 0 0 (omega arith), get_or-take 4 bytes 1 0 (omega arith), get_or-take 4 bytes 2 0 (omega arith), get_or-take 4 bytes 3 0 (omega arith)) refl

-- four bytes in front
pub four_there : (bytes : List ℕ) → IsBytes bytes → 4 ≤ length bytes → to_le_bytes w32 (from_le_bytes w32 (take 4 bytes)) ≡ take 4 bytes
four_there bytes small long = le_bytes_4 (take 4 bytes) _ (omega (arith, length-take 4 bytes)) (small_at (take 4 bytes) (front_small bytes (take 4 bytes) (drop 4 bytes) (sym (take-append-drop 4 bytes)) small)) refl

pub four_below : (bytes : List ℕ) → IsBytes bytes → from_le_bytes w32 bytes < 2 ^ 32
four_below bytes small = omega (arith, small_at bytes small 0, small_at bytes small 1, small_at bytes small 2, small_at bytes small 3)

number_takes : (bytes : List ℕ) (x : ℕ) (rest : List ℕ) → IsBytes bytes → number_at bytes ≡ Ok (x, rest) → Taken (λ _. Unit {0}) (λ n. Number n ∷ []) bytes x rest
number_takes bytes x rest small e =
    let g = chosen_ok (ltb (length bytes) 4) (EndsEarly, 0) (from_le_bytes w32 (take 4 bytes), drop 4 bytes) (x, rest) e in
    let long : 4 ≤ length bytes = ltb-false _ _ g.0 in
    let x_is : from_le_bytes w32 (take 4 bytes) ≡ x = ap (λ (p : ℕ × List ℕ). p.0) g.1 in
    let rest_is : drop 4 bytes ≡ rest = ap (λ (p : ℕ × List ℕ). p.1) g.1 in
    let front : to_le_bytes w32 x ≡ take 4 bytes = ap (to_le_bytes w32) (sym x_is) ∙ four_there bytes small long in
    let below : from_le_bytes w32 (take 4 bytes) < 2 ^ 32 = four_below (take 4 bytes) (front_small bytes (take 4 bytes) (drop 4 bytes) (sym (take-append-drop 4 bytes)) small) in
    let spelt : bytes ≡ to_le_bytes w32 x ++ rest = sym (take-append-drop 4 bytes) ∙ ap (λ (b : List ℕ). b ++ drop 4 bytes) (sym front) ∙ ap (λ (r : List ℕ). to_le_bytes w32 x ++ r) rest_is in
    record { valid = tt; fit = (subst (λ (n : ℕ). n < 2 ^ 32) x_is below, tt); parts = spelt }

read_four : (front rest : List ℕ) → length front ≡ 4 → number_at (front ++ rest) ≡ Ok (from_le_bytes w32 front, rest)
read_four front rest len =
    let long : ltb (length (front ++ rest)) 4 ≡ false = le-ltb _ _ (omega (arith, length-append front rest)) in
    rw (long, take_at front rest 4 len, drop_at front rest 4 len) refl

abbrev read_as : ℕ → List ℕ → Found (ℕ × List ℕ)
read_as n rest = Ok (n, rest)

number_again : (n : ℕ) (rest : List ℕ) → n < 2 ^ 32 → number_at (to_le_bytes w32 n ++ rest) ≡ Ok (n, rest)
number_again n rest lt = read_four (to_le_bytes w32 n) rest refl ∙ ap (λ (k : ℕ). read_as k rest) (from_le_bytes-to_le_bytes_4 n lt)

number_fails : (bytes : List ℕ) (rule : CodeRule) (n : ℕ) (x : ℕ) → number_at bytes ≡ Err (rule, n) → Wrong (Number x) bytes rule n
number_fails bytes rule n x e =
    let g = chosen_err (ltb (length bytes) 4) (EndsEarly, 0) (rule, n) (from_le_bytes w32 (take 4 bytes), drop 4 bytes) e in
    subst (λ (f : CodeRule × ℕ). Wrong (Number x) bytes f.0 f.1) g.1 (ltb-true _ _ g.0, refl)

short_fails : (bytes : List ℕ) → length bytes < 4 → number_at bytes ≡ Err (EndsEarly, 0)
short_fails bytes lt = let t : ltb (length bytes) 4 ≡ true = lt-ltb _ _ lt in rw t refl

number_refuses : (bytes : List ℕ) (rule : CodeRule) (n : ℕ) (x : ℕ) → Wrong (Number x) bytes rule n → number_at bytes ≡ Err (rule, n)
number_refuses bytes NoHeader n x w = absurd w
number_refuses bytes EndsEarly n x w = short_fails bytes w.0 ∙ ap (λ (k : ℕ). failed EndsEarly k) (sym w.1)
number_refuses bytes OutOfRange n x w = absurd w.0
number_refuses bytes NotZero n x w = absurd w.0
number_refuses bytes AfterEnd n x w = absurd w

pub number_format : IsFormat number_at (λ _. Unit {0}) (λ n. Number n ∷ [])
number_format = field_format number_at (λ _. Unit {0}) (λ n. Number n) (record {
  takes = number_takes;
  again = λ x rest v fit. number_again x rest fit;
  value = 0;
  valid = tt;
  fit = omega arith;
  fails = λ bytes rule n small e. number_fails bytes rule n 0 e;
  refuses = λ x bytes rule n v w. number_refuses bytes rule n x w;
})

-- ---- numbers of a list

listed_takes : (last : ℕ) (bytes : List ℕ) (x : ℕ) (rest : List ℕ) → IsBytes bytes → listed_at last bytes ≡ Ok (x, rest) → Taken (λ n. n ≤ last) (λ n. Listed last n ∷ []) bytes x rest
unfolding listed_at
listed_takes last bytes x rest small e =
    let a = after_ok (number_at bytes) (λ y. refused_by (ltb last y.0) OutOfRange (length bytes) y) (x, rest) e in
    let g = refused_ok (ltb last a.value.0) OutOfRange (length bytes) a.value (x, rest) a.second in
    let t = number_takes bytes a.value.0 a.value.1 small a.first in
    let x_is : a.value.0 ≡ x = ap (λ (p : ℕ × List ℕ). p.0) g.1 in
    let rest_is : a.value.1 ≡ rest = ap (λ (p : ℕ × List ℕ). p.1) g.1 in
    let within : x ≤ last = subst (λ (n : ℕ). n ≤ last) x_is (ltb-false _ _ g.0) in
    let spelt : bytes ≡ to_le_bytes w32 x ++ rest = t.parts ∙ ap (λ (n : ℕ). to_le_bytes w32 n ++ a.value.1) x_is ∙ ap (λ (r : List ℕ). to_le_bytes w32 x ++ r) rest_is in
    record { valid = within; fit = (within, tt); parts = spelt }

listed_again : (last n : ℕ) (rest : List ℕ) → last < 2 ^ 32 → n ≤ last → listed_at last (to_le_bytes w32 n ++ rest) ≡ Ok (n, rest)
unfolding listed_at
listed_again last n rest lt within =
    let passes : ltb last n ≡ false = le-ltb _ _ within in
    rw (number_again n rest (omega arith), passes) refl

listed_fails : (last : ℕ) (bytes : List ℕ) (rule : CodeRule) (n : ℕ) → last < 2 ^ 32 → listed_at last bytes ≡ Err (rule, n) → Wrong (Listed last 0) bytes rule n
unfolding listed_at
listed_fails last bytes rule n lt e =
    elim (after_err (number_at bytes) (λ y. refused_by (ltb last y.0) OutOfRange (length bytes) y) (rule, n) e) [
      | inl first ↦
          let g = chosen_err (ltb (length bytes) 4) (EndsEarly, 0) (rule, n) (from_le_bytes w32 (take 4 bytes), drop 4 bytes) first in
          subst (λ (f : CodeRule × ℕ). Wrong (Listed last 0) bytes f.0 f.1) g.1 (ltb-true _ _ g.0, refl)
      | inr a ↦
          let g = refused_err (ltb last a.value.0) OutOfRange (length bytes) a.value (rule, n) a.second in
          let c = chosen_ok (ltb (length bytes) 4) (EndsEarly, 0) (from_le_bytes w32 (take 4 bytes), drop 4 bytes) a.value a.first in
          let long : 4 ≤ length bytes = ltb-false _ _ c.0 in
          let number_is : from_le_bytes w32 (take 4 bytes) ≡ a.value.0 = ap (λ (p : ℕ × List ℕ). p.0) c.1 in
          let past : last < from_le_bytes w32 bytes = subst (λ (k : ℕ). last < k) (sym number_is ∙ four_taken bytes) (ltb-true _ _ g.0) in
          subst (λ (f : CodeRule × ℕ). Wrong (Listed last 0) bytes f.0 f.1) g.1 ((long, past), refl)
    ]

listed_past : (last : ℕ) (bytes : List ℕ) → 4 ≤ length bytes → last < from_le_bytes w32 bytes → listed_at last bytes ≡ Err (OutOfRange, length bytes)
unfolding listed_at
listed_past last bytes long past =
    let there : ltb (length bytes) 4 ≡ false = le-ltb _ _ long in
    let refused : ltb last (from_le_bytes w32 (take 4 bytes)) ≡ true = lt-ltb _ _ (subst (λ (k : ℕ). last < k) (sym (four_taken bytes)) past) in
    rw (there, refused) refl

listed_short : (last : ℕ) (bytes : List ℕ) → length bytes < 4 → listed_at last bytes ≡ Err (EndsEarly, 0)
unfolding listed_at
listed_short last bytes lt = rw (short_fails bytes lt) refl

listed_refuses : (last : ℕ) (bytes : List ℕ) (rule : CodeRule) (n x : ℕ) → Wrong (Listed last x) bytes rule n → listed_at last bytes ≡ Err (rule, n)
listed_refuses last bytes NoHeader n x w = absurd w
listed_refuses last bytes EndsEarly n x w = listed_short last bytes w.0 ∙ ap (λ (k : ℕ). failed EndsEarly k) (sym w.1)
listed_refuses last bytes OutOfRange n x w = listed_past last bytes w.0.0 w.0.1 ∙ ap (λ (k : ℕ). failed OutOfRange k) (sym w.1)
listed_refuses last bytes NotZero n x w = absurd w.0
listed_refuses last bytes AfterEnd n x w = absurd w

pub listed_format : (last : ℕ) → last < 2 ^ 32 → IsFormat (listed_at last) (λ n. n ≤ last) (λ n. Listed last n ∷ [])
listed_format last lt = field_format (listed_at last) (λ n. n ≤ last) (λ n. Listed last n) (record {
  takes = listed_takes last;
  again = λ x rest v fit. listed_again last x rest lt v;
  value = 0;
  valid = omega arith;
  fit = omega arith;
  fails = λ bytes rule n small e. listed_fails last bytes rule n lt e;
  refuses = λ x bytes rule n v w. listed_refuses last bytes rule n x w;
})

-- ---- numbers of instructions

opcode_takes : (bytes : List ℕ) (x : ℕ) (rest : List ℕ) → IsBytes bytes → opcode_at bytes ≡ Ok (x, rest) → Taken (λ n. n < instructions) (λ n. Opcode n ∷ []) bytes x rest
unfolding opcode_at
opcode_takes [] x rest small e = absurd cc
opcode_takes (b ∷ bytes) x rest small e =
    let g = refused_ok (ltb last_instruction b) OutOfRange (suc (length bytes)) (b, bytes) (x, rest) e in
    let x_is : b ≡ x = ap (λ (p : ℕ × List ℕ). p.0) g.1 in
    let rest_is : bytes ≡ rest = ap (λ (p : ℕ × List ℕ). p.1) g.1 in
    let below : x < instructions = subst (λ (n : ℕ). n < instructions) x_is (omega (arith, ltb-false _ _ g.0)) in
    record { valid = below; fit = (below, tt); parts = ap (λ (n : ℕ). n ∷ bytes) x_is ∙ ap (λ (r : List ℕ). x ∷ r) rest_is }

opcode_again : (n : ℕ) (rest : List ℕ) → n < instructions → opcode_at (n ∷ rest) ≡ Ok (n, rest)
unfolding opcode_at
opcode_again n rest lt = let passes : ltb last_instruction n ≡ false = le-ltb _ _ (omega arith) in rw passes refl

opcode_fails : (bytes : List ℕ) (rule : CodeRule) (n : ℕ) → opcode_at bytes ≡ Err (rule, n) → Wrong (Opcode 0) bytes rule n
unfolding opcode_at
opcode_fails [] rule n e = subst (λ (f : CodeRule × ℕ). Wrong (Opcode 0) [] f.0 f.1) (err_is (ℕ × List ℕ) (EndsEarly, 0) (rule, n) e) (omega arith, refl)
opcode_fails (b ∷ bytes) rule n e =
    let g = refused_err (ltb last_instruction b) OutOfRange (suc (length bytes)) (b, bytes) (rule, n) e in
    subst (λ (f : CodeRule × ℕ). Wrong (Opcode 0) (b ∷ bytes) f.0 f.1) g.1 ((omega arith, omega (arith, ltb-true _ _ g.0)), refl)

opcode_short : (bytes : List ℕ) → length bytes < 1 → opcode_at bytes ≡ Err (EndsEarly, 0)
unfolding opcode_at
opcode_short [] lt = refl
opcode_short (b ∷ bytes) lt = absurd (omega arith)

opcode_past : (bytes : List ℕ) → 1 ≤ length bytes → instructions ≤ get_or bytes 0 0 → opcode_at bytes ≡ Err (OutOfRange, length bytes)
unfolding opcode_at
opcode_past [] long past = absurd (omega arith)
opcode_past (b ∷ bytes) long past = let refused : ltb last_instruction b ≡ true = lt-ltb _ _ (omega arith) in rw refused refl

opcode_refuses : (bytes : List ℕ) (rule : CodeRule) (n x : ℕ) → Wrong (Opcode x) bytes rule n → opcode_at bytes ≡ Err (rule, n)
opcode_refuses bytes NoHeader n x w = absurd w
opcode_refuses bytes EndsEarly n x w = opcode_short bytes w.0 ∙ ap (λ (k : ℕ). failed EndsEarly k) (sym w.1)
opcode_refuses bytes OutOfRange n x w = opcode_past bytes w.0.0 w.0.1 ∙ ap (λ (k : ℕ). failed OutOfRange k) (sym w.1)
opcode_refuses bytes NotZero n x w = absurd w.0
opcode_refuses bytes AfterEnd n x w = absurd w

pub opcode_format : IsFormat opcode_at (λ n. n < instructions) (λ n. Opcode n ∷ [])
opcode_format = field_format opcode_at (λ n. n < instructions) (λ n. Opcode n) (record {
  takes = opcode_takes;
  again = λ x rest v fit. opcode_again x rest v;
  value = 0;
  valid = omega arith;
  fit = omega arith;
  fails = λ bytes rule n small e. opcode_fails bytes rule n e;
  refuses = λ x bytes rule n v w. opcode_refuses bytes rule n x w;
})

-- ---- characters

characters_takes : (count : ℕ) (bytes x rest : List ℕ) → IsBytes bytes → characters_at count bytes ≡ Ok (x, rest) → Taken (λ t. length t ≡ count) (λ t. Characters t ∷ []) bytes x rest
unfolding characters_at
characters_takes count bytes x rest small e =
    let g = chosen_ok (ltb (length bytes) count) (EndsEarly, 0) (take count bytes, drop count bytes) (x, rest) e in
    let long : count ≤ length bytes = ltb-false _ _ g.0 in
    let x_is : take count bytes ≡ x = ap (λ (p : List ℕ × List ℕ). p.0) g.1 in
    let rest_is : drop count bytes ≡ rest = ap (λ (p : List ℕ × List ℕ). p.1) g.1 in
    let counted : length (take count bytes) ≡ count = omega (arith, length-take count bytes) in
    let kept : IsBytes (take count bytes) = front_small bytes (take count bytes) (drop count bytes) (sym (take-append-drop count bytes)) small in
    let spelt : bytes ≡ x ++ rest = sym (take-append-drop count bytes) ∙ ap (λ (b : List ℕ). b ++ drop count bytes) x_is ∙ ap (λ (r : List ℕ). x ++ r) rest_is in
    record {
      valid = subst (λ (t : List ℕ). length t ≡ count) x_is counted;
      fit = (subst IsBytes x_is kept, tt);
      parts = spelt ∙ ap (λ (t : List ℕ). t ++ rest) (sym (append-nil x));
    }

characters_again : (count : ℕ) (x rest : List ℕ) → length x ≡ count → characters_at count (bytes_of (Characters x ∷ []) ++ rest) ≡ Ok (x, rest)
unfolding characters_at
characters_again count x rest len =
    let plain : bytes_of (Characters x ∷ []) ++ rest ≡ x ++ rest = ap (λ (t : List ℕ). t ++ rest) (append-nil x) in
    let long : ltb (length (x ++ rest)) count ≡ false = le-ltb _ _ (omega (arith, length-append x rest)) in
    let read : characters_at count (x ++ rest) ≡ Ok (x, rest) = rw (long, take_at x rest count len, drop_at x rest count len) refl in
    ap (characters_at count) plain ∙ read

-- so many zeros
zeros : ℕ → List ℕ
zeros zero = []
zeros (suc n) = 0 ∷ zeros n

length-zeros : (n : ℕ) → length (zeros n) ≡ n
unfolding zeros
length-zeros zero = refl
length-zeros (suc n) = ap suc (length-zeros n)

zeros_small : (n : ℕ) → IsBytes (zeros n)
unfolding zeros
zeros_small zero = tt
zeros_small (suc n) = (omega arith, zeros_small n)

characters_fails : (count : ℕ) (bytes : List ℕ) (rule : CodeRule) (n : ℕ) → characters_at count bytes ≡ Err (rule, n) → Wrong (Characters (zeros count)) bytes rule n
unfolding characters_at
characters_fails count bytes rule n e =
    let g = chosen_err (ltb (length bytes) count) (EndsEarly, 0) (rule, n) (take count bytes, drop count bytes) e in
    let short : length bytes < length (zeros count) = omega (arith, length-zeros count, ltb-true _ _ g.0) in
    subst (λ (f : CodeRule × ℕ). Wrong (Characters (zeros count)) bytes f.0 f.1) g.1 (short, refl)

characters_short : (count : ℕ) (bytes : List ℕ) → length bytes < count → characters_at count bytes ≡ Err (EndsEarly, 0)
unfolding characters_at
characters_short count bytes lt = let t : ltb (length bytes) count ≡ true = lt-ltb _ _ lt in rw t refl

characters_refuses : (count : ℕ) (x bytes : List ℕ) (rule : CodeRule) (n : ℕ) → length x ≡ count → Wrong (Characters x) bytes rule n → characters_at count bytes ≡ Err (rule, n)
characters_refuses count x bytes NoHeader n len w = absurd w
characters_refuses count x bytes EndsEarly n len w = characters_short count bytes (omega (arith, w.0, len)) ∙ ap (λ (k : ℕ). failed EndsEarly k) (sym w.1)
characters_refuses count x bytes OutOfRange n len w = absurd w.0
characters_refuses count x bytes NotZero n len w = absurd w.0
characters_refuses count x bytes AfterEnd n len w = absurd w

pub characters_format : (count : ℕ) → IsFormat (characters_at count) (λ t. length t ≡ count) (λ t. Characters t ∷ [])
characters_format count = field_format (characters_at count) (λ t. length t ≡ count) (λ t. Characters t) (record {
  takes = characters_takes count;
  again = λ x rest v fit. characters_again count x rest v;
  value = zeros count;
  valid = length-zeros count;
  fit = zeros_small count;
  fails = λ bytes rule n small e. characters_fails count bytes rule n e;
  refuses = λ x bytes rule n v w. characters_refuses count x bytes rule n v w;
})
