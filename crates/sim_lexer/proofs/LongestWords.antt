-- The longest word and the longest number stand in front.
use Rattle.std.proofs.Common.{◌≡◌, ℕ, ◌+◌, ◌<◌, ◌≤◌, Bool, true, false, List, [], ◌∷◌, ◌++◌, zero, suc, Option, Some, None, length, take, drop, refl, sym, ap, ◌∙◌, subst, arith, length-append, append_assoc, cond}
use Rattle.std.proofs.lemmas.Bool.{false≢true}
use Rattle.std.proofs.lemmas.Bool.Decides.{nat_tests}
use Rattle.std.proofs.lemmas.List.{take_at, drop_at, take-append-drop, length-take-le}
use Rattle.std.proofs.lemmas.List.Elements.{All-cons, All-nil, All-head, All-tail}
use Rattle.std.proofs.lemmas.List.Folds.{length-prefix_len}
use Rattle.std.proofs.lemmas.List.Sums.{prefix_len-le-length}
use Rattle.std.specs.Char.{to_ascii_lowercase}
use Rattle.std.specs.List.{All, position, prefix_len, take_while}
use Rattle.std.specs.Prelude.{if◌then◌else◌, codes, nat_eq, nat_lt, pos, slice_index, ◌^◌}
use Rattle.std.specs.Str.{bytes_eq}
use Rattle.sim_base.specs.declared.token.Lexeme.{Lexeme}
use Rattle.sim_base.specs.Lexeme.{whole_number}
use Rattle.sim_base.specs.declared.rule.Rule.TheVariants as x
use Rattle.sim_lexer.specs.Bytes.{is_digit, is_digit_of, is_letter, is_word_byte}
use Rattle.sim_lexer.specs.Constants.{integer, is_real_behind, number, number_in, number_value, radix, radix_digits, with_radix}
use Rattle.sim_lexer.specs.Longest.{AreDigits, IsBased, IsLongest, IsLongestWord, IsNumber, IsWord, based, decimal}
use Rattle.sim_lexer.specs.Piece.{Lexeme as LexemePiece, Fault}
use Rattle.sim_lexer.specs.Pieces.{comment, comment_behind, comment_to, lower_word, with_comment, word, word_lexeme}
use Rattle.sim_lexer.specs.Words.{is_left_out}

abbrev Passes : (ℕ → Bool) → ℕ → Type 0
Passes p byte = p byte ≡ true

-- ---- the bytes of a class in front

prefix_more : (p : ℕ → Bool) (byte : ℕ) (rest : List ℕ) → p byte ≡ true → prefix_len p (byte ∷ rest) ≡ suc (prefix_len p rest)
prefix_more p byte rest passing = ap (λ b. cond b (1 + prefix_len p rest) 0) passing ∙ omega arith

prefix_none : (p : ℕ → Bool) (byte : ℕ) (rest : List ℕ) → p byte ≡ false → prefix_len p (byte ∷ rest) ≡ 0
prefix_none p byte rest other = ap (λ b. cond b (1 + prefix_len p rest) 0) other

prefix_passes : (p : ℕ → Bool) (all : List ℕ) → All (Passes p) (take_while p all)
prefix_passes p [] = All-nil (Passes p)
prefix_passes p (byte ∷ rest) = by (p byte) refl (prefix_passes p rest)
  where
    by : (b : Bool) → p byte ≡ b → All (Passes p) (take_while p rest) → All (Passes p) (take_while p (byte ∷ rest))
    by true passing others =
        subst (λ n. All (Passes p) (take n (byte ∷ rest))) (sym (prefix_more p byte rest passing)) (All-cons (Passes p) byte (take_while p rest) passing others)
    by false other others = subst (λ n. All (Passes p) (take n (byte ∷ rest))) (sym (prefix_none p byte rest other)) (All-nil (Passes p))

-- no more bytes in front are of the class
prefix_longest : (p : ℕ → Bool) (all : List ℕ) (more : ℕ) → more ≤ length all → All (Passes p) (take more all) → more ≤ prefix_len p all
prefix_longest p all zero within passing = omega arith
prefix_longest p [] (suc more) within passing = omega arith
prefix_longest p (byte ∷ rest) (suc more) within passing =
    let first = All-head (Passes p) byte (take more rest) passing in
    let others = prefix_longest p rest more (omega arith) (All-tail (Passes p) byte (take more rest) passing) in
    omega (arith, prefix_more p byte rest first, others)

prefix_up_to : (p : ℕ → Bool) (front : List ℕ) (byte : ℕ) (rest : List ℕ) → All (Passes p) front → p byte ≡ false → prefix_len p (front ++ byte ∷ rest) ≡ length front
prefix_up_to p [] byte rest passing other = prefix_none p byte rest other
prefix_up_to p (first ∷ front) byte rest passing other =
    let others = prefix_up_to p front byte rest (All-tail (Passes p) first front passing) other in
    prefix_more p first (front ++ byte ∷ rest) (All-head (Passes p) first front passing) ∙ ap suc others

prefix_at_least : (p : ℕ → Bool) (front rest : List ℕ) → All (Passes p) front → length front ≤ prefix_len p (front ++ rest)
prefix_at_least p [] rest passing = omega arith
prefix_at_least p (first ∷ front) rest passing =
    omega (arith, prefix_more p first (front ++ rest) (All-head (Passes p) first front passing), prefix_at_least p front rest (All-tail (Passes p) first front passing))

-- ---- words

letter_in_word : (byte : ℕ) → is_letter byte ≡ true → is_word_byte byte ≡ true
letter_in_word byte letter = grind (arith, nat_tests)

word_in_front : (all : List ℕ) → is_letter (slice_index all 0) ≡ true → IsLongest IsWord all (prefix_len is_word_byte all)
word_in_front [] letter = absurd (false≢true letter)
word_in_front (byte ∷ rest) letter = record {
  is = record {
    first = byte;
    rest = take_while is_word_byte rest;
    split = ap (λ n. take n (byte ∷ rest)) (prefix_more is_word_byte byte rest (letter_in_word byte letter));
    letter = letter;
    all = prefix_passes is_word_byte rest;
  };
  within = prefix_len-le-length is_word_byte (byte ∷ rest);
  longest = λ more within is.
      prefix_longest is_word_byte (byte ∷ rest) more within
      (subst (All (Passes is_word_byte)) (sym is.split) (All-cons (Passes is_word_byte) is.first is.rest (letter_in_word is.first is.letter) is.all));
}

no_comment : (place : Option ℕ) (lexeme : Lexeme) (size : ℕ) → comment_to place ≡ LexemePiece lexeme size → ⊥
no_comment None lexeme size is = cc
no_comment (Some place) lexeme size is = cc

same_lexeme : {lexeme other : Lexeme} {size more : ℕ} → LexemePiece lexeme size ≡ LexemePiece other more → (lexeme ≡ other) × (size ≡ more)
same_lexeme is = (cc, cc)

comment_no_lexeme : (all : List ℕ) (lexeme : Lexeme) (size : ℕ) → comment all ≡ LexemePiece lexeme size → ⊥
unfolding comment
comment_no_lexeme all lexeme size is = no_comment (position (λ byte. nat_eq byte 59) all) lexeme size is

pub longest_word : (all : List ℕ) (lexeme : Lexeme) (size : ℕ) → is_letter (slice_index all 0) ≡ true → word all ≡ LexemePiece lexeme size → IsLongestWord all lexeme size
unfolding word
longest_word all lexeme size letter is = by (bytes_eq (lower_word all) (codes "comment")) (is_left_out (lower_word all)) is
  where
    here : Lexeme
    here = word_lexeme (lower_word all)

    letters : ℕ
    letters = prefix_len is_word_byte all

    by : (comments left : Bool) → (if comments then comment all else if left then Fault x.WordLeftOut else with_comment here letters all) ≡ LexemePiece lexeme size → IsLongestWord all lexeme size
    by true left so = absurd (comment_no_lexeme all lexeme size so)
    by false true so = cc
    by false false so =
        let same = same_lexeme so in
        record {
          letters = letters;
          longest = word_in_front all letter;
          lexeme_is = sym same.0;
          size_is = sym same.1 ∙ ap (λ (found : Lexeme). letters + comment_behind found.kind (drop letters all)) same.0;
        }

-- ---- numbers

r_no_digit : (mark : ℕ) → nat_eq (to_ascii_lowercase mark) 114 ≡ true → is_digit_of 10 mark ≡ false
r_no_digit mark is_r = grind (arith, nat_tests)

digit_of_ten : (byte : ℕ) → is_digit byte ≡ true → is_digit_of 10 byte ≡ true
digit_of_ten byte digit = grind (arith, nat_tests)

integer_size : (base : ℕ) (digits : List ℕ) (size : ℕ) (behind : List ℕ) (lexeme : Lexeme) (found : ℕ) → integer base digits size behind ≡ LexemePiece lexeme found → found ≡ size
unfolding integer
integer_size base digits size behind lexeme found is = by (is_real_behind behind) (nat_lt (number_value base digits) (2 ^ 63)) is
  where
    by : (real small : Bool) → (if real then Fault x.RealConstant else if small then LexemePiece (whole_number (pos (number_value base digits))) size else Fault x.IntegerTooLarge) ≡ LexemePiece lexeme found → found ≡ size
    by true small so = cc
    by false true so = cc
    by false false so = cc

take_over : (front rest : List ℕ) (n : ℕ) → take (length front + n) (front ++ rest) ≡ front ++ take n rest
take_over [] rest n = ap (λ m. take m rest) (omega arith)
take_over (first ∷ front) rest n =
    let size : length (first ∷ front) + n ≡ suc (length front + n) = omega arith in
    ap (λ m. take m (first ∷ front ++ rest)) size ∙ ap (λ (l : List ℕ). first ∷ l) (take_over front rest n)

-- the digits behind an `R`
behind_r : (base mark : ℕ) (rest : List ℕ) → nat_eq (to_ascii_lowercase mark) 114 ≡ true → radix_digits base (mark ∷ rest) ≡ take_while (is_digit_of base) rest
behind_r base mark rest is_r = ap (λ b. if b then take_while (is_digit_of base) rest else []) is_r

-- a number of a base in front, as the definition comes to it
record Comes (all : List ℕ) (more : ℕ) (b : IsBased (take more all)) : Type 0 where
  left : List ℕ
  whole : take_while (is_digit_of 10) all ≡ b.whole
  behind : drop (prefix_len (is_digit_of 10) all) all ≡ b.mark ∷ (b.digits ++ left)

comes : (all : List ℕ) (more : ℕ) (b : IsBased (take more all)) → Comes all more b
comes all more b =
    let left = drop more all in
    let split : all ≡ b.whole ++ b.mark ∷ (b.digits ++ left) =
    sym (take-append-drop more all) ∙ ap (λ (l : List ℕ). l ++ left) b.split ∙ append_assoc b.whole (b.mark ∷ b.digits) left in
    let count : prefix_len (is_digit_of 10) all ≡ length b.whole =
    ap (prefix_len (is_digit_of 10)) split ∙ prefix_up_to (is_digit_of 10) b.whole b.mark (b.digits ++ left) b.decimal.all (r_no_digit b.mark b.is_r) in
    record {
      left = left;
      whole = ap (λ n. take n all) count ∙ ap (take (length b.whole)) split ∙ take_at b.whole (b.mark ∷ (b.digits ++ left)) (length b.whole) refl;
      behind = ap (λ n. drop n all) count ∙ ap (drop (length b.whole)) split ∙ drop_at b.whole (b.mark ∷ (b.digits ++ left)) (length b.whole) refl;
    }

-- there are as many digits behind the `R` as the definition takes, or fewer
fewer_digits : (all : List ℕ) (more base : ℕ) (b : IsBased (take more all)) → radix (take_while (is_digit_of 10) all) ≡ Some base
    → length b.digits ≤ length (radix_digits base (drop (prefix_len (is_digit_of 10) all) all))
fewer_digits all more base b named =
    let c = comes all more b in
    let names : radix b.whole ≡ Some base = ap radix (sym c.whole) ∙ named in
    let same : b.base ≡ base = one_base (sym b.names ∙ names) in
    let digits : radix_digits base (drop (prefix_len (is_digit_of 10) all) all) ≡ take_while (is_digit_of base) (b.digits ++ c.left) =
    ap (radix_digits base) c.behind ∙ behind_r base b.mark (b.digits ++ c.left) b.is_r in
    let of_base : AreDigits base b.digits = subst (λ n. AreDigits n b.digits) same b.of_base in
    omega (arith, ap length digits, length-prefix_len (is_digit_of base) (b.digits ++ c.left), prefix_at_least (is_digit_of base) b.digits c.left of_base.all)
  where
    one_base : {m n : ℕ} → Some m ≡ Some n → m ≡ n
    one_base so = cc

based_size : (all : List ℕ) (more : ℕ) (b : IsBased (take more all)) → more ≤ length all → more ≡ length (take_while (is_digit_of 10) all) + (1 + length b.digits)
based_size all more b within =
    let c = comes all more b in
    omega (arith, length-take-le more all within, ap length b.split, length-append b.whole (b.mark ∷ b.digits), ap length c.whole)

module _ (all : List ℕ) (some : 0 < prefix_len (is_digit_of 10) all) where
  abbrev whole : List ℕ
  whole = take_while (is_digit_of 10) all

  abbrev behind : List ℕ
  behind = drop (prefix_len (is_digit_of 10) all) all

  decimal_in_front : (size : ℕ) → size ≡ length whole → IsNumber (take size all)
  decimal_in_front size is =
      let count : size ≡ prefix_len (is_digit_of 10) all = is ∙ length-prefix_len (is_digit_of 10) all in
      subst (λ n. IsNumber (take n all)) (sym count)
      (decimal (record { some = omega (arith, some, length-prefix_len (is_digit_of 10) all); all = prefix_passes (is_digit_of 10) all }))

  decimal_within : (size : ℕ) → size ≡ length whole → size ≤ length all
  decimal_within size is = omega (arith, is, length-prefix_len (is_digit_of 10) all, prefix_len-le-length (is_digit_of 10) all)

  decimal_longest : (size more : ℕ) → length whole ≤ size → more ≤ length all → AreDigits 10 (take more all) → more ≤ size
  decimal_longest size more short within digits =
      omega (arith, short, length-prefix_len (is_digit_of 10) all, prefix_longest (is_digit_of 10) all more within digits.all)

  -- no base is named
  without_base : (size : ℕ) → radix whole ≡ None → size ≡ length whole → IsLongest IsNumber all size
  without_base size none is = record { is = decimal_in_front size is; within = decimal_within size is; longest = longest }
    where
      longest : (more : ℕ) → more ≤ length all → IsNumber (take more all) → more ≤ size
      longest more within (decimal digits) = decimal_longest size more (omega (arith, is)) within digits
      longest more within (based b) = let same : None ≡ Some b.base = sym none ∙ ap radix (comes all more b).whole ∙ b.names in cc

  -- no digits of the base stand behind an `R`
  without_digits : (size base : ℕ) → radix whole ≡ Some base → length (radix_digits base behind) ≡ 0 → size ≡ length whole → IsLongest IsNumber all size
  without_digits size base named none is = record { is = decimal_in_front size is; within = decimal_within size is; longest = longest }
    where
      longest : (more : ℕ) → more ≤ length all → IsNumber (take more all) → more ≤ size
      longest more within (decimal digits) = decimal_longest size more (omega (arith, is)) within digits
      longest more within (based b) = absurd (omega (arith, fewer_digits all more base b named, none, b.of_base.some))

  with_digits : (size base mark : ℕ) (rest : List ℕ) → radix whole ≡ Some base → behind ≡ mark ∷ rest → nat_eq (to_ascii_lowercase mark) 114 ≡ true
      → 0 < length (radix_digits base behind) → size ≡ length whole + (1 + length (radix_digits base behind)) → IsLongest IsNumber all size
  with_digits size base mark rest named stands is_r more_digits is = record { is = here; within = short; longest = longest }
    where
      digits : List ℕ
      digits = take_while (is_digit_of base) rest

      taken : radix_digits base behind ≡ digits
      taken = ap (radix_digits base) stands ∙ behind_r base mark rest is_r

      count : size ≡ length whole + suc (prefix_len (is_digit_of base) rest)
      count = omega (arith, is, ap length taken, length-prefix_len (is_digit_of base) rest)

      split : all ≡ whole ++ mark ∷ rest
      split = sym (take-append-drop (prefix_len (is_digit_of 10) all) all) ∙ ap (λ (l : List ℕ). whole ++ l) stands

      bytes : take size all ≡ whole ++ mark ∷ digits
      bytes = ap (λ n. take n all) count ∙ ap (take (length whole + suc (prefix_len (is_digit_of base) rest))) split ∙ take_over whole (mark ∷ rest) (suc (prefix_len (is_digit_of base) rest))

      here : IsNumber (take size all)
      here =
          based (record {
            base = base;
            whole = whole;
            mark = mark;
            digits = digits;
            split = bytes;
            decimal = record { some = omega (arith, some, length-prefix_len (is_digit_of 10) all); all = prefix_passes (is_digit_of 10) all };
            names = named;
            is_r = is_r;
            of_base = record { some = omega (arith, more_digits, ap length taken); all = prefix_passes (is_digit_of base) rest };
          })

      short : size ≤ length all
      short = omega (arith, count, prefix_len-le-length (is_digit_of base) rest, ap length split, length-append whole (mark ∷ rest))

      longest : (more : ℕ) → more ≤ length all → IsNumber (take more all) → more ≤ size
      longest more within (decimal ds) = decimal_longest size more (omega (arith, is)) within ds
      longest more within (based b) = omega (arith, based_size all more b within, fewer_digits all more base b named, is)

  by_behind : (size base : ℕ) (bytes : List ℕ) → radix whole ≡ Some base → behind ≡ bytes → nat_eq (length (radix_digits base behind)) 0 ≡ false
      → size ≡ length whole + (1 + length (radix_digits base behind)) → IsLongest IsNumber all size
  by_behind size base [] named stands more_digits is = absurd (false≢true (sym more_digits ∙ ap (λ (l : List ℕ). nat_eq (length (radix_digits base l)) 0) stands))
  by_behind size base (mark ∷ rest) named stands more_digits is = by (nat_eq (to_ascii_lowercase mark) 114) refl
    where
      by : (b : Bool) → nat_eq (to_ascii_lowercase mark) 114 ≡ b → IsLongest IsNumber all size
      by true is_r = with_digits size base mark rest named stands is_r (not_zero (length (radix_digits base behind)) more_digits) is
        where
          not_zero : (n : ℕ) → nat_eq n 0 ≡ false → 0 < n
          not_zero n other = grind (arith, nat_tests)
      by false other =
          let none : radix_digits base behind ≡ [] = ap (radix_digits base) stands ∙ ap (λ b. if b then take_while (is_digit_of base) rest else []) other in
          absurd (false≢true (sym more_digits ∙ ap (λ (l : List ℕ). nat_eq (length l) 0) none))

  by_digits : (size base : ℕ) (lexeme : Lexeme) (none : Bool) → radix whole ≡ Some base → nat_eq (length (radix_digits base behind)) 0 ≡ none
      → (if none then integer 10 whole (length whole) behind else with_radix base whole (radix_digits base behind) behind) ≡ LexemePiece lexeme size → IsLongest IsNumber all size
  by_digits size base lexeme true named so is =
      without_digits size base named (zero_of (length (radix_digits base behind)) so) (integer_size 10 whole (length whole) behind lexeme size is)
    where
      zero_of : (n : ℕ) → nat_eq n 0 ≡ true → n ≡ 0
      zero_of n same = grind (arith, nat_tests)
  by_digits size base lexeme false named so is =
      by_behind size base behind named refl so
      (integer_size base (radix_digits base behind) (length whole + (1 + length (radix_digits base behind))) (drop (1 + length (radix_digits base behind)) behind) lexeme size is)

  by_radix : (size : ℕ) (lexeme : Lexeme) (base : Option ℕ) → radix whole ≡ base → number_in base whole behind ≡ LexemePiece lexeme size → IsLongest IsNumber all size
  by_radix size lexeme None named is = without_base size named (integer_size 10 whole (length whole) behind lexeme size is)
  by_radix size lexeme (Some base) named is = by_digits size base lexeme (nat_eq (length (radix_digits base behind)) 0) named refl is

digits_in_front : (all : List ℕ) → is_digit (slice_index all 0) ≡ true → 0 < prefix_len (is_digit_of 10) all
digits_in_front [] digit = absurd (false≢true digit)
digits_in_front (byte ∷ rest) digit = omega (arith, prefix_more (is_digit_of 10) byte rest (digit_of_ten byte digit))

pub longest_number : (all : List ℕ) (lexeme : Lexeme) (size : ℕ) → is_digit (slice_index all 0) ≡ true → number all ≡ LexemePiece lexeme size → IsLongest IsNumber all size
unfolding number
longest_number all lexeme size digit is =
    by_radix all (digits_in_front all digit) size lexeme (radix (take_while (is_digit_of 10) all)) refl is
