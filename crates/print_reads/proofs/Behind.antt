-- What may stand behind a word, a sign or a number.
use Rattle.std.proofs.Common.{◌≡◌, ℕ, Bool, false, List, [], ◌∷◌, refl, ap, ◌∙◌}
use Rattle.std.specs.Prelude.{nat_eq, slice_index, ◌||◌}
use Rattle.sim_lexer.specs.Bytes.{is_digit, is_digit_of, is_word_byte}
use Rattle.sim_lexer.specs.Constants.{is_real_behind, radix_digits}

pub data Break : Type 0 where
  Blank : Break
  Line : Break
  Semicolon : Break
  Comma : Break
  Close : Break
  Open : Break
  Dot : Break

abbrev pub byte_of : Break → ℕ
byte_of Blank = 32
byte_of Line = 10
byte_of Semicolon = 59
byte_of Comma = 44
byte_of Close = 41
byte_of Open = 40
byte_of Dot = 46

-- behind a dot no digit
abbrev pub NoReal : Break → List ℕ → Type 0
NoReal Dot rest = is_digit (slice_index rest 0) ≡ false
NoReal break rest = Unit {0}

-- such a byte stands in front
pub record Breaks (all : List ℕ) : Type 0 where
  pub break : Break
  pub rest : List ℕ
  pub is : all ≡ byte_of break ∷ rest
  pub no_real : NoReal break rest

-- what is so of each such byte is so of the first
at_break : (p : ℕ → Bool) (all : List ℕ) → ((break : Break) → p (byte_of break) ≡ false) → Breaks all → p (slice_index all 0) ≡ false
at_break p all each b = ap (λ (bytes : List ℕ). p (slice_index bytes 0)) b.is ∙ each b.break

pub no_word_byte : (all : List ℕ) → Breaks all → is_word_byte (slice_index all 0) ≡ false
no_word_byte all = at_break is_word_byte all (elim [ Blank ↦ refl | Line ↦ refl | Semicolon ↦ refl | Comma ↦ refl | Close ↦ refl | Open ↦ refl | Dot ↦ refl ])

pub no_digit : (all : List ℕ) → Breaks all → is_digit_of 10 (slice_index all 0) ≡ false
no_digit all = at_break (is_digit_of 10) all (elim [ Blank ↦ refl | Line ↦ refl | Semicolon ↦ refl | Comma ↦ refl | Close ↦ refl | Open ↦ refl | Dot ↦ refl ])

pub no_quote : (all : List ℕ) → Breaks all → nat_eq (slice_index all 0) 34 ≡ false
no_quote all = at_break (λ byte. nat_eq byte 34) all (elim [ Blank ↦ refl | Line ↦ refl | Semicolon ↦ refl | Comma ↦ refl | Close ↦ refl | Open ↦ refl | Dot ↦ refl ])

pub no_radix : (base : ℕ) (all : List ℕ) → Breaks all → radix_digits base all ≡ []
no_radix base all b = ap (radix_digits base) b.is ∙ by b.break b.rest
  where
    by : (break : Break) (rest : List ℕ) → radix_digits base (byte_of break ∷ rest) ≡ []
    by Blank rest = refl
    by Line rest = refl
    by Semicolon rest = refl
    by Comma rest = refl
    by Close rest = refl
    by Open rest = refl
    by Dot rest = refl

pub no_real_behind : (all : List ℕ) → Breaks all → is_real_behind all ≡ false
no_real_behind all b = ap is_real_behind b.is ∙ by b.break b.rest b.no_real
  where
    by : (break : Break) (rest : List ℕ) → NoReal break rest → is_real_behind (byte_of break ∷ rest) ≡ false
    by Blank rest h = refl
    by Line rest h = refl
    by Semicolon rest h = refl
    by Comma rest h = refl
    by Close rest h = refl
    by Open rest h = refl
    by Dot rest h = ap (λ b. b || false) h
