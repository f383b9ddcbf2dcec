-- What each name does on its operands.
use Rattle.std.proofs.Common.{◌≡◌, ℕ, [], ◌∷◌, refl}
use Rattle.std.specs.Prelude.{ℤ, pos, nat_le, Some, Ok}
use Rattle.sim_values.specs.declared.value.TextVal.{TextVal}
use Rattle.sim_values.specs.declared.standard.Standard.TheVariants as name
use Rattle.sim_values.specs.Arithmetic.{absolute_of, greater_of, greatest, least, modulus_of, remainder_of, sign_of, smaller_of}
use Rattle.sim_values.specs.Characters.{character_of, is_digit, is_letter, rank_of}
use Rattle.sim_values.specs.Plain.{Integer, Truth, Character, Text}
use Rattle.sim_values.specs.Texts.{blanks, copy, getchar, getint, is_constant, lowcase, main_text, putchar, putint, setpos, strip, sub, upcase}
use Rattle.sim_values.specs.Images.{inchar, inimage, inint, intext, lastitem, outchar, outimage, outint, outtext}
use Rattle.sim_values.specs.Standard.{row_of, standard_effect, take_character, take_integer, take_nothing, take_text}
use Rattle.sim_values.specs.Store.{Store, changes, computes, gives, input_of, makes, moves, output_of, reads, reads_text, unvalued, valued, writes}

module _ (s : Store) where
  pub does_maxint : standard_effect name.Maxint ([]) s ≡ Some (gives (Integer greatest) s)
  unfolding standard_effect row_of take_character take_integer take_nothing take_text
  does_maxint = refl

  pub does_minint : standard_effect name.Minint ([]) s ≡ Some (gives (Integer least) s)
  unfolding standard_effect row_of take_character take_integer take_nothing take_text
  does_minint = refl

  pub does_endfile : standard_effect name.Endfile ([]) s ≡ Some (gives (Truth s.endfile) s)
  unfolding standard_effect row_of take_character take_integer take_nothing take_text
  does_endfile = refl

  pub does_inimage : standard_effect name.Inimage ([]) s ≡ Some (reads unvalued (inimage (input_of s)) s)
  unfolding standard_effect row_of take_character take_integer take_nothing take_text
  does_inimage = refl

  pub does_inchar : standard_effect name.Inchar ([]) s ≡ Some (reads (valued Character) (inchar (input_of s)) s)
  unfolding standard_effect row_of take_character take_integer take_nothing take_text
  does_inchar = refl

  pub does_inint : standard_effect name.Inint ([]) s ≡ Some (reads (valued Integer) (inint (input_of s)) s)
  unfolding standard_effect row_of take_character take_integer take_nothing take_text
  does_inint = refl

  pub does_lastitem : standard_effect name.Lastitem ([]) s ≡ Some (reads (valued Truth) (lastitem (input_of s)) s)
  unfolding standard_effect row_of take_character take_integer take_nothing take_text
  does_lastitem = refl

  pub does_outimage : standard_effect name.Outimage ([]) s ≡ Some (writes (Ok (outimage (output_of s))) s)
  unfolding standard_effect row_of take_character take_integer take_nothing take_text
  does_outimage = refl

  pub does_abs : (i : ℤ) → standard_effect name.Abs (Integer i ∷ []) s ≡ Some (computes Integer (absolute_of i) s)
  unfolding standard_effect row_of take_character take_integer take_nothing take_text
  does_abs i = refl

  pub does_sign : (i : ℤ) → standard_effect name.Sign (Integer i ∷ []) s ≡ Some (gives (Integer (sign_of i)) s)
  unfolding standard_effect row_of take_character take_integer take_nothing take_text
  does_sign i = refl

  pub does_char : (i : ℤ) → standard_effect name.Char (Integer i ∷ []) s ≡ Some (computes Character (character_of i) s)
  unfolding standard_effect row_of take_character take_integer take_nothing take_text
  does_char i = refl

  pub does_isochar : (i : ℤ) → standard_effect name.Isochar (Integer i ∷ []) s ≡ Some (computes Character (character_of i) s)
  unfolding standard_effect row_of take_character take_integer take_nothing take_text
  does_isochar i = refl

  pub does_blanks : (i : ℤ) → standard_effect name.Blanks (Integer i ∷ []) s ≡ Some (makes (blanks s.frames i) s)
  unfolding standard_effect row_of take_character take_integer take_nothing take_text
  does_blanks i = refl

  pub does_intext : (i : ℤ) → standard_effect name.Intext (Integer i ∷ []) s ≡ Some (reads_text (intext (input_of s) i) s)
  unfolding standard_effect row_of take_character take_integer take_nothing take_text
  does_intext i = refl

  pub does_min : (i j : ℤ) → standard_effect name.Min (Integer j ∷ Integer i ∷ []) s ≡ Some (gives (Integer (smaller_of i j)) s)
  unfolding standard_effect row_of take_character take_integer take_nothing take_text
  does_min i j = refl

  pub does_max : (i j : ℤ) → standard_effect name.Max (Integer j ∷ Integer i ∷ []) s ≡ Some (gives (Integer (greater_of i j)) s)
  unfolding standard_effect row_of take_character take_integer take_nothing take_text
  does_max i j = refl

  pub does_mod : (i j : ℤ) → standard_effect name.Mod (Integer j ∷ Integer i ∷ []) s ≡ Some (computes Integer (modulus_of i j) s)
  unfolding standard_effect row_of take_character take_integer take_nothing take_text
  does_mod i j = refl

  pub does_rem : (i j : ℤ) → standard_effect name.Rem (Integer j ∷ Integer i ∷ []) s ≡ Some (computes Integer (remainder_of i j) s)
  unfolding standard_effect row_of take_character take_integer take_nothing take_text
  does_rem i j = refl

  pub does_outint : (i j : ℤ) → standard_effect name.Outint (Integer j ∷ Integer i ∷ []) s ≡ Some (writes (outint (output_of s) i j) s)
  unfolding standard_effect row_of take_character take_integer take_nothing take_text
  does_outint i j = refl

  pub does_rank : (c : ℕ) → standard_effect name.Rank (Character c ∷ []) s ≡ Some (gives (Integer (rank_of c)) s)
  unfolding standard_effect row_of take_character take_integer take_nothing take_text
  does_rank c = refl

  pub does_isorank : (c : ℕ) → standard_effect name.Isorank (Character c ∷ []) s ≡ Some (gives (Integer (rank_of c)) s)
  unfolding standard_effect row_of take_character take_integer take_nothing take_text
  does_isorank c = refl

  pub does_digit : (c : ℕ) → standard_effect name.Digit (Character c ∷ []) s ≡ Some (gives (Truth (is_digit c)) s)
  unfolding standard_effect row_of take_character take_integer take_nothing take_text
  does_digit c = refl

  pub does_letter : (c : ℕ) → standard_effect name.Letter (Character c ∷ []) s ≡ Some (gives (Truth (is_letter c)) s)
  unfolding standard_effect row_of take_character take_integer take_nothing take_text
  does_letter c = refl

  pub does_outchar : (c : ℕ) → standard_effect name.Outchar (Character c ∷ []) s ≡ Some (writes (Ok (outchar (output_of s) c)) s)
  unfolding standard_effect row_of take_character take_integer take_nothing take_text
  does_outchar c = refl

  pub does_copy : (t : TextVal) → standard_effect name.Copy (Text t ∷ []) s ≡ Some (makes (copy s.frames t) s)
  unfolding standard_effect row_of take_character take_integer take_nothing take_text
  does_copy t = refl

  pub does_upcase : (t : TextVal) → standard_effect name.Upcase (Text t ∷ []) s ≡ Some (changes (upcase s.frames t) s)
  unfolding standard_effect row_of take_character take_integer take_nothing take_text
  does_upcase t = refl

  pub does_lowcase : (t : TextVal) → standard_effect name.Lowcase (Text t ∷ []) s ≡ Some (changes (lowcase s.frames t) s)
  unfolding standard_effect row_of take_character take_integer take_nothing take_text
  does_lowcase t = refl

  pub does_textconstant : (t : TextVal) → standard_effect name.TextConstant (Text t ∷ []) s ≡ Some (gives (Truth (is_constant s.frames t)) s)
  unfolding standard_effect row_of take_character take_integer take_nothing take_text
  does_textconstant t = refl

  pub does_textstart : (t : TextVal) → standard_effect name.TextStart (Text t ∷ []) s ≡ Some (gives (Integer (pos t.start)) s)
  unfolding standard_effect row_of take_character take_integer take_nothing take_text
  does_textstart t = refl

  pub does_textlength : (t : TextVal) → standard_effect name.TextLength (Text t ∷ []) s ≡ Some (gives (Integer (pos t.length)) s)
  unfolding standard_effect row_of take_character take_integer take_nothing take_text
  does_textlength t = refl

  pub does_textpos : (t : TextVal) → standard_effect name.TextPos (Text t ∷ []) s ≡ Some (gives (Integer (pos t.pos)) s)
  unfolding standard_effect row_of take_character take_integer take_nothing take_text
  does_textpos t = refl

  pub does_textmore : (t : TextVal) → standard_effect name.TextMore (Text t ∷ []) s ≡ Some (gives (Truth (nat_le t.pos t.length)) s)
  unfolding standard_effect row_of take_character take_integer take_nothing take_text
  does_textmore t = refl

  pub does_textmain : (t : TextVal) → standard_effect name.TextMain (Text t ∷ []) s ≡ Some (gives (Text (main_text s.frames t)) s)
  unfolding standard_effect row_of take_character take_integer take_nothing take_text
  does_textmain t = refl

  pub does_textstrip : (t : TextVal) → standard_effect name.TextStrip (Text t ∷ []) s ≡ Some (gives (Text (strip s.frames t)) s)
  unfolding standard_effect row_of take_character take_integer take_nothing take_text
  does_textstrip t = refl

  pub does_textgetchar : (t : TextVal) → standard_effect name.TextGetchar (Text t ∷ []) s ≡ Some (moves (valued Character) (getchar s.frames t) s)
  unfolding standard_effect row_of take_character take_integer take_nothing take_text
  does_textgetchar t = refl

  pub does_textgetint : (t : TextVal) → standard_effect name.TextGetint (Text t ∷ []) s ≡ Some (moves (valued Integer) (getint s.frames t) s)
  unfolding standard_effect row_of take_character take_integer take_nothing take_text
  does_textgetint t = refl

  pub does_outtext : (t : TextVal) → standard_effect name.Outtext (Text t ∷ []) s ≡ Some (writes (Ok (outtext (output_of s) t)) s)
  unfolding standard_effect row_of take_character take_integer take_nothing take_text
  does_outtext t = refl

  pub does_textsetpos : (t : TextVal) (i : ℤ) → standard_effect name.TextSetpos (Integer i ∷ Text t ∷ []) s ≡ Some (moves unvalued (setpos s.frames t i) s)
  unfolding standard_effect row_of take_character take_integer take_nothing take_text
  does_textsetpos t i = refl

  pub does_textputint : (t : TextVal) (i : ℤ) → standard_effect name.TextPutint (Integer i ∷ Text t ∷ []) s ≡ Some (moves unvalued (putint s.frames t i) s)
  unfolding standard_effect row_of take_character take_integer take_nothing take_text
  does_textputint t i = refl

  pub does_textputchar : (t : TextVal) (c : ℕ) → standard_effect name.TextPutchar (Character c ∷ Text t ∷ []) s ≡ Some (moves unvalued (putchar s.frames t c) s)
  unfolding standard_effect row_of take_character take_integer take_nothing take_text
  does_textputchar t c = refl

  pub does_textsub : (t : TextVal) (i n : ℤ) → standard_effect name.TextSub (Integer n ∷ Integer i ∷ Text t ∷ []) s ≡ Some (computes Text (sub t i n) s)
  unfolding standard_effect row_of take_character take_integer take_nothing take_text
  does_textsub t i n = refl
