-- How many operands a name takes, by its shape.
use Rattle.std.proofs.Common.{◌≡◌, length, refl}
use Rattle.sim_values.specs.declared.standard.Standard.TheVariants as name
use Rattle.sim_values.specs.Standard.{operands_of, row_of}
use Rattle.standard_calls.specs.declared.calls.OfNothing.{OfNothing}
use Rattle.standard_calls.specs.declared.calls.OfNothing.TheVariants as nothing
use Rattle.standard_calls.specs.declared.calls.OfInteger.{OfInteger}
use Rattle.standard_calls.specs.declared.calls.OfInteger.TheVariants as integer
use Rattle.standard_calls.specs.declared.calls.OfIntegers.{OfIntegers}
use Rattle.standard_calls.specs.declared.calls.OfIntegers.TheVariants as integers
use Rattle.standard_calls.specs.declared.calls.OfCharacter.{OfCharacter}
use Rattle.standard_calls.specs.declared.calls.OfCharacter.TheVariants as character
use Rattle.standard_calls.specs.declared.calls.OfText.{OfText}
use Rattle.standard_calls.specs.declared.calls.OfText.TheVariants as text
use Rattle.standard_calls.specs.declared.calls.OfTextAndInteger.{OfTextAndInteger}
use Rattle.standard_calls.specs.declared.calls.OfTextAndInteger.TheVariants as text_and_integer
use Rattle.standard_calls.specs.declared.calls.Call.{Call}
use Rattle.standard_calls.specs.declared.calls.Call.TheVariants as call
use Rattle.standard_calls.specs.Calls.{character_name, integer_name, integers_name, name_of, nothing_name, operands, text_and_integer_name, text_name}

pub nothing_count : (f : OfNothing) → 0 ≡ length (operands_of (row_of (nothing_name f)).function)
unfolding row_of
nothing_count nothing.Maxint = refl
nothing_count nothing.Minint = refl
nothing_count nothing.Inimage = refl
nothing_count nothing.Inchar = refl
nothing_count nothing.Inint = refl
nothing_count nothing.Lastitem = refl
nothing_count nothing.Endfile = refl
nothing_count nothing.Outimage = refl

pub integer_count : (f : OfInteger) → 1 ≡ length (operands_of (row_of (integer_name f)).function)
unfolding row_of
integer_count integer.Abs = refl
integer_count integer.Sign = refl
integer_count integer.Char = refl
integer_count integer.Isochar = refl
integer_count integer.Blanks = refl
integer_count integer.Intext = refl

pub integers_count : (f : OfIntegers) → 2 ≡ length (operands_of (row_of (integers_name f)).function)
unfolding row_of
integers_count integers.Min = refl
integers_count integers.Max = refl
integers_count integers.Mod = refl
integers_count integers.Rem = refl
integers_count integers.Outint = refl

pub character_count : (f : OfCharacter) → 1 ≡ length (operands_of (row_of (character_name f)).function)
unfolding row_of
character_count character.Rank = refl
character_count character.Isorank = refl
character_count character.Digit = refl
character_count character.Letter = refl
character_count character.Outchar = refl

pub text_count : (f : OfText) → 1 ≡ length (operands_of (row_of (text_name f)).function)
unfolding row_of
text_count text.Copy = refl
text_count text.Upcase = refl
text_count text.Lowcase = refl
text_count text.Constant = refl
text_count text.Start = refl
text_count text.Length = refl
text_count text.Pos = refl
text_count text.More = refl
text_count text.Main = refl
text_count text.Strip = refl
text_count text.Getchar = refl
text_count text.Getint = refl
text_count text.Outtext = refl

pub text_and_integer_count : (f : OfTextAndInteger) → 2 ≡ length (operands_of (row_of (text_and_integer_name f)).function)
unfolding row_of
text_and_integer_count text_and_integer.Setpos = refl
text_and_integer_count text_and_integer.Putint = refl

pub call_count : (c : Call) → length (operands c) ≡ length (operands_of (row_of (name_of c)).function)
unfolding row_of
call_count (call.Nothing f) = nothing_count f
call_count (call.Integer f i) = integer_count f
call_count (call.Integers f i j) = integers_count f
call_count (call.Character f c) = character_count f
call_count (call.Text f t) = text_count f
call_count (call.TextAndInteger f t i) = text_and_integer_count f
call_count (call.TextAndIntegers t i n) = refl
call_count (call.TextAndCharacter t c) = refl

pub setpos_count : length (operands_of (row_of name.TextSetpos).function) ≡ 2
unfolding row_of
setpos_count = refl

pub putchar_count : length (operands_of (row_of name.TextPutchar).function) ≡ 2
unfolding row_of
putchar_count = refl
