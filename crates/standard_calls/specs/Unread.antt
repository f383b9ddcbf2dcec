-- Where a standard name reads no byte of the source: what is held of the input is enough for it.
use Rattle.std.specs.Prelude.{◌≡◌, true, List, ◌∷◌}
use Rattle.sim_values.specs.declared.standard.Standard.{Standard}
use Rattle.sim_values.specs.declared.standard.Standard.TheVariants as name
use Rattle.sim_values.specs.Plain.{Integer}
use Rattle.sim_values.specs.Texts.{Frame}
use Rattle.sim_values.specs.Words.{count_from}
use Rattle.sim_code.specs.Machine.{Value, Of}
use Rattle.basic_io.specs.Input.{HeldInput, HoldsItem, holds_character, needs_no_byte}
use Rattle.basic_io.specs.Intext.{holds_characters}

-- What is held is enough for a name on these values, the last one first: `inimage` finds a line or the end, `inchar` its character,
-- `inint` and `lastitem` an item or the end, and `intext` all its characters. Every other name needs nothing.
abbrev pub Suffices : Standard → List Value → List Frame → HeldInput → Type 0
Suffices name.Inimage vs frames i = needs_no_byte i ≡ true
Suffices name.Inchar vs frames i = holds_character i ≡ true
Suffices name.Inint vs frames i = HoldsItem frames i
Suffices name.Lastitem vs frames i = HoldsItem frames i
Suffices name.Intext (Of (Integer n) ∷ vs) frames i = holds_characters (count_from n) i ≡ true
Suffices _ vs frames i = Unit {0}

-- no byte was read, and the source did not fail, where what is held is enough
unfoldable pub Unread : {S : Type 0} → Standard → List Value → List Frame → HeldInput → (old new : S) → Type 0
Unread n vs frames i old new = Suffices n vs frames i → new ≡ old
