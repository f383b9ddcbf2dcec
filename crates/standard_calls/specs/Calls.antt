-- The standard names that run, by the kinds of their operands, each with its operands; and what becomes of one on them.
use Rattle.std.specs.Prelude.{◌≡◌, ℕ, ◌+◌, ◌-◌, ◌^◌, min, ◌<◌, ◌≤◌, Bool, true, false, List, [], ◌∷◌, ◌++◌, length, map, Option, Some, None, Result, Ok, Err}
use Rattle.std.specs.Io.KnownBytes.{Appends}
use Rattle.sim_base.specs.declared.limits.Limits.{Limits}
use Rattle.sim_base.specs.declared.run_error.RunError.{RunError}
use Rattle.sim_ports.specs.Faults.{Rose, StopsAt}
use Rattle.sim_values.specs.declared.standard.Standard.{Standard}
use Rattle.sim_values.specs.declared.standard.Standard.TheVariants as name
use Rattle.sim_values.specs.declared.value.TextVal.{TextVal}
use Rattle.sim_values.specs.Plain.{Plain, Integer, Character, Text}
use Rattle.sim_values.specs.Standard.{standard_effect}
use Rattle.sim_values.specs.Store.{Effect, Store}
use Rattle.sim_values.specs.Texts.{Frame, IsText, Making}
use Rattle.sim_code.specs.Outcome.{Run, World}
use Rattle.sim_code.specs.Events.{computing, having, no_rule, taking}
use Rattle.sim_code.specs.Machine.{Machine, Value, Of, plain}
use Rattle.sim_code.specs.Rows.{with_value}
use Rattle.text_objects.specs.Making.{Makes}
use Rattle.text_objects.specs.declared.fault.TextFault.{TextFault}
use Rattle.text_objects.specs.declared.fault.TextFault.TheVariants as making
use Rattle.basic_io.specs.Image.{IsImage}
use Rattle.basic_io.specs.declared.fault.IntextFault.{IntextFault}
use Rattle.basic_io.specs.declared.fault.IntextFault.TheVariants as intext
use Rattle.basic_io.specs.declared.fault.IoFault.{IoFault}
use Rattle.basic_io.specs.declared.fault.IoFault.TheVariants as fault
use Rattle.frame_arena.specs.declared.slot.Slot.{Slot}
use Rattle.frame_arena.specs.Arrays.{names_array}
use Rattle.frame_arena.specs.Frames.{names_frame}
use Rattle.frame_arena.specs.Slots.{is_plain, value_of}
use Rattle.standard_calls.specs.Quiet.{is_done}
use Rattle.frame_arena.specs.Stacks.{values_of}
use Rattle.standard_calls.specs.declared.calls.OfNothing.{OfNothing}
use Rattle.standard_calls.specs.declared.calls.OfNothing.TheVariants as nothing
use Rattle.standard_calls.specs.declared.calls.OfInteger.{OfInteger}
use Rattle.standard_calls.specs.declared.calls.OfInteger.TheVariants as integer
use Rattle.standard_calls.specs.declared.calls.OfIntegers.{OfIntegers}
use Rattle.standard_calls.specs.declared.calls.OfIntegers.TheVariants as integers
use Rattle.standard_calls.specs.declared.calls.OfCharacter.{OfCharacter}
use Rattle.standard_calls.specs.declared.calls.OfCharacter.TheVariants as character
use Rattle.standard_calls.specs.declared.calls.OfText.{OfText}
use Rattle.standard_calls.specs.declared.calls.OfText.TheVariants as text
use Rattle.standard_calls.specs.declared.calls.OfTextAndInteger.{OfTextAndInteger}
use Rattle.standard_calls.specs.declared.calls.OfTextAndInteger.TheVariants as integer_to
use Rattle.standard_calls.specs.declared.calls.Shape.{Shape}
use Rattle.standard_calls.specs.declared.calls.Shape.TheVariants as shape
use Rattle.standard_calls.specs.declared.calls.Call.{Call}
use Rattle.standard_calls.specs.declared.calls.Call.TheVariants as call
use Rattle.standard_calls.specs.declared.input.Reading.{Reading}
use Rattle.standard_calls.specs.declared.input.Reading.TheVariants as reading
use Rattle.standard_calls.specs.declared.came.Came.{Came}
use Rattle.standard_calls.specs.declared.came.Came.TheVariants as came
use Rattle.standard_calls.specs.declared.came.Missing.{Missing}
use Rattle.standard_calls.specs.declared.came.Missing.TheVariants as missing
use Rattle.standard_calls.specs.declared.names.Performed.{Performed}
use Rattle.standard_calls.specs.declared.names.Performed.TheVariants as performed
use Rattle.standard_calls.specs.Performed.{Parts, held, standard_row, store_of}

-- ---- names

abbrev pub nothing_name : OfNothing → Standard
nothing_name nothing.Maxint = name.Maxint
nothing_name nothing.Minint = name.Minint
nothing_name nothing.Inimage = name.Inimage
nothing_name nothing.Inchar = name.Inchar
nothing_name nothing.Inint = name.Inint
nothing_name nothing.Lastitem = name.Lastitem
nothing_name nothing.Endfile = name.Endfile
nothing_name nothing.Outimage = name.Outimage

abbrev pub integer_name : OfInteger → Standard
integer_name integer.Abs = name.Abs
integer_name integer.Sign = name.Sign
integer_name integer.Char = name.Char
integer_name integer.Isochar = name.Isochar
integer_name integer.Blanks = name.Blanks
integer_name integer.Intext = name.Intext

abbrev pub integers_name : OfIntegers → Standard
integers_name integers.Min = name.Min
integers_name integers.Max = name.Max
integers_name integers.Mod = name.Mod
integers_name integers.Rem = name.Rem
integers_name integers.Outint = name.Outint

abbrev pub character_name : OfCharacter → Standard
character_name character.Rank = name.Rank
character_name character.Isorank = name.Isorank
character_name character.Digit = name.Digit
character_name character.Letter = name.Letter
character_name character.Outchar = name.Outchar

abbrev pub text_name : OfText → Standard
text_name text.Copy = name.Copy
text_name text.Upcase = name.Upcase
text_name text.Lowcase = name.Lowcase
text_name text.Constant = name.TextConstant
text_name text.Start = name.TextStart
text_name text.Length = name.TextLength
text_name text.Pos = name.TextPos
text_name text.More = name.TextMore
text_name text.Main = name.TextMain
text_name text.Strip = name.TextStrip
text_name text.Getchar = name.TextGetchar
text_name text.Getint = name.TextGetint
text_name text.Outtext = name.Outtext

abbrev pub reading_name : Reading → Standard
reading_name reading.Inimage = name.Inimage
reading_name reading.Inchar = name.Inchar
reading_name reading.Inint = name.Inint
reading_name reading.Lastitem = name.Lastitem

abbrev pub text_and_integer_name : OfTextAndInteger → Standard
text_and_integer_name integer_to.Setpos = name.TextSetpos
text_and_integer_name integer_to.Putint = name.TextPutint

-- a name by the kinds of its operands
abbrev pub HasShape : Standard → Shape → Type 0
HasShape n (shape.Nothing f) = n ≡ nothing_name f
HasShape n (shape.Integer f) = n ≡ integer_name f
HasShape n (shape.Integers f) = n ≡ integers_name f
HasShape n (shape.Character f) = n ≡ character_name f
HasShape n (shape.Text f) = n ≡ text_name f
HasShape n (shape.TextAndInteger f) = n ≡ text_and_integer_name f
HasShape n shape.TextAndIntegers = n ≡ name.TextSub
HasShape n shape.TextAndCharacter = n ≡ name.TextPutchar
HasShape n shape.Elsewhere = is_done n ≡ false

abbrev pub name_of : Call → Standard
name_of (call.Nothing f) = nothing_name f
name_of (call.Integer f i) = integer_name f
name_of (call.Integers f i j) = integers_name f
name_of (call.Character f c) = character_name f
name_of (call.Text f t) = text_name f
name_of (call.TextAndInteger f t i) = text_and_integer_name f
name_of (call.TextAndIntegers t i n) = name.TextSub
name_of (call.TextAndCharacter t c) = name.TextPutchar

-- the operands, the last one first
abbrev pub operands : Call → List Plain
operands (call.Nothing f) = []
operands (call.Integer f i) = Integer i ∷ []
operands (call.Integers f i j) = Integer j ∷ Integer i ∷ []
operands (call.Character f c) = Character c ∷ []
operands (call.Text f t) = Text t ∷ []
operands (call.TextAndInteger f t i) = Integer i ∷ Text t ∷ []
operands (call.TextAndIntegers t i n) = Integer n ∷ Integer i ∷ Text t ∷ []
operands (call.TextAndCharacter t c) = Character c ∷ Text t ∷ []

-- its text is one of these frames
abbrev pub HasText : List Frame → Call → Type 0
HasText frames (call.Text f t) = IsText frames t
HasText frames (call.TextAndInteger f t i) = IsText frames t
HasText frames (call.TextAndIntegers t i n) = IsText frames t
HasText frames (call.TextAndCharacter t c) = IsText frames t
HasText frames _ = Unit {0}

-- ---- operands

-- how a row goes on with what a name does
abbrev pub going_on : Limits → (line : ℕ) → World → (World → Option TextVal → List Value → Run Machine) → List Value → Effect → Run Machine
going_on l line o go rest effect =
    taking l line effect.wanted o (λ p. computing line effect.answer (record p { store = effect.store }) (λ value. go (record p { store = effect.store }) effect.moved (with_value value rest)))

-- a value that is no text
abbrev pub IsNoText : Value → Type 0
IsNoText v = (t : TextVal) → v ≡ Of (Text t) → ⊥

-- The row takes these operands, and then so many values are left; or there is no rule, whatever the world.
abbrev pub Takes : Standard → (depth : ℕ) → List Slot → (at : ℕ) → List Plain → Type 0
Takes n depth slots at vs =
    (l : Limits) (line : ℕ) (o : World) (go : World → Option TextVal → List Value → Run Machine) → standard_row l line n (held depth slots) o go ≡ having (standard_effect n vs o.store) o (going_on l line o go (values_of at slots))

abbrev pub Refuses : Standard → (depth : ℕ) → List Slot → Type 0
Refuses n depth slots =
    (l : Limits) (line : ℕ) (o : World) (go : World → Option TextVal → List Value → Run Machine) → standard_row l line n (held depth slots) o go ≡ no_rule o

-- whether a name of no operands has a value
abbrev pub gives : OfNothing → Bool
gives nothing.Inimage = false
gives nothing.Outimage = false
gives _ = true

-- there is room for the value, if the call has one
abbrev pub HasRoom : Call → (at : ℕ) → List Slot → Type 0
HasRoom (call.Nothing f) at slots = gives f ≡ true → at < length slots
HasRoom _ at slots = at < length slots

-- where the operands begin on a stack of so many values
abbrev pub begins : (depth : ℕ) → Call → ℕ
begins depth c = depth - length (operands c)

-- the operands are the last values, and the others stand below them
abbrev pub OnTop : Call → (depth : ℕ) → List Slot → Type 0
OnTop c depth slots = values_of depth slots ≡ map Of (operands c) ++ values_of (begins depth c) slots

-- what was read on a stack for a name
abbrev pub ReadAs : Result Call Missing → Standard → (depth : ℕ) → List Slot → Type 0
ReadAs (Ok c) n depth slots = (n ≡ name_of c) × Takes n depth slots (begins depth c) (operands c) × HasRoom c (begins depth c) slots × OnTop c depth slots
ReadAs (Err missing.NoRule) n depth slots = Refuses n depth slots
ReadAs (Err missing.Memory) n depth slots = Unit {0}

-- ---- what becomes of a name

-- a plain value that refers to no frame and no array
abbrev pub IsScalar : Slot → Type 0
IsScalar s = (names_frame s.kind ≡ false) × (names_array s.kind ≡ false) × (is_plain (value_of s) ≡ true)

abbrev pub IsScalarValue : Option Slot → Type 0
IsScalarValue None = Unit {0}
IsScalarValue (Some s) = IsScalar s

abbrev pub IsScalarCame : Came → Type 0
IsScalarCame (came.Done value moved) = IsScalarValue value
IsScalarCame _ = Unit {0}

abbrev pub plain_value : Option Slot → Option Plain
plain_value None = None
plain_value (Some s) = plain (value_of s)

-- the name does this in whatever store these parts stand
abbrev pub EffectIs : Standard → List Plain → Parts → ((written : List ℕ) → Effect) → Type 0
EffectIs n vs old effect = (written : List ℕ) → standard_effect n vs (store_of old written) ≡ Some (effect written)

abbrev pub effect_to : (wanted : ℕ) → Parts → (moved : Option TextVal) → Result (Option Plain) RunError → (bytes : List ℕ) → (written : List ℕ) → Effect
effect_to wanted new moved answer bytes written = record { wanted = wanted; store = store_of new (written ++ bytes); moved = moved; answer = answer }

-- the name took its words, within the budget, and left these parts
pub record Leaves (budget : ℕ) (n : Standard) (vs : List Plain) (old new : Parts) (bytes : List ℕ) (moved : Option TextVal) (answer : Result (Option Plain) RunError) : Type 0 where
  pub wanted : ℕ
  pub sink : Appends old.sink new.sink bytes
  pub words : new.words ≡ old.words + wanted
  pub fits : old.words ≤ budget → new.words ≤ budget
  pub effect : EffectIs n vs old (effect_to wanted new moved answer bytes)

-- the sink failed: it got some first bytes of what the name writes
pub record Cut (n : Standard) (vs : List Plain) (old new : Parts) : Type 0 where
  pub bytes : List ℕ
  pub sink : Appends old.sink new.sink bytes
  pub more : List ℕ
  pub left : (written : List ℕ) → Store
  pub whole : (written : List ℕ) → (left written).written ≡ written ++ (bytes ++ more)
  pub effect : EffectIs n vs old (λ written. record { wanted = 0; store = left written; moved = None; answer = Ok None })

-- the words of the name are not left
pub record Lacks (budget : ℕ) (n : Standard) (vs : List Plain) (old : Parts) (wanted : ℕ) : Type 0 where
  pub full : budget < old.words + wanted
  pub done : (written : List ℕ) → Effect
  pub wants : (written : List ℕ) → (done written).wanted ≡ wanted
  pub effect : EffectIs n vs old done

abbrev pub CameAs : Came → (budget : ℕ) → Standard → List Plain → (old new : Parts) → Type 0
CameAs (came.Done value moved) budget n vs old new = (bytes : List ℕ) × Leaves budget n vs old new bytes moved (Ok (plain_value value))
CameAs (came.Fault e) budget n vs old new = (moved : Option TextVal) × Leaves budget n vs old new [] moved (Err e)
CameAs (came.Full wanted) budget n vs old new = (new ≡ old) × Lacks budget n vs old wanted
CameAs came.WriteFault budget n vs old new = Cut n vs old new
CameAs came.Memory budget n vs old new = Appends old.sink new.sink []
CameAs came.InputFault budget n vs old new = Appends old.sink new.sink []

-- a fact about a text that was moved
abbrev pub IfCameMoved : Came → Type 0 → Type 0
IfCameMoved (came.Done value (Some text)) P = P
IfCameMoved _ P = Unit {0}

-- a fault of no end
abbrev pub QuietCame : Came → Type 0
QuietCame came.WriteFault = ⊥
QuietCame came.InputFault = ⊥
QuietCame _ = Unit {0}

abbrev pub CameFaults : Came → (sink_before sink_now source_before source_now : ℕ) → Type 0
CameFaults came.WriteFault before now source source_now = (before ≤ now) × Rose before now × (source_now ≡ source)
CameFaults came.InputFault before now source source_now = (now ≡ before) × (source ≤ source_now) × Rose source source_now
CameFaults _ before now source source_now = (now ≡ before) × (source_now ≡ source)

-- the same of one end alone
abbrev pub CameSink : Came → (before now : ℕ) → Type 0
CameSink came.WriteFault before now = (before ≤ now) × Rose before now
CameSink came.InputFault before now = ⊥
CameSink _ before now = now ≡ before

abbrev pub CameSource : Came → (before now : ℕ) → Type 0
CameSource came.InputFault before now = (before ≤ now) × Rose before now
CameSource came.WriteFault before now = ⊥
CameSource _ before now = now ≡ before

abbrev pub CameStops : {S : Type 0} → (S → Option (List ℕ)) → (S → ℕ) → S → S → Came → Type 0
CameStops written faults old new came.WriteFault = StopsAt written faults old new
CameStops written faults old new _ = Unit {0}

-- a call that has no value gives none
abbrev pub GivesValue : Call → Came → Type 0
GivesValue (call.Nothing f) (came.Done (Some s) moved) = gives f ≡ true
GivesValue _ _ = Unit {0}

-- there is room for the value, if there is one
abbrev pub ValueFits : Came → (at : ℕ) → List Slot → Type 0
ValueFits (came.Done (Some s) moved) at slots = at < length slots
ValueFits _ at slots = Unit {0}

-- ---- texts

-- every image of the old frames is one of the new frames
abbrev pub KeepsImages : List Frame → List Frame → Type 0
KeepsImages old new = (image : TextVal) → IsImage old image → IsImage new image

-- how a text that is made is answered, and the words that it takes
abbrev pub MakesWithin : (taken : ℕ) → Making → (room : ℕ) → (old new : List Frame) → Result TextVal TextFault → Type 0
MakesWithin taken m room old new answer =
    Makes m room old new answer × ((t : TextVal) → m.answer ≡ Ok t → m.wanted ≡ taken) × ((e : RunError) → m.answer ≡ Err e → (m.wanted ≡ 0) × (m.frames ≡ old))

-- what became of a call on an input or an output that is refused
abbrev pub refused_as : IoFault → Came
refused_as (fault.Run e) = came.Fault e
refused_as fault.InputFault = came.InputFault
refused_as fault.WriteFault = came.WriteFault

-- how a name ends, after which there are so many values
abbrev pub settled : Came → (depth : ℕ) → Performed
settled (came.Done value None) depth = performed.Depth depth
settled (came.Done value (Some text)) depth = performed.Moved depth text
settled (came.Fault e) depth = performed.Fault e
settled (came.Full wanted) depth = performed.Full wanted
settled came.Memory depth = performed.Memory
settled came.WriteFault depth = performed.WriteFault
settled came.InputFault depth = performed.InputFault

-- what becomes of a name whose text was not made
abbrev pub unmade_as : TextFault → Came
unmade_as (making.Run e) = came.Fault e
unmade_as (making.Full wanted) = came.Full wanted
unmade_as making.Memory = came.Memory

-- it gives no value
abbrev pub NoValue : Came → Type 0
NoValue (came.Done (Some s) moved) = ⊥
NoValue _ = Unit {0}

-- what becomes of `intext` of a number that is not below 0 where its text was not made, or not read
abbrev pub unfit_as : TextFault → Came
unfit_as (making.Full wanted) = came.Full wanted
unfit_as _ = came.Memory

abbrev pub unread_as : IntextFault → Came
unread_as (intext.NotRead x) = refused_as x
unread_as (intext.NoText x) = unfit_as x

-- a text that was made has taken its words
abbrev pub words_after : IntextFault → (words taken : ℕ) → ℕ
words_after (intext.NotRead x) words taken = min (words + taken) (2 ^ 64 - 1)
words_after (intext.NoText x) words taken = words
