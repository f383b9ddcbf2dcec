-- The standard names: one table with the spelling of each, where it is found, the types of its parameters and of its result,
-- and what it does.
use Rattle.std.specs.Prelude.{ℕ, ℤ, pos, Bool, true, false, nat_le, ◌≡◌, List, [], ◌∷◌, ◌++◌, map, Option, Some, None, Ok, codes}
use Rattle.sim_values.specs.declared.value.TextVal.{TextVal}
use Rattle.sim_values.specs.declared.kind.Kind.{Kind}
use Rattle.sim_values.specs.declared.kind.Kind.TheVariants as kind
use Rattle.sim_values.specs.declared.standard.Owner.{Owner}
use Rattle.sim_values.specs.declared.standard.Owner.TheVariants as owner
use Rattle.sim_values.specs.declared.standard.StandardType.{StandardType}
use Rattle.sim_values.specs.declared.standard.StandardType.TheVariants as of
use Rattle.sim_values.specs.declared.standard.Standard.{Standard}
use Rattle.sim_values.specs.declared.standard.Standard.TheVariants as name
use Rattle.sim_values.specs.Arithmetic.{absolute_of, greater_of, greatest, least, modulus_of, remainder_of, sign_of, smaller_of}
use Rattle.sim_values.specs.Characters.{character_of, is_digit, is_letter, rank_of}
use Rattle.sim_values.specs.Plain.{Plain, Integer, Truth, Character, Text}
use Rattle.sim_values.specs.Texts.{blanks, copy, getchar, getint, is_constant, lowcase, main_text, putchar, putint, setpos, strip, sub, upcase}
use Rattle.sim_values.specs.Images.{inchar, inimage, inint, intext, lastitem, outchar, outimage, outint, outtext}
use Rattle.sim_values.specs.Store.{Effect, Store, changes, computes, gives, input_of, makes, moves, output_of, reads, reads_text, unvalued, valued, writes}

-- ---- what a name does, by the kinds of its operands

-- The text before a dot is the first operand. Names on components, sets and simulations have their meaning elsewhere, and those of
-- both images are text names on the image.
pub data Function : Type 0 where
  of_nothing : (Store → Effect) → Function
  of_integer : (ℤ → Store → Effect) → Function
  of_integers : (ℤ → ℤ → Store → Effect) → Function
  of_character : (ℕ → Store → Effect) → Function
  of_text : (TextVal → Store → Effect) → Function
  of_text_and_integer : (TextVal → ℤ → Store → Effect) → Function
  of_text_and_integers : (TextVal → ℤ → ℤ → Store → Effect) → Function
  of_text_and_character : (TextVal → ℕ → Store → Effect) → Function
  elsewhere : Function

-- the kinds of its operands, the first one first
abbrev pub operands_of : Function → List Kind
operands_of (of_nothing f) = []
operands_of (of_integer f) = kind.Integer ∷ []
operands_of (of_integers f) = kind.Integer ∷ kind.Integer ∷ []
operands_of (of_character f) = kind.Character ∷ []
operands_of (of_text f) = kind.Text ∷ []
operands_of (of_text_and_integer f) = kind.Text ∷ kind.Integer ∷ []
operands_of (of_text_and_integers f) = kind.Text ∷ kind.Integer ∷ kind.Integer ∷ []
operands_of (of_text_and_character f) = kind.Text ∷ kind.Character ∷ []
operands_of elsewhere = []

-- Operands are taken one at a time, the last one first, as they stand on a stack. There is no effect where one is missing or of
-- another kind.
unfoldable pub take_integer : List Plain → (ℤ → List Plain → Option Effect) → Option Effect
take_integer (Integer z ∷ rest) go = go z rest
take_integer _ go = None

unfoldable pub take_character : List Plain → (ℕ → List Plain → Option Effect) → Option Effect
take_character (Character c ∷ rest) go = go c rest
take_character _ go = None

unfoldable pub take_text : List Plain → (TextVal → List Plain → Option Effect) → Option Effect
take_text (Text t ∷ rest) go = go t rest
take_text _ go = None

unfoldable pub take_nothing : List Plain → Effect → Option Effect
take_nothing [] effect = Some effect
take_nothing (v ∷ rest) effect = None

-- a function on its operands, the last one first
abbrev pub applied : Function → List Plain → Store → Option Effect
applied (of_nothing f) vs s = take_nothing vs (f s)
applied (of_integer f) vs s = take_integer vs (λ i vs. take_nothing vs (f i s))
applied (of_integers f) vs s = take_integer vs (λ j vs. take_integer vs (λ i vs. take_nothing vs (f i j s)))
applied (of_character f) vs s = take_character vs (λ c vs. take_nothing vs (f c s))
applied (of_text f) vs s = take_text vs (λ t vs. take_nothing vs (f t s))
applied (of_text_and_integer f) vs s = take_integer vs (λ i vs. take_text vs (λ t vs. take_nothing vs (f t i s)))
applied (of_text_and_integers f) vs s = take_integer vs (λ n vs. take_integer vs (λ i vs. take_text vs (λ t vs. take_nothing vs (f t i n s))))
applied (of_text_and_character f) vs s = take_character vs (λ c vs. take_text vs (λ t vs. take_nothing vs (f t c s)))
applied elsewhere vs s = None

-- ---- the table

pub record Row : Type 0 where
  pub spelling : List ℕ
  pub owner : Owner
  pub parameters : List StandardType
  pub result : Option StandardType
  pub function : Function

abbrev pub row : List ℕ → Owner → List StandardType → Option StandardType → Function → Row
row spelling owner parameters result function = record { spelling = spelling; owner = owner; parameters = parameters; result = result; function = function }

-- In reading order: integers; characters; new texts; letters; texts; sysin; sysout; both images; components; sets; simulations.
unfoldable pub row_of : Standard → Row
row_of name.Abs = row (codes "abs") owner.Environment (of.Integer ∷ []) (Some of.Integer) (of_integer (λ i. computes Integer (absolute_of i)))
row_of name.Sign = row (codes "sign") owner.Environment (of.Integer ∷ []) (Some of.Integer) (of_integer (λ i. gives (Integer (sign_of i))))
row_of name.Min = row (codes "min") owner.Environment (of.Integer ∷ of.Integer ∷ []) (Some of.Integer) (of_integers (λ i j. gives (Integer (smaller_of i j))))
row_of name.Max = row (codes "max") owner.Environment (of.Integer ∷ of.Integer ∷ []) (Some of.Integer) (of_integers (λ i j. gives (Integer (greater_of i j))))
row_of name.Mod = row (codes "mod") owner.Environment (of.Integer ∷ of.Integer ∷ []) (Some of.Integer) (of_integers (λ i j. computes Integer (modulus_of i j)))
row_of name.Rem = row (codes "rem") owner.Environment (of.Integer ∷ of.Integer ∷ []) (Some of.Integer) (of_integers (λ i j. computes Integer (remainder_of i j)))
row_of name.Maxint = row (codes "maxint") owner.Environment [] (Some of.Integer) (of_nothing (gives (Integer greatest)))
row_of name.Minint = row (codes "minint") owner.Environment [] (Some of.Integer) (of_nothing (gives (Integer least)))
row_of name.Char = row (codes "char") owner.Environment (of.Integer ∷ []) (Some of.Character) (of_integer (λ n. computes Character (character_of n)))
row_of name.Rank = row (codes "rank") owner.Environment (of.Character ∷ []) (Some of.Integer) (of_character (λ c. gives (Integer (rank_of c))))
row_of name.Isochar = row (codes "isochar") owner.Environment (of.Integer ∷ []) (Some of.Character) (of_integer (λ n. computes Character (character_of n)))
row_of name.Isorank = row (codes "isorank") owner.Environment (of.Character ∷ []) (Some of.Integer) (of_character (λ c. gives (Integer (rank_of c))))
row_of name.Digit = row (codes "digit") owner.Environment (of.Character ∷ []) (Some of.Boolean) (of_character (λ c. gives (Truth (is_digit c))))
row_of name.Letter = row (codes "letter") owner.Environment (of.Character ∷ []) (Some of.Boolean) (of_character (λ c. gives (Truth (is_letter c))))
row_of name.Blanks = row (codes "blanks") owner.Environment (of.Integer ∷ []) (Some of.Text) (of_integer (λ n s. makes (blanks s.frames n) s))
row_of name.Copy = row (codes "copy") owner.Environment (of.Text ∷ []) (Some of.Text) (of_text (λ t s. makes (copy s.frames t) s))
row_of name.Upcase = row (codes "upcase") owner.Environment (of.Text ∷ []) (Some of.Text) (of_text (λ t s. changes (upcase s.frames t) s))
row_of name.Lowcase = row (codes "lowcase") owner.Environment (of.Text ∷ []) (Some of.Text) (of_text (λ t s. changes (lowcase s.frames t) s))
row_of name.TextConstant = row (codes "constant") owner.Text [] (Some of.Boolean) (of_text (λ t s. gives (Truth (is_constant s.frames t)) s))
row_of name.TextStart = row (codes "start") owner.Text [] (Some of.Integer) (of_text (λ t. gives (Integer (pos t.start))))
row_of name.TextLength = row (codes "length") owner.Text [] (Some of.Integer) (of_text (λ t. gives (Integer (pos t.length))))
row_of name.TextPos = row (codes "pos") owner.Text [] (Some of.Integer) (of_text (λ t. gives (Integer (pos t.pos))))
row_of name.TextMore = row (codes "more") owner.Text [] (Some of.Boolean) (of_text (λ t. gives (Truth (nat_le t.pos t.length))))
row_of name.TextMain = row (codes "main") owner.Text [] (Some of.Text) (of_text (λ t s. gives (Text (main_text s.frames t)) s))
row_of name.TextSetpos = row (codes "setpos") owner.Text (of.Integer ∷ []) None (of_text_and_integer (λ t i s. moves unvalued (setpos s.frames t i) s))
row_of name.TextGetchar = row (codes "getchar") owner.Text [] (Some of.Character) (of_text (λ t s. moves (valued Character) (getchar s.frames t) s))
row_of name.TextPutchar = row (codes "putchar") owner.Text (of.Character ∷ []) None (of_text_and_character (λ t c s. moves unvalued (putchar s.frames t c) s))
row_of name.TextSub = row (codes "sub") owner.Text (of.Integer ∷ of.Integer ∷ []) (Some of.Text) (of_text_and_integers (λ t i n. computes Text (sub t i n)))
row_of name.TextStrip = row (codes "strip") owner.Text [] (Some of.Text) (of_text (λ t s. gives (Text (strip s.frames t)) s))
row_of name.TextGetint = row (codes "getint") owner.Text [] (Some of.Integer) (of_text (λ t s. moves (valued Integer) (getint s.frames t) s))
row_of name.TextPutint = row (codes "putint") owner.Text (of.Integer ∷ []) None (of_text_and_integer (λ t i s. moves unvalued (putint s.frames t i) s))
row_of name.Inimage = row (codes "inimage") owner.Sysin [] None (of_nothing (λ s. reads unvalued (inimage (input_of s)) s))
row_of name.Inchar = row (codes "inchar") owner.Sysin [] (Some of.Character) (of_nothing (λ s. reads (valued Character) (inchar (input_of s)) s))
row_of name.Inint = row (codes "inint") owner.Sysin [] (Some of.Integer) (of_nothing (λ s. reads (valued Integer) (inint (input_of s)) s))
row_of name.Intext = row (codes "intext") owner.Sysin (of.Integer ∷ []) (Some of.Text) (of_integer (λ n s. reads_text (intext (input_of s) n) s))
row_of name.Lastitem = row (codes "lastitem") owner.Sysin [] (Some of.Boolean) (of_nothing (λ s. reads (valued Truth) (lastitem (input_of s)) s))
row_of name.Endfile = row (codes "endfile") owner.Sysin [] (Some of.Boolean) (of_nothing (λ s. gives (Truth s.endfile) s))
row_of name.Outimage = row (codes "outimage") owner.Sysout [] None (of_nothing (λ s. writes (Ok (outimage (output_of s))) s))
row_of name.Outchar = row (codes "outchar") owner.Sysout (of.Character ∷ []) None (of_character (λ c s. writes (Ok (outchar (output_of s) c)) s))
row_of name.Outtext = row (codes "outtext") owner.Sysout (of.Text ∷ []) None (of_text (λ t s. writes (Ok (outtext (output_of s) t)) s))
row_of name.Outint = row (codes "outint") owner.Sysout (of.Integer ∷ of.Integer ∷ []) None (of_integers (λ i w s. writes (outint (output_of s) i w) s))
row_of name.Image = row (codes "image") owner.Images [] (Some of.Text) elsewhere
row_of name.Pos = row (codes "pos") owner.Images [] (Some of.Integer) elsewhere
row_of name.Setpos = row (codes "setpos") owner.Images (of.Integer ∷ []) None elsewhere
row_of name.More = row (codes "more") owner.Images [] (Some of.Boolean) elsewhere
row_of name.Length = row (codes "length") owner.Images [] (Some of.Integer) elsewhere
row_of name.Detach = row (codes "detach") owner.Object [] None elsewhere
row_of name.Call = row (codes "call") owner.Environment (of.Reference ∷ []) None elsewhere
row_of name.Resume = row (codes "resume") owner.Environment (of.Reference ∷ []) None elsewhere
row_of name.Suc = row (codes "suc") owner.Linkage [] (Some of.Link) elsewhere
row_of name.Pred = row (codes "pred") owner.Linkage [] (Some of.Link) elsewhere
row_of name.Prev = row (codes "prev") owner.Linkage [] (Some of.Linkage) elsewhere
row_of name.Out = row (codes "out") owner.Link [] None elsewhere
row_of name.Follow = row (codes "follow") owner.Link (of.Linkage ∷ []) None elsewhere
row_of name.Precede = row (codes "precede") owner.Link (of.Linkage ∷ []) None elsewhere
row_of name.Into = row (codes "into") owner.Link (of.Head ∷ []) None elsewhere
row_of name.First = row (codes "first") owner.Head [] (Some of.Link) elsewhere
row_of name.Last = row (codes "last") owner.Head [] (Some of.Link) elsewhere
row_of name.Empty = row (codes "empty") owner.Head [] (Some of.Boolean) elsewhere
row_of name.Cardinal = row (codes "cardinal") owner.Head [] (Some of.Integer) elsewhere
row_of name.Clear = row (codes "clear") owner.Head [] None elsewhere
row_of name.Idle = row (codes "idle") owner.Process [] (Some of.Boolean) elsewhere
row_of name.Terminated = row (codes "terminated") owner.Process [] (Some of.Boolean) elsewhere
row_of name.Evtime = row (codes "evtime") owner.Process [] (Some of.Integer) elsewhere
row_of name.Nextev = row (codes "nextev") owner.Process [] (Some of.Process) elsewhere
row_of name.Time = row (codes "time") owner.Simulation [] (Some of.Integer) elsewhere
row_of name.Current = row (codes "current") owner.Simulation [] (Some of.Process) elsewhere
row_of name.Main = row (codes "main") owner.Simulation [] (Some of.Process) elsewhere
row_of name.Hold = row (codes "hold") owner.Simulation (of.Integer ∷ []) None elsewhere
row_of name.Passivate = row (codes "passivate") owner.Simulation [] None elsewhere
row_of name.Wait = row (codes "wait") owner.Simulation (of.Head ∷ []) None elsewhere
row_of name.Cancel = row (codes "cancel") owner.Simulation (of.Process ∷ []) None elsewhere

-- what a standard name does with its operands, the last one first
unfoldable pub standard_effect : Standard → List Plain → Store → Option Effect
standard_effect name vs s = applied (row_of name).function vs s

-- whether a name is that of an image itself
abbrev pub is_image : Standard → Bool
is_image name.Image = true
is_image _ = false

-- whether a text name moves the position of its text
abbrev pub moves_position : Standard → Bool
moves_position name.TextSetpos = true
moves_position name.TextGetchar = true
moves_position name.TextPutchar = true
moves_position name.TextGetint = true
moves_position name.TextPutint = true
moves_position _ = false

-- the text name that does on an image what a name of both images does
abbrev pub on_image : Standard → Option Standard
on_image name.Pos = Some name.TextPos
on_image name.Setpos = Some name.TextSetpos
on_image name.More = Some name.TextMore
on_image name.Length = Some name.TextLength
on_image _ = None

-- ---- the operands of a function are what is before the dot, and the parameters

abbrev pub kind_of_type : StandardType → Kind
kind_of_type of.Integer = kind.Integer
kind_of_type of.Boolean = kind.Boolean
kind_of_type of.Character = kind.Character
kind_of_type of.Text = kind.Text
kind_of_type of.Reference = kind.Reference
kind_of_type of.Linkage = kind.Reference
kind_of_type of.Link = kind.Reference
kind_of_type of.Head = kind.Reference
kind_of_type of.Process = kind.Reference

abbrev pub before_dot : Owner → List Kind
before_dot owner.Text = kind.Text ∷ []
before_dot _ = []

-- a function here takes these operands; one elsewhere is not spoken of
abbrev pub TakesOperands : Function → List Kind → Type 0
TakesOperands elsewhere kinds = Unit {0}
TakesOperands f kinds = operands_of f ≡ kinds

abbrev pub HasItsOperands : Standard → Type 0
HasItsOperands name = TakesOperands (row_of name).function (before_dot (row_of name).owner ++ map kind_of_type (row_of name).parameters)
