-- The values that the meaning of programs and the machine have in common.
use Rattle.std.specs.Prelude.{ℕ, Bool, false, ℤ, pos}
use Rattle.sim_values.specs.Texts.{notext}
use Rattle.sim_values.specs.declared.value.TextVal.{TextVal}
use Rattle.sim_values.specs.declared.kind.Kind.{Kind}
use Rattle.sim_values.specs.declared.kind.Kind.TheVariants as kind

-- An integer, a truth value, a character by its code, a text, a reference to an instance, one to the main program of the simulation block that
-- is an instance, or `none`. Instances are numbered in the order of their entry, and no number is used again. A main program is no instance.
pub data Plain : Type 0 where
  Integer : ℤ → Plain
  Truth : Bool → Plain
  Character : ℕ → Plain
  Text : TextVal → Plain
  Object : (instance : ℕ) → Plain
  MainOf : (block : ℕ) → Plain
  Nothing : Plain

-- the value with which a variable of each kind starts
abbrev pub initial : Kind → Plain
initial kind.Integer = Integer (pos 0)
initial kind.Boolean = Truth false
initial kind.Character = Character 0
initial kind.Text = Text notext
initial kind.Reference = Nothing

-- the kind of a value
abbrev pub kind_of : Plain → Kind
kind_of (Integer z) = kind.Integer
kind_of (Truth b) = kind.Boolean
kind_of (Character c) = kind.Character
kind_of (Text t) = kind.Text
kind_of (Object i) = kind.Reference
kind_of (MainOf i) = kind.Reference
kind_of Nothing = kind.Reference
