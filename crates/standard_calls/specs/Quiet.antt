-- How standard names are done. A quiet one works on its operands and on texts alone, and touches neither input nor output.
use Rattle.std.specs.Prelude.{Bool, false, if◌then◌else◌}
use Rattle.sim_values.specs.declared.standard.Standard.{Standard}
use Rattle.sim_values.specs.declared.standard.Standard.TheVariants as name
use Rattle.sim_values.specs.Standard.{Function, of_character, of_integer, of_integers, of_text, of_text_and_character, of_text_and_integer}
use Rattle.sim_code.specs.Running.{name_runs}
use Rattle.sim_code.specs.Sets.{is_set_name}
use Rattle.sim_code.specs.Simulations.{is_process_name, is_simulation_name}
use Rattle.standard_calls.specs.declared.manner.Manner.{Manner}
use Rattle.standard_calls.specs.declared.manner.Manner.TheVariants as manner
use Rattle.standard_calls.specs.declared.names.Performed.{Performed}
use Rattle.standard_calls.specs.declared.names.Performed.TheVariants as performed

-- The names that are done here are those that run, but for those of sets, of processes and of simulation blocks.
abbrev pub is_done : Standard → Bool
is_done n = if is_set_name n then false else if is_process_name n then false else if is_simulation_name n then false else name_runs n

-- A name is quiet where its manner is not `Ports`.
abbrev pub manner_of : Standard → Manner
manner_of name.Abs = manner.Plain
manner_of name.Sign = manner.Plain
manner_of name.Min = manner.Plain
manner_of name.Max = manner.Plain
manner_of name.Mod = manner.Plain
manner_of name.Rem = manner.Plain
manner_of name.Char = manner.Plain
manner_of name.Rank = manner.Plain
manner_of name.Isochar = manner.Plain
manner_of name.Isorank = manner.Plain
manner_of name.Digit = manner.Plain
manner_of name.Letter = manner.Plain
manner_of name.TextLength = manner.Scan
manner_of name.TextPos = manner.Scan
manner_of name.TextMore = manner.Scan
manner_of name.TextGetchar = manner.Scan
manner_of name.TextPutchar = manner.Scan
manner_of name.TextSetpos = manner.Scan
manner_of name.Blanks = manner.Whole
manner_of name.Copy = manner.Whole
manner_of name.Upcase = manner.Whole
manner_of name.Lowcase = manner.Whole
manner_of name.TextConstant = manner.Whole
manner_of name.TextStart = manner.Whole
manner_of name.TextMain = manner.Whole
manner_of name.TextSub = manner.Whole
manner_of name.TextStrip = manner.Whole
manner_of name.TextGetint = manner.Whole
manner_of name.TextPutint = manner.Whole
manner_of _ = manner.Ports

-- a function of numbers or of a character alone
abbrev pub OnNumbers : Function → Type 0
OnNumbers (of_integer f) = Unit {0}
OnNumbers (of_integers f) = Unit {0}
OnNumbers (of_character f) = Unit {0}
OnNumbers _ = ⊥

-- a function of a text, and of one number or character at most
abbrev pub OnText : Function → Type 0
OnText (of_text f) = Unit {0}
OnText (of_text_and_integer f) = Unit {0}
OnText (of_text_and_character f) = Unit {0}
OnText _ = ⊥

-- no end has failed
abbrev pub QuietPerformed : Performed → Type 0
QuietPerformed performed.WriteFault = ⊥
QuietPerformed performed.InputFault = ⊥
QuietPerformed _ = Unit {0}
