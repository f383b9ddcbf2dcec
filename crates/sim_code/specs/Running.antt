-- What of the table the machine that is built does: all but the names of components and those of both images, which have no row.
use Rattle.std.specs.Prelude.{◌≡◌, ℕ, Bool, true, false, List, slice_get, Option, Some, None}
use Rattle.sim_values.specs.declared.standard.Standard.{Standard}
use Rattle.sim_values.specs.declared.standard.Standard.TheVariants as name
use Rattle.sim_code.specs.declared.instr.Instr.{Instr}
use Rattle.sim_code.specs.declared.instr.Instr.TheVariants as i
use Rattle.sim_code.specs.declared.instr.Lined.{Lined}
use Rattle.sim_code.specs.Rows.{standard_of}

-- the names of numbers, characters, texts, the input, the output, sets and simulations
abbrev pub name_runs : Standard → Bool
name_runs name.Abs = true
name_runs name.Sign = true
name_runs name.Min = true
name_runs name.Max = true
name_runs name.Mod = true
name_runs name.Rem = true
name_runs name.Maxint = true
name_runs name.Minint = true
name_runs name.Char = true
name_runs name.Rank = true
name_runs name.Isochar = true
name_runs name.Isorank = true
name_runs name.Digit = true
name_runs name.Letter = true
name_runs name.Blanks = true
name_runs name.Copy = true
name_runs name.Upcase = true
name_runs name.Lowcase = true
name_runs name.TextConstant = true
name_runs name.TextStart = true
name_runs name.TextLength = true
name_runs name.TextPos = true
name_runs name.TextMore = true
name_runs name.TextMain = true
name_runs name.TextSetpos = true
name_runs name.TextGetchar = true
name_runs name.TextPutchar = true
name_runs name.TextSub = true
name_runs name.TextStrip = true
name_runs name.TextGetint = true
name_runs name.TextPutint = true
name_runs name.Inimage = true
name_runs name.Inchar = true
name_runs name.Inint = true
name_runs name.Intext = true
name_runs name.Lastitem = true
name_runs name.Endfile = true
name_runs name.Outimage = true
name_runs name.Outchar = true
name_runs name.Outtext = true
name_runs name.Outint = true
name_runs name.Suc = true
name_runs name.Pred = true
name_runs name.Prev = true
name_runs name.Out = true
name_runs name.Follow = true
name_runs name.Precede = true
name_runs name.Into = true
name_runs name.First = true
name_runs name.Last = true
name_runs name.Empty = true
name_runs name.Cardinal = true
name_runs name.Clear = true
name_runs name.Idle = true
name_runs name.Terminated = true
name_runs name.Evtime = true
name_runs name.Nextev = true
name_runs name.Time = true
name_runs name.Current = true
name_runs name.Main = true
name_runs name.Hold = true
name_runs name.Passivate = true
name_runs name.Wait = true
name_runs name.Cancel = true
name_runs _ = false

abbrev pub standard_runs : Option Standard → Bool
standard_runs None = true
standard_runs (Some name) = name_runs name

abbrev pub runs : Instr → Bool
runs (i.Std z) = standard_runs (standard_of z)
runs _ = true

-- each instruction of a list is one that the machine does
unfoldable pub AllRun : List Lined → Type 0
AllRun instrs = (k : ℕ) (x : Lined) → slice_get instrs k ≡ Some x → runs x.instr ≡ true
