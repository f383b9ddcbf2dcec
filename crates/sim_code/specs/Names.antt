-- The standard names in the order of their numbers.
use Rattle.std.specs.Prelude.{List, [], ◌∷◌}
use Rattle.sim_values.specs.declared.standard.Standard.{Standard}
use Rattle.sim_values.specs.declared.standard.Standard.TheVariants as name

abbrev pub standard_names : List Standard
standard_names =
    name.Abs ∷ name.Sign ∷ name.Min ∷ name.Max ∷ name.Mod ∷ name.Rem ∷ name.Maxint ∷ name.Minint ∷ name.Char ∷ name.Rank ∷ name.Isochar ∷
    name.Isorank ∷ name.Digit ∷ name.Letter ∷ name.Blanks ∷ name.Copy ∷ name.Upcase ∷ name.Lowcase ∷ name.TextConstant ∷ name.TextStart ∷
    name.TextLength ∷ name.TextPos ∷ name.TextMore ∷ name.TextMain ∷ name.TextSetpos ∷ name.TextGetchar ∷ name.TextPutchar ∷ name.TextSub ∷
    name.TextStrip ∷ name.TextGetint ∷ name.TextPutint ∷ name.Inimage ∷ name.Inchar ∷ name.Inint ∷ name.Intext ∷ name.Lastitem ∷
    name.Endfile ∷ name.Outimage ∷ name.Outchar ∷ name.Outtext ∷ name.Outint ∷ name.Image ∷ name.Pos ∷ name.Setpos ∷ name.More ∷
    name.Length ∷ name.Detach ∷ name.Call ∷ name.Resume ∷ name.Suc ∷ name.Pred ∷ name.Prev ∷ name.Out ∷ name.Follow ∷ name.Precede ∷
    name.Into ∷ name.First ∷ name.Last ∷ name.Empty ∷ name.Cardinal ∷ name.Clear ∷ name.Idle ∷ name.Terminated ∷ name.Evtime ∷
    name.Nextev ∷ name.Time ∷ name.Current ∷ name.Main ∷ name.Hold ∷ name.Passivate ∷ name.Wait ∷ name.Cancel ∷ []
