-- Standard names that have no row have no rule, whatever the state.
use Rattle.std.proofs.Common.{◌≡◌, ℕ, Bool, true, false, List, refl}
use Rattle.sim_base.specs.declared.limits.Limits.{Limits}
use Rattle.sim_values.specs.declared.standard.Standard.{Standard}
use Rattle.sim_values.specs.declared.standard.Standard.TheVariants as name
use Rattle.sim_values.specs.Standard.{row_of, standard_effect}
use Rattle.sim_code.specs.Code.{CodeOf}
use Rattle.sim_code.specs.Events.{choosing, having, no_rule, performing, pop_operands, when}
use Rattle.sim_code.specs.Machine.{Activation, Frames, Machine}
use Rattle.sim_code.specs.Outcome.{World}
use Rattle.sim_code.specs.Rows.{standard_row}
use Rattle.sim_code.specs.Running.{name_runs}

no_rule_either : (b : Bool) (o : World) → when b o (no_rule o) ≡ no_rule {S = Machine} o
unfolding when
no_rule_either true o = refl
no_rule_either false o = refl

differ : {A : Type 0} → true ≡ false → A
differ h = cc h

module _ (code : CodeOf) (l : Limits) (o : World) (m : Frames) (a : Activation) (below : List Activation) (line : ℕ) where
  pub without_row : (n : Standard) → name_runs n ≡ false → standard_row code l o m a below line n ≡ no_rule o
  unfolding choosing performing pop_operands having standard_effect row_of no_rule
  without_row name.Abs h = differ h
  without_row name.Sign h = differ h
  without_row name.Min h = differ h
  without_row name.Max h = differ h
  without_row name.Mod h = differ h
  without_row name.Rem h = differ h
  without_row name.Maxint h = differ h
  without_row name.Minint h = differ h
  without_row name.Char h = differ h
  without_row name.Rank h = differ h
  without_row name.Isochar h = differ h
  without_row name.Isorank h = differ h
  without_row name.Digit h = differ h
  without_row name.Letter h = differ h
  without_row name.Blanks h = differ h
  without_row name.Copy h = differ h
  without_row name.Upcase h = differ h
  without_row name.Lowcase h = differ h
  without_row name.TextConstant h = differ h
  without_row name.TextStart h = differ h
  without_row name.TextLength h = differ h
  without_row name.TextPos h = differ h
  without_row name.TextMore h = differ h
  without_row name.TextMain h = differ h
  without_row name.TextSetpos h = differ h
  without_row name.TextGetchar h = differ h
  without_row name.TextPutchar h = differ h
  without_row name.TextSub h = differ h
  without_row name.TextStrip h = differ h
  without_row name.TextGetint h = differ h
  without_row name.TextPutint h = differ h
  without_row name.Inimage h = differ h
  without_row name.Inchar h = differ h
  without_row name.Inint h = differ h
  without_row name.Intext h = differ h
  without_row name.Lastitem h = differ h
  without_row name.Endfile h = differ h
  without_row name.Outimage h = differ h
  without_row name.Outchar h = differ h
  without_row name.Outtext h = differ h
  without_row name.Outint h = differ h
  without_row name.Image h = no_rule_either _ o
  without_row name.Pos h = no_rule_either _ o
  without_row name.Setpos h = no_rule_either _ o
  without_row name.More h = no_rule_either _ o
  without_row name.Length h = no_rule_either _ o
  without_row name.Detach h = no_rule_either _ o
  without_row name.Call h = no_rule_either _ o
  without_row name.Resume h = no_rule_either _ o
  without_row name.Suc h = differ h
  without_row name.Pred h = differ h
  without_row name.Prev h = differ h
  without_row name.Out h = differ h
  without_row name.Follow h = differ h
  without_row name.Precede h = differ h
  without_row name.Into h = differ h
  without_row name.First h = differ h
  without_row name.Last h = differ h
  without_row name.Empty h = differ h
  without_row name.Cardinal h = differ h
  without_row name.Clear h = differ h
  without_row name.Idle h = differ h
  without_row name.Terminated h = differ h
  without_row name.Evtime h = differ h
  without_row name.Nextev h = differ h
  without_row name.Time h = differ h
  without_row name.Current h = differ h
  without_row name.Main h = differ h
  without_row name.Hold h = differ h
  without_row name.Passivate h = differ h
  without_row name.Wait h = differ h
  without_row name.Cancel h = differ h
