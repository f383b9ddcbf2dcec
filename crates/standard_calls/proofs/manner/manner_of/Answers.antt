use Rattle.std.proofs.Common.{sym, subst}
use Rattle.sim_values.specs.Standard.{row_of}
use Rattle.standard_calls.specs.Quiet.{OnNumbers, OnText}
use Rattle.standard_calls.proofs.manner.manner_of.Goals as goal

pub returns-in-Abs-clause-plain : goal.returns-in-Abs-clause-plain
unfolding row_of
returns-in-Abs-clause-plain c e = subst (λ n. OnNumbers (row_of n).function) (sym c.in-Abs.is) tt

pub returns-in-Sign-clause-plain : goal.returns-in-Sign-clause-plain
unfolding row_of
returns-in-Sign-clause-plain c e = subst (λ n. OnNumbers (row_of n).function) (sym c.in-Sign.is) tt

pub returns-in-Min-clause-plain : goal.returns-in-Min-clause-plain
unfolding row_of
returns-in-Min-clause-plain c e = subst (λ n. OnNumbers (row_of n).function) (sym c.in-Min.is) tt

pub returns-in-Max-clause-plain : goal.returns-in-Max-clause-plain
unfolding row_of
returns-in-Max-clause-plain c e = subst (λ n. OnNumbers (row_of n).function) (sym c.in-Max.is) tt

pub returns-in-Mod-clause-plain : goal.returns-in-Mod-clause-plain
unfolding row_of
returns-in-Mod-clause-plain c e = subst (λ n. OnNumbers (row_of n).function) (sym c.in-Mod.is) tt

pub returns-in-Rem-clause-plain : goal.returns-in-Rem-clause-plain
unfolding row_of
returns-in-Rem-clause-plain c e = subst (λ n. OnNumbers (row_of n).function) (sym c.in-Rem.is) tt

pub returns-in-Char-clause-plain : goal.returns-in-Char-clause-plain
unfolding row_of
returns-in-Char-clause-plain c e = subst (λ n. OnNumbers (row_of n).function) (sym c.in-Char.is) tt

pub returns-in-Rank-clause-plain : goal.returns-in-Rank-clause-plain
unfolding row_of
returns-in-Rank-clause-plain c e = subst (λ n. OnNumbers (row_of n).function) (sym c.in-Rank.is) tt

pub returns-in-Isochar-clause-plain : goal.returns-in-Isochar-clause-plain
unfolding row_of
returns-in-Isochar-clause-plain c e = subst (λ n. OnNumbers (row_of n).function) (sym c.in-Isochar.is) tt

pub returns-in-Isorank-clause-plain : goal.returns-in-Isorank-clause-plain
unfolding row_of
returns-in-Isorank-clause-plain c e = subst (λ n. OnNumbers (row_of n).function) (sym c.in-Isorank.is) tt

pub returns-in-Digit-clause-plain : goal.returns-in-Digit-clause-plain
unfolding row_of
returns-in-Digit-clause-plain c e = subst (λ n. OnNumbers (row_of n).function) (sym c.in-Digit.is) tt

pub returns-in-Letter-clause-plain : goal.returns-in-Letter-clause-plain
unfolding row_of
returns-in-Letter-clause-plain c e = subst (λ n. OnNumbers (row_of n).function) (sym c.in-Letter.is) tt

pub returns-in-TextLength-clause-scan : goal.returns-in-TextLength-clause-scan
unfolding row_of
returns-in-TextLength-clause-scan c e = subst (λ n. OnText (row_of n).function) (sym c.in-TextLength.is) tt

pub returns-in-TextPos-clause-scan : goal.returns-in-TextPos-clause-scan
unfolding row_of
returns-in-TextPos-clause-scan c e = subst (λ n. OnText (row_of n).function) (sym c.in-TextPos.is) tt

pub returns-in-TextMore-clause-scan : goal.returns-in-TextMore-clause-scan
unfolding row_of
returns-in-TextMore-clause-scan c e = subst (λ n. OnText (row_of n).function) (sym c.in-TextMore.is) tt

pub returns-in-TextGetchar-clause-scan : goal.returns-in-TextGetchar-clause-scan
unfolding row_of
returns-in-TextGetchar-clause-scan c e = subst (λ n. OnText (row_of n).function) (sym c.in-TextGetchar.is) tt

pub returns-in-TextPutchar-clause-scan : goal.returns-in-TextPutchar-clause-scan
unfolding row_of
returns-in-TextPutchar-clause-scan c e = subst (λ n. OnText (row_of n).function) (sym c.in-TextPutchar.is) tt

pub returns-in-TextSetpos-clause-scan : goal.returns-in-TextSetpos-clause-scan
unfolding row_of
returns-in-TextSetpos-clause-scan c e = subst (λ n. OnText (row_of n).function) (sym c.in-TextSetpos.is) tt
