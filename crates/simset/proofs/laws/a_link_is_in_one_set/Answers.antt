use Rattle.std.proofs.Common.{subst, sym}
use Rattle.std.specs.Prelude.{Some}
use Rattle.simset.specs.Sets.{IsProper}
use Rattle.simset.proofs.Stepwise.{follow-is, into-is, precede-is}
use Rattle.simset.proofs.Keeps.{proper-out}
use Rattle.simset.proofs.Placing.{proper-follow, proper-precede, proper-into, proper-clear}
use Rattle.simset.proofs.laws.a_link_is_in_one_set.Goals as goal

pub returns-clause-out : goal.returns-clause-out
returns-clause-out c = proper-out

pub returns-clause-follow : goal.returns-clause-follow
returns-clause-follow c = λ sets x p proper link. subst IsProper (sym (follow-is sets x p)) (proper-follow sets x p proper link)

pub returns-clause-precede : goal.returns-clause-precede
returns-clause-precede c = λ sets x p proper link. subst IsProper (sym (precede-is sets x p)) (proper-precede sets x p proper link)

pub returns-clause-into : goal.returns-clause-into
returns-clause-into c = λ sets x h proper link head. subst IsProper (sym (into-is sets x (Some h))) (proper-into sets x h proper link head)

pub returns-clause-clear : goal.returns-clause-clear
returns-clause-clear c = proper-clear
