use Rattle.std.proofs.Common.{◌∙◌}
use Rattle.std.specs.Prelude.{Some}
use Rattle.simset.proofs.Stepwise.{follow-is, precede-is}
use Rattle.simset.proofs.Effects.{times_in-out}
use Rattle.simset.proofs.Placing.{follow-itself, precede-itself, follow-outside, precede-outside}
use Rattle.simset.proofs.laws.beside_no_place_a_link_stays_outside.Goals as goal

pub returns-clause-out : goal.returns-clause-out
returns-clause-out c = times_in-out

pub returns-clause-follow_itself : goal.returns-clause-follow_itself
returns-clause-follow_itself c = λ sets x link. follow-is sets x (Some x) ∙ follow-itself sets x link

pub returns-clause-precede_itself : goal.returns-clause-precede_itself
returns-clause-precede_itself c = λ sets x link. precede-is sets x (Some x) ∙ precede-itself sets x link

pub returns-clause-follow_outside : goal.returns-clause-follow_outside
returns-clause-follow_outside c = λ sets x p link nowhere. follow-is sets x (Some p) ∙ follow-outside sets x p link nowhere

pub returns-clause-precede_outside : goal.returns-clause-precede_outside
returns-clause-precede_outside c = λ sets x p link nowhere. precede-is sets x (Some p) ∙ precede-outside sets x p link nowhere
