use Rattle.std.proofs.Common.{ap, ◌∙◌}
use Rattle.std.specs.Prelude.{Some}
use Rattle.simset.specs.Sets.{pred_of, suc_of}
use Rattle.simset.proofs.Placing.{suc_of-follow, pred_of-follow, pred_of-precede, suc_of-precede}
use Rattle.simset.proofs.Stepwise.{follow-is, precede-is}
use Rattle.simset.proofs.laws.a_link_beside_a_link_is_its_neighbour.Goals as goal

pub returns-clause-behind : goal.returns-clause-behind
returns-clause-behind c = λ sets x p proper link other some. ap (λ s. suc_of s p) (follow-is sets x (Some p)) ∙ suc_of-follow sets x p proper link other some

pub returns-clause-in_front : goal.returns-clause-in_front
returns-clause-in_front c = λ sets x p proper link other some. ap (λ s. pred_of s x) (follow-is sets x (Some p)) ∙ pred_of-follow sets x p proper link other some

pub returns-clause-before : goal.returns-clause-before
returns-clause-before c = λ sets x p proper link other some. ap (λ s. pred_of s p) (precede-is sets x (Some p)) ∙ pred_of-precede sets x p proper link other some

pub returns-clause-after : goal.returns-clause-after
returns-clause-after c = λ sets x p proper link other some. ap (λ s. suc_of s x) (precede-is sets x (Some p)) ∙ suc_of-precede sets x p proper link other some
