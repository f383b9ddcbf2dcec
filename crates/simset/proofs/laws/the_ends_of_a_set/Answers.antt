use Rattle.std.proofs.Common.{ap, ◌∙◌}
use Rattle.std.specs.Prelude.{Some}
use Rattle.simset.specs.Sets.{pred_of, suc_of}
use Rattle.simset.proofs.Stepwise.{follow-is, into-is, precede-is}
use Rattle.simset.proofs.Placing.{follow-first, precede-last, into-last, cardinal_of-clear}
use Rattle.simset.proofs.laws.the_ends_of_a_set.Goals as goal

pub returns-clause-first : goal.returns-clause-first
returns-clause-first c = λ sets x h head. ap (λ s. suc_of s h) (follow-is sets x (Some h)) ∙ follow-first sets x h head

pub returns-clause-last : goal.returns-clause-last
returns-clause-last c = λ sets x h head. ap (λ s. pred_of s h) (precede-is sets x (Some h)) ∙ precede-last sets x h head

pub returns-clause-into : goal.returns-clause-into
returns-clause-into c = λ sets x h head. ap (λ s. pred_of s h) (into-is sets x (Some h)) ∙ into-last sets x h head

pub returns-clause-clear : goal.returns-clause-clear
returns-clause-clear c = cardinal_of-clear
