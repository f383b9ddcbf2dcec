use Rattle.simset.proofs.Becomes.{precede-head, links_of-out, links_of-follow, links_of-precede, links_of-into, links_of-clear, follow-none, precede-none, into-none}
use Rattle.simset.proofs.laws.the_list_of_a_head_becomes.Goals as goal

pub returns-clause-out : goal.returns-clause-out
returns-clause-out c = links_of-out

pub returns-clause-follow : goal.returns-clause-follow
returns-clause-follow c = links_of-follow

pub returns-clause-precede : goal.returns-clause-precede
returns-clause-precede c = links_of-precede

pub returns-clause-into : goal.returns-clause-into
returns-clause-into c = links_of-into

pub returns-clause-clear : goal.returns-clause-clear
returns-clause-clear c = links_of-clear

pub returns-clause-follow_none : goal.returns-clause-follow_none
returns-clause-follow_none c = follow-none

pub returns-clause-precede_none : goal.returns-clause-precede_none
returns-clause-precede_none c = precede-none

pub returns-clause-into_none : goal.returns-clause-into_none
returns-clause-into_none c = into-none

pub returns-clause-before_a_head : goal.returns-clause-before_a_head
returns-clause-before_a_head c = precede-head
