use Rattle.notice_tree.proofs.TreeLemmas.{none_is_tree, none_is_empty}
use Rattle.notice_tree.proofs.tree.NoticeTree.new.Goals as goal

pub invariant_of-result : goal.invariant_of-result
invariant_of-result c = none_is_tree _ c.new.ensures.items

pub returns : goal.returns
returns c = none_is_empty _ c.new.ensures.items
