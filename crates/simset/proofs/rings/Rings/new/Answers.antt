use Rattle.simset.specs.Nodes.{sets_of}
use Rattle.simset.proofs.Keeps.{kept-empty, kept-sets_of}
use Rattle.simset.proofs.Walks.{sets_of-kept}
use Rattle.std.proofs.Common.{[], ◌∙◌, ap}
use Rattle.simset.proofs.rings.Rings.new.Goals as goal

pub invariant_of-result : goal.invariant_of-result
invariant_of-result c = rw c.new.ensures.items (kept-sets_of [] [] kept-empty)

pub returns : goal.returns
returns c = record { sets = ap sets_of c.new.ensures.items ∙ sets_of-kept [] [] kept-empty }
