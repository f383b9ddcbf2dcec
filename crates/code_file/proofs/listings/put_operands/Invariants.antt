use Rattle.std.proofs.Common.{◌≡◌, ◌++◌, take}
use Rattle.std.specs.List.{flat_map}
use Rattle.code_file.specs.Listing.{listed_operand}
use Rattle.code_file.proofs.listings.put_operands.Given as goal

abbrev pub invariant-loop-operand : goal.invariant-loop-operand
invariant-loop-operand l = l.out.items ≡ l.fn.out.items ++ flat_map listed_operand (take l.operand-index l.operands)
