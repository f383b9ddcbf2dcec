use Rattle.std.proofs.Common.{◌≡◌, take}
use Rattle.code_file.specs.Listing.{listing_from}
use Rattle.code_file.proofs.listings.listing.Given as goal

abbrev pub invariant-loop-index : goal.invariant-loop-index
invariant-loop-index l = l.out.items ≡ listing_from 0 (take l.index l.code.instrs)
