-- Eight worked codes stand for their programs.
use Rattle.sim_relate.specs.Examples.{WorkedCodes}
use Rattle.sim_relate.proofs.ExampleLists.{for_list_compiled}
use Rattle.sim_relate.proofs.ExampleProcedure.{factorial_20_compiled}
use Rattle.sim_relate.proofs.ExampleBlock.{sub_block_compiled}
use Rattle.sim_relate.proofs.ExampleObjects.{objects_compiled}
use Rattle.sim_relate.proofs.ExamplePrefix.{prefixed_compiled}
use Rattle.sim_relate.proofs.ExampleSets.{own_set_compiled}
use Rattle.sim_relate.proofs.ExampleNames.{handed_on_compiled}
use Rattle.sim_relate.proofs.ExampleTexts.{parts_compiled}

pub worked_codes : WorkedCodes
worked_codes = record { for_list_stands = for_list_compiled; factorial_20_stands = factorial_20_compiled; sub_block_stands = sub_block_compiled; parts_stands = parts_compiled; objects_stand = objects_compiled; prefixed_stands = prefixed_compiled; own_set_stands = own_set_compiled; handed_on_stands = handed_on_compiled }
