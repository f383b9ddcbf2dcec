use Rattle.sim_scope.specs.Source.{source_of}
use Rattle.sim_driver.proofs.Typed.{has_types}
use Rattle.sim_driver.proofs.coding.code_file_of.Goals as goal

pub write_code-requires : goal.write_code-requires
write_code-requires c = has_types (source_of c.args.bound.now) c.in-Ok.code c.in-Ok.ensures.stands
