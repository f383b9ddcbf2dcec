-- A source whose tables are those of its program, complete with the classes of prefixes, of references and of connections, and whose declarations and
-- prefixes break no rule.
use Rattle.std.specs.Prelude.{◌≡◌, None}
use Rattle.sim_scope.specs.Declare.{declared_by}
use Rattle.sim_scope.specs.Source.{Source}
use Rattle.sim_static.specs.Check.{completed}
use Rattle.prefix_bind.specs.Prefixes.{least_of, prefix_faults, prefixed}

pub record TablesOf (s : Source) : Type 0 where
  pub tables : s.tables ≡ completed (declared_by s.program).tables s.program
  pub unbroken : (declared_by s.program).least ≡ None
  pub prefixes : least_of (prefix_faults (prefixed (declared_by s.program).tables)) ≡ None
