use Rattle.std.proofs.Common.{◌≡◌, take, map}
use Rattle.sim_ports.specs.Memory.{plain}
use Rattle.sim_ports.proofs.mem_files.MemFiles.new.Given as goal

abbrev pub invariant-loop-name : goal.invariant-loop-name
invariant-loop-name l = map plain l.copies.items ≡ map plain (take l.name-index l.files)
