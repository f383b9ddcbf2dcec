use Rattle.std.proofs.Common.{take, map, ◌≡◌, refl, arith}
use Rattle.std.proofs.lemmas.List.{take_all}
use Rattle.sim_ports.specs.Calls.{fresh_calls}
use Rattle.sim_ports.specs.Memory.{plain}
use Rattle.sim_ports.proofs.FileLemmas.{copies_more}
use Rattle.sim_ports.proofs.mem_files.MemFiles.new.Goals as goal

pub loop-name-preserved : goal.loop-name-preserved
loop-name-preserved c =
    let same : plain (c.in_ok-clone.field-0, c.in_ok-from_slice.field-0) ≡ plain c.loop-name-item.result = cc (c.in_ok-clone.ensures.cases, c.in_ok-from_slice.ensures.items, c.deref.ensures.value) in
    copies_more plain _ _ _ c.loop-name.name-index _ _ c.loop-name.invariant (omega arith) c.loop-name-item.is same c.in_ok-push.ensures.items

pub returns : goal.returns
returns c =
    let whole : take c.loop-name.name-index c.args.files.now ≡ c.args.files.now = take_all c.loop-name.name-index c.args.files.now (omega arith) in
    let all : map plain c.loop-name.copies.items ≡ map plain c.args.files.now = rw whole at c.loop-name.invariant in
    let calls : c.in_ok-new.field-0 ≡ fresh_calls c.args.failing.now = c.in_ok-new.ensures.fresh in
    record { fresh = rw (all, calls) refl }
