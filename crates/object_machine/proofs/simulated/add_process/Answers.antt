use Rattle.std.proofs.Common.{rules, ◌≡◌, length, refl, arith}
use Rattle.object_machine.specs.declared.simulated.Simulated.{Simulated}
use Rattle.object_machine.proofs.Simulations.{process_more}
use Rattle.object_machine.proofs.simulated.add_process.Goals as goal

pub returns-clause-keeps : goal.returns-clause-keeps
returns-clause-keeps c frames m e all less here =
    let s = c.args.simulated.now in
    let s2 : Simulated = record { block = s.block; processes = c.push.new.self; ended = c.push-2.new.self; sim = c.reserve.new.self } in
    let count : c.len-count.result ≡ length s.processes.items = search rules in
    let room = c.in_ok-reserve.ensures.reserved in
    process_more frames m s s2 c.args.object refl (search rules) (search rules) c.in_ok-reserve.ensures.stays (omega (arith, count, room)) e all less here
