use Rattle.std.proofs.Common.{◌≡◌, drop, length, arith}
use Rattle.sim_ports.proofs.Transfers.{reads_next, reads_none}
use Rattle.sim_ports.proofs.mem_source.MemSourceSource.read.Goals as goal

pub returns-clause-bytes : goal.returns-clause-bytes
returns-clause-bytes c =
    let bytes = c.self.inside.bytes.items in
    let place = c.self.inside.place in
    let count = c.copy_front-count.result in
    let rest : c.rest.result.now ≡ drop place bytes = cc in
    let left : c.args.self.now.left ≡ drop place bytes = cc in (
      rw left (reads_next bytes c.copy_front-count.new.into place count (rw rest at c.copy_front-count.ensures.same)),
      λ none room. reads_none bytes place (length c.args.into.now) c.most.result count (rw rest at c.copy_front-count.ensures.count) (omega arith) c.most.ensures.some none,
    )
