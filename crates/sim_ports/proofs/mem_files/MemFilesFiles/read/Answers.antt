use Rattle.std.proofs.Common.{◌≡◌, map, arith}
use Rattle.sim_ports.specs.Memory.{plain, left_of}
use Rattle.sim_ports.specs.Named.{selected_of}
use Rattle.sim_ports.proofs.FileLemmas.{open_read}
use Rattle.sim_ports.proofs.mem_files.MemFilesFiles.read.Goals as goal

pub returns-clause-bytes : goal.returns-clause-bytes
returns-clause-bytes c =
    let files = map plain c.self.inside.files.items in
    let selected = c.self.inside.selected in
    let is_open = c.self.inside.is_open in
    let place = c.self.inside.place in
    let chosen : c.args.self.now.selected ≡ selected_of selected is_open = cc in
    let left : c.args.self.now.left ≡ left_of files selected is_open place = cc in
    let done = open_read files selected is_open c.copy_front-count.new.into c.rest_of-rest.result.now place c.most.result c.copy_front-count.result
    (rw chosen at c.requires)
    (rw c.deref.ensures.value at c.rest_of-rest.ensures.same)
    (omega arith)
    c.most.ensures.some
    c.copy_front-count.ensures.same in
    (rw left done.consumes, done.ends)
