use Rattle.std.proofs.Common.{◌≡◌, Some, string_bytes, sym}
use Rattle.sim_ports.specs.Memory.{kept_named}
use Rattle.sim_ports.proofs.FileLemmas.{bytes_named_plain, rest_of_found}
use Rattle.sim_ports.proofs.mem_files.rest_of.Goals as goal

pub returns-clause-same : goal.returns-clause-same
returns-clause-same c =
    let bytes = c.in-Some-find_file.bytes.now in
    let name : c.as_str.result.now ≡ string_bytes c.in-Some.name = cc in
    let given : Some bytes ≡ kept_named c.args.files.now c.as_str.result.now = c.in-Some-find_file.ensures in
    let found : kept_named c.args.files.now (string_bytes c.in-Some.name) ≡ Some bytes = sym (rw name at given) in
    rw (c.in-Some.is, c.if-is_open.true, bytes_named_plain) (rest_of_found _ bytes c.args.place c.min.result found c.min.ensures)
