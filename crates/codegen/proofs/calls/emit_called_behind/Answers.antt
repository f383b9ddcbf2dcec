use Rattle.codegen.proofs.TransferCalls as w
use Rattle.codegen.proofs.calls.emit_called_behind.Goals as goal

pub returns-in-Some : goal.returns-in-Some
returns-in-Some c =
    w.behind_transferred c.args.bound.now c.args.spot c.args.draft.now _ c.args.object c.args.name.now c.args.arguments.now c.denoted-denotation.result c.transfer_denoted.result c.in-Some.field-0 c.denoted-denotation.ensures c.transfer_denoted.ensures c.in-Some.is
    c.in_ok-emit_detach_behind.ensures
