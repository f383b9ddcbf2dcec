use Rattle.std.proofs.Common.{sym}
use Rattle.inspect_types.proofs.Meetings.{looked}
use Rattle.inspect_types.proofs.connecting.Connecting.look.Goals as goal

pub returns : goal.returns
returns c =
    looked c.args.self.now c.self.inside.scopes c.self.inside.next c.class_of_type-self-inside.result c.self.inside.found c.operand-object.new.found c.args.object.now c.operand-object.result
    (sym c.self.view_is) c.operand-object.ensures c.class_of_type-self-inside.ensures
