use Rattle.std.proofs.Common.{ap, ◌∙◌}
use Rattle.std.specs.Prelude.{slice_get}
use Rattle.sim_scope.specs.Access.{joined}
use Rattle.text_tables.proofs.ByTokens as b
use Rattle.text_tables.proofs.by_token.note.Goals as goal

pub returns-in-Some : goal.returns-in-Some
returns-in-Some g c = b.note_earlier c.args.table.now.items c.reach.new.table.items c.args.token.0 _ c.args.noted c.in-Some.field-0 c.entry.result c.in_ok-reach.ensures (c.entry.ensures ∙ ap (λ z. joined (slice_get z c.args.token.0)) c.deref.ensures.value) c.in-Some.is
