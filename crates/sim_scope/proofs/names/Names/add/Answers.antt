use Rattle.std.proofs.Common.{sym, ◌∙◌, ap, not}
use Rattle.std.specs.Str.{bytes_eq}
use Rattle.sim_scope.proofs.Mapped.{list_any-map}
use Rattle.sim_scope.proofs.names.Names.add.Goals as goal

pub returns-clause-is_new : goal.returns-clause-is_new
returns-clause-is_new c = rw (← c.self.view_is) (c.in_ok-insert.ensures.added ∙ ap not (sym (list_any-map (λ name. name.items) (bytes_eq c.args.name.items) c.self.inside.set.keys)))
