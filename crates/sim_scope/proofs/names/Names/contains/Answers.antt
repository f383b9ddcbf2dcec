use Rattle.std.proofs.Common.{sym, ◌∙◌}
use Rattle.std.specs.Str.{bytes_eq}
use Rattle.sim_scope.proofs.Mapped.{list_any-map}
use Rattle.sim_scope.proofs.names.Names.contains.Goals as goal

pub returns : goal.returns
returns c = rw (← c.self.view_is) (c.contains.ensures ∙ sym (list_any-map (λ name. name.items) (bytes_eq c.args.name.now) c.self.inside.set.keys))
