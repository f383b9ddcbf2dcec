use Rattle.std.proofs.Common.{◌∙◌, ap, sym}
use Rattle.sim_code.specs.Classes.{is_marked, levels}
use Rattle.object_machine.specs.Enrolling.{any_level, linkage_from}
use Rattle.object_machine.proofs.LevelMarks.{linkage_asked}
use Rattle.object_machine.proofs.marks.linkage_of_class.Goals as goal

pub returns : goal.returns
returns c = record {
  row = λ code eb ec.
      c.kind_by.ensures ∙ ap (λ q. linkage_from q c.has_mark-linkage.result) (c.has_mark-head.ensures.row code eb ec)
      ∙ ap (λ q. linkage_from (any_level (is_marked code 3) (levels code c.args.class)) q) (c.has_mark-linkage.ensures.row code eb ec) ∙ sym (linkage_asked code (levels code c.args.class));
}
