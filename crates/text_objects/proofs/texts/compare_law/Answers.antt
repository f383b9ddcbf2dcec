use Rattle.std.proofs.lemmas.Cmp.{nat_list_cmp_total}
use Rattle.text_objects.proofs.texts.compare_law.Goals as goal

pub returns : goal.returns
returns c = record { total = nat_list_cmp_total }
