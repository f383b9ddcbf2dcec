use Rattle.object_machine.proofs.ClassRows.{is_variable, no_variable}
use Rattle.object_machine.proofs.placing.is_image.Goals as goal

pub returns-in-Image-clause-yes : goal.returns-in-Image-clause-yes
returns-in-Image-clause-yes c e = no_variable c.args.slot c.in-Image.is

pub returns-in_default-clause-no : goal.returns-in_default-clause-no
returns-in_default-clause-no c e = is_variable c.args.slot c.in_default.not-Image
