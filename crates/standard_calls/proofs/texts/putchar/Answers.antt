use Rattle.std.proofs.Common.{ap, ◌∙◌}
use Rattle.std.specs.Prelude.{Some}
use Rattle.sim_values.specs.declared.standard.Standard.TheVariants as name
use Rattle.sim_values.specs.Store.{moves, unvalued}
use Rattle.sim_values.specs.Texts.{putchar}
use Rattle.standard_calls.specs.Performed.{store_of}
use Rattle.sim_values.specs.Plain.{Character, Text}
use Rattle.std.specs.Prelude.{◌∷◌, []}
use Rattle.standard_calls.proofs.Effects.{does_textputchar}
use Rattle.standard_calls.proofs.texts.putchar.Goals as goal

pub returns-clause-came : goal.returns-clause-came
returns-clause-came c = λ budget p is.
    c.moved.ensures.came budget name.TextPutchar (Character c.args.c ∷ Text c.args.text ∷ []) p c.putchar-answer.new.self (putchar c.args.texts.now c.args.text c.args.c) c.putchar-answer.ensures.step
    (λ written. does_textputchar (store_of p written) c.args.text c.args.c ∙ ap (λ f. Some (moves unvalued (putchar f c.args.text c.args.c) (store_of p written))) is)
