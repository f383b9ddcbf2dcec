use Rattle.std.proofs.Common.{ap, ◌∙◌, ◌∷◌, []}
use Rattle.std.specs.Prelude.{Some}
use Rattle.sim_values.specs.declared.standard.Standard.TheVariants as name
use Rattle.standard_calls.specs.Performed.{store_of}
use Rattle.sim_values.specs.Plain.{Character, Text}
use Rattle.sim_values.specs.Store.{moves, valued}
use Rattle.sim_values.specs.Texts.{getchar}
use Rattle.standard_calls.proofs.Effects.{does_textgetchar}
use Rattle.standard_calls.proofs.texts.getchar.Goals as goal

pub returns-clause-came : goal.returns-clause-came
returns-clause-came c = λ budget p is.
    c.moved_character.ensures.came budget name.TextGetchar (Text c.args.text ∷ []) p c.args.texts.now (getchar c.args.texts.now c.args.text) c.getchar-answer.ensures.step
    (λ written. does_textgetchar (store_of p written) c.args.text ∙ ap (λ f. Some (moves (valued Character) (getchar f c.args.text) (store_of p written))) is)
