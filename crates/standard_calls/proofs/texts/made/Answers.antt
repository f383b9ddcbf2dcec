use Rattle.std.proofs.Common.{◌≡◌, ◌+◌, ◌≤◌, sym, subst, refl, ap, arith}
use Rattle.sim_code.specs.Machine.{plain}
use Rattle.standard_calls.specs.Calls.{CameAs}
use Rattle.standard_calls.specs.Performed.{parts}
use Rattle.standard_calls.proofs.Making.{made_within, text_made, text_unmade}
use Rattle.standard_calls.proofs.texts.made.Goals as goal

pub returns-in-Ok-clause-came : goal.returns-in-Ok-clause-came
returns-in-Ok-clause-came c = λ n vs old new making input source image sink m e.
    let t = c.in-Ok.text in
    let fits : c.args.words.now + c.args.taken ≤ c.args.budget = made_within c.args.taken c.args.budget c.args.words.now old new making c.args.answer t c.requires.within m c.in-Ok.is in
    let sum : c.saturating_add.result ≡ c.args.words.now + c.args.taken = let w = c.saturating_add.ensures in let b = c.ranges.budget.fits in omega (arith, w, b, fits) in
    subst (λ z. CameAs z c.args.budget n vs (parts old input source image sink c.args.words.now) (parts new input source image sink c.saturating_add.result)) (sym c.value.ensures)
    (text_made c.args.taken c.args.budget c.args.words.now c.saturating_add.result n vs old new making input source image sink c.args.answer c.requires.within m e t c.text.result c.in-Ok.is sum (ap plain c.text.ensures.value))

pub returns-in-Err-clause-came : goal.returns-in-Err-clause-came
returns-in-Err-clause-came c = λ n vs old new making input source image sink m e.
    subst (λ z. CameAs z c.args.budget n vs (parts old input source image sink c.args.words.now) (parts new input source image sink c.args.words.now)) (sym c.unmade.ensures.came)
    (text_unmade c.args.taken c.args.budget c.args.words.now c.args.words.now n vs old new making input source image sink c.args.answer c.requires.within m e c.in-Err.fault c.in-Err.is refl)
