use Rattle.std.proofs.Common.{refl, sym, ◌∙◌}
use Rattle.object_machine.proofs.Fitted.{actuals_done, formals_done, one_fits, one_misfits}
use Rattle.object_machine.proofs.fitting.all_fit.Goals as goal

pub loop-at-init : goal.loop-at-init
loop-at-init c code e = refl

pub returns-then-at-actuals : goal.returns-then-at-actuals
returns-then-at-actuals c = record {
  row = λ code e.
      let i = c.loop-at.at in
      let past = c.if-at-actuals.true in
      actuals_done code c.args.formals.now c.args.actuals.now i past ∙ sym (c.loop-at.invariant code e);
}

pub returns-then-not-fits : goal.returns-then-not-fits
returns-then-not-fits c = record {
  row = λ code e.
      let i = c.loop-at.at in
      let within = c.if-at-actuals.false in
      one_misfits code c.args.formals.now c.args.actuals.now i _ _ c.loop-at-test.true within (sym (c.fits.ensures.row code e) ∙ c.if-not-fits.true) ∙ sym (c.loop-at.invariant code e);
}

pub loop-at-preserved : goal.loop-at-preserved
loop-at-preserved c code e =
    c.loop-at.invariant code e ∙ one_fits code c.args.formals.now c.args.actuals.now c.loop-at.at _ _ c.loop-at-test.true c.if-at-actuals.false (sym (c.fits.ensures.row code e) ∙ c.if-not-fits.false)

pub returns : goal.returns
returns c = record { row = λ code e. formals_done code c.args.formals.now c.args.actuals.now c.loop-at.at c.loop-at-test.false ∙ sym (c.loop-at.invariant code e) }
