use Rattle.std.proofs.Common.{sym, ◌∙◌}
use Rattle.object_machine.proofs.Fitted.{now_fit, now_misfit, other_number}
use Rattle.object_machine.proofs.fitting.fits_now.Goals as goal

pub returns-then-formals-actuals : goal.returns-then-formals-actuals
returns-then-formals-actuals c = record { row = λ code e. other_number code c.args.formals.now c.args.actuals.now c.if-formals-actuals.true }

pub returns-then-all_fit : goal.returns-then-all_fit
returns-then-all_fit c = record { row = λ code e. now_fit code c.args.formals.now c.args.actuals.now c.if-formals-actuals.false (sym (c.all_fit.ensures.row code e) ∙ c.if-all_fit.true) }

pub returns : goal.returns
returns c = record { row = λ code e. now_misfit code c.args.formals.now c.args.actuals.now c.if-formals-actuals.false (sym (c.all_fit.ensures.row code e) ∙ c.if-all_fit.false) }
