use Rattle.sim_driver.proofs.Known.{checks_as, refused_checked}
use Rattle.sim_driver.proofs.compiling.bind_checked.Goals as goal

pub returns-in-Ok : goal.returns-in-Ok
returns-in-Ok c = checks_as c.args.tokens.now c.args.tree c.in-Ok.bound c.in-Ok.ensures.answers.0 c.in-Ok.ensures.answers.1

pub returns-in-Err-Broken : goal.returns-in-Err-Broken
returns-in-Err-Broken c =
    rw c.line_at.ensures (refused_checked c.args.tokens.now c.args.tree c.in-Err-Broken.rule c.in-Err-Broken.token (rw c.in-Err-Broken.field-0-is at c.in-Err-Broken.ensures.answers))
