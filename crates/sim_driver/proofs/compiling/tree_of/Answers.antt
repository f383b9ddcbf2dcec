use Rattle.sim_driver.proofs.Known.{refused_tokens}
use Rattle.sim_driver.proofs.compiling.tree_of.Goals as goal

pub returns-in-Err-Broken : goal.returns-in-Err-Broken
returns-in-Err-Broken c command =
    rw c.line_at.ensures (refused_tokens c.args.tokens.now c.in-Err-Broken.rule c.in-Err-Broken.token (rw c.in-Err-Broken.field-0-is at c.in-Err-Broken.ensures.answers) command)
