use Rattle.std.proofs.Common.{◌≡◌, false, arith, ◌∙◌}
use Rattle.sim_lexer.specs.Scanning.{last_may_join}
use Rattle.sim_lexer.proofs.JoiningLemmas.{plain_behind}
use Rattle.sim_lexer.proofs.joining.add.Goals as goal

pub returns-in_ok-push : goal.returns-in_ok-push
returns-in_ok-push c =
    let other : last_may_join c.args.tokens.now.items ≡ false =
    grind (arith, c.deref.ensures.value, c.last_may_join.ensures.answer, c.if-last_may_join.false) in
    record { tokens = c.in_ok-push.ensures.items ∙ plain_behind c.args.tokens.now.items c.args.next other }
