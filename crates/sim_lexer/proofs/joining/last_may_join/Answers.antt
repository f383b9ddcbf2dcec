use Rattle.std.proofs.Common.{ap, sym, ◌∙◌, option_copied}
use Rattle.sim_lexer.proofs.JoiningLemmas.{last_of}
use Rattle.sim_lexer.proofs.joining.last_may_join.Goals as goal

pub returns-in-Some : goal.returns-in-Some
returns-in-Some c =
    record {
      answer = c.may_join.ensures.answer ∙ last_of c.args.tokens.now c.in-Some.last.now (sym (ap option_copied c.in-Some.is) ∙ c.last.ensures.value);
    }
