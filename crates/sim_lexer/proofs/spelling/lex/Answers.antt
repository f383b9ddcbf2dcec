use Rattle.sim_lexer.specs.Spelling.{too_long}
use Rattle.sim_lexer.proofs.Following.{exact}
use Rattle.sim_lexer.proofs.spelling.lex.Goals as goal

pub returns-then-source-gt-SOURCE_LIMIT-clause-sound : goal.returns-then-source-gt-SOURCE_LIMIT-clause-sound
returns-then-source-gt-SOURCE_LIMIT-clause-sound c = too_long c.if-source-gt-SOURCE_LIMIT.true

pub returns-clause-exact : goal.returns-clause-exact
returns-clause-exact c = exact (λ tokens. tokens.items) c.args.source.now c.read.result c.read.ensures.sound
