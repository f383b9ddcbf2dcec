use Rattle.std.proofs.Common.{sym, ◌∙◌}
use Rattle.frame_arena.proofs.Budgets.{no_words_left, words_left}
use Rattle.frame_arena.proofs.words.take_words.Goals as goal

pub returns-then-is_exhausted-clause-row : goal.returns-then-is_exhausted-clause-row
returns-then-is_exhausted-clause-row c l line o go storage words = no_words_left l o go line c.args.budget c.args.used c.args.wanted storage words (sym c.is_exhausted.ensures.exhausted ∙ c.if-is_exhausted.true)

pub returns-clause-row : goal.returns-clause-row
returns-clause-row c l line o go storage words = words_left l o go line c.args.budget c.args.used c.args.wanted storage words (sym c.is_exhausted.ensures.exhausted ∙ c.if-is_exhausted.false)
