-- The canonical text of a program: its tokens, laid out on lines. It does not depend on the numbers and lines of the tokens that the program
-- was read from.
use Rattle.std.specs.Prelude.{ℕ, List}
use Rattle.sim_tree.specs.Syntax.{Program}
use Rattle.sim_print.specs.Layout.{text_of}
use Rattle.sim_print.specs.Tokens.{program}

unfoldable pub canonical_text : Program → List ℕ
canonical_text p = text_of (program p)
