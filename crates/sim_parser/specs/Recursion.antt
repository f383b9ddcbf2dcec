-- How deep the calls of the parser of statements go, as those of the parser of expressions.
use Rattle.std.specs.Prelude.{ℕ}

-- how many calls a statement takes, its own included, until the next one inside it
abbrev pub calls : ℕ
calls = 9
