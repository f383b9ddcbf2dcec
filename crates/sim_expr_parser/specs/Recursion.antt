-- How deep the calls of the parser's functions go. At each call of one by another the number of calls left falls, and it depends on the depth of nesting and the function alone: so it bounds the stack, whatever the tokens are.
use Rattle.std.specs.Prelude.{ℕ, suc, ◌+◌, ◌*◌, ◌-◌}
use Rattle.sim_tree.specs.Tree.{limit}

-- the calls that may still follow inside a call at this depth: so many for each depth from here to the limit, and the rest of this one's
abbrev pub calls_left : ℕ → ℕ → ℕ → ℕ
calls_left each depth rest = (suc limit - depth) * each + rest

-- how many calls an expression takes at most, its own included, until the next one inside it: as many where operators of every level stand inside each other
abbrev pub calls : ℕ
calls = 69
