-- Which tree a list of tokens has, and how deep it nests.
use Rattle.std.specs.Prelude.{◌≡◌, ◌≤◌, ◌<◌, ℕ, ◌+◌, ◌-◌, Bool, true, false, ◌&&◌, not, max, if◌then◌else◌, List, length, map, Option, Some, None}
use Rattle.sim_base.specs.declared.numbering.Line.{Line}
use Rattle.sim_base.specs.declared.token.Token.{Token}
use Rattle.sim_tree.specs.declared.expr.Expr.{Expr}
use Rattle.sim_tree.specs.declared.program.Program.{Program}
use Rattle.sim_base.specs.declared.token.TokenKind.TheVariants as k
use Rattle.sim_tree.specs.Grammar as g
use Rattle.sim_tree.specs.Grammar.{Part, Symbol, right_side, is_counted}
use Rattle.sim_tree.specs.Reading.{Forest, done, leaf, place, node, kind_at, inside_depth, is_too_deep, Reads}
use Rattle.sim_tree.specs.Claim.{one}
use Rattle.sim_tree.specs.Derivation.{expression}
use Rattle.sim_tree.specs.ProgramDerivation.{program_derivation}

-- how deep statements and expressions nest
abbrev pub limit : ℕ
limit = 200

abbrev pub line : Token → Line
line w = w.line

-- the tokens are this program, and these are their lines
pub record IsTree (tokens : List Token) (p : Program) : Type 0 where
  pub reads : Reads limit tokens 0 (one g.Program) 0 (node g.Program (program_derivation p) done) (length tokens)
  pub lines : p.lines.items ≡ map line tokens

-- The tokens from start up to end are this part, and this is the derivation of what is inside it. end is a token.
pub record ReadsPart (tokens : List Token) (depth : ℕ) (n : Part) (start : ℕ) (f : Forest) (end : ℕ) : Type 0 where
  pub right : List Symbol
  pub begins : right_side n (kind_at tokens start) ≡ Some right
  pub shallow : is_too_deep limit n depth right ≡ false
  pub inside : Reads limit tokens (inside_depth n depth) right start f end
  pub ahead : start ≤ end
  pub within : end < length tokens

-- the tokens from start up to end are this expression, at this depth
abbrev pub IsExpr : List Token → ℕ → ℕ → Expr → ℕ → Type 0
IsExpr tokens depth start e end = ReadsPart tokens depth g.Expression start (expression e) end

-- the last token ends the source, and is there
pub record IsEnded (tokens : List Token) : Type 0 where
  pub some : 0 < length tokens
  pub last : kind_at tokens (length tokens - 1) ≡ k.EndOfSource

-- the first token of a derivation, where a token that the tree keeps begins it
abbrev pub first_leaf : Forest → Option ℕ
first_leaf done = None
first_leaf (leaf token kind value f) = Some token
first_leaf (place token f) = Some token
first_leaf (node n inside f) = first_leaf inside

-- nothing in a derivation is a token that was taken
abbrev pub is_bare : Forest → Bool
is_bare done = true
is_bare (place token f) = is_bare f
is_bare (leaf token kind value f) = false
is_bare (node n inside f) = false

-- How many statements and expressions stand around a token, at most. One that has no token does not count.
abbrev pub deepest : Forest → ℕ
deepest done = 0
deepest (leaf token kind value f) = deepest f
deepest (place token f) = deepest f
deepest (node n inside f) = max (if is_counted n && not (is_bare inside) then deepest inside + 1 else deepest inside) (deepest f)

-- the depth of a program
abbrev pub depth_of : Program → ℕ
depth_of p = deepest (program_derivation p)
