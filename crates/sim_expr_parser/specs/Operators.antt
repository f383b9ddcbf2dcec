-- How operands are raised from level to level, as operators stand behind them.
use Rattle.std.specs.Prelude.{◌≡◌, ◌≤◌, ◌<◌, ℕ, List, ◌∷◌, Some, Result, Ok, Err, false}
use Rattle.sim_base.specs.declared.token.Token.{Token}
use Rattle.sim_tree.specs.declared.expr.Expr.{Expr}
use Rattle.sim_base.specs.declared.token.TokenKind.TheVariants as k
use Rattle.sim_tree.specs.Grammar.{Symbol, is, one_of, signs}
use Rattle.sim_tree.specs.Reading.{Forest, done, node, kind_at}
use Rattle.sim_tree.specs.Derivation.{derivation_of, raise, level_part}
use Rattle.sim_tree.specs.Tree.{ReadsPart}
use Rattle.sim_expr_parser.specs.declared.operators.Operators.{Operators}
use Rattle.sim_expr_parser.specs.declared.refusal.Stop.{Stop}
use Rattle.sim_expr_parser.specs.Level.{below_of, level_of, operators_of, tail_of}
use Rattle.sim_expr_parser.specs.Parsing.{Stops, ReadsTo}

-- the operators of a level above reached, and not above top, stand at a token
pub record Follows (tokens : List Token) (start : ℕ) (reached : ℕ) (top : ℕ) (o : Operators) : Type 0 where
  pub stand : operators_of (kind_at tokens start) ≡ Some o
  pub above : reached < level_of o
  pub within : level_of o ≤ top

-- no such operators stand there
abbrev pub NoneFollows : List Token → ℕ → ℕ → ℕ → Type 0
NoneFollows tokens start reached top = (o : Operators) → operators_of (kind_at tokens start) ≡ Some o → reached < level_of o → level_of o ≤ top → ⊥

-- Of the levels above this one, up to top, none begins at start by a sign or by `not`.
pub record IsPlain (tokens : List Token) (start : ℕ) (level : ℕ) (top : ℕ) : Type 0 where
  pub unsigned : level < 4 → 4 ≤ top → one_of signs (kind_at tokens start) ≡ false
  pub affirmed : level < 7 → 7 ≤ top → is (kind_at tokens start) k.Not ≡ false

-- a part of a level from start up to end, which may be raised up to the level top
pub record IsRead (tokens : List Token) (depth : ℕ) (start : ℕ) (level : ℕ) (top : ℕ) (e : Expr) (end : ℕ) : Type 0 where
  pub low : (derivation_of e).level ≤ level
  pub part : ReadsPart tokens depth (level_part level) start (raise level (derivation_of e)) end
  pub plain : IsPlain tokens start level top

-- behind a first operand, from start up to end, its operators with their further operands, which make e of it
pub record ReadsTail (tokens : List Token) (depth : ℕ) (start : ℕ) (o : Operators) (first : Expr) (e : Expr) (end : ℕ) : Type 0 where
  pub tail : Forest → Forest
  pub reads : ReadsTo tokens depth (tail_of o) start tail end
  pub level_is : (derivation_of e).level ≡ level_of o
  pub inside_is : (derivation_of e).inside ≡ node (level_part (below_of o)) (raise (below_of o) (derivation_of first)) (tail done)

abbrev pub GivesTail : List Token → ℕ → ℕ → Operators → Expr → Result (Expr × ℕ) Stop → Type 0
GivesTail tokens depth start o first (Ok r) = ReadsTail tokens depth start o first r.0 r.1
GivesTail tokens depth start o first (Err e) = (s : List Symbol) → Stops tokens depth (tail_of o ∷ s) start e
