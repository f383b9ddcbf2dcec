-- What the parser does: the tree that the grammar gives for the tokens of a source, or the first bad token, or the first that nests too
-- deeply.
use Rattle.std.specs.Prelude.{◌≡◌, ◌<◌, ℕ, ◌+◌, List, length, Result, Ok, Err}
use Rattle.sim_base.specs.declared.token.Token.{Token}
use Rattle.sim_base.specs.declared.rule.Rule.TheVariants as rule
use Rattle.sim_tree.specs.declared.program.Program.{Program}
use Rattle.sim_base.specs.declared.token.TokenKind.TheVariants as k
use Rattle.sim_tree.specs.Grammar as g
use Rattle.sim_tree.specs.Reading.{kind_at, Fails, Unexpected, TooDeep}
use Rattle.sim_tree.specs.Claim.{Begins, IsFirstBad, one}
use Rattle.sim_tree.specs.Tree.{limit, IsTree}
use Rattle.sim_expr_parser.specs.declared.refusal.SyntaxRefusal.{SyntaxRefusal}
use Rattle.sim_expr_parser.specs.declared.refusal.SyntaxRefusal.TheVariants as refusal
use Rattle.sim_expr_parser.specs.Parsing.{IsSource}

-- the tokens of a source, of which the last one alone ends it
pub record IsWholeSource (tokens : List Token) : Type 0 where
  pub source : IsSource tokens
  pub only : (at : ℕ) → at < length tokens → kind_at tokens at ≡ k.EndOfSource → at + 1 ≡ length tokens

-- What `parse` answers: the tree that the grammar gives; or the first token with which the tokens begin no program; or the first that
-- would begin a part nested too deeply, before which none is bad.
abbrev pub Parses : List Token → Result Program SyntaxRefusal → Type 0
Parses tokens (Ok tree) = IsTree tokens tree
Parses tokens (Err (refusal.Broken rule.UnexpectedToken bad)) = Fails limit tokens 0 (one g.Program) 0 (Unexpected bad.0) × IsFirstBad tokens (one g.Program) 0 bad.0
Parses tokens (Err (refusal.Broken rule.NestedTooDeeply deep)) = Fails limit tokens 0 (one g.Program) 0 (TooDeep deep.0) × Begins tokens (one g.Program) 0 deep.0
Parses tokens (Err (refusal.Broken _ token)) = ⊥
Parses tokens (Err refusal.Memory) = Unit {0}
