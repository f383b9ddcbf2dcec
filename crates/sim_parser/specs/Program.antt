-- What the functions of a whole program promise.
use Rattle.std.specs.Prelude.{◌<◌, ℕ, List, [], ◌∷◌, length, Option, Result, Ok, Err}
use Rattle.sim_base.specs.declared.token.Token.{Token}
use Rattle.sim_tree.specs.declared.program.BlockPrefix.{BlockPrefix}
use Rattle.sim_tree.specs.declared.program.Program.{Program}
use Rattle.sim_base.specs.declared.token.TokenKind.TheVariants as k
use Rattle.sim_tree.specs.Grammar as g
use Rattle.sim_tree.specs.Grammar.{Symbol, Of, Once, Mark, Any}
use Rattle.sim_tree.specs.Reading.{Forest, done, node, Reads, Fails, Fault}
use Rattle.sim_tree.specs.Claim.{one}
use Rattle.sim_tree.specs.ProgramDerivation.{prefixed}
use Rattle.sim_tree.specs.Tree.{limit, IsTree}
use Rattle.sim_expr_parser.specs.declared.refusal.Stop.{Stop}
use Rattle.sim_expr_parser.specs.declared.refusal.Stop.TheVariants as stop
use Rattle.sim_expr_parser.specs.Parsing.{Stops}

-- a program behind the prefix of its block
abbrev pub program_rest : List Symbol
program_rest = Of Once g.Compound ∷ Any k.Semicolon ∷ Mark k.EndOfSource ∷ []

-- the prefix is read up to end, and the program is what stands there then
pub record ReadsPrefix (tokens : List Token) (prefix : Option BlockPrefix) (end : ℕ) : Type 0 where
  pub reads : (f : Forest) (m : ℕ) → Reads limit tokens 0 program_rest end f m → Reads limit tokens 0 (one g.Program) 0 (node g.Program (prefixed prefix f) done) m
  pub fails : (e : Fault) → Fails limit tokens 0 program_rest end e → Fails limit tokens 0 (one g.Program) 0 e
  pub within : end < length tokens

-- a token is named, if one is
abbrev pub NamesToken : List Token → Stop → Type 0
NamesToken tokens (stop.Unexpected k) = k < length tokens
NamesToken tokens (stop.TooDeep k) = k < length tokens
NamesToken tokens stop.Memory = Unit {0}

abbrev pub GivesPrefix : List Token → Result (Option BlockPrefix × ℕ) Stop → Type 0
GivesPrefix tokens (Ok r) = ReadsPrefix tokens r.0 r.1
GivesPrefix tokens (Err e) = Stops tokens 0 (one g.Program) 0 e × NamesToken tokens e

abbrev pub GivesProgram : List Token → Result Program Stop → Type 0
GivesProgram tokens (Ok p) = IsTree tokens p
GivesProgram tokens (Err e) = Stops tokens 0 (one g.Program) 0 e × NamesToken tokens e
