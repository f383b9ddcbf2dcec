-- What reading by the grammar comes to.
use Rattle.std.specs.Prelude.{◌≡◌, ◌<◌, ℕ, ◌+◌, List, length}
use Rattle.sim_base.specs.declared.rule.Rule.{Rule}
use Rattle.sim_base.specs.declared.token.Token.{Token}
use Rattle.sim_lexer.specs.Spelling.{Broken, Reads as Spells, Spelled}
use Rattle.sim_tree.specs.declared.program.Program.{Program}
use Rattle.sim_base.specs.declared.token.TokenKind.TheVariants as k
use Rattle.sim_tree.specs.Claim.{one}
use Rattle.sim_tree.specs.Grammar as g
use Rattle.sim_tree.specs.Grammar.{Symbol}
use Rattle.sim_tree.specs.Reading.{Fails, Fault, Forest, Reads, kind_at}
use Rattle.sim_tree.specs.Tree.{IsEnded, IsTree, limit}

-- symbols of the grammar have a derivation from a token on, or a fault
pub data ReadsOrFails (limit : ℕ) (tokens : List Token) (depth : ℕ) (s : List Symbol) (start : ℕ) : Type 0 where
  reads : (f : Forest) (end : ℕ) → Reads limit tokens depth s start f end → ReadsOrFails limit tokens depth s start
  fails : (e : Fault) → Fails limit tokens depth s start e → ReadsOrFails limit tokens depth s start

-- the last token ends the source, and no other does
pub record EndsOnce (tokens : List Token) : Type 0 where
  pub ended : IsEnded tokens
  pub only : (at : ℕ) → at < length tokens → kind_at tokens at ≡ k.EndOfSource → at + 1 ≡ length tokens

-- the fault that tokens come to where they are read as a program
abbrev pub ProgramFails : List Token → Fault → Type 0
ProgramFails tokens e = Fails limit tokens 0 (one g.Program) 0 e

-- the tokens have a tree, or a fault
pub data TreeOrFault (tokens : List Token) : Type 0 where
  tree : (p : Program) → IsTree tokens p → TreeOrFault tokens
  fault : (e : Fault) → ProgramFails tokens e → TreeOrFault tokens

-- a source breaks a rule of spelling, or its tokens come to a fault, or they have a tree
pub data SourceOutcome (source : List ℕ) : Type 0 where
  misspelt : (rule : Rule) (place : ℕ) → Spells source (Broken rule place) → SourceOutcome source
  faulty : (tokens : List Token) (e : Fault) → Spells source (Spelled tokens) → ProgramFails tokens e → SourceOutcome source
  program : (tokens : List Token) (p : Program) → Spells source (Spelled tokens) → IsTree tokens p → SourceOutcome source

abbrev pub place_of : Token → ℕ
place_of w = w.place
