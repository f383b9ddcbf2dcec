-- What it means that tokens begin a part, and that one of them is the first bad one.
use Rattle.std.specs.Prelude.{◌≡◌, ◌<◌, ℕ, ◌+◌, List, [], ◌∷◌, length, slice_index_or}
use Rattle.sim_base.specs.declared.token.Token.{Token}
use Rattle.sim_tree.specs.Grammar.{Part, Once, Symbol, Of}
use Rattle.sim_tree.specs.Reading.{Forest, finish, Reads}

-- the same tokens below an index
abbrev pub SameBelow : ℕ → List Token → List Token → Type 0
SameBelow k tokens us = (m : ℕ) → m < k → slice_index_or tokens m finish ≡ slice_index_or us m finish

-- a part, once
abbrev pub one : Part → List Symbol
one n = Of Once n ∷ []

-- The tokens below k begin the symbols from start on: with some further tokens they are these symbols whole, however deep it nests.
pub record Begins (tokens : List Token) (s : List Symbol) (start : ℕ) (k : ℕ) : Type 0 where
  pub whole : List Token
  pub same : SameBelow k tokens whole
  pub limit : ℕ
  pub forest : Forest
  pub reads : Reads limit whole 0 s start forest (length whole)

-- no tokens that go on like these up to k are the symbols, whatever stands behind
abbrev pub BeginNone : List Token → List Symbol → ℕ → ℕ → Type 0
BeginNone tokens s start k = (whole : List Token) → SameBelow k tokens whole → (limit : ℕ) (forest : Forest) (end : ℕ) → Reads limit whole 0 s start forest end → ⊥

-- the first bad token: those before it begin the symbols, and with it they don't
pub record IsFirstBad (tokens : List Token) (s : List Symbol) (start : ℕ) (k : ℕ) : Type 0 where
  pub before : Begins tokens s start k
  pub not_with : BeginNone tokens s start (k + 1)
