-- How deep the parts of a tree nest, and which trees tokens can have.
use Rattle.std.specs.Prelude.{◌≡◌, ℕ, min, max, Bool, true, false, not, ◌&&◌, List, [], ◌∷◌, Option, Some, None}
use Rattle.std.specs.declared.alloc.Global.{Global}
use Rattle.std.specs.declared.boxed.Box.{Box}
use Rattle.sim_tree.specs.declared.stmt.Stmt.{Stmt}
use Rattle.sim_tree.specs.Grammar as g
use Rattle.sim_tree.specs.Grammar.{Part}
use Rattle.sim_tree.specs.Reading.{Forest, done, leaf, place, node}
use Rattle.sim_tree.specs.Derivation.{Derivation}
use Rattle.sim_tree.specs.ProgramDerivation.{Declared, Plain, Prefixed, next_statement, statement_derivation}
use Rattle.sim_tree.specs.Tree.{is_bare, deepest}

-- the greatest number that the program counts to, in place of a greater one
abbrev pub capped : ℕ → ℕ
capped n = min n 4294967295

-- A part has a token, unless the grammar has it without one. A statement has at least its place, a `for` list an element behind its sign,
-- and a segment of arrays bounds behind its identifiers.
abbrev pub has_token : Part → Forest → Bool
has_token g.AfterDeclaration f = true
has_token g.Heading f = true
has_token g.AfterFirstOperand f = true
has_token g.Statement done = false
has_token g.Statement f = true
has_token g.ForList (leaf i kind value f) = not (is_bare f)
has_token g.ForList f = false
has_token g.ArraySegment (node names inside f) = not (is_bare f)
has_token g.ArraySegment f = false
has_token _ f = not (is_bare f)

-- no part of a derivation lacks its token
abbrev pub is_full : Forest → Bool
is_full done = true
is_full (leaf i kind value f) = is_full f
is_full (place i f) = is_full f
is_full (node n inside f) = has_token n inside && is_full inside && is_full f

-- a derivation nests this deep, if no part lacks its token
pub record Nests (f : Forest) (depth : ℕ) : Type 0 where
  pub known : is_full f ≡ true → depth ≡ capped (deepest f)

-- the same of what is inside a part that has a token
pub record NestsInside (s : Derivation) (depth : ℕ) : Type 0 where
  pub known : is_bare s.inside ≡ false → is_full s.inside ≡ true → depth ≡ capped (deepest s.inside)

-- the largest of the numbers that fit the elements of a list, one for each
pub data Largest {A : Type 0} (Fits : A → ℕ → Type 0) : List A → ℕ → Type 0 where
  largest-none : Largest Fits [] 0
  largest-more : {x : A} {xs : List A} {a b : ℕ} → Fits x a → Largest Fits xs b → Largest Fits (x ∷ xs) (max a b)

-- a declaration, apart from those behind it
abbrev pub apart : Declared → Forest
apart (Plain f) = node g.Declaration f done
apart (Prefixed x i f) = node g.Class f done

-- the statement of a branch, where there is one
abbrev pub branch_derivation : Option (Box Stmt Global) → Forest
branch_derivation None = done
branch_derivation (Some s) = next_statement (statement_derivation s.value)
