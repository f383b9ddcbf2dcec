-- For each token the declaration that stands there, and the number of the text constant that is written there.
use Rattle.std.specs.Prelude.{◌≡◌, ◌≤◌, ℕ, ◌==◌, if◌then◌else◌, List, length, map, take, slice_get, Option, Some, None}
use Rattle.sim_base.specs.declared.numbering.DeclNo.{DeclNo}
use Rattle.sim_scope.specs.declared.bound.Bound.{Bound}
use Rattle.sim_scope.specs.declared.scopes.Declaration.{Declaration}
use Rattle.sim_scope.specs.Access.{joined}
use Rattle.sim_scope.specs.Source.{source_of}
use Rattle.sim_meaning.specs.Constants.{constant_from, text_constant}
use Rattle.sim_meaning.specs.Texts.{declared_at, number_from}
use Rattle.codegen_expr.specs.Known.{number_in}
use Rattle.program_texts.specs.declared.constants.ConstantTree.{ConstantTree}
use Rattle.program_texts.specs.ConstantTrees.{constant_in}

unfoldable pub AreDeclared : Bound → List (Option DeclNo) → Type 0
AreDeclared b table = (token : ℕ) → joined (slice_get table token) ≡ declared_at (source_of b) token

-- the same is there, and there are rows for so many tokens
pub record Longer {A : Type 0} (old new : List (Option A)) (size : ℕ) : Type 0 where
  pub same : (t : ℕ) → joined (slice_get new t) ≡ joined (slice_get old t)
  pub long : size ≤ length new

-- what stands at a token t, where something further stands at another
abbrev pub noted : {A : Type 0} → Option A → (token t : ℕ) → A → Option A
noted (Some x) token t d = Some x
noted None token t d = if token == t then Some d else None

unfoldable pub Noted : {A : Type 0} → (old new : List (Option A)) → (token : ℕ) → A → Type 0
Noted old new token d = (t : ℕ) → joined (slice_get new t) ≡ noted (joined (slice_get old t)) token t d

-- the first declarations are noted
unfoldable pub NotedTo : List Declaration → List (Option DeclNo) → (done : ℕ) → Type 0
NotedTo rows table i = (t : ℕ) → joined (slice_get table t) ≡ number_from 0 t (take i rows)

unfoldable pub AreNumbered : Bound → List (Option ℕ) → Type 0
AreNumbered b table = (token : ℕ) → joined (slice_get table token) ≡ number_in (text_constant (source_of b) token)

-- the first text constants are noted
unfoldable pub NumberedTo : List ConstantTree → List (Option ℕ) → (done : ℕ) → Type 0
NumberedTo cs table i = (t : ℕ) → joined (slice_get table t) ≡ number_in (constant_from 0 t (map constant_in (take i cs)))

-- the characters of a text constant
abbrev pub bytes_in : ConstantTree → List ℕ
bytes_in c = c.value.now

-- so far those of the first ones are copied
unfoldable pub CopiesTo : List ConstantTree → List (List ℕ) → (done : ℕ) → Type 0
CopiesTo cs texts i = texts ≡ map bytes_in (take i cs)
