-- What is read of headings, between whole parts.
use Rattle.std.specs.Prelude.{◌≡◌, ◌≤◌, ◌<◌, ℕ, ◌+◌, true, false, List, [], ◌∷◌, map, length, Option, Some, None, Result, Ok, Err}
use Rattle.std.specs.declared.alloc.Global.{Global}
use Rattle.std.specs.declared.vec.Vec.{Vec}
use Rattle.sim_base.specs.declared.numbering.TokenNo.{TokenNo}
use Rattle.sim_base.specs.declared.token.Token.{Token}
use Rattle.sim_base.specs.declared.token.TokenKind.{TokenKind}
use Rattle.sim_base.specs.declared.token.TokenKind.TheVariants as k
use Rattle.sim_tree.specs.Grammar as g
use Rattle.sim_tree.specs.Grammar.{Part, Symbol, Of, Once, Many, Mark, is, one_of, right_side, types}
use Rattle.sim_tree.specs.Reading.{Forest, done, kind_at}
use Rattle.sim_tree.specs.Claim.{one}
use Rattle.sim_tree.specs.Derivation.{row}
use Rattle.sim_tree.specs.Tree.{ReadsPart}
use Rattle.sim_expr_parser.specs.declared.refusal.Stop.{Stop}
use Rattle.sim_expr_parser.specs.Parsing.{Stops}
use Rattle.sim_parser.specs.Parsing.{GivesPart, ReadsAll}

abbrev pub modes : List TokenKind
modes = k.Value ∷ k.Name ∷ []

-- what begins a specification, or virtual procedures of one type
abbrev pub begins_specification : List TokenKind
begins_specification = k.Procedure ∷ types

-- identifiers with a semicolon behind them
abbrev pub names_row : List Symbol
names_row = Of Once g.Identifiers ∷ Mark k.Semicolon ∷ []

-- Inside a part that is read from start on, the symbols s are left from end on, and stand puts what was read in front of their derivation. end is a token.
pub record ReadsFront (tokens : List Token) (depth : ℕ) (n : Part) (start : ℕ) (stand : Forest → Forest) (s : List Symbol) (end : ℕ) : Type 0 where
  pub reads : (f : Forest) (m : ℕ) → ReadsAll tokens depth s end f m → ReadsPart tokens depth n start (stand f) m
  pub fails : (e : Stop) → Stops tokens depth s end e → (rest : List Symbol) (times : g.Times) → Stops tokens depth (Of times n ∷ rest) start e
  pub ahead : start ≤ end
  pub within : end < length tokens

abbrev pub GivesFront : {A : Type 0} → List Token → ℕ → Part → ℕ → (A → Forest → Forest) → List Symbol → Result (A × ℕ) Stop → Type 0
GivesFront tokens depth n start view s (Ok r) = ReadsFront tokens depth n start (view r.0) s r.1
GivesFront tokens depth n start view s (Err e) = Stops tokens depth (one n) start e

-- a part that stands there at least once
abbrev pub GivesSome : {A : Type 0} → List Token → ℕ → Part → ℕ → (A → Forest) → Result (Vec A Global × ℕ) Stop → Type 0
GivesSome tokens depth n start view (Ok r) = (0 < length r.0.items) × ReadsAll tokens depth (Of Once n ∷ Of Many n ∷ []) start (row n (map view r.0.items) done) r.1
GivesSome tokens depth n start view (Err e) = Stops tokens depth (Of Once n ∷ Of Many n ∷ []) start e

-- this part begins as a specification does
abbrev pub BeginsSpecified : Part → Type 0
BeginsSpecified n = (a : TokenKind) → (one_of begins_specification a ≡ true → (right : List Symbol) × (right_side n a ≡ Some right)) × (one_of begins_specification a ≡ false → right_side n a ≡ None)

-- a reader reads this part wherever it is called
abbrev pub PartEach : {A : Type 0} → List Token → ℕ → Part → (A → Forest) → (ℕ → Result (A × ℕ) Stop → Type 0) → Type 0
PartEach {A} tokens depth n view post = (start : ℕ) (r : Result (A × ℕ) Stop) → start < length tokens → post start r → GivesPart tokens depth n start view r

-- the token of a word, where it stands there, and the next index
abbrev pub GivesWord : List Token → ℕ → TokenKind → Option TokenNo → ℕ → Type 0
GivesWord tokens start a None end = (is (kind_at tokens start) a ≡ false) × (end ≡ start)
GivesWord tokens start a (Some x) end = (is (kind_at tokens start) a ≡ true) × (end ≡ start + 1) × (end < length tokens) × (x.0 ≡ start)
