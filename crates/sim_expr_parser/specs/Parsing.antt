-- What the parser's functions promise.
use Rattle.std.specs.Prelude.{◌≡◌, ◌≤◌, ◌<◌, ℕ, ◌+◌, ◌^◌, List, [], ◌∷◌, map, length, Option, Some, None, Result, Ok, Err, true, false}
use Rattle.std.specs.declared.alloc.Global.{Global}
use Rattle.std.specs.declared.boxed.Box.{Box}
use Rattle.std.specs.declared.vec.Vec.{Vec}
use Rattle.sim_base.specs.declared.token.Token.{Token}
use Rattle.sim_base.specs.declared.token.TokenKind.{TokenKind}
use Rattle.sim_tree.specs.declared.expr.Expr.{Expr}
use Rattle.sim_tree.specs.declared.expr.LeadingSign.{LeadingSign}
use Rattle.sim_base.specs.declared.token.TokenKind.TheVariants as k
use Rattle.sim_base.specs.declared.token.TokenValue.{TokenValue}
use Rattle.sim_base.specs.declared.token.TokenValue.TheVariants as token_value
use Rattle.sim_tree.specs.Grammar as g
use Rattle.sim_tree.specs.Grammar.{Part, Symbol, Of, Once, Many, one_of, signs}
use Rattle.sim_tree.specs.Reading.{Forest, done, leaf, node, kind_at, Reads, Fails, Fault, Unexpected, TooDeep, value_at}
use Rattle.sim_tree.specs.Claim.{one}
use Rattle.sim_tree.specs.Derivation.{Derivation, derivation_of, raise, row, whole, argument, level_part, sign_kind}
use Rattle.sim_tree.specs.Tree.{limit, ReadsPart, IsEnded}
use Rattle.sim_expr_parser.specs.declared.refusal.Stop.{Stop}
use Rattle.sim_expr_parser.specs.declared.refusal.Stop.TheVariants as stop

abbrev pub multiplications : List TokenKind
multiplications = k.Times ∷ k.Divide ∷ []

abbrev pub tests : List TokenKind
tests = k.Is ∷ k.In ∷ []

-- a source's tokens: the last one ends them, and each has a number
pub record IsSource (tokens : List Token) : Type 0 where
  pub ended : IsEnded tokens
  pub numbered : length tokens < 2 ^ 32

-- a token of one of these kinds was taken, and there is one behind it
pub record Took (tokens : List Token) (start : ℕ) (any : List TokenKind) (kind : TokenKind) (value : TokenValue) (end : ℕ) : Type 0 where
  pub among : one_of any (kind_at tokens start) ≡ true
  pub kind_is : kind_at tokens start ≡ kind
  pub value_is : value_at tokens start ≡ value
  pub ahead : end ≡ start + 1
  pub within : end < length tokens

-- the same of a word or a sign
abbrev pub TookBare : List Token → ℕ → List TokenKind → TokenKind → ℕ → Type 0
TookBare tokens start any kind end = Took tokens start any kind token_value.Absent end

-- where reading symbols from start on stops
abbrev pub Stops : List Token → ℕ → List Symbol → ℕ → Stop → Type 0
Stops tokens depth s start (stop.Unexpected k) = Fails limit tokens depth s start (Unexpected k)
Stops tokens depth s start (stop.TooDeep k) = Fails limit tokens depth s start (TooDeep k)
Stops tokens depth s start stop.Memory = Unit {0}

-- A symbol is read from start up to end, and stand puts its derivation in front of what is read behind it. end is a token.
pub record ReadsTo (tokens : List Token) (depth : ℕ) (first : Symbol) (start : ℕ) (stand : Forest → Forest) (end : ℕ) : Type 0 where
  pub reads : (s : List Symbol) (f : Forest) (m : ℕ) → Reads limit tokens depth s end f m → Reads limit tokens depth (first ∷ s) start (stand f) m
  pub fails : (s : List Symbol) (e : Fault) → Fails limit tokens depth s end e → Fails limit tokens depth (first ∷ s) start e
  pub ahead : start ≤ end
  pub within : end < length tokens

-- the actuals between their parentheses
abbrev pub listed : List Derivation → Forest → Forest
listed [] rest = rest
listed (x ∷ xs) rest = node g.Expression (whole x) (row g.NextArgument (map argument xs) rest)

-- the same of a list of actuals
pub record ReadsList (tokens : List Token) (depth : ℕ) (start : ℕ) (l : List Derivation) (end : ℕ) : Type 0 where
  pub reads : (s : List Symbol) (f : Forest) (m : ℕ) → Reads limit tokens depth s end f m → Reads limit tokens depth (Of Once g.Expression ∷ Of Many g.NextArgument ∷ s) start (listed l f) m
  pub fails : (s : List Symbol) (e : Fault) → Fails limit tokens depth s end e → Fails limit tokens depth (Of Once g.Expression ∷ Of Many g.NextArgument ∷ s) start e
  pub ahead : start ≤ end
  pub within : end < length tokens

-- a symbol, read from start on
abbrev pub GivesTo : {A : Type 0} → List Token → ℕ → Symbol → ℕ → (A → Forest → Forest) → Result (A × ℕ) Stop → Type 0
GivesTo tokens depth first start view (Ok r) = ReadsTo tokens depth first start (view r.0) r.1
GivesTo tokens depth first start view (Err e) = (s : List Symbol) → Stops tokens depth (first ∷ s) start e

-- a repeated part, with what is inside each
abbrev pub GivesRow : {A : Type 0} → List Token → ℕ → Part → ℕ → (A → List Forest) → Result (A × ℕ) Stop → Type 0
GivesRow tokens depth n start view = GivesTo tokens depth (Of Many n) start (λ r f. row n (view r) f)

-- a level of expressions, read from start on
abbrev pub GivesLevel : List Token → ℕ → ℕ → ℕ → Result (Expr × ℕ) Stop → Type 0
GivesLevel tokens depth level start (Ok r) = ((derivation_of r.0).level ≤ level) × ReadsPart tokens depth (level_part level) start (raise level (derivation_of r.0)) r.1
GivesLevel tokens depth level start (Err e) = Stops tokens depth (one (level_part level)) start e

-- the same in a box
abbrev pub GivesBoxed : List Token → ℕ → ℕ → ℕ → Result (Box Expr Global × ℕ) Stop → Type 0
GivesBoxed tokens depth level start (Ok r) = ((derivation_of r.0.value).level ≤ level) × ReadsPart tokens depth (level_part level) start (raise level (derivation_of r.0.value)) r.1
GivesBoxed tokens depth level start (Err e) = Stops tokens depth (one (level_part level)) start e

-- one more of a repeated part: whether it begins, and if so what is inside it
abbrev pub GivesNext : {A : Type 0} → List Token → ℕ → Part → ℕ → (A → Forest) → Result (Option (A × ℕ)) Stop → Type 0
GivesNext tokens depth n start view (Ok None) = g.right_side n (kind_at tokens start) ≡ None
GivesNext tokens depth n start view (Ok (Some r)) = (start < r.1) × ReadsPart tokens depth n start (view r.0) r.1
GivesNext tokens depth n start view (Err e) = (s : List Symbol) → Stops tokens depth (Of Many n ∷ s) start e

-- at least one expression, and further ones with commas in front
abbrev pub GivesList : List Token → ℕ → ℕ → Result (Vec Expr Global × ℕ) Stop → Type 0
GivesList tokens depth start (Ok r) = (0 < length r.0.items) × ReadsList tokens depth start (map derivation_of r.0.items) r.1
GivesList tokens depth start (Err e) = (s : List Symbol) → Stops tokens depth (Of Once g.Expression ∷ Of Many g.NextArgument ∷ s) start e

-- a constant, or no other token
abbrev pub GivesConstant : List Token → ℕ → Result (Expr × ℕ) Stop → Type 0
GivesConstant tokens start (Ok r) = Took tokens start g.literals (kind_at tokens start) (value_at tokens start) r.1 × (derivation_of r.0 ≡ record { level = 0; inside = leaf start (kind_at tokens start) (value_at tokens start) done })
GivesConstant tokens start (Err (stop.Unexpected k)) = (k ≡ start) × (one_of g.literals (kind_at tokens start) ≡ false)
GivesConstant tokens start (Err (stop.TooDeep k)) = ⊥
GivesConstant tokens start (Err stop.Memory) = Unit {0}

-- the sign in front of a sum, if there is one
abbrev pub GivesSign : List Token → ℕ → Option LeadingSign → ℕ → Type 0
GivesSign tokens start None end = (one_of signs (kind_at tokens start) ≡ false) × (end ≡ start)
GivesSign tokens start (Some s) end = TookBare tokens start signs (sign_kind s.sign) end × (s.token.0 ≡ start)
