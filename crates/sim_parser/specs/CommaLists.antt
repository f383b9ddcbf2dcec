-- Lists with commas: the first item, and then a row of further ones, each with a comma in front.
use Rattle.std.specs.Prelude.{◌≡◌, ◌≤◌, ◌<◌, ℕ, false, List, [], ◌∷◌, map, length, Result, Ok, Err}
use Rattle.std.specs.declared.alloc.Global.{Global}
use Rattle.std.specs.declared.vec.Vec.{Vec}
use Rattle.sim_base.specs.declared.token.Token.{Token}
use Rattle.sim_base.specs.declared.token.TokenKind.TheVariants as k
use Rattle.sim_tree.specs.Grammar.{Part, Symbol, At, Mark, Of, Many, just, rows, is_counted}
use Rattle.sim_tree.specs.Reading.{Forest, done, Reads, Fails, Fault}
use Rattle.sim_tree.specs.Derivation.{row}
use Rattle.sim_tree.specs.Tree.{limit}
use Rattle.sim_expr_parser.specs.declared.refusal.Stop.{Stop}
use Rattle.sim_expr_parser.specs.Parsing.{Stops, GivesTo}

abbrev pub further : Symbol → List Symbol
further item = Mark k.Comma ∷ item ∷ []

-- the part of a further item
abbrev pub IsFurther : Symbol → Part → Type 0
IsFurther item next = (rows next ≡ At (just k.Comma) (further item) ∷ []) × (is_counted next ≡ false)

abbrev pub listed_with : {A : Type 0} → (A → Forest → Forest) → Part → List A → Forest → Forest
listed_with view next [] rest = rest
listed_with view next (x ∷ xs) rest = view x (row next (map (λ y. view y done) xs) rest)

-- the list is read from start up to end. end is a token.
pub record ReadsItems {A : Type 0} (view : A → Forest → Forest) (tokens : List Token) (depth : ℕ) (item : Symbol) (next : Part) (start : ℕ) (xs : List A) (end : ℕ) : Type 0 where
  pub reads : (s : List Symbol) (f : Forest) (m : ℕ) → Reads limit tokens depth s end f m → Reads limit tokens depth (item ∷ Of Many next ∷ s) start (listed_with view next xs f) m
  pub fails : (s : List Symbol) (e : Fault) → Fails limit tokens depth s end e → Fails limit tokens depth (item ∷ Of Many next ∷ s) start e
  pub ahead : start ≤ end
  pub within : end < length tokens

abbrev pub GivesItems : {A : Type 0} → List Token → ℕ → Symbol → Part → ℕ → (A → Forest → Forest) → Result (Vec A Global × ℕ) Stop → Type 0
GivesItems tokens depth item next start view (Ok r) = ReadsItems view tokens depth item next start r.0.items r.1
GivesItems tokens depth item next start view (Err e) = (s : List Symbol) → Stops tokens depth (item ∷ Of Many next ∷ s) start e

-- What reads an item may be called at each token, and never goes back.
pub record IsReader {A : Type 0} (tokens : List Token) (pre : ℕ → Type 0) (post : ℕ → Result (A × ℕ) Stop → Type 0) : Type 0 where
  pub callable : (start : ℕ) → start < length tokens → pre start
  pub ahead : (start : ℕ) (x : A) (end : ℕ) → start < length tokens → post start (Ok (x, end)) → (start ≤ end) × (end < length tokens)

-- it reads this symbol wherever it is called
abbrev pub ReadsEach : {A : Type 0} → List Token → ℕ → Symbol → (A → Forest → Forest) → (ℕ → Result (A × ℕ) Stop → Type 0) → Type 0
ReadsEach {A} tokens depth item view post = (start : ℕ) (r : Result (A × ℕ) Stop) → start < length tokens → post start r → GivesTo tokens depth item start view r

-- one call of it reads this symbol from start on, however deep
pub record ReadsAt {A : Type 0} (tokens : List Token) (item : Symbol) (view : A → Forest → Forest) (start : ℕ) (r : Result (A × ℕ) Stop) : Type 0 where
  pub each : (depth : ℕ) → GivesTo tokens depth item start view r
