-- What the functions inside the parser promise. `Claim` is what the parser as a whole does.
use Rattle.std.specs.Prelude.{◌≡◌, ◌≤◌, ◌<◌, ℕ, ◌+◌, List, [], ◌∷◌, map, length, Option, Some, None, Result, Ok, Err, true, false}
use Rattle.std.specs.declared.alloc.Global.{Global}
use Rattle.std.specs.declared.boxed.Box.{Box}
use Rattle.std.specs.declared.vec.Vec.{Vec}
use Rattle.sim_base.specs.declared.token.Token.{Token}
use Rattle.sim_base.specs.declared.token.TokenKind.TheVariants as k
use Rattle.sim_tree.specs.declared.stmt.Decl.{Decl}
use Rattle.sim_tree.specs.declared.stmt.Stmt.{Stmt}
use Rattle.sim_tree.specs.declared.stmt.TypeName.{TypeName}
use Rattle.sim_base.specs.declared.token.TokenKind.{TokenKind}
use Rattle.sim_tree.specs.Grammar as g
use Rattle.sim_tree.specs.Grammar.{Part, Symbol, Of, Once, Maybe, Many, Kept, Mark, Any, Here, is, one_of, just, types, begins_statement}
use Rattle.sim_tree.specs.Reading.{Forest, done, place, node, kind_at, Reads, Fails, Fault, bare_leaf}
use Rattle.sim_tree.specs.Claim.{one}
use Rattle.sim_tree.specs.ProgramDerivation.{Declared, Plain, Prefixed, declaration_derivation, next_statement, statement_derivation, type_derivation}
use Rattle.sim_tree.specs.Derivation.{identifier, row}
use Rattle.sim_tree.specs.Tree.{limit, ReadsPart}
use Rattle.sim_expr_parser.specs.declared.refusal.Stop.{Stop}
use Rattle.sim_expr_parser.specs.Parsing.{Stops}
use Rattle.sim_parser.specs.declared.statement.Connection.{Connection}
use Rattle.sim_parser.specs.declared.statement.Branch.{Branch}
use Rattle.sim_parser.specs.declared.statement.Branch.TheVariants as branch

-- a part, read from start on
abbrev pub GivesPart : {A : Type 0} → List Token → ℕ → Part → ℕ → (A → Forest) → Result (A × ℕ) Stop → Type 0
GivesPart tokens depth n start view (Ok r) = ReadsPart tokens depth n start (view r.0) r.1
GivesPart tokens depth n start view (Err e) = Stops tokens depth (one n) start e

-- the same, however deep
pub record PartAt {A : Type 0} (tokens : List Token) (n : Part) (view : A → Forest) (start : ℕ) (r : Result (A × ℕ) Stop) : Type 0 where
  pub each : (depth : ℕ) → GivesPart tokens depth n start view r

-- all that is left inside a part, from start up to end. end is a token.
pub record ReadsAll (tokens : List Token) (depth : ℕ) (s : List Symbol) (start : ℕ) (f : Forest) (end : ℕ) : Type 0 where
  pub reads : Reads limit tokens depth s start f end
  pub ahead : start ≤ end
  pub within : end < length tokens

abbrev pub GivesAll : {A : Type 0} → List Token → ℕ → List Symbol → ℕ → (A → Forest) → Result (A × ℕ) Stop → Type 0
GivesAll tokens depth s start view (Ok r) = ReadsAll tokens depth s start (view r.0) r.1
GivesAll tokens depth s start view (Err e) = Stops tokens depth s start e

-- the rows of statements, behind what chooses them
abbrev pub identified_row : List Symbol
identified_row = Kept (just k.Identifier) ∷ Of Maybe g.Arguments ∷ Of Once g.AfterFirstOperand ∷ []

abbrev pub operation_row : List Symbol
operation_row = Of Once g.Postfix ∷ Of Many g.Assigned ∷ []

abbrev pub if_row : List Symbol
if_row = Kept (just k.If) ∷ Of Once g.Expression ∷ Mark k.Then ∷ Of Once g.Statement ∷ Of Maybe g.ElseBranch ∷ []

abbrev pub body_row : List Symbol
body_row = Mark k.Do ∷ Of Once g.Statement ∷ []

-- a connection, from `do` on
abbrev pub connection_row : List Symbol
connection_row = Kept (just k.Do) ∷ Of Once g.Statement ∷ Here ∷ []

abbrev pub connection_derivation : Connection → Forest
connection_derivation c = bare_leaf c.opening.0 k.Do (node g.Statement (statement_derivation c.body) (place c.end.0 done))

abbrev pub while_row : List Symbol
while_row = Kept (just k.While) ∷ Of Once g.Expression ∷ body_row

abbrev pub for_row : List Symbol
for_row = Kept (just k.For) ∷ Kept (just k.Identifier) ∷ Of Once g.ForList ∷ body_row

abbrev pub inspect_row : List Symbol
inspect_row = Kept (just k.Inspect) ∷ Of Once g.Expression ∷ Of Once g.Arms ∷ Of Maybe g.OtherwiseBranch ∷ []

abbrev pub activation_words : List TokenKind
activation_words = k.Activate ∷ k.Reactivate ∷ []

abbrev pub activation_row : List Symbol
activation_row = Kept activation_words ∷ Of Once g.Expression ∷ Of Maybe g.Timing ∷ []

-- what begins a statement that is not empty
abbrev pub begins : List TokenKind
begins = k.Identifier ∷ begins_statement

-- what begins a declaration, a prefix of a class apart
abbrev pub begins_declaration : List TokenKind
begins_declaration = k.Procedure ∷ k.Class ∷ types

-- the inside of a statement that its next token begins
pub record ReadsInside (tokens : List Token) (depth : ℕ) (start : ℕ) (f : Forest) (end : ℕ) : Type 0 where
  pub right : List Symbol
  pub begins : g.right_side g.Statement (kind_at tokens start) ≡ Some right
  pub all : ReadsAll tokens depth right start f end

abbrev pub GivesInside : List Token → ℕ → ℕ → Result (Stmt × ℕ) Stop → Type 0
GivesInside tokens depth start (Ok r) = ReadsInside tokens depth start (statement_derivation r.0) r.1
GivesInside tokens depth start (Err e) = (right : List Symbol) → g.right_side g.Statement (kind_at tokens start) ≡ Some right → Stops tokens depth right start e

-- A branch of a statement that may be left out: its word, its part, what it stands for.
abbrev pub branch_word : Branch → TokenKind
branch_word branch.Else = k.Else
branch_word branch.Otherwise = k.Otherwise

abbrev pub branch_part : Branch → Part
branch_part branch.Else = g.ElseBranch
branch_part branch.Otherwise = g.OtherwiseBranch

abbrev pub branch_derivation : Branch → Option (Box Stmt Global) → Forest
branch_derivation b None = done
branch_derivation b (Some s) = node (branch_part b) (node g.Statement (statement_derivation s.value) done) done

-- Declarations. One without a prefix is read as a part; behind the type of a typed one the rest is.
pub record ReadsDeclared (tokens : List Token) (depth : ℕ) (n : Part) (start : ℕ) (stand : Forest → Forest) (derivation : Declared) (end : ℕ) : Type 0 where
  pub inside : Forest
  pub derivation_is : derivation ≡ Plain (stand inside)
  pub part : ReadsPart tokens depth n start inside end

abbrev pub GivesDecl : List Token → ℕ → ℕ → Result (Decl × ℕ) Stop → Type 0
GivesDecl tokens depth start (Ok r) = ReadsDeclared tokens depth g.Declaration start (λ f. f) (declaration_derivation r.0) r.1
GivesDecl tokens depth start (Err e) = Stops tokens depth (one g.Declaration) start e

abbrev pub GivesTyped : TypeName → List Token → ℕ → ℕ → Result (Decl × ℕ) Stop → Type 0
GivesTyped name tokens depth start (Ok r) = ReadsDeclared tokens depth g.TypedDeclaration start (λ f. node g.TypeName (type_derivation name) (node g.TypedDeclaration f done)) (declaration_derivation r.0) r.1
GivesTyped name tokens depth start (Err e) = Stops tokens depth (one g.TypedDeclaration) start e

-- declarations in front of what follows them in their block
abbrev pub declared : List Declared → Forest → Forest
declared [] rest = rest
declared (Plain f ∷ ds) rest = node g.Declaration f (node g.AfterDeclaration done (node g.Block (declared ds rest) done))
declared (Prefixed x word f ∷ ds) rest = identifier x (node g.AfterIdentifier (bare_leaf word k.Class (node g.Class f (node g.AfterDeclaration done (node g.Block (declared ds rest) done)))) done)

-- the block from start on is these declarations and then the block from end on
pub record ReadsDeclarations (tokens : List Token) (depth : ℕ) (start : ℕ) (ds : List Declared) (end : ℕ) : Type 0 where
  pub reads : (f : Forest) (m : ℕ) → ReadsPart tokens depth g.Block end f m → ReadsPart tokens depth g.Block start (declared ds f) m
  pub fails : (e : Stop) → Stops tokens depth (one g.Block) end e → Stops tokens depth (one g.Block) start e
  pub ahead : start ≤ end
  pub within : end < length tokens

-- no declaration begins here
pub record NoDeclaration (tokens : List Token) (start : ℕ) : Type 0 where
  pub plain : one_of begins_declaration (kind_at tokens start) ≡ false
  pub prefixed : is (kind_at tokens start) k.Identifier ≡ true → is (kind_at tokens (start + 1)) k.Class ≡ false

abbrev pub GivesDeclaration : List Token → ℕ → ℕ → Result (Option (Decl × ℕ)) Stop → Type 0
GivesDeclaration tokens depth start (Ok None) = NoDeclaration tokens start
GivesDeclaration tokens depth start (Ok (Some r)) = (start < r.1) × ReadsDeclarations tokens depth start (declaration_derivation r.0 ∷ []) r.1
GivesDeclaration tokens depth start (Err e) = Stops tokens depth (one g.Block) start e

abbrev pub GivesDeclarations : List Token → ℕ → ℕ → Result (Vec Decl Global × ℕ) Stop → Type 0
GivesDeclarations tokens depth start (Ok r) = ReadsDeclarations tokens depth start (map declaration_derivation r.0.items) r.1 × NoDeclaration tokens r.1
GivesDeclarations tokens depth start (Err e) = Stops tokens depth (one g.Block) start e

-- statements with semicolons between them: the first, and a row of further ones
abbrev pub statement_list : List Forest → Forest → Forest
statement_list [] rest = rest
statement_list (f ∷ fs) rest = node g.Statement f (row g.NextStatement (map next_statement fs) rest)

abbrev pub statements_then : List Symbol → List Symbol
statements_then s = Of Once g.Statement ∷ Of Many g.NextStatement ∷ s

pub record ReadsStatements (tokens : List Token) (depth : ℕ) (start : ℕ) (fs : List Forest) (end : ℕ) : Type 0 where
  pub reads : (s : List Symbol) (f : Forest) (m : ℕ) → Reads limit tokens depth s end f m → Reads limit tokens depth (statements_then s) start (statement_list fs f) m
  pub fails : (s : List Symbol) (e : Fault) → Fails limit tokens depth s end e → Fails limit tokens depth (statements_then s) start e
  pub ahead : start ≤ end
  pub within : end < length tokens

abbrev pub GivesStatements : List Token → ℕ → ℕ → Result (Vec Stmt Global × ℕ) Stop → Type 0
GivesStatements tokens depth start (Ok r) = (0 < length r.0.items) × ReadsStatements tokens depth start (map statement_derivation r.0.items) r.1
GivesStatements tokens depth start (Err e) = (s : List Symbol) → Stops tokens depth (statements_then s) start e

-- what ends a declaration, and the semicolons behind it
abbrev pub Closes : List Token → ℕ → ℕ → Result ℕ Stop → Type 0
Closes tokens depth start (Ok end) = (start ≤ end) × (end < length tokens) × ((s : List Symbol) (f : Forest) (m : ℕ) → Reads limit tokens depth s end f m → Reads limit tokens depth (Of Once g.AfterDeclaration ∷ Any k.Semicolon ∷ s) start (node g.AfterDeclaration done f) m)
    × ((s : List Symbol) (e : Stop) → Stops tokens depth s end e → Stops tokens depth (Of Once g.AfterDeclaration ∷ Any k.Semicolon ∷ s) start e)
Closes tokens depth start (Err e) = (s : List Symbol) → Stops tokens depth (Of Once g.AfterDeclaration ∷ s) start e
