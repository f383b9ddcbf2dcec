-- Which statements are typed, in the text in which they stand.
use Rattle.std.specs.Prelude.{◌≡◌, ℕ, Bool, true, false, List, [], ◌∷◌, slice_get, Option, Some, None}
use Rattle.sim_scope.specs.declared.scopes.Denotation.{Denotation}
use Rattle.sim_scope.specs.declared.scopes.Denotation.TheVariants as denotation
use Rattle.sim_scope.specs.declared.types.Entry.{Entry}
use Rattle.sim_scope.specs.declared.types.Entry.TheVariants as entry
use Rattle.sim_scope.specs.declared.types.Formal.{Formal}
use Rattle.sim_scope.specs.Access.{encloser}
use Rattle.sim_scope.specs.Assignments.{LeftSide, last_value, left_sides}
use Rattle.sim_scope.specs.Levels.{base, is_simulation_block}
use Rattle.sim_scope.specs.Scopes.{entry_of}
use Rattle.sim_scope.specs.Source.{Source, block_around, denoted, found_at}
use Rattle.sim_tree.specs.declared.expr.Identifier.{Identifier}
use Rattle.sim_tree.specs.declared.stmt.Assignment.{Assignment}
use Rattle.sim_tree.specs.declared.stmt.Assignment.TheVariants as assignment
use Rattle.sim_tree.specs.Syntax.{Also, Arms, Begin, Block, Declarations, Element, Expression, Expressions, NoArm, NoDeclaration, NoMore, NoStatement, Schedule, Statement, Statements, Then, When, With}
use Rattle.sim_tree.specs.Syntax as syntax
use Rattle.sim_values.specs.declared.kind.Kind.{Kind}
use Rattle.sim_values.specs.declared.kind.Kind.TheVariants as kind
use Rattle.sim_code.specs.Transfers.{Calling, Detaching, Resuming, Transfer}
use Rattle.sim_meaning.specs.Attributes.{connection_at, first_in, own_attribute, transfer_at}
use Rattle.sim_meaning.specs.Closing.{by_name, class_parameters, is_text, left_type, own_match, result_meant, stream_of}
use Rattle.sim_meaning.specs.Levels.{class_at, is_class, qualification}
use Rattle.sim_meaning.specs.Statements.{begin_of, leaves, simulation_around}
use Rattle.sim_meaning.specs.Texts.{BlockText, ConnectionText, PrefixedText, text}
use Rattle.sim_meaning.specs.Virtuals.{text_of_procedure}
use Rattle.sim_sound.specs.Held.{Around, Holds, In, Refers, Seen, Simply, entry_names, held_by, reference_to, result_holds}
use Rattle.sim_sound.specs.Expressions.{ActualsFit, AreIntegers, AreOf, DotGives, ExprIs, IdentifierGives, KnownAt, LeftHeld, ObjectHas, ParametersAre, PlaceIs, ThisFound}

-- ---- left sides

-- `Own` says that the left side stands inside the text of a procedure
abbrev pub LeftDeclared : Source → (Known : Type 0) → (Own : ℕ → Type 0) → Expressions → (Indices : Type 0) → Option Entry → Holds → Type 0
LeftDeclared s Known Own NoMore Indices (Some (entry.Procedure (Some type) k)) h = (held_by s type ≡ h) × Own k
LeftDeclared s Known Own (Then e es) Indices (Some (entry.Procedure result k)) h = ⊥
LeftDeclared s Known Own es Indices (Some e) h = LeftHeld Known es Indices (entry_names s (Some e)) h
LeftDeclared s Known Own es Indices None h = ⊥

-- what is seen through a connection is an attribute of an object, and no result
abbrev pub OwnText : Source → (text : ℕ) → (connection : Option ℕ) → (procedure : ℕ) → Type 0
OwnText s t None k = Around s.tables t k
OwnText s t (Some c) k = ⊥

abbrev pub NoText : (procedure : ℕ) → Type 0
NoText k = ⊥

abbrev pub LeftNamed : Source → ℕ → (connection : Option ℕ) → Option Denotation → Expressions → (Indices : Type 0) → Holds → Type 0
LeftNamed s t connection (Some (denotation.Declared d)) es Indices h = LeftDeclared s (KnownAt s (In t) connection d) (OwnText s t connection) es Indices (entry_of s.tables d) h
LeftNamed s t connection _ es Indices h = ⊥

abbrev pub LeftDot : Source → Option Denotation → (Object : ℕ → Type 0) → Expressions → (Indices : Type 0) → Holds → Type 0
LeftDot s (Some (denotation.Declared d)) Object es Indices h = LeftDeclared s (ObjectHas s Object d) NoText es Indices (entry_of s.tables d) h
LeftDot s _ Object es Indices h = ⊥

-- the result of a procedure from its inside
abbrev pub ResultIs : Source → ℕ → (block : ℕ) → Holds → Type 0
ResultIs s t block h = Around s.tables t block × (result_holds s block ≡ Some h)

-- the result of the match of a virtual, which is not seen through a connection; or else what is named
abbrev pub LeftResultOr : Source → ℕ → (connection match : Option ℕ) → Holds → (Other : Type 0) → Type 0
LeftResultOr s t None (Some block) h Other = ResultIs s t block h
LeftResultOr s t _ _ h Other = Other

abbrev pub LeftIs : Source → ℕ → Expression → Holds → Type 0
LeftIs s t (syntax.Named name es) h =
    LeftResultOr s t (connection_at s name.token.0) (text_of_procedure s (own_match s (syntax.Named name es))) h (LeftNamed s t (connection_at s name.token.0) (denoted s name.token.0) es (AreIntegers s (In t) es) h)
LeftIs s t (syntax.Dot token a name es) h = LeftDot s (denoted s name.token.0) (λ c. ExprIs s (In t) a (Refers c)) es (AreIntegers s (In t) es) h
LeftIs s t _ h = ⊥

-- a text that is assigned to: the result of a procedure from its inside, or any text value
abbrev pub TextLeft : Source → ℕ → Expression → (own : Option ℕ) → Type 0
TextLeft s t e (Some block) = ResultIs s t block (Simply kind.Text)
TextLeft s t e None = ExprIs s (In t) e (Simply kind.Text)

abbrev pub ReferenceAt : Source → ℕ → Expression → (own : Option ℕ) → (class : ℕ) → Type 0
ReferenceAt s t e (Some block) c = ResultIs s t block (Refers c)
ReferenceAt s t e None c = PlaceIs s (In t) e (Refers c)

-- A reference that is assigned to: it has a qualification, and each value that is assigned is held against it.
pub record ReferenceLeft (s : Source) (t : ℕ) (e : Expression) : Type 0 where
  pub class : ℕ
  pub qualified : qualification s (left_type s e) ≡ Some class
  pub at : ReferenceAt s t e (result_meant s e) class

abbrev pub LeftOf : (text : Bool) → Assignment → Source → ℕ → Expression → Kind → Type 0
LeftOf true assignment.Value s t e k = (k ≡ kind.Text) × TextLeft s t e (result_meant s e)
LeftOf true assignment.Reference s t e k = (k ≡ kind.Reference → ⊥) × LeftIs s t e (Simply k)
LeftOf false assignment.Value s t e k = (k ≡ kind.Reference → ⊥) × LeftIs s t e (Simply k)
LeftOf false assignment.Reference s t e k = (k ≡ kind.Reference) × ReferenceLeft s t e

-- left sides of a value of a kind
abbrev pub LeftsAre : Source → ℕ → List LeftSide → Kind → Type 0
LeftsAre s t [] k = Unit {0}
LeftsAre s t (l ∷ ls) k = LeftOf (is_text s l.target) l.sign s t l.target k × LeftsAre s t ls k

-- ---- loops

-- one element of a `for` list for a variable of a kind
abbrev pub ElementIs : Source → ℕ → Kind → Element → Type 0
ElementIs s t k (syntax.Once e) = ExprIs s (In t) e (Simply k)
ElementIs s t k (syntax.While e token c) = ExprIs s (In t) e (Simply k) × ExprIs s (In t) c (Simply kind.Boolean)
ElementIs s t k (syntax.Step start token step limit) = (k ≡ kind.Integer) × ExprIs s (In t) start (Simply kind.Integer) × ExprIs s (In t) step (Simply kind.Integer) × ExprIs s (In t) limit (Simply kind.Integer)

abbrev pub ElementsAre : Source → ℕ → Kind → List Element → Type 0
ElementsAre s t k [] = Unit {0}
ElementsAre s t k (e ∷ es) = ElementIs s t k e × ElementsAre s t k es

-- the variable of a `for` list, to which values of a kind are assigned by a sign; no parameter by name
abbrev pub ControlOf : (text : Bool) → Assignment → Source → ℕ → Expression → Kind → Type 0
ControlOf true assignment.Value s t e k = (k ≡ kind.Text) × LeftIs s t e (Simply k)
ControlOf true assignment.Reference s t e k = LeftIs s t e (Simply k)
ControlOf false assignment.Value s t e k = LeftIs s t e (Simply k)
ControlOf false assignment.Reference s t e k = (k ≡ kind.Reference) × ReferenceLeft s t e

abbrev pub ControlIs : (text : Bool) → Assignment → Source → ℕ → Expression → Kind → Type 0
ControlIs text sign s t e k = (by_name s e ≡ None) × ControlOf text sign s t e k

-- ---- calls

abbrev pub is_given : Option Holds → Bool
is_given None = false
is_given (Some h) = true

-- a transfer of control: `detach` of what is found around, without an actual parameter; `call` and `resume` of a reference
abbrev pub TransferIs : Source → ℕ → Transfer → (found : Option ℕ) → Expressions → Type 0
TransferIs s t Detaching found es = ThisFound s (In t) found (Simply kind.Reference) × AreOf s (In t) es []
TransferIs s t Calling found es = AreOf s (In t) es (kind.Reference ∷ [])
TransferIs s t Resuming found es = AreOf s (In t) es (kind.Reference ∷ [])

abbrev pub OrTransferIs : Option Transfer → (Transfers : Transfer → Type 0) → (Other : Type 0) → Type 0
OrTransferIs None Transfers Other = Other
OrTransferIs (Some c) Transfers Other = Transfers c

-- a call that stands as a statement, whatever it gives; behind a dot a transfer is `detach`
abbrev pub CallIs : Source → ℕ → Expression → Type 0
CallIs s t (syntax.Named name es) =
    OrTransferIs (transfer_at s name.token.0) (λ c. TransferIs s t c (found_at s name.token.0) es)
    ((h : Option Holds) × IdentifierGives s (In t) name.token.0 (connection_at s name.token.0) (own_attribute s name.token.0) es (AreIntegers s (In t) es) (ParametersAre s (In t) es) (λ ks. AreOf s (In t) es ks) (λ fs. ActualsFit s (In t) es fs) h × (leaves s (syntax.Named name es) ≡ is_given h))
CallIs s t (syntax.Dot token a name es) =
    OrTransferIs (transfer_at s name.token.0) (λ c. ExprIs s (In t) a (Simply kind.Reference) × AreOf s (In t) es [])
    ((h : Option Holds) × DotGives s (denoted s name.token.0) (stream_of s a) (ExprIs s (In t) a (Simply kind.Text)) (λ c. ExprIs s (In t) a (Refers c)) es (AreIntegers s (In t) es) (ParametersAre s (In t) es) (λ ks. AreOf s (In t) es ks) (λ fs. ActualsFit s (In t) es fs) h × (leaves s (syntax.Dot token a name es) ≡ is_given h))
CallIs s t (syntax.New token class es) = ExprIs s (In t) (syntax.New token class es) (Simply kind.Reference)
CallIs s t _ = ⊥

-- ---- texts that stand in a text

-- a sub-block is the text around its first token, and stands in this one
pub record BlockIs (s : Source) (t token : ℕ) : Type 0 where
  pub number : ℕ
  pub around : block_around s token ≡ Some number
  pub stands_in : encloser s.tables number ≡ Some t
  pub begin : ℕ
  pub declarations : Declarations
  pub statements : Statements
  pub is : text s number ≡ Some (BlockText begin declarations statements)

-- A prefixed block is the text around its first token, and stands in this one, as the actual parameters of its prefix do.
pub record PrefixedIs (s : Source) (t token : ℕ) (Actuals : List Formal → Type 0) : Type 0 where
  pub number : ℕ
  pub around : block_around s token ≡ Some number
  pub stands_in : encloser s.tables number ≡ Some t
  pub class : Identifier
  pub arguments : Expressions
  pub declarations : Declarations
  pub statements : Statements
  pub is : text s number ≡ Some (PrefixedText class arguments declarations statements)
  pub actuals : Actuals (class_parameters s (Some number))

abbrev pub WholeBlock : Source → ℕ → (token : ℕ) → Declarations → (Inner : Type 0) → Type 0
WholeBlock s t token NoDeclaration Inner = Inner
WholeBlock s t token (With d ds) Inner = BlockIs s t token

-- a connection is the text around the token with which it begins, and stands in this one
pub record ConnectionIs (s : Source) (t opening : ℕ) : Type 0 where
  pub number : ℕ
  pub around : block_around s opening ≡ Some number
  pub begins : first_in (slice_get s.tables.blocks number) ≡ opening
  pub stands_in : encloser s.tables number ≡ Some t
  pub is : text s number ≡ Some ConnectionText

-- `inner` stands in the text of its class
abbrev pub InnerIs : Source → ℕ → (token : ℕ) → Type 0
InnerIs s t token = (block_around s token ≡ Some t) × (is_class (text s t) ≡ true)

-- ---- activations

-- the nearest simulation around a token, whose level is one of a text around that is no connection
pub record SimulationIs (s : Source) (t token : ℕ) : Type 0 where
  pub block : ℕ
  pub is : simulation_around s token ≡ Some block
  pub simulates : is_simulation_block s.tables block ≡ true
  pub seen : Seen s t block

abbrev pub TimingIs : Source → ℕ → Schedule → Type 0
TimingIs s t syntax.Now = Unit {0}
TimingIs s t (syntax.At token e prior) = ExprIs s (In t) e (Simply kind.Integer)
TimingIs s t (syntax.Delay token e prior) = ExprIs s (In t) e (Simply kind.Integer)
TimingIs s t (syntax.Before token e) = ExprIs s (In t) e (Simply kind.Reference)
TimingIs s t (syntax.After token e) = ExprIs s (In t) e (Simply kind.Reference)

-- ---- statements

abbrev mutual
  pub StatementIs : Source → ℕ → Statement → Type 0
  StatementIs s t (syntax.Empty token) = Unit {0}
  StatementIs s t (syntax.Compound b) = CompoundIs s t b
  StatementIs s t (syntax.Prefixed class es b) = PrefixedIs s t (begin_of b) (λ fs. ActualsFit s (In t) es fs)
  StatementIs s t (syntax.Inner token) = InnerIs s t token
  StatementIs s t (syntax.Call e) = CallIs s t e
  StatementIs s t (syntax.Assign left rs) = (k : Kind) × LeftsAre s t (left_sides left rs) k × ExprIs s (In t) (last_value left rs) (Simply k)
  StatementIs s t (syntax.Choose token c a b) = ExprIs s (In t) c (Simply kind.Boolean) × StatementIs s t a × StatementsAre s t b
  StatementIs s t (syntax.Repeat token c a) = ExprIs s (In t) c (Simply kind.Boolean) × StatementIs s t a
  StatementIs s t (syntax.For token x sign assign es a) = (k : Kind) × ControlIs (is_text s (syntax.Named x NoMore)) sign s t (syntax.Named x NoMore) k × ElementsAre s t k es × StatementIs s t a
  -- what is connected has the qualification that it is connected by
  StatementIs s t (syntax.Inspect token e opening a end other) =
      (c : ConnectionIs s t opening) × ExprIs s (In t) e (reference_to (base s.tables c.number)) × StatementIs s c.number a × StatementsAre s t other
  StatementIs s t (syntax.InspectWhen token e arms other) = ExprIs s (In t) e (Simply kind.Reference) × ArmsAre s t arms × StatementsAre s t other
  StatementIs s t (syntax.Activate token word e schedule) = SimulationIs s t token × ExprIs s (In t) e (Simply kind.Reference) × TimingIs s t schedule

  -- each arm connects by its class
  pub ArmsAre : Source → ℕ → Arms → Type 0
  ArmsAre s t NoArm = Unit {0}
  ArmsAre s t (When token class opening a end more) =
      (c : ConnectionIs s t opening) × (k : ℕ) × (class_at s class.token.0 ≡ Some k) × (base s.tables c.number ≡ Some k) × StatementIs s c.number a × ArmsAre s t more

  pub StatementsAre : Source → ℕ → Statements → Type 0
  StatementsAre s t NoStatement = Unit {0}
  StatementsAre s t (Also a more) = StatementIs s t a × StatementsAre s t more

  pub CompoundIs : Source → ℕ → Block → Type 0
  CompoundIs s t (Begin token ds ss end) = WholeBlock s t token ds (StatementsAre s t ss)
