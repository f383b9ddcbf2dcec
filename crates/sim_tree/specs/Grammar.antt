-- The grammar, as a table. Each part has rows; the next token chooses the row, and the row says what the part consists of.
use Rattle.std.specs.Prelude.{Bool, true, false, ◌||◌, List, [], ◌∷◌, Option, Some, None, if◌then◌else◌}
use denote.Enum.Bare.{sameb}
use Rattle.sim_base.specs.contracts.token.TokenKind.{the_type}
use Rattle.sim_base.specs.declared.token.TokenKind.{TokenKind}
use Rattle.sim_base.specs.declared.token.TokenKind.TheVariants as k

-- What the grammar names, in its order. A thing that is optional or repeated is a part of its own, behind the one that has it.
pub data Part : Type 0 where
  Program : Part
  Compound : Part
  Block : Part
  AfterDeclaration : Part
  AfterIdentifier : Part
  Declaration : Part
  TypedDeclaration : Part
  NextArraySegment : Part
  NextVariable : Part
  TypeName : Part
  Variable : Part
  Value : Part
  Constant : Part
  Identifiers : Part
  NextIdentifier : Part
  ArraySegment : Part
  Bounds : Part
  NextBounds : Part
  Procedure : Part
  Heading : Part
  Mode : Part
  Specification : Part
  SpecifiedKind : Part
  Class : Part
  Protection : Part
  AndProtected : Part
  AndHidden : Part
  Virtuals : Part
  VirtualSpecification : Part
  NextStatement : Part
  Statement : Part
  StatementOfIdentifier : Part
  AfterFirstOperand : Part
  Assigned : Part
  ElseBranch : Part
  ForList : Part
  NextForElement : Part
  NextReferenceElement : Part
  Arms : Part
  OtherwiseBranch : Part
  ForElement : Part
  ForElementTail : Part
  ReferenceElement : Part
  ReferenceElementTail : Part
  WhenArm : Part
  Timing : Part
  PriorMark : Part
  Expression : Part
  SimpleExpression : Part
  NextOrElse : Part
  AndThen : Part
  NextAndThen : Part
  Equivalence : Part
  NextEquivalence : Part
  Implication : Part
  NextImplication : Part
  Disjunction : Part
  NextOr : Part
  Conjunction : Part
  NextAnd : Part
  Negation : Part
  NotSign : Part
  Relation : Part
  RelationTail : Part
  Concatenation : Part
  NextConcatenated : Part
  Sum : Part
  LeadingSign : Part
  NextTerm : Part
  Term : Part
  NextFactor : Part
  Factor : Part
  NextPower : Part
  Postfix : Part
  Selection : Part
  Primary : Part
  Arguments : Part
  NextArgument : Part

-- how often a part stands there
pub data Times : Type 0 where
  Once : Times
  Maybe : Times
  Many : Times

-- What a part consists of: a token of one of these kinds, which the tree keeps; a token that it does not keep; any number of such
-- tokens; the place of the next token, which is not taken; a part.
pub data Symbol : Type 0 where
  Kept : List TokenKind → Symbol
  Mark : TokenKind → Symbol
  Any : TokenKind → Symbol
  Here : Symbol
  Of : Times → Part → Symbol

-- a row: where the next token is one of these, or in every other case
pub data Row : Type 0 where
  At : List TokenKind → List Symbol → Row
  Else : List Symbol → Row

-- the same kind
unfoldable pub is : TokenKind → TokenKind → Bool
is a b = sameb the_type a b

abbrev pub one_of : List TokenKind → TokenKind → Bool
one_of [] a = false
one_of (b ∷ bs) a = is a b || one_of bs a

abbrev pub just : TokenKind → List TokenKind
just a = a ∷ []

abbrev pub types : List TokenKind
types = k.IntegerWord ∷ k.Boolean ∷ k.CharacterWord ∷ k.TextWord ∷ k.Ref ∷ []

abbrev pub signs : List TokenKind
signs = k.Plus ∷ k.Minus ∷ []

abbrev pub assignments : List TokenKind
assignments = k.Assign ∷ k.AssignReference ∷ []

abbrev pub relations : List TokenKind
relations = k.Less ∷ k.LessEqual ∷ k.Equal ∷ k.GreaterEqual ∷ k.Greater ∷ k.NotEqual ∷ k.SameReference ∷ k.OtherReference ∷ []

-- the constants of an expression
abbrev pub literals : List TokenKind
literals = k.Integer ∷ k.Character ∷ k.Text ∷ k.True ∷ k.False ∷ k.None ∷ k.Notext ∷ []

-- what begins a simple expression
abbrev pub begins_simple : List TokenKind
begins_simple =
    k.Not ∷ k.Plus ∷ k.Minus ∷ k.Integer ∷ k.Character ∷ k.Text ∷ k.True ∷ k.False ∷ k.None ∷ k.Notext
    ∷ k.Identifier ∷ k.This ∷ k.New ∷ k.Open ∷ []

-- what begins a statement, an identifier apart
abbrev pub begins_statement : List TokenKind
begins_statement =
    k.Begin ∷ k.Inner ∷ k.This ∷ k.New ∷ k.Open ∷ k.If ∷ k.While ∷ k.For ∷ k.Inspect ∷ k.Activate ∷ k.Reactivate ∷ []

-- The rows of a part. The first that the next token fits is taken.
abbrev pub rows : Part → List Row
rows Program =
    At (just k.Begin) (Of Once Compound ∷ Any k.Semicolon ∷ Mark k.EndOfSource ∷ [])
    ∷ At (just k.Identifier) (Kept (just k.Identifier) ∷ Of Maybe Arguments ∷ Of Once Compound ∷ Any k.Semicolon ∷ Mark k.EndOfSource ∷ []) ∷ []
rows Compound = At (just k.Begin) (Kept (just k.Begin) ∷ Any k.Semicolon ∷ Of Once Block ∷ []) ∷ []
-- An identifier is taken first, and the token after it says whether it begins a declaration.
rows Block =
    At (k.Procedure ∷ k.Class ∷ types) (Of Once Declaration ∷ Of Once AfterDeclaration ∷ Any k.Semicolon ∷ Of Once Block ∷ [])
    ∷ At (just k.Identifier) (Kept (just k.Identifier) ∷ Of Once AfterIdentifier ∷ [])
    ∷ At (just k.End) (Kept (just k.End) ∷ [])
    ∷ At begins_statement (Of Once Statement ∷ Of Many NextStatement ∷ Kept (just k.End) ∷ []) ∷ []
rows AfterIdentifier =
    At (just k.Class) (Kept (just k.Class) ∷ Of Once Class ∷ Of Once AfterDeclaration ∷ Any k.Semicolon ∷ Of Once Block ∷ [])
    ∷ Else (Of Once StatementOfIdentifier ∷ Of Many NextStatement ∷ Kept (just k.End) ∷ []) ∷ []
-- what ends a declaration
rows AfterDeclaration = At (just k.Semicolon) (Mark k.Semicolon ∷ []) ∷ At (just k.End) [] ∷ []
rows Declaration =
    At types (Of Once TypeName ∷ Of Once TypedDeclaration ∷ [])
    ∷ At (just k.Procedure) (Kept (just k.Procedure) ∷ Of Once Procedure ∷ [])
    ∷ At (just k.Class) (Kept (just k.Class) ∷ Of Once Class ∷ []) ∷ []
rows TypedDeclaration =
    At (just k.Procedure) (Kept (just k.Procedure) ∷ Of Once Procedure ∷ [])
    ∷ At (just k.Array) (Kept (just k.Array) ∷ Of Once ArraySegment ∷ Of Many NextArraySegment ∷ [])
    ∷ At (just k.Identifier) (Of Once Variable ∷ Of Many NextVariable ∷ []) ∷ []
rows NextArraySegment = At (just k.Comma) (Mark k.Comma ∷ Of Once ArraySegment ∷ []) ∷ []
rows NextVariable = At (just k.Comma) (Mark k.Comma ∷ Of Once Variable ∷ []) ∷ []
rows TypeName =
    At (just k.Ref) (Kept (just k.Ref) ∷ Mark k.Open ∷ Kept (just k.Identifier) ∷ Mark k.Close ∷ [])
    ∷ At types (Kept types ∷ []) ∷ []
rows Variable = At (just k.Identifier) (Kept (just k.Identifier) ∷ Of Maybe Value ∷ []) ∷ []
rows Value = At (just k.Equal) (Mark k.Equal ∷ Of Once Constant ∷ []) ∷ []
rows Constant =
    At signs (Kept signs ∷ Kept (just k.Integer) ∷ [])
    ∷ (let constants = k.Integer ∷ k.Character ∷ k.Text ∷ k.True ∷ k.False ∷ [] in At constants (Kept constants ∷ [])) ∷ []
rows Identifiers = At (just k.Identifier) (Kept (just k.Identifier) ∷ Of Many NextIdentifier ∷ []) ∷ []
rows NextIdentifier = At (just k.Comma) (Mark k.Comma ∷ Kept (just k.Identifier) ∷ []) ∷ []
rows ArraySegment = Else (Of Once Identifiers ∷ Mark k.Open ∷ Of Once Bounds ∷ Of Many NextBounds ∷ Mark k.Close ∷ []) ∷ []
rows Bounds = Else (Of Once Expression ∷ Mark k.Colon ∷ Of Once Expression ∷ []) ∷ []
rows NextBounds = At (just k.Comma) (Mark k.Comma ∷ Of Once Bounds ∷ []) ∷ []
rows Procedure = Else (Kept (just k.Identifier) ∷ Of Once Heading ∷ Of Once Statement ∷ Here ∷ []) ∷ []
rows Heading =
    At (just k.Open) (Mark k.Open ∷ Of Once Identifiers ∷ Mark k.Close ∷ Mark k.Semicolon ∷ Of Many Mode ∷ Of Once Specification ∷ Of Many Specification ∷ [])
    ∷ At (just k.Semicolon) (Mark k.Semicolon ∷ []) ∷ []
rows Mode = (let modes = k.Value ∷ k.Name ∷ [] in At modes (Kept modes ∷ Of Once Identifiers ∷ Mark k.Semicolon ∷ [])) ∷ []
rows Specification =
    At types (Of Once TypeName ∷ Of Maybe SpecifiedKind ∷ Of Once Identifiers ∷ Mark k.Semicolon ∷ [])
    ∷ At (just k.Procedure) (Kept (just k.Procedure) ∷ Of Once Identifiers ∷ Mark k.Semicolon ∷ []) ∷ []
rows SpecifiedKind = (let kinds = k.Array ∷ k.Procedure ∷ [] in At kinds (Kept kinds ∷ [])) ∷ []
rows Class = Else (Kept (just k.Identifier) ∷ Of Once Heading ∷ Of Many Protection ∷ Of Maybe Virtuals ∷ Of Once Statement ∷ Here ∷ []) ∷ []
rows Protection =
    At (just k.Hidden) (Kept (just k.Hidden) ∷ Of Maybe AndProtected ∷ Of Once Identifiers ∷ Mark k.Semicolon ∷ [])
    ∷ At (just k.Protected) (Kept (just k.Protected) ∷ Of Maybe AndHidden ∷ Of Once Identifiers ∷ Mark k.Semicolon ∷ []) ∷ []
rows AndProtected = At (just k.Protected) (Kept (just k.Protected) ∷ []) ∷ []
rows AndHidden = At (just k.Hidden) (Kept (just k.Hidden) ∷ []) ∷ []
rows Virtuals = At (just k.Virtual) (Mark k.Virtual ∷ Mark k.Colon ∷ Of Once VirtualSpecification ∷ Of Many VirtualSpecification ∷ []) ∷ []
rows VirtualSpecification =
    At types (Of Once TypeName ∷ Kept (just k.Procedure) ∷ Of Once Identifiers ∷ Mark k.Semicolon ∷ [])
    ∷ At (just k.Procedure) (Kept (just k.Procedure) ∷ Of Once Identifiers ∷ Mark k.Semicolon ∷ []) ∷ []
rows NextStatement = At (just k.Semicolon) (Mark k.Semicolon ∷ Of Once Statement ∷ []) ∷ []
-- A statement that no token begins is empty. Where an identifier begins it, the token behind it and its actuals decides.
rows Statement =
    At (just k.Begin) (Of Once Compound ∷ [])
    ∷ At (just k.Identifier) (Kept (just k.Identifier) ∷ Of Maybe Arguments ∷ Of Once AfterFirstOperand ∷ [])
    ∷ At (just k.Inner) (Kept (just k.Inner) ∷ [])
    ∷ At (k.This ∷ k.New ∷ k.Open ∷ []) (Of Once Postfix ∷ Of Many Assigned ∷ [])
    ∷ At (just k.If) (Kept (just k.If) ∷ Of Once Expression ∷ Mark k.Then ∷ Of Once Statement ∷ Of Maybe ElseBranch ∷ [])
    ∷ At (just k.While) (Kept (just k.While) ∷ Of Once Expression ∷ Mark k.Do ∷ Of Once Statement ∷ [])
    ∷ At (just k.For) (Kept (just k.For) ∷ Kept (just k.Identifier) ∷ Of Once ForList ∷ Mark k.Do ∷ Of Once Statement ∷ [])
    ∷ At (just k.Inspect) (Kept (just k.Inspect) ∷ Of Once Expression ∷ Of Once Arms ∷ Of Maybe OtherwiseBranch ∷ [])
    ∷ (let words = k.Activate ∷ k.Reactivate ∷ [] in At words (Kept words ∷ Of Once Expression ∷ Of Maybe Timing ∷ []))
    ∷ Else (Here ∷ []) ∷ []
-- a statement whose identifier was taken before
rows StatementOfIdentifier = Else (Of Maybe Arguments ∷ Of Once AfterFirstOperand ∷ []) ∷ []
rows AfterFirstOperand = At (just k.Begin) (Of Once Compound ∷ []) ∷ Else (Of Many Selection ∷ Of Many Assigned ∷ []) ∷ []
rows Assigned = At assignments (Kept assignments ∷ Of Once Expression ∷ []) ∷ []
rows ElseBranch = At (just k.Else) (Mark k.Else ∷ Of Once Statement ∷ []) ∷ []
rows ForList =
    At (just k.Assign) (Kept (just k.Assign) ∷ Of Once ForElement ∷ Of Many NextForElement ∷ [])
    ∷ At (just k.AssignReference) (Kept (just k.AssignReference) ∷ Of Once ReferenceElement ∷ Of Many NextReferenceElement ∷ []) ∷ []
rows NextForElement = At (just k.Comma) (Mark k.Comma ∷ Of Once ForElement ∷ []) ∷ []
rows NextReferenceElement = At (just k.Comma) (Mark k.Comma ∷ Of Once ReferenceElement ∷ []) ∷ []
rows Arms =
    At (just k.Do) (Kept (just k.Do) ∷ Of Once Statement ∷ Here ∷ [])
    ∷ At (just k.When) (Of Once WhenArm ∷ Of Many WhenArm ∷ []) ∷ []
rows OtherwiseBranch = At (just k.Otherwise) (Mark k.Otherwise ∷ Of Once Statement ∷ []) ∷ []
rows ForElement = Else (Of Once Expression ∷ Of Maybe ForElementTail ∷ []) ∷ []
rows ForElementTail =
    At (just k.Step) (Kept (just k.Step) ∷ Of Once Expression ∷ Mark k.Until ∷ Of Once Expression ∷ [])
    ∷ At (just k.While) (Kept (just k.While) ∷ Of Once Expression ∷ []) ∷ []
rows ReferenceElement = Else (Of Once Expression ∷ Of Maybe ReferenceElementTail ∷ []) ∷ []
rows ReferenceElementTail = At (just k.While) (Kept (just k.While) ∷ Of Once Expression ∷ []) ∷ []
rows WhenArm = At (just k.When) (Kept (just k.When) ∷ Kept (just k.Identifier) ∷ Kept (just k.Do) ∷ Of Once Statement ∷ Here ∷ []) ∷ []
rows Timing =
    (let times = k.At ∷ k.Delay ∷ [] in At times (Kept times ∷ Of Once Expression ∷ Of Maybe PriorMark ∷ []))
    ∷ (let places = k.Before ∷ k.After ∷ [] in At places (Kept places ∷ Of Once Expression ∷ [])) ∷ []
rows PriorMark = At (just k.Prior) (Kept (just k.Prior) ∷ []) ∷ []
rows Expression =
    At (just k.If) (Kept (just k.If) ∷ Of Once Expression ∷ Mark k.Then ∷ Of Once SimpleExpression ∷ Mark k.Else ∷ Of Once Expression ∷ [])
    ∷ At begins_simple (Of Once SimpleExpression ∷ []) ∷ []
rows SimpleExpression = Else (Of Once AndThen ∷ Of Many NextOrElse ∷ []) ∷ []
rows NextOrElse = At (just k.OrElse) (Kept (just k.OrElse) ∷ Of Once AndThen ∷ []) ∷ []
rows AndThen = Else (Of Once Equivalence ∷ Of Many NextAndThen ∷ []) ∷ []
rows NextAndThen = At (just k.AndThen) (Kept (just k.AndThen) ∷ Of Once Equivalence ∷ []) ∷ []
rows Equivalence = Else (Of Once Implication ∷ Of Many NextEquivalence ∷ []) ∷ []
rows NextEquivalence = At (just k.Eqv) (Kept (just k.Eqv) ∷ Of Once Implication ∷ []) ∷ []
rows Implication = Else (Of Once Disjunction ∷ Of Many NextImplication ∷ []) ∷ []
rows NextImplication = At (just k.Imp) (Kept (just k.Imp) ∷ Of Once Disjunction ∷ []) ∷ []
rows Disjunction = Else (Of Once Conjunction ∷ Of Many NextOr ∷ []) ∷ []
rows NextOr = At (just k.Or) (Kept (just k.Or) ∷ Of Once Conjunction ∷ []) ∷ []
rows Conjunction = Else (Of Once Negation ∷ Of Many NextAnd ∷ []) ∷ []
rows NextAnd = At (just k.And) (Kept (just k.And) ∷ Of Once Negation ∷ []) ∷ []
rows Negation = Else (Of Many NotSign ∷ Of Once Relation ∷ []) ∷ []
rows NotSign = At (just k.Not) (Kept (just k.Not) ∷ []) ∷ []
rows Relation = Else (Of Once Concatenation ∷ Of Maybe RelationTail ∷ []) ∷ []
rows RelationTail =
    At relations (Kept relations ∷ Of Once Concatenation ∷ [])
    ∷ (let tests = k.Is ∷ k.In ∷ [] in At tests (Kept tests ∷ Kept (just k.Identifier) ∷ [])) ∷ []
rows Concatenation = Else (Of Once Sum ∷ Of Many NextConcatenated ∷ []) ∷ []
rows NextConcatenated = At (just k.Ampersand) (Kept (just k.Ampersand) ∷ Of Once Sum ∷ []) ∷ []
rows Sum = Else (Of Maybe LeadingSign ∷ Of Once Term ∷ Of Many NextTerm ∷ []) ∷ []
rows LeadingSign = At signs (Kept signs ∷ []) ∷ []
rows NextTerm = At signs (Kept signs ∷ Of Once Term ∷ []) ∷ []
rows Term = Else (Of Once Factor ∷ Of Many NextFactor ∷ []) ∷ []
rows NextFactor = (let operators = k.Times ∷ k.Divide ∷ [] in At operators (Kept operators ∷ Of Once Factor ∷ [])) ∷ []
rows Factor = Else (Of Once Postfix ∷ Of Many NextPower ∷ []) ∷ []
rows NextPower = At (just k.Power) (Kept (just k.Power) ∷ Of Once Postfix ∷ []) ∷ []
rows Postfix = Else (Of Once Primary ∷ Of Many Selection ∷ []) ∷ []
rows Selection =
    At (just k.Dot) (Kept (just k.Dot) ∷ Kept (just k.Identifier) ∷ Of Maybe Arguments ∷ [])
    ∷ At (just k.Qua) (Kept (just k.Qua) ∷ Kept (just k.Identifier) ∷ []) ∷ []
rows Primary =
    At literals (Kept literals ∷ [])
    ∷ At (just k.Identifier) (Kept (just k.Identifier) ∷ Of Maybe Arguments ∷ [])
    ∷ At (just k.This) (Kept (just k.This) ∷ Kept (just k.Identifier) ∷ [])
    ∷ At (just k.New) (Kept (just k.New) ∷ Kept (just k.Identifier) ∷ Of Maybe Arguments ∷ [])
    ∷ At (just k.Open) (Kept (just k.Open) ∷ Of Once Expression ∷ Mark k.Close ∷ []) ∷ []
rows Arguments = At (just k.Open) (Mark k.Open ∷ Of Once Expression ∷ Of Many NextArgument ∷ Mark k.Close ∷ []) ∷ []
rows NextArgument = At (just k.Comma) (Mark k.Comma ∷ Of Once Expression ∷ []) ∷ []

abbrev pub chosen : List Row → TokenKind → Option (List Symbol)
chosen [] a = None
chosen (At next right ∷ others) a = if one_of next a then Some right else chosen others a
chosen (Else right ∷ others) a = Some right

-- What a part consists of, by the next token; None where the part cannot begin with it.
unfoldable pub right_side : Part → TokenKind → Option (List Symbol)
right_side n a = chosen (rows n) a

-- the parts that count as depth
abbrev pub is_counted : Part → Bool
is_counted Statement = true
is_counted StatementOfIdentifier = true
is_counted Expression = true
is_counted _ = false

-- the parts whose first token was taken before them
abbrev pub is_begun : Part → Bool
is_begun StatementOfIdentifier = true
is_begun _ = false
