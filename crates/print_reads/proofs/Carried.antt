-- What two derivations of one shape give: items that differ in numbers alone, and the tokens that they are written by.
use Rattle.std.proofs.Common.{◌≡◌, ℕ, List, [], ◌∷◌, ◌++◌, Option, map, sym, ap, ◌∙◌, append-nil}
use Rattle.std.specs.Prelude.{option_map}
use Rattle.sim_base.specs.Lexeme.{bare, bytes_of, character, character_of, integer_of, named, text, whole_number}
use Rattle.sim_base.specs.declared.token.Lexeme.{Lexeme}
use Rattle.sim_base.specs.declared.token.TokenKind.{TokenKind}
use Rattle.sim_base.specs.declared.token.TokenKind.TheVariants as k
use Rattle.sim_base.specs.declared.token.TokenValue.{TokenValue}
use Rattle.sim_tree.specs.declared.expr.Identifier.{Identifier}
use Rattle.sim_tree.specs.declared.stmt.Assignment.{Assignment}
use Rattle.sim_tree.specs.declared.stmt.Constant.{Constant}
use Rattle.sim_tree.specs.declared.stmt.TypeName.{TypeName}
use Rattle.sim_tree.specs.declared.stmt.Variable.{Variable}
use Rattle.sim_tree.specs.Grammar as g
use Rattle.sim_tree.specs.Grammar.{Any, At, Else, Here, Kept, Many, Mark, Maybe, Of, Once, Part, Row, Symbol, Times}
use Rattle.sim_tree.specs.ProgramDerivation.{assignment_kind}
use Rattle.sim_tree.specs.Reading.{after}
use Rattle.sim_tree.specs.Syntax as s
use Rattle.sim_tree.specs.Syntax.{Arrayed, Block, BoundPair, Declaration, Element, Expression, Expressions, Heading, Moded, Program, Protected, RightSide, Schedule, Specification, Specified, Statement, Statements, Virtual}
use Rattle.sim_tree.specs.SyntaxOfProgram.{Arm}
use Rattle.sim_print.specs.Tokens as token
use Rattle.sim_print.specs.Tokens.{behind_comma, name, one}
use Rattle.sim_print.specs.Unnumbered as u
use Rattle.sim_tree.proofs.ReadBack as r
use Rattle.sim_tree.proofs.ReadBack.{Contents, Item}

-- what a token that is kept is written by
abbrev pub lexeme : TokenKind → TokenValue → Lexeme
lexeme k.Identifier value = named (bytes_of value)
lexeme k.Integer value = whole_number (integer_of value)
lexeme k.Character value = character (character_of value)
lexeme k.Text value = text (bytes_of value)
lexeme kind value = bare kind

-- what a part gives
pub data Sort : Type 0 where
  IsValue : Sort
  IsNextValue : Sort
  IsStep : Sort
  IsFront : Sort
  IsActuals : Sort
  IsKind : Sort
  IsNextName : Sort
  IsNames : Sort
  IsConstant : Sort
  IsValued : Sort
  IsVariable : Sort
  IsNextVariable : Sort
  IsBound : Sort
  IsNextBound : Sort
  IsSegment : Sort
  IsNextSegment : Sort
  IsModing : Sort
  IsSpecifying : Sort
  IsKindOf : Sort
  IsHead : Sort
  IsMark : TokenKind → Sort
  IsProtecting : Sort
  IsVirtually : Sort
  IsVirtuals : Sort
  IsOfType : Sort
  IsProcedure : Sort
  IsClass : Sort
  IsDeclaration : Sort
  IsElement : Sort
  IsNextElement : Sort
  IsTail : Sort
  IsForPart : Sort
  IsSide : Sort
  IsTimed : Sort
  IsConnection : Sort
  IsArm : Sort
  IsStatement : Sort
  IsLed : TokenKind → Sort
  IsBody : Sort
  IsInside : Sort
  IsOfName : Sort
  IsBegun : Sort
  IsAfterOperand : Sort
  IsWhole : Sort
  IsEnded : Sort

abbrev pub sort : Part → Sort
sort g.Program = IsWhole
sort g.Compound = IsBody
sort g.Block = IsInside
sort g.AfterDeclaration = IsEnded
sort g.AfterIdentifier = IsOfName
sort g.Declaration = IsDeclaration
sort g.TypedDeclaration = IsOfType
sort g.NextArraySegment = IsNextSegment
sort g.NextVariable = IsNextVariable
sort g.TypeName = IsKind
sort g.Variable = IsVariable
sort g.Value = IsValued
sort g.Constant = IsConstant
sort g.Identifiers = IsNames
sort g.NextIdentifier = IsNextName
sort g.ArraySegment = IsSegment
sort g.Bounds = IsBound
sort g.NextBounds = IsNextBound
sort g.Procedure = IsProcedure
sort g.Heading = IsHead
sort g.Mode = IsModing
sort g.Specification = IsSpecifying
sort g.SpecifiedKind = IsKindOf
sort g.Class = IsClass
sort g.Protection = IsProtecting
sort g.AndProtected = IsMark k.Protected
sort g.AndHidden = IsMark k.Hidden
sort g.Virtuals = IsVirtuals
sort g.VirtualSpecification = IsVirtually
sort g.NextStatement = IsLed k.Semicolon
sort g.Statement = IsStatement
sort g.StatementOfIdentifier = IsBegun
sort g.AfterFirstOperand = IsAfterOperand
sort g.Assigned = IsSide
sort g.ElseBranch = IsLed k.Else
sort g.ForList = IsForPart
sort g.NextForElement = IsNextElement
sort g.NextReferenceElement = IsNextElement
sort g.Arms = IsConnection
sort g.OtherwiseBranch = IsLed k.Otherwise
sort g.ForElement = IsElement
sort g.ForElementTail = IsTail
sort g.ReferenceElement = IsElement
sort g.ReferenceElementTail = IsTail
sort g.WhenArm = IsArm
sort g.Timing = IsTimed
sort g.PriorMark = IsMark k.Prior
sort g.NextOrElse = IsStep
sort g.NextAndThen = IsStep
sort g.NextEquivalence = IsStep
sort g.NextImplication = IsStep
sort g.NextOr = IsStep
sort g.NextAnd = IsStep
sort g.NotSign = IsFront
sort g.RelationTail = IsStep
sort g.NextConcatenated = IsStep
sort g.LeadingSign = IsFront
sort g.NextTerm = IsStep
sort g.NextFactor = IsStep
sort g.NextPower = IsStep
sort g.Selection = IsStep
sort g.Arguments = IsActuals
sort g.NextArgument = IsNextValue
sort _ = IsValue

-- what is inside `begin .. end`, up to the `end`
abbrev pub contents_tokens : Contents → List Lexeme
contents_tokens c = token.declarations c.declarations ++ (token.statements c.statements ++ one k.End)

pub record SameContents (a b : Contents) : Type 0 where
  pub declarations : u.declarations a.declarations ≡ u.declarations b.declarations
  pub statements : u.statements a.statements ≡ u.statements b.statements

-- Two items of a part that differ in numbers alone, and the tokens of the first.
pub data Carried : Sort → Item → Item → List Lexeme → Type 0 where
  value : {a b : Expression} {l : List Lexeme} → token.expression a ≡ l → u.expression a ≡ u.expression b → Carried IsValue (r.Value a) (r.Value b) l
  next_value : {a b : Expression} {l : List Lexeme} → one k.Comma ++ token.expression a ≡ l → u.expression a ≡ u.expression b → Carried IsNextValue (r.Value a) (r.Value b) l
  step : {f h : Expression → Expression} {l : List Lexeme} → ((e : Expression) → token.expression (f e) ≡ token.expression e ++ l)
      → ((a b : Expression) → u.expression a ≡ u.expression b → u.expression (f a) ≡ u.expression (h b)) → Carried IsStep (r.Step f) (r.Step h) l
  front : {f h : Expression → Expression} {l : List Lexeme} → ((e : Expression) → token.expression (f e) ≡ l ++ token.expression e)
      → ((a b : Expression) → u.expression a ≡ u.expression b → u.expression (f a) ≡ u.expression (h b)) → Carried IsFront (r.Front f) (r.Front h) l
  actuals : {a b : Expressions} {l : List Lexeme} → token.actuals a ≡ l → u.expressions a ≡ u.expressions b → Carried IsActuals (r.Actuals a) (r.Actuals b) l
  kind : {a b : TypeName} {l : List Lexeme} → token.type_tokens a ≡ l → u.typed a ≡ u.typed b → Carried IsKind (r.Kind a) (r.Kind b) l
  next_name : {a b : Identifier} {l : List Lexeme} → behind_comma name a ≡ l → u.identifier a ≡ u.identifier b → Carried IsNextName (r.Name a) (r.Name b) l
  names : {a b : Identifier} {xs ys : List Identifier} {l : List Lexeme} → token.names (a ∷ xs) ≡ l → map u.identifier (a ∷ xs) ≡ map u.identifier (b ∷ ys) → Carried IsNames (r.Names (a ∷ xs)) (r.Names (b ∷ ys)) l
  const : {a b : Constant} {l : List Lexeme} → token.constant_tokens a ≡ l → u.constant_value a ≡ u.constant_value b → Carried IsConstant (r.Const a) (r.Const b) l
  valued : {a b : Constant} {l : List Lexeme} → one k.Equal ++ token.constant_tokens a ≡ l → u.constant_value a ≡ u.constant_value b → Carried IsValued (r.Valued a) (r.Valued b) l
  variable : {a b : Variable} {l : List Lexeme} → token.variable_tokens a ≡ l → u.variable a ≡ u.variable b → Carried IsVariable (r.Var a) (r.Var b) l
  next_variable : {a b : Variable} {l : List Lexeme} → behind_comma token.variable_tokens a ≡ l → u.variable a ≡ u.variable b → Carried IsNextVariable (r.Var a) (r.Var b) l
  bound : {a b : BoundPair} {l : List Lexeme} → token.bound_tokens a ≡ l → u.bounds a ≡ u.bounds b → Carried IsBound (r.Bound a) (r.Bound b) l
  next_bound : {a b : BoundPair} {l : List Lexeme} → behind_comma token.bound_tokens a ≡ l → u.bounds a ≡ u.bounds b → Carried IsNextBound (r.Bound a) (r.Bound b) l
  segment : {a b : Arrayed} {l : List Lexeme} → token.array_tokens a ≡ l → u.arrays a ≡ u.arrays b → Carried IsSegment (r.Segment a) (r.Segment b) l
  next_segment : {a b : Arrayed} {l : List Lexeme} → behind_comma token.array_tokens a ≡ l → u.arrays a ≡ u.arrays b → Carried IsNextSegment (r.Segment a) (r.Segment b) l
  moding : {a b : Moded} {l : List Lexeme} → token.mode_tokens a ≡ l → u.moded a ≡ u.moded b → Carried IsModing (r.Moding a) (r.Moding b) l
  specifying : {a b : Specification} {l : List Lexeme} → token.specification_tokens a ≡ l → u.specification a ≡ u.specification b → Carried IsSpecifying (r.Specifying a) (r.Specifying b) l
  kind_of : {f h : TypeName → Specified} {l : List Lexeme} → ((t : TypeName) → token.specified_tokens (f t) ≡ token.type_tokens t ++ l)
      → ((a b : TypeName) → u.typed a ≡ u.typed b → u.specified (f a) ≡ u.specified (h b)) → Carried IsKindOf (r.KindOf f) (r.KindOf h) l
  head : {f h : Identifier → Heading} {l : List Lexeme} → ((x : Identifier) → token.heading_tokens (f x) ≡ name x ++ l)
      → ((x y : Identifier) → u.identifier x ≡ u.identifier y → u.heading (f x) ≡ u.heading (h y)) → Carried IsHead (r.Head f) (r.Head h) l
  also : {i j : ℕ} {a : TokenKind} {l : List Lexeme} → one a ≡ l → Carried (IsMark a) (r.Also i) (r.Also j) l
  protecting : {a b : Protected} {l : List Lexeme} → token.protection_tokens a ≡ l → u.protected a ≡ u.protected b → Carried IsProtecting (r.Protecting a) (r.Protecting b) l
  virtually : {a b : Virtual} {l : List Lexeme} → token.virtual_tokens a ≡ l → u.virtually a ≡ u.virtually b → Carried IsVirtually (r.Virtually a) (r.Virtually b) l
  virtuals : {a b : List Virtual} {l : List Lexeme} → token.virtual_part a ≡ l → map u.virtually a ≡ map u.virtually b → Carried IsVirtuals (r.Virtuals a) (r.Virtuals b) l
  of_type : {f h : TypeName → Declaration} {l : List Lexeme} → ((t : TypeName) → token.declaration (f t) ≡ token.type_tokens t ++ l)
      → ((a b : TypeName) → u.typed a ≡ u.typed b → u.declaration (f a) ≡ u.declaration (h b)) → Carried IsOfType (r.OfType f) (r.OfType h) l
  procedure : {f h : Option TypeName → ℕ → Declaration} {l : List Lexeme}
      → ((t : Option TypeName) (i : ℕ) → token.declaration (f t i) ≡ token.result_tokens t ++ (one k.Procedure ++ l))
      → ((a b : Option TypeName) (i j : ℕ) → option_map u.typed a ≡ option_map u.typed b → u.declaration (f a i) ≡ u.declaration (h b j))
      → Carried IsProcedure (r.Proc f) (r.Proc h) l
  class : {f h : Option Identifier → ℕ → Declaration} {l : List Lexeme}
      → ((x : Option Identifier) (i : ℕ) → token.declaration (f x i) ≡ token.class_prefix x ++ (one k.Class ++ l))
      → ((x y : Option Identifier) (i j : ℕ) → option_map u.identifier x ≡ option_map u.identifier y → u.declaration (f x i) ≡ u.declaration (h y j))
      → Carried IsClass (r.Classy f) (r.Classy h) l
  declaration : {a b : Declaration} {l : List Lexeme} → token.declaration a ≡ l → u.declaration a ≡ u.declaration b → Carried IsDeclaration (r.Decl a) (r.Decl b) l
  element : {a b : Element} {l : List Lexeme} → token.element a ≡ l → u.element a ≡ u.element b → Carried IsElement (r.Elem a) (r.Elem b) l
  next_element : {a b : Element} {l : List Lexeme} → behind_comma token.element a ≡ l → u.element a ≡ u.element b → Carried IsNextElement (r.Elem a) (r.Elem b) l
  tail : {f h : Expression → Element} {l : List Lexeme} → ((e : Expression) → token.element (f e) ≡ token.expression e ++ l)
      → ((a b : Expression) → u.expression a ≡ u.expression b → u.element (f a) ≡ u.element (h b)) → Carried IsTail (r.Tail f) (r.Tail h) l
  for_part : {x : Assignment} {i j : ℕ} {a b : List Element} {l : List Lexeme} → one (assignment_kind x) ++ token.listed token.element a ≡ l → map u.element a ≡ map u.element b
      → Carried IsForPart (r.ForPart x i a) (r.ForPart x j b) l
  side : {a b : RightSide} {l : List Lexeme} → token.right_side a ≡ l → u.right_side a ≡ u.right_side b → Carried IsSide (r.Side a) (r.Side b) l
  timed : {a b : Schedule} {l : List Lexeme} → token.schedule a ≡ l → u.schedule a ≡ u.schedule b → Carried IsTimed (r.Timed a) (r.Timed b) l
  doing : {i j m n : ℕ} {a b : Statement} {l : List Lexeme} → one k.Do ++ token.statement a ≡ l → u.statement a ≡ u.statement b → Carried IsConnection (r.Doing i a m) (r.Doing j b n) l
  whens : {a b : s.Arms} {l : List Lexeme} → token.arms a ≡ l → u.arms a ≡ u.arms b → Carried IsConnection (r.Whens a) (r.Whens b) l
  arm : {a b : Arm} {l : List Lexeme} → one k.When ++ (name a.class ++ (one k.Do ++ token.statement a.body)) ≡ l → u.identifier a.class ≡ u.identifier b.class
      → u.statement a.body ≡ u.statement b.body → Carried IsArm (r.OneArm a) (r.OneArm b) l
  statement : {a b : Statement} {l : List Lexeme} → token.statement a ≡ l → u.statement a ≡ u.statement b → Carried IsStatement (r.Stmt a) (r.Stmt b) l
  led : {x : TokenKind} {a b : Statement} {l : List Lexeme} → one x ++ token.statement a ≡ l → u.statement a ≡ u.statement b → Carried (IsLed x) (r.Stmt a) (r.Stmt b) l
  body : {a b : Block} {l : List Lexeme} → token.block a ≡ l → u.block a ≡ u.block b → Carried IsBody (r.Body a) (r.Body b) l
  inside : {a b : Contents} {l : List Lexeme} → contents_tokens a ≡ l → SameContents a b → Carried IsInside (r.Inside a) (r.Inside b) l
  of_name : {f h : Identifier → Contents} {l : List Lexeme} → ((x : Identifier) → contents_tokens (f x) ≡ name x ++ l)
      → ((x y : Identifier) → u.identifier x ≡ u.identifier y → SameContents (f x) (h y)) → Carried IsOfName (r.OfName f) (r.OfName h) l
  begun : {f h : Identifier → Statement} {l : List Lexeme} → ((x : Identifier) → token.statement (f x) ≡ name x ++ l)
      → ((x y : Identifier) → u.identifier x ≡ u.identifier y → u.statement (f x) ≡ u.statement (h y)) → Carried IsBegun (r.Begun f) (r.Begun h) l
  after_operand : {f h : Identifier → Expressions → Statement} {l : List Lexeme} → ((x : Identifier) (es : Expressions) → token.statement (f x es) ≡ name x ++ (token.actuals es ++ l))
      → ((x y : Identifier) (es ds : Expressions) → u.identifier x ≡ u.identifier y → u.expressions es ≡ u.expressions ds → u.statement (f x es) ≡ u.statement (h y ds))
      → Carried IsAfterOperand (r.AfterOperand f) (r.AfterOperand h) l
  whole : {a b : Program} {l : List Lexeme} → token.program a ++ one k.EndOfSource ≡ l → u.unnumbered a ≡ u.unnumbered b → Carried IsWhole (r.Whole a) (r.Whole b) l
  ended : {l : List Lexeme} → one k.Semicolon ≡ l → Carried IsEnded r.Nothing r.Nothing l

-- one of the kinds of a list
pub data Among : List TokenKind → TokenKind → Type 0 where
  only : {a : TokenKind} → Among (a ∷ []) a
  first : {a b : TokenKind} {others : List TokenKind} → Among (a ∷ b ∷ others) a
  later : {a b x : TokenKind} {others : List TokenKind} → Among (b ∷ others) x → Among (a ∷ b ∷ others) x

-- one of the right sides of a table
pub data InRows : List Row → List Symbol → Type 0 where
  here_at : {next : List TokenKind} {right : List Symbol} {others : List Row} → InRows (At next right ∷ others) right
  here_else : {right : List Symbol} {others : List Row} → InRows (Else right ∷ others) right
  behind : {next : List TokenKind} {x right : List Symbol} {row : Row} {others : List Row} → InRows (row ∷ others) right → InRows (At next x ∷ row ∷ others) right

-- The items of symbols in a row, in both derivations, and the tokens of the first.
pub data Lists : List Symbol → List Item → List Item → List Lexeme → Type 0 where
  none : Lists [] [] [] []
  kept : {any : List TokenKind} {x : List Symbol} {l m : List Item} {ls : List Lexeme} (i j : ℕ) {a : TokenKind} {held : TokenValue} → Among any a → Lists x l m ls
      → Lists (Kept any ∷ x) (r.Tok i a held ∷ l) (r.Tok j a held ∷ m) (lexeme a held ∷ ls)
  mark : {a : TokenKind} {x : List Symbol} {l m : List Item} {ls : List Lexeme} → Lists x l m ls → Lists (Mark a ∷ x) l m (bare a ∷ ls)
  any : {a : TokenKind} {x : List Symbol} {l m : List Item} {ls : List Lexeme} → Lists x l m ls → Lists (Any a ∷ x) l m ls
  here : {x : List Symbol} {l m : List Item} {ls : List Lexeme} (i j : ℕ) → Lists x l m ls → Lists (Here ∷ x) (r.Place i ∷ l) (r.Place j ∷ m) ls
  part : {t : Times} {n : Part} {x : List Symbol} {a b : Item} {l m : List Item} {front ls : List Lexeme} → Carried (sort n) a b front → Lists (after t n x) l m ls
      → Lists (Of t n ∷ x) (a ∷ l) (b ∷ m) (front ++ ls)
  unless : {n : Part} {x : List Symbol} {l m : List Item} {ls : List Lexeme} → Lists x l m ls → Lists (Of Maybe n ∷ x) l m ls
  no_more : {n : Part} {x : List Symbol} {l m : List Item} {ls : List Lexeme} → Lists x l m ls → Lists (Of Many n ∷ x) l m ls

-- items of one sort, any number of them
pub data Each (x : Sort) : List Item → List Item → List Lexeme → Type 0 where
  each_none : Each x [] [] []
  each_more : {a b : Item} {l m : List Item} {front ls : List Lexeme} → Carried x a b front → Each x l m ls → Each x (a ∷ l) (b ∷ m) (front ++ ls)

pub many : {n : Part} {l m : List Item} {ls : List Lexeme} → Lists (Of Many n ∷ []) l m ls → Each (sort n) l m ls
many (part c q) = each_more c (many q)
many (no_more none) = each_none

pub perhaps : {n : Part} {l m : List Item} {ls : List Lexeme} → Lists (Of Maybe n ∷ []) l m ls → Each (sort n) l m ls
perhaps (part c none) = each_more c each_none
perhaps (unless none) = each_none

-- ---- lists of tokens

pub then : {xs ys zs us : List Lexeme} → xs ≡ ys → zs ≡ us → xs ++ zs ≡ ys ++ us
then {xs} {ys} {zs} {us} e f = ap (λ z. z ++ zs) e ∙ ap (λ z. ys ++ z) f

pub last : {xs ys : List Lexeme} → xs ≡ ys → xs ≡ ys ++ []
last {xs} {ys} e = e ∙ sym (append-nil ys)

pub lead : (x : Lexeme) {xs ys : List Lexeme} → xs ≡ ys → x ∷ xs ≡ x ∷ ys
lead x e = ap (λ z. x ∷ z) e

pub ap2 : {A B C : Type 0} (f : A → B → C) {a x : A} {b y : B} → a ≡ x → b ≡ y → f a b ≡ f x y
ap2 f {x = x} {b = b} e h = ap (λ z. f z b) e ∙ ap (f x) h

pub ap3 : {A B C D : Type 0} (f : A → B → C → D) {a x : A} {b y : B} {c z : C} → a ≡ x → b ≡ y → c ≡ z → f a b c ≡ f x y z
ap3 f {x = x} {b = b} {c = c} e h i = ap (λ w. f w b c) e ∙ ap2 (f x) h i
