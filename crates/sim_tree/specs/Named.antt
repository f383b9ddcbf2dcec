-- The tokens that name the expressions of a program, the attributes behind dots and the classes in expressions, in the order of the text, each in
-- front of those behind it.
use Rattle.std.specs.Prelude.{◌<◌, ℕ, List, [], ◌∷◌, Option, Some, None}
use Rattle.std.specs.List.{AllByRecursion}
use Rattle.sim_tree.specs.Syntax as s
use Rattle.sim_tree.specs.Syntax.{Expression, Expressions, Statement, Statements, Arms, Block, Declarations, Declaration, RightSide, Element, Schedule, BoundPair, Arrayed, Prefix, Program}

abbrev mutual
  -- of an expression and of the parts of it
  pub named : Expression → List ℕ → List ℕ
  named (s.If i a b c) l = i ∷ named a (named b (named c l))
  named (s.Binary operator i a b) l = named a (i ∷ named b l)
  named (s.Not i a) l = i ∷ named a l
  named (s.Signed sign i a) l = i ∷ named a l
  named (s.Member m i a class) l = named a (i ∷ class.token.0 ∷ l)
  named (s.Dot i a name es) l = named a (i ∷ name.token.0 ∷ all_named es l)
  named (s.Qua i a class) l = named a (i ∷ class.token.0 ∷ l)
  named (s.Constant literal i) l = i ∷ l
  named (s.Named name es) l = name.token.0 ∷ all_named es l
  named (s.This i class) l = i ∷ class.token.0 ∷ l
  named (s.New i class es) l = i ∷ class.token.0 ∷ all_named es l
  named (s.Parentheses i a) l = i ∷ named a l

  pub all_named : Expressions → List ℕ → List ℕ
  all_named s.NoMore l = l
  all_named (s.Then e es) l = named e (all_named es l)

-- of each element of a list
abbrev pub in_each : {A : Type 0} → (A → List ℕ → List ℕ) → List A → List ℕ → List ℕ
in_each f [] l = l
in_each f (x ∷ xs) l = f x (in_each f xs l)

abbrev pub in_side : RightSide → List ℕ → List ℕ
in_side x l = named x.value l

abbrev pub in_element : Element → List ℕ → List ℕ
in_element (s.Once a) l = named a l
in_element (s.Step a i b c) l = named a (named b (named c l))
in_element (s.While a i b) l = named a (named b l)

abbrev pub in_schedule : Schedule → List ℕ → List ℕ
in_schedule s.Now l = l
in_schedule (s.At i a prior) l = named a l
in_schedule (s.Delay i a prior) l = named a l
in_schedule (s.Before i a) l = named a l
in_schedule (s.After i a) l = named a l

abbrev pub in_bounds : BoundPair → List ℕ → List ℕ
in_bounds b l = named b.lower (named b.upper l)

abbrev pub in_segment : Arrayed → List ℕ → List ℕ
in_segment a l = in_each in_bounds a.bounds l

abbrev mutual
  pub in_statement : Statement → List ℕ → List ℕ
  in_statement (s.Empty i) l = l
  in_statement (s.Compound b) l = in_block b l
  in_statement (s.Prefixed class es b) l = all_named es (in_block b l)
  in_statement (s.Inner i) l = l
  in_statement (s.Call e) l = named e l
  in_statement (s.Assign e sides) l = named e (in_each in_side sides l)
  in_statement (s.Choose i e x y) l = named e (in_statement x (in_statements y l))
  in_statement (s.Repeat i e x) l = named e (in_statement x l)
  in_statement (s.For i name sign j elements x) l = in_each in_element elements (in_statement x l)
  in_statement (s.Inspect i e j x end y) l = named e (in_statement x (in_statements y l))
  in_statement (s.InspectWhen i e arms y) l = named e (in_arms arms (in_statements y l))
  in_statement (s.Activate i word e schedule) l = named e (in_schedule schedule l)

  pub in_statements : Statements → List ℕ → List ℕ
  in_statements s.NoStatement l = l
  in_statements (s.Also x xs) l = in_statement x (in_statements xs l)

  pub in_arms : Arms → List ℕ → List ℕ
  in_arms s.NoArm l = l
  in_arms (s.When i class j x end arms) l = in_statement x (in_arms arms l)

  pub in_block : Block → List ℕ → List ℕ
  in_block (s.Begin i ds xs end) l = in_declarations ds (in_statements xs l)

  pub in_declarations : Declarations → List ℕ → List ℕ
  in_declarations s.NoDeclaration l = l
  in_declarations (s.With d ds) l = in_declaration d (in_declarations ds l)

  pub in_declaration : Declaration → List ℕ → List ℕ
  in_declaration (s.Variables t vs) l = l
  in_declaration (s.Arrays t i segments) l = in_each in_segment segments l
  in_declaration (s.DeclareProcedure result i heading x end) l = in_statement x l
  in_declaration (s.DeclareClass prefix i heading interface x end) l = in_statement x l

abbrev pub in_prefix : Option Prefix → List ℕ → List ℕ
in_prefix None l = l
in_prefix (Some p) l = all_named p.arguments l

-- the tokens that name the expressions of a program
abbrev pub named_tokens : Program → List ℕ
named_tokens p = in_prefix p.prefix (in_block p.block [])

-- Each number is below all that follow, so none is there twice.
abbrev pub IsAscending : List ℕ → Type 0
IsAscending [] = Unit {0}
IsAscending (x ∷ xs) = AllByRecursion (λ y. x < y) xs × IsAscending xs
