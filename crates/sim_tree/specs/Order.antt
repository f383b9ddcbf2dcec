-- The tokens of a program stand in the order of its text: the identifiers that it declares, the classes that it names, the tokens that name its
-- expressions, each `inner`, the words of activations, and where its blocks and connections begin and end.
use Rattle.std.specs.Prelude.{◌≤◌, ◌<◌, ◌+◌, ℕ, List, [], ◌∷◌, Option, Some, None}
use Rattle.sim_tree.specs.declared.expr.Identifier.{Identifier}
use Rattle.sim_tree.specs.declared.stmt.TypeName.{TypeName}
use Rattle.sim_tree.specs.declared.stmt.TypeName.TheVariants as type_name
use Rattle.sim_tree.specs.declared.stmt.Variable.{Variable}
use Rattle.sim_tree.specs.Syntax as s
use Rattle.sim_tree.specs.Syntax.{Expression, Statement, Statements, Arms, Block, Declarations, Declaration, RightSide, Element, Schedule, BoundPair, Arrayed, Program}
use Rattle.sim_tree.specs.Named.{named}

-- a token of the text; or a place between two, by the number of the token behind it
pub data Spot : Type 0 where
  Token : ℕ → Spot
  Behind : ℕ → Spot

-- The tokens ascend from a number on.
abbrev pub Ascends : ℕ → List Spot → Type 0
Ascends i [] = Unit {0}
Ascends i (Token x ∷ l) = (i ≤ x) × Ascends (x + 1) l
Ascends i (Behind x ∷ l) = (i ≤ x) × Ascends x l

-- no token is past the last one
abbrev pub AllBelow : ℕ → List Spot → Type 0
AllBelow n [] = Unit {0}
AllBelow n (Token x ∷ l) = (x < n) × AllBelow n l
AllBelow n (Behind x ∷ l) = AllBelow n l

-- each in front of those behind it
abbrev pub tokens : List ℕ → List Spot → List Spot
tokens [] l = l
tokens (x ∷ xs) l = Token x ∷ tokens xs l

abbrev pub in_each : {A : Type 0} → (A → List Spot → List Spot) → List A → List Spot → List Spot
in_each f [] l = l
in_each f (x ∷ xs) l = f x (in_each f xs l)

-- the tokens that name an expression and its parts
abbrev pub in_expression : Expression → List Spot → List Spot
in_expression e l = tokens (named e []) l

abbrev pub in_name : Identifier → List Spot → List Spot
in_name x l = Token x.token.0 ∷ l

abbrev pub in_side : RightSide → List Spot → List Spot
in_side x l = in_expression x.value l

abbrev pub in_element : Element → List Spot → List Spot
in_element (s.Once a) l = in_expression a l
in_element (s.Step a i b c) l = in_expression a (in_expression b (in_expression c l))
in_element (s.While a i b) l = in_expression a (in_expression b l)

abbrev pub in_schedule : Schedule → List Spot → List Spot
in_schedule s.Now l = l
in_schedule (s.At i a prior) l = in_expression a l
in_schedule (s.Delay i a prior) l = in_expression a l
in_schedule (s.Before i a) l = in_expression a l
in_schedule (s.After i a) l = in_expression a l

abbrev pub in_bounds : BoundPair → List Spot → List Spot
in_bounds b l = in_expression b.lower (in_expression b.upper l)

abbrev pub in_segment : Arrayed → List Spot → List Spot
in_segment a l = in_each in_name a.names (in_each in_bounds a.bounds l)

abbrev pub in_variable : Variable → List Spot → List Spot
in_variable v l = in_name v.name l

-- the class of a reference type
abbrev pub in_type : TypeName → List Spot → List Spot
in_type (type_name.Reference i class) l = in_name class l
in_type _ l = l

abbrev pub in_result : Option TypeName → List Spot → List Spot
in_result None l = l
in_result (Some type) l = in_type type l

-- the prefix of a class
abbrev pub in_prefix : Option Identifier → List Spot → List Spot
in_prefix None l = l
in_prefix (Some class) l = in_name class l

abbrev mutual
  pub in_statement : Statement → List Spot → List Spot
  in_statement (s.Compound b) l = in_block b l
  in_statement (s.Call e) l = in_expression e l
  in_statement (s.Assign e sides) l = in_expression e (in_each in_side sides l)
  in_statement (s.Choose i e x y) l = in_expression e (in_statement x (in_statements y l))
  in_statement (s.Repeat i e x) l = in_expression e (in_statement x l)
  in_statement (s.For i name sign j elements x) l = in_name name (in_each in_element elements (in_statement x l))
  in_statement (s.Empty i) l = l
  in_statement (s.Prefixed class es b) l = in_expression (s.Named class es) (in_block b l)
  in_statement (s.Inner i) l = Token i ∷ l
  in_statement (s.Inspect i e j x end y) l = in_expression e (Token j ∷ in_statement x (Behind end ∷ in_statements y l))
  in_statement (s.InspectWhen i e arms y) l = in_expression e (in_arms arms (in_statements y l))
  in_statement (s.Activate i word e schedule) l = Token i ∷ in_expression e (in_schedule schedule l)

  pub in_statements : Statements → List Spot → List Spot
  in_statements s.NoStatement l = l
  in_statements (s.Also x xs) l = in_statement x (in_statements xs l)

  pub in_arms : Arms → List Spot → List Spot
  in_arms s.NoArm l = l
  in_arms (s.When i class j x end arms) l = in_name class (Token j ∷ in_statement x (Behind end ∷ in_arms arms l))

  pub in_block : Block → List Spot → List Spot
  in_block (s.Begin i ds xs end) l = Token i ∷ in_declarations ds (in_statements xs (Behind end ∷ l))

  pub in_declarations : Declarations → List Spot → List Spot
  in_declarations s.NoDeclaration l = l
  in_declarations (s.With d ds) l = in_declaration d (in_declarations ds l)

  pub in_declaration : Declaration → List Spot → List Spot
  in_declaration (s.Variables t vs) l = in_type t (in_each in_variable vs l)
  in_declaration (s.Arrays t i segments) l = in_type t (in_each in_segment segments l)
  in_declaration (s.DeclareProcedure result i heading x end) l =
      in_result result (in_name heading.name (in_each in_name heading.formals (in_statement x (Behind end ∷ l))))
  in_declaration (s.DeclareClass prefix i heading interface x end) l =
      in_prefix prefix (in_name heading.name (in_each in_name heading.formals (in_statement x (Behind end ∷ l))))

-- the tokens of a program ascend
abbrev pub InOrder : Program → Type 0
InOrder p = Ascends 0 (in_block p.block [])
