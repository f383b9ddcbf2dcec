-- The tokens of a program stand in the order of its text, those of the names in its virtual parts and of the classes in its specifications too.
use Rattle.std.specs.Prelude.{List, [], ◌∷◌}
use Rattle.sim_tree.specs.Order.{Ascends, Behind, Spot, Token, in_each, in_element, in_expression, in_name, in_prefix, in_result, in_schedule, in_segment, in_side, in_type, in_variable}
use Rattle.sim_tree.specs.Syntax as s
use Rattle.sim_tree.specs.Syntax.{Statement, Statements, Arms, Block, Declarations, Declaration, Heading, Program, Specification, Specified, Virtual}

abbrev pub in_virtual : Virtual → List Spot → List Spot
in_virtual v l = in_result v.result (in_each in_name v.names l)

-- the class of a specification
abbrev pub in_specified : Specified → List Spot → List Spot
in_specified (s.Simple type) l = in_type type l
in_specified (s.Array type i) l = in_type type l
in_specified (s.Procedure result i) l = in_result result l

abbrev pub in_specification : Specification → List Spot → List Spot
in_specification x l = in_specified x.kind l

-- the parameters of a heading, and the classes of its specifications
abbrev pub in_heading : Heading → List Spot → List Spot
in_heading h l = in_each in_name h.formals (in_each in_specification h.specifications l)

abbrev mutual
  pub in_statement : Statement → List Spot → List Spot
  in_statement (s.Compound b) l = in_block b l
  in_statement (s.Call e) l = in_expression e l
  in_statement (s.Assign e sides) l = in_expression e (in_each in_side sides l)
  in_statement (s.Choose i e x y) l = in_expression e (in_statement x (in_statements y l))
  in_statement (s.Repeat i e x) l = in_expression e (in_statement x l)
  in_statement (s.For i name sign j elements x) l = in_name name (in_each in_element elements (in_statement x l))
  in_statement (s.Empty i) l = l
  in_statement (s.Prefixed class es b) l = in_expression (s.Named class es) (in_block b l)
  in_statement (s.Inner i) l = Token i ∷ l
  in_statement (s.Inspect i e j x end y) l = in_expression e (Token j ∷ in_statement x (Behind end ∷ in_statements y l))
  in_statement (s.InspectWhen i e arms y) l = in_expression e (in_arms arms (in_statements y l))
  in_statement (s.Activate i word e schedule) l = Token i ∷ in_expression e (in_schedule schedule l)

  pub in_statements : Statements → List Spot → List Spot
  in_statements s.NoStatement l = l
  in_statements (s.Also x xs) l = in_statement x (in_statements xs l)

  pub in_arms : Arms → List Spot → List Spot
  in_arms s.NoArm l = l
  in_arms (s.When i class j x end arms) l = in_name class (Token j ∷ in_statement x (Behind end ∷ in_arms arms l))

  pub in_block : Block → List Spot → List Spot
  in_block (s.Begin i ds xs end) l = Token i ∷ in_declarations ds (in_statements xs (Behind end ∷ l))

  pub in_declarations : Declarations → List Spot → List Spot
  in_declarations s.NoDeclaration l = l
  in_declarations (s.With d ds) l = in_declaration d (in_declarations ds l)

  pub in_declaration : Declaration → List Spot → List Spot
  in_declaration (s.Variables t vs) l = in_type t (in_each in_variable vs l)
  in_declaration (s.Arrays t i segments) l = in_type t (in_each in_segment segments l)
  in_declaration (s.DeclareProcedure result i heading x end) l =
      in_result result (in_name heading.name (in_heading heading (in_statement x (Behind end ∷ l))))
  in_declaration (s.DeclareClass prefix i heading interface x end) l =
      in_prefix prefix (in_name heading.name (in_heading heading (in_each in_virtual interface.virtuals (in_statement x (Behind end ∷ l)))))

-- the tokens of a program ascend
abbrev pub InOrder : Program → Type 0
InOrder p = Ascends 0 (in_block p.block [])
