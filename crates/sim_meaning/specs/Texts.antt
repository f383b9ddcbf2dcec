-- The texts of a program: what its bodies are made of, in their order. A text's number is its place, so text k is that of body k, and of
-- block k of the tables of scopes.
use Rattle.std.specs.Prelude.{ℕ, ◌+◌, Bool, true, false, not, ◌&&◌, ◌||◌, ◌==◌, nat_le, nat_lt, if◌then◌else◌, ℤ, neg_ℤ, List, [], ◌∷◌, ◌++◌, map, slice_get, Option, Some, None}
use Rattle.std.specs.List.{list_any}
use Rattle.sim_base.specs.declared.numbering.DeclNo.{DeclNo}
use Rattle.sim_scope.specs.declared.scopes.Declaration.{Declaration as Row}
use Rattle.sim_scope.specs.declared.types.BlockKind.{BlockKind}
use Rattle.sim_scope.specs.declared.types.BlockKind.TheVariants as kind_of_block
use Rattle.sim_scope.specs.declared.types.SimType.{SimType}
use Rattle.sim_scope.specs.declared.types.SimType.TheVariants as t
use Rattle.sim_scope.specs.declared.types.StandardClass.{StandardClass}
use Rattle.sim_scope.specs.Bodies.{Body, OfBlock, OfClass, OfConnection, OfPrefixed, OfProcedure, OfStandard, Part, classes_declared}
use Rattle.sim_scope.specs.Source.{Source}
use Rattle.sim_scope.specs.Standard.{standard_prefix}
use Rattle.sim_scope.specs.Tables.{BlockOf}
use Rattle.sim_tree.specs.declared.expr.Identifier.{Identifier}
use Rattle.sim_tree.specs.declared.expr.LeadingSign.{LeadingSign}
use Rattle.sim_tree.specs.declared.expr.Sign.{Sign}
use Rattle.sim_tree.specs.declared.expr.Sign.TheVariants as sign
use Rattle.sim_tree.specs.declared.stmt.Constant.{Constant}
use Rattle.sim_tree.specs.declared.stmt.Constant.TheVariants as constant
use Rattle.sim_tree.specs.declared.stmt.TypeName.{TypeName}
use Rattle.sim_tree.specs.declared.stmt.TypeName.TheVariants as type_name
use Rattle.sim_tree.specs.declared.stmt.Variable.{Variable}
use Rattle.sim_tree.specs.Syntax.{Arms, Begin, Block, Compound, Declaration, Declarations, DeclareClass, DeclareProcedure, Arrays, Variables, Expressions, Heading, NoArm, NoDeclaration, NoStatement, Also, Prefix, Statement, Statements, When, With}
use Rattle.sim_tree.specs.Syntax as syntax
use Rattle.sim_values.specs.declared.kind.Kind.{Kind}
use Rattle.sim_values.specs.declared.kind.Kind.TheVariants as kind
use Rattle.sim_values.specs.Plain.{Plain, Integer, Truth, Character}
use Rattle.sim_meaning.specs.Constants.{text_constant}

pub data Text : Type 0 where
  BlockText : (begin : ℕ) → Declarations → Statements → Text
  ProcedureText : (result : Option TypeName) → Heading → (body : Statement) → Text
  -- a class, with the declarations and the statements of its body
  ClassText : (prefix : Option Identifier) → Heading → Declarations → Statements → Text
  PrefixedText : (class : Identifier) → Expressions → Declarations → Statements → Text
  ConnectionText : Text
  -- a class that `simset` or `simulation` declares
  StandardText : StandardClass → Text

-- the classes that are declared directly behind a block or class with this name in front of it
unfoldable pub standard_texts : (name : List ℕ) → List Text
standard_texts name = map StandardText (classes_declared (standard_prefix name))

abbrev pub prefix_texts : Option Identifier → List Text
prefix_texts None = []
prefix_texts (Some class) = standard_texts class.name

abbrev mutual
  pub statement_texts : Statement → List Text
  statement_texts (syntax.Empty token) = []
  statement_texts (syntax.Compound b) = block_texts b
  statement_texts (syntax.Prefixed class arguments b) = prefixed_texts class arguments b
  statement_texts (syntax.Inner token) = []
  statement_texts (syntax.Call e) = []
  statement_texts (syntax.Assign left rest) = []
  statement_texts (syntax.Choose token e a b) = statement_texts a ++ statements_texts b
  statement_texts (syntax.Repeat token e a) = statement_texts a
  statement_texts (syntax.For token x sign assign es a) = statement_texts a
  statement_texts (syntax.Inspect token e opening a end other) = ConnectionText ∷ (statement_texts a ++ statements_texts other)
  statement_texts (syntax.InspectWhen token e arms other) = arms_texts arms ++ statements_texts other
  statement_texts (syntax.Activate token word e schedule) = []

  pub statements_texts : Statements → List Text
  statements_texts NoStatement = []
  statements_texts (Also a more) = statement_texts a ++ statements_texts more

  pub arms_texts : Arms → List Text
  arms_texts NoArm = []
  arms_texts (When token class opening a end more) = ConnectionText ∷ (statement_texts a ++ arms_texts more)

  -- a block without declarations is a compound statement and no text of its own
  pub block_texts : Block → List Text
  block_texts (Begin token NoDeclaration ss end) = statements_texts ss
  block_texts (Begin token (With d ds) ss end) = BlockText token (With d ds) ss ∷ (declaration_texts d ++ (declarations_texts ds ++ statements_texts ss))

  pub prefixed_texts : Identifier → Expressions → Block → List Text
  prefixed_texts class arguments (Begin token ds ss end) = PrefixedText class arguments ds ss ∷ (standard_texts class.name ++ (declarations_texts ds ++ statements_texts ss))

  pub declarations_texts : Declarations → List Text
  declarations_texts NoDeclaration = []
  declarations_texts (With d ds) = declaration_texts d ++ declarations_texts ds

  pub declaration_texts : Declaration → List Text
  declaration_texts (Variables type vs) = []
  declaration_texts (Arrays type token segments) = []
  declaration_texts (DeclareProcedure result token h a end) = ProcedureText result h a ∷ statement_texts a
  -- the `begin .. end` of a class is no text of its own: its declarations and statements are those of the class
  declaration_texts (DeclareClass prefix token h interface (Compound (Begin i ds ss e)) end) =
      ClassText prefix h ds ss ∷ (prefix_texts prefix ++ (declarations_texts ds ++ statements_texts ss))
  declaration_texts (DeclareClass prefix token h interface a end) = ClassText prefix h NoDeclaration (Also a NoStatement) ∷ (prefix_texts prefix ++ statement_texts a)

-- the program's block comes first, whether it has declarations or not
abbrev pub program_texts : Option Prefix → Block → List Text
program_texts None (Begin token ds ss end) = BlockText token ds ss ∷ (declarations_texts ds ++ statements_texts ss)
program_texts (Some p) (Begin token ds ss end) = PrefixedText p.class p.arguments ds ss ∷ (standard_texts p.class.name ++ (declarations_texts ds ++ statements_texts ss))

unfoldable pub text : Source → ℕ → Option Text
text s k = slice_get (program_texts s.program.prefix s.program.block) k

-- the text of a body
abbrev pub text_of_part : BlockKind → (first : ℕ) → (prefix : Option Identifier) → Part → Option Text
text_of_part k first prefix (OfBlock ds ss) = Some (BlockText first ds ss)
text_of_part k first prefix (OfProcedure result h a) = Some (ProcedureText result h a)
text_of_part k first prefix (OfClass h ds ss) = Some (ClassText prefix h ds ss)
text_of_part k first (Some class) (OfPrefixed arguments ds ss) = Some (PrefixedText class arguments ds ss)
text_of_part k first prefix OfConnection = Some ConnectionText
text_of_part (kind_of_block.StandardClass which) first prefix OfStandard = Some (StandardText which)
text_of_part _ first prefix _ = None

abbrev pub text_of : Body → Option Text
text_of b = text_of_part b.kind b.first b.prefix b.part

-- ---- class-free texts

abbrev pub is_class_kind : BlockKind → Bool
is_class_kind kind_of_block.Class = true
is_class_kind kind_of_block.Prefixed = true
is_class_kind (kind_of_block.StandardClass which) = true
is_class_kind _ = false

abbrev pub has_class_in : Option BlockOf → List BlockOf → Bool
has_class_in None blocks = false
has_class_in (Some b) blocks = is_class_kind b.kind || list_any (λ c. is_class_kind c.kind && nat_le b.first c.first && nat_lt c.first b.end) blocks

-- a text that is no class and no prefixed block, and has none inside
unfoldable pub is_class_free : Source → ℕ → Bool
is_class_free s k = not (has_class_in (slice_get s.tables.blocks k) s.tables.blocks)

-- ---- types and constants

-- the kind of value of a type
abbrev pub kind_of_type : SimType → Kind
kind_of_type t.Integer = kind.Integer
kind_of_type t.Boolean = kind.Boolean
kind_of_type t.Character = kind.Character
kind_of_type t.Text = kind.Text
kind_of_type (t.Ref class) = kind.Reference
kind_of_type t.NoneType = kind.Reference

abbrev pub kind_named : TypeName → Kind
kind_named (type_name.Integer i) = kind.Integer
kind_named (type_name.Boolean i) = kind.Boolean
kind_named (type_name.Character i) = kind.Character
kind_named (type_name.Text i) = kind.Text
kind_named (type_name.Reference i class) = kind.Reference

abbrev pub with_sign : Option LeadingSign → ℤ → ℤ
with_sign None z = z
with_sign (Some x) z = signed x.sign z
  where
    signed : Sign → ℤ → ℤ
    signed sign.Plus z = z
    signed sign.Minus z = neg_ℤ z

-- the value of a declared constant
abbrev pub constant_value : Source → Constant → Option Plain
constant_value s (constant.Integer sign token z) = Some (Integer (with_sign sign z))
constant_value s (constant.Character token c) = Some (Character c)
constant_value s (constant.Text token bytes) = text_constant s token.0
constant_value s (constant.True token) = Some (Truth true)
constant_value s (constant.False token) = Some (Truth false)

abbrev pub value_in : Source → Option Constant → Option Plain
value_in s None = None
value_in s (Some c) = constant_value s c

-- the constant that is declared at a token
abbrev pub among_variables : Source → (token : ℕ) → List Variable → Option Plain → Option Plain
among_variables s token [] other = other
among_variables s token (v ∷ vs) other = if v.name.token.0 == token then value_in s v.value else among_variables s token vs other

abbrev pub among_declarations : Source → (token : ℕ) → Declarations → Option Plain
among_declarations s token NoDeclaration = None
among_declarations s token (With (Variables type vs) ds) = among_variables s token vs (among_declarations s token ds)
among_declarations s token (With (Arrays type i segments) ds) = among_declarations s token ds
among_declarations s token (With (DeclareProcedure result i h a end) ds) = among_declarations s token ds
among_declarations s token (With (DeclareClass prefix i h interface a end) ds) = among_declarations s token ds

-- ---- declarations by token

abbrev pub number_from : ℕ → (token : ℕ) → List Row → Option DeclNo
number_from n token [] = None
number_from n token (d ∷ ds) = if d.token.0 == token then Some (record { 0 = n }) else number_from (n + 1) token ds

-- the declaration that stands at a token
unfoldable pub declared_at : Source → (token : ℕ) → Option DeclNo
declared_at s token = number_from 0 token s.tables.declarations

-- ---- constants by declaration

abbrev pub constant_in : Source → Option Text → (token : ℕ) → Option Plain
constant_in s (Some (BlockText begin ds ss)) token = among_declarations s token ds
constant_in s (Some (ClassText prefix h ds ss)) token = among_declarations s token ds
constant_in s (Some (PrefixedText class arguments ds ss)) token = among_declarations s token ds
constant_in s _ token = None

abbrev pub row_constant : Source → Option Row → Option Plain
row_constant s None = None
row_constant s (Some row) = constant_in s (text s row.block) row.token.0

-- the value of a constant, which is written where it is declared
unfoldable pub constant_of : Source → DeclNo → Option Plain
constant_of s d = row_constant s (slice_get s.tables.declarations d.0)
