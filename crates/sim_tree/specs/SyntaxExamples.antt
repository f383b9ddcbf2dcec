-- The abstract syntax of small sources. Tokens are numbered from 0.
use Rattle.std.specs.Prelude.{◌≡◌, ℕ, List, [], ◌∷◌, Some, None}
use Rattle.sim_base.specs.declared.token.Lexeme.{Lexeme}
use Rattle.sim_base.specs.declared.token.TokenKind.TheVariants as k
use Rattle.sim_base.specs.Lexeme.{bare, character}
use Rattle.sim_tree.specs.declared.expr.Identifier.{Identifier}
use Rattle.sim_tree.specs.declared.expr.Sign.TheVariants as sign
use Rattle.sim_tree.specs.declared.expr.Multiplication.TheVariants as multiplication
use Rattle.sim_tree.specs.declared.operator.Operator.TheVariants as o
use Rattle.sim_tree.specs.declared.program.Program.{Program as Tree}
use Rattle.sim_tree.specs.declared.stmt.Assignment.TheVariants as assignment
use Rattle.sim_tree.specs.declared.stmt.Mode.TheVariants as mode
use Rattle.sim_tree.specs.declared.stmt.TypeName.TheVariants as type_name
use Rattle.sim_tree.specs.Examples.{source, IsProgram, x, y}
use Rattle.sim_tree.specs.Reading.{Forest}
use Rattle.sim_tree.specs.Syntax as s
use Rattle.sim_tree.specs.Syntax.{Expression, Statements, Declarations, Program}
use Rattle.sim_tree.specs.SyntaxOfProgram.{program_syntax}
use Rattle.sim_tree.specs.Tree.{IsTree}

-- a source of these lexemes is a program, and each tree of it has this syntax
pub record HasSyntax (lexemes : List Lexeme) (program : Program) : Type 0 where
  pub derivation : Forest
  pub is_program : IsProgram lexemes derivation
  pub syntax : (tree : Tree) → IsTree (source lexemes) tree → program_syntax tree ≡ program

-- x and y, as occurrences and as expressions
abbrev pub x_at : ℕ → Identifier
x_at i = record { token = record { 0 = i }; name = 120 ∷ [] }

abbrev pub y_at : ℕ → Identifier
y_at i = record { token = record { 0 = i }; name = 121 ∷ [] }

abbrev x_alone : ℕ → Expression
x_alone i = s.Named (x_at i) s.NoMore

abbrev y_alone : ℕ → Expression
y_alone i = s.Named (y_at i) s.NoMore

-- one statement between `begin` and `end`
abbrev only : s.Statement → ℕ → Program
only statement end = record { prefix = None; block = s.Begin 0 s.NoDeclaration (s.Also statement s.NoStatement) end }

-- begin x := - x * y + y - x end: the sign belongs to the whole first term, and sums are taken from the left.
abbrev pub sum_source : List Lexeme
sum_source = bare k.Begin ∷ x ∷ bare k.Assign ∷ bare k.Minus ∷ x ∷ bare k.Times ∷ y ∷ bare k.Plus ∷ y ∷ bare k.Minus ∷ x ∷ bare k.End ∷ []

abbrev pub sum_syntax : Program
sum_syntax =
    let product = s.Binary (o.Multiply multiplication.Times) 5 (x_alone 4) (y_alone 6) in
    let first = s.Binary (o.Add sign.Plus) 7 (s.Signed sign.Minus 3 product) (y_alone 8) in
    let value = s.Binary (o.Add sign.Minus) 9 first (x_alone 10) in
    only (s.Assign (x_alone 1) (record { sign = assignment.Value; token = 2; value = value } ∷ [])) 11

-- begin x := y := 'x' end: the first left side, then each sign with what stands on its right.
abbrev pub chain_source : List Lexeme
chain_source = bare k.Begin ∷ x ∷ bare k.Assign ∷ y ∷ bare k.Assign ∷ character 120 ∷ bare k.End ∷ []

abbrev pub chain_syntax : Program
chain_syntax =
    let last = s.Constant (s.CharacterValue 120) 5 in
    only (s.Assign (x_alone 1) (record { sign = assignment.Value; token = 2; value = y_alone 3 } ∷ record { sign = assignment.Value; token = 4; value = last } ∷ [])) 6

-- begin integer procedure x(y); value y; integer y; x := y; end: the body ends in front of token 17.
abbrev pub procedure_source : List Lexeme
procedure_source =
    bare k.Begin ∷ bare k.IntegerWord ∷ bare k.Procedure ∷ x ∷ bare k.Open ∷ y ∷ bare k.Close ∷ bare k.Semicolon ∷ bare k.Value ∷ y ∷ bare k.Semicolon ∷ bare k.IntegerWord ∷ y ∷ bare k.Semicolon
    ∷ x ∷ bare k.Assign ∷ y ∷ bare k.Semicolon ∷ bare k.End ∷ []

abbrev pub procedure_syntax : Program
procedure_syntax =
    let heading : s.Heading = record {
      name = x_at 3;
      formals = y_at 5 ∷ [];
      modes = record { token = 8; mode = mode.Value; names = y_at 9 ∷ [] } ∷ [];
      specifications = record { kind = s.Simple (type_name.Integer (record { 0 = 11 })); names = y_at 12 ∷ [] } ∷ [];
    } in
    let body = s.Assign (x_alone 14) (record { sign = assignment.Value; token = 15; value = y_alone 16 } ∷ []) in
    let declaration = s.DeclareProcedure (Some (type_name.Integer (record { 0 = 1 }))) 2 heading body 17 in
    record { prefix = None; block = s.Begin 0 (s.With declaration s.NoDeclaration) s.NoStatement 18 }

-- begin inspect x when y do y otherwise x end: the connection is what stands between tokens 5 and 7.
abbrev pub connection_source : List Lexeme
connection_source = bare k.Begin ∷ bare k.Inspect ∷ x ∷ bare k.When ∷ y ∷ bare k.Do ∷ y ∷ bare k.Otherwise ∷ x ∷ bare k.End ∷ []

abbrev pub connection_syntax : Program
connection_syntax = only (s.InspectWhen 1 (x_alone 2) (s.When 3 (y_at 4) 5 (s.Call (y_alone 6)) 7 s.NoArm) (s.Also (s.Call (x_alone 8)) s.NoStatement)) 9

-- x (y) begin end: a program with a prefix.
abbrev pub prefixed_source : List Lexeme
prefixed_source = x ∷ bare k.Open ∷ y ∷ bare k.Close ∷ bare k.Begin ∷ bare k.End ∷ []

abbrev pub prefixed_syntax : Program
prefixed_syntax = record { prefix = Some (record { class = x_at 0; arguments = s.Then (y_alone 2) s.NoMore }); block = s.Begin 4 s.NoDeclaration s.NoStatement 5 }
