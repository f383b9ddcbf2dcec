-- The bodies of a small program with a standard prefix, a class, a procedure and a connection.
use Rattle.std.specs.Prelude.{◌≡◌, ℕ, ◌+◌, pos, List, [], ◌∷◌, map, Option, Some, None, codes}
use Rattle.sim_tree.specs.declared.expr.Identifier.{Identifier}
use Rattle.sim_tree.specs.declared.stmt.Assignment.TheVariants as assignment
use Rattle.sim_tree.specs.declared.stmt.TypeName.{TypeName}
use Rattle.sim_tree.specs.declared.stmt.TypeName.TheVariants as type_name
use Rattle.sim_tree.specs.Syntax.{Also, Assign, Begin, Compound, Constant, Declaration, DeclareClass, DeclareProcedure, Heading, Inner, Inspect, IntegerValue, Named, NoDeclaration, NoMore, NoObject, NoStatement, Program, Variables, With}
use Rattle.sim_scope.specs.declared.types.BlockKind.{BlockKind}
use Rattle.sim_scope.specs.declared.types.BlockKind.TheVariants as kind
use Rattle.sim_scope.specs.declared.types.StandardClass.TheVariants as class
use Rattle.sim_scope.specs.Bodies.{program_bodies}
use Rattle.sim_scope.specs.Laws.{Shape, outline}

abbrev identifier : ℕ → List ℕ → Identifier
identifier n letters = record { token = record { 0 = n }; name = letters }

abbrev heading : ℕ → List ℕ → Heading
heading n letters = record { name = identifier n letters; formals = []; modes = []; specifications = [] }

abbrev integer : ℕ → TypeName
integer n = type_name.Integer (record { 0 = n })

abbrev variable : ℕ → List ℕ → Declaration
variable n letters = Variables (integer n) (record { name = identifier (n + 1) letters; value = None } ∷ [])

-- simset begin class a; begin integer x; inner end; integer procedure f; f := 1; inspect none do begin integer y; end end
-- 0      1     2     3 4 5    6       7 8 9     10 11 12     13       14 15 16 17 18 19 20    21   22 23   24     25 26 27 28
abbrev example : Program
example = record {
  prefix = Some (record { class = identifier 0 (codes "simset"); arguments = NoMore });
  block = Begin 1
      (With (DeclareClass None 2 (heading 3 (codes "a")) (record { protections = []; virtuals = [] }) (Compound (Begin 5 (With (variable 6 (codes "x")) NoDeclaration) (Also (Inner 9) NoStatement) 10)) 11)
      (With (DeclareProcedure (Some (integer 12)) 13 (heading 14 (codes "f")) (Assign (Named (identifier 16 (codes "f")) NoMore) (record { sign = assignment.Value; token = 17; value = Constant (IntegerValue (pos 1)) 18 } ∷ [])) 19)
      NoDeclaration))
      (Also (Inspect 20 (Constant NoObject 21) 22 (Compound (Begin 23 (With (variable 24 (codes "y")) NoDeclaration) NoStatement 27)) 28 NoStatement) NoStatement)
      28;
}

abbrev body : BlockKind → (encloser : Option ℕ) → (level first end : ℕ) → Option Identifier → Shape
body k encloser level first end prefix = record { kind = k; encloser = encloser; level = level; first = first; end = end; prefix = prefix }

-- The declarations of `begin .. end` of the class are in the body of the class; the sub-block in the connection is at level 2.
unfoldable pub WorkedBodies : Type 0
WorkedBodies = map outline (program_bodies example) ≡
    body kind.Prefixed None 1 1 28 (Some (identifier 0 (codes "simset"))) ∷
    body (kind.StandardClass class.Linkage) (Some 0) 2 0 0 None ∷
    body (kind.StandardClass class.Link) (Some 0) 2 0 0 None ∷
    body (kind.StandardClass class.Head) (Some 0) 2 0 0 None ∷
    body kind.Class (Some 0) 2 3 11 None ∷
    body kind.Procedure (Some 0) 2 14 19 None ∷
    body kind.Connection (Some 0) 1 22 28 None ∷
    body kind.SubBlock (Some 6) 2 23 27 None ∷
    []
