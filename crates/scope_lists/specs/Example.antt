-- The lists of two small programs.
use Rattle.std.specs.Prelude.{◌≡◌, ℕ, ◌+◌, pos, List, [], ◌∷◌, Some, None, codes}
use Rattle.sim_tree.specs.declared.expr.Identifier.{Identifier}
use Rattle.sim_tree.specs.declared.stmt.Assignment.TheVariants as assignment
use Rattle.sim_tree.specs.declared.stmt.TypeName.TheVariants as type_name
use Rattle.sim_tree.specs.Syntax.{Assign, Begin, Block, Compound, Constant, Declaration, DeclareClass, DeclareProcedure, Empty, Heading, IntegerValue, Interface, Named, NoDeclaration, NoMore, NoStatement, Program, Variables, With}
use Rattle.sim_scope.specs.declared.scopes.Denotation.TheVariants as denotation
use Rattle.sim_scope.specs.Declare.{declared_by}
use Rattle.sim_scope.specs.Tables.{Tables}
use Rattle.prefix_bind.specs.Prefixes.{prefixed}
use Rattle.scope_lists.specs.Denoted.{denotes, found, shows}
use Rattle.scope_lists.specs.Lists.{Lists, around}

abbrev pub identifier : ℕ → List ℕ → Identifier
identifier n letters = record { token = record { 0 = n }; name = letters }

abbrev pub heading : ℕ → List ℕ → Heading
heading n letters = record { name = identifier n letters; formals = []; modes = []; specifications = [] }

abbrev pub nothing_hidden : Interface
nothing_hidden = record { protections = []; virtuals = [] }

abbrev pub integer_x : ℕ → Declaration
integer_x n = Variables (type_name.Integer (record { 0 = n })) (record { name = identifier (n + 1) (codes "x"); value = None } ∷ [])

abbrev pub program : Block → Program
program block = record { prefix = None; block = block }

-- begin class a; begin integer x end; a class b;  begin procedure p;  x  := 1  end; end
-- 0     1     23 4     5       6 7  8 9 10    11  13    14        15  17 18 19 20   22
abbrev pub class_with_prefix : Program
class_with_prefix = program (Begin 0
    (With (DeclareClass None 1 (heading 2 (codes "a")) nothing_hidden (Compound (Begin 4 (With (integer_x 5) NoDeclaration) NoStatement 7)) 8)
    (With (DeclareClass (Some (identifier 9 (codes "a"))) 10 (heading 11 (codes "b")) nothing_hidden
    (Compound (Begin 13 (With (DeclareProcedure None 14 (heading 15 (codes "p")) (Assign (Named (identifier 17 (codes "x")) NoMore) (record { sign = assignment.Value; token = 18; value = Constant (IntegerValue (pos 1)) 19 } ∷ [])) 20) NoDeclaration) NoStatement 20)) 21)
    NoDeclaration)) NoStatement 22)

-- begin b class a; ; a class b; ; end
abbrev pub cycle : Program
cycle = program (Begin 0
    (With (DeclareClass (Some (identifier 1 (codes "b"))) 2 (heading 3 (codes "a")) nothing_hidden (Empty 5) 5)
    (With (DeclareClass (Some (identifier 6 (codes "a"))) 7 (heading 8 (codes "b")) nothing_hidden (Empty 10) 10)
    NoDeclaration)) NoStatement 11)

abbrev pub tables_of : Program → Tables
tables_of p = prefixed (declared_by p).tables

-- The bodies of the first program are the program itself, a, b and p. The levels of b are b and a; around x in p are p, b and the program. The
-- second one of these shows x, since its level a declares it.
pub record WorkedScopes (l : Lists (tables_of class_with_prefix)) : Type 0 where
  pub levels : l.levels 2 ≡ 2 ∷ 1 ∷ []
  pub around_x : around (tables_of class_with_prefix) l 17 ≡ 3 ∷ 2 ∷ 0 ∷ []
  pub not_in_procedure : shows (tables_of class_with_prefix) l (Some 17) (codes "x") 3 ≡ None
  pub in_class : shows (tables_of class_with_prefix) l (Some 17) (codes "x") 2 ≡ Some (record { 0 = 1 })
  pub found_x : found (tables_of class_with_prefix) l 17 (codes "x") ≡ Some 2
  pub denoted : denotes (tables_of class_with_prefix) l 17 (codes "x") ≡ Some (denotation.Declared (record { 0 = 1 }))

-- Each of two classes that are prefixed by each other has both for levels.
pub record WorkedCycle (l : Lists (tables_of cycle)) : Type 0 where
  pub first : l.levels 1 ≡ 1 ∷ 2 ∷ []
  pub second : l.levels 2 ≡ 2 ∷ 1 ∷ []
