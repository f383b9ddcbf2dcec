-- Small programs with classes, as what scopes make of their abstract syntax. Tokens are numbered as they stand in the source. In an example
-- each class has a name of its own.
use Rattle.std.specs.Prelude.{◌≡◌, ℕ, ◌+◌, Bool, true, false, ◌&&◌, if◌then◌else◌, pos, List, [], ◌∷◌, ◌++◌, replicate, Option, Some, None, codes}
use Rattle.std.specs.Str.{bytes_eq}
use Rattle.sim_base.specs.declared.numbering.DeclNo.{DeclNo}
use Rattle.sim_base.specs.declared.run_error.RunError.TheVariants.{AccessThroughNone, OutsideQualification}
use Rattle.sim_scope.specs.declared.scopes.Declaration.{Declaration as Row}
use Rattle.sim_scope.specs.declared.scopes.Denotation.{Denotation}
use Rattle.sim_scope.specs.declared.scopes.Denotation.TheVariants as denotation
use Rattle.sim_scope.specs.declared.scopes.Qualification.{Qualification}
use Rattle.sim_scope.specs.declared.standard.StandardName.TheVariants as standard
use Rattle.sim_scope.specs.declared.types.Entry.{Entry}
use Rattle.sim_scope.specs.declared.types.Entry.TheVariants as entry
use Rattle.sim_scope.specs.declared.types.SimType.{SimType}
use Rattle.sim_scope.specs.declared.types.SimType.TheVariants as t
use Rattle.sim_scope.specs.Access.{is_connection}
use Rattle.sim_scope.specs.Declare.{declared_by}
use Rattle.sim_scope.specs.Levels.{class_block, class_block_in}
use Rattle.sim_scope.specs.References.{this_block}
use Rattle.sim_scope.specs.Scopes.{binding, entry_of, found_in, is_detach, shown}
use Rattle.sim_scope.specs.Source.{Source}
use Rattle.sim_scope.specs.Standard.{text_attribute}
use Rattle.sim_scope.specs.Tables.{BlockOf, Tables, with_entry_at}
use Rattle.sim_tree.specs.declared.expr.Identifier.{Identifier}
use Rattle.sim_tree.specs.declared.expr.Membership.TheVariants as membership
use Rattle.sim_tree.specs.declared.expr.Multiplication.TheVariants as multiplication
use Rattle.sim_tree.specs.declared.expr.Relation.TheVariants as relation
use Rattle.sim_tree.specs.declared.expr.Sign.TheVariants as sign
use Rattle.sim_tree.specs.declared.operator.Operator.TheVariants as op
use Rattle.sim_tree.specs.declared.stmt.Assignment.TheVariants as assignment
use Rattle.sim_tree.specs.declared.stmt.Constant.TheVariants as constant
use Rattle.sim_tree.specs.declared.stmt.Mode.TheVariants as mode
use Rattle.sim_tree.specs.declared.stmt.TypeName.TheVariants as type_name
use Rattle.sim_tree.specs.Syntax.{Also, Array, Arrays, Assign, Begin, Binary, Block, BooleanValue, Call, CharacterValue, Choose, Compound, Constant, DeclareClass, DeclareProcedure, Dot, For, If, Inner, Inspect, InspectWhen, IntegerValue, Member, Named, New, NoArm, NoDeclaration, NoMore, NoObject, NoStatement, NoText, Not, Once, Parentheses, Prefixed, Program, Qua, Repeat, Simple, Step, TextValue, Then, This, Variables, When, With}
use Rattle.sim_values.specs.declared.standard.Standard.TheVariants as procedure
use Rattle.sim_code.specs.Outcome.{Normal, RunFault, StorageExhausted}
use Rattle.sim_meaning.specs.Examples.{identifier, limits, lines_of, seen, shows, token}
use Rattle.sim_meaning.specs.TextExamples.{attribute, gap}

-- ---- what the layers between scopes and the meaning find

-- the class of a name, as a declaration and as a block
abbrev pub is_some : Option ℕ → Bool
is_some None = false
is_some (Some k) = true

abbrev pub class_among : ℕ → List ℕ → List Row → Option DeclNo
class_among n name [] = None
class_among n name (d ∷ ds) = if is_some (class_block_in (Some d.entry)) && bytes_eq name d.name then Some (record { 0 = n }) else class_among (n + 1) name ds

abbrev pub class_named : Tables → List ℕ → Option DeclNo
class_named tables name = class_among 0 name tables.declarations

abbrev pub block_of_class : Tables → Option DeclNo → Option ℕ
block_of_class tables None = None
block_of_class tables (Some d) = class_block tables d

-- the prefixes, and the classes of the connections in their order
abbrev pub prefix_block : Tables → Option Identifier → Option ℕ
prefix_block tables None = None
prefix_block tables (Some class) = block_of_class tables (class_named tables class.name)

abbrev pub first_name : List (List ℕ) → List ℕ
first_name [] = []
first_name (c ∷ cs) = c

abbrev pub other_names : List (List ℕ) → List (List ℕ)
other_names [] = []
other_names (c ∷ cs) = cs

abbrev pub blocks_bound : Tables → (connected : List (List ℕ)) → List BlockOf → List BlockOf
blocks_bound tables cs [] = []
blocks_bound tables cs (b ∷ bs) =
    if is_connection b.kind
    then record b { base = block_of_class tables (class_named tables (first_name cs)) } ∷ blocks_bound tables (other_names cs) bs
    else record b { base = prefix_block tables b.prefix } ∷ blocks_bound tables cs bs

-- the qualifications of what is declared
abbrev pub reference_to : Option DeclNo → SimType
reference_to None = t.NoneType
reference_to (Some d) = t.Ref d

abbrev pub entry_qualified : SimType → Entry → Entry
entry_qualified type (entry.Variable other) = entry.Variable type
entry_qualified type (entry.Array other dimensions) = entry.Array type dimensions
entry_qualified type (entry.Procedure result block) = entry.Procedure (Some type) block
entry_qualified type (entry.Formal f) = entry.Formal (record f { ty = Some type })
entry_qualified type e = e

abbrev pub entry_known : Tables → (number : ℕ) → SimType → Option Entry → Tables
entry_known tables n type None = tables
entry_known tables n type (Some e) = with_entry_at tables n (entry_qualified type e)

abbrev pub all_qualified : List Qualification → Tables → Tables
all_qualified [] tables = tables
all_qualified (q ∷ qs) tables =
    all_qualified qs (entry_known tables q.declaration.0 (reference_to (class_named tables q.class.name)) (entry_of tables q.declaration))

abbrev pub tables_bound : (connected : List (List ℕ)) → Tables → Tables
tables_bound cs tables = all_qualified tables.qualifications (record tables { blocks = blocks_bound tables cs tables.blocks })

-- where an identifier is used: alone, behind the dot of a reference to a class, or of a text; and `this`, by its own token
pub data Where : Type 0 where
  Alone : Where
  Behind : (class : List ℕ) → Where
  OfText : Where
  OfThis : Where

pub record Use : Type 0 where
  pub token : ℕ
  pub where_it_is : Where
  pub name : List ℕ

abbrev pub at : ℕ → Where → List ℕ → Use
at token where_it_is name = record { token = token; where_it_is = where_it_is; name = name }

abbrev pub attribute_of : Tables → ℕ → List ℕ → Option ℕ → Option DeclNo
attribute_of tables token name None = None
attribute_of tables token name (Some k) = shown tables (Some token) k name

-- behind what a class declares each object has `detach`
abbrev pub attribute_or_detach : List ℕ → Option DeclNo → Option Denotation
attribute_or_detach name (Some d) = Some (denotation.Declared d)
attribute_or_detach name None = if is_detach name then Some (denotation.Standard (standard.Procedure procedure.Detach)) else None

abbrev pub denotes : Tables → Use → Where → Option Denotation
denotes tables x Alone = binding tables x.token x.name
denotes tables x (Behind class) = attribute_or_detach x.name (attribute_of tables x.token x.name (block_of_class tables (class_named tables class)))
denotes tables x OfText = attribute (text_attribute x.name)
denotes tables x OfThis = None

abbrev pub this_class : Tables → ℕ → Option DeclNo → Option ℕ
this_class tables token None = None
this_class tables token (Some d) = this_block tables token (denotation.Declared d)

abbrev pub found : Tables → Use → Where → Option ℕ
found tables x Alone = found_in tables x.token x.name
found tables x (Behind class) = None
found tables x OfText = None
found tables x OfThis = this_class tables x.token (class_named tables x.name)

-- their tokens ascend, and those from n on are left
abbrev pub uses_of : ℕ → Tables → List Use → List (Option Denotation)
uses_of n tables [] = []
uses_of n tables (x ∷ xs) = replicate (gap x.token n) None ++ denotes tables x x.where_it_is ∷ uses_of (x.token + 1) tables xs

abbrev pub found_of : ℕ → Tables → List Use → List (Option ℕ)
found_of n tables [] = []
found_of n tables (x ∷ xs) = replicate (gap x.token n) None ++ found tables x x.where_it_is ∷ found_of (x.token + 1) tables xs

-- the tokens that name texts and left sides that are references; and actual parameters of calls that are checked
pub data TypeWritten : Type 0 where
  AText : TypeWritten
  Reference : (class : List ℕ) → TypeWritten
  AnInteger : TypeWritten
  OfNone : TypeWritten

pub record Typed : Type 0 where
  pub token : ℕ
  pub type : TypeWritten

abbrev pub typed : ℕ → TypeWritten → Typed
typed token type = record { token = token; type = type }

abbrev pub type_meant : Tables → TypeWritten → SimType
type_meant tables AText = t.Text
type_meant tables (Reference class) = reference_to (class_named tables class)
type_meant tables AnInteger = t.Integer
type_meant tables OfNone = t.NoneType

abbrev pub types_of : ℕ → Tables → List Typed → List (Option SimType)
types_of n tables [] = []
types_of n tables (x ∷ xs) = replicate (gap x.token n) None ++ Some (type_meant tables x.type) ∷ types_of (x.token + 1) tables xs

abbrev pub source_with_classes : List (ℕ × ℕ) → List Use → List Typed → (connected : List (List ℕ)) → Block → Source
source_with_classes lines uses types connected block =
    let program : Program = record { prefix = None; block = block } in
    let tables : Tables = tables_bound connected (declared_by program).tables in
    record { program = program; tables = tables; uses = uses_of 0 tables uses; found_in = found_of 0 tables uses; types = types_of 0 tables types; lines = lines_of lines }

-- ---- programs

-- begin
-- class a; begin integer n; n := 1; outtext("a1 "); inner; outtext("a2 ") end;
-- a class b; begin integer n; n := 2; outtext("b1 "); inner; outtext("b2 ") end;
-- b class c; begin outtext("c ") end;
-- ref(c) x; ref(a) y;
-- x :- new c; y :- x;
-- outint(x.n, 2); outint(y.n, 2); outimage
-- end
abbrev pub levels_in_turn : Source
levels_in_turn = source_with_classes ((1, 1) ∷ (2, 24) ∷ (3, 25) ∷ (4, 11) ∷ (5, 12) ∷ (6, 9) ∷ (7, 19) ∷ (8, 2) ∷ []) (at 8 Alone (codes "n") ∷ at 12 Alone (codes "outtext") ∷ at 19 Alone (codes "outtext") ∷ at 33 Alone (codes "n") ∷ at 37 Alone (codes "outtext") ∷ at 44 Alone (codes "outtext") ∷ at 55 Alone (codes "outtext") ∷ at 73 Alone (codes "x") ∷ at 76 Alone (codes "c") ∷ at 78 Alone (codes "y") ∷ at 80 Alone (codes "x") ∷ at 82 Alone (codes "outint") ∷ at 84 Alone (codes "x") ∷ at 86 (Behind (codes "c")) (codes "n") ∷ at 91 Alone (codes "outint") ∷ at 93 Alone (codes "y") ∷ at 95 (Behind (codes "a")) (codes "n") ∷ at 100 Alone (codes "outimage") ∷ []) (typed 14 AText ∷ typed 21 AText ∷ typed 39 AText ∷ typed 46 AText ∷ typed 57 AText ∷ typed 73 (Reference (codes "c")) ∷ typed 78 (Reference (codes "a")) ∷ typed 80 (Reference (codes "c")) ∷ typed 84 (Reference (codes "c")) ∷ typed 93 (Reference (codes "a")) ∷ []) ([]) (Begin 0 (With (DeclareClass None 1 (record { name = (identifier 2 (codes "a")); formals = []; modes = []; specifications = [] }) (record { protections = []; virtuals = [] }) (Compound (Begin 4 (With (Variables (type_name.Integer (token 5)) (record { name = (identifier 6 (codes "n")); value = None } ∷ [])) NoDeclaration) (Also (Assign (Named (identifier 8 (codes "n")) NoMore) (record { sign = assignment.Value; token = 9; value = (Constant (IntegerValue (pos 1)) 10) } ∷ [])) (Also (Call (Named (identifier 12 (codes "outtext")) (Then (Constant (TextValue (codes "a1 ")) 14) NoMore))) (Also (Inner 17) (Also (Call (Named (identifier 19 (codes "outtext")) (Then (Constant (TextValue (codes "a2 ")) 21) NoMore))) NoStatement)))) 23)) 24) (With (DeclareClass (Some (identifier 25 (codes "a"))) 26 (record { name = (identifier 27 (codes "b")); formals = []; modes = []; specifications = [] }) (record { protections = []; virtuals = [] }) (Compound (Begin 29 (With (Variables (type_name.Integer (token 30)) (record { name = (identifier 31 (codes "n")); value = None } ∷ [])) NoDeclaration) (Also (Assign (Named (identifier 33 (codes "n")) NoMore) (record { sign = assignment.Value; token = 34; value = (Constant (IntegerValue (pos 2)) 35) } ∷ [])) (Also (Call (Named (identifier 37 (codes "outtext")) (Then (Constant (TextValue (codes "b1 ")) 39) NoMore))) (Also (Inner 42) (Also (Call (Named (identifier 44 (codes "outtext")) (Then (Constant (TextValue (codes "b2 ")) 46) NoMore))) NoStatement)))) 48)) 49) (With (DeclareClass (Some (identifier 50 (codes "b"))) 51 (record { name = (identifier 52 (codes "c")); formals = []; modes = []; specifications = [] }) (record { protections = []; virtuals = [] }) (Compound (Begin 54 NoDeclaration (Also (Call (Named (identifier 55 (codes "outtext")) (Then (Constant (TextValue (codes "c ")) 57) NoMore))) NoStatement) 59)) 60) (With (Variables (type_name.Reference (token 61) (identifier 63 (codes "c"))) (record { name = (identifier 65 (codes "x")); value = None } ∷ [])) (With (Variables (type_name.Reference (token 67) (identifier 69 (codes "a"))) (record { name = (identifier 71 (codes "y")); value = None } ∷ [])) NoDeclaration))))) (Also (Assign (Named (identifier 73 (codes "x")) NoMore) (record { sign = assignment.Reference; token = 74; value = (New 75 (identifier 76 (codes "c")) NoMore) } ∷ [])) (Also (Assign (Named (identifier 78 (codes "y")) NoMore) (record { sign = assignment.Reference; token = 79; value = (Named (identifier 80 (codes "x")) NoMore) } ∷ [])) (Also (Call (Named (identifier 82 (codes "outint")) (Then (Dot 85 (Named (identifier 84 (codes "x")) NoMore) (identifier 86 (codes "n")) NoMore) (Then (Constant (IntegerValue (pos 2)) 88) NoMore)))) (Also (Call (Named (identifier 91 (codes "outint")) (Then (Dot 94 (Named (identifier 93 (codes "y")) NoMore) (identifier 95 (codes "n")) NoMore) (Then (Constant (IntegerValue (pos 2)) 97) NoMore)))) (Also (Call (Named (identifier 100 (codes "outimage")) NoMore)) NoStatement))))) 101)

-- begin
-- class c; begin integer a, b end;
-- integer i;
-- while true do begin
--   i := i + 1;
--   new c
-- end
-- end
abbrev pub objects_without_end : Source
objects_without_end = source_with_classes ((1, 1) ∷ (2, 10) ∷ (3, 3) ∷ (4, 4) ∷ (5, 6) ∷ (6, 2) ∷ (7, 1) ∷ (8, 2) ∷ []) (at 18 Alone (codes "i") ∷ at 20 Alone (codes "i") ∷ at 25 Alone (codes "c") ∷ []) ([]) ([]) (Begin 0 (With (DeclareClass None 1 (record { name = (identifier 2 (codes "c")); formals = []; modes = []; specifications = [] }) (record { protections = []; virtuals = [] }) (Compound (Begin 4 (With (Variables (type_name.Integer (token 5)) (record { name = (identifier 6 (codes "a")); value = None } ∷ record { name = (identifier 8 (codes "b")); value = None } ∷ [])) NoDeclaration) NoStatement 9)) 10) (With (Variables (type_name.Integer (token 11)) (record { name = (identifier 12 (codes "i")); value = None } ∷ [])) NoDeclaration)) (Also (Repeat 14 (Constant (BooleanValue true) 15) (Compound (Begin 17 NoDeclaration (Also (Assign (Named (identifier 18 (codes "i")) NoMore) (record { sign = assignment.Value; token = 19; value = (Binary (op.Add sign.Plus) 21 (Named (identifier 20 (codes "i")) NoMore) (Constant (IntegerValue (pos 1)) 22)) } ∷ [])) (Also (Call (New 24 (identifier 25 (codes "c")) NoMore)) NoStatement)) 26))) NoStatement) 27)

-- begin class a; begin integer v; v := 1 end;
-- a class b; begin integer w; w := 2 end;
-- procedure show(x); ref(a) x;
-- inspect x when b do outint(v + w, 3) when a do outint(v, 3) otherwise outtext("none");
-- show(new a); show(new b); show(none); outimage
-- end
abbrev pub inspections : Source
inspections = source_with_classes ((1, 13) ∷ (2, 13) ∷ (3, 12) ∷ (4, 28) ∷ (5, 18) ∷ (6, 2) ∷ []) (at 8 Alone (codes "v") ∷ at 21 Alone (codes "w") ∷ at 39 Alone (codes "x") ∷ at 41 Alone (codes "b") ∷ at 43 Alone (codes "outint") ∷ at 45 Alone (codes "v") ∷ at 47 Alone (codes "w") ∷ at 52 Alone (codes "a") ∷ at 54 Alone (codes "outint") ∷ at 56 Alone (codes "v") ∷ at 61 Alone (codes "outtext") ∷ at 66 Alone (codes "show") ∷ at 69 Alone (codes "a") ∷ at 72 Alone (codes "show") ∷ at 75 Alone (codes "b") ∷ at 78 Alone (codes "show") ∷ at 83 Alone (codes "outimage") ∷ []) (typed 63 AText ∷ []) (codes "b" ∷ codes "a" ∷ []) (Begin 0 (With (DeclareClass None 1 (record { name = (identifier 2 (codes "a")); formals = []; modes = []; specifications = [] }) (record { protections = []; virtuals = [] }) (Compound (Begin 4 (With (Variables (type_name.Integer (token 5)) (record { name = (identifier 6 (codes "v")); value = None } ∷ [])) NoDeclaration) (Also (Assign (Named (identifier 8 (codes "v")) NoMore) (record { sign = assignment.Value; token = 9; value = (Constant (IntegerValue (pos 1)) 10) } ∷ [])) NoStatement) 11)) 12) (With (DeclareClass (Some (identifier 13 (codes "a"))) 14 (record { name = (identifier 15 (codes "b")); formals = []; modes = []; specifications = [] }) (record { protections = []; virtuals = [] }) (Compound (Begin 17 (With (Variables (type_name.Integer (token 18)) (record { name = (identifier 19 (codes "w")); value = None } ∷ [])) NoDeclaration) (Also (Assign (Named (identifier 21 (codes "w")) NoMore) (record { sign = assignment.Value; token = 22; value = (Constant (IntegerValue (pos 2)) 23) } ∷ [])) NoStatement) 24)) 25) (With (DeclareProcedure None 26 (record { name = (identifier 27 (codes "show")); formals = (identifier 29 (codes "x") ∷ []); modes = []; specifications = (record { kind = Simple (type_name.Reference (token 32) (identifier 34 (codes "a"))); names = (identifier 36 (codes "x") ∷ []) } ∷ []) }) (InspectWhen 38 (Named (identifier 39 (codes "x")) NoMore) (When 40 (identifier 41 (codes "b")) 42 (Call (Named (identifier 43 (codes "outint")) (Then (Binary (op.Add sign.Plus) 46 (Named (identifier 45 (codes "v")) NoMore) (Named (identifier 47 (codes "w")) NoMore)) (Then (Constant (IntegerValue (pos 3)) 49) NoMore)))) 51 (When 51 (identifier 52 (codes "a")) 53 (Call (Named (identifier 54 (codes "outint")) (Then (Named (identifier 56 (codes "v")) NoMore) (Then (Constant (IntegerValue (pos 3)) 58) NoMore)))) 60 NoArm)) (Also (Call (Named (identifier 61 (codes "outtext")) (Then (Constant (TextValue (codes "none")) 63) NoMore))) NoStatement)) 65) NoDeclaration))) (Also (Call (Named (identifier 66 (codes "show")) (Then (New 68 (identifier 69 (codes "a")) NoMore) NoMore))) (Also (Call (Named (identifier 72 (codes "show")) (Then (New 74 (identifier 75 (codes "b")) NoMore) NoMore))) (Also (Call (Named (identifier 78 (codes "show")) (Then (Constant NoObject 80) NoMore))) (Also (Call (Named (identifier 83 (codes "outimage")) NoMore)) NoStatement)))) 84)

-- begin
-- integer procedure f; begin outtext("f"); f := 1 end;
-- class a; begin integer array v(1:2); procedure p(n); integer n; outint(n, 1) end;
-- ref(a) x;
-- x :- new a;
-- x.p(f);
-- x :- none;
-- x
-- .p(f)
-- end
abbrev pub access_through_none : Source
access_through_none = source_with_classes ((1, 1) ∷ (2, 15) ∷ (3, 30) ∷ (4, 6) ∷ (5, 5) ∷ (6, 7) ∷ (7, 4) ∷ (8, 1) ∷ (9, 5) ∷ (10, 2) ∷ []) (at 6 Alone (codes "outtext") ∷ at 11 Alone (codes "f") ∷ at 38 Alone (codes "outint") ∷ at 40 Alone (codes "n") ∷ at 52 Alone (codes "x") ∷ at 55 Alone (codes "a") ∷ at 57 Alone (codes "x") ∷ at 59 (Behind (codes "a")) (codes "p") ∷ at 61 Alone (codes "f") ∷ at 64 Alone (codes "x") ∷ at 68 Alone (codes "x") ∷ at 70 (Behind (codes "a")) (codes "p") ∷ at 72 Alone (codes "f") ∷ []) (typed 8 AText ∷ typed 52 (Reference (codes "a")) ∷ typed 57 (Reference (codes "a")) ∷ typed 64 (Reference (codes "a")) ∷ typed 68 (Reference (codes "a")) ∷ []) ([]) (Begin 0 (With (DeclareProcedure (Some (type_name.Integer (token 1))) 2 (record { name = (identifier 3 (codes "f")); formals = []; modes = []; specifications = [] }) (Compound (Begin 5 NoDeclaration (Also (Call (Named (identifier 6 (codes "outtext")) (Then (Constant (TextValue (codes "f")) 8) NoMore))) (Also (Assign (Named (identifier 11 (codes "f")) NoMore) (record { sign = assignment.Value; token = 12; value = (Constant (IntegerValue (pos 1)) 13) } ∷ [])) NoStatement)) 14)) 15) (With (DeclareClass None 16 (record { name = (identifier 17 (codes "a")); formals = []; modes = []; specifications = [] }) (record { protections = []; virtuals = [] }) (Compound (Begin 19 (With (Arrays (type_name.Integer (token 20)) 21 (record { names = (identifier 22 (codes "v") ∷ []); bounds = (record { lower = (Constant (IntegerValue (pos 1)) 24); upper = (Constant (IntegerValue (pos 2)) 26) } ∷ []) } ∷ [])) (With (DeclareProcedure None 29 (record { name = (identifier 30 (codes "p")); formals = (identifier 32 (codes "n") ∷ []); modes = []; specifications = (record { kind = Simple (type_name.Integer (token 35)); names = (identifier 36 (codes "n") ∷ []) } ∷ []) }) (Call (Named (identifier 38 (codes "outint")) (Then (Named (identifier 40 (codes "n")) NoMore) (Then (Constant (IntegerValue (pos 1)) 42) NoMore)))) 44) NoDeclaration)) NoStatement 44)) 45) (With (Variables (type_name.Reference (token 46) (identifier 48 (codes "a"))) (record { name = (identifier 50 (codes "x")); value = None } ∷ [])) NoDeclaration))) (Also (Assign (Named (identifier 52 (codes "x")) NoMore) (record { sign = assignment.Reference; token = 53; value = (New 54 (identifier 55 (codes "a")) NoMore) } ∷ [])) (Also (Call (Dot 58 (Named (identifier 57 (codes "x")) NoMore) (identifier 59 (codes "p")) (Then (Named (identifier 61 (codes "f")) NoMore) NoMore))) (Also (Assign (Named (identifier 64 (codes "x")) NoMore) (record { sign = assignment.Reference; token = 65; value = (Constant NoObject 66) } ∷ [])) (Also (Call (Dot 69 (Named (identifier 68 (codes "x")) NoMore) (identifier 70 (codes "p")) (Then (Named (identifier 72 (codes "f")) NoMore) NoMore))) NoStatement)))) 74)

-- begin class a; begin end;
-- a class b; begin integer w; w := 3 end;
-- procedure p(y); ref(b) y; outint(y.w, 2);
-- ref(a) x; ref(b) z;
-- x :- new b; z :- x; p(x); x :- new a;
-- z
-- :- x
-- end
abbrev pub outside_qualification : Source
outside_qualification = source_with_classes ((1, 7) ∷ (2, 13) ∷ (3, 21) ∷ (4, 12) ∷ (5, 19) ∷ (6, 1) ∷ (7, 2) ∷ (8, 2) ∷ []) (at 15 Alone (codes "w") ∷ at 32 Alone (codes "outint") ∷ at 34 Alone (codes "y") ∷ at 36 (Behind (codes "b")) (codes "w") ∷ at 53 Alone (codes "x") ∷ at 56 Alone (codes "b") ∷ at 58 Alone (codes "z") ∷ at 60 Alone (codes "x") ∷ at 62 Alone (codes "p") ∷ at 64 Alone (codes "x") ∷ at 67 Alone (codes "x") ∷ at 70 Alone (codes "a") ∷ at 72 Alone (codes "z") ∷ at 74 Alone (codes "x") ∷ []) (typed 53 (Reference (codes "a")) ∷ typed 58 (Reference (codes "b")) ∷ typed 60 (Reference (codes "a")) ∷ typed 64 (Reference (codes "a")) ∷ typed 67 (Reference (codes "a")) ∷ typed 72 (Reference (codes "b")) ∷ typed 74 (Reference (codes "a")) ∷ []) ([]) (Begin 0 (With (DeclareClass None 1 (record { name = (identifier 2 (codes "a")); formals = []; modes = []; specifications = [] }) (record { protections = []; virtuals = [] }) (Compound (Begin 4 NoDeclaration NoStatement 5)) 6) (With (DeclareClass (Some (identifier 7 (codes "a"))) 8 (record { name = (identifier 9 (codes "b")); formals = []; modes = []; specifications = [] }) (record { protections = []; virtuals = [] }) (Compound (Begin 11 (With (Variables (type_name.Integer (token 12)) (record { name = (identifier 13 (codes "w")); value = None } ∷ [])) NoDeclaration) (Also (Assign (Named (identifier 15 (codes "w")) NoMore) (record { sign = assignment.Value; token = 16; value = (Constant (IntegerValue (pos 3)) 17) } ∷ [])) NoStatement) 18)) 19) (With (DeclareProcedure None 20 (record { name = (identifier 21 (codes "p")); formals = (identifier 23 (codes "y") ∷ []); modes = []; specifications = (record { kind = Simple (type_name.Reference (token 26) (identifier 28 (codes "b"))); names = (identifier 30 (codes "y") ∷ []) } ∷ []) }) (Call (Named (identifier 32 (codes "outint")) (Then (Dot 35 (Named (identifier 34 (codes "y")) NoMore) (identifier 36 (codes "w")) NoMore) (Then (Constant (IntegerValue (pos 2)) 38) NoMore)))) 40) (With (Variables (type_name.Reference (token 41) (identifier 43 (codes "a"))) (record { name = (identifier 45 (codes "x")); value = None } ∷ [])) (With (Variables (type_name.Reference (token 47) (identifier 49 (codes "b"))) (record { name = (identifier 51 (codes "z")); value = None } ∷ [])) NoDeclaration))))) (Also (Assign (Named (identifier 53 (codes "x")) NoMore) (record { sign = assignment.Reference; token = 54; value = (New 55 (identifier 56 (codes "b")) NoMore) } ∷ [])) (Also (Assign (Named (identifier 58 (codes "z")) NoMore) (record { sign = assignment.Reference; token = 59; value = (Named (identifier 60 (codes "x")) NoMore) } ∷ [])) (Also (Call (Named (identifier 62 (codes "p")) (Then (Named (identifier 64 (codes "x")) NoMore) NoMore))) (Also (Assign (Named (identifier 67 (codes "x")) NoMore) (record { sign = assignment.Reference; token = 68; value = (New 69 (identifier 70 (codes "a")) NoMore) } ∷ [])) (Also (Assign (Named (identifier 72 (codes "z")) NoMore) (record { sign = assignment.Reference; token = 73; value = (Named (identifier 74 (codes "x")) NoMore) } ∷ [])) NoStatement))))) 75)

-- begin class a; begin end;
-- a class b; begin end;
-- procedure p(y, n); ref(b) y; integer n; outint(n, 1);
-- integer procedure f; begin outtext("f"); f := 1 end;
-- ref(a) x;
-- x :- new a;
-- p
-- (x, f)
-- end
abbrev pub actual_outside : Source
actual_outside = source_with_classes ((1, 7) ∷ (2, 7) ∷ (3, 24) ∷ (4, 15) ∷ (5, 6) ∷ (6, 5) ∷ (7, 1) ∷ (8, 5) ∷ (9, 2) ∷ []) (at 31 Alone (codes "outint") ∷ at 33 Alone (codes "n") ∷ at 43 Alone (codes "outtext") ∷ at 48 Alone (codes "f") ∷ at 59 Alone (codes "x") ∷ at 62 Alone (codes "a") ∷ at 64 Alone (codes "p") ∷ at 66 Alone (codes "x") ∷ at 68 Alone (codes "f") ∷ []) (typed 45 AText ∷ typed 59 (Reference (codes "a")) ∷ typed 66 (Reference (codes "a")) ∷ []) ([]) (Begin 0 (With (DeclareClass None 1 (record { name = (identifier 2 (codes "a")); formals = []; modes = []; specifications = [] }) (record { protections = []; virtuals = [] }) (Compound (Begin 4 NoDeclaration NoStatement 5)) 6) (With (DeclareClass (Some (identifier 7 (codes "a"))) 8 (record { name = (identifier 9 (codes "b")); formals = []; modes = []; specifications = [] }) (record { protections = []; virtuals = [] }) (Compound (Begin 11 NoDeclaration NoStatement 12)) 13) (With (DeclareProcedure None 14 (record { name = (identifier 15 (codes "p")); formals = (identifier 17 (codes "y") ∷ identifier 19 (codes "n") ∷ []); modes = []; specifications = (record { kind = Simple (type_name.Reference (token 22) (identifier 24 (codes "b"))); names = (identifier 26 (codes "y") ∷ []) } ∷ record { kind = Simple (type_name.Integer (token 28)); names = (identifier 29 (codes "n") ∷ []) } ∷ []) }) (Call (Named (identifier 31 (codes "outint")) (Then (Named (identifier 33 (codes "n")) NoMore) (Then (Constant (IntegerValue (pos 1)) 35) NoMore)))) 37) (With (DeclareProcedure (Some (type_name.Integer (token 38))) 39 (record { name = (identifier 40 (codes "f")); formals = []; modes = []; specifications = [] }) (Compound (Begin 42 NoDeclaration (Also (Call (Named (identifier 43 (codes "outtext")) (Then (Constant (TextValue (codes "f")) 45) NoMore))) (Also (Assign (Named (identifier 48 (codes "f")) NoMore) (record { sign = assignment.Value; token = 49; value = (Constant (IntegerValue (pos 1)) 50) } ∷ [])) NoStatement)) 51)) 52) (With (Variables (type_name.Reference (token 53) (identifier 55 (codes "a"))) (record { name = (identifier 57 (codes "x")); value = None } ∷ [])) NoDeclaration))))) (Also (Assign (Named (identifier 59 (codes "x")) NoMore) (record { sign = assignment.Reference; token = 60; value = (New 61 (identifier 62 (codes "a")) NoMore) } ∷ [])) (Also (Call (Named (identifier 64 (codes "p")) (Then (Named (identifier 66 (codes "x")) NoMore) (Then (Named (identifier 68 (codes "f")) NoMore) NoMore)))) NoStatement)) 70)

-- begin class a; begin integer v; v := 1 end; a class b; begin end;
-- ref(a) x; ref(a) y;
-- x :- new b;
-- if x is b and not x is a and x in a and not (none in a) then outint(x qua b.v, 1);
-- if x =/= y and y == none and (if x == y then y else x) == x then outtext("!");
-- outint(y
-- qua b.v, 1)
-- end
abbrev pub memberships : Source
memberships = source_with_classes ((1, 20) ∷ (2, 12) ∷ (3, 5) ∷ (4, 32) ∷ (5, 27) ∷ (6, 3) ∷ (7, 7) ∷ (8, 2) ∷ []) (at 8 Alone (codes "v") ∷ at 32 Alone (codes "x") ∷ at 35 Alone (codes "b") ∷ at 38 Alone (codes "x") ∷ at 40 Alone (codes "b") ∷ at 43 Alone (codes "x") ∷ at 45 Alone (codes "a") ∷ at 47 Alone (codes "x") ∷ at 49 Alone (codes "a") ∷ at 55 Alone (codes "a") ∷ at 58 Alone (codes "outint") ∷ at 60 Alone (codes "x") ∷ at 62 Alone (codes "b") ∷ at 64 (Behind (codes "b")) (codes "v") ∷ at 70 Alone (codes "x") ∷ at 72 Alone (codes "y") ∷ at 74 Alone (codes "y") ∷ at 80 Alone (codes "x") ∷ at 82 Alone (codes "y") ∷ at 84 Alone (codes "y") ∷ at 86 Alone (codes "x") ∷ at 89 Alone (codes "x") ∷ at 91 Alone (codes "outtext") ∷ at 96 Alone (codes "outint") ∷ at 98 Alone (codes "y") ∷ at 100 Alone (codes "b") ∷ at 102 (Behind (codes "b")) (codes "v") ∷ []) (typed 32 (Reference (codes "a")) ∷ typed 38 (Reference (codes "a")) ∷ typed 43 (Reference (codes "a")) ∷ typed 47 (Reference (codes "a")) ∷ typed 60 (Reference (codes "a")) ∷ typed 70 (Reference (codes "a")) ∷ typed 72 (Reference (codes "a")) ∷ typed 74 (Reference (codes "a")) ∷ typed 80 (Reference (codes "a")) ∷ typed 82 (Reference (codes "a")) ∷ typed 84 (Reference (codes "a")) ∷ typed 86 (Reference (codes "a")) ∷ typed 89 (Reference (codes "a")) ∷ typed 93 AText ∷ typed 98 (Reference (codes "a")) ∷ []) ([]) (Begin 0 (With (DeclareClass None 1 (record { name = (identifier 2 (codes "a")); formals = []; modes = []; specifications = [] }) (record { protections = []; virtuals = [] }) (Compound (Begin 4 (With (Variables (type_name.Integer (token 5)) (record { name = (identifier 6 (codes "v")); value = None } ∷ [])) NoDeclaration) (Also (Assign (Named (identifier 8 (codes "v")) NoMore) (record { sign = assignment.Value; token = 9; value = (Constant (IntegerValue (pos 1)) 10) } ∷ [])) NoStatement) 11)) 12) (With (DeclareClass (Some (identifier 13 (codes "a"))) 14 (record { name = (identifier 15 (codes "b")); formals = []; modes = []; specifications = [] }) (record { protections = []; virtuals = [] }) (Compound (Begin 17 NoDeclaration NoStatement 18)) 19) (With (Variables (type_name.Reference (token 20) (identifier 22 (codes "a"))) (record { name = (identifier 24 (codes "x")); value = None } ∷ [])) (With (Variables (type_name.Reference (token 26) (identifier 28 (codes "a"))) (record { name = (identifier 30 (codes "y")); value = None } ∷ [])) NoDeclaration)))) (Also (Assign (Named (identifier 32 (codes "x")) NoMore) (record { sign = assignment.Reference; token = 33; value = (New 34 (identifier 35 (codes "b")) NoMore) } ∷ [])) (Also (Choose 37 (Binary op.And 50 (Binary op.And 46 (Binary op.And 41 (Member membership.Is 39 (Named (identifier 38 (codes "x")) NoMore) (identifier 40 (codes "b"))) (Not 42 (Member membership.Is 44 (Named (identifier 43 (codes "x")) NoMore) (identifier 45 (codes "a"))))) (Member membership.In 48 (Named (identifier 47 (codes "x")) NoMore) (identifier 49 (codes "a")))) (Not 51 (Parentheses 52 (Member membership.In 54 (Constant NoObject 53) (identifier 55 (codes "a")))))) (Call (Named (identifier 58 (codes "outint")) (Then (Dot 63 (Qua 61 (Named (identifier 60 (codes "x")) NoMore) (identifier 62 (codes "b"))) (identifier 64 (codes "v")) NoMore) (Then (Constant (IntegerValue (pos 1)) 66) NoMore)))) NoStatement) (Also (Choose 69 (Binary op.And 77 (Binary op.And 73 (Binary (op.Relate relation.OtherReference) 71 (Named (identifier 70 (codes "x")) NoMore) (Named (identifier 72 (codes "y")) NoMore)) (Binary (op.Relate relation.SameReference) 75 (Named (identifier 74 (codes "y")) NoMore) (Constant NoObject 76))) (Binary (op.Relate relation.SameReference) 88 (Parentheses 78 (If 79 (Binary (op.Relate relation.SameReference) 81 (Named (identifier 80 (codes "x")) NoMore) (Named (identifier 82 (codes "y")) NoMore)) (Named (identifier 84 (codes "y")) NoMore) (Named (identifier 86 (codes "x")) NoMore))) (Named (identifier 89 (codes "x")) NoMore))) (Call (Named (identifier 91 (codes "outtext")) (Then (Constant (TextValue (codes "!")) 93) NoMore))) NoStatement) (Also (Call (Named (identifier 96 (codes "outint")) (Then (Dot 101 (Qua 99 (Named (identifier 98 (codes "y")) NoMore) (identifier 100 (codes "b"))) (identifier 102 (codes "v")) NoMore) (Then (Constant (IntegerValue (pos 1)) 104) NoMore)))) NoStatement)))) 106)

-- begin
-- class a(n); integer n; begin integer array t(1:n); integer k; t(n) := n; inner; outint(k, 2); outint(t(n), 2) end;
-- a class b(m); integer m; begin integer array u(n:m); k := m; u(m) := n; outint(u(m), 2) end;
-- new b(2, 5); outimage
-- end
abbrev pub parameters_of_levels : Source
parameters_of_levels = source_with_classes ((1, 1) ∷ (2, 49) ∷ (3, 42) ∷ (4, 9) ∷ (5, 2) ∷ []) (at 17 Alone (codes "n") ∷ at 23 Alone (codes "t") ∷ at 25 Alone (codes "n") ∷ at 28 Alone (codes "n") ∷ at 32 Alone (codes "outint") ∷ at 34 Alone (codes "k") ∷ at 39 Alone (codes "outint") ∷ at 41 Alone (codes "t") ∷ at 43 Alone (codes "n") ∷ at 65 Alone (codes "n") ∷ at 67 Alone (codes "m") ∷ at 70 Alone (codes "k") ∷ at 72 Alone (codes "m") ∷ at 74 Alone (codes "u") ∷ at 76 Alone (codes "m") ∷ at 79 Alone (codes "n") ∷ at 81 Alone (codes "outint") ∷ at 83 Alone (codes "u") ∷ at 85 Alone (codes "m") ∷ at 93 Alone (codes "b") ∷ at 100 Alone (codes "outimage") ∷ []) ([]) ([]) (Begin 0 (With (DeclareClass None 1 (record { name = (identifier 2 (codes "a")); formals = (identifier 4 (codes "n") ∷ []); modes = []; specifications = (record { kind = Simple (type_name.Integer (token 7)); names = (identifier 8 (codes "n") ∷ []) } ∷ []) }) (record { protections = []; virtuals = [] }) (Compound (Begin 10 (With (Arrays (type_name.Integer (token 11)) 12 (record { names = (identifier 13 (codes "t") ∷ []); bounds = (record { lower = (Constant (IntegerValue (pos 1)) 15); upper = (Named (identifier 17 (codes "n")) NoMore) } ∷ []) } ∷ [])) (With (Variables (type_name.Integer (token 20)) (record { name = (identifier 21 (codes "k")); value = None } ∷ [])) NoDeclaration)) (Also (Assign (Named (identifier 23 (codes "t")) (Then (Named (identifier 25 (codes "n")) NoMore) NoMore)) (record { sign = assignment.Value; token = 27; value = (Named (identifier 28 (codes "n")) NoMore) } ∷ [])) (Also (Inner 30) (Also (Call (Named (identifier 32 (codes "outint")) (Then (Named (identifier 34 (codes "k")) NoMore) (Then (Constant (IntegerValue (pos 2)) 36) NoMore)))) (Also (Call (Named (identifier 39 (codes "outint")) (Then (Named (identifier 41 (codes "t")) (Then (Named (identifier 43 (codes "n")) NoMore) NoMore)) (Then (Constant (IntegerValue (pos 2)) 46) NoMore)))) NoStatement)))) 48)) 49) (With (DeclareClass (Some (identifier 50 (codes "a"))) 51 (record { name = (identifier 52 (codes "b")); formals = (identifier 54 (codes "m") ∷ []); modes = []; specifications = (record { kind = Simple (type_name.Integer (token 57)); names = (identifier 58 (codes "m") ∷ []) } ∷ []) }) (record { protections = []; virtuals = [] }) (Compound (Begin 60 (With (Arrays (type_name.Integer (token 61)) 62 (record { names = (identifier 63 (codes "u") ∷ []); bounds = (record { lower = (Named (identifier 65 (codes "n")) NoMore); upper = (Named (identifier 67 (codes "m")) NoMore) } ∷ []) } ∷ [])) NoDeclaration) (Also (Assign (Named (identifier 70 (codes "k")) NoMore) (record { sign = assignment.Value; token = 71; value = (Named (identifier 72 (codes "m")) NoMore) } ∷ [])) (Also (Assign (Named (identifier 74 (codes "u")) (Then (Named (identifier 76 (codes "m")) NoMore) NoMore)) (record { sign = assignment.Value; token = 78; value = (Named (identifier 79 (codes "n")) NoMore) } ∷ [])) (Also (Call (Named (identifier 81 (codes "outint")) (Then (Named (identifier 83 (codes "u")) (Then (Named (identifier 85 (codes "m")) NoMore) NoMore)) (Then (Constant (IntegerValue (pos 2)) 88) NoMore)))) NoStatement))) 90)) 91) NoDeclaration)) (Also (Call (New 92 (identifier 93 (codes "b")) (Then (Constant (IntegerValue (pos 2)) 95) (Then (Constant (IntegerValue (pos 5)) 97) NoMore)))) (Also (Call (Named (identifier 100 (codes "outimage")) NoMore)) NoStatement)) 101)

-- begin
-- class lib(n); integer n; begin integer s; procedure add(k); integer k; s := s + k; s := n; inner; outint(s, 3) end;
-- integer i;
-- lib(4) begin integer j; i := 2; add(i); add(10); j := s; outint(j, 3) end;
-- lib(1) begin end;
-- outimage
-- end
abbrev pub prefixed_blocks : Source
prefixed_blocks = source_with_classes ((1, 1) ∷ (2, 42) ∷ (3, 3) ∷ (4, 34) ∷ (5, 7) ∷ (6, 1) ∷ (7, 2) ∷ []) (at 23 Alone (codes "s") ∷ at 25 Alone (codes "s") ∷ at 27 Alone (codes "k") ∷ at 29 Alone (codes "s") ∷ at 31 Alone (codes "n") ∷ at 35 Alone (codes "outint") ∷ at 37 Alone (codes "s") ∷ at 54 Alone (codes "i") ∷ at 58 Alone (codes "add") ∷ at 60 Alone (codes "i") ∷ at 63 Alone (codes "add") ∷ at 68 Alone (codes "j") ∷ at 70 Alone (codes "s") ∷ at 72 Alone (codes "outint") ∷ at 74 Alone (codes "j") ∷ at 87 Alone (codes "outimage") ∷ []) ([]) ([]) (Begin 0 (With (DeclareClass None 1 (record { name = (identifier 2 (codes "lib")); formals = (identifier 4 (codes "n") ∷ []); modes = []; specifications = (record { kind = Simple (type_name.Integer (token 7)); names = (identifier 8 (codes "n") ∷ []) } ∷ []) }) (record { protections = []; virtuals = [] }) (Compound (Begin 10 (With (Variables (type_name.Integer (token 11)) (record { name = (identifier 12 (codes "s")); value = None } ∷ [])) (With (DeclareProcedure None 14 (record { name = (identifier 15 (codes "add")); formals = (identifier 17 (codes "k") ∷ []); modes = []; specifications = (record { kind = Simple (type_name.Integer (token 20)); names = (identifier 21 (codes "k") ∷ []) } ∷ []) }) (Assign (Named (identifier 23 (codes "s")) NoMore) (record { sign = assignment.Value; token = 24; value = (Binary (op.Add sign.Plus) 26 (Named (identifier 25 (codes "s")) NoMore) (Named (identifier 27 (codes "k")) NoMore)) } ∷ [])) 28) NoDeclaration)) (Also (Assign (Named (identifier 29 (codes "s")) NoMore) (record { sign = assignment.Value; token = 30; value = (Named (identifier 31 (codes "n")) NoMore) } ∷ [])) (Also (Inner 33) (Also (Call (Named (identifier 35 (codes "outint")) (Then (Named (identifier 37 (codes "s")) NoMore) (Then (Constant (IntegerValue (pos 3)) 39) NoMore)))) NoStatement))) 41)) 42) (With (Variables (type_name.Integer (token 43)) (record { name = (identifier 44 (codes "i")); value = None } ∷ [])) NoDeclaration)) (Also (Prefixed (identifier 46 (codes "lib")) (Then (Constant (IntegerValue (pos 4)) 48) NoMore) (Begin 50 (With (Variables (type_name.Integer (token 51)) (record { name = (identifier 52 (codes "j")); value = None } ∷ [])) NoDeclaration) (Also (Assign (Named (identifier 54 (codes "i")) NoMore) (record { sign = assignment.Value; token = 55; value = (Constant (IntegerValue (pos 2)) 56) } ∷ [])) (Also (Call (Named (identifier 58 (codes "add")) (Then (Named (identifier 60 (codes "i")) NoMore) NoMore))) (Also (Call (Named (identifier 63 (codes "add")) (Then (Constant (IntegerValue (pos 10)) 65) NoMore))) (Also (Assign (Named (identifier 68 (codes "j")) NoMore) (record { sign = assignment.Value; token = 69; value = (Named (identifier 70 (codes "s")) NoMore) } ∷ [])) (Also (Call (Named (identifier 72 (codes "outint")) (Then (Named (identifier 74 (codes "j")) NoMore) (Then (Constant (IntegerValue (pos 3)) 76) NoMore)))) NoStatement))))) 78)) (Also (Prefixed (identifier 80 (codes "lib")) (Then (Constant (IntegerValue (pos 1)) 82) NoMore) (Begin 84 NoDeclaration NoStatement 85)) (Also (Call (Named (identifier 87 (codes "outimage")) NoMore)) NoStatement))) 88)

-- begin
-- class a(n); integer n; begin integer i; ref(a) next; end;
-- ref(a) x;
-- x :- new a(3);
-- inspect x do begin for i := 1 step 1 until n do outint(i, 2); next :- this a; outint(next.n, 2) end otherwise outtext("no");
-- inspect x.next when a do n := i otherwise outtext("no");
-- inspect none do outint(1, 1) otherwise outint(x.n, 2);
-- outimage
-- end
abbrev pub connected_attributes : Source
connected_attributes = source_with_classes ((1, 1) ∷ (2, 21) ∷ (3, 6) ∷ (4, 8) ∷ (5, 40) ∷ (6, 16) ∷ (7, 19) ∷ (8, 1) ∷ (9, 2) ∷ []) (at 28 Alone (codes "x") ∷ at 31 Alone (codes "a") ∷ at 37 Alone (codes "x") ∷ at 41 Alone (codes "i") ∷ at 47 Alone (codes "n") ∷ at 49 Alone (codes "outint") ∷ at 51 Alone (codes "i") ∷ at 56 Alone (codes "next") ∷ at 58 OfThis (codes "a") ∷ at 59 Alone (codes "a") ∷ at 61 Alone (codes "outint") ∷ at 63 Alone (codes "next") ∷ at 65 (Behind (codes "a")) (codes "n") ∷ at 71 Alone (codes "outtext") ∷ at 77 Alone (codes "x") ∷ at 79 (Behind (codes "a")) (codes "next") ∷ at 81 Alone (codes "a") ∷ at 83 Alone (codes "n") ∷ at 85 Alone (codes "i") ∷ at 87 Alone (codes "outtext") ∷ at 95 Alone (codes "outint") ∷ at 102 Alone (codes "outint") ∷ at 104 Alone (codes "x") ∷ at 106 (Behind (codes "a")) (codes "n") ∷ at 111 Alone (codes "outimage") ∷ []) (typed 28 (Reference (codes "a")) ∷ typed 37 (Reference (codes "a")) ∷ typed 56 (Reference (codes "a")) ∷ typed 63 (Reference (codes "a")) ∷ typed 73 AText ∷ typed 77 (Reference (codes "a")) ∷ typed 78 (Reference (codes "a")) ∷ typed 89 AText ∷ typed 104 (Reference (codes "a")) ∷ []) (codes "a" ∷ codes "a" ∷ codes "nothing" ∷ []) (Begin 0 (With (DeclareClass None 1 (record { name = (identifier 2 (codes "a")); formals = (identifier 4 (codes "n") ∷ []); modes = []; specifications = (record { kind = Simple (type_name.Integer (token 7)); names = (identifier 8 (codes "n") ∷ []) } ∷ []) }) (record { protections = []; virtuals = [] }) (Compound (Begin 10 (With (Variables (type_name.Integer (token 11)) (record { name = (identifier 12 (codes "i")); value = None } ∷ [])) (With (Variables (type_name.Reference (token 14) (identifier 16 (codes "a"))) (record { name = (identifier 18 (codes "next")); value = None } ∷ [])) NoDeclaration)) NoStatement 20)) 21) (With (Variables (type_name.Reference (token 22) (identifier 24 (codes "a"))) (record { name = (identifier 26 (codes "x")); value = None } ∷ [])) NoDeclaration)) (Also (Assign (Named (identifier 28 (codes "x")) NoMore) (record { sign = assignment.Reference; token = 29; value = (New 30 (identifier 31 (codes "a")) (Then (Constant (IntegerValue (pos 3)) 33) NoMore)) } ∷ [])) (Also (Inspect 36 (Named (identifier 37 (codes "x")) NoMore) 38 (Compound (Begin 39 NoDeclaration (Also (For 40 (identifier 41 (codes "i")) assignment.Value 42 (Step (Constant (IntegerValue (pos 1)) 43) 44 (Constant (IntegerValue (pos 1)) 45) (Named (identifier 47 (codes "n")) NoMore) ∷ []) (Call (Named (identifier 49 (codes "outint")) (Then (Named (identifier 51 (codes "i")) NoMore) (Then (Constant (IntegerValue (pos 2)) 53) NoMore))))) (Also (Assign (Named (identifier 56 (codes "next")) NoMore) (record { sign = assignment.Reference; token = 57; value = (This 58 (identifier 59 (codes "a"))) } ∷ [])) (Also (Call (Named (identifier 61 (codes "outint")) (Then (Dot 64 (Named (identifier 63 (codes "next")) NoMore) (identifier 65 (codes "n")) NoMore) (Then (Constant (IntegerValue (pos 2)) 67) NoMore)))) NoStatement))) 69)) 70 (Also (Call (Named (identifier 71 (codes "outtext")) (Then (Constant (TextValue (codes "no")) 73) NoMore))) NoStatement)) (Also (InspectWhen 76 (Dot 78 (Named (identifier 77 (codes "x")) NoMore) (identifier 79 (codes "next")) NoMore) (When 80 (identifier 81 (codes "a")) 82 (Assign (Named (identifier 83 (codes "n")) NoMore) (record { sign = assignment.Value; token = 84; value = (Named (identifier 85 (codes "i")) NoMore) } ∷ [])) 86 NoArm) (Also (Call (Named (identifier 87 (codes "outtext")) (Then (Constant (TextValue (codes "no")) 89) NoMore))) NoStatement)) (Also (Inspect 92 (Constant NoObject 93) 94 (Call (Named (identifier 95 (codes "outint")) (Then (Constant (IntegerValue (pos 1)) 97) (Then (Constant (IntegerValue (pos 1)) 99) NoMore)))) 101 (Also (Call (Named (identifier 102 (codes "outint")) (Then (Dot 105 (Named (identifier 104 (codes "x")) NoMore) (identifier 106 (codes "n")) NoMore) (Then (Constant (IntegerValue (pos 2)) 108) NoMore)))) NoStatement)) (Also (Call (Named (identifier 111 (codes "outimage")) NoMore)) NoStatement))))) 112)

-- begin
-- class node(v, next); integer v; ref(node) next; begin end;
-- integer procedure sum(x); ref(node) x; if x =/= none then sum := x.v + sum(x.next);
-- ref(node) list;
-- list :- new node(1, new node(2, new node(3, none)));
-- outint(sum(list), 3); list.next.next.v := 40; outint(sum(list), 3); outimage
-- end
abbrev pub chained_objects : Source
chained_objects = source_with_classes ((1, 1) ∷ (2, 20) ∷ (3, 31) ∷ (4, 6) ∷ (5, 22) ∷ (6, 31) ∷ (7, 2) ∷ []) (at 35 Alone (codes "x") ∷ at 39 Alone (codes "sum") ∷ at 41 Alone (codes "x") ∷ at 43 (Behind (codes "node")) (codes "v") ∷ at 45 Alone (codes "sum") ∷ at 47 Alone (codes "x") ∷ at 49 (Behind (codes "node")) (codes "next") ∷ at 58 Alone (codes "list") ∷ at 61 Alone (codes "node") ∷ at 66 Alone (codes "node") ∷ at 71 Alone (codes "node") ∷ at 80 Alone (codes "outint") ∷ at 82 Alone (codes "sum") ∷ at 84 Alone (codes "list") ∷ at 90 Alone (codes "list") ∷ at 92 (Behind (codes "node")) (codes "next") ∷ at 94 (Behind (codes "node")) (codes "next") ∷ at 96 (Behind (codes "node")) (codes "v") ∷ at 100 Alone (codes "outint") ∷ at 102 Alone (codes "sum") ∷ at 104 Alone (codes "list") ∷ at 110 Alone (codes "outimage") ∷ []) (typed 58 (Reference (codes "node")) ∷ typed 84 (Reference (codes "node")) ∷ typed 90 (Reference (codes "node")) ∷ typed 104 (Reference (codes "node")) ∷ []) ([]) (Begin 0 (With (DeclareClass None 1 (record { name = (identifier 2 (codes "node")); formals = (identifier 4 (codes "v") ∷ identifier 6 (codes "next") ∷ []); modes = []; specifications = (record { kind = Simple (type_name.Integer (token 9)); names = (identifier 10 (codes "v") ∷ []) } ∷ record { kind = Simple (type_name.Reference (token 12) (identifier 14 (codes "node"))); names = (identifier 16 (codes "next") ∷ []) } ∷ []) }) (record { protections = []; virtuals = [] }) (Compound (Begin 18 NoDeclaration NoStatement 19)) 20) (With (DeclareProcedure (Some (type_name.Integer (token 21))) 22 (record { name = (identifier 23 (codes "sum")); formals = (identifier 25 (codes "x") ∷ []); modes = []; specifications = (record { kind = Simple (type_name.Reference (token 28) (identifier 30 (codes "node"))); names = (identifier 32 (codes "x") ∷ []) } ∷ []) }) (Choose 34 (Binary (op.Relate relation.OtherReference) 36 (Named (identifier 35 (codes "x")) NoMore) (Constant NoObject 37)) (Assign (Named (identifier 39 (codes "sum")) NoMore) (record { sign = assignment.Value; token = 40; value = (Binary (op.Add sign.Plus) 44 (Dot 42 (Named (identifier 41 (codes "x")) NoMore) (identifier 43 (codes "v")) NoMore) (Named (identifier 45 (codes "sum")) (Then (Dot 48 (Named (identifier 47 (codes "x")) NoMore) (identifier 49 (codes "next")) NoMore) NoMore))) } ∷ [])) NoStatement) 51) (With (Variables (type_name.Reference (token 52) (identifier 54 (codes "node"))) (record { name = (identifier 56 (codes "list")); value = None } ∷ [])) NoDeclaration))) (Also (Assign (Named (identifier 58 (codes "list")) NoMore) (record { sign = assignment.Reference; token = 59; value = (New 60 (identifier 61 (codes "node")) (Then (Constant (IntegerValue (pos 1)) 63) (Then (New 65 (identifier 66 (codes "node")) (Then (Constant (IntegerValue (pos 2)) 68) (Then (New 70 (identifier 71 (codes "node")) (Then (Constant (IntegerValue (pos 3)) 73) (Then (Constant NoObject 75) NoMore))) NoMore))) NoMore))) } ∷ [])) (Also (Call (Named (identifier 80 (codes "outint")) (Then (Named (identifier 82 (codes "sum")) (Then (Named (identifier 84 (codes "list")) NoMore) NoMore)) (Then (Constant (IntegerValue (pos 3)) 87) NoMore)))) (Also (Assign (Dot 95 (Dot 93 (Dot 91 (Named (identifier 90 (codes "list")) NoMore) (identifier 92 (codes "next")) NoMore) (identifier 94 (codes "next")) NoMore) (identifier 96 (codes "v")) NoMore) (record { sign = assignment.Value; token = 97; value = (Constant (IntegerValue (pos 40)) 98) } ∷ [])) (Also (Call (Named (identifier 100 (codes "outint")) (Then (Named (identifier 102 (codes "sum")) (Then (Named (identifier 104 (codes "list")) NoMore) NoMore)) (Then (Constant (IntegerValue (pos 3)) 107) NoMore)))) (Also (Call (Named (identifier 110 (codes "outimage")) NoMore)) NoStatement))))) 111)

-- begin class a(n); integer n; begin end; a class b; begin end;
-- ref(b) procedure make(k); integer k; make :- new b(k);
-- class keeper(t); ref(a) array t; begin ref(a) procedure element(i); integer i; element :- t(i) end;
-- ref(keeper) procedure build;
-- begin ref(a) array s(1:2); s(1) :- make(7); s(2) :- new a(8); build :- new keeper(s) end;
-- ref(keeper) h; ref(b) z;
-- h :- build;
-- outint(h.element(1).n, 2); outint(h.t(2).n, 2);
-- z :- h.element(1); z :- h.element(2)
-- end
abbrev pub references_passed_on : Source
references_passed_on = source_with_classes ((1, 20) ∷ (2, 21) ∷ (3, 35) ∷ (4, 7) ∷ (5, 43) ∷ (6, 12) ∷ (7, 4) ∷ (8, 28) ∷ (9, 17) ∷ (10, 2) ∷ []) (at 33 Alone (codes "make") ∷ at 36 Alone (codes "b") ∷ at 38 Alone (codes "k") ∷ at 68 Alone (codes "element") ∷ at 70 Alone (codes "t") ∷ at 72 Alone (codes "i") ∷ at 96 Alone (codes "s") ∷ at 101 Alone (codes "make") ∷ at 106 Alone (codes "s") ∷ at 112 Alone (codes "a") ∷ at 117 Alone (codes "build") ∷ at 120 Alone (codes "keeper") ∷ at 122 Alone (codes "s") ∷ at 138 Alone (codes "h") ∷ at 140 Alone (codes "build") ∷ at 142 Alone (codes "outint") ∷ at 144 Alone (codes "h") ∷ at 146 (Behind (codes "keeper")) (codes "element") ∷ at 151 (Behind (codes "a")) (codes "n") ∷ at 156 Alone (codes "outint") ∷ at 158 Alone (codes "h") ∷ at 160 (Behind (codes "keeper")) (codes "t") ∷ at 165 (Behind (codes "a")) (codes "n") ∷ at 170 Alone (codes "z") ∷ at 172 Alone (codes "h") ∷ at 174 (Behind (codes "keeper")) (codes "element") ∷ at 179 Alone (codes "z") ∷ at 181 Alone (codes "h") ∷ at 183 (Behind (codes "keeper")) (codes "element") ∷ []) (typed 33 (Reference (codes "b")) ∷ typed 68 (Reference (codes "a")) ∷ typed 96 (Reference (codes "a")) ∷ typed 101 (Reference (codes "b")) ∷ typed 106 (Reference (codes "a")) ∷ typed 117 (Reference (codes "keeper")) ∷ typed 122 (Reference (codes "a")) ∷ typed 138 (Reference (codes "keeper")) ∷ typed 140 (Reference (codes "keeper")) ∷ typed 144 (Reference (codes "keeper")) ∷ typed 145 (Reference (codes "a")) ∷ typed 158 (Reference (codes "keeper")) ∷ typed 170 (Reference (codes "b")) ∷ typed 172 (Reference (codes "keeper")) ∷ typed 173 (Reference (codes "a")) ∷ typed 179 (Reference (codes "b")) ∷ typed 181 (Reference (codes "keeper")) ∷ typed 182 (Reference (codes "a")) ∷ []) ([]) (Begin 0 (With (DeclareClass None 1 (record { name = (identifier 2 (codes "a")); formals = (identifier 4 (codes "n") ∷ []); modes = []; specifications = (record { kind = Simple (type_name.Integer (token 7)); names = (identifier 8 (codes "n") ∷ []) } ∷ []) }) (record { protections = []; virtuals = [] }) (Compound (Begin 10 NoDeclaration NoStatement 11)) 12) (With (DeclareClass (Some (identifier 13 (codes "a"))) 14 (record { name = (identifier 15 (codes "b")); formals = []; modes = []; specifications = [] }) (record { protections = []; virtuals = [] }) (Compound (Begin 17 NoDeclaration NoStatement 18)) 19) (With (DeclareProcedure (Some (type_name.Reference (token 20) (identifier 22 (codes "b")))) 24 (record { name = (identifier 25 (codes "make")); formals = (identifier 27 (codes "k") ∷ []); modes = []; specifications = (record { kind = Simple (type_name.Integer (token 30)); names = (identifier 31 (codes "k") ∷ []) } ∷ []) }) (Assign (Named (identifier 33 (codes "make")) NoMore) (record { sign = assignment.Reference; token = 34; value = (New 35 (identifier 36 (codes "b")) (Then (Named (identifier 38 (codes "k")) NoMore) NoMore)) } ∷ [])) 40) (With (DeclareClass None 41 (record { name = (identifier 42 (codes "keeper")); formals = (identifier 44 (codes "t") ∷ []); modes = []; specifications = (record { kind = Array (type_name.Reference (token 47) (identifier 49 (codes "a"))) 51; names = (identifier 52 (codes "t") ∷ []) } ∷ []) }) (record { protections = []; virtuals = [] }) (Compound (Begin 54 (With (DeclareProcedure (Some (type_name.Reference (token 55) (identifier 57 (codes "a")))) 59 (record { name = (identifier 60 (codes "element")); formals = (identifier 62 (codes "i") ∷ []); modes = []; specifications = (record { kind = Simple (type_name.Integer (token 65)); names = (identifier 66 (codes "i") ∷ []) } ∷ []) }) (Assign (Named (identifier 68 (codes "element")) NoMore) (record { sign = assignment.Reference; token = 69; value = (Named (identifier 70 (codes "t")) (Then (Named (identifier 72 (codes "i")) NoMore) NoMore)) } ∷ [])) 74) NoDeclaration) NoStatement 74)) 75) (With (DeclareProcedure (Some (type_name.Reference (token 76) (identifier 78 (codes "keeper")))) 80 (record { name = (identifier 81 (codes "build")); formals = []; modes = []; specifications = [] }) (Compound (Begin 83 (With (Arrays (type_name.Reference (token 84) (identifier 86 (codes "a"))) 88 (record { names = (identifier 89 (codes "s") ∷ []); bounds = (record { lower = (Constant (IntegerValue (pos 1)) 91); upper = (Constant (IntegerValue (pos 2)) 93) } ∷ []) } ∷ [])) NoDeclaration) (Also (Assign (Named (identifier 96 (codes "s")) (Then (Constant (IntegerValue (pos 1)) 98) NoMore)) (record { sign = assignment.Reference; token = 100; value = (Named (identifier 101 (codes "make")) (Then (Constant (IntegerValue (pos 7)) 103) NoMore)) } ∷ [])) (Also (Assign (Named (identifier 106 (codes "s")) (Then (Constant (IntegerValue (pos 2)) 108) NoMore)) (record { sign = assignment.Reference; token = 110; value = (New 111 (identifier 112 (codes "a")) (Then (Constant (IntegerValue (pos 8)) 114) NoMore)) } ∷ [])) (Also (Assign (Named (identifier 117 (codes "build")) NoMore) (record { sign = assignment.Reference; token = 118; value = (New 119 (identifier 120 (codes "keeper")) (Then (Named (identifier 122 (codes "s")) NoMore) NoMore)) } ∷ [])) NoStatement))) 124)) 125) (With (Variables (type_name.Reference (token 126) (identifier 128 (codes "keeper"))) (record { name = (identifier 130 (codes "h")); value = None } ∷ [])) (With (Variables (type_name.Reference (token 132) (identifier 134 (codes "b"))) (record { name = (identifier 136 (codes "z")); value = None } ∷ [])) NoDeclaration))))))) (Also (Assign (Named (identifier 138 (codes "h")) NoMore) (record { sign = assignment.Reference; token = 139; value = (Named (identifier 140 (codes "build")) NoMore) } ∷ [])) (Also (Call (Named (identifier 142 (codes "outint")) (Then (Dot 150 (Dot 145 (Named (identifier 144 (codes "h")) NoMore) (identifier 146 (codes "element")) (Then (Constant (IntegerValue (pos 1)) 148) NoMore)) (identifier 151 (codes "n")) NoMore) (Then (Constant (IntegerValue (pos 2)) 153) NoMore)))) (Also (Call (Named (identifier 156 (codes "outint")) (Then (Dot 164 (Dot 159 (Named (identifier 158 (codes "h")) NoMore) (identifier 160 (codes "t")) (Then (Constant (IntegerValue (pos 2)) 162) NoMore)) (identifier 165 (codes "n")) NoMore) (Then (Constant (IntegerValue (pos 2)) 167) NoMore)))) (Also (Assign (Named (identifier 170 (codes "z")) NoMore) (record { sign = assignment.Reference; token = 171; value = (Dot 173 (Named (identifier 172 (codes "h")) NoMore) (identifier 174 (codes "element")) (Then (Constant (IntegerValue (pos 1)) 176) NoMore)) } ∷ [])) (Also (Assign (Named (identifier 179 (codes "z")) NoMore) (record { sign = assignment.Reference; token = 180; value = (Dot 182 (Named (identifier 181 (codes "h")) NoMore) (identifier 183 (codes "element")) (Then (Constant (IntegerValue (pos 2)) 185) NoMore)) } ∷ [])) NoStatement))))) 187)

-- begin
-- class a(t); value t; text t; begin integer k = 7; integer array v(1:2); ref(a) other end;
-- ref(a) x, y; text w;
-- w :- blanks(3); x :- new a(w); y :- new a(notext);
-- x.t := "abc"; x.t.setpos(2); outchar(x.t.getchar); outint(x.k, 2);
-- x.v(2) := 5; outint(x.v(2), 2); x.other :- y;
-- for y :- x, x.other do inspect y do outint(if t == notext then 0 else t.pos, 2);
-- outtext(w); outchar('|'); outimage
-- end
abbrev pub attributes_of_each_kind : Source
attributes_of_each_kind = source_with_classes ((1, 1) ∷ (2, 34) ∷ (3, 11) ∷ (4, 23) ∷ (5, 33) ∷ (6, 27) ∷ (7, 28) ∷ (8, 11) ∷ (9, 2) ∷ []) (at 46 Alone (codes "w") ∷ at 48 Alone (codes "blanks") ∷ at 53 Alone (codes "x") ∷ at 56 Alone (codes "a") ∷ at 58 Alone (codes "w") ∷ at 61 Alone (codes "y") ∷ at 64 Alone (codes "a") ∷ at 69 Alone (codes "x") ∷ at 71 (Behind (codes "a")) (codes "t") ∷ at 75 Alone (codes "x") ∷ at 77 (Behind (codes "a")) (codes "t") ∷ at 79 OfText (codes "setpos") ∷ at 84 Alone (codes "outchar") ∷ at 86 Alone (codes "x") ∷ at 88 (Behind (codes "a")) (codes "t") ∷ at 90 OfText (codes "getchar") ∷ at 93 Alone (codes "outint") ∷ at 95 Alone (codes "x") ∷ at 97 (Behind (codes "a")) (codes "k") ∷ at 102 Alone (codes "x") ∷ at 104 (Behind (codes "a")) (codes "v") ∷ at 111 Alone (codes "outint") ∷ at 113 Alone (codes "x") ∷ at 115 (Behind (codes "a")) (codes "v") ∷ at 123 Alone (codes "x") ∷ at 125 (Behind (codes "a")) (codes "other") ∷ at 127 Alone (codes "y") ∷ at 130 Alone (codes "y") ∷ at 132 Alone (codes "x") ∷ at 134 Alone (codes "x") ∷ at 136 (Behind (codes "a")) (codes "other") ∷ at 139 Alone (codes "y") ∷ at 141 Alone (codes "outint") ∷ at 144 Alone (codes "t") ∷ at 150 Alone (codes "t") ∷ at 152 OfText (codes "pos") ∷ at 157 Alone (codes "outtext") ∷ at 159 Alone (codes "w") ∷ at 162 Alone (codes "outchar") ∷ at 167 Alone (codes "outimage") ∷ []) (typed 46 AText ∷ typed 53 (Reference (codes "a")) ∷ typed 58 AText ∷ typed 61 (Reference (codes "a")) ∷ typed 66 AText ∷ typed 69 (Reference (codes "a")) ∷ typed 70 AText ∷ typed 73 AText ∷ typed 75 (Reference (codes "a")) ∷ typed 76 AText ∷ typed 86 (Reference (codes "a")) ∷ typed 87 AText ∷ typed 95 (Reference (codes "a")) ∷ typed 102 (Reference (codes "a")) ∷ typed 113 (Reference (codes "a")) ∷ typed 123 (Reference (codes "a")) ∷ typed 124 (Reference (codes "a")) ∷ typed 127 (Reference (codes "a")) ∷ typed 130 (Reference (codes "a")) ∷ typed 132 (Reference (codes "a")) ∷ typed 134 (Reference (codes "a")) ∷ typed 135 (Reference (codes "a")) ∷ typed 139 (Reference (codes "a")) ∷ typed 144 AText ∷ typed 146 AText ∷ typed 150 AText ∷ typed 159 AText ∷ []) (codes "a" ∷ []) (Begin 0 (With (DeclareClass None 1 (record { name = (identifier 2 (codes "a")); formals = (identifier 4 (codes "t") ∷ []); modes = (record { token = 7; mode = mode.Value; names = (identifier 8 (codes "t") ∷ []) } ∷ []); specifications = (record { kind = Simple (type_name.Text (token 10)); names = (identifier 11 (codes "t") ∷ []) } ∷ []) }) (record { protections = []; virtuals = [] }) (Compound (Begin 13 (With (Variables (type_name.Integer (token 14)) (record { name = (identifier 15 (codes "k")); value = (Some (constant.Integer None (token 17) (pos 7))) } ∷ [])) (With (Arrays (type_name.Integer (token 19)) 20 (record { names = (identifier 21 (codes "v") ∷ []); bounds = (record { lower = (Constant (IntegerValue (pos 1)) 23); upper = (Constant (IntegerValue (pos 2)) 25) } ∷ []) } ∷ [])) (With (Variables (type_name.Reference (token 28) (identifier 30 (codes "a"))) (record { name = (identifier 32 (codes "other")); value = None } ∷ [])) NoDeclaration))) NoStatement 33)) 34) (With (Variables (type_name.Reference (token 35) (identifier 37 (codes "a"))) (record { name = (identifier 39 (codes "x")); value = None } ∷ record { name = (identifier 41 (codes "y")); value = None } ∷ [])) (With (Variables (type_name.Text (token 43)) (record { name = (identifier 44 (codes "w")); value = None } ∷ [])) NoDeclaration))) (Also (Assign (Named (identifier 46 (codes "w")) NoMore) (record { sign = assignment.Reference; token = 47; value = (Named (identifier 48 (codes "blanks")) (Then (Constant (IntegerValue (pos 3)) 50) NoMore)) } ∷ [])) (Also (Assign (Named (identifier 53 (codes "x")) NoMore) (record { sign = assignment.Reference; token = 54; value = (New 55 (identifier 56 (codes "a")) (Then (Named (identifier 58 (codes "w")) NoMore) NoMore)) } ∷ [])) (Also (Assign (Named (identifier 61 (codes "y")) NoMore) (record { sign = assignment.Reference; token = 62; value = (New 63 (identifier 64 (codes "a")) (Then (Constant NoText 66) NoMore)) } ∷ [])) (Also (Assign (Dot 70 (Named (identifier 69 (codes "x")) NoMore) (identifier 71 (codes "t")) NoMore) (record { sign = assignment.Value; token = 72; value = (Constant (TextValue (codes "abc")) 73) } ∷ [])) (Also (Call (Dot 78 (Dot 76 (Named (identifier 75 (codes "x")) NoMore) (identifier 77 (codes "t")) NoMore) (identifier 79 (codes "setpos")) (Then (Constant (IntegerValue (pos 2)) 81) NoMore))) (Also (Call (Named (identifier 84 (codes "outchar")) (Then (Dot 89 (Dot 87 (Named (identifier 86 (codes "x")) NoMore) (identifier 88 (codes "t")) NoMore) (identifier 90 (codes "getchar")) NoMore) NoMore))) (Also (Call (Named (identifier 93 (codes "outint")) (Then (Dot 96 (Named (identifier 95 (codes "x")) NoMore) (identifier 97 (codes "k")) NoMore) (Then (Constant (IntegerValue (pos 2)) 99) NoMore)))) (Also (Assign (Dot 103 (Named (identifier 102 (codes "x")) NoMore) (identifier 104 (codes "v")) (Then (Constant (IntegerValue (pos 2)) 106) NoMore)) (record { sign = assignment.Value; token = 108; value = (Constant (IntegerValue (pos 5)) 109) } ∷ [])) (Also (Call (Named (identifier 111 (codes "outint")) (Then (Dot 114 (Named (identifier 113 (codes "x")) NoMore) (identifier 115 (codes "v")) (Then (Constant (IntegerValue (pos 2)) 117) NoMore)) (Then (Constant (IntegerValue (pos 2)) 120) NoMore)))) (Also (Assign (Dot 124 (Named (identifier 123 (codes "x")) NoMore) (identifier 125 (codes "other")) NoMore) (record { sign = assignment.Reference; token = 126; value = (Named (identifier 127 (codes "y")) NoMore) } ∷ [])) (Also (For 129 (identifier 130 (codes "y")) assignment.Reference 131 (Once (Named (identifier 132 (codes "x")) NoMore) ∷ Once (Dot 135 (Named (identifier 134 (codes "x")) NoMore) (identifier 136 (codes "other")) NoMore) ∷ []) (Inspect 138 (Named (identifier 139 (codes "y")) NoMore) 140 (Call (Named (identifier 141 (codes "outint")) (Then (If 143 (Binary (op.Relate relation.SameReference) 145 (Named (identifier 144 (codes "t")) NoMore) (Constant NoText 146)) (Constant (IntegerValue (pos 0)) 148) (Dot 151 (Named (identifier 150 (codes "t")) NoMore) (identifier 152 (codes "pos")) NoMore)) (Then (Constant (IntegerValue (pos 2)) 154) NoMore)))) 156 NoStatement)) (Also (Call (Named (identifier 157 (codes "outtext")) (Then (Named (identifier 159 (codes "w")) NoMore) NoMore))) (Also (Call (Named (identifier 162 (codes "outchar")) (Then (Constant (CharacterValue 124) 164) NoMore))) (Also (Call (Named (identifier 167 (codes "outimage")) NoMore)) NoStatement)))))))))))))) 168)

-- begin
-- class outer(n); integer n;
-- begin
--   class cell(v); integer v; begin ref(cell) me; me :- this cell; v := v * n end;
--   ref(cell) c; c :- new cell(3); outint(c.me.v, 3); inner
-- end;
-- outer class more; begin n := 10; c :- new cell(4); outint(c.v, 3); c :- c.me end;
-- ref(outer) x;
-- x :- new more(2); if x in more then outint(1, 3); outimage
-- end
abbrev pub class_in_class : Source
class_in_class = source_with_classes ((1, 1) ∷ (2, 9) ∷ (3, 1) ∷ (4, 28) ∷ (5, 26) ∷ (6, 2) ∷ (7, 33) ∷ (8, 6) ∷ (9, 21) ∷ (10, 2) ∷ []) (at 27 Alone (codes "me") ∷ at 29 OfThis (codes "cell") ∷ at 30 Alone (codes "cell") ∷ at 32 Alone (codes "v") ∷ at 34 Alone (codes "v") ∷ at 36 Alone (codes "n") ∷ at 45 Alone (codes "c") ∷ at 48 Alone (codes "cell") ∷ at 53 Alone (codes "outint") ∷ at 55 Alone (codes "c") ∷ at 57 (Behind (codes "cell")) (codes "me") ∷ at 59 (Behind (codes "cell")) (codes "v") ∷ at 72 Alone (codes "n") ∷ at 76 Alone (codes "c") ∷ at 79 Alone (codes "cell") ∷ at 84 Alone (codes "outint") ∷ at 86 Alone (codes "c") ∷ at 88 (Behind (codes "cell")) (codes "v") ∷ at 93 Alone (codes "c") ∷ at 95 Alone (codes "c") ∷ at 97 (Behind (codes "cell")) (codes "me") ∷ at 106 Alone (codes "x") ∷ at 109 Alone (codes "more") ∷ at 115 Alone (codes "x") ∷ at 117 Alone (codes "more") ∷ at 119 Alone (codes "outint") ∷ at 126 Alone (codes "outimage") ∷ []) (typed 27 (Reference (codes "cell")) ∷ typed 45 (Reference (codes "cell")) ∷ typed 55 (Reference (codes "cell")) ∷ typed 56 (Reference (codes "cell")) ∷ typed 76 (Reference (codes "cell")) ∷ typed 86 (Reference (codes "cell")) ∷ typed 93 (Reference (codes "cell")) ∷ typed 95 (Reference (codes "cell")) ∷ typed 96 (Reference (codes "cell")) ∷ typed 106 (Reference (codes "outer")) ∷ typed 115 (Reference (codes "outer")) ∷ []) ([]) (Begin 0 (With (DeclareClass None 1 (record { name = (identifier 2 (codes "outer")); formals = (identifier 4 (codes "n") ∷ []); modes = []; specifications = (record { kind = Simple (type_name.Integer (token 7)); names = (identifier 8 (codes "n") ∷ []) } ∷ []) }) (record { protections = []; virtuals = [] }) (Compound (Begin 10 (With (DeclareClass None 11 (record { name = (identifier 12 (codes "cell")); formals = (identifier 14 (codes "v") ∷ []); modes = []; specifications = (record { kind = Simple (type_name.Integer (token 17)); names = (identifier 18 (codes "v") ∷ []) } ∷ []) }) (record { protections = []; virtuals = [] }) (Compound (Begin 20 (With (Variables (type_name.Reference (token 21) (identifier 23 (codes "cell"))) (record { name = (identifier 25 (codes "me")); value = None } ∷ [])) NoDeclaration) (Also (Assign (Named (identifier 27 (codes "me")) NoMore) (record { sign = assignment.Reference; token = 28; value = (This 29 (identifier 30 (codes "cell"))) } ∷ [])) (Also (Assign (Named (identifier 32 (codes "v")) NoMore) (record { sign = assignment.Value; token = 33; value = (Binary (op.Multiply multiplication.Times) 35 (Named (identifier 34 (codes "v")) NoMore) (Named (identifier 36 (codes "n")) NoMore)) } ∷ [])) NoStatement)) 37)) 38) (With (Variables (type_name.Reference (token 39) (identifier 41 (codes "cell"))) (record { name = (identifier 43 (codes "c")); value = None } ∷ [])) NoDeclaration)) (Also (Assign (Named (identifier 45 (codes "c")) NoMore) (record { sign = assignment.Reference; token = 46; value = (New 47 (identifier 48 (codes "cell")) (Then (Constant (IntegerValue (pos 3)) 50) NoMore)) } ∷ [])) (Also (Call (Named (identifier 53 (codes "outint")) (Then (Dot 58 (Dot 56 (Named (identifier 55 (codes "c")) NoMore) (identifier 57 (codes "me")) NoMore) (identifier 59 (codes "v")) NoMore) (Then (Constant (IntegerValue (pos 3)) 61) NoMore)))) (Also (Inner 64) NoStatement))) 65)) 66) (With (DeclareClass (Some (identifier 67 (codes "outer"))) 68 (record { name = (identifier 69 (codes "more")); formals = []; modes = []; specifications = [] }) (record { protections = []; virtuals = [] }) (Compound (Begin 71 NoDeclaration (Also (Assign (Named (identifier 72 (codes "n")) NoMore) (record { sign = assignment.Value; token = 73; value = (Constant (IntegerValue (pos 10)) 74) } ∷ [])) (Also (Assign (Named (identifier 76 (codes "c")) NoMore) (record { sign = assignment.Reference; token = 77; value = (New 78 (identifier 79 (codes "cell")) (Then (Constant (IntegerValue (pos 4)) 81) NoMore)) } ∷ [])) (Also (Call (Named (identifier 84 (codes "outint")) (Then (Dot 87 (Named (identifier 86 (codes "c")) NoMore) (identifier 88 (codes "v")) NoMore) (Then (Constant (IntegerValue (pos 3)) 90) NoMore)))) (Also (Assign (Named (identifier 93 (codes "c")) NoMore) (record { sign = assignment.Reference; token = 94; value = (Dot 96 (Named (identifier 95 (codes "c")) NoMore) (identifier 97 (codes "me")) NoMore) } ∷ [])) NoStatement)))) 98)) 99) (With (Variables (type_name.Reference (token 100) (identifier 102 (codes "outer"))) (record { name = (identifier 104 (codes "x")); value = None } ∷ [])) NoDeclaration))) (Also (Assign (Named (identifier 106 (codes "x")) NoMore) (record { sign = assignment.Reference; token = 107; value = (New 108 (identifier 109 (codes "more")) (Then (Constant (IntegerValue (pos 2)) 111) NoMore)) } ∷ [])) (Also (Choose 114 (Member membership.In 116 (Named (identifier 115 (codes "x")) NoMore) (identifier 117 (codes "more"))) (Call (Named (identifier 119 (codes "outint")) (Then (Constant (IntegerValue (pos 1)) 121) (Then (Constant (IntegerValue (pos 3)) 123) NoMore)))) NoStatement) (Also (Call (Named (identifier 126 (codes "outimage")) NoMore)) NoStatement))) 127)

-- ---- what they show

-- The output, the ticks and the words at the end, and the ending of each.
pub record WorkedClasses : Type 0 where
  pub inner_by_levels : seen levels_in_turn (limits 1000 1000) 1000 ≡ shows (codes "a1 b1 c b2 a2  2 1\n") 17 12 Normal
  pub storage_exhausted : seen objects_without_end (limits 1000 2000) 6000 ≡ shows (codes "") 997 995 (StorageExhausted 6 995 6)
  pub connected_by_class : seen inspections (limits 1000 1000) 1000 ≡ shows (codes "  1  3none\n") 21 15 Normal
  pub none_before_actuals : seen access_through_none (limits 1000 1000) 1000 ≡ shows (codes "f1\n") 13 17 (RunFault AccessThroughNone 9)
  pub reference_outside : seen outside_qualification (limits 1000 1000) 1000 ≡ shows (codes " 3\n") 13 15 (RunFault OutsideQualification 7)
  pub actual_checked_at_once : seen actual_outside (limits 1000 1000) 1000 ≡ shows (codes "") 5 9 (RunFault OutsideQualification 7)
  pub classes_compared : seen memberships (limits 1000 1000) 1000 ≡ shows (codes "1!\n") 10 11 (RunFault AccessThroughNone 7)
  pub two_levels : seen parameters_of_levels (limits 1000 1000) 1000 ≡ shows (codes " 2 5 2\n") 12 29 Normal
  pub block_with_prefix : seen prefixed_blocks (limits 1000 1000) 1000 ≡ shows (codes " 16 16  1\n") 21 18 Normal
  pub object_connected : seen connected_attributes (limits 1000 1000) 1000 ≡ shows (codes " 1 2 3 3 4\n") 21 12 Normal
  pub three_objects : seen chained_objects (limits 1000 1000) 1000 ≡ shows (codes "  6 43\n") 34 23 Normal
  pub references_and_arrays : seen references_passed_on (limits 1000 1000) 1000 ≡ shows (codes " 7 8\n") 26 28 (RunFault OutsideQualification 9)
  pub attributes : seen attributes_of_each_kind (limits 1000 1000) 1000 ≡ shows (codes "b 7 5 3 0   |\n") 25 43 Normal
  pub classes_inside : seen class_in_class (limits 1000 1000) 1000 ≡ shows (codes "  6 40  1\n") 22 23 Normal
