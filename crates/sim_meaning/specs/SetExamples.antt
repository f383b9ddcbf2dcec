-- Small programs with sets, as what scopes make of their abstract syntax.
use Rattle.std.specs.Prelude.{◌≡◌, pos, ℕ, List, [], ◌∷◌, if◌then◌else◌, Option, Some, None, codes}
use Rattle.sim_base.specs.declared.run_error.RunError.TheVariants.{AccessThroughNone}
use Rattle.sim_scope.specs.declared.types.StandardPrefix.{StandardPrefix}
use Rattle.sim_scope.specs.Access.{is_connection}
use Rattle.sim_scope.specs.Declare.{declared_by}
use Rattle.sim_scope.specs.Source.{Source}
use Rattle.sim_scope.specs.Standard.{standard_prefix}
use Rattle.sim_scope.specs.Tables.{BlockOf, Tables}
use Rattle.sim_tree.specs.declared.expr.Identifier.{Identifier}
use Rattle.sim_tree.specs.declared.expr.Relation.TheVariants as relation
use Rattle.sim_tree.specs.declared.operator.Operator.TheVariants as op
use Rattle.sim_tree.specs.declared.stmt.Assignment.TheVariants as assignment
use Rattle.sim_tree.specs.declared.stmt.TypeName.TheVariants as type_name
use Rattle.sim_tree.specs.Syntax.{Also, Assign, Begin, Binary, Block, Call, Choose, Compound, Constant, DeclareClass, DeclareProcedure, Dot, Inspect, InspectWhen, IntegerValue, Named, New, NoArm, NoDeclaration, NoMore, NoObject, NoStatement, Prefix, Prefixed, Program, Qua, Repeat, Simple, TextValue, Then, Variables, When, With}
use Rattle.sim_code.specs.Outcome.{Normal, RunFault}
use Rattle.sim_meaning.specs.Examples.{identifier, limits, lines_of, seen, shows, token}
use Rattle.sim_meaning.specs.ClassExamples.{AText, Alone, Behind, Reference, Typed, Use, all_qualified, at, block_of_class, class_named, first_name, found_of, other_names, typed, types_of, uses_of}

-- ---- what the layers between scopes and the meaning find

-- A block with a prefix has the class of that as its base, or its standard prefix; one without keeps what it has, as the classes do that `simset`
-- brings.
abbrev pub base_found : Tables → (own : Option ℕ) → Option Identifier → Option ℕ
base_found tables own None = own
base_found tables own (Some class) = block_of_class tables (class_named tables class.name)

abbrev pub standard_found : Option Identifier → Option StandardPrefix
standard_found None = None
standard_found (Some class) = standard_prefix class.name

abbrev pub blocks_bound : Tables → (connected : List (List ℕ)) → List BlockOf → List BlockOf
blocks_bound tables cs [] = []
blocks_bound tables cs (b ∷ bs) =
    if is_connection b.kind
    then record b { base = block_of_class tables (class_named tables (first_name cs)) } ∷ blocks_bound tables (other_names cs) bs
    else record b { base = base_found tables b.base b.prefix; standard = standard_found b.prefix } ∷ blocks_bound tables cs bs

abbrev pub tables_bound : (connected : List (List ℕ)) → Tables → Tables
tables_bound cs tables = all_qualified tables.qualifications (record tables { blocks = blocks_bound tables cs tables.blocks })

abbrev pub source_with_sets : List (ℕ × ℕ) → List Use → List Typed → (connected : List (List ℕ)) → Option Prefix → Block → Source
source_with_sets lines uses types connected prefix block =
    let program : Program = record { prefix = prefix; block = block } in
    let tables : Tables = tables_bound connected (declared_by program).tables in
    record { program = program; tables = tables; uses = uses_of 0 tables uses; found_in = found_of 0 tables uses; types = types_of 0 tables types; lines = lines_of lines }

-- ---- programs

-- simset begin
-- link class item(n); integer n; begin end;
-- ref(head) q; ref(item) x; ref(link) y;
-- q :- new head;
-- x :- new item(1); x.into(q); x :- new item(2); x.into(q);
-- outint(q.cardinal, 2);
-- y :- q.first;
-- while y =/= none do begin outint(y qua item.n, 2); y :- y.suc end;
-- x.precede(q.first);
-- inspect q.first when item do outint(n, 2);
-- q.clear; if q.empty then outtext("!");
-- y.into(q)
-- end
abbrev pub set_of_items : Source
set_of_items = source_with_sets ((1, 2) ∷ (2, 13) ∷ (3, 18) ∷ (4, 5) ∷ (5, 30) ∷ (6, 9) ∷ (7, 6) ∷ (8, 24) ∷ (9, 9) ∷ (10, 14) ∷ (11, 14) ∷ (12, 6) ∷ (13, 1) ∷ []) (at 33 Alone (codes "q") ∷ at 36 Alone (codes "head") ∷ at 38 Alone (codes "x") ∷ at 41 Alone (codes "item") ∷ at 46 Alone (codes "x") ∷ at 48 (Behind (codes "item")) (codes "into") ∷ at 50 Alone (codes "q") ∷ at 53 Alone (codes "x") ∷ at 56 Alone (codes "item") ∷ at 61 Alone (codes "x") ∷ at 63 (Behind (codes "item")) (codes "into") ∷ at 65 Alone (codes "q") ∷ at 68 Alone (codes "outint") ∷ at 70 Alone (codes "q") ∷ at 72 (Behind (codes "head")) (codes "cardinal") ∷ at 77 Alone (codes "y") ∷ at 79 Alone (codes "q") ∷ at 81 (Behind (codes "head")) (codes "first") ∷ at 84 Alone (codes "y") ∷ at 89 Alone (codes "outint") ∷ at 91 Alone (codes "y") ∷ at 93 Alone (codes "item") ∷ at 95 (Behind (codes "item")) (codes "n") ∷ at 100 Alone (codes "y") ∷ at 102 Alone (codes "y") ∷ at 104 (Behind (codes "link")) (codes "suc") ∷ at 107 Alone (codes "x") ∷ at 109 (Behind (codes "item")) (codes "precede") ∷ at 111 Alone (codes "q") ∷ at 113 (Behind (codes "head")) (codes "first") ∷ at 117 Alone (codes "q") ∷ at 119 (Behind (codes "head")) (codes "first") ∷ at 121 Alone (codes "item") ∷ at 123 Alone (codes "outint") ∷ at 125 Alone (codes "n") ∷ at 130 Alone (codes "q") ∷ at 132 (Behind (codes "head")) (codes "clear") ∷ at 135 Alone (codes "q") ∷ at 137 (Behind (codes "head")) (codes "empty") ∷ at 139 Alone (codes "outtext") ∷ at 144 Alone (codes "y") ∷ at 146 (Behind (codes "link")) (codes "into") ∷ at 148 Alone (codes "q") ∷ []) (typed 33 (Reference (codes "head")) ∷ typed 38 (Reference (codes "item")) ∷ typed 53 (Reference (codes "item")) ∷ typed 77 (Reference (codes "link")) ∷ typed 100 (Reference (codes "link")) ∷ typed 141 AText ∷ []) (codes "item" ∷ []) (Some (record { class = (identifier 0 (codes "simset")); arguments = NoMore })) (Begin 1 (With (DeclareClass (Some (identifier 2 (codes "link"))) 3 (record { name = (identifier 4 (codes "item")); formals = ((identifier 6 (codes "n")) ∷ []); modes = []; specifications = (record { kind = Simple (type_name.Integer (token 9)); names = ((identifier 10 (codes "n")) ∷ []) } ∷ []) }) (record { protections = []; virtuals = [] }) (Compound (Begin 12 NoDeclaration NoStatement 13)) 14) (With (Variables (type_name.Reference (token 15) (identifier 17 (codes "head"))) (record { name = (identifier 19 (codes "q")); value = None } ∷ [])) (With (Variables (type_name.Reference (token 21) (identifier 23 (codes "item"))) (record { name = (identifier 25 (codes "x")); value = None } ∷ [])) (With (Variables (type_name.Reference (token 27) (identifier 29 (codes "link"))) (record { name = (identifier 31 (codes "y")); value = None } ∷ [])) NoDeclaration)))) (Also (Assign (Named (identifier 33 (codes "q")) NoMore) (record { sign = assignment.Reference; token = 34; value = (New 35 (identifier 36 (codes "head")) NoMore) } ∷ [])) (Also (Assign (Named (identifier 38 (codes "x")) NoMore) (record { sign = assignment.Reference; token = 39; value = (New 40 (identifier 41 (codes "item")) (Then (Constant (IntegerValue (pos 1)) 43) NoMore)) } ∷ [])) (Also (Call (Dot 47 (Named (identifier 46 (codes "x")) NoMore) (identifier 48 (codes "into")) (Then (Named (identifier 50 (codes "q")) NoMore) NoMore))) (Also (Assign (Named (identifier 53 (codes "x")) NoMore) (record { sign = assignment.Reference; token = 54; value = (New 55 (identifier 56 (codes "item")) (Then (Constant (IntegerValue (pos 2)) 58) NoMore)) } ∷ [])) (Also (Call (Dot 62 (Named (identifier 61 (codes "x")) NoMore) (identifier 63 (codes "into")) (Then (Named (identifier 65 (codes "q")) NoMore) NoMore))) (Also (Call (Named (identifier 68 (codes "outint")) (Then (Dot 71 (Named (identifier 70 (codes "q")) NoMore) (identifier 72 (codes "cardinal")) NoMore) (Then (Constant (IntegerValue (pos 2)) 74) NoMore)))) (Also (Assign (Named (identifier 77 (codes "y")) NoMore) (record { sign = assignment.Reference; token = 78; value = (Dot 80 (Named (identifier 79 (codes "q")) NoMore) (identifier 81 (codes "first")) NoMore) } ∷ [])) (Also (Repeat 83 (Binary (op.Relate relation.OtherReference) 85 (Named (identifier 84 (codes "y")) NoMore) (Constant NoObject 86)) (Compound (Begin 88 NoDeclaration (Also (Call (Named (identifier 89 (codes "outint")) (Then (Dot 94 (Qua 92 (Named (identifier 91 (codes "y")) NoMore) (identifier 93 (codes "item"))) (identifier 95 (codes "n")) NoMore) (Then (Constant (IntegerValue (pos 2)) 97) NoMore)))) (Also (Assign (Named (identifier 100 (codes "y")) NoMore) (record { sign = assignment.Reference; token = 101; value = (Dot 103 (Named (identifier 102 (codes "y")) NoMore) (identifier 104 (codes "suc")) NoMore) } ∷ [])) NoStatement)) 105))) (Also (Call (Dot 108 (Named (identifier 107 (codes "x")) NoMore) (identifier 109 (codes "precede")) (Then (Dot 112 (Named (identifier 111 (codes "q")) NoMore) (identifier 113 (codes "first")) NoMore) NoMore))) (Also (InspectWhen 116 (Dot 118 (Named (identifier 117 (codes "q")) NoMore) (identifier 119 (codes "first")) NoMore) (When 120 (identifier 121 (codes "item")) 122 (Call (Named (identifier 123 (codes "outint")) (Then (Named (identifier 125 (codes "n")) NoMore) (Then (Constant (IntegerValue (pos 2)) 127) NoMore)))) 129 NoArm) NoStatement) (Also (Call (Dot 131 (Named (identifier 130 (codes "q")) NoMore) (identifier 132 (codes "clear")) NoMore)) (Also (Choose 134 (Dot 136 (Named (identifier 135 (codes "q")) NoMore) (identifier 137 (codes "empty")) NoMore) (Call (Named (identifier 139 (codes "outtext")) (Then (Constant (TextValue (codes "!")) 141) NoMore))) NoStatement) (Also (Call (Dot 145 (Named (identifier 144 (codes "y")) NoMore) (identifier 146 (codes "into")) (Then (Named (identifier 148 (codes "q")) NoMore) NoMore))) NoStatement))))))))))))) 150)

-- begin
-- simset begin
-- link class item(q, n); ref(head) q; integer n;
-- begin
-- procedure leave; begin out; outint(n, 2) end;
-- into(q); if suc == none then outint(q.cardinal, 2)
-- end;
-- head class row; begin integer procedure count; count := cardinal end;
-- ref(row) r;
-- r :- new row; new item(r, 7); new item(r, 8);
-- outint(r.count, 2);
-- r.first qua item.leave;
-- inspect r do if empty then outtext("!") else outint(cardinal, 2)
-- end
-- end
abbrev pub own_attributes : Source
own_attributes = source_with_sets ((1, 1) ∷ (2, 2) ∷ (3, 18) ∷ (4, 1) ∷ (5, 14) ∷ (6, 18) ∷ (7, 2) ∷ (8, 14) ∷ (9, 6) ∷ (10, 21) ∷ (11, 9) ∷ (12, 8) ∷ (13, 17) ∷ (14, 1) ∷ (15, 1) ∷ []) (at 26 Alone (codes "out") ∷ at 28 Alone (codes "outint") ∷ at 30 Alone (codes "n") ∷ at 36 Alone (codes "into") ∷ at 38 Alone (codes "q") ∷ at 42 Alone (codes "suc") ∷ at 46 Alone (codes "outint") ∷ at 48 Alone (codes "q") ∷ at 50 (Behind (codes "head")) (codes "cardinal") ∷ at 65 Alone (codes "count") ∷ at 67 Alone (codes "cardinal") ∷ at 76 Alone (codes "r") ∷ at 79 Alone (codes "row") ∷ at 82 Alone (codes "item") ∷ at 84 Alone (codes "r") ∷ at 90 Alone (codes "item") ∷ at 92 Alone (codes "r") ∷ at 97 Alone (codes "outint") ∷ at 99 Alone (codes "r") ∷ at 101 (Behind (codes "row")) (codes "count") ∷ at 106 Alone (codes "r") ∷ at 108 (Behind (codes "row")) (codes "first") ∷ at 110 Alone (codes "item") ∷ at 112 (Behind (codes "item")) (codes "leave") ∷ at 115 Alone (codes "r") ∷ at 118 Alone (codes "empty") ∷ at 120 Alone (codes "outtext") ∷ at 125 Alone (codes "outint") ∷ at 127 Alone (codes "cardinal") ∷ []) (typed 76 (Reference (codes "row")) ∷ typed 122 AText ∷ []) (codes "row" ∷ []) None (Begin 0 NoDeclaration (Also (Prefixed (identifier 1 (codes "simset")) NoMore (Begin 2 (With (DeclareClass (Some (identifier 3 (codes "link"))) 4 (record { name = (identifier 5 (codes "item")); formals = ((identifier 7 (codes "q")) ∷ (identifier 9 (codes "n")) ∷ []); modes = []; specifications = (record { kind = Simple (type_name.Reference (token 12) (identifier 14 (codes "head"))); names = ((identifier 16 (codes "q")) ∷ []) } ∷ record { kind = Simple (type_name.Integer (token 18)); names = ((identifier 19 (codes "n")) ∷ []) } ∷ []) }) (record { protections = []; virtuals = [] }) (Compound (Begin 21 (With (DeclareProcedure None 22 (record { name = (identifier 23 (codes "leave")); formals = []; modes = []; specifications = [] }) (Compound (Begin 25 NoDeclaration (Also (Call (Named (identifier 26 (codes "out")) NoMore)) (Also (Call (Named (identifier 28 (codes "outint")) (Then (Named (identifier 30 (codes "n")) NoMore) (Then (Constant (IntegerValue (pos 2)) 32) NoMore)))) NoStatement)) 34)) 35) NoDeclaration) (Also (Call (Named (identifier 36 (codes "into")) (Then (Named (identifier 38 (codes "q")) NoMore) NoMore))) (Also (Choose 41 (Binary (op.Relate relation.SameReference) 43 (Named (identifier 42 (codes "suc")) NoMore) (Constant NoObject 44)) (Call (Named (identifier 46 (codes "outint")) (Then (Dot 49 (Named (identifier 48 (codes "q")) NoMore) (identifier 50 (codes "cardinal")) NoMore) (Then (Constant (IntegerValue (pos 2)) 52) NoMore)))) NoStatement) NoStatement)) 54)) 55) (With (DeclareClass (Some (identifier 56 (codes "head"))) 57 (record { name = (identifier 58 (codes "row")); formals = []; modes = []; specifications = [] }) (record { protections = []; virtuals = [] }) (Compound (Begin 60 (With (DeclareProcedure (Some (type_name.Integer (token 61))) 62 (record { name = (identifier 63 (codes "count")); formals = []; modes = []; specifications = [] }) (Assign (Named (identifier 65 (codes "count")) NoMore) (record { sign = assignment.Value; token = 66; value = (Named (identifier 67 (codes "cardinal")) NoMore) } ∷ [])) 68) NoDeclaration) NoStatement 68)) 69) (With (Variables (type_name.Reference (token 70) (identifier 72 (codes "row"))) (record { name = (identifier 74 (codes "r")); value = None } ∷ [])) NoDeclaration))) (Also (Assign (Named (identifier 76 (codes "r")) NoMore) (record { sign = assignment.Reference; token = 77; value = (New 78 (identifier 79 (codes "row")) NoMore) } ∷ [])) (Also (Call (New 81 (identifier 82 (codes "item")) (Then (Named (identifier 84 (codes "r")) NoMore) (Then (Constant (IntegerValue (pos 7)) 86) NoMore)))) (Also (Call (New 89 (identifier 90 (codes "item")) (Then (Named (identifier 92 (codes "r")) NoMore) (Then (Constant (IntegerValue (pos 8)) 94) NoMore)))) (Also (Call (Named (identifier 97 (codes "outint")) (Then (Dot 100 (Named (identifier 99 (codes "r")) NoMore) (identifier 101 (codes "count")) NoMore) (Then (Constant (IntegerValue (pos 2)) 103) NoMore)))) (Also (Call (Dot 111 (Qua 109 (Dot 107 (Named (identifier 106 (codes "r")) NoMore) (identifier 108 (codes "first")) NoMore) (identifier 110 (codes "item"))) (identifier 112 (codes "leave")) NoMore)) (Also (Inspect 114 (Named (identifier 115 (codes "r")) NoMore) 116 (Choose 117 (Named (identifier 118 (codes "empty")) NoMore) (Call (Named (identifier 120 (codes "outtext")) (Then (Constant (TextValue (codes "!")) 122) NoMore))) (Also (Call (Named (identifier 125 (codes "outint")) (Then (Named (identifier 127 (codes "cardinal")) NoMore) (Then (Constant (IntegerValue (pos 2)) 129) NoMore)))) NoStatement)) 131 NoStatement) NoStatement)))))) 131)) NoStatement) 132)

-- ---- what they show

-- The output, the ticks and the words at the end, and the ending of each.
pub record WorkedSets : Type 0 where
  pub in_a_set : seen set_of_items (limits 1000 1000) 1000 ≡ shows (codes " 2 1 2 2!\n") 31 21 (RunFault AccessThroughNone 12)
  pub without_dot : seen own_attributes (limits 1000 1000) 1000 ≡ shows (codes " 1 2 2 7 1\n") 29 25 Normal
