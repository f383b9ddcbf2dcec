-- Codes of worked programs that stand for them.
use Rattle.std.specs.Prelude.{codes, false, pos, [], ◌∷◌, None, Some}
use Rattle.sim_scope.specs.Source.{Source}
use Rattle.sim_tree.specs.declared.stmt.Assignment.TheVariants as assignment
use Rattle.sim_tree.specs.declared.stmt.TypeName.TheVariants as type_name
use Rattle.sim_tree.specs.Syntax.{Also, Assign, Begin, Call, Compound, Constant, DeclareClass, Dot, IntegerValue, Named, New, NoDeclaration, NoMore, NoStatement, Prefixed, Simple, Then, Variables, With}
use Rattle.sim_code.specs.declared.code.BlockKind.TheVariants as block_kind
use Rattle.sim_code.specs.declared.code.CodeFormal.{CodeFormal}
use Rattle.sim_code.specs.declared.code.CodeMode.TheVariants as mode
use Rattle.sim_code.specs.declared.code.CodeType.TheVariants as type
use Rattle.sim_code.specs.declared.code.FormalShape.TheVariants as shape
use Rattle.sim_code.specs.declared.instr.Instr.TheVariants as i
use Rattle.sim_code.specs.Code.{ClassOf, CodeOf}
use Rattle.sim_meaning.specs.ClassExamples.{Alone, Behind, Reference, at as at_token, objects_without_end, source_with_classes, typed}
use Rattle.sim_meaning.specs.Examples.{factorial_20, for_list, identifier, sub_block, token}
use Rattle.sim_meaning.specs.NameExamples.{handed_on}
use Rattle.sim_meaning.specs.SetExamples.{source_with_sets}
use Rattle.sim_meaning.specs.TextExamples.{parts}
use Rattle.codegen.specs.Compiled.{Compiled}
use Rattle.codegen.specs.Examples.{at, block, code, factorial_20_code, for_list_code}

-- the code of the program, with that of the sub-block behind it
abbrev pub sub_block_apart : CodeOf
sub_block_apart = code (block block_kind.SubBlock 1 2 4 0 type.Nothing (type.Integer ∷ type.Integer ∷ type.Nothing ∷ type.Nothing ∷ type.Nothing ∷ type.Nothing ∷ []) [] ∷ block block_kind.SubBlock 2 2 0 35 type.Nothing (type.Nothing ∷ type.Nothing ∷ []) [] ∷ []) (at 1 (i.Jump (pos 1)) ∷ at 0 i.Tick ∷ at 0 (i.Int (pos 2)) ∷ at 0 (i.Store (pos 1) (pos 5)) ∷ at 0 (i.Load (pos 1) (pos 5)) ∷ at 0 (i.Store (pos 1) (pos 1)) ∷ at 0 (i.Load (pos 1) (pos 5)) ∷ at 0 (i.Store (pos 1) (pos 0)) ∷ at 0 i.Tick ∷ at 3 (i.Enter (pos 1)) ∷ at 0 i.Tick ∷ at 0 (i.Load (pos 1) (pos 0)) ∷ at 0 (i.Int (pos 2)) ∷ at 4 (i.Rel (pos 2)) ∷ at 0 (i.JumpF (pos 21)) ∷ at 0 (i.Load (pos 1) (pos 1)) ∷ at 0 (i.Load (pos 1) (pos 0)) ∷ at 4 i.Div ∷ at 0 (i.Int (pos 1)) ∷ at 4 (i.Rel (pos 2)) ∷ at 0 (i.Jump (pos 22)) ∷ at 0 (i.Bool (pos 0)) ∷ at 0 (i.JumpF (pos 28)) ∷ at 0 i.Tick ∷ at 0 (i.Load (pos 1) (pos 0)) ∷ at 0 (i.Int (pos 2)) ∷ at 4 (i.Std (pos 40)) ∷ at 0 (i.Jump (pos 32)) ∷ at 0 i.Tick ∷ at 0 (i.Int (pos 0)) ∷ at 0 (i.Int (pos 2)) ∷ at 4 (i.Std (pos 40)) ∷ at 0 i.Tick ∷ at 5 (i.Std (pos 37)) ∷ at 0 (i.EndLevel (pos 0)) ∷ at 0 (i.Load (pos 1) (pos 0)) ∷ at 0 (i.Int (pos 3)) ∷ at 3 (i.Array (pos 1) (pos 1)) ∷ at 0 (i.Store (pos 2) (pos 0)) ∷ at 0 (i.Int (pos 1)) ∷ at 0 (i.Load (pos 1) (pos 1)) ∷ at 3 (i.Array (pos 1) (pos 1)) ∷ at 0 (i.Store (pos 2) (pos 1)) ∷ at 0 i.Tick ∷ at 0 (i.Load (pos 2) (pos 0)) ∷ at 0 (i.Int (pos 3)) ∷ at 3 (i.Elem (pos 1) (pos 0)) ∷ at 0 (i.Load (pos 2) (pos 1)) ∷ at 0 (i.Int (pos 2)) ∷ at 3 (i.Elem (pos 1) (pos 0)) ∷ at 0 i.Fetch ∷ at 0 (i.Int (pos 5)) ∷ at 3 i.Add ∷ at 0 i.Put ∷ at 0 i.Tick ∷ at 0 (i.Load (pos 2) (pos 0)) ∷ at 0 (i.Int (pos 3)) ∷ at 3 (i.Elem (pos 1) (pos 0)) ∷ at 0 i.Fetch ∷ at 0 (i.Int (pos 3)) ∷ at 3 (i.Std (pos 40)) ∷ at 0 i.Leave ∷ [])

-- the code of the program with texts: both constants, and the three temps of `&`
abbrev pub parts_code : CodeOf
parts_code = record (code (block block_kind.SubBlock 1 2 3 0 type.Nothing (type.Text ∷ type.Text ∷ type.Nothing ∷ type.Nothing ∷ type.Nothing ∷ []) [] ∷ []) (at 1 (i.Jump (pos 1)) ∷ at 0 i.Tick ∷ at 0 (i.Int (pos 8)) ∷ at 2 (i.Std (pos 14)) ∷ at 0 (i.Store (pos 1) (pos 0)) ∷ at 0 i.Tick ∷ at 0 (i.Addr (pos 1) (pos 0) (pos 0)) ∷ at 0 (i.Int (pos 42)) ∷ at 2 i.Neg ∷ at 2 (i.Std (pos 30)) ∷ at 0 i.Tick ∷ at 0 (i.Load (pos 1) (pos 0)) ∷ at 0 (i.Int (pos 6)) ∷ at 0 (i.Int (pos 3)) ∷ at 2 (i.Std (pos 27)) ∷ at 0 (i.Store (pos 1) (pos 1)) ∷ at 0 i.Tick ∷ at 0 (i.Load (pos 1) (pos 1)) ∷ at 0 (i.TextK (pos 0)) ∷ at 2 i.AssignT ∷ at 0 i.Tick ∷ at 0 (i.Load (pos 1) (pos 0)) ∷ at 3 (i.Std (pos 39)) ∷ at 0 i.Tick ∷ at 0 (i.Char (pos 124)) ∷ at 3 (i.Std (pos 38)) ∷ at 0 i.Tick ∷ at 0 (i.Load (pos 1) (pos 0)) ∷ at 3 (i.Std (pos 21)) ∷ at 0 (i.Int (pos 2)) ∷ at 3 (i.Std (pos 40)) ∷ at 0 i.Tick ∷ at 0 (i.Char (pos 124)) ∷ at 3 (i.Std (pos 38)) ∷ at 0 i.Tick ∷ at 0 (i.Load (pos 1) (pos 0)) ∷ at 4 (i.Std (pos 28)) ∷ at 4 (i.Std (pos 15)) ∷ at 0 (i.TextK (pos 1)) ∷ at 4 (i.Store (pos 1) (pos 3)) ∷ at 4 (i.Store (pos 1) (pos 2)) ∷ at 4 (i.Load (pos 1) (pos 2)) ∷ at 4 (i.Load (pos 1) (pos 3)) ∷ at 4 i.SameT ∷ at 4 i.Pop ∷ at 4 (i.Load (pos 1) (pos 2)) ∷ at 4 (i.Std (pos 20)) ∷ at 4 (i.Load (pos 1) (pos 3)) ∷ at 4 (i.Std (pos 20)) ∷ at 4 i.Add ∷ at 4 i.Dup ∷ at 4 (i.Int (pos 1)) ∷ at 4 i.Add ∷ at 4 i.Pop ∷ at 4 (i.Std (pos 14)) ∷ at 4 (i.Store (pos 1) (pos 4)) ∷ at 4 (i.Load (pos 1) (pos 4)) ∷ at 4 (i.Load (pos 1) (pos 2)) ∷ at 4 i.AssignT ∷ at 4 (i.Load (pos 1) (pos 4)) ∷ at 4 (i.Load (pos 1) (pos 2)) ∷ at 4 (i.Std (pos 20)) ∷ at 4 (i.Int (pos 1)) ∷ at 4 i.Add ∷ at 4 (i.Load (pos 1) (pos 3)) ∷ at 4 (i.Std (pos 20)) ∷ at 4 (i.Std (pos 27)) ∷ at 4 (i.Load (pos 1) (pos 3)) ∷ at 4 i.AssignT ∷ at 4 (i.Load (pos 1) (pos 4)) ∷ at 4 (i.Std (pos 39)) ∷ at 0 i.Tick ∷ at 4 (i.Std (pos 37)) ∷ at 0 (i.EndLevel (pos 0)) ∷ [])) { texts = codes "x" ∷ codes "AB" ∷ [] }

-- the code of a program that makes objects without end: the class is the second block, with one level
abbrev pub the_class : ClassOf
the_class = record { prefix = 0; block = 1; declarations = 17; statements = 18; after_inner = 19; process = false; matches = [] }

abbrev pub objects_code : CodeOf
objects_code = record (code (record (block block_kind.SubBlock 1 1 0 0 type.Nothing (type.Integer ∷ []) []) { class_free = false } ∷ record (block block_kind.Object 2 2 0 0 type.Nothing (type.Integer ∷ type.Integer ∷ []) []) { class_free = false; class = 1 } ∷ []) (at 1 (i.Jump (pos 1)) ∷ at 0 i.Tick ∷ at 0 i.Tick ∷ at 0 (i.Bool (pos 1)) ∷ at 0 (i.JumpF (pos 16)) ∷ at 0 i.Tick ∷ at 0 i.Tick ∷ at 0 (i.Load (pos 1) (pos 0)) ∷ at 0 (i.Int (pos 1)) ∷ at 5 i.Add ∷ at 0 (i.Store (pos 1) (pos 0)) ∷ at 0 i.Tick ∷ at 0 (i.Link (pos 1)) ∷ at 6 (i.New (pos 1) (pos 0)) ∷ at 0 i.Pop ∷ at 0 (i.Jump (pos 2)) ∷ at 0 (i.EndLevel (pos 0)) ∷ at 0 (i.NextDecl (pos 0)) ∷ at 0 (i.Inner (pos 0)) ∷ at 0 (i.EndLevel (pos 0)) ∷ [])) { classes = the_class ∷ [] }

-- begin class a(n); integer n; begin end; a(2) begin integer x; x := n end end
abbrev pub block_with_prefix : Source
block_with_prefix = source_with_classes ((1, 26) ∷ []) (at_token 21 Alone (codes "x") ∷ at_token 23 Alone (codes "n") ∷ []) ([]) ([]) (Begin 0 (With (DeclareClass None 1 (record { name = (identifier 2 (codes "a")); formals = (identifier 4 (codes "n") ∷ []); modes = []; specifications = (record { kind = Simple (type_name.Integer (token 7)); names = (identifier 8 (codes "n") ∷ []) } ∷ []) }) (record { protections = []; virtuals = [] }) (Compound (Begin 10 NoDeclaration NoStatement 11)) 12) NoDeclaration) (Also (Prefixed (identifier 13 (codes "a")) (Then (Constant (IntegerValue (pos 2)) 15) NoMore) (Begin 17 (With (Variables (type_name.Integer (token 18)) (record { name = (identifier 19 (codes "x")); value = None } ∷ [])) NoDeclaration) (Also (Assign (Named (identifier 21 (codes "x")) NoMore) (record { sign = assignment.Value; token = 22; value = (Named (identifier 23 (codes "n")) NoMore) } ∷ [])) NoStatement) 24)) NoStatement) 25)

-- its code: the class in front, with its parameter, and the prefixed block behind it
abbrev pub the_prefix : ClassOf
the_prefix = record { prefix = 0; block = 1; declarations = 5; statements = 6; after_inner = 7; process = false; matches = [] }

abbrev pub the_prefixed : ClassOf
the_prefixed = record { prefix = 1; block = 2; declarations = 8; statements = 9; after_inner = 13; process = false; matches = [] }

abbrev pub the_parameter : CodeFormal
the_parameter = record { mode = mode.Value; shape = shape.Simple; code_type = type.Integer; class = 0 }

abbrev pub prefixed_code : CodeOf
prefixed_code = record (code (record (block block_kind.SubBlock 1 0 0 0 type.Nothing [] []) { class_free = false } ∷ record (block block_kind.Object 2 1 0 0 type.Nothing (type.Integer ∷ []) (the_parameter ∷ [])) { class_free = false; class = 1 } ∷ record (block block_kind.Prefixed 2 2 0 8 type.Nothing (type.Integer ∷ type.Integer ∷ []) (the_parameter ∷ [])) { class_free = false; class = 2 } ∷ []) (at 1 (i.Jump (pos 1)) ∷ at 0 i.Tick ∷ at 0 (i.Int (pos 2)) ∷ at 1 (i.Pref (pos 2) (pos 1)) ∷ at 0 (i.EndLevel (pos 0)) ∷ at 0 (i.NextDecl (pos 0)) ∷ at 0 (i.Inner (pos 0)) ∷ at 0 (i.EndLevel (pos 0)) ∷ at 0 (i.NextDecl (pos 1)) ∷ at 0 i.Tick ∷ at 0 (i.Load (pos 2) (pos 0)) ∷ at 0 (i.Store (pos 2) (pos 1)) ∷ at 0 (i.Inner (pos 1)) ∷ at 0 (i.EndLevel (pos 1)) ∷ [])) { classes = the_prefix ∷ the_prefixed ∷ [] }

-- simset begin
-- head class row; clear;
-- ref(row) q;
-- q :- new row;
-- outint(q.cardinal, 2)
-- end
abbrev pub own_set : Source
own_set = source_with_sets ((1, 2) ∷ (2, 6) ∷ (3, 6) ∷ (4, 5) ∷ (5, 8) ∷ (6, 1) ∷ []) (at_token 6 Alone (codes "clear") ∷ at_token 14 Alone (codes "q") ∷ at_token 17 Alone (codes "row") ∷ at_token 19 Alone (codes "outint") ∷ at_token 21 Alone (codes "q") ∷ at_token 23 (Behind (codes "row")) (codes "cardinal") ∷ []) (typed 14 (Reference (codes "row")) ∷ []) ([]) (Some (record { class = identifier 0 (codes "simset"); arguments = NoMore })) (Begin 1 (With (DeclareClass (Some (identifier 2 (codes "head"))) 3 (record { name = (identifier 4 (codes "row")); formals = []; modes = []; specifications = [] }) (record { protections = []; virtuals = [] }) (Call (Named (identifier 6 (codes "clear")) NoMore)) 7) (With (Variables (type_name.Reference (token 8) (identifier 10 (codes "row"))) (record { name = (identifier 12 (codes "q")); value = None } ∷ [])) NoDeclaration)) (Also (Assign (Named (identifier 14 (codes "q")) NoMore) (record { sign = assignment.Reference; token = 15; value = (New 16 (identifier 17 (codes "row")) NoMore) } ∷ [])) (Also (Call (Named (identifier 19 (codes "outint")) (Then (Dot 22 (Named (identifier 21 (codes "q")) NoMore) (identifier 23 (codes "cardinal")) NoMore) (Then (Constant (IntegerValue (pos 2)) 25) NoMore)))) NoStatement)) 27)

-- its code: the program's block, the three classes that `simset` brings, each with its mark, and the class of the program
abbrev pub the_program : ClassOf
the_program = record { prefix = 0; block = 0; declarations = 1; statements = 2; after_inner = 14; process = false; matches = [] }

abbrev pub the_linkage : ClassOf
the_linkage = record { prefix = 0; block = 1; declarations = 15; statements = 16; after_inner = 17; process = false; matches = [] }

abbrev pub the_link : ClassOf
the_link = record { prefix = 2; block = 2; declarations = 18; statements = 19; after_inner = 20; process = false; matches = [] }

abbrev pub the_head : ClassOf
the_head = record { prefix = 2; block = 3; declarations = 21; statements = 22; after_inner = 23; process = false; matches = [] }

abbrev pub the_row : ClassOf
the_row = record { prefix = 4; block = 4; declarations = 24; statements = 25; after_inner = 30; process = false; matches = [] }

abbrev pub own_set_code : CodeOf
own_set_code = record (code (record (block block_kind.Prefixed 1 1 0 0 type.Nothing (type.Reference ∷ []) []) { class_free = false; class = 1 } ∷ record (block block_kind.Object 2 0 0 1 type.Nothing [] []) { class_free = false; class = 2 } ∷ record (block block_kind.Object 2 0 0 2 type.Nothing [] []) { class_free = false; class = 3 } ∷ record (block block_kind.Object 2 0 0 3 type.Nothing [] []) { class_free = false; class = 4 } ∷ record (block block_kind.Object 2 0 0 0 type.Nothing [] []) { class_free = false; class = 5 } ∷ []) (at 1 (i.Jump (pos 1)) ∷ at 0 (i.NextDecl (pos 0)) ∷ at 0 i.Tick ∷ at 0 (i.Addr (pos 1) (pos 0) (pos 5)) ∷ at 0 (i.Link (pos 1)) ∷ at 4 (i.New (pos 5) (pos 0)) ∷ at 4 i.Put ∷ at 0 i.Tick ∷ at 0 (i.Load (pos 1) (pos 0)) ∷ at 5 i.NotNone ∷ at 5 (i.Std (pos 59)) ∷ at 0 (i.Int (pos 2)) ∷ at 5 (i.Std (pos 40)) ∷ at 0 (i.Inner (pos 0)) ∷ at 0 (i.EndLevel (pos 0)) ∷ at 0 (i.NextDecl (pos 0)) ∷ at 0 (i.Inner (pos 0)) ∷ at 0 (i.EndLevel (pos 0)) ∷ at 0 (i.NextDecl (pos 1)) ∷ at 0 (i.Inner (pos 1)) ∷ at 0 (i.EndLevel (pos 1)) ∷ at 0 (i.NextDecl (pos 1)) ∷ at 0 (i.Inner (pos 1)) ∷ at 0 (i.EndLevel (pos 1)) ∷ at 0 (i.NextDecl (pos 2)) ∷ at 0 i.Tick ∷ at 0 (i.This (pos 2)) ∷ at 2 i.NotNone ∷ at 2 (i.Std (pos 60)) ∷ at 0 (i.Inner (pos 2)) ∷ at 0 (i.EndLevel (pos 2)) ∷ [])) { classes = the_program ∷ the_linkage ∷ the_link ∷ the_head ∷ the_row ∷ [] }

-- the code of a program that hands a parameter by name on: three actual parameters by name, each with a thunk
abbrev pub the_formal : CodeFormal
the_formal = record { mode = mode.Name; shape = shape.Simple; code_type = type.Integer; class = 0 }

abbrev pub handed_on_code : CodeOf
handed_on_code = record (code (block block_kind.SubBlock 1 1 0 21 type.Nothing (type.Integer ∷ []) [] ∷ block block_kind.Procedure 2 1 0 1 type.Nothing (type.Nothing ∷ []) (the_formal ∷ []) ∷ block block_kind.Procedure 2 1 0 6 type.Nothing (type.Nothing ∷ []) (the_formal ∷ []) ∷ []) (at 0 (i.Jump (pos 21)) ∷ at 0 i.Tick ∷ at 2 (i.NameVal (pos 2) (pos 0) (pos 0)) ∷ at 0 (i.Int (pos 3)) ∷ at 2 (i.Std (pos 40)) ∷ at 0 i.Return ∷ at 0 i.Tick ∷ at 0 i.Tick ∷ at 3 (i.NameAddr (pos 2) (pos 0) (pos 0)) ∷ at 3 (i.NameVal (pos 2) (pos 0) (pos 0)) ∷ at 0 (i.Int (pos 1)) ∷ at 3 i.Add ∷ at 0 i.Put ∷ at 0 i.Tick ∷ at 0 (i.Link (pos 1)) ∷ at 0 (i.Jump (pos 18)) ∷ at 3 (i.NameAddr (pos 2) (pos 0) (pos 1)) ∷ at 0 i.EndThunk ∷ at 0 (i.Thunk (pos 0)) ∷ at 3 (i.Call (pos 1) (pos 1)) ∷ at 0 i.Return ∷ at 1 (i.Jump (pos 22)) ∷ at 0 i.Tick ∷ at 0 (i.Int (pos 4)) ∷ at 0 (i.Store (pos 1) (pos 0)) ∷ at 0 i.Tick ∷ at 0 (i.Link (pos 1)) ∷ at 0 (i.Jump (pos 30)) ∷ at 0 (i.Addr (pos 1) (pos 0) (pos 0)) ∷ at 0 i.EndThunk ∷ at 0 (i.Thunk (pos 1)) ∷ at 6 (i.Call (pos 2) (pos 1)) ∷ at 0 i.Tick ∷ at 0 (i.Link (pos 1)) ∷ at 0 (i.Jump (pos 39)) ∷ at 0 (i.Load (pos 1) (pos 0)) ∷ at 0 (i.Int (pos 1)) ∷ at 7 i.Add ∷ at 0 i.EndThunk ∷ at 0 (i.Thunk (pos 2)) ∷ at 7 (i.Call (pos 2) (pos 1)) ∷ at 0 (i.EndLevel (pos 0)) ∷ [])) { thunks = record { entry = 16; room = 6 } ∷ record { entry = 28; room = 6 } ∷ record { entry = 35; room = 6 } ∷ [] }

-- a `for` list of three kinds of elements with one statement; a procedure that calls itself; a sub-block with arrays, an assignment to
-- several left sides, a choice; attributes of texts, assignments of texts, `&`; objects of a class; a block with a prefix, in a program with `simset` in front;
-- parameters by name
pub record WorkedCodes : Type 0 where
  pub for_list_stands : Compiled for_list for_list_code
  pub factorial_20_stands : Compiled factorial_20 factorial_20_code
  pub sub_block_stands : Compiled sub_block sub_block_apart
  pub parts_stands : Compiled parts parts_code
  pub objects_stand : Compiled objects_without_end objects_code
  pub prefixed_stands : Compiled block_with_prefix prefixed_code
  pub own_set_stands : Compiled own_set own_set_code
  pub handed_on_stands : Compiled handed_on handed_on_code
