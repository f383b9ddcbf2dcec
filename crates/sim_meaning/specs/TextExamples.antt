-- Small programs with texts, input and output, as what scopes make of their abstract syntax. Tokens are numbered as they stand in the source.
use Rattle.std.specs.Prelude.{◌≡◌, ℕ, zero, suc, ◌+◌, pos, List, [], ◌∷◌, ◌++◌, replicate, Option, Some, None, codes}
use Rattle.sim_base.specs.declared.limits.Limits.{Limits}
use Rattle.sim_base.specs.declared.run_error.RunError.TheVariants.{InputAtEnd, IntegerOverflow, TextIsConstant, TextTooLong}
use Rattle.sim_scope.specs.declared.scopes.Denotation.{Denotation}
use Rattle.sim_scope.specs.declared.scopes.Denotation.TheVariants as denotation
use Rattle.sim_scope.specs.declared.standard.StandardName.{StandardName}
use Rattle.sim_scope.specs.declared.types.SimType.{SimType}
use Rattle.sim_scope.specs.declared.types.SimType.TheVariants as t
use Rattle.sim_scope.specs.Declare.{declared_by}
use Rattle.sim_scope.specs.Scopes.{binding}
use Rattle.sim_scope.specs.Source.{Source}
use Rattle.sim_scope.specs.Standard.{sysin_attribute, sysout_attribute, text_attribute}
use Rattle.sim_scope.specs.Tables.{Tables}
use Rattle.sim_tree.specs.declared.expr.Relation.TheVariants as relation
use Rattle.sim_tree.specs.declared.expr.Sign.TheVariants as sign
use Rattle.sim_tree.specs.declared.operator.Operator.TheVariants as op
use Rattle.sim_tree.specs.declared.stmt.Assignment.TheVariants as assignment
use Rattle.sim_tree.specs.declared.stmt.Constant.TheVariants as constant
use Rattle.sim_tree.specs.declared.stmt.Mode.TheVariants as mode
use Rattle.sim_tree.specs.declared.stmt.TypeName.TheVariants as type_name
use Rattle.sim_tree.specs.Syntax.{Also, Arrays, Assign, Begin, Binary, Block, Call, CharacterValue, Choose, Compound, Constant, DeclareProcedure, Dot, For, IntegerValue, Named, NoDeclaration, NoMore, NoObject, NoStatement, NoText, Not, Once, Parentheses, Program, Repeat, Signed, Simple, TextValue, Then, Variables, With}
use Rattle.sim_code.specs.Outcome.{Normal, RunFault, Shown, shown}
use Rattle.sim_meaning.specs.Examples.{identifier, lines_of, shows, token}
use Rattle.sim_meaning.specs.Meaning.{run}

-- where an identifier is used: alone, or behind the dot of a text, of sysin or of sysout
pub data Where : Type 0 where
  Alone : Where
  OfText : Where
  OfSysin : Where
  OfSysout : Where

pub record Use : Type 0 where
  pub token : ℕ
  pub where_it_is : Where
  pub name : List ℕ

abbrev pub at : ℕ → Where → List ℕ → Use
at token where_it_is name = record { token = token; where_it_is = where_it_is; name = name }

abbrev pub attribute : Option StandardName → Option Denotation
attribute None = None
attribute (Some name) = Some (denotation.Standard name)

abbrev pub denotes : Tables → Use → Where → Option Denotation
denotes tables x Alone = binding tables x.token x.name
denotes tables x OfText = attribute (text_attribute x.name)
denotes tables x OfSysin = attribute (sysin_attribute x.name)
denotes tables x OfSysout = attribute (sysout_attribute x.name)

-- how many tokens there are from n on before another one
abbrev pub gap : ℕ → ℕ → ℕ
gap zero n = zero
gap (suc m) zero = suc m
gap (suc m) (suc n) = gap m n

-- what the identifiers in use denote; their tokens ascend, and those from n on are left
abbrev pub uses_of : ℕ → Tables → List Use → List (Option Denotation)
uses_of n tables [] = []
uses_of n tables (x ∷ xs) = replicate (gap x.token n) None ++ denotes tables x x.where_it_is ∷ uses_of (x.token + 1) tables xs

-- the tokens that name texts
abbrev pub types_of : ℕ → List ℕ → List (Option SimType)
types_of n [] = []
types_of n (x ∷ xs) = replicate (gap x n) None ++ Some t.Text ∷ types_of (x + 1) xs

abbrev pub source_with_texts : List (ℕ × ℕ) → List Use → (texts : List ℕ) → Block → Source
source_with_texts lines uses texts block =
    let program : Program = record { prefix = None; block = block } in
    let tables : Tables = (declared_by program).tables in
    record { program = program; tables = tables; uses = uses_of 0 tables uses; found_in = []; types = types_of 0 texts; lines = lines_of lines }

-- begin integer i; i := 1;
-- if i = 1 then begin outtext("yes") end of the first part
-- else outtext("no");
-- outimage
-- end
abbrev pub branch : Source
branch = source_with_texts ((1, 8) ∷ (2, 11) ∷ (3, 6) ∷ (4, 1) ∷ (5, 2) ∷ []) (at 4 Alone (codes "i") ∷ at 9 Alone (codes "i") ∷ at 14 Alone (codes "outtext") ∷ at 20 Alone (codes "outtext") ∷ at 25 Alone (codes "outimage") ∷ []) (16 ∷ 22 ∷ []) (Begin 0 (With (Variables (type_name.Integer (token 1)) (record { name = (identifier 2 (codes "i")); value = None } ∷ [])) NoDeclaration) (Also (Assign (Named (identifier 4 (codes "i")) NoMore) (record { sign = assignment.Value; token = 5; value = (Constant (IntegerValue (pos 1)) 6) } ∷ [])) (Also (Choose 8 (Binary (op.Relate relation.Equal) 10 (Named (identifier 9 (codes "i")) NoMore) (Constant (IntegerValue (pos 1)) 11)) (Compound (Begin 13 NoDeclaration (Also (Call (Named (identifier 14 (codes "outtext")) (Then (Constant (TextValue (codes "yes")) 16) NoMore))) NoStatement) 18)) (Also (Call (Named (identifier 20 (codes "outtext")) (Then (Constant (TextValue (codes "no")) 22) NoMore))) NoStatement)) (Also (Call (Named (identifier 25 (codes "outimage")) NoMore)) NoStatement))) 26)

-- begin integer i;
-- outtext("max ");
-- i := 9223372036854775807; i := i + 1;
-- outtext("never")
-- end
abbrev pub last_image : Source
last_image = source_with_texts ((1, 4) ∷ (2, 5) ∷ (3, 10) ∷ (4, 4) ∷ (5, 2) ∷ []) (at 4 Alone (codes "outtext") ∷ at 9 Alone (codes "i") ∷ at 13 Alone (codes "i") ∷ at 15 Alone (codes "i") ∷ at 19 Alone (codes "outtext") ∷ []) (6 ∷ 21 ∷ []) (Begin 0 (With (Variables (type_name.Integer (token 1)) (record { name = (identifier 2 (codes "i")); value = None } ∷ [])) NoDeclaration) (Also (Call (Named (identifier 4 (codes "outtext")) (Then (Constant (TextValue (codes "max ")) 6) NoMore))) (Also (Assign (Named (identifier 9 (codes "i")) NoMore) (record { sign = assignment.Value; token = 10; value = (Constant (IntegerValue (pos 9223372036854775807)) 11) } ∷ [])) (Also (Assign (Named (identifier 13 (codes "i")) NoMore) (record { sign = assignment.Value; token = 14; value = (Binary (op.Add sign.Plus) 16 (Named (identifier 15 (codes "i")) NoMore) (Constant (IntegerValue (pos 1)) 17)) } ∷ [])) (Also (Call (Named (identifier 19 (codes "outtext")) (Then (Constant (TextValue (codes "never")) 21) NoMore))) NoStatement)))) 23)

-- begin integer n;
-- while not lastitem do begin n := inint; outint(n, 4) end;
-- outimage;
-- if endfile then outtext("eof"); outimage;
-- inimage
-- end
abbrev pub items : Source
items = source_with_texts ((1, 4) ∷ (2, 17) ∷ (3, 2) ∷ (4, 10) ∷ (5, 1) ∷ (6, 2) ∷ []) (at 6 Alone (codes "lastitem") ∷ at 9 Alone (codes "n") ∷ at 11 Alone (codes "inint") ∷ at 13 Alone (codes "outint") ∷ at 15 Alone (codes "n") ∷ at 21 Alone (codes "outimage") ∷ at 24 Alone (codes "endfile") ∷ at 26 Alone (codes "outtext") ∷ at 31 Alone (codes "outimage") ∷ at 33 Alone (codes "inimage") ∷ []) (28 ∷ []) (Begin 0 (With (Variables (type_name.Integer (token 1)) (record { name = (identifier 2 (codes "n")); value = None } ∷ [])) NoDeclaration) (Also (Repeat 4 (Not 5 (Named (identifier 6 (codes "lastitem")) NoMore)) (Compound (Begin 8 NoDeclaration (Also (Assign (Named (identifier 9 (codes "n")) NoMore) (record { sign = assignment.Value; token = 10; value = (Named (identifier 11 (codes "inint")) NoMore) } ∷ [])) (Also (Call (Named (identifier 13 (codes "outint")) (Then (Named (identifier 15 (codes "n")) NoMore) (Then (Constant (IntegerValue (pos 4)) 17) NoMore)))) NoStatement)) 19))) (Also (Call (Named (identifier 21 (codes "outimage")) NoMore)) (Also (Choose 23 (Named (identifier 24 (codes "endfile")) NoMore) (Call (Named (identifier 26 (codes "outtext")) (Then (Constant (TextValue (codes "eof")) 28) NoMore))) NoStatement) (Also (Call (Named (identifier 31 (codes "outimage")) NoMore)) (Also (Call (Named (identifier 33 (codes "inimage")) NoMore)) NoStatement))))) 34)

-- begin text t, u;
-- t :- blanks(8); t.putint(-42); u :- t.sub(6, 3); u := "x";
-- outtext(t); outchar('|'); outint(t.pos, 2); outchar('|');
-- outtext(copy(t.strip) & "!65!B"); outimage
-- end
abbrev pub parts : Source
parts = source_with_texts ((1, 6) ∷ (2, 30) ∷ (3, 24) ∷ (4, 13) ∷ (5, 2) ∷ []) (at 6 Alone (codes "t") ∷ at 8 Alone (codes "blanks") ∷ at 13 Alone (codes "t") ∷ at 15 OfText (codes "putint") ∷ at 21 Alone (codes "u") ∷ at 23 Alone (codes "t") ∷ at 25 OfText (codes "sub") ∷ at 32 Alone (codes "u") ∷ at 36 Alone (codes "outtext") ∷ at 38 Alone (codes "t") ∷ at 41 Alone (codes "outchar") ∷ at 46 Alone (codes "outint") ∷ at 48 Alone (codes "t") ∷ at 50 OfText (codes "pos") ∷ at 55 Alone (codes "outchar") ∷ at 60 Alone (codes "outtext") ∷ at 62 Alone (codes "copy") ∷ at 64 Alone (codes "t") ∷ at 66 OfText (codes "strip") ∷ at 72 Alone (codes "outimage") ∷ []) (6 ∷ 8 ∷ 13 ∷ 21 ∷ 23 ∷ 24 ∷ 32 ∷ 34 ∷ 38 ∷ 48 ∷ 62 ∷ 64 ∷ 65 ∷ 68 ∷ 69 ∷ []) (Begin 0 (With (Variables (type_name.Text (token 1)) (record { name = (identifier 2 (codes "t")); value = None } ∷ record { name = (identifier 4 (codes "u")); value = None } ∷ [])) NoDeclaration) (Also (Assign (Named (identifier 6 (codes "t")) NoMore) (record { sign = assignment.Reference; token = 7; value = (Named (identifier 8 (codes "blanks")) (Then (Constant (IntegerValue (pos 8)) 10) NoMore)) } ∷ [])) (Also (Call (Dot 14 (Named (identifier 13 (codes "t")) NoMore) (identifier 15 (codes "putint")) (Then (Signed sign.Minus 17 (Constant (IntegerValue (pos 42)) 18)) NoMore))) (Also (Assign (Named (identifier 21 (codes "u")) NoMore) (record { sign = assignment.Reference; token = 22; value = (Dot 24 (Named (identifier 23 (codes "t")) NoMore) (identifier 25 (codes "sub")) (Then (Constant (IntegerValue (pos 6)) 27) (Then (Constant (IntegerValue (pos 3)) 29) NoMore))) } ∷ [])) (Also (Assign (Named (identifier 32 (codes "u")) NoMore) (record { sign = assignment.Value; token = 33; value = (Constant (TextValue (codes "x")) 34) } ∷ [])) (Also (Call (Named (identifier 36 (codes "outtext")) (Then (Named (identifier 38 (codes "t")) NoMore) NoMore))) (Also (Call (Named (identifier 41 (codes "outchar")) (Then (Constant (CharacterValue 124) 43) NoMore))) (Also (Call (Named (identifier 46 (codes "outint")) (Then (Dot 49 (Named (identifier 48 (codes "t")) NoMore) (identifier 50 (codes "pos")) NoMore) (Then (Constant (IntegerValue (pos 2)) 52) NoMore)))) (Also (Call (Named (identifier 55 (codes "outchar")) (Then (Constant (CharacterValue 124) 57) NoMore))) (Also (Call (Named (identifier 60 (codes "outtext")) (Then (Binary op.Concatenate 68 (Named (identifier 62 (codes "copy")) (Then (Dot 65 (Named (identifier 64 (codes "t")) NoMore) (identifier 66 (codes "strip")) NoMore) NoMore)) (Constant (TextValue (codes "AB")) 69)) NoMore))) (Also (Call (Named (identifier 72 (codes "outimage")) NoMore)) NoStatement)))))))))) 73)

-- begin outtext("ab"); outtext("abcdefgh") end
abbrev pub full_images : Source
full_images = source_with_texts ((1, 12) ∷ []) (at 1 Alone (codes "outtext") ∷ at 6 Alone (codes "outtext") ∷ []) (3 ∷ 8 ∷ []) (Begin 0 NoDeclaration (Also (Call (Named (identifier 1 (codes "outtext")) (Then (Constant (TextValue (codes "ab")) 3) NoMore))) (Also (Call (Named (identifier 6 (codes "outtext")) (Then (Constant (TextValue (codes "abcdefgh")) 8) NoMore))) NoStatement)) 10)

-- begin text t; t :- blanks(3); t := "abcd" end
abbrev pub too_long : Source
too_long = source_with_texts ((1, 16) ∷ []) (at 4 Alone (codes "t") ∷ at 6 Alone (codes "blanks") ∷ at 11 Alone (codes "t") ∷ []) (4 ∷ 6 ∷ 11 ∷ 13 ∷ []) (Begin 0 (With (Variables (type_name.Text (token 1)) (record { name = (identifier 2 (codes "t")); value = None } ∷ [])) NoDeclaration) (Also (Assign (Named (identifier 4 (codes "t")) NoMore) (record { sign = assignment.Reference; token = 5; value = (Named (identifier 6 (codes "blanks")) (Then (Constant (IntegerValue (pos 3)) 8) NoMore)) } ∷ [])) (Also (Assign (Named (identifier 11 (codes "t")) NoMore) (record { sign = assignment.Value; token = 12; value = (Constant (TextValue (codes "abcd")) 13) } ∷ [])) NoStatement)) 14)

-- begin
-- outint(length,4); if more then outint(1,2); outint(pos,3); outimage;
-- sysout.image.sub(3,2) := "ab"; sysout.setpos(5); sysout.outchar('c'); outint(sysout.pos,2); sysout.outimage;
-- if image == sysout.image then outint(1,1); outint(image.length,4); outint(sysout.length,4); sysout.outtext("t"); sysout.outint(5,2)
-- end
abbrev pub images : Source
images = source_with_texts ((1, 1) ∷ (2, 26) ∷ (3, 40) ∷ (4, 47) ∷ (5, 2) ∷ []) (at 1 Alone (codes "outint") ∷ at 3 Alone (codes "length") ∷ at 9 Alone (codes "more") ∷ at 11 Alone (codes "outint") ∷ at 18 Alone (codes "outint") ∷ at 20 Alone (codes "pos") ∷ at 25 Alone (codes "outimage") ∷ at 27 Alone (codes "sysout") ∷ at 29 OfSysout (codes "image") ∷ at 31 OfText (codes "sub") ∷ at 40 Alone (codes "sysout") ∷ at 42 OfSysout (codes "setpos") ∷ at 47 Alone (codes "sysout") ∷ at 49 OfSysout (codes "outchar") ∷ at 54 Alone (codes "outint") ∷ at 56 Alone (codes "sysout") ∷ at 58 OfSysout (codes "pos") ∷ at 63 Alone (codes "sysout") ∷ at 65 OfSysout (codes "outimage") ∷ at 68 Alone (codes "image") ∷ at 70 Alone (codes "sysout") ∷ at 72 OfSysout (codes "image") ∷ at 74 Alone (codes "outint") ∷ at 81 Alone (codes "outint") ∷ at 83 Alone (codes "image") ∷ at 85 OfText (codes "length") ∷ at 90 Alone (codes "outint") ∷ at 92 Alone (codes "sysout") ∷ at 94 OfSysout (codes "length") ∷ at 99 Alone (codes "sysout") ∷ at 101 OfSysout (codes "outtext") ∷ at 106 Alone (codes "sysout") ∷ at 108 OfSysout (codes "outint") ∷ []) (28 ∷ 30 ∷ 38 ∷ 68 ∷ 71 ∷ 83 ∷ 103 ∷ []) (Begin 0 NoDeclaration (Also (Call (Named (identifier 1 (codes "outint")) (Then (Named (identifier 3 (codes "length")) NoMore) (Then (Constant (IntegerValue (pos 4)) 5) NoMore)))) (Also (Choose 8 (Named (identifier 9 (codes "more")) NoMore) (Call (Named (identifier 11 (codes "outint")) (Then (Constant (IntegerValue (pos 1)) 13) (Then (Constant (IntegerValue (pos 2)) 15) NoMore)))) NoStatement) (Also (Call (Named (identifier 18 (codes "outint")) (Then (Named (identifier 20 (codes "pos")) NoMore) (Then (Constant (IntegerValue (pos 3)) 22) NoMore)))) (Also (Call (Named (identifier 25 (codes "outimage")) NoMore)) (Also (Assign (Dot 30 (Dot 28 (Named (identifier 27 (codes "sysout")) NoMore) (identifier 29 (codes "image")) NoMore) (identifier 31 (codes "sub")) (Then (Constant (IntegerValue (pos 3)) 33) (Then (Constant (IntegerValue (pos 2)) 35) NoMore))) (record { sign = assignment.Value; token = 37; value = (Constant (TextValue (codes "ab")) 38) } ∷ [])) (Also (Call (Dot 41 (Named (identifier 40 (codes "sysout")) NoMore) (identifier 42 (codes "setpos")) (Then (Constant (IntegerValue (pos 5)) 44) NoMore))) (Also (Call (Dot 48 (Named (identifier 47 (codes "sysout")) NoMore) (identifier 49 (codes "outchar")) (Then (Constant (CharacterValue 99) 51) NoMore))) (Also (Call (Named (identifier 54 (codes "outint")) (Then (Dot 57 (Named (identifier 56 (codes "sysout")) NoMore) (identifier 58 (codes "pos")) NoMore) (Then (Constant (IntegerValue (pos 2)) 60) NoMore)))) (Also (Call (Dot 64 (Named (identifier 63 (codes "sysout")) NoMore) (identifier 65 (codes "outimage")) NoMore)) (Also (Choose 67 (Binary (op.Relate relation.SameReference) 69 (Named (identifier 68 (codes "image")) NoMore) (Dot 71 (Named (identifier 70 (codes "sysout")) NoMore) (identifier 72 (codes "image")) NoMore)) (Call (Named (identifier 74 (codes "outint")) (Then (Constant (IntegerValue (pos 1)) 76) (Then (Constant (IntegerValue (pos 1)) 78) NoMore)))) NoStatement) (Also (Call (Named (identifier 81 (codes "outint")) (Then (Dot 84 (Named (identifier 83 (codes "image")) NoMore) (identifier 85 (codes "length")) NoMore) (Then (Constant (IntegerValue (pos 4)) 87) NoMore)))) (Also (Call (Named (identifier 90 (codes "outint")) (Then (Dot 93 (Named (identifier 92 (codes "sysout")) NoMore) (identifier 94 (codes "length")) NoMore) (Then (Constant (IntegerValue (pos 4)) 96) NoMore)))) (Also (Call (Dot 100 (Named (identifier 99 (codes "sysout")) NoMore) (identifier 101 (codes "outtext")) (Then (Constant (TextValue (codes "t")) 103) NoMore))) (Also (Call (Dot 107 (Named (identifier 106 (codes "sysout")) NoMore) (identifier 108 (codes "outint")) (Then (Constant (IntegerValue (pos 5)) 110) (Then (Constant (IntegerValue (pos 2)) 112) NoMore)))) NoStatement)))))))))))))) 114)

-- begin text t; text array a(1:1);
-- text procedure f; f :- t;
-- t :- copy("abc"); outchar(f.getchar); outint(t.pos,2); f.putchar('X'); outtext(t); outint(t.pos,2);
-- a(1) :- t; a(1).setpos(2); outchar(a(1).getchar); outint(a(1).pos,2); outint(t.pos,2)
-- end
abbrev pub moved : Source
moved = source_with_texts ((1, 13) ∷ (2, 8) ∷ (3, 44) ∷ (4, 47) ∷ (5, 2) ∷ []) (at 17 Alone (codes "f") ∷ at 19 Alone (codes "t") ∷ at 21 Alone (codes "t") ∷ at 23 Alone (codes "copy") ∷ at 28 Alone (codes "outchar") ∷ at 30 Alone (codes "f") ∷ at 32 OfText (codes "getchar") ∷ at 35 Alone (codes "outint") ∷ at 37 Alone (codes "t") ∷ at 39 OfText (codes "pos") ∷ at 44 Alone (codes "f") ∷ at 46 OfText (codes "putchar") ∷ at 51 Alone (codes "outtext") ∷ at 53 Alone (codes "t") ∷ at 56 Alone (codes "outint") ∷ at 58 Alone (codes "t") ∷ at 60 OfText (codes "pos") ∷ at 65 Alone (codes "a") ∷ at 70 Alone (codes "t") ∷ at 72 Alone (codes "a") ∷ at 77 OfText (codes "setpos") ∷ at 82 Alone (codes "outchar") ∷ at 84 Alone (codes "a") ∷ at 89 OfText (codes "getchar") ∷ at 92 Alone (codes "outint") ∷ at 94 Alone (codes "a") ∷ at 99 OfText (codes "pos") ∷ at 104 Alone (codes "outint") ∷ at 106 Alone (codes "t") ∷ at 108 OfText (codes "pos") ∷ []) (17 ∷ 19 ∷ 21 ∷ 23 ∷ 25 ∷ 30 ∷ 37 ∷ 44 ∷ 53 ∷ 58 ∷ 65 ∷ 70 ∷ 72 ∷ 84 ∷ 94 ∷ 106 ∷ []) (Begin 0 (With (Variables (type_name.Text (token 1)) (record { name = (identifier 2 (codes "t")); value = None } ∷ [])) (With (Arrays (type_name.Text (token 4)) 5 (record { names = (identifier 6 (codes "a")) ∷ []; bounds = record { lower = (Constant (IntegerValue (pos 1)) 8); upper = (Constant (IntegerValue (pos 1)) 10) } ∷ [] } ∷ [])) (With (DeclareProcedure (Some (type_name.Text (token 13))) 14 (record { name = (identifier 15 (codes "f")); formals = []; modes = []; specifications = [] }) (Assign (Named (identifier 17 (codes "f")) NoMore) (record { sign = assignment.Reference; token = 18; value = (Named (identifier 19 (codes "t")) NoMore) } ∷ [])) 20) NoDeclaration))) (Also (Assign (Named (identifier 21 (codes "t")) NoMore) (record { sign = assignment.Reference; token = 22; value = (Named (identifier 23 (codes "copy")) (Then (Constant (TextValue (codes "abc")) 25) NoMore)) } ∷ [])) (Also (Call (Named (identifier 28 (codes "outchar")) (Then (Dot 31 (Named (identifier 30 (codes "f")) NoMore) (identifier 32 (codes "getchar")) NoMore) NoMore))) (Also (Call (Named (identifier 35 (codes "outint")) (Then (Dot 38 (Named (identifier 37 (codes "t")) NoMore) (identifier 39 (codes "pos")) NoMore) (Then (Constant (IntegerValue (pos 2)) 41) NoMore)))) (Also (Call (Dot 45 (Named (identifier 44 (codes "f")) NoMore) (identifier 46 (codes "putchar")) (Then (Constant (CharacterValue 88) 48) NoMore))) (Also (Call (Named (identifier 51 (codes "outtext")) (Then (Named (identifier 53 (codes "t")) NoMore) NoMore))) (Also (Call (Named (identifier 56 (codes "outint")) (Then (Dot 59 (Named (identifier 58 (codes "t")) NoMore) (identifier 60 (codes "pos")) NoMore) (Then (Constant (IntegerValue (pos 2)) 62) NoMore)))) (Also (Assign (Named (identifier 65 (codes "a")) (Then (Constant (IntegerValue (pos 1)) 67) NoMore)) (record { sign = assignment.Reference; token = 69; value = (Named (identifier 70 (codes "t")) NoMore) } ∷ [])) (Also (Call (Dot 76 (Named (identifier 72 (codes "a")) (Then (Constant (IntegerValue (pos 1)) 74) NoMore)) (identifier 77 (codes "setpos")) (Then (Constant (IntegerValue (pos 2)) 79) NoMore))) (Also (Call (Named (identifier 82 (codes "outchar")) (Then (Dot 88 (Named (identifier 84 (codes "a")) (Then (Constant (IntegerValue (pos 1)) 86) NoMore)) (identifier 89 (codes "getchar")) NoMore) NoMore))) (Also (Call (Named (identifier 92 (codes "outint")) (Then (Dot 98 (Named (identifier 94 (codes "a")) (Then (Constant (IntegerValue (pos 1)) 96) NoMore)) (identifier 99 (codes "pos")) NoMore) (Then (Constant (IntegerValue (pos 2)) 101) NoMore)))) (Also (Call (Named (identifier 104 (codes "outint")) (Then (Dot 107 (Named (identifier 106 (codes "t")) NoMore) (identifier 108 (codes "pos")) NoMore) (Then (Constant (IntegerValue (pos 2)) 110) NoMore)))) NoStatement))))))))))) 112)

-- begin text t, u; text c = "xy";
-- procedure p(v); value v; text v;
-- begin v := "!"; outtext(v) end;
-- t :- blanks(3);
-- for t := c, "z" do outtext(t);
-- for u :- c, t do outtext(u);
-- t := u := "ab"; outtext(t);
-- p(t); outtext(t); if c == "xy" then outtext("no"); if (u) = "ab " then outtext("yes");
-- c.sub(1,1)
-- := "q"
-- end
abbrev pub left_sides : Source
left_sides = source_with_texts ((1, 11) ∷ (2, 12) ∷ (3, 11) ∷ (4, 7) ∷ (5, 12) ∷ (6, 12) ∷ (7, 11) ∷ (8, 32) ∷ (9, 8) ∷ (10, 2) ∷ (11, 2) ∷ []) (at 24 Alone (codes "v") ∷ at 28 Alone (codes "outtext") ∷ at 30 Alone (codes "v") ∷ at 34 Alone (codes "t") ∷ at 36 Alone (codes "blanks") ∷ at 42 Alone (codes "t") ∷ at 44 Alone (codes "c") ∷ at 48 Alone (codes "outtext") ∷ at 50 Alone (codes "t") ∷ at 54 Alone (codes "u") ∷ at 56 Alone (codes "c") ∷ at 58 Alone (codes "t") ∷ at 60 Alone (codes "outtext") ∷ at 62 Alone (codes "u") ∷ at 65 Alone (codes "t") ∷ at 67 Alone (codes "u") ∷ at 71 Alone (codes "outtext") ∷ at 73 Alone (codes "t") ∷ at 76 Alone (codes "p") ∷ at 78 Alone (codes "t") ∷ at 81 Alone (codes "outtext") ∷ at 83 Alone (codes "t") ∷ at 87 Alone (codes "c") ∷ at 91 Alone (codes "outtext") ∷ at 98 Alone (codes "u") ∷ at 103 Alone (codes "outtext") ∷ at 108 Alone (codes "c") ∷ at 110 OfText (codes "sub") ∷ []) (24 ∷ 26 ∷ 30 ∷ 34 ∷ 36 ∷ 42 ∷ 44 ∷ 46 ∷ 50 ∷ 54 ∷ 56 ∷ 58 ∷ 62 ∷ 65 ∷ 67 ∷ 69 ∷ 73 ∷ 78 ∷ 83 ∷ 87 ∷ 89 ∷ 93 ∷ 98 ∷ 101 ∷ 105 ∷ 108 ∷ 109 ∷ 117 ∷ []) (Begin 0 (With (Variables (type_name.Text (token 1)) (record { name = (identifier 2 (codes "t")); value = None } ∷ record { name = (identifier 4 (codes "u")); value = None } ∷ [])) (With (Variables (type_name.Text (token 6)) (record { name = (identifier 7 (codes "c")); value = Some (constant.Text (token 9) (codes "xy")) } ∷ [])) (With (DeclareProcedure None 11 (record { name = (identifier 12 (codes "p")); formals = (identifier 14 (codes "v")) ∷ []; modes = record { token = 17; mode = mode.Value; names = (identifier 18 (codes "v")) ∷ [] } ∷ []; specifications = record { kind = Simple (type_name.Text (token 20)); names = (identifier 21 (codes "v")) ∷ [] } ∷ [] }) (Compound (Begin 23 NoDeclaration (Also (Assign (Named (identifier 24 (codes "v")) NoMore) (record { sign = assignment.Value; token = 25; value = (Constant (TextValue (codes "!")) 26) } ∷ [])) (Also (Call (Named (identifier 28 (codes "outtext")) (Then (Named (identifier 30 (codes "v")) NoMore) NoMore))) NoStatement)) 32)) 33) NoDeclaration))) (Also (Assign (Named (identifier 34 (codes "t")) NoMore) (record { sign = assignment.Reference; token = 35; value = (Named (identifier 36 (codes "blanks")) (Then (Constant (IntegerValue (pos 3)) 38) NoMore)) } ∷ [])) (Also (For 41 (identifier 42 (codes "t")) assignment.Value 43 (Once (Named (identifier 44 (codes "c")) NoMore) ∷ Once (Constant (TextValue (codes "z")) 46) ∷ []) (Call (Named (identifier 48 (codes "outtext")) (Then (Named (identifier 50 (codes "t")) NoMore) NoMore)))) (Also (For 53 (identifier 54 (codes "u")) assignment.Reference 55 (Once (Named (identifier 56 (codes "c")) NoMore) ∷ Once (Named (identifier 58 (codes "t")) NoMore) ∷ []) (Call (Named (identifier 60 (codes "outtext")) (Then (Named (identifier 62 (codes "u")) NoMore) NoMore)))) (Also (Assign (Named (identifier 65 (codes "t")) NoMore) (record { sign = assignment.Value; token = 66; value = (Named (identifier 67 (codes "u")) NoMore) } ∷ record { sign = assignment.Value; token = 68; value = (Constant (TextValue (codes "ab")) 69) } ∷ [])) (Also (Call (Named (identifier 71 (codes "outtext")) (Then (Named (identifier 73 (codes "t")) NoMore) NoMore))) (Also (Call (Named (identifier 76 (codes "p")) (Then (Named (identifier 78 (codes "t")) NoMore) NoMore))) (Also (Call (Named (identifier 81 (codes "outtext")) (Then (Named (identifier 83 (codes "t")) NoMore) NoMore))) (Also (Choose 86 (Binary (op.Relate relation.SameReference) 88 (Named (identifier 87 (codes "c")) NoMore) (Constant (TextValue (codes "xy")) 89)) (Call (Named (identifier 91 (codes "outtext")) (Then (Constant (TextValue (codes "no")) 93) NoMore))) NoStatement) (Also (Choose 96 (Binary (op.Relate relation.Equal) 100 (Parentheses 97 (Named (identifier 98 (codes "u")) NoMore)) (Constant (TextValue (codes "ab ")) 101)) (Call (Named (identifier 103 (codes "outtext")) (Then (Constant (TextValue (codes "yes")) 105) NoMore))) NoStatement) (Also (Assign (Dot 109 (Named (identifier 108 (codes "c")) NoMore) (identifier 110 (codes "sub")) (Then (Constant (IntegerValue (pos 1)) 112) (Then (Constant (IntegerValue (pos 1)) 114) NoMore))) (record { sign = assignment.Value; token = 116; value = (Constant (TextValue (codes "q")) 117) } ∷ [])) NoStatement)))))))))) 118)

-- begin text t, u;
-- t :- intext(7); outtext(t); outchar('|'); outint(t.pos,1); outint(t.length,2); t.putchar('J'); outtext(t); outchar('|');
-- u :- intext(0); if u == notext then outint(0,1); outchar(inchar); outchar(inchar); outchar('|')
-- end
abbrev pub lines : Source
lines = source_with_texts ((1, 6) ∷ (2, 52) ∷ (3, 33) ∷ (4, 2) ∷ []) (at 6 Alone (codes "t") ∷ at 8 Alone (codes "intext") ∷ at 13 Alone (codes "outtext") ∷ at 15 Alone (codes "t") ∷ at 18 Alone (codes "outchar") ∷ at 23 Alone (codes "outint") ∷ at 25 Alone (codes "t") ∷ at 27 OfText (codes "pos") ∷ at 32 Alone (codes "outint") ∷ at 34 Alone (codes "t") ∷ at 36 OfText (codes "length") ∷ at 41 Alone (codes "t") ∷ at 43 OfText (codes "putchar") ∷ at 48 Alone (codes "outtext") ∷ at 50 Alone (codes "t") ∷ at 53 Alone (codes "outchar") ∷ at 58 Alone (codes "u") ∷ at 60 Alone (codes "intext") ∷ at 66 Alone (codes "u") ∷ at 70 Alone (codes "outint") ∷ at 77 Alone (codes "outchar") ∷ at 79 Alone (codes "inchar") ∷ at 82 Alone (codes "outchar") ∷ at 84 Alone (codes "inchar") ∷ at 87 Alone (codes "outchar") ∷ []) (6 ∷ 8 ∷ 15 ∷ 25 ∷ 34 ∷ 41 ∷ 50 ∷ 58 ∷ 60 ∷ 66 ∷ 68 ∷ []) (Begin 0 (With (Variables (type_name.Text (token 1)) (record { name = (identifier 2 (codes "t")); value = None } ∷ record { name = (identifier 4 (codes "u")); value = None } ∷ [])) NoDeclaration) (Also (Assign (Named (identifier 6 (codes "t")) NoMore) (record { sign = assignment.Reference; token = 7; value = (Named (identifier 8 (codes "intext")) (Then (Constant (IntegerValue (pos 7)) 10) NoMore)) } ∷ [])) (Also (Call (Named (identifier 13 (codes "outtext")) (Then (Named (identifier 15 (codes "t")) NoMore) NoMore))) (Also (Call (Named (identifier 18 (codes "outchar")) (Then (Constant (CharacterValue 124) 20) NoMore))) (Also (Call (Named (identifier 23 (codes "outint")) (Then (Dot 26 (Named (identifier 25 (codes "t")) NoMore) (identifier 27 (codes "pos")) NoMore) (Then (Constant (IntegerValue (pos 1)) 29) NoMore)))) (Also (Call (Named (identifier 32 (codes "outint")) (Then (Dot 35 (Named (identifier 34 (codes "t")) NoMore) (identifier 36 (codes "length")) NoMore) (Then (Constant (IntegerValue (pos 2)) 38) NoMore)))) (Also (Call (Dot 42 (Named (identifier 41 (codes "t")) NoMore) (identifier 43 (codes "putchar")) (Then (Constant (CharacterValue 74) 45) NoMore))) (Also (Call (Named (identifier 48 (codes "outtext")) (Then (Named (identifier 50 (codes "t")) NoMore) NoMore))) (Also (Call (Named (identifier 53 (codes "outchar")) (Then (Constant (CharacterValue 124) 55) NoMore))) (Also (Assign (Named (identifier 58 (codes "u")) NoMore) (record { sign = assignment.Reference; token = 59; value = (Named (identifier 60 (codes "intext")) (Then (Constant (IntegerValue (pos 0)) 62) NoMore)) } ∷ [])) (Also (Choose 65 (Binary (op.Relate relation.SameReference) 67 (Named (identifier 66 (codes "u")) NoMore) (Constant NoText 68)) (Call (Named (identifier 70 (codes "outint")) (Then (Constant (IntegerValue (pos 0)) 72) (Then (Constant (IntegerValue (pos 1)) 74) NoMore)))) NoStatement) (Also (Call (Named (identifier 77 (codes "outchar")) (Then (Named (identifier 79 (codes "inchar")) NoMore) NoMore))) (Also (Call (Named (identifier 82 (codes "outchar")) (Then (Named (identifier 84 (codes "inchar")) NoMore) NoMore))) (Also (Call (Named (identifier 87 (codes "outchar")) (Then (Constant (CharacterValue 124) 89) NoMore))) NoStatement))))))))))))) 91)

-- begin text procedure f; begin f :- blanks(3); f := "ab" end;
-- outtext(f); outchar('|'); if none == none then outtext("none"); if f =/= f then outint(f.length, 2);
-- inimage; sysin.image := "12 34"; outint(inint,3); sysin.image.sub(1,1) := "9"; sysin.setpos(1); outint(inint,3)
-- end
abbrev pub results : Source
results = source_with_texts ((1, 18) ∷ (2, 34) ∷ (3, 41) ∷ (4, 2) ∷ []) (at 6 Alone (codes "f") ∷ at 8 Alone (codes "blanks") ∷ at 13 Alone (codes "f") ∷ at 18 Alone (codes "outtext") ∷ at 20 Alone (codes "f") ∷ at 23 Alone (codes "outchar") ∷ at 33 Alone (codes "outtext") ∷ at 39 Alone (codes "f") ∷ at 41 Alone (codes "f") ∷ at 43 Alone (codes "outint") ∷ at 45 Alone (codes "f") ∷ at 47 OfText (codes "length") ∷ at 52 Alone (codes "inimage") ∷ at 54 Alone (codes "sysin") ∷ at 56 OfSysin (codes "image") ∷ at 60 Alone (codes "outint") ∷ at 62 Alone (codes "inint") ∷ at 67 Alone (codes "sysin") ∷ at 69 OfSysin (codes "image") ∷ at 71 OfText (codes "sub") ∷ at 80 Alone (codes "sysin") ∷ at 82 OfSysin (codes "setpos") ∷ at 87 Alone (codes "outint") ∷ at 89 Alone (codes "inint") ∷ []) (6 ∷ 8 ∷ 13 ∷ 15 ∷ 20 ∷ 35 ∷ 39 ∷ 41 ∷ 45 ∷ 55 ∷ 58 ∷ 68 ∷ 70 ∷ 78 ∷ []) (Begin 0 (With (DeclareProcedure (Some (type_name.Text (token 1))) 2 (record { name = (identifier 3 (codes "f")); formals = []; modes = []; specifications = [] }) (Compound (Begin 5 NoDeclaration (Also (Assign (Named (identifier 6 (codes "f")) NoMore) (record { sign = assignment.Reference; token = 7; value = (Named (identifier 8 (codes "blanks")) (Then (Constant (IntegerValue (pos 3)) 10) NoMore)) } ∷ [])) (Also (Assign (Named (identifier 13 (codes "f")) NoMore) (record { sign = assignment.Value; token = 14; value = (Constant (TextValue (codes "ab")) 15) } ∷ [])) NoStatement)) 16)) 17) NoDeclaration) (Also (Call (Named (identifier 18 (codes "outtext")) (Then (Named (identifier 20 (codes "f")) NoMore) NoMore))) (Also (Call (Named (identifier 23 (codes "outchar")) (Then (Constant (CharacterValue 124) 25) NoMore))) (Also (Choose 28 (Binary (op.Relate relation.SameReference) 30 (Constant NoObject 29) (Constant NoObject 31)) (Call (Named (identifier 33 (codes "outtext")) (Then (Constant (TextValue (codes "none")) 35) NoMore))) NoStatement) (Also (Choose 38 (Binary (op.Relate relation.OtherReference) 40 (Named (identifier 39 (codes "f")) NoMore) (Named (identifier 41 (codes "f")) NoMore)) (Call (Named (identifier 43 (codes "outint")) (Then (Dot 46 (Named (identifier 45 (codes "f")) NoMore) (identifier 47 (codes "length")) NoMore) (Then (Constant (IntegerValue (pos 2)) 49) NoMore)))) NoStatement) (Also (Call (Named (identifier 52 (codes "inimage")) NoMore)) (Also (Assign (Dot 55 (Named (identifier 54 (codes "sysin")) NoMore) (identifier 56 (codes "image")) NoMore) (record { sign = assignment.Value; token = 57; value = (Constant (TextValue (codes "12 34")) 58) } ∷ [])) (Also (Call (Named (identifier 60 (codes "outint")) (Then (Named (identifier 62 (codes "inint")) NoMore) (Then (Constant (IntegerValue (pos 3)) 64) NoMore)))) (Also (Assign (Dot 70 (Dot 68 (Named (identifier 67 (codes "sysin")) NoMore) (identifier 69 (codes "image")) NoMore) (identifier 71 (codes "sub")) (Then (Constant (IntegerValue (pos 1)) 73) (Then (Constant (IntegerValue (pos 1)) 75) NoMore))) (record { sign = assignment.Value; token = 77; value = (Constant (TextValue (codes "9")) 78) } ∷ [])) (Also (Call (Dot 81 (Named (identifier 80 (codes "sysin")) NoMore) (identifier 82 (codes "setpos")) (Then (Constant (IntegerValue (pos 1)) 84) NoMore))) (Also (Call (Named (identifier 87 (codes "outint")) (Then (Named (identifier 89 (codes "inint")) NoMore) (Then (Constant (IntegerValue (pos 3)) 91) NoMore)))) NoStatement)))))))))) 93)

-- ---- what a run shows

abbrev pub limits : (in_length out_length : ℕ) → Limits
limits in_length out_length = record { storage = 1000; ticks = 1000; in_length = in_length; out_length = out_length }

-- what is seen of a program with this input after 400 steps
abbrev pub seen : Source → Limits → (input : List ℕ) → Shown
seen s l input = shown (run s l input 400)

-- The output, the ticks and the words at the end, and the ending of each.
pub record WorkedTexts : Type 0 where
  pub branch_taken : seen branch (limits 80 132) [] ≡ shows (codes "yes\n") 6 5 Normal
  pub last_image_written : seen last_image (limits 80 132) [] ≡ shows (codes "max\n") 4 5 (RunFault IntegerOverflow 3)
  pub items_read : seen items (limits 80 132) (codes "12 -5\n  7") ≡ shows (codes "  12  -5   7\neof\n") 20 5 (RunFault InputAtEnd 5)
  pub parts_assigned : seen parts (limits 80 132) [] ≡ shows (codes "     x  | 9|     xAB\n") 11 15 Normal
  pub images_filled : seen full_images (limits 80 5) [] ≡ shows (codes "ab\nabcde\nfgh\n") 3 4 Normal
  pub text_too_long : seen too_long (limits 80 132) [] ≡ shows [] 3 8 (RunFault TextTooLong 1)
  pub images_named : seen images (limits 80 132) [] ≡ shows (codes " 132 1  7\n  abc 6\n1 132 132t 5\n") 17 4 Normal
  pub positions_moved : seen moved (limits 80 132) [] ≡ shows (codes "a 1Xbc 1b 3 1\n") 16 15 Normal
  pub texts_assigned : seen left_sides (limits 80 132) [] ≡ shows (codes "xy z  xyz  ab !  ab yes\n") 24 13 (RunFault TextIsConstant 10)
  pub lines_read : seen lines (limits 5 132) (codes "hello\nab\nz") ≡ shows (codes "helloab|1 7Jelloab|0  |\n") 15 9 Normal
  pub results_assigned : seen results (limits 80 132) (codes "abc\n") ≡ shows (codes "ab |none 3 12 92\n") 29 16 Normal
