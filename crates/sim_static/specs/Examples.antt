-- For each rule a small source that it refuses and one that it lets through. Tokens are numbered from 0; under a
-- source stand the numbers of those that are named.
use Rattle.std.specs.Prelude.{◌≡◌, ℕ, zero, suc, ◌+◌, ◌*◌, Bool, true, false, pos, List, [], ◌∷◌, replicate, slice_get, Option, Some, None, codes}
use Rattle.std.specs.List.{list_any}
use Rattle.std.specs.Str.{bytes_eq}
use Rattle.sim_base.specs.declared.numbering.TokenNo.{TokenNo}
use Rattle.sim_base.specs.declared.rule.Rule.{Rule}
use Rattle.sim_base.specs.declared.rule.Rule.TheVariants as r
use Rattle.sim_tree.specs.declared.expr.Identifier.{Identifier}
use Rattle.sim_tree.specs.declared.expr.Sign.TheVariants as sign
use Rattle.sim_tree.specs.declared.operator.Operator.TheVariants as op
use Rattle.sim_tree.specs.declared.stmt.Activation.TheVariants as activation
use Rattle.sim_tree.specs.declared.stmt.Assignment.TheVariants as assignment
use Rattle.sim_tree.specs.declared.stmt.Constant.TheVariants as constant
use Rattle.sim_tree.specs.declared.stmt.Mode.TheVariants as mode
use Rattle.sim_tree.specs.declared.stmt.TypeName.{TypeName}
use Rattle.sim_tree.specs.declared.stmt.TypeName.TheVariants as type_name
use Rattle.sim_tree.specs.Syntax.{Inner, Activate, Also, Arrays, Assign, Begin, Binary, BooleanValue, Call, Compound, Constant, Declaration, Declarations, DeclareClass, DeclareProcedure, Dot, Empty, Expression, For, Inspect, InspectWhen, IntegerValue, Interface, Moded, Named, New, NoArm, NoDeclaration, NoMore, NoObject, NoStatement, Now, Once, Prefixed, Procedure, Simple, Specification, Specified, Statement, Statements, This, Variables, When, With, expressions}
use Rattle.prefix_bind.specs.Prefixes.{prefix_faults}
use Rattle.sim_scope.specs.declared.types.BlockKind.TheVariants as kind
use Rattle.sim_scope.specs.declared.types.Entry.{Entry}
use Rattle.sim_scope.specs.declared.types.Entry.TheVariants as entry
use Rattle.sim_scope.specs.declared.types.SimType.TheVariants as t
use Rattle.sim_scope.specs.Access.{joined}
use Rattle.sim_scope.specs.Breaks.{row_breaks}
use Rattle.sim_scope.specs.Building.{BuildingOf}
use Rattle.sim_scope.specs.Found.{fault}
use Rattle.sim_scope.specs.Tables.{BlockOf, Tables}
use Rattle.sim_static.specs.Check.{Allowed, Checked, Refused, answer}

-- Words for sources.
abbrev pub token : ℕ → TokenNo
token n = record { 0 = n }

abbrev pub name : ℕ → List ℕ → Identifier
name n letters = record { token = token n; name = letters }

abbrev pub alone : ℕ → List ℕ → Expression
alone n letters = Named (name n letters) NoMore

abbrev pub of : ℕ → List ℕ → List Expression → Expression
of n letters arguments = Named (name n letters) (expressions arguments)

abbrev pub number : ℕ → ℕ → Expression
number n value = Constant (IntegerValue (pos value)) n

abbrev pub truth : ℕ → Expression
truth n = Constant (BooleanValue true) n

abbrev pub integer : ℕ → TypeName
integer n = type_name.Integer (token n)

-- `integer x`, at the token `integer`
abbrev pub variable : ℕ → List ℕ → Declaration
variable n letters = Variables (integer n) (record { name = name (n + 1) letters; value = None } ∷ [])

-- `integer x = value`
abbrev pub constant_of : ℕ → List ℕ → ℕ → Declaration
constant_of n letters value =
    Variables (integer n) (record { name = name (n + 1) letters; value = Some (constant.Integer None (token (n + 3)) (pos value)) } ∷ [])

-- `integer array x(1:bound)`
abbrev pub array : ℕ → List ℕ → Expression → Declaration
array n letters bound =
    Arrays (integer n) (n + 1) (record { names = name (n + 2) letters ∷ []; bounds = record { lower = number (n + 4) 1; upper = bound } ∷ [] } ∷ [])

-- `procedure p(x); .. ; ;` with an empty body at a token
abbrev pub procedure : ℕ → List ℕ → Identifier → List Moded → List Specification → (body : ℕ) → Declaration
procedure n letters formal modes specifications body =
    DeclareProcedure None n (record { name = name (n + 1) letters; formals = formal ∷ []; modes = modes; specifications = specifications }) (Empty body) body

abbrev pub specified : Specified → Identifier → List Specification
specified kind x = record { kind = kind; names = x ∷ [] } ∷ []

abbrev pub by_value : ℕ → Identifier → List Moded
by_value n x = record { token = n; mode = mode.Value; names = x ∷ [] } ∷ []

-- `x := value`
abbrev pub set : Expression → ℕ → Expression → Statement
set left n value = Assign left (record { sign = assignment.Value; token = n; value = value } ∷ [])

abbrev pub declarations : List Declaration → Declarations
declarations [] = NoDeclaration
declarations (d ∷ ds) = With d (declarations ds)

abbrev pub statements : List Statement → Statements
statements [] = NoStatement
statements (s ∷ ss) = Also s (statements ss)

-- `begin .. end`, with `end` at a token
abbrev pub source : List Declaration → List Statement → (end : ℕ) → Checked
source ds ss end = answer (end + 1) (record { prefix = None; block = Begin 0 (declarations ds) (statements ss) end })

abbrev pub Refuses : Rule → (token : ℕ) → Checked → Type 0
Refuses rule token checked = checked ≡ Refused (fault token rule)

abbrev pub is_allowed : Checked → Bool
is_allowed (Refused x) = false
is_allowed (Allowed tables uses found_in types) = true

abbrev pub Allows : Checked → Type 0
Allows checked = is_allowed checked ≡ true

abbrev a : List ℕ
a = codes "a"

abbrev b : List ℕ
b = codes "b"

abbrev p : List ℕ
p = codes "p"

abbrev q : List ℕ
q = codes "q"

-- Blocks in one another, each with a variable: `begin integer a; begin integer a; .. end end`, so many of them from a token on.
abbrev pub nested : ℕ → (token : ℕ) → Statements
nested zero token = NoStatement
nested (suc more) token =
    Also (Compound (Begin token (declarations (variable (token + 1) a ∷ [])) (nested more (token + 4)) (token + (4 + more * 5)))) NoStatement

abbrev pub levels : ℕ → Checked
levels more =
    let end = 4 + more * 5 in
    answer (end + 1) (record { prefix = None; block = Begin 0 (declarations (variable 1 a ∷ [])) (nested more 4) end })

-- tables with one block, which has so many variables
abbrev pub variables_block : ℕ → BlockOf
variables_block count = record {
  kind = kind.Program;
  first = 0;
  end = 0;
  encloser = None;
  level = 1;
  owner = None;
  formals = 0;
  inner = None;
  prefix = None;
  base = None;
  standard = None;
  names = [];
  numbers = replicate count (record { 0 = 0 });
  has_class = false;
  brought_names = [];
  brought = [];
  protected = [];
  hidden = [];
}

abbrev pub with_cells : ℕ → Tables
with_cells count = record {
  blocks = variables_block count ∷ [];
  declarations = record { name = a; token = token 2; block = 0; entry = entry.Variable t.Integer; listed = true } ∷ [];
  places = [];
  qualifications = [];
  protections = [];
}

-- The rules on declarations.
pub record Declared : Type 0 where
  -- S1, identifier declared twice:  begin integer a, a; end  and  begin integer a, b; end
  --                                                 4
  pub twice : Refuses r.DeclaredTwice 4 (source (Variables (integer 1) (record { name = name 2 a; value = None } ∷ record { name = name 4 a; value = None } ∷ []) ∷ []) [] 6)
  pub once : Allows (source (Variables (integer 1) (record { name = name 2 a; value = None } ∷ record { name = name 4 b; value = None } ∷ []) ∷ []) [] 6)
  -- S4, parameter and specification disagree:  begin procedure p(a); ; end  and  begin procedure p(a); integer a; ; end
  --                                                              4
  pub unspecified : Refuses r.SpecificationDisagrees 4 (source (procedure 1 p (name 4 a) [] [] 7 ∷ []) [] 8)
  pub specified_once : Allows (source (procedure 1 p (name 4 a) [] (specified (Simple (integer 7)) (name 8 a)) 10 ∷ []) [] 11)
  -- S5, mode not allowed:  begin procedure p(q); value q; procedure q; ; end  and  begin procedure p(q); value q; integer q; ; end
  --                                                    8
  pub procedure_by_value : Refuses r.ModeNotAllowed 8 (source (procedure 1 p (name 4 q) (by_value 7 (name 8 q)) (specified (Procedure None 10) (name 11 q)) 13 ∷ []) [] 14)
  pub integer_by_value : Allows (source (procedure 1 p (name 4 q) (by_value 7 (name 8 q)) (specified (Simple (integer 10)) (name 11 q)) 13 ∷ []) [] 14)
  -- L1, too many block levels: 64 blocks inside the program's, and 63
  pub too_deep : Refuses r.TooManyLevels 256 (levels 64)
  pub deep : Allows (levels 63)
  -- L2, too many cells: an instance of 4,096 variables, and one of 4,095
  pub too_large : prefix_faults (with_cells 4096) ≡ fault 0 r.TooManyCells ∷ []
  pub large : prefix_faults (with_cells 4095) ≡ []
  -- L3, too many declarations: a new identifier behind 65,535 declarations of the program, and behind any other number of them
  pub too_many : (x : Identifier) (e : Entry) (old : BuildingOf) (row : BlockOf) → list_any (bytes_eq x.name) row.names ≡ false → old.own ≡ 65535
      → row_breaks old x e (Some row) ≡ fault x.token.0 r.TooManyDeclarations ∷ []
  pub many : (x : Identifier) (e : Entry) (old : BuildingOf) (row : BlockOf) → list_any (bytes_eq x.name) row.names ≡ false → old.own ≡ 65534
      → row_breaks old x e (Some row) ≡ []

-- The rules on bodies.
pub record Bodies : Type 0 where
  -- S10, identifier not declared:  begin integer a; b := 1 end  and  begin integer a; a := 1 end
  --                                                 4
  pub undeclared : Refuses r.NotDeclared 4 (source (variable 1 a ∷ []) (set (alone 4 b) 5 (number 6 1) ∷ []) 7)
  pub declared : Allows (source (variable 1 a ∷ []) (set (alone 4 a) 5 (number 6 1) ∷ []) 7)
  -- S12, wrong kind of identifier:  begin integer a; a(1) := 1 end  and  begin integer array a(1:2); a(1) := 1 end
  --                                                  4
  pub no_array : Refuses r.WrongKind 4 (source (variable 1 a ∷ []) (set (of 4 a (number 6 1 ∷ [])) 8 (number 9 1) ∷ []) 10)
  pub an_array : Allows (source (array 1 a (number 7 2) ∷ []) (set (of 10 a (number 12 1 ∷ [])) 14 (number 15 1) ∷ []) 16)
  -- S13, wrong type:  begin integer a; a := 1 + true end  and  begin integer a; a := 1 + 2 end
  --                                             8
  pub wrong_operand : Refuses r.WrongType 8 (source (variable 1 a ∷ []) (set (alone 4 a) 5 (Binary (op.Add sign.Plus) 7 (number 6 1) (truth 8)) ∷ []) 9)
  pub right_operand : Allows (source (variable 1 a ∷ []) (set (alone 4 a) 5 (Binary (op.Add sign.Plus) 7 (number 6 1) (number 8 2)) ∷ []) 9)
  -- S14, left side is no variable:  begin integer a = 1; a := 2 end  and  begin integer a; a := 2 end
  --                                                      6
  pub to_a_constant : Refuses r.LeftSideIsNoVariable 6 (source (constant_of 1 a 1 ∷ []) (set (alone 6 a) 7 (number 8 2) ∷ []) 9)
  pub to_a_variable : Allows (source (variable 1 a ∷ []) (set (alone 4 a) 5 (number 6 2) ∷ []) 7)
  -- S15, wrong number of parameters or subscripts:  begin procedure p(a); integer a; ; p(1, 2) end  and  .. p(1) end
  --                                                                                   11
  pub two_for_one : Refuses r.WrongNumber 11 (source (procedure 1 p (name 4 a) [] (specified (Simple (integer 7)) (name 8 a)) 10 ∷ []) (Call (of 11 p (number 13 1 ∷ number 15 2 ∷ [])) ∷ []) 17)
  pub none_for_one : Refuses r.WrongNumber 11 (source (procedure 1 p (name 4 a) [] (specified (Simple (integer 7)) (name 8 a)) 10 ∷ []) (Call (alone 11 p) ∷ []) 12)
  pub one_for_one : Allows (source (procedure 1 p (name 4 a) [] (specified (Simple (integer 7)) (name 8 a)) 10 ∷ []) (Call (of 11 p (number 13 1 ∷ [])) ∷ []) 15)
  -- S13 at an actual:  begin procedure p(a); integer a; ; p(true) end
  --                                                         13
  pub wrong_actual : Refuses r.WrongType 13 (source (procedure 1 p (name 4 a) [] (specified (Simple (integer 7)) (name 8 a)) 10 ∷ []) (Call (of 11 p (truth 13 ∷ [])) ∷ []) 15)
  -- S19, controlled variable not simple:  begin integer array a(1:2); for a := 1 do ; end  and  begin integer a; for a := 1 do ; end
  --                                                                       11
  pub an_array_controlled : Refuses r.ControlledVariableNotSimple 11 (source (array 1 a (number 7 2) ∷ []) (For 10 (name 11 a) assignment.Value 12 (Once (number 13 1) ∷ []) (Empty 15) ∷ []) 16)
  pub a_variable_controlled : Allows (source (variable 1 a ∷ []) (For 4 (name 5 a) assignment.Value 6 (Once (number 7 1) ∷ []) (Empty 9) ∷ []) 10)
  -- S22, array bound depends on its own block:  begin integer b; integer array a(1:b); end  and  begin integer b = 3; integer array a(1:b); end
  --                                                                                10
  pub a_variable_as_bound : Refuses r.BoundDependsOnItsBlock 10 (source (variable 1 b ∷ array 4 a (alone 10 b) ∷ []) [] 13)
  pub a_constant_as_bound : Allows (source (constant_of 1 b 3 ∷ array 6 a (alone 12 b) ∷ []) [] 15)
  -- S23, standard name in a form left out:  begin procedure p(q); procedure q; ; p(outimage) end  and  .. p(p) end
  --                                                                                13
  pub a_standard_name_passed : Refuses r.StandardNameLeftOut 13 (source (procedure 1 p (name 4 q) [] (specified (Procedure None 7) (name 8 q)) 10 ∷ []) (Call (of 11 p (alone 13 (codes "outimage") ∷ [])) ∷ []) 15)
  pub a_procedure_passed : Allows (source (procedure 1 p (name 4 q) [] (specified (Procedure None 7) (name 8 q)) 10 ∷ []) (Call (of 11 p (alone 13 p ∷ [])) ∷ []) 15)
  -- .. and  begin integer a; a := sysin end
  --                               6
  pub a_stream_alone : Refuses r.StandardNameLeftOut 6 (source (variable 1 a ∷ []) (set (alone 4 a) 5 (alone 6 (codes "sysin")) ∷ []) 7)

-- The rules on classes.
abbrev c : List ℕ
c = codes "c"

-- `class x; ..`, with its body and the token behind it
abbrev pub class : ℕ → List ℕ → Interface → Statement → (end : ℕ) → Declaration
class n letters interface body end =
    DeclareClass None n (record { name = name (n + 1) letters; formals = []; modes = []; specifications = [] }) interface body end

-- `prefix class x; ..`
abbrev pub subclass : ℕ → (prefix letters : List ℕ) → Interface → Statement → (end : ℕ) → Declaration
subclass n prefix letters interface body end =
    DeclareClass (Some (name n prefix)) (n + 1) (record { name = name (n + 2) letters; formals = []; modes = []; specifications = [] }) interface body end

abbrev pub plain : Interface
plain = record { protections = []; virtuals = [] }

-- `virtual: procedure x;`, with `procedure` at a token
abbrev pub with_virtual : ℕ → List ℕ → Interface
with_virtual n letters = record { protections = []; virtuals = record { result = None; token = n; names = name (n + 1) letters ∷ [] } ∷ [] }

-- `protected x;`
abbrev pub with_protection : ℕ → List ℕ → Interface
with_protection n letters = record { protections = record { hidden = None; protected = Some n; names = name (n + 1) letters ∷ [] } ∷ []; virtuals = [] }

-- `hidden x;`
abbrev pub with_hiding : ℕ → List ℕ → Interface
with_hiding n letters = record { protections = record { hidden = Some n; protected = None; names = name (n + 1) letters ∷ [] } ∷ []; virtuals = [] }

-- `begin .. end`
abbrev pub body : ℕ → List Declaration → List Statement → (end : ℕ) → Statement
body n ds ss end = Compound (Begin n (declarations ds) (statements ss) end)

-- `ref(x) y`
abbrev pub reference : ℕ → (class letters : List ℕ) → Declaration
reference n class letters = Variables (type_name.Reference (token n) (name (n + 2) class)) (record { name = name (n + 4) letters; value = None } ∷ [])

-- `boolean x`
abbrev pub truth_variable : ℕ → List ℕ → Declaration
truth_variable n letters = Variables (type_name.Boolean (token n)) (record { name = name (n + 1) letters; value = None } ∷ [])

-- `procedure x; ;`, without parameters
abbrev pub plain_procedure : ℕ → List ℕ → Declaration
plain_procedure n letters =
    DeclareProcedure None n (record { name = name (n + 1) letters; formals = []; modes = []; specifications = [] }) (Empty (n + 3)) (n + 3)

-- `x :- value`
abbrev pub refer : Expression → ℕ → Expression → Statement
refer left n value = Assign left (record { sign = assignment.Reference; token = n; value = value } ∷ [])

abbrev pub new : ℕ → List ℕ → Expression
new n letters = New n (name (n + 1) letters) NoMore

-- `prefix begin .. end`, a program with a prefix
abbrev pub prefixed_source : List ℕ → List Declaration → List Statement → (end : ℕ) → Checked
prefixed_source prefix ds ss end =
    answer (end + 1) (record { prefix = Some (record { class = name 0 prefix; arguments = NoMore }); block = Begin 1 (declarations ds) (statements ss) end })

pub record Classes : Type 0 where
  -- S2, prefix is no class of this block:  begin b class a; ; end  and  begin class b; ; b class a; ; end
  --                                             1
  pub no_prefix : Refuses r.PrefixIsNoClass 1 (source (subclass 1 b a plain (Empty 5) 5 ∷ []) [] 6)
  pub a_prefix : Allows (source (class 1 b plain (Empty 4) 4 ∷ subclass 5 b a plain (Empty 9) 9 ∷ []) [] 10)
  -- S3, class in its own prefix chain:  begin a class a; ; end
  --                                                    3
  pub its_own_prefix : Refuses r.ClassInItsOwnChain 3 (source (subclass 1 a a plain (Empty 5) 5 ∷ []) [] 6)
  -- .. and  begin class a; ; a class b; ; b class c; ; end
  pub a_chain_of_prefixes : Allows (source (class 1 a plain (Empty 4) 4 ∷ subclass 5 a b plain (Empty 9) 9 ∷ subclass 10 b c plain (Empty 14) 14 ∷ []) [] 15)
  -- S6, inner out of place:  begin class a; inner; end  and  begin class a; begin inner end; end
  --                                         4
  pub inner_alone : Refuses r.InnerOutOfPlace 4 (source (class 1 a plain (Inner 4) 5 ∷ []) [] 6)
  pub an_inner : Allows (source (class 1 a plain (body 4 [] (Inner 5 ∷ []) 6) 7 ∷ []) [] 8)
  -- S7, qualification is no class:  begin ref(b) a; end  and  begin class b; ; ref(b) a; end
  --                                           3
  pub no_qualification : Refuses r.QualificationIsNoClass 3 (source (reference 1 b a ∷ []) [] 7)
  pub a_qualification : Allows (source (class 1 b plain (Empty 4) 4 ∷ reference 5 b a ∷ []) [] 11)
  -- .. and inside a connection:  begin class a; ; class c; begin integer a; end; ref(c) b; inspect b do begin ref(a) p; end end
  --                                                                                                               26
  pub an_attribute_of_the_connected : Refuses r.QualificationIsNoClass 26 (source (class 1 a plain (Empty 4) 4 ∷ class 5 c plain (body 8 (variable 9 a ∷ []) [] 12) 13 ∷ reference 14 c b ∷ []) (Inspect 20 (alone 21 b) 22 (body 23 (reference 24 a p ∷ []) [] 30) 31 NoStatement ∷ []) 31)
  -- S8, match does not fit its virtual:  begin class a; virtual: procedure p; ; a class b; begin integer p; end; end
  --                                                                                                       16
  pub no_match : Refuses r.MatchDoesNotFit 16 (source (class 1 a (with_virtual 6 p) (Empty 9) 9 ∷ subclass 10 a b plain (body 14 (variable 15 p ∷ []) [] 18) 19 ∷ []) [] 20)
  pub a_match : Allows (source (class 1 a (with_virtual 6 p) (Empty 9) 9 ∷ subclass 10 a b plain (body 14 (plain_procedure 15 p ∷ []) [] 19) 20 ∷ []) [] 21)
  -- S9, protection of no such attribute:  begin class a; protected b; ; end  and  begin class a; protected b; begin integer b; end; end
  --                                                                5
  pub no_attribute : Refuses r.ProtectionOfNoAttribute 5 (source (class 1 a (with_protection 4 b) (Empty 7) 7 ∷ []) [] 8)
  pub an_attribute : Allows (source (class 1 a (with_protection 4 b) (body 7 (variable 8 b ∷ []) [] 11) 12 ∷ []) [] 13)
  -- .. and  begin class a; hidden b; begin integer b; end; end
  --                               5
  pub not_protected : Refuses r.ProtectionOfNoAttribute 5 (source (class 1 a (with_hiding 4 b) (body 7 (variable 8 b ∷ []) [] 11) 12 ∷ []) [] 13)
  -- S11, attribute not accessible here:  begin class a; protected b; begin integer b; end; ref(a) c; c.b := 1 end
  --                                                                                                    21
  pub not_accessible : Refuses r.NotAccessible 21 (source (class 1 a (with_protection 4 b) (body 7 (variable 8 b ∷ []) [] 11) 12 ∷ reference 13 a c ∷ []) (set (Dot 20 (alone 19 c) (name 21 b) NoMore) 22 (number 23 1) ∷ []) 24)
  pub accessible : Allows (source (class 1 a plain (body 4 (variable 5 b ∷ []) [] 8) 9 ∷ reference 10 a c ∷ []) (set (Dot 17 (alone 16 c) (name 18 b) NoMore) 19 (number 20 1) ∷ []) 21)
  -- S16, qualifications on different chains:  begin class a; ; class b; ; ref(a) c; c :- new b end  and  .. new a end
  --                                                                                      17
  pub another_chain : Refuses r.DifferentChains 17 (source (class 1 a plain (Empty 4) 4 ∷ class 5 b plain (Empty 8) 8 ∷ reference 9 a c ∷ []) (refer (alone 15 c) 16 (new 17 b) ∷ []) 19)
  pub the_same_class : Allows (source (class 1 a plain (Empty 4) 4 ∷ class 5 b plain (Empty 8) 8 ∷ reference 9 a c ∷ []) (refer (alone 15 c) 16 (new 17 a) ∷ []) 19)
  -- S17, class with classes accessed from outside:  begin class a; begin class b; ; end; ref(a) c; inspect c do end
  --                                                                                                17
  pub class_with_classes : Refuses r.ClassWithClasses 17 (source (class 1 a plain (body 4 (class 5 b plain (Empty 8) 8 ∷ []) [] 9) 10 ∷ reference 11 a c ∷ []) (Inspect 17 (alone 18 c) 19 (Empty 20) 20 NoStatement ∷ []) 20)
  pub class_without : Allows (source (class 1 a plain (Empty 4) 4 ∷ reference 5 a c ∷ []) (Inspect 11 (alone 12 c) 13 (Empty 14) 14 NoStatement ∷ []) 14)
  -- What is connected is seen in front of what is outside:  begin boolean b; class a; begin integer b; end; ref(a) c; inspect c do b := true end
  --                                                                                                                                          24
  pub seen_inside : Refuses r.WrongType 24 (source (truth_variable 1 b ∷ class 4 a plain (body 7 (variable 8 b ∷ []) [] 11) 12 ∷ reference 13 a c ∷ []) (Inspect 19 (alone 20 c) 21 (set (alone 22 b) 23 (truth 24)) 25 NoStatement ∷ []) 25)
  -- .. and with  inspect c when a do b := 1 end
  pub seen_in_an_arm : Allows (source (truth_variable 1 b ∷ class 4 a plain (body 7 (variable 8 b ∷ []) [] 11) 12 ∷ reference 13 a c ∷ []) (InspectWhen 19 (alone 20 c) (When 21 (name 22 a) 23 (set (alone 24 b) 25 (number 26 1)) 27 NoArm) NoStatement ∷ []) 27)
  -- S18, this outside its class:  begin class a; ; ref(a) c; c :- this a end  and  begin class a; begin ref(a) c; c :- this a end; end
  --                                                                    14
  pub this_outside : Refuses r.ThisOutsideItsClass 14 (source (class 1 a plain (Empty 4) 4 ∷ reference 5 a c ∷ []) (refer (alone 11 c) 12 (This 13 (name 14 a)) ∷ []) 15)
  pub this_inside : Allows (source (class 1 a plain (body 4 (reference 5 a c ∷ []) (refer (alone 11 c) 12 (This 13 (name 14 a)) ∷ []) 15) 16 ∷ []) [] 17)
  -- S20, activation outside a simulation:  begin class a; ; ref(a) c; activate c end  and  simulation begin process class a; ; ref(a) c; activate c end
  --                                                                    11
  pub no_simulation : Refuses r.ActivationOutsideSimulation 11 (source (class 1 a plain (Empty 4) 4 ∷ reference 5 a c ∷ []) (Activate 11 activation.Activate (alone 12 c) Now ∷ []) 13)
  pub a_simulation : Allows (prefixed_source (codes "simulation") (subclass 2 (codes "process") a plain (Empty 6) 6 ∷ reference 7 a c ∷ []) (Activate 13 activation.Activate (alone 14 c) Now ∷ []) 15)
  -- S21, class only for prefixing:  begin simulation class a; ; new a end  and  begin simset class a; ; new a end
  --                                                                 7
  pub only_a_prefix : Refuses r.OnlyForPrefixing 7 (source (subclass 1 (codes "simulation") a plain (Empty 5) 5 ∷ []) (Call (new 6 a) ∷ []) 8)
  pub a_generation : Allows (source (subclass 1 (codes "simset") a plain (Empty 5) 5 ∷ []) (Call (new 6 a) ∷ []) 8)

-- `type procedure x;`, with a body
abbrev pub function : TypeName → (n : ℕ) → List ℕ → Statement → (end : ℕ) → Declaration
function type n letters body end =
    DeclareProcedure (Some type) n (record { name = name (n + 1) letters; formals = []; modes = []; specifications = [] }) body end

abbrev pub referring : ℕ → List ℕ → TypeName
referring n class = type_name.Reference (token n) (name (n + 2) class)

-- `virtual: ref(x) procedure y;`, with `ref` at a token
abbrev pub with_typed_virtual : ℕ → (class letters : List ℕ) → Interface
with_typed_virtual n class letters = record { protections = []; virtuals = record { result = Some (referring n class); token = n + 4; names = name (n + 5) letters ∷ [] } ∷ [] }

-- `class a; begin class b; ; procedure p; ; end; ref(a) c;`, from the token 1 on
abbrev pub holding_a_class : List Declaration
holding_a_class = class 1 a plain (body 4 (class 5 b plain (Empty 8) 8 ∷ plain_procedure 9 p ∷ []) [] 13) 14 ∷ reference 15 a c ∷ []

-- Rules that hold together: at one token the first of the table is the answer, and an untyped part silences only types, numbers and kinds.
pub record Together : Type 0 where
  -- S12 in front of S22:  begin integer b; integer array a(1:b(1)); end
  --                                                          10
  pub kind_and_bound : Refuses r.WrongKind 10 (source (variable 1 b ∷ array 4 a (of 10 b (number 12 1 ∷ [])) ∷ []) [] 16)
  -- S15 in front of S17:  begin class a; begin class b; ; procedure p; ; end; ref(a) c; c.p(1) end
  --                                                                                       23
  pub number_and_classes : Refuses r.WrongNumber 23 (source holding_a_class (Call (Dot 22 (alone 21 c) (name 23 p) (expressions (number 25 1 ∷ []))) ∷ []) 27)
  -- S17 in front of N1, with  c.sin
  pub classes_and_name : Refuses r.ClassWithClasses 23 (source holding_a_class (Call (Dot 22 (alone 21 c) (name 23 (codes "sin")) NoMore) ∷ []) 24)
  -- S13 in front of S14:  begin integer a = 1; a :- 2 end
  --                                            6
  pub sign_and_constant : Refuses r.WrongType 6 (source (constant_of 1 a 1 ∷ []) (refer (alone 6 a) 7 (number 8 2) ∷ []) 9)
  -- The sign is judged whatever is assigned:  begin boolean a; a :- b end
  --                                                            4
  pub sign_alone : Refuses r.WrongType 4 (source (truth_variable 1 a ∷ []) (refer (alone 4 a) 5 (alone 6 b) ∷ []) 7)
  -- S23 with an untyped actual:  begin sysin(b) end
  --                                    1
  pub stream_with_untyped : Refuses r.StandardNameLeftOut 1 (source [] (Call (of 1 (codes "sysin") (alone 3 b ∷ [])) ∷ []) 5)
  -- S17 of an arm, whatever is inspected:  begin class a; begin class b; ; end; inspect 1 when a do end
  --                                                                             11
  pub arm_with_classes : Refuses r.ClassWithClasses 11 (source (class 1 a plain (body 4 (class 5 b plain (Empty 8) 8 ∷ []) [] 9) 10 ∷ []) (InspectWhen 11 (number 12 1) (When 13 (name 14 a) 15 (Empty 16) 16 NoArm) NoStatement ∷ []) 16)
  -- S17 of a class prefixed by `simset`:  begin simset class a; begin integer b; end; ref(a) c; c.b := 1 end
  --                                                                                               19
  pub classes_of_simset : Refuses r.ClassWithClasses 19 (source (subclass 1 (codes "simset") a plain (body 5 (variable 6 b ∷ []) [] 9) 10 ∷ reference 11 a c ∷ []) (set (Dot 18 (alone 17 c) (name 19 b) NoMore) 20 (number 21 1) ∷ []) 22)
  -- S7 of a constant:  begin ref(b) a = 1; end
  --                              3
  pub constant_of_no_class : Refuses r.QualificationIsNoClass 3 (source (Variables (referring 1 b) (record { name = name 5 a; value = Some (constant.Integer None (token 7) (pos 1)) } ∷ []) ∷ []) [] 9)
  -- S7 and no S8:  begin class b; ; class a; virtual: ref(q) procedure p; begin ref(b) procedure p; ; end; end
  --                                                       12
  pub unknown_virtual : Refuses r.QualificationIsNoClass 12 (source (class 1 b plain (Empty 4) 4 ∷ class 5 a (with_typed_virtual 10 q p) (body 17 (function (referring 18 b) 22 p (Empty 25) 25 ∷ []) [] 26) 27 ∷ []) [] 28)

-- `class a; ; a class b; ; a class c; ; class p; virtual: ref(a) procedure q; begin ref(b) procedure q; q :- new x; end; end`, from the token 1 on
abbrev pub match_with : List ℕ → Checked
match_with x =
    source (class 1 a plain (Empty 4) 4 ∷ subclass 5 a b plain (Empty 9) 9 ∷ subclass 10 a c plain (Empty 14) 14
    ∷ class 15 p (with_typed_virtual 20 a q) (body 27 (function (referring 28 b) 32 q (refer (alone 35 q) 36 (new 37 x)) 39 ∷ []) [] 40) 41 ∷ []) [] 42

-- The result of a procedure as a left side.
pub record Results : Type 0 where
  -- of a match it has the class of the match, and not that of the virtual: S16 at `new`
  pub another_class : Refuses r.DifferentChains 37 (match_with c)
  pub its_class : Allows (match_with b)
  -- Through a connection the identifier is an attribute:  begin class a; begin ref(a) c; integer procedure p; inspect c do p := 1; end; end
  --                                                                                                                        18
  pub through_a_connection : Refuses r.LeftSideIsNoVariable 18 (source (class 1 a plain (body 4 (reference 5 a c ∷ function (integer 11) 12 p (Inspect 15 (alone 16 c) 17 (set (alone 18 p) 19 (number 20 1)) 21 NoStatement) 21 ∷ []) [] 22) 23 ∷ []) [] 24)

-- What is seen of objects and classes.
pub record Objects : Type 0 where
  -- S2, a block prefixed by linkage or a class with it in its chain:  simset begin link begin end end  and  simset begin link class a; ; end
  --                                                                                2
  pub block_of_link : Refuses r.PrefixIsNoClass 2 (prefixed_source (codes "simset") [] (Prefixed (name 2 (codes "link")) NoMore (Begin 3 NoDeclaration NoStatement 4) ∷ []) 5)
  pub class_of_link : Allows (prefixed_source (codes "simset") (subclass 2 (codes "link") a plain (Empty 6) 6 ∷ []) [] 7)
  -- S10, `detach` outside classes:  begin detach end  and  begin class a; detach; end
  --                                       1
  pub detach_outside : Refuses r.NotDeclared 1 (source [] (Call (alone 1 (codes "detach")) ∷ []) 2)
  pub detach_inside : Allows (source (class 1 a plain (Call (alone 4 (codes "detach"))) 5 ∷ []) [] 6)
  -- A connection without a class shows none:  begin inspect none do detach end  and  begin class a; inspect none do detach; end
  --                                                                 4
  pub detach_of_nothing : Refuses r.NotDeclared 4 (source [] (Inspect 1 (Constant NoObject 2) 3 (Call (alone 4 (codes "detach"))) 5 NoStatement ∷ []) 5)
  pub detach_further_out : Allows (source (class 1 a plain (Inspect 4 (Constant NoObject 5) 6 (Call (alone 7 (codes "detach"))) 8 NoStatement) 8 ∷ []) [] 9)
  -- S11, hidden further in:  begin class a; protected b; begin integer b; end; a class c; hidden b; ; c class p; b := 1; end
  --                                                                                                              25
  pub hidden_further_in : Refuses r.NotAccessible 25 (source (class 1 a (with_protection 4 b) (body 7 (variable 8 b ∷ []) [] 11) 12 ∷ subclass 13 a c (with_hiding 17 b) (Empty 20) 20 ∷ subclass 21 c p plain (set (alone 25 b) 26 (number 27 1)) 28 ∷ []) [] 29)
  pub protected_further_in : Allows (source (class 1 a (with_protection 4 b) (body 7 (variable 8 b ∷ []) [] 11) 12 ∷ subclass 13 a c plain (Empty 17) 17 ∷ subclass 18 c p plain (set (alone 22 b) 23 (number 24 1)) 25 ∷ []) [] 26)
  -- S13, no reference is connected:  begin inspect 1 do end
  --                                                2
  pub a_number_connected : Refuses r.WrongType 2 (source [] (Inspect 1 (number 2 1) 3 (Empty 4) 4 NoStatement ∷ []) 4)
  -- S15, parameters of a prefix:  begin class a; ; a(1) begin end end
  --                                                5
  pub prefix_with_actuals : Refuses r.WrongNumber 5 (source (class 1 a plain (Empty 4) 4 ∷ []) (Prefixed (name 5 a) (expressions (number 7 1 ∷ [])) (Begin 9 NoDeclaration NoStatement 10) ∷ []) 11)
  -- S16 behind `when`:  begin class a; ; class b; ; ref(a) c; inspect c when b do end
  --                                                                          18
  pub arm_of_another_chain : Refuses r.DifferentChains 18 (source (class 1 a plain (Empty 4) 4 ∷ class 5 b plain (Empty 8) 8 ∷ reference 9 a c ∷ []) (InspectWhen 15 (alone 16 c) (When 17 (name 18 b) 19 (Empty 20) 20 NoArm) NoStatement ∷ []) 20)
  -- .. and with `b` a subclass of `a`
  pub arm_of_a_subclass : Allows (source (class 1 a plain (Empty 4) 4 ∷ subclass 5 a b plain (Empty 9) 9 ∷ reference 10 a c ∷ []) (InspectWhen 16 (alone 17 c) (When 18 (name 19 b) 20 (Empty 21) 21 NoArm) NoStatement ∷ []) 21)
  -- S16, no process is activated:  simulation begin class a; ; ref(a) c; activate c end
  --                                                                               13
  pub no_process : Refuses r.DifferentChains 13 (prefixed_source (codes "simulation") (class 2 a plain (Empty 5) 5 ∷ reference 6 a c ∷ []) (Activate 12 activation.Activate (alone 13 c) Now ∷ []) 14)
  -- S17 behind a dot:  begin class a; begin class b; ; integer p; end; ref(a) c; c.p := 1 end
  --                                                                                22
  pub remote_class_with_classes : Refuses r.ClassWithClasses 22 (source (class 1 a plain (body 4 (class 5 b plain (Empty 8) 8 ∷ variable 9 p ∷ []) [] 12) 13 ∷ reference 14 a c ∷ []) (set (Dot 21 (alone 20 c) (name 22 p) NoMore) 23 (number 24 1) ∷ []) 25)
  -- A virtual without a match is called:  begin class a; virtual: procedure p; ; ref(a) c; c.p end
  pub virtual_called : Allows (source (class 1 a (with_virtual 6 p) (Empty 9) 9 ∷ reference 10 a c ∷ []) (Call (Dot 17 (alone 16 c) (name 18 p) NoMore) ∷ []) 19)

-- Where identifiers are found, by the numbers of blocks: 0 is that of the program, the others follow in the order in which they begin.
abbrev pub block_found : Checked → (token : ℕ) → Option ℕ
block_found (Refused x) token = None
block_found (Allowed tables uses found_in types) token = joined (slice_get found_in token)

pub record Places : Type 0 where
  -- in a connection:  begin class a; begin integer b; end; ref(a) c; inspect c do b := 1 end
  --                                                                          17   19
  pub connected : let checked = source (class 1 a plain (body 4 (variable 5 b ∷ []) [] 8) 9 ∷ reference 10 a c ∷ []) (Inspect 16 (alone 17 c) 18 (set (alone 19 b) 20 (number 21 1)) 22 NoStatement ∷ []) 22 in
      (block_found checked 17 ≡ Some 0) × (block_found checked 19 ≡ Some 2)
  -- in the levels of a class:  begin class a; begin integer b; end; a class c; b := 1; end
  --                                                                          14
  pub inherited : block_found (source (class 1 a plain (body 4 (variable 5 b ∷ []) [] 8) 9 ∷ subclass 10 a c plain (set (alone 14 b) 15 (number 16 1)) 17 ∷ []) [] 18) 14 ≡ Some 2
  -- the object of `this`:  begin class a; begin ref(a) c; c :- this a end; end
  --                                                       11   13   14
  pub object : let checked = source (class 1 a plain (body 4 (reference 5 a c ∷ []) (refer (alone 11 c) 12 (This 13 (name 14 a)) ∷ []) 15) 16 ∷ []) [] 17 in
      (block_found checked 11 ≡ Some 1) × (block_found checked 13 ≡ Some 1) × (block_found checked 14 ≡ Some 0)

-- The standard names that are left out:  begin integer a; a := sqrt end  and  begin integer sqrt; sqrt := 1 end
--                                                              6
abbrev pub used : List ℕ → Checked
used letters = source (variable 1 a ∷ []) (set (alone 4 a) 5 (alone 6 letters) ∷ []) 7

abbrev pub own : List ℕ → Checked
own letters = source (variable 1 letters ∷ []) (set (alone 4 letters) 5 (number 6 1) ∷ []) 7

pub record LeftOut : Type 0 where
  pub real_function : Refuses r.RealFunction 6 (used (codes "sqrt"))
  pub own_real_function : Allows (own (codes "sqrt"))
  pub drawing : Refuses r.RandomDrawing 6 (used (codes "uniform"))
  pub own_drawing : Allows (own (codes "uniform"))
  pub layout : Refuses r.FileOrLayout 6 (used (codes "eject"))
  pub own_layout : Allows (own (codes "eject"))
  pub environment : Refuses r.EnvironmentName 6 (used (codes "cputime"))
  pub own_environment : Allows (own (codes "cputime"))

pub record WorkedRules : Type 0 where
  pub declared : Declared
  pub bodies : Bodies
  pub classes : Classes
  pub together : Together
  pub results : Results
  pub objects : Objects
  pub places : Places
  pub left_out : LeftOut
