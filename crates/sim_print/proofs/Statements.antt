-- The tokens of statements, blocks and declarations, construct by construct.
use Rattle.std.proofs.Common.{◌≡◌, ◌<◌, ◌+◌, ℕ, List, [], ◌∷◌, ◌++◌, Option, Some, None, refl, sym, ap, ◌∙◌, map, length, subst, append-nil, append_assoc}
use Rattle.std.specs.Prelude.{slice_index_or}
use Rattle.std.specs.declared.alloc.Global.{Global}
use Rattle.std.specs.declared.boxed.Box.{Box}
use Rattle.std.specs.declared.vec.Vec.{Vec}
use Rattle.sim_base.specs.declared.numbering.TokenNo.{TokenNo}
use Rattle.sim_base.specs.declared.token.Lexeme.{Lexeme}
use Rattle.sim_base.specs.declared.token.TokenKind.{TokenKind}
use Rattle.sim_base.specs.declared.token.TokenKind.TheVariants as k
use Rattle.sim_tree.specs.declared.expr.Expr.{Expr}
use Rattle.sim_tree.specs.declared.expr.Identifier.{Identifier}
use Rattle.sim_tree.specs.declared.program.BlockPrefix.{BlockPrefix}
use Rattle.sim_tree.specs.declared.stmt.Activation.{Activation}
use Rattle.sim_tree.specs.declared.stmt.ArraySegment.{ArraySegment}
use Rattle.sim_tree.specs.declared.stmt.Assigned.{Assigned}
use Rattle.sim_tree.specs.declared.stmt.Block.{Block}
use Rattle.sim_tree.specs.declared.stmt.Class.{Class}
use Rattle.sim_tree.specs.declared.stmt.Decl.{Decl}
use Rattle.sim_tree.specs.declared.stmt.Decl.TheVariants as d
use Rattle.sim_tree.specs.declared.stmt.ForElement.{ForElement}
use Rattle.sim_tree.specs.declared.stmt.ModePart.{ModePart}
use Rattle.sim_tree.specs.declared.stmt.Procedure.{Procedure}
use Rattle.sim_tree.specs.declared.stmt.Protection.{Protection}
use Rattle.sim_tree.specs.declared.stmt.ReferenceElement.{ReferenceElement}
use Rattle.sim_tree.specs.declared.stmt.Specification.{Specification}
use Rattle.sim_tree.specs.declared.stmt.Stmt.{Stmt}
use Rattle.sim_tree.specs.declared.stmt.Stmt.TheVariants as s
use Rattle.sim_tree.specs.declared.stmt.Timing.{Timing}
use Rattle.sim_tree.specs.declared.stmt.TypeName.{TypeName}
use Rattle.sim_tree.specs.declared.stmt.Variable.{Variable}
use Rattle.sim_tree.specs.declared.stmt.VirtualSpecification.{VirtualSpecification}
use Rattle.sim_tree.specs.declared.stmt.When.{When}
use Rattle.sim_tree.specs.ProgramDerivation.{activation_kind}
use Rattle.sim_tree.specs.Syntax.{Declaration, Statement, declarations, expressions, statements}
use Rattle.sim_tree.specs.SyntaxOf.{syntax_of}
use Rattle.sim_tree.specs.SyntaxOfProgram.{arms, arm_syntax, block_syntax, branch_syntax, declaration_syntax, protection_syntax, right_side_syntax, statement_syntax, virtual_syntax}
use Rattle.sim_tree.proofs.ProgramSyntaxLemmas as v
use Rattle.sim_print.specs.Laid.{LaidOut, Owes, Prints}
use Rattle.sim_print.specs.Spelling.{each}
use Rattle.sim_print.specs.Tokens as t
use Rattle.sim_print.specs.Tokens.{name, one}
use Rattle.sim_print.specs.Trees.{arm_tokens, before_semicolon, behind_semicolon, of_arm, of_assigned, of_block, of_branch, of_class_prefix, of_declaration, of_elements, of_expr, of_heading, of_prefix, of_protection, of_reference_elements, of_result, of_segments, of_statement, of_statements, of_timing, of_type, of_variables, of_virtuals, of_actuals}
use Rattle.sim_print.proofs.Steps.{both, five, four, none, owes_all, owes_end, owes_from, owes_next, prints_as, six, three}

tokens_at : (x : Stmt) (z : Statement) → statement_syntax x ≡ z → t.statement z ≡ of_statement x
unfolding of_statement
tokens_at x z e = ap t.statement (sym e)

plainly : (a b : LaidOut) (x : Expr) → Prints a b (of_expr x) → Prints a b (t.expression (syntax_of x))
unfolding of_expr
plainly a b x h = h

body : (a b : LaidOut) (y z : Stmt) → y ≡ z → Prints a b (of_statement y) → Prints a b (t.statement (statement_syntax z))
unfolding of_statement
body a b y z e h = subst (λ w. Prints a b (of_statement w)) e h

branched : (kind : TokenKind) (a b : LaidOut) (o : Option (Box Stmt Global)) → Prints a b (of_branch kind o) → Prints a b (t.branch kind (branch_syntax o))
unfolding of_branch
branched kind a b o h = h

blocked : (a b : LaidOut) (q : Block) → Prints a b (of_block q) → Prints a b (t.block (block_syntax q))
unfolding of_block
blocked a b q h = h

pub print_empty : (a : LaidOut) (x : Stmt) (i : TokenNo) → x ≡ s.Empty i → Prints a a (of_statement x)
print_empty a x i is = prints_as a a [] _ (tokens_at x _ (ap statement_syntax is ∙ v.syntax-Empty i)) (none a)

pub print_inner : (a b : LaidOut) (x : Stmt) (i : TokenNo) → x ≡ s.Inner i → Prints a b (one k.Inner) → Prints a b (of_statement x)
print_inner a b x i is h = prints_as a b _ _ (tokens_at x _ (ap statement_syntax is ∙ v.syntax-Inner i)) h

pub print_compound : (a b : LaidOut) (x : Stmt) (q : Block) → x ≡ s.Block q → Prints a b (of_block q) → Prints a b (of_statement x)
print_compound a b x q is h = prints_as a b _ _ (tokens_at x _ (ap statement_syntax is ∙ v.syntax-Block q)) (blocked a b q h)

prefix_of : (p : BlockPrefix) (rest : List Lexeme) → of_prefix p ++ rest ≡ name p.class ++ (t.actuals (expressions (map syntax_of p.arguments.items)) ++ rest)
unfolding of_prefix of_actuals
prefix_of p rest = refl

pub print_prefixed : (a b c : LaidOut) (x : Stmt) (p : BlockPrefix) (q : Block) → x ≡ s.PrefixedBlock p q → Prints a b (of_prefix p) → Prints b c (of_block q) → Prints a c (of_statement x)
print_prefixed a b c x p q is f h =
    prints_as a c _ _ (prefix_of p (t.block (block_syntax q)) ∙ tokens_at x _ (ap statement_syntax is ∙ v.syntax-PrefixedBlock p q)) (both a b c _ _ f (blocked b c q h))

pub print_call : (a b : LaidOut) (x : Stmt) (y : Expr) → x ≡ s.Call y → Prints a b (of_expr y) → Prints a b (of_statement x)
print_call a b x y is f = prints_as a b _ _ (tokens_at x _ (ap statement_syntax is ∙ v.syntax-Call y)) (plainly a b y f)

in_right : (l : List Assigned) → each of_assigned l ≡ each t.right_side (map right_side_syntax l)
unfolding of_assigned
in_right [] = refl
in_right (x ∷ xs) = ap (λ z. of_assigned x ++ z) (in_right xs)

pub print_assignment : (a b c : LaidOut) (x : Stmt) (y : Expr) (l : Vec Assigned Global) (rs : List Assigned) → x ≡ s.Assignment y l → rs ≡ l.items → Prints a b (of_expr y) → Prints b c (each of_assigned rs) → Prints a c (of_statement x)
print_assignment a b c x y l rs is er f g =
    prints_as a c _ _ (tokens_at x _ (ap statement_syntax is ∙ v.syntax-Assignment y l))
    (both a b c _ _ (plainly a b y f) (prints_as b c _ _ (ap (each of_assigned) er ∙ in_right l.items) g))

pub print_choose : (a b c d m n : LaidOut) (x z : Stmt) (i : TokenNo) (y : Expr) (q : Box Stmt Global) (o : Option (Box Stmt Global)) → x ≡ s.If i y q o → z ≡ q.value
    → Prints a b (one k.If) → Prints b c (of_expr y) → Prints c d (one k.Then) → Prints d m (of_statement z) → Prints m n (of_branch k.Else o) → Prints a n (of_statement x)
print_choose a b c d m n x z i y q o is ez f g h j p =
    prints_as a n _ _ (tokens_at x _ (ap statement_syntax is ∙ v.syntax-If i y q o))
    (five a b c d m n _ _ _ _ _ f (plainly b c y g) h (body d m z q.value ez j) (branched k.Else m n o p))

pub print_while : (a b c d m : LaidOut) (x z : Stmt) (i : TokenNo) (y : Expr) (q : Box Stmt Global) → x ≡ s.While i y q → z ≡ q.value
    → Prints a b (one k.While) → Prints b c (of_expr y) → Prints c d (one k.Do) → Prints d m (of_statement z) → Prints a m (of_statement x)
print_while a b c d m x z i y q is ez f g h j =
    prints_as a m _ _ (tokens_at x _ (ap statement_syntax is ∙ v.syntax-While i y q)) (four a b c d m _ _ _ _ f (plainly b c y g) h (body d m z q.value ez j))

elements_of : (a b : LaidOut) (xs ys : List ForElement) → xs ≡ ys → Prints a b (of_elements xs) → Prints a b (of_elements ys)
elements_of a b xs ys e h = subst (λ z. Prints a b (of_elements z)) e h

abbrev for_tokens : (n : Identifier) (l : List ForElement) (rest : List Lexeme) → List Lexeme
for_tokens n l rest = one k.For ++ (name n ++ (one k.Assign ++ (of_elements l ++ rest)))

for_at : (x : Stmt) (i : TokenNo) (n : Identifier) (j : TokenNo) (l : Vec ForElement Global) (q : Box Stmt Global) → x ≡ s.For i n j l q → for_tokens n l.items (one k.Do ++ t.statement (statement_syntax q.value)) ≡ of_statement x
unfolding of_elements
for_at x i n j l q is = tokens_at x _ (ap statement_syntax is ∙ v.syntax-For i n j l q)

pub print_for : (a b c d m n p : LaidOut) (x z : Stmt) (i : TokenNo) (w : Identifier) (j : TokenNo) (l : Vec ForElement Global) (es : List ForElement) (q : Box Stmt Global) → x ≡ s.For i w j l q → es ≡ l.items → z ≡ q.value
    → Prints a b (one k.For) → Prints b c (name w) → Prints c d (one k.Assign) → Prints d m (of_elements es) → Prints m n (one k.Do) → Prints n p (of_statement z) → Prints a p (of_statement x)
print_for a b c d m n p x z i w j l es q is ee ez f g h r u y =
    prints_as a p _ _ (for_at x i w j l q is) (six a b c d m n p _ _ _ _ _ _ f g h (elements_of d m es l.items ee r) u (body n p z q.value ez y))

reference_elements_of : (a b : LaidOut) (xs ys : List ReferenceElement) → xs ≡ ys → Prints a b (of_reference_elements xs) → Prints a b (of_reference_elements ys)
reference_elements_of a b xs ys e h = subst (λ z. Prints a b (of_reference_elements z)) e h

abbrev for_reference_tokens : (n : Identifier) (l : List ReferenceElement) (rest : List Lexeme) → List Lexeme
for_reference_tokens n l rest = one k.For ++ (name n ++ (one k.AssignReference ++ (of_reference_elements l ++ rest)))

for_reference_at : (x : Stmt) (i : TokenNo) (n : Identifier) (j : TokenNo) (l : Vec ReferenceElement Global) (q : Box Stmt Global) → x ≡ s.ForReference i n j l q
    → for_reference_tokens n l.items (one k.Do ++ t.statement (statement_syntax q.value)) ≡ of_statement x
unfolding of_reference_elements
for_reference_at x i n j l q is = tokens_at x _ (ap statement_syntax is ∙ v.syntax-ForReference i n j l q)

pub print_for_reference : (a b c d m n p : LaidOut) (x z : Stmt) (i : TokenNo) (w : Identifier) (j : TokenNo) (l : Vec ReferenceElement Global) (es : List ReferenceElement) (q : Box Stmt Global) → x ≡ s.ForReference i w j l q → es ≡ l.items → z ≡ q.value
    → Prints a b (one k.For) → Prints b c (name w) → Prints c d (one k.AssignReference) → Prints d m (of_reference_elements es) → Prints m n (one k.Do) → Prints n p (of_statement z) → Prints a p (of_statement x)
print_for_reference a b c d m n p x z i w j l es q is ee ez f g h r u y =
    prints_as a p _ _ (for_reference_at x i w j l q is) (six a b c d m n p _ _ _ _ _ _ f g h (reference_elements_of d m es l.items ee r) u (body n p z q.value ez y))

pub print_inspect : (a b c d m n : LaidOut) (x z : Stmt) (i : TokenNo) (y : Expr) (j : TokenNo) (q : Box Stmt Global) (l : TokenNo) (o : Option (Box Stmt Global)) → x ≡ s.Inspect i y j q l o → z ≡ q.value
    → Prints a b (one k.Inspect) → Prints b c (of_expr y) → Prints c d (one k.Do) → Prints d m (of_statement z) → Prints m n (of_branch k.Otherwise o) → Prints a n (of_statement x)
print_inspect a b c d m n x z i y j q l o is ez f g h r p =
    prints_as a n _ _ (tokens_at x _ (ap statement_syntax is ∙ v.syntax-Inspect i y j q l o))
    (five a b c d m n _ _ _ _ _ f (plainly b c y g) h (body d m z q.value ez r) (branched k.Otherwise m n o p))

in_arms : (l : List When) → each of_arm l ≡ t.arms (arms (map arm_syntax l))
unfolding of_arm
in_arms [] = refl
in_arms (w ∷ ws) =
    let a = arm_syntax w in
    append_assoc (one k.When) (name a.class ++ (one k.Do ++ t.statement a.body)) (each of_arm ws)
    ∙ ap (λ z. one k.When ++ (name a.class ++ (one k.Do ++ z))) (ap (λ z. t.statement a.body ++ z) (in_arms ws))

pub print_inspect_when : (a b c d m : LaidOut) (x : Stmt) (i : TokenNo) (y : Expr) (l : Vec When Global) (ws : List When) (o : Option (Box Stmt Global)) → x ≡ s.InspectWhen i y l o → ws ≡ l.items
    → Prints a b (one k.Inspect) → Prints b c (of_expr y) → Prints c d (each of_arm ws) → Prints d m (of_branch k.Otherwise o) → Prints a m (of_statement x)
print_inspect_when a b c d m x i y l ws o is ew f g h j =
    prints_as a m _ _ (tokens_at x _ (ap statement_syntax is ∙ v.syntax-InspectWhen i y l o))
    (four a b c d m _ _ _ _ f (plainly b c y g) (prints_as c d _ _ (ap (each of_arm) ew ∙ in_arms l.items) h) (branched k.Otherwise d m o j))

timed : (a b : LaidOut) (o : Option Timing) (n : List Lexeme) → of_timing o ≡ n → Prints a b (of_timing o) → Prints a b n
timed a b o n e h = prints_as a b _ _ e h

activation_at : (x : Stmt) (i : TokenNo) (w : Activation) (y : Expr) (o : Option Timing) → x ≡ s.Activation i w y o → one (activation_kind w) ++ (t.expression (syntax_of y) ++ of_timing o) ≡ of_statement x
unfolding of_timing
activation_at x i w y o is = tokens_at x _ (ap statement_syntax is ∙ v.syntax-Activation i w y o)

pub print_activation : (a b c d : LaidOut) (x : Stmt) (i : TokenNo) (w : Activation) (y : Expr) (o : Option Timing) → x ≡ s.Activation i w y o
    → Prints a b (one (activation_kind w)) → Prints b c (of_expr y) → Prints c d (of_timing o) → Prints a d (of_statement x)
print_activation a b c d x i w y o is f g h = prints_as a d _ _ (activation_at x i w y o is) (three a b c d _ _ _ f (plainly b c y g) h)

branch_from : (kind : TokenKind) (o : Option (Box Stmt Global)) (q : Box Stmt Global) → o ≡ Some q → one kind ++ t.statement (statement_syntax q.value) ≡ of_branch kind o
unfolding of_branch
branch_from kind o q is = ap (λ z. one kind ++ z) (sym (append-nil (t.statement (statement_syntax q.value)))) ∙ sym (ap (λ z. t.branch kind (branch_syntax z)) is)

pub print_branch : (kind : TokenKind) (a b c : LaidOut) (o : Option (Box Stmt Global)) (q : Box Stmt Global) (y : Stmt) → o ≡ Some q → y ≡ q.value → Prints a b (one kind) → Prints b c (of_statement y) → Prints a c (of_branch kind o)
print_branch kind a b c o q y is same f g = prints_as a c _ _ (branch_from kind o q is) (both a b c _ _ f (body b c y q.value same g))

pub print_no_branch : (kind : TokenKind) (a : LaidOut) (o : Option (Box Stmt Global)) → o ≡ None → Prints a a (of_branch kind o)
unfolding of_branch
print_no_branch kind a o is = prints_as a a [] _ (sym (ap (λ z. t.branch kind (branch_syntax z)) is)) (none a)

arm_from : (w : When) → one k.When ++ (name w.class ++ (one k.Do ++ of_statement w.body)) ≡ of_arm w
unfolding of_arm of_statement
arm_from w = ap arm_tokens (sym (v.syntax-when w.token w.class w.opening w.body w.end))

pub owes_arm : (a b c d m n : LaidOut) (u : List Lexeme) (xs : List When) (i : ℕ) (x : When) → Owes of_arm a u xs b i → i < length xs → x ≡ slice_index_or xs i x
    → Prints b c (one k.When) → Prints c d (name x.class) → Prints d m (one k.Do) → Prints m n (of_statement x.body) → Owes of_arm a u xs n (i + 1)
owes_arm a b c d m n u xs i x owes le is f g h j = owes_next of_arm a b n u xs i x owes le is (prints_as b n _ _ (arm_from x) (four b c d m n _ _ _ _ f g h j))

-- ---- blocks and declarations

in_further : (l : List Stmt) → each behind_semicolon l ≡ t.further_statements (statements (map statement_syntax l))
unfolding of_statement
in_further [] = refl
in_further (x ∷ xs) = ap (λ z. one k.Semicolon ++ (t.statement (statement_syntax x) ++ z)) (in_further xs)

in_statements : (l : List Stmt) → of_statements l ≡ t.statements (statements (map statement_syntax l))
unfolding of_statements of_statement
in_statements [] = refl
in_statements (x ∷ xs) = ap (λ z. t.statement (statement_syntax x) ++ z) (in_further xs)

in_declarations : (l : List Decl) → each before_semicolon l ≡ t.declarations (declarations (map declaration_syntax l))
unfolding of_declaration
in_declarations [] = refl
in_declarations (x ∷ xs) =
    append_assoc (t.declaration (declaration_syntax x)) (one k.Semicolon) (each before_semicolon xs)
    ∙ ap (λ z. t.declaration (declaration_syntax x) ++ (one k.Semicolon ++ z)) (in_declarations xs)

block_from : (q : Block) → one k.Begin ++ (each before_semicolon q.declarations.items ++ (of_statements q.statements.items ++ one k.End)) ≡ of_block q
unfolding of_block
block_from q =
    ap (λ z. one k.Begin ++ (z ++ (of_statements q.statements.items ++ one k.End))) (in_declarations q.declarations.items)
    ∙ ap (λ z. one k.Begin ++ (t.declarations (declarations (map declaration_syntax q.declarations.items)) ++ (z ++ one k.End))) (in_statements q.statements.items)
    ∙ sym (ap t.block (v.syntax-block q.token q.declarations q.statements q.end))

pub print_block : (a b c d m : LaidOut) (q : Block) (ds : List Decl) (l : List Stmt) → ds ≡ q.declarations.items → l ≡ q.statements.items
    → Prints a b (one k.Begin) → Prints b c (each before_semicolon ds) → Prints c d (of_statements l) → Prints d m (one k.End) → Prints a m (of_block q)
print_block a b c d m q ds l there same f g h j =
    prints_as a m _ _ (block_from q) (four a b c d m _ _ _ _ f (prints_as b c _ _ (ap (each before_semicolon) there) g) (prints_as c d _ _ (ap of_statements same) h) j)

statements_from : (l xs : List Stmt) (x : Stmt) → l ≡ x ∷ xs → of_statement x ++ each behind_semicolon xs ≡ of_statements l
unfolding of_statements
statements_from l xs x is = sym (ap of_statements is)

pub owes_statements : (a b : LaidOut) (l xs : List Stmt) (x : Stmt) → l ≡ x ∷ xs → Prints a b (of_statement x) → Owes behind_semicolon a (of_statements l) xs b 0
owes_statements a b l xs x is h = owes_from behind_semicolon a b (of_statement x) (of_statements l) xs (statements_from l xs x is) h

pub print_no_statements : (a : LaidOut) (l : List Stmt) → length l ≡ 0 → Prints a a (of_statements l)
unfolding of_statements
print_no_statements a [] e = none a
print_no_statements a (x ∷ xs) e = absurd (cc)

pub owes_statement : (a b m c : LaidOut) (u : List Lexeme) (xs : List Stmt) (i : ℕ) (x : Stmt) → Owes behind_semicolon a u xs b i → i < length xs → x ≡ slice_index_or xs i x
    → Prints b m (one k.Semicolon) → Prints m c (of_statement x) → Owes behind_semicolon a u xs c (i + 1)
owes_statement a b m c u xs i x owes le is f g = owes_next behind_semicolon a b c u xs i x owes le is (both b m c _ _ f g)

pub owes_declaration : (a b m c : LaidOut) (u : List Lexeme) (xs : List Decl) (i : ℕ) (x : Decl) → Owes before_semicolon a u xs b i → i < length xs → x ≡ slice_index_or xs i x
    → Prints b m (of_declaration x) → Prints m c (one k.Semicolon) → Owes before_semicolon a u xs c (i + 1)
owes_declaration a b m c u xs i x owes le is f g = owes_next before_semicolon a b c u xs i x owes le is (both b m c _ _ f g)

declaration_at : (x : Decl) (z : Declaration) → declaration_syntax x ≡ z → t.declaration z ≡ of_declaration x
unfolding of_declaration
declaration_at x z e = ap t.declaration (sym e)

variables_at : (x : Decl) (n : TypeName) (l : Vec Variable Global) → x ≡ d.Variables n l → of_type n ++ of_variables l.items ≡ of_declaration x
unfolding of_type of_variables
variables_at x n l is = declaration_at x _ (ap declaration_syntax is ∙ v.syntax-Variables n l)

pub print_variables : (a b c : LaidOut) (x : Decl) (n : TypeName) (l : Vec Variable Global) (vs : List Variable) → x ≡ d.Variables n l → vs ≡ l.items → Prints a b (of_type n) → Prints b c (of_variables vs) → Prints a c (of_declaration x)
print_variables a b c x n l vs is ev f g = prints_as a c _ _ (variables_at x n l is) (both a b c _ _ f (prints_as b c _ _ (ap of_variables ev) g))

arrays_at : (x : Decl) (n : TypeName) (i : TokenNo) (l : Vec ArraySegment Global) → x ≡ d.Arrays n i l → of_type n ++ (one k.Array ++ of_segments l.items) ≡ of_declaration x
unfolding of_type of_segments
arrays_at x n i l is = declaration_at x _ (ap declaration_syntax is ∙ v.syntax-Arrays n i l)

pub print_arrays : (a b c m : LaidOut) (x : Decl) (n : TypeName) (i : TokenNo) (l : Vec ArraySegment Global) (ss : List ArraySegment) → x ≡ d.Arrays n i l → ss ≡ l.items
    → Prints a b (of_type n) → Prints b c (one k.Array) → Prints c m (of_segments ss) → Prints a m (of_declaration x)
print_arrays a b c m x n i l ss is es f g h = prints_as a m _ _ (arrays_at x n i l is) (three a b c m _ _ _ f g (prints_as c m _ _ (ap of_segments es) h))

procedure_at : (x : Decl) (r : Option TypeName) (i : TokenNo) (q : Procedure) → x ≡ d.Procedure r i q
    → of_result r ++ (one k.Procedure ++ (of_heading q.name q.parameters.items q.modes.items q.specifications.items ++ t.statement (statement_syntax q.body.value))) ≡ of_declaration x
unfolding of_result of_heading
procedure_at x r i q is = declaration_at x _ (ap declaration_syntax is ∙ v.syntax-Procedure r i q ∙ v.syntax-procedure q.name q.parameters q.modes q.specifications q.body q.end r i.0)

heading_of : (a b : LaidOut) (n : Identifier) (xs xs' : List Identifier) (ms ms' : List ModePart) (ss ss' : List Specification) → xs ≡ xs' → ms ≡ ms' → ss ≡ ss' → Prints a b (of_heading n xs ms ss) → Prints a b (of_heading n xs' ms' ss')
heading_of a b n xs xs' ms ms' ss ss' ex em es h =
    prints_as a b _ _ (ap (λ z. of_heading n z ms ss) ex ∙ ap (λ z. of_heading n xs' z ss) em ∙ ap (λ z. of_heading n xs' ms' z) es) h

pub print_procedure : (a b c m n : LaidOut) (x : Decl) (r : Option TypeName) (i : TokenNo) (q : Procedure) (y : Stmt) (xs : List Identifier) (ms : List ModePart) (ss : List Specification) → x ≡ d.Procedure r i q → y ≡ q.body.value
    → xs ≡ q.parameters.items → ms ≡ q.modes.items → ss ≡ q.specifications.items
    → Prints a b (of_result r) → Prints b c (one k.Procedure) → Prints c m (of_heading q.name xs ms ss) → Prints m n (of_statement y) → Prints a n (of_declaration x)
print_procedure a b c m n x r i q y xs ms ss is same ex em es f g h j =
    prints_as a n _ _ (procedure_at x r i q is)
    (four a b c m n _ _ _ _ f g (heading_of c m q.name xs q.parameters.items ms q.modes.items ss q.specifications.items ex em es h) (body m n y q.body.value same j))

in_protections : (l : List Protection) → each of_protection l ≡ each t.protection_tokens (map protection_syntax l)
unfolding of_protection
in_protections [] = refl
in_protections (x ∷ xs) = ap (λ z. of_protection x ++ z) (in_protections xs)

class_at : (x : Decl) (r : Option Identifier) (i : TokenNo) (q : Class) → x ≡ d.Class r i q
    → of_class_prefix r ++ (one k.Class ++ (of_heading q.name q.parameters.items q.modes.items q.specifications.items
    ++ ((each of_protection q.protections.items ++ of_virtuals q.virtuals.items) ++ t.statement (statement_syntax q.body.value)))) ≡ of_declaration x
unfolding of_class_prefix of_heading of_virtuals
class_at x r i q is =
    ap (λ z. t.class_prefix r ++ (one k.Class ++ (of_heading q.name q.parameters.items q.modes.items q.specifications.items ++ ((z ++ t.virtual_part (map virtual_syntax q.virtuals.items)) ++ t.statement (statement_syntax q.body.value))))) (in_protections q.protections.items)
    ∙ declaration_at x _ (ap declaration_syntax is ∙ v.syntax-Class r i q ∙ v.syntax-class q.name q.parameters q.modes q.specifications q.protections q.virtuals q.body q.end r i.0)

pub print_class : (a b c m n p u : LaidOut) (x : Decl) (r : Option Identifier) (i : TokenNo) (q : Class) (y : Stmt) (xs : List Identifier) (ms : List ModePart) (ss : List Specification) (ps : List Protection) (vs : List VirtualSpecification)
    → x ≡ d.Class r i q → y ≡ q.body.value → xs ≡ q.parameters.items → ms ≡ q.modes.items → ss ≡ q.specifications.items → ps ≡ q.protections.items → vs ≡ q.virtuals.items
    → Prints a b (of_class_prefix r) → Prints b c (one k.Class) → Prints c m (of_heading q.name xs ms ss) → Prints m n (each of_protection ps) → Prints n p (of_virtuals vs) → Prints p u (of_statement y) → Prints a u (of_declaration x)
print_class a b c m n p u x r i q y xs ms ss ps vs is same ex em es ep ev f g h j l o =
    prints_as a u _ _ (class_at x r i q is)
    (four a b c m u _ _ _ _ f g (heading_of c m q.name xs q.parameters.items ms q.modes.items ss q.specifications.items ex em es h)
    (both m p u _ _ (both m n p _ _ (prints_as m n _ _ (ap (each of_protection) ep) j) (prints_as n p _ _ (ap of_virtuals ev) l)) (body p u y q.body.value same o)))

pub ruleset statement_rules = (owes_all, owes_arm, owes_statements, owes_statement, owes_declaration, owes_end, print_empty, print_inner, print_compound, print_prefixed, print_call, print_assignment, print_choose, print_while, print_for, print_for_reference, print_inspect, print_inspect_when, print_activation, print_branch, print_no_branch, print_block, print_no_statements, print_variables, print_arrays, print_procedure, print_class)
