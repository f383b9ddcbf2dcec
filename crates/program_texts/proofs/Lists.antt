-- The texts of statements, blocks and declarations, construct by construct.
use Rattle.std.proofs.Common.{◌≡◌, ◌≢◌, ◌<◌, ◌≤◌, ◌+◌, ℕ, zero, suc, List, [], ◌∷◌, ◌++◌, Option, Some, None, refl, sym, ap, ◌∙◌, map, drop, length, subst, arith, append-nil, append_assoc}
use Rattle.std.proofs.lemmas.List.{drop_more, drop_all}
use Rattle.std.specs.Prelude.{slice_index_or, option_map}
use Rattle.std.specs.Borrow.{Bor}
use Rattle.std.specs.declared.alloc.Global.{Global}
use Rattle.std.specs.declared.boxed.Box.{Box}
use Rattle.std.specs.declared.vec.Vec.{Vec}
use Rattle.sim_base.specs.declared.numbering.TokenNo.{TokenNo}
use Rattle.sim_tree.specs.declared.expr.Expr.{Expr}
use Rattle.sim_tree.specs.declared.expr.Identifier.{Identifier}
use Rattle.sim_tree.specs.declared.program.BlockPrefix.{BlockPrefix}
use Rattle.sim_tree.specs.declared.program.Program.{Program}
use Rattle.sim_tree.specs.declared.stmt.Activation.{Activation}
use Rattle.sim_tree.specs.declared.stmt.ArraySegment.{ArraySegment}
use Rattle.sim_tree.specs.declared.stmt.Assigned.{Assigned}
use Rattle.sim_tree.specs.declared.stmt.Block.{Block}
use Rattle.sim_tree.specs.declared.stmt.Class.{Class}
use Rattle.sim_tree.specs.declared.stmt.Decl.{Decl}
use Rattle.sim_tree.specs.declared.stmt.Decl.TheVariants as d
use Rattle.sim_tree.specs.declared.stmt.ForElement.{ForElement}
use Rattle.sim_tree.specs.declared.stmt.Procedure.{Procedure}
use Rattle.sim_tree.specs.declared.stmt.ReferenceElement.{ReferenceElement}
use Rattle.sim_tree.specs.declared.stmt.Stmt.{Stmt}
use Rattle.sim_tree.specs.declared.stmt.Stmt.TheVariants as s
use Rattle.sim_tree.specs.declared.stmt.Timing.{Timing}
use Rattle.sim_tree.specs.declared.stmt.TypeName.{TypeName}
use Rattle.sim_tree.specs.declared.stmt.Variable.{Variable}
use Rattle.sim_tree.specs.declared.stmt.When.{When}
use Rattle.sim_tree.specs.Syntax.{Also, Begin, Compound, Declaration, DeclareClass, Heading, Interface, NoDeclaration, NoStatement, Statement, Statements, With, declarations, statements}
use Rattle.sim_tree.specs.Syntax.{Block as BlockSyntax}
use Rattle.sim_tree.specs.Syntax as syntax
use Rattle.sim_tree.specs.SyntaxOfProgram.{arms, branch_syntax, class_syntax, interface_syntax, prefix_syntax, program_syntax, statement_syntax, declaration_syntax, block_syntax, arm_syntax}
use Rattle.sim_tree.proofs.ProgramSyntaxLemmas.{syntax-Empty, syntax-Block, syntax-PrefixedBlock, syntax-Inner, syntax-Call, syntax-Assignment, syntax-If, syntax-While, syntax-For, syntax-ForReference, syntax-Inspect, syntax-InspectWhen, syntax-Activation, syntax-Variables, syntax-Arrays, syntax-Procedure, syntax-Class, syntax-block, syntax-procedure, syntax-class, syntax-when}
use Rattle.sim_scope.specs.declared.types.StandardClass.{StandardClass}
use Rattle.sim_scope.specs.declared.types.StandardPrefix.{StandardPrefix}
use Rattle.sim_scope.specs.Bodies.{classes_declared}
use Rattle.sim_scope.specs.Runs.{each}
use Rattle.sim_scope.specs.Standard.{standard_prefix}
use Rattle.sim_meaning.specs.Texts.{BlockText, ClassText, ConnectionText, StandardText, Text, arms_texts, block_texts, declaration_texts, declarations_texts, prefix_texts, prefixed_texts, program_texts, standard_texts, statement_texts, statements_texts}
use Rattle.program_texts.specs.declared.tree.TextTree.{TextTree}
use Rattle.program_texts.specs.declared.tree.TextTree.TheVariants as tree
use Rattle.program_texts.specs.TextTrees.{AreTexts, Lists, block_text, class_text, heading_of, inside_texts, of_arm, of_block, of_branch, of_class, of_class_head, of_class_statement, of_declaration, of_inside, of_prefixed, of_standard, of_statement, prefixed_text, text_in}

map-append : {A B : Type 0} (f : A → B) (xs ys : List A) → map f (xs ++ ys) ≡ map f xs ++ map f ys
map-append f [] ys = refl
map-append f (x ∷ xs) ys = ap (λ z. f x ∷ z) (map-append f xs ys)

-- ---- lists of texts

lists_as : (a b : List TextTree) (xs ys : List Text) → xs ≡ ys → Lists a b xs → Lists a b ys
lists_as a b xs ys e h = subst (Lists a b) e h

lists_none : (a : List TextTree) → Lists a a []
unfolding Lists
lists_none a = sym (append-nil (map text_in a))

lists_one : (a b : List TextTree) (x : TextTree) → b ≡ a ++ (x ∷ []) → Lists a b (text_in x ∷ [])
unfolding Lists
lists_one a b x e = ap (map text_in) e ∙ map-append text_in a (x ∷ [])

lists_both : (a b c : List TextTree) (xs ys : List Text) → Lists a b xs → Lists b c ys → Lists a c (xs ++ ys)
unfolding Lists
lists_both a b c xs ys f g = g ∙ ap (λ z. z ++ ys) f ∙ append_assoc (map text_in a) xs ys

-- ---- loops

unfoldable pub Owes : {A : Type 0} (f : A → List Text) (a : List TextTree) → List A → (now : List TextTree) → (done : ℕ) → Type 0
Owes f a xs now i = (end : List TextTree) → Lists now end (each f (drop i xs)) → Lists a end (each f xs)

pub owes_all : {A : Type 0} (f : A → List Text) (a : List TextTree) (xs : List A) → Owes f a xs a 0
unfolding Owes
owes_all f a xs end h = h

pub owes_next : {A : Type 0} (f : A → List Text) (a b c : List TextTree) (xs : List A) (i : ℕ) (x : A) → Owes f a xs b i → i < length xs → x ≡ slice_index_or xs i x → Lists b c (f x) → Owes f a xs c (i + 1)
unfolding Owes
owes_next f a b c xs i x owes le is one end rest =
    let from : drop i xs ≡ x ∷ drop (i + 1) xs = drop_more xs i x le ∙ ap (λ y. y ∷ drop (i + 1) xs) (sym is) in
    owes end (lists_as b end (f x ++ each f (drop (i + 1) xs)) (each f (drop i xs)) (ap (each f) (sym from)) (lists_both b c end (f x) (each f (drop (i + 1) xs)) one rest))

pub owes_end : {A : Type 0} (f : A → List Text) (a b : List TextTree) (xs : List A) (i : ℕ) → Owes f a xs b i → length xs ≤ i → Lists a b (each f xs)
unfolding Owes
owes_end f a b xs i owes le = owes b (lists_as b b [] (each f (drop i xs)) (ap (each f) (sym (drop_all i xs le))) (lists_none b))

-- an element of a list, whatever stands in its place where there is none
pub index_any : {A : Type 0} (xs : List A) (i : ℕ) (d : A) → i < length xs → slice_index_or xs i d ≡ slice_index_or xs i (slice_index_or xs i d)
index_any [] i d le = absurd (omega (arith, le))
index_any (x ∷ xs) zero d le = refl
index_any (x ∷ xs) (suc i) d le = rest xs i d (slice_index_or xs i d) (omega (arith, le))
  where
    rest : {A : Type 0} (xs : List A) (i : ℕ) (d e : A) → i < length xs → slice_index_or xs i d ≡ slice_index_or xs i e
    rest [] i d e le = absurd (omega (arith, le))
    rest (x ∷ xs) zero d e le = refl
    rest (x ∷ xs) (suc i) d e le = rest xs i d e (omega (arith, le))

-- ---- statements

texts_at : (x : Stmt) (z : Statement) → statement_syntax x ≡ z → statement_texts z ≡ of_statement x
unfolding of_statement
texts_at x z e = ap statement_texts (sym e)

as_syntax : (a b : List TextTree) (y z : Stmt) → y ≡ z → Lists a b (of_statement y) → Lists a b (statement_texts (statement_syntax z))
unfolding of_statement
as_syntax a b y z e h = subst (λ w. Lists a b (of_statement w)) e h

as_branch : (a b : List TextTree) (o : Option (Box Stmt Global)) → Lists a b (of_branch o) → Lists a b (statements_texts (branch_syntax o))
unfolding of_branch
as_branch a b o h = h

pub list_empty : (a : List TextTree) (x : Stmt) (i : TokenNo) → x ≡ s.Empty i → Lists a a (of_statement x)
list_empty a x i is = lists_as a a [] _ (texts_at x _ (ap statement_syntax is ∙ syntax-Empty i)) (lists_none a)

pub list_inner : (a : List TextTree) (x : Stmt) (i : TokenNo) → x ≡ s.Inner i → Lists a a (of_statement x)
list_inner a x i is = lists_as a a [] _ (texts_at x _ (ap statement_syntax is ∙ syntax-Inner i)) (lists_none a)

pub list_call : (a : List TextTree) (x : Stmt) (e : Expr) → x ≡ s.Call e → Lists a a (of_statement x)
list_call a x e is = lists_as a a [] _ (texts_at x _ (ap statement_syntax is ∙ syntax-Call e)) (lists_none a)

pub list_assignment : (a : List TextTree) (x : Stmt) (e : Expr) (l : Vec Assigned Global) → x ≡ s.Assignment e l → Lists a a (of_statement x)
list_assignment a x e l is = lists_as a a [] _ (texts_at x _ (ap statement_syntax is ∙ syntax-Assignment e l)) (lists_none a)

pub list_activation : (a : List TextTree) (x : Stmt) (i : TokenNo) (w : Activation) (e : Expr) (t : Option Timing) → x ≡ s.Activation i w e t → Lists a a (of_statement x)
list_activation a x i w e t is = lists_as a a [] _ (texts_at x _ (ap statement_syntax is ∙ syntax-Activation i w e t)) (lists_none a)

pub list_block : (a b : List TextTree) (x : Stmt) (k : Block) → x ≡ s.Block k → Lists a b (of_block k) → Lists a b (of_statement x)
unfolding of_block
list_block a b x k is h = lists_as a b (block_texts (block_syntax k)) (of_statement x) (texts_at x _ (ap statement_syntax is ∙ syntax-Block k)) h

pub list_prefixed : (a b : List TextTree) (x : Stmt) (p : BlockPrefix) (k : Block) → x ≡ s.PrefixedBlock p k → Lists a b (of_prefixed p k) → Lists a b (of_statement x)
unfolding of_prefixed
list_prefixed a b x p k is h = lists_as a b _ _ (texts_at x _ (ap statement_syntax is ∙ syntax-PrefixedBlock p k)) h

pub list_if : (a m b : List TextTree) (x y : Stmt) (i : TokenNo) (e : Expr) (q : Box Stmt Global) (o : Option (Box Stmt Global)) → x ≡ s.If i e q o → y ≡ q.value → Lists a m (of_statement y) → Lists m b (of_branch o) → Lists a b (of_statement x)
list_if a m b x y i e q o is same f g = lists_as a b _ _ (texts_at x _ (ap statement_syntax is ∙ syntax-If i e q o)) (lists_both a m b _ _ (as_syntax a m y q.value same f) (as_branch m b o g))

pub list_while : (a b : List TextTree) (x y : Stmt) (i : TokenNo) (e : Expr) (q : Box Stmt Global) → x ≡ s.While i e q → y ≡ q.value → Lists a b (of_statement y) → Lists a b (of_statement x)
list_while a b x y i e q is same f = lists_as a b _ _ (texts_at x _ (ap statement_syntax is ∙ syntax-While i e q)) (as_syntax a b y q.value same f)

pub list_for : (a b : List TextTree) (x y : Stmt) (i : TokenNo) (v : Identifier) (t : TokenNo) (l : Vec ForElement Global) (q : Box Stmt Global) → x ≡ s.For i v t l q → y ≡ q.value → Lists a b (of_statement y) → Lists a b (of_statement x)
list_for a b x y i v t l q is same f = lists_as a b _ _ (texts_at x _ (ap statement_syntax is ∙ syntax-For i v t l q)) (as_syntax a b y q.value same f)

pub list_for_reference : (a b : List TextTree) (x y : Stmt) (i : TokenNo) (v : Identifier) (t : TokenNo) (l : Vec ReferenceElement Global) (q : Box Stmt Global) → x ≡ s.ForReference i v t l q → y ≡ q.value → Lists a b (of_statement y) → Lists a b (of_statement x)
list_for_reference a b x y i v t l q is same f = lists_as a b _ _ (texts_at x _ (ap statement_syntax is ∙ syntax-ForReference i v t l q)) (as_syntax a b y q.value same f)

pub list_inspect : (a b c d : List TextTree) (x y : Stmt) (i : TokenNo) (e : Expr) (j : TokenNo) (q : Box Stmt Global) (k : TokenNo) (o : Option (Box Stmt Global)) → x ≡ s.Inspect i e j q k o → b ≡ a ++ (tree.Connection ∷ []) → y ≡ q.value → Lists b c (of_statement y) → Lists c d (of_branch o) → Lists a d (of_statement x)
list_inspect a b c d x y i e j q k o is one same f g =
    lists_as a d _ _ (texts_at x _ (ap statement_syntax is ∙ syntax-Inspect i e j q k o))
    (lists_both a b d (ConnectionText ∷ []) _ (lists_one a b tree.Connection one) (lists_both b c d _ _ (as_syntax b c y q.value same f) (as_branch c d o g)))

each-arms : (l : List When) → each of_arm l ≡ arms_texts (arms (map arm_syntax l))
unfolding of_arm
each-arms [] = refl
each-arms (w ∷ ws) = ap (λ z. of_arm w ++ z) (each-arms ws)

pub list_inspect_when : (a m b : List TextTree) (x : Stmt) (l : List When) (i : TokenNo) (e : Expr) (v : Vec When Global) (o : Option (Box Stmt Global)) → x ≡ s.InspectWhen i e v o → l ≡ v.items → Lists a m (each of_arm l) → Lists m b (of_branch o) → Lists a b (of_statement x)
list_inspect_when a m b x l i e v o is same f g =
    lists_as a b _ _ (texts_at x _ (ap statement_syntax is ∙ syntax-InspectWhen i e v o))
    (lists_both a m b _ _ (lists_as a m _ _ (each-arms l ∙ ap (λ z. arms_texts (arms (map arm_syntax z))) same) f) (as_branch m b o g))

pub list_some : (a b : List TextTree) (o : Option (Box Stmt Global)) (q : Box Stmt Global) (y : Stmt) → o ≡ Some q → y ≡ q.value → Lists a b (of_statement y) → Lists a b (of_branch o)
unfolding of_branch
list_some a b o q y is same h = lists_as a b (statement_texts (statement_syntax q.value)) (of_branch o) (sym (ap (λ z. statements_texts (branch_syntax z)) is ∙ append-nil (statement_texts (statement_syntax q.value)))) (as_syntax a b y q.value same h)

pub list_no_branch : (a : List TextTree) (o : Option (Box Stmt Global)) → o ≡ None → Lists a a (of_branch o)
unfolding of_branch
list_no_branch a o is = lists_as a a [] (of_branch o) (sym (ap (λ z. statements_texts (branch_syntax z)) is)) (lists_none a)

pub list_arm : (a b c : List TextTree) (w : When) → b ≡ a ++ (tree.Connection ∷ []) → Lists b c (of_statement w.body) → Lists a c (of_arm w)
unfolding of_arm of_statement
list_arm a b c w one f =
    lists_as a c _ _ (ap (λ z. ConnectionText ∷ statement_texts z.body) (sym (syntax-when w.token w.class w.opening w.body w.end)))
    (lists_both a b c (ConnectionText ∷ []) _ (lists_one a b tree.Connection one) f)

-- ---- blocks

each-statements : (l : List Stmt) → each of_statement l ≡ statements_texts (statements (map statement_syntax l))
unfolding of_statement
each-statements [] = refl
each-statements (x ∷ xs) = ap (λ z. of_statement x ++ z) (each-statements xs)

each-declarations : (l : List Decl) → each of_declaration l ≡ declarations_texts (declarations (map declaration_syntax l))
unfolding of_declaration
each-declarations [] = refl
each-declarations (x ∷ xs) = ap (λ z. of_declaration x ++ z) (each-declarations xs)

inside_at : (k : Block) → inside_texts (block_syntax k) ≡ declarations_texts (declarations (map declaration_syntax k.declarations.items)) ++ statements_texts (statements (map statement_syntax k.statements.items))
inside_at k = ap inside_texts (syntax-block k.token k.declarations k.statements k.end)

pub list_inside : (a m b : List TextTree) (k : Block) (ds : List Decl) (l : List Stmt) → ds ≡ k.declarations.items → Lists a m (each of_declaration ds) → l ≡ k.statements.items → Lists m b (each of_statement l) → Lists a b (of_inside k)
unfolding of_inside
list_inside a m b k ds l there f same g =
    lists_as a b _ _ (sym (inside_at k))
    (lists_both a m b _ _ (lists_as a m _ _ (each-declarations ds ∙ ap (λ z. declarations_texts (declarations (map declaration_syntax z))) there) f) (lists_as m b _ _ (each-statements l ∙ ap (λ z. statements_texts (statements (map statement_syntax z))) same) g))

pub list_compound : (a b : List TextTree) (k : Block) (ds : List Decl) (l : List Stmt) → ds ≡ k.declarations.items → length ds ≡ 0 → l ≡ k.statements.items → Lists a b (each of_statement l) → Lists a b (of_block k)
unfolding of_block
list_compound a b k ds l there none same g =
    lists_as a b _ _ (each-statements l ∙ ap (λ z. statements_texts (statements (map statement_syntax z))) same ∙ sym (ap block_texts (syntax-block k.token k.declarations k.statements k.end) ∙ without k.declarations.items (sym (ap length there) ∙ none))) g
  where
    without : (xs : List Decl) → length xs ≡ 0 → block_texts (Begin k.token.0 (declarations (map declaration_syntax xs)) (statements (map statement_syntax k.statements.items)) k.end.0) ≡ statements_texts (statements (map statement_syntax k.statements.items))
    without [] h = refl
    without (x ∷ xs) h = absurd (cc)

some_block : (z : BlockSyntax) (i e : ℕ) (x : Declaration) (xs : List Declaration) (t : Statements) → z ≡ Begin i (With x (declarations xs)) t e → block_texts z ≡ block_text z ∷ inside_texts z
some_block z i e x xs t h = subst (λ z. block_texts z ≡ block_text z ∷ inside_texts z) (sym h) (ap (λ y. BlockText i (With x (declarations xs)) t ∷ y) (sym (append_assoc (declaration_texts x) (declarations_texts (declarations xs)) (statements_texts t))))

pub list_whole : (a b c : List TextTree) (k : Bor Block) (ds : List Decl) → ds ≡ k.now.declarations.items → length ds ≢ 0 → b ≡ a ++ (tree.Block k ∷ []) → Lists b c (of_inside k.now) → Lists a c (of_block k.now)
unfolding of_block of_inside
list_whole a b c k ds there some' one h =
    lists_as a c _ _ (sym (with_some k.now.declarations.items refl (λ z. some' (ap length there ∙ z)))) (lists_both a b c (block_text (block_syntax k.now) ∷ []) _ (lists_one a b (tree.Block k) one) h)
  where
    with_some : (xs : List Decl) → k.now.declarations.items ≡ xs → (length xs ≡ 0 → ⊥) → block_texts (block_syntax k.now) ≡ block_text (block_syntax k.now) ∷ inside_texts (block_syntax k.now)
    with_some [] e other = absurd (other refl)
    with_some (x ∷ xs) e other =
        some_block (block_syntax k.now) k.now.token.0 k.now.end.0 (declaration_syntax x) (map declaration_syntax xs) (statements (map statement_syntax k.now.statements.items))
        (syntax-block k.now.token k.now.declarations k.now.statements k.now.end ∙ ap (λ z. Begin k.now.token.0 (declarations (map declaration_syntax z)) (statements (map statement_syntax k.now.statements.items)) k.now.end.0) e)

-- ---- prefixes

pub list_classes : (a b : List TextTree) (ws : List StandardClass) (o : Option StandardPrefix) (name bytes : List ℕ) → ws ≡ classes_declared o → o ≡ standard_prefix bytes → bytes ≡ name → Lists a b (each of_standard ws) → Lists a b (standard_texts name)
unfolding standard_texts of_standard
list_classes a b ws o name bytes are is same h = lists_as a b (each of_standard ws) (standard_texts name) (all ws ∙ ap (map StandardText) (are ∙ ap classes_declared (is ∙ ap standard_prefix same))) h
  where
    all : (ws : List StandardClass) → each of_standard ws ≡ map StandardText ws
    all [] = refl
    all (w ∷ ws) = ap (λ z. StandardText w ∷ z) (all ws)

pub list_standard : (a b : List TextTree) (w : StandardClass) → b ≡ a ++ (tree.Standard w ∷ []) → Lists a b (of_standard w)
unfolding of_standard
list_standard a b w e = lists_one a b (tree.Standard w) e

pub list_class_prefix : (a b : List TextTree) (o : Option Identifier) (x : Identifier) → o ≡ Some x → Lists a b (standard_texts x.name) → Lists a b (prefix_texts o)
list_class_prefix a b o x is h = lists_as a b (standard_texts x.name) (prefix_texts o) (ap prefix_texts (sym is)) h

pub list_no_prefix : (a : List TextTree) (o : Option Identifier) → o ≡ None → Lists a a (prefix_texts o)
list_no_prefix a o is = lists_as a a [] (prefix_texts o) (ap prefix_texts (sym is)) (lists_none a)

pub list_with_prefix : (a b c e : List TextTree) (p : Bor BlockPrefix) (k : Bor Block) → b ≡ a ++ (tree.Prefixed p k ∷ []) → Lists b c (standard_texts p.now.class.name) → Lists c e (of_inside k.now) → Lists a e (of_prefixed p.now k.now)
unfolding of_prefixed of_inside
list_with_prefix a b c e p k one f g =
    lists_as a e _ _ (sym (cases (block_syntax k.now)))
    (lists_both a b e (prefixed_text (prefix_syntax p.now) (block_syntax k.now) ∷ []) (standard_texts p.now.class.name ++ inside_texts (block_syntax k.now)) (lists_one a b (tree.Prefixed p k) one) (lists_both b c e _ _ f g))
  where
    cases : (z : BlockSyntax) → prefixed_texts (prefix_syntax p.now).class (prefix_syntax p.now).arguments z ≡ prefixed_text (prefix_syntax p.now) z ∷ (standard_texts p.now.class.name ++ inside_texts z)
    cases (Begin i ds ss e) = refl

-- ---- declarations

declares_at : (x : Decl) (z : Declaration) → declaration_syntax x ≡ z → declaration_texts z ≡ of_declaration x
unfolding of_declaration
declares_at x z e = ap declaration_texts (sym e)

pub list_variables : (a : List TextTree) (x : Decl) (t : TypeName) (l : Vec Variable Global) → x ≡ d.Variables t l → Lists a a (of_declaration x)
list_variables a x t l is = lists_as a a [] _ (declares_at x _ (ap declaration_syntax is ∙ syntax-Variables t l)) (lists_none a)

pub list_arrays : (a : List TextTree) (x : Decl) (t : TypeName) (i : TokenNo) (l : Vec ArraySegment Global) → x ≡ d.Arrays t i l → Lists a a (of_declaration x)
list_arrays a x t i l is = lists_as a a [] _ (declares_at x _ (ap declaration_syntax is ∙ syntax-Arrays t i l)) (lists_none a)

pub list_procedure : (a b c : List TextTree) (x : Decl) (r : Bor (Option TypeName)) (i : TokenNo) (q : Bor Procedure) (y : Stmt) → x ≡ d.Procedure r.now i q.now → b ≡ a ++ (tree.Procedure r q ∷ []) → y ≡ q.now.body.value → Lists b c (of_statement y) → Lists a c (of_declaration x)
list_procedure a b c x r i q y is one same f =
    lists_as a c _ _ (declares_at x _ (ap declaration_syntax is ∙ syntax-Procedure r.now i q.now ∙ syntax-procedure q.now.name q.now.parameters q.now.modes q.now.specifications q.now.body q.now.end r.now i.0))
    (lists_both a b c (text_in (tree.Procedure r q) ∷ []) _ (lists_one a b (tree.Procedure r q) one) (as_syntax b c y q.now.body.value same f))

-- a class is the same whatever its tokens and its interface
class_at : (c : Class) (r : Option Identifier) (i : ℕ) → class_syntax c r i ≡ DeclareClass r i (heading_of c) (interface_syntax c.protections.items c.virtuals.items) (statement_syntax c.body.value) c.end.0
class_at c r i = syntax-class c.name c.parameters c.modes c.specifications c.protections c.virtuals c.body c.end r i

any_token : (r : Option Identifier) (i j : ℕ) (h : Heading) (f : Interface) (a : Statement) (e : ℕ) → declaration_texts (DeclareClass r i h f a e) ≡ declaration_texts (DeclareClass r j h f a e)
any_token r i j h f (Compound (Begin token ds ss end)) e = refl
any_token r i j h f _ e = refl

pub list_class : (a b : List TextTree) (x : Decl) (r : Option Identifier) (i : TokenNo) (q : Class) → x ≡ d.Class r i q → Lists a b (of_class r q) → Lists a b (of_declaration x)
unfolding of_class
list_class a b x r i q is h =
    lists_as a b (of_class r q) (of_declaration x)
    (ap declaration_texts (class_at q r 0) ∙ any_token r 0 i.0 (heading_of q) (interface_syntax q.protections.items q.virtuals.items) (statement_syntax q.body.value) q.end.0 ∙ declares_at x _ (ap declaration_syntax is ∙ syntax-Class r i q ∙ class_at q r i.0)) h

-- what the texts of a class are, by its body
abbrev TextsBy : Option Identifier → Class → Statement → List Text
TextsBy r q z = declaration_texts (DeclareClass r 0 (heading_of q) (interface_syntax q.protections.items q.virtuals.items) z q.end.0)

class_as : (a b : List TextTree) (r : Option Identifier) (q : Class) (y : Stmt) (z : Statement) → y ≡ q.body.value → statement_syntax y ≡ z → Lists a b (TextsBy r q z) → Lists a b (of_class r q)
unfolding of_class
class_as a b r q y z same is h = lists_as a b (TextsBy r q z) (declaration_texts (class_syntax q r 0)) (ap (TextsBy r q) (sym is ∙ ap statement_syntax same) ∙ ap declaration_texts (sym (class_at q r 0))) h

pub list_class_of_block : (a b c : List TextTree) (r : Option Identifier) (q : Class) (y : Stmt) (k : Block) → y ≡ q.body.value → y ≡ s.Block k → Lists a b (of_class_head r q k) → Lists b c (of_inside k) → Lists a c (of_class r q)
unfolding of_class_head of_inside
list_class_of_block a b c r q y k same is f g =
    class_as a c r q y (Compound (block_syntax k)) same (ap statement_syntax is ∙ syntax-Block k)
    (lists_as a c ((class_text r (heading_of q) (block_syntax k) ∷ prefix_texts r) ++ inside_texts (block_syntax k)) (TextsBy r q (Compound (block_syntax k))) (cases (block_syntax k)) (lists_both a b c (class_text r (heading_of q) (block_syntax k) ∷ prefix_texts r) (inside_texts (block_syntax k)) f g))
  where
    cases : (z : BlockSyntax) → (class_text r (heading_of q) z ∷ prefix_texts r) ++ inside_texts z ≡ TextsBy r q (Compound z)
    cases (Begin i ds ss e) = refl

-- a statement that is no block
abbrev Other : Stmt → Type 0
Other y = (z : BlockSyntax) → statement_syntax y ≡ Compound z → ⊥

other_class : (a b : List TextTree) (r : Option Identifier) (q : Class) (y : Stmt) → y ≡ q.body.value → Other y → Lists a b (of_class_statement r q) → Lists a b (of_class r q)
unfolding of_class of_class_statement
other_class a b r q y same other h =
    lists_as a b _ (declaration_texts (class_syntax q r 0))
    (sym (cases (statement_syntax q.body.value) (subst (λ w. (z : BlockSyntax) → statement_syntax w ≡ Compound z → ⊥) same other)) ∙ ap declaration_texts (sym (class_at q r 0))) h
  where
    cases : (z : Statement) → ((k : BlockSyntax) → z ≡ Compound k → ⊥) → TextsBy r q z ≡ ClassText r (heading_of q) NoDeclaration (Also z NoStatement) ∷ (prefix_texts r ++ statement_texts z)
    cases (Compound k) never = absurd (never k refl)
    cases _ never = refl

module _ (a b : List TextTree) (r : Option Identifier) (q : Class) (y : Stmt) (same : y ≡ q.body.value) where
  pub class_empty : (i : TokenNo) → y ≡ s.Empty i → Lists a b (of_class_statement r q) → Lists a b (of_class r q)
  class_empty i is h = other_class a b r q y same (λ z e. (let f : syntax.Empty i.0 ≡ Compound z = sym (ap statement_syntax is ∙ syntax-Empty i) ∙ e in cc)) h

  pub class_prefixed : (p : BlockPrefix) (k : Block) → y ≡ s.PrefixedBlock p k → Lists a b (of_class_statement r q) → Lists a b (of_class r q)
  class_prefixed p k is h = other_class a b r q y same (λ z e. (let f = sym (ap statement_syntax is ∙ syntax-PrefixedBlock p k) ∙ e in cc)) h

  pub class_inner : (i : TokenNo) → y ≡ s.Inner i → Lists a b (of_class_statement r q) → Lists a b (of_class r q)
  class_inner i is h = other_class a b r q y same (λ z e. (let f = sym (ap statement_syntax is ∙ syntax-Inner i) ∙ e in cc)) h

  pub class_call : (e : Expr) → y ≡ s.Call e → Lists a b (of_class_statement r q) → Lists a b (of_class r q)
  class_call x is h = other_class a b r q y same (λ z e. (let f = sym (ap statement_syntax is ∙ syntax-Call x) ∙ e in cc)) h

  pub class_assignment : (x : Expr) (l : Vec Assigned Global) → y ≡ s.Assignment x l → Lists a b (of_class_statement r q) → Lists a b (of_class r q)
  class_assignment x l is h = other_class a b r q y same (λ z e. (let f = sym (ap statement_syntax is ∙ syntax-Assignment x l) ∙ e in cc)) h

  pub class_if : (i : TokenNo) (x : Expr) (t : Box Stmt Global) (o : Option (Box Stmt Global)) → y ≡ s.If i x t o → Lists a b (of_class_statement r q) → Lists a b (of_class r q)
  class_if i x t o is h = other_class a b r q y same (λ z e. (let f = sym (ap statement_syntax is ∙ syntax-If i x t o) ∙ e in cc)) h

  pub class_while : (i : TokenNo) (x : Expr) (t : Box Stmt Global) → y ≡ s.While i x t → Lists a b (of_class_statement r q) → Lists a b (of_class r q)
  class_while i x t is h = other_class a b r q y same (λ z e. (let f = sym (ap statement_syntax is ∙ syntax-While i x t) ∙ e in cc)) h

  pub class_for : (i : TokenNo) (v : Identifier) (t : TokenNo) (l : Vec ForElement Global) (o : Box Stmt Global) → y ≡ s.For i v t l o → Lists a b (of_class_statement r q) → Lists a b (of_class r q)
  class_for i v t l o is h = other_class a b r q y same (λ z e. (let f = sym (ap statement_syntax is ∙ syntax-For i v t l o) ∙ e in cc)) h

  pub class_for_reference : (i : TokenNo) (v : Identifier) (t : TokenNo) (l : Vec ReferenceElement Global) (o : Box Stmt Global) → y ≡ s.ForReference i v t l o → Lists a b (of_class_statement r q) → Lists a b (of_class r q)
  class_for_reference i v t l o is h = other_class a b r q y same (λ z e. (let f = sym (ap statement_syntax is ∙ syntax-ForReference i v t l o) ∙ e in cc)) h

  pub class_inspect : (i : TokenNo) (x : Expr) (j : TokenNo) (t : Box Stmt Global) (k : TokenNo) (o : Option (Box Stmt Global)) → y ≡ s.Inspect i x j t k o → Lists a b (of_class_statement r q) → Lists a b (of_class r q)
  class_inspect i x j t k o is h = other_class a b r q y same (λ z e. (let f = sym (ap statement_syntax is ∙ syntax-Inspect i x j t k o) ∙ e in cc)) h

  pub class_inspect_when : (i : TokenNo) (x : Expr) (v : Vec When Global) (o : Option (Box Stmt Global)) → y ≡ s.InspectWhen i x v o → Lists a b (of_class_statement r q) → Lists a b (of_class r q)
  class_inspect_when i x v o is h = other_class a b r q y same (λ z e. (let f = sym (ap statement_syntax is ∙ syntax-InspectWhen i x v o) ∙ e in cc)) h

  pub class_activation : (i : TokenNo) (w : Activation) (x : Expr) (t : Option Timing) → y ≡ s.Activation i w x t → Lists a b (of_class_statement r q) → Lists a b (of_class r q)
  class_activation i w x t is h = other_class a b r q y same (λ z e. (let f = sym (ap statement_syntax is ∙ syntax-Activation i w x t) ∙ e in cc)) h

pub list_class_head : (a b c : List TextTree) (r : Bor (Option Identifier)) (q : Bor Class) (k : Bor Block) → b ≡ a ++ (tree.Class r q k ∷ []) → Lists b c (prefix_texts r.now) → Lists a c (of_class_head r.now q.now k.now)
unfolding of_class_head
list_class_head a b c r q k one f = lists_both a b c (class_text r.now (heading_of q.now) (block_syntax k.now) ∷ []) (prefix_texts r.now) (lists_one a b (tree.Class r q k) one) f

pub list_class_statement : (a b c e : List TextTree) (r : Bor (Option Identifier)) (q : Bor Class) (y : Stmt) → b ≡ a ++ (tree.ClassOfStatement r q ∷ []) → Lists b c (prefix_texts r.now) → y ≡ q.now.body.value → Lists c e (of_statement y) → Lists a e (of_class_statement r.now q.now)
unfolding of_class_statement
list_class_statement a b c e r q y one f same g =
    lists_both a b e (text_in (tree.ClassOfStatement r q) ∷ []) (prefix_texts r.now ++ statement_texts (statement_syntax q.now.body.value)) (lists_one a b (tree.ClassOfStatement r q) one)
    (lists_both b c e (prefix_texts r.now) (statement_texts (statement_syntax q.now.body.value)) f (as_syntax c e y q.now.body.value same g))

-- ---- programs

pub list_program : (a b c : List TextTree) (p : Program) (k : Bor Block) → p.prefix ≡ None → k.now ≡ p.block → a ≡ [] → b ≡ a ++ (tree.Block k ∷ []) → Lists b c (of_inside k.now) → AreTexts p c
unfolding AreTexts Lists program_syntax of_inside
list_program a b c p k none same ea one h =
    let all : Lists a c (block_text (block_syntax k.now) ∷ inside_texts (block_syntax k.now)) = lists_both a b c (block_text (block_syntax k.now) ∷ []) (inside_texts (block_syntax k.now)) (lists_one a b (tree.Block k) one) h in
    all ∙ ap (λ z. map text_in z ++ (block_text (block_syntax k.now) ∷ inside_texts (block_syntax k.now))) ea ∙ cases (block_syntax k.now)
    ∙ ap (λ z. program_texts None (block_syntax z)) same ∙ ap (λ z. program_texts (option_map prefix_syntax z) (block_syntax p.block)) (sym none)
  where
    cases : (z : BlockSyntax) → block_text z ∷ inside_texts z ≡ program_texts None z
    cases (Begin i ds ss e) = refl

pub list_prefixed_program : (a b : List TextTree) (p : Program) (q : BlockPrefix) (k : Block) → p.prefix ≡ Some q → k ≡ p.block → a ≡ [] → Lists a b (of_prefixed q k) → AreTexts p b
unfolding AreTexts Lists program_syntax of_prefixed
list_prefixed_program a b p q k some' same ea h =
    h ∙ ap (λ z. map text_in z ++ prefixed_texts (prefix_syntax q).class (prefix_syntax q).arguments (block_syntax k)) ea ∙ cases (block_syntax k)
    ∙ ap (λ z. program_texts (Some (prefix_syntax q)) (block_syntax z)) same ∙ ap (λ z. program_texts (option_map prefix_syntax z) (block_syntax p.block)) (sym some')
  where
    cases : (z : BlockSyntax) → prefixed_texts (prefix_syntax q).class (prefix_syntax q).arguments z ≡ program_texts (Some (prefix_syntax q)) z
    cases (Begin i ds ss e) = refl

pub ruleset lists = (list_empty, list_inner, list_call, list_assignment, list_activation, list_block, list_prefixed, list_if, list_while, list_for, list_for_reference, list_inspect, list_inspect_when, list_some, list_no_branch, list_arm, list_inside, list_compound, list_whole, list_variables, list_arrays, list_classes, list_standard, list_class_prefix, list_no_prefix, list_with_prefix, list_procedure, list_class, list_class_of_block, class_empty, class_prefixed, class_inner, class_call, class_assignment, class_if, class_while, class_for, class_for_reference, class_inspect, class_inspect_when, class_activation, list_class_head, list_class_statement, list_program, list_prefixed_program, owes_all, owes_next, owes_end)
