-- The identifiers that a block declares stand in the order of its text; so its arrays are distinct, and a constant is found by its token.
use Rattle.std.proofs.Common.{◌≡◌, ◌≤◌, ◌+◌, ℕ, zero, suc, Bool, true, false, List, [], ◌∷◌, ◌++◌, Option, Some, None, refl, sym, ap, ◌∙◌, subst, arith, append_assoc}
use Rattle.std.specs.Prelude.{◌==◌, if◌then◌else◌, slice_get}
use Rattle.std.proofs.lemmas.Bool.Decides.{nat_tests}
use Rattle.sim_base.specs.declared.numbering.DeclNo.{DeclNo}
use Rattle.sim_tree.specs.declared.expr.Identifier.{Identifier}
use Rattle.sim_tree.specs.declared.stmt.TypeName.{TypeName}
use Rattle.sim_tree.specs.declared.stmt.TypeName.TheVariants as type_name
use Rattle.sim_tree.specs.declared.stmt.Variable.{Variable}
use Rattle.sim_tree.specs.Named.{named}
use Rattle.sim_tree.specs.Syntax.{Also, Arms, Arrayed, Arrays, Begin, Block, BoundPair, Declarations, DeclareClass, DeclareProcedure, Element, Expression, Heading, Interface, NoArm, NoDeclaration, NoStatement, Prefix, Schedule, Specification, Specified, Statement, Statements, Variables, Virtual, When, With, Expressions}
use Rattle.sim_tree.specs.Syntax as syntax
use Rattle.sim_scope.specs.declared.types.StandardPrefix.{StandardPrefix}
use Rattle.sim_scope.specs.declared.types.StandardPrefix.TheVariants as prefixes
use Rattle.sim_scope.specs.declared.scopes.Declaration.{Declaration}
use Rattle.sim_scope.specs.Source.{Source}
use Rattle.sim_meaning.specs.Texts.{BlockText, ClassText, Text, arms_texts, block_texts, declaration_texts, declarations_texts, declared_at, number_from, program_texts, statement_texts, statements_texts, text, prefix_texts, PrefixedText, prefixed_texts}
use Rattle.sim_sound.specs.Held.{Among, first, later}
use Rattle.sim_sound.specs.Typed.{Distinct, arrays_in_segments, arrays_named, arrays_of_block, of_option}
use Rattle.sim_tree.specs.Order.{Ascends, Behind, Spot, Token, in_bounds, in_each, in_element, in_expression, in_name, in_result, in_schedule, in_segment, in_side, in_type, in_variable, tokens, in_prefix}
use Rattle.sim_agree.specs.Order.{InOrder, in_arms, in_block, in_declarations, in_heading, in_specification, in_specified, in_statement, in_statements, in_virtual}
use Rattle.sim_agree.proofs.StandardPrefixes.{behind_prefix, brought_texts}

-- ---- tokens between two

abbrev pub Between : ℕ → List ℕ → ℕ → Type 0
Between i [] j = i ≤ j
Between i (x ∷ xs) j = (i ≤ x) × Between (x + 1) xs j

pub between_le : (xs : List ℕ) (i j : ℕ) → Between i xs j → i ≤ j
between_le [] i j b = b
between_le (x ∷ xs) i j b = let lo : i ≤ x = b.0 in let hi : x + 1 ≤ j = between_le xs (x + 1) j b.1 in omega arith

between_lower : (xs : List ℕ) (i k j : ℕ) → i ≤ k → Between k xs j → Between i xs j
between_lower [] i k j le b = let hi : k ≤ j = b in omega arith
between_lower (x ∷ xs) i k j le b = ((let lo : k ≤ x = b.0 in omega arith), b.1)

between_both : (xs ys : List ℕ) (i j k : ℕ) → Between i xs j → Between j ys k → Between i (xs ++ ys) k
between_both [] ys i j k a b = between_lower ys i j k a b
between_both (x ∷ xs) ys i j k a b = (a.0, between_both xs ys (x + 1) j k a.1 b)

pub between_split : (xs ys : List ℕ) (i k : ℕ) → Between i (xs ++ ys) k → (j : ℕ) × Between i xs j × Between j ys k
between_split [] ys i k b = (i, (let z : i ≤ i = omega arith in z), b)
between_split (x ∷ xs) ys i k b = let q = between_split xs ys (x + 1) k b.1 in (q.0, (b.0, q.1), q.2)

-- ---- what a block declares

abbrev pub name_tokens : List Identifier → List ℕ
name_tokens [] = []
name_tokens (x ∷ xs) = x.token.0 ∷ name_tokens xs

abbrev pub variable_tokens : List Variable → List ℕ
variable_tokens [] = []
variable_tokens (v ∷ vs) = v.name.token.0 ∷ variable_tokens vs

abbrev pub segment_tokens : List Arrayed → List ℕ
segment_tokens [] = []
segment_tokens (a ∷ more) = name_tokens a.names ++ segment_tokens more

abbrev pub own_tokens : Declarations → List ℕ
own_tokens NoDeclaration = []
own_tokens (With (Variables type vs) ds) = variable_tokens vs ++ own_tokens ds
own_tokens (With (Arrays type i segments) ds) = segment_tokens segments ++ own_tokens ds
own_tokens (With (DeclareProcedure result i h a e) ds) = own_tokens ds
own_tokens (With (DeclareClass prefix i h interface a e) ds) = own_tokens ds

abbrev pub TextInOrder : Text → Type 0
TextInOrder (BlockText i ds ss) = (a : ℕ) × (b : ℕ) × Between a (own_tokens ds) b
TextInOrder (ClassText prefix h ds ss) = (a : ℕ) × (b : ℕ) × Between a (own_tokens ds) b
TextInOrder (PrefixedText class es ds ss) = (a : ℕ) × (b : ℕ) × Between a (own_tokens ds) b
TextInOrder _ = Unit {0}

abbrev AllInOrder : List Text → Type 0
AllInOrder [] = Unit {0}
AllInOrder (x ∷ xs) = TextInOrder x × AllInOrder xs

prefix_past : (prefix : Option Identifier) (i : ℕ) (l : List Spot) → Ascends i (in_prefix prefix l) → (j : ℕ) × (i ≤ j) × Ascends j l
prefix_past None i l a = (i, (let z : i ≤ i = omega arith in z), a)
prefix_past (Some class) i l a = (class.token.0 + 1, (let z : i ≤ class.token.0 = a.0 in let y : i ≤ class.token.0 + 1 = omega arith in y), a.1)

-- behind the texts of a prefix
past_prefix : (prefix : Option Identifier) (xs : List Text) → AllInOrder xs → AllInOrder (prefix_texts prefix ++ xs)
past_prefix prefix xs a = behind_prefix AllInOrder prefix xs a go
  where
    go : (p : StandardPrefix) → AllInOrder (brought_texts p ++ xs)
    go prefixes.Simset = (tt, (tt, (tt, a)))
    go prefixes.Simulation = (tt, (tt, (tt, (tt, a))))

all_both : (xs ys : List Text) → AllInOrder xs → AllInOrder ys → AllInOrder (xs ++ ys)
all_both [] ys a b = b
all_both (x ∷ xs) ys a b = (a.0, all_both xs ys a.1 b)

-- ---- past one part after the other

tokens_past : (is : List ℕ) (i : ℕ) (l : List Spot) → Ascends i (tokens is l) → (j : ℕ) × (i ≤ j) × Ascends j l
tokens_past [] i l a = (i, (let z : i ≤ i = omega arith in z), a)
tokens_past (x ∷ is) i l a = let q = tokens_past is (x + 1) l a.1 in let lo : i ≤ x = a.0 in let hi : x + 1 ≤ q.0 = q.1 in (q.0, omega arith, q.2)

Past : (List Spot → List Spot) → Type 0
Past f = (i : ℕ) (l : List Spot) → Ascends i (f l) → (j : ℕ) × (i ≤ j) × Ascends j l

expression_past : (e : Expression) → Past (in_expression e)
unfolding Past
expression_past e i l a = tokens_past (named e []) i l a

two_past : (f g : List Spot → List Spot) → Past f → Past g → Past (λ l. f (g l))
unfolding Past
two_past f g p q i l a = let r = p i (g l) a in let t = q r.0 l r.2 in let lo : i ≤ r.0 = r.1 in let hi : r.0 ≤ t.0 = t.1 in (t.0, omega arith, t.2)

each_past : {A : Type 0} (f : A → List Spot → List Spot) → ((x : A) → Past (f x)) → (xs : List A) → Past (in_each f xs)
unfolding Past
each_past f one [] i l a = (i, (let z : i ≤ i = omega arith in z), a)
each_past f one (x ∷ xs) i l a = let r = one x i (in_each f xs l) a in let t = each_past f one xs r.0 l r.2 in let lo : i ≤ r.0 = r.1 in let hi : r.0 ≤ t.0 = t.1 in (t.0, omega arith, t.2)

schedule_past : (e : Schedule) → Past (in_schedule e)
unfolding Past
schedule_past syntax.Now i l h = (i, (let z : i ≤ i = omega arith in z), h)
schedule_past (syntax.At n a prior) i l h = expression_past a i l h
schedule_past (syntax.Delay n a prior) i l h = expression_past a i l h
schedule_past (syntax.Before n a) i l h = expression_past a i l h
schedule_past (syntax.After n a) i l h = expression_past a i l h

element_past : (e : Element) → Past (in_element e)
unfolding Past
element_past (syntax.Once a) i l h = expression_past a i l h
element_past (syntax.Step a n b c) i l h = two_past (in_expression a) (λ m. in_expression b (in_expression c m)) (expression_past a) (two_past (in_expression b) (in_expression c) (expression_past b) (expression_past c)) i l h
element_past (syntax.While a n b) i l h = two_past (in_expression a) (in_expression b) (expression_past a) (expression_past b) i l h

bounds_past : (b : BoundPair) → Past (in_bounds b)
bounds_past b = two_past (in_expression b.lower) (in_expression b.upper) (expression_past b.lower) (expression_past b.upper)

type_past : (type : TypeName) → Past (in_type type)
unfolding Past
type_past (type_name.Reference n class) i l a = (class.token.0 + 1, (let lo : i ≤ class.token.0 = a.0 in omega arith), a.1)
type_past (type_name.Integer n) i l a = (i, (let z : i ≤ i = omega arith in z), a)
type_past (type_name.Boolean n) i l a = (i, (let z : i ≤ i = omega arith in z), a)
type_past (type_name.Character n) i l a = (i, (let z : i ≤ i = omega arith in z), a)
type_past (type_name.Text n) i l a = (i, (let z : i ≤ i = omega arith in z), a)

result_past : (result : Option TypeName) → Past (in_result result)
unfolding Past
result_past None i l a = (i, (let z : i ≤ i = omega arith in z), a)
result_past (Some type) i l a = type_past type i l a

name_past : (x : Identifier) → Past (in_name x)
unfolding Past
name_past x i l a = (x.token.0 + 1, (let lo : i ≤ x.token.0 = a.0 in omega arith), a.1)

virtual_past : (v : Virtual) → Past (in_virtual v)
virtual_past v = two_past (in_result v.result) (in_each in_name v.names) (result_past v.result) (each_past in_name name_past v.names)

specification_past : (x : Specification) → Past (in_specification x)
specification_past x = go x.kind
  where
    go : (k : Specified) → Past (in_specified k)
    go (syntax.Simple type) = type_past type
    go (syntax.Array type i) = type_past type
    go (syntax.Procedure result i) = result_past result

names_between : (xs : List Identifier) (i : ℕ) (l : List Spot) → Ascends i (in_each in_name xs l) → (j : ℕ) × Between i (name_tokens xs) j × Ascends j l
names_between [] i l a = (i, (let z : i ≤ i = omega arith in z), a)
names_between (x ∷ xs) i l a = let q = names_between xs (x.token.0 + 1) l a.1 in (q.0, (a.0, q.1), q.2)

heading_past : (h : Heading) (i : ℕ) (l : List Spot) → Ascends i (in_heading h l) → (j : ℕ) × (i ≤ j) × Ascends j l
unfolding Past
heading_past h i l a =
    let q = names_between h.formals i (in_each in_specification h.specifications l) a in
    let r = each_past in_specification specification_past h.specifications q.0 l q.2 in
    let one : i ≤ q.0 = between_le (name_tokens h.formals) i q.0 q.1 in
    let two : q.0 ≤ r.0 = r.1 in
    (r.0, omega arith, r.2)

variables_between : (vs : List Variable) (i : ℕ) (l : List Spot) → Ascends i (in_each in_variable vs l) → (j : ℕ) × Between i (variable_tokens vs) j × Ascends j l
variables_between [] i l a = (i, (let z : i ≤ i = omega arith in z), a)
variables_between (v ∷ vs) i l a = let q = variables_between vs (v.name.token.0 + 1) l a.1 in (q.0, (a.0, q.1), q.2)

between_up : (xs : List ℕ) (i j k : ℕ) → j ≤ k → Between i xs j → Between i xs k
between_up [] i j k le b = let lo : i ≤ j = b in omega arith
between_up (x ∷ xs) i j k le b = (b.0, between_up xs (x + 1) j k le b.1)

segments_between : (xs : List Arrayed) (i : ℕ) (l : List Spot) → Ascends i (in_each in_segment xs l) → (j : ℕ) × Between i (segment_tokens xs) j × Ascends j l
unfolding Past
segments_between [] i l a = (i, (let z : i ≤ i = omega arith in z), a)
segments_between (x ∷ xs) i l a =
    let p = names_between x.names i (in_each in_bounds x.bounds (in_each in_segment xs l)) a in
    let q = each_past in_bounds bounds_past x.bounds p.0 (in_each in_segment xs l) p.2 in
    let t = segments_between xs q.0 l q.2 in
    (t.0, between_both (name_tokens x.names) (segment_tokens xs) i q.0 t.0 (between_up (name_tokens x.names) i p.0 q.0 q.1 p.1) t.1, t.2)

mutual
  unfolding Past

  statement_past : (st : Statement) → (i : ℕ) (l : List Spot) → Ascends i (in_statement st l) → (j : ℕ) × (i ≤ j) × Ascends j l × AllInOrder (statement_texts st)
  statement_past (syntax.Empty n) i l a = (i, (let z : i ≤ i = omega arith in z), a, tt)
  statement_past (syntax.Compound b) i l a = block_past b i l a
  statement_past (syntax.Call e) i l a = let q = expression_past e i l a in (q.0, q.1, q.2, tt)
  statement_past (syntax.Assign e sides) i l a = let q = two_past (in_expression e) (in_each in_side sides) (expression_past e) (each_past in_side (λ x. expression_past x.value) sides) i l a in (q.0, q.1, q.2, tt)
  statement_past (syntax.Choose n c x rest) i l a =
      let q = expression_past c i (in_statement x (in_statements rest l)) a in
      let r = statement_past x q.0 (in_statements rest l) q.2 in
      let t = statements_past rest r.0 l r.2 in
      let one : i ≤ q.0 = q.1 in let two : q.0 ≤ r.0 = r.1 in let three : r.0 ≤ t.0 = t.1 in
      (t.0, omega arith, t.2, all_both (statement_texts x) (statements_texts rest) r.3 t.3)
  statement_past (syntax.Repeat n c x) i l a =
      let q = expression_past c i (in_statement x l) a in
      let r = statement_past x q.0 l q.2 in let one : i ≤ q.0 = q.1 in let two : q.0 ≤ r.0 = r.1 in (r.0, omega arith, r.2, r.3)
  statement_past (syntax.For n y sign m es x) i l a =
      let q = each_past in_element element_past es (y.token.0 + 1) (in_statement x l) a.1 in
      let r = statement_past x q.0 l q.2 in
      let zero_ : i ≤ y.token.0 = a.0 in let one : y.token.0 + 1 ≤ q.0 = q.1 in let two : q.0 ≤ r.0 = r.1 in (r.0, omega arith, r.2, r.3)
  statement_past (syntax.Prefixed y args b) i l a = prefixed_past y args b i l a
  statement_past (syntax.Inner n) i l a = (n + 1, (let le : i ≤ n = a.0 in omega arith), a.1, tt)
  statement_past (syntax.Inspect n object d x e rest) i l a =
      let q = expression_past object i (Token d ∷ in_statement x (Behind e ∷ in_statements rest l)) a in
      let r = statement_past x (d + 1) (Behind e ∷ in_statements rest l) q.2.1 in
      let t = statements_past rest e l r.2.1 in
      let one : i ≤ q.0 = q.1 in let two : q.0 ≤ d = q.2.0 in let three : d + 1 ≤ r.0 = r.1 in let four : r.0 ≤ e = r.2.0 in let five : e ≤ t.0 = t.1 in
      (t.0, omega arith, t.2, (tt, all_both (statement_texts x) (statements_texts rest) r.3 t.3))
  statement_past (syntax.InspectWhen n object whens rest) i l a =
      let q = expression_past object i (in_arms whens (in_statements rest l)) a in
      let r = arms_past whens q.0 (in_statements rest l) q.2 in
      let t = statements_past rest r.0 l r.2 in
      let one : i ≤ q.0 = q.1 in let two : q.0 ≤ r.0 = r.1 in let three : r.0 ≤ t.0 = t.1 in
      (t.0, omega arith, t.2, all_both (arms_texts whens) (statements_texts rest) r.3 t.3)
  statement_past (syntax.Activate n word process schedule) i l a =
      let q = two_past (in_expression process) (in_schedule schedule) (expression_past process) (schedule_past schedule) (n + 1) l a.1 in
      let zero_ : i ≤ n = a.0 in let one : n + 1 ≤ q.0 = q.1 in (q.0, omega arith, q.2, tt)

  arms_past : (arms : Arms) → (i : ℕ) (l : List Spot) → Ascends i (in_arms arms l) → (j : ℕ) × (i ≤ j) × Ascends j l × AllInOrder (arms_texts arms)
  arms_past NoArm i l a = (i, (let z : i ≤ i = omega arith in z), a, tt)
  arms_past (When n class d x e more) i l a =
      let r = statement_past x (d + 1) (Behind e ∷ in_arms more l) a.1.1 in
      let t = arms_past more e l r.2.1 in
      let one : i ≤ class.token.0 = a.0 in let two : class.token.0 + 1 ≤ d = a.1.0 in let three : d + 1 ≤ r.0 = r.1 in let four : r.0 ≤ e = r.2.0 in let five : e ≤ t.0 = t.1 in
      (t.0, omega arith, t.2, (tt, all_both (statement_texts x) (arms_texts more) r.3 t.3))

  statements_past : (ss : Statements) → (i : ℕ) (l : List Spot) → Ascends i (in_statements ss l) → (j : ℕ) × (i ≤ j) × Ascends j l × AllInOrder (statements_texts ss)
  statements_past NoStatement i l a = (i, (let z : i ≤ i = omega arith in z), a, tt)
  statements_past (Also x more) i l a =
      let q = statement_past x i (in_statements more l) a in
      let r = statements_past more q.0 l q.2 in let one : i ≤ q.0 = q.1 in let two : q.0 ≤ r.0 = r.1 in (r.0, omega arith, r.2, all_both (statement_texts x) (statements_texts more) q.3 r.3)

  prefixed_past : (class : Identifier) (args : Expressions) (b : Block) → (i : ℕ) (l : List Spot) → Ascends i (in_expression (syntax.Named class args) (in_block b l)) → (j : ℕ) × (i ≤ j) × Ascends j l × AllInOrder (prefixed_texts class args b)
  prefixed_past class args (Begin m ds ss e) i l a =
      let u = expression_past (syntax.Named class args) i (in_block (Begin m ds ss e) l) a in
      let q = declarations_past ds (m + 1) (in_statements ss (Behind e ∷ l)) u.2.1 in
      let r = statements_past ss q.0 (Behind e ∷ l) q.2 in
      let zero_ : i ≤ u.0 = u.1 in
      let first_ : u.0 ≤ m = u.2.0 in
      let one : m + 1 ≤ q.0 = between_le (own_tokens ds) (m + 1) q.0 q.1 in
      let two : q.0 ≤ r.0 = r.1 in
      let three : r.0 ≤ e = r.2.0 in
      (e, omega arith, r.2.1, ((m + 1, q.0, q.1), past_prefix (Some class) (declarations_texts ds ++ statements_texts ss) (all_both (declarations_texts ds) (statements_texts ss) q.3 r.3)))

  block_past : (b : Block) → (i : ℕ) (l : List Spot) → Ascends i (in_block b l) → (j : ℕ) × (i ≤ j) × Ascends j l × AllInOrder (block_texts b)
  block_past (Begin n NoDeclaration ss e) i l a =
      let q = statements_past ss (n + 1) (Behind e ∷ l) a.1 in
      let zero_ : i ≤ n = a.0 in let one : n + 1 ≤ q.0 = q.1 in let two : q.0 ≤ e = q.2.0 in (e, omega arith, q.2.1, q.3)
  block_past (Begin n (With d ds) ss e) i l a =
      let q = declarations_past (With d ds) (n + 1) (in_statements ss (Behind e ∷ l)) a.1 in
      let r = statements_past ss q.0 (Behind e ∷ l) q.2 in
      let zero_ : i ≤ n = a.0 in
      let one : n + 1 ≤ q.0 = between_le (own_tokens (With d ds)) (n + 1) q.0 q.1 in
      let two : q.0 ≤ r.0 = r.1 in
      let three : r.0 ≤ e = r.2.0 in
      (e, omega arith, r.2.1, ((n + 1, q.0, q.1), subst AllInOrder (append_assoc (declaration_texts d) (declarations_texts ds) (statements_texts ss)) (all_both (declarations_texts (With d ds)) (statements_texts ss) q.3 r.3)))

  declarations_past : (ds : Declarations) → (i : ℕ) (l : List Spot) → Ascends i (in_declarations ds l) → (j : ℕ) × Between i (own_tokens ds) j × Ascends j l × AllInOrder (declarations_texts ds)
  declarations_past NoDeclaration i l a = (i, (let z : i ≤ i = omega arith in z), a, tt)
  declarations_past (With (Variables type vs) ds) i l a =
      let t = type_past type i (in_each in_variable vs (in_declarations ds l)) a in
      let q = variables_between vs t.0 (in_declarations ds l) t.2 in
      let r = declarations_past ds q.0 l q.2 in
      (r.0, between_both (variable_tokens vs) (own_tokens ds) i q.0 r.0 (between_lower (variable_tokens vs) i t.0 q.0 t.1 q.1) r.1, r.2, r.3)
  declarations_past (With (Arrays type n segments) ds) i l a =
      let t = type_past type i (in_each in_segment segments (in_declarations ds l)) a in
      let q = segments_between segments t.0 (in_declarations ds l) t.2 in
      let r = declarations_past ds q.0 l q.2 in
      (r.0, between_both (segment_tokens segments) (own_tokens ds) i q.0 r.0 (between_lower (segment_tokens segments) i t.0 q.0 t.1 q.1) r.1, r.2, r.3)
  declarations_past (With (DeclareProcedure result n h x e) ds) i l a =
      let u = result_past result i (Token h.name.token.0 ∷ in_heading h (in_statement x (Behind e ∷ in_declarations ds l))) a in
      let q = heading_past h (h.name.token.0 + 1) (in_statement x (Behind e ∷ in_declarations ds l)) u.2.1 in
      let r = statement_past x q.0 (Behind e ∷ in_declarations ds l) q.2 in
      let t = declarations_past ds e l r.2.1 in
      let first_ : i ≤ u.0 = u.1 in
      let zero_ : u.0 ≤ h.name.token.0 = u.2.0 in
      let one : h.name.token.0 + 1 ≤ q.0 = q.1 in
      let two : q.0 ≤ r.0 = r.1 in
      let three : r.0 ≤ e = r.2.0 in
      (t.0, between_lower (own_tokens ds) i e t.0 (omega arith) t.1, t.2, (tt, all_both (statement_texts x) (declarations_texts ds) r.3 t.3))
  declarations_past (With (DeclareClass prefix n h interface x e) ds) i l a =
      let u = prefix_past prefix i (in_name h.name (in_heading h (in_each in_virtual interface.virtuals (in_statement x (Behind e ∷ in_declarations ds l))))) a in
      let q = heading_past h (h.name.token.0 + 1) (in_each in_virtual interface.virtuals (in_statement x (Behind e ∷ in_declarations ds l))) u.2.1 in
      let v = each_past in_virtual virtual_past interface.virtuals q.0 (in_statement x (Behind e ∷ in_declarations ds l)) q.2 in
      let r = class_past prefix n h interface x e v.0 (Behind e ∷ in_declarations ds l) v.2 (λ j m b. statement_past x j m b) in
      let t = declarations_past ds e l r.2.1 in
      let first_ : i ≤ u.0 = u.1 in
      let zero_ : u.0 ≤ h.name.token.0 = u.2.0 in
      let one : h.name.token.0 + 1 ≤ q.0 = q.1 in
      let past : q.0 ≤ v.0 = v.1 in
      let two : v.0 ≤ r.0 = r.1 in
      let three : r.0 ≤ e = r.2.0 in
      (t.0, between_lower (own_tokens ds) i e t.0 (omega arith) t.1, t.2, all_both (declaration_texts (DeclareClass prefix n h interface x e)) (declarations_texts ds) r.3 t.3)

  -- the body of a class
  class_past : (prefix : Option Identifier) (n : ℕ) (h : Heading) (interface : Interface) (x : Statement) (e : ℕ) → (i : ℕ) (l : List Spot) → Ascends i (in_statement x l)
      → ((i : ℕ) (l : List Spot) → Ascends i (in_statement x l) → (j : ℕ) × (i ≤ j) × Ascends j l × AllInOrder (statement_texts x)) → (j : ℕ) × (i ≤ j) × Ascends j l × AllInOrder (declaration_texts (DeclareClass prefix n h interface x e))
  class_past prefix n h interface (syntax.Compound (Begin m ds ss k)) e i l a one =
      let q = declarations_past ds (m + 1) (in_statements ss (Behind k ∷ l)) a.1 in
      let r = statements_past ss q.0 (Behind k ∷ l) q.2 in
      let zero_ : i ≤ m = a.0 in
      let first_ : m + 1 ≤ q.0 = between_le (own_tokens ds) (m + 1) q.0 q.1 in
      let two : q.0 ≤ r.0 = r.1 in
      let three : r.0 ≤ k = r.2.0 in
      (k, omega arith, r.2.1, ((m + 1, q.0, q.1), past_prefix prefix (declarations_texts ds ++ statements_texts ss) (all_both (declarations_texts ds) (statements_texts ss) q.3 r.3)))
  class_past prefix n h interface (syntax.Empty m) e i l a one = let q = one i l a in (q.0, q.1, q.2, ((0, 0, (let z : 0 ≤ 0 = omega arith in z)), past_prefix prefix (statement_texts (syntax.Empty m)) q.3))
  class_past prefix n h interface (syntax.Inner m) e i l a one = let q = one i l a in (q.0, q.1, q.2, ((0, 0, (let z : 0 ≤ 0 = omega arith in z)), past_prefix prefix (statement_texts (syntax.Inner m)) q.3))
  class_past prefix n h interface (syntax.Call c) e i l a one = let q = one i l a in (q.0, q.1, q.2, ((0, 0, (let z : 0 ≤ 0 = omega arith in z)), past_prefix prefix (statement_texts (syntax.Call c)) q.3))
  class_past prefix n h interface (syntax.Assign c sides) e i l a one = let q = one i l a in (q.0, q.1, q.2, ((0, 0, (let z : 0 ≤ 0 = omega arith in z)), past_prefix prefix (statement_texts (syntax.Assign c sides)) q.3))
  class_past prefix n h interface (syntax.Choose m c y rest) e i l a one = let q = one i l a in (q.0, q.1, q.2, ((0, 0, (let z : 0 ≤ 0 = omega arith in z)), past_prefix prefix (statement_texts (syntax.Choose m c y rest)) q.3))
  class_past prefix n h interface (syntax.Repeat m c y) e i l a one = let q = one i l a in (q.0, q.1, q.2, ((0, 0, (let z : 0 ≤ 0 = omega arith in z)), past_prefix prefix (statement_texts (syntax.Repeat m c y)) q.3))
  class_past prefix n h interface (syntax.For m y sign o es z) e i l a one = let q = one i l a in (q.0, q.1, q.2, ((0, 0, (let z : 0 ≤ 0 = omega arith in z)), past_prefix prefix (statement_texts (syntax.For m y sign o es z)) q.3))
  class_past prefix n h interface (syntax.Inspect m object d y k rest) e i l a one = let q = one i l a in (q.0, q.1, q.2, ((0, 0, (let z : 0 ≤ 0 = omega arith in z)), past_prefix prefix (statement_texts (syntax.Inspect m object d y k rest)) q.3))
  class_past prefix n h interface (syntax.InspectWhen m object arms rest) e i l a one = let q = one i l a in (q.0, q.1, q.2, ((0, 0, (let z : 0 ≤ 0 = omega arith in z)), past_prefix prefix (statement_texts (syntax.InspectWhen m object arms rest)) q.3))
  class_past prefix n h interface (syntax.Prefixed y args b) e i l a one = let q = one i l a in (q.0, q.1, q.2, ((0, 0, (let z : 0 ≤ 0 = omega arith in z)), past_prefix prefix (statement_texts (syntax.Prefixed y args b)) q.3))
  class_past prefix n h interface (syntax.Activate m word process schedule) e i l a one = let q = one i l a in (q.0, q.1, q.2, ((0, 0, (let z : 0 ≤ 0 = omega arith in z)), past_prefix prefix (statement_texts (syntax.Activate m word process schedule)) q.3))

-- each text of a program
pub text_in_order : (s : Source) → InOrder s.program → (k : ℕ) (x : Text) → text s k ≡ Some x → TextInOrder x
unfolding text
text_in_order s order k x at = among (program_texts s.program.prefix s.program.block) k (all s.program.prefix s.program.block order) at
  where
    among : (xs : List Text) (k : ℕ) → AllInOrder xs → slice_get xs k ≡ Some x → TextInOrder x
    among [] k a at = absurd (cc)
    among (y ∷ xs) zero a at = subst TextInOrder (let e : y ≡ x = cc in e) a.0
    among (y ∷ xs) (suc k) a at = among xs k a.1 at

    all : (prefix : Option Prefix) (b : Block) → Ascends 0 (in_block b []) → AllInOrder (program_texts prefix b)
    all (Some p) (Begin i ds ss end) a =
        let d = declarations_past ds (i + 1) (in_statements ss (Behind end ∷ [])) a.1 in
        let r = statements_past ss d.0 (Behind end ∷ []) d.2 in ((i + 1, d.0, d.1), past_prefix (Some p.class) (declarations_texts ds ++ statements_texts ss) (all_both (declarations_texts ds) (statements_texts ss) d.3 r.3))
    all None (Begin i ds ss end) a =
        let d = declarations_past ds (i + 1) (in_statements ss (Behind end ∷ [])) a.1 in
        let r = statements_past ss d.0 (Behind end ∷ []) d.2 in ((i + 1, d.0, d.1), all_both (declarations_texts ds) (statements_texts ss) d.3 r.3)

-- ---- the arrays of a block are distinct

number_found : (token n : ℕ) (ds : List Declaration) (d : DeclNo) → number_from n token ds ≡ Some d → (i : ℕ) × (row : Declaration) × (d.0 ≡ n + i) × (slice_get ds i ≡ Some row) × (row.token.0 ≡ token)
number_found token n [] d e = absurd (cc)
number_found token n (y ∷ ds) d e = go (y.token.0 == token) refl e (λ q. number_found token (n + 1) ds d q)
  where
    some_same : (a b : DeclNo) → Some a ≡ Some b → a ≡ b
    some_same a b q = cc

    go : (c : Bool) → (y.token.0 == token) ≡ c → (if c then Some (record { 0 = n }) else number_from (n + 1) token ds) ≡ Some d
        → (number_from (n + 1) token ds ≡ Some d → (i : ℕ) × (row : Declaration) × (d.0 ≡ n + 1 + i) × (slice_get ds i ≡ Some row) × (row.token.0 ≡ token))
        → (i : ℕ) × (row : Declaration) × (d.0 ≡ n + i) × (slice_get (y ∷ ds) i ≡ Some row) × (row.token.0 ≡ token)
    go true same e rest =
        let f : d.0 ≡ n = ap (λ (z : DeclNo). z.0) (sym (some_same (record { 0 = n }) d e)) in
        (zero, y, (let z : d.0 ≡ n + 0 = omega (arith, f) in z), refl, (let P : y.token.0 ≡ token = grind (arith, nat_tests) in P))
    go false same e rest = let q = rest e in let f : d.0 ≡ n + 1 + q.0 = q.2 in (suc q.0, q.1, (let z : d.0 ≡ n + suc q.0 = omega (arith, f) in z), q.3, q.4)

pub declared_row : (s : Source) (token : ℕ) (d : DeclNo) → declared_at s token ≡ Some d → (row : Declaration) × (slice_get s.tables.declarations d.0 ≡ Some row) × (row.token.0 ≡ token)
unfolding declared_at
declared_row s token d e =
    let q = number_found token 0 s.tables.declarations d e in
    let f : d.0 ≡ 0 + q.0 = q.2 in
    (q.1, subst (λ z. slice_get s.tables.declarations z ≡ Some q.1) (let z : q.0 ≡ d.0 = omega (arith, f) in z) q.3, q.4)

module _ (s : Source) where
  -- a declaration at a token that is not in front of this one
  abbrev Above : ℕ → DeclNo → Type 0
  Above i d = (row : Declaration) × (slice_get s.tables.declarations d.0 ≡ Some row) × (i ≤ row.token.0)

  abbrev AllAbove : ℕ → List DeclNo → Type 0
  AllAbove i [] = Unit {0}
  AllAbove i (d ∷ ds) = Above i d × AllAbove i ds

  lower_above : (i j : ℕ) → i ≤ j → (ds : List DeclNo) → AllAbove j ds → AllAbove i ds
  lower_above i j le [] a = tt
  lower_above i j le (d ∷ ds) a = ((a.0.0, a.0.1, (let z : j ≤ a.0.0.token.0 = a.0.2 in omega arith)), lower_above i j le ds a.1)

  abbrev Apart : ℕ → List DeclNo → Type 0
  Apart i ds = Distinct ds × AllAbove i ds

  among_above : (i : ℕ) (d : DeclNo) (ds : List DeclNo) → AllAbove i ds → Among d ds → Above i d
  among_above i d (e ∷ ds) a first = a.0
  among_above i d (e ∷ ds) a (later b) = among_above i d ds a.1 b
  among_above i d [] a b = elim b [ ]

  one_apart : (o : Option DeclNo) (token i j : ℕ) (ds : List DeclNo) → declared_at s token ≡ o → i ≤ token → token + 1 ≤ j → Apart j ds → Apart i (of_option o ds)
  one_apart None token i j ds e lo hi a = (a.0, lower_above i j (omega arith) ds a.1)
  one_apart (Some d) token i j ds e lo hi a =
      let r = declared_row s token d e in
      ((λ b. away r.0 r.1 r.2 (among_above j d ds a.1 b), a.0), ((r.0, r.1, (let z : r.0.token.0 ≡ token = r.2 in omega arith)), lower_above i j (omega arith) ds a.1))
    where
      away : (row : Declaration) → slice_get s.tables.declarations d.0 ≡ Some row → row.token.0 ≡ token → Above j d → ⊥
      away row at same q =
          let e : row ≡ q.0 = (let f : Some row ≡ Some q.0 = sym at ∙ q.1 in cc) in
          let t : row.token.0 ≡ q.0.token.0 = ap (λ (z : Declaration). z.token.0) e in
          let z : j ≤ q.0.token.0 = q.2 in omega arith

  names_apart : (xs : List Identifier) (i j : ℕ) (more : List DeclNo) → Between i (name_tokens xs) j → Apart j more → Apart i (arrays_named s xs more)
  names_apart [] i j more b a = (a.0, lower_above i j b more a.1)
  names_apart (x ∷ xs) i j more b a =
      one_apart (declared_at s x.token.0) x.token.0 i (x.token.0 + 1) (arrays_named s xs more) refl b.0 (let z : x.token.0 + 1 ≤ x.token.0 + 1 = omega arith in z) (names_apart xs (x.token.0 + 1) j more b.1 a)

  segments_apart : (as_ : List Arrayed) (i j : ℕ) (more : List DeclNo) → Between i (segment_tokens as_) j → Apart j more → Apart i (arrays_in_segments s as_ more)
  segments_apart [] i j more b a = (a.0, lower_above i j b more a.1)
  segments_apart (x ∷ as_) i j more b a =
      let q = between_split (name_tokens x.names) (segment_tokens as_) i j b in names_apart x.names i q.0 (arrays_in_segments s as_ more) q.1 (segments_apart as_ q.0 j more q.2 a)

  block_apart : (ds : Declarations) (i j : ℕ) → Between i (own_tokens ds) j → Apart i (arrays_of_block s ds)
  block_apart NoDeclaration i j b = (tt, tt)
  block_apart (With (Variables type vs) ds) i j b =
      let q = between_split (variable_tokens vs) (own_tokens ds) i j b in
      let r = block_apart ds q.0 j q.2 in (r.0, lower_above i q.0 (between_le (variable_tokens vs) i q.0 q.1) (arrays_of_block s ds) r.1)
  block_apart (With (Arrays type n segments) ds) i j b = let q = between_split (segment_tokens segments) (own_tokens ds) i j b in segments_apart segments i q.0 (arrays_of_block s ds) q.1 (block_apart ds q.0 j q.2)
  block_apart (With (DeclareProcedure result n h x e) ds) i j b = block_apart ds i j b
  block_apart (With (DeclareClass prefix n h interface x e) ds) i j b = block_apart ds i j b

  pub distinct : InOrder s.program → (k i : ℕ) (ds : Declarations) (ss : Statements) → text s k ≡ Some (BlockText i ds ss) → Distinct (arrays_of_block s ds)
  distinct order k i ds ss at = let q = text_in_order s order k (BlockText i ds ss) at in (block_apart ds q.0 q.1 q.2).0

  pub distinct_class : InOrder s.program → (k : ℕ) (prefix : Option Identifier) (h : Heading) (ds : Declarations) (ss : Statements) → text s k ≡ Some (ClassText prefix h ds ss) → Distinct (arrays_of_block s ds)
  distinct_class order k prefix h ds ss at = let q = text_in_order s order k (ClassText prefix h ds ss) at in (block_apart ds q.0 q.1 q.2).0

  pub distinct_prefixed : InOrder s.program → (k : ℕ) (class : Identifier) (es : Expressions) (ds : Declarations) (ss : Statements) → text s k ≡ Some (PrefixedText class es ds ss) → Distinct (arrays_of_block s ds)
  distinct_prefixed order k class es ds ss at = let q = text_in_order s order k (PrefixedText class es ds ss) at in (block_apart ds q.0 q.1 q.2).0
