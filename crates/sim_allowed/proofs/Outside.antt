-- No class is found through a connection: a class that is connected declares none.
use Rattle.std.proofs.Common.{◌≡◌, ℕ, Bool, true, false, List, [], ◌∷◌, ◌++◌, length, Option, Some, None, refl, sym, ap, ◌∙◌, subst, if◌then◌else◌}
use Rattle.std.proofs.lemmas.Bool.{false≢true}
use Rattle.std.specs.Prelude.{nat_eq}
use Rattle.sim_base.specs.declared.numbering.DeclNo.{DeclNo}
use Rattle.sim_base.specs.declared.rule.Rule.TheVariants as r
use Rattle.sim_tree.specs.declared.expr.Identifier.{Identifier}
use Rattle.sim_agree.specs.Order.{InOrder}
use Rattle.sim_tree.specs.Syntax.{Also, Arms, Arrays, Begin, Block, Declaration, Declarations, DeclareClass, DeclareProcedure, Expression, NoArm, NoDeclaration, NoStatement, Statement, Statements, Variables, When, With}
use Rattle.sim_tree.specs.Syntax as syntax
use Rattle.sim_scope.specs.declared.outcome.Extent.TheVariants as extent
use Rattle.sim_scope.specs.declared.outcome.Side.{Side}
use Rattle.sim_scope.specs.declared.scopes.Denotation.{Denotation}
use Rattle.sim_scope.specs.declared.scopes.Denotation.TheVariants as denotation
use Rattle.sim_scope.specs.declared.types.Entry.TheVariants as entry
use Rattle.sim_scope.specs.declared.types.Position.{Position}
use Rattle.sim_scope.specs.declared.types.Position.TheVariants.{ClassBody, ClassStatement, Inside}
use Rattle.sim_scope.specs.declared.types.SimType.{SimType}
use Rattle.sim_scope.specs.declared.types.SimType.TheVariants as t
use Rattle.sim_scope.specs.Access.{block_at, encloser}
use Rattle.sim_scope.specs.Along.{first_along}
use Rattle.sim_scope.specs.Assignments.{fine, wrong}
use Rattle.sim_scope.specs.Calls.{bound, occurs}
use Rattle.sim_scope.specs.Expressions.{judge_side}
use Rattle.sim_scope.specs.Judged.{gives, next, telling}
use Rattle.sim_scope.specs.Levels.{base, class_block, has_classes, has_level, holds_class, level_beyond, some_level_of}
use Rattle.sim_scope.specs.References.{as_class, class_fits, class_named, declared_class}
use Rattle.sim_scope.specs.Runs.{each}
use Rattle.sim_scope.specs.Scopes.{binding, entry_of, found_in, if_found}
use Rattle.sim_scope.specs.Source.{Source, block_of}
use Rattle.sim_scope.specs.Statements.{arm_connected, arm_events, arm_fits, class_connected, connected_by, inspect_events, inspect_when_events, judging, needs_reference, type_connected, prefixed_events}
use Rattle.sim_scope.specs.Walk.{arm_classes, arms_events, begin_of, block_events, class_events, declaration_events, declarations_events, program_events, statement_events, statements_events, whole_events}
use Rattle.inspect_types.specs.Connecting.{Connecting, Connects, Looks, Names, class_of_name, class_of_type, connections}
use Rattle.sim_meaning.specs.Attributes.{is_connection}
use Rattle.sim_meaning.specs.Texts.{text}
use Rattle.sim_agree.specs.Facts.{FoundThrough}
use Rattle.sim_agree.specs.TablesAgree.{TablesAgree}
use Rattle.sim_agree.specs.TablesOf.{TablesOf}
use Rattle.sim_agree.proofs.Connected.{AllMet, connects_met}
use Rattle.sim_agree.proofs.ClassBlocks.{found_class_held}
use Rattle.sim_allowed.proofs.Said.{AllSay, both_say, next_says}
use Rattle.sim_allowed.proofs.Simulations.{some_holds}
use Rattle.sim_allowed.proofs.Uses.{bound_is}

-- ---- what the rules say of a class that is connected

-- it has no classes
abbrev Fine : Source → Option ℕ → Type 0
Fine s class = (k : ℕ) → class ≡ Some k → has_classes s.tables k ≡ false

no_classes : (s : Source) (token k : ℕ) → AllSay s (class_connected s.tables token (Some k)).events → has_classes s.tables k ≡ false
unfolding wrong telling
no_classes s token k said = go (has_classes s.tables k) refl said
  where
    go : (b : Bool) → has_classes s.tables k ≡ b → AllSay s (if b then wrong token r.ClassWithClasses else fine).events → has_classes s.tables k ≡ false
    go false e said = e
    go true e said = absurd said.0

type_fine : (s : Source) (token : ℕ) (x : Side) (o : Option SimType) → AllSay s (type_connected s.tables token x o).events → Fine s (class_of_type s.tables o)
type_fine s token x (Some (t.Ref class)) said = λ k e. no_classes s token k (subst (λ z. AllSay s (class_connected s.tables token z).events) e said)
type_fine s token x None said = λ k e. absurd (cc)
type_fine s token x (Some t.Integer) said = λ k e. absurd (cc)
type_fine s token x (Some t.Boolean) said = λ k e. absurd (cc)
type_fine s token x (Some t.Character) said = λ k e. absurd (cc)
type_fine s token x (Some t.Text) said = λ k e. absurd (cc)
type_fine s token x (Some t.NoneType) said = λ k e. absurd (cc)

looked_fine : (s : Source) (token : ℕ) (e : Expression) → AllSay s (inspect_events s.tables token e) → Fine s (class_of_type s.tables (judge_side s.tables extent.Statement e).value.ty)
unfolding inspect_events connected_by
looked_fine s token e said =
    let x : Side = (judge_side s.tables extent.Statement e).value in
    type_fine s token (judge_side s.tables extent.Statement e).value (judge_side s.tables extent.Statement e).value.ty (next_says s (judge_side s.tables extent.Statement e) (connected_by s.tables token) said).1

named_fine : (s : Source) (token : ℕ) (v : Side) (x : Identifier) → AllSay s (arm_events s.tables token v x) → Fine s (class_of_name s.tables (binding s.tables x.token.0 x.name))
unfolding arm_events arm_fits class_named as_class next gives
named_fine s token v x said =
    let parts = next_says s (class_named s.tables extent.Statement x) (arm_fits s.tables token v x) said in
    let b = bound_is s extent.Statement x (next_says s (bound s.tables extent.Statement x) (as_class s.tables x.token.0) parts.0).0 in
    let connects = (next_says s (class_fits s.tables x.token.0 (class_named s.tables extent.Statement x).value.denotes v.ty) (λ z. arm_connected s.tables token (class_named s.tables extent.Statement x).value.denotes) parts.1).1 in
    of b.denotation b.binds b.is connects
  where
    of : (d : Denotation) → binding s.tables x.token.0 x.name ≡ Some d → (bound s.tables extent.Statement x).value ≡ occurs (Some d) false → AllSay s (arm_connected s.tables token (class_named s.tables extent.Statement x).value.denotes).events
        → Fine s (class_of_name s.tables (binding s.tables x.token.0 x.name))
    of (denotation.Standard name) binds is said = λ k e. absurd (let f : None ≡ Some k = sym (ap (λ z. class_of_name s.tables z) binds) ∙ e in cc)
    of (denotation.Declared d) binds is said = λ k e. (
        let block : class_block s.tables d ≡ Some k = sym (ap (λ z. class_of_name s.tables z) binds) ∙ e in
        let denotes : (class_named s.tables extent.Statement x).value.denotes ≡ Some (denotation.Declared d) =
        ap (λ z. (as_class s.tables x.token.0 z).value.denotes) is ∙ ap (λ z. (declared_class x.token.0 d false z).value.denotes) block in
        no_classes s token k (subst (λ z. AllSay s (class_connected s.tables token z).events) block (subst (λ z. AllSay s (arm_connected s.tables token z).events) denotes said)))

-- ---- of each object and each arm of a program

abbrev Checked : Source → List Connecting → Type 0
Checked s es = AllMet s (Fine s) es

both_checked : (s : Source) (es fs : List Connecting) → Checked s es → Checked s fs → Checked s (es ++ fs)
both_checked s [] fs a b = b
both_checked s (Looks e ∷ es) fs a b = (a.0, both_checked s es fs a.1 b)
both_checked s (Names x ∷ es) fs a b = (a.0, both_checked s es fs a.1 b)
both_checked s (Connects i ∷ es) fs a b = both_checked s es fs a b

-- what is said of the classes of arms
when_says : (s : Source) (i : ℕ) (e : Expression) (classes : List Identifier) → AllSay s (inspect_when_events s.tables i e classes) → AllSay s (each (arm_events s.tables i (judge_side s.tables extent.Statement e).value) classes)
unfolding inspect_when_events
when_says s i e classes said =
    (both_say s (next (judge_side s.tables extent.Statement e) needs_reference).events (each (arm_events s.tables i (judge_side s.tables extent.Statement e).value) classes) said).1

mutual
  unfolding judging connections

  statement_checked : (s : Source) (q : Position) (a : Statement) → AllSay s (statement_events (judging s.tables) q a) → Checked s (statement_events connections q a)
  statement_checked s q (syntax.Empty i) said = tt
  statement_checked s ClassBody (syntax.Compound b) said = class_checked s b said
  statement_checked s ClassStatement (syntax.Compound b) said = block_checked s b said
  statement_checked s Inside (syntax.Compound b) said = block_checked s b said
  statement_checked s q (syntax.Prefixed x args b) said = whole_checked s b (both_say s (prefixed_events s.tables x args (begin_of b)) (whole_events (judging s.tables) b) said).1
  statement_checked s q (syntax.Inner i) said = tt
  statement_checked s q (syntax.Call e) said = tt
  statement_checked s q (syntax.Assign e sides) said = tt
  statement_checked s q (syntax.Choose i e a rest) said =
      let v = judging s.tables in
      let x = both_say s (v.condition e) (statement_events v Inside a ++ statements_events v Inside rest) said in
      let y = both_say s (statement_events v Inside a) (statements_events v Inside rest) x.1 in
      both_checked s (statement_events connections Inside a) (statements_events connections Inside rest) (statement_checked s Inside a y.0) (statements_checked s Inside rest y.1)
  statement_checked s q (syntax.Repeat i e a) said =
      let v = judging s.tables in statement_checked s Inside a (both_say s (v.condition e) (statement_events v Inside a) said).1
  statement_checked s q (syntax.For i x sign j es a) said =
      let v = judging s.tables in statement_checked s Inside a (both_say s (v.control x sign j es) (statement_events v Inside a) said).1
  statement_checked s q (syntax.Inspect i e d a end rest) said =
      let v = judging s.tables in
      let x = both_say s (v.inspect i e) (statement_events v Inside a ++ statements_events v Inside rest) said in
      let y = both_say s (statement_events v Inside a) (statements_events v Inside rest) x.1 in
      (looked_fine s i e x.0, both_checked s (statement_events connections Inside a) (statements_events connections Inside rest) (statement_checked s Inside a y.0) (statements_checked s Inside rest y.1))
  statement_checked s q (syntax.InspectWhen i e arms rest) said =
      let v = judging s.tables in
      let x = both_say s (v.inspect_when i e (arm_classes arms)) (arms_events v arms ++ statements_events v Inside rest) said in
      let y = both_say s (arms_events v arms) (statements_events v Inside rest) x.1 in
      both_checked s (arms_events connections arms) (statements_events connections Inside rest) (arms_checked s i (judge_side s.tables extent.Statement e).value arms (when_says s i e (arm_classes arms) x.0) y.0) (statements_checked s Inside rest y.1)
  statement_checked s q (syntax.Activate i word process schedule) said = tt

  statements_checked : (s : Source) (q : Position) (ss : Statements) → AllSay s (statements_events (judging s.tables) q ss) → Checked s (statements_events connections q ss)
  statements_checked s q NoStatement said = tt
  statements_checked s q (Also a more) said =
      let v = judging s.tables in
      let y = both_say s (statement_events v q a) (statements_events v q more) said in
      both_checked s (statement_events connections q a) (statements_events connections q more) (statement_checked s q a y.0) (statements_checked s q more y.1)

  arms_checked : (s : Source) (i : ℕ) (object : Side) (arms : Arms) → AllSay s (each (arm_events s.tables i object) (arm_classes arms)) → AllSay s (arms_events (judging s.tables) arms) → Checked s (arms_events connections arms)
  arms_checked s i object NoArm arm said = tt
  arms_checked s i object (When n x d a end more) arm said =
      let v = judging s.tables in
      let w = both_say s (arm_events s.tables i object x) (each (arm_events s.tables i object) (arm_classes more)) arm in
      let y = both_say s (statement_events v Inside a ++ []) (arms_events v more) said in
      let z = both_say s (statement_events v Inside a) [] y.0 in (
        named_fine s i object x w.0,
        both_checked s (statement_events connections Inside a ++ []) (arms_events connections more) (both_checked s (statement_events connections Inside a) [] (statement_checked s Inside a z.0) tt) (arms_checked s i object more w.1 y.1),
      )

  whole_checked : (s : Source) (b : Block) → AllSay s (whole_events (judging s.tables) b) → Checked s (whole_events connections b)
  whole_checked s (Begin i ds ss end) said =
      let v = judging s.tables in
      let x = both_say s (declarations_events v ds) (statements_events v Inside ss ++ []) said in
      let y = both_say s (statements_events v Inside ss) [] x.1 in
      both_checked s (declarations_events connections ds) (statements_events connections Inside ss ++ []) (declarations_checked s ds x.0)
      (both_checked s (statements_events connections Inside ss) [] (statements_checked s Inside ss y.0) tt)

  block_checked : (s : Source) (b : Block) → AllSay s (block_events (judging s.tables) b) → Checked s (block_events connections b)
  block_checked s (Begin i NoDeclaration ss end) said = statements_checked s Inside ss said
  block_checked s (Begin i (With d ds) ss end) said =
      let v = judging s.tables in
      let x = both_say s ((declaration_events v d ++ declarations_events v ds) ++ statements_events v Inside ss) [] said in
      let y = both_say s (declaration_events v d ++ declarations_events v ds) (statements_events v Inside ss) x.0 in
      let z = both_say s (declaration_events v d) (declarations_events v ds) y.0 in
      both_checked s ((declaration_events connections d ++ declarations_events connections ds) ++ statements_events connections Inside ss) []
      (both_checked s (declaration_events connections d ++ declarations_events connections ds) (statements_events connections Inside ss)
      (both_checked s (declaration_events connections d) (declarations_events connections ds) (declaration_checked s d z.0) (declarations_checked s ds z.1)) (statements_checked s Inside ss y.1)) tt

  class_checked : (s : Source) (b : Block) → AllSay s (class_events (judging s.tables) b) → Checked s (class_events connections b)
  class_checked s (Begin i ds ss end) said =
      let v = judging s.tables in
      let x = both_say s (declarations_events v ds) (statements_events v ClassStatement ss) said in
      both_checked s (declarations_events connections ds) (statements_events connections ClassStatement ss) (declarations_checked s ds x.0) (statements_checked s ClassStatement ss x.1)

  declarations_checked : (s : Source) (ds : Declarations) → AllSay s (declarations_events (judging s.tables) ds) → Checked s (declarations_events connections ds)
  declarations_checked s NoDeclaration said = tt
  declarations_checked s (With d ds) said =
      let v = judging s.tables in
      let x = both_say s (declaration_events v d) (declarations_events v ds) said in
      both_checked s (declaration_events connections d) (declarations_events connections ds) (declaration_checked s d x.0) (declarations_checked s ds x.1)

  declaration_checked : (s : Source) (d : Declaration) → AllSay s (declaration_events (judging s.tables) d) → Checked s (declaration_events connections d)
  declaration_checked s (Variables type vs) said = tt
  declaration_checked s (Arrays type i segments) said = tt
  declaration_checked s (DeclareProcedure result i h a end) said =
      let v = judging s.tables in
      let x = both_say s (v.procedure result i h) (statement_events v Inside a ++ []) said in
      let y = both_say s (statement_events v Inside a) [] x.1 in
      both_checked s (statement_events connections Inside a) [] (statement_checked s Inside a y.0) tt
  declaration_checked s (DeclareClass prefix i h interface a end) said =
      let v = judging s.tables in
      let x = both_say s (v.class prefix i h interface) (statement_events v ClassBody a ++ []) said in
      let y = both_say s (statement_events v ClassBody a) [] x.1 in
      both_checked s (statement_events connections ClassBody a) [] (statement_checked s ClassBody a y.0) tt

program_checked : (s : Source) → AllSay s (program_events (judging s.tables) s.program) → Checked s (program_events connections s.program)
unfolding program_events judging connections
program_checked s said = whole_checked s s.program.block (both_say s ((judging s.tables).program s.program.prefix (begin_of s.program.block)) (whole_events (judging s.tables) s.program.block) said).1

-- ---- so a class that is connected has none

pub connected_fine : (s : Source) (of : TablesOf s) (order : InOrder s.program) → AllSay s (program_events (judging s.tables) s.program) → (k c : ℕ) → is_connection (text s k) ≡ true → base s.tables k ≡ Some c → has_classes s.tables c ≡ false
connected_fine s of order said k c is e = connects_met s of order (Fine s) (λ n f. absurd (cc)) (program_checked s said) k c is e c refl

-- ---- no class is found through a connection

some_same : {A : Type 0} (a b : A) → Some a ≡ Some b → a ≡ b
some_same a b e = cc

pub outside : (s : Source) (of : TablesOf s) (order : InOrder s.program) → TablesAgree s → AllSay s (program_events (judging s.tables) s.program)
    → (token found : ℕ) (name : List ℕ) (d : DeclNo) (k : ℕ) → binding s.tables token name ≡ Some (denotation.Declared d) → entry_of s.tables d ≡ Some (entry.Class k) → found_in s.tables token name ≡ Some found → is_connection (text s found) ≡ false
unfolding found_in has_level has_classes
outside s of order agrees said token found name d k binds is at = go (is_connection (text s found)) refl
  where
    declares : holds_class s.tables (block_of s d) ≡ true
    declares = found_class_held s of order token name d k binds is

    no_class : is_connection (text s found) ≡ true → (c : ℕ) → base s.tables found ≡ Some c → some_level_of s.tables (length s.tables.blocks) (λ x. nat_eq x (block_of s d)) c ≡ true → ⊥
    no_class is_one c connects level =
        let one : some_level_of s.tables (length s.tables.blocks) (holds_class s.tables) c ≡ true = some_holds s.tables (length s.tables.blocks) c (block_of s d) (holds_class s.tables) declares level in
        let none : some_level_of s.tables (length s.tables.blocks) (holds_class s.tables) c ≡ false = connected_fine s of order said found c is_one connects in
        false≢true (sym none ∙ one)

    through : (c : Bool) → is_connection (text s found) ≡ c → FoundThrough s c found (block_of s d) → is_connection (text s found) ≡ false
    through false e q = e
    through true e q = absurd (no_class e q.0 q.1 q.2)

    in_block : (o : Option ℕ) → block_at s.tables token ≡ o → is_connection (text s found) ≡ false
    in_block None out = absurd (let f : None ≡ Some found = sym (ap (λ o. level_beyond (first_along (encloser s.tables) (length s.tables.blocks) (if_found s.tables token name)) o) out) ∙ at in cc)
    in_block (Some b) out =
        let f = agrees.around token b name d out binds in
        let same : f.found ≡ found = some_same f.found found (sym f.at ∙ at) in
        through (is_connection (text s found)) refl (subst (λ z. FoundThrough s (is_connection (text s z)) z (block_of s d)) same f.through)

    go : (c : Bool) → is_connection (text s found) ≡ c → is_connection (text s found) ≡ false
    go c e = in_block (block_at s.tables token) refl
