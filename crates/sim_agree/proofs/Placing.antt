-- Where the parts of a program stand, whose tokens are in order and whose connections connect what is looked up in front of them.
use Rattle.std.proofs.Common.{◌≡◌, ◌⊎◌, inl, inr, ℕ, zero, suc, Bool, true, false, List, [], ◌∷◌, map, Option, Some, None, refl, sym, ap, ◌∙◌, subst}
use Rattle.std.specs.Prelude.{slice_get}
use Rattle.sim_tree.specs.declared.expr.Identifier.{Identifier}
use Rattle.sim_tree.specs.declared.stmt.TypeName.{TypeName}
use Rattle.sim_tree.specs.Named.{all_named, named}
use Rattle.sim_agree.specs.Order.{InOrder}
use Rattle.sim_tree.specs.Syntax.{Also, Arms, Arrayed, Arrays, Begin, Block, BoundPair, Declarations, DeclareClass, DeclareProcedure, Element, Expression, Expressions, Heading, NoArm, NoDeclaration, NoStatement, RightSide, Schedule, Statement, Statements, Variables, When, With}
use Rattle.sim_tree.specs.Syntax as syntax
use Rattle.sim_scope.specs.Access.{block_at, encloser, joined}
use Rattle.sim_scope.specs.Declare.{declared_by}
use Rattle.sim_scope.specs.Levels.{base}
use Rattle.sim_scope.specs.Source.{Source, block_around}
use Rattle.sim_scope.specs.Walk.{program_events, begin_of}
use Rattle.inspect_types.specs.Connecting.{connections}
use Rattle.sim_meaning.specs.Levels.{is_class}
use Rattle.sim_meaning.specs.Texts.{BlockText, ClassText, ConnectionText, ProcedureText, Text, program_texts, text, PrefixedText}
use Rattle.sim_sound.specs.Statements.{BlockIs, ConnectionIs}
use Rattle.sim_agree.specs.Places.{Each, PlacedArms, PlacedArrays, PlacedBlock, PlacedBounds, PlacedElement, PlacedExpression, PlacedExpressions, PlacedSchedule, PlacedSegment, PlacedSide, PlacedStatement, PlacedStatements, PlacedPrefixed}
use Rattle.sim_agree.specs.TablesOf.{TablesOf}
use Rattle.sim_agree.proofs.Fitted.{AllConnect, ConnectsAt, DotsBounds, DotsDeclarations, DotsElement, DotsExpression, DotsExpressions, DotsSchedule, DotsSegment, DotsSide, FittedArms, FittedBlock, FittedStatement, FittedStatements, Given, TextFitted, text_fitted}
use Rattle.sim_agree.proofs.Laid.{Con, Held, Joined, Part, Sub, Use, Whole, arms_used, block_used, bounds_used, declarations_used, each_used, element_used, expression_used, held_program, program_held, schedule_used, segment_used, side_used, statement_used, statements_used, text_held, text_used, used, used_held, Pre}
use Rattle.sim_agree.proofs.Spots.{Final}
use Rattle.sim_agree.proofs.TokenBlocks.{Fact, Has, Here, LeftAt, here, there}
use Rattle.sim_agree.proofs.Tables as tables
use Rattle.sim_agree.proofs.Tables.{program_final, program_unbroken}

-- the text of what is held
held_at : (hs : List Held) (n : ℕ) (h : Held) → slice_get hs n ≡ Some h → slice_get (map text_held hs) n ≡ Some (text_held h)
held_at [] n h e = absurd (cc)
held_at (x ∷ hs) zero h e = let q : x ≡ h = cc in ap (λ z. Some (text_held z)) q
held_at (x ∷ hs) (suc n) h e = held_at hs n h e

pub what_is_held : (hs : List Held) (n : ℕ) (x : Text) → slice_get (map text_held hs) n ≡ Some x → (h : Held) × (slice_get hs n ≡ Some h) × (text_held h ≡ x)
what_is_held [] n x e = absurd (cc)
what_is_held (h ∷ hs) zero x e = (h, refl, (let q : text_held h ≡ x = cc in q))
what_is_held (h ∷ hs) (suc n) x e = what_is_held hs n x e

module _ (s : Source) (of : TablesOf s) (order : InOrder s.program) where
  held : List Held
  held = program_held s.program.prefix s.program.block

  texts : map text_held (program_held s.program.prefix s.program.block) ≡ program_texts s.program.prefix s.program.block
  texts = held_program s.program.prefix s.program.block

  pub final : Final (declared_by s.program) (program_held s.program.prefix s.program.block)
  final = program_final s.program order

  -- ---- what is used in a text

  pub record Joins (k i : ℕ) (a : Statement) : Type 0 where
    pub connection : ConnectionIs s k i
    pub held_there : slice_get (program_held s.program.prefix s.program.block) connection.number ≡ Some (Joined i a)

  abbrev pub PartIs : (block : ℕ) → Part → Type 0
  PartIs k (Use i) = block_at s.tables i ≡ Some k
  PartIs k (Sub i) = BlockIs s k i
  PartIs k (Pre i) = PlacedPrefixed s k i
  PartIs k (Con i a) = Joins k i a

  pub at_place : (n i : ℕ) → Here (declared_by s.program) final.to n i → block_at s.tables i ≡ Some n
  unfolding block_at
  at_place n i (inl q) = ap (λ z. joined (slice_get z i)) (tables.completed_tables s of order).places ∙ ap joined q
  at_place n i (inr q) = absurd (let e : None ≡ Some n = sym final.laid.stack ∙ q.2 in cc)

  pub text_at : (n : ℕ) (h : Held) → slice_get (program_held s.program.prefix s.program.block) n ≡ Some h → text s n ≡ Some (text_held h)
  unfolding text
  text_at n h e = ap (λ z. slice_get z n) (sym texts) ∙ held_at (program_held s.program.prefix s.program.block) n h e

  part_is : (n : ℕ) (p : Part) → Fact (declared_by s.program) (program_held s.program.prefix s.program.block) final.to n p → PartIs n p
  unfolding block_around encloser block_at
  part_is n (Use i) f = at_place n i f
  part_is n (Sub i) f = record {
    number = f.2.number;
    around = at_place f.2.number i f.2.there;
    stands_in = tables.same_around s of order f.2.number ∙ f.2.around;
    begin = i;
    declarations = f.0;
    statements = f.1;
    is = text_at f.2.number (Whole (BlockText i f.0 f.1)) f.2.text;
  }
  part_is n (Pre i) f = record {
    number = f.4.number;
    around = at_place f.4.number i f.4.there;
    stands_in = tables.same_around s of order f.4.number ∙ f.4.around;
    class = f.0;
    arguments = f.1;
    declarations = f.2;
    statements = f.3;
    is = text_at f.4.number (Whole (PrefixedText f.0 f.1 f.2 f.3)) f.4.text;
  }
  part_is n (Con i a) f = record {
    connection = record {
      number = f.number;
      around = at_place f.number i f.there;
      begins = tables.same_first s of order f.number ∙ f.begins;
      stands_in = tables.same_around s of order f.number ∙ f.around;
      is = text_at f.number (Joined i a) f.text;
    };
    held_there = f.text;
  }

  abbrev pub AllAre : (block : ℕ) → List Part → Type 0
  AllAre k [] = Unit {0}
  AllAre k (p ∷ ps) = PartIs k p × AllAre k ps

  all_are : (k : ℕ) (ps : List Part) → ((p : Part) → Has p ps → PartIs k p) → AllAre k ps
  all_are k [] h = tt
  all_are k (p ∷ ps) h = (h p here, all_are k ps (λ q a. h q (there a)))

  pub held_parts : (k : ℕ) (x : Held) → slice_get (program_held s.program.prefix s.program.block) k ≡ Some x → AllAre k (used_held x)
  held_parts k x at = all_are k (used_held x) (λ p has. one p (final.laid.done k x p at has))
    where
      one : (p : Part) → Fact (declared_by s.program) (program_held s.program.prefix s.program.block) final.to k p ⊎ LeftAt (declared_by s.program).tables.blocks (declared_by s.program).current [] k p → PartIs k p
      one p (inl f) = part_is k p f
      one p (inr f) = absurd f

  -- ---- part by part

  module _ (k : ℕ) where
    abbrev Stand : List ℕ → Type 0
    Stand [] = Unit {0}
    Stand (i ∷ is) = (block_at s.tables i ≡ Some k) × Stand is

    mutual
      expression_stands : (e : Expression) (l : List ℕ) → Stand (named e l) → DotsExpression e → PlacedExpression s.tables k e × Stand l
      expression_stands (syntax.If i a b c) l h d =
          let p = expression_stands a (named b (named c l)) h.1 d.0 in
          let q = expression_stands b (named c l) p.1 d.1 in
          let r = expression_stands c l q.1 d.2 in ((p.0, q.0, r.0), r.1)
      expression_stands (syntax.Binary operator i a b) l h d = let p = expression_stands a (i ∷ named b l) h d.0 in let q = expression_stands b l p.1.1 d.1 in ((p.0, q.0), q.1)
      expression_stands (syntax.Not i a) l h d = expression_stands a l h.1 d
      expression_stands (syntax.Signed sign i a) l h d = expression_stands a l h.1 d
      expression_stands (syntax.Member m i a class) l h d = let p = expression_stands a (i ∷ class.token.0 ∷ l) h d in ((p.0, p.1.1.0), p.1.1.1)
      expression_stands (syntax.Dot i a name es) l h d = let p = expression_stands a (i ∷ name.token.0 ∷ all_named es l) h d.0 in let q = expressions_stand es l p.1.1.1 d.2 in ((p.0, d.1, q.0), q.1)
      expression_stands (syntax.Qua i a class) l h d = let p = expression_stands a (i ∷ class.token.0 ∷ l) h d in ((p.0, p.1.1.0), p.1.1.1)
      expression_stands (syntax.Constant literal i) l h d = (tt, h.1)
      expression_stands (syntax.Named name es) l h d = let q = expressions_stand es l h.1 d in ((h.0, q.0), q.1)
      expression_stands (syntax.This i class) l h d = (h.1.0, h.1.1)
      expression_stands (syntax.New i class es) l h d = let q = expressions_stand es l h.1.1 d in ((h.1.0, q.0), q.1)
      expression_stands (syntax.Parentheses i a) l h d = expression_stands a l h.1 d

      expressions_stand : (es : Expressions) (l : List ℕ) → Stand (all_named es l) → DotsExpressions es → PlacedExpressions s.tables k es × Stand l
      expressions_stand syntax.NoMore l h d = (tt, h)
      expressions_stand (syntax.Then e es) l h d = let p = expression_stands e (all_named es l) h d.0 in let q = expressions_stand es l p.1 d.1 in ((p.0, q.0), q.1)

    list_splits : (is : List ℕ) (u : List Part) → AllAre k (used is u) → Stand is × AllAre k u
    list_splits [] u h = (tt, h)
    list_splits (i ∷ is) u h = let q = list_splits is u h.1 in ((h.0, q.0), q.1)

    pub expression_splits : (e : Expression) (u : List Part) → AllAre k (expression_used e u) → DotsExpression e → PlacedExpression s.tables k e × AllAre k u
    expression_splits e u h d = let q = list_splits (named e []) u h in ((expression_stands e [] q.0 d).0, q.1)

    pub each_splits : {A : Type 0} (f : A → List Part → List Part) (D P : A → Type 0) → ((a : A) (u : List Part) → AllAre k (f a u) → D a → P a × AllAre k u) → (xs : List A) (u : List Part) → AllAre k (each_used f xs u) → Each D xs → Each P xs × AllAre k u
    each_splits f D P one [] u h d = (tt, h)
    each_splits f D P one (x ∷ xs) u h d = let p = one x (each_used f xs u) h d.0 in let q = each_splits f D P one xs u p.1 d.1 in ((p.0, q.0), q.1)

    pub element_splits : (a : Element) (u : List Part) → AllAre k (element_used a u) → DotsElement a → PlacedElement s.tables k a × AllAre k u
    element_splits (syntax.Once a) u h d = expression_splits a u h d
    element_splits (syntax.Step a i b c) u h d =
        let p = expression_splits a (expression_used b (expression_used c u)) h d.0 in
        let q = expression_splits b (expression_used c u) p.1 d.1 in
        let r = expression_splits c u q.1 d.2 in ((p.0, q.0, r.0), r.1)
    element_splits (syntax.While a i b) u h d = let p = expression_splits a (expression_used b u) h d.0 in let q = expression_splits b u p.1 d.1 in ((p.0, q.0), q.1)

    pub side_splits : (a : RightSide) (u : List Part) → AllAre k (side_used a u) → DotsSide a → PlacedSide s.tables k a × AllAre k u
    side_splits a u h d = expression_splits a.value u h d

    bounds_split : (a : BoundPair) (u : List Part) → AllAre k (bounds_used a u) → DotsBounds a → PlacedBounds s.tables k a × AllAre k u
    bounds_split a u h d = let p = expression_splits a.lower (expression_used a.upper u) h d.0 in let q = expression_splits a.upper u p.1 d.1 in ((p.0, q.0), q.1)

    pub segment_splits : (a : Arrayed) (u : List Part) → AllAre k (segment_used a u) → DotsSegment a → PlacedSegment s.tables k a × AllAre k u
    segment_splits a u h d = each_splits bounds_used DotsBounds (PlacedBounds s.tables k) bounds_split a.bounds u h d

    pub schedule_splits : (a : Schedule) (u : List Part) → AllAre k (schedule_used a u) → DotsSchedule a → PlacedSchedule s.tables k a × AllAre k u
    schedule_splits syntax.Now u h d = (tt, h)
    schedule_splits (syntax.At i a prior) u h d = expression_splits a u h d
    schedule_splits (syntax.Delay i a prior) u h d = expression_splits a u h d
    schedule_splits (syntax.Before i a) u h d = expression_splits a u h d
    schedule_splits (syntax.After i a) u h d = expression_splits a u h d

    declarations_split : (ds : Declarations) (u : List Part) → AllAre k (declarations_used ds u) → DotsDeclarations ds → PlacedArrays s.tables k ds × AllAre k u
    declarations_split NoDeclaration u h d = (tt, h)
    declarations_split (With (Arrays type i segments) ds) u h d = let p = each_splits segment_used DotsSegment (PlacedSegment s.tables k) segment_splits segments (declarations_used ds u) h d.0 in let q = declarations_split ds u p.1 d.1 in ((p.0, q.0), q.1)
    declarations_split (With (Variables type vs) ds) u h d = declarations_split ds u h d.1
    declarations_split (With (DeclareProcedure result i g a e) ds) u h d = declarations_split ds u h d.1
    declarations_split (With (DeclareClass prefix i g interface a e) ds) u h d = declarations_split ds u h d.1

  -- the class of a connection
  connects_there : (k i : ℕ) (a : Statement) (class : Option ℕ) → (j : Joins k i a) → ConnectsAt s i class → base s.tables j.connection.number ≡ class
  unfolding block_around block_at
  connects_there k i a class j c = c j.connection.number j.connection.around

  stands_around : (k i : ℕ) → block_at s.tables i ≡ Some k → block_around s i ≡ Some k
  unfolding block_around block_at
  stands_around k i e = e

  nowhere : (k : ℕ) → Given false → is_class (text s k) ≡ true
  nowhere k e = absurd e

  mutual
    statement_splits : (k : ℕ) (w : Bool) → (Given w → is_class (text s k) ≡ true) → (st : Statement) (u : List Part) → AllAre k (statement_used st u) → FittedStatement s (ConnectsAt s) w st → PlacedStatement s k st × AllAre k u
    statement_splits k w c (syntax.Empty i) u h d = (tt, h)
    statement_splits k w c (syntax.Compound b) u h d = block_splits k w c b u h d
    statement_splits k w c (syntax.Call e) u h d = expression_splits k e u h d
    statement_splits k w c (syntax.Assign e sides) u h d = let p = expression_splits k e (each_used side_used sides u) h d.0 in let q = each_splits k side_used DotsSide (PlacedSide s.tables k) (side_splits k) sides u p.1 d.1 in ((p.0, q.0), q.1)
    statement_splits k w c (syntax.Choose i e a rest) u h d =
        let p = expression_splits k e (statement_used a (statements_used rest u)) h d.0 in
        let q = statement_splits k w c a (statements_used rest u) p.1 d.1 in
        let r = statements_split k w c rest u q.1 d.2 in ((p.0, q.0, r.0), r.1)
    statement_splits k w c (syntax.Repeat i e a) u h d = let p = expression_splits k e (statement_used a u) h d.0 in let q = statement_splits k w c a u p.1 d.1 in ((p.0, q.0), q.1)
    statement_splits k w c (syntax.For i name sign j es a) u h d =
        let p = each_splits k element_used DotsElement (PlacedElement s.tables k) (element_splits k) es (statement_used a u) h.1 d.0 in
        let q = statement_splits k w c a u p.1 d.1 in ((h.0, p.0, q.0), q.1)
    statement_splits k w c (syntax.Prefixed y args b) u h d = let p = expression_splits k (syntax.Named y args) (Pre (begin_of b) ∷ u) h d in ((p.0.1, p.1.0), p.1.1)
    statement_splits k w c (syntax.Inner i) u h d = ((stands_around k i h.0, c d), h.1)
    statement_splits k w c (syntax.Inspect i e opening a end rest) u h d =
        let p = expression_splits k e (Con opening a ∷ statements_used rest u) h d.0 in
        let j = p.1.0 in
        let n = j.connection.number in
        let q = statement_splits n false (nowhere n) a [] (held_parts n (Joined opening a) j.held_there) d.2 in
        let r = statements_split k w c rest u p.1.1 d.3 in
        ((p.0, record { connection = j.connection; connects = connects_there k opening a _ j d.1 }, q.0, r.0), r.1)
    statement_splits k w c (syntax.InspectWhen i e arms rest) u h d =
        let p = expression_splits k e (arms_used arms (statements_used rest u)) h d.0 in
        let q = arms_split k arms (statements_used rest u) p.1 d.1 in
        let r = statements_split k w c rest u q.1 d.2 in ((p.0, q.0, r.0), r.1)
    statement_splits k w c (syntax.Activate i word process schedule) u h d =
        let p = expression_splits k process (schedule_used schedule u) h.1 d.0 in
        let q = schedule_splits k schedule u p.1 d.1 in ((h.0, p.0, q.0), q.1)

    arms_split : (k : ℕ) (arms : Arms) (u : List Part) → AllAre k (arms_used arms u) → FittedArms s (ConnectsAt s) arms → PlacedArms s k arms × AllAre k u
    arms_split k NoArm u h d = (tt, h)
    arms_split k (When i class opening a end more) u h d =
        let j = h.1.0 in
        let n = j.connection.number in
        let q = statement_splits n false (nowhere n) a [] (held_parts n (Joined opening a) j.held_there) d.1 in
        let r = arms_split k more u h.1.1 d.2 in
        ((record { connection = j.connection; connects = connects_there k opening a _ j d.0 }, q.0, r.0), r.1)

    statements_split : (k : ℕ) (w : Bool) → (Given w → is_class (text s k) ≡ true) → (ss : Statements) (u : List Part) → AllAre k (statements_used ss u) → FittedStatements s (ConnectsAt s) w ss → PlacedStatements s k ss × AllAre k u
    statements_split k w c NoStatement u h d = (tt, h)
    statements_split k w c (Also a more) u h d = let p = statement_splits k w c a (statements_used more u) h d.0 in let q = statements_split k w c more u p.1 d.1 in ((p.0, q.0), q.1)

    block_splits : (k : ℕ) (w : Bool) → (Given w → is_class (text s k) ≡ true) → (b : Block) (u : List Part) → AllAre k (block_used b u) → FittedBlock s (ConnectsAt s) w b → PlacedBlock s k b × AllAre k u
    block_splits k w c (Begin i NoDeclaration ss e) u h d = statements_split k w c ss u h d
    block_splits k w c (Begin i (With x ds) ss e) u h d = h

  -- ---- text by text

  -- what is held of a text that is no connection
  parts_of_text : (k : ℕ) (x : Text) → text s k ≡ Some x → (x ≡ ConnectionText → ⊥) → AllAre k (text_used x)
  unfolding text
  parts_of_text k x at other =
      let q = what_is_held (program_held s.program.prefix s.program.block) k x (ap (λ z. slice_get z k) texts ∙ at) in go q.0 q.1 q.2
    where
      go : (h : Held) → slice_get (program_held s.program.prefix s.program.block) k ≡ Some h → text_held h ≡ x → AllAre k (text_used x)
      go (Whole y) e same = subst (λ z. AllAre k (text_used z)) same (held_parts k (Whole y) e)
      go (Joined i a) e same = absurd (other (sym same))

  module _ (connects : AllConnect s None (program_events connections s.program)) where
    fitted : (k : ℕ) (x : Text) → text s k ≡ Some x → TextFitted s (ConnectsAt s) x
    fitted k x at = text_fitted s (ConnectsAt s) order (program_unbroken s.program of.unbroken) connects k x at

    -- what a block, a class and a procedure have in them stands in it
    pub block_placed : (k i : ℕ) (ds : Declarations) (ss : Statements) → text s k ≡ Some (BlockText i ds ss) → PlacedArrays s.tables k ds × PlacedStatements s k ss
    block_placed k i ds ss at =
        let f = fitted k (BlockText i ds ss) at in
        let p = declarations_split k ds (statements_used ss []) (parts_of_text k (BlockText i ds ss) at (λ e. cc)) f.0 in
        let q = statements_split k false (nowhere k) ss [] p.1 f.1 in (p.0, q.0)

    pub class_placed : (k : ℕ) (prefix : Option Identifier) (h : Heading) (ds : Declarations) (ss : Statements) → text s k ≡ Some (ClassText prefix h ds ss) → PlacedArrays s.tables k ds × PlacedStatements s k ss
    class_placed k prefix h ds ss at =
        let f = fitted k (ClassText prefix h ds ss) at in
        let p = declarations_split k ds (statements_used ss []) (parts_of_text k (ClassText prefix h ds ss) at (λ e. cc)) f.0 in
        let q = statements_split k true (λ z. ap is_class at) ss [] p.1 f.1 in (p.0, q.0)

    pub prefixed_placed : (k : ℕ) (class : Identifier) (es : Expressions) (ds : Declarations) (ss : Statements) → text s k ≡ Some (PrefixedText class es ds ss) → PlacedArrays s.tables k ds × PlacedStatements s k ss
    prefixed_placed k class es ds ss at =
        let f = fitted k (PrefixedText class es ds ss) at in
        let p = declarations_split k ds (statements_used ss []) (parts_of_text k (PrefixedText class es ds ss) at (λ e. cc)) f.0 in
        let q = statements_split k false (nowhere k) ss [] p.1 f.1 in (p.0, q.0)

    pub body_placed : (k : ℕ) (result : Option TypeName) (h : Heading) (a : Statement) → text s k ≡ Some (ProcedureText result h a) → PlacedStatement s k a
    body_placed k result h a at = (statement_splits k false (nowhere k) a [] (parts_of_text k (ProcedureText result h a) at (λ e. cc)) (fitted k (ProcedureText result h a) at)).0
