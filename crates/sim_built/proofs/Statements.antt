-- Typed statements are built.
use Rattle.std.proofs.Common.{◌≡◌, ℕ, zero, suc, true, List, [], ◌∷◌, Option, Some, None, refl, sym, ap, ◌∙◌, subst}
use Rattle.std.specs.Prelude.{◌||◌}
use Rattle.sim_scope.specs.Assignments.{last_value, left_sides}
use Rattle.sim_scope.specs.Access.{encloser}
use Rattle.sim_scope.specs.Levels.{base}
use Rattle.sim_scope.specs.Scopes.{entry_of}
use Rattle.sim_scope.specs.Source.{Source, block_around, denoted, found_at, line_at}
use Rattle.sim_tree.specs.Filled.{FilledArms, FilledStatement, FilledStatements, SomeElement, SomeSide}
use Rattle.sim_tree.specs.Syntax.{Also, Arms, Begin, Element, Expression, Expressions, NoArm, NoDeclaration, NoMore, NoStatement, RightSide, Schedule, Statement, Statements, Then, When, With}
use Rattle.sim_tree.specs.Syntax as syntax
use Rattle.sim_values.specs.declared.kind.Kind.{Kind}
use Rattle.sim_values.specs.declared.kind.Kind.TheVariants as kind
use Rattle.sim_code.specs.Transfers.{Calling, Detaching, Resuming, Transfer}
use Rattle.sim_meaning.specs.Attributes.{cell_of_connection, connection_at, is_connection, own_attribute, transfer_at}
use Rattle.sim_meaning.specs.Closing.{class_parameters, formals_at, is_attribute, is_text, is_variable, stream_of}
use Rattle.sim_meaning.specs.Pending.{Connection}
use Rattle.sim_meaning.specs.Statements.{begin_of, leaves, simulation_around}
use Rattle.sim_meaning.specs.Texts.{ConnectionText, PrefixedText, Text, text}
use Rattle.sim_agree.specs.Inners.{NoInner, NoInnerArms, NoInners, OneInner, behind, here}
use Rattle.sim_sound.specs.Held.{Holds, In, Refers, Simply, reference_to}
use Rattle.sim_sound.specs.Expressions.{ActualsFit, AreIntegers, AreOf, DotGives, ExprIs, IdentifierGives, ParametersAre}
use Rattle.sim_sound.specs.Statements.{ArmsAre, BlockIs, CallIs, ConnectionIs, ElementIs, ElementsAre, LeftsAre, OrTransferIs, PrefixedIs, SimulationIs, StatementIs, StatementsAre, TimingIs, TransferIs, is_given}
use Rattle.sim_sound.specs.Typed.{Typed}
use Rattle.codegen_expr.specs.Built.{ActualsBuilt, AreBuilt, ClassBuilt, ConnectedNameBuilt, DotBuilt, IsBuilt, NamedBuilt, OfObjectBuilt, OwnBuilt, OwnNameBuilt, PlaceBuilt, ThisFoundBuilt, ThroughBuilt, is_there, slot_in}
use Rattle.codegen_expr.specs.CodeExpr.{Listed, gives, parameters_at}
use Rattle.codegen_expr.specs.Sites.{frame_text}
use Rattle.codegen.specs.BuiltProgram.{ActivatesBuilt, ArmsBuilt, AssignBuilt, CalledBuilt, ConnectsBuilt, ElementBuilt, ElementsBuilt, EnterBuilt, ForBuilt, InnerOrBuilt, LeftsBuilt, ListBuilt, OperandBuilt, OrTransferBuilt, PrefixBuilt, StatementBuilt, StatementsBuilt, StepsBuilt, TransferBuilt, WithInnerBuilt}
use Rattle.codegen.specs.CodeFor.{Variable, assigned_by, variable_of}
use Rattle.codegen.specs.CodeLeft.{each_stored}
use Rattle.codegen.specs.CodeStm.{inner_of}
use Rattle.sim_built.specs.Laid.{Laid}
use Rattle.sim_built.proofs.Cells.{connection_has}
use Rattle.sim_built.proofs.Expressions.{Stands, actuals_built, are_built, dot_built, dot_gives, fitted, identifier_built, identifier_gives, integers_built, parameters_built, text_place, this_built}
use Rattle.sim_built.proofs.LeftSides.{Controls, built, controls, side_built}
use Rattle.sim_built.proofs.Standing.{seen_here, stands_here}

module _ (s : Source) (ok : Typed s) (laid : Laid s) (t : ℕ) (x : Text) (there : text s t ≡ Some x) where
  value : (e : Expression) (h : Holds) → ExprIs s (In t) e h → IsBuilt s t e
  value e h a = built s ok laid t x there e h a

  standing : Stands s t (In t)
  standing = stands_here s ok laid t x there

  -- ---- assignments

  sides_built : (e : Expression) (rs : List RightSide) (k : Kind) → LeftsAre s t (left_sides e rs) k → LeftsBuilt s t (each_stored s (left_sides e rs))
  sides_built e [] k a = tt
  sides_built e (r ∷ rs) k a = (side_built s ok laid t x there (is_text s e) r.sign (line_at s r.token) e k a.0, sides_built r.value rs k a.1)

  assign_built : (e : Expression) (rs : List RightSide) (k : Kind) → SomeSide rs → LeftsAre s t (left_sides e rs) k → ExprIs s (In t) (last_value e rs) (Simply k) → AssignBuilt s t (each_stored s (left_sides e rs)) (last_value e rs)
  assign_built e [] k some a b = absurd some
  assign_built e (r ∷ []) k some a b = ((sides_built e (r ∷ []) k a).0, value (last_value e (r ∷ [])) (Simply k) b)
  assign_built e (r ∷ u ∷ rs) k some a b = (sides_built e (r ∷ u ∷ rs) k a, value (last_value e (r ∷ u ∷ rs)) (Simply k) b)

  -- ---- `for` lists

  element_built : (v : Variable) (k : Kind) (e : Element) → (k ≡ kind.Integer → StepsBuilt v) → ElementIs s t k e → ElementBuilt s t v e
  element_built v k (syntax.Once e) f a = value e (Simply k) a
  element_built v k (syntax.While e i c) f a = (value e (Simply k) a.0, value c (Simply kind.Boolean) a.1)
  element_built v k (syntax.Step start i step limit) f a = (f a.0, value start (Simply kind.Integer) a.1, value step (Simply kind.Integer) a.2, value limit (Simply kind.Integer) a.3)

  elements_built : (v : Variable) (k : Kind) (es : List Element) → (k ≡ kind.Integer → StepsBuilt v) → ElementsAre s t k es → ElementsBuilt s t v es
  elements_built v k [] f a = tt
  elements_built v k (e ∷ es) f a = (element_built v k e f a.0, elements_built v k es f a.1)

  list_built : (v : Variable) (k : Kind) (es : List Element) (Body : Type 0) → (k ≡ kind.Integer → StepsBuilt v) → SomeElement es → ElementsAre s t k es → Body → ListBuilt s t v es Body
  list_built v k [] Body f some a b = absurd some
  list_built v k (e ∷ []) Body f some a b = (element_built v k e f a.0, b)
  list_built v k (e ∷ g ∷ es) Body f some a b = (elements_built v k (e ∷ g ∷ es) f a, b)

  for_built : (v : Option Variable) (k : Kind) (es : List Element) (Body : Type 0) → Controls s ok laid t x there v (k ≡ kind.Integer) → SomeElement es → ElementsAre s t k es → Body → ForBuilt s t v es Body
  for_built None k es Body c some a b = absurd c
  for_built (Some v) k es Body c some a b = (c.0, list_built v k es Body c.1 some a b)

  -- ---- calls and blocks

  transfer_built : (c : Transfer) (found : Option ℕ) (es : Expressions) → TransferIs s t c found es → TransferBuilt c es (ThisFoundBuilt s t found) (AreBuilt s t es)
  transfer_built Detaching found NoMore a = this_built s ok laid t (In t) standing found (Simply kind.Reference) a.0
  transfer_built Detaching found (Then e es) a = absurd a.1
  transfer_built Calling found NoMore a = absurd a
  transfer_built Calling found (Then e NoMore) a = are_built s ok laid t (In t) standing (Then e NoMore) (kind.Reference ∷ []) a
  transfer_built Calling found (Then e (Then f es)) a = absurd a.1
  transfer_built Resuming found NoMore a = absurd a
  transfer_built Resuming found (Then e NoMore) a = are_built s ok laid t (In t) standing (Then e NoMore) (kind.Reference ∷ []) a
  transfer_built Resuming found (Then e (Then f es)) a = absurd a.1

  detach_built : (b : Expression) (es : Expressions) → ExprIs s (In t) b (Simply kind.Reference) × AreOf s (In t) es [] → TransferBuilt Detaching es (IsBuilt s t b) (AreBuilt s t es)
  detach_built b NoMore a = value b (Simply kind.Reference) a.0
  detach_built b (Then e es) a = absurd a.1

  -- a transfer of control, or another call
  or_built : (o : Option Transfer) (Is Built : Transfer → Type 0) (Other OtherBuilt : Type 0) → ((c : Transfer) → Is c → Built c) → (Other → OtherBuilt) → OrTransferIs o Is Other → OrTransferBuilt o Built OtherBuilt
  or_built None Is Built Other OtherBuilt f g a = g a
  or_built (Some c) Is Built Other OtherBuilt f g a = f c a

  call_built : (e : Expression) → CallIs s t e → CalledBuilt s t e
  call_built (syntax.Named name es) a =
      or_built (transfer_at s name.token.0) (λ c. TransferIs s t c (found_at s name.token.0) es) (λ c. TransferBuilt c es (ThisFoundBuilt s t (found_at s name.token.0)) (AreBuilt s t es))
      ((h : Option Holds) × IdentifierGives s (In t) name.token.0 (connection_at s name.token.0) (own_attribute s name.token.0) es (AreIntegers s (In t) es) (ParametersAre s (In t) es) (λ ks. AreOf s (In t) es ks) (λ fs. ActualsFit s (In t) es fs) h × (leaves s (syntax.Named name es) ≡ is_given h))
      ((leaves s (syntax.Named name es) ≡ gives s (denoted s name.token.0))
      × ThroughBuilt (connection_at s name.token.0) (λ k. ConnectedNameBuilt s t k (denoted s name.token.0) es (AreBuilt s t es) (λ ps. ActualsBuilt s t es ps))
      (OwnBuilt (own_attribute s name.token.0) (λ d. OwnNameBuilt s t (found_at s name.token.0) (entry_of s.tables d) es (ActualsBuilt s t es (Listed (formals_at s d))) (OfObjectBuilt s d (entry_of s.tables d) es (ThisFoundBuilt s t (found_at s name.token.0)) (AreBuilt s t es) (ActualsBuilt s t es (parameters_at s d)))) (NamedBuilt s t (denoted s name.token.0) es (AreBuilt s t es) (λ ps. ActualsBuilt s t es ps))))
      (λ c y. transfer_built c (found_at s name.token.0) es y)
      (λ y. (
        y.2 ∙ sym (identifier_gives s (In t) name.token.0 (connection_at s name.token.0) (own_attribute s name.token.0) es (AreIntegers s (In t) es) (ParametersAre s (In t) es) (λ ks. AreOf s (In t) es ks) (λ fs. ActualsFit s (In t) es fs) y.0 refl y.1),
        identifier_built s ok laid t (In t) standing es (λ z. integers_built s ok laid t (In t) standing es z) (λ ks z. are_built s ok laid t (In t) standing es ks z) (λ fs. ActualsFit s (In t) es fs) (λ ps. ActualsBuilt s t es ps) (λ fs z. actuals_built s ok laid t (In t) standing es fs z) (λ z. parameters_built s ok laid t (In t) standing es z) (λ fs z. fitted s (In t) es fs z)
            name.token.0 (connection_at s name.token.0) (own_attribute s name.token.0) y.0 refl y.1,
      )) a
  call_built (syntax.Dot i b name es) a =
      or_built (transfer_at s name.token.0) (λ c. ExprIs s (In t) b (Simply kind.Reference) × AreOf s (In t) es []) (λ c. TransferBuilt Detaching es (IsBuilt s t b) (AreBuilt s t es))
      ((h : Option Holds) × DotGives s (denoted s name.token.0) (stream_of s b) (ExprIs s (In t) b (Simply kind.Text)) (λ c. ExprIs s (In t) b (Refers c)) es (AreIntegers s (In t) es) (ParametersAre s (In t) es) (λ ks. AreOf s (In t) es ks) (λ fs. ActualsFit s (In t) es fs) h × (leaves s (syntax.Dot i b name es) ≡ is_given h))
      ((leaves s (syntax.Dot i b name es) ≡ gives s (denoted s name.token.0))
      × DotBuilt s (denoted s name.token.0) (stream_of s b) (is_variable s b || is_attribute s b) es (PlaceBuilt s t b) (IsBuilt s t b) (AreBuilt s t es) (λ ps. ActualsBuilt s t es ps))
      (λ c y. detach_built b es y)
      (λ y. (
        y.2 ∙ sym (dot_gives s (denoted s name.token.0) (stream_of s b) (ExprIs s (In t) b (Simply kind.Text)) (λ c. ExprIs s (In t) b (Refers c)) es (AreIntegers s (In t) es) (ParametersAre s (In t) es) (λ ks. AreOf s (In t) es ks) (λ fs. ActualsFit s (In t) es fs) y.0 y.1),
        dot_built s ok laid t (In t) standing es (λ z. integers_built s ok laid t (In t) standing es z) (λ ks z. are_built s ok laid t (In t) standing es ks z) (λ fs. ActualsFit s (In t) es fs) (λ ps. ActualsBuilt s t es ps) (λ fs z. actuals_built s ok laid t (In t) standing es fs z) (λ z. parameters_built s ok laid t (In t) standing es z) (λ fs z. fitted s (In t) es fs z)
            (ExprIs s (In t) b (Simply kind.Text)) (PlaceBuilt s t b) (IsBuilt s t b) (λ c. ExprIs s (In t) b (Refers c)) (denoted s name.token.0) (stream_of s b) (is_variable s b || is_attribute s b) y.0
            (λ v z. text_place s ok laid t (In t) standing b v z) (λ z. value b (Simply kind.Text) z) (λ c z. value b (Refers c) z) y.1,
      )) a
  call_built (syntax.New i c es) a = value (syntax.New i c es) (Simply kind.Reference) a
  call_built (syntax.If i c b d) a = absurd a
  call_built (syntax.Binary op i b d) a = absurd a
  call_built (syntax.Not i b) a = absurd a
  call_built (syntax.Signed sign i b) a = absurd a
  call_built (syntax.Constant literal i) a = absurd a
  call_built (syntax.Parentheses i b) a = absurd a
  call_built (syntax.Member m i b c) a = absurd a
  call_built (syntax.Qua i b c) a = absurd a
  call_built (syntax.This i c) a = absurd a

  enter_built : (token : ℕ) → BlockIs s t token → EnterBuilt s t (block_around s token)
  enter_built token b = subst (EnterBuilt s t) (sym b.around) (by_number b.number b.stands_in)
    where
      by_number : (n : ℕ) → encloser s.tables n ≡ Some t → EnterBuilt s t (Some n)
      by_number zero e = let none = ok.outermost in absurd (cc)
      by_number (suc n) e = e

  -- a prefixed block is entered from the text in which it stands
  prefixed_built : (es : Expressions) (token : ℕ) → PrefixedIs s t token (λ fs. ActualsFit s (In t) es fs) → PrefixBuilt s t es (block_around s token)
  prefixed_built es token a = subst (PrefixBuilt s t es) (sym a.around) (by_number a.number a.stands_in a.is a.actuals)
    where
      by_number : (k : ℕ) → encloser s.tables k ≡ Some t → text s k ≡ Some (PrefixedText a.class a.arguments a.declarations a.statements) → ActualsFit s (In t) es (class_parameters s (Some k)) → PrefixBuilt s t es (Some k)
      by_number zero e is fit = let none = ok.outermost in absurd (cc)
      by_number (suc k) e is fit = (laid.with_prefix (suc k) a.class a.arguments a.declarations a.statements is, e, actuals_built s ok laid t (In t) standing es (class_parameters s (Some (suc k))) fit)

  -- an activation, whose simulation is a text around
  operand_built : (schedule : Schedule) → TimingIs s t schedule → OperandBuilt s t schedule
  operand_built syntax.Now a = tt
  operand_built (syntax.At i e prior) a = value e (Simply kind.Integer) a
  operand_built (syntax.Delay i e prior) a = value e (Simply kind.Integer) a
  operand_built (syntax.Before i e) a = value e (Simply kind.Reference) a
  operand_built (syntax.After i e) a = value e (Simply kind.Reference) a

  activates_built : (token : ℕ) (e : Expression) (schedule : Schedule) → SimulationIs s t token → ExprIs s (In t) e (Simply kind.Reference) → TimingIs s t schedule → ActivatesBuilt s t (simulation_around s token) e schedule
  activates_built token e schedule a b c = subst (λ z. ActivatesBuilt s t z e schedule) (sym a.is) (seen_here s ok laid t x there a.block a.seen, value e (Simply kind.Reference) b, operand_built schedule c)

  -- a connection is that which begins at its token
  connects_built : (opening : ℕ) (Body : ℕ → Type 0) → (c : ConnectionIs s t opening) → Body c.number → ConnectsBuilt s t opening (block_around s opening) Body
  connects_built opening Body c body = subst (λ z. ConnectsBuilt s t opening z Body) (sym c.around) (record {
    is = c.is;
    begins = begins;
    stands = c.stands_in;
    has = subst (λ z. is_there (slot_in s (frame_text s c.number) z) ≡ true) begins (connection_has s ok laid c.number (ap is_connection c.is));
    body = body;
  })
    where
      begins : cell_of_connection s c.number ≡ Connection opening
      begins = ap Connection c.begins

module _ (s : Source) (ok : Typed s) (laid : Laid s) where
  mutual
    pub statement_built : (t : ℕ) (x : Text) → text s t ≡ Some x → (a : Statement) → NoInner a → FilledStatement a → StatementIs s t a → StatementBuilt s t a
    statement_built t x there (syntax.Empty i) n f a = tt
    statement_built t x there (syntax.Compound (Begin i NoDeclaration ss end)) n f a = statements_built t x there ss n f.1 a
    statement_built t x there (syntax.Compound (Begin i (With d ds) ss end)) n f a = enter_built s ok laid t x there i a
    statement_built t x there (syntax.Call e) n f a = call_built s ok laid t x there e a
    statement_built t x there (syntax.Assign e rs) n f a = assign_built s ok laid t x there e rs a.0 f a.1 a.2
    statement_built t x there (syntax.Choose i c y z) n f a = (value s ok laid t x there c (Simply kind.Boolean) a.0, statement_built t x there y n.0 f.0 a.1, statements_built t x there z n.1 f.1 a.2)
    statement_built t x there (syntax.Repeat i c y) n f a = (value s ok laid t x there c (Simply kind.Boolean) a.0, statement_built t x there y n f a.1)
    statement_built t x there (syntax.For i name sign assign es y) n f a =
        for_built s ok laid t x there (variable_of s (line_at s assign) (syntax.Named name NoMore) (assigned_by (is_text s (syntax.Named name NoMore)) sign (line_at s assign))) a.0 es (StatementBuilt s t y)
        (controls s ok laid t x there (is_text s (syntax.Named name NoMore)) sign (line_at s assign) name a.0 a.1) f.0 a.2 (statement_built t x there y n f.1 a.3)
    statement_built t x there (syntax.Inspect i e opening y end other) n f a = (
      value s ok laid t x there e (reference_to (base s.tables (a.0).number)) a.1,
      connects_built s ok laid t x there opening (λ k. StatementBuilt s k y) a.0 (statement_built (a.0).number ConnectionText (a.0).is y n.0 f.0 a.2),
      statements_built t x there other n.1 f.1 a.3,
    )
    statement_built t x there (syntax.InspectWhen i e arms other) n f a = (value s ok laid t x there e (Simply kind.Reference) a.0, arms_built t x there arms n.0 f.0 a.1, statements_built t x there other n.1 f.1 a.2)
    statement_built t x there (syntax.Inner i) n f a = absurd n
    statement_built t x there (syntax.Prefixed class arguments b) n f a = prefixed_built s ok laid t x there arguments (begin_of b) a
    statement_built t x there (syntax.Activate i word e schedule) n f a = activates_built s ok laid t x there i e schedule a.0 a.1 a.2

    arms_built : (t : ℕ) (x : Text) → text s t ≡ Some x → (arms : Arms) → NoInnerArms arms → FilledArms arms → ArmsAre s t arms → ArmsBuilt s t arms
    arms_built t x there NoArm n f a = tt
    arms_built t x there (When i class opening y end more) n f a = (
      subst ClassBuilt (sym a.2) tt,
      connects_built s ok laid t x there opening (λ k. StatementBuilt s k y) a.0 (statement_built (a.0).number ConnectionText (a.0).is y n.0 f.0 a.4),
      arms_built t x there more n.1 f.1 a.5,
    )

    pub statements_built : (t : ℕ) (x : Text) → text s t ≡ Some x → (ss : Statements) → NoInners ss → FilledStatements ss → StatementsAre s t ss → StatementsBuilt s t ss
    statements_built t x there NoStatement n f a = tt
    statements_built t x there (Also y more) n f a = (statement_built t x there y n.0 f.0 a.0, statements_built t x there more n.1 f.1 a.1)

  -- ---- the statements of a class

  not_inner : (a : Statement) → NoInner a → inner_of a ≡ None
  not_inner (syntax.Empty i) n = refl
  not_inner (syntax.Compound b) n = refl
  not_inner (syntax.Call e) n = refl
  not_inner (syntax.Assign e rs) n = refl
  not_inner (syntax.Choose i c y z) n = refl
  not_inner (syntax.Repeat i c y) n = refl
  not_inner (syntax.For i name sign assign es y) n = refl
  not_inner (syntax.Inspect i e opening y end other) n = refl
  not_inner (syntax.InspectWhen i e arms other) n = refl
  not_inner (syntax.Inner i) n = absurd n
  not_inner (syntax.Prefixed class arguments b) n = refl
  not_inner (syntax.Activate i word e schedule) n = refl

  pub with_inner : (t : ℕ) (x : Text) → text s t ≡ Some x → (ss : Statements) → OneInner ss → FilledStatements ss → StatementsAre s t ss → WithInnerBuilt s t ss
  with_inner t x there _ (here {token = token} {more = more} n) f a = ((a.0).0, statements_built t x there more n f.1 a.1)
  with_inner t x there _ (behind {a = y} {more = more} n o) f a =
      subst (λ z. InnerOrBuilt s t z y more (WithInnerBuilt s t more)) (sym (not_inner y n)) (statement_built t x there y n f.0 a.0, with_inner t x there more o f.1 a.1)
