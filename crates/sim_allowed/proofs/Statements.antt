-- What the statements of an allowed program are.
use Rattle.std.proofs.Common.{◌≡◌, ◌⊎◌, inl, inr, ℕ, Bool, true, false, List, [], ◌∷◌, ◌++◌, Option, Some, None, refl, sym, ap, ◌∙◌, subst, if◌then◌else◌}
use Rattle.std.proofs.lemmas.Bool.{false≢true}
use Rattle.sim_base.specs.declared.numbering.DeclNo.{DeclNo}
use Rattle.sim_base.specs.declared.rule.Rule.{Rule}
use Rattle.sim_base.specs.declared.rule.Rule.TheVariants as r
use Rattle.sim_scope.specs.declared.outcome.Extent.TheVariants as extent
use Rattle.sim_scope.specs.declared.outcome.LeftSides.{LeftSides}
use Rattle.sim_scope.specs.declared.outcome.Occurrence.{Occurrence}
use Rattle.sim_scope.specs.declared.outcome.Outcome.{Outcome}
use Rattle.sim_scope.specs.declared.outcome.Outcome.TheVariants as is
use Rattle.sim_scope.specs.declared.outcome.Side.{Side}
use Rattle.sim_scope.specs.declared.scopes.Denotation.{Denotation}
use Rattle.sim_scope.specs.declared.scopes.Denotation.TheVariants as denotation
use Rattle.sim_scope.specs.declared.types.Entry.{Entry}
use Rattle.sim_scope.specs.declared.types.Entry.TheVariants as entry
use Rattle.sim_scope.specs.declared.types.FormalKind.{FormalKind}
use Rattle.sim_scope.specs.declared.types.FormalKind.TheVariants as shape
use Rattle.sim_scope.specs.declared.types.Mode.{Mode}
use Rattle.sim_scope.specs.declared.types.Mode.TheVariants as mode
use Rattle.sim_scope.specs.declared.types.Position.{Position}
use Rattle.sim_scope.specs.declared.types.Position.TheVariants.{ClassBody, ClassStatement, Inside}
use Rattle.sim_scope.specs.declared.types.SimType.{SimType}
use Rattle.sim_scope.specs.declared.types.SimType.TheVariants as t
use Rattle.sim_scope.specs.Assignments.{assigned, compared, fine, first_sign, last_value, left_sides, lefts, no_lefts, takes, told, wrong}
use Rattle.sim_scope.specs.Calls.{bound, is_barred}
use Rattle.sim_scope.specs.Expressions.{judge, judge_side}
use Rattle.sim_scope.specs.Found.{Broken, Typed}
use Rattle.sim_scope.specs.Judged.{gives, next, telling}
use Rattle.sim_scope.specs.Operators.{is_same, misfit_of}
use Rattle.sim_scope.specs.Outcomes.{called}
use Rattle.sim_scope.specs.Runs.{each}
use Rattle.sim_scope.specs.References.{class_fits, class_named}
use Rattle.sim_scope.specs.Scopes.{binding, entry_of, found_in}
use Rattle.sim_scope.specs.Source.{Source, denoted, found_at, type_at}
use Rattle.sim_scope.specs.Statements.{activate_events, activates, arm_connected, arm_events, arm_fits, assignment_events, call_alone, call_events, connected_by, control_events, controlled, element_events, entry_controlled, first_step, first_value, formal_controlled, in_simulation, inspect_events, inspect_when_events, integer_from, judging, moded_controlled, needs, needs_reference, process_at, process_events, reference_needed, required, schedule_events, simple, stands, starts, taken_by, told_unless, type_activated, type_connected, type_needed, type_taken, variable_controlled, prefixed_events}
use Rattle.sim_scope.specs.Walk.{arm_classes, arms_events, block_events, statement_events, statements_events, begin_of as first_token, whole_events}
use Rattle.sim_tree.specs.declared.expr.Identifier.{Identifier}
use Rattle.sim_tree.specs.declared.stmt.Assignment.{Assignment}
use Rattle.sim_tree.specs.declared.stmt.Assignment.TheVariants as assignment
use Rattle.sim_tree.specs.Syntax.{Also, Arms, Begin, Block, Element, Expression, Expressions, NoArm, NoDeclaration, NoMore, NoStatement, RightSide, Schedule, Statement, Statements, When, With, first_of}
use Rattle.sim_tree.specs.declared.stmt.Activation.{Activation}
use Rattle.sim_tree.specs.Syntax as syntax
use Rattle.sim_values.specs.declared.kind.Kind.{Kind}
use Rattle.sim_values.specs.declared.kind.Kind.TheVariants as kind
use Rattle.sim_code.specs.Transfers.{Transfer}
use Rattle.sim_meaning.specs.Attributes.{connection_at, own_attribute, transfer_at}
use Rattle.sim_meaning.specs.Closing.{by_name, class_parameters, formal_by_name, is_text, is_text_type, name_denoted, named_formal}
use Rattle.sim_meaning.specs.Constants.{arms_constants, block_constants, element_constants, elements_constants, expression_constants, right_constants, schedule_constants, statement_constants, statements_constants, expressions_constants}
use Rattle.sim_meaning.specs.Levels.{class_at, qualification}
use Rattle.sim_meaning.specs.Texts.{kind_of_type}
use Rattle.sim_sound.specs.Held.{Fits, Holds, In, Place, Refers, Simply, formal_means, held_by, reference_to as holds_reference}
use Rattle.sim_sound.specs.Expressions.{ActualsFit, AreIntegers, AreOf, ExprIs, HeldNames, LeftHeld, ParametersAre, PlaceDeclared, PlaceIs}
use Rattle.sim_sound.specs.Statements.{ArmsAre, CallIs, CompoundIs, ControlIs, ControlOf, ElementIs, ElementsAre, OrTransferIs, ReferenceAt, StatementIs, StatementsAre, TextLeft, TimingIs, TransferIs, PrefixedIs, is_given}
use Rattle.sim_agree.specs.Facts.{PlainType, ProperEntry, ProperFormal, ProperType, Tabled}
use Rattle.sim_agree.specs.Places.{Each, PlacedArms, PlacedBlock, PlacedElement, PlacedExpression, PlacedName, PlacedSchedule, PlacedSide, PlacedStatement, PlacedStatements, class_of_name, class_of_type, PlacedPrefixed}
use Rattle.sim_allowed.proofs.Actuals.{Known}
use Rattle.sim_allowed.proofs.Assigned.{Assignable, TargetsKnown, lefts_are, place_is_left, left_typed}
use Rattle.sim_allowed.proofs.Calls.{called_means}
use Rattle.sim_allowed.proofs.Classes.{class_held, class_qualifies, class_row, own_level, simply, simply_takes}
use Rattle.sim_allowed.proofs.Declared.{NoResult, UseGives, UseIs, variable_left, variable_names}
use Rattle.sim_allowed.proofs.Expressions.{AllThere, both_there, expression_known, operand, expressions_known, AllNear}
use Rattle.sim_allowed.proofs.Meant.{CallGiven, CallsFor, DotAs, Means, NamedAs, ValueIs}
use Rattle.sim_allowed.proofs.Operators.{no_misfit, same_type}
use Rattle.sim_allowed.proofs.References.{ClassIs, PrefixIs, class_means, class_meets, fits_refused}
use Rattle.sim_allowed.proofs.Said.{AllSay, both_say, next_says}
use Rattle.sim_allowed.proofs.Sights.{Sight, ThroughSeen, statement_sight}
use Rattle.sim_allowed.proofs.Simulations.{either_attribute}
use Rattle.sim_allowed.proofs.Activations.{simulation_is}
use Rattle.sim_allowed.proofs.This.{extent_of}
use Rattle.sim_allowed.proofs.Uses.{BoundIs, KnownHere, bound_is, known_here, named_use, own_declared}
use Rattle.sim_meaning.specs.Statements.{begin_of, leaves}
use Rattle.sim_allowed.proofs.BlockPrefixes.{prefix_fits}

-- ---- operands of a type

needed : (s : Source) (wanted : SimType) (x : Side) (ty : SimType) → PlainType wanted → x.ty ≡ Some ty → AllSay s (needs wanted x).events → ty ≡ wanted
unfolding needs wrong telling
needed s wanted x ty p is said = go (is_same ty wanted) refl (subst (λ z. AllSay s (type_needed wanted x z).events) is said)
  where
    go : (b : Bool) → is_same ty wanted ≡ b → AllSay s (if b then fine else wrong x.first.0 r.WrongType).events → ty ≡ wanted
    go true same said = same_type ty wanted p same
    go false same said = absurd said.0

pub required_is : (s : Source) → Tabled s → (from : Place) → Sight s from (extent_of from) → (wanted : SimType) → PlainType wanted → (e : Expression) → Known s from (extent_of from) e → AllSay s (required s.tables (extent_of from) wanted e)
    → ExprIs s from e (Simply (kind_of_type wanted))
unfolding required
required_is s known from sight wanted p e h said =
    let parts = next_says s (judge_side s.tables (extent_of from) e) (needs wanted) said in
    let v = operand s known from sight e h parts.0 in
    subst (λ z. ExprIs s from e (Simply (kind_of_type z))) (needed s wanted (judge_side s.tables (extent_of from) e).value v.ty p v.is parts.1) (simply s from e v.ty v.value)

-- ---- calls

-- a reference that is generated is any reference
generates_some : (s : Source) (from : Place) (i : ℕ) (class : Identifier) (es : Expressions) (k : Kind) → ExprIs s from (syntax.New i class es) (Simply k) → ExprIs s from (syntax.New i class es) (Simply kind.Reference)
generates_some s from i class es k a = (a.0, refl)

-- what is no call
abbrev NoCall : Expression → Type 0
NoCall (syntax.Named x es) = ⊥
NoCall (syntax.Dot i a x es) = ⊥
NoCall (syntax.New i class es) = ⊥
NoCall _ = Unit {0}

no_call : (s : Source) (k : ℕ) (e : Expression) (result : Option SimType) → CallsFor s (In k) e result → NoCall e → ⊥
no_call s k (syntax.Named x es) result f n = n
no_call s k (syntax.Dot i a x es) result f n = n
no_call s k (syntax.New i class es) result f n = n
no_call s k (syntax.If i a b c) None f n = f
no_call s k (syntax.Binary o i a b) None f n = f
no_call s k (syntax.Not i a) None f n = f
no_call s k (syntax.Signed o i a) None f n = f
no_call s k (syntax.Member m i a class) None f n = f
no_call s k (syntax.Qua i a class) None f n = f
no_call s k (syntax.Constant l i) None f n = f
no_call s k (syntax.This i class) None f n = f
no_call s k (syntax.Parentheses i a) None f n = f
no_call s k (syntax.If i a b c) (Some ty) f n = f (Simply (kind_of_type ty)) (simply_takes s ty)
no_call s k (syntax.Binary o i a b) (Some ty) f n = f (Simply (kind_of_type ty)) (simply_takes s ty)
no_call s k (syntax.Not i a) (Some ty) f n = f (Simply (kind_of_type ty)) (simply_takes s ty)
no_call s k (syntax.Signed o i a) (Some ty) f n = f (Simply (kind_of_type ty)) (simply_takes s ty)
no_call s k (syntax.Member m i a class) (Some ty) f n = f (Simply (kind_of_type ty)) (simply_takes s ty)
no_call s k (syntax.Qua i a class) (Some ty) f n = f (Simply (kind_of_type ty)) (simply_takes s ty)
no_call s k (syntax.Constant l i) (Some ty) f n = f (Simply (kind_of_type ty)) (simply_takes s ty)
no_call s k (syntax.This i class) (Some ty) f n = f (Simply (kind_of_type ty)) (simply_takes s ty)
no_call s k (syntax.Parentheses i a) (Some ty) f n = f (Simply (kind_of_type ty)) (simply_takes s ty)

-- a call that gives this, or that gives a value
given_call : (o : Option Transfer) (Transfers : Transfer → Type 0) (Gives Leaves : Option Holds → Type 0) (h : Option Holds) → OrTransferIs o Transfers (Gives h × Leaves h) → OrTransferIs o Transfers ((h : Option Holds) × Gives h × Leaves h)
given_call None Transfers Gives Leaves h a = (h, a.0, a.1)
given_call (Some c) Transfers Gives Leaves h a = a

value_call : (o : Option Transfer) (Transfers : Transfer → Type 0) (Gives Leaves : Option Holds → Type 0) (h : Option Holds) → OrTransferIs o (λ c. ⊥) (Gives h × Leaves h) → OrTransferIs o Transfers ((h : Option Holds) × Gives h × Leaves h)
value_call None Transfers Gives Leaves h a = (h, a.0, a.1)
value_call (Some c) Transfers Gives Leaves h a = absurd a

named_call : (s : Source) (k : ℕ) (x : Identifier) (es : Expressions) (h : Option Holds) → CallGiven s (In k) (syntax.Named x es) h → CallIs s k (syntax.Named x es)
named_call s k x es None a =
    given_call (transfer_at s x.token.0) (λ c. TransferIs s k c (found_at s x.token.0) es) (λ h. NamedAs s (In k) x es h) (λ h. leaves s (syntax.Named x es) ≡ is_given h) None a
named_call s k x es (Some h) a =
    value_call (transfer_at s x.token.0) (λ c. TransferIs s k c (found_at s x.token.0) es) (λ h. NamedAs s (In k) x es h) (λ h. leaves s (syntax.Named x es) ≡ is_given h) (Some h) a

dot_call : (s : Source) (k i : ℕ) (b : Expression) (x : Identifier) (es : Expressions) (h : Option Holds) → CallGiven s (In k) (syntax.Dot i b x es) h → CallIs s k (syntax.Dot i b x es)
dot_call s k i b x es None a =
    given_call (transfer_at s x.token.0) (λ c. ExprIs s (In k) b (Simply kind.Reference) × AreOf s (In k) es []) (λ h. DotAs s (In k) b x es h) (λ h. leaves s (syntax.Dot i b x es) ≡ is_given h) None a
dot_call s k i b x es (Some h) a =
    value_call (transfer_at s x.token.0) (λ c. ExprIs s (In k) b (Simply kind.Reference) × AreOf s (In k) es []) (λ h. DotAs s (In k) b x es h) (λ h. leaves s (syntax.Dot i b x es) ≡ is_given h) (Some h) a

call_is : (s : Source) (k : ℕ) (e : Expression) (result : Option SimType) → CallsFor s (In k) e result → CallIs s k e
call_is s k (syntax.Named x es) None a = named_call s k x es None a
call_is s k (syntax.Named x es) (Some ty) a = named_call s k x es (Some (Simply (kind_of_type ty))) (a (Simply (kind_of_type ty)) (simply_takes s ty))
call_is s k (syntax.Dot i b x es) None a = dot_call s k i b x es None a
call_is s k (syntax.Dot i b x es) (Some ty) a = dot_call s k i b x es (Some (Simply (kind_of_type ty))) (a (Simply (kind_of_type ty)) (simply_takes s ty))
call_is s k (syntax.New i class es) None a = absurd a
call_is s k (syntax.New i class es) (Some ty) a = generates_some s (In k) i class es (kind_of_type ty) (a (Simply (kind_of_type ty)) (simply_takes s ty))
call_is s k (syntax.If i a b c) result f = absurd (no_call s k (syntax.If i a b c) result f tt)
call_is s k (syntax.Binary o i a b) result f = absurd (no_call s k (syntax.Binary o i a b) result f tt)
call_is s k (syntax.Not i a) result f = absurd (no_call s k (syntax.Not i a) result f tt)
call_is s k (syntax.Signed o i a) result f = absurd (no_call s k (syntax.Signed o i a) result f tt)
call_is s k (syntax.Member m i a class) result f = absurd (no_call s k (syntax.Member m i a class) result f tt)
call_is s k (syntax.Qua i a class) result f = absurd (no_call s k (syntax.Qua i a class) result f tt)
call_is s k (syntax.Constant l i) result f = absurd (no_call s k (syntax.Constant l i) result f tt)
call_is s k (syntax.This i class) result f = absurd (no_call s k (syntax.This i class) result f tt)
call_is s k (syntax.Parentheses i a) result f = absurd (no_call s k (syntax.Parentheses i a) result f tt)

stands_alone : (s : Source) (k : ℕ) (e : Expression) (first : ℕ) (o : Outcome) → Means false s (In k) e o → AllSay s (call_alone first o).events → CallIs s k e
unfolding wrong telling
stands_alone s k e first is.Refused m said = absurd m
stands_alone s k e first is.NoValue m said = call_is s k e None m
stands_alone s k e first (is.Called ty) m said = call_is s k e (Some ty) m.1
stands_alone s k e first is.NoValueInParentheses m said = absurd said.0
stands_alone s k e first (is.Value ty) m said = absurd said.0
stands_alone s k e first (is.Variable ty) m said = absurd said.0
stands_alone s k e first (is.Constant ty) m said = absurd said.0
stands_alone s k e first (is.Array ty) m said = absurd said.0
stands_alone s k e first (is.Procedure d token own) m said = absurd m
stands_alone s k e first (is.Standard name token) m said = absurd m
stands_alone s k e first is.Class m said = absurd said.0
stands_alone s k e first (is.Barred b) m said = absurd m

pub call_typed : (s : Source) → Tabled s → (k : ℕ) (e : Expression) → Known s (In k) extent.Statement e → AllSay s (call_events s.tables e) → CallIs s k e
unfolding call_events stands
call_typed s known k e h said =
    let parts = next_says s (judge s.tables extent.Statement e) (stands s.tables (first_of e)) said in
    let o = (judge s.tables extent.Statement e).value in
    let more = next_says s (called s.tables o) (call_alone (first_of e)) parts.1 in
    stands_alone s k e (first_of e) (called s.tables o).value (called_means s known (In k) e o (h parts.0) more.0) more.1

-- ---- assignments

no_misfit_told : (s : Source) (a : LeftSides) → a.typed ≡ true → AllSay s (compared a).events → a.misfit ≡ None
unfolding compared wrong telling
no_misfit_told s a typed said = go a.misfit refl (subst (λ z. AllSay s (if z then told a.misfit else fine).events) typed said)
  where
    go : (m : _) → a.misfit ≡ m → AllSay s (told m).events → a.misfit ≡ None
    go None is said = is
    go (Some f) is said = absurd said.0

assign_typed : (s : Source) → Tabled s → (k : ℕ) → Sight s (In k) extent.Statement → (left : Expression) (parts : List RightSide) → Known s (In k) extent.Statement (last_value left parts) → TargetsKnown s k (left_sides left parts)
    → AllSay s (assignment_events s.tables left parts) → StatementIs s k (syntax.Assign left parts)
unfolding assignment_events assigned
assign_typed s known k sight left parts h all said =
    let both = next_says s (judge_side s.tables extent.Statement (last_value left parts)) (λ v. next (lefts s.tables (first_sign parts) v no_lefts (left_sides left parts)) compared) said in
    let v = (judge_side s.tables extent.Statement (last_value left parts)).value in
    let o = operand s known (In k) sight (last_value left parts) h both.0 in
    let more = next_says s (lefts s.tables (first_sign parts) v no_lefts (left_sides left parts)) compared both.1 in
    let l = lefts_are s known k (first_sign parts) v o.ty o.is (left_sides left parts) all no_lefts more.0 in
    let b = (lefts s.tables (first_sign parts) v no_lefts (left_sides left parts)).value in
    (kind_of_type o.ty, (l.lefts (no_misfit_told s b (l.typed refl) more.1)).1, simply s (In k) (last_value left parts) o.ty o.value)

-- ---- for statements

controls : (s : Source) (k : ℕ) (sign : Assignment) (e : Expression) (ty : SimType) → Assignable s k e ty → takes sign ty ≡ true → ControlOf (is_text_type (Some ty)) sign s k e (kind_of_type ty)
controls s k assignment.Value e t.Text l h = (refl, l.left)
controls s k assignment.Value e t.Integer l h = l.left
controls s k assignment.Value e t.Boolean l h = l.left
controls s k assignment.Value e t.Character l h = l.left
controls s k assignment.Reference e t.Text l h = l.left
controls s k assignment.Reference e (t.Ref d) l h =
    let c = l.proper in (refl, record { class = c.block; qualified = ap (qualification s) l.typed ∙ class_qualifies s d c; at = l.reference d refl c.block (class_held s d c) })
controls s k assignment.Reference e t.Integer l h = absurd (false≢true h)
controls s k assignment.Reference e t.Boolean l h = absurd (false≢true h)
controls s k assignment.Reference e t.Character l h = absurd (false≢true h)
controls s k assignment.Value e (t.Ref d) l h = absurd (false≢true h)
controls s k sign e t.NoneType l h = absurd l.proper

-- the controlled variable
pub record ControlledIs (s : Source) (k : ℕ) (sign : Assignment) (x : Identifier) (o : Option SimType) : Type 0 where
  pub ty : SimType
  pub is : o ≡ Some ty
  pub control : ControlIs (is_text s (syntax.Named x NoMore)) sign s k (syntax.Named x NoMore) (kind_of_type ty)

module _ (s : Source) (known : Tabled s) (k : ℕ) (sight : Sight s (In k) extent.Statement) (near : AllNear s (In k)) where
  module _ (sign : Assignment) (x : Identifier) where
    variable_is : (ty : SimType) → by_name s (syntax.Named x NoMore) ≡ None → (type_at s x.token.0 ≡ Some ty → Assignable s k (syntax.Named x NoMore) ty) → AllSay s (variable_controlled sign x.token.0 ty).events → ControlledIs s k sign x (variable_controlled sign x.token.0 ty).value
    unfolding telling is_text
    variable_is ty no_name left said = go (takes sign ty) refl said
      where
        go : (b : Bool) → takes sign ty ≡ b → AllSay s (if b then telling (Typed x.token.0 ty) (Some ty) else telling (Broken x.token.0 r.WrongType) None).events
            → ControlledIs s k sign x (if b then telling (Typed x.token.0 ty) (Some ty) else telling (Broken x.token.0 r.WrongType) None).value
        go true takes said =
            record { ty = ty; is = refl; control = subst (λ z. ControlIs (is_text_type z) sign s k (syntax.Named x NoMore) (kind_of_type ty)) (sym said.0) (no_name, controls s k sign (syntax.Named x NoMore) ty (left said.0) takes) }
        go false takes said = absurd said.0

    moded_is : (m : Mode) (ty : SimType) → ((m ≡ mode.ByName → ⊥) → by_name s (syntax.Named x NoMore) ≡ None) → (type_at s x.token.0 ≡ Some ty → Assignable s k (syntax.Named x NoMore) ty) → AllSay s (moded_controlled sign x.token.0 m ty).events → ControlledIs s k sign x (moded_controlled sign x.token.0 m ty).value
    unfolding telling
    moded_is mode.ByName ty no_name left said = absurd said.0
    moded_is mode.ByValue ty no_name left said = variable_is ty (no_name (λ e. cc)) left said
    moded_is mode.ByReference ty no_name left said = variable_is ty (no_name (λ e. cc)) left said

    formal_is : (m : Mode) (shape' : FormalKind) (w : Option SimType) → ProperFormal s shape' w → ((m ≡ mode.ByName → ⊥) → by_name s (syntax.Named x NoMore) ≡ None) → ((ty : SimType) → shape' ≡ shape.Simple → w ≡ Some ty → ProperType s ty → type_at s x.token.0 ≡ Some ty → Assignable s k (syntax.Named x NoMore) ty)
        → AllSay s (formal_controlled sign x.token.0 m shape' w).events → ControlledIs s k sign x (formal_controlled sign x.token.0 m shape' w).value
    unfolding telling gives
    formal_is m shape.Simple None p no_name left said = absurd p
    formal_is m shape.Simple (Some ty) p no_name left said = moded_is m ty no_name (left ty refl refl p) said
    formal_is m shape.Array w p no_name left said = absurd said.0
    formal_is m shape.Procedure w p no_name left said = absurd said.0

    -- how the controlled variable is known
    abbrev Here : DeclNo → Type 0
    Here d = KnownHere s (In k) x.token.0 (connection_at s x.token.0) (own_attribute s x.token.0) d

    module _ (d : DeclNo) (says : denoted s x.token.0 ≡ Some (denotation.Declared d)) (seen : Here d) (through : ThroughSeen s x.token.0 d) where
      use_is : UseIs s (In k) (syntax.Named x NoMore) x.token.0 d NoMore (Here d)
      use_is = named_use s (In k) x NoMore d says (either_attribute s known d) through

      -- a variable, which holds what its type does
      assigns : (e : Entry) → entry_of s.tables d ≡ Some e → NoResult (Some e) NoMore → (ty : SimType) → ProperType s ty
          → PlaceDeclared s (Here d) NoMore (AreIntegers s (In k) NoMore) (Some e) (held_by s ty)
          → ((h : Holds) → Fits s (held_by s ty) h → UseGives s (Here d) d NoMore (AreIntegers s (In k) NoMore) (ParametersAre s (In k) NoMore) (λ fs. ActualsFit s (In k) NoMore fs) (Some e) (Some h))
          → type_at s x.token.0 ≡ Some ty → Assignable s k (syntax.Named x NoMore) ty
      assigns e there none ty p a g typed =
          let it = use_is in
          let own = it.unowned (subst (λ z. NoResult z NoMore) (sym there) none) in
          let place = it.place ty (subst (λ z. PlaceDeclared s (Here d) NoMore (AreIntegers s (In k) NoMore) z (held_by s ty)) (sym there) a) in
          record {
            proper = p;
            typed = left_typed s (syntax.Named x NoMore) ty own.1 typed;
            left = place_is_left s k (syntax.Named x NoMore) (held_by s ty) place;
            text = λ is. subst (λ z. TextLeft s k (syntax.Named x NoMore) z) (sym own.0)
                (it.value (Simply kind.Text) (subst (λ z. UseGives s (Here d) d NoMore (AreIntegers s (In k) NoMore) (ParametersAre s (In k) NoMore) (λ fs. ActualsFit s (In k) NoMore fs) z (Some (Simply kind.Text))) (sym there)
                (g (Simply kind.Text) (subst (λ z. Fits s (held_by s z) (Simply kind.Text)) (sym is) refl))));
            reference = λ c is class held. subst (λ z. ReferenceAt s k (syntax.Named x NoMore) z class) (sym own.0) (subst (λ z. PlaceIs s (In k) (syntax.Named x NoMore) z) (ap (held_by s) is ∙ held) place);
          }

      -- what is no parameter by name
      named_none : (e : Entry) → entry_of s.tables d ≡ Some e → formal_by_name d (Some e) ≡ None → by_name s (syntax.Named x NoMore) ≡ None
      unfolding by_name
      named_none e there none = ap (name_denoted s) says ∙ ap (formal_by_name d) there ∙ none

      formal_none : (m : Mode) (kind : FormalKind) → (m ≡ mode.ByName → ⊥) → named_formal m kind d ≡ None
      formal_none mode.ByName kind other = absurd (other refl)
      formal_none mode.ByValue kind other = refl
      formal_none mode.ByReference kind other = refl

      entry_is : (e : Entry) → entry_of s.tables d ≡ Some e → ProperEntry s e → AllSay s (entry_controlled sign x.token.0 (Some e)).events → ControlledIs s k sign x (entry_controlled sign x.token.0 (Some e)).value
      unfolding telling gives
      entry_is (entry.Variable ty) there p said =
          variable_is ty (named_none (entry.Variable ty) there refl) (assigns (entry.Variable ty) there tt ty p (variable_left s (Here d) (AreIntegers s (In k) NoMore) ty seen)
          (λ h f. variable_names s (Here d) (AreIntegers s (In k) NoMore) (ParametersAre s (In k) NoMore) ty h f seen)) said
      entry_is (entry.Formal f) there p said =
          formal_is f.mode f.kind f.ty p (λ other. named_none (entry.Formal f) there (formal_none f.mode f.kind other))
          (λ ty kinds types proper typed.
          let held : formal_means s f.kind f.ty ≡ Some (held_by s ty) = ap (λ z. formal_means s z f.ty) kinds ∙ ap (formal_means s shape.Simple) types in
          assigns (entry.Formal f) there tt ty proper
          (subst (λ z. LeftHeld (Here d) NoMore (AreIntegers s (In k) NoMore) z (held_by s ty)) (sym held) (variable_left s (Here d) (AreIntegers s (In k) NoMore) ty seen))
          (λ h g. subst (λ z. HeldNames s (Here d) NoMore (AreIntegers s (In k) NoMore) (ParametersAre s (In k) NoMore) z h) (sym held) (variable_names s (Here d) (AreIntegers s (In k) NoMore) (ParametersAre s (In k) NoMore) ty h g seen))
          typed) said
      entry_is (entry.Unspecified w) there p said = absurd p
      entry_is (entry.Attribute name parameter result) there p said = absurd said.0
      entry_is (entry.Constant ty) there p said = absurd said.0
      entry_is (entry.Array element n) there p said = absurd said.0
      entry_is (entry.Procedure result j) there p said = absurd said.0
      entry_is (entry.Class j) there p said = absurd said.0
      entry_is (entry.Virtual result own) there p said = absurd said.0

    pub controlled_is : PlacedName s.tables k x → AllSay s (controlled s.tables sign x).events → ControlledIs s k sign x (controlled s.tables sign x).value
    unfolding controlled next simple telling
    controlled_is placed said = go (bound s.tables extent.Statement x).value (bound_is s extent.Statement x parts.0) parts.1
      where
        parts : AllSay s (bound s.tables extent.Statement x).events × AllSay s (simple s.tables sign x.token.0 (bound s.tables extent.Statement x).value.denotes).events
        parts = next_says s (bound s.tables extent.Statement x) (λ o. simple s.tables sign x.token.0 o.denotes) said

        denotes : (d : Denotation) → denoted s x.token.0 ≡ Some d → binding s.tables x.token.0 x.name ≡ Some d → is_barred s.tables extent.Statement x.token.0 d ≡ false
            → ((block : ℕ) → found_in s.tables x.token.0 x.name ≡ Some block → found_at s x.token.0 ≡ Some block) → AllSay s (simple s.tables sign x.token.0 (Some d)).events
            → ControlledIs s k sign x (simple s.tables sign x.token.0 (Some d)).value
        denotes (denotation.Declared d) says binds open_to found said =
            let there = known.there x.token.0 x.name d binds in
            let both = sight x.token.0 x.name d placed binds open_to found in
            let here = known_here s (In k) x.token.0 d (connection_at s x.token.0) (own_attribute s x.token.0) (own_declared s x.token.0 d says) both.0 both.1 in
            subst (λ z. ControlledIs s k sign x (entry_controlled sign x.token.0 z).value) (sym there.1)
            (entry_is d says here both.2 there.0 there.1 (known.proper d there.0 there.1) (subst (λ z. AllSay s (entry_controlled sign x.token.0 z).events) there.1 said))
        denotes (denotation.Standard name) says binds open_to found said = absurd said.0

        go : (o : Occurrence) → BoundIs s extent.Statement x o → AllSay s (simple s.tables sign x.token.0 o.denotes).events → ControlledIs s k sign x (simple s.tables sign x.token.0 o.denotes).value
        go o b said =
            subst (λ (z : Occurrence). ControlledIs s k sign x (simple s.tables sign x.token.0 z.denotes).value) (sym b.is)
            (denotes b.denotation b.says b.binds b.open_to b.found (subst (λ (z : Occurrence). AllSay s (simple s.tables sign x.token.0 z.denotes).events) b.is said))

  -- ---- elements

  taken : (a : SimType) (x : Side) (b : SimType) → x.ty ≡ Some b → AllSay s (taken_by s.tables (Some a) x).events → kind_of_type b ≡ kind_of_type a
  unfolding taken_by wrong telling
  taken a x b is said = go (misfit_of s.tables a b) refl (subst (λ z. AllSay s (type_taken s.tables (Some a) x z).events) is said)
    where
      go : (m : Option Rule) → misfit_of s.tables a b ≡ m → AllSay s (told_unless x.first.0 m).events → kind_of_type b ≡ kind_of_type a
      go None same said = no_misfit s.tables a b same
      go (Some rule) same said = absurd said.0

  value_is : (a : SimType) (e : Expression) → Known s (In k) extent.Statement e → AllSay s (first_value s.tables (Some a) e) → ExprIs s (In k) e (Simply (kind_of_type a))
  unfolding first_value
  value_is a e h said =
      let parts = next_says s (judge_side s.tables extent.Statement e) (taken_by s.tables (Some a)) said in
      let v = operand s known (In k) sight e h parts.0 in
      subst (λ z. ExprIs s (In k) e (Simply z)) (taken a (judge_side s.tables extent.Statement e).value v.ty v.is parts.1) (simply s (In k) e v.ty v.value)

  started : (a : SimType) (x : Side) (b : SimType) → x.ty ≡ Some b → AllSay s (starts (Some a) x).events → (a ≡ t.Integer) × (b ≡ t.Integer)
  unfolding starts wrong telling
  started a x b is said = go (is_same a t.Integer) refl (is_same b t.Integer) refl (subst (λ z. AllSay s (integer_from (Some a) x z).events) is said)
    where
      go : (m : Bool) → is_same a t.Integer ≡ m → (n : Bool) → is_same b t.Integer ≡ n → AllSay s (if m then (if n then fine else wrong x.first.0 r.WrongType) else wrong x.first.0 r.WrongType).events → (a ≡ t.Integer) × (b ≡ t.Integer)
      go true m true n said = (same_type a t.Integer tt m, same_type b t.Integer tt n)
      go true m false n said = absurd said.0
      go false m n o said = absurd said.0

  step_is : (a : SimType) (e : Expression) → Known s (In k) extent.Statement e → AllSay s (first_step s.tables (Some a) e) → (kind_of_type a ≡ kind.Integer) × ExprIs s (In k) e (Simply kind.Integer)
  unfolding first_step
  step_is a e h said =
      let parts = next_says s (judge_side s.tables extent.Statement e) (starts (Some a)) said in
      let v = operand s known (In k) sight e h parts.0 in
      let both = started a (judge_side s.tables extent.Statement e).value v.ty v.is parts.1 in
      (ap kind_of_type both.0, subst (λ z. ExprIs s (In k) e (Simply (kind_of_type z))) both.1 (simply s (In k) e v.ty v.value))

  -- an expression of a statement of the text
  in_statement : (e : Expression) → PlacedExpression s.tables k e → AllThere s (expression_constants e) → Known s (In k) extent.Statement e
  in_statement e l there = expression_known s known (In k) sight near e l there

  wanted_is : (wanted : SimType) → PlainType wanted → (e : Expression) → PlacedExpression s.tables k e → AllThere s (expression_constants e) → AllSay s (required s.tables extent.Statement wanted e) → ExprIs s (In k) e (Simply (kind_of_type wanted))
  wanted_is wanted w e l there said = required_is s known (In k) sight wanted w e (in_statement e l there) said

  element_is : (a : SimType) (e : Element) → PlacedElement s.tables k e → AllThere s (element_constants e) → AllSay s (element_events s.tables (Some a) e) → ElementIs s k (kind_of_type a) e
  element_is a (syntax.Once e) l there said = value_is a e (in_statement e l there) said
  element_is a (syntax.While e i c) l there said =
      let b = both_there s (expression_constants e) (expression_constants c) there in
      let parts = both_say s (first_value s.tables (Some a) e) (required s.tables extent.Statement t.Boolean c) said in
      (value_is a e (in_statement e l.0 b.0) parts.0, wanted_is t.Boolean tt c l.1 b.1 parts.1)
  element_is a (syntax.Step e i step limit) l there said =
      let b = both_there s (expression_constants e) (expression_constants step ++ expression_constants limit) there in
      let c = both_there s (expression_constants step) (expression_constants limit) b.1 in
      let parts = both_say s (first_step s.tables (Some a) e) (required s.tables extent.Statement t.Integer step ++ required s.tables extent.Statement t.Integer limit) said in
      let more = both_say s (required s.tables extent.Statement t.Integer step) (required s.tables extent.Statement t.Integer limit) parts.1 in
      let first = step_is a e (in_statement e l.0 b.0) parts.0 in
      (first.0, first.1, wanted_is t.Integer tt step l.1 c.0 more.0, wanted_is t.Integer tt limit l.2 c.1 more.1)

  elements_are : (a : SimType) (es : List Element) → Each (PlacedElement s.tables k) es → AllThere s (elements_constants es) → AllSay s (each (element_events s.tables (Some a)) es) → ElementsAre s k (kind_of_type a) es
  elements_are a [] l there said = tt
  elements_are a (e ∷ es) l there said =
      let b = both_there s (element_constants e) (elements_constants es) there in
      let parts = both_say s (element_events s.tables (Some a) e) (each (element_events s.tables (Some a)) es) said in
      (element_is a e l.0 b.0 parts.0, elements_are a es l.1 b.1 parts.1)

  -- ---- left sides

  last_known : (e : Expression) (parts : List RightSide) → PlacedExpression s.tables k e → Each (PlacedSide s.tables k) parts → AllThere s (expression_constants e) → AllThere s (right_constants parts)
      → Known s (In k) extent.Statement (last_value e parts) × TargetsKnown s k (left_sides e parts)
  last_known e [] l m there more = (in_statement e l there, tt)
  last_known e (x ∷ xs) l m there more =
      let b = both_there s (expression_constants x.value) (right_constants xs) more in
      let rest = last_known x.value xs m.0 m.1 b.0 b.1 in
      (rest.0, (in_statement e l there, rest.1))

  -- ---- statements

  for_is : (i : ℕ) (x : Identifier) (sign : Assignment) (j : ℕ) (es : List Element) (a : Statement) → PlacedStatement s k (syntax.For i x sign j es a) → AllThere s (elements_constants es)
      → AllSay s (control_events s.tables x sign es) → StatementIs s k a → StatementIs s k (syntax.For i x sign j es a)
  unfolding control_events
  for_is i x sign j es a l there said body =
      let parts = both_say s (controlled s.tables sign x).events (each (element_events s.tables (controlled s.tables sign x).value) es) said in
      let c = controlled_is sign x l.0 parts.0 in
      (kind_of_type c.ty, c.control, elements_are c.ty es l.1 there (subst (λ z. AllSay s (each (element_events s.tables z) es)) c.is parts.1), body)

  -- ---- connections

  -- what is connected has the qualification that it is connected by
  object_of : (token : ℕ) (e : Expression) (ty : SimType) → ValueIs s (In k) e ty → (x : Side) → AllSay s (type_connected s.tables token x (Some ty)).events → ExprIs s (In k) e (holds_reference (class_of_type s.tables (Some ty)))
  unfolding wrong telling
  object_of token e (t.Ref d) v x said =
      let c = v.proper in
      let row = class_row s.tables d c.block c.declares in
      subst (λ z. ExprIs s (In k) e (holds_reference z)) (sym row) (v.value (Refers c.block) (subst (λ z. Fits s z (Refers c.block)) (sym (class_held s d c)) (own_level s.tables c.block known.some_block)))
  object_of token e t.NoneType v x said = v.value (Simply kind.Reference) refl
  object_of token e t.Integer v x said = absurd said.0
  object_of token e t.Boolean v x said = absurd said.0
  object_of token e t.Character v x said = absurd said.0
  object_of token e t.Text v x said = absurd said.0

  object_is : (token : ℕ) (e : Expression) → Known s (In k) extent.Statement e → AllSay s (inspect_events s.tables token e) → ExprIs s (In k) e (holds_reference (class_of_type s.tables (judge_side s.tables extent.Statement e).value.ty))
  unfolding inspect_events connected_by
  object_is token e h said =
      let x = (judge_side s.tables extent.Statement e).value in
      let parts = next_says s (judge_side s.tables extent.Statement e) (connected_by s.tables token) said in
      let v = operand s known (In k) sight e h parts.0 in
      subst (λ z. ExprIs s (In k) e (holds_reference (class_of_type s.tables z))) (sym v.is) (object_of token e v.ty v.value x (subst (λ z. AllSay s (type_connected s.tables token x z).events) v.is parts.1))

  reference_type : (x : Side) (ty : SimType) → AllSay s (reference_needed x (Some ty)).events → kind_of_type ty ≡ kind.Reference
  unfolding wrong telling
  reference_type x (t.Ref d) said = refl
  reference_type x t.NoneType said = refl
  reference_type x t.Integer said = absurd said.0
  reference_type x t.Boolean said = absurd said.0
  reference_type x t.Character said = absurd said.0
  reference_type x t.Text said = absurd said.0

  inspected : (e : Expression) → Known s (In k) extent.Statement e → AllSay s (next (judge_side s.tables extent.Statement e) needs_reference).events → ExprIs s (In k) e (Simply kind.Reference)
  unfolding needs_reference
  inspected e h said =
      let x = (judge_side s.tables extent.Statement e).value in
      let parts = next_says s (judge_side s.tables extent.Statement e) needs_reference said in
      let v = operand s known (In k) sight e h parts.0 in
      subst (λ z. ExprIs s (In k) e (Simply z)) (reference_type x v.ty (subst (λ z. AllSay s (reference_needed x z).events) v.is parts.1)) (simply s (In k) e v.ty v.value)

  -- the class of an arm
  arm_is : (token : ℕ) (x : Side) (class : Identifier) → AllSay s (arm_events s.tables token x class) → (c : ℕ) × (class_at s class.token.0 ≡ Some c) × (class_of_name s.tables (binding s.tables class.token.0 class.name) ≡ Some c)
  unfolding arm_events arm_fits
  arm_is token x class said =
      let parts = next_says s (class_named s.tables extent.Statement class) (arm_fits s.tables token x class) said in
      go (class_named s.tables extent.Statement class).value (class_means s known extent.Statement class parts.0) parts.1
    where
      go : (o : Occurrence) → ClassIs s extent.Statement class o ⊎ PrefixIs o → AllSay s (arm_fits s.tables token x class o).events
          → (c : ℕ) × (class_at s class.token.0 ≡ Some c) × (class_of_name s.tables (binding s.tables class.token.0 class.name) ≡ Some c)
      go o (inr p) said = absurd (fits_refused s class.token.0 o p x.ty (next_says s (class_fits s.tables class.token.0 o.denotes x.ty) (λ b. arm_connected s.tables token o.denotes) said).0)
      go o (inl c) said =
          let b = c.found in
          let row = class_row s.tables c.declaration c.class.block c.class.declares in
          (c.class.block, class_meets s extent.Statement class o c, ap (class_of_name s.tables) (b.binds ∙ ap Some c.same) ∙ row)

  inspect_when_parts : (token : ℕ) (e : Expression) (classes : List Identifier) → AllSay s (inspect_when_events s.tables token e classes)
      → AllSay s (next (judge_side s.tables extent.Statement e) needs_reference).events × AllSay s (each (arm_events s.tables token (judge_side s.tables extent.Statement e).value) classes)
  unfolding inspect_when_events
  inspect_when_parts token e classes said = both_say s (next (judge_side s.tables extent.Statement e) needs_reference).events (each (arm_events s.tables token (judge_side s.tables extent.Statement e).value) classes) said

  -- ---- activations

  -- a process is a reference
  activated : (process : DeclNo) (x : Side) (ty : SimType) → x.ty ≡ Some ty → AllSay s (activates s.tables (Some process) x).events → kind_of_type ty ≡ kind.Reference
  unfolding activates wrong telling
  activated process x ty is said = go (misfit_of s.tables (t.Ref process) ty) refl (subst (λ z. AllSay s (type_activated s.tables (Some process) x z).events) is said)
    where
      go : (m : Option Rule) → misfit_of s.tables (t.Ref process) ty ≡ m → AllSay s (told_unless x.first.0 m).events → kind_of_type ty ≡ kind.Reference
      go None same said = no_misfit s.tables (t.Ref process) ty same
      go (Some rule) same said = absurd said.0

  process_is : (process : DeclNo) (e : Expression) → PlacedExpression s.tables k e → AllThere s (expression_constants e) → AllSay s (process_events s.tables (Some process) e) → ExprIs s (In k) e (Simply kind.Reference)
  unfolding process_events
  process_is process e l there said =
      let parts = next_says s (judge_side s.tables extent.Statement e) (activates s.tables (Some process)) said in
      let v = operand s known (In k) sight e (in_statement e l there) parts.0 in
      subst (λ z. ExprIs s (In k) e (Simply z)) (activated process (judge_side s.tables extent.Statement e).value v.ty v.is parts.1) (simply s (In k) e v.ty v.value)

  timing_is : (process : DeclNo) (x : Schedule) → PlacedSchedule s.tables k x → AllThere s (schedule_constants x) → AllSay s (schedule_events s.tables (Some process) x) → TimingIs s k x
  timing_is process syntax.Now l there said = tt
  timing_is process (syntax.At i e prior) l there said = wanted_is t.Integer tt e l there said
  timing_is process (syntax.Delay i e prior) l there said = wanted_is t.Integer tt e l there said
  timing_is process (syntax.Before i e) l there said = process_is process e l there said
  timing_is process (syntax.After i e) l there said = process_is process e l there said

  activation_typed : (i : ℕ) (word : Activation) (e : Expression) (schedule : Schedule) → PlacedStatement s k (syntax.Activate i word e schedule) → AllThere s (statement_constants (syntax.Activate i word e schedule))
      → AllSay s (activate_events s.tables i e schedule) → StatementIs s k (syntax.Activate i word e schedule)
  unfolding activate_events
  activation_typed i word e schedule l there said =
      let b = both_there s (expression_constants e) (schedule_constants schedule) there in
      go (process_at s.tables i) refl b.0 b.1 (both_say s (in_simulation i (process_at s.tables i)) (process_events s.tables (process_at s.tables i) e ++ schedule_events s.tables (process_at s.tables i) schedule) said)
    where
      go : (o : Option DeclNo) → process_at s.tables i ≡ o → AllThere s (expression_constants e) → AllThere s (schedule_constants schedule) → AllSay s (in_simulation i o) × AllSay s (process_events s.tables o e ++ schedule_events s.tables o schedule)
          → StatementIs s k (syntax.Activate i word e schedule)
      go None at first second parts = absurd parts.0.0
      go (Some process) at first second parts =
          let more = both_say s (process_events s.tables (Some process) e) (schedule_events s.tables (Some process) schedule) parts.1 in
          (simulation_is s known k i process l.0 at, process_is process e l.1 first more.0, timing_is process schedule l.2 second more.1)

-- ---- each statement of a text, and of the connections in it

-- it is not the body of a class
abbrev pub NoBody : Position → Type 0
NoBody ClassBody = ⊥
NoBody _ = Unit {0}

-- the body of a class is read as its own text, where it is a block
abbrev pub InClass : Position → Statement → Type 0
InClass ClassBody (syntax.Compound b) = ⊥
InClass _ a = Unit {0}

pub in_class : (q : Position) (a : Statement) → NoBody q → InClass q a
in_class ClassBody a n = absurd n
in_class ClassStatement a n = tt
in_class Inside a n = tt

module _ (s : Source) (known : Tabled s) (near : (k : ℕ) → AllNear s (In k)) where
  mutual
    unfolding judging

    pub statement_typed : (k : ℕ) (q : Position) (a : Statement) → InClass q a → PlacedStatement s k a → AllThere s (statement_constants a) → AllSay s (statement_events (judging s.tables) q a) → StatementIs s k a
    statement_typed k q (syntax.Empty i) c l there said = tt
    statement_typed k ClassBody (syntax.Compound b) c l there said = absurd c
    statement_typed k ClassStatement (syntax.Compound b) c l there said = block_typed k b l there said
    statement_typed k Inside (syntax.Compound b) c l there said = block_typed k b l there said
    statement_typed k q (syntax.Inner i) c l there said = l
    statement_typed k q (syntax.Call e) c l there said = call_typed s known k e (in_statement s known k (statement_sight s known k) (near k) e l there) said
    statement_typed k q (syntax.Assign left parts) c l there said =
        let b = both_there s (expression_constants left) (right_constants parts) there in
        let h = last_known s known k (statement_sight s known k) (near k) left parts l.0 l.1 b.0 b.1 in
        assign_typed s known k (statement_sight s known k) left parts h.0 h.1 said
    statement_typed k q (syntax.Choose i e a rest) c l there said =
        let b = both_there s (expression_constants e) (statement_constants a ++ statements_constants rest) there in
        let d = both_there s (statement_constants a) (statements_constants rest) b.1 in
        let v = judging s.tables in
        let parts = both_say s (required s.tables extent.Statement t.Boolean e) (statement_events v Inside a ++ statements_events v Inside rest) said in
        let more = both_say s (statement_events v Inside a) (statements_events v Inside rest) parts.1 in
        (wanted_is s known k (statement_sight s known k) (near k) t.Boolean tt e l.0 b.0 parts.0, statement_typed k Inside a tt l.1 d.0 more.0, statements_typed k Inside rest tt l.2 d.1 more.1)
    statement_typed k q (syntax.Repeat i e a) c l there said =
        let b = both_there s (expression_constants e) (statement_constants a) there in
        let v = judging s.tables in
        let parts = both_say s (required s.tables extent.Statement t.Boolean e) (statement_events v Inside a) said in
        (wanted_is s known k (statement_sight s known k) (near k) t.Boolean tt e l.0 b.0 parts.0, statement_typed k Inside a tt l.1 b.1 parts.1)
    statement_typed k q (syntax.For i x sign j es a) c l there said =
        let b = both_there s (elements_constants es) (statement_constants a) there in
        let v = judging s.tables in
        let parts = both_say s (control_events s.tables x sign es) (statement_events v Inside a) said in
        for_is s known k (statement_sight s known k) (near k) i x sign j es a l b.0 parts.0 (statement_typed k Inside a tt l.2 b.1 parts.1)
    statement_typed k q (syntax.Inspect i e opening a end other) c l there said =
        let b = both_there s (expression_constants e) (statement_constants a ++ statements_constants other) there in
        let d = both_there s (statement_constants a) (statements_constants other) b.1 in
        let v = judging s.tables in
        let parts = both_say s (inspect_events s.tables i e) (statement_events v Inside a ++ statements_events v Inside other) said in
        let more = both_say s (statement_events v Inside a) (statements_events v Inside other) parts.1 in
        let connection = l.1 in
        let object = object_is s known k (statement_sight s known k) (near k) i e (in_statement s known k (statement_sight s known k) (near k) e l.0 b.0) parts.0 in
        (connection.connection, subst (λ z. ExprIs s (In k) e (holds_reference z)) (sym connection.connects) object, statement_typed connection.connection.number Inside a tt l.2 d.0 more.0, statements_typed k Inside other tt l.3 d.1 more.1)
    statement_typed k q (syntax.InspectWhen i e arms other) c l there said =
        let b = both_there s (expression_constants e) (arms_constants arms ++ statements_constants other) there in
        let d = both_there s (arms_constants arms) (statements_constants other) b.1 in
        let v = judging s.tables in
        let parts = both_say s (inspect_when_events s.tables i e (arm_classes arms)) (arms_events v arms ++ statements_events v Inside other) said in
        let more = both_say s (arms_events v arms) (statements_events v Inside other) parts.1 in
        let own = inspect_when_parts s known k (statement_sight s known k) (near k) i e (arm_classes arms) parts.0 in
        let object = inspected s known k (statement_sight s known k) (near k) e (in_statement s known k (statement_sight s known k) (near k) e l.0 b.0) own.0 in
        (object, arms_typed k i (judge_side s.tables extent.Statement e).value arms l.1 d.0 own.1 more.0, statements_typed k Inside other tt l.2 d.1 more.1)
    statement_typed k q (syntax.Prefixed class es b) c l there said =
        let t = both_there s (expressions_constants es) (block_constants b) there in
        let placed = l.1 in
        let actuals = prefix_fits s known k (near k).0 class es (first_token b) placed.number placed.around (known.block_prefixes placed.number placed.class placed.arguments placed.declarations placed.statements placed.is) (expressions_known s known (In k) (statement_sight s known k) (near k) es l.0 t.0)
        (both_say s (prefixed_events s.tables class es (first_token b)) (whole_events (judging s.tables) b) said).0 in
        block_there k es b placed actuals
    statement_typed k q (syntax.Activate i word e schedule) c l there said = activation_typed s known k (statement_sight s known k) (near k) i word e schedule l there said

    block_there : (k : ℕ) (es : Expressions) (b : Block) → (l : PlacedPrefixed s k (first_token b)) → ActualsFit s (In k) es (class_parameters s (Some l.number)) → PrefixedIs s k (begin_of b) (λ fs. ActualsFit s (In k) es fs)
    block_there k es (Begin i ds ss end) l fit = record { number = l.number; around = l.around; stands_in = l.stands_in; class = l.class; arguments = l.arguments; declarations = l.declarations; statements = l.statements; is = l.is; actuals = fit }

    arms_typed : (k token : ℕ) (x : Side) (arms : Arms) → PlacedArms s k arms → AllThere s (arms_constants arms) → AllSay s (each (arm_events s.tables token x) (arm_classes arms)) → AllSay s (arms_events (judging s.tables) arms) → ArmsAre s k arms
    arms_typed k token x NoArm l there own said = tt
    arms_typed k token x (When i class opening a end more) l there own said =
        let v = judging s.tables in
        let b = both_there s (statement_constants a) (arms_constants more) there in
        let first = both_say s (arm_events s.tables token x class) (each (arm_events s.tables token x) (arm_classes more)) own in
        let parts = both_say s (statement_events v Inside a ++ []) (arms_events v more) said in
        let inside = both_say s (statement_events v Inside a) [] parts.0 in
        let connection = l.0 in
        let c = arm_is s known k (statement_sight s known k) (near k) token x class first.0 in
        (connection.connection, c.0, c.1, connection.connects ∙ c.2, statement_typed connection.connection.number Inside a tt l.1 b.0 inside.0, arms_typed k token x more l.2 b.1 first.1 parts.1)

    pub statements_typed : (k : ℕ) (q : Position) (ss : Statements) → NoBody q → PlacedStatements s k ss → AllThere s (statements_constants ss) → AllSay s (statements_events (judging s.tables) q ss) → StatementsAre s k ss
    statements_typed k q NoStatement c l there said = tt
    statements_typed k q (Also a more) c l there said =
        let b = both_there s (statement_constants a) (statements_constants more) there in
        let v = judging s.tables in
        let parts = both_say s (statement_events v q a) (statements_events v q more) said in
        (statement_typed k q a (in_class q a c) l.0 b.0 parts.0, statements_typed k q more c l.1 b.1 parts.1)

    block_typed : (k : ℕ) (b : Block) → PlacedBlock s k b → AllThere s (block_constants b) → AllSay s (block_events (judging s.tables) b) → CompoundIs s k b
    block_typed k (Begin i NoDeclaration ss end) l there said = statements_typed k Inside ss tt l there said
    block_typed k (Begin i (With d ds) ss end) l there said = l
