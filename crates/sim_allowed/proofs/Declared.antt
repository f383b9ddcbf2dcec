-- What an expression is that uses a declaration: an identifier, or an attribute of an object, alone or with operands.
use Rattle.std.proofs.Common.{◌≡◌, inl, inr, ℕ, Bool, true, false, length, Option, Some, None, refl, sym, ap, ◌∙◌, subst, arith, if◌then◌else◌}
use Rattle.std.proofs.lemmas.Bool.Decides.{nat_tests}
use Rattle.std.specs.Prelude.{◌+◌, List, nat_eq}
use Rattle.sim_base.specs.declared.numbering.DeclNo.{DeclNo}
use Rattle.sim_base.specs.declared.rule.Rule.TheVariants as r
use Rattle.sim_scope.specs.declared.found.Fault.{Fault}
use Rattle.sim_scope.specs.declared.outcome.Actuals.{Actuals}
use Rattle.sim_scope.specs.declared.outcome.Outcome.{Outcome}
use Rattle.sim_scope.specs.declared.outcome.Outcome.TheVariants as is
use Rattle.sim_scope.specs.declared.outcome.Parameter.TheVariants as parameter
use Rattle.sim_scope.specs.declared.scopes.Denotation.TheVariants as denotation
use Rattle.sim_scope.specs.declared.types.Entry.{Entry}
use Rattle.sim_scope.specs.declared.types.Entry.TheVariants as entry
use Rattle.sim_scope.specs.declared.types.Formal.{Formal}
use Rattle.sim_scope.specs.declared.types.FormalKind.{FormalKind}
use Rattle.sim_scope.specs.declared.types.FormalKind.TheVariants as shape
use Rattle.sim_scope.specs.declared.types.SimType.{SimType}
use Rattle.sim_scope.specs.declared.types.SimType.TheVariants as t
use Rattle.sim_scope.specs.Actuals.{attribute_parameter, formal_or_none, of_formal_procedure, parameter_at, parameter_of}
use Rattle.sim_scope.specs.Calls.{attribute_count, declared_alone, declared_applied, element_of, formal_alone, is_undotted, match_seen, own_undotted, procedure_alone, resulting, typed_if}
use Rattle.sim_scope.specs.Found.{Typed}
use Rattle.sim_scope.specs.Judged.{Judged, gives, telling}
use Rattle.sim_scope.specs.Outcomes.{breaks, call_of, varies}
use Rattle.sim_scope.specs.Scopes.{entry_of, formals_of, result_in, result_of}
use Rattle.sim_scope.specs.Source.{Source, type_at}
use Rattle.sim_tree.specs.declared.expr.Identifier.{Identifier}
use Rattle.sim_tree.specs.Syntax.{Expression, Expressions, NoMore, Then}
use Rattle.sim_values.specs.declared.standard.Standard.{Standard}
use Rattle.sim_meaning.specs.Attributes.{attribute_formals}
use Rattle.sim_meaning.specs.Closing.{has_type, is_placed, is_text, is_text_type, is_variable_entry, stream_of, typed_token, is_variable_formal}
use Rattle.sim_meaning.specs.Entries.{formals_of as meant_formals}
use Rattle.sim_meaning.specs.Levels.{qualification}
use Rattle.sim_meaning.specs.Statements.{denoted_leaves, entry_leaves}
use Rattle.sim_meaning.specs.Texts.{kind_of_type}
use Rattle.sim_sound.specs.Held.{ArrayOf, Fits, FitsIn, Holds, Place, Simply, formal_means, given_by, held_by, reference_to}
use Rattle.sim_meaning.specs.Checks.{Passed, PassedProcedure, entry_passed, formal_passed, passed, value_passed}
use Rattle.sim_sound.specs.Expressions.{ActualsFit, AreIntegers, DeclaredGives, ExprIs, HeldNames, LeftHeld, ParametersAre, PlaceDeclared, CheckedGives, FormalCalled, FormalStands, ProcedureDeclared, ProcedureIs as GivesProcedure}
use Rattle.sim_sound.specs.Statements.{is_given}
use Rattle.sim_sound.proofs.Formals.{formals_same}
use Rattle.sim_agree.specs.Facts.{ProperEntry, ProperFormal, ProperResult, ProperType, Tabled}
use Rattle.sim_allowed.proofs.Actuals.{AllFit, FitsAs, all_formals, all_integers, size, all_parameters}
use Rattle.sim_allowed.proofs.Calls.{call_means}
use Rattle.sim_allowed.proofs.Classes.{plain_proper, plain_value, proper_takes, proper_value}
use Rattle.sim_allowed.proofs.Headings.{heading}
use Rattle.sim_allowed.proofs.Meant.{CallGiven, CallsFor, Means, OwnResult, Takes, TypeThere, ValueIs, Varies, MatchResult, NoOwn, IsChecked}
use Rattle.sim_allowed.proofs.Said.{AllSay}

-- ---- what is held

held_named : (s : Source) (Known Indices Checked : Type 0) (o : Option ℕ) (h : Holds) → Fits s (reference_to o) h → Known → HeldNames s Known NoMore Indices Checked (Some (reference_to o)) h
held_named s K I C None h f k = (f, k)
held_named s K I C (Some c) h f k = (f, k)

-- a variable names what may stand where its type does
pub variable_names : (s : Source) (Known Indices Checked : Type 0) (type : SimType) (h : Holds) → Fits s (held_by s type) h → Known → HeldNames s Known NoMore Indices Checked (Some (held_by s type)) h
variable_names s K I C t.Integer h f k = (f, k)
variable_names s K I C t.Boolean h f k = (f, k)
variable_names s K I C t.Character h f k = (f, k)
variable_names s K I C t.Text h f k = (f, k)
variable_names s K I C (t.Ref d) h f k = held_named s K I C (qualification s (Some (t.Ref d))) h f k
variable_names s K I C t.NoneType h f k = (f, k)

held_left : (Known Indices : Type 0) (o : Option ℕ) → Known → LeftHeld Known NoMore Indices (Some (reference_to o)) (reference_to o)
held_left K I None k = (refl, k)
held_left K I (Some c) k = (refl, k)

pub variable_left : (s : Source) (Known Indices : Type 0) (type : SimType) → Known → LeftHeld Known NoMore Indices (Some (held_by s type)) (held_by s type)
variable_left s K I t.Integer k = (refl, k)
variable_left s K I t.Boolean k = (refl, k)
variable_left s K I t.Character k = (refl, k)
variable_left s K I t.Text k = (refl, k)
variable_left s K I (t.Ref d) k = held_left K I (qualification s (Some (t.Ref d))) k
variable_left s K I t.NoneType k = (refl, k)

-- ---- uses

-- the result of no procedure and of no match
abbrev pub NoResult : Option Entry → Expressions → Type 0
NoResult (Some (entry.Procedure result k)) NoMore = ⊥
NoResult (Some (entry.Virtual result own)) NoMore = ⊥
NoResult _ es = Unit {0}

-- what calls give that have a result of this type, or none
abbrev pub GivenFor : Source → (Option Holds → Type 0) → Option SimType → Type 0
GivenFor s Given None = Given None
GivenFor s Given (Some type) = (h : Holds) → Takes s type h → Given (Some h)

-- what a declaration gives, with attributes of `simulation` itself
abbrev pub UseGives : Source → (Known : Type 0) → DeclNo → Expressions → (Indices Checked : Type 0) → (Actuals : List Formal → Type 0) → Option Entry → Option Holds → Type 0
UseGives s Known d es Indices Checked Actuals (Some (entry.Attribute name w result)) h = FitsIn s (given_by s result) h × Known × Actuals (attribute_formals w)
UseGives s Known d es Indices Checked Actuals e h = DeclaredGives s Known d es Indices Checked Actuals e h

-- what an expression is as an actual parameter of any call
abbrev pub shown_as : Source → Expression → DeclNo → Expressions → Passed
shown_as s e d NoMore = entry_passed s d (entry_of s.tables d) (value_passed s e)
shown_as s e d (Then f es) = value_passed s e

-- what is so where there are no operands
abbrev pub WhenAlone : Expressions → Type 0 → Type 0
WhenAlone NoMore P = P
WhenAlone (Then e es) P = Unit {0}

-- An expression uses a declaration, which is known where it stands.
pub record UseIs (s : Source) (from : Place) (e : Expression) (naming : ℕ) (d : DeclNo) (es : Expressions) (Known : Type 0) : Type 0 where
  pub at : typed_token e ≡ naming
  pub stream : stream_of s e ≡ None
  pub value : (h : Holds) → UseGives s Known d es (AreIntegers s from es) (ParametersAre s from es) (λ fs. ActualsFit s from es fs) (entry_of s.tables d) (Some h) → ExprIs s from e h
  pub call : (h : Option Holds) → UseGives s Known d es (AreIntegers s from es) (ParametersAre s from es) (λ fs. ActualsFit s from es fs) (entry_of s.tables d) h → denoted_leaves s (Some (denotation.Declared d)) ≡ is_given h → CallGiven s from e h
  pub calls : (result : Option SimType) → GivenFor s (CallGiven s from e) result → CallsFor s from e result
  pub place : (type : SimType) → PlaceDeclared s Known es (AreIntegers s from es) (entry_of s.tables d) (held_by s type) → Varies s from e type
  pub unowned : NoResult (entry_of s.tables d) es → NoOwn s e
  pub unplaced : is_variable_entry (entry_of s.tables d) es ≡ false → is_placed s e ≡ false
  pub shown : passed s e ≡ shown_as s e d es
  pub stands : WhenAlone es ((wanted : Option SimType) → ProcedureDeclared s Known (entry_of s.tables d) wanted → GivesProcedure s from e wanted)

typed_is : (token : ℕ) (result : Option SimType) (o : Outcome) → (typed_if token result o).value ≡ o
unfolding telling gives
typed_is token None o = refl
typed_is token (Some type) o = refl

-- whether a call leaves a value
leaves_result : (s : Source) (d : DeclNo) (result : Option SimType) (k : ℕ) → entry_of s.tables d ≡ Some (entry.Procedure result k) → denoted_leaves s (Some (denotation.Declared d)) ≡ has_type result
unfolding result_of
leaves_result s d result k e = ap (entry_leaves s d) e ∙ ap (λ z. has_type (result_in z)) e

formal_leaves : (s : Source) (d : DeclNo) (f : Formal) → entry_of s.tables d ≡ Some (entry.Formal f) → denoted_leaves s (Some (denotation.Declared d)) ≡ has_type f.ty
formal_leaves s d f e = ap (entry_leaves s d) e

virtual_leaves : (s : Source) (d : DeclNo) (result : Option SimType) (own : Option DeclNo) → entry_of s.tables d ≡ Some (entry.Virtual result own) → denoted_leaves s (Some (denotation.Declared d)) ≡ has_type result
unfolding result_of
virtual_leaves s d result own e = ap (entry_leaves s d) e ∙ ap (λ z. has_type (result_in z)) e

set_leaves : (s : Source) (d : DeclNo) (name : Standard) (w result : Option SimType) → entry_of s.tables d ≡ Some (entry.Attribute name w result) → denoted_leaves s (Some (denotation.Declared d)) ≡ has_type result
set_leaves s d name w result e = ap (entry_leaves s d) e

-- ---- formal parameters

pub formal_type : (s : Source) (k : FormalKind) (type : SimType) → ProperFormal s k (Some type) → ProperType s type
formal_type s shape.Simple type p = p
formal_type s shape.Array type p = p
formal_type s shape.Procedure type p = p

-- ---- alone

module _ (s : Source) (known : Tabled s) (from : Place) (e : Expression) (naming : ℕ) (d : DeclNo) (Known : Type 0) (sees : Known) (it : UseIs s from e naming d NoMore Known) where
  value_there : (type : SimType) → ProperType s type → type_at s naming ≡ Some type → ((h : Holds) → Takes s type h → ExprIs s from e h) → ValueIs s from e type
  unfolding is_text
  value_there type p said v =
      let typed = ap (type_at s) it.at ∙ said in
      record { proper = proper_value s type p; texts = ap is_text_type typed; stream = it.stream; typed = typed; value = v }

  -- what the entry of the declaration gives
  gives_at : (x : Entry) → entry_of s.tables d ≡ Some x → (h : Holds) → UseGives s Known d NoMore (AreIntegers s from NoMore) (ParametersAre s from NoMore) (λ fs. ActualsFit s from NoMore fs) (Some x) (Some h) → ExprIs s from e h
  gives_at x there h a = it.value h (subst (λ z. UseGives s Known d NoMore (AreIntegers s from NoMore) (ParametersAre s from NoMore) (λ fs. ActualsFit s from NoMore fs) z (Some h)) (sym there) a)

  -- as an actual parameter
  shown_at : (x : Entry) → entry_of s.tables d ≡ Some x → passed s e ≡ entry_passed s d (Some x) (value_passed s e)
  shown_at x there = it.shown ∙ ap (λ z. entry_passed s d z (value_passed s e)) there

  stands_at : (x : Entry) → entry_of s.tables d ≡ Some x → (wanted : Option SimType) → ProcedureDeclared s Known (Some x) wanted → GivesProcedure s from e wanted
  stands_at x there wanted a = it.stands wanted (subst (λ z. ProcedureDeclared s Known z wanted) (sym there) a)

  -- what is no variable
  unplaced_at : (x : Entry) → entry_of s.tables d ≡ Some x → is_variable_entry (Some x) NoMore ≡ false → is_placed s e ≡ false
  unplaced_at x there none = it.unplaced (ap (λ z. is_variable_entry z NoMore) there ∙ none)

  varies_alone : (x : Entry) → entry_of s.tables d ≡ Some x → (type : SimType) → ProperType s type
      → ((h : Holds) → Fits s (held_by s type) h → UseGives s Known d NoMore (AreIntegers s from NoMore) (ParametersAre s from NoMore) (λ fs. ActualsFit s from NoMore fs) (Some x) (Some h))
      → PlaceDeclared s Known NoMore (AreIntegers s from NoMore) (Some x) (held_by s type) → NoResult (Some x) NoMore → entry_passed s d (Some x) (value_passed s e) ≡ value_passed s e → AllSay s (varies naming type).events → Means true s from e (varies naming type).value
  unfolding varies telling
  varies_alone x there type p a left none shown said = (
    value_there type p said.0 (λ h f. gives_at x there h (a h (proper_takes s type h p f))),
    p,
    it.place type (subst (λ z. PlaceDeclared s Known NoMore (AreIntegers s from NoMore) z (held_by s type)) (sym there) left),
    it.unowned (subst (λ z. NoResult z NoMore) (sym there) none),
    shown_at x there ∙ shown,
  )

  type_there : (result : Option SimType) (o : Outcome) → ProperResult s result → AllSay s (typed_if naming result o).events → TypeThere s e result
  unfolding telling gives is_text
  type_there None o p said = tt
  type_there (Some type) o p said = let typed = ap (type_at s) it.at ∙ said.0 in (p, ap is_text_type typed, it.stream, typed)

  -- a call without parameters of what is checked when it is done
  checked_given : (result : Option SimType) → ProperResult s result → denoted_leaves s (Some (denotation.Declared d)) ≡ has_type result
      → ((h : Option Holds) → FitsIn s (given_by s result) h → UseGives s Known d NoMore (AreIntegers s from NoMore) (ParametersAre s from NoMore) (λ fs. ActualsFit s from NoMore fs) (entry_of s.tables d) h) → GivenFor s (CallGiven s from e) result
  checked_given None p left gives = it.call None (gives None tt) left
  checked_given (Some type) p left gives = λ h f. it.call (Some h) (gives (Some h) (proper_takes s type h p f)) left

  -- a formal parameter
  module _ (f : Formal) (there : entry_of s.tables d ≡ Some (entry.Formal f)) where
    -- what it means, by its kind
    means_as : (k : FormalKind) (w : Option SimType) → f.kind ≡ k → f.ty ≡ w → formal_means s f.kind f.ty ≡ formal_means s k w
    means_as k w kinds types = ap (λ z. formal_means s z f.ty) kinds ∙ ap (formal_means s k) types

    shown_formal : (k : FormalKind) (w : Option SimType) → f.kind ≡ k → f.ty ≡ w → passed s e ≡ formal_passed k w (value_passed s e)
    shown_formal k w kinds types = shown_at (entry.Formal f) there ∙ ap (λ z. formal_passed z f.ty (value_passed s e)) kinds ∙ ap (λ z. formal_passed k z (value_passed s e)) types

    -- a formal procedure
    called_gives : (w : Option SimType) → f.kind ≡ shape.Procedure → f.ty ≡ w → (h : Option Holds) → FitsIn s (given_by s w) h
        → UseGives s Known d NoMore (AreIntegers s from NoMore) (ParametersAre s from NoMore) (λ fs. ActualsFit s from NoMore fs) (entry_of s.tables d) h
    called_gives w kinds types (Some h) fit =
        subst (λ z. UseGives s Known d NoMore (AreIntegers s from NoMore) (ParametersAre s from NoMore) (λ fs. ActualsFit s from NoMore fs) z (Some h)) (sym there)
        (subst (λ z. HeldNames s Known NoMore (AreIntegers s from NoMore) (ParametersAre s from NoMore) z h) (sym (means_as shape.Procedure w kinds types)) (fit, sees, tt))
    called_gives w kinds types None fit =
        subst (λ z. UseGives s Known d NoMore (AreIntegers s from NoMore) (ParametersAre s from NoMore) (λ fs. ActualsFit s from NoMore fs) z None) (sym there)
        (subst (λ z. FormalCalled s Known z f.ty (ParametersAre s from NoMore)) (sym kinds) (subst (λ z. CheckedGives s Known z (ParametersAre s from NoMore) None) (sym types) (fit, sees, tt)))

    formal_called : (x : Identifier) (w : Option SimType) → f.kind ≡ shape.Procedure → f.ty ≡ w → ProperResult s w → TypeThere s e w → Means true s from e (procedure_alone d x None)
    formal_called x w kinds types p typed = inr (inr (record {
      result = w;
      proper = p;
      declared = subst (λ z. IsChecked z w) (sym there) (kinds, types);
      typed = typed;
      calls = it.calls w (checked_given w p (formal_leaves s d f there ∙ ap has_type types) (called_gives w kinds types));
      inside = it.unowned (subst (λ z. NoResult z NoMore) (sym there) tt);
      unplaced = unplaced_at (entry.Formal f) there (ap (λ z. is_variable_formal z NoMore) kinds);
      stands = λ wanted fits. stands_at (entry.Formal f) there wanted (subst (λ z. FormalStands s Known z f.ty wanted) (sym kinds) (subst (λ z. FormalStands s Known shape.Procedure z wanted) (sym types) (fits, sees)));
      shown = shown_formal shape.Procedure w kinds types;
    }))

    abbrev typed_judged : Outcome → FormalKind → SimType → Judged Outcome
    typed_judged o k type = (elim k as (λ z. Judged Outcome) [ shape.Simple ↦ varies naming type | shape.Array ↦ gives (is.Array type) | shape.Procedure ↦ telling (Typed naming type) o ])

    abbrev untyped_judged : Outcome → FormalKind → Judged Outcome
    untyped_judged o k = (elim k as (λ z. Judged Outcome) [ shape.Procedure ↦ gives o | _ ↦ gives is.Refused ])

    formal_is : (x : Identifier) → ProperFormal s f.kind f.ty → AllSay s (formal_alone naming f f.ty (procedure_alone d x None)).events → Means true s from e (formal_alone naming f f.ty (procedure_alone d x None)).value
    unfolding gives telling
    formal_is x p said = typed f.ty refl p said
      where
        go : (type : SimType) → f.ty ≡ Some type → (k : FormalKind) → f.kind ≡ k → ProperFormal s k (Some type) → AllSay s (typed_judged (procedure_alone d x None) k type).events → Means true s from e (typed_judged (procedure_alone d x None) k type).value
        go type types shape.Procedure kinds p said = formal_called x (Some type) kinds types p (type_there (Some type) (procedure_alone d x None) p said)
        go type types shape.Simple kinds p said =
            let h : formal_means s f.kind f.ty ≡ Some (held_by s type) = means_as shape.Simple (Some type) kinds types in
            varies_alone (entry.Formal f) there type p
            (λ g fits. subst (λ z. HeldNames s Known NoMore (AreIntegers s from NoMore) (ParametersAre s from NoMore) z g) (sym h) (variable_names s Known (AreIntegers s from NoMore) (ParametersAre s from NoMore) type g fits sees))
            (subst (λ z. LeftHeld Known NoMore (AreIntegers s from NoMore) z (held_by s type)) (sym h) (variable_left s Known (AreIntegers s from NoMore) type sees)) tt (ap (λ z. formal_passed z f.ty (value_passed s e)) kinds) said
        go type types shape.Array kinds p said =
            let h : formal_means s f.kind f.ty ≡ Some (ArrayOf (held_by s type)) = means_as shape.Array (Some type) kinds types in (
              p,
              gives_at (entry.Formal f) there (ArrayOf (held_by s type)) (subst (λ z. HeldNames s Known NoMore (AreIntegers s from NoMore) (ParametersAre s from NoMore) z (ArrayOf (held_by s type))) (sym h) (refl, sees)),
              shown_formal shape.Array (Some type) kinds types,
            )

        untyped : f.ty ≡ None → (k : FormalKind) → f.kind ≡ k → ProperFormal s k None → AllSay s (untyped_judged (procedure_alone d x None) k).events → Means true s from e (untyped_judged (procedure_alone d x None) k).value
        untyped types shape.Procedure kinds p said = formal_called x None kinds types tt tt
        untyped types shape.Simple kinds p said = absurd p
        untyped types shape.Array kinds p said = absurd p

        typed : (w : Option SimType) → f.ty ≡ w → ProperFormal s f.kind w → AllSay s (formal_alone naming f w (procedure_alone d x None)).events → Means true s from e (formal_alone naming f w (procedure_alone d x None)).value
        typed None types p said = untyped types f.kind refl p said
        typed (Some type) types p said = go type types f.kind refl p said

  -- what a call gives
  given : (result : Option SimType) (k : ℕ) → ProperResult s result → entry_of s.tables d ≡ Some (entry.Procedure result k) → ActualsFit s from NoMore (meant_formals s k) → GivenFor s (CallGiven s from e) result
  given None k p there fit = it.call None (subst (λ z. UseGives s Known d NoMore (AreIntegers s from NoMore) (ParametersAre s from NoMore) (λ fs. ActualsFit s from NoMore fs) z None) (sym there) (tt, sees, fit)) (leaves_result s d None k there)
  given (Some type) k p there fit = λ h f.
      it.call (Some h) (subst (λ z. UseGives s Known d NoMore (AreIntegers s from NoMore) (ParametersAre s from NoMore) (λ fs. ActualsFit s from NoMore fs) z (Some h)) (sym there) (proper_takes s type h p f, sees, fit)) (leaves_result s d (Some type) k there)

  -- what an attribute gives
  set_given : (name : Standard) (w result : Option SimType) → ProperResult s result → entry_of s.tables d ≡ Some (entry.Attribute name w result) → w ≡ None → GivenFor s (CallGiven s from e) result
  set_given name w None p there none =
      it.call None
      (subst (λ z. UseGives s Known d NoMore (AreIntegers s from NoMore) (ParametersAre s from NoMore) (λ fs. ActualsFit s from NoMore fs) z None) (sym there)
      (tt, sees, subst (λ z. ActualsFit s from NoMore (attribute_formals z)) (sym none) tt)) (set_leaves s d name w None there)
  set_given name w (Some type) p there none = λ h f.
      it.call (Some h)
      (subst (λ z. UseGives s Known d NoMore (AreIntegers s from NoMore) (ParametersAre s from NoMore) (λ fs. ActualsFit s from NoMore fs) z (Some h)) (sym there)
      (proper_takes s type h p f, sees, subst (λ z. ActualsFit s from NoMore (attribute_formals z)) (sym none) tt)) (set_leaves s d name w (Some type) there)

  virtual_gives : (result : Option SimType) (own : Option DeclNo) → entry_of s.tables d ≡ Some (entry.Virtual result own) → (h : Option Holds) → FitsIn s (given_by s result) h
      → UseGives s Known d NoMore (AreIntegers s from NoMore) (ParametersAre s from NoMore) (λ fs. ActualsFit s from NoMore fs) (entry_of s.tables d) h
  virtual_gives result own there h fit = subst (λ z. UseGives s Known d NoMore (AreIntegers s from NoMore) (ParametersAre s from NoMore) (λ fs. ActualsFit s from NoMore fs) z h) (sym there) (fit, sees, tt)

  shown_procedure : (result : Option SimType) (k : ℕ) → entry_of s.tables d ≡ Some (entry.Procedure result k) → passed s e ≡ PassedProcedure result (length (meant_formals s k))
  shown_procedure result k there =
      shown_at (entry.Procedure result k) there ∙ ap (λ fs. PassedProcedure result (length fs)) (formals_same s d result k there)

  pub alone_means : (x : Identifier) (b : Entry) → entry_of s.tables d ≡ Some b → ProperEntry s b
      → ((result : Option SimType) (k : ℕ) → entry_of s.tables d ≡ Some (entry.Procedure result k) → OwnResult s from e (own_undotted s.tables x (is_undotted naming x) (Some d)) d result k)
      → ((result : Option SimType) (own : Option DeclNo) → entry_of s.tables d ≡ Some (entry.Virtual result own) → MatchResult s from e result (own_undotted s.tables x (is_undotted naming x) (match_seen s.tables x)))
      → AllSay s (declared_alone s.tables naming x d (Some b)).events → Means true s from e (declared_alone s.tables naming x d (Some b)).value
  unfolding telling gives
  alone_means x (entry.Variable type) there p own match said =
      varies_alone (entry.Variable type) there type p (λ h f. variable_names s Known (AreIntegers s from NoMore) (ParametersAre s from NoMore) type h f sees) (variable_left s Known (AreIntegers s from NoMore) type sees) tt refl said
  alone_means x (entry.Constant type) there p own match said =
      let c = known.constants d type there in
      (value_there type (plain_proper s type p) said.0 (plain_value s from e type p (gives_at (entry.Constant type) there (Simply (kind_of_type type)) (c.value, c.is, ap Simply c.of_type, sees))), unplaced_at (entry.Constant type) there refl, shown_at (entry.Constant type) there)
  alone_means x (entry.Array element dimensions) there p own match said = (p, gives_at (entry.Array element dimensions) there (ArrayOf (held_by s element)) (refl, sees), shown_at (entry.Array element dimensions) there)
  alone_means x (entry.Procedure result k) there p own match said =
      let o = procedure_alone d x (own_undotted s.tables x (is_undotted naming x) (Some d)) in
      subst (λ z. Means true s from e z) (sym (typed_is naming result o))
      (inl (record {
        result = result;
        block = k;
        declared = there;
        typed = type_there result o p said;
        calls = λ fit. it.calls result (given result k p there fit);
        inside = own result k there;
        unplaced = unplaced_at (entry.Procedure result k) there refl;
        stands = λ wanted fits. stands_at (entry.Procedure result k) there wanted (fits, sees);
        shown = shown_procedure result k there;
      }))
  alone_means x (entry.Class k) there p own match said = tt
  alone_means x (entry.Virtual result own) there p results match said =
      let o = procedure_alone d x (own_undotted s.tables x (is_undotted naming x) (match_seen s.tables x)) in
      subst (λ z. Means true s from e z) (sym (typed_is naming result o))
      (inr (inr (record {
        result = result;
        proper = p;
        declared = subst (λ z. IsChecked z result) (sym there) refl;
        typed = type_there result o p said;
        calls = it.calls result (checked_given result p (virtual_leaves s d result own there) (virtual_gives result own there));
        inside = match result own there;
        unplaced = unplaced_at (entry.Virtual result own) there refl;
        stands = λ wanted fits. stands_at (entry.Virtual result own) there wanted (fits, sees);
        shown = shown_at (entry.Virtual result own) there;
      })))
  alone_means x (entry.Formal f) there p own match said = formal_is f there x p said
  alone_means x (entry.Unspecified w) there p own match said = absurd p
  alone_means x (entry.Attribute name w result) there p own match said =
      let o = procedure_alone d x None in
      subst (λ z. Means true s from e z) (sym (typed_is naming result o))
      (inr (inl (record {
        name = name;
        parameter = w;
        result = result;
        declared = there;
        typed = type_there result o p.2 said;
        calls = λ none. it.calls result (set_given name w result p.2 there none);
        no_own = refl;
        unowned = it.unowned (subst (λ z. NoResult z NoMore) (sym there) tt);
        unplaced = unplaced_at (entry.Attribute name w result) there refl;
        shown = shown_at (entry.Attribute name w result) there;
      })))

-- ---- with operands

declared_parameters : (s : Source) (d : DeclNo) (e : Entry) → entry_of s.tables d ≡ Some e → (i : ℕ) → parameter_at s.tables (Some (denotation.Declared d)) i ≡ parameter_of s.tables d i (Some e)
unfolding parameter_at
declared_parameters s d e there i = ap (parameter_of s.tables d i) there

module _ (s : Source) (known : Tabled s) (from : Place) (e : Expression) (naming : ℕ) (d : DeclNo) (Known : Type 0) (sees : Known) (first : Expression) (rest : Expressions) (it : UseIs s from e naming d (Then first rest) Known)
    (a : Actuals) (count : a.count ≡ size (Then first rest)) (fits : a.misfit ≡ None → AllFit s from (Some (denotation.Declared d)) 0 (Then first rest)) where
  abbrev Them : Expressions
  Them = Then first rest

  abbrev Gives : Entry → Option Holds → Type 0
  Gives x h = UseGives s Known d Them (AreIntegers s from Them) (ParametersAre s from Them) (λ fs. ActualsFit s from Them fs) (Some x) h

  with_type : (type : SimType) → ProperType s type → type_at s naming ≡ Some type → ((h : Holds) → Takes s type h → ExprIs s from e h) → ValueIs s from e type
  unfolding is_text
  with_type type p said v =
      let typed = ap (type_at s) it.at ∙ said in
      record { proper = proper_value s type p; texts = ap is_text_type typed; stream = it.stream; typed = typed; value = v }

  call_unplaced : (x : Entry) → entry_of s.tables d ≡ Some x → is_variable_entry (Some x) Them ≡ false → is_placed s e ≡ false
  call_unplaced x there none = it.unplaced (ap (λ z. is_variable_entry z Them) there ∙ none)

  -- an element
  element_means : (x : Entry) → entry_of s.tables d ≡ Some x → (element : SimType) → ProperType s element → ((i : ℕ) → parameter_of s.tables d i (Some x) ≡ parameter.Subscript)
      → (AreIntegers s from Them → (h : Holds) → Fits s (held_by s element) h → Gives x (Some h)) → (AreIntegers s from Them → PlaceDeclared s Known Them (AreIntegers s from Them) (Some x) (held_by s element))
      → NoResult (Some x) Them → (m : Option Fault) → a.misfit ≡ m → AllSay s (element_of naming m element).events → Means true s from e (element_of naming m element).value
  unfolding element_of varies telling breaks
  element_means x there element p subscripts value left none (Some f) same said = absurd said.0
  element_means x there element p subscripts value left none None same said =
      let indices = all_integers s from (Some (denotation.Declared d)) (λ i. declared_parameters s d x there i ∙ subscripts i) 0 Them (fits same) in (
        with_type element p said.0 (λ h f. it.value h (subst (λ z. UseGives s Known d Them (AreIntegers s from Them) (ParametersAre s from Them) (λ fs. ActualsFit s from Them fs) z (Some h)) (sym there) (value indices h (proper_takes s element h p f)))),
        p,
        it.place element (subst (λ z. PlaceDeclared s Known Them (AreIntegers s from Them) z (held_by s element)) (sym there) (left indices)),
        it.unowned (subst (λ z. NoResult z Them) (sym there) none),
        it.shown,
      )

  call_given : (result : Option SimType) (k : ℕ) → ProperResult s result → entry_of s.tables d ≡ Some (entry.Procedure result k) → ActualsFit s from Them (meant_formals s k) → GivenFor s (CallGiven s from e) result
  call_given None k p there fit = it.call None (subst (λ z. UseGives s Known d Them (AreIntegers s from Them) (ParametersAre s from Them) (λ fs. ActualsFit s from Them fs) z None) (sym there) (tt, sees, fit)) (leaves_result s d None k there)
  call_given (Some type) k p there fit = λ h f.
      it.call (Some h) (subst (λ z. UseGives s Known d Them (AreIntegers s from Them) (ParametersAre s from Them) (λ fs. ActualsFit s from Them fs) z (Some h)) (sym there) (proper_takes s type h p f, sees, fit)) (leaves_result s d (Some type) k there)

  result_there : (result : Option SimType) (o : Outcome) → ProperResult s result → AllSay s (typed_if naming result o).events → TypeThere s e result
  unfolding telling gives is_text
  result_there None o p said = tt
  result_there (Some type) o p said = let typed = ap (type_at s) it.at ∙ said.0 in (p, ap is_text_type typed, it.stream, typed)

  call_with : (result : Option SimType) (k : ℕ) → entry_of s.tables d ≡ Some (entry.Procedure result k) → ProperResult s result → length (formals_of s.tables d) ≡ a.count
      → (m : Option Fault) → a.misfit ≡ m → AllSay s (resulting naming m result).events → Means true s from e (resulting naming m result).value
  unfolding resulting breaks telling
  call_with result k there p same (Some f) is said = absurd said.0
  call_with result k there p same None is said =
      let head = heading s known d result k there in
      let fit = all_formals s from (Some (denotation.Declared d)) 0 Them (meant_formals s k) (λ i. (let zero_more : 0 + i ≡ i = omega arith in ap (parameter_at s.tables (Some (denotation.Declared d))) zero_more ∙ declared_parameters s d (entry.Procedure result k) there i ∙ ap formal_or_none (head.places i)))
      head.proper (sym count ∙ sym same ∙ head.count) (fits is) in
      subst (λ z. Means true s from e z) (sym (typed_is naming result (call_of result)))
      (call_means s from e result (result_there result (call_of result) p said) (it.calls result (call_given result k p there fit)) true (it.unowned (subst (λ z. NoResult z Them) (sym there) tt)) (call_unplaced (entry.Procedure result k) there refl) it.shown)

  -- a virtual or a formal procedure, whose actual parameters are held against those of the procedure when it is called
  checked_call : (result : Option SimType) → ProperResult s result → denoted_leaves s (Some (denotation.Declared d)) ≡ has_type result
      → ((h : Option Holds) → FitsIn s (given_by s result) h → UseGives s Known d Them (AreIntegers s from Them) (ParametersAre s from Them) (λ fs. ActualsFit s from Them fs) (entry_of s.tables d) h) → GivenFor s (CallGiven s from e) result
  checked_call None p left gives = it.call None (gives None tt) left
  checked_call (Some type) p left gives = λ h f. it.call (Some h) (gives (Some h) (proper_takes s type h p f)) left

  parameters_are : (x : Entry) → entry_of s.tables d ≡ Some x → ((i : ℕ) → parameter_of s.tables d i (Some x) ≡ parameter.Unspecified) → a.misfit ≡ None → ParametersAre s from Them
  parameters_are x there any same = all_parameters s from (Some (denotation.Declared d)) (λ i. declared_parameters s d x there i ∙ any i) 0 Them (fits same)

  checked_with : (x : Entry) → entry_of s.tables d ≡ Some x → (result : Option SimType) → ProperResult s result → denoted_leaves s (Some (denotation.Declared d)) ≡ has_type result
      → (a.misfit ≡ None → (h : Option Holds) → FitsIn s (given_by s result) h → UseGives s Known d Them (AreIntegers s from Them) (ParametersAre s from Them) (λ fs. ActualsFit s from Them fs) (entry_of s.tables d) h)
      → NoResult (Some x) Them → is_variable_entry (Some x) Them ≡ false → (m : Option Fault) → a.misfit ≡ m → AllSay s (resulting naming m result).events → Means true s from e (resulting naming m result).value
  unfolding resulting breaks telling
  checked_with x there result p left gives none free (Some f) same said = absurd said.0
  checked_with x there result p left gives none free None same said =
      subst (λ z. Means true s from e z) (sym (typed_is naming result (call_of result)))
      (call_means s from e result (result_there result (call_of result) p said) (it.calls result (checked_call result p left (gives same))) true (it.unowned (subst (λ z. NoResult z Them) (sym there) none)) (call_unplaced x there free) it.shown)

  virtual_with : (result : Option SimType) (own : Option DeclNo) → entry_of s.tables d ≡ Some (entry.Virtual result own) → ProperResult s result → (m : Option Fault) → a.misfit ≡ m → AllSay s (resulting naming m result).events → Means true s from e (resulting naming m result).value
  virtual_with result own there p m same said =
      checked_with (entry.Virtual result own) there result p (virtual_leaves s d result own there)
      (λ none h fit. subst (λ z. UseGives s Known d Them (AreIntegers s from Them) (ParametersAre s from Them) (λ fs. ActualsFit s from Them fs) z h) (sym there) (fit, sees, parameters_are (entry.Virtual result own) there (λ i. refl) none))
      tt refl m same said

  -- an attribute, with the actual parameter of its formal parameter
  set_fits : (name : Standard) (w result : Option SimType) → entry_of s.tables d ≡ Some (entry.Attribute name w result) → attribute_count w ≡ size Them → AllFit s from (Some (denotation.Declared d)) 0 Them → ActualsFit s from Them (attribute_formals w)
  set_fits name None result there same fit = absurd (omega (arith, same))
  set_fits name (Some type) result there same fit = go rest (omega (arith, same))
    where
      one : FitsAs s from first (attribute_parameter (Some type) 0)
      one = subst (λ p. FitsAs s from first p) (declared_parameters s d (entry.Attribute name (Some type) result) there 0) fit.0

      go : (more : Expressions) → size more ≡ 0 → ActualsFit s from (Then first more) (attribute_formals (Some type))
      go NoMore none = (one.0, tt)
      go (Then other more) none = absurd (omega (arith, none))

  set_call_given : (name : Standard) (w result : Option SimType) → ProperResult s result → entry_of s.tables d ≡ Some (entry.Attribute name w result) → ActualsFit s from Them (attribute_formals w) → GivenFor s (CallGiven s from e) result
  set_call_given name w None p there fit =
      it.call None (subst (λ z. UseGives s Known d Them (AreIntegers s from Them) (ParametersAre s from Them) (λ fs. ActualsFit s from Them fs) z None) (sym there) (tt, sees, fit)) (set_leaves s d name w None there)
  set_call_given name w (Some type) p there fit = λ h f.
      it.call (Some h) (subst (λ z. UseGives s Known d Them (AreIntegers s from Them) (ParametersAre s from Them) (λ fs. ActualsFit s from Them fs) z (Some h)) (sym there) (proper_takes s type h p f, sees, fit)) (set_leaves s d name w (Some type) there)

  set_with : (name : Standard) (w result : Option SimType) → entry_of s.tables d ≡ Some (entry.Attribute name w result) → ProperEntry s (entry.Attribute name w result) → attribute_count w ≡ a.count
      → (m : Option Fault) → a.misfit ≡ m → AllSay s (resulting naming m result).events → Means true s from e (resulting naming m result).value
  unfolding resulting breaks telling
  set_with name w result there p same (Some f) is said = absurd said.0
  set_with name w result there p same None is said =
      let fit = set_fits name w result there (same ∙ count) (fits is) in
      subst (λ z. Means true s from e z) (sym (typed_is naming result (call_of result)))
      (call_means s from e result (result_there result (call_of result) p.2 said) (it.calls result (set_call_given name w result p.2 there fit)) true (it.unowned (subst (λ z. NoResult z Them) (sym there) tt)) (call_unplaced (entry.Attribute name w result) there refl) it.shown)

  abbrev element_judged : Option SimType → Judged Outcome
  element_judged result = (elim result as (λ z. Judged Outcome) [ None ↦ gives is.Refused | Some element ↦ element_of naming a.misfit element ])

  abbrev formal_applied_as : ℕ → FormalKind → Option SimType → Judged Outcome
  formal_applied_as token k result = (elim k as (λ z. Judged Outcome) [ shape.Simple ↦ breaks token r.WrongKind | shape.Array ↦ element_judged result | shape.Procedure ↦ resulting naming a.misfit result ])

  formal_with : (token : ℕ) (f : Formal) → entry_of s.tables d ≡ Some (entry.Formal f) → ProperFormal s f.kind f.ty → AllSay s (formal_applied_as token f.kind f.ty).events → Means true s from e (formal_applied_as token f.kind f.ty).value
  unfolding breaks telling
  formal_with token f there p said = go f.kind refl p said
    where
      means_as : (k : FormalKind) (w : Option SimType) → f.kind ≡ k → f.ty ≡ w → formal_means s f.kind f.ty ≡ formal_means s k w
      means_as k w kinds types = ap (λ z. formal_means s z f.ty) kinds ∙ ap (formal_means s k) types

      array : f.kind ≡ shape.Array → (w : Option SimType) → f.ty ≡ w → ProperFormal s shape.Array w → AllSay s (element_judged w).events → Means true s from e (element_judged w).value
      array kinds None types p said = absurd p
      array kinds (Some type) types p said =
          let h : formal_means s f.kind f.ty ≡ Some (ArrayOf (held_by s type)) = means_as shape.Array (Some type) kinds types in
          element_means (entry.Formal f) there type p (λ i. ap of_formal_procedure kinds)
          (λ indices g fit. subst (λ z. HeldNames s Known Them (AreIntegers s from Them) (ParametersAre s from Them) z g) (sym h) (fit, sees, indices))
          (λ indices. subst (λ z. LeftHeld Known Them (AreIntegers s from Them) z (held_by s type)) (sym h) (refl, sees, indices)) tt a.misfit refl said

      gives_it : f.kind ≡ shape.Procedure → ParametersAre s from Them → (h : Option Holds) → FitsIn s (given_by s f.ty) h
          → UseGives s Known d Them (AreIntegers s from Them) (ParametersAre s from Them) (λ fs. ActualsFit s from Them fs) (entry_of s.tables d) h
      gives_it kinds are (Some h) fit =
          subst (λ z. UseGives s Known d Them (AreIntegers s from Them) (ParametersAre s from Them) (λ fs. ActualsFit s from Them fs) z (Some h)) (sym there)
          (subst (λ z. HeldNames s Known Them (AreIntegers s from Them) (ParametersAre s from Them) z h) (sym (means_as shape.Procedure f.ty kinds refl)) (fit, sees, are))
      gives_it kinds are None fit =
          subst (λ z. UseGives s Known d Them (AreIntegers s from Them) (ParametersAre s from Them) (λ fs. ActualsFit s from Them fs) z None) (sym there)
          (subst (λ z. FormalCalled s Known z f.ty (ParametersAre s from Them)) (sym kinds) (fit, sees, are))

      go : (k : FormalKind) → f.kind ≡ k → ProperFormal s k f.ty → AllSay s (formal_applied_as token k f.ty).events → Means true s from e (formal_applied_as token k f.ty).value
      go shape.Simple kinds p said = absurd said.0
      go shape.Procedure kinds p said =
          checked_with (entry.Formal f) there f.ty p (formal_leaves s d f there) (λ none h fit. gives_it kinds (parameters_are (entry.Formal f) there (λ i. ap of_formal_procedure kinds) none) h fit)
          tt (ap (λ z. is_variable_formal z Them) kinds) a.misfit refl said
      go shape.Array kinds p said = array kinds f.ty refl p said

  pub with_means : (token : ℕ) (b : Entry) → entry_of s.tables d ≡ Some b → ProperEntry s b → AllSay s (declared_applied naming token (Some b) (length (formals_of s.tables d)) a).events
      → Means true s from e (declared_applied naming token (Some b) (length (formals_of s.tables d)) a).value
  unfolding breaks telling
  with_means token (entry.Variable type) there p said = absurd said.0
  with_means token (entry.Constant type) there p said = absurd said.0
  with_means token (entry.Array element dimensions) there p said = go (nat_eq dimensions a.count) said
    where
      go : (b : Bool) → AllSay s (if b then element_of naming a.misfit element else breaks token r.WrongNumber).events → Means true s from e (if b then element_of naming a.misfit element else breaks token r.WrongNumber).value
      go true said =
          element_means (entry.Array element dimensions) there element p (λ i. refl) (λ indices h fit. (fit, sees, indices)) (λ indices. (refl, sees, indices)) tt a.misfit refl said
      go false said = absurd said.0
  with_means token (entry.Procedure result k) there p said = go (nat_eq (length (formals_of s.tables d)) a.count) refl said
    where
      go : (b : Bool) → nat_eq (length (formals_of s.tables d)) a.count ≡ b → AllSay s (if b then resulting naming a.misfit result else breaks token r.WrongNumber).events → Means true s from e (if b then resulting naming a.misfit result else breaks token r.WrongNumber).value
      go true same said = call_with result k there p (grind (arith, nat_tests)) a.misfit refl said
      go false same said = absurd said.0
  with_means token (entry.Class k) there p said = absurd said.0
  with_means token (entry.Virtual result own) there p said = virtual_with result own there p a.misfit refl said
  with_means token (entry.Unspecified w) there p said = absurd p
  with_means token (entry.Attribute name w result) there p said = go (nat_eq (attribute_count w) a.count) refl said
    where
      go : (b : Bool) → nat_eq (attribute_count w) a.count ≡ b → AllSay s (if b then resulting naming a.misfit result else breaks token r.WrongNumber).events → Means true s from e (if b then resulting naming a.misfit result else breaks token r.WrongNumber).value
      go true same said = set_with name w result there p (grind (arith, nat_tests)) a.misfit refl said
      go false same said = absurd said.0
  with_means token (entry.Formal f) there p said = formal_with token f there p said
