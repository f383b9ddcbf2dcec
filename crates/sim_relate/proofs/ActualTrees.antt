-- Actual parameters: what is passed is held against its class, kept, copied, or given as a thunk.
use Rattle.std.proofs.Common.{◌≡◌, ℕ, suc, Bool, true, false, Option, Some, None, refl, sym, subst}
use Rattle.sim_scope.specs.declared.types.Formal.{Formal}
use Rattle.sim_scope.specs.declared.types.FormalKind.{FormalKind}
use Rattle.sim_scope.specs.declared.types.FormalKind.TheVariants as shape
use Rattle.sim_scope.specs.declared.types.Mode.{Mode}
use Rattle.sim_scope.specs.declared.types.Mode.TheVariants as mode
use Rattle.sim_scope.specs.declared.types.SimType.{SimType}
use Rattle.sim_scope.specs.Source.{Source}
use Rattle.sim_tree.specs.Syntax.{Expression, Expressions, NoMore, Then}
use Rattle.sim_values.specs.Standard.{row_of}
use Rattle.sim_code.specs.Code.{CodeOf}
use Rattle.sim_meaning.specs.Attributes.{fitting, kept_if, parameter_qualification}
use Rattle.sim_meaning.specs.Checks.{passed}
use Rattle.sim_meaning.specs.Closing.{class_passed, actual_term, is_procedure_kind, is_text_type}
use Rattle.sim_meaning.specs.Pending.{ActualOf, Instances, Term}
use Rattle.sim_meaning.specs.Texts.{text}
use Rattle.codegen_expr.specs.Sites.{Site}
use Rattle.codegen_expr.specs.CodeExpr.{ActualAt, FittingAt, ParametersAt, ThunkAt, ThunkIfAt, is_procedure, is_value}
use Rattle.sim_relate.proofs.ClassNames.{parameter_classed}
use Rattle.sim_relate.proofs.Known.{ActualCode, read_given}
use Rattle.sim_relate.proofs.Trees.{ActualIs, AllPassAt, Classed, OperandAt}

module _ (s : Source) (code : CodeOf) (m : Instances) (inst : ℕ) (site : Site) where
  abbrev ObjectIs : (n : ℕ) → (Base : ℕ → ℕ → Type 0) → Term → Type 0
  ObjectIs n Base x = (p q : ℕ) → Base p q → OperandAt s code m inst site n x p q

  fits : (class : Option ℕ) → ((k : ℕ) → class ≡ Some k → Classed s k) → (line n : ℕ) (A : ℕ → ℕ → Type 0) (x : Term) → ObjectIs n A x → (p q : ℕ) → FittingAt s code site n line class A p q → OperandAt s code m inst site n (fitting class line x) p q
  fits None c line n A x f p q a = f p q a
  fits (Some k) c line n A x f p q a =
      ((a.0, f p a.0 a.1, record { is_class = c k refl; held = a.2 }), refl)

  abbrev pub kept_when : Bool → Mode → FormalKind → Term → Term
  kept_when true by kind x = kept_if by kind x
  kept_when false by kind x = x

  -- a value that is passed is held against a class
  abbrev pub passed_as : Mode → Option ℕ → Option ℕ
  passed_as mode.ByName class = None
  passed_as mode class = class

  passed_is : (by : Mode) (x : Formal) → x.mode ≡ by → class_passed s x ≡ passed_as x.mode (parameter_qualification s x.kind x.ty)
  passed_is mode.ByName x e = rw e
  passed_is mode.ByValue x e = rw e
  passed_is mode.ByReference x e = rw e

  -- what a thunk does
  abbrev pub ThunkOf : Expression → (as_procedure : Bool) → Site → ℕ → ℕ → Type 0
  ThunkOf e as_procedure inner p q = ActualCode s code inner as_procedure e p q

  thunk_is : (e : Expression) (as_procedure : Bool) (n p q : ℕ) → ThunkAt code site n (ThunkOf e as_procedure) p q → ActualIs s code inst site n inst as_procedure e p q
  thunk_is e as_procedure n p q a =
      let t = a.past in
      record {
        was = site.used;
        here = refl;
        thunk = record { z = a.z; number = a.number; past = record { x = t.x; y = t.y; room = t.room; over = t.over; past = t.past; there = t.there; later = t.later; given = t.given; end = t.end }; thunk = a.thunk };
      }

  module _ (e : Expression) (x y : Term) where
    -- a value, a reference or a text
    plain_actual : (by : Mode) (text : Bool) (line n : ℕ) (A P : ℕ → ℕ → Type 0) → ObjectIs n A x → (keeps : Bool) (p q : ℕ) → ActualAt code site n line keeps by shape.Simple text A P (ThunkOf e) p q → OperandAt s code m inst site n (actual_term line by shape.Simple text x y (ActualOf inst false e)) p q
    unfolding row_of
    plain_actual mode.ByValue true line n A P f keeps p q a = let v = f p a.0 a.1 in ((a.0, (a.0, (v.0, read_given s x v.1), refl), a.2), refl)
    plain_actual mode.ByValue false line n A P f keeps p q a = f p q a
    plain_actual mode.ByReference text line n A P f keeps p q a = f p q a
    plain_actual mode.ByName text line n A P f keeps p q a = (thunk_is e false n p q a, refl)

    actual_at : (keeps : Bool) (by : Mode) (kind : FormalKind) (type : Option SimType) (text : Bool) (line n : ℕ) (A P : ℕ → ℕ → Type 0) → ObjectIs n A x → ObjectIs n P y → (p q : ℕ) → FittingAt s code site n line (passed_as by (parameter_qualification s kind type)) (ActualAt code site n line keeps by kind text A P (ThunkOf e)) p q
        → OperandAt s code m inst site n (kept_when keeps by kind (fitting (passed_as by (parameter_qualification s kind type)) line (actual_term line by kind text x y (ActualOf inst (is_procedure_kind kind) e)))) p q
    unfolding row_of
    actual_at true mode.ByReference shape.Array type text line n A P f g p q a = ((a.0, f p a.0 a.1, a.2), refl)
    actual_at false mode.ByReference shape.Array type text line n A P f g p q a = f p q a
    actual_at true mode.ByValue shape.Array type text line n A P f g p q a = ((a.0, f p a.0 a.1, a.2), refl)
    actual_at false mode.ByValue shape.Array type text line n A P f g p q a = ((a.0, f p a.0 a.1, a.2), refl)
    actual_at true mode.ByValue shape.Simple type text line n A P f g p q a = fits (parameter_qualification s shape.Simple type) (parameter_classed s shape.Simple type) line n (ActualAt code site n line true mode.ByValue shape.Simple text A P (ThunkOf e)) (actual_term line mode.ByValue shape.Simple text x y (ActualOf inst false e)) (λ p q. plain_actual mode.ByValue text line n A P f true p q) p q a
    actual_at true mode.ByReference shape.Simple type text line n A P f g p q a = fits (parameter_qualification s shape.Simple type) (parameter_classed s shape.Simple type) line n (ActualAt code site n line true mode.ByReference shape.Simple text A P (ThunkOf e)) (actual_term line mode.ByReference shape.Simple text x y (ActualOf inst false e)) (λ p q. plain_actual mode.ByReference text line n A P f true p q) p q a
    actual_at false mode.ByValue shape.Simple type text line n A P f g p q a = fits (parameter_qualification s shape.Simple type) (parameter_classed s shape.Simple type) line n (ActualAt code site n line false mode.ByValue shape.Simple text A P (ThunkOf e)) (actual_term line mode.ByValue shape.Simple text x y (ActualOf inst false e)) (λ p q. plain_actual mode.ByValue text line n A P f false p q) p q a
    actual_at false mode.ByReference shape.Simple type text line n A P f g p q a = fits (parameter_qualification s shape.Simple type) (parameter_classed s shape.Simple type) line n (ActualAt code site n line false mode.ByReference shape.Simple text A P (ThunkOf e)) (actual_term line mode.ByReference shape.Simple text x y (ActualOf inst false e)) (λ p q. plain_actual mode.ByReference text line n A P f false p q) p q a
    actual_at true mode.ByValue shape.Procedure type text line n A P f g p q a = g p q a
    actual_at true mode.ByReference shape.Procedure type text line n A P f g p q a = g p q a
    actual_at false mode.ByValue shape.Procedure type text line n A P f g p q a = g p q a
    actual_at false mode.ByReference shape.Procedure type text line n A P f g p q a = g p q a
    actual_at true mode.ByName shape.Simple type text line n A P f g p q a = (thunk_is e false n p q a, refl)
    actual_at true mode.ByName shape.Array type text line n A P f g p q a = (thunk_is e false n p q a, refl)
    actual_at true mode.ByName shape.Procedure type text line n A P f g p q a = (thunk_is e true n p q a, refl)
    actual_at false mode.ByName shape.Simple type text line n A P f g p q a = (thunk_is e false n p q a, refl)
    actual_at false mode.ByName shape.Array type text line n A P f g p q a = (thunk_is e false n p q a, refl)
    actual_at false mode.ByName shape.Procedure type text line n A P f g p q a = (thunk_is e true n p q a, refl)

    -- for a formal parameter
    pub given_for : (keeps : Bool) (g : Formal) (line n : ℕ) (A P : ℕ → ℕ → Type 0) → ObjectIs n A x → ObjectIs n P y → (p q : ℕ) → FittingAt s code site n line (class_passed s g) (ActualAt code site n line keeps g.mode g.kind (is_text_type g.ty) A P (ThunkOf e)) p q
        → OperandAt s code m inst site n (kept_when keeps g.mode g.kind (fitting (class_passed s g) line (actual_term line g.mode g.kind (is_text_type g.ty) x y (ActualOf inst (is_procedure_kind g.kind) e)))) p q
    given_for keeps g line n A P f h p q =
        subst (λ z. FittingAt s code site n line z (ActualAt code site n line keeps g.mode g.kind (is_text_type g.ty) A P (ThunkOf e)) p q → OperandAt s code m inst site n (kept_when keeps g.mode g.kind (fitting z line (actual_term line g.mode g.kind (is_text_type g.ty) x y (ActualOf inst (is_procedure_kind g.kind) e)))) p q)
        (sym (passed_is g.mode g refl)) (actual_at keeps g.mode g.kind g.ty (is_text_type g.ty) line n A P f h p q)

  -- ---- actual parameters of a call that is checked when it is done

  thunk_if : (c : Bool) (e : Expression) (as_procedure : Bool) (number p q : ℕ) → ThunkIfAt c code site number (ThunkOf e as_procedure) p q → ThunkIfAt c code site number (λ inner x y. ActualCode s code (record inner { used = site.used }) as_procedure e x y) p q
  thunk_if true e as_procedure number p q a = record { x = a.x; y = a.y; room = a.room; over = a.over; past = a.past; there = a.there; later = a.later; given = a.given; end = a.end }
  thunk_if false e as_procedure number p q a = a

  pub passes_given : (es : Expressions) (n number line p q : ℕ) → ParametersAt s code site n line number es p q → AllPassAt s code site n site.used number line es p q
  passes_given NoMore n number line p q a = a
  passes_given (Then e es) n number line p q a =
      let y = a.1 in (
        a.0,
        record {
          x = y.x;
          y = y.y;
          value_thunk = y.value_thunk;
          procedure_thunk = y.procedure_thunk;
          value = thunk_if (is_value (passed s e)) e false y.value_thunk p y.x y.value;
          procedure = thunk_if (is_procedure (passed s e)) e true y.procedure_thunk y.x y.y y.procedure;
          passes = y.passes;
          fits = y.fits;
        },
        passes_given es (suc n) (suc number) line a.0 q a.2,
      )
