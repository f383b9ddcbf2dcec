-- The actual parameters of a procedure that is a value are passed, as its formal parameters ask for them.
use Rattle.std.proofs.Common.{◌≡◌, ℕ, zero, suc, Bool, true, false, List, [], ◌∷◌, length, Option, Some, None, refl, ap, ◌∙◌, subst, arith}
use Rattle.std.specs.Prelude.{◌&&◌, slice_get}
use Rattle.sim_base.specs.declared.limits.Limits.{Limits}
use Rattle.sim_base.specs.declared.numbering.DeclNo.{DeclNo}
use Rattle.sim_scope.specs.declared.scopes.Denotation.{Denotation}
use Rattle.sim_scope.specs.declared.scopes.Denotation.TheVariants as denotation
use Rattle.sim_scope.specs.declared.types.Entry.{Entry}
use Rattle.sim_scope.specs.declared.types.Entry.TheVariants as entry
use Rattle.sim_scope.specs.declared.types.Formal.{Formal}
use Rattle.sim_scope.specs.declared.types.FormalKind.{FormalKind}
use Rattle.sim_scope.specs.declared.types.FormalKind.TheVariants as shape
use Rattle.sim_scope.specs.declared.types.Mode.{Mode}
use Rattle.sim_scope.specs.declared.types.Mode.TheVariants as mode
use Rattle.sim_scope.specs.declared.types.SimType.{SimType}
use Rattle.sim_scope.specs.declared.types.SimType.TheVariants as type
use Rattle.sim_scope.specs.Operators.{is_reference}
use Rattle.sim_scope.specs.Scopes.{entry_of}
use Rattle.sim_scope.specs.Source.{Source, denoted}
use Rattle.sim_tree.specs.Syntax.{Expression, Expressions, NoMore, Then}
use Rattle.sim_tree.specs.Syntax as syntax
use Rattle.sim_code.specs.Events.{choosing, when}
use Rattle.sim_code.specs.Outcome.{Run, World}
use Rattle.sim_meaning.specs.Attributes.{connection_at}
use Rattle.sim_meaning.specs.Checks.{Passed, PassedArray, PassedProcedure, PassedValue, alike, all_fit, all_passed, fits, fits_as, is_within, passed, result_fits, same_class, value_fits}
use Rattle.sim_meaning.specs.Closing.{is_procedure_kind}
use Rattle.sim_meaning.specs.Entries.{formals_of, is_array_by_value}
use Rattle.sim_meaning.specs.Levels.{qualification}
use Rattle.sim_meaning.specs.Meaning.{do_op, evaluating, formal_in, formal_in_hand, is_by_name, procedure_at}
use Rattle.sim_meaning.specs.Pending.{Activation, Actual, Configuration, ForParameter, Instances, Item, Op, ParameterOp, Val}
use Rattle.sim_meaning.specs.Steps.{count_of, go}
use Rattle.sim_meaning.specs.Texts.{kind_of_type}
use Rattle.sim_sound.specs.Expressions.{ActualIs, ExprIs, FormalStands, NamedIs, ObjectHas, KnownAt, ParameterIs, ParameterOf, ProcedureDeclared, ProcedureDot, ProcedureIs, ProcedureNamed}
use Rattle.sim_sound.specs.Held.{ArrayOf, Holds, Place, Procedure, Refers, ResultFits, Simply, ValueFits, ByName, actual_means, formal_holds, given_by, held_by, named, reference_to}
use Rattle.sim_sound.specs.Typed.{Typed}
use Rattle.sim_sound.proofs.Evals.{IsFine, Work, goes_on}
use Rattle.sim_sound.proofs.Evaluations.{actual_given, begins_here, waits_passes}
use Rattle.sim_sound.proofs.Lifts.{Goes, had, whens}
use Rattle.sim_sound.proofs.Lists.{numbers_equal}
use Rattle.sim_sound.proofs.Results.{results_then}
use Rattle.sim_sound.proofs.Running.{Begun, Operates}
use Rattle.sim_sound.proofs.Sound.{OpFine, parameter_of}
use Rattle.sim_sound.proofs.Values.{ForFormal, HandsFine, Kinds, Marks, Value, at_itself, held_kinds, in_hand, near_below, see}
use Rattle.sim_sound.proofs.Virtuals.{below_passed}

-- ---- what fits

and_right : (b c : Bool) → (b && c) ≡ true → c ≡ true
and_right true c e = e
and_right false c e = absurd (cc)

and_left : (b c : Bool) → (b && c) ≡ true → b ≡ true
and_left true c e = refl
and_left false c e = absurd (cc)

-- types that are alike have values of one kind
alike_kind : (x : Bool) (a b : SimType) → alike x a b ≡ true → kind_of_type b ≡ kind_of_type a
alike_kind x type.Integer type.Integer e = refl
alike_kind x type.Boolean type.Boolean e = refl
alike_kind x type.Character type.Character e = refl
alike_kind x type.Text type.Text e = refl
alike_kind x (type.Ref c) (type.Ref d) e = refl
alike_kind x (type.Ref c) type.NoneType e = refl
alike_kind x type.NoneType (type.Ref d) e = refl
alike_kind x type.NoneType type.NoneType e = refl
alike_kind x _ _ e = absurd (cc)

same_reference : (x y : Option ℕ) → same_class x y ≡ true → reference_to y ≡ reference_to x
same_reference None None e = refl
same_reference None (Some b) e = absurd (cc)
same_reference (Some a) None e = absurd (cc)
same_reference (Some a) (Some b) e = ap Refers (numbers_equal b a e)

-- arrays of types that are alike, with the same class
same_held : (s : Source) (a b : SimType) → alike (same_class (qualification s (Some a)) (qualification s (Some b))) a b ≡ true → held_by s b ≡ held_by s a
unfolding qualification
same_held s type.Integer type.Integer e = refl
same_held s type.Boolean type.Boolean e = refl
same_held s type.Character type.Character e = refl
same_held s type.Text type.Text e = refl
same_held s (type.Ref c) (type.Ref d) e = same_reference (qualification s (Some (type.Ref c))) (qualification s (Some (type.Ref d))) e
same_held s (type.Ref c) type.NoneType e = same_reference (qualification s (Some (type.Ref c))) None e
same_held s type.NoneType (type.Ref d) e = same_reference None (qualification s (Some (type.Ref d))) e
same_held s type.NoneType type.NoneType e = refl
same_held s _ _ e = absurd (cc)

within_reference : (s : Source) (x y : Option ℕ) → is_within s x y ≡ true → ValueFits s (reference_to y) (reference_to x)
within_reference s None y e = absurd (cc)
within_reference s (Some a) None e = absurd (cc)
within_reference s (Some a) (Some b) e = e

-- what a procedure gives that fits
result_then : (s : Source) (a b : SimType) → alike (is_within s (qualification s (Some a)) (qualification s (Some b))) a b ≡ true → ValueFits s (held_by s b) (held_by s a)
unfolding qualification
result_then s type.Integer type.Integer e = refl
result_then s type.Boolean type.Boolean e = refl
result_then s type.Character type.Character e = refl
result_then s type.Text type.Text e = refl
result_then s (type.Ref c) (type.Ref d) e = within_reference s (qualification s (Some (type.Ref c))) (qualification s (Some (type.Ref d))) e
result_then s (type.Ref c) type.NoneType e = within_reference s (qualification s (Some (type.Ref c))) None e
result_then s type.NoneType b e = absurd (let z : false ≡ true = and_right (is_reference b) (is_within s None (qualification s (Some b))) e in cc)
result_then s _ _ e = absurd (cc)

results_fit : (s : Source) (formal given : Option SimType) → result_fits s formal given ≡ true → ResultFits s (given_by s given) (given_by s formal)
results_fit s None None e = tt
results_fit s None (Some b) e = absurd (cc)
results_fit s (Some a) None e = absurd (cc)
results_fit s (Some a) (Some b) e = result_then s a b e

-- ---- a procedure that stands alone gives what fits

module _ (s : Source) (ok : Typed s) (from : Place) (r r' : Option SimType) (fit : ResultFits s (given_by s r) (given_by s r')) where
  declared_then : (Known : Type 0) (e : Option Entry) → ProcedureDeclared s Known e r → ProcedureDeclared s Known e r'
  declared_then Known (Some (entry.Procedure given k)) a = (results_then s ok given r r' a.0 fit, a.1)
  declared_then Known (Some (entry.Virtual given own)) a = (results_then s ok given r r' a.0 fit, a.1)
  declared_then Known (Some (entry.Formal f)) a = by_kind f.kind a
    where
      by_kind : (g : FormalKind) → FormalStands s Known g f.ty r → FormalStands s Known g f.ty r'
      by_kind shape.Procedure a = (results_then s ok f.ty r r' a.0 fit, a.1)
      by_kind shape.Simple a = absurd a
      by_kind shape.Array a = absurd a
  declared_then Known None a = absurd a
  declared_then Known (Some _) a = absurd a

  named_then : (c : Option ℕ) (x : Option Denotation) → ProcedureNamed s from c x r → ProcedureNamed s from c x r'
  named_then c (Some (denotation.Declared d)) a = declared_then (KnownAt s from c d) (entry_of s.tables d) a
  named_then c None a = absurd a
  named_then c (Some (denotation.Standard n)) a = absurd a

  dot_then : (x : Option Denotation) (Object : ℕ → Type 0) → ProcedureDot s x Object r → ProcedureDot s x Object r'
  dot_then (Some (denotation.Declared d)) Object a = declared_then (ObjectHas s Object d) (entry_of s.tables d) a
  dot_then None Object a = absurd a
  dot_then (Some (denotation.Standard n)) Object a = absurd a

  procedure_then : (e : Expression) → ProcedureIs s from e r → ProcedureIs s from e r'
  procedure_then (syntax.Named name NoMore) a = named_then (connection_at s name.token.0) (denoted s name.token.0) a
  procedure_then (syntax.Dot token x name NoMore) a = dot_then (denoted s name.token.0) (λ c. ExprIs s from x (Refers c)) a
  procedure_then (syntax.Named name (Then e es)) a = absurd a
  procedure_then (syntax.Dot token x name (Then e es)) a = absurd a
  procedure_then _ a = absurd a

-- ---- what an actual parameter means that fits a formal one

module _ (s : Source) (ok : Typed s) (from : Place) (e : Expression) where
  abbrev Means : FormalKind → Option SimType → Type 0
  Means g ty = (h : Holds) × (actual_means s g ty ≡ Some h) × ActualIs s from (is_procedure_kind g) e h

  abbrev Said : Passed → Type 0
  Said p = ParameterOf s p (ExprIs s from e) (λ k. NamedIs s from e k) (ProcedureIs s from e)

  value_means : (a b : SimType) → value_fits s (Some a) (Some b) ≡ true → NamedIs s from e (kind_of_type b) → Means shape.Simple (Some a)
  value_means a b fit x = (Simply (kind_of_type a), refl, subst (λ k. NamedIs s from e k) (alike_kind _ a b fit) x)

  by_kind : (g : FormalKind) (ty : Option SimType) (p : Passed) → fits_as s g ty p ≡ true → Said p → Means g ty
  by_kind shape.Simple (Some a) (PassedValue (Some b) v) fit x = value_means a b fit x.1
  by_kind shape.Simple (Some a) (PassedProcedure (Some b) zero) fit x = let y = x.1 in value_means a b fit y.1
  by_kind shape.Simple (Some a) (PassedValue None v) fit x = absurd (cc)
  by_kind shape.Simple (Some a) (PassedProcedure None zero) fit x = absurd (cc)
  by_kind shape.Simple None (PassedValue b v) fit x = absurd (cc)
  by_kind shape.Simple None (PassedProcedure b zero) fit x = absurd (cc)
  by_kind shape.Simple ty (PassedProcedure b (suc n)) fit x = absurd (cc)
  by_kind shape.Simple ty (PassedArray element) fit x = absurd (cc)
  by_kind shape.Array (Some a) (PassedArray (Some b)) fit x = (ArrayOf (held_by s a), refl, subst (λ z. ExprIs s from e (ArrayOf z)) (same_held s a b fit) x)
  by_kind shape.Array (Some a) (PassedArray None) fit x = absurd (cc)
  by_kind shape.Array None (PassedArray element) fit x = absurd (cc)
  by_kind shape.Array ty (PassedProcedure b n) fit x = absurd (cc)
  by_kind shape.Array ty (PassedValue b v) fit x = absurd (cc)
  by_kind shape.Procedure ty (PassedProcedure b zero) fit x = (Procedure ty, refl, procedure_then s ok from b ty (results_fit s ty b fit) e x.0)
  by_kind shape.Procedure ty (PassedProcedure b (suc n)) fit x = (Procedure ty, refl, procedure_then s ok from b ty (results_fit s ty b fit) e x)
  by_kind shape.Procedure ty (PassedArray element) fit x = absurd (cc)
  by_kind shape.Procedure ty (PassedValue b v) fit x = absurd (cc)

  parameter_means : (f : Formal) → fits s f (passed s e) ≡ true → ParameterIs s from e → Means f.kind f.ty
  unfolding fits
  parameter_means f fit x = by_kind f.kind f.ty (passed s e) fit x.0

-- ---- it is one of those of the procedure

some_expression : (x e : Expression) → Some x ≡ Some e → x ≡ e
some_expression x e is = cc

parameter_there : (s : Source) (n : ℕ) (es : Expressions) (e : Expression) (fs : List Formal) → parameter_of n es ≡ Some e → length fs ≡ count_of es → all_fit s fs (all_passed s es) ≡ true → (f : Formal) × (slice_get fs n ≡ Some f) × (fits s f (passed s e) ≡ true)
parameter_there s n NoMore e fs is many fit = absurd (cc)
parameter_there s n (Then x es) e [] is many fit = absurd (omega (arith, many))
parameter_there s zero (Then x es) e (f ∷ fs) is many fit = (f, refl, subst (λ z. fits s f (passed s z) ≡ true) (some_expression x e is) (and_left (fits s f (passed s x)) (all_fit s fs (all_passed s es)) fit))
parameter_there s (suc n) (Then x es) e (f ∷ fs) is many fit =
    let fewer : length fs ≡ count_of es = omega (arith, many) in
    parameter_there s n es e fs is fewer (and_right (fits s f (passed s x)) (all_fit s fs (all_passed s es)) fit)

-- what is in hand for one by name
by_name_hand : (s : Source) (q : Mode) → is_by_name q ≡ true → (g : FormalKind) (ty : Option SimType) (h : Holds) → actual_means s g ty ≡ Some h → in_hand (is_array_by_value q g) (formal_holds s q g ty) ≡ Some (Value (ByName h))
by_name_hand s mode.ByName is g ty h e = ap (λ z. held_kinds (named z)) e
by_name_hand s mode.ByValue is g ty h e = absurd (cc)
by_name_hand s mode.ByReference is g ty h e = absurd (cc)

module _ (s : Source) (ok : Typed s) (l : Limits) (o : World) (g : Marks) (long : length g.sights ≡ length o.arrays) (m : Instances) (i t : ℕ) (rest : List Activation) (top : Operates g.beneath g.seat m i rest) (w : List Item) (vals : List Val) (todo todo' : List DeclNo) (before behind : List Kinds) (b : Begun s (see g o) m i t todo) (h : HandsFine s (see g o) m i before vals) (work : Work s o g long m i t rest top w todo' behind) where
  formal_found : (n k e : ℕ) (f : Formal) → slice_get vals n ≡ Some (Rattle.sim_meaning.specs.Pending.ProcedureValue k e) → slice_get (formals_of s k) n ≡ Some f → formal_in_hand s n vals ≡ Some f
  unfolding formal_in_hand
  formal_found n k e f there is = ap (λ z. formal_in s n (procedure_at z)) there ∙ is

  chosen_as : (c : Bool) (x y : Run Configuration) → (c ≡ true → Goes (IsFine s) x) → (c ≡ false → Goes (IsFine s) y) → Goes (IsFine s) (choosing c x y)
  unfolding choosing
  chosen_as true x y a b = a refl
  chosen_as false x y a b = b refl

  pub parameter_op : (n : ℕ) (e : Expression) (line : ℕ) → OpFine s (see g o) m i t (ParameterOp n e line) todo todo' before behind → Goes (IsFine s) (do_op s l o m i w vals rest (ParameterOp n e line))
  parameter_op n e line a =
      let x = a.0 in
      let y = below_passed s (see g o) m i x.actuals x.result x.left n vals (subst (λ z. HandsFine s (see g o) m i z vals) (x.«in») h) in
      let z = parameter_there s n x.actuals e (formals_of s y.text_of) x.is (y.conforms).count (y.conforms).fit in
      let f = z.0 in
      let found : formal_in_hand s n vals ≡ Some f = formal_found n y.text_of y.instance f y.there z.1 in
      let q = parameter_means s ok x.from e f z.2 x.typed in
      let then_work : Work s o g long m i t rest top w todo (ForFormal n ∷ before) = subst (λ z. Work s o g long m i t rest top w todo z) x.out (subst (λ z. Work s o g long m i t rest top w z behind) a.1 work) in
      had (IsFine s) (formal_in_hand s n vals) f o (λ f. when (fits s f (passed s e)) o (Chosen f)) found
      (whens (IsFine s) (fits s f (passed s e)) o (Chosen f) z.2
      (chosen_as (is_by_name f.mode) (Named f) (Evaluated f)
      (λ is. goes_on s o g long m i t rest top w (Actual i (is_procedure_kind f.kind) e ∷ vals) todo (ForFormal n ∷ before) b
      (record { formal = f; is = found; kinds = Value (ByName q.0); hand = by_name_hand s f.mode is f.kind f.ty q.0 q.1; fine = record { near = near_below at_itself; from = x.from; stands = x.stands; typed = q.2 } }, h) then_work)
      (λ is. begins_here s ok l o g long m i t rest top w vals todo before b h (ForFormal n ∷ before) then_work q.0 (ForParameter n line) i (is_procedure_kind f.kind) e (record { near = near_below at_itself; from = x.from; stands = x.stands; typed = q.2 })
      (record { formal = f; by_value = is; means = q.0; is = q.1; gives = actual_given s x.from (is_procedure_kind f.kind) e q.0 q.2; below = waits_passes s ok l o g long m i t rest top w vals todo before b h n f found then_work }))))
    where
      Named : Formal → Run Configuration
      Named f = go o m i w (Actual i (is_procedure_kind f.kind) e ∷ vals) rest

      Evaluated : Formal → Run Configuration
      Evaluated f = evaluating o m i (is_procedure_kind f.kind) e (ForParameter n line) (record { instance = i; work = w; values = vals } ∷ rest)

      Chosen : Formal → Run Configuration
      Chosen f = choosing (is_by_name f.mode) (Named f) (Evaluated f)
