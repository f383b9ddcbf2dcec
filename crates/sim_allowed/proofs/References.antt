-- Classes in expressions: behind `new`, `this`, `qua`, `is` and `in`.
use Rattle.std.proofs.Common.{◌≡◌, ◌⊎◌, inl, inr, ℕ, Bool, true, false, length, Option, Some, None, refl, sym, ap, ◌∙◌, subst, arith, if◌then◌else◌}
use Rattle.std.proofs.lemmas.Bool.{false≢true}
use Rattle.std.proofs.lemmas.Bool.Decides.{nat_tests}
use Rattle.std.specs.Prelude.{◌||◌, ◌&&◌, ◌+◌, nat_eq, not, slice_get}
use Rattle.sim_base.specs.declared.numbering.DeclNo.{DeclNo}
use Rattle.sim_base.specs.declared.rule.Rule.{Rule}
use Rattle.sim_base.specs.declared.rule.Rule.TheVariants as r
use Rattle.sim_scope.specs.declared.found.Fault.{Fault}
use Rattle.sim_scope.specs.declared.outcome.Actuals.{Actuals}
use Rattle.sim_scope.specs.declared.outcome.Extent.{Extent}
use Rattle.sim_scope.specs.declared.outcome.Occurrence.{Occurrence}
use Rattle.sim_scope.specs.declared.outcome.Outcome.{Outcome}
use Rattle.sim_scope.specs.declared.outcome.Outcome.TheVariants as is
use Rattle.sim_scope.specs.declared.outcome.Side.{Side}
use Rattle.sim_scope.specs.declared.scopes.Denotation.{Denotation}
use Rattle.sim_scope.specs.declared.scopes.Denotation.TheVariants as denotation
use Rattle.sim_scope.specs.declared.standard.StandardName.{StandardName}
use Rattle.sim_scope.specs.declared.types.SimType.{SimType}
use Rattle.sim_scope.specs.declared.types.SimType.TheVariants as t
use Rattle.sim_scope.specs.Actuals.{formal_or_none, parameter_at, parameter_of}
use Rattle.sim_scope.specs.Calls.{bound, misfitting_or, occurs}
use Rattle.sim_scope.specs.Judged.{Judged, bars, gives, next, telling}
use Rattle.sim_scope.specs.Levels.{class_block, is_for_prefixing}
use Rattle.sim_scope.specs.Operators.{is_reference}
use Rattle.sim_scope.specs.Outcomes.{breaks, has}
use Rattle.sim_scope.specs.References.{as_class, class_barred, class_compared, class_denoted, class_fits, class_named, class_type, class_value, declared_class, formal_count, formal_count_of, generated, for_prefixing, generates, is_no_reference, is_only_prefix, member, new_object, new_of, new_of_class, no_class, only_prefix, other_chain, qualified, truth_of, wrong_number}
use Rattle.sim_scope.specs.Scopes.{class_formals}
use Rattle.sim_scope.specs.Source.{Source, denoted, type_at}
use Rattle.sim_scope.specs.Standard.{is_standard_class}
use Rattle.sim_tree.specs.declared.expr.Identifier.{Identifier}
use Rattle.sim_tree.specs.declared.expr.Membership.{Membership}
use Rattle.sim_tree.specs.Syntax.{Expression, Expressions}
use Rattle.sim_tree.specs.Syntax as syntax
use Rattle.sim_values.specs.declared.kind.Kind.TheVariants as kind
use Rattle.sim_meaning.specs.Closing.{class_parameters, is_placed, is_text, is_text_type, own_match, result_meant, stream_of}
use Rattle.sim_meaning.specs.Levels.{class_at, class_denoted as class_meant, class_text}
use Rattle.sim_meaning.specs.Texts.{StandardText, kind_of_type, text}
use Rattle.sim_sound.specs.Held.{Fits, Holds, Place, Sees, Simply}
use Rattle.sim_sound.specs.Expressions.{ClassNamed, ExprIs, ProcessClassThere}
use Rattle.sim_scope.specs.declared.types.StandardClass.TheVariants as standard_class
use Rattle.sim_agree.specs.Facts.{IsClass, Tabled}
use Rattle.sim_meaning.specs.Checks.{passed}
use Rattle.sim_allowed.proofs.Actuals.{AllFit, all_formals, size}
use Rattle.sim_allowed.proofs.Calls.{OperandIs}
use Rattle.sim_allowed.proofs.Classes.{class_held, class_is, class_row, plain_value, simply}
use Rattle.sim_allowed.proofs.Headings.{class_heading}
use Rattle.sim_allowed.proofs.Meant.{Means, Takes}
use Rattle.sim_allowed.proofs.Said.{AllSay, next_says}
use Rattle.sim_allowed.proofs.Uses.{BoundIs, bound_is}

-- ---- a class that is named

denotes_same : (c d : Denotation) → occurs (Some d) false ≡ occurs (Some c) false → c ≡ d
denotes_same c d e = let both : Some d ≡ Some c = ap (λ (z : Occurrence). z.denotes) e in let is : c ≡ d = cc in is

pub record ClassIs (s : Source) (x : Extent) (name : Identifier) (o : Occurrence) : Type 0 where
  pub declaration : DeclNo
  pub is : o ≡ occurs (Some (denotation.Declared declaration)) false
  pub class : IsClass s declaration
  pub found : BoundIs s x name (occurs (Some (denotation.Declared declaration)) false)
  pub same : found.denotation ≡ denotation.Declared declaration

-- or it is `simset`, which is only for prefixing
pub record PrefixIs (o : Occurrence) : Type 0 where
  pub name : StandardName
  pub is : o ≡ occurs (Some (denotation.Standard name)) false

pub class_means : (s : Source) → Tabled s → (x : Extent) (name : Identifier) → AllSay s (class_named s.tables x name).events → ClassIs s x name (class_named s.tables x name).value ⊎ PrefixIs (class_named s.tables x name).value
unfolding class_named as_class next gives telling
class_means s known x name said =
    let parts = next_says s (bound s.tables x name) (as_class s.tables name.token.0) said in
    go (bound s.tables x name).value (bound_is s x name parts.0) parts.1
  where
    declared : (d : DeclNo) → BoundIs s x name (occurs (Some (denotation.Declared d)) false) → (o : Option ℕ) → class_block s.tables d ≡ o → AllSay s (declared_class name.token.0 d false o).events → ClassIs s x name (declared_class name.token.0 d false o).value ⊎ PrefixIs (declared_class name.token.0 d false o).value
    declared d b None is said = absurd said.0
    declared d b (Some block) is said = inl (record { declaration = d; is = refl; class = class_is s known d block is; found = b; same = same b.denotation b.is })
      where
        same : (c : Denotation) → occurs (Some (denotation.Declared d)) false ≡ occurs (Some c) false → c ≡ denotation.Declared d
        same c e = denotes_same c (denotation.Declared d) e

    standard : (k : StandardName) (b : Bool) → AllSay s (if b then gives (occurs (Some (denotation.Standard k)) false) else no_class name.token.0).events
        → ClassIs s x name (if b then gives (occurs (Some (denotation.Standard k)) false) else no_class name.token.0).value ⊎ PrefixIs (if b then gives (occurs (Some (denotation.Standard k)) false) else no_class name.token.0).value
    standard k true said = inr (record { name = k; is = refl })
    standard k false said = absurd said.0

    of : (d : Denotation) → BoundIs s x name (occurs (Some d) false) → AllSay s (class_denoted s.tables name.token.0 (Some d) false).events → ClassIs s x name (class_denoted s.tables name.token.0 (Some d) false).value ⊎ PrefixIs (class_denoted s.tables name.token.0 (Some d) false).value
    of (denotation.Declared d) b said = declared d b (class_block s.tables d) refl said
    of (denotation.Standard k) b said = standard k (is_standard_class k) said

    go : (o : Occurrence) → BoundIs s x name o → AllSay s (class_denoted s.tables name.token.0 o.denotes o.barred).events → ClassIs s x name (class_denoted s.tables name.token.0 o.denotes o.barred).value ⊎ PrefixIs (class_denoted s.tables name.token.0 o.denotes o.barred).value
    go o b said =
        subst (λ (z : Occurrence). ClassIs s x name (class_denoted s.tables name.token.0 z.denotes z.barred).value ⊎ PrefixIs (class_denoted s.tables name.token.0 z.denotes z.barred).value) (sym b.is)
        (of b.denotation (subst (λ z. BoundIs s x name z) b.is b) (subst (λ (z : Occurrence). AllSay s (class_denoted s.tables name.token.0 z.denotes z.barred).events) b.is said))

-- what its identifier denotes
pub class_says : (s : Source) (x : Extent) (name : Identifier) (o : Occurrence) (c : ClassIs s x name o) → denoted s name.token.0 ≡ Some (denotation.Declared c.declaration)
class_says s x name o c = let b = c.found in b.says ∙ ap Some c.same

pub class_meets : (s : Source) (x : Extent) (name : Identifier) (o : Occurrence) (c : ClassIs s x name o) → class_at s name.token.0 ≡ Some c.class.block
unfolding class_at
class_meets s x name o c =
    let d = c.declaration in let k = c.class in
    ap (class_meant s) (class_says s x name o c) ∙ ap (class_text s) (class_row s.tables d k.block k.declares) ∙ ap (λ z. if z then Some k.block else None) k.is

-- ---- rules that are kept

pub kept : (s : Source) (b : Bool) (token : ℕ) (rule : Rule) → AllSay s (bars b token rule).events → (b ≡ false) × ((bars b token rule).value ≡ false)
unfolding bars telling gives
kept s true token rule said = absurd said.0
kept s false token rule said = (refl, refl)

-- what is only for prefixing is behind none of these
module _ (s : Source) (token : ℕ) (o : Occurrence) (p : PrefixIs o) where
  pub only : is_only_prefix s.tables (denotation.Standard p.name) ≡ true
  unfolding is_only_prefix
  only = refl

  only_there : only_prefix s.tables o.denotes ≡ true
  only_there = ap (λ (z : Occurrence). only_prefix s.tables z.denotes) p.is ∙ only

  pub fits_refused : (ty : Option SimType) → AllSay s (class_fits s.tables token o.denotes ty).events → ⊥
  unfolding class_fits next gives
  fits_refused ty said =
      let chain = next_says s (bars (other_chain s.tables o.denotes ty) token r.DifferentChains) (λ a. next (bars (only_prefix s.tables o.denotes) token r.OnlyForPrefixing) (λ b. gives (a || b))) said in
      let other = next_says s (bars (only_prefix s.tables o.denotes) token r.OnlyForPrefixing) (λ b. gives ((bars (other_chain s.tables o.denotes ty) token r.DifferentChains).value || b)) chain.1 in
      false≢true (sym (kept s (only_prefix s.tables o.denotes) token r.OnlyForPrefixing other.0).0 ∙ only_there)

  compared_refused : (naming : ℕ) (y : Side) (type : Denotation → SimType) → AllSay s (class_compared s.tables naming y token o type).events → ⊥
  unfolding next gives
  compared_refused naming y type said =
      let parts = next_says s (class_barred s.tables y token o) (λ b. class_value naming b y.ty o.denotes type) said in
      let first = next_says s (bars (is_no_reference y.ty) y.first.0 r.WrongType) (λ a. next (class_fits s.tables token o.denotes y.ty) (λ b. gives (a || b || o.barred))) parts.0 in
      let fits = next_says s (class_fits s.tables token o.denotes y.ty) (λ b. gives ((bars (is_no_reference y.ty) y.first.0 r.WrongType).value || b || o.barred)) first.1 in
      fits_refused y.ty fits.0

pub member_refused : (s : Source) (naming : ℕ) (y : Side) (class : Identifier) (o : Occurrence) → PrefixIs o → AllSay s (member s.tables naming y class o).events → ⊥
unfolding member
member_refused s naming y class o p said = compared_refused s class.token.0 o p naming y truth_of said

pub qualified_refused : (s : Source) (naming : ℕ) (y : Side) (class : Identifier) (o : Occurrence) → PrefixIs o → AllSay s (qualified s.tables naming y class o).events → ⊥
unfolding qualified
qualified_refused s naming y class o p said = compared_refused s class.token.0 o p naming y class_type said

pub new_refused : (s : Source) (naming : ℕ) (class : Identifier) (o : Occurrence) → PrefixIs o → (a : Actuals) → AllSay s (new_object s.tables naming class o a).events → ⊥
unfolding new_object next gives
new_refused s naming class o p a said =
    let d = denotation.Standard p.name in
    let events = subst (λ (z : Occurrence). AllSay s (new_of_class s.tables naming class.token.0 z.denotes z.barred a).events) p.is said in
    let first = next_says s (bars (wrong_number s.tables d a) class.token.0 r.WrongNumber) (λ p. next (bars (is_only_prefix s.tables d) class.token.0 r.OnlyForPrefixing) (λ q. generated naming d a (p || q || false))) events in
    let second = next_says s (bars (is_only_prefix s.tables d) class.token.0 r.OnlyForPrefixing) (λ q. generated naming d a ((bars (wrong_number s.tables d a) class.token.0 r.WrongNumber).value || q || false)) first.1 in
    false≢true (sym (kept s (is_only_prefix s.tables d) class.token.0 r.OnlyForPrefixing second.0).0 ∙ only s class.token.0 o p)

-- ---- `is`, `in` and `qua`

reference_kind : (type : SimType) → not (is_reference type) ≡ false → kind_of_type type ≡ kind.Reference
reference_kind (t.Ref d) e = refl
reference_kind t.NoneType e = refl
reference_kind t.Integer e = absurd (false≢true (sym e))
reference_kind t.Boolean e = absurd (false≢true (sym e))
reference_kind t.Character e = absurd (false≢true (sym e))
reference_kind t.Text e = absurd (false≢true (sym e))

module _ (s : Source) (known : Tabled s) (from : Place) (x : Extent) (a : Expression) (y : Side) (p : OperandIs s from a y) (class : Identifier) (o : Occurrence) (c : ClassIs s x class o) where
  -- what is in front is a reference, and nothing bars the value
  record Compared (naming : ℕ) (type : Denotation → SimType) : Type 0 where
    object : ExprIs s from a (Simply kind.Reference)
    is : (class_compared s.tables naming y class.token.0 o type).value ≡ is.Value (type (denotation.Declared c.declaration))
    typed : type_at s naming ≡ Some (type (denotation.Declared c.declaration))

  compared : (naming : ℕ) (type : Denotation → SimType) → AllSay s (class_compared s.tables naming y class.token.0 o type).events → Compared naming type
  unfolding next gives has telling class_fits
  compared naming type said =
      let parts = next_says s (class_barred s.tables y class.token.0 o) (λ b. class_value naming b y.ty o.denotes type) said in
      let first = next_says s (bars (is_no_reference y.ty) y.first.0 r.WrongType) (λ a. next (class_fits s.tables class.token.0 o.denotes y.ty) (λ b. gives (a || b || o.barred))) parts.0 in
      let fits = next_says s (class_fits s.tables class.token.0 o.denotes y.ty) (λ b. gives ((bars (is_no_reference y.ty) y.first.0 r.WrongType).value || b || o.barred)) first.1 in
      let chain = next_says s (bars (other_chain s.tables o.denotes y.ty) class.token.0 r.DifferentChains) (λ a. next (bars (only_prefix s.tables o.denotes) class.token.0 r.OnlyForPrefixing) (λ b. gives (a || b))) fits.0 in
      let other = next_says s (bars (only_prefix s.tables o.denotes) class.token.0 r.OnlyForPrefixing) (λ b. gives ((bars (other_chain s.tables o.denotes y.ty) class.token.0 r.DifferentChains).value || b)) chain.1 in
      let k1 = kept s (is_no_reference y.ty) y.first.0 r.WrongType first.0 in
      let k2 = kept s (other_chain s.tables o.denotes y.ty) class.token.0 r.DifferentChains chain.0 in
      let k3 = kept s (only_prefix s.tables o.denotes) class.token.0 r.OnlyForPrefixing other.0 in
      let barred : (class_barred s.tables y class.token.0 o).value ≡ false =
      ap (λ z. z || (class_fits s.tables class.token.0 o.denotes y.ty).value || o.barred) k1.1 ∙ ap (λ z. (z || (bars (only_prefix s.tables o.denotes) class.token.0 r.OnlyForPrefixing).value) || o.barred) k2.1 ∙ ap (λ z. z || o.barred) k3.1 ∙ ap (λ (z : Occurrence). z.barred) c.is in
      let value : class_value naming (class_barred s.tables y class.token.0 o).value y.ty o.denotes type ≡ has naming (type (denotation.Declared c.declaration)) =
      ap (λ z. class_value naming z y.ty o.denotes type) barred ∙ ap (λ z. class_value naming false z o.denotes type) p.is ∙ ap (λ (z : Occurrence). class_value naming false (Some p.ty) z.denotes type) c.is in
      record {
        object = subst (λ z. ExprIs s from a (Simply z)) (reference_kind p.ty (sym (ap is_no_reference p.is) ∙ k1.0)) (simply s from a p.ty p.value);
        is = ap (λ (z : Judged Outcome). z.value) value;
        typed = (subst (λ (z : Judged Outcome). AllSay s z.events) value parts.1).0;
      }

  named : ClassNamed s class.token.0
  named = record { class = c.class.block; is = class_meets s x class o c }

  pub member_means : (m : Membership) (i : ℕ) → AllSay s (member s.tables i y class o).events → Means true s from (syntax.Member m i a class) (member s.tables i y class o).value
  unfolding member is_text is_placed own_match result_meant stream_of passed
  member_means m i said =
      let k = compared i truth_of said in
      subst (λ z. Means true s from (syntax.Member m i a class) z) (sym k.is) (
        record { proper = tt; texts = ap is_text_type k.typed; stream = refl; typed = k.typed; value = plain_value s from (syntax.Member m i a class) t.Boolean tt (refl, named, k.object) },
        (refl, refl),
        refl,
        refl,
      )

  pub qualified_means : (i : ℕ) → AllSay s (qualified s.tables i y class o).events → Means true s from (syntax.Qua i a class) (qualified s.tables i y class o).value
  unfolding qualified is_text is_placed own_match result_meant stream_of named passed
  qualified_means i said =
      let k = compared i class_type said in
      subst (λ z. Means true s from (syntax.Qua i a class) z) (sym k.is) (
        record {
          proper = c.class;
          texts = ap is_text_type k.typed;
          stream = refl;
          typed = k.typed;
          value = λ h f. (named, subst (λ z. Fits s z h) (class_held s c.declaration c.class) f, k.object);
        },
        (refl, refl),
        refl,
        refl,
      )

-- ---- `new`

module _ (s : Source) (known : Tabled s) (from : Place) (x : Extent) (class : Identifier) (o : Occurrence) (c : ClassIs s x class o) (sees : Sees s from c.declaration) (es : Expressions) (a : Actuals) (count : a.count ≡ size es) (typed : a.typed ≡ true)
    (fits : a.misfit ≡ None → AllFit s from (Some (denotation.Declared c.declaration)) 0 es) where
  single : is_only_prefix s.tables (denotation.Declared c.declaration) ≡ false → is_for_prefixing s.tables c.class.block ≡ false
  unfolding is_only_prefix
  single e = sym (ap (for_prefixing s.tables) (class_row s.tables c.declaration c.class.block c.class.declares)) ∙ e

  class_parameter : (i : ℕ) → parameter_at s.tables (Some (denotation.Declared c.declaration)) i ≡ formal_or_none (slice_get (class_parameters s (Some c.class.block)) i)
  unfolding parameter_at
  class_parameter i = ap (parameter_of s.tables c.declaration i) c.class.declares ∙ ap formal_or_none ((class_heading s known c.declaration c.class.block c.class.declares).places i)

  process : text s c.class.block ≡ Some (StandardText standard_class.Process) → ProcessClassThere s c.class.block
  process at = known.processes_found class.token.0 class.name c.declaration c.class.block (c.found.binds ∙ ap Some c.same) c.class.declares at

  pub new_means : (i : ℕ) → AllSay s (new_object s.tables i class o a).events → Means true s from (syntax.New i class es) (new_object s.tables i class o a).value
  unfolding new_object next gives telling breaks is_text is_placed own_match result_meant stream_of passed
  new_means i said =
      subst (λ (z : Occurrence). Means true s from (syntax.New i class es) (new_of_class s.tables i class.token.0 z.denotes z.barred a).value) (sym c.is)
      (go (subst (λ (z : Occurrence). AllSay s (new_of_class s.tables i class.token.0 z.denotes z.barred a).events) c.is said))
    where
      d : Denotation
      d = denotation.Declared c.declaration

      given : is_for_prefixing s.tables c.class.block ≡ false → (b : Bool) → a.typed ≡ b → (m : Option Fault) → a.misfit ≡ m → nat_eq (formal_count s.tables d) a.count ≡ true → AllSay s (if b then misfitting_or m (generates i (class_type d)) else gives is.Refused).events
          → Means true s from (syntax.New i class es) (if b then misfitting_or m (generates i (class_type d)) else gives is.Refused).value
      given alone false is m fit same said = absurd (false≢true (sym is ∙ typed))
      given alone true is (Some f) fit same said = absurd said.0
      given alone true is None fit same said =
          let head = class_heading s known c.declaration c.class.block c.class.declares in
          let counted : formal_count s.tables d ≡ length (class_formals s.tables c.class.block) = ap (formal_count_of s.tables) (class_row s.tables c.declaration c.class.block c.class.declares) in
          let number : formal_count s.tables d ≡ a.count = grind (arith, nat_tests) in
          let actuals = all_formals s from (Some d) 0 es (class_parameters s (Some c.class.block)) (λ j. (let zero_more : 0 + j ≡ j = omega arith in ap (parameter_at s.tables (Some d)) zero_more ∙ class_parameter j)) head.proper (sym count ∙ sym number ∙ counted ∙ head.count) (fits fit) in
          let value : (h : Holds) → Takes s (t.Ref c.declaration) h → ExprIs s from (syntax.New i class es) h = λ h f. (record { declaration = c.declaration; denotes = class_says s x class o c; class = c.class.block; declares = c.class.declares; single = alone; process = process; seen = sees; actuals = actuals }, subst (λ z. Fits s z h) (class_held s c.declaration c.class) f) in
          (record { proper = c.class; texts = ap is_text_type said.0; stream = refl; typed = said.0; value = value }, value, (refl, refl), refl, refl)

      go : AllSay s (new_of s.tables i class.token.0 d false a).events → Means true s from (syntax.New i class es) (new_of s.tables i class.token.0 d false a).value
      go said =
          let first = next_says s (bars (wrong_number s.tables d a) class.token.0 r.WrongNumber) (λ p. next (bars (is_only_prefix s.tables d) class.token.0 r.OnlyForPrefixing) (λ q. generated i d a (p || q || false))) said in
          let second = next_says s (bars (is_only_prefix s.tables d) class.token.0 r.OnlyForPrefixing) (λ q. generated i d a ((bars (wrong_number s.tables d a) class.token.0 r.WrongNumber).value || q || false)) first.1 in
          let k1 = kept s (wrong_number s.tables d a) class.token.0 r.WrongNumber first.0 in
          let k2 = kept s (is_only_prefix s.tables d) class.token.0 r.OnlyForPrefixing second.0 in
          let barred : ((bars (wrong_number s.tables d a) class.token.0 r.WrongNumber).value || (bars (is_only_prefix s.tables d) class.token.0 r.OnlyForPrefixing).value || false) ≡ false =
          ap (λ z. z || (bars (is_only_prefix s.tables d) class.token.0 r.OnlyForPrefixing).value || false) k1.1 ∙ ap (λ z. z || false) k2.1 in
          subst (λ z. Means true s from (syntax.New i class es) (generated i d a z).value) (sym barred)
          (given (single k2.0) a.typed refl a.misfit refl (counted (nat_eq (formal_count s.tables d) a.count) refl k1.0) (subst (λ z. AllSay s (generated i d a z).events) barred second.1))
        where
          counted : (b : Bool) → nat_eq (formal_count s.tables d) a.count ≡ b → (a.typed && not (nat_eq (formal_count s.tables d) a.count)) ≡ false → nat_eq (formal_count s.tables d) a.count ≡ true
          counted true is e = is
          counted false is e = absurd (false≢true (sym e ∙ ap (λ z. z && not (nat_eq (formal_count s.tables d) a.count)) typed ∙ ap not is))
