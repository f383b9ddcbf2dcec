-- Tables that differ in what connections connect that are not around an expression: it is judged the same in both.
use Rattle.std.proofs.Common.{◌≡◌, ℕ, Bool, true, false, List, ◌++◌, length, Option, Some, None, refl, sym, ap, ◌∙◌, if◌then◌else◌}
use Rattle.std.specs.Prelude.{◌&&◌, ◌||◌, nat_eq, not}
use Rattle.sim_base.specs.declared.numbering.DeclNo.{DeclNo}
use Rattle.sim_base.specs.declared.rule.Rule.TheVariants as r
use Rattle.sim_tree.specs.declared.expr.Identifier.{Identifier}
use Rattle.sim_tree.specs.Syntax.{Expression, Expressions, first_of}
use Rattle.sim_tree.specs.Syntax as syntax
use Rattle.sim_scope.specs.declared.outcome.Actual.{Actual}
use Rattle.sim_scope.specs.declared.outcome.Actuals.{Actuals}
use Rattle.sim_scope.specs.declared.outcome.Barred.{Barred}
use Rattle.sim_scope.specs.declared.outcome.Barred.TheVariants as bar
use Rattle.sim_scope.specs.declared.outcome.Extent.TheVariants.{Statement}
use Rattle.sim_scope.specs.declared.outcome.Occurrence.{Occurrence}
use Rattle.sim_scope.specs.declared.outcome.Outcome.{Outcome}
use Rattle.sim_scope.specs.declared.outcome.Outcome.TheVariants as is
use Rattle.sim_scope.specs.declared.outcome.Parameter.{Parameter}
use Rattle.sim_scope.specs.declared.outcome.Parameter.TheVariants as parameter
use Rattle.sim_scope.specs.declared.outcome.Side.{Side}
use Rattle.sim_scope.specs.declared.scopes.Denotation.{Denotation}
use Rattle.sim_scope.specs.declared.scopes.Denotation.TheVariants as denotation
use Rattle.sim_scope.specs.declared.standard.Signature.{Signature}
use Rattle.sim_scope.specs.declared.standard.StandardName.TheVariants as standard
use Rattle.sim_scope.specs.declared.types.Entry.{Entry}
use Rattle.sim_scope.specs.declared.types.Entry.TheVariants as entry
use Rattle.sim_scope.specs.declared.types.Formal.{Formal}
use Rattle.sim_scope.specs.declared.types.FormalKind.{FormalKind}
use Rattle.sim_scope.specs.declared.types.FormalKind.TheVariants as kind
use Rattle.sim_scope.specs.declared.types.SimType.{SimType}
use Rattle.sim_scope.specs.declared.types.SimType.TheVariants as t
use Rattle.sim_scope.specs.Access.{block_at, is_connection, is_kind, is_so}
use Rattle.sim_scope.specs.Actuals.{actual, array_actual, as_value, barred_alone, conforming, fitting_unless, formal_or_none, misfitting, more, no_actuals, parameter_at, parameter_of, passed_procedure, procedure_actual, procedure_fits, result_fits, result_matches, standard_actual, unspecified_procedure, untyped, value_fits, with_actual, left_out, fitting}
use Rattle.sim_scope.specs.Calls.{alone, applied, applied_untyped, attribute, attribute_by_value, attribute_in, attribute_missing, attribute_of_type, attribute_of_value, barred_if, bound, located, declared_alone, declared_applied, found_as, if_own, inside_block, inside_match, is_barred, is_connection_at, is_inside, is_undotted, match_at, match_found, match_seen, missing, nothing_there, or_barred, own_of, own_undotted, procedure_alone, remote, remote_as, remote_at, remote_in, through_connection, typed_if, used, used_as, used_in, used_there}
use Rattle.sim_scope.specs.Expressions.{actuals, judge, judge_side}
use Rattle.sim_scope.specs.Found.{Broken}
use Rattle.sim_scope.specs.Judged.{Judged, bars, gives, next, telling}
use Rattle.sim_scope.specs.Levels.{class_block, has_classes}
use Rattle.sim_scope.specs.Operators.{is_same}
use Rattle.sim_scope.specs.Outcomes.{arms_fit, barred_called, breaks, called, in_common, in_parentheses, is_stream, parenthesized, procedure_called, side, side_of, three, value_of, type_in, valued, without_type}
use Rattle.sim_scope.specs.References.{as_class, chained_with, class_barred, class_denoted, class_fits, class_named, class_type, class_value, declared_class, for_prefixing, formal_count, formal_count_of, generated, is_no_reference, is_nowhere, is_only_prefix, member, new_object, new_of_class, only_prefix, other_chain, qualified, this_barred, this_fits, this_found, this_object, this_of_class, this_value, truth_of, wrong_number, this_block}
use Rattle.sim_scope.specs.Scopes.{binding, block_in, declaration_from, entry_of, formals_of, found_in, is_shown}
use Rattle.sim_scope.specs.Standard.{signature}
use Rattle.sim_scope.specs.Tables.{Tables}
use Rattle.sim_agree.specs.Places.{PlacedExpression, PlacedExpressions}
use Rattle.sim_agree.proofs.Settled as b
use Rattle.sim_agree.proofs.Settled.{Alike, Settled}

-- a judgement and then another
next_same : {A B : Type 0} (j k : Judged A) (f g : A → Judged B) → j ≡ k → ((v : A) → f v ≡ g v) → next j f ≡ next k g
unfolding next
next_same {A} {B} j k f g e h = ap (λ z. next z f) e ∙ ap (λ (z : Judged B). record { value = z.value; events = k.events ++ z.events }) (h k.value)

module _ (T C : Tables) (Here : ℕ → Type 0) (a : Alike T C Here) where
  abbrev Stands : ℕ → Type 0
  Stands token = b.Stands T C Here a token

  -- ---- identifiers

  bound_same : (x : Identifier) → Stands x.token.0 → bound T Statement x ≡ bound C Statement x
  unfolding bound is_barred
  bound_same x w = ap (λ z. found_as T Statement x.token.0 x.name z) (b.binding_same T C Here a x.token.0 x.name w) ∙ go (binding C x.token.0 x.name)
    where
      go : (o : Option Denotation) → found_as T Statement x.token.0 x.name o ≡ found_as C Statement x.token.0 x.name o
      go None = ap (λ z. telling (Broken x.token.0 (missing z x.name)) nothing_there) (b.passed_same T C Here a x.token.0 x.name w)
      go (Some d) = ap (λ z. used_in x.token.0 z d false) (b.found_same T C Here a x.token.0 x.name w)

  as_class_same : (token : ℕ) (o : Occurrence) → as_class T token o ≡ as_class C token o
  unfolding as_class
  as_class_same token o = go o.denotes
    where
      go : (d : Option Denotation) → class_denoted T token d o.barred ≡ class_denoted C token d o.barred
      go None = refl
      go (Some (denotation.Declared d)) = ap (λ z. declared_class token d o.barred z) (b.class_same T C Here a d)
      go (Some (denotation.Standard name)) = refl

  class_named_same : (x : Identifier) → Stands x.token.0 → class_named T Statement x ≡ class_named C Statement x
  unfolding class_named
  class_named_same x w = next_same (bound T Statement x) (bound C Statement x) (as_class T x.token.0) (as_class C x.token.0) (bound_same x w) (λ o. as_class_same x.token.0 o)

  -- ---- classes behind operands

  only_same : (class : Denotation) → is_only_prefix T class ≡ is_only_prefix C class
  unfolding is_only_prefix
  only_same (denotation.Declared d) = go (class_block T d) refl ∙ ap (λ z. for_prefixing C z) (b.class_same T C Here a d)
    where
      go : (o : Option ℕ) → class_block T d ≡ o → for_prefixing T o ≡ for_prefixing C o
      go None at = refl
      go (Some k) at = b.prefixing_same T C Here a k (b.class_settled T C Here a d k at)
  only_same (denotation.Standard name) = refl

  only_prefix_same : (o : Option Denotation) → only_prefix T o ≡ only_prefix C o
  only_prefix_same None = refl
  only_prefix_same (Some class) = only_same class

  chained_same : (class : Denotation) (ty : SimType) → chained_with T class ty ≡ chained_with C class ty
  chained_same (denotation.Declared d) (t.Ref c) = b.one_chain_same T C Here a c d
  chained_same (denotation.Declared d) t.Integer = refl
  chained_same (denotation.Declared d) t.Boolean = refl
  chained_same (denotation.Declared d) t.Character = refl
  chained_same (denotation.Declared d) t.Text = refl
  chained_same (denotation.Declared d) t.NoneType = refl
  chained_same (denotation.Standard name) (t.Ref c) = refl
  chained_same (denotation.Standard name) t.Integer = refl
  chained_same (denotation.Standard name) t.Boolean = refl
  chained_same (denotation.Standard name) t.Character = refl
  chained_same (denotation.Standard name) t.Text = refl
  chained_same (denotation.Standard name) t.NoneType = refl

  other_chain_same : (class : Option Denotation) (ty : Option SimType) → other_chain T class ty ≡ other_chain C class ty
  other_chain_same (Some class) (Some ty) = ap not (chained_same class ty)
  other_chain_same (Some class) None = refl
  other_chain_same None ty = refl

  class_fits_same : (token : ℕ) (class : Option Denotation) (ty : Option SimType) → class_fits T token class ty ≡ class_fits C token class ty
  unfolding class_fits
  class_fits_same token class ty =
      next_same (bars (other_chain T class ty) token r.DifferentChains) (bars (other_chain C class ty) token r.DifferentChains)
      (λ x. next (bars (only_prefix T class) token r.OnlyForPrefixing) (λ y. gives (x || y))) (λ x. next (bars (only_prefix C class) token r.OnlyForPrefixing) (λ y. gives (x || y)))
      (ap (λ z. bars z token r.DifferentChains) (other_chain_same class ty))
      (λ x. ap (λ z. next (bars z token r.OnlyForPrefixing) (λ y. gives (x || y))) (only_prefix_same class))

  class_barred_same : (x : Side) (token : ℕ) (o : Occurrence) → class_barred T x token o ≡ class_barred C x token o
  class_barred_same x token o =
      next_same (bars (is_no_reference x.ty) x.first.0 r.WrongType) (bars (is_no_reference x.ty) x.first.0 r.WrongType) (λ p. next (class_fits T token o.denotes x.ty) (λ q. gives (p || q || o.barred))) (λ p. next (class_fits C token o.denotes x.ty) (λ q. gives (p || q || o.barred))) refl
      (λ p. ap (λ z. next z (λ q. gives (p || q || o.barred))) (class_fits_same token o.denotes x.ty))

  member_same : (naming : ℕ) (x : Side) (name : Identifier) (o : Occurrence) → member T naming x name o ≡ member C naming x name o
  unfolding member
  member_same naming x name o = ap (λ z. next z (λ q. class_value naming q x.ty o.denotes truth_of)) (class_barred_same x name.token.0 o)

  qualified_same : (naming : ℕ) (x : Side) (name : Identifier) (o : Occurrence) → qualified T naming x name o ≡ qualified C naming x name o
  unfolding qualified
  qualified_same naming x name o = ap (λ z. next z (λ q. class_value naming q x.ty o.denotes class_type)) (class_barred_same x name.token.0 o)

  -- ---- `this` and `new`

  this_fits_same : (token : ℕ) (class : Denotation) (block : Option ℕ) → this_fits T Statement token class block ≡ this_fits C Statement token class block
  unfolding this_fits this_barred
  this_fits_same token class block =
      next_same (bars (is_nowhere block) token r.ThisOutsideItsClass) (bars (is_nowhere block) token r.ThisOutsideItsClass) (λ p. next (bars (is_only_prefix T class) token r.OnlyForPrefixing) (λ q. next (bars (this_barred T Statement token block) token r.BoundDependsOnItsBlock) (λ x. gives (p || q || x))))
      (λ p. next (bars (is_only_prefix C class) token r.OnlyForPrefixing) (λ q. next (bars (this_barred C Statement token block) token r.BoundDependsOnItsBlock) (λ x. gives (p || q || x)))) refl
      (λ p. next_same (bars (is_only_prefix T class) token r.OnlyForPrefixing) (bars (is_only_prefix C class) token r.OnlyForPrefixing)
      (λ q. next (bars (this_barred T Statement token block) token r.BoundDependsOnItsBlock) (λ x. gives (p || q || x))) (λ q. next (bars (this_barred C Statement token block) token r.BoundDependsOnItsBlock) (λ x. gives (p || q || x)))
      (ap (λ z. bars z token r.OnlyForPrefixing) (only_same class))
      (λ q. ap (λ z. next (bars z token r.BoundDependsOnItsBlock) (λ x. gives (p || q || x))) (go block)))
    where
      go : (o : Option ℕ) → this_barred T Statement token o ≡ this_barred C Statement token o
      go None = refl
      go (Some k) = refl

  this_same : (naming : ℕ) (x : Identifier) (o : Occurrence) → Stands x.token.0 → this_object T Statement naming x o ≡ this_object C Statement naming x o
  unfolding this_object
  this_same naming x o w = go o.denotes
    where
      go : (d : Option Denotation) → this_of_class T Statement naming x.token.0 d o.barred ≡ this_of_class C Statement naming x.token.0 d o.barred
      go None = refl
      go (Some class) =
          ap (λ z. this_found T Statement naming x.token.0 class o.barred z) (b.this_block_same T C Here a x.token.0 class w)
          ∙ next_same (located naming (this_block C x.token.0 class)) (located naming (this_block C x.token.0 class))
          (λ n. next (this_fits T Statement x.token.0 class (this_block C x.token.0 class)) (λ q. this_value naming class (q || o.barred))) (λ n. next (this_fits C Statement x.token.0 class (this_block C x.token.0 class)) (λ q. this_value naming class (q || o.barred))) refl
          (λ n. ap (λ z. next z (λ q. this_value naming class (q || o.barred))) (this_fits_same x.token.0 class (this_block C x.token.0 class)))

  count_same : (class : Denotation) → formal_count T class ≡ formal_count C class
  count_same (denotation.Declared d) = go (class_block T d) refl ∙ ap (λ z. formal_count_of C z) (b.class_same T C Here a d)
    where
      go : (o : Option ℕ) → class_block T d ≡ o → formal_count_of T o ≡ formal_count_of C o
      go None at = refl
      go (Some k) at = ap length (b.class_formals_same T C Here a k (b.class_settled T C Here a d k at))
  count_same (denotation.Standard name) = refl

  new_same : (naming : ℕ) (x : Identifier) (o : Occurrence) (act : Actuals) → new_object T naming x o act ≡ new_object C naming x o act
  unfolding new_object
  new_same naming x o act = go o.denotes
    where
      go : (d : Option Denotation) → new_of_class T naming x.token.0 d o.barred act ≡ new_of_class C naming x.token.0 d o.barred act
      go None = refl
      go (Some class) =
          next_same (bars (wrong_number T class act) x.token.0 r.WrongNumber) (bars (wrong_number C class act) x.token.0 r.WrongNumber)
          (λ p. next (bars (is_only_prefix T class) x.token.0 r.OnlyForPrefixing) (λ q. generated naming class act (p || q || o.barred))) (λ p. next (bars (is_only_prefix C class) x.token.0 r.OnlyForPrefixing) (λ q. generated naming class act (p || q || o.barred)))
          (ap (λ z. bars (act.typed && not (nat_eq z act.count)) x.token.0 r.WrongNumber) (count_same class))
          (λ p. ap (λ z. next (bars z x.token.0 r.OnlyForPrefixing) (λ q. generated naming class act (p || q || o.barred))) (only_same class))

  -- ---- values

  procedure_same : (token : ℕ) (d : DeclNo) → procedure_called token (length (formals_of T d)) (entry_of T d) ≡ procedure_called token (length (formals_of C d)) (entry_of C d)
  procedure_same token d =
      ap (λ (z : List DeclNo). procedure_called token (length z) (entry_of T d)) (b.formals_same T C Here a d) ∙ ap (λ z. procedure_called token (length (formals_of C d)) z) (b.entry_same T C Here a d)

  barred_same : (x : Barred) → barred_called T x ≡ barred_called C x
  barred_same (bar.Procedure d token) = ap (λ z. next z without_type) (procedure_same token.0 d)
  barred_same (bar.Standard name token) = refl
  barred_same (bar.Array ty) = refl
  barred_same bar.Class = refl

  called_same : (o : Outcome) → called T o ≡ called C o
  unfolding called
  called_same (is.Procedure d token own) = procedure_same token.0 d
  called_same (is.Barred x) = barred_same x
  called_same (is.Standard name token) = refl
  called_same is.Refused = refl
  called_same is.NoValue = refl
  called_same is.NoValueInParentheses = refl
  called_same (is.Value ty) = refl
  called_same (is.Called ty) = refl
  called_same (is.Variable ty) = refl
  called_same (is.Constant ty) = refl
  called_same (is.Array ty) = refl
  called_same is.Class = refl

  valued_same : (first : ℕ) (o : Outcome) → valued T first o ≡ valued C first o
  unfolding valued
  valued_same first o = ap (λ z. next z (value_of first)) (called_same o)

  pub side_same : (first : ℕ) (o : Outcome) → side T first o ≡ side C first o
  unfolding side
  side_same first o = ap (λ z. next z (λ v. gives (side_of first (type_in v)))) (valued_same first o)

  parentheses_same : (first : ℕ) (o : Outcome) → in_parentheses T first o ≡ in_parentheses C first o
  unfolding in_parentheses
  parentheses_same first o = ap (λ z. next z (parenthesized first)) (called_same o)

  arms_same : (token : ℕ) (c x y : Side) (p q s : Option SimType) → arms_fit T token c x y p q s ≡ arms_fit C token c x y p q s
  arms_same token c x y (Some p) (Some q) (Some s) = ap (λ z. if is_same p t.Boolean then in_common token y z else breaks c.first.0 r.WrongType) (b.common_same T C Here a q s)
  arms_same token c x y (Some p) (Some q) None = refl
  arms_same token c x y (Some p) None s = refl
  arms_same token c x y None q s = refl

  three_same : (token : ℕ) (c x y : Side) → three T token c x y ≡ three C token c x y
  unfolding three
  three_same token c x y = arms_same token c x y c.ty x.ty y.ty

  -- ---- behind a dot

  missing_same : (k : ℕ) (x : Identifier) → Settled T C k → attribute_missing T k x ≡ attribute_missing C k x
  unfolding attribute_missing
  missing_same k x e = ap (λ z. missing (is_shown z) x.name) (b.shown_same T C Here a None k x.name e)

  remote_as_same : (x : Identifier) (k : ℕ) (o : Option Denotation) → Settled T C k → remote_as T Statement x k o ≡ remote_as C Statement x k o
  unfolding is_barred
  remote_as_same x k None e = ap (λ z. telling (Broken x.token.0 z) nothing_there) (missing_same k x e)
  remote_as_same x k (Some d) e = refl

  remote_at_same : (x : Identifier) (k : ℕ) (barred : Bool) → Settled T C k → remote_at T Statement x k barred ≡ remote_at C Statement x k barred
  remote_at_same x k barred e =
      ap (λ z. next z (λ o. gives (barred_if barred o))) (ap (λ z. remote_as T Statement x k z) (b.attribute_in_same T C Here a x.token.0 k x.name e) ∙ remote_as_same x k (attribute_in C x.token.0 k x.name) e)

  remote_same : (x : Identifier) (class : DeclNo) → remote T Statement x class ≡ remote C Statement x class
  unfolding remote
  remote_same x class = go (class_block T class) refl ∙ ap (λ z. remote_in C Statement x z) (b.class_same T C Here a class)
    where
      go : (o : Option ℕ) → class_block T class ≡ o → remote_in T Statement x o ≡ remote_in C Statement x o
      go None at = refl
      go (Some k) at =
          let e = b.class_settled T C Here a class k at in
          next_same (bars (has_classes T k) x.token.0 r.ClassWithClasses) (bars (has_classes C k) x.token.0 r.ClassWithClasses) (remote_at T Statement x k) (remote_at C Statement x k)
          (ap (λ z. bars z x.token.0 r.ClassWithClasses) (b.classes_same T C Here a k e)) (λ q. remote_at_same x k q e)

  attribute_value_same : (x : Identifier) (v : Side) → attribute_of_value T Statement x v ≡ attribute_of_value C Statement x v
  unfolding attribute_of_value
  attribute_value_same x v = go v.ty
    where
      go : (o : Option SimType) → attribute_of_type T Statement x v.first.0 o ≡ attribute_of_type C Statement x v.first.0 o
      go None = refl
      go (Some t.Text) = refl
      go (Some (t.Ref class)) = remote_same x class
      go (Some t.NoneType) = refl
      go (Some t.Integer) = refl
      go (Some t.Boolean) = refl
      go (Some t.Character) = refl

  attribute_by_same : (x : Identifier) (first : ℕ) (o : Outcome) → attribute_by_value T Statement x first o ≡ attribute_by_value C Statement x first o
  unfolding attribute_by_value
  attribute_by_same x first o = next_same (side T first o) (side C first o) (attribute_of_value T Statement x) (attribute_of_value C Statement x) (side_same first o) (λ v. attribute_value_same x v)

  attribute_same : (x : Identifier) (first : ℕ) (o : Outcome) → attribute T Statement x first o ≡ attribute C Statement x first o
  unfolding attribute
  attribute_same x first (is.Standard standard.Sysin token) = refl
  attribute_same x first (is.Standard standard.Sysout token) = refl
  attribute_same x first (is.Standard (standard.Procedure p) token) = attribute_by_same x first (is.Standard (standard.Procedure p) token)
  attribute_same x first (is.Standard (standard.Prefix p) token) = attribute_by_same x first (is.Standard (standard.Prefix p) token)
  attribute_same x first (is.Procedure d token own) = attribute_by_same x first (is.Procedure d token own)
  attribute_same x first (is.Barred y) = attribute_by_same x first (is.Barred y)
  attribute_same x first is.Refused = attribute_by_same x first is.Refused
  attribute_same x first is.NoValue = attribute_by_same x first is.NoValue
  attribute_same x first is.NoValueInParentheses = attribute_by_same x first is.NoValueInParentheses
  attribute_same x first (is.Value ty) = attribute_by_same x first (is.Value ty)
  attribute_same x first (is.Called ty) = attribute_by_same x first (is.Called ty)
  attribute_same x first (is.Variable ty) = attribute_by_same x first (is.Variable ty)
  attribute_same x first (is.Constant ty) = attribute_by_same x first (is.Constant ty)
  attribute_same x first (is.Array ty) = attribute_by_same x first (is.Array ty)
  attribute_same x first is.Class = attribute_by_same x first is.Class

  -- ---- alone

  inside_same : (token k : ℕ) → Settled T C k → is_inside T token k ≡ is_inside C token k
  unfolding is_inside
  inside_same token k e = ap (λ z. inside_block token z) e

  inside_match_same : (token : ℕ) (o : Option DeclNo) → inside_match T token o ≡ inside_match C token o
  inside_match_same token None = refl
  inside_match_same token (Some d) = go (block_in (entry_of T d)) refl ∙ ap (λ (z : Option Entry). elim (block_in z) [ None ↦ false | Some block ↦ is_inside C token block ]) (b.entry_same T C Here a d)
    where
      go : (o : Option ℕ) → block_in (entry_of T d) ≡ o → ◌≡◌ {A = Bool} (elim o [ None ↦ false | Some block ↦ is_inside T token block ]) (elim o [ None ↦ false | Some block ↦ is_inside C token block ])
      go None at = refl
      go (Some k) at = inside_same token k (a.bodies d k at)

  connection_same : (o : Option ℕ) → is_connection_at T o ≡ is_connection_at C o
  unfolding is_kind
  connection_same None = refl
  connection_same (Some k) = ap (λ z. is_so is_connection z) (a.kinds k)

  through_same : (x : Identifier) → Stands x.token.0 → through_connection T x ≡ through_connection C x
  unfolding through_connection
  through_same x w = ap (λ z. is_connection_at T z) (b.found_same T C Here a x.token.0 x.name w) ∙ connection_same (found_in C x.token.0 x.name)

  own_of_same : (x : Identifier) (p : Option DeclNo) → Stands x.token.0 → own_of T x p ≡ own_of C x p
  unfolding own_of
  own_of_same x p w =
      ap (λ z. if_own (z && not (through_connection T x)) p) (inside_match_same x.token.0 p) ∙ ap (λ z. if_own (inside_match C x.token.0 p && not z) p) (through_same x w)

  own_undotted_same : (x : Identifier) (c : Bool) (p : Option DeclNo) → (c ≡ true → Stands x.token.0) → own_undotted T x c p ≡ own_undotted C x c p
  own_undotted_same x true p w = own_of_same x p (w refl)
  own_undotted_same x false p w = refl

  match_found_same : (o : Option DeclNo) → match_found T o ≡ match_found C o
  match_found_same None = refl
  match_found_same (Some d) = ap (λ z. match_at z (Some d)) (b.entry_same T C Here a d)

  match_same : (x : Identifier) → Stands x.token.0 → match_seen T x ≡ match_seen C x
  unfolding match_seen
  match_same x w =
      ap (λ z. match_found T z) (b.declaration_same T C Here a x.token.0 (Some x.token.0) x.name w) ∙ match_found_same (declaration_from C (Some x.token.0) (block_at C x.token.0) x.name)

  own_match_same : (x : Identifier) (c : Bool) → (c ≡ true → Stands x.token.0) → own_undotted T x c (match_seen T x) ≡ own_undotted C x c (match_seen C x)
  own_match_same x true w = ap (λ z. own_of T x z) (match_same x (w refl)) ∙ own_of_same x (match_seen C x) (w refl)
  own_match_same x false w = refl

  declared_alone_same : (naming : ℕ) (x : Identifier) (d : DeclNo) (e : Option Entry) → (is_undotted naming x ≡ true → Stands x.token.0) → declared_alone T naming x d e ≡ declared_alone C naming x d e
  declared_alone_same naming x d (Some (entry.Variable ty)) w = refl
  declared_alone_same naming x d (Some (entry.Constant ty)) w = refl
  declared_alone_same naming x d (Some (entry.Array element dimensions)) w = refl
  declared_alone_same naming x d (Some (entry.Procedure result block)) w = ap (λ z. typed_if naming result (procedure_alone d x z)) (own_undotted_same x (is_undotted naming x) (Some d) w)
  declared_alone_same naming x d (Some (entry.Class block)) w = refl
  declared_alone_same naming x d (Some (entry.Virtual result own)) w = ap (λ z. typed_if naming result (procedure_alone d x z)) (own_match_same x (is_undotted naming x) w)
  declared_alone_same naming x d (Some (entry.Attribute name parameter result)) w = refl
  declared_alone_same naming x d (Some (entry.Formal f)) w = refl
  declared_alone_same naming x d (Some (entry.Unspecified written)) w = refl
  declared_alone_same naming x d None w = refl

  alone_same : (naming : ℕ) (x : Identifier) (d : Denotation) → (is_undotted naming x ≡ true → Stands x.token.0) → alone T naming x d ≡ alone C naming x d
  unfolding alone
  alone_same naming x (denotation.Declared d) w = ap (λ z. declared_alone T naming x d z) (b.entry_same T C Here a d) ∙ declared_alone_same naming x d (entry_of C d) w
  alone_same naming x (denotation.Standard name) w = refl

  applied_same : (naming token : ℕ) (d : Denotation) (act : Actuals) → applied T naming token d act ≡ applied C naming token d act
  unfolding applied
  applied_same naming token (denotation.Declared d) act =
      ap (λ z. declared_applied naming token z (length (formals_of T d)) act) (b.entry_same T C Here a d) ∙ ap (λ (z : List DeclNo). declared_applied naming token (entry_of C d) (length z) act) (b.formals_same T C Here a d)
  applied_same naming token (denotation.Standard name) act = refl

  used_as_same : (naming : ℕ) (x : Identifier) (d : Denotation) (act : Actuals) → (is_undotted naming x ≡ true → Stands x.token.0) → used_as T naming x d act ≡ used_as C naming x d act
  used_as_same naming x d act w =
      ap (λ z. if nat_eq act.count 0 then z else if act.typed then applied T naming x.token.0 d act else applied_untyped x.token.0 d) (alone_same naming x d w)
      ∙ ap (λ z. if nat_eq act.count 0 then alone C naming x d else if act.typed then z else applied_untyped x.token.0 d) (applied_same naming x.token.0 d act)

  used_same : (naming : ℕ) (x : Identifier) (o : Occurrence) (act : Actuals) → (is_undotted naming x ≡ true → Stands x.token.0) → used T naming x o act ≡ used C naming x o act
  unfolding used
  used_same naming x o act w = go o.denotes
    where
      go : (d : Option Denotation) → used_there T naming x d o.barred act ≡ used_there C naming x d o.barred act
      go None = refl
      go (Some d) = ap (λ z. or_barred o.barred z) (used_as_same naming x d act w)

  -- ---- actual parameters

  conforming_same : (first : ℕ) (o : Option SimType) (y : SimType) → conforming T first o y ≡ conforming C first o y
  conforming_same first None y = refl
  conforming_same first (Some x) y = ap (λ z. fitting_unless first z) (b.misfit_same T C Here a x y)

  formal_value_same : (first : ℕ) (f : Formal) (y : SimType) → value_fits T first (parameter.Formal f) (Some y) ≡ value_fits C first (parameter.Formal f) (Some y)
  formal_value_same first f y = go f.kind
    where
      go : (k : FormalKind) → ◌≡◌ {A = Actual} (elim k [ kind.Simple ↦ conforming T first f.ty y | _ ↦ misfitting first r.WrongType ]) (elim k [ kind.Simple ↦ conforming C first f.ty y | _ ↦ misfitting first r.WrongType ])
      go kind.Simple = conforming_same first f.ty y
      go kind.Array = refl
      go kind.Procedure = refl

  value_fits_same : (first : ℕ) (p : Parameter) (o : Option SimType) → value_fits T first p o ≡ value_fits C first p o
  value_fits_same first parameter.Unknown None = refl
  value_fits_same first parameter.Unspecified None = refl
  value_fits_same first parameter.Subscript None = refl
  value_fits_same first (parameter.Formal f) None = refl
  value_fits_same first parameter.Unknown (Some y) = refl
  value_fits_same first parameter.Unspecified (Some y) = refl
  value_fits_same first parameter.Subscript (Some y) = refl
  value_fits_same first (parameter.Formal f) (Some y) = formal_value_same first f y

  as_value_same : (first : ℕ) (p : Parameter) (o : Outcome) → as_value T first p o ≡ as_value C first p o
  unfolding as_value
  as_value_same first p o =
      next_same (valued T first o) (valued C first o) (λ v. gives (value_fits T first p (type_in v))) (λ v. gives (value_fits C first p (type_in v))) (valued_same first o) (λ v. ap gives (value_fits_same first p (type_in v)))

  result_fits_same : (x y : SimType) → result_fits T x y ≡ result_fits C x y
  result_fits_same t.Integer y = refl
  result_fits_same t.Boolean y = refl
  result_fits_same t.Character y = refl
  result_fits_same t.Text y = refl
  result_fits_same t.NoneType y = refl
  result_fits_same (t.Ref c) (t.Ref d) = b.chain_same T C Here a d c
  result_fits_same (t.Ref c) t.Integer = refl
  result_fits_same (t.Ref c) t.Boolean = refl
  result_fits_same (t.Ref c) t.Character = refl
  result_fits_same (t.Ref c) t.Text = refl
  result_fits_same (t.Ref c) t.NoneType = refl

  matches_same : (x y : Option SimType) → result_matches T x y ≡ result_matches C x y
  matches_same None None = refl
  matches_same None (Some y) = refl
  matches_same (Some x) None = refl
  matches_same (Some x) (Some y) = result_fits_same x y

  procedure_fits_same : (first : ℕ) (f : Formal) (o : Option SimType) → procedure_fits T first f o ≡ procedure_fits C first f o
  procedure_fits_same first f o = ap (λ z. if z then fitting else misfitting first r.WrongType) (matches_same f.ty o)

  passed_procedure_same : (first : ℕ) (f : Formal) (e : Option Entry) → passed_procedure T first f e ≡ passed_procedure C first f e
  passed_procedure_same first f (Some (entry.Attribute name parameter result)) = refl
  passed_procedure_same first f (Some (entry.Variable ty)) = ap gives (procedure_fits_same first f None)
  passed_procedure_same first f (Some (entry.Constant ty)) = ap gives (procedure_fits_same first f None)
  passed_procedure_same first f (Some (entry.Array ty n)) = ap gives (procedure_fits_same first f None)
  passed_procedure_same first f (Some (entry.Procedure result n)) = ap gives (procedure_fits_same first f result)
  passed_procedure_same first f (Some (entry.Class n)) = ap gives (procedure_fits_same first f None)
  passed_procedure_same first f (Some (entry.Virtual result own)) = ap gives (procedure_fits_same first f result)
  passed_procedure_same first f (Some (entry.Formal x)) = ap gives (procedure_fits_same first f x.ty)
  passed_procedure_same first f (Some (entry.Unspecified w)) = ap gives (procedure_fits_same first f None)
  passed_procedure_same first f None = ap gives (procedure_fits_same first f None)

  procedure_actual_same : (first : ℕ) (p : Parameter) (o : Outcome) (d : DeclNo) → procedure_actual T first p o d ≡ procedure_actual C first p o d
  procedure_actual_same first (parameter.Formal f) o d = go f.kind
    where
      go : (k : FormalKind) → ◌≡◌ {A = Judged Actual} (elim k [ kind.Simple ↦ as_value T first (parameter.Formal f) o | kind.Array ↦ gives (misfitting first r.WrongType) | kind.Procedure ↦ passed_procedure T first f (entry_of T d) ])
          (elim k [ kind.Simple ↦ as_value C first (parameter.Formal f) o | kind.Array ↦ gives (misfitting first r.WrongType) | kind.Procedure ↦ passed_procedure C first f (entry_of C d) ])
      go kind.Simple = as_value_same first (parameter.Formal f) o
      go kind.Array = refl
      go kind.Procedure = ap (λ z. passed_procedure T first f z) (b.entry_same T C Here a d) ∙ passed_procedure_same first f (entry_of C d)
  procedure_actual_same first parameter.Subscript o d = as_value_same first parameter.Subscript o
  procedure_actual_same first parameter.Unspecified o d = ap (λ z. unspecified_procedure first z) (b.entry_same T C Here a d)
  procedure_actual_same first parameter.Unknown o d = refl

  standard_actual_same : (first : ℕ) (p : Parameter) (o : Outcome) (g : Signature) → standard_actual T first p o g ≡ standard_actual C first p o g
  standard_actual_same first (parameter.Formal f) o g = go f.kind
    where
      go : (k : FormalKind) → ◌≡◌ {A = Judged Actual} (elim k [ kind.Simple ↦ as_value T first (parameter.Formal f) o | kind.Array ↦ gives (misfitting first r.WrongType) | kind.Procedure ↦ left_out first ])
          (elim k [ kind.Simple ↦ as_value C first (parameter.Formal f) o | kind.Array ↦ gives (misfitting first r.WrongType) | kind.Procedure ↦ left_out first ])
      go kind.Simple = as_value_same first (parameter.Formal f) o
      go kind.Array = refl
      go kind.Procedure = refl
  standard_actual_same first parameter.Subscript o g = as_value_same first parameter.Subscript o
  standard_actual_same first parameter.Unspecified o g = refl
  standard_actual_same first parameter.Unknown o g = refl

  array_actual_same : (first : ℕ) (p : Parameter) (o : Outcome) (element : SimType) → array_actual T first p o element ≡ array_actual C first p o element
  array_actual_same first parameter.Subscript o element = as_value_same first parameter.Subscript o
  array_actual_same first (parameter.Formal f) o element = refl
  array_actual_same first parameter.Unspecified o element = refl
  array_actual_same first parameter.Unknown o element = refl

  barred_alone_same : (first : ℕ) (p : Parameter) (x : Barred) → barred_alone T first p x ≡ barred_alone C first p x
  barred_alone_same first p (bar.Array element) = array_actual_same first p (is.Barred (bar.Array element)) element
  barred_alone_same first p bar.Class = as_value_same first p (is.Barred bar.Class)
  barred_alone_same first p (bar.Procedure d token) = procedure_actual_same first p (is.Barred (bar.Procedure d token)) d
  barred_alone_same first p (bar.Standard name token) = standard_actual_same first p (is.Barred (bar.Standard name token)) (signature name)

  actual_same : (first : ℕ) (p : Parameter) (o : Outcome) → actual T first p o ≡ actual C first p o
  unfolding actual
  actual_same first p (is.Array element) = array_actual_same first p (is.Array element) element
  actual_same first p (is.Procedure d token own) = procedure_actual_same first p (is.Procedure d token own) d
  actual_same first p (is.Standard name token) =
      ap (λ z. if is_stream name then z else standard_actual T first p (is.Standard name token) (signature name)) (as_value_same first p (is.Standard name token))
      ∙ ap (λ z. if is_stream name then as_value C first p (is.Standard name token) else z) (standard_actual_same first p (is.Standard name token) (signature name))
  actual_same first p (is.Barred x) = ap (λ z. next z (λ q. gives untyped)) (barred_alone_same first p x)
  actual_same first p is.Refused = as_value_same first p is.Refused
  actual_same first p is.NoValue = as_value_same first p is.NoValue
  actual_same first p is.NoValueInParentheses = as_value_same first p is.NoValueInParentheses
  actual_same first p (is.Value ty) = as_value_same first p (is.Value ty)
  actual_same first p (is.Called ty) = as_value_same first p (is.Called ty)
  actual_same first p (is.Variable ty) = as_value_same first p (is.Variable ty)
  actual_same first p (is.Constant ty) = as_value_same first p (is.Constant ty)
  actual_same first p is.Class = as_value_same first p is.Class

  parameter_of_same : (d : DeclNo) (place : ℕ) (e : Option Entry) → entry_of T d ≡ e → parameter_of T d place e ≡ parameter_of C d place e
  parameter_of_same d place (Some (entry.Procedure result block)) at = ap formal_or_none (b.formal_same T C Here a d place)
  parameter_of_same d place (Some (entry.Class block)) at = ap formal_or_none (b.class_formal_same T C Here a block place (a.bodies d block (ap block_in at)))
  parameter_of_same d place (Some (entry.Attribute name ty result)) at = refl
  parameter_of_same d place (Some (entry.Array element dimensions)) at = refl
  parameter_of_same d place (Some (entry.Virtual result own)) at = refl
  parameter_of_same d place (Some (entry.Formal f)) at = refl
  parameter_of_same d place (Some (entry.Variable ty)) at = refl
  parameter_of_same d place (Some (entry.Constant ty)) at = refl
  parameter_of_same d place (Some (entry.Unspecified w)) at = refl
  parameter_of_same d place None at = refl

  parameter_same : (o : Option Denotation) (place : ℕ) → parameter_at T o place ≡ parameter_at C o place
  unfolding parameter_at
  parameter_same None place = refl
  parameter_same (Some (denotation.Declared d)) place = parameter_of_same d place (entry_of T d) refl ∙ ap (λ z. parameter_of C d place z) (b.entry_same T C Here a d)
  parameter_same (Some (denotation.Standard name)) place = refl

  more_same : (d : Option Denotation) (act : Actuals) (first : ℕ) (o : Outcome) → more T d act first o ≡ more C d act first o
  unfolding more
  more_same d act first o =
      ap (λ z. next z (λ x. gives (with_actual act x))) (ap (λ z. actual T first z o) (parameter_same d act.count) ∙ actual_same first (parameter_at C d act.count) o)

  -- ---- expressions that stand in one of the blocks

  module _ (k : ℕ) (at : Here k) where
    stands : (token : ℕ) → block_at C token ≡ Some k → Stands token
    stands token e = record { block = k; at = b.place_same T C Here a token ∙ e; there = at }

    operand : (x : Expression) → judge T Statement x ≡ judge C Statement x → judge_side T Statement x ≡ judge_side C Statement x
    operand x e = next_same (judge T Statement x) (judge C Statement x) (side T (first_of x)) (side C (first_of x)) e (side_same (first_of x))

    mutual
      unfolding judge actuals

      pub judge_same : (e : Expression) → PlacedExpression C k e → judge T Statement e ≡ judge C Statement e
      judge_same (syntax.If i c x y) p =
          next_same (judge_side T Statement c) (judge_side C Statement c) _ _ (operand c (judge_same c p.0)) (λ u.
          next_same (judge_side T Statement x) (judge_side C Statement x) _ _ (operand x (judge_same x p.1)) (λ v.
          next_same (judge_side T Statement y) (judge_side C Statement y) _ _ (operand y (judge_same y p.2)) (λ w. three_same i u v w)))
      judge_same (syntax.Binary operator i x y) p =
          next_same (judge_side T Statement x) (judge_side C Statement x) _ _ (operand x (judge_same x p.0)) (λ u.
          next_same (judge_side T Statement y) (judge_side C Statement y) _ _ (operand y (judge_same y p.1)) (λ v. refl))
      judge_same (syntax.Not i x) p = next_same (judge_side T Statement x) (judge_side C Statement x) _ _ (operand x (judge_same x p)) (λ u. refl)
      judge_same (syntax.Signed sign i x) p = next_same (judge_side T Statement x) (judge_side C Statement x) _ _ (operand x (judge_same x p)) (λ u. refl)
      judge_same (syntax.Constant literal i) p = refl
      judge_same (syntax.Named x args) p =
          next_same (bound T Statement x) (bound C Statement x) _ _ (bound_same x (stands x.token.0 p.0)) (λ o.
          next_same (actuals T Statement o.denotes no_actuals args) (actuals C Statement o.denotes no_actuals args) _ _ (actuals_same o.denotes no_actuals args p.1) (λ act. used_same x.token.0 x o act (λ u. stands x.token.0 p.0)))
      judge_same (syntax.Dot i x name args) p =
          next_same (next (judge T Statement x) (attribute T Statement name (first_of x))) (next (judge C Statement x) (attribute C Statement name (first_of x))) _ _
          (next_same (judge T Statement x) (judge C Statement x) (attribute T Statement name (first_of x)) (attribute C Statement name (first_of x)) (judge_same x p.0) (attribute_same name (first_of x))) (λ o.
          next_same (actuals T Statement o.denotes no_actuals args) (actuals C Statement o.denotes no_actuals args) _ _ (actuals_same o.denotes no_actuals args p.2) (λ act. used_same i name o act (λ u. absurd (let q : false ≡ true = sym p.1 ∙ u in cc))))
      judge_same (syntax.Parentheses i x) p = next_same (judge T Statement x) (judge C Statement x) _ _ (judge_same x p) (parentheses_same (first_of x))
      judge_same (syntax.Member m i x class) p =
          next_same (judge_side T Statement x) (judge_side C Statement x) _ _ (operand x (judge_same x p.0)) (λ u.
          next_same (class_named T Statement class) (class_named C Statement class) _ _ (class_named_same class (stands class.token.0 p.1)) (λ o. member_same i u class o))
      judge_same (syntax.Qua i x class) p =
          next_same (judge_side T Statement x) (judge_side C Statement x) _ _ (operand x (judge_same x p.0)) (λ u.
          next_same (class_named T Statement class) (class_named C Statement class) _ _ (class_named_same class (stands class.token.0 p.1)) (λ o. qualified_same i u class o))
      judge_same (syntax.This i class) p =
          next_same (class_named T Statement class) (class_named C Statement class) _ _ (class_named_same class (stands class.token.0 p)) (λ o. this_same i class o (stands class.token.0 p))
      judge_same (syntax.New i class args) p =
          next_same (class_named T Statement class) (class_named C Statement class) _ _ (class_named_same class (stands class.token.0 p.0)) (λ o.
          next_same (actuals T Statement o.denotes no_actuals args) (actuals C Statement o.denotes no_actuals args) _ _ (actuals_same o.denotes no_actuals args p.1) (λ act. new_same i class o act))

      pub actuals_same : (d : Option Denotation) (act : Actuals) (es : Expressions) → PlacedExpressions C k es → actuals T Statement d act es ≡ actuals C Statement d act es
      actuals_same d act syntax.NoMore p = refl
      actuals_same d act (syntax.Then x xs) p =
          next_same (next (judge T Statement x) (more T d act (first_of x))) (next (judge C Statement x) (more C d act (first_of x))) (λ v. actuals T Statement d v xs) (λ v. actuals C Statement d v xs)
          (next_same (judge T Statement x) (judge C Statement x) (more T d act (first_of x)) (more C d act (first_of x)) (judge_same x p.0) (more_same d act (first_of x))) (λ v. actuals_same d v xs p.1)

    -- an operand that stands there has the same type
    pub judged_same : (e : Expression) → PlacedExpression C k e → judge_side T Statement e ≡ judge_side C Statement e
    judged_same e p = operand e (judge_same e p)
