-- What each expression is.
use Rattle.std.proofs.Common.{◌≡◌, ◌⊎◌, inl, inr, ℕ, true, false, List, [], ◌∷◌, ◌++◌, Some, None, refl, ap, ◌∙◌, subst, if◌then◌else◌}
use Rattle.std.specs.Prelude.{nat_eq}
use Rattle.sim_scope.specs.declared.outcome.Extent.{Extent}
use Rattle.sim_scope.specs.declared.outcome.Occurrence.{Occurrence}
use Rattle.sim_scope.specs.declared.outcome.Side.{Side}
use Rattle.sim_scope.specs.declared.types.SimType.TheVariants as t
use Rattle.sim_scope.specs.Access.{block_at}
use Rattle.sim_scope.specs.Actuals.{no_actuals}
use Rattle.sim_scope.specs.Calls.{attribute, bound, is_barred, used}
use Rattle.sim_scope.specs.Expressions.{actuals, judge, judge_side}
use Rattle.sim_scope.specs.Judged.{gives, next, telling}
use Rattle.sim_scope.specs.Operators.{literal_type}
use Rattle.sim_scope.specs.Outcomes.{has, in_parentheses, one, side, three, two}
use Rattle.sim_scope.specs.References.{class_named, member, new_object, qualified, this_object}
use Rattle.sim_scope.specs.Source.{Source}
use Rattle.sim_tree.specs.declared.expr.Identifier.{Identifier}
use Rattle.sim_tree.specs.Syntax.{Expression, Expressions, Literal, NoMore, Then, first_of}
use Rattle.sim_tree.specs.Syntax as syntax
use Rattle.sim_values.specs.declared.kind.Kind.TheVariants as kind
use Rattle.sim_values.specs.Plain.{Plain, kind_of}
use Rattle.sim_meaning.specs.Attributes.{connection_at, connection_in}
use Rattle.sim_meaning.specs.Closing.{is_placed, is_text, is_text_type, own_match, result_meant, stream_of}
use Rattle.sim_meaning.specs.Constants.{TextConstant, expression_constants, expressions_constants, text_constant}
use Rattle.sim_sound.specs.Held.{Place, Simply, text_of}
use Rattle.sim_sound.specs.Expressions.{KnownAt}
use Rattle.sim_agree.specs.Facts.{Tabled}
use Rattle.sim_agree.specs.Places.{PlacedExpression, PlacedExpressions}
use Rattle.sim_meaning.specs.Checks.{passed}
use Rattle.sim_allowed.proofs.Actuals.{AllFit, AllKnown, Known, LowTo, ReachedFrom, actuals_are, size}
use Rattle.sim_allowed.proofs.Calls.{OperandIs, parentheses_mean, side_means}
use Rattle.sim_allowed.proofs.Classes.{plain_value}
use Rattle.sim_allowed.proofs.Meant.{Means}
use Rattle.sim_allowed.proofs.Named.{AttributeIs, attribute_is, dot_alone, dot_with, from_zero, named_alone, named_with}
use Rattle.sim_allowed.proofs.Operators.{not_means, signed_means, three_means, two_means}
use Rattle.sim_allowed.proofs.References.{ClassIs, PrefixIs, class_means, member_means, member_refused, new_means, new_refused, qualified_means, qualified_refused}
use Rattle.sim_allowed.proofs.Said.{AllSay, next_says}
use Rattle.sim_allowed.proofs.Sights.{Sight}
use Rattle.sim_allowed.proofs.This.{extent_of, this_means, this_refused}
use Rattle.sim_allowed.proofs.Uses.{BoundIs, bound_is}

-- ---- text constants

-- a text constant is one of the program's
abbrev pub IsThere : Source → TextConstant → Type 0
IsThere s c = (v : Plain) × (text_constant s c.token ≡ Some v) × (kind_of v ≡ kind.Text)

abbrev pub AllThere : Source → List TextConstant → Type 0
AllThere s [] = Unit {0}
AllThere s (c ∷ cs) = IsThere s c × AllThere s cs

pub both_there : (s : Source) (xs ys : List TextConstant) → AllThere s (xs ++ ys) → AllThere s xs × AllThere s ys
both_there s [] ys a = (tt, a)
both_there s (x ∷ xs) ys a = let r = both_there s xs ys a.1 in ((a.0, r.0), r.1)

-- ---- constants

literal_means : (s : Source) (from : Place) (i : ℕ) (l : Literal) → AllThere s (expression_constants (syntax.Constant l i)) → AllSay s (has i (literal_type l)).events → Means true s from (syntax.Constant l i) (has i (literal_type l)).value
unfolding has telling is_text is_placed own_match result_meant stream_of passed
literal_means s from i (syntax.IntegerValue z) there said =
    (record { proper = tt; texts = ap is_text_type said.0; stream = refl; typed = said.0; value = plain_value s from (syntax.Constant (syntax.IntegerValue z) i) t.Integer tt refl }, (refl, refl), refl, refl)
literal_means s from i (syntax.CharacterValue c) there said =
    (record { proper = tt; texts = ap is_text_type said.0; stream = refl; typed = said.0; value = plain_value s from (syntax.Constant (syntax.CharacterValue c) i) t.Character tt refl }, (refl, refl), refl, refl)
literal_means s from i (syntax.TextValue bytes) there said =
    let c = there.0 in
    (record { proper = tt; texts = ap is_text_type said.0; stream = refl; typed = said.0; value = plain_value s from (syntax.Constant (syntax.TextValue bytes) i) t.Text tt (c.0, c.1, ap Simply c.2) }, (refl, refl), refl, refl)
literal_means s from i (syntax.BooleanValue b) there said =
    (record { proper = tt; texts = ap is_text_type said.0; stream = refl; typed = said.0; value = plain_value s from (syntax.Constant (syntax.BooleanValue b) i) t.Boolean tt refl }, (refl, refl), refl, refl)
literal_means s from i syntax.NoObject there said = (record { proper = tt; texts = ap is_text_type said.0; stream = refl; typed = said.0; value = λ h f. f }, (refl, refl), refl, refl)
literal_means s from i syntax.NoText there said =
    (record { proper = tt; texts = ap is_text_type said.0; stream = refl; typed = said.0; value = plain_value s from (syntax.Constant syntax.NoText i) t.Text tt refl }, (refl, refl), refl, refl)

bound_said : (s : Source) (x : Extent) (name : Identifier) (es : Expressions) → AllSay s (judge s.tables x (syntax.Named name es)).events → AllSay s (bound s.tables x name).events
unfolding judge
bound_said s x name es said = (next_says s (bound s.tables x name) (λ d. next (actuals s.tables x d.denotes no_actuals es) (used s.tables name.token.0 name d)) said).0

-- a class is seen through no connection
class_unconnected : (s : Source) → Tabled s → (x : Extent) (name : Identifier) (o : Occurrence) (c : ClassIs s x name o) (k : ℕ) → block_at s.tables name.token.0 ≡ Some k → connection_at s name.token.0 ≡ None
unfolding connection_at
class_unconnected s known x name o c k placed =
    let b = c.found in
    let binds = b.binds ∙ ap Some c.same in
    let f = known.around name.token.0 k name.name c.declaration placed binds in
    let none = known.outside name.token.0 f.found name.name c.declaration c.class.block binds c.class.declares f.at in
    ap (connection_in s) (b.found f.found f.at) ∙ ap (λ z. if z then Some f.found else None) none

-- The class of the type of each expression is of no deeper level than those that are declared in the text around it, and those that are not are
-- declared in it or in a text around.
abbrev pub AllNear : Source → Place → Type 0
AllNear s from = ReachedFrom s from × ((e : Expression) → PlacedExpression s.tables (text_of from) e → LowTo s from (extent_of from) e)

module _ (s : Source) (known : Tabled s) (from : Place) (sight : Sight s from (extent_of from)) where
  abbrev X : Extent
  X = extent_of from

  -- an operand
  pub operand : (e : Expression) → Known s from X e → AllSay s (judge_side s.tables X e).events → OperandIs s from e (judge_side s.tables X e).value
  unfolding next
  operand e h said =
      let parts = next_says s (judge s.tables X e) (side s.tables (first_of e)) said in
      side_means s known from e (first_of e) (judge s.tables X e).value (h parts.0) parts.1

  binary : (o : _) (i : ℕ) (a b : Expression) → Known s from X a → Known s from X b → Known s from X (syntax.Binary o i a b)
  unfolding judge next
  binary o i a b h j said =
      let parts = next_says s (judge_side s.tables X a) (λ y. next (judge_side s.tables X b) (λ z. two o i y z)) said in
      let y = (judge_side s.tables X a).value in
      let more = next_says s (judge_side s.tables X b) (λ z. two o i y z) parts.1 in
      two_means s from o i a b y (judge_side s.tables X b).value (operand a h parts.0) (operand b j more.0) more.1

  conditional : (i : ℕ) (c a b : Expression) → Known s from X c → Known s from X a → Known s from X b → Known s from X (syntax.If i c a b)
  unfolding judge next
  conditional i c a b h j l said =
      let parts = next_says s (judge_side s.tables X c) (λ w. next (judge_side s.tables X a) (λ y. next (judge_side s.tables X b) (λ z. three s.tables i w y z))) said in
      let w = (judge_side s.tables X c).value in
      let more = next_says s (judge_side s.tables X a) (λ y. next (judge_side s.tables X b) (λ z. three s.tables i w y z)) parts.1 in
      let y = (judge_side s.tables X a).value in
      let last = next_says s (judge_side s.tables X b) (λ z. three s.tables i w y z) more.1 in
      three_means s known from i c a b w y (judge_side s.tables X b).value (operand c h parts.0) (operand a j more.0) (operand b l last.0) last.1

  negation : (i : ℕ) (a : Expression) → Known s from X a → Known s from X (syntax.Not i a)
  unfolding judge next
  negation i a h said =
      let parts = next_says s (judge_side s.tables X a) (one t.Boolean i) said in
      not_means s from i a (judge_side s.tables X a).value (operand a h parts.0) parts.1

  signed : (g : _) (i : ℕ) (a : Expression) → Known s from X a → Known s from X (syntax.Signed g i a)
  unfolding judge next
  signed g i a h said =
      let parts = next_says s (judge_side s.tables X a) (one t.Integer i) said in
      signed_means s from g i a (judge_side s.tables X a).value (operand a h parts.0) parts.1

  in_brackets : (i : ℕ) (a : Expression) → Known s from X a → Known s from X (syntax.Parentheses i a)
  unfolding judge next
  in_brackets i a h said =
      let parts = next_says s (judge s.tables X a) (in_parentheses s.tables (first_of a)) said in
      parentheses_mean s known from a i (first_of a) (judge s.tables X a).value (h parts.0) parts.1

  compared : (m : _) (i : ℕ) (a : Expression) (class : Identifier) → Known s from X a → Known s from X (syntax.Member m i a class)
  unfolding judge next
  compared m i a class h said =
      let parts = next_says s (judge_side s.tables X a) (λ y. next (class_named s.tables X class) (member s.tables i y class)) said in
      let y = (judge_side s.tables X a).value in
      let more = next_says s (class_named s.tables X class) (member s.tables i y class) parts.1 in
      go y (operand a h parts.0) (class_means s known X class more.0) more.1
    where
      go : (y : Side) → OperandIs s from a y → ClassIs s X class (class_named s.tables X class).value ⊎ PrefixIs (class_named s.tables X class).value → AllSay s (member s.tables i y class (class_named s.tables X class).value).events
          → Means true s from (syntax.Member m i a class) (member s.tables i y class (class_named s.tables X class).value).value
      go y p (inl c) said = member_means s known from X a y p class (class_named s.tables X class).value c m i said
      go y p (inr c) said = absurd (member_refused s i y class (class_named s.tables X class).value c said)

  qualifying : (i : ℕ) (a : Expression) (class : Identifier) → Known s from X a → Known s from X (syntax.Qua i a class)
  unfolding judge next
  qualifying i a class h said =
      let parts = next_says s (judge_side s.tables X a) (λ y. next (class_named s.tables X class) (qualified s.tables i y class)) said in
      let y = (judge_side s.tables X a).value in
      let more = next_says s (class_named s.tables X class) (qualified s.tables i y class) parts.1 in
      go y (operand a h parts.0) (class_means s known X class more.0) more.1
    where
      go : (y : Side) → OperandIs s from a y → ClassIs s X class (class_named s.tables X class).value ⊎ PrefixIs (class_named s.tables X class).value → AllSay s (qualified s.tables i y class (class_named s.tables X class).value).events
          → Means true s from (syntax.Qua i a class) (qualified s.tables i y class (class_named s.tables X class).value).value
      go y p (inl c) said = qualified_means s known from X a y p class (class_named s.tables X class).value c i said
      go y p (inr c) said = absurd (qualified_refused s i y class (class_named s.tables X class).value c said)

  this_one : (i : ℕ) (class : Identifier) → block_at s.tables class.token.0 ≡ Some (text_of from) → Known s from X (syntax.This i class)
  unfolding judge next
  this_one i class placed said =
      let parts = next_says s (class_named s.tables X class) (this_object s.tables X i class) said in
      go (class_means s known X class parts.0) parts.1
    where
      go : ClassIs s X class (class_named s.tables X class).value ⊎ PrefixIs (class_named s.tables X class).value → AllSay s (this_object s.tables X i class (class_named s.tables X class).value).events
          → Means true s from (syntax.This i class) (this_object s.tables X i class (class_named s.tables X class).value).value
      go (inl c) said = this_means s known from i class (class_named s.tables X class).value c placed said
      go (inr c) said = absurd (this_refused s X i class (class_named s.tables X class).value c said)

  generated : ReachedFrom s from → (i : ℕ) (class : Identifier) (es : Expressions) → block_at s.tables class.token.0 ≡ Some (text_of from) → AllKnown s from X es → Known s from X (syntax.New i class es)
  unfolding judge next
  generated reach i class es placed all said =
      let parts = next_says s (class_named s.tables X class) (λ o. next (actuals s.tables X o.denotes no_actuals es) (new_object s.tables i class o)) said in
      let more = next_says s (actuals s.tables X (class_named s.tables X class).value.denotes no_actuals es) (new_object s.tables i class (class_named s.tables X class).value) parts.1 in
      go (class_named s.tables X class).value (class_means s known X class parts.0) more.0 more.1
    where
      go : (o : Occurrence) → ClassIs s X class o ⊎ PrefixIs o → AllSay s (actuals s.tables X o.denotes no_actuals es).events → AllSay s (new_object s.tables i class o (actuals s.tables X o.denotes no_actuals es).value).events
          → Means true s from (syntax.New i class es) (new_object s.tables i class o (actuals s.tables X o.denotes no_actuals es).value).value
      go o (inr c) given said = absurd (new_refused s i class o c (actuals s.tables X o.denotes no_actuals es).value said)
      go o (inl c) given said =
          let a = actuals_are s known from reach X o.denotes es all no_actuals given in
          let b = c.found in
          let here = sight class.token.0 class.name c.declaration placed (b.binds ∙ ap Some c.same) (let open_to = b.open_to in subst (λ z. is_barred s.tables X class.token.0 z ≡ false) c.same open_to) b.found in
          let seen = subst (λ z. KnownAt s from z c.declaration) (class_unconnected s known X class o c (text_of from) placed) here.0 in
          let y = (actuals s.tables X o.denotes no_actuals es).value in
          new_means s known from X class o c seen es y (from_zero y.count (size es) a.count) (a.typed refl) (λ h. subst (λ (z : Occurrence). AllFit s from z.denotes 0 es) c.is (a.fits h).1) i said

  named : ReachedFrom s from → (name : Identifier) (es : Expressions) → PlacedExpression s.tables (text_of from) (syntax.Named name es) → AllKnown s from X es → Known s from X (syntax.Named name es)
  unfolding judge next actuals gives
  named reach name es placed all said =
      let parts = next_says s (bound s.tables X name) (λ d. next (actuals s.tables X d.denotes no_actuals es) (used s.tables name.token.0 name d)) said in
      let d = (bound s.tables X name).value in
      let more = next_says s (actuals s.tables X d.denotes no_actuals es) (used s.tables name.token.0 name d) parts.1 in
      go es all more.0 more.1
    where
      bound_to : BoundIs s X name (bound s.tables X name).value
      bound_to = bound_is s X name (bound_said s X name es said)

      go : (es : Expressions) → AllKnown s from X es → AllSay s (actuals s.tables X (bound s.tables X name).value.denotes no_actuals es).events
          → AllSay s (used s.tables name.token.0 name (bound s.tables X name).value (actuals s.tables X (bound s.tables X name).value.denotes no_actuals es).value).events
          → Means true s from (syntax.Named name es) (used s.tables name.token.0 name (bound s.tables X name).value (actuals s.tables X (bound s.tables X name).value.denotes no_actuals es).value).value
      go NoMore all first last = named_alone s known from X sight name placed.0 (bound s.tables X name).value bound_to last
      go (Then e es) all first last =
          named_with s known from X sight name placed.0 e es (bound s.tables X name).value bound_to (actuals s.tables X (bound s.tables X name).value.denotes no_actuals (Then e es)).value
          (actuals_are s known from reach X (bound s.tables X name).value.denotes (Then e es) all no_actuals first) last

  behind_dot : ReachedFrom s from → (i : ℕ) (a : Expression) (name : Identifier) (es : Expressions) → nat_eq i name.token.0 ≡ false → Known s from X a → AllKnown s from X es → Known s from X (syntax.Dot i a name es)
  unfolding judge next actuals gives
  behind_dot reach i a name es other h all said =
      let parts = next_says s (next (judge s.tables X a) (attribute s.tables X name (first_of a))) (λ d. next (actuals s.tables X d.denotes no_actuals es) (used s.tables i name d)) said in
      let inner = next_says s (judge s.tables X a) (attribute s.tables X name (first_of a)) parts.0 in
      let o = (judge s.tables X a).value in
      let d = (attribute s.tables X name (first_of a) o).value in
      let b = attribute_is s known from a X name (first_of a) o (h inner.0) inner.1 in
      let more = next_says s (actuals s.tables X d.denotes no_actuals es) (used s.tables i name d) parts.1 in
      go b es all more.0 more.1
    where
      go : AttributeIs s from a name (attribute s.tables X name (first_of a) (judge s.tables X a).value).value → (es : Expressions) → AllKnown s from X es
          → AllSay s (actuals s.tables X (attribute s.tables X name (first_of a) (judge s.tables X a).value).value.denotes no_actuals es).events
          → AllSay s (used s.tables i name (attribute s.tables X name (first_of a) (judge s.tables X a).value).value (actuals s.tables X (attribute s.tables X name (first_of a) (judge s.tables X a).value).value.denotes no_actuals es).value).events
          → Means true s from (syntax.Dot i a name es) (used s.tables i name (attribute s.tables X name (first_of a) (judge s.tables X a).value).value (actuals s.tables X (attribute s.tables X name (first_of a) (judge s.tables X a).value).value.denotes no_actuals es).value).value
      go b NoMore all first last = dot_alone s known from i a name other (attribute s.tables X name (first_of a) (judge s.tables X a).value).value b last
      go b (Then e es) all first last =
          dot_with s known from i a name other (attribute s.tables X name (first_of a) (judge s.tables X a).value).value e es (actuals s.tables X (attribute s.tables X name (first_of a) (judge s.tables X a).value).value.denotes no_actuals (Then e es)).value b
          (actuals_are s known from reach X (attribute s.tables X name (first_of a) (judge s.tables X a).value).value.denotes (Then e es) all no_actuals first) last

  literal : (i : ℕ) (l : Literal) → AllThere s (expression_constants (syntax.Constant l i)) → Known s from X (syntax.Constant l i)
  unfolding judge
  literal i l there said = literal_means s from i l there said

module _ (s : Source) (known : Tabled s) (from : Place) (sight : Sight s from (extent_of from)) (near : AllNear s from) where
  mutual
    pub expression_known : (e : Expression) → PlacedExpression s.tables (text_of from) e → AllThere s (expression_constants e) → Known s from (extent_of from) e
    expression_known (syntax.If i c a b) l there =
        let h = both_there s (expression_constants c) (expression_constants a ++ expression_constants b) there in
        let j = both_there s (expression_constants a) (expression_constants b) h.1 in
        conditional s known from sight i c a b (expression_known c l.0 h.0) (expression_known a l.1 j.0) (expression_known b l.2 j.1)
    expression_known (syntax.Binary o i a b) l there =
        let h = both_there s (expression_constants a) (expression_constants b) there in
        binary s known from sight o i a b (expression_known a l.0 h.0) (expression_known b l.1 h.1)
    expression_known (syntax.Not i a) l there = negation s known from sight i a (expression_known a l there)
    expression_known (syntax.Signed g i a) l there = signed s known from sight g i a (expression_known a l there)
    expression_known (syntax.Dot i a name es) l there =
        let h = both_there s (expression_constants a) (expressions_constants es) there in
        behind_dot s known from sight near.0 i a name es l.1 (expression_known a l.0 h.0) (expressions_known es l.2 h.1)
    expression_known (syntax.Constant literal' i) l there = literal s known from sight i literal' there
    expression_known (syntax.Named name es) l there = named s known from sight near.0 name es l (expressions_known es l.1 there)
    expression_known (syntax.Parentheses i a) l there = in_brackets s known from sight i a (expression_known a l there)
    expression_known (syntax.Member m i a class) l there = compared s known from sight m i a class (expression_known a l.0 there)
    expression_known (syntax.Qua i a class) l there = qualifying s known from sight i a class (expression_known a l.0 there)
    expression_known (syntax.This i class) l there = this_one s known from sight i class l
    expression_known (syntax.New i class es) l there = generated s known from sight near.0 i class es l.0 (expressions_known es l.1 there)

    pub expressions_known : (es : Expressions) → PlacedExpressions s.tables (text_of from) es → AllThere s (expressions_constants es) → AllKnown s from (extent_of from) es
    expressions_known NoMore l there = tt
    expressions_known (Then e es) l there =
        let h = both_there s (expression_constants e) (expressions_constants es) there in (expression_known e l.0 h.0, near.1 e l.0, expressions_known es l.1 h.1)
