-- The class of the type of each expression, and of what is connected around it, is of the level of those that are declared in the text in which the
-- expression stands, or of a lesser one.
use Rattle.std.proofs.Common.{◌≡◌, ◌≤◌, ◌<◌, ℕ, zero, suc, Bool, true, false, Option, Some, None, refl, sym, ap, ◌∙◌, arith, if◌then◌else◌}
use Rattle.std.proofs.lemmas.Bool.{false≢true}
use Rattle.sim_base.specs.declared.numbering.DeclNo.{DeclNo}
use Rattle.sim_base.specs.declared.rule.Rule.TheVariants as r
use Rattle.sim_scope.specs.declared.outcome.Extent.{Extent}
use Rattle.sim_scope.specs.declared.outcome.Extent.TheVariants as extent
use Rattle.sim_scope.specs.declared.outcome.Outcome.{Outcome}
use Rattle.sim_scope.specs.declared.outcome.Outcome.TheVariants as is
use Rattle.sim_scope.specs.declared.outcome.Side.{Side}
use Rattle.sim_scope.specs.declared.scopes.Denotation.{Denotation}
use Rattle.sim_scope.specs.declared.scopes.Denotation.TheVariants as denotation
use Rattle.sim_scope.specs.declared.standard.StandardName.{StandardName}
use Rattle.sim_scope.specs.declared.standard.StandardName.TheVariants as found
use Rattle.sim_scope.specs.declared.types.SimType.{SimType}
use Rattle.sim_scope.specs.declared.types.SimType.TheVariants as t
use Rattle.sim_scope.specs.Access.{block_at, encloser}
use Rattle.sim_scope.specs.Actuals.{no_actuals}
use Rattle.sim_scope.specs.Calls.{attribute, attribute_by_value, attribute_found, attribute_in, attribute_of_type, attribute_of_value, barred_if, bound, found_as, is_barred, occurs, remote, remote_as, remote_at, remote_in, used_in, used_or_barred}
use Rattle.sim_scope.specs.Expressions.{actuals, judge, judge_side}
use Rattle.sim_scope.specs.Judged.{bars, gives, next, telling}
use Rattle.sim_scope.specs.Levels.{base, class_block, has_classes, shared_class, shared_of}
use Rattle.sim_scope.specs.Operators.{common_type, is_same, reference_to}
use Rattle.sim_scope.specs.Outcomes.{arms_fit, breaks, in_common, side, three}
use Rattle.sim_scope.specs.References.{as_class, class_denoted, class_named, declared_class, no_class}
use Rattle.sim_scope.specs.Scopes.{binding}
use Rattle.sim_scope.specs.Source.{Source, block_of, level_of}
use Rattle.sim_scope.specs.Standard.{is_standard_class, sysin_attribute, sysout_attribute, text_attribute}
use Rattle.sim_static.specs.Check.{second_least}
use Rattle.sim_tree.specs.declared.expr.Identifier.{Identifier}
use Rattle.sim_tree.specs.Syntax.{Expression, Expressions, first_of}
use Rattle.sim_tree.specs.Syntax as syntax
use Rattle.inspect_types.specs.Connecting.{class_of_name, class_of_type}
use Rattle.sim_meaning.specs.Attributes.{is_connection}
use Rattle.sim_meaning.specs.Texts.{text}
use Rattle.sim_sound.specs.Held.{Around, further, itself}
use Rattle.sim_agree.specs.Facts.{IsClass, Tabled}
use Rattle.sim_agree.specs.Order.{InOrder}
use Rattle.sim_agree.specs.Places.{PlacedExpression}
use Rattle.sim_agree.specs.TablesAgree.{TablesAgree}
use Rattle.sim_agree.specs.TablesOf.{TablesOf}
use Rattle.sim_agree.proofs.Connected.{MetAt, connection_met, looked_at, named_at}
use Rattle.sim_allowed.proofs.Classes.{class_row, no_connection, row_class, shared_both}
use Rattle.sim_allowed.proofs.Near.{level_number}
use Rattle.sim_allowed.proofs.Nearness.{ConnectsNear, LowResult, LowType, found_low, named_level, remote_low}
use Rattle.sim_allowed.proofs.NearJudged.{LowClass, LowOccurrence, LowOutcome, breaks_low, has_low, literal_low, member_low, new_low, no_denotation, no_standard, one_low, parentheses_low, qualified_low, side_low, this_low, two_low, used_low}
use Rattle.sim_allowed.proofs.Simulations.{level_classes}

module _ (s : Source) (of : TablesOf s) (order : InOrder s.program) (g : TablesAgree s) (known : Tabled s) (second : second_least s.tables ≡ None) where
  -- ---- arms

  same_number : (o : Option ℕ) (a b : ℕ) → o ≡ Some a → o ≡ Some b → a ≡ b
  same_number o a b e f = let z : Some a ≡ Some b = sym e ∙ f in cc

  -- the class that two have in common
  shared_low : (n : ℕ) (c d : DeclNo) → LowType s n (t.Ref c) → LowResult s n (reference_to (shared_class s.tables c d))
  unfolding shared_class
  shared_low n c d low = go (shared_class s.tables c d) refl
    where
      at : (class : DeclNo) → shared_class s.tables c d ≡ Some class → (a b : Option ℕ) → class_block s.tables c ≡ a → class_block s.tables d ≡ b → shared_of s.tables a b ≡ Some class → LowType s n (t.Ref class)
      at class shared None b e f is = absurd (cc)
      at class shared (Some a) None e f is = absurd (cc)
      at class shared (Some a) (Some b) e f is = λ k h. (
          let first = known.classes c a (row_class s.tables c a e) in
          let second = known.classes d b (row_class s.tables d b f) in
          let one : IsClass s c = record { block = a; declares = row_class s.tables c a e; is = first.0; owned = first.1 } in
          let other : IsClass s d = record { block = b; declares = row_class s.tables d b f; is = second.0; owned = second.1 } in
          let q = shared_both s known c d class one other shared in
          let same : k ≡ q.is.block = same_number (class_block s.tables class) k q.is.block h (class_row s.tables class q.is.block q.is.declares) in
          let level = level_number s g.prefixes g.levels g.levels_of_connections a q.is.block (no_connection (text s a) first.0) q.first in
          let le = low a e in
          let here = ap (level_of s) same in
          omega (arith, level, le, here))

      go : (o : Option DeclNo) → shared_class s.tables c d ≡ o → LowResult s n (reference_to o)
      go None e = tt
      go (Some class) e = at class e (class_block s.tables c) (class_block s.tables d) refl refl e

  common_low : (n : ℕ) (p q : SimType) → LowType s n p → LowType s n q → LowResult s n (common_type s.tables p q)
  unfolding common_type
  common_low n (t.Ref c) (t.Ref d) low other = shared_low n c d low
  common_low n (t.Ref c) t.NoneType low other = low
  common_low n (t.Ref c) t.Integer low other = tt
  common_low n (t.Ref c) t.Boolean low other = tt
  common_low n (t.Ref c) t.Character low other = tt
  common_low n (t.Ref c) t.Text low other = tt
  common_low n t.NoneType (t.Ref d) low other = other
  common_low n t.NoneType t.NoneType low other = tt
  common_low n t.NoneType t.Integer low other = tt
  common_low n t.NoneType t.Boolean low other = tt
  common_low n t.NoneType t.Character low other = tt
  common_low n t.NoneType t.Text low other = tt
  common_low n t.Integer q low other = plain (is_same t.Integer q)
    where
      plain : (c : Bool) → LowResult s n (if c then Some t.Integer else None)
      plain true = tt
      plain false = tt
  common_low n t.Boolean q low other = plain (is_same t.Boolean q)
    where
      plain : (c : Bool) → LowResult s n (if c then Some t.Boolean else None)
      plain true = tt
      plain false = tt
  common_low n t.Character q low other = plain (is_same t.Character q)
    where
      plain : (c : Bool) → LowResult s n (if c then Some t.Character else None)
      plain true = tt
      plain false = tt
  common_low n t.Text q low other = plain (is_same t.Text q)
    where
      plain : (c : Bool) → LowResult s n (if c then Some t.Text else None)
      plain true = tt
      plain false = tt

  three_low : (n i : ℕ) (c x y : Side) → LowResult s n x.ty → LowResult s n y.ty → LowOutcome s n (three s.tables i c x y).value
  unfolding three gives
  three_low n i c x y low other = go c.ty x.ty y.ty low other
    where
      in_it : (o : Option SimType) → LowResult s n o → LowOutcome s n (in_common i y o).value
      in_it (Some ty) low = has_low s n i ty low
      in_it None low = breaks_low s n y.first.0 r.WrongType

      test : (b : Bool) (o : Option SimType) → LowResult s n o → LowOutcome s n (if b then in_common i y o else breaks c.first.0 r.WrongType).value
      test true o low = in_it o low
      test false o low = breaks_low s n c.first.0 r.WrongType

      go : (b p q : Option SimType) → LowResult s n p → LowResult s n q → LowOutcome s n (arms_fit s.tables i c x y b p q).value
      go (Some b) (Some p) (Some q) low other = test (is_same b t.Boolean) (common_type s.tables p q) (common_low n p q low other)
      go (Some b) (Some p) None low other = tt
      go (Some b) None q low other = tt
      go None p q low other = tt

  -- ---- behind a dot

  module _ (n : ℕ) (e : Extent) (x : Identifier) where
    found_none : (o : Option StandardName) → LowOccurrence s n (attribute_found x o).value
    unfolding telling
    found_none None = λ d is free. absurd (no_denotation s n (denotation.Declared d) is)
    found_none (Some name) = λ d is free. absurd (no_standard s n name d is)

    remote_is_low : (class : DeclNo) → LowType s n (t.Ref class) → LowOccurrence s n (remote s.tables e x class).value
    unfolding remote next gives telling bars
    remote_is_low class low = go (class_block s.tables class) refl
      where
        attribute_at : (block : ℕ) → class_block s.tables class ≡ Some block → has_classes s.tables block ≡ false → (o : Option Denotation) → attribute_in s.tables x.token.0 block x.name ≡ o → LowOccurrence s n (barred_if false (remote_as s.tables e x block o).value)
        attribute_at block at none None is = λ d f free. absurd (no_denotation s n (denotation.Declared d) f)
        attribute_at block at none (Some d) is = open_to (is_barred s.tables e x.token.0 d)
          where
            open_to : (b : Bool) → LowOccurrence s n (barred_if false (used_or_barred x.token.0 d b).value)
            open_to true = λ c f free. absurd (false≢true (sym free))
            open_to false = λ c f free b there. (
                let binds = is ∙ f in
                let h = known.attributes x.token.0 block x.name c binds in
                let class_there = known.classes class block (row_class s.tables class block at) in
                remote_low s of order g known second block n c b there class_there.0 h.2 none
                (λ name w result is' sim. false≢true (sym none ∙ level_classes s.tables block (block_of s c) h.2 (known.simulates_behind x.token.0 block x.name c name w result binds is' sim))) (low block at))

        within : (block : ℕ) → class_block s.tables class ≡ Some block → (c : Bool) → has_classes s.tables block ≡ c → LowOccurrence s n (remote_at s.tables e x block (bars c x.token.0 r.ClassWithClasses).value).value
        within block at true is = λ d f free. absurd (false≢true (sym free))
        within block at false is = attribute_at block at is (attribute_in s.tables x.token.0 block x.name) refl

        go : (o : Option ℕ) → class_block s.tables class ≡ o → LowOccurrence s n (remote_in s.tables e x o).value
        go None at = λ d f free. absurd (no_denotation s n (denotation.Declared d) f)
        go (Some block) at = within block at (has_classes s.tables block) refl

    of_type_low : (first : ℕ) (o : Option SimType) → LowResult s n o → LowOccurrence s n (attribute_of_type s.tables e x first o).value
    unfolding telling gives
    of_type_low first None low = λ d f free. absurd (no_denotation s n (denotation.Declared d) f)
    of_type_low first (Some t.Text) low = found_none (text_attribute x.name)
    of_type_low first (Some (t.Ref class)) low = remote_is_low class low
    of_type_low first (Some t.NoneType) low = found_none None
    of_type_low first (Some t.Integer) low = λ d f free. absurd (no_denotation s n (denotation.Declared d) f)
    of_type_low first (Some t.Boolean) low = λ d f free. absurd (no_denotation s n (denotation.Declared d) f)
    of_type_low first (Some t.Character) low = λ d f free. absurd (no_denotation s n (denotation.Declared d) f)

    by_value_low : (first : ℕ) (o : Outcome) → LowOutcome s n o → LowOccurrence s n (attribute_by_value s.tables e x first o).value
    unfolding attribute_by_value attribute_of_value next
    by_value_low first o low = of_type_low (side s.tables first o).value.first.0 (side s.tables first o).value.ty (side_low s n first o low)

    attribute_low : (first : ℕ) (o : Outcome) → LowOutcome s n o → LowOccurrence s n (attribute s.tables e x first o).value
    unfolding attribute
    attribute_low first (is.Standard found.Sysin token) low = found_none (sysin_attribute x.name)
    attribute_low first (is.Standard found.Sysout token) low = found_none (sysout_attribute x.name)
    attribute_low first (is.Standard name token) low = by_value_low first (is.Standard name token) low
    attribute_low first is.Refused low = by_value_low first is.Refused low
    attribute_low first is.NoValue low = by_value_low first is.NoValue low
    attribute_low first is.NoValueInParentheses low = by_value_low first is.NoValueInParentheses low
    attribute_low first (is.Value ty) low = by_value_low first (is.Value ty) low
    attribute_low first (is.Called ty) low = by_value_low first (is.Called ty) low
    attribute_low first (is.Variable ty) low = by_value_low first (is.Variable ty) low
    attribute_low first (is.Constant ty) low = by_value_low first (is.Constant ty) low
    attribute_low first (is.Array ty) low = by_value_low first (is.Array ty) low
    attribute_low first (is.Procedure d token own) low = by_value_low first (is.Procedure d token own) low
    attribute_low first is.Class low = by_value_low first is.Class low
    attribute_low first (is.Barred b) low = by_value_low first (is.Barred b) low

  -- ---- in a text

  module _ (u : ℕ) (near : ConnectsNear s of order g known second u) where
    abbrev N : ℕ
    N = suc (level_of s u)

    bound_low : (e : Extent) (x : Identifier) → block_at s.tables x.token.0 ≡ Some u → LowOccurrence s N (bound s.tables e x).value
    unfolding bound used_in next telling
    bound_low e x placed = go (binding s.tables x.token.0 x.name) refl
      where
        open_to : (d : Denotation) → binding s.tables x.token.0 x.name ≡ Some d → (b : Bool) → LowOccurrence s N (used_or_barred x.token.0 d b).value
        open_to d binds true = λ c is free. absurd (false≢true (sym free))
        open_to d binds false = λ c is free b there. found_low s of order g known second u near x.token.0 x.name c placed (binds ∙ is) b there

        go : (o : Option Denotation) → binding s.tables x.token.0 x.name ≡ o → LowOccurrence s N (found_as s.tables e x.token.0 x.name o).value
        go None binds = λ c is free. absurd (no_denotation s N (denotation.Declared c) is)
        go (Some d) binds = open_to d binds (is_barred s.tables e x.token.0 d)

    class_low : (e : Extent) (x : Identifier) → block_at s.tables x.token.0 ≡ Some u → LowClass s N (class_named s.tables e x).value
    unfolding class_named as_class bound used_in next telling gives
    class_low e x placed = go (binding s.tables x.token.0 x.name) refl
      where
        declared : (d : DeclNo) → binding s.tables x.token.0 x.name ≡ Some (denotation.Declared d) → (b : Bool) (o : Option ℕ) → LowClass s N (declared_class x.token.0 d b o).value
        declared d binds b None = λ c is. absurd (no_denotation s N (denotation.Declared c) is)
        declared d binds b (Some k) = λ c is j e. named_level s of order g known second x.token.0 u x.name c j placed (binds ∙ is) (row_class s.tables c j e)

        standard : (name : StandardName) (b c : Bool) → LowClass s N (if c then gives (occurs (Some (denotation.Standard name)) b) else no_class x.token.0).value
        standard name b true = λ d is. absurd (no_standard s N name d is)
        standard name b false = λ d is. absurd (no_denotation s N (denotation.Declared d) is)

        denoted : (d : Denotation) → binding s.tables x.token.0 x.name ≡ Some d → (b : Bool) → LowClass s N (class_denoted s.tables x.token.0 (Some d) b).value
        denoted (denotation.Declared d) binds b = declared d binds b (class_block s.tables d)
        denoted (denotation.Standard name) binds b = standard name b (is_standard_class name)

        open_to : (d : Denotation) → binding s.tables x.token.0 x.name ≡ Some d → (b : Bool) → LowClass s N (as_class s.tables x.token.0 (used_or_barred x.token.0 d b).value).value
        open_to d binds true = denoted d binds true
        open_to d binds false = denoted d binds false

        go : (o : Option Denotation) → binding s.tables x.token.0 x.name ≡ o → LowClass s N (as_class s.tables x.token.0 (found_as s.tables e x.token.0 x.name o).value).value
        go None binds = λ c is. absurd (no_denotation s N (denotation.Declared c) is)
        go (Some d) binds = open_to d binds (is_barred s.tables e x.token.0 d)

    pub judged_low : (e : Extent) (x : Expression) → PlacedExpression s.tables u x → LowOutcome s N (judge s.tables e x).value
    unfolding judge next
    judged_low e (syntax.If i c a b) placed =
        three_low N i (judge_side s.tables e c).value (judge_side s.tables e a).value (judge_side s.tables e b).value
        (side_low s N (first_of a) (judge s.tables e a).value (judged_low e a placed.1)) (side_low s N (first_of b) (judge s.tables e b).value (judged_low e b placed.2))
    judged_low e (syntax.Binary o i a b) placed = two_low s N o i (judge_side s.tables e a).value (judge_side s.tables e b).value
    judged_low e (syntax.Not i a) placed = one_low s N t.Boolean tt i (judge_side s.tables e a).value
    judged_low e (syntax.Signed sign i a) placed = one_low s N t.Integer tt i (judge_side s.tables e a).value
    judged_low e (syntax.Constant l i) placed = literal_low s N i l
    judged_low e (syntax.Named x es) placed = used_low s N x.token.0 x (bound s.tables e x).value (actuals s.tables e (bound s.tables e x).value.denotes no_actuals es).value (bound_low e x placed.0)
    judged_low e (syntax.Dot i a x es) placed =
        let o = (attribute s.tables e x (first_of a) (judge s.tables e a).value).value in
        used_low s N i x o (actuals s.tables e o.denotes no_actuals es).value (attribute_low N e x (first_of a) (judge s.tables e a).value (judged_low e a placed.0))
    judged_low e (syntax.Parentheses i a) placed = parentheses_low s N (first_of a) (judge s.tables e a).value (judged_low e a placed)
    judged_low e (syntax.Member m i a class) placed = member_low s N i (judge_side s.tables e a).value class (class_named s.tables e class).value
    judged_low e (syntax.Qua i a class) placed = qualified_low s N i (judge_side s.tables e a).value class (class_named s.tables e class).value (class_low e class placed.1)
    judged_low e (syntax.This i class) placed = this_low s N e i class (class_named s.tables e class).value (class_low e class placed)
    judged_low e (syntax.New i class es) placed =
        let o = (class_named s.tables e class).value in new_low s N i class o (actuals s.tables e o.denotes no_actuals es).value (class_low e class placed.0)

  -- ---- connections

  around_less : {u k : ℕ} → Around s.tables u k → k ≤ u
  around_less itself = omega arith
  around_less (further {t = u} {u = v} e way) = let one = g.nesting u v e in let rest = around_less way in omega (arith, one, rest)

  type_level : (n : ℕ) (o : Option SimType) (c : ℕ) → LowResult s n o → class_of_type s.tables o ≡ Some c → level_of s c ≤ n
  type_level n (Some (t.Ref class)) c low e = low c e
  type_level n (Some t.Integer) c low e = absurd (cc)
  type_level n (Some t.Boolean) c low e = absurd (cc)
  type_level n (Some t.Character) c low e = absurd (cc)
  type_level n (Some t.Text) c low e = absurd (cc)
  type_level n (Some t.NoneType) c low e = absurd (cc)
  type_level n None c low e = absurd (cc)

  -- what a connection connects, where those around it are so
  one_connects : (k c : ℕ) → is_connection (text s k) ≡ true → base s.tables k ≡ Some c → ((u : ℕ) → encloser s.tables k ≡ Some u → ConnectsNear s of order g known second u) → MetAt s k → level_of s c ≤ suc (level_of s k)
  unfolding next
  one_connects k c is connects near (looked_at u e out placed same) =
      let low = judged_low u (near u out) extent.Statement e placed in
      let level = type_level (suc (level_of s u)) (judge_side s.tables extent.Statement e).value.ty c (side_low s (suc (level_of s u)) (first_of e) (judge s.tables extent.Statement e).value low) (sym same ∙ connects) in
      let here = g.levels_of_connections k u is out in
      omega (arith, level, here)
  one_connects k c is connects near (named_at u x out placed same) =
      let level = named (binding s.tables x.token.0 x.name) refl (sym same ∙ connects) in
      let here = g.levels_of_connections k u is out in
      omega (arith, level, here)
    where
      named : (o : Option Denotation) → binding s.tables x.token.0 x.name ≡ o → class_of_name s.tables o ≡ Some c → level_of s c ≤ suc (level_of s u)
      named None binds e = absurd (cc)
      named (Some (denotation.Standard name)) binds e = absurd (cc)
      named (Some (denotation.Declared d)) binds e = named_level s of order g known second x.token.0 u x.name d c placed binds (row_class s.tables d c e)

  all_connect : (n u : ℕ) → u < n → ConnectsNear s of order g known second u
  all_connect zero u lt = absurd (omega (arith, lt))
  all_connect (suc n) u lt = λ k c way is connects. (
      let le = around_less way in
      one_connects k c is connects (λ v out. (let less = g.nesting k v out in all_connect n v (omega (arith, less, le, lt)))) (connection_met s of order k c is connects))

  pub connects_near : (u : ℕ) → ConnectsNear s of order g known second u
  connects_near u = all_connect (suc u) u (omega arith)

  -- so each expression is so, wherever it stands
  pub expression_low : (u : ℕ) (e : Extent) (x : Expression) → PlacedExpression s.tables u x → LowOutcome s (suc (level_of s u)) (judge s.tables e x).value
  expression_low u e x placed = judged_low u (connects_near u) e x placed
