-- What left sides and assignments are.
use Rattle.std.proofs.Common.{◌≡◌, inl, inr, ◌||◌, not, ℕ, Bool, true, false, List, [], ◌∷◌, Option, Some, None, refl, sym, ap, ◌∙◌, subst, if◌then◌else◌}
use Rattle.std.proofs.lemmas.Bool.{false≢true}
use Rattle.sim_base.specs.declared.numbering.DeclNo.{DeclNo}
use Rattle.sim_base.specs.declared.numbering.TokenNo.{TokenNo}
use Rattle.sim_base.specs.declared.rule.Rule.{Rule}
use Rattle.sim_base.specs.declared.rule.Rule.TheVariants as r
use Rattle.sim_scope.specs.declared.found.Fault.{Fault}
use Rattle.sim_scope.specs.declared.outcome.Extent.TheVariants.{Statement}
use Rattle.sim_scope.specs.declared.outcome.LeftSides.{LeftSides}
use Rattle.sim_scope.specs.declared.outcome.Outcome.{Outcome}
use Rattle.sim_scope.specs.declared.outcome.Outcome.TheVariants as is
use Rattle.sim_scope.specs.declared.outcome.Side.{Side}
use Rattle.sim_scope.specs.declared.standard.StandardName.{StandardName}
use Rattle.sim_scope.specs.declared.types.Entry.{Entry}
use Rattle.sim_scope.specs.declared.types.Entry.TheVariants as entry
use Rattle.sim_scope.specs.declared.types.SimType.{SimType}
use Rattle.sim_scope.specs.declared.types.SimType.TheVariants as t
use Rattle.sim_scope.specs.Actuals.{result_in}
use Rattle.sim_scope.specs.Assignments.{LeftSide, assigned_to, call_assigned, fault_unless, is_text_copied, is_typed, left_side, lefts, no_target, own_result as own_result_assigned, procedure_assigned, result_assigned, side_unless, sign_agrees, standard_assigned, takes, target, targets, types_assigned, value_assigned, with_left}
use Rattle.sim_scope.specs.declared.scopes.Denotation.{Denotation}
use Rattle.sim_scope.specs.declared.scopes.Denotation.TheVariants as denotation
use Rattle.sim_scope.specs.Expressions.{judge}
use Rattle.sim_scope.specs.Found.{fault}
use Rattle.sim_scope.specs.Judged.{Judged, bars, gives, next, telling}
use Rattle.sim_scope.specs.Operators.{misfit_of}
use Rattle.sim_scope.specs.Outcomes.{called, is_stream, side_of}
use Rattle.sim_scope.specs.Scopes.{entry_of, entry_is, is_virtual}
use Rattle.sim_scope.specs.Source.{Source, denoted, type_at}
use Rattle.sim_scope.specs.Standard.{signature}
use Rattle.sim_scope.specs.Tables.{Tables}
use Rattle.sim_tree.specs.declared.stmt.Assignment.{Assignment}
use Rattle.sim_tree.specs.declared.stmt.Assignment.TheVariants as assignment
use Rattle.sim_tree.specs.declared.expr.Identifier.{Identifier}
use Rattle.sim_tree.specs.Syntax.{Expression, Expressions, NoMore, Then, first_of}
use Rattle.sim_tree.specs.Syntax as syntax
use Rattle.sim_meaning.specs.Attributes.{connection_at}
use Rattle.sim_meaning.specs.Closing.{is_text, is_text_type, result_meant, typed_token, left_type, own_match, type_of_left}
use Rattle.sim_meaning.specs.Levels.{qualification}
use Rattle.sim_meaning.specs.Texts.{kind_of_type}
use Rattle.sim_meaning.specs.Virtuals.{text_of_procedure}
use Rattle.virtual_match.specs.Matching.{results_fit}
use Rattle.sim_sound.specs.Held.{Holds, In, Refers, Simply, held_by}
use Rattle.sim_sound.specs.Expressions.{AreIntegers, ExprIs, KnownAt, ObjectHas, PlaceDeclared, PlaceDot, PlaceIs, PlaceNamed}
use Rattle.sim_sound.specs.Statements.{LeftDot, LeftIs, LeftNamed, LeftOf, LeftsAre, NoText, OwnText, ReferenceAt, ResultIs, TextLeft}
use Rattle.sim_agree.specs.Facts.{ProperType, Tabled, ProperResult}
use Rattle.sim_allowed.proofs.Actuals.{Known, both_true, neither}
use Rattle.sim_allowed.proofs.Calls.{called_means}
use Rattle.sim_allowed.proofs.Classes.{class_held, class_qualifies, simply}
use Rattle.sim_allowed.proofs.Matching.{Typed, typed_alike}
use Rattle.sim_allowed.proofs.Meant.{Means, ProcedureIs, SetIs, StandardIs, TypeThere, ValueIs, MatchLeft, NoOwn, VirtualIs}
use Rattle.sim_allowed.proofs.Operators.{no_misfit}
use Rattle.sim_allowed.proofs.Said.{AllSay, next_says}
use Rattle.sim_allowed.proofs.Uses.{left_there, no_match, left_or}

-- ---- a left side

-- a left side of a type, which its sign takes
pub record TargetIs (s : Source) (k : ℕ) (sign : Assignment) (e : Expression) (x : Side) : Type 0 where
  pub ty : SimType
  pub is : x.ty ≡ Some ty
  pub texts : is_text s e ≡ is_text_type (Some ty)
  pub left : LeftOf (is_text_type (Some ty)) sign s k e (kind_of_type ty)

-- a place is a left side
left_denoted : (s : Source) (t : ℕ) (c : Option ℕ) (o : Option Denotation) (es : Expressions) (h : Holds) → PlaceNamed s (In t) c o es (AreIntegers s (In t) es) h → LeftNamed s t c o es (AreIntegers s (In t) es) h
left_denoted s t c None es h a = absurd a
left_denoted s t c (Some (denotation.Standard name)) es h a = absurd a
left_denoted s t c (Some (denotation.Declared d)) es h a = left_there s (KnownAt s (In t) c d) (AreIntegers s (In t) es) (OwnText s t c) es (entry_of s.tables d) h a

left_behind : (s : Source) (t : ℕ) (b : Expression) (o : Option Denotation) (es : Expressions) (h : Holds) → PlaceDot s o (λ c. ExprIs s (In t) b (Refers c)) es (AreIntegers s (In t) es) h → LeftDot s o (λ c. ExprIs s (In t) b (Refers c)) es (AreIntegers s (In t) es) h
left_behind s t b None es h a = absurd a
left_behind s t b (Some (denotation.Standard name)) es h a = absurd a
left_behind s t b (Some (denotation.Declared d)) es h a = left_there s (ObjectHas s (λ c. ExprIs s (In t) b (Refers c)) d) (AreIntegers s (In t) es) NoText es (entry_of s.tables d) h a

-- where something lies is no virtual
no_virtual_place : (s : Source) (Known Indices : Type 0) (es : Expressions) (o : Option Entry) (h : Holds) → PlaceDeclared s Known es Indices o h → entry_is is_virtual o ≡ false
no_virtual_place s K I es None h a = refl
no_virtual_place s K I es (Some (entry.Procedure result k)) h a = refl
no_virtual_place s K I es (Some (entry.Variable type)) h a = refl
no_virtual_place s K I es (Some (entry.Constant type)) h a = refl
no_virtual_place s K I es (Some (entry.Array type m)) h a = refl
no_virtual_place s K I es (Some (entry.Class k)) h a = refl
no_virtual_place s K I NoMore (Some (entry.Virtual result own)) h a = absurd a
no_virtual_place s K I (Then e es) (Some (entry.Virtual result own)) h a = absurd a
no_virtual_place s K I es (Some (entry.Formal f)) h a = refl
no_virtual_place s K I es (Some (entry.Unspecified w)) h a = refl
no_virtual_place s K I es (Some (entry.Attribute name w result)) h a = refl

place_no_match : (s : Source) (t : ℕ) (x : Identifier) (es : Expressions) (o : Option Denotation) (h : Holds) → denoted s x.token.0 ≡ o → PlaceNamed s (In t) (connection_at s x.token.0) o es (AreIntegers s (In t) es) h → own_match s (syntax.Named x es) ≡ None
place_no_match s t x es None h says a = absurd a
place_no_match s t x es (Some (denotation.Standard name)) h says a = absurd a
place_no_match s t x es (Some (denotation.Declared d)) h says a = no_match s x d es says (no_virtual_place s (KnownAt s (In t) (connection_at s x.token.0) d) (AreIntegers s (In t) es) es (entry_of s.tables d) h a)

pub place_is_left : (s : Source) (t : ℕ) (e : Expression) (h : Holds) → PlaceIs s (In t) e h → LeftIs s t e h
place_is_left s t (syntax.Named x es) h a =
    left_or s t (connection_at s x.token.0) (text_of_procedure s (own_match s (syntax.Named x es))) h (LeftNamed s t (connection_at s x.token.0) (denoted s x.token.0) es (AreIntegers s (In t) es) h)
    (ap (text_of_procedure s) (place_no_match s t x es (denoted s x.token.0) h refl a)) (left_denoted s t (connection_at s x.token.0) (denoted s x.token.0) es h a)
place_is_left s t (syntax.Dot i b x es) h a = left_behind s t b (denoted s x.token.0) es h a
place_is_left s t (syntax.If i a b c) h f = absurd f
place_is_left s t (syntax.Binary o i a b) h f = absurd f
place_is_left s t (syntax.Not i a) h f = absurd f
place_is_left s t (syntax.Signed o i a) h f = absurd f
place_is_left s t (syntax.Member m i a class) h f = absurd f
place_is_left s t (syntax.Qua i a class) h f = absurd f
place_is_left s t (syntax.Constant l i) h f = absurd f
place_is_left s t (syntax.This i class) h f = absurd f
place_is_left s t (syntax.New i class es) h f = absurd f
place_is_left s t (syntax.Parentheses i a) h f = absurd f

-- a variable, or the result of a procedure
pub record Assignable (s : Source) (k : ℕ) (e : Expression) (ty : SimType) : Type 0 where
  pub proper : ProperType s ty
  pub typed : left_type s e ≡ Some ty
  pub left : LeftIs s k e (held_by s ty)
  pub text : ty ≡ t.Text → TextLeft s k e (result_meant s e)
  pub reference : (d : DeclNo) → ty ≡ t.Ref d → (class : ℕ) → held_by s (t.Ref d) ≡ Refers class → ReferenceAt s k e (result_meant s e) class

-- what is the result of no match has the type of its token
pub left_typed : (s : Source) (e : Expression) (ty : SimType) → own_match s e ≡ None → type_at s (typed_token e) ≡ Some ty → left_type s e ≡ Some ty
left_typed s e ty none typed = ap (λ m. type_of_left s m (type_at s (typed_token e))) none ∙ typed

left_of : (s : Source) (k : ℕ) (sign : Assignment) (e : Expression) (ty : SimType) → Assignable s k e ty → takes sign ty ≡ true → LeftOf (is_text_type (Some ty)) sign s k e (kind_of_type ty)
left_of s k assignment.Value e t.Integer l h = ((λ q. cc), l.left)
left_of s k assignment.Value e t.Boolean l h = ((λ q. cc), l.left)
left_of s k assignment.Value e t.Character l h = ((λ q. cc), l.left)
left_of s k assignment.Value e t.Text l h = (refl, l.text refl)
left_of s k assignment.Reference e t.Text l h = ((λ q. cc), l.left)
left_of s k assignment.Reference e (t.Ref d) l h =
    let c = l.proper in (refl, record { class = c.block; qualified = ap (qualification s) l.typed ∙ class_qualifies s d c; at = l.reference d refl c.block (class_held s d c) })
left_of s k assignment.Reference e t.Integer l h = absurd (false≢true h)
left_of s k assignment.Reference e t.Boolean l h = absurd (false≢true h)
left_of s k assignment.Reference e t.Character l h = absurd (false≢true h)
left_of s k assignment.Value e (t.Ref d) l h = absurd (false≢true h)
left_of s k sign e t.NoneType l h = absurd l.proper

-- where no rule is broken, the sign takes the type, and the left side is a variable
record Targeted (sign : Assignment) (first : ℕ) (variable : Bool) (ty : SimType) : Type 0 where
  taken : takes sign ty ≡ true
  same : variable ≡ true
  is : (targets sign first variable ty).value ≡ side_of first (Some ty)

-- the two rules on a left side, of whether each is kept
abbrev both_kept : (first : ℕ) → SimType → (taken variable : Bool) → Judged Side
both_kept first ty b v = next (bars (not b) first r.WrongType) (λ a. next (bars (not v) first r.LeftSideIsNoVariable) (λ c. side_unless first ty (a || c)))

targeted : (s : Source) (sign : Assignment) (first : ℕ) (variable : Bool) (ty : SimType) → AllSay s (targets sign first variable ty).events → Targeted sign first variable ty
unfolding targets bars next gives telling
targeted s sign first variable ty said = go (takes sign ty) variable refl refl said
  where
    go : (b v : Bool) → takes sign ty ≡ b → variable ≡ v → AllSay s (both_kept first ty b v).events → Targeted sign first variable ty
    go true true taken same said =
        record { taken = taken; same = same; is = ap (λ z. (both_kept first ty z variable).value) taken ∙ ap (λ z. (both_kept first ty true z).value) same }
    go true false taken same said = absurd said.0
    go false v taken same said = absurd said.0

module _ (s : Source) (known : Tabled s) (k : ℕ) (e : Expression) (sign : Assignment) (first : ℕ) where
  -- a left side that is judged by itself
  target_of : (variable : Bool) (ty : SimType) → is_text s e ≡ is_text_type (Some ty) → (takes sign ty ≡ true → variable ≡ true → LeftOf (is_text_type (Some ty)) sign s k e (kind_of_type ty))
      → AllSay s (targets sign first variable ty).events → TargetIs s k sign e (targets sign first variable ty).value
  target_of variable ty texts left said =
      let h = targeted s sign first variable ty said in
      record { ty = ty; is = ap (λ (z : Side). z.ty) h.is; texts = texts; left = left h.taken h.same }

  -- a text that is assigned to, and is no result
  text_value : (ty : SimType) → ValueIs s (In k) e ty → NoOwn s e → AllSay s (value_assigned sign first ty).events → TargetIs s k sign e (value_assigned sign first ty).value
  text_value ty v own said = target_of (is_text_copied sign ty) ty v.texts (copied sign ty v) said
    where
      copied : (g : Assignment) (b : SimType) → ValueIs s (In k) e b → takes g b ≡ true → is_text_copied g b ≡ true → LeftOf (is_text_type (Some b)) g s k e (kind_of_type b)
      copied assignment.Value t.Text v taken copy = (refl, subst (λ z. TextLeft s k e z) (sym own.0) (simply s (In k) e t.Text v))
      copied assignment.Value t.Integer v taken copy = absurd (false≢true copy)
      copied assignment.Value t.Boolean v taken copy = absurd (false≢true copy)
      copied assignment.Value t.Character v taken copy = absurd (false≢true copy)
      copied assignment.Value (t.Ref d) v taken copy = absurd (false≢true copy)
      copied assignment.Value t.NoneType v taken copy = absurd (false≢true copy)
      copied assignment.Reference b v taken copy = absurd (false≢true copy)

  -- what is assigned to, where no procedure is
  variable_left : (ty : SimType) → ValueIs s (In k) e ty → ProperType s ty → PlaceIs s (In k) e (held_by s ty) → NoOwn s e → AllSay s (targets sign first true ty).events → TargetIs s k sign e (targets sign first true ty).value
  variable_left ty v proper place own said =
      target_of true ty v.texts (λ taken is. left_of s k sign e ty (record {
        proper = proper;
        typed = left_typed s e ty own.1 v.typed;
        left = place_is_left s k e (held_by s ty) place;
        text = λ is. subst (λ z. TextLeft s k e z) (sym own.0) (subst (λ z. ExprIs s (In k) e (Simply (kind_of_type z))) is (simply s (In k) e ty v));
        reference = λ d is class held. subst (λ z. ReferenceAt s k e z class) (sym own.0) (subst (λ z. PlaceIs s (In k) e z) (ap (held_by s) is ∙ held) place);
      }) taken) said

  -- no declared constant
  no_variable : (ty : SimType) → AllSay s (targets sign first false ty).events → ⊥
  no_variable ty said = false≢true (targeted s sign first false ty said).same

  assigned_is : (o : Outcome) → Means false s (In k) e o → (NoOwn s e) → AllSay s (assigned_to sign first o).events → TargetIs s k sign e (assigned_to sign first o).value
  unfolding assigned_to no_target gives telling
  assigned_is (is.Variable ty) m own said = variable_left ty m.0 m.1 m.2 own said
  assigned_is (is.Value ty) m own said = text_value ty m.0 own said
  assigned_is (is.Called ty) m own said = text_value ty m.0 own said
  assigned_is (is.Constant ty) m own said = absurd (no_variable ty said)
  assigned_is (is.Array ty) m own said = absurd said.0
  assigned_is is.Class m own said = absurd said.0
  assigned_is (is.Barred b) m own said = absurd m
  assigned_is is.NoValue m own said = absurd said.0
  assigned_is is.NoValueInParentheses m own said = absurd said.0
  assigned_is is.Refused m own said = absurd m
  assigned_is (is.Procedure d token o) m own said = absurd m
  assigned_is (is.Standard name token) m own said = absurd m

  -- the value of a call
  call_is : (o : Outcome) → Means true s (In k) e o → NoOwn s e → AllSay s (call_assigned s.tables sign first o).events → TargetIs s k sign e (call_assigned s.tables sign first o).value
  unfolding call_assigned next
  call_is o m own said =
      let parts = next_says s (called s.tables o) (assigned_to sign first) said in
      assigned_is (called s.tables o).value (called_means s known (In k) e o m parts.0) own parts.1

  result_is : (o : Outcome) → Means true s (In k) e o → NoOwn s e → (w : Option SimType) → AllSay s (result_assigned s.tables sign first o w).events → TargetIs s k sign e (result_assigned s.tables sign first o w).value
  unfolding no_target telling
  result_is o m own None said = absurd said.0
  result_is o m own (Some ty) said = go (is_text_copied sign ty) said
    where
      go : (b : Bool) → AllSay s (if b then call_assigned s.tables sign first o else targets sign first false ty).events → TargetIs s k sign e (if b then call_assigned s.tables sign first o else targets sign first false ty).value
      go true said = call_is o m own said
      go false said = absurd (no_variable ty said)

  standard_is : (name : StandardName) (token : TokenNo) → StandardIs s (In k) e name → AllSay s (standard_assigned s.tables sign first (is.Standard name token) name).events → TargetIs s k sign e (standard_assigned s.tables sign first (is.Standard name token) name).value
  standard_is name token m said = go (is_stream name) said
    where
      go : (b : Bool) → AllSay s (if b then call_assigned s.tables sign first (is.Standard name token) else result_assigned s.tables sign first (is.Standard name token) (signature name).result).events
          → TargetIs s k sign e (if b then call_assigned s.tables sign first (is.Standard name token) else result_assigned s.tables sign first (is.Standard name token) (signature name).result).value
      go true said = call_is (is.Standard name token) m m.unowned said
      go false said = result_is (is.Standard name token) m m.unowned (signature name).result said

  -- the result of a procedure is that of its identifier, inside its text
  result_left : (d q : DeclNo) (p : ProcedureIs s (In k) e d (Some q)) (w : Option SimType) → p.result ≡ w → AllSay s (own_result_assigned sign first w).events → TargetIs s k sign e (own_result_assigned sign first w).value
  unfolding no_target telling
  result_left d q p None same said = absurd said.0
  result_left d q p (Some ty) same said =
      let own = p.inside in
      let both = own.3 ty same in
      target_of true ty there.1 (λ taken is. left_of s k sign e ty (record {
        proper = there.0;
        typed = left_typed s e ty own.2 there.3;
        left = both.0;
        text = λ is. subst (λ z. TextLeft s k e z) (sym own.1) (subst (λ z. ResultIs s k p.block (held_by s z)) is both.1);
        reference = λ c is class held. subst (λ z. ReferenceAt s k e z class) (sym own.1) (subst (λ z. ResultIs s k p.block z) (ap (held_by s) is ∙ held) both.1);
      }) taken) said
    where
      there : TypeThere s e (Some ty)
      there = subst (λ z. TypeThere s e z) same p.typed

  procedure_is : (d : DeclNo) (token : TokenNo) (own : Option DeclNo) → ProcedureIs s (In k) e d own
      → AllSay s (procedure_assigned s.tables sign first (is.Procedure d token own) d own).events → TargetIs s k sign e (procedure_assigned s.tables sign first (is.Procedure d token own) d own).value
  procedure_is d token (Some q) p said =
      subst (λ z. TargetIs s k sign e (own_result_assigned sign first (result_in z)).value) (sym there)
      (result_left d q p p.result refl (subst (λ z. AllSay s (own_result_assigned sign first (result_in z)).events) there said))
    where
      same : q ≡ d
      same = let own = p.inside in own.0

      there : entry_of s.tables q ≡ Some (entry.Procedure p.result p.block)
      there = ap (entry_of s.tables) same ∙ p.declared
  procedure_is d token None p said = result_is (is.Procedure d token None) (inl p) p.inside (result_in (entry_of s.tables d)) said

  -- the result of a match is that of the identifier of its virtual, inside its text
  match_left : (result : Option SimType) (q : DeclNo) (m : MatchLeft s k e result q) → ProperResult s result → TypeThere s e result → (w : Option SimType) → m.there.given ≡ w → AllSay s (own_result_assigned sign first w).events → TargetIs s k sign e (own_result_assigned sign first w).value
  unfolding no_target telling
  match_left result q m p there None same said = absurd said.0
  match_left result q m p there (Some ty) same said =
      let both = m.left ty same in
      target_of true ty texts (λ taken is. left_of s k sign e ty (record {
        proper = own;
        typed = m.typed ∙ same;
        left = both.0;
        text = λ is. subst (λ z. TextLeft s k e z) (sym m.meant) (subst (λ z. ResultIs s k m.there.block (held_by s z)) is both.1);
        reference = λ c is class held. subst (λ z. ReferenceAt s k e z class) (sym m.meant) (subst (λ z. ResultIs s k m.there.block z) (ap (held_by s) is ∙ held) both.1);
      }) taken) said
    where
      own : ProperType s ty
      own = subst (ProperResult s) same (known.proper q (entry.Procedure m.there.given m.there.block) m.there.declares)

      like : Typed s result ty
      like = typed_alike s result ty p own (subst (λ z. results_fit s.tables result z ≡ true) same m.there.fits)

      typed : TypeThere s e (Some like.wanted_type)
      typed = subst (λ z. TypeThere s e z) like.is there

      texts : is_text s e ≡ is_text_type (Some ty)
      texts = typed.1 ∙ like.texts

  virtual_is : (d : DeclNo) (token : TokenNo) (own : Option DeclNo) → VirtualIs s (In k) e d own
      → AllSay s (procedure_assigned s.tables sign first (is.Procedure d token own) d own).events → TargetIs s k sign e (procedure_assigned s.tables sign first (is.Procedure d token own) d own).value
  virtual_is d token (Some q) p said =
      subst (λ z. TargetIs s k sign e (own_result_assigned sign first (result_in z)).value) (sym there)
      (match_left p.result q p.inside p.proper p.typed m.there.given refl (subst (λ z. AllSay s (own_result_assigned sign first (result_in z)).events) there said))
    where
      m : MatchLeft s k e p.result q
      m = p.inside

      there : entry_of s.tables q ≡ Some (entry.Procedure m.there.given m.there.block)
      there = m.there.declares
  virtual_is d token None p said = result_is (is.Procedure d token None) (inr (inr p)) p.inside (result_in (entry_of s.tables d)) said

  -- a procedure of SIMSET is no left side
  set_is : (d : DeclNo) (token : TokenNo) (own : Option DeclNo) → SetIs s (In k) e d own
      → AllSay s (procedure_assigned s.tables sign first (is.Procedure d token own) d own).events → TargetIs s k sign e (procedure_assigned s.tables sign first (is.Procedure d token own) d own).value
  set_is d token (Some q) p said = absurd (let f : Some q ≡ None = p.no_own in cc)
  set_is d token None p said = result_is (is.Procedure d token None) (inr (inl p)) p.unowned (result_in (entry_of s.tables d)) said

  pub target_is : (o : Outcome) → Means true s (In k) e o → AllSay s (target s.tables sign first o).events → TargetIs s k sign e (target s.tables sign first o).value
  unfolding target assigned_to no_target gives telling
  target_is (is.Procedure d token own) (inl p) said = procedure_is d token own p said
  target_is (is.Procedure d token own) (inr (inl p)) said = set_is d token own p said
  target_is (is.Procedure d token own) (inr (inr p)) said = virtual_is d token own p said
  target_is (is.Standard name token) m said = standard_is name token m said
  target_is (is.Variable ty) m said = variable_left ty m.0 m.1 m.2 m.3 said
  target_is (is.Value ty) m said = text_value ty m.0 m.1 said
  target_is (is.Called ty) m said = text_value ty m.0 m.2 said
  target_is (is.Constant ty) m said = absurd (no_variable ty said)
  target_is (is.Array ty) m said = absurd said.0
  target_is is.Class m said = absurd said.0
  target_is (is.Barred b) m said = absurd m
  target_is is.NoValue m said = absurd said.0
  target_is is.NoValueInParentheses m said = absurd said.0
  target_is is.Refused m said = absurd m

-- ---- all of them

abbrev pub TargetsKnown : Source → (block : ℕ) → List LeftSide → Type 0
TargetsKnown s k [] = Unit {0}
TargetsKnown s k (l ∷ ls) = Known s (In k) Statement l.target × TargetsKnown s k ls

no_fault : (f : Fault) → Some f ≡ None → ⊥
no_fault f e = cc

-- where no type is a misfit, the value has the kind of the left side
fits_left : (s : Tables) (v : Side) (a b : SimType) → types_assigned s v (Some a) (Some b) ≡ None → kind_of_type b ≡ kind_of_type a
fits_left s v a b e = go (misfit_of s a b) refl e
  where
    go : (n : Option Rule) → misfit_of s a b ≡ n → fault_unless v.first.0 n ≡ None → kind_of_type b ≡ kind_of_type a
    go None n e = no_misfit s a b n
    go (Some rule) n e = absurd (no_fault (fault v.first.0 rule) e)

pub record AllLefts (s : Source) (k : ℕ) (ls : List LeftSide) (ty : SimType) (a b : LeftSides) : Type 0 where
  pub typed : a.typed ≡ true → b.typed ≡ true
  pub lefts : b.misfit ≡ None → (a.misfit ≡ None) × LeftsAre s k ls (kind_of_type ty)

pub lefts_are : (s : Source) → Tabled s → (k : ℕ) (first : Assignment) (v : Side) (ty : SimType) → v.ty ≡ Some ty → (ls : List LeftSide) → TargetsKnown s k ls → (a : LeftSides) → AllSay s (lefts s.tables first v a ls).events
    → AllLefts s k ls ty a (lefts s.tables first v a ls).value
unfolding lefts gives next with_left
lefts_are s known k first v ty is [] all a said = record { typed = λ h. h; lefts = λ h. (h, tt) }
lefts_are s known k first v ty is (l ∷ ls) all a said =
    let parts = next_says s (left_side s.tables first l) (λ x. lefts s.tables first v (with_left s.tables v a x) ls) said in
    let inner = next_says s (sign_agrees first l.sign l.token) (λ n. next (judge s.tables Statement l.target) (target s.tables l.sign (first_of l.target))) parts.0 in
    let own = next_says s (judge s.tables Statement l.target) (target s.tables l.sign (first_of l.target)) inner.1 in
    let o = (judge s.tables Statement l.target).value in
    let y = target_is s known k l.target l.sign (first_of l.target) o (all.0 own.0) own.1 in
    let x = (target s.tables l.sign (first_of l.target) o).value in
    let b = with_left s.tables v a x in
    let rest = lefts_are s known k first v ty is ls all.1 b parts.1 in
    record {
      typed = λ h. rest.typed (both_true a.typed (is_typed x.ty) h (subst (λ z. is_typed z ≡ true) (sym y.is) refl));
      lefts = λ h. (let r = rest.lefts h in let m = neither a.misfit (types_assigned s.tables v x.ty v.ty) r.0 in
          let f = fits_left s.tables v y.ty ty (subst (λ z. types_assigned s.tables v (Some y.ty) z ≡ None) is (subst (λ z. types_assigned s.tables v z v.ty ≡ None) y.is m.1)) in
          (m.0, (subst (λ z. LeftOf z l.sign s k l.target (kind_of_type ty)) (sym y.texts) (subst (λ z. LeftOf (is_text_type (Some y.ty)) l.sign s k l.target z) (sym f) y.left), r.1)));
    }
