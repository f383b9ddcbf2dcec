-- The left sides of a typed assignment: cells of instances, and fine trees of addresses.
use Rattle.std.proofs.Common.{◌≡◌, ℕ, Bool, true, false, [], Option, Some, None, refl, sym, ap, ◌∙◌, subst}
use Rattle.sim_base.specs.declared.numbering.DeclNo.{DeclNo}
use Rattle.sim_scope.specs.declared.scopes.Denotation.{Denotation}
use Rattle.sim_scope.specs.declared.scopes.Denotation.TheVariants as denotation
use Rattle.sim_scope.specs.declared.types.Entry.{Entry}
use Rattle.sim_scope.specs.declared.types.Entry.TheVariants as entry
use Rattle.sim_scope.specs.declared.types.FormalKind.{FormalKind}
use Rattle.sim_scope.specs.declared.types.FormalKind.TheVariants as shape
use Rattle.sim_scope.specs.declared.types.Mode.{Mode}
use Rattle.sim_scope.specs.declared.types.Mode.TheVariants as mode
use Rattle.sim_scope.specs.declared.types.SimType.{SimType}
use Rattle.sim_scope.specs.Calls.{is_inside, match_seen, own_of}
use Rattle.sim_scope.specs.Scopes.{entry_is, entry_of, is_virtual}
use Rattle.sim_scope.specs.Source.{Source, block_of, denoted, level_of, line_at}
use Rattle.sim_tree.specs.declared.stmt.Assignment.{Assignment}
use Rattle.sim_tree.specs.declared.stmt.Assignment.TheVariants as assignment
use Rattle.sim_tree.specs.declared.expr.Identifier.{Identifier}
use Rattle.sim_tree.specs.declared.stmt.TypeName.{TypeName}
use Rattle.sim_tree.specs.Syntax.{Expression, Expressions, Heading, NoMore, Statement, Then}
use Rattle.sim_tree.specs.Syntax as syntax
use Rattle.sim_values.specs.declared.kind.Kind.{Kind}
use Rattle.sim_values.specs.declared.kind.Kind.TheVariants as kind
use Rattle.sim_code.specs.Instances.{at_level}
use Rattle.sim_meaning.specs.Attributes.{connection_at, declared_attribute, qualified, qualified_place}
use Rattle.sim_meaning.specs.Closing as closing
use Rattle.sim_meaning.specs.Closing.{Left, LeftAddress, LeftCell, LeftNamed as NamedLeft, LeftReference, LeftText, NoLeftSide, array_left, block_if, by_name, class_of_formal, close, close_all, close_left_of, close_place, declared_left, formal_by_name, formal_left, home_of, in_instance, is_virtual_denoted, left_found, left_in, left_plain, left_variable, match_if_virtual, match_left, name_denoted, name_term, named_formal, named_left, named_text, own_block, own_block_denoted, own_match, own_result, reference_left, reference_place, result_left, result_meant, result_or, result_or_own, result_place, unless_connected, variable_left, named_array_left}
use Rattle.sim_meaning.specs.Levels.{has_levels, qualification}
use Rattle.sim_meaning.specs.Pending.{Cell, Declared, ElementOf, ForPlace, Instances, PlaceOf, Result, ValueAt, ForValue, NamedOf}
use Rattle.sim_meaning.specs.Texts.{ProcedureText, kind_of_type, text}
use Rattle.sim_meaning.specs.Virtuals.{procedure_text, text_of_procedure}
use Rattle.sim_sound.specs.Held.{ArrayOf, Around, Holds, In, Refers, Sees, Simply, declared_holds, entry_holds, entry_names, formal_holds, held_by, result_holds, ByName, formal_means}
use Rattle.sim_sound.specs.Expressions.{AreIntegers, ExprIs, KnownAt, LeftHeld, ObjectHas}
use Rattle.sim_sound.specs.Statements.{LeftDeclared, LeftDot, LeftIs, LeftNamed, LeftOf, LeftResultOr, NoText, OwnText, ReferenceAt, ReferenceLeft, ResultIs, TextLeft}
use Rattle.sim_sound.specs.Typed.{ResultWritten, Typed}
use Rattle.sim_sound.proofs.Attributes.{held_of_kind, held_plain, held_qualified, holds_result, left_variable_is, no_left_variable}
use Rattle.sim_sound.proofs.Closing.{expr_fine, integers_fine}
use Rattle.sim_sound.proofs.Passed.{target_of}
use Rattle.sim_sound.proofs.Places.{UseOf, dot_held, dot_no_name, left_held, more_no_name, name_used, named_alone, named_held, named_place_is, no_name, place_choice, place_is, qualified_fine, text_used}
use Rattle.sim_sound.proofs.Reach.{Reaches, ReachesText, key_of_result, reaches_in, text_in as around_text}
use Rattle.sim_sound.proofs.Running.{StoreFine}
use Rattle.sim_sound.proofs.Sound.{TakesValue, in_instance as at_cell, IntegersFine, simple, TermFine}
use Rattle.sim_sound.proofs.Values.{Stands, Whichever, in_text, AddressOf, AllArrays, CellTarget, IsPlain, KeyAmong, keys_in, Kinds, ReferenceAddress, Value, Whole}

module _ (s : Source) (ok : Typed s) (o : AllArrays) (m : Instances) (store : StoreFine s o m) (i t u : ℕ) (here : Whole s m i u) where
  abbrev pub LeftFine : Left → Kind → Type 0
  LeftFine (LeftCell j key) k = CellTarget s m i j key (Simply k)
  LeftFine (LeftAddress x) k = (y : Kinds) × TakesValue (Simply k) y × TermFine s m i t [] x (Some y)
  LeftFine (LeftText line x) k = (k ≡ kind.Text) × TermFine s m i t [] x (simple kind.Text)
  LeftFine (LeftReference line x) k = (k ≡ kind.Reference) × (c : ℕ) × TermFine s m i t [] x (Some (ReferenceAddress c))
  LeftFine (NamedLeft c line x) k = (k ≡ kind.Reference) × TermFine s m i t [] x (Some (Whichever false kind.Reference))
  LeftFine NoLeftSide k = ⊥

  -- a left side that is no parameter by name
  abbrev pub PlainLeft : Left → Kind → Type 0
  PlainLeft (LeftCell j key) k = CellTarget s m i j key (Simply k)
  PlainLeft (LeftAddress x) k = TermFine s m i t [] x (Some (AddressOf (Simply k)))
  PlainLeft _ k = ⊥

  plain_left : (x : Left) (k : Kind) → PlainLeft x k → LeftFine x k
  plain_left (LeftCell j key) k a = a
  plain_left (LeftAddress x) k a = (AddressOf (Simply k), refl, a)
  plain_left _ k a = absurd a

  at : Stands s m i (In u)
  at = in_text here

  reach : Reaches s m i (In u)
  reach = reaches_in s ok o m store i u here

  around : ReachesText s m i (In u)
  around = around_text s ok o m store i u here

  found_left : (x : Option ℕ) (j : ℕ) (f : ℕ → Left) (k : Kind) → x ≡ Some j → PlainLeft (f j) k → PlainLeft (left_in x f) k
  found_left x j f k e a = subst (λ y. PlainLeft (left_in y f) k) (sym e) a

  ints : (es : Expressions) → AreIntegers s (In u) es → IntegersFine s m i t [] (close_all s m i es)
  ints es a = integers_fine s ok o m store i t [] (In u) at es a

  value : (e : Expression) (h : Holds) → ExprIs s (In u) e h → TermFine s m i t [] (close s m i e) (Some (Value h))
  value e h a = expr_fine s ok o m store i t [] (In u) at e h a

  -- ---- cells

  variable_is : (d : DeclNo) (es : Expressions) (Indices : Type 0) (held : Holds) (k : Kind) → IsPlain held → declared_holds s (block_of s d) d ≡ Some held → LeftHeld (Sees s (In u) d) es Indices (Some held) (Simply k) → PlainLeft (variable_left s m i d es) k
  variable_is d NoMore Indices held k plain e a =
      let x = left_variable_is (Sees s (In u) d) Indices held (Simply k) plain a in
      let y = reach d x.1 in
      found_left (home_of s m i d) y.instance (λ j. LeftCell j (Declared d.0)) k y.found (target_of s ok m i d (Simply k) y (e ∙ ap Some x.0))
  variable_is d (Then y ys) Indices held k plain e a = absurd (no_left_variable (Sees s (In u) d) Indices y ys held (Simply k) plain a)

  array_is : (d : DeclNo) (line : ℕ) (es : Expressions) (q : Holds) (k : Kind) → declared_holds s (block_of s d) d ≡ Some (ArrayOf q) → LeftHeld (Sees s (In u) d) es (AreIntegers s (In u) es) (Some (ArrayOf q)) (Simply k) → PlainLeft (array_left s m i line d es) k
  array_is d line NoMore q k e a = absurd a
  array_is d line (Then z es) q k e a =
      let y = reach d a.1 in
      let same : Some (AddressOf q) ≡ Some (AddressOf (Simply k)) = ap (λ z. Some (AddressOf z)) a.0 in
      found_left (home_of s m i d) y.instance (λ j. LeftAddress (ElementOf line (Cell j (Declared d.0)) (close_all s m i (Then z es)))) k y.found
      (q, same, (ArrayOf q, (ArrayOf q, refl, refl), at_cell (target_of s ok m i d (ArrayOf q) y e)), ints (Then z es) a.2)

  named_array_is : (d : DeclNo) (line : ℕ) (es : Expressions) (q : Holds) (k : Kind) → declared_holds s (block_of s d) d ≡ Some (ByName (ArrayOf q)) → LeftHeld (Sees s (In u) d) es (AreIntegers s (In u) es) (Some (ArrayOf q)) (Simply k) → PlainLeft (named_array_left s m i line d es) k
  named_array_is d line NoMore q k e a = absurd a
  named_array_is d line (Then z es) q k e a =
      let y = reach d a.1 in
      let same : Some (AddressOf q) ≡ Some (AddressOf (Simply k)) = ap (λ z. Some (AddressOf z)) a.0 in
      subst (λ x. TermFine s m i t [] (in_instance x (λ j. ElementOf line (NamedOf j (Declared d.0) (ForValue None line)) (close_all s m i (Then z es)))) (Some (AddressOf (Simply k)))) (sym y.found)
      (q, same, (ArrayOf q, Value (ArrayOf q), refl, refl, at_cell (target_of s ok m i d (ByName (ArrayOf q)) y e)), ints (Then z es) a.2)

  formal_is : (d : DeclNo) (f : Mode) (g : FormalKind) (ty : Option SimType) (line : ℕ) (es : Expressions) (k : Kind) → declared_holds s (block_of s d) d ≡ formal_holds s f g ty → named_formal f g d ≡ None → LeftHeld (Sees s (In u) d) es (AreIntegers s (In u) es) (formal_means s g ty) (Simply k) → PlainLeft (formal_left s m i line d f g es) k
  formal_is d mode.ByName shape.Simple ty line es k e other a = absurd (cc)
  formal_is d mode.ByValue shape.Simple (Some ty) line es k e other a = variable_is d es (AreIntegers s (In u) es) (held_by s ty) k (held_plain s ty) e a
  formal_is d mode.ByReference shape.Simple (Some ty) line es k e other a = variable_is d es (AreIntegers s (In u) es) (held_by s ty) k (held_plain s ty) e a
  formal_is d mode.ByValue shape.Array (Some ty) line es k e other a = array_is d line es (held_by s ty) k e a
  formal_is d mode.ByReference shape.Array (Some ty) line es k e other a = array_is d line es (held_by s ty) k e a
  formal_is d mode.ByName shape.Array (Some ty) line es k e other a = named_array_is d line es (held_by s ty) k e a
  formal_is d f shape.Procedure ty line NoMore k e other a = absurd a
  formal_is d f shape.Procedure ty line (Then z es) k e other a = absurd a
  formal_is d mode.ByValue shape.Simple None line NoMore k e other a = absurd a
  formal_is d mode.ByValue shape.Simple None line (Then z es) k e other a = absurd a
  formal_is d mode.ByReference shape.Simple None line NoMore k e other a = absurd a
  formal_is d mode.ByReference shape.Simple None line (Then z es) k e other a = absurd a
  formal_is d f shape.Array None line NoMore k e other a = absurd a
  formal_is d f shape.Array None line (Then z es) k e other a = absurd a

  -- the result of a procedure from its inside
  result_target : (d : DeclNo) (ty : SimType) (block : ℕ) (h : Holds) → entry_of s.tables d ≡ Some (entry.Procedure (Some ty) block) → held_by s ty ≡ h → Around s.tables u block → (j : ℕ) × (at_level m (level_of s block) i ≡ Some j) × CellTarget s m i j Result h
  result_target d ty block h e same inside =
      let x = around block inside in
      let p = ok.procedures d (Some ty) block e in
      let holds : result_holds s block ≡ Some (held_by s ty) = holds_result s ok d (Some ty) block e in (
        x.instance,
        x.found,
        record {
          around = block;
          near = x.near;
          todo = [];
          here = x.whole;
          ready = λ c f a. absurd (cc);
          holds = holds ∙ ap Some same;
          there = by_type p.given (subst (ResultWritten p.given) holds (ok.texts block (ProcedureText p.given p.heading p.body) p.is).result) p.is;
        },
      )
    where
      by_type : (given : Option TypeName) → ResultWritten given (Some (held_by s ty)) → {g : Heading} {a : Statement} → text s block ≡ Some (ProcedureText given g a) → KeyAmong Result (keys_in s block (text s block))
      by_type None f is = absurd f
      by_type (Some name) f {g = g} {a = a} is = key_of_result s block name g a is

  result_is : (d : DeclNo) (ty : SimType) (block : ℕ) (k : Kind) → entry_of s.tables d ≡ Some (entry.Procedure (Some ty) block) → held_by s ty ≡ Simply k → Around s.tables u block → PlainLeft (result_left s m i block NoMore) k
  result_is d ty block k e same inside = let x = result_target d ty block (Simply k) e same inside in found_left (at_level m (level_of s block) i) x.0 (λ j. LeftCell j Result) k x.1 x.2

  declared_is : (d : DeclNo) (line : ℕ) (es : Expressions) (e : Option Entry) (k : Kind) → entry_of s.tables d ≡ e → (LeftHeld (Sees s (In u) d) es (AreIntegers s (In u) es) (entry_names s e) (Simply k) → formal_by_name d e ≡ None) → LeftDeclared s (Sees s (In u) d) (OwnText s u None) es (AreIntegers s (In u) es) e (Simply k) → PlainLeft (declared_left s m i line d e es) k
  declared_is d line NoMore (Some (entry.Procedure (Some ty) block)) k e other a = result_is d ty block k e a.0 a.1
  declared_is d line NoMore (Some (entry.Procedure None block)) k e other a = absurd a
  declared_is d line (Then x es) (Some (entry.Procedure result block)) k e other a = absurd a
  declared_is d line NoMore (Some (entry.Variable ty)) k e other a = variable_is d NoMore (AreIntegers s (In u) NoMore) (held_by s ty) k (held_plain s ty) (ap (entry_holds s (has_levels (text s (block_of s d)))) e) a
  declared_is d line (Then x es) (Some (entry.Variable ty)) k e other a = variable_is d (Then x es) (AreIntegers s (In u) (Then x es)) (held_by s ty) k (held_plain s ty) (ap (entry_holds s (has_levels (text s (block_of s d)))) e) a
  declared_is d line NoMore (Some (entry.Array ty n)) k e other a = absurd a
  declared_is d line (Then x es) (Some (entry.Array ty n)) k e other a = array_is d line (Then x es) (held_by s ty) k (ap (entry_holds s (has_levels (text s (block_of s d)))) e) a
  declared_is d line NoMore (Some (entry.Formal f)) k e other a = formal_is d f.mode f.kind f.ty line NoMore k (ap (entry_holds s (has_levels (text s (block_of s d)))) e) (other a) a
  declared_is d line (Then x es) (Some (entry.Formal f)) k e other a = formal_is d f.mode f.kind f.ty line (Then x es) k (ap (entry_holds s (has_levels (text s (block_of s d)))) e) (other a) a
  declared_is d line NoMore None k e other a = absurd a
  declared_is d line (Then x es) None k e other a = absurd a
  declared_is d line NoMore (Some _) k e other a = absurd a
  declared_is d line (Then x es) (Some _) k e other a = absurd a

  -- ---- places

  own_none : (c : ℕ) (k : ℕ) → OwnText s u (Some c) k → ⊥
  own_none c k a = a

  text_none : (k : ℕ) → NoText k → ⊥
  text_none k a = a

  -- where an attribute lies that is behind a dot
  dot_place : (token : ℕ) (a : Expression) (name : Identifier) (es : Expressions) (x : Option Denotation) (h : Holds) → denoted s name.token.0 ≡ x → LeftDot s x (λ c. ExprIs s (In u) a (Refers c)) es (AreIntegers s (In u) es) h → (d : DeclNo) × (x ≡ Some (denotation.Declared d)) × TermFine s m i t [] (close_place s m i (syntax.Dot token a name es)) (Some (AddressOf h))
  dot_place token a name es (Some (denotation.Declared d)) h e l =
      (d, refl, dot_held s ok o m store i t [] (In u) at token a name es d h e (left_held s (ObjectHas s (λ c. ExprIs s (In u) a (Refers c)) d) NoText es (AreIntegers s (In u) es) (entry_of s.tables d) h text_none l))
  dot_place token a name es (Some (denotation.Standard n)) h e l = absurd l
  dot_place token a name es None h e l = absurd l

  -- ---- left sides

  left_named : (name : Identifier) (es : Expressions) (c : Option ℕ) (x : Option Denotation) (k : Kind) → connection_at s name.token.0 ≡ c → denoted s name.token.0 ≡ x → by_name s (syntax.Named name es) ≡ None → LeftNamed s u c x es (AreIntegers s (In u) es) (Simply k) → PlainLeft (left_found c (close_place s m i (syntax.Named name es)) (named_left s m i (line_at s name.token.0) x es)) k
  left_named name es None (Some (denotation.Declared d)) k in_c e other a = declared_is d (line_at s name.token.0) es (entry_of s.tables d) k refl (λ held. no_name s ok o m store i t [] (In u) at name es d (Sees s (In u) d) (AreIntegers s (In u) es) (Simply k) e other held) a
  left_named name es (Some c) (Some (denotation.Declared d)) k in_c e other a =
      let held = left_held s (KnownAt s (In u) (Some c) d) (OwnText s u (Some c)) es (AreIntegers s (In u) es) (entry_of s.tables d) (Simply k) (own_none c) a in
      named_held s ok o m store i t [] (In u) at name es (Some c) d (Simply k) in_c e (no_name s ok o m store i t [] (In u) at name es d (KnownAt s (In u) (Some c) d) (AreIntegers s (In u) es) (Simply k) e other held) held
  left_named name es None (Some (denotation.Standard n)) k in_c e other a = absurd a
  left_named name es (Some c) (Some (denotation.Standard n)) k in_c e other a = absurd a
  left_named name es None None k in_c e other a = absurd a
  left_named name es (Some c) None k in_c e other a = absurd a

  abbrev ProcedureAt : ℕ → Type 0
  ProcedureAt block = (d : DeclNo) × (result : Option SimType) × (entry_of s.tables d ≡ Some (entry.Procedure result block))

  procedure_target : (block : ℕ) (h : Holds) → ProcedureAt block → ResultIs s u block h → (j : ℕ) × (at_level m (level_of s block) i ≡ Some j) × CellTarget s m i j Result h
  procedure_target block h p a = by_result p.0 p.1 p.2
    where
      by_result : (d : DeclNo) (result : Option SimType) → entry_of s.tables d ≡ Some (entry.Procedure result block) → (j : ℕ) × (at_level m (level_of s block) i ≡ Some j) × CellTarget s m i j Result h
      by_result d None x = let no_result : result_holds s block ≡ None = holds_result s ok d None block x in let some_result = a.1 in absurd (cc)
      by_result d (Some ty) x = let holds : result_holds s block ≡ Some (held_by s ty) = holds_result s ok d (Some ty) block x in let other = a.1 in result_target d ty block h x (cc) a.0

  -- the match of a virtual is a procedure
  match_procedure : (x : Option DeclNo) (block : ℕ) → text_of_procedure s x ≡ Some block → ProcedureAt block
  match_procedure None block e = absurd (cc)
  match_procedure (Some d) block e = by_entry (entry_of s.tables d) refl e
    where
      by_entry : (y : Option Entry) → entry_of s.tables d ≡ y → procedure_text y ≡ Some block → ProcedureAt block
      by_entry (Some (entry.Procedure result q)) is f = let same : q ≡ block = cc in (d, result, is ∙ ap (λ z. Some (entry.Procedure result z)) same)
      by_entry None is f = absurd (cc)
      by_entry (Some _) is f = absurd (cc)

  left_or : (name : Identifier) (es : Expressions) (c match : Option ℕ) (k : Kind) → connection_at s name.token.0 ≡ c → by_name s (syntax.Named name es) ≡ None → text_of_procedure s (own_match s (syntax.Named name es)) ≡ match → LeftResultOr s u c match (Simply k) (LeftNamed s u c (denoted s name.token.0) es (AreIntegers s (In u) es) (Simply k))
      → PlainLeft (left_found c (close_place s m i (syntax.Named name es)) (match_left s m i match (named_left s m i (line_at s name.token.0) (denoted s name.token.0) es))) k
  left_or name es None None k in_c other e a = left_named name es None (denoted s name.token.0) k in_c refl other a
  left_or name es None (Some block) k in_c other e a =
      let x = procedure_target block (Simply k) (match_procedure (own_match s (syntax.Named name es)) block e) a in
      found_left (at_level m (level_of s block) i) x.0 (λ j. LeftCell j Result) k x.1 x.2
  left_or name es (Some c) match k in_c other e a = left_named name es (Some c) (denoted s name.token.0) k in_c refl other a

  pub variable_fine : (e : Expression) (k : Kind) → by_name s e ≡ None → LeftIs s u e (Simply k) → PlainLeft (left_variable s m i e) k
  variable_fine (syntax.Named name es) k other a = left_or name es (connection_at s name.token.0) (text_of_procedure s (own_match s (syntax.Named name es))) k refl other refl a
  variable_fine (syntax.Dot token a name es) k other l =
      let x = dot_place token a name es (denoted s name.token.0) (Simply k) refl l in
      subst (λ z. PlainLeft (left_found (declared_attribute z) (close_place s m i (syntax.Dot token a name es)) NoLeftSide) k) (sym x.1) x.2
  variable_fine _ k other a = absurd a

  -- ---- results as texts and references

  own_entry : (d : DeclNo) (e : Option Entry) (token block : ℕ) → entry_of s.tables d ≡ e → own_block s token e ≡ Some block → (result : Option SimType) × (entry_of s.tables d ≡ Some (entry.Procedure result block))
  own_entry d (Some (entry.Procedure result k)) token block is own = by_inside (is_inside s.tables token k) own
    where
      by_inside : (b : Bool) → block_if b k ≡ Some block → (result : Option SimType) × (entry_of s.tables d ≡ Some (entry.Procedure result block))
      by_inside true e = let same : k ≡ block = cc in (result, is ∙ ap (λ z. Some (entry.Procedure result z)) same)
      by_inside false e = absurd (cc)
  own_entry d None token block is own = absurd (cc)
  own_entry d (Some _) token block is own = absurd (cc)

  own_denoted : (x : Option Denotation) (token block : ℕ) → own_block_denoted s token x ≡ Some block → ProcedureAt block
  own_denoted (Some (denotation.Declared d)) token block own = let x = own_entry d (entry_of s.tables d) token block refl own in (d, x.0, x.1)
  own_denoted (Some (denotation.Standard n)) token block own = absurd (cc)
  own_denoted None token block own = absurd (cc)

  unless : (c own : Option ℕ) (block : ℕ) → unless_connected c own ≡ Some block → own ≡ Some block
  unless None own block e = e
  unless (Some k) own block e = absurd (cc)

  own_of_result : (e : Expression) (block : ℕ) → own_result s e ≡ Some block → ProcedureAt block
  unfolding own_result
  own_of_result (syntax.Named name NoMore) block own = own_denoted (denoted s name.token.0) name.token.0 block own
  own_of_result (syntax.Named name (Then e es)) block own = absurd (cc)
  own_of_result _ block own = absurd (cc)

  meant_or : (x : Option DeclNo) (match own : Option ℕ) (block : ℕ) → text_of_procedure s x ≡ match → result_or_own match own ≡ Some block → (own ≡ Some block → ProcedureAt block) → ProcedureAt block
  meant_or x None own block e f go = go f
  meant_or x (Some q) own block e f go = match_procedure x block (e ∙ f)

  meant_procedure : (e : Expression) (block : ℕ) → result_meant s e ≡ Some block → ProcedureAt block
  unfolding result_meant
  meant_procedure (syntax.Named name es) block e =
      let match = own_match s (syntax.Named name es) in
      let own = own_result s (syntax.Named name es) in
      meant_or match (text_of_procedure s match) own block refl (unless (connection_at s name.token.0) (result_or_own (text_of_procedure s match) own) block e) (λ f. own_of_result (syntax.Named name es) block f)
  meant_procedure _ block e = absurd (cc)

  -- the result that is meant, which holds this
  meant_target : (e : Expression) (block : ℕ) (h : Holds) → result_meant s e ≡ Some block → ResultIs s u block h → (j : ℕ) × (at_level m (level_of s block) i ≡ Some j) × CellTarget s m i j Result h
  meant_target e block h is a = procedure_target block h (meant_procedure e block is) a

  text_fine : (e : Expression) (own : Option ℕ) → result_meant s e ≡ own → TextLeft s u e own → TermFine s m i t [] (result_or s m i own (close s m i e)) (simple kind.Text)
  text_fine e None is a = value e (Simply kind.Text) a
  text_fine e (Some block) is a =
      let x = meant_target e block (Simply kind.Text) is a in
      subst (λ z. TermFine s m i t [] (in_instance z (λ j. Cell j Result)) (simple kind.Text)) (sym x.1) (Simply kind.Text, (Simply kind.Text, refl, refl), at_cell x.2)

  reference_fine : (e : Expression) (own : Option ℕ) (c : ℕ) → by_name s e ≡ None → result_meant s e ≡ own → ReferenceAt s u e own c → TermFine s m i t [] (qualified c (result_place s m i own (close_place s m i e))) (Some (ReferenceAddress c))
  reference_fine e None c other is a = qualified_fine s ok o m store i t [] (In u) at c (close_place s m i e) (place_choice s m i e) (place_is s ok o m store i t [] (In u) at e (Refers c) other a)
  reference_fine e (Some block) c other is a =
      let x = meant_target e block (Refers c) is a in
      subst (λ z. TermFine s m i t [] (qualified c (in_instance z (λ j. PlaceOf j Result))) (Some (ReferenceAddress c))) (sym x.1) (refl, x.2)

  pub reference_is : (e : Expression) → by_name s e ≡ None → ReferenceLeft s u e → (c : ℕ) × TermFine s m i t [] (reference_place s m i e) (Some (ReferenceAddress c))
  reference_is e other a =
      (a.class, subst (λ z. TermFine s m i t [] (qualified_place z (result_place s m i (result_meant s e) (close_place s m i e))) (Some (ReferenceAddress a.class))) (sym a.qualified) (reference_fine e (result_meant s e) a.class other refl a.at))

  -- ---- parameters by name

  no_virtual : (d named : DeclNo) (e : Option Entry) → formal_by_name d e ≡ Some named → entry_is is_virtual e ≡ false
  no_virtual d named (Some (entry.Formal f)) by = refl
  no_virtual d named None by = absurd (cc)
  no_virtual d named (Some _) by = absurd (cc)

  no_procedure : (d named : DeclNo) (token : ℕ) (e : Option Entry) → formal_by_name d e ≡ Some named → own_block s token e ≡ None
  no_procedure d named token (Some (entry.Formal f)) by = refl
  no_procedure d named token None by = absurd (cc)
  no_procedure d named token (Some _) by = absurd (cc)

  denotes_no_virtual : (x : Option Denotation) (named : DeclNo) → name_denoted s x ≡ Some named → is_virtual_denoted s x ≡ false
  denotes_no_virtual (Some (denotation.Declared d)) named by = no_virtual d named (entry_of s.tables d) by
  denotes_no_virtual (Some (denotation.Standard n)) named by = refl
  denotes_no_virtual None named by = refl

  denotes_no_procedure : (x : Option Denotation) (named : DeclNo) (token : ℕ) → name_denoted s x ≡ Some named → own_block_denoted s token x ≡ None
  denotes_no_procedure (Some (denotation.Declared d)) named token by = no_procedure d named token (entry_of s.tables d) by
  denotes_no_procedure (Some (denotation.Standard n)) named token by = refl
  denotes_no_procedure None named token by = refl

  -- it means no result
  no_match : (name : Identifier) (named : DeclNo) → by_name s (syntax.Named name NoMore) ≡ Some named → own_match s (syntax.Named name NoMore) ≡ None
  unfolding by_name own_match
  no_match name named by = ap (λ z. match_if_virtual z (own_of s.tables name (match_seen s.tables name))) (denotes_no_virtual (denoted s name.token.0) named by)

  no_own : (name : Identifier) (named : DeclNo) → by_name s (syntax.Named name NoMore) ≡ Some named → own_result s (syntax.Named name NoMore) ≡ None
  unfolding by_name own_result
  no_own name named by = denotes_no_procedure (denoted s name.token.0) named name.token.0 by

  unless_none : (c : Option ℕ) → unless_connected c None ≡ None
  unless_none None = refl
  unless_none (Some k) = refl

  no_result : (name : Identifier) (named : DeclNo) → by_name s (syntax.Named name NoMore) ≡ Some named → result_meant s (syntax.Named name NoMore) ≡ None
  unfolding result_meant
  no_result name named by =
      let c = connection_at s name.token.0 in
      ap (λ z. unless_connected c (result_or_own (text_of_procedure s z) (own_result s (syntax.Named name NoMore)))) (no_match name named by) ∙ ap (unless_connected c) (no_own name named by) ∙ unless_none c

  no_meant : (e : Expression) (named : DeclNo) → by_name s e ≡ Some named → result_meant s e ≡ None
  unfolding result_meant
  no_meant (syntax.Named name NoMore) named by = no_result name named by
  no_meant (syntax.Named name (Then x es)) named by = absurd (more_no_name s ok o m store i t [] (In u) at name x es named by)
  no_meant _ named by = refl

  -- a left side that is one
  formal_left_held : (d named : DeclNo) (Known : Type 0) (Own : ℕ → Type 0) (Indices : Type 0) (e : Option Entry) (h : Holds) → formal_by_name d e ≡ Some named → LeftDeclared s Known Own NoMore Indices e h → LeftHeld Known NoMore Indices (entry_names s e) h
  formal_left_held d named Known Own Indices (Some (entry.Formal f)) h by a = a
  formal_left_held d named Known Own Indices None h by a = absurd (cc)
  formal_left_held d named Known Own Indices (Some _) h by a = absurd (cc)

  left_used : (e : Expression) (h : Holds) (named : DeclNo) → by_name s e ≡ Some named → LeftIs s u e h → UseOf s ok o m store i t [] (In u) at e named h
  left_used (syntax.Named name NoMore) h named by a = by_match (text_of_procedure s (own_match s (syntax.Named name NoMore))) (ap (text_of_procedure s) (no_match name named by)) (connection_at s name.token.0) refl a
    where
      by_denoted : (c : Option ℕ) (x : Option Denotation) → connection_at s name.token.0 ≡ c → denoted s name.token.0 ≡ x → LeftNamed s u c x NoMore (AreIntegers s (In u) NoMore) h → UseOf s ok o m store i t [] (In u) at (syntax.Named name NoMore) named h
      by_denoted c (Some (denotation.Declared d)) in_c is p =
          let formal = named_alone s ok o m store i t [] (In u) at name d named is by in
          (name_used s ok o m store i t [] (In u) at name c d named h in_c is formal (formal_left_held d named (KnownAt s (In u) c d) (OwnText s u c) (AreIntegers s (In u) NoMore) (entry_of s.tables d) h formal p), refl)
      by_denoted c (Some (denotation.Standard n)) in_c is p = absurd p
      by_denoted c None in_c is p = absurd p

      by_match : (match : Option ℕ) → match ≡ None → (c : Option ℕ) → connection_at s name.token.0 ≡ c → LeftResultOr s u c match h (LeftNamed s u c (denoted s name.token.0) NoMore (AreIntegers s (In u) NoMore) h) → UseOf s ok o m store i t [] (In u) at (syntax.Named name NoMore) named h
      by_match None e None in_c p = by_denoted None (denoted s name.token.0) in_c refl p
      by_match (Some block) e None in_c p = absurd (cc)
      by_match match e (Some k) in_c p = by_denoted (Some k) (denoted s name.token.0) in_c refl p
  left_used (syntax.Named name (Then x es)) h named by a = absurd (more_no_name s ok o m store i t [] (In u) at name x es named by)
  left_used (syntax.Dot token x name es) h named by a = absurd (dot_no_name s ok o m store i t [] (In u) at token x name es named by)
  left_used _ h named by a = absurd a

  -- where values go that are assigned through one
  used_place : (e : Expression) (named : DeclNo) (k : Kind) (line : ℕ) → (k ≡ kind.Reference → ⊥) → UseOf s ok o m store i t [] (In u) at e named (Simply k) → LeftFine (LeftAddress (name_term s m i named NoMore (ForPlace false line))) k
  used_place (syntax.Named name es) named k line other x =
      let y = x.0 in
      let same : kind_of_type y.type ≡ k = held_of_kind s y.type k y.held in
      (Whichever false (kind_of_type y.type), (ap Simply (sym same), λ e. other (sym same ∙ e)), y.used false line)
  used_place _ named k line other x = absurd x

  used_text : (e : Expression) (named : DeclNo) (line : ℕ) → UseOf s ok o m store i t [] (In u) at e named (Simply kind.Text) → TermFine s m i t [] (ValueAt (name_term s m i named NoMore (ForPlace false line))) (simple kind.Text)
  used_text (syntax.Named name es) named line x =
      let y = x.0 in
      (Simply kind.Text, Whichever false (kind_of_type y.type), ap Simply (sym (held_of_kind s y.type kind.Text y.held)), refl, y.used false line)
  used_text _ named line x = absurd x

  used_reference : (e : Expression) (named : DeclNo) (class line : ℕ) (k : Kind) → k ≡ kind.Reference → UseOf s ok o m store i t [] (In u) at e named (Refers class) → LeftFine (closing.left_named (class_of_formal s named) line (name_term s m i named NoMore (ForPlace false line))) k
  used_reference (syntax.Named name es) named class line k is x =
      let y = x.0 in
      let q = held_qualified s y.type class y.held in
      subst (λ z. LeftFine (closing.left_named z line (name_term s m i named NoMore (ForPlace false line))) k) (sym (ap (qualification s) y.has_type ∙ q.1)) (is, subst (λ z. TermFine s m i t [] (name_term s m i named NoMore (ForPlace false line)) (Some (Whichever false z))) q.0 (y.used false line))
  used_reference _ named class line k is x = absurd x

  -- ---- left sides by their signs

  place_left : (e : Expression) (named : Option DeclNo) (k : Kind) (line : ℕ) → by_name s e ≡ named → (k ≡ kind.Reference → ⊥) → LeftIs s u e (Simply k) → LeftFine (left_plain s m i line named e) k
  place_left e None k line by other a = plain_left (left_variable s m i e) k (variable_fine e k by a)
  place_left e (Some named) k line by other a = used_place e named k line other (left_used e (Simply k) named by a)

  text_left : (e : Expression) (named : Option DeclNo) (line : ℕ) → by_name s e ≡ named → TextLeft s u e (result_meant s e) → TermFine s m i t [] (named_text s m i line named (result_or s m i (result_meant s e) (close s m i e))) (simple kind.Text)
  text_left e None line by a = text_fine e (result_meant s e) refl a
  text_left e (Some named) line by a = used_text e named line (text_used s ok o m store i t [] (In u) at e named by (subst (TextLeft s u e) (no_meant e named by) a))

  reference_left_is : (e : Expression) (named : Option DeclNo) (line : ℕ) (k : Kind) → by_name s e ≡ named → k ≡ kind.Reference → ReferenceLeft s u e → LeftFine (reference_left s m i line named e) k
  reference_left_is e None line k by is a = let x = reference_is e by a in (is, x.0, x.1)
  reference_left_is e (Some named) line k by is a = used_reference e named a.class line k is (named_place_is s ok o m store i t [] (In u) at e (Refers a.class) named by (subst (λ z. ReferenceAt s u e z a.class) (no_meant e named by) a.at))

  pub left_fine : (text : Bool) (sign : Assignment) (line : ℕ) (e : Expression) (k : Kind) → LeftOf text sign s u e k → LeftFine (close_left_of text sign s m i line e) k
  left_fine true assignment.Value line e k a = (a.0, text_left e (by_name s e) line refl a.1)
  left_fine true assignment.Reference line e k a = place_left e (by_name s e) k line refl a.0 a.1
  left_fine false assignment.Value line e k a = place_left e (by_name s e) k line refl a.0 a.1
  left_fine false assignment.Reference line e k a = reference_left_is e (by_name s e) line k refl a.0 a.1
