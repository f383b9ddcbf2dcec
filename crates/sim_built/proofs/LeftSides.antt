-- Typed left sides are built.
use Rattle.std.proofs.Common.{◌≡◌, ℕ, Bool, true, false, Option, Some, None, refl, sym, ap, ◌∙◌, subst}
use Rattle.sim_base.specs.declared.numbering.DeclNo.{DeclNo}
use Rattle.sim_scope.specs.declared.scopes.Denotation.{Denotation}
use Rattle.sim_scope.specs.declared.scopes.Denotation.TheVariants as denotation
use Rattle.sim_scope.specs.declared.types.Entry.{Entry}
use Rattle.sim_scope.specs.declared.types.Entry.TheVariants as entry
use Rattle.sim_scope.specs.declared.types.FormalKind.{FormalKind}
use Rattle.sim_scope.specs.declared.types.FormalKind.TheVariants as shape
use Rattle.sim_scope.specs.declared.types.Mode.{Mode}
use Rattle.sim_scope.specs.declared.types.Mode.TheVariants as mode
use Rattle.sim_scope.specs.declared.types.SimType.{SimType}
use Rattle.sim_scope.specs.Calls.{is_inside}
use Rattle.sim_scope.specs.Scopes.{entry_of}
use Rattle.sim_scope.specs.Source.{Source, block_of, denoted, line_at}
use Rattle.sim_tree.specs.declared.expr.Identifier.{Identifier}
use Rattle.sim_tree.specs.declared.stmt.Assignment.{Assignment}
use Rattle.sim_tree.specs.declared.stmt.Assignment.TheVariants as assignment
use Rattle.sim_tree.specs.Syntax.{Expression, Expressions, NoMore, Then}
use Rattle.sim_tree.specs.Syntax as syntax
use Rattle.sim_values.specs.declared.kind.Kind.{Kind}
use Rattle.sim_values.specs.declared.kind.Kind.TheVariants as kind
use Rattle.sim_meaning.specs.Attributes.{connection_at, declared_attribute}
use Rattle.sim_meaning.specs.Closing.{block_if, by_name, formal_by_name, name_denoted, named_formal, own_block, own_block_denoted, own_match, own_result, result_meant, result_or_own, unless_connected}
use Rattle.sim_meaning.specs.Pending.{Declared, Key, Result}
use Rattle.sim_meaning.specs.Texts.{Text, text}
use Rattle.sim_meaning.specs.Virtuals.{procedure_text, text_of_procedure}
use Rattle.sim_sound.specs.Held.{Around, ArrayOf, Holds, In, Refers, Sees, SeesConnected, Simply, entry_holds, formal_holds, formal_means, held_by, result_holds}
use Rattle.sim_sound.specs.Expressions.{AreIntegers, ExprIs, LeftHeld, ObjectHas, PlaceDeclared, PlaceDot, PlaceIs, PlaceNamed}
use Rattle.sim_sound.specs.Statements.{ControlIs, LeftDot, LeftIs, LeftNamed, LeftOf, LeftResultOr, NoText, OwnText, ReferenceAt, ReferenceLeft, TextLeft}
use Rattle.sim_sound.specs.Typed.{Typed}
use Rattle.codegen_expr.specs.Built.{AreBuilt, CellBuilt, ClassBuilt, IsBuilt, KeyBuilt, PlaceBuilt, PlaceOrResultBuilt, ReferenceBuilt, StandsIn, is_there, slot_in}
use Rattle.codegen.specs.BuiltProgram.{LeftBuilt, StepsBuilt, VariableBuilt}
use Rattle.codegen.specs.CodeFor.{Variable, assigned_by, variable_of, variable_stored}
use Rattle.codegen.specs.CodeLeft.{AtAttribute, InCell, Stored, stored_anew, stored_by_sign, stored_declared, stored_element, stored_formal, stored_found, stored_left, stored_match, stored_named, stored_of, stored_or_named, stored_text, stored_variable}
use Rattle.sim_built.specs.Laid.{Laid}
use Rattle.sim_built.proofs.Cells.{declared_has, result_has, result_typed, stands}
use Rattle.sim_built.proofs.Expressions.{Stands, integers_built, is_built, place_built}
use Rattle.sim_built.proofs.Lists.{Alone, Indexed, LeftCase, a_place, a_result, left_alone, left_case, left_indexed, left_none, left_place, left_procedure, no_array}
use Rattle.sim_built.proofs.NamedSides.{named_built}
use Rattle.sim_built.proofs.Standing.{stands_here}

-- the result of a procedure that is meant has a cell
module _ (s : Source) (ok : Typed s) (laid : Laid s) where
  meant_entry : (token block : ℕ) (d : DeclNo) (y : Option Entry) (h : Holds) → entry_of s.tables d ≡ y → own_block s token y ≡ Some block → result_holds s block ≡ Some h → is_there (slot_in s block Result) ≡ true
  meant_entry token block d (Some (entry.Procedure result k)) h e o a = by_place (is_inside s.tables token k) o
    where
      by_place : (b : Bool) → block_if b k ≡ Some block → is_there (slot_in s block Result) ≡ true
      by_place true f = let same : k ≡ block = cc in result_has s ok laid d result block h (e ∙ ap (λ z. Some (entry.Procedure result z)) same) a
      by_place false f = absurd (cc)
  meant_entry token block d None h e o a = absurd (cc)
  meant_entry token block d (Some (entry.Variable ty)) h e o a = absurd (cc)
  meant_entry token block d (Some (entry.Constant ty)) h e o a = absurd (cc)
  meant_entry token block d (Some (entry.Array ty n)) h e o a = absurd (cc)
  meant_entry token block d (Some (entry.Formal f)) h e o a = absurd (cc)
  meant_entry token block d (Some (entry.Class b)) h e o a = absurd (cc)
  meant_entry token block d (Some (entry.Virtual r b)) h e o a = absurd (cc)
  meant_entry token block d (Some (entry.Unspecified w)) h e o a = absurd (cc)
  meant_entry token block d (Some (entry.Attribute name parameter result)) h e o a = absurd (cc)

  meant_denoted : (token block : ℕ) (y : Option Denotation) (h : Holds) → own_block_denoted s token y ≡ Some block → result_holds s block ≡ Some h → is_there (slot_in s block Result) ≡ true
  meant_denoted token block None h o a = absurd (cc)
  meant_denoted token block (Some (denotation.Declared d)) h o a = meant_entry token block d (entry_of s.tables d) h refl o a
  meant_denoted token block (Some (denotation.Standard n)) h o a = absurd (cc)

  meant_own : (e : Expression) (block : ℕ) (h : Holds) → own_result s e ≡ Some block → result_holds s block ≡ Some h → is_there (slot_in s block Result) ≡ true
  unfolding own_result
  meant_own (syntax.Named name NoMore) block h o a = meant_denoted name.token.0 block (denoted s name.token.0) h o a
  meant_own (syntax.Named name (Then y ys)) block h o a = absurd (cc)
  meant_own (syntax.If i c b d) block h o a = absurd (cc)
  meant_own (syntax.Binary op i b d) block h o a = absurd (cc)
  meant_own (syntax.Not i b) block h o a = absurd (cc)
  meant_own (syntax.Signed sign i b) block h o a = absurd (cc)
  meant_own (syntax.Dot i b name es) block h o a = absurd (cc)
  meant_own (syntax.Constant literal i) block h o a = absurd (cc)
  meant_own (syntax.Parentheses i b) block h o a = absurd (cc)
  meant_own (syntax.Member m i b c) block h o a = absurd (cc)
  meant_own (syntax.Qua i b c) block h o a = absurd (cc)
  meant_own (syntax.This i c) block h o a = absurd (cc)
  meant_own (syntax.New i c es) block h o a = absurd (cc)

  unconnected : (c o : Option ℕ) (block : ℕ) → unless_connected c o ≡ Some block → o ≡ Some block
  unconnected None o block e = e
  unconnected (Some k) o block e = absurd (cc)

  -- and so has that of a match
  match_entry : (d : DeclNo) (y : Option Entry) (block : ℕ) (h : Holds) → entry_of s.tables d ≡ y → procedure_text y ≡ Some block → result_holds s block ≡ Some h → is_there (slot_in s block Result) ≡ true
  match_entry d (Some (entry.Procedure result k)) block h e f a = let same : k ≡ block = cc in result_has s ok laid d result block h (e ∙ ap (λ z. Some (entry.Procedure result z)) same) a
  match_entry d None block h e f a = absurd (cc)
  match_entry d (Some _) block h e f a = absurd (cc)

  match_has : (x : Option DeclNo) (block : ℕ) (h : Holds) → text_of_procedure s x ≡ Some block → result_holds s block ≡ Some h → is_there (slot_in s block Result) ≡ true
  match_has None block h e a = absurd (cc)
  match_has (Some d) block h e a = match_entry d (entry_of s.tables d) block h refl e a

  match_or_own : (x : Option DeclNo) (match own : Option ℕ) (block : ℕ) (h : Holds) → text_of_procedure s x ≡ match → result_or_own match own ≡ Some block → result_holds s block ≡ Some h → (own ≡ Some block → is_there (slot_in s block Result) ≡ true)
      → is_there (slot_in s block Result) ≡ true
  match_or_own x None own block h e f a go = go f
  match_or_own x (Some q) own block h e f a go = match_has x block h (e ∙ f) a

  meant_has : (e : Expression) (block : ℕ) (h : Holds) → result_meant s e ≡ Some block → result_holds s block ≡ Some h → is_there (slot_in s block Result) ≡ true
  unfolding result_meant
  meant_has (syntax.Named name es) block h o a =
      let match = own_match s (syntax.Named name es) in
      let own = own_result s (syntax.Named name es) in
      match_or_own match (text_of_procedure s match) own block h refl (unconnected (connection_at s name.token.0) (result_or_own (text_of_procedure s match) own) block o) a (λ f. meant_own (syntax.Named name es) block h f a)
  meant_has (syntax.If i c b d) block h o a = absurd (cc)
  meant_has (syntax.Binary op i b d) block h o a = absurd (cc)
  meant_has (syntax.Not i b) block h o a = absurd (cc)
  meant_has (syntax.Signed sign i b) block h o a = absurd (cc)
  meant_has (syntax.Dot i b name es) block h o a = absurd (cc)
  meant_has (syntax.Constant literal i) block h o a = absurd (cc)
  meant_has (syntax.Parentheses i b) block h o a = absurd (cc)
  meant_has (syntax.Member m i b c) block h o a = absurd (cc)
  meant_has (syntax.Qua i b c) block h o a = absurd (cc)
  meant_has (syntax.This i c) block h o a = absurd (cc)
  meant_has (syntax.New i c es) block h o a = absurd (cc)

module _ (s : Source) (ok : Typed s) (laid : Laid s) (t : ℕ) (x : Text) (there : text s t ≡ Some x) where
  here : Stands s t (In t)
  here = stands_here s ok laid t x there

  around : (u : ℕ) → Around s.tables t u → StandsIn s t u
  around u a = stands s ok laid t u x there a

  pub built : (e : Expression) (h : Holds) → ExprIs s (In t) e h → IsBuilt s t e
  built e h a = is_built s ok laid t (In t) here e h a

  integers : (es : Expressions) → AreIntegers s (In t) es → AreBuilt s t es
  integers es a = integers_built s ok laid t (In t) here es a

  -- ---- places

  place_is_built : (e : Expression) (h : Holds) → PlaceIs s (In t) e h → PlaceBuilt s t e
  place_is_built e h a = place_built s ok laid t (In t) here e h a

  -- behind a dot no result is a left side
  behind_place : (y : Option Denotation) (Object : ℕ → Type 0) (es : Expressions) (h : Holds) → LeftDot s y Object es (AreIntegers s (In t) es) h → PlaceDot s y Object es (AreIntegers s (In t) es) h
  behind_place None Object es h a = absurd a
  behind_place (Some (denotation.Standard n)) Object es h a = absurd a
  behind_place (Some (denotation.Declared d)) Object es h a =
      left_place s (ObjectHas s Object d) (AreIntegers s (In t) es) NoText es (entry_of s.tables d) h (λ k z. z) (left_case s (ObjectHas s Object d) (AreIntegers s (In t) es) NoText es (entry_of s.tables d) h a)

  result_around : (block : ℕ) → is_there (slot_in s block Result) ≡ true → Around s.tables t block → KeyBuilt s t block Result
  result_around block has a = record { has = has; inside = around block a }

  reference_left : (e : Expression) → ReferenceLeft s t e → ReferenceBuilt s t e
  reference_left e a = (subst ClassBuilt (sym a.qualified) tt, by_own (result_meant s e) refl a.at)
    where
      by_own : (o : Option ℕ) → result_meant s e ≡ o → ReferenceAt s t e o a.class → PlaceOrResultBuilt s t o (PlaceBuilt s t e)
      by_own None o at = place_is_built e (Refers a.class) at
      by_own (Some block) o at = result_around block (meant_has s ok laid e block (Refers a.class) o at.1) at.0

  -- ---- left sides

  cell : (d : DeclNo) (h : Holds) → entry_holds s false (entry_of s.tables d) ≡ Some h → Sees s (In t) d → CellBuilt s t d
  cell d h e a = record { has = declared_has s ok laid d h false (here.solid d a) e; inside = here.seen d a }

  variable_left : (d : DeclNo) (es : Expressions) (h : Holds) → entry_holds s false (entry_of s.tables d) ≡ Some h → Alone (Sees s (In t) d) es → LeftBuilt s t (stored_variable s d es)
  variable_left d NoMore h e a = cell d h e a
  variable_left d (Then y ys) h e a = absurd a

  element_left : (d : DeclNo) (es : Expressions) (line : ℕ) (h : Holds) → entry_holds s false (entry_of s.tables d) ≡ Some (ArrayOf h) → Indexed (Sees s (In t) d) es (AreIntegers s (In t) es) → LeftBuilt s t (stored_element d es line)
  element_left d NoMore line h e a = absurd a
  element_left d (Then y ys) line h e a = (cell d (ArrayOf h) e a.0, integers (Then y ys) a.1)

  -- an element of an array by name is found anew
  anew_left : (e : Expression) (es : Expressions) (Known Indices : Type 0) → PlaceBuilt s t e → Indexed Known es Indices → LeftBuilt s t (stored_anew e es)
  anew_left e NoMore Known Indices b a = absurd a
  anew_left e (Then y ys) Known Indices b a = b

  formal_left : (left : Expression) (d : DeclNo) (es : Expressions) (line : ℕ) (m : Mode) (f : FormalKind) (ty : Option SimType) (h : Holds) → PlaceBuilt s t left → (es ≡ NoMore → named_formal m f d ≡ None) → entry_holds s false (entry_of s.tables d) ≡ formal_holds s m f ty → LeftHeld (Sees s (In t) d) es (AreIntegers s (In t) es) (formal_means s f ty) h → LeftBuilt s t (stored_formal s left d es line m f)
  formal_left left d es line mode.ByValue shape.Simple (Some ty) h b other e a = variable_left d es (held_by s ty) e (left_alone s (Sees s (In t) d) (AreIntegers s (In t) es) es (held_by s ty) h (no_array s ty) a)
  formal_left left d es line mode.ByReference shape.Simple (Some ty) h b other e a = variable_left d es (held_by s ty) e (left_alone s (Sees s (In t) d) (AreIntegers s (In t) es) es (held_by s ty) h (no_array s ty) a)
  formal_left left d es line mode.ByValue shape.Array (Some ty) h b other e a = element_left d es line (held_by s ty) e (left_indexed s (Sees s (In t) d) (AreIntegers s (In t) es) es (held_by s ty) h a)
  formal_left left d es line mode.ByReference shape.Array (Some ty) h b other e a = element_left d es line (held_by s ty) e (left_indexed s (Sees s (In t) d) (AreIntegers s (In t) es) es (held_by s ty) h a)
  formal_left left d es line mode.ByName shape.Array (Some ty) h b other e a = anew_left left es (Sees s (In t) d) (AreIntegers s (In t) es) b (left_indexed s (Sees s (In t) d) (AreIntegers s (In t) es) es (held_by s ty) h a)
  formal_left left d es line mode.ByName shape.Simple (Some ty) h b other e a = absurd (by_list es other (left_alone s (Sees s (In t) d) (AreIntegers s (In t) es) es (held_by s ty) h (no_array s ty) a))
    where
      by_list : (es : Expressions) → (es ≡ NoMore → named_formal mode.ByName shape.Simple d ≡ None) → Alone (Sees s (In t) d) es → ⊥
      by_list NoMore other a = let none = other refl in cc
      by_list (Then y ys) other a = a
  formal_left left d es line m shape.Simple None h b other e a = absurd (left_none s (Sees s (In t) d) (AreIntegers s (In t) es) es h a)
  formal_left left d es line m shape.Array None h b other e a = absurd (left_none s (Sees s (In t) d) (AreIntegers s (In t) es) es h a)
  formal_left left d es line m shape.Procedure ty h b other e a = absurd (left_procedure s (Sees s (In t) d) (AreIntegers s (In t) es) es ty h a)

  place_left : (left : Expression) (d : DeclNo) (es : Expressions) (line : ℕ) (y : Option Entry) (h : Holds) → (PlaceDeclared s (Sees s (In t) d) es (AreIntegers s (In t) es) y h → PlaceBuilt s t left) → (es ≡ NoMore → formal_by_name d y ≡ None) → entry_of s.tables d ≡ y → PlaceDeclared s (Sees s (In t) d) es (AreIntegers s (In t) es) y h
      → LeftBuilt s t (stored_declared s left d es line y)
  place_left left d es line (Some (entry.Variable ty)) h b other e a = variable_left d es (held_by s ty) (ap (entry_holds s false) e) (left_alone s (Sees s (In t) d) (AreIntegers s (In t) es) es (held_by s ty) h (no_array s ty) a)
  place_left left d es line (Some (entry.Array ty n)) h b other e a = element_left d es line (held_by s ty) (ap (entry_holds s false) e) (left_indexed s (Sees s (In t) d) (AreIntegers s (In t) es) es (held_by s ty) h a)
  place_left left d es line (Some (entry.Formal f)) h b other e a = formal_left left d es line f.mode f.kind f.ty h (b a) other (ap (entry_holds s false) e) a
  place_left left d es line (Some (entry.Procedure r k)) h b other e a = absurd a
  place_left left d es line None h b other e a = absurd a
  place_left left d es line (Some _) h b other e a = absurd (left_none s (Sees s (In t) d) (AreIntegers s (In t) es) es h a)

  declared_left : (left : Expression) (d : DeclNo) (es : Expressions) (line : ℕ) (y : Option Entry) (h : Holds) → (PlaceDeclared s (Sees s (In t) d) es (AreIntegers s (In t) es) y h → PlaceBuilt s t left) → (es ≡ NoMore → formal_by_name d y ≡ None) → entry_of s.tables d ≡ y → LeftCase s (Sees s (In t) d) (AreIntegers s (In t) es) (λ k. Around s.tables t k) h es y
      → LeftBuilt s t (stored_declared s left d es line y)
  declared_left left d _ line _ h b other e (a_result {type = type} {k = k} a) = result_around k (result_typed s ok laid d type k e) a
  declared_left left d es line y h b other e (a_place a) = place_left left d es line y h b other e a

  -- an identifier, not seen through a connection or seen through one
  named_left : (left : Expression) (y : Option Denotation) (es : Expressions) (line : ℕ) (h : Holds) → (PlaceNamed s (In t) None y es (AreIntegers s (In t) es) h → PlaceBuilt s t left) → (es ≡ NoMore → name_denoted s y ≡ None) → LeftNamed s t None y es (AreIntegers s (In t) es) h → LeftBuilt s t (stored_named s left y es line)
  named_left left None es line h b other a = absurd a
  named_left left (Some (denotation.Standard n)) es line h b other a = absurd a
  named_left left (Some (denotation.Declared d)) es line h b other a =
      declared_left left d es line (entry_of s.tables d) h b other refl (left_case s (Sees s (In t) d) (AreIntegers s (In t) es) (λ k. Around s.tables t k) es (entry_of s.tables d) h a)

  connected_left : (k : ℕ) (y : Option Denotation) (es : Expressions) (e : Expression) (h : Holds) → (PlaceNamed s (In t) (Some k) y es (AreIntegers s (In t) es) h → PlaceBuilt s t e) → LeftNamed s t (Some k) y es (AreIntegers s (In t) es) h → PlaceBuilt s t e
  connected_left k None es e h f a = absurd a
  connected_left k (Some (denotation.Standard n)) es e h f a = absurd a
  connected_left k (Some (denotation.Declared d)) es e h f a =
      f (left_place s (SeesConnected s (In t) k d) (AreIntegers s (In t) es) (OwnText s t (Some k)) es (entry_of s.tables d) h (λ k z. z) (left_case s (SeesConnected s (In t) k d) (AreIntegers s (In t) es) (OwnText s t (Some k)) es (entry_of s.tables d) h a))

  behind_left : (y : Option Denotation) (e : Expression) (Object : ℕ → Type 0) (es : Expressions) (Indices : Type 0) (h : Holds) (other : Stored) → PlaceBuilt s t e → LeftDot s y Object es Indices h → LeftBuilt s t (stored_found (declared_attribute y) e other)
  behind_left None e Object es Indices h other b a = absurd a
  behind_left (Some (denotation.Standard n)) e Object es Indices h other b a = absurd a
  behind_left (Some (denotation.Declared d)) e Object es Indices h other b a = b

  -- the result of a match, or else what is named
  not_named : (name : Identifier) (es : Expressions) → by_name s (syntax.Named name es) ≡ None → es ≡ NoMore → name_denoted s (denoted s name.token.0) ≡ None
  unfolding by_name
  not_named name es other same = sym (ap (λ z. by_name s (syntax.Named name z)) same) ∙ other

  match_or_named : (name : Identifier) (es : Expressions) (c match : Option ℕ) (h : Holds) → by_name s (syntax.Named name es) ≡ None → connection_at s name.token.0 ≡ c → text_of_procedure s (own_match s (syntax.Named name es)) ≡ match → LeftResultOr s t c match h (LeftNamed s t c (denoted s name.token.0) es (AreIntegers s (In t) es) h)
      → LeftBuilt s t (stored_found c (syntax.Named name es) (stored_match match (stored_named s (syntax.Named name es) (denoted s name.token.0) es (line_at s name.token.0))))
  match_or_named name es None (Some block) h other at is a = result_around block (match_has s ok laid (own_match s (syntax.Named name es)) block h is a.1) a.0
  match_or_named name es None None h other at is a =
      named_left (syntax.Named name es) (denoted s name.token.0) es (line_at s name.token.0) h (λ z. place_is_built (syntax.Named name es) h (subst (λ x. PlaceNamed s (In t) x (denoted s name.token.0) es (AreIntegers s (In t) es) h) (sym at) z)) (not_named name es other) a
  match_or_named name es (Some c) match h other at is a =
      connected_left c (denoted s name.token.0) es (syntax.Named name es) h (λ z. place_is_built (syntax.Named name es) h (subst (λ x. PlaceNamed s (In t) x (denoted s name.token.0) es (AreIntegers s (In t) es) h) (sym at) z)) a

  pub left_built : (e : Expression) (h : Holds) → by_name s e ≡ None → LeftIs s t e h → LeftBuilt s t (stored_left s e)
  left_built (syntax.Named name es) h other a = match_or_named name es (connection_at s name.token.0) (text_of_procedure s (own_match s (syntax.Named name es))) h other refl refl a
  left_built (syntax.Dot i b name es) h other a =
      behind_left (denoted s name.token.0) (syntax.Dot i b name es) (λ c. ExprIs s (In t) b (Refers c)) es (AreIntegers s (In t) es) h _ (place_is_built (syntax.Dot i b name es) h (behind_place (denoted s name.token.0) (λ c. ExprIs s (In t) b (Refers c)) es h a)) a
  left_built (syntax.If i c b d) h other a = absurd a
  left_built (syntax.Binary op i b d) h other a = absurd a
  left_built (syntax.Not i b) h other a = absurd a
  left_built (syntax.Signed sign i b) h other a = absurd a
  left_built (syntax.Constant literal i) h other a = absurd a
  left_built (syntax.Parentheses i b) h other a = absurd a
  left_built (syntax.Member m i b c) h other a = absurd a
  left_built (syntax.Qua i b c) h other a = absurd a
  left_built (syntax.This i c) h other a = absurd a
  left_built (syntax.New i c es) h other a = absurd a

  text_left : (own : Option ℕ) (e : Expression) (line : ℕ) → result_meant s e ≡ own → TextLeft s t e own → LeftBuilt s t (stored_text own e line)
  text_left None e line o a = built e (Simply kind.Text) a
  text_left (Some block) e line o a = result_around block (meant_has s ok laid e block (Simply kind.Text) o a.1) a.0

  plain_built : (is_text : Bool) (sign : Assignment) (line : ℕ) (e : Expression) (k : Kind) → by_name s e ≡ None → LeftOf is_text sign s t e k → LeftBuilt s t (stored_by_sign is_text sign s line e)
  plain_built true assignment.Value line e k other a = text_left (result_meant s e) e line refl a.1
  plain_built true assignment.Reference line e k other a = left_built e (Simply k) other a.1
  plain_built false assignment.Value line e k other a = left_built e (Simply k) other a.1
  plain_built false assignment.Reference line e k other a = reference_left e a.1

  pub side_built : (is_text : Bool) (sign : Assignment) (line : ℕ) (e : Expression) (k : Kind) → LeftOf is_text sign s t e k → LeftBuilt s t (stored_of is_text sign s line e)
  side_built is_text sign line e k a = by_formal (by_name s e) refl
    where
      by_formal : (o : Option DeclNo) → by_name s e ≡ o → LeftBuilt s t (stored_or_named o is_text sign s line e)
      by_formal None other = plain_built is_text sign line e k other a
      by_formal (Some d) is = named_built s ok laid t x there is_text sign line e k d is a

  -- ---- the variable of a `for` list

  data InPlace : Stored → Type 0 where
    in_cell : (home : ℕ) (key : Key) → KeyBuilt s t home key → InPlace (InCell home key)
    at_place : (e : Expression) → PlaceBuilt s t e → InPlace (AtAttribute e)

  formal_alone : (e : Expression) (d : DeclNo) (line : ℕ) (m : Mode) (f : FormalKind) → LeftBuilt s t (stored_formal s e d NoMore line m f) → InPlace (stored_formal s e d NoMore line m f)
  formal_alone e d line mode.ByName shape.Simple b = absurd b
  formal_alone e d line mode.ByName shape.Array b = absurd b
  formal_alone e d line mode.ByName shape.Procedure b = absurd b
  formal_alone e d line mode.ByValue shape.Simple b = in_cell (block_of s d) (Declared d.0) b
  formal_alone e d line mode.ByReference shape.Simple b = in_cell (block_of s d) (Declared d.0) b
  formal_alone e d line mode.ByValue shape.Array b = absurd b
  formal_alone e d line mode.ByReference shape.Array b = absurd b
  formal_alone e d line mode.ByValue shape.Procedure b = absurd b
  formal_alone e d line mode.ByReference shape.Procedure b = absurd b

  entry_alone : (e : Expression) (d : DeclNo) (line : ℕ) (y : Option Entry) → LeftBuilt s t (stored_declared s e d NoMore line y) → InPlace (stored_declared s e d NoMore line y)
  entry_alone e d line (Some (entry.Variable ty)) b = in_cell (block_of s d) (Declared d.0) b
  entry_alone e d line (Some (entry.Array ty n)) b = absurd b
  entry_alone e d line (Some (entry.Formal f)) b = formal_alone e d line f.mode f.kind b
  entry_alone e d line (Some (entry.Procedure r k)) b = in_cell k Result b
  entry_alone e d line None b = absurd b
  entry_alone e d line (Some _) b = absurd b

  named_alone : (e : Expression) (y : Option Denotation) (line : ℕ) → LeftBuilt s t (stored_named s e y NoMore line) → InPlace (stored_named s e y NoMore line)
  named_alone e None line b = absurd b
  named_alone e (Some (denotation.Declared d)) line b = entry_alone e d line (entry_of s.tables d) b
  named_alone e (Some (denotation.Standard n)) line b = absurd b

  match_alone : (e : Expression) (match : Option ℕ) (y : Option Denotation) (line : ℕ) → LeftBuilt s t (stored_match match (stored_named s e y NoMore line)) → InPlace (stored_match match (stored_named s e y NoMore line))
  match_alone e None y line b = named_alone e y line b
  match_alone e (Some k) y line b = in_cell k Result b

  found_alone : (c match : Option ℕ) (e : Expression) (y : Option Denotation) (line : ℕ) → LeftBuilt s t (stored_found c e (stored_match match (stored_named s e y NoMore line))) → InPlace (stored_found c e (stored_match match (stored_named s e y NoMore line)))
  found_alone None match e y line b = match_alone e match y line b
  found_alone (Some k) match e y line b = at_place e b

  abbrev pub Controls : Option Variable → (Steps : Type 0) → Type 0
  Controls None Steps = ⊥
  Controls (Some v) Steps = VariableBuilt s t v × (Steps → StepsBuilt v)

  stored_controls : (left : Stored) (assigned : Option ℕ) → InPlace left → Controls (variable_stored left assigned) (assigned ≡ None)
  stored_controls _ None (in_cell home key b) = (b, λ e. tt)
  stored_controls _ (Some n) (in_cell home key b) = (b, λ e. absurd (cc))
  stored_controls _ None (at_place e b) = (b, λ e. tt)
  stored_controls _ (Some n) (at_place e b) = (b, λ e. absurd (cc))

  with_steps : (v : Option Variable) (First Second : Type 0) → (Second → First) → Controls v First → Controls v Second
  with_steps None First Second f c = absurd c
  with_steps (Some v) First Second f c = (c.0, λ z. c.1 (f z))

  left_controls : (name : Identifier) (assigned : Option ℕ) (h : Holds) → by_name s (syntax.Named name NoMore) ≡ None → LeftIs s t (syntax.Named name NoMore) h → Controls (variable_stored (stored_left s (syntax.Named name NoMore)) assigned) (assigned ≡ None)
  left_controls name assigned h other a =
      stored_controls (stored_left s (syntax.Named name NoMore)) assigned (found_alone (connection_at s name.token.0) (text_of_procedure s (own_match s (syntax.Named name NoMore))) (syntax.Named name NoMore) (denoted s name.token.0) (line_at s name.token.0) (left_built (syntax.Named name NoMore) h other a))

  -- a step element is over integers alone
  pub controls : (is_text : Bool) (sign : Assignment) (line : ℕ) (name : Identifier) (k : Kind) → ControlIs is_text sign s t (syntax.Named name NoMore) k
      → Controls (variable_of s line (syntax.Named name NoMore) (assigned_by is_text sign line)) (k ≡ kind.Integer)
  controls true assignment.Value line name k a = with_steps (variable_stored (stored_left s (syntax.Named name NoMore)) (Some line)) (Some line ≡ None) (k ≡ kind.Integer) (λ e. let text_kind = (a.1).0 in absurd (cc)) (left_controls name (Some line) (Simply k) a.0 (a.1).1)
  controls true assignment.Reference line name k a = with_steps (variable_stored (stored_left s (syntax.Named name NoMore)) None) (None ≡ None) (k ≡ kind.Integer) (λ e. refl) (left_controls name None (Simply k) a.0 a.1)
  controls false assignment.Value line name k a = with_steps (variable_stored (stored_left s (syntax.Named name NoMore)) None) (None ≡ None) (k ≡ kind.Integer) (λ e. refl) (left_controls name None (Simply k) a.0 a.1)
  controls false assignment.Reference line name k a = (reference_left (syntax.Named name NoMore) (a.1).1, λ e. let r = (a.1).0 in absurd (cc))
