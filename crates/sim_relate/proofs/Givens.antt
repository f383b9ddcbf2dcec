-- An actual parameter by name, where it is closed: its code, and what it gives.
use Rattle.std.proofs.Common.{◌≡◌, ℕ, Bool, true, false, [], ◌∷◌, Option, Some, None, refl, sym, ap, ◌∙◌}
use Rattle.sim_base.specs.declared.numbering.DeclNo.{DeclNo}
use Rattle.sim_scope.specs.declared.scopes.Denotation.{Denotation}
use Rattle.sim_scope.specs.declared.scopes.Denotation.TheVariants as denotation
use Rattle.sim_scope.specs.declared.types.Entry.{Entry}
use Rattle.sim_scope.specs.declared.types.Entry.TheVariants as entry
use Rattle.sim_scope.specs.declared.types.FormalKind.{FormalKind}
use Rattle.sim_scope.specs.declared.types.FormalKind.TheVariants as shape
use Rattle.sim_scope.specs.declared.types.Mode.{Mode}
use Rattle.sim_scope.specs.declared.types.Mode.TheVariants as mode
use Rattle.sim_scope.specs.Scopes.{entry_of}
use Rattle.sim_scope.specs.Source.{Source, denoted, line_at, type_at}
use Rattle.sim_tree.specs.Syntax.{Expression, Expressions, NoMore, Then}
use Rattle.sim_tree.specs.Syntax as syntax
use Rattle.sim_code.specs.Code.{CodeOf}
use Rattle.sim_meaning.specs.Attributes.{attribute_place, connected_object, connection_at, declared_attribute, element_at, entry_at, if_any, parameter_at, place_of_attribute, variable_at}
use Rattle.sim_meaning.specs.Closing.{array_place, by_name, close, close_actual_by, close_all, close_passed, close_place, close_procedure, declared_place, formal_by_name, formal_place, home_of, image_place, in_instance, is_attribute_denoted, is_placed, name_denoted, named_formal, named_place, qualified_if, stream_of, typed_token, variable_place}
use Rattle.sim_meaning.specs.Levels.{qualification}
use Rattle.sim_meaning.specs.Pending.{AttributeOf, Declared, ElementOf, ForPlace, ImageOf, Instances, Key, NamedOf, PlaceOf, Term, Terms, NoMeaning}
use Rattle.codegen_expr.specs.CodeExpr.{ExprAt, ObjectAt, PlaceAt, class_unless}
use Rattle.codegen_expr.specs.Sites.{Inside, Site}
use Rattle.codegen.specs.Agrees.{Agrees}
use Rattle.sim_relate.proofs.ClassNames.{qualification_classed}
use Rattle.sim_relate.proofs.Closing.{close_at, close_procedure_at, place_at}
use Rattle.sim_relate.proofs.Known.{ActualCode, Any, Finds, IsGiven, Kind, LeavesIs, Located, Named, is_fixed, is_read, kind_unless, leaves_any, reads}
use Rattle.sim_relate.proofs.Thunks.{dot_given, kind_given, kind_placed, place_given, through_given}
use Rattle.sim_relate.proofs.Trees.{TermAt}

-- a tree of where something lies, and what it leaves
pub data Placed : Kind → Term → Type 0 where
  no_meaning : {k : Kind} → Placed k NoMeaning
  of_cell : {j : ℕ} {key : Key} → Placed Located (PlaceOf j key)
  of_element : {line : ℕ} {a : Term} {ts : Terms} → Placed Any (ElementOf line a ts)
  of_attribute : {text d line : ℕ} {a : Term} → Placed Located (AttributeOf text (Declared d) None line a)
  of_image : {n : ℕ} → Placed Any (ImageOf n)
  of_name : {j line : ℕ} {key : Key} {value_too : Bool} → Placed Named (NamedOf j key (ForPlace value_too line))

placed_leaves : (s : Source) (k : Kind) (x : Term) → Placed k x → reads s x ≡ true → LeavesIs s x [] (k ∷ [])
placed_leaves s _ _ no_meaning e = tt
placed_leaves s _ _ of_cell e = refl
placed_leaves s _ _ of_element e = refl
placed_leaves s _ _ (of_attribute {text} {d} {line} {a}) e = by_fixed (is_fixed s (Declared d)) refl e
  where
    by_fixed : (b : Bool) → is_fixed s (Declared d) ≡ b → reads s (AttributeOf text (Declared d) None line a) ≡ true → LeavesIs s (AttributeOf text (Declared d) None line a) [] (Located ∷ [])
    by_fixed true f e = let no : is_read (kind_unless (is_fixed s (Declared d)) d) ≡ false = ap (λ b. is_read (kind_unless b d)) f in absurd (cc (sym no ∙ e))
    by_fixed false f e = ap (λ b. kind_unless b d ∷ []) (sym f)
placed_leaves s _ _ of_image e = refl
placed_leaves s _ _ of_name e = refl

module _ (s : Source) (m : Instances) (inst : ℕ) where
  found_in : (k : Kind) (o : Option ℕ) (f : ℕ → Term) → ((j : ℕ) → Placed k (f j)) → Placed k (in_instance o f)
  found_in k None f a = no_meaning
  found_in k (Some j) f a = a j

  variable_placed : (d : DeclNo) (k : Option ℕ) (es : Expressions) → Placed (through_given k None es) (variable_place s m inst d es)
  variable_placed d None NoMore = found_in Located (home_of s m inst d) _ (λ j. of_cell)
  variable_placed d (Some k) NoMore = found_in Located (home_of s m inst d) _ (λ j. of_cell)
  variable_placed d None (Then e es) = no_meaning
  variable_placed d (Some k) (Then e es) = no_meaning

  array_placed : (line : ℕ) (d : DeclNo) (f : Option DeclNo) (es : Expressions) (ts : Terms) → Placed (through_given None f es) (array_place s m inst line d es ts)
  array_placed line d f NoMore ts = no_meaning
  array_placed line d None (Then e es) ts = found_in Any (home_of s m inst d) _ (λ j. of_element)
  array_placed line d (Some x) (Then e es) ts = found_in Any (home_of s m inst d) _ (λ j. of_element)

  formal_placed : (line : ℕ) (d : DeclNo) (by : Mode) (kind : FormalKind) (es : Expressions) (ts : Terms) → Placed (through_given None (named_formal by kind d) es) (formal_place s m inst line d by kind es ts)
  formal_placed line d mode.ByName shape.Simple NoMore ts = found_in Named (home_of s m inst d) _ (λ j. of_name)
  formal_placed line d mode.ByName shape.Simple (Then e es) ts = no_meaning
  formal_placed line d mode.ByName shape.Array NoMore ts = no_meaning
  formal_placed line d mode.ByName shape.Array (Then e es) ts = found_in Any (home_of s m inst d) _ (λ j. of_element)
  formal_placed line d mode.ByName shape.Procedure es ts = no_meaning
  formal_placed line d mode.ByValue shape.Simple es ts = variable_placed d None es
  formal_placed line d mode.ByValue shape.Array es ts = array_placed line d None es ts
  formal_placed line d mode.ByValue shape.Procedure es ts = no_meaning
  formal_placed line d mode.ByReference shape.Simple es ts = variable_placed d None es
  formal_placed line d mode.ByReference shape.Array es ts = array_placed line d None es ts
  formal_placed line d mode.ByReference shape.Procedure es ts = no_meaning

  declared_placed : (line : ℕ) (d : DeclNo) (o : Option Entry) (es : Expressions) (ts : Terms) → Placed (through_given None (formal_by_name d o) es) (declared_place s m inst line d o es ts)
  declared_placed line d (Some (entry.Variable type)) es ts = variable_placed d None es
  declared_placed line d (Some (entry.Array element dimensions)) es ts = array_placed line d None es ts
  declared_placed line d (Some (entry.Formal f)) es ts = formal_placed line d f.mode f.kind es ts
  declared_placed line d (Some (entry.Constant type)) es ts = no_meaning
  declared_placed line d (Some (entry.Procedure result block)) es ts = no_meaning
  declared_placed line d (Some (entry.Virtual result own)) es ts = no_meaning
  declared_placed line d (Some (entry.Attribute name parameter result)) es ts = no_meaning
  declared_placed line d _ es ts = no_meaning

  -- an attribute of an object
  variable_at_object : (line : ℕ) (d : DeclNo) (object : Term) (es : Expressions) → Placed (dot_given None es) (variable_at (attribute_place s line d object) es)
  variable_at_object line d object NoMore = of_attribute
  variable_at_object line d object (Then e es) = no_meaning

  element_at_object : (line : ℕ) (d : DeclNo) (object : Term) (es : Expressions) (ts : Terms) → Placed (dot_given None es) (element_at line (attribute_place s line d object) es ts)
  element_at_object line d object NoMore ts = no_meaning
  element_at_object line d object (Then e es) ts = of_element

  parameter_placed : (line : ℕ) (d : DeclNo) (kind : FormalKind) (object : Term) (es : Expressions) (ts : Terms) → Placed (dot_given None es) (parameter_at line kind (attribute_place s line d object) es ts)
  parameter_placed line d shape.Simple object es ts = variable_at_object line d object es
  parameter_placed line d shape.Array object es ts = element_at_object line d object es ts
  parameter_placed line d shape.Procedure object es ts = no_meaning

  entry_placed : (line : ℕ) (d : DeclNo) (o : Option Entry) (object : Term) (es : Expressions) (ts : Terms) → Placed (dot_given None es) (entry_at s line d o object es ts)
  entry_placed line d (Some (entry.Variable type)) object es ts = variable_at_object line d object es
  entry_placed line d (Some (entry.Array element dimensions)) object es ts = element_at_object line d object es ts
  entry_placed line d (Some (entry.Formal f)) object es ts = parameter_placed line d f.kind object es ts
  entry_placed line d (Some (entry.Constant type)) object es ts = no_meaning
  entry_placed line d (Some (entry.Procedure result block)) object es ts = no_meaning
  entry_placed line d (Some (entry.Virtual result own)) object es ts = no_meaning
  entry_placed line d (Some (entry.Attribute name parameter result)) object es ts = no_meaning
  entry_placed line d _ object es ts = no_meaning

  attribute_placed : (line : ℕ) (o : Option Denotation) (object : Term) (es : Expressions) (ts : Terms) → Placed (dot_given None es) (if_any (declared_attribute o) (place_of_attribute s line object es ts) NoMeaning)
  attribute_placed line (Some (denotation.Declared d)) object es ts = entry_placed line d (entry_of s.tables d) object es ts
  attribute_placed line (Some (denotation.Standard name)) object es ts = no_meaning
  attribute_placed line None object es ts = no_meaning

  connected_given : (k : ℕ) (f : Option DeclNo) (es : Expressions) (x : Term) → Placed (dot_given None es) x → Placed (through_given (Some k) f es) x
  connected_given k f NoMore x a = a
  connected_given k f (Then e es) x a = a

  through_placed : (line : ℕ) (k : Option ℕ) (o : Option Denotation) (es : Expressions) (ts : Terms) → is_attribute_denoted s o es ≡ true
      → Placed (through_given k (name_denoted s o) es) (if_any k (λ k. if_any (declared_attribute o) (place_of_attribute s line (connected_object s m inst k) es ts) NoMeaning) (named_place s m inst line o es ts))
  through_placed line (Some k) o es ts e = connected_given k (name_denoted s o) es _ (attribute_placed line o (connected_object s m inst k) es ts)
  through_placed line None (Some (denotation.Declared d)) es ts e = declared_placed line d (entry_of s.tables d) es ts
  through_placed line None (Some (denotation.Standard name)) es ts e = absurd (cc (e))
  through_placed line None None es ts e = absurd (cc (e))

  dot_placed : (stream : Option ℕ) (es : Expressions) (x : Term) → Placed (dot_given None es) x → Placed (dot_given stream es) (image_place stream x)
  dot_placed None es x a = a
  dot_placed (Some n) NoMore x a = of_image
  dot_placed (Some n) (Then e es) x a = of_image

  -- where a variable lies that has no class
  placed_at : (x : Expression) → is_placed s x ≡ true → Placed (place_given s x) (close_place s m inst x)
  unfolding is_placed
  placed_at (syntax.Named name es) e = through_placed (line_at s name.token.0) (connection_at s name.token.0) (denoted s name.token.0) es (close_all s m inst es) e
  placed_at (syntax.Dot token a name es) e = dot_placed (stream_of s a) es _ (attribute_placed (line_at s name.token.0) (denoted s name.token.0) (close s m inst a) es (close_all s m inst es))
  placed_at (syntax.If token c x y) e = absurd (cc (e))
  placed_at (syntax.Binary op token x y) e = absurd (cc (e))
  placed_at (syntax.Not token x) e = absurd (cc (e))
  placed_at (syntax.Signed k token x) e = absurd (cc (e))
  placed_at (syntax.Member member token x class) e = absurd (cc (e))
  placed_at (syntax.Qua token x class) e = absurd (cc (e))
  placed_at (syntax.Constant x token) e = absurd (cc (e))
  placed_at (syntax.This token class) e = absurd (cc (e))
  placed_at (syntax.New token class es) e = absurd (cc (e))
  placed_at (syntax.Parentheses token x) e = absurd (cc (e))

module _ (s : Source) (code : CodeOf) (m : Instances) (inst : ℕ) (site : Site) (agrees : Agrees s) (reach : (u : ℕ) → Inside s.tables site.text u → Finds s m inst u) (x : Expression) (p q : ℕ) where
  -- the tree evaluates, and leaves such a value
  abbrev pub ClosedAt : Term → Kind → Type 0
  ClosedAt t k = TermAt s code m inst site 0 t p q × LeavesIs s t [] (k ∷ [])

  plainly : is_placed s x ≡ true → PlaceAt s code site 0 0 x p q → ClosedAt (close_place s m inst x) (place_given s x)
  plainly is a =
      let y = place_at s code m inst site agrees reach None x 0 p q a in
      (y.0, placed_leaves s (place_given s x) (close_place s m inst x) (placed_at s m inst x is) y.1)

  by_class : (f : Option DeclNo) (c : Option ℕ) → qualification s (type_at s (typed_token x)) ≡ c → is_placed s x ≡ true → PlaceAt s code site 0 (class_unless s code f c) x p q → ClosedAt (qualified_if c f (close_place s m inst x)) (kind_placed s true f c x)
  by_class None None e is a = plainly is a
  by_class (Some d) None e is a = plainly is a
  by_class (Some d) (Some k) e is a = plainly is a
  by_class None (Some k) e is a =
      let y = place_at s code m inst site agrees reach (Some (record { class = k; is_class = qualification_classed s (type_at s (typed_token x)) k e })) x 0 p q a in
      (y.term, y.leaves [])

  by_place : (b : Bool) → is_placed s x ≡ b → ObjectAt b (PlaceAt s code site 0 (class_unless s code (by_name s x) (qualification s (type_at s (typed_token x)))) x) (ExprAt s code site 0 x) p q → ClosedAt (close_actual_by b s m inst x) (kind_placed s b (by_name s x) (qualification s (type_at s (typed_token x))) x)
  by_place true is a = by_class (by_name s x) (qualification s (type_at s (typed_token x))) refl is a
  by_place false is a = let y = close_at s code m inst site agrees reach x 0 p q a in (y.0, leaves_any s (close s m inst x) [] y.1)

  -- a procedure is not called
  pub close_passed_at : (as_procedure : Bool) → ActualCode s code site as_procedure x p q → ClosedAt (close_passed as_procedure s m inst x) (kind_given s as_procedure x)
  close_passed_at true a = let y = close_procedure_at s code m inst site agrees reach x 0 p q a in (y.0, leaves_any s (close_procedure s m inst x) [] y.1)
  close_passed_at false a = by_place (is_placed s x) refl a

-- what an actual gives may be given
pub given_kind : (s : Source) (as_procedure : Bool) (x : Expression) → IsGiven s (kind_given s as_procedure x)
given_kind s true x = tt
given_kind s false x = by_parts (is_placed s x) (by_name s x) (qualification s (type_at s (typed_token x))) refl
  where
    through : (k : Option ℕ) (f : Option DeclNo) (es : Expressions) → IsGiven s (through_given k f es)
    through None None NoMore = tt
    through None (Some d) NoMore = tt
    through (Some k) f NoMore = tt
    through k f (Then e es) = tt

    dotted : (k : Option ℕ) (es : Expressions) → IsGiven s (dot_given k es)
    dotted None NoMore = tt
    dotted None (Then e es) = tt
    dotted (Some k) es = tt

    place : (x : Expression) → IsGiven s (place_given s x)
    place (syntax.Named name es) = through (connection_at s name.token.0) (name_denoted s (denoted s name.token.0)) es
    place (syntax.Dot token a name es) = dotted (stream_of s a) es
    place _ = tt

    by_parts : (b : Bool) (f : Option DeclNo) (c : Option ℕ) → qualification s (type_at s (typed_token x)) ≡ c → IsGiven s (kind_placed s b f c x)
    by_parts false f c e = tt
    by_parts true None None e = place x
    by_parts true None (Some k) e = qualification_classed s (type_at s (typed_token x)) k e
    by_parts true (Some d) None e = place x
    by_parts true (Some d) (Some k) e = place x
