-- Where a variable, an element or an attribute lies, and what an actual parameter by name gives.
use Rattle.std.proofs.Common.{◌≡◌, ℕ, Bool, true, false, List, Option, Some, None, refl, sym, ap, ◌∙◌, subst}
use Rattle.sim_base.specs.declared.numbering.DeclNo.{DeclNo}
use Rattle.sim_scope.specs.declared.scopes.Denotation.{Denotation}
use Rattle.sim_scope.specs.declared.scopes.Denotation.TheVariants as denotation
use Rattle.sim_scope.specs.declared.types.Entry.{Entry}
use Rattle.sim_scope.specs.declared.types.Entry.TheVariants as entry
use Rattle.sim_scope.specs.declared.types.Formal.{Formal}
use Rattle.sim_scope.specs.declared.types.FormalKind.{FormalKind}
use Rattle.sim_scope.specs.declared.types.FormalKind.TheVariants as shape
use Rattle.sim_scope.specs.declared.types.Mode.{Mode}
use Rattle.sim_scope.specs.declared.types.Mode.TheVariants as mode
use Rattle.sim_scope.specs.declared.types.SimType.{SimType}
use Rattle.sim_scope.specs.Scopes.{entry_of}
use Rattle.sim_scope.specs.Source.{Source, denoted, line_at, type_at}
use Rattle.sim_tree.specs.declared.expr.Identifier.{Identifier}
use Rattle.sim_tree.specs.Syntax.{Expression, Expressions, NoMore, Then}
use Rattle.sim_tree.specs.Syntax as syntax
use Rattle.sim_values.specs.declared.kind.Kind.{Kind}
use Rattle.sim_values.specs.declared.kind.Kind.TheVariants as kind
use Rattle.sim_meaning.specs.Attributes.{attribute_place, connected_object, connection_at, declared_attribute, element_at, entry_at, if_any, is_standard_attribute, own_attribute, parameter_at, place_of_attribute, qualified, variable_at}
use Rattle.sim_meaning.specs.Closing.{array_place, by_name, close, close_actual, close_actual_by, close_all, close_passed, close_place, declared_place, named_array_place, has_operands, is_attribute_denoted, is_variable_entry, is_variable_formal, named_formal, formal_by_name, formal_place, home_of, image_place, in_instance, is_placed, name_denoted, name_term, named_place, qualified_if, stream_of, type_of_formal, typed_token, variable_place}
use Rattle.sim_meaning.specs.Levels.{qualification}
use Rattle.sim_values.specs.Standard.{row_of}
use Rattle.sim_meaning.specs.Pending.{ActualOf, ForPlace, ForValue, NamedOf, Use, SetOf, ProcessOf, SimulationOf, AttributeOf, CallOf, Cell, CopyOf, Declared, Either, ElementOf, FitsOf, Given, ImageOf, Instances, Joined, KeptOf, MemberOf, NewOf, NoTerm, NotNoneOf, One, PlaceOf, QualifiedElementOf, QualifiedPlaceOf, QuaOf, RemoteCallOf, StandardOf, Term, Terms, TransferOf, Two, NoMeaning, ValueAt, CheckedOf, ForParameter, MatchOf, OriginOf, ProcedureOf, RemoteProcedureOf}
use Rattle.sim_meaning.specs.Texts.{kind_of_type}
use Rattle.sim_sound.specs.Held.{Fits, formal_means, ArrayOf, ByName, Holds, Place, Refers, Sees, Simply, entry_names, held_by, Procedure}
use Rattle.sim_sound.specs.Expressions.{DotGives, ActualIs, ArrayNames, HeldNames, NamedIs, ParametersAre, VariableNames, ActualPassed, ActualsFit, AreIntegers, AreOf, DeclaredGives, ExprIs, IdentifierGives, KnownAt, LeftHeld, ObjectHas, PlaceDeclared, PlaceDot, PlaceIs, NamedGives, PlaceNamed, VariablePassed, some_holds, standard_kind}
use Rattle.sim_sound.specs.Statements.{LeftDeclared}
use Rattle.sim_sound.specs.Typed.{Typed}
use Rattle.sim_sound.proofs.Attributes.{IsNoProcedure, held_plain, names_variable, held_of_kind, held_qualified, left_known, named_entry, text_left}
use Rattle.sim_sound.proofs.Calls.{own_denoted, own_is_attribute}
use Rattle.sim_sound.proofs.Closing.{alone_fine, formal_no_procedure, attribute_lies, connected_other, expr_fine, integers_fine, lies_at, named_lies, named_place_lies, value_no_stream}
use Rattle.sim_sound.proofs.Lists.{no_some}
use Rattle.sim_sound.proofs.Running.{StoreFine}
use Rattle.sim_sound.proofs.Sound.{GetsKind, Makes, Gets, actual_gives, actual_gives_by, place_gives, ShowsObject, IntegersFine, TermFine}
use Rattle.sim_sound.proofs.Values.{IsPlain, Stands, Whichever, ObjectIn, AddressOf, AllArrays, CellTarget, Component, Copied, Kinds, Lasting, ReferenceAddress, Value, held_kinds, NewObject}

-- ---- places are no choices

abbrev NoChoice : Term → Type 0
NoChoice (Either c a b) = ⊥
NoChoice _ = Unit {0}

some_choice : {A : Type 0} (x : Option A) (f : A → Term) (other : Term) → ((a : A) → NoChoice (f a)) → NoChoice other → NoChoice (if_any x f other)
some_choice None f other p q = q
some_choice (Some a) f other p q = p a

in_choice : (x : Option ℕ) (f : ℕ → Term) → ((j : ℕ) → NoChoice (f j)) → NoChoice (in_instance x f)
in_choice None f p = tt
in_choice (Some j) f p = p j

variable_at_choice : (place : Term) (es : Expressions) → NoChoice place → NoChoice (variable_at place es)
variable_at_choice place NoMore p = p
variable_at_choice place (Then e es) p = tt

element_at_choice : (line : ℕ) (place : Term) (es : Expressions) (ts : Terms) → NoChoice (element_at line place es ts)
element_at_choice line place NoMore ts = tt
element_at_choice line place (Then e es) ts = tt

parameter_choice : (line : ℕ) (g : FormalKind) (place : Term) (es : Expressions) (ts : Terms) → NoChoice place → NoChoice (parameter_at line g place es ts)
parameter_choice line shape.Simple place es ts p = variable_at_choice place es p
parameter_choice line shape.Array place es ts p = element_at_choice line place es ts
parameter_choice line shape.Procedure place es ts p = tt

entry_choice : (s : Source) (line : ℕ) (d : DeclNo) (e : Option Entry) (object : Term) (es : Expressions) (ts : Terms) → NoChoice (entry_at s line d e object es ts)
entry_choice s line d (Some (entry.Variable ty)) object es ts = variable_at_choice (attribute_place s line d object) es tt
entry_choice s line d (Some (entry.Array ty n)) object es ts = element_at_choice line (attribute_place s line d object) es ts
entry_choice s line d (Some (entry.Formal f)) object es ts = parameter_choice line f.kind (attribute_place s line d object) es ts tt
entry_choice s line d None object es ts = tt
entry_choice s line d (Some _) object es ts = tt

variable_choice : (s : Source) (m : Instances) (i : ℕ) (d : DeclNo) (es : Expressions) → NoChoice (variable_place s m i d es)
variable_choice s m i d NoMore = in_choice (home_of s m i d) (λ j. PlaceOf j (Declared d.0)) (λ j. tt)
variable_choice s m i d (Then e es) = tt

array_choice : (s : Source) (m : Instances) (i line : ℕ) (d : DeclNo) (es : Expressions) (ts : Terms) → NoChoice (array_place s m i line d es ts)
array_choice s m i line d NoMore ts = tt
array_choice s m i line d (Then e es) ts = in_choice (home_of s m i d) (λ j. ElementOf line (Cell j (Declared d.0)) ts) (λ j. tt)

named_array_choice : (s : Source) (m : Instances) (i line : ℕ) (d : DeclNo) (es : Expressions) (ts : Terms) → NoChoice (named_array_place s m i line d es ts)
named_array_choice s m i line d NoMore ts = tt
named_array_choice s m i line d (Then e es) ts = in_choice (home_of s m i d) (λ j. ElementOf line (NamedOf j (Declared d.0) (ForValue None line)) ts) (λ j. tt)

name_choice : (s : Source) (m : Instances) (i : ℕ) (d : DeclNo) (es : Expressions) (wanted : Use) → NoChoice (name_term s m i d es wanted)
name_choice s m i d NoMore wanted = in_choice (home_of s m i d) (λ j. NamedOf j (Declared d.0) wanted) (λ j. tt)
name_choice s m i d (Then e es) wanted = tt

formal_choice : (s : Source) (m : Instances) (i line : ℕ) (d : DeclNo) (f : Mode) (g : FormalKind) (es : Expressions) (ts : Terms) → NoChoice (formal_place s m i line d f g es ts)
formal_choice s m i line d mode.ByName shape.Simple es ts = name_choice s m i d es (ForPlace true line)
formal_choice s m i line d mode.ByName shape.Array es ts = named_array_choice s m i line d es ts
formal_choice s m i line d mode.ByName shape.Procedure es ts = tt
formal_choice s m i line d mode.ByValue shape.Simple es ts = variable_choice s m i d es
formal_choice s m i line d mode.ByReference shape.Simple es ts = variable_choice s m i d es
formal_choice s m i line d mode.ByValue shape.Array es ts = array_choice s m i line d es ts
formal_choice s m i line d mode.ByReference shape.Array es ts = array_choice s m i line d es ts
formal_choice s m i line d mode.ByValue shape.Procedure es ts = tt
formal_choice s m i line d mode.ByReference shape.Procedure es ts = tt

declared_choice : (s : Source) (m : Instances) (i line : ℕ) (d : DeclNo) (e : Option Entry) (es : Expressions) (ts : Terms) → NoChoice (declared_place s m i line d e es ts)
declared_choice s m i line d (Some (entry.Variable ty)) es ts = variable_choice s m i d es
declared_choice s m i line d (Some (entry.Array ty n)) es ts = array_choice s m i line d es ts
declared_choice s m i line d (Some (entry.Formal f)) es ts = formal_choice s m i line d f.mode f.kind es ts
declared_choice s m i line d None es ts = tt
declared_choice s m i line d (Some _) es ts = tt

named_choice : (s : Source) (m : Instances) (i line : ℕ) (x : Option Denotation) (es : Expressions) (ts : Terms) → NoChoice (named_place s m i line x es ts)
named_choice s m i line (Some (denotation.Declared d)) es ts = declared_choice s m i line d (entry_of s.tables d) es ts
named_choice s m i line (Some (denotation.Standard n)) es ts = tt
named_choice s m i line None es ts = tt

image_choice : (x : Option ℕ) (other : Term) → NoChoice other → NoChoice (image_place x other)
image_choice None other p = p
image_choice (Some n) other p = tt

pub place_choice : (s : Source) (m : Instances) (i : ℕ) (e : Expression) → NoChoice (close_place s m i e)
place_choice s m i (syntax.Named name es) =
    some_choice (connection_at s name.token.0) _ _ (λ k. some_choice (declared_attribute (denoted s name.token.0)) _ NoMeaning (λ d. entry_choice s (line_at s name.token.0) d (entry_of s.tables d) (connected_object s m i k) es (close_all s m i es)) tt)
    (named_choice s m i (line_at s name.token.0) (denoted s name.token.0) es (close_all s m i es))
place_choice s m i (syntax.Dot token a name es) =
    image_choice (stream_of s a) _ (some_choice (declared_attribute (denoted s name.token.0)) _ NoMeaning (λ d. entry_choice s (line_at s name.token.0) d (entry_of s.tables d) (close s m i a) es (close_all s m i es)) tt)
place_choice s m i _ = tt

-- ---- what is declared

pub left_held : (s : Source) (Known : Type 0) (Own : ℕ → Type 0) (es : Expressions) (Indices : Type 0) (e : Option Entry) (h : Holds) → ((k : ℕ) → Own k → ⊥) → LeftDeclared s Known Own es Indices e h → LeftHeld Known es Indices (entry_names s e) h
left_held s Known Own NoMore Indices (Some (entry.Procedure (Some ty) k)) h no_own a = absurd (no_own k a.1)
left_held s Known Own NoMore Indices (Some (entry.Procedure None k)) h no_own a = a
left_held s Known Own (Then x es) Indices (Some (entry.Procedure r k)) h no_own a = absurd a
left_held s Known Own NoMore Indices (Some (entry.Variable ty)) h no_own a = a
left_held s Known Own (Then x es) Indices (Some (entry.Variable ty)) h no_own a = a
left_held s Known Own NoMore Indices (Some (entry.Array ty n)) h no_own a = a
left_held s Known Own (Then x es) Indices (Some (entry.Array ty n)) h no_own a = a
left_held s Known Own NoMore Indices (Some (entry.Formal f)) h no_own a = a
left_held s Known Own (Then x es) Indices (Some (entry.Formal f)) h no_own a = a
left_held s Known Own NoMore Indices None h no_own a = absurd a
left_held s Known Own (Then x es) Indices None h no_own a = absurd a
left_held s Known Own NoMore Indices (Some _) h no_own a = absurd a
left_held s Known Own (Then x es) Indices (Some _) h no_own a = absurd a

pub place_held : (s : Source) (Known : Type 0) (es : Expressions) (Indices : Type 0) (e : Option Entry) (h : Holds) → PlaceDeclared s Known es Indices e h → LeftHeld Known es Indices (entry_names s e) h
place_held s Known es Indices (Some (entry.Procedure r k)) h a = absurd a
place_held s Known es Indices (Some (entry.Variable ty)) h a = a
place_held s Known es Indices (Some (entry.Array ty n)) h a = a
place_held s Known es Indices (Some (entry.Formal f)) h a = a
place_held s Known es Indices (Some (entry.Constant ty)) h a = a
place_held s Known es Indices None h a = absurd a
place_held s Known es Indices (Some _) h a = a

-- ---- arrays are no places

module _ (s : Source) (from : Place) where
  no_array : (g h : Holds) → IsPlain g → Fits s g (ArrayOf h) → ⊥
  no_array (Simply k) h is f = f
  no_array (Refers c) h is f = f
  no_array (ArrayOf k) h is f = is
  no_array (Procedure q) h is f = is
  no_array (ByName k) h is f = is

  no_variable : (Known : Type 0) (es : Expressions) (g h : Holds) → IsPlain g → VariableNames s Known es g (ArrayOf h) → ⊥
  no_variable Known NoMore g h is a = no_array g h is a.0
  no_variable Known (Then e es) g h is a = a

  no_element : (Known : Type 0) (es : Expressions) (Indices : Type 0) (g h : Holds) → IsPlain g → has_operands es ≡ true → ArrayNames s Known es Indices g (ArrayOf h) → ⊥
  no_element Known NoMore Indices g h is v a = cc
  no_element Known (Then e es) Indices g h is v a = no_array g h is a.0

  no_array_declared : (Known : Type 0) (d : DeclNo) (e : Option Entry) (es : Expressions) (Indices Checked : Type 0) (Actuals : List Formal → Type 0) (h : Holds) → is_variable_entry e es ≡ true → DeclaredGives s Known d es Indices Checked Actuals e (Some (ArrayOf h)) → ⊥
  no_array_declared Known d (Some (entry.Variable ty)) es Indices Checked Actuals h v a = no_variable Known es (held_by s ty) h (held_plain s ty) (names_variable s Known es Indices Checked (held_by s ty) (ArrayOf h) (held_plain s ty) a)
  no_array_declared Known d (Some (entry.Array ty n)) es Indices Checked Actuals h v a = no_element Known es Indices (held_by s ty) h (held_plain s ty) v a
  no_array_declared Known d (Some (entry.Formal f)) es Indices Checked Actuals h v a = by_kind f.kind f.ty v a
    where
      by_kind : (g : FormalKind) (ty : Option SimType) → is_variable_formal g es ≡ true → HeldNames s Known es Indices Checked (formal_means s g ty) (ArrayOf h) → ⊥
      by_kind shape.Simple (Some ty) v a = no_variable Known es (held_by s ty) h (held_plain s ty) (names_variable s Known es Indices Checked (held_by s ty) (ArrayOf h) (held_plain s ty) a)
      by_kind shape.Array (Some ty) v a = no_element Known es Indices (held_by s ty) h (held_plain s ty) v a
      by_kind shape.Simple None v a = a
      by_kind shape.Array None v a = a
      by_kind shape.Procedure ty v a = cc
  no_array_declared Known d None es Indices Checked Actuals h v a = a
  no_array_declared Known d (Some _) es Indices Checked Actuals h v a = cc

  no_attribute_placed : (e : Option Entry) (es : Expressions) → is_standard_attribute e ≡ true → is_variable_entry e es ≡ true → ⊥
  no_attribute_placed (Some (entry.Attribute n parameter result)) es f v = cc
  no_attribute_placed None es f v = cc
  no_attribute_placed (Some (entry.Variable ty)) es f v = cc
  no_attribute_placed (Some (entry.Array ty n)) es f v = cc
  no_attribute_placed (Some (entry.Formal g)) es f v = cc
  no_attribute_placed (Some _) es f v = cc

  no_array_named : (c : Option ℕ) (x : Option Denotation) (es : Expressions) (Indices Checked : Type 0) (Operands : List Kind → Type 0) (Actuals : List Formal → Type 0) (h : Holds) → is_attribute_denoted s x es ≡ true → NamedGives s from c x es Indices Checked Operands Actuals (Some (ArrayOf h)) → ⊥
  no_array_named c (Some (denotation.Declared d)) es Indices Checked Operands Actuals h v a = no_array_declared (KnownAt s from c d) d (entry_of s.tables d) es Indices Checked Actuals h v a
  no_array_named c (Some (denotation.Standard n)) es Indices Checked Operands Actuals h v a = cc
  no_array_named c None es Indices Checked Operands Actuals h v a = cc

  no_array_identifier : (token : ℕ) (c : Option ℕ) (own : Option DeclNo) (es : Expressions) (Indices Checked : Type 0) (Operands : List Kind → Type 0) (Actuals : List Formal → Type 0) (h : Holds) → own_attribute s token ≡ own → is_attribute_denoted s (denoted s token) es ≡ true → IdentifierGives s from token c own es Indices Checked Operands Actuals (Some (ArrayOf h)) → ⊥
  no_array_identifier token None None es Indices Checked Operands Actuals h e v a = no_array_named None (denoted s token) es Indices Checked Operands Actuals h v a
  no_array_identifier token (Some k) own es Indices Checked Operands Actuals h e v a = no_array_named (Some k) (denoted s token) es Indices Checked Operands Actuals h v a
  no_array_identifier token None (Some d) es Indices Checked Operands Actuals h e v a = no_attribute_placed (entry_of s.tables d) es (own_is_attribute s token d e) (ap (λ z. is_attribute_denoted s z es) (sym (own_denoted s token d e)) ∙ v)

  no_array_dot : (x : Option Denotation) (stream : Option ℕ) (Front : Type 0) (Object : ℕ → Type 0) (es : Expressions) (Indices Checked : Type 0) (Operands : List Kind → Type 0) (Actuals : List Formal → Type 0) (h : Holds) → is_attribute_denoted s x es ≡ true → DotGives s x stream Front Object es Indices Checked Operands Actuals (Some (ArrayOf h)) → ⊥
  no_array_dot (Some (denotation.Declared d)) stream Front Object es Indices Checked Operands Actuals h v a = no_array_declared (ObjectHas s Object d) d (entry_of s.tables d) es Indices Checked Actuals h v a
  no_array_dot (Some (denotation.Standard n)) stream Front Object es Indices Checked Operands Actuals h v a = cc
  no_array_dot None stream Front Object es Indices Checked Operands Actuals h v a = a

  pub no_array_placed : (e : Expression) (h : Holds) → ExprIs s from e (ArrayOf h) → is_placed s e ≡ true → ⊥
  unfolding is_placed
  no_array_placed (syntax.Named name es) h a v = no_array_identifier name.token.0 (connection_at s name.token.0) (own_attribute s name.token.0) es (AreIntegers s from es) (ParametersAre s from es) (λ ks. AreOf s from es ks) (λ fs. ActualsFit s from es fs) h refl v a
  no_array_placed (syntax.Dot token x name es) h a v = no_array_dot (denoted s name.token.0) (stream_of s x) (ExprIs s from x (Simply kind.Text)) (λ c. ExprIs s from x (Refers c)) es (AreIntegers s from es) (ParametersAre s from es) (λ ks. AreOf s from es ks) (λ fs. ActualsFit s from es fs) h v a
  no_array_placed _ h a v = cc

module _ (s : Source) (ok : Typed s) (o : AllArrays) (m : Instances) (store : StoreFine s o m) (i t : ℕ) (todo : List DeclNo) (from : Place) (at : Stands s m i from) where
  abbrev pub Fine : Term → Option Kinds → Type 0
  Fine x g = TermFine s m i t todo x g

  ints : (es : Expressions) → AreIntegers s from es → IntegersFine s m i t todo (close_all s m i es)
  ints es a = integers_fine s ok o m store i t todo from at es a

  -- ---- attributes, and what is named

  -- where an attribute lies that is behind a dot
  pub dot_held : (token : ℕ) (a : Expression) (name : Identifier) (es : Expressions) (d : DeclNo) (h : Holds) → denoted s name.token.0 ≡ Some (denotation.Declared d) → LeftHeld (ObjectHas s (λ c. ExprIs s from a (Refers c)) d) es (AreIntegers s from es) (entry_names s (entry_of s.tables d)) h → Fine (close_place s m i (syntax.Dot token a name es)) (Some (AddressOf h))
  dot_held token a name es d h e held =
      let known = left_known s (ObjectHas s (λ c. ExprIs s from a (Refers c)) d) d es (AreIntegers s from es) (entry_names s (entry_of s.tables d)) h held in
      let fine = attribute_lies s ok o m store i t todo from at (line_at s name.token.0) es (close_all s m i es) (λ fs. NoTerm) (AreIntegers s from es) ⊥ (λ ks. ⊥) (λ fs. ⊥) (λ y. ints es y) (λ y. absurd y) (λ ks y. absurd y) (λ fs y. absurd y) (close s m i a) known.0 (ObjectHas s (λ c. ExprIs s from a (Refers c)) d) d h known.2 (expr_fine s ok o m store i t todo from at a (Refers known.0) known.3) held in
      subst (λ z. Fine (image_place z (if_any (declared_attribute (denoted s name.token.0)) (place_of_attribute s (line_at s name.token.0) (close s m i a) es (close_all s m i es)) NoMeaning)) (Some (AddressOf h))) (sym (value_no_stream s ok o m store i t todo from at a (Refers known.0) known.3))
      (subst (λ z. Fine (if_any (declared_attribute z) (place_of_attribute s (line_at s name.token.0) (close s m i a) es (close_all s m i es)) NoMeaning) (Some (AddressOf h))) (sym e) fine)

  abbrev place_at : Identifier → Expressions → (connection : Option ℕ) → Option Denotation → Term
  place_at name es c x =
      if_any c (λ k. if_any (declared_attribute x) (place_of_attribute s (line_at s name.token.0) (connected_object s m i k) es (close_all s m i es)) NoMeaning)
      (named_place s m i (line_at s name.token.0) x es (close_all s m i es))

  placed_at : (name : Identifier) (es : Expressions) (c : Option ℕ) (x : Option Denotation) (y : Kinds) → connection_at s name.token.0 ≡ c → denoted s name.token.0 ≡ x → Fine (place_at name es c x) (Some y) → Fine (close_place s m i (syntax.Named name es)) (Some y)
  placed_at name es c x y in_c is fine = subst (λ z. Fine (place_at name es z (denoted s name.token.0)) (Some y)) (sym in_c) (subst (λ z. Fine (place_at name es c z) (Some y)) (sym is) fine)

  -- where a variable or an element lies that is named, and no parameter by name
  pub named_held : (name : Identifier) (es : Expressions) (c : Option ℕ) (d : DeclNo) (h : Holds) → connection_at s name.token.0 ≡ c → denoted s name.token.0 ≡ Some (denotation.Declared d) → formal_by_name d (entry_of s.tables d) ≡ None → LeftHeld (KnownAt s from c d) es (AreIntegers s from es) (entry_names s (entry_of s.tables d)) h → Fine (close_place s m i (syntax.Named name es)) (Some (AddressOf h))
  named_held name es c d h in_c is other a =
      placed_at name es c (Some (denotation.Declared d)) (AddressOf h) in_c is
      (lies_at s ok o m store i t todo from at (line_at s name.token.0) es (close_all s m i es) (λ fs. NoTerm) (AreIntegers s from es) ⊥ (λ ks. ⊥) (λ fs. ⊥) (λ y. ints es y) (λ y. absurd y) (λ ks y. absurd y) (λ fs y. absurd y) c d h other a)

  -- ---- parameters by name

  -- a parameter by name that is used where it lies
  pub record NamedUse (name : Identifier) (named : DeclNo) (h : Holds) : Type 0 where
    pub type : SimType
    pub held : held_by s type ≡ h
    pub has_type : type_of_formal (entry_of s.tables named) ≡ Some type
    pub place : Fine (close_place s m i (syntax.Named name NoMore)) (Some (Whichever true (kind_of_type type)))
    pub used : (value_too : Bool) (line : ℕ) → Fine (name_term s m i named NoMore (ForPlace value_too line)) (Some (Whichever value_too (kind_of_type type)))

  pub name_used : (name : Identifier) (c : Option ℕ) (d named : DeclNo) (h : Holds) → connection_at s name.token.0 ≡ c → denoted s name.token.0 ≡ Some (denotation.Declared d) → formal_by_name d (entry_of s.tables d) ≡ Some named → LeftHeld (KnownAt s from c d) NoMore (AreIntegers s from NoMore) (entry_names s (entry_of s.tables d)) h → NamedUse name named h
  name_used name (Some k) d named h in_c is by a =
      let no : formal_by_name d (entry_of s.tables d) ≡ None = connected_other s ok o m store i t todo from at k d NoMore (AreIntegers s from NoMore) h a in
      absurd (no_some (formal_by_name d (entry_of s.tables d)) named no by)
  name_used name None d named h in_c is by a =
      let x = named_entry s d named (entry_of s.tables d) (Sees s from d) NoMore (AreIntegers s from NoMore) h by a in
      let line = line_at s name.token.0 in
      record {
        type = x.type;
        held = x.held;
        has_type = ap (λ z. type_of_formal (entry_of s.tables z)) (sym x.same) ∙ x.has_type;
        place =
            placed_at name NoMore None (Some (denotation.Declared d)) (Whichever true (kind_of_type x.type)) in_c is
            (named_place_lies s ok o m store i t todo from at line NoMore NoTerm (λ fs. NoTerm) (AreIntegers s from NoMore) ⊥ (λ ks. ⊥) (λ fs. ⊥) (λ y. tt) (λ y. absurd y) (λ ks y. absurd y) (λ fs y. absurd y) d named h by x);
        used = λ value_too at_line.
            subst (λ z. Fine (name_term s m i z NoMore (ForPlace value_too at_line)) (Some (Whichever value_too (kind_of_type x.type)))) x.same
            (named_lies s ok o m store i t todo from at line NoMore NoTerm (λ fs. NoTerm) (AreIntegers s from NoMore) ⊥ (λ ks. ⊥) (λ fs. ⊥) (λ y. tt) (λ y. absurd y) (λ ks y. absurd y) (λ fs y. absurd y) value_too d named at_line h by x);
      }

  -- which expressions are one
  pub no_name : (name : Identifier) (es : Expressions) (d : DeclNo) (Known : Type 0) (Indices : Type 0) (h : Holds) → denoted s name.token.0 ≡ Some (denotation.Declared d) → by_name s (syntax.Named name es) ≡ None → LeftHeld Known es Indices (entry_names s (entry_of s.tables d)) h → formal_by_name d (entry_of s.tables d) ≡ None
  unfolding by_name
  no_name name NoMore d Known Indices h is none a = sym (ap (name_denoted s) is) ∙ none
  no_name name (Then x es) d Known Indices h is none a = by_formal (formal_by_name d (entry_of s.tables d)) refl
    where
      by_formal : (y : Option DeclNo) → formal_by_name d (entry_of s.tables d) ≡ y → formal_by_name d (entry_of s.tables d) ≡ None
      by_formal None e = e
      by_formal (Some named) e = let z = named_entry s d named (entry_of s.tables d) Known (Then x es) Indices h e a in let more = z.alone in absurd (cc)

  pub named_alone : (name : Identifier) (d named : DeclNo) → denoted s name.token.0 ≡ Some (denotation.Declared d) → by_name s (syntax.Named name NoMore) ≡ Some named → formal_by_name d (entry_of s.tables d) ≡ Some named
  unfolding by_name
  named_alone name d named is by = sym (ap (name_denoted s) is) ∙ by

  -- what denotes no declaration is none
  no_denotation : (name : Identifier) (named : DeclNo) → by_name s (syntax.Named name NoMore) ≡ Some named → (x : Option Denotation) → denoted s name.token.0 ≡ x → name_denoted s x ≡ None → ⊥
  unfolding by_name
  no_denotation name named by x is none = no_some (name_denoted s x) named none (sym (ap (name_denoted s) is) ∙ by)

  pub more_no_name : (name : Identifier) (x : Expression) (es : Expressions) (named : DeclNo) → by_name s (syntax.Named name (Then x es)) ≡ Some named → ⊥
  unfolding by_name
  more_no_name name x es named by = cc

  pub dot_no_name : (token : ℕ) (a : Expression) (name : Identifier) (es : Expressions) (named : DeclNo) → by_name s (syntax.Dot token a name es) ≡ Some named → ⊥
  unfolding by_name
  dot_no_name token a name es named by = cc

  -- a value is no place
  value_no : (h g : Holds) → Some (Value h) ≡ Some (AddressOf g) → ⊥
  value_no h g e = cc

  held_no : (h : Option Holds) (g : Holds) → held_kinds h ≡ Some (AddressOf g) → ⊥
  held_no None g e = cc
  held_no (Some h) g e = cc

  copy_no : (h g : Holds) → Some (Copied h) ≡ Some (AddressOf g) → ⊥
  copy_no h g e = cc

  lasting_no : (h g : Holds) → Some (Lasting h) ≡ Some (AddressOf g) → ⊥
  lasting_no h g e = cc

  shown_no : (h : Holds) (x : Kinds) → ShowsObject s h x → (g : Holds) → Some x ≡ Some (AddressOf g) → ⊥
  shown_no h Component is g e = cc
  shown_no h (ObjectIn k) is g e = cc
  shown_no h _ is g e = absurd is

  none_no : (g : Holds) → None ≡ Some (AddressOf g) → ⊥
  none_no g e = cc

  reference_no : (k : ℕ) (g : Holds) → Some (ReferenceAddress k) ≡ Some (AddressOf g) → ⊥
  reference_no k g e = cc

  address_same : (h g : Holds) → Some (AddressOf h) ≡ Some (AddressOf g) → h ≡ g
  address_same h g e = cc

  address_is : (h g : Holds) (y : Kinds) → AddressOf h ≡ y → Some y ≡ Some (AddressOf g) → h ≡ g
  address_is h g y e f = cc

  no_address : (q : ℕ) (g : Holds) (y : Kinds) → ReferenceAddress q ≡ y → Some y ≡ Some (AddressOf g) → ⊥
  no_address q g y e f = cc

  kind_no : (k : Kind) (wanted : Use) (x : Kinds) (g : Holds) → GetsKind s k wanted x → Some x ≡ Some (AddressOf g) → ⊥
  kind_no k (ForValue None line) x g y e = value_no y.0 g (y.2 ∙ e)
  kind_no k (ForValue (Some c) line) x g y e = let z = y.1 in value_no z.0 g (z.2 ∙ e)
  kind_no k (ForPlace value_too line) x g y e = cc
  kind_no k (ForParameter number line) x g y e = y

  got_no : (h : Holds) (wanted : Use) (x : Kinds) (g : Holds) → Gets s h wanted x → Some x ≡ Some (AddressOf g) → ⊥
  got_no (Simply k) wanted x g y e = kind_no k wanted x g y e
  got_no (ArrayOf q) (ForValue None line) x g y e = value_no (ArrayOf q) g (ap Some (sym y) ∙ e)
  got_no (ArrayOf q) (ForValue (Some c) line) x g y e = y
  got_no (ArrayOf q) (ForPlace value_too line) x g y e = y
  got_no (ArrayOf q) (ForParameter number line) x g y e = y
  got_no (Procedure q) (ForValue None line) x g y e = value_no y.0 g (y.2 ∙ e)
  got_no (Procedure q) (ForValue (Some c) line) x g y e = y
  got_no (Procedure q) (ForPlace value_too line) x g y e = y
  got_no (Procedure q) (ForParameter number line) x g y e = y
  got_no (Refers q) wanted x g y e = y
  got_no (ByName q) wanted x g y e = y

  made_no : (k : ℕ) (x : Kinds) → Makes s k x → (g : Holds) → Some x ≡ Some (AddressOf g) → ⊥
  made_no k (Value h) is g e = value_no h g e
  made_no k (NewObject c) is g e = cc
  made_no k _ is g e = is

  -- a place with its qualification
  pub qualified_fine : (c : ℕ) (x : Term) → NoChoice x → TermFine s m i t todo x (Some (AddressOf (Refers c))) → TermFine s m i t todo (qualified c x) (Some (ReferenceAddress c))
  qualified_fine c (PlaceOf j key) n a = let same : a.0 ≡ Refers c = address_same a.0 (Refers c) a.1 in (refl, subst (λ z. CellTarget s m i j key z) same a.2)
  qualified_fine c (ElementOf line x ts) n a = let same : a.0 ≡ Refers c = address_same a.0 (Refers c) a.1 in (refl, subst (λ z. TermFine s m i t todo x (Some (Value (ArrayOf z)))) same a.2, a.3)
  qualified_fine c (AttributeOf k key None line x) n a =
      let same : a.1 ≡ Refers c = address_is a.1 (Refers c) a.2 a.4 a.5 in
      (a.0, a.1, ReferenceAddress c, a.3, (same, refl), refl, a.6)
  qualified_fine c (AttributeOf k key (Some q) line x) n a = let is = a.4 in absurd (no_address q (Refers c) a.2 is.1 a.5)
  qualified_fine c (Either x y z) n a = absurd n
  qualified_fine c NoMeaning n a = absurd a
  qualified_fine c (Given p) n a = absurd (value_no a.0 (Refers c) a.1)
  qualified_fine c (Cell e key) n a = let y = a.1 in absurd (value_no y.0 (Refers c) y.2)
  qualified_fine c (One op line x) n a = absurd (value_no (Simply a.0) (Refers c) a.2)
  qualified_fine c (Two op line x y) n a = absurd (value_no (Simply a.1) (Refers c) a.3)
  qualified_fine c (ValueAt x) n a = absurd (value_no a.0 (Refers c) a.3)
  qualified_fine c (ImageOf k) n a = absurd (cc)
  qualified_fine c (Joined line x y) n a = absurd (value_no (Simply kind.Text) (Refers c) a.0)
  qualified_fine c (CopyOf line x) n a = absurd (copy_no a.0 (Refers c) a.1)
  qualified_fine c (CallOf e k ts line) n a = let y = a.gives in absurd (held_no y.0 (Refers c) y.2)
  qualified_fine c (StandardOf name ts line) n a = absurd (held_no (some_holds (standard_kind (row_of name).result)) (Refers c) a.1)
  qualified_fine c (NewOf e k ts line) n a = absurd (made_no k a.kinds a.made (Refers c) a.gives)
  qualified_fine c (OriginOf k token line x) n a = absurd (value_no a.0 (Refers c) a.2)
  qualified_fine c (ProcedureOf e k) n a = let y = a.4 in absurd (value_no (Procedure y.0) (Refers c) y.2)
  qualified_fine c (RemoteProcedureOf x k line) n a = let y = a.5 in absurd (value_no (Procedure y.0) (Refers c) y.2)
  qualified_fine c (MatchOf x v line) n a = absurd (value_no (Procedure a.1) (Refers c) a.3)
  qualified_fine c (CheckedOf x leaves home es line) n a = absurd (held_no a.1 (Refers c) a.3)
  qualified_fine c (RemoteCallOf x k ts line) n a = let y = a.5 in absurd (held_no y.0 (Refers c) y.2)
  qualified_fine c (QualifiedPlaceOf e key k) n a = absurd (reference_no k (Refers c) a.0)
  qualified_fine c (QualifiedElementOf line k x ts) n a = absurd (reference_no k (Refers c) a.0)
  qualified_fine c (MemberOf member k x) n a = absurd (value_no (Simply kind.Boolean) (Refers c) a.0)
  qualified_fine c (QuaOf k line x) n a = let y = a.0 in absurd (value_no y.0 (Refers c) y.2)
  qualified_fine c (FitsOf k line x) n a = let y = a.0 in absurd (value_no y.0 (Refers c) y.2)
  qualified_fine c (KeptOf x) n a = absurd (lasting_no a.0 (Refers c) a.1)
  qualified_fine c (NotNoneOf line x) n a = absurd (shown_no a.0 a.1 a.2 (Refers c) a.3)
  qualified_fine c (SetOf name ts) n a = absurd (held_no a.1 (Refers c) a.3)
  qualified_fine c (ProcessOf name line x) n a = absurd (held_no a.1 (Refers c) a.3)
  qualified_fine c (SimulationOf e name ts line) n a = absurd (held_no a.1 (Refers c) a.3)
  qualified_fine c (TransferOf y line x) n a = absurd (none_no (Refers c) a.0)
  qualified_fine c (ActualOf e p x) n a = absurd (value_no (ByName a.0) (Refers c) a.3)
  qualified_fine c (NamedOf e key wanted) n a = absurd (got_no a.0 wanted a.1 (Refers c) a.2 a.3)

  -- ---- where an expression lies

  pub place_is : (e : Expression) (h : Holds) → by_name s e ≡ None → PlaceIs s from e h → Fine (close_place s m i e) (Some (AddressOf h))
  place_is (syntax.Named name es) h none a = by_denoted (connection_at s name.token.0) (denoted s name.token.0) refl refl a
    where
      by_denoted : (c : Option ℕ) (x : Option Denotation) → connection_at s name.token.0 ≡ c → denoted s name.token.0 ≡ x → PlaceNamed s from c x es (AreIntegers s from es) h → Fine (close_place s m i (syntax.Named name es)) (Some (AddressOf h))
      by_denoted c (Some (denotation.Declared d)) in_c is p =
          let held = place_held s (KnownAt s from c d) es (AreIntegers s from es) (entry_of s.tables d) h p in
          named_held name es c d h in_c is (no_name name es d (KnownAt s from c d) (AreIntegers s from es) h is none held) held
      by_denoted c (Some (denotation.Standard n)) in_c is p = absurd p
      by_denoted c None in_c is p = absurd p
  place_is (syntax.Dot token a name es) h none l = by_denoted (denoted s name.token.0) refl l
    where
      by_denoted : (x : Option Denotation) → denoted s name.token.0 ≡ x → PlaceDot s x (λ c. ExprIs s from a (Refers c)) es (AreIntegers s from es) h → Fine (close_place s m i (syntax.Dot token a name es)) (Some (AddressOf h))
      by_denoted (Some (denotation.Declared d)) is p = dot_held token a name es d h is (place_held s (ObjectHas s (λ c. ExprIs s from a (Refers c)) d) es (AreIntegers s from es) (entry_of s.tables d) h p)
      by_denoted (Some (denotation.Standard n)) is p = absurd p
      by_denoted None is p = absurd p
  place_is _ h none a = absurd a

  -- a parameter by name that an expression is, by its identifier
  abbrev pub UseOf : Expression → DeclNo → Holds → Type 0
  UseOf (syntax.Named name es) named h = NamedUse name named h × (es ≡ NoMore)
  UseOf _ named h = ⊥

  pub named_place_is : (e : Expression) (h : Holds) (named : DeclNo) → by_name s e ≡ Some named → PlaceIs s from e h → UseOf e named h
  named_place_is (syntax.Named name NoMore) h named by a = by_denoted (connection_at s name.token.0) (denoted s name.token.0) refl refl a
    where
      by_denoted : (c : Option ℕ) (x : Option Denotation) → connection_at s name.token.0 ≡ c → denoted s name.token.0 ≡ x → PlaceNamed s from c x NoMore (AreIntegers s from NoMore) h → NamedUse name named h × (NoMore ≡ NoMore)
      by_denoted c (Some (denotation.Declared d)) in_c is p = (name_used name c d named h in_c is (named_alone name d named is by) (place_held s (KnownAt s from c d) NoMore (AreIntegers s from NoMore) (entry_of s.tables d) h p), refl)
      by_denoted c (Some (denotation.Standard n)) in_c is p = absurd p
      by_denoted c None in_c is p = absurd p
  named_place_is (syntax.Named name (Then x es)) h named by a = absurd (more_no_name name x es named by)
  named_place_is (syntax.Dot token a name es) h named by l = absurd (dot_no_name token a name es named by)
  named_place_is _ h named by a = absurd a

  -- a text that a parameter by name means
  declared_text : (d named : DeclNo) (e : Option Entry) (Known : Type 0) (Indices Checked : Type 0) (Actuals : List Formal → Type 0) → formal_by_name d e ≡ Some named → DeclaredGives s Known d NoMore Indices Checked Actuals e (Some (Simply kind.Text)) → LeftHeld Known NoMore Indices (entry_names s e) (Simply kind.Text)
  declared_text d named (Some (entry.Formal f)) Known Indices Checked Actuals by a = text_left s Known d NoMore Indices Checked (formal_means s f.kind f.ty) (no_procedure f.mode f.kind by) a
    where
      no_procedure : (q : Mode) (g : FormalKind) → named_formal q g d ≡ Some named → IsNoProcedure (formal_means s g f.ty)
      no_procedure mode.ByName shape.Simple by = formal_no_procedure s shape.Simple f.ty NoMore refl
      no_procedure mode.ByName shape.Array by = absurd (cc)
      no_procedure mode.ByName shape.Procedure by = absurd (cc)
      no_procedure mode.ByValue g by = absurd (cc)
      no_procedure mode.ByReference g by = absurd (cc)
  declared_text d named None Known Indices Checked Actuals by a = absurd (cc)
  declared_text d named (Some _) Known Indices Checked Actuals by a = absurd (cc)

  no_attribute : (d named : DeclNo) (e : Option Entry) → formal_by_name d e ≡ Some named → is_standard_attribute e ≡ true → ⊥
  no_attribute d named (Some (entry.Formal f)) by is = cc
  no_attribute d named None by is = cc
  no_attribute d named (Some _) by is = cc

  text_named : (name : Identifier) (named : DeclNo) → by_name s (syntax.Named name NoMore) ≡ Some named → (c : Option ℕ) (own : Option DeclNo) (x : Option Denotation) (Checked : Type 0) (Operands : List Kind → Type 0) (Actuals : List Formal → Type 0) → connection_at s name.token.0 ≡ c → own_attribute s name.token.0 ≡ own → denoted s name.token.0 ≡ x
      → IdentifierGives s from name.token.0 c own NoMore (AreIntegers s from NoMore) Checked Operands Actuals (Some (Simply kind.Text)) → NamedUse name named (Simply kind.Text)
  text_named name named by c None (Some (denotation.Declared d)) Checked Operands Actuals in_c own is a =
      let formal = named_alone name d named is by in
      name_used name c d named (Simply kind.Text) in_c is formal (declared_text d named (entry_of s.tables d) (KnownAt s from c d) (AreIntegers s from NoMore) Checked Actuals formal (by_connection c a))
    where
      by_connection : (c : Option ℕ) → IdentifierGives s from name.token.0 c None NoMore (AreIntegers s from NoMore) Checked Operands Actuals (Some (Simply kind.Text)) → DeclaredGives s (KnownAt s from c d) d NoMore (AreIntegers s from NoMore) Checked Actuals (entry_of s.tables d) (Some (Simply kind.Text))
      by_connection None a = subst (λ z. NamedGives s from None z NoMore (AreIntegers s from NoMore) Checked Operands Actuals (Some (Simply kind.Text))) is a
      by_connection (Some k) a = subst (λ z. NamedGives s from (Some k) z NoMore (AreIntegers s from NoMore) Checked Operands Actuals (Some (Simply kind.Text))) is a
  text_named name named by (Some k) (Some e) (Some (denotation.Declared d)) Checked Operands Actuals in_c own is a =
      let formal = named_alone name d named is by in
      name_used name (Some k) d named (Simply kind.Text) in_c is formal (declared_text d named (entry_of s.tables d) (KnownAt s from (Some k) d) (AreIntegers s from NoMore) Checked Actuals formal (subst (λ z. NamedGives s from (Some k) z NoMore (AreIntegers s from NoMore) Checked Operands Actuals (Some (Simply kind.Text))) is a))
  text_named name named by None (Some e) x Checked Operands Actuals in_c own is a =
      let formal = named_alone name e named (own_denoted s name.token.0 e own) by in
      absurd (no_attribute e named (entry_of s.tables e) formal (own_is_attribute s name.token.0 e own))
  text_named name named by c None (Some (denotation.Standard n)) Checked Operands Actuals in_c own is a = absurd (no_denotation name named by (Some (denotation.Standard n)) is refl)
  text_named name named by c None None Checked Operands Actuals in_c own is a = absurd (no_denotation name named by None is refl)
  text_named name named by (Some k) (Some e) (Some (denotation.Standard n)) Checked Operands Actuals in_c own is a = absurd (no_denotation name named by (Some (denotation.Standard n)) is refl)
  text_named name named by (Some k) (Some e) None Checked Operands Actuals in_c own is a = absurd (no_denotation name named by None is refl)

  pub text_used : (e : Expression) (named : DeclNo) → by_name s e ≡ Some named → ExprIs s from e (Simply kind.Text) → UseOf e named (Simply kind.Text)
  unfolding by_name
  text_used (syntax.Named name NoMore) named by a = (text_named name named by (connection_at s name.token.0) (own_attribute s name.token.0) (denoted s name.token.0) (ParametersAre s from NoMore) (λ ks. AreOf s from NoMore ks) (λ fs. ActualsFit s from NoMore fs) refl refl refl a, refl)
  text_used (syntax.Named name (Then x es)) named by a = absurd (cc)
  text_used _ named by a = absurd (cc)

  -- ---- actual parameters by name

  -- a parameter by name that is handed on
  handed_on : (e : Expression) (h : Holds) (named : DeclNo) (k : Kind) → by_name s e ≡ Some named → PlaceIs s from e h → ((ty : SimType) → held_by s ty ≡ h → kind_of_type ty ≡ k) → Fine (close_place s m i e) (Some (Whichever true k))
  handed_on (syntax.Named name NoMore) h named k by a of_kind =
      let x = named_place_is (syntax.Named name NoMore) h named by a in
      let y = x.0 in
      subst (λ z. Fine (close_place s m i (syntax.Named name NoMore)) (Some (Whichever true z))) (of_kind y.type y.held) y.place
  handed_on (syntax.Named name (Then x es)) h named k by a of_kind = absurd (more_no_name name x es named by)
  handed_on (syntax.Dot token x name es) h named k by a of_kind = absurd (dot_no_name token x name es named by)
  handed_on _ h named k by a of_kind = absurd a

  variable_passed : (e : Expression) (k : Kind) (class : Option ℕ) (named : Option DeclNo) → by_name s e ≡ named → VariablePassed class (PlaceIs s from e) k → Fine (qualified_if class named (close_place s m i e)) (Some (place_gives k class named))
  variable_passed e k None None by a = place_is e (Simply k) by a.1
  variable_passed e k (Some c) None by a = qualified_fine c (close_place s m i e) (place_choice s m i e) (place_is e (Refers c) by a.1)
  variable_passed e k None (Some named) by a = handed_on e (Simply k) named k by a.1 (λ ty held. held_of_kind s ty k held)
  variable_passed e k (Some c) (Some named) by a = handed_on e (Refers c) named k by a.1 (λ ty held. let q = held_qualified s ty c held in q.0 ∙ sym a.0)

  actual_closed : (e : Expression) (k : Kind) → NamedIs s from e k → Fine (close_actual s m i e) (Some (actual_gives s false e (Simply k)))
  actual_closed e k a = by_place (is_placed s e) a
    where
      by_place : (placed : Bool) → ActualPassed placed (qualification s (type_at s (typed_token e))) (ExprIs s from e) (PlaceIs s from e) k → Fine (close_actual_by placed s m i e) (Some (actual_gives_by placed s e k))
      by_place true p = variable_passed e k (qualification s (type_at s (typed_token e))) (by_name s e) refl p
      by_place false p = expr_fine s ok o m store i t todo from at e (Simply k) p

  array_closed : (e : Expression) (h : Holds) → ExprIs s from e (ArrayOf h) → Fine (close_actual s m i e) (Some (Value (ArrayOf h)))
  array_closed e h a = by_place (is_placed s e) refl
    where
      by_place : (placed : Bool) → is_placed s e ≡ placed → Fine (close_actual_by placed s m i e) (Some (Value (ArrayOf h)))
      by_place true is = absurd (no_array_placed s from e h a is)
      by_place false is = expr_fine s ok o m store i t todo from at e (ArrayOf h) a

  -- what is passed for a formal parameter, as it is closed
  pub passed_closed : (p : Bool) (e : Expression) (h : Holds) → ActualIs s from p e h → Fine (close_passed p s m i e) (Some (actual_gives s p e h))
  passed_closed true e (Procedure q) a = alone_fine s ok o m store i t todo from at e q a
  passed_closed false e (Simply k) a = actual_closed e k a
  passed_closed false e (ArrayOf h) a = array_closed e h a
  passed_closed true e (Simply k) a = absurd a
  passed_closed true e (Refers c) a = absurd a
  passed_closed true e (ArrayOf h) a = absurd a
  passed_closed true e (ByName h) a = absurd a
  passed_closed false e (Refers c) a = absurd a
  passed_closed false e (Procedure q) a = absurd a
  passed_closed false e (ByName h) a = absurd a
