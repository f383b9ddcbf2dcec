-- The code of identifiers and of standard names evaluates their closed trees, and finds where variables lie.
use Rattle.std.proofs.Common.{◌≡◌, ℕ, suc, Bool, true, false, List, ◌∷◌, length, Option, Some, None, refl, sym, ap, ◌∙◌, subst, ◌<◌}
use Rattle.std.specs.Prelude.{pos, ◌&&◌}
use Rattle.sim_base.specs.declared.numbering.DeclNo.{DeclNo}
use Rattle.sim_scope.specs.declared.scopes.Denotation.{Denotation}
use Rattle.sim_scope.specs.declared.scopes.Denotation.TheVariants as denotation
use Rattle.sim_scope.specs.declared.standard.StandardName.{StandardName}
use Rattle.sim_scope.specs.declared.standard.StandardName.TheVariants as found
use Rattle.sim_scope.specs.declared.types.Entry.{Entry}
use Rattle.sim_scope.specs.declared.types.Entry.TheVariants as entry
use Rattle.sim_scope.specs.declared.types.Formal.{Formal}
use Rattle.sim_scope.specs.declared.types.FormalKind.{FormalKind}
use Rattle.sim_scope.specs.declared.types.FormalKind.TheVariants as shape
use Rattle.sim_scope.specs.declared.types.Mode.{Mode}
use Rattle.sim_scope.specs.declared.types.Mode.TheVariants as mode
use Rattle.sim_scope.specs.declared.types.SimType.{SimType}
use Rattle.sim_scope.specs.Scopes.{entry_of, entry_is, is_virtual}
use Rattle.sim_scope.specs.Source.{Source, block_of, denoted}
use Rattle.sim_tree.specs.declared.expr.Sign.{Sign}
use Rattle.sim_tree.specs.declared.expr.Sign.TheVariants as sign
use Rattle.sim_tree.specs.Syntax.{Expression, Expressions, Literal, NoMore, Then}
use Rattle.sim_tree.specs.Syntax as syntax
use Rattle.sim_values.specs.declared.standard.Standard.{Standard}
use Rattle.sim_values.specs.declared.standard.Standard.TheVariants as name_of
use Rattle.sim_values.specs.Plain.{Plain, Character, Integer, Nothing, Object, Text, Truth, MainOf}
use Rattle.sim_values.specs.Standard.{is_image, moves_position, on_image, row_of}
use Rattle.sim_code.specs.declared.instr.Instr.TheVariants as i
use Rattle.sim_code.specs.Code.{CodeOf}
use Rattle.sim_meaning.specs.Attributes.{qualified}
use Rattle.sim_meaning.specs.Closing.{class_of_formal, type_of_formal, Joining, Lazily, Negated, Plainly, Sort, array_place, array_term, attribute_term, behind_dot, constant_term, formal_value, named_array, declared_place, declared_term, formal_place, formal_term, formals_at, given_term, home_of, image_place, in_instance, literal_term, name_term, named_place, named_term, object_term, signed_term, standard_name_term, standard_term, stream_denoted, stream_of, sysout, two_term, variable_place, variable_term, has_type}
use Rattle.sim_meaning.specs.Constants.{text_constant}
use Rattle.sim_meaning.specs.Levels.{qualification}
use Rattle.sim_meaning.specs.Names.{procedure_named, stream_named}
use Rattle.sim_meaning.specs.Pending.{CallOf, Cell, CheckedOf, Declared, ElementOf, ForPlace, ForValue, Further, ImageOf, Instances, Key, MatchOf, NamedOf, NoTerm, PlaceOf, Term, Terms, Use, ValueAt, Given}
use Rattle.sim_meaning.specs.Statements.{has_value, standard_leaves}
use Rattle.sim_meaning.specs.Steps.{count, count_of}
use Rattle.sim_meaning.specs.Texts.{constant_of}
use Rattle.codegen_expr.specs.Sites.{At, HasCell, Inside, Pushes, Site, block_number, class_number, frame_text, is_constant}
use Rattle.codegen_expr.specs.CodeExpr.{ByNameAt, ArrayAt, ArrayPlaceAt, AttributeAt, BehindDotAt, CallAt, CellAt, ConstantAt, DeclaredAt, DeclaredPlaceAt, ElementAt, FormalAt, FormalPlaceAt, GivenAt, LiteralAt, NameAt, NamedAt, NamedPlaceAt, ObjectAt, PlainAt, SignedAt, StandardAt, StandardIs, StreamPlaceAt, TwoAt, VariableAt, VariablePlaceAt, gives_entry, operands, ThisAt, Checked, CheckAt, FormalProcedureAt, Listed, MatchAt, NamedArrayAt, NamedElementAt, Parameters, ValueCallAt, is_by_name}
use Rattle.codegen_expr.specs.CodeExpr as code_gives
use Rattle.codegen.specs.Agrees.{Agrees}
use Rattle.sim_relate.proofs.ClassNames.{qualification_classed}
use Rattle.sim_relate.proofs.Formals.{formals_same}
use Rattle.sim_relate.proofs.Frames.{own_frame}
use Rattle.sim_relate.proofs.Known.{Any, Finds, IsImage, Kind, LeavesIs, Refers, gives, of_input, of_output, read_given, reads, text_gives}
use Rattle.sim_relate.proofs.Trees.{Classed, CellIs, CellPlaceIs, UseClassed, UseIs, GivenIs, OperandAt, ReadsAt, TermAt, TermsAt, empty, listed, AllPassAt, IsUse, ThisIs}

module _ (s : Source) (code : CodeOf) (m : Instances) (inst : ℕ) (site : Site) (agrees : Agrees s) (reach : (u : ℕ) → Inside s.tables site.text u → Finds s m inst u) where
  -- the tree evaluates, and leaves a value just where g says so
  abbrev pub NamedIs : (n : ℕ) → Bool → Term → ℕ → ℕ → Type 0
  NamedIs n g t p q = TermAt s code m inst site n t p q × (gives s t ≡ g)

  -- in the instance that is reached
  pub there : (o : Option ℕ) (j : ℕ) (f : ℕ → Term) (n : ℕ) (g : Bool) (p q : ℕ) → o ≡ Some j → NamedIs n g (f j) p q → NamedIs n g (in_instance o f) p q
  there o j f n g p q e a = subst (λ o. NamedIs n g (in_instance o f) p q) (sym e) a

  -- ---- where variables lie

  -- what can be an operand of a standard name
  abbrev pub ReadAt : (n : ℕ) → Term → ℕ → ℕ → Type 0
  ReadAt n t p q = TermAt s code m inst site n t p q × (reads s t ≡ true)

  -- the class of a reference
  pub record Qualified : Type 0 where
    pub class : ℕ
    pub is_class : Classed s class

  abbrev pub class_given : Option Qualified → ℕ
  class_given None = 0
  class_given (Some k) = class_number s code k.class

  -- a place that is read, or that of a reference with its class
  pub record QualifiedIs (k n : ℕ) (t : Term) (p q : ℕ) : Type 0 where
    pub term : TermAt s code m inst site n t p q
    pub leaves : (ks : List Kind) → LeavesIs s t ks (Refers k ∷ ks)

  abbrev pub PlacedAt : Option Qualified → (n : ℕ) → Term → ℕ → ℕ → Type 0
  PlacedAt None n t p q = ReadAt n t p q
  PlacedAt (Some k) n t p q = QualifiedIs k.class n (qualified k.class t) p q

  pub element_placed : (o : Option Qualified) (n line : ℕ) (array : Term) (terms : Terms) (p x y q : ℕ) → OperandAt s code m inst site n array p x → TermsAt s code m inst site (suc n) terms x y → At code (i.Elem (pos (count terms)) (pos (class_given o))) line y q → PlacedAt o n (ElementOf line array terms) p q
  element_placed None n line array terms p x y q a b c = ((x, y, a, b, c), refl)
  element_placed (Some k) n line array terms p x y q a b c = record { term = (x, y, a, b, (k.is_class, c)); leaves = λ ks. refl }

  pub place_placed : (o : Option Qualified) (n j : ℕ) (key : Key) (p q : ℕ) → CellPlaceIs s code m inst site n j key (class_given o) p q → PlacedAt o n (PlaceOf j key) p q
  place_placed None n j key p q a = (a, refl)
  place_placed (Some k) n j key p q a = record { term = (k.is_class, a); leaves = λ ks. refl }

  -- an image has no class
  image_placed : (o : Option Qualified) (n image p q : ℕ) → IsImage image → Pushes code site n (i.AddrImg (pos image)) p q → PlacedAt o n (ImageOf image) p q
  image_placed None n image p q known a = ((known, a), refl)
  image_placed (Some k) n image p q known a = record { term = tt; leaves = λ ks. tt }

  -- ---- operators

  -- a value that the code has
  plain_given : (v : Plain) (n p q : ℕ) → PlainAt s code site n v p q → GivenIs s code m inst site n v p q
  plain_given (Integer z) n p q a = a
  plain_given (Truth true) n p q a = a
  plain_given (Truth false) n p q a = a
  plain_given (Character c) n p q a = a
  plain_given (Text t) n p q a = listed a.0 a.1
  plain_given (Object j) n p q a = absurd a
  plain_given (MainOf j) n p q a = absurd a
  plain_given Nothing n p q a = absurd a

  given_at : (v : Option Plain) (n p q : ℕ) → GivenAt s code site n v p q → OperandAt s code m inst site n (given_term v) p q
  given_at (Some v) n p q a = (plain_given v n p q a, refl)
  given_at None n p q a = absurd a

  pub literal_at : (token : ℕ) (x : Literal) (n p q : ℕ) → LiteralAt s code site n token x p q → OperandAt s code m inst site n (literal_term s token x) p q
  literal_at token (syntax.IntegerValue z) n p q a = (a, refl)
  literal_at token (syntax.CharacterValue c) n p q a = (a, refl)
  literal_at token (syntax.TextValue t) n p q a = given_at (text_constant s token) n p q a
  literal_at token (syntax.BooleanValue true) n p q a = (a, refl)
  literal_at token (syntax.BooleanValue false) n p q a = (a, refl)
  literal_at token syntax.NoObject n p q a = (a, refl)
  literal_at token syntax.NoText n p q a = (empty refl a, refl)

  pub two_at : (k : Sort) (line n : ℕ) (A B C : ℕ → ℕ → Type 0) (x y : Term) (p q : ℕ) → ((p q : ℕ) → A p q → OperandAt s code m inst site n x p q) → ((p q : ℕ) → B p q → OperandAt s code m inst site n y p q) → ((p q : ℕ) → C p q → OperandAt s code m inst site (suc n) y p q)
      → TwoAt s code site n k line A B C p q → OperandAt s code m inst site n (two_term k line x y) p q
  two_at (Plainly op) line n A B C x y p q f g h a = ((a.0, a.1, f p a.0 a.2, h a.0 a.1 a.3, a.4), refl)
  two_at (Negated op) line n A B C x y p q f g h a = ((a.2, ((a.0, a.1, f p a.0 a.3, h a.0 a.1 a.4, a.5), refl), a.6), refl)
  two_at (Lazily true) line n A B C x y p q f g h a = (record { y = a.y; z = a.z; w = a.w; x = a.x; test = f p a.y a.test; jump = a.jump; leads = a.leads; first = (a.first, refl); over = a.over; past = a.past; second = g a.x q a.second }, refl)
  two_at (Lazily false) line n A B C x y p q f g h a = (record { y = a.y; z = a.z; w = a.w; x = a.x; test = f p a.y a.test; jump = a.jump; leads = a.leads; first = g a.z a.w a.first; over = a.over; past = a.past; second = (a.second, refl) }, refl)
  two_at Joining line n A B C x y p q f g h a = ((a.x, a.y, f p a.x a.left, h a.x a.y a.right, record { within = a.within; room = a.room; joins = a.joins }), refl)

  pub signed_at : (k : Sign) (line n : ℕ) (A : ℕ → ℕ → Type 0) (x : Term) (p q : ℕ) → ((p q : ℕ) → A p q → OperandAt s code m inst site n x p q) → SignedAt code k line A p q → OperandAt s code m inst site n (signed_term k line x) p q
  signed_at sign.Plus line n A x p q f a = f p q a
  signed_at sign.Minus line n A x p q f a = ((a.0, f p a.0 a.1, a.2), refl)

  -- ---- identifiers

  -- a declared cell lies in the frames of its own text
  pub own : (d : DeclNo) → HasCell s (block_of s d) (Declared d.0) → frame_text s (block_of s d) ≡ block_of s d
  own d has = own_frame s agrees (block_of s d) (Declared d.0) has refl

  cell_is : (d : DeclNo) (n p q : ℕ) → is_constant (entry_of s.tables d) ≡ false → (a : CellAt s code site n d p q) → CellIs s code m inst site n (reach (block_of s d) a.inside).0 (Declared d.0) p q
  cell_is d n p q varies a = let r = reach (block_of s d) a.inside in record { text = block_of s d; load = a.load; reaches = r.1; own = own d a.within; has = a.within; varies = varies }

  pub cell_at : (d : DeclNo) (n p q : ℕ) → is_constant (entry_of s.tables d) ≡ false → CellAt s code site n d p q → NamedIs n true (in_instance (home_of s m inst d) (λ j. Cell j (Declared d.0))) p q
  unfolding home_of
  cell_at d n p q varies a =
      let r = reach (block_of s d) a.inside in
      there (home_of s m inst d) r.0 (λ j. Cell j (Declared d.0)) n true p q r.2 (cell_is d n p q varies a, refl)

  variable_at : (d : DeclNo) (es : Expressions) (n p q : ℕ) → is_constant (entry_of s.tables d) ≡ false → VariableAt s code site n d es p q → NamedIs n true (variable_term s m inst d es) p q
  variable_at d NoMore n p q varies a = cell_at d n p q varies a
  variable_at d (Then e es) n p q varies a = absurd a

  constant_at : (v : Option Plain) (es : Expressions) (n p q : ℕ) → ConstantAt s code site n v es p q → NamedIs n true (constant_term v es) p q
  constant_at (Some v) NoMore n p q a = (plain_given v n p q a, refl)
  constant_at (Some v) (Then e es) n p q a = absurd a
  constant_at None NoMore n p q a = absurd a
  constant_at None (Then e es) n p q a = absurd a

  -- an element of the array in the cell of a declaration, with the class of a reference there
  pub element_at : (o : Option Qualified) (d : DeclNo) (line n : ℕ) (es : Expressions) (Inner : ℕ → ℕ → Type 0) (terms : Terms) → ((p q : ℕ) → Inner p q → TermsAt s code m inst site (suc n) terms p q) → operands es ≡ count terms → (p q : ℕ) → is_constant (entry_of s.tables d) ≡ false → ElementAt s code site n line (class_given o) d es Inner p q
      → PlacedAt o n (in_instance (home_of s m inst d) (λ j. ElementOf line (Cell j (Declared d.0)) terms)) p q
  unfolding home_of
  element_at o d line n es Inner terms f counts p q varies a =
      let r = reach (block_of s d) a.array.inside in
      subst (λ z. PlacedAt o n (in_instance z (λ j. ElementOf line (Cell j (Declared d.0)) terms)) p q) (sym r.2)
      (element_placed o n line (Cell r.0 (Declared d.0)) terms p a.x a.y q (cell_is d n p a.x varies a.array, refl) (f a.x a.y a.subscripts) (subst (λ k. At code (i.Elem (pos k) (pos (class_given o))) line a.y q) counts a.found))

  array_at : (d : DeclNo) (line n : ℕ) (es : Expressions) (Inner : ℕ → ℕ → Type 0) (terms : Terms) → ((p q : ℕ) → Inner p q → TermsAt s code m inst site (suc n) terms p q) → operands es ≡ count terms → (p q : ℕ) → is_constant (entry_of s.tables d) ≡ false → ArrayAt s code site n line d es Inner p q → NamedIs n true (array_term s m inst line d es terms) p q
  unfolding home_of
  array_at d line n NoMore Inner terms f counts p q varies a = cell_at d n p q varies a
  array_at d line n (Then e es) Inner terms f counts p q varies a =
      let x = a.1 in
      let r = reach (block_of s d) x.array.inside in
      there (home_of s m inst d) r.0 (λ j. ValueAt (ElementOf line (Cell j (Declared d.0)) terms)) n true p q r.2
      ((a.0, (x.x, x.y, (cell_is d n p x.x varies x.array, refl), f x.x x.y x.subscripts, subst (λ k. At code (i.Elem (pos k) (pos 0)) line x.y a.0) counts x.found), record { kind = Any; left = λ ks. refl; fetches = a.2 }), refl)

  -- a use of a parameter by name
  use_classed : (type : Option SimType) (o : Option ℕ) (line : ℕ) → qualification s type ≡ o → UseClassed s (ForValue o line)
  use_classed type None line e = tt
  use_classed type (Some k) line e = qualification_classed s type k e

  pub used_at : (d : DeclNo) (es : Expressions) (wanted : Use) (n : ℕ) (P : Term → Type 0) (p q : ℕ) → is_constant (entry_of s.tables d) ≡ false → UseClassed s wanted → IsUse wanted → ((j : ℕ) → UseIs s code m inst site n j (Declared d.0) wanted p q → P (NamedOf j (Declared d.0) wanted)) → ByNameAt s code site n d es wanted p q → P (name_term s m inst d es wanted)
  unfolding home_of
  used_at d NoMore wanted n P p q varies classed is_use f a =
      let r = reach (block_of s d) a.inside in
      subst (λ z. P (in_instance z (λ j. NamedOf j (Declared d.0) wanted))) (sym r.2)
      (f r.0 (record { text = block_of s d; use_is = a.use_is; fits = a.fits; reaches = r.1; own = own d a.within; has = a.within; varies = varies; classed = classed; is_use = is_use }))
  used_at d (Then e es) wanted n P p q varies classed is_use f a = absurd a

  -- where it lies, or else its value, has no class that is known
  used_placed : (o : Option Qualified) (n line j : ℕ) (key : Key) (p q : ℕ) → UseIs s code m inst site n j key (ForPlace true line) p q → PlacedAt o n (NamedOf j key (ForPlace true line)) p q
  used_placed None n line j key p q a = (a, refl)
  used_placed (Some k) n line j key p q a = record { term = tt; leaves = λ ks. tt }

  -- an element of an array by name
  pub named_element_at : (o : Option Qualified) (d : DeclNo) (line n : ℕ) (es : Expressions) (Inner : ℕ → ℕ → Type 0) (terms : Terms) → ((p q : ℕ) → Inner p q → TermsAt s code m inst site (suc n) terms p q) → operands es ≡ count terms → (p q : ℕ) → is_constant (entry_of s.tables d) ≡ false → NamedElementAt s code site n line (class_given o) d es Inner p q
      → PlacedAt o n (in_instance (home_of s m inst d) (λ j. ElementOf line (NamedOf j (Declared d.0) (ForValue None line)) terms)) p q
  unfolding home_of
  named_element_at o d line n es Inner terms f counts p q varies a =
      let r = reach (block_of s d) a.array.inside in
      subst (λ z. PlacedAt o n (in_instance z (λ j. ElementOf line (NamedOf j (Declared d.0) (ForValue None line)) terms)) p q) (sym r.2)
      (element_placed o n line (NamedOf r.0 (Declared d.0) (ForValue None line)) terms p a.x a.y q
      (record { text = block_of s d; use_is = a.array.use_is; fits = a.array.fits; reaches = r.1; own = own d a.array.within; has = a.array.within; varies = varies; classed = tt; is_use = tt }, refl)
      (f a.x a.y a.subscripts) (subst (λ k. At code (i.Elem (pos k) (pos (class_given o))) line a.y q) counts a.found))

  named_array_at : (d : DeclNo) (line n : ℕ) (es : Expressions) (Inner : ℕ → ℕ → Type 0) (terms : Terms) → ((p q : ℕ) → Inner p q → TermsAt s code m inst site (suc n) terms p q) → operands es ≡ count terms → (p q : ℕ) → is_constant (entry_of s.tables d) ≡ false → NamedArrayAt s code site n line d es Inner p q → NamedIs n true (named_array s m inst line d es terms) p q
  unfolding home_of
  named_array_at d line n NoMore Inner terms f counts p q varies a = used_at d NoMore (ForValue None line) n (λ t. NamedIs n true t p q) p q varies tt tt (λ j b. (b, refl)) a
  named_array_at d line n (Then e es) Inner terms f counts p q varies a =
      let x = a.1 in
      let y = x.array in
      let r = reach (block_of s d) y.inside in
      there (home_of s m inst d) r.0 (λ j. ValueAt (ElementOf line (NamedOf j (Declared d.0) (ForValue None line)) terms)) n true p q r.2 (
        (
          a.0,
          (
            x.x,
            x.y,
            (record { text = block_of s d; use_is = y.use_is; fits = y.fits; reaches = r.1; own = own d y.within; has = y.within; varies = varies; classed = tt; is_use = tt }, refl),
            f x.x x.y x.subscripts,
            subst (λ k. At code (i.Elem (pos k) (pos 0)) line x.y a.0) counts x.found,
          ),
          record { kind = Any; left = λ ks. refl; fetches = a.2 },
        ),
        refl,
      )

  -- ---- calls of procedures that are values

  counted : (es : Expressions) → operands es ≡ count_of es
  counted NoMore = refl
  counted (Then e es) = ap suc (counted es)

  -- the code of the actual parameters of such a call
  abbrev pub PassesAt : (n line : ℕ) → Expressions → ℕ → ℕ → Type 0
  PassesAt n line es p q = (x : ℕ) × CheckAt s code line es p x × AllPassAt s code site (suc n) site.used 0 line es x q

  -- and that of the actual parameters of any call
  abbrev pub ActualsGive : (n line : ℕ) → Expressions → (List Formal → Terms) → Parameters → ℕ → ℕ → Type 0
  ActualsGive n line es actuals (Listed fs) p q = TermsAt s code m inst site (suc n) (actuals fs) p q × (operands es ≡ count (actuals fs)) × (operands es ≡ length fs)
  ActualsGive n line es actuals Checked p q = PassesAt n line es p q

  abbrev pub GivenFor : (n line : ℕ) → Expressions → (Parameters → ℕ → ℕ → Type 0) → (List Formal → Terms) → Type 0
  GivenFor n line es Actuals actuals = (fs : Parameters) (p q : ℕ) → Actuals fs p q → ActualsGive n line es actuals fs p q

  pub value_call_at : (line n : ℕ) (leaves : Bool) (es : Expressions) (x : Term) (p y z q : ℕ) → OperandAt s code m inst site n x p y → n < site.room → PassesAt n line es y z → At code (i.CallV (pos (operands es))) line z q → NamedIs n leaves (CheckedOf x leaves inst es line) p q
  value_call_at line n leaves es x p y z q procedure fits passes called = (
    record {
      x = y;
      y = passes.0;
      z = z;
      was = site.used;
      here = refl;
      procedure = procedure;
      fits = fits;
      check = passes.1;
      passes = passes.2;
      called = subst (λ c. At code (i.CallV (pos c)) line z q) (counted es) called;
    },
    refl,
  )

  -- the procedure that a formal parameter is
  pub record FormalFound (d : DeclNo) (line n : ℕ) (by : Mode) (p q : ℕ) : Type 0 where
    pub instance : ℕ
    pub is : home_of s m inst d ≡ Some instance
    pub value : OperandAt s code m inst site n (formal_value line d by instance) p q
    pub fits : n < site.room

  pub formal_found : (d : DeclNo) (line n : ℕ) (by : Mode) (p q : ℕ) → is_constant (entry_of s.tables d) ≡ false → FormalProcedureAt s code site n line d (is_by_name by) p q → FormalFound d line n by p q
  unfolding home_of
  formal_found d line n mode.ByName p q varies a =
      let r = reach (block_of s d) a.inside in
      record {
        instance = r.0;
        is = r.2;
        value = (record { text = block_of s d; use_is = a.use_is; fits = a.fits; reaches = r.1; own = own d a.within; has = a.within; varies = varies; classed = tt; is_use = tt }, refl);
        fits = a.fits;
      }
  formal_found d line n mode.ByValue p q varies a = let r = reach (block_of s d) a.inside in record { instance = r.0; is = r.2; value = (cell_is d n p q varies a, refl); fits = a.load.fits }
  formal_found d line n mode.ByReference p q varies a = let r = reach (block_of s d) a.inside in record { instance = r.0; is = r.2; value = (cell_is d n p q varies a, refl); fits = a.load.fits }

  formal_called : (d : DeclNo) (line n : ℕ) (by : Mode) (leaves : Bool) (es : Expressions) (Actuals : Parameters → ℕ → ℕ → Type 0) (actuals : List Formal → Terms) → GivenFor n line es Actuals actuals → (p q : ℕ) → is_constant (entry_of s.tables d) ≡ false → ValueCallAt code line es (FormalProcedureAt s code site n line d (is_by_name by)) (Actuals Checked) p q
      → NamedIs n leaves (in_instance (home_of s m inst d) (λ j. CheckedOf (formal_value line d by j) leaves inst es line)) p q
  formal_called d line n by leaves es Actuals actuals g p q varies a =
      let y = formal_found d line n by p a.x varies a.procedure in
      there (home_of s m inst d) y.instance (λ j. CheckedOf (formal_value line d by j) leaves inst es line) n leaves p q y.is
      (value_call_at line n leaves es (formal_value line d by y.instance) p a.x a.y q y.value y.fits (g Checked a.x a.y a.actuals) a.called)

  formal_at : (d : DeclNo) (line n : ℕ) (by : Mode) (kind : FormalKind) (type : Option SimType) (es : Expressions) (Inner : ℕ → ℕ → Type 0) (Actuals : Parameters → ℕ → ℕ → Type 0) (terms : Terms) (actuals : List Formal → Terms) → ((p q : ℕ) → Inner p q → TermsAt s code m inst site (suc n) terms p q) → operands es ≡ count terms → GivenFor n line es Actuals actuals
      → (p q : ℕ) → is_constant (entry_of s.tables d) ≡ false → FormalAt s code site n line d by kind es Inner Actuals p q → NamedIs n (code_gives.gives_formal kind type) (formal_term s m inst line d by kind (has_type type) es terms) p q
  formal_at d line n mode.ByName shape.Simple type es Inner Actuals terms actuals f counts g p q varies a =
      used_at d es (ForValue (class_of_formal s d) line) n (λ t. NamedIs n true t p q) p q varies (use_classed (type_of_formal (entry_of s.tables d)) (class_of_formal s d) line refl) tt (λ j b. (b, refl)) a
  formal_at d line n mode.ByName shape.Array type es Inner Actuals terms actuals f counts g p q varies a = named_array_at d line n es Inner terms f counts p q varies a
  formal_at d line n mode.ByName shape.Procedure type es Inner Actuals terms actuals f counts g p q varies a = formal_called d line n mode.ByName (has_type type) es Actuals actuals g p q varies a
  formal_at d line n mode.ByValue shape.Simple type es Inner Actuals terms actuals f counts g p q varies a = variable_at d es n p q varies a
  formal_at d line n mode.ByValue shape.Array type es Inner Actuals terms actuals f counts g p q varies a = array_at d line n es Inner terms f counts p q varies a
  formal_at d line n mode.ByValue shape.Procedure type es Inner Actuals terms actuals f counts g p q varies a = formal_called d line n mode.ByValue (has_type type) es Actuals actuals g p q varies a
  formal_at d line n mode.ByReference shape.Simple type es Inner Actuals terms actuals f counts g p q varies a = variable_at d es n p q varies a
  formal_at d line n mode.ByReference shape.Array type es Inner Actuals terms actuals f counts g p q varies a = array_at d line n es Inner terms f counts p q varies a
  formal_at d line n mode.ByReference shape.Procedure type es Inner Actuals terms actuals f counts g p q varies a = formal_called d line n mode.ByReference (has_type type) es Actuals actuals g p q varies a

  -- a call: the procedure's text is in the text of its declaration
  call_at : (d : DeclNo) (line n : ℕ) (result : Option SimType) (k : ℕ) (es : Expressions) (Inner : ℕ → ℕ → Type 0) (terms : Terms) → ((p q : ℕ) → Inner p q → TermsAt s code m inst site (suc n) terms p q × (operands es ≡ count terms) × (operands es ≡ length (formals_at s d))) → (p q : ℕ) → entry_of s.tables d ≡ Some (entry.Procedure result k) → CallAt s code site n line d k es Inner p q
      → NamedIs n (gives_entry (Some (entry.Procedure result k))) (in_instance (home_of s m inst d) (λ j. CallOf j k terms line)) p q
  unfolding home_of
  call_at d line n result k es Inner terms f p q is a =
      let r = reach (block_of s d) a.inside in
      let x = agrees.procedures d result k is in
      let inner = f a.x a.y a.actuals in
      there (home_of s m inst d) r.0 (λ j. CallOf j k terms line) n (gives_entry (Some (entry.Procedure result k))) p q r.2 (
        record {
          text = block_of s d;
          x = a.x;
          y = a.y;
          link = a.link;
          reaches = r.1;
          actuals = inner.0;
          call = subst (λ c. At code (i.Call (pos (block_number s k)) (pos c)) line a.y q) inner.1 a.call;
          procedure = record { result = x.given; heading = x.heading; body = x.body; is = x.is; stands_in = x.around };
          as_many = sym inner.1 ∙ inner.2 ∙ ap length (formals_same s d result k is);
        },
        ap text_gives x.is ∙ x.same,
      )

  -- what matches a virtual in the class of an object
  pub match_at : (d : DeclNo) (line n : ℕ) (result : Option SimType) (own : Option DeclNo) (Base : ℕ → ℕ → Type 0) (x : Term) → ((p q : ℕ) → Base p q → OperandAt s code m inst site n x p q) → (p q : ℕ) → entry_of s.tables d ≡ Some (entry.Virtual result own) → MatchAt code line d.0 Base p q → OperandAt s code m inst site n (MatchOf x d.0 line) p q
  match_at d line n result own Base x f p q is a = (record { x = a.x; object = f p a.x a.object; declared = ap (entry_is is_virtual) is; found = a.found }, refl)

  -- without a dot it is that of the object around
  pub match_around : (d : DeclNo) (line n : ℕ) (result : Option SimType) (own : Option DeclNo) (P : Term → Type 0) (f : ℕ → Term) (p q : ℕ) → entry_of s.tables d ≡ Some (entry.Virtual result own) → MatchAt code line d.0 (ThisAt s code site n (block_of s d)) p q
      → ((j : ℕ) → OperandAt s code m inst site n (MatchOf (Given (Object j)) d.0 line) p q → P (f j)) → P (in_instance (home_of s m inst d) f)
  unfolding home_of
  match_around d line n result own P f p q is a g =
      let r = reach (block_of s d) a.object.inside in
      subst (λ z. P (in_instance z f)) (sym r.2) (g r.0 (match_at d line n result own (λ x y. ThisIs s code m inst site n r.0 x y) (Given (Object r.0)) (λ p q b. (b, refl)) p q is (record { x = a.x; object = record { text = block_of s d; push = a.object.push; reaches = r.1 }; found = a.found })))

  virtual_around : (d : DeclNo) (line n : ℕ) (result : Option SimType) (own : Option DeclNo) (es : Expressions) (Actuals : Parameters → ℕ → ℕ → Type 0) (actuals : List Formal → Terms) → GivenFor n line es Actuals actuals → (p q : ℕ) → entry_of s.tables d ≡ Some (entry.Virtual result own) → ValueCallAt code line es (MatchAt code line d.0 (ThisAt s code site n (block_of s d))) (Actuals Checked) p q
      → NamedIs n (has_type result) (in_instance (home_of s m inst d) (λ j. CheckedOf (MatchOf (Given (Object j)) d.0 line) (has_type result) inst es line)) p q
  virtual_around d line n result own es Actuals actuals g p q is a =
      match_around d line n result own (λ z. NamedIs n (has_type result) z p q) (λ j. CheckedOf (MatchOf (Given (Object j)) d.0 line) (has_type result) inst es line) p a.x is a.procedure
      (λ j b. value_call_at line n (has_type result) es (MatchOf (Given (Object j)) d.0 line) p a.x a.y q b (a.procedure.object.push).fits (g Checked a.x a.y a.actuals) a.called)

  declared_at : (d : DeclNo) (line n : ℕ) (o : Option Entry) (es : Expressions) (Inner : ℕ → ℕ → Type 0) (Actuals : Parameters → ℕ → ℕ → Type 0) (terms : Terms) (actuals : List Formal → Terms) → ((p q : ℕ) → Inner p q → TermsAt s code m inst site (suc n) terms p q) → operands es ≡ count terms
      → GivenFor n line es Actuals actuals
      → (p q : ℕ) → entry_of s.tables d ≡ o → DeclaredAt s code site n line d o es Inner Actuals p q → NamedIs n (gives_entry o) (declared_term s m inst line d o es terms actuals) p q
  declared_at d line n (Some (entry.Variable type)) es Inner Actuals terms actuals f counts g p q is a = variable_at d es n p q (ap is_constant is) a
  declared_at d line n (Some (entry.Constant type)) es Inner Actuals terms actuals f counts g p q is a = constant_at (constant_of s d) es n p q a
  declared_at d line n (Some (entry.Array element dimensions)) es Inner Actuals terms actuals f counts g p q is a = array_at d line n es Inner terms f counts p q (ap is_constant is) a
  declared_at d line n (Some (entry.Formal x)) es Inner Actuals terms actuals f counts g p q is a = formal_at d line n x.mode x.kind x.ty es Inner Actuals terms actuals f counts g p q (ap is_constant is) a
  declared_at d line n (Some (entry.Procedure result k)) es Inner Actuals terms actuals f counts g p q is a = call_at d line n result k es (Actuals (Listed (formals_at s d))) (actuals (formals_at s d)) (g (Listed (formals_at s d))) p q is a
  declared_at d line n (Some (entry.Class block)) es Inner Actuals terms actuals f counts g p q is a = absurd a
  declared_at d line n (Some (entry.Virtual result own)) es Inner Actuals terms actuals f counts g p q is a = virtual_around d line n result own es Actuals actuals g p q is a
  declared_at d line n (Some (entry.Unspecified written)) es Inner Actuals terms actuals f counts g p q is a = absurd a
  declared_at d line n (Some (entry.Attribute name parameter result)) es Inner Actuals terms actuals f counts g p q is a = absurd a
  declared_at d line n None es Inner Actuals terms actuals f counts g p q is a = absurd a

  -- ---- standard names

  -- operands that are values
  reads_terms : (ts : Terms) (n p q : ℕ) → TermsAt s code m inst site n ts p q → ReadsAt s code m inst site n ts p q
  reads_terms NoTerm n p q a = a
  reads_terms (Further t ts) n p q a = (a.0, ((a.1).0, read_given s t (a.1).1), reads_terms ts (suc n) a.0 q a.2)

  image_gives : (name : Standard) → is_image name ≡ true → has_value (row_of name).result ≡ true
  unfolding row_of
  image_gives name_of.Image e = refl
  image_gives _ e = absurd (cc)

  gives_as : (x name : Standard) (y : Standard) → y ≡ x → has_value (row_of y).result ≡ has_value (row_of name).result → has_value (row_of x).result ≡ has_value (row_of name).result
  gives_as x name y e h = ap (λ z. has_value (row_of z).result) (sym e) ∙ h

  on_image_gives : (name x : Standard) → on_image name ≡ Some x → has_value (row_of x).result ≡ has_value (row_of name).result
  unfolding row_of
  on_image_gives name_of.Pos x e = gives_as x name_of.Pos name_of.TextPos (cc (e)) refl
  on_image_gives name_of.Setpos x e = gives_as x name_of.Setpos name_of.TextSetpos (cc (e)) refl
  on_image_gives name_of.More x e = gives_as x name_of.More name_of.TextMore (cc (e)) refl
  on_image_gives name_of.Length x e = gives_as x name_of.Length name_of.TextLength (cc (e)) refl
  on_image_gives _ x e = absurd (cc)

  name_at : (is : Bool) (on : Option Standard) (name : Standard) (image line n : ℕ) (es : Expressions) (Operands Inner : ℕ → ℕ → Type 0) (terms : Terms) → ((p q : ℕ) → Operands p q → TermsAt s code m inst site n terms p q) → ((p q : ℕ) → Inner p q → TermsAt s code m inst site (suc n) terms p q) → operands es ≡ count terms → IsImage image
      → is_image name ≡ is → on_image name ≡ on → (p q : ℕ) → NameAt code site n line image is on name es Operands Inner p q → NamedIs n (has_value (row_of name).result) (standard_name_term is on name image line terms) p q
  name_at true on name image line n es Operands Inner terms f0 f counts known ei eo p q a = ((a.0, (known, a.1), record { kind = Any; left = λ ks. refl; fetches = a.2 }), sym (image_gives name ei))
  name_at false (Some x) name image line n es Operands Inner terms f0 f counts known ei eo p q a =
      ((a.1, (a.0, ((known, a.2), refl), reads_terms terms (suc n) a.0 a.1 (f a.0 a.1 a.3)), subst (λ c. StandardIs code site n line x c a.1 q) (ap suc counts) a.4), on_image_gives name x eo)
  name_at false None name image line n es Operands Inner terms f0 f counts known ei eo p q a = ((a.0, reads_terms terms n p a.0 (f0 p a.0 a.1), subst (λ c. StandardIs code site n line name c a.0 q) counts a.2), refl)

  standard_at : (name : Option Standard) (image line n : ℕ) (es : Expressions) (Operands Inner : ℕ → ℕ → Type 0) (terms : Terms) → ((p q : ℕ) → Operands p q → TermsAt s code m inst site n terms p q) → ((p q : ℕ) → Inner p q → TermsAt s code m inst site (suc n) terms p q) → operands es ≡ count terms → IsImage image
      → (p q : ℕ) → StandardAt code site n line image name es Operands Inner p q → NamedIs n (standard_leaves name) (standard_term name image line terms) p q
  standard_at None image line n es Operands Inner terms f0 f counts known p q a = absurd a
  standard_at (Some name) image line n es Operands Inner terms f0 f counts known p q a = name_at (is_image name) (on_image name) name image line n es Operands Inner terms f0 f counts known refl refl p q a

  pub named_at : (u : Option Denotation) (line n : ℕ) (es : Expressions) (Operands Inner : ℕ → ℕ → Type 0) (Actuals : Parameters → ℕ → ℕ → Type 0) (terms : Terms) (actuals : List Formal → Terms) → ((p q : ℕ) → Operands p q → TermsAt s code m inst site n terms p q) → ((p q : ℕ) → Inner p q → TermsAt s code m inst site (suc n) terms p q) → operands es ≡ count terms
      → GivenFor n line es Actuals actuals
      → (p q : ℕ) → NamedAt s code site n line u es Operands Inner Actuals p q → NamedIs n (code_gives.gives s u) (named_term s m inst line u es terms actuals) p q
  named_at None line n es Operands Inner Actuals terms actuals f0 f counts g p q a = absurd a
  named_at (Some (denotation.Declared d)) line n es Operands Inner Actuals terms actuals f0 f counts g p q a = declared_at d line n (entry_of s.tables d) es Inner Actuals terms actuals f counts g p q refl a
  named_at (Some (denotation.Standard name)) line n es Operands Inner Actuals terms actuals f0 f counts g p q a = standard_at (procedure_named name) sysout line n es Operands Inner terms f0 f counts of_output p q a

  -- ---- where variables lie, and attributes of texts

  variable_place_at : (o : Option Qualified) (d : DeclNo) (es : Expressions) (n p q : ℕ) → is_constant (entry_of s.tables d) ≡ false → VariablePlaceAt s code site n (class_given o) d es p q → PlacedAt o n (variable_place s m inst d es) p q
  unfolding home_of
  variable_place_at o d NoMore n p q varies a =
      let r = reach (block_of s d) a.inside in
      subst (λ z. PlacedAt o n (in_instance z (λ j. PlaceOf j (Declared d.0))) p q) (sym r.2)
      (place_placed o n r.0 (Declared d.0) p q (record { text = block_of s d; address = a.address; reaches = r.1; own = own d a.within; has = a.within; varies = varies; declared = refl }))
  variable_place_at o d (Then e es) n p q varies a = absurd a

  array_place_at : (o : Option Qualified) (d : DeclNo) (line n : ℕ) (es : Expressions) (Inner : ℕ → ℕ → Type 0) (terms : Terms) → ((p q : ℕ) → Inner p q → TermsAt s code m inst site (suc n) terms p q) → operands es ≡ count terms → (p q : ℕ) → is_constant (entry_of s.tables d) ≡ false → ArrayPlaceAt s code site n line (class_given o) d es Inner p q → PlacedAt o n (array_place s m inst line d es terms) p q
  array_place_at o d line n NoMore Inner terms f counts p q varies a = absurd a
  array_place_at o d line n (Then e es) Inner terms f counts p q varies a = element_at o d line n (Then e es) Inner terms f counts p q varies a

  formal_place_at : (o : Option Qualified) (d : DeclNo) (line n : ℕ) (by : Mode) (kind : FormalKind) (es : Expressions) (Inner : ℕ → ℕ → Type 0) (terms : Terms) → ((p q : ℕ) → Inner p q → TermsAt s code m inst site (suc n) terms p q) → operands es ≡ count terms → (p q : ℕ) → is_constant (entry_of s.tables d) ≡ false → FormalPlaceAt s code site n line (class_given o) d by kind es Inner p q → PlacedAt o n (formal_place s m inst line d by kind es terms) p q
  formal_place_at o d line n mode.ByName shape.Simple es Inner terms f counts p q varies a = used_at d es (ForPlace true line) n (λ t. PlacedAt o n t p q) p q varies tt tt (λ j b. used_placed o n line j (Declared d.0) p q b) a
  formal_place_at o d line n mode.ByName shape.Array NoMore Inner terms f counts p q varies a = absurd a
  formal_place_at o d line n mode.ByName shape.Array (Then e es) Inner terms f counts p q varies a = named_element_at o d line n (Then e es) Inner terms f counts p q varies a
  formal_place_at o d line n mode.ByName shape.Procedure es Inner terms f counts p q varies a = absurd a
  formal_place_at o d line n mode.ByValue shape.Simple es Inner terms f counts p q varies a = variable_place_at o d es n p q varies a
  formal_place_at o d line n mode.ByValue shape.Array es Inner terms f counts p q varies a = array_place_at o d line n es Inner terms f counts p q varies a
  formal_place_at o d line n mode.ByValue shape.Procedure es Inner terms f counts p q varies a = absurd a
  formal_place_at o d line n mode.ByReference shape.Simple es Inner terms f counts p q varies a = variable_place_at o d es n p q varies a
  formal_place_at o d line n mode.ByReference shape.Array es Inner terms f counts p q varies a = array_place_at o d line n es Inner terms f counts p q varies a
  formal_place_at o d line n mode.ByReference shape.Procedure es Inner terms f counts p q varies a = absurd a

  declared_place_at : (o : Option Qualified) (d : DeclNo) (line n : ℕ) (e : Option Entry) (es : Expressions) (Inner : ℕ → ℕ → Type 0) (terms : Terms) → ((p q : ℕ) → Inner p q → TermsAt s code m inst site (suc n) terms p q) → operands es ≡ count terms → (p q : ℕ) → entry_of s.tables d ≡ e → DeclaredPlaceAt s code site n line (class_given o) d e es Inner p q → PlacedAt o n (declared_place s m inst line d e es terms) p q
  declared_place_at o d line n (Some (entry.Variable type)) es Inner terms f counts p q is a = variable_place_at o d es n p q (ap is_constant is) a
  declared_place_at o d line n (Some (entry.Array element dimensions)) es Inner terms f counts p q is a = array_place_at o d line n es Inner terms f counts p q (ap is_constant is) a
  declared_place_at o d line n (Some (entry.Formal x)) es Inner terms f counts p q is a = formal_place_at o d line n x.mode x.kind es Inner terms f counts p q (ap is_constant is) a
  declared_place_at o d line n (Some (entry.Constant type)) es Inner terms f counts p q is a = absurd a
  declared_place_at o d line n (Some (entry.Procedure result k)) es Inner terms f counts p q is a = absurd a
  declared_place_at o d line n (Some (entry.Class block)) es Inner terms f counts p q is a = absurd a
  declared_place_at o d line n (Some (entry.Virtual result own)) es Inner terms f counts p q is a = absurd a
  declared_place_at o d line n (Some (entry.Unspecified written)) es Inner terms f counts p q is a = absurd a
  declared_place_at o d line n (Some (entry.Attribute name parameter result)) es Inner terms f counts p q is a = absurd a
  declared_place_at o d line n None es Inner terms f counts p q is a = absurd a

  pub named_place_at : (o : Option Qualified) (u : Option Denotation) (line n : ℕ) (es : Expressions) (Inner : ℕ → ℕ → Type 0) (terms : Terms) → ((p q : ℕ) → Inner p q → TermsAt s code m inst site (suc n) terms p q) → operands es ≡ count terms → (p q : ℕ) → NamedPlaceAt s code site n line (class_given o) u es Inner p q → PlacedAt o n (named_place s m inst line u es terms) p q
  named_place_at o (Some (denotation.Declared d)) line n es Inner terms f counts p q a = declared_place_at o d line n (entry_of s.tables d) es Inner terms f counts p q refl a
  named_place_at o (Some (denotation.Standard name)) line n es Inner terms f counts p q a = image_placed o n sysout p q of_output a
  named_place_at o None line n es Inner terms f counts p q a = image_placed o n sysout p q of_output a

  -- `sysin` and `sysout` are known by their images
  abbrev pub OnlyImages : Option ℕ → Type 0
  OnlyImages None = Unit {0}
  OnlyImages (Some image) = IsImage image

  stream_named_is : (x : StandardName) → OnlyImages (stream_named x)
  stream_named_is found.Sysin = of_input
  stream_named_is found.Sysout = of_output
  stream_named_is _ = tt

  stream_denoted_is : (u : Option Denotation) → OnlyImages (stream_denoted u)
  stream_denoted_is (Some (denotation.Standard name)) = stream_named_is name
  stream_denoted_is (Some (denotation.Declared d)) = tt
  stream_denoted_is None = tt

  pub stream_is : (e : Expression) → OnlyImages (stream_of s e)
  unfolding stream_of
  stream_is (syntax.Named name es) = stream_denoted_is (denoted s name.token.0)
  stream_is _ = tt

  pub image_place_at : (o : Option Qualified) (stream : Option ℕ) (Other : ℕ → ℕ → Type 0) (other : Term) (n p q : ℕ) → OnlyImages stream → ((p q : ℕ) → Other p q → PlacedAt o n other p q) → StreamPlaceAt code site n stream Other p q → PlacedAt o n (image_place stream other) p q
  image_place_at o None Other other n p q known f a = f p q a
  image_place_at o (Some image) Other other n p q known f a = image_placed o n image p q known a

  object_at : (place : Bool) (n : ℕ) (Place Value : ℕ → ℕ → Type 0) (x y : Term) → ((p q : ℕ) → Place p q → ReadAt n x p q) → ((p q : ℕ) → Value p q → OperandAt s code m inst site n y p q) → (p q : ℕ) → ObjectAt place Place Value p q → ReadAt n (object_term place x y) p q
  object_at true n Place Value x y f g p q a = f p q a
  object_at false n Place Value x y f g p q a = let v = g p q a in (v.0, read_given s y v.1)

  attribute_at : (name : Option Standard) (is : Bool) (line n : ℕ) (es : Expressions) (Place Value Inner : ℕ → ℕ → Type 0) (x y : Term) (terms : Terms) → ((p q : ℕ) → Place p q → ReadAt n x p q) → ((p q : ℕ) → Value p q → OperandAt s code m inst site n y p q) → ((p q : ℕ) → Inner p q → TermsAt s code m inst site (suc n) terms p q) → operands es ≡ count terms
      → (p q : ℕ) → AttributeAt code site n line name is es Place Value Inner p q → NamedIs n (standard_leaves name) (attribute_term name is line x y terms) p q
  attribute_at None is line n es Place Value Inner x y terms f g h counts p q a = absurd a
  attribute_at (Some name) is line n es Place Value Inner x y terms f g h counts p q a =
      ((a.1, (a.0, object_at (moves_position name && is) n Place Value x y f g p a.0 a.2, reads_terms terms (suc n) a.0 a.1 (h a.0 a.1 a.3)), subst (λ c. StandardIs code site n line name c a.1 q) (ap suc counts) a.4), refl)

  pub behind_dot_at : (stream : Option ℕ) (name : Option Standard) (is : Bool) (line n : ℕ) (es : Expressions) (Place Value Operands Inner : ℕ → ℕ → Type 0) (x y : Term) (terms : Terms) → OnlyImages stream → ((p q : ℕ) → Place p q → ReadAt n x p q) → ((p q : ℕ) → Value p q → OperandAt s code m inst site n y p q) → ((p q : ℕ) → Operands p q → TermsAt s code m inst site n terms p q) → ((p q : ℕ) → Inner p q → TermsAt s code m inst site (suc n) terms p q) → operands es ≡ count terms
      → (p q : ℕ) → BehindDotAt code site n line stream name is es Place Value Operands Inner p q → NamedIs n (standard_leaves name) (behind_dot stream name is line x y terms) p q
  behind_dot_at (Some image) name is line n es Place Value Operands Inner x y terms known f g h0 h counts p q a = standard_at name image line n es Operands Inner terms h0 h counts known p q a
  behind_dot_at None name is line n es Place Value Operands Inner x y terms known f g h0 h counts p q a = attribute_at name is line n es Place Value Inner x y terms f g h counts p q a
