-- The closed trees of what objects have are fine: an attribute of the object that a tree gives, by the class that declares it.
use Rattle.std.proofs.Common.{◌≡◌, ℕ, Bool, true, false, List, Option, Some, None, refl, sym, ap, ◌∙◌, subst}
use Rattle.std.specs.Prelude.{not, slice_get, ◌+◌, ◌||◌}
use Rattle.sim_base.specs.declared.numbering.DeclNo.{DeclNo}
use Rattle.sim_scope.specs.declared.scopes.Declaration.{Declaration}
use Rattle.sim_scope.specs.declared.types.Entry.{Entry}
use Rattle.sim_scope.specs.declared.types.Entry.TheVariants as entry
use Rattle.sim_scope.specs.declared.types.Formal.{Formal}
use Rattle.sim_scope.specs.declared.types.FormalKind.{FormalKind}
use Rattle.sim_scope.specs.declared.types.FormalKind.TheVariants as shape
use Rattle.sim_scope.specs.declared.types.Mode.{Mode}
use Rattle.sim_scope.specs.declared.types.Mode.TheVariants as mode
use Rattle.sim_scope.specs.declared.types.SimType.{SimType}
use Rattle.sim_scope.specs.declared.types.SimType.TheVariants as type
use Rattle.sim_scope.specs.declared.types.StandardClass.{StandardClass}
use Rattle.sim_scope.specs.declared.types.StandardClass.TheVariants as standard
use Rattle.sim_scope.specs.Levels.{has_level}
use Rattle.sim_scope.specs.Scopes.{entry_in, entry_of, result_in, result_of}
use Rattle.sim_scope.specs.Source.{Source, block_of, block_of_row}
use Rattle.sim_tree.specs.Syntax.{Declarations, Expressions, NoDeclaration, NoMore, NoStatement, Statements, Then}
use Rattle.sim_values.specs.declared.kind.Kind.{Kind}
use Rattle.sim_values.specs.declared.kind.Kind.TheVariants as kind
use Rattle.sim_values.specs.declared.standard.Standard.{Standard}
use Rattle.sim_values.specs.declared.standard.Standard.TheVariants as name
use Rattle.sim_values.specs.Plain.{Plain, kind_of}
use Rattle.sim_values.specs.Standard.{row_of}
use Rattle.sim_code.specs.Sets.{is_attribute_name, is_set_name}
use Rattle.sim_code.specs.Simulations.{is_process_name}
use Rattle.sim_meaning.specs.Attributes.{array_attribute, attribute_formals, attribute_of_object, attribute_place, element_at, entry_at, entry_attribute, entry_procedure, parameter_at, parameter_attribute, process_term, variable_at, variable_attribute}
use Rattle.sim_meaning.specs.Closing.{formal_by_name, named_formal, type_of_formal}
use Rattle.sim_meaning.specs.Entries.{formals_of, numbers_of}
use Rattle.sim_meaning.specs.Levels.{has_levels, is_class, is_process_class, level_made, qualification, writes_inner}
use Rattle.sim_meaning.specs.Objects.{attributes_from}
use Rattle.sim_meaning.specs.Pending.{Declared, Instances, NotNoneOf, Term, Terms}
use Rattle.sim_meaning.specs.Texts.{ClassText, PrefixedText, StandardText, Text, constant_of, kind_of_type, text}
use Rattle.sim_sound.specs.Held.{Place, ArrayOf, ByName, Fits, FitsIn, Holds, Refers, Simply, entry_holds, entry_names, formal_holds, given_by, held_by, key_holds, reference_to, result_declared, result_holds, Procedure, formal_means, ResultFits}
use Rattle.sim_sound.specs.Expressions.{FormalStands, ProcedureDeclared, FormalCalled, ArrayNames, ConstantNames, DeclaredGives, HeldNames, LeftHeld, VariableNames, ParametersAre}
use Rattle.sim_sound.specs.Typed.{ClassTyped, IsAttribute, SetProcedureThere, Typed, owner_place}
use Rattle.sim_sound.proofs.Lists.{same_some}
use Rattle.sim_sound.proofs.Prefixes.{class_has, level_has_levels, level_is, levels_solid}
use Rattle.sim_sound.proofs.Reach.{among_block, key_there}
use Rattle.sim_sound.proofs.Sound.{AttributeFine, GivesResult, IntegersFine, NotStandard, TermFine, TermsFine, formal_kinds, VirtualIn}
use Rattle.sim_sound.proofs.Values.{Stands, AddressOf, IsPlain, KeyAmong, Kinds, ObjectIn, ProcedureIn, Value, keys_in, own_cells, held_kinds}
use Rattle.sim_sound.proofs.Results.{itself_fits}

-- ---- what is declared

-- what a variable of a type holds is no array
reference_plain : (c : Option ℕ) → IsPlain (reference_to c)
reference_plain None = tt
reference_plain (Some k) = tt

pub held_plain : (s : Source) (ty : SimType) → IsPlain (held_by s ty)
held_plain s (type.Ref d) = reference_plain (qualification s (Some (type.Ref d)))
held_plain s type.Integer = tt
held_plain s type.Boolean = tt
held_plain s type.Character = tt
held_plain s type.Text = tt
held_plain s type.NoneType = tt

pub names_variable : (s : Source) (Known : Type 0) (es : Expressions) (Indices Checked : Type 0) (held h : Holds) → IsPlain held → HeldNames s Known es Indices Checked (Some held) h → VariableNames s Known es held h
names_variable s Known es Indices Checked (Simply k) h is a = a
names_variable s Known es Indices Checked (Refers c) h is a = a
names_variable s Known es Indices Checked (ArrayOf k) h is a = absurd is
names_variable s Known es Indices Checked (Procedure r) h is a = absurd is
names_variable s Known es Indices Checked (ByName k) h is a = absurd is

pub left_variable_is : (Known : Type 0) (Indices : Type 0) (held h : Holds) → IsPlain held → LeftHeld Known NoMore Indices (Some held) h → (held ≡ h) × Known
left_variable_is Known Indices (Simply k) h is a = a
left_variable_is Known Indices (Refers c) h is a = a
left_variable_is Known Indices (ArrayOf k) h is a = absurd is
left_variable_is Known Indices (Procedure r) h is a = absurd is
left_variable_is Known Indices (ByName k) h is a = absurd is

pub no_left_variable : (Known : Type 0) (Indices : Type 0) (e : _) (es : Expressions) (held h : Holds) → IsPlain held → LeftHeld Known (Then e es) Indices (Some held) h → ⊥
no_left_variable Known Indices e es (Simply k) h is a = a
no_left_variable Known Indices e es (Refers c) h is a = a
no_left_variable Known Indices e es (ArrayOf k) h is a = is
no_left_variable Known Indices e es (Procedure r) h is a = is
no_left_variable Known Indices e es (ByName k) h is a = is

pub entry_there : (s : Source) (e : Option Entry) (c : Bool) (h : Holds) → entry_holds s c e ≡ Some h → (x : Entry) × (e ≡ Some x)
entry_there s None c h e = absurd (cc)
entry_there s (Some x) c h e = (x, refl)

-- a formal parameter by name that is alone, of a type
pub record NamedEntry (s : Source) (d named : DeclNo) (e : Option Entry) (Known : Type 0) (es : Expressions) (h : Holds) : Type 0 where
  pub type : SimType
  pub same : d ≡ named
  pub holds : (c : Bool) → entry_holds s c e ≡ Some (ByName (Simply (kind_of_type type)))
  pub has_type : type_of_formal e ≡ Some type
  pub alone : es ≡ NoMore
  pub held : held_by s type ≡ h
  pub known : Known

formal_alone : (Known : Type 0) (es : Expressions) (Indices : Type 0) (held h : Holds) → IsPlain held → LeftHeld Known es Indices (Some held) h → es ≡ NoMore
formal_alone Known NoMore Indices held h is a = refl
formal_alone Known (Then e es) Indices held h is a = absurd (no_left_variable Known Indices e es held h is a)

pub named_entry : (s : Source) (d named : DeclNo) (e : Option Entry) (Known : Type 0) (es : Expressions) (Indices : Type 0) (h : Holds) → formal_by_name d e ≡ Some named → LeftHeld Known es Indices (entry_names s e) h → NamedEntry s d named e Known es h
named_entry s d named (Some (entry.Formal f)) Known es Indices h is a = by_mode f.mode f.kind f.ty is a
  where
    by_mode : (f : Mode) (g : FormalKind) (ty : Option SimType) → named_formal f g d ≡ Some named → LeftHeld Known es Indices (formal_means s g ty) h → NamedEntry s d named (Some (entry.Formal (record { mode = f; kind = g; ty = ty }))) Known es h
    by_mode mode.ByName shape.Simple (Some ty) is a =
        let alone = formal_alone Known es Indices (held_by s ty) h (held_plain s ty) a in
        let x = left_variable_is Known Indices (held_by s ty) h (held_plain s ty) (subst (λ z. LeftHeld Known z Indices (Some (held_by s ty)) h) alone a) in
        record { type = ty; same = cc; holds = λ c. refl; has_type = refl; alone = alone; held = x.0; known = x.1 }
    by_mode mode.ByName shape.Simple None is a = absurd (nothing_held es a)
      where
        nothing_held : (es : Expressions) → LeftHeld Known es Indices None h → ⊥
        nothing_held NoMore a = a
        nothing_held (Then e es) a = a
    by_mode mode.ByName shape.Array ty is a = absurd (cc)
    by_mode mode.ByName shape.Procedure ty is a = absurd (cc)
    by_mode mode.ByValue g ty is a = absurd (cc)
    by_mode mode.ByReference g ty is a = absurd (cc)
named_entry s d named None Known es Indices h is a = absurd (cc)
named_entry s d named (Some _) Known es Indices h is a = absurd (cc)

-- what is no procedure
abbrev pub IsNoProcedure : Option Holds → Type 0
IsNoProcedure (Some (Procedure r)) = ⊥
IsNoProcedure h = Unit {0}

-- the kind of what a type holds
pub held_of_kind : (s : Source) (ty : SimType) (k : Kind) → held_by s ty ≡ Simply k → kind_of_type ty ≡ k
held_of_kind s type.Integer k e = cc
held_of_kind s type.Boolean k e = cc
held_of_kind s type.Character k e = cc
held_of_kind s type.Text k e = cc
held_of_kind s type.NoneType k e = cc
held_of_kind s (type.Ref d) k e = of_reference (qualification s (Some (type.Ref d))) e
  where
    of_reference : (c : Option ℕ) → reference_to c ≡ Simply k → kind.Reference ≡ k
    of_reference None e = cc
    of_reference (Some c) e = absurd (cc)

-- and the qualification of what refers
pub held_qualified : (s : Source) (ty : SimType) (c : ℕ) → held_by s ty ≡ Refers c → (kind_of_type ty ≡ kind.Reference) × (qualification s (Some ty) ≡ Some c)
held_qualified s type.Integer c e = absurd (cc)
held_qualified s type.Boolean c e = absurd (cc)
held_qualified s type.Character c e = absurd (cc)
held_qualified s type.Text c e = absurd (cc)
held_qualified s type.NoneType c e = absurd (cc)
held_qualified s (type.Ref d) c e = (refl, of_reference (qualification s (Some (type.Ref d))) e)
  where
    of_reference : (x : Option ℕ) → reference_to x ≡ Refers c → x ≡ Some c
    of_reference None e = absurd (cc)
    of_reference (Some k) e = cc

-- what is named is known where it stands
module _ (s : Source) (Known : Type 0) (d : DeclNo) where
  held_known : (es : Expressions) (Indices Checked : Type 0) (held : Option Holds) (g : Holds) → HeldNames s Known es Indices Checked held g → Known
  held_known NoMore Indices Checked (Some (Simply q)) g a = a.1
  held_known (Then x es) Indices Checked (Some (Simply q)) g a = absurd a
  held_known NoMore Indices Checked (Some (Refers q)) g a = a.1
  held_known (Then x es) Indices Checked (Some (Refers q)) g a = absurd a
  held_known NoMore Indices Checked (Some (ArrayOf q)) g a = a.1
  held_known (Then x es) Indices Checked (Some (ArrayOf q)) g a = a.1
  held_known es Indices Checked (Some (Procedure r)) g a = a.1
  held_known es Indices Checked (Some (ByName q)) g a = absurd a
  held_known es Indices Checked None g a = absurd a

  called_known : (g : FormalKind) (ty : Option SimType) (Checked : Type 0) → FormalCalled s Known g ty Checked → Known
  called_known shape.Procedure ty Checked a = a.1
  called_known shape.Simple ty Checked a = absurd a
  called_known shape.Array ty Checked a = absurd a

  constant_known : (es : Expressions) (g : Holds) → ConstantNames s Known d es g → Known
  constant_known NoMore g a = a.3
  constant_known (Then x es) g a = absurd a

  pub known_of : (es : Expressions) (Indices Checked : Type 0) (Actuals : List Formal → Type 0) (e : Option Entry) (h : Option Holds) → DeclaredGives s Known d es Indices Checked Actuals e h → Known
  known_of es Indices Checked Actuals (Some (entry.Procedure result q)) h a = a.1
  known_of es Indices Checked Actuals (Some (entry.Attribute n parameter result)) h a = a.2
  known_of es Indices Checked Actuals (Some (entry.Virtual result own)) h a = a.1
  known_of es Indices Checked Actuals (Some (entry.Constant ty)) (Some g) a = constant_known es g a
  known_of es Indices Checked Actuals (Some (entry.Variable ty)) (Some g) a = held_known es Indices Checked (Some (held_by s ty)) g a
  known_of es Indices Checked Actuals (Some (entry.Array ty n)) (Some g) a = held_known es Indices Checked (Some (ArrayOf (held_by s ty))) g a
  known_of es Indices Checked Actuals (Some (entry.Formal f)) (Some g) a = held_known es Indices Checked (formal_means s f.kind f.ty) g a
  known_of es Indices Checked Actuals (Some (entry.Formal f)) None a = called_known f.kind f.ty Checked a
  known_of es Indices Checked Actuals None h a = absurd a
  known_of es Indices Checked Actuals (Some _) None a = absurd a
  known_of es Indices Checked Actuals (Some _) (Some g) a = absurd a

  pub left_known : (es : Expressions) (Indices : Type 0) (held : Option Holds) (h : Holds) → LeftHeld Known es Indices held h → Known
  left_known NoMore Indices (Some (Simply q)) h a = a.1
  left_known (Then x es) Indices (Some (Simply q)) h a = absurd a
  left_known NoMore Indices (Some (Refers q)) h a = a.1
  left_known (Then x es) Indices (Some (Refers q)) h a = absurd a
  left_known NoMore Indices (Some (ArrayOf q)) h a = absurd a
  left_known (Then x es) Indices (Some (ArrayOf q)) h a = a.1
  left_known NoMore Indices (Some (Procedure r)) h a = absurd a
  left_known (Then x es) Indices (Some (Procedure r)) h a = absurd a
  left_known NoMore Indices (Some (ByName q)) h a = absurd a
  left_known (Then x es) Indices (Some (ByName q)) h a = absurd a
  left_known NoMore Indices None h a = absurd a
  left_known (Then x es) Indices None h a = absurd a

  -- a text that is named lies where it is found
  text_element : (k : Holds) → Fits s k (Simply kind.Text) → k ≡ Simply kind.Text
  text_element (Simply k) e = ap Simply e
  text_element (Refers c) e = absurd (cc)
  text_element (ArrayOf h) e = absurd e
  text_element (Procedure r) e = absurd e
  text_element (ByName k) e = absurd e

  -- or else it is what a procedure gives
  pub text_left : (es : Expressions) (Indices Checked : Type 0) (held : Option Holds) → IsNoProcedure held → HeldNames s Known es Indices Checked held (Simply kind.Text) → LeftHeld Known es Indices held (Simply kind.Text)
  text_left NoMore Indices Checked (Some (Simply q)) plain a = (ap Simply a.0, a.1)
  text_left (Then x es) Indices Checked (Some (Simply q)) plain a = absurd a
  text_left NoMore Indices Checked (Some (Refers q)) plain a = absurd (text_none a.0)
    where
      text_none : kind.Reference ≡ kind.Text → ⊥
      text_none e = cc
  text_left (Then x es) Indices Checked (Some (Refers q)) plain a = absurd a
  text_left NoMore Indices Checked (Some (ArrayOf q)) plain a = absurd (array_none a.0)
    where
      array_none : ArrayOf q ≡ Simply kind.Text → ⊥
      array_none e = cc
  text_left (Then x es) Indices Checked (Some (ArrayOf q)) plain a = (text_element q a.0, a.1, a.2)
  text_left es Indices Checked (Some (Procedure r)) plain a = absurd plain
  text_left es Indices Checked (Some (ByName q)) plain a = absurd a
  text_left es Indices Checked None _ a = absurd a

-- the attributes of a process are those of the class `process`
pub process_place : (n : Standard) (p : ℕ) → is_process_name n ≡ true → owner_place (row_of n).owner ≡ Some p → p ≡ 3
unfolding row_of
process_place name.Idle p is e = let q : 3 ≡ p = cc in sym q
process_place name.Terminated p is e = let q : 3 ≡ p = cc in sym q
process_place name.Evtime p is e = let q : 3 ≡ p = cc in sym q
process_place name.Nextev p is e = let q : 3 ≡ p = cc in sym q
process_place _ p is e = absurd (cc)

module _ (s : Source) (ok : Typed s) where
  -- a class or a prefixed block is as it is typed, and so is the level that is made of it
  pub record Leveled (u : ℕ) : Type 0 where
    pub words : Text
    pub is : text s u ≡ Some words
    pub declarations : Declarations
    pub statements : Statements
    pub typed : ClassTyped s u declarations statements
    pub own : own_cells s u words ≡ attributes_from s (numbers_of s u)
    pub last : Bool
    pub process : Bool
    pub of_process : process ≡ true → text s u ≡ Some (StandardText standard.Process)
    pub to_process : text s u ≡ Some (StandardText standard.Process) → process ≡ true
    pub made : level_made s u (Some words) ≡ Some (record { text = u; declarations = declarations; statements = statements; inner_last = last; process = process })

  -- the level of the class `process`
  process_is : (u : ℕ) (which : StandardClass) → text s u ≡ Some (StandardText which) → is_process_class which ≡ true → text s u ≡ Some (StandardText standard.Process)
  process_is u standard.Process e is = e
  process_is u standard.Linkage e is = absurd (cc)
  process_is u standard.Link e is = absurd (cc)
  process_is u standard.Head e is = absurd (cc)

  never : {A : Type 0} → false ≡ true → A
  never e = absurd (cc)

  leveled_as : (u : ℕ) (x : Option Text) → text s u ≡ x → has_levels x ≡ true → Leveled u
  leveled_as u (Some (ClassText p h ds ss)) e has = record { words = ClassText p h ds ss; is = e; declarations = ds; statements = ss; typed = ok.texts u (ClassText p h ds ss) e; own = refl; last = not (writes_inner s u); process = false; of_process = λ is. never is; to_process = λ is. absurd (let z : Some (ClassText p h ds ss) ≡ Some (StandardText standard.Process) = sym e ∙ is in cc); made = refl }
  leveled_as u (Some (PrefixedText c es ds ss)) e has = record { words = PrefixedText c es ds ss; is = e; declarations = ds; statements = ss; typed = ok.texts u (PrefixedText c es ds ss) e; own = refl; last = true; process = false; of_process = λ is. never is; to_process = λ is. absurd (let z : Some (PrefixedText c es ds ss) ≡ Some (StandardText standard.Process) = sym e ∙ is in cc); made = refl }
  leveled_as u (Some (StandardText which)) e has = record { words = StandardText which; is = e; declarations = NoDeclaration; statements = NoStatement; typed = ok.texts u (StandardText which) e; own = refl; last = true; process = is_process_class which; of_process = λ is. process_is u which e is; to_process = λ is. (let z : which ≡ standard.Process = (let y : Some (StandardText which) ≡ Some (StandardText standard.Process) = sym e ∙ is in cc) in ap is_process_class z); made = refl }
  leveled_as u None e has = absurd (cc)
  leveled_as u (Some _) e has = absurd (cc)

  pub leveled : (u : ℕ) → has_levels (text s u) ≡ true → Leveled u
  leveled u has = leveled_as u (text s u) refl has

  -- what is no standard attribute is declared in no standard class
  pub not_standard : (d : DeclNo) (x : Entry) → entry_of s.tables d ≡ Some x → (IsAttribute (Some x) → ⊥) → NotStandard s (block_of s d)
  unfolding entry_of block_of
  not_standard d x e other = by_row (slice_get s.tables.declarations d.0) refl e
    where
      by_row : (row : Option Declaration) → slice_get s.tables.declarations d.0 ≡ row → entry_in row ≡ Some x → NotStandard s (block_of_row row)
      by_row None is f = absurd (cc)
      by_row (Some row) is f = λ which at. other (subst IsAttribute f (ok.bare d row which is at))

  no_attribute : (c : Bool) (x : Entry) (h : Holds) → entry_holds s c (Some x) ≡ Some h → IsAttribute (Some x) → ⊥
  no_attribute c (entry.Attribute n parameter result) h e a = cc
  no_attribute c _ h e a = a

  pub held_not_standard : (d : DeclNo) (c : Bool) (h : Holds) → entry_holds s c (entry_of s.tables d) ≡ Some h → NotStandard s (block_of s d)
  held_not_standard d c h e = let x = entry_there s (entry_of s.tables d) c h e in not_standard d x.0 x.1 (no_attribute c x.0 h (sym (ap (entry_holds s c) x.1) ∙ e))

  pub procedure_not_standard : (d : DeclNo) (result : Option SimType) (k : ℕ) → entry_of s.tables d ≡ Some (entry.Procedure result k) → NotStandard s (block_of s d)
  procedure_not_standard d result k e = not_standard d (entry.Procedure result k) e (λ a. a)

  -- a virtual of a class gives what its declaration says
  pub virtual_in : (d : DeclNo) (c : ℕ) (result wanted : Option SimType) (own : Option DeclNo) → entry_of s.tables d ≡ Some (entry.Virtual result own) → has_level s.tables c (block_of s d) ≡ true → ResultFits s (given_by s result) (given_by s wanted) → VirtualIn s d.0 c wanted
  virtual_in d c result wanted own e level fits = record { own = own; declares = e; level = level; not_standard = not_standard d (entry.Virtual result own) e (λ a. a); fits = fits; result = result }

  -- a procedure stands in the text of its declaration, and gives what that says
  pub procedure_in : (d : DeclNo) (result : Option SimType) (k : ℕ) → entry_of s.tables d ≡ Some (entry.Procedure result k) → ProcedureIn s k (block_of s d)
  procedure_in d result k e = let p = ok.procedures d result k e in record { stands_in = p.around; result = p.given; heading = p.heading; body = p.body; is = p.is }

  result_same : (d : DeclNo) (result : Option SimType) (k : ℕ) → entry_of s.tables d ≡ Some (entry.Procedure result k) → result_of s.tables d ≡ result
  unfolding result_of
  result_same d result k e = ap result_in e

  pub holds_result : (d : DeclNo) (result : Option SimType) (k : ℕ) → entry_of s.tables d ≡ Some (entry.Procedure result k) → result_holds s k ≡ given_by s result
  holds_result d result k e = let p = ok.procedures d result k e in ap (λ z. given_by s (result_declared s z)) p.owned ∙ ap (given_by s) (result_same d result k e)

  pub gives_result : (d : DeclNo) (result : Option SimType) (k : ℕ) (h : Option Holds) → entry_of s.tables d ≡ Some (entry.Procedure result k) → FitsIn s (given_by s result) h → GivesResult s k (held_kinds h)
  gives_result d result k h e fits = (h, subst (λ z. FitsIn s z h) (sym (holds_result d result k e)) fits, refl)

  -- ---- the attributes of a class

  module _ (d : DeclNo) (c : ℕ) (level : has_level s.tables c (block_of s d) ≡ true) where
    there_in : (h : Holds) → (has_levels (text s (block_of s d)) ≡ true → key_holds s (block_of s d) (Declared d.0) ≡ Some h) → has_levels (text s (block_of s d)) ≡ true → KeyAmong (Declared d.0) (keys_in s (block_of s d) (text s (block_of s d)))
    there_in h is has =
        let w = leveled (block_of s d) has in
        key_there s ok (block_of s d) w.words d h (has_levels (text s (block_of s d))) (levels_solid (text s (block_of s d)) has) w.is (is has) (among_block s ok d (has_levels (text s (block_of s d))) h (is has))

    -- a variable, an array or a parameter
    holding : (h : Holds) → entry_holds s true (entry_of s.tables d) ≡ Some h → has_levels (text s (block_of s d)) ≡ true → key_holds s (block_of s d) (Declared d.0) ≡ Some h
    holding h e has = ap (λ b. entry_holds s b (entry_of s.tables d)) has ∙ e

    pub attribute_is : (h : Holds) → entry_holds s true (entry_of s.tables d) ≡ Some h → AttributeFine s (block_of s d) (Declared d.0) h c
    attribute_is h e = record { level = level; own = held_not_standard d true h e; is = holding h e; there = there_in h (holding h e) }

    -- a parameter of a class is not by name
    pub not_named : (k : Holds) → entry_holds s true (entry_of s.tables d) ≡ Some (ByName k) → has_levels (text s (block_of s d)) ≡ true → ⊥
    not_named k e has = let w = leveled (block_of s d) has in (w.typed).not_by_name d k (among_block s ok d true (ByName k) e) e

    -- and is no procedure
    pub no_formal_procedure : is_class (text s c) ≡ true → (result : Option SimType) → entry_holds s true (entry_of s.tables d) ≡ Some (Procedure result) → ⊥
    no_formal_procedure class result e =
        let w = leveled (block_of s d) (level_has_levels s ok (class_has s ok c class) (level_is s c (block_of s d) level)) in
        (w.typed).no_procedure d result (among_block s ok d true (Procedure result) e) e

    pub attribute_named : (k h : Holds) → entry_holds s true (entry_of s.tables d) ≡ Some (ByName k) → AttributeFine s (block_of s d) (Declared d.0) h c
    attribute_named k h e = record { level = level; own = held_not_standard d true (ByName k) e; is = λ has. absurd (not_named k e has); there = λ has. absurd (not_named k e has) }

    -- a constant, which has a value of its type
    constant_held : (ty : SimType) (v : Plain) → entry_of s.tables d ≡ Some (entry.Constant ty) → constant_of s d ≡ Some v → has_levels (text s (block_of s d)) ≡ true → key_holds s (block_of s d) (Declared d.0) ≡ Some (Simply (kind_of v))
    constant_held ty v e is has =
        let w = leveled (block_of s d) has in
        let holds : key_holds s (block_of s d) (Declared d.0) ≡ Some (Simply (kind_of_type ty)) = holding (Simply (kind_of_type ty)) (ap (entry_holds s true) e) has in
        let known = (w.typed).constants d ty (among_block s ok d true (Simply (kind_of_type ty)) (ap (entry_holds s true) e)) e in
        let same : v ≡ known.value = same_some (constant_of s d) v known.value is known.is in
        holds ∙ ap (λ z. Some (Simply z)) (sym (ap kind_of same ∙ known.of_type))

    pub constant_is : (ty : SimType) (v : Plain) → entry_of s.tables d ≡ Some (entry.Constant ty) → constant_of s d ≡ Some v → AttributeFine s (block_of s d) (Declared d.0) (Simply (kind_of v)) c
    constant_is ty v e is = record { level = level; own = held_not_standard d true (Simply (kind_of_type ty)) (ap (entry_holds s true) e); is = constant_held ty v e is; there = there_in (Simply (kind_of v)) (constant_held ty v e is) }

    -- ---- of an object that a tree gives

    module _ (m : Instances) (i t : ℕ) (todo : List DeclNo) (line : ℕ) (object : Term) (fine : TermFine s m i t todo object (Some (Value (Refers c)))) where
      abbrev Fine : Term → Option Kinds → Type 0
      Fine x g = TermFine s m i t todo x g

      abbrev lies : Term
      lies = attribute_place s line d object

      lies_fine : (h : Holds) → AttributeFine s (block_of s d) (Declared d.0) h c → Fine lies (Some (AddressOf h))
      lies_fine h a = (c, h, AddressOf h, a, refl, refl, fine)

      variable_fine : (Known : Type 0) (es : Expressions) (held h : Holds) → AttributeFine s (block_of s d) (Declared d.0) held c → VariableNames s Known es held h → Fine (variable_attribute lies es) (Some (Value h))
      variable_fine Known NoMore held h is a = (h, AddressOf held, a.0, refl, lies_fine held is)
      variable_fine Known (Then e es) held h is a = absurd a

      array_fine : (Known : Type 0) (es : Expressions) (ts : Terms) (Indices : Type 0) (k h : Holds) → AttributeFine s (block_of s d) (Declared d.0) (ArrayOf k) c → (Indices → IntegersFine s m i t todo ts) → ArrayNames s Known es Indices k h → Fine (array_attribute line lies es ts) (Some (Value h))
      array_fine Known NoMore ts Indices k h is go a = (h, AddressOf (ArrayOf k), subst (Fits s (ArrayOf k)) a.0 refl, refl, lies_fine (ArrayOf k) is)
      array_fine Known (Then e es) ts Indices k h is go a = (h, AddressOf k, a.0, refl, (k, refl, (ArrayOf k, AddressOf (ArrayOf k), refl, refl, lies_fine (ArrayOf k) is), go a.2))

      formal_fine : is_class (text s c) ≡ true → (Known : Type 0) (f : Mode) (g : FormalKind) (ty : Option SimType) (es : Expressions) (ts : Terms) (Indices Checked : Type 0) (h : Holds) → entry_holds s true (entry_of s.tables d) ≡ formal_holds s f g ty → (Indices → IntegersFine s m i t todo ts) → HeldNames s Known es Indices Checked (formal_means s g ty) h → Fine (parameter_attribute line g lies es ts) (Some (Value h))
      formal_fine class Known mode.ByValue shape.Simple (Some ty) es ts Indices Checked h e go a = variable_fine Known es (held_by s ty) h (attribute_is (held_by s ty) e) (names_variable s Known es Indices Checked (held_by s ty) h (held_plain s ty) a)
      formal_fine class Known mode.ByReference shape.Simple (Some ty) es ts Indices Checked h e go a = variable_fine Known es (held_by s ty) h (attribute_is (held_by s ty) e) (names_variable s Known es Indices Checked (held_by s ty) h (held_plain s ty) a)
      formal_fine class Known mode.ByValue shape.Array (Some ty) es ts Indices Checked h e go a = array_fine Known es ts Indices (held_by s ty) h (attribute_is (ArrayOf (held_by s ty)) e) go a
      formal_fine class Known mode.ByReference shape.Array (Some ty) es ts Indices Checked h e go a = array_fine Known es ts Indices (held_by s ty) h (attribute_is (ArrayOf (held_by s ty)) e) go a
      formal_fine class Known mode.ByName shape.Simple (Some ty) es ts Indices Checked h e go a = variable_fine Known es (held_by s ty) h (attribute_named (Simply (kind_of_type ty)) (held_by s ty) e) (names_variable s Known es Indices Checked (held_by s ty) h (held_plain s ty) a)
      formal_fine class Known mode.ByName shape.Array (Some ty) es ts Indices Checked h e go a = array_fine Known es ts Indices (held_by s ty) h (attribute_named (ArrayOf (held_by s ty)) (ArrayOf (held_by s ty)) e) go a
      formal_fine class Known mode.ByValue shape.Procedure ty es ts Indices Checked h e go a = absurd (no_formal_procedure class ty e)
      formal_fine class Known mode.ByReference shape.Procedure ty es ts Indices Checked h e go a = absurd (no_formal_procedure class ty e)
      formal_fine class Known mode.ByName shape.Procedure ty es ts Indices Checked h e go a = absurd (not_named (Procedure ty) e (level_has_levels s ok (class_has s ok c class) (level_is s c (block_of s d) level)))
      formal_fine class Known _ shape.Simple None es ts Indices Checked h e go a = absurd a
      formal_fine class Known _ shape.Array None es ts Indices Checked h e go a = absurd a

      -- a parameter of a class is no procedure
      formal_called : is_class (text s c) ≡ true → (Known : Type 0) (f : Mode) (g : FormalKind) (ty : Option SimType) (es : Expressions) (ts : Terms) (Checked : Type 0) → entry_holds s true (entry_of s.tables d) ≡ formal_holds s f g ty → FormalCalled s Known g ty Checked → Fine (parameter_attribute line g lies es ts) None
      formal_called class Known mode.ByValue shape.Procedure ty es ts Checked e a = absurd (no_formal_procedure class ty e)
      formal_called class Known mode.ByReference shape.Procedure ty es ts Checked e a = absurd (no_formal_procedure class ty e)
      formal_called class Known mode.ByName shape.Procedure ty es ts Checked e a = absurd (not_named (Procedure ty) e (level_has_levels s ok (class_has s ok c class) (level_is s c (block_of s d) level)))
      formal_called class Known _ shape.Simple ty es ts Checked e a = absurd a
      formal_called class Known _ shape.Array ty es ts Checked e a = absurd a

      constant_fine : (Known : Type 0) (ty : SimType) (es : Expressions) (h : Holds) → entry_of s.tables d ≡ Some (entry.Constant ty) → ConstantNames s Known d es h → Fine (variable_attribute lies es) (Some (Value h))
      constant_fine Known ty NoMore h e a = (h, AddressOf (Simply (kind_of a.0)), subst (Fits s (Simply (kind_of a.0))) a.2 refl, refl, lies_fine (Simply (kind_of a.0)) (constant_is ty a.0 e a.1))
      constant_fine Known ty (Then x es) h e a = absurd a

      -- a procedure of SIMSET, of the object, and an attribute of a process
      set_fine : (n : Standard) (parameter result : Option SimType) (acts : Terms) (h : Option Holds) → entry_of s.tables d ≡ Some (entry.Attribute n parameter result) → is_attribute_name n ≡ true → FitsIn s (given_by s result) h → TermsFine s m i t todo acts (formal_kinds s (attribute_formals parameter)) → Fine (attribute_of_object (is_set_name n) n line object acts) (held_kinds h)
      set_fine n parameter result acts h e named fits fine_acts = by_name (is_set_name n) refl (is_process_name n) refl
        where
          there : SetProcedureThere s d n parameter result
          there = ok.set_procedures d n parameter result e named

          of_object : (p : ℕ) → there.place ≡ p → Fine (NotNoneOf line object) (Some (ObjectIn (there.linkage + p)))
          of_object p same = (Refers c, ObjectIn (there.linkage + p), subst (λ z. has_level s.tables c z ≡ true) (there.declared ∙ ap (λ z. there.linkage + z) same) level, refl, fine)

          both : (p q : Bool) → p ≡ false → q ≡ false → (p || q) ≡ true → ⊥
          both true q e f g = cc
          both false true e f g = cc
          both false false e f g = cc

          by_name : (set : Bool) → is_set_name n ≡ set → (process : Bool) → is_process_name n ≡ process → Fine (attribute_of_object set n line object acts) (held_kinds h)
          by_name true is process of = (
            record { declaration = d; parameter = parameter; result = result; named = is; there = there },
            h,
            fits,
            refl,
            (ObjectIn (there.linkage + there.place), formal_kinds s (attribute_formals parameter), refl, of_object there.place refl, fine_acts),
          )
          by_name false is true of =
              subst (λ z. Fine (process_term z n line object) (held_kinds h)) (sym of)
              (record { declaration = d; parameter = parameter; result = result; named = of; there = there }, h, fits, refl, of_object 3 (process_place n there.place of there.placed))
          by_name false is false of = absurd (both (is_set_name n) (is_process_name n) is of named)

      pub entry_fine : is_class (text s c) ≡ true → (Known : Type 0) (es : Expressions) (ts acts : Terms) (Indices Checked : Type 0) (Actuals : List Formal → Type 0) (e : Option Entry) (h : Option Holds) → entry_of s.tables d ≡ e → (Indices → IntegersFine s m i t todo ts)
          → (Checked → (from : Place) × Stands s m i from × ParametersAre s from es)
          → ((result : Option SimType) (k : ℕ) → e ≡ Some (entry.Procedure result k) → Actuals (formals_of s k) → TermsFine s m i t todo acts (formal_kinds s (formals_of s k)))
          → ((n : Standard) (parameter result : Option SimType) → e ≡ Some (entry.Attribute n parameter result) → Actuals (attribute_formals parameter) → TermsFine s m i t todo acts (formal_kinds s (attribute_formals parameter))) → DeclaredGives s Known d es Indices Checked Actuals e h → Fine (entry_attribute s i line d e object es ts acts) (held_kinds h)
      entry_fine class Known es ts acts Indices Checked Actuals (Some (entry.Procedure result k)) h e ints checked go set a = (c, block_of s d, level, procedure_not_standard d result k e, procedure_in d result k e, gives_result d result k h e a.0, fine, go result k refl a.2)
      entry_fine class Known es ts acts Indices Checked Actuals (Some (entry.Attribute n parameter result)) h e ints checked go set a = set_fine n parameter result acts h e a.0 a.1 (set n parameter result refl a.3)
      entry_fine class Known es ts acts Indices Checked Actuals (Some (entry.Virtual result own)) h e ints checked go set a = let x = checked a.2 in (result, h, a.0, refl, refl, refl, (c, result, virtual_in d c result result own e level (itself_fits s ok result), refl, fine), x.0, x.1, x.2)
      entry_fine class Known es ts acts Indices Checked Actuals (Some (entry.Constant ty)) (Some h) e ints checked go set a = constant_fine Known ty es h e a
      entry_fine class Known es ts acts Indices Checked Actuals (Some (entry.Variable ty)) (Some h) e ints checked go set a = variable_fine Known es (held_by s ty) h (attribute_is (held_by s ty) (ap (entry_holds s true) e)) (names_variable s Known es Indices Checked (held_by s ty) h (held_plain s ty) a)
      entry_fine class Known es ts acts Indices Checked Actuals (Some (entry.Array ty n)) (Some h) e ints checked go set a = array_fine Known es ts Indices (held_by s ty) h (attribute_is (ArrayOf (held_by s ty)) (ap (entry_holds s true) e)) ints a
      entry_fine class Known es ts acts Indices Checked Actuals (Some (entry.Formal f)) (Some h) e ints checked go set a = formal_fine class Known f.mode f.kind f.ty es ts Indices Checked h (ap (entry_holds s true) e) ints a
      entry_fine class Known es ts acts Indices Checked Actuals (Some (entry.Formal f)) None e ints checked go set a = formal_called class Known f.mode f.kind f.ty es ts Checked (ap (entry_holds s true) e) a
      entry_fine class Known es ts acts Indices Checked Actuals None h e ints checked go set a = absurd a
      entry_fine class Known es ts acts Indices Checked Actuals (Some _) None e ints checked go set a = absurd a
      entry_fine class Known es ts acts Indices Checked Actuals (Some _) (Some h) e ints checked go set a = absurd a

      -- a procedure alone
      pub entry_alone : is_class (text s c) ≡ true → (Known : Type 0) (e : Option Entry) (wanted : Option SimType) → entry_of s.tables d ≡ e → ProcedureDeclared s Known e wanted → Fine (entry_procedure line d e object) (Some (Value (Procedure wanted)))
      entry_alone class Known (Some (entry.Procedure result k)) wanted e a = (c, block_of s d, level, procedure_not_standard d result k e, procedure_in d result k e, (wanted, subst (λ z. ResultFits s z (given_by s wanted)) (sym (holds_result d result k e)) a.0, refl), fine)
      entry_alone class Known (Some (entry.Virtual result own)) wanted e a = (c, wanted, virtual_in d c result wanted own e level a.0, refl, fine)
      entry_alone class Known (Some (entry.Formal f)) wanted e a = absurd (no_alone f.mode f.kind f.ty (ap (entry_holds s true) e) a)
        where
          no_alone : (f : Mode) (g : FormalKind) (ty : Option SimType) → entry_holds s true (entry_of s.tables d) ≡ formal_holds s f g ty → FormalStands s Known g ty wanted → ⊥
          no_alone mode.ByValue shape.Procedure ty e a = no_formal_procedure class ty e
          no_alone mode.ByReference shape.Procedure ty e a = no_formal_procedure class ty e
          no_alone mode.ByName shape.Procedure ty e a = not_named (Procedure ty) e (level_has_levels s ok (class_has s ok c class) (level_is s c (block_of s d) level))
          no_alone f shape.Simple ty e a = a
          no_alone f shape.Array ty e a = a
      entry_alone class Known None wanted e a = absurd a
      entry_alone class Known (Some _) wanted e a = absurd a

      -- ---- where they lie

      variable_lies : (Known : Type 0) (es : Expressions) (Indices : Type 0) (held h : Holds) → IsPlain held → AttributeFine s (block_of s d) (Declared d.0) held c → LeftHeld Known es Indices (Some held) h → Fine (variable_at lies es) (Some (AddressOf h))
      variable_lies Known NoMore Indices held h plain is a = let x = left_variable_is Known Indices held h plain a in subst (λ z. Fine lies (Some (AddressOf z))) x.0 (lies_fine held is)
      variable_lies Known (Then e es) Indices held h plain is a = absurd (no_left_variable Known Indices e es held h plain a)

      element_lies : (Known : Type 0) (es : Expressions) (ts : Terms) (Indices : Type 0) (k h : Holds) → AttributeFine s (block_of s d) (Declared d.0) (ArrayOf k) c → (Indices → IntegersFine s m i t todo ts) → LeftHeld Known es Indices (Some (ArrayOf k)) h → Fine (element_at line lies es ts) (Some (AddressOf h))
      element_lies Known NoMore ts Indices k h is go a = absurd a
      element_lies Known (Then e es) ts Indices k h is go a = (k, ap (λ z. Some (AddressOf z)) a.0, (ArrayOf k, AddressOf (ArrayOf k), refl, refl, lies_fine (ArrayOf k) is), go a.2)

      formal_lies : (Known : Type 0) (f : Mode) (g : FormalKind) (ty : Option SimType) (es : Expressions) (ts : Terms) (Indices : Type 0) (h : Holds) → entry_holds s true (entry_of s.tables d) ≡ formal_holds s f g ty → (Indices → IntegersFine s m i t todo ts) → LeftHeld Known es Indices (formal_means s g ty) h → Fine (parameter_at line g lies es ts) (Some (AddressOf h))
      formal_lies Known mode.ByValue shape.Simple (Some ty) es ts Indices h e go a = variable_lies Known es Indices (held_by s ty) h (held_plain s ty) (attribute_is (held_by s ty) e) a
      formal_lies Known mode.ByReference shape.Simple (Some ty) es ts Indices h e go a = variable_lies Known es Indices (held_by s ty) h (held_plain s ty) (attribute_is (held_by s ty) e) a
      formal_lies Known mode.ByValue shape.Array (Some ty) es ts Indices h e go a = element_lies Known es ts Indices (held_by s ty) h (attribute_is (ArrayOf (held_by s ty)) e) go a
      formal_lies Known mode.ByReference shape.Array (Some ty) es ts Indices h e go a = element_lies Known es ts Indices (held_by s ty) h (attribute_is (ArrayOf (held_by s ty)) e) go a
      formal_lies Known mode.ByName shape.Simple (Some ty) es ts Indices h e go a = variable_lies Known es Indices (held_by s ty) h (held_plain s ty) (attribute_named (Simply (kind_of_type ty)) (held_by s ty) e) a
      formal_lies Known mode.ByName shape.Array (Some ty) es ts Indices h e go a = element_lies Known es ts Indices (held_by s ty) h (attribute_named (ArrayOf (held_by s ty)) (ArrayOf (held_by s ty)) e) go a
      formal_lies Known _ shape.Procedure ty NoMore ts Indices h e go a = absurd a
      formal_lies Known _ shape.Procedure ty (Then x es) ts Indices h e go a = absurd a
      formal_lies Known _ shape.Simple None NoMore ts Indices h e go a = absurd a
      formal_lies Known _ shape.Simple None (Then x es) ts Indices h e go a = absurd a
      formal_lies Known _ shape.Array None NoMore ts Indices h e go a = absurd a
      formal_lies Known _ shape.Array None (Then x es) ts Indices h e go a = absurd a

      pub entry_lies : (Known : Type 0) (es : Expressions) (ts : Terms) (Indices : Type 0) (e : Option Entry) (h : Holds) → entry_of s.tables d ≡ e → (Indices → IntegersFine s m i t todo ts) → LeftHeld Known es Indices (entry_names s e) h → Fine (entry_at s line d e object es ts) (Some (AddressOf h))
      entry_lies Known es ts Indices (Some (entry.Variable ty)) h e ints a = variable_lies Known es Indices (held_by s ty) h (held_plain s ty) (attribute_is (held_by s ty) (ap (entry_holds s true) e)) a
      entry_lies Known es ts Indices (Some (entry.Array ty n)) h e ints a = element_lies Known es ts Indices (held_by s ty) h (attribute_is (ArrayOf (held_by s ty)) (ap (entry_holds s true) e)) ints a
      entry_lies Known es ts Indices (Some (entry.Formal f)) h e ints a = formal_lies Known f.mode f.kind f.ty es ts Indices h (ap (entry_holds s true) e) ints a
      entry_lies Known NoMore ts Indices None h e ints a = absurd a
      entry_lies Known (Then x es) ts Indices None h e ints a = absurd a
      entry_lies Known NoMore ts Indices (Some _) h e ints a = absurd a
      entry_lies Known (Then x es) ts Indices (Some _) h e ints a = absurd a
