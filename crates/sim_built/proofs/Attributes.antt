-- What is declared and known is built: seen in a text around, or an attribute of an object.
use Rattle.std.proofs.Common.{◌≡◌, ℕ, Bool, true, false, List, length, Option, Some, None, sym, ap, subst}
use Rattle.sim_base.specs.declared.numbering.DeclNo.{DeclNo}
use Rattle.sim_scope.specs.declared.types.Entry.{Entry}
use Rattle.sim_scope.specs.declared.types.Entry.TheVariants as entry
use Rattle.sim_scope.specs.declared.types.Formal.{Formal}
use Rattle.sim_scope.specs.declared.types.FormalKind.{FormalKind}
use Rattle.sim_scope.specs.declared.types.FormalKind.TheVariants as shape
use Rattle.sim_scope.specs.declared.types.Mode.{Mode}
use Rattle.sim_scope.specs.declared.types.Mode.TheVariants as mode
use Rattle.sim_scope.specs.declared.types.SimType.{SimType}
use Rattle.sim_scope.specs.Scopes.{entry_of}
use Rattle.sim_scope.specs.Source.{Source, block_of}
use Rattle.sim_tree.specs.Syntax.{Expressions, NoMore, Then}
use Rattle.sim_values.specs.declared.standard.Standard.{Standard}
use Rattle.sim_meaning.specs.Attributes.{attribute_formals, is_connection, is_standard_attribute}
use Rattle.sim_meaning.specs.Closing.{formals_at, formals_declared}
use Rattle.sim_meaning.specs.Entries.{formals_of}
use Rattle.sim_meaning.specs.Pending.{Declared}
use Rattle.sim_meaning.specs.Texts.{constant_of, kind_of_type, text}
use Rattle.sim_sound.specs.Held.{ArrayOf, ByName, Holds, Procedure, Simply, entry_holds, formal_holds, formal_means, held_by}
use Rattle.sim_sound.specs.Expressions.{ArrayNames, ConstantNames, DeclaredGives, FormalCalled, FormalStands, HeldNames, LeftHeld, PlaceDeclared, ProcedureDeclared, SetGives}
use Rattle.sim_sound.specs.Typed.{Typed}
use Rattle.sim_sound.proofs.Formals.{formals_same}
use Rattle.codegen_expr.specs.Built.{AreBuilt, ArrayBuilt, ArrayOfBuilt, ArrayPlaceBuilt, ArrayPlaceOfBuilt, CellBuilt, ConstantBuilt, ConstantOfBuilt, DeclaredBuilt, DeclaredPlaceBuilt, FormalBuilt, FormalPlaceBuilt, FormalValueBuilt, HasBuilt, OfObjectBuilt, ParameterOfBuilt, ParameterPlaceOfBuilt, PlaceOfObjectBuilt, ProcedureEntryBuilt, ProcedureOfObjectBuilt, StandsIn, VariableBuilt, VariableOfBuilt}
use Rattle.codegen_expr.specs.CodeExpr.{Checked, Listed, Parameters, SetNamed, operands, parameters_of}
use Rattle.sim_built.specs.Laid.{Laid}
use Rattle.sim_built.proofs.Cells.{constant_built, declared_has}
use Rattle.sim_built.proofs.Lists.{Alone, Indexed, left_alone, left_indexed, left_none, left_procedure, names_alone, no_array}
use Rattle.sim_built.proofs.SetNames.{set_named}

constant_is_built : (s : Source) (Known : Type 0) (d : DeclNo) (es : Expressions) (h : Holds) → ConstantNames s Known d es h → ConstantBuilt (constant_of s d) es
constant_is_built s Known d NoMore h a = subst (λ z. ConstantBuilt z NoMore) (sym a.1) (constant_built s d a.0 a.1)
constant_is_built s Known d (Then x xs) h a = absurd a

constant_known : (s : Source) (Known : Type 0) (d : DeclNo) (es : Expressions) (h : Holds) → ConstantNames s Known d es h → Known
constant_known s Known d NoMore h a = a.3
constant_known s Known d (Then x xs) h a = absurd a

module _ (s : Source) (ok : Typed s) (laid : Laid s) (t : ℕ) (d : DeclNo) (Known : Type 0) (solid : Known → is_connection (text s (block_of s d)) ≡ false) (es : Expressions) (Indices Checks : Type 0) (indices : Indices → AreBuilt s t es) where
  has : (c : Bool) (h : Holds) → entry_holds s c (entry_of s.tables d) ≡ Some h → Known → HasBuilt s (block_of s d) (Declared d.0)
  has c h e known = declared_has s ok laid d h c (solid known) e

  -- ---- seen in a text around

  module _ (seen : Known → StandsIn s t (block_of s d)) where
    cell : (c : Bool) (h : Holds) → entry_holds s c (entry_of s.tables d) ≡ Some h → Known → CellBuilt s t d
    cell c h e known = record { has = has c h e known; inside = seen known }

    variable_built : (h : Holds) → entry_holds s false (entry_of s.tables d) ≡ Some h → Alone Known es → VariableBuilt s t d es
    variable_built h e a = by_list es a
      where
        by_list : (es : Expressions) → Alone Known es → VariableBuilt s t d es
        by_list NoMore a = cell false h e a
        by_list (Then x xs) a = absurd a

    array_built : (held k h : Holds) → entry_holds s false (entry_of s.tables d) ≡ Some held → ArrayNames s Known es Indices k h → ArrayBuilt s t d es (AreBuilt s t es)
    array_built held k h e a = by_list es indices a
      where
        by_list : (es : Expressions) → (Indices → AreBuilt s t es) → ArrayNames s Known es Indices k h → ArrayBuilt s t d es (AreBuilt s t es)
        by_list NoMore f a = cell false held e a.1
        by_list (Then x xs) f a = (cell false held e a.1, f a.2)

    element_built : (held : Holds) → entry_holds s false (entry_of s.tables d) ≡ Some held → Indexed Known es Indices → ArrayPlaceBuilt s t d es (AreBuilt s t es)
    element_built held e a = by_list es indices a
      where
        by_list : (es : Expressions) → (Indices → AreBuilt s t es) → Indexed Known es Indices → ArrayPlaceBuilt s t d es (AreBuilt s t es)
        by_list NoMore f a = absurd a
        by_list (Then x xs) f a = (cell false held e a.0, f a.1)

    -- a formal parameter that holds something is no procedure
    formal_built : (Given : Parameters → Type 0) → (Checks → Given Checked) → (m : Mode) (k : FormalKind) (ty : Option SimType) (h : Holds) → entry_holds s false (entry_of s.tables d) ≡ formal_holds s m k ty → HeldNames s Known es Indices Checks (formal_means s k ty) h → FormalBuilt s t d k es (AreBuilt s t es) Given
    formal_built Given g mode.ByValue shape.Simple (Some ty) h e a = variable_built (held_by s ty) e (names_alone s Known Indices Checks es (held_by s ty) h (no_array s ty) a)
    formal_built Given g mode.ByReference shape.Simple (Some ty) h e a = variable_built (held_by s ty) e (names_alone s Known Indices Checks es (held_by s ty) h (no_array s ty) a)
    formal_built Given g mode.ByName shape.Simple (Some ty) h e a = variable_built (ByName (Simply (kind_of_type ty))) e (names_alone s Known Indices Checks es (held_by s ty) h (no_array s ty) a)
    formal_built Given g mode.ByValue shape.Array (Some ty) h e a = array_built (ArrayOf (held_by s ty)) (held_by s ty) h e a
    formal_built Given g mode.ByReference shape.Array (Some ty) h e a = array_built (ArrayOf (held_by s ty)) (held_by s ty) h e a
    formal_built Given g mode.ByName shape.Array (Some ty) h e a = array_built (ByName (ArrayOf (held_by s ty))) (held_by s ty) h e a
    formal_built Given g mode.ByValue shape.Procedure ty h e a = (cell false (Procedure ty) e a.1, g a.2)
    formal_built Given g mode.ByReference shape.Procedure ty h e a = (cell false (Procedure ty) e a.1, g a.2)
    formal_built Given g mode.ByName shape.Procedure ty h e a = (cell false (ByName (Procedure ty)) e a.1, g a.2)
    formal_built Given g m shape.Simple None h e a = absurd a
    formal_built Given g m shape.Array None h e a = absurd a

    -- one that gives nothing
    formal_called : (Given : Parameters → Type 0) → (Checks → Given Checked) → (m : Mode) (k : FormalKind) (ty : Option SimType) → entry_holds s false (entry_of s.tables d) ≡ formal_holds s m k ty → FormalCalled s Known k ty Checks → FormalBuilt s t d k es (AreBuilt s t es) Given
    formal_called Given g mode.ByValue shape.Procedure ty e a = (cell false (Procedure ty) e a.1, g a.2)
    formal_called Given g mode.ByReference shape.Procedure ty e a = (cell false (Procedure ty) e a.1, g a.2)
    formal_called Given g mode.ByName shape.Procedure ty e a = (cell false (ByName (Procedure ty)) e a.1, g a.2)
    formal_called Given g m shape.Simple ty e a = absurd a
    formal_called Given g m shape.Array ty e a = absurd a

    -- a procedure alone
    formal_value : (m : Mode) (k : FormalKind) (ty wanted : Option SimType) → entry_holds s false (entry_of s.tables d) ≡ formal_holds s m k ty → FormalStands s Known k ty wanted → FormalValueBuilt s t d k
    formal_value mode.ByValue shape.Procedure ty wanted e a = cell false (Procedure ty) e a.1
    formal_value mode.ByReference shape.Procedure ty wanted e a = cell false (Procedure ty) e a.1
    formal_value mode.ByName shape.Procedure ty wanted e a = cell false (ByName (Procedure ty)) e a.1
    formal_value m shape.Simple ty wanted e a = absurd a
    formal_value m shape.Array ty wanted e a = absurd a

    pub procedure_entry_built : (y : Option Entry) (wanted : Option SimType) → entry_of s.tables d ≡ y → ProcedureDeclared s Known y wanted → ProcedureEntryBuilt s t d y
    procedure_entry_built (Some (entry.Procedure given k)) wanted e a = seen a.1
    procedure_entry_built (Some (entry.Virtual given own)) wanted e a = seen a.1
    procedure_entry_built (Some (entry.Formal f)) wanted e a = formal_value f.mode f.kind f.ty wanted (ap (entry_holds s false) e) a
    procedure_entry_built None wanted e a = absurd a
    procedure_entry_built (Some _) wanted e a = absurd a

    formal_place_built : (m : Mode) (k : FormalKind) (ty : Option SimType) (h : Holds) → entry_holds s false (entry_of s.tables d) ≡ formal_holds s m k ty → LeftHeld Known es Indices (formal_means s k ty) h → FormalPlaceBuilt s t d k es (AreBuilt s t es)
    formal_place_built mode.ByValue shape.Simple (Some ty) h e a = variable_built (held_by s ty) e (left_alone s Known Indices es (held_by s ty) h (no_array s ty) a)
    formal_place_built mode.ByReference shape.Simple (Some ty) h e a = variable_built (held_by s ty) e (left_alone s Known Indices es (held_by s ty) h (no_array s ty) a)
    formal_place_built mode.ByName shape.Simple (Some ty) h e a = variable_built (ByName (Simply (kind_of_type ty))) e (left_alone s Known Indices es (held_by s ty) h (no_array s ty) a)
    formal_place_built mode.ByValue shape.Array (Some ty) h e a = element_built (ArrayOf (held_by s ty)) e (left_indexed s Known Indices es (held_by s ty) h a)
    formal_place_built mode.ByReference shape.Array (Some ty) h e a = element_built (ArrayOf (held_by s ty)) e (left_indexed s Known Indices es (held_by s ty) h a)
    formal_place_built mode.ByName shape.Array (Some ty) h e a = element_built (ByName (ArrayOf (held_by s ty))) e (left_indexed s Known Indices es (held_by s ty) h a)
    formal_place_built m shape.Simple None h e a = absurd (left_none s Known Indices es h a)
    formal_place_built m shape.Array None h e a = absurd (left_none s Known Indices es h a)
    formal_place_built m shape.Procedure ty h e a = absurd (left_procedure s Known Indices es ty h a)

    -- no procedure of SIMSET, which is one of the object around
    pub declared_built : (Actuals : List Formal → Type 0) (Given : Parameters → Type 0) (y : Option Entry) (h : Option Holds) → entry_of s.tables d ≡ y → is_standard_attribute y ≡ false → ((fs : List Formal) → Actuals fs → Given (Listed fs)) → (Checks → Given Checked) → DeclaredGives s Known d es Indices Checks Actuals y h → DeclaredBuilt s t d y es (AreBuilt s t es) Given
    declared_built Actuals Given (Some (entry.Procedure result k)) h e o g q a = (seen a.1, subst (λ z. Given (Listed z)) (sym (formals_same s d result k e)) (g (formals_of s k) a.2))
    declared_built Actuals Given (Some (entry.Attribute name parameter result)) h e o g q a = absurd (cc)
    declared_built Actuals Given (Some (entry.Virtual result own)) h e o g q a = (seen a.1, q a.2)
    declared_built Actuals Given None h e o g q a = absurd a
    declared_built Actuals Given (Some (entry.Variable ty)) None e o g q a = absurd a
    declared_built Actuals Given (Some (entry.Variable ty)) (Some h) e o g q a = variable_built (held_by s ty) (ap (entry_holds s false) e) (names_alone s Known Indices Checks es (held_by s ty) h (no_array s ty) a)
    declared_built Actuals Given (Some (entry.Constant ty)) None e o g q a = absurd a
    declared_built Actuals Given (Some (entry.Constant ty)) (Some h) e o g q a = constant_is_built s Known d es h a
    declared_built Actuals Given (Some (entry.Array ty n)) None e o g q a = absurd a
    declared_built Actuals Given (Some (entry.Array ty n)) (Some h) e o g q a = array_built (ArrayOf (held_by s ty)) (held_by s ty) h (ap (entry_holds s false) e) a
    declared_built Actuals Given (Some (entry.Formal f)) None e o g q a = formal_called Given q f.mode f.kind f.ty (ap (entry_holds s false) e) a
    declared_built Actuals Given (Some (entry.Formal f)) (Some h) e o g q a = formal_built Given q f.mode f.kind f.ty h (ap (entry_holds s false) e) a
    declared_built Actuals Given (Some (entry.Class k)) None e o g q a = absurd a
    declared_built Actuals Given (Some (entry.Class k)) (Some h) e o g q a = absurd a
    declared_built Actuals Given (Some (entry.Unspecified w)) None e o g q a = absurd a
    declared_built Actuals Given (Some (entry.Unspecified w)) (Some h) e o g q a = absurd a

    pub declared_place_built : (y : Option Entry) (h : Holds) → entry_of s.tables d ≡ y → PlaceDeclared s Known es Indices y h → DeclaredPlaceBuilt s t d y es (AreBuilt s t es)
    declared_place_built (Some (entry.Variable ty)) h e a = variable_built (held_by s ty) (ap (entry_holds s false) e) (left_alone s Known Indices es (held_by s ty) h (no_array s ty) a)
    declared_place_built (Some (entry.Array ty n)) h e a = element_built (ArrayOf (held_by s ty)) (ap (entry_holds s false) e) (left_indexed s Known Indices es (held_by s ty) h a)
    declared_place_built (Some (entry.Formal f)) h e a = formal_place_built f.mode f.kind f.ty h (ap (entry_holds s false) e) a
    declared_place_built (Some (entry.Procedure r k)) h e a = absurd a
    declared_place_built None h e a = absurd a
    declared_place_built (Some _) h e a = absurd (left_none s Known Indices es h a)

  -- ---- of an object

  module _ (Object : Type 0) (object : Known → Object) (never : Known → (m : Mode) (ty : Option SimType) → entry_holds s true (entry_of s.tables d) ≡ formal_holds s m shape.Procedure ty → ⊥) where
    variable_of : (h : Holds) → entry_holds s false (entry_of s.tables d) ≡ Some h → Alone Known es → VariableOfBuilt s d es Object
    variable_of h e a = by_list es a
      where
        by_list : (es : Expressions) → Alone Known es → VariableOfBuilt s d es Object
        by_list NoMore a = (object a, has false h e a)
        by_list (Then x xs) a = absurd a

    array_of : (held k h : Holds) → entry_holds s false (entry_of s.tables d) ≡ Some held → ArrayNames s Known es Indices k h → ArrayOfBuilt s d Object (AreBuilt s t es)
    array_of held k h e a = by_list es indices a
      where
        by_list : (es : Expressions) → (Indices → AreBuilt s t es) → ArrayNames s Known es Indices k h → ArrayOfBuilt s d Object (AreBuilt s t es)
        by_list NoMore f a = (object a.1, has false held e a.1, tt)
        by_list (Then x xs) f a = (object a.1, has false held e a.1, f a.2)

    element_of : (held : Holds) → entry_holds s false (entry_of s.tables d) ≡ Some held → Indexed Known es Indices → ArrayPlaceOfBuilt s d es Object (AreBuilt s t es)
    element_of held e a = by_list es indices a
      where
        by_list : (es : Expressions) → (Indices → AreBuilt s t es) → Indexed Known es Indices → ArrayPlaceOfBuilt s d es Object (AreBuilt s t es)
        by_list NoMore f a = absurd a
        by_list (Then x xs) f a = (object a.0, has false held e a.0, f a.1)

    constant_of_object : (ty : SimType) (h : Holds) → entry_of s.tables d ≡ Some (entry.Constant ty) → ConstantNames s Known d es h → ConstantOfBuilt s d es Object
    constant_of_object ty h e a =
        let known = constant_known s Known d es h a in (object known, has true (Simply (kind_of_type ty)) (ap (entry_holds s true) e) known, constant_is_built s Known d es h a)

    parameter_of : (m : Mode) (k : FormalKind) (ty : Option SimType) (h : Holds) → ((c : Bool) → entry_holds s c (entry_of s.tables d) ≡ formal_holds s m k ty) → HeldNames s Known es Indices Checks (formal_means s k ty) h → ParameterOfBuilt s d k es Object (AreBuilt s t es)
    parameter_of mode.ByValue shape.Simple (Some ty) h e a = variable_of (held_by s ty) (e false) (names_alone s Known Indices Checks es (held_by s ty) h (no_array s ty) a)
    parameter_of mode.ByReference shape.Simple (Some ty) h e a = variable_of (held_by s ty) (e false) (names_alone s Known Indices Checks es (held_by s ty) h (no_array s ty) a)
    parameter_of mode.ByName shape.Simple (Some ty) h e a = variable_of (ByName (Simply (kind_of_type ty))) (e false) (names_alone s Known Indices Checks es (held_by s ty) h (no_array s ty) a)
    parameter_of mode.ByValue shape.Array (Some ty) h e a = array_of (ArrayOf (held_by s ty)) (held_by s ty) h (e false) a
    parameter_of mode.ByReference shape.Array (Some ty) h e a = array_of (ArrayOf (held_by s ty)) (held_by s ty) h (e false) a
    parameter_of mode.ByName shape.Array (Some ty) h e a = array_of (ByName (ArrayOf (held_by s ty))) (held_by s ty) h (e false) a
    parameter_of m shape.Procedure ty h e a = absurd (never a.1 m ty (e true))
    parameter_of m shape.Simple None h e a = absurd a
    parameter_of m shape.Array None h e a = absurd a

    parameter_called : (m : Mode) (k : FormalKind) (ty : Option SimType) → entry_holds s true (entry_of s.tables d) ≡ formal_holds s m k ty → FormalCalled s Known k ty Checks → ParameterOfBuilt s d k es Object (AreBuilt s t es)
    parameter_called m shape.Procedure ty e a = absurd (never a.1 m ty e)
    parameter_called m shape.Simple ty e a = absurd a
    parameter_called m shape.Array ty e a = absurd a

    parameter_stands : (m : Mode) (k : FormalKind) (ty wanted : Option SimType) → entry_holds s true (entry_of s.tables d) ≡ formal_holds s m k ty → FormalStands s Known k ty wanted → ⊥
    parameter_stands m shape.Procedure ty wanted e a = never a.1 m ty e
    parameter_stands m shape.Simple ty wanted e a = a
    parameter_stands m shape.Array ty wanted e a = a

    -- a procedure alone
    pub procedure_of_object_built : (y : Option Entry) (wanted : Option SimType) → entry_of s.tables d ≡ y → ProcedureDeclared s Known y wanted → ProcedureOfObjectBuilt y Object
    procedure_of_object_built (Some (entry.Procedure given k)) wanted e a = object a.1
    procedure_of_object_built (Some (entry.Virtual given own)) wanted e a = object a.1
    procedure_of_object_built (Some (entry.Formal f)) wanted e a = absurd (parameter_stands f.mode f.kind f.ty wanted (ap (entry_holds s true) e) a)
    procedure_of_object_built None wanted e a = absurd a
    procedure_of_object_built (Some _) wanted e a = absurd a

    parameter_place_of : (m : Mode) (k : FormalKind) (ty : Option SimType) (h : Holds) → entry_holds s false (entry_of s.tables d) ≡ formal_holds s m k ty → LeftHeld Known es Indices (formal_means s k ty) h → ParameterPlaceOfBuilt s d k es Object (AreBuilt s t es)
    parameter_place_of mode.ByValue shape.Simple (Some ty) h e a = variable_of (held_by s ty) e (left_alone s Known Indices es (held_by s ty) h (no_array s ty) a)
    parameter_place_of mode.ByReference shape.Simple (Some ty) h e a = variable_of (held_by s ty) e (left_alone s Known Indices es (held_by s ty) h (no_array s ty) a)
    parameter_place_of mode.ByName shape.Simple (Some ty) h e a = variable_of (ByName (Simply (kind_of_type ty))) e (left_alone s Known Indices es (held_by s ty) h (no_array s ty) a)
    parameter_place_of mode.ByValue shape.Array (Some ty) h e a = element_of (ArrayOf (held_by s ty)) e (left_indexed s Known Indices es (held_by s ty) h a)
    parameter_place_of mode.ByReference shape.Array (Some ty) h e a = element_of (ArrayOf (held_by s ty)) e (left_indexed s Known Indices es (held_by s ty) h a)
    parameter_place_of mode.ByName shape.Array (Some ty) h e a = element_of (ByName (ArrayOf (held_by s ty))) e (left_indexed s Known Indices es (held_by s ty) h a)
    parameter_place_of m shape.Simple None h e a = absurd (left_none s Known Indices es h a)
    parameter_place_of m shape.Array None h e a = absurd (left_none s Known Indices es h a)
    parameter_place_of m shape.Procedure ty h e a = absurd (left_procedure s Known Indices es ty h a)

    -- a procedure of SIMSET, with its actual parameter, if it takes one
    set_procedure_built : (Actuals : List Formal → Type 0) (Given : Parameters → Type 0) (name : Standard) (parameter result : Option SimType) (h : Option Holds) → entry_of s.tables d ≡ Some (entry.Attribute name parameter result) → ((fs : List Formal) → Actuals fs → Given (Listed fs)) → ((fs : List Formal) → Actuals fs → operands es ≡ length fs) → SetGives s Known name parameter result Actuals h
        → Object × SetNamed name result (operands es) × Given (Listed (formals_at s d))
    set_procedure_built Actuals Given name parameter result h e g n a =
        let there = ok.set_procedures d name parameter result e a.0 in (
          object a.2,
          set_named s name parameter result there.linkage es a.0 (n (attribute_formals parameter) a.3) there.parameter_is there.result_is,
          subst (λ z. Given (Listed z)) (sym (ap (formals_declared s d) e)) (g (attribute_formals parameter) a.3),
        )

    pub of_object_built : (Actuals : List Formal → Type 0) (Given : Parameters → Type 0) (y : Option Entry) (h : Option Holds) → entry_of s.tables d ≡ y → ((fs : List Formal) → Actuals fs → Given (Listed fs)) → (Checks → Given Checked) → ((fs : List Formal) → Actuals fs → operands es ≡ length fs) → DeclaredGives s Known d es Indices Checks Actuals y h
        → OfObjectBuilt s d y es Object (AreBuilt s t es) (Given (parameters_of y (formals_at s d)))
    of_object_built Actuals Given (Some (entry.Procedure result k)) h e g q n a = (object a.1, subst (λ z. Given (Listed z)) (sym (formals_same s d result k e)) (g (formals_of s k) a.2))
    of_object_built Actuals Given (Some (entry.Attribute name parameter result)) h e g q n a = set_procedure_built Actuals Given name parameter result h e g n a
    of_object_built Actuals Given (Some (entry.Virtual result own)) h e g q n a = (object a.1, q a.2)
    of_object_built Actuals Given None h e g q n a = absurd a
    of_object_built Actuals Given (Some (entry.Variable ty)) None e g q n a = absurd a
    of_object_built Actuals Given (Some (entry.Variable ty)) (Some h) e g q n a = variable_of (held_by s ty) (ap (entry_holds s false) e) (names_alone s Known Indices Checks es (held_by s ty) h (no_array s ty) a)
    of_object_built Actuals Given (Some (entry.Constant ty)) None e g q n a = absurd a
    of_object_built Actuals Given (Some (entry.Constant ty)) (Some h) e g q n a = constant_of_object ty h e a
    of_object_built Actuals Given (Some (entry.Array ty m)) None e g q n a = absurd a
    of_object_built Actuals Given (Some (entry.Array ty m)) (Some h) e g q n a = array_of (ArrayOf (held_by s ty)) (held_by s ty) h (ap (entry_holds s false) e) a
    of_object_built Actuals Given (Some (entry.Formal f)) None e g q n a = parameter_called f.mode f.kind f.ty (ap (entry_holds s true) e) a
    of_object_built Actuals Given (Some (entry.Formal f)) (Some h) e g q n a = parameter_of f.mode f.kind f.ty h (λ c. ap (entry_holds s c) e) a
    of_object_built Actuals Given (Some (entry.Class k)) None e g q n a = absurd a
    of_object_built Actuals Given (Some (entry.Class k)) (Some h) e g q n a = absurd a
    of_object_built Actuals Given (Some (entry.Unspecified w)) None e g q n a = absurd a
    of_object_built Actuals Given (Some (entry.Unspecified w)) (Some h) e g q n a = absurd a

    pub place_of_built : (y : Option Entry) (h : Holds) → entry_of s.tables d ≡ y → PlaceDeclared s Known es Indices y h → PlaceOfObjectBuilt s d y es Object (AreBuilt s t es)
    place_of_built (Some (entry.Variable ty)) h e a = variable_of (held_by s ty) (ap (entry_holds s false) e) (left_alone s Known Indices es (held_by s ty) h (no_array s ty) a)
    place_of_built (Some (entry.Array ty n)) h e a = element_of (ArrayOf (held_by s ty)) (ap (entry_holds s false) e) (left_indexed s Known Indices es (held_by s ty) h a)
    place_of_built (Some (entry.Formal f)) h e a = parameter_place_of f.mode f.kind f.ty h (ap (entry_holds s false) e) a
    place_of_built (Some (entry.Procedure r k)) h e a = absurd a
    place_of_built None h e a = absurd a
    place_of_built (Some _) h e a = absurd (left_none s Known Indices es h a)
