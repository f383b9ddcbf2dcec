-- What actual parameters are when they are closed, and what the names in expressions are.
use Rattle.sim_base.specs.declared.numbering.DeclNo.{DeclNo}
use Rattle.sim_scope.specs.declared.scopes.Denotation.{Denotation}
use Rattle.sim_scope.specs.declared.scopes.Denotation.TheVariants as denotation
use Rattle.sim_scope.specs.declared.types.Entry.TheVariants as entry
use Rattle.sim_scope.specs.declared.types.FormalKind.{FormalKind}
use Rattle.sim_scope.specs.declared.types.FormalKind.TheVariants as shape
use Rattle.sim_scope.specs.declared.types.Mode.{Mode}
use Rattle.sim_scope.specs.declared.types.Mode.TheVariants as mode
use Rattle.sim_scope.specs.declared.types.SimType.{SimType}
use Rattle.sim_tree.specs.Syntax.{Expressions, NoMore, Then}
use Rattle.sim_values.specs.declared.kind.Kind.{Kind}
use Rattle.sim_values.specs.declared.kind.Kind.TheVariants as kind
use Rattle.sim_scope.specs.declared.standard.StandardName.{StandardName}
use Rattle.sim_scope.specs.declared.standard.StandardName.TheVariants as found
use Rattle.sim_scope.specs.declared.types.SimType.TheVariants as type
use Rattle.sim_values.specs.declared.standard.Standard.TheVariants as name_of
use Rattle.sim_meaning.specs.Names.{stream_named}
use Rattle.std.proofs.Common.{◌≡◌, ℕ, Bool, true, false, List, [], ◌∷◌, Option, Some, None, ◌⊎◌, inl, refl, ap, ◌∙◌, subst}
use Rattle.std.specs.Prelude.{slice_get, ◌&&◌, ◌||◌}
use Rattle.sim_scope.specs.declared.scopes.Declaration.{Declaration}
use Rattle.sim_scope.specs.Levels.{class_block, class_block_in, has_level}
use Rattle.sim_scope.specs.Scopes.{entry_in, entry_of}
use Rattle.sim_scope.specs.Source.{Source, block_of, denoted}
use Rattle.sim_code.specs.Transfers.{Calling, Detaching, Resuming, Transfer}
use Rattle.sim_meaning.specs.Attributes.{fitting, kept_if}
use Rattle.sim_meaning.specs.Closing.{actual_term, is_attribute_denoted, is_image_behind, is_procedure_kind, is_text_type, is_variable_entry, class_passed, stream_denoted}
use Rattle.sim_meaning.specs.Entries.{is_array_by_value}
use Rattle.sim_meaning.specs.Levels.{class_at, class_denoted, class_text, has_levels, is_class, qualification}
use Rattle.sim_meaning.specs.Pending.{CopyOf, Declared, FitsOf, ForValue, Further, Instances, KeptOf, NoTerm, StandardOf, Term}
use Rattle.sim_meaning.specs.Texts.{kind_of_type, text}
use Rattle.sim_sound.specs.Held.{Among, ArrayOf, ByName, Fits, Holds, In, IsFixed, Place, Refers, Simply, declared_holds, formal_holds, held_by, reference_to, Procedure}
use Rattle.sim_sound.specs.Expressions.{ActualFits, AreOf, LeftHeld, ThisFound, passed}
use Rattle.sim_sound.specs.Statements.{TransferIs}
use Rattle.sim_sound.specs.Typed.{Typed}
use Rattle.sim_sound.proofs.Attributes.{leveled}
use Rattle.sim_sound.proofs.Fitting.{level_itself}
use Rattle.sim_sound.proofs.Lists.{if_true}
use Rattle.sim_sound.proofs.Prefixes.{class_has}
use Rattle.sim_sound.proofs.Reach.{Reached, among_block, key_there}
use Rattle.sim_sound.proofs.Results.{qualified_class}
use Rattle.sim_sound.proofs.Sound.{Gets, OperandsAre, kept_kinds}
use Rattle.sim_sound.proofs.Values.{CellTarget, Copied, IsImage, Kinds, Lasting, Present, Value, Whole, in_hand}

-- ---- actual parameters

-- a class is one of its own levels
pub class_itself : (s : Source) → Typed s → (k : ℕ) → is_class (text s k) ≡ true → has_level s.tables k k ≡ true
class_itself s ok k is = level_itself s k ((leveled s ok k (class_has s ok k is)).typed).stays

pub not_qualified : (s : Source) (ty : SimType) → (h : Kind) → held_by s ty ≡ Simply h → (qualification s (Some ty) ≡ None) ⊎ (h ≡ kind.Reference)
unfolding qualification
not_qualified s type.Integer h e = inl refl
not_qualified s type.Boolean h e = inl refl
not_qualified s type.Character h e = inl refl
not_qualified s type.Text h e = inl refl
not_qualified s type.NoneType h e = inl refl
not_qualified s (type.Ref d) h e = by_class (class_text s (class_block s.tables d)) refl e
  where
    by_class : (x : Option ℕ) → class_text s (class_block s.tables d) ≡ x → reference_to x ≡ Simply h → (class_text s (class_block s.tables d) ≡ None) ⊎ (h ≡ kind.Reference)
    by_class None f g = inl f
    by_class (Some k) f g = absurd (cc)

-- what an actual parameter is, with its term, by the term of the expression
module _ (s : Source) (ok : Typed s) (Is : Holds → Type 0) (Passed : Kind → Type 0) (Gives : Option SimType → Type 0) (Fine : Term → Kinds → Type 0) (line : ℕ) (a procedure : Term) (actual : (as_procedure : Bool) → Term) (go : (h : Holds) → Is h → Fine a (Value h)) (gives_on : (r : Option SimType) → Gives r → Fine procedure (Value (Procedure r)))
    (passed_on : (k : Kind) → Passed k → Fine (actual false) (Value (ByName (Simply k)))) (array_passed_on : (h : Holds) → Is (ArrayOf h) → Fine (actual false) (Value (ByName (ArrayOf h)))) (procedure_passed_on : (r : Option SimType) → Gives r → Fine (actual true) (Value (ByName (Procedure r))))
    (text_copied : Fine a (Value (Simply kind.Text)) → Fine (StandardOf name_of.Copy (Further a NoTerm) line) (Value (Simply kind.Text)))
    (array_copied : (k : Holds) → Fine a (Value (ArrayOf k)) → Fine (CopyOf line a) (Copied k))
    (array_kept : (k : Holds) → Fine a (Value (ArrayOf k)) → Fine (KeptOf a) (Lasting k))
    (held_against : (x : Term) (k : ℕ) → has_level s.tables k k ≡ true → Fine x (Value (Simply kind.Reference)) → Fine (FitsOf k line x) (Value (Refers k))) where
  -- a reference that is passed: it is held against the qualification, if there is one
  reference_passed : (x : Option ℕ) → ((k : ℕ) → x ≡ Some k → has_level s.tables k k ≡ true) → Is (passed (reference_to x)) → Fine (fitting x line a) (Value (reference_to x))
  reference_passed None level y = go (Simply kind.Reference) y
  reference_passed (Some k) level y = held_against a k (level k refl) (go (Simply kind.Reference) y)

  type_level : (ty : SimType) (k : ℕ) → qualification s (Some ty) ≡ Some k → has_level s.tables k k ≡ true
  type_level ty k e = class_itself s ok k (qualified_class s (Some ty) k e)

  by_value : (ty : SimType) → Is (passed (held_by s ty)) → Fine (fitting (qualification s (Some ty)) line (actual_term line mode.ByValue shape.Simple (is_text_type (Some ty)) a procedure (actual false))) (Value (held_by s ty))
  unfolding qualification
  by_value type.Text y = text_copied (go (Simply kind.Text) y)
  by_value type.Integer y = go (Simply kind.Integer) y
  by_value type.Boolean y = go (Simply kind.Boolean) y
  by_value type.Character y = go (Simply kind.Character) y
  by_value type.NoneType y = go (Simply kind.Reference) y
  by_value (type.Ref d) y = reference_passed (class_text s (class_block s.tables d)) (λ k e. type_level (type.Ref d) k e) y

  by_reference : (ty : SimType) → Is (passed (held_by s ty)) → Fine (fitting (qualification s (Some ty)) line a) (Value (held_by s ty))
  unfolding qualification
  by_reference type.Text y = go (Simply kind.Text) y
  by_reference type.Integer y = go (Simply kind.Integer) y
  by_reference type.Boolean y = go (Simply kind.Boolean) y
  by_reference type.Character y = go (Simply kind.Character) y
  by_reference type.NoneType y = go (Simply kind.Reference) y
  by_reference (type.Ref d) y = reference_passed (class_text s (class_block s.tables d)) (λ k e. type_level (type.Ref d) k e) y

  pub actual_fine : (f : Mode) (g : FormalKind) (ty : Option SimType) → ActualFits s f g ty Is Passed Gives → (h : Kinds) × (in_hand (is_array_by_value f g) (formal_holds s f g ty) ≡ Some h) × Fine (fitting (class_passed s (record { mode = f; kind = g; ty = ty })) line (actual_term line f g (is_text_type ty) a procedure (actual (is_procedure_kind g)))) h
  actual_fine mode.ByValue shape.Simple (Some ty) y = (Value (held_by s ty), refl, by_value ty y)
  actual_fine mode.ByReference shape.Simple (Some ty) y = (Value (held_by s ty), refl, by_reference ty y)
  actual_fine mode.ByValue shape.Array (Some ty) y = (Copied (held_by s ty), refl, array_copied (held_by s ty) (go (ArrayOf (held_by s ty)) y))
  actual_fine mode.ByReference shape.Array (Some ty) y = (Value (ArrayOf (held_by s ty)), refl, go (ArrayOf (held_by s ty)) y)
  actual_fine mode.ByName shape.Simple (Some ty) y = (Value (ByName (Simply (kind_of_type ty))), refl, passed_on (kind_of_type ty) y)
  actual_fine mode.ByName shape.Array (Some ty) y = (Value (ByName (ArrayOf (held_by s ty))), refl, array_passed_on (held_by s ty) y)
  actual_fine mode.ByValue shape.Procedure ty y = (Value (Procedure ty), refl, gives_on ty y)
  actual_fine mode.ByReference shape.Procedure ty y = (Value (Procedure ty), refl, gives_on ty y)
  actual_fine mode.ByName shape.Procedure ty y = (Value (ByName (Procedure ty)), refl, procedure_passed_on ty y)
  actual_fine mode.ByValue shape.Simple None y = absurd y
  actual_fine mode.ByReference shape.Simple None y = absurd y
  actual_fine mode.ByName shape.Simple None y = absurd y
  actual_fine mode.ByValue shape.Array None y = absurd y
  actual_fine mode.ByReference shape.Array None y = absurd y
  actual_fine mode.ByName shape.Array None y = absurd y

  -- of a class, where an array by reference is kept
  pub class_actual : (f : Mode) (g : FormalKind) (ty : Option SimType) → ActualFits s f g ty Is Passed Gives → (h : Kinds) × (kept_kinds f g (in_hand (is_array_by_value f g) (formal_holds s f g ty)) ≡ Some h) × Fine (kept_if f g (fitting (class_passed s (record { mode = f; kind = g; ty = ty })) line (actual_term line f g (is_text_type ty) a procedure (actual (is_procedure_kind g))))) h
  class_actual mode.ByValue shape.Simple (Some ty) y = (Value (held_by s ty), refl, by_value ty y)
  class_actual mode.ByReference shape.Simple (Some ty) y = (Value (held_by s ty), refl, by_reference ty y)
  class_actual mode.ByValue shape.Array (Some ty) y = (Copied (held_by s ty), refl, array_copied (held_by s ty) (go (ArrayOf (held_by s ty)) y))
  class_actual mode.ByReference shape.Array (Some ty) y = (Lasting (held_by s ty), refl, array_kept (held_by s ty) (go (ArrayOf (held_by s ty)) y))
  class_actual mode.ByName shape.Simple (Some ty) y = (Value (ByName (Simply (kind_of_type ty))), refl, passed_on (kind_of_type ty) y)
  class_actual mode.ByName shape.Array (Some ty) y = (Value (ByName (ArrayOf (held_by s ty))), refl, array_passed_on (held_by s ty) y)
  class_actual mode.ByValue shape.Procedure ty y = (Value (Procedure ty), refl, gives_on ty y)
  class_actual mode.ByReference shape.Procedure ty y = (Value (Procedure ty), refl, gives_on ty y)
  class_actual mode.ByName shape.Procedure ty y = (Value (ByName (Procedure ty)), refl, procedure_passed_on ty y)
  class_actual mode.ByValue shape.Simple None y = absurd y
  class_actual mode.ByReference shape.Simple None y = absurd y
  class_actual mode.ByName shape.Simple None y = absurd y
  class_actual mode.ByValue shape.Array None y = absurd y
  class_actual mode.ByReference shape.Array None y = absurd y
  class_actual mode.ByName shape.Array None y = absurd y

-- operands that are values of these kinds
abbrev pub value_kinds : List Kind → List Kinds
value_kinds [] = []
value_kinds (k ∷ ks) = Value (Simply k) ∷ value_kinds ks

pub values_are : (ks : List Kind) → OperandsAre ks (value_kinds ks)
values_are [] = tt
values_are (k ∷ ks) = (refl, values_are ks)

pub and_second : (p q : Bool) → (p && q) ≡ true → q ≡ true
and_second true q e = e
and_second false q e = absurd (cc)

pub or_first : (p q : Bool) → q ≡ false → (p || q) ≡ true → p ≡ true
or_first true q f e = refl
or_first false q f e = absurd (cc)

-- sysin and sysout have an image
abbrev pub StreamIs : Option ℕ → Type 0
StreamIs None = Unit {0}
StreamIs (Some n) = IsImage n

pub stream_found : (name : StandardName) → StreamIs (stream_named name)
stream_found found.Sysin = tt
stream_found found.Sysout = tt
stream_found _ = tt

pub stream_denotes : (d : Option Denotation) → StreamIs (stream_denoted d)
stream_denotes None = tt
stream_denotes (Some (denotation.Declared d)) = tt
stream_denotes (Some (denotation.Standard name)) = stream_found name

-- nothing lies where nothing is held
pub nothing_left : (Known : Type 0) (es : Expressions) (Indices : Type 0) (h : Holds) → LeftHeld Known es Indices None h → ⊥
nothing_left Known NoMore Indices h a = a
nothing_left Known (Then e es) Indices h a = a

-- a use of a parameter by name as a value, which is held against its qualification
pub value_gets : (s : Source) (ty : SimType) (line : ℕ) (h : Holds) → Fits s (held_by s ty) h → Gets s (Simply (kind_of_type ty)) (ForValue (qualification s (Some ty)) line) (Value h)
unfolding qualification
value_gets s type.Integer line h fits = (h, fits, refl)
value_gets s type.Boolean line h fits = (h, fits, refl)
value_gets s type.Character line h fits = (h, fits, refl)
value_gets s type.Text line h fits = (h, fits, refl)
value_gets s type.NoneType line h fits = (h, fits, refl)
value_gets s (type.Ref d) line h fits = of_class (class_text s (class_block s.tables d)) fits
  where
    of_class : (x : Option ℕ) → Fits s (reference_to x) h → Gets s (Simply kind.Reference) (ForValue x line) (Value h)
    of_class None fits = (h, fits, refl)
    of_class (Some c) fits = (refl, (h, fits, refl))

pub attribute_entry : (s : Source) (stream : Option ℕ) (d : DeclNo) (es : Expressions) → (is_image_behind stream (Some (denotation.Declared d)) || is_attribute_denoted s (Some (denotation.Declared d)) es) ≡ true → is_variable_entry (entry_of s.tables d) es ≡ true
attribute_entry s None d es v = v
attribute_entry s (Some image) d es v = v

-- the class that an identifier denotes
pub row_class : (x : Option Declaration) (k : ℕ) → entry_in x ≡ Some (entry.Class k) → class_block_in (elim x [ None ↦ None | Some row ↦ Some row.entry ]) ≡ Some k
row_class None k e = absurd (cc)
row_class (Some row) k e = ap class_block_in e

pub class_declared : (s : Source) (d : DeclNo) (k : ℕ) → entry_of s.tables d ≡ Some (entry.Class k) → class_block s.tables d ≡ Some k
unfolding class_block entry_of
class_declared s d k e = row_class (slice_get s.tables.declarations d.0) k e

pub class_named : (s : Source) (token : ℕ) (d : DeclNo) (k : ℕ) → denoted s token ≡ Some (denotation.Declared d) → entry_of s.tables d ≡ Some (entry.Class k) → is_class (text s k) ≡ true → class_at s token ≡ Some k
unfolding class_at
class_named s token d k e declares is = ap (class_denoted s) e ∙ ap (class_text s) (class_declared s d k declares) ∙ if_true (is_class (text s k)) (Some k) None is

abbrev pub number : ℕ → DeclNo
number a = record { 0 = a }

pub same_declared : (a b : ℕ) → Declared a ≡ Declared b → number b ≡ number a
same_declared a b q = let r : b ≡ a = cc in ap number r

-- a declaration that is found has its cell, which holds what it should
pub target_of : (s : Source) → Typed s → (m : Instances) (i : ℕ) (d : DeclNo) (h : Holds) → (x : Reached s m i d) → declared_holds s (block_of s d) d ≡ Some h → CellTarget s m i x.instance (Declared d.0) h
target_of s ok m i d h x e =
    let p = x.here in
    record {
      around = block_of s d;
      near = x.near;
      todo = x.todo;
      here = p;
      ready = λ c f a. x.ready (subst (λ z. Among z x.todo) (same_declared d.0 c.0 f) a);
      holds = e;
      there = key_there s ok (block_of s d) x.words d h (has_levels (text s (block_of s d))) x.solid x.has_text e (among_block s ok d (has_levels (text s (block_of s d))) h e);
    }

-- the same instance, whole
pub whole_of : (s : Source) (m : Instances) (i : ℕ) (d : DeclNo) → (x : Reached s m i d) → (IsFixed (entry_of s.tables d) → ⊥) → Whole s m x.instance (block_of s d)
whole_of s m i d x free = subst (λ z. Present s m x.instance (block_of s d) z) (x.whole free) x.here

-- a transfer of control that stands somewhere
abbrev pub TransferFrom : Source → Place → Transfer → (found : Option ℕ) → Expressions → Type 0
TransferFrom s from Detaching found es = ThisFound s from found (Simply kind.Reference)
TransferFrom s from Calling found es = AreOf s from es (kind.Reference ∷ [])
TransferFrom s from Resuming found es = AreOf s from es (kind.Reference ∷ [])

pub transfer_in : (s : Source) (u : ℕ) (c : Transfer) (found : Option ℕ) (es : Expressions) → TransferIs s u c found es → TransferFrom s (In u) c found es
transfer_in s u Detaching found es a = a.0
transfer_in s u Calling found es a = a
transfer_in s u Resuming found es a = a
