-- Calls of formal procedures and of virtuals with parameters. What such a call enters is known when it is done: so it is held there against its
-- actual parameters, and each of these is passed as the formal parameter asks for it. The meaning and the machine use the same words.
use Rattle.std.specs.Prelude.{ℕ, zero, suc, Bool, true, false, not, ◌&&◌, ◌||◌, ◌==◌, nat_lt, if◌then◌else◌, ℤ, List, ◌∷◌, length, slice_get, Option, Some, None, Result, Ok, Err}
use Rattle.std.specs.List.{list_any}
use Rattle.sim_base.specs.declared.limits.Limits.{Limits}
use Rattle.sim_base.specs.declared.run_error.RunError.{RunError}
use Rattle.sim_base.specs.declared.run_error.RunError.TheVariants.{WrongNumberOfParameters, WrongParameter}
use Rattle.sim_values.specs.Plain.{Plain, Text}
use Rattle.sim_values.specs.Texts.{copy}
use Rattle.sim_code.specs.declared.code.BlockKind.TheVariants as block
use Rattle.sim_code.specs.declared.code.CodeActual.{CodeActual}
use Rattle.sim_code.specs.declared.code.CodeFormal.{CodeFormal}
use Rattle.sim_code.specs.declared.code.CodeMode.{CodeMode}
use Rattle.sim_code.specs.declared.code.CodeMode.TheVariants as mode
use Rattle.sim_code.specs.declared.code.CodeType.{CodeType}
use Rattle.sim_code.specs.declared.code.CodeType.TheVariants as type
use Rattle.sim_code.specs.declared.code.FormalShape.{FormalShape}
use Rattle.sim_code.specs.declared.code.FormalShape.TheVariants as shape
use Rattle.sim_code.specs.Arrays.{copying_array}
use Rattle.sim_code.specs.Classes.{admitting, block_in_record, class_numbered, levels}
use Rattle.sim_code.specs.Code.{BlockOf, CodeOf}
use Rattle.sim_code.specs.Events.{choosing, having, making_text, stopping, text_val, when}
use Rattle.sim_code.specs.Instances.{Memory, at_level}
use Rattle.sim_code.specs.Machine.{Activation, ArrayValue, Frames, Machine, Of, Value, array_in, at, index, is_nothing, is_roomy, plain, procedure_in, pushing, same_kind, waiting}
use Rattle.sim_code.specs.Outcome.{Run, RunFault, World}
use Rattle.sim_code.specs.Thunks.{in_thunk}

-- ---- what meaning and machine share

-- goes on where the actual parameters fit the formal ones, or ends with E11
unfoldable pub suiting : {S : Type 0} → (line : ℕ) → Bool → World → Run S → Run S
suiting line fits o r = choosing fits r (stopping (RunFault WrongParameter line) o)

abbrev pub and_then : Option Bool → Option Bool → Option Bool
and_then None other = None
and_then (Some false) other = Some false
and_then (Some true) other = other

-- whether a test holds of each formal parameter with its actual one, from left to right; none where one is reached of which it tells nothing
unfoldable pub each : {F A : Type 0} → (F → A → Option Bool) → List F → List A → Option Bool
each test (f ∷ fs) (a ∷ rest) = and_then (test f a) (each test fs rest)
each test _ _ = Some true

-- the instance that holds the declaration of a class whose objects are of a level, among an instance and its enclosers
abbrev pub holder_at : {C A : Type 0} → Memory C A → (level j : ℕ) → Option ℕ
holder_at m zero j = None
holder_at m (suc level) j = at_level m level j

abbrev pub holder_of : {C A : Type 0} → Memory C A → (level : Option ℕ) → (j : ℕ) → Option ℕ
holder_of m None j = None
holder_of m (Some level) j = holder_at m level j

-- whether two classes belong to the same instance
abbrev pub same_holder : Option ℕ → Option ℕ → Option Bool
same_holder (Some j) (Some k) = Some (j == k)
same_holder _ _ = None

-- what of a parameter is copied when it is passed: a text or an array by value, and nothing else
pub data Copied : Type 0 where
  NothingCopied : Copied
  TextCopied : Copied
  ArrayCopied : Copied

-- The value of an actual parameter is copied, with its words, where the formal one asks for it. The new array belongs to the instance in which the
-- actual stands.
unfoldable pub copying_value : {V S : Type 0} → (of : Plain → V) → (plain : V → Option Plain) → (array : ℕ → V) → (array_in : V → Option ℕ)
    → Limits → (line owner : ℕ) → Copied → V → World → (V → World → Run S) → Run S
copying_value of plain array array_in l line owner NothingCopied v o go = go v o
copying_value of plain array array_in l line owner TextCopied v o go =
    having (plain v) o (λ p. having (text_val p) o (λ t. making_text l line (copy o.store.frames t) o (λ t p. go (of (Text t)) p)))
copying_value of plain array array_in l line owner ArrayCopied v o go =
    having (array_in v) o (λ a. copying_array l line owner a o (λ c p. go (array c) p))

-- ---- the check of a call, by the code

abbrev pub same_type : CodeType → CodeType → Bool
same_type type.Nothing type.Nothing = true
same_type type.Integer type.Integer = true
same_type type.Boolean type.Boolean = true
same_type type.Character type.Character = true
same_type type.Text type.Text = true
same_type type.Reference type.Reference = true
same_type _ _ = false

abbrev pub is_reference : CodeType → Bool
is_reference type.Reference = true
is_reference _ = false

-- types of values: where both are of references their classes pass a test
abbrev pub alike : (classes : Bool) → (formal actual : CodeType) → Bool
alike classes f a = same_type f a && (not (is_reference f) || classes)

abbrev pub has_level : (class : ℕ) → Option (List ℕ) → Bool
has_level c None = false
has_level c (Some ks) = list_any (λ k. k == c) ks

-- whether a class is another one, or has it in front
abbrev pub is_within : CodeOf → (inner outer : ℕ) → Bool
is_within code c d = has_level d (levels code c)

-- An expression fits where it has the type; two references where one of their classes is in front of the other, or is the same, and `none`, which
-- has no class, everywhere. A procedure alone is an expression where it has no parameters.
abbrev pub value_fits : CodeOf → CodeFormal → CodeActual → Bool
value_fits code f a =
    not (is_nothing f.code_type) && (not a.procedure || a.formals == 0)
    && alike (a.class == 0 || is_within code a.class f.class || is_within code f.class a.class) f.code_type a.code_type

-- an array fits where its elements have the type, and the class
abbrev pub array_fits : CodeFormal → CodeActual → Bool
array_fits f a = not (is_nothing f.code_type) && alike (a.class == f.class) f.code_type a.array

-- a procedure fits where it gives what the formal one gives, or nothing where that gives nothing; its class may be one inside
abbrev pub procedure_fits : CodeOf → CodeFormal → CodeActual → Bool
procedure_fits code f a = a.procedure && alike (is_within code a.class f.class) f.code_type a.result_type

-- whether an actual parameter fits a formal one, but for the instances to which their classes belong
abbrev pub fits : CodeOf → CodeFormal → CodeActual → Bool
fits code f a = by_shape f.shape
  where
    by_shape : FormalShape → Bool
    by_shape shape.Simple = value_fits code f a
    by_shape shape.Array = array_fits f a
    by_shape shape.Procedure = procedure_fits code f a

abbrev pub all_fit : CodeOf → List CodeFormal → List CodeActual → Bool
all_fit code (f ∷ fs) (a ∷ rest) = fits code f a && all_fit code fs rest
all_fit code _ _ = true

-- E10 where there are not as many, and E11 where one does not fit
abbrev pub fits_now : CodeOf → List CodeFormal → List CodeActual → Result (Unit {0}) RunError
fits_now code fs actuals =
    if not (length fs == length actuals) then Err WrongNumberOfParameters else if all_fit code fs actuals then Ok tt else Err WrongParameter

abbrev pub level_in : Option BlockOf → Option ℕ
level_in None = None
level_in (Some b) = Some b.level

-- the level of the objects of a class
abbrev pub class_level : CodeOf → (class : ℕ) → Option ℕ
class_level code c = level_in (block_in_record code (class_numbered code c))

-- whether the classes of two references, of which none is `none`, belong to the same instance: that of the formal parameter as the frame sees it in
-- which the procedure is declared, and that of the actual one as its home sees it
abbrev pub holders_agree : CodeOf → Frames → (parent home : ℕ) → CodeFormal → CodeActual → Option Bool
holders_agree code m parent home f a =
    if is_reference f.code_type && not (a.class == 0)
    then same_holder (holder_of m (class_level code f.class) parent) (holder_of m (class_level code a.class) home)
    else Some true

-- ---- passing a parameter

-- the block of a procedure
abbrev pub of_procedure : Option BlockOf → Option BlockOf
of_procedure None = None
of_procedure (Some b) = if same_kind b.kind block.Procedure then Some b else None

abbrev pub procedure_of : CodeOf → (block : ℕ) → Option BlockOf
procedure_of code k = of_procedure (slice_get code.blocks k)

abbrev pub procedure_block : CodeOf → Option (ℕ × ℕ) → Option BlockOf
procedure_block code None = None
procedure_block code (Some q) = procedure_of code q.0

abbrev pub procedure_at : Option Value → Option (ℕ × ℕ)
procedure_at None = None
procedure_at (Some v) = procedure_in v

abbrev pub formal_in : (number : ℕ) → Option BlockOf → Option CodeFormal
formal_in n None = None
formal_in n (Some b) = slice_get b.formals n

-- the formal parameter of this number, of the procedure in hand that lies below as many values
unfoldable pub formal_in_hand : CodeOf → (number : ℕ) → List Value → Option CodeFormal
formal_in_hand code n stack = formal_in n (procedure_block code (procedure_at (slice_get stack n)))

-- which of the two thunks of an actual parameter is taken: the second one where the formal parameter is a procedure
abbrev pub thunk_for : FormalShape → (value procedure : ℤ) → ℤ
thunk_for shape.Procedure t p = p
thunk_for _ t p = t

abbrev pub is_by_name : CodeMode → Bool
is_by_name mode.Name = true
is_by_name _ = false

-- a thunk in which another one is run without a tick has a lower number
abbrev pub runs_inside : (running : Option ℕ) → (thunk : ℕ) → Bool
runs_inside None t = true
runs_inside (Some s) t = nat_lt s t

-- a thunk is run for the frame on top, which has room for what it gives, and waits behind its instruction
abbrev pub running_thunk : CodeOf → World → Frames → Activation → List Activation → (thunk : ℤ) → Run Machine
running_thunk code o m a below z = index z o (λ t. when (runs_inside a.thunk t) o (when (is_roomy a) o (in_thunk code o m t a.home (waiting a a.stack ∷ below))))

abbrev pub copied_for : CodeFormal → Copied
copied_for f = by_mode f.mode f.shape f.code_type
  where
    by_mode : CodeMode → FormalShape → CodeType → Copied
    by_mode mode.Value shape.Array t = ArrayCopied
    by_mode mode.Value shape.Simple type.Text = TextCopied
    by_mode _ _ _ = NothingCopied

-- the class of which a reference has to be; 0 is none
abbrev pub class_held : CodeFormal → ℕ
class_held f = by_shape f.shape f.class
  where
    by_shape : FormalShape → ℕ → ℕ
    by_shape shape.Simple c = c
    by_shape _ c = 0

-- A value is passed to an activation that has room for it: E7 where it is a reference that is not in the class of the formal parameter; a copy where
-- that asks for it.
unfoldable pub passing : CodeOf → Limits → (line : ℕ) → CodeFormal → Activation → List Activation → Value → World → Frames → Run Machine
passing code l line f b rest v o m =
    admitting code m line (class_held f) v o (pushing b.room b.stack v o (λ _.
    copying_value Of plain ArrayValue array_in l line b.home (copied_for f) v o (λ v o. at o m b b.pc (v ∷ b.stack) rest)))
