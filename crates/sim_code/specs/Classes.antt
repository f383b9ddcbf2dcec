-- Classes of the code, and of which classes objects are.
use Rattle.std.specs.Prelude.{ℕ, zero, suc, ◌+◌, Bool, true, false, ◌==◌, nat_lt, if◌then◌else◌, ℤ, List, [], ◌∷◌, ◌++◌, slice_get, Option, Some, None}
use Rattle.std.specs.List.{list_any}
use Rattle.sim_base.specs.declared.run_error.RunError.TheVariants.{OutsideQualification}
use Rattle.sim_values.specs.Plain.{MainOf, Plain, Nothing, Object}
use Rattle.sim_code.specs.declared.code.BlockKind.{BlockKind}
use Rattle.sim_code.specs.declared.code.BlockKind.TheVariants as block
use Rattle.sim_code.specs.Code.{BlockOf, ClassOf, CodeOf}
use Rattle.sim_code.specs.Outcome.{Run, RunFault, World}
use Rattle.sim_code.specs.Events.{choosing, having, stopping}
use Rattle.sim_code.specs.Instances.{live}
use Rattle.sim_code.specs.Machine.{Frames, Machine, Value, number, plain, text_in}

-- ---- classes

-- the record of a class; classes count from 1
abbrev pub class_numbered : CodeOf → ℕ → Option ClassOf
class_numbered code zero = None
class_numbered code (suc c) = slice_get code.classes c

abbrev pub if_there : ℕ → Option ClassOf → Option ℕ
if_there c None = None
if_there c (Some x) = Some c

abbrev pub class_there : CodeOf → Option ℕ → Option ℕ
class_there code None = None
class_there code (Some c) = if_there c (class_numbered code c)

-- the class that an operand names
abbrev pub class_named : CodeOf → ℤ → Option ℕ
class_named code z = class_there code (number z)

abbrev pub behind : Option (List ℕ) → (class : ℕ) → Option (List ℕ)
behind None c = None
behind (Some outer) c = Some (outer ++ c ∷ [])

abbrev pub levels_by : (ℕ → Option (List ℕ)) → (class : ℕ) → Option ClassOf → Option (List ℕ)
levels_by outward c None = None
levels_by outward c (Some x) = if x.prefix == 0 then Some (c ∷ []) else if nat_lt x.prefix c then behind (outward x.prefix) c else None

-- The levels of a class: those in front of it, outermost first, and then itself. A prefix has a lower number than its class; there are
-- no levels where a record breaks this or is not there. So a class has at most as many levels as its number says.
abbrev pub levels_within : (bound : ℕ) → CodeOf → (class : ℕ) → Option (List ℕ)
levels_within zero code c = None
levels_within (suc n) code c = levels_by (levels_within n code) c (class_numbered code c)

unfoldable pub levels : CodeOf → (class : ℕ) → Option (List ℕ)
levels code c = levels_within c code c

-- ---- the classes that `simset` and `simulation` bring

-- The block of the objects of such a class has a mark in the field of the entry, which tells which class that is.
abbrev pub linkage_mark : ℕ
linkage_mark = 1

abbrev pub head_mark : ℕ
head_mark = 3

abbrev pub process_mark : ℕ
process_mark = 4

abbrev pub is_mark_of : (mark : ℕ) → BlockKind → (entry : ℕ) → Bool
is_mark_of mark block.Object entry = entry == mark
is_mark_of mark _ entry = false

abbrev pub is_marked_in : (mark : ℕ) → Option BlockOf → Bool
is_marked_in mark None = false
is_marked_in mark (Some b) = is_mark_of mark b.kind b.entry

abbrev pub block_in_record : CodeOf → Option ClassOf → Option BlockOf
block_in_record code None = None
block_in_record code (Some x) = slice_get code.blocks x.block

abbrev pub is_marked : CodeOf → (mark class : ℕ) → Bool
is_marked code mark c = is_marked_in mark (block_in_record code (class_numbered code c))

abbrev pub class_if : Bool → Option BlockOf → Option ℕ
class_if false b = None
class_if true None = None
class_if true (Some b) = Some b.class

-- The classes of `simulation` follow directly behind the block or the class that has it in front, and `process` is the fourth.
abbrev pub process_behind : CodeOf → Option ClassOf → Option ℕ
process_behind code None = None
process_behind code (Some x) = class_if (is_marked_in process_mark (slice_get code.blocks (x.block + 4))) (slice_get code.blocks (x.block + 4))

abbrev pub or_else : Option ℕ → Option ℕ → Option ℕ
or_else None other = other
or_else (Some c) other = Some c

abbrev pub process_among : CodeOf → List ℕ → Option ℕ
process_among code [] = None
process_among code (c ∷ cs) = or_else (process_behind code (class_numbered code c)) (process_among code cs)

-- the class `process` that one of the levels of a class has directly behind it
abbrev pub process_of_levels : CodeOf → Option (List ℕ) → Option ℕ
process_of_levels code None = None
process_of_levels code (Some cs) = process_among code cs

unfoldable pub process_class : CodeOf → (class : ℕ) → Option ℕ
process_class code c = process_of_levels code (levels code c)

-- ---- objects

-- the class of the objects of a block, or of the prefixed block that it is
abbrev pub class_in : Option BlockOf → Option ℕ
class_in None = None
class_in (Some b) = by_kind b.kind b.class
  where
    by_kind : BlockKind → ℕ → Option ℕ
    by_kind block.SubBlock c = None
    by_kind block.Procedure c = None
    by_kind block.Object c = Some c
    by_kind block.Prefixed c = Some c

abbrev pub block_in : CodeOf → Option ℕ → Option BlockOf
block_in code None = None
block_in code (Some k) = slice_get code.blocks k

-- the class of an object or prefixed block that was not given back
abbrev pub class_of : CodeOf → Frames → (object : ℕ) → Option ℕ
class_of code m j = class_in (block_in code (text_in (live m j)))

abbrev pub levels_in : CodeOf → Option ℕ → Option (List ℕ)
levels_in code None = None
levels_in code (Some c) = levels code c

abbrev pub is_class : (class : ℕ) → Option ℕ → Option Bool
is_class c None = None
is_class c (Some k) = Some (k == c)

abbrev pub is_among : (class : ℕ) → Option (List ℕ) → Option Bool
is_among c None = None
is_among c (Some ks) = Some (list_any (λ k. k == c) ks)

-- whether an object is in a class: this is one of its levels
abbrev pub in_class : CodeOf → Frames → (class object : ℕ) → Option Bool
in_class code m c j = is_among c (levels_in code (class_of code m j))

-- the class `process` of the simulation block that an instance is
abbrev pub process_in : CodeOf → Option ℕ → Option ℕ
process_in code None = None
process_in code (Some c) = process_class code c

abbrev pub process_at : CodeOf → Frames → (block : ℕ) → Option ℕ
process_at code m b = process_in code (class_of code m b)

-- a main program is of that class
abbrev pub main_in_class : CodeOf → Frames → (class block : ℕ) → Option Bool
main_in_class code m c b = is_among c (levels_in code (process_at code m b))

-- `is`: just this class
abbrev pub is_of : CodeOf → Frames → (class : ℕ) → Plain → Option Bool
is_of code m c (Object j) = is_class c (class_of code m j)
is_of code m c (MainOf b) = is_class c (process_at code m b)
is_of code m c Nothing = Some false
is_of code m c _ = None

-- `in`: this class, or one that has it in front
abbrev pub is_in : CodeOf → Frames → (class : ℕ) → Plain → Option Bool
is_in code m c (Object j) = in_class code m c j
is_in code m c (MainOf b) = main_in_class code m c b
is_in code m c Nothing = Some false
is_in code m c _ = None

-- what may stand where references of a class stand: `none`, or what is in the class
abbrev pub may_stand : CodeOf → Frames → (class : ℕ) → Option Plain → Option Bool
may_stand code m c (Some (Object j)) = in_class code m c j
may_stand code m c (Some (MainOf b)) = main_in_class code m c b
may_stand code m c (Some Nothing) = Some true
may_stand code m c _ = None

-- whether a reference names something in the class `process` of a simulation block
abbrev pub in_process_class : CodeOf → Frames → (class : Option ℕ) → Plain → Option Bool
in_process_class code m None p = None
in_process_class code m (Some c) p = is_in code m c p

abbrev pub in_process : CodeOf → Frames → (block : ℕ) → Plain → Option Bool
in_process code m b p = in_process_class code m (process_at code m b) p

-- goes on where a test holds, or ends with E7
abbrev pub qualifying : (line : ℕ) → Option Bool → World → Run Machine → Run Machine
qualifying line holds o r = having holds o (λ b. choosing b r (stopping (RunFault OutsideQualification line) o))

-- goes on with a value that may stand where references of a class stand; class 0 is no class, and there every value may stand
abbrev pub admitting : CodeOf → Frames → (line class : ℕ) → Value → World → Run Machine → Run Machine
admitting code m line zero v o r = r
admitting code m line (suc c) v o r = qualifying line (may_stand code m (suc c) (plain v)) o r
