-- Objects and prefixed blocks: how they are entered with their parameters, how they go from stage to stage, and how they end.
use Rattle.std.specs.Prelude.{ℕ, zero, suc, ◌+◌, ◌-◌, Bool, true, false, ◌==◌, nat_lt, if◌then◌else◌, ℤ, List, [], ◌∷◌, length, is_some, slice_get, Option, Some, None}
use Rattle.std.specs.List.{list_any}
use Rattle.sim_base.specs.declared.limits.Limits.{Limits}
use Rattle.simset.specs.Sets.{Linkage}
use Rattle.sim_values.specs.Plain.{Object}
use Rattle.sim_values.specs.Words.{instance_words}
use Rattle.sim_code.specs.declared.code.BlockKind.{BlockKind}
use Rattle.sim_code.specs.declared.code.BlockKind.TheVariants as block
use Rattle.sim_code.specs.declared.stage.Stage.{Stage}
use Rattle.sim_code.specs.declared.stage.Stage.TheVariants as stage
use Rattle.sim_code.specs.Code.{BlockOf, ClassOf, CodeOf}
use Rattle.sim_code.specs.Outcome.{Normal, Run, World}
use Rattle.sim_code.specs.Events.{choosing, entering, having, no_rule, pop_many, popping, stopping, ticking, when}
use Rattle.sim_code.specs.Arrays.{handed_over}
use Rattle.sim_code.specs.Instances.{is_live, object_ended}
use Rattle.sim_code.specs.Sets.{enrolled, linkage_by}
use Rattle.sim_code.specs.Simulations.{begun_in, joined}
use Rattle.sim_code.specs.Classes.{block_in_record, class_named, class_numbered, class_of, head_mark, is_marked, levels, levels_in, linkage_mark, process_class, process_mark}
use Rattle.sim_code.specs.Machine.{Activation, Cells, Frames, Machine, Of, Value, arrays_among, at, first_cells, in_object, in_prefixed, index, leaving, link_in, on, owner, pushing, put_in, same_kind, text_in, waiting, words_of_block}

-- ---- levels

abbrev pub record_in : CodeOf → Option ℕ → Option ClassOf
record_in code None = None
record_in code (Some c) = class_numbered code c

-- the class of a level, counted from the outermost one, 0
abbrev pub class_at_level : CodeOf → (levels : List ℕ) → (level : ℕ) → Option ClassOf
class_at_level code cs n = record_in code (slice_get cs n)

-- an index of a class, which leads to an instruction
unfoldable pub leading : {S : Type 0} → CodeOf → (index : ℕ) → World → Run S → Run S
leading code q o r = having (slice_get code.instrs q) o (λ x. r)

-- ---- parameters

abbrev pub extent : Option BlockOf → Option (ℕ × ℕ)
extent None = None
extent (Some b) = Some (length b.types, length b.formals)

-- how many cells and how many formal parameters the prefix of a class has, which has none where there is none
abbrev pub in_front : CodeOf → (prefix : ℕ) → Option (ℕ × ℕ)
in_front code zero = Some (0, 0)
in_front code (suc p) = extent (block_in_record code (class_numbered code (suc p)))

abbrev pub own_or_outer : (outer : Option ℕ) → (number : ℕ) → Option (ℕ × ℕ) → Option ℕ
own_or_outer outer k None = None
own_or_outer outer k (Some front) = if nat_lt k front.1 then outer else Some (front.0 + (k - front.1))

abbrev pub parameter_by : (ℕ → Option ℕ) → CodeOf → (number : ℕ) → Option ClassOf → Option ℕ
parameter_by outward code k None = None
parameter_by outward code k (Some x) = own_or_outer (outward x.prefix) k (in_front code x.prefix)

abbrev pub parameter_within : (bound : ℕ) → CodeOf → (class number : ℕ) → Option ℕ
parameter_within zero code c k = None
parameter_within (suc n) code c k = parameter_by (λ p. parameter_within n code p k) code k (class_numbered code c)

-- The cell of a formal parameter of a class. Parameters are numbered through all levels, the outermost first. In each level they stand
-- before the other cells, and a level's own cells begin where those of its prefix end.
unfoldable pub parameter_cell : CodeOf → (class number : ℕ) → Option ℕ
parameter_cell code c k = parameter_within c code c k

abbrev pub put_at : Option ℕ → Value → Cells → Option Cells
put_at None v cells = None
put_at (Some c) v cells = put_in (Some cells) c v

-- values fill cells, each the one for its number; none where one has no cell
abbrev pub filled_by : (place : ℕ → Option ℕ) → (number : ℕ) → List Value → Option Cells → Option Cells
filled_by place k vs None = None
filled_by place k [] (Some cells) = Some cells
filled_by place k (v ∷ vs) (Some cells) = filled_by place (suc k) vs (put_at (place k) v cells)

-- the first cells of what has the levels of a class, with one value for each formal parameter
abbrev pub supplied : CodeOf → (class : ℕ) → BlockOf → List Value → Option Cells
supplied code c b values = if length values == length b.formals then filled_by (parameter_cell code c) 0 values (Some (first_cells b)) else None

-- ---- linkages and processes

-- what an object with these levels is made as, if it is a linkage
unfoldable pub linkage_with : CodeOf → (levels : List ℕ) → Option Linkage
linkage_with code cs = linkage_by (list_any (is_marked code head_mark) cs) (list_any (is_marked code linkage_mark) cs)

-- ---- entries

-- a block of this kind, and where the declarations of its level 0 begin
unfoldable pub levelled : {S : Type 0} → CodeOf → BlockKind → (block : ℕ) → World → (BlockOf → (start : ℕ) → Run S) → Run S
levelled code kind k o go =
    having (slice_get code.blocks k) o (λ b. when (same_kind b.kind kind) o (
    having (levels code b.class) o (λ cs. having (class_at_level code cs 0) o (λ x. leading code x.declarations o (go b x.declarations)))))

-- what the objects of a class are made as, if they are linkages
abbrev pub linkage_in : CodeOf → Option (List ℕ) → Option Linkage
linkage_in code None = None
linkage_in code (Some cs) = linkage_with code cs

abbrev pub linkage_of_class : CodeOf → (class : ℕ) → Option Linkage
linkage_of_class code c = linkage_in code (levels code c)

-- The record of a class tells whether its objects are processes, which take four words more.
abbrev pub is_process_record : Option ClassOf → Bool
is_process_record None = false
is_process_record (Some x) = x.process

abbrev pub is_process_class : CodeOf → (class : ℕ) → Bool
is_process_class code c = is_process_record (class_numbered code c)

abbrev pub words_of_object : CodeOf → BlockOf → ℕ
words_of_object code b = instance_words b.cells (is_process_class code b.class)

-- a block that has `simulation` in front of one of its levels
abbrev pub is_simulation_class : CodeOf → (class : ℕ) → Bool
is_simulation_class code c = is_some (process_class code c)

-- a prefixed block is entered, or an object is made in the frame in which its class is declared
abbrev pub block_begun : CodeOf → (class block : ℕ) → World → World
block_begun code c b o = begun_in (is_simulation_class code c) b o

abbrev pub object_made : CodeOf → (class parent object : ℕ) → World → World
object_made code c parent j o = joined (is_process_class code c) parent j (enrolled j (linkage_of_class code c) o)

-- the block of the objects of a class, which has this class
unfoldable pub objects_of : {S : Type 0} → CodeOf → (class : ℤ) → World → (ℕ → BlockOf → (start : ℕ) → Run S) → Run S
objects_of code z o go =
    having (class_named code z) o (λ c. having (class_numbered code c) o (λ x.
    levelled code block.Object x.block o (λ b start. when (b.class == c) o (go x.block b start))))

-- The values of an object's parameters, and the link to the frame in which its class is declared, are taken. The frame that generates the
-- object gets the reference at once, and waits. The arrays among the values go over to the object, which becomes a linkage or a process if its
-- class is one.
abbrev pub generating : CodeOf → Limits → World → Frames → Activation → List Activation → (line : ℕ) → (class values : ℤ) → Run Machine
generating code l o m a below line z n =
    index n o (λ n. pop_many n [] a.stack o (λ values stack.
    popping stack o (λ v stack. having (link_in v) o (λ parent. when (is_live m parent) o (
    objects_of code z o (λ k b start.
    having (supplied code b.class b values) o (λ cells.
    pushing a.room stack (Of (Object (length m.instances))) o (λ stack.
    entering l line (words_of_object code b) o (λ p.
    in_object (object_made code b.class parent (length m.instances) (handed_over (length m.instances) (arrays_among values) p)) m k b start parent cells (waiting a stack ∷ below))))))))))

-- the same of a prefixed block, whose encloser is the frame on top, and which may be a simulation block
abbrev pub entering_prefixed : CodeOf → Limits → World → Frames → Activation → List Activation → (line : ℕ) → (block values : ℤ) → Run Machine
entering_prefixed code l o m a below line z n =
    index n o (λ n. pop_many n [] a.stack o (λ values stack.
    index z o (λ k. levelled code block.Prefixed k o (λ b start.
    having (supplied code b.class b values) o (λ cells.
    entering l line (words_of_block b) o (λ p.
    in_prefixed (block_begun code b.class (length m.instances) (handed_over (length m.instances) (arrays_among values) p)) m k b start a.home cells (waiting a stack ∷ below)))))))

-- ---- from stage to stage

abbrev pub same_stage : Stage → Stage → Bool
same_stage stage.NoStage stage.NoStage = true
same_stage (stage.Declaring n) (stage.Declaring k) = n == k
same_stage (stage.Stating n) (stage.Stating k) = n == k
same_stage (stage.Behind n) (stage.Behind k) = n == k
same_stage _ _ = false

-- the levels of the frame on top, which is at this stage
unfoldable pub own_levels : {S : Type 0} → CodeOf → Frames → Activation → Stage → World → (List ℕ → Run S) → Run S
own_levels code m a stage o go =
    when (same_stage a.stage stage) o (having (owner a) o (λ j. having (levels_in code (class_of code m j)) o go))

-- the frame on top goes on at an index of a class, at another stage
abbrev pub at_stage : CodeOf → World → Frames → Activation → List Activation → Stage → (index : ℕ) → Run Machine
at_stage code o m a below stage q = leading code q o (at o m (record a { stage = stage }) q a.stack below)

-- to the declarations of the next level, or behind the innermost one to the statements of the outermost one
abbrev pub after_declarations : CodeOf → World → Frames → Activation → List Activation → (level : ℕ) → (levels : List ℕ) → (next : Option ClassOf) → Run Machine
after_declarations code o m a below n cs (Some x) = at_stage code o m a below (stage.Declaring (suc n)) x.declarations
after_declarations code o m a below n cs None = having (class_at_level code cs 0) o (λ x. at_stage code o m a below (stage.Stating 0) x.statements)

abbrev pub declarations_done : CodeOf → World → Frames → Activation → List Activation → (level : ℕ) → Run Machine
declarations_done code o m a below n =
    own_levels code m a (stage.Declaring n) o (λ cs. after_declarations code o m a below n cs (class_at_level code cs (suc n)))

-- to the statements of the next level, or on where there is none
abbrev pub at_inner : CodeOf → World → Frames → Activation → List Activation → (level : ℕ) → (next : Option ClassOf) → Run Machine
at_inner code o m a below n (Some x) = at_stage code o m a below (stage.Stating (suc n)) x.statements
at_inner code o m a below n None = on o m (record a { stage = stage.Behind n }) a.stack below

abbrev pub inner_reached : CodeOf → World → Frames → Activation → List Activation → (level : ℕ) → Run Machine
inner_reached code o m a below n = own_levels code m a (stage.Stating n) o (λ cs. at_inner code o m a below n (class_at_level code cs (suc n)))

-- ---- ends

-- The frame on top is a process that comes to its end where it stands in the part after `inner` of its level of the class `process`.
abbrev pub is_behind : CodeOf → Stage → (levels : List ℕ) → Bool
is_behind code (stage.Behind n) cs = is_marked_level code (slice_get cs n)
  where
    is_marked_level : CodeOf → Option ℕ → Bool
    is_marked_level code None = false
    is_marked_level code (Some c) = is_marked code process_mark c
is_behind code _ cs = false

abbrev pub ends_process : CodeOf → Stage → Option (List ℕ) → Bool
ends_process code stage None = false
ends_process code stage (Some cs) = is_behind code stage cs

abbrev pub frame_if : Bool → Option ℕ → Option ℕ
frame_if true j = j
frame_if false j = None

unfoldable pub ending_process : CodeOf → Frames → Activation → Option ℕ
ending_process code m a = frame_if (ends_process code a.stage (levels_in code (class_of code m a.home))) (owner a)

-- The outermost level ends: an object takes the tick of its end and is terminated, a prefixed block ends as a sub-block does.
abbrev pub ended_by_kind : Limits → World → Frames → List Activation → (frame : ℕ) → BlockOf → BlockKind → Run Machine
ended_by_kind l o m below j b block.Object = ticking l o (λ p. object_ended owner p m j below)
ended_by_kind l o m below j b block.Prefixed = leaving b below None j o m
ended_by_kind l o m below j b block.SubBlock = no_rule o
ended_by_kind l o m below j b block.Procedure = no_rule o

abbrev pub outermost_ended : CodeOf → Limits → World → Frames → Activation → List Activation → (frame block : ℕ) → Run Machine
outermost_ended code l o m a below j k =
    when (same_stage a.stage (stage.Behind 0)) o (having (slice_get code.blocks k) o (λ b. ended_by_kind l o m below j b b.kind))

-- A level ends: control goes to the part behind `inner` of the level around it. Block 0 ends the run.
abbrev pub level_ended : CodeOf → Limits → World → Frames → Activation → List Activation → (level : ℕ) → Run Machine
level_ended code l o m a below zero =
    having (owner a) o (λ j. having (text_in (slice_get m.instances j)) o (λ k. choosing (k == 0) (stopping Normal o) (outermost_ended code l o m a below j k)))
level_ended code l o m a below (suc n) =
    own_levels code m a (stage.Behind (suc n)) o (λ cs. having (class_at_level code cs n) o (λ x. at_stage code o m a below (stage.Behind n) x.after_inner))
