-- Objects: how they are generated, how their attributes are found, how references are held against classes, and how objects end. And
-- prefixed blocks, which are entered in the same way.
use Rattle.std.specs.Prelude.{ℕ, Bool, true, false, if◌then◌else◌, pos, List, [], ◌∷◌, ◌++◌, length, Option, Some, None, Result, Ok}
use Rattle.sim_base.specs.declared.limits.Limits.{Limits}
use Rattle.sim_base.specs.declared.numbering.DeclNo.{DeclNo}
use Rattle.sim_base.specs.declared.run_error.RunError.{RunError}
use Rattle.notices.specs.declared.notice.Notice.{Notice}
use Rattle.notices.specs.Scheduling.{passivated}
use Rattle.sim_chains.specs.Components.{AttachedObject}
use Rattle.sim_scope.specs.declared.types.Entry.{Entry}
use Rattle.sim_scope.specs.declared.types.Entry.TheVariants as entry
use Rattle.sim_scope.specs.Scopes.{class_formals, entry_of}
use Rattle.sim_scope.specs.Source.{Source}
use Rattle.sim_tree.specs.declared.expr.Membership.{Membership}
use Rattle.sim_values.specs.declared.standard.Standard.{Standard}
use Rattle.sim_values.specs.Plain.{Integer, MainOf, Nothing, Object, Plain, Truth}
use Rattle.sim_values.specs.Words.{instance_words}
use Rattle.sim_code.specs.Outcome.{Going, Run, Simulation, World}
use Rattle.sim_code.specs.Events.{entering, having, no_rule, pop_many, pop_object, pop_plain, pop_reference, popping, qualifying, when}
use Rattle.sim_code.specs.Arrays.{element_set, finding_element, handed_over, keeping_array}
use Rattle.sim_code.specs.Instances.{CellPlace, ElementPlace, Place, encloser_of, entered, is_live}
use Rattle.sim_code.specs.Simulations.{begun_in, joined, located, with_ended}
use Rattle.sim_code.specs.Scheduling.{Timing, deciding, performing_activation, performing_process, performing_simulation}
use Rattle.sim_code.specs.Sets.{enrolled}
use Rattle.sim_code.specs.Transfers.{Detaching, Transfer, transferring}
use Rattle.sim_meaning.specs.Levels.{belongs, end_line, has_procedure, in_process, is_in, is_process_text, is_simulation_text, levels, linkage_of_text, main_belongs, stands_in}
use Rattle.sim_meaning.specs.Pending.{Activation, Address, ArrayValue, Configuration, Declared, DeclareOp, Do, EndLevel, EndProcessOp, EndObject, EndPrefixed, Execs, Held, InnerOp, Instances, Item, Key, Level, LevelOp, Link, Of, Origin, SelfOp, TransferOp, Val, array_in, cell_set, held_set, instance_in, owner, place_in, plain}
use Rattle.sim_meaning.specs.Texts.{constant_of}
use Rattle.sim_meaning.specs.Steps.{go}
use Rattle.sim_meaning.specs.Entries.{arrays_among, cell_before, in_instance, new_instance, numbers_of, with_cell, words_of_cells}

-- ---- attributes

-- where an attribute of the object in hand lies, which is in the class that declares it
abbrev pub attribute_found : Source → World → Instances → ℕ → List Item → List Val → List Activation → (text : ℕ) → Key → (class : Option ℕ) → (line : ℕ) → Run Configuration
attribute_found s o m i w vals rest k key class line =
    pop_object plain line vals o (λ j vals. when (is_in s m k j) o (go o m i w (Address (CellPlace j key class) ∷ vals) rest))

-- the object of `process` itself in hand keeps a token
abbrev pub origin_kept : Source → World → Instances → ℕ → List Item → List Val → List Activation → (text token line : ℕ) → Run Configuration
origin_kept s o m i w vals rest k token line =
    pop_object plain line vals o (λ j vals. when (is_in s m k j) o (having (cell_set m j Origin (Of (Integer (pos token)))) o (λ m.
    go o m i w (Of (Object j) ∷ vals) rest)))

-- the object in hand, as the instance in which a procedure is declared that it has
abbrev pub object_found : Source → World → Instances → ℕ → List Item → List Val → List Activation → (text line : ℕ) → Run Configuration
object_found s o m i w vals rest k line = pop_object plain line vals o (λ j vals. when (has_procedure s m k j) o (go o m i w (Link j ∷ vals) rest))

abbrev pub qualified_element_found : World → Instances → ℕ → List Item → List Val → List Activation → (subscripts line class : ℕ) → Run Configuration
qualified_element_found o m i w vals rest n line k =
    finding_element plain array_in n line vals o (λ array index vals. go o m i w (Address (ElementPlace array index (Some k)) ∷ vals) rest)

-- ---- references and classes

-- `is` and `in` are false of none
abbrev pub is_member : Source → Instances → Membership → (class : ℕ) → Plain → Option Bool
is_member s m member k (Object j) = Some (belongs s m member k j)
is_member s m member k (MainOf b) = Some (main_belongs s m member k b)
is_member s m member k Nothing = Some false
is_member s m member k _ = None

abbrev pub member_tested : Source → World → Instances → ℕ → List Item → List Val → List Activation → Membership → (class : ℕ) → Run Configuration
member_tested s o m i w vals rest member k =
    pop_plain plain vals o (λ p vals. having (is_member s m member k p) o (λ b. go o m i w (Of (Truth b) ∷ vals) rest))

-- `qua`: E6 of none, and E7 where what is named is not in the class
abbrev pub qua_tested : Source → World → Instances → ℕ → List Item → List Val → List Activation → (class line : ℕ) → Run Configuration
qua_tested s o m i w vals rest k line =
    pop_reference plain line vals o (λ p vals. qualifying line (stands_in s m k) p o (go o m i w (Of p ∷ vals) rest))

-- a reference that is passed on: E7 where it is neither none nor in the class
abbrev pub fitted : Source → World → Instances → ℕ → List Item → List Val → List Activation → (class line : ℕ) → Run Configuration
fitted s o m i w vals rest k line = pop_plain plain vals o (λ p vals. qualifying line (stands_in s m k) p o (go o m i w (Of p ∷ vals) rest))

abbrev pub kept : World → Instances → ℕ → List Item → List Val → List Activation → Run Configuration
kept o m i w vals rest = popping vals o (λ v vals. having (array_in v) o (λ array. keeping_array array o (λ p. go p m i w (ArrayValue array ∷ vals) rest)))

-- A reference is put where an address leads, and held against the qualification there.
unfoldable pub putting_reference : Source → (line : ℕ) → Place Key (Option ℕ) → Plain → World → Instances → (World → Instances → Run Configuration) → Run Configuration
putting_reference s line (CellPlace j key (Some k)) p o m go = qualifying line (stands_in s m k) p o (having (cell_set m j key (Of p)) o (λ m. go o m))
putting_reference s line (ElementPlace a n (Some k)) p o m go = qualifying line (stands_in s m k) p o (having (element_set o a n p) o (λ o. go o m))
putting_reference s line _ p o m go = no_rule o

abbrev pub referred : Source → World → Instances → ℕ → List Item → List Val → List Activation → (line : ℕ) → Run Configuration
referred s o m i w vals rest line =
    pop_plain plain vals o (λ p vals. popping vals o (λ v vals. having (place_in v) o (λ place.
    putting_reference s line place p o m (λ o m. go o m i w vals rest))))

-- ---- transfers of control

-- the reference in hand, to an object or a main program; E6 for none
abbrev pub not_none : World → Instances → ℕ → List Item → List Val → List Activation → (line : ℕ) → Run Configuration
not_none o m i w vals rest line = pop_reference plain line vals o (λ p vals. go o m i w (Of p ∷ vals) rest)

-- `detach`, `call` or `resume` of the object in hand; the instance that does it goes on when control returns to it
abbrev pub transfer_done : World → Instances → ℕ → List Item → List Val → List Activation → Transfer → (line : ℕ) → Run Configuration
transfer_done o m i w vals rest t line = pop_plain plain vals o (λ p vals. transferring owner t line o (record { instance = i; work = w; values = vals } ∷ rest) m p)

-- ---- scheduling

-- who goes on is decided by the event notices; the instance that scheduled waits
abbrev pub decided : Instances → ℕ → List Item → List Activation → (line : ℕ) → World → (ℕ × Simulation) → Result (List Notice) RunError → List Val → Run Configuration
decided m i w rest line o x r vals = deciding owner line o (record { instance = i; work = w; values = vals } ∷ rest) m x r

abbrev pub simulation_done : Source → World → Instances → ℕ → List Item → List Val → List Activation → Standard → (line : ℕ) → Run Configuration
simulation_done s o m i w vals rest name line =
    performing_simulation plain instance_in (in_process s m) None name vals o (λ p vals. go o m i w (Of p ∷ vals) rest) (decided m i w rest line)

abbrev pub activation_done : Source → World → Instances → ℕ → List Item → List Val → List Activation → (again : Bool) → Timing → (line : ℕ) → Run Configuration
activation_done s o m i w vals rest again timing line = performing_activation plain instance_in (in_process s m) again timing vals o (decided m i w rest line)

abbrev pub process_told : World → Instances → ℕ → List Item → List Val → List Activation → Standard → (line : ℕ) → Run Configuration
process_told o m i w vals rest name line = performing_process plain (encloser_of m) name line vals o (λ p vals. go o m i w (Of p ∷ vals) rest)

-- a process that comes to its end is terminated, and passivates; what is behind is for the case that it gets or keeps control
abbrev pub process_ended : Source → World → Instances → ℕ → List Item → List Val → List Activation → Run Configuration
process_ended s o m i w vals rest =
    having (encloser_of m i) o (λ b. having (located o.simulations b) o (λ x. having (end_line s m i) o (λ line.
    decided m i w rest line o (x.0, with_ended i x.1) (Ok (passivated x.1.notices)) vals)))

-- ---- the work of an instance with levels

-- all declarations of all levels are made before the first statement
abbrev pub declared : List Level → List Item → List Item
declared [] w = w
declared (x ∷ xs) w = Do (DeclareOp x.declarations) ∷ Do (LevelOp x.text) ∷ declared xs w

-- the statements of a level, with those of the levels inside in place of `inner`, or behind them
abbrev pub with_inner : (last : Bool) → (inside : List Level) → List Item → List Item
with_inner true xs w = Do (InnerOp xs) ∷ w
with_inner false xs w = w

-- A process detaches at once. What comes behind its own statements ends it: it is terminated, and passivates. No tick is taken.
abbrev pub process_begun : (process : Bool) → (line : ℕ) → List Item → List Item
process_begun true line w = Do SelfOp ∷ Do (TransferOp Detaching line) ∷ w
process_begun false line w = w

abbrev pub process_done : (process : Bool) → List Item → List Item
process_done true w = Do EndProcessOp ∷ w
process_done false w = w

-- It can always detach there, so that the line of that is never told.
abbrev pub no_line : ℕ
no_line = 1

abbrev pub level_work : Level → (inside : List Level) → List Item → List Item
level_work x xs w = process_begun x.process no_line (Do (Execs x.statements) ∷ with_inner x.inner_last xs (process_done x.process w))

abbrev pub levels_work : List Level → (end : Item) → List Item
levels_work [] end = end ∷ []
levels_work (x ∷ xs) end = declared (x ∷ xs) (level_work x xs (end ∷ []))

-- the statements of the levels inside, if there are any
abbrev pub inner_done : World → Instances → ℕ → List Item → List Val → List Activation → List Level → Run Configuration
inner_done o m i w vals rest [] = go o m i w vals rest
inner_done o m i w vals rest (x ∷ xs) = go o m i (level_work x xs (EndLevel x.text ∷ w)) vals rest

-- ---- cells

-- A constant that is an attribute is read from outside, so its cell has its value.
abbrev pub constant_cell : Option Plain → Option Val
constant_cell None = None
constant_cell (Some p) = Some (Of p)

abbrev pub with_attribute : Source → DeclNo → Option Entry → List Held → List Held
with_attribute s d (Some (entry.Constant type)) hs = cell_before d (constant_cell (constant_of s d)) hs
with_attribute s d e hs = with_cell d e hs

abbrev pub attributes_from : Source → List DeclNo → List Held
attributes_from s [] = []
attributes_from s (d ∷ more) = with_attribute s d (entry_of s.tables d) (attributes_from s more)

-- In the one instance of a class or prefixed block lie the cells of all its levels, the outermost prefix first; in each level the parameters
-- come first.
abbrev pub cells_of_levels : Source → List Level → List Held
cells_of_levels s [] = []
cells_of_levels s (x ∷ xs) = attributes_from s (numbers_of s x.text) ++ cells_of_levels s xs

-- ---- generation

-- the actual parameters of all levels, the outermost prefix first, fill the cells of the formal parameters
abbrev pub filled_in : List Val → Option (List Held) → List DeclNo → Option (List Held)
filled_in vs None ds = None
filled_in [] (Some hs) [] = Some hs
filled_in [] (Some hs) (d ∷ ds) = None
filled_in (v ∷ vs) (Some hs) [] = None
filled_in (v ∷ vs) (Some hs) (d ∷ ds) = filled_in vs (held_set (Declared d.0) v hs) ds

-- the arrays among the actuals go over to the new instance
abbrev pub arrays_given : (instance : ℕ) → List Val → World → World
arrays_given j values o = handed_over j (arrays_among values) o

-- a new object on top of the chain, attached
abbrev pub in_object : Source → World → Instances → (text encloser : ℕ) → List Held → List Level → List Activation → Run Configuration
in_object s o m k encloser cells xs rest =
    Going o (record { chain = record { instance = length m.instances; work = levels_work xs EndObject; values = [] } ∷ rest; memory = entered m (new_instance s k (Some encloser) cells) AttachedObject })

-- A process has a cell that takes no words, for the token by which an object of `process` itself tells where it was generated.
abbrev pub origins : List Level → List Held
origins [] = []
origins (x ∷ xs) = if x.process then record { key = Origin; value = Some (Of (Integer (pos 0))) } ∷ origins xs else origins xs

-- A process takes four words more.
abbrev pub words_of_object : Source → (text : ℕ) → List Held → ℕ
words_of_object s k hs = instance_words (length hs) (is_process_text s k)

-- the object becomes a linkage or a process, if its class is one
abbrev pub object_made : Source → (text encloser object : ℕ) → World → World
object_made s k j object o = joined (is_process_text s k) j object (enrolled object (linkage_of_text s k) o)

-- The actuals were evaluated, and now the object is made. The instance that generates it has its reference in
-- hand, and waits until control first returns.
abbrev pub object_entered : Source → Limits → World → Instances → ℕ → List Item → List Val → List Activation → (text line : ℕ) → List Val → (encloser : ℕ) → List Level → Run Configuration
object_entered s l o m i w vals rest k line values j xs =
    having (filled_in values (Some (cells_of_levels s xs ++ origins xs)) (class_formals s.tables k)) o (λ filled.
    entering l line (words_of_object s k (cells_of_levels s xs)) o (λ p.
    in_object s (object_made s k j (length m.instances) (arrays_given (length m.instances) values p)) m k j filled xs (record { instance = i; work = w; values = Of (Object (length m.instances)) ∷ vals } ∷ rest)))

abbrev pub generated : Source → Limits → World → Instances → ℕ → List Item → List Val → List Activation → (text actuals line : ℕ) → Run Configuration
generated s l o m i w vals rest k n line =
    pop_many n [] vals o (λ values vals. popping vals o (λ v vals. having (instance_in v) o (λ j. when (is_live m j) o (having (levels s k) o (λ xs.
    object_entered s l o m i w vals rest k line values j xs)))))

-- ---- prefixed blocks

-- a prefixed block may be a simulation block
abbrev pub block_begun : Source → (text block : ℕ) → World → World
block_begun s k b o = begun_in (is_simulation_text s k) b o

-- a prefixed block: its encloser is the instance in which it stands, and it is no object
abbrev pub prefixed_entered : Source → Limits → World → Instances → List Activation → (text line : ℕ) → List Val → (encloser : Option ℕ) → (end : Item) → List Level → Run Configuration
prefixed_entered s l o m rest k line values encloser end xs =
    having (filled_in values (Some (cells_of_levels s xs)) (class_formals s.tables k)) o (λ filled.
    entering l line (words_of_cells (cells_of_levels s xs)) o (λ p.
    in_instance s (block_begun s k (length m.instances) (arrays_given (length m.instances) values p)) m k encloser filled (λ now. levels_work xs end) rest))

abbrev pub prefix_done : Source → Limits → World → Instances → ℕ → List Item → List Val → List Activation → (text actuals line : ℕ) → Run Configuration
prefix_done s l o m i w vals rest k n line =
    pop_many n [] vals o (λ values vals. having (levels s k) o (λ xs.
    prefixed_entered s l o m (record { instance = i; work = w; values = vals } ∷ rest) k line values (Some i) EndPrefixed xs))
