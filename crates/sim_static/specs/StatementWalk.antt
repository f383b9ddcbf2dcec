-- What the functions of the last round find.
use Rattle.std.specs.Prelude.{◌≡◌, ℕ, List, map, Option, option_map}
use Rattle.sim_base.specs.declared.numbering.DeclNo.{DeclNo}
use Rattle.sim_tree.specs.declared.expr.Expr.{Expr}
use Rattle.sim_tree.specs.declared.expr.Identifier.{Identifier}
use Rattle.sim_tree.specs.declared.program.BlockPrefix.{BlockPrefix}
use Rattle.sim_tree.specs.declared.stmt.ArraySegment.{ArraySegment}
use Rattle.sim_tree.specs.declared.stmt.Assigned.{Assigned}
use Rattle.sim_tree.specs.declared.stmt.Assignment.{Assignment}
use Rattle.sim_tree.specs.declared.stmt.Bounds.{Bounds}
use Rattle.sim_tree.specs.declared.stmt.ForElement.{ForElement}
use Rattle.sim_tree.specs.declared.stmt.ReferenceElement.{ReferenceElement}
use Rattle.sim_tree.specs.declared.stmt.Timing.{Timing}
use Rattle.sim_tree.specs.declared.stmt.When.{When}
use Rattle.sim_tree.specs.Syntax.{expressions}
use Rattle.sim_tree.specs.SyntaxOf.{syntax_of}
use Rattle.sim_tree.specs.SyntaxOfProgram.{arm_syntax, arms, right_side_syntax, element_syntax, prefix_syntax, reference_element_syntax, bound_pair_syntax, schedule_syntax, segment_syntax}
use Rattle.sim_scope.specs.declared.outcome.Extent.{Extent}
use Rattle.sim_scope.specs.declared.outcome.LeftSides.{LeftSides}
use Rattle.sim_scope.specs.declared.outcome.Side.{Side}
use Rattle.sim_scope.specs.declared.types.SimType.{SimType}
use Rattle.sim_scope.specs.Assignments.{LeftSide, first_sign, last_value, left_side, left_sides, lefts, no_lefts}
use Rattle.sim_scope.specs.Found.{Event, Findings, found}
use Rattle.sim_scope.specs.Judged.{Judges}
use Rattle.sim_scope.specs.Runs.{Runs}
use Rattle.sim_scope.specs.Statements.{activate_events, arm_events, array_events, assignment_events, call_events, class_prefix_events, element_events, first_step, first_value, inspect_events, inspect_when_events, pair_events, prefixed_events, process_events, program_prefix_events, required, schedule_events}
use Rattle.sim_scope.specs.Tables.{Tables}
use Rattle.sim_scope.specs.Walk.{arm_classes}

-- from what was found to what is found
abbrev pub Tells : Findings → Findings → List Event → Type 0
Tells f g es = Runs found f g es

abbrev pub left_of : Assigned → Expr → LeftSide
left_of part left = record { sign = part.sign; token = part.token.0; target = syntax_of left }

unfoldable pub FindsLeft : Tables → Findings → Findings → (first : Assignment) → Assigned → Expr → Side → Type 0
FindsLeft s f g first part left x = Judges f g x (left_side s first (left_of part left))

unfoldable pub FindsLefts : Tables → Findings → Findings → Expr → List Assigned → Side → LeftSides → Type 0
FindsLefts s f g left parts v a =
    Judges f g a (lefts s (first_sign (map right_side_syntax parts)) v no_lefts (left_sides (syntax_of left) (map right_side_syntax parts)))

-- in a loop: what is found of the rest is found of the whole
unfoldable pub OwesLefts : Tables → (first : Assignment) → Side → Findings → LeftSides → List LeftSide → Findings → LeftSides → List LeftSide → Type 0
OwesLefts s first v f a ls g b rest = (h : Findings) (c : LeftSides) → Judges g h c (lefts s first v b rest) → Judges f h c (lefts s first v a ls)

unfoldable pub IsLast : Expr → Expr → List Assigned → Type 0
IsLast x left parts = syntax_of x ≡ last_value (syntax_of left) (map right_side_syntax parts)

-- The same of the trees.
unfoldable pub of_assignment : Tables → Expr → List Assigned → List Event
of_assignment s left parts = assignment_events s (syntax_of left) (map right_side_syntax parts)

unfoldable pub of_required : Tables → Extent → SimType → Expr → List Event
of_required s e wanted x = required s e wanted (syntax_of x)

unfoldable pub of_call : Tables → Expr → List Event
of_call s x = call_events s (syntax_of x)

unfoldable pub of_first_value : Tables → Option SimType → Expr → List Event
of_first_value s a x = first_value s a (syntax_of x)

unfoldable pub of_first_step : Tables → Option SimType → Expr → List Event
of_first_step s a x = first_step s a (syntax_of x)

unfoldable pub of_element : Tables → Option SimType → ForElement → List Event
of_element s a x = element_events s a (element_syntax x)

unfoldable pub of_reference_element : Tables → Option SimType → ReferenceElement → List Event
of_reference_element s a x = element_events s a (reference_element_syntax x)

unfoldable pub of_pair : Tables → Bounds → List Event
of_pair s b = pair_events s (bound_pair_syntax b)

unfoldable pub of_segment : Tables → ArraySegment → List Event
of_segment s a = array_events s (segment_syntax a)

-- prefixes
unfoldable pub of_prefix : Tables → BlockPrefix → (begin : ℕ) → List Event
of_prefix s p begin = prefixed_events s p.class (expressions (map syntax_of p.arguments.items)) begin

unfoldable pub of_program_prefix : Tables → Option BlockPrefix → (begin : ℕ) → List Event
of_program_prefix s p begin = program_prefix_events s (option_map prefix_syntax p) begin

unfoldable pub of_class_prefix : Tables → Option Identifier → (token : ℕ) → List Event
of_class_prefix s p token = class_prefix_events s p token

-- connections
unfoldable pub of_inspect : Tables → (token : ℕ) → Expr → List Event
of_inspect s token x = inspect_events s token (syntax_of x)

unfoldable pub of_arm_class : Tables → (token : ℕ) → Side → When → List Event
of_arm_class s token x arm = arm_events s token x arm.class

unfoldable pub of_inspect_when : Tables → (token : ℕ) → Expr → List When → List Event
of_inspect_when s token x list = inspect_when_events s token (syntax_of x) (arm_classes (arms (map arm_syntax list)))

-- activations
unfoldable pub of_process : Tables → Option DeclNo → Expr → List Event
of_process s process x = process_events s process (syntax_of x)

unfoldable pub of_timing : Tables → Option DeclNo → Option Timing → List Event
of_timing s process timing = schedule_events s process (schedule_syntax timing)

unfoldable pub of_activation : Tables → (token : ℕ) → Expr → Option Timing → List Event
of_activation s token x timing = activate_events s token (syntax_of x) (schedule_syntax timing)
