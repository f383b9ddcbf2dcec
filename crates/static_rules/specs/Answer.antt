-- The answer of the static rules is the least rule that is broken, in the first round in which one is.
use Rattle.std.specs.Prelude.{◌≡◌, ⊤, false, Option, Some, None, Result, Ok, Err}
use Rattle.sim_tree.specs.Syntax.{Program}
use Rattle.sim_tree.specs.SyntaxOfProgram.{program_syntax}
use Rattle.sim_tree.specs.declared.program.Program.{Program as Tree}
use Rattle.sim_scope.specs.Found.{precedes}
use Rattle.sim_scope.specs.declared.bound.Bound.{Bound}
use Rattle.sim_scope.specs.declared.found.Fault.{Fault}
use Rattle.sim_scope.specs.declared.refusal.StaticRefusal.{StaticRefusal}
use Rattle.sim_scope.specs.declared.refusal.StaticRefusal.TheVariants as refusal
use Rattle.sim_static.specs.Check.{Allowed, Checked, Refused, check_of}
use Rattle.static_rules.specs.Rules.{Breaks, First, Last, Round, Second}

-- no rule of a round is broken
abbrev pub BreaksNone : Program → Round → Type 0
BreaksNone p round = (x : Fault) → Breaks p round x → ⊥

-- a rule that is broken and before which none stands: at a lesser token, or at this one and earlier in the table
pub record IsLeastOf (p : Program) (round : Round) (x : Fault) : Type 0 where
  pub is_broken : Breaks p round x
  pub is_least : (y : Fault) → Breaks p round y → precedes y x ≡ false

-- the rule that refuses a program, if one does
pub data Decides (p : Program) : Option Fault → Type 0 where
  in_first : {x : Fault} → IsLeastOf p First x → Decides p (Some x)
  in_second : {x : Fault} → BreaksNone p First → IsLeastOf p Second x → Decides p (Some x)
  in_last : {x : Fault} → BreaksNone p First → BreaksNone p Second → IsLeastOf p Last x → Decides p (Some x)
  in_none : BreaksNone p First → BreaksNone p Second → BreaksNone p Last → Decides p None

abbrev pub refused_by : Checked → Option Fault
refused_by (Refused x) = Some x
refused_by (Allowed tables uses found_in types) = None

-- a program is refused by a rule, or by none, exactly where the rules decide so
pub record IsDecided (p : Tree) : Type 0 where
  pub answers : Decides (program_syntax p) (refused_by (check_of p))
  pub only : (x : Option Fault) → Decides (program_syntax p) x → refused_by (check_of p) ≡ x

-- what a check answers
abbrev pub AnswersByRules : Tree → Result Bound StaticRefusal → Type 0
AnswersByRules p (Ok b) = Decides (program_syntax p) None
AnswersByRules p (Err (refusal.Broken rule token)) = Decides (program_syntax p) (Some (record { token = token; rule = rule }))
AnswersByRules p (Err refusal.Memory) = ⊤
