-- The table of the static rules: it is printed so, it stands in the order in which faults at one token come, and each rule that a program breaks has
-- its row.
use Rattle.std.specs.Prelude.{◌≡◌, ℕ, Bool, true, ◌&&◌, nat_lt, List, [], ◌∷◌, Some, map, slice_get}
use Rattle.sim_base.specs.Rule.{rule_entry}
use Rattle.sim_tree.specs.Syntax.{Program}
use Rattle.sim_scope.specs.Found.{rank}
use Rattle.sim_scope.specs.declared.found.Fault.{Fault}
use Rattle.static_rules.specs.Rules.{Breaks, Round, Row, rows}

-- each row has the number and the words of its rule
abbrev pub ArePrinted : List Row → Type 0
ArePrinted [] = Unit {0}
ArePrinted (w ∷ ws) = (rule_entry w.rule ≡ (w.number, w.words)) × ArePrinted ws

-- whether each number is less than the one behind it
abbrev pub rises : (least : ℕ) → List ℕ → Bool
rises least [] = true
rises least (n ∷ ns) = nat_lt least n && rises n ns

-- the row of a rule in its round
pub record HasRow (round : Round) (x : Fault) : Type 0 where
  pub place : ℕ
  pub w : Row
  pub there : slice_get rows place ≡ Some w
  pub in_round : w.round ≡ round
  pub of_rule : w.rule ≡ x.rule

pub record IsIndex : Type 0 where
  pub printed : ArePrinted rows
  pub in_order : rises 0 (map (λ (w : Row). rank w.rule) rows) ≡ true
  pub complete : (p : Program) (round : Round) (x : Fault) → Breaks p round x → HasRow round x
