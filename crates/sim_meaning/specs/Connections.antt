-- Connections: `inspect`. The object that is connected is kept in a cell of the instance in which the statement stands, one for each arm, and
-- what the object has is read through that cell. The cell takes no words.
use Rattle.std.specs.Prelude.{ℕ, Bool, true, false, List, ◌∷◌}
use Rattle.sim_scope.specs.Source.{Source}
use Rattle.sim_tree.specs.Syntax.{Arms, NoArm, Statement, Statements, When}
use Rattle.sim_values.specs.Plain.{MainOf, Nothing, Object, Plain}
use Rattle.sim_code.specs.Outcome.{Run, World}
use Rattle.sim_code.specs.Events.{having, no_rule, pop_plain}
use Rattle.sim_meaning.specs.Levels.{class_at, stands_in}
use Rattle.sim_meaning.specs.Pending.{Activation, Configuration, Connection, Do, Exec, Execs, Instances, Item, Of, PastOp, Val, WhenOp, cell_made, plain}
use Rattle.sim_meaning.specs.Steps.{go}

-- the statement of a connection, which goes past the others
abbrev pub connected : World → Instances → ℕ → List Item → List Val → List Activation → (connection : ℕ) → Plain → Statement → Run Configuration
connected o m i w vals rest k p a = having (cell_made m i (Connection k) (Of p)) o (λ m. go o m i (Do (Exec a) ∷ Do PastOp ∷ w) vals rest)

-- `inspect x do`: x is connected, or `otherwise` is taken for none
abbrev pub object_connected : World → Instances → ℕ → List Item → List Val → List Activation → (connection : ℕ) → Statement → (otherwise : Statements) → Plain → Run Configuration
object_connected o m i w vals rest k a other (Object j) = connected o m i w vals rest k (Object j) a
object_connected o m i w vals rest k a other (MainOf b) = connected o m i w vals rest k (MainOf b) a
object_connected o m i w vals rest k a other Nothing = go o m i (Do (Execs other) ∷ w) vals rest
object_connected o m i w vals rest k a other _ = no_rule o

abbrev pub inspected : World → Instances → ℕ → List Item → List Val → List Activation → (connection : ℕ) → Statement → (otherwise : Statements) → Run Configuration
inspected o m i w vals rest k a other = pop_plain plain vals o (λ p vals. object_connected o m i w vals rest k a other p)

-- `when`: the arm is taken where x is in its class, or else the arms behind it are tried
abbrev pub arm_tried : World → Instances → ℕ → List Item → List Val → List Activation → (fits : Bool) → (connection : ℕ) → Plain → Statement → (more : Arms) → (otherwise : Statements) → Run Configuration
arm_tried o m i w vals rest true k p a more other = connected o m i w vals rest k p a
arm_tried o m i w vals rest false k p a more other = go o m i (Do (WhenOp more other) ∷ w) (Of p ∷ vals) rest

-- `otherwise` is taken for none, and where no class fits
abbrev pub arms_tried : Source → World → Instances → ℕ → List Item → List Val → List Activation → Arms → (otherwise : Statements) → Plain → Run Configuration
arms_tried s o m i w vals rest (When token class opening a end more) other (Object j) =
    having (class_at s class.token.0) o (λ k. arm_tried o m i w vals rest (stands_in s m k (Object j)) opening (Object j) a more other)
arms_tried s o m i w vals rest (When token class opening a end more) other (MainOf b) =
    having (class_at s class.token.0) o (λ k. arm_tried o m i w vals rest (stands_in s m k (MainOf b)) opening (MainOf b) a more other)
arms_tried s o m i w vals rest NoArm other (Object j) = go o m i (Do (Execs other) ∷ w) vals rest
arms_tried s o m i w vals rest NoArm other (MainOf b) = go o m i (Do (Execs other) ∷ w) vals rest
arms_tried s o m i w vals rest arms other Nothing = go o m i (Do (Execs other) ∷ w) vals rest
arms_tried s o m i w vals rest arms other _ = no_rule o

abbrev pub inspected_when : Source → World → Instances → ℕ → List Item → List Val → List Activation → Arms → (otherwise : Statements) → Run Configuration
inspected_when s o m i w vals rest arms other = pop_plain plain vals o (λ p vals. arms_tried s o m i w vals rest arms other p)
