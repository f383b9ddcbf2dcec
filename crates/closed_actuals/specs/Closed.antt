-- An actual parameter by name is an expression and the instance in which it stands, its home. It is closed when its evaluation begins. The tree
-- is the one that closing gave where the parameter was passed.
use Rattle.std.specs.Prelude.{◌≡◌, ℕ, ◌+◌, ◌<◌, Bool, List, [], ◌∷◌, length}
use Rattle.sim_base.specs.declared.limits.Limits.{Limits}
use Rattle.sim_scope.specs.Source.{Source}
use Rattle.sim_tree.specs.Syntax.{Expression}
use Rattle.sim_code.specs.Outcome.{Going, World}
use Rattle.sim_meaning.specs.Closing.{close, close_passed}
use Rattle.sim_meaning.specs.Meaning.{run, step}
use Rattle.sim_meaning.specs.Pending.{Activation, CloseOp, Configuration, Do, Eval, Item, Val}
use Rattle.sim_meaning.specs.Steps.{go}

-- the instance that operates, or for which an actual parameter is evaluated
abbrev pub OperatesOn : (instance : ℕ) → List Activation → Type 0
OperatesOn i [] = ⊥
OperatesOn i (a ∷ rest) = a.instance ≡ i

abbrev pub Operates : (instance : ℕ) → Configuration → Type 0
Operates i c = OperatesOn i c.chain

-- A moment of a run, and one that is no earlier.
pub record Moments (s : Source) : Type 0 where
  pub limits : Limits
  pub input : List ℕ
  pub steps : ℕ
  pub more : ℕ
  pub world : World
  pub earlier : Configuration
  pub later_world : World
  pub later : Configuration
  pub reaches : run s limits input steps ≡ Going world earlier
  pub comes_later : run s limits input (steps + more) ≡ Going later_world later

-- An instance was entered.
abbrev pub WasEntered : (instance : ℕ) → Configuration → Type 0
WasEntered i c = i < length c.memory.instances

-- Closing an expression in an instance gives the same tree at both moments, whether it is closed as an actual parameter, passed as a procedure or
-- not, or for itself: also the tree of a form that is not built.
pub record ClosesAlike (s : Source) (t : Moments s) (home : ℕ) : Type 0 where
  pub passed : (as_procedure : Bool) (e : Expression) → close_passed as_procedure s (t.later).memory home e ≡ close_passed as_procedure s (t.earlier).memory home e
  pub itself : (e : Expression) → close s (t.later).memory home e ≡ close s (t.earlier).memory home e

-- The evaluation of an actual parameter begins by closing it. It goes on with the tree that closing gave at the earlier moment, as when the
-- parameter was passed.
abbrev pub EvaluatesTheTree : (s : Source) → Moments s → (home : ℕ) → Type 0
EvaluatesTheTree s t home =
    (as_procedure : Bool) (e : Expression) (w : List Item) (vals : List Val) (below : List Activation)
    → (t.later).chain ≡ record { instance = home; work = Do (CloseOp as_procedure e) ∷ w; values = vals } ∷ below
    → (o : World) → step s t.limits o t.later ≡ go o (t.later).memory home (Do (Eval (close_passed as_procedure s (t.earlier).memory home e)) ∷ w) vals below

-- So it is of each actual parameter, whose home operates when it is evaluated, and of each moment before, from the entry of its home on; also of
-- those at which its home operates itself, as where its call begins.
pub record ClosesAsWherePassed (s : Source) : Type 0 where
  pub operating : (t : Moments s) (home : ℕ) → Operates home t.earlier → WasEntered home t.earlier
  pub alike : (t : Moments s) (home : ℕ) → WasEntered home t.earlier → Operates home t.later → ClosesAlike s t home
  pub evaluates : (t : Moments s) (home : ℕ) → WasEntered home t.earlier → EvaluatesTheTree s t home
