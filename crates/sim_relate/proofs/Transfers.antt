-- Transfers of control between components, as operators.
use Rattle.std.proofs.Common.{◌≡◌, ℕ, suc, List, ◌∷◌}
use Rattle.sim_base.specs.declared.limits.Limits.{Limits}
use Rattle.sim_scope.specs.Source.{Source}
use Rattle.sim_code.specs.declared.instr.Instr.TheVariants as i
use Rattle.sim_code.specs.Code.{CodeOf}
use Rattle.sim_code.specs.Events.{pop_plain}
use Rattle.sim_code.specs.Machine.{Frames, Machine, Value, waiting}
use Rattle.sim_code.specs.Machine as machine
use Rattle.sim_code.specs.Outcome.{World}
use Rattle.sim_code.specs.Rows.{on_top}
use Rattle.sim_code.specs.Transfers.{Calling, Detaching, Resuming, Transfer, transferring}
use Rattle.sim_code.proofs.Simulation.{Alike}
use Rattle.sim_meaning.specs.Meaning.{do_op}
use Rattle.sim_meaning.specs.Pending.{Activation, Configuration, Instances, Item, Op, TransferOp, Val, plain}
use Rattle.codegen.specs.Compiled.{Compiled}
use Rattle.sim_relate.proofs.Carried.{work_flag}
use Rattle.sim_relate.proofs.Components.{transfers}
use Rattle.sim_relate.proofs.Entries.{waits}
use Rattle.sim_relate.proofs.Hands.{hand_plain}
use Rattle.sim_relate.proofs.Here.{Here, act, at_row, kinds_as}
use Rattle.sim_relate.proofs.Known.{HandAt, Kind, Runs, anys, site_at, Settled}
use Rattle.sim_relate.proofs.Operators.{same_plain}
use Rattle.sim_relate.proofs.Relation.{ChainAt, OpAt, StateAt, WorkAt}
use Rattle.sim_relate.proofs.Waiting.{NoValue}

module _ (s : Source) (code : CodeOf) (compiled : Compiled s code) (l : Limits) (o : World) (m : Instances) (inst : ℕ) (w : List Item) (vals : List Val) (rest : List Activation) (fs : Frames) (t : ℕ) (b : Runs) (pc : ℕ) (stack : List Value) (below : List machine.Activation) (ks : List Kind) (here : Here s code m fs inst rest t b ks vals stack) (u q : ℕ) (ks' : List Kind) (low : Settled s code t b u) (work : WorkAt s code m fs (λ v. ChainAt s code m fs rest v below) inst t b u w q ks') where
  abbrev Related : Configuration → Machine → Type 0
  Related = StateAt s code

  abbrev top : machine.Activation
  top = act inst pc stack b

  abbrev Follows : Op → Type 0
  Follows op = OpAt s code m fs inst (site_at t b u) op pc q ks ks' → Alike Related (do_op s l o m inst w vals rest op) (on_top code l o fs top below)

  -- the instance waits for control, with what is left in its hand
  moves : (way : Transfer) (line : ℕ) (left : List Kind) → ks ≡ anys 1 left → ks' ≡ left → q ≡ suc pc → Alike Related (do_op s l o m inst w vals rest (TransferOp way line)) (pop_plain machine.plain stack o (λ v stack. transferring machine.owner way line o (waiting top stack ∷ below) fs v))
  moves way line left e out place =
      hand_plain Configuration Machine Related Val Value (HandAt s code m) plain machine.plain same_plain left vals stack o _ _ (kinds_as s code e here.values)
      (λ v vals' stack' h. transfers s code compiled o m fs here.store here.parked line _ _ (waits s code compiled l o m inst w vals rest fs t b pc stack below ks here u q ks' low work NoValue left vals' stack' h (λ no. absurd (cc)) tt out place) (here.formed w vals' (work_flag s code m fs (λ v. ChainAt s code m fs rest v below) inst t b u w q ks' work)) way v)

  pub transfer : (way : Transfer) (line : ℕ) → Follows (TransferOp way line)
  transfer Detaching line a = at_row s code l o fs top below _ i.Detach line q a.is (moves Detaching line a.left a.«in» a.out a.is.on)
  transfer Calling line a = at_row s code l o fs top below _ i.Attach line q a.is (moves Calling line a.left a.«in» a.out a.is.on)
  transfer Resuming line a = at_row s code l o fs top below _ i.Resume line q a.is (moves Resuming line a.left a.«in» a.out a.is.on)
