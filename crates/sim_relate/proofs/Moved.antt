-- A step that changes the stores.
use Rattle.std.proofs.Common.{◌<◌, ◌≤◌, ℕ, List, [], ◌∷◌, length, ◌∙◌, arith}
use Rattle.sim_scope.specs.Source.{Source}
use Rattle.sim_code.specs.Code.{CodeOf}
use Rattle.sim_code.specs.Machine.{Frames, Value}
use Rattle.sim_code.specs.Machine as machine
use Rattle.sim_meaning.specs.Pending.{Activation, Do, EndBlock, EndEvaluation, EndLevel, EndObject, EndPrefixed, EndProcedure, EndProgram, Instances, Item, Val}
use Rattle.sim_meaning.specs.Sane.{OwnersKept, OwnersOf}
use Rattle.sim_relate.proofs.Known.{HandAt, Kind, StackAt, Runs, owner_of}
use Rattle.sim_relate.proofs.Relation.{ChainAt, Changed, ComesTo, WorkAt, over, returning, there}
use Rattle.sim_relate.proofs.Carried.{TempsKept, chain_changed, parked_changed, suspended_by_same, stack_later, work_later}
use Rattle.sim_relate.proofs.Here.{Here, There}
use Rattle.sim_relate.proofs.Waiting.{Wait}

module _ (s : Source) (code : CodeOf) where
  -- more temps may be in use
  pub comes_more : (fs : Frames) (inst t : ℕ) (b : Runs) (u u' n q p : ℕ) → u ≤ u' → ComesTo s code fs inst t b u n q p → ComesTo s code fs inst t b u' n q p
  comes_more fs inst t b u u' n q _ le (there e) = there e
  comes_more fs inst t b u u' n q _ le (over {p} {p'} jump ahead more) = over jump ahead (comes_more fs inst t b u u' n q p' le more)
  comes_more fs inst t b u u' n q _ le (returning {p} {p'} r more) =
      let lt : r.temp < u' = omega (arith, le, r.«in_use») in
      returning (record { temp = r.temp; number = r.number; first = r.first; returns = r.returns; was = r.was; frame = r.frame; «in_use» = lt; is_temp = r.is_temp; holds = r.holds; leads = r.leads; back = r.back }) (comes_more fs inst t b u u' n q p' le more)

  pub work_more : (m : Instances) (fs : Frames) (Below : Wait → Type 0) (inst t : ℕ) (b : Runs) (u u' : ℕ) → u ≤ u' → (w : List Item) (p : ℕ) (ks : List Kind) → WorkAt s code m fs Below inst t b u w p ks → WorkAt s code m fs Below inst t b u' w p ks
  work_more m fs Below inst t b u u' le [] p ks a = a
  work_more m fs Below inst t b u u' le (Do op ∷ w) p ks a = let less = a.8 in let more : a.1 ≤ u' = omega (arith, le, less) in (a.0, a.1, a.2, a.3, a.4, a.5, a.6, comes_more fs inst t b u u' (length ks) a.0 p le a.7, more, a.9, a.10, a.11)
  work_more m fs Below inst t b u u' le (EndBlock ∷ w) p ks a = (a.0, comes_more fs inst t b u u' (length ks) a.0 p le a.1, a.2)
  work_more m fs Below inst t b u u' le (EndProcedure v ∷ w) p ks a = (a.0, comes_more fs inst t b u u' (length ks) a.0 p le a.1, a.2)
  work_more m fs Below inst t b u u' le (EndProgram ∷ w) p ks a = (a.0, comes_more fs inst t b u u' (length ks) a.0 p le a.1, a.2)
  work_more m fs Below inst t b u u' le (EndObject ∷ w) p ks a = (a.0, comes_more fs inst t b u u' (length ks) a.0 p le a.1, a.2)
  work_more m fs Below inst t b u u' le (EndPrefixed ∷ w) p ks a = (a.0, comes_more fs inst t b u u' (length ks) a.0 p le a.1, a.2)
  work_more m fs Below inst t b u u' le (EndEvaluation wanted ∷ w) p ks a = (a.0, comes_more fs inst t b u u' (length ks) a.0 p le a.1, a.2)
  work_more m fs Below inst t b u u' le (EndLevel k ∷ w) p ks a = (a.0, a.1, a.2, comes_more fs inst t b u u' (length ks) a.0 p le a.3, a.4, a.5)

  module _ {Of : ℕ → Type 0} {m m' : Instances} {fs fs' : Frames} (x : Changed s code Of m fs m' fs') where
    -- where both sides stand then
    pub moved : {inst : ℕ} {rest : List Activation} {t : ℕ} {b : Runs} {ks ks' : List Kind} {vals vals' : List Val} {stack stack' : List Value} → OwnersKept Of m → Here s code m fs inst rest t b ks vals stack → StackAt (HandAt s code m) ks' vals' stack' → There s code m' fs' inst t b ks' vals' stack'
    moved {inst} {t = t} {b = b} {ks' = ks'} {vals' = vals'} {stack' = stack'} all here h = record {
      store = x.store;
      parked = parked_changed s code x all here.parked;
      stands = (x.later).stands inst t here.stands;
      own = (x.later).texts inst b.own here.own;
      roomy = here.roomy;
      found = here.found;
      values = stack_later s code m m' x.later ks' vals' stack' h;
      free = suspended_by_same s code x (owner_of b.thunk inst) ∙ here.free;
    }

    -- the pending work then
    pub work_moved : {inst : ℕ} {rest : List Activation} {t : ℕ} {b : Runs} {ks : List Kind} {vals : List Val} {stack : List Value} → Here s code m fs inst rest t b ks vals stack → OwnersOf Of rest → (below : List machine.Activation) (u : ℕ) → TempsKept s code fs fs' inst t b u
        → (w : List Item) (p : ℕ) (before : List Kind) → WorkAt s code m fs (λ v. ChainAt s code m fs rest v below) inst t b u w p before → WorkAt s code m' fs' (λ v. ChainAt s code m' fs' rest v below) inst t b u w p before
    work_moved {inst} {rest} {t} {b} here all below u own w p before k =
        work_later s code m m' x.later inst fs fs' (λ v. ChainAt s code m fs rest v below) (λ v. ChainAt s code m' fs' rest v below)
        (λ v c. chain_changed s code x rest all v below c) t here.stands b u own w p before k
