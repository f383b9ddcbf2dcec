-- What operates, where its chain stands in the code.
use Rattle.std.proofs.Common.{◌≡◌, List, [], ◌∷◌, ℕ, Some, None, sym, ap, ◌∙◌}
use Rattle.sim_scope.specs.Source.{Source}
use Rattle.sim_code.specs.Code.{CodeOf}
use Rattle.sim_code.specs.Instances.{system_head}
use Rattle.sim_code.specs.Machine.{Frames}
use Rattle.sim_code.specs.Machine as machine
use Rattle.sim_meaning.specs.Pending.{Activation, Do, EndBlock, EndEvaluation, EndLevel, EndObject, EndPrefixed, EndProcedure, EndProgram, Instances, Item, evaluates, owner}
use Rattle.sim_meaning.specs.Sane.{AllName, SaneOn}
use Rattle.sim_relate.proofs.Carried.{behind_op, last_is, owner_if, owner_is, stage_thunk, work_flag, work_some}
use Rattle.sim_relate.proofs.Formed.{formed_as, free_top, others_on}
use Rattle.sim_relate.proofs.Here.{Here}
use Rattle.sim_relate.proofs.Known.{Kind, Runs, is_some, owner_of, site_at}
use Rattle.sim_relate.proofs.Relation.{BeginsAt, NowAt, StandingsAt, StoreAt, TopIs}
use Rattle.sim_relate.proofs.Waiting.{NoValue, Wait, suspended_by}

module _ (s : Source) (code : CodeOf) where
  pub now_flag : (m : Instances) (fs : Frames) (Below : Wait → Type 0) (inst t : ℕ) (b : Runs) (used : ℕ) (w : List Item) (p : ℕ) (ks : List Kind) → NowAt s code m fs Below inst t b used w p ks → evaluates w ≡ is_some b.thunk
  now_flag m fs Below inst t b used [] p ks a = absurd a
  now_flag m fs Below inst t b used (Do op ∷ w) p ks a =
      let c = a.4 in
      behind_op s code w (Do op) (is_some b.thunk) (work_some s code m fs Below inst c.text c.runs c.used w a.1 a.2 a.9)
      (work_flag s code m fs Below inst c.text c.runs c.used w a.1 a.2 a.9 ∙ ap is_some (stage_thunk s code (BeginsAt s code m fs inst (site_at a.3 b a.0)) (site_at a.3 b a.0) op b c p a.1 ks a.2 a.8))
  now_flag m fs Below inst t b used (EndBlock ∷ w) p ks a = let x = a.1 in last_is s code w EndBlock (is_some b.thunk) (x.base).1 (sym (ap is_some (x.base).0))
  now_flag m fs Below inst t b used (EndProcedure v ∷ w) p ks a = let x = a.ends in last_is s code w (EndProcedure v) (is_some b.thunk) (x.base).1 (sym (ap is_some (x.base).0))
  now_flag m fs Below inst t b used (EndProgram ∷ w) p ks a = last_is s code w EndProgram (is_some b.thunk) (a.base).1 (sym (ap is_some (a.base).0))
  now_flag m fs Below inst t b used (EndObject ∷ w) p ks a = let x = a.ends in last_is s code w EndObject (is_some b.thunk) (x.base).1 (sym (ap is_some (x.base).0))
  now_flag m fs Below inst t b used (EndPrefixed ∷ w) p ks a = let x = a.ends in last_is s code w EndPrefixed (is_some b.thunk) (x.base).1 (sym (ap is_some (x.base).0))
  now_flag m fs Below inst t b used (EndEvaluation wanted ∷ w) p ks a = last_is s code w (EndEvaluation wanted) (is_some b.thunk) a.alone (sym (ap is_some a.is_thunk))
  now_flag m fs Below inst t b used (EndLevel k ∷ w) p ks a =
      let c = a.1 in
      behind_op s code w (EndLevel k) (is_some b.thunk) (work_some s code m fs Below inst c.text c.runs c.used w a.0 [] a.3) (work_flag s code m fs Below inst c.text c.runs c.used w a.0 [] a.3 ∙ ap (λ z. is_some z.runs.thunk) (a.2).goes_on)

  module _ (m : Instances) (fs : Frames) (x : Activation) (rest : List Activation) (y : machine.Activation) (Work : (t : ℕ) → Runs → (used p : ℕ) → List Kind → Type 0) (c : TopIs s code m fs x NoValue y Work) (flag : evaluates x.work ≡ is_some c.block.thunk) where
    owned : owner x ≡ owner_of c.block.thunk x.instance
    owned = owner_if s code c.block.thunk (evaluates x.work) x.instance flag

    -- what operates waits for no main component
    pub top_is_free : SaneOn m (x ∷ rest) → suspended_by m (owner_of c.block.thunk x.instance) ≡ None
    top_is_free sane = ap (suspended_by m) (sym owned) ∙ free_top m x rest sane.2

    pub here_top : StoreAt s code m fs → StandingsAt s code m fs → SaneOn m (x ∷ rest) → AllName s m x.values → Here s code m fs x.instance rest c.text c.block c.kinds x.values y.stack
    here_top store parked sane names =
        let alone : c.block.thunk ≡ None → owner x ≡ Some x.instance = λ base. owned ∙ ap (λ z. owner_of z x.instance) base in
        record {
          store = store;
          parked = parked;
          lives = sane.0;
          alone = λ base. (others_on m x rest sane.1 x.instance (alone base)).0;
          kept_alone = λ base. (others_on m x rest sane.1 x.instance (alone base)).1;
          formed = λ w vals same. formed_as (system_head m) m.standings rest x (record { instance = x.instance; work = w; values = vals }) (owner_is s code c.block x.instance w vals same ∙ sym owned) sane.2;
          names = names;
          stands = c.stands;
          own = c.own;
          roomy = c.roomy;
          found = c.found;
          values = c.values;
          free = top_is_free sane;
        }
