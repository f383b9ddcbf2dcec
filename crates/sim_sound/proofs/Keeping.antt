-- Each configuration with a rule is sane: the instance that operates lives with its enclosers, and stands at one place of the chains; and the
-- components are well formed.
use Rattle.std.proofs.Common.{◌≡◌, ◌<◌, ℕ, zero, suc, List, [], ◌∷◌, length, Option, Some, None, refl, arith}
use Rattle.sim_base.specs.declared.numbering.DeclNo.{DeclNo}
use Rattle.sim_scope.specs.Source.{Source}
use Rattle.sim_chains.specs.Chains.{times_on}
use Rattle.sim_meaning.specs.Pending.{Activation, Configuration, Instances, owner}
use Rattle.sim_meaning.specs.Sane.{Lives, Other, OwnerOf, OwnersKept, OwnersOf, Sane, SaneOn, lives_alone, lives_inside}
use Rattle.sim_sound.proofs.Cells.{fine_at}
use Rattle.sim_sound.proofs.Chains.{kept_counted, none_there, none_there_kept, own_once}
use Rattle.sim_sound.proofs.Heads.{well_formed}
use Rattle.sim_sound.proofs.Later.{live_less}
use Rattle.sim_sound.proofs.Running.{ChainFine, Fine, Headed, Placed, StoreFine, opens, runs}
use Rattle.sim_sound.proofs.Values.{AllArrays, Enclosed, Present, Takes, Whole, alone, within}

-- each encloser is older
lives_with : (s : Source) (o : AllArrays) (m : Instances) → StoreFine s o m → (n j t : ℕ) (todo : List DeclNo) → j < n → Present s m j t todo → Lives m j
lives_with s o m store zero j t todo lt p = absurd (omega (arith, lt))
lives_with s o m store (suc n) j t todo lt p = by_out (λ e u less whole. lives_with s o m store n e u [] (omega (arith, lt, less)) whole) (fine_at s o m j t todo store p).out
  where
    by_out : ((e u : ℕ) → e < j → Whole s m e u → Lives m e) → Enclosed s o m j (p.now).text (p.now).encloser → Lives m j
    by_out inner (alone is around) = lives_alone p.lives is
    by_out inner (within {e = e} {u = u} is around less near whole) = lives_inside p.lives is (inner e u less whole)

pub fine_sane : (s : Source) (o : AllArrays) (c : Configuration) → Fine s o c → Sane c
fine_sane s o c (opens none empty stand unseen unnoted unmade unscheduled) = by_none c.chain none
  where
    by_none : (chain : List Activation) → chain ≡ [] → SaneOn c.memory chain
    by_none [] e = tt
    by_none (a ∷ rest) e = absurd (cc)
fine_sane s o c (runs store placed headed a) = by_chain c.chain placed headed a
  where
    by_chain : (chain : List Activation) → Placed c.memory chain → Headed c.memory chain → ChainFine s o c.memory chain (Takes None) → SaneOn c.memory chain
    by_chain [] placed headed a = absurd a
    by_chain (x ∷ rest) placed headed a =
        let before : x.instance < length (c.memory).instances = live_less c.memory x.instance (a.here).now (a.here).lives in
        (lives_with s o c.memory store (length (c.memory).instances) x.instance a.of_text a.todo before a.here, stands_alone x rest placed (owner x) refl, well_formed s o c.memory (x ∷ rest) store placed headed)
      where
        -- an instance that operates stands nowhere else
        stands_alone : (x : Activation) (rest : List Activation) → Placed c.memory (x ∷ rest) → (u : Option ℕ) → owner x ≡ u → OwnerOf (λ j. OwnersOf (Other j) rest × OwnersKept (Other j) c.memory) u
        stands_alone x rest placed None is = tt
        stands_alone x rest placed (Some j) is =
            let once = placed.once j in
            let one = own_once j (owner x) is in
            (none_there j rest (omega (arith, once, one)), λ n y e. none_there_kept j y (let less = kept_counted (times_on owner j) (c.memory).standings n y e in omega (arith, once, one, less)))
