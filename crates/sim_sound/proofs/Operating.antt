-- An activation on a chain, as it is looked at where it operates.
use Rattle.std.proofs.Common.{◌≡◌, ℕ, List, [], None, refl}
use Rattle.sim_base.specs.declared.numbering.DeclNo.{DeclNo}
use Rattle.sim_scope.specs.Source.{Source}
use Rattle.sim_meaning.specs.Pending.{Activation, Instances, Item}
use Rattle.sim_sound.proofs.Later.{All, AllCopies, AnySeat, all_apart, fine_later, later_none, work_later}
use Rattle.sim_sound.proofs.Moves.{later_there}
use Rattle.sim_sound.proofs.Ops.{store_with}
use Rattle.sim_sound.proofs.Running.{ChainFine, StoreFine, WorkFine}
use Rattle.sim_sound.proofs.Values.{AllArrays, Kinds, Seat, Waits, at_seat}

-- what is looked at from where it operates
module _ (s : Source) (o : AllArrays) (q : Seat) (m : Instances) where
  same_copies : AllCopies o (at_seat o q)
  same_copies p j d e h a less f = f

  pub store_there : StoreFine s o m → StoreFine s (at_seat o q) m
  store_there store = store_with s o (at_seat o q) m (later_there s o q m) refl refl same_copies store.elements store.members store.simulations store

  below_there : (rest : List Activation) (v : Waits) → ChainFine s o m rest v → ChainFine s (at_seat o q) m rest v
  below_there rest v c = fine_later s o m (at_seat o q) m All (later_there s o q m) AnySeat (λ p j d k ok. same_copies p j d) (λ j k. (refl, refl)) rest (all_apart None rest) (all_apart None rest) v c

  pub work_there : (rest : List Activation) (i t : ℕ) (w : List Item) (todo : List DeclNo) (ks : List Kinds) → WorkFine s (at_seat o q) m (λ v. ChainFine s o m rest v) (rest ≡ []) i t w todo ks → WorkFine s (at_seat o q) m (λ v. ChainFine s (at_seat o q) m rest v) (rest ≡ []) i t w todo ks
  work_there rest i t w todo ks a = work_later s (at_seat o q) m (at_seat o q) m All (later_none s (at_seat o q) m) i t tt refl (λ own. refl) (rest ≡ []) (rest ≡ []) (λ z. z) (λ v. ChainFine s o m rest v) (λ v. ChainFine s (at_seat o q) m rest v) (below_there rest) w todo ks a
