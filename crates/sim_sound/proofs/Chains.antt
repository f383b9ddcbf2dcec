-- What stands on the chains.
use Rattle.std.proofs.Common.{◌≡◌, ◌≢◌, ◌<◌, ◌≤◌, ◌+◌, ℕ, zero, suc, Bool, true, false, List, [], ◌∷◌, ◌⊎◌, inl, inr, ⊎_elim, Option, Some, None, refl, sym, ap, ◌∙◌, subst, arith}
use Rattle.std.proofs.lemmas.Bool.{cases_eq}
use Rattle.std.specs.Prelude.{◌==◌, ◌&&◌, if◌then◌else◌, slice_get}
use Rattle.sim_base.specs.declared.numbering.DeclNo.{DeclNo}
use Rattle.sim_chains.specs.Chains.{is_first, is_instance, once_if, outermost, times_above, times_on}
use Rattle.sim_chains.specs.Components.{AttachedObject, DetachedObject, NoObject, ResumedObject, Standing, TerminatedObject}
use Rattle.sim_chains.specs.WellFormed.{chain_in, over_kept, times_above_in}
use Rattle.sim_chains.proofs.Counts.{above_le, above_le_times, kept_le}
use Rattle.sim_scope.specs.Source.{Source}
use Rattle.sim_code.specs.Instances.{is_given_at_end, system_head}
use Rattle.sim_meaning.specs.Pending.{Activation, Do, EndBlock, EndEvaluation, EndLevel, EndObject, EndPrefixed, EndProcedure, EndProgram, Instances, Item, evaluates, owner, ForParameter, ForPlace, ForValue, Use}
use Rattle.sim_meaning.specs.Sane.{Other, OwnerOf, OwnersKeptOf, OwnersOf}
use Rattle.sim_sound.proofs.Heads.{at_is, stands_as}
use Rattle.sim_sound.proofs.Lists.{equal_numbers, no_some, other_numbers, same_some}
use Rattle.sim_sound.proofs.Later.{kept_seats_map, owner_is, seat_owner, seats_map}
use Rattle.sim_sound.proofs.Running.{AllKeptSeats, AllSeats, ChainFine, ChainOn, Footing, IsObject, KeptSeats, ObjectStands, Operates, SeatOf, StandsFine, StoreFine, WorkFine, evaluation_seat, footing, idle, idle_work, or_below, own_seat, parts, seat_on, Serves}
use Rattle.sim_sound.proofs.Values.{AllArrays, Kinds, Seat, Waits, at_seat}

-- ---- counts

pub here_once : (i j : ℕ) → i ≡ j → once_if (i == j) ≡ 1
here_once i j e = ap once_if (equal_numbers i j e)

pub elsewhere_none : (i j : ℕ) → i ≢ j → once_if (i == j) ≡ 0
elsewhere_none i j e = ap once_if (other_numbers i j e)

-- what an activation is counted as
pub own_once : (i : ℕ) (u : Option ℕ) → u ≡ Some i → once_if (is_instance i u) ≡ 1
own_once i None e = absurd (cc)
own_once i (Some j) e = here_once j i (same_some (Some j) j i refl e)

own_apart : (i : ℕ) (u : Option ℕ) → once_if (is_instance i u) ≡ 0 → u ≡ Some i → ⊥
own_apart i u none is = let one = own_once i u is in omega (arith, one, none)

pub counted_none : (i : ℕ) (u : Option ℕ) → (u ≡ Some i → ⊥) → once_if (is_instance i u) ≡ 0
counted_none i None other = refl
counted_none i (Some j) other = elsewhere_none j i (λ same. other (ap Some same))

counted_own : (i : ℕ) (u : Option ℕ) → (u ≡ Some i) ⊎ (once_if (is_instance i u) ≡ 0)
counted_own i None = inr refl
counted_own i (Some j) = ⊎_elim (λ same. inl (ap Some same)) (λ differ. inr (elsewhere_none j i differ)) (cases_eq j i)

-- ---- seats

-- the seat of what stands first on a chain
abbrev pub first_seat : (floor : Option ℕ) → List Activation → Option Seat
first_seat floor chain = (footing floor chain).seat

-- an evaluation has the seat above that of the activation below it
record Above (x : Option Seat) (q : Seat) : Type 0 where
  lower : Seat
  is : x ≡ Some lower
  owner_same : lower.owner ≡ q.owner
  one_more : q.evaluations ≡ suc lower.evaluations

evaluation_above : (x : Option Seat) (y : Option ℕ) (q : Seat) → evaluation_seat x y ≡ Some q → Above x q
evaluation_above None y q e = absurd (cc)
evaluation_above (Some p) None q e = absurd (cc)
evaluation_above (Some p) (Some j) q e = let is = same_some (evaluation_seat (Some p) (Some j)) _ q refl e in record { lower = p; is = refl; owner_same = ap (λ z. z.owner) is; one_more = sym (ap (λ z. z.evaluations) is) }

pub evaluation_lower : (x : Option Seat) (j : ℕ) (q : Seat) → evaluation_seat x (Some j) ≡ Some q → q.lower ≡ j
evaluation_lower None j q e = absurd (cc)
evaluation_lower (Some p) j q e = sym (ap (λ z. z.lower) (same_some (evaluation_seat (Some p) (Some j)) _ q refl e))

pub own_is : (j : ℕ) (f : Footing) (q : Seat) → seat_on (Some j) f ≡ Some q → own_seat j ≡ q
own_is j f q e = same_some (Some (own_seat j)) (own_seat j) q refl e

pub seat_idle : (a : Activation) (f : Footing) (q : Seat) → seat_on (owner a) f ≡ Some q → owner (idle q a.instance) ≡ owner a
seat_idle a f q e = by_owner (owner a) refl e
  where
    by_owner : (u : Option ℕ) → owner a ≡ u → seat_on u f ≡ Some q → owner (idle q a.instance) ≡ u
    by_owner None is e =
        let x = evaluation_above f.seat f.next q e in
        ap (λ n. if evaluates (idle_work n) then None else Some a.instance) x.one_more
    by_owner (Some j) is e = ap (λ n. if evaluates (idle_work n) then None else Some a.instance) (ap (λ z. z.evaluations) (sym (own_is j f q e))) ∙ ap Some (owner_is a j is)

-- the owner of a seat stands there, or is the floor
seat_counted : (floor : Option ℕ) (chain : List Activation) (q : Seat) → first_seat floor chain ≡ Some q → (0 < times_on owner q.owner chain) ⊎ (floor ≡ Some q.owner)
seat_counted None [] q e = absurd (cc)
seat_counted (Some j) [] q e = inr (ap (λ z. Some z.owner) (same_some (Some (own_seat j)) (own_seat j) q refl e))
seat_counted floor (a ∷ rest) q e = by_owner (owner a) refl e (λ p is. seat_counted floor rest p is)
  where
    by_owner : (u : Option ℕ) → owner a ≡ u → seat_on u (footing floor rest) ≡ Some q → ((p : Seat) → first_seat floor rest ≡ Some p → (0 < times_on owner p.owner rest) ⊎ (floor ≡ Some p.owner)) → (0 < times_on owner q.owner (a ∷ rest)) ⊎ (floor ≡ Some q.owner)
    by_owner None is e go =
        let x = evaluation_above (first_seat floor rest) (footing floor rest).next q e in
        ⊎_elim (λ more. let some : 0 < times_on owner q.owner rest = subst (λ z. 0 < times_on owner z rest) x.owner_same more in inl (omega (arith, some))) (λ at. inr (at ∙ ap Some x.owner_same)) (go x.lower x.is)
    by_owner (Some j) is e go = let one = own_once q.owner (owner a) (is ∙ ap (λ z. Some z.owner) (own_is j (footing floor rest) q e)) in inl (omega (arith, one))

-- and is the first instance of the chain
pub seat_under : (floor : Option ℕ) (chain : List Activation) (q : Seat) → first_seat floor chain ≡ Some q → (footing floor chain).under ≡ Some q.owner
seat_under None [] q e = absurd (cc)
seat_under (Some j) [] q e = ap (λ z. Some z.owner) (same_some (Some (own_seat j)) (own_seat j) q refl e)
seat_under floor (a ∷ rest) q e = by_owner (owner a) e (λ p is. seat_under floor rest p is)
  where
    by_owner : (u : Option ℕ) → seat_on u (footing floor rest) ≡ Some q → ((p : Seat) → first_seat floor rest ≡ Some p → (footing floor rest).under ≡ Some p.owner) → or_below u (footing floor rest).under ≡ Some q.owner
    by_owner None e go = let x = evaluation_above (first_seat floor rest) (footing floor rest).next q e in go x.lower x.is ∙ ap Some x.owner_same
    by_owner (Some j) e go = ap (λ z. Some z.owner) (own_is j (footing floor rest) q e)

pub seats_are : (P : Seat → Type 0) (x : Option Seat) → ((q : Seat) → x ≡ Some q → P q) → SeatOf P x
seats_are P None f = tt
seats_are P (Some q) f = f q refl

-- an instance that stands on no place of a chain owns no seat there
pub none_on : (i : ℕ) (floor : Option ℕ) → (floor ≡ Some i → ⊥) → (chain : List Activation) → times_on owner i chain ≡ 0 → AllSeats (λ q. q.owner ≢ i) floor chain
none_on i floor other [] e = tt
none_on i floor other (a ∷ rest) e =
    (seats_are (λ q. q.owner ≢ i) (first_seat floor (a ∷ rest)) (λ q is same. ⊎_elim (λ more. let some : 0 < times_on owner i (a ∷ rest) = subst (λ z. 0 < times_on owner z (a ∷ rest)) same more in omega (arith, e, some)) (λ at. other (at ∙ ap Some same)) (seat_counted floor (a ∷ rest) q is)), none_on i floor other rest (omega (arith, e)))

pub none_kept : (i j : ℕ) (x : Standing Activation) → ((main : List Activation) → x ≡ NoObject (Some main) → j ≢ i) → times_on owner i (chain_in x) ≡ 0 → KeptSeats (λ q. q.owner ≢ i) j x
none_kept i j (NoObject None) other e = tt
none_kept i j (NoObject (Some chain)) other e = none_on i (Some j) (λ at. other chain refl (same_some (Some j) j i refl at)) chain e
none_kept i j AttachedObject other e = tt
none_kept i j (DetachedObject chain) other e = none_on i None (λ at. no_some None i refl at) chain e
none_kept i j ResumedObject other e = tt
none_kept i j TerminatedObject other e = tt

-- nor has it its own there
abbrev pub OwnOther : ℕ → Seat → Type 0
OwnOther i q = q.evaluations ≡ 0 → q.owner ≢ i

pub none_own : (i : ℕ) (floor : Option ℕ) (chain : List Activation) → times_on owner i chain ≡ 0 → AllSeats (OwnOther i) floor chain
none_own i floor [] e = tt
none_own i floor (a ∷ rest) e =
    (seats_are (OwnOther i) (first_seat floor (a ∷ rest)) (λ q is own same. let one = own_once i (owner a) (seat_owner (owner a) (footing floor rest) q is own ∙ ap Some same) in omega (arith, e, one)), none_own i floor rest (omega (arith, e)))

pub none_own_kept : (i j : ℕ) (x : Standing Activation) → times_on owner i (chain_in x) ≡ 0 → KeptSeats (OwnOther i) j x
none_own_kept i j (NoObject None) e = tt
none_own_kept i j (NoObject (Some chain)) e = none_own i (Some j) chain e
none_own_kept i j AttachedObject e = tt
none_own_kept i j (DetachedObject chain) e = none_own i None chain e
none_own_kept i j ResumedObject e = tt
none_own_kept i j TerminatedObject e = tt

-- it is none of the instances that stand there
other_owner : (i : ℕ) (u : Option ℕ) → (u ≡ Some i → ⊥) → OwnerOf (Other i) u
other_owner i None other = tt
other_owner i (Some j) other = λ same. other (ap Some same)

pub none_there : (i : ℕ) (chain : List Activation) → times_on owner i chain ≡ 0 → OwnersOf (Other i) chain
none_there i [] e = tt
none_there i (a ∷ rest) e = (other_owner i (owner a) (λ is. let one = own_once i (owner a) is in omega (arith, e, one)), none_there i rest (omega (arith, e)))

pub none_there_kept : (i : ℕ) (x : Standing Activation) → times_on owner i (chain_in x) ≡ 0 → OwnersKeptOf (Other i) x
none_there_kept i (NoObject None) e = tt
none_there_kept i (NoObject (Some chain)) e = none_there i chain e
none_there_kept i AttachedObject e = tt
none_there_kept i (DetachedObject chain) e = none_there i chain e
none_there_kept i ResumedObject e = tt
none_there_kept i TerminatedObject e = tt

-- the seats on a chain are others than one that is further above the same instance
seats_below : (k n : ℕ) (chain : List Activation) (p : Seat) → first_seat None chain ≡ Some p → p.owner ≡ k → p.evaluations < n → times_on owner k chain ≤ 1 → AllSeats (λ q. q.owner ≡ k → q.evaluations ≢ n) None chain
seats_below k n [] p e same less once = tt
seats_below k n (a ∷ rest) p e same less once =
    (seats_are (λ q. q.owner ≡ k → q.evaluations ≢ n) (first_seat None (a ∷ rest)) (λ q is at here. let x = ap (λ z. z.evaluations) (same_some (first_seat None (a ∷ rest)) p q e is) in omega (arith, less, here, x)), by_owner (owner a) refl e (λ y is at less once. seats_below k n rest y is at less once))
  where
    by_owner : (u : Option ℕ) → owner a ≡ u → seat_on u (footing None rest) ≡ Some p → ((y : Seat) → first_seat None rest ≡ Some y → y.owner ≡ k → y.evaluations < n → times_on owner k rest ≤ 1 → AllSeats (λ q. q.owner ≡ k → q.evaluations ≢ n) None rest) → AllSeats (λ q. q.owner ≡ k → q.evaluations ≢ n) None rest
    by_owner None is e go = let x = evaluation_above (first_seat None rest) (footing None rest).next p e in let more = x.one_more in go x.lower x.is (x.owner_same ∙ same) (omega (arith, less, more)) (omega (arith, once))
    by_owner (Some j) is e go =
        let one = own_once k (owner a) (is ∙ ap (λ z. Some z.owner) (own_is j (footing None rest) p e) ∙ ap Some same) in
        seats_map (λ q. q.owner ≢ k) (λ q. q.owner ≡ k → q.evaluations ≢ n) (λ q other at here. other at) None rest (none_on k None (λ at. no_some None k refl at) rest (omega (arith, one, once)))

-- a chain that is kept is one of those that are counted
pub kept_counted : (f : List Activation → ℕ) (xs : List (Standing Activation)) (j : ℕ) (x : Standing Activation) → slice_get xs j ≡ Some x → f (chain_in x) ≤ over_kept f xs
kept_counted f [] j x e = absurd (cc)
kept_counted f (y ∷ xs) zero x e = let same : f (chain_in y) ≡ f (chain_in x) = ap (λ z. f (chain_in z)) (same_some (Some y) y x refl e) in omega (arith, same)
kept_counted f (y ∷ xs) (suc j) x e = let less = kept_counted f xs j x e in omega (arith, less)

-- ---- what operates

abbrev pub Elsewhere : Seat → Seat → Type 0
Elsewhere q p = p ≡ q → ⊥

-- the owner of its seat stands there
owner_counted : (b : List (Option ℕ)) (q : Seat) (m : Instances) (i : ℕ) (rest : List Activation) → Operates b q m i rest → 0 < times_on owner q.owner (idle q i ∷ rest)
owner_counted b q m i rest top = ⊎_elim (λ more. more) (λ at. absurd (no_some None q.owner refl at)) (seat_counted None (idle q i ∷ rest) q top.seated)

-- of what stands first on a chain, nothing else on it stands directly above its owner
above_fewer : (x : ℕ) (floor : Option ℕ) (chain : List Activation) (q : Seat) → first_seat floor chain ≡ Some q → (0 < times_on owner q.owner chain) → suc (times_above owner x q.owner chain) ≤ times_on owner q.owner chain
above_fewer x floor [] q e there = absurd (omega (arith, there))
above_fewer x floor (a ∷ rest) q e there = by_owner (owner a) refl e (λ p is more. above_fewer x floor rest p is more)
  where
    by_owner : (u : Option ℕ) → owner a ≡ u → seat_on u (footing floor rest) ≡ Some q → ((p : Seat) → first_seat floor rest ≡ Some p → 0 < times_on owner p.owner rest → suc (times_above owner x p.owner rest) ≤ times_on owner p.owner rest) → suc (times_above owner x q.owner (a ∷ rest)) ≤ times_on owner q.owner (a ∷ rest)
    by_owner None is e go =
        let y = evaluation_above (first_seat floor rest) (footing floor rest).next q e in
        let none : once_if (is_instance x (owner a) && is_first owner q.owner rest) ≡ 0 = ap (λ u. once_if (is_instance x u && is_first owner q.owner rest)) is in
        let not_here : once_if (is_instance q.owner (owner a)) ≡ 0 = ap (λ u. once_if (is_instance q.owner u)) is in
        let more : suc (times_above owner x q.owner rest) ≤ times_on owner q.owner rest = subst (λ z. suc (times_above owner x z rest) ≤ times_on owner z rest) y.owner_same (go y.lower y.is (subst (λ z. 0 < times_on owner z rest) (sym y.owner_same) (omega (arith, there, not_here)))) in
        omega (arith, none, more)
    by_owner (Some j) is e go =
        let one = own_once q.owner (owner a) (is ∙ ap (λ z. Some z.owner) (own_is j (footing floor rest) q e)) in
        let first = above_le owner x q.owner a rest in
        omega (arith, one, first)

-- The owner of what operates keeps no main chain: a resumed object would stand above it.
pub keeps_none : (b : List (Option ℕ)) (q : Seat) (m : Instances) (i : ℕ) (rest : List Activation) → Operates b q m i rest → (main : List Activation) → slice_get m.standings q.owner ≡ Some (NoObject (Some main)) → ⊥
keeps_none b q m i rest top main is =
    let chain = idle q i ∷ rest in
    let k = q.owner in
    let r = (top.headed).main k main (at_is m.standings k (NoObject (Some main)) (NoObject None) is) in
    let p = (top.headed).resumed r.object r.resumed in
    let above : 0 < times_above owner r.object k chain + over_kept (times_above owner r.object k) m.standings = subst (λ z. 0 < times_above_in owner r.object z (parts m chain)) r.its_head p.above in
    let fewer = above_fewer r.object None chain q top.seated (owner_counted b q m i rest top) in
    let kept = kept_le (times_above owner r.object k) (times_on owner k) m.standings (above_le_times owner r.object k) in
    let once = (top.placed).once k in
    omega (arith, above, fewer, kept, once)

-- no other seat is that of what operates
pub others_on : (b : List (Option ℕ)) (q : Seat) (m : Instances) (i : ℕ) (rest : List Activation) → Operates b q m i rest → AllSeats (Elsewhere q) None rest
others_on b q m i rest top = by_owner (owner (idle q i)) refl top.seated
  where
    by_owner : (u : Option ℕ) → owner (idle q i) ≡ u → seat_on u (footing None rest) ≡ Some q → AllSeats (Elsewhere q) None rest
    by_owner None is e =
        let x = evaluation_above (first_seat None rest) (footing None rest).next q e in
        let once = (top.placed).once q.owner in
        let more = x.one_more in
        seats_map (λ p. p.owner ≡ q.owner → p.evaluations ≢ q.evaluations) (Elsewhere q) (λ p other same. other (ap (λ z. z.owner) same) (ap (λ z. z.evaluations) same)) None rest (seats_below q.owner q.evaluations rest x.lower x.is x.owner_same (omega (arith, more)) (omega (arith, once)))
    by_owner (Some j) is e =
        let one = own_once q.owner (owner (idle q i)) (is ∙ ap (λ z. Some z.owner) (own_is j (footing None rest) q e)) in
        let once = (top.placed).once q.owner in
        seats_map (λ p. p.owner ≢ q.owner) (Elsewhere q) (λ p other same. other (ap (λ z. z.owner) same)) None rest (none_on q.owner None (λ at. no_some None q.owner refl at) rest (omega (arith, one, once)))

-- nor has its owner one on another chain
pub owner_kept : (b : List (Option ℕ)) (q : Seat) (m : Instances) (i : ℕ) (rest : List Activation) → Operates b q m i rest → AllKeptSeats (λ p. p.owner ≢ q.owner) m
owner_kept b q m i rest top j x e =
    let there = owner_counted b q m i rest top in
    let once = (top.placed).once q.owner in
    let less = kept_counted (times_on owner q.owner) m.standings j x e in
    none_kept q.owner j x (λ main is same. keeps_none b q m i rest top main (ap (slice_get m.standings) (sym same) ∙ e ∙ ap Some is)) (omega (arith, there, once, less))

pub others_kept : (b : List (Option ℕ)) (q : Seat) (m : Instances) (i : ℕ) (rest : List Activation) → Operates b q m i rest → AllKeptSeats (Elsewhere q) m
others_kept b q m i rest top j x e = kept_seats_map (λ p. p.owner ≢ q.owner) (Elsewhere q) (λ p other same. other (ap (λ z. z.owner) same)) j x (owner_kept b q m i rest top j x e)

-- ---- an instance that operates itself

pub own_top : (b : List (Option ℕ)) (q : Seat) (m : Instances) (i : ℕ) (rest : List Activation) → Operates b q m i rest → q.evaluations ≡ 0 → owner (idle q i) ≡ Some i
own_top b q m i rest top none = ap (λ n. if evaluates (idle_work n) then None else Some i) none

pub own_top_seat : (b : List (Option ℕ)) (q : Seat) (m : Instances) (i : ℕ) (rest : List Activation) → Operates b q m i rest → q.evaluations ≡ 0 → own_seat i ≡ q
own_top_seat b q m i rest top none = own_is i (footing None rest) q (ap (λ u. seat_on u (footing None rest)) (sym (own_top b q m i rest top none)) ∙ top.seated)

counted_top : (b : List (Option ℕ)) (q : Seat) (m : Instances) (i : ℕ) (rest : List Activation) → Operates b q m i rest → q.evaluations ≡ 0 → once_if (is_instance i (owner (idle q i))) ≡ 1
counted_top b q m i rest top none = own_once i (owner (idle q i)) (own_top b q m i rest top none)

pub top_apart : (b : List (Option ℕ)) (q : Seat) (m : Instances) (i : ℕ) (rest : List Activation) → Operates b q m i rest → q.evaluations ≡ 0 → (j : ℕ) → i ≢ j → once_if (is_instance j (owner (idle q i))) ≡ 0
top_apart b q m i rest top none j differ = counted_none j (owner (idle q i)) (λ same. differ (same_some (owner (idle q i)) i j (own_top b q m i rest top none) same))

-- it owns no other seat
pub apart_on : (b : List (Option ℕ)) (q : Seat) (m : Instances) (i : ℕ) (rest : List Activation) → Operates b q m i rest → q.evaluations ≡ 0 → AllSeats (λ p. p.owner ≢ i) None rest
apart_on b q m i rest top none =
    let one = counted_top b q m i rest top none in
    let once = (top.placed).once i in
    none_on i None (λ at. no_some None i refl at) rest (omega (arith, one, once))

pub apart_kept : (b : List (Option ℕ)) (q : Seat) (m : Instances) (i : ℕ) (rest : List Activation) → Operates b q m i rest → q.evaluations ≡ 0 → AllKeptSeats (λ p. p.owner ≢ i) m
apart_kept b q m i rest top none = subst (λ z. AllKeptSeats (λ p. p.owner ≢ z) m) (ap (λ z. z.owner) (sym (own_top_seat b q m i rest top none))) (owner_kept b q m i rest top)

-- ---- a resumed object and its head

-- a resumed object that operates, directly above its head
pub record AboveHead (m : Instances) (i : ℕ) (rest : List Activation) : Type 0 where
  pub main : List Activation
  pub head : Activation
  pub below : List Activation
  pub is : rest ≡ head ∷ below
  pub its_head : owner head ≡ Some (system_head m i)
  pub keeps : slice_get m.standings (system_head m i) ≡ Some (NoObject (Some main))

at_most_upper : (b c : Bool) → once_if (b && c) ≤ once_if b
at_most_upper true true = omega arith
at_most_upper true false = omega arith
at_most_upper false c = omega arith

none_lower : (b : Bool) → once_if (b && false) ≡ 0
none_lower true = refl
none_lower false = refl

only_lower : (b c : Bool) → once_if c ≡ 0 → once_if (b && c) ≡ 0
only_lower true c e = e
only_lower false c e = refl

-- what stands directly above another is counted where it stands
upper_counted : (x y : ℕ) (chain : List Activation) → times_above owner x y chain ≤ times_on owner x chain
upper_counted x y [] = omega arith
upper_counted x y (a ∷ rest) =
    let more = upper_counted x y rest in
    let here = at_most_upper (is_instance x (owner a)) (is_first owner y rest) in
    omega (arith, more, here)

pub above_head : (b : List (Option ℕ)) (q : Seat) (m : Instances) (i : ℕ) (rest : List Activation) → Operates b q m i rest → q.evaluations ≡ 0 → slice_get m.standings i ≡ Some ResumedObject → AboveHead m i rest
above_head b q m i rest top none is =
    let p = (top.headed).resumed i (at_is m.standings i ResumedObject (NoObject None) is) in
    let one = counted_top b q m i rest top none in
    let once = (top.placed).once i in
    by_rest rest (omega (arith, one, once)) p.main (stands_as m.standings (system_head m i) (NoObject (Some p.main)) p.keeps (λ e. cc)) p.above
  where
    by_rest : (rest : List Activation) → times_on owner i rest + over_kept (times_on owner i) m.standings ≤ 0 → (main : List Activation) → slice_get m.standings (system_head m i) ≡ Some (NoObject (Some main)) → 0 < times_above owner i (system_head m i) (idle q i ∷ rest) + over_kept (times_above owner i (system_head m i)) m.standings → AboveHead m i rest
    by_rest [] none main keeps above =
        let kept = kept_le (times_above owner i (system_head m i)) (times_on owner i) m.standings (upper_counted i (system_head m i)) in
        let first = none_lower (is_instance i (owner (idle q i))) in
        absurd (omega (arith, none, above, kept, first))
    by_rest (h ∷ below) none main keeps above =
        ⊎_elim
        (λ same. record { main = main; head = h; below = below; is = refl; its_head = same; keeps = keeps })
        (λ differ.
        let kept = kept_le (times_above owner i (system_head m i)) (times_on owner i) m.standings (upper_counted i (system_head m i)) in
        let further = upper_counted i (system_head m i) (h ∷ below) in
        let first : once_if (is_instance i (owner (idle q i)) && is_instance (system_head m i) (owner h)) ≡ 0 = only_lower (is_instance i (owner (idle q i))) (is_instance (system_head m i) (owner h)) differ in
        absurd (omega (arith, none, above, kept, further, first)))
        (counted_own (system_head m i) (owner h))

-- ---- what is below

-- what is below is known from what ends the pending work
serves_below : (s : Source) (Below : Waits → Type 0) (wanted : Use) (x : Kinds) → Serves s Below wanted x → (v : Waits) × Below v
serves_below s Below (ForParameter number line) x a = (_, a.below)
serves_below s Below (ForValue class line) x a = (_, a.4)
serves_below s Below (ForPlace value_too line) x a = (_, a.4)

pub ends_with : (s : Source) (o : AllArrays) (m : Instances) (Below : Waits → Type 0) (Outermost : Type 0) (j t : ℕ) (w : List Item) (todo : List DeclNo) (before : List Kinds) → WorkFine s o m Below Outermost j t w todo before → ((v : Waits) × Below v) ⊎ Outermost
ends_with s o m Below Outermost j t [] todo before a = absurd a
ends_with s o m Below Outermost j t (Do op ∷ w) todo before a = ends_with s o m Below Outermost j t w a.0 a.1 a.3
ends_with s o m Below Outermost j t (EndBlock ∷ w) todo before a = inl (_, a.1)
ends_with s o m Below Outermost j t (EndProcedure leaves ∷ w) todo before a = inl (_, a.8)
ends_with s o m Below Outermost j t (EndLevel k ∷ w) todo before a = ends_with s o m Below Outermost j t w todo before a
ends_with s o m Below Outermost j t (EndObject ∷ w) todo before a = inl (a.4, a.6)
ends_with s o m Below Outermost j t (EndPrefixed ∷ w) todo before a = inl (_, a.1)
ends_with s o m Below Outermost j t (EndProgram ∷ w) todo before a = inr a.1
ends_with s o m Below Outermost j t (EndEvaluation wanted ∷ w) todo before a = inl (serves_below s Below wanted a.2 a.4)

-- ---- what was entered on an instance stands on it

first_counted : (floor : Option ℕ) (i : ℕ) (chain : List Activation) → (footing floor chain).under ≡ Some i → (0 < times_on owner i chain) ⊎ (floor ≡ Some i)
first_counted floor i [] e = inr e
first_counted floor i (a ∷ rest) e = by_owner (owner a) refl e (λ f. first_counted floor i rest f)
  where
    by_owner : (u : Option ℕ) → owner a ≡ u → or_below u (footing floor rest).under ≡ Some i → ((footing floor rest).under ≡ Some i → (0 < times_on owner i rest) ⊎ (floor ≡ Some i)) → (0 < times_on owner i (a ∷ rest)) ⊎ (floor ≡ Some i)
    by_owner None is e go = ⊎_elim (λ more. inl (omega (arith, more))) (λ at. inr at) (go e)
    by_owner (Some j) is e go = let one = own_once i (owner a) (is ∙ e) in inl (omega (arith, one))

pub last_counted : (i : ℕ) (chain : List Activation) → outermost owner chain ≡ Some i → 0 < times_on owner i chain
last_counted i [] e = absurd (cc)
last_counted i (a ∷ []) e = let one = own_once i (owner a) e in omega (arith, one)
last_counted i (a ∷ b ∷ rest) e = let more = last_counted i (b ∷ rest) e in omega (arith, more)

one_of_two : (a b : ℕ) → 0 < a + b → (0 < a) ⊎ (0 < b)
one_of_two zero b e = inr (omega (arith, e))
one_of_two (suc a) b e = inl (omega arith)

module _ (s : Source) (o : AllArrays) (m : Instances) (i j : ℕ) (ends : is_given_at_end m j ≡ true) (on : slice_get o.beneath j ≡ Some (Some i)) where
  -- or it is the floor below the chain
  entered_on : (floor : Option ℕ) (Ground : Waits → Type 0) (Outermost : List Activation → Type 0) → ((rest : List Activation) → Outermost rest → rest ≡ []) → (chain : List Activation) (v : Waits) → ChainOn s o m floor Ground Outermost chain v → 0 < times_on owner j chain → (0 < times_on owner i chain) ⊎ (floor ≡ Some i)
  entered_on floor Ground Outermost last [] v c there = absurd (omega (arith, there))
  entered_on floor Ground Outermost last (a ∷ rest) v c there = ⊎_elim here (further (λ v b more. entered_on floor Ground Outermost last rest v b more)) (counted_own j (owner a))
    where
      one_higher : (0 < times_on owner i rest) ⊎ (floor ≡ Some i) → (0 < times_on owner i (a ∷ rest)) ⊎ (floor ≡ Some i)
      one_higher under = ⊎_elim (λ more. inl (omega (arith, more))) (λ is. inr is) under

      here : owner a ≡ Some j → (0 < times_on owner i (a ∷ rest)) ⊎ (floor ≡ Some i)
      here same =
          let is : (footing floor rest).under ≡ Some i = same_some (slice_get o.beneath j) (footing floor rest).under (Some i) (c.stands_on j same ends) on in
          one_higher (first_counted floor i rest is)

      inside : ((v : Waits) → ChainOn s o m floor Ground Outermost rest v → 0 < times_on owner j rest → (0 < times_on owner i rest) ⊎ (floor ≡ Some i)) → 0 < times_on owner j rest → ((v : Waits) × ChainOn s o m floor Ground Outermost rest v) ⊎ Outermost rest → (0 < times_on owner i rest) ⊎ (floor ≡ Some i)
      inside go more (inl b) = go b.0 b.1 more
      inside go more (inr b) = let none = ap (times_on owner j) (last rest b) in absurd (omega (arith, more, none))

      further : ((v : Waits) → ChainOn s o m floor Ground Outermost rest v → 0 < times_on owner j rest → (0 < times_on owner i rest) ⊎ (floor ≡ Some i)) → once_if (is_instance j (owner a)) ≡ 0 → (0 < times_on owner i (a ∷ rest)) ⊎ (floor ≡ Some i)
      further go none =
          one_higher (inside go (omega (arith, there, none)) (ends_with s (at_seat o c.seat) m (λ v. ChainOn s o m floor Ground Outermost rest v) (Outermost rest) a.instance c.of_text a.work c.todo c.expected c.goes))

  abbrev KeepsMain : Type 0
  KeepsMain = (main : List Activation) × (slice_get m.standings i ≡ Some (NoObject (Some main)))

  entered_on_kept : (k : ℕ) (x : Standing Activation) → slice_get m.standings k ≡ Some x → StandsFine s o m k x → 0 < times_on owner j (chain_in x) → (0 < times_on owner i (chain_in x)) ⊎ KeepsMain
  entered_on_kept k (NoObject None) is f there = absurd (omega (arith, there))
  entered_on_kept k (NoObject (Some chain)) is f there = ⊎_elim (λ more. inl more) (λ at. inr (chain, ap (slice_get m.standings) (sym (same_some (Some k) k i refl at)) ∙ is)) (entered_on (Some k) _ _ (λ rest a. absurd a) chain _ f there)
  entered_on_kept k AttachedObject is f there = absurd (omega (arith, there))
  entered_on_kept k (DetachedObject chain) is f there = ⊎_elim (λ more. inl more) (λ at. absurd (no_some None i refl at)) (entered_on None _ _ (λ rest a. absurd a) chain _ f.fine there)
  entered_on_kept k ResumedObject is f there = absurd (omega (arith, there))
  entered_on_kept k TerminatedObject is f there = absurd (omega (arith, there))

  entered_on_some : (xs : List (Standing Activation)) → ((k : ℕ) (x : Standing Activation) → slice_get xs k ≡ Some x → (n : ℕ) × (slice_get m.standings n ≡ Some x) × StandsFine s o m n x) → 0 < over_kept (times_on owner j) xs → (0 < over_kept (times_on owner i) xs) ⊎ KeepsMain
  entered_on_some [] f there = absurd (omega (arith, there))
  entered_on_some (x ∷ xs) f there =
      let y = f zero x refl in
      ⊎_elim
      (λ here. ⊎_elim (λ more. inl (omega (arith, more))) (λ keeps. inr keeps) (entered_on_kept y.0 x y.1 y.2 here))
      (λ later. ⊎_elim (λ more. inl (omega (arith, more))) (λ keeps. inr keeps) (entered_on_some xs (λ k z e. f (suc k) z e) later))
      (one_of_two (times_on owner j (chain_in x)) (over_kept (times_on owner j) xs) there)

  -- so nothing was entered on what operates
  pub free : (q : Seat) (rest : List Activation) → StoreFine s o m → Operates o.beneath q m i rest → q.evaluations ≡ 0 → (v : Waits) → ChainFine s o m rest v → j ≢ i → ⊥
  free q rest store top own v c differ =
      let one = counted_top o.beneath q m i rest top own in
      let none : once_if (is_instance j (owner (idle q i))) ≡ 0 = counted_none j (owner (idle q i)) (λ same. differ (same_some (owner (idle q i)) j i same (own_top o.beneath q m i rest top own))) in
      let once = (top.placed).once i in
      let there = (top.placed).all j ends in
      let seat = own_top_seat o.beneath q m i rest top own in
      ⊎_elim
      (λ below. ⊎_elim (λ more. omega (arith, one, once, more)) (λ at. no_some None i refl at) (entered_on None _ _ (λ rest e. e) rest v c below))
      (λ kept. ⊎_elim (λ more. omega (arith, one, once, more)) (λ keeps. keeps_none o.beneath q m i rest top keeps.0 (ap (λ z. slice_get m.standings z.owner) (sym seat) ∙ keeps.1)) (entered_on_some m.standings (λ k x e. (k, e, store.kept k x e)) kept))
      (one_of_two (times_on owner j rest) (over_kept (times_on owner j) m.standings) (omega (arith, there, none)))

-- ---- an object that operates is attached or resumed

pub stands_on_top : (s : Source) (o : AllArrays) (b : List (Option ℕ)) (q : Seat) (m : Instances) (i : ℕ) (rest : List Activation) → StoreFine s o m → Operates b q m i rest → q.evaluations ≡ 0 → ObjectStands m i → (slice_get m.standings i ≡ Some AttachedObject) ⊎ (slice_get m.standings i ≡ Some ResumedObject)
stands_on_top s o b q m i rest store top own stands = by_standing stands.0 stands.1 stands.2
  where
    by_standing : (x : Standing Activation) → slice_get m.standings i ≡ Some x → IsObject x → (slice_get m.standings i ≡ Some AttachedObject) ⊎ (slice_get m.standings i ≡ Some ResumedObject)
    by_standing AttachedObject e a = inl e
    by_standing ResumedObject e a = inr e
    by_standing TerminatedObject e a = absurd (let none = (top.placed).ended i e in let one = counted_top b q m i rest top own in omega (arith, none, one))
    by_standing (DetachedObject kept) e a =
        let last = last_counted i kept (store.kept i (DetachedObject kept) e).last in
        let counted = kept_counted (times_on owner i) m.standings i (DetachedObject kept) e in
        let once = (top.placed).once i in
        let one = counted_top b q m i rest top own in
        absurd (omega (arith, last, counted, once, one))
    by_standing (NoObject z) e a = absurd a
