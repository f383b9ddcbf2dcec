-- The simulation blocks stay so, where frames and memory change.
use Rattle.std.proofs.Common.{◌≡◌, inl, inr, ℕ, zero, suc, ◌+◌, ◌<◌, ◌≤◌, List, [], ◌∷◌, ◌++◌, length, length-append, cond, sym, subst, refl, ap, ◌∙◌, arith}
use Rattle.std.proofs.lemmas.Option.{same_Some}
use Rattle.std.specs.Prelude.{pos, Bool, true, false, not, ◌||◌, ◌==◌, nat_lt, is_some, map, IfOk, Result, Ok, Err, Some, None, slice_get, slice_index_or, slice_set}
use Rattle.std.specs.Option.{option_map}
use Rattle.std.specs.List.{list_any, position, position_or_len}
use Rattle.notices.specs.Scheduling.{main}
use Rattle.simset.specs.Instances.{linkage_of}
use Rattle.sim_values.specs.declared.value.FrameRef.{FrameRef}
use Rattle.sim_code.specs.Machine.{Frames}
use Rattle.sim_code.specs.Outcome.{Simulation, World}
use Rattle.sim_code.specs.Simulations.{begun, is_of_block, is_simulated, joined, joined_at, located, with_place, with_process}
use Rattle.frame_arena.specs.declared.frames.Frame.{Frame}
use Rattle.frame_arena.specs.Frames.{Leads}
use Rattle.object_machine.specs.declared.simulated.Simulated.{Simulated}
use Rattle.object_machine.specs.Enrolling.{AllBelow, AllReach, Rises, stamps}
use Rattle.object_machine.specs.Simulating.{AllAbove, AllEarlier, IsEarlier, IsSimulated, Simulating, blocks_of, simulation_of}
use Rattle.object_machine.proofs.Searching.{LiesIn, lies_before}
use Rattle.object_machine.proofs.OneMore.{found_among, one_more_reach, one_more_rises, one_more_stamp}

module _ (fs fs2 : List Frame) (m m2 : Frames) where
  -- where all references that led lead
  simulated_later : (s : Simulated) → ((f : FrameRef) → Leads fs m f → Leads fs2 m2 f) → IsSimulated fs m s → IsSimulated fs2 m2 s
  simulated_later s leads e = record {
    block = leads s.block e.block;
    lead = λ x f there. leads f (e.lead x f there);
    rises = e.rises;
    above = e.above;
    each = e.each;
    room = e.room;
    begun = e.begun;
  }

  module _ (k : List Simulated) (o : List Simulation) where
    pub simulating_later : ((f : FrameRef) → Leads fs m f → Leads fs2 m2 f) → Simulating fs m k o → Simulating fs2 m2 k o
    simulating_later leads e = record { is = e.is; rises = e.rises; each = λ x s there. simulated_later s leads (e.each x s there) }

    -- the same with other parts that have the same blocks
    pub simulating_in : (k2 : List Simulated) → k2 ≡ k → ((f : FrameRef) → Leads fs m f → Leads fs2 m2 f) → Simulating fs m k o → Simulating fs2 m2 k2 o
    simulating_in k2 same leads e = subst (λ x. Simulating fs2 m2 x o) (sym same) (simulating_later leads e)

-- where none was entered
pub simulating_none : (fs : List Frame) (m : Frames) (k : List Simulated) → k ≡ [] → Simulating fs m k []
simulating_none fs m k e = subst (λ k. Simulating fs m k []) (sym e) (record { is = refl; rises = λ x y a b less i j. absurd (cc); each = λ x s there. absurd (cc) })

-- ---- where a block is found

lt_behind : (b : Bool) (n k : ℕ) → nat_lt n k ≡ b → nat_lt (1 + n) (suc k) ≡ b
lt_behind true n k e = grind (arith, e)
lt_behind false n k e = grind (arith, e)

-- whether something passes a test is whether it stands somewhere
module _ {X : Type 0} (f : X → Bool) where
  in_front : (b : Bool) (n k : ℕ) → nat_lt (cond (not b) (1 + n) 0) (suc k) ≡ (b || nat_lt n k)
  in_front true n k = grind arith
  in_front false n k = lt_behind (nat_lt n k) n k refl

  found_somewhere : (xs : List X) → list_any f xs ≡ nat_lt (position_or_len f xs) (length xs)
  found_somewhere [] = refl
  found_somewhere (x ∷ xs) = ap (λ b. f x || b) (found_somewhere xs) ∙ sym (in_front (f x) (position_or_len f xs) (length xs))

is_some_if : (b : Bool) (n : ℕ) → is_some (cond b (Some n) None) ≡ b
is_some_if true n = refl
is_some_if false n = refl

same_places : (b : ℕ) (xs : List Simulated) → position_or_len (is_of_block b) (map simulation_of xs) ≡ position_or_len (λ k. k == b) (stamps (blocks_of xs))
same_places b [] = refl
same_places b (s ∷ xs) = ap (λ n. cond (not (s.block.stamp == b)) (1 + n) 0) (same_places b xs)

blocks_count : (xs : List Simulated) → length (stamps (blocks_of xs)) ≡ length xs
blocks_count [] = refl
blocks_count (s ∷ xs) = ap suc (blocks_count xs)

simulations_count : (xs : List Simulated) → length (map simulation_of xs) ≡ length xs
simulations_count [] = refl
simulations_count (s ∷ xs) = ap suc (simulations_count xs)

same_position : (b : ℕ) (xs : List Simulated) → position (is_of_block b) (map simulation_of xs) ≡ linkage_of (stamps (blocks_of xs)) b
same_position b xs =
    ap (λ n. cond (nat_lt n (length (map simulation_of xs))) (Some n) None) (same_places b xs)
    ∙ ap (λ k. cond (nat_lt (position_or_len (λ k. k == b) (stamps (blocks_of xs))) k) (Some (position_or_len (λ k. k == b) (stamps (blocks_of xs)))) None) (simulations_count xs ∙ sym (blocks_count xs))

pub located_by : (b : ℕ) (xs : List Simulated) → with_place (map simulation_of xs) (linkage_of (stamps (blocks_of xs)) b) ≡ located (map simulation_of xs) b
unfolding located
located_by b xs = ap (with_place (map simulation_of xs)) (sym (same_position b xs))

pub simulated_by : (b : ℕ) (xs : List Simulated) → is_some (linkage_of (stamps (blocks_of xs)) b) ≡ is_simulated (map simulation_of xs) b
simulated_by b xs =
    ap is_some (sym (same_position b xs))
    ∙ is_some_if (nat_lt (position_or_len (is_of_block b) (map simulation_of xs)) (length (map simulation_of xs))) (position_or_len (is_of_block b) (map simulation_of xs))
    ∙ sym (found_somewhere (is_of_block b) (map simulation_of xs))

pub block_index : (xs : List Simulated) (x n : ℕ) (d : Simulated) → x < length xs → (slice_index_or xs x d).block.stamp ≡ n → slice_get (stamps (blocks_of xs)) x ≡ Some n
block_index [] x n d h e = absurd (let no_way : ⊥ = omega (arith, h) in no_way)
block_index (s ∷ xs) zero n d h e = ap Some e
block_index (s ∷ xs) (suc x) n d h e = block_index xs x n d (omega (arith, h)) e

-- the half of the range before a block with a higher number
pub lies_lower_block : (xs : List Simulated) (n low high middle : ℕ) (d : Simulated) → Rises (stamps (blocks_of xs)) → ((slice_index_or xs middle d).block.stamp ≡ n → ⊥) → n ≤ (slice_index_or xs middle d).block.stamp → middle < length xs →
    LiesIn (stamps (blocks_of xs)) n low high → LiesIn (stamps (blocks_of xs)) n low middle
lies_lower_block xs n low high middle d rises other at_most within lies =
    let there = (slice_index_or xs middle d).block.stamp in
    let less : n < there = grind (arith, other, at_most) in
    lies_before (stamps (blocks_of xs)) rises n there middle (block_index xs middle there d within refl) low high less lies

-- ---- one process more

above_more : (n j : ℕ) (ns : List ℕ) → AllAbove n ns → n < j → AllAbove n (ns ++ j ∷ [])
above_more n j ns all less x a there = elim (found_among ns j a x there) [ inl h ↦ all x a h | inr h ↦ subst (λ z. n < z) h.1 less ]

pub process_more : (fs : List Frame) (m : Frames) (s s2 : Simulated) (f : FrameRef) → s2.block ≡ s.block → s2.processes.items ≡ s.processes.items ++ f ∷ [] → s2.ended.items ≡ s.ended.items ++ false ∷ [] → s2.sim.notices ≡ s.sim.notices →
    length s.processes.items + 2 ≤ s2.sim.room → IsSimulated fs m s → AllBelow f.stamp (stamps s.processes.items) → s.block.stamp < f.stamp → Leads fs m f → IsSimulated fs m s2
process_more fs m s s2 f block processes ended notices room e all less here =
    let ns = ap stamps processes ∙ one_more_stamp s.processes.items f in
    let count : length s2.processes.items ≡ length s.processes.items + 1 = ap length processes ∙ length-append s.processes.items (f ∷ []) in
    record {
      block = subst (Leads fs m) (sym block) e.block;
      lead = subst (AllReach fs m) (sym processes) (one_more_reach fs m s.processes.items f e.lead here);
      rises = subst Rises (sym ns) (one_more_rises (stamps s.processes.items) f.stamp e.rises all);
      above = subst (λ b. AllAbove b.stamp (stamps s2.processes.items)) (sym block) (subst (AllAbove s.block.stamp) (sym ns) (above_more s.block.stamp f.stamp (stamps s.processes.items) e.above less));
      each = ap length ended ∙ length-append s.ended.items (false ∷ []) ∙ ap (λ n. n + 1) e.each ∙ sym count;
      room = omega (arith, count, room);
      begun = λ none. e.begun (sym notices ∙ none);
    }

-- ---- one block is another, or is more

blocks_set : (xs : List Simulated) (x : ℕ) (s s2 : Simulated) → slice_get xs x ≡ Some s → s2.block ≡ s.block → blocks_of (slice_set xs x s2) ≡ blocks_of xs
blocks_set [] x s s2 h e = refl
blocks_set (y ∷ ys) zero s s2 h e = ap (λ f. f ∷ blocks_of ys) (e ∙ ap (λ z. z.block) (sym (same_Some _ _ h)))
blocks_set (y ∷ ys) (suc x) s s2 h e = ap (λ l. y.block ∷ l) (blocks_set ys x s s2 h e)

simulations_set : (xs : List Simulated) (x : ℕ) (s2 : Simulated) → map simulation_of (slice_set xs x s2) ≡ slice_set (map simulation_of xs) x (simulation_of s2)
simulations_set [] x s2 = refl
simulations_set (y ∷ ys) zero s2 = refl
simulations_set (y ∷ ys) (suc x) s2 = ap (λ l. simulation_of y ∷ l) (simulations_set ys x s2)

all_set : (P : Simulated → Type 0) (xs : List Simulated) (x : ℕ) (s2 : Simulated) → P s2 → ((k : ℕ) (s : Simulated) → slice_get xs k ≡ Some s → P s) → (k : ℕ) (s : Simulated) → slice_get (slice_set xs x s2) k ≡ Some s → P s
all_set P [] x s2 p all k s there = all k s there
all_set P (y ∷ ys) zero s2 p all zero s there = subst P (same_Some _ _ there) p
all_set P (y ∷ ys) zero s2 p all (suc k) s there = all (suc k) s there
all_set P (y ∷ ys) (suc x) s2 p all zero s there = all zero s there
all_set P (y ∷ ys) (suc x) s2 p all (suc k) s there = all_set P ys x s2 p (λ k s h. all (suc k) s h) k s there

one_more_simulation : (xs : List Simulated) (s : Simulated) → map simulation_of (xs ++ s ∷ []) ≡ map simulation_of xs ++ simulation_of s ∷ []
one_more_simulation [] s = refl
one_more_simulation (y ∷ ys) s = ap (λ l. simulation_of y ∷ l) (one_more_simulation ys s)

one_more_block : (xs : List Simulated) (s : Simulated) → blocks_of (xs ++ s ∷ []) ≡ blocks_of xs ++ s.block ∷ []
one_more_block [] s = refl
one_more_block (y ∷ ys) s = ap (λ l. y.block ∷ l) (one_more_block ys s)

module _ (fs : List Frame) (m : Frames) (xs : List Simulated) (o : List Simulation) where
  pub simulating_set : (x : ℕ) (s s2 : Simulated) → Simulating fs m xs o → slice_get xs x ≡ Some s → s2.block ≡ s.block → IsSimulated fs m s2 → Simulating fs m (slice_set xs x s2) (slice_set o x (simulation_of s2))
  simulating_set x s s2 e there same is = record {
    is = ap (λ l. slice_set l x (simulation_of s2)) e.is ∙ sym (simulations_set xs x s2);
    rises = subst (λ l. Rises (stamps l)) (sym (blocks_set xs x s s2 there same)) e.rises;
    each = all_set (IsSimulated fs m) xs x s2 is e.each;
  }

  -- one more
  pub simulating_more : (s : Simulated) → Simulating fs m xs o → AllBelow s.block.stamp (stamps (blocks_of xs)) → IsSimulated fs m s → Simulating fs m (xs ++ s ∷ []) (o ++ simulation_of s ∷ [])
  simulating_more s e all is = record {
    is = ap (λ l. l ++ simulation_of s ∷ []) e.is ∙ sym (one_more_simulation xs s);
    rises = subst (λ l. Rises (stamps l)) (sym (one_more_block xs s)) (subst Rises (sym (one_more_stamp (blocks_of xs) s.block)) (one_more_rises (stamps (blocks_of xs)) s.block.stamp e.rises all));
    each = λ x y there. elim (found_among xs s y x there) [ inl h ↦ e.each x y h | inr h ↦ subst (IsSimulated fs m) h.1 is ];
  }

-- ---- an object that joins its block

pub then_ok : {A E : Type 0} (r : Result A E) (P R : A → Type 0) → IfOk r P → ((u : A) → P u → R u) → IfOk r R
then_ok (Ok u) P R p f = f u p
then_ok (Err e) P R p f = tt

pub both_ok : {A E : Type 0} (r : Result A E) (P Q R : A → Type 0) → IfOk r P → IfOk r Q → ((u : A) → P u → Q u → R u) → IfOk r R
both_ok (Ok u) P Q R p q f = f u p q
both_ok (Err e) P Q R p q f = tt

get_simulation : (xs : List Simulated) (x : ℕ) (s : Simulated) → slice_get xs x ≡ Some s → slice_get (map simulation_of xs) x ≡ Some (simulation_of s)
get_simulation [] x s e = absurd (cc)
get_simulation (y ∷ ys) zero s e = ap (λ z. Some (simulation_of z)) (same_Some _ _ e)
get_simulation (y ∷ ys) (suc x) s e = get_simulation ys x s e

pub earlier_at : (fs : List Frame) (m : Frames) (xs : List Simulated) (o : List Simulation) (n place : ℕ) (s : Simulated) → Simulating fs m xs o → AllEarlier n o → slice_get xs place ≡ Some s → IsEarlier n (simulation_of s)
earlier_at fs m xs o n place s e all there = all place (simulation_of s) (ap (λ l. slice_get l place) e.is ∙ get_simulation xs place s there)

module _ (fs : List Frame) (m : Frames) (xs : List Simulated) (o : World) (b j : ℕ) (e : Simulating fs m xs o.simulations) where
  pub joins_at : (place : ℕ) (s s2 : Simulated) → with_place (map simulation_of xs) (Some place) ≡ located (map simulation_of xs) b → slice_get xs place ≡ Some s → s2.block ≡ s.block → simulation_of s2 ≡ with_process j (simulation_of s) → IsSimulated fs m s2 →
      Simulating fs m (slice_set xs place s2) (joined true b j o).simulations
  joins_at place s s2 h there block process is =
      let at : located o.simulations b ≡ Some (place, simulation_of s) = ap (λ l. located l b) e.is ∙ sym h ∙ ap (option_map (λ x. (place, x))) (get_simulation xs place s there) in
      subst (λ q. Simulating fs m (slice_set xs place s2) (joined_at j o q).simulations) (sym at)
      (subst (λ z. Simulating fs m (slice_set xs place s2) (slice_set o.simulations place z)) process (simulating_set fs m xs o.simulations place s s2 e there block is))

  pub joins_nowhere : with_place (map simulation_of xs) None ≡ located (map simulation_of xs) b → Simulating fs m xs (joined true b j o).simulations
  joins_nowhere h =
      let at : located o.simulations b ≡ None = ap (λ l. located l b) e.is ∙ sym h in
      subst (λ q. Simulating fs m xs (joined_at j o q).simulations) (sym at) e

-- ---- a block that begins

blocks_below : (n : ℕ) (xs : List Simulated) → AllEarlier n (map simulation_of xs) → AllBelow n (stamps (blocks_of xs))
blocks_below n [] all x a there = absurd (cc)
blocks_below n (s ∷ xs) all zero a there = subst (λ z. z < n) (same_Some _ _ there) (all 0 (simulation_of s) refl).block
blocks_below n (s ∷ xs) all (suc x) a there = blocks_below n xs (λ k y h. all (suc k) y h) x a there

pub begins : (fs : List Frame) (m : Frames) (xs : List Simulated) (o : List Simulation) (s : Simulated) (f : FrameRef) → s.block ≡ f → s.processes.items ≡ [] → s.ended.items ≡ [] →
    s.sim.notices ≡ record { time = pos 0; process = record { 0 = main } } ∷ [] → 0 < s.sim.room → Simulating fs m xs o → AllEarlier f.stamp o → Leads fs m f → Simulating fs m (xs ++ s ∷ []) (o ++ begun f.stamp ∷ [])
begins fs m xs o s f block processes ended notices room e all here =
    let none = ap stamps processes in
    let same : simulation_of s ≡ begun f.stamp = ap (λ b. record { block = b.stamp; processes = stamps s.processes.items; ended = s.ended.items; notices = s.sim.notices }) block
    ∙ ap (λ l. record { block = f.stamp; processes = l; ended = s.ended.items; notices = s.sim.notices }) none
    ∙ ap (λ l. record { block = f.stamp; processes = []; ended = l; notices = s.sim.notices }) ended
    ∙ ap (λ l. record { block = f.stamp; processes = []; ended = []; notices = l }) notices in
    let below : AllBelow f.stamp (stamps (blocks_of xs)) = blocks_below f.stamp xs (subst (AllEarlier f.stamp) e.is all) in
    subst (λ z. Simulating fs m (xs ++ s ∷ []) (o ++ z ∷ [])) same (simulating_more fs m xs o s e (subst (λ b. AllBelow b.stamp (stamps (blocks_of xs))) (sym block) below) (record {
      block = subst (Leads fs m) (sym block) here;
      lead = subst (AllReach fs m) (sym processes) (λ x g there. absurd (cc));
      rises = subst Rises (sym none) (λ x y a b less i j. absurd (cc));
      above = subst (AllAbove s.block.stamp) (sym none) (λ x a there. absurd (cc));
      each = ap length ended ∙ sym (ap length processes);
      room = subst (λ l. length l < s.sim.room) (sym processes) room;
      begun = subst (λ l. l ≡ [] → ⊥) (sym notices) (λ none. absurd (cc));
    }))
