-- The chains that are kept, where other things change.
use Rattle.std.proofs.Common.{◌≡◌, ℕ, zero, suc, ◌<◌, List, [], ◌∷◌, ◌++◌, length, map, set, sym, subst, refl, ap, ◌∙◌, arith}
use Rattle.std.specs.Prelude.{Some, slice_get, slice_index_or}
use Rattle.std.specs.declared.alloc.Global.{Global}
use Rattle.std.specs.declared.vec.Vec.{Vec}
use Rattle.sim_code.specs.Machine.{Activation, Frames}
use Rattle.frame_arena.specs.declared.frames.Component.{Component}
use Rattle.sim_code.specs.Outcome.{ArrayOf}
use Rattle.frame_arena.specs.declared.frames.Frame.{Frame}
use Rattle.frame_arena.specs.declared.slot.Slot.{Slot}
use Rattle.frame_arena.specs.Arrays.{RegionOf}
use Rattle.frame_arena.specs.Frames.{IsKeeping, KeptBefore, keeping, rooms}
use Rattle.object_machine.specs.declared.machine.Registers.{Registers}
use Rattle.object_machine.specs.declared.machine.Activation as working
use Rattle.object_machine.specs.Standing.{AllFit, Parks, Works, activation_of, parked}

pub get_front : {X : Type 0} (xs ys : List X) (k : ℕ) (x : X) → slice_get xs k ≡ Some x → slice_get (xs ++ ys) k ≡ Some x
get_front [] ys k x e = absurd (cc)
get_front (z ∷ zs) ys zero x e = e
get_front (z ∷ zs) ys (suc k) x e = get_front zs ys k x e

pub standings_other : {X : Type 0} (xs : List X) (i j : ℕ) (x : X) → (i ≡ j → ⊥) → slice_get (set xs j x) i ≡ slice_get xs i
standings_other [] i j x h = refl
standings_other (y ∷ ys) zero zero x h = absurd (h refl)
standings_other (y ∷ ys) zero (suc j) x h = refl
standings_other (y ∷ ys) (suc i) zero x h = refl
standings_other (y ∷ ys) (suc i) (suc j) x h = standings_other ys i j x (λ e. h (ap suc e))

-- as many regions have as many rooms
rooms_length : (fs : List Frame) → length (rooms fs) ≡ length fs
rooms_length [] = refl
rooms_length (f ∷ fs) = ap suc (rooms_length fs)

pub rooms_count : (old new : List Frame) → rooms new ≡ rooms old → length old ≡ length new
rooms_count old new e = sym (rooms_length old) ∙ ap (λ l. length l) (sym e) ∙ rooms_length new

-- a park more, where nothing is
pub parked_more : (parks : List (Vec working.Activation Global)) (park : Vec working.Activation Global) → park.items ≡ [] → (at : ℕ) → parked (parks ++ park ∷ []) at ≡ parked parks at
parked_more [] park e zero = e
parked_more [] park e (suc n) = refl
parked_more (x ∷ xs) park e zero = refl
parked_more (x ∷ xs) park e (suc n) = parked_more xs park e n

pub parked_elsewhere : (parks : List (Vec working.Activation Global)) (place : ℕ) (park : Vec working.Activation Global) (at : ℕ) → (at ≡ place → ⊥) → parked (set parks place park) at ≡ parked parks at
parked_elsewhere [] place park at h = refl
parked_elsewhere (x ∷ xs) zero park zero h = absurd (h refl)
parked_elsewhere (x ∷ xs) zero park (suc at) h = refl
parked_elsewhere (x ∷ xs) (suc place) park zero h = refl
parked_elsewhere (x ∷ xs) (suc place) park (suc at) h = parked_elsewhere xs place park at (λ e. h (ap suc e))

pub parked_here : (parks : List (Vec working.Activation Global)) (place : ℕ) (park : Vec working.Activation Global) → place < length parks → parked (set parks place park) place ≡ park.items
parked_here [] place park h = absurd (omega (arith, h))
parked_here (x ∷ xs) zero park h = refl
parked_here (x ∷ xs) (suc place) park h = parked_here xs place park (omega (arith, h))

pub parked_index : (parks : List (Vec working.Activation Global)) (place : ℕ) (d : Vec working.Activation Global) → place < length parks → parked parks place ≡ (slice_index_or parks place d).items
parked_index [] place d h = absurd (omega (arith, h))
parked_index (x ∷ xs) zero d h = refl
parked_index (x ∷ xs) (suc place) d h = parked_index xs place d (omega (arith, h))

-- Where the parks are the same, no other frame keeps a chain, and what each of them keeps stays.
pub parks_kept : (fs fs2 : List Frame) (parks parks2 : List (Vec working.Activation Global)) (m m2 : Frames) (regions regions2 : List RegionOf) (arrays arrays2 : List ArrayOf) →
    length parks2 ≡ length fs2 → ((at : ℕ) → parked parks2 at ≡ parked parks at) → KeptBefore fs fs2 →
    ((place n : ℕ) (c : Component) (chain : List Activation) → IsKeeping fs2 place n c → slice_get m.standings n ≡ Some (keeping c chain) → slice_get m2.standings n ≡ Some (keeping c chain)) →
    ((r : Registers) (stack : List Slot) → Works fs m regions arrays r stack → Works fs2 m2 regions2 arrays2 r stack) → Parks fs parks m regions arrays → Parks fs2 parks2 m2 regions2 arrays2
parks_kept fs fs2 parks parks2 m m2 regions regions2 arrays arrays2 each same before standings works h = record {
  each = each;
  chains = λ place n c d. standings place n c _ d (h.chains place n c (before place n c d)) ∙ ap (λ l. Some (keeping c (map activation_of l))) (sym (same place));
  work = λ place k t there. works t.registers t.stack.items (h.work place k t (subst (λ l. slice_get l k ≡ Some t) (same place) there));
  fit = λ place. subst (λ l. AllFit l) (sym (same place)) (h.fit place);
}

-- the same where the regions and the parks are as before
pub parks_later : (fs : List Frame) (parks : List (Vec working.Activation Global)) (m m2 : Frames) (regions regions2 : List RegionOf) (arrays arrays2 : List ArrayOf) → m2.standings ≡ m.standings →
    ((r : Registers) (stack : List Slot) → Works fs m regions arrays r stack → Works fs m2 regions2 arrays2 r stack) → Parks fs parks m regions arrays → Parks fs parks m2 regions2 arrays2
parks_later fs parks m m2 regions regions2 arrays arrays2 standings works h =
    parks_kept fs fs parks parks m m2 regions regions2 arrays arrays2 h.each (λ at. refl) (λ place n c d. d) (λ place n c chain d e. subst (λ w. slice_get w n ≡ Some (keeping c chain)) (sym standings) e) works h

pub none_parked : (k : ℕ) (t : working.Activation) → slice_get [] k ≡ Some t → ⊥
none_parked k t e = cc

nothing_parked : (m : Frames) (regions : List RegionOf) (arrays : List ArrayOf) → Parks [] [] m regions arrays
nothing_parked m regions arrays = record {
  each = refl;
  chains = λ place n c d. absurd (omega (arith, d.0.0));
  work = λ place k t there. absurd (none_parked k t there);
  fit = λ place k t there. absurd (none_parked k t there);
}

pub parks_empty : (fs : List Frame) (parks : List (Vec working.Activation Global)) (m : Frames) (regions : List RegionOf) (arrays : List ArrayOf) → fs ≡ [] → parks ≡ [] → Parks fs parks m regions arrays
parks_empty fs parks m regions arrays e e2 = subst (λ f. Parks f parks m regions arrays) (sym e) (subst (λ p. Parks [] p m regions arrays) (sym e2) (nothing_parked m regions arrays))
