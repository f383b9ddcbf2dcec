-- Cells of a region, and what the regions say of the machine's memory.
use Rattle.std.proofs.Common.{◌≡◌, ℕ, zero, suc, ◌-◌, ◌+◌, ◌<◌, ◌≤◌, List, [], ◌∷◌, length, sym, subst, refl, ap, ◌∙◌, arith}
use Rattle.std.proofs.lemmas.Option.{slice_get_past}
use Rattle.std.specs.Prelude.{true, false, Option, Some, None, slice_get, ◌==◌, if◌then◌else◌}
use Rattle.sim_values.specs.declared.value.FrameRef.{FrameRef}
use Rattle.sim_code.specs.Instances.{Instance, at_level, cells_in, found_at, is_live, is_live_in, level_within, live, outward, unless_given}
use Rattle.sim_code.specs.Machine.{Cells, Frames, Value, cell, joined, value_in}
use Rattle.frame_arena.specs.declared.slot.Slot.{Slot}
use Rattle.frame_arena.specs.declared.slot.SlotKind.{SlotKind}
use Rattle.frame_arena.specs.declared.slot.SlotKind.TheVariants as k
use Rattle.frame_arena.specs.declared.frames.Frame.{Frame}
use Rattle.frame_arena.specs.Slots.{cell_value, unless_empty}
use Rattle.frame_arena.specs.Stacks.{slot_at}
use Rattle.frame_arena.specs.Frames.{Has, Holds, cells_at, frame_at, instance_of, number_in}

-- ---- the cells of one region

pub read_cells : (cells : List Slot) (base count c : ℕ) → c < count → slice_get (cells_at cells base count) c ≡ Some (cell_value (slot_at cells (base + c)))
read_cells cells base zero c h = absurd (omega (arith, h))
read_cells cells base (suc n) zero h =
    let e : base ≡ base + 0 = omega arith in
    ap (λ j. Some (cell_value (slot_at cells j))) e
read_cells cells base (suc n) (suc c) h =
    let e : suc base + c ≡ base + suc c = omega arith in
    read_cells cells (suc base) n c (omega (arith, h)) ∙ ap (λ j. Some (cell_value (slot_at cells j))) e

pub cell_count : (cells : List Slot) (base count : ℕ) → length (cells_at cells base count) ≡ count
cell_count cells base zero = refl
cell_count cells base (suc n) = ap suc (cell_count cells (suc base) n)

pub empty_past : (cells : List Slot) (at : ℕ) → length cells ≤ at → cell_value (slot_at cells at) ≡ None
empty_past [] at h = refl
empty_past (x ∷ xs) zero h = absurd (omega (arith, h))
empty_past (x ∷ xs) (suc n) h = empty_past xs n (omega (arith, h))

pub has_value : (j : SlotKind) (v : Value) → (j ≡ k.Empty → ⊥) → unless_empty j v ≡ Some v
has_value k.Empty v h = absurd (h refl)
has_value k.Integer v h = refl
has_value k.Truth v h = refl
has_value k.Character v h = refl
has_value k.Text v h = refl
has_value k.Nothing v h = refl
has_value k.Object v h = refl
has_value k.Main v h = refl
has_value k.Link v h = refl
has_value k.Cell v h = refl
has_value k.Element v h = refl
has_value k.Image v h = refl
has_value k.Array v h = refl
has_value k.Procedure v h = refl
has_value k.Thunk v h = refl

pub read_here : (cells : List Slot) (base count c : ℕ) → c < count → joined (slice_get (cells_at cells base count) c) ≡ cell_value (slot_at cells (base + c))
read_here cells base count c h = ap joined (read_cells cells base count c h)

pub read_none : (cells : List Slot) (base count c : ℕ) → count ≤ c → joined (slice_get (cells_at cells base count) c) ≡ None
read_none cells base count c h = ap joined (slice_get_past (cells_at cells base count) c (subst (λ n. n ≤ c) (sym (cell_count cells base count)) h))

-- ---- a frame that was found

pub live_of : (frames : List Frame) (cells : List Slot) (m : Frames) (place number : ℕ) → Holds frames cells m → Has frames place number → live m number ≡ Some (instance_of cells (frame_at frames place))
live_of frames cells m place number h e = ap unless_given (h.known place number e)

pub cell_found : (frames : List Frame) (cells : List Slot) (m : Frames) (place number c : ℕ) → Holds frames cells m → Has frames place number →
    cell m number c ≡ joined (slice_get (cells_at cells (frame_at frames place).base (frame_at frames place).cells) c)
cell_found frames cells m place number c h e = ap (λ x. value_in (cells_in x) c) (live_of frames cells m place number h e)

dead_in : (x : Option (Instance Cells)) → (is_live_in x ≡ true → ⊥) → x ≡ None
dead_in None h = refl
dead_in (Some x) h = absurd (h refl)

pub dead : (m : Frames) (number : ℕ) → (is_live m number ≡ true → ⊥) → live m number ≡ None
dead m number h = dead_in (live m number) h

pub cell_gone : (m : Frames) (number c : ℕ) → (is_live m number ≡ true → ⊥) → cell m number c ≡ None
cell_gone m number c h = ap (λ x. value_in (cells_in x) c) (dead m number h)

-- ---- climbing to a level

same_level : (a b : ℕ) → a ≡ b → (a == b) ≡ true
same_level a b h = grind (arith, h)

other_level : (a b : ℕ) → (a ≡ b → ⊥) → (a == b) ≡ false
other_level a b h = grind (arith, h)

pub level_start : (m : Frames) (level number : ℕ) → at_level m level number ≡ level_within (suc number - 0) m level number
unfolding at_level
level_start m level number =
    let e : suc number ≡ suc number - 0 = omega arith in
    ap (λ n. level_within n m level number) e

level_step : (frames : List Frame) (cells : List Slot) (m : Frames) (place number n level : ℕ) → Holds frames cells m → Has frames place number →
    level_within (suc n) m level number ≡ found_at level (level_within n m level) number (Some (instance_of cells (frame_at frames place)))
level_step frames cells m place number n level h e = ap (found_at level (level_within n m level) number) (live_of frames cells m place number h e)

more_fuel : (home counter : ℕ) → counter ≤ home → suc home - counter ≡ suc (home - counter)
more_fuel home counter h = omega (arith, h)

less_fuel : (home counter : ℕ) → counter ≤ home → home - counter ≡ suc home - (counter + 1)
less_fuel home counter h = omega (arith, h)

pub level_gone : (m : Frames) (home counter level number : ℕ) → counter ≤ home → (is_live m number ≡ true → ⊥) → level_within (suc home - counter) m level number ≡ None
level_gone m home counter level number h0 h =
    ap (λ n. level_within n m level number) (more_fuel home counter h0)
    ∙ ap (found_at level (level_within (home - counter) m level) number) (dead m number h)

pub level_here : (frames : List Frame) (cells : List Slot) (m : Frames) (place number home counter level : ℕ) → counter ≤ home → Holds frames cells m → Has frames place number → (frame_at frames place).level ≡ level →
    level_within (suc home - counter) m level number ≡ Some number
level_here frames cells m place number home counter level h0 h e same =
    ap (λ n. level_within n m level number) (more_fuel home counter h0)
    ∙ level_step frames cells m place number (home - counter) level h e
    ∙ ap (λ b. if b then Some number else outward (level_within (home - counter) m level) (number_in (frame_at frames place).parent)) (same_level _ _ same)

level_out : (frames : List Frame) (cells : List Slot) (m : Frames) (place number home counter level : ℕ) → counter ≤ home → Holds frames cells m → Has frames place number → ((frame_at frames place).level ≡ level → ⊥) →
    level_within (suc home - counter) m level number ≡ outward (level_within (home - counter) m level) (number_in (frame_at frames place).parent)
level_out frames cells m place number home counter level h0 h e other =
    ap (λ n. level_within n m level number) (more_fuel home counter h0)
    ∙ level_step frames cells m place number (home - counter) level h e
    ∙ ap (λ b. if b then Some number else outward (level_within (home - counter) m level) (number_in (frame_at frames place).parent)) (other_level _ _ other)

pub level_top : (frames : List Frame) (cells : List Slot) (m : Frames) (place number home counter level : ℕ) → counter ≤ home → Holds frames cells m → Has frames place number → ((frame_at frames place).level ≡ level → ⊥) →
    (frame_at frames place).parent ≡ None → level_within (suc home - counter) m level number ≡ None
level_top frames cells m place number home counter level h0 h e other top =
    level_out frames cells m place number home counter level h0 h e other
    ∙ ap (λ b. outward (level_within (home - counter) m level) (number_in b)) top

pub level_up : (frames : List Frame) (cells : List Slot) (m : Frames) (place number home counter level : ℕ) (r : FrameRef) → counter ≤ home → Holds frames cells m → Has frames place number → ((frame_at frames place).level ≡ level → ⊥) →
    (frame_at frames place).parent ≡ Some r → level_within (suc home - counter) m level number ≡ level_within (suc home - (counter + 1)) m level r.stamp
level_up frames cells m place number home counter level r h0 h e other up =
    level_out frames cells m place number home counter level h0 h e other
    ∙ ap (λ b. outward (level_within (home - counter) m level) (number_in b)) up
    ∙ ap (λ n. level_within n m level r.stamp) (less_fuel home counter h0)

pub no_fuel : (m : Frames) (home counter level number : ℕ) → home < counter → level_within (suc home - counter) m level number ≡ None
no_fuel m home counter level number h =
    let e : suc home - counter ≡ 0 = omega (arith, h) in
    ap (λ n. level_within n m level number) e
