-- Images and their addresses.
use Rattle.std.proofs.Common.{◌≡◌, ℕ, zero, suc, ◌+◌, ◌≤◌, List, sym, subst, refl, ap, ◌∙◌}
use Rattle.std.specs.Prelude.{Bool, true, false, if◌then◌else◌, Option, Some, None}
use Rattle.std.specs.Io.KnownBytes.{Appends}
use Rattle.sim_base.specs.declared.limits.Limits.{Limits}
use Rattle.sim_values.specs.Plain.{Plain, Text}
use Rattle.sim_values.specs.declared.value.TextVal.{TextVal}
use Rattle.sim_values.specs.Store.{Store, image_at, with_image}
use Rattle.sim_values.specs.Texts.{Frame as TextFrame, at_position, same_text}
use Rattle.basic_io.specs.Image.{IsImage}
use Rattle.sim_code.specs.Instances.{ImagePlace}
use Rattle.sim_code.specs.Events.{having, image_moved as image_set_of, no_rule, text_val}
use Rattle.sim_code.specs.Machine.{Address, Frames, Machine, Value, plain}
use Rattle.sim_code.specs.Outcome.{ArrayOf, Run, World}
use Rattle.frame_arena.specs.declared.frames.Frame.{Frame}
use Rattle.frame_arena.specs.declared.slot.Slot.{Slot}
use Rattle.frame_arena.specs.declared.slot.SlotKind.{SlotKind}
use Rattle.frame_arena.specs.declared.slot.SlotKind.TheVariants as k
use Rattle.frame_arena.specs.Arrays.{RegionOf, SlotLeadsArray, names_array}
use Rattle.frame_arena.specs.Frames.{SlotLeads, names_frame}
use Rattle.frame_arena.specs.Slots.{value_by, value_of}
use Rattle.object_machine.specs.declared.machine.Images.{Images}
use Rattle.object_machine.specs.Images.{image_in}
use Rattle.object_machine.specs.declared.machine.Storage.{Storage}
use Rattle.object_machine.specs.declared.machine.Registers.{Registers}
use Rattle.object_machine.specs.declared.machine.Activation as working
use Rattle.object_machine.specs.Standing.{Outside, Stands, ports_in, ports_of}
use Rattle.object_machine.proofs.Scalars.{off}

-- the image of a number in the store
pub image_found : (i : Images) (s : Store) (source : List ℕ) (n : ℕ) → ports_in s ≡ ports_of i source → image_at s n ≡ image_in i n
image_found i s source zero e = ap (λ x. Some x.sysin) e
image_found i s source (suc zero) e = ap (λ x. Some x.sysout) e
image_found i s source (suc (suc n)) e = refl

pub no_other : (s : Store) (n : ℕ) → (n ≡ 0 → ⊥) → (n ≡ 1 → ⊥) → image_at s n ≡ None
no_other s zero h h2 = absurd (h refl)
no_other s (suc zero) h h2 = absurd (h2 refl)
no_other s (suc (suc n)) h h2 = refl

pub image_valid : (frames : List TextFrame) (t : TextVal) (pos : ℕ) → IsImage frames t → 1 ≤ pos → pos ≤ t.length + 1 → IsImage frames (at_position t pos)
image_valid frames t pos h a b = record { made = h.made; variable = h.variable; whole = h.whole; start = h.start; some = h.some; short = h.short; position = a; position_end = b }

-- ---- addresses of images

abbrev is_image_value : Value → Bool
is_image_value (Address (ImagePlace n)) = true
is_image_value _ = false

other : (v : Value) (n : ℕ) → v ≡ Address (ImagePlace n) → is_image_value v ≡ false → ⊥
other v n e f = off (sym f ∙ ap is_image_value e)

image_kind : (j : SlotKind) (s : Slot) (n : ℕ) → value_by j s ≡ Address (ImagePlace n) → (names_frame j ≡ false) × (names_array j ≡ false)
image_kind k.Empty s n e = (refl, refl)
image_kind k.Integer s n e = (refl, refl)
image_kind k.Truth s n e = (refl, refl)
image_kind k.Character s n e = (refl, refl)
image_kind k.Text s n e = (refl, refl)
image_kind k.Nothing s n e = (refl, refl)
image_kind k.Object s n e = absurd (other (value_by k.Object s) n e refl)
image_kind k.Main s n e = absurd (other (value_by k.Main s) n e refl)
image_kind k.Link s n e = absurd (other (value_by k.Link s) n e refl)
image_kind k.Cell s n e = absurd (other (value_by k.Cell s) n e refl)
image_kind k.Element s n e = absurd (other (value_by k.Element s) n e refl)
image_kind k.Image s n e = (refl, refl)
image_kind k.Array s n e = absurd (other (value_by k.Array s) n e refl)
image_kind k.Procedure s n e = absurd (other (value_by k.Procedure s) n e refl)
image_kind k.Thunk s n e = absurd (other (value_by k.Thunk s) n e refl)

pub image_leads : (frames : List Frame) (m : Frames) (s : Slot) (n : ℕ) → value_of s ≡ Address (ImagePlace n) → SlotLeads frames m s
image_leads frames m s n e names = absurd (off (sym (image_kind s.kind s n e).0 ∙ names))

pub image_leads_array : (regions : List RegionOf) (arrays : List ArrayOf) (s : Slot) (n : ℕ) → value_of s ≡ Address (ImagePlace n) → SlotLeadsArray regions arrays s
image_leads_array regions arrays s n e names = absurd (off (sym (image_kind s.kind s n e).1 ∙ names))

-- ---- an image is moved

module _ (o : World) (n : ℕ) (T : World → Run Machine) where
  abbrev pub moving : Option Plain → Option TextVal → Run Machine
  moving w image = having w o (λ p. having (image_set_of o n image (text_val p)) o T)

  pub no_image : (w : Option Plain) → moving w None ≡ no_rule o
  unfolding having
  no_image None = refl
  no_image (Some p) = refl

  pub no_text : (j : SlotKind) (s : Slot) (image : TextVal) → (j ≡ k.Text → ⊥) → moving (plain (value_by j s)) (Some image) ≡ no_rule o
  unfolding having
  no_text k.Empty s image h = refl
  no_text k.Integer s image h = refl
  no_text k.Truth s image h = refl
  no_text k.Character s image h = refl
  no_text k.Text s image h = absurd (h refl)
  no_text k.Nothing s image h = refl
  no_text k.Object s image h = refl
  no_text k.Main s image h = refl
  no_text k.Link s image h = refl
  no_text k.Cell s image h = refl
  no_text k.Element s image h = refl
  no_text k.Image s image h = refl
  no_text k.Array s image h = refl
  no_text k.Procedure s image h = refl
  no_text k.Thunk s image h = refl

  pub other_text : (image t : TextVal) → same_text image t ≡ false → moving (Some (Text t)) (Some image) ≡ no_rule o
  unfolding having
  other_text image t e = ap (λ b. having (if b then Some (record o { store = with_image o.store n t }) else None) o T) e

  pub same_image : (image t : TextVal) → same_text image t ≡ true → moving (Some (Text t)) (Some image) ≡ T (record o { store = with_image o.store n t })
  unfolding having
  same_image image t e = ap (λ b. having (if b then Some (record o { store = with_image o.store n t }) else None) o T) e

image_frames : (s : Store) (n : ℕ) (t : TextVal) → (with_image s n t).frames ≡ s.frames
image_frames s zero t = refl
image_frames s (suc zero) t = refl
image_frames s (suc (suc n)) t = refl

image_written : (s : Store) (n : ℕ) (t : TextVal) → (with_image s n t).written ≡ s.written
image_written s zero t = refl
image_written s (suc zero) t = refl
image_written s (suc (suc n)) t = refl

pub stands_image : (l : Limits) (p : Storage) (r : Registers) (stack : List Slot) (below : List working.Activation) (before : Option (List ℕ)) (now : Outside) (o : World) (m : Frames) (i : Images) (n : ℕ) (t : TextVal) →
    Stands l p r stack below before now o m → ports_in (with_image o.store n t) ≡ ports_of i now.source → Stands l (record p { image = i }) r stack below before now (record o { store = with_image o.store n t }) m
stands_image l p r stack below before now o m i n t s e = record {
  stores = record {
    world = record {
      ticks = s.stores.world.ticks;
      words = s.stores.world.words;
      texts = image_frames o.store n t ∙ s.stores.world.texts;
      image = e;
      written = subst (λ w. Appends before now.sink w) (sym (image_written o.store n t)) s.stores.world.written;
    };
    budget = s.stores.budget;
    frames = s.stores.frames;
    entered = s.stores.entered;
    arrays = s.stores.arrays;
    cells = s.stores.cells;
    elements = s.stores.elements;
    parks = s.stores.parks;
    members = s.stores.members;
    simulations = s.stores.simulations;
  };
  top = s.top;
  others = s.others;
}
