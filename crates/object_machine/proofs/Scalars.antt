-- Values that name neither a frame nor an array.
use Rattle.std.proofs.Common.{◌≡◌, sym, subst, refl, ap, ◌∙◌}
use Rattle.std.specs.Prelude.{Bool, true, false, List}
use Rattle.sim_values.specs.Plain.{MainOf, Plain, Object}
use Rattle.sim_code.specs.Machine.{Frames, Value, Of}
use Rattle.sim_code.specs.Outcome.{ArrayOf}
use Rattle.frame_arena.specs.declared.frames.Frame.{Frame}
use Rattle.frame_arena.specs.declared.slot.Slot.{Slot}
use Rattle.frame_arena.specs.declared.slot.SlotKind.{SlotKind}
use Rattle.frame_arena.specs.declared.slot.SlotKind.TheVariants as k
use Rattle.frame_arena.specs.Arrays.{RegionOf, SlotLeadsArray, names_array}
use Rattle.frame_arena.specs.Frames.{SlotLeads, names_frame}
use Rattle.frame_arena.specs.Slots.{value_by, value_of}

abbrev truth_type : Bool → Type 0
truth_type true = Unit {0}
truth_type false = ⊥

pub off : false ≡ true → ⊥
off e = subst truth_type (sym e) tt

abbrev pub is_scalar : Plain → Bool
is_scalar (Object j) = false
is_scalar (MainOf j) = false
is_scalar _ = true

abbrev scalar_in : Value → Bool
scalar_in (Of p) = is_scalar p
scalar_in _ = false

not_scalar : (v w : Value) → v ≡ w → scalar_in v ≡ false → scalar_in w ≡ true → ⊥
not_scalar v w e f h = off (sym f ∙ ap scalar_in e ∙ h)

pub scalar_value : (j : SlotKind) (s : Slot) (v : Plain) → value_by j s ≡ Of v → is_scalar v ≡ true → (names_frame j ≡ false) × (names_array j ≡ false)
scalar_value k.Empty s v e h = (refl, refl)
scalar_value k.Integer s v e h = (refl, refl)
scalar_value k.Truth s v e h = (refl, refl)
scalar_value k.Character s v e h = (refl, refl)
scalar_value k.Text s v e h = (refl, refl)
scalar_value k.Nothing s v e h = (refl, refl)
scalar_value k.Object s v e h = absurd (not_scalar (value_by k.Object s) (Of v) e refl h)
scalar_value k.Main s v e h = absurd (not_scalar (value_by k.Main s) (Of v) e refl h)
scalar_value k.Link s v e h = absurd (not_scalar (value_by k.Link s) (Of v) e refl h)
scalar_value k.Cell s v e h = absurd (not_scalar (value_by k.Cell s) (Of v) e refl h)
scalar_value k.Element s v e h = absurd (not_scalar (value_by k.Element s) (Of v) e refl h)
scalar_value k.Image s v e h = (refl, refl)
scalar_value k.Array s v e h = absurd (not_scalar (value_by k.Array s) (Of v) e refl h)
scalar_value k.Procedure s v e h = absurd (not_scalar (value_by k.Procedure s) (Of v) e refl h)
scalar_value k.Thunk s v e h = absurd (not_scalar (value_by k.Thunk s) (Of v) e refl h)

pub scalar_leads : (frames : List Frame) (m : Frames) (s : Slot) (v : Plain) → value_of s ≡ Of v → is_scalar v ≡ true → SlotLeads frames m s
scalar_leads frames m s v e h names = absurd (off (sym (scalar_value s.kind s v e h).0 ∙ names))

pub scalar_leads_array : (regions : List RegionOf) (arrays : List ArrayOf) (s : Slot) (v : Plain) → value_of s ≡ Of v → is_scalar v ≡ true → SlotLeadsArray regions arrays s
scalar_leads_array regions arrays s v e h names = absurd (off (sym (scalar_value s.kind s v e h).1 ∙ names))
