-- Cells of a frame by where they lie.
use Rattle.std.proofs.Common.{◌≡◌, ℕ, ◌+◌, ◌<◌, ◌≤◌, List, length, set, sym, subst}
use Rattle.std.specs.Prelude.{true, false, Some, pos}
use Rattle.sim_code.specs.Machine.{Frames, Value, cell_set}
use Rattle.frame_arena.specs.declared.frames.Frame.{Frame}
use Rattle.frame_arena.specs.declared.frames.Span.{Span}
use Rattle.frame_arena.specs.declared.slot.Slot.{Slot}
use Rattle.frame_arena.specs.declared.slot.SlotKind.TheVariants as kind
use Rattle.frame_arena.specs.Frames.{Holds, HoldsAfter, IsSpan, SlotLeads}
use Rattle.frame_arena.specs.Slots.{cell_value, value_of}
use Rattle.frame_arena.proofs.Entries.{no_write, writes}

-- the slot that stands for `none`
abbrev pub nothing_slot : Slot
nothing_slot = record { kind = kind.Nothing; code = 0; name = 0; more = 0; class = 0; «data» = pos 0 }

module _ (fs : List Frame) (cells : List Slot) (m : Frames) (s : Span) (c : ℕ) (h : Holds fs cells m) (i : IsSpan fs s) where
  pub span_writes : (x : Slot) → c < s.cells → s.base + c < length cells → SlotLeads fs m x → cell_value x ≡ Some (value_of x) →
      HoldsAfter true fs (set cells (s.base + c) x) (cell_set m s.number c (value_of x))
  span_writes x h1 h2 leads held =
      subst (λ b. HoldsAfter true fs (set cells (b + c) x) (cell_set m s.number c (value_of x))) i.base
      (writes fs cells m s.region s.number c x h i.has (subst (λ n. c < n) (sym i.cells) h1) (subst (λ b. b + c < length cells) (sym i.base) h2) leads held)

  pub span_past : (v : Value) → s.cells ≤ c → HoldsAfter false fs cells (cell_set m s.number c v)
  span_past v h1 = no_write fs cells m s.region s.number c v h i.has (subst (λ n. n ≤ c) (sym i.cells) h1)
