-- How a call that makes a text answers.
use Rattle.std.specs.Prelude.{◌≡◌, ℕ, ◌<◌, ◌≤◌, List, Result, Ok, Err}
use Rattle.sim_values.specs.declared.value.TextVal.{TextVal}
use Rattle.sim_values.specs.Texts.{Frame, Making}
use Rattle.text_objects.specs.declared.fault.TextFault.{TextFault}
use Rattle.text_objects.specs.declared.fault.TextFault.TheVariants.{Run, Full, Memory}

-- With this room, of these frames before and after: it is refused as the definition says; it is `Full` exactly where the words that
-- it asks for exceed the room; else it leaves the frames and gives the text of the definition. Want of memory may come always. What
-- is not answered by a text changes nothing.
abbrev pub Makes : Making → (room : ℕ) → (old new : List Frame) → Result TextVal TextFault → Type 0
Makes making room old new (Ok t) = (making.wanted ≤ room) × (making.answer ≡ Ok t) × (new ≡ making.frames)
Makes making room old new (Err (Run e)) = (making.answer ≡ Err e) × (new ≡ old)
Makes making room old new (Err (Full wanted)) = (room < making.wanted) × (wanted ≡ making.wanted) × (new ≡ old)
Makes making room old new (Err Memory) = new ≡ old
