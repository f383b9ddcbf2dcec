-- Classes of references, as the rows find them.
use Rattle.std.specs.Prelude.{◌≡◌, ◌<◌, ◌^◌, ℕ, zero, suc, ℤ, Bool, true, false, Option, Some, None, List}
use Rattle.sim_values.specs.Plain.{MainOf, Plain, Nothing, Object}
use Rattle.sim_code.specs.Code.{CodeOf}
use Rattle.sim_code.specs.Classes.{is_in, is_of, may_stand as may_stand_of}
use Rattle.sim_code.specs.Instances.{Place}
use Rattle.sim_code.specs.Events.{no_rule}
use Rattle.sim_code.specs.Machine.{Frames, Machine}
use Rattle.sim_code.specs.Outcome.{Run, World}
use Rattle.sim_code.specs.Rows.{class_at, qualified, without_class}
use Rattle.frame_arena.specs.declared.frames.Frame.{Frame}
use Rattle.frame_arena.specs.Frames.{Leads}
use Rattle.object_machine.specs.declared.classes.Qualification.{Qualification}
use Rattle.object_machine.specs.declared.classes.Qualification.TheVariants as qualification
use Rattle.object_machine.specs.declared.classes.Reference.{Reference}
use Rattle.object_machine.specs.declared.classes.Reference.TheVariants as reference

-- the class that goes with an address, or that there is no such class
abbrev pub Qualifies : Qualification → CodeOf → ℤ → Type 0
Qualifies (qualification.Class q) code z = (o : World) (go : ℕ → Run Machine) → qualified code z o go ≡ go q
Qualifies qualification.NoRule code z = (o : World) (go : ℕ → Run Machine) → qualified code z o go ≡ no_rule o
Qualifies qualification.Memory code z = Unit {0}

-- it is no reference
abbrev pub IsNoReference : Option Plain → Type 0
IsNoReference (Some (Object j)) = ⊥
IsNoReference (Some (MainOf j)) = ⊥
IsNoReference (Some Nothing) = ⊥
IsNoReference _ = Unit {0}

-- what a value refers to
abbrev pub Refers : Reference → Option Plain → Type 0
Refers (reference.Object f) p = p ≡ Some (Object f.stamp)
Refers (reference.Main f) p = p ≡ Some (MainOf f.stamp)
Refers reference.IsNone p = p ≡ Some Nothing
Refers reference.Other p = IsNoReference p

abbrev pub ReferenceLeads : Reference → List Frame → Frames → Type 0
ReferenceLeads (reference.Object f) frames m = Leads frames m f
ReferenceLeads (reference.Main f) frames m = Leads frames m f
ReferenceLeads _ frames m = Unit {0}

-- its number is one that a slot can have
abbrev pub FitsSlot : Reference → Type 0
FitsSlot (reference.Object f) = f.stamp < 2 ^ 63
FitsSlot (reference.Main f) = f.stamp < 2 ^ 63
FitsSlot _ = Unit {0}

-- `is` where the class is to be the same, else `in`
abbrev pub tests : Bool → CodeOf → Frames → (class : ℕ) → Plain → Option Bool
tests true code m c p = is_of code m c p
tests false code m c p = is_in code m c p

-- a test of a value that may be no plain one
abbrev pub tested : (Plain → Option Bool) → Option Plain → Option Bool
tested f None = None
tested f (Some p) = f p

-- whether a value may be put where an address with this class leads
abbrev pub admits : CodeOf → Frames → (class : ℕ) → Option Plain → Option Bool
admits code m zero p = Some true
admits code m (suc c) p = may_stand_of code m (suc c) p

-- the class of an address, if it is one, and the address without it
abbrev pub class_in_place : Option (Place ℕ ℕ) → ℕ
class_in_place None = 0
class_in_place (Some p) = class_at p

abbrev pub unclassed : Option (Place ℕ ℕ) → Option (Place ℕ ℕ)
unclassed None = None
unclassed (Some p) = Some (without_class p)
