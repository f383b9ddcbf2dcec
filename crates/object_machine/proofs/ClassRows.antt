-- Classes, and what references refer to.
use Rattle.std.proofs.Common.{◌≡◌, ℕ, zero, suc, ◌+◌, ◌-◌, ◌<◌, ◌≤◌, ◌^◌, List, [], ◌∷◌, ◌++◌, length, sym, subst, refl, ap, ◌∙◌, arith}
use Rattle.std.proofs.lemmas.Option.{slice_get_past}
use Rattle.std.specs.Prelude.{ℤ, pos, negsuc, Bool, true, false, ◌==◌, ◌||◌, nat_lt, if◌then◌else◌, Option, Some, None, slice_get}
use Rattle.std.specs.List.{list_any}
use Rattle.sim_base.specs.declared.run_error.RunError.TheVariants.{AccessThroughNone, OutsideQualification}
use Rattle.sim_values.specs.declared.value.FrameRef.{FrameRef}
use Rattle.sim_values.specs.Plain.{Plain, Integer, Truth, Character, Text, Object, MainOf, Nothing}
use Rattle.sim_code.specs.Code.{ClassOf, CodeOf}
use Rattle.sim_code.specs.Classes.{admitting, behind, block_in, class_in, class_named, class_numbered, class_of, class_there, if_there, is_among, levels, levels_by, levels_within, may_stand, qualifying}
use Rattle.sim_code.specs.Events.{choosing, having, no_rule, not_nothing, pop_object, pop_plain, pop_reference, popping, referring, stopping}
use Rattle.sim_code.specs.Instances.{CellPlace, ElementPlace, ImagePlace, Instance, Place, is_live, is_live_in, live, unless_given}
use Rattle.sim_code.specs.Machine.{Address, ArrayValue, Cells, Frames, Link, Machine, Of, ProcedureValue, ThunkValue, Value, number, place_in, plain, text_in, variable_in}
use Rattle.sim_code.specs.Outcome.{Run, RunFault, World}
use Rattle.sim_code.specs.Rows.{class_at, putting, qualified, storing}
use Rattle.frame_arena.specs.declared.frames.Frame.{Frame}
use Rattle.frame_arena.specs.declared.slot.Slot.{Slot}
use Rattle.frame_arena.specs.declared.slot.SlotKind.{SlotKind}
use Rattle.frame_arena.specs.declared.slot.SlotKind.TheVariants as k
use Rattle.frame_arena.specs.Frames.{Has, Holds, Leads, frame_at}
use Rattle.frame_arena.specs.Slots.{count_of, value_by, value_of}
use Rattle.object_machine.specs.declared.classes.Reference.{Reference}
use Rattle.object_machine.specs.declared.classes.Reference.TheVariants as reference
use Rattle.object_machine.specs.Arrayed.{is_unqualified}
use Rattle.object_machine.specs.Classing.{FitsSlot, IsNoReference, ReferenceLeads, Refers, admits, class_in_place, tested, tests, unclassed}
use Rattle.object_machine.proofs.Scalars.{off}

-- ---- the class that an operand names

pub named_none : (code : CodeOf) (z : ℤ) → None ≡ number z → None ≡ class_named code z
named_none code z e = ap (class_there code) e

pub named_at : (code : CodeOf) (z : ℤ) (n : ℕ) → Some n ≡ number z → class_there code (Some n) ≡ class_named code z
named_at code z n e = ap (class_there code) e

pub record_past : (code : CodeOf) (n : ℕ) → length code.classes < n → class_there code (Some n) ≡ None
record_past code zero h = refl
record_past code (suc n) h = ap (if_there (suc n)) (slice_get_past code.classes n (omega (arith, h)))

in_list : (xs : List ClassOf) (n j : ℕ) → n < length xs → if_there j (slice_get xs n) ≡ Some j
in_list [] n j h = absurd (let e : ⊥ = omega (arith, h) in e)
in_list (x ∷ xs) zero j h = refl
in_list (x ∷ xs) (suc n) j h = in_list xs n j (omega (arith, h))

pub record_there : (code : CodeOf) (n : ℕ) → (n ≡ 0 → ⊥) → n ≤ length code.classes → class_there code (Some n) ≡ Some n
record_there code zero h h2 = absurd (h refl)
record_there code (suc n) h h2 = in_list code.classes n (suc n) (omega (arith, h2))

pub some_qualified : (code : CodeOf) (z : ℤ) (o : World) (go : ℕ → Run Machine) → is_unqualified z ≡ false → qualified code z o go ≡ having (class_named code z) o go
some_qualified code (pos zero) o go e = absurd (off (sym e))
some_qualified code (pos (suc n)) o go e = refl
some_qualified code (negsuc n) o go e = refl

pub plainly_qualified : (code : CodeOf) (z : ℤ) (o : World) (go : ℕ → Run Machine) → is_unqualified z ≡ true → qualified code z o go ≡ go 0
unfolding having
plainly_qualified code (pos zero) o go e = refl
plainly_qualified code (pos (suc n)) o go e = absurd (off e)
plainly_qualified code (negsuc n) o go e = absurd (off e)

-- ---- the class of a frame

gone_in : (x : Option (Instance Cells)) → (is_live_in x ≡ true → ⊥) → x ≡ None
gone_in None h = refl
gone_in (Some x) h = absurd (h refl)

pub class_gone : (code : CodeOf) (m : Frames) (j : ℕ) → (is_live m j ≡ true → ⊥) → class_of code m j ≡ None
class_gone code m j h = ap (λ x. class_in (block_in code (text_in x))) (gone_in (live m j) h)

pub class_found : (code : CodeOf) (frames : List Frame) (cells : List Slot) (m : Frames) (place j : ℕ) → Holds frames cells m → Has frames place j → class_of code m j ≡ class_in (slice_get code.blocks (frame_at frames place).block)
class_found code frames cells m place j h has = ap (λ x. class_in (block_in code (text_in (unless_given x)))) (h.known place j has)

-- ---- levels

-- an answer, or true where something was found already
abbrev pub or_found : Bool → Option Bool → Option Bool
or_found found None = None
or_found found (Some b) = Some (b || found)

any_behind : (c j : ℕ) (ks : List ℕ) → list_any (λ x. x == c) (ks ++ j ∷ []) ≡ (list_any (λ x. x == c) ks || (j == c))
any_behind c j [] = last (j == c)
  where
    last : (b : Bool) → (b || false) ≡ b
    last true = refl
    last false = refl
any_behind c j (x ∷ ks) = more (x == c) _ _ (j == c) (any_behind c j ks)
  where
    more : (b q r z : Bool) → q ≡ (r || z) → (b || q) ≡ ((b || r) || z)
    more true q r z e = refl
    more false q r z e = e

among_behind : (c j : ℕ) (ks : Option (List ℕ)) → is_among c (behind ks j) ≡ or_found (j == c) (is_among c ks)
among_behind c j None = refl
among_behind c j (Some ks) = ap Some (any_behind c j ks)

-- whether a class is among the levels that are left
abbrev pub Left : CodeOf → (class wanted counter at : ℕ) → Option Bool
Left code class wanted counter at = is_among wanted (levels_within (class - counter) code at)

pub found_at_first : (code : CodeOf) (class wanted : ℕ) → is_among wanted (levels code class) ≡ or_found false (Left code class wanted 0 class)
unfolding levels
found_at_first code class wanted =
    let e : class ≡ class - 0 = omega arith in
    ap (λ n. is_among wanted (levels_within n code class)) e ∙ same (Left code class wanted 0 class)
  where
    same : (x : Option Bool) → x ≡ or_found false x
    same None = refl
    same (Some true) = refl
    same (Some false) = refl

more_left : (class counter : ℕ) → counter < class → class - counter ≡ suc (class - (counter + 1))
more_left class counter h = omega (arith, h)

one_level : (code : CodeOf) (class wanted counter at : ℕ) (x : Option ClassOf) → counter < class → class_numbered code at ≡ x → Left code class wanted counter at ≡ is_among wanted (levels_by (levels_within (class - (counter + 1)) code) at x)
one_level code class wanted counter at x h e =
    ap (λ n. is_among wanted (levels_within n code at)) (more_left class counter h) ∙ ap (λ r. is_among wanted (levels_by (levels_within (class - (counter + 1)) code) at r)) e

module _ (code : CodeOf) (class wanted counter at : ℕ) (found : Bool) (within : counter < class) where
  pub left_none : class_numbered code at ≡ None → or_found found (Left code class wanted counter at) ≡ None
  left_none e = ap (or_found found) (one_level code class wanted counter at None within e)

  pub left_broken : (x : ClassOf) → class_numbered code at ≡ Some x → (x.prefix ≡ 0 → ⊥) → at ≤ x.prefix → or_found found (Left code class wanted counter at) ≡ None
  left_broken x e h h2 =
      let e1 : (x.prefix == 0) ≡ false = grind (arith, h) in
      let e2 : nat_lt x.prefix at ≡ false = grind (arith, h2) in
      ap (or_found found) (one_level code class wanted counter at (Some x) within e
      ∙ ap (λ b. is_among wanted (if b then Some (at ∷ []) else if nat_lt x.prefix at then behind (levels_within (class - (counter + 1)) code x.prefix) at else None)) e1
      ∙ ap (λ b. is_among wanted (if b then behind (levels_within (class - (counter + 1)) code x.prefix) at else None)) e2)

  -- the outermost level
  pub left_last : (x : ClassOf) (found2 : Bool) → class_numbered code at ≡ Some x → x.prefix ≡ 0 → ((at == wanted) || found) ≡ found2 → or_found found (Left code class wanted counter at) ≡ Some found2
  left_last x found2 e h f =
      let e1 : (x.prefix == 0) ≡ true = grind (arith, h) in
      ap (or_found found) (one_level code class wanted counter at (Some x) within e
      ∙ ap (λ b. is_among wanted (if b then Some (at ∷ []) else if nat_lt x.prefix at then behind (levels_within (class - (counter + 1)) code x.prefix) at else None)) e1) ∙ both (at == wanted) ∙ ap Some f
    where
      both : (b : Bool) → Some ((b || false) || found) ≡ Some (b || found)
      both true = refl
      both false = refl

  -- one further out
  pub left_more : (x : ClassOf) (found2 : Bool) → class_numbered code at ≡ Some x → (x.prefix ≡ 0 → ⊥) → x.prefix < at → ((at == wanted) || found) ≡ found2 →
      or_found found (Left code class wanted counter at) ≡ or_found found2 (Left code class wanted (counter + 1) x.prefix)
  left_more x found2 e h h2 f =
      let e1 : (x.prefix == 0) ≡ false = grind (arith, h) in
      let e2 : nat_lt x.prefix at ≡ true = grind (arith, h2) in
      let outer = levels_within (class - (counter + 1)) code x.prefix in
      ap (or_found found) (one_level code class wanted counter at (Some x) within e
      ∙ ap (λ b. is_among wanted (if b then Some (at ∷ []) else if nat_lt x.prefix at then behind outer at else None)) e1
      ∙ ap (λ b. is_among wanted (if b then behind outer at else None)) e2
      ∙ among_behind wanted at outer)
      ∙ both (at == wanted) (is_among wanted outer) ∙ ap (λ b. or_found b (is_among wanted outer)) f
    where
      both : (b : Bool) (y : Option Bool) → or_found found (or_found b y) ≡ or_found (b || found) y
      both b None = refl
      both true (Some true) = refl
      both true (Some false) = refl
      both false (Some true) = refl
      both false (Some false) = refl

pub left_over : (code : CodeOf) (class wanted counter at : ℕ) (found : Bool) → class ≤ counter → or_found found (Left code class wanted counter at) ≡ None
left_over code class wanted counter at found h =
    let e : class - counter ≡ 0 = omega (arith, h) in
    ap (λ n. or_found found (is_among wanted (levels_within n code at))) e

pub numbered_past : (code : CodeOf) (n : ℕ) → (n ≡ 0 → ⊥) → slice_get code.classes (n - 1) ≡ None → class_numbered code n ≡ None
numbered_past code zero h e = absurd (h refl)
numbered_past code (suc n) h e = let e2 : n ≡ suc n - 1 = omega arith in ap (slice_get code.classes) e2 ∙ e

pub numbered_at : (code : CodeOf) (n : ℕ) (x : ClassOf) → (n ≡ 0 → ⊥) → slice_get code.classes (n - 1) ≡ Some x → class_numbered code n ≡ Some x
numbered_at code zero x h e = absurd (h refl)
numbered_at code (suc n) x h e = let e2 : n ≡ suc n - 1 = omega arith in ap (slice_get code.classes) e2 ∙ e

-- ---- what a value refers to

pub object_refers : (s : Slot) → s.kind ≡ k.Object → plain (value_of s) ≡ Some (Object (count_of s.«data»))
object_refers s e = ap (λ j. plain (value_by j s)) e

pub main_refers : (s : Slot) → s.kind ≡ k.Main → plain (value_of s) ≡ Some (MainOf (count_of s.«data»))
main_refers s e = ap (λ j. plain (value_by j s)) e

pub nothing_refers : (s : Slot) → s.kind ≡ k.Nothing → plain (value_of s) ≡ Some Nothing
nothing_refers s e = ap (λ j. plain (value_by j s)) e

pub empty_refers : (s : Slot) → s.kind ≡ k.Empty → plain (value_of s) ≡ Some Nothing
empty_refers s e = ap (λ j. plain (value_by j s)) e

other_refers_by : (j : SlotKind) (s : Slot) → (j ≡ k.Object → ⊥) → (j ≡ k.Main → ⊥) → (j ≡ k.Nothing → ⊥) → (j ≡ k.Empty → ⊥) → IsNoReference (plain (value_by j s))
other_refers_by k.Empty s h h2 h3 h4 = absurd (h4 refl)
other_refers_by k.Integer s h h2 h3 h4 = tt
other_refers_by k.Truth s h h2 h3 h4 = tt
other_refers_by k.Character s h h2 h3 h4 = tt
other_refers_by k.Text s h h2 h3 h4 = tt
other_refers_by k.Nothing s h h2 h3 h4 = absurd (h3 refl)
other_refers_by k.Object s h h2 h3 h4 = absurd (h refl)
other_refers_by k.Main s h h2 h3 h4 = absurd (h2 refl)
other_refers_by k.Link s h h2 h3 h4 = tt
other_refers_by k.Cell s h h2 h3 h4 = tt
other_refers_by k.Element s h h2 h3 h4 = tt
other_refers_by k.Image s h h2 h3 h4 = tt
other_refers_by k.Array s h h2 h3 h4 = tt
other_refers_by k.Procedure s h h2 h3 h4 = tt
other_refers_by k.Thunk s h h2 h3 h4 = tt

pub other_refers : (s : Slot) → (s.kind ≡ k.Object → ⊥) → (s.kind ≡ k.Main → ⊥) → (s.kind ≡ k.Nothing → ⊥) → (s.kind ≡ k.Empty → ⊥) → IsNoReference (plain (value_of s))
other_refers s h h2 h3 h4 = other_refers_by s.kind s h h2 h3 h4

pub other_tested : (same : Bool) (code : CodeOf) (m : Frames) (c : ℕ) (p : Option Plain) → IsNoReference p → tested (tests same code m c) p ≡ None
other_tested same code m c None h = refl
other_tested true code m c (Some (Integer z)) h = refl
other_tested false code m c (Some (Integer z)) h = refl
other_tested true code m c (Some (Truth b)) h = refl
other_tested false code m c (Some (Truth b)) h = refl
other_tested true code m c (Some (Character z)) h = refl
other_tested false code m c (Some (Character z)) h = refl
other_tested true code m c (Some (Text t)) h = refl
other_tested false code m c (Some (Text t)) h = refl
other_tested same code m c (Some (Object j)) h = absurd h
other_tested same code m c (Some (MainOf j)) h = absurd h
other_tested same code m c (Some Nothing) h = absurd h

pub none_tested : (same : Bool) (code : CodeOf) (m : Frames) (c : ℕ) (p : Option Plain) → p ≡ Some Nothing → tested (tests same code m c) p ≡ Some false
none_tested true code m c p e = ap (tested (tests true code m c)) e
none_tested false code m c p e = ap (tested (tests false code m c)) e

pub other_stands : (code : CodeOf) (m : Frames) (c : ℕ) (p : Option Plain) → IsNoReference p → may_stand code m c p ≡ None
other_stands code m c None h = refl
other_stands code m c (Some (Integer z)) h = refl
other_stands code m c (Some (Truth b)) h = refl
other_stands code m c (Some (Character z)) h = refl
other_stands code m c (Some (Text t)) h = refl
other_stands code m c (Some (Object j)) h = absurd h
other_stands code m c (Some (MainOf j)) h = absurd h
other_stands code m c (Some Nothing) h = absurd h

other_plain : (line : ℕ) (o : World) (go : ℕ → Run Machine) (p : Plain) → IsNoReference (Some p) → referring line p o go ≡ no_rule o
unfolding referring
other_plain line o go (Integer z) h = refl
other_plain line o go (Truth b) h = refl
other_plain line o go (Character z) h = refl
other_plain line o go (Text t) h = refl
other_plain line o go (Object j) h = absurd h
other_plain line o go (MainOf j) h = absurd h
other_plain line o go Nothing h = absurd h

-- ---- a reference that is popped

abbrev pub with_reference : Reference → (line : ℕ) → World → (ℕ → Run Machine) → Run Machine
with_reference (reference.Object f) line o go = go f.stamp
with_reference (reference.Main f) line o go = no_rule o
with_reference reference.IsNone line o go = stopping (RunFault AccessThroughNone line) o
with_reference reference.Other line o go = no_rule o

referred : (line : ℕ) (o : World) (go : ℕ → Run Machine) (r : Reference) (p : Option Plain) → Refers r p → having p o (λ v. referring line v o go) ≡ with_reference r line o go
unfolding having referring
referred line o go (reference.Object f) p h = ap (λ q. having q o (λ v. referring line v o go)) h
referred line o go (reference.Main f) p h = ap (λ q. having q o (λ v. referring line v o go)) h
referred line o go reference.IsNone p h = ap (λ q. having q o (λ v. referring line v o go)) h
referred line o go reference.Other None h = refl
referred line o go reference.Other (Some p) h = other_plain line o go p h

abbrev pub object_of : (line : ℕ) → World → (ℕ → List Value → Run Machine) → Value → List Value → Run Machine
object_of line o go v rest = having (plain v) o (λ p. referring line p o (λ j. go j rest))

pub popping_object : (line : ℕ) (values : List Value) (o : World) (go : ℕ → List Value → Run Machine) → pop_object plain line values o go ≡ popping values o (object_of line o go)
unfolding pop_object pop_plain
popping_object line values o go = refl

pub object_popped : (line : ℕ) (o : World) (go : ℕ → List Value → Run Machine) (r : Reference) (v : Value) (rest : List Value) → Refers r (plain v) → object_of line o go v rest ≡ with_reference r line o (λ j. go j rest)
object_popped line o go r v rest h = referred line o (λ j. go j rest) r (plain v) h

-- the reference itself that is popped, to an object or a main program
abbrev pub with_named : Reference → (line : ℕ) → World → (Plain → Run Machine) → Run Machine
with_named (reference.Object f) line o go = go (Object f.stamp)
with_named (reference.Main f) line o go = go (MainOf f.stamp)
with_named reference.IsNone line o go = stopping (RunFault AccessThroughNone line) o
with_named reference.Other line o go = no_rule o

other_value : (line : ℕ) (o : World) (go : Run Machine) (p : Plain) → IsNoReference (Some p) → not_nothing line p o go ≡ no_rule o
unfolding not_nothing
other_value line o go (Integer z) h = refl
other_value line o go (Truth b) h = refl
other_value line o go (Character z) h = refl
other_value line o go (Text t) h = refl
other_value line o go (Object j) h = absurd h
other_value line o go (MainOf j) h = absurd h
other_value line o go Nothing h = absurd h

named : (line : ℕ) (o : World) (go : Plain → Run Machine) (r : Reference) (p : Option Plain) → Refers r p → having p o (λ v. not_nothing line v o (go v)) ≡ with_named r line o go
unfolding having not_nothing
named line o go (reference.Object f) p h = ap (λ q. having q o (λ v. not_nothing line v o (go v))) h
named line o go (reference.Main f) p h = ap (λ q. having q o (λ v. not_nothing line v o (go v))) h
named line o go reference.IsNone p h = ap (λ q. having q o (λ v. not_nothing line v o (go v))) h
named line o go reference.Other None h = refl
named line o go reference.Other (Some p) h = other_value line o (go p) p h

abbrev pub reference_of : (line : ℕ) → World → (Plain → List Value → Run Machine) → Value → List Value → Run Machine
reference_of line o go v rest = having (plain v) o (λ p. not_nothing line p o (go p rest))

pub popping_reference : (line : ℕ) (values : List Value) (o : World) (go : Plain → List Value → Run Machine) → pop_reference plain line values o go ≡ popping values o (reference_of line o go)
unfolding pop_reference pop_plain
popping_reference line values o go = refl

pub reference_popped : (line : ℕ) (o : World) (go : Plain → List Value → Run Machine) (r : Reference) (v : Value) (rest : List Value) → Refers r (plain v) → reference_of line o go v rest ≡ with_named r line o (λ p. go p rest)
reference_popped line o go r v rest h = named line o (λ p. go p rest) r (plain v) h

plain_is : (v : Value) (p : Plain) → plain v ≡ Some p → v ≡ Of p
plain_is (Of q) p e = let same : q ≡ p = cc in ap Of same
plain_is (Link j) p e = absurd (cc)
plain_is (Address a) p e = absurd (cc)
plain_is (ArrayValue a) p e = absurd (cc)
plain_is (ProcedureValue b j) p e = absurd (cc)
plain_is (ThunkValue t j) p e = absurd (cc)

pub object_leads : (frames : List Frame) (m : Frames) (r : Reference) (f : FrameRef) → r ≡ reference.Object f → ReferenceLeads r frames m → Leads frames m f
object_leads frames m r f e h = subst (λ q. ReferenceLeads q frames m) e h

pub object_fits : (r : Reference) (f : FrameRef) → r ≡ reference.Object f → FitsSlot r → f.stamp < 2 ^ 63
object_fits r f e h = subst (λ q. FitsSlot q) e h

-- a reference that stays
pub object_kept : (K : List Value → Run Machine) (r : Reference) (f : FrameRef) (v : Value) (rest : List Value) → Refers r (plain v) → r ≡ reference.Object f → K (Of (Object f.stamp) ∷ rest) ≡ K (v ∷ rest)
object_kept K r f v rest h e = ap (λ w. K (w ∷ rest)) (sym (plain_is v (Object f.stamp) (subst (λ q. Refers q (plain v)) e h)))

pub main_leads : (frames : List Frame) (m : Frames) (r : Reference) (f : FrameRef) → r ≡ reference.Main f → ReferenceLeads r frames m → Leads frames m f
main_leads frames m r f e h = subst (λ q. ReferenceLeads q frames m) e h

pub main_kept : (K : List Value → Run Machine) (r : Reference) (f : FrameRef) (v : Value) (rest : List Value) → Refers r (plain v) → r ≡ reference.Main f → K (Of (MainOf f.stamp) ∷ rest) ≡ K (v ∷ rest)
main_kept K r f v rest h e = ap (λ w. K (w ∷ rest)) (sym (plain_is v (MainOf f.stamp) (subst (λ q. Refers q (plain v)) e h)))

-- a test of the value that is popped
abbrev pub test_of : World → (Plain → Option Bool) → (Bool → List Value → Run Machine) → Value → List Value → Run Machine
test_of o f go v rest = having (plain v) o (λ p. having (f p) o (λ b. go b rest))

pub popping_test : (values : List Value) (o : World) (f : Plain → Option Bool) (go : Bool → List Value → Run Machine) → pop_plain plain values o (λ p rest. having (f p) o (λ b. go b rest)) ≡ popping values o (test_of o f go)
unfolding pop_plain
popping_test values o f go = refl

tested_at : (o : World) (f : Plain → Option Bool) (go : Bool → Run Machine) (p : Option Plain) → having p o (λ p. having (f p) o go) ≡ having (tested f p) o go
unfolding having
tested_at o f go None = refl
tested_at o f go (Some p) = refl

pub test_popped : (o : World) (f : Plain → Option Bool) (go : Bool → List Value → Run Machine) (v : Value) (rest : List Value) → test_of o f go v rest ≡ having (tested f (plain v)) o (λ b. go b rest)
test_popped o f go v rest = tested_at o f (λ b. go b rest) (plain v)

-- ---- E7

pub qualified_inside : (line : ℕ) (holds : Option Bool) (b : Bool) (o : World) (r : Run Machine) → Some b ≡ holds → b ≡ true → qualifying line holds o r ≡ r
unfolding having choosing
qualified_inside line holds b o r e e2 = ap (λ h. qualifying line h o r) (sym e) ∙ ap (λ h. qualifying line (Some h) o r) e2

pub qualified_outside : (line : ℕ) (holds : Option Bool) (b : Bool) (o : World) (r : Run Machine) → Some b ≡ holds → b ≡ false → qualifying line holds o r ≡ stopping (RunFault OutsideQualification line) o
unfolding having choosing
qualified_outside line holds b o r e e2 = ap (λ h. qualifying line h o r) (sym e) ∙ ap (λ h. qualifying line (Some h) o r) e2

pub qualified_never : (line : ℕ) (holds : Option Bool) (o : World) (r : Run Machine) → None ≡ holds → qualifying line holds o r ≡ no_rule o
unfolding having
qualified_never line holds o r e = ap (λ h. qualifying line h o r) (sym e)

-- ---- values that are put

pub admitted : (code : CodeOf) (m : Frames) (line class : ℕ) (v : Value) (b : Bool) (o : World) (r : Run Machine) → Some b ≡ admits code m class (plain v) → b ≡ true → admitting code m line class v o r ≡ r
admitted code m line zero v b o r e e2 = refl
admitted code m line (suc c) v b o r e e2 = qualified_inside line (may_stand code m (suc c) (plain v)) b o r e e2

pub refused : (code : CodeOf) (m : Frames) (line class : ℕ) (v : Value) (b : Bool) (o : World) (r : Run Machine) → Some b ≡ admits code m class (plain v) → b ≡ false → admitting code m line class v o r ≡ stopping (RunFault OutsideQualification line) o
refused code m line zero v b o r e e2 = let same : b ≡ true = cc in absurd (off (sym e2 ∙ same))
refused code m line (suc c) v b o r e e2 = qualified_outside line (may_stand code m (suc c) (plain v)) b o r e e2

pub not_admitted : (code : CodeOf) (m : Frames) (line class : ℕ) (v : Value) (o : World) (r : Run Machine) → None ≡ admits code m class (plain v) → admitting code m line class v o r ≡ no_rule o
not_admitted code m line zero v o r e = absurd (cc)
not_admitted code m line (suc c) v o r e = qualified_never line (may_stand code m (suc c) (plain v)) o r e

-- where an address leads, without its class
module _ (code : CodeOf) (line : ℕ) (v : Value) (o : World) (m : Frames) (go : World → Frames → Run Machine) where
  abbrev pub Stored : Option (Place ℕ ℕ) → Run Machine
  Stored w = having w o (λ p. storing code line p v o m go)

  abbrev pub Put : Option (Place ℕ ℕ) → Run Machine
  Put w = having w o (λ p. putting p v o m go)

  pub not_stored : (w : Option (Place ℕ ℕ)) → w ≡ None → Stored w ≡ no_rule o
  unfolding having
  not_stored w e = ap Stored e

  pub stored : (w w2 : Option (Place ℕ ℕ)) (class : ℕ) → w2 ≡ unclassed w → class ≡ class_in_place w → Stored w ≡ admitting code m line class v o (Put w2)
  unfolding having
  stored None w2 class e e2 = ap (λ q. having q o (λ p. putting p v o m go)) (sym e) ∙ ap (λ c. admitting code m line c v o (Put w2)) (sym e2)
  stored (Some p) w2 class e e2 = ap (λ q. admitting code m line (class_at p) v o (having q o (λ p. putting p v o m go))) (sym e) ∙ ap (λ c. admitting code m line c v o (Put w2)) (sym e2)

  plain_place : (p : Place ℕ ℕ) → class_at p ≡ 0 → storing code line p v o m go ≡ putting p v o m go
  plain_place (CellPlace j c class) e = ap (λ n. storing code line (CellPlace j c n) v o m go) e ∙ ap (λ n. putting (CellPlace j c n) v o m go) (sym e)
  plain_place (ElementPlace a n class) e = ap (λ z. storing code line (ElementPlace a n z) v o m go) e ∙ ap (λ z. putting (ElementPlace a n z) v o m go) (sym e)
  plain_place (ImagePlace n) e = refl

  plainly_in : (w : Option (Place ℕ ℕ)) → class_in_place w ≡ 0 → Stored w ≡ Put w
  unfolding having
  plainly_in None e = refl
  plainly_in (Some p) e = plain_place p e

  class_by : (j : SlotKind) (s : Slot) → s.class ≡ 0 → class_in_place (place_in (value_by j s)) ≡ 0
  class_by k.Empty s e = refl
  class_by k.Integer s e = refl
  class_by k.Truth s e = refl
  class_by k.Character s e = refl
  class_by k.Text s e = refl
  class_by k.Nothing s e = refl
  class_by k.Object s e = refl
  class_by k.Main s e = refl
  class_by k.Link s e = refl
  class_by k.Cell s e = e
  class_by k.Element s e = e
  class_by k.Image s e = refl
  class_by k.Array s e = refl
  class_by k.Procedure s e = refl
  class_by k.Thunk s e = refl

  pub plainly_stored : (s : Slot) → s.class ≡ 0 → Stored (place_in (value_of s)) ≡ Put (place_in (value_of s))
  plainly_stored s e = plainly_in (place_in (value_of s)) (class_by s.kind s e)

-- the place of a variable or an element, where an address is no image's
variable_by : (j : SlotKind) (s : Slot) → (j ≡ k.Image → ⊥) → variable_in (value_by j s) ≡ place_in (value_by j s)
variable_by k.Empty s h = refl
variable_by k.Integer s h = refl
variable_by k.Truth s h = refl
variable_by k.Character s h = refl
variable_by k.Text s h = refl
variable_by k.Nothing s h = refl
variable_by k.Object s h = refl
variable_by k.Main s h = refl
variable_by k.Link s h = refl
variable_by k.Cell s h = refl
variable_by k.Element s h = refl
variable_by k.Image s h = absurd (h refl)
variable_by k.Array s h = refl
variable_by k.Procedure s h = refl
variable_by k.Thunk s h = refl

pub is_variable : (s : Slot) → (s.kind ≡ k.Image → ⊥) → variable_in (value_of s) ≡ place_in (value_of s)
is_variable s h = variable_by s.kind s h

pub no_variable : (s : Slot) → s.kind ≡ k.Image → variable_in (value_of s) ≡ None
no_variable s e = ap (λ j. variable_in (value_by j s)) e

pub class_of_cell : (s : Slot) → s.kind ≡ k.Cell → s.class ≡ class_in_place (place_in (value_of s))
class_of_cell s e = ap (λ j. class_in_place (place_in (value_by j s))) (sym e)

pub class_of_element : (s : Slot) → s.kind ≡ k.Element → s.class ≡ class_in_place (place_in (value_of s))
class_of_element s e = ap (λ j. class_in_place (place_in (value_by j s))) (sym e)

class_of_other_by : (j : SlotKind) (s : Slot) → (j ≡ k.Cell → ⊥) → (j ≡ k.Element → ⊥) → 0 ≡ class_in_place (place_in (value_by j s))
class_of_other_by k.Empty s h h2 = refl
class_of_other_by k.Integer s h h2 = refl
class_of_other_by k.Truth s h h2 = refl
class_of_other_by k.Character s h h2 = refl
class_of_other_by k.Text s h h2 = refl
class_of_other_by k.Nothing s h h2 = refl
class_of_other_by k.Object s h h2 = refl
class_of_other_by k.Main s h h2 = refl
class_of_other_by k.Link s h h2 = refl
class_of_other_by k.Cell s h h2 = absurd (h refl)
class_of_other_by k.Element s h h2 = absurd (h2 refl)
class_of_other_by k.Image s h h2 = refl
class_of_other_by k.Array s h h2 = refl
class_of_other_by k.Procedure s h h2 = refl
class_of_other_by k.Thunk s h h2 = refl

pub class_of_other : (s : Slot) → (s.kind ≡ k.Cell → ⊥) → (s.kind ≡ k.Element → ⊥) → 0 ≡ class_in_place (place_in (value_of s))
class_of_other s h h2 = class_of_other_by s.kind s h h2

unclassed_by : (j : SlotKind) (s : Slot) → place_in (value_by j (record s { class = 0 })) ≡ unclassed (place_in (value_by j s))
unclassed_by k.Empty s = refl
unclassed_by k.Integer s = refl
unclassed_by k.Truth s = refl
unclassed_by k.Character s = refl
unclassed_by k.Text s = refl
unclassed_by k.Nothing s = refl
unclassed_by k.Object s = refl
unclassed_by k.Main s = refl
unclassed_by k.Link s = refl
unclassed_by k.Cell s = refl
unclassed_by k.Element s = refl
unclassed_by k.Image s = refl
unclassed_by k.Array s = refl
unclassed_by k.Procedure s = refl
unclassed_by k.Thunk s = refl

pub without_is : (s : Slot) → place_in (value_of (record s { class = 0 })) ≡ unclassed (place_in (value_of s))
without_is s = unclassed_by s.kind s

-- of a class the test is whether a value may stand there
pub some_admits : (code : CodeOf) (m : Frames) (c : ℕ) (p : Option Plain) → (c ≡ 0 → ⊥) → admits code m c p ≡ may_stand code m c p
some_admits code m zero p h = absurd (h refl)
some_admits code m (suc c) p h = refl
