-- Operands that are read from a stack.
use Rattle.std.proofs.Common.{◌≡◌, ℕ, zero, suc, ◌+◌, ◌-◌, ◌<◌, ◌≤◌, ◌⊎◌, inl, inr, List, [], ◌∷◌, length, set, get_or-set_same, get_or-set_other, sym, subst, refl, ap, ◌∙◌, arith}
use Rattle.std.specs.Prelude.{true, Option, Some, None}
use Rattle.sim_values.specs.Plain.{Plain, Text}
use Rattle.sim_values.specs.declared.value.TextVal.{TextVal}
use Rattle.sim_code.specs.Events.{having, no_rule, pop_operands, popping, putting_back}
use Rattle.sim_code.specs.Machine.{Address, ArrayValue, Frames, Link, Machine, Of, ProcedureValue, ThunkValue, Value, operand, place_in, plain}
use Rattle.sim_code.specs.Outcome.{Run, World}
use Rattle.sim_code.specs.Instances.{CellPlace, ElementPlace, ImagePlace}
use Rattle.sim_code.specs.Rows.{put_back, putting}
use Rattle.sim_base.specs.declared.limits.Limits.{Limits}
use Rattle.frame_arena.specs.declared.slot.Slot.{Slot}
use Rattle.frame_arena.specs.declared.slot.SlotKind.{SlotKind}
use Rattle.frame_arena.specs.declared.slot.SlotKind.TheVariants as k
use Rattle.frame_arena.specs.Slots.{count_of, empty_slot, is_plain, value_by, value_of}
use Rattle.frame_arena.specs.Stacks.{slot_at, values_of}
use Rattle.object_machine.specs.declared.machine.Storage.{Storage}
use Rattle.object_machine.specs.declared.machine.Registers.{Registers}
use Rattle.object_machine.specs.declared.machine.Activation as working
use Rattle.object_machine.specs.declared.placing.Placing.{Placing}
use Rattle.object_machine.specs.declared.placing.Placing.TheVariants as placing
use Rattle.object_machine.specs.Placing.{Places, PutsBack, placed_in}
use Rattle.object_machine.specs.Standing.{Outside}
use Rattle.object_machine.specs.Arrayed.{value_there}
use Rattle.object_machine.specs.Operands.{AllRead, OneUnread, first_slot, text_there}
use Rattle.object_machine.proofs.ArrayRows.{none_at, top_at}
use Rattle.object_machine.proofs.Scalars.{off}

-- ---- one operand

module _ (o : World) (m : Frames) where
  pub operand_cell : (j : SlotKind) (s : Slot) → j ≡ k.Cell → operand o m (value_by j s) ≡ text_there (value_there o m (place_in (value_by j s)))
  operand_cell j s e = subst (λ j. operand o m (value_by j s) ≡ text_there (value_there o m (place_in (value_by j s)))) (sym e) refl

  pub operand_element : (j : SlotKind) (s : Slot) → j ≡ k.Element → operand o m (value_by j s) ≡ text_there (value_there o m (place_in (value_by j s)))
  operand_element j s e = subst (λ j. operand o m (value_by j s) ≡ text_there (value_there o m (place_in (value_by j s)))) (sym e) refl

  pub operand_image : (j : SlotKind) (s : Slot) → j ≡ k.Image → operand o m (value_by j s) ≡ text_there (value_there o m (place_in (value_by j s)))
  operand_image j s e = subst (λ j. operand o m (value_by j s) ≡ text_there (value_there o m (place_in (value_by j s)))) (sym e) refl

  pub operand_of_plain : (v : Value) → is_plain v ≡ true → operand o m v ≡ plain v
  operand_of_plain (Of p) e = refl
  operand_of_plain (Link j) e = absurd (off e)
  operand_of_plain (Address a) e = absurd (off e)
  operand_of_plain (ArrayValue a) e = absurd (off e)
  operand_of_plain (ProcedureValue b h) e = absurd (off e)
  operand_of_plain (ThunkValue t h) e = absurd (off e)

  pub operand_plain : (j : SlotKind) (s : Slot) → (j ≡ k.Cell → ⊥) → (j ≡ k.Element → ⊥) → (j ≡ k.Image → ⊥) → operand o m (value_by j s) ≡ plain (value_by j s)
  operand_plain k.Empty s h h2 h3 = refl
  operand_plain k.Integer s h h2 h3 = refl
  operand_plain k.Truth s h h2 h3 = refl
  operand_plain k.Character s h h2 h3 = refl
  operand_plain k.Text s h h2 h3 = refl
  operand_plain k.Nothing s h h2 h3 = refl
  operand_plain k.Object s h h2 h3 = refl
  operand_plain k.Main s h h2 h3 = refl
  operand_plain k.Link s h h2 h3 = refl
  operand_plain k.Cell s h h2 h3 = absurd (h refl)
  operand_plain k.Element s h h2 h3 = absurd (h2 refl)
  operand_plain k.Image s h h2 h3 = absurd (h3 refl)
  operand_plain k.Array s h h2 h3 = refl
  operand_plain k.Procedure s h h2 h3 = refl
  operand_plain k.Thunk s h h2 h3 = refl

-- ---- the values of a stack

pub values_count : (depth : ℕ) (stack : List Slot) → depth ≤ length stack → length (values_of depth stack) ≡ depth
values_count zero stack h = ap length (none_at stack)
values_count (suc d) stack h =
    let e : d + 1 ≡ suc d = omega arith in
    ap length (sym (top_at (suc d) d stack e h)) ∙ ap suc (values_count d stack (omega (arith, h)))

pub same_values : (depth : ℕ) (old new : List Slot) → depth ≤ length old → depth ≤ length new → ((at : ℕ) → at < depth → slot_at new at ≡ slot_at old at) → values_of depth new ≡ values_of depth old
same_values zero old new h h2 same = none_at new ∙ sym (none_at old)
same_values (suc d) old new h h2 same =
    let e : d + 1 ≡ suc d = omega arith in
    sym (top_at (suc d) d new e h2)
    ∙ ap (λ s. value_of s ∷ values_of d new) (same d (omega arith))
    ∙ ap (λ l. value_of (slot_at old d) ∷ l) (same_values d old new (omega (arith, h)) (omega (arith, h2)) (λ at b. same at (omega (arith, b))))
    ∙ top_at (suc d) d old e h

at_or_below : (q d : ℕ) → q < suc d → (q ≡ d) ⊎ (q < d)
at_or_below zero zero h = inl refl
at_or_below zero (suc d) h = inr (omega arith)
at_or_below (suc q) zero h = absurd (omega (arith, h))
at_or_below (suc q) (suc d) h = elim (at_or_below q d (omega (arith, h))) [ inl e ↦ inl (ap suc e) | inr n ↦ inr (omega (arith, n)) ]

-- ---- operands that are read one by one

-- those before a place are read, and the others are the same
pub record ReadTo (o : World) (m : Frames) (first at : ℕ) (old new : List Slot) : Type 0 where
  pub read : (q : ℕ) → first ≤ q → q < at → operand o m (value_of (slot_at old q)) ≡ plain (value_of (slot_at new q))
  pub same : (q : ℕ) → (first ≤ q → at ≤ q) → slot_at new q ≡ slot_at old q

module _ (o : World) (m : Frames) (first : ℕ) where
  pub read_none : (old : List Slot) → ReadTo o m first first old old
  read_none old = record { read = λ q a b. absurd (omega (arith, a, b)); same = λ q a. refl }

  pub read_more : (at : ℕ) (old cur : List Slot) (s : Slot) → first ≤ at → at < length cur → ReadTo o m first at old cur → operand o m (value_of (slot_at cur at)) ≡ plain (value_of s) → ReadTo o m first (at + 1) old (set cur at s)
  read_more at old cur s h h2 r e = record {
    read = λ q a b. elim (at_or_below q at (omega (arith, b))) [
      | inl is ↦ subst (λ q. operand o m (value_of (slot_at old q)) ≡ plain (value_of (slot_at (set cur at s) q))) (sym is)
          (ap (λ x. operand o m (value_of x)) (sym (r.same at (λ x. omega arith))) ∙ e ∙ ap (λ x. plain (value_of x)) (sym (get_or-set_same cur at s empty_slot h2)))
      | inr below ↦ r.read q a below ∙ ap (λ x. plain (value_of x)) (sym (get_or-set_other cur at q s empty_slot (λ is. omega (arith, is, below))))
    ];
    same = λ q a. get_or-set_other cur at q s empty_slot (λ is. other q a is) ∙ r.same q (λ x. let y = a x in omega (arith, y));
  }
    where
      other : (q : ℕ) → (first ≤ q → at + 1 ≤ q) → q ≡ at → ⊥
      other q a is = let y = a (omega (arith, h, is)) in omega (arith, y, is)

  -- what is read as it stands
  pub read_same : (at : ℕ) (old cur : List Slot) → first ≤ at → ReadTo o m first at old cur → is_plain (value_of (slot_at cur at)) ≡ true → ReadTo o m first (at + 1) old cur
  read_same at old cur h r e = record {
    read = λ q a b. elim (at_or_below q at (omega (arith, b))) [
      | inl is ↦ subst (λ q. operand o m (value_of (slot_at old q)) ≡ plain (value_of (slot_at cur q))) (sym is)
          (ap (λ x. operand o m (value_of x)) (sym (r.same at (λ x. omega arith))) ∙ operand_of_plain o m (value_of (slot_at cur at)) e)
      | inr below ↦ r.read q a below
    ];
    same = λ q a. r.same q (λ x. let y = a x in omega (arith, y));
  }

  pub all_read : (at end : ℕ) (old new : List Slot) → end ≤ at → ReadTo o m first at old new → AllRead o m first end old new
  all_read at end old new h r = record { read = λ q a b. r.read q a (omega (arith, b, h)); below = λ q b. r.same q (λ a. absurd (omega (arith, a, b))) }

  pub one_unread : (at end : ℕ) (old cur : List Slot) → first ≤ at → at < end → ReadTo o m first at old cur → operand o m (value_of (slot_at cur at)) ≡ None → OneUnread o m first end old
  one_unread at end old cur h h2 r e = record { place = at; begins = h; ends = h2; nothing = ap (λ x. operand o m (value_of x)) (sym (r.same at (λ x. omega arith))) ∙ e }

-- ---- all operands

module _ (o : World) where
  pub having_alike : (w : Option Plain) (f g : Plain → Run Machine) → ((p : Plain) → f p ≡ g p) → having w o f ≡ having w o g
  unfolding having
  having_alike None f g h = refl
  having_alike (Some p) f g h = h p

  pub having_never : (w : Option Plain) (f : Plain → Run Machine) → ((p : Plain) → f p ≡ no_rule o) → having w o f ≡ no_rule o
  unfolding having
  having_never None f h = refl
  having_never (Some p) f h = h p

  pub pop_more : (read : Value → Option Plain) (n : ℕ) (first : Option Value) (v : Value) (rest : List Value) (g : List Plain → Option Value → List Value → Run Machine) →
      pop_operands read (suc n) first (v ∷ rest) o g ≡ having (read v) o (λ p. pop_operands read n (Some v) rest o (λ ps f rest. g (p ∷ ps) f rest))
  unfolding pop_operands popping
  pop_more read n first v rest g = refl

  pub pop_last : (read : Value → Option Plain) (first : Option Value) (values : List Value) (g : List Plain → Option Value → List Value → Run Machine) → pop_operands read zero first values o g ≡ g [] first values
  unfolding pop_operands
  pop_last read first values g = refl

  pub pop_nothing : (read : Value → Option Plain) (n : ℕ) (first : Option Value) (g : List Plain → Option Value → List Value → Run Machine) → pop_operands read (suc n) first [] o g ≡ no_rule o
  unfolding pop_operands popping
  pop_nothing read n first g = refl

-- the first operand of as many, which comes last
abbrev pub origin : (n depth : ℕ) → Option Value → List Slot → Option Value
origin zero depth first stack = first
origin (suc n) depth first stack = Some (value_of (slot_at stack (depth - suc n)))

origin_next : (n d : ℕ) (first : Option Value) (stack : List Slot) → origin n d (Some (value_of (slot_at stack d))) stack ≡ origin (suc n) (suc d) first stack
origin_next zero d first stack =
    let e : d ≡ suc d - 1 = omega arith in
    ap (λ q. Some (value_of (slot_at stack q))) e
origin_next (suc n) d first stack =
    let e : d - suc n ≡ suc d - suc (suc n) = omega arith in
    ap (λ q. Some (value_of (slot_at stack q))) e

module _ (o : World) (look look2 : Value → Option Plain) (stack new : List Slot) where
  pub reads : (n depth : ℕ) (first first2 : Option Value) → n ≤ depth → depth ≤ length stack → depth ≤ length new →
      ((at : ℕ) → depth - n ≤ at → at < depth → look (value_of (slot_at stack at)) ≡ look2 (value_of (slot_at new at))) → values_of (depth - n) new ≡ values_of (depth - n) stack →
      (g : List Plain → Option Value → List Value → Run Machine) →
      pop_operands look n first (values_of depth stack) o g ≡ pop_operands look2 n first2 (values_of depth new) o (λ ps f rest. g ps (origin n depth first stack) rest)
  reads zero depth first first2 h h1 h2 read same g =
      let e : depth - 0 ≡ depth = omega arith in
      pop_last o look first (values_of depth stack) g ∙ ap (λ l. g [] first l) (sym (subst (λ q. values_of q new ≡ values_of q stack) e same)) ∙ sym (pop_last o look2 first2 (values_of depth new) (λ ps f rest. g ps first rest))
  reads (suc n) zero first first2 h h1 h2 read same g = absurd (omega (arith, h))
  reads (suc n) (suc d) first first2 h h1 h2 read same g =
      let e : d + 1 ≡ suc d = omega arith in
      let v = value_of (slot_at stack d) in
      let w = value_of (slot_at new d) in
      let down : suc d - suc n ≡ d - n = omega arith in
      let g2 : List Plain → Option Value → List Value → Run Machine = λ ps f rest. g ps (origin (suc n) (suc d) first stack) rest in
      ap (λ l. pop_operands look (suc n) first l o g) (sym (top_at (suc d) d stack e h1))
      ∙ pop_more o look n first v (values_of d stack) g
      ∙ ap (λ r. having r o (λ p. pop_operands look n (Some v) (values_of d stack) o (λ ps f rest. g (p ∷ ps) f rest))) (read d (omega (arith, h)) (omega arith))
      ∙ having_alike o (look2 w) _ _ (λ p.
      reads n d (Some v) (Some w) (omega (arith, h)) (omega (arith, h1)) (omega (arith, h2)) (λ at a b. read at (omega (arith, a)) (omega (arith, b))) (subst (λ q. values_of q new ≡ values_of q stack) down same) (λ ps f rest. g (p ∷ ps) f rest)
      ∙ ap (λ x. pop_operands look2 n (Some w) (values_of d new) o (λ ps f rest. g (p ∷ ps) x rest)) (origin_next n d first stack))
      ∙ sym (pop_more o look2 n first2 w (values_of d new) g2)
      ∙ ap (λ l. pop_operands look2 (suc n) first2 l o g2) (top_at (suc d) d new e h2)

  pub unread : (n depth : ℕ) (first : Option Value) → n ≤ depth → depth ≤ length stack → (place : ℕ) → depth - n ≤ place → place < depth → look (value_of (slot_at stack place)) ≡ None →
      (g : List Plain → Option Value → List Value → Run Machine) → pop_operands look n first (values_of depth stack) o g ≡ no_rule o
  unfolding having
  unread zero depth first h h1 place a b nothing g = absurd (omega (arith, a, b))
  unread (suc n) zero first h h1 place a b nothing g = absurd (omega (arith, h))
  unread (suc n) (suc d) first h h1 place a b nothing g =
      let e : d + 1 ≡ suc d = omega arith in
      let v = value_of (slot_at stack d) in
      let F : Plain → Run Machine = λ p. pop_operands look n (Some v) (values_of d stack) o (λ ps f rest. g (p ∷ ps) f rest) in
      ap (λ l. pop_operands look (suc n) first l o g) (sym (top_at (suc d) d stack e h1))
      ∙ pop_more o look n first v (values_of d stack) g
      ∙ elim (at_or_below place d b) [
        | inl is ↦ ap (λ r. having r o F) (subst (λ q. look (value_of (slot_at stack q)) ≡ None) is nothing)
        | inr below ↦ having_never o (look v) F (λ p. unread n d (Some v) (omega (arith, h)) (omega (arith, h1)) place (omega (arith, a)) below nothing (λ ps f rest. g (p ∷ ps) f rest))
      ]

  pub too_few : (n depth : ℕ) (first : Option Value) → depth < n → depth ≤ length stack →
      (g : List Plain → Option Value → List Value → Run Machine) → pop_operands look n first (values_of depth stack) o g ≡ no_rule o
  too_few zero depth first h h1 g = absurd (omega (arith, h))
  too_few (suc n) zero first h h1 g = ap (λ l. pop_operands look (suc n) first l o g) (none_at stack) ∙ pop_nothing o look n first g
  too_few (suc n) (suc d) first h h1 g =
      let e : d + 1 ≡ suc d = omega arith in
      let v = value_of (slot_at stack d) in
      ap (λ l. pop_operands look (suc n) first l o g) (sym (top_at (suc d) d stack e h1))
      ∙ pop_more o look n first v (values_of d stack) g
      ∙ having_never o (look v) _ (λ p. too_few n d (Some v) (omega (arith, h)) (omega (arith, h1)) (λ ps f rest. g (p ∷ ps) f rest))

-- ---- what is put back

module _ (o : World) (m : Frames) (go : World → Frames → Run Machine) where
  pub not_moved : (first : Option Value) → putting_back put_back first None o m go ≡ go o m
  unfolding putting_back
  not_moved None = refl
  not_moved (Some v) = refl

  pub moved_first : (n depth : ℕ) (stack : List Slot) (t : TextVal) → putting_back put_back (origin n depth None stack) (Some t) o m go ≡ put_back (value_of (first_slot n depth stack)) t o m go
  unfolding putting_back put_back
  moved_first zero depth stack t = refl
  moved_first (suc n) depth stack t = refl

-- ---- a text at an address that is put back

module _ (o : World) (m : Frames) (t : TextVal) (s slot : Slot) (is : value_of slot ≡ Of (Text t)) (go : World → Frames → Run Machine) where
  back_cell : (j : SlotKind) → j ≡ k.Cell → put_back (value_by j s) t o m go ≡ having (place_in (value_by j s)) o (λ place. putting place (value_of slot) o m go)
  unfolding put_back having
  back_cell j e = subst (λ j. put_back (value_by j s) t o m go ≡ having (place_in (value_by j s)) o (λ place. putting place (value_of slot) o m go)) (sym e) (ap (λ v. putting (CellPlace (count_of s.«data») s.more s.class) v o m go) (sym is))

  back_element : (j : SlotKind) → j ≡ k.Element → put_back (value_by j s) t o m go ≡ having (place_in (value_by j s)) o (λ place. putting place (value_of slot) o m go)
  unfolding put_back having
  back_element j e = subst (λ j. put_back (value_by j s) t o m go ≡ having (place_in (value_by j s)) o (λ place. putting place (value_of slot) o m go)) (sym e) (ap (λ v. putting (ElementPlace (count_of s.«data») s.more s.class) v o m go) (sym is))

  back_image : (j : SlotKind) → j ≡ k.Image → put_back (value_by j s) t o m go ≡ having (place_in (value_by j s)) o (λ place. putting place (value_of slot) o m go)
  unfolding put_back having
  back_image j e = subst (λ j. put_back (value_by j s) t o m go ≡ having (place_in (value_by j s)) o (λ place. putting place (value_of slot) o m go)) (sym e) (ap (λ v. putting (ImagePlace s.more) v o m go) (sym is))

pub back_in_cell : (o : World) (m : Frames) (t : TextVal) (s slot : Slot) → value_of slot ≡ Of (Text t) → s.kind ≡ k.Cell → (go : World → Frames → Run Machine) → put_back (value_of s) t o m go ≡ placed_in o m s slot go
back_in_cell o m t s slot is e go = back_cell o m t s slot is go s.kind e

pub back_in_element : (o : World) (m : Frames) (t : TextVal) (s slot : Slot) → value_of slot ≡ Of (Text t) → s.kind ≡ k.Element → (go : World → Frames → Run Machine) → put_back (value_of s) t o m go ≡ placed_in o m s slot go
back_in_element o m t s slot is e go = back_element o m t s slot is go s.kind e

pub back_in_image : (o : World) (m : Frames) (t : TextVal) (s slot : Slot) → value_of slot ≡ Of (Text t) → s.kind ≡ k.Image → (go : World → Frames → Run Machine) → put_back (value_of s) t o m go ≡ placed_in o m s slot go
back_in_image o m t s slot is e go = back_image o m t s slot is go s.kind e

pub back_nowhere : (o : World) (m : Frames) (t : TextVal) (go : World → Frames → Run Machine) (j : SlotKind) (s : Slot) → (j ≡ k.Cell → ⊥) → (j ≡ k.Element → ⊥) → (j ≡ k.Image → ⊥) → put_back (value_by j s) t o m go ≡ go o m
unfolding put_back
back_nowhere o m t go k.Empty s h h2 h3 = refl
back_nowhere o m t go k.Integer s h h2 h3 = refl
back_nowhere o m t go k.Truth s h h2 h3 = refl
back_nowhere o m t go k.Character s h h2 h3 = refl
back_nowhere o m t go k.Text s h h2 h3 = refl
back_nowhere o m t go k.Nothing s h h2 h3 = refl
back_nowhere o m t go k.Object s h h2 h3 = refl
back_nowhere o m t go k.Main s h h2 h3 = refl
back_nowhere o m t go k.Link s h h2 h3 = refl
back_nowhere o m t go k.Cell s h h2 h3 = absurd (h refl)
back_nowhere o m t go k.Element s h h2 h3 = absurd (h2 refl)
back_nowhere o m t go k.Image s h h2 h3 = absurd (h3 refl)
back_nowhere o m t go k.Array s h h2 h3 = refl
back_nowhere o m t go k.Procedure s h h2 h3 = refl
back_nowhere o m t go k.Thunk s h h2 h3 = refl

pub back_from : (l : Limits) (p2 : Storage) (r : Registers) (stack : List Slot) (below : List working.Activation) (before : Option (List ℕ)) (now : Outside) (o : World) (m : Frames) (address slot : Slot) (t : TextVal) (q : Placing) →
    ((go : World → Frames → Run Machine) → put_back (value_of address) t o m go ≡ placed_in o m address slot go) → Places q l p2 r stack below before now o m address slot → PutsBack q l p2 r stack below before now o m address t
back_from l p2 r stack below before now o m address slot t placing.Done is h = record { world = h.world; memory = h.memory; is = λ go. is go ∙ h.is go; stands = h.stands }
back_from l p2 r stack below before now o m address slot t placing.NoRule is h = λ go. is go ∙ h go
back_from l p2 r stack below before now o m address slot t placing.Memory is h = tt
