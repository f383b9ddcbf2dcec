-- Objects and prefixed blocks that are entered.
use Rattle.std.proofs.Common.{◌≡◌, ℕ, List, [], sym, refl, ap, ◌∙◌, arith}
use Rattle.std.specs.Prelude.{ℤ, true, false, ◌==◌, Option, Some, None, slice_get}
use Rattle.sim_code.specs.declared.code.BlockKind.{BlockKind}
use Rattle.sim_code.specs.declared.code.BlockKind.TheVariants as block
use Rattle.sim_code.specs.declared.instr.Lined.{Lined}
use Rattle.sim_code.specs.Code.{BlockOf, ClassOf, CodeOf}
use Rattle.sim_code.specs.Classes.{class_named, class_numbered, levels}
use Rattle.sim_code.specs.Events.{having, no_rule, pop_many, popping, when}
use Rattle.sim_code.specs.Instances.{is_live}
use Rattle.sim_code.specs.Levels.{class_at_level, leading, levelled, objects_of}
use Rattle.sim_code.specs.Machine.{Frames, Machine, Value, frame_in, index, link_in, number, same_kind}
use Rattle.sim_code.specs.Outcome.{Run, World}
use Rattle.frame_arena.specs.declared.frames.Frame.{Frame}
use Rattle.frame_arena.specs.declared.slot.Slot.{Slot}
use Rattle.frame_arena.specs.declared.slot.SlotKind.{SlotKind}
use Rattle.frame_arena.specs.declared.slot.SlotKind.TheVariants as k
use Rattle.frame_arena.specs.Slots.{value_by, value_of}
use Rattle.object_machine.specs.Calling.{IsParent}
use Rattle.object_machine.specs.Generating.{Enclosing, IsEncloser, linked, names_link}
use Rattle.object_machine.proofs.Scalars.{off}
use Rattle.object_machine.proofs.StageRows.{leads_nowhere, leads_there}

-- ---- links

link_by : (j : SlotKind) (s : Slot) → names_link j ≡ true → link_in (value_by j s) ≡ frame_in (value_by j s)
link_by k.Link s e = refl
link_by k.Empty s e = absurd (off e)
link_by k.Integer s e = absurd (off e)
link_by k.Truth s e = absurd (off e)
link_by k.Character s e = absurd (off e)
link_by k.Text s e = absurd (off e)
link_by k.Nothing s e = absurd (off e)
link_by k.Object s e = absurd (off e)
link_by k.Main s e = absurd (off e)
link_by k.Cell s e = absurd (off e)
link_by k.Element s e = absurd (off e)
link_by k.Image s e = absurd (off e)
link_by k.Array s e = absurd (off e)
link_by k.Procedure s e = absurd (off e)
link_by k.Thunk s e = absurd (off e)

other_by : (j : SlotKind) (s : Slot) → names_link j ≡ false → link_in (value_by j s) ≡ None
other_by k.Link s e = absurd (off (sym e))
other_by k.Empty s e = refl
other_by k.Integer s e = refl
other_by k.Truth s e = refl
other_by k.Character s e = refl
other_by k.Text s e = refl
other_by k.Nothing s e = refl
other_by k.Object s e = refl
other_by k.Main s e = refl
other_by k.Cell s e = refl
other_by k.Element s e = refl
other_by k.Image s e = refl
other_by k.Array s e = refl
other_by k.Procedure s e = refl
other_by k.Thunk s e = refl

pub no_encloser : (m : Frames) (s : Slot) (o : World) (go : ℕ → Run Machine) → names_link s.kind ≡ false → Enclosing m s o go ≡ no_rule o
unfolding having
no_encloser m s o go e = ap (λ q. having q o (λ parent. when (is_live m parent) o (go parent))) (other_by s.kind s e)

as_parent : (m : Frames) (s : Slot) (o : World) (go : ℕ → Run Machine) → names_link s.kind ≡ true → Enclosing m s o go ≡ having (frame_in (value_of s)) o (λ parent. when (is_live m parent) o (go parent))
as_parent m s o go e = ap (λ q. having q o (λ parent. when (is_live m parent) o (go parent))) (link_by s.kind s e)

pub encloser : (q : Option _) (frames : List Frame) (m : Frames) (s : Slot) → names_link s.kind ≡ true → IsParent q frames m s → IsEncloser q frames m s
encloser None frames m s e h = λ o go. as_parent m s o go e ∙ h o go
encloser (Some f) frames m s e h = (h.0, λ o go. as_parent m s o go e ∙ h.1 o go)

module _ (m : Frames) (z : ℤ) (values : List Value) (o : World) (go : List Value → List Value → ℕ → Run Machine) where
  abbrev pub UnderValues : List Value → List Value → Run Machine
  UnderValues vs stack = popping stack o (λ v stack. having (link_in v) o (λ parent. when (is_live m parent) o (go vs stack parent)))

  abbrev pub LinkedBy : ℕ → Run Machine
  LinkedBy n = pop_many n [] values o (λ vs stack. UnderValues vs stack)

  pub not_counted : None ≡ number z → linked m z values o go ≡ no_rule o
  unfolding index having
  not_counted e = ap (λ q. having q o (λ n. LinkedBy n)) (sym e)

  pub counted : (n : ℕ) → Some n ≡ number z → linked m z values o go ≡ LinkedBy n
  unfolding index having
  counted n e = ap (λ q. having q o (λ n. LinkedBy n)) (sym e)

-- ---- blocks with levels

module _ (code : CodeOf) (kind : BlockKind) (n : ℕ) (o : World) (go : BlockOf → ℕ → Run Machine) where
  abbrev First : BlockOf → List ℕ → Run Machine
  First b cs = having (class_at_level code cs 0) o (λ x. leading code x.declarations o (go b x.declarations))

  abbrev OfBlock : BlockOf → Run Machine
  OfBlock b = when (same_kind b.kind kind) o (having (levels code b.class) o (λ cs. First b cs))

  pub no_block_there : slice_get code.blocks n ≡ None → levelled code kind n o go ≡ no_rule o
  unfolding levelled having
  no_block_there e = ap (λ q. having q o OfBlock) e

  module _ (b : BlockOf) (there : slice_get code.blocks n ≡ Some b) where
    of_block : levelled code kind n o go ≡ OfBlock b
    unfolding levelled having
    of_block = ap (λ q. having q o OfBlock) there

    pub other_kind_there : same_kind b.kind kind ≡ false → levelled code kind n o go ≡ no_rule o
    unfolding when
    other_kind_there e = of_block ∙ ap (λ c. when c o (having (levels code b.class) o (λ cs. First b cs))) e

    with_kind : same_kind b.kind kind ≡ true → levelled code kind n o go ≡ having (levels code b.class) o (λ cs. First b cs)
    unfolding when
    with_kind e = of_block ∙ ap (λ c. when c o (having (levels code b.class) o (λ cs. First b cs))) e

    pub no_levels_there : same_kind b.kind kind ≡ true → levels code b.class ≡ None → levelled code kind n o go ≡ no_rule o
    unfolding having
    no_levels_there e h = with_kind e ∙ ap (λ q. having q o (λ cs. First b cs)) h

    with_levels : (cs : List ℕ) → same_kind b.kind kind ≡ true → levels code b.class ≡ Some cs → levelled code kind n o go ≡ First b cs
    unfolding having
    with_levels cs e h = with_kind e ∙ ap (λ q. having q o (λ cs. First b cs)) h

    pub no_first_there : (cs : List ℕ) → same_kind b.kind kind ≡ true → levels code b.class ≡ Some cs → class_at_level code cs 0 ≡ None → levelled code kind n o go ≡ no_rule o
    unfolding having
    no_first_there cs e h f = with_levels cs e h ∙ ap (λ q. having q o (λ x. leading code x.declarations o (go b x.declarations))) f

    with_first : (cs : List ℕ) (x : ClassOf) (start : ℕ) → same_kind b.kind kind ≡ true → levels code b.class ≡ Some cs → class_at_level code cs 0 ≡ Some x → x.declarations ≡ start → levelled code kind n o go ≡ leading code start o (go b start)
    unfolding having
    with_first cs x start e h f d = with_levels cs e h ∙ ap (λ q. having q o (λ x. leading code x.declarations o (go b x.declarations))) f ∙ ap (λ k. leading code k o (go b k)) d

    pub leads_off : (cs : List ℕ) (x : ClassOf) (start : ℕ) → same_kind b.kind kind ≡ true → levels code b.class ≡ Some cs → class_at_level code cs 0 ≡ Some x → x.declarations ≡ start → slice_get code.instrs start ≡ None → levelled code kind n o go ≡ no_rule o
    leads_off cs x start e h f d i = with_first cs x start e h f d ∙ leads_nowhere code start o _ i

    pub leads_on : (cs : List ℕ) (x : ClassOf) (start : ℕ) (y : Lined) → same_kind b.kind kind ≡ true → levels code b.class ≡ Some cs → class_at_level code cs 0 ≡ Some x → x.declarations ≡ start → slice_get code.instrs start ≡ Some y → levelled code kind n o go ≡ go b start
    leads_on cs x start y e h f d i = with_first cs x start e h f d ∙ leads_there code start y o _ i

-- ---- the objects of a class

module _ (code : CodeOf) (z : ℤ) (o : World) (go : ℕ → BlockOf → ℕ → Run Machine) where
  abbrev OfRecord : ℕ → ClassOf → Run Machine
  OfRecord c x = levelled code block.Object x.block o (λ b start. when (b.class == c) o (go x.block b start))

  pub no_class_there : None ≡ class_named code z → objects_of code z o go ≡ no_rule o
  unfolding objects_of having
  no_class_there e = ap (λ q. having q o (λ c. having (class_numbered code c) o (λ x. OfRecord c x))) (sym e)

  pub of_class : (c : ℕ) (q : Option ClassOf) → Some c ≡ class_named code z → class_numbered code c ≡ q → objects_of code z o go ≡ having q o (λ x. OfRecord c x)
  unfolding objects_of having
  of_class c q e h = ap (λ q. having q o (λ c. having (class_numbered code c) o (λ x. OfRecord c x))) (sym e) ∙ ap (λ q. having q o (λ x. OfRecord c x)) h

  pub no_record_there : (c : ℕ) → Some c ≡ class_named code z → class_numbered code c ≡ None → objects_of code z o go ≡ no_rule o
  unfolding having
  no_record_there c e h = of_class c None e h

  pub of_record : (c : ℕ) (x : ClassOf) (n : ℕ) → Some c ≡ class_named code z → class_numbered code c ≡ Some x → x.block ≡ n → objects_of code z o go ≡ levelled code block.Object n o (λ b start. when (b.class == c) o (go n b start))
  unfolding having
  of_record c x n e h same = of_class c (Some x) e h ∙ ap (λ n. levelled code block.Object n o (λ b start. when (b.class == c) o (go n b start))) same

  pub of_other_class : (b : BlockOf) (c n start : ℕ) → (b.class ≡ c → ⊥) → when (b.class == c) o (go n b start) ≡ no_rule o
  unfolding when
  of_other_class b c n start h = let e : (b.class == c) ≡ false = grind (arith, h) in ap (λ t. when t o (go n b start)) e

  pub of_this_class : (b : BlockOf) (c n start : ℕ) → b.class ≡ c → when (b.class == c) o (go n b start) ≡ go n b start
  unfolding when
  of_this_class b c n start h = let e : (b.class == c) ≡ true = grind (arith, h) in ap (λ t. when t o (go n b start)) e
