-- Rows that go from stage to stage.
use Rattle.std.proofs.Common.{◌≡◌, ℕ, zero, suc, ◌-◌, ◌<◌, List, sym, refl, ap, ◌∙◌, arith}
use Rattle.std.specs.Prelude.{ℤ, true, false, Option, Some, None, slice_get}
use Rattle.sim_base.specs.declared.limits.Limits.{Limits}
use Rattle.sim_code.specs.declared.instr.Instr.TheVariants as i
use Rattle.sim_code.specs.declared.instr.Lined.{Lined}
use Rattle.sim_code.specs.declared.stage.Stage.TheVariants as stage
use Rattle.sim_code.specs.declared.stage.Stage.{Stage}
use Rattle.sim_code.specs.Code.{ClassOf, CodeOf}
use Rattle.sim_code.specs.Classes.{class_of, levels_in}
use Rattle.sim_code.specs.Events.{having, no_rule, when}
use Rattle.sim_code.specs.Levels.{after_declarations, at_inner, at_stage, class_at_level, leading, level_ended, own_levels, same_stage}
use Rattle.sim_code.specs.Machine.{Activation, Frames, Machine, index, number, on}
use Rattle.sim_code.specs.Outcome.{Run, World}
use Rattle.frame_arena.specs.declared.slot.Slot.{Slot}
use Rattle.object_machine.specs.declared.levels.Part.{Part}
use Rattle.object_machine.specs.declared.levels.Part.TheVariants as part
use Rattle.object_machine.specs.declared.machine.Registers.{Registers}
use Rattle.object_machine.specs.Keeping.{owner_at}
use Rattle.object_machine.specs.Levelling.{index_in}
use Rattle.object_machine.specs.Standing.{activation_at}

-- an operand that is an index
pub index_none : (z : ℤ) (o : World) (go : ℕ → Run Machine) → None ≡ number z → index z o go ≡ no_rule o
unfolding index having
index_none z o go e = ap (λ q. having q o go) (sym e)

pub index_is : (z : ℤ) (n : ℕ) (o : World) (go : ℕ → Run Machine) → Some n ≡ number z → index z o go ≡ go n
unfolding index having
index_is z n o go e = ap (λ q. having q o go) (sym e)

module _ (code : CodeOf) (m : Frames) (r : Registers) (stack : List Slot) (s : Stage) (o : World) (go : List ℕ → Run Machine) where
  pub stage_wrong : same_stage r.stage s ≡ false → own_levels code m (activation_at r stack) s o go ≡ no_rule o
  unfolding own_levels when
  stage_wrong e = ap (λ b. when b o (having (owner_at r) o (λ j. having (levels_in code (class_of code m j)) o go))) e

  owned_at : same_stage r.stage s ≡ true → (q : Option ℕ) → owner_at r ≡ q → own_levels code m (activation_at r stack) s o go ≡ having q o (λ j. having (levels_in code (class_of code m j)) o go)
  unfolding own_levels when
  owned_at e q owned = ap (λ b. when b o (having (owner_at r) o (λ j. having (levels_in code (class_of code m j)) o go))) e ∙ ap (λ q. having q o (λ j. having (levels_in code (class_of code m j)) o go)) owned

  pub levels_of_thunk : same_stage r.stage s ≡ true → owner_at r ≡ None → own_levels code m (activation_at r stack) s o go ≡ no_rule o
  unfolding having
  levels_of_thunk e owned = owned_at e None owned

  pub levels_missing : same_stage r.stage s ≡ true → owner_at r ≡ Some r.home.stamp → levels_in code (class_of code m r.home.stamp) ≡ None → own_levels code m (activation_at r stack) s o go ≡ no_rule o
  unfolding having
  levels_missing e owned h = owned_at e (Some r.home.stamp) owned ∙ ap (λ q. having q o go) h

  pub levels_found : (cs : List ℕ) → same_stage r.stage s ≡ true → owner_at r ≡ Some r.home.stamp → levels_in code (class_of code m r.home.stamp) ≡ Some cs → own_levels code m (activation_at r stack) s o go ≡ go cs
  unfolding having
  levels_found cs e owned h = owned_at e (Some r.home.stamp) owned ∙ ap (λ q. having q o go) h

pub leads_nowhere : (code : CodeOf) (q : ℕ) (o : World) (go : Run Machine) → slice_get code.instrs q ≡ None → leading code q o go ≡ no_rule o
unfolding leading having
leads_nowhere code q o go e = ap (λ x. having x o (λ y. go)) e

pub leads_there : (code : CodeOf) (q : ℕ) (x : Lined) (o : World) (go : Run Machine) → slice_get code.instrs q ≡ Some x → leading code q o go ≡ go
unfolding leading having
leads_there code q x o go e = ap (λ x. having x o (λ y. go)) e

-- a part of a class that begins at an index
pub record Begins (p : Part) (q : Option ClassOf) (start : ℕ) : Type 0 where
  pub x : ClassOf
  pub there : q ≡ Some x
  pub is : index_in p (Some x) ≡ Some start

pub begins : (p : Part) (q : Option ClassOf) (start : ℕ) → Some start ≡ index_in p q → Begins p q start
begins p None start e = absurd (cc)
begins p (Some x) start e = record { x = x; there = refl; is = sym e }

pub begins_nowhere : (p : Part) (q : Option ClassOf) → None ≡ index_in p q → q ≡ None
begins_nowhere p None e = refl
begins_nowhere part.Declarations (Some x) e = absurd (cc)
begins_nowhere part.Statements (Some x) e = absurd (cc)
begins_nowhere part.AfterInner (Some x) e = absurd (cc)

module _ (code : CodeOf) (l : Limits) (o : World) (m : Frames) (a : Activation) (below : List Activation) where
  abbrev pub InnerEnd : ℕ → Run Machine
  InnerEnd n = own_levels code m a (stage.Behind n) o (λ cs. having (class_at_level code cs (n - 1)) o (λ x. at_stage code o m a below (stage.Behind (n - 1)) x.after_inner))

  pub inner_ends : (n : ℕ) → 0 < n → level_ended code l o m a below n ≡ InnerEnd n
  inner_ends zero h = absurd (omega (arith, h))
  inner_ends (suc n) h =
      let e : n ≡ suc n - 1 = omega arith in
      ap (λ k. own_levels code m a (stage.Behind (suc n)) o (λ cs. having (class_at_level code cs k) o (λ x. at_stage code o m a below (stage.Behind k) x.after_inner))) e

  -- the level around one begins again behind its `inner`
  pub behind_inner : (cs : List ℕ) (k k2 start : ℕ) (x : ClassOf) → class_at_level code cs k ≡ Some x → k ≡ k2 → x.after_inner ≡ start →
      having (class_at_level code cs k) o (λ x. at_stage code o m a below (stage.Behind k) x.after_inner) ≡ at_stage code o m a below (stage.Behind k2) start
  unfolding having
  behind_inner cs k k2 start x h e e2 =
      ap (λ q. having q o (λ x. at_stage code o m a below (stage.Behind k) x.after_inner)) h ∙ ap (λ k. at_stage code o m a below (stage.Behind k) x.after_inner) e ∙ ap (λ q. at_stage code o m a below (stage.Behind k2) q) e2

  pub behind_nothing : (cs : List ℕ) (k : ℕ) → class_at_level code cs k ≡ None → having (class_at_level code cs k) o (λ x. at_stage code o m a below (stage.Behind k) x.after_inner) ≡ no_rule o
  unfolding having
  behind_nothing cs k h = ap (λ q. having q o (λ x. at_stage code o m a below (stage.Behind k) x.after_inner)) h

  -- behind the declarations of a level
  pub to_declarations : (n n2 start : ℕ) (cs : List ℕ) (q : Option ClassOf) (x : ClassOf) → q ≡ Some x → suc n ≡ n2 → x.declarations ≡ start →
      after_declarations code o m a below n cs q ≡ at_stage code o m a below (stage.Declaring n2) start
  to_declarations n n2 start cs q x h e e2 =
      ap (λ q. after_declarations code o m a below n cs q) h ∙ ap (λ k. at_stage code o m a below (stage.Declaring k) x.declarations) e ∙ ap (λ q. at_stage code o m a below (stage.Declaring n2) q) e2

  pub to_statements : (n start : ℕ) (cs : List ℕ) (q : Option ClassOf) (x : ClassOf) → q ≡ None → class_at_level code cs 0 ≡ Some x → x.statements ≡ start →
      after_declarations code o m a below n cs q ≡ at_stage code o m a below (stage.Stating 0) start
  unfolding having
  to_statements n start cs q x h there e =
      ap (λ q. after_declarations code o m a below n cs q) h ∙ ap (λ q. having q o (λ x. at_stage code o m a below (stage.Stating 0) x.statements)) there ∙ ap (λ q. at_stage code o m a below (stage.Stating 0) q) e

  pub to_none : (n : ℕ) (cs : List ℕ) (q : Option ClassOf) → q ≡ None → class_at_level code cs 0 ≡ None → after_declarations code o m a below n cs q ≡ no_rule o
  unfolding having
  to_none n cs q h there =
      ap (λ q. after_declarations code o m a below n cs q) h ∙ ap (λ q. having q o (λ x. at_stage code o m a below (stage.Stating 0) x.statements)) there

  -- at `inner`
  pub to_inner : (n n2 start : ℕ) (q : Option ClassOf) (x : ClassOf) → q ≡ Some x → suc n ≡ n2 → x.statements ≡ start → at_inner code o m a below n q ≡ at_stage code o m a below (stage.Stating n2) start
  to_inner n n2 start q x h e e2 =
      ap (λ q. at_inner code o m a below n q) h ∙ ap (λ k. at_stage code o m a below (stage.Stating k) x.statements) e ∙ ap (λ q. at_stage code o m a below (stage.Stating n2) q) e2

  pub past_inner : (n n2 : ℕ) (q : Option ClassOf) → q ≡ None → n ≡ n2 → at_inner code o m a below n q ≡ on o m (record a { stage = stage.Behind n2 }) a.stack below
  past_inner n n2 q h e = ap (λ q. at_inner code o m a below n q) h ∙ ap (λ k. on o m (record a { stage = stage.Behind k }) a.stack below) e

-- some instruction
abbrev pub first_line : Lined
first_line = record { instr = i.Halt; line = record { 0 = 0 } }
