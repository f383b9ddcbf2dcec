-- How much a frame has still to do: no more rows can come between two ticks.
use Rattle.std.proofs.Common.{◌≡◌, ◌≤◌, ◌<◌, ℕ, zero, suc, ◌+◌, Bool, true, false, List, [], ◌∷◌, length, Option, Some, None, refl, arith}
use Rattle.std.proofs.lemmas.Bool.Decides.{nat_tests}
use Rattle.std.specs.Prelude.{◌-◌, nat_lt, if◌then◌else◌, slice_get}
use Rattle.sim_base.specs.declared.limits.Limits.{Limits}
use Rattle.sim_chains.specs.Components.{Standing}
use Rattle.sim_code.specs.declared.stage.Stage.{Stage}
use Rattle.sim_code.specs.declared.stage.Stage.TheVariants as stage
use Rattle.sim_code.specs.Code.{CodeOf}
use Rattle.sim_code.specs.Outcome.{World}
use Rattle.sim_code.specs.Machine.{Activation, Frames, Machine, is_there, is_tick}
use Rattle.sim_code.specs.Formals.{runs_inside}
use Rattle.code_finite.proofs.Transfers as each

-- ---- products and powers

abbrev pub times : ℕ → ℕ → ℕ
times zero u = 0
times (suc n) u = u + times n u

pub times_less : (n k u : ℕ) → n < k → u + times n u ≤ times k u
times_less n zero u less = absurd (omega (arith, less))
times_less zero (suc k) u less = omega arith
times_less (suc n) (suc k) u less = omega (arith, times_less n k u (omega (arith, less)))

times_most : (n k u : ℕ) → n ≤ k → times n u ≤ times k u
times_most zero k u less = omega arith
times_most (suc n) zero u less = absurd (omega (arith, less))
times_most (suc n) (suc k) u less = omega (arith, times_most n k u (omega (arith, less)))

abbrev pub power : (base exponent : ℕ) → ℕ
power n zero = 1
power n (suc d) = times (suc n) (power n d)

power_some : (n d : ℕ) → 1 ≤ power n d
power_some n zero = omega arith
power_some n (suc d) = omega (arith, power_some n d)

power_most : (n d e : ℕ) → d ≤ e → power n d ≤ power n e
power_most n zero e less = power_some n e
power_most n (suc d) zero less = absurd (omega (arith, less))
power_most n (suc d) (suc e) less = by_base (suc n) (power_most n d e (omega (arith, less)))
  where
    by_base : (k : ℕ) → power n d ≤ power n e → times k (power n d) ≤ times k (power n e)
    by_base zero less = omega arith
    by_base (suc k) less = omega (arith, less, by_base k less)

-- ---- places in lists

pub found_within : {A : Type 0} (xs : List A) (n : ℕ) (x : A) → slice_get xs n ≡ Some x → n < length xs
found_within [] n x is = absurd (cc)
found_within (y ∷ ys) zero x is = omega arith
found_within (y ∷ ys) (suc n) x is = omega (arith, found_within ys n x is)

-- ---- one frame

module _ (code : CodeOf) where
  abbrev pub size : ℕ
  size = length code.instrs

  abbrev pub depth : ℕ
  depth = length code.classes

  abbrev pub count : ℕ
  count = length code.thunks

  -- A row of a frame counts for more than all that a thunk does which is run inside it without a tick.
  abbrev pub unit : Option ℕ → ℕ
  unit None = power size (suc count)
  unit (Some t) = power size (count - t)

  -- the stages that are still to come
  abbrev pub stage_weight : Stage → ℕ
  stage_weight stage.NoStage = 0
  stage_weight (stage.Behind n) = depth - (depth - n)
  stage_weight (stage.Stating n) = suc depth + (depth - n)
  stage_weight (stage.Declaring n) = suc depth + (suc depth + (depth - n))

  -- the rows that may come, each stage having as many as there are instructions
  abbrev pub rows_left : Stage → (pc : ℕ) → ℕ
  rows_left s pc = times (stage_weight s) (suc size) + (size - pc)

  abbrev pub work : Option ℕ → Stage → (pc : ℕ) → ℕ
  work thunk s pc = times (rows_left s pc) (unit thunk)

  -- At a tick there is nothing to do before it.
  abbrev pub place_weight : (at_tick : Bool) → Option ℕ → Stage → (pc : ℕ) → ℕ
  place_weight true thunk s pc = 0
  place_weight false thunk s pc = work thunk s pc

  abbrev pub activation_weight : Activation → ℕ
  activation_weight a = place_weight (is_tick (slice_get code.instrs a.pc)) a.thunk a.stage a.pc

  -- ---- what makes it less

  at_most : (b : Bool) (thunk : Option ℕ) (s : Stage) (pc : ℕ) → place_weight b thunk s pc ≤ work thunk s pc
  at_most true thunk s pc = omega arith
  at_most false thunk s pc = omega arith

  pub unit_some : (thunk : Option ℕ) → 1 ≤ unit thunk
  unit_some None = power_some size (suc count)
  unit_some (Some t) = power_some size (count - t)

  pub work_some : (thunk : Option ℕ) (s : Stage) (pc : ℕ) → pc < size → 1 ≤ work thunk s pc
  work_some thunk s pc here = omega (arith, times_less 0 (rows_left s pc) (unit thunk) (omega (arith, here)), unit_some thunk)

  -- fewer rows may come
  fewer : (b : Bool) (thunk : Option ℕ) (s r : Stage) (pc q : ℕ) → rows_left r q < rows_left s pc → unit thunk + place_weight b thunk r q ≤ work thunk s pc
  fewer b thunk s r pc q less = omega (arith, at_most b thunk r q, times_less (rows_left r q) (rows_left s pc) (unit thunk) less)

  pub further : (a : Activation) (q : ℕ) → a.pc < q → a.pc < size → unit a.thunk + place_weight (is_tick (slice_get code.instrs q)) a.thunk a.stage q ≤ work a.thunk a.stage a.pc
  further a q less here = fewer (is_tick (slice_get code.instrs q)) a.thunk a.stage a.stage a.pc q (omega (arith, less, here))

  pub later_stage : (a : Activation) (s : Stage) (q : ℕ) → stage_weight s < stage_weight a.stage → unit a.thunk + place_weight (is_tick (slice_get code.instrs q)) a.thunk s q ≤ work a.thunk a.stage a.pc
  later_stage a s q less =
      fewer (is_tick (slice_get code.instrs q)) a.thunk a.stage s a.pc q (omega (arith, times_less (stage_weight s) (stage_weight a.stage) (suc size) less))

  -- a jump back leads to a tick
  pub jumped : (a : Activation) (q : ℕ) → a.pc < size → (if nat_lt a.pc q then is_there (slice_get code.instrs q) else is_tick (slice_get code.instrs q)) ≡ true
      → place_weight (is_tick (slice_get code.instrs q)) a.thunk a.stage q < work a.thunk a.stage a.pc
  jumped a q here holds = by_order (nat_lt a.pc q) refl (is_tick (slice_get code.instrs q)) refl holds
    where
      above : nat_lt a.pc q ≡ true → a.pc < q
      above h = grind (arith, nat_tests)

      by_order : (b : Bool) → nat_lt a.pc q ≡ b → (tick : Bool) → is_tick (slice_get code.instrs q) ≡ tick → (if b then is_there (slice_get code.instrs q) else tick) ≡ true → place_weight tick a.thunk a.stage q < work a.thunk a.stage a.pc
      by_order b is true at holds = work_some a.thunk a.stage a.pc here
      by_order true is false at holds = omega (arith, fewer false a.thunk a.stage a.stage a.pc q (omega (arith, above is, here)), unit_some a.thunk)
      by_order false is false at holds = absurd (cc)

  -- a thunk that is run inside another one, or inside a frame, has less to do than one row of that
  inside_less : (outer : Option ℕ) (t : ℕ) → t < count → runs_inside outer t ≡ true → power size (suc (count - t)) ≤ unit outer
  inside_less None t there runs = power_most size (suc (count - t)) (suc count) (omega arith)
  inside_less (Some s) t there runs = power_most size (suc (count - t)) (count - s) (omega (arith, there, after runs))
    where
      after : nat_lt s t ≡ true → s < t
      after h = grind (arith, nat_tests)

  thunk_work : (t q : ℕ) → work (Some t) stage.NoStage q ≤ times size (power size (count - t))
  thunk_work t q = times_most (rows_left stage.NoStage q) size (power size (count - t)) (omega arith)

  pub thunk_less : (outer : Option ℕ) (t q : ℕ) → t < count → runs_inside outer t ≡ true → place_weight (is_tick (slice_get code.instrs q)) (Some t) stage.NoStage q < unit outer
  thunk_less outer t q there runs =
      omega (arith, at_most (is_tick (slice_get code.instrs q)) (Some t) stage.NoStage q, thunk_work t q, power_some size (count - t), inside_less outer t there runs)

  -- ---- all chains

  abbrev pub chain_weight : List Activation → ℕ
  chain_weight chain = each.chain_weight activation_weight chain

  abbrev pub standings_weight : List (Standing Activation) → ℕ
  standings_weight standings = each.standings_weight activation_weight standings

  abbrev pub kept_weight : Frames → ℕ
  kept_weight m = standings_weight m.standings

  -- on the operating chain, and on those that are kept
  abbrev pub weight : Machine → ℕ
  weight s = chain_weight s.chain + kept_weight s.memory

  -- There is less to do than before, or a tick was taken.
  pub data Lower (l : Limits) (ticks before : ℕ) (o : World) (s : Machine) : Type 0 where
    lighter : o.ticks ≡ ticks → weight s < before → Lower l ticks before o s
    ticked : ticks < o.ticks → o.ticks ≤ l.ticks → Lower l ticks before o s
