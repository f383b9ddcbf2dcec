-- Each step leads to less that is pending, or to a tick; so each run comes to an end.
use Rattle.std.proofs.Common.{◌≡◌, ◌≤◌, ◌<◌, ℕ, zero, suc, ◌+◌, true, false, List, [], ◌∷◌, length, Option, Some, None, refl, ◌∙◌, arith}
use Rattle.std.specs.Prelude.{◌==◌}
use Rattle.sim_base.specs.declared.limits.Limits.{Limits}
use Rattle.sim_scope.specs.Source.{Source}
use Rattle.sim_code.specs.Outcome.{Ended, Ending, Going, Run, World, after, first_world}
use Rattle.sim_code.specs.Instances.{no_instances}
use Rattle.sim_meaning.specs.Constants.{constants_of}
use Rattle.sim_meaning.specs.Meaning.{do_chain, do_item, do_work, program_entered, step}
use Rattle.sim_meaning.specs.Pending.{Activation, Configuration, Do, EndBlock, EndEvaluation, EndLevel, EndObject, EndPrefixed, EndProcedure, EndProgram, Instances, Item, Result, Val, cell}
use Rattle.sim_meaning.specs.Levels.{is_simulation_text, levels}
use Rattle.sim_meaning.specs.Texts.{BlockText, PrefixedText, ProcedureText, Text, text}
use Rattle.sim_finite.specs.Coming.{ComesToAnEnd}
use Rattle.code_finite.proofs.Lifts.{Goes, entering_goes, having_goes, none, popping_goes, stops, when_goes}
use Rattle.sim_finite.proofs.Operators.{begun_ticks, evaluated_falls, leaving_falls, object_ended_falls, op_falls}
use Rattle.sim_finite.proofs.Weights.{Lower, chain_weight, item_weight, kept_weight, lighter, ticked, weight, work_weight}

-- ---- one step

module _ (s : Source) (l : Limits) (o : World) where
  abbrev From : ℕ → World → Configuration → Type 0
  From n = Lower l o.ticks n

  item_falls : (m : Instances) (i : ℕ) (w : List Item) (vals : List Val) (rest : List Activation) (x : Item) → Goes (From (item_weight x + work_weight w + chain_weight rest + kept_weight m)) (do_item s l o m i w vals rest x)
  item_falls m i w vals rest (Do op) = op_falls s l o m i w vals rest op
  item_falls m i w vals rest EndBlock = leaving_falls s l o m i (work_weight w) rest None
  item_falls m i w vals rest (EndProcedure true) = having_goes (From (1 + work_weight w + chain_weight rest + kept_weight m)) (cell m i Result) o _ (λ v. leaving_falls s l o m i (work_weight w) rest (Some v))
  item_falls m i w vals rest (EndProcedure false) = leaving_falls s l o m i (work_weight w) rest None
  item_falls m i w vals rest (EndLevel k) = lighter refl (omega arith)
  item_falls m i w vals rest EndObject = object_ended_falls s l o m i (work_weight w) rest
  item_falls m i w vals rest EndPrefixed = leaving_falls s l o m i (work_weight w) rest None
  item_falls m i w vals rest (EndEvaluation wanted) = popping_goes (From (1 + work_weight w + chain_weight rest + kept_weight m)) vals o _ (λ v vals. evaluated_falls s l o m (work_weight w) rest wanted v)
  item_falls m i w vals rest EndProgram = stops (From (1 + work_weight w + chain_weight rest + kept_weight m)) _ o

  work_falls : (m : Instances) (i : ℕ) (vals : List Val) (rest : List Activation) (w : List Item) → Goes (From (work_weight w + chain_weight rest + kept_weight m)) (do_work s l o m i vals rest w)
  work_falls m i vals rest [] = none (From (0 + chain_weight rest + kept_weight m)) o
  work_falls m i vals rest (x ∷ w) = item_falls m i w vals rest x

  program_falls : (m : Instances) (x : Option Text) → Goes (From (0 + kept_weight m)) (program_entered s l o m x)
  program_falls m None = none (From (0 + kept_weight m)) o
  program_falls m (Some (BlockText begin ds ss)) = entering_goes (From (0 + kept_weight m)) l _ _ o _ (λ p more most. ticked (omega (arith, more)) most)
  program_falls m (Some (ProcedureText result h a)) = none (From (0 + kept_weight m)) o
  program_falls m (Some (PrefixedText class arguments ds ss)) =
      having_goes (From (0 + kept_weight m)) (levels s 0) o _ (λ xs. entering_goes (From (0 + kept_weight m)) l _ _ o _ (λ p more most.
      let same = begun_ticks (is_simulation_text s 0) (length m.instances) p in ticked (omega (arith, more, same)) (omega (arith, most, same))))
  program_falls m (Some _) = none (From (0 + kept_weight m)) o

  chain_falls : (m : Instances) (chain : List Activation) → Goes (From (chain_weight chain + kept_weight m)) (do_chain s l o m chain)
  chain_falls m [] = when_goes (From (0 + kept_weight m)) (length m.instances == 0) o _ (program_falls m (text s 0))
  chain_falls m (a ∷ rest) = work_falls m a.instance a.values rest a.work

  step_falls : (c : Configuration) → Goes (From (weight c)) (step s l o c)
  step_falls c = chain_falls c.memory c.chain

-- ---- runs

module _ (s : Source) (l : Limits) where
  abbrev EndsFrom : Run Configuration → Type 0
  EndsFrom r = (n : ℕ) × (o : World) × (e : Ending) × (after (step s l) n r ≡ Ended o e)

  abbrev EndsWith : World → Configuration → Type 0
  EndsWith o c = EndsFrom (Going o c)

  -- as long as no tick is taken, less is pending after each step
  until_tick : (ticks : ℕ) → ((p : World) (d : Configuration) → ticks < p.ticks → p.ticks ≤ l.ticks → EndsWith p d) → (n : ℕ) (o : World) (c : Configuration) → o.ticks ≡ ticks → weight c < n → EndsWith o c
  until_tick ticks again zero o c same few = absurd (omega (arith, few))
  until_tick ticks again (suc n) o c same few =
      let f = from_run (step s l o c) (step_falls s l o c) (λ p d kept less. until_tick ticks again n p d kept less) in (suc f.0, f.1, f.2, f.3)
    where
      from_run : (r : Run Configuration) → Goes (Lower l o.ticks (weight c)) r → ((p : World) (d : Configuration) → p.ticks ≡ ticks → weight d < n → EndsWith p d) → EndsFrom r
      from_run (Ended p e) f on = (0, p, e, refl)
      from_run (Going p d) (lighter kept less) on = on p d (kept ∙ same) (omega (arith, less, few))
      from_run (Going p d) (ticked more most) on = again p d (omega (arith, more, same)) most

  -- so many ticks are left at most
  with_ticks : (k : ℕ) (o : World) (c : Configuration) → l.ticks ≤ o.ticks + k → EndsWith o c
  with_ticks zero o c left = until_tick o.ticks (λ p d more most. absurd (omega (arith, more, most, left))) (suc (weight c)) o c refl (omega arith)
  with_ticks (suc k) o c left = until_tick o.ticks (λ p d more most. with_ticks k p d (omega (arith, more, left))) (suc (weight c)) o c refl (omega arith)

pub comes_to_an_end : (s : Source) (l : Limits) (input : List ℕ) → ComesToAnEnd s l input
comes_to_an_end s l input =
    let e = with_ticks s l l.ticks (first_world (constants_of s) l input) no_instances (omega arith) in record { steps = e.0; world = e.1; ending = e.2; ends = e.3 }
