-- Each row leaves less to do, or takes a tick.
use Rattle.std.proofs.Common.{◌≡◌, ◌≤◌, ◌<◌, ℕ, zero, suc, ◌+◌, List, [], ◌∷◌, ◌++◌, length, Option, Some, None, true, refl, subst, ◌∙◌, arith}
use Rattle.std.specs.Prelude.{◌==◌, ◌*◌, ℤ, pos, nat_lt, slice_get, Result, Ok, Err}
use Rattle.sim_base.specs.declared.limits.Limits.{Limits}
use Rattle.sim_base.specs.declared.run_error.RunError.{RunError}
use Rattle.sim_values.specs.declared.operators.Dyadic.{Dyadic}
use Rattle.sim_values.specs.declared.operators.Monadic.{Monadic}
use Rattle.sim_values.specs.declared.standard.Standard.{Standard}
use Rattle.notices.specs.declared.next.Next.{Next}
use Rattle.notices.specs.declared.next.Next.TheVariants as next
use Rattle.notices.specs.declared.notice.Notice.{Notice}
use Rattle.notices.specs.Scheduling.{next_of}
use Rattle.sim_values.specs.Plain.{Plain, Integer, Truth, Character, Text, Object, MainOf, Nothing}
use Rattle.sim_values.specs.Store.{image_at}
use Rattle.sim_chains.specs.Chains.{Cut, cut_at}
use Rattle.sim_chains.specs.Components.{AttachedObject, Components, DetachedObject, NoObject, ResumedObject, Standing, TerminatedObject}
use Rattle.sim_code.specs.declared.code.BlockKind.{BlockKind}
use Rattle.sim_code.specs.declared.code.BlockKind.TheVariants as block
use Rattle.sim_code.specs.declared.code.CodeFormal.{CodeFormal}
use Rattle.sim_code.specs.declared.code.ThunkRecord.{ThunkRecord}
use Rattle.sim_code.specs.declared.instr.Instr.{Instr}
use Rattle.sim_code.specs.declared.instr.Instr.TheVariants as i
use Rattle.sim_code.specs.declared.instr.Lined.{Lined}
use Rattle.sim_code.specs.declared.stage.Stage.{Stage}
use Rattle.sim_code.specs.declared.stage.Stage.TheVariants as stage
use Rattle.sim_code.specs.Code.{BlockOf, ClassOf, CodeOf}
use Rattle.sim_code.specs.Outcome.{Simulation, World}
use Rattle.sim_code.specs.Events.{computing, having, ticking}
use Rattle.sim_code.specs.Instances.{encloser_of, ended_as, going_below, is_given_at_end, is_live, main_goes_on, object_ended, system_head}
use Rattle.sim_code.specs.Sets.{enrolled, is_set_name}
use Rattle.sim_code.specs.Simulations.{is_process_name, is_simulation_name, with_simulation}
use Rattle.sim_code.specs.Scheduling.{component_of, deciding, going_to}
use Rattle.sim_code.specs.Transfers.{Calling, Detaching, Resuming, Transfer, component_in, transferred, transferring}
use Rattle.sim_code.specs.Machine.{Activation, array_in, arrays_among, arrays_by_value, ArrayValue, at, cell, cell_set, frame_in, Frames, has_cell, is_roomy, is_tick, jumping, leaving, link_in, Machine, Of, on, operand, owner, place_in, plain, procedure_in, thunk_in, Value, value_at, variable_in, waiting, words_of_block}
use Rattle.sim_code.specs.Classes.{class_named, class_of, in_process, is_in, is_of, levels_in}
use Rattle.sim_code.specs.Levels.{after_declarations, at_inner, at_stage, class_at_level, declarations_done, ended_by_kind, ending_process, entering_prefixed, generating, inner_reached, is_process_class, is_simulation_class, level_ended, linkage_of_class, outermost_ended, same_stage, words_of_object}
use Rattle.sim_code.specs.Rows.{activation_of, checking, code_of, comparison_of, decided, element_kind, entering_frame, entering_procedure, entering_value, one_row, on_top, parameter_row, pushed, put_back, row, standard_of, standard_row, thunk_ended, thunk_given, thunk_pushed, truth_of, two_row}
use Rattle.sim_code.specs.Formals.{all_fit, class_held, copied_for, formal_in_hand, is_by_name, passing, procedure_of, running_thunk, runs_inside}
use Rattle.sim_code.specs.Thunks.{in_thunk, instruction_before, is_place, using_name, value_given}
use Rattle.sim_code.specs.Arrays.{handed_over}
use Rattle.code_finite.proofs.Lifts.{Goes, assigning_goes, choosing_goes, computing_goes, copied_goes, copying_goes, counting_goes, entering_goes, finding_goes, having_goes, having_knows, integers_goes, keeping_goes, linkage_goes, making_goes, many_goes, matching_goes, none, object_goes, one_goes, performing_goes, plain_goes, popping_goes, reference_goes, step_goes, stops, suiting_goes, ticking_goes, truth_goes, two_goes, when_goes}
use Rattle.code_finite.proofs.Scheduling.{activation_goes, process_goes, simulation_goes}
use Rattle.code_finite.proofs.Stages.{behind_outward, declarations_last, declarations_next, level_there, statements_last, statements_next}
use Rattle.code_finite.proofs.Transfers.{NotMore, NotMoreIn, given_small, transfer_small}
use Rattle.code_finite.proofs.Weights.{Lower, activation_weight, chain_weight, found_within, further, jumped, kept_weight, later_stage, lighter, place_weight, size, stage_weight, standings_weight, thunk_less, ticked, unit_some, work, work_some}
use Rattle.code_finite.proofs.Words.{any_goes, admitting_goes, back_goes, back_ticks, begun_ticks, block_goes, cell_goes, cell_kept, enrolled_ticks, handed_ticks, index_goes, joined_ticks, jumping_goes, leading_goes, left_kept, level_goes, levelled_goes, locating_goes, objects_goes, own_goes, own_levels_goes, pushing_goes, qualified_goes, qualifying_goes, result_goes, storing_goes, when_knows}

-- a thunk begins on top of a chain
thunk_begins : (P : World → Machine → Type 0) (code : CodeOf) (o : World) (m : Frames) (t home : ℕ) (below : List Activation)
    → ((x : ThunkRecord) → slice_get code.thunks t ≡ Some x → P o (record { chain = record { thunk = Some t; home = home; pc = x.entry; stack = []; room = x.room; stage = stage.NoStage } ∷ below; memory = m }))
    → Goes P (in_thunk code o m t home below)
unfolding in_thunk
thunk_begins P code o m t home below x = when_goes P (is_live m home) o _ (having_knows P (slice_get code.thunks t) o _ (λ y is. having_goes P (slice_get code.instrs y.entry) o _ (λ _. x y is)))

module _ (code : CodeOf) (l : Limits) (o : World) (m : Frames) (a : Activation) (below : List Activation) (here : a.pc < size code) where
  -- what the frame on top may still do, with all that the others have to do
  abbrev full : ℕ
  full = (work code a.thunk a.stage a.pc + chain_weight code below) + kept_weight code m

  abbrev P : World → Machine → Type 0
  P = Lower code l o.ticks full

  -- it goes on behind its instruction
  goes_on : (p : World) (n : Frames) (stack : List Value) → p.ticks ≡ o.ticks → kept_weight code n ≡ kept_weight code m → Goes P (on p n a stack below)
  goes_on p n stack same still = lighter same (omega (arith, still, further code a (suc a.pc) (omega arith) here, unit_some code a.thunk))

  goes : (stack : List Value) → Goes P (on o m a stack below)
  goes stack = goes_on o m stack refl refl

  changes : (p : World) → p.ticks ≡ o.ticks → (stack : List Value) → Goes P (on p m a stack below)
  changes p same stack = goes_on p m stack same refl

  pushed_falls : (v : Value) → Goes P (pushed o m a below v)
  pushed_falls v = pushing_goes P a.room a.stack v o _ goes

  two_falls : (line : ℕ) (op : Dyadic) → Goes P (two_row o m a below line op)
  two_falls line op = two_goes P plain op line a.stack o _ (λ z stack. goes _)

  one_falls : (line : ℕ) (op : Monadic) → Goes P (one_row o m a below line op)
  one_falls line op = one_goes P plain op line a.stack o _ (λ z stack. goes _)

  jump_falls : (stack : List Value) (z : ℤ) → Goes P (jumping code a.pc z o (λ q. at o m a q stack below))
  jump_falls stack z = jumping_goes P code a.pc z o _ (λ q holds. lighter refl (omega (arith, jumped code a q here holds)))

  -- ---- entries, which take a tick

  frame_falls : (line k : ℕ) (b : BlockOf) (parent : ℕ) (values stack : List Value) → Goes P (entering_frame l o m a below line k b parent values stack)
  frame_falls line k b parent values stack =
      having_goes P _ o _ (λ cells. entering_goes P l line (words_of_block b) o _ (λ p more most.
      let same = handed_ticks (length m.instances) (arrays_by_value b.formals values) p in ticked (omega (arith, more, same)) (omega (arith, most, same))))

  call_falls : (line : ℕ) (k n : ℤ) → Goes P (entering_procedure code l o m a below line k n)
  call_falls line k n =
      index_goes P n o _ (λ n. many_goes P n [] a.stack o _ (λ values stack. popping_goes P stack o _ (λ v stack. having_goes P (frame_in v) o _ (λ parent. when_goes P (is_live m parent) o _ (
      block_goes P code _ k o _ (λ k b x. frame_falls line k b parent values stack))))))

  value_falls : (line : ℕ) (n : ℤ) → Goes P (entering_value code l o m a below line n)
  value_falls line n =
      index_goes P n o _ (λ n. many_goes P n [] a.stack o _ (λ values stack. popping_goes P stack o _ (λ v stack. having_goes P (procedure_in v) o _ (λ q. when_goes P (is_live m q.1) o _ (
      block_goes P code _ (pos q.0) o _ (λ k b x. frame_falls line k b q.1 values stack))))))

  new_falls : (line : ℕ) (z n : ℤ) → Goes P (generating code l o m a below line z n)
  new_falls line z n =
      index_goes P n o _ (λ n. many_goes P n [] a.stack o _ (λ values stack. popping_goes P stack o _ (λ v stack. having_goes P (link_in v) o _ (λ parent. when_goes P (is_live m parent) o _ (
      objects_goes P code z o _ (λ k b start. having_goes P _ o _ (λ cells. pushing_goes P a.room stack _ o _ (λ stack. entering_goes P l line (words_of_object code b) o _ (λ p more most.
      let j = length m.instances in
      let same = joined_ticks (is_process_class code b.class) parent j (enrolled j (linkage_of_class code b.class) (handed_over j (arrays_among values) p)) ∙ enrolled_ticks j (linkage_of_class code b.class) (handed_over j (arrays_among values) p) ∙ handed_ticks j (arrays_among values) p in
      ticked (omega (arith, more, same)) (omega (arith, most, same)))))))))))

  prefixed_falls : (line : ℕ) (z n : ℤ) → Goes P (entering_prefixed code l o m a below line z n)
  prefixed_falls line z n =
      index_goes P n o _ (λ n. many_goes P n [] a.stack o _ (λ values stack.
      index_goes P z o _ (λ k. levelled_goes P code _ k o _ (λ b start. having_goes P _ o _ (λ cells. entering_goes P l line (words_of_block b) o _ (λ p more most.
      let same = begun_ticks (is_simulation_class code b.class) (length m.instances) (handed_over (length m.instances) (arrays_among values) p) ∙ handed_ticks (length m.instances) (arrays_among values) p in
      ticked (omega (arith, more, same)) (omega (arith, most, same))))))))

  -- ---- from stage to stage

  stage_falls : (s : Stage) (q : ℕ) → stage_weight code s < stage_weight code a.stage → Goes P (at_stage code o m a below s q)
  stage_falls s q less = leading_goes P code q o _ (lighter refl (omega (arith, later_stage code a s q less, unit_some code a.thunk)))

  declared_falls : (n : ℕ) → Goes P (declarations_done code o m a below n)
  declared_falls n = own_levels_goes P code m a _ o _ (λ at j cs all. by_next at j cs all (class_at_level code cs (suc n)) refl)
    where
      by_next : same_stage a.stage (stage.Declaring n) ≡ true → (j : ℕ) (cs : List ℕ) → levels_in code (class_of code m j) ≡ Some cs → (next : Option ClassOf) → class_at_level code cs (suc n) ≡ next → Goes P (after_declarations code o m a below n cs next)
      by_next at j cs all None is = having_goes P (class_at_level code cs 0) o _ (λ x. stage_falls (stage.Stating 0) x.statements (declarations_last code a.stage n at))
      by_next at j cs all (Some x) is = stage_falls (stage.Declaring (suc n)) x.declarations (declarations_next code a.stage n at (level_there code (class_of code m j) cs (suc n) x all is))

  inner_falls : (n : ℕ) → Goes P (inner_reached code o m a below n)
  inner_falls n = own_levels_goes P code m a _ o _ (λ at j cs all. by_next at j cs all (class_at_level code cs (suc n)) refl)
    where
      by_next : same_stage a.stage (stage.Stating n) ≡ true → (j : ℕ) (cs : List ℕ) → levels_in code (class_of code m j) ≡ Some cs → (next : Option ClassOf) → class_at_level code cs (suc n) ≡ next → Goes P (at_inner code o m a below n next)
      by_next at j cs all None is = lighter refl (omega (arith, later_stage code a (stage.Behind n) (suc a.pc) (statements_last code a.stage n at), unit_some code a.thunk))
      by_next at j cs all (Some x) is = stage_falls (stage.Stating (suc n)) x.statements (statements_next code a.stage n at (level_there code (class_of code m j) cs (suc n) x all is))

  -- ---- ends

  leaving_falls : (b : BlockOf) (rest : List Activation) → rest ≡ below → (v : Option Value) (j : ℕ) → Goes P (leaving b rest v j o m)
  unfolding leaving
  leaving_falls b [] is v j = none P o
  leaving_falls b (c ∷ rest) is v j =
      let kept : chain_weight code (c ∷ rest) ≡ chain_weight code below = cc in
      any_goes P c.room c.stack v o _ (λ stack. lighter (back_ticks (is_given_at_end m j) o j (words_of_block b)) (omega (arith, work_some code a.thunk a.stage a.pc here, left_kept code (is_given_at_end m j) m j, kept)))

  ended_falls : (j : ℕ) → Goes P (ticking l o (λ p. object_ended owner p m j below))
  unfolding object_ended
  ended_falls j = ticking_goes P l o _ (λ p more most. by_standing p (omega (arith, more)) most (slice_get m.standings j) below)
    where
      below_ticked : (p : World) → o.ticks < p.ticks → p.ticks ≤ l.ticks → (chain : List Activation) (n : Frames) → Goes P (going_below p chain n)
      below_ticked p lt le [] n = tt
      below_ticked p lt le (c ∷ rest) n = ticked lt le

      by_main : (p : World) → o.ticks < p.ticks → p.ticks ≤ l.ticks → (s : ℕ) (k : Option (Cut Activation)) (x : Option (Standing Activation)) → Goes P (main_goes_on owner p m j s k x)
      by_main p lt le s None x = tt
      by_main p lt le s (Some k) None = tt
      by_main p lt le s (Some k) (Some (NoObject None)) = tt
      by_main p lt le s (Some k) (Some (NoObject (Some main))) = below_ticked p lt le (main ++ k.here ∷ k.below) _
      by_main p lt le s (Some k) (Some AttachedObject) = tt
      by_main p lt le s (Some k) (Some (DetachedObject chain)) = tt
      by_main p lt le s (Some k) (Some ResumedObject) = tt
      by_main p lt le s (Some k) (Some TerminatedObject) = tt

      by_standing : (p : World) → o.ticks < p.ticks → p.ticks ≤ l.ticks → (x : Option (Standing Activation)) (rest : List Activation) → Goes P (ended_as owner p m j rest x)
      by_standing p lt le None rest = tt
      by_standing p lt le (Some (NoObject main)) rest = tt
      by_standing p lt le (Some AttachedObject) rest = below_ticked p lt le rest _
      by_standing p lt le (Some (DetachedObject chain)) rest = tt
      by_standing p lt le (Some ResumedObject) rest = by_main p lt le (system_head m j) (cut_at owner (system_head m j) rest) (slice_get m.standings (system_head m j))
      by_standing p lt le (Some TerminatedObject) rest = tt

  outermost_falls : (j k : ℕ) → Goes P (outermost_ended code l o m a below j k)
  outermost_falls j k = when_goes P _ o _ (having_goes P (slice_get code.blocks k) o _ (λ b. by_kind b b.kind))
    where
      by_kind : (b : BlockOf) (kind : BlockKind) → Goes P (ended_by_kind l o m below j b kind)
      by_kind b block.SubBlock = none P o
      by_kind b block.Procedure = none P o
      by_kind b block.Object = ended_falls j
      by_kind b block.Prefixed = leaving_falls b below refl None j

  level_falls : (n : ℕ) → Goes P (level_ended code l o m a below n)
  level_falls zero =
      having_goes P (owner a) o _ (λ j. having_goes P _ o _ (λ k. choosing_goes P (k == 0) _ _ (stops P _ o) (outermost_falls j k)))
  level_falls (suc n) =
      own_levels_goes P code m a _ o _ (λ at j cs all. having_knows P (class_at_level code cs n) o _ (λ x is.
      stage_falls (stage.Behind n) x.after_inner (behind_outward code a.stage n at (level_there code (class_of code m j) cs n x all is))))

  -- ---- transfers of control

  below_falls : (p : World) → p.ticks ≡ o.ticks → (stack : List Value) (operating : List Activation) (standings : List (Standing Activation))
      → chain_weight code operating + standings_weight code standings ≤ chain_weight code (waiting a stack ∷ below) + kept_weight code m → Goes P (going_below p operating (record m { standings = standings }))
  below_falls p same stack [] standings less = tt
  below_falls p same stack (c ∷ rest) standings less = lighter same (omega (arith, less, further code a (suc a.pc) (omega arith) here, unit_some code a.thunk))

  moved_falls : (p : World) → p.ticks ≡ o.ticks → (line : ℕ) (stack : List Value) (r : Result (Components Activation) RunError) → NotMore (activation_weight code) (chain_weight code (waiting a stack ∷ below) + kept_weight code m) r
      → Goes P (computing line r p (λ c. going_below p c.operating (record m { standings = c.standings })))
  unfolding computing
  moved_falls p same line stack (Ok c) less = below_falls p same stack c.operating c.standings less
  moved_falls p same line stack (Err e) less = stops P _ p

  transfer_falls : (stack : List Value) (t : Transfer) (line : ℕ) (v : Plain) → Goes P (transferring owner t line o (waiting a stack ∷ below) m v)
  unfolding transferring
  transfer_falls stack t line v = by_value v
    where
      by_component : (y : Option (Option ℕ)) → Goes P (having y o (λ y. having (transferred owner t (system_head m) (record { operating = waiting a stack ∷ below; standings = m.standings }) y) o (λ r. computing line r o (λ c. going_below o c.operating (record m { standings = c.standings })))))
      by_component y = having_goes P y o _ (λ y. having_knows P (transferred owner t (system_head m) _ y) o _ (λ r is. moved_falls o refl line stack r (subst (NotMoreIn (activation_weight code) (chain_weight code (waiting a stack ∷ below) + kept_weight code m)) is (transfer_small owner (activation_weight code) t (system_head m) _ y))))

      by_value : (v : Plain) → Goes P (transferring owner t line o (waiting a stack ∷ below) m v)
      by_value (MainOf b) = stops P _ o
      by_value (Object j) = by_component (component_in (Object j))
      by_value Nothing = by_component (component_in Nothing)
      by_value (Integer z) = by_component (component_in (Integer z))
      by_value (Truth b) = by_component (component_in (Truth b))
      by_value (Character c) = by_component (component_in (Character c))
      by_value (Text x) = by_component (component_in (Text x))

  -- so does scheduling, or control stays where it is
  next_falls : (stack : List Value) (line : ℕ) (p : World) → p.ticks ≡ o.ticks → (x : Simulation) (next : Next) → Goes P (going_to owner line p (waiting a stack ∷ below) m x next)
  next_falls stack line p same x next.Stay = lighter same (omega (arith, further code a (suc a.pc) (omega arith) here, unit_some code a.thunk))
  next_falls stack line p same x (next.Resume n) =
      having_goes P (component_of x n.0) p _ (λ y. moved_falls p same line stack _ (given_small owner (activation_weight code) (system_head m) (record { operating = waiting a stack ∷ below; standings = m.standings }) x.block y))

  decided_falls : (line : ℕ) (p : World) (x : ℕ × Simulation) (r : Result (List Notice) RunError) (stack : List Value) → p.ticks ≡ o.ticks → Goes P (decided o m a below line p x r stack)
  unfolding deciding
  decided_falls line p x r stack same =
      computing_goes P line r p _ (λ notices. computing_goes P line (next_of x.1.notices notices) p _ (λ next.
      next_falls stack line (with_simulation p x.0 (record x.1 { notices = notices })) same x.1 next))

  standard_falls : (line : ℕ) (name : Standard) → Goes P (standard_row code l o m a below line name)
  standard_falls line name =
      choosing_goes P (is_set_name name) _ _
      (linkage_goes P plain name a.stack o _ (λ p value stack same. changes p same _))
      (choosing_goes P (is_process_name name) _ _
      (process_goes P plain (encloser_of m) name line a.stack o _ (λ value stack. goes _))
      (choosing_goes P (is_simulation_name name) _ _
      (simulation_goes P plain link_in (in_process code m) o (decided o m a below line) (decided_falls line) (ending_process code m a) name a.stack _ (λ value stack. goes _))
      (when_goes P _ o _ (performing_goes P put_back (λ m n. kept_weight code n ≡ kept_weight code m) (λ m. refl) (back_goes P code) operand l line name a.stack o m _ (λ p n value stack same still. goes_on p n _ same still)))))

  -- ---- thunks

  -- A use of a parameter by name takes a tick.
  using_falls : (j c : ℕ) → Goes P (using_name code l o m a below j c)
  using_falls j c =
      having_goes P (cell m j c) o _ (λ v. having_goes P (thunk_in v) o _ (λ t. when_goes P (is_roomy a) o _ (ticking_goes P l o _ (λ p more most.
      thunk_begins P code p m t.0 t.1 _ (λ x is. ticked (omega (arith, more)) most)))))

  running_falls : (z : ℤ) → Goes P (running_thunk code o m a below z)
  running_falls z =
      index_goes P z o _ (λ t. when_knows P (runs_inside a.thunk t) o _ (λ runs. when_goes P (is_roomy a) o _ (thunk_begins P code o m t a.home _ (λ x is.
      lighter refl (omega (arith, thunk_less code a.thunk t x.entry (found_within code.thunks t x is) runs, further code a (suc a.pc) (omega arith) here))))))

  given_thunk_falls : (z : ℤ) → Goes P (thunk_pushed code o m a below z)
  given_thunk_falls z = index_goes P z o _ (λ t. having_goes P (slice_get code.thunks t) o _ (λ _. pushed_falls _))

  parameter_falls : (n t p : ℤ) → Goes P (parameter_row code o m a below n t p)
  parameter_falls n t p =
      index_goes P n o _ (λ n. having_goes P (formal_in_hand code n a.stack) o _ (λ f. choosing_goes P (is_by_name f.mode) _ _ (given_thunk_falls _) (running_falls _)))

  checking_falls : (line : ℕ) (z : ℤ) → Goes P (checking code o m a below line z)
  checking_falls line z =
      index_goes P z o _ (λ n. having_goes P _ o _ (λ actuals. popping_goes P a.stack o _ (λ v stack. having_goes P (procedure_in v) o _ (λ q.
      having_goes P _ o _ (λ b. when_goes P _ o _ (counting_goes P line (length b.formals) (length actuals) o _ (suiting_goes P line (all_fit code b.formals actuals) o _ (
      having_goes P _ o _ (λ agree. suiting_goes P line agree o _ (goes _))))))))))

  -- what a thunk gave goes to the activation below, which was ahead of it
  module _ (b : Activation) (rest : List Activation) (is : b ∷ rest ≡ below) where
    below_goes : (p : World) → p.ticks ≡ o.ticks → (stack : List Value) → Goes P (at p m b b.pc stack rest)
    below_goes p same stack =
        let kept : chain_weight code (b ∷ rest) ≡ chain_weight code below = cc in lighter same (omega (arith, kept, work_some code a.thunk a.stage a.pc here))

    passing_falls : (line : ℕ) (f : CodeFormal) (v : Value) → Goes P (passing code l line f b rest v o m)
    unfolding passing
    passing_falls line f v =
        admitting_goes P code m line (class_held f) v o _ (pushing_goes P b.room b.stack v o _ (λ _.
        copied_goes P Of plain ArrayValue array_in l line b.home (copied_for f) v o _ (λ v p same. below_goes p same _)))

    given_falls : (v : Value) (line : ℕ) (x : Instr) → Goes P (thunk_given code l o m b rest v line x)
    given_falls v line i.Halt = none P o
    given_falls v line (i.Int z) = none P o
    given_falls v line (i.Bool z) = none P o
    given_falls v line (i.Char z) = none P o
    given_falls v line (i.TextK z) = none P o
    given_falls v line i.None = none P o
    given_falls v line i.NoText = none P o
    given_falls v line (i.Link z) = none P o
    given_falls v line (i.This z) = none P o
    given_falls v line (i.Addr z c class) = none P o
    given_falls v line (i.AddrR c class) = none P o
    given_falls v line (i.AddrImg z) = none P o
    given_falls v line (i.Elem n class) = none P o
    given_falls v line i.Fetch = none P o
    given_falls v line i.Put = none P o
    given_falls v line (i.Load z c) = none P o
    given_falls v line (i.Store z c) = none P o
    given_falls v line i.Dup = none P o
    given_falls v line i.Pop = none P o
    given_falls v line i.Swap = none P o
    given_falls v line i.Neg = none P o
    given_falls v line i.Add = none P o
    given_falls v line i.Sub = none P o
    given_falls v line i.Mul = none P o
    given_falls v line i.Div = none P o
    given_falls v line i.Pow = none P o
    given_falls v line (i.Rel z) = none P o
    given_falls v line (i.RelT z) = none P o
    given_falls v line i.Same = none P o
    given_falls v line i.SameT = none P o
    given_falls v line i.Not = none P o
    given_falls v line i.And = none P o
    given_falls v line i.Or = none P o
    given_falls v line i.Imp = none P o
    given_falls v line i.Eqv = none P o
    given_falls v line (i.Is z) = none P o
    given_falls v line (i.In z) = none P o
    given_falls v line (i.Qua z) = none P o
    given_falls v line (i.Jump q) = none P o
    given_falls v line (i.JumpF q) = none P o
    given_falls v line i.Tick = none P o
    given_falls v line i.StepTest = none P o
    given_falls v line (i.Enter z) = none P o
    given_falls v line i.Leave = none P o
    given_falls v line (i.Call k n) = none P o
    given_falls v line i.Return = none P o
    given_falls v line (i.ProcVal z) = none P o
    given_falls v line (i.Virt z) = none P o
    given_falls v line (i.Check z) = none P o
    given_falls v line (i.Param n t p) = index_goes P n o _ (λ n. having_goes P (formal_in_hand code n b.stack) o _ (λ f. having_goes P (value_given o m v) o _ (λ v. passing_falls line f v)))
    given_falls v line (i.CallV n) = none P o
    given_falls v line (i.Thunk t) = none P o
    given_falls v line (i.NameVal z c class) = qualified_goes P code class o _ (λ q. having_goes P (value_given o m v) o _ (λ v. admitting_goes P code m line q v o _ (pushing_goes P b.room b.stack v o _ (below_goes o refl))))
    given_falls v line (i.NameAddr z c value) = having_goes P (truth_of value) o _ (λ value_too. locating_goes P line (is_place v) value_too o _ (pushing_goes P b.room b.stack v o _ (below_goes o refl)))
    given_falls v line i.EndThunk = none P o
    given_falls v line (i.New class n) = none P o
    given_falls v line (i.Pref k n) = none P o
    given_falls v line (i.NextDecl z) = none P o
    given_falls v line (i.Inner z) = none P o
    given_falls v line (i.EndLevel z) = none P o
    given_falls v line (i.Array z n) = none P o
    given_falls v line i.CopyArr = none P o
    given_falls v line i.Keep = none P o
    given_falls v line i.AssignT = none P o
    given_falls v line (i.Std z) = none P o
    given_falls v line (i.Act z) = none P o
    given_falls v line i.Detach = none P o
    given_falls v line i.Attach = none P o
    given_falls v line i.Resume = none P o
    given_falls v line i.NotNone = none P o

  thunk_falls : (v : Value) (rest : List Activation) → rest ≡ below → Goes P (thunk_ended code l o m v rest)
  thunk_falls v [] is = none P o
  thunk_falls v (b ∷ rest) is = having_goes P (instruction_before code b.pc) o _ (λ x. given_falls b rest is v x.line.0 x.instr)

  -- ---- the table

  -- what may be done before the next tick, where this is the instruction
  abbrev before : Instr → ℕ
  before x = (place_weight code (is_tick (Some (record { instr = x; line = record { 0 = 0 } }))) a.thunk a.stage a.pc + chain_weight code below) + kept_weight code m

  pub row_falls : (line : ℕ) (x : Instr) → Goes (Lower code l o.ticks (before x)) (row code l o m a below line x)
  row_falls line i.Halt = stops P _ o
  row_falls line (i.Int z) = pushed_falls _
  row_falls line (i.Bool z) = having_goes P (truth_of z) o _ (λ b. pushed_falls _)
  row_falls line (i.Char z) = having_goes P (code_of z) o _ (λ c. pushed_falls _)
  row_falls line (i.TextK z) = index_goes P z o _ (λ n. having_goes P _ o _ (λ bytes. pushed_falls _))
  row_falls line i.None = pushed_falls _
  row_falls line i.NoText = pushed_falls _
  row_falls line (i.Link z) = level_goes P m a z o _ (λ j. pushed_falls _)
  row_falls line (i.This z) = level_goes P m a z o _ (λ j. pushed_falls _)
  row_falls line (i.Addr z c class) = qualified_goes P code class o _ (λ q. cell_goes P m a z c o _ (λ j c. when_goes P (has_cell m j c) o _ (pushed_falls _)))
  row_falls line (i.AddrR c class) = qualified_goes P code class o _ (λ q. object_goes P plain line a.stack o _ (λ j stack. index_goes P c o _ (λ c. when_goes P (has_cell m j c) o _ (goes _))))
  row_falls line (i.AddrImg z) = index_goes P z o _ (λ n. having_goes P (image_at o.store n) o _ (λ _. pushed_falls _))
  row_falls line (i.Elem n class) = qualified_goes P code class o _ (λ q. index_goes P n o _ (λ n. finding_goes P plain array_in n line a.stack o _ (λ array k stack. goes _)))
  row_falls line i.Fetch = popping_goes P a.stack o _ (λ v stack. having_goes P (place_in v) o _ (λ p. having_goes P (value_at o m p) o _ (λ v. goes _)))
  row_falls line i.Put = popping_goes P a.stack o _ (λ v stack. popping_goes P stack o _ (λ p stack. having_goes P (variable_in p) o _ (λ p. storing_goes P code line p v o m _ (λ q n same still. goes_on q n _ same still))))
  row_falls line (i.Load z c) = cell_goes P m a z c o _ (λ j c. having_goes P (cell m j c) o _ (λ v. pushed_falls v))
  row_falls line (i.Store z c) = popping_goes P a.stack o _ (λ v stack. cell_goes P m a z c o _ (λ j c. having_knows P (cell_set m j c v) o _ (λ n is. goes_on o n _ refl (cell_kept code m j c v n is))))
  row_falls line i.Dup = popping_goes P a.stack o _ (λ v stack. pushed_falls v)
  row_falls line i.Pop = popping_goes P a.stack o _ (λ v stack. goes _)
  row_falls line i.Swap = popping_goes P a.stack o _ (λ y stack. popping_goes P stack o _ (λ x stack. goes _))
  row_falls line i.Neg = one_falls line _
  row_falls line i.Add = two_falls line _
  row_falls line i.Sub = two_falls line _
  row_falls line i.Mul = two_falls line _
  row_falls line i.Div = two_falls line _
  row_falls line i.Pow = two_falls line _
  row_falls line (i.Rel z) = having_goes P (comparison_of z) o _ (λ r. two_falls line _)
  row_falls line (i.RelT z) = having_goes P (comparison_of z) o _ (λ r. two_falls line _)
  row_falls line i.Same = two_falls line _
  row_falls line i.SameT = two_falls line _
  row_falls line i.Not = one_falls line _
  row_falls line i.And = two_falls line _
  row_falls line i.Or = two_falls line _
  row_falls line i.Imp = two_falls line _
  row_falls line i.Eqv = two_falls line _
  row_falls line (i.Is z) = having_goes P (class_named code z) o _ (λ c. plain_goes P plain a.stack o _ (λ v stack. having_goes P (is_of code m c v) o _ (λ b. goes _)))
  row_falls line (i.In z) = having_goes P (class_named code z) o _ (λ c. plain_goes P plain a.stack o _ (λ v stack. having_goes P (is_in code m c v) o _ (λ b. goes _)))
  row_falls line (i.Qua z) = having_goes P (class_named code z) o _ (λ c. reference_goes P plain line a.stack o _ (λ v stack. qualifying_goes P line (is_in code m c v) o _ (goes _)))
  row_falls line (i.Jump q) = jump_falls a.stack q
  row_falls line (i.JumpF q) = truth_goes P plain a.stack o _ (λ b stack. choosing_goes P b _ _ (goes _) (jump_falls stack q))
  row_falls line i.Tick = ticking_goes (Lower code l o.ticks (before i.Tick)) l o _ (λ p more most. ticked (omega (arith, more)) most)
  row_falls line i.StepTest = step_goes P plain line a.stack o _ (λ b stack. goes _)
  row_falls line (i.Enter z) = block_goes P code _ z o _ (λ k b x. entering_goes P l line (words_of_block b) o _ (λ p more most. ticked (omega (arith, more)) most))
  row_falls line i.Leave = own_goes P code _ m a o _ (λ b. leaving_falls b below refl None a.home)
  row_falls line (i.Call k n) = call_falls line k n
  row_falls line i.Return = own_goes P code _ m a o _ (λ b. result_goes P b m a.home o _ (λ v. leaving_falls b below refl v a.home))
  row_falls line (i.ProcVal z) = index_goes P z o _ (λ k. having_goes P (procedure_of code k) o _ (λ _. popping_goes P a.stack o _ (λ v stack. having_goes P (frame_in v) o _ (λ j. goes _))))
  row_falls line (i.Virt z) = index_goes P z o _ (λ v. object_goes P plain line a.stack o _ (λ j stack. matching_goes P line _ o _ (λ k. goes _)))
  row_falls line (i.Check z) = checking_falls line z
  row_falls line (i.Param n t p) = parameter_falls n t p
  row_falls line (i.CallV n) = value_falls line n
  row_falls line (i.Thunk z) = given_thunk_falls z
  row_falls line (i.NameVal z c class) = qualified_goes P code class o _ (λ q. cell_goes P m a z c o _ (λ j c. using_falls j c))
  row_falls line (i.NameAddr z c value) = having_goes P (truth_of value) o _ (λ value_too. cell_goes P m a z c o _ (λ j c. using_falls j c))
  row_falls line i.EndThunk = having_goes P a.thunk o _ (λ t. popping_goes P a.stack o _ (λ v stack. thunk_falls v below refl))
  row_falls line (i.New class n) = new_falls line class n
  row_falls line (i.Pref k n) = prefixed_falls line k n
  row_falls line (i.NextDecl z) = index_goes P z o _ declared_falls
  row_falls line (i.Inner z) = index_goes P z o _ inner_falls
  row_falls line (i.EndLevel z) = index_goes P z o _ level_falls
  row_falls line (i.Array z n) = having_goes P (element_kind z) o _ (λ kind. index_goes P n o _ (λ n. when_goes P (nat_lt 0 n) o _ (integers_goes P plain (2 * n) [] a.stack o _ (λ bounds stack. making_goes P l line a.home kind _ o _ (λ array p same. pushing_goes P a.room stack _ p _ (λ s. changes p same _))))))
  row_falls line i.CopyArr = popping_goes P a.stack o _ (λ v stack. having_goes P (array_in v) o _ (λ array. copying_goes P l line a.home array o _ (λ copy p same. changes p same _)))
  row_falls line i.Keep = popping_goes P a.stack o _ (λ v stack. having_goes P (array_in v) o _ (λ array. keeping_goes P array o _ (λ p same. changes p same _)))
  row_falls line i.AssignT = assigning_goes P plain line a.stack o _ (λ p stack same. changes p same _)
  row_falls line (i.Std z) = having_goes P (standard_of z) o _ (λ name. standard_falls line name)
  row_falls line (i.Act z) = having_goes P (activation_of z) o _ (λ f. activation_goes P plain link_in (in_process code m) o (decided o m a below line) (decided_falls line) f.0 f.1 a.stack)
  row_falls line i.Detach = plain_goes P plain a.stack o _ (λ v stack. transfer_falls stack Detaching line v)
  row_falls line i.Attach = plain_goes P plain a.stack o _ (λ v stack. transfer_falls stack Calling line v)
  row_falls line i.Resume = plain_goes P plain a.stack o _ (λ v stack. transfer_falls stack Resuming line v)
  row_falls line i.NotNone = reference_goes P plain line a.stack o _ (λ v stack. goes _)

-- the frame on top does its instruction
pub top_falls : (code : CodeOf) (l : Limits) (o : World) (m : Frames) (a : Activation) (below : List Activation) → Goes (Lower code l o.ticks (chain_weight code (a ∷ below) + kept_weight code m)) (on_top code l o m a below)
unfolding having
top_falls code l o m a below = by_found (slice_get code.instrs a.pc) refl
  where
    by_found : (x : Option Lined) → slice_get code.instrs a.pc ≡ x
        → Goes (Lower code l o.ticks ((place_weight code (is_tick x) a.thunk a.stage a.pc + chain_weight code below) + kept_weight code m)) (having x o (λ x. row code l o m a below x.line.0 x.instr))
    by_found None is = none (Lower code l o.ticks ((place_weight code (is_tick None) a.thunk a.stage a.pc + chain_weight code below) + kept_weight code m)) o
    by_found (Some x) is = row_falls code l o m a below (found_within code.instrs a.pc x is) x.line.0 x.instr
