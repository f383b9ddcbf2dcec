-- What processes tell, the procedures of simulation blocks, and activations, as operators.
use Rattle.std.proofs.Common.{◌≡◌, ℕ, suc, Bool, true, false, List, ◌∷◌, map, Option, Some, None, refl, sym, ap, ◌∙◌, subst}
use Rattle.std.proofs.lemmas.Option.{slice_get-map}
use Rattle.std.specs.Option.{option_map}
use Rattle.std.specs.Prelude.{pos, slice_get, Result}
use Rattle.sim_base.specs.declared.limits.Limits.{Limits}
use Rattle.sim_base.specs.declared.run_error.RunError.{RunError}
use Rattle.notices.specs.declared.notice.Notice.{Notice}
use Rattle.sim_scope.specs.Source.{Source, level_of}
use Rattle.sim_values.specs.declared.standard.Standard.{Standard}
use Rattle.sim_values.specs.Plain.{Character, Integer, MainOf, Nothing, Object, Plain, Text, Truth}
use Rattle.sim_code.specs.declared.instr.Instr.TheVariants as i
use Rattle.sim_code.specs.declared.stage.Stage.{Stage}
use Rattle.sim_code.specs.declared.stage.Stage.TheVariants as stage
use Rattle.sim_code.specs.Classes.{class_of, in_process as in_process_of_code, is_marked, levels_in, process_mark}
use Rattle.sim_code.specs.Code.{CodeOf}
use Rattle.sim_code.specs.Events.{choosing, no_rule}
use Rattle.sim_code.specs.Instances.{Instance, encloser_of, live}
use Rattle.sim_code.specs.Levels.{ending_process, ends_process, frame_if, is_behind}
use Rattle.sim_code.specs.Machine.{Frames, Machine, Value}
use Rattle.sim_code.specs.Machine as machine
use Rattle.sim_code.specs.Outcome.{Run, Simulation, World}
use Rattle.sim_code.specs.Rows.{activation_of, on_top, standard_of}
use Rattle.sim_code.specs.Rows as rows
use Rattle.sim_code.specs.Scheduling.{AtTime, Beside, Directly, Timing, WithDelay, block_around, performing_process, performing_simulation}
use Rattle.sim_code.specs.Sets.{is_set_name}
use Rattle.sim_code.specs.Simulations.{actual_count, is_process_name, is_simulation_name, located, number_in, process_tells}
use Rattle.sim_code.proofs.Lifts.{alike_computing, alike_equal, alike_found, alike_same}
use Rattle.sim_code.proofs.Simulation.{Alike}
use Rattle.sim_meaning.specs.Levels.{has_levels, levels_of}
use Rattle.sim_meaning.specs.Meaning.{do_op}
use Rattle.sim_meaning.specs.Objects.{decided}
use Rattle.sim_meaning.specs.Pending.{Activation, ActivateOp, BlockOp, Configuration, Held, Instances, Item, Op, ProcessOp, SelfOp, SimulationOp, Val}
use Rattle.sim_meaning.specs.Pending as meaning
use Rattle.sim_meaning.specs.Texts.{text}
use Rattle.codegen_expr.specs.Sites.{class_number}
use Rattle.codegen.specs.CodeStm.{activation_number}
use Rattle.codegen.specs.Compiled.{Compiled}
use Rattle.sim_relate.proofs.ClassLevels.{level_levels, levels_solid}
use Rattle.sim_relate.proofs.Components.{decides, enclosers_same}
use Rattle.sim_relate.proofs.Entries.{waits}
use Rattle.sim_relate.proofs.Hands.{hand_plain}
use Rattle.sim_relate.proofs.Here.{Here, act, at_row, kinds_as}
use Rattle.sim_relate.proofs.Known.{HandAt, Kind, LinkOf, Reaches, Runs, Settled, StackAt, anys, behind_process, given, is_process_level, more_at, plain_at, site_at}
use Rattle.sim_relate.proofs.LevelLists.{place_level}
use Rattle.sim_relate.proofs.Linkages.{process_marked}
use Rattle.sim_relate.proofs.Living.{own_level, found_lives, lives_now, reached}
use Rattle.sim_relate.proofs.ObjectsHere.{no_levels, some_levels, text_here}
use Rattle.sim_relate.proofs.Operators.{at_frame, chosen, onward, pushes, same_plain}
use Rattle.sim_relate.proofs.Relation.{ChainAt, OpAt, StateAt, WorkAt}
use Rattle.sim_relate.proofs.Scheduled.{activates, does}
use Rattle.sim_relate.proofs.SimulationNames.{process_no_set, simulation_no_process, simulation_no_set}
use Rattle.sim_relate.proofs.Waiting.{NoValue}
use Rattle.sim_relate.proofs.Carried.{work_flag}

-- whether a class of the code is that of the class `process`
abbrev is_marked_level : CodeOf → Option ℕ → Bool
is_marked_level code None = false
is_marked_level code (Some c) = is_marked code process_mark c

-- Whether the frame on top is that of a process at its end is told by its stage.
module _ (s : Source) (code : CodeOf) (compiled : Compiled s code) (m : Instances) (fs : Frames) (inst : ℕ) (rest : List Activation) (t : ℕ) (b : Runs) (ks : List Kind) (vals : List Val) (stack : List Value) (here : Here s code m fs inst rest t b ks vals stack) where
  pub now : (x : Instance (List Held)) × (live m inst ≡ Some x)
  now = lives_now m inst here.lives

  own_now : (x : Instance (List Held)) → live m inst ≡ Some x → x.text ≡ b.own
  own_now x lives = let e : Some x.text ≡ Some b.own = sym (text_here s code compiled m fs here.store inst x lives) ∙ here.own in cc (e)

  stage_behind : (g : Stage) → has_levels (text s b.own) ≡ true → is_behind code g (map (class_number s code) (levels_of s b.own)) ≡ behind_process s b.own g
  stage_behind (stage.Behind n) has = ap (is_marked_level code) (slice_get-map (class_number s code) (levels_of s b.own) n) ∙ by (slice_get (levels_of s b.own) n) refl
    where
      by : (o : Option ℕ) → slice_get (levels_of s b.own) n ≡ o → is_marked_level code (option_map (class_number s code) o) ≡ is_process_level s o
      by None e = refl
      by (Some k) e = process_marked s code compiled k (level_levels s code compiled b.own k (place_level s compiled.agrees b.own k n (levels_solid s code compiled b.own has) e).0 has)
  stage_behind g has = refl

  pub ends_told : has_levels (text s b.own) ≡ true → ends_process code b.stage (levels_in code (class_of code fs inst)) ≡ behind_process s b.own b.stage
  ends_told has = by now.0 now.1
    where
      by : (x : Instance (List Held)) → live m inst ≡ Some x → ends_process code b.stage (levels_in code (class_of code fs inst)) ≡ behind_process s b.own b.stage
      by x lives =
          let own = own_now x lives in
          ap (ends_process code b.stage) (some_levels s code compiled m fs here.store inst x lives (ap (λ k. has_levels (text s k)) own ∙ has) ∙ ap (λ k. Some (map (class_number s code) (levels_of s k))) own) ∙ stage_behind b.stage has

  pub no_end : has_levels (text s b.own) ≡ false → ends_process code b.stage (levels_in code (class_of code fs inst)) ≡ false
  no_end none = by now.0 now.1
    where
      by : (x : Instance (List Held)) → live m inst ≡ Some x → ends_process code b.stage (levels_in code (class_of code fs inst)) ≡ false
      by x lives = ap (λ c. ends_process code b.stage (levels_in code c)) (no_levels s code compiled m fs here.store inst x lives (ap (λ k. has_levels (text s k)) (own_now x lives) ∙ none))

module _ (s : Source) (code : CodeOf) (compiled : Compiled s code) (l : Limits) (o : World) (m : Instances) (inst : ℕ) (w : List Item) (vals : List Val) (rest : List Activation) (fs : Frames) (t : ℕ) (b : Runs) (pc : ℕ) (stack : List Value) (below : List machine.Activation) (ks : List Kind) (here : Here s code m fs inst rest t b ks vals stack) (u q : ℕ) (ks' : List Kind) (low : Settled s code t b u) (work : WorkAt s code m fs (λ v. ChainAt s code m fs rest v below) inst t b u w q ks') where
  abbrev R : Configuration → Machine → Type 0
  R = StateAt s code

  abbrev top : machine.Activation
  top = act inst pc stack b

  abbrev Follows : Op → Type 0
  Follows op = OpAt s code m fs inst (site_at t b u) op pc q ks ks' → Alike R (do_op s l o m inst w vals rest op) (on_top code l o fs top below)

  as_not : (c : Bool) (r : Run Configuration) (x y : Run Machine) → c ≡ false → Alike R r y → Alike R r (choosing c x y)
  unfolding choosing
  as_not true r x y e h = absurd (cc (e))
  as_not false r x y e h = h

  as_so : (c : Bool) (r : Run Configuration) (x y : Run Machine) → c ≡ true → Alike R r x → Alike R r (choosing c x y)
  unfolding choosing
  as_so c r x y e h = chosen (λ z. Alike R r z) c x y e h

  -- ---- what a process tells

  around_same : (p : Plain) → block_around (encloser_of m) p ≡ block_around (encloser_of fs) p
  around_same (Object j) = sym (enclosers_same s code compiled o m fs here.store here.parked j)
  around_same (MainOf j) = refl
  around_same Nothing = refl
  around_same (Integer z) = refl
  around_same (Truth z) = refl
  around_same (Character z) = refl
  around_same (Text z) = refl

  pub process_op : (name : Standard) (line : ℕ) → Follows (ProcessOp name line)
  unfolding performing_process
  process_op name line a =
      let x = a.is in
      at_row s code l o fs top below _ (i.Std (pos x.number)) line q x.done
      (alike_found Configuration Machine R Standard (standard_of (pos x.number)) name o _ _ x.numbered
      (as_not (is_set_name name) _ _ _ (process_no_set name x.is_name)
      (as_so (is_process_name name) _ _ _ x.is_name
      (hand_plain Configuration Machine R Val Value (HandAt s code m) meaning.plain machine.plain same_plain a.left vals stack o _ _ (kinds_as s code a.«in» here.values)
      (λ p vals' stack' h.
      alike_equal Configuration Machine R ℕ (block_around (encloser_of m) p) (block_around (encloser_of fs) p) o _ _ (around_same p) (λ block.
      alike_same Configuration Machine R (ℕ × Simulation) (located o.simulations block) o _ _ (λ y.
      alike_same Configuration Machine R ℕ (number_in y.1 p) o _ _ (λ n.
      alike_same Configuration Machine R (Result Plain RunError) (process_tells name y.1 n) o _ _ (λ r.
      alike_computing Configuration Machine R Plain line r o _ _ (λ v.
      onward s code l o m inst w vals rest fs t b pc stack below ks here u q ks' low work (more_at plain_at h) a.out x.done.on))))))))))

  -- ---- no process is at its end

  pub none_ends : ending_process code fs top ≡ None
  unfolding ending_process
  none_ends = ap (λ c. frame_if c (machine.owner top)) (by (has_levels (text s b.own)) refl)
    where
      by : (c : Bool) → has_levels (text s b.own) ≡ c → ends_process code b.stage (levels_in code (class_of code fs inst)) ≡ false
      by true has = ends_told s code compiled m fs inst rest t b ks vals stack here has ∙ low.calm
      by false none = no_end s code compiled m fs inst rest t b ks vals stack here none

  -- ---- simulation blocks

  -- the block that is reached lives
  block_lives : (text block : ℕ) → Reaches s m inst text block → (x : Instance (List Held)) × (live m block ≡ Some x)
  block_lives text block r = lives_now m block (found_lives m (level_of s text) inst block here.lives (reached s m inst text block here.lives r))

  -- the notices decide who goes on; the instance waits, with what is left in its hand
  notices_decide : (line : ℕ) (left : List Kind) → ks' ≡ left → q ≡ suc pc → (p : World) (y : ℕ × Simulation) (r : Result (List Notice) RunError) (vals' : List Val) (stack' : List Value) → StackAt (HandAt s code m) left vals' stack' → Alike R (decided m inst w rest line p y r vals') (rows.decided o fs top below line p y r stack')
  notices_decide line left out place p y r vals' stack' h =
      decides s code compiled p m fs here.store here.parked line _ _ (waits s code compiled l o m inst w vals rest fs t b pc stack below ks here u q ks' low work NoValue left vals' stack' h (λ no. absurd (cc)) tt out place) (here.formed w vals' (work_flag s code m fs (λ v. ChainAt s code m fs rest v below) inst t b u w q ks' work)) y r

  pub simulation_op : (name : Standard) (line : ℕ) → Follows (SimulationOp name line)
  simulation_op name line a =
      let x = a.is in
      let block = block_lives a.text a.block a.reaches in
      let before : ks ≡ anys (actual_count name) (LinkOf a.block ∷ a.left) = a.«in» ∙ ap (λ n. anys n (LinkOf a.block ∷ a.left)) x.as_many in
      at_row s code l o fs top below _ (i.Std (pos x.number)) line q x.done
      (alike_found Configuration Machine R Standard (standard_of (pos x.number)) name o _ _ x.numbered
      (as_not (is_set_name name) _ _ _ (simulation_no_set name x.is_name)
      (as_not (is_process_name name) _ _ _ (simulation_no_process name x.is_name)
      (as_so (is_simulation_name name) _ _ _ x.is_name
      (subst (λ e. Alike R (do_op s l o m inst w vals rest (SimulationOp name line)) (performing_simulation machine.plain machine.link_in (in_process_of_code code fs) e name stack o (λ v stack'. machine.on o fs top (machine.Of v ∷ stack') below) (rows.decided o fs top below line))) (sym none_ends)
      (does s code compiled m fs here.store a.block block.0 block.1 a.left _ _ _ _ name x.is_name
      (λ gives p vals' stack' h. onward s code l o m inst w vals rest fs t b pc stack below ks here u q ks' low work (more_at plain_at h) (a.out ∙ ap (λ g. given g a.left) gives) x.done.on)
      (λ decides p y r vals' stack' h. notices_decide line a.left (a.out ∙ ap (λ g. given g a.left) decides) x.done.on p y r vals' stack' h)
      vals stack o (kinds_as s code before here.values, here.names)))))))

  -- ---- activations

  again_timing : (again : Bool) (timing : Timing) → activation_of (pos (activation_number again timing)) ≡ Some (again, timing)
  again_timing false Directly = refl
  again_timing false (AtTime false) = refl
  again_timing false (AtTime true) = refl
  again_timing false (WithDelay false) = refl
  again_timing false (WithDelay true) = refl
  again_timing false (Beside true) = refl
  again_timing false (Beside false) = refl
  again_timing true Directly = refl
  again_timing true (AtTime false) = refl
  again_timing true (AtTime true) = refl
  again_timing true (WithDelay false) = refl
  again_timing true (WithDelay true) = refl
  again_timing true (Beside true) = refl
  again_timing true (Beside false) = refl

  pub activate_op : (again : Bool) (timing : Timing) (line : ℕ) → Follows (ActivateOp again timing line)
  activate_op again timing line a =
      let block = block_lives a.text a.block a.reaches in
      at_row s code l o fs top below _ (i.Act (pos (activation_number again timing))) line q a.is
      (alike_found Configuration Machine R (Bool × Timing) (activation_of (pos (activation_number again timing))) (again, timing) o _ _ (again_timing again timing)
      (activates s code compiled m fs here.store a.block block.0 block.1 ks' (λ p vals'. no_rule o) (λ p stack'. no_rule o) _ _ again timing
      (λ p y r vals' stack' h. notices_decide line ks' refl a.is.on p y r vals' stack' h)
      vals stack o (kinds_as s code a.«in» here.values, here.names)))

  -- the link to the block
  -- the object itself
  pub self_op : Follows SelfOp
  self_op a =
      let is = (a.push).is in
      at_row s code l o fs top below _ (i.This (pos (level_of s t))) is.line q is.is
      (at_frame s code l o m inst w vals rest fs t b pc stack below ks here o (level_of s t) inst _ _ (own_level s m inst t here.stands here.lives)
      (pushes s code l o m inst w vals rest fs t b pc stack below ks here o (machine.Of (Object inst)) _ _ (a.push).fits
      (onward s code l o m inst w vals rest fs t b pc stack below ks here u q ks' low work (more_at plain_at here.values) a.out is.is.on)))

  pub block_op : (block : ℕ) → Follows (BlockOp block)
  block_op block a =
      let is = (a.link).is in
      at_row s code l o fs top below _ (i.Link (pos (level_of s a.text))) is.line q is.is
      (at_frame s code l o m inst w vals rest fs t b pc stack below ks here o (level_of s a.text) block _ _ (reached s m inst a.text block here.lives a.reaches)
      (pushes s code l o m inst w vals rest fs t b pc stack below ks here o (machine.Link block) _ _ (a.link).fits
      (onward s code l o m inst w vals rest fs t b pc stack below ks here u q ks' low work (more_at (refl, refl) here.values) a.out is.is.on)))
