-- An object goes from its declarations to its statements, from level to level, and on from `inner`.
use Rattle.std.proofs.Common.{◌≡◌, ◌+◌, ◌<◌, ℕ, suc, true, false, List, [], ◌∷◌, length, map, Option, Some, None, refl, sym, ap, ◌∙◌, subst}
use Rattle.std.proofs.lemmas.Option.{slice_get-map}
use Rattle.std.specs.Prelude.{drop, option_map, pos, slice_get}
use Rattle.sim_base.specs.declared.limits.Limits.{Limits}
use Rattle.sim_scope.specs.Source.{Source, block_around}
use Rattle.sim_tree.specs.Syntax.{Also, Statement, Statements}
use Rattle.sim_tree.specs.Syntax as syntax
use Rattle.sim_code.specs.declared.instr.Instr.TheVariants as i
use Rattle.sim_code.specs.declared.instr.Lined.{Lined}
use Rattle.sim_code.specs.declared.stage.Stage.{Stage}
use Rattle.sim_code.specs.declared.stage.Stage.TheVariants as stage
use Rattle.sim_code.specs.Classes.{class_of, levels_in}
use Rattle.sim_code.specs.Code.{BlockOf, ClassOf, CodeOf}
use Rattle.sim_code.specs.Events.{having, no_rule, when}
use Rattle.sim_code.specs.Levels.{after_declarations, at_inner, class_at_level, leading, own_levels, record_in, same_stage}
use Rattle.sim_code.specs.Levels as levels_of_code
use Rattle.sim_code.specs.Machine.{Frames, Machine, Value, text_in}
use Rattle.sim_code.specs.Machine as machine
use Rattle.sim_code.specs.Outcome.{Going, Run, World}
use Rattle.sim_code.specs.Rows.{on_top}
use Rattle.sim_code.proofs.Lifts.{alike_found, alike_ticking}
use Rattle.sim_code.proofs.Simulation.{Alike, unruled}
use Rattle.sim_meaning.specs.Levels.{has_levels, levels, levels_inside, levels_made, levels_of, text_at}
use Rattle.sim_meaning.specs.Meaning.{do_item, do_op}
use Rattle.sim_meaning.specs.Objects.{level_work}
use Rattle.sim_meaning.specs.Pending.{Activation, Configuration, Do, EndLevel, Exec, Execs, InnerOp, Instances, Item, Level, LevelOp, Val}
use Rattle.sim_meaning.specs.Statements.{inner_begun, levels_of_instance}
use Rattle.sim_meaning.specs.Steps.{go}
use Rattle.sim_meaning.specs.Texts.{text}
use Rattle.codegen_expr.specs.Sites.{Is, block_number, class_number, expression_temps, own_end}
use Rattle.codegen.specs.CodeStm.{InnerOrAt, StmAt, StmsAt, WithInnerAt, inner_of}
use Rattle.codegen.specs.Compiled.{Compiled}
use Rattle.sim_relate.proofs.ClassLevels.{levels_here, levels_solid}
use Rattle.sim_relate.proofs.ClassTexts.{class_has}
use Rattle.sim_relate.proofs.Ends.{chosen}
use Rattle.sim_relate.proofs.Frames.{same_frame}
use Rattle.sim_relate.proofs.Heads.{both_found, is_live_at}
use Rattle.sim_relate.proofs.Here.{Here, There, act, act_owner, at_row, goes, there_of}
use Rattle.sim_relate.proofs.Known.{Kind, Low, Runs, Spot, at_stage, site_at, spot, Settled, behind_process, is_process_in, is_process_level}
use Rattle.sim_relate.proofs.LevelCode.{dropped_at, dropped_none, level_begins, level_code, levels_around, made_of, moved_level, none_made}
use Rattle.sim_relate.proofs.LevelLists.{inside_made}
use Rattle.sim_relate.proofs.Lists.{there_get}
use Rattle.sim_relate.proofs.Living.{lives_now}
use Rattle.sim_relate.proofs.Pending.{pends, pends_in}
use Rattle.sim_relate.proofs.Reach.{equal_numbers, stands_as}
use Rattle.sim_relate.proofs.Relation.{AtLevel, ChainAt, DeclaredIs, DeclaredTo, InnerHere, InnerIs, InstanceAt, LevelEnds, LevelIs, StateAt, WithInnerIs, WorkAt, at_level, inner_here, inner_last, straight, there, to_first, to_next, with_inner}
use Rattle.sim_relate.proofs.Waiting.{Wait}
use Rattle.sim_relate.proofs.Stores.{frame_number, live_pair, own_frame_at, own_stands}

some_is : {A : Type 0} {x y : A} → Some x ≡ Some y → x ≡ y
some_is e = cc (e)

module _ (s : Source) (code : CodeOf) (l : Limits) (compiled : Compiled s code) (o : World) (m : Instances) (inst : ℕ) (w : List Item) (vals : List Val) (rest : List Activation) (fs : Frames) (t : ℕ) (b : Runs) (pc : ℕ) (stack : List Value) (below : List machine.Activation) (ks : List Kind) (here : Here s code m fs inst rest t b ks vals stack) where
  abbrev R : Configuration → Machine → Type 0
  R = StateAt s code

  abbrev top : machine.Activation
  top = act inst pc stack b

  abbrev Below : Wait → Type 0
  Below v = ChainAt s code m fs rest v below

  -- ---- the levels of the instance

  abbrev numbers : List ℕ
  numbers = map (class_number s code) (levels_of s b.own)

  numbers_here : has_levels (text s b.own) ≡ true → levels_in code (class_of code fs inst) ≡ Some numbers
  numbers_here c =
      let now = lives_now m inst here.lives in
      let f = both_found (InstanceAt s code m) _ _ now.0 now.1 (live_pair s code m fs here.store inst) in
      let there = (is_live_at (slice_get fs.instances inst) f.it f.is).there in
      let number : Some f.it.text ≡ Some (block_number s b.own) = sym (ap text_in there) ∙ frame_number s code m fs here.store inst b.own here.own in
      levels_here s code compiled fs inst b.own f.it f.is (some_is number) c

  -- the levels of the frame on top, which is at this stage
  own_alike : b.thunk ≡ None → (g : Stage) → has_levels (text s b.own) ≡ true → b.stage ≡ g → same_stage g g ≡ true → (r : Run Configuration) (y : List ℕ → Run Machine) → Alike R r (y numbers) → Alike R r (own_levels code fs top g o y)
  unfolding own_levels when
  own_alike base g c e self r y h =
      chosen (λ z. Alike R r z) (same_stage b.stage g) _ (no_rule o) (ap (λ z. same_stage z g) e ∙ self)
      (alike_found Configuration Machine R ℕ (machine.owner top) inst o r _ (act_owner inst pc stack b base)
      (alike_found Configuration Machine R (List ℕ) (levels_in code (class_of code fs inst)) numbers o r y (numbers_here c) h))

  index_alike : (n : ℕ) (r : Run Configuration) (y : ℕ → Run Machine) → Alike R r (y n) → Alike R r (machine.index (pos n) o y)
  unfolding machine.index
  index_alike n r y h = alike_found Configuration Machine R ℕ (machine.number (pos n)) n o r y refl h

  leads_alike : (k : ℕ) (r : Run Configuration) (y : Run Machine) → k < length code.instrs → Alike R r y → Alike R r (leading code k o y)
  unfolding leading
  leads_alike k r y lt h = let x = there_get code.instrs k lt in alike_found Configuration Machine R Lined (slice_get code.instrs k) x.0 o r (λ z. y) x.1 h

  class_at : (k n : ℕ) (block : BlockOf) (class : ClassOf) → LevelIs s code b k n block class → class_at_level code numbers n ≡ Some class
  class_at k n block class a = ap (record_in code) (slice_get-map (class_number s code) (levels_of s b.own) n ∙ ap (option_map (class_number s code)) a.place_is) ∙ a.numbered

  no_class_at : (n : ℕ) → slice_get (levels_of s b.own) n ≡ None → class_at_level code numbers n ≡ None
  no_class_at n e = ap (record_in code) (slice_get-map (class_number s code) (levels_of s b.own) n ∙ ap (option_map (class_number s code)) e)

  has_own : (k n : ℕ) (block : BlockOf) (class : ClassOf) → LevelIs s code b k n block class → has_levels (text s b.own) ≡ true
  has_own k n block class a = levels_around s code compiled b.own k a.level a.has

  -- what is run at a level and a stage
  abbrev leveled : (k : ℕ) → BlockOf → Stage → Runs
  leveled k block g = (at_level s code b k block g).runs

  -- the instance at a level and a stage
  there_at : (k n : ℕ) (block : BlockOf) (class : ClassOf) (g : Stage) → LevelIs s code b k n block class → There s code m fs inst k (leveled k block g) ks vals stack
  there_at k n block class g a = record {
    store = here.store;
    parked = here.parked;
    stands = stands_as s m compiled.agrees inst b.own k here.own (own_stands s code m fs here.store inst b.own here.own) a.level a.frame (own_frame_at s code m fs here.store inst b.own here.own);
    own = here.own;
    roomy = a.roomy;
    found = ap (λ z. slice_get code.blocks (block_number s z)) a.frame ∙ a.found;
    values = here.values;
    free = here.free;
  }

  -- control goes to a level at a stage
  to_level : (k n : ℕ) (block : BlockOf) (class : ClassOf) (g : Stage) (target : ℕ) (w : List Item) → LevelIs s code b k n block class → target < length code.instrs → WorkAt s code m fs Below inst k (leveled k block g) (own_end s code k + expression_temps) w target ks
      → Alike R (go o m inst w vals rest) (levels_of_code.at_stage code o fs top below g target)
  to_level k n block class g target w a lt work = leads_alike target _ _ lt (goes s code (own_end s code k + expression_temps) target (there_at k n block class g a) work refl)

  -- work at a spot, with nothing in hand
  work_as : (c d : Spot) (q q' : ℕ) (kinds : List Kind) → c ≡ d → q ≡ q' → ks ≡ [] → kinds ≡ [] → WorkAt s code m fs Below inst c.text c.runs c.used w q kinds → WorkAt s code m fs Below inst d.text d.runs d.used w q' ks
  work_as c d q q' kinds e f none none_behind work =
      subst (λ z. WorkAt s code m fs Below inst d.text d.runs d.used w q' z) (none_behind ∙ sym none)
      (subst (λ z. WorkAt s code m fs Below inst d.text d.runs d.used w z kinds) f
      (subst (λ z. WorkAt s code m fs Below inst z.text z.runs z.used w q kinds) e work))

  -- the end of a level inside another one
  pub end_level : (k q : ℕ) (c : Spot) → LevelEnds s code b c pc q ks → WorkAt s code m fs Below inst c.text c.runs c.used w q [] → Alike R (do_item s l o m inst w vals rest (EndLevel k)) (on_top code l o fs top below)
  end_level k q c a work =
      at_row s code l o fs top below _ (i.EndLevel (pos (suc a.place))) (a.is).line a.is_at (a.is).is
      (index_alike (suc a.place) _ _
      (own_alike (a.level).base (stage.Behind (suc a.place)) (has_own a.text a.place a.block a.class a.level) a.was (equal_numbers (suc a.place) (suc a.place) refl) _ _
      (alike_found Configuration Machine R ClassOf (class_at_level code numbers a.place) a.class o _ _ (class_at a.text a.place a.block a.class a.level)
      (to_level a.text a.place a.block a.class (stage.Behind a.place) a.class.after_inner w a.level (subst (λ z. z < length code.instrs) (sym a.leads) a.there)
      (work_as c (at_level s code b a.text a.block (stage.Behind a.place)) q a.class.after_inner [] a.goes_on (sym a.leads) a.none refl work)))))

  module _ (u q : ℕ) (ks' : List Kind) (low : Low s code t b u) where
    -- all declarations of a level are made
    pub declared : (k : ℕ) (c : Spot) → DeclaredIs s code b c pc q ks ks' → WorkAt s code m fs Below inst c.text c.runs c.used w q ks' → Alike R (do_op s l o m inst w vals rest (LevelOp k)) (on_top code l o fs top below)
    declared k c a work =
        at_row s code l o fs top below _ (i.NextDecl (pos a.place)) (a.is).line a.on (a.is).is
        (index_alike a.place _ _ (to a.to))
      where
        to : DeclaredTo s code b a.place c q → Alike R (go o m inst w vals rest) (levels_of_code.declarations_done code o fs top below a.place)
        to (to_next x) =
            own_alike (x.level).base (stage.Declaring a.place) (has_own x.text (suc a.place) x.block x.class x.level) a.was (equal_numbers a.place a.place refl) _ _
            (subst (λ z. Alike R (go o m inst w vals rest) (after_declarations code o fs top below a.place numbers z)) (sym (class_at x.text (suc a.place) x.block x.class x.level))
            (to_level x.text (suc a.place) x.block x.class (stage.Declaring (suc a.place)) x.class.declarations w x.level (subst (λ z. z < length code.instrs) (sym x.leads) a.there)
            (work_as c (at_level s code b x.text x.block (stage.Declaring (suc a.place))) q x.class.declarations ks' x.goes_on (sym x.leads) a.none a.none_behind work)))
        to (to_first x) =
            own_alike (x.level).base (stage.Declaring a.place) (has_own x.text 0 x.block x.class x.level) a.was (equal_numbers a.place a.place refl) _ _
            (subst (λ z. Alike R (go o m inst w vals rest) (after_declarations code o fs top below a.place numbers z)) (sym (no_class_at (suc a.place) x.last))
            (alike_found Configuration Machine R ClassOf (class_at_level code numbers 0) x.class o _ _ (class_at x.text 0 x.block x.class x.level)
            (to_level x.text 0 x.block x.class (stage.Stating 0) x.class.statements w x.level (subst (λ z. z < length code.instrs) (sym x.leads) a.there)
            (work_as c (at_level s code b x.text x.block (stage.Stating 0)) q x.class.statements ks' x.goes_on (sym x.leads) a.none a.none_behind work))))

    -- ---- the levels inside

    -- the same place at another stage
    restaged : (g : Stage) → There s code m fs inst t (at_stage b g) ks vals stack
    restaged g = record { store = here.store; parked = here.parked; stands = here.stands; own = here.own; roomy = here.roomy; found = here.found; values = here.values; free = here.free }

    -- The statements of the next level begin, and behind its end control goes on here; where there is none it goes on at once.
    pub inner_done : (xs : List Level) (c : Spot) → InnerIs s code (site_at t b u) b c xs pc q ks ks' → WorkAt s code m fs Below inst c.text c.runs c.used w q ks' → Alike R (do_op s l o m inst w vals rest (InnerOp xs)) (on_top code l o fs top below)
    inner_done xs c a work =
        let at = a.at in
        at_row s code l o fs top below _ (i.Inner (pos a.place)) (a.is).line q (a.is).is
        (index_alike a.place _ _
        (own_alike (at.level).base (stage.Stating a.place) (has_own t a.place b.block at.class at.level) at.was (equal_numbers a.place a.place refl) _ _
        (by xs a.inside)))
      where
        by : (xs : List Level) → levels_made s (drop (suc a.place) (levels_of s b.own)) ≡ Some xs → Alike R (do_op s l o m inst w vals rest (InnerOp xs)) (at_inner code o fs top below a.place (class_at_level code numbers (suc a.place)))
        by [] e =
            subst (λ z. Alike R (go o m inst w vals rest) (at_inner code o fs top below a.place z)) (sym (no_class_at (suc a.place) (dropped_none (suc a.place) (levels_of s b.own) (none_made s (drop (suc a.place) (levels_of s b.own)) e))))
            (goes s code u q (restaged (stage.Behind a.place)) (work_as c (spot t (at_stage b (stage.Behind a.place)) u) q q ks' (a.at).goes_on refl (a.at).none (a.at).none_behind work) (a.is).is.on)
        by (x ∷ xs) e =
            let at = a.at in
            let has = has_own t a.place b.block at.class at.level in
            let own = class_has s code compiled b.own has in
            let made = made_of s (drop (suc a.place) (levels_of s b.own)) x xs e in
            let d = dropped_at (suc a.place) (levels_of s b.own) made.number made.more made.is in
            let next = level_code s code compiled b own.block own.found (at.level.own_roomy own.block own.found) has at.level.of_class at.level.base made.number (suc a.place) x d.0 made.first in
            let inside : levels_made s (drop (suc (suc a.place)) (levels_of s b.own)) ≡ Some xs = ap (levels_made s) d.1 ∙ made.rest in
            let sited : (x y : ℕ) → Runs = λ x y. record b { limit = x; temps = y; stage = stage.Behind a.place } in
            let spotted : at_level s code b t b.block (stage.Behind a.place) ≡ c = ap (λ z. spot t (sited z (own_end s code t)) (own_end s code t + expression_temps)) (sym at.limit_is) ∙ ap (λ z. spot t (sited b.limit z) (own_end s code t + expression_temps)) (sym at.temps_are) ∙ ap (λ z. spot t (at_stage b (stage.Behind a.place)) z) (sym at.low) ∙ sym at.goes_on in
            let ends : WorkAt s code m fs Below inst made.number (leveled made.number next.block (stage.Behind (suc a.place))) (own_end s code made.number + expression_temps) (EndLevel x.text ∷ w) next.stop [] = (
              next.stop,
              q,
              c,
              there refl,
              record {
                place = a.place;
                was = refl;
                is_at = next.behind;
                is = next.ends;
                block = b.block;
                class = at.class;
                text = t;
                level = moved_level s code compiled b (leveled made.number next.block (stage.Behind (suc a.place))) t a.place b.block at.class refl refl refl at.level;
                leads = at.leads;
                there = at.there;
                goes_on = sym spotted;
                none = refl;
              },
              subst (λ z. WorkAt s code m fs Below inst c.text c.runs c.used w q z) at.none_behind work,
            ) in
            let begins = level_begins s code compiled m fs Below inst b made.number (suc a.place) x next xs (EndLevel x.text ∷ w) inside ends in
            subst (λ z. Alike R (go o m inst (level_work x xs (EndLevel x.text ∷ w)) vals rest) (at_inner code o fs top below a.place z)) (sym (class_at made.number (suc a.place) next.block next.class next.level))
            (to_level made.number (suc a.place) next.block next.class (stage.Stating (suc a.place)) next.class.statements (level_work x xs (EndLevel x.text ∷ w)) next.level next.stated_there
            (subst (λ z. WorkAt s code m fs Below inst made.number (leveled made.number next.block (stage.Stating (suc a.place))) (own_end s code made.number + expression_temps) (level_work x xs (EndLevel x.text ∷ w)) next.class.statements z) (sym at.none) begins))

    -- ---- `inner` itself

    inner_goes : (c : Spot) (token : ℕ) (a : InnerHere s code (site_at t b u) b c token pc q ks ks') → WorkAt s code m fs Below inst c.text c.runs c.used w q ks' → (p : World) (at : Option ℕ) → at ≡ Some t
        → Alike R (inner_begun s p m inst w vals rest at) (Going p (record { chain = act inst (suc pc) stack b ∷ below; memory = fs }))
    unfolding having no_rule levels
    inner_goes c token a work p at e = subst (λ z. Alike R (inner_begun s p m inst w vals rest z) (Going p (record { chain = act inst (suc pc) stack b ∷ below; memory = fs }))) (sym e) (by (levels_of_instance s (text_at m inst)) refl)
      where
        by : (ls : Option (List Level)) → levels_of_instance s (text_at m inst) ≡ ls → Alike R (having ls p (λ xs. go p m inst (Do (InnerOp (levels_inside t xs)) ∷ w) vals rest)) (Going p (record { chain = act inst (suc pc) stack b ∷ below; memory = fs }))
        by None f = unruled
        by (Some xs) f =
            let at = a.at in
            let has = has_own t a.place b.block at.class at.level in
            let made : levels_made s (levels_of s b.own) ≡ Some xs = sym (ap (levels_of_instance s) here.own) ∙ f in
            let inside = inside_made s compiled.agrees b.own t a.place xs (levels_solid s code compiled b.own has) made at.level.place_is in
            goes s code u a.x (there_of s code here)
            (pends_in s code m fs Below inst t b u low w (InnerOp (levels_inside t xs)) t c a.x q ks ks' (same_frame s t) (inner_last (levels_inside t xs) refl (record { place = a.place; at = at; is = a.is; inside = inside })) work) (a.tick).is.on

    pub inner_statement : (token : ℕ) (c : Spot) → InnerHere s code (site_at t b u) b c token pc q ks ks' → WorkAt s code m fs Below inst c.text c.runs c.used w q ks' → Alike R (do_op s l o m inst w vals rest (Exec (syntax.Inner token))) (on_top code l o fs top below)
    inner_statement token c a work =
        at_row s code l o fs top below _ i.Tick (a.tick).line a.x (a.tick).is
        (alike_ticking Configuration Machine R l o _ _ (λ p. inner_goes c token a work p (block_around s token) a.its_own))

    -- ---- statements one of which is `inner`

    inner_is : (a : Statement) (token : ℕ) → inner_of a ≡ Some token → a ≡ syntax.Inner token
    inner_is (syntax.Inner x) token e = ap syntax.Inner (some_is e)
    inner_is (syntax.Empty x) token e = absurd (cc)
    inner_is (syntax.Compound x) token e = absurd (cc)
    inner_is (syntax.Call x) token e = absurd (cc)
    inner_is (syntax.Assign x y) token e = absurd (cc)
    inner_is (syntax.Choose x c y z) token e = absurd (cc)
    inner_is (syntax.Repeat x c y) token e = absurd (cc)
    inner_is (syntax.For x y sign assign es z) token e = absurd (cc)
    inner_is (syntax.Prefixed class es x) token e = absurd (cc)
    inner_is (syntax.Inspect x e2 opening y end other) token e = absurd (cc)
    inner_is (syntax.InspectWhen x e2 arms other) token e = absurd (cc)
    inner_is (syntax.Activate x word e2 schedule) token e = absurd (cc)

    -- behind `inner` of a level that is not that of `process` no process is at its end
    behind : (place : ℕ) → slice_get (levels_of s b.own) place ≡ Some t → is_process_in s t ≡ false → Settled s code t (at_stage b (stage.Behind place)) u
    behind place e ordinary = record { at = record { low = low.low; temps = low.temps; full = low.full }; calm = ap (is_process_level s) e ∙ ordinary }

    begin_with : (a : Statement) (more : Statements) (c : Spot) (place after : ℕ) → AtLevel s code (site_at t b u) b c place after ks ks' → is_process_in s t ≡ false → (x : Option ℕ) → inner_of a ≡ x
        → InnerOrAt s code (site_at t b u) place after x a more (WithInnerAt s code (site_at t b u) place after more) pc q → WorkAt s code m fs Below inst c.text c.runs c.used w q ks' → WorkAt s code m fs Below inst t b u (Do (Exec a) ∷ Do (Execs more) ∷ w) pc ks
    begin_with a more c place after at ordinary (Some token) e code_is work =
        let h = code_is.1 in
        let work' = subst (λ z. WorkAt s code m fs Below inst z.text z.runs z.used w q ks') at.goes_on work in
        subst (λ z. WorkAt s code m fs Below inst t b u (Do (Exec z) ∷ Do (Execs more) ∷ w) pc ks) (sym (inner_is a token e))
        (pends_in s code m fs Below inst t b u low (Do (Execs more) ∷ w) (Exec (syntax.Inner token)) t c pc code_is.0 ks ks' (same_frame s t)
        (inner_here token refl (record {
          place = place;
          at = subst (λ z. AtLevel s code (site_at t b u) b c place z ks ks') (sym h.on) at;
          x = h.x;
          tick = h.tick;
          is = subst (λ z. Is code (i.Inner (pos place)) h.x z) (sym h.on) h.inner;
          its_own = h.its_own;
          ordinary = ordinary;
        }))
        (subst (λ z. WorkAt s code m fs Below inst z.text z.runs z.used (Do (Execs more) ∷ w) code_is.0 ks') (sym at.goes_on)
        (pends s code m fs Below inst t (at_stage b (stage.Behind place)) u (behind place at.level.place_is ordinary) w (Execs more) code_is.0 q ks' ks' (subst (λ n. StmsAt s code (site_at t b u) n more code_is.0 q) (sym (ap length at.none_behind)) code_is.2, refl) work')))
    begin_with a more c place after at ordinary None e code_is work =
        pends s code m fs Below inst t b u (record { at = low; calm = ap (behind_process s b.own) at.was }) (Do (Execs more) ∷ w) (Exec a) pc code_is.0 ks ks (straight (subst (λ n. StmAt s code (site_at t b u) n a pc code_is.0) (sym (ap length at.none)) code_is.1), refl)
        (pends_in s code m fs Below inst t b u low w (Execs more) t c code_is.0 q ks ks' (same_frame s t) (with_inner more refl (record { place = place; after = after; at = at; is = code_is.2; ordinary = ordinary })) work)

    pub with_inner_begun : (a : Statement) (more : Statements) (c : Spot) → WithInnerIs s code (site_at t b u) b c (Also a more) pc q ks ks' → WorkAt s code m fs Below inst c.text c.runs c.used w q ks' → WorkAt s code m fs Below inst t b u (Do (Exec a) ∷ Do (Execs more) ∷ w) pc ks
    with_inner_begun a more c x work = begin_with a more c x.place x.after x.at x.ordinary (inner_of a) refl x.is work
