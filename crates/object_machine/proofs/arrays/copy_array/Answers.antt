use Rattle.std.proofs.Common.{◌≡◌, ℕ, [], ◌∷◌, ◌≤◌, ◌<◌, ◌++◌, List, length, ◌∙◌, ap, sym, subst, refl, arith, set, length-set}
use Rattle.std.specs.Prelude.{Some}
use Rattle.sim_code.specs.Arrays.{added, copying_array}
use Rattle.sim_code.specs.Events.{having, taking}
use Rattle.sim_code.specs.Machine.{ArrayValue, Machine, Value, array_in, on}
use Rattle.sim_code.specs.Outcome.{Run, World}
use Rattle.frame_arena.specs.Arrays.{array_at, copied_array, region_at}
use Rattle.frame_arena.specs.Slots.{value_of}
use Rattle.frame_arena.specs.Stacks.{slot_at, values_of}
use Rattle.object_machine.specs.declared.machine.Storage.{Storage}
use Rattle.object_machine.specs.Standing.{Leaves, Obeys, activation_at, below_of}
use Rattle.object_machine.proofs.ArrayRows.{copying_none, copying_some, exhausted, lead_arrays_put, lead_push, lead_put, no_words, put_at, stands_arrays, stands_paid, words_found}
use Rattle.object_machine.proofs.Going.{along, depth_goes_on, none}
use Rattle.object_machine.proofs.Having.{having_none, having_some}
use Rattle.object_machine.proofs.arrays.copy_array.Goals as goal

pub returns-in_default-clause-row : goal.returns-in_default-clause-row
unfolding Obeys
returns-in_default-clause-row c line below now before o m s =
    let l = c.args.limits.now in
    let p = c.args.storage.now in
    let r = c.args.regs.now in
    let stack = c.args.stack.now in
    let copied : List Value → ℕ → World → Run Machine = λ st copy w. on w m (activation_at r stack) (ArrayValue copy ∷ st) (below_of below) in
    let go : Value → List Value → Run Machine = λ v st. having (array_in v) o (λ array. copying_array l line r.home.stamp array o (copied st)) in
    along l line p below before now _ _ _ _ _ (c.in_default.ensures.row o go) (none l line p below before now _ r _ stack o m s)

pub returns-in_default-as_array-clause-row : goal.returns-in_default-as_array-clause-row
unfolding Obeys
returns-in_default-as_array-clause-row c line below now before o m s =
    let l = c.args.limits.now in
    let p = c.args.storage.now in
    let r = c.args.regs.now in
    let stack = c.args.stack.now in
    let copied : List Value → ℕ → World → Run Machine = λ st copy w. on w m (activation_at r stack) (ArrayValue copy ∷ st) (below_of below) in
    let go : Value → List Value → Run Machine = λ v st. having (array_in v) o (λ array. copying_array l line r.home.stamp array o (copied st)) in
    along l line p below before now _ _ _ _ _ (c.in-Some.ensures.row o go ∙ having_none (array_in (value_of (slot_at stack c.in-Some.at))) o _ c.in_default-as_array.ensures.number) (none l line p below before now _ r _ stack o m s)

pub returns-in_default-find-clause-row : goal.returns-in_default-find-clause-row
unfolding Obeys
returns-in_default-find-clause-row c line below now before o m s =
    let l = c.args.limits.now in
    let p = c.args.storage.now in
    let r = c.args.regs.now in
    let stack = c.args.stack.now in
    let copied : List Value → ℕ → World → Run Machine = λ st copy w. on w m (activation_at r stack) (ArrayValue copy ∷ st) (below_of below) in
    let go : Value → List Value → Run Machine = λ v st. having (array_in v) o (λ array. copying_array l line r.home.stamp array o (copied st)) in
    let at = c.in-Some.at in
    let v = value_of (slot_at stack at) in
    let from = c.in-Some-as_array.from in
    let K = copied (values_of at stack) in
    let begun = c.in-Some.ensures.row o go ∙ having_some (array_in v) from.stamp o _ c.in-Some-as_array.ensures.number in
    let lead = c.in-Some-as_array.ensures.leads p.arrays.regions o.arrays (s.top.arrays_lead at) in
    along l line p below before now _ _ _ _ _ (begun ∙ copying_none l line r.home.stamp from.stamp o K (c.in_default-find.ensures.gone o.arrays lead refl)) (none l line p below before now _ r _ stack o m s)

pub returns-in_default-words-clause-row : goal.returns-in_default-words-clause-row
unfolding Obeys
returns-in_default-words-clause-row c line below now before o m s =
    let l = c.args.limits.now in
    let p = c.args.storage.now in
    let r = c.args.regs.now in
    let stack = c.args.stack.now in
    let copied : List Value → ℕ → World → Run Machine = λ st copy w. on w m (activation_at r stack) (ArrayValue copy ∷ st) (below_of below) in
    let go : Value → List Value → Run Machine = λ v st. having (array_in v) o (λ array. copying_array l line r.home.stamp array o (copied st)) in
    let at = c.in-Some.at in
    let v = value_of (slot_at stack at) in
    let from = c.in-Some-as_array.from in
    let K = copied (values_of at stack) in
    let begun = c.in-Some.ensures.row o go ∙ having_some (array_in v) from.stamp o _ c.in-Some-as_array.ensures.number in
    let lead = c.in-Some-as_array.ensures.leads p.arrays.regions o.arrays (s.top.arrays_lead at) in
    along l line p below before now _ _ _ _ _ (begun ∙ copying_none l line r.home.stamp from.stamp o K (no_words (array_at o.arrays from.stamp) (c.in_default-words.ensures o.arrays s.stores.arrays lead))) (none l line p below before now _ r _ stack o m s)

pub returns-in_default-take_words-clause-row : goal.returns-in_default-take_words-clause-row
unfolding Obeys
returns-in_default-take_words-clause-row c line below now before o m s =
    let l = c.args.limits.now in
    let p = c.args.storage.now in
    let r = c.args.regs.now in
    let stack = c.args.stack.now in
    let copied : List Value → ℕ → World → Run Machine = λ st copy w. on w m (activation_at r stack) (ArrayValue copy ∷ st) (below_of below) in
    let go : Value → List Value → Run Machine = λ v st. having (array_in v) o (λ array. copying_array l line r.home.stamp array o (copied st)) in
    let at = c.in-Some.at in
    let v = value_of (slot_at stack at) in
    let from = c.in-Some-as_array.from in
    let K = copied (values_of at stack) in
    let begun = c.in-Some.ensures.row o go ∙ having_some (array_in v) from.stamp o _ c.in-Some-as_array.ensures.number in
    let lead = c.in-Some-as_array.ensures.leads p.arrays.regions o.arrays (s.top.arrays_lead at) in
    let wanted = c.in-Some-words.wanted in
    let w = words_found (array_at o.arrays from.stamp) wanted (c.in-Some-words.ensures o.arrays s.stores.arrays lead) in
    let budget : l.storage ≡ c.from-budget.result = sym c.from-budget.ensures in
    let then : World → Run Machine = λ x. K (length x.arrays) (added x (copied_array w.array r.home.stamp)) in
    let paid = begun ∙ copying_some l line r.home.stamp from.stamp o K w.array w.there ∙ ap (λ n. taking l line n o then) (sym w.words) in
    along l line _ below before now _ _ _ _ _ (paid ∙ c.in_default-take_words.ensures.row l line o then budget s.stores.world.words) (exhausted l line p _ r _ stack below before now o m wanted s)

pub returns-in_default-copy-clause-row : goal.returns-in_default-copy-clause-row
unfolding Obeys Leaves
returns-in_default-copy-clause-row c line below now before o m s = tt

pub returns-clause-row : goal.returns-clause-row
unfolding Obeys
returns-clause-row c line below now before o m s =
    let l = c.args.limits.now in
    let p = c.args.storage.now in
    let r = c.args.regs.now in
    let stack = c.args.stack.now in
    let copied : List Value → ℕ → World → Run Machine = λ st copy w. on w m (activation_at r stack) (ArrayValue copy ∷ st) (below_of below) in
    let go : Value → List Value → Run Machine = λ v st. having (array_in v) o (λ array. copying_array l line r.home.stamp array o (copied st)) in
    let at = c.in-Some.at in
    let v = value_of (slot_at stack at) in
    let from = c.in-Some-as_array.from in
    let K = copied (values_of at stack) in
    let begun = c.in-Some.ensures.row o go ∙ having_some (array_in v) from.stamp o _ c.in-Some-as_array.ensures.number in
    let lead = c.in-Some-as_array.ensures.leads p.arrays.regions o.arrays (s.top.arrays_lead at) in
    let wanted = c.in-Some-words.wanted in
    let w = words_found (array_at o.arrays from.stamp) wanted (c.in-Some-words.ensures o.arrays s.stores.arrays lead) in
    let budget : l.storage ≡ c.from-budget.result = sym c.from-budget.ensures in
    let then : World → Run Machine = λ x. K (length x.arrays) (added x (copied_array w.array r.home.stamp)) in
    let paid = begun ∙ copying_some l line r.home.stamp from.stamp o K w.array w.there ∙ ap (λ n. taking l line n o then) (sym w.words) in
    let words = c.in-Some-take_words.words in
    let array = c.in-Ok.array in
    let x = copied_array w.array r.home.stamp in
    let list = o.arrays ++ x ∷ [] in
    let o2 : World = record o { words = words; arrays = list } in
    let p1 : Storage = record p { words = words; wanted = wanted } in
    let p2 : Storage = record p1 { arrays = c.copy.new.self } in
    let holds = s.stores.arrays in
    let number : array_at o.arrays (region_at p.arrays.regions c.in-Some-find.place).number ≡ Some w.array = ap (array_at o.arrays) c.in-Some-find.ensures.there.2 ∙ w.there in
    let within : words ≤ l.storage = subst (λ n. words ≤ n) (sym budget) c.in-Some-take_words.ensures.within in
    let s1 = stands_paid l p r stack below before now o m words wanted s within in
    let s2 = stands_arrays l p1 r stack below before now (record o { words = words }) m c.copy.new.self list s1 (c.in-Ok.ensures.holds o.arrays w.array holds number) (c.in-Ok.ensures.leads o.arrays x holds) (c.in-Ok.ensures.elements p.frames.items m s.stores.elements) in
    let slot = c.array.result in
    let value : ArrayValue (length o.arrays) ≡ value_of slot = ap ArrayValue (sym (c.in-Ok.ensures.number o.arrays holds)) ∙ sym c.array.ensures.value in
    let d = c.in-Some.ensures.shallower in
    let inside : at < length stack = let f = c.requires.fits in omega (arith, d, f) in
    along l line p2 below before now _ _ _ _ _
    (paid ∙ c.in-Some-take_words.ensures.row l line o then budget s.stores.world.words
    ∙ ap (λ v. on o2 m (activation_at r stack) (v ∷ values_of at stack) (below_of below)) value
    ∙ ap (λ st. on o2 m (activation_at r stack) st (below_of below)) (put_at r.depth at stack slot d c.requires.fits))
    (depth_goes_on l line p2 below before now r _ stack (set stack at slot) o2 m r.depth s2 (length-set stack at slot) (refl, refl, refl) refl refl
    (lead_put p.frames.items m stack at slot inside s.top.slots (lead_push p.frames.items m slot c.array.ensures.no_frame))
    (lead_arrays_put c.copy.new.self.regions list stack at slot inside s2.top.arrays_lead (c.array.ensures.leads c.copy.new.self.regions list (c.in-Ok.ensures.here o.arrays x holds))))
