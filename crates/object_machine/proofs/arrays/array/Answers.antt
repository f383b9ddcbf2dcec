use Rattle.std.proofs.Common.{arith, rules, ◌≡◌, ℕ, [], ◌∷◌, ◌*◌, ◌≤◌, ◌++◌, List, length, ◌∙◌, ap, sym, subst, of_z, to_z, w64}
use Rattle.std.specs.Prelude.{ℤ, Ok}
use Rattle.sim_values.specs.Words.{array_words}
use Rattle.sim_code.specs.Arrays.{added, making_array, pairs}
use Rattle.sim_code.specs.Machine.{ArrayValue, Machine, Value, index, number, on, pushing}
use Rattle.sim_code.specs.Outcome.{Run, World}
use Rattle.sim_code.specs.Rows.{element_kind}
use Rattle.frame_arena.specs.Arrays.{made_array}
use Rattle.frame_arena.specs.Slots.{value_of}
use Rattle.frame_arena.specs.Stacks.{integers_from, values_of}
use Rattle.object_machine.specs.declared.machine.Storage.{Storage}
use Rattle.object_machine.specs.Standing.{Leaves, Obeys, activation_at, below_of}
use Rattle.object_machine.proofs.ArrayRows.{exhausted, lead_push, making_fault, making_words, stands_arrays, stands_paid}
use Rattle.object_machine.proofs.Going.{along, faults, none}
use Rattle.object_machine.proofs.Having.{counted, having_none, having_some, uncounted}
use Rattle.object_machine.proofs.arrays.array.Goals as goal

pub returns-in_default-clause-row : goal.returns-in_default-clause-row
unfolding Obeys index
returns-in_default-clause-row c line below now before o m s =
    let l = c.args.limits.now in
    let p = c.args.storage.now in
    let r = c.args.regs.now in
    let stack = c.args.stack.now in
    let ek : to_z w64 (of_z w64 c.args.kind) ≡ c.args.kind = search rules in
    let en : to_z w64 (of_z w64 c.args.count) ≡ c.args.count = search rules in
    let put : ℕ → List Value → ℕ → World → Run Machine = λ n st array w. pushing (length stack) st (ArrayValue array) w (λ st. on w m (activation_at r stack) st (below_of below)) in
    along l line p below before now _ _ _ _ _ (having_none (element_kind c.args.kind) o _ (c.in_default.ensures ∙ ap element_kind ek)) (none l line p below before now _ r _ stack o m s)

pub returns-in_default-index-clause-row : goal.returns-in_default-index-clause-row
unfolding Obeys index
returns-in_default-index-clause-row c line below now before o m s =
    let l = c.args.limits.now in
    let p = c.args.storage.now in
    let r = c.args.regs.now in
    let stack = c.args.stack.now in
    let ek : to_z w64 (of_z w64 c.args.kind) ≡ c.args.kind = search rules in
    let en : to_z w64 (of_z w64 c.args.count) ≡ c.args.count = search rules in
    let put : ℕ → List Value → ℕ → World → Run Machine = λ n st array w. pushing (length stack) st (ArrayValue array) w (λ st. on w m (activation_at r stack) st (below_of below)) in
    along l line p below before now _ _ _ _ _ (having_some (element_kind c.args.kind) c.in-Some.kind o _ (c.in-Some.ensures ∙ ap element_kind ek) ∙ having_none (number c.args.count) o _ (c.in_default-index.ensures ∙ ap number en)) (none l line p below before now _ r _ stack o m s)

pub returns-then-count-eq0-clause-row : goal.returns-then-count-eq0-clause-row
unfolding Obeys index
returns-then-count-eq0-clause-row c line below now before o m s =
    let l = c.args.limits.now in
    let p = c.args.storage.now in
    let r = c.args.regs.now in
    let stack = c.args.stack.now in
    let ek : to_z w64 (of_z w64 c.args.kind) ≡ c.args.kind = search rules in
    let en : to_z w64 (of_z w64 c.args.count) ≡ c.args.count = search rules in
    let kind = c.in-Some.kind in
    let count = c.in-Some-index.count in
    let begun = having_some (element_kind c.args.kind) kind o _ (c.in-Some.ensures ∙ ap element_kind ek) ∙ having_some (number c.args.count) count o _ (c.in-Some-index.ensures ∙ ap number en) in
    along l line p below before now _ _ _ _ _ (begun ∙ uncounted count o _ (omega (arith, c.if-count-eq0.true))) (none l line p below before now _ r _ stack o m s)

pub returns-in_default-pop_integers-clause-row : goal.returns-in_default-pop_integers-clause-row
unfolding Obeys index
returns-in_default-pop_integers-clause-row c line below now before o m s =
    let l = c.args.limits.now in
    let p = c.args.storage.now in
    let r = c.args.regs.now in
    let stack = c.args.stack.now in
    let ek : to_z w64 (of_z w64 c.args.kind) ≡ c.args.kind = search rules in
    let en : to_z w64 (of_z w64 c.args.count) ≡ c.args.count = search rules in
    let put : ℕ → List Value → ℕ → World → Run Machine = λ n st array w. pushing (length stack) st (ArrayValue array) w (λ st. on w m (activation_at r stack) st (below_of below)) in
    let kind = c.in-Some.kind in
    let count = c.in-Some-index.count in
    let go : List ℤ → List Value → Run Machine = λ bounds st. making_array l line r.home.stamp kind (pairs bounds) o (put count st) in
    let begun = having_some (element_kind c.args.kind) kind o _ (c.in-Some.ensures ∙ ap element_kind ek) ∙ having_some (number c.args.count) count o _ (c.in-Some-index.ensures ∙ ap number en) ∙ counted count o _ (omega (arith, c.if-count-eq0.false)) in
    along l line p below before now _ _ _ _ _ (begun ∙ c.in_default-pop_integers.ensures.row o go) (none l line p below before now _ r _ stack o m s)

pub returns-in_default-bounds_of-clause-row : goal.returns-in_default-bounds_of-clause-row
unfolding Obeys Leaves
returns-in_default-bounds_of-clause-row c line below now before o m s = tt

pub returns-in_default-make-clause-row : goal.returns-in_default-make-clause-row
unfolding Obeys Leaves
returns-in_default-make-clause-row c line below now before o m s = tt

pub returns-in-Err-clause-row : goal.returns-in-Err-clause-row
unfolding Obeys index
returns-in-Err-clause-row c line below now before o m s =
    let l = c.args.limits.now in
    let p = c.args.storage.now in
    let r = c.args.regs.now in
    let stack = c.args.stack.now in
    let ek : to_z w64 (of_z w64 c.args.kind) ≡ c.args.kind = search rules in
    let en : to_z w64 (of_z w64 c.args.count) ≡ c.args.count = search rules in
    let put : ℕ → List Value → ℕ → World → Run Machine = λ n st array w. pushing (length stack) st (ArrayValue array) w (λ st. on w m (activation_at r stack) st (below_of below)) in
    let kind = c.in-Some.kind in
    let count = c.in-Some-index.count in
    let go : List ℤ → List Value → Run Machine = λ bounds st. making_array l line r.home.stamp kind (pairs bounds) o (put count st) in
    let begun = having_some (element_kind c.args.kind) kind o _ (c.in-Some.ensures ∙ ap element_kind ek) ∙ having_some (number c.args.count) count o _ (c.in-Some-index.ensures ∙ ap number en) ∙ counted count o _ (omega (arith, c.if-count-eq0.false)) in
    let first = c.in-Some-pop_integers.first in
    let rest = values_of first stack in
    let popped = begun ∙ c.in-Some-pop_integers.ensures.row o go in
    let bounds = c.in-Ok.bounds.items in
    let same : pairs (integers_from stack first (2 * count)) ≡ bounds = sym c.in-Ok.ensures in
    let at_bounds = popped ∙ ap (λ b. making_array l line r.home.stamp kind b o (put count rest)) same in
    along l line p below before now _ _ _ _ _
    (at_bounds ∙ making_fault l line r.home.stamp kind bounds o (put count rest) c.in-Err.error (ap array_words (sym c.deref.ensures.value) ∙ sym c.in-Err.ensures.words))
    (faults l line p below before now c.in-Err.error _ r _ stack o m s)

pub returns-in_default-take_words-clause-row : goal.returns-in_default-take_words-clause-row
unfolding Obeys index
returns-in_default-take_words-clause-row c line below now before o m s =
    let l = c.args.limits.now in
    let p = c.args.storage.now in
    let r = c.args.regs.now in
    let stack = c.args.stack.now in
    let ek : to_z w64 (of_z w64 c.args.kind) ≡ c.args.kind = search rules in
    let en : to_z w64 (of_z w64 c.args.count) ≡ c.args.count = search rules in
    let put : ℕ → List Value → ℕ → World → Run Machine = λ n st array w. pushing (length stack) st (ArrayValue array) w (λ st. on w m (activation_at r stack) st (below_of below)) in
    let kind = c.in-Some.kind in
    let count = c.in-Some-index.count in
    let go : List ℤ → List Value → Run Machine = λ bounds st. making_array l line r.home.stamp kind (pairs bounds) o (put count st) in
    let begun = having_some (element_kind c.args.kind) kind o _ (c.in-Some.ensures ∙ ap element_kind ek) ∙ having_some (number c.args.count) count o _ (c.in-Some-index.ensures ∙ ap number en) ∙ counted count o _ (omega (arith, c.if-count-eq0.false)) in
    let first = c.in-Some-pop_integers.first in
    let rest = values_of first stack in
    let popped = begun ∙ c.in-Some-pop_integers.ensures.row o go in
    let bounds = c.in-Ok.bounds.items in
    let same : pairs (integers_from stack first (2 * count)) ≡ bounds = sym c.in-Ok.ensures in
    let at_bounds = popped ∙ ap (λ b. making_array l line r.home.stamp kind b o (put count rest)) same in
    let wanted = c.in-Ok-words_array.wanted in
    let words_are : array_words bounds ≡ Ok wanted = ap array_words (sym c.deref.ensures.value) ∙ sym c.in-Ok-words_array.ensures.words in
    let then : World → Run Machine = λ w. put count rest (length w.arrays) (added w (made_array bounds kind r.home.stamp)) in
    let paid = at_bounds ∙ making_words l line r.home.stamp kind bounds o (put count rest) wanted words_are in
    let budget : l.storage ≡ c.from-budget.result = sym c.from-budget.ensures in
    along l line _ below before now _ _ _ _ _ (paid ∙ c.in_default-take_words.ensures.row l line o then budget s.stores.world.words)
    (exhausted l line p _ r _ stack below before now o m wanted s)

pub returns-clause-row : goal.returns-clause-row
unfolding Obeys index
returns-clause-row c line below now before o m s =
    let l = c.args.limits.now in
    let p = c.args.storage.now in
    let r = c.args.regs.now in
    let stack = c.args.stack.now in
    let ek : to_z w64 (of_z w64 c.args.kind) ≡ c.args.kind = search rules in
    let en : to_z w64 (of_z w64 c.args.count) ≡ c.args.count = search rules in
    let put : ℕ → List Value → ℕ → World → Run Machine = λ n st array w. pushing (length stack) st (ArrayValue array) w (λ st. on w m (activation_at r stack) st (below_of below)) in
    let kind = c.in-Some.kind in
    let count = c.in-Some-index.count in
    let go : List ℤ → List Value → Run Machine = λ bounds st. making_array l line r.home.stamp kind (pairs bounds) o (put count st) in
    let begun = having_some (element_kind c.args.kind) kind o _ (c.in-Some.ensures ∙ ap element_kind ek) ∙ having_some (number c.args.count) count o _ (c.in-Some-index.ensures ∙ ap number en) ∙ counted count o _ (omega (arith, c.if-count-eq0.false)) in
    let first = c.in-Some-pop_integers.first in
    let rest = values_of first stack in
    let popped = begun ∙ c.in-Some-pop_integers.ensures.row o go in
    let bounds = c.in-Ok.bounds.items in
    let same : pairs (integers_from stack first (2 * count)) ≡ bounds = sym c.in-Ok.ensures in
    let at_bounds = popped ∙ ap (λ b. making_array l line r.home.stamp kind b o (put count rest)) same in
    let wanted = c.in-Ok-words_array.wanted in
    let words_are : array_words bounds ≡ Ok wanted = ap array_words (sym c.deref.ensures.value) ∙ sym c.in-Ok-words_array.ensures.words in
    let then : World → Run Machine = λ w. put count rest (length w.arrays) (added w (made_array bounds kind r.home.stamp)) in
    let paid = at_bounds ∙ making_words l line r.home.stamp kind bounds o (put count rest) wanted words_are in
    let budget : l.storage ≡ c.from-budget.result = sym c.from-budget.ensures in
    let words = c.in-Some-take_words.words in
    let array = c.in-Ok-make.array in
    let x = made_array bounds kind r.home.stamp in
    let list = o.arrays ++ x ∷ [] in
    let w : World = record o { words = words; arrays = list } in
    let p1 : Storage = record p { words = words; wanted = wanted } in
    let p2 : Storage = record p1 { arrays = c.make.new.self } in
    let holds = s.stores.arrays in
    let within : words ≤ l.storage = subst (λ n. words ≤ n) (sym budget) c.in-Some-take_words.ensures.within in
    let s1 = stands_paid l p r stack below before now o m words wanted s within in
    let s2 = stands_arrays l p1 r stack below before now (record o { words = words }) m c.make.new.self list s1 (c.in-Ok-make.ensures.holds o.arrays holds) (c.in-Ok-make.ensures.leads o.arrays holds) (c.in-Ok-make.ensures.elements p.frames.items m s.stores.elements) in
    let slot = c.array.result in
    let value : ArrayValue (length o.arrays) ≡ value_of slot = ap ArrayValue (sym (c.in-Ok-make.ensures.number o.arrays holds)) ∙ sym c.array.ensures.value in
    let behind : List Value → Run Machine = λ st. on w m (activation_at r stack) st (below_of below) in
    along l line p2 below before now _ _ _ _ _
    (paid ∙ c.in-Some-take_words.ensures.row l line o then budget s.stores.world.words
    ∙ ap (λ v. pushing (length stack) rest v w behind) value
    ∙ c.push-depth.ensures.row w behind)
    (c.settle.ensures.row l line p2 below before now w m stack c.push-depth.new.stack s2 c.push-depth.ensures.long
    (c.push-depth.ensures.leads p.frames.items m s.top.slots (lead_push p.frames.items m slot c.array.ensures.no_frame))
    (c.push-depth.ensures.leads_arrays c.make.new.self.regions list s2.top.arrays_lead (c.array.ensures.leads c.make.new.self.regions list (c.in-Ok-make.ensures.here o.arrays holds))))

pub returns-clause-fits : goal.returns-clause-fits
returns-clause-fits c =
    c.settle.ensures.fits _ (subst (λ n. c.args.regs.now.depth ≤ n) (sym c.push-depth.ensures.long) c.requires.fits) c.push-depth.ensures.within
