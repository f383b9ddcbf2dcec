use Rattle.std.proofs.Common.{rules, to_z, of_z, w64, ◌≡◌, ◌∷◌, ℕ, refl, sym, ap, ◌∙◌, arith}
use Rattle.sim_code.specs.Events.{having, ticking, when}
use Rattle.sim_code.specs.Machine.{Machine, cell, cell_at, is_roomy, thunk_in, waiting}
use Rattle.sim_code.specs.Outcome.{Run}
use Rattle.sim_code.specs.Thunks.{in_thunk}
use Rattle.object_machine.specs.Standing.{Obeys, activation_at, below_of}
use Rattle.object_machine.specs.Thunking.{OpensThunk}
use Rattle.object_machine.proofs.Going.{along, no_rule_in, stands_tick, tick_off, tick_on}
use Rattle.object_machine.proofs.ThunkRows.{full, roomy}
use Rattle.object_machine.proofs.VirtualRows.{when_fails, when_holds}
use Rattle.object_machine.proofs.thunks.use_name.Goals as goal

pub returns-in_default-clause-row : goal.returns-in_default-clause-row
unfolding Obeys having
returns-in_default-clause-row c code line now et ei before o m s =
    let l = c.args.limits.now in
    let p = c.args.storage.now in
    let t = c.args.top.now in
    let a = activation_at t.registers t.stack.items in
    let z = c.args.level in
    let w = c.args.cell in
    let elevel : to_z w64 (of_z w64 z) ≡ z = search rules in
    let ecell : to_z w64 (of_z w64 w) ≡ w = search rules in
    let ticks : ℕ × ℕ → Run Machine = λ t. ticking l o (λ p. in_thunk code p m t.0 t.1 (waiting a a.stack ∷ below_of c.args.below.now.items)) in
    let go : ℕ × ℕ → Run Machine = λ t. when (is_roomy a) o (ticks t) in
    let K : ℕ → ℕ → Run Machine = λ j k. having (cell m j k) o (λ v. having (thunk_in v) o go) in
    let found = c.in_default.ensures.row l before now o m a s.stores s.top.home refl in
    no_rule_in l line p p c.args.below.now.items before now t.registers t.registers t.stack.items t.stack.items o m s
    (ap (λ z. cell_at m a z w o K) (sym elevel) ∙ ap (λ w. cell_at m a (to_z w64 (of_z w64 z)) w o K) (sym ecell) ∙ found.1 go)

pub returns-then-top-len-clause-row : goal.returns-then-top-len-clause-row
unfolding Obeys having
returns-then-top-len-clause-row c code line now et ei before o m s =
    let l = c.args.limits.now in
    let p = c.args.storage.now in
    let t = c.args.top.now in
    let a = activation_at t.registers t.stack.items in
    let z = c.args.level in
    let w = c.args.cell in
    let elevel : to_z w64 (of_z w64 z) ≡ z = search rules in
    let ecell : to_z w64 (of_z w64 w) ≡ w = search rules in
    let ticks : ℕ × ℕ → Run Machine = λ t. ticking l o (λ p. in_thunk code p m t.0 t.1 (waiting a a.stack ∷ below_of c.args.below.now.items)) in
    let go : ℕ × ℕ → Run Machine = λ t. when (is_roomy a) o (ticks t) in
    let K : ℕ → ℕ → Run Machine = λ j k. having (cell m j k) o (λ v. having (thunk_in v) o go) in
    let used = c.in-Some.used in
    let found = c.in-Some.ensures.row l before now o m a s.stores s.top.home refl in
    no_rule_in l line p p c.args.below.now.items before now t.registers t.registers t.stack.items t.stack.items o m s
    (ap (λ z. cell_at m a z w o K) (sym elevel) ∙ ap (λ w. cell_at m a (to_z w64 (of_z w64 z)) w o K) (sym ecell) ∙ found.1 go ∙ when_fails (is_roomy a) o (ticks (used.thunk, used.home.stamp)) (full t.registers t.stack.items (search rules) (search rules)))

pub returns-then-storage-limits-clause-row : goal.returns-then-storage-limits-clause-row
unfolding Obeys having
returns-then-storage-limits-clause-row c code line now et ei before o m s =
    let l = c.args.limits.now in
    let p = c.args.storage.now in
    let t = c.args.top.now in
    let a = activation_at t.registers t.stack.items in
    let z = c.args.level in
    let w = c.args.cell in
    let elevel : to_z w64 (of_z w64 z) ≡ z = search rules in
    let ecell : to_z w64 (of_z w64 w) ≡ w = search rules in
    let ticks : ℕ × ℕ → Run Machine = λ t. ticking l o (λ p. in_thunk code p m t.0 t.1 (waiting a a.stack ∷ below_of c.args.below.now.items)) in
    let go : ℕ × ℕ → Run Machine = λ t. when (is_roomy a) o (ticks t) in
    let K : ℕ → ℕ → Run Machine = λ j k. having (cell m j k) o (λ v. having (thunk_in v) o go) in
    let used = c.in-Some.used in
    let found = c.in-Some.ensures.row l before now o m a s.stores s.top.home refl in
    along l line p c.args.below.now.items before now _ t.registers t.stack.items _ _
    (ap (λ z. cell_at m a z w o K) (sym elevel) ∙ ap (λ w. cell_at m a (to_z w64 (of_z w64 z)) w o K) (sym ecell) ∙ found.1 go ∙ when_holds (is_roomy a) o (ticks (used.thunk, used.home.stamp)) (roomy t.registers t.stack.items (search rules) (search rules)))
    (tick_off l line p c.args.below.now.items before now t.registers t.stack.items o m _ s (omega (arith, c.if-storage-limits.true)))

pub returns-clause-row : goal.returns-clause-row
unfolding Obeys OpensThunk having
returns-clause-row c code line now et ei before o m s =
    let l = c.args.limits.now in
    let p = c.args.storage.now in
    let t = c.args.top.now in
    let a = activation_at t.registers t.stack.items in
    let z = c.args.level in
    let w = c.args.cell in
    let elevel : to_z w64 (of_z w64 z) ≡ z = search rules in
    let ecell : to_z w64 (of_z w64 w) ≡ w = search rules in
    let ticks : ℕ × ℕ → Run Machine = λ t. ticking l o (λ p. in_thunk code p m t.0 t.1 (waiting a a.stack ∷ below_of c.args.below.now.items)) in
    let go : ℕ × ℕ → Run Machine = λ t. when (is_roomy a) o (ticks t) in
    let K : ℕ → ℕ → Run Machine = λ j k. having (cell m j k) o (λ v. having (thunk_in v) o go) in
    let used = c.in-Some.used in
    let found = c.in-Some.ensures.row l before now o m a s.stores s.top.home refl in
    let top = c.begin_thunk.new.top in
    let below = c.begin_thunk.new.below.items in
    along l line _ below before now _ top.registers top.stack.items _ _
    (ap (λ z. cell_at m a z w o K) (sym elevel) ∙ ap (λ w. cell_at m a (to_z w64 (of_z w64 z)) w o K) (sym ecell) ∙ found.1 go ∙ when_holds (is_roomy a) o (ticks (used.thunk, used.home.stamp)) (roomy t.registers t.stack.items (search rules) (search rules)))
    (tick_on l line p c.args.below.now.items before now _ _ top.registers top.stack.items below o _ s.stores.world (omega (arith, c.if-storage-limits.false))
    (c.begin_thunk.ensures.row code l line before now _ m ei et (stands_tick l line p c.args.below.now.items before now t.registers t.stack.items o m s) found.0))
