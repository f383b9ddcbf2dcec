use Rattle.std.proofs.Common.{rules, to_z, of_z, w64, ◌≡◌, ◌∷◌, ℕ, ap, sym, ◌∙◌}
use Rattle.std.specs.Prelude.{slice_get}
use Rattle.sim_code.specs.Events.{when}
use Rattle.sim_code.specs.Formals.{runs_inside}
use Rattle.sim_code.specs.Machine.{Machine, is_roomy, number, waiting}
use Rattle.sim_code.specs.Outcome.{Run}
use Rattle.sim_code.specs.Thunks.{in_thunk}
use Rattle.object_machine.specs.Standing.{Leaves, Obeys, activation_at, below_of}
use Rattle.object_machine.specs.Thunking.{OpensThunk}
use Rattle.object_machine.proofs.Going.{along, no_rule_in}
use Rattle.object_machine.proofs.Jumps.{none_at}
use Rattle.object_machine.proofs.StageRows.{index_is, index_none}
use Rattle.object_machine.proofs.ThunkRows.{full, roomy, thunk_missing}
use Rattle.object_machine.proofs.VirtualRows.{when_fails, when_holds}
use Rattle.object_machine.proofs.actuals.run_thunk.Goals as goal

pub returns-in_default-clause-row : goal.returns-in_default-clause-row
unfolding Obeys
returns-in_default-clause-row c code l line now ei et before o m s =
    let en : to_z w64 (of_z w64 c.args.operand) ≡ c.args.operand = search rules in
    let p = c.args.storage.now in
    let r = c.args.top.now.registers in
    let stack = c.args.top.now.stack.items in
    let below = c.args.below.now.items in
    let a = activation_at r stack in
    let Begin : ℕ → Run Machine = λ t. in_thunk code o m t a.home (waiting a a.stack ∷ below_of below) in
    let Roomy : ℕ → Run Machine = λ t. when (is_roomy a) o (Begin t) in
    let R : ℕ → Run Machine = λ t. when (runs_inside a.thunk t) o (Roomy t) in
    no_rule_in l line p p below before now r r stack stack o m s (index_none c.args.operand o R (c.in_default.ensures ∙ ap number en))

pub returns-then-not-runs_inside-clause-row : goal.returns-then-not-runs_inside-clause-row
unfolding Obeys
returns-then-not-runs_inside-clause-row c code l line now ei et before o m s =
    let en : to_z w64 (of_z w64 c.args.operand) ≡ c.args.operand = search rules in
    let p = c.args.storage.now in
    let r = c.args.top.now.registers in
    let stack = c.args.top.now.stack.items in
    let below = c.args.below.now.items in
    let a = activation_at r stack in
    let Begin : ℕ → Run Machine = λ t. in_thunk code o m t a.home (waiting a a.stack ∷ below_of below) in
    let Roomy : ℕ → Run Machine = λ t. when (is_roomy a) o (Begin t) in
    let R : ℕ → Run Machine = λ t. when (runs_inside a.thunk t) o (Roomy t) in
    let n = c.in-Some.number in
    let named = index_is c.args.operand n o R (c.in-Some.ensures ∙ ap number en) in
    no_rule_in l line p p below before now r r stack stack o m s (named ∙ when_fails (runs_inside r.thunk n) o (Roomy n) (sym c.runs_inside.ensures ∙ c.if-not-runs_inside.true))

pub returns-then-top-len-clause-row : goal.returns-then-top-len-clause-row
unfolding Obeys
returns-then-top-len-clause-row c code l line now ei et before o m s =
    let en : to_z w64 (of_z w64 c.args.operand) ≡ c.args.operand = search rules in
    let p = c.args.storage.now in
    let r = c.args.top.now.registers in
    let stack = c.args.top.now.stack.items in
    let below = c.args.below.now.items in
    let a = activation_at r stack in
    let Begin : ℕ → Run Machine = λ t. in_thunk code o m t a.home (waiting a a.stack ∷ below_of below) in
    let Roomy : ℕ → Run Machine = λ t. when (is_roomy a) o (Begin t) in
    let R : ℕ → Run Machine = λ t. when (runs_inside a.thunk t) o (Roomy t) in
    let n = c.in-Some.number in
    let named = index_is c.args.operand n o R (c.in-Some.ensures ∙ ap number en) in
    no_rule_in l line p p below before now r r stack stack o m s
    (named ∙ when_holds (runs_inside r.thunk n) o (Roomy n) (sym c.runs_inside.ensures ∙ c.if-not-runs_inside.false) ∙ when_fails (is_roomy a) o (Begin n) (full r stack (search rules) (search rules)))

pub returns-in_default-get-clause-row : goal.returns-in_default-get-clause-row
unfolding Obeys
returns-in_default-get-clause-row c code l line now ei et before o m s =
    let en : to_z w64 (of_z w64 c.args.operand) ≡ c.args.operand = search rules in
    let p = c.args.storage.now in
    let r = c.args.top.now.registers in
    let stack = c.args.top.now.stack.items in
    let below = c.args.below.now.items in
    let a = activation_at r stack in
    let Begin : ℕ → Run Machine = λ t. in_thunk code o m t a.home (waiting a a.stack ∷ below_of below) in
    let Roomy : ℕ → Run Machine = λ t. when (is_roomy a) o (Begin t) in
    let R : ℕ → Run Machine = λ t. when (runs_inside a.thunk t) o (Roomy t) in
    let n = c.in-Some.number in
    let named = index_is c.args.operand n o R (c.in-Some.ensures ∙ ap number en) in
    let missing = ap (λ v. slice_get v n) et ∙ none_at c.args.thunks.now n c.in_default-get.ensures.lookup.3 in
    no_rule_in l line p p below before now r r stack stack o m s
    (named ∙ when_holds (runs_inside r.thunk n) o (Roomy n) (sym c.runs_inside.ensures ∙ c.if-not-runs_inside.false) ∙ when_holds (is_roomy a) o (Begin n) (roomy r stack (search rules) (search rules)) ∙ thunk_missing code o m n a.home (waiting a a.stack ∷ below_of below) missing)

pub returns-in_default-try_from-clause-row : goal.returns-in_default-try_from-clause-row
unfolding Obeys Leaves
returns-in_default-try_from-clause-row c code l line now ei et before o m s = tt

pub returns-clause-row : goal.returns-clause-row
unfolding Obeys OpensThunk
returns-clause-row c code l line now ei et before o m s =
    let en : to_z w64 (of_z w64 c.args.operand) ≡ c.args.operand = search rules in
    let p = c.args.storage.now in
    let r = c.args.top.now.registers in
    let stack = c.args.top.now.stack.items in
    let below = c.args.below.now.items in
    let a = activation_at r stack in
    let Begin : ℕ → Run Machine = λ t. in_thunk code o m t a.home (waiting a a.stack ∷ below_of below) in
    let Roomy : ℕ → Run Machine = λ t. when (is_roomy a) o (Begin t) in
    let R : ℕ → Run Machine = λ t. when (runs_inside a.thunk t) o (Roomy t) in
    let n = c.in-Some.number in
    let named = index_is c.args.operand n o R (c.in-Some.ensures ∙ ap number en) in
    let short : c.in-Ok.thunk ≡ n = search rules in
    along l line _ _ before now _ _ _ _ _
    (named ∙ when_holds (runs_inside r.thunk n) o (Roomy n) (sym c.runs_inside.ensures ∙ c.if-not-runs_inside.false) ∙ when_holds (is_roomy a) o (Begin n) (roomy r stack (search rules) (search rules)) ∙ ap Begin (sym short))
    (c.begin_thunk.ensures.row code l line before now o m ei et s s.top.home)
