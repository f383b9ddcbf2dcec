use Rattle.std.proofs.Common.{◌+◌, drop, refl, ap, ◌∙◌, arith}
use Rattle.std.proofs.lemmas.List.{drop_all}
use Rattle.sim_types.proofs.Walks.{from_drop}
use Rattle.param_modes.proofs.Holding.{held-count, owes_all, owes_more, owes_none}
use Rattle.param_modes.proofs.arguments.held.Goals as goal

pub loop-argument-init : goal.loop-argument-init
loop-argument-init c = record { count = refl; owed = owes_all c.args.scopes.now c.args.formals.now c.args.found.now c.args.arguments.now }

pub held_one-actuals-requires : goal.held_one-actuals-requires
held_one-actuals-requires c = omega arith

pub loop-argument-preserved : goal.loop-argument-preserved
loop-argument-preserved c =
    let x = c.argument-item.result in
    let i = c.loop-argument.argument-index in
    let xs = c.args.arguments.now in
    record {
      count = ap (λ a. a.count) c.held_one-actuals.ensures.is ∙ held-count c.args.scopes.now c.args.formals.now c.loop-argument.actuals c.first_token.result.0 c.judge-outcome.result ∙ ap (λ n. n + 1) c.loop-argument.invariant.count;
      owed = owes_more c.args.scopes.now c.args.formals.now c.args.found.now c.loop-argument.found c.judge-outcome.new.found c.held_one-actuals.new.found c.loop-argument.actuals c.held_one-actuals.result xs (drop i xs) (drop (i + 1) xs) x c.first_token.result c.judge-outcome.result
          c.loop-argument.invariant.owed (from_drop xs i x c.loop-argument-test.true c.argument-item.is) c.judge-outcome.ensures c.first_token.ensures.first c.held_one-actuals.ensures;
    }

pub returns : goal.returns
returns c =
    owes_none c.args.scopes.now c.args.formals.now c.args.found.now c.loop-argument.found c.loop-argument.actuals c.args.arguments.now (drop c.loop-argument.argument-index c.args.arguments.now)
    c.loop-argument.invariant.owed (drop_all c.loop-argument.argument-index c.args.arguments.now c.loop-argument-test.false)
