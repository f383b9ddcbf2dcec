use Rattle.std.proofs.Common.{refl, [], ◌∷◌}
use Rattle.sim_base.specs.declared.token.TokenKind.TheVariants as k
use Rattle.sim_tree.specs.Grammar as g
use Rattle.sim_tree.specs.Grammar.{Maybe, Of, is}
use Rattle.sim_tree.specs.Reading.{kind_at, done, bare_leaf}
use Rattle.sim_tree.specs.ProgramDerivation.{expr, prior_derivation, timing_derivation}
use Rattle.sim_expr_parser.proofs.Tokens.{took}
use Rattle.sim_expr_parser.proofs.Tables.{by_test}
use Rattle.sim_expr_parser.proofs.Steps.{exit, opened, to, kept, gone, once, once-stops, stops-in}
use Rattle.sim_parser.specs.Parsing.{GivesAll}
use Rattle.sim_parser.proofs.Along.{closed-by, maybe-all, skipped-all}
use Rattle.sim_parser.proofs.OperationTables.{times, places, time_symbols, place_symbols, timing_at, timing_delay, timing_before, timing_after, no_timing}
use Rattle.sim_parser.proofs.operation.timing.Goals as goal

pub returns-in_err-time : goal.returns-in_err-time
unfolding is
returns-in_err-time c =
    let ws = c.args.source.now in
    let d = c.args.depth in
    let at = c.args.at in
    let w = c.in-Some.ensures in
    let m0 = opened ws d at g.Timing time_symbols refl (by_test g.Timing (kind_at ws at) k.At time_symbols w.0 timing_at) c.requires.within in
    let m1 = to m0 (kept at refl (took ws at c.in-Some.next times k.At refl refl w)) in
    let e = c.in_err-time.field-0.0 in
    exit (λ r. GivesAll ws d (Of Maybe g.Timing ∷ []) at timing_derivation r) c.from_residual.result e c.from_residual.ensures.1
    (stops-in Maybe m1 e (once-stops ws d c.in-Some.next g.Expression e c.in_err-time.ensures) [])

pub returns-in-Some : goal.returns-in-Some
unfolding is
returns-in-Some c =
    let ws = c.args.source.now in
    let d = c.args.depth in
    let at = c.args.at in
    let w = c.in-Some.ensures in
    let m0 = opened ws d at g.Timing time_symbols refl (by_test g.Timing (kind_at ws at) k.At time_symbols w.0 timing_at) c.requires.within in
    let n = c.token_no-token.result in
    let m2 = to (to m0 (kept n.0 c.token_no-token.ensures (took ws at c.in-Some.next times k.At refl refl w))) (once c.in_ok-time.ensures.1) in
    maybe-all (closed-by m2 (prior_derivation c.prior-prior.result.0) (c.prior-prior.ensures d) (bare_leaf n.0 k.At (expr c.in_ok-time.time (prior_derivation c.prior-prior.result.0))) refl) c.requires.within

pub returns-in_err-time-2 : goal.returns-in_err-time-2
unfolding is
returns-in_err-time-2 c =
    let ws = c.args.source.now in
    let d = c.args.depth in
    let at = c.args.at in
    let w = c.in-Some-eat.ensures in
    let m0 = opened ws d at g.Timing time_symbols refl (by_test g.Timing (kind_at ws at) k.Delay time_symbols w.0 timing_delay) c.requires.within in
    let m1 = to m0 (kept at refl (took ws at c.in-Some-eat.next times k.Delay refl refl w)) in
    let e = c.in_err-time-2.field-0.0 in
    exit (λ r. GivesAll ws d (Of Maybe g.Timing ∷ []) at timing_derivation r) c.from_residual-in_err-time-2.result e c.from_residual-in_err-time-2.ensures.1
    (stops-in Maybe m1 e (once-stops ws d c.in-Some-eat.next g.Expression e c.in_err-time-2.ensures) [])

pub returns-in-Some-eat : goal.returns-in-Some-eat
unfolding is
returns-in-Some-eat c =
    let ws = c.args.source.now in
    let d = c.args.depth in
    let at = c.args.at in
    let w = c.in-Some-eat.ensures in
    let m0 = opened ws d at g.Timing time_symbols refl (by_test g.Timing (kind_at ws at) k.Delay time_symbols w.0 timing_delay) c.requires.within in
    let n = c.token_no-token.result in
    let m2 = to (to m0 (kept n.0 c.token_no-token.ensures (took ws at c.in-Some-eat.next times k.Delay refl refl w))) (once c.in_ok-time-2.ensures.1) in
    maybe-all (closed-by m2 (prior_derivation c.prior-prior-in-Some-eat.result.0) (c.prior-prior-in-Some-eat.ensures d) (bare_leaf n.0 k.Delay (expr c.in_ok-time-2.time (prior_derivation c.prior-prior-in-Some-eat.result.0))) refl) c.requires.within

pub returns-in_err-process : goal.returns-in_err-process
unfolding is
returns-in_err-process c =
    let ws = c.args.source.now in
    let d = c.args.depth in
    let at = c.args.at in
    let w = c.in-Some-eat-2.ensures in
    let m0 = opened ws d at g.Timing place_symbols refl (by_test g.Timing (kind_at ws at) k.Before place_symbols w.0 timing_before) c.requires.within in
    let m1 = to m0 (kept at refl (took ws at c.in-Some-eat-2.next places k.Before refl refl w)) in
    let e = c.in_err-process.field-0.0 in
    exit (λ r. GivesAll ws d (Of Maybe g.Timing ∷ []) at timing_derivation r) c.from_residual-in_err-process.result e c.from_residual-in_err-process.ensures.1
    (stops-in Maybe m1 e (once-stops ws d c.in-Some-eat-2.next g.Expression e c.in_err-process.ensures) [])

pub returns-in-Some-eat-2 : goal.returns-in-Some-eat-2
unfolding is
returns-in-Some-eat-2 c =
    let ws = c.args.source.now in
    let d = c.args.depth in
    let at = c.args.at in
    let w = c.in-Some-eat-2.ensures in
    let m0 = opened ws d at g.Timing place_symbols refl (by_test g.Timing (kind_at ws at) k.Before place_symbols w.0 timing_before) c.requires.within in
    let n = c.token_no-token.result in
    let m2 = to (to m0 (kept n.0 c.token_no-token.ensures (took ws at c.in-Some-eat-2.next places k.Before refl refl w))) (once c.in_ok-process.ensures.1) in
    maybe-all (gone m2 (bare_leaf n.0 k.Before (expr c.in_ok-process.process done)) refl) c.requires.within

pub returns-in_default-eat-3 : goal.returns-in_default-eat-3
returns-in_default-eat-3 c =
    skipped-all (no_timing (kind_at c.args.source.now c.args.at) c.in_default.ensures c.in_default-eat.ensures c.in_default-eat-2.ensures c.in_default-eat-3.ensures) c.requires.within

pub returns-in_err-process-2 : goal.returns-in_err-process-2
unfolding is
returns-in_err-process-2 c =
    let ws = c.args.source.now in
    let d = c.args.depth in
    let at = c.args.at in
    let w = c.in-Some-eat-3.ensures in
    let m0 = opened ws d at g.Timing place_symbols refl (by_test g.Timing (kind_at ws at) k.After place_symbols w.0 timing_after) c.requires.within in
    let m1 = to m0 (kept at refl (took ws at c.in-Some-eat-3.next places k.After refl refl w)) in
    let e = c.in_err-process-2.field-0.0 in
    exit (λ r. GivesAll ws d (Of Maybe g.Timing ∷ []) at timing_derivation r) c.from_residual-in_err-process-2.result e c.from_residual-in_err-process-2.ensures.1
    (stops-in Maybe m1 e (once-stops ws d c.in-Some-eat-3.next g.Expression e c.in_err-process-2.ensures) [])

pub returns : goal.returns
unfolding is
returns c =
    let ws = c.args.source.now in
    let d = c.args.depth in
    let at = c.args.at in
    let w = c.in-Some-eat-3.ensures in
    let m0 = opened ws d at g.Timing place_symbols refl (by_test g.Timing (kind_at ws at) k.After place_symbols w.0 timing_after) c.requires.within in
    let n = c.token_no-token.result in
    let m2 = to (to m0 (kept n.0 c.token_no-token.ensures (took ws at c.in-Some-eat-3.next places k.After refl refl w))) (once c.in_ok-process-2.ensures.1) in
    maybe-all (gone m2 (bare_leaf n.0 k.After (expr c.in_ok-process-2.process done)) refl) c.requires.within
