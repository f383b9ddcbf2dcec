use Rattle.std.proofs.Common.{◌≡◌, ◌<◌, ◌≤◌, ◌+◌, ◌++◌, length, sym, ap, ◌∙◌, subst, arith}
use Rattle.sim_scope.specs.Source.{source_of}
use Rattle.codegen.specs.CodeStm.{origins}
use Rattle.codegen.proofs.OriginEnds as w
use Rattle.codegen.proofs.OriginEnds.{Behind}
use Rattle.codegen.proofs.processes.origins.Goals as goal
use Rattle.codegen.proofs.processes.origins.Goals.{then-is_origin+in_ok-push, else-is_origin}

pub loop-index-init : goal.loop-index-init
loop-index-init c =
    let b = c.args.bound.now in
    subst (λ z. z ++ Behind b c.args.class (length b.uses.items) 0 ≡ origins (source_of b) c.args.class) (sym c.new-found.ensures.items) (w.origins_first b c.args.class)

pub loop-index-preserved : goal.loop-index-preserved
loop-index-preserved c =
    let b = c.args.bound.now in
    let n = length b.uses.items in
    let i = c.loop-index.index in
    let end = c.len-index-end.ensures in
    let test = c.loop-index-test.true in
    let inside : i < n = omega (arith, test, end) in
    elim c.if-is_origin.branch [
      | then-is_origin+in_ok-push x ↦
          w.origins_more b c.args.class n i c.in_ok-token.token c.loop-index.found.items c.if-is_origin.found.items c.is_origin.result inside c.in_ok-token.ensures c.is_origin.ensures x.if-is_origin.true (ap (λ z. z.items) x.found-is ∙ x.in_ok-push.ensures.items) c.loop-index.invariant
      | else-is_origin x ↦
          subst (λ z. z.items ++ Behind b c.args.class n (i + 1) ≡ origins (source_of b) c.args.class) (sym x.found-is) (w.origins_same b c.args.class n i c.in_ok-token.token c.loop-index.found.items c.is_origin.result inside c.in_ok-token.ensures c.is_origin.ensures x.if-is_origin.false c.loop-index.invariant)
    ]

pub returns : goal.returns
returns c =
    let b = c.args.bound.now in
    let n = length b.uses.items in
    let end = c.len-index-end.ensures in
    let test = c.loop-index-test.false in
    let past : n ≤ c.loop-index.index = omega (arith, test, end) in
    w.origins_last b c.args.class n c.loop-index.index c.loop-index.found.items past c.loop-index.invariant
