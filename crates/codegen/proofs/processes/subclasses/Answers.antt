use Rattle.std.proofs.Common.{◌≡◌, ◌<◌, ◌≤◌, ◌+◌, ◌++◌, length, sym, ap, ◌∙◌, subst}
use Rattle.sim_scope.specs.Source.{source_of}
use Rattle.codegen.specs.CodeStm.{subclasses}
use Rattle.codegen.proofs.ProcessLevels as w
use Rattle.codegen.proofs.ProcessLevels.{Rest}
use Rattle.codegen.proofs.processes.subclasses.Goals as goal
use Rattle.codegen.proofs.processes.subclasses.Goals.{then-is_subclass+in_ok-push, else-is_subclass}

pub loop-index-init : goal.loop-index-init
loop-index-init c =
    let b = c.args.bound.now in
    subst (λ z. z ++ Rest b c.args.class (length b.scopes.blocks) 0 ≡ subclasses (source_of b) c.args.class) (sym c.new-found.ensures.items) (w.subclasses_first b c.args.class)

pub loop-index-preserved : goal.loop-index-preserved
loop-index-preserved c =
    let b = c.args.bound.now in
    let n = length b.scopes.blocks in
    let i = c.loop-index.index in
    let inside : i < n = subst (λ z. i < z) c.block_count-index-end.ensures c.loop-index-test.true in
    elim c.if-is_subclass.branch [
      | then-is_subclass+in_ok-push x ↦
          w.subclasses_more b c.args.class n i c.in_ok-text.text c.loop-index.found.items c.if-is_subclass.found.items c.is_subclass.result inside c.in_ok-text.ensures c.is_subclass.ensures x.if-is_subclass.true (ap (λ z. z.items) x.found-is ∙ x.in_ok-push.ensures.items) c.loop-index.invariant
      | else-is_subclass x ↦
          subst (λ z. z.items ++ Rest b c.args.class n (i + 1) ≡ subclasses (source_of b) c.args.class) (sym x.found-is) (w.subclasses_same b c.args.class n i c.in_ok-text.text c.loop-index.found.items c.is_subclass.result inside c.in_ok-text.ensures c.is_subclass.ensures x.if-is_subclass.false c.loop-index.invariant)
    ]

pub returns : goal.returns
returns c =
    let b = c.args.bound.now in
    let n = length b.scopes.blocks in
    let past : n ≤ c.loop-index.index = subst (λ z. z ≤ c.loop-index.index) c.block_count-index-end.ensures c.loop-index-test.false in
    w.subclasses_last b c.args.class n c.loop-index.index c.loop-index.found.items past c.loop-index.invariant
