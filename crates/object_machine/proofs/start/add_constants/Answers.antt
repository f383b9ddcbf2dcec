use Rattle.std.proofs.Common.{◌++◌, ◌∷◌, [], ◌∙◌, ap}
use Rattle.std.specs.Prelude.{true}
use Rattle.object_machine.proofs.Starting.{constant_more}
use Rattle.object_machine.proofs.start.add_constants.Goals as goal

pub loop-at-preserved : goal.loop-at-preserved
loop-at-preserved c =
    c.in_ok-constant.ensures.ok
    ∙ ap (λ b. c.loop-at.texts ++ (record { bytes = b; constant = true }) ∷ []) (c.as_bytes-bytes.ensures.same ∙ c.in-Some.ensures.lookup.1)
    ∙ constant_more c.args.texts.now c.loop-at.texts c.args.constants.now c.loop-at.at c.in-Some.constant.now c.loop-at-test.true c.loop-at.invariant
