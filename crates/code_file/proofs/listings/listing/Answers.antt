use Rattle.std.proofs.Common.{◌≡◌, ◌∙◌, ap}
use Rattle.sim_code.specs.Code.{CodeOf}
use Rattle.code_file.proofs.Lines.{line_more}
use Rattle.code_file.proofs.listings.listing.Goals as goal

pub loop-index-preserved : goal.loop-index-preserved
loop-index-preserved c =
    let items : c.deref-lined-items.result.now ≡ c.args.code.now.instrs = c.deref-lined-items.ensures.value ∙ ap (λ (k : CodeOf). k.instrs) c.code.view_is in
    (rw items at c.in_ok-put_line.ensures) ∙ line_more c.args.code.now.instrs c.loop-index.index _ c.loop-index.out.items (rw items at c.loop-index-test.true) c.loop-index.invariant
