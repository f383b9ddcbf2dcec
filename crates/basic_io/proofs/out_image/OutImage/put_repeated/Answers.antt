use Rattle.std.proofs.Common.{arith}
use Rattle.std.proofs.lemmas.Grind.{replicate_next}
use Rattle.basic_io.proofs.TextSteps.{put_done}
use Rattle.basic_io.proofs.OutputPlacing.{placed_one_more}
use Rattle.basic_io.proofs.out_image.OutImage.put_repeated.Goals as goal

pub loop-preserved : goal.loop-preserved
loop-preserved c =
    let put = c.in_ok-putchar.ensures in
    let did = put_done _ _ _ _ _ put.step in
    placed_one_more _ _ _ _ _ _ _ _ _ _ c.loop.invariant (omega arith) (replicate_next c.loop.counter c.args.character) did.ok did.moved put.keeps put.others
