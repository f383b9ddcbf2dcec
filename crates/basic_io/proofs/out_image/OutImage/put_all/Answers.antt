use Rattle.std.proofs.Common.{arith}
use Rattle.std.proofs.lemmas.List.{take_more}
use Rattle.basic_io.proofs.TextSteps.{put_done}
use Rattle.basic_io.proofs.OutputPlacing.{placed_one_more}
use Rattle.basic_io.proofs.out_image.OutImage.put_all.Goals as goal

pub loop-character-preserved : goal.loop-character-preserved
loop-character-preserved c =
    let put = c.in_ok-putchar.ensures in
    let did = put_done _ _ _ _ _ put.step in
    placed_one_more _ _ _ _ _ _ _ _ _ _ c.loop-character.invariant (omega arith) (take_more c.args.characters.now c.loop-character.character-index 0 (omega arith)) did.ok did.moved put.keeps put.others
