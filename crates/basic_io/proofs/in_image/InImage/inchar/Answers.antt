use Rattle.std.proofs.lemmas.Result.{err_from_is_err_and}
use Rattle.basic_io.proofs.CharacterReads.{done_refused}
use Rattle.basic_io.proofs.in_image.InImage.inchar.Goals as goal

pub returns-in_err-next_image-clause-within : goal.returns-in_err-next_image-clause-within
returns-in_err-next_image-clause-within g c =
    let p = err_from_is_err_and c.from_residual.result c.from_residual.ensures.1 in
    λ enough. rw (p.1, p.2) (done_refused c.args.texts.now c.next_image.new.texts c.args.self.now c.next_image.new.self c.in_err-next_image.field-0.0 (c.in_err-next_image.ensures.within enough))
