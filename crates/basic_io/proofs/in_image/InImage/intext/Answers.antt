use Rattle.std.proofs.Common.{◌≡◌, Ok, Err, rules, to_z, of_z, w64}
use Rattle.std.proofs.lemmas.Result.{err_from_is_err_and}
use Rattle.basic_io.specs.Input.{reading}
use Rattle.basic_io.proofs.TextReads.{held_for_text, others_stay, text_outcome}
use Rattle.basic_io.proofs.in_image.InImage.intext.Goals as goal

pub returns-in_err-read_characters-clause-outcome : goal.returns-in_err-read_characters-clause-outcome
returns-in_err-read_characters-clause-outcome g c =
    let source = g.I.Source.left in
    let same : to_z w64 (of_z w64 c.args.n) ≡ c.args.n = search rules in
    let p = err_from_is_err_and c.from_residual-in_err-read_characters.result c.from_residual-in_err-read_characters.ensures.1 in
    rw (p.1, p.2) (text_outcome c.args.n _ c.args.room c.args.texts.now c.blanks.new.self c.args.self.now (source c.args.input.now) c.in_ok-text.text (reading c.read_characters.new.texts c.read_characters.new.self (source c.read_characters.new.input)) (Err c.in_err-read_characters.field-0.0) same c.in_ok-text.ensures.making c.if-text-eq0.false c.in_err-read_characters.ensures.outcome)

pub returns-clause-outcome : goal.returns-clause-outcome
returns-clause-outcome g c =
    let source = g.I.Source.left in
    let same : to_z w64 (of_z w64 c.args.n) ≡ c.args.n = search rules in
    text_outcome c.args.n _ c.args.room c.args.texts.now c.blanks.new.self c.args.self.now (source c.args.input.now) c.in_ok-text.text (reading c.read_characters.new.texts c.read_characters.new.self (source c.read_characters.new.input)) (Ok tt) same c.in_ok-text.ensures.making c.if-text-eq0.false c.in_ok-read_characters.ensures.outcome

pub returns-in_err-read_characters-clause-unread : goal.returns-in_err-read_characters-clause-unread
returns-in_err-read_characters-clause-unread g c =
    let same : to_z w64 (of_z w64 c.args.n) ≡ c.args.n = search rules in
    λ enough. c.read_characters.ensures.unread (held_for_text c.args.n _ c.args.room c.args.texts.now c.blanks.new.self c.in_ok-text.text c.args.self.now same c.in_ok-text.ensures.making c.if-text-eq0.false enough)

pub returns-clause-unread : goal.returns-clause-unread
returns-clause-unread g c =
    let same : to_z w64 (of_z w64 c.args.n) ≡ c.args.n = search rules in
    λ enough. c.read_characters.ensures.unread (held_for_text c.args.n _ c.args.room c.args.texts.now c.blanks.new.self c.in_ok-text.text c.args.self.now same c.in_ok-text.ensures.making c.if-text-eq0.false enough)

pub returns-in_err-read_characters-clause-others : goal.returns-in_err-read_characters-clause-others
returns-in_err-read_characters-clause-others g c =
    let same : to_z w64 (of_z w64 c.args.n) ≡ c.args.n = search rules in
    others_stay c.args.n _ c.args.room c.args.texts.now c.blanks.new.self c.read_characters.new.texts c.args.self.now.image c.in_ok-text.text same c.in_ok-text.ensures.making c.if-text-eq0.false c.blanks.ensures.others c.read_characters.ensures.others

pub returns-clause-others : goal.returns-clause-others
returns-clause-others g c =
    let same : to_z w64 (of_z w64 c.args.n) ≡ c.args.n = search rules in
    others_stay c.args.n _ c.args.room c.args.texts.now c.blanks.new.self c.read_characters.new.texts c.args.self.now.image c.in_ok-text.text same c.in_ok-text.ensures.making c.if-text-eq0.false c.blanks.ensures.others c.read_characters.ensures.others
