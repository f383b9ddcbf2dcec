use Rattle.std.proofs.Common.{◌≡◌, ◌∙◌, ◌-◌, None, Some, length, take, drop, string_bytes, option_map, arith}
use Rattle.std.proofs.lemmas.Grind.{common_steps}
use Rattle.command_line.specs.Given.{held, run_asked}
use Rattle.command_line.specs.Words.{texts}
use Rattle.command_line.proofs.WordSteps.{code_words, texts_front}
use Rattle.command_line.proofs.executed.code_request_of.Goals as goal

pub returns-in_err-given : goal.returns-in_err-given
returns-in_err-given c =
    let words = c.args.words.now in
    let front = texts_front words c.word-item.result _ c.in-len1-up.len_at_least c.word-item.is in
    let gone : option_map run_asked c.from_residual.result ≡ None = grind (arith, common_steps, c.from_residual.ensures) in
    gone ∙ rw front
    (code_words (string_bytes c.word-item.result) (texts (take (length words - 1) (drop 1 words))) None
    (rw c.in_err-given.was at c.given_by.ensures) c.ne.result (rw c.as_str.ensures.value at c.ne.ensures) c.if-ne.false)

pub returns : goal.returns
returns c =
    let words = c.args.words.now in
    let front = texts_front words c.word-item.result _ c.in-len1-up.len_at_least c.word-item.is in
    rw front
    (c.code_with.ensures
    ∙ code_words (string_bytes c.word-item.result) (texts (take (length words - 1) (drop 1 words))) (Some (held c.in_ok-given.given))
    (rw c.in_ok-given.was at c.given_by.ensures) c.ne.result (rw c.as_str.ensures.value at c.ne.ensures) c.if-ne.false)
