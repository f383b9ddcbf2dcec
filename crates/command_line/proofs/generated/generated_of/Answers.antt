use Rattle.std.proofs.Common.{◌≡◌, ◌∙◌, ◌-◌, None, Some, length, take, drop, string_bytes, arith}
use Rattle.std.proofs.lemmas.Grind.{common_steps}
use Rattle.command_line.specs.Given.{held}
use Rattle.command_line.specs.Words.{texts}
use Rattle.command_line.proofs.WordSteps.{generated_words, texts_front}
use Rattle.command_line.proofs.generated.generated_of.Goals as goal

pub returns-in_err-given-clause-value : goal.returns-in_err-given-clause-value
returns-in_err-given-clause-value c =
    let words = c.args.words.now in
    let front = texts_front words c.word-item.result _ c.in-len1-up.len_at_least c.word-item.is in
    let gone : c.from_residual.result ≡ None = grind (arith, common_steps, c.from_residual.ensures) in
    gone ∙ rw front
    (generated_words (string_bytes c.word-item.result) (texts (take (length words - 1) (drop 1 words))) None
    (rw c.in_err-given.was at c.given_by.ensures) c.ne.result (rw c.as_str.ensures.value at c.ne.ensures) c.if-ne.false)

pub returns-clause-value : goal.returns-clause-value
returns-clause-value c =
    let words = c.args.words.now in
    let front = texts_front words c.word-item.result _ c.in-len1-up.len_at_least c.word-item.is in
    rw front
    (c.processes_with.ensures.value
    ∙ generated_words (string_bytes c.word-item.result) (texts (take (length words - 1) (drop 1 words))) (Some (held c.in_ok-given.given))
    (rw c.in_ok-given.was at c.given_by.ensures) c.ne.result (rw c.as_str.ensures.value at c.ne.ensures) c.if-ne.false)
