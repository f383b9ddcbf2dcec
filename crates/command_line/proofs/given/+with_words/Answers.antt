use Rattle.std.proofs.Common.{◌≡◌, ◌∙◌, ◌-◌, None, length, take, drop, string_bytes, option_map, arith}
use Rattle.std.proofs.lemmas.Grind.{common_steps}
use Rattle.command_line.specs.Given.{held}
use Rattle.command_line.specs.Words.{texts}
use Rattle.command_line.proofs.WordSteps.{awaited_end, awaited_some, awaits_step, file_some, files_step, gives_none, gives_some, last_end, texts_front, texts_none}
use Rattle.command_line.proofs.given.+with_words.Goals as goal

pub returns-in-Some : goal.returns-in-Some
returns-in-Some most c = rw (c.in-Some.is, texts_none c.args.words.now c.in_default.len_below) (awaited_end (held c.args.given) c.in-Some.field-0)

pub returns-in-None : goal.returns-in-None
returns-in-None most c = rw (c.in-None.is, texts_none c.args.words.now c.in_default.len_below) (last_end (held c.args.given))

pub returns-in_err-with_value-in-Gives : goal.returns-in_err-with_value-in-Gives
returns-in_err-with_value-in-Gives most c =
    let words = c.args.words.now in
    let front = texts_front words c.word-item.result _ c.in-len1-up.len_at_least c.word-item.is in
    let kind = rw c.as_str-word.ensures.value at c.in-Gives.ensures in
    let gone : option_map held c.from_residual-in_err-with_value-in-Gives.result ≡ None = grind (arith, common_steps, c.from_residual-in_err-with_value-in-Gives.ensures) in
    gone ∙ rw (c.in-None-awaited.is, front)
    (gives_none (held c.args.given) c.in-Gives.setting c.in-Gives.value.now (string_bytes c.word-item.result) (texts (take (length words - 1) (drop 1 words))) kind
    (rw c.in_err-with_value-in-Gives.was at c.with_value-in-Gives.ensures))

pub returns-in_ok-with_value-in-Some-awaited : goal.returns-in_ok-with_value-in-Some-awaited
returns-in_ok-with_value-in-Some-awaited most c =
    let words = c.args.words.now in
    let front = texts_front words c.word-item.result _ c.in-len1-up.len_at_least c.word-item.is in
    rw (c.in-Some-awaited.is, front)
    (c.with_words.ensures
    ∙ awaited_some (held c.args.given) (held c.in_ok-with_value-in-Some-awaited.field-0) c.in-Some-awaited.setting (string_bytes c.word-item.result) (texts (take (length words - 1) (drop 1 words)))
    (rw c.as_str-word.ensures.value at (rw c.in_ok-with_value-in-Some-awaited.was at c.with_value.ensures)))

pub returns-in-EndsOptions : goal.returns-in-EndsOptions
returns-in-EndsOptions most c =
    let words = c.args.words.now in
    let front = texts_front words c.word-item.result _ c.in-len1-up.len_at_least c.word-item.is in
    rw (c.in-None-awaited.is, front)
    (c.with_files.ensures
    ∙ files_step (held c.args.given) (string_bytes c.word-item.result) (texts (take (length words - 1) (drop 1 words))) (rw c.as_str-word.ensures.value at c.in-EndsOptions.ensures))

pub returns-in_ok-with_file-in-NamesFile : goal.returns-in_ok-with_file-in-NamesFile
returns-in_ok-with_file-in-NamesFile most c =
    let words = c.args.words.now in
    let front = texts_front words c.word-item.result _ c.in-len1-up.len_at_least c.word-item.is in
    rw (c.in-None-awaited.is, front)
    (c.with_words-in-NamesFile.ensures
    ∙ file_some (held c.args.given) (held c.in_ok-with_file-in-NamesFile.field-0) (string_bytes c.word-item.result) (texts (take (length words - 1) (drop 1 words)))
    (rw c.as_str-word.ensures.value at c.in-NamesFile.ensures)
    (rw c.as_str-word.ensures.value at (rw c.in_ok-with_file-in-NamesFile.was at c.with_file.ensures)))

pub returns-in_ok-with_value-in-Gives : goal.returns-in_ok-with_value-in-Gives
returns-in_ok-with_value-in-Gives most c =
    let words = c.args.words.now in
    let front = texts_front words c.word-item.result _ c.in-len1-up.len_at_least c.word-item.is in
    rw (c.in-None-awaited.is, front)
    (c.with_words-in-Gives.ensures
    ∙ gives_some (held c.args.given) (held c.in_ok-with_value-in-Gives.field-0) c.in-Gives.setting c.in-Gives.value.now (string_bytes c.word-item.result) (texts (take (length words - 1) (drop 1 words)))
    (rw c.as_str-word.ensures.value at c.in-Gives.ensures)
    (rw c.in_ok-with_value-in-Gives.was at c.with_value-in-Gives.ensures))

pub returns-in-Awaits : goal.returns-in-Awaits
returns-in-Awaits most c =
    let words = c.args.words.now in
    let front = texts_front words c.word-item.result _ c.in-len1-up.len_at_least c.word-item.is in
    rw (c.in-None-awaited.is, front)
    (c.with_words-in-Awaits.ensures
    ∙ awaits_step (held c.args.given) c.in-Awaits.setting (string_bytes c.word-item.result) (texts (take (length words - 1) (drop 1 words))) (rw c.as_str-word.ensures.value at c.in-Awaits.ensures))
