use Rattle.std.proofs.Common.{◌≡◌, ◌<◌, true, length, rules, ap, subst, sym, ◌∙◌}
use Rattle.sim_lexer.specs.Bytes.{is_word_byte}
use Rattle.sim_lexer.proofs.EndCommentSteps.{Passed, line_passed, word_passed}
use Rattle.sim_lexer.proofs.end_comments.passed_len.Goals as goal

pub returns-then-is_percent_line : goal.returns-then-is_percent_line
returns-then-is_percent_line c =
    let all = c.args.behind.now in
    let some : 0 < length all = search rules in
    let passed = line_passed c.args.begins_line all some (sym c.is_percent_line.ensures.answer ∙ c.if-is_percent_line.true) (sym c.stops.ensures.answer ∙ c.if-stops.false) in
    record { len = subst (Passed c.args.begins_line all) (sym c.line_len.ensures.len) passed }

pub returns-then-is_word_byte : goal.returns-then-is_word_byte
returns-then-is_word_byte c =
    let all = c.args.behind.now in
    let some : 0 < length all = search rules in
    let word : is_word_byte c.byte_at.result ≡ true = sym c.is_word_byte.ensures.class ∙ c.if-is_word_byte.true in
    let passed = word_passed c.args.begins_line all some (ap is_word_byte (sym c.byte_at.ensures.byte) ∙ word) (sym c.stops.ensures.answer ∙ c.if-stops.false) in
    record { len = subst (Passed c.args.begins_line all) (sym c.word_len.ensures.len) passed }
