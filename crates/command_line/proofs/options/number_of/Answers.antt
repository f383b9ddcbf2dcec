use Rattle.std.proofs.Common.{◌≡◌, ◌<◌, ◌≤◌, ◌==◌, length, true, sym, ap, ◌∙◌, arith}
use Rattle.std.specs.Str.{all_ascii_digits}
use Rattle.command_line.proofs.Numbers.{numeral, parses, positive}
use Rattle.command_line.proofs.options.number_of.Goals as goal

pub returns : goal.returns
returns c =
    let word = c.args.word.now in
    let same = c.as_bytes-digits.ensures.value in
    let some : 0 < length word = positive (length word) (ap (λ xs. length xs == 0) (sym same) ∙ sym c.is_empty.ensures ∙ c.if-is_empty.false) in
    let size : length c.as_bytes-digits.result.now ≡ length word = ap length same in
    let few : length word ≤ 19 = omega (arith, c.if-digits-gt19.false, size) in
    let digits : all_ascii_digits word ≡ true = ap all_ascii_digits (sym same) ∙ sym c.are_digits.ensures ∙ c.if-not-are_digits.false in
    let parsed = parses word c.parse.result c.parse.ensures.value.0 digits some few in
    rw c.ok.ensures.value (rw parsed (numeral word some few digits))
