use Rattle.std.proofs.Common.{◌≤◌, length, arith}
use Rattle.std.specs.Char.{is_ascii_digit}
use Rattle.std.proofs.lemmas.List.Sums.{prefix_len-le-length}
use Rattle.text_objects.proofs.Items.{length-unsigned-le, prefix_passes}
use Rattle.text_objects.proofs.item.integer_item.Goals as goal

pub capped_value-size-requires : goal.capped_value-size-requires
capped_value-size-requires c = rw c.leading_digits-digits.ensures (prefix_passes is_ascii_digit c.after_separators-unsigned.result.now)

pub overflow_sub-result : goal.overflow_sub-result
overflow_sub-result c =
    rw (c.after_separators-unsigned.ensures, c.after_sign.ensures, c.after_separators-signed.ensures) (length-unsigned-le c.args.bytes.now)

pub returns-clause-within : goal.returns-clause-within
returns-clause-within c =
    let digits = prefix_len-le-length is_ascii_digit c.after_separators-unsigned.result.now in
    let shorter : length c.after_separators-unsigned.result.now ≤ length c.args.bytes.now = rw (c.after_separators-unsigned.ensures, c.after_sign.ensures, c.after_separators-signed.ensures) (length-unsigned-le c.args.bytes.now) in
    omega (arith, c.leading_digits-digits.ensures, digits)
