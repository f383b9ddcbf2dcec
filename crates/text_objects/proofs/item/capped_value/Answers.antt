use Rattle.std.proofs.Common.{◌≡◌, ℕ, ◌+◌, ◌-◌, ◌*◌, ◌^◌, min, take, get_or, ap, ◌∙◌, sym}
use Rattle.std.proofs.lemmas.Int.Digits.{digits_value_more}
use Rattle.std.specs.Char.{digit_value}
use Rattle.std.specs.Str.Parse.{digits_value}
use Rattle.text_objects.proofs.Items.{capped_step, digit_value-digit}
use Rattle.text_objects.proofs.item.capped_value.Goals as goal

pub loop-digit-preserved : goal.loop-digit-preserved
loop-digit-preserved c =
    let i = c.loop-digit.digit-index in
    let digits = c.args.digits.now in
    let limit : ℕ = 2 ^ 64 - 1 in
    let so_far : ℕ = digits_value 10 (take i digits) in
    let digit : ℕ = get_or digits i 0 in
    let is : digit_value digit ≡ digit - 48 = digit_value-digit digit (c.requires i 0 c.loop-digit-test.true) in
    c.saturating_add-value.ensures
    ∙ ap (λ (n : ℕ). min (n + c.from.result) limit) (c.saturating_mul.ensures ∙ ap (λ (v : ℕ). min (v * 10) limit) c.loop-digit.invariant)
    ∙ ap (λ (d : ℕ). min (min (min so_far limit * 10) limit + d) limit) (c.from.ensures ∙ sym is)
    ∙ capped_step so_far (digit_value digit) limit
    ∙ ap (λ (v : ℕ). min v limit) (sym (digits_value_more 10 digits i c.loop-digit-test.true))
