use Rattle.std.proofs.Common.{◌≡◌, length, ap, sym, refl, subst, ◌∙◌}
use Rattle.sim_values.specs.Standard.{operands_of, row_of}
use Rattle.standard_calls.proofs.Counts.{character_count, integer_count, integers_count, nothing_count, text_and_integer_count, text_count}
use Rattle.standard_calls.proofs.calls.operand_count.Goals as goal

pub returns-in-Nothing : goal.returns-in-Nothing
returns-in-Nothing c = record { count = nothing_count c.in-Nothing.field-0 ∙ ap (λ n. length (operands_of (row_of n).function)) (sym c.in-Nothing.ensures) }

pub returns-in-Integer : goal.returns-in-Integer
returns-in-Integer c = record { count = integer_count c.in-Integer.field-0 ∙ ap (λ n. length (operands_of (row_of n).function)) (sym c.in-Integer.ensures) }

pub returns-in-Integers : goal.returns-in-Integers
returns-in-Integers c = record { count = integers_count c.in-Integers.field-0 ∙ ap (λ n. length (operands_of (row_of n).function)) (sym c.in-Integers.ensures) }

pub returns-in-Character : goal.returns-in-Character
returns-in-Character c = record { count = character_count c.in-Character.field-0 ∙ ap (λ n. length (operands_of (row_of n).function)) (sym c.in-Character.ensures) }

pub returns-in-Text : goal.returns-in-Text
returns-in-Text c = record { count = text_count c.in-Text.field-0 ∙ ap (λ n. length (operands_of (row_of n).function)) (sym c.in-Text.ensures) }

pub returns-in-TextAndInteger : goal.returns-in-TextAndInteger
returns-in-TextAndInteger c = record { count = text_and_integer_count c.in-TextAndInteger.field-0 ∙ ap (λ n. length (operands_of (row_of n).function)) (sym c.in-TextAndInteger.ensures) }

pub returns-in-TextAndIntegers : goal.returns-in-TextAndIntegers
unfolding row_of
returns-in-TextAndIntegers c = record { count = subst (λ n. 3 ≡ length (operands_of (row_of n).function)) (sym c.in-TextAndIntegers.ensures) refl }

pub returns-in-TextAndCharacter : goal.returns-in-TextAndCharacter
unfolding row_of
returns-in-TextAndCharacter c = record { count = subst (λ n. 2 ≡ length (operands_of (row_of n).function)) (sym c.in-TextAndCharacter.ensures) refl }
