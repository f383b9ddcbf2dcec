use Rattle.std.proofs.Common.{rules, ◌≡◌, sym, subst, ap, ◌∙◌, to_z, of_z, w64}
use Rattle.std.specs.Prelude.{[], ◌∷◌, Some}
use Rattle.sim_values.specs.declared.standard.Standard.TheVariants as name
use Rattle.sim_values.specs.Plain.{Character, Integer, Truth}
use Rattle.sim_code.specs.Machine.{plain}
use Rattle.standard_calls.specs.Calls.{CameAs, character_name}
use Rattle.standard_calls.specs.Performed.{store_of}
use Rattle.standard_calls.proofs.Effects.{does_rank, does_isorank, does_digit, does_letter}
use Rattle.sim_values.specs.Characters.{is_digit, is_letter, rank_of}
use Rattle.standard_calls.proofs.plain.of_character.Goals as goal

pub returns-in-Rank-clause-came : goal.returns-in-Rank-clause-came
returns-in-Rank-clause-came c = λ budget p.
    subst (λ f. CameAs c.given.result budget (character_name f) (Character c.args.c ∷ []) p p) (sym c.in-Rank.is)
    (c.given.ensures.came budget name.Rank (Character c.args.c ∷ []) p (Integer (rank_of c.args.c)) (ap plain c.integer.ensures.value ∙ ap (λ z. Some (Integer z)) ((let whole : to_z w64 (of_z w64 c.rank.result) ≡ c.rank.result = search rules in whole) ∙ c.rank.ensures.rank))
    (λ written. does_rank (store_of p written) c.args.c))

pub returns-in-Isorank-clause-came : goal.returns-in-Isorank-clause-came
returns-in-Isorank-clause-came c = λ budget p.
    subst (λ f. CameAs c.given-in-Isorank.result budget (character_name f) (Character c.args.c ∷ []) p p) (sym c.in-Isorank.is)
    (c.given-in-Isorank.ensures.came budget name.Isorank (Character c.args.c ∷ []) p (Integer (rank_of c.args.c)) (ap plain c.integer-in-Isorank.ensures.value ∙ ap (λ z. Some (Integer z)) ((let whole : to_z w64 (of_z w64 c.rank-in-Isorank.result) ≡ c.rank-in-Isorank.result = search rules in whole) ∙ c.rank-in-Isorank.ensures.rank))
    (λ written. does_isorank (store_of p written) c.args.c))

pub returns-in-Digit-clause-came : goal.returns-in-Digit-clause-came
returns-in-Digit-clause-came c = λ budget p.
    subst (λ f. CameAs c.given-in-Digit.result budget (character_name f) (Character c.args.c ∷ []) p p) (sym c.in-Digit.is)
    (c.given-in-Digit.ensures.came budget name.Digit (Character c.args.c ∷ []) p (Truth (is_digit c.args.c)) (ap plain c.truth.ensures.value ∙ ap (λ z. Some (Truth z)) (c.digit.ensures.digit))
    (λ written. does_digit (store_of p written) c.args.c))

pub returns-in-Letter-clause-came : goal.returns-in-Letter-clause-came
returns-in-Letter-clause-came c = λ budget p.
    subst (λ f. CameAs c.given-in-Letter.result budget (character_name f) (Character c.args.c ∷ []) p p) (sym c.in-Letter.is)
    (c.given-in-Letter.ensures.came budget name.Letter (Character c.args.c ∷ []) p (Truth (is_letter c.args.c)) (ap plain c.truth-in-Letter.ensures.value ∙ ap (λ z. Some (Truth z)) (c.letter.ensures.letter))
    (λ written. does_letter (store_of p written) c.args.c))
