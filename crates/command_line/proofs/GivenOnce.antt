-- What is given word by word is what the parts give, each thing once at most.
use Rattle.std.proofs.Common.{◌≡◌, ℕ, List, [], ◌∷◌, Option, Some, None, refl, sym, ◌∙◌, ap}
use Rattle.std.specs.Prelude.{option_and_then}
use Rattle.command_line.specs.Given.{nothing, with_parts}
use Rattle.command_line.specs.Words.{Given, Names, Part, Sets, at_most_one, files, given_by, together, values}
use Rattle.command_line.specs.declared.options.Setting.TheVariants.{Storage, Ticks, InLength, OutLength}

-- the only one of what was given so far and of a list
abbrev more : {A : Type 0} → Option A → List A → Option (Option A)
more None xs = at_most_one xs
more (Some x) xs = at_most_one (x ∷ xs)

no_more : {A : Type 0} (o : Option A) → Some o ≡ more o []
no_more None = refl
no_more (Some x) = refl

abbrev given_so : (s t i o : Option ℕ) (f : Option (List ℕ)) → Given
given_so s t i o f = record { storage = s; ticks = t; in_length = i; out_length = o; file = f }

-- what was given so far, with what further parts give
abbrev all_given : (s t i o : Option ℕ) (f : Option (List ℕ)) → List Part → Option Given
all_given s t i o f parts =
    together (more s (values Storage parts)) (more t (values Ticks parts)) (more i (values InLength parts)) (more o (values OutLength parts)) (more f (files parts))

abbrev GivesAll : List Part → Type 0
GivesAll parts = (s t i o : Option ℕ) (f : Option (List ℕ)) → with_parts (given_so s t i o f) parts ≡ all_given s t i o f parts

all_of_none : GivesAll []
all_of_none s t i o f =
    ap (λ x. together x (Some t) (Some i) (Some o) (Some f)) (no_more s)
    ∙ ap (λ x. together (more s []) x (Some i) (Some o) (Some f)) (no_more t)
    ∙ ap (λ x. together (more s []) (more t []) x (Some o) (Some f)) (no_more i)
    ∙ ap (λ x. together (more s []) (more t []) (more i []) x (Some f)) (no_more o)
    ∙ ap (λ x. together (more s []) (more t []) (more i []) (more o []) x) (no_more f)

-- where a step gives nothing there is nothing
none_then : {A B : Type 0} (f : A → Option B) (a : Option A) → ((x : A) → None ≡ f x) → None ≡ option_and_then f a
none_then f None all = refl
none_then f (Some x) all = all x

of_storage : (number : ℕ) (rest : List Part) → GivesAll rest → GivesAll (Sets Storage number ∷ rest)
of_storage number rest all None t i o f = all (Some number) t i o f
of_storage number rest all (Some x) t i o f = refl

of_ticks : (number : ℕ) (rest : List Part) → GivesAll rest → GivesAll (Sets Ticks number ∷ rest)
of_ticks number rest all s None i o f = all s (Some number) i o f
of_ticks number rest all s (Some x) i o f = none_then _ (more s (values Storage rest)) (λ a. refl)

of_in_length : (number : ℕ) (rest : List Part) → GivesAll rest → GivesAll (Sets InLength number ∷ rest)
of_in_length number rest all s t None o f = all s t (Some number) o f
of_in_length number rest all s t (Some x) o f = none_then _ (more s (values Storage rest)) (λ a. none_then _ (more t (values Ticks rest)) (λ b. refl))

of_out_length : (number : ℕ) (rest : List Part) → GivesAll rest → GivesAll (Sets OutLength number ∷ rest)
of_out_length number rest all s t i None f = all s t i (Some number) f
of_out_length number rest all s t i (Some x) f =
    none_then _ (more s (values Storage rest)) (λ a. none_then _ (more t (values Ticks rest)) (λ b. none_then _ (more i (values InLength rest)) (λ c. refl)))

of_file : (file : List ℕ) (rest : List Part) → GivesAll rest → GivesAll (Names file ∷ rest)
of_file file rest all s t i o None = all s t i o (Some file)
of_file file rest all s t i o (Some x) =
    none_then _ (more s (values Storage rest)) (λ a. none_then _ (more t (values Ticks rest)) (λ b. none_then _ (more i (values InLength rest)) (λ c. none_then _ (more o (values OutLength rest)) (λ d. refl))))

gives_all : (parts : List Part) → GivesAll parts
gives_all [] = all_of_none
gives_all (Sets Storage number ∷ rest) = of_storage number rest (gives_all rest)
gives_all (Sets Ticks number ∷ rest) = of_ticks number rest (gives_all rest)
gives_all (Sets InLength number ∷ rest) = of_in_length number rest (gives_all rest)
gives_all (Sets OutLength number ∷ rest) = of_out_length number rest (gives_all rest)
gives_all (Names file ∷ rest) = of_file file rest (gives_all rest)

-- so what is asked by the parts is asked by what was given word by word
pub asked_by_parts : {A : Type 0} (ask : Given → Option A) (parts : Option (List Part)) → option_and_then (λ ps. option_and_then ask (given_by ps)) parts ≡ option_and_then ask (option_and_then (with_parts nothing) parts)
asked_by_parts ask None = refl
asked_by_parts ask (Some parts) = ap (option_and_then ask) (sym (gives_all parts None None None None None))
