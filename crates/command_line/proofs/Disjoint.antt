-- Words that ask for the generated program are no request about a file.
use Rattle.std.proofs.Common.{◌≡◌, ℕ, Bool, true, false, List, [], ◌∷◌, Option, Some, None, refl}
use Rattle.std.specs.Prelude.{codes, option_and_then, if◌then◌else◌}
use Rattle.std.specs.Str.{bytes_eq}
use Rattle.std.proofs.lemmas.Slice.Eq.{bytes_eq-Decides}
use Rattle.command_line.specs.Executed.{CodeRequest, code_request_of, code_with}
use Rattle.command_line.specs.Generated.{generated_of, processes_with}
use Rattle.command_line.specs.Words.{command_of, given_by, parts_from, request_of, request_with}
use Rattle.command_line.specs.declared.words.Command.{Command}

-- what the first word says of the rest
abbrev asks : Bool → List (List ℕ) → Option ℕ
asks is_gen rest = if is_gen then option_and_then (λ parts. option_and_then processes_with (given_by parts)) (parts_from None rest) else None

no_command : (word : List ℕ) → word ≡ codes "gen" → command_of word ≡ None
no_command word is = rw is refl

without : (rest : List (List ℕ)) (c : Option Command) → c ≡ None → option_and_then (λ command. option_and_then (λ parts. option_and_then (request_with command) (given_by parts)) (parts_from None rest)) c ≡ None
without rest c none = rw none refl

by_first : (word : List ℕ) (rest : List (List ℕ)) (n : ℕ) (is_gen : Bool) → bytes_eq word (codes "gen") ≡ is_gen → asks is_gen rest ≡ Some n → request_of (word ∷ rest) ≡ None
by_first word rest n false is asked = cc asked
by_first word rest n true is asked = without rest (command_of word) (no_command word ((bytes_eq-Decides word (codes "gen")).0 is))

pub no_request : (words : List (List ℕ)) (n : ℕ) → generated_of words ≡ Some n → request_of words ≡ None
no_request [] n asked = refl
no_request (word ∷ rest) n asked = by_first word rest n (bytes_eq word (codes "gen")) refl asked

-- words that ask for a run of code ask for no generated program
exec_is_not_gen : (word : List ℕ) → word ≡ codes "exec" → bytes_eq word (codes "gen") ≡ false
exec_is_not_gen word is = rw is refl

code_by_first : (word : List ℕ) (rest : List (List ℕ)) (request : CodeRequest) (n : ℕ) (is_exec : Bool) → bytes_eq word (codes "exec") ≡ is_exec
    → (if is_exec then option_and_then (λ parts. option_and_then code_with (given_by parts)) (parts_from None rest) else None) ≡ Some request → generated_of (word ∷ rest) ≡ Some n → ⊥
code_by_first word rest request n false is asked generated = cc asked
code_by_first word rest request n true is asked generated = no_word (exec_is_not_gen word ((bytes_eq-Decides word (codes "exec")).0 is)) generated
  where
    no_word : bytes_eq word (codes "gen") ≡ false → (if bytes_eq word (codes "gen") then option_and_then (λ parts. option_and_then processes_with (given_by parts)) (parts_from None rest) else None) ≡ Some n → ⊥
    no_word differs given = nothing (rw differs at given)
      where
        nothing : None ≡ Some n → ⊥
        nothing h = cc h

pub no_generated : (words : List (List ℕ)) (request : CodeRequest) (n : ℕ) → code_request_of words ≡ Some request → generated_of words ≡ Some n → ⊥
no_generated [] request n asked generated = cc asked
no_generated (word ∷ rest) request n asked generated = code_by_first word rest request n (bytes_eq word (codes "exec")) refl asked generated
