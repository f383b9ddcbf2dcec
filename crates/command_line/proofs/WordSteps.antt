-- What words give, one word further.
use Rattle.std.proofs.Common.{◌≤◌, ◌<◌, ◌-◌, suc, get_or, take, take_all, drop, String, string_bytes, length, arith, ◌≡◌, ℕ, List, [], ◌∷◌, Option, Some, None, map, refl, sym, ◌∙◌, ap}
use Rattle.std.specs.Prelude.{Bool, codes, false, not, option_and_then, true}
use Rattle.std.specs.declared.alloc.Global.{Global}
use Rattle.std.specs.Str.{bytes_eq}
use Rattle.command_line.specs.Executed.{code_request_of, code_with}
use Rattle.command_line.specs.Generated.{generated_of, processes_with}
use Rattle.command_line.specs.Given.{nothing, with_files, with_part, with_parts, with_value, with_words}
use Rattle.command_line.specs.Options.{value_of}
use Rattle.command_line.specs.Words.{Awaits, EndsOptions, Given, Gives, Kind, Names, NamesFile, Part, Sets, Unknown, command_of, followed_by, kind_of, given_by, parts_by, parts_from, request_of, request_with, texts}
use Rattle.command_line.specs.declared.options.Setting.{Setting}
use Rattle.command_line.specs.declared.words.Command.{Command}
use Rattle.command_line.proofs.GivenOnce.{asked_by_parts}

-- a part, and then the rest
abbrev then_rest : Option Given → Option (List Part) → Option Given
then_rest given rest = option_and_then (λ more. option_and_then (with_parts more) rest) given

nothing_more : (given : Option Given) → None ≡ then_rest given None
nothing_more None = refl
nothing_more (Some given) = refl

part_first : (given : Given) (part : Part) (rest : Option (List Part)) → option_and_then (with_parts given) (followed_by part rest) ≡ then_rest (with_part given part) rest
part_first given part None = nothing_more (with_part given part)
part_first given part (Some parts) = refl

value_first_of : (given : Given) (setting : Setting) (value : Option ℕ) (rest : Option (List Part)) →
    option_and_then (with_parts given) (option_and_then (λ number. followed_by (Sets setting number) rest) value) ≡ then_rest (option_and_then (λ number. with_part given (Sets setting number)) value) rest
value_first_of given setting None rest = refl
value_first_of given setting (Some number) rest = part_first given (Sets setting number) rest

-- the words after one that gives this much
abbrev then_words : Option Given → List (List ℕ) → Option Given
then_words given rest = option_and_then (λ more. with_words more None rest) given

unfold_then : (given : Option Given) (rest : List (List ℕ)) → then_rest given (parts_from None rest) ≡ then_words given rest
unfolding with_words
unfold_then given rest = refl

-- ---- files

two_parts : (s t i o : Option ℕ) (f : Option (List ℕ)) (a b : List ℕ) (rest : List Part) → None ≡ with_parts (record { storage = s; ticks = t; in_length = i; out_length = o; file = f }) (Names a ∷ Names b ∷ rest)
two_parts s t i o None a b rest = refl
two_parts s t i o (Some x) a b rest = refl

-- two files are one too many
pub two_files : (given : Given) (files : List (String Global)) → 2 ≤ length files → None ≡ with_files given (texts files)
two_files given [] few = absurd (omega (arith, few))
two_files given (a ∷ []) few = absurd (omega (arith, few))
two_files given (a ∷ b ∷ more) few =
    two_parts given.storage given.ticks given.in_length given.out_length given.file (string_bytes a) (string_bytes b) (map Names (texts more))

-- the bytes of words: of the first one, and of the rest
pub texts_front : (xs : List (String Global)) (word d : String Global) → 1 ≤ length xs → word ≡ get_or xs 0 d → texts xs ≡ string_bytes word ∷ texts (take (length xs - 1) (drop 1 xs))
texts_front [] word d some same = absurd (omega (arith, some))
texts_front (x ∷ xs) word d some same =
    let all : take (suc (length xs) - 1) xs ≡ xs = take_all _ xs (omega arith) in
    rw (same, all) refl

pub texts_none : (xs : List (String Global)) → length xs < 1 → texts xs ≡ []
texts_none [] none = refl
texts_none (x ∷ xs) none = absurd (omega (arith, none))

-- ---- the steps

pub awaited_step : (given : Given) (setting : Setting) (word : List ℕ) (rest : List (List ℕ)) (more : Option Given) → more ≡ with_value given setting word → then_words more rest ≡ with_words given (Some setting) (word ∷ rest)
unfolding with_words
awaited_step given setting word rest more step =
    ap (λ g. then_rest g (parts_from None rest)) step ∙ sym (value_first_of given setting (value_of setting word) (parts_from None rest))

by_kind : (given : Given) (word : List ℕ) (rest : List (List ℕ)) (kind : Kind) → kind ≡ kind_of word
    → option_and_then (with_parts given) (parts_by kind word rest (λ awaited. parts_from awaited rest)) ≡ with_words given None (word ∷ rest)
unfolding with_words
by_kind given word rest kind same = ap (λ k. option_and_then (with_parts given) (parts_by k word rest (λ awaited. parts_from awaited rest))) same

pub gives_step : (given : Given) (setting : Setting) (value word : List ℕ) (rest : List (List ℕ)) (more : Option Given) → Gives setting value ≡ kind_of word → more ≡ with_value given setting value → then_words more rest ≡ with_words given None (word ∷ rest)
unfolding with_words
gives_step given setting value word rest more same step =
    ap (λ g. then_rest g (parts_from None rest)) step ∙ sym (value_first_of given setting (value_of setting value) (parts_from None rest)) ∙ by_kind given word rest (Gives setting value) same

pub file_step : (given : Given) (word : List ℕ) (rest : List (List ℕ)) (more : Option Given) → NamesFile ≡ kind_of word → more ≡ with_part given (Names word) → then_words more rest ≡ with_words given None (word ∷ rest)
unfolding with_words
file_step given word rest more same step =
    ap (λ g. then_rest g (parts_from None rest)) step ∙ sym (part_first given (Names word) (parts_from None rest)) ∙ by_kind given word rest NamesFile same

pub files_step : (given : Given) (word : List ℕ) (rest : List (List ℕ)) → EndsOptions ≡ kind_of word → with_files given rest ≡ with_words given None (word ∷ rest)
files_step given word rest same = by_kind given word rest EndsOptions same

pub awaits_step : (given : Given) (setting : Setting) (word : List ℕ) (rest : List (List ℕ)) → Awaits setting ≡ kind_of word → with_words given (Some setting) rest ≡ with_words given None (word ∷ rest)
unfolding with_words
awaits_step given setting word rest same = by_kind given word rest (Awaits setting) same

pub unknown_step : (given : Given) (word : List ℕ) (rest : List (List ℕ)) → Unknown ≡ kind_of word → None ≡ with_words given None (word ∷ rest)
unknown_step given word rest same = by_kind given word rest Unknown same

-- ---- the same where a step gives something, and where it gives nothing

pub awaited_some : (given more : Given) (setting : Setting) (word : List ℕ) (rest : List (List ℕ)) → Some more ≡ with_value given setting word → with_words more None rest ≡ with_words given (Some setting) (word ∷ rest)
awaited_some given more setting word rest step = awaited_step given setting word rest (Some more) step

pub awaited_none : (given : Given) (setting : Setting) (word : List ℕ) (rest : List (List ℕ)) → None ≡ with_value given setting word → None ≡ with_words given (Some setting) (word ∷ rest)
awaited_none given setting word rest step = awaited_step given setting word rest None step

pub gives_some : (given more : Given) (setting : Setting) (value word : List ℕ) (rest : List (List ℕ)) → Gives setting value ≡ kind_of word → Some more ≡ with_value given setting value → with_words more None rest ≡ with_words given None (word ∷ rest)
gives_some given more setting value word rest same step = gives_step given setting value word rest (Some more) same step

pub gives_none : (given : Given) (setting : Setting) (value word : List ℕ) (rest : List (List ℕ)) → Gives setting value ≡ kind_of word → None ≡ with_value given setting value → None ≡ with_words given None (word ∷ rest)
gives_none given setting value word rest same step = gives_step given setting value word rest None same step

pub file_some : (given more : Given) (word : List ℕ) (rest : List (List ℕ)) → NamesFile ≡ kind_of word → Some more ≡ with_part given (Names word) → with_words more None rest ≡ with_words given None (word ∷ rest)
file_some given more word rest same step = file_step given word rest (Some more) same step

pub file_none : (given : Given) (word : List ℕ) (rest : List (List ℕ)) → NamesFile ≡ kind_of word → None ≡ with_part given (Names word) → None ≡ with_words given None (word ∷ rest)
file_none given word rest same step = file_step given word rest None same step

-- ---- where the words end

pub awaited_end : (given : Given) (setting : Setting) → None ≡ with_words given (Some setting) []
unfolding with_words
awaited_end given setting = refl

pub last_end : (given : Given) → Some given ≡ with_words given None []
unfolding with_words
last_end given = refl

-- ---- the request

pub request_words : (word : List ℕ) (rest : List (List ℕ)) (command : Option Command) (given : Option Given) → command ≡ command_of word → given ≡ with_words nothing None rest
    → option_and_then (λ c. option_and_then (request_with c) given) command ≡ request_of (word ∷ rest)
unfolding with_words
request_words word rest command given asked words =
    ap (λ g. option_and_then (λ c. option_and_then (request_with c) g) command) words
    ∙ ap (λ k. option_and_then (λ c. option_and_then (request_with c) (option_and_then (with_parts nothing) (parts_from None rest))) k) asked
    ∙ sym (each_command (command_of word))
  where
    each_command : (c : Option Command) → option_and_then (λ k. option_and_then (λ ps. option_and_then (request_with k) (given_by ps)) (parts_from None rest)) c
        ≡ option_and_then (λ k. option_and_then (request_with k) (option_and_then (with_parts nothing) (parts_from None rest))) c
    each_command None = refl
    each_command (Some k) = asked_by_parts (request_with k) (parts_from None rest)

-- ---- a generated program

equal : (differs same : Bool) → differs ≡ not same → differs ≡ false → same ≡ true
equal differs true is none = refl
equal differs false is none = let no : true ≡ false = sym is ∙ none in absurd (cc no)

pub generated_words : (word : List ℕ) (rest : List (List ℕ)) (given : Option Given) → given ≡ with_words nothing None rest
    → (differs : Bool) → differs ≡ not (bytes_eq word (codes "gen")) → differs ≡ false → option_and_then processes_with given ≡ generated_of (word ∷ rest)
unfolding with_words
generated_words word rest given words differs is none =
    rw (equal differs (bytes_eq word (codes "gen")) is none) (ap (option_and_then processes_with) words ∙ sym (asked_by_parts processes_with (parts_from None rest)))

-- ---- a run of code

pub code_words : (word : List ℕ) (rest : List (List ℕ)) (given : Option Given) → given ≡ with_words nothing None rest
    → (differs : Bool) → differs ≡ not (bytes_eq word (codes "exec")) → differs ≡ false → option_and_then code_with given ≡ code_request_of (word ∷ rest)
unfolding with_words
code_words word rest given words differs is none =
    rw (equal differs (bytes_eq word (codes "exec")) is none) (ap (option_and_then code_with) words ∙ sym (asked_by_parts code_with (parts_from None rest)))

pub ruleset word_steps = (awaited_some, awaited_none, gives_some, gives_none, file_some, file_none, files_step, awaits_step, unknown_step, awaited_end, last_end)
