-- The formats of records.
use Rattle.std.proofs.Common.{◌≡◌, ℕ, zero, suc, ◌+◌, ◌^◌, ◌<◌, ◌≤◌, Bool, true, false, List, [], ◌∷◌, ◌++◌, length, refl, sym, ap, ◌∙◌, arith}
use Rattle.std.specs.List.{flat_map, AllByRecursion}
use Rattle.std.proofs.lemmas.List.{append-nil}
use Rattle.sim_code.specs.declared.code.BlockKind.{BlockKind}
use Rattle.sim_code.specs.declared.code.BlockKind.TheVariants as kind
use Rattle.sim_code.specs.declared.code.CodeActual.{CodeActual}
use Rattle.sim_code.specs.declared.code.CodeFormal.{CodeFormal}
use Rattle.sim_code.specs.declared.code.CodeMode.{CodeMode}
use Rattle.sim_code.specs.declared.code.CodeMode.TheVariants as mode
use Rattle.sim_code.specs.declared.code.CodeType.{CodeType}
use Rattle.sim_code.specs.declared.code.CodeType.TheVariants as type
use Rattle.sim_code.specs.declared.code.FormalShape.{FormalShape}
use Rattle.sim_code.specs.declared.code.FormalShape.TheVariants as shape
use Rattle.sim_code.specs.declared.code.Match.{Match}
use Rattle.sim_code.specs.declared.code.ThunkRecord.{ThunkRecord}
use Rattle.sim_code.specs.Code.{BlockOf, ClassOf}
use Rattle.code_file.specs.Fields.{Field, Number, Listed, Characters}
use Rattle.code_file.specs.Spelling.{HasTypes, actual_fields, block_fields, class_fields, formal_fields, kind_number, list_fields, match_fields, mode_number, section, shape_number, text_fields, thunk_fields, truth_field, truth_number, type_field, type_fields, type_number}
use Rattle.code_file.specs.Reading.{Reader, ◌>>=◌, actual_at, block_at, characters_at, class_at, done, formal_at, kind_at, kind_of, list_at, listed_at, match_at, mode_at, mode_of, number_at, records_at, section_at, shape_at, shape_of, text_at, thunk_at, truth_at, truth_of, type_at, type_of}
use Rattle.code_file.proofs.Formats.{IsFormat, done_format, same_fields, same_valid, seq}
use Rattle.code_file.proofs.FieldFormats.{number_format, listed_format, characters_format}

-- ---- what is chosen from a list

choice_format : {C : Type 0} (last : ℕ) (number : C → ℕ) (made : ℕ → C) → last < 2 ^ 32 → ((c : C) → number c ≤ last) → ((c : C) → made (number c) ≡ c) → ((n : ℕ) → n ≤ last → number (made n) ≡ n)
    → IsFormat (listed_at last >>= λ n. done (made n)) (λ _. Unit {0}) (λ c. Listed last (number c) ∷ [])
choice_format {C} last number made lt within back forth =
    seq (listed_at last) (λ n. n ≤ last) (λ n. Listed last n ∷ []) (λ n. done (made n)) (λ _. Unit {0}) (λ c. Listed last (number c) ∷ []) number (λ _. []) (record {
      first = listed_format last lt;
      then = λ n v. done_format (made n) (λ c. Unit {0} × (number c ≡ n)) (tt, forth n v) (λ c h. sym (back c) ∙ ap made h.1);
      part_valid = λ c _. within c;
      in_two = λ c _. refl;
    })

truth_within : (c : Bool) → truth_number c ≤ 1
truth_within false = omega arith
truth_within true = omega arith

truth_back : (c : Bool) → truth_of (truth_number c) ≡ c
truth_back false = refl
truth_back true = refl

truth_forth : (n : ℕ) → n ≤ 1 → truth_number (truth_of n) ≡ n
truth_forth zero h = refl
truth_forth (suc zero) h = refl
truth_forth (suc (suc m)) h = absurd (omega arith)

pub truth_format : IsFormat truth_at (λ _. Unit {0}) (λ c. truth_field c ∷ [])
unfolding truth_at
truth_format = choice_format 1 truth_number truth_of (omega arith) truth_within truth_back truth_forth

kind_within : (c : BlockKind) → kind_number c ≤ 3
kind_within kind.SubBlock = omega arith
kind_within kind.Procedure = omega arith
kind_within kind.Object = omega arith
kind_within kind.Prefixed = omega arith

kind_back : (c : BlockKind) → kind_of (kind_number c) ≡ c
kind_back kind.SubBlock = refl
kind_back kind.Procedure = refl
kind_back kind.Object = refl
kind_back kind.Prefixed = refl

kind_forth : (n : ℕ) → n ≤ 3 → kind_number (kind_of n) ≡ n
kind_forth zero h = refl
kind_forth (suc zero) h = refl
kind_forth (suc (suc zero)) h = refl
kind_forth (suc (suc (suc zero))) h = refl
kind_forth (suc (suc (suc (suc m)))) h = absurd (omega arith)

pub kind_format : IsFormat kind_at (λ _. Unit {0}) (λ c. Listed 3 (kind_number c) ∷ [])
unfolding kind_at
kind_format = choice_format 3 kind_number kind_of (omega arith) kind_within kind_back kind_forth

type_within : (c : CodeType) → type_number c ≤ 5
type_within type.Nothing = omega arith
type_within type.Integer = omega arith
type_within type.Boolean = omega arith
type_within type.Character = omega arith
type_within type.Text = omega arith
type_within type.Reference = omega arith

type_back : (c : CodeType) → type_of (type_number c) ≡ c
type_back type.Nothing = refl
type_back type.Integer = refl
type_back type.Boolean = refl
type_back type.Character = refl
type_back type.Text = refl
type_back type.Reference = refl

type_forth : (n : ℕ) → n ≤ 5 → type_number (type_of n) ≡ n
type_forth zero h = refl
type_forth (suc zero) h = refl
type_forth (suc (suc zero)) h = refl
type_forth (suc (suc (suc zero))) h = refl
type_forth (suc (suc (suc (suc zero)))) h = refl
type_forth (suc (suc (suc (suc (suc zero))))) h = refl
type_forth (suc (suc (suc (suc (suc (suc m)))))) h = absurd (omega arith)

pub type_format : IsFormat type_at (λ _. Unit {0}) (λ c. type_fields c)
unfolding type_at
type_format = choice_format 5 type_number type_of (omega arith) type_within type_back type_forth

mode_within : (c : CodeMode) → mode_number c ≤ 2
mode_within mode.Value = omega arith
mode_within mode.Reference = omega arith
mode_within mode.Name = omega arith

mode_back : (c : CodeMode) → mode_of (mode_number c) ≡ c
mode_back mode.Value = refl
mode_back mode.Reference = refl
mode_back mode.Name = refl

mode_forth : (n : ℕ) → n ≤ 2 → mode_number (mode_of n) ≡ n
mode_forth zero h = refl
mode_forth (suc zero) h = refl
mode_forth (suc (suc zero)) h = refl
mode_forth (suc (suc (suc m))) h = absurd (omega arith)

pub mode_format : IsFormat mode_at (λ _. Unit {0}) (λ c. Listed 2 (mode_number c) ∷ [])
unfolding mode_at
mode_format = choice_format 2 mode_number mode_of (omega arith) mode_within mode_back mode_forth

shape_within : (c : FormalShape) → shape_number c ≤ 2
shape_within shape.Simple = omega arith
shape_within shape.Array = omega arith
shape_within shape.Procedure = omega arith

shape_back : (c : FormalShape) → shape_of (shape_number c) ≡ c
shape_back shape.Simple = refl
shape_back shape.Array = refl
shape_back shape.Procedure = refl

shape_forth : (n : ℕ) → n ≤ 2 → shape_number (shape_of n) ≡ n
shape_forth zero h = refl
shape_forth (suc zero) h = refl
shape_forth (suc (suc zero)) h = refl
shape_forth (suc (suc (suc m))) h = absurd (omega arith)

pub shape_format : IsFormat shape_at (λ _. Unit {0}) (λ c. Listed 2 (shape_number c) ∷ [])
unfolding shape_at
shape_format = choice_format 2 shape_number shape_of (omega arith) shape_within shape_back shape_forth

-- ---- several

abbrev first_or : {A : Type 0} → A → List A → A
first_or d [] = d
first_or d (x ∷ xs) = x

abbrev behind_first : {A : Type 0} → List A → List A
behind_first [] = []
behind_first (x ∷ xs) = xs

abbrev pub Several : {A : Type 0} → (A → Type 0) → (count : ℕ) → List A → Type 0
Several V count xs = AllByRecursion V xs × (length xs ≡ count)

first_valid : {A : Type 0} (V : A → Type 0) (d : A) (count : ℕ) (xs : List A) → Several V (suc count) xs → V (first_or d xs)
first_valid V d count [] h = absurd (omega (arith, h.1))
first_valid V d count (x ∷ xs) h = h.0.0

others_valid : {A : Type 0} (V : A → Type 0) (count : ℕ) (xs : List A) → Several V (suc count) xs → Several V count (behind_first xs)
others_valid V count [] h = absurd (omega (arith, h.1))
others_valid V count (x ∷ xs) h = (h.0.1, omega (arith, h.1))

in_first : {A : Type 0} (V : A → Type 0) (f : A → List Field) (d : A) (count : ℕ) (xs : List A) → Several V (suc count) xs → flat_map f xs ≡ f (first_or d xs) ++ flat_map f (behind_first xs)
in_first V f d count [] h = absurd (omega (arith, h.1))
in_first V f d count (x ∷ xs) h = refl

joined_again : {A : Type 0} (V : A → Type 0) (d : A) (count : ℕ) (x : A) (xs c : List A) → Several V (suc count) c → first_or d c ≡ x → behind_first c ≡ xs → c ≡ x ∷ xs
joined_again V d count x xs [] h e g = absurd (omega (arith, h.1))
joined_again V d count x xs (y ∷ ys) h e g = cc

none_left : {A : Type 0} (V : A → Type 0) (c : List A) → Several V 0 c → c ≡ []
none_left V [] h = refl
none_left V (x ∷ xs) h = absurd (omega (arith, h.1))

none_format : {A : Type 0} (V : A → Type 0) (f : A → List Field) → IsFormat (done []) (Several V 0) (flat_map f)
none_format {A} V f = same_fields (done []) (Several V 0) (λ _. []) (flat_map f) (λ xs h. sym (ap (flat_map f) (none_left V xs h)))
    (done_format {C = List A} [] (Several V 0) (tt, refl) (none_left V))

pub records_format : {A : Type 0} (p : Reader A) (V : A → Type 0) (f : A → List Field) → IsFormat p V f → (count : ℕ) → IsFormat (records_at p count) (Several V count) (flat_map f)
unfolding records_at
records_format {A} p V f h zero = none_format V f
records_format {A} p V f h (suc count) =
    let d : A = h.some.value in
    seq p V f (λ x. records_at p count >>= λ xs. done (x ∷ xs)) (Several V (suc count)) (flat_map f) (first_or d) (λ c. flat_map f (behind_first c)) (record {
      first = h;
      then = λ x v. seq (records_at p count) (Several V count) (flat_map f) (λ xs. done (x ∷ xs)) (λ c. Several V (suc count) c × (first_or d c ≡ x)) (λ c. flat_map f (behind_first c)) behind_first (λ _. []) (record {
        first = records_format p V f h count;
        then = λ xs vs. done_format (x ∷ xs) (λ c. (Several V (suc count) c × (first_or d c ≡ x)) × (behind_first c ≡ xs)) ((((v, vs.0), ap suc vs.1), refl), refl)
            (λ c w. joined_again V d count x xs c w.0.0 w.0.1 w.1);
        part_valid = λ c w. others_valid V count c w.0;
        in_two = λ c w. sym (append-nil (flat_map f (behind_first c)));
      });
      part_valid = λ c w. first_valid V d count c w;
      in_two = λ c w. in_first V f d count c w;
    })

pub section_format : {A : Type 0} (p : Reader A) (V : A → Type 0) (f : A → List Field) → IsFormat p V f → IsFormat (section_at p) (AllByRecursion V) (section f)
unfolding section_at
section_format {A} p V f h =
    seq number_at (λ _. Unit {0}) (λ n. Number n ∷ []) (λ count. records_at p count) (AllByRecursion V) (section f) length (flat_map f) (record {
      first = number_format;
      then = λ count v. records_format p V f h count;
      part_valid = λ c w. tt;
      in_two = λ c w. refl;
    })

-- ---- records

pub all_any : {A : Type 0} (xs : List A) → AllByRecursion (λ _. Unit {0}) xs
all_any [] = tt
all_any (x ∷ xs) = (tt, all_any xs)

pub text_format : IsFormat text_at (λ _. Unit {0}) text_fields
unfolding text_at
text_format =
    seq number_at (λ _. Unit {0}) (λ n. Number n ∷ []) (λ count. characters_at count) (λ _. Unit {0}) text_fields length (λ t. Characters t ∷ []) (record {
      first = number_format;
      then = λ count v. same_valid (characters_at count) (λ t. length t ≡ count) (λ t. Unit {0} × (length t ≡ count)) (λ t. Characters t ∷ []) (λ t h. (tt, h)) (λ t h. h.1) (characters_format count);
      part_valid = λ c w. tt;
      in_two = λ c w. refl;
    })

pub formal_format : IsFormat formal_at (λ _. Unit {0}) formal_fields
unfolding formal_at
formal_format =
    seq (mode_at) (λ _. Unit {0}) (λ t. Listed 2 (mode_number t) ∷ []) (λ mode. shape_at >>= λ shape. type_at >>= λ code_type. number_at >>= λ class. done (record { mode = mode; shape = shape; code_type = code_type; class = class })) (λ (c : CodeFormal). Unit {0}) (formal_fields) (λ (c : CodeFormal). c.mode) (λ (c : CodeFormal). Listed 2 (shape_number c.shape) ∷ type_field c.code_type ∷ Number c.class ∷ []) (record {
      first = mode_format;
      then = λ mode v0. seq (shape_at) (λ _. Unit {0}) (λ t. Listed 2 (shape_number t) ∷ []) (λ shape. type_at >>= λ code_type. number_at >>= λ class. done (record { mode = mode; shape = shape; code_type = code_type; class = class })) (λ (c : CodeFormal). (Unit {0}) × (c.mode ≡ mode)) (λ (c : CodeFormal). Listed 2 (shape_number c.shape) ∷ type_field c.code_type ∷ Number c.class ∷ []) (λ (c : CodeFormal). c.shape) (λ (c : CodeFormal). type_field c.code_type ∷ Number c.class ∷ []) (record {
        first = shape_format;
        then = λ shape v1. seq (type_at) (λ _. Unit {0}) (type_fields) (λ code_type. number_at >>= λ class. done (record { mode = mode; shape = shape; code_type = code_type; class = class })) (λ (c : CodeFormal). ((Unit {0}) × (c.mode ≡ mode)) × (c.shape ≡ shape)) (λ (c : CodeFormal). type_field c.code_type ∷ Number c.class ∷ []) (λ (c : CodeFormal). c.code_type) (λ (c : CodeFormal). Number c.class ∷ []) (record {
          first = type_format;
          then = λ code_type v2. seq (number_at) (λ _. Unit {0}) (λ n. Number n ∷ []) (λ class. done (record { mode = mode; shape = shape; code_type = code_type; class = class })) (λ (c : CodeFormal). (((Unit {0}) × (c.mode ≡ mode)) × (c.shape ≡ shape)) × (c.code_type ≡ code_type)) (λ (c : CodeFormal). Number c.class ∷ []) (λ (c : CodeFormal). c.class) (λ (c : CodeFormal). []) (record {
            first = number_format;
            then = λ class v3. done_format (record { mode = mode; shape = shape; code_type = code_type; class = class }) (λ (c : CodeFormal). ((((Unit {0}) × (c.mode ≡ mode)) × (c.shape ≡ shape)) × (c.code_type ≡ code_type)) × (c.class ≡ class)) ((((tt, refl), refl), refl), refl) (λ c w. λ i. record { mode = w.0.0.0.1 i; shape = w.0.0.1 i; code_type = w.0.1 i; class = w.1 i });
            part_valid = λ c w. tt;
            in_two = λ c w. refl;
          });
          part_valid = λ c w. tt;
          in_two = λ c w. refl;
        });
        part_valid = λ c w. tt;
        in_two = λ c w. refl;
      });
      part_valid = λ c w. tt;
      in_two = λ c w. refl;
    })

pub match_format : IsFormat match_at (λ _. Unit {0}) match_fields
unfolding match_at
match_format =
    seq (number_at) (λ _. Unit {0}) (λ n. Number n ∷ []) (λ virtual_number. number_at >>= λ block. done (record { virtual_number = virtual_number; block = block })) (λ (c : Match). Unit {0}) (match_fields) (λ (c : Match). c.virtual_number) (λ (c : Match). Number c.block ∷ []) (record {
      first = number_format;
      then = λ virtual_number v0. seq (number_at) (λ _. Unit {0}) (λ n. Number n ∷ []) (λ block. done (record { virtual_number = virtual_number; block = block })) (λ (c : Match). (Unit {0}) × (c.virtual_number ≡ virtual_number)) (λ (c : Match). Number c.block ∷ []) (λ (c : Match). c.block) (λ (c : Match). []) (record {
        first = number_format;
        then = λ block v1. done_format (record { virtual_number = virtual_number; block = block }) (λ (c : Match). ((Unit {0}) × (c.virtual_number ≡ virtual_number)) × (c.block ≡ block)) ((tt, refl), refl) (λ c w. λ i. record { virtual_number = w.0.1 i; block = w.1 i });
        part_valid = λ c w. tt;
        in_two = λ c w. refl;
      });
      part_valid = λ c w. tt;
      in_two = λ c w. refl;
    })

pub thunk_format : IsFormat thunk_at (λ _. Unit {0}) thunk_fields
unfolding thunk_at
thunk_format =
    seq (number_at) (λ _. Unit {0}) (λ n. Number n ∷ []) (λ entry. number_at >>= λ room. done (record { entry = entry; room = room })) (λ (c : ThunkRecord). Unit {0}) (thunk_fields) (λ (c : ThunkRecord). c.entry) (λ (c : ThunkRecord). Number c.room ∷ []) (record {
      first = number_format;
      then = λ entry v0. seq (number_at) (λ _. Unit {0}) (λ n. Number n ∷ []) (λ room. done (record { entry = entry; room = room })) (λ (c : ThunkRecord). (Unit {0}) × (c.entry ≡ entry)) (λ (c : ThunkRecord). Number c.room ∷ []) (λ (c : ThunkRecord). c.room) (λ (c : ThunkRecord). []) (record {
        first = number_format;
        then = λ room v1. done_format (record { entry = entry; room = room }) (λ (c : ThunkRecord). ((Unit {0}) × (c.entry ≡ entry)) × (c.room ≡ room)) ((tt, refl), refl) (λ c w. λ i. record { entry = w.0.1 i; room = w.1 i });
        part_valid = λ c w. tt;
        in_two = λ c w. refl;
      });
      part_valid = λ c w. tt;
      in_two = λ c w. refl;
    })

pub actual_format : IsFormat actual_at (λ _. Unit {0}) actual_fields
unfolding actual_at
actual_format =
    seq (type_at) (λ _. Unit {0}) (type_fields) (λ code_type. truth_at >>= λ variable. type_at >>= λ array. truth_at >>= λ procedure. type_at >>= λ result_type. number_at >>= λ formals. number_at >>= λ class. done (record { code_type = code_type; variable = variable; array = array; procedure = procedure; result_type = result_type; formals = formals; class = class })) (λ (c : CodeActual). Unit {0}) (actual_fields) (λ (c : CodeActual). c.code_type) (λ (c : CodeActual). truth_field c.variable ∷ type_field c.array ∷ truth_field c.procedure ∷ type_field c.result_type ∷ Number c.formals ∷ Number c.class ∷ []) (record {
      first = type_format;
      then = λ code_type v0. seq (truth_at) (λ _. Unit {0}) (λ t. truth_field t ∷ []) (λ variable. type_at >>= λ array. truth_at >>= λ procedure. type_at >>= λ result_type. number_at >>= λ formals. number_at >>= λ class. done (record { code_type = code_type; variable = variable; array = array; procedure = procedure; result_type = result_type; formals = formals; class = class })) (λ (c : CodeActual). (Unit {0}) × (c.code_type ≡ code_type)) (λ (c : CodeActual). truth_field c.variable ∷ type_field c.array ∷ truth_field c.procedure ∷ type_field c.result_type ∷ Number c.formals ∷ Number c.class ∷ []) (λ (c : CodeActual). c.variable) (λ (c : CodeActual). type_field c.array ∷ truth_field c.procedure ∷ type_field c.result_type ∷ Number c.formals ∷ Number c.class ∷ []) (record {
        first = truth_format;
        then = λ variable v1. seq (type_at) (λ _. Unit {0}) (type_fields) (λ array. truth_at >>= λ procedure. type_at >>= λ result_type. number_at >>= λ formals. number_at >>= λ class. done (record { code_type = code_type; variable = variable; array = array; procedure = procedure; result_type = result_type; formals = formals; class = class })) (λ (c : CodeActual). ((Unit {0}) × (c.code_type ≡ code_type)) × (c.variable ≡ variable)) (λ (c : CodeActual). type_field c.array ∷ truth_field c.procedure ∷ type_field c.result_type ∷ Number c.formals ∷ Number c.class ∷ []) (λ (c : CodeActual). c.array) (λ (c : CodeActual). truth_field c.procedure ∷ type_field c.result_type ∷ Number c.formals ∷ Number c.class ∷ []) (record {
          first = type_format;
          then = λ array v2. seq (truth_at) (λ _. Unit {0}) (λ t. truth_field t ∷ []) (λ procedure. type_at >>= λ result_type. number_at >>= λ formals. number_at >>= λ class. done (record { code_type = code_type; variable = variable; array = array; procedure = procedure; result_type = result_type; formals = formals; class = class })) (λ (c : CodeActual). (((Unit {0}) × (c.code_type ≡ code_type)) × (c.variable ≡ variable)) × (c.array ≡ array)) (λ (c : CodeActual). truth_field c.procedure ∷ type_field c.result_type ∷ Number c.formals ∷ Number c.class ∷ []) (λ (c : CodeActual). c.procedure) (λ (c : CodeActual). type_field c.result_type ∷ Number c.formals ∷ Number c.class ∷ []) (record {
            first = truth_format;
            then = λ procedure v3. seq (type_at) (λ _. Unit {0}) (type_fields) (λ result_type. number_at >>= λ formals. number_at >>= λ class. done (record { code_type = code_type; variable = variable; array = array; procedure = procedure; result_type = result_type; formals = formals; class = class })) (λ (c : CodeActual). ((((Unit {0}) × (c.code_type ≡ code_type)) × (c.variable ≡ variable)) × (c.array ≡ array)) × (c.procedure ≡ procedure)) (λ (c : CodeActual). type_field c.result_type ∷ Number c.formals ∷ Number c.class ∷ []) (λ (c : CodeActual). c.result_type) (λ (c : CodeActual). Number c.formals ∷ Number c.class ∷ []) (record {
              first = type_format;
              then = λ result_type v4. seq (number_at) (λ _. Unit {0}) (λ n. Number n ∷ []) (λ formals. number_at >>= λ class. done (record { code_type = code_type; variable = variable; array = array; procedure = procedure; result_type = result_type; formals = formals; class = class })) (λ (c : CodeActual). (((((Unit {0}) × (c.code_type ≡ code_type)) × (c.variable ≡ variable)) × (c.array ≡ array)) × (c.procedure ≡ procedure)) × (c.result_type ≡ result_type)) (λ (c : CodeActual). Number c.formals ∷ Number c.class ∷ []) (λ (c : CodeActual). c.formals) (λ (c : CodeActual). Number c.class ∷ []) (record {
                first = number_format;
                then = λ formals v5. seq (number_at) (λ _. Unit {0}) (λ n. Number n ∷ []) (λ class. done (record { code_type = code_type; variable = variable; array = array; procedure = procedure; result_type = result_type; formals = formals; class = class })) (λ (c : CodeActual). ((((((Unit {0}) × (c.code_type ≡ code_type)) × (c.variable ≡ variable)) × (c.array ≡ array)) × (c.procedure ≡ procedure)) × (c.result_type ≡ result_type)) × (c.formals ≡ formals)) (λ (c : CodeActual). Number c.class ∷ []) (λ (c : CodeActual). c.class) (λ (c : CodeActual). []) (record {
                  first = number_format;
                  then = λ class v6. done_format (record { code_type = code_type; variable = variable; array = array; procedure = procedure; result_type = result_type; formals = formals; class = class }) (λ (c : CodeActual). (((((((Unit {0}) × (c.code_type ≡ code_type)) × (c.variable ≡ variable)) × (c.array ≡ array)) × (c.procedure ≡ procedure)) × (c.result_type ≡ result_type)) × (c.formals ≡ formals)) × (c.class ≡ class)) (((((((tt, refl), refl), refl), refl), refl), refl), refl) (λ c w. λ i. record { code_type = w.0.0.0.0.0.0.1 i; variable = w.0.0.0.0.0.1 i; array = w.0.0.0.0.1 i; procedure = w.0.0.0.1 i; result_type = w.0.0.1 i; formals = w.0.1 i; class = w.1 i });
                  part_valid = λ c w. tt;
                  in_two = λ c w. refl;
                });
                part_valid = λ c w. tt;
                in_two = λ c w. refl;
              });
              part_valid = λ c w. tt;
              in_two = λ c w. refl;
            });
            part_valid = λ c w. tt;
            in_two = λ c w. refl;
          });
          part_valid = λ c w. tt;
          in_two = λ c w. refl;
        });
        part_valid = λ c w. tt;
        in_two = λ c w. refl;
      });
      part_valid = λ c w. tt;
      in_two = λ c w. refl;
    })

pub list_format : IsFormat list_at (λ _. Unit {0}) list_fields
unfolding list_at
list_format = same_valid (section_at actual_at) (AllByRecursion (λ _. Unit {0})) (λ _. Unit {0}) list_fields (λ x h. tt) (λ x h. all_any x) (section_format actual_at (λ _. Unit {0}) actual_fields actual_format)

pub class_format : IsFormat class_at (λ _. Unit {0}) class_fields
unfolding class_at
class_format =
    seq (number_at) (λ _. Unit {0}) (λ n. Number n ∷ []) (λ prefix. number_at >>= λ block. number_at >>= λ declarations. number_at >>= λ statements. number_at >>= λ after_inner. truth_at >>= λ process. section_at match_at >>= λ matches. done (record { prefix = prefix; block = block; declarations = declarations; statements = statements; after_inner = after_inner; process = process; matches = matches })) (λ (c : ClassOf). Unit {0}) (class_fields) (λ (c : ClassOf). c.prefix) (λ (c : ClassOf). Number c.block ∷ Number c.declarations ∷ Number c.statements ∷ Number c.after_inner ∷ truth_field c.process ∷ section match_fields c.matches) (record {
      first = number_format;
      then = λ prefix v0. seq (number_at) (λ _. Unit {0}) (λ n. Number n ∷ []) (λ block. number_at >>= λ declarations. number_at >>= λ statements. number_at >>= λ after_inner. truth_at >>= λ process. section_at match_at >>= λ matches. done (record { prefix = prefix; block = block; declarations = declarations; statements = statements; after_inner = after_inner; process = process; matches = matches })) (λ (c : ClassOf). (Unit {0}) × (c.prefix ≡ prefix)) (λ (c : ClassOf). Number c.block ∷ Number c.declarations ∷ Number c.statements ∷ Number c.after_inner ∷ truth_field c.process ∷ section match_fields c.matches) (λ (c : ClassOf). c.block) (λ (c : ClassOf). Number c.declarations ∷ Number c.statements ∷ Number c.after_inner ∷ truth_field c.process ∷ section match_fields c.matches) (record {
        first = number_format;
        then = λ block v1. seq (number_at) (λ _. Unit {0}) (λ n. Number n ∷ []) (λ declarations. number_at >>= λ statements. number_at >>= λ after_inner. truth_at >>= λ process. section_at match_at >>= λ matches. done (record { prefix = prefix; block = block; declarations = declarations; statements = statements; after_inner = after_inner; process = process; matches = matches })) (λ (c : ClassOf). ((Unit {0}) × (c.prefix ≡ prefix)) × (c.block ≡ block)) (λ (c : ClassOf). Number c.declarations ∷ Number c.statements ∷ Number c.after_inner ∷ truth_field c.process ∷ section match_fields c.matches) (λ (c : ClassOf). c.declarations) (λ (c : ClassOf). Number c.statements ∷ Number c.after_inner ∷ truth_field c.process ∷ section match_fields c.matches) (record {
          first = number_format;
          then = λ declarations v2. seq (number_at) (λ _. Unit {0}) (λ n. Number n ∷ []) (λ statements. number_at >>= λ after_inner. truth_at >>= λ process. section_at match_at >>= λ matches. done (record { prefix = prefix; block = block; declarations = declarations; statements = statements; after_inner = after_inner; process = process; matches = matches })) (λ (c : ClassOf). (((Unit {0}) × (c.prefix ≡ prefix)) × (c.block ≡ block)) × (c.declarations ≡ declarations)) (λ (c : ClassOf). Number c.statements ∷ Number c.after_inner ∷ truth_field c.process ∷ section match_fields c.matches) (λ (c : ClassOf). c.statements) (λ (c : ClassOf). Number c.after_inner ∷ truth_field c.process ∷ section match_fields c.matches) (record {
            first = number_format;
            then = λ statements v3. seq (number_at) (λ _. Unit {0}) (λ n. Number n ∷ []) (λ after_inner. truth_at >>= λ process. section_at match_at >>= λ matches. done (record { prefix = prefix; block = block; declarations = declarations; statements = statements; after_inner = after_inner; process = process; matches = matches })) (λ (c : ClassOf). ((((Unit {0}) × (c.prefix ≡ prefix)) × (c.block ≡ block)) × (c.declarations ≡ declarations)) × (c.statements ≡ statements)) (λ (c : ClassOf). Number c.after_inner ∷ truth_field c.process ∷ section match_fields c.matches) (λ (c : ClassOf). c.after_inner) (λ (c : ClassOf). truth_field c.process ∷ section match_fields c.matches) (record {
              first = number_format;
              then = λ after_inner v4. seq (truth_at) (λ _. Unit {0}) (λ t. truth_field t ∷ []) (λ process. section_at match_at >>= λ matches. done (record { prefix = prefix; block = block; declarations = declarations; statements = statements; after_inner = after_inner; process = process; matches = matches })) (λ (c : ClassOf). (((((Unit {0}) × (c.prefix ≡ prefix)) × (c.block ≡ block)) × (c.declarations ≡ declarations)) × (c.statements ≡ statements)) × (c.after_inner ≡ after_inner)) (λ (c : ClassOf). truth_field c.process ∷ section match_fields c.matches) (λ (c : ClassOf). c.process) (λ (c : ClassOf). section match_fields c.matches) (record {
                first = truth_format;
                then = λ process v5. seq (section_at match_at) (AllByRecursion (λ _. Unit {0})) (section match_fields) (λ matches. done (record { prefix = prefix; block = block; declarations = declarations; statements = statements; after_inner = after_inner; process = process; matches = matches })) (λ (c : ClassOf). ((((((Unit {0}) × (c.prefix ≡ prefix)) × (c.block ≡ block)) × (c.declarations ≡ declarations)) × (c.statements ≡ statements)) × (c.after_inner ≡ after_inner)) × (c.process ≡ process)) (λ (c : ClassOf). section match_fields c.matches) (λ (c : ClassOf). c.matches) (λ (c : ClassOf). []) (record {
                  first = section_format match_at (λ _. Unit {0}) match_fields match_format;
                  then = λ matches v6. done_format (record { prefix = prefix; block = block; declarations = declarations; statements = statements; after_inner = after_inner; process = process; matches = matches }) (λ (c : ClassOf). (((((((Unit {0}) × (c.prefix ≡ prefix)) × (c.block ≡ block)) × (c.declarations ≡ declarations)) × (c.statements ≡ statements)) × (c.after_inner ≡ after_inner)) × (c.process ≡ process)) × (c.matches ≡ matches)) (((((((tt, refl), refl), refl), refl), refl), refl), refl) (λ c w. λ i. record { prefix = w.0.0.0.0.0.0.1 i; block = w.0.0.0.0.0.1 i; declarations = w.0.0.0.0.1 i; statements = w.0.0.0.1 i; after_inner = w.0.0.1 i; process = w.0.1 i; matches = w.1 i });
                  part_valid = λ c w. all_any c.matches;
                  in_two = λ c w. sym (append-nil (section match_fields c.matches));
                });
                part_valid = λ c w. tt;
                in_two = λ c w. refl;
              });
              part_valid = λ c w. tt;
              in_two = λ c w. refl;
            });
            part_valid = λ c w. tt;
            in_two = λ c w. refl;
          });
          part_valid = λ c w. tt;
          in_two = λ c w. refl;
        });
        part_valid = λ c w. tt;
        in_two = λ c w. refl;
      });
      part_valid = λ c w. tt;
      in_two = λ c w. refl;
    })

pub block_format : IsFormat block_at (λ c. HasTypes c) block_fields
unfolding block_at
block_format =
    seq (kind_at) (λ _. Unit {0}) (λ t. Listed 3 (kind_number t) ∷ []) (λ kind. number_at >>= λ level. number_at >>= λ cells. number_at >>= λ temps. number_at >>= λ room. number_at >>= λ entry. truth_at >>= λ class_free. type_at >>= λ result_type. number_at >>= λ class. number_at >>= λ count. records_at type_at (cells + temps) >>= λ types. records_at formal_at count >>= λ formals. done (record { kind = kind; level = level; cells = cells; temps = temps; room = room; entry = entry; class_free = class_free; result_type = result_type; class = class; types = types; formals = formals })) (λ (c : BlockOf). HasTypes c) (block_fields) (λ (c : BlockOf). c.kind) (λ (c : BlockOf). Number c.level ∷ Number c.cells ∷ Number c.temps ∷ Number c.room ∷ Number c.entry ∷ truth_field c.class_free ∷ type_field c.result_type ∷ Number c.class ∷ Number (length c.formals) ∷ (flat_map type_fields c.types ++ flat_map formal_fields c.formals)) (record {
      first = kind_format;
      then = λ kind v0. seq (number_at) (λ _. Unit {0}) (λ n. Number n ∷ []) (λ level. number_at >>= λ cells. number_at >>= λ temps. number_at >>= λ room. number_at >>= λ entry. truth_at >>= λ class_free. type_at >>= λ result_type. number_at >>= λ class. number_at >>= λ count. records_at type_at (cells + temps) >>= λ types. records_at formal_at count >>= λ formals. done (record { kind = kind; level = level; cells = cells; temps = temps; room = room; entry = entry; class_free = class_free; result_type = result_type; class = class; types = types; formals = formals })) (λ (c : BlockOf). (HasTypes c) × (c.kind ≡ kind)) (λ (c : BlockOf). Number c.level ∷ Number c.cells ∷ Number c.temps ∷ Number c.room ∷ Number c.entry ∷ truth_field c.class_free ∷ type_field c.result_type ∷ Number c.class ∷ Number (length c.formals) ∷ (flat_map type_fields c.types ++ flat_map formal_fields c.formals)) (λ (c : BlockOf). c.level) (λ (c : BlockOf). Number c.cells ∷ Number c.temps ∷ Number c.room ∷ Number c.entry ∷ truth_field c.class_free ∷ type_field c.result_type ∷ Number c.class ∷ Number (length c.formals) ∷ (flat_map type_fields c.types ++ flat_map formal_fields c.formals)) (record {
        first = number_format;
        then = λ level v1. seq (number_at) (λ _. Unit {0}) (λ n. Number n ∷ []) (λ cells. number_at >>= λ temps. number_at >>= λ room. number_at >>= λ entry. truth_at >>= λ class_free. type_at >>= λ result_type. number_at >>= λ class. number_at >>= λ count. records_at type_at (cells + temps) >>= λ types. records_at formal_at count >>= λ formals. done (record { kind = kind; level = level; cells = cells; temps = temps; room = room; entry = entry; class_free = class_free; result_type = result_type; class = class; types = types; formals = formals })) (λ (c : BlockOf). ((HasTypes c) × (c.kind ≡ kind)) × (c.level ≡ level)) (λ (c : BlockOf). Number c.cells ∷ Number c.temps ∷ Number c.room ∷ Number c.entry ∷ truth_field c.class_free ∷ type_field c.result_type ∷ Number c.class ∷ Number (length c.formals) ∷ (flat_map type_fields c.types ++ flat_map formal_fields c.formals)) (λ (c : BlockOf). c.cells) (λ (c : BlockOf). Number c.temps ∷ Number c.room ∷ Number c.entry ∷ truth_field c.class_free ∷ type_field c.result_type ∷ Number c.class ∷ Number (length c.formals) ∷ (flat_map type_fields c.types ++ flat_map formal_fields c.formals)) (record {
          first = number_format;
          then = λ cells v2. seq (number_at) (λ _. Unit {0}) (λ n. Number n ∷ []) (λ temps. number_at >>= λ room. number_at >>= λ entry. truth_at >>= λ class_free. type_at >>= λ result_type. number_at >>= λ class. number_at >>= λ count. records_at type_at (cells + temps) >>= λ types. records_at formal_at count >>= λ formals. done (record { kind = kind; level = level; cells = cells; temps = temps; room = room; entry = entry; class_free = class_free; result_type = result_type; class = class; types = types; formals = formals })) (λ (c : BlockOf). (((HasTypes c) × (c.kind ≡ kind)) × (c.level ≡ level)) × (c.cells ≡ cells)) (λ (c : BlockOf). Number c.temps ∷ Number c.room ∷ Number c.entry ∷ truth_field c.class_free ∷ type_field c.result_type ∷ Number c.class ∷ Number (length c.formals) ∷ (flat_map type_fields c.types ++ flat_map formal_fields c.formals)) (λ (c : BlockOf). c.temps) (λ (c : BlockOf). Number c.room ∷ Number c.entry ∷ truth_field c.class_free ∷ type_field c.result_type ∷ Number c.class ∷ Number (length c.formals) ∷ (flat_map type_fields c.types ++ flat_map formal_fields c.formals)) (record {
            first = number_format;
            then = λ temps v3. seq (number_at) (λ _. Unit {0}) (λ n. Number n ∷ []) (λ room. number_at >>= λ entry. truth_at >>= λ class_free. type_at >>= λ result_type. number_at >>= λ class. number_at >>= λ count. records_at type_at (cells + temps) >>= λ types. records_at formal_at count >>= λ formals. done (record { kind = kind; level = level; cells = cells; temps = temps; room = room; entry = entry; class_free = class_free; result_type = result_type; class = class; types = types; formals = formals })) (λ (c : BlockOf). ((((HasTypes c) × (c.kind ≡ kind)) × (c.level ≡ level)) × (c.cells ≡ cells)) × (c.temps ≡ temps)) (λ (c : BlockOf). Number c.room ∷ Number c.entry ∷ truth_field c.class_free ∷ type_field c.result_type ∷ Number c.class ∷ Number (length c.formals) ∷ (flat_map type_fields c.types ++ flat_map formal_fields c.formals)) (λ (c : BlockOf). c.room) (λ (c : BlockOf). Number c.entry ∷ truth_field c.class_free ∷ type_field c.result_type ∷ Number c.class ∷ Number (length c.formals) ∷ (flat_map type_fields c.types ++ flat_map formal_fields c.formals)) (record {
              first = number_format;
              then = λ room v4. seq (number_at) (λ _. Unit {0}) (λ n. Number n ∷ []) (λ entry. truth_at >>= λ class_free. type_at >>= λ result_type. number_at >>= λ class. number_at >>= λ count. records_at type_at (cells + temps) >>= λ types. records_at formal_at count >>= λ formals. done (record { kind = kind; level = level; cells = cells; temps = temps; room = room; entry = entry; class_free = class_free; result_type = result_type; class = class; types = types; formals = formals })) (λ (c : BlockOf). (((((HasTypes c) × (c.kind ≡ kind)) × (c.level ≡ level)) × (c.cells ≡ cells)) × (c.temps ≡ temps)) × (c.room ≡ room)) (λ (c : BlockOf). Number c.entry ∷ truth_field c.class_free ∷ type_field c.result_type ∷ Number c.class ∷ Number (length c.formals) ∷ (flat_map type_fields c.types ++ flat_map formal_fields c.formals)) (λ (c : BlockOf). c.entry) (λ (c : BlockOf). truth_field c.class_free ∷ type_field c.result_type ∷ Number c.class ∷ Number (length c.formals) ∷ (flat_map type_fields c.types ++ flat_map formal_fields c.formals)) (record {
                first = number_format;
                then = λ entry v5. seq (truth_at) (λ _. Unit {0}) (λ t. truth_field t ∷ []) (λ class_free. type_at >>= λ result_type. number_at >>= λ class. number_at >>= λ count. records_at type_at (cells + temps) >>= λ types. records_at formal_at count >>= λ formals. done (record { kind = kind; level = level; cells = cells; temps = temps; room = room; entry = entry; class_free = class_free; result_type = result_type; class = class; types = types; formals = formals })) (λ (c : BlockOf). ((((((HasTypes c) × (c.kind ≡ kind)) × (c.level ≡ level)) × (c.cells ≡ cells)) × (c.temps ≡ temps)) × (c.room ≡ room)) × (c.entry ≡ entry)) (λ (c : BlockOf). truth_field c.class_free ∷ type_field c.result_type ∷ Number c.class ∷ Number (length c.formals) ∷ (flat_map type_fields c.types ++ flat_map formal_fields c.formals)) (λ (c : BlockOf). c.class_free) (λ (c : BlockOf). type_field c.result_type ∷ Number c.class ∷ Number (length c.formals) ∷ (flat_map type_fields c.types ++ flat_map formal_fields c.formals)) (record {
                  first = truth_format;
                  then = λ class_free v6. seq (type_at) (λ _. Unit {0}) (type_fields) (λ result_type. number_at >>= λ class. number_at >>= λ count. records_at type_at (cells + temps) >>= λ types. records_at formal_at count >>= λ formals. done (record { kind = kind; level = level; cells = cells; temps = temps; room = room; entry = entry; class_free = class_free; result_type = result_type; class = class; types = types; formals = formals })) (λ (c : BlockOf). (((((((HasTypes c) × (c.kind ≡ kind)) × (c.level ≡ level)) × (c.cells ≡ cells)) × (c.temps ≡ temps)) × (c.room ≡ room)) × (c.entry ≡ entry)) × (c.class_free ≡ class_free)) (λ (c : BlockOf). type_field c.result_type ∷ Number c.class ∷ Number (length c.formals) ∷ (flat_map type_fields c.types ++ flat_map formal_fields c.formals)) (λ (c : BlockOf). c.result_type) (λ (c : BlockOf). Number c.class ∷ Number (length c.formals) ∷ (flat_map type_fields c.types ++ flat_map formal_fields c.formals)) (record {
                    first = type_format;
                    then = λ result_type v7. seq (number_at) (λ _. Unit {0}) (λ n. Number n ∷ []) (λ class. number_at >>= λ count. records_at type_at (cells + temps) >>= λ types. records_at formal_at count >>= λ formals. done (record { kind = kind; level = level; cells = cells; temps = temps; room = room; entry = entry; class_free = class_free; result_type = result_type; class = class; types = types; formals = formals })) (λ (c : BlockOf). ((((((((HasTypes c) × (c.kind ≡ kind)) × (c.level ≡ level)) × (c.cells ≡ cells)) × (c.temps ≡ temps)) × (c.room ≡ room)) × (c.entry ≡ entry)) × (c.class_free ≡ class_free)) × (c.result_type ≡ result_type)) (λ (c : BlockOf). Number c.class ∷ Number (length c.formals) ∷ (flat_map type_fields c.types ++ flat_map formal_fields c.formals)) (λ (c : BlockOf). c.class) (λ (c : BlockOf). Number (length c.formals) ∷ (flat_map type_fields c.types ++ flat_map formal_fields c.formals)) (record {
                      first = number_format;
                      then = λ class v8. seq (number_at) (λ _. Unit {0}) (λ n. Number n ∷ []) (λ count. records_at type_at (cells + temps) >>= λ types. records_at formal_at count >>= λ formals. done (record { kind = kind; level = level; cells = cells; temps = temps; room = room; entry = entry; class_free = class_free; result_type = result_type; class = class; types = types; formals = formals })) (λ (c : BlockOf). (((((((((HasTypes c) × (c.kind ≡ kind)) × (c.level ≡ level)) × (c.cells ≡ cells)) × (c.temps ≡ temps)) × (c.room ≡ room)) × (c.entry ≡ entry)) × (c.class_free ≡ class_free)) × (c.result_type ≡ result_type)) × (c.class ≡ class)) (λ (c : BlockOf). Number (length c.formals) ∷ (flat_map type_fields c.types ++ flat_map formal_fields c.formals)) (λ (c : BlockOf). length c.formals) (λ (c : BlockOf). (flat_map type_fields c.types ++ flat_map formal_fields c.formals)) (record {
                        first = number_format;
                        then = λ count v9. seq (records_at type_at (cells + temps)) (Several (λ _. Unit {0}) (cells + temps)) (flat_map type_fields) (λ types. records_at formal_at count >>= λ formals. done (record { kind = kind; level = level; cells = cells; temps = temps; room = room; entry = entry; class_free = class_free; result_type = result_type; class = class; types = types; formals = formals })) (λ (c : BlockOf). ((((((((((HasTypes c) × (c.kind ≡ kind)) × (c.level ≡ level)) × (c.cells ≡ cells)) × (c.temps ≡ temps)) × (c.room ≡ room)) × (c.entry ≡ entry)) × (c.class_free ≡ class_free)) × (c.result_type ≡ result_type)) × (c.class ≡ class)) × (length c.formals ≡ count)) (λ (c : BlockOf). (flat_map type_fields c.types ++ flat_map formal_fields c.formals)) (λ (c : BlockOf). c.types) (λ (c : BlockOf). flat_map formal_fields c.formals) (record {
                          first = records_format type_at (λ _. Unit {0}) type_fields type_format (cells + temps);
                          then = λ types v10. seq (records_at formal_at count) (Several (λ _. Unit {0}) count) (flat_map formal_fields) (λ formals. done (record { kind = kind; level = level; cells = cells; temps = temps; room = room; entry = entry; class_free = class_free; result_type = result_type; class = class; types = types; formals = formals })) (λ (c : BlockOf). (((((((((((HasTypes c) × (c.kind ≡ kind)) × (c.level ≡ level)) × (c.cells ≡ cells)) × (c.temps ≡ temps)) × (c.room ≡ room)) × (c.entry ≡ entry)) × (c.class_free ≡ class_free)) × (c.result_type ≡ result_type)) × (c.class ≡ class)) × (length c.formals ≡ count)) × (c.types ≡ types)) (λ (c : BlockOf). flat_map formal_fields c.formals) (λ (c : BlockOf). c.formals) (λ (c : BlockOf). []) (record {
                            first = records_format formal_at (λ _. Unit {0}) formal_fields formal_format count;
                            then = λ formals v11. done_format (record { kind = kind; level = level; cells = cells; temps = temps; room = room; entry = entry; class_free = class_free; result_type = result_type; class = class; types = types; formals = formals }) (λ (c : BlockOf). ((((((((((((HasTypes c) × (c.kind ≡ kind)) × (c.level ≡ level)) × (c.cells ≡ cells)) × (c.temps ≡ temps)) × (c.room ≡ room)) × (c.entry ≡ entry)) × (c.class_free ≡ class_free)) × (c.result_type ≡ result_type)) × (c.class ≡ class)) × (length c.formals ≡ count)) × (c.types ≡ types)) × (c.formals ≡ formals)) ((((((((((((v10.1, refl), refl), refl), refl), refl), refl), refl), refl), refl), v11.1), refl), refl) (λ c w. λ i. record { kind = w.0.0.0.0.0.0.0.0.0.0.0.1 i; level = w.0.0.0.0.0.0.0.0.0.0.1 i; cells = w.0.0.0.0.0.0.0.0.0.1 i; temps = w.0.0.0.0.0.0.0.0.1 i; room = w.0.0.0.0.0.0.0.1 i; entry = w.0.0.0.0.0.0.1 i; class_free = w.0.0.0.0.0.1 i; result_type = w.0.0.0.0.1 i; class = w.0.0.0.1 i; types = w.0.1 i; formals = w.1 i });
                            part_valid = λ c w. (all_any c.formals, w.0.1);
                            in_two = λ c w. sym (append-nil (flat_map formal_fields c.formals));
                          });
                          part_valid = λ c w. (all_any c.types, omega (arith, w.0.0.0.0.0.0.0.0.0.0, w.0.0.0.0.0.0.0.1, w.0.0.0.0.0.0.1));
                          in_two = λ c w. refl;
                        });
                        part_valid = λ c w. tt;
                        in_two = λ c w. refl;
                      });
                      part_valid = λ c w. tt;
                      in_two = λ c w. refl;
                    });
                    part_valid = λ c w. tt;
                    in_two = λ c w. refl;
                  });
                  part_valid = λ c w. tt;
                  in_two = λ c w. refl;
                });
                part_valid = λ c w. tt;
                in_two = λ c w. refl;
              });
              part_valid = λ c w. tt;
              in_two = λ c w. refl;
            });
            part_valid = λ c w. tt;
            in_two = λ c w. refl;
          });
          part_valid = λ c w. tt;
          in_two = λ c w. refl;
        });
        part_valid = λ c w. tt;
        in_two = λ c w. refl;
      });
      part_valid = λ c w. tt;
      in_two = λ c w. refl;
    })
