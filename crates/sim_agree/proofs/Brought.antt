-- What a standard prefix in front of a class or a block adds to its tables: behind its block those of its classes, and behind its declarations
-- theirs and those of their attributes.
use Rattle.std.proofs.Common.{◌≡◌, ◌<◌, ◌+◌, ◌⊎◌, inl, inr, ℕ, zero, suc, Bool, true, false, List, [], ◌∷◌, ◌++◌, length, Option, Some, None, refl, ap, ◌∙◌, arith, append_assoc, if◌then◌else◌}
use Rattle.std.specs.Prelude.{slice_get, slice_set}
use Rattle.std.specs.List.{list_any}
use Rattle.std.specs.Str.{bytes_eq}
use Rattle.std.proofs.lemmas.List.{length-append, length-set}
use Rattle.sim_base.specs.declared.numbering.DeclNo.{DeclNo}
use Rattle.sim_scope.specs.declared.scopes.Declaration.{Declaration}
use Rattle.sim_scope.specs.declared.types.Entry.TheVariants as entry
use Rattle.sim_scope.specs.declared.types.StandardClass.{StandardClass}
use Rattle.sim_scope.specs.Building.{Brings, BuildingOf, Mark, Provides, attribute_entry, brings, brings_at, brings_new, class_row, first_brought, marked, name_of, place_of, provided_alone, provided_at, provided_in, provides, provides_in, standard_row, with_brought, with_name}
use Rattle.sim_scope.specs.Runs.{run}
use Rattle.sim_scope.specs.Standard.{attribute_name}
use Rattle.sim_scope.specs.Tables.{BlockOf}
use Rattle.sim_scope.proofs.Kept.{set_here}
use Rattle.sim_values.specs.declared.standard.Standard.{Standard}

-- ---- lists

pub front_get : {A : Type 0} (xs ys : List A) (n : ℕ) → n < length xs → slice_get (xs ++ ys) n ≡ slice_get xs n
front_get [] ys n lt = absurd (omega arith)
front_get (x ∷ xs) ys zero lt = refl
front_get (x ∷ xs) ys (suc n) lt = front_get xs ys n (let e : length (x ∷ xs) ≡ suc (length xs) = omega arith in omega arith)

pub behind_get : {A : Type 0} (xs ys : List A) (n : ℕ) → slice_get (xs ++ ys) (length xs + n) ≡ slice_get ys n
behind_get {A = A} [] ys n = let e : length {A = A} [] + n ≡ n = omega arith in ap (slice_get ys) e
behind_get (x ∷ xs) ys n = let e : length (x ∷ xs) + n ≡ suc (length xs + n) = omega arith in ap (slice_get (x ∷ (xs ++ ys))) e ∙ behind_get xs ys n

pub front_set : {A : Type 0} (xs ys : List A) (n : ℕ) (y : A) → n < length xs → slice_set (xs ++ ys) n y ≡ slice_set xs n y ++ ys
front_set [] ys n y lt = absurd (omega arith)
front_set (x ∷ xs) ys zero y lt = refl
front_set (x ∷ xs) ys (suc n) y lt = ap (λ z. x ∷ z) (front_set xs ys n y (let e : length (x ∷ xs) ≡ suc (length xs) = omega arith in omega arith))

pub behind_set : {A : Type 0} (xs ys : List A) (n : ℕ) (y : A) → slice_set (xs ++ ys) (length xs + n) y ≡ xs ++ slice_set ys n y
behind_set {A = A} [] ys n y = let e : length {A = A} [] + n ≡ n = omega arith in ap (λ m. slice_set ys m y) e
behind_set (x ∷ xs) ys n y = let e : length (x ∷ xs) + n ≡ suc (length xs + n) = omega arith in ap (λ m. slice_set (x ∷ (xs ++ ys)) m y) e ∙ ap (λ z. x ∷ z) (behind_set xs ys n y)

pub set_twice : {A : Type 0} (xs : List A) (n : ℕ) (x y : A) → slice_set (slice_set xs n x) n y ≡ slice_set xs n y
set_twice [] n x y = refl
set_twice (z ∷ xs) zero x y = refl
set_twice (z ∷ xs) (suc n) x y = ap (λ w. z ∷ w) (set_twice xs n x y)

pub set_same : {A : Type 0} (xs : List A) (n : ℕ) (x : A) → slice_get xs n ≡ Some x → slice_set xs n x ≡ xs
set_same [] n x e = refl
set_same (y ∷ xs) zero x e = ap (λ z. z ∷ xs) (let f : x ≡ y = cc in f)
set_same (y ∷ xs) (suc n) x e = ap (λ z. y ∷ z) (set_same xs n x e)

-- what is found in two lists is found in the first, or in the second
pub parts_get : {A : Type 0} (xs ys : List A) (n : ℕ) (y : A) → slice_get (xs ++ ys) n ≡ Some y → ((n < length xs) × (slice_get xs n ≡ Some y)) ⊎ ((i : ℕ) × (n ≡ length xs + i) × (slice_get ys i ≡ Some y))
parts_get {A = A} [] ys n y e = inr (n, (let z : n ≡ length {A = A} [] + n = omega arith in z), e)
parts_get (x ∷ xs) ys zero y e = inl ((let z : length (x ∷ xs) ≡ suc (length xs) = omega arith in omega arith), e)
parts_get {A = A} (x ∷ xs) ys (suc n) y e = go (parts_get xs ys n y e)
  where
    go : ((n < length xs) × (slice_get xs n ≡ Some y)) ⊎ ((i : ℕ) × (n ≡ length xs + i) × (slice_get ys i ≡ Some y)) → ((suc n < length (x ∷ xs)) × (slice_get (x ∷ xs) (suc n) ≡ Some y)) ⊎ ((i : ℕ) × (suc n ≡ length (x ∷ xs) + i) × (slice_get ys i ≡ Some y))
    go (inl q) = let lt : n < length xs = q.0 in inl ((let l : length (x ∷ xs) ≡ suc (length xs) = omega arith in omega arith), q.1)
    go (inr q) = let s : n ≡ length xs + q.0 = q.1 in inr (q.0, (let l : length (x ∷ xs) ≡ suc (length xs) = omega arith in omega arith), q.2)

-- ---- one mark after the other

-- what is added so far: the row of the block in front, the rows behind its block, and what is declared
pub record Adding : Type 0 where
  pub row : BlockOf
  pub rows : List BlockOf
  pub declarations : List Declaration

-- block n, where the next declaration has a number
module _ (n next : ℕ) where
  abbrev pub number : List Declaration → DeclNo
  number es = record { 0 = next + length es }

  abbrev brings_on : Bool → StandardClass → (token : ℕ) → Adding → Adding
  brings_on true which token a = a
  brings_on false which token a = record {
    row = with_brought (name_of which) (number a.declarations) a.row;
    rows = a.rows ++ class_row which n a.row (number a.declarations) ∷ [];
    declarations = a.declarations ++ standard_row (name_of which) token n (entry.Class (n + 1 + length a.rows)) false ∷ [];
  }

  abbrev provides_in_class : Bool → (place : ℕ) → Standard → (token : ℕ) → (first : Option DeclNo) → BlockOf → Adding → Adding
  provides_in_class true place name token first q a = a
  provides_in_class false place name token first q a = record {
    row = a.row;
    rows = slice_set a.rows place (with_name q (attribute_name name) (number a.declarations));
    declarations = a.declarations ++ standard_row (attribute_name name) token (n + 1 + place) (attribute_entry first name) true ∷ [];
  }

  abbrev provides_there : (place : ℕ) → Standard → (token : ℕ) → (first : Option DeclNo) → Option BlockOf → Adding → Adding
  provides_there place name token first None a = a
  provides_there place name token first (Some q) a = provides_in_class (list_any (bytes_eq (attribute_name name)) q.names) place name token first q a

  abbrev provides_alone : Bool → Standard → (token : ℕ) → (first : Option DeclNo) → Adding → Adding
  provides_alone true name token first a = a
  provides_alone false name token first a = record {
    row = with_brought (attribute_name name) (number a.declarations) a.row;
    rows = a.rows;
    declarations = a.declarations ++ standard_row (attribute_name name) token n (attribute_entry first name) false ∷ [];
  }

  abbrev pub adding : Adding → Mark → Adding
  adding a (Brings which token) = brings_on (list_any (bytes_eq (name_of which)) a.row.brought_names) which token a
  adding a (Provides (Some which) name token) = provides_there (place_of which) name token (slice_get a.row.brought 0) (slice_get a.rows (place_of which)) a
  adding a (Provides None name token) = provides_alone (list_any (bytes_eq (attribute_name name)) a.row.brought_names) name token (slice_get a.row.brought 0) a
  adding a _ = a

-- marks of these kinds alone
abbrev pub AllBring : List Mark → Type 0
AllBring [] = Unit {0}
AllBring (Brings which token ∷ ms) = AllBring ms
AllBring (Provides which name token ∷ ms) = AllBring ms
AllBring _ = ⊥

-- ---- they do so to the tables

module _ (b : BuildingOf) (n : ℕ) (cur : b.current ≡ Some n) (last : length b.tables.blocks ≡ n + 1) (old : BlockOf) (at : slice_get b.tables.blocks n ≡ Some old) where
  abbrev pub behind : Adding → BuildingOf
  behind a = record b { tables = record b.tables { blocks = slice_set b.tables.blocks n a.row ++ a.rows; declarations = b.tables.declarations ++ a.declarations } }

  -- where the next declaration is behind those
  next_number : (a : Adding) → (let d : DeclNo = record { 0 = length (b.tables.declarations ++ a.declarations) } in d) ≡ number n (length b.tables.declarations) a.declarations
  next_number a = ap (λ m. let d : DeclNo = record { 0 = m } in d) (length-append b.tables.declarations a.declarations)

  front : (a : Adding) → length (slice_set b.tables.blocks n a.row) ≡ n + 1
  front a = length-set b.tables.blocks n a.row ∙ last

  row_at : (a : Adding) → slice_get (slice_set b.tables.blocks n a.row ++ a.rows) n ≡ Some a.row
  row_at a =
      let l : length (slice_set b.tables.blocks n a.row) ≡ n + 1 = front a in
      front_get (slice_set b.tables.blocks n a.row) a.rows n (omega arith) ∙ set_here b.tables.blocks n old a.row at

  size_at : (a : Adding) → length (slice_set b.tables.blocks n a.row ++ a.rows) ≡ n + 1 + length a.rows
  size_at a =
      let l : length (slice_set b.tables.blocks n a.row) ≡ n + 1 = front a in
      let k : length (slice_set b.tables.blocks n a.row ++ a.rows) ≡ length (slice_set b.tables.blocks n a.row) + length a.rows = length-append (slice_set b.tables.blocks n a.row) a.rows in omega arith

  -- the row of the block, with others behind it
  reset : (a : Adding) (x : BlockOf) → slice_set (slice_set b.tables.blocks n a.row ++ a.rows) n x ≡ slice_set b.tables.blocks n x ++ a.rows
  reset a x =
      let l : length (slice_set b.tables.blocks n a.row) ≡ n + 1 = front a in
      front_set (slice_set b.tables.blocks n a.row) a.rows n x (omega arith) ∙ ap (λ z. z ++ a.rows) (set_twice b.tables.blocks n a.row x)

  abbrev made : List BlockOf → List Declaration → BuildingOf
  made bs ds = record b { tables = record b.tables { blocks = bs; declarations = ds } }

  -- a class more
  brings_step : (which : StandardClass) (token : ℕ) (a : Adding) → marked (behind a) (Brings which token) ≡ behind (adding n (length b.tables.declarations) a (Brings which token))
  unfolding marked
  brings_step which token a = ap (brings (behind a) which token) cur ∙ ap (brings_at (behind a) which token n) (row_at a) ∙ go (list_any (bytes_eq (name_of which)) a.row.brought_names)
    where
      with_number : DeclNo → ℕ → BuildingOf
      with_number d m = made (slice_set (slice_set b.tables.blocks n a.row ++ a.rows) n (with_brought (name_of which) d a.row) ++ class_row which n a.row d ∷ []) ((b.tables.declarations ++ a.declarations) ++ standard_row (name_of which) token n (entry.Class m) false ∷ [])

      go : (c : Bool) → (if c then behind a else brings_new (behind a) which token n a.row) ≡ behind (brings_on n (length b.tables.declarations) c which token a)
      go true = refl
      go false =
          let d : DeclNo = number n (length b.tables.declarations) a.declarations in
          ap (λ z. with_number z (length (slice_set b.tables.blocks n a.row ++ a.rows))) (next_number a) ∙ ap (with_number d) (size_at a)
          ∙ ap (λ z. made (z ++ class_row which n a.row d ∷ []) ((b.tables.declarations ++ a.declarations) ++ standard_row (name_of which) token n (entry.Class (n + 1 + length a.rows)) false ∷ [])) (reset a (with_brought (name_of which) d a.row))
          ∙ ap (λ z. made z ((b.tables.declarations ++ a.declarations) ++ standard_row (name_of which) token n (entry.Class (n + 1 + length a.rows)) false ∷ [])) (append_assoc (slice_set b.tables.blocks n (with_brought (name_of which) d a.row)) a.rows (class_row which n a.row d ∷ []))
          ∙ ap (made (slice_set b.tables.blocks n (with_brought (name_of which) d a.row) ++ (a.rows ++ class_row which n a.row d ∷ []))) (append_assoc b.tables.declarations a.declarations (standard_row (name_of which) token n (entry.Class (n + 1 + length a.rows)) false ∷ []))

  first_is : (a : Adding) → first_brought (slice_get (slice_set b.tables.blocks n a.row ++ a.rows) n) ≡ slice_get a.row.brought 0
  first_is a = ap first_brought (row_at a)

  -- an attribute of a class more
  provides_step : (which : StandardClass) (name : Standard) (token : ℕ) (a : Adding) → marked (behind a) (Provides (Some which) name token) ≡ behind (adding n (length b.tables.declarations) a (Provides (Some which) name token))
  unfolding marked
  provides_step which name token a =
      ap (provides (behind a) (Some which) name token) cur ∙ ap (provides_in (behind a) (Some which) name token n) (first_is a)
      ∙ ap (provided_in (behind a) name token first (n + 1 + place_of which)) here ∙ there (slice_get a.rows (place_of which))
    where
      first : Option DeclNo
      first = slice_get a.row.brought 0

      place : n + 1 + place_of which ≡ length (slice_set b.tables.blocks n a.row) + place_of which
      place = let l : length (slice_set b.tables.blocks n a.row) ≡ n + 1 = front a in omega arith

      here : slice_get (slice_set b.tables.blocks n a.row ++ a.rows) (n + 1 + place_of which) ≡ slice_get a.rows (place_of which)
      here = ap (slice_get (slice_set b.tables.blocks n a.row ++ a.rows)) place ∙ behind_get (slice_set b.tables.blocks n a.row) a.rows (place_of which)

      row : Declaration
      row = standard_row (attribute_name name) token (n + 1 + place_of which) (attribute_entry first name) true

      go : (q : BlockOf) (c : Bool) → (if c then behind a else provided_at (behind a) (with_name q (attribute_name name) (record { 0 = length (b.tables.declarations ++ a.declarations) })) name token first (n + 1 + place_of which) true)
          ≡ behind (provides_in_class n (length b.tables.declarations) c (place_of which) name token first q a)
      go q true = refl
      go q false =
          let d : DeclNo = number n (length b.tables.declarations) a.declarations in
          ap (λ (z : DeclNo). made (slice_set (slice_set b.tables.blocks n a.row ++ a.rows) (n + 1 + place_of which) (with_name q (attribute_name name) z)) ((b.tables.declarations ++ a.declarations) ++ row ∷ [])) (next_number a)
          ∙ ap (λ z. made z ((b.tables.declarations ++ a.declarations) ++ row ∷ []))
          (ap (λ m. slice_set (slice_set b.tables.blocks n a.row ++ a.rows) m (with_name q (attribute_name name) d)) place ∙ behind_set (slice_set b.tables.blocks n a.row) a.rows (place_of which) (with_name q (attribute_name name) d))
          ∙ ap (made (slice_set b.tables.blocks n a.row ++ slice_set a.rows (place_of which) (with_name q (attribute_name name) d))) (append_assoc b.tables.declarations a.declarations (row ∷ []))

      there : (o : Option BlockOf) → provided_in (behind a) name token first (n + 1 + place_of which) o ≡ behind (provides_there n (length b.tables.declarations) (place_of which) name token first o a)
      there None = refl
      there (Some q) = go q (list_any (bytes_eq (attribute_name name)) q.names)

  -- one of `simulation` itself
  alone_step : (name : Standard) (token : ℕ) (a : Adding) → marked (behind a) (Provides None name token) ≡ behind (adding n (length b.tables.declarations) a (Provides None name token))
  unfolding marked
  alone_step name token a =
      ap (provides (behind a) None name token) cur ∙ ap (provides_in (behind a) None name token n) (first_is a)
      ∙ ap (provided_alone (behind a) name token first n) (row_at a) ∙ go (list_any (bytes_eq (attribute_name name)) a.row.brought_names)
    where
      first : Option DeclNo
      first = slice_get a.row.brought 0

      row : Declaration
      row = standard_row (attribute_name name) token n (attribute_entry first name) false

      go : (c : Bool) → (if c then behind a else provided_at (behind a) (with_brought (attribute_name name) (record { 0 = length (b.tables.declarations ++ a.declarations) }) a.row) name token first n false)
          ≡ behind (provides_alone n (length b.tables.declarations) c name token first a)
      go true = refl
      go false =
          let d : DeclNo = number n (length b.tables.declarations) a.declarations in
          ap (λ (z : DeclNo). made (slice_set (slice_set b.tables.blocks n a.row ++ a.rows) n (with_brought (attribute_name name) z a.row)) ((b.tables.declarations ++ a.declarations) ++ row ∷ [])) (next_number a)
          ∙ ap (λ z. made z ((b.tables.declarations ++ a.declarations) ++ row ∷ [])) (reset a (with_brought (attribute_name name) d a.row))
          ∙ ap (made (slice_set b.tables.blocks n (with_brought (attribute_name name) d a.row) ++ a.rows)) (append_assoc b.tables.declarations a.declarations (row ∷ []))

  pub all_added : (ms : List Mark) → AllBring ms → (a : Adding) → run marked (behind a) ms ≡ behind (run (adding n (length b.tables.declarations)) a ms)
  unfolding run
  all_added [] q a = refl
  all_added (Brings which token ∷ ms) q a = ap (λ z. run marked z ms) (brings_step which token a) ∙ all_added ms q (adding n (length b.tables.declarations) a (Brings which token))
  all_added (Provides (Some which) name token ∷ ms) q a = ap (λ z. run marked z ms) (provides_step which name token a) ∙ all_added ms q (adding n (length b.tables.declarations) a (Provides (Some which) name token))
  all_added (Provides None name token ∷ ms) q a = ap (λ z. run marked z ms) (alone_step name token a) ∙ all_added ms q (adding n (length b.tables.declarations) a (Provides None name token))
  all_added _ q a = absurd q
