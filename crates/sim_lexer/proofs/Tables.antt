-- Walks along tables of spellings.
use Rattle.std.proofs.Common.{◌≡◌, ◌<◌, ◌≤◌, ◌+◌, Bool, true, false, if◌then◌else◌, ℕ, List, [], ◌∷◌, Option, Some, refl, sym, ap, ◌∙◌, drop, length, map, Bor}
use Rattle.std.proofs.Math.Dec.{eqb-suc-suc}
use Rattle.std.proofs.lemmas.List.{drop_more, drop_all}
use Rattle.std.specs.Prelude.{slice_index, slice_index_or, nat_eq, ◌&&◌}
use Rattle.std.specs.List.{starts_with}
use Rattle.std.specs.Str.{bytes_eq}
use Rattle.sim_base.specs.declared.token.TokenKind.{TokenKind}
use Rattle.sim_lexer.specs.Words.{Row, keyword, keywords, look_up}

-- a row as the code has it, and tables of such rows as the definitions have them
abbrev pub Written : Type 0
Written = Bor (List ℕ) × TokenKind

abbrev pub row_of : Written → Row
row_of row = (row.0.now, row.1)

abbrev pub table_of : List Written → List Row
table_of rows = map row_of rows

-- the first rows do not change the answer
unfoldable pub Passed : {A : Type 0} → (List Row → A) → List Written → ℕ → Type 0
Passed answer rows i = answer (table_of rows) ≡ answer (table_of (drop i rows))

pub passed_none : {A : Type 0} (answer : List Row → A) (rows : List Written) → Passed answer rows 0
unfolding Passed
passed_none answer rows = refl

at_row : {A : Type 0} (answer : List Row → A) (rows : List Written) (i : ℕ) (r : Written) → Passed answer rows i → i < length rows
    → answer (table_of rows) ≡ answer (row_of (slice_index_or rows i r) ∷ table_of (drop (i + 1) rows))
unfolding Passed
at_row answer rows i r so_far le = so_far ∙ ap (λ l. answer (table_of l)) (drop_more rows i r le)

-- the row that is next gives the answer
pub given_here : {A : Type 0} (answer : List Row → A) (rows : List Written) (i : ℕ) (r : Written) (here : A) (c fits : Bool) → Passed answer rows i → i < length rows
    → answer (row_of (slice_index_or rows i r) ∷ table_of (drop (i + 1) rows)) ≡ (if fits then here else answer (table_of (drop (i + 1) rows)))
    → c ≡ fits → c ≡ true → answer (table_of rows) ≡ here
given_here answer rows i r here c fits so_far le row is holds =
    at_row answer rows i r so_far le ∙ row ∙ ap (λ b. if b then here else answer (table_of (drop (i + 1) rows))) (sym is ∙ holds)

-- the rows behind the next one give the answer
pub given_behind : {A : Type 0} (answer : List Row → A) (rows : List Written) (i : ℕ) (r : Written) (here : A) (c fits : Bool) → Passed answer rows i → i < length rows
    → answer (row_of (slice_index_or rows i r) ∷ table_of (drop (i + 1) rows)) ≡ (if fits then here else answer (table_of (drop (i + 1) rows)))
    → c ≡ fits → c ≡ false → Passed answer rows (i + 1)
unfolding Passed
given_behind answer rows i r here c fits so_far le row is fails =
    at_row answer rows i r so_far le ∙ row ∙ ap (λ b. if b then here else answer (table_of (drop (i + 1) rows))) (sym is ∙ fails)

pub given_at_end : {A : Type 0} (answer : List Row → A) (rows : List Written) (i : ℕ) → Passed answer rows i → length rows ≤ i → answer (table_of rows) ≡ answer []
unfolding Passed
given_at_end answer rows i so_far le = so_far ∙ ap (λ l. answer (table_of l)) (drop_all i rows le)

-- the rows of so many letters
abbrev pub of_length : ℕ → List Row → List Row
of_length letters [] = []
of_length letters (row ∷ rows) = if nat_eq (length row.0) letters then row ∷ of_length letters rows else of_length letters rows

-- words of which the lengths differ are not the same
other_length : (word other : List ℕ) → nat_eq (length other) (length word) ≡ false → bytes_eq word other ≡ false
other_length [] [] differs = differs
other_length [] (y ∷ other) differs = refl
other_length (x ∷ word) [] differs = refl
other_length (x ∷ word) (y ∷ other) differs = ap (λ b. nat_eq x y && b) (other_length word other (sym (eqb-suc-suc (length other) (length word)) ∙ differs)) ∙ never (nat_eq x y)
  where
    never : (b : Bool) → (b && false) ≡ false
    never true = refl
    never false = refl

-- a word is looked up among those of its length
among_its_length : (rows : List Row) (word : List ℕ) → look_up rows word ≡ look_up (of_length (length word) rows) word
among_its_length [] word = refl
among_its_length (row ∷ rows) word = by_length (nat_eq (length row.0) (length word)) refl (among_its_length rows word)
  where
    by_length : (b : Bool) → nat_eq (length row.0) (length word) ≡ b → look_up rows word ≡ look_up (of_length (length word) rows) word
        → look_up (row ∷ rows) word ≡ look_up (if b then row ∷ of_length (length word) rows else of_length (length word) rows) word
    by_length true same behind = ap (λ found. if bytes_eq word row.0 then Some row.1 else found) behind
    by_length false differs behind = ap (λ b. if b then Some row.1 else look_up rows word) (other_length word row.0 differs) ∙ behind

pub keyword_of_length : (word : List ℕ) (letters : ℕ) (found : Option TokenKind) → length word ≡ letters → found ≡ look_up (of_length letters keywords) word → found ≡ keyword word
unfolding keyword
keyword_of_length word letters found size is = is ∙ ap (λ n. look_up (of_length n keywords) word) (sym size) ∙ sym (among_its_length keywords word)

-- words that begin with different bytes differ
pub other_first_byte : (word other : List ℕ) → nat_eq (slice_index word 0) (slice_index other 0) ≡ false → false ≡ bytes_eq word other
other_first_byte [] [] differs = sym differs
other_first_byte [] (y ∷ other) differs = refl
other_first_byte (x ∷ word) [] differs = refl
other_first_byte (x ∷ word) (y ∷ other) differs = ap (λ b. b && bytes_eq word other) (sym differs)

-- a sign that begins with another byte does not stand in front
pub other_sign : (rest spelling : List ℕ) → nat_eq (length spelling) 0 ≡ false → nat_eq (slice_index spelling 0) (slice_index rest 0) ≡ false → false ≡ starts_with nat_eq rest spelling
other_sign rest [] some differs = sym some
other_sign [] (y ∷ spelling) some differs = refl
other_sign (x ∷ rest) (y ∷ spelling) some differs = ap (λ b. b && starts_with nat_eq rest spelling) (sym differs)
