-- Cross references as text: a line for each declaration of a source.
use Rattle.std.specs.Prelude.{◌≡◌, ℕ, Bool, false, nat_eq, if◌then◌else◌, List, [], ◌∷◌, ◌++◌, drop, map, Option, Some, None}
use Rattle.std.specs.Fmt.{decimal}
use Rattle.std.specs.List.{flat_map}
use Rattle.sim_base.specs.declared.numbering.TokenNo.{TokenNo}
use Rattle.sim_scope.specs.Source.{Source, line_at}
use Rattle.sim_xref.specs.Rows.{RowOf, rows_of}

-- the line of a token
unfoldable pub token_line : Source → TokenNo → ℕ
token_line s token = line_at s token.0

abbrev pub is_last : (last : Option ℕ) → (line : ℕ) → Bool
is_last None line = false
is_last (Some last) line = nat_eq last line

-- of lines that follow a last one, those that differ from the one in front
abbrev pub changes : (last : Option ℕ) → List ℕ → List ℕ
changes last [] = []
changes last (line ∷ lines) = if is_last last line then changes last lines else line ∷ changes (Some line) lines

-- The lines of uses, each once. Since tokens stand in the order of the text, those of one line follow one another.
unfoldable pub lines_of : Source → List TokenNo → List ℕ
lines_of s uses = changes None (map (token_line s) uses)

abbrev pub after_blank : ℕ → List ℕ
after_blank line = 32 ∷ decimal line

-- identifier, blank, line of the declaration, colon, and each line with a use behind a blank
unfoldable pub row_text : Source → RowOf → List ℕ
row_text s r = r.name ++ (32 ∷ (decimal (token_line s r.token) ++ (58 ∷ (flat_map after_blank (lines_of s r.uses) ++ 10 ∷ []))))

-- the cross references of a source
unfoldable pub references_text : Source → List ℕ
references_text s = flat_map (row_text s) (rows_of s)

-- a line behind a blank, unless it is the last one
abbrev pub unless_last : (last : Option ℕ) → (line : ℕ) → List ℕ
unless_last last line = if is_last last line then [] else after_blank line

-- in a loop: what is left adds what all adds
unfoldable pub Adds : Source → (before : List ℕ) → List TokenNo → (now : List ℕ) → (last : Option ℕ) → ℕ → Type 0
Adds s before uses now last i = now ++ flat_map after_blank (changes last (map (token_line s) (drop i uses))) ≡ before ++ flat_map after_blank (lines_of s uses)
