-- What is made of the matches of virtuals.
use Rattle.std.specs.Prelude.{◌≡◌, ◌<◌, ℕ, zero, suc, Bool, true, false, List, [], ◌∷◌, length, slice_get, slice_set, Option, Some, None}
use Rattle.sim_base.specs.declared.numbering.DeclNo.{DeclNo}
use Rattle.sim_scope.specs.declared.bound.Bound.{Bound}
use Rattle.sim_scope.specs.declared.scopes.Declaration.{Declaration}
use Rattle.sim_scope.specs.Scopes.{is_virtual}
use Rattle.sim_scope.specs.Source.{source_of}
use Rattle.sim_code.specs.declared.code.Match.{Match}
use Rattle.sim_meaning.specs.Levels.{has_levels}
use Rattle.sim_meaning.specs.Texts.{text}
use Rattle.codegen_expr.specs.Drafts.{DraftOf, class_of}
use Rattle.codegen_expr.specs.Sites.{block_number}
use Rattle.codegen.specs.Compiled.{matches_of}

-- the virtuals of a list of declarations, by their numbers
abbrev pub virtual_in : Bool → ℕ → List DeclNo → List DeclNo
virtual_in false v ds = ds
virtual_in true v ds = record { 0 = v } ∷ ds

abbrev pub virtuals_from : ℕ → List Declaration → List DeclNo
virtuals_from v [] = []
virtuals_from v (row ∷ rows) = virtual_in (is_virtual row.entry) v (virtuals_from (suc v) rows)

unfoldable pub AreVirtuals : Bound → List DeclNo → Type 0
AreVirtuals b ds = ds ≡ virtuals_from 0 (source_of b).tables.declarations

abbrev pub joined : Option (Option ℕ) → Option ℕ
joined None = None
joined (Some x) = x

unfoldable pub AreMatches : Bound → (text : ℕ) → List Match → Type 0
AreMatches b k xs = xs ≡ matches_of (source_of b) k

-- The text whose class each class is, where no other text has the same.
abbrev pub ClassTextIs : Bound → DraftOf → List (Option ℕ) → Type 0
ClassTextIs b c xs = (k class : ℕ) → has_levels (text (source_of b) k) ≡ true → class_of c.classes (block_number (source_of b) k) ≡ suc class → class < length xs
    → ((l : ℕ) → has_levels (text (source_of b) l) ≡ true → class_of c.classes (block_number (source_of b) l) ≡ suc class → l ≡ k)
    → slice_get xs class ≡ Some (Some k)

unfoldable pub AreTextsOfClasses : Bound → DraftOf → (count : ℕ) → List (Option ℕ) → Type 0
AreTextsOfClasses b c count xs = (length xs ≡ count) × ClassTextIs b c xs

-- the class of a text, or 0 for what is no class
abbrev pub class_if : Bool → ℕ → ℕ
class_if false class = 0
class_if true class = class

-- the text of a class is put
abbrev pub text_put : (class text : ℕ) → List (Option ℕ) → List (Option ℕ)
text_put zero k xs = xs
text_put (suc class) k xs = slice_set xs class (Some k)
