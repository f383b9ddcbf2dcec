-- Virtual procedures. A call does the procedure that matches the virtual in the class of the object: the one that the innermost of its levels
-- declares which declares the identifier, at the level of the virtual or inside.
use Rattle.std.specs.Prelude.{ℕ, Bool, true, false, Option, Some, None}
use Rattle.sim_base.specs.declared.numbering.DeclNo.{DeclNo}
use Rattle.sim_scope.specs.declared.types.Entry.{Entry}
use Rattle.sim_scope.specs.declared.types.Entry.TheVariants as entry
use Rattle.sim_scope.specs.Scopes.{entry_of}
use Rattle.sim_scope.specs.Levels.{has_level}
use Rattle.sim_scope.specs.Source.{Source, block_of}
use Rattle.virtual_match.specs.Matching.{match_in, name_of}
use Rattle.sim_meaning.specs.Levels.{text_at}
use Rattle.sim_meaning.specs.Pending.{Instances}

abbrev pub procedure_text : Option Entry → Option ℕ
procedure_text (Some (entry.Procedure result block)) = Some block
procedure_text _ = None

-- the text of a procedure that is declared
abbrev pub text_of_procedure : Source → Option DeclNo → Option ℕ
text_of_procedure s None = None
text_of_procedure s (Some d) = procedure_text (entry_of s.tables d)

-- the procedure that matches a virtual in the class of a text, or in a prefixed block
unfoldable pub match_of_text : Source → (virtual text : ℕ) → Option ℕ
match_of_text s v k = text_of_procedure s (match_in s.tables (name_of s.tables (record { 0 = v })) (Some k))

abbrev pub match_if : Bool → Option ℕ → Option (Option ℕ)
match_if true x = Some x
match_if false x = None

abbrev pub match_in_text : Source → (virtual : ℕ) → Option ℕ → Option (Option ℕ)
match_in_text s v None = None
match_in_text s v (Some k) = match_if (has_level s.tables k (block_of s (record { 0 = v }))) (match_of_text s v k)

-- that in an object, which is in the class of the virtual
unfoldable pub match_at : Source → Instances → (virtual object : ℕ) → Option (Option ℕ)
match_at s m v j = match_in_text s v (text_at m j)
