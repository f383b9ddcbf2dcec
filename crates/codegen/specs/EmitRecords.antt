-- The records of classes that are written, with their matches.
use Rattle.std.specs.Prelude.{◌≡◌, ℕ, false, List, [], length, slice_get, Option, Some, None}
use Rattle.sim_scope.specs.declared.bound.Bound.{Bound}
use Rattle.sim_scope.specs.Source.{Source, source_of}
use Rattle.sim_code.specs.declared.code.Match.{Match}
use Rattle.sim_code.specs.Code.{ClassOf}
use Rattle.codegen.specs.declared.texts.ClassAt.{ClassAt}
use Rattle.codegen.specs.declared.texts.Written.{Written}
use Rattle.codegen.specs.Compiled.{matches_of}
use Rattle.codegen.specs.EmitMatches.{AreTextsOfClasses}
use Rattle.codegen.specs.EmitProgram.{class_record}

-- the record of a class, which is blank where none is written
abbrev pub record_with : Option ClassAt → List Match → ClassOf
record_with None xs = record { prefix = 0; block = 0; declarations = 0; statements = 0; after_inner = 0; process = false; matches = xs }
record_with (Some c) xs = class_record c xs

-- the matches in the class of a text, if there is one
abbrev pub matches_in_class : Source → (text : Option ℕ) → List Match
matches_in_class s None = []
matches_in_class s (Some k) = matches_of s k

-- the records of classes, each with the matches in the class of its text
abbrev pub RecordIs : Source → List (Option ClassAt) → (texts : List (Option ℕ)) → List ClassOf → Type 0
RecordIs s cs ks xs = (j : ℕ) (c : Option ClassAt) (k : Option ℕ) → slice_get cs j ≡ Some c → slice_get ks j ≡ Some k → slice_get xs j ≡ Some (record_with c (matches_in_class s k))

unfoldable pub AreRecords : Source → List (Option ClassAt) → (texts : List (Option ℕ)) → List ClassOf → Type 0
AreRecords s cs ks xs = (length xs ≡ length cs) × RecordIs s cs ks xs

-- the records of the classes that are written, each with the matches in the class of its text
pub record ClassesAre (b : Bound) (w : Written) (xs : List ClassOf) : Type 0 where
  pub texts : List (Option ℕ)
  pub each : AreTextsOfClasses b w.draft (length w.classes.items) texts
  pub records : AreRecords (source_of b) w.classes.items texts xs

unfoldable pub AreClasses : Bound → Written → List ClassOf → Type 0
AreClasses b w xs = ClassesAre b w xs
