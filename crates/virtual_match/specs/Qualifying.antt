-- Qualifications: the class that is written for each declaration of references.
use Rattle.std.specs.Prelude.{ℕ, Bool, true, false, List, [], ◌∷◌, Option, Some, None}
use Rattle.sim_base.specs.declared.numbering.DeclNo.{DeclNo}
use Rattle.sim_base.specs.declared.rule.Rule.TheVariants as r
use Rattle.sim_scope.specs.declared.found.Fault.{Fault}
use Rattle.sim_scope.specs.declared.scopes.Denotation.{Denotation}
use Rattle.sim_scope.specs.declared.scopes.Denotation.TheVariants as denotation
use Rattle.sim_scope.specs.declared.scopes.Qualification.{Qualification}
use Rattle.sim_scope.specs.declared.types.Entry.{Entry}
use Rattle.sim_scope.specs.declared.types.Entry.TheVariants as entry
use Rattle.sim_scope.specs.declared.types.SimType.{SimType}
use Rattle.sim_scope.specs.declared.types.SimType.TheVariants as t
use Rattle.sim_scope.specs.Found.{fault}
use Rattle.sim_scope.specs.Levels.{class_block, is_for_prefixing}
use Rattle.sim_scope.specs.Runs.{run}
use Rattle.sim_scope.specs.Scopes.{binding, entry_of}
use Rattle.sim_scope.specs.Tables.{Tables, with_entry_at}

-- S7: a class, and none that is only for prefixing
abbrev pub class_unless : DeclNo → Bool → Option DeclNo
class_unless d true = None
class_unless d false = Some d

abbrev pub class_with_block : Tables → DeclNo → Option ℕ → Option DeclNo
class_with_block s d None = None
class_with_block s d (Some block) = class_unless d (is_for_prefixing s block)

abbrev pub class_denoted : Tables → Option Denotation → Option DeclNo
class_denoted s None = None
class_denoted s (Some (denotation.Standard name)) = None
class_denoted s (Some (denotation.Declared d)) = class_with_block s d (class_block s d)

-- the class that is written
unfoldable pub class_written : Tables → Qualification → Option DeclNo
class_written s q = class_denoted s (binding s q.class.token.0 q.class.name)

-- The types that a declaration is of become references to the class.
abbrev pub type_to : DeclNo → Option SimType → Option SimType
type_to class None = None
type_to class (Some ty) = Some (t.Ref class)

unfoldable pub entry_to : DeclNo → Entry → Entry
entry_to class (entry.Variable ty) = entry.Variable (t.Ref class)
entry_to class (entry.Constant ty) = entry.Constant (t.Ref class)
entry_to class (entry.Array element dimensions) = entry.Array (t.Ref class) dimensions
entry_to class (entry.Procedure result block) = entry.Procedure (type_to class result) block
entry_to class (entry.Virtual result own) = entry.Virtual (type_to class result) own
entry_to class (entry.Formal f) = entry.Formal (record f { ty = type_to class f.ty })
entry_to class e = e

abbrev pub declaration_to : Tables → DeclNo → DeclNo → Option Entry → Tables
declaration_to s d class None = s
declaration_to s d class (Some e) = with_entry_at s d.0 (entry_to class e)

abbrev pub qualified_to : Tables → DeclNo → Option DeclNo → Tables
qualified_to s d None = s
qualified_to s d (Some class) = declaration_to s d class (entry_of s d)

unfoldable pub with_qualification : Tables → Qualification → Tables
with_qualification s q = qualified_to s q.declaration (class_written s q)

abbrev pub with_written : Tables → Option Qualification → Tables
with_written s None = s
with_written s (Some q) = with_qualification s q

-- the tables with the class of each reference
unfoldable pub qualified : Tables → Tables
qualified s = run with_qualification s s.qualifications

abbrev pub fault_unless : (token : ℕ) → Option DeclNo → List Fault
fault_unless token None = fault token r.QualificationIsNoClass ∷ []
fault_unless token (Some class) = []

unfoldable pub qualification_faults : Tables → Qualification → List Fault
qualification_faults s q = fault_unless q.class.token.0 (class_written s q)
