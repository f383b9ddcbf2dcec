-- What an identifier is: alone, and with actual parameters or subscripts.
use Rattle.std.specs.Prelude.{ℕ, Bool, true, false, ◌||◌, ◌&&◌, not, nat_eq, nat_le, nat_lt, if◌then◌else◌, List, length, Option, Some, None, slice_get}
use Rattle.sim_base.specs.declared.numbering.DeclNo.{DeclNo}
use Rattle.sim_base.specs.declared.rule.Rule.{Rule}
use Rattle.sim_base.specs.declared.rule.Rule.TheVariants as r
use Rattle.sim_tree.specs.declared.expr.Identifier.{Identifier}
use Rattle.sim_scope.specs.declared.found.Fault.{Fault}
use Rattle.sim_scope.specs.declared.outcome.Actuals.{Actuals}
use Rattle.sim_scope.specs.declared.outcome.Barred.TheVariants as bar
use Rattle.sim_scope.specs.declared.outcome.Extent.{Extent}
use Rattle.sim_scope.specs.declared.outcome.Extent.TheVariants as extent
use Rattle.sim_scope.specs.declared.outcome.Occurrence.{Occurrence}
use Rattle.sim_scope.specs.declared.outcome.Outcome.{Outcome}
use Rattle.sim_scope.specs.declared.outcome.Outcome.TheVariants as is
use Rattle.sim_scope.specs.declared.outcome.Side.{Side}
use Rattle.sim_scope.specs.declared.scopes.Declaration.{Declaration}
use Rattle.sim_scope.specs.declared.scopes.Denotation.{Denotation}
use Rattle.sim_scope.specs.declared.scopes.Denotation.TheVariants as denotation
use Rattle.sim_scope.specs.declared.standard.Signature.{Signature}
use Rattle.sim_scope.specs.declared.standard.StandardName.{StandardName}
use Rattle.sim_scope.specs.declared.standard.StandardName.TheVariants as standard
use Rattle.sim_values.specs.declared.standard.Standard.TheVariants as procedure
use Rattle.sim_scope.specs.declared.types.Entry.{Entry}
use Rattle.sim_scope.specs.declared.types.Entry.TheVariants as entry
use Rattle.sim_scope.specs.declared.types.Formal.{Formal}
use Rattle.sim_scope.specs.declared.types.FormalKind.TheVariants as kind
use Rattle.sim_scope.specs.declared.types.SimType.{SimType}
use Rattle.sim_scope.specs.declared.types.SimType.TheVariants as t
use Rattle.sim_scope.specs.Found.{Broken, FoundIn, Typed, Uses}
use Rattle.sim_scope.specs.Judged.{Judged, bars, gives, next, telling}
use Rattle.sim_scope.specs.Access.{block_at, is_connection, is_kind}
use Rattle.sim_scope.specs.Levels.{class_block, has_classes, has_level}
use Rattle.sim_scope.specs.Outcomes.{breaks, call_of, is_stream, side, varies}
use Rattle.sim_scope.specs.Scopes.{binding, block_in, declaration_from, declared_or_standard, entry_of, formals_of, found_in, is_detach, is_passed_over, is_shown, shown}
use Rattle.sim_scope.specs.Standard.{is_standard_class, signature, sysin_attribute, sysout_attribute, text_attribute, undeclared}
use Rattle.sim_scope.specs.Tables.{BlockOf, Tables}

-- What an identifier denotes where it stands, and whether a rule bars it from standing there. Each rule that holds at its token is told, by
-- itself; the first of the table is the answer. So what is barred is judged on.
abbrev pub occurs : Option Denotation → (barred : Bool) → Occurrence
occurs d barred = record { denotes = d; barred = barred }

-- what denotes nothing
abbrev pub nothing_there : Occurrence
nothing_there = occurs None false

abbrev pub barred_if : Bool → Occurrence → Occurrence
barred_if b o = occurs o.denotes (b || o.barred)

-- S10: an identifier is declared; a name left out breaks one of N1 to N4.
-- S22: a bound uses of its own block, and of the levels of its prefix chain, parameters and constants alone. An expression has no blocks, so the
-- block of the array is that of the token.
abbrev pub is_fixed : Entry → Bool
is_fixed (entry.Constant ty) = true
is_fixed (entry.Formal f) = true
is_fixed _ = false

abbrev pub is_own_level : Tables → Option ℕ → ℕ → Bool
is_own_level s None block = false
is_own_level s (Some place) block = has_level s place block

abbrev pub barred_declaration : Tables → (token : ℕ) → Option Declaration → Bool
barred_declaration s token None = false
barred_declaration s token (Some d) = is_own_level s (block_at s token) d.block && not (is_fixed d.entry)

abbrev pub barred : Tables → (token : ℕ) → Denotation → Bool
barred s token (denotation.Declared d) = barred_declaration s token (slice_get s.declarations d.0)
barred s token (denotation.Standard name) = false

unfoldable pub is_barred : Tables → Extent → (token : ℕ) → Denotation → Bool
is_barred s extent.Statement token d = false
is_barred s extent.Bound token d = barred s token d

-- a use, unless it may not stand there
abbrev pub used_or_barred : (token : ℕ) → Denotation → Bool → Judged Occurrence
used_or_barred token d true = telling (Broken token r.BoundDependsOnItsBlock) (occurs (Some d) true)
used_or_barred token d false = telling (Uses token d) (occurs (Some d) false)

-- the block in which an identifier is found, if it is found in one
unfoldable pub located : (token : ℕ) → (block : Option ℕ) → Judged (Unit {0})
located token None = gives tt
located token (Some block) = telling (FoundIn token block) tt

unfoldable pub used_in : (token : ℕ) → (block : Option ℕ) → Denotation → (barred : Bool) → Judged Occurrence
used_in token block d barred = next (located token block) (λ n. used_or_barred token d barred)

-- S11: an attribute of this name is there, and not accessible
abbrev pub missing : (passed : Bool) → List ℕ → Rule
missing true name = r.NotAccessible
missing false name = undeclared name

abbrev pub found_as : Tables → Extent → (token : ℕ) → List ℕ → Option Denotation → Judged Occurrence
found_as s e token name None = telling (Broken token (missing (is_passed_over s token name) name)) nothing_there
found_as s e token name (Some d) = used_in token (found_in s token name) d (is_barred s e token d)

unfoldable pub bound : Tables → Extent → Identifier → Judged Occurrence
bound s e x = found_as s e x.token.0 x.name (binding s x.token.0 x.name)

-- What an attribute behind a dot denotes. S10: the object has it. S13: only texts and objects have attributes.
abbrev pub attribute_found : Identifier → Option StandardName → Judged Occurrence
attribute_found x None = telling (Broken x.token.0 (undeclared x.name)) nothing_there
attribute_found x (Some name) = telling (Uses x.token.0 (denotation.Standard name)) (occurs (Some (denotation.Standard name)) false)

-- The attribute of an object: what its class shows, where it is accessible, and `detach` behind that.
abbrev pub detach_or_none : List ℕ → Option StandardName
detach_or_none name = if is_detach name then Some (standard.Procedure procedure.Detach) else None

unfoldable pub attribute_in : Tables → (token block : ℕ) → List ℕ → Option Denotation
attribute_in s token block name = declared_or_standard s (shown s (Some token) block name) (detach_or_none name)

-- S11: the class has an attribute of this name, which is not accessible
unfoldable pub attribute_missing : Tables → (block : ℕ) → Identifier → Rule
attribute_missing s block x = missing (is_shown (shown s None block x.name)) x.name

-- S22: in a bound, as without a dot
abbrev pub remote_as : Tables → Extent → Identifier → (block : ℕ) → Option Denotation → Judged Occurrence
remote_as s e x block None = telling (Broken x.token.0 (attribute_missing s block x)) nothing_there
remote_as s e x block (Some d) = used_or_barred x.token.0 d (is_barred s e x.token.0 d)

-- S17: no level of the class declares a class. This is judged whatever the attribute is, and whether there is one.
abbrev pub remote_at : Tables → Extent → Identifier → (block : ℕ) → (barred : Bool) → Judged Occurrence
remote_at s e x block barred = next (remote_as s e x block (attribute_in s x.token.0 block x.name)) (λ o. gives (barred_if barred o))

abbrev pub remote_in : Tables → Extent → Identifier → Option ℕ → Judged Occurrence
remote_in s e x None = gives nothing_there
remote_in s e x (Some block) = next (bars (has_classes s block) x.token.0 r.ClassWithClasses) (remote_at s e x block)

-- the attribute of an object of a class
unfoldable pub remote : Tables → Extent → Identifier → DeclNo → Judged Occurrence
remote s e x class = remote_in s e x (class_block s class)

abbrev pub attribute_of_type : Tables → Extent → Identifier → (first : ℕ) → Option SimType → Judged Occurrence
attribute_of_type s e x first (Some t.Text) = attribute_found x (text_attribute x.name)
attribute_of_type s e x first None = gives nothing_there
attribute_of_type s e x first (Some (t.Ref class)) = remote s e x class
attribute_of_type s e x first (Some t.NoneType) = attribute_found x None
attribute_of_type s e x first (Some _) = telling (Broken first r.WrongType) nothing_there

unfoldable pub attribute_of_value : Tables → Extent → Identifier → Side → Judged Occurrence
attribute_of_value s e x v = attribute_of_type s e x v.first.0 v.ty

unfoldable pub attribute_by_value : Tables → Extent → Identifier → (first : ℕ) → Outcome → Judged Occurrence
attribute_by_value s e x first o = next (side s first o) (attribute_of_value s e x)

unfoldable pub attribute : Tables → Extent → Identifier → (first : ℕ) → Outcome → Judged Occurrence
attribute s e x first (is.Standard standard.Sysin token) = attribute_found x (sysin_attribute x.name)
attribute s e x first (is.Standard standard.Sysout token) = attribute_found x (sysout_attribute x.name)
attribute s e x first o = attribute_by_value s e x first o

-- An identifier alone.
-- whether a token stands in the text of a block
abbrev pub inside_block : (token : ℕ) → Option BlockOf → Bool
inside_block token None = false
inside_block token (Some block) = nat_le block.first token && nat_lt token block.end

unfoldable pub is_inside : Tables → (token block : ℕ) → Bool
is_inside s token block = inside_block token (slice_get s.blocks block)

-- the type of a call is known where the identifier stands
abbrev pub typed_if : (token : ℕ) → Option SimType → Outcome → Judged Outcome
typed_if token None o = gives o
typed_if token (Some ty) o = telling (Typed token ty) o

abbrev pub formal_kind_alone : (naming : ℕ) → Formal → SimType → Outcome → Judged Outcome
formal_kind_alone naming f ty o = (elim f.kind [ kind.Simple ↦ varies naming ty | kind.Array ↦ gives (is.Array ty) | kind.Procedure ↦ telling (Typed naming ty) o ])

abbrev pub formal_alone : (naming : ℕ) → Formal → Option SimType → Outcome → Judged Outcome
formal_alone naming f None o = (elim f.kind [ kind.Procedure ↦ gives o | _ ↦ gives is.Refused ])
formal_alone naming f (Some ty) o = formal_kind_alone naming f ty o

-- The identifier of a procedure stands for its result, where it is a left side inside the text of that very procedure, and no dot is in front of
-- it. So does that of a virtual inside the text of the match that the search comes to: it is the result of that match, of its own type. The
-- search has to leave the text without finding the identifier; only through a connection can it find it there, and then it is the attribute of
-- the object that is connected.
abbrev pub procedure_alone : DeclNo → Identifier → Option DeclNo → Outcome
procedure_alone d x own = is.Procedure d x.token own

abbrev pub is_undotted : (naming : ℕ) → Identifier → Bool
is_undotted naming x = nat_eq naming x.token.0

-- the match that a search for a virtual comes to: at the virtual's own level it is the one that the virtual knows
abbrev pub match_at : Option Entry → Option DeclNo → Option DeclNo
match_at (Some (entry.Virtual result own)) d = own
match_at e d = d

abbrev pub match_found : Tables → Option DeclNo → Option DeclNo
match_found s None = None
match_found s (Some d) = match_at (entry_of s d) (Some d)

abbrev pub inside_match : Tables → (token : ℕ) → Option DeclNo → Bool
inside_match s token None = false
inside_match s token (Some d) = (elim (block_in (entry_of s d)) [ None ↦ false | Some block ↦ is_inside s token block ])

abbrev pub is_connection_at : Tables → Option ℕ → Bool
is_connection_at s None = false
is_connection_at s (Some block) = is_kind is_connection s block

-- whether the search comes to an identifier through a connection
unfoldable pub through_connection : Tables → Identifier → Bool
through_connection s x = is_connection_at s (found_in s x.token.0 x.name)

-- a procedure, where an identifier that denotes it stands for its result
abbrev pub if_own : Bool → Option DeclNo → Option DeclNo
if_own true p = p
if_own false p = None

unfoldable pub own_of : Tables → Identifier → Option DeclNo → Option DeclNo
own_of s x p = if_own (inside_match s x.token.0 p && not (through_connection s x)) p

abbrev pub own_undotted : Tables → Identifier → Bool → Option DeclNo → Option DeclNo
own_undotted s x true p = own_of s x p
own_undotted s x false p = None

-- the match that the search for an identifier of a virtual comes to
unfoldable pub match_seen : Tables → Identifier → Option DeclNo
match_seen s x = match_found s (declaration_from s (Some x.token.0) (block_at s x.token.0) x.name)

abbrev pub declared_alone : Tables → (naming : ℕ) → Identifier → DeclNo → Option Entry → Judged Outcome
declared_alone s naming x d (Some (entry.Variable ty)) = varies naming ty
declared_alone s naming x d (Some (entry.Constant ty)) = telling (Typed naming ty) (is.Constant ty)
declared_alone s naming x d (Some (entry.Array element dimensions)) = gives (is.Array element)
declared_alone s naming x d (Some (entry.Procedure result block)) = typed_if naming result (procedure_alone d x (own_undotted s x (is_undotted naming x) (Some d)))
declared_alone s naming x d (Some (entry.Class block)) = gives is.Class
declared_alone s naming x d (Some (entry.Virtual result own)) = typed_if naming result (procedure_alone d x (own_undotted s x (is_undotted naming x) (match_seen s x)))
declared_alone s naming x d (Some (entry.Attribute name parameter result)) = typed_if naming result (procedure_alone d x None)
declared_alone s naming x d (Some (entry.Formal f)) = formal_alone naming f f.ty (procedure_alone d x None)
declared_alone s naming x d (Some (entry.Unspecified written)) = gives is.Refused
declared_alone s naming x d None = gives is.Refused

unfoldable pub alone : Tables → (naming : ℕ) → Identifier → Denotation → Judged Outcome
alone s naming x (denotation.Declared d) = declared_alone s naming x d (entry_of s d)
alone s naming x (denotation.Standard name) =
    if is_standard_class name then gives is.Class else typed_if naming (signature name).result (is.Standard name x.token)

-- An identifier with actuals, each of which is something.
abbrev pub misfitting_or : Option Fault → Judged Outcome → Judged Outcome
misfitting_or None j = j
misfitting_or (Some fault) j = breaks fault.token.0 fault.rule

unfoldable pub resulting : (naming : ℕ) → Option Fault → Option SimType → Judged Outcome
resulting naming misfit result = misfitting_or misfit (typed_if naming result (call_of result))

unfoldable pub element_of : (naming : ℕ) → Option Fault → SimType → Judged Outcome
element_of naming misfit element = misfitting_or misfit (varies naming element)

abbrev pub parameter_count : Signature → ℕ
parameter_count s = (elim s.first [ None ↦ 0 | Some a ↦ elim s.second [ None ↦ 1 | Some b ↦ 2 ] ])

-- S12: a formal parameter that is a value has no parameters. How many subscripts or parameters another one has is judged when the program runs.
abbrev pub formal_applied : (naming token : ℕ) → Formal → Option SimType → Option Fault → Judged Outcome
formal_applied naming token f result misfit =
    (elim f.kind [ kind.Simple ↦ breaks token r.WrongKind | kind.Array ↦ elim result [ None ↦ gives is.Refused | Some element ↦ element_of naming misfit element ] | kind.Procedure ↦ resulting naming misfit result ])

abbrev pub attribute_count : Option SimType → ℕ
attribute_count None = 0
attribute_count (Some ty) = 1

-- S12: only procedures and arrays have parameters or subscripts. S15: there are as many as the procedure or the array has.
abbrev pub declared_applied : (naming token : ℕ) → Option Entry → (formals : ℕ) → Actuals → Judged Outcome
declared_applied naming token (Some (entry.Procedure result block)) formals a =
    if nat_eq formals a.count then resulting naming a.misfit result else breaks token r.WrongNumber
declared_applied naming token (Some (entry.Array element dimensions)) formals a =
    if nat_eq dimensions a.count then element_of naming a.misfit element else breaks token r.WrongNumber
declared_applied naming token (Some (entry.Virtual result own)) formals a = resulting naming a.misfit result
declared_applied naming token (Some (entry.Attribute name parameter result)) formals a =
    if nat_eq (attribute_count parameter) a.count then resulting naming a.misfit result else breaks token r.WrongNumber
declared_applied naming token (Some (entry.Formal f)) formals a = formal_applied naming token f f.ty a.misfit
declared_applied naming token _ formals a = breaks token r.WrongKind

-- S23: `sysin` and `sysout` stand before a dot alone
abbrev pub standard_applied : (naming token : ℕ) → StandardName → Signature → Actuals → Judged Outcome
standard_applied naming token name s a =
    if is_stream name then breaks token r.StandardNameLeftOut
    else if is_standard_class name then breaks token r.WrongKind
    else if nat_eq (parameter_count s) a.count then resulting naming a.misfit s.result else breaks token r.WrongNumber

unfoldable pub applied : Tables → (naming token : ℕ) → Denotation → Actuals → Judged Outcome
applied s naming token (denotation.Declared d) a = declared_applied naming token (entry_of s d) (length (formals_of s d)) a
applied s naming token (denotation.Standard name) a = standard_applied naming token name (signature name) a

-- while an actual has no type, neither their number nor S12 is judged; S23 is
unfoldable pub applied_untyped : (token : ℕ) → Denotation → Judged Outcome
applied_untyped token (denotation.Declared d) = gives is.Refused
applied_untyped token (denotation.Standard name) = if is_stream name then breaks token r.StandardNameLeftOut else gives is.Refused

-- An identifier that denotes this, with its actuals. The token that names the whole expression is given.
abbrev pub used_as : Tables → (naming : ℕ) → Identifier → Denotation → Actuals → Judged Outcome
used_as s naming x d a =
    if nat_eq a.count 0 then alone s naming x d else if a.typed then applied s naming x.token.0 d a else applied_untyped x.token.0 d

-- what is barred has no type; alone it is judged on
abbrev pub barred_outcome : Outcome → Outcome
barred_outcome (is.Array ty) = is.Barred (bar.Array ty)
barred_outcome is.Class = is.Barred bar.Class
barred_outcome (is.Procedure d token own) = is.Barred (bar.Procedure d token)
barred_outcome (is.Standard name token) = is.Barred (bar.Standard name token)
barred_outcome _ = is.Refused

abbrev pub or_barred : Bool → Judged Outcome → Judged Outcome
or_barred false j = j
or_barred true j = next j (λ o. gives (barred_outcome o))

abbrev pub used_there : Tables → (naming : ℕ) → Identifier → Option Denotation → (barred : Bool) → Actuals → Judged Outcome
used_there s naming x None barred a = gives is.Refused
used_there s naming x (Some d) barred a = or_barred barred (used_as s naming x d a)

unfoldable pub used : Tables → (naming : ℕ) → Identifier → Occurrence → Actuals → Judged Outcome
used s naming x o a = used_there s naming x o.denotes o.barred a
