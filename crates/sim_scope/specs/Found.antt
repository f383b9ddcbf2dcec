-- What is found in a program, piece by piece.
use Rattle.std.specs.Prelude.{ℕ, Bool, ◌||◌, ◌&&◌, nat_lt, nat_eq, slice_set, if◌then◌else◌, List, Option, Some, None, replicate}
use Rattle.sim_base.specs.declared.rule.Rule.{Rule}
use Rattle.sim_base.specs.declared.rule.Rule.TheVariants as r
use Rattle.sim_scope.specs.declared.found.Fault.{Fault}
use Rattle.sim_scope.specs.declared.scopes.Denotation.{Denotation}
use Rattle.sim_scope.specs.declared.types.SimType.{SimType}
use Rattle.sim_scope.specs.Runs.{run}

-- the place of a rule in the table
abbrev pub rank : Rule → ℕ
rank r.ByteBeginsNoToken = 0
rank r.TextConstantNotClosed = 1
rank r.BadCharacterConstant = 2
rank r.RealConstant = 3
rank r.IntegerTooLarge = 4
rank r.CommentNotClosed = 5
rank r.Directive = 6
rank r.SourceTooLong = 7
rank r.WordLeftOut = 8
rank r.UnexpectedToken = 9
rank r.NestedTooDeeply = 10
rank r.DeclaredTwice = 11
rank r.PrefixIsNoClass = 12
rank r.ClassInItsOwnChain = 13
rank r.SpecificationDisagrees = 14
rank r.ModeNotAllowed = 15
rank r.InnerOutOfPlace = 16
rank r.TooManyLevels = 17
rank r.TooManyCells = 18
rank r.TooManyDeclarations = 19
rank r.QualificationIsNoClass = 20
rank r.MatchDoesNotFit = 21
rank r.ProtectionOfNoAttribute = 22
rank r.NotDeclared = 23
rank r.NotAccessible = 24
rank r.WrongKind = 25
rank r.WrongType = 26
rank r.LeftSideIsNoVariable = 27
rank r.WrongNumber = 28
rank r.DifferentChains = 29
rank r.ClassWithClasses = 30
rank r.ThisOutsideItsClass = 31
rank r.ControlledVariableNotSimple = 32
rank r.ActivationOutsideSimulation = 33
rank r.OnlyForPrefixing = 34
rank r.BoundDependsOnItsBlock = 35
rank r.StandardNameLeftOut = 36
rank r.RealFunction = 37
rank r.RandomDrawing = 38
rank r.FileOrLayout = 39
rank r.EnvironmentName = 40

abbrev pub fault : (token : ℕ) → Rule → Fault
fault token rule = record { token = record { 0 = token }; rule = rule }

-- whether a fault comes first: at the lesser token, and on one token by the table
unfoldable pub precedes : Fault → Fault → Bool
precedes a b = nat_lt a.token.0 b.token.0 || nat_eq a.token.0 b.token.0 && nat_lt (rank a.rule) (rank b.rule)

-- the lesser of the faults so far and one more
abbrev pub lesser : Option Fault → Fault → Option Fault
lesser None fault = Some fault
lesser (Some least) fault = if precedes fault least then Some fault else Some least

abbrev pub lesser_of : Option Fault → Option Fault → Option Fault
lesser_of least None = least
lesser_of least (Some fault) = lesser least fault

-- What was found: the least broken rule; for each token of an identifier what it denotes; for each token of an identifier, and of `this`, the
-- block in which it was found; for each token that names an expression its type.
pub record Findings : Type 0 where
  pub least : Option Fault
  pub uses : List (Option Denotation)
  pub found_in : List (Option ℕ)
  pub types : List (Option SimType)

-- what a piece of a program contributes
pub data Event : Type 0 where
  Broken : (token : ℕ) → Rule → Event
  Uses : (token : ℕ) → Denotation → Event
  FoundIn : (token block : ℕ) → Event
  Typed : (token : ℕ) → SimType → Event

unfoldable pub found : Findings → Event → Findings
found f (Broken token rule) = record f { least = lesser f.least (fault token rule) }
found f (Uses token denotation) = record f { uses = slice_set f.uses token (Some denotation) }
found f (FoundIn token block) = record f { found_in = slice_set f.found_in token (Some block) }
found f (Typed token ty) = record f { types = slice_set f.types token (Some ty) }

abbrev pub after : Findings → List Event → Findings
after f es = run found f es

-- nothing found yet of so many tokens
abbrev pub unknown : ℕ → Findings
unknown tokens = record { least = None; uses = replicate tokens None; found_in = replicate tokens None; types = replicate tokens None }
