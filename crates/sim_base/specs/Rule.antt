-- The static rules: the printed number of each, and its words.
use Rattle.std.specs.Prelude.{ℕ, ◌++◌, List, codes}
use Rattle.sim_base.specs.declared.rule.Rule.{Rule}
use Rattle.sim_base.specs.declared.rule.Rule.TheVariants.{ByteBeginsNoToken, TextConstantNotClosed, BadCharacterConstant, RealConstant, IntegerTooLarge, CommentNotClosed, Directive, SourceTooLong, WordLeftOut, UnexpectedToken, NestedTooDeeply, DeclaredTwice, PrefixIsNoClass, ClassInItsOwnChain, SpecificationDisagrees, ModeNotAllowed, InnerOutOfPlace, TooManyLevels, TooManyCells, TooManyDeclarations, QualificationIsNoClass, MatchDoesNotFit, ProtectionOfNoAttribute, NotDeclared, NotAccessible, WrongKind, WrongType, LeftSideIsNoVariable, WrongNumber, DifferentChains, ClassWithClasses, ThisOutsideItsClass, ControlledVariableNotSimple, ActivationOutsideSimulation, OnlyForPrefixing, BoundDependsOnItsBlock, StandardNameLeftOut, RealFunction, RandomDrawing, FileOrLayout, EnvironmentName}

abbrev pub rule_entry : Rule → List ℕ × List ℕ
rule_entry ByteBeginsNoToken = (codes "X1", codes "byte begins no token")
rule_entry TextConstantNotClosed = (codes "X2", codes "text constant not closed")
rule_entry BadCharacterConstant = (codes "X3", codes "bad character constant")
rule_entry RealConstant = (codes "X4", codes "real constant left out")
rule_entry IntegerTooLarge = (codes "X5", codes "integer too large")
rule_entry CommentNotClosed = (codes "X6", codes "comment not closed")
rule_entry Directive = (codes "X7", codes "directive left out")
rule_entry SourceTooLong = (codes "X8", codes "source too long")
rule_entry WordLeftOut = (codes "X9", codes "word left out")
rule_entry UnexpectedToken = (codes "Y1", codes "unexpected token")
rule_entry NestedTooDeeply = (codes "Y2", codes "nested too deeply")
rule_entry DeclaredTwice = (codes "S1", codes "identifier declared twice")
rule_entry PrefixIsNoClass = (codes "S2", codes "prefix is no class of this block")
rule_entry ClassInItsOwnChain = (codes "S3", codes "class in its own prefix chain")
rule_entry SpecificationDisagrees = (codes "S4", codes "parameter and specification disagree")
rule_entry ModeNotAllowed = (codes "S5", codes "mode not allowed")
rule_entry InnerOutOfPlace = (codes "S6", codes "inner out of place")
rule_entry TooManyLevels = (codes "L1", codes "too many block levels")
rule_entry TooManyCells = (codes "L2", codes "too many cells")
rule_entry TooManyDeclarations = (codes "L3", codes "too many declarations")
rule_entry QualificationIsNoClass = (codes "S7", codes "qualification is no class")
rule_entry MatchDoesNotFit = (codes "S8", codes "match does not fit its virtual")
rule_entry ProtectionOfNoAttribute = (codes "S9", codes "protection of no such attribute")
rule_entry NotDeclared = (codes "S10", codes "identifier not declared")
rule_entry NotAccessible = (codes "S11", codes "attribute not accessible here")
rule_entry WrongKind = (codes "S12", codes "wrong kind of identifier")
rule_entry WrongType = (codes "S13", codes "wrong type")
rule_entry LeftSideIsNoVariable = (codes "S14", codes "left side is no variable")
rule_entry WrongNumber = (codes "S15", codes "wrong number of parameters or subscripts")
rule_entry DifferentChains = (codes "S16", codes "qualifications on different chains")
rule_entry ClassWithClasses = (codes "S17", codes "class with classes accessed from outside")
rule_entry ThisOutsideItsClass = (codes "S18", codes "this outside its class")
rule_entry ControlledVariableNotSimple = (codes "S19", codes "controlled variable not simple")
rule_entry ActivationOutsideSimulation = (codes "S20", codes "activation outside a simulation")
rule_entry OnlyForPrefixing = (codes "S21", codes "class only for prefixing")
rule_entry BoundDependsOnItsBlock = (codes "S22", codes "array bound depends on its own block")
rule_entry StandardNameLeftOut = (codes "S23", codes "standard name in a form left out")
rule_entry RealFunction = (codes "N1", codes "real function left out")
rule_entry RandomDrawing = (codes "N2", codes "random drawing left out")
rule_entry FileOrLayout = (codes "N3", codes "file or layout left out")
rule_entry EnvironmentName = (codes "N4", codes "environment name left out")

-- the printed number
abbrev pub rule_code : Rule → List ℕ
rule_code x = (rule_entry x).0

-- the whole message: the number, a blank, the words
abbrev pub rule_text : Rule → List ℕ
rule_text x = rule_code x ++ (codes " " ++ (rule_entry x).1)
