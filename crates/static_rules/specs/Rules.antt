-- The static rules on declarations, names and types, in the order of their table. Each has its printed number, its words, the token at which it is
-- broken, its round, and its clause.
use Rattle.std.specs.Prelude.{ℕ, List, [], ◌∷◌, codes}
use Rattle.sim_base.specs.declared.rule.Rule.{Rule}
use Rattle.sim_base.specs.declared.rule.Rule.TheVariants as r
use Rattle.sim_tree.specs.Syntax.{Program}
use Rattle.sim_scope.specs.Found.{fault}
use Rattle.sim_scope.specs.declared.found.Fault.{Fault}
use Rattle.static_rules.specs.FirstRound.{ClassInItsOwnChain, DeclaredTwice, InnerOutOfPlace, ModeNotAllowed, PrefixIsNoClass, SpecificationDisagrees, TooManyCells, TooManyDeclarations, TooManyLevels}
use Rattle.static_rules.specs.Judgements.{Judgement, all_judged}
use Rattle.static_rules.specs.LastRound.{ActivationOutsideSimulation, BoundDependsOnItsBlock, ClassWithClasses, ControlledVariableNotSimple, DifferentChains, IsMissing, LeftSideIsNoVariable, OnlyForPrefixing, StandardNameLeftOut, ThisOutsideItsClass, WrongKind, WrongNumber, WrongType}
use Rattle.static_rules.specs.SecondRound.{MatchDoesNotFit, ProtectionOfNoAttribute, QualificationIsNoClass, whole_tables}

pub data Round : Type 0 where
  -- scopes and prefixes
  First : Round
  -- qualifications and virtuals
  Second : Round
  -- bodies
  Last : Round

-- a row of the table: the printed number and the words of a rule, and its round
pub record Row : Type 0 where
  pub number : List ℕ
  pub words : List ℕ
  pub round : Round
  pub rule : Rule

abbrev pub row : (number words : List ℕ) → Round → Rule → Row
row number words round rule = record { number = number; words = words; round = round; rule = rule }

-- the rules in the order of the table
abbrev pub rows : List Row
rows =
    row (codes "S1") (codes "identifier declared twice") First r.DeclaredTwice
    ∷ row (codes "S2") (codes "prefix is no class of this block") First r.PrefixIsNoClass
    ∷ row (codes "S3") (codes "class in its own prefix chain") First r.ClassInItsOwnChain
    ∷ row (codes "S4") (codes "parameter and specification disagree") First r.SpecificationDisagrees
    ∷ row (codes "S5") (codes "mode not allowed") First r.ModeNotAllowed
    ∷ row (codes "S6") (codes "inner out of place") First r.InnerOutOfPlace
    ∷ row (codes "L1") (codes "too many block levels") First r.TooManyLevels
    ∷ row (codes "L2") (codes "too many cells") First r.TooManyCells
    ∷ row (codes "L3") (codes "too many declarations") First r.TooManyDeclarations
    ∷ row (codes "S7") (codes "qualification is no class") Second r.QualificationIsNoClass
    ∷ row (codes "S8") (codes "match does not fit its virtual") Second r.MatchDoesNotFit
    ∷ row (codes "S9") (codes "protection of no such attribute") Second r.ProtectionOfNoAttribute
    ∷ row (codes "S10") (codes "identifier not declared") Last r.NotDeclared
    ∷ row (codes "S11") (codes "attribute not accessible here") Last r.NotAccessible
    ∷ row (codes "S12") (codes "wrong kind of identifier") Last r.WrongKind
    ∷ row (codes "S13") (codes "wrong type") Last r.WrongType
    ∷ row (codes "S14") (codes "left side is no variable") Last r.LeftSideIsNoVariable
    ∷ row (codes "S15") (codes "wrong number of parameters or subscripts") Last r.WrongNumber
    ∷ row (codes "S16") (codes "qualifications on different chains") Last r.DifferentChains
    ∷ row (codes "S17") (codes "class with classes accessed from outside") Last r.ClassWithClasses
    ∷ row (codes "S18") (codes "this outside its class") Last r.ThisOutsideItsClass
    ∷ row (codes "S19") (codes "controlled variable not simple") Last r.ControlledVariableNotSimple
    ∷ row (codes "S20") (codes "activation outside a simulation") Last r.ActivationOutsideSimulation
    ∷ row (codes "S21") (codes "class only for prefixing") Last r.OnlyForPrefixing
    ∷ row (codes "S22") (codes "array bound depends on its own block") Last r.BoundDependsOnItsBlock
    ∷ row (codes "S23") (codes "standard name in a form left out") Last r.StandardNameLeftOut
    ∷ row (codes "N1") (codes "real function left out") Last r.RealFunction
    ∷ row (codes "N2") (codes "random drawing left out") Last r.RandomDrawing
    ∷ row (codes "N3") (codes "file or layout left out") Last r.FileOrLayout
    ∷ row (codes "N4") (codes "environment name left out") Last r.EnvironmentName
    ∷ []

-- what is judged in the bodies of a program
abbrev pub judged_of : Program → List Judgement
judged_of p = all_judged (whole_tables p) p

-- A program breaks a rule of a round at a token.
pub data Breaks (p : Program) : Round → Fault → Type 0 where
  -- S1 identifier declared twice: the later identifier of one block, class level or formal list
  s1 : {token : ℕ} → DeclaredTwice p token → Breaks p First (fault token r.DeclaredTwice)
  -- S2 prefix is no class of this block: the prefix of a class or block
  s2 : {token : ℕ} → PrefixIsNoClass p token → Breaks p First (fault token r.PrefixIsNoClass)
  -- S3 class in its own prefix chain: the identifier of each class of the cycle
  s3 : {token : ℕ} → ClassInItsOwnChain p token → Breaks p First (fault token r.ClassInItsOwnChain)
  -- S4 parameter and specification disagree: a formal without one; an identifier specified twice, or no formal
  s4 : {token : ℕ} → SpecificationDisagrees p token → Breaks p First (fault token r.SpecificationDisagrees)
  -- S5 mode not allowed: the identifier in the mode part, or the formal procedure of a class
  s5 : {token : ℕ} → ModeNotAllowed p token → Breaks p First (fault token r.ModeNotAllowed)
  -- S6 inner out of place: an `inner` not in the statement list of a class's body, or a second one there
  s6 : {token : ℕ} → InnerOutOfPlace p token → Breaks p First (fault token r.InnerOutOfPlace)
  -- L1 too many block levels: the first token of a block, procedure or class past level 64
  l1 : {token : ℕ} → TooManyLevels p token → Breaks p First (fault token r.TooManyLevels)
  -- L2 too many cells: the class or procedure identifier, or `begin`, of an instance of more than 4,095 cells
  l2 : {token : ℕ} → TooManyCells p token → Breaks p First (fault token r.TooManyCells)
  -- L3 too many declarations: the identifier of the 65,536th declaration
  l3 : {token : ℕ} → TooManyDeclarations p token → Breaks p First (fault token r.TooManyDeclarations)
  -- S7 qualification is no class: the identifier in `ref( )`
  s7 : {token : ℕ} → QualificationIsNoClass p token → Breaks p Second (fault token r.QualificationIsNoClass)
  -- S8 match does not fit its virtual: the identifier of a declaration at the level of a virtual or inside
  s8 : {token : ℕ} → MatchDoesNotFit p token → Breaks p Second (fault token r.MatchDoesNotFit)
  -- S9 protection of no such attribute: the identifier in the protection part
  s9 : {token : ℕ} → ProtectionOfNoAttribute p token → Breaks p Second (fault token r.ProtectionOfNoAttribute)
  -- S10 identifier not declared: the identifier, also after a dot
  s10 : {token : ℕ} → IsMissing (whole_tables p) (judged_of p) r.NotDeclared token → Breaks p Last (fault token r.NotDeclared)
  -- S11 attribute not accessible here: the identifier
  s11 : {token : ℕ} → IsMissing (whole_tables p) (judged_of p) r.NotAccessible token → Breaks p Last (fault token r.NotAccessible)
  -- S12 wrong kind of identifier: the identifier, or the first token of the operand, left side or statement
  s12 : {token : ℕ} → WrongKind (whole_tables p) (judged_of p) token → Breaks p Last (fault token r.WrongKind)
  -- S13 wrong type: the first token of the operand
  s13 : {token : ℕ} → WrongType (whole_tables p) (judged_of p) token → Breaks p Last (fault token r.WrongType)
  -- S14 left side is no variable: the first token of the left side, or the second of two different signs
  s14 : {token : ℕ} → LeftSideIsNoVariable (whole_tables p) (judged_of p) token → Breaks p Last (fault token r.LeftSideIsNoVariable)
  -- S15 wrong number of parameters or subscripts: the identifier that is called or subscripted
  s15 : {token : ℕ} → WrongNumber (whole_tables p) (judged_of p) token → Breaks p Last (fault token r.WrongNumber)
  -- S16 qualifications on different chains: the first token of the right side or the actual, or the class
  s16 : {token : ℕ} → DifferentChains (whole_tables p) (judged_of p) token → Breaks p Last (fault token r.DifferentChains)
  -- S17 class with classes accessed from outside: the identifier after the dot, or `inspect`
  s17 : {token : ℕ} → ClassWithClasses (whole_tables p) (judged_of p) token → Breaks p Last (fault token r.ClassWithClasses)
  -- S18 this outside its class: the class after `this`
  s18 : {token : ℕ} → ThisOutsideItsClass (whole_tables p) (judged_of p) token → Breaks p Last (fault token r.ThisOutsideItsClass)
  -- S19 controlled variable not simple: the identifier after `for`
  s19 : {token : ℕ} → ControlledVariableNotSimple (whole_tables p) (judged_of p) token → Breaks p Last (fault token r.ControlledVariableNotSimple)
  -- S20 activation outside a simulation: `activate` or `reactivate`
  s20 : {token : ℕ} → ActivationOutsideSimulation (whole_tables p) (judged_of p) token → Breaks p Last (fault token r.ActivationOutsideSimulation)
  -- S21 class only for prefixing: the identifier
  s21 : {token : ℕ} → OnlyForPrefixing (whole_tables p) (judged_of p) token → Breaks p Last (fault token r.OnlyForPrefixing)
  -- S22 array bound depends on its own block: the identifier in the bound, or the class after a `this` there
  s22 : {token : ℕ} → BoundDependsOnItsBlock (whole_tables p) (judged_of p) token → Breaks p Last (fault token r.BoundDependsOnItsBlock)
  -- S23 standard name in a form left out: `sysin` or `sysout` not before a dot, or the first token of the actual
  s23 : {token : ℕ} → StandardNameLeftOut (whole_tables p) (judged_of p) token → Breaks p Last (fault token r.StandardNameLeftOut)
  -- N1 real function left out: the identifier, which is not declared
  n1 : {token : ℕ} → IsMissing (whole_tables p) (judged_of p) r.RealFunction token → Breaks p Last (fault token r.RealFunction)
  -- N2 random drawing left out: the identifier, which is not declared
  n2 : {token : ℕ} → IsMissing (whole_tables p) (judged_of p) r.RandomDrawing token → Breaks p Last (fault token r.RandomDrawing)
  -- N3 file or layout left out: the identifier, which is not declared
  n3 : {token : ℕ} → IsMissing (whole_tables p) (judged_of p) r.FileOrLayout token → Breaks p Last (fault token r.FileOrLayout)
  -- N4 environment name left out: the identifier, which is not declared
  n4 : {token : ℕ} → IsMissing (whole_tables p) (judged_of p) r.EnvironmentName token → Breaks p Last (fault token r.EnvironmentName)
