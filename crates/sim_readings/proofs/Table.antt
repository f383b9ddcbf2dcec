-- What is known of the table of the grammar: how far a part can be taken apart before a token is taken.
use Rattle.std.proofs.Common.{◌≡◌, ◌≤◌, ℕ, suc, ◌+◌, Bool, true, false, if◌then◌else◌, List, [], ◌∷◌, Option, Some, None, refl, subst, arith}
use Rattle.std.proofs.lemmas.Bool.Decides.{nat_tests}
use Rattle.std.specs.Prelude.{◌&&◌, ◌||◌, not, nat_le}
use Rattle.sim_base.specs.declared.token.TokenKind.{TokenKind}
use Rattle.sim_base.specs.declared.token.TokenKind.TheVariants as k
use Rattle.sim_tree.specs.Grammar as g
use Rattle.sim_tree.specs.Grammar.{Part, Once, Maybe, Many, Symbol, Kept, Mark, Any, Here, Of, Row, At, Else, is, one_of, rows, chosen, right_side}

-- whether a token is taken wherever the part is read; the other parts may be empty
abbrev pub takes : Part → Bool
takes g.AfterDeclaration = false
takes g.Statement = false
takes g.StatementOfIdentifier = false
takes g.AfterFirstOperand = false
takes _ = true

-- how deep the parts are that can stand at the beginning of a part
abbrev pub rank : Part → ℕ
rank g.Program = 2
rank g.Block = 7
rank g.AfterIdentifier = 11
rank g.Declaration = 2
rank g.TypedDeclaration = 2
rank g.ArraySegment = 2
rank g.Bounds = 20
rank g.Specification = 2
rank g.VirtualSpecification = 2
rank g.Statement = 3
rank g.StatementOfIdentifier = 7
rank g.AfterFirstOperand = 4
rank g.Arms = 2
rank g.ForElement = 20
rank g.ReferenceElement = 20
rank g.Expression = 19
rank g.SimpleExpression = 18
rank g.AndThen = 17
rank g.Equivalence = 16
rank g.Implication = 15
rank g.Disjunction = 14
rank g.Conjunction = 13
rank g.Negation = 12
rank g.Relation = 9
rank g.Concatenation = 8
rank g.Sum = 7
rank g.Term = 4
rank g.Factor = 3
rank g.Postfix = 2
rank _ = 1

-- a token that is there: the end of the source is none
abbrev pub at_end : List TokenKind → Bool
at_end any = one_of any k.EndOfSource

-- a token is taken somewhere in these symbols
abbrev pub surely : List Symbol → Bool
surely [] = false
surely (Kept any ∷ s) = not (at_end any) || surely s
surely (Mark a ∷ s) = not (is k.EndOfSource a) || surely s
surely (Any a ∷ s) = surely s
surely (Here ∷ s) = surely s
surely (Of Once n ∷ s) = takes n || surely s
surely (Of Maybe n ∷ s) = surely s
surely (Of Many n ∷ s) = surely s

-- What can be taken apart before a token is taken. Behind the end of the source no token is there, and all may be.
abbrev mutual
  pub weight : List Symbol → ℕ
  weight [] = 0
  weight (Kept any ∷ s) = suc (if at_end any then weight s else 0)
  weight (Mark a ∷ s) = suc (if is k.EndOfSource a then weight s else 0)
  weight (Any a ∷ s) = suc (weight s)
  weight (Here ∷ s) = suc (weight s)
  weight (Of Once n ∷ s) = suc (rank n + (if takes n then 0 else weight s))
  weight (Of Maybe n ∷ s) = suc (rank n + weight s)
  weight (Of Many n ∷ s) = suc (rank n + weight s)

-- what is repeated takes a token each time
abbrev pub advances : List Symbol → Bool
advances [] = true
advances (Kept any ∷ s) = advances s
advances (Mark a ∷ s) = advances s
advances (Any a ∷ s) = not (is k.EndOfSource a) && advances s
advances (Here ∷ s) = advances s
advances (Of Once n ∷ s) = advances s
advances (Of Maybe n ∷ s) = advances s
advances (Of Many n ∷ s) = takes n && advances s

abbrev pub is_fine : Part → List Symbol → Bool
is_fine n right = nat_le (weight right) (rank n) && (advances right && (not (takes n) || surely right))

abbrev pub are_fine : Part → List Row → Bool
are_fine n [] = true
are_fine n (At next right ∷ others) = is_fine n right && are_fine n others
are_fine n (Else right ∷ others) = is_fine n right && are_fine n others

-- the whole table, part by part
rows_fine : (n : Part) → are_fine n (rows n) ≡ true
unfolding is
rows_fine g.Program = refl
rows_fine g.Compound = refl
rows_fine g.Block = refl
rows_fine g.AfterDeclaration = refl
rows_fine g.AfterIdentifier = refl
rows_fine g.Declaration = refl
rows_fine g.TypedDeclaration = refl
rows_fine g.NextArraySegment = refl
rows_fine g.NextVariable = refl
rows_fine g.TypeName = refl
rows_fine g.Variable = refl
rows_fine g.Value = refl
rows_fine g.Constant = refl
rows_fine g.Identifiers = refl
rows_fine g.NextIdentifier = refl
rows_fine g.ArraySegment = refl
rows_fine g.Bounds = refl
rows_fine g.NextBounds = refl
rows_fine g.Procedure = refl
rows_fine g.Heading = refl
rows_fine g.Mode = refl
rows_fine g.Specification = refl
rows_fine g.SpecifiedKind = refl
rows_fine g.Class = refl
rows_fine g.Protection = refl
rows_fine g.AndProtected = refl
rows_fine g.AndHidden = refl
rows_fine g.Virtuals = refl
rows_fine g.VirtualSpecification = refl
rows_fine g.NextStatement = refl
rows_fine g.Statement = refl
rows_fine g.StatementOfIdentifier = refl
rows_fine g.AfterFirstOperand = refl
rows_fine g.Assigned = refl
rows_fine g.ElseBranch = refl
rows_fine g.ForList = refl
rows_fine g.NextForElement = refl
rows_fine g.NextReferenceElement = refl
rows_fine g.Arms = refl
rows_fine g.OtherwiseBranch = refl
rows_fine g.ForElement = refl
rows_fine g.ForElementTail = refl
rows_fine g.ReferenceElement = refl
rows_fine g.ReferenceElementTail = refl
rows_fine g.WhenArm = refl
rows_fine g.Timing = refl
rows_fine g.PriorMark = refl
rows_fine g.Expression = refl
rows_fine g.SimpleExpression = refl
rows_fine g.NextOrElse = refl
rows_fine g.AndThen = refl
rows_fine g.NextAndThen = refl
rows_fine g.Equivalence = refl
rows_fine g.NextEquivalence = refl
rows_fine g.Implication = refl
rows_fine g.NextImplication = refl
rows_fine g.Disjunction = refl
rows_fine g.NextOr = refl
rows_fine g.Conjunction = refl
rows_fine g.NextAnd = refl
rows_fine g.Negation = refl
rows_fine g.NotSign = refl
rows_fine g.Relation = refl
rows_fine g.RelationTail = refl
rows_fine g.Concatenation = refl
rows_fine g.NextConcatenated = refl
rows_fine g.Sum = refl
rows_fine g.LeadingSign = refl
rows_fine g.NextTerm = refl
rows_fine g.Term = refl
rows_fine g.NextFactor = refl
rows_fine g.Factor = refl
rows_fine g.NextPower = refl
rows_fine g.Postfix = refl
rows_fine g.Selection = refl
rows_fine g.Primary = refl
rows_fine g.Arguments = refl
rows_fine g.NextArgument = refl

-- ---- from the test to the rule

both : (a b : Bool) → (a && b) ≡ true → (a ≡ true) × (b ≡ true)
both true true e = (refl, refl)
both true false e = absurd (cc)
both false b e = absurd (cc)

fine_if : (n : Part) (b : Bool) (x right : List Symbol) (others : Option (List Symbol)) → is_fine n x ≡ true → (others ≡ Some right → is_fine n right ≡ true) → (if b then Some x else others) ≡ Some right → is_fine n right ≡ true
fine_if n true x right others e more f = let same : x ≡ right = cc in subst (λ z. is_fine n z ≡ true) same e
fine_if n false x right others e more f = more f

row_fine : (n : Part) (rs : List Row) (a : TokenKind) (right : List Symbol) → are_fine n rs ≡ true → chosen rs a ≡ Some right → is_fine n right ≡ true
row_fine n [] a right e f = absurd (cc)
row_fine n (At next x ∷ others) a right e f =
    let parts = both (is_fine n x) (are_fine n others) e in
    fine_if n (one_of next a) x right (chosen others a) parts.0 (λ more. row_fine n others a right parts.1 more) f
row_fine n (Else x ∷ others) a right e f = fine_if n true x right None (both (is_fine n x) (are_fine n others) e).0 (λ none. absurd (cc)) f

either : (a b : Bool) → (not a || b) ≡ true → a ≡ true → b ≡ true
either true b e f = e
either false b e f = absurd (cc)

-- what a part consists of, by any token
pub record FineRight (n : Part) (right : List Symbol) : Type 0 where
  pub light : weight right ≤ rank n
  pub advancing : advances right ≡ true
  pub taking : takes n ≡ true → surely right ≡ true

pub right_fine : (n : Part) (a : TokenKind) (right : List Symbol) → right_side n a ≡ Some right → FineRight n right
unfolding right_side
right_fine n a right e =
    let f = both (nat_le (weight right) (rank n)) (advances right && (not (takes n) || surely right)) (row_fine n (rows n) a right (rows_fine n) e) in
    let h = both (advances right) (not (takes n) || surely right) f.1 in
    record { light = le_of (weight right) (rank n) f.0; advancing = h.0; taking = either (takes n) (surely right) h.1 }
  where
    le_of : (a b : ℕ) → nat_le a b ≡ true → a ≤ b
    le_of a b e = grind (arith, nat_tests)
