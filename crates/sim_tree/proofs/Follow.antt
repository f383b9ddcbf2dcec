-- For each part: a shortest word of it, what may come behind it where all that follows is shortest too, and an order in which the
-- words are made. A test over the whole table says that these fit the grammar.
use Rattle.std.proofs.Common.{ℕ, ◌≡◌, Bool, true, false, List, [], ◌∷◌, ◌++◌, Option, Some, None, refl}
use Rattle.std.specs.Prelude.{◌&&◌, not, nat_le}
use Rattle.sim_base.specs.declared.token.TokenKind.{TokenKind}
use Rattle.sim_base.specs.declared.token.TokenKind.TheVariants as k
use Rattle.sim_tree.specs.Grammar as g
use Rattle.sim_tree.specs.Grammar.{Part, Times, Once, Maybe, Many, Symbol, Kept, Mark, Any, Here, Of, Row, At, Else, is, one_of, rows, chosen}

abbrev behind_operand : List TokenKind
behind_operand = k.EndOfSource ∷ k.Else ∷ k.Colon ∷ k.Close ∷ k.Then ∷ k.Do ∷ k.End ∷ k.Semicolon ∷ k.Until ∷ []

abbrev behind_expression : List TokenKind
behind_expression = k.EndOfSource ∷ k.End ∷ k.Semicolon ∷ k.Else ∷ k.Colon ∷ k.Close ∷ k.Then ∷ k.Do ∷ k.Until ∷ []

abbrev behind_primary : List TokenKind
behind_primary = k.EndOfSource ∷ k.Colon ∷ k.Close ∷ k.Then ∷ k.Do ∷ k.End ∷ k.Semicolon ∷ k.Until ∷ []

abbrev behind_actuals : List TokenKind
behind_actuals = k.EndOfSource ∷ k.Begin ∷ k.End ∷ k.Semicolon ∷ k.Else ∷ k.Colon ∷ k.Close ∷ k.Then ∷ k.Do ∷ k.Until ∷ []

-- what may come behind a part
abbrev pub follow : Part → List TokenKind
follow g.Program = k.EndOfSource ∷ []
follow g.Compound = k.EndOfSource ∷ k.End ∷ k.Semicolon ∷ []
follow g.Block = k.EndOfSource ∷ k.End ∷ k.Semicolon ∷ []
follow g.AfterDeclaration = k.EndOfSource ∷ k.End ∷ []
follow g.AfterIdentifier = k.EndOfSource ∷ k.End ∷ k.Semicolon ∷ []
follow g.Declaration = k.EndOfSource ∷ k.Semicolon ∷ []
follow g.TypedDeclaration = k.EndOfSource ∷ k.Semicolon ∷ []
follow g.NextArraySegment = k.EndOfSource ∷ k.Semicolon ∷ []
follow g.NextVariable = k.EndOfSource ∷ k.Semicolon ∷ []
follow g.TypeName = k.EndOfSource ∷ k.Identifier ∷ k.Procedure ∷ []
follow g.Variable = k.EndOfSource ∷ k.Semicolon ∷ []
follow g.Value = k.EndOfSource ∷ k.Semicolon ∷ []
follow g.Constant = k.EndOfSource ∷ k.Semicolon ∷ []
follow g.Identifiers = k.EndOfSource ∷ k.Open ∷ k.Close ∷ k.Semicolon ∷ []
follow g.NextIdentifier = k.EndOfSource ∷ k.Open ∷ k.Close ∷ k.Semicolon ∷ []
follow g.ArraySegment = k.EndOfSource ∷ k.Semicolon ∷ []
follow g.Bounds = k.EndOfSource ∷ k.Close ∷ []
follow g.NextBounds = k.EndOfSource ∷ k.Close ∷ []
follow g.Procedure = k.EndOfSource ∷ k.Semicolon ∷ []
follow g.Heading = k.EndOfSource ∷ k.Semicolon ∷ []
follow g.Mode = k.EndOfSource ∷ k.IntegerWord ∷ []
follow g.Specification = k.EndOfSource ∷ k.Semicolon ∷ []
follow g.SpecifiedKind = k.EndOfSource ∷ k.Identifier ∷ []
follow g.Class = k.EndOfSource ∷ k.Semicolon ∷ []
follow g.Protection = k.EndOfSource ∷ k.Semicolon ∷ []
follow g.AndProtected = k.EndOfSource ∷ k.Identifier ∷ []
follow g.AndHidden = k.EndOfSource ∷ k.Identifier ∷ []
follow g.Virtuals = k.EndOfSource ∷ k.Semicolon ∷ []
follow g.VirtualSpecification = k.EndOfSource ∷ k.Semicolon ∷ []
follow g.NextStatement = k.EndOfSource ∷ k.End ∷ []
follow g.Statement = k.EndOfSource ∷ k.End ∷ k.Semicolon ∷ []
follow g.StatementOfIdentifier = k.EndOfSource ∷ k.End ∷ []
follow g.AfterFirstOperand = k.EndOfSource ∷ k.End ∷ k.Semicolon ∷ []
follow g.Assigned = k.EndOfSource ∷ k.End ∷ k.Semicolon ∷ []
follow g.ElseBranch = k.EndOfSource ∷ k.End ∷ k.Semicolon ∷ []
follow g.ForList = k.EndOfSource ∷ k.Do ∷ []
follow g.NextForElement = k.EndOfSource ∷ k.Do ∷ []
follow g.NextReferenceElement = k.EndOfSource ∷ k.Do ∷ []
follow g.Arms = k.EndOfSource ∷ k.End ∷ k.Semicolon ∷ []
follow g.OtherwiseBranch = k.EndOfSource ∷ k.End ∷ k.Semicolon ∷ []
follow g.ForElement = k.EndOfSource ∷ k.Do ∷ []
follow g.ForElementTail = k.EndOfSource ∷ k.Do ∷ []
follow g.ReferenceElement = k.EndOfSource ∷ k.Do ∷ []
follow g.ReferenceElementTail = k.EndOfSource ∷ k.Do ∷ []
follow g.WhenArm = k.EndOfSource ∷ k.End ∷ k.Semicolon ∷ []
follow g.Timing = k.EndOfSource ∷ k.End ∷ k.Semicolon ∷ []
follow g.PriorMark = k.EndOfSource ∷ k.End ∷ k.Semicolon ∷ []
follow g.Expression = behind_primary
follow g.SimpleExpression = behind_operand
follow g.NextOrElse = behind_operand
follow g.AndThen = behind_operand
follow g.NextAndThen = behind_operand
follow g.Equivalence = behind_operand
follow g.NextEquivalence = behind_operand
follow g.Implication = behind_operand
follow g.NextImplication = behind_operand
follow g.Disjunction = behind_operand
follow g.NextOr = behind_operand
follow g.Conjunction = behind_operand
follow g.NextAnd = behind_operand
follow g.Negation = behind_operand
follow g.NotSign = k.EndOfSource ∷ k.Integer ∷ []
follow g.Relation = behind_operand
follow g.RelationTail = behind_operand
follow g.Concatenation = behind_operand
follow g.NextConcatenated = behind_operand
follow g.Sum = behind_operand
follow g.LeadingSign = k.EndOfSource ∷ k.Integer ∷ []
follow g.NextTerm = behind_operand
follow g.Term = behind_operand
follow g.NextFactor = behind_operand
follow g.Factor = behind_operand
follow g.NextPower = behind_operand
follow g.Postfix = behind_expression
follow g.Selection = behind_expression
follow g.Primary = behind_expression
follow g.Arguments = behind_actuals
follow g.NextArgument = k.EndOfSource ∷ k.Close ∷ []

-- a shortest word of a part
abbrev pub sample : Part → List TokenKind
sample g.Program = k.Begin ∷ k.End ∷ k.EndOfSource ∷ []
sample g.Compound = k.Begin ∷ k.End ∷ []
sample g.Block = k.End ∷ []
sample g.AfterDeclaration = k.Semicolon ∷ []
sample g.AfterIdentifier = k.End ∷ []
sample g.Declaration = k.IntegerWord ∷ k.Identifier ∷ []
sample g.TypedDeclaration = k.Identifier ∷ []
sample g.NextArraySegment = k.Comma ∷ k.Identifier ∷ k.Open ∷ k.Integer ∷ k.Colon ∷ k.Integer ∷ k.Close ∷ []
sample g.NextVariable = k.Comma ∷ k.Identifier ∷ []
sample g.TypeName = k.IntegerWord ∷ []
sample g.Variable = k.Identifier ∷ []
sample g.Value = k.Equal ∷ k.Integer ∷ []
sample g.Constant = k.Integer ∷ []
sample g.Identifiers = k.Identifier ∷ []
sample g.NextIdentifier = k.Comma ∷ k.Identifier ∷ []
sample g.ArraySegment = k.Identifier ∷ k.Open ∷ k.Integer ∷ k.Colon ∷ k.Integer ∷ k.Close ∷ []
sample g.Bounds = k.Integer ∷ k.Colon ∷ k.Integer ∷ []
sample g.NextBounds = k.Comma ∷ k.Integer ∷ k.Colon ∷ k.Integer ∷ []
sample g.Procedure = k.Identifier ∷ k.Semicolon ∷ []
sample g.Heading = k.Semicolon ∷ []
sample g.Mode = k.Value ∷ k.Identifier ∷ k.Semicolon ∷ []
sample g.Specification = k.IntegerWord ∷ k.Identifier ∷ k.Semicolon ∷ []
sample g.SpecifiedKind = k.Array ∷ []
sample g.Class = k.Identifier ∷ k.Semicolon ∷ []
sample g.Protection = k.Hidden ∷ k.Identifier ∷ k.Semicolon ∷ []
sample g.AndProtected = k.Protected ∷ []
sample g.AndHidden = k.Hidden ∷ []
sample g.Virtuals = k.Virtual ∷ k.Colon ∷ k.Procedure ∷ k.Identifier ∷ k.Semicolon ∷ []
sample g.VirtualSpecification = k.Procedure ∷ k.Identifier ∷ k.Semicolon ∷ []
sample g.NextStatement = k.Semicolon ∷ []
sample g.Statement = []
sample g.StatementOfIdentifier = []
sample g.AfterFirstOperand = []
sample g.Assigned = k.Assign ∷ k.Integer ∷ []
sample g.ElseBranch = k.Else ∷ []
sample g.ForList = k.Assign ∷ k.Integer ∷ []
sample g.NextForElement = k.Comma ∷ k.Integer ∷ []
sample g.NextReferenceElement = k.Comma ∷ k.Integer ∷ []
sample g.Arms = k.Do ∷ []
sample g.OtherwiseBranch = k.Otherwise ∷ []
sample g.ForElement = k.Integer ∷ []
sample g.ForElementTail = k.While ∷ k.Integer ∷ []
sample g.ReferenceElement = k.Integer ∷ []
sample g.ReferenceElementTail = k.While ∷ k.Integer ∷ []
sample g.WhenArm = k.When ∷ k.Identifier ∷ k.Do ∷ []
sample g.Timing = k.At ∷ k.Integer ∷ []
sample g.PriorMark = k.Prior ∷ []
sample g.Expression = k.Integer ∷ []
sample g.SimpleExpression = k.Integer ∷ []
sample g.NextOrElse = k.OrElse ∷ k.Integer ∷ []
sample g.AndThen = k.Integer ∷ []
sample g.NextAndThen = k.AndThen ∷ k.Integer ∷ []
sample g.Equivalence = k.Integer ∷ []
sample g.NextEquivalence = k.Eqv ∷ k.Integer ∷ []
sample g.Implication = k.Integer ∷ []
sample g.NextImplication = k.Imp ∷ k.Integer ∷ []
sample g.Disjunction = k.Integer ∷ []
sample g.NextOr = k.Or ∷ k.Integer ∷ []
sample g.Conjunction = k.Integer ∷ []
sample g.NextAnd = k.And ∷ k.Integer ∷ []
sample g.Negation = k.Integer ∷ []
sample g.NotSign = k.Not ∷ []
sample g.Relation = k.Integer ∷ []
sample g.RelationTail = k.Is ∷ k.Identifier ∷ []
sample g.Concatenation = k.Integer ∷ []
sample g.NextConcatenated = k.Ampersand ∷ k.Integer ∷ []
sample g.Sum = k.Integer ∷ []
sample g.LeadingSign = k.Plus ∷ []
sample g.NextTerm = k.Plus ∷ k.Integer ∷ []
sample g.Term = k.Integer ∷ []
sample g.NextFactor = k.Times ∷ k.Integer ∷ []
sample g.Factor = k.Integer ∷ []
sample g.NextPower = k.Power ∷ k.Integer ∷ []
sample g.Postfix = k.Integer ∷ []
sample g.Selection = k.Dot ∷ k.Identifier ∷ []
sample g.Primary = k.Integer ∷ []
sample g.Arguments = k.Open ∷ k.Integer ∷ k.Close ∷ []
sample g.NextArgument = k.Comma ∷ k.Integer ∷ []

-- the order: a word is made of words of parts with a lower number
abbrev pub rank : Part → ℕ
rank g.Program = 2
rank g.Compound = 1
rank g.Block = 0
rank g.AfterDeclaration = 0
rank g.AfterIdentifier = 2
rank g.Declaration = 2
rank g.TypedDeclaration = 1
rank g.NextArraySegment = 17
rank g.NextVariable = 1
rank g.TypeName = 0
rank g.Variable = 0
rank g.Value = 1
rank g.Constant = 0
rank g.Identifiers = 0
rank g.NextIdentifier = 0
rank g.ArraySegment = 16
rank g.Bounds = 15
rank g.NextBounds = 16
rank g.Procedure = 1
rank g.Heading = 0
rank g.Mode = 1
rank g.Specification = 1
rank g.SpecifiedKind = 0
rank g.Class = 1
rank g.Protection = 1
rank g.AndProtected = 0
rank g.AndHidden = 0
rank g.Virtuals = 2
rank g.VirtualSpecification = 1
rank g.NextStatement = 1
rank g.Statement = 0
rank g.StatementOfIdentifier = 1
rank g.AfterFirstOperand = 0
rank g.Assigned = 15
rank g.ElseBranch = 1
rank g.ForList = 16
rank g.NextForElement = 16
rank g.NextReferenceElement = 16
rank g.Arms = 1
rank g.OtherwiseBranch = 1
rank g.ForElement = 15
rank g.ForElementTail = 15
rank g.ReferenceElement = 15
rank g.ReferenceElementTail = 15
rank g.WhenArm = 1
rank g.Timing = 15
rank g.PriorMark = 0
rank g.Expression = 14
rank g.SimpleExpression = 13
rank g.NextOrElse = 13
rank g.AndThen = 12
rank g.NextAndThen = 12
rank g.Equivalence = 11
rank g.NextEquivalence = 11
rank g.Implication = 10
rank g.NextImplication = 10
rank g.Disjunction = 9
rank g.NextOr = 9
rank g.Conjunction = 8
rank g.NextAnd = 8
rank g.Negation = 7
rank g.NotSign = 0
rank g.Relation = 6
rank g.RelationTail = 0
rank g.Concatenation = 5
rank g.NextConcatenated = 5
rank g.Sum = 4
rank g.LeadingSign = 0
rank g.NextTerm = 4
rank g.Term = 3
rank g.NextFactor = 3
rank g.Factor = 2
rank g.NextPower = 2
rank g.Postfix = 1
rank g.Selection = 0
rank g.Primary = 0
rank g.Arguments = 15
rank g.NextArgument = 15

-- a shortest word of symbols
abbrev pub word : List Symbol → List TokenKind
word [] = []
word (Kept [] ∷ s) = word s
word (Kept (a ∷ any) ∷ s) = a ∷ word s
word (Mark a ∷ s) = a ∷ word s
word (Any a ∷ s) = word s
word (Here ∷ s) = word s
word (Of Once n ∷ s) = sample n ++ word s
word (Of Maybe n ∷ s) = word s
word (Of Many n ∷ s) = word s

abbrev pub head_of : List TokenKind → TokenKind → TokenKind
head_of [] b = b
head_of (x ∷ xs) b = x

abbrev pub is_none : Option (List Symbol) → Bool
is_none None = true
is_none (Some right) = false

-- a part can stand before a kind of token
abbrev pub fits : Times → Part → TokenKind → Bool
fits Once n x = one_of (follow n) x
fits Maybe n x = one_of (follow n) x && is_none (chosen (rows n) x)
fits Many n x = one_of (follow n) x && is_none (chosen (rows n) x)

abbrev pub is_some : List TokenKind → Bool
is_some [] = false
is_some (a ∷ any) = true

-- each of the symbols can be followed by what comes next
abbrev pub ok : List Symbol → TokenKind → Bool
ok [] b = true
ok (Kept any ∷ s) b = is_some any && ok s b
ok (Mark a ∷ s) b = ok s b
ok (Any a ∷ s) b = not (is (head_of (word s) b) a) && ok s b
ok (Here ∷ s) b = ok s b
ok (Of t n ∷ s) b = fits t n (head_of (word s) b) && ok s b

abbrev pub each : List TokenKind → (TokenKind → Bool) → Bool
each [] p = true
each (x ∷ xs) p = p x && each xs p

abbrev pub each_row : List Row → (List Symbol → Bool) → Bool
each_row [] p = true
each_row (At next right ∷ others) p = p right && each_row others p
each_row (Else right ∷ others) p = p right && each_row others p

abbrev pub same_word : List TokenKind → List TokenKind → Bool
same_word [] [] = true
same_word (x ∷ xs) [] = false
same_word [] (y ∷ ys) = false
same_word (x ∷ xs) (y ∷ ys) = is x y && same_word xs ys

-- the parts that stand once have lower numbers
abbrev pub below : ℕ → List Symbol → Bool
below k [] = true
below k (Of Once n ∷ s) = not (nat_le k (rank n)) && below k s
below k (_ ∷ s) = below k s

-- a right side that makes the word
abbrev pub makes : Part → Option (List Symbol) → Bool
makes n None = false
makes n (Some right) = same_word (word right) (sample n) && below (rank n) right

-- the three tables fit the grammar at a part
abbrev pub fits_grammar : Part → Bool
fits_grammar n =
    each (follow n) (λ x. each_row (rows n) (λ right. ok right x))
    && each (follow n) (λ x. makes n (chosen (rows n) (head_of (sample n) x)))

-- a part can stand at the end of the tokens
abbrev pub may_end : Part → Bool
may_end n = one_of (follow n) k.EndOfSource

pub all_fit : (n : Part) → fits_grammar n ≡ true
unfolding is
all_fit g.Program = refl
all_fit _ = refl

pub all_end : (n : Part) → may_end n ≡ true
unfolding is
all_end g.Program = refl
all_end _ = refl
