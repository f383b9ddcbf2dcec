-- Each part of two derivations of one shape gives items that differ in numbers alone.
use Rattle.std.proofs.Common.{◌≡◌, Bool, true, false, List, [], ◌∷◌, Some, None, subst, if◌then◌else◌}
use Rattle.std.proofs.lemmas.Bool.{false≢true}
use Rattle.sim_base.specs.declared.token.TokenKind.{TokenKind}
use Rattle.sim_tree.specs.Grammar as g
use Rattle.sim_tree.specs.Grammar.{At, Else, Part, Row, Symbol, chosen, one_of, right_side, rows}
use Rattle.print_reads.proofs.Carried.{InRows, behind, here_at, here_else}
use Rattle.print_reads.proofs.CarriedExpressions as e
use Rattle.print_reads.proofs.CarriedExpressions.{Gives}
use Rattle.print_reads.proofs.CarriedDeclarations as d
use Rattle.print_reads.proofs.CarriedStatements as x
use Rattle.print_reads.proofs.CarriedBlocks as b

-- The right side that is taken is one of the table.
pub in_rows : (rs : List Row) (a : TokenKind) (right : List Symbol) → chosen rs a ≡ Some right → InRows rs right
in_rows [] a right is = absurd (no is)
  where
    no : None ≡ Some right → ⊥
    no is = cc
in_rows (At next x ∷ []) a right is = go (one_of next a) is
  where
    same : Some x ≡ Some right → x ≡ right
    same is = cc

    no : None ≡ Some right → ⊥
    no is = cc

    go : (b : Bool) → (if b then Some x else None) ≡ Some right → InRows (At next x ∷ []) right
    go true is = subst (InRows (At next x ∷ [])) (same is) here_at
    go false is = absurd (no is)
in_rows (At next x ∷ row ∷ others) a right is = go (one_of next a) is (λ is. in_rows (row ∷ others) a right is)
  where
    same : Some x ≡ Some right → x ≡ right
    same is = cc

    go : (b : Bool) → (if b then Some x else chosen (row ∷ others) a) ≡ Some right → (chosen (row ∷ others) a ≡ Some right → InRows (row ∷ others) right) → InRows (At next x ∷ row ∷ others) right
    go true is later = subst (InRows (At next x ∷ row ∷ others)) (same is) here_at
    go false is later = behind (later is)
in_rows (Else x ∷ others) a right is = subst (InRows (Else x ∷ others)) (same is) here_else
  where
    same : Some x ≡ Some right → x ≡ right
    same is = cc

-- The three parts whose tokens are not those of the table, or hang on the next one: these are looked at apart.
abbrev pub is_plain : Part → Bool
is_plain g.AfterDeclaration = false
is_plain g.Protection = false
is_plain g.TypeName = false
is_plain _ = true

pub gives : (n : Part) → is_plain n ≡ true → Gives n
gives g.Program plain = b.program
gives g.Compound plain = b.compound
gives g.Block plain = b.block_part
gives g.AfterDeclaration plain = absurd (false≢true plain)
gives g.AfterIdentifier plain = b.after_identifier
gives g.Declaration plain = b.declaration_part
gives g.TypedDeclaration plain = d.typed_declaration
gives g.NextArraySegment plain = d.next_array_segment
gives g.NextVariable plain = d.next_variable_part
gives g.TypeName plain = absurd (false≢true plain)
gives g.Variable plain = d.variable_part
gives g.Value plain = d.value_part
gives g.Constant plain = d.constant_part
gives g.Identifiers plain = d.identifiers
gives g.NextIdentifier plain = d.next_identifier
gives g.ArraySegment plain = d.array_segment
gives g.Bounds plain = d.bounds_part
gives g.NextBounds plain = d.next_bounds_part
gives g.Procedure plain = b.procedure_part
gives g.Heading plain = d.heading
gives g.Mode plain = d.mode
gives g.Specification plain = d.specification
gives g.SpecifiedKind plain = d.specified_kind
gives g.Class plain = b.class_part
gives g.Protection plain = absurd (false≢true plain)
gives g.AndProtected plain = d.and_protected
gives g.AndHidden plain = d.and_hidden
gives g.Virtuals plain = d.virtuals_part
gives g.VirtualSpecification plain = d.virtual_specification
gives g.NextStatement plain = x.next_statement
gives g.Statement plain = x.statement_part
gives g.StatementOfIdentifier plain = x.statement_of_identifier
gives g.AfterFirstOperand plain = x.after_first_operand
gives g.Assigned plain = x.assigned
gives g.ElseBranch plain = x.else_branch
gives g.ForList plain = x.for_list
gives g.NextForElement plain = x.next_for_element
gives g.NextReferenceElement plain = x.next_reference_element
gives g.Arms plain = x.arms_part
gives g.OtherwiseBranch plain = x.otherwise_branch
gives g.ForElement plain = x.for_element
gives g.ForElementTail plain = x.for_element_tail
gives g.ReferenceElement plain = x.reference_element
gives g.ReferenceElementTail plain = x.reference_element_tail
gives g.WhenArm plain = x.when_arm
gives g.Timing plain = x.timing
gives g.PriorMark plain = x.prior_mark
gives g.Expression plain = e.expression
gives g.SimpleExpression plain = e.simple
gives g.NextOrElse plain = e.or_else
gives g.AndThen plain = e.and_thens
gives g.NextAndThen plain = e.and_then
gives g.Equivalence plain = e.equivalence
gives g.NextEquivalence plain = e.equivalent
gives g.Implication plain = e.implication
gives g.NextImplication plain = e.implies
gives g.Disjunction plain = e.disjunction
gives g.NextOr plain = e.or
gives g.Conjunction plain = e.conjunction
gives g.NextAnd plain = e.and
gives g.Negation plain = e.negation
gives g.NotSign plain = e.not_sign
gives g.Relation plain = e.relation_of
gives g.RelationTail plain = e.relation_tail
gives g.Concatenation plain = e.concatenation
gives g.NextConcatenated plain = e.concatenate
gives g.Sum plain = e.sum
gives g.LeadingSign plain = e.leading_sign
gives g.NextTerm plain = e.next_term
gives g.Term plain = e.term
gives g.NextFactor plain = e.next_factor
gives g.Factor plain = e.factor
gives g.NextPower plain = e.power
gives g.Postfix plain = e.postfix
gives g.Selection plain = e.selection
gives g.Primary plain = e.primary
gives g.Arguments plain = e.arguments
gives g.NextArgument plain = e.next_argument
