-- Of each part of the grammar: that what is inside its derivation is that of a tree.
use Rattle.std.proofs.Common.{◌≡◌, ◌≤◌, ◌<◌, ◌⊎◌, ℕ, ◌+◌, ◌-◌, true, List, [], ◌∷◌, length, map, Option}
use Rattle.sim_base.specs.declared.numbering.TokenNo.{TokenNo}
use Rattle.sim_base.specs.declared.token.Token.{Token}
use Rattle.sim_base.specs.declared.token.TokenKind.{TokenKind}
use Rattle.sim_base.specs.declared.token.TokenKind.TheVariants as k
use Rattle.sim_tree.specs.declared.expr.Expr.{Expr}
use Rattle.sim_tree.specs.declared.expr.Identifier.{Identifier}
use Rattle.sim_tree.specs.declared.expr.LeadingSign.{LeadingSign}
use Rattle.sim_tree.specs.declared.expr.Membership.{Membership}
use Rattle.sim_tree.specs.declared.expr.Operand.{Operand}
use Rattle.sim_tree.specs.declared.expr.Relation.{Relation}
use Rattle.sim_tree.specs.declared.program.BlockPrefix.{BlockPrefix}
use Rattle.sim_tree.specs.declared.stmt.Block.{Block}
use Rattle.sim_tree.specs.declared.stmt.Constant.{Constant}
use Rattle.sim_tree.specs.declared.stmt.Decl.{Decl}
use Rattle.sim_tree.specs.declared.stmt.ForElement.{ForElement}
use Rattle.sim_tree.specs.declared.stmt.ModePart.{ModePart}
use Rattle.sim_tree.specs.declared.stmt.ReferenceElement.{ReferenceElement}
use Rattle.sim_tree.specs.declared.stmt.Specification.{Specification}
use Rattle.sim_tree.specs.declared.stmt.Stmt.{Stmt}
use Rattle.sim_tree.specs.declared.stmt.TypeName.{TypeName}
use Rattle.sim_tree.specs.declared.stmt.VirtualSpecification.{VirtualSpecification}
use Rattle.sim_tree.specs.declared.stmt.When.{When}
use Rattle.sim_tree.specs.Grammar as g
use Rattle.sim_tree.specs.Grammar.{Any, Here, Kept, Many, Mark, Maybe, Of, Once, Part, Symbol, one_of}
use Rattle.sim_tree.specs.Reading.{Forest, done, kind_at, leaf, node, place, bare_leaf, value_at}
use Rattle.sim_tree.specs.Derivation.{argument, arguments, identifier, item, membership_kind, not_mark, operand_derivation, raise, relation_kind, row, selector_derivation, derivation_of, sign_kind, term_derivation, factor_derivation, whole}
use Rattle.sim_tree.specs.ProgramDerivation.{Plain, assigned_derivation, block_derivation, bounds_derivation, class_derivation, constant_derivation, contents, declaration_derivation, expr, for_element_derivation, for_elements, heading_derivation, ids, mode_derivation, next_bounds, next_for_element, next_id, next_reference_element, next_segment, next_statement, next_variable, prefixed, procedure_derivation, protection_derivation, reference_element_derivation, reference_elements, segment_derivation, specification_derivation, statement_derivation, timing_inside, type_derivation, variable_derivation, virtual_derivation, virtuals_derivation, when_derivation}
use Rattle.sim_readings.proofs.Table.{takes}

module _ {A : Type 0} where
  -- a tree that stands for this
  abbrev pub Made : (A → Forest) → Forest → Type 0
  Made view f = (x : A) × (view x ≡ f)

-- an expression of a level or of one below it
abbrev pub Levelled : ℕ → Forest → Type 0
Levelled m f = (x : Expr) × ((derivation_of x).level ≤ m) × (raise m (derivation_of x) ≡ f)

-- an operator and its right operand
abbrev pub Tailed : ℕ → TokenKind → Forest → Type 0
Tailed m kind f = (x : Operand) × (item m kind (operand_derivation x) ≡ f)

-- the token that the derivation of a statement begins with is that of its place
abbrev pub Begun : List Token → ℕ → Forest → Type 0
Begun ws i (leaf j kind value rest) = kind ≡ kind_at ws i
Begun ws i _ = Unit {0}

abbrev pub Contents : List Token → ℕ → Forest → Type 0
Contents ws i f = (ds : List Decl) × (ss : List Stmt) × (end : TokenNo) × (length ds ≤ length ws - i) × (length ss ≤ length ws + 1) × (contents (map declaration_derivation ds) (map statement_derivation ss) end.0 ≡ f)

abbrev pub Branch : Forest → Type 0
Branch f = (s : Stmt) × (node g.Statement (statement_derivation s) done ≡ f)

abbrev pub Good : List Token → Part → ℕ → Forest → Type 0
Good ws g.Program i f = (x : Option BlockPrefix) × (b : Block) × (prefixed x (node g.Compound (block_derivation b) done) ≡ f)
Good ws g.Compound i f = Made block_derivation f
Good ws g.Block i f = Contents ws i f
Good ws g.AfterDeclaration i f = f ≡ done
Good ws g.AfterIdentifier i f = (x : Identifier) → Contents ws i (identifier x (node g.AfterIdentifier f done))
Good ws g.Declaration i f = (d : Decl) × (declaration_derivation d ≡ Plain f)
Good ws g.TypedDeclaration i f = (t : TypeName) → (d : Decl) × (declaration_derivation d ≡ Plain (node g.TypeName (type_derivation t) (node g.TypedDeclaration f done)))
Good ws g.NextArraySegment i f = Made next_segment f
Good ws g.NextVariable i f = Made next_variable f
Good ws g.TypeName i f = Made type_derivation f
Good ws g.Variable i f = Made variable_derivation f
Good ws g.Value i f = (c : Constant) × (node g.Constant (constant_derivation c) done ≡ f)
Good ws g.Constant i f = Made constant_derivation f
Good ws g.Identifiers i f = (x : Identifier) × (xs : List Identifier) × (length xs ≤ length ws) × (ids (x ∷ xs) ≡ f)
Good ws g.NextIdentifier i f = Made next_id f
Good ws g.ArraySegment i f = Made segment_derivation f
Good ws g.Bounds i f = Made bounds_derivation f
Good ws g.NextBounds i f = Made next_bounds f
Good ws g.Procedure i f = Made procedure_derivation f
Good ws g.Heading i f =
    (ps : List Identifier) × (ms : List ModePart) × (ss : List Specification) × (length ps ≤ length ws + 1) × (length ms ≤ length ws + 1) × (length ss ≤ length ws + 1) × (heading_derivation ps ms ss ≡ f)
Good ws g.Mode i f = Made mode_derivation f
Good ws g.Specification i f = Made specification_derivation f
Good ws g.SpecifiedKind i f = (bare_leaf i k.Array done ≡ f) ⊎ (bare_leaf i k.Procedure done ≡ f)
Good ws g.Class i f = Made class_derivation f
Good ws g.Protection i f = Made protection_derivation f
Good ws g.AndProtected i f = bare_leaf i k.Protected done ≡ f
Good ws g.AndHidden i f = bare_leaf i k.Hidden done ≡ f
Good ws g.Virtuals i f = (vs : List VirtualSpecification) × (length vs ≤ length ws + 1) × ((rest : Forest) → virtuals_derivation vs rest ≡ node g.Virtuals f rest)
Good ws g.VirtualSpecification i f = Made virtual_derivation f
Good ws g.NextStatement i f = (s : Stmt) × (next_statement (statement_derivation s) ≡ f)
Good ws g.Statement i f = (s : Stmt) × (statement_derivation s ≡ f) × Begun ws i f
Good ws g.StatementOfIdentifier i f = (x : Identifier) → (s : Stmt) × (statement_derivation s ≡ identifier x f)
Good ws g.AfterFirstOperand i f =
    (x : Identifier) → (es : List Expr) → length es ≤ length ws + 1 → (s : Stmt) × (statement_derivation s ≡ identifier x (arguments (map derivation_of es) (node g.AfterFirstOperand f done)))
Good ws g.Assigned i f = Made assigned_derivation f
Good ws g.ElseBranch i f = Branch f
Good ws g.ForList i f =
    ((n : TokenNo) × (es : List ForElement) × (length es ≤ length ws + 1) × (bare_leaf n.0 k.Assign (for_elements es) ≡ f))
    ⊎ ((n : TokenNo) × (es : List ReferenceElement) × (length es ≤ length ws + 1) × (bare_leaf n.0 k.AssignReference (reference_elements es) ≡ f))
Good ws g.NextForElement i f = Made next_for_element f
Good ws g.NextReferenceElement i f = Made next_reference_element f
Good ws g.Arms i f =
    ((n : TokenNo) × (s : Stmt) × (end : TokenNo) × (bare_leaf n.0 k.Do (node g.Statement (statement_derivation s) (place end.0 done)) ≡ f))
    ⊎ ((arms : List When) × (length arms ≤ length ws + 1) × (row g.WhenArm (map when_derivation arms) done ≡ f))
Good ws g.OtherwiseBranch i f = Branch f
Good ws g.ForElement i f = Made for_element_derivation f
Good ws g.ForElementTail i f = (v : Expr) → (x : ForElement) × (for_element_derivation x ≡ expr v (node g.ForElementTail f done))
Good ws g.ReferenceElement i f = Made reference_element_derivation f
Good ws g.ReferenceElementTail i f = (v : Expr) → (x : ReferenceElement) × (reference_element_derivation x ≡ expr v (node g.ReferenceElementTail f done))
Good ws g.WhenArm i f = Made when_derivation f
Good ws g.Timing i f = Made timing_inside f
Good ws g.PriorMark i f = (n : TokenNo) × (bare_leaf n.0 k.Prior done ≡ f)
Good ws g.Expression i f = Levelled 14 f
Good ws g.SimpleExpression i f = Levelled 13 f
Good ws g.NextOrElse i f = Tailed 12 k.OrElse f
Good ws g.AndThen i f = Levelled 12 f
Good ws g.NextAndThen i f = Tailed 11 k.AndThen f
Good ws g.Equivalence i f = Levelled 11 f
Good ws g.NextEquivalence i f = Tailed 10 k.Eqv f
Good ws g.Implication i f = Levelled 10 f
Good ws g.NextImplication i f = Tailed 9 k.Imp f
Good ws g.Disjunction i f = Levelled 9 f
Good ws g.NextOr i f = Tailed 8 k.Or f
Good ws g.Conjunction i f = Levelled 8 f
Good ws g.NextAnd i f = Tailed 7 k.And f
Good ws g.Negation i f = Levelled 7 f
Good ws g.NotSign i f = Made not_mark f
Good ws g.Relation i f = Levelled 6 f
Good ws g.RelationTail i f =
    ((r : Relation) × (n : TokenNo) × (x : Expr) × (bare_leaf n.0 (relation_kind r) (node g.Concatenation (raise 5 (derivation_of x)) done) ≡ f))
    ⊎ ((r : Membership) × (n : TokenNo) × (x : Identifier) × (bare_leaf n.0 (membership_kind r) (identifier x done) ≡ f))
Good ws g.Concatenation i f = Levelled 5 f
Good ws g.NextConcatenated i f = Tailed 4 k.Ampersand f
Good ws g.Sum i f = Levelled 4 f
Good ws g.LeadingSign i f = (s : LeadingSign) × (bare_leaf s.token.0 (sign_kind s.sign) done ≡ f)
Good ws g.NextTerm i f = Made term_derivation f
Good ws g.Term i f = Levelled 3 f
Good ws g.NextFactor i f = Made factor_derivation f
Good ws g.Factor i f = Levelled 2 f
Good ws g.NextPower i f = Tailed 1 k.Power f
Good ws g.Postfix i f = (x : Expr) × ((derivation_of x).level ≤ 1) × (raise 1 (derivation_of x) ≡ f) × (rest : Forest) × (selected : Forest) × (f ≡ node g.Primary (leaf i (kind_at ws i) (value_at ws i) rest) selected)
Good ws g.Selection i f = Made selector_derivation f
Good ws g.Primary i f = (x : Expr) × ((derivation_of x).level ≡ 0) × (raise 0 (derivation_of x) ≡ f) × (rest : Forest) × (f ≡ leaf i (kind_at ws i) (value_at ws i) rest)
Good ws g.Arguments i f = (x : Expr) × (xs : List Expr) × (length xs ≤ length ws) × (node g.Expression (whole (derivation_of x)) (row g.NextArgument (map argument (map derivation_of xs)) done) ≡ f)
Good ws g.NextArgument i f = (x : Expr) × (argument (derivation_of x) ≡ f)

-- what a repeated part gave
abbrev pub Items : List Token → Part → List Forest → Type 0
Items ws n [] = Unit {0}
Items ws n (f ∷ fs) = ((i : ℕ) × Good ws n i f) × Items ws n fs

-- The derivation of symbols from a token on, whose parts are those of trees.
pub data Row (ws : List Token) : List Symbol → ℕ → Forest → Type 0 where
  nil : {i : ℕ} → Row ws [] i done
  kept : {i : ℕ} {any : List TokenKind} {s : List Symbol} {f : Forest} → one_of any (kind_at ws i) ≡ true → Row ws s (i + 1) f → Row ws (Kept any ∷ s) i (leaf i (kind_at ws i) (value_at ws i) f)
  mark : {i : ℕ} {a : TokenKind} {s : List Symbol} {f : Forest} → Row ws s (i + 1) f → Row ws (Mark a ∷ s) i f
  passed : {i j : ℕ} {a : TokenKind} {s : List Symbol} {f : Forest} → i ≤ j → Row ws s j f → Row ws (Any a ∷ s) i f
  here : {i : ℕ} {s : List Symbol} {f : Forest} → Row ws s i f → Row ws (Here ∷ s) i (place i f)
  once : {i m : ℕ} {n : Part} {s : List Symbol} {x f : Forest} → Good ws n i x → i ≤ m → (takes n ≡ true → (i < length ws) × (i < m)) → Row ws s m f → Row ws (Of Once n ∷ s) i (node n x f)
  there : {i m : ℕ} {n : Part} {s : List Symbol} {x f : Forest} → Good ws n i x → Row ws s m f → Row ws (Of Maybe n ∷ s) i (node n x f)
  absent : {i : ℕ} {n : Part} {s : List Symbol} {f : Forest} → Row ws s i f → Row ws (Of Maybe n ∷ s) i f
  many : {i m : ℕ} {n : Part} {s : List Symbol} {f : Forest} → (xs : List Forest) → Items ws n xs → length xs ≤ length ws - i → Row ws s m f → Row ws (Of Many n ∷ s) i (row n xs f)
