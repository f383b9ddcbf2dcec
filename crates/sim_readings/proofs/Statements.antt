-- The trees of statements, blocks and declarations that derivations are those of.
use Rattle.std.proofs.Common.{◌≡◌, ◌≤◌, ◌<◌, ℕ, suc, ◌+◌, inl, inr, true, List, [], ◌∷◌, length, map, Option, Some, None, refl, sym, ◌∙◌, ap, subst, arith}
use Rattle.std.proofs.lemmas.Bool.{false≢true}
use Rattle.std.specs.Prelude.{◌^◌}
use Rattle.std.specs.declared.alloc.Global.{Global}
use Rattle.std.specs.declared.vec.Vec.{Vec}
use Rattle.sim_base.specs.declared.numbering.TokenNo.{TokenNo}
use Rattle.sim_base.specs.declared.token.Token.{Token}
use Rattle.sim_base.specs.declared.token.TokenKind.{TokenKind}
use Rattle.sim_base.specs.declared.token.TokenKind.TheVariants as k
use Rattle.sim_base.specs.declared.token.TokenValue.{TokenValue}
use Rattle.sim_base.specs.declared.token.TokenValue.TheVariants as token_value
use Rattle.sim_base.specs.Lexeme.{value_for}
use Rattle.sim_tree.specs.declared.expr.Expr.{Expr}
use Rattle.sim_tree.specs.declared.expr.Expr.TheVariants as e
use Rattle.sim_tree.specs.declared.expr.Identifier.{Identifier}
use Rattle.sim_tree.specs.declared.program.BlockPrefix.{BlockPrefix}
use Rattle.sim_tree.specs.declared.stmt.Activation.{Activation}
use Rattle.sim_tree.specs.declared.stmt.Activation.TheVariants as activation
use Rattle.sim_tree.specs.declared.stmt.Assigned.{Assigned}
use Rattle.sim_tree.specs.declared.stmt.Assignment.{Assignment}
use Rattle.sim_tree.specs.declared.stmt.Assignment.TheVariants as assignment
use Rattle.sim_tree.specs.declared.stmt.Decl.TheVariants as decl
use Rattle.sim_tree.specs.declared.stmt.Decl.TheViews.{roll-Block, roll-Class, roll-Procedure, roll-When}
use Rattle.sim_tree.specs.declared.stmt.ForElement.TheVariants as for_element
use Rattle.sim_tree.specs.declared.stmt.ReferenceElement.TheVariants as reference_element
use Rattle.sim_tree.specs.declared.stmt.Stmt.{Stmt}
use Rattle.sim_tree.specs.declared.stmt.Stmt.TheVariants as s
use Rattle.sim_tree.specs.declared.stmt.Timing.{Timing}
use Rattle.sim_tree.specs.declared.stmt.Timing.TheVariants as timing
use Rattle.sim_tree.specs.declared.stmt.VirtualSpecification.{VirtualSpecification}
use Rattle.sim_tree.specs.Grammar as g
use Rattle.sim_tree.specs.Grammar.{Any, Here, Kept, Many, Mark, Maybe, Of, Once, Part, Symbol, assignments, chosen, is, just, one_of, rows}
use Rattle.sim_tree.specs.Reading.{Forest, done, kind_at, leaf, node, place, bare_leaf, value_at}
use Rattle.sim_tree.specs.Derivation.{Derivation, arguments, identifier, raise, row, selector_derivation, derivation_of}
use Rattle.sim_tree.specs.ProgramDerivation.{Plain, acted, activation_kind, assigned_derivation, assignment_kind, begun, block_derivation, contents, declaration_derivation, expr, joined, next_for_element, next_reference_element, next_segment, next_statement, next_variable, prior_derivation, protection_derivation, statement_derivation, timing_inside, when_derivation}
use Rattle.sim_tree.proofs.StatementLemmas as says
use Rattle.sim_tree.proofs.DerivationLemmas as shows
use Rattle.sim_expr_parser.proofs.Tokens.{is_bare}
use Rattle.sim_readings.proofs.Expressions.{actuals, selected_of}
use Rattle.sim_readings.proofs.Making.{at, bare-is, beside, boxed, gather, leaf-is, level-made, listed, maps, name_of, named, node-is, row-is, word-is}
use Rattle.sim_readings.proofs.Parts.{Begun, Good, Items, Levelled, Row, absent, here, kept, many, mark, nil, once, passed, there}

-- ---- what tokens stand for

assignment_in : (x : TokenKind) → one_of assignments x ≡ true → (a : Assignment) × (x ≡ assignment_kind a) × (is_bare (assignment_kind a) ≡ true)
unfolding is
assignment_in k.Assign h = (assignment.Value, refl, refl)
assignment_in k.AssignReference h = (assignment.Reference, refl, refl)
assignment_in _ h = absurd (false≢true h)

activation_in : (x : TokenKind) → one_of (k.Activate ∷ k.Reactivate ∷ []) x ≡ true → (a : Activation) × (x ≡ activation_kind a) × (is_bare (activation_kind a) ≡ true)
unfolding is
activation_in k.Activate h = (activation.Activate, refl, refl)
activation_in k.Reactivate h = (activation.Reactivate, refl, refl)
activation_in _ h = absurd (false≢true h)

time_in : (i : ℕ) (x : TokenKind) (held : TokenValue) → one_of (k.At ∷ k.Delay ∷ []) x ≡ true → (v : Expr) (prior : Option TokenNo) → (a : Timing) × (timing_inside a ≡ leaf i x (value_for x held) (expr v (prior_derivation prior)))
unfolding is
time_in i k.At held h v prior = (timing.At (at i) v prior, refl)
time_in i k.Delay held h v prior = (timing.Delay (at i) v prior, refl)
time_in i _ held h v prior = absurd (false≢true h)

place_in : (i : ℕ) (x : TokenKind) (held : TokenValue) → one_of (k.Before ∷ k.After ∷ []) x ≡ true → (v : Expr) → (a : Timing) × (timing_inside a ≡ leaf i x (value_for x held) (expr v done))
unfolding is
place_in i k.Before held h v = (timing.Before (at i) v, refl)
place_in i k.After held h v = (timing.After (at i) v, refl)
place_in i _ held h v = absurd (false≢true h)

-- ---- a statement that an identifier does not begin

abbrev operand_row : List Symbol
operand_row = Of Once g.Postfix ∷ Of Many g.Assigned ∷ []

abbrev statements_row : List Symbol
statements_row = Of Once g.Statement ∷ Of Many g.NextStatement ∷ Kept (just k.End) ∷ []

acted_other : (i : ℕ) (x : TokenKind) (held : TokenValue) (f selected rest : Forest) → chosen (rows g.Statement) x ≡ Some operand_row
    → acted (node g.Primary (leaf i x held f) selected) rest ≡ node g.Postfix (node g.Primary (leaf i x held f) selected) rest
unfolding is
acted_other i k.Identifier held f selected rest h = absurd (cc)
acted_other i _ held f selected rest h = refl

begun_other : (i : ℕ) (x : TokenKind) (held : TokenValue) (f rest : Forest) → chosen (rows g.Block) x ≡ Some statements_row → begun (leaf i x held f) rest ≡ node g.Statement (leaf i x held f) rest
unfolding is
begun_other i k.Identifier held f rest h = absurd (cc)
begun_other i _ held f rest h = refl

begun_none : (ws : List Token) (i : ℕ) (x rest : Forest) → Begun ws i x → chosen (rows g.Block) (kind_at ws i) ≡ Some statements_row → begun x rest ≡ node g.Statement x rest
begun_none ws i (leaf j x held f) rest b h = begun_other j x held f rest (subst (λ z. chosen (rows g.Block) z ≡ Some statements_row) (sym b) h)
begun_none ws i done rest b h = refl
begun_none ws i (place j f) rest b h = refl
begun_none ws i (node n x f) rest b h = refl

-- ---- an operation that an identifier begins

joined_row : (n : Part) (fs : List Forest) (rest : Forest) → joined (row n fs done) rest ≡ row n fs rest
joined_row n [] rest = refl
joined_row n (f ∷ fs) rest = ap (node n f) (joined_row n fs rest)

joined_arguments : (l : List Derivation) (rest : Forest) → joined (arguments l done) rest ≡ arguments l rest
joined_arguments [] rest = refl
joined_arguments (x ∷ xs) rest = refl

acted_named : (x : Identifier) (l : List Derivation) (fs : List Forest) (rest : Forest)
    → acted (node g.Primary (identifier x (arguments l done)) (row g.Selection fs done)) rest ≡ identifier x (arguments l (node g.AfterFirstOperand (row g.Selection fs rest) done))
acted_named x l fs rest =
    ap (λ z. leaf x.token.0 k.Identifier (token_value.Bytes x.name) (joined (arguments l done) (node g.AfterFirstOperand z done))) (joined_row g.Selection fs rest)
    ∙ ap (leaf x.token.0 k.Identifier (token_value.Bytes x.name)) (joined_arguments l (node g.AfterFirstOperand (row g.Selection fs rest) done))

-- a call, or assignments
operation : (left : Expr) {h : Forest} → raise 1 (derivation_of left) ≡ h → {xs : List Forest} (l : List Assigned) → map assigned_derivation l ≡ xs → length l < 2 ^ 63 → (a : Stmt) × (statement_derivation a ≡ acted h (row g.Assigned xs done))
operation left {h = h} is [] es some = (s.Call left, says.derivation-Call left ∙ ap (λ z. acted z done) is ∙ ap (λ l. acted h (row g.Assigned l done)) es)
operation left {h = h} is (y ∷ ys) es some = (
  s.Assignment left (listed (y ∷ ys) some),
  says.derivation-Assignment left (listed (y ∷ ys) some) ∙ ap (λ z. acted z (row g.Assigned (map assigned_derivation (y ∷ ys)) done)) is ∙ ap (λ l. acted h (row g.Assigned l done)) es,
)

module _ (ws : List Token) (room : (n : ℕ) → n ≤ length ws + 1 → n < 2 ^ 63) where
  -- ---- blocks

  pub compound : {i : ℕ} {f : Forest} → Row ws (Kept (just k.Begin) ∷ Any k.Semicolon ∷ Of Once g.Block ∷ []) i f → Good ws g.Compound i f
  compound {i = i} (kept h (passed past (once a ahead took nil))) =
      let ds = listed a.0 (room (length a.0) (omega (arith, a.3))) in
      let ss = listed a.1 (room (length a.1) a.4) in
      (roll-Block (record { token = at i; declarations = ds; statements = ss; end = a.2 }), says.derivation-block (at i) ds ss a.2 ∙ word-is ws i k.Begin refl h (node-is g.Block a.5 refl))

  pub declared_row : {i : ℕ} {f : Forest} → Row ws (Of Once g.Declaration ∷ Of Once g.AfterDeclaration ∷ Any k.Semicolon ∷ Of Once g.Block ∷ []) i f → Good ws g.Block i f
  declared_row (once d ahead took (once a ahead' took' (passed past (once b ahead'' took'' nil)))) =
      let some = took refl in (
        d.0 ∷ b.0,
        b.1,
        b.2,
        omega (arith, some.0, some.1, ahead', past, b.3),
        b.4,
        ap (λ z. contents (z ∷ map declaration_derivation b.0) (map statement_derivation b.1) b.2.0) d.1 ∙ node-is g.Declaration refl (node-is g.AfterDeclaration (sym a) (node-is g.Block b.5 refl)),
      )

  pub identified_row : {i : ℕ} {f : Forest} → Row ws (Kept (just k.Identifier) ∷ Of Once g.AfterIdentifier ∷ []) i f → Good ws g.Block i f
  identified_row {i = i} (kept h (once a ahead took nil)) =
      let x = name_of ws i h in
      let b = a (named i x.0) in (b.0, b.1, b.2, omega (arith, b.3), b.4, b.5 ∙ leaf-is (sym x.1) (sym x.2) refl)

  pub end_row : {i : ℕ} {f : Forest} → Row ws (Kept (just k.End) ∷ []) i f → Good ws g.Block i f
  end_row {i = i} (kept h nil) = ([], [], at i, omega arith, omega arith, word-is ws i k.End refl h refl)

  -- further statements
  more : (xs : List Forest) → Items ws g.NextStatement xs → (l : List Stmt) × (map next_statement (map statement_derivation l) ≡ xs) × (length l ≡ length xs)
  more xs its = let l = gather ws (λ x. next_statement (statement_derivation x)) g.NextStatement (λ i f x. x) xs its in (l.0, maps next_statement statement_derivation l.0 ∙ l.1, l.2)

  pub statement_list : {i : ℕ} {f : Forest} → chosen (rows g.Block) (kind_at ws i) ≡ Some statements_row → Row ws statements_row i f → Good ws g.Block i f
  statement_list {i = i} e (once {x = x} a ahead took (many xs its small (kept {i = j} h nil))) =
      let l = more xs its in (
        [],
        a.0 ∷ l.0,
        at j,
        omega arith,
        omega (arith, l.2, small),
        ap (λ z. begun z (row g.NextStatement (map next_statement (map statement_derivation l.0)) (bare_leaf j k.End done))) a.1
            ∙ begun_none ws i x (row g.NextStatement (map next_statement (map statement_derivation l.0)) (bare_leaf j k.End done)) a.2 e
            ∙ node-is g.Statement refl (row-is g.NextStatement l.1 (word-is ws j k.End refl h refl)),
      )

  pub prefixed_class : {i : ℕ} {f : Forest} → Row ws (Kept (just k.Class) ∷ Of Once g.Class ∷ Of Once g.AfterDeclaration ∷ Any k.Semicolon ∷ Of Once g.Block ∷ []) i f → Good ws g.AfterIdentifier i f
  prefixed_class {i = i} (kept h (once c ahead took (once a ahead' took' (passed past (once b ahead'' took'' nil))))) x =
      let some = took refl in (
        decl.Class (Some x) (at i) c.0 ∷ b.0,
        b.1,
        b.2,
        omega (arith, some.0, some.1, ahead', past, b.3),
        b.4,
        ap (λ z. contents (z ∷ map declaration_derivation b.0) (map statement_derivation b.1) b.2.0) (says.derivation-Class-prefixed x (at i) c.0)
            ∙ leaf-is refl refl (node-is g.AfterIdentifier (word-is ws i k.Class refl h (node-is g.Class c.1 (node-is g.AfterDeclaration (sym a) (node-is g.Block b.5 refl)))) refl),
      )

  pub identified_statements : {i : ℕ} {f : Forest} → Row ws (Of Once g.StatementOfIdentifier ∷ Of Many g.NextStatement ∷ Kept (just k.End) ∷ []) i f → Good ws g.AfterIdentifier i f
  identified_statements (once a ahead took (many xs its small (kept {i = j} h nil))) x =
      let y = a x in
      let l = more xs its in (
        [],
        y.0 ∷ l.0,
        at j,
        omega arith,
        omega (arith, l.2, small),
        ap (λ z. begun z (row g.NextStatement (map next_statement (map statement_derivation l.0)) (bare_leaf j k.End done))) y.1
            ∙ leaf-is refl refl (node-is g.AfterIdentifier (node-is g.StatementOfIdentifier refl (row-is g.NextStatement l.1 (word-is ws j k.End refl h refl))) refl),
      )

  pub ended_by_semicolon : {i : ℕ} {f : Forest} → Row ws (Mark k.Semicolon ∷ []) i f → Good ws g.AfterDeclaration i f
  ended_by_semicolon (mark nil) = refl

  pub ended_by_end : {i : ℕ} {f : Forest} → Row ws [] i f → Good ws g.AfterDeclaration i f
  ended_by_end nil = refl

  -- ---- declarations

  pub typed_row : {i : ℕ} {f : Forest} → Row ws (Of Once g.TypeName ∷ Of Once g.TypedDeclaration ∷ []) i f → Good ws g.Declaration i f
  typed_row (once a ahead took (once b ahead' took' nil)) = let d = b a.0 in (d.0, d.1 ∙ ap Plain (node-is g.TypeName a.1 refl))

  pub procedure_row : {i : ℕ} {f : Forest} → Row ws (Kept (just k.Procedure) ∷ Of Once g.Procedure ∷ []) i f → Good ws g.Declaration i f
  procedure_row {i = i} (kept h (once a ahead took nil)) =
      (decl.Procedure None (at i) a.0, says.derivation-Procedure (at i) a.0 ∙ ap Plain (word-is ws i k.Procedure refl h (node-is g.Procedure a.1 refl)))

  pub class_row : {i : ℕ} {f : Forest} → Row ws (Kept (just k.Class) ∷ Of Once g.Class ∷ []) i f → Good ws g.Declaration i f
  class_row {i = i} (kept h (once a ahead took nil)) =
      (decl.Class None (at i) a.0, says.derivation-Class (at i) a.0 ∙ ap Plain (word-is ws i k.Class refl h (node-is g.Class a.1 refl)))

  pub typed_procedure : {i : ℕ} {f : Forest} → Row ws (Kept (just k.Procedure) ∷ Of Once g.Procedure ∷ []) i f → Good ws g.TypedDeclaration i f
  typed_procedure {i = i} (kept h (once a ahead took nil)) x = (
    decl.Procedure (Some x) (at i) a.0,
    says.derivation-Procedure-typed x (at i) a.0 ∙ ap Plain (node-is g.TypeName refl (node-is g.TypedDeclaration (word-is ws i k.Procedure refl h (node-is g.Procedure a.1 refl)) refl)),
  )

  pub arrays : {i : ℕ} {f : Forest} → Row ws (Kept (just k.Array) ∷ Of Once g.ArraySegment ∷ Of Many g.NextArraySegment ∷ []) i f → Good ws g.TypedDeclaration i f
  arrays {i = i} (kept h (once a ahead took (many xs its small nil))) x =
      let l = gather ws next_segment g.NextArraySegment (λ i f y. y) xs its in
      let v = listed (a.0 ∷ l.0) (room (suc (length l.0)) (omega (arith, l.2, small))) in (
        decl.Arrays x (at i) v,
        says.derivation-Arrays x (at i) v
            ∙ ap Plain (node-is g.TypeName refl (node-is g.TypedDeclaration (word-is ws i k.Array refl h (node-is g.ArraySegment a.1 (row-is g.NextArraySegment l.1 refl))) refl)),
      )

  pub variables : {i : ℕ} {f : Forest} → Row ws (Of Once g.Variable ∷ Of Many g.NextVariable ∷ []) i f → Good ws g.TypedDeclaration i f
  variables (once a ahead took (many xs its small nil)) x =
      let l = gather ws next_variable g.NextVariable (λ i f y. y) xs its in
      let v = listed (a.0 ∷ l.0) (room (suc (length l.0)) (omega (arith, l.2, small))) in
      (decl.Variables x v, says.derivation-Variables x v ∙ ap Plain (node-is g.TypeName refl (node-is g.TypedDeclaration (node-is g.Variable a.1 (row-is g.NextVariable l.1 refl)) refl)))

  pub procedure : {i : ℕ} {f : Forest} → Row ws (Kept (just k.Identifier) ∷ Of Once g.Heading ∷ Of Once g.Statement ∷ Here ∷ []) i f → Good ws g.Procedure i f
  procedure {i = i} (kept h (once a ahead took (once b ahead' took' (here {i = j} nil)))) =
      let x = name_of ws i h in
      let ps = listed a.0 (room (length a.0) a.3) in
      let ms = listed a.1 (room (length a.1) a.4) in
      let ss = listed a.2 (room (length a.2) a.5) in (
        roll-Procedure (record { name = named i x.0; parameters = ps; modes = ms; specifications = ss; body = boxed b.0; end = at j }),
        says.derivation-procedure (named i x.0) ps ms ss (boxed b.0) (at j) ∙ leaf-is (sym x.1) (sym x.2) (node-is g.Heading a.6 (node-is g.Statement b.1 refl)),
      )

  pub class : {i : ℕ} {f : Forest} → Row ws (Kept (just k.Identifier) ∷ Of Once g.Heading ∷ Of Many g.Protection ∷ Of Maybe g.Virtuals ∷ Of Once g.Statement ∷ Here ∷ []) i f → Good ws g.Class i f
  class {i = i} (kept h (once a ahead took (many xs its small (absent (once b ahead' took' (here {i = j} nil)))))) =
      let x = name_of ws i h in
      let ps = listed a.0 (room (length a.0) a.3) in
      let ms = listed a.1 (room (length a.1) a.4) in
      let ss = listed a.2 (room (length a.2) a.5) in
      let l = gather ws protection_derivation g.Protection (λ i f y. y) xs its in
      let rs = listed l.0 (room (length l.0) (omega (arith, l.2, small))) in
      let vs : Vec VirtualSpecification Global = listed [] (room 0 (omega arith)) in (
        roll-Class (record { name = named i x.0; parameters = ps; modes = ms; specifications = ss; protections = rs; virtuals = vs; body = boxed b.0; end = at j }),
        says.derivation-class (named i x.0) ps ms ss rs vs (boxed b.0) (at j) ∙ leaf-is (sym x.1) (sym x.2) (node-is g.Heading a.6 (row-is g.Protection l.1 (node-is g.Statement b.1 refl))),
      )
  class {i = i} (kept h (once a ahead took (many xs its small (there c (once b ahead' took' (here {i = j} nil)))))) =
      let x = name_of ws i h in
      let ps = listed a.0 (room (length a.0) a.3) in
      let ms = listed a.1 (room (length a.1) a.4) in
      let ss = listed a.2 (room (length a.2) a.5) in
      let l = gather ws protection_derivation g.Protection (λ i f y. y) xs its in
      let rs = listed l.0 (room (length l.0) (omega (arith, l.2, small))) in
      let vs = listed c.0 (room (length c.0) c.1) in (
        roll-Class (record { name = named i x.0; parameters = ps; modes = ms; specifications = ss; protections = rs; virtuals = vs; body = boxed b.0; end = at j }),
        says.derivation-class (named i x.0) ps ms ss rs vs (boxed b.0) (at j)
            ∙ leaf-is (sym x.1) (sym x.2) (node-is g.Heading a.6 (row-is g.Protection l.1 (c.2 (node g.Statement (statement_derivation b.0) (place j done)) ∙ node-is g.Virtuals refl (node-is g.Statement b.1 refl)))),
      )

  -- ---- statements

  pub next_statement_row : {i : ℕ} {f : Forest} → Row ws (Mark k.Semicolon ∷ Of Once g.Statement ∷ []) i f → Good ws g.NextStatement i f
  next_statement_row (mark (once a ahead took nil)) = (a.0, node-is g.Statement a.1 refl)

  pub begin_row : {i : ℕ} {f : Forest} → Row ws (Of Once g.Compound ∷ []) i f → Good ws g.Statement i f
  begin_row (once a ahead took nil) = (s.Block a.0, says.derivation-Block a.0 ∙ node-is g.Compound a.1 refl, tt)

  pub identifier_row : {i : ℕ} {f : Forest} → Row ws (Kept (just k.Identifier) ∷ Of Maybe g.Arguments ∷ Of Once g.AfterFirstOperand ∷ []) i f → Good ws g.Statement i f
  identifier_row {i = i} (kept h (absent (once a ahead took nil))) =
      let x = name_of ws i h in
      let y = a (named i x.0) [] (omega arith) in (y.0, y.1 ∙ leaf-is (sym x.1) (sym x.2) refl, refl)
  identifier_row {i = i} (kept h (there b (once {x = z} a ahead took nil))) =
      let x = name_of ws i h in
      let l = actuals ws room i b (node g.AfterFirstOperand z done) in
      let y = a (named i x.0) l.0 l.1 in (y.0, y.1 ∙ leaf-is (sym x.1) (sym x.2) l.2, refl)

  pub of_identifier : {i : ℕ} {f : Forest} → Row ws (Of Maybe g.Arguments ∷ Of Once g.AfterFirstOperand ∷ []) i f → Good ws g.StatementOfIdentifier i f
  of_identifier (absent (once a ahead took nil)) x = a x [] (omega arith)
  of_identifier {i = i} (there b (once {x = z} a ahead took nil)) x =
      let l = actuals ws room i b (node g.AfterFirstOperand z done) in
      let y = a x l.0 l.1 in (y.0, y.1 ∙ leaf-is refl refl l.2)

  pub prefixed_block : {i : ℕ} {f : Forest} → Row ws (Of Once g.Compound ∷ []) i f → Good ws g.AfterFirstOperand i f
  prefixed_block (once a ahead took nil) x es small =
      let p : BlockPrefix = record { class = x; arguments = listed es (room (length es) small) } in
      (s.PrefixedBlock p a.0, says.derivation-PrefixedBlock p a.0 ∙ ap (λ z. identifier x (arguments (map derivation_of es) z)) (node-is g.AfterFirstOperand (node-is g.Compound a.1 refl) refl))

  pub operated_row : {i : ℕ} {f : Forest} → Row ws (Of Many g.Selection ∷ Of Many g.Assigned ∷ []) i f → Good ws g.AfterFirstOperand i f
  operated_row (many xs its small (many ys its' small' nil)) x es few =
      let v = listed es (room (length es) few) in
      let selectors = gather ws selector_derivation g.Selection (λ i f y. y) xs its in
      let front : Levelled 0 (identifier x (arguments (map derivation_of es) done)) = level-made 0 (e.Named x v) (identifier x (arguments (map derivation_of es) done)) (shows.derivation-Named x v) refl in
      let left = selected_of ws room selectors.0 selectors.1 (room (length selectors.0) (omega (arith, selectors.2, small))) front in
      let l = gather ws assigned_derivation g.Assigned (λ i f y. y) ys its' in
      let a = operation left.0 left.2 l.0 l.1 (room (length l.0) (omega (arith, l.2, small'))) in (a.0, a.1 ∙ acted_named x (map derivation_of es) xs (row g.Assigned ys done))

  pub inner_row : {i : ℕ} {f : Forest} → Row ws (Kept (just k.Inner) ∷ []) i f → Good ws g.Statement i f
  inner_row {i = i} (kept h nil) = (s.Inner (at i), says.derivation-Inner (at i) ∙ word-is ws i k.Inner refl h refl, refl)

  pub operand_statement : {i : ℕ} {f : Forest} → chosen (rows g.Statement) (kind_at ws i) ≡ Some operand_row → Row ws operand_row i f → Good ws g.Statement i f
  operand_statement {i = i} e (once a ahead took (many xs its small nil)) =
      let l = gather ws assigned_derivation g.Assigned (λ i f y. y) xs its in
      let b = operation a.0 (a.2 ∙ a.5) l.0 l.1 (room (length l.0) (omega (arith, l.2, small))) in
      (b.0, b.1 ∙ acted_other i (kind_at ws i) (value_at ws i) a.3 a.4 (row g.Assigned xs done) e ∙ node-is g.Postfix (sym a.5) refl, tt)

  pub if_row : {i : ℕ} {f : Forest} → Row ws (Kept (just k.If) ∷ Of Once g.Expression ∷ Mark k.Then ∷ Of Once g.Statement ∷ Of Maybe g.ElseBranch ∷ []) i f → Good ws g.Statement i f
  if_row {i = i} (kept h (once a ahead took (mark (once b ahead' took' (absent nil))))) =
      (s.If (at i) a.0 (boxed b.0) None, says.derivation-If (at i) a.0 (boxed b.0) ∙ word-is ws i k.If refl h (node-is g.Expression a.2 (node-is g.Statement b.1 refl)), refl)
  if_row {i = i} (kept h (once a ahead took (mark (once b ahead' took' (there c nil))))) = (
    s.If (at i) a.0 (boxed b.0) (Some (boxed c.0)),
    says.derivation-If-two (at i) a.0 (boxed b.0) (boxed c.0) ∙ word-is ws i k.If refl h (node-is g.Expression a.2 (node-is g.Statement b.1 (node-is g.ElseBranch c.1 refl))),
    refl,
  )

  pub while_row : {i : ℕ} {f : Forest} → Row ws (Kept (just k.While) ∷ Of Once g.Expression ∷ Mark k.Do ∷ Of Once g.Statement ∷ []) i f → Good ws g.Statement i f
  while_row {i = i} (kept h (once a ahead took (mark (once b ahead' took' nil)))) =
      (s.While (at i) a.0 (boxed b.0), says.derivation-While (at i) a.0 (boxed b.0) ∙ word-is ws i k.While refl h (node-is g.Expression a.2 (node-is g.Statement b.1 refl)), refl)

  pub for_row : {i : ℕ} {f : Forest} → Row ws (Kept (just k.For) ∷ Kept (just k.Identifier) ∷ Of Once g.ForList ∷ Mark k.Do ∷ Of Once g.Statement ∷ []) i f → Good ws g.Statement i f
  for_row {i = i} (kept h (kept c (once (inl a) ahead took (mark (once b ahead' took' nil))))) =
      let x = name_of ws (i + 1) c in
      let v = listed a.1 (room (length a.1) a.2) in (
        s.For (at i) (named (i + 1) x.0) a.0 v (boxed b.0),
        says.derivation-For (at i) (named (i + 1) x.0) a.0 v (boxed b.0) ∙ word-is ws i k.For refl h (leaf-is (sym x.1) (sym x.2) (node-is g.ForList a.3 (node-is g.Statement b.1 refl))),
        refl,
      )
  for_row {i = i} (kept h (kept c (once (inr a) ahead took (mark (once b ahead' took' nil))))) =
      let x = name_of ws (i + 1) c in
      let v = listed a.1 (room (length a.1) a.2) in (
        s.ForReference (at i) (named (i + 1) x.0) a.0 v (boxed b.0),
        says.derivation-ForReference (at i) (named (i + 1) x.0) a.0 v (boxed b.0) ∙ word-is ws i k.For refl h (leaf-is (sym x.1) (sym x.2) (node-is g.ForList a.3 (node-is g.Statement b.1 refl))),
        refl,
      )

  pub inspect_row : {i : ℕ} {f : Forest} → Row ws (Kept (just k.Inspect) ∷ Of Once g.Expression ∷ Of Once g.Arms ∷ Of Maybe g.OtherwiseBranch ∷ []) i f → Good ws g.Statement i f
  inspect_row {i = i} (kept h (once a ahead took (once (inl b) ahead' took' (absent nil)))) = (
    s.Inspect (at i) a.0 b.0 (boxed b.1) b.2 None,
    says.derivation-Inspect (at i) a.0 b.0 (boxed b.1) b.2 ∙ word-is ws i k.Inspect refl h (node-is g.Expression a.2 (node-is g.Arms b.3 refl)),
    refl,
  )
  inspect_row {i = i} (kept h (once a ahead took (once (inl b) ahead' took' (there c nil)))) = (
    s.Inspect (at i) a.0 b.0 (boxed b.1) b.2 (Some (boxed c.0)),
    says.derivation-Inspect-two (at i) a.0 b.0 (boxed b.1) b.2 (boxed c.0) ∙ word-is ws i k.Inspect refl h (node-is g.Expression a.2 (node-is g.Arms b.3 (node-is g.OtherwiseBranch c.1 refl))),
    refl,
  )
  inspect_row {i = i} (kept h (once a ahead took (once (inr b) ahead' took' (absent nil)))) =
      let v = listed b.0 (room (length b.0) b.1) in
      (s.InspectWhen (at i) a.0 v None, says.derivation-InspectWhen (at i) a.0 v ∙ word-is ws i k.Inspect refl h (node-is g.Expression a.2 (node-is g.Arms b.2 refl)), refl)
  inspect_row {i = i} (kept h (once a ahead took (once (inr b) ahead' took' (there c nil)))) =
      let v = listed b.0 (room (length b.0) b.1) in (
        s.InspectWhen (at i) a.0 v (Some (boxed c.0)),
        says.derivation-InspectWhen-two (at i) a.0 v (boxed c.0) ∙ word-is ws i k.Inspect refl h (node-is g.Expression a.2 (node-is g.Arms b.2 (node-is g.OtherwiseBranch c.1 refl))),
        refl,
      )

  pub activate_row : {i : ℕ} {f : Forest} → Row ws (Kept (k.Activate ∷ k.Reactivate ∷ []) ∷ Of Once g.Expression ∷ Of Maybe g.Timing ∷ []) i f → Good ws g.Statement i f
  activate_row {i = i} (kept h (once a ahead took (absent nil))) =
      let w = activation_in (kind_at ws i) h in (s.Activation (at i) w.0 a.0 None, says.derivation-Activation (at i) w.0 a.0 None ∙ bare-is ws i w.1 w.2 (node-is g.Expression a.2 refl), refl)
  activate_row {i = i} (kept h (once a ahead took (there b nil))) =
      let w = activation_in (kind_at ws i) h in
      (s.Activation (at i) w.0 a.0 (Some b.0), says.derivation-Activation (at i) w.0 a.0 (Some b.0) ∙ bare-is ws i w.1 w.2 (node-is g.Expression a.2 (node-is g.Timing b.1 refl)), refl)

  pub empty_row : {i : ℕ} {f : Forest} → Row ws (Here ∷ []) i f → Good ws g.Statement i f
  empty_row {i = i} (here nil) = (s.Empty (at i), says.derivation-Empty (at i), tt)

  -- ---- parts of statements

  pub assigned_row : {i : ℕ} {f : Forest} → Row ws (Kept assignments ∷ Of Once g.Expression ∷ []) i f → Good ws g.Assigned i f
  assigned_row {i = i} (kept h (once a ahead took nil)) = let w = assignment_in (kind_at ws i) h in (record { token = at i; sign = w.0; value = a.0 }, bare-is ws i w.1 w.2 (node-is g.Expression a.2 refl))

  pub else_row : {i : ℕ} {f : Forest} → Row ws (Mark k.Else ∷ Of Once g.Statement ∷ []) i f → Good ws g.ElseBranch i f
  else_row (mark (once a ahead took nil)) = (a.0, node-is g.Statement a.1 refl)

  pub otherwise_row : {i : ℕ} {f : Forest} → Row ws (Mark k.Otherwise ∷ Of Once g.Statement ∷ []) i f → Good ws g.OtherwiseBranch i f
  otherwise_row (mark (once a ahead took nil)) = (a.0, node-is g.Statement a.1 refl)

  pub value_list : {i : ℕ} {f : Forest} → Row ws (Kept (just k.Assign) ∷ Of Once g.ForElement ∷ Of Many g.NextForElement ∷ []) i f → Good ws g.ForList i f
  value_list {i = i} (kept h (once a ahead took (many xs its small nil))) =
      let l = gather ws next_for_element g.NextForElement (λ i f y. y) xs its in
      inl (at i, a.0 ∷ l.0, omega (arith, l.2, small), word-is ws i k.Assign refl h (node-is g.ForElement a.1 (row-is g.NextForElement l.1 refl)))

  pub reference_list : {i : ℕ} {f : Forest} → Row ws (Kept (just k.AssignReference) ∷ Of Once g.ReferenceElement ∷ Of Many g.NextReferenceElement ∷ []) i f → Good ws g.ForList i f
  reference_list {i = i} (kept h (once a ahead took (many xs its small nil))) =
      let l = gather ws next_reference_element g.NextReferenceElement (λ i f y. y) xs its in
      inr (at i, a.0 ∷ l.0, omega (arith, l.2, small), word-is ws i k.AssignReference refl h (node-is g.ReferenceElement a.1 (row-is g.NextReferenceElement l.1 refl)))

  pub next_element : {i : ℕ} {f : Forest} → Row ws (Mark k.Comma ∷ Of Once g.ForElement ∷ []) i f → Good ws g.NextForElement i f
  next_element (mark (once a ahead took nil)) = (a.0, node-is g.ForElement a.1 refl)

  pub next_reference : {i : ℕ} {f : Forest} → Row ws (Mark k.Comma ∷ Of Once g.ReferenceElement ∷ []) i f → Good ws g.NextReferenceElement i f
  next_reference (mark (once a ahead took nil)) = (a.0, node-is g.ReferenceElement a.1 refl)

  pub do_row : {i : ℕ} {f : Forest} → Row ws (Kept (just k.Do) ∷ Of Once g.Statement ∷ Here ∷ []) i f → Good ws g.Arms i f
  do_row {i = i} (kept h (once a ahead took (here {i = j} nil))) = inl (at i, a.0, at j, word-is ws i k.Do refl h (node-is g.Statement a.1 refl))

  pub arms_row : {i : ℕ} {f : Forest} → Row ws (Of Once g.WhenArm ∷ Of Many g.WhenArm ∷ []) i f → Good ws g.Arms i f
  arms_row (once a ahead took (many xs its small nil)) =
      let l = gather ws when_derivation g.WhenArm (λ i f y. y) xs its in inr (a.0 ∷ l.0, omega (arith, l.2, small), node-is g.WhenArm a.1 (row-is g.WhenArm l.1 refl))

  pub element : {i : ℕ} {f : Forest} → Row ws (Of Once g.Expression ∷ Of Maybe g.ForElementTail ∷ []) i f → Good ws g.ForElement i f
  element (once a ahead took (absent nil)) = (for_element.Value a.0, node-is g.Expression a.2 refl)
  element (once a ahead took (there b nil)) = let x = b a.0 in (x.0, x.1 ∙ node-is g.Expression a.2 refl)

  pub step_row : {i : ℕ} {f : Forest} → Row ws (Kept (just k.Step) ∷ Of Once g.Expression ∷ Mark k.Until ∷ Of Once g.Expression ∷ []) i f → Good ws g.ForElementTail i f
  step_row {i = i} (kept h (once a ahead took (mark (once b ahead' took' nil)))) v =
      (for_element.Step v (at i) a.0 b.0, node-is g.Expression refl (node-is g.ForElementTail (word-is ws i k.Step refl h (node-is g.Expression a.2 (node-is g.Expression b.2 refl))) refl))

  pub while_tail : {i : ℕ} {f : Forest} → Row ws (Kept (just k.While) ∷ Of Once g.Expression ∷ []) i f → Good ws g.ForElementTail i f
  while_tail {i = i} (kept h (once a ahead took nil)) v =
      (for_element.While v (at i) a.0, node-is g.Expression refl (node-is g.ForElementTail (word-is ws i k.While refl h (node-is g.Expression a.2 refl)) refl))

  pub reference : {i : ℕ} {f : Forest} → Row ws (Of Once g.Expression ∷ Of Maybe g.ReferenceElementTail ∷ []) i f → Good ws g.ReferenceElement i f
  reference (once a ahead took (absent nil)) = (reference_element.Value a.0, node-is g.Expression a.2 refl)
  reference (once a ahead took (there b nil)) = let x = b a.0 in (x.0, x.1 ∙ node-is g.Expression a.2 refl)

  pub while_reference : {i : ℕ} {f : Forest} → Row ws (Kept (just k.While) ∷ Of Once g.Expression ∷ []) i f → Good ws g.ReferenceElementTail i f
  while_reference {i = i} (kept h (once a ahead took nil)) v =
      (reference_element.While v (at i) a.0, node-is g.Expression refl (node-is g.ReferenceElementTail (word-is ws i k.While refl h (node-is g.Expression a.2 refl)) refl))

  pub when_row : {i : ℕ} {f : Forest} → Row ws (Kept (just k.When) ∷ Kept (just k.Identifier) ∷ Kept (just k.Do) ∷ Of Once g.Statement ∷ Here ∷ []) i f → Good ws g.WhenArm i f
  when_row {i = i} (kept h (kept c (kept d (once a ahead took (here {i = j} nil))))) =
      let x = name_of ws (i + 1) c in (
        roll-When (record { token = at i; class = named (i + 1) x.0; opening = at (i + 1 + 1); body = a.0; end = at j }),
        says.derivation-when (at i) (named (i + 1) x.0) (at (i + 1 + 1)) a.0 (at j)
            ∙ word-is ws i k.When refl h (leaf-is (sym x.1) (sym x.2) (word-is ws (i + 1 + 1) k.Do refl d (node-is g.Statement a.1 refl))),
      )

  pub time_row : {i : ℕ} {f : Forest} → Row ws (Kept (k.At ∷ k.Delay ∷ []) ∷ Of Once g.Expression ∷ Of Maybe g.PriorMark ∷ []) i f → Good ws g.Timing i f
  unfolding value_at
  time_row {i = i} (kept h (once a ahead took (absent nil))) = let x = time_in i (kind_at ws i) (beside ws i) h a.0 None in (x.0, x.1 ∙ leaf-is refl refl (node-is g.Expression a.2 refl))
  time_row {i = i} (kept h (once a ahead took (there b nil))) =
      let x = time_in i (kind_at ws i) (beside ws i) h a.0 (Some b.0) in (x.0, x.1 ∙ leaf-is refl refl (node-is g.Expression a.2 (node-is g.PriorMark b.1 refl)))

  pub place_row : {i : ℕ} {f : Forest} → Row ws (Kept (k.Before ∷ k.After ∷ []) ∷ Of Once g.Expression ∷ []) i f → Good ws g.Timing i f
  unfolding value_at
  place_row {i = i} (kept h (once a ahead took nil)) = let x = place_in i (kind_at ws i) (beside ws i) h a.0 in (x.0, x.1 ∙ leaf-is refl refl (node-is g.Expression a.2 refl))

  pub prior_row : {i : ℕ} {f : Forest} → Row ws (Kept (just k.Prior) ∷ []) i f → Good ws g.PriorMark i f
  prior_row {i = i} (kept h nil) = (at i, word-is ws i k.Prior refl h refl)

  -- ---- programs

  pub plain_program : {i : ℕ} {f : Forest} → Row ws (Of Once g.Compound ∷ Any k.Semicolon ∷ Mark k.EndOfSource ∷ []) i f → Good ws g.Program i f
  plain_program (once a ahead took (passed past (mark nil))) = (None, a.0, node-is g.Compound a.1 refl)

  pub prefixed_program : {i : ℕ} {f : Forest} → Row ws (Kept (just k.Identifier) ∷ Of Maybe g.Arguments ∷ Of Once g.Compound ∷ Any k.Semicolon ∷ Mark k.EndOfSource ∷ []) i f → Good ws g.Program i f
  prefixed_program {i = i} (kept h (absent (once a ahead took (passed past (mark nil))))) =
      let x = name_of ws i h in
      (Some (record { class = named i x.0; arguments = listed [] (room 0 (omega arith)) }), a.0, leaf-is (sym x.1) (sym x.2) (node-is g.Compound a.1 refl))
  prefixed_program {i = i} (kept h (there b (once {x = z} a ahead took (passed past (mark nil))))) =
      let x = name_of ws i h in
      let l = actuals ws room i b (node g.Compound (block_derivation a.0) done) in
      (Some (record { class = named i x.0; arguments = listed l.0 (room (length l.0) l.1) }), a.0, leaf-is (sym x.1) (sym x.2) (l.2 ∙ node-is g.Arguments refl (node-is g.Compound a.1 refl)))
