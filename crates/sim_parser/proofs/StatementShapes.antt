-- What statements stand for, made of the parts that were read.
use Rattle.std.proofs.Common.{◌≡◌, List, [], ◌∷◌, Option, Some, None, refl, sym, ap, ◌∙◌}
use Rattle.std.specs.declared.alloc.Global.{Global}
use Rattle.std.specs.declared.boxed.Box.{Box}
use Rattle.std.specs.declared.vec.Vec.{Vec}
use Rattle.sim_base.specs.declared.numbering.TokenNo.{TokenNo}
use Rattle.sim_base.specs.declared.token.TokenKind.TheVariants as k
use Rattle.sim_base.specs.declared.token.TokenValue.TheVariants as token_value
use Rattle.sim_tree.specs.declared.expr.Expr.{Expr}
use Rattle.sim_tree.specs.declared.expr.Identifier.{Identifier}
use Rattle.sim_tree.specs.declared.stmt.ForElement.{ForElement}
use Rattle.sim_tree.specs.declared.stmt.ReferenceElement.{ReferenceElement}
use Rattle.sim_tree.specs.declared.stmt.Stmt.{Stmt}
use Rattle.sim_tree.specs.declared.stmt.Stmt.TheVariants as s
use Rattle.sim_tree.specs.Grammar as g
use Rattle.sim_tree.specs.Grammar.{Part}
use Rattle.sim_tree.specs.Reading.{Forest, done, leaf, node, bare_leaf}
use Rattle.sim_tree.specs.Derivation.{Derivation, arguments, identifier, row}
use Rattle.sim_tree.specs.ProgramDerivation.{acted, expr, for_elements, joined, reference_elements, statement_derivation}
use Rattle.sim_tree.proofs.StatementLemmas.{derivation-If, derivation-If-two, derivation-While, derivation-For, derivation-ForReference}
use Rattle.sim_parser.specs.declared.statement.Branch.TheVariants as branch
use Rattle.sim_parser.specs.Parsing.{branch_derivation}

pub if_derivation : (n : TokenNo) (e : Expr) (x : Stmt) (a : Box Stmt Global) (o : Option (Box Stmt Global)) → a.value ≡ x
    → bare_leaf n.0 k.If (expr e (node g.Statement (statement_derivation x) (branch_derivation branch.Else o))) ≡ statement_derivation (s.If n e a o)
if_derivation n e x a None h = ap (λ z. bare_leaf n.0 k.If (expr e (node g.Statement (statement_derivation z) done))) (sym h) ∙ sym (derivation-If n e a)
if_derivation n e x a (Some o) h =
    ap (λ z. bare_leaf n.0 k.If (expr e (node g.Statement (statement_derivation z) (node g.ElseBranch (node g.Statement (statement_derivation o.value) done) done)))) (sym h) ∙ sym (derivation-If-two n e a o)

pub while_derivation : (n : TokenNo) (e : Expr) (x : Stmt) (a : Box Stmt Global) → a.value ≡ x → bare_leaf n.0 k.While (expr e (node g.Statement (statement_derivation x) done)) ≡ statement_derivation (s.While n e a)
while_derivation n e x a h = ap (λ z. bare_leaf n.0 k.While (expr e (node g.Statement (statement_derivation z) done))) (sym h) ∙ sym (derivation-While n e a)

pub for_derivation : (n : TokenNo) (x : Identifier) (m : TokenNo) (l : Vec ForElement Global) (b : Stmt) (a : Box Stmt Global) → a.value ≡ b
    → bare_leaf n.0 k.For (identifier x (node g.ForList (bare_leaf m.0 k.Assign (for_elements l.items)) (node g.Statement (statement_derivation b) done))) ≡ statement_derivation (s.For n x m l a)
for_derivation n x m l b a h =
    ap (λ z. bare_leaf n.0 k.For (identifier x (node g.ForList (bare_leaf m.0 k.Assign (for_elements l.items)) (node g.Statement (statement_derivation z) done)))) (sym h) ∙ sym (derivation-For n x m l a)

pub for_reference_derivation : (n : TokenNo) (x : Identifier) (m : TokenNo) (l : Vec ReferenceElement Global) (b : Stmt) (a : Box Stmt Global) → a.value ≡ b
    → bare_leaf n.0 k.For (identifier x (node g.ForList (bare_leaf m.0 k.AssignReference (reference_elements l.items)) (node g.Statement (statement_derivation b) done))) ≡ statement_derivation (s.ForReference n x m l a)
for_reference_derivation n x m l b a h =
    ap (λ z. bare_leaf n.0 k.For (identifier x (node g.ForList (bare_leaf m.0 k.AssignReference (reference_elements l.items)) (node g.Statement (statement_derivation z) done)))) (sym h)
    ∙ sym (derivation-ForReference n x m l a)

-- one row in front of what follows it
joined_row : (n : Part) (fs : List Forest) (rest : Forest) → joined (row n fs done) rest ≡ row n fs rest
joined_row n [] rest = refl
joined_row n (f ∷ fs) rest = ap (node n f) (joined_row n fs rest)

joined_arguments : (l : List Derivation) (rest : Forest) → joined (arguments l done) rest ≡ arguments l rest
joined_arguments [] rest = refl
joined_arguments (x ∷ xs) rest = refl

-- the operation that an identifier begins, with its actuals and with what is taken of it
pub acted_named : (x : Identifier) (l : List Derivation) (fs : List Forest) (rest : Forest)
    → acted (node g.Primary (identifier x (arguments l done)) (row g.Selection fs done)) rest ≡ identifier x (arguments l (node g.AfterFirstOperand (row g.Selection fs rest) done))
acted_named x l fs rest =
    ap (λ z. leaf x.token.0 k.Identifier (token_value.Bytes x.name) (joined (arguments l done) (node g.AfterFirstOperand z done))) (joined_row g.Selection fs rest)
    ∙ ap (leaf x.token.0 k.Identifier (token_value.Bytes x.name)) (joined_arguments l (node g.AfterFirstOperand (row g.Selection fs rest) done))
