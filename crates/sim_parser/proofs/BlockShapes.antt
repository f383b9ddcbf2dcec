-- What blocks, declarations and connection stand for, made of the parts that were read.
use Rattle.std.proofs.Common.{◌≡◌, ◌<◌, ℕ, true, false, List, [], ◌∷◌, ◌++◌, length, Option, Some, None, map, refl, sym, ap, ◌∙◌, arith}
use Rattle.std.proofs.lemmas.Bool.{false≢true}
use Rattle.std.specs.declared.alloc.Global.{Global}
use Rattle.std.specs.declared.boxed.Box.{Box}
use Rattle.std.specs.declared.vec.Vec.{Vec}
use Rattle.sim_base.specs.declared.numbering.TokenNo.{TokenNo}
use Rattle.sim_base.specs.declared.token.TokenKind.{TokenKind}
use Rattle.sim_base.specs.declared.token.TokenKind.TheVariants as k
use Rattle.sim_base.specs.declared.token.TokenValue.{TokenValue}
use Rattle.sim_base.specs.declared.token.TokenValue.TheVariants as token_value
use Rattle.sim_tree.specs.declared.expr.Expr.{Expr}
use Rattle.sim_tree.specs.declared.stmt.Stmt.{Stmt}
use Rattle.sim_tree.specs.declared.stmt.Stmt.TheVariants as s
use Rattle.sim_tree.specs.declared.stmt.When.{When}
use Rattle.sim_tree.specs.Grammar as g
use Rattle.sim_tree.specs.Grammar.{is}
use Rattle.sim_tree.specs.Reading.{Forest, done, leaf, place, node, bare_leaf}
use Rattle.sim_tree.specs.Derivation.{row}
use Rattle.sim_tree.specs.ProgramDerivation.{Declared, Plain, Prefixed, begun, contents, expr, next_statement, statements, statement_derivation, when_derivation}
use Rattle.sim_tree.proofs.DerivationLemmas.{map-append, row-append}
use Rattle.sim_tree.proofs.StatementLemmas.{derivation-Inspect, derivation-Inspect-two, derivation-InspectWhen, derivation-InspectWhen-two}
use Rattle.sim_parser.specs.declared.statement.Branch.TheVariants as branch
use Rattle.sim_parser.specs.Parsing.{branch_derivation, declared, statement_list}

pub inspect_derivation : (n : TokenNo) (e : Expr) (m : TokenNo) (x : Stmt) (z : TokenNo) (a : Box Stmt Global) (o : Option (Box Stmt Global)) → a.value ≡ x
    → bare_leaf n.0 k.Inspect (expr e (node g.Arms (bare_leaf m.0 k.Do (node g.Statement (statement_derivation x) (place z.0 done))) (branch_derivation branch.Otherwise o))) ≡ statement_derivation (s.Inspect n e m a z o)
inspect_derivation n e m x z a None h =
    ap (λ y. bare_leaf n.0 k.Inspect (expr e (node g.Arms (bare_leaf m.0 k.Do (node g.Statement (statement_derivation y) (place z.0 done))) done))) (sym h) ∙ sym (derivation-Inspect n e m a z)
inspect_derivation n e m x z a (Some o) h =
    ap (λ y. bare_leaf n.0 k.Inspect (expr e (node g.Arms (bare_leaf m.0 k.Do (node g.Statement (statement_derivation y) (place z.0 done))) (node g.OtherwiseBranch (node g.Statement (statement_derivation o.value) done) done)))) (sym h)
    ∙ sym (derivation-Inspect-two n e m a z o)

pub inspect_when_derivation : (n : TokenNo) (e : Expr) (v : Vec When Global) (o : Option (Box Stmt Global))
    → bare_leaf n.0 k.Inspect (expr e (node g.Arms (row g.WhenArm (map when_derivation v.items) done) (branch_derivation branch.Otherwise o))) ≡ statement_derivation (s.InspectWhen n e v o)
inspect_when_derivation n e v None = sym (derivation-InspectWhen n e v)
inspect_when_derivation n e v (Some o) = sym (derivation-InspectWhen-two n e v o)

-- one more declaration
pub declared-append : (ds : List Declared) (x : Declared) (f : Forest) → declared (ds ++ x ∷ []) f ≡ declared ds (declared (x ∷ []) f)
declared-append [] (Plain p) f = refl
declared-append [] (Prefixed y i p) f = refl
declared-append (Plain p ∷ ds) x f = ap (λ z. node g.Declaration p (node g.AfterDeclaration done (node g.Block z done))) (declared-append ds x f)
declared-append (Prefixed y i p ∷ ds) x f =
    ap (λ z. leaf y.token.0 k.Identifier (token_value.Bytes y.name) (node g.AfterIdentifier (bare_leaf i k.Class (node g.Class p (node g.AfterDeclaration done (node g.Block z done)))) done)) (declared-append ds x f)

pub contents_declared : (ds : List Declared) (fs : List Forest) (end : ℕ) → declared ds (statements fs end) ≡ contents ds fs end
contents_declared [] fs end = refl
contents_declared (Plain p ∷ ds) fs end = ap (λ z. node g.Declaration p (node g.AfterDeclaration done (node g.Block z done))) (contents_declared ds fs end)
contents_declared (Prefixed y i p ∷ ds) fs end =
    ap (λ z. leaf y.token.0 k.Identifier (token_value.Bytes y.name) (node g.AfterIdentifier (bare_leaf i k.Class (node g.Class p (node g.AfterDeclaration done (node g.Block z done)))) done)) (contents_declared ds fs end)

-- one more statement
pub statements-more : (xs ys : List Stmt) (y : Stmt) (f : Forest) → 0 < length xs → ys ≡ xs ++ y ∷ []
    → statement_list (map statement_derivation xs) (node g.NextStatement (next_statement (statement_derivation y)) f) ≡ statement_list (map statement_derivation ys) f
statements-more [] ys y f some e = absurd (omega (arith, some))
statements-more (x ∷ xs) ys y f some e =
    sym (ap (λ l. statement_list (map statement_derivation l) f) e ∙ ap (λ l. node g.Statement (statement_derivation x) (row g.NextStatement (map next_statement l) f)) (map-append statement_derivation xs y)
    ∙ ap (λ l. node g.Statement (statement_derivation x) (row g.NextStatement l f)) (map-append next_statement (map statement_derivation xs) (statement_derivation y))
    ∙ ap (node g.Statement (statement_derivation x)) (row-append g.NextStatement (map next_statement (map statement_derivation xs)) (next_statement (statement_derivation y)) f))

-- the first statement of a block, where an identifier begins it and where none does
pub begun_named : (x : ℕ) (kind : TokenKind) (value : TokenValue) (f h : Forest) → is kind k.Identifier ≡ true → begun (leaf x kind value f) h ≡ leaf x kind value (node g.AfterIdentifier (node g.StatementOfIdentifier f h) done)
unfolding is
begun_named x k.Identifier value f h e = refl
begun_named x _ value f h e = absurd (false≢true e)

pub begun_other : (x : ℕ) (kind : TokenKind) (value : TokenValue) (f h : Forest) → is kind k.Identifier ≡ false → begun (leaf x kind value f) h ≡ node g.Statement (leaf x kind value f) h
unfolding is
begun_other x k.Identifier value f h e = absurd (false≢true (sym e))
begun_other x _ value f h e = refl
