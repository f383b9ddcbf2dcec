-- What is written of transfers of control.
use Rattle.std.specs.Prelude.{◌≡◌, ⊤, ℕ, false, List, map, Option, option_map}
use Rattle.sim_base.specs.declared.numbering.TokenNo.{TokenNo}
use Rattle.sim_scope.specs.declared.bound.Bound.{Bound}
use Rattle.sim_scope.specs.declared.scopes.Denotation.{Denotation}
use Rattle.sim_scope.specs.Source.{found_at, line_at, source_of}
use Rattle.sim_tree.specs.declared.expr.Expr.{Expr}
use Rattle.sim_tree.specs.declared.expr.Identifier.{Identifier}
use Rattle.sim_tree.specs.Syntax.{Expression, expressions}
use Rattle.sim_tree.specs.SyntaxOf.{syntax_of}
use Rattle.sim_code.specs.declared.instr.Instr.TheVariants as i
use Rattle.sim_code.specs.Transfers.{Calling, Detaching, Resuming, Transfer}
use Rattle.sim_meaning.specs.Attributes.{transfer_denoted}
use Rattle.codegen_expr.specs.declared.operators.Object.{Object}
use Rattle.codegen_expr.specs.declared.spot.Spot.{Spot}
use Rattle.codegen_expr.specs.Built.{AreBuilt, IsBuilt, ThisFoundBuilt}
use Rattle.codegen_expr.specs.CodeExpr.{ExprAt, ExprsAt, ThisFoundAt}
use Rattle.codegen_expr.specs.Drafts.{DraftOf, Emits}
use Rattle.codegen_expr.specs.Emit.{PutsBefore}
use Rattle.codegen_expr.specs.Sites.{At}
use Rattle.codegen.specs.declared.transfers.Transfer.{Transfer as Word}
use Rattle.codegen.specs.declared.transfers.Transfer.TheVariants as word
use Rattle.codegen.specs.BuiltProgram.{TransferBuilt}
use Rattle.codegen.specs.CodeStm.{TransferAt}

abbrev pub meant : Word → Transfer
meant word.Detaching = Detaching
meant word.Calling = Calling
meant word.Resuming = Resuming

-- `detach`, `call` or `resume`, where what is denoted is one of these
unfoldable pub FindsTransfer : Option Word → Option Denotation → Type 0
FindsTransfer x d = option_map meant x ≡ transfer_denoted d

-- `detach` of the object on top; the token is that of the identifier
unfoldable pub WritesDetach : Bound → Spot → (old new : DraftOf) → TokenNo → Type 0
WritesDetach b w old new token =
    Emits w old new ⊤ (λ final site p q. (x : ℕ) × At final i.NotNone (line_at (source_of b) token.0) p x × At final i.Detach (line_at (source_of b) token.0) x q)

-- `detach` of what is found around, or `call` or `resume`
unfoldable pub WritesTransfer : Bound → Spot → (old new : DraftOf) → Word → Identifier → List Expr → Type 0
WritesTransfer b w old new t x ys =
    let s = source_of b in
    let es = expressions (map syntax_of ys) in
    Emits w old new (TransferBuilt (meant t) es (ThisFoundBuilt s w.text (found_at s x.token.0)) (AreBuilt s w.text es))
    (λ final site p q. TransferAt final (line_at s x.token.0) (meant t) es (ThisFoundAt s final site 0 (found_at s x.token.0)) (ExprsAt s final site 0 es) p q)

-- `detach` behind its object, in front of which no position moves
unfoldable pub WritesDetachBehind : Bound → Spot → (old new : DraftOf) → Object → Identifier → List Expr → Type 0
WritesDetachBehind b w old new o x ys =
    let s = source_of b in
    let es = expressions (map syntax_of ys) in
    (start : DraftOf) (a : Expression) → PutsBefore s w 0 start old false o a
    → Emits w start new (TransferBuilt Detaching es (IsBuilt s w.text a) (AreBuilt s w.text es))
    (λ final site p q. TransferAt final (line_at s x.token.0) Detaching es (ExprAt s final site 0 a) (ExprsAt s final site 0 es) p q)
