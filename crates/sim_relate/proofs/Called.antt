-- The code of a call that stands as a statement evaluates its closed tree.
use Rattle.std.proofs.Common.{◌≡◌, ℕ, Bool, false, Option, Some, None, refl, sym, ◌∙◌, subst}
use Rattle.sim_scope.specs.Source.{Source, denoted, found_at, line_at}
use Rattle.sim_tree.specs.declared.expr.Identifier.{Identifier}
use Rattle.sim_tree.specs.Syntax.{Expression, Expressions, NoMore, Then}
use Rattle.sim_tree.specs.Syntax as syntax
use Rattle.sim_code.specs.Code.{CodeOf}
use Rattle.sim_code.specs.Transfers.{Calling, Detaching, Resuming, Transfer}
use Rattle.sim_meaning.specs.Attributes.{detach_term, if_any, this_term, transfer_at, transfer_term}
use Rattle.sim_meaning.specs.Closing.{close, close_all}
use Rattle.sim_meaning.specs.Pending.{Instances, Term}
use Rattle.sim_meaning.specs.Statements.{leaves}
use Rattle.codegen_expr.specs.Sites.{Inside, Site}
use Rattle.codegen_expr.specs.CodeExpr.{ExprAt, ExprsAt, ThisFoundAt}
use Rattle.codegen_expr.specs.CodeExpr as code_gives
use Rattle.codegen.specs.Agrees.{Agrees}
use Rattle.codegen.specs.CodeStm.{CalledAt, OrTransferAt, TransferAt}
use Rattle.sim_relate.proofs.ClosedNames.{NamedIs}
use Rattle.sim_relate.proofs.Closing.{DotCallAt, NamedCallAt, close_actuals_at, close_all_at, close_at, dot_call, dot_tree, named_call, named_tree, place_at, this_at}
use Rattle.sim_relate.proofs.Known.{Finds}
use Rattle.sim_relate.proofs.TransferNames.{no_value}
use Rattle.sim_relate.proofs.Trees.{OperandAt}

module _ (s : Source) (code : CodeOf) (m : Instances) (inst : ℕ) (site : Site) (agrees : Agrees s) (reach : (u : ℕ) → Inside s.tables site.text u → Finds s m inst u) where
  abbrev Is : (n : ℕ) → Bool → Term → ℕ → ℕ → Type 0
  Is n g t p q = NamedIs s code m inst site agrees reach n g t p q

  -- ---- transfers of control

  -- the actual parameter
  component : (e : Expression) (n p q : ℕ) → ExprsAt s code site n (Then e NoMore) p q → OperandAt s code m inst site n (close s m inst e) p q
  component e n p q a =
      let x = close_all_at s code m inst site agrees reach (Then e NoMore) n p q a in
      subst (λ z. OperandAt s code m inst site n (close s m inst e) p z) (sym x.2) x.1

  named_transfer : (way : Transfer) (line : ℕ) (found : Option ℕ) (es : Expressions) (n p q : ℕ) → TransferAt code line way es (ThisFoundAt s code site n found) (ExprsAt s code site n es) p q → Is n false (transfer_term way line (this_term s m inst found) (close_all s m inst es)) p q
  named_transfer Detaching line found NoMore n p q a = ((a.y, ((a.x, this_at s code m inst site agrees reach found n p a.x a.object, a.there), refl), a.detaches), refl)
  named_transfer Detaching line found (Then e es) n p q a = absurd a
  named_transfer Calling line found NoMore n p q a = absurd a
  named_transfer Calling line found (Then e NoMore) n p q a = ((a.0, component e n p a.0 a.1, a.2), refl)
  named_transfer Calling line found (Then e (Then e' es)) n p q a = absurd a
  named_transfer Resuming line found NoMore n p q a = absurd a
  named_transfer Resuming line found (Then e NoMore) n p q a = ((a.0, component e n p a.0 a.1, a.2), refl)
  named_transfer Resuming line found (Then e (Then e' es)) n p q a = absurd a

  dot_transfer : (line : ℕ) (x : Expression) (es : Expressions) (n p q : ℕ) → TransferAt code line Detaching es (ExprAt s code site n x) (ExprsAt s code site n es) p q → Is n false (detach_term line (close s m inst x)) p q
  dot_transfer line x NoMore n p q a = ((a.y, ((a.x, close_at s code m inst site agrees reach x n p a.x a.object, a.there), refl), a.detaches), refl)
  dot_transfer line x (Then e es) n p q a = absurd a

  -- ---- other calls

  named_call_at : (name : Identifier) (es : Expressions) (n p q : ℕ) → NamedCallAt s code m inst site agrees reach name es n p q → Is n (code_gives.gives s (denoted s name.token.0)) (named_tree s code m inst site agrees reach name es) p q
  named_call_at name es n p q a = named_call s code m inst site agrees reach name es (λ n p q. close_all_at s code m inst site agrees reach es n p q) (λ fs n p q. close_actuals_at s code m inst site agrees reach false (line_at s name.token.0) es fs n p q) n p q a

  dot_call_at : (x : Expression) (name : Identifier) (es : Expressions) (n p q : ℕ) → DotCallAt s code m inst site agrees reach x name es n p q → Is n (code_gives.gives s (denoted s name.token.0)) (dot_tree s code m inst site agrees reach x name es) p q
  dot_call_at x name es n p q a = dot_call s code m inst site agrees reach x name es n (λ p q. place_at s code m inst site agrees reach None x n p q) (λ p q. close_at s code m inst site agrees reach x n p q) (λ n p q. close_all_at s code m inst site agrees reach es n p q) (λ fs n p q. close_actuals_at s code m inst site agrees reach false (line_at s name.token.0) es fs n p q) p q a

  -- ---- both

  pub called_named_at : (name : Identifier) (es : Expressions) (n p q : ℕ) → CalledAt s code site n (syntax.Named name es) p q → Is n (leaves s (syntax.Named name es)) (close s m inst (syntax.Named name es)) p q
  called_named_at name es n p q a = by (transfer_at s name.token.0) refl a
    where
      by : (o : Option Transfer) → transfer_at s name.token.0 ≡ o
          → OrTransferAt o (λ way. TransferAt code (line_at s name.token.0) way es (ThisFoundAt s code site n (found_at s name.token.0)) (ExprsAt s code site n es)) (λ p q. (leaves s (syntax.Named name es) ≡ code_gives.gives s (denoted s name.token.0)) × NamedCallAt s code m inst site agrees reach name es n p q) p q
          → Is n (leaves s (syntax.Named name es)) (if_any o (λ way. transfer_term way (line_at s name.token.0) (this_term s m inst (found_at s name.token.0)) (close_all s m inst es)) (named_tree s code m inst site agrees reach name es)) p q
      by None e a = let x = named_call_at name es n p q a.1 in (x.0, x.1 ∙ sym a.0)
      by (Some way) e a = let x = named_transfer way (line_at s name.token.0) (found_at s name.token.0) es n p q a in (x.0, x.1 ∙ sym (no_value s name.token.0 way e))

  pub called_dot_at : (token : ℕ) (x : Expression) (name : Identifier) (es : Expressions) (n p q : ℕ) → CalledAt s code site n (syntax.Dot token x name es) p q → Is n (leaves s (syntax.Dot token x name es)) (close s m inst (syntax.Dot token x name es)) p q
  called_dot_at token x name es n p q a = by (transfer_at s name.token.0) refl a
    where
      by : (o : Option Transfer) → transfer_at s name.token.0 ≡ o
          → OrTransferAt o (λ way. TransferAt code (line_at s name.token.0) Detaching es (ExprAt s code site n x) (ExprsAt s code site n es)) (λ p q. (leaves s (syntax.Dot token x name es) ≡ code_gives.gives s (denoted s name.token.0)) × DotCallAt s code m inst site agrees reach x name es n p q) p q
          → Is n (leaves s (syntax.Dot token x name es)) (if_any o (λ way. detach_term (line_at s name.token.0) (close s m inst x)) (dot_tree s code m inst site agrees reach x name es)) p q
      by None e a = let y = dot_call_at x name es n p q a.1 in (y.0, y.1 ∙ sym a.0)
      by (Some way) e a = let y = dot_transfer (line_at s name.token.0) x es n p q a in (y.0, y.1 ∙ sym (no_value s name.token.0 way e))
