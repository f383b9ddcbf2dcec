-- Activations.
use Rattle.std.proofs.Common.{◌≡◌, ℕ, zero, suc, pos, length, Option, Some, None, refl, sym, ap, ◌∙◌, subst}
use Rattle.std.specs.Prelude.{⊤}
use Rattle.std.specs.Option.{option_or}
use Rattle.sim_base.specs.declared.numbering.TokenNo.{TokenNo}
use Rattle.sim_scope.specs.declared.bound.Bound.{Bound}
use Rattle.sim_scope.specs.Access.{block_at, encloser}
use Rattle.sim_scope.specs.Along.{first_along, from_next}
use Rattle.sim_scope.specs.Levels.{level_beyond, simulation_level_of}
use Rattle.sim_scope.specs.Source.{block_around, line_at, source_of}
use Rattle.sim_scope.specs.Statements.{simulation_of}
use Rattle.sim_scope.specs.Tables.{Tables}
use Rattle.sim_tree.specs.declared.expr.Expr.{Expr}
use Rattle.sim_tree.specs.declared.stmt.Activation.{Activation}
use Rattle.sim_tree.specs.declared.stmt.Timing.{Timing}
use Rattle.sim_tree.specs.declared.stmt.Timing.TheVariants as timing_of
use Rattle.sim_tree.specs.Syntax.{Schedule}
use Rattle.sim_tree.specs.Syntax as syntax
use Rattle.sim_tree.specs.SyntaxOf.{syntax_of}
use Rattle.sim_tree.specs.SyntaxOfProgram.{schedule_syntax, timing_syntax}
use Rattle.sim_code.specs.declared.instr.Instr.{Instr}
use Rattle.sim_code.specs.declared.instr.Instr.TheVariants as i
use Rattle.sim_meaning.specs.Statements.{is_again, simulation_around, timing}
use Rattle.codegen_expr.specs.declared.spot.Spot.{Spot}
use Rattle.codegen_expr.specs.Drafts.{DraftOf, Emits, given_up, with_instr}
use Rattle.codegen_expr.specs.Emit.{Puts, Writes, WritesLinkTo}
use Rattle.codegen_expr.specs.Sites.{At}
use Rattle.codegen_expr.proofs.Pieces.{emits_as, emits_at, emits_none, emits_nothing, emits_then}
use Rattle.codegen.specs.BuiltProgram.{ActivatesBuilt, OperandBuilt}
use Rattle.codegen.specs.CodeStm.{ActivatesAt, OperandAt, activation_number}
use Rattle.codegen.specs.EmitActivations.{WritesActivation, WritesOperand}

-- ---- the nearest simulation

module _ (s : Tables) where
  -- one block outward after another
  pub outward : (m : ℕ) (b : ℕ) → first_along (encloser s) m (λ b. simulation_level_of s (length s.blocks) b) b ≡ simulation_of s m b
  unfolding first_along simulation_of
  outward zero b = refl
  outward (suc m) b = ap (λ x. option_or (simulation_level_of s (length s.blocks) b) x) (go (λ p. outward m p) (encloser s b))
    where
      go : ((p : ℕ) → first_along (encloser s) m (λ b. simulation_level_of s (length s.blocks) b) p ≡ simulation_of s m p) → (o : Option ℕ)
          → from_next (λ b. first_along (encloser s) m (λ b. simulation_level_of s (length s.blocks) b) b) o ≡ level_beyond (λ b. simulation_of s m b) o
      go deep None = refl
      go deep (Some p) = deep p

module _ (b : Bound) where
  pub around_none : (token : TokenNo) (o : Option ℕ) → o ≡ block_at b.scopes token.0 → o ≡ None → None ≡ simulation_around (source_of b) token.0
  unfolding block_around block_at source_of
  around_none token o eo none = ap (level_beyond (λ k. simulation_of b.scopes (length b.scopes.blocks) k)) (sym none ∙ eo)

  pub around_some : (token : TokenNo) (o r : Option ℕ) (k : ℕ) → o ≡ block_at b.scopes token.0 → o ≡ Some k → r ≡ simulation_of b.scopes (length b.scopes.blocks) k → r ≡ simulation_around (source_of b) token.0
  unfolding block_around block_at source_of
  around_some token o r k eo some er = er ∙ ap (level_beyond (λ k. simulation_of b.scopes (length b.scopes.blocks) k)) (sym some ∙ eo)

pub ruleset simulations = (around_none, around_some)

-- ---- what is written

module _ (b : Bound) (w : Spot) where
  operand_as : (a c : DraftOf) (o : Option Timing) (y : Schedule) → schedule_syntax o ≡ y → Emits w a c (OperandBuilt (source_of b) w.text y) (λ final site p q. OperandAt (source_of b) final site 2 y p q) → WritesOperand b w a c o
  unfolding WritesOperand
  operand_as a c o y is f = subst (λ z. Emits w a c (OperandBuilt (source_of b) w.text z) (λ final site p q. OperandAt (source_of b) final site 2 z p q)) (sym is) f

  part_of : (o : Option Timing) (x y : Timing) → o ≡ Some x → x ≡ y → schedule_syntax o ≡ timing_syntax y
  part_of o x y some is = ap schedule_syntax some ∙ ap timing_syntax is

  pub operand_now : (a : DraftOf) (o : Option Timing) → o ≡ None → WritesOperand b w a a o
  operand_now a o none = operand_as a a o syntax.Now (ap schedule_syntax none) (emits_none w a)

  pub operand_at : (a c : DraftOf) (o : Option Timing) (x : Timing) (token : TokenNo) (e : Expr) (prior : Option TokenNo) → o ≡ Some x → x ≡ timing_of.At token e prior → Writes b w 2 a c e → WritesOperand b w a c o
  unfolding Writes Puts
  operand_at a c o x token e prior some is f = operand_as a c o _ (part_of o x (timing_of.At token e prior) some is) f

  pub operand_delay : (a c : DraftOf) (o : Option Timing) (x : Timing) (token : TokenNo) (e : Expr) (prior : Option TokenNo) → o ≡ Some x → x ≡ timing_of.Delay token e prior → Writes b w 2 a c e → WritesOperand b w a c o
  unfolding Writes Puts
  operand_delay a c o x token e prior some is f = operand_as a c o _ (part_of o x (timing_of.Delay token e prior) some is) f

  pub operand_before : (a c : DraftOf) (o : Option Timing) (x : Timing) (token : TokenNo) (e : Expr) → o ≡ Some x → x ≡ timing_of.Before token e → Writes b w 2 a c e → WritesOperand b w a c o
  unfolding Writes Puts
  operand_before a c o x token e some is f = operand_as a c o _ (part_of o x (timing_of.Before token e) some is) f

  pub operand_after : (a c : DraftOf) (o : Option Timing) (x : Timing) (token : TokenNo) (e : Expr) → o ≡ Some x → x ≡ timing_of.After token e → Writes b w 2 a c e → WritesOperand b w a c o
  unfolding Writes Puts
  operand_after a c o x token e some is f = operand_as a c o _ (part_of o x (timing_of.After token e) some is) f

  activates_as : (a c : DraftOf) (token : TokenNo) (word : Activation) (x : Expr) (o : Option Timing) (r : Option ℕ) → r ≡ simulation_around (source_of b) token.0
      → Emits w a c (ActivatesBuilt (source_of b) w.text r (syntax_of x) (schedule_syntax o)) (λ final site p q. ActivatesAt (source_of b) final site 0 (line_at (source_of b) token.0) r (is_again word) (syntax_of x) (schedule_syntax o) p q) → WritesActivation b w a c token word x o
  unfolding WritesActivation
  activates_as a c token word x o r er f =
      let s = source_of b in
      subst (λ z. Emits w a c (ActivatesBuilt s w.text z (syntax_of x) (schedule_syntax o)) (λ final site p q. ActivatesAt s final site 0 (line_at s token.0) z (is_again word) (syntax_of x) (schedule_syntax o) p q)) er f

  pub activated_nowhere : (a c : DraftOf) (token : TokenNo) (word : Activation) (x : Expr) (o : Option Timing) (r : Option ℕ) → r ≡ simulation_around (source_of b) token.0 → r ≡ None → c ≡ given_up a → WritesActivation b w a c token word x o
  activated_nowhere a c token word x o r er none ec = activates_as a c token word x o None (sym none ∙ er) (emits_nothing w a c _ _ (λ h. h) ec)

  pub activated : (a c1 c2 c3 d : DraftOf) (token : TokenNo) (word : Activation) (x : Expr) (o : Option Timing) (r : Option ℕ) (k line : ℕ) (y : Instr) → r ≡ simulation_around (source_of b) token.0 → r ≡ Some k → WritesLinkTo b w 0 a c1 k → Writes b w 1 c1 c2 x → WritesOperand b w c2 c3 o
      → y ≡ i.Act (pos (activation_number (is_again word) (timing (schedule_syntax o)))) → line ≡ line_at (source_of b) token.0 → d ≡ with_instr c3 y line → WritesActivation b w a d token word x o
  unfolding WritesLinkTo Writes Puts WritesOperand
  activated a c1 c2 c3 d token word x o r k line y er some f g h ey el ed =
      let s = source_of b in
      let act = i.Act (pos (activation_number (is_again word) (timing (schedule_syntax o)))) in
      let put : d ≡ with_instr c3 act (line_at s token.0) = ed ∙ ap (λ z. with_instr c3 z line) ey ∙ ap (λ z. with_instr c3 act z) el in
      activates_as a d token word x o (Some k) (sym some ∙ er)
      (emits_as w _ _ _ _ a d (λ z. (z.0, (z.1, (z.2, tt)))) (λ z. (z.0, z.1.0, z.1.1.0))
      (λ final site p q _ _ z. record { x = z.0; y = z.2.0; z = z.2.2.0; link = z.1.0; inside = z.1.1; process = z.2.1; operand = z.2.2.1; does = z.2.2.2 })
      (emits_then w _ _ _ _ a c1 d f (emits_then w _ _ _ _ c1 c2 d g (emits_then w _ ⊤ _ (λ final site p q. At final act (line_at s token.0) p q) c2 c3 d h (emits_at w c3 d act (line_at s token.0) put (λ z. cc) refl)))))

pub ruleset operands = (operand_now, operand_at, operand_delay, operand_before, operand_after)

pub ruleset activations = (activated_nowhere, activated)
