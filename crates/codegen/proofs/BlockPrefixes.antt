-- Prefixed blocks.
use Rattle.std.proofs.Common.{◌≡◌, ◌≢◌, ℕ, zero, suc, pos, Bool, true, false, List, length, map, Option, Some, None, refl, sym, ap, ◌∙◌, subst}
use Rattle.std.specs.Prelude.{⊤}
use Rattle.sim_base.specs.declared.numbering.TokenNo.{TokenNo}
use Rattle.sim_scope.specs.declared.bound.Bound.{Bound}
use Rattle.sim_scope.specs.declared.types.Formal.{Formal}
use Rattle.sim_scope.specs.Access.{block_at, encloser}
use Rattle.sim_scope.specs.Source.{block_around, line_at, source_of}
use Rattle.sim_tree.specs.declared.expr.Expr.{Expr}
use Rattle.sim_tree.specs.declared.expr.Identifier.{Identifier}
use Rattle.sim_tree.specs.Syntax.{expressions}
use Rattle.sim_tree.specs.SyntaxOf.{syntax_of}
use Rattle.sim_code.specs.declared.instr.Instr.{Instr}
use Rattle.sim_code.specs.declared.instr.Instr.TheVariants as i
use Rattle.sim_meaning.specs.Closing.{class_parameters}
use Rattle.codegen_expr.specs.declared.spot.Spot.{Spot}
use Rattle.codegen_expr.specs.Built.{ActualsBuilt}
use Rattle.codegen_expr.specs.CodeExpr.{ActualsAt, Listed, operands}
use Rattle.codegen_expr.specs.Drafts.{DraftOf, Emits, given_up, with_instr}
use Rattle.codegen_expr.specs.Emit.{WritesActuals}
use Rattle.codegen_expr.specs.Sites.{At, block_number}
use Rattle.codegen_expr.proofs.Pieces.{emits_as, emits_at, emits_nothing, emits_then}
use Rattle.codegen_expr.proofs.Seen.{count}
use Rattle.codegen.specs.Agrees.{is_prefixed}
use Rattle.codegen.specs.BuiltProgram.{PrefixBuilt}
use Rattle.codegen.specs.CodeStm.{PrefixedAt}
use Rattle.codegen.specs.Emit.{WritesPrefix, WritesPrefixed}

-- ---- what is written

module _ (b : Bound) (w : Spot) where
  pub prefix_put : (a c1 c : DraftOf) (y : Identifier) (ys : List Expr) (fs : List Formal) (k m l line : ℕ) (x : Instr) → fs ≡ class_parameters (source_of b) (Some k) → WritesActuals b w 0 a c1 true y.token ys fs → m ≡ block_number (source_of b) k → l ≡ length ys → x ≡ i.Pref (pos m) (pos l)
      → line ≡ line_at (source_of b) y.token.0 → c ≡ with_instr c1 x line → WritesPrefix b w a c y ys k
  unfolding WritesPrefix WritesActuals
  prefix_put a c1 c y ys fs k m l line x ef f em el ex eline ec =
      let s = source_of b in
      let es = expressions (map syntax_of ys) in
      let n = line_at s y.token.0 in
      let enter = i.Pref (pos (block_number s k)) (pos (operands es)) in
      let same : x ≡ enter = ex ∙ ap (λ z. i.Pref (pos z) (pos l)) em ∙ ap (λ z. i.Pref (pos (block_number s k)) (pos z)) (el ∙ sym (count ys)) in
      let put : c ≡ with_instr c1 enter n = ec ∙ ap (λ z. with_instr c1 z line) same ∙ ap (λ z. with_instr c1 enter z) eline in
      let g = subst (λ z. Emits w a c1 (ActualsBuilt s w.text es (Listed z)) (λ final site p q. ActualsAt s final site 0 n true es (Listed z) p q)) ef f in
      emits_as w _ _ _ _ a c (λ h. (h, tt)) (λ h. h.0) (λ final site p q _ _ r. r)
      (emits_then w _ ⊤ (λ final site p q. ActualsAt s final site 0 n true es (Listed (class_parameters s (Some k))) p q) (λ final site p q. At final enter n p q) a c1 c g (emits_at w c1 c enter n put (λ z. cc) refl))

  prefixed_as : (a c : DraftOf) (y : Identifier) (ys : List Expr) (token : TokenNo) (o : Option ℕ) → o ≡ block_at b.scopes token.0
      → Emits w a c (PrefixBuilt (source_of b) w.text (expressions (map syntax_of ys)) o) (λ final site p q. PrefixedAt (source_of b) final site 0 (line_at (source_of b) y.token.0) (expressions (map syntax_of ys)) o p q) → WritesPrefixed b w a c y ys token
  unfolding WritesPrefixed block_around block_at source_of
  prefixed_as a c y ys token o eo f =
      let s = source_of b in
      let es = expressions (map syntax_of ys) in
      subst (λ z. Emits w a c (PrefixBuilt s w.text es z) (λ final site p q. PrefixedAt s final site 0 (line_at s y.token.0) es z p q)) eo f

  pub prefixed_nowhere : (a c : DraftOf) (y : Identifier) (ys : List Expr) (token : TokenNo) (o : Option ℕ) → o ≡ block_at b.scopes token.0 → o ≡ None → c ≡ given_up a → WritesPrefixed b w a c y ys token
  prefixed_nowhere a c y ys token o eo none ec = prefixed_as a c y ys token None (sym none ∙ eo) (emits_nothing w a c _ _ (λ z. z) ec)

  pub prefixed_outermost : (a c : DraftOf) (y : Identifier) (ys : List Expr) (token : TokenNo) (o : Option ℕ) (n : ℕ) → o ≡ block_at b.scopes token.0 → o ≡ Some n → n ≡ 0 → c ≡ given_up a → WritesPrefixed b w a c y ys token
  prefixed_outermost a c y ys token o n eo is zero_ ec = prefixed_as a c y ys token (Some 0) (sym (is ∙ ap Some zero_) ∙ eo) (emits_nothing w a c _ _ (λ z. z) ec)

  pub prefixed_other : (a c : DraftOf) (y : Identifier) (ys : List Expr) (token : TokenNo) (o : Option ℕ) (n : ℕ) (r : Bool) → o ≡ block_at b.scopes token.0 → o ≡ Some n → n ≢ 0 → r ≡ is_prefixed b.scopes n → r ≡ false → c ≡ given_up a → WritesPrefixed b w a c y ys token
  unfolding source_of
  prefixed_other a c y ys token o zero r eo is ne er none ec = absurd (ne refl)
  prefixed_other a c y ys token o (suc n) r eo is ne er none ec = prefixed_as a c y ys token (Some (suc n)) (sym is ∙ eo) (emits_nothing w a c _ _ (λ h. clash (sym none ∙ er ∙ h.0)) ec)
    where
      clash : false ≡ true → ⊥
      clash e = cc

  pub prefixed_elsewhere : (a c : DraftOf) (y : Identifier) (ys : List Expr) (token : TokenNo) (o : Option ℕ) (n : ℕ) → o ≡ block_at b.scopes token.0 → o ≡ Some n → n ≢ 0 → encloser b.scopes n ≢ Some w.text → c ≡ given_up a → WritesPrefixed b w a c y ys token
  unfolding source_of
  prefixed_elsewhere a c y ys token o zero eo is ne out ec = absurd (ne refl)
  prefixed_elsewhere a c y ys token o (suc n) eo is ne out ec = prefixed_as a c y ys token (Some (suc n)) (sym is ∙ eo) (emits_nothing w a c _ _ (λ h. out h.1) ec)

  pub prefixed_entered : (a c : DraftOf) (y : Identifier) (ys : List Expr) (token : TokenNo) (o : Option ℕ) (n : ℕ) (r : Bool) → o ≡ block_at b.scopes token.0 → o ≡ Some n → n ≢ 0 → r ≡ is_prefixed b.scopes n → r ≡ true → encloser b.scopes n ≡ Some w.text → WritesPrefix b w a c y ys n → WritesPrefixed b w a c y ys token
  unfolding WritesPrefix source_of
  prefixed_entered a c y ys token o zero r eo is ne er behind around f = absurd (ne refl)
  prefixed_entered a c y ys token o (suc n) r eo is ne er behind around f =
      let stands = sym er ∙ behind in
      prefixed_as a c y ys token (Some (suc n)) (sym is ∙ eo)
      (emits_as w _ _ _ _ a c (λ h. h.2) (λ h. (stands, around, h)) (λ final site p q et _ r. record { x = r.0; is = stands; around = around ∙ ap Some (sym et); actuals = r.1; enter = r.2 }) f)

pub ruleset prefixes = (prefix_put, prefixed_nowhere, prefixed_outermost, prefixed_other, prefixed_elsewhere, prefixed_entered)
