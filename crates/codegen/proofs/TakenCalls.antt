-- Calls of what is taken of an operand.
use Rattle.std.proofs.Common.{◌≡◌, ◌≢◌, ◌<◌, ◌≤◌, ◌-◌, ℕ, zero, suc, Bool, true, false, List, [], ◌∷◌, length, map, drop, take, Option, None, refl, sym, ap, ◌∙◌, subst, arith}
use Rattle.std.specs.Prelude.{⊤, slice_index_or}
use Rattle.std.specs.declared.alloc.Global.{Global}
use Rattle.std.specs.declared.vec.Vec.{Vec}
use Rattle.sim_base.specs.declared.numbering.TokenNo.{TokenNo}
use Rattle.sim_scope.specs.declared.bound.Bound.{Bound}
use Rattle.sim_scope.specs.declared.scopes.Denotation.{Denotation}
use Rattle.sim_scope.specs.Source.{denoted, source_of}
use Rattle.sim_tree.specs.declared.expr.Expr.{Expr}
use Rattle.sim_tree.specs.declared.expr.Identifier.{Identifier}
use Rattle.sim_tree.specs.declared.expr.Selector.{Selector}
use Rattle.sim_tree.specs.declared.expr.Selector.TheVariants as u
use Rattle.sim_tree.specs.declared.expr.Expr.TheOpen.{Selector-F}
use Rattle.sim_tree.specs.declared.expr.Expr.TheFolds.{fold-roll-Selector}
use Rattle.sim_tree.specs.declared.operator.Operator.{Operator}
use Rattle.sim_tree.specs.Syntax.{Dot, Expression, Qua, expressions}
use Rattle.sim_tree.specs.SyntaxOf.{Cast, Selection, Tail, Take, expr_layer, factor_layer, factor_syntax, operand_layer, operand_syntax, selected, selector_layer, selector_syntax, syntax_of, term_layer, term_syntax}
use Rattle.sim_code.specs.declared.instr.Instr.TheVariants as i
use Rattle.sim_meaning.specs.Attributes.{transfer_at}
use Rattle.sim_meaning.specs.Statements.{denoted_leaves, leaves}
use Rattle.codegen_expr.specs.declared.operators.Object.{Object}
use Rattle.codegen_expr.specs.declared.spot.Spot.{Spot}
use Rattle.codegen_expr.specs.CodeExpr.{gives}
use Rattle.codegen_expr.specs.Drafts.{DraftOf, Emits, given_up, with_instr}
use Rattle.codegen_expr.specs.Emit.{PutsBefore, WritesBefore, WritesDot, moves_next, moves_selection}
use Rattle.codegen_expr.proofs.Pieces.{emits_as, emits_at, emits_none, emits_then}
use Rattle.codegen_expr.proofs.Taken.{before_gives_up}
use Rattle.codegen.specs.declared.transfers.Transfer.{Transfer as Word}
use Rattle.codegen.specs.BuiltProgram.{CalledBuilt}
use Rattle.codegen.specs.CodeStm.{CalledAt, DropsAt}
use Rattle.codegen.specs.Emit.{WritesCalledBehind, WritesTakenCall}
use Rattle.codegen.specs.EmitTransfers.{FindsTransfer}
use Rattle.codegen.proofs.TransferCalls.{DotCall, at_none}

selector-Dot : (j : TokenNo) (y : Identifier) (l : Vec Expr Global) → selector_syntax (u.Dot j y l) ≡ Take j.0 y (expressions (map syntax_of l.items))
unfolding selector_syntax syntax_of operand_syntax term_syntax factor_syntax
selector-Dot j y l = ap selector_syntax (sym (u.rolls-Dot j y l)) ∙ fold-roll-Selector Expression Selection Tail (Operator → Tail) Tail expr_layer selector_layer factor_layer operand_layer term_layer (Selector-F.Dot j y l)

selector-Qua : (j : TokenNo) (y : Identifier) → selector_syntax (u.Qua j y) ≡ Cast j.0 y
unfolding selector_syntax
selector-Qua j y = ap selector_syntax (sym (u.rolls-Qua j y)) ∙ fold-roll-Selector Expression Selection Tail (Operator → Tail) Tail expr_layer selector_layer factor_layer operand_layer term_layer (Selector-F.Qua j y)

module _ (b : Bound) (w : Spot) where
  -- ---- an attribute behind its object

  behind : (a c d : DraftOf) (o : Object) (x : Identifier) (es : List Expr) (u : Option Denotation) (k : Bool) → transfer_at (source_of b) x.token.0 ≡ None → u ≡ denoted (source_of b) x.token.0 → k ≡ denoted_leaves (source_of b) u → k ≡ gives (source_of b) u → WritesDot b w 0 a c o x es → Emits w c d ⊤ (λ final site p q. DropsAt final k p q) → WritesCalledBehind b w a d o x es
  unfolding WritesCalledBehind WritesDot
  behind a c d o x es u k none eu el eg f g start e token before =
      let s = source_of b in
      let same : denoted_leaves s (denoted s x.token.0) ≡ gives s (denoted s x.token.0) = ap (denoted_leaves s) (sym eu) ∙ sym el ∙ eg ∙ ap (gives s) eu in
      let drops : denoted_leaves s (denoted s x.token.0) ≡ k = ap (denoted_leaves s) (sym eu) ∙ sym el in
      subst (DotCall s w start d e token x (expressions (map syntax_of es))) (sym none)
      (emits_as w _ _ _ _ start d (λ h. (h.1, tt)) (λ h. (same, h.0)) (λ final site p q _ _ r. (r.0, (same, r.1), subst (λ z. DropsAt final z r.0 q) (sym drops) r.2))
      (emits_then w _ ⊤ _ (λ final site p q. DropsAt final k p q) start c d (f start e before) g))

  pub behind_dropped : (a c d : DraftOf) (o : Object) (x : Identifier) (es : List Expr) (u : Option Denotation) (t : Option Word) (k m : Bool) → u ≡ denoted (source_of b) x.token.0 → FindsTransfer t u → t ≡ None → k ≡ denoted_leaves (source_of b) u → k ≡ true → m ≡ gives (source_of b) u → m ≡ true → WritesDot b w 0 a c o x es → d ≡ with_instr c i.Pop 0 → WritesCalledBehind b w a d o x es
  behind_dropped a c d o x es u t k m eu et none el is eg gs f ed =
      behind a c d o x es u true (at_none (source_of b) x.token.0 u t eu et none) eu (sym is ∙ el) (sym gs ∙ eg) f (emits_as w ⊤ ⊤ _ _ c d (λ h. h) (λ h. h) (λ final site p q _ _ r. record { line = 0; is = r }) (emits_at w c d i.Pop 0 ed (λ z. cc) refl))

  pub behind_kept : (a c : DraftOf) (o : Object) (x : Identifier) (es : List Expr) (u : Option Denotation) (t : Option Word) (k m : Bool) → u ≡ denoted (source_of b) x.token.0 → FindsTransfer t u → t ≡ None → k ≡ denoted_leaves (source_of b) u → k ≡ false → m ≡ gives (source_of b) u → m ≡ false → WritesDot b w 0 a c o x es → WritesCalledBehind b w a c o x es
  behind_kept a c o x es u t k m eu et none el is eg gs f = behind a c c o x es u false (at_none (source_of b) x.token.0 u t eu et none) eu (sym is ∙ el) (sym gs ∙ eg) f (emits_none w c)

  unbehind : (a c : DraftOf) (o : Object) (x : Identifier) (es : List Expr) (u : Option Denotation) (k m : Bool) → transfer_at (source_of b) x.token.0 ≡ None → u ≡ denoted (source_of b) x.token.0 → k ≡ denoted_leaves (source_of b) u → m ≡ gives (source_of b) u → (k ≡ m → ⊥) → c ≡ given_up a → WritesCalledBehind b w a c o x es
  unfolding WritesCalledBehind
  unbehind a c o x es u k m none eu el eg never ec start e token before =
      let s = source_of b in
      subst (DotCall s w start c e token x (expressions (map syntax_of es))) (sym none)
      (before_gives_up b w 0 _ _ start a c _ o e before (λ h. never (el ∙ ap (denoted_leaves s) eu ∙ h.0 ∙ ap (gives s) (sym eu) ∙ sym eg)) ec)

  pub behind_lost : (a c : DraftOf) (o : Object) (x : Identifier) (es : List Expr) (u : Option Denotation) (t : Option Word) (k m : Bool) → u ≡ denoted (source_of b) x.token.0 → FindsTransfer t u → t ≡ None → k ≡ denoted_leaves (source_of b) u → k ≡ true → m ≡ gives (source_of b) u → m ≡ false → c ≡ given_up a → WritesCalledBehind b w a c o x es
  behind_lost a c o x es u t k m eu et none el is eg gs ec = unbehind a c o x es u k m (at_none (source_of b) x.token.0 u t eu et none) eu el eg (λ h. cc) ec

  pub behind_stays : (a c : DraftOf) (o : Object) (x : Identifier) (es : List Expr) (u : Option Denotation) (t : Option Word) (k m : Bool) → u ≡ denoted (source_of b) x.token.0 → FindsTransfer t u → t ≡ None → k ≡ denoted_leaves (source_of b) u → k ≡ false → m ≡ gives (source_of b) u → m ≡ true → c ≡ given_up a → WritesCalledBehind b w a c o x es
  behind_stays a c o x es u t k m eu et none el is eg gs ec = unbehind a c o x es u k m (at_none (source_of b) x.token.0 u t eu et none) eu el eg (λ h. cc) ec

  -- ---- the last of what is taken

  one_more : (zs : List Selection) (k : ℕ) (z : Selection) (rest : List Selection) (e : Expression) → drop k zs ≡ z ∷ rest → selected (selected e (take k zs)) (z ∷ []) ≡ selected e (take (suc k) zs)
  one_more [] zero z rest e h = absurd (cc)
  one_more [] (suc k) z rest e h = absurd (cc)
  one_more (y ∷ ys) zero z rest e h = let q : y ≡ z = cc in ap (λ t. selected e (t ∷ [])) (sym q)
  one_more (Take j k args ∷ ys) (suc m) z rest e h = one_more ys m z rest (Dot j e k args) h
  one_more (Cast j k ∷ ys) (suc m) z rest e h = one_more ys m z rest (Qua j e k) h

  at_drop : (ys : List Selector) (k : ℕ) (y : Selector) → k < length ys → y ≡ slice_index_or ys k y → drop k (map selector_syntax ys) ≡ selector_syntax y ∷ drop (suc k) (map selector_syntax ys)
  at_drop [] k y le is = absurd (omega (arith, le))
  at_drop (z ∷ zs) zero y le is = ap (λ t. selector_syntax t ∷ map selector_syntax zs) (sym is)
  at_drop (z ∷ zs) (suc k) y le is = at_drop zs k y (omega (arith, le)) is

  take_map : (ys : List Selector) (k : ℕ) → length ys ≤ k → take k (map selector_syntax ys) ≡ map selector_syntax ys
  take_map [] zero le = refl
  take_map [] (suc k) le = refl
  take_map (z ∷ zs) zero le = absurd (omega (arith, le))
  take_map (z ∷ zs) (suc k) le = ap (λ t. selector_syntax z ∷ t) (take_map zs k (omega (arith, le)))

  abbrev Calls : (a d : DraftOf) → Expression → Type 0
  Calls a d e = Emits w a d (CalledBuilt (source_of b) w.text e) (λ final site p q. (y : ℕ) × CalledAt (source_of b) final site 0 e p y × DropsAt final (leaves (source_of b) e) y q)

  -- what is written of the last of it, in front of which the object stands
  whole : (a c d : DraftOf) (x : Expr) (ys : List Selector) (o : Object) (m : ℕ) (y : Selector) (z : Selection) → length ys ≢ 0 → WritesBefore b w 0 a c o x ys → m ≡ length ys - 1 → y ≡ slice_index_or ys m y → selector_syntax y ≡ z
      → ((e : Expression) → PutsBefore (source_of b) w 0 a c (moves_selection (source_of b) z) o e → Calls a d (selected e (z ∷ []))) → WritesTakenCall b w a d x ys
  unfolding WritesTakenCall WritesBefore
  whole a c d x ys o m y z some' f em is same g =
      let s = source_of b in
      let zs = map selector_syntax ys in
      let k = length ys - 1 in
      let is' : y ≡ slice_index_or ys k y = subst (λ t. y ≡ slice_index_or ys t y) em is in
      let lt : k < length ys = omega (arith, some') in
      let at : drop k zs ≡ z ∷ drop (suc k) zs = at_drop ys k y lt is' ∙ ap (λ t. t ∷ drop (suc k) zs) same in
      let f' = subst (λ t. PutsBefore s w 0 a c t o (selected (syntax_of x) (take k zs))) (ap (moves_next s) at) f in
      let r = g (selected (syntax_of x) (take k zs)) f' in
      let all : selected (selected (syntax_of x) (take k zs)) (z ∷ []) ≡ selected (syntax_of x) zs = one_more zs k z (drop (suc k) zs) (syntax_of x) at ∙ ap (selected (syntax_of x)) (take_map ys (suc k) (omega (arith, some'))) in
      subst (Calls a d) all r

  pub call_dot : (a c d : DraftOf) (x : Expr) (ys : List Selector) (o : Object) (m : ℕ) (y : Selector) (j : TokenNo) (k : Identifier) (args : Vec Expr Global) (es : List Expr) → length ys ≢ 0 → WritesBefore b w 0 a c o x ys → m ≡ length ys - 1 → y ≡ slice_index_or ys m y → y ≡ u.Dot j k args → es ≡ args.items → WritesCalledBehind b w c d o k es → WritesTakenCall b w a d x ys
  unfolding WritesCalledBehind
  call_dot a c d x ys o m y j k args es some' f em is ey ee g =
      whole a c d x ys o m y (Take j.0 k (expressions (map syntax_of es))) some' f em is (ap selector_syntax ey ∙ selector-Dot j k args ∙ ap (λ z. Take j.0 k (expressions (map syntax_of z))) (sym ee)) (λ e before. g a e j.0 before)

  pub call_cast : (a c d : DraftOf) (x : Expr) (ys : List Selector) (o : Object) (m : ℕ) (y : Selector) (j : TokenNo) (k : Identifier) → length ys ≢ 0 → WritesBefore b w 0 a c o x ys → m ≡ length ys - 1 → y ≡ slice_index_or ys m y → y ≡ u.Qua j k → d ≡ given_up c → WritesTakenCall b w a d x ys
  call_cast a c d x ys o m y j k some' f em is ey ed =
      whole a c d x ys o m y (Cast j.0 k) some' f em is (ap selector_syntax ey ∙ selector-Qua j k) (λ e before. before_gives_up b w 0 _ _ a c d _ o e before (λ h. h) ed)

pub ruleset calls = (behind_dropped, behind_kept, behind_lost, behind_stays, call_dot, call_cast)
