-- Calls that are checked when they are done.
use Rattle.std.proofs.Common.{◌≡◌, ◌<◌, ℕ, suc, ℤ, pos, Bool, true, false, List, [], ◌∷◌, ◌++◌, length, Some, refl, sym, ap, ◌∙◌, subst, arith}
use Rattle.std.specs.Prelude.{⊤, slice_get}
use Rattle.sim_base.specs.declared.numbering.TokenNo.{TokenNo}
use Rattle.sim_scope.specs.declared.bound.Bound.{Bound}
use Rattle.sim_scope.specs.Source.{line_at, source_of}
use Rattle.sim_tree.specs.declared.expr.Expr.{Expr}
use Rattle.sim_tree.specs.SyntaxOf.{syntax_of}
use Rattle.sim_code.specs.declared.code.CodeActual.{CodeActual}
use Rattle.sim_code.specs.declared.instr.Instr.{Instr}
use Rattle.sim_code.specs.declared.instr.Instr.TheVariants as i
use Rattle.sim_code.specs.Code.{CodeOf}
use Rattle.sim_code.specs.Running.{AllRun}
use Rattle.sim_meaning.specs.Checks.{passed}
use Rattle.codegen_expr.specs.declared.actuals.ActualKind.{ActualKind}
use Rattle.codegen_expr.specs.declared.spot.Spot.{Spot}
use Rattle.codegen_expr.specs.Built.{IfBuilt, ParametersBuilt}
use Rattle.codegen_expr.specs.CodeExpr.{CheckAt, ParameterAt, ParametersAt, ThunkIfAt, is_procedure, is_value, operands}
use Rattle.codegen_expr.specs.Drafts.{DraftOf, Emits, Longer, with_instr, with_list, with_push}
use Rattle.codegen_expr.specs.Emit.{GivenBuilt, ThunkGivesAt, WritesPast}
use Rattle.codegen_expr.specs.EmitVirtuals.{ActualsOf, OwesParameters, WritesCheck, WritesParameter, WritesParameters, WritesThunkIf, WritesValueCall, expressions_of, passed_by}
use Rattle.codegen_expr.specs.Sites.{At, Site}
use Rattle.codegen_expr.proofs.Pieces.{append_at, emits_as, emits_at, emits_classed, emits_none, emits_push_at, emits_then, get_front, more_then, still_before}
use Rattle.codegen_expr.proofs.Seen.{count}

longer_get : {A : Type 0} (xs ys : List A) (k : ℕ) (x : A) → Longer xs ys → slice_get xs k ≡ Some x → slice_get ys k ≡ Some x
longer_get xs ys k x f is = ap (λ z. slice_get z k) f.front ∙ get_front xs f.more k x is

-- one more list of actual parameters, and then more
emits_listed : (t : Spot) (P : Type 0) (A : CodeOf → Site → ℕ → ℕ → Type 0) (a b c : DraftOf) (xs : List CodeActual) → b ≡ with_list a xs → Emits t b c P A → Emits t a c P (λ final site p q. A final site p q × (slice_get final.actual_lists (length a.lists) ≡ Some xs))
unfolding with_list
emits_listed t P A a b c xs e f =
    let ei : b.instrs ≡ a.instrs = ap (λ z. z.instrs) e in
    let er : b.room ≡ a.room = ap (λ z. z.room) e in
    let es : b.size ≡ a.size = ap (λ z. z.size) e in
    let ew : b.whole ≡ a.whole = ap (λ z. z.whole) e in
    let el : b.lists ≡ a.lists ++ (xs ∷ []) = ap (λ z. z.lists) e in
    let bc = f.roomier in
    let bc' = f.larger in
    let one : Longer a.lists b.lists = record { more = xs ∷ []; front = el } in
    record {
      rest = f.rest;
      front = f.front ∙ ap (λ z. z ++ f.rest) ei;
      roomier = omega (arith, er, bc);
      larger = omega (arith, es, bc');
      classed = f.classed ∙ ap (λ z. z.classes) e;
      thunked = still_before (ap (λ z. z.thunks) e) f.thunked;
      listed = more_then one f.listed;
      built = λ p w. f.built p (ew ∙ w);
      before = λ w. sym ew ∙ f.before w;
      only = f.only;
      fits = λ h. f.fits (subst AllRun (sym ei) h);
      at = λ w final site g. (
        subst (λ n. A final site n (length c.instrs)) (ap length ei) (f.at w final site g),
        longer_get b.lists final.actual_lists (length a.lists) xs (more_then f.listed g.listed) (ap (λ z. slice_get z (length a.lists)) el ∙ append_at a.lists xs),
      );
    }

module _ (b : Bound) (w : Spot) where
  pub check_written : (a c0 c : DraftOf) (token : TokenNo) (es : List Expr) (xs : List CodeActual) (number : ℤ) (line : ℕ) (x : Instr) → ActualsOf b a es xs → number ≡ pos (length a.lists) → c0 ≡ with_list a xs → x ≡ i.Check number → line ≡ line_at (source_of b) token.0 → c ≡ with_instr c0 x line → WritesCheck b w a c token es
  unfolding WritesCheck ActualsOf
  check_written a c0 c token es xs number line x f en e0 ex el ec =
      let s = source_of b in
      let is : x ≡ i.Check (pos (length a.lists)) = ex ∙ ap i.Check en in
      emits_classed w ⊤ (λ final site p q. At final (i.Check (pos (length a.lists))) (line_at s token.0) p q × (slice_get final.actual_lists (length a.lists) ≡ Some xs)) _ a c
      (λ final site p q known r. record { number = length a.lists; listed = r.1 ∙ ap Some (f final known); check = r.0 })
      (emits_listed w ⊤ (λ final site p q. At final (i.Check (pos (length a.lists))) (line_at s token.0) p q) a c0 c xs e0
      (emits_at w c0 c (i.Check (pos (length a.lists))) (line_at s token.0) (ec ∙ ap (λ z. with_instr c0 z line) is ∙ ap (with_instr c0 (i.Check (pos (length a.lists)))) el) (λ z. cc) refl))

  -- ---- thunks

  abbrev If' : (a c : DraftOf) → (wanted as_procedure : Bool) → Expr → (number : ℕ) → Type 0
  If' a c v p e number =
      Emits w a c (IfBuilt v (GivenBuilt (source_of b) w.text p (syntax_of e))) (λ final site u y. ThunkIfAt v final site number (λ inner x z. ThunkGivesAt (source_of b) final inner p (syntax_of e) x z) u y)

  pub thunk_wanted : (a c : DraftOf) (v p : Bool) (e : Expr) (number : ℕ) → v ≡ true → WritesPast b w a c p e number → WritesThunkIf b w a c v p e number
  unfolding WritesThunkIf WritesPast
  thunk_wanted a c v p e number is f = subst (λ z. If' a c z p e number) (sym is) f

  pub thunk_left_out : (a : DraftOf) (v p : Bool) (e : Expr) → v ≡ false → WritesThunkIf b w a a v p e 0
  unfolding WritesThunkIf
  thunk_left_out a v p e is = subst (λ z. If' a a z p e 0) (sym is) (emits_none w a)

module _ (b : Bound) (w : Spot) (n : ℕ) where
  pub parameter_written : (a c0 c1 c : DraftOf) (token : TokenNo) (number value procedure line : ℕ) (e : Expr) (k : ActualKind) (v p : Bool) (x : Instr) → passed_by k ≡ passed (source_of b) (syntax_of e) → v ≡ is_value (passed_by k) → WritesThunkIf b w a c0 v false e value
      → p ≡ is_procedure (passed_by k) → WritesThunkIf b w c0 c1 p true e procedure → x ≡ i.Param (pos number) (pos value) (pos procedure) → line ≡ line_at (source_of b) token.0 → c ≡ with_push c1 n x line → WritesParameter b w n a c token number e
  unfolding WritesParameter WritesThunkIf
  parameter_written a c0 c1 c token number value procedure line e k v p x ek ev f ep g ex el ec =
      let s = source_of b in
      let y = i.Param (pos number) (pos value) (pos procedure) in
      let f' = subst (λ z. If' b w a c0 z false e value) (ev ∙ ap is_value ek) f in
      let g' = subst (λ z. If' b w c0 c1 z true e procedure) (ep ∙ ap is_procedure ek) g in
      emits_as w _ _ _ _ a c (λ t. (t.0, (t.1, tt))) (λ t. (t.0, t.1.0))
      (λ final site u z _ _ r. record { x = r.0; y = r.2.0; value_thunk = value; procedure_thunk = procedure; value = r.1; procedure = r.2.1; passes = r.2.2.0; fits = r.2.2.1 })
      (emits_then w _ _ (λ z site u t. ThunkIfAt (is_value (passed s (syntax_of e))) z site value (λ inner x' z'. ThunkGivesAt s z inner false (syntax_of e) x' z') u t)
      (λ z site u t. (t' : ℕ) × ThunkIfAt (is_procedure (passed s (syntax_of e))) z site procedure (λ inner x' z'. ThunkGivesAt s z inner true (syntax_of e) x' z') u t' × (At z y (line_at s token.0) t' t × (n < site.room))) a c0 c f'
      (emits_then w _ _ (λ z site u t. ThunkIfAt (is_procedure (passed s (syntax_of e))) z site procedure (λ inner x' z'. ThunkGivesAt s z inner true (syntax_of e) x' z') u t) (λ z site u t. At z y (line_at s token.0) u t × (n < site.room)) c0 c1 c g'
      (emits_push_at w c1 c n y (line_at s token.0) (ec ∙ ap (λ z. with_push c1 n z line) ex ∙ ap (with_push c1 n y) el) (λ z. cc) refl)))

  -- ---- one after the other

  pub parameters_all : (a : DraftOf) (token : TokenNo) (es : List Expr) → OwesParameters b w n a token es n 0 a es
  unfolding OwesParameters
  parameters_all a token es end f = f

  pub parameters_next : (a c d : DraftOf) (token : TokenNo) (es r r' : List Expr) (m m' number number' : ℕ) (x : Expr) → OwesParameters b w n a token es m number c r → r ≡ x ∷ r' → WritesParameter b w m c d token number x → m' ≡ suc m → number' ≡ suc number → OwesParameters b w n a token es m' number' d r'
  unfolding OwesParameters WritesParameters WritesParameter
  parameters_next a c d token es r r' m m' number number' x owes er one em en end rest =
      let s = source_of b in
      let line = line_at s token.0 in
      let xs' = expressions_of r' in
      let rest' = subst (λ z. Emits w d end (ParametersBuilt s w.text xs') (λ final site p q. ParametersAt s final site z line (suc number) xs' p q)) em (subst (λ z. Emits w d end (ParametersBuilt s w.text xs') (λ final site p q. ParametersAt s final site m' line z xs' p q)) en rest) in
      owes end
      (subst (λ z. Emits w c end (ParametersBuilt s w.text (expressions_of z)) (λ final site p q. ParametersAt s final site m line number (expressions_of z) p q)) (sym er)
      (emits_as w _ _ _ _ c end (λ t. ((t.0, t.1), t.2)) (λ t. (t.0.0, t.0.1, t.1)) (λ final site p q _ _ r. r)
      (emits_then w _ _ (λ z site p q. ParameterAt z site m line number (passed s (syntax_of x)) (λ as_procedure inner u v. ThunkGivesAt s z inner as_procedure (syntax_of x) u v) p q) (λ z site p q. ParametersAt s z site (suc m) line (suc number) xs' p q) c d end one rest')))

  pub parameters_none : (a c : DraftOf) (token : TokenNo) (es r : List Expr) (m number : ℕ) → OwesParameters b w n a token es m number c r → r ≡ [] → WritesParameters b w n 0 a c token es
  unfolding OwesParameters WritesParameters
  parameters_none a c token es r m number f er =
      let s = source_of b in
      f c (subst (λ z. Emits w c c (ParametersBuilt s w.text (expressions_of z)) (λ final site p q. ParametersAt s final site m (line_at s token.0) number (expressions_of z) p q)) (sym er) (emits_none w c))

  -- ---- the rest of a checked call

  pub value_called : (a c0 c1 c : DraftOf) (token : TokenNo) (es : List Expr) (m k line : ℕ) (x : Instr) → m ≡ suc n → WritesCheck b w a c0 token es → WritesParameters b w m 0 c0 c1 token es → k ≡ length es → x ≡ i.CallV (pos k) → line ≡ line_at (source_of b) token.0 → c ≡ with_instr c1 x line → WritesValueCall b w n a c token es
  unfolding WritesValueCall WritesCheck WritesParameters
  value_called a c0 c1 c token ys m k line x em f g ek ex el ec =
      let s = source_of b in
      let es = expressions_of ys in
      let g' = subst (λ z. Emits w c0 c1 (ParametersBuilt s w.text es) (λ final site p q. ParametersAt s final site z (line_at s token.0) 0 es p q)) em g in
      let y = i.CallV (pos (operands es)) in
      let at : x ≡ y = ex ∙ ap (λ z. i.CallV (pos z)) (ek ∙ sym (count ys)) in
      emits_as w _ _ _ _ a c (λ t. ((tt, t), tt)) (λ t. t.0.1) (λ final site p q _ _ r. r)
      (emits_then w _ _ (λ z site p q. (u : ℕ) × CheckAt s z (line_at s token.0) es p u × ParametersAt s z site (suc n) (line_at s token.0) 0 es u q) (λ z site p q. At z y (line_at s token.0) p q) a c1 c
      (emits_then w _ _ (λ z site p q. CheckAt s z (line_at s token.0) es p q) (λ z site p q. ParametersAt s z site (suc n) (line_at s token.0) 0 es p q) a c0 c1 f g')
      (emits_at w c1 c y (line_at s token.0) (ec ∙ ap (λ z. with_instr c1 z line) at ∙ ap (with_instr c1 y) el) (λ z. cc) refl))

pub ruleset checks = (check_written, thunk_wanted, thunk_left_out, parameter_written, value_called)
