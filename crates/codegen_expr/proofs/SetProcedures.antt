-- Attributes of SIMSET and of processes.
use Rattle.std.proofs.Common.{◌≡◌, ◌≢◌, ℕ, pos, suc, Bool, List, [], ◌∷◌, length, map, Option, Some, None, true, false, refl, sym, ap, ◌∙◌, subst}
use Rattle.sim_base.specs.declared.numbering.TokenNo.{TokenNo}
use Rattle.sim_scope.specs.declared.bound.Bound.{Bound}
use Rattle.sim_scope.specs.declared.types.FormalKind.TheVariants as shape
use Rattle.sim_scope.specs.declared.types.Mode.TheVariants as mode
use Rattle.sim_scope.specs.declared.types.SimType.{SimType}
use Rattle.sim_scope.specs.Source.{line_at, source_of}
use Rattle.sim_tree.specs.declared.expr.Expr.{Expr}
use Rattle.sim_tree.specs.Syntax.{expressions}
use Rattle.sim_tree.specs.SyntaxOf.{syntax_of}
use Rattle.sim_values.specs.Standard.{row_of}
use Rattle.sim_code.specs.declared.instr.Instr.{Instr}
use Rattle.sim_code.specs.declared.instr.Instr.TheVariants as i
use Rattle.sim_code.specs.Sets.{parameter_count}
use Rattle.sim_meaning.specs.Attributes.{attribute_formals}
use Rattle.sim_meaning.specs.Closing.{has_type}
use Rattle.sim_meaning.specs.Statements.{has_value}
use Rattle.codegen_expr.specs.declared.sets.SetProcedure.{SetProcedure}
use Rattle.codegen_expr.specs.declared.spot.Spot.{Spot}
use Rattle.codegen_expr.specs.Built.{ActualsBuilt}
use Rattle.codegen_expr.specs.CodeExpr.{ActualsAt, Listed, SetNamed, operands}
use Rattle.codegen_expr.specs.Drafts.{DraftOf, Emits, given_up, with_instr}
use Rattle.codegen_expr.specs.Emit.{WritesActuals}
use Rattle.codegen_expr.specs.EmitObjects.{BaseAt, PutsBase}
use Rattle.codegen_expr.specs.EmitSets.{CodeOfSet, FindsSet, NumberOfSet, WritesReferences, WritesSet, as_declared}
use Rattle.codegen_expr.specs.Sites.{At}
use Rattle.codegen_expr.proofs.OfObjects.{gives_up}
use Rattle.codegen_expr.proofs.Pieces.{emits_as, emits_at, emits_then}
use Rattle.codegen_expr.proofs.Seen.{count}

-- ---- numbers

pub agrees : (type : Option SimType) (leaves : Bool) → as_declared type leaves ≡ true → has_type type ≡ leaves
agrees None true e = cc
agrees None false e = refl
agrees (Some type) true e = refl
agrees (Some type) false e = cc

pub differs : (type : Option SimType) (leaves : Bool) → as_declared type leaves ≡ false → has_type type ≡ leaves → ⊥
differs None true e h = cc
differs None false e h = cc
differs (Some type) true e h = cc
differs (Some type) false e h = cc

pub set_miscounted : (x : SetProcedure) (count k : ℕ) → k ≡ parameter_count x.name → count ≢ k → FindsSet x count None
unfolding FindsSet
set_miscounted x count k ek other = λ h. other (h.as_many ∙ sym ek)

pub set_misdeclared : (x : SetProcedure) (count : ℕ) → as_declared x.result (has_value (row_of x.name).result) ≡ false → FindsSet x count None
unfolding FindsSet
set_misdeclared x count no' = λ h. differs x.result (has_value (row_of x.name).result) no' h.leaves

pub set_numbered : (x : SetProcedure) (count k : ℕ) (r : Option ℕ) → k ≡ parameter_count x.name → count ≡ k → as_declared x.result (has_value (row_of x.name).result) ≡ true → NumberOfSet x.name r → FindsSet x count r
unfolding FindsSet
set_numbered x count k None ek many yes' h = λ t. let q : true ≡ false = sym t.is_name ∙ h in cc
set_numbered x count k (Some n) ek many yes' h = (record { is_name = h.0; as_many = many ∙ ek; leaves = agrees x.result (has_value (row_of x.name).result) yes' }, h.1, h.2)

-- ---- what is written

module _ (b : Bound) (w : Spot) (n : ℕ) where
  pub one_reference : (a c : DraftOf) (token : TokenNo) (o : Option SimType) (type : SimType) (es : List Expr) → o ≡ Some type → WritesActuals b w n a c false token es (record { mode = mode.ByReference; kind = shape.Simple; ty = Some type } ∷ []) → WritesReferences b w n a c token o es
  unfolding WritesReferences
  one_reference a c token o type es is f = subst (λ z. WritesActuals b w n a c false token es (attribute_formals z)) (sym is) f

  pub no_reference : (a c : DraftOf) (token : TokenNo) (o : Option SimType) (es : List Expr) → o ≡ None → WritesActuals b w n a c false token es [] → WritesReferences b w n a c token o es
  unfolding WritesReferences
  no_reference a c token o es is f = subst (λ z. WritesActuals b w n a c false token es (attribute_formals z)) (sym is) f

  pub no_set : (a c : DraftOf) (token : TokenNo) (x : SetProcedure) (es : List Expr) (k : ℕ) (r : Option ℕ) → k ≡ length es → FindsSet x k r → r ≡ None → c ≡ given_up a → WritesSet b w n a c token x es
  unfolding WritesSet FindsSet PutsBase
  no_set a c token x ys k r ek f none ec start y h =
      let never : SetNamed x.name x.result k → ⊥ = subst (CodeOfSet x k) none f in
      gives_up b w n _ _ _ _ start a c h (λ t. never (subst (SetNamed x.name x.result) (count ys ∙ sym ek) t.1)) ec

  pub set_done : (a c0 c1 c : DraftOf) (token : TokenNo) (x : SetProcedure) (es : List Expr) (k number m line line2 : ℕ) (r : Option ℕ) (j : Instr) → k ≡ length es → FindsSet x k r → r ≡ Some number → m ≡ suc n → line ≡ line_at (source_of b) token.0 → c0 ≡ with_instr a i.NotNone line
      → WritesReferences b w m c0 c1 token x.parameter es → j ≡ i.Std (pos number) → line2 ≡ line_at (source_of b) token.0 → c ≡ with_instr c1 j line2 → WritesSet b w n a c token x es
  unfolding WritesSet WritesReferences WritesActuals FindsSet PutsBase
  set_done a c0 c1 c token x ys k number m line line2 r j ek f some em el e0 g ej el2 ec start y h =
      let s = source_of b in
      let es = expressions (map syntax_of ys) in
      let fs = Listed (attribute_formals x.parameter) in
      let ln = line_at s token.0 in
      let of : CodeOfSet x k (Some number) = subst (CodeOfSet x k) some f in
      let named : SetNamed x.name x.result (operands es) = subst (SetNamed x.name x.result) (ek ∙ sym (count ys)) of.0 in
      let g' = subst (λ z. Emits w c0 c1 (ActualsBuilt s w.text es fs) (λ final site p q. ActualsAt s final site z ln false es fs p q)) em g in
      emits_as w _ _ _ _ start c (λ t. (t.0, (tt, (t.2, tt)))) (λ t. (t.0, named, t.1.1.0))
      (λ final site p q _ _ r. record { x = r.0; y = r.2.0; z = r.2.2.0; named = named; object = r.1; there = r.2.1; actuals = r.2.2.1; number = number; numbered = of.1; done = r.2.2.2 })
      (emits_then w _ _ (λ z site p q. BaseAt s z site n y p q) (λ z site p q. (u : ℕ) × At z i.NotNone ln p u × ((v : ℕ) × ActualsAt s z site (suc n) ln false es fs u v × At z (i.Std (pos number)) ln v q)) start a c h
      (emits_then w _ _ (λ z site. At z i.NotNone ln) (λ z site p q. (v : ℕ) × ActualsAt s z site (suc n) ln false es fs p v × At z (i.Std (pos number)) ln v q) a c0 c (emits_at w a c0 i.NotNone ln (e0 ∙ ap (λ z. with_instr a i.NotNone z) el) (λ z. cc) refl)
      (emits_then w _ _ (λ z site p q. ActualsAt s z site (suc n) ln false es fs p q) (λ z site. At z (i.Std (pos number)) ln) c0 c1 c g'
      (emits_at w c1 c (i.Std (pos number)) ln (ec ∙ ap (λ z. with_instr c1 z line2) ej ∙ ap (λ z. with_instr c1 (i.Std (pos number)) z) el2) (λ z. cc) of.2))))

pub ruleset numbers = (set_miscounted, set_misdeclared, set_numbered)

pub ruleset sets = (one_reference, no_reference, no_set, set_done)
