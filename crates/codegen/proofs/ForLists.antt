-- The elements of a `for` list, one behind another.
use Rattle.std.proofs.Common.{◌≡◌, ◌≢◌, ℕ, suc, Bool, List, [], ◌∷◌, length, Option, None, true, false, refl, sym, ap, ◌∙◌, subst, arith}
use Rattle.std.specs.Prelude.{⊤}
use Rattle.std.specs.declared.alloc.Global.{Global}
use Rattle.std.specs.declared.boxed.Box.{Box}
use Rattle.std.specs.declared.vec.Vec.{Vec}
use Rattle.sim_base.specs.declared.numbering.TokenNo.{TokenNo}
use Rattle.sim_scope.specs.declared.bound.Bound.{Bound}
use Rattle.sim_scope.specs.Source.{Source, source_of}
use Rattle.sim_tree.specs.declared.expr.Expr.{Expr}
use Rattle.sim_tree.specs.declared.expr.Identifier.{Identifier}
use Rattle.sim_tree.specs.declared.program.BlockPrefix.{BlockPrefix}
use Rattle.sim_tree.specs.declared.stmt.Activation.{Activation}
use Rattle.sim_tree.specs.declared.stmt.Assigned.{Assigned}
use Rattle.sim_tree.specs.declared.stmt.Block.{Block}
use Rattle.sim_tree.specs.declared.stmt.ForElement.{ForElement}
use Rattle.sim_tree.specs.declared.stmt.ReferenceElement.{ReferenceElement}
use Rattle.sim_tree.specs.declared.stmt.Stmt.{Stmt}
use Rattle.sim_tree.specs.declared.stmt.Stmt.TheVariants as t
use Rattle.sim_tree.specs.declared.stmt.Timing.{Timing}
use Rattle.sim_tree.specs.declared.stmt.When.{When}
use Rattle.sim_tree.specs.Syntax.{Element, Statement}
use Rattle.sim_tree.specs.SyntaxOfProgram.{statement_syntax}
use Rattle.sim_tree.proofs.ProgramSyntaxLemmas as v
use Rattle.codegen_expr.specs.declared.spot.Spot.{Spot}
use Rattle.codegen_expr.specs.Drafts.{DraftOf, Emits}
use Rattle.codegen_expr.proofs.Pieces.{emits_as, emits_none, emits_then}
use Rattle.codegen.specs.BuiltProgram.{StatementBuilt}
use Rattle.codegen.specs.CodeFor.{ListAt, Variable, is_empty}
use Rattle.codegen.specs.EmitTargets.{ElementsOver, ListOver}
use Rattle.codegen.specs.CodeStm.{StmAt}
use Rattle.codegen.specs.Emit.{WritesElementOf, WritesList}
use Rattle.codegen.specs.EmitLists.{EachBuilt, OwesEach, WritesEach}
use Rattle.codegen.specs.declared.targets.Target.{Target}

-- ---- empty statements

other : (x : Stmt) (y : Statement) → statement_syntax x ≡ y → is_empty y ≡ false → false ≡ is_empty (statement_syntax x)
other x y e f = sym (ap is_empty e ∙ f)

pub empty_empty : (x : Stmt) (k : TokenNo) → x ≡ t.Empty k → true ≡ is_empty (statement_syntax x)
empty_empty x k is = sym (ap is_empty (ap statement_syntax is ∙ v.syntax-Empty k))

pub other_block : (x : Stmt) (k : Block) → x ≡ t.Block k → false ≡ is_empty (statement_syntax x)
other_block x k is = other x _ (ap statement_syntax is ∙ v.syntax-Block k) refl

pub other_call : (x : Stmt) (k : Expr) → x ≡ t.Call k → false ≡ is_empty (statement_syntax x)
other_call x k is = other x _ (ap statement_syntax is ∙ v.syntax-Call k) refl

pub other_assigned : (x : Stmt) (k : Expr) (l : Vec Assigned Global) → x ≡ t.Assignment k l → false ≡ is_empty (statement_syntax x)
other_assigned x k l is = other x _ (ap statement_syntax is ∙ v.syntax-Assignment k l) refl

pub other_if : (x : Stmt) (k : TokenNo) (h : Expr) (p : Box Stmt Global) (o : Option (Box Stmt Global)) → x ≡ t.If k h p o → false ≡ is_empty (statement_syntax x)
other_if x k h p o is = other x _ (ap statement_syntax is ∙ v.syntax-If k h p o) refl

pub other_while : (x : Stmt) (k : TokenNo) (h : Expr) (p : Box Stmt Global) → x ≡ t.While k h p → false ≡ is_empty (statement_syntax x)
other_while x k h p is = other x _ (ap statement_syntax is ∙ v.syntax-While k h p) refl

pub other_for : (x : Stmt) (k : TokenNo) (y : Identifier) (n : TokenNo) (l : Vec ForElement Global) (p : Box Stmt Global) → x ≡ t.For k y n l p → false ≡ is_empty (statement_syntax x)
other_for x k y n l p is = other x _ (ap statement_syntax is ∙ v.syntax-For k y n l p) refl

pub other_prefixed : (x : Stmt) (p : BlockPrefix) (k : Block) → x ≡ t.PrefixedBlock p k → false ≡ is_empty (statement_syntax x)
other_prefixed x p k is = other x _ (ap statement_syntax is ∙ v.syntax-PrefixedBlock p k) refl

pub other_inner : (x : Stmt) (k : TokenNo) → x ≡ t.Inner k → false ≡ is_empty (statement_syntax x)
other_inner x k is = other x _ (ap statement_syntax is ∙ v.syntax-Inner k) refl

pub other_references : (x : Stmt) (k : TokenNo) (y : Identifier) (n : TokenNo) (l : Vec ReferenceElement Global) (p : Box Stmt Global) → x ≡ t.ForReference k y n l p → false ≡ is_empty (statement_syntax x)
other_references x k y n l p is = other x _ (ap statement_syntax is ∙ v.syntax-ForReference k y n l p) refl

pub other_inspect : (x : Stmt) (k : TokenNo) (h : Expr) (n : TokenNo) (p : Box Stmt Global) (m : TokenNo) (o : Option (Box Stmt Global)) → x ≡ t.Inspect k h n p m o → false ≡ is_empty (statement_syntax x)
other_inspect x k h n p m o is = other x _ (ap statement_syntax is ∙ v.syntax-Inspect k h n p m o) refl

pub other_inspect_when : (x : Stmt) (k : TokenNo) (h : Expr) (l : Vec When Global) (o : Option (Box Stmt Global)) → x ≡ t.InspectWhen k h l o → false ≡ is_empty (statement_syntax x)
other_inspect_when x k h l o is = other x _ (ap statement_syntax is ∙ v.syntax-InspectWhen k h l o) refl

pub other_activation : (x : Stmt) (k : TokenNo) (n : Activation) (h : Expr) (o : Option Timing) → x ≡ t.Activation k n h o → false ≡ is_empty (statement_syntax x)
other_activation x k n h o is = other x _ (ap statement_syntax is ∙ v.syntax-Activation k n h o) refl

pub ruleset empties = (empty_empty, other_block, other_call, other_assigned, other_if, other_while, other_for, other_prefixed, other_inner, other_references, other_inspect, other_inspect_when, other_activation)

-- ---- elements

each_of : (s : Source) (k : ℕ) (v : Variable) (es : List Element) (Turn : Type 0) → Turn → ElementsOver s k v es → EachBuilt s k v es Turn
each_of s k v [] Turn f h = tt
each_of s k v (e ∷ es) Turn f h = ((h.0, f), each_of s k v es Turn f h.1)

elements_of : (s : Source) (k : ℕ) (v : Variable) (es : List Element) (Turn : Type 0) → EachBuilt s k v es Turn → ElementsOver s k v es
elements_of s k v [] Turn h = tt
elements_of s k v (e ∷ es) Turn h = (h.0.0, elements_of s k v es Turn h.1)

module _ (b : Bound) (w : Spot) where
  pub each_all : (a : DraftOf) (t0 : Target) (xs : List Element) (z : Stmt) → OwesEach b w a t0 xs z a xs
  unfolding OwesEach
  each_all a t0 xs z end f = f

  pub each_next : (a c d : DraftOf) (t0 : Target) (xs r r' : List Element) (z : Stmt) (x : Element) (on : ℕ) → OwesEach b w a t0 xs z c r → r ≡ x ∷ r' → WritesElementOf b w c d t0 x z None on → OwesEach b w a t0 xs z d r'
  unfolding OwesEach WritesEach WritesElementOf
  each_next a c d t0 xs r r' z x on f is one end rest =
      f end (subst (λ l. WritesEach b w c end t0 l z) (sym is)
      (λ variable ct. emits_as w _ _ _ _ c end (λ h. h) (λ h. h) (λ final site p q _ _ at number. (at.0, at.1, at.2 (suc number))) (emits_then w _ _ _ _ c d end (one variable ct (omega arith)).2 (rest variable ct))))

  pub each_none : (a c : DraftOf) (t0 : Target) (xs r : List Element) (z : Stmt) → OwesEach b w a t0 xs z c r → r ≡ [] → WritesEach b w a c t0 xs z
  unfolding OwesEach WritesEach
  each_none a c t0 xs r z f is =
      f c (subst (λ l. WritesEach b w c c t0 l z) (sym is) (λ variable ct. emits_as w ⊤ ⊤ _ _ c c (λ h. h) (λ h. h) (λ final site p q _ _ at number. at) (emits_none w c)))

  pub write_each_of : (a c : DraftOf) (es : List Element) (z : Stmt) (t0 : Target) (e : Bool) (m n : ℕ) → m ≡ length es → m ≢ 1 → n ≡ length es → n ≢ 0 → e ≡ is_empty (statement_syntax z) → e ≡ true → WritesEach b w a c t0 es z → WritesList b w a c t0 es z
  unfolding WritesList WritesEach
  write_each_of a c [] z t0 e m n em one en none ee is f variable ct = absurd (none en)
  write_each_of a c (x ∷ []) z t0 e m n em one en none ee is f variable ct = absurd (one em)
  write_each_of a c (x ∷ y ∷ xs) z t0 e m n em one en none ee is f variable ct =
      let s = source_of b in
      let all = x ∷ y ∷ xs in
      let Body = StatementBuilt s w.text (statement_syntax z) in
      subst (λ u. Emits w a c (ListOver s w.text variable all Body) (λ final site p q. ListAt s final site 0 variable u all (λ site. StmAt s final site 0 (statement_syntax z)) p q)) (sym is ∙ ee)
      (emits_as w _ _ _ _ a c (λ h. each_of s w.text variable all Body h.1 h.0) (λ h. (elements_of s w.text variable all Body h, h.0.1)) (λ final site p q _ _ at. at 0) (f variable ct))

pub ruleset lists = (write_each_of)
