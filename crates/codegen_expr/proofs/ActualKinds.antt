-- What actual parameters are.
use Rattle.std.proofs.Common.{◌≡◌, ◌≢◌, ◌-◌, ℕ, zero, suc, Bool, List, [], ◌∷◌, ◌++◌, length, map, true, false, Bor, Option, Some, None, refl, sym, ap, ◌∙◌, arith, append_assoc, append-nil}
use Rattle.std.specs.Prelude.{slice_index_or}
use Rattle.std.specs.declared.alloc.Global.{Global}
use Rattle.std.specs.declared.vec.Vec.{Vec}
use Rattle.sim_base.specs.declared.numbering.DeclNo.{DeclNo}
use Rattle.sim_base.specs.declared.numbering.TokenNo.{TokenNo}
use Rattle.sim_scope.specs.declared.bound.Bound.{Bound}
use Rattle.sim_scope.specs.declared.scopes.Denotation.{Denotation}
use Rattle.sim_scope.specs.declared.scopes.Denotation.TheVariants as denotation
use Rattle.sim_scope.specs.declared.standard.StandardName.{StandardName}
use Rattle.sim_scope.specs.declared.types.Entry.{Entry}
use Rattle.sim_scope.specs.declared.types.Entry.TheVariants as entry
use Rattle.sim_scope.specs.declared.types.Formal.{Formal}
use Rattle.sim_scope.specs.declared.types.SimType.{SimType}
use Rattle.sim_scope.specs.declared.types.WrittenMode.{WrittenMode}
use Rattle.sim_scope.specs.Scopes.{entry_of}
use Rattle.sim_scope.specs.Source.{Source, denoted, source_of, type_at}
use Rattle.sim_tree.specs.declared.expr.Expr.{Expr}
use Rattle.sim_tree.specs.declared.expr.Identifier.{Identifier}
use Rattle.sim_tree.specs.declared.expr.Selector.{Selector}
use Rattle.sim_tree.specs.declared.expr.Selector.TheVariants as selector
use Rattle.sim_tree.specs.Syntax.{Binary, Constant, Dot, Expression, Expressions, If, Member, Named, New, NoMore, Not, Parentheses, Qua, Signed, This, expressions}
use Rattle.sim_tree.specs.SyntaxOf.{Cast, Selection, Take, selected, selector_syntax, syntax_of}
use Rattle.sim_values.specs.declared.standard.Standard.{Standard}
use Rattle.sim_code.specs.declared.code.CodeActual.{CodeActual}
use Rattle.sim_code.specs.declared.code.CodeType.{CodeType}
use Rattle.sim_code.specs.declared.code.CodeType.TheVariants as type
use Rattle.sim_meaning.specs.Checks.{Passed, PassedProcedure, PassedValue, denoted_passed, entry_passed, formal_passed, passed, value_passed}
use Rattle.sim_meaning.specs.Closing.{is_placed, typed_token}
use Rattle.sim_meaning.specs.Levels.{qualification}
use Rattle.codegen_expr.specs.declared.actuals.ActualKind.{ActualKind}
use Rattle.codegen_expr.specs.declared.actuals.ActualKind.TheVariants as actual
use Rattle.codegen_expr.specs.declared.forms.Form.{Form}
use Rattle.codegen_expr.specs.declared.forms.Form.TheVariants as form
use Rattle.codegen_expr.specs.CodeExpr.{class_or_none, code_actual, code_actuals, type_of}
use Rattle.codegen_expr.specs.Drafts.{DraftOf}
use Rattle.codegen_expr.specs.Emit.{formals_of_block}
use Rattle.codegen_expr.specs.EmitVirtuals.{ActualGiven, ActualOf, ActualsOf, EntryKind, OwesActualsOf, expressions_of, passed_by, passed_or}
use Rattle.codegen_expr.specs.Forms.{FindsForm, IsNew, IsOther}
use Rattle.codegen_expr.specs.Thunks.{ClassOrNone}
use Rattle.codegen_expr.proofs.Attributes.{form_at, selector-Dot, selector-Qua}
use Rattle.codegen_expr.proofs.Seen.{block_formals}

-- ---- what is declared

pub value_found : (b : Bound) (x : Expr) (token : TokenNo) (ty : Option SimType) (v : Bool) → token.0 ≡ typed_token (syntax_of x) → ty ≡ type_at (source_of b) token.0 → v ≡ is_placed (source_of b) (syntax_of x) → PassedValue ty v ≡ value_passed (source_of b) (syntax_of x)
value_found b x token ty v et ey ev = ap (λ z. PassedValue z v) (ey ∙ ap (type_at (source_of b)) et) ∙ ap (PassedValue (type_at (source_of b) (typed_token (syntax_of x)))) ev

module _ (b : Bound) (d : DeclNo) (v : ActualKind) where
  pub kind_array : (k : Option Entry) (element : SimType) (dimensions : ℕ) → k ≡ Some (entry.Array element dimensions) → EntryKind b d k v (actual.Array (Some element))
  unfolding EntryKind
  kind_array k element dimensions is ek = ap (λ z. entry_passed (source_of b) d z (passed_by v)) (sym is)

  pub kind_procedure : (k : Option Entry) (result : Option SimType) (block n : ℕ) (fs : List Formal) → k ≡ Some (entry.Procedure result block) → fs ≡ formals_of_block (source_of b) block → n ≡ length fs → EntryKind b d k v (actual.Procedure result n)
  unfolding EntryKind
  kind_procedure k result block n fs is ef en ek =
      ap (PassedProcedure result) (en ∙ ap length (ef ∙ block_formals (source_of b) d result block (sym is ∙ ek))) ∙ ap (λ z. entry_passed (source_of b) d z (passed_by v)) (sym is)

  pub kind_virtual : (k : Option Entry) (result : Option SimType) (own : Option DeclNo) → k ≡ Some (entry.Virtual result own) → EntryKind b d k v (actual.Procedure result 0)
  unfolding EntryKind
  kind_virtual k result own is ek = ap (λ z. entry_passed (source_of b) d z (passed_by v)) (sym is)

  pub kind_formal : (k : Option Entry) (f : Formal) (r : ActualKind) → k ≡ Some (entry.Formal f) → passed_by r ≡ formal_passed f.kind f.ty (passed_by v) → EntryKind b d k v r
  unfolding EntryKind
  kind_formal k f r is er ek = er ∙ ap (λ z. entry_passed (source_of b) d z (passed_by v)) (sym is)

  pub kind_variable : (k : Option Entry) (type : SimType) → k ≡ Some (entry.Variable type) → EntryKind b d k v v
  unfolding EntryKind
  kind_variable k type is ek = ap (λ z. entry_passed (source_of b) d z (passed_by v)) (sym is)

  pub kind_constant : (k : Option Entry) (type : SimType) → k ≡ Some (entry.Constant type) → EntryKind b d k v v
  unfolding EntryKind
  kind_constant k type is ek = ap (λ z. entry_passed (source_of b) d z (passed_by v)) (sym is)

  pub kind_class : (k : Option Entry) (text : ℕ) → k ≡ Some (entry.Class text) → EntryKind b d k v v
  unfolding EntryKind
  kind_class k text is ek = ap (λ z. entry_passed (source_of b) d z (passed_by v)) (sym is)

  pub kind_attribute : (k : Option Entry) (name : Standard) (parameter result : Option SimType) → k ≡ Some (entry.Attribute name parameter result) → EntryKind b d k v v
  unfolding EntryKind
  kind_attribute k name parameter result is ek = ap (λ z. entry_passed (source_of b) d z (passed_by v)) (sym is)

  pub kind_unspecified : (k : Option Entry) (written : Option WrittenMode) → k ≡ Some (entry.Unspecified written) → EntryKind b d k v v
  unfolding EntryKind
  kind_unspecified k written is ek = ap (λ z. entry_passed (source_of b) d z (passed_by v)) (sym is)

  pub kind_none : (k : Option Entry) → k ≡ None → EntryKind b d k v v
  unfolding EntryKind
  kind_none k is ek = ap (λ z. entry_passed (source_of b) d z (passed_by v)) (sym is)

module _ (b : Bound) (v : ActualKind) where
  pub kind_declared : (u : Option Denotation) (d : DeclNo) (k : Option Entry) (r : ActualKind) → u ≡ Some (denotation.Declared d) → k ≡ entry_of b.scopes d → EntryKind b d k v r → passed_by r ≡ denoted_passed (source_of b) u (passed_by v)
  unfolding EntryKind source_of
  kind_declared u d k r some ek f = f ek ∙ ap (λ z. entry_passed (source_of b) d z (passed_by v)) ek ∙ ap (λ z. denoted_passed (source_of b) z (passed_by v)) (sym some)

  pub kind_standard : (u : Option Denotation) (x : StandardName) → u ≡ Some (denotation.Standard x) → passed_by v ≡ denoted_passed (source_of b) u (passed_by v)
  kind_standard u x some = ap (λ z. denoted_passed (source_of b) z (passed_by v)) (sym some)

  pub kind_undeclared : (u : Option Denotation) → u ≡ None → passed_by v ≡ denoted_passed (source_of b) u (passed_by v)
  kind_undeclared u none = ap (λ z. denoted_passed (source_of b) z (passed_by v)) (sym none)

-- ---- what is taken last of an operand

-- a selection as an actual parameter
abbrev taken_or : Source → Selection → (value : Passed) → Passed
taken_or s (Take token name NoMore) v = denoted_passed s (denoted s name.token.0) v
taken_or s y v = v

one_taken : (s : Source) (x : Expression) (z : Selection) (v : Passed) → taken_or s z v ≡ passed_or s (selected x (z ∷ [])) v
one_taken s x (Take i k args) v = by args
  where
    by : (es : Expressions) → taken_or s (Take i k es) v ≡ passed_or s (Dot i x k es) v
    by NoMore = refl
    by (Rattle.sim_tree.specs.Syntax.Then e es) = refl
one_taken s x (Cast i k) v = refl

last_taken : (s : Source) (l : List Selector) (k : ℕ) (y : Selector) (x : Expression) (v : Passed) → suc k ≡ length l → y ≡ slice_index_or l k y → taken_or s (selector_syntax y) v ≡ passed_or s (selected x (map selector_syntax l)) v
last_taken s [] k y x v e is = absurd (omega (arith, e))
last_taken s (z ∷ []) zero y x v e is = ap (λ u. taken_or s (selector_syntax u) v) is ∙ one_taken s x (selector_syntax z) v
last_taken s (z ∷ []) (suc k) y x v e is = absurd (omega (arith, e))
last_taken s (z ∷ u ∷ us) zero y x v e is = absurd (omega (arith, e))
last_taken s (z ∷ u ∷ us) (suc k) y x v e is = behind (selector_syntax z) (λ x'. last_taken s (u ∷ us) k y x' v (omega (arith, e)) is)
  where
    behind : (t : Selection) → ((x' : Expression) → taken_or s (selector_syntax y) v ≡ passed_or s (selected x' (map selector_syntax (u ∷ us))) v) → taken_or s (selector_syntax y) v ≡ passed_or s (selected x (t ∷ map selector_syntax (u ∷ us))) v
    behind (Take i j args) rest = rest (Dot i x j args)
    behind (Cast i j) rest = rest (Qua i x j)

nothing : (es : List Expr) → length es ≡ 0 → expressions (map syntax_of es) ≡ NoMore
nothing [] e = refl
nothing (y ∷ ys) e = absurd (omega (arith, e))

module _ (b : Bound) (l : List Selector) (m : ℕ) (y : Selector) (v : ActualKind) where
  pub taken_alone : (i : TokenNo) (k : Identifier) (args : Vec Expr Global) (u : Option Denotation) (r : ActualKind) → length l ≢ 0 → m ≡ length l - 1 → y ≡ slice_index_or l m y → y ≡ selector.Dot i k args → length args.items ≡ 0 → u ≡ denoted (source_of b) k.token.0
      → passed_by r ≡ denoted_passed (source_of b) u (passed_by v) → (x : Expression) → passed_by r ≡ passed_or (source_of b) (selected x (map selector_syntax l)) (passed_by v)
  taken_alone i k args u r some' em is ey none eu er x =
      let s = source_of b in
      let dot : selector_syntax y ≡ Take i.0 k NoMore = ap selector_syntax ey ∙ selector-Dot i k args ∙ ap (Take i.0 k) (nothing args.items none) in
      er ∙ ap (λ z. denoted_passed s z (passed_by v)) eu ∙ ap (λ z. taken_or s z (passed_by v)) (sym dot) ∙ last_taken s l m y x (passed_by v) (omega (arith, em, some')) is

  pub taken_subscripted : (i : TokenNo) (k : Identifier) (args : Vec Expr Global) → length l ≢ 0 → m ≡ length l - 1 → y ≡ slice_index_or l m y → y ≡ selector.Dot i k args → length args.items ≢ 0 → (x : Expression) → passed_by v ≡ passed_or (source_of b) (selected x (map selector_syntax l)) (passed_by v)
  taken_subscripted i k args some' em is ey some'' x =
      let s = source_of b in
      ended args.items some'' ∙ ap (λ z. taken_or s z (passed_by v)) (sym (ap selector_syntax ey ∙ selector-Dot i k args)) ∙ last_taken s l m y x (passed_by v) (omega (arith, em, some')) is
    where
      ended : (es : List Expr) → length es ≢ 0 → passed_by v ≡ taken_or (source_of b) (Take i.0 k (expressions (map syntax_of es))) (passed_by v)
      ended [] some' = absurd (some' refl)
      ended (z ∷ zs) some' = refl

  pub taken_converted : (i : TokenNo) (k : Identifier) → length l ≢ 0 → m ≡ length l - 1 → y ≡ slice_index_or l m y → y ≡ selector.Qua i k → (x : Expression) → passed_by v ≡ passed_or (source_of b) (selected x (map selector_syntax l)) (passed_by v)
  taken_converted i k some' em is ey x =
      let s = source_of b in
      ap (λ z. taken_or s z (passed_by v)) (sym (ap selector_syntax ey ∙ selector-Qua i k)) ∙ last_taken s l m y x (passed_by v) (omega (arith, em, some')) is

-- ---- any expression

or_value : (s : Source) (x : Expression) → passed_or s x (value_passed s x) ≡ passed s x
unfolding passed
or_value s (Named k NoMore) = refl
or_value s (Named k (Rattle.sim_tree.specs.Syntax.Then e es)) = refl
or_value s (Dot i a k NoMore) = refl
or_value s (Dot i a k (Rattle.sim_tree.specs.Syntax.Then e es)) = refl
or_value s (If i c a e) = refl
or_value s (Binary op i a e) = refl
or_value s (Not i a) = refl
or_value s (Signed k i a) = refl
or_value s (Member m i a k) = refl
or_value s (Qua i a k) = refl
or_value s (Constant l i) = refl
or_value s (This i k) = refl
or_value s (New i k args) = refl
or_value s (Parentheses i a) = refl

value_other : (s : Source) (x : Expression) → IsOther x → value_passed s x ≡ passed s x
unfolding passed
value_other s (If i c a e) h = refl
value_other s (Binary op i a e) h = refl
value_other s (Not i a) h = refl
value_other s (Signed k i a) h = refl
value_other s (Member m i a k) h = refl
value_other s (Dot i a k args) h = absurd h
value_other s (Qua i a k) h = absurd h
value_other s (Constant l i) h = refl
value_other s (Named k args) h = absurd h
value_other s (This i k) h = refl
value_other s (New i k args) h = absurd h
value_other s (Parentheses i a) h = absurd h

value_new : (s : Source) (x : Expression) → IsNew x → value_passed s x ≡ passed s x
unfolding passed
value_new s (If i c a e) h = absurd h
value_new s (Binary op i a e) h = absurd h
value_new s (Not i a) h = absurd h
value_new s (Signed k i a) h = absurd h
value_new s (Member m i a k) h = absurd h
value_new s (Dot i a k args) h = absurd h
value_new s (Qua i a k) h = absurd h
value_new s (Constant l i) h = absurd h
value_new s (Named k args) h = absurd h
value_new s (This i k) h = absurd h
value_new s (New i k args) h = refl
value_new s (Parentheses i a) h = absurd h

module _ (b : Bound) (x : Expr) (f : Form) (v : ActualKind) where
  pub kind_alone : (k : Bor Identifier) (l : Bor (List Expr)) (u : Option Denotation) (r : ActualKind) → passed_by v ≡ value_passed (source_of b) (syntax_of x) → FindsForm f x → f ≡ form.Named k l → length l.now ≡ 0 → u ≡ denoted (source_of b) k.now.token.0 → passed_by r ≡ denoted_passed (source_of b) u (passed_by v) → passed_by r ≡ passed (source_of b) (syntax_of x)
  kind_alone k l u r ev h is none eu er =
      let s = source_of b in
      let at : syntax_of x ≡ Named k.now NoMore = form_at f (form.Named k l) x h is ∙ ap (Named k.now) (nothing l.now none) in
      er ∙ ap (λ z. denoted_passed s z (passed_by v)) eu ∙ ap (λ z. passed_or s z (passed_by v)) (sym at) ∙ ap (passed_or s (syntax_of x)) ev ∙ or_value s (syntax_of x)

  pub kind_subscripted : (k : Bor Identifier) (l : Bor (List Expr)) → passed_by v ≡ value_passed (source_of b) (syntax_of x) → FindsForm f x → f ≡ form.Named k l → length l.now ≢ 0 → passed_by v ≡ passed (source_of b) (syntax_of x)
  kind_subscripted k l ev h is some' =
      let s = source_of b in
      ended l.now some' ∙ ap (λ z. passed_or s z (passed_by v)) (sym (form_at f (form.Named k l) x h is)) ∙ ap (passed_or s (syntax_of x)) ev ∙ or_value s (syntax_of x)
    where
      ended : (es : List Expr) → length es ≢ 0 → passed_by v ≡ passed_or (source_of b) (Named k.now (expressions (map syntax_of es))) (passed_by v)
      ended [] some' = absurd (some' refl)
      ended (z ∷ zs) some' = refl

  pub kind_taken : (p : Bor Expr) (l : Bor (List Selector)) (r : ActualKind) → passed_by v ≡ value_passed (source_of b) (syntax_of x) → FindsForm f x → f ≡ form.Taken p l → ((y : Expression) → passed_by r ≡ passed_or (source_of b) (selected y (map selector_syntax l.now)) (passed_by v)) → passed_by r ≡ passed (source_of b) (syntax_of x)
  kind_taken p l r ev h is er =
      let s = source_of b in
      er (syntax_of p.now) ∙ ap (λ z. passed_or s z (passed_by v)) (sym (form_at f (form.Taken p l) x h is).0) ∙ ap (passed_or s (syntax_of x)) ev ∙ or_value s (syntax_of x)

  pub kind_closed : (p : Bor Expr) → passed_by v ≡ value_passed (source_of b) (syntax_of x) → FindsForm f x → f ≡ form.Closed p → passed_by v ≡ passed (source_of b) (syntax_of x)
  unfolding passed
  kind_closed p ev h is =
      let s = source_of b in
      let at : syntax_of x ≡ Parentheses (form_at f (form.Closed p) x h is).0 (syntax_of p.now) = (form_at f (form.Closed p) x h is).1 in
      ev ∙ ap (value_passed s) at ∙ ap (passed s) (sym at)

  pub kind_new : passed_by v ≡ value_passed (source_of b) (syntax_of x) → FindsForm f x → f ≡ form.New → passed_by v ≡ passed (source_of b) (syntax_of x)
  kind_new ev h is = ev ∙ value_new (source_of b) (syntax_of x) (form_at f form.New x h is)

  pub kind_other : passed_by v ≡ value_passed (source_of b) (syntax_of x) → FindsForm f x → f ≡ form.Other → passed_by v ≡ passed (source_of b) (syntax_of x)
  kind_other ev h is = ev ∙ value_other (source_of b) (syntax_of x) (form_at f form.Other x h is)

-- ---- what the code has of them

module _ (b : Bound) (c : DraftOf) where
  -- in each code that the draft may become
  pub given_array : (k : ActualKind) (ty : Option SimType) (class : Option ℕ) (cls : ℕ) (t : CodeType) → k ≡ actual.Array ty → class ≡ qualification (source_of b) ty → ClassOrNone b c class cls → t ≡ type_of ty
      → ActualGiven b c k (record { code_type = type.Nothing; variable = false; array = t; procedure = false; result_type = type.Nothing; formals = 0; class = cls })
  unfolding ActualGiven ClassOrNone
  given_array k ty class cls t is ec f et final known =
      let s = source_of b in
      let number : cls ≡ class_or_none s final (qualification s ty) = f final known ∙ ap (class_or_none s final) ec in
      ap (λ z. record { code_type = type.Nothing; variable = false; array = z; procedure = false; result_type = type.Nothing; formals = 0; class = cls }) et
      ∙ ap (λ z. record { code_type = type.Nothing; variable = false; array = type_of ty; procedure = false; result_type = type.Nothing; formals = 0; class = z }) number
      ∙ ap (λ z. code_actual s final (passed_by z)) (sym is)

  pub given_procedure : (k : ActualKind) (result : Option SimType) (n m : ℕ) (class : Option ℕ) (cls : ℕ) (t u : CodeType) → k ≡ actual.Procedure result n → class ≡ qualification (source_of b) result → ClassOrNone b c class cls → m ≡ n → t ≡ type_of result → u ≡ type_of result
      → ActualGiven b c k (record { code_type = t; variable = false; array = type.Nothing; procedure = true; result_type = u; formals = m; class = cls })
  unfolding ActualGiven ClassOrNone
  given_procedure k result n m class cls t u is ec f em et eu final known =
      let s = source_of b in
      let number : cls ≡ class_or_none s final (qualification s result) = f final known ∙ ap (class_or_none s final) ec in
      ap (λ z. record { code_type = z; variable = false; array = type.Nothing; procedure = true; result_type = u; formals = m; class = cls }) et
      ∙ ap (λ z. record { code_type = type_of result; variable = false; array = type.Nothing; procedure = true; result_type = z; formals = m; class = cls }) eu
      ∙ ap (λ z. record { code_type = type_of result; variable = false; array = type.Nothing; procedure = true; result_type = type_of result; formals = z; class = cls }) em
      ∙ ap (λ z. record { code_type = type_of result; variable = false; array = type.Nothing; procedure = true; result_type = type_of result; formals = n; class = z }) number
      ∙ ap (λ z. code_actual s final (passed_by z)) (sym is)

  pub given_value : (k : ActualKind) (ty : Option SimType) (v : Bool) (class : Option ℕ) (cls : ℕ) (t : CodeType) → k ≡ actual.Value ty v → class ≡ qualification (source_of b) ty → ClassOrNone b c class cls → t ≡ type_of ty
      → ActualGiven b c k (record { code_type = t; variable = v; array = type.Nothing; procedure = false; result_type = type.Nothing; formals = 0; class = cls })
  unfolding ActualGiven ClassOrNone
  given_value k ty v class cls t is ec f et final known =
      let s = source_of b in
      let number : cls ≡ class_or_none s final (qualification s ty) = f final known ∙ ap (class_or_none s final) ec in
      ap (λ z. record { code_type = z; variable = v; array = type.Nothing; procedure = false; result_type = type.Nothing; formals = 0; class = cls }) et
      ∙ ap (λ z. record { code_type = type_of ty; variable = v; array = type.Nothing; procedure = false; result_type = type.Nothing; formals = 0; class = z }) number
      ∙ ap (λ z. code_actual s final (passed_by z)) (sym is)

  pub actual_found : (x : Expr) (k : ActualKind) (r : CodeActual) → passed_by k ≡ passed (source_of b) (syntax_of x) → ActualGiven b c k r → ActualOf b c x r
  unfolding ActualGiven ActualOf
  actual_found x k r ek f final known = f final known ∙ ap (code_actual (source_of b) final) ek

  -- one after the other
  pub found_all : (es : List Expr) → OwesActualsOf b c es [] es
  unfolding OwesActualsOf
  found_all es final known = refl

  pub found_next : (es r r' : List Expr) (xs : List CodeActual) (ys : List CodeActual) (x : Expr) (y : CodeActual) → OwesActualsOf b c es xs r → r ≡ x ∷ r' → ActualOf b c x y → ys ≡ xs ++ (y ∷ []) → OwesActualsOf b c es ys r'
  unfolding OwesActualsOf ActualOf
  found_next es r r' xs ys x y f er g ey final known =
      let s = source_of b in
      let rest = code_actuals s final (expressions_of r') in
      f final known ∙ ap (λ z. xs ++ code_actuals s final (expressions_of z)) er ∙ ap (λ z. xs ++ (z ∷ rest)) (sym (g final known)) ∙ sym (append_assoc xs (y ∷ []) rest) ∙ ap (λ z. z ++ rest) (sym ey)

  pub found_none : (es r : List Expr) (xs : List CodeActual) → OwesActualsOf b c es xs r → r ≡ [] → ActualsOf b c es xs
  unfolding OwesActualsOf ActualsOf
  found_none es r xs f er final known =
      let s = source_of b in
      sym (f final known ∙ ap (λ z. xs ++ code_actuals s final (expressions_of z)) er ∙ append-nil xs)

pub ruleset kinds = (
  value_found,
  kind_array,
  kind_procedure,
  kind_virtual,
  kind_formal,
  kind_variable,
  kind_constant,
  kind_class,
  kind_attribute,
  kind_unspecified,
  kind_none,
  kind_declared,
  kind_standard,
  kind_undeclared,
  taken_alone,
  taken_subscripted,
  taken_converted,
  kind_alone,
  kind_subscripted,
  kind_taken,
  kind_closed,
  kind_new,
  kind_other,
  given_array,
  given_procedure,
  given_value,
  actual_found,
  found_all,
)
