-- Parameters by name.
use Rattle.std.proofs.Common.{◌≡◌, ◌≢◌, ◌+◌, ◌<◌, ℕ, zero, suc, ℤ, pos, Bool, true, false, List, [], ◌∷◌, length, map, Bor, Option, Some, None, refl, sym, ap, ◌∙◌, subst}
use Rattle.std.specs.Prelude.{⊤}
use Rattle.sim_base.specs.declared.numbering.DeclNo.{DeclNo}
use Rattle.sim_base.specs.declared.numbering.TokenNo.{TokenNo}
use Rattle.sim_scope.specs.declared.bound.Bound.{Bound}
use Rattle.sim_scope.specs.declared.scopes.Denotation.{Denotation}
use Rattle.sim_scope.specs.declared.types.SimType.{SimType}
use Rattle.sim_scope.specs.Source.{Source, block_of, denoted, level_of, line_at, source_of, type_at}
use Rattle.sim_tree.specs.declared.expr.Expr.{Expr}
use Rattle.sim_tree.specs.declared.expr.Identifier.{Identifier}
use Rattle.sim_tree.specs.declared.expr.Selector.{Selector}
use Rattle.sim_tree.specs.Syntax.{Binary, Constant, Dot, Expression, If, Member, Named, New, NoMore, Not, Parentheses, Qua, Signed, This, expressions}
use Rattle.sim_tree.specs.SyntaxOf.{Cast, Selection, Take, selected, selector_syntax, syntax_of}
use Rattle.sim_code.specs.declared.instr.Instr.{Instr}
use Rattle.sim_code.specs.declared.instr.Instr.TheVariants as i
use Rattle.sim_code.specs.Code.{CodeOf}
use Rattle.sim_code.specs.Running.{runs}
use Rattle.sim_meaning.specs.Closing.{by_name, class_of_formal, is_attribute, is_attribute_denoted, is_placed, name_denoted, typed_token}
use Rattle.sim_meaning.specs.Levels.{qualification}
use Rattle.sim_meaning.specs.Pending.{Declared, ForPlace, ForValue, Use}
use Rattle.codegen_expr.specs.declared.forms.Form.{Form}
use Rattle.codegen_expr.specs.declared.forms.Form.TheVariants as form
use Rattle.codegen_expr.specs.declared.spot.Spot.{Spot}
use Rattle.codegen_expr.specs.Built.{AreBuilt, IsBuilt, ObjectBuilt, PlaceBuilt, is_around, is_there, slot_in}
use Rattle.codegen_expr.specs.CodeExpr.{ByNameAt, ExprAt, ExprsAt, ObjectAt, PlaceAt, class_given, class_or_none, class_unless, line_of_use, operands, truth_number, use_instr}
use Rattle.codegen_expr.specs.Drafts.{DraftOf, Emits, class_of, filled_in, given_up, planned_start, thunk_begun, thunk_ended, with_hole, with_instr, with_push}
use Rattle.codegen_expr.specs.Emit.{GivenBuilt, PutsPlace, Puts, ThunkGivesAt, Writes, WritesGiven, WritesList, WritesName, WritesNamePlace, WritesNameWhole, WritesNamedElement, WritesPast, WritesPlace, WritesThunk, WritesUse}
use Rattle.codegen_expr.specs.EmitVirtuals.{WritesProcedure}
use Rattle.codegen_expr.specs.Forms.{FindsForm, IsNew, IsOther}
use Rattle.codegen_expr.specs.Sites.{At, HasCell, Inside, block_number, slot_of}
use Rattle.codegen_expr.specs.Thunks.{AsPlanned, ClassGiven, ClassOrNone, name_if}
use Rattle.codegen_expr.proofs.Around.{inside}
use Rattle.codegen_expr.proofs.Attributes.{form_at}
use Rattle.codegen_expr.proofs.Pieces.{class_numbered, emits_as, emits_at, emits_classed, emits_nothing, emits_push_at, emits_then}
use Rattle.codegen_expr.proofs.Slots.{slot_found, slot_within}
use Rattle.codegen_expr.proofs.ThunkPieces.{emits_past, emits_thunk}

-- ---- which formal parameter an expression is

named_if : (s : Source) (x : Identifier) (es : List Expr) → name_if s (length es) x.token ≡ by_name s (Named x (expressions (map syntax_of es)))
unfolding name_if by_name
named_if s x [] = refl
named_if s x (e ∷ es) = refl

pub name_of_form : (b : Bound) (x : Expr) (f : Form) (k : Bor Identifier) (l : Bor (List Expr)) (o : Option DeclNo) (n : ℕ) → FindsForm f x → f ≡ form.Named k l → n ≡ length l.now → o ≡ name_if (source_of b) n k.now.token → o ≡ by_name (source_of b) (syntax_of x)
name_of_form b x f k l o n h is en eo =
    eo ∙ ap (λ z. name_if (source_of b) z k.now.token) en ∙ named_if (source_of b) k.now l.now ∙ sym (ap (by_name (source_of b)) (form_at f (form.Named k l) x h is))

none_selected : (s : Source) (x : Expression) (y : Selection) (ys : List Selection) → None ≡ by_name s (selected x (y ∷ ys))
unfolding by_name
none_selected s x (Take i k args) [] = refl
none_selected s x (Cast i k) [] = refl
none_selected s x (Take i k args) (z ∷ zs) = none_selected s (Dot i x k args) z zs
none_selected s x (Cast i k) (z ∷ zs) = none_selected s (Qua i x k) z zs

none_taken : (s : Source) (x p : Expression) (l : List Selector) → x ≡ selected p (map selector_syntax l) → length l ≢ 0 → None ≡ by_name s x
none_taken s x p [] is some' = absurd (some' refl)
none_taken s x p (y ∷ ys) is some' = none_selected s p (selector_syntax y) (map selector_syntax ys) ∙ sym (ap (by_name s) is)

pub no_name_taken : (b : Bound) (x : Expr) (f : Form) (p : Bor Expr) (l : Bor (List Selector)) → FindsForm f x → f ≡ form.Taken p l → None ≡ by_name (source_of b) (syntax_of x)
no_name_taken b x f p l h is = let g = form_at f (form.Taken p l) x h is in none_taken (source_of b) (syntax_of x) (syntax_of p.now) l.now g.0 g.1

pub no_name_closed : (b : Bound) (x : Expr) (f : Form) (p : Bor Expr) → FindsForm f x → f ≡ form.Closed p → None ≡ by_name (source_of b) (syntax_of x)
unfolding by_name
no_name_closed b x f p h is = sym (ap (by_name (source_of b)) (form_at f (form.Closed p) x h is).1)

none_new : (s : Source) (x : Expression) → IsNew x → None ≡ by_name s x
unfolding by_name
none_new s (If i c a b) h = absurd h
none_new s (Binary op i a b) h = absurd h
none_new s (Not i a) h = absurd h
none_new s (Signed k i a) h = absurd h
none_new s (Member m i a k) h = absurd h
none_new s (Dot i a k args) h = absurd h
none_new s (Qua i a k) h = absurd h
none_new s (Constant l i) h = absurd h
none_new s (Named k args) h = absurd h
none_new s (This i k) h = absurd h
none_new s (New i k args) h = refl
none_new s (Parentheses i a) h = absurd h

pub no_name_new : (b : Bound) (x : Expr) (f : Form) → FindsForm f x → f ≡ form.New → None ≡ by_name (source_of b) (syntax_of x)
no_name_new b x f h is = none_new (source_of b) (syntax_of x) (form_at f form.New x h is)

none_other : (s : Source) (x : Expression) → IsOther x → None ≡ by_name s x
unfolding by_name
none_other s (If i c a b) h = refl
none_other s (Binary op i a b) h = refl
none_other s (Not i a) h = refl
none_other s (Signed k i a) h = refl
none_other s (Member m i a k) h = refl
none_other s (Dot i a k args) h = absurd h
none_other s (Qua i a k) h = absurd h
none_other s (Constant l i) h = refl
none_other s (Named k args) h = absurd h
none_other s (This i k) h = refl
none_other s (New i k args) h = absurd h
none_other s (Parentheses i a) h = absurd h

pub no_name_other : (b : Bound) (x : Expr) (f : Form) → FindsForm f x → f ≡ form.Other → None ≡ by_name (source_of b) (syntax_of x)
no_name_other b x f h is = none_other (source_of b) (syntax_of x) (form_at f form.Other x h is)

-- an identifier alone
pub name_found : (b : Bound) (token : TokenNo) (n : ℕ) (u : Option Denotation) (r : Option DeclNo) → n ≡ 0 → u ≡ denoted (source_of b) token.0 → r ≡ name_denoted (source_of b) u → r ≡ name_if (source_of b) n token
unfolding name_if
name_found b token n u r none eu er = er ∙ ap (name_denoted (source_of b)) eu ∙ ap (λ z. name_if (source_of b) z token) (sym none)

pub name_subscripted : (b : Bound) (token : TokenNo) (n : ℕ) → n ≢ 0 → None ≡ name_if (source_of b) n token
unfolding name_if
name_subscripted b token zero some' = absurd (some' refl)
name_subscripted b token (suc n) some' = refl

-- ---- whether it is a variable that is declared

placed_other_by : (s : Source) (x : Expression) → IsOther x → false ≡ is_placed s x
unfolding is_placed
placed_other_by s (If i c a b) h = refl
placed_other_by s (Binary op i a b) h = refl
placed_other_by s (Not i a) h = refl
placed_other_by s (Signed k i a) h = refl
placed_other_by s (Member m i a k) h = refl
placed_other_by s (Dot i a k args) h = absurd h
placed_other_by s (Qua i a k) h = absurd h
placed_other_by s (Constant l i) h = refl
placed_other_by s (Named k args) h = absurd h
placed_other_by s (This i k) h = refl
placed_other_by s (New i k args) h = absurd h
placed_other_by s (Parentheses i a) h = absurd h

placed_new_by : (s : Source) (x : Expression) → IsNew x → false ≡ is_placed s x
unfolding is_placed
placed_new_by s (If i c a b) h = absurd h
placed_new_by s (Binary op i a b) h = absurd h
placed_new_by s (Not i a) h = absurd h
placed_new_by s (Signed k i a) h = absurd h
placed_new_by s (Member m i a k) h = absurd h
placed_new_by s (Dot i a k args) h = absurd h
placed_new_by s (Qua i a k) h = absurd h
placed_new_by s (Constant l i) h = absurd h
placed_new_by s (Named k args) h = absurd h
placed_new_by s (This i k) h = absurd h
placed_new_by s (New i k args) h = refl
placed_new_by s (Parentheses i a) h = absurd h

placed_selected : (s : Source) (x : Expression) (y : Selection) (ys : List Selection) → is_attribute s (selected x (y ∷ ys)) ≡ is_placed s (selected x (y ∷ ys))
unfolding is_placed is_attribute
placed_selected s x (Take i k args) [] = refl
placed_selected s x (Cast i k) [] = refl
placed_selected s x (Take i k args) (z ∷ zs) = placed_selected s (Dot i x k args) z zs
placed_selected s x (Cast i k) (z ∷ zs) = placed_selected s (Qua i x k) z zs

placed_taken_by : (s : Source) (x p : Expression) (l : List Selector) (o : Bool) → x ≡ selected p (map selector_syntax l) → length l ≢ 0 → o ≡ is_attribute s (selected p (map selector_syntax l)) → o ≡ is_placed s x
placed_taken_by s x p [] o is some' eo = absurd (some' refl)
placed_taken_by s x p (y ∷ ys) o is some' eo = eo ∙ placed_selected s p (selector_syntax y) (map selector_syntax ys) ∙ sym (ap (is_placed s) is)

pub placed_named : (b : Bound) (x : Expr) (f : Form) (k : Bor Identifier) (l : Bor (List Expr)) (o : Bool) (u : Option Denotation) → FindsForm f x → f ≡ form.Named k l → u ≡ denoted (source_of b) k.now.token.0 → o ≡ is_attribute_denoted (source_of b) u (expressions (map syntax_of l.now)) → o ≡ is_placed (source_of b) (syntax_of x)
unfolding is_placed
placed_named b x f k l o u h is eu eo =
    eo ∙ ap (λ z. is_attribute_denoted (source_of b) z (expressions (map syntax_of l.now))) eu ∙ sym (ap (is_placed (source_of b)) (form_at f (form.Named k l) x h is))

pub placed_taken : (b : Bound) (x : Expr) (f : Form) (p : Bor Expr) (l : Bor (List Selector)) (o : Bool) → FindsForm f x → f ≡ form.Taken p l → ((y : Expression) → length l.now ≢ 0 → o ≡ is_attribute (source_of b) (selected y (map selector_syntax l.now))) → o ≡ is_placed (source_of b) (syntax_of x)
placed_taken b x f p l o h is eo = let g = form_at f (form.Taken p l) x h is in placed_taken_by (source_of b) (syntax_of x) (syntax_of p.now) l.now o g.0 g.1 (eo (syntax_of p.now) g.1)

pub placed_closed : (b : Bound) (x : Expr) (f : Form) (p : Bor Expr) → FindsForm f x → f ≡ form.Closed p → false ≡ is_placed (source_of b) (syntax_of x)
unfolding is_placed
placed_closed b x f p h is = sym (ap (is_placed (source_of b)) (form_at f (form.Closed p) x h is).1)

pub placed_new : (b : Bound) (x : Expr) (f : Form) → FindsForm f x → f ≡ form.New → false ≡ is_placed (source_of b) (syntax_of x)
placed_new b x f h is = placed_new_by (source_of b) (syntax_of x) (form_at f form.New x h is)

pub placed_other : (b : Bound) (x : Expr) (f : Form) → FindsForm f x → f ≡ form.Other → false ≡ is_placed (source_of b) (syntax_of x)
placed_other b x f h is = placed_other_by (source_of b) (syntax_of x) (form_at f form.Other x h is)

-- ---- numbers of classes

pub class_some : (b : Bound) (c : DraftOf) (class : Option ℕ) (k j r : ℕ) → class ≡ Some k → j ≡ block_number (source_of b) k → r ≡ class_of c.classes j → ClassOrNone b c class r
unfolding ClassOrNone
class_some b c class k j r some ej er final known =
    subst (λ z. r ≡ class_or_none (source_of b) final z) (sym some) (sym (class_numbered (source_of b) final c.classes k r known (er ∙ ap (class_of c.classes) ej)))

pub class_none : (b : Bound) (c : DraftOf) (class : Option ℕ) → class ≡ None → ClassOrNone b c class 0
unfolding ClassOrNone
class_none b c class none final known = ap (class_or_none (source_of b) final) (sym none)

pub given_handed : (b : Bound) (c : DraftOf) (x : Expr) (o : Option DeclNo) (d : DeclNo) → o ≡ by_name (source_of b) (syntax_of x) → o ≡ Some d → ClassGiven b c x 0
unfolding ClassGiven
given_handed b c x o d eo some final known =
    ap (λ z. class_unless (source_of b) final z (qualification (source_of b) (type_at (source_of b) (typed_token (syntax_of x))))) (sym some ∙ eo)

pub given_class : (b : Bound) (c : DraftOf) (x : Expr) (o : Option DeclNo) (token : TokenNo) (ty : Option SimType) (class : Option ℕ) (r : ℕ) → o ≡ by_name (source_of b) (syntax_of x) → o ≡ None → token.0 ≡ typed_token (syntax_of x) → ty ≡ type_at (source_of b) token.0 → class ≡ qualification (source_of b) ty → ClassOrNone b c class r → ClassGiven b c x r
unfolding ClassGiven ClassOrNone
given_class b c x o token ty class r eo none et ey ec f final known =
    let s = source_of b in
    f final known ∙ ap (class_or_none s final) (ec ∙ ap (qualification s) (ey ∙ ap (type_at s) et)) ∙ ap (λ z. class_unless s final z (qualification s (type_at s (typed_token (syntax_of x))))) (sym none ∙ eo)

-- ---- uses

module _ (b : Bound) (w : Spot) (n : ℕ) where
  -- an instruction that uses the cell of a formal parameter, whatever it asks for
  used : (a c : DraftOf) (d : DeclNo) (wanted : Use) (k : ℕ) (x : Instr) → slot_in (source_of b) (block_of (source_of b) d) (Declared d.0) ≡ Some k → is_around b.scopes (length b.scopes.blocks) w.text (block_of (source_of b) d) ≡ true
      → ((final : CodeOf) → AsPlanned a final → x ≡ use_instr (source_of b) final wanted (pos (level_of (source_of b) (block_of (source_of b) d))) (pos (slot_of (source_of b) final (block_of (source_of b) d) (Declared d.0))))
      → x ≢ i.Halt → runs x ≡ true → c ≡ with_push a n x (line_of_use wanted) → WritesUse b w n a c d wanted
  unfolding WritesUse source_of
  used a c d wanted k x found there at solid does ec =
      let s = source_of b in
      let is : Inside s.tables w.text (block_of s d) = inside s.tables (block_of s d) (length s.tables.blocks) w.text there in
      let has : HasCell s (block_of s d) (Declared d.0) = slot_within s (block_of s d) (Declared d.0) k found in
      emits_as w _ _ (λ final site p q. At final (use_instr s final wanted (pos (level_of s (block_of s d))) (pos (slot_of s final (block_of s d) (Declared d.0)))) (line_of_use wanted) p q × (n < site.room)) _ a c (λ t. tt) (λ t. record { has = ap is_there found; inside = record { found = there } })
      (λ final site p q stands _ r. record { use_is = r.0; fits = r.1; inside = subst (λ z. Inside s.tables z (block_of s d)) (sym stands) is; within = has })
      (emits_classed w ⊤ (λ final site p q. At final x (line_of_use wanted) p q × (n < site.room)) _ a c (λ final site p q known r. (subst (λ z. At final z (line_of_use wanted) p q) (at final known) r.0, r.1)) (emits_push_at w a c n x (line_of_use wanted) ec solid does))

  pub use_value : (a c : DraftOf) (token : TokenNo) (d : DeclNo) (block k m v cls line : ℕ) (slot class : Option ℕ) (x : Instr) → block ≡ block_of (source_of b) d → slot ≡ slot_in (source_of b) (block_of (source_of b) d) (Declared d.0) → slot ≡ Some k → is_around b.scopes (length b.scopes.blocks) w.text block ≡ true → v ≡ planned_start (source_of b) a.classes block + k → class ≡ class_of_formal (source_of b) d → ClassOrNone b a class cls
      → m ≡ level_of (source_of b) block → x ≡ i.NameVal (pos m) (pos v) (pos cls) → line ≡ line_at (source_of b) token.0 → c ≡ with_push a n x line → WritesName b w n a c token d
  unfolding WritesName ClassOrNone source_of
  use_value a c token d block k m v cls line slot class x eb es some around ev ec f em ex el e =
      let s = source_of b in
      let found : slot_in s (block_of s d) (Declared d.0) ≡ Some k = sym es ∙ some in
      let number : v ≡ planned_start s a.classes (block_of s d) + k = ev ∙ ap (λ z. planned_start s a.classes z + k) eb in
      let there : is_around s.tables (length s.tables.blocks) w.text (block_of s d) ≡ true = ap (λ z. is_around s.tables (length s.tables.blocks) w.text z) (sym eb) ∙ around in
      let is : x ≡ i.NameVal (pos (level_of s (block_of s d))) (pos v) (pos cls) = ex ∙ ap (λ z. i.NameVal (pos z) (pos v) (pos cls)) (em ∙ ap (level_of s) eb) in
      let solid : x ≢ i.Halt = λ h. absurd (clash (sym is ∙ h)) in
      used a c d (ForValue (class_of_formal s d) (line_at s token.0)) k x found there
      (λ final known. is ∙ ap (λ z. i.NameVal (pos (level_of s (block_of s d))) (pos z) (pos cls)) (slot_found s final a.classes (block_of s d) (Declared d.0) k v known found number)
      ∙ ap (λ z. i.NameVal (pos (level_of s (block_of s d))) (pos (slot_of s final (block_of s d) (Declared d.0))) (pos z)) (f final known ∙ ap (class_or_none s final) ec))
      solid (ap runs is) (e ∙ ap (with_push a n x) el)
    where
      clash : {p q r : ℤ} → i.NameVal p q r ≡ i.Halt → ⊥
      clash h = cc

  pub use_place : (a c : DraftOf) (value_too : Bool) (token : TokenNo) (d : DeclNo) (block k m v line : ℕ) (slot : Option ℕ) (x : Instr) → block ≡ block_of (source_of b) d → slot ≡ slot_in (source_of b) (block_of (source_of b) d) (Declared d.0) → slot ≡ Some k → is_around b.scopes (length b.scopes.blocks) w.text block ≡ true → v ≡ planned_start (source_of b) a.classes block + k
      → m ≡ level_of (source_of b) block → x ≡ i.NameAddr (pos m) (pos v) (pos (truth_number value_too)) → line ≡ line_at (source_of b) token.0 → c ≡ with_push a n x line → WritesNamePlace b w n a c value_too token d
  unfolding WritesNamePlace source_of
  use_place a c value_too token d block k m v line slot x eb es some around ev em ex el e =
      let s = source_of b in
      let found : slot_in s (block_of s d) (Declared d.0) ≡ Some k = sym es ∙ some in
      let number : v ≡ planned_start s a.classes (block_of s d) + k = ev ∙ ap (λ z. planned_start s a.classes z + k) eb in
      let there : is_around s.tables (length s.tables.blocks) w.text (block_of s d) ≡ true = ap (λ z. is_around s.tables (length s.tables.blocks) w.text z) (sym eb) ∙ around in
      let is : x ≡ i.NameAddr (pos (level_of s (block_of s d))) (pos v) (pos (truth_number value_too)) = ex ∙ ap (λ z. i.NameAddr (pos z) (pos v) (pos (truth_number value_too))) (em ∙ ap (level_of s) eb) in
      let solid : x ≢ i.Halt = λ h. absurd (clash (sym is ∙ h)) in
      used a c d (ForPlace value_too (line_at s token.0)) k x found there
      (λ final known. is ∙ ap (λ z. i.NameAddr (pos (level_of s (block_of s d))) (pos z) (pos (truth_number value_too))) (slot_found s final a.classes (block_of s d) (Declared d.0) k v known found number))
      solid (ap runs is) (e ∙ ap (with_push a n x) el)
    where
      clash : {p q r : ℤ} → i.NameAddr p q r ≡ i.Halt → ⊥
      clash h = cc

  pub use_whole : (a c : DraftOf) (token : TokenNo) (d : DeclNo) (block k m v line : ℕ) (slot : Option ℕ) (x : Instr) → block ≡ block_of (source_of b) d → slot ≡ slot_in (source_of b) (block_of (source_of b) d) (Declared d.0) → slot ≡ Some k → is_around b.scopes (length b.scopes.blocks) w.text block ≡ true → v ≡ planned_start (source_of b) a.classes block + k
      → m ≡ level_of (source_of b) block → x ≡ i.NameVal (pos m) (pos v) (pos 0) → line ≡ line_at (source_of b) token.0 → c ≡ with_push a n x line → WritesNameWhole b w n a c token d
  unfolding WritesNameWhole source_of
  use_whole a c token d block k m v line slot x eb es some around ev em ex el e =
      let s = source_of b in
      let found : slot_in s (block_of s d) (Declared d.0) ≡ Some k = sym es ∙ some in
      let number : v ≡ planned_start s a.classes (block_of s d) + k = ev ∙ ap (λ z. planned_start s a.classes z + k) eb in
      let there : is_around s.tables (length s.tables.blocks) w.text (block_of s d) ≡ true = ap (λ z. is_around s.tables (length s.tables.blocks) w.text z) (sym eb) ∙ around in
      let is : x ≡ i.NameVal (pos (level_of s (block_of s d))) (pos v) (pos 0) = ex ∙ ap (λ z. i.NameVal (pos z) (pos v) (pos 0)) (em ∙ ap (level_of s) eb) in
      let solid : x ≢ i.Halt = λ h. absurd (clash (sym is ∙ h)) in
      used a c d (ForValue None (line_at s token.0)) k x found there
      (λ final known. is ∙ ap (λ z. i.NameVal (pos (level_of s (block_of s d))) (pos z) (pos 0)) (slot_found s final a.classes (block_of s d) (Declared d.0) k v known found number))
      solid (ap runs is) (e ∙ ap (with_push a n x) el)
    where
      clash : {p q r : ℤ} → i.NameVal p q r ≡ i.Halt → ⊥
      clash h = cc

  no_use : (a c : DraftOf) (d : DeclNo) (wanted : Use) (slot : Option ℕ) → slot ≡ slot_in (source_of b) (block_of (source_of b) d) (Declared d.0) → slot ≡ None → c ≡ given_up a → WritesUse b w n a c d wanted
  unfolding WritesUse
  no_use a c d wanted slot es none ec = emits_nothing w a c _ _ (λ h. let k : true ≡ false = sym h.has ∙ ap is_there (sym es ∙ none) in cc) ec

  not_around : (a c : DraftOf) (d : DeclNo) (wanted : Use) (block : ℕ) → block ≡ block_of (source_of b) d → is_around b.scopes (length b.scopes.blocks) w.text block ≡ false → c ≡ given_up a → WritesUse b w n a c d wanted
  unfolding WritesUse source_of
  not_around a c d wanted block eb out ec =
      emits_nothing w a c _ _ (λ h. let t : is_around b.scopes (length b.scopes.blocks) w.text block ≡ true = ap (λ z. is_around b.scopes (length b.scopes.blocks) w.text z) eb ∙ h.inside.found in cc) ec

  pub value_no_slot : (a c : DraftOf) (token : TokenNo) (d : DeclNo) (slot : Option ℕ) → slot ≡ slot_in (source_of b) (block_of (source_of b) d) (Declared d.0) → slot ≡ None → c ≡ given_up a → WritesName b w n a c token d
  unfolding WritesName
  value_no_slot a c token d slot es none ec = no_use a c d _ slot es none ec

  pub value_outside : (a c : DraftOf) (token : TokenNo) (d : DeclNo) (block : ℕ) → block ≡ block_of (source_of b) d → is_around b.scopes (length b.scopes.blocks) w.text block ≡ false → c ≡ given_up a → WritesName b w n a c token d
  unfolding WritesName
  value_outside a c token d block eb out ec = not_around a c d _ block eb out ec

  pub use_no_slot : (a c : DraftOf) (value_too : Bool) (token : TokenNo) (d : DeclNo) (slot : Option ℕ) → slot ≡ slot_in (source_of b) (block_of (source_of b) d) (Declared d.0) → slot ≡ None → c ≡ given_up a → WritesNamePlace b w n a c value_too token d
  unfolding WritesNamePlace
  use_no_slot a c value_too token d slot es none ec = no_use a c d _ slot es none ec

  pub use_outside : (a c : DraftOf) (value_too : Bool) (token : TokenNo) (d : DeclNo) (block : ℕ) → block ≡ block_of (source_of b) d → is_around b.scopes (length b.scopes.blocks) w.text block ≡ false → c ≡ given_up a → WritesNamePlace b w n a c value_too token d
  unfolding WritesNamePlace
  use_outside a c value_too token d block eb out ec = not_around a c d _ block eb out ec

  pub whole_no_slot : (a c : DraftOf) (token : TokenNo) (d : DeclNo) (slot : Option ℕ) → slot ≡ slot_in (source_of b) (block_of (source_of b) d) (Declared d.0) → slot ≡ None → c ≡ given_up a → WritesNameWhole b w n a c token d
  unfolding WritesNameWhole
  whole_no_slot a c token d slot es none ec = no_use a c d _ slot es none ec

  pub whole_outside : (a c : DraftOf) (token : TokenNo) (d : DeclNo) (block : ℕ) → block ≡ block_of (source_of b) d → is_around b.scopes (length b.scopes.blocks) w.text block ≡ false → c ≡ given_up a → WritesNameWhole b w n a c token d
  unfolding WritesNameWhole
  whole_outside a c token d block eb out ec = not_around a c d _ block eb out ec

  -- an element of an array by name
  pub named_element : (a c0 c1 c : DraftOf) (token : TokenNo) (d : DeclNo) (es : List Expr) (m k class line : ℕ) (x : Instr) → m ≡ suc n → WritesNameWhole b w n a c0 token d → WritesList b w m c0 c1 es → k ≡ length es → x ≡ i.Elem (pos k) (pos class) → line ≡ line_at (source_of b) token.0 → c ≡ with_instr c1 x line → WritesNamedElement b w n a c class token d es
  unfolding WritesNamedElement WritesNameWhole WritesUse WritesList
  named_element a c0 c1 c token d es m k class line x em f g ek ex el ec =
      let s = source_of b in
      let xs = expressions (map syntax_of es) in
      let g' = subst (λ z. Emits w c0 c1 (AreBuilt s w.text xs) (λ final site p q. ExprsAt s final site z xs p q)) em g in
      let at : x ≡ i.Elem (pos (operands xs)) (pos class) = ex ∙ ap (λ z. i.Elem (pos z) (pos class)) (ek ∙ sym (count es)) in
      emits_as w _ _ _ _ a c (λ t. (t.0, (t.1, tt))) (λ t. (t.0, t.1.0)) (λ final site p q _ _ r. record { x = r.0; y = r.2.0; array = r.1; subscripts = r.2.1; found = r.2.2 })
      (emits_then w _ _ (λ z site p q. ByNameAt s z site n d NoMore (ForValue None (line_at s token.0)) p q) (λ z site p q. (y : ℕ) × ExprsAt s z site (suc n) xs p y × At z (i.Elem (pos (operands xs)) (pos class)) (line_at s token.0) y q) a c0 c f
      (emits_then w _ _ (λ z site. ExprsAt s z site (suc n) xs) (λ z site. At z (i.Elem (pos (operands xs)) (pos class)) (line_at s token.0)) c0 c1 c g'
      (emits_at w c1 c (i.Elem (pos (operands xs)) (pos class)) (line_at s token.0) (ec ∙ ap (λ z. with_instr c1 z line) at ∙ ap (λ z. with_instr c1 (i.Elem (pos (operands xs)) (pos class)) z) el) (λ z. cc) refl)))
    where
      count : (ys : List Expr) → operands (expressions (map syntax_of ys)) ≡ length ys
      count [] = refl
      count (y ∷ ys) = ap suc (count ys)

-- ---- thunks

module _ (b : Bound) (w : Spot) where
  -- what is given as no procedure
  abbrev Other : (a c : DraftOf) → Expression → (placed : Bool) → Type 0
  Other a c e z = Emits w a c (ObjectBuilt z (PlaceBuilt (source_of b) w.text e) (IsBuilt (source_of b) w.text e)) (λ final site p q. ObjectAt z (PlaceAt (source_of b) final site 0 (class_given (source_of b) final e) e) (ExprAt (source_of b) final site 0 e) p q)

  other_given : (a c : DraftOf) (k : Bool) (x : Expr) (o : Bool) → k ≡ false → o ≡ is_placed (source_of b) (syntax_of x) → Other a c (syntax_of x) o → WritesGiven b w a c k x
  unfolding WritesGiven
  other_given a c k x o ek eo f =
      subst (λ z. Emits w a c (GivenBuilt (source_of b) w.text z (syntax_of x)) (λ final site p q. ThunkGivesAt (source_of b) final site z (syntax_of x) p q)) (sym ek)
      (subst (Other a c (syntax_of x)) eo f)

  pub given_placed : (a c : DraftOf) (k : Bool) (x : Expr) (o : Bool) (class : ℕ) → k ≡ false → o ≡ is_placed (source_of b) (syntax_of x) → o ≡ true → ClassGiven b a x class → WritesPlace b w 0 a c class x → WritesGiven b w a c k x
  unfolding WritesPlace PutsPlace ClassGiven
  given_placed a c k x o class ek eo so f g =
      let s = source_of b in
      let e = syntax_of x in
      other_given a c k x o ek eo (subst (Other a c e) (sym so)
      (emits_classed w (PlaceBuilt s w.text e) (λ final site p q. PlaceAt s final site 0 class e p q) _ a c (λ final site p q known r. subst (λ z. PlaceAt s final site 0 z e p q) (f final known) r) g))

  pub given_value : (a c : DraftOf) (k : Bool) (x : Expr) (o : Bool) → k ≡ false → o ≡ is_placed (source_of b) (syntax_of x) → o ≡ false → Writes b w 0 a c x → WritesGiven b w a c k x
  unfolding Writes Puts
  given_value a c k x o ek eo so g = other_given a c k x o ek eo (subst (Other a c (syntax_of x)) (sym so) g)

  pub given_procedure : (a c : DraftOf) (k : Bool) (x : Expr) → k ≡ true → WritesProcedure b w 0 a c x → WritesGiven b w a c k x
  unfolding WritesGiven WritesProcedure
  given_procedure a c k x ek g = subst (λ z. Emits w a c (GivenBuilt (source_of b) w.text z (syntax_of x)) (λ final site p q. ThunkGivesAt (source_of b) final site z (syntax_of x) p q)) (sym ek) g

  pub past_written : (c0 c1 c2 c3 c4 c5 c6 : DraftOf) (k : Bool) (x : Expr) (over outside number : ℕ) (end : ℤ) (y : Instr) → over ≡ length c0.instrs → c1 ≡ with_hole c0 → outside ≡ c1.room → number ≡ length c1.thunks → c2 ≡ thunk_begun c1 → WritesGiven b w c2 c3 k x
      → c4 ≡ with_instr c3 i.EndThunk 0 → c5 ≡ thunk_ended c4 number outside → end ≡ pos (length c5.instrs) → y ≡ i.Jump end → c6 ≡ filled_in c5 over y → WritesPast b w c0 c6 k x number
  unfolding WritesPast WritesGiven
  past_written c0 c1 c2 c3 c4 c5 c6 k x over outside number end y eo e1 eu en e2 f e4 e5 ee ey e6 =
      emits_past w _ (λ final site p q. ThunkGivesAt (source_of b) final site k (syntax_of x) p q) c0 c1 c2 c3 c4 c5 c6 over outside number end eo e1 eu en e2 f e4 e5 ee (e6 ∙ ap (filled_in c5 over) ey)

  pub thunk_written : (n : ℕ) (a c d : DraftOf) (k : Bool) (x : Expr) (number : ℕ) (z : Instr) → WritesPast b w a c k x number → z ≡ i.Thunk (pos number) → d ≡ with_push c n z 0 → WritesThunk b w n a d k x
  unfolding WritesThunk WritesPast
  thunk_written n a c d k x number z f ez ed =
      emits_thunk w n _ (λ final site p q. ThunkGivesAt (source_of b) final site k (syntax_of x) p q) a c d number f (ed ∙ ap (λ v. with_push c n v 0) ez)

pub ruleset elements = (named_element)

pub ruleset thunks = (class_none, class_some, given_class, given_handed, given_placed, given_procedure, given_value, name_found, name_of_form, name_subscripted, no_name_closed, no_name_new, no_name_other, no_name_taken, past_written, placed_closed, placed_named, placed_new, placed_other, placed_taken, thunk_written, use_no_slot, use_outside, use_place, use_value, use_whole, value_no_slot, value_outside, whole_no_slot, whole_outside)
