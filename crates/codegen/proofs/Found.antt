-- What left sides are found to be.
use Rattle.std.proofs.Common.{◌≡◌, ◌≢◌, ◌-◌, ℕ, zero, suc, Bool, true, false, List, [], ◌∷◌, length, map, slice_index_or, Bor, Option, Some, None, refl, sym, ap, ◌∙◌, subst, arith}
use Rattle.std.specs.declared.alloc.Global.{Global}
use Rattle.std.specs.declared.vec.Vec.{Vec}
use Rattle.sim_base.specs.declared.numbering.DeclNo.{DeclNo}
use Rattle.sim_base.specs.declared.numbering.TokenNo.{TokenNo}
use Rattle.sim_scope.specs.declared.bound.Bound.{Bound}
use Rattle.sim_scope.specs.declared.scopes.Denotation.{Denotation}
use Rattle.sim_scope.specs.declared.scopes.Denotation.TheVariants as denotation
use Rattle.sim_scope.specs.declared.standard.StandardName.{StandardName}
use Rattle.sim_scope.specs.Source.{Source, denoted, line_at, source_of}
use Rattle.sim_tree.specs.declared.expr.Selector.TheVariants as take
use Rattle.sim_tree.specs.declared.expr.Expr.{Expr}
use Rattle.sim_tree.specs.declared.expr.Identifier.{Identifier}
use Rattle.sim_tree.specs.declared.expr.Selector.{Selector}
use Rattle.sim_tree.specs.declared.stmt.Assignment.{Assignment}
use Rattle.sim_tree.specs.declared.stmt.Assignment.TheVariants as assignment
use Rattle.sim_tree.specs.Syntax.{Binary, Constant, Dot, Expression, If, Member, Named, New, NoMore, Not, Parentheses, Qua, Signed, This, expressions}
use Rattle.sim_tree.specs.SyntaxOf.{Cast, Selection, Take, selected, selector_syntax, syntax_of}
use Rattle.sim_meaning.specs.Attributes.{connection_at, declared_attribute}
use Rattle.sim_meaning.specs.Closing.{by_name, class_of_formal, is_text, own_block_denoted, own_match, own_result, result_meant, result_or_own, unless_connected}
use Rattle.sim_meaning.specs.Pending.{Result}
use Rattle.sim_meaning.specs.Virtuals.{text_of_procedure}
use Rattle.codegen_expr.specs.declared.forms.Form.{Form}
use Rattle.codegen_expr.specs.declared.forms.Form.TheVariants as form
use Rattle.codegen_expr.specs.declared.spot.Spot.{Spot}
use Rattle.codegen_expr.specs.Forms.{FindsForm, FormIs, IsNew, IsOther}
use Rattle.codegen.specs.declared.left.Left.{Left}
use Rattle.codegen.specs.declared.left.Left.TheVariants as left
use Rattle.codegen.specs.BuiltProgram.{LeftBuilt}
use Rattle.codegen.specs.CodeLeft.{InCell, NoPlace, Stored, stored_by_sign, stored_found, stored_held, stored_left, stored_match, stored_named, stored_named_by, stored_or_named, stored_result, stored_text}
use Rattle.codegen.specs.EmitLeft.{FindsByName, FindsLeft, FindsMatchText, FindsNamed, FindsOwn, FindsOwnNamed, FindsResult, FindsSide, FindsTaken, FindsText, FindsWhole, IsLeft, IsVariable, IsWhole, operands_in, own_if, own_match_if}
use Rattle.codegen_expr.proofs.Attributes.{selector-Dot, selector-Qua}
use Rattle.codegen.proofs.Cells.{own_found, own_missing, own_outside, whole_of}

pub form_at : (f g : Form) (x : Expr) → FindsForm f x → f ≡ g → FormIs g (syntax_of x)
unfolding FindsForm
form_at f g x h is = subst (λ z. FormIs z (syntax_of x)) is h

-- ---- what is no identifier

left_other : (s : Source) (x : Expression) → IsOther x → NoPlace ≡ stored_left s x
left_other s (If i c a b) h = refl
left_other s (Binary op i a b) h = refl
left_other s (Not i a) h = refl
left_other s (Signed k i a) h = refl
left_other s (Member m i a k) h = refl
left_other s (Dot i a k args) h = absurd h
left_other s (Qua i a k) h = absurd h
left_other s (Constant l i) h = refl
left_other s (Named k args) h = absurd h
left_other s (This i k) h = refl
left_other s (New i k args) h = absurd h
left_other s (Parentheses i a) h = absurd h

left_new : (s : Source) (x : Expression) → IsNew x → NoPlace ≡ stored_left s x
left_new s (New i k args) h = refl
left_new s _ h = absurd h

-- what is taken last, whatever is in front
abbrev last_of : Selection → List Selection → Selection
last_of y [] = y
last_of y (z ∷ zs) = last_of z zs

abbrev WholeOf : Source → Spot → Left → Expression → Type 0
WholeOf s w r e = IsWhole s w e r (stored_left s e)

behind : (s : Source) (w : Spot) (r : Left) (x : Expression) (y : Selection) (ys : List Selection) → ((e : Expression) → WholeOf s w r (selected e (last_of y ys ∷ []))) → WholeOf s w r (selected x (y ∷ ys))
behind s w r x y [] f = f x
behind s w r x (Take i k args) (z ∷ zs) f = behind s w r (Dot i x k args) z zs f
behind s w r x (Cast i k) (z ∷ zs) f = behind s w r (Qua i x k) z zs f

last_is : (y : Selector) (ys : List Selector) (z : Selector) → z ≡ slice_index_or (y ∷ ys) (length (y ∷ ys) - 1) z → selector_syntax z ≡ last_of (selector_syntax y) (map selector_syntax ys)
last_is y [] z e = ap selector_syntax e
last_is y (u ∷ us) z e = last_is u us z (subst (λ n. z ≡ slice_index_or (y ∷ u ∷ us) n z) (let f : length (y ∷ u ∷ us) - 1 ≡ suc (length (u ∷ us) - 1) = omega arith in f) e)

own_other : (s : Source) (x : Expression) → IsOther x → None ≡ result_meant s x
unfolding result_meant
own_other s (If i c a b) h = refl
own_other s (Binary op i a b) h = refl
own_other s (Not i a) h = refl
own_other s (Signed k i a) h = refl
own_other s (Member m i a k) h = refl
own_other s (Dot i a k args) h = absurd h
own_other s (Qua i a k) h = absurd h
own_other s (Constant l i) h = refl
own_other s (Named k args) h = absurd h
own_other s (This i k) h = refl
own_other s (New i k args) h = absurd h
own_other s (Parentheses i a) h = absurd h

own_new : (s : Source) (x : Expression) → IsNew x → None ≡ result_meant s x
unfolding result_meant
own_new s (New i k args) h = refl
own_new s _ h = absurd h

own_selected : (s : Source) (x : Expression) (y : Selection) (ys : List Selection) → None ≡ result_meant s (selected x (y ∷ ys))
unfolding result_meant
own_selected s x (Take i k args) [] = refl
own_selected s x (Cast i k) [] = refl
own_selected s x (Take i k args) (z ∷ zs) = own_selected s (Dot i x k args) z zs
own_selected s x (Cast i k) (z ∷ zs) = own_selected s (Qua i x k) z zs

own_taken : (s : Source) (x p : Expression) (l : List Selector) → x ≡ selected p (map selector_syntax l) → length l ≢ 0 → None ≡ result_meant s x
own_taken s x p [] is some' = absurd (some' refl)
own_taken s x p (y ∷ ys) is some' = own_selected s p (selector_syntax y) (map selector_syntax ys) ∙ sym (ap (result_meant s) is)

-- an identifier alone, or with subscripts
own_operands : (s : Source) (k : Identifier) (l : List Expr) → own_if (length l) (result_meant s (Named k NoMore)) ≡ result_meant s (Named k (operands_in l))
unfolding result_meant own_result own_match
own_operands s k [] = refl
own_operands s k (x ∷ xs) = through (connection_at s k.token.0)
  where
    through : (o : Option ℕ) → None ≡ unless_connected o None
    through None = refl
    through (Some c) = refl

pub match_operands : (s : Source) (k : Identifier) (l : List Expr) → own_match_if (length l) (own_match s (Named k NoMore)) ≡ own_match s (Named k (operands_in l))
unfolding own_match
match_operands s k [] = refl
match_operands s k (x ∷ xs) = refl

-- ---- variables

module _ (b : Bound) (w : Spot) where
  not_left : (x : Expr) → NoPlace ≡ stored_left (source_of b) (syntax_of x) → FindsWhole b w x left.NoPlace
  unfolding FindsWhole
  not_left x e = subst (λ z. IsWhole (source_of b) w (syntax_of x) left.NoPlace z) e (λ h. h)

  pub named_through : (x : Identifier) (es : List Expr) (o : Option ℕ) (k : ℕ) → o ≡ connection_at (source_of b) x.token.0 → o ≡ Some k → FindsNamed b w x es left.Attribute
  unfolding FindsNamed
  named_through x es o k eo some =
      let s = source_of b in
      let e = Named x (operands_in es) in
      sym (ap (λ z. stored_found z e (stored_match (text_of_procedure s (own_match s e)) (stored_named s e (denoted s x.token.0) (operands_in es) (line_at s x.token.0)))) (sym some ∙ eo))

  match_is : (x : Identifier) (es : List Expr) (n : ℕ) (p : Option ℕ) → FindsMatchText b x n p → n ≡ length es → p ≡ text_of_procedure (source_of b) (own_match (source_of b) (Named x (operands_in es)))
  unfolding FindsMatchText
  match_is x es n p f en = f ∙ ap (λ z. text_of_procedure (source_of b) (own_match_if z (own_match (source_of b) (Named x NoMore)))) en ∙ ap (text_of_procedure (source_of b)) (match_operands (source_of b) x es)

  -- what is seen through no connection
  unconnected : (x : Identifier) (es : List Expr) (o p : Option ℕ) (r : Left) → o ≡ connection_at (source_of b) x.token.0 → o ≡ None → p ≡ text_of_procedure (source_of b) (own_match (source_of b) (Named x (operands_in es)))
      → IsWhole (source_of b) w (Named x (operands_in es)) r (stored_match p (stored_named (source_of b) (Named x (operands_in es)) (denoted (source_of b) x.token.0) (operands_in es) (line_at (source_of b) x.token.0))) → FindsNamed b w x es r
  unfolding FindsNamed
  unconnected x es o p r eo none ep f =
      let s = source_of b in
      let e = Named x (operands_in es) in
      let other = stored_named s e (denoted s x.token.0) (operands_in es) (line_at s x.token.0) in
      subst (λ z. IsWhole s w e r (stored_found z e (stored_match (text_of_procedure s (own_match s e)) other))) (sym none ∙ eo)
      (subst (λ z. IsWhole s w e r (stored_match z other)) ep f)

  pub named_plain : (x : Identifier) (es : List Expr) (n : ℕ) (o p : Option ℕ) (r : Left) → o ≡ connection_at (source_of b) x.token.0 → o ≡ None → FindsMatchText b x n p → n ≡ length es → p ≡ None → FindsLeft b w x.token es r → FindsNamed b w x es r
  unfolding FindsLeft
  named_plain x es n o p r eo none ep en no_match f = unconnected x es o None r eo none (sym no_match ∙ match_is x es n p ep en) (f (Named x (operands_in es)))

  -- the result of a match has no subscripts
  of_match : (x : Identifier) (es : List Expr) (k : ℕ) (r : Left) → Some k ≡ text_of_procedure (source_of b) (own_match (source_of b) (Named x (operands_in es))) → IsVariable (source_of b) w r (stored_result k (operands_in es)) → IsVariable (source_of b) w r (InCell k Result)
  unfolding own_match
  of_match x [] k r e f = f
  of_match x (y ∷ ys) k r e f = absurd (cc)

  pub named_match : (x : Identifier) (es : List Expr) (n k : ℕ) (o p : Option ℕ) (r : Left) → o ≡ connection_at (source_of b) x.token.0 → o ≡ None → FindsMatchText b x n p → n ≡ length es → p ≡ Some k → FindsResult b w k es r → FindsNamed b w x es r
  unfolding FindsResult
  named_match x es n k o p r eo none ep en some f =
      let is = sym some ∙ match_is x es n p ep en in
      unconnected x es o (Some k) r eo none is (whole_of b w (Named x (operands_in es)) r _ (of_match x es k r is f))

  pub taken_attribute : (y : Selector) (i : TokenNo) (k : Identifier) (l : Vec Expr Global) (o : Option Denotation) (d : DeclNo) → y ≡ take.Dot i k l → o ≡ denoted (source_of b) k.token.0 → o ≡ Some (denotation.Declared d) → FindsTaken b w y left.Attribute
  unfolding FindsTaken
  taken_attribute y i k l o d is eo some e =
      subst (λ z. WholeOf (source_of b) w left.Attribute (selected e (z ∷ []))) (sym (ap selector_syntax is ∙ selector-Dot i k l))
      (sym (ap (λ z. stored_found (declared_attribute z) (dotted e) NoPlace) (sym some ∙ eo)))
    where
      dotted : Expression → Expression
      dotted e = Dot i.0 e k (expressions (map syntax_of l.items))

  pub taken_standard : (y : Selector) (i : TokenNo) (k : Identifier) (l : Vec Expr Global) (o : Option Denotation) (n : StandardName) → y ≡ take.Dot i k l → o ≡ denoted (source_of b) k.token.0 → o ≡ Some (denotation.Standard n) → FindsTaken b w y left.NoPlace
  unfolding FindsTaken
  taken_standard y i k l o n is eo some e =
      subst (λ z. WholeOf (source_of b) w left.NoPlace (selected e (z ∷ []))) (sym (ap selector_syntax is ∙ selector-Dot i k l))
      (subst (λ z. IsWhole (source_of b) w (Dot i.0 e k (expressions (map syntax_of l.items))) left.NoPlace (stored_found (declared_attribute z) (Dot i.0 e k (expressions (map syntax_of l.items))) NoPlace)) (sym some ∙ eo) (λ h. h))

  pub taken_unknown : (y : Selector) (i : TokenNo) (k : Identifier) (l : Vec Expr Global) (o : Option Denotation) → y ≡ take.Dot i k l → o ≡ denoted (source_of b) k.token.0 → o ≡ None → FindsTaken b w y left.NoPlace
  unfolding FindsTaken
  taken_unknown y i k l o is eo none e =
      subst (λ z. WholeOf (source_of b) w left.NoPlace (selected e (z ∷ []))) (sym (ap selector_syntax is ∙ selector-Dot i k l))
      (subst (λ z. IsWhole (source_of b) w (Dot i.0 e k (expressions (map syntax_of l.items))) left.NoPlace (stored_found (declared_attribute z) (Dot i.0 e k (expressions (map syntax_of l.items))) NoPlace)) (sym none ∙ eo) (λ h. h))

  pub taken_cast : (y : Selector) (i : TokenNo) (k : Identifier) → y ≡ take.Qua i k → FindsTaken b w y left.NoPlace
  unfolding FindsTaken
  taken_cast y i k is e = subst (λ z. WholeOf (source_of b) w left.NoPlace (selected e (z ∷ []))) (sym (ap selector_syntax is ∙ selector-Qua i k)) (λ h. h)

  pub whole_named : (x : Expr) (f : Form) (k : Bor Identifier) (l : Bor (List Expr)) (r : Left) → FindsForm f x → f ≡ form.Named k l → FindsNamed b w k.now l.now r → FindsWhole b w x r
  unfolding FindsWhole FindsNamed
  whole_named x f k l r h is g = subst (λ z. WholeOf (source_of b) w r z) (sym (form_at f (form.Named k l) x h is)) g

  pub whole_taken : (x : Expr) (f : Form) (p : Bor Expr) (l : Bor (List Selector)) (n : ℕ) (y : Selector) (r : Left) → FindsForm f x → f ≡ form.Taken p l → n ≡ length l.now - 1 → y ≡ slice_index_or l.now n y → FindsTaken b w y r → FindsWhole b w x r
  unfolding FindsWhole FindsTaken
  whole_taken x f p l n y r h is en ey g =
      let g' = form_at f (form.Taken p l) x h is in
      subst (λ z. WholeOf (source_of b) w r z) (sym g'.0) (cases l.now g'.1 (subst (λ m. y ≡ slice_index_or l.now m y) en ey))
    where
      cases : (ys : List Selector) → length ys ≢ 0 → y ≡ slice_index_or ys (length ys - 1) y → WholeOf (source_of b) w r (selected (syntax_of p.now) (map selector_syntax ys))
      cases [] ne e = absurd (ne refl)
      cases (z ∷ zs) ne e = behind (source_of b) w r (syntax_of p.now) (selector_syntax z) (map selector_syntax zs) (λ u. subst (λ m. WholeOf (source_of b) w r (selected u (m ∷ []))) (last_is z zs y e) (g u))

  pub whole_closed : (x : Expr) (f : Form) (p : Bor Expr) → FindsForm f x → f ≡ form.Closed p → FindsWhole b w x left.NoPlace
  whole_closed x f p h is = not_left x (sym (ap (stored_left (source_of b)) (form_at f (form.Closed p) x h is).1))

  pub whole_new : (x : Expr) (f : Form) → FindsForm f x → f ≡ form.New → FindsWhole b w x left.NoPlace
  whole_new x f h is = not_left x (left_new (source_of b) (syntax_of x) (form_at f form.New x h is))

  pub whole_other : (x : Expr) (f : Form) → FindsForm f x → f ≡ form.Other → FindsWhole b w x left.NoPlace
  whole_other x f h is = not_left x (left_other (source_of b) (syntax_of x) (form_at f form.Other x h is))

  -- ---- texts

  pub text_own : (x : Expr) (o : Option ℕ) (k : ℕ) (r : Left) → o ≡ result_meant (source_of b) (syntax_of x) → o ≡ Some k → FindsOwn b w k r → FindsText b w x r
  unfolding FindsText FindsOwn
  text_own x o k r eo some f line = subst (λ z. IsLeft (source_of b) w (syntax_of x) line r (stored_text z (syntax_of x) line)) (sym some ∙ eo) (f (syntax_of x) line)

  pub text_plain : (x : Expr) (o : Option ℕ) → o ≡ result_meant (source_of b) (syntax_of x) → o ≡ None → FindsText b w x left.Text
  unfolding FindsText
  text_plain x o eo none line = subst (λ z. IsLeft (source_of b) w (syntax_of x) line left.Text (stored_text z (syntax_of x) line)) (sym none ∙ eo) refl

  -- ---- sides

  as_left : (e : Expression) (line : ℕ) (r : Left) (t : Stored) → IsWhole (source_of b) w e r t → IsLeft (source_of b) w e line r t
  as_left e line (left.Cell level slot) t f = f
  as_left e line left.Attribute t f = f
  as_left e line left.Reference t f = absurd f
  as_left e line (left.Named d) t f = absurd f
  as_left e line (left.NamedText d) t f = absurd f
  as_left e line (left.NamedReference d class) t f = absurd f
  as_left e line (left.Element token d es) t f = f
  as_left e line left.Text t f = absurd f
  as_left e line (left.Result level slot) t f = absurd f
  as_left e line left.NoPlace t f = f

  as_side : (sign sign' : Assignment) (x : Expr) (r : Left) (o : Option DeclNo) (t u : Bool) → o ≡ by_name (source_of b) (syntax_of x) → o ≡ None → t ≡ is_text (source_of b) (syntax_of x) → t ≡ u → sign ≡ sign' → ((line : ℕ) → IsLeft (source_of b) w (syntax_of x) line r (stored_by_sign u sign' (source_of b) line (syntax_of x))) → FindsSide b w sign x r
  unfolding FindsSide
  as_side sign sign' x r o t u eo none et is es f line =
      let s = source_of b in
      subst (λ z. IsLeft s w (syntax_of x) line r (stored_or_named z (is_text s (syntax_of x)) sign s line (syntax_of x))) (sym none ∙ eo)
      (subst (λ z. IsLeft s w (syntax_of x) line r (stored_by_sign (is_text s (syntax_of x)) z s line (syntax_of x))) (sym es)
      (subst (λ z. IsLeft s w (syntax_of x) line r (stored_by_sign z sign' s line (syntax_of x))) (sym is ∙ et) (f line)))

  -- a formal parameter by name
  as_name : (sign sign' : Assignment) (x : Expr) (d : DeclNo) (r : Left) (t u : Bool) → t ≡ is_text (source_of b) (syntax_of x) → t ≡ u → sign ≡ sign' → ((w : Spot) (line : ℕ) → IsLeft (source_of b) w (syntax_of x) line r (stored_named_by u sign' (source_of b) d line)) → FindsByName b sign x d r
  unfolding FindsByName
  as_name sign sign' x d r t u et is es f w line =
      let s = source_of b in
      subst (λ z. IsLeft s w (syntax_of x) line r (stored_named_by (is_text s (syntax_of x)) z s d line)) (sym es)
      (subst (λ z. IsLeft s w (syntax_of x) line r (stored_named_by z sign' s d line)) (sym is ∙ et) (f w line))

  pub name_text : (sign : Assignment) (x : Expr) (d : DeclNo) (t : Bool) → t ≡ is_text (source_of b) (syntax_of x) → t ≡ true → sign ≡ assignment.Value → FindsByName b sign x d (left.NamedText d)
  name_text sign x d t et is es = as_name sign assignment.Value x d (left.NamedText d) t true et is es (λ w line. refl)

  pub name_denoted : (sign : Assignment) (x : Expr) (d : DeclNo) (t : Bool) → t ≡ is_text (source_of b) (syntax_of x) → t ≡ true → sign ≡ assignment.Reference → FindsByName b sign x d (left.Named d)
  name_denoted sign x d t et is es = as_name sign assignment.Reference x d (left.Named d) t true et is es (λ w line. refl)

  pub name_value : (sign : Assignment) (x : Expr) (d : DeclNo) (t : Bool) → t ≡ is_text (source_of b) (syntax_of x) → t ≡ false → sign ≡ assignment.Value → FindsByName b sign x d (left.Named d)
  name_value sign x d t et is es = as_name sign assignment.Value x d (left.Named d) t false et is es (λ w line. refl)

  pub name_reference : (sign : Assignment) (x : Expr) (d : DeclNo) (t : Bool) (o : Option ℕ) (k : ℕ) → t ≡ is_text (source_of b) (syntax_of x) → t ≡ false → sign ≡ assignment.Reference → o ≡ class_of_formal (source_of b) d → o ≡ Some k → FindsByName b sign x d (left.NamedReference d k)
  name_reference sign x d t o k et is es eo some =
      as_name sign assignment.Reference x d (left.NamedReference d k) t false et is es (λ w line. ap (λ z. stored_held d z line) (sym eo ∙ some))

  pub name_unheld : (sign : Assignment) (x : Expr) (d : DeclNo) (t : Bool) (o : Option ℕ) → t ≡ is_text (source_of b) (syntax_of x) → t ≡ false → sign ≡ assignment.Reference → o ≡ class_of_formal (source_of b) d → o ≡ None → FindsByName b sign x d left.NoPlace
  name_unheld sign x d t o et is es eo none =
      as_name sign assignment.Reference x d left.NoPlace t false et is es (λ w line h. subst (λ z. LeftBuilt (source_of b) w.text (stored_held d z line)) (sym eo ∙ none) h)

  pub side_named : (sign : Assignment) (x : Expr) (r : Left) (o : Option DeclNo) (d : DeclNo) → o ≡ by_name (source_of b) (syntax_of x) → o ≡ Some d → FindsByName b sign x d r → FindsSide b w sign x r
  unfolding FindsSide FindsByName
  side_named sign x r o d eo some f line =
      let s = source_of b in
      subst (λ z. IsLeft s w (syntax_of x) line r (stored_or_named z (is_text s (syntax_of x)) sign s line (syntax_of x))) (sym some ∙ eo) (f w line)

  pub side_text : (sign : Assignment) (x : Expr) (r : Left) (o : Option DeclNo) (t : Bool) → o ≡ by_name (source_of b) (syntax_of x) → o ≡ None → t ≡ is_text (source_of b) (syntax_of x) → t ≡ true → sign ≡ assignment.Value → FindsText b w x r → FindsSide b w sign x r
  unfolding FindsText
  side_text sign x r o t eo none et is es f = as_side sign assignment.Value x r o t true eo none et is es f

  pub side_denoted : (sign : Assignment) (x : Expr) (r : Left) (o : Option DeclNo) (t : Bool) → o ≡ by_name (source_of b) (syntax_of x) → o ≡ None → t ≡ is_text (source_of b) (syntax_of x) → t ≡ true → sign ≡ assignment.Reference → FindsWhole b w x r → FindsSide b w sign x r
  unfolding FindsWhole
  side_denoted sign x r o t eo none et is es f = as_side sign assignment.Reference x r o t true eo none et is es (λ line. as_left (syntax_of x) line r _ f)

  pub side_value : (sign : Assignment) (x : Expr) (r : Left) (o : Option DeclNo) (t : Bool) → o ≡ by_name (source_of b) (syntax_of x) → o ≡ None → t ≡ is_text (source_of b) (syntax_of x) → t ≡ false → sign ≡ assignment.Value → FindsWhole b w x r → FindsSide b w sign x r
  unfolding FindsWhole
  side_value sign x r o t eo none et is es f = as_side sign assignment.Value x r o t false eo none et is es (λ line. as_left (syntax_of x) line r _ f)

  pub side_reference : (sign : Assignment) (x : Expr) (o : Option DeclNo) (t : Bool) → o ≡ by_name (source_of b) (syntax_of x) → o ≡ None → t ≡ is_text (source_of b) (syntax_of x) → t ≡ false → sign ≡ assignment.Reference → FindsSide b w sign x left.Reference
  side_reference sign x o t eo none et is es = as_side sign assignment.Reference x left.Reference o t false eo none et is es (λ line. refl)

-- ---- results

pub own_subscripts : (b : Bound) (x : Identifier) (n : ℕ) → n ≢ 0 → FindsOwnNamed b x n None
unfolding FindsOwnNamed
own_subscripts b x zero ne = absurd (ne refl)
own_subscripts b x (suc n) ne = refl

-- an identifier alone
own_alone : (b : Bound) (x : Identifier) (n : ℕ) (r : Option ℕ) → n ≡ 0 → r ≡ result_meant (source_of b) (Named x NoMore) → FindsOwnNamed b x n r
unfolding FindsOwnNamed
own_alone b x n r none e = e ∙ ap (λ z. own_if z (result_meant (source_of b) (Named x NoMore))) (sym none)

pub own_through : (b : Bound) (x : Identifier) (n c : ℕ) (o : Option ℕ) → n ≡ 0 → o ≡ connection_at (source_of b) x.token.0 → o ≡ Some c → FindsOwnNamed b x n None
unfolding result_meant
own_through b x n c o none eo some = own_alone b x n None none through
  where
    through : None ≡ result_meant (source_of b) (Named x NoMore)
    through = ap (λ z. unless_connected z (result_or_own (text_of_procedure (source_of b) (own_match (source_of b) (Named x NoMore))) (own_result (source_of b) (Named x NoMore)))) (sym some ∙ eo)

-- one that is seen through no connection
own_unconnected : (b : Bound) (x : Identifier) (n : ℕ) (o p own : Option ℕ) → n ≡ 0 → o ≡ connection_at (source_of b) x.token.0 → o ≡ None → FindsMatchText b x n p → own ≡ own_result (source_of b) (Named x NoMore) → FindsOwnNamed b x n (result_or_own p own)
unfolding FindsMatchText result_meant
own_unconnected b x n o p own none eo no' ep e = own_alone b x n (result_or_own p own) none meant
  where
    is : p ≡ text_of_procedure (source_of b) (own_match (source_of b) (Named x NoMore))
    is = ep ∙ ap (λ z. text_of_procedure (source_of b) (own_match_if z (own_match (source_of b) (Named x NoMore)))) none

    meant : result_or_own p own ≡ result_meant (source_of b) (Named x NoMore)
    meant =
        let s = source_of b in
        let match = text_of_procedure s (own_match s (Named x NoMore)) in
        ap (λ z. result_or_own z own) is ∙ ap (result_or_own match) e ∙ ap (λ z. unless_connected z (result_or_own match (own_result s (Named x NoMore)))) (sym no' ∙ eo)

pub own_of_match : (b : Bound) (x : Identifier) (n k : ℕ) (o p : Option ℕ) → n ≡ 0 → o ≡ connection_at (source_of b) x.token.0 → o ≡ None → FindsMatchText b x n p → p ≡ Some k → FindsOwnNamed b x n (Some k)
own_of_match b x n k o p none eo no' ep some =
    let own = own_result (source_of b) (Named x NoMore) in
    subst (λ z. FindsOwnNamed b x n (result_or_own z own)) some (own_unconnected b x n o p own none eo no' ep refl)

pub own_plain : (b : Bound) (x : Identifier) (n : ℕ) (o p q : Option ℕ) (u : Option Denotation) → n ≡ 0 → o ≡ connection_at (source_of b) x.token.0 → o ≡ None → FindsMatchText b x n p → p ≡ None → u ≡ denoted (source_of b) x.token.0 → q ≡ own_block_denoted (source_of b) x.token.0 u → FindsOwnNamed b x n q
unfolding own_result
own_plain b x n o p q u none eo no' ep no_match eu eq =
    subst (λ z. FindsOwnNamed b x n (result_or_own z q)) no_match (own_unconnected b x n o p q none eo no' ep (eq ∙ ap (own_block_denoted (source_of b) x.token.0) eu))

pub own_named_form : (b : Bound) (x : Expr) (f : Form) (k : Bor Identifier) (l : Bor (List Expr)) (o : Option ℕ) (n : ℕ) → FindsForm f x → f ≡ form.Named k l → n ≡ length l.now → FindsOwnNamed b k.now n o → o ≡ result_meant (source_of b) (syntax_of x)
unfolding FindsOwnNamed
own_named_form b x f k l o n h is en eo =
    let s = source_of b in
    eo ∙ ap (λ z. own_if z (result_meant s (Named k.now NoMore))) en ∙ own_operands s k.now l.now ∙ sym (ap (result_meant s) (form_at f (form.Named k l) x h is))

pub own_taken_form : (b : Bound) (x : Expr) (f : Form) (p : Bor Expr) (l : Bor (List Selector)) → FindsForm f x → f ≡ form.Taken p l → None ≡ result_meant (source_of b) (syntax_of x)
own_taken_form b x f p l h is = let g = form_at f (form.Taken p l) x h is in own_taken (source_of b) (syntax_of x) (syntax_of p.now) l.now g.0 g.1

pub own_closed_form : (b : Bound) (x : Expr) (f : Form) (p : Bor Expr) → FindsForm f x → f ≡ form.Closed p → None ≡ result_meant (source_of b) (syntax_of x)
unfolding result_meant
own_closed_form b x f p h is = sym (ap (result_meant (source_of b)) (form_at f (form.Closed p) x h is).1)

pub own_new_form : (b : Bound) (x : Expr) (f : Form) → FindsForm f x → f ≡ form.New → None ≡ result_meant (source_of b) (syntax_of x)
own_new_form b x f h is = own_new (source_of b) (syntax_of x) (form_at f form.New x h is)

pub own_other_form : (b : Bound) (x : Expr) (f : Form) → FindsForm f x → f ≡ form.Other → None ≡ result_meant (source_of b) (syntax_of x)
own_other_form b x f h is = own_other (source_of b) (syntax_of x) (form_at f form.Other x h is)

pub ruleset founds = (named_through, named_match, named_plain, taken_attribute, taken_standard, taken_unknown, taken_cast, whole_named, whole_taken, whole_closed, whole_new, whole_other, text_own, text_plain, name_text, name_denoted, name_value, name_reference, name_unheld, side_named, side_text, side_denoted, side_value, side_reference, own_subscripts, own_through, own_of_match, own_plain, own_named_form, own_taken_form, own_closed_form, own_new_form, own_other_form, own_found, own_missing, own_outside)
