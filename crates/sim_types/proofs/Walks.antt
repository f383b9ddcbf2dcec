-- The walk over an expression.
use Rattle.std.proofs.Common.{◌≡◌, ◌<◌, ◌+◌, ◌-◌, ℕ, ℤ, List, [], ◌∷◌, Option, Some, None, sym, ap, ◌∙◌, map, drop, length, arith}
use Rattle.std.proofs.lemmas.List.{drop_more}
use Rattle.std.specs.Prelude.{slice_index_or}
use Rattle.std.specs.declared.alloc.Global.{Global}
use Rattle.std.specs.declared.boxed.Box.{Box}
use Rattle.std.specs.declared.vec.Vec.{Vec}
use Rattle.sim_base.specs.declared.numbering.TokenNo.{TokenNo}
use Rattle.sim_tree.specs.declared.expr.LeadingSign.{LeadingSign}
use Rattle.sim_tree.specs.declared.expr.Identifier.{Identifier}
use Rattle.sim_tree.specs.declared.expr.Relation.{Relation}
use Rattle.sim_tree.specs.declared.expr.Membership.{Membership}
use Rattle.sim_tree.specs.declared.expr.Expr.{Expr}
use Rattle.sim_tree.specs.declared.expr.Expr.TheVariants as e
use Rattle.sim_tree.specs.declared.expr.Operand.{Operand}
use Rattle.sim_tree.specs.declared.expr.Term.{Term}
use Rattle.sim_tree.specs.declared.expr.Factor.{Factor}
use Rattle.sim_tree.specs.declared.expr.Selector.{Selector}
use Rattle.sim_tree.specs.declared.expr.Selector.TheVariants as selector
use Rattle.sim_tree.specs.declared.operator.Operator.TheVariants as operator
use Rattle.sim_tree.specs.Syntax.{Expression, Binary, Dot, Qua, expressions, first_of}
use Rattle.sim_tree.specs.SyntaxOf.{Tail, Selection, Take, Cast, chain, FirstIs, negated, selected, signed, syntax_of, operand_syntax, term_syntax, factor_syntax, selector_syntax, with_operator}
use Rattle.sim_tree.proofs.SyntaxLemmas as v
use Rattle.sim_scope.specs.declared.outcome.Actuals.{Actuals}
use Rattle.sim_scope.specs.declared.outcome.Extent.{Extent}
use Rattle.sim_scope.specs.declared.outcome.Occurrence.{Occurrence}
use Rattle.sim_scope.specs.declared.outcome.Outcome.{Outcome}
use Rattle.sim_scope.specs.declared.outcome.Side.{Side}
use Rattle.sim_scope.specs.declared.scopes.Denotation.{Denotation}
use Rattle.sim_scope.specs.declared.types.SimType.TheVariants as type
use Rattle.sim_scope.specs.Actuals.{more, no_actuals}
use Rattle.sim_scope.specs.Calls.{attribute, bound, used}
use Rattle.sim_scope.specs.Expressions.{actuals, judge, judge_side}
use Rattle.sim_scope.specs.ExpressionWalk.{Finds, FindsActuals, FindsNamed, FindsNot, FindsSelected, FindsSide, FindsTail, FindsTaken, Owes, OwesActuals, OwesSelected, chained, selections, taken}
use Rattle.sim_scope.specs.Found.{Findings}
use Rattle.sim_scope.specs.Judged.{Judged, Judges, next}
use Rattle.sim_scope.specs.References.{class_named, member, new_object, qualified, this_object}
use Rattle.sim_scope.specs.Outcomes.{has, in_parentheses, one, side, three, two}
use Rattle.sim_scope.specs.Tables.{Tables}
use Rattle.sim_types.proofs.Selectors.{syntax-Dot, syntax-Qua}
use Rattle.sim_types.proofs.Steps.{judges_as, judges_gives, judges_next, next-gives, next-next, next_same}

-- a chain of operators is judged from left to right
chain_from : (s : Tables) (m : Extent) (x : Expression) (ts : List Tail) → judge s m (chain x ts) ≡ next (judge s m x) (λ o. chained s m (first_of x) o ts)
unfolding judge
chain_from s m x [] = sym (next-gives (judge s m x))
chain_from s m x (t ∷ ts) =
    let i = first_of x in
    let S = λ (z : Outcome). side s i z in
    let C = λ (z : Outcome). chained s m i z ts in
    let T = λ (z w : Side). two t.operator t.token z w in
    let K = λ (z : Side). next (judge_side s m t.operand) (T z) in
    chain_from s m (Binary t.operator t.token x t.operand) ts
    ∙ next-next (next (judge s m x) S) K C
    ∙ next-next (judge s m x) S (λ z. next (K z) C)
    ∙ next_same (judge s m x) (λ z. next (S z) (λ w. next (K w) C)) (λ z. next (S z) (λ w. next (judge_side s m t.operand) (λ u. next (T w u) C)))
    (next_same (S (judge s m x).value) (λ w. next (K w) C) (λ w. next (judge_side s m t.operand) (λ u. next (T w u) C))
    (next-next (judge_side s m t.operand) (T (S (judge s m x).value).value) C))

-- a first operand, and then the others
found_chain : (s : Tables) (m : Extent) (f g h : Findings) (y : Expr) (t : TokenNo) (o p : Outcome) (ts : List Tail) → Finds s m f g o y → FirstIs t y → FindsTail s m g h p t o ts → Judges f h p (judge s m (chain (syntax_of y) ts))
unfolding Finds FindsTail FirstIs
found_chain s m f g h y t o p ts one first rest =
    judges_as (judges_next (judge s m (syntax_of y)) (λ z. chained s m t.0 z ts) one rest)
    (ap (λ i. next (judge s m (syntax_of y)) (λ z. chained s m i z ts)) first ∙ sym (chain_from s m (syntax_of y) ts))

found_as : (s : Tables) (m : Extent) (f g : Findings) (o : Outcome) (x : Expr) (z : Expression) → syntax_of x ≡ z → Judges f g o (judge s m z) → Finds s m f g o x
unfolding Finds
found_as s m f g o x z e h = judges_as h (ap (judge s m) (sym e))

found_has : (s : Tables) (m : Extent) (f g : Findings) (o : Outcome) (x : Expr) (z : Expression) (j : Judged Outcome) → syntax_of x ≡ z → judge s m z ≡ j → Judges f g o j → Finds s m f g o x
found_has s m f g o x z j e is h = found_as s m f g o x z e (judges_as h (sym is))

pub find_side : (s : Tables) (m : Extent) (f g h : Findings) (x : Expr) (o : Outcome) (t : TokenNo) (y : Side) → Finds s m f g o x → FirstIs t x → Judges g h y (side s t.0 o) → FindsSide s m f h y x
unfolding Finds FindsSide FirstIs
find_side s m f g h x o t y one first two =
    judges_as (judges_next (judge s m (syntax_of x)) (side s t.0) one two) (ap (λ i. next (judge s m (syntax_of x)) (side s i)) first)

pub side_as : (s : Tables) (m : Extent) (f g : Findings) (x : Side) (y z : Expr) → y ≡ z → FindsSide s m f g x y → Judges f g x (judge_side s m (syntax_of z))
unfolding FindsSide
side_as s m f g x y z e h = judges_as h (ap (λ w. judge_side s m (syntax_of w)) e)

pub find_if : (s : Tables) (m : Extent) (f g h k : Findings) (x a b c : Expr) (i : TokenNo) (p q r : Box Expr Global) (y z w : Side) (o : Outcome) → x ≡ e.If i p q r → a ≡ p.value → b ≡ q.value → c ≡ r.value
    → FindsSide s m f g y a → FindsSide s m g h z b → FindsSide s m h k w c → (l : Findings) → Judges k l o (three s i.0 y z w) → Finds s m f l o x
unfolding judge
find_if s m f g h k x a b c i p q r y z w o is ea eb ec one two' three' l last =
    found_as s m f l o x _ (ap syntax_of is ∙ v.syntax-If i p q r)
    (judges_next (judge_side s m (syntax_of p.value)) _ (side_as s m f g y a p.value ea one)
    (judges_next (judge_side s m (syntax_of q.value)) _ (side_as s m g h z b q.value eb two')
    (judges_next (judge_side s m (syntax_of r.value)) (λ w. three s i.0 y z w) (side_as s m h k w c r.value ec three') last)))

pub find_related : (s : Tables) (m : Extent) (f g h k : Findings) (x a b : Expr) (p q : Box Expr Global) (i : TokenNo) (r : Relation) (y z : Side) (o : Outcome) → x ≡ e.Related p i r q → a ≡ p.value → b ≡ q.value
    → FindsSide s m f g y a → FindsSide s m g h z b → Judges h k o (two (operator.Relate r) i.0 y z) → Finds s m f k o x
unfolding judge
find_related s m f g h k x a b p q i r y z w is ea eb one two' last =
    found_as s m f k w x _ (ap syntax_of is ∙ v.syntax-Related p i r q)
    (judges_next (judge_side s m (syntax_of p.value)) _ (side_as s m f g y a p.value ea one)
    (judges_next (judge_side s m (syntax_of q.value)) (λ z. two (operator.Relate r) i.0 y z) (side_as s m g h z b q.value eb two') last))

pub find_not : (s : Tables) (m : Extent) (f g : Findings) (x y : Expr) (l : Vec TokenNo Global) (a : Box Expr Global) (ts : List TokenNo) (o : Outcome) → x ≡ e.Not l a → ts ≡ l.items → y ≡ a.value → FindsNot s m f g o ts y → Finds s m f g o x
unfolding FindsNot
find_not s m f g x y l a ts o is et ey h =
    found_as s m f g o x _ (ap syntax_of is ∙ v.syntax-Not l a) (judges_as h (ap (λ z. judge s m (negated z (syntax_of y))) et ∙ ap (λ z. judge s m (negated l.items (syntax_of z))) ey))

pub find_sum : (s : Tables) (m : Extent) (f g h : Findings) (x y : Expr) (q : Option LeadingSign) (a : Box Expr Global) (l : Vec Term Global) (t : TokenNo) (o p : Outcome) (ts : List Term) → x ≡ e.Sum q a l → q ≡ None → y ≡ a.value → ts ≡ l.items
    → Finds s m f g o y → FirstIs t y → FindsTail s m g h p t o (map term_syntax ts) → Finds s m f h p x
find_sum s m f g h x y q a l t o p ts is none ey et one first rest =
    found_as s m f h p x (chain (syntax_of y) (map term_syntax ts))
    (ap syntax_of is ∙ v.syntax-Sum q a l ∙ ap (λ z. chain (signed z (syntax_of a.value)) (map term_syntax l.items)) none ∙ ap (λ z. chain (syntax_of z) (map term_syntax l.items)) (sym ey) ∙ ap (λ z. chain (syntax_of y) (map term_syntax z)) (sym et))
    (found_chain s m f g h y t o p (map term_syntax ts) one first rest)

pub find_signed : (s : Tables) (m : Extent) (f g h k : Findings) (x y : Expr) (q : Option LeadingSign) (n : LeadingSign) (a : Box Expr Global) (l : Vec Term Global) (z : Side) (o p : Outcome) (ts : List Term) → x ≡ e.Sum q a l → q ≡ Some n → y ≡ a.value → ts ≡ l.items
    → FindsSide s m f g z y → Judges g h o (one type.Integer n.token.0 z) → FindsTail s m h k p n.token o (map term_syntax ts) → Finds s m f k p x
unfolding judge FindsTail
find_signed s m f g h k x y q n a l z o p ts is some ey et one' last rest =
    found_as s m f k p x (chain (signed (Some n) (syntax_of a.value)) (map term_syntax l.items))
    (ap syntax_of is ∙ v.syntax-Sum q a l ∙ ap (λ z. chain (signed z (syntax_of a.value)) (map term_syntax l.items)) some)
    (judges_as (judges_next (judge s m (signed (Some n) (syntax_of a.value))) (λ w. chained s m n.token.0 w (map term_syntax l.items))
    (judges_next (judge_side s m (syntax_of a.value)) (one type.Integer n.token.0) (side_as s m f g z y a.value ey one') last)
    (judges_as rest (ap (λ w. chained s m n.token.0 o (map term_syntax w)) et)))
    (sym (chain_from s m (signed (Some n) (syntax_of a.value)) (map term_syntax l.items))))

pub find_product : (s : Tables) (m : Extent) (f g h : Findings) (x y : Expr) (a : Box Expr Global) (l : Vec Factor Global) (t : TokenNo) (o p : Outcome) (ts : List Factor) → x ≡ e.Product a l → y ≡ a.value → ts ≡ l.items
    → Finds s m f g o y → FirstIs t y → FindsTail s m g h p t o (map factor_syntax ts) → Finds s m f h p x
find_product s m f g h x y a l t o p ts is ey et one first rest =
    found_as s m f h p x (chain (syntax_of y) (map factor_syntax ts))
    (ap syntax_of is ∙ v.syntax-Product a l ∙ ap (λ z. chain (syntax_of z) (map factor_syntax l.items)) (sym ey) ∙ ap (λ z. chain (syntax_of y) (map factor_syntax z)) (sym et))
    (found_chain s m f g h y t o p (map factor_syntax ts) one first rest)

pub find_named : (s : Tables) (m : Extent) (f g : Findings) (x : Expr) (n : Identifier) (l : Vec Expr Global) (es : List Expr) (o : Outcome) → x ≡ e.Named n l → es ≡ l.items → FindsNamed s m f g o n es → Finds s m f g o x
unfolding judge FindsNamed
find_named s m f g x n l es o is ee h =
    found_as s m f g o x _ (ap syntax_of is ∙ v.syntax-Named n l) (judges_as h (ap (λ z. next (bound s m n) (λ d. next (actuals s m d.denotes no_actuals (expressions (map syntax_of z))) (used s n.token.0 n d))) ee))

pub find_member : (s : Tables) (m : Extent) (f g h k : Findings) (x y : Expr) (a : Box Expr Global) (i : TokenNo) (r : Membership) (c : Identifier) (z : Side) (d : Occurrence) (o : Outcome) → x ≡ e.Member a i r c → y ≡ a.value
    → FindsSide s m f g z y → Judges g h d (class_named s m c) → Judges h k o (member s i.0 z c d) → Finds s m f k o x
unfolding judge
find_member s m f g h k x y a i r c z d o is ey one two' last =
    found_as s m f k o x _ (ap syntax_of is ∙ v.syntax-Member a i r c)
    (judges_next (judge_side s m (syntax_of a.value)) (λ z. next (class_named s m c) (member s i.0 z c)) (side_as s m f g z y a.value ey one)
    (judges_next (class_named s m c) (member s i.0 z c) two' last))

-- what is taken of an object is judged from left to right
selected_from : (s : Tables) (m : Extent) (x : Expression) (zs : List Selection) → judge s m (selected x zs) ≡ next (judge s m x) (λ o. selections s m (first_of x) o zs)
unfolding judge
selected_from s m x [] = sym (next-gives (judge s m x))
selected_from s m x (Take i n args ∷ zs) =
    let t = first_of x in
    let J = judge s m x in
    let A = λ (o : Outcome). attribute s m n t o in
    let U = λ (d : Occurrence). next (actuals s m d.denotes no_actuals args) (used s i n d) in
    let C = λ (p : Outcome). selections s m t p zs in
    selected_from s m (Dot i x n args) zs
    ∙ next-next (next J A) U C
    ∙ next-next J A (λ d. next (U d) C)
    ∙ next_same J (λ o. next (A o) (λ d. next (U d) C)) (λ o. next (next (A o) U) C) (sym (next-next (A J.value) U C))
selected_from s m x (Cast i c ∷ zs) =
    let t = first_of x in
    let J = judge s m x in
    let S = λ (o : Outcome). side s t o in
    let K = λ (z : Side). next (class_named s m c) (qualified s i z c) in
    let C = λ (p : Outcome). selections s m t p zs in
    selected_from s m (Qua i x c) zs
    ∙ next-next (next J S) K C
    ∙ next-next J S (λ z. next (K z) C)
    ∙ next_same J (λ o. next (S o) (λ z. next (K z) C)) (λ o. next (next (S o) K) C) (sym (next-next (S J.value) K C))

pub find_postfix : (s : Tables) (m : Extent) (f g h : Findings) (x y : Expr) (a : Box Expr Global) (l : Vec Selector Global) (ss : List Selector) (t : TokenNo) (o p : Outcome) → x ≡ e.Postfix a l → ss ≡ l.items → y ≡ a.value → Finds s m f g o y → FirstIs t y → FindsSelected s m g h p t o (map selector_syntax ss) → Finds s m f h p x
unfolding Finds FirstIs FindsSelected
find_postfix s m f g h x y a l ss t o p is es ey one first rest =
    let zs = map selector_syntax ss in
    judges_as (judges_next (judge s m (syntax_of y)) (λ z. selections s m t.0 z zs) one rest)
    (ap (λ i. next (judge s m (syntax_of y)) (λ z. selections s m i z zs)) first ∙ sym (selected_from s m (syntax_of y) zs)
    ∙ sym (ap (λ z. judge s m (syntax_of z)) is ∙ ap (judge s m) (v.syntax-Postfix a l) ∙ ap (λ z. judge s m (selected (syntax_of a.value) (map selector_syntax z))) (sym es) ∙ ap (λ z. judge s m (selected (syntax_of z) zs)) (sym ey)))

pub find_dot : (s : Tables) (m : Extent) (f g h k : Findings) (x : Selector) (i : TokenNo) (n : Identifier) (l : Vec Expr Global) (es : List Expr) (t : TokenNo) (left o : Outcome) (d : Occurrence) (a : Actuals) → x ≡ selector.Dot i n l → es ≡ l.items
    → Judges f g d (attribute s m n t.0 left) → FindsActuals s m g h d.denotes no_actuals a es → Judges h k o (used s i.0 n d a) → FindsTaken s m f k o t left x
unfolding FindsActuals FindsTaken
find_dot s m f g h k x i n l es t left o d a is ee one all last =
    judges_as
    (judges_next (attribute s m n t.0 left) (λ d. next (actuals s m d.denotes no_actuals (expressions (map syntax_of es))) (used s i.0 n d)) one
    (judges_next (actuals s m d.denotes no_actuals (expressions (map syntax_of es))) (used s i.0 n d) all last))
    (ap (λ z. taken s m t.0 left (Take i.0 n (expressions (map syntax_of z)))) ee ∙ sym (ap (λ z. taken s m t.0 left (selector_syntax z)) is ∙ ap (taken s m t.0 left) (syntax-Dot i n l)))

pub find_qua : (s : Tables) (m : Extent) (f g h k : Findings) (x : Selector) (i : TokenNo) (c : Identifier) (t : TokenNo) (left o : Outcome) (z : Side) (d : Occurrence) → x ≡ selector.Qua i c
    → Judges f g z (side s t.0 left) → Judges g h d (class_named s m c) → Judges h k o (qualified s i.0 z c d) → FindsTaken s m f k o t left x
unfolding FindsTaken
find_qua s m f g h k x i c t left o z d is one two' last =
    judges_as
    (judges_next (side s t.0 left) (λ z. next (class_named s m c) (qualified s i.0 z c)) one
    (judges_next (class_named s m c) (qualified s i.0 z c) two' last))
    (sym (ap (λ z. taken s m t.0 left (selector_syntax z)) is ∙ ap (taken s m t.0 left) (syntax-Qua i c)))

pub find_parentheses : (s : Tables) (m : Extent) (f g h : Findings) (x y : Expr) (i : TokenNo) (a : Box Expr Global) (t : TokenNo) (o p : Outcome) → x ≡ e.Parentheses i a → y ≡ a.value → Finds s m f g o y → FirstIs t y → Judges g h p (in_parentheses s t.0 o) → Finds s m f h p x
unfolding judge Finds FirstIs
find_parentheses s m f g h x y i a t o p is ey one first two' =
    judges_as (judges_next (judge s m (syntax_of y)) (in_parentheses s t.0) one two')
    (ap (λ z. next (judge s m (syntax_of y)) (in_parentheses s z)) first ∙ ap (λ z. next (judge s m (syntax_of z)) (in_parentheses s (first_of (syntax_of z)))) ey ∙ sym (ap (judge s m) (ap syntax_of is ∙ v.syntax-Parentheses i a)))

pub find_this : (s : Tables) (m : Extent) (f g h : Findings) (x : Expr) (i : TokenNo) (c : Identifier) (d : Occurrence) (o : Outcome) → x ≡ e.This i c
    → Judges f g d (class_named s m c) → Judges g h o (this_object s m i.0 c d) → Finds s m f h o x
unfolding judge
find_this s m f g h x i c d o is one last =
    found_as s m f h o x _ (ap syntax_of is ∙ v.syntax-This i c) (judges_next (class_named s m c) (this_object s m i.0 c) one last)

pub find_new : (s : Tables) (m : Extent) (f g h k : Findings) (x : Expr) (i : TokenNo) (c : Identifier) (l : Vec Expr Global) (es : List Expr) (d : Occurrence) (a : Actuals) (o : Outcome) → x ≡ e.New i c l → es ≡ l.items
    → Judges f g d (class_named s m c) → FindsActuals s m g h d.denotes no_actuals a es → Judges h k o (new_object s i.0 c d a) → Finds s m f k o x
unfolding judge FindsActuals
find_new s m f g h k x i c l es d a o is ee one all last =
    found_as s m f k o x _ (ap syntax_of is ∙ v.syntax-New i c l)
    (judges_as
    (judges_next (class_named s m c) (λ d. next (actuals s m d.denotes no_actuals (expressions (map syntax_of es))) (new_object s i.0 c d)) one
    (judges_next (actuals s m d.denotes no_actuals (expressions (map syntax_of es))) (new_object s i.0 c d) all last))
    (ap (λ z. next (class_named s m c) (λ d. next (actuals s m d.denotes no_actuals (expressions (map syntax_of z))) (new_object s i.0 c d))) ee))

pub find_Integer : (s : Tables) (m : Extent) (f g : Findings) (x : Expr) (i : TokenNo) (n : ℤ) (o : Outcome) → x ≡ e.Integer i n → Judges f g o (has i.0 type.Integer) → Finds s m f g o x
unfolding judge
find_Integer s m f g x i n o is h = found_as s m f g o x _ (ap syntax_of is ∙ v.syntax-Integer i n) h

pub find_Character : (s : Tables) (m : Extent) (f g : Findings) (x : Expr) (i : TokenNo) (n : ℕ) (o : Outcome) → x ≡ e.Character i n → Judges f g o (has i.0 type.Character) → Finds s m f g o x
unfolding judge
find_Character s m f g x i n o is h = found_as s m f g o x _ (ap syntax_of is ∙ v.syntax-Character i n) h

pub find_Text : (s : Tables) (m : Extent) (f g : Findings) (x : Expr) (i : TokenNo) (n : List ℕ) (o : Outcome) → x ≡ e.Text i n → Judges f g o (has i.0 type.Text) → Finds s m f g o x
unfolding judge
find_Text s m f g x i n o is h = found_as s m f g o x _ (ap syntax_of is ∙ v.syntax-Text i n) h

pub find_True : (s : Tables) (m : Extent) (f g : Findings) (x : Expr) (i : TokenNo) (o : Outcome) → x ≡ e.True i → Judges f g o (has i.0 type.Boolean) → Finds s m f g o x
unfolding judge
find_True s m f g x i o is h = found_as s m f g o x _ (ap syntax_of is ∙ v.syntax-True i) h

pub find_False : (s : Tables) (m : Extent) (f g : Findings) (x : Expr) (i : TokenNo) (o : Outcome) → x ≡ e.False i → Judges f g o (has i.0 type.Boolean) → Finds s m f g o x
unfolding judge
find_False s m f g x i o is h = found_as s m f g o x _ (ap syntax_of is ∙ v.syntax-False i) h

pub find_NoObject : (s : Tables) (m : Extent) (f g : Findings) (x : Expr) (i : TokenNo) (o : Outcome) → x ≡ e.NoObject i → Judges f g o (has i.0 type.NoneType) → Finds s m f g o x
unfolding judge
find_NoObject s m f g x i o is h = found_as s m f g o x _ (ap syntax_of is ∙ v.syntax-NoObject i) h

pub find_Notext : (s : Tables) (m : Extent) (f g : Findings) (x : Expr) (i : TokenNo) (o : Outcome) → x ≡ e.Notext i → Judges f g o (has i.0 type.Text) → Finds s m f g o x
unfolding judge
find_Notext s m f g x i o is h = found_as s m f g o x _ (ap syntax_of is ∙ v.syntax-Notext i) h

pub find_OrElse : (s : Tables) (m : Extent) (f g h : Findings) (x y : Expr) (a : Box Expr Global) (l : Vec Operand Global) (t : TokenNo) (o p : Outcome) (ts : List Operand) → x ≡ e.OrElse a l → y ≡ a.value → ts ≡ l.items
    → Finds s m f g o y → FirstIs t y → FindsTail s m g h p t o (map (with_operator operator.OrElse) (map operand_syntax ts)) → Finds s m f h p x
find_OrElse s m f g h x y a l t o p ts is ey et one first rest =
    found_as s m f h p x (chain (syntax_of y) (map (with_operator operator.OrElse) (map operand_syntax ts)))
    (ap syntax_of is ∙ v.syntax-OrElse a l ∙ ap (λ z. chain (syntax_of z) (map (with_operator operator.OrElse) (map operand_syntax l.items))) (sym ey) ∙ ap (λ z. chain (syntax_of y) (map (with_operator operator.OrElse) (map operand_syntax z))) (sym et))
    (found_chain s m f g h y t o p (map (with_operator operator.OrElse) (map operand_syntax ts)) one first rest)

pub find_AndThen : (s : Tables) (m : Extent) (f g h : Findings) (x y : Expr) (a : Box Expr Global) (l : Vec Operand Global) (t : TokenNo) (o p : Outcome) (ts : List Operand) → x ≡ e.AndThen a l → y ≡ a.value → ts ≡ l.items
    → Finds s m f g o y → FirstIs t y → FindsTail s m g h p t o (map (with_operator operator.AndThen) (map operand_syntax ts)) → Finds s m f h p x
find_AndThen s m f g h x y a l t o p ts is ey et one first rest =
    found_as s m f h p x (chain (syntax_of y) (map (with_operator operator.AndThen) (map operand_syntax ts)))
    (ap syntax_of is ∙ v.syntax-AndThen a l ∙ ap (λ z. chain (syntax_of z) (map (with_operator operator.AndThen) (map operand_syntax l.items))) (sym ey) ∙ ap (λ z. chain (syntax_of y) (map (with_operator operator.AndThen) (map operand_syntax z))) (sym et))
    (found_chain s m f g h y t o p (map (with_operator operator.AndThen) (map operand_syntax ts)) one first rest)

pub find_Eqv : (s : Tables) (m : Extent) (f g h : Findings) (x y : Expr) (a : Box Expr Global) (l : Vec Operand Global) (t : TokenNo) (o p : Outcome) (ts : List Operand) → x ≡ e.Eqv a l → y ≡ a.value → ts ≡ l.items
    → Finds s m f g o y → FirstIs t y → FindsTail s m g h p t o (map (with_operator operator.Equivalent) (map operand_syntax ts)) → Finds s m f h p x
find_Eqv s m f g h x y a l t o p ts is ey et one first rest =
    found_as s m f h p x (chain (syntax_of y) (map (with_operator operator.Equivalent) (map operand_syntax ts)))
    (ap syntax_of is ∙ v.syntax-Eqv a l ∙ ap (λ z. chain (syntax_of z) (map (with_operator operator.Equivalent) (map operand_syntax l.items))) (sym ey) ∙ ap (λ z. chain (syntax_of y) (map (with_operator operator.Equivalent) (map operand_syntax z))) (sym et))
    (found_chain s m f g h y t o p (map (with_operator operator.Equivalent) (map operand_syntax ts)) one first rest)

pub find_Imp : (s : Tables) (m : Extent) (f g h : Findings) (x y : Expr) (a : Box Expr Global) (l : Vec Operand Global) (t : TokenNo) (o p : Outcome) (ts : List Operand) → x ≡ e.Imp a l → y ≡ a.value → ts ≡ l.items
    → Finds s m f g o y → FirstIs t y → FindsTail s m g h p t o (map (with_operator operator.Implies) (map operand_syntax ts)) → Finds s m f h p x
find_Imp s m f g h x y a l t o p ts is ey et one first rest =
    found_as s m f h p x (chain (syntax_of y) (map (with_operator operator.Implies) (map operand_syntax ts)))
    (ap syntax_of is ∙ v.syntax-Imp a l ∙ ap (λ z. chain (syntax_of z) (map (with_operator operator.Implies) (map operand_syntax l.items))) (sym ey) ∙ ap (λ z. chain (syntax_of y) (map (with_operator operator.Implies) (map operand_syntax z))) (sym et))
    (found_chain s m f g h y t o p (map (with_operator operator.Implies) (map operand_syntax ts)) one first rest)

pub find_Or : (s : Tables) (m : Extent) (f g h : Findings) (x y : Expr) (a : Box Expr Global) (l : Vec Operand Global) (t : TokenNo) (o p : Outcome) (ts : List Operand) → x ≡ e.Or a l → y ≡ a.value → ts ≡ l.items
    → Finds s m f g o y → FirstIs t y → FindsTail s m g h p t o (map (with_operator operator.Or) (map operand_syntax ts)) → Finds s m f h p x
find_Or s m f g h x y a l t o p ts is ey et one first rest =
    found_as s m f h p x (chain (syntax_of y) (map (with_operator operator.Or) (map operand_syntax ts)))
    (ap syntax_of is ∙ v.syntax-Or a l ∙ ap (λ z. chain (syntax_of z) (map (with_operator operator.Or) (map operand_syntax l.items))) (sym ey) ∙ ap (λ z. chain (syntax_of y) (map (with_operator operator.Or) (map operand_syntax z))) (sym et))
    (found_chain s m f g h y t o p (map (with_operator operator.Or) (map operand_syntax ts)) one first rest)

pub find_And : (s : Tables) (m : Extent) (f g h : Findings) (x y : Expr) (a : Box Expr Global) (l : Vec Operand Global) (t : TokenNo) (o p : Outcome) (ts : List Operand) → x ≡ e.And a l → y ≡ a.value → ts ≡ l.items
    → Finds s m f g o y → FirstIs t y → FindsTail s m g h p t o (map (with_operator operator.And) (map operand_syntax ts)) → Finds s m f h p x
find_And s m f g h x y a l t o p ts is ey et one first rest =
    found_as s m f h p x (chain (syntax_of y) (map (with_operator operator.And) (map operand_syntax ts)))
    (ap syntax_of is ∙ v.syntax-And a l ∙ ap (λ z. chain (syntax_of z) (map (with_operator operator.And) (map operand_syntax l.items))) (sym ey) ∙ ap (λ z. chain (syntax_of y) (map (with_operator operator.And) (map operand_syntax z))) (sym et))
    (found_chain s m f g h y t o p (map (with_operator operator.And) (map operand_syntax ts)) one first rest)

pub find_Concatenation : (s : Tables) (m : Extent) (f g h : Findings) (x y : Expr) (a : Box Expr Global) (l : Vec Operand Global) (t : TokenNo) (o p : Outcome) (ts : List Operand) → x ≡ e.Concatenation a l → y ≡ a.value → ts ≡ l.items
    → Finds s m f g o y → FirstIs t y → FindsTail s m g h p t o (map (with_operator operator.Concatenate) (map operand_syntax ts)) → Finds s m f h p x
find_Concatenation s m f g h x y a l t o p ts is ey et one first rest =
    found_as s m f h p x (chain (syntax_of y) (map (with_operator operator.Concatenate) (map operand_syntax ts)))
    (ap syntax_of is ∙ v.syntax-Concatenation a l ∙ ap (λ z. chain (syntax_of z) (map (with_operator operator.Concatenate) (map operand_syntax l.items))) (sym ey) ∙ ap (λ z. chain (syntax_of y) (map (with_operator operator.Concatenate) (map operand_syntax z))) (sym et))
    (found_chain s m f g h y t o p (map (with_operator operator.Concatenate) (map operand_syntax ts)) one first rest)

pub find_Power : (s : Tables) (m : Extent) (f g h : Findings) (x y : Expr) (a : Box Expr Global) (l : Vec Operand Global) (t : TokenNo) (o p : Outcome) (ts : List Operand) → x ≡ e.Power a l → y ≡ a.value → ts ≡ l.items
    → Finds s m f g o y → FirstIs t y → FindsTail s m g h p t o (map (with_operator operator.Power) (map operand_syntax ts)) → Finds s m f h p x
find_Power s m f g h x y a l t o p ts is ey et one first rest =
    found_as s m f h p x (chain (syntax_of y) (map (with_operator operator.Power) (map operand_syntax ts)))
    (ap syntax_of is ∙ v.syntax-Power a l ∙ ap (λ z. chain (syntax_of z) (map (with_operator operator.Power) (map operand_syntax l.items))) (sym ey) ∙ ap (λ z. chain (syntax_of y) (map (with_operator operator.Power) (map operand_syntax z))) (sym et))
    (found_chain s m f g h y t o p (map (with_operator operator.Power) (map operand_syntax ts)) one first rest)

-- One turn of a loop over further operands.
pub owes_all : (s : Tables) (m : Extent) (f : Findings) (o : Outcome) (t : TokenNo) (ts : List Tail) → Owes s m f o t ts f o ts
unfolding Owes
owes_all s m f o t ts g p h = h

pub owes_next : (s : Tables) (m : Extent) (f g a b c : Findings) (o p q : Outcome) (t : TokenNo) (ts rest us : List Tail) (u : Tail) (x y : Side) → Owes s m f o t ts g p rest → rest ≡ u ∷ us
    → Judges g a x (side s t.0 p) → Judges a b y (judge_side s m u.operand) → Judges b c q (two u.operator u.token x y) → Owes s m f o t ts c q us
unfolding Owes FindsTail
owes_next s m f g a b c o p q t ts rest us u x y owed is one' two' last h z later =
    owed h z (judges_as
    (judges_next (side s t.0 p) (λ x. next (judge_side s m u.operand) (λ y. next (two u.operator u.token x y) (λ o. chained s m t.0 o us))) one'
    (judges_next (judge_side s m u.operand) (λ y. next (two u.operator u.token x y) (λ o. chained s m t.0 o us)) two'
    (judges_next (two u.operator u.token x y) (λ o. chained s m t.0 o us) last later)))
    (ap (λ r. chained s m t.0 p r) (sym is)))

pub owes_none : (s : Tables) (m : Extent) (f g : Findings) (o p : Outcome) (t : TokenNo) (ts rest : List Tail) → Owes s m f o t ts g p rest → rest ≡ [] → FindsTail s m f g p t o ts
unfolding Owes FindsTail
owes_none s m f g o p t ts rest owed is = owed g p (judges_as (judges_gives g p) (ap (λ r. chained s m t.0 p r) (sym is)))

pub from_drop : {A : Type 0} (xs : List A) (i : ℕ) (x : A) → i < length xs → x ≡ slice_index_or xs i x → drop i xs ≡ x ∷ drop (i + 1) xs
from_drop xs i x le is = drop_more xs i x le ∙ ap (λ y. y ∷ drop (i + 1) xs) (sym is)

pub owes_actuals : (s : Tables) (m : Extent) (d : Option Denotation) (f : Findings) (a : Actuals) (es : List Expr) → OwesActuals s m d f a es f a es
unfolding OwesActuals
owes_actuals s m d f a es h c x = x

pub owes_more : (s : Tables) (m : Extent) (d : Option Denotation) (f g h k : Findings) (a b c : Actuals) (es rest us : List Expr) (u : Expr) (t : TokenNo) (o : Outcome) → OwesActuals s m d f a es g b rest → rest ≡ u ∷ us
    → Finds s m g h o u → FirstIs t u → Judges h k c (more s d b t.0 o) → OwesActuals s m d f a es k c us
unfolding OwesActuals FindsActuals Finds FirstIs judge
owes_more s m d f g h k a b c es rest us u t o owed is one' first same l z later =
    owed l z (judges_as
    (judges_next (next (judge s m (syntax_of u)) (more s d b (first_of (syntax_of u)))) (λ y. actuals s m d y (expressions (map syntax_of us)))
    (judges_next (judge s m (syntax_of u)) (more s d b (first_of (syntax_of u))) one' (judges_as same (ap (λ i. more s d b i o) first))) later)
    (ap (λ r. actuals s m d b (expressions (map syntax_of r))) (sym is)))

pub owes_no_more : (s : Tables) (m : Extent) (d : Option Denotation) (f g : Findings) (a b : Actuals) (es rest : List Expr) → OwesActuals s m d f a es g b rest → rest ≡ [] → FindsActuals s m f g d a b es
unfolding OwesActuals FindsActuals judge
owes_no_more s m d f g a b es rest owed is = owed g b (judges_as (judges_gives g b) (ap (λ r. actuals s m d b (expressions (map syntax_of r))) (sym is)))

pub owes_selected : (s : Tables) (m : Extent) (f : Findings) (o : Outcome) (t : TokenNo) (zs : List Selection) → OwesSelected s m f o t zs f o zs
unfolding OwesSelected
owes_selected s m f o t zs h p x = x

pub owes_taken : (s : Tables) (m : Extent) (f g h : Findings) (o p q : Outcome) (t : TokenNo) (zs rest us : List Selection) (u : Selector) → OwesSelected s m f o t zs g p rest → rest ≡ selector_syntax u ∷ us
    → FindsTaken s m g h q t p u → OwesSelected s m f o t zs h q us
unfolding OwesSelected FindsSelected FindsTaken
owes_taken s m f g h o p q t zs rest us u owed is one' k z later =
    owed k z (judges_as (judges_next (taken s m t.0 p (selector_syntax u)) (λ y. selections s m t.0 y us) one' later) (ap (λ r. selections s m t.0 p r) (sym is)))

pub owes_no_selected : (s : Tables) (m : Extent) (f g : Findings) (o p : Outcome) (t : TokenNo) (zs rest : List Selection) → OwesSelected s m f o t zs g p rest → rest ≡ [] → FindsSelected s m f g p t o zs
unfolding OwesSelected FindsSelected
owes_no_selected s m f g o p t zs rest owed is = owed g p (judges_as (judges_gives g p) (ap (λ r. selections s m t.0 p r) (sym is)))

pub find_all : (s : Tables) (m : Extent) (f g h k : Findings) (n : Identifier) (es : List Expr) (d : Occurrence) (a : Actuals) (o : Outcome)
    → Judges f g d (bound s m n) → FindsActuals s m g h d.denotes no_actuals a es → Judges h k o (used s n.token.0 n d a) → FindsNamed s m f k o n es
unfolding FindsNamed FindsActuals
find_all s m f g h k n es d a o one' all last =
    judges_next (bound s m n) (λ d. next (actuals s m d.denotes no_actuals (expressions (map syntax_of es))) (used s n.token.0 n d)) one'
    (judges_next (actuals s m d.denotes no_actuals (expressions (map syntax_of es))) (used s n.token.0 n d) all last)

-- one more `not`, in front of the others
pub no_nots : (s : Tables) (m : Extent) (f g : Findings) (o : Outcome) (y : Expr) (is : List TokenNo) → is ≡ [] → Finds s m f g o y → FindsNot s m f g o is y
unfolding Finds FindsNot
no_nots s m f g o y is e h = judges_as h (ap (λ z. judge s m (negated z (syntax_of y))) (sym e))

pub one_not : (s : Tables) (m : Extent) (f g h k : Findings) (o p : Outcome) (y : Expr) (is js : List TokenNo) (i t : TokenNo) (x : Side) → js ≡ i ∷ is → FindsNot s m f g o is y → t.0 ≡ first_of (negated is (syntax_of y)) → Judges g h x (side s t.0 o)
    → Judges h k p (one type.Boolean i.0 x) → FindsNot s m f k p js y
unfolding FindsNot judge
one_not s m f g h k o p y is js i t x e so first one' last =
    judges_as
    (judges_next (judge_side s m (negated is (syntax_of y))) (one type.Boolean i.0)
    (judges_as (judges_next (judge s m (negated is (syntax_of y))) (side s t.0) so one') (ap (λ z. next (judge s m (negated is (syntax_of y))) (side s z)) first)) last)
    (ap (λ z. judge s m (negated z (syntax_of y))) (sym e))

pub first_here : (y : Expr) (t : TokenNo) (is : List TokenNo) → is ≡ [] → FirstIs t y → t.0 ≡ first_of (negated is (syntax_of y))
unfolding FirstIs
first_here y t is e h = h ∙ ap (λ z. first_of (negated z (syntax_of y))) (sym e)

pub from_back : {A : Type 0} (xs : List A) (i : ℕ) (d : A) → i < length xs → drop (length xs - (i + 1)) xs ≡ slice_index_or xs (length xs - 1 - i) d ∷ drop (length xs - i) xs
from_back xs i d le =
    let k = length xs - (i + 1) in
    let one : k + 1 ≡ length xs - i = omega arith in
    let two : k ≡ length xs - 1 - i = omega arith in
    drop_more xs k d (omega arith) ∙ ap (λ n. slice_index_or xs k d ∷ drop n xs) one ∙ ap (λ n. slice_index_or xs n d ∷ drop (length xs - i) xs) two

pub ruleset walks = (find_side, find_if, find_related, find_not, find_sum, find_signed, find_product, find_named, find_parentheses, find_member, find_postfix, find_dot, find_qua, find_this, find_new, find_Integer, find_Character, find_Text, find_True, find_False, find_NoObject, find_Notext, find_OrElse, find_AndThen, find_Eqv, find_Imp, find_Or, find_And, find_Concatenation, find_Power, find_all)
