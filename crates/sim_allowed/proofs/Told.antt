-- What the last round tells of a token is told once.
use Rattle.std.proofs.Common.{◌≡◌, ◌≤◌, ◌+◌, ℕ, List, [], ◌∷◌, ◌++◌, Option, arith}
use Rattle.sim_scope.specs.declared.outcome.Actuals.{Actuals}
use Rattle.sim_scope.specs.declared.outcome.Extent.{Extent}
use Rattle.sim_scope.specs.declared.scopes.Denotation.{Denotation}
use Rattle.sim_scope.specs.declared.types.SimType.TheVariants as t
use Rattle.sim_scope.specs.Actuals.{more, no_actuals}
use Rattle.sim_scope.specs.Calls.{attribute, bound, used}
use Rattle.sim_scope.specs.Expressions.{actuals, judge, judge_side}
use Rattle.sim_scope.specs.Found.{Event}
use Rattle.sim_scope.specs.Judged.{gives, next}
use Rattle.sim_scope.specs.Operators.{literal_type}
use Rattle.sim_scope.specs.Outcomes.{has, in_parentheses, one, side, three, two}
use Rattle.sim_scope.specs.References.{class_named, member, new_object, qualified, this_object}
use Rattle.sim_scope.specs.Tables.{Tables}
use Rattle.sim_tree.specs.declared.expr.Identifier.{Identifier}
use Rattle.sim_tree.specs.Named.{all_named, named}
use Rattle.sim_tree.specs.Syntax.{Expression, Expressions, NoMore, Then, first_of}
use Rattle.sim_tree.specs.Syntax as syntax
use Rattle.sim_allowed.proofs.Counts.{About, Binding, Kind, Meaning, Place, Silent, Typing, Use, attribute_uses, bound_binds, class_binds, finds_at, has_types, here, in_parentheses_silent, member_types, more_silent, new_types, one_types, qualified_types, side_silent, silent_none, this_means, three_types, told, told_both, two_types, types_at, used_types, uses_at}

-- how often a number is in a list
abbrev pub occurs : ℕ → List ℕ → ℕ
occurs t [] = 0
occurs t (i ∷ is) = here t i + occurs t is

-- What events tell, and what else is in a list, is in another list.
unfoldable pub Covers : List Event → List ℕ → List ℕ → Type 0
Covers es l m = (k : About) (t : ℕ) → told k t es + occurs t l ≤ occurs t m

pub any_of : (k : About) (t i : ℕ) → (uses_at k t i + finds_at k t i) + types_at k t i ≡ here t i
any_of Use t i = omega arith
any_of Place t i = omega arith
any_of Kind t i = omega arith

types_below : (k : About) (t i : ℕ) → types_at k t i ≤ here t i
types_below k t i = let e = any_of k t i in omega (arith, e)

covers_both : (xs ys : List Event) (l m n : List ℕ) → Covers xs m n → Covers ys l m → Covers (xs ++ ys) l n
unfolding Covers
covers_both xs ys l m n h j k t = let a = told_both k t xs ys in let b = h k t in let c = j k t in omega (arith, a, b, c)

covers_silent : (xs : List Event) (l : List ℕ) → Silent xs → Covers xs l l
unfolding Covers Silent
covers_silent xs l h k t = let a = h k t in omega (arith, a)

covers_typing : (i : ℕ) (xs : List Event) (l : List ℕ) → Typing i xs → Covers xs l (i ∷ l)
unfolding Covers Typing
covers_typing i xs l h k t = let a = h k t in let b = types_below k t i in omega (arith, a, b)

-- what is in a list is in a longer one
covers_more : (xs : List Event) (i : ℕ) (l m : List ℕ) → Covers xs l m → Covers xs l (i ∷ m)
unfolding Covers
covers_more xs i l m h k t = let a = h k t in omega (arith, a)

-- a number in front of the first list
covers_front : (xs : List Event) (i : ℕ) (l m : List ℕ) → Covers xs (i ∷ l) m → Covers xs l m
unfolding Covers
covers_front xs i l m h k t = let a = h k t in omega (arith, a)

-- the type at a token that stands in the middle
covers_middle : (i : ℕ) (xs ys zs : List Event) (l m n : List ℕ) → Covers xs (i ∷ m) n → Covers ys l m → Typing i zs → Covers (xs ++ (ys ++ zs)) l n
unfolding Covers Typing
covers_middle i xs ys zs l m n h j typing k t =
    let a = told_both k t xs (ys ++ zs) in let b = told_both k t ys zs in let c = h k t in let d = j k t in let e = typing k t in let f = types_below k t i in
    omega (arith, a, b, c, d, e, f)

-- the type at a token in front
covers_ahead : (i : ℕ) (xs ys : List Event) (l m : List ℕ) → Covers xs l m → Typing i ys → Covers (xs ++ ys) l (i ∷ m)
unfolding Covers Typing
covers_ahead i xs ys l m h typing k t = let a = told_both k t xs ys in let b = h k t in let c = typing k t in let d = types_below k t i in omega (arith, a, b, c, d)

-- a use and a type at one token in front
covers_named : (i : ℕ) (us xs ts : List Event) (l m : List ℕ) → Binding i us → Covers xs l m → Typing i ts → Covers (us ++ (xs ++ ts)) l (i ∷ m)
unfolding Covers Binding Typing
covers_named i us xs ts l m using h typing k t =
    let a = told_both k t us (xs ++ ts) in let b = told_both k t xs ts in let c = using k t in let d = h k t in let e = typing k t in let f = any_of k t i in
    omega (arith, a, b, c, d, e, f)

-- behind a dot: the object, the use of the attribute, the actuals, the type at the dot
covers_dot : (i j : ℕ) (xs us ys ts : List Event) (l m n : List ℕ) → Covers xs (i ∷ j ∷ m) n → Binding j us → Covers ys l m → Typing i ts → Covers ((xs ++ us) ++ (ys ++ ts)) l n
unfolding Covers Binding Typing
covers_dot i j xs us ys ts l m n h using g typing k t =
    let a = told_both k t (xs ++ us) (ys ++ ts) in let b = told_both k t xs us in let c = told_both k t ys ts in
    let d = h k t in let e = using k t in let f = g k t in let o = typing k t in let p = types_below k t i in let q = any_of k t j in
    omega (arith, a, b, c, d, e, f, o, p, q)

-- behind an object: the use of a class, the type at the word in front of it
covers_cast : (i j : ℕ) (xs us ts : List Event) (l n : List ℕ) → Covers xs (i ∷ j ∷ l) n → Binding j us → Typing i ts → Covers (xs ++ (us ++ ts)) l n
unfolding Covers Binding Typing
covers_cast i j xs us ts l n h using typing k t =
    let a = told_both k t xs (us ++ ts) in let b = told_both k t us ts in
    let d = h k t in let e = using k t in let o = typing k t in let p = types_below k t i in let q = any_of k t j in
    omega (arith, a, b, d, e, o, p, q)

-- the use of a class; what is told of the word in front of it
covers_this : (i j : ℕ) (us ts : List Event) (l : List ℕ) → Binding j us → Meaning i ts → Covers (us ++ ts) l (i ∷ j ∷ l)
unfolding Covers Binding Meaning
covers_this i j us ts l using meaning k t =
    let a = told_both k t us ts in let e = using k t in let o = meaning k t in let p = any_of k t i in let q = any_of k t j in omega (arith, a, e, o, p, q)

-- the use of a class, the actuals, the type at the word in front
covers_new : (i j : ℕ) (us xs ts : List Event) (l m : List ℕ) → Binding j us → Covers xs l m → Typing i ts → Covers (us ++ (xs ++ ts)) l (i ∷ j ∷ m)
unfolding Covers Binding Typing
covers_new i j us xs ts l m using h typing k t =
    let a = told_both k t us (xs ++ ts) in let b = told_both k t xs ts in let c = h k t in
    let e = using k t in let o = typing k t in let p = types_below k t i in let q = any_of k t j in omega (arith, a, b, c, e, o, p, q)

-- a condition and two arms
if_covers : (i : ℕ) (xs ys zs ts : List Event) (l m n o : List ℕ) → Covers xs n o → Covers ys m n → Covers zs l m → Typing i ts → Covers (xs ++ (ys ++ (zs ++ ts))) l (i ∷ o)
unfolding Covers Typing
if_covers i xs ys zs ts l m n o f g h typing k t =
    let a = told_both k t xs (ys ++ (zs ++ ts)) in let b = told_both k t ys (zs ++ ts) in let c = told_both k t zs ts in
    let d = f k t in let e = g k t in let p = h k t in let q = typing k t in let r = types_below k t i in
    omega (arith, a, b, c, d, e, p, q, r)

module _ (s : Tables) (x : Extent) where
  abbrev Tells : Expression → Type 0
  Tells e = (l : List ℕ) → Covers (judge s x e).events l (named e l)

  abbrev TellsAll : Expressions → Type 0
  TellsAll es = (d : Option Denotation) (a : Actuals) (l : List ℕ) → Covers (actuals s x d a es).events l (all_named es l)

  pub side_tells : (e : Expression) → Tells e → (l : List ℕ) → Covers (judge_side s x e).events l (named e l)
  unfolding next
  side_tells e h l = covers_both (judge s x e).events (side s (first_of e) (judge s x e).value).events l l (named e l) (h l) (covers_silent (side s (first_of e) (judge s x e).value).events l (side_silent s (first_of e) (judge s x e).value))

  binary_tells : (o : _) (i : ℕ) (a b : Expression) → Tells a → Tells b → Tells (syntax.Binary o i a b)
  unfolding judge next
  binary_tells o i a b h j l =
      let y = (judge_side s x a).value in let z = (judge_side s x b).value in
      covers_middle i (judge_side s x a).events (judge_side s x b).events (two o i y z).events l (named b l) (named a (i ∷ named b l)) (side_tells a h (i ∷ named b l)) (side_tells b j l) (two_types o i y z)

  if_tells : (i : ℕ) (c a b : Expression) → Tells c → Tells a → Tells b → Tells (syntax.If i c a b)
  unfolding judge next
  if_tells i c a b h j g l =
      let w = (judge_side s x c).value in let y = (judge_side s x a).value in let z = (judge_side s x b).value in
      let last = three_types s i w y z in
      if_covers i (judge_side s x c).events (judge_side s x a).events (judge_side s x b).events (three s i w y z).events l (named b l) (named a (named b l)) (named c (named a (named b l)))
      (side_tells c h (named a (named b l))) (side_tells a j (named b l)) (side_tells b g l) last

  not_tells : (i : ℕ) (a : Expression) → Tells a → Tells (syntax.Not i a)
  unfolding judge next
  not_tells i a h l = let y = (judge_side s x a).value in covers_ahead i (judge_side s x a).events (one t.Boolean i y).events l (named a l) (side_tells a h l) (one_types t.Boolean i y)

  signed_tells : (g : _) (i : ℕ) (a : Expression) → Tells a → Tells (syntax.Signed g i a)
  unfolding judge next
  signed_tells g i a h l = let y = (judge_side s x a).value in covers_ahead i (judge_side s x a).events (one t.Integer i y).events l (named a l) (side_tells a h l) (one_types t.Integer i y)

  parentheses_tell : (i : ℕ) (a : Expression) → Tells a → Tells (syntax.Parentheses i a)
  unfolding judge next
  parentheses_tell i a h l =
      let o = (judge s x a).value in
      covers_more ((judge s x a).events ++ (in_parentheses s (first_of a) o).events) i l (named a l)
      (covers_both (judge s x a).events (in_parentheses s (first_of a) o).events l l (named a l) (h l) (covers_silent (in_parentheses s (first_of a) o).events l (in_parentheses_silent s (first_of a) o)))

  named_tells : (name : Identifier) (es : Expressions) → TellsAll es → Tells (syntax.Named name es)
  unfolding judge next
  named_tells name es h l =
      let d = (bound s x name).value in let a = (actuals s x d.denotes no_actuals es).value in
      covers_named name.token.0 (bound s x name).events (actuals s x d.denotes no_actuals es).events (used s name.token.0 name d a).events l (all_named es l) (bound_binds s x name) (h d.denotes no_actuals l) (used_types s name.token.0 name d a)

  dot_tells : (i : ℕ) (b : Expression) (name : Identifier) (es : Expressions) → Tells b → TellsAll es → Tells (syntax.Dot i b name es)
  unfolding judge next
  dot_tells i b name es g h l =
      let o = (judge s x b).value in let d = (attribute s x name (first_of b) o).value in let a = (actuals s x d.denotes no_actuals es).value in
      covers_dot i name.token.0 (judge s x b).events (attribute s x name (first_of b) o).events (actuals s x d.denotes no_actuals es).events (used s i name d a).events l (all_named es l) (named b (i ∷ name.token.0 ∷ all_named es l))
      (g (i ∷ name.token.0 ∷ all_named es l)) (attribute_uses s x name (first_of b) o) (h d.denotes no_actuals l) (used_types s i name d a)

  member_tells : (m : _) (i : ℕ) (b : Expression) (class : Identifier) → Tells b → Tells (syntax.Member m i b class)
  unfolding judge next
  member_tells m i b class g l =
      let y = (judge_side s x b).value in let o = (class_named s x class).value in
      covers_cast i class.token.0 (judge_side s x b).events (class_named s x class).events (member s i y class o).events l (named b (i ∷ class.token.0 ∷ l)) (side_tells b g (i ∷ class.token.0 ∷ l)) (class_binds s x class) (member_types s i y class o)

  qua_tells : (i : ℕ) (b : Expression) (class : Identifier) → Tells b → Tells (syntax.Qua i b class)
  unfolding judge next
  qua_tells i b class g l =
      let y = (judge_side s x b).value in let o = (class_named s x class).value in
      covers_cast i class.token.0 (judge_side s x b).events (class_named s x class).events (qualified s i y class o).events l (named b (i ∷ class.token.0 ∷ l)) (side_tells b g (i ∷ class.token.0 ∷ l)) (class_binds s x class) (qualified_types s i y class o)

  this_tells : (i : ℕ) (class : Identifier) → Tells (syntax.This i class)
  unfolding judge next
  this_tells i class l =
      let o = (class_named s x class).value in
      covers_this i class.token.0 (class_named s x class).events (this_object s x i class o).events l (class_binds s x class) (this_means s x i class o)

  new_tells : (i : ℕ) (class : Identifier) (es : Expressions) → TellsAll es → Tells (syntax.New i class es)
  unfolding judge next
  new_tells i class es h l =
      let o = (class_named s x class).value in let a = (actuals s x o.denotes no_actuals es).value in
      covers_new i class.token.0 (class_named s x class).events (actuals s x o.denotes no_actuals es).events (new_object s i class o a).events l (all_named es l) (class_binds s x class) (h o.denotes no_actuals l) (new_types s i class o a)

  all_tell : (e : Expression) (es : Expressions) → Tells e → TellsAll es → TellsAll (Then e es)
  unfolding actuals next
  all_tell e es g h d a l =
      let o = (judge s x e).value in let b = (more s d a (first_of e) o).value in
      covers_both ((judge s x e).events ++ (more s d a (first_of e) o).events) (actuals s x d b es).events l (all_named es l) (named e (all_named es l))
      (covers_both (judge s x e).events (more s d a (first_of e) o).events (all_named es l) (all_named es l) (named e (all_named es l)) (g (all_named es l)) (covers_silent (more s d a (first_of e) o).events (all_named es l) (more_silent s (first_of e) d a o))) (h d b l)

  mutual
    unfolding judge actuals gives

    pub expression_tells : (e : Expression) → Tells e
    expression_tells (syntax.If i c a b) = if_tells i c a b (expression_tells c) (expression_tells a) (expression_tells b)
    expression_tells (syntax.Binary o i a b) = binary_tells o i a b (expression_tells a) (expression_tells b)
    expression_tells (syntax.Not i a) = not_tells i a (expression_tells a)
    expression_tells (syntax.Signed g i a) = signed_tells g i a (expression_tells a)
    expression_tells (syntax.Dot i a name es) = dot_tells i a name es (expression_tells a) (expressions_tell es)
    expression_tells (syntax.Constant literal i) = λ l. covers_typing i (has i (literal_type literal)).events l (has_types i (literal_type literal))
    expression_tells (syntax.Named name es) = named_tells name es (expressions_tell es)
    expression_tells (syntax.Parentheses i a) = parentheses_tell i a (expression_tells a)
    expression_tells (syntax.Member m i a class) = member_tells m i a class (expression_tells a)
    expression_tells (syntax.Qua i a class) = qua_tells i a class (expression_tells a)
    expression_tells (syntax.This i class) = this_tells i class
    expression_tells (syntax.New i class es) = new_tells i class es (expressions_tell es)

    pub expressions_tell : (es : Expressions) → TellsAll es
    expressions_tell NoMore = λ d a l. covers_silent [] l silent_none
    expressions_tell (Then e es) = all_tell e es (expression_tells e) (expressions_tell es)
