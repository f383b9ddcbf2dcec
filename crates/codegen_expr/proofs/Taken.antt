-- What is taken of operands, one thing after the other.
use Rattle.std.proofs.Common.{◌≡◌, ◌≢◌, ◌<◌, ◌≤◌, ◌+◌, ◌-◌, ℕ, zero, suc, Bool, true, false, List, [], ◌∷◌, length, map, drop, take, Option, Some, None, refl, sym, ap, ◌∙◌, subst, arith}
use Rattle.std.specs.Prelude.{◌&&◌, ◌||◌, slice_index_or}
use Rattle.std.specs.declared.alloc.Global.{Global}
use Rattle.std.specs.declared.vec.Vec.{Vec}
use Rattle.sim_base.specs.declared.numbering.DeclNo.{DeclNo}
use Rattle.sim_base.specs.declared.numbering.TokenNo.{TokenNo}
use Rattle.sim_scope.specs.declared.bound.Bound.{Bound}
use Rattle.sim_scope.specs.declared.scopes.Denotation.{Denotation}
use Rattle.sim_scope.specs.declared.scopes.Denotation.TheVariants as denotation
use Rattle.sim_scope.specs.declared.standard.StandardName.{StandardName}
use Rattle.sim_scope.specs.declared.standard.StandardName.TheVariants as found
use Rattle.sim_scope.specs.declared.types.Entry.{Entry}
use Rattle.sim_scope.specs.declared.types.Entry.TheVariants as entry
use Rattle.sim_scope.specs.declared.types.FormalKind.{FormalKind}
use Rattle.sim_scope.specs.declared.types.FormalKind.TheVariants as shape
use Rattle.sim_scope.specs.Scopes.{entry_of}
use Rattle.sim_scope.specs.Source.{Source, denoted, line_at, source_of}
use Rattle.sim_tree.specs.declared.expr.Expr.{Expr}
use Rattle.sim_tree.specs.declared.expr.Identifier.{Identifier}
use Rattle.sim_tree.specs.declared.expr.Selector.{Selector}
use Rattle.sim_tree.specs.declared.expr.Selector.TheVariants as u
use Rattle.sim_tree.specs.Syntax.{Binary, Constant, Dot, Expression, Expressions, If, Member, Named, New, NoMore, Not, Parentheses, Qua, Signed, Then, This, expressions}
use Rattle.sim_tree.specs.SyntaxOf.{Cast, Selection, Take, selected, selector_syntax, syntax_of}
use Rattle.sim_values.specs.declared.standard.Standard.{Standard as Row}
use Rattle.sim_code.specs.Code.{CodeOf}
use Rattle.sim_meaning.specs.Attributes.{attribute_denoted, connection_at, own_attribute}
use Rattle.sim_meaning.specs.Closing.{is_attribute, is_attribute_denoted, is_image_behind, is_image_denoted, is_variable, stream_denoted, stream_of}
use Rattle.sim_meaning.specs.Names.{procedure_named, stream_named}
use Rattle.codegen_expr.specs.declared.operators.Object.{Object}
use Rattle.codegen_expr.specs.declared.operators.Object.TheVariants as object
use Rattle.codegen_expr.specs.declared.spot.Spot.{Spot}
use Rattle.codegen_expr.specs.Built.{ActualsBuilt, AreBuilt, AttributeBuilt, ConnectedNameBuilt, DotBuilt, IsBuilt, NameBuilt, NamedBuilt, ObjectBuilt, OfObjectBuilt, OwnBuilt, ParameterOfBuilt, PlaceBehindBuilt, PlaceBuilt, StandardBuilt, StreamBuilt, ThroughBuilt}
use Rattle.codegen_expr.specs.CodeExpr.{ActualsAt, AttributeAt, DotAt, ExprAt, ExprsAt, ObjectAt, PlaceAt, PlaceBehindAt, StandardIs, StreamPlaceAt, gives, operands}
use Rattle.codegen_expr.specs.Drafts.{DraftOf, Emits, given_up}
use Rattle.codegen_expr.specs.Emit.{AloneAt, AloneBuilt, Puts, PutsBefore, PutsPlace, Writes, WritesBefore, WritesBehind, WritesDot, WritesEnd, WritesImage, WritesLast, WritesPlace, WritesStandard, WritesStart, WritesStep, WritesSteps, WritesTaken, WritesTakenPlace, image_placed, lies, moves_denoted, moves_named, moves_next, moves_selection, takes_attribute, takes_image}
use Rattle.codegen_expr.specs.EmitObjects.{OfValue, PutsBase, WritesOf, WritesPlaceBehind, WritesQua}
use Rattle.codegen_expr.specs.Sites.{Site}
use Rattle.codegen_expr.proofs.Attributes.{selector-Dot, selector-Qua}
use Rattle.codegen_expr.proofs.Pieces.{emits_as, emits_nothing, emits_then}

abbrev Part : Type 1
Part = CodeOf → Site → ℕ → ℕ → Type 0

dot_stream : (s : Source) (j : ℕ) (e : Expression) (k : Identifier) (es : Expressions) → stream_of s (Dot j e k es) ≡ None
unfolding stream_of
dot_stream s j e k es = refl

qua_stream : (s : Source) (j : ℕ) (e : Expression) (k : Identifier) → stream_of s (Qua j e k) ≡ None
unfolding stream_of
qua_stream s j e k = refl

dot_variable : (s : Source) (j : ℕ) (e : Expression) (k : Identifier) (es : Expressions) → is_variable s (Dot j e k es) ≡ is_image_behind (stream_of s e) (denoted s k.token.0)
unfolding is_variable
dot_variable s j e k es = refl

qua_variable : (s : Source) (j : ℕ) (e : Expression) (k : Identifier) → is_variable s (Qua j e k) ≡ false
unfolding is_variable
qua_variable s j e k = refl

dot_attribute : (s : Source) (j : ℕ) (e : Expression) (k : Identifier) (es : Expressions) → is_attribute s (Dot j e k es) ≡ is_attribute_denoted s (denoted s k.token.0) es
unfolding is_attribute
dot_attribute s j e k es = refl

qua_attribute : (s : Source) (j : ℕ) (e : Expression) (k : Identifier) → is_attribute s (Qua j e k) ≡ false
unfolding is_attribute
qua_attribute s j e k = refl

-- of two tests
neither_of : (m p q : Bool) → (m && p) ≡ false → (m && q) ≡ false → (m && (p || q)) ≡ false
neither_of true true q h g = absurd (cc)
neither_of true false q h g = g
neither_of false p q h g = refl

first_of : (m p q : Bool) → m ≡ true → p ≡ true → (m && (p || q)) ≡ true
first_of true true q h g = refl
first_of true false q h g = absurd (cc)
first_of false p q h g = absurd (cc)

second_of : (m p q : Bool) → (m && q) ≡ true → (m && (p || q)) ≡ true
second_of true true q g = refl
second_of true false q g = g
second_of false p q g = absurd (cc)

not_both : (p : Bool) → (p && false) ≡ false
not_both true = refl
not_both false = refl

module _ (b : Bound) (w : Spot) (n : ℕ) where
  -- ---- the operand

  pub start_stream : (a : DraftOf) (moves : Bool) (x : Expr) (o : Option ℕ) (img : ℕ) → o ≡ stream_of (source_of b) (syntax_of x) → o ≡ Some img → WritesStart b w n a a moves (object.Stream img) x
  unfolding WritesStart
  start_stream a moves x o img eo some = record { puts = (refl, sym eo ∙ some); placed = tt }

  pub start_place : (a c : DraftOf) (moves : Bool) (x : Expr) (o : Option ℕ) (r : Bool) → o ≡ stream_of (source_of b) (syntax_of x) → o ≡ None → r ≡ (moves && lies (source_of b) (syntax_of x)) → r ≡ true → WritesPlace b w n a c 0 x → WritesStart b w n a c moves object.Place x
  unfolding WritesStart WritesPlace
  start_place a c moves x o r eo none er yes' f = record { puts = (f, sym eo ∙ none); placed = sym er ∙ yes' }

  pub start_value : (a c : DraftOf) (moves : Bool) (x : Expr) (o : Option ℕ) (r : Bool) → o ≡ stream_of (source_of b) (syntax_of x) → o ≡ None → r ≡ (moves && lies (source_of b) (syntax_of x)) → r ≡ false → Writes b w n a c x → WritesStart b w n a c moves object.Value x
  unfolding WritesStart Writes
  start_value a c moves x o r eo none er no' f = record { puts = (f, sym eo ∙ none); placed = sym er ∙ no' }

  -- ---- an attribute behind its object

  gives_up : (P Q : Type 0) (A B : Part) (a c d : DraftOf) → Emits w a c P A → (Q → ⊥) → d ≡ given_up c → Emits w a d Q B
  gives_up P Q A B a c d f never is =
      emits_as w (P × ⊥) Q _ _ a d (λ q. absurd (never q)) (λ q. absurd q.1) (λ final site p q _ _ r. absurd r.2)
      (emits_then w P ⊥ A (λ final site p q. ⊥) a c d f (emits_nothing w c d ⊥ (λ final site p q. ⊥) (λ z. z) is))

  pub before_gives_up : (Q : Type 0) (B : Part) (start a c : DraftOf) (moves : Bool) (o : Object) (e : Expression) → PutsBefore (source_of b) w n start a moves o e → (Q → ⊥) → c ≡ given_up a → Emits w start c Q B
  unfolding PutsPlace Puts
  before_gives_up Q B start a c moves (object.Stream img) e f never ec = let same : a ≡ start = f.puts.0 in emits_nothing w start c Q B never (ec ∙ ap given_up same)
  before_gives_up Q B start a c moves object.Place e f never ec = gives_up _ Q _ B start a c f.puts.0 never ec
  before_gives_up Q B start a c moves object.Value e f never ec = gives_up _ Q _ B start a c f.puts.0 never ec

  abbrev Dotted : (start c : DraftOf) → Identifier → List Expr → Expression → Option Denotation → Option ℕ → Type 0
  Dotted start c x ys e d o =
      Emits w start c (DotBuilt (source_of b) d o (lies (source_of b) e) (expressions (map syntax_of ys)) (PlaceBuilt (source_of b) w.text e) (IsBuilt (source_of b) w.text e) (AreBuilt (source_of b) w.text (expressions (map syntax_of ys))) (λ formals. ActualsBuilt (source_of b) w.text (expressions (map syntax_of ys)) formals))
      (λ final site p q. DotAt (source_of b) final site n (line_at (source_of b) x.token.0) d o (lies (source_of b) e) (expressions (map syntax_of ys)) (λ u v. PlaceAt (source_of b) final site n 0 e u v) (λ u v. ExprAt (source_of b) final site n e u v) (λ u v. ExprsAt (source_of b) final site n (expressions (map syntax_of ys)) u v) (λ u v. ExprsAt (source_of b) final site (suc n) (expressions (map syntax_of ys)) u v)
      (λ formals u v. ActualsAt (source_of b) final site (suc n) (line_at (source_of b) x.token.0) false (expressions (map syntax_of ys)) formals u v) p q)

  pub dot_of_stream : (a c : DraftOf) (o : Object) (x : Identifier) (ys : List Expr) (d : Option Denotation) (k : StandardName) (img : ℕ) → d ≡ denoted (source_of b) x.token.0 → d ≡ Some (denotation.Standard k) → o ≡ object.Stream img → WritesStandard b w n a c img x.token k ys → WritesDot b w n a c o x ys
  unfolding WritesDot WritesStandard
  dot_of_stream a c o x ys d k img ed some eo f start e before =
      let g = subst (λ z. PutsBefore (source_of b) w n start a (moves_denoted (denoted (source_of b) x.token.0)) z e) eo before in
      let same : a ≡ start = g.puts.0 in
      let stream : stream_of (source_of b) e ≡ Some img = g.puts.1 in
      subst (λ z. Dotted start c x ys e z (stream_of (source_of b) e)) (sym some ∙ ed)
      (subst (λ z. Dotted start c x ys e (Some (denotation.Standard k)) z) (sym stream)
      (subst (λ z. Dotted z c x ys e (Some (denotation.Standard k)) (Some img)) same f))

  object_emits : (o : Option Row) (line k : ℕ) (place v : Bool) (es : Expressions) (P I : Type 0) (A B C : Part) (start c : DraftOf) → (moves_named o && v) ≡ place
      → Emits w start c (ObjectBuilt place P I × (AloneBuilt o (suc (operands es)) × AreBuilt (source_of b) w.text es)) (λ final site p q. (x : ℕ) × ObjectAt place (A final site) (B final site) p x × ((y : ℕ) × C final site x y × AloneAt final site n line o (suc (operands es)) y q))
      → Emits w start c (AttributeBuilt o v es P I (AreBuilt (source_of b) w.text es)) (λ final site p q. AttributeAt final site n line o v es (A final site) (B final site) (C final site) p q)
  object_emits None line k place v es P I A B C start c is f = emits_as w _ _ _ _ start c (λ t. absurd t) (λ t. t.1.0) (λ final site p q _ _ r. r.2.2) f
  object_emits (Some name) line k place v es P I A B C start c is f =
      subst (λ z. Emits w start c (NameBuilt name (suc (operands es)) × ObjectBuilt z P I × AreBuilt (source_of b) w.text es) (λ final site p q. (x : ℕ) × (y : ℕ) × ObjectAt z (A final site) (B final site) p x × C final site x y × StandardIs final site n line name (suc (operands es)) y q)) (sym is)
      (emits_as w _ _ _ _ start c (λ t. (t.1, (t.0, t.2))) (λ t. (t.1.0, t.0, t.1.1)) (λ final site p q _ _ r. (r.0, r.2.0, r.1, r.2.1, r.2.2)) f)

  dot_behind : (start a c : DraftOf) (x : Identifier) (ys : List Expr) (e : Expression) (d : Option Denotation) (k : StandardName) (place : Bool) → d ≡ denoted (source_of b) x.token.0 → d ≡ Some (denotation.Standard k) → stream_of (source_of b) e ≡ None → (moves_denoted (denoted (source_of b) x.token.0) && lies (source_of b) e) ≡ place
      → Emits w start a (ObjectBuilt place (PlaceBuilt (source_of b) w.text e) (IsBuilt (source_of b) w.text e)) (λ final site p q. ObjectAt place (λ u v. PlaceAt (source_of b) final site n 0 e u v) (λ u v. ExprAt (source_of b) final site n e u v) p q)
      → WritesBehind b w n a c x.token k ys → Dotted start c x ys e (denoted (source_of b) x.token.0) (stream_of (source_of b) e)
  unfolding WritesBehind
  dot_behind start a c x ys e d k place ed some stream moves f g =
      let s = source_of b in
      let es = expressions (map syntax_of ys) in
      let moves' : (moves_named (procedure_named k) && lies s e) ≡ place = ap (λ z. moves_denoted z && lies s e) (sym some ∙ ed) ∙ moves in
      subst (λ z. Dotted start c x ys e z (stream_of s e)) (sym some ∙ ed)
      (subst (λ z. Dotted start c x ys e (Some (denotation.Standard k)) z) (sym stream)
      (object_emits (procedure_named k) (line_at s x.token.0) 0 place (lies s e) es _ _ (λ final site p q. PlaceAt s final site n 0 e p q) (λ final site p q. ExprAt s final site n e p q) (λ final site p q. ExprsAt s final site (suc n) es p q) start c moves'
      (emits_then w _ _ (λ final site p q. ObjectAt place (λ u v. PlaceAt s final site n 0 e u v) (λ u v. ExprAt s final site n e u v) p q) (λ final site p q. (y : ℕ) × ExprsAt s final site (suc n) es p y × AloneAt final site n (line_at s x.token.0) (procedure_named k) (suc (operands es)) y q) start a c f g)))

  pub dot_of_place : (a c : DraftOf) (o : Object) (x : Identifier) (ys : List Expr) (d : Option Denotation) (k : StandardName) → d ≡ denoted (source_of b) x.token.0 → d ≡ Some (denotation.Standard k) → o ≡ object.Place → WritesBehind b w n a c x.token k ys → WritesDot b w n a c o x ys
  unfolding WritesDot PutsPlace
  dot_of_place a c o x ys d k ed some eo f start e before =
      let g = subst (λ z. PutsBefore (source_of b) w n start a (moves_denoted (denoted (source_of b) x.token.0)) z e) eo before in
      dot_behind start a c x ys e d k true ed some g.puts.1 g.placed g.puts.0 f

  pub dot_of_value : (a c : DraftOf) (o : Object) (x : Identifier) (ys : List Expr) (d : Option Denotation) (k : StandardName) → d ≡ denoted (source_of b) x.token.0 → d ≡ Some (denotation.Standard k) → o ≡ object.Value → WritesBehind b w n a c x.token k ys → WritesDot b w n a c o x ys
  unfolding WritesDot Puts
  dot_of_value a c o x ys d k ed some eo f start e before =
      let g = subst (λ z. PutsBefore (source_of b) w n start a (moves_denoted (denoted (source_of b) x.token.0)) z e) eo before in
      dot_behind start a c x ys e d k false ed some g.puts.1 g.placed g.puts.0 f

  -- `sysin` and `sysout` are no values
  pub streamless : (e : Expression) (img : ℕ) → stream_of (source_of b) e ≡ Some img → IsBuilt (source_of b) w.text e → ⊥
  unfolding stream_of own_attribute
  streamless (Named k es) img is h = named (denoted (source_of b) k.token.0) (connection_at (source_of b) k.token.0) _ is h.1
    where
      standard : (x : StandardName) → stream_named x ≡ Some img → StandardBuilt (procedure_named x) es (AreBuilt (source_of b) w.text es) → ⊥
      standard (found.Procedure x) is h = cc
      standard found.Sysin is h = h
      standard found.Sysout is h = h
      standard (found.Prefix x) is h = cc

      named : (o : Option Denotation) (c : Option ℕ) (Own : DeclNo → Type 0) → stream_denoted o ≡ Some img
          → ThroughBuilt c (λ k. ConnectedNameBuilt (source_of b) w.text k o es (AreBuilt (source_of b) w.text es) (λ formals. ActualsBuilt (source_of b) w.text es formals)) (OwnBuilt (attribute_denoted (source_of b) o) Own (NamedBuilt (source_of b) w.text o es (AreBuilt (source_of b) w.text es) (λ formals. ActualsBuilt (source_of b) w.text es formals))) → ⊥
      named None c Own is h = cc
      named (Some (denotation.Declared d)) c Own is h = cc
      named (Some (denotation.Standard x)) None Own is h = standard x is h
      named (Some (denotation.Standard x)) (Some k) Own is h = h
  streamless (If i c a e) img is h = cc
  streamless (Binary op i a e) img is h = cc
  streamless (Not i a) img is h = cc
  streamless (Signed k i a) img is h = cc
  streamless (Member m i a k) img is h = cc
  streamless (Dot i a k args) img is h = cc
  streamless (Qua i a k) img is h = cc
  streamless (Constant l i) img is h = cc
  streamless (This i k) img is h = cc
  streamless (New i k args) img is h = cc
  streamless (Parentheses i a) img is h = cc

  -- what an object has is built where the object is
  object_built : (d : DeclNo) (k : Option Entry) (es : Expressions) (O P A : Type 0) → OfObjectBuilt (source_of b) d k es O P A → O
  object_built d (Some (entry.Variable type)) NoMore O P A h = h.0
  object_built d (Some (entry.Variable type)) (Then e es) O P A h = absurd h
  object_built d (Some (entry.Constant type)) es O P A h = h.0
  object_built d (Some (entry.Array element dimensions)) es O P A h = h.0
  object_built d (Some (entry.Procedure result block)) es O P A h = h.0
  object_built d (Some (entry.Formal x)) es O P A h = parameter x.kind es h
    where
      parameter : (k : FormalKind) (es : Expressions) → ParameterOfBuilt (source_of b) d k es O P → O
      parameter shape.Simple NoMore h = h.0
      parameter shape.Simple (Then e es) h = absurd h
      parameter shape.Array es h = h.0
      parameter shape.Procedure es h = absurd h
  object_built d (Some (entry.Class text)) es O P A h = absurd h
  object_built d (Some (entry.Virtual result own)) es O P A h = h.0
  object_built d (Some (entry.Unspecified written)) es O P A h = absurd h
  object_built d (Some (entry.Attribute name parameter result)) es O P A h = h.0
  object_built d None es O P A h = absurd h

  pub dot_of_object : (a c : DraftOf) (o : Object) (x : Identifier) (ys : List Expr) (d : Option Denotation) (k : DeclNo) → d ≡ denoted (source_of b) x.token.0 → d ≡ Some (denotation.Declared k) → o ≡ object.Value → WritesOf b w n a c x.token k ys → WritesDot b w n a c o x ys
  unfolding WritesDot WritesOf PutsBase Puts
  dot_of_object a c o x ys d k ed some eo f start e before =
      let g = subst (λ z. PutsBefore (source_of b) w n start a (moves_denoted (denoted (source_of b) x.token.0)) z e) eo before in
      subst (λ z. Dotted start c x ys e z (stream_of (source_of b) e)) (sym some ∙ ed) (f start (OfValue e) g.puts.0)

  pub dot_declared_stream : (a c : DraftOf) (o : Object) (x : Identifier) (ys : List Expr) (d : Option Denotation) (k : DeclNo) (img : ℕ) → d ≡ denoted (source_of b) x.token.0 → d ≡ Some (denotation.Declared k) → o ≡ object.Stream img → c ≡ given_up a → WritesDot b w n a c o x ys
  unfolding WritesDot
  dot_declared_stream a c o x ys d k img ed some eo ec start e before =
      let g = subst (λ z. PutsBefore (source_of b) w n start a (moves_denoted (denoted (source_of b) x.token.0)) z e) eo before in
      let same : a ≡ start = g.puts.0 in
      subst (λ z. Dotted start c x ys e z (stream_of (source_of b) e)) (sym some ∙ ed)
      (emits_nothing w start c _ _ (λ h. streamless e img g.puts.1 (object_built k (entry_of (source_of b).tables k) (expressions (map syntax_of ys)) _ _ _ h)) (ec ∙ ap given_up same))

  pub dot_declared_place : (a c : DraftOf) (o : Object) (x : Identifier) (ys : List Expr) (d : Option Denotation) (k : DeclNo) → d ≡ denoted (source_of b) x.token.0 → d ≡ Some (denotation.Declared k) → o ≡ object.Place → c ≡ given_up a → WritesDot b w n a c o x ys
  unfolding WritesDot
  dot_declared_place a c o x ys d k ed some eo ec start e before =
      let g = subst (λ z. PutsBefore (source_of b) w n start a (moves_denoted (denoted (source_of b) x.token.0)) z e) eo before in
      let moved : (moves_denoted (denoted (source_of b) x.token.0) && lies (source_of b) e) ≡ true = g.placed in
      let still : moves_denoted (denoted (source_of b) x.token.0) ≡ false = ap moves_denoted (sym ed ∙ some) in
      let never : false ≡ true = sym (ap (λ z. z && lies (source_of b) e) still) ∙ moved in
      absurd (cc)

  pub dot_undeclared : (a c : DraftOf) (o : Object) (x : Identifier) (ys : List Expr) (d : Option Denotation) → d ≡ denoted (source_of b) x.token.0 → d ≡ None → c ≡ given_up a → WritesDot b w n a c o x ys
  unfolding WritesDot
  dot_undeclared a c o x ys d ed none ec start e before =
      before_gives_up _ _ start a c _ o e before
      (λ h. subst (λ z. DotBuilt (source_of b) z (stream_of (source_of b) e) (lies (source_of b) e) (expressions (map syntax_of ys)) (PlaceBuilt (source_of b) w.text e) (IsBuilt (source_of b) w.text e) (AreBuilt (source_of b) w.text (expressions (map syntax_of ys))) (λ formals. ActualsBuilt (source_of b) w.text (expressions (map syntax_of ys)) formals)) (sym ed ∙ none) h) ec

  -- ---- one thing is taken, whose value is needed

  abbrev Takes : (a c : DraftOf) → Object → Selection → Type 0
  Takes a c o z = (start : DraftOf) (e : Expression) → PutsBefore (source_of b) w n start a (moves_selection (source_of b) z) o e → Puts (source_of b) w n start c (selected e (z ∷ []))

  takes_at : (a c : DraftOf) (o : Object) (y : Selector) (z : Selection) → selector_syntax y ≡ z → Takes a c o z → WritesLast b w n a c o y
  unfolding WritesLast
  takes_at a c o y z is f = subst (Takes a c o) (sym is) f

  pub last_dot : (a c : DraftOf) (o : Object) (y : Selector) (j : TokenNo) (k : Identifier) (args : Vec Expr Global) (ts : List Expr) (d : Option Denotation) (r : Bool) → y ≡ u.Dot j k args → ts ≡ args.items → d ≡ denoted (source_of b) k.token.0 → r ≡ gives (source_of b) d → r ≡ true → WritesDot b w n a c o k ts → WritesLast b w n a c o y
  unfolding WritesDot Puts
  last_dot a c o y j k args ts d r ey et ed er yes' f =
      let s = source_of b in
      let does : gives s (denoted s k.token.0) ≡ true = ap (gives s) (sym ed) ∙ sym er ∙ yes' in
      takes_at a c o y (Take j.0 k (expressions (map syntax_of ts))) (ap selector_syntax ey ∙ selector-Dot j k args ∙ ap (λ z. Take j.0 k (expressions (map syntax_of z))) (sym et)) (λ start e before.
      emits_as w _ _ _ _ start c (λ t. t.1) (λ t. (does, t)) (λ final site p q _ _ r. (does, r)) (f start e before))

  pub last_no_value : (a c : DraftOf) (o : Object) (y : Selector) (j : TokenNo) (k : Identifier) (args : Vec Expr Global) (d : Option Denotation) (r : Bool) → y ≡ u.Dot j k args → d ≡ denoted (source_of b) k.token.0 → r ≡ gives (source_of b) d → r ≡ false → c ≡ given_up a → WritesLast b w n a c o y
  unfolding Puts
  last_no_value a c o y j k args d r ey ed er no' ec =
      let s = source_of b in
      let not' : gives s (denoted s k.token.0) ≡ false = ap (gives s) (sym ed) ∙ sym er ∙ no' in
      takes_at a c o y (Take j.0 k (expressions (map syntax_of args.items))) (ap selector_syntax ey ∙ selector-Dot j k args) (λ start e before.
      before_gives_up _ _ start a c _ o e before (λ h. let z : true ≡ false = sym h.0 ∙ not' in cc) ec)

  pub last_qua : (a c : DraftOf) (o : Object) (y : Selector) (j : TokenNo) (k : Identifier) → y ≡ u.Qua j k → o ≡ object.Value → WritesQua b w n a c j k.token → WritesLast b w n a c o y
  unfolding Puts WritesQua
  last_qua a c o y j k ey eo f = takes_at a c o y (Cast j.0 k) (ap selector_syntax ey ∙ selector-Qua j k) (λ start e before.
      let g = subst (λ z. PutsBefore (source_of b) w n start a false z e) eo before in f start e g.puts.0)

  pub last_qua_stream : (a c : DraftOf) (o : Object) (y : Selector) (j : TokenNo) (k : Identifier) (img : ℕ) → y ≡ u.Qua j k → o ≡ object.Stream img → c ≡ given_up a → WritesLast b w n a c o y
  unfolding Puts
  last_qua_stream a c o y j k img ey eo ec = takes_at a c o y (Cast j.0 k) (ap selector_syntax ey ∙ selector-Qua j k) (λ start e before.
      let g = subst (λ z. PutsBefore (source_of b) w n start a false z e) eo before in
      let same : a ≡ start = g.puts.0 in
      emits_nothing w start c _ _ (λ h. streamless e img g.puts.1 h.1) (ec ∙ ap given_up same))

  pub last_qua_place : (a c : DraftOf) (o : Object) (y : Selector) (j : TokenNo) (k : Identifier) → y ≡ u.Qua j k → o ≡ object.Place → c ≡ given_up a → WritesLast b w n a c o y
  last_qua_place a c o y j k ey eo ec = takes_at a c o y (Cast j.0 k) (ap selector_syntax ey ∙ selector-Qua j k) (λ start e before.
      let g = subst (λ z. PutsBefore (source_of b) w n start a false z e) eo before in
      let never : false ≡ true = g.placed in absurd (cc))

  -- ---- where it lies

  abbrev LiesAt : (a c : DraftOf) → (class : ℕ) → Object → Selection → Type 0
  LiesAt a c class o z = (start : DraftOf) (e : Expression) → PutsBefore (source_of b) w n start a (moves_selection (source_of b) z) o e → PutsPlace (source_of b) w n start c class (selected e (z ∷ []))

  lies_at : (a c : DraftOf) (class : ℕ) (o : Object) (y : Selector) (z : Selection) → selector_syntax y ≡ z → LiesAt a c class o z → WritesTakenPlace b w n a c class o y
  unfolding WritesTakenPlace
  lies_at a c class o y z is f = subst (LiesAt a c class o) (sym is) f

  abbrev OfStream : (a c : DraftOf) → (class : ℕ) → Identifier → Expressions → Expression → Option ℕ → Type 0
  OfStream a c class k es e o =
      Emits w a c (StreamBuilt o (PlaceBehindBuilt (source_of b) (denoted (source_of b) k.token.0) es (IsBuilt (source_of b) w.text e) (AreBuilt (source_of b) w.text es)))
      (λ final site p q. StreamPlaceAt final site n o (λ x y. PlaceBehindAt (source_of b) final (line_at (source_of b) k.token.0) class (denoted (source_of b) k.token.0) es (λ u v. ExprAt (source_of b) final site n e u v) (λ u v. ExprsAt (source_of b) final site (suc n) es u v) x y) p q)

  pub taken_place_stream : (a c : DraftOf) (class : ℕ) (o : Object) (y : Selector) (j : TokenNo) (k : Identifier) (args : Vec Expr Global) (img : ℕ) → y ≡ u.Dot j k args → o ≡ object.Stream img → WritesImage w n a c img → WritesTakenPlace b w n a c class o y
  unfolding PutsPlace WritesImage
  taken_place_stream a c class o y j k args img ey eo f = lies_at a c class o y (Take j.0 k (expressions (map syntax_of args.items))) (ap selector_syntax ey ∙ selector-Dot j k args) (λ start e before.
      let g = subst (λ z. PutsBefore (source_of b) w n start a (moves_denoted (denoted (source_of b) k.token.0)) z e) eo before in
      let same : a ≡ start = g.puts.0 in
      subst (OfStream start c class k (expressions (map syntax_of args.items)) e) (sym g.puts.1)
      (subst (λ z. OfStream z c class k (expressions (map syntax_of args.items)) e (Some img)) same f))

  pub taken_place_value : (a c : DraftOf) (class : ℕ) (o : Object) (y : Selector) (j : TokenNo) (k : Identifier) (args : Vec Expr Global) (ts : List Expr) → y ≡ u.Dot j k args → ts ≡ args.items → o ≡ object.Value → WritesPlaceBehind b w n a c class k.token ts → WritesTakenPlace b w n a c class o y
  unfolding PutsPlace WritesPlaceBehind PutsBase Puts
  taken_place_value a c class o y j k args ts ey et eo f = lies_at a c class o y (Take j.0 k (expressions (map syntax_of ts))) (ap selector_syntax ey ∙ selector-Dot j k args ∙ ap (λ z. Take j.0 k (expressions (map syntax_of z))) (sym et)) (λ start e before.
      let g = subst (λ z. PutsBefore (source_of b) w n start a (moves_denoted (denoted (source_of b) k.token.0)) z e) eo before in
      subst (OfStream start c class k (expressions (map syntax_of ts)) e) (sym g.puts.1) (f start (OfValue e) g.puts.0))

  unplaced : (o : Option Denotation) (v : Bool) (es : Expressions) (P Q : Type 0) → (moves_denoted o && v) ≡ true → PlaceBehindBuilt (source_of b) o es P Q → ⊥
  unplaced None v es P Q is h = h
  unplaced (Some (denotation.Standard x)) v es P Q is h = h
  unplaced (Some (denotation.Declared d)) v es P Q is h = cc

  pub taken_place_place : (a c : DraftOf) (class : ℕ) (o : Object) (y : Selector) (j : TokenNo) (k : Identifier) (args : Vec Expr Global) → y ≡ u.Dot j k args → o ≡ object.Place → c ≡ given_up a → WritesTakenPlace b w n a c class o y
  unfolding PutsPlace
  taken_place_place a c class o y j k args ey eo ec = lies_at a c class o y (Take j.0 k (expressions (map syntax_of args.items))) (ap selector_syntax ey ∙ selector-Dot j k args) (λ start e before.
      let g = subst (λ z. PutsBefore (source_of b) w n start a (moves_denoted (denoted (source_of b) k.token.0)) z e) eo before in
      subst (OfStream start c class k (expressions (map syntax_of args.items)) e) (sym g.puts.1)
      (gives_up _ _ _ _ start a c g.puts.0 (λ h. unplaced (denoted (source_of b) k.token.0) (lies (source_of b) e) (expressions (map syntax_of args.items)) _ _ g.placed h) ec))

  pub taken_place_cast : (a c : DraftOf) (class : ℕ) (o : Object) (y : Selector) (j : TokenNo) (k : Identifier) → y ≡ u.Qua j k → c ≡ given_up a → WritesTakenPlace b w n a c class o y
  unfolding PutsPlace
  taken_place_cast a c class o y j k ey ec = lies_at a c class o y (Cast j.0 k) (ap selector_syntax ey ∙ selector-Qua j k) (λ start e before. before_gives_up _ _ start a c _ o e before (λ h. h) ec)

  -- ---- one thing is taken, in front of another one

  placed_all : (moves t : Bool) (o : Object) (img : ℕ) → image_placed moves o t ≡ Some img → (moves ≡ true) × (t ≡ true) × (o ≡ object.Stream img)
  placed_all true true (object.Stream k) img e = (refl, refl, ap object.Stream (let z : k ≡ img = cc in z))
  placed_all true true object.Place img e = absurd (cc)
  placed_all true true object.Value img e = absurd (cc)
  placed_all true false (object.Stream k) img e = absurd (cc)
  placed_all true false object.Place img e = absurd (cc)
  placed_all true false object.Value img e = absurd (cc)
  placed_all false t o img e = absurd (cc)

  image_step : (a c : DraftOf) (moves : Bool) (img : ℕ) (z : Selection) → moves ≡ true → takes_image (source_of b) z ≡ true → WritesImage w n a c img → (start : DraftOf) (e : Expression) → PutsBefore (source_of b) w n start a (moves_selection (source_of b) z) (object.Stream img) e → PutsBefore (source_of b) w n start c moves object.Place (selected e (z ∷ []))
  unfolding PutsPlace WritesImage
  image_step a c moves img (Take j k es) em et f start e before =
      let s = source_of b in
      let same : a ≡ start = before.puts.0 in
      let stream : stream_of s e ≡ Some img = before.puts.1 in
      let is : is_variable s (Dot j e k es) ≡ true = dot_variable s j e k es ∙ ap (λ z. is_image_behind z (denoted s k.token.0)) stream ∙ et in
      record {
        puts = (subst (OfStream start c 0 k es e) (sym stream) (subst (λ z. OfStream z c 0 k es e (Some img)) same f), dot_stream s j e k es);
        placed = first_of moves (is_variable s (Dot j e k es)) (is_attribute s (Dot j e k es)) em is;
      }
  image_step a c moves img (Cast j k) em et f start e before = absurd (cc)

  pub step_place : (a c : DraftOf) (o : Object) (y : Selector) (moves t : Bool) (r : Option ℕ) (img : ℕ) → r ≡ image_placed moves o (takes_image (source_of b) (selector_syntax y)) → r ≡ Some img → WritesImage w n a c img → WritesStep b w n a c o y moves object.Place
  unfolding WritesStep
  step_place a c o y moves t r img er some f start e before =
      let g = placed_all moves (takes_image (source_of b) (selector_syntax y)) o img (sym er ∙ some) in
      image_step a c moves img (selector_syntax y) g.0 g.1 f start e (subst (λ z. PutsBefore (source_of b) w n start a (moves_selection (source_of b) (selector_syntax y)) z e) g.2 before)

  behind_object : (start a : DraftOf) (moves m : Bool) (o : Object) (e : Expression) (j : ℕ) (k : Identifier) (es : Expressions) → PutsBefore (source_of b) w n start a m o e → image_placed moves o (is_image_denoted (denoted (source_of b) k.token.0)) ≡ None → (moves && is_variable (source_of b) (Dot j e k es)) ≡ false
  behind_object start a moves m (object.Stream img) e j k es before none =
      let s = source_of b in
      ap (λ z. moves && z) (dot_variable s j e k es ∙ ap (λ z. is_image_behind z (denoted s k.token.0)) before.puts.1) ∙ neither moves (is_image_denoted (denoted s k.token.0)) none
    where
      neither : (p q : Bool) → image_placed p (object.Stream img) q ≡ None → (p && q) ≡ false
      neither true true h = absurd (cc)
      neither true false h = refl
      neither false q h = refl
  behind_object start a moves m object.Place e j k es before none = ap (λ z. moves && z) (dot_variable (source_of b) j e k es ∙ ap (λ z. is_image_behind z (denoted (source_of b) k.token.0)) before.puts.1) ∙ not_both moves
  behind_object start a moves m object.Value e j k es before none = ap (λ z. moves && z) (dot_variable (source_of b) j e k es ∙ ap (λ z. is_image_behind z (denoted (source_of b) k.token.0)) before.puts.1) ∙ not_both moves

  value_step : (a c : DraftOf) (o : Object) (moves : Bool) (z : Selection) → image_placed moves o (takes_image (source_of b) z) ≡ None → (moves && takes_attribute (source_of b) z) ≡ false → Takes a c o z → (start : DraftOf) (e : Expression) → PutsBefore (source_of b) w n start a (moves_selection (source_of b) z) o e → PutsBefore (source_of b) w n start c moves object.Value (selected e (z ∷ []))
  value_step a c o moves (Take j k es) none lacks f start e before =
      let s = source_of b in
      record {
        puts = (f start e before, dot_stream s j e k es);
        placed = neither_of moves (is_variable s (Dot j e k es)) (is_attribute s (Dot j e k es)) (behind_object start a moves _ o e j k es before none) (ap (λ z. moves && z) (dot_attribute s j e k es) ∙ lacks);
      }
  value_step a c o moves (Cast j k) none lacks f start e before =
      let s = source_of b in
      record {
        puts = (f start e before, qua_stream s j e k);
        placed = neither_of moves (is_variable s (Qua j e k)) (is_attribute s (Qua j e k)) (ap (λ z. moves && z) (qua_variable s j e k) ∙ not_both moves) (ap (λ z. moves && z) (qua_attribute s j e k) ∙ not_both moves);
      }

  pub step_value : (a c : DraftOf) (o : Object) (y : Selector) (moves t : Bool) (r : Option ℕ) → r ≡ image_placed moves o (takes_image (source_of b) (selector_syntax y)) → r ≡ None → t ≡ (moves && takes_attribute (source_of b) (selector_syntax y)) → t ≡ false → WritesLast b w n a c o y → WritesStep b w n a c o y moves object.Value
  unfolding WritesStep WritesLast
  step_value a c o y moves t r er none et lacks f = value_step a c o moves (selector_syntax y) (sym er ∙ none) (sym et ∙ lacks) f

  attribute_step : (a c : DraftOf) (o : Object) (moves : Bool) (z : Selection) → (moves && takes_attribute (source_of b) z) ≡ true → LiesAt a c 0 o z → (start : DraftOf) (e : Expression) → PutsBefore (source_of b) w n start a (moves_selection (source_of b) z) o e → PutsBefore (source_of b) w n start c moves object.Place (selected e (z ∷ []))
  attribute_step a c o moves (Take j k es) yes' f start e before =
      let s = source_of b in
      record { puts = (f start e before, dot_stream s j e k es); placed = second_of moves (is_variable s (Dot j e k es)) (is_attribute s (Dot j e k es)) (ap (λ z. moves && z) (dot_attribute s j e k es) ∙ yes') }
  attribute_step a c o moves (Cast j k) yes' f start e before = let never : false ≡ true = sym (not_both moves) ∙ yes' in absurd (cc)

  pub step_attribute : (a c : DraftOf) (o : Object) (y : Selector) (moves t : Bool) → t ≡ (moves && takes_attribute (source_of b) (selector_syntax y)) → t ≡ true → WritesTakenPlace b w n a c 0 o y → WritesStep b w n a c o y moves object.Place
  unfolding WritesStep WritesTakenPlace
  step_attribute a c o y moves t et yes' f = attribute_step a c o moves (selector_syntax y) (sym et ∙ yes') f

  -- ---- several things, one after the other

  -- so many of these are taken
  unfoldable pub TakenTo : (start : DraftOf) → Expression → List Selector → (now : DraftOf) → Object → (done : ℕ) → Type 0
  TakenTo start x ys now o k = PutsBefore (source_of b) w n start now (moves_next (source_of b) (drop k (map selector_syntax ys))) o (selected x (take k (map selector_syntax ys)))

  -- in a loop: so many are taken of an object
  unfoldable pub TakenOf : (old : DraftOf) → Object → List Selector → (now : DraftOf) → Object → (done : ℕ) → Type 0
  TakenOf old o ys now o' k = (start : DraftOf) (x : Expression) → TakenTo start x ys old o 0 → TakenTo start x ys now o' k

  pub taken_first : (a : DraftOf) (ys : List Selector) (o : Object) → TakenOf a o ys a o 0
  unfolding TakenOf
  taken_first a ys o = λ start x f. f

  pub one_more : (zs : List Selection) (k : ℕ) (z : Selection) (rest : List Selection) (e : Expression) → drop k zs ≡ z ∷ rest → selected (selected e (take k zs)) (z ∷ []) ≡ selected e (take (suc k) zs)
  one_more [] zero z rest e h = absurd (cc)
  one_more [] (suc k) z rest e h = absurd (cc)
  one_more (y ∷ ys) zero z rest e h = let q : y ≡ z = cc in ap (λ t. selected e (t ∷ [])) (sym q)
  one_more (Take j i args ∷ ys) (suc k) z rest e h = one_more ys k z rest (Dot j e i args) h
  one_more (Cast j i ∷ ys) (suc k) z rest e h = one_more ys k z rest (Qua j e i) h

  pub at_drop : (ys : List Selector) (k : ℕ) (y : Selector) → k < length ys → y ≡ slice_index_or ys k y → drop k (map selector_syntax ys) ≡ selector_syntax y ∷ drop (suc k) (map selector_syntax ys)
  at_drop [] k y le is = absurd (omega (arith, le))
  at_drop (z ∷ zs) zero y le is = ap (λ t. selector_syntax t ∷ map selector_syntax zs) (sym is)
  at_drop (z ∷ zs) (suc k) y le is = at_drop zs k y (omega (arith, le)) is

  pub next_is : (ys : List Selector) (k : ℕ) (y : Selector) → k < length ys → y ≡ slice_index_or ys k y → moves_next (source_of b) (drop k (map selector_syntax ys)) ≡ moves_selection (source_of b) (selector_syntax y)
  next_is ys k y le is = ap (moves_next (source_of b)) (at_drop ys k y le is)

  to_next : (start a c : DraftOf) (x : Expression) (ys : List Selector) (o o' : Object) (k m : ℕ) (y : Selector) (moves : Bool) → TakenTo start x ys a o k → k < length ys - 1 → y ≡ slice_index_or ys k y → m ≡ k + 1 → moves ≡ moves_next (source_of b) (drop m (map selector_syntax ys)) → WritesStep b w n a c o y moves o' → TakenTo start x ys c o' (k + 1)
  unfolding TakenTo WritesStep
  to_next start a c x ys o o' k m y moves f le is em emoves g =
      let s = source_of b in
      let zs = map selector_syntax ys in
      let lt : k < length ys = omega (arith, le) in
      let f' = subst (λ t. PutsBefore s w n start a t o (selected x (take k zs))) (next_is ys k y lt is) f in
      let r = g start (selected x (take k zs)) f' in
      subst (λ t. PutsBefore s w n start c t o' (selected x (take (k + 1) zs))) (emoves ∙ ap (λ t. moves_next s (drop t zs)) em)
      (subst (λ t. PutsBefore s w n start c moves o' t) (one_more zs k (selector_syntax y) (drop (suc k) zs) x (at_drop ys k y lt is) ∙ ap (λ j. selected x (take j zs)) (let next : suc k ≡ k + 1 = omega arith in next)) r)

  pub taken_next : (old a c : DraftOf) (ys : List Selector) (o0 o o' : Object) (k m : ℕ) (y : Selector) (moves : Bool) → TakenOf old o0 ys a o k → k < length ys - 1 → y ≡ slice_index_or ys k y → m ≡ k + 1 → moves ≡ moves_next (source_of b) (drop m (map selector_syntax ys)) → WritesStep b w n a c o y moves o' → TakenOf old o0 ys c o' (k + 1)
  unfolding TakenOf
  taken_next old a c ys o0 o o' k m y moves f le is em emoves g = λ start x h. to_next start a c x ys o o' k m y moves (f start x h) le is em emoves g

  pub taken_end : (old now : DraftOf) (ys : List Selector) (o0 o : Object) (k : ℕ) → TakenOf old o0 ys now o k → k ≤ length ys - 1 → length ys - 1 ≤ k → WritesSteps b w n old now o0 ys o
  unfolding TakenOf TakenTo WritesSteps
  taken_end old now ys o0 o k f lo hi = λ start x h.
      let e : k ≡ length ys - 1 = omega (arith, lo, hi) in
      subst (λ t. PutsBefore (source_of b) w n start now (moves_next (source_of b) (drop t (map selector_syntax ys))) o (selected x (take t (map selector_syntax ys)))) e (f start x h)

  -- the operand, and all that is taken of it but the last
  pub taken_before : (a c0 c : DraftOf) (x : Expr) (ys : List Selector) (o0 o : Object) (moves : Bool) → moves ≡ moves_next (source_of b) (drop 0 (map selector_syntax ys)) → WritesStart b w n a c0 moves o0 x → WritesSteps b w n c0 c o0 ys o → WritesBefore b w n a c o x ys
  unfolding WritesStart WritesSteps WritesBefore
  taken_before a c0 c x ys o0 o moves em f g = g a (syntax_of x) (subst (λ z. PutsBefore (source_of b) w n a c0 z o0 (syntax_of x)) em f)

  pub taken_nothing : (a c : DraftOf) (x : Expr) (ys : List Selector) → length ys ≡ 0 → Writes b w n a c x → WritesTaken b w n a c x ys
  unfolding WritesTaken Writes
  taken_nothing a c x [] none f = f
  taken_nothing a c x (y ∷ ys) none f = absurd (omega (arith, none))

  pub take_map : (ys : List Selector) (k : ℕ) → length ys ≤ k → take k (map selector_syntax ys) ≡ map selector_syntax ys
  take_map [] zero le = refl
  take_map [] (suc k) le = refl
  take_map (z ∷ zs) zero le = absurd (omega (arith, le))
  take_map (z ∷ zs) (suc k) le = ap (λ t. selector_syntax z ∷ t) (take_map zs k (omega (arith, le)))

  pub taken_last : (a c : DraftOf) (ys : List Selector) (o : Object) (m : ℕ) (y : Selector) → length ys ≢ 0 → m ≡ length ys - 1 → y ≡ slice_index_or ys m y → WritesLast b w n a c o y → WritesEnd b w n a c o ys
  unfolding WritesEnd WritesLast
  taken_last a c ys o m y some' em is g = λ start x f.
      let s = source_of b in
      let zs = map selector_syntax ys in
      let k = length ys - 1 in
      let is' : y ≡ slice_index_or ys k y = subst (λ t. y ≡ slice_index_or ys t y) em is in
      let lt : k < length ys = omega (arith, some') in
      let f' = subst (λ t. PutsBefore s w n start a t o (selected x (take k zs))) (next_is ys k y lt is') f in
      let r = g start (selected x (take k zs)) f' in
      let all : selected (selected x (take k zs)) (selector_syntax y ∷ []) ≡ selected x zs = one_more zs k (selector_syntax y) (drop (suc k) zs) x (at_drop ys k y lt is') ∙ ap (selected x) (take_map ys (suc k) (omega (arith, some'))) in
      subst (Puts s w n start c) all r

  pub place_taken_last : (a c0 c : DraftOf) (class : ℕ) (x : Expr) (ys : List Selector) (o : Object) (m : ℕ) (y : Selector) → length ys ≢ 0 → m ≡ length ys - 1 → y ≡ slice_index_or ys m y → WritesBefore b w n a c0 o x ys → WritesTakenPlace b w n c0 c class o y → PutsPlace (source_of b) w n a c class (selected (syntax_of x) (map selector_syntax ys))
  unfolding WritesBefore WritesTakenPlace
  place_taken_last a c0 c class x ys o m y some' em is f g =
      let s = source_of b in
      let zs = map selector_syntax ys in
      let k = length ys - 1 in
      let e = syntax_of x in
      let is' : y ≡ slice_index_or ys k y = subst (λ t. y ≡ slice_index_or ys t y) em is in
      let lt : k < length ys = omega (arith, some') in
      let f' = subst (λ t. PutsBefore s w n a c0 t o (selected e (take k zs))) (next_is ys k y lt is') f in
      let r = g a (selected e (take k zs)) f' in
      let all : selected (selected e (take k zs)) (selector_syntax y ∷ []) ≡ selected e zs = one_more zs k (selector_syntax y) (drop (suc k) zs) e (at_drop ys k y lt is') ∙ ap (selected e) (take_map ys (suc k) (omega (arith, some'))) in
      subst (PutsPlace s w n a c class) all r

  pub taken_whole : (a c0 c : DraftOf) (x : Expr) (ys : List Selector) (o : Object) → WritesBefore b w n a c0 o x ys → WritesEnd b w n c0 c o ys → WritesTaken b w n a c x ys
  unfolding WritesTaken WritesBefore WritesEnd
  taken_whole a c0 c x ys o f g = g a (syntax_of x) f

pub ruleset taken = (start_stream, start_place, start_value, dot_of_stream, dot_of_place, dot_of_value, dot_of_object, dot_declared_stream, dot_declared_place, dot_undeclared, last_dot, last_no_value, last_qua, last_qua_stream, last_qua_place, step_place, step_value, step_attribute, taken_first, taken_next, taken_end, taken_before, taken_last)
