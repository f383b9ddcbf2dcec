-- The code of left sides, and what they are when their statement begins.
use Rattle.std.proofs.Common.{◌≡◌, ℕ, suc, Bool, true, false, List, [], ◌∷◌, ◌++◌, length, Option, Some, None, refl, sym, ap, ◌∙◌, subst, arith}
use Rattle.std.specs.Prelude.{pos, reverse}
use Rattle.std.proofs.lemmas.List.{reverse-append}
use Rattle.sim_base.specs.declared.numbering.DeclNo.{DeclNo}
use Rattle.sim_scope.specs.declared.scopes.Denotation.{Denotation}
use Rattle.sim_scope.specs.declared.scopes.Denotation.TheVariants as denotation
use Rattle.sim_scope.specs.declared.types.Entry.{Entry}
use Rattle.sim_scope.specs.declared.types.Entry.TheVariants as entry
use Rattle.sim_scope.specs.declared.types.FormalKind.{FormalKind}
use Rattle.sim_scope.specs.declared.types.FormalKind.TheVariants as shape
use Rattle.sim_scope.specs.declared.types.Mode.{Mode}
use Rattle.sim_scope.specs.declared.types.Mode.TheVariants as mode
use Rattle.sim_scope.specs.Assignments.{LeftSide}
use Rattle.sim_scope.specs.Scopes.{entry_of}
use Rattle.sim_scope.specs.Source.{Source, block_of, denoted, line_at}
use Rattle.sim_tree.specs.declared.stmt.Assignment.{Assignment}
use Rattle.sim_tree.specs.declared.stmt.Assignment.TheVariants as assignment
use Rattle.sim_tree.specs.Syntax.{Expression, Expressions, NoMore, Then}
use Rattle.sim_tree.specs.Syntax as syntax
use Rattle.sim_code.specs.declared.instr.Instr.TheVariants as i
use Rattle.sim_code.specs.Code.{CodeOf}
use Rattle.sim_code.specs.Machine.{Frames}
use Rattle.sim_meaning.specs.Attributes.{connection_at, declared_attribute}
use Rattle.sim_meaning.specs.Closing.{by_name, class_of_formal, formal_by_name, left_named as left_held, left_plain, name_denoted, name_term, named_formal, named_text, reference_left, type_of_formal, Left, LeftAddress, LeftCell, LeftNamed, LeftReference, LeftText, NoLeftSide, array_left, close, close_all, close_left, close_left_of, close_place, declared_left, formal_left, home_of, in_instance, is_text, left_found, left_in, left_variable, named_left, reference_place, result_left, result_meant, result_or, variable_left, match_left, own_match, named_array_left, named_array_place}
use Rattle.sim_meaning.specs.Pending.{Cell, Declared, Do, ElementOf, Eval, ForPlace, Instances, Item, NamedOf, Result, ShareOp, StoreOp, Target, Term, ToAddress, ToCell, ValueAt}
use Rattle.sim_meaning.specs.Pending as meaning
use Rattle.sim_meaning.specs.Statements.{Lefts, assigning, before, lefts}
use Rattle.codegen_expr.specs.Sites.{At, HasCell, Inside, Is, Site, Varies, frame_text, is_constant}
use Rattle.codegen_expr.specs.CodeExpr.{ByNameAt, ElementAt, ExprAt, ExprsAt, PlaceAt, ReferencePlaceAt, ConnectedAt, DeclaredPlaceAt, FormalPlaceAt, NamedArrayPlaceAt, NamedPlaceAt, PlaceBehindAt, ThroughAt}
use Rattle.codegen.specs.Agrees.{Agrees}
use Rattle.sim_meaning.specs.Virtuals.{text_of_procedure}
use Rattle.codegen.specs.CodeLeft.{AtAddress, AtAttribute, GivesAt, GoesAt, InCell, LeftsAt, NoPlace, ResultAt, SharesAt, StoreAt, Stored, ToNamed, ToNamedReference, ToNamedText, ToReference, ToResult, ToText, below, each_stored, stored, stored_by_sign, stored_held, stored_named_by, stored_or_named, stored_declared, stored_element, stored_formal, stored_found, stored_left, stored_named, stored_of, stored_result, stored_text, stored_variable, stored_match, stored_anew}
use Rattle.sim_relate.proofs.ClassNames.{qualification_classed}
use Rattle.sim_relate.proofs.ClosedNames.{used_at, named_element_at}
use Rattle.sim_relate.proofs.Closing.{close_all_at, close_at, count_close, place_at, reference_at}
use Rattle.sim_relate.proofs.Frames.{own_frame}
use Rattle.sim_relate.proofs.Known.{Any, Finds, IsRead, Kind, LeavesIs, Named, Reaches, Refers, Runs, is_declared, is_fixed, leaves_any, leaves_read, reads, site_at, Settled}
use Rattle.sim_relate.proofs.Pending.{evals, pends}
use Rattle.sim_relate.proofs.Operations.{GivesIs, StoreIs, TargetAt, by_name as by_name_alone, of_class}
use Rattle.sim_relate.proofs.Relation.{WorkAt}
use Rattle.sim_relate.proofs.Trees.{Classed, OperandAt, TermAt, UseIs}
use Rattle.sim_relate.proofs.Waiting.{Wait}

reverse_first : {A : Type 0} (x : A) (xs : List A) → reverse (x ∷ xs) ≡ reverse xs ++ x ∷ []
reverse_first x xs = reverse-append (x ∷ []) xs

-- The values in hand that left sides leave: from left to right, and with the last one first.
abbrev pub over : List (List Kind) → List Kind → List Kind
over [] ks = ks
over (x ∷ xs) ks = over xs (x ++ ks)

abbrev pub under : List (List Kind) → List Kind → List Kind
under [] ks = ks
under (x ∷ xs) ks = x ++ under xs ks

under_append : (xs ys : List (List Kind)) (ks : List Kind) → under (xs ++ ys) ks ≡ under xs (under ys ks)
under_append [] ys ks = refl
under_append (x ∷ xs) ys ks = ap (λ z. x ++ z) (under_append xs ys ks)

over_reverse : (xs : List (List Kind)) (ks : List Kind) → under (reverse xs) ks ≡ over xs ks
over_reverse [] ks = refl
over_reverse (x ∷ xs) ks = ap (λ z. under z ks) (reverse_first x xs) ∙ under_append (reverse xs) (x ∷ []) ks ∙ over_reverse xs (x ++ ks)

module _ (s : Source) (code : CodeOf) (m : Instances) (inst t : ℕ) (b : Runs) (u : ℕ) (agrees : Agrees s) (reach : (v : ℕ) → Inside s.tables t v → Finds s m inst v) where
  abbrev pub site : Site
  site = site_at t b u

  -- what a left side is in the code, and what it is when the statement begins
  pub record CellFound (k : ℕ) (key : meaning.Key) (x : Left) : Type 0 where
    pub instance : ℕ
    pub is : x ≡ LeftCell instance key
    pub reaches : Reaches s m inst k instance
    pub own : frame_text s k ≡ k
    pub varies : is_fixed s key ≡ false
    pub declared : is_declared key ≡ true

  pub record PlaceFound (n p q : ℕ) (x : Left) : Type 0 where
    pub tree : Term
    pub is : x ≡ LeftAddress tree
    pub place : TermAt s code m inst site n tree p q
    pub reads : reads s tree ≡ true

  pub record ReferenceIs (line n p q : ℕ) (x : Left) : Type 0 where
    pub tree : Term
    pub class : ℕ
    pub is_class : Classed s class
    pub is : x ≡ LeftReference line tree
    pub place : TermAt s code m inst site n tree p q
    pub leaves : (ks : List Kind) → LeavesIs s tree ks (Refers class ∷ ks)

  -- through a parameter by name only a variable is assigned to
  pub record NamedFound (line n p q : ℕ) (tree : Term) : Type 0 where
    pub instance : ℕ
    pub key : meaning.Key
    pub is : tree ≡ NamedOf instance key (ForPlace false line)
    pub place : UseIs s code m inst site n instance key (ForPlace false line) p q

  pub record NamedReference (class line n p q : ℕ) (x : Left) : Type 0 where
    pub tree : Term
    pub is_class : Classed s class
    pub is : x ≡ LeftNamed class line tree
    pub found : NamedFound line n p q tree

  abbrev pub LeftFits : Stored → Left → Type 0
  LeftFits (InCell k key) x = Inside s.tables t k → HasCell s k key → CellFound k key x
  LeftFits (AtAddress d es line) x = (n p q : ℕ) → ElementAt s code site n line 0 d es (ExprsAt s code site (suc n) es) p q → PlaceFound n p q x
  LeftFits (AtAttribute e) x = (n p q : ℕ) → PlaceAt s code site n 0 e p q → PlaceFound n p q x
  LeftFits (ToReference e line) x = (n p q : ℕ) → ReferencePlaceAt s code site n e p q → ReferenceIs line n p q x
  LeftFits (ToText e line) x = (n p q : ℕ) → ExprAt s code site n e p q → (y : Term) × (x ≡ LeftText line y) × OperandAt s code m inst site n y p q
  LeftFits (ToResult k line) x = (n p q : ℕ) → ResultAt s code site n k p q → (y : Term) × (x ≡ LeftText line y) × OperandAt s code m inst site n y p q
  LeftFits (ToNamed d line) x = (n p q : ℕ) → ByNameAt s code site n d NoMore (ForPlace false line) p q → PlaceFound n p q x
  LeftFits (ToNamedText d line) x = (n p q z : ℕ) → ByNameAt s code site n d NoMore (ForPlace false line) p z → Is code i.Fetch z q → (y : Term) × (x ≡ LeftText line y) × OperandAt s code m inst site n y p q
  LeftFits (ToNamedReference d class line) x = (n p q : ℕ) → ByNameAt s code site n d NoMore (ForPlace false line) p q → NamedReference class line n p q x
  LeftFits NoPlace x = Unit {0}

  left_cell : (d : DeclNo) (es : Expressions) → Varies s d → LeftFits (stored_variable s d es) (variable_left s m inst d es)
  unfolding home_of
  left_cell d NoMore varies = λ ins has.
      let r = reach (block_of s d) ins in
      record { instance = r.0; is = ap (λ o. left_in o (λ j. LeftCell j (Declared d.0))) r.2; reaches = r.1; own = own_frame s agrees (block_of s d) (Declared d.0) has refl; varies = varies; declared = refl }
  left_cell d (Then e es) varies = tt

  left_element : (d : DeclNo) (es : Expressions) (line : ℕ) → Varies s d → LeftFits (stored_element d es line) (array_left s m inst line d es)
  unfolding home_of
  left_element d NoMore line varies = tt
  left_element d (Then e es) line varies = λ n p q a.
      let r = reach (block_of s d) a.array.inside in
      let terms = close_all s m inst (Then e es) in
      record {
        tree = ElementOf line (Cell r.0 (Declared d.0)) terms;
        is = ap (λ o. left_in o (λ j. LeftAddress (ElementOf line (Cell j (Declared d.0)) terms))) r.2;
        place = (a.x, a.y, (record { text = block_of s d; load = a.array.load; reaches = r.1; own = own_frame s agrees (block_of s d) (Declared d.0) a.array.within refl; has = a.array.within; varies = varies }, refl), close_all_at s code m inst site agrees reach (Then e es) (suc n) a.x a.y a.subscripts, subst (λ c. At code (i.Elem (pos c) (pos 0)) line a.y q) (count_close s code m inst site agrees reach (Then e es)) a.found);
        reads = refl;
      }

  -- of an array by name
  left_named_element : (d : DeclNo) (e : Expression) (es : Expressions) (line : ℕ) → Varies s d → ((n p q : ℕ) → PlaceAt s code site n 0 e p q → NamedArrayPlaceAt s code site n line 0 d es (ExprsAt s code site (suc n) es) p q) → LeftFits (stored_anew e es) (named_array_left s m inst line d es)
  left_named_element d e NoMore line varies f = tt
  left_named_element d e (Then a es) line varies f = λ n p q x.
      let terms = close_all s m inst (Then a es) in
      let y = named_element_at s code m inst site agrees reach None d line n (Then a es) (ExprsAt s code site (suc n) (Then a es)) terms (λ p q. close_all_at s code m inst site agrees reach (Then a es) (suc n) p q) (count_close s code m inst site agrees reach (Then a es)) p q varies (f n p q x) in
      record { tree = named_array_place s m inst line d (Then a es) terms; is = refl; place = y.0; reads = y.1 }

  left_formal : (d : DeclNo) (e : Expression) (es : Expressions) (line : ℕ) (by : Mode) (kind : FormalKind) → Varies s d → ((n p q : ℕ) → PlaceAt s code site n 0 e p q → FormalPlaceAt s code site n line 0 d by kind es (ExprsAt s code site (suc n) es) p q) → LeftFits (stored_formal s e d es line by kind) (formal_left s m inst line d by kind es)
  left_formal d e es line mode.ByName shape.Simple varies f = tt
  left_formal d e es line mode.ByName shape.Array varies f = left_named_element d e es line varies f
  left_formal d e es line mode.ByName shape.Procedure varies f = tt
  left_formal d e es line mode.ByValue shape.Simple varies f = left_cell d es varies
  left_formal d e es line mode.ByValue shape.Array varies f = left_element d es line varies
  left_formal d e es line mode.ByValue shape.Procedure varies f = tt
  left_formal d e es line mode.ByReference shape.Simple varies f = left_cell d es varies
  left_formal d e es line mode.ByReference shape.Array varies f = left_element d es line varies
  left_formal d e es line mode.ByReference shape.Procedure varies f = tt

  left_result : (k : ℕ) (es : Expressions) → LeftFits (stored_result k es) (result_left s m inst k es)
  left_result k NoMore = λ ins has.
      let r = reach k ins in
      record { instance = r.0; is = ap (λ o. left_in o (λ j. LeftCell j Result)) r.2; reaches = r.1; own = own_frame s agrees k Result has refl; varies = refl; declared = refl }
  left_result k (Then e es) = tt

  left_declared : (d : DeclNo) (e : Expression) (es : Expressions) (line : ℕ) (o : Option Entry) → entry_of s.tables d ≡ o → ((n p q : ℕ) → PlaceAt s code site n 0 e p q → DeclaredPlaceAt s code site n line 0 d o es (ExprsAt s code site (suc n) es) p q) → LeftFits (stored_declared s e d es line o) (declared_left s m inst line d o es)
  left_declared d e es line (Some (entry.Variable type)) is f = left_cell d es (ap is_constant is)
  left_declared d e es line (Some (entry.Constant type)) is f = tt
  left_declared d e es line (Some (entry.Array element dimensions)) is f = left_element d es line (ap is_constant is)
  left_declared d e es line (Some (entry.Formal x)) is f = left_formal d e es line x.mode x.kind (ap is_constant is) f
  left_declared d e es line (Some (entry.Procedure result k)) is f = left_result k es
  left_declared d e es line (Some (entry.Class block)) is f = tt
  left_declared d e es line (Some (entry.Virtual result own)) is f = tt
  left_declared d e es line (Some (entry.Unspecified written)) is f = tt
  left_declared d e es line (Some (entry.Attribute name parameter result)) is f = tt
  left_declared d e es line None is f = tt

  pub left_named : (x : Option Denotation) (e : Expression) (es : Expressions) (line : ℕ) → ((n p q : ℕ) → PlaceAt s code site n 0 e p q → NamedPlaceAt s code site n line 0 x es (ExprsAt s code site (suc n) es) p q) → LeftFits (stored_named s e x es line) (named_left s m inst line x es)
  left_named (Some (denotation.Declared d)) e es line f = left_declared d e es line (entry_of s.tables d) refl f
  left_named (Some (denotation.Standard name)) e es line f = tt
  left_named None e es line f = tt

  -- the result of a match
  pub left_match : (o : Option ℕ) (x : Stored) (y : Left) → LeftFits x y → LeftFits (stored_match o x) (match_left s m inst o y)
  left_match None x y h = h
  left_match (Some k) x y h = left_result k NoMore

  -- an attribute of an object is found anew
  left_place : (e : Expression) → LeftFits (AtAttribute e) (LeftAddress (close_place s m inst e))
  left_place e = λ n p q a. let x = place_at s code m inst site agrees reach None e n p q a in record { tree = close_place s m inst e; is = refl; place = x.0; reads = x.1 }

  left_by : {A : Type 0} (o : Option A) (e : Expression) (x : Stored) (y : Left) → (o ≡ None → LeftFits x y) → LeftFits (stored_found o e x) (left_found o (close_place s m inst e) y)
  left_by None e x y h = h refl
  left_by (Some z) e x y h = left_place e

  pub left_at : (e : Expression) → LeftFits (stored_left s e) (left_variable s m inst e)
  left_at (syntax.Named name es) =
      let line = line_at s name.token.0 in
      let whole : Expression = syntax.Named name es in
      left_by (connection_at s name.token.0) whole (stored_match (text_of_procedure s (own_match s whole)) (stored_named s whole (denoted s name.token.0) es line)) (match_left s m inst (text_of_procedure s (own_match s whole)) (named_left s m inst line (denoted s name.token.0) es)) (λ none.
      left_match (text_of_procedure s (own_match s whole)) (stored_named s whole (denoted s name.token.0) es line) (named_left s m inst line (denoted s name.token.0) es) (left_named (denoted s name.token.0) whole es line (λ n p q a.
      subst (λ o. ThroughAt o (λ k. PlaceBehindAt s code line 0 (denoted s name.token.0) es (ConnectedAt s code site n k) (ExprsAt s code site (suc n) es)) (NamedPlaceAt s code site n line 0 (denoted s name.token.0) es (ExprsAt s code site (suc n) es)) p q) none a)))
  left_at (syntax.Dot token x name es) = left_by (declared_attribute (denoted s name.token.0)) (syntax.Dot token x name es) NoPlace NoLeftSide (λ none. tt)
  left_at (syntax.If token c x y) = tt
  left_at (syntax.Binary op token x y) = tt
  left_at (syntax.Not token x) = tt
  left_at (syntax.Signed k token x) = tt
  left_at (syntax.Member member token x class) = tt
  left_at (syntax.Qua token x class) = tt
  left_at (syntax.Constant x token) = tt
  left_at (syntax.This token class) = tt
  left_at (syntax.New token class es) = tt
  left_at (syntax.Parentheses token x) = tt

  -- the text that is assigned to
  left_text_at : (o : Option ℕ) (e : Expression) (line : ℕ) → LeftFits (stored_text o e line) (LeftText line (result_or s m inst o (close s m inst e)))
  left_text_at None e line = λ n p q a. (close s m inst e, refl, close_at s code m inst site agrees reach e n p q a)
  left_text_at (Some k) e line = λ n p q a.
      let r = reach k a.inside in (
        Cell r.0 Result,
        ap (λ o. LeftText line (in_instance o (λ j. Cell j Result))) r.2,
        (record { text = k; load = a.load; reaches = r.1; own = own_frame s agrees k Result a.within refl; has = a.within; varies = refl }, refl),
      )

  -- a reference
  pub left_reference : (e : Expression) (line : ℕ) → LeftFits (ToReference e line) (LeftReference line (reference_place s m inst e))
  left_reference e line = λ n p q a.
      let x = reference_at s code m inst site agrees reach e n p q a in
      record { tree = reference_place s m inst e; class = x.class; is_class = x.is_class; is = refl; place = (x.place).term; leaves = (x.place).leaves }

  -- through a parameter by name
  named_found : (d : DeclNo) (line n p q : ℕ) → Varies s d → ByNameAt s code site n d NoMore (ForPlace false line) p q → NamedFound line n p q (name_term s m inst d NoMore (ForPlace false line))
  named_found d line n p q varies a = used_at s code m inst site agrees reach d NoMore (ForPlace false line) n (λ x. NamedFound line n p q x) p q varies tt tt (λ j b. record { instance = j; key = Declared d.0; is = refl; place = b }) a

  named_place : (d : DeclNo) (line : ℕ) → Varies s d → LeftFits (ToNamed d line) (LeftAddress (name_term s m inst d NoMore (ForPlace false line)))
  named_place d line varies = λ n p q a.
      let x = named_found d line n p q varies a in
      record {
        tree = NamedOf x.instance x.key (ForPlace false line);
        is = ap LeftAddress x.is;
        place = x.place;
        reads = refl;
      }

  named_text_at : (d : DeclNo) (line : ℕ) → Varies s d → LeftFits (ToNamedText d line) (LeftText line (ValueAt (name_term s m inst d NoMore (ForPlace false line))))
  named_text_at d line varies = λ n p q z a fetch.
      let x = named_found d line n p z varies a in
      (ValueAt (NamedOf x.instance x.key (ForPlace false line)), ap (λ z. LeftText line (ValueAt z)) x.is, ((z, x.place, record { kind = Named; left = λ ks. refl; fetches = fetch }), refl))

  named_reference : (d : DeclNo) (o : Option ℕ) (line : ℕ) → Varies s d → class_of_formal s d ≡ o → LeftFits (stored_held d o line) (left_held o line (name_term s m inst d NoMore (ForPlace false line)))
  named_reference d None line varies e = tt
  named_reference d (Some k) line varies e = λ n p q a.
      record {
        tree = name_term s m inst d NoMore (ForPlace false line);
        is_class = qualification_classed s (type_of_formal (entry_of s.tables d)) k e;
        is = refl;
        found = named_found d line n p q varies a;
      }

  left_by_name : (d : DeclNo) (g : Bool) (sign : Assignment) (line : ℕ) (e : Expression) → Varies s d → by_name s e ≡ Some d → LeftFits (stored_named_by g sign s d line) (close_left_of g sign s m inst line e)
  left_by_name d true assignment.Value line e varies is = subst (λ o. LeftFits (ToNamedText d line) (LeftText line (named_text s m inst line o (result_or s m inst (result_meant s e) (close s m inst e))))) (sym is) (named_text_at d line varies)
  left_by_name d true assignment.Reference line e varies is = subst (λ o. LeftFits (ToNamed d line) (left_plain s m inst line o e)) (sym is) (named_place d line varies)
  left_by_name d false assignment.Value line e varies is = subst (λ o. LeftFits (ToNamed d line) (left_plain s m inst line o e)) (sym is) (named_place d line varies)
  left_by_name d false assignment.Reference line e varies is = subst (λ o. LeftFits (stored_held d (class_of_formal s d) line) (reference_left s m inst line o e)) (sym is) (named_reference d (class_of_formal s d) line varies refl)

  left_by_sign : (g : Bool) (sign : Assignment) (line : ℕ) (e : Expression) → by_name s e ≡ None → LeftFits (stored_by_sign g sign s line e) (close_left_of g sign s m inst line e)
  left_by_sign true assignment.Value line e is = subst (λ o. LeftFits (stored_text (result_meant s e) e line) (LeftText line (named_text s m inst line o (result_or s m inst (result_meant s e) (close s m inst e))))) (sym is) (left_text_at (result_meant s e) e line)
  left_by_sign true assignment.Reference line e is = subst (λ o. LeftFits (stored_left s e) (left_plain s m inst line o e)) (sym is) (left_at e)
  left_by_sign false assignment.Value line e is = subst (λ o. LeftFits (stored_left s e) (left_plain s m inst line o e)) (sym is) (left_at e)
  left_by_sign false assignment.Reference line e is = subst (λ o. LeftFits (ToReference e line) (reference_left s m inst line o e)) (sym is) (left_reference e line)

  -- the declaration of a parameter by name varies
  formal_varies : (d : DeclNo) (o : Option Entry) (f : DeclNo) → entry_of s.tables d ≡ o → formal_by_name d o ≡ Some f → (d ≡ f) × Varies s d
  formal_varies d (Some (entry.Formal x)) f e is = by_mode x.mode x.kind is
    where
      by_mode : (by : Mode) (kind : FormalKind) → named_formal by kind d ≡ Some f → (d ≡ f) × Varies s d
      by_mode mode.ByName shape.Simple h = (cc (h), ap is_constant e)
      by_mode mode.ByName shape.Array h = absurd (cc (h))
      by_mode mode.ByName shape.Procedure h = absurd (cc (h))
      by_mode mode.ByValue kind h = absurd (cc (h))
      by_mode mode.ByReference kind h = absurd (cc (h))
  formal_varies d (Some (entry.Variable type)) f e is = absurd (cc (is))
  formal_varies d (Some (entry.Constant type)) f e is = absurd (cc (is))
  formal_varies d (Some (entry.Array element dimensions)) f e is = absurd (cc (is))
  formal_varies d (Some (entry.Procedure result k)) f e is = absurd (cc (is))
  formal_varies d (Some (entry.Class block)) f e is = absurd (cc (is))
  formal_varies d (Some (entry.Virtual result own)) f e is = absurd (cc (is))
  formal_varies d (Some (entry.Unspecified written)) f e is = absurd (cc (is))
  formal_varies d (Some (entry.Attribute name parameter result)) f e is = absurd (cc (is))
  formal_varies d None f e is = absurd (cc (is))

  denoted_varies : (x : Option Denotation) (d : DeclNo) → name_denoted s x ≡ Some d → Varies s d
  denoted_varies (Some (denotation.Declared c)) d is = let x = formal_varies c (entry_of s.tables c) d refl is in subst (Varies s) x.0 x.1
  denoted_varies (Some (denotation.Standard name)) d is = absurd (cc (is))
  denoted_varies None d is = absurd (cc (is))

  named_varies : (e : Expression) (d : DeclNo) → by_name s e ≡ Some d → Varies s d
  unfolding by_name
  named_varies (syntax.Named name NoMore) d is = denoted_varies (denoted s name.token.0) d is
  named_varies _ d is = absurd (cc (is))

  left_of : (g : Bool) (sign : Assignment) (line : ℕ) (e : Expression) → LeftFits (stored_of g sign s line e) (close_left_of g sign s m inst line e)
  left_of g sign line e = by_formal (by_name s e) refl
    where
      by_formal : (o : Option DeclNo) → by_name s e ≡ o → LeftFits (stored_or_named o g sign s line e) (close_left_of g sign s m inst line e)
      by_formal None is = left_by_sign g sign line e is
      by_formal (Some d) is = left_by_name d g sign line e (named_varies e d is) is

  -- what a value is given to, and what is in hand for it
  pub data TargetFits : Stored → Target → List Kind → Type 0 where
    in_cell : {k j : ℕ} {key : meaning.Key} → Reaches s m inst k j → HasCell s k key → frame_text s k ≡ k → is_fixed s key ≡ false → is_declared key ≡ true → TargetFits (InCell k key) (ToCell j key) []
    at_address : {d : DeclNo} {es : Expressions} {line : ℕ} {kind : Kind} → IsRead kind → TargetFits (AtAddress d es line) ToAddress (kind ∷ [])
    at_attribute : {e : Expression} {kind : Kind} → IsRead kind → TargetFits (AtAttribute e) ToAddress (kind ∷ [])
    to_reference : {e : Expression} {line k : ℕ} → Classed s k → TargetFits (ToReference e line) (meaning.ToReference line) (Refers k ∷ [])
    to_text : {e : Expression} {line : ℕ} → TargetFits (ToText e line) (meaning.ToText line) (Any ∷ [])
    to_result : {k line : ℕ} → TargetFits (ToResult k line) (meaning.ToText line) (Any ∷ [])
    to_named : {d : DeclNo} {line : ℕ} {kind : Kind} → IsRead kind → TargetFits (ToNamed d line) ToAddress (kind ∷ [])
    to_named_text : {d : DeclNo} {line : ℕ} → TargetFits (ToNamedText d line) (meaning.ToText line) (Any ∷ [])
    to_named_reference : {d : DeclNo} {class line : ℕ} → Classed s class → TargetFits (ToNamedReference d class line) (meaning.ToNamed class line) (Named ∷ [])

  pub data AllFit : List Stored → List Target → List (List Kind) → Type 0 where
    no_fit : AllFit [] [] []
    more_fit : {x : Stored} {xs : List Stored} {y : Target} {ys : List Target} {k : List Kind} {kss : List (List Kind)} → TargetFits x y k → AllFit xs ys kss → AllFit (x ∷ xs) (y ∷ ys) (k ∷ kss)

  fit_append : {x : Stored} {y : Target} {k : List Kind} (xs : List Stored) (ys : List Target) (kss : List (List Kind)) → AllFit xs ys kss → TargetFits x y k → AllFit (xs ++ x ∷ []) (ys ++ y ∷ []) (kss ++ k ∷ [])
  fit_append _ _ _ no_fit h = more_fit h no_fit
  fit_append _ _ _ (more_fit {xs = xs} {ys = ys} {kss = kss} f more) h = more_fit f (fit_append xs ys kss more h)

  fit_reverse : (xs : List Stored) (ys : List Target) (kss : List (List Kind)) → AllFit xs ys kss → AllFit (reverse xs) (reverse ys) (reverse kss)
  fit_reverse _ _ _ no_fit = no_fit
  fit_reverse _ _ _ (more_fit {x} {xs} {y} {ys} {k} {kss} f more) =
      subst (λ z. AllFit z (reverse (y ∷ ys)) (reverse (k ∷ kss))) (sym (reverse_first x xs))
      (subst (λ z. AllFit (reverse xs ++ x ∷ []) z (reverse (k ∷ kss))) (sym (reverse_first y ys))
      (subst (λ z. AllFit (reverse xs ++ x ∷ []) (reverse ys ++ y ∷ []) z) (sym (reverse_first k kss)) (fit_append (reverse xs) (reverse ys) (reverse kss) (fit_reverse xs ys kss more) f)))

  -- the store of a value stands for its target
  stores : {x : Stored} {y : Target} {k : List Kind} (used p q : ℕ) (ks : List Kind) → TargetFits x y k → StoreAt s code site (length (k ++ ks)) x p q → TargetAt s code m inst (site_at t b used) y p q (Any ∷ k ++ ks) ks
  stores used p q ks (in_cell {k} r has own varies declared) a = (record { text = k; is = a; reaches = r; own = own; has = has; varies = varies; declared = declared }, refl)
  stores used p q ks (at_address {kind = kind} r) a = (a, record { place = kind; reads = r; «in» = refl })
  stores used p q ks (at_attribute {kind = kind} r) a = (a, record { place = kind; reads = r; «in» = refl })
  stores used p q ks (to_reference {k = k} c) a = record { is = a; place = Refers k; refers = of_class c; left = ks; «in» = refl; out = refl }
  stores used p q ks to_text a = (a, refl)
  stores used p q ks to_result a = (a, refl)
  stores used p q ks (to_named {kind = kind} r) a = (a, record { place = kind; reads = r; «in» = refl })
  stores used p q ks to_named_text a = (a, refl)
  stores used p q ks (to_named_reference {class = k} c) a =
      let h = a.1 in
      record {
        x = a.0;
        fits = record {
          left = Named ∷ ks;
          fits = record { is_class = c; held = record { x = h.x; y = h.y; z = h.z; within = h.within; address = record { is = h.address.is; fits = h.address.fits }; under = h.under; put = h.put; again = record { is = h.again.is; fits = h.again.fits } } };
          «in» = refl;
          out = refl;
        };
        put = record { is = a.2; place = Named; refers = by_name_alone; left = ks; «in» = refl; out = refl };
      }

  store_is : {x : Stored} {y : Target} {k : List Kind} (p q : ℕ) (before behind : List Kind) → TargetFits x y k → TargetAt s code m inst site y p q before behind → StoreIs s code m inst site y p q before behind
  store_is p q before behind (in_cell r has own varies declared) a = a
  store_is p q before behind (at_address r) a = a
  store_is p q before behind (at_attribute r) a = a
  store_is p q before behind (to_reference c) a = a
  store_is p q before behind to_text a = a
  store_is p q before behind to_result a = a
  store_is p q before behind (to_named r) a = a
  store_is p q before behind to_named_text a = a
  store_is p q before behind (to_named_reference c) a = a

  below_is : {x : Stored} {y : Target} {k : List Kind} (ks : List Kind) → TargetFits x y k → below x (length (k ++ ks)) ≡ length ks
  below_is ks (in_cell r has own varies declared) = refl
  below_is ks (at_address r) = refl
  below_is ks (at_attribute r) = refl
  below_is ks (to_reference c) = refl
  below_is ks to_text = refl
  below_is ks to_result = refl
  below_is ks (to_named r) = refl
  below_is ks to_named_text = refl
  below_is ks (to_named_reference c) = refl

  gives_is : (used temp : ℕ) (xs : List Stored) (ys : List Target) (kss : List (List Kind)) (p q : ℕ) (ks : List Kind) → AllFit xs ys kss → GivesAt s code site temp (length (under kss ks)) xs p q → GivesIs s code m inst (site_at t b used) temp ys p q (under kss ks) ks
  gives_is used temp _ _ _ p q ks no_fit a = (a, refl)
  gives_is used temp _ _ _ p q ks (more_fit {xs = xs} {ys = ys} {kss = kss} f more) a =
      let load = a.2 in
      (a.0, a.1, under kss ks, record { is = load.is; fits = load.fits }, stores used a.0 a.1 (under kss ks) f a.3, gives_is used temp xs ys kss a.1 q ks more (subst (λ n. GivesAt s code site temp n xs a.1 q) (below_is (under kss ks) f) a.4))

  module _ (fs : Frames) (Below : Wait → Type 0) (low : Settled s code t b u) where
    abbrev pub Works : List Item → ℕ → List Kind → Type 0
    Works w p ks = WorkAt s code m fs Below inst t b u w p ks

    -- the left sides are found from left to right, with their addresses on the stack
    pub record LeftsAre (xs : List Stored) (o : Option Lefts) (End : ℕ → ℕ → ℕ → Type 0) (ks : List Kind) (p q : ℕ) : Type 0 where
      pub found : Lefts
      pub is : o ≡ Some found
      pub kinds : List (List Kind)
      pub fit : AllFit xs found.targets kinds
      pub y : ℕ
      pub ends : End (length (over kinds ks)) y q
      pub works : (w : List Item) → Works w y (over kinds ks) → Works (found.work ++ w) p ks

    -- one that leaves a value
    held_left : (st : Stored) (v : Left) (kind : Kind) (tree : Term) (y : Target) (xs : List Stored) (o : Option Lefts) (End : ℕ → ℕ → ℕ → Type 0) (ks : List Kind) (p x q : ℕ) → TargetFits st y (kind ∷ []) → ((r : Lefts) → before v (Some r) ≡ Some (let z : Lefts = record { work = Do (Eval tree) ∷ r.work; targets = y ∷ r.targets } in z)) → TermAt s code m inst site (length ks) tree p x → LeavesIs s tree ks (kind ∷ ks) → LeftsAre xs o End (kind ∷ ks) x q
        → LeftsAre (st ∷ xs) (before v o) End ks p q
    held_left st v kind tree y xs o End ks p x q fits is a leaves r = record {
      found = record { work = Do (Eval tree) ∷ r.found.work; targets = y ∷ r.found.targets };
      is = ap (before v) r.is ∙ is r.found;
      kinds = (kind ∷ []) ∷ r.kinds;
      fit = more_fit fits r.fit;
      y = r.y;
      ends = r.ends;
      works = λ w z. pends s code m fs Below inst t b u low (r.found.work ++ w) (Eval tree) p x ks (kind ∷ ks) (a, leaves) (r.works w z);
    }

    text_left : (st : Stored) (line : ℕ) (v : Left) (xs : List Stored) (o : Option Lefts) (End : ℕ → ℕ → ℕ → Type 0) (ks : List Kind) (p x q : ℕ) → TargetFits st (meaning.ToText line) (Any ∷ []) → ((y : Term) × (v ≡ LeftText line y) × OperandAt s code m inst site (length ks) y p x) → LeftsAre xs o End (Any ∷ ks) x q → LeftsAre (st ∷ xs) (before v o) End ks p q
    text_left st line v xs o End ks p x q fits f r = held_left st v Any f.0 (meaning.ToText line) xs o End ks p x q fits (λ r. ap (λ z. before z (Some r)) f.1) (f.2).0 (leaves_any s f.0 ks (f.2).1) r

    place_left : (st : Stored) (v : Left) (xs : List Stored) (o : Option Lefts) (End : ℕ → ℕ → ℕ → Type 0) (ks : List Kind) (p x q : ℕ) → ((kind : Kind) → IsRead kind → TargetFits st ToAddress (kind ∷ [])) → PlaceFound (length ks) p x v → ((ks : List Kind) → LeftsAt s code site (length ks) xs End x q → LeftsAre xs o End ks x q) → LeftsAt s code site (suc (length ks)) xs End x q → LeftsAre (st ∷ xs) (before v o) End ks p q
    place_left st v xs o End ks p x q fits f rec more =
        let y = leaves_read s f.tree ks f.reads in
        held_left st v y.0 f.tree ToAddress xs o End ks p x q (fits y.0 y.1) (λ r. ap (λ z. before z (Some r)) f.is) f.place y.2 (rec (y.0 ∷ ks) more)

    one_left : (x : Stored) (v : Left) (xs : List Stored) (o : Option Lefts) (End : ℕ → ℕ → ℕ → Type 0) (ks : List Kind) (p q : ℕ) → LeftFits x v → ((ks : List Kind) (p : ℕ) → LeftsAt s code site (length ks) xs End p q → LeftsAre xs o End ks p q) → LeftsAt s code site (length ks) (x ∷ xs) End p q → LeftsAre (x ∷ xs) (before v o) End ks p q
    one_left (InCell k key) v xs o End ks p q fit rec a =
        let f = fit a.0 a.1 in
        let r = rec ks p a.2 in
        record {
          found = record { work = r.found.work; targets = ToCell f.instance key ∷ r.found.targets };
          is = ap (λ z. before z o) f.is ∙ ap (λ z. before (LeftCell f.instance key) z) r.is;
          kinds = [] ∷ r.kinds;
          fit = more_fit (in_cell f.reaches a.1 f.own f.varies f.declared) r.fit;
          y = r.y;
          ends = r.ends;
          works = r.works;
        }
    one_left (AtAddress d es line) v xs o End ks p q fit rec a =
        let f = fit (length ks) p a.0 a.1 in
        place_left (AtAddress d es line) v xs o End ks p a.0 q (λ kind r. at_address r) f (λ ks b. rec ks a.0 b) a.2
    one_left (AtAttribute e) v xs o End ks p q fit rec a = place_left (AtAttribute e) v xs o End ks p a.0 q (λ kind r. at_attribute r) (fit (length ks) p a.0 a.1) (λ ks b. rec ks a.0 b) a.2
    one_left (ToReference e line) v xs o End ks p q fit rec a =
        let f = fit (length ks) p a.0 a.1 in
        held_left (ToReference e line) v (Refers f.class) f.tree (meaning.ToReference line) xs o End ks p a.0 q (to_reference f.is_class) (λ r. ap (λ z. before z (Some r)) f.is) f.place (f.leaves ks) (rec (Refers f.class ∷ ks) a.0 a.2)
    one_left (ToText e line) v xs o End ks p q fit rec a = text_left (ToText e line) line v xs o End ks p a.0 q to_text (fit (length ks) p a.0 a.1) (rec (Any ∷ ks) a.0 a.2)
    one_left (ToResult k line) v xs o End ks p q fit rec a = text_left (ToResult k line) line v xs o End ks p a.0 q to_result (fit (length ks) p a.0 a.1) (rec (Any ∷ ks) a.0 a.2)
    one_left (ToNamed d line) v xs o End ks p q fit rec a = place_left (ToNamed d line) v xs o End ks p a.0 q (λ kind r. to_named r) (fit (length ks) p a.0 a.1) (λ ks b. rec ks a.0 b) a.2
    one_left (ToNamedText d line) v xs o End ks p q fit rec a = text_left (ToNamedText d line) line v xs o End ks p a.1 q to_named_text (fit (length ks) p a.1 a.0 a.2 a.3) (rec (Any ∷ ks) a.1 a.4)
    one_left (ToNamedReference d class line) v xs o End ks p q fit rec a =
        let f = fit (length ks) p a.0 a.1 in
        let x = f.found in
        held_left (ToNamedReference d class line) v Named (NamedOf x.instance x.key (ForPlace false line)) (meaning.ToNamed class line) xs o End ks p a.0 q (to_named_reference f.is_class) (λ r. ap (λ z. before z (Some r)) (f.is ∙ ap (LeftNamed class line) x.is)) x.place refl (rec (Named ∷ ks) a.0 a.2)
    one_left NoPlace v xs o End ks p q fit rec a = absurd a

    pub lefts_at : (es : List LeftSide) (End : ℕ → ℕ → ℕ → Type 0) (ks : List Kind) (p q : ℕ) → LeftsAt s code site (length ks) (each_stored s es) End p q → LeftsAre (each_stored s es) (lefts s m inst es) End ks p q
    lefts_at [] End ks p q a = record { found = record { work = []; targets = [] }; is = refl; kinds = []; fit = no_fit; y = p; ends = a; works = λ w z. z }
    lefts_at (e ∷ es) End ks p q a =
        one_left (stored s e.sign (line_at s e.token) e.target) (close_left s m inst e.sign (line_at s e.token) e.target) (each_stored s es) (lefts s m inst es) End ks p q (left_of (is_text s e.target) e.sign (line_at s e.token) e.target) (λ ks p b. lefts_at es End ks p q b) a

    -- the value, and where it goes
    shares : (e : Expression) (xs : List Stored) (ys : List Target) (kss : List (List Kind)) (w : List Item) (p q : ℕ) (ks : List Kind) → AllFit xs ys kss → SharesAt s code site (length (over kss ks)) e xs p q → Works w q ks → Works (Do (Eval (close s m inst e)) ∷ Do (ShareOp (reverse ys)) ∷ w) p (over kss ks)
    shares e xs ys kss w p q ks f a k =
        let same : under (reverse kss) ks ≡ over kss ks = over_reverse kss ks in
        evals s code m fs Below inst t b u low (Do (ShareOp (reverse ys)) ∷ w) (close s m inst e) p a.x (over kss ks) (close_at s code m inst site agrees reach e (length (over kss ks)) p a.x a.value)
        (pends s code m fs Below inst t b u low w (ShareOp (reverse ys)) a.x q (Any ∷ over kss ks) ks (record {
          temp = a.temp;
          unused = a.behind;
          is_temp = record { behind = omega (arith, (low.at).low, a.behind); within = a.within };
          x = a.y;
          left = over kss ks;
          kept = a.kept;
          gives = subst (λ z. GivesIs s code m inst (site_at t b (suc a.temp)) a.temp (reverse ys) a.y q z ks) same
              (gives_is (suc a.temp) a.temp (reverse xs) (reverse ys) (reverse kss) a.y q ks (fit_reverse xs ys kss f) (subst (λ z. GivesAt s code site a.temp (length z) (reverse xs) a.y q) (sym same) a.gives));
          «in» = refl;
        }) k)

    pub goes_at : (e : Expression) (xs : List Stored) (ys : List Target) (kss : List (List Kind)) (w : List Item) (p q : ℕ) (ks : List Kind) → AllFit xs ys kss → GoesAt s code site e xs (length (over kss ks)) p q → Works w q ks → Works (Do (Eval (close s m inst e)) ∷ Do (assigning ys) ∷ w) p (over kss ks)
    goes_at e _ _ _ w p q ks no_fit a k = shares e [] [] [] w p q ks no_fit a k
    goes_at e _ _ _ w p q ks (more_fit {y = y} {k = kinds} f no_fit) a k =
        evals s code m fs Below inst t b u low (Do (StoreOp y) ∷ w) (close s m inst e) p a.0 (kinds ++ ks) (close_at s code m inst site agrees reach e (length (kinds ++ ks)) p a.0 a.1)
        (pends s code m fs Below inst t b u low w (StoreOp y) a.0 q (Any ∷ kinds ++ ks) ks (store_is a.0 q (Any ∷ kinds ++ ks) ks f (stores u a.0 q ks f a.2)) k)
    goes_at e _ _ _ w p q ks (more_fit {x = x} {y = y} {k = kinds} f (more_fit {x = x2} {xs = xs} {y = y2} {ys = ys} {k = kinds2} {kss = kss} g more)) a k =
        shares e (x ∷ x2 ∷ xs) (y ∷ y2 ∷ ys) (kinds ∷ kinds2 ∷ kss) w p q ks (more_fit f (more_fit g more)) a k
