-- The values of constants, gathered by the tokens at which they are declared.
use Rattle.std.proofs.Common.{◌≡◌, ◌≢◌, ◌<◌, ◌≤◌, ◌+◌, ⊎_elim, ℕ, ℤ, zero, suc, Bool, true, false, if◌then◌else◌, List, [], ◌∷◌, ◌++◌, length, map, drop, Option, Some, None, refl, sym, ap, ◌∙◌, subst, arith, length-append}
use Rattle.std.proofs.lemmas.Bool.{cases_eq, eq-eqb}
use Rattle.std.proofs.lemmas.List.{drop_more, drop_all}
use Rattle.std.specs.Prelude.{◌==◌, slice_get, slice_index_or, slice_set, option_map}
use Rattle.std.specs.Borrow.{Bor}
use Rattle.std.specs.declared.alloc.Global.{Global}
use Rattle.std.specs.declared.vec.Vec.{Vec}
use Rattle.sim_base.specs.declared.numbering.DeclNo.{DeclNo}
use Rattle.sim_base.specs.declared.numbering.TokenNo.{TokenNo}
use Rattle.sim_scope.specs.declared.bound.Bound.{Bound}
use Rattle.sim_scope.specs.declared.types.StandardClass.{StandardClass}
use Rattle.sim_scope.specs.declared.scopes.Declaration.{Declaration as Row}
use Rattle.sim_scope.specs.Access.{joined}
use Rattle.sim_scope.specs.Source.{Source, source_of}
use Rattle.sim_tree.specs.declared.expr.Identifier.{Identifier}
use Rattle.sim_tree.specs.declared.program.BlockPrefix.{BlockPrefix}
use Rattle.sim_tree.specs.declared.stmt.ArraySegment.{ArraySegment}
use Rattle.sim_tree.specs.declared.stmt.Block.{Block}
use Rattle.sim_tree.specs.declared.expr.LeadingSign.{LeadingSign}
use Rattle.sim_tree.specs.declared.stmt.Class.{Class}
use Rattle.sim_tree.specs.declared.stmt.Constant.{Constant}
use Rattle.sim_tree.specs.declared.stmt.Constant.TheVariants as constant
use Rattle.sim_tree.specs.declared.stmt.Decl.{Decl}
use Rattle.sim_tree.specs.declared.stmt.Decl.TheVariants as d
use Rattle.sim_tree.specs.declared.stmt.Procedure.{Procedure}
use Rattle.sim_tree.specs.declared.stmt.TypeName.{TypeName}
use Rattle.sim_tree.specs.declared.stmt.Variable.{Variable}
use Rattle.sim_tree.specs.Syntax.{Arrays, Declaration, DeclareClass, DeclareProcedure, Variables, declarations}
use Rattle.sim_tree.specs.SyntaxOfProgram.{declaration_syntax, prefix_syntax}
use Rattle.sim_tree.proofs.ProgramSyntaxLemmas.{syntax-Arrays, syntax-Class, syntax-Procedure, syntax-Variables, syntax-block, syntax-class, syntax-procedure}
use Rattle.sim_values.specs.Plain.{Plain, Integer}
use Rattle.sim_meaning.specs.Texts.{among_declarations, constant_in, constant_of, constant_value, row_constant, value_in, with_sign}
use Rattle.codegen_expr.specs.declared.cells.ConstantValue.{ConstantValue}
use Rattle.codegen_expr.specs.declared.cells.ConstantValue.TheVariants as value
use Rattle.codegen_expr.specs.Known.{plain_in}
use Rattle.program_texts.specs.declared.tree.TextTree.{TextTree}
use Rattle.program_texts.specs.declared.tree.TextTree.TheVariants as tree
use Rattle.program_texts.specs.TextTrees.{AreTexts, block_text, class_text, heading_of, prefixed_text, text_in}
use Rattle.text_tables.specs.declared.constants.Entered.{Entered}
use Rattle.text_tables.specs.Constants.{Among, ConstantsOf, Enters, GatheredTo, Gathers, Grown, IsValue, IsValueIn, OwesDeclarations, OwesFirst, OwesVariables, Reaches, Table, TextGathers, among_decls, among_declaration, among_variable, among_variable_list, constant_row, entered_at, entered_in, first_of, found_at, found_in, or_else}
use Rattle.text_tables.specs.Making.{Passes}
use Rattle.text_tables.proofs.Passing.{get_map, map-append, pass_all, pass_end, pass_next}
use Rattle.text_tables.proofs.Placing.{get_at, get_past, less, not_same, set_apart, set_there, text_at}

-- ---- rows

same_token : (m n : ℕ) → m ≡ n → (m == n) ≡ true
same_token m n e = eq-eqb m n e

pub first_all : (es : List Entered) (k : ℕ) → OwesFirst es k 0
unfolding OwesFirst
first_all es k s = refl

pub first_next : (es : List Entered) (k i : ℕ) (e : Entered) → OwesFirst es k i → i < length es → e ≡ slice_index_or es i e → e.text ≢ k → OwesFirst es k (i + 1)
unfolding OwesFirst
first_next es k i e owes le is other s =
    let from : drop i es ≡ e ∷ drop (i + 1) es = drop_more es i e le ∙ ap (λ y. y ∷ drop (i + 1) es) (sym is) in
    let no' : (e.text == k) ≡ false = not_same e.text k other in
    sym (ap (λ z. or_else (if z then Some (plain_in s e.value) else first_of s k (drop (i + 1) es)) None) no') ∙ ap (λ z. found_in s z k) (sym from) ∙ owes s

pub first_here : (es : List Entered) (k i : ℕ) (e : Entered) → OwesFirst es k i → i < length es → e ≡ slice_index_or es i e → e.text ≡ k → (s : Source) → plain_in s e.value ≡ found_in s es k
unfolding OwesFirst
first_here es k i e owes le is same s =
    let from : drop i es ≡ e ∷ drop (i + 1) es = drop_more es i e le ∙ ap (λ y. y ∷ drop (i + 1) es) (sym is) in
    let yes' : (e.text == k) ≡ true = same_token e.text k same in
    sym (ap (λ z. or_else (if z then Some (plain_in s e.value) else first_of s k (drop (i + 1) es)) None) yes') ∙ ap (λ z. found_in s z k) (sym from) ∙ owes s

pub first_end : (es : List Entered) (k i : ℕ) (v : Option ConstantValue) → OwesFirst es k i → length es ≤ i → v ≡ None → (s : Source) → plain_in s v ≡ found_in s es k
unfolding OwesFirst
first_end es k i v owes le e s = ap (plain_in s) e ∙ ap (λ z. found_in s z k) (sym (drop_all i es le)) ∙ owes s

first_append : (s : Source) (k : ℕ) (es : List Entered) (e : Entered) (other : Option Plain) → or_else (first_of s k (es ++ (e ∷ []))) other ≡ or_else (first_of s k es) (if e.text == k then plain_in s e.value else other)
first_append s k [] e other = cases (e.text == k)
  where
    cases : (b : Bool) → or_else (if b then Some (plain_in s e.value) else None) other ≡ (if b then plain_in s e.value else other)
    cases true = refl
    cases false = refl
first_append s k (x ∷ es) e other = cases (x.text == k) (first_append s k es e other)
  where
    cases : (b : Bool) → or_else (first_of s k (es ++ (e ∷ []))) other ≡ or_else (first_of s k es) (if e.text == k then plain_in s e.value else other)
        → or_else (if b then Some (plain_in s x.value) else first_of s k (es ++ (e ∷ []))) other ≡ or_else (if b then Some (plain_in s x.value) else first_of s k es) (if e.text == k then plain_in s e.value else other)
    cases true rest = refl
    cases false rest = rest

-- ---- values

pub value_integer : (x : Constant) (m : Option LeadingSign) (i : TokenNo) (z n : ℤ) → x ≡ constant.Integer m i z → n ≡ with_sign m z → IsValue (Some (value.Integer n)) x
unfolding IsValue
value_integer x m i z n is en s = ap (λ k. Some (Integer k)) en ∙ sym (ap (constant_value s) is)

pub value_character : (x : Constant) (i : TokenNo) (z : ℕ) → x ≡ constant.Character i z → IsValue (Some (value.Character z)) x
unfolding IsValue
value_character x i z is s = sym (ap (constant_value s) is)

pub value_text : (x : Constant) (i : TokenNo) (z : List ℕ) → x ≡ constant.Text i z → IsValue (Some (value.Text i)) x
unfolding IsValue
value_text x i z is s = sym (ap (constant_value s) is)

pub value_true : (x : Constant) (i : TokenNo) → x ≡ constant.True i → IsValue (Some (value.Truth true)) x
unfolding IsValue
value_true x i is s = sym (ap (constant_value s) is)

pub value_false : (x : Constant) (i : TokenNo) → x ≡ constant.False i → IsValue (Some (value.Truth false)) x
unfolding IsValue
value_false x i is s = sym (ap (constant_value s) is)

pub value_some : (o : Option Constant) (x : Constant) (v : Option ConstantValue) → o ≡ Some x → IsValue v x → IsValueIn v o
unfolding IsValue IsValueIn
value_some o x v is f s = f s ∙ sym (ap (value_in s) is)

pub value_none : (o : Option Constant) → o ≡ None → IsValueIn None o
unfolding IsValueIn
value_none o is s = sym (ap (value_in s) is)

-- ---- tables that grow

pub grown_first : (a : Table) (n : ℕ) → n ≡ length a → Grown a a n
grown_first a n e = record { long = omega (arith, e); same = λ t. refl }

empty_row : (a : Table) (v : Vec Entered Global) (t : ℕ) → v.items ≡ [] → entered_at (a ++ (v ∷ [])) t ≡ entered_at a t
empty_row [] v zero e = e
empty_row [] v (suc t) e = refl
empty_row (x ∷ xs) v zero e = refl
empty_row (x ∷ xs) v (suc t) e = empty_row xs v t e

pub grown_next : (a b c : Table) (n : ℕ) (v : Vec Entered Global) → Grown a b n → v.items ≡ [] → c ≡ b ++ (v ∷ []) → Grown a c (n + 1)
grown_next a b c n v f ev e =
    let le = f.long in
    let len : length c ≡ length b + length (v ∷ []) = ap length e ∙ length-append b (v ∷ []) in
    record { long = omega (arith, le, len); same = λ t. ap (λ z. entered_at z t) e ∙ empty_row b v t ev ∙ f.same t }

pub grown_end : (a b : Table) (n token end : ℕ) → Grown a b n → end ≡ token + 1 → end ≤ n → Reaches a b token
grown_end a b n token end f e le = let long = f.long in record { long = omega (arith, long, e, le); same = f.same }

pub enters_now : (a b c : Table) (token : ℕ) (e : Entered) (r r' : Vec Entered Global) → Reaches a b token → r ≡ slice_index_or b token r → r'.items ≡ r.items ++ (e ∷ []) → c ≡ slice_set b token r' → Enters a c token e
enters_now a b c token e r r' f is er ec =
    let le = f.long in
    let old : entered_at b token ≡ r.items = ap entered_in (get_at b token r le) ∙ ap (λ z. z.items) (sym is) in
    record {
      at = ap (λ z. entered_at z token) ec ∙ ap entered_in (set_there b token r' le) ∙ er ∙ ap (λ z. z ++ (e ∷ [])) (sym old ∙ f.same token);
      others = λ t other. ap (λ z. entered_at z t) ec ∙ ap entered_in (set_apart b token t r' other) ∙ f.same t;
    }

-- ---- parts of a text

module _ (k : ℕ) where
  pub gather_one : (a b : Table) (v : Variable) (value : Option ConstantValue) (e : Entered) → IsValueIn value v.value → e ≡ (let x : Entered = record { text = k; value = value } in x) → Enters a b v.name.token.0 e → Gathers k a b (among_variable v)
  unfolding found_at IsValueIn
  gather_one a b v value e ev ee f =
      let i = v.name.token.0 in
      let et : e.text ≡ k = ap (λ z. z.text) ee in
      let evalue : (s : Source) → plain_in s e.value ≡ value_in s v.value = λ s. ap (λ z. plain_in s z.value) ee ∙ ev s in
      record {
        here = λ s t other.
            ⊎_elim
            (λ (same : t ≡ i).
            ap (λ z. or_else (first_of s k (entered_at b z)) other) same ∙ ap (λ z. or_else (first_of s k z) other) f.at ∙ first_append s k (entered_at a i) e other
            ∙ ap (λ z. or_else (first_of s k (entered_at a i)) (if z then plain_in s e.value else other)) (same_token e.text k et)
            ∙ ap (λ z. or_else (first_of s k (entered_at a i)) z) (evalue s) ∙ ap (λ z. or_else (first_of s k (entered_at a z)) (value_in s v.value)) (sym same)
            ∙ ap (λ z. or_else (first_of s k (entered_at a t)) (if z then value_in s v.value else other)) (sym (same_token i t (sym same))))
            (λ apart.
            ap (λ z. or_else (first_of s k z) other) (f.others t apart)
            ∙ ap (λ z. or_else (first_of s k (entered_at a t)) (if z then value_in s v.value else other)) (sym (not_same i t (λ h. apart (sym h)))))
            (cases_eq t i);
        elsewhere = λ s j away t other.
            ⊎_elim
            (λ (same : t ≡ i).
            ap (λ z. or_else (first_of s j (entered_at b z)) other) same ∙ ap (λ z. or_else (first_of s j z) other) f.at ∙ first_append s j (entered_at a i) e other
            ∙ ap (λ z. or_else (first_of s j (entered_at a i)) (if z then plain_in s e.value else other)) (not_same e.text j (λ h. away (sym h ∙ et)))
            ∙ ap (λ z. or_else (first_of s j (entered_at a z)) other) (sym same))
            (λ apart. ap (λ z. or_else (first_of s j z) other) (f.others t apart))
            (cases_eq t i);
      }

  gathers_none : (a : Table) → Gathers k a a (λ s t other. other)
  gathers_none a = record { here = λ s t other. refl; elsewhere = λ s j away t other. refl }

  gathers_then : (a b c : Table) (f g : Among) → Gathers k a b f → Gathers k b c g → Gathers k a c (λ s t other. f s t (g s t other))
  gathers_then a b c f g x y = record { here = λ s t other. y.here s t other ∙ x.here s t (g s t other); elsewhere = λ s j away t other. y.elsewhere s j away t other ∙ x.elsewhere s j away t other }

  pub variables_all : (a : Table) (vs : List Variable) → OwesVariables k a vs a 0
  unfolding OwesVariables
  variables_all a vs end h = h

  pub variables_next : (a b c : Table) (vs : List Variable) (i : ℕ) (v : Variable) → OwesVariables k a vs b i → i < length vs → v ≡ slice_index_or vs i v → Gathers k b c (among_variable v) → OwesVariables k a vs c (i + 1)
  unfolding OwesVariables
  variables_next a b c vs i v owes le is one end rest =
      let from : drop i vs ≡ v ∷ drop (i + 1) vs = drop_more vs i v le ∙ ap (λ y. y ∷ drop (i + 1) vs) (sym is) in
      owes end (subst (λ z. Gathers k b end (among_variable_list z)) (sym from) (gathers_then b c end (among_variable v) (among_variable_list (drop (i + 1) vs)) one rest))

  pub variables_end : (a b : Table) (vs : List Variable) (i : ℕ) → OwesVariables k a vs b i → length vs ≤ i → Gathers k a b (among_variable_list vs)
  unfolding OwesVariables
  variables_end a b vs i owes le = owes b (subst (λ z. Gathers k b b (among_variable_list z)) (sym (drop_all i vs le)) (gathers_none b))

  as_declaration : (a b : Table) (x : Decl) (z : Declaration) → declaration_syntax x ≡ z → Gathers k a b (among_declaration z) → Gathers k a b (among_declaration (declaration_syntax x))
  as_declaration a b x z e f = subst (λ y. Gathers k a b (among_declaration y)) (sym e) f

  pub gather_variables : (a b : Table) (x : Decl) (t : TypeName) (l : Vec Variable Global) (vs : List Variable) → x ≡ d.Variables t l → vs ≡ l.items → Gathers k a b (among_variable_list vs) → Gathers k a b (among_declaration (declaration_syntax x))
  gather_variables a b x t l vs is same f = as_declaration a b x (Variables t l.items) (ap declaration_syntax is ∙ syntax-Variables t l) (subst (λ z. Gathers k a b (among_variable_list z)) same f)

  pub gather_arrays : (a : Table) (x : Decl) (t : TypeName) (i : TokenNo) (l : Vec ArraySegment Global) → x ≡ d.Arrays t i l → Gathers k a a (among_declaration (declaration_syntax x))
  gather_arrays a x t i l is = as_declaration a a x _ (ap declaration_syntax is ∙ syntax-Arrays t i l) (gathers_none a)

  pub gather_procedure : (a : Table) (x : Decl) (r : Option TypeName) (i : TokenNo) (q : Procedure) → x ≡ d.Procedure r i q → Gathers k a a (among_declaration (declaration_syntax x))
  gather_procedure a x r i q is = as_declaration a a x _ (ap declaration_syntax is ∙ syntax-Procedure r i q ∙ syntax-procedure q.name q.parameters q.modes q.specifications q.body q.end r i.0) (gathers_none a)

  pub gather_class : (a : Table) (x : Decl) (r : Option Identifier) (i : TokenNo) (q : Class) → x ≡ d.Class r i q → Gathers k a a (among_declaration (declaration_syntax x))
  gather_class a x r i q is = as_declaration a a x _ (ap declaration_syntax is ∙ syntax-Class r i q ∙ syntax-class q.name q.parameters q.modes q.specifications q.protections q.virtuals q.body q.end r i.0) (gathers_none a)

  pub declarations_all : (a : Table) (ds : List Decl) → OwesDeclarations k a ds a 0
  unfolding OwesDeclarations
  declarations_all a ds end h = h

  pub declarations_next : (a b c : Table) (ds : List Decl) (i : ℕ) (x : Decl) → OwesDeclarations k a ds b i → i < length ds → x ≡ slice_index_or ds i x → Gathers k b c (among_declaration (declaration_syntax x)) → OwesDeclarations k a ds c (i + 1)
  unfolding OwesDeclarations
  declarations_next a b c ds i x owes le is one end rest =
      let from : drop i ds ≡ x ∷ drop (i + 1) ds = drop_more ds i x le ∙ ap (λ y. y ∷ drop (i + 1) ds) (sym is) in
      owes end (subst (λ z. Gathers k b end (among_decls z)) (sym from) (gathers_then b c end (among_declaration (declaration_syntax x)) (among_decls (drop (i + 1) ds)) one rest))

  pub declarations_end : (a b : Table) (ds : List Decl) (i : ℕ) → OwesDeclarations k a ds b i → length ds ≤ i → Gathers k a b (among_decls ds)
  unfolding OwesDeclarations
  declarations_end a b ds i owes le = owes b (subst (λ z. Gathers k b b (among_decls z)) (sym (drop_all i ds le)) (gathers_none b))

  -- ---- one text

  one_declaration : (s : Source) (t : ℕ) (x : Declaration) (rest : List Declaration) → among_declaration x s t (among_declarations s t (declarations rest)) ≡ among_declarations s t (declarations (x ∷ rest))
  one_declaration s t (Variables type vs) rest = refl
  one_declaration s t (Arrays type i segments) rest = refl
  one_declaration s t (DeclareProcedure result i h a end) rest = refl
  one_declaration s t (DeclareClass prefix i h interface a end) rest = refl

  all_declarations : (s : Source) (t : ℕ) (ds : List Decl) → among_decls ds s t None ≡ among_declarations s t (declarations (map declaration_syntax ds))
  all_declarations s t [] = refl
  all_declarations s t (x ∷ xs) = ap (among_declaration (declaration_syntax x) s t) (all_declarations s t xs) ∙ one_declaration s t (declaration_syntax x) (map declaration_syntax xs)

  pub gather_block : (a b : Table) (x : TextTree) (r : Bor Block) (ds : List Decl) → x ≡ tree.Block r → ds ≡ r.now.declarations.items → Gathers k a b (among_decls ds) → TextGathers k a b x
  gather_block a b x r ds is same f = record {
    here = λ free s t.
        f.here s t None ∙ free s t (among_decls ds s t None) ∙ all_declarations s t ds ∙ ap (λ z. among_declarations s t (declarations (map declaration_syntax z))) same
        ∙ ap (λ z. constant_in s (Some (block_text z)) t) (sym (syntax-block r.now.token r.now.declarations r.now.statements r.now.end)) ∙ ap (λ z. constant_in s (Some (text_in z)) t) (sym is);
    elsewhere = f.elsewhere;
  }

  pub gather_prefixed : (a b : Table) (x : TextTree) (p : Bor BlockPrefix) (r : Bor Block) (ds : List Decl) → x ≡ tree.Prefixed p r → ds ≡ r.now.declarations.items → Gathers k a b (among_decls ds) → TextGathers k a b x
  gather_prefixed a b x p r ds is same f = record {
    here = λ free s t.
        f.here s t None ∙ free s t (among_decls ds s t None) ∙ all_declarations s t ds ∙ ap (λ z. among_declarations s t (declarations (map declaration_syntax z))) same
        ∙ ap (λ z. constant_in s (Some (prefixed_text (prefix_syntax p.now) z)) t) (sym (syntax-block r.now.token r.now.declarations r.now.statements r.now.end)) ∙ ap (λ z. constant_in s (Some (text_in z)) t) (sym is);
    elsewhere = f.elsewhere;
  }

  no_constants : (a : Table) (x y : TextTree) → x ≡ y → ((s : Source) (t : ℕ) → None ≡ constant_in s (Some (text_in y)) t) → TextGathers k a a x
  no_constants a x y is none = record { here = λ free s t. free s t None ∙ none s t ∙ ap (λ z. constant_in s (Some (text_in z)) t) (sym is); elsewhere = λ s j away t other. refl }

  pub gather_in_procedure : (a : Table) (x : TextTree) (r : Bor (Option TypeName)) (q : Bor Procedure) → x ≡ tree.Procedure r q → TextGathers k a a x
  gather_in_procedure a x r q is = no_constants a x (tree.Procedure r q) is (λ s t. refl)

  pub gather_class_block : (a b : Table) (x : TextTree) (r : Bor (Option Identifier)) (q : Bor Class) (k' : Bor Block) (ds : List Decl) → x ≡ tree.Class r q k' → ds ≡ k'.now.declarations.items → Gathers k a b (among_decls ds) → TextGathers k a b x
  gather_class_block a b x r q k' ds is same f = record {
    here = λ free s t.
        f.here s t None ∙ free s t (among_decls ds s t None) ∙ all_declarations s t ds ∙ ap (λ z. among_declarations s t (declarations (map declaration_syntax z))) same
        ∙ ap (λ z. constant_in s (Some (class_text r.now (heading_of q.now) z)) t) (sym (syntax-block k'.now.token k'.now.declarations k'.now.statements k'.now.end)) ∙ ap (λ z. constant_in s (Some (text_in z)) t) (sym is);
    elsewhere = f.elsewhere;
  }

  pub gather_in_class : (a : Table) (x : TextTree) (r : Bor (Option Identifier)) (q : Bor Class) → x ≡ tree.ClassOfStatement r q → TextGathers k a a x
  gather_in_class a x r q is = no_constants a x (tree.ClassOfStatement r q) is (λ s t. refl)

  pub gather_in_connection : (a : Table) (x : TextTree) → x ≡ tree.Connection → TextGathers k a a x
  gather_in_connection a x is = no_constants a x tree.Connection is (λ s t. refl)

  pub gather_in_standard : (a : Table) (x : TextTree) (w : StandardClass) → x ≡ tree.Standard w → TextGathers k a a x
  gather_in_standard a x w is = no_constants a x (tree.Standard w) is (λ s t. refl)

-- ---- all texts

pub gathered_first : (ts : List TextTree) (a : Table) → a ≡ [] → GatheredTo ts a 0
unfolding found_at
gathered_first ts a e = record {
  gathered = λ s j t le. absurd (omega (arith, le));
  free = λ s j t other _. ap (λ z. or_else (first_of s j (entered_at z t)) other) e;
}

pub gathered_next : (ts : List TextTree) (a b : Table) (i n : ℕ) (x : TextTree) → GatheredTo ts a i → i < length ts → x ≡ slice_index_or ts i x → n ≡ i → TextGathers n a b x → GatheredTo ts b (i + 1)
gathered_next ts a b i n x f le is en g = record {
  gathered = λ s j t lt.
      ⊎_elim
      (λ (same : j ≡ n).
      ap (λ z. found_at s b z t None) same ∙ g.here (λ s u other. f.free s n u other (omega (arith, en))) s t ∙ ap (λ z. constant_in s (Some (text_in z)) t) is
      ∙ ap (λ z. constant_in s (option_map text_in z) t) (sym (get_at ts i x le)) ∙ ap (λ z. constant_in s (option_map text_in (slice_get ts z)) t) (sym (same ∙ en)))
      (λ other. g.elsewhere s j other t None ∙ f.gathered s j t (omega (arith, lt, other, en)))
      (cases_eq j n);
  free = λ s j t other hi. g.elsewhere s j (λ e. absurd (omega (arith, e, en, hi))) t other ∙ f.free s j t other (omega (arith, hi));
}

pub gathered_end : (ts : List TextTree) (a : Table) (i : ℕ) → GatheredTo ts a i → i ≤ length ts → length ts ≤ i → GatheredTo ts a (length ts)
gathered_end ts a i f lo hi = let e : i ≡ length ts = omega (arith, lo, hi) in subst (GatheredTo ts a) e f

found_of : (s : Source) (ts : List TextTree) (table : Table) (j t : ℕ) → GatheredTo ts table (length ts) → found_at s table j t None ≡ constant_in s (option_map text_in (slice_get ts j)) t
found_of s ts table j t f = ⊎_elim (λ le. f.gathered s j t le) (λ hi. f.free s j t None hi ∙ ap (λ z. constant_in s (option_map text_in z) t) (sym (get_past ts j hi))) (less j (length ts))

-- so far there are values for the first rows, in each program
unfoldable pub ValuesTo : List TextTree → List Row → List (Option ConstantValue) → (done : ℕ) → Type 0
ValuesTo ts rows values i = (s : Source) → Passes (constant_row s ts) rows (map (plain_in s) values) i

pub values_first : (ts : List TextTree) (rows : List Row) → ValuesTo ts rows [] 0
unfolding ValuesTo
values_first ts rows s = pass_all (constant_row s ts) rows

pub values_next : (ts : List TextTree) (table : Table) (rows : List Row) (values values' : List (Option ConstantValue)) (i : ℕ) (row : Row) (v : Option ConstantValue) → GatheredTo ts table (length ts) → ValuesTo ts rows values i → i < length rows → row ≡ slice_index_or rows i row → ((s : Source) → plain_in s v ≡ found_at s table row.block row.token.0 None) → values' ≡ values ++ (v ∷ []) → ValuesTo ts rows values' (i + 1)
unfolding ValuesTo
values_next ts table rows values values' i row v f owes le is ev e s =
    pass_next (constant_row s ts) rows (map (plain_in s) values) (map (plain_in s) values') i row (plain_in s v) (owes s) le is (ev s ∙ found_of s ts table row.block row.token.0 f) (ap (map (plain_in s)) e ∙ map-append (plain_in s) values (v ∷ []))

pub values_end : (ts : List TextTree) (rows : List Row) (values : List (Option ConstantValue)) (i : ℕ) → ValuesTo ts rows values i → length rows ≤ i → ConstantsOf ts rows values
unfolding ConstantsOf ValuesTo
values_end ts rows values i owes le s = pass_end (constant_row s ts) rows (map (plain_in s) values) i (owes s) le

-- ---- what the table says in the end

pub constants_known : (b : Bound) (ts : List TextTree) (values : List (Option ConstantValue)) → AreTexts b.program ts → ConstantsOf ts b.scopes.declarations values → (x : DeclNo) → plain_in (source_of b) (joined (slice_get values x.0)) ≡ constant_of (source_of b) x
unfolding ConstantsOf constant_of source_of
constants_known b ts values are f x =
    let s = source_of b in
    plain_join (slice_get values x.0) ∙ ap joined (sym (get_map (plain_in s) values x.0)) ∙ ap (λ z. joined (slice_get z x.0)) (f s) ∙ ap joined (get_map (constant_row s ts) s.tables.declarations x.0) ∙ row_join (slice_get s.tables.declarations x.0)
  where
    plain_join : (o : Option (Option ConstantValue)) → plain_in (source_of b) (joined o) ≡ joined (option_map (plain_in (source_of b)) o)
    plain_join None = refl
    plain_join (Some v) = refl

    row_join : (o : Option Row) → joined (option_map (constant_row (source_of b) ts) o) ≡ row_constant (source_of b) o
    row_join None = refl
    row_join (Some row) = ap (λ z. constant_in (source_of b) z row.token.0) (sym (text_at b ts row.block are))

pub ruleset gathering = (value_integer, value_character, value_text, value_true, value_false, value_some, value_none, first_all, first_next, first_here, first_end, grown_first, grown_next, grown_end, enters_now, gather_one, variables_all, variables_next, variables_end, gather_variables, gather_arrays, gather_procedure, gather_class, declarations_all, declarations_next, declarations_end, gather_block, gather_prefixed, gather_in_procedure, gather_in_class, gather_class_block, gather_in_connection, gather_in_standard, gathered_first, gathered_next, gathered_end, values_first, values_next, values_end)
