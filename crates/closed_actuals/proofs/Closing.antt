-- What closing an expression reads of the instances is the way outward from the instance that closes it.
use Rattle.std.proofs.Common.{◌≡◌, ℕ, Bool, true, false, List, [], ◌∷◌, Option, Some, None, refl, ap, ◌∙◌}
use Rattle.std.specs.Prelude.{◌||◌}
use Rattle.sim_base.specs.declared.numbering.DeclNo.{DeclNo}
use Rattle.sim_scope.specs.declared.scopes.Denotation.{Denotation}
use Rattle.sim_scope.specs.declared.scopes.Denotation.TheVariants as denotation
use Rattle.sim_scope.specs.declared.types.Entry.{Entry}
use Rattle.sim_scope.specs.declared.types.Entry.TheVariants as entry
use Rattle.sim_scope.specs.declared.types.Formal.{Formal}
use Rattle.sim_scope.specs.declared.types.FormalKind.{FormalKind}
use Rattle.sim_scope.specs.declared.types.FormalKind.TheVariants as shape
use Rattle.sim_scope.specs.declared.types.Mode.{Mode}
use Rattle.sim_scope.specs.declared.types.Mode.TheVariants as mode
use Rattle.sim_scope.specs.Scopes.{entry_of}
use Rattle.sim_scope.specs.Source.{Source, block_of, denoted, found_at, level_of, line_at, type_at}
use Rattle.sim_tree.specs.Syntax.{Expression, Expressions, NoMore, Then}
use Rattle.sim_tree.specs.Syntax as syntax
use Rattle.sim_values.specs.declared.operators.Monadic.TheVariants as monadic
use Rattle.sim_code.specs.Transfers.{Transfer}
use Rattle.sim_code.specs.Instances.{at_level}
use Rattle.sim_meaning.specs.Attributes.{attribute_procedure, entry_attribute, block_found, cell_of_connection, connected_object, connection_at, connection_in, declared_attribute, detach_term, generation, if_any, membership_term, own_attribute, own_term, place_of_attribute, qua_term, this_instance, this_term, transfer_at, transfer_term, with_arrays_kept}
use Rattle.sim_meaning.specs.Closing.{actual_term, array_place, array_term, by_name, class_parameters, class_passed, close, close_actual_by, close_actuals, close_all, close_passed, close_place, close_procedure, declared_place, declared_procedure, declared_term, dot_term, formal_place, formal_procedure, formal_term, formals_at, home_of, home_of_class, image_place, in_instance, is_attribute, is_placed, is_procedure_kind, is_text, is_text_type, is_variable, name_term, named_array, named_array_place, named_place, named_term, procedure_denoted, qualified_if, signed_term, sort_of, stream_of, two_term, typed_token, variable_place, variable_term}
use Rattle.sim_meaning.specs.Attributes.{fitting}
use Rattle.sim_meaning.specs.Levels.{class_at, qualification}
use Rattle.sim_meaning.specs.Pending.{ActualOf, CallOf, Cell, Either, Further, Instances, One, Term, Terms, NoMeaning, Use}

module _ (s : Source) (m n : Instances) (i : ℕ) (same : (level : ℕ) → at_level n level i ≡ at_level m level i) where
  home_same : (d : DeclNo) → home_of s n i d ≡ home_of s m i d
  unfolding home_of
  home_same d = same (level_of s (block_of s d))

  -- what is in the instance of a declaration
  in_same : (d : DeclNo) (f : ℕ → Term) → in_instance (home_of s n i d) f ≡ in_instance (home_of s m i d) f
  in_same d f = ap (λ (j : Option ℕ). in_instance j f) (home_same d)

  connected_same : (k : ℕ) → connected_object s n i k ≡ connected_object s m i k
  connected_same k = ap (λ (j : Option ℕ). if_any j (λ j. Cell j (cell_of_connection s k)) NoMeaning) (same (level_of s k))

  this_same : (found : Option ℕ) → this_term s n i found ≡ this_term s m i found
  this_same None = refl
  this_same (Some k) = ap (λ (j : Option ℕ). if_any (connection_in s (Some k)) (λ c. connected_object s n i c) (this_instance j)) (same (level_of s k)) ∙ by_connection (connection_in s (Some k))
    where
      by_connection : (c : Option ℕ) → if_any c (λ c. connected_object s n i c) (this_instance (at_level m (level_of s k) i)) ≡ if_any c (λ c. connected_object s m i c) (this_instance (at_level m (level_of s k) i))
      by_connection None = refl
      by_connection (Some c) = connected_same c

  block_same : (found : Option ℕ) → block_found s n i found ≡ block_found s m i found
  block_same None = refl
  block_same (Some k) = same (level_of s k)

  class_home_same : (x : Option Denotation) → home_of_class s n i x ≡ home_of_class s m i x
  class_home_same None = refl
  class_home_same (Some (denotation.Declared d)) = home_same d
  class_home_same (Some (denotation.Standard name)) = refl

  -- ---- identifiers

  module _ (line : ℕ) where
    variable_same : (d : DeclNo) (es : Expressions) → variable_term s n i d es ≡ variable_term s m i d es
    variable_same d NoMore = in_same d _
    variable_same d (Then e es) = refl

    array_same : (d : DeclNo) (es : Expressions) (terms : Terms) → array_term s n i line d es terms ≡ array_term s m i line d es terms
    array_same d NoMore terms = in_same d _
    array_same d (Then e es) terms = in_same d _

    name_same : (d : DeclNo) (es : Expressions) (wanted : Use) → name_term s n i d es wanted ≡ name_term s m i d es wanted
    name_same d NoMore wanted = in_same d _
    name_same d (Then e es) wanted = refl

    named_array_same : (d : DeclNo) (es : Expressions) (terms : Terms) → named_array s n i line d es terms ≡ named_array s m i line d es terms
    named_array_same d NoMore terms = name_same d NoMore _
    named_array_same d (Then e es) terms = in_same d _

    formal_same : (d : DeclNo) (by : Mode) (kind : FormalKind) (leaves : Bool) (es : Expressions) (terms : Terms) → formal_term s n i line d by kind leaves es terms ≡ formal_term s m i line d by kind leaves es terms
    formal_same d mode.ByName shape.Simple leaves es terms = name_same d es _
    formal_same d mode.ByName shape.Array leaves es terms = named_array_same d es terms
    formal_same d mode.ByName shape.Procedure leaves es terms = in_same d _
    formal_same d mode.ByValue shape.Simple leaves es terms = variable_same d es
    formal_same d mode.ByValue shape.Array leaves es terms = array_same d es terms
    formal_same d mode.ByValue shape.Procedure leaves es terms = in_same d _
    formal_same d mode.ByReference shape.Simple leaves es terms = variable_same d es
    formal_same d mode.ByReference shape.Array leaves es terms = array_same d es terms
    formal_same d mode.ByReference shape.Procedure leaves es terms = in_same d _

    declared_same : (d : DeclNo) (e : Option Entry) (es : Expressions) (terms : Terms) (actuals : List Formal → Terms) → declared_term s n i line d e es terms actuals ≡ declared_term s m i line d e es terms actuals
    declared_same d None es terms actuals = refl
    declared_same d (Some (entry.Variable t)) es terms actuals = variable_same d es
    declared_same d (Some (entry.Constant t)) es terms actuals = refl
    declared_same d (Some (entry.Array t k)) es terms actuals = array_same d es terms
    declared_same d (Some (entry.Procedure result k)) es terms actuals = in_same d _
    declared_same d (Some (entry.Class k)) es terms actuals = refl
    declared_same d (Some (entry.Virtual result own)) es terms actuals = in_same d _
    declared_same d (Some (entry.Formal f)) es terms actuals = formal_same d f.mode f.kind _ es terms
    declared_same d (Some (entry.Unspecified w)) es terms actuals = refl
    declared_same d (Some (entry.Attribute name parameter result)) es terms actuals = refl

    named_same : (x : Option Denotation) (es : Expressions) (terms : Terms) (actuals : List Formal → Terms) → named_term s n i line x es terms actuals ≡ named_term s m i line x es terms actuals
    named_same None es terms actuals = refl
    named_same (Some (denotation.Declared d)) es terms actuals = declared_same d (entry_of s.tables d) es terms actuals
    named_same (Some (denotation.Standard name)) es terms actuals = refl

    -- where variables lie
    place_same : (d : DeclNo) (es : Expressions) → variable_place s n i d es ≡ variable_place s m i d es
    place_same d NoMore = in_same d _
    place_same d (Then e es) = refl

    element_same : (d : DeclNo) (es : Expressions) (terms : Terms) → array_place s n i line d es terms ≡ array_place s m i line d es terms
    element_same d NoMore terms = refl
    element_same d (Then e es) terms = in_same d _

    named_element_same : (d : DeclNo) (es : Expressions) (terms : Terms) → named_array_place s n i line d es terms ≡ named_array_place s m i line d es terms
    named_element_same d NoMore terms = refl
    named_element_same d (Then e es) terms = in_same d _

    formal_place_same : (d : DeclNo) (by : Mode) (kind : FormalKind) (es : Expressions) (terms : Terms) → formal_place s n i line d by kind es terms ≡ formal_place s m i line d by kind es terms
    formal_place_same d mode.ByName shape.Simple es terms = name_same d es _
    formal_place_same d mode.ByName shape.Array es terms = named_element_same d es terms
    formal_place_same d mode.ByName shape.Procedure es terms = refl
    formal_place_same d mode.ByValue shape.Simple es terms = place_same d es
    formal_place_same d mode.ByValue shape.Array es terms = element_same d es terms
    formal_place_same d mode.ByValue shape.Procedure es terms = refl
    formal_place_same d mode.ByReference shape.Simple es terms = place_same d es
    formal_place_same d mode.ByReference shape.Array es terms = element_same d es terms
    formal_place_same d mode.ByReference shape.Procedure es terms = refl

    declared_place_same : (d : DeclNo) (e : Option Entry) (es : Expressions) (terms : Terms) → declared_place s n i line d e es terms ≡ declared_place s m i line d e es terms
    declared_place_same d None es terms = refl
    declared_place_same d (Some (entry.Variable t)) es terms = place_same d es
    declared_place_same d (Some (entry.Constant t)) es terms = refl
    declared_place_same d (Some (entry.Array t k)) es terms = element_same d es terms
    declared_place_same d (Some (entry.Procedure result k)) es terms = refl
    declared_place_same d (Some (entry.Class k)) es terms = refl
    declared_place_same d (Some (entry.Virtual result own)) es terms = refl
    declared_place_same d (Some (entry.Formal f)) es terms = formal_place_same d f.mode f.kind es terms
    declared_place_same d (Some (entry.Unspecified w)) es terms = refl
    declared_place_same d (Some (entry.Attribute name parameter result)) es terms = refl

    named_place_same : (x : Option Denotation) (es : Expressions) (terms : Terms) → named_place s n i line x es terms ≡ named_place s m i line x es terms
    named_place_same None es terms = refl
    named_place_same (Some (denotation.Declared d)) es terms = declared_place_same d (entry_of s.tables d) es terms
    named_place_same (Some (denotation.Standard name)) es terms = refl

    -- procedures that stand alone
    formal_procedure_same : (d : DeclNo) (by : Mode) (kind : FormalKind) → formal_procedure s n i line d by kind ≡ formal_procedure s m i line d by kind
    formal_procedure_same d by shape.Procedure = in_same d _
    formal_procedure_same d by shape.Simple = refl
    formal_procedure_same d by shape.Array = refl

    declared_procedure_same : (d : DeclNo) (e : Option Entry) → declared_procedure s n i line d e ≡ declared_procedure s m i line d e
    declared_procedure_same d None = refl
    declared_procedure_same d (Some (entry.Variable t)) = refl
    declared_procedure_same d (Some (entry.Constant t)) = refl
    declared_procedure_same d (Some (entry.Array t k)) = refl
    declared_procedure_same d (Some (entry.Procedure result k)) = in_same d _
    declared_procedure_same d (Some (entry.Class k)) = refl
    declared_procedure_same d (Some (entry.Virtual result own)) = in_same d _
    declared_procedure_same d (Some (entry.Formal f)) = formal_procedure_same d f.mode f.kind
    declared_procedure_same d (Some (entry.Unspecified w)) = refl
    declared_procedure_same d (Some (entry.Attribute name parameter result)) = refl

    procedure_same : (x : Option Denotation) → procedure_denoted s n i line x ≡ procedure_denoted s m i line x
    procedure_same None = refl
    procedure_same (Some (denotation.Declared d)) = declared_procedure_same d (entry_of s.tables d)
    procedure_same (Some (denotation.Standard name)) = refl

  -- ---- choices

  any_same : {A : Type 0} (x : Option A) (f g : A → Term) (a b : Term) → ((z : A) → f z ≡ g z) → a ≡ b → if_any x f a ≡ if_any x g b
  any_same None f g a b each other = other
  any_same (Some z) f g a b each other = each z

  module _ (line : ℕ) (es : Expressions) where
    declared_operands : (d : DeclNo) (e : Option Entry) (terms : Terms) (f g : List Formal → Terms) → ((fs : List Formal) → f fs ≡ g fs) → declared_term s m i line d e es terms f ≡ declared_term s m i line d e es terms g
    declared_operands d None terms f g each = refl
    declared_operands d (Some (entry.Variable t)) terms f g each = refl
    declared_operands d (Some (entry.Constant t)) terms f g each = refl
    declared_operands d (Some (entry.Array t k)) terms f g each = refl
    declared_operands d (Some (entry.Procedure result k)) terms f g each = ap (λ (ts : Terms). in_instance (home_of s m i d) (λ j. CallOf j k ts line)) (each (formals_at s d))
    declared_operands d (Some (entry.Class k)) terms f g each = refl
    declared_operands d (Some (entry.Virtual result own)) terms f g each = refl
    declared_operands d (Some (entry.Formal x)) terms f g each = refl
    declared_operands d (Some (entry.Unspecified w)) terms f g each = refl
    declared_operands d (Some (entry.Attribute name parameter result)) terms f g each = refl

    named_operands : (x : Option Denotation) (terms : Terms) (f g : List Formal → Terms) → ((fs : List Formal) → f fs ≡ g fs) → named_term s m i line x es terms f ≡ named_term s m i line x es terms g
    named_operands None terms f g each = refl
    named_operands (Some (denotation.Declared d)) terms f g each = declared_operands d (entry_of s.tables d) terms f g each
    named_operands (Some (denotation.Standard name)) terms f g each = refl

    -- an identifier with its operands
    identifier_same : (x : Option Denotation) (ts us : Terms) (f g : List Formal → Terms) → ts ≡ us → ((fs : List Formal) → f fs ≡ g fs) → named_term s n i line x es ts f ≡ named_term s m i line x es us g
    identifier_same x ts us f g terms each = named_same line x es ts f ∙ ap (λ (vs : Terms). named_term s m i line x es vs f) terms ∙ named_operands x us f g each

    -- an attribute of an object, with its operands
    attribute_same : (a b : Term) (ts us xs ys : Terms) (d : DeclNo) → a ≡ b → ts ≡ us → xs ≡ ys → entry_attribute s i line d (entry_of s.tables d) a es ts xs ≡ entry_attribute s i line d (entry_of s.tables d) b es us ys
    attribute_same a b ts us xs ys d object terms actuals =
        ap (λ (x : Term). entry_attribute s i line d (entry_of s.tables d) x es ts xs) object
        ∙ ap (λ (vs : Terms). entry_attribute s i line d (entry_of s.tables d) b es vs xs) terms
        ∙ ap (λ (vs : Terms). entry_attribute s i line d (entry_of s.tables d) b es us vs) actuals

    place_of_same : (a b : Term) (ts us : Terms) (d : DeclNo) → a ≡ b → ts ≡ us → place_of_attribute s line a es ts d ≡ place_of_attribute s line b es us d
    place_of_same a b ts us d object terms = ap (λ (x : Term). place_of_attribute s line x es ts d) object ∙ ap (λ (vs : Terms). place_of_attribute s line b es vs d) terms

  own_same : (e : Option Entry) (j k : Option ℕ) (ts us : Terms) (line : ℕ) (a b : Term) → j ≡ k → ts ≡ us → a ≡ b → own_term s e j ts line a ≡ own_term s e k us line b
  own_same e j k ts us line a b block terms other =
      ap (λ (z : Option ℕ). own_term s e z ts line a) block ∙ ap (λ (vs : Terms). own_term s e k vs line a) terms ∙ ap (own_term s e k us line) other

  transfer_same : (t : Transfer) (line : ℕ) (a b : Term) (ts us : Terms) → a ≡ b → ts ≡ us → transfer_term t line a ts ≡ transfer_term t line b us
  transfer_same t line a b ts us around terms = ap (λ (x : Term). transfer_term t line x ts) around ∙ ap (transfer_term t line b) terms

  dot_same : (x : Option Denotation) (stream : Option ℕ) (variable : Bool) (line : ℕ) (a b c d : Term) (ts us : Terms) → a ≡ b → c ≡ d → ts ≡ us → dot_term x stream variable line a c ts ≡ dot_term x stream variable line b d us
  dot_same x stream variable line a b c d ts us place value terms =
      ap (λ (z : Term). dot_term x stream variable line z c ts) place ∙ ap (λ (z : Term). dot_term x stream variable line b z ts) value ∙ ap (dot_term x stream variable line b d) terms

  actual_same : (f : Formal) (line : ℕ) (a b c d actual : Term) → a ≡ b → c ≡ d
      → fitting (class_passed s f) line (actual_term line f.mode f.kind (is_text_type f.ty) a c actual) ≡ fitting (class_passed s f) line (actual_term line f.mode f.kind (is_text_type f.ty) b d actual)
  actual_same f line a b c d actual value procedure =
      ap (λ (z : Term). fitting (class_passed s f) line (actual_term line f.mode f.kind (is_text_type f.ty) z c actual)) value
      ∙ ap (λ (z : Term). fitting (class_passed s f) line (actual_term line f.mode f.kind (is_text_type f.ty) b z actual)) procedure

  generation_same : (token : ℕ) (j k : Option ℕ) (class : Option ℕ) (ts us : Terms) (line : ℕ) → j ≡ k → ts ≡ us → generation s token j class ts line ≡ generation s token k class us line
  generation_same token j k class ts us line home terms = ap (λ (z : Option ℕ). generation s token z class ts line) home ∙ ap (λ (vs : Terms). generation s token k class vs line) terms

  further_same : (a b : Term) (ts us : Terms) → a ≡ b → ts ≡ us → Further a ts ≡ Further b us
  further_same a b ts us first more = ap (λ (z : Term). Further z ts) first ∙ ap (Further b) more

  -- ---- expressions

  mutual
    pub close_same : (e : Expression) → close s n i e ≡ close s m i e
    close_same (syntax.If token c a b) = ap (λ (z : Term). Either z (close s n i a) (close s n i b)) (close_same c) ∙ ap (λ (z : Term). Either (close s m i c) z (close s n i b)) (close_same a) ∙ ap (Either (close s m i c) (close s m i a)) (close_same b)
    close_same (syntax.Binary op token a b) =
        ap (λ (z : Term). two_term (sort_of (is_text s a) op) (line_at s token) z (close s n i b)) (close_same a) ∙ ap (two_term (sort_of (is_text s a) op) (line_at s token) (close s m i a)) (close_same b)
    close_same (syntax.Not token a) = ap (One monadic.Not (line_at s token)) (close_same a)
    close_same (syntax.Signed sign token a) = ap (signed_term sign (line_at s token)) (close_same a)
    close_same (syntax.Member member token a class) = ap (membership_term member (class_at s class.token.0)) (close_same a)
    close_same (syntax.Dot token a name es) =
        let line = line_at s name.token.0 in
        let object = close_same a in
        let terms = close_all_same es in
        any_same (transfer_at s name.token.0) _ _ _ _ (λ t. ap (detach_term line) object)
        (any_same (declared_attribute (denoted s name.token.0)) _ _ _ _ (λ d. attribute_same line es (close s n i a) (close s m i a) (close_all s n i es) (close_all s m i es) _ _ d object terms (close_actuals_same line es (formals_at s d)))
        (dot_same (denoted s name.token.0) (stream_of s a) (is_variable s a || is_attribute s a) line (close_place s n i a) (close_place s m i a) (close s n i a) (close s m i a) (close_all s n i es) (close_all s m i es) (close_place_same a) object terms))
    close_same (syntax.Qua token a class) = ap (qua_term (class_at s class.token.0) (line_at s token)) (close_same a)
    close_same (syntax.Constant literal token) = refl
    close_same (syntax.Named name es) =
        let line = line_at s name.token.0 in
        let terms = close_all_same es in
        let this = this_same (found_at s name.token.0) in
        any_same (transfer_at s name.token.0) _ _ _ _ (λ t. transfer_same t line _ _ _ _ this terms)
        (any_same (connection_at s name.token.0) _ _ _ _ (λ k. any_same (declared_attribute (denoted s name.token.0)) _ _ NoMeaning NoMeaning
        (λ d. attribute_same line es (connected_object s n i k) (connected_object s m i k) (close_all s n i es) (close_all s m i es) _ _ d (connected_same k) terms (close_actuals_same line es (formals_at s d))) refl)
        (any_same (own_attribute s name.token.0) _ _ _ _
        (λ d. own_same (entry_of s.tables d) _ _ _ _ line _ _ (block_same (found_at s name.token.0)) (close_actuals_same line es (formals_at s d))
        (attribute_same line es (this_term s n i (found_at s name.token.0)) (this_term s m i (found_at s name.token.0)) (close_all s n i es) (close_all s m i es) _ _ d this terms (close_actuals_same line es (formals_at s d))))
        (identifier_same line es (denoted s name.token.0) (close_all s n i es) (close_all s m i es) _ _ terms (λ fs. close_actuals_same line es fs))))
    close_same (syntax.This token class) = this_same (found_at s token)
    close_same (syntax.New token class es) =
        generation_same class.token.0 _ _ (class_at s class.token.0) _ _ (line_at s token) (class_home_same (denoted s class.token.0))
        (ap (with_arrays_kept (class_parameters s (class_at s class.token.0))) (close_actuals_same (line_at s class.token.0) es (class_parameters s (class_at s class.token.0))))
    close_same (syntax.Parentheses token a) = close_same a

    pub close_place_same : (e : Expression) → close_place s n i e ≡ close_place s m i e
    close_place_same (syntax.Named name es) =
        let line = line_at s name.token.0 in
        let terms = close_all_same es in
        any_same (connection_at s name.token.0) _ _ _ _
        (λ k. any_same (declared_attribute (denoted s name.token.0)) _ _ NoMeaning NoMeaning (λ d. place_of_same line es _ _ _ _ d (connected_same k) terms) refl)
        (named_place_same line (denoted s name.token.0) es (close_all s n i es) ∙ ap (named_place s m i line (denoted s name.token.0) es) terms)
    close_place_same (syntax.Dot token a name es) =
        let object = close_same a in
        let terms = close_all_same es in
        ap (image_place (stream_of s a)) (any_same (declared_attribute (denoted s name.token.0)) _ _ _ _ (λ d. place_of_same (line_at s name.token.0) es _ _ _ _ d object terms) refl)
    close_place_same (syntax.If token c a b) = refl
    close_place_same (syntax.Binary op token a b) = refl
    close_place_same (syntax.Not token a) = refl
    close_place_same (syntax.Signed sign token a) = refl
    close_place_same (syntax.Member member token a class) = refl
    close_place_same (syntax.Qua token a class) = refl
    close_place_same (syntax.Constant literal token) = refl
    close_place_same (syntax.This token class) = refl
    close_place_same (syntax.New token class es) = refl
    close_place_same (syntax.Parentheses token a) = refl

    pub close_procedure_same : (e : Expression) → close_procedure s n i e ≡ close_procedure s m i e
    close_procedure_same (syntax.Named name NoMore) =
        let line = line_at s name.token.0 in
        any_same (connection_at s name.token.0) _ _ _ _
        (λ k. any_same (declared_attribute (denoted s name.token.0)) _ _ NoMeaning NoMeaning (λ d. ap (λ (z : Term). attribute_procedure s line z d) (connected_same k)) refl)
        (procedure_same line (denoted s name.token.0))
    close_procedure_same (syntax.Dot token a name NoMore) =
        let object = close_same a in
        any_same (declared_attribute (denoted s name.token.0)) _ _ _ _ (λ d. ap (λ (z : Term). attribute_procedure s (line_at s name.token.0) z d) object) refl
    close_procedure_same (syntax.Named name (Then e es)) = refl
    close_procedure_same (syntax.Dot token a name (Then e es)) = refl
    close_procedure_same (syntax.If token c a b) = refl
    close_procedure_same (syntax.Binary op token a b) = refl
    close_procedure_same (syntax.Not token a) = refl
    close_procedure_same (syntax.Signed sign token a) = refl
    close_procedure_same (syntax.Member member token a class) = refl
    close_procedure_same (syntax.Qua token a class) = refl
    close_procedure_same (syntax.Constant literal token) = refl
    close_procedure_same (syntax.This token class) = refl
    close_procedure_same (syntax.New token class es) = refl
    close_procedure_same (syntax.Parentheses token a) = refl

    pub close_all_same : (es : Expressions) → close_all s n i es ≡ close_all s m i es
    close_all_same NoMore = refl
    close_all_same (Then e es) = further_same _ _ _ _ (close_same e) (close_all_same es)

    pub close_actuals_same : (line : ℕ) (es : Expressions) (fs : List Formal) → close_actuals s n i line es fs ≡ close_actuals s m i line es fs
    close_actuals_same line NoMore [] = refl
    close_actuals_same line NoMore (f ∷ fs) = refl
    close_actuals_same line (Then e es) [] = refl
    close_actuals_same line (Then e es) (f ∷ fs) = further_same _ _ _ _ (actual_same f line _ _ _ _ (ActualOf i (is_procedure_kind f.kind) e) (close_same e) (close_procedure_same e)) (close_actuals_same line es fs)

  close_actual_same : (placed : Bool) (e : Expression) → close_actual_by placed s n i e ≡ close_actual_by placed s m i e
  close_actual_same true e = ap (qualified_if (qualification s (type_at s (typed_token e))) (by_name s e)) (close_place_same e)
  close_actual_same false e = close_same e

  pub close_passed_same : (as_procedure : Bool) (e : Expression) → close_passed as_procedure s n i e ≡ close_passed as_procedure s m i e
  close_passed_same true e = close_procedure_same e
  close_passed_same false e = close_actual_same (is_placed s e) e
