-- The tree of an expression is not where a cell lies: it leaves a value that may lie in a cell, or none.
use Rattle.std.proofs.Common.{◌≡◌, ℕ, Bool, true, false, List, Option, Some, None, refl, sym, ap, ◌∙◌}
use Rattle.sim_base.specs.declared.numbering.DeclNo.{DeclNo}
use Rattle.sim_scope.specs.declared.scopes.Denotation.{Denotation}
use Rattle.sim_scope.specs.declared.scopes.Denotation.TheVariants as denotation
use Rattle.sim_scope.specs.declared.types.Entry.{Entry}
use Rattle.sim_scope.specs.declared.types.Entry.TheVariants as entry
use Rattle.sim_scope.specs.declared.types.Formal.{Formal}
use Rattle.sim_scope.specs.declared.types.FormalKind.{FormalKind}
use Rattle.sim_scope.specs.declared.types.FormalKind.TheVariants as shape
use Rattle.sim_scope.specs.declared.types.Mode.{Mode}
use Rattle.sim_scope.specs.declared.types.Mode.TheVariants as mode
use Rattle.sim_scope.specs.Scopes.{entry_of}
use Rattle.sim_scope.specs.Source.{Source, denoted, found_at, line_at}
use Rattle.sim_tree.specs.declared.expr.Identifier.{Identifier}
use Rattle.sim_tree.specs.Syntax.{Expression, Expressions, NoMore, Then}
use Rattle.sim_tree.specs.Syntax as syntax
use Rattle.sim_values.specs.declared.standard.Standard.{Standard}
use Rattle.sim_values.specs.Plain.{Plain}
use Rattle.sim_values.specs.Standard.{is_image, on_image}
use Rattle.std.specs.Prelude.{◌||◌}
use Rattle.sim_code.specs.Transfers.{Calling, Detaching, Resuming, Transfer}
use Rattle.sim_code.specs.Sets.{is_set_name}
use Rattle.sim_code.specs.Simulations.{is_process_name, is_simulation_name}
use Rattle.sim_meaning.specs.Attributes.{array_attribute, attribute, attribute_place, connected_object, connection_at, declared_attribute, entry_attribute, generation, if_any, own_attribute, parameter_attribute, this_term, transfer_at, transfer_term, variable_attribute, attribute_of_object, block_found, origin_if, own_term, process_term, simulation_term}
use Rattle.sim_meaning.specs.Closing.{formals_at, has_type, is_attribute, array_term, behind_dot, close, close_actuals, close_all, close_place, constant_term, declared_term, dot_term, formal_term, home_of, home_of_class, in_instance, is_variable, standard_name_term, named_term, standard_term, stream_of, sysout, variable_term}
use Rattle.sim_meaning.specs.Levels.{class_at, is_process_itself}
use Rattle.sim_meaning.specs.Names.{procedure_named}
use Rattle.sim_meaning.specs.Pending.{Further, Instances, NoTerm, Term, Terms}
use Rattle.sim_meaning.specs.Texts.{constant_of}
use Rattle.sim_relate.proofs.Known.{Kind, given, gives, leaving}

module _ (s : Source) (m : Instances) (i : ℕ) where
  abbrev pub Leaves : Term → Type 0
  Leaves t = (ks : List Kind) → leaving s t ks ≡ given (gives s t) ks

  in_leaves : (o : Option ℕ) (f : ℕ → Term) → ((j : ℕ) → Leaves (f j)) → Leaves (in_instance o f)
  in_leaves None f a = λ ks. refl
  in_leaves (Some j) f a = a j

  variable_leaves : (d : DeclNo) (es : Expressions) → Leaves (variable_term s m i d es)
  variable_leaves d NoMore = in_leaves (home_of s m i d) _ (λ j ks. refl)
  variable_leaves d (Then e es) = λ ks. refl

  constant_leaves : (v : Option Plain) (es : Expressions) → Leaves (constant_term v es)
  constant_leaves (Some v) NoMore = λ ks. refl
  constant_leaves (Some v) (Then e es) = λ ks. refl
  constant_leaves None es = λ ks. refl

  array_leaves : (line : ℕ) (d : DeclNo) (es : Expressions) (terms : Terms) → Leaves (array_term s m i line d es terms)
  array_leaves line d NoMore terms = in_leaves (home_of s m i d) _ (λ j ks. refl)
  array_leaves line d (Then e es) terms = in_leaves (home_of s m i d) _ (λ j ks. refl)

  formal_leaves : (line : ℕ) (d : DeclNo) (by : Mode) (kind : FormalKind) (leaves : Bool) (es : Expressions) (terms : Terms) → Leaves (formal_term s m i line d by kind leaves es terms)
  formal_leaves line d mode.ByName shape.Simple leaves NoMore terms = in_leaves (home_of s m i d) _ (λ j ks. refl)
  formal_leaves line d mode.ByName shape.Simple leaves (Then e es) terms = λ ks. refl
  formal_leaves line d mode.ByName shape.Array leaves NoMore terms = in_leaves (home_of s m i d) _ (λ j ks. refl)
  formal_leaves line d mode.ByName shape.Array leaves (Then e es) terms = in_leaves (home_of s m i d) _ (λ j ks. refl)
  formal_leaves line d mode.ByName shape.Procedure leaves es terms = in_leaves (home_of s m i d) _ (λ j ks. refl)
  formal_leaves line d mode.ByValue shape.Simple leaves es terms = variable_leaves d es
  formal_leaves line d mode.ByValue shape.Array leaves es terms = array_leaves line d es terms
  formal_leaves line d mode.ByValue shape.Procedure leaves es terms = in_leaves (home_of s m i d) _ (λ j ks. refl)
  formal_leaves line d mode.ByReference shape.Simple leaves es terms = variable_leaves d es
  formal_leaves line d mode.ByReference shape.Array leaves es terms = array_leaves line d es terms
  formal_leaves line d mode.ByReference shape.Procedure leaves es terms = in_leaves (home_of s m i d) _ (λ j ks. refl)

  declared_leaves : (line : ℕ) (d : DeclNo) (o : Option Entry) (es : Expressions) (terms : Terms) (actuals : List Formal → Terms) → Leaves (declared_term s m i line d o es terms actuals)
  declared_leaves line d (Some (entry.Variable type)) es terms actuals = variable_leaves d es
  declared_leaves line d (Some (entry.Constant type)) es terms actuals = constant_leaves (constant_of s d) es
  declared_leaves line d (Some (entry.Array element dimensions)) es terms actuals = array_leaves line d es terms
  declared_leaves line d (Some (entry.Formal f)) es terms actuals = formal_leaves line d f.mode f.kind (has_type f.ty) es terms
  declared_leaves line d (Some (entry.Procedure result block)) es terms actuals = in_leaves (home_of s m i d) _ (λ j ks. refl)
  declared_leaves line d (Some (entry.Class block)) es terms actuals = λ ks. refl
  declared_leaves line d (Some (entry.Virtual result own)) es terms actuals = in_leaves (home_of s m i d) _ (λ j ks. refl)
  declared_leaves line d (Some (entry.Unspecified written)) es terms actuals = λ ks. refl
  declared_leaves line d (Some (entry.Attribute name parameter result)) es terms actuals = λ ks. refl
  declared_leaves line d None es terms actuals = λ ks. refl

  name_leaves : (is : Bool) (on : Option Standard) (name : Standard) (image line : ℕ) (terms : Terms) → Leaves (standard_name_term is on name image line terms)
  name_leaves true on name image line terms = λ ks. refl
  name_leaves false (Some x) name image line terms = λ ks. refl
  name_leaves false None name image line terms = λ ks. refl

  standard_leaves_so : (name : Option Standard) (image line : ℕ) (terms : Terms) → Leaves (standard_term name image line terms)
  standard_leaves_so None image line terms = λ ks. refl
  standard_leaves_so (Some name) image line terms = name_leaves (is_image name) (on_image name) name image line terms

  named_leaves : (line : ℕ) (u : Option Denotation) (es : Expressions) (terms : Terms) (actuals : List Formal → Terms) → Leaves (named_term s m i line u es terms actuals)
  named_leaves line None es terms actuals = λ ks. refl
  named_leaves line (Some (denotation.Declared d)) es terms actuals = declared_leaves line d (entry_of s.tables d) es terms actuals
  named_leaves line (Some (denotation.Standard name)) es terms actuals = standard_leaves_so (procedure_named name) sysout line terms

  behind_leaves : (stream : Option ℕ) (name : Option Standard) (is : Bool) (line : ℕ) (x y : Term) (terms : Terms) → Leaves (behind_dot stream name is line x y terms)
  behind_leaves (Some image) name is line x y terms = standard_leaves_so name image line terms
  behind_leaves None None is line x y terms = λ ks. refl
  behind_leaves None (Some name) is line x y terms = λ ks. refl

  dot_leaves : (u : Option Denotation) (stream : Option ℕ) (is : Bool) (line : ℕ) (x y : Term) (terms : Terms) → Leaves (dot_term u stream is line x y terms)
  dot_leaves (Some (denotation.Standard name)) stream is line x y terms = behind_leaves stream (procedure_named name) is line x y terms
  dot_leaves (Some (denotation.Declared d)) stream is line x y terms = λ ks. refl
  dot_leaves None stream is line x y terms = λ ks. refl

  -- attributes of objects
  any_leaves : {A : Type 0} (x : Option A) (f : A → Term) (other : Term) → ((a : A) → Leaves (f a)) → Leaves other → Leaves (if_any x f other)
  any_leaves None f other g h = h
  any_leaves (Some a) f other g h = g a

  variable_attribute_leaves : (place : Term) (es : Expressions) → Leaves (variable_attribute place es)
  variable_attribute_leaves place NoMore = λ ks. refl
  variable_attribute_leaves place (Then e es) = λ ks. refl

  array_attribute_leaves : (line : ℕ) (place : Term) (es : Expressions) (terms : Terms) → Leaves (array_attribute line place es terms)
  array_attribute_leaves line place NoMore terms = λ ks. refl
  array_attribute_leaves line place (Then e es) terms = λ ks. refl

  parameter_attribute_leaves : (line : ℕ) (kind : FormalKind) (place : Term) (es : Expressions) (terms : Terms) → Leaves (parameter_attribute line kind place es terms)
  parameter_attribute_leaves line shape.Simple place es terms = variable_attribute_leaves place es
  parameter_attribute_leaves line shape.Array place es terms = array_attribute_leaves line place es terms
  parameter_attribute_leaves line shape.Procedure place es terms = λ ks. refl

  object_attribute_leaves : (sets processes : Bool) (name : Standard) (line : ℕ) (object : Term) (actuals : Terms) → is_process_name name ≡ processes → Leaves (attribute_of_object sets name line object actuals)
  object_attribute_leaves true processes name line object actuals e = λ ks. refl
  object_attribute_leaves false true name line object actuals e = λ ks. ap (λ c. leaving s (process_term c name line object) ks) e ∙ sym (ap (λ c. given (gives s (process_term c name line object)) ks) e)
  object_attribute_leaves false false name line object actuals e = λ ks. ap (λ c. leaving s (process_term c name line object) ks) e ∙ sym (ap (λ c. given (gives s (process_term c name line object)) ks) e)

  simulation_leaves : (c : Bool) (name : Standard) (block : Option ℕ) (actuals : Terms) (line : ℕ) (other : Term) → Leaves other → Leaves (simulation_term s c name block actuals line other)
  simulation_leaves true name (Some j) actuals line other f = λ ks. refl
  simulation_leaves true name None actuals line other f = λ ks. refl
  simulation_leaves false name block actuals line other f = f

  own_leaves : (o : Option Entry) (block : Option ℕ) (actuals : Terms) (line : ℕ) (other : Term) → Leaves other → Leaves (own_term s o block actuals line other)
  own_leaves (Some (entry.Attribute name parameter result)) block actuals line other f = simulation_leaves (is_simulation_name name) name block actuals line other f
  own_leaves (Some (entry.Variable type)) block actuals line other f = f
  own_leaves (Some (entry.Constant type)) block actuals line other f = f
  own_leaves (Some (entry.Array element dimensions)) block actuals line other f = f
  own_leaves (Some (entry.Formal y)) block actuals line other f = f
  own_leaves (Some (entry.Procedure result k)) block actuals line other f = f
  own_leaves (Some (entry.Class k)) block actuals line other f = f
  own_leaves (Some (entry.Virtual result own)) block actuals line other f = f
  own_leaves (Some (entry.Unspecified written)) block actuals line other f = f
  own_leaves None block actuals line other f = f

  entry_attribute_leaves : (line : ℕ) (d : DeclNo) (o : Option Entry) (object : Term) (es : Expressions) (terms actuals : Terms) → Leaves (entry_attribute s i line d o object es terms actuals)
  entry_attribute_leaves line d (Some (entry.Variable type)) object es terms actuals = variable_attribute_leaves (attribute_place s line d object) es
  entry_attribute_leaves line d (Some (entry.Constant type)) object es terms actuals = variable_attribute_leaves (attribute_place s line d object) es
  entry_attribute_leaves line d (Some (entry.Array element dimensions)) object es terms actuals = array_attribute_leaves line (attribute_place s line d object) es terms
  entry_attribute_leaves line d (Some (entry.Formal f)) object es terms actuals = parameter_attribute_leaves line f.kind (attribute_place s line d object) es terms
  entry_attribute_leaves line d (Some (entry.Procedure result block)) object es terms actuals = λ ks. refl
  entry_attribute_leaves line d (Some (entry.Class block)) object es terms actuals = λ ks. refl
  entry_attribute_leaves line d (Some (entry.Virtual result own)) object es terms actuals = λ ks. refl
  entry_attribute_leaves line d (Some (entry.Unspecified written)) object es terms actuals = λ ks. refl
  entry_attribute_leaves line d (Some (entry.Attribute name parameter result)) object es terms actuals = object_attribute_leaves (is_set_name name) (is_process_name name) name line object actuals refl
  entry_attribute_leaves line d None object es terms actuals = λ ks. refl

  attribute_leaves : (line : ℕ) (object : Term) (es : Expressions) (terms : Terms) (actuals : DeclNo → Terms) (d : DeclNo) → Leaves (attribute s i line object es terms actuals d)
  attribute_leaves line object es terms actuals d = entry_attribute_leaves line d (entry_of s.tables d) object es terms (actuals d)

  transfer_leaves : (way : Transfer) (line : ℕ) (around : Term) (terms : Terms) → Leaves (transfer_term way line around terms)
  transfer_leaves Detaching line around terms = λ ks. refl
  transfer_leaves Calling line around NoTerm = λ ks. refl
  transfer_leaves Calling line around (Further x NoTerm) = λ ks. refl
  transfer_leaves Calling line around (Further x (Further y more)) = λ ks. refl
  transfer_leaves Resuming line around NoTerm = λ ks. refl
  transfer_leaves Resuming line around (Further x NoTerm) = λ ks. refl
  transfer_leaves Resuming line around (Further x (Further y more)) = λ ks. refl

  -- calls
  pub named_call_leaves : (name : Identifier) (es : Expressions) → Leaves (close s m i (syntax.Named name es))
  named_call_leaves name es =
      let line = line_at s name.token.0 in
      any_leaves (transfer_at s name.token.0) _ _ (λ way. transfer_leaves way line (this_term s m i (found_at s name.token.0)) (close_all s m i es))
      (any_leaves (connection_at s name.token.0) _ _
      (λ k. any_leaves (declared_attribute (denoted s name.token.0)) _ _ (attribute_leaves line (connected_object s m i k) es (close_all s m i es) (λ d. close_actuals s m i line es (formals_at s d))) (λ ks. refl))
      (any_leaves (own_attribute s name.token.0) _ _
      (λ d. own_leaves (entry_of s.tables d) (block_found s m i (found_at s name.token.0)) (close_actuals s m i line es (formals_at s d)) line _ (attribute_leaves line (this_term s m i (found_at s name.token.0)) es (close_all s m i es) (λ d. close_actuals s m i line es (formals_at s d)) d))
      (named_leaves line (denoted s name.token.0) es (close_all s m i es) (λ fs. close_actuals s m i line es fs))))

  pub dot_call_leaves : (token : ℕ) (e : Expression) (name : Identifier) (es : Expressions) → Leaves (close s m i (syntax.Dot token e name es))
  dot_call_leaves token e name es =
      let line = line_at s name.token.0 in
      any_leaves (transfer_at s name.token.0) _ _ (λ way ks. refl)
      (any_leaves (declared_attribute (denoted s name.token.0)) _ _ (attribute_leaves line (close s m i e) es (close_all s m i es) (λ d. close_actuals s m i line es (formals_at s d)))
      (dot_leaves (denoted s name.token.0) (stream_of s e) (is_variable s e || is_attribute s e) line (close_place s m i e) (close s m i e) (close_all s m i es)))

  origin_leaves : (c : Bool) (k token line : ℕ) (object : Term) → Leaves object → Leaves (origin_if c k token line object)
  origin_leaves false k token line object f = f
  origin_leaves true k token line object f = λ ks. refl

  generation_leaves : (token : ℕ) (o c : Option ℕ) (terms : Terms) (line : ℕ) → Leaves (generation s token o c terms line)
  generation_leaves token (Some j) (Some k) terms line = origin_leaves (is_process_itself s k) k token line _ (λ ks. refl)
  generation_leaves token (Some j) None terms line = λ ks. refl
  generation_leaves token None c terms line = λ ks. refl

  pub new_leaves : (token : ℕ) (class : Identifier) (es : Expressions) → Leaves (close s m i (syntax.New token class es))
  new_leaves token class es = generation_leaves class.token.0 (home_of_class s m i (denoted s class.token.0)) (class_at s class.token.0) _ (line_at s token)
