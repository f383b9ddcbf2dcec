-- What is told to break a rule, when declarations are read, is `inner` out of place.
use Rattle.std.proofs.Common.{◌≡◌, ℕ, Bool, true, false, if◌then◌else◌, List, [], ◌∷◌, ◌++◌, length, Option, Some, None, refl, subst}
use Rattle.sim_base.specs.declared.rule.Rule.{Rule}
use Rattle.sim_base.specs.declared.rule.Rule.TheVariants as r
use Rattle.sim_tree.specs.declared.expr.Identifier.{Identifier}
use Rattle.sim_tree.specs.declared.stmt.Mode.{Mode as Word}
use Rattle.sim_tree.specs.declared.stmt.TypeName.{TypeName}
use Rattle.sim_tree.specs.declared.stmt.TypeName.TheVariants as type_name
use Rattle.sim_tree.specs.declared.stmt.Variable.{Variable}
use Rattle.sim_tree.specs.Syntax.{Activate, Also, Arms, Arrayed, Arrays, Assign, Begin, Block, Call, Choose, Compound, Declaration, Declarations, DeclareClass, DeclareProcedure, Empty, For, Heading, Inner as InnerStatement, Inspect, InspectWhen, Interface, Moded as ModePart, NoArm, NoDeclaration, NoStatement, Prefix, Prefixed, Program, Protected, Repeat, Simple, Array, Procedure, Specification, Specified as Specifier, Statement, Statements, Variables, Virtual, When, With}
use Rattle.sim_scope.specs.Building.{Breaks, Closes, Declares, Mark, Provides}
use Rattle.sim_scope.specs.Declare.{array_marks, brings_class, brought_marks, class_marks, class_prefix_marks, declaring, headed_marks, heading_marks, inner_marks, interface_marks, is_written, marks_of_standard, mode_part_marks, moded_marks, parameter_marks, prefix_marks, prefixed_marks, procedure_marks, program_marks, protected_marks, protection_marks, provides_attribute, qualified_marks, qualified_result, segment_marks, specification_marks, specified_marks, standard_marks, variable_marks, virtual_marks, virtual_name_marks}
use Rattle.sim_scope.specs.Runs.{each}
use Rattle.sim_scope.specs.Standard.{class_owning, classes_of_sets, classes_of_simulation, is_provided, standard_prefix}
use Rattle.sim_scope.specs.Walk.{arms_events, block_events, class_events, declaration_events, declarations_events, program_events, statement_events, statements_events, whole_events}
use Rattle.sim_scope.specs.declared.types.Position.{Position}
use Rattle.sim_scope.specs.declared.types.Position.TheVariants.{ClassBody, ClassStatement, Inside}
use Rattle.sim_scope.specs.declared.types.StandardClass.{StandardClass}
use Rattle.sim_scope.specs.declared.types.StandardPrefix.{StandardPrefix}
use Rattle.sim_scope.specs.declared.types.StandardPrefix.TheVariants as prefix
use Rattle.sim_values.specs.declared.standard.Standard.{Standard}
use Rattle.sim_values.specs.declared.standard.TheConstants.{STANDARD_NAMES}
use Rattle.sim_values.specs.Standard.{row_of}

abbrev Tame : Mark → Type 0
Tame (Breaks token rule) = rule ≡ r.InnerOutOfPlace
Tame _ = Unit {0}

abbrev Tames : List Mark → Type 0
Tames [] = Unit {0}
Tames (m ∷ ms) = Tame m × Tames ms

both : (xs ys : List Mark) → Tames xs → Tames ys → Tames (xs ++ ys)
both [] ys h k = k
both (x ∷ xs) ys h k = (h.0, both xs ys h.1 k)

every : {A : Type 0} (f : A → List Mark) → ((a : A) → Tames (f a)) → (xs : List A) → Tames (each f xs)
every f h [] = tt
every f h (x ∷ xs) = both (f x) (each f xs) (h x) (every f h xs)

qualified_tame : (type : TypeName) → Tames (qualified_marks type)
unfolding qualified_marks
qualified_tame (type_name.Integer i) = tt
qualified_tame (type_name.Boolean i) = tt
qualified_tame (type_name.Character i) = tt
qualified_tame (type_name.Text i) = tt
qualified_tame (type_name.Reference i class) = (tt, tt)

result_tame : (type : Option TypeName) → Tames (qualified_result type)
unfolding qualified_result
result_tame None = tt
result_tame (Some type) = qualified_tame type

variable_tame : (type : TypeName) (v : Variable) → Tames (variable_marks type v)
unfolding variable_marks
variable_tame type v = elim v.value as (λ o. Tames (elim o [ None ↦ Declares v.name _ ∷ qualified_marks type | Some c ↦ Declares v.name _ ∷ qualified_marks type ])) [ None ↦ (tt, qualified_tame type) | Some c ↦ (tt, qualified_tame type) ]

array_tame : (type : TypeName) (dimensions : ℕ) (x : Identifier) → Tames (array_marks type dimensions x)
unfolding array_marks
array_tame type dimensions x = (tt, qualified_tame type)

segment_tame : (type : TypeName) (a : Arrayed) → Tames (segment_marks type a)
segment_tame type a = every (array_marks type (length a.bounds)) (array_tame type (length a.bounds)) a.names

parameter_tame : (x : Identifier) → Tames (parameter_marks x)
unfolding parameter_marks
parameter_tame x = (tt, tt)

moded_tame : (w : Word) (x : Identifier) → Tames (moded_marks w x)
unfolding moded_marks
moded_tame w x = (tt, tt)

mode_part_tame : (m : ModePart) → Tames (mode_part_marks m)
mode_part_tame m = every (moded_marks m.mode) (moded_tame m.mode) m.names

specified_tame : (k : Specifier) (x : Identifier) → Tames (specified_marks k x)
unfolding specified_marks
specified_tame (Simple type) x = (tt, qualified_tame type)
specified_tame (Array type token) x = (tt, qualified_tame type)
specified_tame (Procedure result token) x = (tt, result_tame result)

specification_tame : (s : Specification) → Tames (specification_marks s)
specification_tame s = every (specified_marks s.kind) (specified_tame s.kind) s.names

headed_tame : (x : Identifier) → Tames (headed_marks x)
unfolding headed_marks
headed_tame x = (tt, tt)

heading_tame : (h : Heading) → Tames (heading_marks h)
heading_tame h =
    both (each parameter_marks h.formals) _ (every parameter_marks parameter_tame h.formals)
    (both (each mode_part_marks h.modes) _ (every mode_part_marks mode_part_tame h.modes)
    (both (each specification_marks h.specifications) _ (every specification_marks specification_tame h.specifications) (every headed_marks headed_tame h.formals)))

procedure_tame : (result : Option TypeName) (token : ℕ) (x : Identifier) → Tames (procedure_marks result token x)
unfolding procedure_marks
procedure_tame result token x = (tt, both (qualified_result result) _ (result_tame result) (tt, tt))

brings_tame : (token : ℕ) (which : StandardClass) → Tames (brings_class token which)
unfolding brings_class
brings_tame token which = (tt, tt)

provides_tame : (which : StandardPrefix) (token : ℕ) (name : Standard) → Tames (provides_attribute which token name)
unfolding provides_attribute
provides_tame which token name = go (is_provided which (row_of name).owner)
  where
    go : (c : Bool) → Tames (if c then Provides (class_owning (row_of name).owner) name token ∷ [] else [])
    go true = (tt, tt)
    go false = tt

brought_tame : (token : ℕ) (which : StandardPrefix) (classes : List StandardClass) → Tames (brought_marks token which classes)
unfolding brought_marks
brought_tame token which classes = both (each (brings_class token) classes) _ (every (brings_class token) (brings_tame token) classes) (every (provides_attribute which token) (provides_tame which token) STANDARD_NAMES)

standard_tame : (token : ℕ) (o : Option StandardPrefix) → Tames (marks_of_standard token o)
unfolding marks_of_standard
standard_tame token None = tt
standard_tame token (Some prefix.Simset) = brought_tame token prefix.Simset classes_of_sets
standard_tame token (Some prefix.Simulation) = brought_tame token prefix.Simulation classes_of_simulation

prefix_tame : (first : ℕ) (class : Identifier) → Tames (prefix_marks first class)
unfolding prefix_marks standard_marks
prefix_tame first class = (tt, standard_tame first (standard_prefix class.name))

class_prefix_tame : (first : ℕ) (o : Option Identifier) → Tames (class_prefix_marks first o)
unfolding class_prefix_marks
class_prefix_tame first None = tt
class_prefix_tame first (Some class) = prefix_tame first class

class_tame : (o : Option Identifier) (token : ℕ) (x : Identifier) → Tames (class_marks o token x)
unfolding class_marks
class_tame o token x = (tt, (tt, class_prefix_tame x.token.0 o))

prefixed_tame : (class : Identifier) (begin : ℕ) → Tames (prefixed_marks class begin)
unfolding prefixed_marks
prefixed_tame class begin = (tt, prefix_tame begin class)

protected_tame : (hides keeps : Bool) (x : Identifier) → Tames (protected_marks hides keeps x)
unfolding protected_marks
protected_tame hides keeps x = (tt, tt)

protection_tame : (q : Protected) → Tames (protection_marks q)
protection_tame q = every (protected_marks (is_written q.hidden) (is_written q.protected)) (protected_tame (is_written q.hidden) (is_written q.protected)) q.names

virtual_name_tame : (result : Option TypeName) (x : Identifier) → Tames (virtual_name_marks result x)
unfolding virtual_name_marks
virtual_name_tame result x = (tt, result_tame result)

virtual_tame : (v : Virtual) → Tames (virtual_marks v)
virtual_tame v = every (virtual_name_marks v.result) (virtual_name_tame v.result) v.names

interface_tame : (i : Interface) → Tames (interface_marks i)
interface_tame i = both (each protection_marks i.protections) _ (every protection_marks protection_tame i.protections) (every virtual_marks virtual_tame i.virtuals)

program_tame : (o : Option Prefix) (begin : ℕ) → Tames (program_marks o begin)
unfolding program_marks
program_tame None begin = (tt, tt)
program_tame (Some q) begin = prefixed_tame q.class begin

inner_tame : (p : Position) (token : ℕ) → Tames (inner_marks p token)
unfolding inner_marks
inner_tame ClassStatement token = (tt, tt)
inner_tame ClassBody token = (refl, tt)
inner_tame Inside token = (refl, tt)

-- ---- the walk

mutual
  unfolding declaring

  statement_tame : (p : Position) (a : Statement) → Tames (statement_events declaring p a)
  statement_tame p (Empty i) = tt
  statement_tame ClassBody (Compound b) = class_body_tame b
  statement_tame ClassStatement (Compound b) = block_tame b
  statement_tame Inside (Compound b) = block_tame b
  statement_tame p (Prefixed x args (Begin i ds ss e)) = both (prefixed_marks x i) _ (prefixed_tame x i) (whole_tame (Begin i ds ss e))
  statement_tame p (InnerStatement i) = inner_tame p i
  statement_tame p (Call e) = tt
  statement_tame p (Assign left rest) = tt
  statement_tame p (Choose i c a rest) = both (statement_events declaring Inside a) _ (statement_tame Inside a) (statements_tame Inside rest)
  statement_tame p (Repeat i c a) = statement_tame Inside a
  statement_tame p (For i x sign j es a) = statement_tame Inside a
  statement_tame p (Inspect i object d a e rest) =
      (tt, both (statement_events declaring Inside a) (Closes e ∷ statements_events declaring Inside rest) (statement_tame Inside a) (tt, statements_tame Inside rest))
  statement_tame p (InspectWhen i object whens rest) = both (arms_events declaring whens) _ (arms_tame whens) (statements_tame Inside rest)
  statement_tame p (Activate i word process schedule) = tt

  statements_tame : (p : Position) (ss : Statements) → Tames (statements_events declaring p ss)
  statements_tame p NoStatement = tt
  statements_tame p (Also s ss) = both (statement_events declaring p s) _ (statement_tame p s) (statements_tame p ss)

  arms_tame : (a : Arms) → Tames (arms_events declaring a)
  arms_tame NoArm = tt
  arms_tame (When i x d a e others) =
      (tt, both (statement_events declaring Inside a ++ (Closes e ∷ [])) (arms_events declaring others) (both (statement_events declaring Inside a) (Closes e ∷ []) (statement_tame Inside a) (tt, tt)) (arms_tame others))

  block_tame : (b : Block) → Tames (block_events declaring b)
  block_tame (Begin i NoDeclaration ss e) = statements_tame Inside ss
  block_tame (Begin i (With d ds) ss e) =
      let first : List Mark = declarations_events declaring (With d ds) in
      let second : List Mark = statements_events declaring Inside ss in
      (tt, both (first ++ second) (Closes e ∷ []) (both first second (both (declaration_events declaring d) _ (declaration_tame d) (declarations_tame ds)) (statements_tame Inside ss)) (tt, tt))

  whole_tame : (b : Block) → Tames (whole_events declaring b)
  whole_tame (Begin i ds ss e) =
      both (declarations_events declaring ds) _ (declarations_tame ds) (both (statements_events declaring Inside ss) (Closes e ∷ []) (statements_tame Inside ss) (tt, tt))

  class_body_tame : (b : Block) → Tames (class_events declaring b)
  class_body_tame (Begin i ds ss e) = both (declarations_events declaring ds) _ (declarations_tame ds) (statements_tame ClassStatement ss)

  declarations_tame : (ds : Declarations) → Tames (declarations_events declaring ds)
  declarations_tame NoDeclaration = tt
  declarations_tame (With d ds) = both (declaration_events declaring d) _ (declaration_tame d) (declarations_tame ds)

  declaration_tame : (d : Declaration) → Tames (declaration_events declaring d)
  declaration_tame (Variables type vs) = every (variable_marks type) (variable_tame type) vs
  declaration_tame (Arrays type i segments) = every (segment_marks type) (segment_tame type) segments
  declaration_tame (DeclareProcedure result i h body e) =
      both (procedure_marks result i h.name ++ heading_marks h) _ (both (procedure_marks result i h.name) _ (procedure_tame result i h.name) (heading_tame h))
      (both (statement_events declaring Inside body) (Closes e ∷ []) (statement_tame Inside body) (tt, tt))
  declaration_tame (DeclareClass prefix i h interface body e) =
      both (class_marks prefix i h.name ++ (heading_marks h ++ interface_marks interface)) _
      (both (class_marks prefix i h.name) _ (class_tame prefix i h.name) (both (heading_marks h) _ (heading_tame h) (interface_tame interface)))
      (both (statement_events declaring ClassBody body) (Closes e ∷ []) (statement_tame ClassBody body) (tt, tt))

begun : (o : Option Prefix) (b : Block) → Tames (program_events declaring (record { prefix = o; block = b }))
unfolding program_events declaring
begun o (Begin i ds ss e) = both (program_marks o i) _ (program_tame o i) (whole_tame (Begin i ds ss e))

whole : (p : Program) → Tames (program_events declaring p)
whole p = begun p.prefix p.block

at_place : (before behind : List Mark) (m : Mark) → Tames (before ++ m ∷ behind) → Tame m
at_place [] behind m h = h.0
at_place (n ∷ before) behind m h = at_place before behind m h.1

pub only_inner : (p : Program) (before behind : List Mark) (token : ℕ) (rule : Rule) → program_events declaring p ≡ before ++ Breaks token rule ∷ behind → rule ≡ r.InnerOutOfPlace
only_inner p before behind token rule e = at_place before behind (Breaks token rule) (subst Tames e (whole p))
