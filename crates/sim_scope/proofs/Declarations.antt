-- What the constructs of a program declare.
use Rattle.std.proofs.Common.{◌≡◌, ◌<◌, ℕ, Bool, true, false, if◌then◌else◌, List, [], ◌∷◌, ◌++◌, Option, Some, None, refl, sym, ap, ◌∙◌, map, length, subst}
use Rattle.std.proofs.lemmas.List.{length-map}
use Rattle.std.specs.Prelude.{option_map}
use Rattle.std.specs.declared.alloc.Global.{Global}
use Rattle.std.specs.declared.boxed.Box.{Box}
use Rattle.std.specs.declared.vec.Vec.{Vec}
use Rattle.sim_base.specs.declared.numbering.TokenNo.{TokenNo}
use Rattle.sim_base.specs.declared.rule.Rule.TheVariants as r
use Rattle.sim_tree.specs.declared.expr.Expr.{Expr}
use Rattle.sim_tree.specs.declared.expr.Identifier.{Identifier}
use Rattle.sim_tree.specs.declared.program.BlockPrefix.{BlockPrefix}
use Rattle.sim_tree.specs.declared.program.Program.{Program}
use Rattle.sim_tree.specs.declared.stmt.Activation.{Activation}
use Rattle.sim_tree.specs.declared.stmt.ArraySegment.{ArraySegment}
use Rattle.sim_tree.specs.declared.stmt.Assigned.{Assigned}
use Rattle.sim_tree.specs.declared.stmt.Block.{Block}
use Rattle.sim_tree.specs.declared.stmt.Class.{Class}
use Rattle.sim_tree.specs.declared.stmt.Constant.{Constant}
use Rattle.sim_tree.specs.declared.stmt.Decl.{Decl}
use Rattle.sim_tree.specs.declared.stmt.Decl.TheVariants as d
use Rattle.sim_tree.specs.declared.stmt.ForElement.{ForElement}
use Rattle.sim_tree.specs.declared.stmt.Mode.{Mode as Word}
use Rattle.sim_tree.specs.declared.stmt.ModePart.{ModePart}
use Rattle.sim_tree.specs.declared.stmt.Procedure.{Procedure}
use Rattle.sim_tree.specs.declared.stmt.Protection.{Protection}
use Rattle.sim_tree.specs.declared.stmt.ReferenceElement.{ReferenceElement}
use Rattle.sim_tree.specs.declared.stmt.Specification.{Specification}
use Rattle.sim_tree.specs.declared.stmt.Specifier.{Specifier}
use Rattle.sim_tree.specs.declared.stmt.Specifier.TheVariants as specifier
use Rattle.sim_tree.specs.declared.stmt.Stmt.{Stmt}
use Rattle.sim_tree.specs.declared.stmt.Stmt.TheVariants as s
use Rattle.sim_tree.specs.declared.stmt.Timing.{Timing}
use Rattle.sim_tree.specs.declared.stmt.TypeName.{TypeName}
use Rattle.sim_tree.specs.declared.stmt.TypeName.TheVariants as type_name
use Rattle.sim_tree.specs.declared.stmt.Variable.{Variable}
use Rattle.sim_tree.specs.declared.stmt.VirtualSpecification.{VirtualSpecification}
use Rattle.sim_tree.specs.declared.stmt.When.{When}
use Rattle.sim_tree.specs.SyntaxOfProgram.{heading_syntax, interface_syntax, mode_syntax, number_of, prefix_syntax, protection_syntax, segment_syntax, specification_syntax, virtual_syntax}
use Rattle.sim_scope.specs.declared.types.BlockKind.TheVariants as kind
use Rattle.sim_scope.specs.declared.types.Entry.TheVariants as entry
use Rattle.sim_scope.specs.declared.types.FormalKind.TheVariants as formal_kind
use Rattle.sim_scope.specs.declared.types.Mode.{Mode}
use Rattle.sim_scope.specs.declared.types.Position.{Position}
use Rattle.sim_scope.specs.declared.types.Position.TheVariants.{ClassBody, ClassStatement, Inside}
use Rattle.sim_scope.specs.declared.types.SimType.{SimType}
use Rattle.sim_scope.specs.declared.types.StandardClass.{StandardClass}
use Rattle.sim_scope.specs.declared.types.StandardPrefix.{StandardPrefix}
use Rattle.sim_scope.specs.declared.types.StandardPrefix.TheVariants as prefix
use Rattle.sim_scope.specs.Building.{BuildingOf, Opens, Closes, Declares, DeclaresProcedure, DeclaresClass, Parameter, Moded, Specified, Headed, Qualifies, Prefixes, Brings, Provides, Protects, Inner, Breaks, marked}
use Rattle.sim_scope.specs.Declare.{declaring, type_named, result_named, mode_named, first_of_procedure, first_of_class, variable_marks, array_marks, segment_marks, parameter_marks, moded_marks, mode_part_marks, specified_marks, specification_marks, headed_marks, heading_marks, procedure_marks, class_marks, qualified_marks, qualified_result, brings_class, provides_attribute, brought_marks, marks_of_standard, standard_marks, prefix_marks, class_prefix_marks, prefixed_marks, is_written, protected_marks, protection_marks, virtual_name_marks, virtual_marks, interface_marks, program_marks, inner_marks, of_segment, of_mode_part, of_specification, of_specifier, of_protection, of_virtual, of_heading, empty, declared_by, declarations_of}
use Rattle.sim_scope.specs.Runs.{Runs, each}
use Rattle.sim_scope.specs.Standard.{class_owning, is_provided, standard_prefix}
use Rattle.sim_values.specs.declared.standard.Owner.{Owner}
use Rattle.sim_values.specs.declared.standard.Standard.{Standard}
use Rattle.sim_values.specs.declared.standard.TheConstants.{STANDARD_NAMES}
use Rattle.sim_values.specs.Standard.{row_of}
use Rattle.sim_scope.specs.Walk.{of_statement, of_branch, of_arm, of_block, of_whole, of_declaration}
use Rattle.sim_scope.proofs.Walks.{runs_both, runs_as, runs_none, runs_one, runs_first, leads_all, leads_next, leads_end, run_empty, run_block, run_block_of_class, run_body_of_class, run_prefixed, run_inner, run_call, run_assignment, run_if, run_while, run_for, run_for_reference, run_inspect, run_inspect_when, run_activation, run_some, run_no_branch, run_arm, run_compound, run_whole_block, run_whole, run_class_body, run_variables, run_arrays, run_procedure, run_class, run_program}

-- Statements.
pub declare_prefixed : (b m c : BuildingOf) (p : Position) (x : Stmt) (q : BlockPrefix) (k : Block) → x ≡ s.PrefixedBlock q k → Runs marked b m (prefixed_marks q.class k.token.0) → Runs marked m c (of_whole declaring k)
    → Runs marked b c (of_statement declaring p x)
unfolding declaring
declare_prefixed b m c p x q k is enter h = run_prefixed marked declaring b m c p x q k is enter h

pub declare_inner : (b c : BuildingOf) (p : Position) (x : Stmt) (i : TokenNo) → x ≡ s.Inner i → Runs marked b c (inner_marks p i.0) → Runs marked b c (of_statement declaring p x)
unfolding declaring
declare_inner b c p x i is h = run_inner marked declaring b c p x i is h

pub declare_call : (b : BuildingOf) (p : Position) (x : Stmt) (e : Expr) → x ≡ s.Call e → Runs marked b b (of_statement declaring p x)
unfolding declaring
declare_call b p x e is = run_call marked declaring b b p x e is (runs_none marked b)

pub declare_assignment : (b : BuildingOf) (p : Position) (x : Stmt) (e : Expr) (l : Vec Assigned Global) → x ≡ s.Assignment e l → Runs marked b b (of_statement declaring p x)
unfolding declaring
declare_assignment b p x e l is = run_assignment marked declaring b b p x e l is (runs_none marked b)

pub declare_activation : (b : BuildingOf) (p : Position) (x : Stmt) (i : TokenNo) (w : Activation) (e : Expr) (t : Option Timing) → x ≡ s.Activation i w e t → Runs marked b b (of_statement declaring p x)
unfolding declaring
declare_activation b p x i w e t is = run_activation marked declaring b b p x i w e t is (runs_none marked b)

pub declare_if : (b m c : BuildingOf) (p : Position) (x y : Stmt) (i : TokenNo) (e : Expr) (a : Box Stmt Global) (o : Option (Box Stmt Global)) → x ≡ s.If i e a o → y ≡ a.value → Runs marked b m (of_statement declaring Inside y)
    → Runs marked m c (of_branch declaring o) → Runs marked b c (of_statement declaring p x)
unfolding declaring
declare_if b m c p x y i e a o is same g h = run_if marked declaring b b m c p x y i e a o is (runs_none marked b) same g h

pub declare_while : (b c : BuildingOf) (p : Position) (x y : Stmt) (i : TokenNo) (e : Expr) (a : Box Stmt Global) → x ≡ s.While i e a → y ≡ a.value → Runs marked b c (of_statement declaring Inside y) → Runs marked b c (of_statement declaring p x)
unfolding declaring
declare_while b c p x y i e a is same g = run_while marked declaring b b c p x y i e a is (runs_none marked b) same g

pub declare_for : (b c : BuildingOf) (p : Position) (x y : Stmt) (i : TokenNo) (q : Identifier) (t : TokenNo) (l : Vec ForElement Global) (a : Box Stmt Global) → x ≡ s.For i q t l a → y ≡ a.value → Runs marked b c (of_statement declaring Inside y)
    → Runs marked b c (of_statement declaring p x)
unfolding declaring
declare_for b c p x y i q t l a is same g = run_for marked declaring b b c p x y i q t l a is (runs_none marked b) same g

pub declare_for_reference : (b c : BuildingOf) (p : Position) (x y : Stmt) (i : TokenNo) (q : Identifier) (t : TokenNo) (l : Vec ReferenceElement Global) (a : Box Stmt Global) → x ≡ s.ForReference i q t l a → y ≡ a.value
    → Runs marked b c (of_statement declaring Inside y) → Runs marked b c (of_statement declaring p x)
unfolding declaring
declare_for_reference b c p x y i q t l a is same g = run_for_reference marked declaring b b c p x y i q t l a is (runs_none marked b) same g

pub declare_inspect : (b n m o c : BuildingOf) (p : Position) (x y : Stmt) (i : TokenNo) (e : Expr) (j : TokenNo) (a : Box Stmt Global) (f : TokenNo) (w : Option (Box Stmt Global)) → x ≡ s.Inspect i e j a f w
    → n ≡ marked b (Opens kind.Connection j.0 j.0) → y ≡ a.value → Runs marked n m (of_statement declaring Inside y) → o ≡ marked m (Closes f.0) → Runs marked o c (of_branch declaring w) → Runs marked b c (of_statement declaring p x)
unfolding declaring
declare_inspect b n m o c p x y i e j a f w is enter same g leave h =
    run_inspect marked declaring b b n m o c p x y i e j a f w is (runs_none marked b) (runs_one marked b n _ enter) same g (runs_one marked m o _ leave) h

pub declare_inspect_when : (b m c : BuildingOf) (p : Position) (x : Stmt) (l : List When) (i : TokenNo) (e : Expr) (a : Vec When Global) (w : Option (Box Stmt Global)) → x ≡ s.InspectWhen i e a w → l ≡ a.items
    → Runs marked b m (each (of_arm declaring) l) → Runs marked m c (of_branch declaring w) → Runs marked b c (of_statement declaring p x)
unfolding declaring
declare_inspect_when b m c p x l i e a w is same g h = run_inspect_when marked declaring b b m c p x l i e a w is (runs_none marked b) same g h

pub declare_arm : (b m n c : BuildingOf) (w : When) → m ≡ marked b (Opens kind.Connection w.opening.0 w.opening.0) → Runs marked m n (of_statement declaring Inside w.body) → c ≡ marked n (Closes w.end.0) → Runs marked b c (of_arm declaring w)
unfolding declaring
declare_arm b m n c w enter g leave = run_arm marked declaring b b m n c w (runs_none marked b) (runs_one marked b m _ enter) g (runs_one marked n c _ leave)

-- Blocks.
pub declare_block : (b m n o c : BuildingOf) (k : Block) (ds fs : List Decl) (l : List Stmt) → fs ≡ k.declarations.items → 0 < length fs → m ≡ marked b (Opens kind.SubBlock k.token.0 k.token.0) → ds ≡ k.declarations.items
    → Runs marked m n (each (of_declaration declaring) ds) → l ≡ k.statements.items → Runs marked n o (each (of_statement declaring Inside) l) → c ≡ marked o (Closes k.end.0) → Runs marked b c (of_block declaring k)
unfolding declaring
declare_block b m n o c k ds fs l there some enter same f also_ g leave =
    run_whole_block marked declaring b m n o c k ds fs l there some (runs_one marked b m _ enter) same f also_ g (runs_one marked o c _ leave)

pub declare_whole : (b n o c : BuildingOf) (k : Block) (ds : List Decl) (l : List Stmt) → ds ≡ k.declarations.items → Runs marked b n (each (of_declaration declaring) ds) → l ≡ k.statements.items
    → Runs marked n o (each (of_statement declaring Inside) l) → c ≡ marked o (Closes k.end.0) → Runs marked b c (of_whole declaring k)
unfolding declaring
declare_whole b n o c k ds l same f also_ g leave = run_whole marked declaring b n o c k ds l same f also_ g (runs_one marked o c _ leave)

-- Declarations.
pub declare_variables : (b c : BuildingOf) (x : Decl) (t : TypeName) (v : Vec Variable Global) (l : List Variable) → x ≡ d.Variables t v → l ≡ v.items → Runs marked b c (each (variable_marks t) l) → Runs marked b c (of_declaration declaring x)
unfolding declaring
declare_variables b c x t v l is same h = run_variables marked declaring b c x t v is (runs_as marked b c _ _ (ap (each (variable_marks t)) same) h)

each-segments : (t : TypeName) (l : List ArraySegment) → each (of_segment t) l ≡ each (segment_marks t) (map segment_syntax l)
unfolding of_segment
each-segments t [] = refl
each-segments t (x ∷ xs) = ap (λ z. of_segment t x ++ z) (each-segments t xs)

pub declare_arrays : (b c : BuildingOf) (x : Decl) (t : TypeName) (i : TokenNo) (v : Vec ArraySegment Global) (l : List ArraySegment) → x ≡ d.Arrays t i v → l ≡ v.items → Runs marked b c (each (of_segment t) l)
    → Runs marked b c (of_declaration declaring x)
unfolding declaring
declare_arrays b c x t i v l is same h =
    run_arrays marked declaring b c x t i v is (runs_as marked b c _ _ (each-segments t l ∙ ap (λ z. each (segment_marks t) (map segment_syntax z)) same) h)

each-mode-parts : (l : List ModePart) → each of_mode_part l ≡ each mode_part_marks (map mode_syntax l)
unfolding of_mode_part
each-mode-parts [] = refl
each-mode-parts (x ∷ xs) = ap (λ z. of_mode_part x ++ z) (each-mode-parts xs)

each-specifications : (l : List Specification) → each of_specification l ≡ each specification_marks (map specification_syntax l)
unfolding of_specification
each-specifications [] = refl
each-specifications (x ∷ xs) = ap (λ z. of_specification x ++ z) (each-specifications xs)

each-virtuals : (l : List VirtualSpecification) → each of_virtual l ≡ each virtual_marks (map virtual_syntax l)
unfolding of_virtual
each-virtuals [] = refl
each-virtuals (x ∷ xs) = ap (λ z. of_virtual x ++ z) (each-virtuals xs)

of-heading : (x : Identifier) (ps : List Identifier) (ms : List ModePart) (ss : List Specification) → of_heading ps ms ss ≡ heading_marks (heading_syntax x ps ms ss)
unfolding of_heading
of-heading x ps ms ss =
    ap (λ z. each parameter_marks ps ++ (z ++ (each of_specification ss ++ each headed_marks ps))) (each-mode-parts ms)
    ∙ ap (λ z. each parameter_marks ps ++ (each mode_part_marks (map mode_syntax ms) ++ (z ++ each headed_marks ps))) (each-specifications ss)

heading_as : (b c : BuildingOf) (x : Identifier) (ps qs : List Identifier) (ms ns : List ModePart) (ss ts : List Specification) → ps ≡ qs → ms ≡ ns → ss ≡ ts → Runs marked b c (of_heading ps ms ss)
    → Runs marked b c (heading_marks (heading_syntax x qs ns ts))
heading_as b c x ps qs ms ns ss ts e f g h =
    runs_as marked b c _ _ (of-heading x ps ms ss ∙ ap (λ z. heading_marks (heading_syntax x z ms ss)) e ∙ ap (λ z. heading_marks (heading_syntax x qs z ss)) f ∙ ap (λ z. heading_marks (heading_syntax x qs ns z)) g) h

pub declare_procedure : (b k m n c : BuildingOf) (x : Decl) (t : Option TypeName) (i : TokenNo) (q : Procedure) (ps : List Identifier) (ms : List ModePart) (ss : List Specification) (y : Stmt) → x ≡ d.Procedure t i q
    → Runs marked b k (procedure_marks t i.0 q.name) → ps ≡ q.parameters.items → ms ≡ q.modes.items → ss ≡ q.specifications.items → Runs marked k m (of_heading ps ms ss)
    → y ≡ q.body.value → Runs marked m n (of_statement declaring Inside y) → c ≡ marked n (Closes q.end.0) → Runs marked b c (of_declaration declaring x)
unfolding declaring
declare_procedure b k m n c x t i q ps ms ss y is enter e f g head same body leave =
    run_procedure marked declaring b m n c x t i q y is
    (runs_both marked b k m _ _ enter (heading_as k m q.name ps q.parameters.items ms q.modes.items ss q.specifications.items e f g head)) same body (runs_one marked n c _ leave)

each-protections : (l : List Protection) → each of_protection l ≡ each protection_marks (map protection_syntax l)
unfolding of_protection
each-protections [] = refl
each-protections (x ∷ xs) = ap (λ z. of_protection x ++ z) (each-protections xs)

interface_as : (b m c : BuildingOf) (qs rs : List Protection) (vs ws : List VirtualSpecification) → qs ≡ rs → Runs marked b m (each of_protection qs) → vs ≡ ws → Runs marked m c (each of_virtual vs)
    → Runs marked b c (interface_marks (interface_syntax rs ws))
interface_as b m c qs rs vs ws e f g h =
    runs_both marked b m c _ _ (runs_as marked b m _ _ (each-protections qs ∙ ap (λ z. each protection_marks (map protection_syntax z)) e) f)
    (runs_as marked m c _ _ (each-virtuals vs ∙ ap (λ z. each virtual_marks (map virtual_syntax z)) g) h)

pub declare_class : (b k l o m n c : BuildingOf) (x : Decl) (t : Option Identifier) (i : TokenNo) (q : Class) (ps : List Identifier) (ms : List ModePart) (ss : List Specification) (rs : List Protection) (vs : List VirtualSpecification) (y : Stmt)
    → x ≡ d.Class t i q → Runs marked b k (class_marks t i.0 q.name) → ps ≡ q.parameters.items → ms ≡ q.modes.items → ss ≡ q.specifications.items → Runs marked k l (of_heading ps ms ss)
    → rs ≡ q.protections.items → Runs marked l o (each of_protection rs) → vs ≡ q.virtuals.items → Runs marked o m (each of_virtual vs) → y ≡ q.body.value → Runs marked m n (of_statement declaring ClassBody y)
    → c ≡ marked n (Closes q.end.0) → Runs marked b c (of_declaration declaring x)
unfolding declaring
declare_class b k l o m n c x t i q ps ms ss rs vs y is enter e f g head u protections w virtuals same body leave =
    run_class marked declaring b m n c x t i q y is
    (runs_both marked b k m _ _ enter (runs_both marked k l m _ _ (heading_as k l q.name ps q.parameters.items ms q.modes.items ss q.specifications.items e f g head)
    (interface_as l o m rs q.protections.items vs q.virtuals.items u protections w virtuals)))
    same body (runs_one marked n c _ leave)

-- The classes of references.
pub qualify_reference : (b c : BuildingOf) (t : TypeName) (i : TokenNo) (q : Identifier) → t ≡ type_name.Reference i q → c ≡ marked b (Qualifies q) → Runs marked b c (qualified_marks t)
unfolding qualified_marks
qualify_reference b c t i q is h = subst (λ z. Runs marked b c (qualified_marks z)) (sym is) (runs_one marked b c _ h)

pub qualify_integer : (b : BuildingOf) (t : TypeName) (i : TokenNo) → t ≡ type_name.Integer i → Runs marked b b (qualified_marks t)
unfolding qualified_marks
qualify_integer b t i is = subst (λ z. Runs marked b b (qualified_marks z)) (sym is) (runs_none marked b)

pub qualify_boolean : (b : BuildingOf) (t : TypeName) (i : TokenNo) → t ≡ type_name.Boolean i → Runs marked b b (qualified_marks t)
unfolding qualified_marks
qualify_boolean b t i is = subst (λ z. Runs marked b b (qualified_marks z)) (sym is) (runs_none marked b)

pub qualify_character : (b : BuildingOf) (t : TypeName) (i : TokenNo) → t ≡ type_name.Character i → Runs marked b b (qualified_marks t)
unfolding qualified_marks
qualify_character b t i is = subst (λ z. Runs marked b b (qualified_marks z)) (sym is) (runs_none marked b)

pub qualify_text : (b : BuildingOf) (t : TypeName) (i : TokenNo) → t ≡ type_name.Text i → Runs marked b b (qualified_marks t)
unfolding qualified_marks
qualify_text b t i is = subst (λ z. Runs marked b b (qualified_marks z)) (sym is) (runs_none marked b)

pub qualify_some : (b c : BuildingOf) (r : Option TypeName) (t : TypeName) → r ≡ Some t → Runs marked b c (qualified_marks t) → Runs marked b c (qualified_result r)
unfolding qualified_result
qualify_some b c r t is h = subst (λ z. Runs marked b c (qualified_result z)) (sym is) h

pub qualify_none : (b : BuildingOf) (r : Option TypeName) → r ≡ None → Runs marked b b (qualified_result r)
unfolding qualified_result
qualify_none b r is = subst (λ z. Runs marked b b (qualified_result z)) (sym is) (runs_none marked b)

-- Identifiers.
variable-marks : (t : TypeName) (x : Variable) (o : Option Constant) → x.value ≡ o
    → (elim o [ None ↦ Declares x.name (entry.Variable (type_named t)) ∷ qualified_marks t | Some k ↦ Declares x.name (entry.Constant (type_named t)) ∷ qualified_marks t ]) ≡ variable_marks t x
unfolding variable_marks
variable-marks t x o e = ap (λ (z : Option Constant). (elim z [ None ↦ Declares x.name (entry.Variable (type_named t)) ∷ qualified_marks t | Some k ↦ Declares x.name (entry.Constant (type_named t)) ∷ qualified_marks t ])) (sym e)

pub declare_variable : (b m c : BuildingOf) (t : TypeName) (x : Variable) (ty : SimType) → x.value ≡ None → ty ≡ type_named t → m ≡ marked b (Declares x.name (entry.Variable ty)) → Runs marked m c (qualified_marks t)
    → Runs marked b c (variable_marks t x)
declare_variable b m c t x ty none same h g =
    runs_as marked b c _ _ (variable-marks t x None none) (runs_first marked b m c _ _ (h ∙ ap (λ z. marked b (Declares x.name (entry.Variable z))) same) g)

pub declare_constant : (b m c : BuildingOf) (t : TypeName) (x : Variable) (v : Constant) (ty : SimType) → x.value ≡ Some v → ty ≡ type_named t → m ≡ marked b (Declares x.name (entry.Constant ty)) → Runs marked m c (qualified_marks t)
    → Runs marked b c (variable_marks t x)
declare_constant b m c t x v ty some same h g =
    runs_as marked b c _ _ (variable-marks t x (Some v) some) (runs_first marked b m c _ _ (h ∙ ap (λ z. marked b (Declares x.name (entry.Constant z))) same) g)

pub declare_array : (b m c : BuildingOf) (t : TypeName) (n : ℕ) (x : Identifier) (ty : SimType) → ty ≡ type_named t → m ≡ marked b (Declares x (entry.Array ty n)) → Runs marked m c (qualified_marks t) → Runs marked b c (array_marks t n x)
unfolding array_marks
declare_array b m c t n x ty same h g = runs_first marked b m c _ _ (h ∙ ap (λ z. marked b (Declares x (entry.Array z n))) same) g

pub declare_segment : (b c : BuildingOf) (t : TypeName) (a : ArraySegment) (n : ℕ) (l : List Identifier) → n ≡ length a.bounds.items → l ≡ a.names.items → Runs marked b c (each (array_marks t n) l) → Runs marked b c (of_segment t a)
unfolding of_segment
declare_segment b c t a n l many same h =
    runs_as marked b c _ _ (ap (λ z. each (array_marks t n) z) same ∙ ap (λ z. each (array_marks t z) a.names.items) (many ∙ sym (length-map a.bounds.items _))) h

pub declare_parameter : (b c : BuildingOf) (x : Identifier) → c ≡ marked b (Parameter x) → Runs marked b c (parameter_marks x)
unfolding parameter_marks
declare_parameter b c x h = runs_one marked b c _ h

pub declare_moded : (b c : BuildingOf) (w : Word) (m : Mode) (x : Identifier) → m ≡ mode_named w → c ≡ marked b (Moded x m) → Runs marked b c (moded_marks w x)
unfolding moded_marks
declare_moded b c w m x same h = runs_one marked b c _ (h ∙ ap (λ z. marked b (Moded x z)) same)

pub declare_mode_part : (b c : BuildingOf) (m : ModePart) (l : List Identifier) → l ≡ m.names.items → Runs marked b c (each (moded_marks m.mode) l) → Runs marked b c (of_mode_part m)
unfolding of_mode_part
declare_mode_part b c m l same h = runs_as marked b c _ _ (ap (each (moded_marks m.mode)) same) h

pub declare_simple : (b m c : BuildingOf) (x : Specifier) (name : Identifier) (t : TypeName) (ty : SimType) → x ≡ specifier.Simple t → ty ≡ type_named t → m ≡ marked b (Specified name formal_kind.Simple (Some ty))
    → Runs marked m c (qualified_marks t) → Runs marked b c (of_specifier x name)
unfolding of_specifier specified_marks
declare_simple b m c x name t ty is same h g =
    subst (λ z. Runs marked b c (of_specifier z name)) (sym is) (runs_first marked b m c _ _ (h ∙ ap (λ z. marked b (Specified name formal_kind.Simple (Some z))) same) g)

pub declare_array_formal : (b m c : BuildingOf) (x : Specifier) (name : Identifier) (t : TypeName) (i : TokenNo) (ty : SimType) → x ≡ specifier.Array t i → ty ≡ type_named t → m ≡ marked b (Specified name formal_kind.Array (Some ty))
    → Runs marked m c (qualified_marks t) → Runs marked b c (of_specifier x name)
unfolding of_specifier specified_marks
declare_array_formal b m c x name t i ty is same h g =
    subst (λ z. Runs marked b c (of_specifier z name)) (sym is) (runs_first marked b m c _ _ (h ∙ ap (λ z. marked b (Specified name formal_kind.Array (Some z))) same) g)

pub declare_procedure_formal : (b m c : BuildingOf) (x : Specifier) (name : Identifier) (t : Option TypeName) (i : TokenNo) (ty : Option SimType) → x ≡ specifier.Procedure t i → ty ≡ result_named t
    → m ≡ marked b (Specified name formal_kind.Procedure ty) → Runs marked m c (qualified_result t) → Runs marked b c (of_specifier x name)
unfolding of_specifier specified_marks
declare_procedure_formal b m c x name t i ty is same h g =
    subst (λ z. Runs marked b c (of_specifier z name)) (sym is) (runs_first marked b m c _ _ (h ∙ ap (λ z. marked b (Specified name formal_kind.Procedure z)) same) g)

pub declare_specification : (b c : BuildingOf) (x : Specification) (l : List Identifier) → l ≡ x.names.items → Runs marked b c (each (of_specifier x.specifier) l) → Runs marked b c (of_specification x)
unfolding of_specification of_specifier
declare_specification b c x l same h = runs_as marked b c _ _ (ap (each (of_specifier x.specifier)) same) h

pub declare_headed : (b c : BuildingOf) (x : Identifier) → c ≡ marked b (Headed x) → Runs marked b c (headed_marks x)
unfolding headed_marks
declare_headed b c x h = runs_one marked b c _ h

pub declare_heading : (b m n o c : BuildingOf) (ps : List Identifier) (ms : List ModePart) (ss : List Specification) → Runs marked b m (each parameter_marks ps) → Runs marked m n (each of_mode_part ms)
    → Runs marked n o (each of_specification ss) → Runs marked o c (each headed_marks ps) → Runs marked b c (of_heading ps ms ss)
unfolding of_heading
declare_heading b m n o c ps ms ss f g h i = runs_both marked b m c _ _ f (runs_both marked m n c _ _ g (runs_both marked n o c _ _ h i))

pub declare_protected : (b c : BuildingOf) (hides keeps : Bool) (x : Identifier) → c ≡ marked b (Protects hides keeps x) → Runs marked b c (protected_marks hides keeps x)
unfolding protected_marks
declare_protected b c hides keeps x h = runs_one marked b c _ h

pub declare_protection : (b c : BuildingOf) (x : Protection) (hides keeps : Bool) (l : List Identifier) → hides ≡ is_written (option_map number_of x.hidden) → keeps ≡ is_written (option_map number_of x.protected) → l ≡ x.names.items
    → Runs marked b c (each (protected_marks hides keeps) l) → Runs marked b c (of_protection x)
unfolding of_protection
declare_protection b c x hides keeps l e f same h =
    runs_as marked b c _ _ (ap (λ z. each (protected_marks z keeps) l) e ∙ ap (λ z. each (protected_marks (is_written (option_map number_of x.hidden)) z) l) f
    ∙ ap (each (protected_marks (is_written (option_map number_of x.hidden)) (is_written (option_map number_of x.protected)))) same) h

pub declare_virtual_name : (b m c : BuildingOf) (t : Option TypeName) (x : Identifier) (ty : Option SimType) → ty ≡ result_named t → m ≡ marked b (Declares x (entry.Virtual ty None)) → Runs marked m c (qualified_result t)
    → Runs marked b c (virtual_name_marks t x)
unfolding virtual_name_marks
declare_virtual_name b m c t x ty same h g = runs_first marked b m c _ _ (h ∙ ap (λ z. marked b (Declares x (entry.Virtual z None))) same) g

pub declare_virtual : (b c : BuildingOf) (x : VirtualSpecification) (l : List Identifier) → l ≡ x.names.items → Runs marked b c (each (virtual_name_marks x.result) l) → Runs marked b c (of_virtual x)
unfolding of_virtual
declare_virtual b c x l same h = runs_as marked b c _ _ (ap (each (virtual_name_marks x.result)) same) h

pub procedure_begins : (b m n c : BuildingOf) (t : Option TypeName) (i : ℕ) (x : Identifier) (ty : Option SimType) (first : TokenNo) → ty ≡ result_named t → first.0 ≡ first_of_procedure t i → m ≡ marked b (DeclaresProcedure x ty)
    → Runs marked m n (qualified_result t) → c ≡ marked n (Opens kind.Procedure first.0 x.token.0) → Runs marked b c (procedure_marks t i x)
unfolding procedure_marks
procedure_begins b m n c t i x ty first same start h q g =
    runs_first marked b m c _ _ (h ∙ ap (λ z. marked b (DeclaresProcedure x z)) same)
    (runs_both marked m n c _ _ q (runs_one marked n c _ (g ∙ ap (λ z. marked n (Opens kind.Procedure z x.token.0)) start)))

-- Prefixes.
pub declare_brings : (b c : BuildingOf) (i : ℕ) (w : StandardClass) → c ≡ marked b (Brings w i) → Runs marked b c (brings_class i w)
unfolding brings_class
declare_brings b c i w h = runs_one marked b c _ h

pub declare_provides : (b c : BuildingOf) (w : StandardPrefix) (i : ℕ) (name : Standard) (o : Owner) (t : Bool) (class : Option StandardClass) → o ≡ (row_of name).owner → t ≡ is_provided w o → t ≡ true → class ≡ class_owning o → c ≡ marked b (Provides class name i) → Runs marked b c (provides_attribute w i name)
unfolding provides_attribute
declare_provides b c w i name o t class of_row is holds classed h =
    subst (λ z. Runs marked b c (if is_provided w z then Provides (class_owning z) name i ∷ [] else [])) of_row
    (subst (λ z. Runs marked b c (if z then Provides (class_owning o) name i ∷ [] else [])) (sym holds ∙ is)
    (runs_one marked b c _ (h ∙ ap (λ z. marked b (Provides z name i)) classed)))

pub declare_provides_nothing : (b : BuildingOf) (w : StandardPrefix) (i : ℕ) (name : Standard) (o : Owner) (t : Bool) → o ≡ (row_of name).owner → t ≡ is_provided w o → t ≡ false → Runs marked b b (provides_attribute w i name)
unfolding provides_attribute
declare_provides_nothing b w i name o t of_row is fails =
    subst (λ z. Runs marked b b (if is_provided w z then Provides (class_owning z) name i ∷ [] else [])) of_row
    (subst (λ z. Runs marked b b (if z then Provides (class_owning o) name i ∷ [] else [])) (sym fails ∙ is) (runs_none marked b))

pub declare_brought : (b m c : BuildingOf) (i : ℕ) (w : StandardPrefix) (ws : List StandardClass) (names : List Standard) → Runs marked b m (each (brings_class i) ws) → names ≡ STANDARD_NAMES → Runs marked m c (each (provides_attribute w i) names) → Runs marked b c (brought_marks i w ws)
unfolding brought_marks
declare_brought b m c i w ws names f same g = runs_both marked b m c _ _ f (runs_as marked m c _ _ (ap (each (provides_attribute w i)) same) g)

pub declare_standard : (b c : BuildingOf) (i : ℕ) (name : List ℕ) (o : Option StandardPrefix) (w : StandardPrefix) → o ≡ standard_prefix name → o ≡ Some w → Runs marked b c (marks_of_standard i (Some w)) → Runs marked b c (standard_marks i name)
unfolding standard_marks
declare_standard b c i name o w found is h = subst (λ z. Runs marked b c (marks_of_standard i z)) (sym is ∙ found) h

pub declare_no_standard : (b : BuildingOf) (i : ℕ) (name : List ℕ) (o : Option StandardPrefix) → o ≡ standard_prefix name → o ≡ None → Runs marked b b (standard_marks i name)
unfolding standard_marks marks_of_standard
declare_no_standard b i name o found is = subst (λ z. Runs marked b b (marks_of_standard i z)) (sym is ∙ found) (runs_none marked b)

pub declare_prefix : (b m c : BuildingOf) (i : ℕ) (x : Identifier) (name : List ℕ) → m ≡ marked b (Prefixes x) → name ≡ x.name → Runs marked m c (standard_marks i name) → Runs marked b c (prefix_marks i x)
unfolding prefix_marks
declare_prefix b m c i x name h same g = runs_first marked b m c _ _ h (runs_as marked m c _ _ (ap (standard_marks i) same) g)

pub declare_class_prefix : (b c : BuildingOf) (i : ℕ) (o : Option Identifier) (x : Identifier) → o ≡ Some x → Runs marked b c (prefix_marks i x) → Runs marked b c (class_prefix_marks i o)
unfolding class_prefix_marks
declare_class_prefix b c i o x is h = subst (λ z. Runs marked b c (class_prefix_marks i z)) (sym is) h

pub declare_no_prefix : (b : BuildingOf) (i : ℕ) (o : Option Identifier) → o ≡ None → Runs marked b b (class_prefix_marks i o)
unfolding class_prefix_marks
declare_no_prefix b i o is = subst (λ z. Runs marked b b (class_prefix_marks i z)) (sym is) (runs_none marked b)

pub prefixed_begins : (b m c : BuildingOf) (x : Identifier) (i : ℕ) → m ≡ marked b (Opens kind.Prefixed x.token.0 i) → Runs marked m c (prefix_marks i x) → Runs marked b c (prefixed_marks x i)
unfolding prefixed_marks
prefixed_begins b m c x i h g = runs_first marked b m c _ _ h g

pub class_begins : (b m n c : BuildingOf) (t : Option Identifier) (i : ℕ) (x : Identifier) (first : TokenNo) → first.0 ≡ first_of_class t i → m ≡ marked b (DeclaresClass x)
    → n ≡ marked m (Opens kind.Class first.0 x.token.0) → Runs marked n c (class_prefix_marks x.token.0 t) → Runs marked b c (class_marks t i x)
unfolding class_marks
class_begins b m n c t i x first start h g q =
    runs_first marked b m c _ _ h (runs_first marked m n c _ _ (g ∙ ap (λ z. marked m (Opens kind.Class z x.token.0)) start) q)

pub inner_of_class : (b c : BuildingOf) (p : Position) (i : TokenNo) → p ≡ ClassStatement → c ≡ marked b (Inner i.0) → Runs marked b c (inner_marks p i.0)
unfolding inner_marks
inner_of_class b c p i at h = subst (λ z. Runs marked b c (inner_marks z i.0)) (sym at) (runs_one marked b c _ h)

pub inner_as_body : (b c : BuildingOf) (p : Position) (i : TokenNo) → p ≡ ClassBody → c ≡ marked b (Breaks i.0 r.InnerOutOfPlace) → Runs marked b c (inner_marks p i.0)
unfolding inner_marks
inner_as_body b c p i at h = subst (λ z. Runs marked b c (inner_marks z i.0)) (sym at) (runs_one marked b c _ h)

pub inner_elsewhere : (b c : BuildingOf) (p : Position) (i : TokenNo) → p ≡ Inside → c ≡ marked b (Breaks i.0 r.InnerOutOfPlace) → Runs marked b c (inner_marks p i.0)
unfolding inner_marks
inner_elsewhere b c p i at h = subst (λ z. Runs marked b c (inner_marks z i.0)) (sym at) (runs_one marked b c _ h)

pub program_begins : (b c : BuildingOf) (p : Option BlockPrefix) (i : TokenNo) → p ≡ None → c ≡ marked b (Opens kind.Program i.0 i.0) → Runs marked b c (program_marks (option_map prefix_syntax p) i.0)
unfolding program_marks
program_begins b c p i none h = subst (λ z. Runs marked b c (program_marks (option_map prefix_syntax z) i.0)) (sym none) (runs_one marked b c _ h)

pub prefixed_program_begins : (b c : BuildingOf) (p : Option BlockPrefix) (q : BlockPrefix) (i : TokenNo) → p ≡ Some q → Runs marked b c (prefixed_marks q.class i.0) → Runs marked b c (program_marks (option_map prefix_syntax p) i.0)
unfolding program_marks
prefixed_program_begins b c p q i some h = subst (λ z. Runs marked b c (program_marks (option_map prefix_syntax z) i.0)) (sym some) h

pub ruleset declares = (run_empty, run_block, run_block_of_class, run_body_of_class, run_some, run_no_branch, run_compound, run_class_body, leads_all, leads_next, leads_end, declare_prefixed, declare_inner, declare_call, declare_assignment, declare_activation, declare_if, declare_while, declare_for, declare_for_reference, declare_inspect, declare_inspect_when, declare_arm, declare_block, declare_whole, declare_variables, declare_arrays, declare_procedure, declare_class, qualify_reference, qualify_integer, qualify_boolean, qualify_character, qualify_text, qualify_some, qualify_none, declare_variable, declare_constant, declare_array, declare_segment, declare_parameter, declare_moded, declare_mode_part, declare_simple, declare_array_formal, declare_procedure_formal, declare_specification, declare_headed, declare_heading, declare_protected, declare_protection, declare_virtual_name, declare_virtual, procedure_begins, declare_brings, declare_standard, declare_no_standard, declare_prefix, declare_class_prefix, declare_no_prefix, prefixed_begins, class_begins, inner_of_class, inner_as_body, inner_elsewhere, program_begins, prefixed_program_begins)

-- The whole program.
tables_of_program : (m c : BuildingOf) (p : Program) → Runs marked empty m (program_marks (option_map prefix_syntax p.prefix) p.block.token.0) → Runs marked m c (of_whole declaring p.block) → c ≡ declarations_of p
unfolding declarations_of declared_by declaring Runs
tables_of_program m c p f g = run_program marked declaring empty m c p f g

pub declared_tables : (m c : BuildingOf) (p : Program) → Runs marked empty m (program_marks (option_map prefix_syntax p.prefix) p.block.token.0) → Runs marked m c (of_whole declaring p.block) → c.tables ≡ (declarations_of p).tables
declared_tables m c p f g = ap (λ (z : BuildingOf). z.tables) (tables_of_program m c p f g)

pub declared_least : (m c : BuildingOf) (p : Program) → Runs marked empty m (program_marks (option_map prefix_syntax p.prefix) p.block.token.0) → Runs marked m c (of_whole declaring p.block) → c.least ≡ (declarations_of p).least
declared_least m c p f g = ap (λ (z : BuildingOf). z.least) (tables_of_program m c p f g)

pub ruleset declared = (declared_tables, declared_least)
