-- The marks of a program, with the texts that they open: the walk over the syntax, once for all that is said of its tables.
use Rattle.std.proofs.Common.{◌≡◌, ◌⊎◌, inl, inr, ℕ, Bool, true, false, List, [], ◌∷◌, ◌++◌, length, Option, Some, None, refl, sym, ap, ◌∙◌, subst, append-nil, append_assoc}
use Rattle.sim_tree.specs.declared.expr.Identifier.{Identifier}
use Rattle.sim_tree.specs.declared.stmt.Mode.{Mode as Word}
use Rattle.sim_tree.specs.declared.stmt.TypeName.{TypeName}
use Rattle.sim_tree.specs.declared.stmt.TypeName.TheVariants as type_name
use Rattle.sim_tree.specs.declared.stmt.Variable.{Variable}
use Rattle.sim_tree.specs.Syntax.{Also, Arms, Arrayed, Arrays, Begin, Block, Compound, Declarations, DeclareClass, DeclareProcedure, Heading, Interface, Moded as ModePart, NoArm, NoDeclaration, NoStatement, Prefix, Program, Specification, Specified as Specifier, Statement, Statements, Variables, Virtual, When, With, Protected, Expressions}
use Rattle.sim_tree.specs.Syntax as syntax
use Rattle.sim_base.specs.declared.rule.Rule.{Rule}
use Rattle.sim_base.specs.declared.rule.Rule.TheVariants as r
use Rattle.sim_scope.specs.declared.types.BlockKind.{BlockKind}
use Rattle.sim_scope.specs.declared.types.BlockKind.TheVariants as kind
use Rattle.sim_scope.specs.declared.types.Entry.{Entry}
use Rattle.sim_scope.specs.declared.types.Entry.TheVariants as entry
use Rattle.sim_scope.specs.declared.types.FormalKind.{FormalKind}
use Rattle.sim_scope.specs.declared.types.FormalKind.TheVariants as shape
use Rattle.sim_scope.specs.declared.types.Mode.{Mode}
use Rattle.sim_scope.specs.declared.types.Position.{Position}
use Rattle.sim_scope.specs.declared.types.Position.TheVariants.{ClassBody, ClassStatement, Inside}
use Rattle.sim_scope.specs.declared.types.SimType.{SimType}
use Rattle.sim_scope.specs.declared.types.SimType.TheVariants as t
use Rattle.sim_scope.specs.Bodies.{body_declarations, body_statements}
use Rattle.sim_scope.specs.Building.{Breaks, Closes, Declares, DeclaresClass, DeclaresProcedure, Headed, Inner, Mark, Moded, Opens, Parameter, Qualifies, Specified, Prefixes, Protects}
use Rattle.sim_scope.specs.Declare.{array_marks, class_marks, class_prefix_marks, declaring, first_of_class, first_of_procedure, headed_marks, heading_marks, inner_marks, interface_marks, mode_named, mode_part_marks, moded_marks, parameter_marks, procedure_marks, program_marks, protection_marks, qualified_marks, qualified_result, result_named, segment_marks, specification_marks, specified_marks, type_named, variable_marks, virtual_marks, virtual_name_marks, brought_marks, marks_of_standard, prefix_marks, standard_marks, is_written, protected_marks, prefixed_marks}
use Rattle.sim_scope.specs.Runs.{each}
use Rattle.sim_scope.specs.declared.types.StandardPrefix.{StandardPrefix}
use Rattle.sim_scope.specs.declared.types.StandardPrefix.TheVariants as standard_prefixes
use Rattle.sim_scope.specs.Standard.{standard_prefix}
use Rattle.sim_scope.specs.Walk.{arms_events, begin_of, block_events, declaration_events, declarations_events, program_events, statement_events, statements_events, whole_events}
use Rattle.sim_meaning.specs.Texts.{BlockText, ClassText, ConnectionText, ProcedureText, Text, arms_texts, block_texts, declaration_texts, declarations_texts, prefix_texts, program_texts, statement_texts, statements_texts, PrefixedText, prefixed_texts, standard_texts}
use Rattle.sim_agree.proofs.StandardPrefixes.{Spells, brought_texts, classes_of, no_texts, texts_of_standard}

-- what a block or a class declares itself, but for its parameters, procedures and classes
unfoldable pub own_variable : TypeName → Variable → List Mark
own_variable type v = (elim v.value [ None ↦ Declares v.name (entry.Variable (type_named type)) ∷ [] | Some c ↦ Declares v.name (entry.Constant (type_named type)) ∷ [] ])

unfoldable pub own_array : TypeName → (dimensions : ℕ) → Identifier → List Mark
own_array type n x = Declares x (entry.Array (type_named type) n) ∷ []

abbrev pub own_segment : TypeName → Arrayed → List Mark
own_segment type a = each (own_array type (length a.bounds)) a.names

abbrev pub own_marks : Declarations → List Mark
own_marks NoDeclaration = []
own_marks (With (Variables type vs) ds) = each (own_variable type) vs ++ own_marks ds
own_marks (With (Arrays type i segments) ds) = each (own_segment type) segments ++ own_marks ds
own_marks (With (DeclareProcedure result i h a end) ds) = own_marks ds
own_marks (With (DeclareClass prefix i h interface a end) ds) = own_marks ds

-- a text that is open, with the marks that are still to come in it: the ends of its heading, then its own declarations
pub record Open : Type 0 where
  pub text : Text
  pub owed : List Mark

abbrev pub item : Text → List Mark → Open
item x owed = record { text = x; owed = owed }

-- what a text declares, but for its parameters
abbrev pub declared_in_text : Text → Declarations
declared_in_text (BlockText i ds ss) = ds
declared_in_text (ClassText prefix h ds ss) = ds
declared_in_text (PrefixedText class es ds ss) = ds
declared_in_text _ = NoDeclaration

-- a block, with a prefix or not, or a class
abbrev pub Declaring : Text → Type 0
Declaring (BlockText i ds ss) = Unit {0}
Declaring (ClassText prefix h ds ss) = Unit {0}
Declaring (PrefixedText class es ds ss) = Unit {0}
Declaring _ = ⊥

-- a procedure or a class
abbrev pub Taking : Text → Type 0
Taking (ProcedureText result h a) = Unit {0}
Taking (ClassText prefix h ds ss) = Unit {0}
Taking _ = ⊥

-- a class or a block with a prefix
abbrev pub Prefixing : Text → Type 0
Prefixing (ClassText prefix h ds ss) = Unit {0}
Prefixing (PrefixedText class es ds ss) = Unit {0}
Prefixing _ = ⊥

-- a class, which may have virtual parts
abbrev pub Interfacing : Text → Type 0
Interfacing (ClassText prefix h ds ss) = Unit {0}
Interfacing _ = ⊥

-- a variable, a constant or an array
abbrev pub OwnEntry : Entry → Type 0
OwnEntry (entry.Variable ty) = Unit {0}
OwnEntry (entry.Constant ty) = Unit {0}
OwnEntry (entry.Array ty n) = Unit {0}
OwnEntry _ = ⊥

-- what a mark declares: no virtual knows its match yet
abbrev pub Declarable : Entry → Type 0
Declarable (entry.Virtual result (Some d)) = ⊥
Declarable _ = Unit {0}

-- a parameter that is no procedure has a type
abbrev pub TypedFormal : FormalKind → Option SimType → Type 0
TypedFormal shape.Simple None = ⊥
TypedFormal shape.Array None = ⊥
TypedFormal k ty = Unit {0}

abbrev pub PlainKind : BlockKind → Type 0
PlainKind kind.Program = Unit {0}
PlainKind kind.SubBlock = Unit {0}
PlainKind _ = ⊥

-- what is of references
abbrev pub IsReference : SimType → Type 0
IsReference t.NoneType = Unit {0}
IsReference (t.Ref class) = Unit {0}
IsReference _ = ⊥

abbrev pub AreReferences : Option SimType → Type 0
AreReferences None = ⊥
AreReferences (Some ty) = IsReference ty

abbrev pub OfReferences : Entry → Type 0
OfReferences (entry.Variable ty) = IsReference ty
OfReferences (entry.Constant ty) = IsReference ty
OfReferences (entry.Array ty n) = IsReference ty
OfReferences (entry.Procedure result k) = AreReferences result
OfReferences (entry.Virtual result own) = AreReferences result
OfReferences (entry.Formal f) = AreReferences f.ty
OfReferences _ = ⊥

-- behind what is of references stands the class that is written for them
pub data Quals (References : Type 0) : List Mark → Type 0 where
  unqualified : (References → ⊥) → Quals References []
  qualifies : (class : Identifier) → References → Quals References (Qualifies class ∷ [])

-- an identifier is one of these
abbrev pub NamedAmong : Identifier → List Identifier → Type 0
NamedAmong y [] = ⊥
NamedAmong y (x ∷ xs) = (y ≡ x) ⊎ NamedAmong y xs

abbrev pub NamedIn : Identifier → List Arrayed → Type 0
NamedIn y [] = ⊥
NamedIn y (a ∷ more) = NamedAmong y a.names ⊎ NamedIn y more

-- an array is declared here, by a type behind which these marks stand
abbrev pub ArrayWritten : Identifier → List Mark → Declarations → Type 0
ArrayWritten y quals NoDeclaration = ⊥
ArrayWritten y quals (With (Arrays type i segments) ds) = (NamedIn y segments × (qualified_marks type ≡ quals)) ⊎ ArrayWritten y quals ds
ArrayWritten y quals (With (Variables type vs) ds) = ArrayWritten y quals ds
ArrayWritten y quals (With (DeclareProcedure result i h a end) ds) = ArrayWritten y quals ds
ArrayWritten y quals (With (DeclareClass prefix i h interface a end) ds) = ArrayWritten y quals ds

-- of what is no array nothing is said
abbrev pub Written : Entry → Identifier → List Mark → Declarations → Type 0
Written (entry.Array ty n) y quals ds = ArrayWritten y quals ds
Written _ y quals ds = Unit {0}

-- no rule is broken whatever the tables are
abbrev pub NoBreaks : List Mark → Type 0
NoBreaks [] = Unit {0}
NoBreaks (Breaks token rule ∷ ms) = ⊥
NoBreaks (_ ∷ ms) = NoBreaks ms

pub data Has (m : Mark) : List Mark → Type 0 where
  here : {ms : List Mark} → Has m (m ∷ ms)
  there : {n : Mark} {ms : List Mark} → Has m ms → Has m (n ∷ ms)

-- the heading has come to its end
abbrev pub NoHeaded : List Mark → Type 0
NoHeaded owed = (y : Identifier) → Has (Headed y) owed → ⊥

-- a standard prefix in front of a block or class that begins at a token
abbrev pub whole_prefix : StandardPrefix → (first : ℕ) → Identifier → List Mark
whole_prefix p first y = Prefixes y ∷ brought_marks first p (classes_of p)

-- Marks that lead from open texts to none, and the texts that they open.
pub data Grouped : List Open → List Mark → List Text → Type 0 where
  nothing : {os : List Open} → os ≡ [] → Grouped os [] []
  block : {os : List Open} {ms : List Mark} {xs : List Text} (k : BlockKind) (text first i : ℕ) (ds : Declarations) (ss : Statements) → PlainKind k
      → Grouped (item (BlockText i ds ss) (own_marks ds) ∷ os) ms xs → Grouped os (Opens k text first ∷ ms) (BlockText i ds ss ∷ xs)
  prefixed_block : {os : List Open} {ms : List Mark} {xs : List Text} (text first : ℕ) (class : Identifier) (es : Expressions) (ds : Declarations) (ss : Statements)
      → Grouped (item (PrefixedText class es ds ss) (own_marks ds) ∷ os) ms xs → Grouped os (Opens kind.Prefixed text first ∷ ms) (PrefixedText class es ds ss ∷ xs)
  standard_block : {os : List Open} {ms : List Mark} {xs : List Text} (p : StandardPrefix) (text first : ℕ) (class : Identifier) (es : Expressions) (ds : Declarations) (ss : Statements) → Spells p class
      → Grouped (item (PrefixedText class es ds ss) (own_marks ds) ∷ os) ms xs → Grouped os (Opens kind.Prefixed text first ∷ (whole_prefix p first class ++ ms)) (PrefixedText class es ds ss ∷ (brought_texts p ++ xs))
  connects : {os : List Open} {ms : List Mark} {xs : List Text} (text first : ℕ)
      → Grouped (item ConnectionText [] ∷ os) ms xs → Grouped os (Opens kind.Connection text first ∷ ms) (ConnectionText ∷ xs)
  procedure : {os : List Open} {ms : List Mark} {xs : List Text} (text first : ℕ) (x : Text) (owed quals : List Mark) (result : Option TypeName) (h : Heading) (a : Statement) → Declaring x → NoHeaded owed → Quals (AreReferences (result_named result)) quals
      → Grouped (item (ProcedureText result h a) (each headed_marks h.formals ++ []) ∷ item x owed ∷ os) ms xs
      → Grouped (item x owed ∷ os) (DeclaresProcedure h.name (result_named result) ∷ (quals ++ Opens kind.Procedure text first ∷ ms)) (ProcedureText result h a ∷ xs)
  declares_class : {os : List Open} {ms : List Mark} {xs : List Text} (text first : ℕ) (x : Text) (owed : List Mark) (prefix : Option Identifier) (h : Heading) (ds : Declarations) (ss : Statements) → Declaring x → NoHeaded owed
      → Grouped (item (ClassText prefix h ds ss) (each headed_marks h.formals ++ own_marks ds) ∷ item x owed ∷ os) ms xs
      → Grouped (item x owed ∷ os) (DeclaresClass h.name ∷ Opens kind.Class text first ∷ ms) (ClassText prefix h ds ss ∷ xs)
  standard_class : {os : List Open} {ms : List Mark} {xs : List Text} (p : StandardPrefix) (text first : ℕ) (x : Text) (owed : List Mark) (y : Identifier) (h : Heading) (ds : Declarations) (ss : Statements) → Spells p y → Declaring x → NoHeaded owed
      → Grouped (item (ClassText (Some y) h ds ss) (each headed_marks h.formals ++ own_marks ds) ∷ item x owed ∷ os) ms xs
      → Grouped (item x owed ∷ os) (DeclaresClass h.name ∷ Opens kind.Class text first ∷ (whole_prefix p first y ++ ms)) (ClassText (Some y) h ds ss ∷ (brought_texts p ++ xs))
  declares : {os : List Open} {ms : List Mark} {xs : List Text} (x : Text) (owed quals : List Mark) (y : Identifier) (e : Entry) → Declaring x → NoHeaded owed → OwnEntry e → Quals (OfReferences e) quals → Written e y quals (declared_in_text x)
      → Grouped (item x owed ∷ os) ms xs → Grouped (item x (Declares y e ∷ owed) ∷ os) (Declares y e ∷ (quals ++ ms)) xs
  specifies_virtual : {os : List Open} {ms : List Mark} {xs : List Text} (x : Text) (owed quals : List Mark) (y : Identifier) (result : Option TypeName) → Interfacing x → NoHeaded owed → Quals (AreReferences (result_named result)) quals
      → Grouped (item x owed ∷ os) ms xs → Grouped (item x owed ∷ os) (Declares y (entry.Virtual (result_named result) None) ∷ (quals ++ ms)) xs
  parameter : {os : List Open} {ms : List Mark} {xs : List Text} (x : Text) (owed : List Mark) (y : Identifier) → Taking x → Has (Headed y) owed
      → Grouped (item x owed ∷ os) ms xs → Grouped (item x owed ∷ os) (Parameter y ∷ ms) xs
  moded : {os : List Open} {ms : List Mark} {xs : List Text} (x : Text) (owed : List Mark) (y : Identifier) (m : Mode) → Taking x
      → Grouped (item x owed ∷ os) ms xs → Grouped (item x owed ∷ os) (Moded y m ∷ ms) xs
  specified : {os : List Open} {ms : List Mark} {xs : List Text} (x : Text) (owed quals : List Mark) (y : Identifier) (k : FormalKind) (ty : Option SimType) → Taking x → TypedFormal k ty → Quals (AreReferences ty) quals
      → Grouped (item x owed ∷ os) ms xs → Grouped (item x owed ∷ os) (Specified y k ty ∷ (quals ++ ms)) xs
  headed : {os : List Open} {ms : List Mark} {xs : List Text} (x : Text) (owed : List Mark) (y : Identifier)
      → Grouped (item x owed ∷ os) ms xs → Grouped (item x (Headed y ∷ owed) ∷ os) (Headed y ∷ ms) xs
  prefixes : {os : List Open} {ms : List Mark} {xs : List Text} (x : Text) (owed : List Mark) (y : Identifier) → Prefixing x → standard_prefix y.name ≡ None
      → Grouped (item x owed ∷ os) ms xs → Grouped (item x owed ∷ os) (Prefixes y ∷ ms) xs
  inner_mark : {os : List Open} {ms : List Mark} {xs : List Text} (token : ℕ) → Grouped os ms xs → Grouped os (Inner token ∷ ms) xs
  guarded : {os : List Open} {ms : List Mark} {xs : List Text} (hides keeps : Bool) (y : Identifier) → Grouped os ms xs → Grouped os (Protects hides keeps y ∷ ms) xs
  breaks_rule : {os : List Open} {ms : List Mark} {xs : List Text} (token : ℕ) (rule : Rule) → Grouped os ms xs → Grouped os (Breaks token rule ∷ ms) xs
  closes : {os : List Open} {ms : List Mark} {xs : List Text} (x : Text) (end : ℕ) → Grouped os ms xs → Grouped (item x [] ∷ os) (Closes end ∷ ms) xs

-- What stands in front leads from some open texts to others.
pub record Adds (os : List Open) (es : List Mark) (ns : List Text) (ps : List Open) : Type 0 where
  pub before : (ms : List Mark) (xs : List Text) → Grouped ps ms xs → Grouped os (es ++ ms) (ns ++ xs)

pub both : {os ps qs : List Open} {es fs : List Mark} {ns ks : List Text} → Adds os es ns ps → Adds ps fs ks qs → Adds os (es ++ fs) (ns ++ ks) qs
both {os = os} {es = es} {fs = fs} {ns = ns} {ks = ks} a b = record {
  before = λ ms xs g. subst (λ z. Grouped os z ((ns ++ ks) ++ xs)) (sym (append_assoc es fs ms)) (subst (λ z. Grouped os (es ++ (fs ++ ms)) z) (sym (append_assoc ns ks xs)) (a.before (fs ++ ms) (ks ++ xs) (b.before ms xs g)));
}

pub none : {os : List Open} → Adds os [] [] os
none = record { before = λ ms xs g. g }

-- ---- references are qualified

pub quals_of_type : (type : TypeName) → Quals (IsReference (type_named type)) (qualified_marks type)
unfolding qualified_marks type_named
quals_of_type (type_name.Integer i) = unqualified (λ r. r)
quals_of_type (type_name.Boolean i) = unqualified (λ r. r)
quals_of_type (type_name.Character i) = unqualified (λ r. r)
quals_of_type (type_name.Text i) = unqualified (λ r. r)
quals_of_type (type_name.Reference i class) = qualifies class tt

pub quals_of_result : (result : Option TypeName) → Quals (AreReferences (result_named result)) (qualified_result result)
unfolding qualified_result result_named
quals_of_result None = unqualified (λ r. r)
quals_of_result (Some type) = quals_of_type type

-- ---- what is owed behind a heading

pub has_split : {m : Mark} (xs ys : List Mark) → Has m (xs ++ ys) → Has m xs ⊎ Has m ys
has_split [] ys h = inr h
has_split (x ∷ xs) ys here = inl here
has_split {m = m} (x ∷ xs) ys (there h) = go (has_split xs ys h)
  where
    go : Has m xs ⊎ Has m ys → Has m (x ∷ xs) ⊎ Has m ys
    go (inl q) = inl (there q)
    go (inr q) = inr q

pub has_cases : {m k : Mark} {ms : List Mark} → Has m (k ∷ ms) → (m ≡ k) ⊎ Has m ms
has_cases here = inl refl
has_cases (there q) = inr q

no_headed_both : (xs ys : List Mark) → NoHeaded xs → NoHeaded ys → NoHeaded (xs ++ ys)
no_headed_both xs ys a b y h = go (has_split xs ys h)
  where
    go : Has (Headed y) xs ⊎ Has (Headed y) ys → ⊥
    go (inl q) = a y q
    go (inr q) = b y q

no_headed_one : (z : Identifier) (e : Entry) → NoHeaded (Declares z e ∷ [])
no_headed_one z e y h = go (has_cases h)
  where
    go : (Headed y ≡ Declares z e) ⊎ Has (Headed y) [] → ⊥
    go (inl q) = cc
    go (inr q) = elim q [ ]

no_headed_more : (z : Identifier) (e : Entry) (owed : List Mark) → NoHeaded owed → NoHeaded (Declares z e ∷ owed)
no_headed_more z e owed n = no_headed_both (Declares z e ∷ []) owed (no_headed_one z e) n

no_headed_none : NoHeaded []
no_headed_none y h = elim h [ ]

no_headed_variable : (type : TypeName) (v : Variable) → NoHeaded (own_variable type v)
unfolding own_variable
no_headed_variable type v = elim v.value as (λ o. NoHeaded (elim o [ None ↦ Declares v.name (entry.Variable (type_named type)) ∷ [] | Some c ↦ Declares v.name (entry.Constant (type_named type)) ∷ [] ]))
    [ None ↦ no_headed_one v.name (entry.Variable (type_named type)) | Some c ↦ no_headed_one v.name (entry.Constant (type_named type)) ]

no_headed_variables : (type : TypeName) (vs : List Variable) → NoHeaded (each (own_variable type) vs)
no_headed_variables type [] = no_headed_none
no_headed_variables type (v ∷ vs) = no_headed_both (own_variable type v) (each (own_variable type) vs) (no_headed_variable type v) (no_headed_variables type vs)

no_headed_array : (type : TypeName) (n : ℕ) (xs : List Identifier) → NoHeaded (each (own_array type n) xs)
unfolding own_array
no_headed_array type n [] = no_headed_none
no_headed_array type n (x ∷ xs) = no_headed_more x (entry.Array (type_named type) n) (each (own_array type n) xs) (no_headed_array type n xs)

no_headed_segments : (type : TypeName) (as_ : List Arrayed) → NoHeaded (each (own_segment type) as_)
no_headed_segments type [] = no_headed_none
no_headed_segments type (a ∷ as_) = no_headed_both (own_segment type a) (each (own_segment type) as_) (no_headed_array type (length a.bounds) a.names) (no_headed_segments type as_)

pub no_headed_own : (ds : Declarations) → NoHeaded (own_marks ds)
no_headed_own NoDeclaration = no_headed_none
no_headed_own (With (Variables type vs) ds) = no_headed_both (each (own_variable type) vs) (own_marks ds) (no_headed_variables type vs) (no_headed_own ds)
no_headed_own (With (Arrays type i segments) ds) = no_headed_both (each (own_segment type) segments) (own_marks ds) (no_headed_segments type segments) (no_headed_own ds)
no_headed_own (With (DeclareProcedure result i h a end) ds) = no_headed_own ds
no_headed_own (With (DeclareClass prefix i h interface a end) ds) = no_headed_own ds

-- ---- declarations of a block or a class

module _ (x : Text) (declares_some : Declaring x) (os : List Open) where
  abbrev In : List Mark → List Open
  In owed = item x owed ∷ os

  one_typed : (type : TypeName) (y : Identifier) (e : Entry) (owed : List Mark) → NoHeaded owed → OwnEntry e → Quals (OfReferences e) (qualified_marks type) → Written e y (qualified_marks type) (declared_in_text x) → Adds (In (Declares y e ∷ owed)) (Declares y e ∷ qualified_marks type) [] (In owed)
  one_typed type y e owed n own q w = record { before = λ ms xs g. declares x owed (qualified_marks type) y e declares_some n own q w g }

  variable_adds : (type : TypeName) (v : Variable) (owed : List Mark) → NoHeaded owed → Adds (In (own_variable type v ++ owed)) (variable_marks type v) [] (In owed)
  unfolding own_variable variable_marks
  variable_adds type v owed n = elim v.value as (λ o. Adds (In ((elim o [ None ↦ Declares v.name (entry.Variable (type_named type)) ∷ [] | Some c ↦ Declares v.name (entry.Constant (type_named type)) ∷ [] ]) ++ owed)) (elim o [ None ↦ Declares v.name (entry.Variable (type_named type)) ∷ qualified_marks type | Some c ↦ Declares v.name (entry.Constant (type_named type)) ∷ qualified_marks type ]) [] (In owed))
      [ None ↦ one_typed type v.name (entry.Variable (type_named type)) owed n tt (quals_of_type type) tt | Some c ↦ one_typed type v.name (entry.Constant (type_named type)) owed n tt (quals_of_type type) tt ]

  variables_add : (type : TypeName) (vs : List Variable) (owed : List Mark) → NoHeaded owed → Adds (In (each (own_variable type) vs ++ owed)) (each (variable_marks type) vs) [] (In owed)
  variables_add type [] owed n = none
  variables_add type (v ∷ vs) owed n =
      subst (λ z. Adds (In z) (variable_marks type v ++ each (variable_marks type) vs) [] (In owed)) (sym (append_assoc (own_variable type v) (each (own_variable type) vs) owed))
      (both (variable_adds type v (each (own_variable type) vs ++ owed) (no_headed_both (each (own_variable type) vs) owed (no_headed_variables type vs) n)) (variables_add type vs owed n))

  array_adds : (type : TypeName) (n : ℕ) (xs : List Identifier) (owed : List Mark) → NoHeaded owed → ((y : Identifier) → NamedAmong y xs → ArrayWritten y (qualified_marks type) (declared_in_text x)) → Adds (In (each (own_array type n) xs ++ owed)) (each (array_marks type n) xs) [] (In owed)
  unfolding own_array array_marks
  array_adds type n [] owed free w = none
  array_adds type n (y ∷ ys) owed free w =
      both (one_typed type y (entry.Array (type_named type) n) (each (own_array type n) ys ++ owed) (no_headed_both (each (own_array type n) ys) owed (no_headed_array type n ys) free) tt (quals_of_type type) (w y (inl refl))) (array_adds type n ys owed free (λ z p. w z (inr p)))

  segments_add : (type : TypeName) (ys : List Arrayed) (owed : List Mark) → NoHeaded owed → ((y : Identifier) → NamedIn y ys → ArrayWritten y (qualified_marks type) (declared_in_text x)) → Adds (In (each (own_segment type) ys ++ owed)) (each (segment_marks type) ys) [] (In owed)
  segments_add type [] owed n w = none
  segments_add type (y ∷ ys) owed n w =
      subst (λ z. Adds (In z) (segment_marks type y ++ each (segment_marks type) ys) [] (In owed)) (sym (append_assoc (own_segment type y) (each (own_segment type) ys) owed))
      (both (array_adds type (length y.bounds) y.names (each (own_segment type) ys ++ owed) (no_headed_both (each (own_segment type) ys) owed (no_headed_segments type ys) n) (λ z p. w z (inl p))) (segments_add type ys owed n (λ z p. w z (inr p))))

-- ---- headings

module _ (x : Text) (takes : Taking x) (rest : List Mark) (os : List Open) where
  abbrev Of : List Mark → List Open
  Of owed = item x owed ∷ os

  abbrev AllHeaded : List Identifier → List Mark → Type 0
  AllHeaded [] owed = Unit {0}
  AllHeaded (y ∷ ys) owed = Has (Headed y) owed × AllHeaded ys owed

  headed_more : (m : Mark) (ys : List Identifier) (owed : List Mark) → AllHeaded ys owed → AllHeaded ys (m ∷ owed)
  headed_more m [] owed q = tt
  headed_more m (y ∷ ys) owed q = (there q.0, headed_more m ys owed q.1)

  all_headed : (ys : List Identifier) → AllHeaded ys (each headed_marks ys ++ rest)
  unfolding headed_marks
  all_headed [] = tt
  all_headed (y ∷ ys) = (here, headed_more (Headed y) ys (each headed_marks ys ++ rest) (all_headed ys))

  parameter_one : (owed : List Mark) (y : Identifier) → Has (Headed y) owed → Adds (Of owed) (Parameter y ∷ []) [] (Of owed)
  parameter_one owed y q = record { before = λ ms ts g. parameter x owed y takes q g }

  moded_one : (owed : List Mark) (y : Identifier) (m : Mode) → Adds (Of owed) (Moded y m ∷ []) [] (Of owed)
  moded_one owed y m = record { before = λ ms ts g. moded x owed y m takes g }

  headed_one : (owed : List Mark) (y : Identifier) → Adds (Of (Headed y ∷ owed)) (Headed y ∷ []) [] (Of owed)
  headed_one owed y = record { before = λ ms ts g. headed x owed y g }

  parameters_add : (ys : List Identifier) (owed : List Mark) → AllHeaded ys owed → Adds (Of owed) (each parameter_marks ys) [] (Of owed)
  unfolding parameter_marks
  parameters_add [] owed q = none
  parameters_add (y ∷ ys) owed q = both (parameter_one owed y q.0) (parameters_add ys owed q.1)

  moded_add : (m : Word) (ys : List Identifier) (owed : List Mark) → Adds (Of owed) (each (moded_marks m) ys) [] (Of owed)
  unfolding moded_marks
  moded_add m [] owed = none
  moded_add m (y ∷ ys) owed = both (moded_one owed y (mode_named m)) (moded_add m ys owed)

  modes_add : (parts : List ModePart) (owed : List Mark) → Adds (Of owed) (each mode_part_marks parts) [] (Of owed)
  modes_add [] owed = none
  modes_add (m ∷ parts) owed = both (moded_add m.mode m.names owed) (modes_add parts owed)

  specified_typed : (type : TypeName) (owed : List Mark) (y : Identifier) (k : FormalKind) → TypedFormal k (Some (type_named type)) → Adds (Of owed) (Specified y k (Some (type_named type)) ∷ qualified_marks type) [] (Of owed)
  specified_typed type owed y k p = record { before = λ ms ts g. specified x owed (qualified_marks type) y k (Some (type_named type)) takes p (quals_of_type type) g }

  specified_procedure : (result : Option TypeName) (owed : List Mark) (y : Identifier) → Adds (Of owed) (Specified y shape.Procedure (result_named result) ∷ qualified_result result) [] (Of owed)
  specified_procedure result owed y = record { before = λ ms ts g. specified x owed (qualified_result result) y shape.Procedure (result_named result) takes tt (quals_of_result result) g }

  specified_add : (k : Specifier) (ys : List Identifier) (owed : List Mark) → Adds (Of owed) (each (specified_marks k) ys) [] (Of owed)
  unfolding specified_marks
  specified_add k [] owed = none
  specified_add (syntax.Simple type) (y ∷ ys) owed = both (specified_typed type owed y shape.Simple tt) (specified_add (syntax.Simple type) ys owed)
  specified_add (syntax.Array type i) (y ∷ ys) owed = both (specified_typed type owed y shape.Array tt) (specified_add (syntax.Array type i) ys owed)
  specified_add (syntax.Procedure result i) (y ∷ ys) owed = both (specified_procedure result owed y) (specified_add (syntax.Procedure result i) ys owed)

  specifications_add : (ys : List Specification) → (owed : List Mark) → Adds (Of owed) (each specification_marks ys) [] (Of owed)
  specifications_add [] owed = none
  specifications_add (y ∷ ys) owed = both (specified_add y.kind y.names owed) (specifications_add ys owed)

  headed_add : (ys : List Identifier) → Adds (Of (each headed_marks ys ++ rest)) (each headed_marks ys) [] (Of rest)
  unfolding headed_marks
  headed_add [] = none
  headed_add (y ∷ ys) = both (headed_one (each headed_marks ys ++ rest) y) (headed_add ys)

  heading_adds : (h : Heading) → Adds (Of (each headed_marks h.formals ++ rest)) (heading_marks h) [] (Of rest)
  heading_adds h =
      let owed : List Mark = each headed_marks h.formals ++ rest in
      both (parameters_add h.formals owed (all_headed h.formals))
      (both (modes_add h.modes owed)
      (both (specifications_add h.specifications owed) (headed_add h.formals)))

-- ---- statements and declarations

as_texts : {os ps : List Open} {es : List Mark} (ns ks : List Text) → ns ≡ ks → Adds os es ns ps → Adds os es ks ps
as_texts {os = os} {ps = ps} {es = es} ns ks e a = subst (λ z. Adds os es z ps) e a

as_marks : {os ps : List Open} {ns : List Text} (es fs : List Mark) → es ≡ fs → Adds os es ns ps → Adds os fs ns ps
as_marks {os = os} {ps = ps} {ns = ns} es fs e a = subst (λ z. Adds os z ns ps) e a

-- a prefix that is spelt as no standard one is one mark, and a standard one brings its classes
pub plain_prefix : (first : ℕ) (y : Identifier) → standard_prefix y.name ≡ None → prefix_marks first y ≡ Prefixes y ∷ []
unfolding prefix_marks standard_marks marks_of_standard
plain_prefix first y e = ap (λ z. Prefixes y ∷ marks_of_standard first z) e

pub standard_marks_are : (p : StandardPrefix) (first : ℕ) (y : Identifier) → Spells p y → prefix_marks first y ≡ whole_prefix p first y
unfolding prefix_marks standard_marks marks_of_standard
standard_marks_are standard_prefixes.Simset first y e = ap (λ z. Prefixes y ∷ marks_of_standard first z) e
standard_marks_are standard_prefixes.Simulation first y e = ap (λ z. Prefixes y ∷ marks_of_standard first z) e

begins_block : (k : BlockKind) (text first i : ℕ) (ds : Declarations) (ss : Statements) (os : List Open) → PlainKind k
    → Adds os (Opens k text first ∷ []) (BlockText i ds ss ∷ []) (item (BlockText i ds ss) (own_marks ds) ∷ os)
begins_block k text first i ds ss os p = record { before = λ ms xs g. block k text first i ds ss p g }

begins_connection : (text first : ℕ) (os : List Open) → Adds os (Opens kind.Connection text first ∷ []) (ConnectionText ∷ []) (item ConnectionText [] ∷ os)
begins_connection text first os = record { before = λ ms xs g. connects text first g }

begins_procedure : (x : Text) → Declaring x → (owed : List Mark) → NoHeaded owed → (os : List Open) (result : Option TypeName) (token : ℕ) (h : Heading) (a : Statement)
    → Adds (item x owed ∷ os) (procedure_marks result token h.name) (ProcedureText result h a ∷ []) (item (ProcedureText result h a) (each headed_marks h.formals ++ []) ∷ item x owed ∷ os)
unfolding procedure_marks
begins_procedure x d owed n os result token h a = record {
  before = λ ms xs g.
      subst (λ z. Grouped (item x owed ∷ os) (DeclaresProcedure h.name (result_named result) ∷ z) (ProcedureText result h a ∷ xs)) (sym (append_assoc (qualified_result result) (Opens kind.Procedure (first_of_procedure result token) h.name.token.0 ∷ []) ms))
      (procedure (first_of_procedure result token) h.name.token.0 x owed (qualified_result result) result h a d n (quals_of_result result) g);
}

begins_class : (x : Text) → Declaring x → (owed : List Mark) → NoHeaded owed → (os : List Open) (prefix : Option Identifier) (token : ℕ) (h : Heading) (ds : Declarations) (ss : Statements)
    → Adds (item x owed ∷ os) (class_marks prefix token h.name) (ClassText prefix h ds ss ∷ prefix_texts prefix) (item (ClassText prefix h ds ss) (each headed_marks h.formals ++ own_marks ds) ∷ item x owed ∷ os)
unfolding class_marks class_prefix_marks
begins_class x d owed n os None token h ds ss = record { before = λ ms xs g. declares_class (first_of_class None token) h.name.token.0 x owed None h ds ss d n g }
begins_class x d owed n os (Some y) token h ds ss = go (standard_prefix y.name) refl
  where
    first : ℕ
    first = first_of_class (Some y) token

    inner : Open
    inner = item (ClassText (Some y) h ds ss) (each headed_marks h.formals ++ own_marks ds)

    head : List Mark → List Mark
    head ms = DeclaresClass h.name ∷ Opens kind.Class (first_of_class (Some y) token) h.name.token.0 ∷ ms

    go : (o : Option StandardPrefix) → standard_prefix y.name ≡ o → Adds (item x owed ∷ os) (DeclaresClass h.name ∷ Opens kind.Class (first_of_class (Some y) token) h.name.token.0 ∷ prefix_marks h.name.token.0 y) (ClassText (Some y) h ds ss ∷ standard_texts y.name) (inner ∷ item x owed ∷ os)
    go None e =
        as_texts (ClassText (Some y) h ds ss ∷ []) (ClassText (Some y) h ds ss ∷ standard_texts y.name) (ap (λ z. ClassText (Some y) h ds ss ∷ z) (sym (no_texts y.name e)))
        (as_marks (head (Prefixes y ∷ [])) (head (prefix_marks h.name.token.0 y)) (ap head (sym (plain_prefix h.name.token.0 y e)))
        (record { before = λ ms xs g. declares_class first h.name.token.0 x owed (Some y) h ds ss d n (prefixes (ClassText (Some y) h ds ss) (each headed_marks h.formals ++ own_marks ds) y tt e g) }))
    go (Some p) e =
        as_texts (ClassText (Some y) h ds ss ∷ brought_texts p) (ClassText (Some y) h ds ss ∷ standard_texts y.name) (ap (λ z. ClassText (Some y) h ds ss ∷ z) (sym (texts_of_standard p y.name e)))
        (as_marks (head (whole_prefix p h.name.token.0 y)) (head (prefix_marks h.name.token.0 y)) (ap head (sym (standard_marks_are p h.name.token.0 y e)))
        (record { before = λ ms xs g. standard_class p first h.name.token.0 x owed y h ds ss e d n g }))

begins_prefixed : (class : Identifier) (i : ℕ) (es : Expressions) (ds : Declarations) (ss : Statements) (os : List Open)
    → Adds os (prefixed_marks class i) (PrefixedText class es ds ss ∷ standard_texts class.name) (item (PrefixedText class es ds ss) (own_marks ds) ∷ os)
unfolding prefixed_marks
begins_prefixed class i es ds ss os = go (standard_prefix class.name) refl
  where
    x : Text
    x = PrefixedText class es ds ss

    head : List Mark → List Mark
    head ms = Opens kind.Prefixed class.token.0 i ∷ ms

    go : (o : Option StandardPrefix) → standard_prefix class.name ≡ o → Adds os (Opens kind.Prefixed class.token.0 i ∷ prefix_marks i class) (PrefixedText class es ds ss ∷ standard_texts class.name) (item (PrefixedText class es ds ss) (own_marks ds) ∷ os)
    go None e =
        as_texts (x ∷ []) (x ∷ standard_texts class.name) (ap (λ z. x ∷ z) (sym (no_texts class.name e)))
        (as_marks (head (Prefixes class ∷ [])) (head (prefix_marks i class)) (ap head (sym (plain_prefix i class e)))
        (record { before = λ ms xs g. prefixed_block class.token.0 i class es ds ss (prefixes (PrefixedText class es ds ss) (own_marks ds) class tt e g) }))
    go (Some p) e =
        as_texts (x ∷ brought_texts p) (x ∷ standard_texts class.name) (ap (λ z. x ∷ z) (sym (texts_of_standard p class.name e)))
        (as_marks (head (whole_prefix p i class)) (head (prefix_marks i class)) (ap head (sym (standard_marks_are p i class e)))
        (record { before = λ ms xs g. standard_block p class.token.0 i class es ds ss e g }))

ends : (x : Text) (end : ℕ) (os : List Open) → Adds (item x [] ∷ os) (Closes end ∷ []) [] os
ends x end os = record { before = λ ms xs g. closes x end g }

-- what is inside a block
inside_block : (os : List Open) (x : Text) (d ds : List Mark) (ss : List Mark) (dt st : List Text) (end : ℕ)
    → Adds (item x d ∷ os) ds dt (item x [] ∷ os) → Adds (item x [] ∷ os) ss st (item x [] ∷ os) → Adds (item x d ∷ os) ((ds ++ ss) ++ Closes end ∷ []) (dt ++ st) os
inside_block os x d ds ss dt st end a b = as_texts ((dt ++ st) ++ []) (dt ++ st) (append-nil (dt ++ st)) (both (both a b) (ends x end os))

guarded_one : (hides keeps : Bool) (y : Identifier) (os : List Open) → Adds os (Protects hides keeps y ∷ []) [] os
guarded_one hides keeps y os = record { before = λ ms xs g. guarded hides keeps y g }

guarded_add : (hides keeps : Bool) (ys : List Identifier) (os : List Open) → Adds os (each (protected_marks hides keeps) ys) [] os
unfolding protected_marks
guarded_add hides keeps [] os = none
guarded_add hides keeps (y ∷ ys) os = both (guarded_one hides keeps y os) (guarded_add hides keeps ys os)

protections_add : (ps : List Protected) (os : List Open) → Adds os (each protection_marks ps) [] os
protections_add [] os = none
protections_add (p ∷ ps) os = both (guarded_add (is_written p.hidden) (is_written p.protected) p.names os) (protections_add ps os)

-- virtual parts
module _ (x : Text) (specifies : Interfacing x) (owed : List Mark) (free : NoHeaded owed) (os : List Open) where
  virtual_one : (result : Option TypeName) (y : Identifier) → Adds (item x owed ∷ os) (virtual_name_marks result y) [] (item x owed ∷ os)
  unfolding virtual_name_marks
  virtual_one result y = record { before = λ ms xs g. specifies_virtual x owed (qualified_result result) y result specifies free (quals_of_result result) g }

  names_add : (result : Option TypeName) (ys : List Identifier) → Adds (item x owed ∷ os) (each (virtual_name_marks result) ys) [] (item x owed ∷ os)
  names_add result [] = none
  names_add result (y ∷ ys) = both (virtual_one result y) (names_add result ys)

  virtuals_add : (vs : List Virtual) → Adds (item x owed ∷ os) (each virtual_marks vs) [] (item x owed ∷ os)
  virtuals_add [] = none
  virtuals_add (v ∷ vs) = both (names_add v.result v.names) (virtuals_add vs)

  interface_adds : (i : Interface) → Adds (item x owed ∷ os) (interface_marks i) [] (item x owed ∷ os)
  interface_adds i = both (protections_add i.protections (item x owed ∷ os)) (virtuals_add i.virtuals)

-- the texts of a class, whose body is `begin .. end` or one statement
pub one_text : (prefix : Option Identifier) (h : Heading) (a : Statement) → ClassText prefix h NoDeclaration (Also a NoStatement) ∷ (prefix_texts prefix ++ statement_texts a) ≡ ClassText prefix h NoDeclaration (Also a NoStatement) ∷ (prefix_texts prefix ++ (statement_texts a ++ []))
one_text prefix h a = ap (λ z. ClassText prefix h NoDeclaration (Also a NoStatement) ∷ (prefix_texts prefix ++ z)) (sym (append-nil (statement_texts a)))

pub class_texts : (prefix : Option Identifier) (j : ℕ) (h : Heading) (i : Interface) (a : Statement) (e : ℕ)
    → declaration_texts (DeclareClass prefix j h i a e) ≡ ClassText prefix h (body_declarations a) (body_statements a) ∷ (prefix_texts prefix ++ (declarations_texts (body_declarations a) ++ statements_texts (body_statements a)))
class_texts prefix j h i (syntax.Compound (Begin n ds ss m)) e = refl
class_texts prefix j h i (syntax.Empty n) e = one_text prefix h (syntax.Empty n)
class_texts prefix j h i (syntax.Prefixed x args b) e = one_text prefix h (syntax.Prefixed x args b)
class_texts prefix j h i (syntax.Inner n) e = one_text prefix h (syntax.Inner n)
class_texts prefix j h i (syntax.Call x) e = one_text prefix h (syntax.Call x)
class_texts prefix j h i (syntax.Assign x sides) e = one_text prefix h (syntax.Assign x sides)
class_texts prefix j h i (syntax.Choose n c x rest) e = one_text prefix h (syntax.Choose n c x rest)
class_texts prefix j h i (syntax.Repeat n c x) e = one_text prefix h (syntax.Repeat n c x)
class_texts prefix j h i (syntax.For n y sign m es x) e = one_text prefix h (syntax.For n y sign m es x)
class_texts prefix j h i (syntax.Inspect n object d x m rest) e = one_text prefix h (syntax.Inspect n object d x m rest)
class_texts prefix j h i (syntax.InspectWhen n object arms rest) e = one_text prefix h (syntax.InspectWhen n object arms rest)
class_texts prefix j h i (syntax.Activate n w process schedule) e = one_text prefix h (syntax.Activate n w process schedule)

procedure_adds : (x : Text) → Declaring x → (os : List Open) (owed : List Mark) → NoHeaded owed → (result : Option TypeName) (j : ℕ) (h : Heading) (a : Statement) (e : ℕ) → Adds (item (ProcedureText result h a) [] ∷ item x owed ∷ os) (statement_events declaring Inside a) (statement_texts a) (item (ProcedureText result h a) [] ∷ item x owed ∷ os)
    → Adds (item x owed ∷ os) (declaration_events declaring (DeclareProcedure result j h a e)) (declaration_texts (DeclareProcedure result j h a e)) (item x owed ∷ os)
unfolding declaring
procedure_adds x d os owed n result j h a e body =
    let y : Text = ProcedureText result h a in
    let ps : List Open = item x owed ∷ os in
    as_texts (y ∷ (statement_texts a ++ [])) (y ∷ statement_texts a) (ap (λ z. y ∷ z) (append-nil (statement_texts a)))
    (both (both (begins_procedure x d owed n os result j h a) (heading_adds y tt [] ps h)) (both body (ends y e ps)))

class_adds : (x : Text) → Declaring x → (os : List Open) (owed : List Mark) → NoHeaded owed → (prefix : Option Identifier) (j : ℕ) (h : Heading) (i : Interface) (a : Statement) (e : ℕ) → Adds (item (ClassText prefix h (body_declarations a) (body_statements a)) (own_marks (body_declarations a)) ∷ item x owed ∷ os) (statement_events declaring ClassBody a) (declarations_texts (body_declarations a) ++ statements_texts (body_statements a))
    (item (ClassText prefix h (body_declarations a) (body_statements a)) [] ∷ item x owed ∷ os)
    → Adds (item x owed ∷ os) (declaration_events declaring (DeclareClass prefix j h i a e)) (declaration_texts (DeclareClass prefix j h i a e)) (item x owed ∷ os)
unfolding declaring
class_adds x d os owed n prefix j h i a e body =
    let y : Text = ClassText prefix h (body_declarations a) (body_statements a) in
    let ps : List Open = item x owed ∷ os in
    let inside : List Text = declarations_texts (body_declarations a) ++ statements_texts (body_statements a) in
    let own : List Mark = own_marks (body_declarations a) in
    as_texts (y ∷ ((prefix_texts prefix ++ []) ++ (inside ++ []))) (declaration_texts (DeclareClass prefix j h i a e))
    (ap (λ z. y ∷ (z ++ (inside ++ []))) (append-nil (prefix_texts prefix)) ∙ ap (λ z. y ∷ (prefix_texts prefix ++ z)) (append-nil inside) ∙ sym (class_texts prefix j h i a e))
    (both (both (begins_class x d owed n os prefix j h (body_declarations a) (body_statements a))
    (both (heading_adds y tt own ps h) (interface_adds y tt own (no_headed_own (body_declarations a)) ps i))) (both body (ends y e ps)))

-- a statement stands in the body of a class, or elsewhere
abbrev place : (in_class : Bool) → Position
place true = ClassStatement
place false = Inside

mutual
  unfolding declaring inner_marks

  statement_adds : (c : Bool) (st : Statement) (os : List Open) → Adds os (statement_events declaring (place c) st) (statement_texts st) os
  statement_adds c (syntax.Empty i) os = none
  statement_adds true (syntax.Compound b) os = block_adds b os
  statement_adds false (syntax.Compound b) os = block_adds b os
  statement_adds c (syntax.Prefixed x args b) os = prefixed_adds x args b os
  statement_adds true (syntax.Inner i) os = record { before = λ ms xs g. inner_mark i g }
  statement_adds false (syntax.Inner i) os = record { before = λ ms xs g. breaks_rule i r.InnerOutOfPlace g }
  statement_adds c (syntax.Call e) os = none
  statement_adds c (syntax.Assign left rest) os = none
  statement_adds c (syntax.Choose i e a rest) os = both (statement_adds false a os) (statements_add false rest os)
  statement_adds c (syntax.Repeat i e a) os = statement_adds false a os
  statement_adds c (syntax.For i x sign j es a) os = statement_adds false a os
  statement_adds c (syntax.Inspect i object d a e rest) os =
      as_texts ((ConnectionText ∷ []) ++ (statement_texts a ++ ([] ++ statements_texts rest))) (ConnectionText ∷ (statement_texts a ++ statements_texts rest)) refl
      (both (begins_connection d d os) (both (statement_adds false a (item ConnectionText [] ∷ os)) (both (ends ConnectionText e os) (statements_add false rest os))))
  statement_adds c (syntax.InspectWhen i object whens rest) os = both (arms_add whens os) (statements_add false rest os)
  statement_adds c (syntax.Activate i word process schedule) os = none

  statements_add : (c : Bool) (ss : Statements) (os : List Open) → Adds os (statements_events declaring (place c) ss) (statements_texts ss) os
  statements_add c NoStatement os = none
  statements_add c (Also a more) os = both (statement_adds c a os) (statements_add c more os)

  arms_add : (arms : Arms) (os : List Open) → Adds os (arms_events declaring arms) (arms_texts arms) os
  arms_add NoArm os = none
  arms_add (When i x d a e more) os =
      as_texts (((ConnectionText ∷ []) ++ (statement_texts a ++ [])) ++ arms_texts more) (ConnectionText ∷ (statement_texts a ++ arms_texts more)) (ap (λ z. ConnectionText ∷ (z ++ arms_texts more)) (append-nil (statement_texts a)))
      (both (both (begins_connection d d os) (both (statement_adds false a (item ConnectionText [] ∷ os)) (ends ConnectionText e os))) (arms_add more os))

  -- the body of a class, which is its `begin .. end` or one statement
  class_body_adds : (prefix : Option Identifier) (a : Statement) (h : Heading) (os : List Open) → ((ps : List Open) → Adds ps (statement_events declaring Inside a) (statement_texts a) ps)
      → Adds (item (ClassText prefix h (body_declarations a) (body_statements a)) (own_marks (body_declarations a)) ∷ os) (statement_events declaring ClassBody a) (declarations_texts (body_declarations a) ++ statements_texts (body_statements a))
      (item (ClassText prefix h (body_declarations a) (body_statements a)) [] ∷ os)
  class_body_adds prefix (syntax.Compound (Begin i ds ss e)) h os one =
      both (declarations_add (ClassText prefix h ds ss) tt os ds (λ y quals w. w)) (statements_add true ss (item (ClassText prefix h ds ss) [] ∷ os))
  class_body_adds prefix (syntax.Empty i) h os one = none
  class_body_adds prefix (syntax.Prefixed x args b) h os one = as_texts (statement_texts (syntax.Prefixed x args b)) (statement_texts (syntax.Prefixed x args b) ++ []) (sym (append-nil (statement_texts (syntax.Prefixed x args b)))) (one (item (ClassText prefix h NoDeclaration (Also (syntax.Prefixed x args b) NoStatement)) [] ∷ os))
  class_body_adds prefix (syntax.Inner i) h os one = as_texts (statement_texts (syntax.Inner i)) (statement_texts (syntax.Inner i) ++ []) (sym (append-nil (statement_texts (syntax.Inner i)))) (one (item (ClassText prefix h NoDeclaration (Also (syntax.Inner i) NoStatement)) [] ∷ os))
  class_body_adds prefix (syntax.Call e) h os one = as_texts (statement_texts (syntax.Call e)) (statement_texts (syntax.Call e) ++ []) (sym (append-nil (statement_texts (syntax.Call e)))) (one (item (ClassText prefix h NoDeclaration (Also (syntax.Call e) NoStatement)) [] ∷ os))
  class_body_adds prefix (syntax.Assign left rest) h os one = as_texts (statement_texts (syntax.Assign left rest)) (statement_texts (syntax.Assign left rest) ++ []) (sym (append-nil (statement_texts (syntax.Assign left rest)))) (one (item (ClassText prefix h NoDeclaration (Also (syntax.Assign left rest) NoStatement)) [] ∷ os))
  class_body_adds prefix (syntax.Choose i c a rest) h os one = as_texts (statement_texts (syntax.Choose i c a rest)) (statement_texts (syntax.Choose i c a rest) ++ []) (sym (append-nil (statement_texts (syntax.Choose i c a rest)))) (one (item (ClassText prefix h NoDeclaration (Also (syntax.Choose i c a rest) NoStatement)) [] ∷ os))
  class_body_adds prefix (syntax.Repeat i c a) h os one = as_texts (statement_texts (syntax.Repeat i c a)) (statement_texts (syntax.Repeat i c a) ++ []) (sym (append-nil (statement_texts (syntax.Repeat i c a)))) (one (item (ClassText prefix h NoDeclaration (Also (syntax.Repeat i c a) NoStatement)) [] ∷ os))
  class_body_adds prefix (syntax.For i x sign j es a) h os one = as_texts (statement_texts (syntax.For i x sign j es a)) (statement_texts (syntax.For i x sign j es a) ++ []) (sym (append-nil (statement_texts (syntax.For i x sign j es a)))) (one (item (ClassText prefix h NoDeclaration (Also (syntax.For i x sign j es a) NoStatement)) [] ∷ os))
  class_body_adds prefix (syntax.Inspect i object d a e rest) h os one = as_texts (statement_texts (syntax.Inspect i object d a e rest)) (statement_texts (syntax.Inspect i object d a e rest) ++ []) (sym (append-nil (statement_texts (syntax.Inspect i object d a e rest)))) (one (item (ClassText prefix h NoDeclaration (Also (syntax.Inspect i object d a e rest) NoStatement)) [] ∷ os))
  class_body_adds prefix (syntax.InspectWhen i object whens rest) h os one = as_texts (statement_texts (syntax.InspectWhen i object whens rest)) (statement_texts (syntax.InspectWhen i object whens rest) ++ []) (sym (append-nil (statement_texts (syntax.InspectWhen i object whens rest)))) (one (item (ClassText prefix h NoDeclaration (Also (syntax.InspectWhen i object whens rest) NoStatement)) [] ∷ os))
  class_body_adds prefix (syntax.Activate i word process schedule) h os one = as_texts (statement_texts (syntax.Activate i word process schedule)) (statement_texts (syntax.Activate i word process schedule) ++ []) (sym (append-nil (statement_texts (syntax.Activate i word process schedule)))) (one (item (ClassText prefix h NoDeclaration (Also (syntax.Activate i word process schedule) NoStatement)) [] ∷ os))

  prefixed_adds : (x : Identifier) (args : Expressions) (b : Block) (os : List Open) → Adds os (prefixed_marks x (begin_of b) ++ whole_events declaring b) (prefixed_texts x args b) os
  prefixed_adds x args (Begin i ds ss e) os =
      let y : Text = PrefixedText x args ds ss in
      as_marks (prefixed_marks x i ++ ((declarations_events declaring ds ++ statements_events declaring Inside ss) ++ Closes e ∷ [])) (prefixed_marks x i ++ (declarations_events declaring ds ++ (statements_events declaring Inside ss ++ Closes e ∷ [])))
      (ap (λ z. prefixed_marks x i ++ z) (append_assoc (declarations_events declaring ds) (statements_events declaring Inside ss) (Closes e ∷ [])))
      (both (begins_prefixed x i args ds ss os)
      (inside_block os y (own_marks ds) (declarations_events declaring ds) (statements_events declaring Inside ss) (declarations_texts ds) (statements_texts ss) e
      (declarations_add y tt os ds (λ z quals w. w)) (statements_add false ss (item y [] ∷ os))))

  block_adds : (b : Block) (os : List Open) → Adds os (block_events declaring b) (block_texts b) os
  block_adds (Begin i NoDeclaration ss e) os = statements_add false ss os
  block_adds (Begin i (With d ds) ss e) os =
      let x : Text = BlockText i (With d ds) ss in
      as_texts (x ∷ (declarations_texts (With d ds) ++ statements_texts ss)) (block_texts (Begin i (With d ds) ss e)) (ap (λ z. x ∷ z) (append_assoc (declaration_texts d) (declarations_texts ds) (statements_texts ss)))
      (both (begins_block kind.SubBlock i i i (With d ds) ss os tt)
      (inside_block os x (own_marks (With d ds)) (declarations_events declaring (With d ds)) (statements_events declaring Inside ss) (declarations_texts (With d ds)) (statements_texts ss) e
      (declarations_add x tt os (With d ds) (λ y quals w. w)) (statements_add false ss (item x [] ∷ os))))

  declarations_add : (x : Text) → Declaring x → (os : List Open) (ds : Declarations) → ((y : Identifier) (quals : List Mark) → ArrayWritten y quals ds → ArrayWritten y quals (declared_in_text x)) → Adds (item x (own_marks ds) ∷ os) (declarations_events declaring ds) (declarations_texts ds) (item x [] ∷ os)
  declarations_add x d os NoDeclaration w = none
  declarations_add x d os (With (Variables type vs) ds) w = both (variables_add x d os type vs (own_marks ds) (no_headed_own ds)) (declarations_add x d os ds w)
  declarations_add x d os (With (Arrays type j segments) ds) w =
      both (segments_add x d os type segments (own_marks ds) (no_headed_own ds) (λ y q. w y (qualified_marks type) (inl (q, refl)))) (declarations_add x d os ds (λ y quals q. w y quals (inr q)))
  declarations_add x d os (With (DeclareProcedure result j h a e) ds) w =
      both (procedure_adds x d os (own_marks ds) (no_headed_own ds) result j h a e (statement_adds false a (item (ProcedureText result h a) [] ∷ item x (own_marks ds) ∷ os))) (declarations_add x d os ds w)
  declarations_add x d os (With (DeclareClass prefix j h i a e) ds) w =
      both (class_adds x d os (own_marks ds) (no_headed_own ds) prefix j h i a e (class_body_adds prefix a h (item x (own_marks ds) ∷ os) (λ ps. statement_adds false a ps))) (declarations_add x d os ds w)

-- a program
pub program_grouped : (p : Program) → Grouped [] (program_events declaring p) (program_texts p.prefix p.block)
unfolding program_events declaring program_marks
program_grouped p = go p.prefix p.block
  where
    go : (prefix : Option Prefix) (b : Block) → Grouped [] (declaring.program prefix (begin_of b) ++ whole_events declaring b) (program_texts prefix b)
    go (Some x) b =
        let all : Adds [] (prefixed_marks x.class (begin_of b) ++ whole_events declaring b) (prefixed_texts x.class x.arguments b) [] = prefixed_adds x.class x.arguments b [] in
        whole_of b x (subst (λ z. Grouped [] z (prefixed_texts x.class x.arguments b)) (append-nil _) (subst (λ z. Grouped [] ((prefixed_marks x.class (begin_of b) ++ whole_events declaring b) ++ []) z) (append-nil _) (all.before [] [] (nothing refl))))
      where
        whole_of : (b : Block) (x : Prefix) → Grouped [] (prefixed_marks x.class (begin_of b) ++ whole_events declaring b) (prefixed_texts x.class x.arguments b) → Grouped [] (prefixed_marks x.class (begin_of b) ++ whole_events declaring b) (program_texts (Some x) b)
        whole_of (Begin i ds ss end) x g = g
    go None (Begin i ds ss end) =
        let x : Text = BlockText i ds ss in
        let all : Adds [] ((Opens kind.Program i i ∷ []) ++ ((declarations_events declaring ds ++ statements_events declaring Inside ss) ++ Closes end ∷ [])) ((x ∷ []) ++ (declarations_texts ds ++ statements_texts ss)) [] =
        both (begins_block kind.Program i i i ds ss [] tt)
        (inside_block [] x (own_marks ds) (declarations_events declaring ds) (statements_events declaring Inside ss) (declarations_texts ds) (statements_texts ss) end
        (declarations_add x tt [] ds (λ y quals w. w)) (statements_add false ss (item x [] ∷ []))) in
        subst (λ z. Grouped [] z (x ∷ (declarations_texts ds ++ statements_texts ss)))
        (append-nil _ ∙ ap (λ z. Opens kind.Program i i ∷ z) (append_assoc (declarations_events declaring ds) (statements_events declaring Inside ss) (Closes end ∷ [])))
        (subst (λ z. Grouped [] (((Opens kind.Program i i ∷ []) ++ ((declarations_events declaring ds ++ statements_events declaring Inside ss) ++ Closes end ∷ [])) ++ []) z) (append-nil _) (all.before [] [] (nothing refl)))
