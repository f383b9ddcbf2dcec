-- The marks of a program beside the tokens of its text, with what each text uses.
use Rattle.std.proofs.Common.{◌≡◌, ◌⊎◌, inl, ℕ, Bool, true, false, List, [], ◌∷◌, ◌++◌, length, map, Option, Some, None, refl, sym, ap, ◌∙◌, subst, append-nil, append_assoc}
use Rattle.sim_tree.specs.declared.expr.Identifier.{Identifier}
use Rattle.sim_tree.specs.declared.stmt.Mode.{Mode as Word}
use Rattle.sim_tree.specs.declared.stmt.TypeName.{TypeName}
use Rattle.sim_tree.specs.declared.stmt.TypeName.TheVariants as type_name
use Rattle.sim_tree.specs.declared.stmt.Variable.{Variable}
use Rattle.sim_tree.specs.Named.{named}
use Rattle.sim_tree.specs.Syntax.{Also, Arms, Arrayed, Arrays, Begin, Block, BoundPair, Compound, Declaration, Declarations, DeclareClass, DeclareProcedure, Element, Expression, Heading, Interface, Moded as ModePart, NoArm, NoDeclaration, NoStatement, Prefix, Program, RightSide, Specification, Specified as Specifier, Statement, Statements, Variables, Virtual, When, With, Protected, Expressions, Schedule}
use Rattle.sim_tree.specs.Syntax as syntax
use Rattle.sim_base.specs.declared.rule.Rule.{Rule}
use Rattle.sim_base.specs.declared.rule.Rule.TheVariants as r
use Rattle.sim_scope.specs.declared.types.BlockKind.TheVariants as kind
use Rattle.sim_scope.specs.declared.types.Entry.{Entry}
use Rattle.sim_scope.specs.declared.types.Entry.TheVariants as entry
use Rattle.sim_scope.specs.declared.types.FormalKind.{FormalKind}
use Rattle.sim_scope.specs.declared.types.FormalKind.TheVariants as shape
use Rattle.sim_scope.specs.declared.types.Mode.{Mode}
use Rattle.sim_scope.specs.declared.types.Position.{Position}
use Rattle.sim_scope.specs.declared.types.Position.TheVariants.{ClassBody, ClassStatement, Inside}
use Rattle.sim_scope.specs.declared.types.SimType.{SimType}
use Rattle.sim_scope.specs.declared.types.StandardPrefix.{StandardPrefix}
use Rattle.sim_scope.specs.Bodies.{body_declarations, body_statements}
use Rattle.sim_scope.specs.Building.{Breaks, Closes, Declares, DeclaresClass, DeclaresProcedure, Headed, Inner, Mark, Moded, Opens, Parameter, Specified, Prefixes, Protects, Qualifies}
use Rattle.sim_scope.specs.Declare.{array_marks, class_marks, class_prefix_marks, declaring, first_of_class, first_of_procedure, headed_marks, heading_marks, inner_marks, interface_marks, mode_named, mode_part_marks, moded_marks, parameter_marks, procedure_marks, program_marks, qualified_marks, qualified_result, result_named, segment_marks, specification_marks, specified_marks, type_named, variable_marks, virtual_marks, virtual_name_marks, is_written, protected_marks, protection_marks, prefix_marks, prefixed_marks}
use Rattle.sim_scope.specs.Runs.{each}
use Rattle.sim_scope.specs.Standard.{standard_prefix}
use Rattle.sim_scope.specs.Walk.{arms_events, begin_of, block_events, declaration_events, declarations_events, program_events, statement_events, statements_events, whole_events}
use Rattle.sim_meaning.specs.Texts.{BlockText, ClassText, ConnectionText, ProcedureText, Text, arms_texts, block_texts, declaration_texts, declarations_texts, program_texts, statement_texts, statements_texts, prefix_texts, PrefixedText, prefixed_texts, standard_texts}
use Rattle.sim_tree.specs.Order.{Behind, Spot, Token, in_bounds, in_each, in_element, in_expression, in_name, in_result, in_schedule, in_segment, in_side, in_type, in_variable, tokens, in_prefix}
use Rattle.sim_agree.specs.Order.{in_arms, in_block, in_declaration, in_declarations, in_heading, in_specification, in_specified, in_statement, in_statements, in_virtual}
use Rattle.sim_agree.proofs.Groups.{AreReferences, Declarable, OfReferences, TypedFormal, Quals, quals_of_result, quals_of_type, plain_prefix, standard_marks_are, whole_prefix}
use Rattle.sim_agree.proofs.StandardPrefixes.{Spells, brought_texts, no_texts, texts_of_standard}

-- ---- what a text uses itself: tokens, sub-blocks and prefixed blocks by their first token, and connections by theirs, with what stands in them

pub data Part : Type 0 where
  Use : ℕ → Part
  Sub : ℕ → Part
  Pre : ℕ → Part
  Con : ℕ → Statement → Part

abbrev pub used : List ℕ → List Part → List Part
used [] u = u
used (x ∷ xs) u = Use x ∷ used xs u

abbrev pub each_used : {A : Type 0} → (A → List Part → List Part) → List A → List Part → List Part
each_used f [] u = u
each_used f (x ∷ xs) u = f x (each_used f xs u)

abbrev pub expression_used : Expression → List Part → List Part
expression_used e u = used (named e []) u

abbrev pub side_used : RightSide → List Part → List Part
side_used x u = expression_used x.value u

abbrev pub element_used : Element → List Part → List Part
element_used (syntax.Once a) u = expression_used a u
element_used (syntax.Step a i b c) u = expression_used a (expression_used b (expression_used c u))
element_used (syntax.While a i b) u = expression_used a (expression_used b u)

abbrev pub schedule_used : Schedule → List Part → List Part
schedule_used syntax.Now u = u
schedule_used (syntax.At i a prior) u = expression_used a u
schedule_used (syntax.Delay i a prior) u = expression_used a u
schedule_used (syntax.Before i a) u = expression_used a u
schedule_used (syntax.After i a) u = expression_used a u

abbrev pub bounds_used : BoundPair → List Part → List Part
bounds_used b u = expression_used b.lower (expression_used b.upper u)

abbrev pub segment_used : Arrayed → List Part → List Part
segment_used a u = each_used bounds_used a.bounds u

abbrev mutual
  pub statement_used : Statement → List Part → List Part
  statement_used (syntax.Empty i) u = u
  statement_used (syntax.Compound b) u = block_used b u
  statement_used (syntax.Prefixed class es b) u = expression_used (syntax.Named class es) (Pre (begin_of b) ∷ u)
  statement_used (syntax.Inner i) u = Use i ∷ u
  statement_used (syntax.Call e) u = expression_used e u
  statement_used (syntax.Assign e sides) u = expression_used e (each_used side_used sides u)
  statement_used (syntax.Choose i e x y) u = expression_used e (statement_used x (statements_used y u))
  statement_used (syntax.Repeat i e x) u = expression_used e (statement_used x u)
  statement_used (syntax.For i name sign j elements x) u = Use name.token.0 ∷ each_used element_used elements (statement_used x u)
  statement_used (syntax.Inspect i e opening x end y) u = expression_used e (Con opening x ∷ statements_used y u)
  statement_used (syntax.InspectWhen i e arms y) u = expression_used e (arms_used arms (statements_used y u))
  statement_used (syntax.Activate i word e schedule) u = Use i ∷ expression_used e (schedule_used schedule u)

  pub statements_used : Statements → List Part → List Part
  statements_used NoStatement u = u
  statements_used (Also x xs) u = statement_used x (statements_used xs u)

  pub arms_used : Arms → List Part → List Part
  arms_used NoArm u = u
  arms_used (When i class opening x end more) u = Use class.token.0 ∷ Con opening x ∷ arms_used more u

  pub block_used : Block → List Part → List Part
  block_used (Begin i NoDeclaration ss e) u = statements_used ss u
  block_used (Begin i (With d ds) ss e) u = Sub i ∷ u

abbrev pub declarations_used : Declarations → List Part → List Part
declarations_used NoDeclaration u = u
declarations_used (With (Arrays type i segments) ds) u = each_used segment_used segments (declarations_used ds u)
declarations_used (With (Variables type vs) ds) u = declarations_used ds u
declarations_used (With (DeclareProcedure result i h a e) ds) u = declarations_used ds u
declarations_used (With (DeclareClass prefix i h interface a e) ds) u = declarations_used ds u

abbrev pub text_used : Text → List Part
text_used (BlockText i ds ss) = declarations_used ds (statements_used ss [])
text_used (ProcedureText result h a) = statement_used a []
text_used (ClassText prefix h ds ss) = declarations_used ds (statements_used ss [])
text_used (PrefixedText class es ds ss) = declarations_used ds (statements_used ss [])
text_used _ = []

-- ---- the texts of a program, each with what it uses

pub data Held : Type 0 where
  Whole : Text → Held
  Joined : (opening : ℕ) → Statement → Held

abbrev pub text_held : Held → Text
text_held (Whole x) = x
text_held (Joined i a) = ConnectionText

abbrev pub used_held : Held → List Part
used_held (Whole x) = text_used x
used_held (Joined i a) = statement_used a []

-- whole texts
abbrev pub all_held : List Text → List Held
all_held [] = []
all_held (x ∷ xs) = Whole x ∷ all_held xs

pub held_all : (xs : List Text) → map text_held (all_held xs) ≡ xs
held_all [] = refl
held_all (x ∷ xs) = ap (λ z. x ∷ z) (held_all xs)

abbrev mutual
  pub statement_held : Statement → List Held
  statement_held (syntax.Empty i) = []
  statement_held (syntax.Compound b) = block_held b
  statement_held (syntax.Prefixed class es b) = prefixed_held class es b
  statement_held (syntax.Inner i) = []
  statement_held (syntax.Call e) = []
  statement_held (syntax.Assign e sides) = []
  statement_held (syntax.Choose i e x y) = statement_held x ++ statements_held y
  statement_held (syntax.Repeat i e x) = statement_held x
  statement_held (syntax.For i name sign j elements x) = statement_held x
  statement_held (syntax.Inspect i e opening x end y) = Joined opening x ∷ (statement_held x ++ statements_held y)
  statement_held (syntax.InspectWhen i e arms y) = arms_held arms ++ statements_held y
  statement_held (syntax.Activate i word e schedule) = []

  pub statements_held : Statements → List Held
  statements_held NoStatement = []
  statements_held (Also x xs) = statement_held x ++ statements_held xs

  pub arms_held : Arms → List Held
  arms_held NoArm = []
  arms_held (When i class opening x end more) = Joined opening x ∷ (statement_held x ++ arms_held more)

  pub prefixed_held : Identifier → Expressions → Block → List Held
  prefixed_held class es (Begin i ds ss e) = Whole (PrefixedText class es ds ss) ∷ (all_held (standard_texts class.name) ++ (declarations_held ds ++ statements_held ss))

  pub block_held : Block → List Held
  block_held (Begin i NoDeclaration ss e) = statements_held ss
  block_held (Begin i (With d ds) ss e) = Whole (BlockText i (With d ds) ss) ∷ (declaration_held d ++ (declarations_held ds ++ statements_held ss))

  pub declarations_held : Declarations → List Held
  declarations_held NoDeclaration = []
  declarations_held (With d ds) = declaration_held d ++ declarations_held ds

  pub declaration_held : Declaration → List Held
  declaration_held (Variables type vs) = []
  declaration_held (Arrays type i segments) = []
  declaration_held (DeclareProcedure result i h a e) = Whole (ProcedureText result h a) ∷ statement_held a
  declaration_held (DeclareClass prefix i h interface (Compound (Begin j ds ss e)) end) = Whole (ClassText prefix h ds ss) ∷ (all_held (prefix_texts prefix) ++ (declarations_held ds ++ statements_held ss))
  declaration_held (DeclareClass prefix i h interface a end) = Whole (ClassText prefix h NoDeclaration (Also a NoStatement)) ∷ (all_held (prefix_texts prefix) ++ statement_held a)

abbrev pub program_held : Option Prefix → Block → List Held
program_held None (Begin i ds ss end) = Whole (BlockText i ds ss) ∷ (declarations_held ds ++ statements_held ss)
program_held (Some x) b = prefixed_held x.class x.arguments b

-- ---- these are its texts

map_both : (xs ys : List Held) (ns ks : List Text) → map text_held xs ≡ ns → map text_held ys ≡ ks → map text_held (xs ++ ys) ≡ ns ++ ks
map_both [] ys ns ks e f = f ∙ ap (λ z. z ++ ks) e
map_both (x ∷ xs) ys ns ks e f = ap (λ z. text_held x ∷ z) (map_both xs ys (map text_held xs) ks refl f) ∙ ap (λ z. z ++ ks) e

-- the body of a class that is one statement
held_alone : (prefix : Option Identifier) (h : Heading) (a : Statement) → map text_held (statement_held a) ≡ statement_texts a
    → map text_held (Whole (ClassText prefix h NoDeclaration (Also a NoStatement)) ∷ (all_held (prefix_texts prefix) ++ statement_held a)) ≡ ClassText prefix h NoDeclaration (Also a NoStatement) ∷ (prefix_texts prefix ++ statement_texts a)
held_alone prefix h a one = ap (λ z. ClassText prefix h NoDeclaration (Also a NoStatement) ∷ z) (map_both (all_held (prefix_texts prefix)) (statement_held a) (prefix_texts prefix) (statement_texts a) (held_all (prefix_texts prefix)) one)

mutual
  held_statement : (a : Statement) → map text_held (statement_held a) ≡ statement_texts a
  held_statement (syntax.Empty i) = refl
  held_statement (syntax.Compound b) = held_block b
  held_statement (syntax.Prefixed class es b) = held_prefixed class es b
  held_statement (syntax.Inner i) = refl
  held_statement (syntax.Call e) = refl
  held_statement (syntax.Assign e sides) = refl
  held_statement (syntax.Choose i e x y) = map_both (statement_held x) (statements_held y) (statement_texts x) (statements_texts y) (held_statement x) (held_statements y)
  held_statement (syntax.Repeat i e x) = held_statement x
  held_statement (syntax.For i name sign j elements x) = held_statement x
  held_statement (syntax.Inspect i e opening x end y) = ap (λ z. ConnectionText ∷ z) (map_both (statement_held x) (statements_held y) (statement_texts x) (statements_texts y) (held_statement x) (held_statements y))
  held_statement (syntax.InspectWhen i e arms y) = map_both (arms_held arms) (statements_held y) (arms_texts arms) (statements_texts y) (held_arms arms) (held_statements y)
  held_statement (syntax.Activate i word e schedule) = refl

  held_statements : (ss : Statements) → map text_held (statements_held ss) ≡ statements_texts ss
  held_statements NoStatement = refl
  held_statements (Also a more) = map_both (statement_held a) (statements_held more) (statement_texts a) (statements_texts more) (held_statement a) (held_statements more)

  held_arms : (arms : Arms) → map text_held (arms_held arms) ≡ arms_texts arms
  held_arms NoArm = refl
  held_arms (When i class opening x end more) = ap (λ z. ConnectionText ∷ z) (map_both (statement_held x) (arms_held more) (statement_texts x) (arms_texts more) (held_statement x) (held_arms more))

  held_prefixed : (class : Identifier) (es : Expressions) (b : Block) → map text_held (prefixed_held class es b) ≡ prefixed_texts class es b
  held_prefixed class es (Begin i ds ss e) =
      ap (λ z. PrefixedText class es ds ss ∷ z)
      (map_both (all_held (standard_texts class.name)) (declarations_held ds ++ statements_held ss) (standard_texts class.name) (declarations_texts ds ++ statements_texts ss) (held_all (standard_texts class.name))
      (map_both (declarations_held ds) (statements_held ss) (declarations_texts ds) (statements_texts ss) (held_declarations ds) (held_statements ss)))

  held_block : (b : Block) → map text_held (block_held b) ≡ block_texts b
  held_block (Begin i NoDeclaration ss e) = held_statements ss
  held_block (Begin i (With d ds) ss e) =
      ap (λ z. BlockText i (With d ds) ss ∷ z)
      (map_both (declaration_held d) (declarations_held ds ++ statements_held ss) (declaration_texts d) (declarations_texts ds ++ statements_texts ss) (held_declaration d)
      (map_both (declarations_held ds) (statements_held ss) (declarations_texts ds) (statements_texts ss) (held_declarations ds) (held_statements ss)))

  held_declarations : (ds : Declarations) → map text_held (declarations_held ds) ≡ declarations_texts ds
  held_declarations NoDeclaration = refl
  held_declarations (With d ds) = map_both (declaration_held d) (declarations_held ds) (declaration_texts d) (declarations_texts ds) (held_declaration d) (held_declarations ds)

  held_declaration : (d : Declaration) → map text_held (declaration_held d) ≡ declaration_texts d
  held_declaration (Variables type vs) = refl
  held_declaration (Arrays type i segments) = refl
  held_declaration (DeclareProcedure result i h a e) = ap (λ z. ProcedureText result h a ∷ z) (held_statement a)
  held_declaration (DeclareClass prefix i h interface a end) = held_class prefix i h interface a end (held_statement a)

  held_class : (prefix : Option Identifier) (i : ℕ) (h : Heading) (interface : Interface) (a : Statement) (end : ℕ) → map text_held (statement_held a) ≡ statement_texts a → map text_held (declaration_held (DeclareClass prefix i h interface a end)) ≡ declaration_texts (DeclareClass prefix i h interface a end)
  held_class prefix i h interface (syntax.Compound (Begin j ds ss e)) end one =
      ap (λ z. ClassText prefix h ds ss ∷ z)
      (map_both (all_held (prefix_texts prefix)) (declarations_held ds ++ statements_held ss) (prefix_texts prefix) (declarations_texts ds ++ statements_texts ss) (held_all (prefix_texts prefix))
      (map_both (declarations_held ds) (statements_held ss) (declarations_texts ds) (statements_texts ss) (held_declarations ds) (held_statements ss)))
  held_class prefix i h interface (syntax.Empty n) end one = held_alone prefix h (syntax.Empty n) one
  held_class prefix i h interface (syntax.Prefixed x args b) end one = held_alone prefix h (syntax.Prefixed x args b) one
  held_class prefix i h interface (syntax.Inner n) end one = held_alone prefix h (syntax.Inner n) one
  held_class prefix i h interface (syntax.Call x) end one = held_alone prefix h (syntax.Call x) one
  held_class prefix i h interface (syntax.Assign x sides) end one = held_alone prefix h (syntax.Assign x sides) one
  held_class prefix i h interface (syntax.Choose n c x rest) end one = held_alone prefix h (syntax.Choose n c x rest) one
  held_class prefix i h interface (syntax.Repeat n c x) end one = held_alone prefix h (syntax.Repeat n c x) one
  held_class prefix i h interface (syntax.For n y sign m es x) end one = held_alone prefix h (syntax.For n y sign m es x) one
  held_class prefix i h interface (syntax.Inspect n object d x m rest) end one = held_alone prefix h (syntax.Inspect n object d x m rest) one
  held_class prefix i h interface (syntax.InspectWhen n object arms rest) end one = held_alone prefix h (syntax.InspectWhen n object arms rest) one
  held_class prefix i h interface (syntax.Activate n v process schedule) end one = held_alone prefix h (syntax.Activate n v process schedule) one

pub held_program : (prefix : Option Prefix) (b : Block) → map text_held (program_held prefix b) ≡ program_texts prefix b
held_program (Some x) b = start b
  where
    start : (b : Block) → map text_held (prefixed_held x.class x.arguments b) ≡ program_texts (Some x) b
    start (Begin i ds ss end) = held_prefixed x.class x.arguments (Begin i ds ss end)
held_program None (Begin i ds ss end) = ap (λ z. BlockText i ds ss ∷ z) (map_both (declarations_held ds) (statements_held ss) (declarations_texts ds) (statements_texts ss) (held_declarations ds) (held_statements ss))

-- ---- a text that is open, with what is still to come of it

pub record Frame : Type 0 where
  pub text : Text
  pub left : List Part

abbrev pub frame : Text → List Part → Frame
frame x u = record { text = x; left = u }

-- the mark of a prefix that is no standard one
pub data Prefs : List Mark → Type 0 where
  unprefixed : Prefs []
  prefixed : (y : Identifier) → standard_prefix y.name ≡ None → Prefs (Prefixes y ∷ [])

-- a block with a prefix is a part of the text around, or the program
pub data Stands (i : ℕ) : List Frame → List Frame → Type 0 where
  among : {os : List Frame} (x : Text) (u : List Part) → Stands i (frame x (Pre i ∷ u) ∷ os) (frame x u ∷ os)
  outermost : Stands i [] []

-- a number in a list
abbrev pub Recent : List ℕ → ℕ → Type 0
Recent [] i = ⊥
Recent (j ∷ r) i = (j ≡ i) ⊎ Recent r i

-- The classes that are written are recent: they are met where nothing has begun or ended since their tokens.
abbrev pub AllRecent : List ℕ → List Mark → Type 0
AllRecent r [] = Unit {0}
AllRecent r (Qualifies class ∷ ms) = Recent r class.token.0 × AllRecent r ms
AllRecent r (_ ∷ ms) = AllRecent r ms

pub data Laid : (recent : List ℕ) → List Frame → List Mark → List Spot → List Held → Type 0 where
  nothing : {r : List ℕ} {os : List Frame} → os ≡ [] → Laid r os [] [] []
  uses : {r : List ℕ} {os : List Frame} {ms : List Mark} {l : List Spot} {hs : List Held} (x : Text) (u : List Part) (i : ℕ) → Laid r (frame x u ∷ os) ms l hs → Laid r (frame x (Use i ∷ u) ∷ os) ms (Token i ∷ l) hs
  -- a token that is no use, and the end of what is no block
  passes : {r : List ℕ} {os : List Frame} {ms : List Mark} {l : List Spot} {hs : List Held} (i : ℕ) → Laid r os ms l hs → Laid r os ms (Token i ∷ l) hs
  -- the class of a type, behind which stands what is of it
  classes : {r : List ℕ} {os : List Frame} {ms : List Mark} {l : List Spot} {hs : List Held} (i : ℕ) → Laid (i ∷ r) os ms l hs → Laid r os ms (Token i ∷ l) hs
  leaves : {r : List ℕ} {os : List Frame} {ms : List Mark} {l : List Spot} {hs : List Held} (i : ℕ) → Laid r os ms l hs → Laid r os ms (Behind i ∷ l) hs
  declares : {r : List ℕ} {o : Frame} {os : List Frame} {ms : List Mark} {l : List Spot} {hs : List Held} (quals : List Mark) (x : Identifier) (e : Entry) → Declarable e → Quals (OfReferences e) quals → AllRecent r quals → Laid r (o ∷ os) ms l hs → Laid r (o ∷ os) (Declares x e ∷ (quals ++ ms)) (Token x.token.0 ∷ l) hs
  parameter : {r : List ℕ} {o : Frame} {os : List Frame} {ms : List Mark} {l : List Spot} {hs : List Held} (x : Identifier) → Laid r (o ∷ os) ms l hs → Laid r (o ∷ os) (Parameter x ∷ ms) (Token x.token.0 ∷ l) hs
  moded : {r : List ℕ} {os : List Frame} {ms : List Mark} {l : List Spot} {hs : List Held} (x : Identifier) (m : Mode) → Laid r os ms l hs → Laid r os (Moded x m ∷ ms) l hs
  specified : {r : List ℕ} {o : Frame} {os : List Frame} {ms : List Mark} {l : List Spot} {hs : List Held} (quals : List Mark) (x : Identifier) (k : FormalKind) (ty : Option SimType) → TypedFormal k ty → Quals (AreReferences ty) quals → AllRecent r quals → Laid r (o ∷ os) ms l hs → Laid r (o ∷ os) (Specified x k ty ∷ (quals ++ ms)) l hs
  headed : {r : List ℕ} {os : List Frame} {ms : List Mark} {l : List Spot} {hs : List Held} (x : Identifier) → Laid r os ms l hs → Laid r os (Headed x ∷ ms) l hs
  inner_mark : {r : List ℕ} {os : List Frame} {ms : List Mark} {l : List Spot} {hs : List Held} (token : ℕ) → Laid r os ms l hs → Laid r os (Inner token ∷ ms) l hs
  guarded : {r : List ℕ} {os : List Frame} {ms : List Mark} {l : List Spot} {hs : List Held} (hides keeps : Bool) (y : Identifier) → Laid r os ms l hs → Laid r os (Protects hides keeps y ∷ ms) l hs
  breaks_rule : {r : List ℕ} {os : List Frame} {ms : List Mark} {l : List Spot} {hs : List Held} (token : ℕ) (rule : Rule) → Laid r os ms l hs → Laid r os (Breaks token rule ∷ ms) l hs
  program : {r : List ℕ} {ms : List Mark} {l : List Spot} {hs : List Held} (text i : ℕ) (ds : Declarations) (ss : Statements) → Laid [] (frame (BlockText i ds ss) (text_used (BlockText i ds ss)) ∷ []) ms l hs
      → Laid r [] (Opens kind.Program text i ∷ ms) (Token i ∷ l) (Whole (BlockText i ds ss) ∷ hs)
  block : {r : List ℕ} {os : List Frame} {ms : List Mark} {l : List Spot} {hs : List Held} (text i : ℕ) (ds : Declarations) (ss : Statements) (x : Text) (u : List Part)
      → Laid [] (frame (BlockText i ds ss) (text_used (BlockText i ds ss)) ∷ frame x u ∷ os) ms l hs → Laid r (frame x (Sub i ∷ u) ∷ os) (Opens kind.SubBlock text i ∷ ms) (Token i ∷ l) (Whole (BlockText i ds ss) ∷ hs)
  prefixed_block : {r : List ℕ} {os : List Frame} {ms : List Mark} {l : List Spot} {hs : List Held} (text i : ℕ) (class : Identifier) (es : Expressions) (ds : Declarations) (ss : Statements) {ps : List Frame} → standard_prefix class.name ≡ None → Stands i ps os
      → Laid [] (frame (PrefixedText class es ds ss) (text_used (PrefixedText class es ds ss)) ∷ os) ms l hs
      → Laid r ps (Opens kind.Prefixed text i ∷ Prefixes class ∷ ms) (Token i ∷ l) (Whole (PrefixedText class es ds ss) ∷ hs)
  standard_block : {r : List ℕ} {os : List Frame} {ms : List Mark} {l : List Spot} {hs : List Held} (p : StandardPrefix) (text i : ℕ) (class : Identifier) (es : Expressions) (ds : Declarations) (ss : Statements) {ps : List Frame} → Spells p class → Stands i ps os
      → Laid [] (frame (PrefixedText class es ds ss) (text_used (PrefixedText class es ds ss)) ∷ os) ms l hs
      → Laid r ps (Opens kind.Prefixed text i ∷ (whole_prefix p i class ++ ms)) (Token i ∷ l) (Whole (PrefixedText class es ds ss) ∷ (all_held (brought_texts p) ++ hs))
  connects : {r : List ℕ} {os : List Frame} {ms : List Mark} {l : List Spot} {hs : List Held} (text i : ℕ) (a : Statement) (x : Text) (u : List Part)
      → Laid [] (frame ConnectionText (statement_used a []) ∷ frame x u ∷ os) ms l hs → Laid r (frame x (Con i a ∷ u) ∷ os) (Opens kind.Connection text i ∷ ms) (Token i ∷ l) (Joined i a ∷ hs)
  procedure : {r : List ℕ} {o : Frame} {os : List Frame} {ms : List Mark} {l : List Spot} {hs : List Held} (text : ℕ) (quals : List Mark) (result : Option TypeName) (h : Heading) (a : Statement) → Quals (AreReferences (result_named result)) quals → AllRecent r quals
      → Laid [] (frame (ProcedureText result h a) (text_used (ProcedureText result h a)) ∷ o ∷ os) ms l hs
      → Laid r (o ∷ os) (DeclaresProcedure h.name (result_named result) ∷ (quals ++ Opens kind.Procedure text h.name.token.0 ∷ ms)) (Token h.name.token.0 ∷ l) (Whole (ProcedureText result h a) ∷ hs)
  declares_class : {r : List ℕ} {o : Frame} {os : List Frame} {ms : List Mark} {l : List Spot} {hs : List Held} (text : ℕ) (prefs : List Mark) (prefix : Option Identifier) (h : Heading) (ds : Declarations) (ss : Statements) → Prefs prefs
      → Laid [] (frame (ClassText prefix h ds ss) (text_used (ClassText prefix h ds ss)) ∷ o ∷ os) ms l hs
      → Laid r (o ∷ os) (DeclaresClass h.name ∷ Opens kind.Class text h.name.token.0 ∷ (prefs ++ ms)) (Token h.name.token.0 ∷ l) (Whole (ClassText prefix h ds ss) ∷ hs)
  standard_class : {r : List ℕ} {o : Frame} {os : List Frame} {ms : List Mark} {l : List Spot} {hs : List Held} (p : StandardPrefix) (text : ℕ) (y : Identifier) (h : Heading) (ds : Declarations) (ss : Statements) → Spells p y
      → Laid [] (frame (ClassText (Some y) h ds ss) (text_used (ClassText (Some y) h ds ss)) ∷ o ∷ os) ms l hs
      → Laid r (o ∷ os) (DeclaresClass h.name ∷ Opens kind.Class text h.name.token.0 ∷ (whole_prefix p h.name.token.0 y ++ ms)) (Token h.name.token.0 ∷ l) (Whole (ClassText (Some y) h ds ss) ∷ (all_held (brought_texts p) ++ hs))
  closes : {r : List ℕ} {os : List Frame} {ms : List Mark} {l : List Spot} {hs : List Held} (x : Text) (end : ℕ) → Laid [] os ms l hs → Laid r (frame x [] ∷ os) (Closes end ∷ ms) (Behind end ∷ l) hs

-- ---- one part after the other

abbrev pub Put : Type 0
Put = List Spot → List Spot

-- where this is so of what is recent in front of them, and that behind them
pub record LaysFrom (P Q : List ℕ → Type 0) (os : List Frame) (es : List Mark) (f : Put) (ns : List Held) (ps : List Frame) : Type 0 where
  pub before : (r : List ℕ) → P r → (ms : List Mark) (l : List Spot) (hs : List Held) → ((q : List ℕ) → Q q → Laid q ps ms l hs) → Laid r os (es ++ ms) (f l) (ns ++ hs)

abbrev pub Anything : List ℕ → Type 0
Anything r = Unit {0}

abbrev pub Lays : List Frame → List Mark → Put → List Held → List Frame → Type 0
Lays os es f ns ps = LaysFrom Anything Anything os es f ns ps

both : {P Q R : List ℕ → Type 0} {os ps qs : List Frame} {es fs : List Mark} {ns ks : List Held} (f g : Put) → LaysFrom P Q os es f ns ps → LaysFrom Q R ps fs g ks qs → LaysFrom P R os (es ++ fs) (λ l. f (g l)) (ns ++ ks) qs
both {os = os} {es = es} {fs = fs} {ns = ns} {ks = ks} f g a b = record {
  before = λ r p ms l hs h. subst (λ z. Laid r os z (f (g l)) ((ns ++ ks) ++ hs)) (sym (append_assoc es fs ms)) (subst (λ z. Laid r os (es ++ (fs ++ ms)) (f (g l)) z) (sym (append_assoc ns ks hs)) (a.before r p (fs ++ ms) (g l) (ks ++ hs) (λ q o. b.before q o ms l hs h)));
}

-- parts without marks and texts
lead : {P Q R : List ℕ → Type 0} {os ps qs : List Frame} {es : List Mark} {ns : List Held} (f g : Put) → LaysFrom P Q os [] f [] ps → LaysFrom Q R ps es g ns qs → LaysFrom P R os es (λ l. f (g l)) ns qs
lead f g a b = record { before = λ r p ms l hs h. a.before r p _ (g l) _ (λ q o. b.before q o ms l hs h) }

follow : {P Q R : List ℕ → Type 0} {os ps qs : List Frame} {es : List Mark} {ns : List Held} (f g : Put) → LaysFrom P Q os es f ns ps → LaysFrom Q R ps [] g [] qs → LaysFrom P R os es (λ l. f (g l)) ns qs
follow f g a b = record { before = λ r p ms l hs h. a.before r p ms (g l) hs (λ q o. b.before q o ms l hs h) }

none : {P : List ℕ → Type 0} {os : List Frame} → LaysFrom P P os [] (λ l. l) [] os
none = record { before = λ r p ms l hs h. h r p }

-- behind them nothing is asked
loosen : {P Q : List ℕ → Type 0} {os ps : List Frame} {es : List Mark} {ns : List Held} (f : Put) → LaysFrom P Q os es f ns ps → LaysFrom P Anything os es f ns ps
loosen f a = record { before = λ r p ms l hs h. a.before r p ms l hs (λ q o. h q tt) }

as_held : {os ps : List Frame} {es : List Mark} (f : Put) (ns ks : List Held) → ns ≡ ks → Lays os es f ns ps → Lays os es f ks ps
as_held {os = os} {ps = ps} {es = es} f ns ks e a = subst (λ z. Lays os es f z ps) e a

as_marks : {os ps : List Frame} {ns : List Held} (f : Put) (es fs : List Mark) → es ≡ fs → Lays os es f ns ps → Lays os fs f ns ps
as_marks {os = os} {ps = ps} {ns = ns} f es fs e a = subst (λ z. Lays os z f ns ps) e a

leaves_one : (i : ℕ) (os : List Frame) → Lays os [] (λ l. Behind i ∷ l) [] os
leaves_one i os = record { before = λ r p ms l hs h. leaves i (h r tt) }

passes_one : (i : ℕ) (os : List Frame) → Lays os [] (λ l. Token i ∷ l) [] os
passes_one i os = record { before = λ r p ms l hs h. passes i (h r tt) }

-- the class that is written for references is recent behind it
type_lays : (type : TypeName) (os : List Frame) → LaysFrom Anything (λ r. AllRecent r (qualified_marks type)) os [] (in_type type) [] os
unfolding qualified_marks
type_lays (type_name.Integer i) os = record { before = λ r p ms l hs h. h r tt }
type_lays (type_name.Boolean i) os = record { before = λ r p ms l hs h. h r tt }
type_lays (type_name.Character i) os = record { before = λ r p ms l hs h. h r tt }
type_lays (type_name.Text i) os = record { before = λ r p ms l hs h. h r tt }
type_lays (type_name.Reference i class) os = record { before = λ r p ms l hs h. classes class.token.0 (h (class.token.0 ∷ r) (inl refl, tt)) }

prefix_lays : (prefix : Option Identifier) (os : List Frame) → Lays os [] (in_prefix prefix) [] os
prefix_lays None os = none
prefix_lays (Some class) os = passes_one class.token.0 os

result_lays : (result : Option TypeName) (os : List Frame) → LaysFrom Anything (λ r. AllRecent r (qualified_result result)) os [] (in_result result) [] os
unfolding qualified_result
result_lays None os = record { before = λ r p ms l hs h. h r tt }
result_lays (Some type) os = type_lays type os

-- ---- expressions

module _ (x : Text) (os : List Frame) where
  abbrev At : List Part → List Frame
  At u = frame x u ∷ os

  list_lays : {P : List ℕ → Type 0} (is : List ℕ) (u : List Part) → LaysFrom P P (At (used is u)) [] (tokens is) [] (At u)
  list_lays [] u = none
  list_lays (i ∷ is) u = record { before = λ r p ms l hs h. uses x (used is u) i ((list_lays is u).before r p ms l hs h) }

  expression_lays : {P : List ℕ → Type 0} (e : Expression) (u : List Part) → LaysFrom P P (At (expression_used e u)) [] (in_expression e) [] (At u)
  expression_lays e u = list_lays (named e []) u

  each_lays : {P : List ℕ → Type 0} {A : Type 0} (f : A → List Part → List Part) (g : A → Put) → ((a : A) (u : List Part) → LaysFrom P P (At (f a u)) [] (g a) [] (At u)) → (xs : List A) (u : List Part) → LaysFrom P P (At (each_used f xs u)) [] (in_each g xs) [] (At u)
  each_lays f g one [] u = none
  each_lays f g one (a ∷ as_) u = lead (g a) (in_each g as_) (one a (each_used f as_ u)) (each_lays f g one as_ u)

  schedule_lays : {P : List ℕ → Type 0} (a : Schedule) (u : List Part) → LaysFrom P P (At (schedule_used a u)) [] (in_schedule a) [] (At u)
  schedule_lays syntax.Now u = none
  schedule_lays (syntax.At i a prior) u = expression_lays a u
  schedule_lays (syntax.Delay i a prior) u = expression_lays a u
  schedule_lays (syntax.Before i a) u = expression_lays a u
  schedule_lays (syntax.After i a) u = expression_lays a u

  element_lays : {P : List ℕ → Type 0} (a : Element) (u : List Part) → LaysFrom P P (At (element_used a u)) [] (in_element a) [] (At u)
  element_lays (syntax.Once a) u = expression_lays a u
  element_lays (syntax.Step a i b c) u =
      lead (in_expression a) (λ l. in_expression b (in_expression c l)) (expression_lays a (expression_used b (expression_used c u))) (lead (in_expression b) (in_expression c) (expression_lays b (expression_used c u)) (expression_lays c u))
  element_lays (syntax.While a i b) u = lead (in_expression a) (in_expression b) (expression_lays a (expression_used b u)) (expression_lays b u)

  side_lays : {P : List ℕ → Type 0} (a : RightSide) (u : List Part) → LaysFrom P P (At (side_used a u)) [] (in_side a) [] (At u)
  side_lays a u = expression_lays a.value u

  bounds_lay : {P : List ℕ → Type 0} (b : BoundPair) (u : List Part) → LaysFrom P P (At (bounds_used b u)) [] (in_bounds b) [] (At u)
  bounds_lay b u = lead (in_expression b.lower) (in_expression b.upper) (expression_lays b.lower (expression_used b.upper u)) (expression_lays b.upper u)

  name_lays : {P : List ℕ → Type 0} (i : ℕ) (u : List Part) → LaysFrom P P (At (Use i ∷ u)) [] (λ l. Token i ∷ l) [] (At u)
  name_lays i u = record { before = λ r p ms l hs h. uses x u i (h r p) }

  -- ---- declarations of a block or a class

  -- its class is recent
  abbrev Typed : TypeName → List Mark → Put → List Part → List Part → Type 0
  Typed type es f u v = LaysFrom (λ r. AllRecent r (qualified_marks type)) (λ r. AllRecent r (qualified_marks type)) (At u) es f [] (At v)

  typed_lays : (type : TypeName) (y : Identifier) (e : Entry) (u : List Part) → Declarable e → Quals (OfReferences e) (qualified_marks type) → Typed type (Declares y e ∷ qualified_marks type) (in_name y) u u
  typed_lays type y e u may q = record { before = λ r p ms l hs h. declares (qualified_marks type) y e may q p (h r p) }

  variable_lays : (type : TypeName) (v : Variable) (u : List Part) → Typed type (variable_marks type v) (in_variable v) u u
  unfolding variable_marks
  variable_lays type v u = elim v.value as (λ o. Typed type (elim o [ None ↦ Declares v.name (entry.Variable (type_named type)) ∷ qualified_marks type | Some c ↦ Declares v.name (entry.Constant (type_named type)) ∷ qualified_marks type ]) (in_variable v) u u)
      [ None ↦ typed_lays type v.name (entry.Variable (type_named type)) u tt (quals_of_type type) | Some c ↦ typed_lays type v.name (entry.Constant (type_named type)) u tt (quals_of_type type) ]

  variables_lay : (type : TypeName) (vs : List Variable) (u : List Part) → Typed type (each (variable_marks type) vs) (in_each in_variable vs) u u
  variables_lay type [] u = none
  variables_lay type (v ∷ vs) u = both (in_variable v) (in_each in_variable vs) (variable_lays type v u) (variables_lay type vs u)

  array_lays : (type : TypeName) (n : ℕ) (xs : List Identifier) (u : List Part) → Typed type (each (array_marks type n) xs) (in_each in_name xs) u u
  unfolding array_marks
  array_lays type n [] u = none
  array_lays type n (y ∷ ys) u = both (in_name y) (in_each in_name ys) (typed_lays type y (entry.Array (type_named type) n) u tt (quals_of_type type)) (array_lays type n ys u)

  segments_lay : (type : TypeName) (ys : List Arrayed) (u : List Part) → Typed type (each (segment_marks type) ys) (in_each in_segment ys) (each_used segment_used ys u) u
  segments_lay type [] u = none
  segments_lay type (y ∷ ys) u =
      both (in_segment y) (in_each in_segment ys)
      (follow (in_each in_name y.names) (in_each in_bounds y.bounds) (array_lays type (length y.bounds) y.names (segment_used y (each_used segment_used ys u))) (each_lays bounds_used in_bounds bounds_lay y.bounds (each_used segment_used ys u)))
      (segments_lay type ys u)

-- ---- headings

module _ (o : Frame) (os : List Frame) where
  parameter_one : (x : Identifier) → Lays (o ∷ os) (Parameter x ∷ []) (in_name x) [] (o ∷ os)
  parameter_one x = record { before = λ r p ms l hs h. parameter x (h r tt) }

  moded_one : (x : Identifier) (m : Mode) → Lays (o ∷ os) (Moded x m ∷ []) (λ l. l) [] (o ∷ os)
  moded_one x m = record { before = λ r p ms l hs h. moded x m (h r tt) }

  headed_one : (x : Identifier) → Lays (o ∷ os) (Headed x ∷ []) (λ l. l) [] (o ∷ os)
  headed_one x = record { before = λ r p ms l hs h. headed x (h r tt) }

  parameters_lay : (xs : List Identifier) → Lays (o ∷ os) (each parameter_marks xs) (in_each in_name xs) [] (o ∷ os)
  unfolding parameter_marks
  parameters_lay [] = none
  parameters_lay (x ∷ xs) = both (in_name x) (in_each in_name xs) (parameter_one x) (parameters_lay xs)

  moded_lay : (m : Word) (xs : List Identifier) → Lays (o ∷ os) (each (moded_marks m) xs) (λ l. l) [] (o ∷ os)
  unfolding moded_marks
  moded_lay m [] = none
  moded_lay m (x ∷ xs) = both (λ l. l) (λ l. l) (moded_one x (mode_named m)) (moded_lay m xs)

  modes_lay : (xs : List ModePart) → Lays (o ∷ os) (each mode_part_marks xs) (λ l. l) [] (o ∷ os)
  modes_lay [] = none
  modes_lay (x ∷ xs) = both (λ l. l) (λ l. l) (moded_lay x.mode x.names) (modes_lay xs)

  -- the class that a specification writes
  abbrev written : Specifier → List Mark
  written (syntax.Simple type) = qualified_marks type
  written (syntax.Array type i) = qualified_marks type
  written (syntax.Procedure result i) = qualified_result result

  abbrev Wrote : Specifier → List ℕ → Type 0
  Wrote k r = AllRecent r (written k)

  written_lays : (k : Specifier) → LaysFrom Anything (Wrote k) (o ∷ os) [] (in_specified k) [] (o ∷ os)
  written_lays (syntax.Simple type) = type_lays type (o ∷ os)
  written_lays (syntax.Array type i) = type_lays type (o ∷ os)
  written_lays (syntax.Procedure result i) = result_lays result (o ∷ os)

  specified_one : (k : Specifier) (x : Identifier) → LaysFrom (Wrote k) (Wrote k) (o ∷ os) (specified_marks k x) (λ l. l) [] (o ∷ os)
  unfolding specified_marks
  specified_one (syntax.Simple type) x = record { before = λ r p ms l hs h. specified (qualified_marks type) x shape.Simple (Some (type_named type)) tt (quals_of_type type) p (h r p) }
  specified_one (syntax.Array type i) x = record { before = λ r p ms l hs h. specified (qualified_marks type) x shape.Array (Some (type_named type)) tt (quals_of_type type) p (h r p) }
  specified_one (syntax.Procedure result i) x = record { before = λ r p ms l hs h. specified (qualified_result result) x shape.Procedure (result_named result) tt (quals_of_result result) p (h r p) }

  specified_lay : (k : Specifier) (xs : List Identifier) → LaysFrom (Wrote k) (Wrote k) (o ∷ os) (each (specified_marks k) xs) (λ l. l) [] (o ∷ os)
  specified_lay k [] = none
  specified_lay k (x ∷ xs) = both (λ l. l) (λ l. l) (specified_one k x) (specified_lay k xs)

  specification_lays : (x : Specification) → Lays (o ∷ os) (specification_marks x) (in_specification x) [] (o ∷ os)
  specification_lays x = loosen (in_specification x) (lead (in_specified x.kind) (λ l. l) (written_lays x.kind) (specified_lay x.kind x.names))

  specifications_lay : (xs : List Specification) → Lays (o ∷ os) (each specification_marks xs) (in_each in_specification xs) [] (o ∷ os)
  specifications_lay [] = none
  specifications_lay (x ∷ xs) = both (in_specification x) (in_each in_specification xs) (specification_lays x) (specifications_lay xs)

  headed_lay : (xs : List Identifier) → Lays (o ∷ os) (each headed_marks xs) (λ l. l) [] (o ∷ os)
  unfolding headed_marks
  headed_lay [] = none
  headed_lay (x ∷ xs) = both (λ l. l) (λ l. l) (headed_one x) (headed_lay xs)

  heading_lays : (h : Heading) → Lays (o ∷ os) (heading_marks h) (in_heading h) [] (o ∷ os)
  heading_lays h =
      let classes_in : Put = in_each in_specification h.specifications in
      both (in_each in_name h.formals) classes_in (parameters_lay h.formals) (both (λ l. l) classes_in (modes_lay h.modes) (both classes_in (λ l. l) (specifications_lay h.specifications) (headed_lay h.formals)))

-- ---- statements and declarations

begins_block : (i : ℕ) (ds : Declarations) (ss : Statements) (x : Text) (u : List Part) (os : List Frame)
    → Lays (frame x (Sub i ∷ u) ∷ os) (Opens kind.SubBlock i i ∷ []) (λ l. Token i ∷ l) (Whole (BlockText i ds ss) ∷ []) (frame (BlockText i ds ss) (text_used (BlockText i ds ss)) ∷ frame x u ∷ os)
begins_block i ds ss x u os = record { before = λ r p ms l hs h. block i i ds ss x u (h [] tt) }

begins_prefixed : (class : Identifier) (i : ℕ) (es : Expressions) (ds : Declarations) (ss : Statements) (ps os : List Frame) → Stands i ps os
    → Lays ps (prefixed_marks class i) (λ l. Token i ∷ l) (Whole (PrefixedText class es ds ss) ∷ all_held (standard_texts class.name)) (frame (PrefixedText class es ds ss) (text_used (PrefixedText class es ds ss)) ∷ os)
unfolding prefixed_marks
begins_prefixed class i es ds ss ps os stands = go (standard_prefix class.name) refl
  where
    x : Held
    x = Whole (PrefixedText class es ds ss)

    inner : Frame
    inner = frame (PrefixedText class es ds ss) (text_used (PrefixedText class es ds ss))

    head : List Mark → List Mark
    head ms = Opens kind.Prefixed class.token.0 i ∷ ms

    go : (o : Option StandardPrefix) → standard_prefix class.name ≡ o → Lays ps (Opens kind.Prefixed class.token.0 i ∷ prefix_marks i class) (λ l. Token i ∷ l) (Whole (PrefixedText class es ds ss) ∷ all_held (standard_texts class.name)) (frame (PrefixedText class es ds ss) (text_used (PrefixedText class es ds ss)) ∷ os)
    go None e =
        as_held (λ l. Token i ∷ l) (x ∷ []) (x ∷ all_held (standard_texts class.name)) (ap (λ z. x ∷ all_held z) (sym (no_texts class.name e)))
        (as_marks (λ l. Token i ∷ l) (head (Prefixes class ∷ [])) (head (prefix_marks i class)) (ap head (sym (plain_prefix i class e)))
        (record { before = λ r p ms l hs h. prefixed_block class.token.0 i class es ds ss e stands (h [] tt) }))
    go (Some p) e =
        as_held (λ l. Token i ∷ l) (x ∷ all_held (brought_texts p)) (x ∷ all_held (standard_texts class.name)) (ap (λ z. x ∷ all_held z) (sym (texts_of_standard p class.name e)))
        (as_marks (λ l. Token i ∷ l) (head (whole_prefix p i class)) (head (prefix_marks i class)) (ap head (sym (standard_marks_are p i class e)))
        (record { before = λ r q ms l hs h. standard_block p class.token.0 i class es ds ss e stands (h [] tt) }))

begins_connection : (i : ℕ) (a : Statement) (x : Text) (u : List Part) (os : List Frame) → Lays (frame x (Con i a ∷ u) ∷ os) (Opens kind.Connection i i ∷ []) (λ l. Token i ∷ l) (Joined i a ∷ []) (frame ConnectionText (statement_used a []) ∷ frame x u ∷ os)
begins_connection i a x u os = record { before = λ r p ms l hs h. connects i i a x u (h [] tt) }

begins_program : (i : ℕ) (ds : Declarations) (ss : Statements) → Lays [] (Opens kind.Program i i ∷ []) (λ l. Token i ∷ l) (Whole (BlockText i ds ss) ∷ []) (frame (BlockText i ds ss) (text_used (BlockText i ds ss)) ∷ [])
begins_program i ds ss = record { before = λ r p ms l hs h. program i i ds ss (h [] tt) }

begins_procedure : (result : Option TypeName) (token : ℕ) (h : Heading) (a : Statement) (o : Frame) (os : List Frame)
    → LaysFrom (λ r. AllRecent r (qualified_result result)) Anything (o ∷ os) (procedure_marks result token h.name) (in_name h.name) (Whole (ProcedureText result h a) ∷ []) (frame (ProcedureText result h a) (text_used (ProcedureText result h a)) ∷ o ∷ os)
unfolding procedure_marks
begins_procedure result token h a o os = record {
  before = λ r p ms l hs k.
      subst (λ z. Laid r (o ∷ os) (DeclaresProcedure h.name (result_named result) ∷ z) (Token h.name.token.0 ∷ l) (Whole (ProcedureText result h a) ∷ hs)) (sym (append_assoc (qualified_result result) (Opens kind.Procedure (first_of_procedure result token) h.name.token.0 ∷ []) ms))
      (procedure (first_of_procedure result token) (qualified_result result) result h a (quals_of_result result) p (k [] tt));
}

begins_class : (prefix : Option Identifier) (token : ℕ) (h : Heading) (ds : Declarations) (ss : Statements) (o : Frame) (os : List Frame)
    → Lays (o ∷ os) (class_marks prefix token h.name) (in_name h.name) (Whole (ClassText prefix h ds ss) ∷ all_held (prefix_texts prefix)) (frame (ClassText prefix h ds ss) (text_used (ClassText prefix h ds ss)) ∷ o ∷ os)
unfolding class_marks class_prefix_marks
begins_class None token h ds ss o os = record { before = λ r p ms l hs k. declares_class (first_of_class None token) [] None h ds ss unprefixed (k [] tt) }
begins_class (Some y) token h ds ss o os = go (standard_prefix y.name) refl
  where
    first : ℕ
    first = first_of_class (Some y) token

    x : Held
    x = Whole (ClassText (Some y) h ds ss)

    head : List Mark → List Mark
    head ms = DeclaresClass h.name ∷ Opens kind.Class (first_of_class (Some y) token) h.name.token.0 ∷ ms

    go : (q : Option StandardPrefix) → standard_prefix y.name ≡ q
        → Lays (o ∷ os) (DeclaresClass h.name ∷ Opens kind.Class (first_of_class (Some y) token) h.name.token.0 ∷ prefix_marks h.name.token.0 y) (in_name h.name) (Whole (ClassText (Some y) h ds ss) ∷ all_held (standard_texts y.name)) (frame (ClassText (Some y) h ds ss) (text_used (ClassText (Some y) h ds ss)) ∷ o ∷ os)
    go None e =
        as_held (in_name h.name) (x ∷ []) (x ∷ all_held (standard_texts y.name)) (ap (λ z. x ∷ all_held z) (sym (no_texts y.name e)))
        (as_marks (in_name h.name) (head (Prefixes y ∷ [])) (head (prefix_marks h.name.token.0 y)) (ap head (sym (plain_prefix h.name.token.0 y e)))
        (record { before = λ r q ms l hs k. declares_class first (Prefixes y ∷ []) (Some y) h ds ss (prefixed y e) (k [] tt) }))
    go (Some p) e =
        as_held (in_name h.name) (x ∷ all_held (brought_texts p)) (x ∷ all_held (standard_texts y.name)) (ap (λ z. x ∷ all_held z) (sym (texts_of_standard p y.name e)))
        (as_marks (in_name h.name) (head (whole_prefix p h.name.token.0 y)) (head (prefix_marks h.name.token.0 y)) (ap head (sym (standard_marks_are p h.name.token.0 y e)))
        (record { before = λ r q ms l hs k. standard_class p first y h ds ss e (k [] tt) }))

ends : (x : Text) (end : ℕ) (os : List Frame) → Lays (frame x [] ∷ os) (Closes end ∷ []) (λ l. Behind end ∷ l) [] os
ends x end os = record { before = λ r p ms l hs h. closes x end (h [] tt) }

inside_block : (os : List Frame) (x : Text) (u v : List Part) (ds ss : List Mark) (f g : Put) (dt st : List Held) (end : ℕ) → Lays (frame x u ∷ os) ds f dt (frame x v ∷ os) → Lays (frame x v ∷ os) ss g st (frame x [] ∷ os)
    → Lays (frame x u ∷ os) ((ds ++ ss) ++ Closes end ∷ []) (λ l. f (g (Behind end ∷ l))) (dt ++ st) os
inside_block os x u v ds ss f g dt st end a b = as_held (λ l. f (g (Behind end ∷ l))) ((dt ++ st) ++ []) (dt ++ st) (append-nil (dt ++ st)) (both (λ l. f (g l)) (λ l. Behind end ∷ l) (both f g a b) (ends x end os))

-- a connection, and what stands in it
connection_lays : (opening end : ℕ) (a : Statement) (x : Text) (u : List Part) (os : List Frame)
    → Lays (frame ConnectionText (statement_used a []) ∷ frame x u ∷ os) (statement_events declaring Inside a) (in_statement a) (statement_held a) (frame ConnectionText [] ∷ frame x u ∷ os)
    → Lays (frame x (Con opening a ∷ u) ∷ os) ((Opens kind.Connection opening opening ∷ []) ++ (statement_events declaring Inside a ++ Closes end ∷ [])) (λ l. Token opening ∷ in_statement a (Behind end ∷ l)) (Joined opening a ∷ statement_held a) (frame x u ∷ os)
connection_lays opening end a x u os body =
    as_held (λ l. Token opening ∷ in_statement a (Behind end ∷ l)) (Joined opening a ∷ (statement_held a ++ [])) (Joined opening a ∷ statement_held a) (ap (λ z. Joined opening a ∷ z) (append-nil (statement_held a)))
    (both (λ l. Token opening ∷ l) (λ l. in_statement a (Behind end ∷ l)) (begins_connection opening a x u os) (both (in_statement a) (λ l. Behind end ∷ l) body (ends ConnectionText end (frame x u ∷ os))))

procedure_lays : (result : Option TypeName) (j : ℕ) (h : Heading) (a : Statement) (e : ℕ) (o : Frame) (os : List Frame) → Lays (frame (ProcedureText result h a) (statement_used a []) ∷ o ∷ os) (statement_events declaring Inside a) (in_statement a) (statement_held a) (frame (ProcedureText result h a) [] ∷ o ∷ os)
    → Lays (o ∷ os) (declaration_events declaring (DeclareProcedure result j h a e)) (in_declaration (DeclareProcedure result j h a e)) (declaration_held (DeclareProcedure result j h a e)) (o ∷ os)
unfolding declaring
procedure_lays result j h a e o os body =
    let x : Text = ProcedureText result h a in
    as_held (in_declaration (DeclareProcedure result j h a e)) (Whole x ∷ (statement_held a ++ [])) (Whole x ∷ statement_held a) (ap (λ z. Whole x ∷ z) (append-nil (statement_held a)))
    (lead (in_result result) (λ l. in_name h.name (in_heading h (in_statement a (Behind e ∷ l)))) (result_lays result (o ∷ os))
    (both (λ l. in_name h.name (in_heading h l)) (λ l. in_statement a (Behind e ∷ l))
    (both (in_name h.name) (in_heading h) (begins_procedure result j h a o os) (heading_lays (frame x (statement_used a [])) (o ∷ os) h))
    (both (in_statement a) (λ l. Behind e ∷ l) body (ends x e (o ∷ os)))))

-- what is held of a class
class_held : (prefix : Option Identifier) (j : ℕ) (h : Heading) (i : Interface) (a : Statement) (e : ℕ)
    → declaration_held (DeclareClass prefix j h i a e) ≡ Whole (ClassText prefix h (body_declarations a) (body_statements a)) ∷ (all_held (prefix_texts prefix) ++ (declarations_held (body_declarations a) ++ statements_held (body_statements a)))
class_held prefix j h i (syntax.Compound (Begin n ds ss m)) e = refl
class_held prefix j h i (syntax.Empty n) e = refl
class_held prefix j h i (syntax.Prefixed x args b) e = ap (λ z. Whole (ClassText prefix h NoDeclaration (Also (syntax.Prefixed x args b) NoStatement)) ∷ (all_held (prefix_texts prefix) ++ z)) (sym (append-nil (statement_held (syntax.Prefixed x args b))))
class_held prefix j h i (syntax.Inner n) e = refl
class_held prefix j h i (syntax.Call x) e = refl
class_held prefix j h i (syntax.Assign x sides) e = refl
class_held prefix j h i (syntax.Choose n c x rest) e = ap (λ z. Whole (ClassText prefix h NoDeclaration (Also (syntax.Choose n c x rest) NoStatement)) ∷ (all_held (prefix_texts prefix) ++ z)) (sym (append-nil (statement_held (syntax.Choose n c x rest))))
class_held prefix j h i (syntax.Repeat n c x) e = ap (λ z. Whole (ClassText prefix h NoDeclaration (Also (syntax.Repeat n c x) NoStatement)) ∷ (all_held (prefix_texts prefix) ++ z)) (sym (append-nil (statement_held (syntax.Repeat n c x))))
class_held prefix j h i (syntax.For n y sign m es x) e = ap (λ z. Whole (ClassText prefix h NoDeclaration (Also (syntax.For n y sign m es x) NoStatement)) ∷ (all_held (prefix_texts prefix) ++ z)) (sym (append-nil (statement_held (syntax.For n y sign m es x))))
class_held prefix j h i (syntax.Inspect n object d x m rest) e = ap (λ z. Whole (ClassText prefix h NoDeclaration (Also (syntax.Inspect n object d x m rest) NoStatement)) ∷ (all_held (prefix_texts prefix) ++ z)) (sym (append-nil (statement_held (syntax.Inspect n object d x m rest))))
class_held prefix j h i (syntax.InspectWhen n object arms rest) e = ap (λ z. Whole (ClassText prefix h NoDeclaration (Also (syntax.InspectWhen n object arms rest) NoStatement)) ∷ (all_held (prefix_texts prefix) ++ z)) (sym (append-nil (statement_held (syntax.InspectWhen n object arms rest))))
class_held prefix j h i (syntax.Activate n w process schedule) e = refl

guarded_one : (hides keeps : Bool) (y : Identifier) (os : List Frame) → Lays os (Protects hides keeps y ∷ []) (λ l. l) [] os
guarded_one hides keeps y os = record { before = λ r p ms l hs h. guarded hides keeps y (h r tt) }

guarded_lay : (hides keeps : Bool) (ys : List Identifier) (os : List Frame) → Lays os (each (protected_marks hides keeps) ys) (λ l. l) [] os
unfolding protected_marks
guarded_lay hides keeps [] os = none
guarded_lay hides keeps (y ∷ ys) os = both (λ l. l) (λ l. l) (guarded_one hides keeps y os) (guarded_lay hides keeps ys os)

protections_lay : (ps : List Protected) (os : List Frame) → Lays os (each protection_marks ps) (λ l. l) [] os
protections_lay [] os = none
protections_lay (p ∷ ps) os = both (λ l. l) (λ l. l) (guarded_lay (is_written p.hidden) (is_written p.protected) p.names os) (protections_lay ps os)

-- virtual parts
module _ (o : Frame) (os : List Frame) where
  abbrev Gave : Option TypeName → List ℕ → Type 0
  Gave result r = AllRecent r (qualified_result result)

  virtual_one : (result : Option TypeName) (y : Identifier) → LaysFrom (Gave result) (Gave result) (o ∷ os) (virtual_name_marks result y) (in_name y) [] (o ∷ os)
  unfolding virtual_name_marks
  virtual_one result y = record { before = λ r p ms l hs h. declares (qualified_result result) y (entry.Virtual (result_named result) None) tt (quals_of_result result) p (h r p) }

  virtual_names : (result : Option TypeName) (ys : List Identifier) → LaysFrom (Gave result) (Gave result) (o ∷ os) (each (virtual_name_marks result) ys) (in_each in_name ys) [] (o ∷ os)
  virtual_names result [] = none
  virtual_names result (y ∷ ys) = both (in_name y) (in_each in_name ys) (virtual_one result y) (virtual_names result ys)

  virtuals_lay : (vs : List Virtual) → Lays (o ∷ os) (each virtual_marks vs) (in_each in_virtual vs) [] (o ∷ os)
  virtuals_lay [] = none
  virtuals_lay (v ∷ vs) = both (in_virtual v) (in_each in_virtual vs) (loosen (in_virtual v) (lead (in_result v.result) (in_each in_name v.names) (result_lays v.result (o ∷ os)) (virtual_names v.result v.names))) (virtuals_lay vs)

  interface_lays : (i : Interface) → Lays (o ∷ os) (interface_marks i) (in_each in_virtual i.virtuals) [] (o ∷ os)
  interface_lays i = both (λ l. l) (in_each in_virtual i.virtuals) (protections_lay i.protections (o ∷ os)) (virtuals_lay i.virtuals)

class_lays : (prefix : Option Identifier) (j : ℕ) (h : Heading) (i : Interface) (a : Statement) (e : ℕ) (o : Frame) (os : List Frame) → Lays (frame (ClassText prefix h (body_declarations a) (body_statements a)) (text_used (ClassText prefix h (body_declarations a) (body_statements a))) ∷ o ∷ os) (statement_events declaring ClassBody a) (in_statement a) (declarations_held (body_declarations a) ++ statements_held (body_statements a))
    (frame (ClassText prefix h (body_declarations a) (body_statements a)) [] ∷ o ∷ os)
    → Lays (o ∷ os) (declaration_events declaring (DeclareClass prefix j h i a e)) (in_declaration (DeclareClass prefix j h i a e)) (declaration_held (DeclareClass prefix j h i a e)) (o ∷ os)
unfolding declaring
class_lays prefix j h i a e o os body =
    let x : Text = ClassText prefix h (body_declarations a) (body_statements a) in
    let inside : List Held = declarations_held (body_declarations a) ++ statements_held (body_statements a) in
    as_held (in_declaration (DeclareClass prefix j h i a e)) (Whole x ∷ ((all_held (prefix_texts prefix) ++ []) ++ (inside ++ []))) (declaration_held (DeclareClass prefix j h i a e))
    (ap (λ z. Whole x ∷ (z ++ (inside ++ []))) (append-nil (all_held (prefix_texts prefix))) ∙ ap (λ z. Whole x ∷ (all_held (prefix_texts prefix) ++ z)) (append-nil inside) ∙ sym (class_held prefix j h i a e))
    (lead (in_prefix prefix) (λ l. in_name h.name (in_heading h (in_each in_virtual i.virtuals (in_statement a (Behind e ∷ l))))) (prefix_lays prefix (o ∷ os))
    (both (λ l. in_name h.name (in_heading h (in_each in_virtual i.virtuals l))) (λ l. in_statement a (Behind e ∷ l))
    (both (in_name h.name) (λ l. in_heading h (in_each in_virtual i.virtuals l)) (begins_class prefix j h (body_declarations a) (body_statements a) o os)
    (both (in_heading h) (in_each in_virtual i.virtuals) (heading_lays (frame x (text_used x)) (o ∷ os) h) (interface_lays (frame x (text_used x)) (o ∷ os) i)))
    (both (in_statement a) (λ l. Behind e ∷ l) body (ends x e (o ∷ os)))))

-- a statement stands in the body of a class, or elsewhere
abbrev place_of : (in_class : Bool) → Position
place_of true = ClassStatement
place_of false = Inside

mutual
  unfolding declaring inner_marks

  statement_lays : (b : Bool) (st : Statement) (x : Text) (u : List Part) (os : List Frame) → Lays (frame x (statement_used st u) ∷ os) (statement_events declaring (place_of b) st) (in_statement st) (statement_held st) (frame x u ∷ os)
  statement_lays b (syntax.Empty i) x u os = none
  statement_lays true (syntax.Compound k) x u os = block_lays k x u os
  statement_lays false (syntax.Compound k) x u os = block_lays k x u os
  statement_lays b (syntax.Prefixed y args k) x u os = lead (in_expression (syntax.Named y args)) (in_block k) (expression_lays x os (syntax.Named y args) (Pre (begin_of k) ∷ u)) (prefixed_lays y args k (frame x (Pre (begin_of k) ∷ u) ∷ os) (frame x u ∷ os) (among x u))
  statement_lays true (syntax.Inner i) x u os = record { before = λ r p ms l hs h. uses x u i (inner_mark i (h r tt)) }
  statement_lays false (syntax.Inner i) x u os = record { before = λ q p ms l hs h. uses x u i (breaks_rule i r.InnerOutOfPlace (h q tt)) }
  statement_lays b (syntax.Call e) x u os = expression_lays x os e u
  statement_lays b (syntax.Assign e sides) x u os = lead (in_expression e) (in_each in_side sides) (expression_lays x os e (each_used side_used sides u)) (each_lays x os side_used in_side (side_lays x os) sides u)
  statement_lays b (syntax.Choose i c a rest) x u os =
      lead (in_expression c) (λ l. in_statement a (in_statements rest l)) (expression_lays x os c (statement_used a (statements_used rest u)))
      (both (in_statement a) (in_statements rest) (statement_lays false a x (statements_used rest u) os) (statements_lay false rest x u os))
  statement_lays b (syntax.Repeat i c a) x u os = lead (in_expression c) (in_statement a) (expression_lays x os c (statement_used a u)) (statement_lays false a x u os)
  statement_lays b (syntax.For i y sign j es a) x u os =
      lead (λ l. Token y.token.0 ∷ l) (λ l. in_each in_element es (in_statement a l)) (name_lays x os y.token.0 (each_used element_used es (statement_used a u)))
      (lead (in_each in_element es) (in_statement a) (each_lays x os element_used in_element (element_lays x os) es (statement_used a u)) (statement_lays false a x u os))
  statement_lays b (syntax.Inspect i object d a e rest) x u os =
      let v : List Part = statements_used rest u in
      lead (in_expression object) (λ l. Token d ∷ in_statement a (Behind e ∷ in_statements rest l)) (expression_lays x os object (Con d a ∷ v))
      (as_marks (λ l. Token d ∷ in_statement a (Behind e ∷ in_statements rest l)) (((Opens kind.Connection d d ∷ []) ++ (statement_events declaring Inside a ++ Closes e ∷ [])) ++ statements_events declaring Inside rest)
      (statement_events declaring Inside (syntax.Inspect i object d a e rest)) (ap (λ z. Opens kind.Connection d d ∷ z) (append_assoc (statement_events declaring Inside a) (Closes e ∷ []) (statements_events declaring Inside rest)))
      (both (λ l. Token d ∷ in_statement a (Behind e ∷ l)) (in_statements rest) (connection_lays d e a x v os (statement_lays false a ConnectionText [] (frame x v ∷ os))) (statements_lay false rest x u os)))
  statement_lays b (syntax.InspectWhen i object whens rest) x u os =
      lead (in_expression object) (λ l. in_arms whens (in_statements rest l)) (expression_lays x os object (arms_used whens (statements_used rest u)))
      (both (in_arms whens) (in_statements rest) (arms_lay whens x (statements_used rest u) os) (statements_lay false rest x u os))
  statement_lays b (syntax.Activate i word e schedule) x u os =
      lead (λ l. Token i ∷ l) (λ l. in_expression e (in_schedule schedule l)) (name_lays x os i (expression_used e (schedule_used schedule u)))
      (lead (in_expression e) (in_schedule schedule) (expression_lays x os e (schedule_used schedule u)) (schedule_lays x os schedule u))

  statements_lay : (b : Bool) (ss : Statements) (x : Text) (u : List Part) (os : List Frame) → Lays (frame x (statements_used ss u) ∷ os) (statements_events declaring (place_of b) ss) (in_statements ss) (statements_held ss) (frame x u ∷ os)
  statements_lay b NoStatement x u os = none
  statements_lay b (Also a more) x u os = both (in_statement a) (in_statements more) (statement_lays b a x (statements_used more u) os) (statements_lay b more x u os)

  arms_lay : (arms : Arms) (x : Text) (u : List Part) (os : List Frame) → Lays (frame x (arms_used arms u) ∷ os) (arms_events declaring arms) (in_arms arms) (arms_held arms) (frame x u ∷ os)
  arms_lay NoArm x u os = none
  arms_lay (When i class d a e more) x u os =
      let v : List Part = arms_used more u in
      lead (λ l. Token class.token.0 ∷ l) (λ l. Token d ∷ in_statement a (Behind e ∷ in_arms more l)) (name_lays x os class.token.0 (Con d a ∷ v))
      (both (λ l. Token d ∷ in_statement a (Behind e ∷ l)) (in_arms more) (connection_lays d e a x v os (statement_lays false a ConnectionText [] (frame x v ∷ os))) (arms_lay more x u os))

  -- the body of a class
  class_body_lays : (prefix : Option Identifier) (a : Statement) (h : Heading) (os : List Frame) → ((x : Text) → Lays (frame x (statement_used a []) ∷ os) (statement_events declaring Inside a) (in_statement a) (statement_held a) (frame x [] ∷ os))
      → Lays (frame (ClassText prefix h (body_declarations a) (body_statements a)) (text_used (ClassText prefix h (body_declarations a) (body_statements a))) ∷ os) (statement_events declaring ClassBody a) (in_statement a) (declarations_held (body_declarations a) ++ statements_held (body_statements a))
      (frame (ClassText prefix h (body_declarations a) (body_statements a)) [] ∷ os)
  class_body_lays prefix (syntax.Compound (Begin i ds ss e)) h os one =
      let x : Text = ClassText prefix h ds ss in
      lead (λ l. Token i ∷ l) (λ l. in_declarations ds (in_statements ss (Behind e ∷ l))) (passes_one i (frame x (text_used x) ∷ os))
      (follow (λ l. in_declarations ds (in_statements ss l)) (λ l. Behind e ∷ l)
      (both (in_declarations ds) (in_statements ss) (declarations_lay ds x (statements_used ss []) os) (statements_lay true ss x [] os)) (leaves_one e (frame x [] ∷ os)))
  class_body_lays prefix (syntax.Empty i) h os one = none
  class_body_lays prefix (syntax.Prefixed y args b) h os one = as_held (in_statement (syntax.Prefixed y args b)) (statement_held (syntax.Prefixed y args b)) (statement_held (syntax.Prefixed y args b) ++ []) (sym (append-nil (statement_held (syntax.Prefixed y args b)))) (one (ClassText prefix h NoDeclaration (Also (syntax.Prefixed y args b) NoStatement)))
  class_body_lays prefix (syntax.Inner i) h os one = as_held (in_statement (syntax.Inner i)) (statement_held (syntax.Inner i)) (statement_held (syntax.Inner i) ++ []) (sym (append-nil (statement_held (syntax.Inner i)))) (one (ClassText prefix h NoDeclaration (Also (syntax.Inner i) NoStatement)))
  class_body_lays prefix (syntax.Call e) h os one = as_held (in_statement (syntax.Call e)) (statement_held (syntax.Call e)) (statement_held (syntax.Call e) ++ []) (sym (append-nil (statement_held (syntax.Call e)))) (one (ClassText prefix h NoDeclaration (Also (syntax.Call e) NoStatement)))
  class_body_lays prefix (syntax.Assign e sides) h os one = as_held (in_statement (syntax.Assign e sides)) (statement_held (syntax.Assign e sides)) (statement_held (syntax.Assign e sides) ++ []) (sym (append-nil (statement_held (syntax.Assign e sides)))) (one (ClassText prefix h NoDeclaration (Also (syntax.Assign e sides) NoStatement)))
  class_body_lays prefix (syntax.Choose i c a rest) h os one = as_held (in_statement (syntax.Choose i c a rest)) (statement_held (syntax.Choose i c a rest)) (statement_held (syntax.Choose i c a rest) ++ []) (sym (append-nil (statement_held (syntax.Choose i c a rest)))) (one (ClassText prefix h NoDeclaration (Also (syntax.Choose i c a rest) NoStatement)))
  class_body_lays prefix (syntax.Repeat i c a) h os one = as_held (in_statement (syntax.Repeat i c a)) (statement_held (syntax.Repeat i c a)) (statement_held (syntax.Repeat i c a) ++ []) (sym (append-nil (statement_held (syntax.Repeat i c a)))) (one (ClassText prefix h NoDeclaration (Also (syntax.Repeat i c a) NoStatement)))
  class_body_lays prefix (syntax.For i y sign j es a) h os one = as_held (in_statement (syntax.For i y sign j es a)) (statement_held (syntax.For i y sign j es a)) (statement_held (syntax.For i y sign j es a) ++ []) (sym (append-nil (statement_held (syntax.For i y sign j es a)))) (one (ClassText prefix h NoDeclaration (Also (syntax.For i y sign j es a) NoStatement)))
  class_body_lays prefix (syntax.Inspect i object d a e rest) h os one = as_held (in_statement (syntax.Inspect i object d a e rest)) (statement_held (syntax.Inspect i object d a e rest)) (statement_held (syntax.Inspect i object d a e rest) ++ []) (sym (append-nil (statement_held (syntax.Inspect i object d a e rest)))) (one (ClassText prefix h NoDeclaration (Also (syntax.Inspect i object d a e rest) NoStatement)))
  class_body_lays prefix (syntax.InspectWhen i object whens rest) h os one = as_held (in_statement (syntax.InspectWhen i object whens rest)) (statement_held (syntax.InspectWhen i object whens rest)) (statement_held (syntax.InspectWhen i object whens rest) ++ []) (sym (append-nil (statement_held (syntax.InspectWhen i object whens rest)))) (one (ClassText prefix h NoDeclaration (Also (syntax.InspectWhen i object whens rest) NoStatement)))
  class_body_lays prefix (syntax.Activate i word e schedule) h os one = as_held (in_statement (syntax.Activate i word e schedule)) (statement_held (syntax.Activate i word e schedule)) (statement_held (syntax.Activate i word e schedule) ++ []) (sym (append-nil (statement_held (syntax.Activate i word e schedule)))) (one (ClassText prefix h NoDeclaration (Also (syntax.Activate i word e schedule) NoStatement)))

  prefixed_lays : (class : Identifier) (es : Expressions) (b : Block) (qs ps : List Frame) → Stands (begin_of b) qs ps → Lays qs (prefixed_marks class (begin_of b) ++ whole_events declaring b) (in_block b) (prefixed_held class es b) ps
  prefixed_lays class es (Begin i ds ss e) qs ps stands =
      let y : Text = PrefixedText class es ds ss in
      let D : List Mark = declarations_events declaring ds in
      let S : List Mark = statements_events declaring Inside ss in
      as_marks (in_block (Begin i ds ss e)) (prefixed_marks class i ++ ((D ++ S) ++ Closes e ∷ [])) (prefixed_marks class i ++ (D ++ (S ++ Closes e ∷ []))) (ap (λ z. prefixed_marks class i ++ z) (append_assoc D S (Closes e ∷ [])))
      (both (λ l. Token i ∷ l) (λ l. in_declarations ds (in_statements ss (Behind e ∷ l))) (begins_prefixed class i es ds ss qs ps stands)
      (inside_block ps y (text_used y) (statements_used ss []) D S (in_declarations ds) (in_statements ss) (declarations_held ds) (statements_held ss) e
      (declarations_lay ds y (statements_used ss []) ps) (statements_lay false ss y [] ps)))

  block_lays : (b : Block) (x : Text) (u : List Part) (os : List Frame) → Lays (frame x (block_used b u) ∷ os) (block_events declaring b) (in_block b) (block_held b) (frame x u ∷ os)
  block_lays (Begin i NoDeclaration ss e) x u os =
      lead (λ l. Token i ∷ l) (λ l. in_statements ss (Behind e ∷ l)) (passes_one i (frame x (statements_used ss u) ∷ os)) (follow (in_statements ss) (λ l. Behind e ∷ l) (statements_lay false ss x u os) (leaves_one e (frame x u ∷ os)))
  block_lays (Begin i (With d ds) ss e) x u os =
      let y : Text = BlockText i (With d ds) ss in
      let ps : List Frame = frame x u ∷ os in
      as_held (in_block (Begin i (With d ds) ss e)) (Whole y ∷ (declarations_held (With d ds) ++ statements_held ss)) (block_held (Begin i (With d ds) ss e)) (ap (λ z. Whole y ∷ z) (append_assoc (declaration_held d) (declarations_held ds) (statements_held ss)))
      (both (λ l. Token i ∷ l) (λ l. in_declarations (With d ds) (in_statements ss (Behind e ∷ l))) (begins_block i (With d ds) ss x u os)
      (inside_block ps y (text_used y) (statements_used ss []) (declarations_events declaring (With d ds)) (statements_events declaring Inside ss) (in_declarations (With d ds)) (in_statements ss) (declarations_held (With d ds)) (statements_held ss) e
      (declarations_lay (With d ds) y (statements_used ss []) ps) (statements_lay false ss y [] ps)))

  declarations_lay : (ds : Declarations) (x : Text) (u : List Part) (os : List Frame) → Lays (frame x (declarations_used ds u) ∷ os) (declarations_events declaring ds) (in_declarations ds) (declarations_held ds) (frame x u ∷ os)
  declarations_lay NoDeclaration x u os = none
  declarations_lay (With (Variables type vs) ds) x u os =
      let ps : List Frame = frame x (declarations_used ds u) ∷ os in
      both (in_declaration (Variables type vs)) (in_declarations ds) (loosen (in_declaration (Variables type vs)) (lead (in_type type) (in_each in_variable vs) (type_lays type ps) (variables_lay x os type vs (declarations_used ds u)))) (declarations_lay ds x u os)
  declarations_lay (With (Arrays type j segments) ds) x u os =
      both (in_declaration (Arrays type j segments)) (in_declarations ds) (loosen (in_declaration (Arrays type j segments)) (lead (in_type type) (in_each in_segment segments) (type_lays type (frame x (each_used segment_used segments (declarations_used ds u)) ∷ os)) (segments_lay x os type segments (declarations_used ds u)))) (declarations_lay ds x u os)
  declarations_lay (With (DeclareProcedure result j h a e) ds) x u os =
      both (in_declaration (DeclareProcedure result j h a e)) (in_declarations ds)
      (procedure_lays result j h a e (frame x (declarations_used ds u)) os (statement_lays false a (ProcedureText result h a) [] (frame x (declarations_used ds u) ∷ os))) (declarations_lay ds x u os)
  declarations_lay (With (DeclareClass prefix j h i a e) ds) x u os =
      both (in_declaration (DeclareClass prefix j h i a e)) (in_declarations ds)
      (class_lays prefix j h i a e (frame x (declarations_used ds u)) os (class_body_lays prefix a h (frame x (declarations_used ds u) ∷ os) (λ y. statement_lays false a y [] (frame x (declarations_used ds u) ∷ os)))) (declarations_lay ds x u os)

-- a program
pub program_laid : (p : Program) → Laid [] [] (program_events declaring p) (in_block p.block []) (program_held p.prefix p.block)
unfolding program_events declaring program_marks
program_laid p = go p.prefix p.block
  where
    go : (prefix : Option Prefix) (b : Block) → Laid [] [] (declaring.program prefix (begin_of b) ++ whole_events declaring b) (in_block b []) (program_held prefix b)
    go (Some x) b =
        let all : Lays [] (prefixed_marks x.class (begin_of b) ++ whole_events declaring b) (in_block b) (prefixed_held x.class x.arguments b) [] = prefixed_lays x.class x.arguments b [] [] outermost in
        subst (λ z. Laid [] [] z (in_block b []) (prefixed_held x.class x.arguments b)) (append-nil _)
        (subst (λ z. Laid [] [] ((prefixed_marks x.class (begin_of b) ++ whole_events declaring b) ++ []) (in_block b []) z) (append-nil _) (all.before [] tt [] [] [] (λ q o. nothing refl)))
    go None (Begin i ds ss end) =
        let x : Text = BlockText i ds ss in
        let D : List Mark = declarations_events declaring ds in
        let S : List Mark = statements_events declaring Inside ss in
        let all : Lays [] ((Opens kind.Program i i ∷ []) ++ ((D ++ S) ++ Closes end ∷ [])) (in_block (Begin i ds ss end)) ((Whole x ∷ []) ++ (declarations_held ds ++ statements_held ss)) [] =
        both (λ l. Token i ∷ l) (λ l. in_declarations ds (in_statements ss (Behind end ∷ l))) (begins_program i ds ss)
        (inside_block [] x (text_used x) (statements_used ss []) D S (in_declarations ds) (in_statements ss) (declarations_held ds) (statements_held ss) end (declarations_lay ds x (statements_used ss []) []) (statements_lay false ss x [] [])) in
        subst (λ z. Laid [] [] z (in_block (Begin i ds ss end) []) (Whole x ∷ (declarations_held ds ++ statements_held ss))) (append-nil _ ∙ ap (λ z. Opens kind.Program i i ∷ z) (append_assoc D S (Closes end ∷ [])))
        (subst (λ z. Laid [] [] (((Opens kind.Program i i ∷ []) ++ ((D ++ S) ++ Closes end ∷ [])) ++ []) (in_block (Begin i ds ss end) []) z) (append-nil _) (all.before [] tt [] [] [] (λ q o. nothing refl)))
