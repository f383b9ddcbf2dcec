-- What is written of an expression.
use Rattle.std.specs.Prelude.{◌≡◌, ◌<◌, ◌-◌, ◌&&◌, ◌||◌, not, ⊤, ℕ, suc, pos, Bool, true, false, List, [], ◌∷◌, drop, length, map, slice_get, take, Option, Some, None}
use Rattle.sim_base.specs.declared.numbering.DeclNo.{DeclNo}
use Rattle.sim_base.specs.declared.numbering.TokenNo.{TokenNo}
use Rattle.sim_scope.specs.declared.bound.Bound.{Bound}
use Rattle.sim_scope.specs.declared.scopes.Denotation.{Denotation}
use Rattle.sim_scope.specs.declared.scopes.Denotation.TheVariants as denotation
use Rattle.sim_scope.specs.declared.standard.StandardName.{StandardName}
use Rattle.sim_scope.specs.declared.types.Entry.{Entry}
use Rattle.sim_scope.specs.declared.types.Entry.TheVariants as entry
use Rattle.sim_scope.specs.declared.types.Formal.{Formal}
use Rattle.sim_scope.specs.declared.types.FormalKind.{FormalKind}
use Rattle.sim_scope.specs.declared.types.FormalKind.TheVariants as shape
use Rattle.sim_scope.specs.declared.types.Mode.{Mode}
use Rattle.sim_scope.specs.declared.types.Mode.TheVariants as mode
use Rattle.sim_scope.specs.Scopes.{entry_of, formals_in}
use Rattle.sim_scope.specs.Source.{Source, block_of, denoted, found_at, level_of, line_at, source_of}
use Rattle.sim_tree.specs.declared.expr.Expr.{Expr}
use Rattle.sim_tree.specs.declared.expr.Identifier.{Identifier}
use Rattle.sim_tree.specs.declared.expr.Operand.{Operand}
use Rattle.sim_tree.specs.declared.expr.Selector.{Selector}
use Rattle.sim_tree.specs.declared.expr.Sign.{Sign}
use Rattle.sim_tree.specs.declared.operator.Operator.{Operator}
use Rattle.sim_tree.specs.Syntax.{Binary, Expression, Expressions, Named, NoMore, Signed, expressions}
use Rattle.sim_tree.specs.SyntaxOf.{Cast, Selection, Tail, Take, chain, negated, operand_syntax, selected, selector_syntax, syntax_of, with_operator}
use Rattle.sim_values.specs.declared.standard.Standard.{Standard}
use Rattle.sim_values.specs.Plain.{Plain, Integer, Truth, Character, Text as TextOf}
use Rattle.sim_values.specs.Standard.{is_image, moves_position, on_image, operands_of, row_of}
use Rattle.sim_code.specs.declared.instr.Instr.{Instr}
use Rattle.sim_code.specs.declared.instr.Instr.TheVariants as i
use Rattle.sim_code.specs.Code.{CodeOf}
use Rattle.sim_code.specs.Names.{standard_names}
use Rattle.sim_code.specs.Running.{name_runs, runs}
use Rattle.sim_meaning.specs.Attributes.{connection_at, own_attribute}
use Rattle.sim_meaning.specs.Closing.{Joining, Lazily, Negated, Plainly, Sort, class_of_formal, class_passed, formals_at, formals_from, is_attribute, is_attribute_denoted, is_image_denoted, is_placed, is_text, is_text_type, is_variable, sort_of, stream_of}
use Rattle.sim_meaning.specs.Constants.{text_constant}
use Rattle.sim_meaning.specs.Constants.{text_constant}
use Rattle.sim_meaning.specs.Names.{procedure_named}
use Rattle.sim_meaning.specs.Pending.{ForPlace, ForValue, Use}
use Rattle.sim_meaning.specs.Texts.{constant_of}
use Rattle.codegen_expr.specs.declared.names.OnImage.{OnImage}
use Rattle.codegen_expr.specs.declared.names.OnImage.TheVariants as image
use Rattle.codegen_expr.specs.declared.names.StandardCode.{StandardCode}
use Rattle.codegen_expr.specs.declared.operators.Object.{Object}
use Rattle.codegen_expr.specs.declared.operators.Object.TheVariants as object
use Rattle.codegen_expr.specs.declared.operators.Passed.{Passed}
use Rattle.codegen_expr.specs.declared.operators.Passed.TheVariants as passed
use Rattle.codegen_expr.specs.declared.operators.Seen.{Seen}
use Rattle.codegen_expr.specs.declared.operators.Seen.TheVariants as seen
use Rattle.codegen_expr.specs.declared.operators.Sorted.{Sorted}
use Rattle.codegen_expr.specs.declared.operators.Sorted.TheVariants as sorted
use Rattle.codegen_expr.specs.declared.spot.Spot.{Spot}
use Rattle.codegen_expr.specs.Built.{ActualBuilt, ActualsBuilt, ProcedureBuilt, AreBuilt, ArrayBuilt, ArrayPlaceBuilt, CallBuilt, CellBuilt, ConnectedNameBuilt, ConstantBuilt, DotBuilt, IsBuilt, NameBuilt, NamedBuilt, NamedPlaceBuilt, ObjectBuilt, OfObjectBuilt, OwnBuilt, OwnNameBuilt, PlaceBuilt, PlainBuilt, StandardBuilt, StandsIn, ThisFoundBuilt, ThroughBuilt, VariableBuilt}
use Rattle.codegen_expr.specs.CodeExpr.{Checked, FormalProcedureAt, GivenBy, Listed, MatchAt, NamedArrayAt, NamedArrayPlaceAt, NamedElementAt, Parameters, PastThunkAt, ProcedureAt, ValueCallAt, is_by_name, parameters_at, ActualAt, ActualsAt, ArrayAt, ArrayPlaceAt, ByNameAt, CallAt, CellAt, CellPlaceAt, ConnectedNameAt, ConstantAt, DotAt, ElementAt, ExprAt, ExprsAt, FittingAt, GivenAt, IsConstant, NamedAt, NamedPlaceAt, ObjectAt, OfObjectAt, OwnAt, OwnNameAt, PlaceAt, Stand, StandardAt, StandardIs, ThisAt, ThisFoundAt, ThroughAt, ThunkAt, VariableAt, VariablePlaceAt, class_given, join_instrs, operands, two_instr}
use Rattle.codegen_expr.specs.Drafts.{DraftOf, Emits}
use Rattle.codegen_expr.specs.Sites.{Inside, Pushes, Site}

-- ---- cases

-- the instruction that pushes a value
abbrev pub PushesValue : Source → Plain → Instr → Type 0
PushesValue s (Integer z) x = x ≡ i.Int z
PushesValue s (Truth true) x = x ≡ i.Bool (pos 1)
PushesValue s (Truth false) x = x ≡ i.Bool (pos 0)
PushesValue s (Character c) x = (c < 256) × (x ≡ i.Char (pos c))
PushesValue s (TextOf t) x = IsConstant s t × (x ≡ i.TextK (pos t.text_frame))
PushesValue s _ x = ⊥

-- the instruction that pushes the value of a constant, if there is one
abbrev pub FoundInstr : Source → Option Plain → Option Instr → Type 0
FoundInstr s None None = ⊤
FoundInstr s None (Some x) = ⊥
FoundInstr s (Some v) (Some x) = PushesValue s v x
FoundInstr s (Some v) None = PlainBuilt v → ⊥

unfoldable pub FindsInstr : Bound → Option Plain → Option Instr → Type 0
FindsInstr b v r = FoundInstr (source_of b) v r

-- the formal parameters of a block
abbrev pub formals_of_block : Source → ℕ → List Formal
formals_of_block s block = formals_from s (formals_in (slice_get s.tables.blocks block))

-- what a declared identifier is seen as
abbrev pub seen_formal : Mode → FormalKind → Seen
seen_formal mode.ByName shape.Simple = seen.Named
seen_formal mode.ByName shape.Array = seen.NamedArray
seen_formal mode shape.Simple = seen.Variable
seen_formal mode shape.Array = seen.Array
seen_formal mode shape.Procedure = seen.Procedure (is_by_name mode)

abbrev pub seen_of : Option Entry → Seen
seen_of (Some (entry.Variable type)) = seen.Variable
seen_of (Some (entry.Constant type)) = seen.Constant
seen_of (Some (entry.Array element dimensions)) = seen.Array
seen_of (Some (entry.Formal f)) = seen_formal f.mode f.kind
seen_of (Some (entry.Procedure result block)) = seen.Call block
seen_of (Some (entry.Virtual result own)) = seen.Virtual
seen_of _ = seen.Nothing

abbrev pub SeenBuilt : Source → (text : ℕ) → DeclNo → Seen → Expressions → (Operands : Type 0) → (Actuals : Parameters → Type 0) → Type 0
SeenBuilt s text d seen.Variable es Operands Actuals = VariableBuilt s text d es
SeenBuilt s text d seen.Array es Operands Actuals = ArrayBuilt s text d es Operands
SeenBuilt s text d seen.Constant es Operands Actuals = ConstantBuilt (constant_of s d) es
SeenBuilt s text d (seen.Call block) es Operands Actuals = CallBuilt s text d (Actuals (Listed (formals_of_block s block)))
SeenBuilt s text d seen.Virtual es Operands Actuals = StandsIn s text (block_of s d) × Actuals Checked
SeenBuilt s text d seen.Named es Operands Actuals = VariableBuilt s text d es
SeenBuilt s text d seen.NamedArray es Operands Actuals = ArrayBuilt s text d es Operands
SeenBuilt s text d (seen.Procedure by_name) es Operands Actuals = CellBuilt s text d × Actuals Checked
SeenBuilt s text d seen.Nothing es Operands Actuals = ⊥

abbrev pub SeenAt : Source → CodeOf → Site → ℕ → (line : ℕ) → DeclNo → Seen → Expressions → (Operands : ℕ → ℕ → Type 0) → (Actuals : Parameters → ℕ → ℕ → Type 0) → ℕ → ℕ → Type 0
SeenAt s code site n line d seen.Variable es Operands Actuals p q = VariableAt s code site n d es p q
SeenAt s code site n line d seen.Array es Operands Actuals p q = ArrayAt s code site n line d es Operands p q
SeenAt s code site n line d seen.Constant es Operands Actuals p q = ConstantAt s code site n (constant_of s d) es p q
SeenAt s code site n line d (seen.Call block) es Operands Actuals p q = CallAt s code site n line d block es (Actuals (Listed (formals_of_block s block))) p q
SeenAt s code site n line d seen.Virtual es Operands Actuals p q = ValueCallAt code line es (MatchAt code line d.0 (ThisAt s code site n (block_of s d))) (Actuals Checked) p q
SeenAt s code site n line d seen.Named es Operands Actuals p q = ByNameAt s code site n d es (ForValue (class_of_formal s d) line) p q
SeenAt s code site n line d seen.NamedArray es Operands Actuals p q = NamedArrayAt s code site n line d es Operands p q
SeenAt s code site n line d (seen.Procedure by_name) es Operands Actuals p q = ValueCallAt code line es (FormalProcedureAt s code site n line d by_name) (Actuals Checked) p q
SeenAt s code site n line d seen.Nothing es Operands Actuals p q = ⊥

-- what an attribute of an object is seen as
abbrev pub parameter_seen : FormalKind → Seen
parameter_seen shape.Simple = seen.Variable
parameter_seen shape.Array = seen.Array
parameter_seen shape.Procedure = seen.Nothing

abbrev pub attribute_seen : Option Entry → Seen
attribute_seen (Some (entry.Variable type)) = seen.Variable
attribute_seen (Some (entry.Constant type)) = seen.Constant
attribute_seen (Some (entry.Array element dimensions)) = seen.Array
attribute_seen (Some (entry.Formal f)) = parameter_seen f.kind
attribute_seen (Some (entry.Procedure result block)) = seen.Call block
attribute_seen (Some (entry.Virtual result own)) = seen.Virtual
attribute_seen _ = seen.Nothing

-- how an actual parameter is passed; a class keeps the arrays that it gets by reference
abbrev pub passed_of : (keeps : Bool) → Mode → FormalKind → (text : Bool) → Passed
passed_of keeps mode.ByValue shape.Array text = passed.Copied
passed_of true mode.ByReference shape.Array text = passed.Kept
passed_of false mode.ByReference shape.Array text = passed.Plain
passed_of keeps mode.ByValue shape.Simple true = passed.CopiedText
passed_of keeps mode.ByValue shape.Simple false = passed.Plain
passed_of keeps mode.ByReference shape.Simple text = passed.Plain
passed_of keeps mode.ByName shape.Simple text = passed.Named
passed_of keeps mode.ByName shape.Array text = passed.Named
passed_of keeps mode.ByName shape.Procedure text = passed.NamedProcedure
passed_of keeps mode shape.Procedure text = passed.Procedure

-- what code has of a standard name that is done by itself: its number, and how many operands it takes
pub record NumberedIs (name : Standard) (row : StandardCode) : Type 0 where
  pub named : slice_get standard_names row.number ≡ Some name
  pub runs : name_runs name ≡ true
  pub takes : row.operands ≡ length (operands_of (row_of name).function)

abbrev pub Numbered : Option StandardCode → Option Standard → Type 0
Numbered None None = ⊤
Numbered None (Some name) = name_runs name ≡ false
Numbered (Some row) None = ⊥
Numbered (Some row) (Some name) = NumberedIs name row

-- what a name of both images is on one of them
abbrev pub is_named : Option Standard → Bool
is_named None = false
is_named (Some name) = true

abbrev pub OnImageIs : OnImage → Option Standard → Type 0
OnImageIs image.Itself None = ⊥
OnImageIs image.Itself (Some name) = is_image name ≡ true
OnImageIs (image.OfText other) None = ⊥
OnImageIs (image.OfText other) (Some name) = (is_image name ≡ false) × (on_image name ≡ procedure_named other) × (is_named (procedure_named other) ≡ true)
OnImageIs image.Nothing None = ⊤
OnImageIs image.Nothing (Some name) = (is_image name ≡ false) × (on_image name ≡ None)

abbrev pub moves_named : Option Standard → Bool
moves_named None = false
moves_named (Some name) = moves_position name

-- ---- what is written

-- behind old there is the code of an expression, on n values
unfoldable pub Puts : Source → Spot → (n : ℕ) → (old new : DraftOf) → Expression → Type 0
Puts s w n old new e = Emits w old new (IsBuilt s w.text e) (λ final site p q. ExprAt s final site n e p q)

-- a declared identifier with its operands
unfoldable pub PutsSeen : Source → Spot → (n : ℕ) → (old new : DraftOf) → TokenNo → DeclNo → Seen → Expressions → Type 0
PutsSeen s w n old new token d x es =
    Emits w old new (SeenBuilt s w.text d x es (AreBuilt s w.text es) (λ formals. ActualsBuilt s w.text es formals))
    (λ final site p q. SeenAt s final site n (line_at s token.0) d x es (λ u v. ExprsAt s final site (suc n) es u v) (λ formals u v. ActualsAt s final site (suc n) (line_at s token.0) false es formals u v) p q)

unfoldable pub Writes : Bound → Spot → (n : ℕ) → (old new : DraftOf) → Expr → Type 0
Writes b w n old new e = Puts (source_of b) w n old new (syntax_of e)

-- ---- parts that stand behind an operand, whatever that is

-- an operator that is done in the same way for operands of every type
unfoldable pub Steady : Operator → Type 0
Steady operator = (texts : Bool) → sort_of texts operator ≡ sort_of false operator

unfoldable pub WritesTails : Bound → Spot → (n : ℕ) → (old new : DraftOf) → List Tail → Type 0
WritesTails b w n old new ts = (start : DraftOf) (left : Expression) → Puts (source_of b) w n start old left → Puts (source_of b) w n start new (chain left ts)

-- further operands with one operator
unfoldable pub WritesOperands : Bound → Spot → (n : ℕ) → (old new : DraftOf) → Operator → List Operand → Type 0
WritesOperands b w n old new operator xs = Steady operator → WritesTails b w n old new (map (with_operator operator) (map operand_syntax xs))

-- an operator and its second operand; `texts` tells whether the first one is a text
unfoldable pub WritesOperand : Bound → Spot → (n : ℕ) → (old new : DraftOf) → (texts : Bool) → Operator → TokenNo → Expr → Type 0
WritesOperand b w n old new texts operator token e =
    (start : DraftOf) (left : Expression) → sort_of (is_text (source_of b) left) operator ≡ sort_of texts operator → Puts (source_of b) w n start old left → Puts (source_of b) w n start new (Binary operator token.0 left (syntax_of e))

unfoldable pub WritesSign : Bound → Spot → (n : ℕ) → (old new : DraftOf) → Sign → TokenNo → Type 0
WritesSign b w n old new sign token = (start : DraftOf) (x : Expression) → Puts (source_of b) w n start old x → Puts (source_of b) w n start new (Signed sign token.0 x)

unfoldable pub WritesNot : Bound → Spot → (n : ℕ) → (old new : DraftOf) → List TokenNo → Expr → Type 0
WritesNot b w n old new tokens e = Puts (source_of b) w n old new (negated tokens (syntax_of e))

-- an identifier with its operands that is not seen through a connection, and may be a call that leaves no value
unfoldable pub PutsUnconnected : Source → Spot → (n : ℕ) → (old new : DraftOf) → TokenNo → Option Denotation → Expressions → Type 0
PutsUnconnected s w n old new token u es =
    Emits w old new (NamedBuilt s w.text u es (AreBuilt s w.text es) (λ formals. ActualsBuilt s w.text es formals))
    (λ final site p q. NamedAt s final site n (line_at s token.0) u es (λ x y. ExprsAt s final site n es x y) (λ x y. ExprsAt s final site (suc n) es x y) (λ formals x y. ActualsAt s final site (suc n) (line_at s token.0) false es formals x y) p q)

unfoldable pub WritesUnconnected : Bound → Spot → (n : ℕ) → (old new : DraftOf) → TokenNo → Option Denotation → List Expr → Type 0
WritesUnconnected b w n old new token u es = PutsUnconnected (source_of b) w n old new token u (expressions (map syntax_of es))

-- the same seen through a connection
unfoldable pub WritesThrough : Bound → Spot → (n : ℕ) → (old new : DraftOf) → TokenNo → (connection : ℕ) → Option Denotation → List Expr → Type 0
WritesThrough b w n old new token k u ys =
    let s = source_of b in
    let es = expressions (map syntax_of ys) in
    Emits w old new (ConnectedNameBuilt s w.text k u es (AreBuilt s w.text es) (λ formals. ActualsBuilt s w.text es formals))
    (λ final site p q. ConnectedNameAt s final site n (line_at s token.0) k u es (λ x y. ExprsAt s final site (suc n) es x y) (λ formals x y. ActualsAt s final site (suc n) (line_at s token.0) false es formals x y) p q)

-- the same where it may be a procedure of a simulation block around, or an attribute of SIMSET or of a process of the object around
unfoldable pub PutsOwn : Source → Spot → (n : ℕ) → (old new : DraftOf) → TokenNo → Option Denotation → Expressions → Type 0
PutsOwn s w n old new token u es =
    Emits w old new
    (OwnBuilt (own_attribute s token.0)
    (λ d. OwnNameBuilt s w.text (found_at s token.0) (entry_of s.tables d) es (ActualsBuilt s w.text es (Listed (formals_at s d)))
    (OfObjectBuilt s d (entry_of s.tables d) es (ThisFoundBuilt s w.text (found_at s token.0)) (AreBuilt s w.text es) (ActualsBuilt s w.text es (parameters_at s d))))
    (NamedBuilt s w.text u es (AreBuilt s w.text es) (λ formals. ActualsBuilt s w.text es formals)))
    (λ final site p q. OwnAt (own_attribute s token.0)
    (λ d. OwnNameAt s final site n (line_at s token.0) (found_at s token.0) (entry_of s.tables d) es (λ x y. ActualsAt s final site (suc n) (line_at s token.0) false es (Listed (formals_at s d)) x y)
    (λ x y. OfObjectAt s final site n (line_at s token.0) d (entry_of s.tables d) es (λ x y. ThisFoundAt s final site n (found_at s token.0) x y) (λ x y. ExprsAt s final site (suc n) es x y) (λ x y. ActualsAt s final site (suc n) (line_at s token.0) false es (parameters_at s d) x y) x y))
    (NamedAt s final site n (line_at s token.0) u es (λ x y. ExprsAt s final site n es x y) (λ x y. ExprsAt s final site (suc n) es x y) (λ formals x y. ActualsAt s final site (suc n) (line_at s token.0) false es formals x y)) p q)

unfoldable pub WritesOwn : Bound → Spot → (n : ℕ) → (old new : DraftOf) → TokenNo → Option Denotation → List Expr → Type 0
WritesOwn b w n old new token u es = PutsOwn (source_of b) w n old new token u (expressions (map syntax_of es))

-- an identifier with its operands, which may be a call that leaves no value
unfoldable pub PutsNamed : Source → Spot → (n : ℕ) → (old new : DraftOf) → TokenNo → Option Denotation → Expressions → Type 0
PutsNamed s w n old new token u es =
    Emits w old new
    (ThroughBuilt (connection_at s token.0) (λ k. ConnectedNameBuilt s w.text k u es (AreBuilt s w.text es) (λ formals. ActualsBuilt s w.text es formals))
    (OwnBuilt (own_attribute s token.0)
    (λ d. OwnNameBuilt s w.text (found_at s token.0) (entry_of s.tables d) es (ActualsBuilt s w.text es (Listed (formals_at s d)))
    (OfObjectBuilt s d (entry_of s.tables d) es (ThisFoundBuilt s w.text (found_at s token.0)) (AreBuilt s w.text es) (ActualsBuilt s w.text es (parameters_at s d))))
    (NamedBuilt s w.text u es (AreBuilt s w.text es) (λ formals. ActualsBuilt s w.text es formals))))
    (λ final site p q. ThroughAt (connection_at s token.0)
    (λ k. ConnectedNameAt s final site n (line_at s token.0) k u es (λ x y. ExprsAt s final site (suc n) es x y) (λ formals x y. ActualsAt s final site (suc n) (line_at s token.0) false es formals x y))
    (OwnAt (own_attribute s token.0)
    (λ d. OwnNameAt s final site n (line_at s token.0) (found_at s token.0) (entry_of s.tables d) es (λ x y. ActualsAt s final site (suc n) (line_at s token.0) false es (Listed (formals_at s d)) x y)
    (λ x y. OfObjectAt s final site n (line_at s token.0) d (entry_of s.tables d) es (λ x y. ThisFoundAt s final site n (found_at s token.0) x y) (λ x y. ExprsAt s final site (suc n) es x y) (λ x y. ActualsAt s final site (suc n) (line_at s token.0) false es (parameters_at s d) x y) x y))
    (NamedAt s final site n (line_at s token.0) u es (λ x y. ExprsAt s final site n es x y) (λ x y. ExprsAt s final site (suc n) es x y) (λ formals x y. ActualsAt s final site (suc n) (line_at s token.0) false es formals x y))) p q)

unfoldable pub WritesNamed : Bound → Spot → (n : ℕ) → (old new : DraftOf) → TokenNo → Option Denotation → List Expr → Type 0
WritesNamed b w n old new token u es = PutsNamed (source_of b) w n old new token u (expressions (map syntax_of es))

-- the value of a cell
unfoldable pub WritesCell : Bound → Spot → (n : ℕ) → (old new : DraftOf) → DeclNo → Type 0
WritesCell b w n old new d = Emits w old new (CellBuilt (source_of b) w.text d) (λ final site p q. CellAt (source_of b) final site n d p q)

-- expressions, one value after the other
unfoldable pub WritesList : Bound → Spot → (n : ℕ) → (old new : DraftOf) → List Expr → Type 0
WritesList b w n old new es = Emits w old new (AreBuilt (source_of b) w.text (expressions (map syntax_of es))) (λ final site p q. ExprsAt (source_of b) final site n (expressions (map syntax_of es)) p q)

-- the address of an element of an array, with the class of a reference there; the token is that of the identifier
unfoldable pub WritesElement : Bound → Spot → (n : ℕ) → (old new : DraftOf) → (class : ℕ) → TokenNo → DeclNo → List Expr → Type 0
WritesElement b w n old new class token d es =
    Emits w old new (CellBuilt (source_of b) w.text d × AreBuilt (source_of b) w.text (expressions (map syntax_of es)))
    (λ final site p q. ElementAt (source_of b) final site n (line_at (source_of b) token.0) class d (expressions (map syntax_of es)) (λ x y. ExprsAt (source_of b) final site (suc n) (expressions (map syntax_of es)) x y) p q)

-- the same where the array is a formal parameter by name
unfoldable pub WritesNamedElement : Bound → Spot → (n : ℕ) → (old new : DraftOf) → (class : ℕ) → TokenNo → DeclNo → List Expr → Type 0
WritesNamedElement b w n old new class token d es =
    Emits w old new (CellBuilt (source_of b) w.text d × AreBuilt (source_of b) w.text (expressions (map syntax_of es)))
    (λ final site p q. NamedElementAt (source_of b) final site n (line_at (source_of b) token.0) class d (expressions (map syntax_of es)) (λ x y. ExprsAt (source_of b) final site (suc n) (expressions (map syntax_of es)) x y) p q)

-- actual parameters, one for each formal; the token is that of the identifier that is called
unfoldable pub WritesActuals : Bound → Spot → (n : ℕ) → (old new : DraftOf) → (keeps : Bool) → TokenNo → List Expr → List Formal → Type 0
WritesActuals b w n old new keeps token es formals =
    Emits w old new (ActualsBuilt (source_of b) w.text (expressions (map syntax_of es)) (Listed formals))
    (λ final site p q. ActualsAt (source_of b) final site n (line_at (source_of b) token.0) keeps (expressions (map syntax_of es)) (Listed formals) p q)

-- the link to the instance of a text around
unfoldable pub WritesLinkTo : Bound → Spot → (n : ℕ) → (old new : DraftOf) → (text : ℕ) → Type 0
WritesLinkTo b w n old new k =
    Emits w old new (StandsIn (source_of b) w.text k) (λ final site p q. Pushes final site n (i.Link (pos (level_of (source_of b) k))) p q × Inside (source_of b).tables site.text k)

-- the link that a call of a procedure begins with
unfoldable pub WritesLink : Bound → Spot → (n : ℕ) → (old new : DraftOf) → DeclNo → Type 0
WritesLink b w n old new d = WritesLinkTo b w n old new (block_of (source_of b) d)

-- a standard name that is done by itself, behind so many operands
abbrev pub AloneBuilt : Option Standard → (count : ℕ) → Type 0
AloneBuilt None count = ⊥
AloneBuilt (Some name) count = NameBuilt name count

abbrev pub AloneAt : CodeOf → Site → ℕ → (line : ℕ) → Option Standard → (count : ℕ) → ℕ → ℕ → Type 0
AloneAt code site n line None count p q = ⊥
AloneAt code site n line (Some name) count p q = StandardIs code site n line name count p q

-- a standard name with its operands, where that of both images is done on this one; the token is that of the identifier
unfoldable pub WritesStandard : Bound → Spot → (n : ℕ) → (old new : DraftOf) → (image : ℕ) → TokenNo → StandardName → List Expr → Type 0
WritesStandard b w n old new image token name ys =
    let s = source_of b in
    let es = expressions (map syntax_of ys) in
    Emits w old new (StandardBuilt (procedure_named name) es (AreBuilt s w.text es))
    (λ final site p q. StandardAt final site n (line_at s token.0) image (procedure_named name) es (λ x y. ExprsAt s final site n es x y) (λ x y. ExprsAt s final site (suc n) es x y) p q)

-- the same of one that is done by itself
unfoldable pub WritesAlone : Bound → Spot → (n : ℕ) → (old new : DraftOf) → TokenNo → StandardName → List Expr → Type 0
WritesAlone b w n old new token name ys =
    let s = source_of b in
    let es = expressions (map syntax_of ys) in
    Emits w old new (AloneBuilt (procedure_named name) (operands es) × AreBuilt s w.text es)
    (λ final site p q. (x : ℕ) × ExprsAt s final site n es p x × AloneAt final site n (line_at s token.0) (procedure_named name) (operands es) x q)

-- a name of texts behind its text, which is on the stack
unfoldable pub WritesBehind : Bound → Spot → (n : ℕ) → (old new : DraftOf) → TokenNo → StandardName → List Expr → Type 0
WritesBehind b w n old new token name ys =
    let s = source_of b in
    let es = expressions (map syntax_of ys) in
    Emits w old new (AloneBuilt (procedure_named name) (suc (operands es)) × AreBuilt s w.text es)
    (λ final site p q. (x : ℕ) × ExprsAt s final site (suc n) es p x × AloneAt final site n (line_at s token.0) (procedure_named name) (suc (operands es)) x q)

-- the address of an image
unfoldable pub WritesImage : Spot → (n : ℕ) → (old new : DraftOf) → (image : ℕ) → Type 0
WritesImage w n old new image = Emits w old new ⊤ (λ final site p q. Pushes final site n (i.AddrImg (pos image)) p q)

-- ---- attributes of texts

-- where a variable lies, with the class of a reference there
unfoldable pub PutsPlace : Source → Spot → (n : ℕ) → (old new : DraftOf) → (class : ℕ) → Expression → Type 0
PutsPlace s w n old new class e = Emits w old new (PlaceBuilt s w.text e) (λ final site p q. PlaceAt s final site n class e p q)

unfoldable pub WritesPlace : Bound → Spot → (n : ℕ) → (old new : DraftOf) → (class : ℕ) → Expr → Type 0
WritesPlace b w n old new class x = PutsPlace (source_of b) w n old new class (syntax_of x)

-- the same of an identifier with subscripts
unfoldable pub WritesNamedPlace : Bound → Spot → (n : ℕ) → (old new : DraftOf) → (class : ℕ) → Identifier → List Expr → Type 0
WritesNamedPlace b w n old new class x es = PutsPlace (source_of b) w n old new class (Named x (expressions (map syntax_of es)))

-- of one that is not seen through a connection
unfoldable pub WritesUnconnectedPlace : Bound → Spot → (n : ℕ) → (old new : DraftOf) → (class : ℕ) → Identifier → List Expr → Type 0
WritesUnconnectedPlace b w n old new class x ys =
    let s = source_of b in
    let es = expressions (map syntax_of ys) in
    Emits w old new (NamedPlaceBuilt s w.text (denoted s x.token.0) es (AreBuilt s w.text es)) (λ final site p q. NamedPlaceAt s final site n (line_at s x.token.0) class (denoted s x.token.0) es (λ u v. ExprsAt s final site (suc n) es u v) p q)

-- of a declared identifier, as it is seen
abbrev pub SeenPlaceBuilt : Source → (text : ℕ) → DeclNo → Seen → Expressions → (Subscripts : Type 0) → Type 0
SeenPlaceBuilt s text d seen.Variable es Subscripts = VariableBuilt s text d es
SeenPlaceBuilt s text d seen.Array es Subscripts = ArrayPlaceBuilt s text d es Subscripts
SeenPlaceBuilt s text d seen.Named es Subscripts = VariableBuilt s text d es
SeenPlaceBuilt s text d seen.NamedArray es Subscripts = ArrayPlaceBuilt s text d es Subscripts
SeenPlaceBuilt s text d _ es Subscripts = ⊥

abbrev pub SeenPlaceAt : Source → CodeOf → Site → (n line class : ℕ) → DeclNo → Seen → Expressions → (Subscripts : ℕ → ℕ → Type 0) → ℕ → ℕ → Type 0
SeenPlaceAt s code site n line class d seen.Variable es Subscripts p q = VariablePlaceAt s code site n class d es p q
SeenPlaceAt s code site n line class d seen.Array es Subscripts p q = ArrayPlaceAt s code site n line class d es Subscripts p q
SeenPlaceAt s code site n line class d seen.Named es Subscripts p q = ByNameAt s code site n d es (ForPlace true line) p q
SeenPlaceAt s code site n line class d seen.NamedArray es Subscripts p q = NamedArrayPlaceAt s code site n line class d es Subscripts p q
SeenPlaceAt s code site n line class d _ es Subscripts p q = ⊥

unfoldable pub WritesSeenPlace : Bound → Spot → (n : ℕ) → (old new : DraftOf) → (class : ℕ) → TokenNo → DeclNo → Seen → List Expr → Type 0
WritesSeenPlace b w n old new class token d x ys =
    let s = source_of b in
    let es = expressions (map syntax_of ys) in
    Emits w old new (SeenPlaceBuilt s w.text d x es (AreBuilt s w.text es)) (λ final site p q. SeenPlaceAt s final site n (line_at s token.0) class d x es (λ u v. ExprsAt s final site (suc n) es u v) p q)

-- the address of the cell of a declaration
unfoldable pub WritesCellPlace : Bound → Spot → (n : ℕ) → (old new : DraftOf) → (class : ℕ) → DeclNo → Type 0
WritesCellPlace b w n old new class d = Emits w old new (CellBuilt (source_of b) w.text d) (λ final site p q. CellPlaceAt (source_of b) final site n class d p q)

-- What is written of an object before a dot: of sysin and sysout nothing, of a variable where it lies, or the text.
abbrev pub PutsObject : Source → Spot → (n : ℕ) → (old new : DraftOf) → Object → Expression → Type 0
PutsObject s w n old new (object.Stream image) e = (new ≡ old) × (stream_of s e ≡ Some image)
PutsObject s w n old new object.Place e = PutsPlace s w n old new 0 e × (stream_of s e ≡ None)
PutsObject s w n old new object.Value e = Puts s w n old new e × (stream_of s e ≡ None)

-- a variable, or an attribute that is one
abbrev pub lies : Source → Expression → Bool
lies s e = is_variable s e || is_attribute s e

-- whether an attribute behind a variable gets where that lies
abbrev pub Placed : Source → (moves : Bool) → Object → Expression → Type 0
Placed s moves (object.Stream image) e = ⊤
Placed s moves object.Place e = (moves && lies s e) ≡ true
Placed s moves object.Value e = (moves && lies s e) ≡ false

-- An object is written in front of an attribute, of which it is known whether it moves the position of its text.
pub record PutsBefore (s : Source) (w : Spot) (n : ℕ) (old new : DraftOf) (moves : Bool) (o : Object) (e : Expression) : Type 0 where
  pub puts : PutsObject s w n old new o e
  pub placed : Placed s moves o e

-- the attribute that an expression has behind it, if it is one
abbrev pub moves_denoted : Option Denotation → Bool
moves_denoted (Some (denotation.Standard name)) = moves_named (procedure_named name)
moves_denoted _ = false

abbrev pub moves_selection : Source → Selection → Bool
moves_selection s (Take token name es) = moves_denoted (denoted s name.token.0)
moves_selection s (Cast token class) = false

abbrev pub takes_image : Source → Selection → Bool
takes_image s (Take token name es) = is_image_denoted (denoted s name.token.0)
takes_image s (Cast token class) = false

abbrev pub takes_attribute : Source → Selection → Bool
takes_attribute s (Take token name es) = is_attribute_denoted s (denoted s name.token.0) es
takes_attribute s (Cast token class) = false

-- the image of a stream that is taken of it, in front of what moves its position
abbrev pub image_placed : (moves : Bool) → Object → (takes_image : Bool) → Option ℕ
image_placed true (object.Stream image) true = Some image
image_placed _ o takes = None

abbrev pub moves_next : Source → List Selection → Bool
moves_next s [] = false
moves_next s (y ∷ ys) = moves_selection s y

-- an operand in front of the first thing that is taken of it
unfoldable pub WritesStart : Bound → Spot → (n : ℕ) → (old new : DraftOf) → (moves : Bool) → Object → Expr → Type 0
WritesStart b w n old new moves o x = PutsBefore (source_of b) w n old new moves o (syntax_of x)

-- one more thing is taken, in front of another one
unfoldable pub WritesStep : Bound → Spot → (n : ℕ) → (old new : DraftOf) → (o : Object) → Selector → (moves : Bool) → Object → Type 0
WritesStep b w n old new o y moves o' =
    (start : DraftOf) (e : Expression) → PutsBefore (source_of b) w n start old (moves_selection (source_of b) (selector_syntax y)) o e
    → PutsBefore (source_of b) w n start new moves o' (selected e (selector_syntax y ∷ []))

-- what is taken of an operand but the last of it
unfoldable pub WritesBefore : Bound → Spot → (n : ℕ) → (old new : DraftOf) → Object → Expr → List Selector → Type 0
WritesBefore b w n old new o x ys =
    let s = source_of b in
    let zs = map selector_syntax ys in
    PutsBefore s w n old new (moves_next s (drop (length ys - 1) zs)) o (selected (syntax_of x) (take (length ys - 1) zs))

-- an attribute behind its object
unfoldable pub WritesDot : Bound → Spot → (n : ℕ) → (old new : DraftOf) → Object → Identifier → List Expr → Type 0
WritesDot b w n old new o x ys =
    let s = source_of b in
    let es = expressions (map syntax_of ys) in
    (start : DraftOf) (e : Expression) → PutsBefore s w n start old (moves_denoted (denoted s x.token.0)) o e
    → Emits w start new (DotBuilt s (denoted s x.token.0) (stream_of s e) (lies s e) es (PlaceBuilt s w.text e) (IsBuilt s w.text e) (AreBuilt s w.text es) (λ formals. ActualsBuilt s w.text es formals))
    (λ final site p q. DotAt s final site n (line_at s x.token.0) (denoted s x.token.0) (stream_of s e) (lies s e) es (λ u v. PlaceAt s final site n 0 e u v) (λ u v. ExprAt s final site n e u v) (λ u v. ExprsAt s final site n es u v) (λ u v. ExprsAt s final site (suc n) es u v) (λ formals u v. ActualsAt s final site (suc n) (line_at s x.token.0) false es formals u v) p q)

-- the last thing that is taken of an operand, whose value is needed
unfoldable pub WritesLast : Bound → Spot → (n : ℕ) → (old new : DraftOf) → Object → Selector → Type 0
WritesLast b w n old new o y =
    (start : DraftOf) (e : Expression) → PutsBefore (source_of b) w n start old (moves_selection (source_of b) (selector_syntax y)) o e
    → Puts (source_of b) w n start new (selected e (selector_syntax y ∷ []))

-- where the last thing lies that is taken of an operand, with the class of a reference there
unfoldable pub WritesTakenPlace : Bound → Spot → (n : ℕ) → (old new : DraftOf) → (class : ℕ) → Object → Selector → Type 0
WritesTakenPlace b w n old new class o y =
    (start : DraftOf) (e : Expression) → PutsBefore (source_of b) w n start old (moves_selection (source_of b) (selector_syntax y)) o e
    → PutsPlace (source_of b) w n start new class (selected e (selector_syntax y ∷ []))

-- what is taken of an object but the last of it
unfoldable pub WritesSteps : Bound → Spot → (n : ℕ) → (old new : DraftOf) → (o : Object) → List Selector → Object → Type 0
WritesSteps b w n old new o ys o' =
    let s = source_of b in
    let zs = map selector_syntax ys in
    (start : DraftOf) (e : Expression) → PutsBefore s w n start old (moves_next s zs) o e
    → PutsBefore s w n start new (moves_next s (drop (length ys - 1) zs)) o' (selected e (take (length ys - 1) zs))

-- the last of it
unfoldable pub WritesEnd : Bound → Spot → (n : ℕ) → (old new : DraftOf) → Object → List Selector → Type 0
WritesEnd b w n old new o ys =
    let s = source_of b in
    let zs = map selector_syntax ys in
    (start : DraftOf) (e : Expression) → PutsBefore s w n start old (moves_next s (drop (length ys - 1) zs)) o (selected e (take (length ys - 1) zs))
    → Puts s w n start new (selected e zs)

-- an operand and what is taken of it
unfoldable pub WritesTaken : Bound → Spot → (n : ℕ) → (old new : DraftOf) → Expr → List Selector → Type 0
WritesTaken b w n old new x ys = Puts (source_of b) w n old new (selected (syntax_of x) (map selector_syntax ys))

-- ---- `&`

-- instructions that the machine does, none of which is a hole
abbrev pub is_hole : Instr → Bool
is_hole i.Halt = true
is_hole _ = false

abbrev pub all_fit : List Instr → Bool
all_fit [] = true
all_fit (x ∷ xs) = not (is_hole x) && runs x && all_fit xs

-- instructions one behind another
unfoldable pub WritesAll : Spot → (old new : DraftOf) → List Instr → (line : ℕ) → Type 0
WritesAll w old new xs line = all_fit xs ≡ true → Emits w old new ⊤ (λ final site p q. Stand final line xs p q)

-- what joins two texts
unfoldable pub WritesJoin : Bound → Spot → (n : ℕ) → (old new : DraftOf) → TokenNo → Type 0
WritesJoin b w n old new token =
    Emits w old new ⊤ (λ final site p q. (suc (suc site.temps) < site.size) × (suc (suc n) < site.room) × Stand final (line_at (source_of b) token.0) (join_instrs (level_of (source_of b) site.text) site.temps) p q)

-- a declared identifier with its operands, as it is seen; the token is that of the identifier
unfoldable pub WritesSeen : Bound → Spot → (n : ℕ) → (old new : DraftOf) → TokenNo → DeclNo → Seen → List Expr → Type 0
WritesSeen b w n old new token d x es = PutsSeen (source_of b) w n old new token d x (expressions (map syntax_of es))

-- a call of a procedure whose text is this block; the token is that of its identifier
unfoldable pub WritesCall : Bound → Spot → (n : ℕ) → (old new : DraftOf) → TokenNo → DeclNo → (block : ℕ) → List Expr → Type 0
WritesCall b w n old new token d block es = WritesSeen b w n old new token d (seen.Call block) es

-- an identifier with its operands that is an operand
unfoldable pub WritesGiving : Bound → Spot → (n : ℕ) → (old new : DraftOf) → Identifier → List Expr → Type 0
WritesGiving b w n old new x es = Puts (source_of b) w n old new (Named x (expressions (map syntax_of es)))

-- the value of a constant that is declared
unfoldable pub WritesConstant : Bound → Spot → (n : ℕ) → (old new : DraftOf) → DeclNo → Type 0
WritesConstant b w n old new d = Emits w old new (ConstantBuilt (constant_of (source_of b) d) NoMore) (λ final site p q. ConstantAt (source_of b) final site n (constant_of (source_of b) d) NoMore p q)

-- the text constant that is written at a token
unfoldable pub WritesTextAt : Bound → Spot → (n : ℕ) → (old new : DraftOf) → TokenNo → Type 0
WritesTextAt b w n old new token =
    Emits w old new (ConstantBuilt (text_constant (source_of b) token.0) NoMore) (λ final site p q. GivenAt (source_of b) final site n (text_constant (source_of b) token.0) p q)

-- ---- parameters by name

-- what a thunk gives, for a procedure or for anything else
abbrev pub GivenBuilt : Source → (text : ℕ) → (as_procedure : Bool) → Expression → Type 0
GivenBuilt s text true e = ProcedureBuilt s text e
GivenBuilt s text false e = ObjectBuilt (is_placed s e) (PlaceBuilt s text e) (IsBuilt s text e)

abbrev pub ThunkGivesAt : Source → CodeOf → Site → (as_procedure : Bool) → Expression → ℕ → ℕ → Type 0
ThunkGivesAt s code site as_procedure e p q = GivenBy as_procedure (ProcedureAt s code site 0 e) (ObjectAt (is_placed s e) (PlaceAt s code site 0 (class_given s code e) e) (ExprAt s code site 0 e)) p q

unfoldable pub WritesGiven : Bound → Spot → (old new : DraftOf) → (as_procedure : Bool) → Expr → Type 0
WritesGiven b w old new as_procedure e = Emits w old new (GivenBuilt (source_of b) w.text as_procedure (syntax_of e)) (λ final site p q. ThunkGivesAt (source_of b) final site as_procedure (syntax_of e) p q)

-- the code of a thunk, with its number; and an actual parameter by name
unfoldable pub WritesPast : Bound → Spot → (old new : DraftOf) → (as_procedure : Bool) → Expr → (number : ℕ) → Type 0
WritesPast b w old new as_procedure e number =
    Emits w old new (GivenBuilt (source_of b) w.text as_procedure (syntax_of e)) (λ final site p q. PastThunkAt final site number (λ inner x y. ThunkGivesAt (source_of b) final inner as_procedure (syntax_of e) x y) p q)

unfoldable pub WritesThunk : Bound → Spot → (n : ℕ) → (old new : DraftOf) → (as_procedure : Bool) → Expr → Type 0
WritesThunk b w n old new as_procedure e =
    Emits w old new (GivenBuilt (source_of b) w.text as_procedure (syntax_of e)) (λ final site p q. ThunkAt final site n (λ inner x y. ThunkGivesAt (source_of b) final inner as_procedure (syntax_of e) x y) p q)

-- a use of a formal parameter by name: its value; or where it lies, with the line of its token
unfoldable pub WritesUse : Bound → Spot → (n : ℕ) → (old new : DraftOf) → DeclNo → Use → Type 0
WritesUse b w n old new d wanted = Emits w old new (CellBuilt (source_of b) w.text d) (λ final site p q. ByNameAt (source_of b) final site n d NoMore wanted p q)

unfoldable pub WritesName : Bound → Spot → (n : ℕ) → (old new : DraftOf) → TokenNo → DeclNo → Type 0
WritesName b w n old new token d = WritesUse b w n old new d (ForValue (class_of_formal (source_of b) d) (line_at (source_of b) token.0))

-- an array or a procedure
unfoldable pub WritesNameWhole : Bound → Spot → (n : ℕ) → (old new : DraftOf) → TokenNo → DeclNo → Type 0
WritesNameWhole b w n old new token d = WritesUse b w n old new d (ForValue None (line_at (source_of b) token.0))

unfoldable pub WritesNamePlace : Bound → Spot → (n : ℕ) → (old new : DraftOf) → (value_too : Bool) → TokenNo → DeclNo → Type 0
WritesNamePlace b w n old new value_too token d = WritesUse b w n old new d (ForPlace value_too (line_at (source_of b) token.0))

-- an actual parameter for this formal, as it is passed
unfoldable pub WritesPassed : Bound → Spot → (n : ℕ) → (old new : DraftOf) → (keeps : Bool) → TokenNo → Expr → Formal → Type 0
WritesPassed b w n old new keeps token e f =
    let s = source_of b in
    Emits w old new (ActualBuilt f.mode f.kind (IsBuilt s w.text (syntax_of e)) (ProcedureBuilt s w.text (syntax_of e)) (GivenBuilt s w.text false (syntax_of e)))
    (λ final site p q. ActualAt final site n (line_at s token.0) keeps f.mode f.kind (is_text_type f.ty) (λ x y. ExprAt s final site n (syntax_of e) x y) (λ x y. ProcedureAt s final site n (syntax_of e) x y) (λ as_procedure inner x y. ThunkGivesAt s final inner as_procedure (syntax_of e) x y) p q)

-- and held against the qualification of the formal
unfoldable pub WritesActual : Bound → Spot → (n : ℕ) → (old new : DraftOf) → (keeps : Bool) → TokenNo → Expr → Formal → Type 0
WritesActual b w n old new keeps token e f =
    let s = source_of b in
    Emits w old new (ActualBuilt f.mode f.kind (IsBuilt s w.text (syntax_of e)) (ProcedureBuilt s w.text (syntax_of e)) (GivenBuilt s w.text false (syntax_of e)))
    (λ final site p q. FittingAt s final site n (line_at s token.0) (class_passed s f) (λ u v. ActualAt final site n (line_at s token.0) keeps f.mode f.kind (is_text_type f.ty) (λ x y. ExprAt s final site n (syntax_of e) x y) (λ x y. ProcedureAt s final site n (syntax_of e) x y) (λ as_procedure inner x y. ThunkGivesAt s final inner as_procedure (syntax_of e) x y) u v) p q)

-- in a loop: what is written of the rest is written of the whole
unfoldable pub OwesList : Bound → Spot → (n : ℕ) → (old : DraftOf) → List Expr → (m : ℕ) → (now : DraftOf) → List Expr → Type 0
OwesList b w n old es m now rest = (end : DraftOf) → WritesList b w m now end rest → WritesList b w n old end es

unfoldable pub OwesActuals : Bound → Spot → (n : ℕ) → (old : DraftOf) → (keeps : Bool) → TokenNo → List Expr → List Formal → (m : ℕ) → (now : DraftOf) → List Expr → List Formal → Type 0
OwesActuals b w n old keeps token es fs m now rest formals = (end : DraftOf) → WritesActuals b w m now end keeps token rest formals → WritesActuals b w n old end keeps token es fs

unfoldable pub OwesTails : Bound → Spot → (n : ℕ) → (old : DraftOf) → List Tail → (now : DraftOf) → List Tail → Type 0
OwesTails b w n old ts now rest = (end : DraftOf) → WritesTails b w n now end rest → WritesTails b w n old end ts

-- how an operator is done
abbrev pub sorted_of : Sort → Sorted
sorted_of (Plainly op) = sorted.Plain (two_instr op)
sorted_of (Negated op) = sorted.Negated (two_instr op)
sorted_of (Lazily true) = sorted.OrElse
sorted_of (Lazily false) = sorted.AndThen
sorted_of Joining = sorted.Joined
