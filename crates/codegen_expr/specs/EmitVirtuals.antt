-- What is written of procedures as values, and of calls that are checked when they are done.
use Rattle.std.specs.Prelude.{◌≡◌, ◌≢◌, ⊤, ℕ, suc, pos, Bool, true, false, List, [], ◌∷◌, ◌++◌, map, Option}
use Rattle.sim_base.specs.declared.numbering.DeclNo.{DeclNo}
use Rattle.sim_base.specs.declared.numbering.TokenNo.{TokenNo}
use Rattle.sim_scope.specs.declared.bound.Bound.{Bound}
use Rattle.sim_scope.specs.declared.types.Entry.{Entry}
use Rattle.sim_scope.specs.Scopes.{entry_of}
use Rattle.sim_scope.specs.Source.{Source, block_of, denoted, line_at, source_of}
use Rattle.sim_tree.specs.declared.expr.Expr.{Expr}
use Rattle.sim_tree.specs.declared.expr.Identifier.{Identifier}
use Rattle.sim_tree.specs.declared.expr.Selector.{Selector}
use Rattle.sim_tree.specs.Syntax.{Dot, Expression, Expressions, Named, NoMore, expressions}
use Rattle.sim_tree.specs.SyntaxOf.{selected, selector_syntax, syntax_of}
use Rattle.sim_code.specs.declared.code.CodeActual.{CodeActual}
use Rattle.sim_code.specs.declared.instr.Instr.TheVariants as i
use Rattle.sim_code.specs.Code.{CodeOf}
use Rattle.sim_meaning.specs.Checks.{Passed, PassedArray, PassedProcedure, PassedValue, denoted_passed, entry_passed, passed}
use Rattle.codegen_expr.specs.declared.actuals.ActualKind.{ActualKind}
use Rattle.codegen_expr.specs.declared.actuals.ActualKind.TheVariants as actual
use Rattle.codegen_expr.specs.declared.operators.Object.{Object}
use Rattle.codegen_expr.specs.declared.operators.Seen.{Seen}
use Rattle.codegen_expr.specs.declared.operators.Seen.TheVariants as seen
use Rattle.codegen_expr.specs.declared.spot.Spot.{Spot}
use Rattle.codegen_expr.specs.Built.{ActualsBuilt, CellBuilt, IfBuilt, IsBuilt, ParametersBuilt, ProcedureBehindBuilt, ProcedureBuilt, ProcedureNamedBuilt, StandsIn}
use Rattle.codegen_expr.specs.CodeExpr.{ActualsAt, Checked, CheckAt, DeclaredProcedureAt, ExprAt, FormalProcedureAt, MatchAt, ParameterAt, ParametersAt, ProcedureAt, ProcedureBehindAt, ProcedureNamedAt, RemoteProcedureAt, ThisAt, ThunkIfAt, code_actual, code_actuals, is_procedure, is_value, operands}
use Rattle.codegen_expr.specs.Drafts.{DraftOf, Emits, given_up, with_instr}
use Rattle.codegen_expr.specs.Emit.{GivenBuilt, PutsBefore, ThunkGivesAt, moves_denoted, moves_selection}
use Rattle.codegen_expr.specs.EmitObjects.{Base, BaseAt, BaseBuilt, PutsBase}
use Rattle.codegen_expr.specs.Sites.{At, Site}
use Rattle.codegen_expr.specs.Thunks.{AsPlanned}

abbrev pub expressions_of : List Expr → Expressions
expressions_of es = expressions (map syntax_of es)

-- ---- procedures as values

-- the match of a virtual is found in the object on top
unfoldable pub WritesMatch : Bound → (old new : DraftOf) → TokenNo → DeclNo → Type 0
WritesMatch b old new token d = new ≡ with_instr old (i.Virt (pos d.0)) (line_at (source_of b) token.0)

-- a formal parameter that is a procedure, by name or not; the token is that of its identifier
unfoldable pub WritesHeld : Bound → Spot → (n : ℕ) → (old new : DraftOf) → TokenNo → DeclNo → (by_name : Bool) → Type 0
WritesHeld b w n old new token d by_name = Emits w old new (CellBuilt (source_of b) w.text d) (λ final site p q. FormalProcedureAt (source_of b) final site n (line_at (source_of b) token.0) d by_name p q)

-- a procedure that the object on top has, as it is seen, and by its identifier
abbrev pub ValueOfBuilt : Seen → (Object : Type 0) → Type 0
ValueOfBuilt (seen.Call block) Object = Object
ValueOfBuilt seen.Virtual Object = Object
ValueOfBuilt _ Object = ⊥

abbrev pub ValueOfAt : Source → CodeOf → (line : ℕ) → DeclNo → Seen → (Object : ℕ → ℕ → Type 0) → ℕ → ℕ → Type 0
ValueOfAt s code line d (seen.Call block) Object p q = RemoteProcedureAt s code line block Object p q
ValueOfAt s code line d seen.Virtual Object p q = MatchAt code line d.0 Object p q
ValueOfAt s code line d _ Object p q = ⊥

unfoldable pub WritesValueOf : Bound → Spot → (n : ℕ) → (old new : DraftOf) → TokenNo → DeclNo → Seen → Type 0
WritesValueOf b w n old new token d k =
    let s = source_of b in
    (start : DraftOf) (x : Base) → PutsBase s w n start old x
    → Emits w start new (ValueOfBuilt k (BaseBuilt s w.text x)) (λ final site p q. ValueOfAt s final (line_at s token.0) d k (λ u v. BaseAt s final site n x u v) p q)

unfoldable pub WritesProcedureOf : Bound → Spot → (n : ℕ) → (old new : DraftOf) → TokenNo → Type 0
WritesProcedureOf b w n old new token =
    let s = source_of b in
    (start : DraftOf) (x : Base) → PutsBase s w n start old x
    → Emits w start new (ProcedureBehindBuilt s (denoted s token.0) (BaseBuilt s w.text x)) (λ final site p q. ProcedureBehindAt s final (line_at s token.0) (denoted s token.0) (λ u v. BaseAt s final site n x u v) p q)

-- the same behind what stands before its dot
unfoldable pub WritesProcedureDot : Bound → Spot → (n : ℕ) → (old new : DraftOf) → Object → Identifier → Type 0
WritesProcedureDot b w n old new o x =
    let s = source_of b in
    (start : DraftOf) (e : Expression) → PutsBefore s w n start old (moves_denoted (denoted s x.token.0)) o e
    → Emits w start new (ProcedureBehindBuilt s (denoted s x.token.0) (IsBuilt s w.text e)) (λ final site p q. ProcedureBehindAt s final (line_at s x.token.0) (denoted s x.token.0) (λ u v. ExprAt s final site n e u v) p q)

-- a procedure without a dot: as it is seen; by what its identifier denotes; and also where it is seen through a connection
abbrev pub ValueSeenBuilt : Source → (text : ℕ) → DeclNo → Seen → Type 0
ValueSeenBuilt s text d (seen.Call block) = StandsIn s text (block_of s d)
ValueSeenBuilt s text d seen.Virtual = StandsIn s text (block_of s d)
ValueSeenBuilt s text d (seen.Procedure by_name) = CellBuilt s text d
ValueSeenBuilt s text d _ = ⊥

abbrev pub ValueSeenAt : Source → CodeOf → Site → (n line : ℕ) → DeclNo → Seen → ℕ → ℕ → Type 0
ValueSeenAt s code site n line d (seen.Call block) p q = DeclaredProcedureAt s code site n d block p q
ValueSeenAt s code site n line d seen.Virtual p q = MatchAt code line d.0 (ThisAt s code site n (block_of s d)) p q
ValueSeenAt s code site n line d (seen.Procedure by_name) p q = FormalProcedureAt s code site n line d by_name p q
ValueSeenAt s code site n line d _ p q = ⊥

unfoldable pub WritesValueSeen : Bound → Spot → (n : ℕ) → (old new : DraftOf) → TokenNo → DeclNo → Seen → Type 0
WritesValueSeen b w n old new token d k = Emits w old new (ValueSeenBuilt (source_of b) w.text d k) (λ final site p q. ValueSeenAt (source_of b) final site n (line_at (source_of b) token.0) d k p q)

unfoldable pub WritesProcedureNamed : Bound → Spot → (n : ℕ) → (old new : DraftOf) → TokenNo → Type 0
WritesProcedureNamed b w n old new token =
    let s = source_of b in
    Emits w old new (ProcedureNamedBuilt s w.text (denoted s token.0)) (λ final site p q. ProcedureNamedAt s final site n (line_at s token.0) (denoted s token.0) p q)

unfoldable pub WritesProcedureSeen : Bound → Spot → (n : ℕ) → (old new : DraftOf) → Identifier → Type 0
WritesProcedureSeen b w n old new x =
    Emits w old new (ProcedureBuilt (source_of b) w.text (Named x NoMore)) (λ final site p q. ProcedureAt (source_of b) final site n (Named x NoMore) p q)

-- the last thing that is taken of an operand
unfoldable pub WritesProcedureLast : Bound → Spot → (n : ℕ) → (old new : DraftOf) → Object → Selector → Type 0
WritesProcedureLast b w n old new o y =
    let s = source_of b in
    (start : DraftOf) (e : Expression) → PutsBefore s w n start old (moves_selection s (selector_syntax y)) o e
    → Emits w start new (ProcedureBuilt s w.text (selected e (selector_syntax y ∷ []))) (λ final site p q. ProcedureAt s final site n (selected e (selector_syntax y ∷ [])) p q)

-- any expression, and an operand of a level of operators, if no others stand beside it
unfoldable pub WritesProcedure : Bound → Spot → (n : ℕ) → (old new : DraftOf) → Expr → Type 0
WritesProcedure b w n old new e = Emits w old new (ProcedureBuilt (source_of b) w.text (syntax_of e)) (λ final site p q. ProcedureAt (source_of b) final site n (syntax_of e) p q)

unfoldable pub WritesProcedureAlone : Bound → Spot → (n : ℕ) → (old new : DraftOf) → (others : ℕ) → Expr → Type 0
WritesProcedureAlone b w n old new others e = (others ≡ 0 → WritesProcedure b w n old new e) × (others ≢ 0 → new ≡ given_up old)

-- ---- checked calls

-- what an actual parameter is
abbrev pub passed_by : ActualKind → Passed
passed_by (actual.Array ty) = PassedArray ty
passed_by (actual.Procedure result formals) = PassedProcedure result formals
passed_by (actual.Value ty variable) = PassedValue ty variable

-- what is declared, where it is this as a value
unfoldable pub EntryKind : Bound → DeclNo → Option Entry → (value : ActualKind) → ActualKind → Type 0
EntryKind b d k value r = k ≡ entry_of (source_of b).tables d → passed_by r ≡ entry_passed (source_of b) d k (passed_by value)

-- what an expression is as an actual parameter, where it is this as a value
abbrev pub passed_or : Source → Expression → (value : Passed) → Passed
passed_or s (Named name NoMore) value = denoted_passed s (denoted s name.token.0) value
passed_or s (Dot token a name NoMore) value = denoted_passed s (denoted s name.token.0) value
passed_or s e value = value

-- what the code knows of an actual parameter, of some, and a list of them, in each code that the draft may become
unfoldable pub ActualGiven : Bound → DraftOf → ActualKind → CodeActual → Type 0
ActualGiven b c k r = (final : CodeOf) → AsPlanned c final → r ≡ code_actual (source_of b) final (passed_by k)

unfoldable pub ActualOf : Bound → DraftOf → Expr → CodeActual → Type 0
ActualOf b c e r = (final : CodeOf) → AsPlanned c final → r ≡ code_actual (source_of b) final (passed (source_of b) (syntax_of e))

unfoldable pub ActualsOf : Bound → DraftOf → List Expr → List CodeActual → Type 0
ActualsOf b c es r = (final : CodeOf) → AsPlanned c final → r ≡ code_actuals (source_of b) final (expressions_of es)

-- in a loop: what there is of the actual parameters so far, and the rest
unfoldable pub OwesActualsOf : Bound → DraftOf → List Expr → (now : List CodeActual) → (rest : List Expr) → Type 0
OwesActualsOf b c es now rest = (final : CodeOf) → AsPlanned c final → code_actuals (source_of b) final (expressions_of es) ≡ now ++ code_actuals (source_of b) final (expressions_of rest)

-- the procedure on top is held against its actual parameters; the token is that of the identifier that is called
unfoldable pub WritesCheck : Bound → Spot → (old new : DraftOf) → TokenNo → List Expr → Type 0
WritesCheck b w old new token es = Emits w old new ⊤ (λ final site p q. CheckAt (source_of b) final (line_at (source_of b) token.0) (expressions_of es) p q)

-- a thunk, if it is wanted
unfoldable pub WritesThunkIf : Bound → Spot → (old new : DraftOf) → (wanted as_procedure : Bool) → Expr → (number : ℕ) → Type 0
WritesThunkIf b w old new wanted as_procedure e number =
    Emits w old new (IfBuilt wanted (GivenBuilt (source_of b) w.text as_procedure (syntax_of e)))
    (λ final site p q. ThunkIfAt wanted final site number (λ inner x y. ThunkGivesAt (source_of b) final inner as_procedure (syntax_of e) x y) p q)

-- an actual parameter with its number; and those of a list, from a number on
unfoldable pub WritesParameter : Bound → Spot → (n : ℕ) → (old new : DraftOf) → TokenNo → (number : ℕ) → Expr → Type 0
WritesParameter b w n old new token number e =
    let s = source_of b in
    Emits w old new (IfBuilt (is_value (passed s (syntax_of e))) (GivenBuilt s w.text false (syntax_of e)) × IfBuilt (is_procedure (passed s (syntax_of e))) (GivenBuilt s w.text true (syntax_of e)))
    (λ final site p q. ParameterAt final site n (line_at s token.0) number (passed s (syntax_of e)) (λ as_procedure inner x y. ThunkGivesAt s final inner as_procedure (syntax_of e) x y) p q)

unfoldable pub WritesParameters : Bound → Spot → (n number : ℕ) → (old new : DraftOf) → TokenNo → List Expr → Type 0
WritesParameters b w n number old new token es =
    let s = source_of b in
    Emits w old new (ParametersBuilt s w.text (expressions_of es)) (λ final site p q. ParametersAt s final site n (line_at s token.0) number (expressions_of es) p q)

unfoldable pub OwesParameters : Bound → Spot → (n : ℕ) → (old : DraftOf) → TokenNo → List Expr → (m number : ℕ) → (now : DraftOf) → List Expr → Type 0
OwesParameters b w n old token es m number now rest = (end : DraftOf) → WritesParameters b w m number now end token rest → WritesParameters b w n 0 old end token es

-- the rest of a checked call, behind its procedure, which stands on n values
unfoldable pub WritesValueCall : Bound → Spot → (n : ℕ) → (old new : DraftOf) → TokenNo → List Expr → Type 0
WritesValueCall b w n old new token ys =
    let s = source_of b in
    let es = expressions_of ys in
    Emits w old new (ActualsBuilt s w.text es Checked)
    (λ final site p q. (x : ℕ) × ActualsAt s final site (suc n) (line_at s token.0) false es Checked p x × At final (i.CallV (pos (operands es))) (line_at s token.0) x q)
