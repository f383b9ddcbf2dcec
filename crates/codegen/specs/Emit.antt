-- What is written of a statement.
use Rattle.std.specs.Prelude.{◌≤◌, ℕ, pos, true, List, [], ◌∷◌, length, map, Option, Some}
use Rattle.sim_base.specs.declared.numbering.TokenNo.{TokenNo}
use Rattle.sim_scope.specs.declared.bound.Bound.{Bound}
use Rattle.sim_scope.specs.Assignments.{last_value, left_sides}
use Rattle.sim_scope.specs.Source.{Source, block_around, denoted, line_at, source_of}
use Rattle.sim_tree.specs.declared.expr.Expr.{Expr}
use Rattle.sim_tree.specs.declared.expr.Identifier.{Identifier}
use Rattle.sim_tree.specs.declared.expr.Selector.{Selector}
use Rattle.sim_tree.specs.declared.stmt.Assigned.{Assigned}
use Rattle.sim_tree.specs.declared.stmt.Block.{Block}
use Rattle.sim_tree.specs.declared.stmt.Stmt.{Stmt}
use Rattle.sim_tree.specs.Syntax.{Dot, Element, Expression, Named, NoMore, expressions, statements}
use Rattle.sim_tree.specs.SyntaxOf.{selected, selector_syntax, syntax_of}
use Rattle.sim_tree.specs.SyntaxOfProgram.{block_syntax, right_side_syntax, statement_syntax}
use Rattle.sim_code.specs.declared.instr.Instr.TheVariants as i
use Rattle.sim_code.specs.Code.{CodeOf}
use Rattle.sim_meaning.specs.Closing.{class_parameters}
use Rattle.sim_meaning.specs.Statements.{leaves}
use Rattle.codegen_expr.specs.declared.spot.Spot.{Spot}
use Rattle.codegen_expr.specs.Built.{ActualsBuilt, IsBuilt}
use Rattle.codegen_expr.specs.CodeExpr.{ActualsAt, Listed, operands}
use Rattle.codegen_expr.specs.Drafts.{DraftOf, Emits}
use Rattle.codegen_expr.specs.declared.operators.Object.{Object}
use Rattle.codegen_expr.specs.Emit.{PutsBefore, moves_denoted}
use Rattle.codegen_expr.specs.Sites.{At, Site, block_number}
use Rattle.codegen.specs.BuiltProgram.{AssignBuilt, BlockBuilt, CalledBuilt, ForBuilt, LeftBuilt, PrefixBuilt, StatementBuilt, StatementsBuilt, VariableBuilt}
use Rattle.codegen.specs.CodeFor.{ForAt, GivesVariable, ListAt, OneElementAt, Variable, is_empty, variable_stored}
use Rattle.codegen.specs.CodeLeft.{AssignAt, GoesAt, LeftsAt, Stored, each_stored, stored_left}
use Rattle.codegen.specs.declared.lists.Shared.{Shared}
use Rattle.codegen.specs.EmitShared.{TurnBuilt, TurnOf, begins}
use Rattle.codegen.specs.EmitTargets.{Controls, ElementOver, ListOver}
use Rattle.codegen.specs.EmitSeveral.{SideOf, stored_side}
use Rattle.codegen.specs.declared.targets.Target.{Target}
use Rattle.codegen.specs.CodeStm.{BlockAt, CalledAt, DropsAt, PrefixedAt, StmAt, StmsAt}

-- ---- statements

unfoldable pub WritesStatement : Bound → Spot → (old new : DraftOf) → Stmt → Type 0
WritesStatement b w old new x = Emits w old new (StatementBuilt (source_of b) w.text (statement_syntax x)) (λ final site p q. StmAt (source_of b) final site 0 (statement_syntax x) p q)

unfoldable pub WritesStatements : Bound → Spot → (old new : DraftOf) → List Stmt → Type 0
WritesStatements b w old new xs =
    Emits w old new (StatementsBuilt (source_of b) w.text (statements (map statement_syntax xs))) (λ final site p q. StmsAt (source_of b) final site 0 (statements (map statement_syntax xs)) p q)

-- in a loop: what is written of the rest is written of the whole
unfoldable pub OwesStatements : Bound → Spot → (old : DraftOf) → List Stmt → (now : DraftOf) → List Stmt → Type 0
OwesStatements b w old xs now rest = (end : DraftOf) → WritesStatements b w now end rest → WritesStatements b w old end xs

-- a compound statement behind its tick, or the entry of a sub-block
unfoldable pub WritesBlock : Bound → Spot → (old new : DraftOf) → Block → Type 0
WritesBlock b w old new k = Emits w old new (BlockBuilt (source_of b) w.text (block_syntax k)) (λ final site p q. BlockAt (source_of b) final site 0 (block_syntax k) p q)

-- a prefixed block behind its tick; the token is the one with which it begins
unfoldable pub WritesPrefixed : Bound → Spot → (old new : DraftOf) → Identifier → List Expr → TokenNo → Type 0
WritesPrefixed b w old new x ys token =
    let s = source_of b in
    let es = expressions (map syntax_of ys) in
    Emits w old new (PrefixBuilt s w.text es (block_around s token.0)) (λ final site p q. PrefixedAt s final site 0 (line_at s x.token.0) es (block_around s token.0) p q)

-- the actuals of a prefixed block, and its entry
unfoldable pub WritesPrefix : Bound → Spot → (old new : DraftOf) → Identifier → List Expr → (text : ℕ) → Type 0
WritesPrefix b w old new x ys k =
    let s = source_of b in
    let es = expressions (map syntax_of ys) in
    Emits w old new (ActualsBuilt s w.text es (Listed (class_parameters s (Some k))))
    (λ final site p q. (y : ℕ) × ActualsAt s final site 0 (line_at s x.token.0) true es (Listed (class_parameters s (Some k))) p y × At final (i.Pref (pos (block_number s k)) (pos (operands es))) (line_at s x.token.0) y q)

-- a call behind its tick
unfoldable pub WritesCall : Bound → Spot → (old new : DraftOf) → Expr → Type 0
WritesCall b w old new x =
    Emits w old new (CalledBuilt (source_of b) w.text (syntax_of x)) (λ final site p q. (y : ℕ) × CalledAt (source_of b) final site 0 (syntax_of x) p y × DropsAt final (leaves (source_of b) (syntax_of x)) y q)

-- the same of an identifier
unfoldable pub WritesCalled : Bound → Spot → (old new : DraftOf) → Identifier → List Expr → Type 0
WritesCalled b w old new x es =
    let e = Named x (expressions (map syntax_of es)) in
    Emits w old new (CalledBuilt (source_of b) w.text e) (λ final site p q. (y : ℕ) × CalledAt (source_of b) final site 0 e p y × DropsAt final (leaves (source_of b) e) y q)

-- the same of what is taken of an operand
unfoldable pub WritesTakenCall : Bound → Spot → (old new : DraftOf) → Expr → List Selector → Type 0
WritesTakenCall b w old new x ys =
    let e = selected (syntax_of x) (map selector_syntax ys) in
    Emits w old new (CalledBuilt (source_of b) w.text e) (λ final site p q. (y : ℕ) × CalledAt (source_of b) final site 0 e p y × DropsAt final (leaves (source_of b) e) y q)

-- the same of an attribute behind its object
unfoldable pub WritesCalledBehind : Bound → Spot → (old new : DraftOf) → Object → Identifier → List Expr → Type 0
WritesCalledBehind b w old new o x es =
    let s = source_of b in
    (start : DraftOf) (a : Expression) (token : ℕ) → PutsBefore s w 0 start old (moves_denoted (denoted s x.token.0)) o a
    → Emits w start new (CalledBuilt s w.text (Dot token a x (expressions (map syntax_of es))))
    (λ final site p q. (y : ℕ) × CalledAt s final site 0 (Dot token a x (expressions (map syntax_of es))) p y × DropsAt final (leaves s (Dot token a x (expressions (map syntax_of es)))) y q)

-- an assignment behind its tick
unfoldable pub WritesAssignment : Bound → Spot → (old new : DraftOf) → Expr → List Assigned → Type 0
WritesAssignment b w old new x rest =
    let s = source_of b in
    let rs = map right_side_syntax rest in
    let ts = each_stored s (left_sides (syntax_of x) rs) in
    Emits w old new (AssignBuilt s w.text ts (last_value (syntax_of x) rs)) (λ final site p q. AssignAt s final site 0 ts (last_value (syntax_of x) rs) p q)

-- one left side, and the value
abbrev pub OneGoesAt : Source → CodeOf → Site → Stored → Expression → ℕ → ℕ → Type 0
OneGoesAt s final site t e p q = LeftsAt s final site 0 (t ∷ []) (GoesAt s final site e (t ∷ [])) p q

unfoldable pub WritesOne : Bound → Spot → (old new : DraftOf) → SideOf → (value : Expr) → Type 0
WritesOne b w old new x y =
    let t = stored_side (source_of b) x in
    Emits w old new (LeftBuilt (source_of b) w.text t × IsBuilt (source_of b) w.text (syntax_of y)) (λ final site p q. OneGoesAt (source_of b) final site t (syntax_of y) p q)

-- ---- `for`

-- over a variable that is no reference; the line is that of the sign, where a text is assigned to that of the variable
unfoldable pub WritesFor : Bound → Spot → (old new : DraftOf) → Identifier → (assigned : Option ℕ) → List Element → Stmt → Type 0
WritesFor b w old new x assigned es a =
    let s = source_of b in
    let v = variable_stored (stored_left s (Named x NoMore)) assigned in
    Emits w old new (ForBuilt s w.text v es (StatementBuilt s w.text (statement_syntax a)))
    (λ final site p q. ForAt s final site 0 v (is_empty (statement_syntax a)) es (λ site. StmAt s final site 0 (statement_syntax a)) p q)

-- a list over a variable
unfoldable pub WritesList : Bound → Spot → (old new : DraftOf) → (target : Target) → List Element → Stmt → Type 0
WritesList b w old new target es a =
    (v : Variable) → Controls (source_of b) w.text target v
    → Emits w old new (ListOver (source_of b) w.text v es (StatementBuilt (source_of b) w.text (statement_syntax a)))
    (λ final site p q. ListAt (source_of b) final site 0 v (is_empty (statement_syntax a)) es (λ site. StmAt (source_of b) final site 0 (statement_syntax a)) p q)

-- an element with its turns, which go on at this place
unfoldable pub WritesElementOf : Bound → Spot → (old new : DraftOf) → (target : Target) → Element → Stmt → Option Shared → (on : ℕ) → Type 0
WritesElementOf b w old new target x a k on =
    (v : Variable) → Controls (source_of b) w.text target v → begins k ≤ length old.instrs
    → (length old.instrs ≤ on) × (on ≤ length new.instrs)
    × Emits w old new (ElementOver (source_of b) w.text v x × TurnBuilt (source_of b) w.text (statement_syntax a) k)
    (λ final site p q. OneElementAt (source_of b) final site 0 v x (TurnOf (source_of b) final site w.used (statement_syntax a) k on) p q)

-- a value goes to the variable
unfoldable pub WritesGiven : Bound → Spot → (old new : DraftOf) → (target : Target) → (value : Expr) → Type 0
WritesGiven b w old new target y =
    (v : Variable) → Controls (source_of b) w.text target v
    → Emits w old new (VariableBuilt (source_of b) w.text v × IsBuilt (source_of b) w.text (syntax_of y)) (λ final site p q. GivesVariable (source_of b) final site 0 v (syntax_of y) p q)
