-- What is found of a left side.
use Rattle.std.specs.Prelude.{◌≡◌, ◌+◌, ℕ, zero, suc, pos, List, [], ◌∷◌, map, Option, Some, None}
use Rattle.sim_base.specs.declared.numbering.DeclNo.{DeclNo}
use Rattle.sim_base.specs.declared.numbering.TokenNo.{TokenNo}
use Rattle.sim_scope.specs.declared.bound.Bound.{Bound}
use Rattle.sim_scope.specs.declared.types.FormalKind.{FormalKind}
use Rattle.sim_scope.specs.declared.types.Mode.{Mode}
use Rattle.sim_scope.specs.declared.types.SimType.{SimType}
use Rattle.sim_scope.specs.Scopes.{entry_of}
use Rattle.sim_scope.specs.Source.{Source, denoted, level_of, line_at, source_of, type_at}
use Rattle.sim_tree.specs.declared.expr.Expr.{Expr}
use Rattle.sim_tree.specs.declared.stmt.Assignment.{Assignment}
use Rattle.sim_tree.specs.declared.expr.Identifier.{Identifier}
use Rattle.sim_tree.specs.declared.expr.Selector.{Selector}
use Rattle.sim_tree.specs.Syntax.{Expression, Expressions, Named, NoMore, expressions}
use Rattle.sim_tree.specs.SyntaxOf.{selected, selector_syntax, syntax_of}
use Rattle.sim_meaning.specs.Closing.{is_text, own_match, result_meant, type_of_left}
use Rattle.sim_meaning.specs.Pending.{Key, Result}
use Rattle.sim_meaning.specs.Virtuals.{text_of_procedure}
use Rattle.codegen_expr.specs.declared.spot.Spot.{Spot}
use Rattle.codegen_expr.specs.Built.{KeyBuilt, ReferenceBuilt, slot_in}
use Rattle.codegen_expr.specs.CodeExpr.{ReferencePlaceAt, ResultPlaceAt}
use Rattle.codegen_expr.specs.Drafts.{DraftOf, Emits, planned_start, with_instr, with_push}
use Rattle.sim_code.specs.declared.instr.Instr.TheVariants as i
use Rattle.codegen.specs.declared.left.Left.{Left}
use Rattle.codegen.specs.declared.left.Left.TheVariants as left
use Rattle.codegen.specs.BuiltProgram.{LeftBuilt}
use Rattle.codegen.specs.CodeLeft.{AtAddress, AtAttribute, InCell, Stored, ToNamed, ToNamedReference, ToNamedText, ToReference, ToResult, ToText, stored, stored_declared, stored_element, stored_formal, stored_left, stored_named, stored_named_by, stored_result, stored_text, stored_variable}

abbrev pub operands_in : List Expr → Expressions
operands_in es = expressions (map syntax_of es)

-- The value on top goes into a cell, by its place in the own part of the frames of its text.
unfoldable pub StoresCell : Bound → (old new : DraftOf) → (text place : ℕ) → Type 0
StoresCell b old new k place = new ≡ with_instr old (i.Store (pos (level_of (source_of b) k)) (pos (planned_start (source_of b) old.classes k + place))) 0

-- the value of a cell, on n others
unfoldable pub LoadsCell : Bound → (n : ℕ) → (old new : DraftOf) → (text place : ℕ) → Type 0
LoadsCell b n old new k place = new ≡ with_push old n (i.Load (pos (level_of (source_of b) k)) (pos (planned_start (source_of b) old.classes k + place))) 0

-- what a variable is found to be as a left side
abbrev pub IsVariable : Source → Spot → Left → Stored → Type 0
IsVariable s w (left.Cell home place) t = (key : Key) × (t ≡ InCell home key) × KeyBuilt s w.text home key × (slot_in s home key ≡ Some place)
IsVariable s w (left.Element token d es) t = t ≡ AtAddress d (operands_in es.now) (line_at s token.0)
IsVariable s w left.NoPlace t = LeftBuilt s w.text t → ⊥
IsVariable s w _ t = ⊥

-- what an expression is found to be as a variable
abbrev pub IsWhole : Source → Spot → Expression → Left → Stored → Type 0
IsWhole s w e left.Attribute t = t ≡ AtAttribute e
IsWhole s w e l t = IsVariable s w l t

-- what an expression is found to be; the line is that of its sign
abbrev pub IsLeft : Source → Spot → Expression → (line : ℕ) → Left → Stored → Type 0
IsLeft s w e line left.Text t = t ≡ ToText e line
IsLeft s w e line (left.Result home place) t = (t ≡ ToResult home line) × KeyBuilt s w.text home Result × (slot_in s home Result ≡ Some place)
IsLeft s w e line left.Attribute t = t ≡ AtAttribute e
IsLeft s w e line left.Reference t = t ≡ ToReference e line
IsLeft s w e line (left.Named d) t = t ≡ ToNamed d line
IsLeft s w e line (left.NamedText d) t = t ≡ ToNamedText d line
IsLeft s w e line (left.NamedReference d class) t = t ≡ ToNamedReference d class line
IsLeft s w e line l t = IsVariable s w l t

-- of an identifier with so many subscripts: it is its own result without any
abbrev pub own_if : (subscripts : ℕ) → Option ℕ → Option ℕ
own_if zero own = own
own_if (suc n) own = None

-- ---- variables

unfoldable pub FindsVariable : Bound → Spot → DeclNo → List Expr → Left → Type 0
FindsVariable b w d es r = IsVariable (source_of b) w r (stored_variable (source_of b) d (operands_in es))

unfoldable pub FindsElement : Bound → Spot → TokenNo → DeclNo → List Expr → Left → Type 0
FindsElement b w token d es r = IsVariable (source_of b) w r (stored_element d (operands_in es) (line_at (source_of b) token.0))

unfoldable pub FindsResult : Bound → Spot → (text : ℕ) → List Expr → Left → Type 0
FindsResult b w k es r = IsVariable (source_of b) w r (stored_result k (operands_in es))

-- of an expression that is an identifier with subscripts
unfoldable pub FindsFormal : Bound → Spot → TokenNo → DeclNo → Mode → FormalKind → List Expr → Left → Type 0
FindsFormal b w token d mode kind es r = (e : Expression) → IsWhole (source_of b) w e r (stored_formal (source_of b) e d (operands_in es) (line_at (source_of b) token.0) mode kind)

unfoldable pub FindsDeclared : Bound → Spot → TokenNo → DeclNo → List Expr → Left → Type 0
FindsDeclared b w token d es r = (e : Expression) → IsWhole (source_of b) w e r (stored_declared (source_of b) e d (operands_in es) (line_at (source_of b) token.0) (entry_of (source_of b).tables d))

-- an identifier, by its token and its subscripts
unfoldable pub FindsLeft : Bound → Spot → TokenNo → List Expr → Left → Type 0
FindsLeft b w token es r = (e : Expression) → IsWhole (source_of b) w e r (stored_named (source_of b) e (denoted (source_of b) token.0) (operands_in es) (line_at (source_of b) token.0))

-- the same also where it is seen through a connection
unfoldable pub FindsNamed : Bound → Spot → Identifier → List Expr → Left → Type 0
FindsNamed b w x es r = IsWhole (source_of b) w (Named x (operands_in es)) r (stored_left (source_of b) (Named x (operands_in es)))

-- what is taken last of an operand
unfoldable pub FindsTaken : Bound → Spot → Selector → Left → Type 0
FindsTaken b w y r = (e : Expression) → IsWhole (source_of b) w (selected e (selector_syntax y ∷ [])) r (stored_left (source_of b) (selected e (selector_syntax y ∷ [])))

unfoldable pub FindsWhole : Bound → Spot → Expr → Left → Type 0
FindsWhole b w x r = IsWhole (source_of b) w (syntax_of x) r (stored_left (source_of b) (syntax_of x))

-- ---- left sides

-- the text in the cell of a result
unfoldable pub FindsOwn : Bound → Spot → (text : ℕ) → Left → Type 0
FindsOwn b w k r = (e : Expression) (line : ℕ) → IsLeft (source_of b) w e line r (ToResult k line)

-- the procedure whose own result an identifier is, as a left side with so many subscripts
unfoldable pub FindsOwnNamed : Bound → Identifier → (subscripts : ℕ) → Option ℕ → Type 0
FindsOwnNamed b x n r = r ≡ own_if n (result_meant (source_of b) (Named x NoMore))

-- the match whose result an identifier with so many subscripts is, its text, and its type
abbrev pub own_match_if : (subscripts : ℕ) → Option DeclNo → Option DeclNo
own_match_if zero d = d
own_match_if (suc n) d = None

unfoldable pub FindsMatch : Bound → Identifier → (subscripts : ℕ) → Option DeclNo → Type 0
FindsMatch b x n r = r ≡ own_match_if n (own_match (source_of b) (Named x NoMore))

unfoldable pub FindsMatchText : Bound → Identifier → (subscripts : ℕ) → Option ℕ → Type 0
FindsMatchText b x n r = r ≡ text_of_procedure (source_of b) (own_match_if n (own_match (source_of b) (Named x NoMore)))

unfoldable pub FindsType : Bound → Identifier → (subscripts : ℕ) → Option SimType → Type 0
FindsType b x n r = r ≡ type_of_left (source_of b) (own_match_if n (own_match (source_of b) (Named x NoMore))) (type_at (source_of b) x.token.0)

-- the text that is assigned to
unfoldable pub FindsText : Bound → Spot → Expr → Left → Type 0
FindsText b w x r = (line : ℕ) → IsLeft (source_of b) w (syntax_of x) line r (stored_text (result_meant (source_of b) (syntax_of x)) (syntax_of x) line)

-- a formal parameter by name, by its sign
unfoldable pub FindsByName : Bound → Assignment → Expr → DeclNo → Left → Type 0
FindsByName b sign x d r = (w : Spot) (line : ℕ) → IsLeft (source_of b) w (syntax_of x) line r (stored_named_by (is_text (source_of b) (syntax_of x)) sign (source_of b) d line)

-- a left side, by its sign
unfoldable pub FindsSide : Bound → Spot → Assignment → Expr → Left → Type 0
FindsSide b w sign x r = (line : ℕ) → IsLeft (source_of b) w (syntax_of x) line r (stored (source_of b) sign line (syntax_of x))

-- ---- where references lie

-- the result of a procedure around, with a class
unfoldable pub WritesResultPlace : Bound → Spot → (n : ℕ) → (old new : DraftOf) → (class text : ℕ) → Type 0
WritesResultPlace b w n old new class k =
    Emits w old new (KeyBuilt (source_of b) w.text k Result) (λ final site p q. ResultPlaceAt (source_of b) final site n class k p q)

-- a left side that is a reference
unfoldable pub WritesReferencePlace : Bound → Spot → (n : ℕ) → (old new : DraftOf) → Expr → Type 0
WritesReferencePlace b w n old new x =
    Emits w old new (ReferenceBuilt (source_of b) w.text (syntax_of x)) (λ final site p q. ReferencePlaceAt (source_of b) final site n (syntax_of x) p q)

unfoldable pub WritesNamedReference : Bound → Spot → (n : ℕ) → (old new : DraftOf) → Identifier → Type 0
WritesNamedReference b w n old new x =
    Emits w old new (ReferenceBuilt (source_of b) w.text (Named x NoMore)) (λ final site p q. ReferencePlaceAt (source_of b) final site n (Named x NoMore) p q)
