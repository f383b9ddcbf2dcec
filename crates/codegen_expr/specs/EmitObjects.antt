-- What is written of objects, of what they have, and of the classes that are named.
use Rattle.std.specs.Prelude.{◌≡◌, ⊤, ℕ, suc, pos, true, false, List, map, Option, Some}
use Rattle.sim_base.specs.declared.numbering.DeclNo.{DeclNo}
use Rattle.sim_base.specs.declared.numbering.TokenNo.{TokenNo}
use Rattle.sim_scope.specs.declared.bound.Bound.{Bound}
use Rattle.sim_scope.specs.Scopes.{entry_of}
use Rattle.sim_scope.specs.Source.{Source, block_of, denoted, found_at, line_at, source_of}
use Rattle.sim_tree.specs.declared.expr.Expr.{Expr}
use Rattle.sim_tree.specs.declared.expr.Identifier.{Identifier}
use Rattle.sim_tree.specs.declared.expr.Membership.{Membership}
use Rattle.sim_tree.specs.Syntax.{Expression, Expressions, NoMore, expressions}
use Rattle.sim_tree.specs.SyntaxOf.{syntax_of}
use Rattle.sim_code.specs.declared.instr.Instr.TheVariants as i
use Rattle.sim_code.specs.Code.{CodeOf}
use Rattle.sim_meaning.specs.Closing.{class_parameters}
use Rattle.sim_meaning.specs.Levels.{class_at, is_process_itself}
use Rattle.sim_meaning.specs.Pending.{Declared, Origin}
use Rattle.codegen_expr.specs.declared.operators.Seen.{Seen}
use Rattle.codegen_expr.specs.declared.operators.Seen.TheVariants as seen
use Rattle.codegen_expr.specs.declared.spot.Spot.{Spot}
use Rattle.codegen_expr.specs.Built.{ActualsBuilt, AreBuilt, ArrayOfBuilt, ArrayPlaceOfBuilt, ClassBuilt, ConnectedBuilt, ConstantOfBuilt, GenerationBuilt, HasBuilt, IsBuilt, OfObjectBuilt, PlaceBehindBuilt, PlaceOfObjectBuilt, StandsIn, ThisFoundBuilt, VariableOfBuilt}
use Rattle.codegen_expr.specs.CodeExpr.{Checked, Listed, MatchAt, Parameters, ValueCallAt, parameters_at, ActualsAt, ArrayOfAt, ArrayPlaceOfAt, AttributePlaceAt, ConnectedAt, ConstantAttributeAt, ElementOfAt, ExprAt, ExprsAt, GenerationAt, HeldAt, MemberAt, NewAt, OfObjectAt, PlaceBehindAt, PlaceOfObjectAt, QuaAt, RemoteCallAt, ThisAt, ThisFoundAt, VariableOfAt, VariablePlaceOfAt}
use Rattle.codegen_expr.specs.Drafts.{DraftOf, Emits}
use Rattle.codegen_expr.specs.Emit.{Puts, formals_of_block}
use Rattle.codegen_expr.specs.Sites.{At, HasCell, Is, Pushes, Site, class_number, slot_of}

-- ---- objects

-- an object: the value of an expression, that of a connection, or what `this` means there
pub data Base : Type 0 where
  OfValue : Expression → Base
  OfConnection : (connection : ℕ) → Base
  OfThis : (found : Option ℕ) → Base

abbrev pub BaseBuilt : Source → (text : ℕ) → Base → Type 0
BaseBuilt s text (OfValue e) = IsBuilt s text e
BaseBuilt s text (OfConnection k) = ConnectedBuilt s text k
BaseBuilt s text (OfThis found) = ThisFoundBuilt s text found

abbrev pub BaseAt : Source → CodeOf → Site → ℕ → Base → ℕ → ℕ → Type 0
BaseAt s code site n (OfValue e) p q = ExprAt s code site n e p q
BaseAt s code site n (OfConnection k) p q = ConnectedAt s code site n k p q
BaseAt s code site n (OfThis found) p q = ThisFoundAt s code site n found p q

unfoldable pub PutsBase : Source → Spot → (n : ℕ) → (old new : DraftOf) → Base → Type 0
PutsBase s w n old new x = Emits w old new (BaseBuilt s w.text x) (λ final site p q. BaseAt s final site n x p q)

-- the object of a text around
unfoldable pub WritesObjectOf : Bound → Spot → (n : ℕ) → (old new : DraftOf) → (text : ℕ) → Type 0
WritesObjectOf b w n old new k = Emits w old new (StandsIn (source_of b) w.text k) (λ final site p q. ThisAt (source_of b) final site n k p q)

-- `this`; the token is that of the word
unfoldable pub WritesThis : Bound → Spot → (n : ℕ) → (old new : DraftOf) → TokenNo → Type 0
WritesThis b w n old new token =
    let s = source_of b in
    Emits w old new (ThisFoundBuilt s w.text (found_at s token.0)) (λ final site p q. ThisFoundAt s final site n (found_at s token.0) p q)

-- ---- attributes

-- where an attribute of the object on top lies, with the class of a reference there; the token is that of its identifier
unfoldable pub WritesAttribute : Bound → Spot → (n : ℕ) → (old new : DraftOf) → (class : ℕ) → TokenNo → DeclNo → Type 0
WritesAttribute b w n old new class token d =
    let s = source_of b in
    (start : DraftOf) (x : Base) → PutsBase s w n start old x
    → Emits w start new (BaseBuilt s w.text x × HasBuilt s (block_of s d) (Declared d.0)) (λ final site p q. AttributePlaceAt s final (line_at s token.0) class d (λ u v. BaseAt s final site n x u v) p q)

-- the value of a constant that the object on top has, which must be there
unfoldable pub WritesConstantOf : Bound → Spot → (n : ℕ) → (old new : DraftOf) → TokenNo → DeclNo → Type 0
WritesConstantOf b w n old new token d =
    let s = source_of b in
    (start : DraftOf) (x : Base) → PutsBase s w n start old x
    → Emits w start new (ConstantOfBuilt s d NoMore (BaseBuilt s w.text x)) (λ final site p q. ConstantAttributeAt s final site n (line_at s token.0) d NoMore (λ u v. BaseAt s final site n x u v) p q)

-- the address of an element of an array that the object on top has
unfoldable pub WritesElementOf : Bound → Spot → (n : ℕ) → (old new : DraftOf) → (class : ℕ) → TokenNo → DeclNo → List Expr → Type 0
WritesElementOf b w n old new class token d ys =
    let s = source_of b in
    let es = expressions (map syntax_of ys) in
    (start : DraftOf) (x : Base) → PutsBase s w n start old x
    → Emits w start new (ArrayOfBuilt s d (BaseBuilt s w.text x) (AreBuilt s w.text es))
    (λ final site p q. ElementOfAt s final (line_at s token.0) class d es (λ u v. BaseAt s final site n x u v) (λ u v. ExprsAt s final site (suc n) es u v) p q)

-- what an object has, as it is seen
abbrev pub SeenOfBuilt : Source → DeclNo → Seen → Expressions → (Object Operands : Type 0) → (Actuals : Parameters → Type 0) → Type 0
SeenOfBuilt s d seen.Variable es Object Operands Actuals = VariableOfBuilt s d es Object
SeenOfBuilt s d seen.Constant es Object Operands Actuals = ConstantOfBuilt s d es Object
SeenOfBuilt s d seen.Array es Object Operands Actuals = ArrayOfBuilt s d Object Operands
SeenOfBuilt s d (seen.Call block) es Object Operands Actuals = Object × Actuals (Listed (formals_of_block s block))
SeenOfBuilt s d seen.Virtual es Object Operands Actuals = Object × Actuals Checked
SeenOfBuilt s d _ es Object Operands Actuals = ⊥

abbrev pub SeenOfAt : Source → CodeOf → Site → ℕ → (line : ℕ) → DeclNo → Seen → Expressions → (Object Inner : ℕ → ℕ → Type 0) → (Actuals : Parameters → ℕ → ℕ → Type 0) → ℕ → ℕ → Type 0
SeenOfAt s code site n line d seen.Variable es Object Inner Actuals p q = VariableOfAt s code line d es Object p q
SeenOfAt s code site n line d seen.Constant es Object Inner Actuals p q = ConstantAttributeAt s code site n line d es Object p q
SeenOfAt s code site n line d seen.Array es Object Inner Actuals p q = ArrayOfAt s code line d es Object Inner p q
SeenOfAt s code site n line d (seen.Call block) es Object Inner Actuals p q = RemoteCallAt s code line block es Object (Actuals (Listed (formals_of_block s block))) p q
SeenOfAt s code site n line d seen.Virtual es Object Inner Actuals p q = ValueCallAt code line es (MatchAt code line d.0 Object) (Actuals Checked) p q
SeenOfAt s code site n line d _ es Object Inner Actuals p q = ⊥

unfoldable pub WritesSeenOf : Bound → Spot → (n : ℕ) → (old new : DraftOf) → TokenNo → DeclNo → Seen → List Expr → Type 0
WritesSeenOf b w n old new token d k ys =
    let s = source_of b in
    let es = expressions (map syntax_of ys) in
    (start : DraftOf) (x : Base) → PutsBase s w n start old x
    → Emits w start new (SeenOfBuilt s d k es (BaseBuilt s w.text x) (AreBuilt s w.text es) (λ formals. ActualsBuilt s w.text es formals))
    (λ final site p q. SeenOfAt s final site n (line_at s token.0) d k es (λ u v. BaseAt s final site n x u v) (λ u v. ExprsAt s final site (suc n) es u v) (λ formals u v. ActualsAt s final site (suc n) (line_at s token.0) false es formals u v) p q)

unfoldable pub WritesOf : Bound → Spot → (n : ℕ) → (old new : DraftOf) → TokenNo → DeclNo → List Expr → Type 0
WritesOf b w n old new token d ys =
    let s = source_of b in
    let es = expressions (map syntax_of ys) in
    (start : DraftOf) (x : Base) → PutsBase s w n start old x
    → Emits w start new (OfObjectBuilt s d (entry_of s.tables d) es (BaseBuilt s w.text x) (AreBuilt s w.text es) (ActualsBuilt s w.text es (parameters_at s d)))
    (λ final site p q. OfObjectAt s final site n (line_at s token.0) d (entry_of s.tables d) es (λ u v. BaseAt s final site n x u v) (λ u v. ExprsAt s final site (suc n) es u v) (λ u v. ActualsAt s final site (suc n) (line_at s token.0) false es (parameters_at s d) u v) p q)

-- ---- where variables of objects lie

abbrev pub SeenPlaceOfBuilt : Source → DeclNo → Seen → Expressions → (Object Subscripts : Type 0) → Type 0
SeenPlaceOfBuilt s d seen.Variable es Object Subscripts = VariableOfBuilt s d es Object
SeenPlaceOfBuilt s d seen.Array es Object Subscripts = ArrayPlaceOfBuilt s d es Object Subscripts
SeenPlaceOfBuilt s d _ es Object Subscripts = ⊥

abbrev pub SeenPlaceOfAt : Source → CodeOf → (line class : ℕ) → DeclNo → Seen → Expressions → (Object Subscripts : ℕ → ℕ → Type 0) → ℕ → ℕ → Type 0
SeenPlaceOfAt s code line class d seen.Variable es Object Subscripts p q = VariablePlaceOfAt s code line class d es Object p q
SeenPlaceOfAt s code line class d seen.Array es Object Subscripts p q = ArrayPlaceOfAt s code line class d es Object Subscripts p q
SeenPlaceOfAt s code line class d _ es Object Subscripts p q = ⊥

unfoldable pub WritesSeenPlaceOf : Bound → Spot → (n : ℕ) → (old new : DraftOf) → (class : ℕ) → TokenNo → DeclNo → Seen → List Expr → Type 0
WritesSeenPlaceOf b w n old new class token d k ys =
    let s = source_of b in
    let es = expressions (map syntax_of ys) in
    (start : DraftOf) (x : Base) → PutsBase s w n start old x
    → Emits w start new (SeenPlaceOfBuilt s d k es (BaseBuilt s w.text x) (AreBuilt s w.text es))
    (λ final site p q. SeenPlaceOfAt s final (line_at s token.0) class d k es (λ u v. BaseAt s final site n x u v) (λ u v. ExprsAt s final site (suc n) es u v) p q)

unfoldable pub WritesPlaceOf : Bound → Spot → (n : ℕ) → (old new : DraftOf) → (class : ℕ) → TokenNo → DeclNo → List Expr → Type 0
WritesPlaceOf b w n old new class token d ys =
    let s = source_of b in
    let es = expressions (map syntax_of ys) in
    (start : DraftOf) (x : Base) → PutsBase s w n start old x
    → Emits w start new (PlaceOfObjectBuilt s d (entry_of s.tables d) es (BaseBuilt s w.text x) (AreBuilt s w.text es))
    (λ final site p q. PlaceOfObjectAt s final (line_at s token.0) class d (entry_of s.tables d) es (λ u v. BaseAt s final site n x u v) (λ u v. ExprsAt s final site (suc n) es u v) p q)

-- of what an identifier denotes, whose token this is
unfoldable pub WritesPlaceBehind : Bound → Spot → (n : ℕ) → (old new : DraftOf) → (class : ℕ) → TokenNo → List Expr → Type 0
WritesPlaceBehind b w n old new class token ys =
    let s = source_of b in
    let es = expressions (map syntax_of ys) in
    (start : DraftOf) (x : Base) → PutsBase s w n start old x
    → Emits w start new (PlaceBehindBuilt s (denoted s token.0) es (BaseBuilt s w.text x) (AreBuilt s w.text es))
    (λ final site p q. PlaceBehindAt s final (line_at s token.0) class (denoted s token.0) es (λ u v. BaseAt s final site n x u v) (λ u v. ExprsAt s final site (suc n) es u v) p q)

-- ---- classes that are named

-- `is` or `in` behind its operand; the token is that of the class
unfoldable pub WritesMember : Bound → Spot → (n : ℕ) → (old new : DraftOf) → Membership → TokenNo → Type 0
WritesMember b w n old new member token =
    let s = source_of b in
    (start : DraftOf) (e : Expression) → Puts s w n start old e
    → Emits w start new (ClassBuilt (class_at s token.0) × IsBuilt s w.text e) (λ final site p q. MemberAt s final member (class_at s token.0) (λ u v. ExprAt s final site n e u v) p q)

-- `qua` behind its operand; the tokens are those of the word and of the class
unfoldable pub WritesQua : Bound → Spot → (n : ℕ) → (old new : DraftOf) → (token class : TokenNo) → Type 0
WritesQua b w n old new token class =
    let s = source_of b in
    (start : DraftOf) (e : Expression) → Puts s w n start old e
    → Emits w start new (ClassBuilt (class_at s class.0) × IsBuilt s w.text e) (λ final site p q. QuaAt s final (line_at s token.0) (class_at s class.0) (λ u v. ExprAt s final site n e u v) p q)

-- a reference on top is held against a class, by way of a temp
unfoldable pub WritesFit : Bound → Spot → (n : ℕ) → (old new : DraftOf) → TokenNo → (class : ℕ) → Type 0
WritesFit b w n old new token k =
    let s = source_of b in
    Emits w old new ⊤ (λ final site p q. HeldAt s final site n (line_at s token.0) (class_number s final k) p q)

-- `new` of the class with this text, which is declared so; the token is that of the word
unfoldable pub WritesGeneration : Bound → Spot → (n : ℕ) → (old new : DraftOf) → TokenNo → Identifier → DeclNo → (class : ℕ) → List Expr → Type 0
WritesGeneration b w n old new token x d k ys =
    let s = source_of b in
    let es = expressions (map syntax_of ys) in
    Emits w old new (StandsIn s w.text (block_of s d) × ActualsBuilt s w.text es (Listed (class_parameters s (Some k))))
    (λ final site p q. NewAt s final site n (line_at s token.0) d k es (λ u v. ActualsAt s final site (suc n) (line_at s x.token.0) true es (Listed (class_parameters s (Some k))) u v) p q)

-- what is written behind the new object of `process` itself, whose text this is; the token is that of the class
unfoldable pub WritesOrigin : Bound → Spot → (n : ℕ) → (old new : DraftOf) → (token class : TokenNo) → (text : ℕ) → Type 0
WritesOrigin b w n old new token class k =
    let s = source_of b in
    is_process_itself s k ≡ true
    → Emits w old new ⊤
    (λ final site p q. (HasCell s k Origin) × (y : ℕ) × (z : ℕ) × (v : ℕ) × Pushes final site (suc n) i.Dup p y × At final (i.AddrR (pos (slot_of s final k Origin)) (pos 0)) (line_at s token.0) y z × Pushes final site (suc (suc n)) (i.Int (pos class.0)) z v × Is final i.Put v q)

unfoldable pub WritesNew : Bound → Spot → (n : ℕ) → (old new : DraftOf) → TokenNo → Identifier → List Expr → Type 0
WritesNew b w n old new token x ys =
    let s = source_of b in
    let es = expressions (map syntax_of ys) in
    Emits w old new (GenerationBuilt s w.text (denoted s x.token.0) (class_at s x.token.0) (ActualsBuilt s w.text es (Listed (class_parameters s (class_at s x.token.0)))))
    (λ final site p q. GenerationAt s final site n (line_at s token.0) x.token.0 (denoted s x.token.0) (class_at s x.token.0) es (λ u v. ActualsAt s final site (suc n) (line_at s x.token.0) true es (Listed (class_parameters s (class_at s x.token.0))) u v) p q)
