-- What is written of the texts of a program.
use Rattle.std.specs.Prelude.{◌≡◌, ◌≢◌, ◌<◌, ◌≤◌, ◌+◌, ◌&&◌, ℕ, pos, suc, nat_le, nat_lt, Bool, true, false, List, [], ◌∷◌, ◌++◌, drop, length, map, slice_get, slice_set, Option, Some, None}
use Rattle.sim_base.specs.declared.numbering.DeclNo.{DeclNo}
use Rattle.sim_base.specs.declared.numbering.TokenNo.{TokenNo}
use Rattle.sim_scope.specs.declared.bound.Bound.{Bound}
use Rattle.sim_scope.specs.declared.types.Entry.{Entry}
use Rattle.sim_scope.specs.declared.types.Formal.{Formal}
use Rattle.sim_scope.specs.declared.types.FormalKind.{FormalKind}
use Rattle.sim_scope.specs.declared.types.FormalKind.TheVariants as shape
use Rattle.sim_scope.specs.declared.types.Mode.{Mode}
use Rattle.sim_scope.specs.declared.types.Mode.TheVariants as mode
use Rattle.sim_scope.specs.declared.types.SimType.{SimType}
use Rattle.sim_scope.specs.declared.types.StandardClass.{StandardClass}
use Rattle.sim_scope.specs.declared.types.StandardClass.TheVariants as standard
use Rattle.sim_scope.specs.Tables.{BlockOf as TableBlock}
use Rattle.sim_scope.specs.Source.{Source, block_around, level_of, source_of}
use Rattle.sim_tree.specs.declared.expr.Identifier.{Identifier}
use Rattle.sim_tree.specs.declared.program.BlockPrefix.{BlockPrefix}
use Rattle.sim_tree.specs.declared.stmt.Block.{Block as BlockTree}
use Rattle.sim_tree.specs.declared.stmt.Decl.{Decl}
use Rattle.sim_tree.specs.declared.stmt.Stmt.{Stmt}
use Rattle.sim_tree.specs.declared.stmt.TypeName.{TypeName}
use Rattle.sim_tree.specs.Syntax.{Declarations, Expressions, Heading, NoDeclaration, NoStatement, Statements, declarations, statements}
use Rattle.sim_tree.specs.SyntaxOfProgram.{block_syntax, declaration_syntax, prefix_syntax, statement_syntax}
use Rattle.sim_code.specs.declared.code.BlockKind.{BlockKind}
use Rattle.sim_code.specs.declared.code.BlockKind.TheVariants as kind
use Rattle.sim_code.specs.declared.code.CodeFormal.{CodeFormal}
use Rattle.sim_code.specs.declared.code.CodeType.{CodeType}
use Rattle.sim_code.specs.declared.code.Match.{Match}
use Rattle.sim_code.specs.declared.code.CodeType.TheVariants as type
use Rattle.sim_code.specs.declared.instr.Instr.TheVariants as i
use Rattle.sim_code.specs.declared.instr.Lined.{Lined}
use Rattle.sim_code.specs.Code.{BlockOf, ClassOf, CodeOf}
use Rattle.sim_code.specs.Running.{AllRun}
use Rattle.sim_meaning.specs.Closing.{class_parameters}
use Rattle.sim_meaning.specs.Entries.{cells_from, formals_of, numbers_of, with_cell, with_result}
use Rattle.sim_meaning.specs.Levels.{is_process_class, is_process_itself, is_process_text, levels_of, writes_inner}
use Rattle.sim_meaning.specs.Texts.{ClassText, ConnectionText, PrefixedText, ProcedureText, StandardText, Text, is_class_free, is_class_kind, text}
use Rattle.program_texts.specs.declared.tree.TextTree.{TextTree}
use Rattle.program_texts.specs.TextTrees.{AreTexts, block_text, prefixed_text, text_in}
use Rattle.codegen_expr.specs.declared.spot.Spot.{Spot}
use Rattle.codegen_expr.specs.CodeExpr.{type_of}
use Rattle.codegen_expr.specs.Drafts.{DraftOf, Emits, Grows, Longer, MoreThunks, PlannedOf, ThunksGrow, class_of, open_thunk, planned_at, planned_front, planned_in, planned_start, with_instr}
use Rattle.codegen_expr.specs.Thunks.{AsPlanned}
use Rattle.codegen_expr.specs.Sites.{block_number, cells_in, hidden_from, hidden_in, origin_in, own_part}
use Rattle.codegen.specs.declared.class_texts.LevelHead.{LevelHead}
use Rattle.codegen.specs.declared.level_records.LevelStart.{LevelStart}
use Rattle.codegen.specs.declared.levels.InnerPlace.{InnerPlace}
use Rattle.codegen.specs.declared.texts.ClassAt.{ClassAt}
use Rattle.codegen.specs.declared.texts.Head.{Head}
use Rattle.codegen.specs.declared.texts.Written.{Written}
use Rattle.codegen.specs.Agrees.{Agrees}
use Rattle.codegen.specs.BuiltProgram.{ArraysBuilt, LevelBuilt, ProgramBuilt, TextBuilt, WithInnerBuilt, texts_of}
use Rattle.codegen.specs.CodeStm.{LevelAt, WithInnerAt, inner_of}
use Rattle.codegen.specs.Compiled.{ClassIs, CodeHas, LevelOf, RecordOf, code_formal, parameters_of, standard_mark, type_of_cell}

-- ---- one text

abbrev pub blocks_in : Text → ℕ
blocks_in ConnectionText = 0
blocks_in _ = 1

abbrev pub classes_in : Text → ℕ
classes_in (ClassText prefix h ds ss) = 1
classes_in (PrefixedText class arguments ds ss) = 1
classes_in (StandardText which) = 1
classes_in _ = 0

-- What is planned of the block of a text: what is planned of the class in front of it, if there is one, then the text's own part, then temps.
-- A class has a higher number than the one in front of it.
pub record PlanFor (s : Source) (plan : List PlannedOf) (k : ℕ) (x : Text) : Type 0 where
  pub cells : (planned_at plan (block_number s k)).cells ≡ (planned_front s plan k).cells + length (cells_in s k (text s k))
  pub temps : List CodeType
  pub types : (planned_at plan (block_number s k)).types ≡ (planned_front s plan k).types ++ (map type_of_cell (own_part s k) ++ temps)
  pub room : (planned_front s plan k).room ≤ (planned_at plan (block_number s k)).room
  pub class : 0 < classes_in x → (planned_front s plan k).class < (planned_at plan (block_number s k)).class

-- all texts but connections
abbrev pub is_planned : Text → Bool
is_planned ConnectionText = false
is_planned _ = true

-- a plan for each block of the code
pub record Plans (s : Source) (plan : List PlannedOf) : Type 0 where
  pub each : (k : ℕ) (x : Text) → text s k ≡ Some x → is_planned x ≡ true → PlanFor s plan k x
  pub as_many : length plan ≡ block_number s (length (texts_of s))

-- The text is the one of this number, and its block is the next one.
pub record Next (s : Source) (w : Written) (k : ℕ) (x : Text) : Type 0 where
  pub agrees : Agrees s
  pub plan : Plans s w.draft.classes
  pub is : text s k ≡ Some x
  pub block : block_number s k ≡ length w.blocks.items
  pub first : k ≡ 0 → length w.draft.instrs ≡ 0

-- the record of a class, with its matches
abbrev pub class_record : ClassAt → List Match → ClassOf
class_record c matches = record { prefix = c.prefix; block = c.block; declarations = c.declarations; statements = c.statements; after_inner = c.after_inner; process = c.process; matches = matches }

-- A code that what is written becomes in the end: it keeps the instructions that are no holes, the thunks, the lists of actual parameters, the
-- blocks and the classes, and its blocks are as planned.
pub record Ends (w : Written) (final : CodeOf) : Type 0 where
  pub grows : Grows w.draft.instrs final.instrs
  pub blocks : (j : ℕ) (b : BlockOf) → slice_get w.blocks.items j ≡ Some b → slice_get final.blocks j ≡ Some b
  pub classes : (j : ℕ) (c : ClassAt) → slice_get w.classes.items j ≡ Some (Some c) → (matches : List Match) × (slice_get final.classes j ≡ Some (class_record c matches))
  pub classed : (j : ℕ) → planned_in (slice_get final.blocks j) ≡ planned_at w.draft.classes j
  pub thunked : ThunksGrow w.draft.thunks final.thunks
  pub closed : open_thunk w.draft.thunks ≡ None
  pub listed : Longer w.draft.lists final.actual_lists

-- A text is written. The draft stays whole where the text is built; and if it is whole, then whatever the code is in the end, that of the
-- text stands in it.
pub record TextEmitted (s : Source) (old new : Written) (k : ℕ) (x : Text) : Type 0 where
  pub rest : List Lined
  pub front : new.draft.instrs ≡ old.draft.instrs ++ rest
  pub thunked : MoreThunks old.draft.thunks new.draft.thunks
  pub listed : Longer old.draft.lists new.draft.lists
  pub classed : new.draft.classes ≡ old.draft.classes
  pub fits : AllRun old.draft.instrs → AllRun new.draft.instrs
  pub added : List BlockOf
  pub blocks : new.blocks.items ≡ old.blocks.items ++ added
  pub kept : (j : ℕ) (c : ClassAt) → slice_get old.classes.items j ≡ Some (Some c) → slice_get new.classes.items j ≡ Some (Some c)
  pub earlier : new.draft.whole ≡ true → old.draft.whole ≡ true
  pub built : TextBuilt s k x → old.draft.whole ≡ true → new.draft.whole ≡ true
  pub counted : new.draft.whole ≡ true → length added ≡ blocks_in x
  pub numbered : new.draft.whole ≡ true → (j : ℕ) (b : BlockOf) → slice_get added j ≡ Some b → planned_in (Some b) ≡ planned_at old.draft.classes (length old.blocks.items + j)
  pub at : new.draft.whole ≡ true → (final : CodeOf) → Ends new final → CodeHas s final k x (slice_get final.blocks (block_number s k))

unfoldable pub WritesText : Bound → (old new : Written) → (number : ℕ) → TextTree → Type 0
WritesText b old new k x = Next (source_of b) old k (text_in x) → TextEmitted (source_of b) old new k (text_in x)

unfoldable pub WritesBlockText : Bound → (old new : Written) → (number : ℕ) → BlockTree → Type 0
WritesBlockText b old new k x = Next (source_of b) old k (block_text (block_syntax x)) → TextEmitted (source_of b) old new k (block_text (block_syntax x))

unfoldable pub WritesProcedureText : Bound → (old new : Written) → (number : ℕ) → Option TypeName → Stmt → Type 0
WritesProcedureText b old new k result a = (h : Heading) → Next (source_of b) old k (ProcedureText result h (statement_syntax a)) → TextEmitted (source_of b) old new k (ProcedureText result h (statement_syntax a))

-- a text with levels that is no program: its declarations and statements, the kind of its block and the entry of that, and whether `inner` is
-- among its statements
pub data LevelText (s : Source) (k : ℕ) : Declarations → Statements → BlockKind → (entry : ℕ) → (inner : Bool) → Text → Type 0 where
  a_class : {prefix : Option Identifier} → {h : Heading} → {ds : Declarations} → {ss : Statements} → LevelText s k ds ss kind.Object 0 (writes_inner s k) (ClassText prefix h ds ss)
  a_standard : {which : StandardClass} → is_process_class which ≡ false → LevelText s k NoDeclaration NoStatement kind.Object (standard_mark which) false (StandardText which)
  a_block : {class : Identifier} → {es : Expressions} → {ds : Declarations} → {ss : Statements} → {entry : ℕ} → k ≢ 0 → LevelText s k ds ss kind.Prefixed entry false (PrefixedText class es ds ss)

unfoldable pub WritesClassText : Bound → (old new : Written) → LevelHead → List Decl → List Stmt → Type 0
WritesClassText b old new h ds ss =
    (x : Text) → LevelText (source_of b) h.text (declarations (map declaration_syntax ds)) (statements (map statement_syntax ss)) h.kind h.entry h.inner x → Next (source_of b) old h.text x → TextEmitted (source_of b) old new h.text x

-- the formal parameters of a text, those of a class of all its levels
abbrev pub formals_by_kind : Source → BlockKind → (text : ℕ) → List Formal
formals_by_kind s kind.Object k = class_parameters s (Some k)
formals_by_kind s kind.Prefixed k = class_parameters s (Some k)
formals_by_kind s _ k = formals_of s k

-- no more than instructions is written
pub record Entered (before old : Written) : Type 0 where
  pub rest : List Lined
  pub front : old.draft.instrs ≡ before.draft.instrs ++ rest
  pub thunks : old.draft.thunks ≡ before.draft.thunks
  pub lists : old.draft.lists ≡ before.draft.lists
  pub whole : old.draft.whole ≡ before.draft.whole
  pub planned : old.draft.classes ≡ before.draft.classes
  pub fits : AllRun before.draft.instrs → AllRun old.draft.instrs
  pub blocks : old.blocks ≡ before.blocks
  pub classes : old.classes ≡ before.classes

-- A text begins before, and its level at old. Where the code of the level stands, that of the text does.
pub record LevelIs (s : Source) (before old : Written) (h : LevelHead) (ds : Declarations) (ss : Statements) (x : Text) : Type 0 where
  pub entered : Entered before old
  pub parts : TextBuilt s h.text x → ArraysBuilt s h.text ds × LevelBuilt s h.text h.inner ss
  pub planned : is_planned x ≡ true
  pub formals : formals_by_kind s h.kind h.text ≡ parameters_of s h.text (Some x)
  pub one_block : 1 ≡ blocks_in x
  pub one_class : 0 < classes_in x
  pub code : (final : CodeOf) (block : BlockOf) (class : ClassOf) → Grows old.draft.instrs final.instrs → block.entry ≡ h.entry → class.declarations ≡ length old.draft.instrs
      → RecordOf s final h.text h.kind type.Nothing block → ClassIs s final h.text block class → LevelOf s final h.text h.inner ds ss block class → CodeHas s final h.text x (Some block)

unfoldable pub WritesLevelText : Bound → (old new : Written) → LevelHead → List Decl → List Stmt → Type 0
WritesLevelText b old new h ds ss =
    (before : Written) (x : Text) → LevelIs (source_of b) before old h (declarations (map declaration_syntax ds)) (statements (map statement_syntax ss)) x → Next (source_of b) before h.text x → TextEmitted (source_of b) before new h.text x

-- the program with a prefix, and a block with one
unfoldable pub WritesPrefixedText : Bound → (old new : Written) → (number : ℕ) → BlockPrefix → BlockTree → Type 0
WritesPrefixedText b old new k p x =
    Next (source_of b) old k (prefixed_text (prefix_syntax p) (block_syntax x)) → TextEmitted (source_of b) old new k (prefixed_text (prefix_syntax p) (block_syntax x))

-- a class that `simset` or `simulation` declares; and the class `process`
unfoldable pub WritesStandardText : Bound → (old new : Written) → (number : ℕ) → StandardClass → Type 0
WritesStandardText b old new k which = Next (source_of b) old k (StandardText which) → TextEmitted (source_of b) old new k (StandardText which)

unfoldable pub WritesProcessText : Bound → (old new : Written) → (number : ℕ) → Type 0
WritesProcessText b old new k = Next (source_of b) old k (StandardText standard.Process) → TextEmitted (source_of b) old new k (StandardText standard.Process)

-- ---- the statements of a class

abbrev pub token_number : Option TokenNo → Option ℕ
token_number None = None
token_number (Some token) = Some token.0

-- none of the statements in front of a place is `inner`
unfoldable pub NoInnerTo : List Stmt → ℕ → Type 0
NoInnerTo xs n = (k : ℕ) (x : Stmt) → k < n → slice_get xs k ≡ Some x → inner_of (statement_syntax x) ≡ None

-- `inner` is at a place, and not in front of it
pub record InnerThere (xs : List Stmt) (place : ℕ) (token : TokenNo) : Type 0 where
  pub none : NoInnerTo xs place
  pub statement : Stmt
  pub at : slice_get xs place ≡ Some statement
  pub is : inner_of (statement_syntax statement) ≡ Some token.0

unfoldable pub FirstInner : List Stmt → Option InnerPlace → Type 0
FirstInner xs None = NoInnerTo xs (length xs)
FirstInner xs (Some r) = InnerThere xs r.place r.token

-- whether a token stands in a text itself
unfoldable pub IsOwn : Bound → (text : ℕ) → TokenNo → Bool → Type 0
IsOwn b k token true = block_around (source_of b) token.0 ≡ Some k
IsOwn b k token false = block_around (source_of b) token.0 ≡ Some k → ⊥

-- how many levels are in front of a text
unfoldable pub LevelPlace : Bound → (text place : ℕ) → Type 0
LevelPlace b k place = suc place ≡ length (levels_of (source_of b) k)

-- whether `inner` is among the statements of a text with levels; it is not in a prefixed block
abbrev pub inner_by_kind : Source → BlockKind → (text : ℕ) → Bool
inner_by_kind s kind.Object k = writes_inner s k
inner_by_kind s _ k = false

-- the statements of a level, which has so many in front, with what stands for `inner`, behind which is this place
unfoldable pub WritesLevel : Bound → Spot → (level : ℕ) → (written : Bool) → (old new : DraftOf) → List Stmt → (after : ℕ) → Type 0
WritesLevel b w level written old new xs after =
    (after ≤ length new.instrs) × Emits w old new (LevelBuilt (source_of b) w.text written (statements (map statement_syntax xs)))
    (λ final site p q. LevelAt (source_of b) final site level after written (statements (map statement_syntax xs)) p q)

-- the same where one of the statements is `inner`
unfoldable pub WritesAround : Bound → Spot → (level : ℕ) → (old new : DraftOf) → List Stmt → (after : ℕ) → Type 0
WritesAround b w level old new xs after =
    (after ≤ length new.instrs) × Emits w old new (WithInnerBuilt (source_of b) w.text (statements (map statement_syntax xs)))
    (λ final site p q. WithInnerAt (source_of b) final site level after (statements (map statement_syntax xs)) p q)

-- ---- all texts

-- of the first texts of a program that is built
pub record TextsEmitted (s : Source) (old now : Written) (done : ℕ) : Type 0 where
  pub whole : now.draft.whole ≡ true
  pub fits : AllRun now.draft.instrs
  pub plan : Plans s old.draft.classes
  pub closed : open_thunk now.draft.thunks ≡ None
  pub classed : now.draft.classes ≡ old.draft.classes
  pub counted : block_number s done ≡ length now.blocks.items
  pub started : done ≡ 0 → length now.draft.instrs ≡ 0
  pub numbered : (j : ℕ) (b : BlockOf) → slice_get now.blocks.items j ≡ Some b → planned_in (Some b) ≡ planned_at old.draft.classes j
  pub each : (final : CodeOf) → Ends now final → (k : ℕ) (x : Text) → k < done → text s k ≡ Some x → CodeHas s final k x (slice_get final.blocks (block_number s k))

-- nothing is written yet, and the blocks are planned
pub record Begins (s : Source) (w : Written) : Type 0 where
  pub none : w.draft.instrs ≡ []
  pub whole : w.draft.whole ≡ true
  pub plan : Plans s w.draft.classes
  pub no_thunk : w.draft.thunks ≡ []
  pub no_block : w.blocks.items ≡ []

unfoldable pub WritesTo : Bound → (old now : Written) → List TextTree → (done : ℕ) → Type 0
WritesTo b old now ts done = AreTexts b.program ts → ProgramBuilt (source_of b) → Begins (source_of b) old → TextsEmitted (source_of b) old now done

unfoldable pub WritesProgram : Bound → (old new : Written) → List TextTree → Type 0
WritesProgram b old new ts = WritesTo b old new ts (length ts)

-- ---- records

-- a class or a prefixed block that is inside a block
abbrev pub class_inside : TableBlock → TableBlock → Bool
class_inside b c = is_class_kind c.kind && nat_le b.first c.first && nat_lt c.first b.end

-- what the cells of a text hold at the entry; the result, if there is one, is the first
unfoldable pub CellTypes : Bound → (text : ℕ) → Option TypeName → List CodeType → Type 0
CellTypes b k result types = types ≡ map type_of_cell (with_result result (cells_from (source_of b) (numbers_of (source_of b) k)))

-- the cells of declarations
unfoldable pub PushesCells : Bound → (old new : List CodeType) → List DeclNo → Type 0
PushesCells b old new ds = new ≡ old ++ map type_of_cell (cells_from (source_of b) ds)

-- in a loop over declarations: the cells that are there, and those of the rest
unfoldable pub OwesCells : Bound → (old : List CodeType) → List DeclNo → (now : List CodeType) → List DeclNo → Type 0
OwesCells b old all now rest = now ++ map type_of_cell (cells_from (source_of b) rest) ≡ old ++ map type_of_cell (cells_from (source_of b) all)

-- what the cell of a formal parameter holds at the entry
abbrev pub type_of_simple : FormalKind → Option SimType → CodeType
type_of_simple shape.Simple ty = type_of ty
type_of_simple kind ty = type.Nothing

abbrev pub type_of_formal : Mode → FormalKind → Option SimType → CodeType
type_of_formal mode.ByName kind ty = type.Nothing
type_of_formal mode kind ty = type_of_simple kind ty

-- the cell that a declaration has, if it has one
unfoldable pub PushesCell : (old new : List CodeType) → Option Entry → Type 0
PushesCell old new entry = (d : DeclNo) → new ≡ old ++ map type_of_cell (with_cell d entry [])

unfoldable pub PushesResult : (old new : List CodeType) → Option TypeName → Type 0
PushesResult old new result = new ≡ old ++ map type_of_cell (with_result result [])

-- a cell more, if it is one of a connection in the frames of a text
abbrev pub with_hidden : Bool → List CodeType → List CodeType
with_hidden true types = types ++ (type.Nothing ∷ [])
with_hidden false types = types

-- the cells of the connections that stand in a text, behind which that of an origin is still to come; and all hidden cells
unfoldable pub HidesConnections : Bound → (old new : List CodeType) → (text : ℕ) → Type 0
HidesConnections b old new k = new ++ map type_of_cell (origin_in (is_process_itself (source_of b) k)) ≡ old ++ map type_of_cell (hidden_in (source_of b) k)

unfoldable pub HidesCells : Bound → (old new : List CodeType) → (text : ℕ) → Type 0
HidesCells b old new k = new ≡ old ++ map type_of_cell (hidden_in (source_of b) k)

-- in a loop over the blocks: those of the rest
unfoldable pub OwesHidden : Bound → (old : List CodeType) → (text : ℕ) → (now : List CodeType) → (done : ℕ) → Type 0
OwesHidden b old k now done = now ++ map type_of_cell (hidden_from (source_of b) k done (drop done b.scopes.blocks)) ≡ old ++ map type_of_cell (hidden_in (source_of b) k)

-- a formal parameter, and several, in each code that a draft may become
unfoldable pub FormalGiven : Bound → DraftOf → Formal → CodeFormal → Type 0
FormalGiven b c f r = (final : CodeOf) → AsPlanned c final → r ≡ code_formal (source_of b) final f

unfoldable pub FormalsGiven : Bound → DraftOf → List Formal → List CodeFormal → Type 0
FormalsGiven b c fs r = (final : CodeOf) → AsPlanned c final → r ≡ map (code_formal (source_of b) final) fs

-- in a loop: those so far, and the rest
unfoldable pub OwesFormals : Bound → DraftOf → List Formal → (now : List CodeFormal) → (rest : List Formal) → Type 0
OwesFormals b c fs now rest = (final : CodeOf) → AsPlanned c final → now ++ map (code_formal (source_of b) final) rest ≡ map (code_formal (source_of b) final) fs

-- the block of a text whose code is written
pub record BlockAdded (s : Source) (old new : Written) (head : Head) : Type 0 where
  pub same : new.draft ≡ old.draft
  pub same_classes : new.classes.items ≡ old.classes.items
  pub block : BlockOf
  pub is : new.blocks.items ≡ old.blocks.items ++ (block ∷ [])
  pub is_kind : block.kind ≡ head.kind
  pub level : block.level ≡ level_of s head.text
  pub starts : block.entry ≡ head.entry
  pub class_free : block.class_free ≡ is_class_free s head.text
  pub gives : block.result_type ≡ head.result_type
  pub formals : (final : CodeOf) → AsPlanned old.draft final → block.formals ≡ map (code_formal s final) (formals_by_kind s head.kind head.text)
  pub planned : planned_in (Some block) ≡ planned_at old.draft.classes (block_number s head.text)
  pub temps : block.cells + block.temps ≡ length block.types
  pub room : old.draft.room ≤ block.room
  pub size : old.draft.size ≤ length block.types

unfoldable pub AddsBlock : Bound → (old new : Written) → Head → Type 0
AddsBlock b old new head = BlockAdded (source_of b) old new head

-- where the own part of a text and what stands in front of it end
unfoldable pub OwnEnd : Bound → List PlannedOf → (text end : ℕ) → Type 0
OwnEnd b plan k end = end ≡ planned_start (source_of b) plan k + length (own_part (source_of b) k)

-- the class of what stands in front of a text
unfoldable pub FrontClass : Bound → List PlannedOf → (text class : ℕ) → Type 0
FrontClass b plan k class = class ≡ (planned_front (source_of b) plan k).class

-- a class is written in its place, where none is yet
pub record ClassPut (old new : Written) (number : ℕ) (class : ClassAt) : Type 0 where
  pub draft : new.draft ≡ old.draft
  pub blocks : new.blocks ≡ old.blocks
  pub place : ℕ
  pub counts : number ≡ suc place
  pub none : slice_get old.classes.items place ≡ Some None
  pub put : new.classes.items ≡ slice_set old.classes.items place (Some class)

unfoldable pub PutsClass : (old new : Written) → (number : ℕ) → ClassAt → Type 0
PutsClass old new number class = ClassPut old new number class

-- temps behind them
unfoldable pub Padded : (old new : List CodeType) → (size : ℕ) → Type 0
Padded old new size = ((temps : List CodeType) × (new ≡ old ++ temps)) × (size ≤ length new)

-- ---- where levels begin and end

-- the code of a level begins, of which this is known
pub record LevelBegun (s : Source) (old new : Written) (k : ℕ) (x : LevelStart) : Type 0 where
  pub block : x.block ≡ length old.blocks.items
  pub start : x.start ≡ length old.draft.instrs
  pub level : suc x.level ≡ length (levels_of s k)
  pub prefix : x.prefix ≡ (planned_front s old.draft.classes k).class
  pub class : x.class ≡ class_of old.draft.classes (block_number s k)
  pub process : x.process ≡ is_process_text s k
  pub used : x.used ≡ planned_start s old.draft.classes k + length (own_part s k)
  pub draft : new.draft ≡ record old.draft { room = 0; size = x.used }
  pub blocks : new.blocks ≡ old.blocks
  pub classes : new.classes ≡ old.classes

unfoldable pub BeginsLevel : Bound → (old new : Written) → (text : ℕ) → LevelStart → Type 0
BeginsLevel b old new k x = LevelBegun (source_of b) old new k x

-- its last instruction, then the record of its block and that of its class
pub record LevelEnded (s : Source) (old new : Written) (h : LevelHead) (x : LevelStart) (stated after : ℕ) : Type 0 where
  pub mid : Written
  pub draft : mid.draft ≡ with_instr old.draft (i.EndLevel (pos x.level)) 0
  pub blocks : mid.blocks ≡ old.blocks
  pub classes : mid.classes ≡ old.classes
  pub more : Written
  pub added : BlockAdded s mid more (record { kind = h.kind; text = h.text; entry = h.entry; result_type = type.Nothing })
  pub put : ClassPut more new x.class (record { prefix = x.prefix; block = x.block; declarations = x.start; statements = stated; after_inner = after; process = x.process })

unfoldable pub EndsLevel : Bound → (old new : Written) → LevelHead → LevelStart → (stated after : ℕ) → Type 0
EndsLevel b old new h x stated after = LevelEnded (source_of b) old new h x stated after
