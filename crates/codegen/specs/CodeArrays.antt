-- Which code stands for the array declarations of a block or of a level of a class, at its entry.
use Rattle.std.specs.Prelude.{◌≡◌, ◌<◌, ℕ, suc, ℤ, pos, List, [], ◌∷◌, length, Option, Some, None}
use Rattle.sim_base.specs.declared.numbering.DeclNo.{DeclNo}
use Rattle.sim_scope.specs.Source.{Source, level_of, line_at}
use Rattle.sim_tree.specs.declared.expr.Identifier.{Identifier}
use Rattle.sim_tree.specs.Syntax.{Arrayed, Arrays, BoundPair, Declarations, DeclareClass, DeclareProcedure, NoDeclaration, Variables, With}
use Rattle.sim_values.specs.declared.kind.Kind.{Kind}
use Rattle.sim_values.specs.declared.kind.Kind.TheVariants as kind
use Rattle.sim_code.specs.declared.instr.Instr.TheVariants as i
use Rattle.sim_code.specs.Code.{CodeOf}
use Rattle.sim_meaning.specs.Pending.{Declared}
use Rattle.sim_meaning.specs.Texts.{declared_at, kind_named}
use Rattle.codegen_expr.specs.Sites.{At, HasCell, Is, Pushes, Site, Varies, slot_of}
use Rattle.codegen_expr.specs.CodeExpr.{ExprAt}

abbrev pub element_number : Kind → ℤ
element_number kind.Integer = pos 1
element_number kind.Boolean = pos 2
element_number kind.Character = pos 3
element_number kind.Text = pos 4
element_number kind.Reference = pos 5

-- the array on top goes into the cell of its declaration
abbrev pub KeepsArray : Source → CodeOf → Site → Option DeclNo → ℕ → ℕ → Type 0
KeepsArray s code site None p q = ⊥
KeepsArray s code site (Some d) p q = HasCell s site.text (Declared d.0) × Varies s d × Is code (i.Store (pos (level_of s site.text)) (pos (slot_of s code site.text (Declared d.0)))) p q

abbrev pub LoadsArray : Source → CodeOf → Site → Option DeclNo → ℕ → ℕ → Type 0
LoadsArray s code site None p q = ⊥
LoadsArray s code site (Some d) p q = HasCell s site.text (Declared d.0) × Pushes code site 0 (i.Load (pos (level_of s site.text)) (pos (slot_of s code site.text (Declared d.0)))) p q

-- each further array of a segment is a copy of the first one
abbrev pub FurtherAt : Source → CodeOf → Site → (first : Option DeclNo) → List Identifier → ℕ → ℕ → Type 0
FurtherAt s code site first [] p q = q ≡ p
FurtherAt s code site first (x ∷ xs) p q =
    (a : ℕ) × (b : ℕ) × (c : ℕ) × LoadsArray s code site first p a × At code i.CopyArr (line_at s x.token.0) a b × KeepsArray s code site (declared_at s x.token.0) b c × FurtherAt s code site first xs c q

-- the bounds stand on the stack, two for each dimension, of which there is at least one
abbrev pub MakesAt : Source → CodeOf → Site → Kind → (dimensions : ℕ) → List Identifier → ℕ → ℕ → Type 0
MakesAt s code site kind n [] p q = ⊥
MakesAt s code site kind n (x ∷ xs) p q =
    (a : ℕ) × (b : ℕ) × (0 < n) × (0 < site.room) × At code (i.Array (element_number kind) (pos n)) (line_at s x.token.0) p a × KeepsArray s code site (declared_at s x.token.0) a b × FurtherAt s code site (declared_at s x.token.0) xs b q

-- n values are on the stack: the bounds before these
abbrev pub BoundsAt : Source → CodeOf → Site → ℕ → List BoundPair → (End : ℕ → ℕ → Type 0) → ℕ → ℕ → Type 0
BoundsAt s code site n [] End p q = End p q
BoundsAt s code site n (b ∷ bs) End p q =
    (x : ℕ) × (y : ℕ) × ExprAt s code site n b.lower p x × ExprAt s code site (suc n) b.upper x y × BoundsAt s code site (suc (suc n)) bs End y q

abbrev pub SegmentsAt : Source → CodeOf → Site → Kind → List Arrayed → ℕ → ℕ → Type 0
SegmentsAt s code site kind [] p q = q ≡ p
SegmentsAt s code site kind (a ∷ more) p q =
    (x : ℕ) × BoundsAt s code site 0 a.bounds (MakesAt s code site kind (length a.bounds) a.names) p x × SegmentsAt s code site kind more x q

abbrev pub ArraysAt : Source → CodeOf → Site → Declarations → ℕ → ℕ → Type 0
ArraysAt s code site NoDeclaration p q = q ≡ p
ArraysAt s code site (With (Variables type vs) ds) p q = ArraysAt s code site ds p q
ArraysAt s code site (With (Arrays type token segments) ds) p q = (x : ℕ) × SegmentsAt s code site (kind_named type) segments p x × ArraysAt s code site ds x q
ArraysAt s code site (With (DeclareProcedure result token h a end) ds) p q = ArraysAt s code site ds p q
ArraysAt s code site (With (DeclareClass prefix token h interface a end) ds) p q = ArraysAt s code site ds p q
