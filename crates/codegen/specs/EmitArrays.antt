-- What is written of the arrays of a block.
use Rattle.std.specs.Prelude.{◌≡◌, ⊤, ℕ, List, [], ◌∷◌, length, map, Option, Some, None}
use Rattle.sim_base.specs.declared.numbering.DeclNo.{DeclNo}
use Rattle.sim_base.specs.declared.numbering.TokenNo.{TokenNo}
use Rattle.sim_scope.specs.declared.bound.Bound.{Bound}
use Rattle.sim_scope.specs.Source.{Source, block_of, source_of}
use Rattle.sim_tree.specs.declared.expr.Identifier.{Identifier}
use Rattle.sim_tree.specs.declared.stmt.ArraySegment.{ArraySegment}
use Rattle.sim_tree.specs.declared.stmt.Bounds.{Bounds}
use Rattle.sim_tree.specs.declared.stmt.Decl.{Decl}
use Rattle.sim_tree.specs.declared.stmt.TypeName.{TypeName}
use Rattle.sim_tree.specs.Syntax.{declarations}
use Rattle.sim_tree.specs.SyntaxOfProgram.{bound_pair_syntax, declaration_syntax, segment_syntax}
use Rattle.sim_meaning.specs.Pending.{Declared}
use Rattle.sim_meaning.specs.Texts.{declared_at, kind_named}
use Rattle.codegen_expr.specs.declared.spot.Spot.{Spot}
use Rattle.codegen_expr.specs.Built.{slot_in}
use Rattle.codegen_expr.specs.Drafts.{DraftOf, Emits}
use Rattle.codegen_expr.specs.Sites.{Varies}
use Rattle.codegen.specs.BuiltProgram.{ArraysBuilt, BoundsBuilt, KeptBuilt, MadeBuilt, SegmentsBuilt}
use Rattle.codegen.specs.CodeArrays.{ArraysAt, BoundsAt, FurtherAt, KeepsArray, LoadsArray, MakesAt, SegmentsAt}

-- ---- one array

-- the cell of an array that is declared at a token
abbrev pub KeptIs : Source → (text token : ℕ) → Option ℕ → Type 0
KeptIs s text token None = KeptBuilt s text (declared_at s token) → ⊥
KeptIs s text token (Some slot) = (d : DeclNo) × (declared_at s token ≡ Some d) × (block_of s d ≡ text) × Varies s d × (slot_in s text (Declared d.0) ≡ Some slot)

unfoldable pub FindsKept : Bound → Spot → TokenNo → Option ℕ → Type 0
FindsKept b w token r = KeptIs (source_of b) w.text token.0 r

unfoldable pub WritesKeep : Bound → Spot → (old new : DraftOf) → TokenNo → Type 0
WritesKeep b w old new token = Emits w old new (KeptBuilt (source_of b) w.text (declared_at (source_of b) token.0)) (λ final site p q. KeepsArray (source_of b) final site (declared_at (source_of b) token.0) p q)

unfoldable pub WritesLoad : Bound → Spot → (old new : DraftOf) → TokenNo → Type 0
WritesLoad b w old new token = Emits w old new (KeptBuilt (source_of b) w.text (declared_at (source_of b) token.0)) (λ final site p q. LoadsArray (source_of b) final site (declared_at (source_of b) token.0) p q)

-- ---- segments

abbrev pub FurtherBuilt : Source → (text : ℕ) → (first : Option DeclNo) → List Identifier → Type 0
FurtherBuilt s text first [] = ⊤
FurtherBuilt s text first (x ∷ xs) = KeptBuilt s text first × KeptBuilt s text (declared_at s x.token.0) × FurtherBuilt s text first xs

unfoldable pub WritesFurther : Bound → Spot → (old new : DraftOf) → TokenNo → List Identifier → Type 0
WritesFurther b w old new first xs =
    Emits w old new (FurtherBuilt (source_of b) w.text (declared_at (source_of b) first.0) xs) (λ final site p q. FurtherAt (source_of b) final site (declared_at (source_of b) first.0) xs p q)

unfoldable pub OwesFurther : Bound → Spot → (old : DraftOf) → TokenNo → List Identifier → (now : DraftOf) → List Identifier → Type 0
OwesFurther b w old first xs now rest = (end : DraftOf) → WritesFurther b w now end first rest → WritesFurther b w old end first xs

-- the bounds alone
unfoldable pub WritesBounds : Bound → Spot → (n : ℕ) → (old new : DraftOf) → List Bounds → Type 0
WritesBounds b w n old new bs = Emits w old new (BoundsBuilt (source_of b) w.text (map bound_pair_syntax bs)) (λ final site p q. BoundsAt (source_of b) final site n (map bound_pair_syntax bs) (λ p q. q ≡ p) p q)

unfoldable pub OwesBounds : Bound → Spot → (old : DraftOf) → List Bounds → (m : ℕ) → (now : DraftOf) → List Bounds → Type 0
OwesBounds b w old bs m now rest = (end : DraftOf) → WritesBounds b w m now end rest → WritesBounds b w 0 old end bs

unfoldable pub WritesMade : Bound → Spot → (old new : DraftOf) → TypeName → (dimensions : ℕ) → List Identifier → Type 0
WritesMade b w old new type n xs = Emits w old new (MadeBuilt (source_of b) w.text n xs) (λ final site p q. MakesAt (source_of b) final site (kind_named type) n xs p q)

unfoldable pub WritesSegment : Bound → Spot → (old new : DraftOf) → TypeName → ArraySegment → Type 0
WritesSegment b w old new type a =
    Emits w old new (BoundsBuilt (source_of b) w.text (segment_syntax a).bounds × MadeBuilt (source_of b) w.text (length (segment_syntax a).bounds) (segment_syntax a).names)
    (λ final site p q. BoundsAt (source_of b) final site 0 (segment_syntax a).bounds (MakesAt (source_of b) final site (kind_named type) (length (segment_syntax a).bounds) (segment_syntax a).names) p q)

unfoldable pub WritesSegments : Bound → Spot → (old new : DraftOf) → TypeName → List ArraySegment → Type 0
WritesSegments b w old new type xs = Emits w old new (SegmentsBuilt (source_of b) w.text (map segment_syntax xs)) (λ final site p q. SegmentsAt (source_of b) final site (kind_named type) (map segment_syntax xs) p q)

unfoldable pub OwesSegments : Bound → Spot → (old : DraftOf) → TypeName → List ArraySegment → (now : DraftOf) → List ArraySegment → Type 0
OwesSegments b w old type xs now rest = (end : DraftOf) → WritesSegments b w now end type rest → WritesSegments b w old end type xs

-- ---- declarations

unfoldable pub WritesArrays : Bound → Spot → (old new : DraftOf) → List Decl → Type 0
WritesArrays b w old new ds =
    Emits w old new (ArraysBuilt (source_of b) w.text (declarations (map declaration_syntax ds))) (λ final site p q. ArraysAt (source_of b) final site (declarations (map declaration_syntax ds)) p q)

-- the arrays of one declaration, whatever follows
unfoldable pub PutsArrays : Bound → Spot → (old new : DraftOf) → Decl → Type 0
PutsArrays b w old new x = (end : DraftOf) (rest : List Decl) → WritesArrays b w new end rest → WritesArrays b w old end (x ∷ rest)

-- in a loop: what is written of the rest is written of the whole
unfoldable pub OwesArrays : Bound → Spot → (old : DraftOf) → List Decl → (now : DraftOf) → List Decl → Type 0
OwesArrays b w old xs now rest = (end : DraftOf) → WritesArrays b w now end rest → WritesArrays b w old end xs
