-- What is written of the class `process`.
use Rattle.std.specs.Prelude.{◌≡◌, ◌≤◌, ⊤, ℕ, true, pos, List, [], ◌∷◌, ◌++◌, length, Some}
use Rattle.sim_scope.specs.declared.bound.Bound.{Bound}
use Rattle.sim_scope.specs.Access.{encloser}
use Rattle.sim_scope.specs.Source.{Source, level_of, source_of}
use Rattle.sim_scope.specs.Tables.{Tables}
use Rattle.sim_code.specs.declared.instr.Instr.TheVariants as i
use Rattle.sim_code.specs.Code.{CodeOf}
use Rattle.sim_meaning.specs.Levels.{is_process_itself}
use Rattle.sim_meaning.specs.Objects.{no_line}
use Rattle.sim_meaning.specs.Pending.{Origin}
use Rattle.codegen_expr.specs.declared.spot.Spot.{Spot}
use Rattle.codegen_expr.specs.Built.{slot_in}
use Rattle.codegen_expr.specs.Drafts.{DraftOf, Emits}
use Rattle.codegen_expr.specs.Sites.{At, Pushes, Site}
use Rattle.codegen.specs.CodeStm.{EndOfAt, EndsAt, OriginEndAt, LastEndAt, OriginsAt, ProcessAt}
use Rattle.codegen.specs.EmitConnections.{OpenEmits}

-- a process detaches itself
unfoldable pub WritesDetached : Bound → Spot → (old new : DraftOf) → Type 0
WritesDetached b w old new =
    Emits w old new ⊤ (λ final site p q. (x : ℕ) × Pushes final site 0 (i.This (pos (level_of (source_of b) site.text))) p x × At final i.Detach no_line x q)

-- ---- the end of a process

-- by its class, in front of something else
abbrev pub EndsFrom : Source → CodeOf → Site → (around : ℕ) → (classes : List ℕ) → (More : ℕ → ℕ → Type 0) → ℕ → ℕ → Type 0
EndsFrom s code site around [] More p q = More p q
EndsFrom s code site around (k ∷ ks) More p q = EndOfAt s code site around k (EndsFrom s code site around ks More) p q

-- the same of an object of `process` itself, by the token that it keeps
abbrev pub OriginsFrom : Source → CodeOf → Site → (around : ℕ) → (tokens : List ℕ) → (More : ℕ → ℕ → Type 0) → ℕ → ℕ → Type 0
OriginsFrom s code site around [] More p q = More p q
OriginsFrom s code site around (t ∷ ts) More p q = OriginEndAt s code site around t (OriginsFrom s code site around ts More) p q

-- of one class, but for the jump behind it, which is to stand here
unfoldable pub WritesEnd : Bound → Spot → (around class : ℕ) → (old new : DraftOf) → (over : ℕ) → Type 0
WritesEnd b w around k old new over = OpenEmits w old new (over ∷ []) ⊤ (λ final site target p q. EndOfAt (source_of b) final site around k (λ m t. m ≡ q) p target)

-- of several classes, but for these jumps
abbrev pub OpenEnds : Bound → Spot → (around : ℕ) → (old new : DraftOf) → (overs classes : List ℕ) → Type 0
OpenEnds b w around old new overs ks = OpenEmits w old new overs ⊤ (λ final site target p q. EndsFrom (source_of b) final site around ks (λ m t. m ≡ q) p target)

-- in a loop: what is written of the rest is written of the whole
unfoldable pub OwesEnds : Bound → Spot → (around : ℕ) → (old : DraftOf) → List ℕ → (now : DraftOf) → (overs : List ℕ) → List ℕ → Type 0
OwesEnds b w around old all now overs rest = (end : DraftOf) (more : List ℕ) → OpenEnds b w around now end more rest → OpenEnds b w around old end (overs ++ more) all

-- the same by one token that is kept in a cell with this place
unfoldable pub WritesOriginEnd : Bound → Spot → (around place token : ℕ) → (old new : DraftOf) → (over : ℕ) → Type 0
WritesOriginEnd b w around place token old new over =
    slot_in (source_of b) w.text Origin ≡ Some place → OpenEmits w old new (over ∷ []) ⊤ (λ final site target p q. OriginEndAt (source_of b) final site around token (λ m t. m ≡ q) p target)

abbrev pub OpenOrigins : Bound → Spot → (around : ℕ) → (old new : DraftOf) → (overs tokens : List ℕ) → Type 0
OpenOrigins b w around old new overs ts = OpenEmits w old new overs ⊤ (λ final site target p q. OriginsFrom (source_of b) final site around ts (λ m t. m ≡ q) p target)

unfoldable pub OwesOrigins : Bound → Spot → (around place : ℕ) → (old : DraftOf) → List ℕ → (now : DraftOf) → (overs : List ℕ) → List ℕ → Type 0
OwesOrigins b w around place old all now overs rest =
    slot_in (source_of b) w.text Origin ≡ Some place → (end : DraftOf) (more : List ℕ) → OpenOrigins b w around now end more rest → OpenOrigins b w around old end (overs ++ more) all

unfoldable pub WritesLastEnd : Bound → Spot → (around : ℕ) → (old new : DraftOf) → Type 0
WritesLastEnd b w around old new = Emits w old new ⊤ (λ final site p q. LastEndAt (source_of b) final site around p q)

-- all of it: that of an object of `process` itself, and that of any process
unfoldable pub WritesOrigins : Bound → Spot → (around place : ℕ) → (tokens : List ℕ) → (old new : DraftOf) → Type 0
WritesOrigins b w around place ts old new = slot_in (source_of b) w.text Origin ≡ Some place → Emits w old new ⊤ (λ final site p q. OriginsAt (source_of b) final site around ts p q)

unfoldable pub WritesEnds : Bound → Spot → (around place : ℕ) → (classes tokens : List ℕ) → (old new : DraftOf) → Type 0
WritesEnds b w around place ks ts old new = slot_in (source_of b) w.text Origin ≡ Some place → Emits w old new ⊤ (λ final site p q. EndsAt (source_of b) final site around ks ts p q)

-- ---- the level

-- a text stands in another one
abbrev pub Stands : Tables → (text : ℕ) → Type 0
Stands tables k = (u : ℕ) × (encloser tables k ≡ Some u)

-- the statements, with what stands for `inner`, behind which is this place
unfoldable pub WritesProcess : Bound → Spot → (level : ℕ) → (old new : DraftOf) → (after : ℕ) → Type 0
WritesProcess b w level old new after =
    is_process_itself (source_of b) w.text ≡ true
    → (after ≤ length new.instrs) × Emits w old new (Stands (source_of b).tables w.text) (λ final site p q. ProcessAt (source_of b) final site level p after q)
