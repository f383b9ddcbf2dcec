-- What is written of a statement that several elements share.
use Rattle.std.specs.Prelude.{◌≡◌, ◌≤◌, ⊤, ◌+◌, ◌*◌, ℕ, suc, pos, true, List, [], ◌∷◌, ◌++◌, drop, length, slice_get, Option, Some, None}
use Rattle.sim_scope.specs.declared.bound.Bound.{Bound}
use Rattle.sim_scope.specs.Source.{Source, level_of, source_of}
use Rattle.sim_tree.specs.declared.stmt.Stmt.{Stmt}
use Rattle.sim_tree.specs.Syntax.{Element, Statement}
use Rattle.sim_tree.specs.SyntaxOfProgram.{statement_syntax}
use Rattle.sim_code.specs.declared.instr.Instr.TheVariants as i
use Rattle.sim_code.specs.declared.instr.Lined.{Lined}
use Rattle.sim_code.specs.Code.{CodeOf}
use Rattle.sim_code.specs.Running.{AllRun}
use Rattle.codegen_expr.specs.declared.spot.Spot.{Spot}
use Rattle.codegen_expr.specs.Drafts.{Becomes, DraftOf, Emits, Longer, MoreThunks, filled_in}
use Rattle.codegen_expr.specs.Sites.{Ahead, Is, Pushes, Site, lined}
use Rattle.codegen.specs.declared.lists.Shared.{Shared}
use Rattle.codegen.specs.declared.targets.Target.{Target}
use Rattle.codegen.specs.EmitTargets.{Controls, ElementOver, ElementsOver}
use Rattle.codegen.specs.BuiltProgram.{StatementBuilt}
use Rattle.codegen.specs.CodeFor.{ElementsAt, OneElementAt, ReturnAt, ReturnsAt, TurnAt, Variable}
use Rattle.codegen.specs.CodeStm.{StmAt}

-- ---- holes

-- holes at rising places, none before low
abbrev pub OpenAt : List Lined → (low : ℕ) → List ℕ → Type 0
OpenAt code low [] = ⊤
OpenAt code low (h ∷ hs) = (low ≤ h) × (slice_get code h ≡ Some (lined i.Halt 0)) × OpenAt code (suc h) hs

-- jumps at these places, each forward to its target
abbrev pub JumpsTo : CodeOf → (places targets : List ℕ) → Type 0
JumpsTo code [] [] = ⊤
JumpsTo code (h ∷ hs) (r ∷ rs) = (slice_get code.instrs h ≡ Some (lined (i.Jump (pos r)) 0)) × Ahead code h r × JumpsTo code hs rs
JumpsTo code _ _ = ⊥

-- the place of a jump back: a test has five instructions, the last of which is its jump; behind the last test there is a jump alone
abbrev pub hole_before : (chain number : ℕ) → List Element → ℕ
hole_before chain k [] = chain + 5 * k
hole_before chain k (x ∷ xs) = chain + 5 * k + 4

abbrev pub holes_from : (chain number : ℕ) → List Element → List ℕ
holes_from chain k [] = []
holes_from chain k (x ∷ xs) = hole_before chain k xs ∷ holes_from chain (suc k) xs

-- Behind old there is new, and the holes of old at these places are filled with jumps to targets in what is new.
pub record Turns (spot : Spot) (old new : DraftOf) (holes : List ℕ) (low : ℕ) (Built : Type 0) (Here : CodeOf → Site → List ℕ → ℕ → ℕ → Type 0) : Type 0 where
  pub targets : List ℕ
  pub longer : length old.instrs ≤ length new.instrs
  pub roomier : old.room ≤ new.room
  pub larger : old.size ≤ new.size
  pub classed : new.classes ≡ old.classes
  pub thunked : MoreThunks old.thunks new.thunks
  pub listed : Longer old.lists new.lists
  pub built : Built → old.whole ≡ true → new.whole ≡ true
  pub before : new.whole ≡ true → old.whole ≡ true
  pub only : new.whole ≡ true → Built
  pub fits : AllRun old.instrs → AllRun new.instrs
  pub keeps : (x : List Lined) → length x ≤ low → ((r : List Lined) × (old.instrs ≡ x ++ r)) → (r : List Lined) × (new.instrs ≡ x ++ r)
  pub becomes : (final : CodeOf) (site : Site) → Becomes spot new final site → Becomes spot old final site
  pub jumps : (final : CodeOf) (site : Site) → Becomes spot new final site → JumpsTo final holes targets
  pub at : new.whole ≡ true → (final : CodeOf) (site : Site) → Becomes spot new final site → Here final site targets (length old.instrs) (length new.instrs)

-- ---- turns

-- a turn leaves its number in the temp and goes to the statement
pub record SentAt (s : Source) (code : CodeOf) (site : Site) (temp body number : ℕ) (p q : ℕ) : Type 0 where
  pub x : ℕ
  pub y : ℕ
  pub pushed : Pushes code site 0 (i.Int (pos number)) p x
  pub kept : Is code (i.Store (pos (level_of s site.text)) (pos temp)) x y
  pub jump : Is code (i.Jump (pos body)) y q
  pub behind : body ≤ y

abbrev pub begins : Option Shared → ℕ
begins None = 0
begins (Some k) = k.start

abbrev pub TurnBuilt : Source → (text : ℕ) → Statement → Option Shared → Type 0
TurnBuilt s text a None = StatementBuilt s text a
TurnBuilt s text a (Some k) = ⊤

-- the turn of an element: the statement, or what goes to it; the element goes on at this place
abbrev pub TurnOf : Source → CodeOf → Site → (temp : ℕ) → Statement → Option Shared → (on : ℕ) → ℕ → ℕ → Type 0
TurnOf s code site temp a None on p q = StmAt s code site 0 a p q
TurnOf s code site temp a (Some k) on p q = SentAt s code site temp k.start k.number p q × (q ≡ on)

unfoldable pub WritesTurn : Bound → Spot → (old new : DraftOf) → Stmt → Option Shared → (on : ℕ) → Type 0
WritesTurn b w old new a k on =
    (on ≡ length new.instrs) × (begins k ≤ length old.instrs → Emits w old new (TurnBuilt (source_of b) w.text (statement_syntax a) k) (λ final site p q. TurnOf (source_of b) final site w.used (statement_syntax a) k on p q))

unfoldable pub WritesSent : Bound → Spot → (old new : DraftOf) → (start number : ℕ) → Type 0
WritesSent b w old new start number = start ≤ length old.instrs → Emits w old new ⊤ (λ final site p q. SentAt (source_of b) final site w.used start number p q)

-- an element whose turns go to the statement, and the jump back to it is written
unfoldable pub PutsTurn : Bound → Spot → (old new : DraftOf) → (target : Target) → Element → (start number hole : ℕ) → Type 0
PutsTurn b w old new target x start number hole =
    (v : Variable) → Controls (source_of b) w.text target v → start ≤ length old.instrs
    → (m : DraftOf) × (on : ℕ) × (length old.instrs ≤ on) × (on ≤ length m.instrs) × (new ≡ filled_in m hole (i.Jump (pos on)))
    × Emits w old m (ElementOver (source_of b) w.text v x) (λ final site p q. OneElementAt (source_of b) final site 0 v x (λ p q. SentAt (source_of b) final site w.used start number p q × (q ≡ on)) p q)

unfoldable pub WritesTurns : Bound → Spot → (old new : DraftOf) → (target : Target) → List Element → (start chain number : ℕ) → Type 0
WritesTurns b w old new target es start chain number =
    (v : Variable) → Controls (source_of b) w.text target v → (low : ℕ) → start ≤ length old.instrs → OpenAt old.instrs low (holes_from chain number es)
    → Turns w old new (holes_from chain number es) low (ElementsOver (source_of b) w.text v es)
    (λ final site rs p q. (length rs ≡ length es) × ((all : List ℕ) → drop number all ≡ rs → ElementsAt (source_of b) final site 0 v number es (TurnAt (source_of b) final site 0 w.used start all) p q))

-- in a loop: what is written of the rest is written of the whole
unfoldable pub OwesTurns : Bound → Spot → (old : DraftOf) → (target : Target) → List Element → (start chain : ℕ) → (now : DraftOf) → (number : ℕ) → List Element → Type 0
OwesTurns b w old target es start chain now k rest = (end : DraftOf) → WritesTurns b w now end target rest start chain k → WritesTurns b w old end target es start chain 0

-- ---- the ways back

-- the test for one number, but for the jump, whose place is a hole
unfoldable pub PutsReturn : Bound → Spot → (old new : DraftOf) → (number : ℕ) → Type 0
PutsReturn b w old new k =
    (length new.instrs ≡ length old.instrs + 5) × (slice_get new.instrs (length old.instrs + 4) ≡ Some (lined i.Halt 0))
    × Emits w old new ⊤ (λ final site p q. (target : ℕ) → slice_get final.instrs (p + 4) ≡ Some (lined (i.Jump (pos target)) 0) → Ahead final (p + 4) target → ReturnAt (source_of b) final site 0 w.used k target p q)

unfoldable pub WritesReturns : Bound → Spot → (old new : DraftOf) → List Element → (chain number : ℕ) → Type 0
WritesReturns b w old new es chain k =
    length old.instrs ≡ chain + 5 * k
    → OpenAt new.instrs (length old.instrs) (holes_from chain k es)
    × Emits w old new ⊤ (λ final site p q. (rs : List ℕ) → JumpsTo final (holes_from chain k es) rs → ReturnsAt (source_of b) final site 0 w.used k rs p q)

unfoldable pub OwesReturns : Bound → Spot → (old : DraftOf) → List Element → (now : DraftOf) → (number : ℕ) → List Element → Type 0
OwesReturns b w old es now k rest = (end : DraftOf) → WritesReturns b w now end rest (length old.instrs) k → WritesReturns b w old end es (length old.instrs) 0

-- the statement, where one temp more is in use
unfoldable pub WritesInside : Bound → Spot → (old new : DraftOf) → Stmt → Type 0
WritesInside b w old new a =
    Emits w old new (StatementBuilt (source_of b) w.text (statement_syntax a)) (λ final site p q. StmAt (source_of b) final (record site { used = suc w.used }) 0 (statement_syntax a) p q)
