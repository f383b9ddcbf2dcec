-- What is written of connections.
use Rattle.std.specs.Prelude.{◌≡◌, ◌≤◌, ⊤, ℕ, ℤ, pos, true, List, [], ◌∷◌, ◌++◌, length, map, slice_get, Option, Some}
use Rattle.std.specs.declared.alloc.Global.{Global}
use Rattle.std.specs.declared.boxed.Box.{Box}
use Rattle.sim_base.specs.declared.numbering.TokenNo.{TokenNo}
use Rattle.sim_scope.specs.declared.bound.Bound.{Bound}
use Rattle.sim_scope.specs.Source.{Source, block_around, source_of}
use Rattle.sim_tree.specs.declared.stmt.Stmt.{Stmt}
use Rattle.sim_tree.specs.declared.stmt.When.{When}
use Rattle.sim_tree.specs.SyntaxOfProgram.{Arm, arm_syntax, branch_syntax, statement_syntax}
use Rattle.sim_code.specs.declared.instr.Instr.{Instr}
use Rattle.sim_code.specs.declared.instr.Instr.TheVariants as i
use Rattle.sim_code.specs.declared.instr.Lined.{Lined}
use Rattle.sim_code.specs.Code.{CodeOf}
use Rattle.sim_code.specs.Running.{AllRun}
use Rattle.sim_meaning.specs.Levels.{class_at}
use Rattle.codegen_expr.specs.declared.spot.Spot.{Spot}
use Rattle.codegen_expr.specs.Built.{ClassBuilt}
use Rattle.codegen_expr.specs.Drafts.{Becomes, DraftOf, Emits, Longer, MoreThunks, filled_in}
use Rattle.codegen_expr.specs.Sites.{Ahead, Is, Site, lined}
use Rattle.codegen.specs.BuiltProgram.{ConnectsBuilt, StatementBuilt, StatementsBuilt}
use Rattle.codegen.specs.CodeStm.{ArmOfAt, ConnectsAt, StmAt, StmsAt}
use Rattle.codegen.specs.EmitShared.{OpenAt}

-- the object on top is connected by what is this connection, if it is one
unfoldable pub WritesConnection : Bound → Spot → (old new : DraftOf) → (opening : TokenNo) → (connection : Option ℕ) → Stmt → Type 0
WritesConnection b w old new opening k a =
    Emits w old new (ConnectsBuilt (source_of b) w.text opening.0 k (λ text. StatementBuilt (source_of b) text (statement_syntax a)))
    (λ final site p q. ConnectsAt (source_of b) final site opening.0 k (λ site. StmAt (source_of b) final site 0 (statement_syntax a)) p q)

-- by what begins at a token
unfoldable pub WritesConnected : Bound → Spot → (old new : DraftOf) → (opening : TokenNo) → Stmt → Type 0
WritesConnected b w old new opening a = WritesConnection b w old new opening (block_around (source_of b) opening.0) a

-- the object on top is dropped, and this is done instead
unfoldable pub WritesOtherwise : Bound → Spot → (old new : DraftOf) → Option (Box Stmt Global) → Type 0
WritesOtherwise b w old new x =
    Emits w old new (StatementsBuilt (source_of b) w.text (branch_syntax x)) (λ final site p q. (y : ℕ) × Is final i.Pop p y × StmsAt (source_of b) final site 0 (branch_syntax x) y q)

-- ---- arms

abbrev pub ArmBuilt : Source → (text : ℕ) → Arm → Type 0
ArmBuilt s text a = ClassBuilt (class_at s a.class.token.0) × ConnectsBuilt s text a.opening (block_around s a.opening) (λ k. StatementBuilt s k a.body)

-- an arm in front of something else
abbrev pub ArmFrom : Source → CodeOf → Site → Arm → (More : ℕ → ℕ → Type 0) → ℕ → ℕ → Type 0
ArmFrom s code site a More p q = ArmOfAt s code site 0 (class_at s a.class.token.0) (ConnectsAt s code site a.opening (block_around s a.opening) (λ site. StmAt s code site 0 a.body)) More p q

abbrev pub ArmsFrom : Source → CodeOf → Site → List Arm → (More : ℕ → ℕ → Type 0) → ℕ → ℕ → Type 0
ArmsFrom s code site [] More p q = More p q
ArmsFrom s code site (a ∷ others) More p q = ArmFrom s code site a (ArmsFrom s code site others More) p q

abbrev pub AllBuilt : Source → (text : ℕ) → List Arm → Type 0
AllBuilt s text [] = ⊤
AllBuilt s text (a ∷ others) = ArmBuilt s text a × AllBuilt s text others

-- jumps that lead on to one place
abbrev pub LeadTo : CodeOf → (jumps : List ℕ) → (target : ℕ) → Type 0
LeadTo code [] q = ⊤
LeadTo code (k ∷ ks) q = (slice_get code.instrs k ≡ Some (lined (i.Jump (pos q)) 0)) × Ahead code k q × LeadTo code ks q

-- Behind old there is new, with holes at these places: once they are jumps to one place, what is meant stands there up to that place.
pub record OpenEmits (spot : Spot) (old new : DraftOf) (holes : List ℕ) (Built : Type 0) (Here : CodeOf → Site → (target : ℕ) → ℕ → ℕ → Type 0) : Type 0 where
  pub rest : List Lined
  pub front : new.instrs ≡ old.instrs ++ rest
  pub roomier : old.room ≤ new.room
  pub larger : old.size ≤ new.size
  pub classed : new.classes ≡ old.classes
  pub thunked : MoreThunks old.thunks new.thunks
  pub listed : Longer old.lists new.lists
  pub built : Built → old.whole ≡ true → new.whole ≡ true
  pub before : new.whole ≡ true → old.whole ≡ true
  pub only : new.whole ≡ true → Built
  pub fits : AllRun old.instrs → AllRun new.instrs
  pub holes_open : OpenAt new.instrs (length old.instrs) holes
  pub at : new.whole ≡ true → (final : CodeOf) (site : Site) → Becomes spot new final site → (target : ℕ) → LeadTo final holes target → Here final site target (length old.instrs) (length new.instrs)

-- an arm, but for the jump behind its statement
unfoldable pub WritesArm : Bound → Spot → (old new : DraftOf) → When → (over : ℕ) → Type 0
WritesArm b w old new a over =
    OpenEmits w old new (over ∷ []) (ArmBuilt (source_of b) w.text (arm_syntax a))
    (λ final site target p q. ArmFrom (source_of b) final site (arm_syntax a) (λ m t. m ≡ q) p target)

-- arms, but for these jumps
abbrev pub OpenArms : Bound → Spot → (old new : DraftOf) → (overs : List ℕ) → List Arm → Type 0
OpenArms b w old new overs xs =
    OpenEmits w old new overs (AllBuilt (source_of b) w.text xs) (λ final site target p q. ArmsFrom (source_of b) final site xs (λ m t. m ≡ q) p target)

unfoldable pub WritesOpenArms : Bound → Spot → (old new : DraftOf) → List When → (overs : List ℕ) → Type 0
WritesOpenArms b w old new whens overs = OpenArms b w old new overs (map arm_syntax whens)

-- in a loop: what is written of the rest is written of the whole
unfoldable pub OwesArms : Bound → Spot → (old : DraftOf) → List When → (now : DraftOf) → (overs : List ℕ) → List When → Type 0
OwesArms b w old all now overs rest = (end : DraftOf) (more : List ℕ) → OpenArms b w now end more (map arm_syntax rest) → OpenArms b w old end (overs ++ more) (map arm_syntax all)

-- an instruction in the place of each of some holes
abbrev pub all_filled : DraftOf → List ℕ → Instr → DraftOf
all_filled c [] x = c
all_filled c (k ∷ ks) x = all_filled (filled_in c k x) ks x

unfoldable pub FillsAll : (old new : DraftOf) → List ℕ → (target : ℤ) → Type 0
FillsAll old new ks target = new ≡ all_filled old ks (i.Jump target)

-- in a loop: with the rest filled, all are
unfoldable pub OwesFilled : (old : DraftOf) → List ℕ → (target : ℤ) → (now : DraftOf) → List ℕ → Type 0
OwesFilled old all target now rest = all_filled now rest (i.Jump target) ≡ all_filled old all (i.Jump target)
