-- What is written of several left sides.
use Rattle.std.specs.Prelude.{◌≡◌, ⊤, ℕ, true, pos, List, [], ◌∷◌, reverse}
use Rattle.sim_scope.specs.declared.bound.Bound.{Bound}
use Rattle.sim_scope.specs.Source.{Source, level_of, line_at, source_of}
use Rattle.sim_tree.specs.declared.expr.Expr.{Expr}
use Rattle.sim_tree.specs.declared.stmt.Assigned.{Assigned}
use Rattle.sim_tree.specs.declared.stmt.Assignment.{Assignment}
use Rattle.sim_tree.specs.SyntaxOf.{syntax_of}
use Rattle.sim_code.specs.declared.instr.Instr.TheVariants as i
use Rattle.sim_code.specs.Code.{CodeOf}
use Rattle.codegen_expr.specs.declared.spot.Spot.{Spot}
use Rattle.codegen_expr.specs.Drafts.{DraftOf, Emits}
use Rattle.codegen_expr.specs.Sites.{Pushes, Site}
use Rattle.codegen.specs.declared.several.Side.{Side}
use Rattle.codegen.specs.BuiltProgram.{LeftBuilt, LeftsBuilt}
use Rattle.codegen.specs.CodeLeft.{GivesAt, LeftsAt, StoreAt, Stored, below, stored}

-- a left side with the sign behind it
pub record SideOf : Type 0 where
  pub sign : Assignment
  pub token : ℕ
  pub left : Expr

abbrev pub side_in : Side → SideOf
side_in x = record { sign = x.sign; token = x.token.0; left = x.left.now }

-- the left sides
abbrev pub sides : Expr → List Assigned → List SideOf
sides x [] = []
sides x (r ∷ rs) = record { sign = r.sign; token = r.token.0; left = x } ∷ sides r.value rs

abbrev pub stored_side : Source → SideOf → Stored
stored_side s x = stored s x.sign (line_at s x.token) (syntax_of x.left)

abbrev pub stored_all : Source → List SideOf → List Stored
stored_all s [] = []
stored_all s (x ∷ xs) = stored_side s x ∷ stored_all s xs

-- ---- addresses, from left to right

-- m values are on the stack, and nothing more is written
abbrev pub EndsOn : (m : ℕ) → ℕ → ℕ → ℕ → Type 0
EndsOn m n p q = (m ≡ n) × (q ≡ p)

-- the address of a left side on n values, if it has one; m values are there then
unfoldable pub WritesAddress : Bound → Spot → (n : ℕ) → (old new : DraftOf) → (m : ℕ) → SideOf → Type 0
WritesAddress b w n old new m x =
    let t = stored_side (source_of b) x in
    Emits w old new (LeftBuilt (source_of b) w.text t) (λ final site p q. LeftsAt (source_of b) final site n (t ∷ []) (EndsOn m) p q)

unfoldable pub WritesAddresses : Bound → Spot → (n : ℕ) → (old new : DraftOf) → (m : ℕ) → List SideOf → Type 0
WritesAddresses b w n old new m xs =
    let ts = stored_all (source_of b) xs in
    Emits w old new (LeftsBuilt (source_of b) w.text ts) (λ final site p q. LeftsAt (source_of b) final site n ts (EndsOn m) p q)

-- in a loop: what is written of the rest is written of the whole
unfoldable pub OwesAddresses : Bound → Spot → (old : DraftOf) → List SideOf → (n : ℕ) → (now : DraftOf) → List SideOf → Type 0
OwesAddresses b w old xs n now rest = (end : DraftOf) (m : ℕ) → WritesAddresses b w n now end m rest → WritesAddresses b w 0 old end m xs

-- ---- where the value goes, from right to left; the left sides are built where what stands before is whole

-- the value in the temp goes to one left side, on n values, of which m are left
abbrev pub GiveAt : Source → CodeOf → Site → (temp n m : ℕ) → Stored → ℕ → ℕ → Type 0
GiveAt s code site temp n m t p q = (m ≡ below t n) × ((y : ℕ) × Pushes code site n (i.Load (pos (level_of s site.text)) (pos temp)) p y × StoreAt s code site n t y q)

unfoldable pub WritesGive : Bound → Spot → (n : ℕ) → (old new : DraftOf) → (m : ℕ) → SideOf → Type 0
WritesGive b w n old new m x =
    let t = stored_side (source_of b) x in
    (old.whole ≡ true → LeftBuilt (source_of b) w.text t) → Emits w old new ⊤ (λ final site p q. GiveAt (source_of b) final site w.used n m t p q)

-- it goes to these, the last one first
unfoldable pub WritesGives : Bound → Spot → (n : ℕ) → (old new : DraftOf) → List SideOf → Type 0
WritesGives b w n old new xs =
    let ts = stored_all (source_of b) xs in
    (old.whole ≡ true → LeftsBuilt (source_of b) w.text ts) → Emits w old new ⊤ (λ final site p q. GivesAt (source_of b) final site w.used n (reverse ts) p q)

-- how many of n values are left behind several
abbrev pub after : List Stored → ℕ → ℕ
after [] n = n
after (t ∷ ts) n = after ts (below t n)

-- in a loop: it went to these, and m values are left
unfoldable pub HasGiven : Bound → Spot → (n : ℕ) → (old now : DraftOf) → (m : ℕ) → List SideOf → Type 0
HasGiven b w n old now m xs =
    let ts = stored_all (source_of b) xs in
    (old.whole ≡ true → LeftsBuilt (source_of b) w.text ts)
    → Emits w old now ⊤ (λ final site p q. (m ≡ after (reverse ts) n) × GivesAt (source_of b) final site w.used n (reverse ts) p q)
