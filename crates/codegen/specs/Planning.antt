-- What is planned of the blocks of the code, by the parts of the tree.
use Rattle.std.specs.Prelude.{◌≡◌, ◌<◌, ◌≤◌, ◌+◌, ℕ, suc, Bool, true, false, List, [], ◌∷◌, ◌++◌, length, map, slice_get, slice_set, Option, Some, None}
use Rattle.sim_scope.specs.declared.bound.Bound.{Bound}
use Rattle.sim_scope.specs.Source.{Source, source_of}
use Rattle.sim_scope.specs.Tables.{Tables}
use Rattle.sim_tree.specs.declared.stmt.TypeName.{TypeName}
use Rattle.sim_code.specs.declared.code.CodeType.{CodeType}
use Rattle.sim_meaning.specs.Attributes.{is_connection}
use Rattle.sim_meaning.specs.Entries.{cells_from, numbers_of, with_result}
use Rattle.sim_meaning.specs.Texts.{Text, text}
use Rattle.program_texts.specs.declared.tree.TextTree.{TextTree}
use Rattle.program_texts.specs.declared.tree.TextTree.TheVariants as tree
use Rattle.program_texts.specs.TextTrees.{AreTexts, text_in}
use Rattle.codegen_expr.specs.Drafts.{PlannedOf, class_of, planned_front, planned_or_none}
use Rattle.codegen_expr.specs.Known.{truth_or_false}
use Rattle.codegen_expr.specs.Sites.{block_number, hidden_in, prefix_of}
use Rattle.codegen.specs.declared.plan.Planning.{Planning}
use Rattle.codegen.specs.Agrees.{Agrees}
use Rattle.codegen.specs.BuiltProgram.{texts_of}
use Rattle.codegen.specs.Compiled.{type_of_cell}
use Rattle.codegen.specs.EmitProgram.{PlanFor, Plans, is_planned}

abbrev pub result_in : TextTree → Option TypeName
result_in (tree.Procedure result p) = result.now
result_in _ = None

-- the own part of the frames of a text with a result of this type, if it has one
unfoldable pub OwnOf : Bound → (text : ℕ) → Option TypeName → List CodeType → Type 0
OwnOf b k result types = types ≡ map type_of_cell (with_result result (cells_from (source_of b) (numbers_of (source_of b) k)) ++ hidden_in (source_of b) k)

-- the same by the part of the tree
unfoldable pub OwnTypes : Bound → (text : ℕ) → TextTree → List CodeType → Type 0
OwnTypes b k x types = OwnOf b k (result_in x) types

-- whether a text has a number as a class
abbrev pub has_number : TextTree → Bool
has_number (tree.Class prefix c p) = true
has_number (tree.ClassOfStatement prefix c) = true
has_number (tree.Prefixed prefix p) = true
has_number (tree.Standard which) = true
has_number _ = false

-- ---- one text

-- the number of a class that is planned when so many have one
unfoldable pub NextClass : (last : ℕ) → TextTree → (class : ℕ) → Type 0
NextClass last x n = has_number x ≡ true → n ≡ suc last

-- what is planned of what stands in front of a text, where the first is what is planned of nothing
unfoldable pub IsFront : Bound → List PlannedOf → (nothing : PlannedOf) → (text : ℕ) → PlannedOf → Type 0
IsFront b plan nothing k front = nothing ≡ planned_or_none None → front ≡ planned_front (source_of b) plan k

-- all types of what is in front, then these, then temps
unfoldable pub AreTypesBehind : (types front own : List CodeType) → Type 0
AreTypesBehind types front own = (temps : List CodeType) × (types ≡ front ++ (own ++ temps))

-- what is planned behind what is planned of the class in front, with so many cells, this own part and this number
pub record PlannedBehind (p front : PlannedOf) (count : ℕ) (own : List CodeType) (class : ℕ) : Type 0 where
  pub numbered : p.class ≡ class
  pub cells : p.cells ≡ front.cells + count
  pub room : front.room ≤ p.room
  pub types : AreTypesBehind p.types front.types own

-- ---- what is planned so far

-- nothing is planned of so many blocks
unfoldable pub AreBlank : List PlannedOf → (count : ℕ) → Type 0
AreBlank plan n = (length plan ≡ n) × ((j : ℕ) → class_of plan j ≡ 0)

-- none of so many blocks is planned
unfoldable pub NoMarks : List Bool → (count : ℕ) → Type 0
NoMarks done n = (length done ≡ n) × ((j : ℕ) → truth_or_false (slice_get done j) ≡ false)

-- whether a block is planned
unfoldable pub is_done : Planning → (block : ℕ) → Bool
is_done p j = truth_or_false (slice_get p.done.items j)

-- what stands in front of a text is planned, if something does
unfoldable pub FrontDone : Source → Planning → (front : Option ℕ) → Type 0
FrontDone s p front = (u : ℕ) → front ≡ Some u → is_done p (block_number s u) ≡ true

-- What is planned is right. No class has a higher number than the last one.
pub record Fitting (s : Source) (p : Planning) : Type 0 where
  pub plans : length p.plan.items ≡ block_number s (length (texts_of s))
  pub marks : length p.done.items ≡ block_number s (length (texts_of s))
  pub each : (k : ℕ) (x : Text) → text s k ≡ Some x → is_planned x ≡ true → is_done p (block_number s k) ≡ true → PlanFor s p.plan.items k x × FrontDone s p (prefix_of s.tables k)
  pub numbers : (j : ℕ) → class_of p.plan.items j ≤ p.last

-- what is planned of a block is put in its place
pub record Put (old new : Planning) (block class : ℕ) (planned : PlannedOf) : Type 0 where
  pub plan : new.plan.items ≡ slice_set old.plan.items block planned
  pub done : new.done.items ≡ slice_set old.done.items block true
  pub last : old.last ≤ new.last
  pub under : class ≤ new.last

unfoldable pub PutsPlanned : (old new : Planning) → (block class : ℕ) → PlannedOf → Type 0
PutsPlanned old new j class p = j < length old.plan.items → j < length old.done.items → Put old new j class p

-- a text that is no connection
pub record Solid (s : Source) (k : ℕ) : Type 0 where
  pub given : Text
  pub is : text s k ≡ Some given
  pub solid : is_connection (Some given) ≡ false

-- this text is planned too, and all that was planned still is
pub record More (s : Source) (old new : Planning) (k : ℕ) : Type 0 where
  pub fitting : Fitting s new
  pub keeps : (j : ℕ) → is_done old j ≡ true → is_done new j ≡ true
  pub done : is_done new (block_number s k) ≡ true

-- a text that is not planned yet, where what is in front of it is
unfoldable pub PlansText : Bound → (old new : Planning) → (number : ℕ) → TextTree → Type 0
PlansText b old new k x =
    Agrees (source_of b) → text (source_of b) k ≡ Some (text_in x) → is_connection (Some (text_in x)) ≡ false → Fitting (source_of b) old → is_done old (block_number (source_of b) k) ≡ false → FrontDone (source_of b) old (prefix_of b.scopes k)
    → More (source_of b) old new k

-- a text where what is in front of it is planned
unfoldable pub PlansLevel : Bound → (old new : Planning) → List TextTree → (number : ℕ) → Type 0
PlansLevel b old new ts k = Agrees (source_of b) → AreTexts b.program ts → Solid (source_of b) k → Fitting (source_of b) old → FrontDone (source_of b) old (prefix_of b.scopes k) → More (source_of b) old new k

-- ---- what stands in front of a text

-- each of these has the next one in front of it; the first is this text, and what is in front of the last one is next
pub data Links (tables : Tables) (text : ℕ) : (chain : List ℕ) → (next : Option ℕ) → Type 0 where
  start : {next : Option ℕ} → next ≡ Some text → Links tables text [] next
  further : {chain longer : List ℕ} → {u : ℕ} → {next : Option ℕ} → Links tables text chain (Some u) → longer ≡ chain ++ (u ∷ []) → next ≡ prefix_of tables u → Links tables text longer next

-- the last one has nothing in front of it that is not planned
pub record Chain (s : Source) (p : Planning) (text : ℕ) (chain : List ℕ) : Type 0 where
  pub next : Option ℕ
  pub links : Links s.tables text chain next
  pub front : FrontDone s p next

unfoldable pub ChainOf : Bound → Planning → (text : ℕ) → (chain : List ℕ) → Type 0
ChainOf b p k chain = Agrees (source_of b) → Chain (source_of b) p k chain

-- a text and all that stand in front of it
unfoldable pub PlansChain : Bound → (old new : Planning) → List TextTree → (number : ℕ) → Type 0
PlansChain b old new ts k = Agrees (source_of b) → AreTexts b.program ts → Solid (source_of b) k → Fitting (source_of b) old → More (source_of b) old new k

-- ---- all texts

-- the first texts are planned
pub record PlannedTo (s : Source) (p : Planning) (done : ℕ) : Type 0 where
  pub fitting : Fitting s p
  pub first : (k : ℕ) (x : Text) → k < done → text s k ≡ Some x → is_planned x ≡ true → is_done p (block_number s k) ≡ true

unfoldable pub PlansTo : Bound → Planning → List TextTree → (done : ℕ) → Type 0
PlansTo b p ts n = Agrees (source_of b) → AreTexts b.program ts → PlannedTo (source_of b) p n

-- what is planned is right
unfoldable pub IsPlan : Bound → List PlannedOf → List TextTree → Type 0
IsPlan b plan ts = Agrees (source_of b) → AreTexts b.program ts → Plans (source_of b) plan
