-- The instructions that stand for the operators of a program.
use Rattle.std.proofs.Common.{◌≡◌, ◌<◌, ◌≤◌, ◌+◌, ◌*◌, ℕ, suc, Bool, true, false, List, [], ◌∷◌, length, Option, Some}
use Rattle.std.specs.Prelude.{pos}
use Rattle.sim_scope.specs.Access.{encloser}
use Rattle.sim_scope.specs.Source.{Source, level_of}
use Rattle.sim_values.specs.declared.kind.Kind.{Kind as TypeKind}
use Rattle.sim_values.specs.declared.standard.Standard.{Standard}
use Rattle.sim_values.specs.Standard.{row_of}
use Rattle.sim_tree.specs.Syntax.{Expression, Expressions}
use Rattle.sim_code.specs.declared.instr.Instr.{Instr}
use Rattle.sim_code.specs.declared.instr.Instr.TheVariants as i
use Rattle.sim_code.specs.Code.{CodeOf}
use Rattle.sim_code.specs.Machine.{Frames, Value}
use Rattle.sim_code.specs.Scheduling.{Timing, has_operand}
use Rattle.sim_meaning.specs.Levels.{has_levels, is_class}
use Rattle.sim_meaning.specs.Pending.{Instances, Key, Target, Term, ToAddress, ToCell, ToNamed, ToPlace, ToReference, ToReferenceAt, ToText, ToTextAt, ToTextOf, Use, Val}
use Rattle.sim_meaning.specs.Entries.{formals_of}
use Rattle.sim_meaning.specs.Meaning.{has_result}
use Rattle.sim_meaning.specs.Statements.{has_value}
use Rattle.sim_meaning.specs.Texts.{text}
use Rattle.sim_meaning.specs.Texts as Texts
use Rattle.codegen_expr.specs.Sites.{Ahead, At, HasCell, Is, Pushes, Site, block_number, class_number, expression_temps, frame_text, own_end, slot_of}
use Rattle.codegen_expr.specs.CodeExpr.{CheckAt, StandardIs}
use Rattle.codegen.specs.CodeArrays.{element_number}
use Rattle.codegen.specs.Agrees.{is_prefixed}
use Rattle.codegen.specs.CodeStm.{activation_number}
use Rattle.sim_relate.proofs.Known.{AllRead, Any, IsLink, IsRead, Kind, LinkTo, Named, OwnerOf, Reaches, Refers, ValAt, anys, attribute_kind, given, is_declared, is_fixed, placed, LeavesIs, LinkOf}
use Rattle.sim_relate.proofs.Waiting.{kind_used}
use Rattle.sim_relate.proofs.Trees.{Classed, JoinsIs, OriginIs, PassesIs, UseIs, ProcedureIs, FoundIs, FetchesAt, FitsIs, ProcessIs, SetIs, SimulationNameIs, TermAt, OperandAt, IsVirtual}

-- the operand of an activation, if there is one, is on top of the process
abbrev pub operands_with : Bool → ℕ
operands_with false = 1
operands_with true = 2

abbrev pub operands_of : Timing → ℕ
operands_of t = operands_with (has_operand t)

module _ (s : Source) (code : CodeOf) where
  -- ---- operators: `before` are the kinds of the values in hand before it, `behind` those behind it

  -- an instruction that takes so many values and leaves one, or none
  pub record Works (x : Instr) (line taken : ℕ) (leaves : Bool) (p q : ℕ) (before behind : List Kind) : Type 0 where
    pub is : At code x line p q
    pub left : List Kind
    pub «in» : before ≡ anys taken left
    pub out : behind ≡ given leaves left

  pub record WorksAnyLine (x : Instr) (taken : ℕ) (leaves : Bool) (p q : ℕ) (before behind : List Kind) : Type 0 where
    pub line : ℕ
    pub works : Works x line taken leaves p q before behind

  -- one of two parts, where the choice is to be made
  pub record ChoiceIs (First Second : ℕ → ℕ → Type 0) (p q : ℕ) : Type 0 where
    pub z : ℕ
    pub w : ℕ
    pub x : ℕ
    pub jump : Is code (i.JumpF (pos x)) p z
    pub leads : Ahead code p x
    pub first : First z w
    pub over : Is code (i.Jump (pos q)) w x
    pub past : Ahead code w q
    pub second : Second x q

  pub record IfIs (m : Instances) (inst : ℕ) (site : Site) (a b : Term) (p q : ℕ) (before behind : List Kind) : Type 0 where
    pub left : List Kind
    pub choice : ChoiceIs (OperandAt s code m inst site (length left) a) (OperandAt s code m inst site (length left) b) p q
    pub «in» : before ≡ anys 1 left
    pub out : behind ≡ anys 1 left

  pub record CallOpIs (site : Site) (k actuals line p q : ℕ) (before behind : List Kind) : Type 0 where
    pub text : ℕ
    pub procedure : ProcedureIs s code k text
    pub is : At code (i.Call (pos (block_number s k)) (pos actuals)) line p q
    pub as_many : actuals ≡ length (formals_of s k)
    pub left : List Kind
    pub fits : length left < site.room
    pub link : Kind
    pub links : IsLink link text
    pub «in» : before ≡ anys actuals (link ∷ left)
    pub out : behind ≡ given (has_result procedure.result) left

  pub record NewOpIs (site : Site) (k actuals line p q : ℕ) (before behind : List Kind) : Type 0 where
    pub text : ℕ
    pub is : At code (i.New (pos (class_number s code k)) (pos actuals)) line p q
    pub stands_in : encloser s.tables k ≡ Some text
    pub class : is_class (Texts.text s k) ≡ true
    pub left : List Kind
    pub fits : length left < site.room
    pub «in» : before ≡ anys actuals (LinkTo text ∷ left)
    pub out : behind ≡ anys 1 left

  -- the entry of a prefixed block, which stands in the text from which it is entered
  pub record PrefixedOpIs (site : Site) (k actuals line p q : ℕ) (before behind : List Kind) : Type 0 where
    pub is : At code (i.Pref (pos (block_number s k)) (pos actuals)) line p q
    pub stands_in : encloser s.tables k ≡ Some site.text
    pub has : has_levels (Texts.text s k) ≡ true
    pub no_class : is_class (Texts.text s k) ≡ false
    pub prefixed : is_prefixed s.tables k ≡ true
    pub «in» : before ≡ anys actuals behind

  pub record AttributeOpIs (text : ℕ) (key : Key) (class : Option ℕ) (line p q : ℕ) (before behind : List Kind) : Type 0 where
    pub left : List Kind
    pub found : FoundIs s code (attribute_kind s key class) text key line p q
    pub «in» : before ≡ anys 1 left
    pub out : behind ≡ attribute_kind s key class ∷ left

  -- the text around the procedure of the object in hand
  pub record ObjectOpIs (k line p q : ℕ) (before behind : List Kind) : Type 0 where
    pub is : At code i.NotNone line p q
    pub text : ℕ
    pub around : encloser s.tables k ≡ Some text
    pub left : List Kind
    pub «in» : before ≡ anys 1 left
    pub out : behind ≡ OwnerOf text ∷ left

  -- the procedure that matches a virtual in the object in hand
  pub record VirtualOpIs (virtual line p q : ℕ) (before behind : List Kind) : Type 0 where
    pub is : At code (i.Virt (pos virtual)) line p q
    pub declared : IsVirtual s virtual
    pub left : List Kind
    pub «in» : before ≡ anys 1 left
    pub out : behind ≡ anys 1 left

  -- the procedure that is declared in the instance in hand, or that the object in hand has
  pub record ProcedureOpIs (k p q : ℕ) (before behind : List Kind) : Type 0 where
    pub is : Is code (i.ProcVal (pos (block_number s k))) p q
    pub text : ℕ
    pub procedure : ProcedureIs s code k text
    pub left : List Kind
    pub link : Kind
    pub links : IsLink link text
    pub «in» : before ≡ link ∷ left
    pub out : behind ≡ anys 1 left

  -- a procedure in hand is held against its actual parameters; one of these is passed; and it is called
  pub record CheckOpIs (es : Expressions) (line p q : ℕ) (before behind : List Kind) : Type 0 where
    pub is : CheckAt s code line es p q
    pub left : List Kind
    pub «in» : before ≡ anys 1 left
    pub out : behind ≡ anys 1 left

  pub record ParameterOpIs (site : Site) (number : ℕ) (e : Expression) (line p q : ℕ) (before behind : List Kind) : Type 0 where
    pub was : ℕ
    pub passes : PassesIs s code site (length before) was number line e p q
    pub out : behind ≡ anys 1 before

  pub record CallValueOpIs (site : Site) (actuals : ℕ) (leaves : Bool) (line p q : ℕ) (before behind : List Kind) : Type 0 where
    pub is : At code (i.CallV (pos actuals)) line p q
    pub left : List Kind
    pub fits : length left < site.room
    pub «in» : before ≡ anys (suc actuals) left
    pub out : behind ≡ given leaves left

  -- the object of `process` itself in hand keeps a token
  pub record OriginOpIs (site : Site) (k token line p q : ℕ) (before behind : List Kind) : Type 0 where
    pub left : List Kind
    pub is : OriginIs s code site (length left) k token line p q
    pub «in» : before ≡ anys 1 left
    pub out : behind ≡ anys 1 left

  pub record QualifiedElementOpIs (n line k p q : ℕ) (before behind : List Kind) : Type 0 where
    pub is : At code (i.Elem (pos n) (pos (class_number s code k))) line p q
    pub is_class : Classed s k
    pub left : List Kind
    pub «in» : before ≡ anys (suc n) left
    pub out : behind ≡ Refers k ∷ left

  pub record FitsOpIs (site : Site) (k line p q : ℕ) (before behind : List Kind) : Type 0 where
    pub left : List Kind
    pub fits : FitsIs s code site (length left) k line p q
    pub «in» : before ≡ anys 1 left
    pub out : behind ≡ anys 1 left

  -- a use of a parameter by name
  pub record NamedOpIs (m : Instances) (inst : ℕ) (site : Site) (j : ℕ) (key : Key) (wanted : Use) (p q : ℕ) (before behind : List Kind) : Type 0 where
    pub is : UseIs s code m inst site (length before) j key wanted p q
    pub out : behind ≡ kind_used wanted ∷ before

  pub record FetchOpIs (site : Site) (p q : ℕ) (before behind : List Kind) : Type 0 where
    pub kind : Kind
    pub left : List Kind
    pub fetches : FetchesAt s code site (length left) kind p q
    pub «in» : before ≡ kind ∷ left
    pub out : behind ≡ Any ∷ left

  -- a value changes places with where a variable lies
  pub record SwapIs (p q : ℕ) (before behind : List Kind) : Type 0 where
    pub is : Is code i.Swap p q
    pub first : Kind
    pub left : List Kind
    pub «in» : before ≡ first ∷ Any ∷ left
    pub out : behind ≡ Any ∷ first ∷ left

  -- where a reference may be put
  pub data IsReferred : Kind → Type 0 where
    of_class : {k : ℕ} → Classed s k → IsReferred (Refers k)
    by_name : IsReferred Named

  pub record ReferIs (line p q : ℕ) (before behind : List Kind) : Type 0 where
    pub is : At code i.Put line p q
    pub place : Kind
    pub refers : IsReferred place
    pub left : List Kind
    pub «in» : before ≡ Any ∷ place ∷ left
    pub out : behind ≡ left

  pub record StandardOpIs (site : Site) (name : Standard) (line p q : ℕ) (before behind : List Kind) : Type 0 where
    pub left : List Kind
    pub many : ℕ
    pub is : StandardIs code site (length left) line name many p q
    pub «in» : AllRead many before left
    pub out : behind ≡ given (has_value (row_of name).result) left

  -- a procedure of SIMSET takes its object and its actual parameter, if it has one
  pub record SetOpIs (name : Standard) (p q : ℕ) (before behind : List Kind) : Type 0 where
    pub left : List Kind
    pub many : ℕ
    pub is : SetIs s code name many p q
    pub «in» : before ≡ anys many left
    pub out : behind ≡ given (has_value (row_of name).result) left

  -- what a process tells, which is on top
  pub record ProcessOpIs (name : Standard) (line p q : ℕ) (before behind : List Kind) : Type 0 where
    pub is : ProcessIs s code name line p q
    pub left : List Kind
    pub «in» : before ≡ anys 1 left
    pub out : behind ≡ anys 1 left

  -- a procedure of a simulation block, whose link is below the actual parameter, if there is one
  pub record SimulationOpIs (m : Instances) (inst : ℕ) (name : Standard) (line p q : ℕ) (before behind : List Kind) : Type 0 where
    pub many : ℕ
    pub is : SimulationNameIs s code name many line p q
    pub text : ℕ
    pub block : ℕ
    pub reaches : Reaches s m inst text block
    pub left : List Kind
    pub «in» : before ≡ anys many (LinkOf block ∷ left)
    pub out : behind ≡ given (has_value (row_of name).result) left

  -- the link to the simulation block of an activation
  pub record BlockOpIs (m : Instances) (inst : ℕ) (site : Site) (j p q : ℕ) (before behind : List Kind) : Type 0 where
    pub text : ℕ
    pub link : Pushes code site (length before) (i.Link (pos (level_of s text))) p q
    pub reaches : Reaches s m inst text j
    pub out : behind ≡ LinkOf j ∷ before

  pub record ActivateOpIs (m : Instances) (inst : ℕ) (again : Bool) (timing : Timing) (line p q : ℕ) (before behind : List Kind) : Type 0 where
    pub is : At code (i.Act (pos (activation_number again timing))) line p q
    pub text : ℕ
    pub block : ℕ
    pub reaches : Reaches s m inst text block
    pub «in» : before ≡ anys (operands_of timing) (LinkOf block ∷ behind)

  -- the object of a process itself
  pub record SelfOpIs (site : Site) (p q : ℕ) (before behind : List Kind) : Type 0 where
    pub push : Pushes code site (length before) (i.This (pos (level_of s site.text))) p q
    pub out : behind ≡ anys 1 before

  pub record JoinOpIs (site : Site) (line p q : ℕ) (before behind : List Kind) : Type 0 where
    pub left : List Kind
    pub joins : JoinsIs s code site (length left) line p q
    pub «in» : before ≡ anys 2 left
    pub out : behind ≡ anys 1 left

  pub record AgainIs (site : Site) (p q : ℕ) (before behind : List Kind) : Type 0 where
    pub is : Pushes code site (length before) i.Dup p q
    pub left : List Kind
    pub «in» : before ≡ anys 1 left
    pub out : behind ≡ anys 2 left

  pub record ArrayIs (site : Site) (kind : TypeKind) (dimensions line p q : ℕ) (before behind : List Kind) : Type 0 where
    pub is : At code (i.Array (element_number kind) (pos dimensions)) line p q
    pub some : 0 < dimensions
    pub left : List Kind
    pub fits : length left < site.room
    pub «in» : before ≡ anys (2 * dimensions) left
    pub out : behind ≡ anys 1 left

  -- the value on top goes to a cell
  pub record CellStoreIs (m : Instances) (inst j : ℕ) (key : Key) (p q : ℕ) : Type 0 where
    pub text : ℕ
    pub is : Is code (i.Store (pos (level_of s text)) (pos (slot_of s code text key))) p q
    pub reaches : Reaches s m inst text j
    pub own : frame_text s text ≡ text
    pub has : HasCell s text key
    pub varies : is_fixed s key ≡ false
    pub declared : is_declared key ≡ true

  -- a value on top of where it goes
  pub record PutsOn (before behind : List Kind) : Type 0 where
    pub place : Kind
    pub reads : IsRead place
    pub «in» : before ≡ Any ∷ place ∷ behind

  -- a reference goes to where a parameter by name lies, which has a class of its own
  pub record NamedStoreIs (site : Site) (k line p q : ℕ) (before behind : List Kind) : Type 0 where
    pub x : ℕ
    pub fits : FitsOpIs site k line p x before before
    pub put : ReferIs line x q before behind

  abbrev pub TargetAt : Instances → (inst : ℕ) → Site → Target → (p q : ℕ) → (before behind : List Kind) → Type 0
  TargetAt m inst site (ToCell j key) p q before behind = CellStoreIs m inst j key p q × (before ≡ anys 1 behind)
  TargetAt m inst site ToAddress p q before behind = Is code i.Put p q × PutsOn before behind
  TargetAt m inst site (ToText line) p q before behind = At code i.AssignT line p q × (before ≡ anys 2 behind)
  TargetAt m inst site (ToTextOf j key line) p q before behind = At code i.AssignT line p q × (before ≡ anys 2 behind)
  TargetAt m inst site (ToReference line) p q before behind = ReferIs line p q before behind
  TargetAt m inst site (ToNamed k line) p q before behind = NamedStoreIs site k line p q before behind
  TargetAt m inst site _ p q before behind = ⊥

  -- the value in hand goes to a place that is found then
  pub record PlaceStoreIs (m : Instances) (inst : ℕ) (site : Site) (a : Term) (kind : Kind) (Put : ℕ → ℕ → Type 0) (p q : ℕ) (before behind : List Kind) : Type 0 where
    pub x : ℕ
    pub y : ℕ
    pub place : TermAt s code m inst site (suc (length behind)) a p x
    pub is_place : (ks : List Kind) → LeavesIs s a ks (kind ∷ ks)
    pub under : Is code i.Swap x y
    pub put : Put y q
    pub «in» : before ≡ Any ∷ behind

  abbrev pub StoreIs : Instances → (inst : ℕ) → Site → Target → (p q : ℕ) → (before behind : List Kind) → Type 0
  StoreIs m inst site (ToPlace a) p q before behind = (kind : Kind) × IsRead kind × PlaceStoreIs m inst site a kind (λ x y. Is code i.Put x y) p q before behind
  StoreIs m inst site (ToTextAt a line) p q before behind = At code i.AssignT line p q × (before ≡ anys 2 behind)
  StoreIs m inst site (ToReferenceAt a line) p q before behind = (k : ℕ) × Classed s k × PlaceStoreIs m inst site a (Refers k) (λ x y. At code i.Put line x y) p q before behind
  StoreIs m inst site t p q before behind = TargetAt m inst site t p q before behind

  -- a temp of statements: it stands behind those of expressions, which stand behind the own part of the text
  pub record TempIs (site : Site) (temp : ℕ) : Type 0 where
    pub behind : own_end s code (frame_text s site.text) + expression_temps ≤ temp
    pub within : temp < site.size

  -- what is in a temp goes to one left side after another
  abbrev pub GivesIs : Instances → (inst : ℕ) → Site → (temp : ℕ) → List Target → (p q : ℕ) → (before behind : List Kind) → Type 0
  GivesIs m inst site temp [] p q before behind = (q ≡ p) × (behind ≡ before)
  GivesIs m inst site temp (t ∷ ts) p q before behind =
      (x : ℕ) × (y : ℕ) × (next : List Kind) × Pushes code site (length before) (i.Load (pos (level_of s site.text)) (pos temp)) p x × TargetAt m inst site t x y (Any ∷ before) next × GivesIs m inst site temp ts y q next behind

  pub record ShareIs (m : Instances) (inst : ℕ) (site : Site) (ts : List Target) (p q : ℕ) (before behind : List Kind) : Type 0 where
    pub temp : ℕ
    pub unused : site.used ≤ temp
    pub is_temp : TempIs site temp
    pub x : ℕ
    pub left : List Kind
    pub kept : Is code (i.Store (pos (level_of s site.text)) (pos temp)) p x
    pub gives : GivesIs m inst (record site { used = suc temp }) temp ts x q left behind
    pub «in» : before ≡ anys 1 left

  pub record GiveIs (m : Instances) (fs : Frames) (inst : ℕ) (site : Site) (v : Val) (ts : List Target) (p q : ℕ) (before behind : List Kind) : Type 0 where
    pub temp : ℕ
    pub x : Value
    pub like : ValAt s code m v x
    pub last : site.used ≡ suc temp
    pub is_temp : TempIs site temp
    pub holds : placed fs inst temp ≡ Some x
    pub gives : GivesIs m inst site temp ts p q before behind
