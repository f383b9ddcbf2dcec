-- Which code stands for a `for` list.
use Rattle.std.specs.Prelude.{◌≡◌, ◌<◌, ◌≤◌, ⊤, ℕ, suc, Bool, true, false, pos, List, [], ◌∷◌, length, slice_get, Option, Some, None}
use Rattle.sim_scope.specs.Source.{Source, level_of, line_at}
use Rattle.sim_tree.specs.declared.stmt.Assignment.{Assignment}
use Rattle.sim_tree.specs.declared.stmt.Assignment.TheVariants as assignment
use Rattle.sim_tree.specs.Syntax.{Element, Expression, Statement}
use Rattle.sim_tree.specs.Syntax as syntax
use Rattle.sim_code.specs.declared.instr.Instr.TheVariants as i
use Rattle.sim_code.specs.Code.{CodeOf}
use Rattle.sim_meaning.specs.Pending.{Key}
use Rattle.codegen_expr.specs.Sites.{Ahead, At, HasCell, Inside, Is, Pushes, Site, slot_of}
use Rattle.codegen_expr.specs.CodeExpr.{ExprAt, PlaceAt, ReferencePlaceAt}
use Rattle.codegen.specs.CodeLeft.{AtAttribute, InCell, Stored, stored_left}

-- The variable: a cell, by the text that declares it and its key; or a variable that is found anew each time, as an attribute of a connected
-- object. Of both it is told whether the variable takes values, or its text gets the characters of others, with the line of the sign. Or a
-- reference, which is held against its class each time, at that line.
pub data Variable : Type 0 where
  OfCell : (text : ℕ) → Key → (assigned : Option ℕ) → Variable
  OfPlace : Expression → (assigned : Option ℕ) → Variable
  OfReference : Expression → (line : ℕ) → Variable

-- whether a variable that is no reference takes values, by whether it is a text, and by the sign
abbrev pub assigned_by : (text : Bool) → Assignment → (line : ℕ) → Option (Option ℕ)
assigned_by true assignment.Value line = Some (Some line)
assigned_by true assignment.Reference line = Some None
assigned_by false assignment.Value line = Some None
assigned_by false assignment.Reference line = None

abbrev pub variable_stored : Stored → (assigned : Option ℕ) → Option Variable
variable_stored (InCell text key) assigned = Some (OfCell text key assigned)
variable_stored (AtAttribute e) assigned = Some (OfPlace e assigned)
variable_stored _ assigned = None

-- which variable an expression is
abbrev pub variable_of : Source → (line : ℕ) → Expression → (assigned : Option (Option ℕ)) → Option Variable
variable_of s line e None = Some (OfReference e line)
variable_of s line e (Some assigned) = variable_stored (stored_left s e) assigned

-- the variable takes values that are no references
abbrev pub TakesValues : Variable → Type 0
TakesValues (OfCell text key assigned) = assigned ≡ None
TakesValues (OfPlace e assigned) = assigned ≡ None
TakesValues (OfReference e line) = ⊥

-- the value on top of n others goes to a place that is found then
pub record PutsAt (code : CodeOf) (Place Put : ℕ → ℕ → Type 0) (p q : ℕ) : Type 0 where
  pub x : ℕ
  pub y : ℕ
  pub place : Place p x
  pub under : Is code i.Swap x y
  pub put : Put y q

-- the value on top of n others goes to the variable
abbrev pub StoresVariable : Source → CodeOf → Site → ℕ → Variable → ℕ → ℕ → Type 0
StoresVariable s code site n (OfCell text key assigned) p q = Is code (i.Store (pos (level_of s text)) (pos (slot_of s code text key))) p q
StoresVariable s code site n (OfPlace e assigned) p q = PutsAt code (PlaceAt s code site (suc n) 0 e) (Is code i.Put) p q
StoresVariable s code site n (OfReference e line) p q = PutsAt code (ReferencePlaceAt s code site (suc n) e) (At code i.Put line) p q

-- the value of the variable
abbrev pub LoadsVariable : Source → CodeOf → Site → ℕ → Variable → ℕ → ℕ → Type 0
LoadsVariable s code site n (OfCell text key assigned) p q = Pushes code site n (i.Load (pos (level_of s text)) (pos (slot_of s code text key))) p q
LoadsVariable s code site n (OfPlace e assigned) p q = (x : ℕ) × PlaceAt s code site n 0 e p x × Is code i.Fetch x q
LoadsVariable s code site n (OfReference e line) p q = (x : ℕ) × ReferencePlaceAt s code site n e p x × Is code i.Fetch x q

-- the value of an expression goes to the variable, or its characters to the text in it
abbrev pub GivesBy : Source → CodeOf → Site → ℕ → Variable → (assigned : Option ℕ) → Expression → ℕ → ℕ → Type 0
GivesBy s code site n v None e p q = (x : ℕ) × ExprAt s code site n e p x × StoresVariable s code site n v x q
GivesBy s code site n v (Some line) e p q = (x : ℕ) × (y : ℕ) × LoadsVariable s code site n v p x × ExprAt s code site (suc n) e x y × At code i.AssignT line y q

abbrev pub GivesVariable : Source → CodeOf → Site → ℕ → Variable → Expression → ℕ → ℕ → Type 0
GivesVariable s code site n (OfCell text key assigned) e p q = GivesBy s code site n (OfCell text key assigned) assigned e p q
GivesVariable s code site n (OfPlace x assigned) e p q = GivesBy s code site n (OfPlace x assigned) assigned e p q
GivesVariable s code site n (OfReference x line) e p q = GivesBy s code site n (OfReference x line) None e p q

-- Turn stands for the code of one turn: from where the variable has its value and the test is passed, to where the element goes on.
pub record OnceAt (s : Source) (code : CodeOf) (site : Site) (n : ℕ) (v : Variable) (e : Expression) (Turn : ℕ → ℕ → Type 0) (p q : ℕ) : Type 0 where
  pub x : ℕ
  pub z : ℕ
  pub tick : Is code i.Tick p x
  pub given : GivesVariable s code site n v e x z
  pub turn : Turn z q

pub record WhileElementAt (s : Source) (code : CodeOf) (site : Site) (n : ℕ) (v : Variable) (e c : Expression) (Turn : ℕ → ℕ → Type 0) (p q : ℕ) : Type 0 where
  pub x : ℕ
  pub z : ℕ
  pub u : ℕ
  pub b : ℕ
  pub w : ℕ
  pub tick : Is code i.Tick p x
  pub given : GivesVariable s code site n v e x z
  pub test : ExprAt s code site n c z u
  pub jump : Is code (i.JumpF (pos q)) u b
  pub leads : Ahead code u q
  pub turn : Turn b w
  pub back : Is code (i.Jump (pos p)) w q
  pub behind : p ≤ w

-- over a variable that takes values: the first value and the first step; the test, over the step; a turn; the step once more, which stays for the test, and the sum
pub record StepAt (s : Source) (code : CodeOf) (site : Site) (n : ℕ) (v : Variable) (start : Expression) (line : ℕ) (step limit : Expression) (Turn : ℕ → ℕ → Type 0) (p q : ℕ) : Type 0 where
  pub a : ℕ
  pub b : ℕ
  pub t : ℕ
  pub c : ℕ
  pub d : ℕ
  pub e : ℕ
  pub f : ℕ
  pub g : ℕ
  pub h : ℕ
  pub j : ℕ
  pub k : ℕ
  pub l : ℕ
  pub m : ℕ
  pub w : ℕ
  pub takes : TakesValues v
  pub first : ExprAt s code site n start p a
  pub stored : StoresVariable s code site n v a b
  pub first_step : ExprAt s code site n step b t
  pub tick : Is code i.Tick t c
  pub variable : LoadsVariable s code site (suc n) v c d
  pub last : ExprAt s code site (suc (suc n)) limit d e
  pub test : Is code i.StepTest e f
  pub jump : Is code (i.JumpF (pos q)) f g
  pub leads : Ahead code f q
  pub turn : Turn g h
  pub next_step : ExprAt s code site n step h j
  pub again : Pushes code site (suc n) i.Dup j k
  pub old : LoadsVariable s code site (suc (suc n)) v k l
  pub sum : At code i.Add line l m
  pub raised : StoresVariable s code site (suc n) v m w
  pub back : Is code (i.Jump (pos t)) w q
  pub behind : t ≤ w

abbrev pub OneElementAt : Source → CodeOf → Site → ℕ → Variable → Element → (Turn : ℕ → ℕ → Type 0) → ℕ → ℕ → Type 0
OneElementAt s code site n v (syntax.Once e) Turn p q = OnceAt s code site n v e Turn p q
OneElementAt s code site n v (syntax.While e token c) Turn p q = WhileElementAt s code site n v e c Turn p q
OneElementAt s code site n v (syntax.Step start token step limit) Turn p q = StepAt s code site n v start (line_at s token) step limit Turn p q

-- elements in turn; the turn of each knows its number
abbrev pub ElementsAt : Source → CodeOf → Site → ℕ → Variable → (number : ℕ) → List Element → (Turn : ℕ → ℕ → ℕ → Type 0) → ℕ → ℕ → Type 0
ElementsAt s code site n v k [] Turn p q = q ≡ p
ElementsAt s code site n v k (e ∷ es) Turn p q = (x : ℕ) × OneElementAt s code site n v e (Turn k) p x × ElementsAt s code site n v (suc k) es Turn x q

-- Several elements share the code of the statement, which begins with a tick. A turn leaves its number in a temp, goes to the statement,
-- and comes back to where the temp says.
pub record TurnAt (s : Source) (code : CodeOf) (site : Site) (n temp body : ℕ) (returns : List ℕ) (number p q : ℕ) : Type 0 where
  pub x : ℕ
  pub y : ℕ
  pub pushed : Pushes code site n (i.Int (pos number)) p x
  pub kept : Is code (i.Store (pos (level_of s site.text)) (pos temp)) x y
  pub jump : Is code (i.Jump (pos body)) y q
  pub behind : body ≤ y
  pub returns_here : slice_get returns number ≡ Some q

pub record ReturnAt (s : Source) (code : CodeOf) (site : Site) (n temp number target : ℕ) (p q : ℕ) : Type 0 where
  pub a : ℕ
  pub b : ℕ
  pub c : ℕ
  pub d : ℕ
  pub kept : Pushes code site n (i.Load (pos (level_of s site.text)) (pos temp)) p a
  pub number_pushed : Pushes code site (suc n) (i.Int (pos number)) a b
  pub equal : Is code (i.Rel (pos 2)) b c
  pub other : Is code (i.JumpF (pos q)) c d
  pub leads : Ahead code c q
  pub jump : Is code (i.Jump (pos target)) d q
  pub there : Ahead code d target

abbrev pub ReturnsAt : Source → CodeOf → Site → (n temp number : ℕ) → List ℕ → ℕ → ℕ → Type 0
ReturnsAt s code site n temp k [] p q = ⊥
ReturnsAt s code site n temp k (r ∷ []) p q = Is code (i.Jump (pos r)) p q × Ahead code p r
ReturnsAt s code site n temp k (r ∷ r2 ∷ rs) p q = (x : ℕ) × ReturnAt s code site n temp k r p x × ReturnsAt s code site n temp (suc k) (r2 ∷ rs) x q

pub record SharedAt (s : Source) (code : CodeOf) (site : Site) (n : ℕ) (v : Variable) (es : List Element) (Body : Site → ℕ → ℕ → Type 0) (p q : ℕ) : Type 0 where
  pub temp : ℕ
  pub outside : site.used ≤ temp
  pub within : temp < site.size
  pub returns : List ℕ
  pub as_many : length returns ≡ length es
  pub start : ℕ
  pub u : ℕ
  pub d : ℕ
  pub first : ℕ
  pub over : Is code (i.Jump (pos first)) p start
  pub leads : Ahead code p first
  pub tick : Is code i.Tick start u
  pub body : Body (record site { used = suc temp }) start d
  pub back : ReturnsAt s code site n temp 0 returns d first
  pub elements : ElementsAt s code site n v 0 es (TurnAt s code site n temp start returns) first q

abbrev pub is_empty : Statement → Bool
is_empty (syntax.Empty token) = true
is_empty _ = false

-- one element, or an empty statement, needs no shared code
abbrev pub ListAt : Source → CodeOf → Site → ℕ → Variable → (empty : Bool) → List Element → (Body : Site → ℕ → ℕ → Type 0) → ℕ → ℕ → Type 0
ListAt s code site n v empty (e ∷ []) Body p q = OneElementAt s code site n v e (Body site) p q
ListAt s code site n v true es Body p q = ElementsAt s code site n v 0 es (λ k. Body site) p q
ListAt s code site n v false es Body p q = SharedAt s code site n v es Body p q

-- a cell is one of a text around
abbrev pub VariableThere : Source → Site → Variable → Type 0
VariableThere s site (OfCell text key assigned) = Inside s.tables site.text text × HasCell s text key
VariableThere s site (OfPlace e assigned) = ⊤
VariableThere s site (OfReference e line) = ⊤

abbrev pub ForAt : Source → CodeOf → Site → ℕ → Option Variable → (empty : Bool) → List Element → (Body : Site → ℕ → ℕ → Type 0) → ℕ → ℕ → Type 0
ForAt s code site n None empty es Body p q = ⊥
ForAt s code site n (Some v) empty es Body p q = VariableThere s site v × ListAt s code site n v empty es Body p q
