-- What a statement does when it begins, and what is pending of it then.
use Rattle.std.specs.Prelude.{ℕ, Bool, true, false, List, [], ◌∷◌, ◌++◌, length, reverse, Option, Some, None}
use Rattle.sim_base.specs.declared.limits.Limits.{Limits}
use Rattle.sim_base.specs.declared.numbering.DeclNo.{DeclNo}
use Rattle.sim_scope.specs.declared.scopes.Denotation.{Denotation}
use Rattle.sim_scope.specs.declared.scopes.Denotation.TheVariants as denotation
use Rattle.sim_scope.specs.Assignments.{LeftSide, last_value, left_sides}
use Rattle.sim_scope.specs.declared.types.Entry.{Entry}
use Rattle.sim_scope.specs.declared.types.Entry.TheVariants as entry
use Rattle.sim_scope.specs.Scopes.{entry_of, result_of}
use Rattle.sim_scope.specs.Levels.{level_beyond}
use Rattle.sim_scope.specs.Source.{Source, block_around, denoted, level_of, line_at}
use Rattle.sim_scope.specs.Statements.{simulation_of}
use Rattle.sim_tree.specs.declared.expr.Identifier.{Identifier}
use Rattle.sim_tree.specs.declared.stmt.Activation.{Activation}
use Rattle.sim_tree.specs.declared.stmt.Activation.TheVariants as activation
use Rattle.sim_tree.specs.declared.stmt.Assignment.{Assignment}
use Rattle.sim_tree.specs.declared.stmt.Assignment.TheVariants as assignment
use Rattle.sim_tree.specs.Syntax.{Also, Begin, Block, Element, Expression, Expressions, NoDeclaration, NoMore, NoStatement, Schedule, Statement, Statements, With}
use Rattle.sim_tree.specs.Syntax as syntax
use Rattle.sim_values.specs.declared.operators.Calculation.TheVariants as calculation
use Rattle.sim_values.specs.declared.operators.Dyadic.TheVariants as dyadic
use Rattle.sim_values.specs.declared.standard.Standard.{Standard}
use Rattle.sim_values.specs.declared.standard.StandardType.{StandardType}
use Rattle.sim_values.specs.Standard.{row_of}
use Rattle.sim_code.specs.Outcome.{Run, World}
use Rattle.sim_code.specs.Events.{having, no_rule, ticking}
use Rattle.sim_code.specs.Instances.{at_level}
use Rattle.sim_code.specs.Scheduling.{AtTime, Beside, Directly, Timing, WithDelay}
use Rattle.sim_meaning.specs.Levels.{levels, levels_inside, text_at}
use Rattle.sim_meaning.specs.Names.{procedure_named}
use Rattle.sim_meaning.specs.Pending.{Activation as Waiting, ActivateOp, AgainOp, BlockOp, BackOp, BranchOp, Cell, ChooseOp, Configuration, ConnectOp, Do, DropOp, ElementsOp, EnterOp, Eval, Exec, Execs, InnerOp, Instances, Item, Level, Op, PastOp, PrefixedOp, RaiseOp, ShareOp, StepOp, StepTestOp, StoreOp, Key, Target, Term, Terms, TestOp, ToAddress, ToCell, ToNamed, ToPlace, ToReference, ToReferenceAt, ToText, ToTextAt, ToTextOf, TwoOp, Val, ValueAt, WhenOp, WhileElementOp}
use Rattle.sim_meaning.specs.Closing.{Left, LeftAddress, LeftCell, LeftNamed, LeftReference, LeftText, class_parameters, close, close_left, close_parameters, has_type, is_text, left_variable, reference_place}
use Rattle.sim_meaning.specs.Steps.{count, each, go}

-- ---- calls

abbrev pub has_value : Option StandardType → Bool
has_value None = false
has_value (Some type) = true

abbrev pub standard_leaves : Option Standard → Bool
standard_leaves None = false
standard_leaves (Some name) = has_value (row_of name).result

abbrev pub entry_leaves : Source → DeclNo → Option Entry → Bool
entry_leaves s d (Some (entry.Attribute name parameter result)) = has_type result
entry_leaves s d (Some (entry.Formal f)) = has_type f.ty
entry_leaves s d e = has_type (result_of s.tables d)

abbrev pub denoted_leaves : Source → Option Denotation → Bool
denoted_leaves s None = false
denoted_leaves s (Some (denotation.Declared d)) = entry_leaves s d (entry_of s.tables d)
denoted_leaves s (Some (denotation.Standard name)) = standard_leaves (procedure_named name)

-- whether a call that stands as a statement leaves a value, which is dropped
abbrev pub leaves : Source → Expression → Bool
leaves s (syntax.Named name es) = denoted_leaves s (denoted s name.token.0)
leaves s (syntax.Dot token a name es) = denoted_leaves s (denoted s name.token.0)
leaves s (syntax.New token class es) = true
leaves s _ = false

abbrev pub dropping : Bool → List Item → List Item
dropping true w = Do DropOp ∷ w
dropping false w = w

-- ---- assignments

-- The left sides are found from left to right: what each is, and its address or its text, if it has one. None where one is no place.
pub record Lefts : Type 0 where
  pub work : List Item
  pub targets : List Target

abbrev pub before : Left → Option Lefts → Option Lefts
before (LeftCell j key) (Some x) = Some (record { work = x.work; targets = ToCell j key ∷ x.targets })
before (LeftAddress t) (Some x) = Some (record { work = Do (Eval t) ∷ x.work; targets = ToAddress ∷ x.targets })
before (LeftText line t) (Some x) = Some (record { work = Do (Eval t) ∷ x.work; targets = ToText line ∷ x.targets })
before (LeftReference line t) (Some x) = Some (record { work = Do (Eval t) ∷ x.work; targets = ToReference line ∷ x.targets })
before (LeftNamed k line t) (Some x) = Some (record { work = Do (Eval t) ∷ x.work; targets = ToNamed k line ∷ x.targets })
before _ _ = None

abbrev pub lefts : Source → Instances → ℕ → List LeftSide → Option Lefts
lefts s m i [] = Some (record { work = []; targets = [] })
lefts s m i (l ∷ ls) = before (close_left s m i l.sign (line_at s l.token) l.target) (lefts s m i ls)

-- one value goes to one left side, or to several from right to left
abbrev pub assigning : List Target → Op
assigning (t ∷ []) = StoreOp t
assigning ts = ShareOp (reverse ts)

abbrev pub assigned : Source → World → Instances → ℕ → List Item → List Val → List Waiting → Option Lefts → Expression → Run Configuration
assigned s o m i w vals rest (Some x) e = go o m i (x.work ++ Do (Eval (close s m i e)) ∷ Do (assigning x.targets) ∷ w) vals rest
assigned s o m i w vals rest None e = no_rule o

-- ---- blocks

abbrev pub entered_at : World → Instances → ℕ → List Item → List Val → List Waiting → Option ℕ → (line : ℕ) → Run Configuration
entered_at o m i w vals rest None line = no_rule o
entered_at o m i w vals rest (Some k) line = go o m i (Do (EnterOp k line) ∷ w) vals rest

-- a block without declarations is a compound statement, any other a sub-block
abbrev pub compound : Source → World → Instances → ℕ → List Item → List Val → List Waiting → Block → Run Configuration
compound s o m i w vals rest (Begin token NoDeclaration ss end) = go o m i (Do (Execs ss) ∷ w) vals rest
compound s o m i w vals rest (Begin token (With d ds) ss end) = entered_at o m i w vals rest (block_around s token) (line_at s token)

-- ---- prefixed blocks, and `inner`

abbrev pub begin_of : Block → ℕ
begin_of (Begin token ds ss end) = token

-- A block prefix: its actual parameters are evaluated, and then the block is entered.
abbrev pub prefix_at : World → Instances → ℕ → List Item → List Val → List Waiting → (text line : ℕ) → Terms → Run Configuration
prefix_at o m i w vals rest k line terms = go o m i (each terms (Do (PrefixedOp k (count terms) line) ∷ w)) vals rest

abbrev pub prefix_begun : Source → World → Instances → ℕ → List Item → List Val → List Waiting → (class : Identifier) → Expressions → Option ℕ → Run Configuration
prefix_begun s o m i w vals rest class es None = no_rule o
prefix_begun s o m i w vals rest class es (Some k) =
    prefix_at o m i w vals rest k (line_at s class.token.0) (close_parameters s m i (line_at s class.token.0) es (class_parameters s (Some k)))

-- The statements of the levels inside stand in place of `inner`, which is written in a level of the operating instance.
abbrev pub levels_of_instance : Source → Option ℕ → Option (List Level)
levels_of_instance s None = None
levels_of_instance s (Some k) = levels s k

abbrev pub inner_begun : Source → World → Instances → ℕ → List Item → List Val → List Waiting → Option ℕ → Run Configuration
inner_begun s o m i w vals rest None = no_rule o
inner_begun s o m i w vals rest (Some k) = having (levels_of_instance s (text_at m i)) o (λ xs. go o m i (Do (InnerOp (levels_inside k xs)) ∷ w) vals rest)

-- ---- loops

-- the controlled variable, which is a cell: what is assigned to it, by the sign and by whether it is a text
abbrev pub controlled_cell : (text : Bool) → Assignment → (line instance : ℕ) → Key → Option Target
controlled_cell true assignment.Value line j key = Some (ToTextOf j key line)
controlled_cell true assignment.Reference line j key = Some (ToCell j key)
controlled_cell false assignment.Value line j key = Some (ToCell j key)
controlled_cell false assignment.Reference line j key = None

-- an attribute of a connected object, and a reference
abbrev pub controlled_place : (text : Bool) → Assignment → (line : ℕ) → (place : Term) → Option Target
controlled_place true assignment.Value line a = Some (ToTextAt a line)
controlled_place true assignment.Reference line a = Some (ToPlace a)
controlled_place false assignment.Value line a = Some (ToPlace a)
controlled_place false assignment.Reference line a = None

abbrev pub controlled : (text : Bool) → Assignment → (line : ℕ) → Left → Option Target
controlled text sign line (LeftCell j key) = controlled_cell text sign line j key
controlled text sign line (LeftAddress a) = controlled_place text sign line a
controlled text sign line (LeftReference line' a) = Some (ToReferenceAt a line)
controlled text sign line _ = None

abbrev pub controlled_left : (text : Bool) → Assignment → Source → Instances → ℕ → Expression → Left
controlled_left false assignment.Reference s m i e = LeftReference 0 (reference_place s m i e)
controlled_left _ _ s m i e = left_variable s m i e

abbrev pub looping : World → Instances → ℕ → List Item → List Val → List Waiting → Option Target → List Element → Statement → Run Configuration
looping o m i w vals rest (Some t) es a = go o m i (Do (ElementsOp t es a) ∷ w) vals rest
looping o m i w vals rest None es a = no_rule o

-- the value of the controlled variable, and the text in it that is assigned to
abbrev pub reading : Target → List Item → List Item
reading (ToCell j key) w = Do (Eval (Cell j key)) ∷ w
reading ToAddress w = w
reading (ToText line) w = w
reading (ToTextOf j key line) w = Do (Eval (Cell j key)) ∷ w
reading (ToReference line) w = w
reading (ToNamed k line) w = w
reading (ToPlace a) w = Do (Eval (ValueAt a)) ∷ w
reading (ToTextAt a line) w = Do (Eval (ValueAt a)) ∷ w
reading (ToReferenceAt a line) w = Do (Eval (ValueAt a)) ∷ w

abbrev pub finding : Target → List Item → List Item
finding (ToCell j key) w = w
finding ToAddress w = w
finding (ToText line) w = w
finding (ToTextOf j key line) w = Do (Eval (Cell j key)) ∷ w
finding (ToReference line) w = w
finding (ToNamed k line) w = w
finding (ToPlace a) w = w
finding (ToTextAt a line) w = Do (Eval (ValueAt a)) ∷ w
finding (ToReferenceAt a line) w = w

-- The elements of a `for` list are taken in turn. A plain element takes its tick and gives one turn.
abbrev pub elements : Source → Limits → World → Instances → ℕ → List Item → List Val → List Waiting → Target → List Element → Statement → Run Configuration
elements s l o m i w vals rest t [] a = go o m i w vals rest
elements s l o m i w vals rest t (syntax.Once e ∷ es) a =
    ticking l o (λ p. go p m i (finding t (Do (Eval (close s m i e)) ∷ Do (StoreOp t) ∷ Do (Exec a) ∷ Do (ElementsOp t es a) ∷ w)) vals rest)
elements s l o m i w vals rest t (syntax.While e token c ∷ es) a = go o m i (Do (WhileElementOp t e c a) ∷ Do (ElementsOp t es a) ∷ w) vals rest
elements s l o m i w vals rest t (syntax.Step first token step limit ∷ es) a =
    go o m i (Do (Eval (close s m i first)) ∷ Do (StoreOp t) ∷ Do (Eval (close s m i step)) ∷ Do (StepTestOp t (line_at s token) step limit a) ∷ Do (ElementsOp t es a) ∷ w) vals rest

-- A while element takes a tick for each evaluation, and none for its test.
abbrev pub while_element : Source → Limits → World → Instances → ℕ → List Item → List Val → List Waiting → Target → (value condition : Expression) → Statement → Run Configuration
while_element s l o m i w vals rest t e c a =
    ticking l o (λ p. go p m i (finding t (Do (Eval (close s m i e)) ∷ Do (StoreOp t) ∷ Do (Eval (close s m i c)) ∷ Do (BranchOp a (BackOp (WhileElementOp t e c a))) ∷ w)) vals rest)

-- The test of a step element, with the step in hand: first its tick, then the variable, then the limit.
abbrev pub step_tested : Source → Limits → World → Instances → ℕ → List Item → List Val → List Waiting → Target → (line : ℕ) → (step limit : Expression) → Statement → Run Configuration
step_tested s l o m i w vals rest t line step limit a =
    ticking l o (λ p. go p m i (reading t (Do (Eval (close s m i limit)) ∷ Do (StepOp line) ∷ Do (BranchOp a (RaiseOp t line step limit a)) ∷ w)) vals rest)

-- After a turn: the step is evaluated, and the variable raised by it; the step stays in hand for the next test.
abbrev pub raised : Source → World → Instances → ℕ → List Item → List Val → List Waiting → Target → (line : ℕ) → (step limit : Expression) → Statement → Run Configuration
raised s o m i w vals rest t line step limit a =
    go o m i (Do (Eval (close s m i step)) ∷ Do AgainOp ∷ reading t (Do (TwoOp (dyadic.Calculate calculation.Add) line) ∷ Do (StoreOp t) ∷ Do (BackOp (StepTestOp t line step limit a)) ∷ w)) vals rest

-- ---- activations

-- the block of the nearest simulation around a token, seen from an instance
abbrev pub simulation_around : Source → (token : ℕ) → Option ℕ
simulation_around s token = level_beyond (λ b. simulation_of s.tables (length s.tables.blocks) b) (block_around s token)

unfoldable pub simulation_home : Source → Instances → ℕ → (token : ℕ) → Option ℕ
simulation_home s m i token = level_beyond (λ k. at_level m (level_of s k) i) (simulation_around s token)

abbrev pub is_said : Option ℕ → Bool
is_said None = false
is_said (Some token) = true

abbrev pub timing : Schedule → Timing
timing syntax.Now = Directly
timing (syntax.At token e prior) = AtTime (is_said prior)
timing (syntax.Delay token e prior) = WithDelay (is_said prior)
timing (syntax.Before token e) = Beside true
timing (syntax.After token e) = Beside false

abbrev pub operand_work : Source → Instances → ℕ → Schedule → List Item → List Item
operand_work s m i syntax.Now w = w
operand_work s m i (syntax.At token e prior) w = Do (Eval (close s m i e)) ∷ w
operand_work s m i (syntax.Delay token e prior) w = Do (Eval (close s m i e)) ∷ w
operand_work s m i (syntax.Before token e) w = Do (Eval (close s m i e)) ∷ w
operand_work s m i (syntax.After token e) w = Do (Eval (close s m i e)) ∷ w

abbrev pub is_again : Activation → Bool
is_again activation.Activate = false
is_again activation.Reactivate = true

-- the process, then the operand; errors have the line of the word
abbrev pub activated : Source → World → Instances → ℕ → List Item → List Val → List Waiting → (block : Option ℕ) → (token : ℕ) → Activation → Expression → Schedule → Run Configuration
activated s o m i w vals rest None token word e schedule = no_rule o
activated s o m i w vals rest (Some b) token word e schedule =
    go o m i (Do (BlockOp b) ∷ Do (Eval (close s m i e)) ∷ operand_work s m i schedule (Do (ActivateOp (is_again word) (timing schedule) (line_at s token)) ∷ w)) vals rest

-- ---- statements

-- Each statement that is not empty takes its tick when it begins.
abbrev pub exec : Source → Limits → World → Instances → ℕ → List Item → List Val → List Waiting → Statement → Run Configuration
exec s l o m i w vals rest (syntax.Empty token) = go o m i w vals rest
exec s l o m i w vals rest (syntax.Compound b) = ticking l o (λ p. compound s p m i w vals rest b)
exec s l o m i w vals rest (syntax.Call e) = ticking l o (λ p. go p m i (Do (Eval (close s m i e)) ∷ dropping (leaves s e) w) vals rest)
exec s l o m i w vals rest (syntax.Assign left rs) = ticking l o (λ p. assigned s p m i w vals rest (lefts s m i (left_sides left rs)) (last_value left rs))
exec s l o m i w vals rest (syntax.Choose token c a b) = ticking l o (λ p. go p m i (Do (Eval (close s m i c)) ∷ Do (ChooseOp a b) ∷ w) vals rest)
exec s l o m i w vals rest (syntax.Repeat token c a) = ticking l o (λ p. go p m i (Do (TestOp c a) ∷ w) vals rest)
exec s l o m i w vals rest (syntax.For token x sign assign es a) = ticking l o (λ p. looping p m i w vals rest (controlled (is_text s (syntax.Named x NoMore)) sign (line_at s assign) (controlled_left (is_text s (syntax.Named x NoMore)) sign s m i (syntax.Named x NoMore))) es a)
exec s l o m i w vals rest (syntax.Prefixed class es b) = ticking l o (λ p. prefix_begun s p m i w vals rest class es (block_around s (begin_of b)))
exec s l o m i w vals rest (syntax.Inner token) = ticking l o (λ p. inner_begun s p m i w vals rest (block_around s token))
exec s l o m i w vals rest (syntax.Inspect token e opening a end other) = ticking l o (λ p. go p m i (Do (Eval (close s m i e)) ∷ Do (ConnectOp opening a other) ∷ w) vals rest)
exec s l o m i w vals rest (syntax.InspectWhen token e arms other) = ticking l o (λ p. go p m i (Do (Eval (close s m i e)) ∷ Do (WhenOp arms other) ∷ w) vals rest)
exec s l o m i w vals rest (syntax.Activate token word e schedule) = ticking l o (λ p. activated s p m i w vals rest (simulation_home s m i token) token word e schedule)

abbrev pub execs : World → Instances → ℕ → List Item → List Val → List Waiting → Statements → Run Configuration
execs o m i w vals rest NoStatement = go o m i w vals rest
execs o m i w vals rest (Also a more) = go o m i (Do (Exec a) ∷ Do (Execs more) ∷ w) vals rest

-- where there is a second branch, the first ends by going past it
abbrev pub first_branch : Statements → List Item → List Item
first_branch NoStatement w = w
first_branch (Also a more) w = Do PastOp ∷ w
