-- Each statement goes on.
use Rattle.std.proofs.Common.{◌≡◌, ℕ, Bool, true, false, List, [], ◌∷◌, ◌++◌, length, Option, Some, None, refl, sym, ap, ◌∙◌, subst}
use Rattle.sim_base.specs.declared.limits.Limits.{Limits}
use Rattle.sim_base.specs.declared.numbering.DeclNo.{DeclNo}
use Rattle.sim_scope.specs.declared.scopes.Denotation.{Denotation}
use Rattle.sim_scope.specs.declared.scopes.Denotation.TheVariants as denotation
use Rattle.sim_scope.specs.declared.types.Entry.{Entry}
use Rattle.sim_scope.specs.declared.types.Entry.TheVariants as entry
use Rattle.sim_scope.specs.declared.types.FormalKind.{FormalKind}
use Rattle.sim_scope.specs.declared.types.FormalKind.TheVariants as shape
use Rattle.sim_scope.specs.declared.types.Mode.{Mode}
use Rattle.sim_scope.specs.declared.types.Mode.TheVariants as mode
use Rattle.sim_scope.specs.Assignments.{LeftSide, last_value, left_sides}
use Rattle.sim_scope.specs.Scopes.{entry_of}
use Rattle.sim_tree.specs.declared.expr.Identifier.{Identifier}
use Rattle.sim_tree.specs.declared.stmt.Activation.{Activation as Activating}
use Rattle.sim_tree.specs.declared.stmt.Assignment.{Assignment}
use Rattle.sim_tree.specs.declared.stmt.Assignment.TheVariants as assignment
use Rattle.sim_tree.specs.Syntax.{Also, Begin, Block, Element, Expression, Expressions, NoDeclaration, NoMore, NoStatement, Schedule, Statement, Statements, With}
use Rattle.sim_tree.specs.Syntax as syntax
use Rattle.sim_values.specs.declared.kind.Kind.{Kind}
use Rattle.sim_values.specs.declared.kind.Kind.TheVariants as kind
use Rattle.sim_values.specs.declared.operators.Calculation.TheVariants as calculation
use Rattle.sim_values.specs.declared.operators.Dyadic.TheVariants as dyadic
use Rattle.sim_code.specs.Events.{choosing}
use Rattle.sim_code.specs.Outcome.{World}
use Rattle.sim_meaning.specs.Meaning.{do_op}
use Rattle.sim_meaning.specs.Steps.{count, each, go}
use Rattle.sim_scope.specs.Levels.{base, level_beyond}
use Rattle.sim_scope.specs.Source.{Source, block_around, denoted, found_at, level_of, line_at}
use Rattle.sim_code.specs.Instances.{at_level, live}
use Rattle.sim_code.specs.Transfers.{Transfer}
use Rattle.sim_meaning.specs.Attributes.{own_attribute, connection_at, transfer_at}
use Rattle.sim_meaning.specs.Closing.{Left, LeftAddress, LeftCell, LeftNamed, LeftReference, LeftText, NoLeftSide, class_parameters, close, close_parameters, close_place, declared_left, formal_left, home_of, is_text, left_found, left_in, left_variable, match_left, named_left, own_match, reference_place, stream_of}
use Rattle.sim_meaning.specs.Levels.{has_levels, levels_inside, text_at}
use Rattle.sim_meaning.specs.Pending.{ActivateOp, Activation, AgainOp, BackOp, BlockOp, BranchOp, ChooseOp, Configuration, ConnectOp, Do, DropOp, ElementsOp, EnterOp, Eval, Exec, Execs, InnerOp, Instances, Item, Key, Op, PrefixedOp, RaiseOp, StepOp, StepTestOp, StoreOp, Target, Term, TestOp, ToAddress, ToCell, ToNamed, ToPlace, ToReference, ToReferenceAt, ToText, ToTextAt, ToTextOf, TwoOp, Val, WhenOp, WhileElementOp}
use Rattle.sim_meaning.specs.Statements.{activated, is_again, operand_work, simulation_home, timing, assigned, assigning, begin_of, compound, controlled, controlled_left, dropping, elements, entered_at, exec, execs, finding, first_branch, inner_begun, leaves, lefts, levels_of_instance, looping, prefix_begun, raised, reading, step_tested, while_element}
use Rattle.sim_meaning.specs.Texts.{text}
use Rattle.sim_meaning.specs.Virtuals.{text_of_procedure}
use Rattle.sim_sound.specs.Held.{Fits, Holds, In, Refers, Simply, reference_to}
use Rattle.sim_sound.specs.Expressions.{ActualsFit, AreIntegers, AreOf, DotGives, ExprIs, IdentifierGives, ParametersAre}
use Rattle.sim_sound.specs.Statements.{CallIs, CompoundIs, ControlIs, ElementsAre, InnerIs, OrTransferIs, PrefixedIs, SimulationIs, StatementIs, StatementsAre, TimingIs, TransferIs, is_given}
use Rattle.sim_sound.specs.Typed.{Typed}
use Rattle.sim_sound.proofs.Assigns.{Found, assigning_fine, lefts_found}
use Rattle.sim_sound.proofs.Cells.{own_level, site_whole, stands_level_of}
use Rattle.sim_sound.proofs.ClassLevels.{all_levels_of, inside_are, levels_are, levels_fine, process_levels}
use Rattle.sim_sound.proofs.Lists.{same_some}
use Rattle.sim_sound.proofs.Calls.{transfer_leaves_none}
use Rattle.sim_sound.proofs.Closing.{class_fine, detach_fine, dot_fine, expr_fine, given_fine, transfer_fine}
use Rattle.sim_sound.proofs.Passed.{transfer_in}
use Rattle.sim_sound.proofs.Evals.{IsFine, Rest, Work, goes_on, prefix_work}
use Rattle.sim_sound.proofs.Fitting.{text_there}
use Rattle.sim_sound.proofs.Lefts.{PlainLeft, reference_is, variable_fine}
use Rattle.sim_sound.proofs.Lifts.{Goes, chosen, had, ran, ticked, truth_popped}
use Rattle.sim_sound.proofs.Prefixes.{LevelOf, class_has, class_solid, level_is, level_number, level_of_levels}
use Rattle.sim_sound.proofs.Reach.{Reaches, ReachesText, reaches_in, text_in}
use Rattle.sim_sound.proofs.Running.{Begun, Operates}
use Rattle.sim_sound.proofs.Sound.{BlockIn, Leads, LevelsFine, TakesValue, OpFine, Site, TermFine, TermsFine, VariableFine, class_kinds, given, in_instance as at_cell, simple, timed, value_stored}
use Rattle.sim_sound.proofs.Values.{AddressOf, HandsFine, Kinds, LinkTo, Marks, Whichever, in_text, Value, Whole, see, held_kinds}

-- ---- a variable as a left side is a cell, or is found by a tree

abbrev IsCell : Left → Type 0
IsCell (LeftReference line x) = ⊥
IsCell (LeftText line x) = ⊥
IsCell (LeftNamed class line x) = ⊥
IsCell _ = Unit {0}

-- where a value goes it can be read
taken_leads : (s : Source) (k : Kind) (x : Kinds) → TakesValue (Simply k) x → Leads s x (Simply k)
taken_leads s k (AddressOf h) a = subst (λ z. Fits s z (Simply k)) (sym a) refl
taken_leads s k (Whichever false h) a = a.0
taken_leads s k _ a = absurd a

in_cell : (x : Option ℕ) (key : Key) → IsCell (left_in x (λ j. LeftCell j key))
in_cell None key = tt
in_cell (Some j) key = tt

formal_cell : (s : Source) (m : Instances) (i line : ℕ) (d : DeclNo) (f : Mode) (g : FormalKind) → IsCell (formal_left s m i line d f g NoMore)
formal_cell s m i line d mode.ByName shape.Simple = tt
formal_cell s m i line d mode.ByName shape.Array = tt
formal_cell s m i line d mode.ByName shape.Procedure = tt
formal_cell s m i line d mode.ByValue shape.Simple = in_cell (home_of s m i d) _
formal_cell s m i line d mode.ByReference shape.Simple = in_cell (home_of s m i d) _
formal_cell s m i line d mode.ByValue shape.Array = tt
formal_cell s m i line d mode.ByReference shape.Array = tt
formal_cell s m i line d mode.ByValue shape.Procedure = tt
formal_cell s m i line d mode.ByReference shape.Procedure = tt

declared_cell : (s : Source) (m : Instances) (i line : ℕ) (d : DeclNo) (e : Option Entry) → IsCell (declared_left s m i line d e NoMore)
declared_cell s m i line d (Some (entry.Variable ty)) = in_cell (home_of s m i d) _
declared_cell s m i line d (Some (entry.Array ty n)) = tt
declared_cell s m i line d (Some (entry.Formal f)) = formal_cell s m i line d f.mode f.kind
declared_cell s m i line d (Some (entry.Procedure r u)) = in_cell (at_level m (level_of s u) i) _
declared_cell s m i line d _ = tt

named_cell : (s : Source) (m : Instances) (i line : ℕ) (x : Option Denotation) → IsCell (named_left s m i line x NoMore)
named_cell s m i line (Some (denotation.Declared d)) = declared_cell s m i line d (entry_of s.tables d)
named_cell s m i line _ = tt

match_cell : (s : Source) (m : Instances) (i : ℕ) (match : Option ℕ) (other : Left) → IsCell other → IsCell (match_left s m i match other)
match_cell s m i None other a = a
match_cell s m i (Some block) other a = in_cell (at_level m (level_of s block) i) _

found_cell : (c : Option ℕ) (place : Term) (other : Left) → IsCell other → IsCell (left_found c place other)
found_cell None place other a = a
found_cell (Some k) place other a = tt

module _ (s : Source) (ok : Typed s) (l : Limits) (o : World) (marks : Marks) (long : length marks.sights ≡ length o.arrays) (m : Instances) (i t : ℕ) (rest : List Activation) (top : Operates marks.beneath marks.seat m i rest) (w : List Item) (vals : List Val) (ks : List Kinds) (b : Begun s (see marks o) m i t []) (h : HandsFine s (see marks o) m i ks vals) (work : Work s o marks long m i t rest top w [] ks) (u : ℕ) (site : Site s m i u) where
  abbrev P : World → Configuration → Type 0
  P = IsFine s

  abbrev Wk : List Item → List Kinds → Type 0
  Wk w ks = Work s o marks long m i t rest top w [] ks

  here : Whole s m i u
  here = site_whole s (see marks o) m i t u b site

  reach : Reaches s m i (In u)
  reach = reaches_in s ok (see marks o) m b.store i u here

  around : ReachesText s m i (In u)
  around = text_in s ok (see marks o) m b.store i u here

  goes : (w : List Item) → Wk w ks → IsFine s o (record { chain = record { instance = i; work = w; values = vals } ∷ rest; memory = m })
  goes w x = goes_on s o marks long m i t rest top w vals [] ks b h x

  closed : (e : Expression) (g : Holds) → ExprIs s (In u) e g → TermFine s m i t [] (close s m i e) (Some (Value g))
  closed e g a = expr_fine s ok (see marks o) m b.store i t [] (In u) (in_text here) e g a

  evals : (e : Expression) (g : Holds) (w : List Item) (ks : List Kinds) → ExprIs s (In u) e g → Wk w (Value g ∷ ks) → Wk (Do (Eval (close s m i e)) ∷ w) ks
  evals e g w ks a x = ([], Value g ∷ ks, (Some (Value g), closed e g a, refl, refl), x)

  -- ---- calls

  abbrev NamedIs : Identifier → Expressions → Type 0
  NamedIs name es = (h : Option Holds) × IdentifierGives s (In u) name.token.0 (connection_at s name.token.0) (own_attribute s name.token.0) es (AreIntegers s (In u) es) (ParametersAre s (In u) es) (λ ks. AreOf s (In u) es ks) (λ fs. ActualsFit s (In u) es fs) h × (leaves s (syntax.Named name es) ≡ is_given h)

  abbrev DotIs : Expression → Identifier → Expressions → Bool → Type 0
  DotIs x name es left = (h : Option Holds) × DotGives s (denoted s name.token.0) (stream_of s x) (ExprIs s (In u) x (Simply kind.Text)) (λ c. ExprIs s (In u) x (Refers c)) es (AreIntegers s (In u) es) (ParametersAre s (In u) es) (λ ks. AreOf s (In u) es ks) (λ fs. ActualsFit s (In u) es fs) h × (left ≡ is_given h)

  -- ---- statements

  compound_goes : (a : Block) → CompoundIs s u a → (t' w' : ℕ) → Goes P (compound s (ran o t' w') m i w vals rest a)
  compound_goes (Begin token NoDeclaration ss end) a t' w' = goes (Do (Execs ss) ∷ w) ([], ks, (refl, refl, refl, (u, site, a)), work)
  compound_goes (Begin token (With d ds) ss end) a t' w' =
      subst (λ z. Goes P (entered_at (ran o t' w') m i w vals rest z (line_at s token))) (sym a.around) (goes (Do (EnterOp a.number (line_at s token)) ∷ w) ([], ks, (refl, refl, refl, (u, site, (a.stands_in, a.begin, a.declarations, a.statements, a.is))), work))

  dropped : (g : Option Holds) (x : Bool) → x ≡ is_given g → Wk (dropping x w) (given (held_kinds g) ks)
  dropped None true e = absurd (cc)
  dropped None false e = work
  dropped (Some g) true e = ([], ks, (Value g, refl, refl), work)
  dropped (Some g) false e = absurd (cc)

  -- a transfer of control leaves no value
  transferred : (e : Expression) → TermFine s m i t [] (close s m i e) None → leaves s e ≡ false → Wk (Do (Eval (close s m i e)) ∷ dropping (leaves s e) w) ks
  transferred e fine none = ([], ks, (None, fine, refl, refl), dropped None (leaves s e) none)

  named_goes : (name : Identifier) (es : Expressions) (x : Option Transfer) → transfer_at s name.token.0 ≡ x → OrTransferIs x (λ c. TransferIs s u c (found_at s name.token.0) es) (NamedIs name es) → Wk (Do (Eval (close s m i (syntax.Named name es))) ∷ dropping (leaves s (syntax.Named name es)) w) ks
  named_goes name es None e a =
      ([], given (held_kinds a.0) ks, (held_kinds a.0, given_fine s ok (see marks o) m b.store i t [] (In u) (in_text here) name es a.0 a.1, refl, refl), dropped a.0 (leaves s (syntax.Named name es)) a.2)
  named_goes name es (Some c) e a =
      transferred (syntax.Named name es) (transfer_fine s ok (see marks o) m b.store i t [] (In u) (in_text here) name es c e (transfer_in s u c (found_at s name.token.0) es a)) (transfer_leaves_none s name.token.0 c e)

  dot_goes : (token : ℕ) (x : Expression) (name : Identifier) (es : Expressions) (y : Option Transfer) → transfer_at s name.token.0 ≡ y → OrTransferIs y (λ c. ExprIs s (In u) x (Simply kind.Reference) × AreOf s (In u) es []) (DotIs x name es (leaves s (syntax.Dot token x name es))) → Wk (Do (Eval (close s m i (syntax.Dot token x name es))) ∷ dropping (leaves s (syntax.Dot token x name es)) w) ks
  dot_goes token x name es None e a =
      ([], given (held_kinds a.0) ks, (held_kinds a.0, dot_fine s ok (see marks o) m b.store i t [] (In u) (in_text here) token x name es a.0 a.1, refl, refl), dropped a.0 (leaves s (syntax.Dot token x name es)) a.2)
  dot_goes token x name es (Some c) e a =
      transferred (syntax.Dot token x name es) (detach_fine s ok (see marks o) m b.store i t [] (In u) (in_text here) token x name es c e a.0) (transfer_leaves_none s name.token.0 c e)

  call_goes : (e : Expression) → CallIs s u e → Wk (Do (Eval (close s m i e)) ∷ dropping (leaves s e) w) ks
  call_goes (syntax.Named name es) a = named_goes name es (transfer_at s name.token.0) refl a
  call_goes (syntax.Dot token x name es) a = dot_goes token x name es (transfer_at s name.token.0) refl a
  call_goes (syntax.New token class es) a = evals (syntax.New token class es) (Simply kind.Reference) (Do DropOp ∷ w) ks a ([], ks, (Value (Simply kind.Reference), refl, refl), work)
  call_goes _ a = absurd a

  assign_goes : (es : List LeftSide) (e : Expression) (k : Kind) → Found s ok (see marks o) m b.store i t u here (Rest s o marks long m i t rest top) (rest ≡ []) k es → ExprIs s (In u) e (Simply k) → (t' w' : ℕ) → Goes P (assigned s (ran o t' w') m i w vals rest (lefts s m i es) e)
  assign_goes es e k f a t' w' =
      let ts = (f.is).targets in
      subst (λ z. Goes P (assigned s (ran o t' w') m i w vals rest z e)) (sym f.found)
      (goes ((f.is).work ++ Do (Eval (close s m i e)) ∷ Do (assigning ts) ∷ w)
      (f.works (Do (Eval (close s m i e)) ∷ Do (assigning ts) ∷ w) ks
      (evals e (Simply k) (Do (assigning ts) ∷ w) (f.kinds ks) a
      ([], ks, assigning_fine s ok (see marks o) m b.store i t u here (Rest s o marks long m i t rest top) (rest ≡ []) k ts (f.kinds ks) ks (f.shared ks), work))))

  -- ---- the variable of a loop

  loops : (x : Target) (k : Kind) (es : List Element) (a : Statement) → VariableFine s m i t x k → ElementsAre s u k es → StatementIs s u a → Wk (Do (ElementsOp x es a) ∷ w) ks
  loops x k es a v y z = ([], ks, (refl, refl, refl, (u, site, (k, v, y, z))), work)

  loop_goes : (text : Bool) (sign : Assignment) (line : ℕ) (x : Left) (k : Kind) (es : List Element) (a : Statement) → (text ≡ true → sign ≡ assignment.Value → k ≡ kind.Text) → (text ≡ false → sign ≡ assignment.Reference → ⊥) → IsCell x → PlainLeft s ok (see marks o) m b.store i t u here x k → ElementsAre s u k es → StatementIs s u a → (t' w' : ℕ) → Goes P (looping (ran o t' w') m i w vals rest (controlled text sign line x) es a)
  loop_goes true assignment.Value line (LeftCell j key) k es a v n c x y z t' w' = goes (Do (ElementsOp (ToTextOf j key line) es a) ∷ w) (loops (ToTextOf j key line) k es a (x, v refl refl) y z)
  loop_goes true assignment.Reference line (LeftCell j key) k es a v n c x y z t' w' = goes (Do (ElementsOp (ToCell j key) es a) ∷ w) (loops (ToCell j key) k es a x y z)
  loop_goes false assignment.Value line (LeftCell j key) k es a v n c x y z t' w' = goes (Do (ElementsOp (ToCell j key) es a) ∷ w) (loops (ToCell j key) k es a x y z)
  loop_goes true assignment.Value line (LeftAddress r) k es a v n c x y z t' w' = goes (Do (ElementsOp (ToTextAt r line) es a) ∷ w) (loops (ToTextAt r line) k es a (x, v refl refl) y z)
  loop_goes true assignment.Reference line (LeftAddress r) k es a v n c x y z t' w' = goes (Do (ElementsOp (ToPlace r) es a) ∷ w) (loops (ToPlace r) k es a (AddressOf (Simply k), refl, x) y z)
  loop_goes false assignment.Value line (LeftAddress r) k es a v n c x y z t' w' = goes (Do (ElementsOp (ToPlace r) es a) ∷ w) (loops (ToPlace r) k es a (AddressOf (Simply k), refl, x) y z)
  loop_goes false assignment.Reference line x k es a v n c f y z t' w' = absurd (n refl refl)
  loop_goes text sign line (LeftText q r) k es a v n c x y z t' w' = absurd c
  loop_goes text sign line (LeftNamed q q' r) k es a v n c x y z t' w' = absurd c
  loop_goes text sign line NoLeftSide k es a v n c x y z t' w' = absurd x
  loop_goes text sign line (LeftReference q r) k es a v n c x y z t' w' = absurd c

  text_apart : true ≡ false → ⊥
  text_apart e = cc

  sign_apart : assignment.Reference ≡ assignment.Value → ⊥
  sign_apart e = cc

  other_apart : assignment.Value ≡ assignment.Reference → ⊥
  other_apart e = cc

  loop_left : (text : Bool) (sign : Assignment) (line : ℕ) (x : Identifier) (k : Kind) (es : List Element) (a : Statement) → ControlIs text sign s u (syntax.Named x NoMore) k → IsCell (left_variable s m i (syntax.Named x NoMore)) → ElementsAre s u k es → StatementIs s u a → (t' w' : ℕ)
      → Goes P (looping (ran o t' w') m i w vals rest (controlled text sign line (controlled_left text sign s m i (syntax.Named x NoMore))) es a)
  loop_left true assignment.Value line x k es a v c y z t' w' =
      loop_goes true assignment.Value line (left_variable s m i (syntax.Named x NoMore)) k es a (λ e f. (v.1).0) (λ e f. text_apart e) c (variable_fine s ok (see marks o) m b.store i t u here (syntax.Named x NoMore) k v.0 (v.1).1) y z t' w'
  loop_left true assignment.Reference line x k es a v c y z t' w' =
      loop_goes true assignment.Reference line (left_variable s m i (syntax.Named x NoMore)) k es a (λ e f. absurd (sign_apart f)) (λ e f. text_apart e) c (variable_fine s ok (see marks o) m b.store i t u here (syntax.Named x NoMore) k v.0 v.1) y z t' w'
  loop_left false assignment.Value line x k es a v c y z t' w' =
      loop_goes false assignment.Value line (left_variable s m i (syntax.Named x NoMore)) k es a (λ e f. absurd (text_apart (sym e))) (λ e f. other_apart f) c (variable_fine s ok (see marks o) m b.store i t u here (syntax.Named x NoMore) k v.0 v.1) y z t' w'
  loop_left false assignment.Reference line x k es a v c y z t' w' =
      let r = reference_is s ok (see marks o) m b.store i t u here (syntax.Named x NoMore) v.0 (v.1).1 in
      goes (Do (ElementsOp (ToReferenceAt (reference_place s m i (syntax.Named x NoMore)) line) es a) ∷ w) (loops (ToReferenceAt (reference_place s m i (syntax.Named x NoMore)) line) k es a ((v.1).0, r.0, r.1) y z)

  single_cell : (x : Identifier) → IsCell (left_variable s m i (syntax.Named x NoMore))
  single_cell x =
      let match = text_of_procedure s (own_match s (syntax.Named x NoMore)) in
      let named = named_left s m i (line_at s x.token.0) (denoted s x.token.0) NoMore in
      found_cell (connection_at s x.token.0) (close_place s m i (syntax.Named x NoMore)) (match_left s m i match named) (match_cell s m i match named (named_cell s m i (line_at s x.token.0) (denoted s x.token.0)))

  -- ---- `inner`

  -- the levels inside the one in which it stands
  inner_goes : (token : ℕ) → InnerIs s u token → (t' w' : ℕ) → Goes P (inner_begun s (ran o t' w') m i w vals rest (block_around s token))
  inner_goes token a t' w' =
      let p = here in
      let k = (p.now).text in
      let at : LevelOf s k u = own_level s p.now u (class_solid (text s u) a.1) p.stands in
      let has : has_levels (text s k) ≡ true = level_of_levels s ok (b.store.instances i p.now p.lives).solid at (class_has s ok u a.1) in
      let all = all_levels_of s ok k has in
      let same : k ≡ t = ap (λ z. z.text) (same_some (live m i) p.now (b.here).now p.lives (b.here).lives) ∙ b.own in
      let levels = levels_fine s ok m i p.now p.lives (process_levels s ok (see marks o) m b.store i p.now p.lives) (levels_inside u all.list) (inside_are s k u all.list all.are) in
      let inside : LevelsFine s m i t (levels_inside u all.list) = subst (λ z. LevelsFine s m i z (levels_inside u all.list)) same levels in
      subst (λ z. Goes P (inner_begun s (ran o t' w') m i w vals rest z)) (sym a.0)
      (had P (levels_of_instance s (text_at m i)) all.list (ran o t' w') (λ xs. go (ran o t' w') m i (Do (InnerOp (levels_inside u xs)) ∷ w) vals rest) (ap (levels_of_instance s) (text_there s m i p.now p.lives) ∙ levels_are s ok k has)
      (goes (Do (InnerOp (levels_inside u all.list)) ∷ w) ([], ks, (refl, refl, refl, inside), work)))

  -- ---- prefixed blocks

  -- the actual parameters are evaluated, and then the block is entered
  prefixed_goes : (class : Identifier) (es : Expressions) (token : ℕ) → PrefixedIs s u token (λ fs. ActualsFit s (In u) es fs) → (t' w' : ℕ) → Goes P (prefix_begun s (ran o t' w') m i w vals rest class es (block_around s token))
  prefixed_goes class es token a t' w' =
      let line = line_at s class.token.0 in
      let fs = class_parameters s (Some a.number) in
      let terms = close_parameters s m i line es fs in
      let fine : TermsFine s m i t [] terms (class_kinds s fs) = class_fine s ok (see marks o) m b.store i t [] (In u) (in_text here) line es fs a.actuals in
      subst (λ z. Goes P (prefix_begun s (ran o t' w') m i w vals rest class es z)) (sym a.around)
      (goes (each terms (Do (PrefixedOp a.number (count terms) line) ∷ w)) (prefix_work s o marks long m i t rest top a.number terms line u w ks site a.stands_in (record { class = a.class; arguments = a.arguments; declarations = a.declarations; statements = a.statements; is = a.is }) fine work))

  -- ---- activations

  timed_work : (x : Schedule) (v : List Item) (left : List Kinds) → TimingIs s u x → Wk v (timed (timing x) left) → Wk (operand_work s m i x v) left
  timed_work syntax.Now v left a f = f
  timed_work (syntax.At token e prior) v left a f = evals e (Simply kind.Integer) v left a f
  timed_work (syntax.Delay token e prior) v left a f = evals e (Simply kind.Integer) v left a f
  timed_work (syntax.Before token e) v left a f = evals e (Simply kind.Reference) v left a f
  timed_work (syntax.After token e) v left a f = evals e (Simply kind.Reference) v left a f

  -- the block of the nearest simulation around
  block_there : (token : ℕ) → (x : SimulationIs s u token) → (e : ℕ) × (simulation_home s m i token ≡ Some e) × BlockIn s m i e x.block
  unfolding simulation_home
  block_there token x =
      let z = x.seen in
      let at = level_is s z.found x.block z.level in
      let r = around z.found z.around in
      let p = r.whole in
      let same : level_of s z.found ≡ level_of s x.block = level_number s ok z.instance at in
      let stands = stands_level_of s p.now z.found x.block z.instance p.stands at in
      (r.instance, ap (level_beyond (λ k. at_level m (level_of s k) i)) x.is ∙ ap (λ q. at_level m q i) (sym same) ∙ r.found, record { near = r.near; whole = record { now = p.now; lives = p.lives; stands = stands; words = p.words; has_text = p.has_text; made = p.made }; simulates = x.simulates })

  activate_goes : (token : ℕ) (word : Activating) (e : Expression) (x : Schedule) → SimulationIs s u token → ExprIs s (In u) e (Simply kind.Reference) → TimingIs s u x → (t' w' : ℕ) → Goes P (activated s (ran o t' w') m i w vals rest (simulation_home s m i token) token word e x)
  activate_goes token word e x home is timing_is t' w' =
      let y = block_there token home in
      let act = Do (ActivateOp (is_again word) (timing x) (line_at s token)) ∷ w in
      subst (λ z. Goes P (activated s (ran o t' w') m i w vals rest z token word e x)) (sym y.1)
      (goes (Do (BlockOp y.0) ∷ Do (Eval (close s m i e)) ∷ operand_work s m i x act) (
        [],
        LinkTo home.block ∷ ks,
        (home.block, y.2, refl, refl),
        evals e (Simply kind.Reference) (operand_work s m i x act) (LinkTo home.block ∷ ks) is
            (timed_work x act (Value (Simply kind.Reference) ∷ LinkTo home.block ∷ ks) timing_is ([], ks, (home.block, home.simulates, refl, refl), work)),
      ))

  pub exec_goes : (a : Statement) → StatementIs s u a → Goes P (exec s l o m i w vals rest a)
  exec_goes (syntax.Empty token) x = goes w work
  exec_goes (syntax.Compound a) x = ticked P l o (λ p. compound s p m i w vals rest a) (λ t' w'. compound_goes a (compound_is a x) t' w')
    where
      compound_is : (a : Block) → StatementIs s u (syntax.Compound a) → CompoundIs s u a
      compound_is a x = x
  exec_goes (syntax.Prefixed class es a) x = ticked P l o (λ p. prefix_begun s p m i w vals rest class es (block_around s (begin_of a))) (λ t' w'. prefixed_goes class es (begin_of a) x t' w')
  exec_goes (syntax.Call e) x = ticked P l o (λ p. go p m i (Do (Eval (close s m i e)) ∷ dropping (leaves s e) w) vals rest) (λ t' w'. goes (Do (Eval (close s m i e)) ∷ dropping (leaves s e) w) (call_goes e x))
  exec_goes (syntax.Assign left rs) x =
      ticked P l o (λ p. assigned s p m i w vals rest (lefts s m i (left_sides left rs)) (last_value left rs)) (λ t' w'.
      assign_goes (left_sides left rs) (last_value left rs) x.0 (lefts_found s ok (see marks o) m b.store i t u here (Rest s o marks long m i t rest top) (rest ≡ []) x.0 (left_sides left rs) x.1) x.2 t' w')
  exec_goes (syntax.Choose token c a other) x =
      ticked P l o (λ p. go p m i (Do (Eval (close s m i c)) ∷ Do (ChooseOp a other) ∷ w) vals rest) (λ t' w'.
      goes (Do (Eval (close s m i c)) ∷ Do (ChooseOp a other) ∷ w) (evals c (Simply kind.Boolean) (Do (ChooseOp a other) ∷ w) ks x.0 ([], ks, (refl, refl, refl, (u, site, (x.1, x.2))), work)))
  exec_goes (syntax.Repeat token c a) x = ticked P l o (λ p. go p m i (Do (TestOp c a) ∷ w) vals rest) (λ t' w'. goes (Do (TestOp c a) ∷ w) ([], ks, (refl, refl, refl, (u, site, (x.0, x.1))), work))
  exec_goes (syntax.For token x sign assign es a) f =
      ticked P l o (λ p. looping p m i w vals rest (controlled (is_text s (syntax.Named x NoMore)) sign (line_at s assign) (controlled_left (is_text s (syntax.Named x NoMore)) sign s m i (syntax.Named x NoMore))) es a) (λ t' w'.
      loop_left (is_text s (syntax.Named x NoMore)) sign (line_at s assign) x f.0 es a f.1 (single_cell x) f.2 f.3 t' w')
  exec_goes (syntax.Inner token) x = ticked P l o (λ p. inner_begun s p m i w vals rest (block_around s token)) (λ t' w'. inner_goes token x t' w')
  exec_goes (syntax.Inspect token e opening a end other) x =
      let c = x.0 in
      ticked P l o (λ p. go p m i (Do (Eval (close s m i e)) ∷ Do (ConnectOp opening a other) ∷ w) vals rest) (λ t' w'.
      goes (Do (Eval (close s m i e)) ∷ Do (ConnectOp opening a other) ∷ w) (evals e (reference_to (base s.tables c.number)) (Do (ConnectOp opening a other) ∷ w) ks x.1 ([], ks, (refl, refl, (u, site, (c, refl, x.2, x.3))), work)))
  exec_goes (syntax.InspectWhen token e arms other) x =
      ticked P l o (λ p. go p m i (Do (Eval (close s m i e)) ∷ Do (WhenOp arms other) ∷ w) vals rest) (λ t' w'.
      goes (Do (Eval (close s m i e)) ∷ Do (WhenOp arms other) ∷ w) (evals e (Simply kind.Reference) (Do (WhenOp arms other) ∷ w) ks x.0 ([], ks, (refl, refl, refl, (u, site, (x.1, x.2))), work)))
  exec_goes (syntax.Activate token word e schedule) x =
      ticked P l o (λ p. activated s p m i w vals rest (simulation_home s m i token) token word e schedule) (λ t' w'. activate_goes token word e schedule x.0 x.1 x.2 t' w')

  pub execs_goes : (ss : Statements) → StatementsAre s u ss → Goes P (execs o m i w vals rest ss)
  execs_goes NoStatement x = goes w work
  execs_goes (Also a more) x = goes (Do (Exec a) ∷ Do (Execs more) ∷ w) ([], ks, (refl, refl, refl, (u, site, x.0)), ([], ks, (refl, refl, refl, (u, site, x.1)), work))

  -- ---- loops

  test_fine : (c : Expression) (a : Statement) → ExprIs s (In u) c (Simply kind.Boolean) → StatementIs s u a → OpFine s (see marks o) m i t (TestOp c a) [] [] ks ks
  test_fine c a x y = (refl, refl, refl, (u, site, (x, y)))

  pub test_goes : (c : Expression) (a : Statement) → ExprIs s (In u) c (Simply kind.Boolean) → StatementIs s u a → Goes P (do_op s l o m i w vals rest (TestOp c a))
  test_goes c a x y =
      ticked P l o (λ p. go p m i (Do (Eval (close s m i c)) ∷ Do (BranchOp a (BackOp (TestOp c a))) ∷ w) vals rest) (λ t' w'.
      goes (Do (Eval (close s m i c)) ∷ Do (BranchOp a (BackOp (TestOp c a))) ∷ w) (evals c (Simply kind.Boolean) (Do (BranchOp a (BackOp (TestOp c a))) ∷ w) ks x ([], ks, (refl, refl, refl, (u, site, y), test_fine c a x y), work)))

  -- the text that a value is assigned to is found before
  abbrev found : Target → List Kinds → List Kinds
  found (ToTextOf j key line) ks = Value (Simply kind.Text) ∷ ks
  found (ToTextAt x line) ks = Value (Simply kind.Text) ∷ ks
  found (ToCell j key) ks = ks
  found ToAddress ks = ks
  found (ToText line) ks = ks
  found (ToReference line) ks = ks
  found (ToNamed q line) ks = ks
  found (ToPlace x) ks = ks
  found (ToReferenceAt x line) ks = ks

  finds : (x : Target) (k : Kind) (w : List Item) (ks : List Kinds) → VariableFine s m i t x k → Wk w (found x ks) → Wk (finding x w) ks
  finds (ToCell j key) k w ks c x = x
  finds ToAddress k w ks c x = absurd c
  finds (ToText line) k w ks c x = absurd c
  finds (ToReference line) k w ks c x = absurd c
  finds (ToNamed q line) k w ks c x = absurd c
  finds (ToTextOf j key line) k w ks c x = ([], Value (Simply kind.Text) ∷ ks, (simple kind.Text, (Simply k, (Simply kind.Text, c.1, refl), at_cell c.0), refl, refl), x)
  finds (ToPlace r) k w ks c x = x
  finds (ToTextAt r line) k w ks c x = ([], Value (Simply kind.Text) ∷ ks, (simple kind.Text, (Simply kind.Text, AddressOf (Simply k), c.1, refl, c.0), refl, refl), x)
  finds (ToReferenceAt r line) k w ks c x = x

  stores : (x : Target) (k : Kind) (w : List Item) (ks : List Kinds) → VariableFine s m i t x k → Wk w ks → Wk (Do (StoreOp x) ∷ w) (Value (Simply k) ∷ found x ks)
  stores (ToCell j key) k w ks c x = ([], ks, value_stored k ks refl (c, refl) refl refl, x)
  stores ToAddress k w ks c x = absurd c
  stores (ToText line) k w ks c x = absurd c
  stores (ToReference line) k w ks c x = absurd c
  stores (ToNamed q line) k w ks c x = absurd c
  stores (ToTextOf j key line) k w ks c x = ([], ks, value_stored k (Value (Simply kind.Text) ∷ ks) refl (ap Simply c.1, refl) refl refl, x)
  stores (ToPlace r) k w ks c x = ([], ks, value_stored k ks refl (c.0, c.1, c.2, refl) refl refl, x)
  stores (ToTextAt r line) k w ks c x = ([], ks, value_stored k (Value (Simply kind.Text) ∷ ks) refl (ap Simply c.1, refl) refl refl, x)
  stores (ToReferenceAt r line) k w ks c x = ([], ks, value_stored k ks refl (ap Simply c.0, refl, c.1, c.2) refl refl, x)

  -- an integer is no text, and no reference
  no_text : kind.Integer ≡ kind.Text → ⊥
  no_text e = cc

  no_reference : kind.Integer ≡ kind.Reference → ⊥
  no_reference e = cc

  stores_integer : (x : Target) (w : List Item) (ks : List Kinds) → VariableFine s m i t x kind.Integer → Wk w ks → Wk (Do (StoreOp x) ∷ w) (Value (Simply kind.Integer) ∷ ks)
  stores_integer (ToCell j key) w ks c x = stores (ToCell j key) kind.Integer w ks c x
  stores_integer (ToPlace r) w ks c x = stores (ToPlace r) kind.Integer w ks c x
  stores_integer ToAddress w ks c x = absurd c
  stores_integer (ToText line) w ks c x = absurd c
  stores_integer (ToReference line) w ks c x = absurd c
  stores_integer (ToNamed q line) w ks c x = absurd c
  stores_integer (ToTextOf j key line) w ks c x = absurd (no_text c.1)
  stores_integer (ToTextAt r line) w ks c x = absurd (no_text c.1)
  stores_integer (ToReferenceAt r line) w ks c x = absurd (no_reference c.0)

  reads : (x : Target) (w : List Item) (ks : List Kinds) → VariableFine s m i t x kind.Integer → Wk w (Value (Simply kind.Integer) ∷ ks) → Wk (reading x w) ks
  reads (ToCell j key) w ks c x = ([], Value (Simply kind.Integer) ∷ ks, (simple kind.Integer, (Simply kind.Integer, (Simply kind.Integer, refl, refl), at_cell c), refl, refl), x)
  reads (ToPlace r) w ks c x = ([], Value (Simply kind.Integer) ∷ ks, (simple kind.Integer, (Simply kind.Integer, c.0, taken_leads s kind.Integer c.0 c.1, refl, c.2), refl, refl), x)
  reads ToAddress w ks c x = absurd c
  reads (ToText line) w ks c x = absurd c
  reads (ToReference line) w ks c x = absurd c
  reads (ToNamed q line) w ks c x = absurd c
  reads (ToTextOf j key line) w ks c x = absurd (no_text c.1)
  reads (ToTextAt r line) w ks c x = absurd (no_text c.1)
  reads (ToReferenceAt r line) w ks c x = absurd (no_reference c.0)

  pub elements_goes : (x : Target) (es : List Element) (a : Statement) (k : Kind) → VariableFine s m i t x k → ElementsAre s u k es → StatementIs s u a → Goes P (elements s l o m i w vals rest x es a)
  elements_goes x [] a k v e y = goes w work
  elements_goes x (syntax.Once e ∷ es) a k v f y =
      ticked P l o (λ p. go p m i (finding x (Do (Eval (close s m i e)) ∷ Do (StoreOp x) ∷ Do (Exec a) ∷ Do (ElementsOp x es a) ∷ w)) vals rest) (λ t' w'.
      goes (finding x (Do (Eval (close s m i e)) ∷ Do (StoreOp x) ∷ Do (Exec a) ∷ Do (ElementsOp x es a) ∷ w)) (finds x k (Do (Eval (close s m i e)) ∷ Do (StoreOp x) ∷ Do (Exec a) ∷ Do (ElementsOp x es a) ∷ w) ks v
      (evals e (Simply k) (Do (StoreOp x) ∷ Do (Exec a) ∷ Do (ElementsOp x es a) ∷ w) (found x ks) f.0 (stores x k (Do (Exec a) ∷ Do (ElementsOp x es a) ∷ w) ks v ([], ks, (refl, refl, refl, (u, site, y)), loops x k es a v f.1 y)))))
  elements_goes x (syntax.While e token c ∷ es) a k v f y =
      let g = f.0 in
      goes (Do (WhileElementOp x e c a) ∷ Do (ElementsOp x es a) ∷ w) ([], ks, (refl, refl, refl, (u, site, (k, v, g.0, g.1, y))), loops x k es a v f.1 y)
  elements_goes x (syntax.Step start token step limit ∷ es) a k v f y =
      let g = f.0 in
      let v' = subst (VariableFine s m i t x) g.0 v in
      goes (Do (Eval (close s m i start)) ∷ Do (StoreOp x) ∷ Do (Eval (close s m i step)) ∷ Do (StepTestOp x (line_at s token) step limit a) ∷ Do (ElementsOp x es a) ∷ w)
      (evals start (Simply kind.Integer) (Do (StoreOp x) ∷ Do (Eval (close s m i step)) ∷ Do (StepTestOp x (line_at s token) step limit a) ∷ Do (ElementsOp x es a) ∷ w) ks g.1
      (stores_integer x (Do (Eval (close s m i step)) ∷ Do (StepTestOp x (line_at s token) step limit a) ∷ Do (ElementsOp x es a) ∷ w) ks v'
      (evals step (Simply kind.Integer) (Do (StepTestOp x (line_at s token) step limit a) ∷ Do (ElementsOp x es a) ∷ w) ks g.2
      ([], ks, (refl, refl, refl, (u, site, (v', g.2, g.3, y))), loops x k es a v f.1 y))))

  pub while_goes : (x : Target) (e c : Expression) (a : Statement) (k : Kind) → VariableFine s m i t x k → ExprIs s (In u) e (Simply k) → ExprIs s (In u) c (Simply kind.Boolean) → StatementIs s u a → Goes P (while_element s l o m i w vals rest x e c a)
  while_goes x e c a k v f g y =
      ticked P l o (λ p. go p m i (finding x (Do (Eval (close s m i e)) ∷ Do (StoreOp x) ∷ Do (Eval (close s m i c)) ∷ Do (BranchOp a (BackOp (WhileElementOp x e c a))) ∷ w)) vals rest) (λ t' w'.
      goes (finding x (Do (Eval (close s m i e)) ∷ Do (StoreOp x) ∷ Do (Eval (close s m i c)) ∷ Do (BranchOp a (BackOp (WhileElementOp x e c a))) ∷ w)) (finds x k (Do (Eval (close s m i e)) ∷ Do (StoreOp x) ∷ Do (Eval (close s m i c)) ∷ Do (BranchOp a (BackOp (WhileElementOp x e c a))) ∷ w) ks v
      (evals e (Simply k) (Do (StoreOp x) ∷ Do (Eval (close s m i c)) ∷ Do (BranchOp a (BackOp (WhileElementOp x e c a))) ∷ w) (found x ks) f
      (stores x k (Do (Eval (close s m i c)) ∷ Do (BranchOp a (BackOp (WhileElementOp x e c a))) ∷ w) ks v
      (evals c (Simply kind.Boolean) (Do (BranchOp a (BackOp (WhileElementOp x e c a))) ∷ w) ks g
      ([], ks, (refl, refl, refl, (u, site, y), (refl, refl, refl, (u, site, (k, v, f, g, y)))), work))))))

  pub step_goes : (x : Target) (line : ℕ) (step limit : Expression) (a : Statement) (left : List Kinds) → ks ≡ Value (Simply kind.Integer) ∷ left → VariableFine s m i t x kind.Integer → ExprIs s (In u) step (Simply kind.Integer) → ExprIs s (In u) limit (Simply kind.Integer) → StatementIs s u a → (w : List Item) → Wk w left → Goes P (step_tested s l o m i w vals rest x line step limit a)
  step_goes x line step limit a left is v f g y w work =
      ticked P l o (λ p. go p m i (reading x (Do (Eval (close s m i limit)) ∷ Do (StepOp line) ∷ Do (BranchOp a (RaiseOp x line step limit a)) ∷ w)) vals rest) (λ t' w'.
      goes (reading x (Do (Eval (close s m i limit)) ∷ Do (StepOp line) ∷ Do (BranchOp a (RaiseOp x line step limit a)) ∷ w)) (subst (λ z. Wk (reading x (Do (Eval (close s m i limit)) ∷ Do (StepOp line) ∷ Do (BranchOp a (RaiseOp x line step limit a)) ∷ w)) z) (sym is)
      (reads x (Do (Eval (close s m i limit)) ∷ Do (StepOp line) ∷ Do (BranchOp a (RaiseOp x line step limit a)) ∷ w) (Value (Simply kind.Integer) ∷ left) v
      (evals limit (Simply kind.Integer) (Do (StepOp line) ∷ Do (BranchOp a (RaiseOp x line step limit a)) ∷ w) (Value (Simply kind.Integer) ∷ Value (Simply kind.Integer) ∷ left) g
      ([], Value (Simply kind.Boolean) ∷ left, (left, refl, refl, refl), ([], left, (refl, refl, refl, (u, site, y), (refl, refl, refl, (u, site, (v, f, g, y)))), work))))))

  pub raise_goes : (x : Target) (line : ℕ) (step limit : Expression) (a : Statement) → VariableFine s m i t x kind.Integer → ExprIs s (In u) step (Simply kind.Integer) → ExprIs s (In u) limit (Simply kind.Integer) → StatementIs s u a → Goes P (raised s o m i w vals rest x line step limit a)
  raise_goes x line step limit a v f g y =
      goes (Do (Eval (close s m i step)) ∷ Do AgainOp ∷ reading x (Do (TwoOp (dyadic.Calculate calculation.Add) line) ∷ Do (StoreOp x) ∷ Do (BackOp (StepTestOp x line step limit a)) ∷ w))
      (evals step (Simply kind.Integer) (Do AgainOp ∷ reading x (Do (TwoOp (dyadic.Calculate calculation.Add) line) ∷ Do (StoreOp x) ∷ Do (BackOp (StepTestOp x line step limit a)) ∷ w)) ks f (
        [],
        Value (Simply kind.Integer) ∷ Value (Simply kind.Integer) ∷ ks,
        (kind.Integer, ks, refl, refl, refl),
        reads x (Do (TwoOp (dyadic.Calculate calculation.Add) line) ∷ Do (StoreOp x) ∷ Do (BackOp (StepTestOp x line step limit a)) ∷ w) (Value (Simply kind.Integer) ∷ Value (Simply kind.Integer) ∷ ks) v (
          [],
          Value (Simply kind.Integer) ∷ Value (Simply kind.Integer) ∷ ks,
          (kind.Integer, kind.Integer, Value (Simply kind.Integer) ∷ ks, (refl, refl), refl, refl, refl),
          stores_integer x (Do (BackOp (StepTestOp x line step limit a)) ∷ w) (Value (Simply kind.Integer) ∷ ks) v
              ([], ks, (refl, refl, refl, (u, site, (v, f, g, y))), work),
        ),
      ))

  -- ---- choices

  pub first_works : (other : Statements) → Wk (first_branch other w) ks
  first_works NoStatement = work
  first_works (Also a more) = ([], ks, (refl, refl), work)

-- what waits for a truth value
module _ (s : Source) (ok : Typed s) (l : Limits) (o : World) (marks : Marks) (long : length marks.sights ≡ length o.arrays) (m : Instances) (i t : ℕ) (rest : List Activation) (top : Operates marks.beneath marks.seat m i rest) (w : List Item) (vals : List Val) (ks : List Kinds) (b : Begun s (see marks o) m i t []) (h : HandsFine s (see marks o) m i (Value (Simply kind.Boolean) ∷ ks) vals) (work : Work s o marks long m i t rest top w [] ks) (u : ℕ) (site : Site s m i u) where
  pub choose_goes : (a : Statement) (other : Statements) → StatementIs s u a → StatementsAre s u other → Goes (IsFine s) (do_op s l o m i w vals rest (ChooseOp a other))
  choose_goes a other x y =
      truth_popped (IsFine s) s (see marks o) m i ks vals o (λ c vs. choosing c (go o m i (Do (Exec a) ∷ first_branch other w) vs rest) (go o m i (Do (Execs other) ∷ w) vs rest)) h (λ c vs more.
      chosen (IsFine s) c (go o m i (Do (Exec a) ∷ first_branch other w) vs rest) (go o m i (Do (Execs other) ∷ w) vs rest)
      (goes_on s o marks long m i t rest top (Do (Exec a) ∷ first_branch other w) vs [] ks b more ([], ks, (refl, refl, refl, (u, site, x)), first_works s ok l o marks long m i t rest top w vs ks b more work u site other))
      (goes_on s o marks long m i t rest top (Do (Execs other) ∷ w) vs [] ks b more ([], ks, (refl, refl, refl, (u, site, y)), work)))

  pub branch_goes : (a : Statement) (again : Op) → StatementIs s u a → OpFine s (see marks o) m i t again [] [] ks ks → Goes (IsFine s) (do_op s l o m i w vals rest (BranchOp a again))
  branch_goes a again x y =
      truth_popped (IsFine s) s (see marks o) m i ks vals o (λ c vs. choosing c (go o m i (Do (Exec a) ∷ Do again ∷ w) vs rest) (go o m i w vs rest)) h (λ c vs more.
      chosen (IsFine s) c (go o m i (Do (Exec a) ∷ Do again ∷ w) vs rest) (go o m i w vs rest)
      (goes_on s o marks long m i t rest top (Do (Exec a) ∷ Do again ∷ w) vs [] ks b more ([], ks, (refl, refl, refl, (u, site, x)), ([], ks, y, work)))
      (goes_on s o marks long m i t rest top w vs [] ks b more work))
