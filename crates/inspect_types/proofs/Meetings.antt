-- The pass over connections, construct by construct.
use Rattle.std.proofs.Common.{◌≡◌, ◌<◌, ℕ, List, Option, None, sym, ap, ◌∙◌, length}
use Rattle.std.specs.declared.alloc.Global.{Global}
use Rattle.std.specs.declared.boxed.Box.{Box}
use Rattle.std.specs.declared.vec.Vec.{Vec}
use Rattle.sim_base.specs.declared.numbering.TokenNo.{TokenNo}
use Rattle.sim_tree.specs.declared.expr.Expr.{Expr}
use Rattle.sim_tree.specs.declared.expr.Identifier.{Identifier}
use Rattle.sim_tree.specs.declared.program.BlockPrefix.{BlockPrefix}
use Rattle.sim_tree.specs.declared.program.Program.{Program}
use Rattle.sim_tree.specs.declared.stmt.Activation.{Activation}
use Rattle.sim_tree.specs.declared.stmt.ArraySegment.{ArraySegment}
use Rattle.sim_tree.specs.declared.stmt.Assigned.{Assigned}
use Rattle.sim_tree.specs.declared.stmt.Block.{Block}
use Rattle.sim_tree.specs.declared.stmt.Class.{Class}
use Rattle.sim_tree.specs.declared.stmt.Decl.{Decl}
use Rattle.sim_tree.specs.declared.stmt.Decl.TheVariants as d
use Rattle.sim_tree.specs.declared.stmt.ForElement.{ForElement}
use Rattle.sim_tree.specs.declared.stmt.Procedure.{Procedure}
use Rattle.sim_tree.specs.declared.stmt.ReferenceElement.{ReferenceElement}
use Rattle.sim_tree.specs.declared.stmt.Stmt.{Stmt}
use Rattle.sim_tree.specs.declared.stmt.Stmt.TheVariants as s
use Rattle.sim_tree.specs.declared.stmt.Timing.{Timing}
use Rattle.sim_tree.specs.declared.stmt.TypeName.{TypeName}
use Rattle.sim_tree.specs.declared.stmt.Variable.{Variable}
use Rattle.sim_tree.specs.declared.stmt.When.{When}
use Rattle.sim_tree.specs.SyntaxOf.{syntax_of}
use Rattle.sim_tree.specs.SyntaxOfProgram.{program_syntax}
use Rattle.sim_scope.specs.declared.outcome.Extent.TheVariants.{Statement}
use Rattle.sim_scope.specs.declared.outcome.Side.{Side}
use Rattle.sim_scope.specs.declared.types.Position.{Position}
use Rattle.sim_scope.specs.declared.types.Position.TheVariants.{ClassBody, Inside}
use Rattle.sim_scope.specs.ExpressionWalk.{FindsSide}
use Rattle.sim_scope.specs.Found.{Findings}
use Rattle.sim_scope.specs.Runs.{Runs, each, run}
use Rattle.sim_scope.specs.Tables.{Tables}
use Rattle.sim_scope.specs.Walk.{of_arm, of_block, of_branch, of_declaration, of_statement, of_whole, program_events}
use Rattle.sim_scope.proofs.Walks.{runs_none, runs_one, leads_all, leads_next, leads_end, run_empty, run_block, run_block_of_class, run_body_of_class, run_prefixed, run_inner, run_call, run_assignment, run_if, run_while, run_for, run_for_reference, run_inspect, run_inspect_when, run_activation, run_some, run_no_branch, run_arm, run_compound, run_whole_block, run_whole, run_class_body, run_variables, run_arrays, run_procedure, run_class, run_program}
use Rattle.inspect_types.specs.Connecting.{ConnectingOf, Connects, Looks, Names, class_of_type, connected, connecting, connections}

-- an object is met
pub looked : (c : ConnectingOf) (t : Tables) (n m : Option ℕ) (f g : Findings) (e : Expr) (x : Side) → c ≡ record { tables = t; next = n } → FindsSide t Statement f g x e → m ≡ class_of_type t x.ty
    → (let d : ConnectingOf = record { tables = t; next = m } in d) ≡ connecting c (Looks (syntax_of e))
unfolding FindsSide connecting
looked c t n m f g e x from found is =
    ap (λ m. let d : ConnectingOf = record { tables = t; next = m } in d) (is ∙ ap (λ (y : Side). class_of_type t y.ty) found.is) ∙ ap (λ c. connecting c (Looks (syntax_of e))) (sym from)

-- ---- statements

pub meet_prefixed : (b c : ConnectingOf) (p : Position) (x : Stmt) (q : BlockPrefix) (k : Block) → x ≡ s.PrefixedBlock q k → Runs connecting b c (of_whole connections k) → Runs connecting b c (of_statement connections p x)
unfolding connections
meet_prefixed b c p x q k is h = run_prefixed connecting connections b b c p x q k is (runs_none connecting b) h

pub meet_inner : (b : ConnectingOf) (p : Position) (x : Stmt) (i : TokenNo) → x ≡ s.Inner i → Runs connecting b b (of_statement connections p x)
unfolding connections
meet_inner b p x i is = run_inner connecting connections b b p x i is (runs_none connecting b)

pub meet_called : (b : ConnectingOf) (p : Position) (x : Stmt) (e : Expr) → x ≡ s.Call e → Runs connecting b b (of_statement connections p x)
unfolding connections
meet_called b p x e is = run_call connecting connections b b p x e is (runs_none connecting b)

pub meet_assigned : (b : ConnectingOf) (p : Position) (x : Stmt) (e : Expr) (v : Vec Assigned Global) → x ≡ s.Assignment e v → Runs connecting b b (of_statement connections p x)
unfolding connections
meet_assigned b p x e v is = run_assignment connecting connections b b p x e v is (runs_none connecting b)

pub meet_activation : (b : ConnectingOf) (p : Position) (x : Stmt) (i : TokenNo) (w : Activation) (e : Expr) (z : Option Timing) → x ≡ s.Activation i w e z → Runs connecting b b (of_statement connections p x)
unfolding connections
meet_activation b p x i w e z is = run_activation connecting connections b b p x i w e z is (runs_none connecting b)

pub meet_if : (b m c : ConnectingOf) (p : Position) (x y : Stmt) (i : TokenNo) (e : Expr) (a : Box Stmt Global) (o : Option (Box Stmt Global)) → x ≡ s.If i e a o
    → y ≡ a.value → Runs connecting b m (of_statement connections Inside y) → Runs connecting m c (of_branch connections o) → Runs connecting b c (of_statement connections p x)
unfolding connections
meet_if b m c p x y i e a o is same g h = run_if connecting connections b b m c p x y i e a o is (runs_none connecting b) same g h

pub meet_while : (b c : ConnectingOf) (p : Position) (x y : Stmt) (i : TokenNo) (e : Expr) (a : Box Stmt Global) → x ≡ s.While i e a → y ≡ a.value → Runs connecting b c (of_statement connections Inside y)
    → Runs connecting b c (of_statement connections p x)
unfolding connections
meet_while b c p x y i e a is same g = run_while connecting connections b b c p x y i e a is (runs_none connecting b) same g

pub meet_for : (b c : ConnectingOf) (p : Position) (x y : Stmt) (i : TokenNo) (q : Identifier) (j : TokenNo) (v : Vec ForElement Global) (a : Box Stmt Global) → x ≡ s.For i q j v a → y ≡ a.value
    → Runs connecting b c (of_statement connections Inside y) → Runs connecting b c (of_statement connections p x)
unfolding connections
meet_for b c p x y i q j v a is same g = run_for connecting connections b b c p x y i q j v a is (runs_none connecting b) same g

pub meet_for_reference : (b c : ConnectingOf) (p : Position) (x y : Stmt) (i : TokenNo) (q : Identifier) (j : TokenNo) (v : Vec ReferenceElement Global) (a : Box Stmt Global) → x ≡ s.ForReference i q j v a → y ≡ a.value
    → Runs connecting b c (of_statement connections Inside y) → Runs connecting b c (of_statement connections p x)
unfolding connections
meet_for_reference b c p x y i q j v a is same g = run_for_reference connecting connections b b c p x y i q j v a is (runs_none connecting b) same g

pub meet_inspect : (b k n m c : ConnectingOf) (p : Position) (x y : Stmt) (i : TokenNo) (e : Expr) (j : TokenNo) (a : Box Stmt Global) (f : TokenNo) (w : Option (Box Stmt Global)) → x ≡ s.Inspect i e j a f w
    → k ≡ connecting b (Looks (syntax_of e)) → n ≡ connecting k (Connects j.0) → y ≡ a.value → Runs connecting n m (of_statement connections Inside y) → Runs connecting m c (of_branch connections w)
    → Runs connecting b c (of_statement connections p x)
unfolding connections
meet_inspect b k n m c p x y i e j a f w is one two same g h =
    run_inspect connecting connections b k n m m c p x y i e j a f w is (runs_one connecting b k (Looks (syntax_of e)) one) (runs_one connecting k n (Connects j.0) two) same g (runs_none connecting m) h

pub meet_inspect_when : (b m c : ConnectingOf) (p : Position) (x : Stmt) (l : List When) (i : TokenNo) (e : Expr) (a : Vec When Global) (w : Option (Box Stmt Global)) → x ≡ s.InspectWhen i e a w → l ≡ a.items
    → Runs connecting b m (each (of_arm connections) l) → Runs connecting m c (of_branch connections w) → Runs connecting b c (of_statement connections p x)
unfolding connections
meet_inspect_when b m c p x l i e a w is same g h = run_inspect_when connecting connections b b m c p x l i e a w is (runs_none connecting b) same g h

pub meet_arm : (b k n c : ConnectingOf) (w : When) → k ≡ connecting b (Names w.class) → n ≡ connecting k (Connects w.opening.0) → Runs connecting n c (of_statement connections Inside w.body) → Runs connecting b c (of_arm connections w)
unfolding connections
meet_arm b k n c w one two g = run_arm connecting connections b k n c c w (runs_one connecting b k (Names w.class) one) (runs_one connecting k n (Connects w.opening.0) two) g (runs_none connecting c)

-- ---- blocks

pub meet_block : (b n c : ConnectingOf) (k : Block) (ds fs : List Decl) (l : List Stmt) → fs ≡ k.declarations.items → 0 < length fs → ds ≡ k.declarations.items → Runs connecting b n (each (of_declaration connections) ds)
    → l ≡ k.statements.items → Runs connecting n c (each (of_statement connections Inside) l) → Runs connecting b c (of_block connections k)
unfolding connections
meet_block b n c k ds fs l there some same f also_ g =
    run_whole_block connecting connections b b n c c k ds fs l there some (runs_none connecting b) same f also_ g (runs_none connecting c)

pub meet_whole : (b n c : ConnectingOf) (k : Block) (ds : List Decl) (l : List Stmt) → ds ≡ k.declarations.items → Runs connecting b n (each (of_declaration connections) ds) → l ≡ k.statements.items
    → Runs connecting n c (each (of_statement connections Inside) l) → Runs connecting b c (of_whole connections k)
unfolding connections
meet_whole b n c k ds l same f also_ g = run_whole connecting connections b n c c k ds l same f also_ g (runs_none connecting c)

-- ---- declarations

pub meet_variables : (b : ConnectingOf) (x : Decl) (n : TypeName) (v : Vec Variable Global) → x ≡ d.Variables n v → Runs connecting b b (of_declaration connections x)
unfolding connections
meet_variables b x n v is = run_variables connecting connections b b x n v is (runs_none connecting b)

pub meet_arrays : (b : ConnectingOf) (x : Decl) (n : TypeName) (i : TokenNo) (v : Vec ArraySegment Global) → x ≡ d.Arrays n i v → Runs connecting b b (of_declaration connections x)
unfolding connections
meet_arrays b x n i v is = run_arrays connecting connections b b x n i v is (runs_none connecting b)

pub meet_procedure : (b c : ConnectingOf) (x : Decl) (r : Option TypeName) (i : TokenNo) (q : Procedure) (y : Stmt) → x ≡ d.Procedure r i q → y ≡ q.body.value → Runs connecting b c (of_statement connections Inside y)
    → Runs connecting b c (of_declaration connections x)
unfolding connections
meet_procedure b c x r i q y is same h = run_procedure connecting connections b b c c x r i q y is (runs_none connecting b) same h (runs_none connecting c)

pub meet_class : (b c : ConnectingOf) (x : Decl) (r : Option Identifier) (i : TokenNo) (q : Class) (y : Stmt) → x ≡ d.Class r i q → y ≡ q.body.value → Runs connecting b c (of_statement connections ClassBody y)
    → Runs connecting b c (of_declaration connections x)
unfolding connections
meet_class b c x r i q y is same h = run_class connecting connections b b c c x r i q y is (runs_none connecting b) same h (runs_none connecting c)

pub ruleset walks = (run_empty, run_block, run_block_of_class, run_body_of_class, run_some, run_no_branch, run_compound, run_class_body, leads_all, leads_next, leads_end, meet_prefixed, meet_inner, meet_called, meet_assigned, meet_activation, meet_if, meet_while, meet_for, meet_for_reference, meet_inspect, meet_inspect_when, meet_arm, meet_block, meet_whole, meet_variables, meet_arrays, meet_procedure, meet_class)

-- ---- a program

pub whole_program : (t : Tables) (b c : ConnectingOf) (p : Program) → b ≡ record { tables = t; next = None } → Runs connecting b c (of_whole connections p.block) → c.tables ≡ connected t (program_syntax p)
unfolding connections connected Runs
whole_program t b c p from h =
    ap (λ (z : ConnectingOf). z.tables) (run_program connecting connections b b c p (runs_none connecting b) h)
    ∙ ap (λ z. (run connecting z (program_events connections (program_syntax p))).tables) from

pub ruleset connects_all = (whole_program)
