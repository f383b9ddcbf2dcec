-- The walk over a program, construct by construct, for whatever its parts contribute.
use Rattle.std.proofs.Common.{◌≡◌, ◌<◌, ◌≤◌, ◌+◌, ℕ, List, [], ◌∷◌, ◌++◌, Option, Some, None, refl, sym, ap, ◌∙◌, map, drop, length, subst, arith, append-nil}
use Rattle.std.proofs.lemmas.List.{drop_more, drop_all}
use Rattle.std.specs.Prelude.{slice_index_or}
use Rattle.std.specs.declared.alloc.Global.{Global}
use Rattle.std.specs.declared.boxed.Box.{Box}
use Rattle.std.specs.declared.vec.Vec.{Vec}
use Rattle.sim_base.specs.declared.numbering.TokenNo.{TokenNo}
use Rattle.sim_tree.specs.declared.expr.Expr.{Expr}
use Rattle.sim_tree.specs.declared.expr.Identifier.{Identifier}
use Rattle.sim_tree.specs.declared.program.BlockPrefix.{BlockPrefix}
use Rattle.sim_tree.specs.declared.program.Program.{Program}
use Rattle.sim_tree.specs.declared.stmt.Activation.{Activation}
use Rattle.sim_tree.specs.declared.stmt.ArraySegment.{ArraySegment}
use Rattle.sim_tree.specs.declared.stmt.Assigned.{Assigned}
use Rattle.sim_tree.specs.declared.stmt.Assignment.TheVariants as assignment
use Rattle.sim_tree.specs.declared.stmt.Block.{Block}
use Rattle.sim_tree.specs.declared.stmt.Class.{Class}
use Rattle.sim_tree.specs.declared.stmt.Decl.{Decl}
use Rattle.sim_tree.specs.declared.stmt.Decl.TheVariants as d
use Rattle.sim_tree.specs.declared.stmt.ForElement.{ForElement}
use Rattle.sim_tree.specs.declared.stmt.Procedure.{Procedure}
use Rattle.sim_tree.specs.declared.stmt.ReferenceElement.{ReferenceElement}
use Rattle.sim_tree.specs.declared.stmt.Stmt.{Stmt}
use Rattle.sim_tree.specs.declared.stmt.Stmt.TheVariants as s
use Rattle.sim_tree.specs.declared.stmt.Timing.{Timing}
use Rattle.sim_tree.specs.declared.stmt.TypeName.{TypeName}
use Rattle.sim_tree.specs.declared.stmt.Variable.{Variable}
use Rattle.sim_tree.specs.declared.stmt.When.{When}
use Rattle.sim_tree.specs.Syntax.{expressions, statements, declarations, Statement, Compound, Declaration}
use Rattle.sim_tree.specs.SyntaxOf.{syntax_of}
use Rattle.sim_tree.specs.SyntaxOfProgram.{Arm, arms, branch_syntax, heading_syntax, interface_syntax, right_side_syntax, element_syntax, reference_element_syntax, schedule_syntax, segment_syntax, prefix_syntax, program_syntax, statement_syntax, declaration_syntax, block_syntax, arm_syntax}
use Rattle.std.specs.Prelude.{option_map}
use Rattle.sim_tree.proofs.ProgramSyntaxLemmas.{syntax-Empty, syntax-Block, syntax-PrefixedBlock, syntax-Inner, syntax-Call, syntax-Assignment, syntax-If, syntax-While, syntax-For, syntax-ForReference, syntax-Inspect, syntax-InspectWhen, syntax-Activation, syntax-Variables, syntax-Arrays, syntax-Procedure, syntax-Class, syntax-block, syntax-procedure, syntax-class, syntax-when}
use Rattle.sim_scope.specs.declared.types.Position.{Position}
use Rattle.sim_scope.specs.declared.types.Position.TheVariants.{ClassBody, ClassStatement, Inside}
use Rattle.sim_scope.specs.Runs.{run, Runs, each, Leads}
use Rattle.sim_scope.specs.Walk.{Visit, arm_classes, enclosed, statement_events, statements_events, arms_events, block_events, whole_events, class_events, declarations_events, declaration_events, program_events, begin_of, of_statement, of_branch, of_arm, of_block, of_whole, of_class_body, of_declaration}

-- One step after another.
module _ {S E : Type 0} (step : S → E → S) where
  pub run-append : (s : S) (xs ys : List E) → run step s (xs ++ ys) ≡ run step (run step s xs) ys
  unfolding run
  run-append s [] ys = refl
  run-append s (x ∷ xs) ys = run-append (step s x) xs ys

  pub runs_both : (b m c : S) (xs ys : List E) → Runs step b m xs → Runs step m c ys → Runs step b c (xs ++ ys)
  unfolding Runs
  runs_both b m c xs ys f g = g ∙ ap (λ z. run step z ys) f ∙ sym (run-append b xs ys)

  pub runs_as : (b c : S) (xs ys : List E) → xs ≡ ys → Runs step b c xs → Runs step b c ys
  runs_as b c xs ys e h = subst (λ z. Runs step b c z) e h

  pub runs_none : (b : S) → Runs step b b []
  unfolding Runs run
  runs_none b = refl

  pub runs_one : (b c : S) (x : E) → c ≡ step b x → Runs step b c (x ∷ [])
  unfolding Runs run
  runs_one b c x e = e

  pub runs_first : (b m c : S) (x : E) (ys : List E) → m ≡ step b x → Runs step m c ys → Runs step b c (x ∷ ys)
  unfolding Runs run
  runs_first b m c x ys e g = g ∙ ap (λ z. run step z ys) e

  -- Loops.
  pub leads_all : {A : Type 0} (f : A → List E) (b : S) (xs : List A) → Leads step f b xs b 0
  unfolding Leads
  leads_all f b xs = refl

  pub leads_next : {A : Type 0} (f : A → List E) (b g h : S) (xs : List A) (i : ℕ) (x : A) → Leads step f b xs g i → i < length xs → x ≡ slice_index_or xs i x → Runs step g h (f x) → Leads step f b xs h (i + 1)
  unfolding Leads Runs
  leads_next f b g h xs i x lead le is one =
      let from : drop i xs ≡ x ∷ drop (i + 1) xs = drop_more xs i x le ∙ ap (λ y. y ∷ drop (i + 1) xs) (sym is) in
      ap (λ z. run step z (each f (drop (i + 1) xs))) one ∙ sym (run-append g (f x) (each f (drop (i + 1) xs))) ∙ ap (λ z. run step g (each f z)) (sym from) ∙ lead

  pub leads_item : {A : Type 0} (f : A → List E) (b g h : S) (xs : List A) (i : ℕ) (d : A) → Leads step f b xs g i → i < length xs → Runs step g h (f (slice_index_or xs i d)) → Leads step f b xs h (i + 1)
  unfolding Leads Runs
  leads_item f b g h xs i d lead le one =
      ap (λ z. run step z (each f (drop (i + 1) xs))) one ∙ sym (run-append g (f (slice_index_or xs i d)) (each f (drop (i + 1) xs))) ∙ ap (λ z. run step g (each f z)) (sym (drop_more xs i d le)) ∙ lead

  pub leads_end : {A : Type 0} (f : A → List E) (b g : S) (xs : List A) (i : ℕ) → Leads step f b xs g i → length xs ≤ i → Runs step b g (each f xs)
  unfolding Leads Runs run
  leads_end f b g xs i lead le = ap (λ z. run step g (each f z)) (sym (drop_all i xs le)) ∙ lead

module _ {S E : Type 0} (step : S → E → S) (v : Visit E) where
  -- Statements.
  events_at : (p : Position) (x : Stmt) (z : Statement) → statement_syntax x ≡ z → statement_events v p z ≡ of_statement v p x
  unfolding of_statement
  events_at p x z e = ap (statement_events v p) (sym e)

  as_syntax : (b c : S) (p : Position) (y z : Stmt) → y ≡ z → Runs step b c (of_statement v p y) → Runs step b c (statement_events v p (statement_syntax z))
  unfolding of_statement
  as_syntax b c p y z e h = subst (λ w. Runs step b c (of_statement v p w)) e h

  as_branch : (b c : S) (o : Option (Box Stmt Global)) → Runs step b c (of_branch v o) → Runs step b c (statements_events v Inside (branch_syntax o))
  unfolding of_branch
  as_branch b c o h = h

  pub run_empty : (b : S) (p : Position) (x : Stmt) (i : TokenNo) → x ≡ s.Empty i → Runs step b b (of_statement v p x)
  run_empty b p x i is = runs_as step b b [] _ (events_at p x _ (ap statement_syntax is ∙ syntax-Empty i)) (runs_none step b)

  pub run_block : (b c : S) (p : Position) (x : Stmt) (k : Block) → x ≡ s.Block k → p ≡ Inside → Runs step b c (of_block v k) → Runs step b c (of_statement v p x)
  unfolding of_block
  run_block b c p x k is at h = runs_as step b c (statement_events v Inside (Compound (block_syntax k))) (of_statement v p x) (ap (λ q. statement_events v q (Compound (block_syntax k))) (sym at) ∙ events_at p x (Compound (block_syntax k)) (ap statement_syntax is ∙ syntax-Block k)) h

  pub run_block_of_class : (b c : S) (p : Position) (x : Stmt) (k : Block) → x ≡ s.Block k → p ≡ ClassStatement → Runs step b c (of_block v k) → Runs step b c (of_statement v p x)
  unfolding of_block
  run_block_of_class b c p x k is at h = runs_as step b c (statement_events v ClassStatement (Compound (block_syntax k))) (of_statement v p x) (ap (λ q. statement_events v q (Compound (block_syntax k))) (sym at) ∙ events_at p x (Compound (block_syntax k)) (ap statement_syntax is ∙ syntax-Block k)) h

  pub run_body_of_class : (b c : S) (p : Position) (x : Stmt) (k : Block) → x ≡ s.Block k → p ≡ ClassBody → Runs step b c (of_class_body v k) → Runs step b c (of_statement v p x)
  unfolding of_class_body
  run_body_of_class b c p x k is at h = runs_as step b c (statement_events v ClassBody (Compound (block_syntax k))) (of_statement v p x) (ap (λ q. statement_events v q (Compound (block_syntax k))) (sym at) ∙ events_at p x (Compound (block_syntax k)) (ap statement_syntax is ∙ syntax-Block k)) h

  begins : (k : Block) → begin_of (block_syntax k) ≡ k.token.0
  begins k = ap begin_of (syntax-block k.token k.declarations k.statements k.end)

  pub run_prefixed : (b m c : S) (p : Position) (x : Stmt) (q : BlockPrefix) (k : Block) → x ≡ s.PrefixedBlock q k → Runs step b m (v.prefixed q.class (expressions (map syntax_of q.arguments.items)) k.token.0) → Runs step m c (of_whole v k)
      → Runs step b c (of_statement v p x)
  unfolding of_whole
  run_prefixed b m c p x q k is f g =
      runs_as step b c _ _ (events_at p x _ (ap statement_syntax is ∙ syntax-PrefixedBlock q k))
      (runs_both step b m c _ _ (runs_as step b m _ _ (ap (λ i. v.prefixed q.class (expressions (map syntax_of q.arguments.items)) i) (sym (begins k))) f) g)

  pub run_inner : (b c : S) (p : Position) (x : Stmt) (i : TokenNo) → x ≡ s.Inner i → Runs step b c (v.inner p i.0) → Runs step b c (of_statement v p x)
  run_inner b c p x i is h = runs_as step b c _ _ (events_at p x _ (ap statement_syntax is ∙ syntax-Inner i)) h

  pub run_call : (b c : S) (p : Position) (x : Stmt) (e : Expr) → x ≡ s.Call e → Runs step b c (v.call (syntax_of e)) → Runs step b c (of_statement v p x)
  run_call b c p x e is h = runs_as step b c _ _ (events_at p x _ (ap statement_syntax is ∙ syntax-Call e)) h

  pub run_assignment : (b c : S) (p : Position) (x : Stmt) (e : Expr) (l : Vec Assigned Global) → x ≡ s.Assignment e l → Runs step b c (v.assign (syntax_of e) (map right_side_syntax l.items)) → Runs step b c (of_statement v p x)
  run_assignment b c p x e l is h = runs_as step b c _ _ (events_at p x _ (ap statement_syntax is ∙ syntax-Assignment e l)) h

  pub run_if : (b n m c : S) (p : Position) (x y : Stmt) (i : TokenNo) (e : Expr) (a : Box Stmt Global) (o : Option (Box Stmt Global)) → x ≡ s.If i e a o → Runs step b n (v.condition (syntax_of e))
      → y ≡ a.value → Runs step n m (of_statement v Inside y) → Runs step m c (of_branch v o) → Runs step b c (of_statement v p x)
  run_if b n m c p x y i e a o is f same g h =
      runs_as step b c _ _ (events_at p x _ (ap statement_syntax is ∙ syntax-If i e a o))
      (runs_both step b n c _ _ f (runs_both step n m c _ _ (as_syntax n m Inside y a.value same g) (as_branch m c o h)))

  pub run_while : (b n c : S) (p : Position) (x y : Stmt) (i : TokenNo) (e : Expr) (a : Box Stmt Global) → x ≡ s.While i e a → Runs step b n (v.condition (syntax_of e)) → y ≡ a.value → Runs step n c (of_statement v Inside y)
      → Runs step b c (of_statement v p x)
  run_while b n c p x y i e a is f same g =
      runs_as step b c _ _ (events_at p x _ (ap statement_syntax is ∙ syntax-While i e a)) (runs_both step b n c _ _ f (as_syntax n c Inside y a.value same g))

  pub run_for : (b n c : S) (p : Position) (x y : Stmt) (i : TokenNo) (q : Identifier) (t : TokenNo) (l : Vec ForElement Global) (a : Box Stmt Global) → x ≡ s.For i q t l a
      → Runs step b n (v.control q assignment.Value t.0 (map element_syntax l.items)) → y ≡ a.value → Runs step n c (of_statement v Inside y) → Runs step b c (of_statement v p x)
  run_for b n c p x y i q t l a is f same g =
      runs_as step b c _ _ (events_at p x _ (ap statement_syntax is ∙ syntax-For i q t l a)) (runs_both step b n c _ _ f (as_syntax n c Inside y a.value same g))

  pub run_for_reference : (b n c : S) (p : Position) (x y : Stmt) (i : TokenNo) (q : Identifier) (t : TokenNo) (l : Vec ReferenceElement Global) (a : Box Stmt Global) → x ≡ s.ForReference i q t l a
      → Runs step b n (v.control q assignment.Reference t.0 (map reference_element_syntax l.items)) → y ≡ a.value → Runs step n c (of_statement v Inside y) → Runs step b c (of_statement v p x)
  run_for_reference b n c p x y i q t l a is f same g =
      runs_as step b c _ _ (events_at p x _ (ap statement_syntax is ∙ syntax-ForReference i q t l a)) (runs_both step b n c _ _ f (as_syntax n c Inside y a.value same g))

  pub run_inspect : (b k n m o c : S) (p : Position) (x y : Stmt) (i : TokenNo) (e : Expr) (j : TokenNo) (a : Box Stmt Global) (f : TokenNo) (w : Option (Box Stmt Global)) → x ≡ s.Inspect i e j a f w
      → Runs step b k (v.inspect i.0 (syntax_of e)) → Runs step k n (v.connected j.0) → y ≡ a.value → Runs step n m (of_statement v Inside y) → Runs step m o (v.leave f.0) → Runs step o c (of_branch v w)
      → Runs step b c (of_statement v p x)
  run_inspect b k n m o c p x y i e j a f w is one two same three four five =
      runs_as step b c _ _ (events_at p x _ (ap statement_syntax is ∙ syntax-Inspect i e j a f w))
      (runs_both step b k c _ _ one (runs_both step k n c _ _ two (runs_both step n m c _ _ (as_syntax n m Inside y a.value same three) (runs_both step m o c _ _ four (as_branch o c w five)))))

  each-arms : (l : List When) → each (of_arm v) l ≡ arms_events v (arms (map arm_syntax l))
  unfolding of_arm
  each-arms [] = refl
  each-arms (w ∷ ws) = ap (λ z. of_arm v w ++ z) (each-arms ws)

  pub run_inspect_when : (b k m c : S) (p : Position) (x : Stmt) (l : List When) (i : TokenNo) (e : Expr) (a : Vec When Global) (w : Option (Box Stmt Global)) → x ≡ s.InspectWhen i e a w → Runs step b k (v.inspect_when i.0 (syntax_of e) (arm_classes (arms (map arm_syntax a.items))))
      → l ≡ a.items → Runs step k m (each (of_arm v) l) → Runs step m c (of_branch v w) → Runs step b c (of_statement v p x)
  run_inspect_when b k m c p x l i e a w is one same two three =
      runs_as step b c _ _ (events_at p x _ (ap statement_syntax is ∙ syntax-InspectWhen i e a w))
      (runs_both step b k c _ _ one (runs_both step k m c _ _ (runs_as step k m _ _ (each-arms l ∙ ap (λ z. arms_events v (arms (map arm_syntax z))) same) two) (as_branch m c w three)))

  pub run_activation : (b c : S) (p : Position) (x : Stmt) (i : TokenNo) (w : Activation) (e : Expr) (t : Option Timing) → x ≡ s.Activation i w e t → Runs step b c (v.activate i.0 w (syntax_of e) (schedule_syntax t)) → Runs step b c (of_statement v p x)
  run_activation b c p x i w e t is h = runs_as step b c _ _ (events_at p x _ (ap statement_syntax is ∙ syntax-Activation i w e t)) h

  pub run_some : (b c : S) (o : Option (Box Stmt Global)) (a : Box Stmt Global) (y : Stmt) → o ≡ Some a → y ≡ a.value → Runs step b c (of_statement v Inside y) → Runs step b c (of_branch v o)
  unfolding of_branch
  run_some b c o a y is same h = runs_as step b c (statement_events v Inside (statement_syntax a.value)) (of_branch v o) (sym (ap (λ z. statements_events v Inside (branch_syntax z)) is ∙ append-nil (statement_events v Inside (statement_syntax a.value)))) (as_syntax b c Inside y a.value same h)

  pub run_no_branch : (b : S) (o : Option (Box Stmt Global)) → o ≡ None → Runs step b b (of_branch v o)
  unfolding of_branch
  run_no_branch b o is = runs_as step b b [] (of_branch v o) (sym (ap (λ z. statements_events v Inside (branch_syntax z)) is)) (runs_none step b)

  pub run_arm : (b k m n c : S) (w : When) → Runs step b k (v.arm w.class) → Runs step k m (v.connected w.opening.0) → Runs step m n (of_statement v Inside w.body) → Runs step n c (v.leave w.end.0) → Runs step b c (of_arm v w)
  unfolding of_arm of_statement
  run_arm b k m n c w f enter g h =
      runs_as step b c _ _
      (ap (λ (a : Arm). v.arm a.class ++ (v.connected a.opening ++ (statement_events v Inside a.body ++ v.leave a.end)))
      (sym (syntax-when w.token w.class w.opening w.body w.end)))
      (runs_both step b k c _ _ f (runs_both step k m c _ _ enter (runs_both step m n c _ _ g h)))

  -- Blocks.
  each-statements : (p : Position) (l : List Stmt) → each (of_statement v p) l ≡ statements_events v p (statements (map statement_syntax l))
  unfolding of_statement
  each-statements p [] = refl
  each-statements p (x ∷ xs) = ap (λ z. of_statement v p x ++ z) (each-statements p xs)

  each-declarations : (l : List Decl) → each (of_declaration v) l ≡ declarations_events v (declarations (map declaration_syntax l))
  unfolding of_declaration
  each-declarations [] = refl
  each-declarations (x ∷ xs) = ap (λ z. of_declaration v x ++ z) (each-declarations xs)

  of_statements : (b c : S) (p : Position) (l ss : List Stmt) → l ≡ ss → Runs step b c (each (of_statement v p) l) → Runs step b c (statements_events v p (statements (map statement_syntax ss)))
  of_statements b c p l ss same h = runs_as step b c _ _ (each-statements p l ∙ ap (λ z. statements_events v p (statements (map statement_syntax z))) same) h

  of_declarations : (b c : S) (l ds : List Decl) → l ≡ ds → Runs step b c (each (of_declaration v) l) → Runs step b c (declarations_events v (declarations (map declaration_syntax ds)))
  of_declarations b c l ds same h = runs_as step b c _ _ (each-declarations l ∙ ap (λ z. declarations_events v (declarations (map declaration_syntax z))) same) h

  block-at : (k : Block) → block_events v (block_syntax k) ≡ enclosed (declarations (map declaration_syntax k.declarations.items)) (v.block k.token.0) (declarations_events v (declarations (map declaration_syntax k.declarations.items)) ++ statements_events v Inside (statements (map statement_syntax k.statements.items))) (v.leave k.end.0)
  block-at k = ap (block_events v) (syntax-block k.token k.declarations k.statements k.end)

  enclosed-none : (ds : List Decl) (enter inside leave : List E) → length ds ≡ 0 → enclosed (declarations (map declaration_syntax ds)) enter (declarations_events v (declarations (map declaration_syntax ds)) ++ inside) leave ≡ inside
  enclosed-none [] enter inside leave e = refl
  enclosed-none (x ∷ xs) enter inside leave e = absurd (cc)

  enclosed-some : (ds : List Decl) (enter inside leave : List E) → 0 < length ds → enclosed (declarations (map declaration_syntax ds)) enter inside leave ≡ enter ++ (inside ++ leave)
  enclosed-some [] enter inside leave e = absurd (omega arith)
  enclosed-some (x ∷ xs) enter inside leave e = refl

  -- a compound statement, without declarations
  pub run_compound : (b c : S) (k : Block) (ds : List Decl) (l : List Stmt) → ds ≡ k.declarations.items → length ds ≡ 0 → l ≡ k.statements.items → Runs step b c (each (of_statement v Inside) l) → Runs step b c (of_block v k)
  unfolding of_block
  run_compound b c k ds l there none same h =
      runs_as step b c _ _ (sym (block-at k ∙ enclosed-none k.declarations.items (v.block k.token.0) _ (v.leave k.end.0) (sym (ap length there) ∙ none))) (of_statements b c Inside l k.statements.items same h)

  -- a block with declarations
  pub run_whole_block : (b m n o c : S) (k : Block) (ds fs : List Decl) (l : List Stmt) → fs ≡ k.declarations.items → 0 < length fs → Runs step b m (v.block k.token.0) → ds ≡ k.declarations.items → Runs step m n (each (of_declaration v) ds)
      → l ≡ k.statements.items → Runs step n o (each (of_statement v Inside) l) → Runs step o c (v.leave k.end.0) → Runs step b c (of_block v k)
  unfolding of_block
  run_whole_block b m n o c k ds fs l there some enter same f also_ g leave =
      runs_as step b c _ _ (sym (block-at k ∙ enclosed-some k.declarations.items (v.block k.token.0) _ (v.leave k.end.0) (subst (λ z. 0 < length z) there some)))
      (runs_both step b m c _ _ enter (runs_both step m o c _ _ (runs_both step m n o _ _ (of_declarations m n ds k.declarations.items same f) (of_statements n o Inside l k.statements.items also_ g)) leave))

  -- a block that is one also without declarations, behind its beginning
  pub run_whole : (b n o c : S) (k : Block) (ds : List Decl) (l : List Stmt) → ds ≡ k.declarations.items → Runs step b n (each (of_declaration v) ds) → l ≡ k.statements.items → Runs step n o (each (of_statement v Inside) l)
      → Runs step o c (v.leave k.end.0) → Runs step b c (of_whole v k)
  unfolding of_whole
  run_whole b n o c k ds l same f also_ g leave =
      runs_as step b c _ _ (sym (ap (whole_events v) (syntax-block k.token k.declarations k.statements k.end)))
      (runs_both step b n c _ _ (of_declarations b n ds k.declarations.items same f) (runs_both step n o c _ _ (of_statements n o Inside l k.statements.items also_ g) leave))

  -- the body of a class
  pub run_class_body : (b n c : S) (k : Block) (ds : List Decl) (l : List Stmt) → ds ≡ k.declarations.items → Runs step b n (each (of_declaration v) ds) → l ≡ k.statements.items → Runs step n c (each (of_statement v ClassStatement) l)
      → Runs step b c (of_class_body v k)
  unfolding of_class_body
  run_class_body b n c k ds l same f also_ g =
      runs_as step b c _ _ (sym (ap (class_events v) (syntax-block k.token k.declarations k.statements k.end)))
      (runs_both step b n c _ _ (of_declarations b n ds k.declarations.items same f) (of_statements n c ClassStatement l k.statements.items also_ g))

  -- Declarations.
  declares_at : (x : Decl) (z : Declaration) → declaration_syntax x ≡ z → declaration_events v z ≡ of_declaration v x
  unfolding of_declaration
  declares_at x z e = ap (declaration_events v) (sym e)

  pub run_variables : (b c : S) (x : Decl) (t : TypeName) (l : Vec Variable Global) → x ≡ d.Variables t l → Runs step b c (v.variables t l.items) → Runs step b c (of_declaration v x)
  run_variables b c x t l is h = runs_as step b c _ _ (declares_at x _ (ap declaration_syntax is ∙ syntax-Variables t l)) h

  pub run_arrays : (b c : S) (x : Decl) (t : TypeName) (i : TokenNo) (l : Vec ArraySegment Global) → x ≡ d.Arrays t i l → Runs step b c (v.arrays t (map segment_syntax l.items)) → Runs step b c (of_declaration v x)
  run_arrays b c x t i l is h = runs_as step b c _ _ (declares_at x _ (ap declaration_syntax is ∙ syntax-Arrays t i l)) h

  pub run_procedure : (b m n c : S) (x : Decl) (r : Option TypeName) (i : TokenNo) (q : Procedure) (y : Stmt) → x ≡ d.Procedure r i q → Runs step b m (v.procedure r i.0 (heading_syntax q.name q.parameters.items q.modes.items q.specifications.items))
      → y ≡ q.body.value → Runs step m n (of_statement v Inside y) → Runs step n c (v.leave q.end.0) → Runs step b c (of_declaration v x)
  run_procedure b m n c x r i q y is enter same f leave =
      runs_as step b c _ _ (declares_at x _ (ap declaration_syntax is ∙ syntax-Procedure r i q ∙ syntax-procedure q.name q.parameters q.modes q.specifications q.body q.end r i.0))
      (runs_both step b m c _ _ enter (runs_both step m n c _ _ (as_syntax m n Inside y q.body.value same f) leave))

  pub run_class : (b m n c : S) (x : Decl) (r : Option Identifier) (i : TokenNo) (q : Class) (y : Stmt) → x ≡ d.Class r i q
      → Runs step b m (v.class r i.0 (heading_syntax q.name q.parameters.items q.modes.items q.specifications.items) (interface_syntax q.protections.items q.virtuals.items))
      → y ≡ q.body.value → Runs step m n (of_statement v ClassBody y) → Runs step n c (v.leave q.end.0) → Runs step b c (of_declaration v x)
  run_class b m n c x r i q y is enter same f leave =
      runs_as step b c _ _ (declares_at x _ (ap declaration_syntax is ∙ syntax-Class r i q ∙ syntax-class q.name q.parameters q.modes q.specifications q.protections q.virtuals q.body q.end r i.0))
      (runs_both step b m c _ _ enter (runs_both step m n c _ _ (as_syntax m n ClassBody y q.body.value same f) leave))

  -- a program
  pub run_program : (b m c : S) (p : Program) → Runs step b m (v.program (option_map prefix_syntax p.prefix) p.block.token.0) → Runs step m c (of_whole v p.block) → Runs step b c (program_events v (program_syntax p))
  unfolding program_events program_syntax of_whole
  run_program b m c p f g = runs_both step b m c _ _ (runs_as step b m _ _ (ap (λ i. v.program (option_map prefix_syntax p.prefix) i) (sym (begins p.block))) f) g

pub ruleset walks = (run_empty, run_block, run_block_of_class, run_body_of_class, run_prefixed, run_inner, run_call, run_assignment, run_if, run_while, run_for, run_for_reference, run_inspect, run_inspect_when, run_activation, run_some, run_no_branch, run_arm, run_compound, run_whole_block, run_whole, run_class_body, run_variables, run_arrays, run_procedure, run_class, run_program, leads_all, leads_next, leads_end)
