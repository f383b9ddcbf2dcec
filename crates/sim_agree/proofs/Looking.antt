-- What is looked up to be connected, from left to right: it stands in blocks whose numbers are less than those of the connections that come later.
use Rattle.std.proofs.Common.{◌≡◌, ◌<◌, ◌≤◌, ◌+◌, ℕ, zero, suc, Bool, true, false, List, [], ◌∷◌, ◌++◌, length, Option, Some, None, refl, sym, ap, ◌∙◌, subst, arith, append_assoc}
use Rattle.std.specs.Prelude.{slice_get}
use Rattle.std.proofs.lemmas.List.{length-append}
use Rattle.std.proofs.lemmas.Option.{slice_get_within}
use Rattle.sim_agree.specs.Order.{InOrder}
use Rattle.sim_tree.specs.Syntax.{Also, Arms, Arrays, Begin, Block, Declaration, Declarations, DeclareClass, DeclareProcedure, NoArm, NoDeclaration, NoStatement, Statement, Statements, Variables, When, With, Expressions, Prefix}
use Rattle.sim_tree.specs.Syntax as syntax
use Rattle.sim_scope.specs.declared.types.Position.{Position}
use Rattle.sim_scope.specs.declared.types.Position.TheVariants.{ClassBody, ClassStatement, Inside}
use Rattle.sim_scope.specs.Access.{block_at, encloser}
use Rattle.sim_scope.specs.Declare.{declared_by}
use Rattle.sim_scope.specs.Source.{Source, block_around}
use Rattle.sim_scope.specs.Tables.{BlockOf}
use Rattle.sim_scope.specs.Walk.{arms_events, block_events, declaration_events, declarations_events, program_events, statement_events, statements_events, whole_events, begin_of}
use Rattle.inspect_types.specs.Connecting.{Connecting, Connects, Looks, Names, connections}
use Rattle.sim_meaning.specs.Attributes.{first_in}
use Rattle.sim_meaning.specs.Texts.{BlockText, ClassText, ConnectionText, ProcedureText, StandardText, Text, PrefixedText, prefix_texts, standard_texts, text}
use Rattle.sim_scope.specs.declared.types.BlockKind.{BlockKind}
use Rattle.sim_scope.specs.declared.types.BlockKind.TheVariants as kind
use Rattle.sim_scope.specs.Levels.{is_standard_class}
use Rattle.sim_agree.proofs.Fine.{KindIs}
use Rattle.sim_agree.proofs.StandardBlocks.{standard_text}
use Rattle.sim_agree.proofs.Tables as tables
use Rattle.sim_agree.specs.Places.{PlacedElement, PlacedExpression, PlacedName, PlacedSegment, PlacedSide}
use Rattle.sim_agree.specs.TablesOf.{TablesOf}
use Rattle.sim_agree.proofs.Fitted.{DotsDeclaration, DotsDeclarations, DotsElement, DotsSegment, DotsSide, FittedArms, FittedBlock, FittedStatement, FittedStatements, TextFitted, Whatever, all_whatever, text_fitted, DotsExpressions}
use Rattle.sim_agree.proofs.Laid.{Con, Held, Joined, Part, Whole, arms_held, arms_used, block_held, block_used, declaration_held, declarations_held, declarations_used, each_used, element_used, program_held, all_held, schedule_used, segment_used, side_used, statement_held, statement_used, statements_held, statements_used, text_used, Pre, expression_used, prefixed_held}
use Rattle.sim_agree.proofs.Placing as p
use Rattle.sim_agree.proofs.Spots.{Final}
use Rattle.sim_agree.proofs.Tables.{program_unbroken}
use Rattle.sim_tree.specs.declared.expr.Identifier.{Identifier}

-- What is met, where connections get numbers from one on, and the next one after it the other or a greater one. A connection stands in the block in
-- which that stands which was met directly in front of it.
abbrev pub LooksTo : Source → (last : Option ℕ) → (from : ℕ) → List Connecting → (to : ℕ) → Type 0
LooksTo s last n [] m = n ≤ m
LooksTo s last n (Looks e ∷ es) m = (k : ℕ) × (l : ℕ) × (n ≤ l) × (k < l) × PlacedExpression s.tables k e × LooksTo s (Some k) l es m
LooksTo s last n (Names x ∷ es) m = (k : ℕ) × (l : ℕ) × (n ≤ l) × (k < l) × PlacedName s.tables k x × LooksTo s (Some k) l es m
LooksTo s last n (Connects i ∷ es) m = (j : ℕ) × (n ≤ j) × (block_at s.tables i ≡ Some j) × LooksTo s None (suc j) es m × ((k : ℕ) × (last ≡ Some k) × (encloser s.tables j ≡ Some k))

no_some : {A : Type 0} (a : A) → None ≡ Some a → ⊥
no_some a e = cc

-- where nothing was met
lower : (s : Source) (last : Option ℕ) (es : List Connecting) (n l m : ℕ) → n ≤ l → LooksTo s None l es m → LooksTo s last n es m
lower s last [] n l m le h = omega (arith, le, h)
lower s last (Looks e ∷ es) n l m le h = let q : l ≤ h.1 = h.2 in (h.0, h.1, (let z : n ≤ h.1 = omega (arith, le, q) in z), h.3, h.4, h.5)
lower s last (Names x ∷ es) n l m le h = let q : l ≤ h.1 = h.2 in (h.0, h.1, (let z : n ≤ h.1 = omega (arith, le, q) in z), h.3, h.4, h.5)
lower s last (Connects i ∷ es) n l m le h = absurd (no_some h.4.0 h.4.1)

both_look : (s : Source) (last : Option ℕ) (es fs : List Connecting) (n l m : ℕ) → LooksTo s last n es l → LooksTo s None l fs m → LooksTo s last n (es ++ fs) m
both_look s last [] fs n l m h g = lower s last fs n l m h g
both_look s last (Looks e ∷ es) fs n l m h g = (h.0, h.1, h.2, h.3, h.4, both_look s (Some h.0) es fs h.1 l m h.5 g)
both_look s last (Names x ∷ es) fs n l m h g = (h.0, h.1, h.2, h.3, h.4, both_look s (Some h.0) es fs h.1 l m h.5 g)
both_look s last (Connects i ∷ es) fs n l m h g = (h.0, h.1, h.2, both_look s None es fs (suc h.0) l m h.3 g, h.4)

-- texts one behind the other
both_walk : (s : Source) (xs ys : List Held) (es fs : List Connecting) (n : ℕ) → LooksTo s None n es (n + length xs) → LooksTo s None (n + length xs) fs (n + length xs + length ys) → LooksTo s None n (es ++ fs) (n + length (xs ++ ys))
both_walk s xs ys es fs n h g =
    let e : length (xs ++ ys) ≡ length xs + length ys = length-append xs ys in
    let same : n + length xs + length ys ≡ n + length (xs ++ ys) = omega (arith, e) in
    subst (LooksTo s None n (es ++ fs)) same (both_look s None es fs n (n + length xs) (n + length xs + length ys) h g)

-- one text more in front
inside_walk : (s : Source) (x : Held) (xs : List Held) (es : List Connecting) (n : ℕ) → LooksTo s None (suc n) es (suc n + length xs) → LooksTo s None n es (n + length (x ∷ xs))
inside_walk s x xs es n h =
    let e : length (x ∷ xs) ≡ suc (length xs) = omega arith in
    let same : suc n + length xs ≡ n + length (x ∷ xs) = omega (arith, e) in
    let le : n ≤ suc n = omega arith in
    subst (LooksTo s None n es) same (lower s None es n (suc n) (suc n + length xs) le h)

-- and behind the texts that its prefix brings
past_walk : (s : Source) (x : Held) (ps xs : List Held) (es : List Connecting) (n : ℕ) → LooksTo s None (suc n + length ps) es (suc n + length ps + length xs) → LooksTo s None n es (n + length (x ∷ (ps ++ xs)))
past_walk s x ps xs es n h =
    let e : length (ps ++ xs) ≡ length ps + length xs = length-append ps xs in
    let same : suc n + length ps + length xs ≡ suc n + length (ps ++ xs) = omega (arith, e) in
    let le : suc n ≤ suc n + length ps = omega arith in
    inside_walk s x (ps ++ xs) es n (subst (LooksTo s None (suc n) es) same (lower s None es (suc n) (suc n + length ps) (suc n + length ps + length xs) le h))

none_walk : (s : Source) (n : ℕ) → LooksTo s None n [] (n + length {A = Held} [])
none_walk s n = let z : n ≤ n + length {A = Held} [] = omega arith in z

to_none : (s : Source) (es : List Connecting) (n m : ℕ) → LooksTo s None n es m → LooksTo s None n (es ++ []) m
to_none s es n m h = both_look s None es [] n m m h (let z : m ≤ m = omega arith in z)

-- the body of a class is read as its own text, where it is a block
abbrev InClass : Position → Statement → Type 0
InClass ClassBody (syntax.Compound b) = ⊥
InClass _ a = Unit {0}

abbrev NoBody : Position → Type 0
NoBody ClassBody = ⊥
NoBody _ = Unit {0}

in_class : (q : Position) (a : Statement) → NoBody q → InClass q a
in_class ClassBody a n = absurd n
in_class ClassStatement a n = tt
in_class Inside a n = tt

module _ (s : Source) (of : TablesOf s) (order : InOrder s.program) where
  -- texts stand in the program from a number on
  abbrev StandFrom : ℕ → List Held → Type 0
  StandFrom n [] = Unit {0}
  StandFrom n (h ∷ hs) = (slice_get (program_held s.program.prefix s.program.block) n ≡ Some h) × StandFrom (suc n) hs

  both_stand : (n : ℕ) (xs ys : List Held) → StandFrom n (xs ++ ys) → StandFrom n xs × StandFrom (n + length xs) ys
  both_stand n [] ys h = (tt, (let e : n ≡ n + length {A = Held} [] = omega arith in subst (λ z. StandFrom z ys) e h))
  both_stand n (x ∷ xs) ys h =
      let q = both_stand (suc n) xs ys h.1 in
      let l : length (x ∷ xs) ≡ suc (length xs) = omega arith in
      let e : suc n + length xs ≡ n + length (x ∷ xs) = omega (arith, l) in ((h.0, q.0), subst (λ z. StandFrom z ys) e q.1)

  all_stand : (hs : List Held) (n : ℕ) → ((j : ℕ) (h : Held) → slice_get hs j ≡ Some h → slice_get (program_held s.program.prefix s.program.block) (n + j) ≡ Some h) → StandFrom n hs
  all_stand [] n f = tt
  all_stand (h ∷ hs) n f =
      let z : n + 0 ≡ n = omega arith in (
        subst (λ m. slice_get (program_held s.program.prefix s.program.block) m ≡ Some h) z (f 0 h refl),
        all_stand hs (suc n) (λ j x e. (let m : n + suc j ≡ suc n + j = omega arith in subst (λ m. slice_get (program_held s.program.prefix s.program.block) m ≡ Some x) m (f (suc j) x e))),
      )

  whole : StandFrom 0 (program_held s.program.prefix s.program.block)
  whole = all_stand (program_held s.program.prefix s.program.block) 0 (λ j h e. (let z : j ≡ 0 + j = omega arith in subst (λ m. slice_get (program_held s.program.prefix s.program.block) m ≡ Some h) z e))

  -- a connection is the block around its first token
  opens : (n i : ℕ) (a : Statement) → slice_get (program_held s.program.prefix s.program.block) n ≡ Some (Joined i a) → block_at s.tables i ≡ Some n
  unfolding text
  opens n i a at = go (slice_get (declared_by s.program).tables.blocks n) refl
    where
      f : Final (declared_by s.program) (program_held s.program.prefix s.program.block)
      f = p.final s of order

      go : (o : Option BlockOf) → slice_get (declared_by s.program).tables.blocks n ≡ o → block_at s.tables i ≡ Some n
      go None none =
          let lt : n < length (program_held s.program.prefix s.program.block) = slice_get_within (program_held s.program.prefix s.program.block) n (Joined i a) at in
          let e : length (declared_by s.program).tables.blocks ≡ length (program_held s.program.prefix s.program.block) = f.laid.size in
          absurd (within (declared_by s.program).tables.blocks n (omega (arith, lt, e)) none)
        where
          within : (bs : List BlockOf) (n : ℕ) → n < length bs → slice_get bs n ≡ None → ⊥
          within [] n lt e = omega arith
          within (b ∷ bs) zero lt e = cc
          within (b ∷ bs) (suc n) lt e = let l : length (b ∷ bs) ≡ suc (length bs) = omega arith in within bs n (omega arith) e
      go (Some row) there =
          let e : row.first ≡ i = sym (ap first_in there) ∙ (f.laid.joins n i a at).0 in
          subst (λ z. block_at s.tables z ≡ Some n) e (p.at_place s of order n row.first (f.laid.firsts n row there (other row.kind refl)))
        where
          joined_kind : KindIs (Some row) (Some ConnectionText)
          joined_kind = subst (λ o. KindIs o (Some ConnectionText)) there (subst (λ x. KindIs (slice_get (declared_by s.program).tables.blocks n) x) (p.text_at s of order n (Joined i a) at) ((tables.program_agrees s.program).fine.kinds n))

          other : (k : BlockKind) → row.kind ≡ k → is_standard_class k ≡ false
          other kind.Program e = refl
          other kind.SubBlock e = refl
          other kind.Procedure e = refl
          other kind.Class e = refl
          other kind.Prefixed e = refl
          other kind.Connection e = refl
          other (kind.StandardClass which) e = absurd (let z : Some ConnectionText ≡ Some (StandardText which) = standard_text row (Some ConnectionText) which joined_kind e in cc)

  -- and stands in the text that has it among its parts
  joins_in : (k n i : ℕ) (a : Statement) → p.PartIs s of order k (Con i a) → slice_get (program_held s.program.prefix s.program.block) n ≡ Some (Joined i a) → encloser s.tables n ≡ Some k
  unfolding block_at block_around
  joins_in k n i a j at =
      let c = j.connection in
      let same : c.number ≡ n = one_number (block_at s.tables i) c.number n c.around (opens n i a at) in
      subst (λ z. encloser s.tables z ≡ Some k) same c.stands_in
    where
      one_number : (o : Option ℕ) (a b : ℕ) → o ≡ Some a → o ≡ Some b → a ≡ b
      one_number o a b e f = let z : Some a ≡ Some b = sym e ∙ f in cc

  fitted : (n : ℕ) (x : Text) → slice_get (program_held s.program.prefix s.program.block) n ≡ Some (Whole x) → TextFitted s Whatever x
  fitted n x at = text_fitted s Whatever order (program_unbroken s.program of.unbroken) (all_whatever s None (program_events connections s.program)) n x (p.text_at s of order n (Whole x) at)

  abbrev Are : ℕ → List Part → Type 0
  Are k u = p.AllAre s of order k u

  parts : (n : ℕ) (x : Text) → slice_get (program_held s.program.prefix s.program.block) n ≡ Some (Whole x) → Are n (text_used x)
  parts n x at = p.held_parts s of order n (Whole x) at

  further : (k n m : ℕ) → k < n → k < n + m
  further k n m lt = omega (arith, lt)

  behind_bounds : (k : ℕ) (d : Declaration) (ds : Declarations) (u : List Part) → Are k (declarations_used (With d ds) u) → DotsDeclaration d → Are k (declarations_used ds u)
  behind_bounds k (Variables type vs) ds u h f = h
  behind_bounds k (Arrays type i segments) ds u h f = (p.each_splits s of order k segment_used DotsSegment (PlacedSegment s.tables k) (p.segment_splits s of order k) segments (declarations_used ds u) h f).1
  behind_bounds k (DeclareProcedure result i g a e) ds u h f = h
  behind_bounds k (DeclareClass prefix i g interface a e) ds u h f = h

  mutual
    unfolding connections

    statement_looks : (k n : ℕ) → k < n → (q : Position) (w : Bool) (a : Statement) → InClass q a → (u : List Part) → Are k (statement_used a u) → FittedStatement s Whatever w a → StandFrom n (statement_held a)
        → LooksTo s None n (statement_events connections q a) (n + length (statement_held a)) × Are k u
    statement_looks k n lt q w (syntax.Empty i) c u h f st = (none_walk s n, h)
    statement_looks k n lt ClassBody w (syntax.Compound b) c u h f st = absurd c
    statement_looks k n lt ClassStatement w (syntax.Compound b) c u h f st = block_looks k n lt w b u h f st
    statement_looks k n lt Inside w (syntax.Compound b) c u h f st = block_looks k n lt w b u h f st
    statement_looks k n lt q w (syntax.Inner i) c u h f st = (none_walk s n, h.1)
    statement_looks k n lt q w (syntax.Call e) c u h f st = (none_walk s n, (p.expression_splits s of order k e u h f).1)
    statement_looks k n lt q w (syntax.Assign e sides) c u h f st =
        let x = p.expression_splits s of order k e (each_used side_used sides u) h f.0 in
        (none_walk s n, (p.each_splits s of order k side_used DotsSide (PlacedSide s.tables k) (p.side_splits s of order k) sides u x.1 f.1).1)
    statement_looks k n lt q w (syntax.Choose i e a rest) c u h f st =
        let x = p.expression_splits s of order k e (statement_used a (statements_used rest u)) h f.0 in
        let t = both_stand n (statement_held a) (statements_held rest) st in
        let y = statement_looks k n lt Inside w a tt (statements_used rest u) x.1 f.1 t.0 in
        let z = statements_look k (n + length (statement_held a)) (further k n (length (statement_held a)) lt) Inside w rest tt u y.1 f.2 t.1 in
        (both_walk s (statement_held a) (statements_held rest) (statement_events connections Inside a) (statements_events connections Inside rest) n y.0 z.0, z.1)
    statement_looks k n lt q w (syntax.Repeat i e a) c u h f st =
        let x = p.expression_splits s of order k e (statement_used a u) h f.0 in statement_looks k n lt Inside w a tt u x.1 f.1 st
    statement_looks k n lt q w (syntax.For i name sign j es a) c u h f st =
        let x = p.each_splits s of order k element_used DotsElement (PlacedElement s.tables k) (p.element_splits s of order k) es (statement_used a u) h.1 f.0 in
        statement_looks k n lt Inside w a tt u x.1 f.1 st
    statement_looks k n lt q w (syntax.Inspect i e opening a end rest) c u h f st =
        let x = p.expression_splits s of order k e (Con opening a ∷ statements_used rest u) h f.0 in
        let t = both_stand (suc n) (statement_held a) (statements_held rest) st.1 in
        let y = statement_looks n (suc n) (let z : n < suc n = omega arith in z) Inside false a tt [] (p.held_parts s of order n (Joined opening a) st.0) f.2 t.0 in
        let further_on : k < suc n + length (statement_held a) = omega (arith, lt) in
        let z = statements_look k (suc n + length (statement_held a)) further_on Inside w rest tt u x.1.1 f.3 t.1 in
        let inner = both_walk s (statement_held a) (statements_held rest) (statement_events connections Inside a) (statements_events connections Inside rest) (suc n) y.0 z.0 in
        let l : length (Joined opening a ∷ (statement_held a ++ statements_held rest)) ≡ suc (length (statement_held a ++ statements_held rest)) = omega arith in
        let m : suc n + length (statement_held a ++ statements_held rest) ≡ n + length (Joined opening a ∷ (statement_held a ++ statements_held rest)) = omega (arith, l) in
        let le : n ≤ n = omega arith in
        ((k, n, le, lt, x.0, (n, le, opens n opening a st.0, subst (LooksTo s None (suc n) (statement_events connections Inside a ++ statements_events connections Inside rest)) m inner, (k, refl, joins_in k n opening a x.1.0 st.0))), z.1)
    statement_looks k n lt q w (syntax.InspectWhen i e arms rest) c u h f st =
        let x = p.expression_splits s of order k e (arms_used arms (statements_used rest u)) h f.0 in
        let t = both_stand n (arms_held arms) (statements_held rest) st in
        let y = arms_look k n lt arms (statements_used rest u) x.1 f.1 t.0 in
        let z = statements_look k (n + length (arms_held arms)) (further k n (length (arms_held arms)) lt) Inside w rest tt u y.1 f.2 t.1 in
        let all = both_walk s (arms_held arms) (statements_held rest) (arms_events connections arms) (statements_events connections Inside rest) n y.0 z.0 in
        let le : n ≤ n = omega arith in
        (all, z.1)
    statement_looks k n lt q w (syntax.Prefixed class es b) c u h f st = prefixed_looks k n lt class es b u h f st
    statement_looks k n lt q w (syntax.Activate i word e schedule) c u h f st =
        let x = p.expression_splits s of order k e (schedule_used schedule u) h.1 f.0 in (none_walk s n, (p.schedule_splits s of order k schedule u x.1 f.1).1)

    arms_look : (k n : ℕ) → k < n → (arms : Arms) → (u : List Part) → Are k (arms_used arms u) → FittedArms s Whatever arms → StandFrom n (arms_held arms) → LooksTo s None n (arms_events connections arms) (n + length (arms_held arms)) × Are k u
    arms_look k n lt NoArm u h f st = (none_walk s n, h)
    arms_look k n lt (When i class opening a end more) u h f st =
        let t = both_stand (suc n) (statement_held a) (arms_held more) st.1 in
        let y = statement_looks n (suc n) (let z : n < suc n = omega arith in z) Inside false a tt [] (p.held_parts s of order n (Joined opening a) st.0) f.1 t.0 in
        let further_on : k < suc n + length (statement_held a) = omega (arith, lt) in
        let z = arms_look k (suc n + length (statement_held a)) further_on more u h.1.1 f.2 t.1 in
        let inner = both_walk s (statement_held a) (arms_held more) (statement_events connections Inside a ++ []) (arms_events connections more) (suc n) (to_none s (statement_events connections Inside a) (suc n) (suc n + length (statement_held a)) y.0) z.0 in
        let l : length (Joined opening a ∷ (statement_held a ++ arms_held more)) ≡ suc (length (statement_held a ++ arms_held more)) = omega arith in
        let m : suc n + length (statement_held a ++ arms_held more) ≡ n + length (Joined opening a ∷ (statement_held a ++ arms_held more)) = omega (arith, l) in
        let le : n ≤ n = omega arith in
        ((k, n, le, lt, h.0, (n, le, opens n opening a st.0, subst (LooksTo s None (suc n) ((statement_events connections Inside a ++ []) ++ arms_events connections more)) m inner, (k, refl, joins_in k n opening a h.1.0 st.0))), z.1)

    statements_look : (k n : ℕ) → k < n → (q : Position) (w : Bool) (ss : Statements) → NoBody q → (u : List Part) → Are k (statements_used ss u) → FittedStatements s Whatever w ss → StandFrom n (statements_held ss)
        → LooksTo s None n (statements_events connections q ss) (n + length (statements_held ss)) × Are k u
    statements_look k n lt q w NoStatement c u h f st = (none_walk s n, h)
    statements_look k n lt q w (Also a more) c u h f st =
        let t = both_stand n (statement_held a) (statements_held more) st in
        let y = statement_looks k n lt q w a (in_class q a c) (statements_used more u) h f.0 t.0 in
        let z = statements_look k (n + length (statement_held a)) (further k n (length (statement_held a)) lt) q w more c u y.1 f.1 t.1 in
        (both_walk s (statement_held a) (statements_held more) (statement_events connections q a) (statements_events connections q more) n y.0 z.0, z.1)

    prefixed_looks : (k n : ℕ) → k < n → (class : Identifier) (es : Expressions) (b : Block) → (u : List Part) → Are k (expression_used (syntax.Named class es) (Pre (begin_of b) ∷ u)) → DotsExpressions es → StandFrom n (prefixed_held class es b)
        → LooksTo s None n (whole_events connections b) (n + length (prefixed_held class es b)) × Are k u
    prefixed_looks k n lt class es (Begin i ds ss e) u h f st =
        let v = p.expression_splits s of order k (syntax.Named class es) (Pre i ∷ u) h f in
        let x : Text = PrefixedText class es ds ss in
        let g = fitted n x st.0 in
        let P : List Held = all_held (standard_texts class.name) in
        let m : ℕ = suc n + length P in
        let own : n < suc n + length P = omega arith in
        let D : List Held = declarations_held ds in
        let H : List Held = statements_held ss in
        let E : List Connecting = declarations_events connections ds in
        let S : List Connecting = statements_events connections Inside ss in
        let r = both_stand (suc n) P (D ++ H) st.1 in
        let t = both_stand m D H r.1 in
        let one = declarations_look n m own ds (statements_used ss []) (parts n x st.0) g.0 t.0 in
        let two = statements_look n (m + length D) (further n m (length D) own) Inside false ss tt [] one.1 g.1 t.1 in
        (past_walk s (Whole x) P (D ++ H) (E ++ (S ++ [])) n (both_walk s D H E (S ++ []) m one.0 (to_none s S (m + length D) (m + length D + length H) two.0)), v.1.1)

    block_looks : (k n : ℕ) → k < n → (w : Bool) (b : Block) → (u : List Part) → Are k (block_used b u) → FittedBlock s Whatever w b → StandFrom n (block_held b) → LooksTo s None n (block_events connections b) (n + length (block_held b)) × Are k u
    block_looks k n lt w (Begin i NoDeclaration ss e) u h f st = statements_look k n lt Inside w ss tt u h f st
    block_looks k n lt w (Begin i (With d ds) ss e) u h f st =
        let x : Text = BlockText i (With d ds) ss in
        let g = fitted n x st.0 in
        let D : List Held = declarations_held (With d ds) in
        let H : List Held = statements_held ss in
        let E : List Connecting = declarations_events connections (With d ds) in
        let S : List Connecting = statements_events connections Inside ss in
        let own : n < suc n = omega arith in
        let grouped : D ++ H ≡ declaration_held d ++ (declarations_held ds ++ statements_held ss) = append_assoc (declaration_held d) (declarations_held ds) (statements_held ss) in
        let t = both_stand (suc n) D H (subst (StandFrom (suc n)) (sym grouped) st.1) in
        let one = declarations_look n (suc n) own (With d ds) (statements_used ss []) (parts n x st.0) g.0 t.0 in
        let two = statements_look n (suc n + length D) (further n (suc n) (length D) own) Inside false ss tt [] one.1 g.1 t.1 in
        let all = both_walk s D H E S (suc n) one.0 two.0 in
        let whole_of = subst (λ z. LooksTo s None (suc n) (E ++ S) (suc n + length z)) grouped all in
        let L : List Held = declaration_held d ++ (declarations_held ds ++ statements_held ss) in
        (inside_walk s (Whole x) L ((E ++ S) ++ []) n (to_none s (E ++ S) (suc n) (suc n + length L) whole_of), h.1)

    declarations_look : (k n : ℕ) → k < n → (ds : Declarations) → (u : List Part) → Are k (declarations_used ds u) → DotsDeclarations ds → StandFrom n (declarations_held ds)
        → LooksTo s None n (declarations_events connections ds) (n + length (declarations_held ds)) × Are k u
    declarations_look k n lt NoDeclaration u h f st = (none_walk s n, h)
    declarations_look k n lt (With d ds) u h f st =
        let t = both_stand n (declaration_held d) (declarations_held ds) st in
        let y = declaration_looks n d t.0 in
        let z = declarations_look k (n + length (declaration_held d)) (further k n (length (declaration_held d)) lt) ds u (behind_bounds k d ds u h f.0) f.1 t.1 in
        (both_walk s (declaration_held d) (declarations_held ds) (declaration_events connections d) (declarations_events connections ds) n y z.0, z.1)

    declaration_looks : (n : ℕ) (d : Declaration) → StandFrom n (declaration_held d) → LooksTo s None n (declaration_events connections d) (n + length (declaration_held d))
    declaration_looks n (Variables type vs) st = none_walk s n
    declaration_looks n (Arrays type i segments) st = none_walk s n
    declaration_looks n (DeclareProcedure result i g a e) st =
        let x : Text = ProcedureText result g a in
        let own : n < suc n = omega arith in
        let y = statement_looks n (suc n) own Inside false a tt [] (parts n x st.0) (fitted n x st.0) st.1 in
        let A : List Connecting = statement_events connections Inside a in
        inside_walk s (Whole x) (statement_held a) (A ++ []) n (to_none s A (suc n) (suc n + length (statement_held a)) y.0)
    declaration_looks n (DeclareClass prefix i g interface (syntax.Compound (Begin j ds ss end)) e) st =
        let x : Text = ClassText prefix g ds ss in
        let f = fitted n x st.0 in
        let P : List Held = all_held (prefix_texts prefix) in
        let m : ℕ = suc n + length P in
        let own : n < suc n + length P = omega arith in
        let D : List Held = declarations_held ds in
        let H : List Held = statements_held ss in
        let E : List Connecting = declarations_events connections ds in
        let S : List Connecting = statements_events connections ClassStatement ss in
        let r = both_stand (suc n) P (D ++ H) st.1 in
        let t = both_stand m D H r.1 in
        let one = declarations_look n m own ds (statements_used ss []) (parts n x st.0) f.0 t.0 in
        let two = statements_look n (m + length D) (further n m (length D) own) ClassStatement true ss tt [] one.1 f.1 t.1 in
        let all = both_walk s D H E S m one.0 two.0 in
        past_walk s (Whole x) P (D ++ H) ((E ++ S) ++ []) n (to_none s (E ++ S) m (m + length (D ++ H)) all)
    declaration_looks n (DeclareClass prefix i g interface a e) st =
        let x : Text = ClassText prefix g NoDeclaration (Also a NoStatement) in
        let f = fitted n x st.0 in
        let P : List Held = all_held (prefix_texts prefix) in
        let m : ℕ = suc n + length P in
        let own : n < suc n + length P = omega arith in
        let r = both_stand (suc n) P (statement_held a) st.1 in
        let y = statement_looks n m own ClassBody true a tt [] (parts n x st.0) f.1.0 r.1 in
        let A : List Connecting = statement_events connections ClassBody a in
        past_walk s (Whole x) P (statement_held a) (A ++ []) n (to_none s A m (m + length (statement_held a)) y.0)

  pub looks : (to : ℕ) × LooksTo s None 0 (program_events connections s.program) to
  unfolding program_events connections
  looks = go s.program.prefix s.program.block whole
    where
      -- the block of the program, whose parts come behind so many texts
      behind : (x : Text) (m : ℕ) → 0 < m → (ds : Declarations) (ss : Statements) → Are 0 (declarations_used ds (statements_used ss [])) → DotsDeclarations ds → FittedStatements s Whatever false ss
          → StandFrom m (declarations_held ds ++ statements_held ss) → (to : ℕ) × LooksTo s None 0 (declarations_events connections ds ++ (statements_events connections Inside ss ++ [])) to
      behind x m own ds ss parts_there dots fits st =
          let D : List Held = declarations_held ds in
          let H : List Held = statements_held ss in
          let E : List Connecting = declarations_events connections ds in
          let S : List Connecting = statements_events connections Inside ss in
          let t = both_stand m D H st in
          let one = declarations_look 0 m own ds (statements_used ss []) parts_there dots t.0 in
          let two = statements_look 0 (m + length D) (further 0 m (length D) own) Inside false ss tt [] one.1 fits t.1 in
          let to : ℕ = m + length D + length H in
          let le : 0 ≤ m = omega arith in
          (to, lower s None (E ++ (S ++ [])) 0 m to le (both_look s None E (S ++ []) m (m + length D) to one.0 (to_none s S (m + length D) to two.0)))

      go : (prefix : Option Prefix) (b : Block) → StandFrom 0 (program_held prefix b) → (to : ℕ) × LooksTo s None 0 (whole_events connections b) to
      go None (Begin i ds ss end) st =
          let x : Text = BlockText i ds ss in
          let f = fitted 0 x st.0 in behind x 1 (omega arith) ds ss (parts 0 x st.0) f.0 f.1 st.1
      go (Some c) (Begin i ds ss end) st =
          let x : Text = PrefixedText c.class c.arguments ds ss in
          let f = fitted 0 x st.0 in
          let P : List Held = all_held (standard_texts c.class.name) in
          let r = both_stand 1 P (declarations_held ds ++ statements_held ss) st.1 in
          let own : 0 < 1 + length P = omega arith in behind x (1 + length P) own ds ss (parts 0 x st.0) f.0 f.1 r.1
