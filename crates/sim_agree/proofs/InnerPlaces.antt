-- In an allowed program `inner` stands among the statements of a class alone.
use Rattle.std.proofs.Common.{◌≡◌, ℕ, zero, suc, List, [], ◌∷◌, ◌++◌, Option, Some, None, refl, subst}
use Rattle.std.specs.Prelude.{slice_get}
use Rattle.sim_scope.specs.declared.types.StandardPrefix.{StandardPrefix}
use Rattle.sim_scope.specs.declared.types.StandardPrefix.TheVariants as prefixes
use Rattle.sim_scope.specs.declared.found.Fault.{Fault}
use Rattle.sim_scope.specs.declared.types.Position.TheVariants.{ClassBody, ClassStatement, Inside}
use Rattle.sim_scope.specs.Breaks.{all_breaks, breaks, broken_by}
use Rattle.sim_scope.specs.Building.{Breaks, Brings, BuildingOf, Closes, Declares, DeclaresClass, DeclaresProcedure, Headed, Inner, Mark, Moded, Opens, Parameter, Prefixes, Protects, Provides, Qualifies, Specified, marked}
use Rattle.sim_tree.specs.declared.expr.Identifier.{Identifier}
use Rattle.sim_scope.specs.Declare.{class_marks, declared_by, declaring, empty, heading_marks, inner_marks, interface_marks, procedure_marks, program_marks, prefixed_marks}
use Rattle.sim_scope.specs.Least.{IsLeast, least, nothing}
use Rattle.sim_scope.specs.Source.{Source}
use Rattle.sim_scope.specs.Walk.{arms_events, declaration_events, declarations_events, program_events, statement_events, statements_events, begin_of, whole_events}
use Rattle.sim_scope.proofs.Breaking.{least_declared}
use Rattle.sim_tree.specs.Syntax.{Also, Arms, Arrays, Begin, Block, Declaration, Declarations, DeclareClass, DeclareProcedure, NoArm, NoDeclaration, NoStatement, Prefix, Program, Statement, Statements, Variables, When, With, Expressions}
use Rattle.sim_tree.specs.Syntax as syntax
use Rattle.sim_meaning.specs.Texts.{BlockText, ClassText, ProcedureText, Text, arms_texts, block_texts, declaration_texts, declarations_texts, program_texts, statement_texts, statements_texts, text, prefix_texts, PrefixedText, prefixed_texts}
use Rattle.sim_agree.specs.Inners.{NoInner, NoInnerArms, NoInnerWithin, NoInners}
use Rattle.sim_agree.specs.Places.{Each}
use Rattle.sim_agree.proofs.StandardPrefixes.{behind_prefix, brought_texts}
use Rattle.sim_agree.specs.TablesOf.{TablesOf}

-- ---- marks that break no rule

abbrev pub NoBreak : Mark → Type 0
NoBreak (Breaks token rule) = ⊥
NoBreak _ = Unit {0}

abbrev pub Free : List Mark → Type 0
Free [] = Unit {0}
Free (m ∷ ms) = NoBreak m × Free ms

pub front : (xs ys : List Mark) → Free (xs ++ ys) → Free xs
front [] ys f = tt
front (x ∷ xs) ys f = (f.0, front xs ys f.1)

pub back : (xs ys : List Mark) → Free (xs ++ ys) → Free ys
back [] ys f = f
back (x ∷ xs) ys f = back xs ys f.1

pub none_first : (xs ys : List Fault) → xs ++ ys ≡ [] → xs ≡ []
none_first [] ys e = refl
none_first (x ∷ xs) ys e = absurd (cc)

pub none_second : (xs ys : List Fault) → xs ++ ys ≡ [] → ys ≡ []
none_second [] ys e = e
none_second (x ∷ xs) ys e = absurd (cc)

one_free : (b : BuildingOf) (m : Mark) → breaks b m ≡ [] → NoBreak m
unfolding breaks
one_free b (Opens k text first) none = tt
one_free b (Closes end) none = tt
one_free b (Declares x e) none = tt
one_free b (DeclaresProcedure x result) none = tt
one_free b (DeclaresClass x) none = tt
one_free b (Parameter x) none = tt
one_free b (Moded x m) none = tt
one_free b (Specified x k ty) none = tt
one_free b (Headed x) none = tt
one_free b (Qualifies class) none = tt
one_free b (Prefixes class) none = tt
one_free b (Brings which token) none = tt
one_free b (Provides which name token) none = tt
one_free b (Protects hides keeps x) none = tt
one_free b (Inner token) none = tt
one_free b (Breaks token rule) none = absurd (cc)

pub all_free : (b : BuildingOf) (ms : List Mark) → all_breaks b ms ≡ [] → Free ms
unfolding all_breaks
all_free b [] e = tt
all_free b (m ∷ ms) e = (one_free b m (none_first (breaks b m) (all_breaks (marked b m) ms) e), all_free (marked b m) ms (none_second (breaks b m) (all_breaks (marked b m) ms) e))

pub no_fault : (xs : List Fault) (o : Option Fault) → o ≡ None → IsLeast xs o → xs ≡ []
no_fault xs _ e (nothing none) = none
no_fault xs _ e (least a f) = absurd (cc)

program_free : (p : Program) → (declared_by p).least ≡ None → Free (program_events declaring p)
unfolding broken_by
program_free p e = all_free empty (program_events declaring p) (no_fault (broken_by p) (declared_by p).least e (least_declared p))

-- ---- no `inner`

mutual
  unfolding declaring inner_marks

  pub no_inner : (a : Statement) → Free (statement_events declaring Inside a) → NoInner a
  no_inner (syntax.Empty i) f = tt
  no_inner (syntax.Compound b) f = no_inner_within b f
  no_inner (syntax.Prefixed class arguments b) f = tt
  no_inner (syntax.Inner i) f = f.0
  no_inner (syntax.Call e) f = tt
  no_inner (syntax.Assign e rs) f = tt
  no_inner (syntax.Choose i c x y) f = (no_inner x (front (statement_events declaring Inside x) (statements_events declaring Inside y) f), no_inners y (back (statement_events declaring Inside x) (statements_events declaring Inside y) f))
  no_inner (syntax.Repeat i c x) f = no_inner x f
  no_inner (syntax.For i name sign assign es x) f = no_inner x f
  no_inner (syntax.Inspect i e opening x end other) f =
      let events = statement_events declaring Inside x in
      let behind = Closes end ∷ statements_events declaring Inside other in (no_inner x (front events behind f.1), no_inners other (back events behind f.1).1)
  no_inner (syntax.InspectWhen i e arms other) f = (no_inner_arms arms (front (arms_events declaring arms) (statements_events declaring Inside other) f), no_inners other (back (arms_events declaring arms) (statements_events declaring Inside other) f))
  no_inner (syntax.Activate i word e schedule) f = tt

  pub no_inners : (ss : Statements) → Free (statements_events declaring Inside ss) → NoInners ss
  no_inners NoStatement f = tt
  no_inners (Also x more) f = (no_inner x (front (statement_events declaring Inside x) (statements_events declaring Inside more) f), no_inners more (back (statement_events declaring Inside x) (statements_events declaring Inside more) f))

  no_inner_arms : (arms : Arms) → Free (arms_events declaring arms) → NoInnerArms arms
  no_inner_arms NoArm f = tt
  no_inner_arms (When i class opening x end more) f =
      let events = statement_events declaring Inside x in
      let one = events ++ Closes end ∷ [] in (no_inner x (front events (Closes end ∷ []) (front one (arms_events declaring more) f.1)), no_inner_arms more (back one (arms_events declaring more) f.1))

  no_inner_within : (b : Block) → Free (statement_events declaring Inside (syntax.Compound b)) → NoInnerWithin b
  no_inner_within (Begin i NoDeclaration ss end) f = no_inners ss f
  no_inner_within (Begin i (With d ds) ss end) f =
      let first = declarations_events declaring (With d ds) in
      let events = statements_events declaring Inside ss in no_inners ss (back first events (front (first ++ events) (Closes end ∷ []) f.1))

-- ---- each text

-- among the statements of a class
abbrev pub OrInner : Statement → Type 0
OrInner (syntax.Inner token) = Unit {0}
OrInner a = NoInner a

abbrev pub OrInners : Statements → Type 0
OrInners NoStatement = Unit {0}
OrInners (Also a more) = OrInner a × OrInners more

abbrev pub InPlace : Text → Type 0
InPlace (BlockText begin ds ss) = NoInners ss
InPlace (ProcedureText result h a) = NoInner a
InPlace (ClassText prefix h ds ss) = OrInners ss
InPlace (PrefixedText class es ds ss) = NoInners ss
InPlace _ = Unit {0}

both_each : (xs ys : List Text) → Each InPlace xs → Each InPlace ys → Each InPlace (xs ++ ys)
both_each [] ys a b = b
both_each (x ∷ xs) ys a b = (a.0, both_each xs ys a.1 b)

or_inner : (a : Statement) → Free (statement_events declaring ClassStatement a) → OrInner a
or_inner (syntax.Inner i) f = tt
or_inner (syntax.Compound b) f = no_inner (syntax.Compound b) f
or_inner (syntax.Prefixed class arguments b) f = tt
or_inner (syntax.Activate i word e schedule) f = tt
or_inner (syntax.Empty j) f = no_inner (syntax.Empty j) f
or_inner (syntax.Call e) f = no_inner (syntax.Call e) f
or_inner (syntax.Assign e rs) f = no_inner (syntax.Assign e rs) f
or_inner (syntax.Choose j c x y) f = no_inner (syntax.Choose j c x y) f
or_inner (syntax.Repeat j c x) f = no_inner (syntax.Repeat j c x) f
or_inner (syntax.For j name sign assign es x) f = no_inner (syntax.For j name sign assign es x) f
or_inner (syntax.Inspect j e opening x close other) f = no_inner (syntax.Inspect j e opening x close other) f
or_inner (syntax.InspectWhen j e arms other) f = no_inner (syntax.InspectWhen j e arms other) f

or_inners : (ss : Statements) → Free (statements_events declaring ClassStatement ss) → OrInners ss
or_inners NoStatement f = tt
or_inners (Also x more) f = (or_inner x (front (statement_events declaring ClassStatement x) (statements_events declaring ClassStatement more) f), or_inners more (back (statement_events declaring ClassStatement x) (statements_events declaring ClassStatement more) f))

-- the texts of a statement of a class are those of any statement, since `inner` has none
class_statement : (a : Statement) → (Free (statement_events declaring Inside a) → Each InPlace (statement_texts a)) → Free (statement_events declaring ClassStatement a) → Each InPlace (statement_texts a)
class_statement (syntax.Inner i) g f = tt
class_statement (syntax.Compound b) g f = g f
class_statement (syntax.Prefixed class arguments b) g f = g f
class_statement (syntax.Activate i word e schedule) g f = g f
class_statement (syntax.Empty j) g f = g f
class_statement (syntax.Call e) g f = g f
class_statement (syntax.Assign e rs) g f = g f
class_statement (syntax.Choose j c x y) g f = g f
class_statement (syntax.Repeat j c x) g f = g f
class_statement (syntax.For j name sign assign es x) g f = g f
class_statement (syntax.Inspect j e opening x close other) g f = g f
class_statement (syntax.InspectWhen j e arms other) g f = g f

-- behind the texts of a prefix
placed_behind : (prefix : Option Identifier) (xs : List Text) → Each InPlace xs → Each InPlace (prefix_texts prefix ++ xs)
placed_behind prefix xs a = behind_prefix (Each InPlace) prefix xs a go
  where
    go : (p : StandardPrefix) → Each InPlace (brought_texts p ++ xs)
    go prefixes.Simset = (tt, (tt, (tt, a)))
    go prefixes.Simulation = (tt, (tt, (tt, (tt, a))))

mutual
  unfolding declaring inner_marks prefixed_marks

  statement_placed : (a : Statement) → Free (statement_events declaring Inside a) → Each InPlace (statement_texts a)
  statement_placed (syntax.Empty i) f = tt
  statement_placed (syntax.Compound b) f = block_placed b f
  statement_placed (syntax.Call e) f = tt
  statement_placed (syntax.Assign e rs) f = tt
  statement_placed (syntax.Inner i) f = tt
  statement_placed (syntax.Choose i c x y) f =
      both_each (statement_texts x) (statements_texts y) (statement_placed x (front (statement_events declaring Inside x) (statements_events declaring Inside y) f)) (statements_placed y (back (statement_events declaring Inside x) (statements_events declaring Inside y) f))
  statement_placed (syntax.Repeat i c x) f = statement_placed x f
  statement_placed (syntax.For i name sign assign es x) f = statement_placed x f
  statement_placed (syntax.Inspect i e opening x end other) f =
      let events = statement_events declaring Inside x in
      let behind = Closes end ∷ statements_events declaring Inside other in (tt, both_each (statement_texts x) (statements_texts other) (statement_placed x (front events behind f.1)) (statements_placed other (back events behind f.1).1))
  statement_placed (syntax.InspectWhen i e arms other) f =
      both_each (arms_texts arms) (statements_texts other) (arms_placed arms (front (arms_events declaring arms) (statements_events declaring Inside other) f)) (statements_placed other (back (arms_events declaring arms) (statements_events declaring Inside other) f))
  statement_placed (syntax.Prefixed class arguments b) f = prefixed_placed class arguments b (back (prefixed_marks class (begin_of b)) (whole_events declaring b) f)
  statement_placed (syntax.Activate i word e schedule) f = tt

  arms_placed : (arms : Arms) → Free (arms_events declaring arms) → Each InPlace (arms_texts arms)
  arms_placed NoArm f = tt
  arms_placed (When i class opening x end more) f =
      let events = statement_events declaring Inside x in
      let one = events ++ Closes end ∷ [] in (tt, both_each (statement_texts x) (arms_texts more) (statement_placed x (front events (Closes end ∷ []) (front one (arms_events declaring more) f.1))) (arms_placed more (back one (arms_events declaring more) f.1)))

  statements_placed : (ss : Statements) → Free (statements_events declaring Inside ss) → Each InPlace (statements_texts ss)
  statements_placed NoStatement f = tt
  statements_placed (Also x more) f =
      both_each (statement_texts x) (statements_texts more) (statement_placed x (front (statement_events declaring Inside x) (statements_events declaring Inside more) f)) (statements_placed more (back (statement_events declaring Inside x) (statements_events declaring Inside more) f))

  prefixed_placed : (class : Identifier) (arguments : Expressions) (b : Block) → Free (whole_events declaring b) → Each InPlace (prefixed_texts class arguments b)
  prefixed_placed class arguments (Begin i ds ss end) f =
      let first = declarations_events declaring ds in
      let events = statements_events declaring Inside ss in
      let body = front events (Closes end ∷ []) (back first (events ++ Closes end ∷ []) f) in
      (no_inners ss body, placed_behind (Some class) (declarations_texts ds ++ statements_texts ss) (both_each (declarations_texts ds) (statements_texts ss) (declarations_placed ds (front first (events ++ Closes end ∷ []) f)) (statements_placed ss body)))

  block_placed : (b : Block) → Free (statement_events declaring Inside (syntax.Compound b)) → Each InPlace (block_texts b)
  block_placed (Begin i NoDeclaration ss end) f = statements_placed ss f
  block_placed (Begin i (With d ds) ss end) f =
      let first = declarations_events declaring (With d ds) in
      let events = statements_events declaring Inside ss in
      let both = front (first ++ events) (Closes end ∷ []) f.1 in
      let own = front first events both in (
        no_inners ss (back first events both),
        both_each (declaration_texts d) (declarations_texts ds ++ statements_texts ss) (declaration_placed d (front (declaration_events declaring d) (declarations_events declaring ds) own))
            (both_each (declarations_texts ds) (statements_texts ss) (declarations_placed ds (back (declaration_events declaring d) (declarations_events declaring ds) own)) (statements_placed ss (back first events both))),
      )

  declarations_placed : (ds : Declarations) → Free (declarations_events declaring ds) → Each InPlace (declarations_texts ds)
  declarations_placed NoDeclaration f = tt
  declarations_placed (With d ds) f =
      both_each (declaration_texts d) (declarations_texts ds) (declaration_placed d (front (declaration_events declaring d) (declarations_events declaring ds) f)) (declarations_placed ds (back (declaration_events declaring d) (declarations_events declaring ds) f))

  class_statements_placed : (ss : Statements) → Free (statements_events declaring ClassStatement ss) → Each InPlace (statements_texts ss)
  class_statements_placed NoStatement f = tt
  class_statements_placed (Also x more) f =
      both_each (statement_texts x) (statements_texts more) (class_statement x (λ z. statement_placed x z) (front (statement_events declaring ClassStatement x) (statements_events declaring ClassStatement more) f)) (class_statements_placed more (back (statement_events declaring ClassStatement x) (statements_events declaring ClassStatement more) f))

  declaration_placed : (d : Declaration) → Free (declaration_events declaring d) → Each InPlace (declaration_texts d)
  declaration_placed (Variables type vs) f = tt
  declaration_placed (Arrays type i gs) f = tt
  declaration_placed (DeclareProcedure result i h a end) f =
      let heading = procedure_marks result i h.name ++ heading_marks h in
      let body = front (statement_events declaring Inside a) (Closes end ∷ []) (back heading (statement_events declaring Inside a ++ Closes end ∷ []) f) in (no_inner a body, statement_placed a body)
  declaration_placed (DeclareClass prefix i h interface (syntax.Compound (Begin j ds ss e)) end) f =
      let heading = class_marks prefix i h.name ++ (heading_marks h ++ interface_marks interface) in
      let events = statement_events declaring ClassBody (syntax.Compound (Begin j ds ss e)) in
      let body = front events (Closes end ∷ []) (back heading (events ++ Closes end ∷ []) f) in
      let first = declarations_events declaring ds in
      let more = statements_events declaring ClassStatement ss in
      (or_inners ss (back first more body), placed_behind prefix (declarations_texts ds ++ statements_texts ss) (both_each (declarations_texts ds) (statements_texts ss) (declarations_placed ds (front first more body)) (class_statements_placed ss (back first more body))))
  declaration_placed (DeclareClass prefix i h interface (syntax.Inner j) end) f =
      let heading = class_marks prefix i h.name ++ (heading_marks h ++ interface_marks interface) in
      let events = statement_events declaring ClassBody (syntax.Inner j) in
      let body = front events (Closes end ∷ []) (back heading (events ++ Closes end ∷ []) f) in
      absurd (body.0)
  declaration_placed (DeclareClass prefix i h interface (syntax.Prefixed class arguments b) end) f =
      let heading = class_marks prefix i h.name ++ (heading_marks h ++ interface_marks interface) in
      let events = statement_events declaring ClassBody (syntax.Prefixed class arguments b) in
      let body = front events (Closes end ∷ []) (back heading (events ++ Closes end ∷ []) f) in
      ((tt, tt), placed_behind prefix (statement_texts (syntax.Prefixed class arguments b)) (statement_placed (syntax.Prefixed class arguments b) body))
  declaration_placed (DeclareClass prefix i h interface (syntax.Activate j word e schedule) end) f =
      let heading = class_marks prefix i h.name ++ (heading_marks h ++ interface_marks interface) in
      let events = statement_events declaring ClassBody (syntax.Activate j word e schedule) in
      let body = front events (Closes end ∷ []) (back heading (events ++ Closes end ∷ []) f) in
      ((no_inner (syntax.Activate j word e schedule) body, tt), placed_behind prefix (statement_texts (syntax.Activate j word e schedule)) (statement_placed (syntax.Activate j word e schedule) body))
  declaration_placed (DeclareClass prefix i h interface (syntax.Empty j) end) f =
      let heading = class_marks prefix i h.name ++ (heading_marks h ++ interface_marks interface) in
      let events = statement_events declaring ClassBody (syntax.Empty j) in
      let body = front events (Closes end ∷ []) (back heading (events ++ Closes end ∷ []) f) in
      ((no_inner (syntax.Empty j) body, tt), placed_behind prefix (statement_texts (syntax.Empty j)) (statement_placed (syntax.Empty j) body))
  declaration_placed (DeclareClass prefix i h interface (syntax.Call e) end) f =
      let heading = class_marks prefix i h.name ++ (heading_marks h ++ interface_marks interface) in
      let events = statement_events declaring ClassBody (syntax.Call e) in
      let body = front events (Closes end ∷ []) (back heading (events ++ Closes end ∷ []) f) in
      ((no_inner (syntax.Call e) body, tt), placed_behind prefix (statement_texts (syntax.Call e)) (statement_placed (syntax.Call e) body))
  declaration_placed (DeclareClass prefix i h interface (syntax.Assign e rs) end) f =
      let heading = class_marks prefix i h.name ++ (heading_marks h ++ interface_marks interface) in
      let events = statement_events declaring ClassBody (syntax.Assign e rs) in
      let body = front events (Closes end ∷ []) (back heading (events ++ Closes end ∷ []) f) in
      ((no_inner (syntax.Assign e rs) body, tt), placed_behind prefix (statement_texts (syntax.Assign e rs)) (statement_placed (syntax.Assign e rs) body))
  declaration_placed (DeclareClass prefix i h interface (syntax.Choose j c x y) end) f =
      let heading = class_marks prefix i h.name ++ (heading_marks h ++ interface_marks interface) in
      let events = statement_events declaring ClassBody (syntax.Choose j c x y) in
      let body = front events (Closes end ∷ []) (back heading (events ++ Closes end ∷ []) f) in
      ((no_inner (syntax.Choose j c x y) body, tt), placed_behind prefix (statement_texts (syntax.Choose j c x y)) (statement_placed (syntax.Choose j c x y) body))
  declaration_placed (DeclareClass prefix i h interface (syntax.Repeat j c x) end) f =
      let heading = class_marks prefix i h.name ++ (heading_marks h ++ interface_marks interface) in
      let events = statement_events declaring ClassBody (syntax.Repeat j c x) in
      let body = front events (Closes end ∷ []) (back heading (events ++ Closes end ∷ []) f) in
      ((no_inner (syntax.Repeat j c x) body, tt), placed_behind prefix (statement_texts (syntax.Repeat j c x)) (statement_placed (syntax.Repeat j c x) body))
  declaration_placed (DeclareClass prefix i h interface (syntax.For j name sign assign es x) end) f =
      let heading = class_marks prefix i h.name ++ (heading_marks h ++ interface_marks interface) in
      let events = statement_events declaring ClassBody (syntax.For j name sign assign es x) in
      let body = front events (Closes end ∷ []) (back heading (events ++ Closes end ∷ []) f) in
      ((no_inner (syntax.For j name sign assign es x) body, tt), placed_behind prefix (statement_texts (syntax.For j name sign assign es x)) (statement_placed (syntax.For j name sign assign es x) body))
  declaration_placed (DeclareClass prefix i h interface (syntax.Inspect j e opening x close other) end) f =
      let heading = class_marks prefix i h.name ++ (heading_marks h ++ interface_marks interface) in
      let events = statement_events declaring ClassBody (syntax.Inspect j e opening x close other) in
      let body = front events (Closes end ∷ []) (back heading (events ++ Closes end ∷ []) f) in
      ((no_inner (syntax.Inspect j e opening x close other) body, tt), placed_behind prefix (statement_texts (syntax.Inspect j e opening x close other)) (statement_placed (syntax.Inspect j e opening x close other) body))
  declaration_placed (DeclareClass prefix i h interface (syntax.InspectWhen j e arms other) end) f =
      let heading = class_marks prefix i h.name ++ (heading_marks h ++ interface_marks interface) in
      let events = statement_events declaring ClassBody (syntax.InspectWhen j e arms other) in
      let body = front events (Closes end ∷ []) (back heading (events ++ Closes end ∷ []) f) in
      ((no_inner (syntax.InspectWhen j e arms other) body, tt), placed_behind prefix (statement_texts (syntax.InspectWhen j e arms other)) (statement_placed (syntax.InspectWhen j e arms other) body))

program_placed : (prefix : Option Prefix) (b : Block) → Free (program_events declaring (record { prefix = prefix; block = b })) → Each InPlace (program_texts prefix b)
unfolding program_events declaring
program_placed None (Begin i ds ss end) f =
    let first = declarations_events declaring ds in
    let events = statements_events declaring Inside ss in
    let whole = back (program_marks None i) (first ++ (events ++ Closes end ∷ [])) f in
    let body = front events (Closes end ∷ []) (back first (events ++ Closes end ∷ []) whole) in
    (no_inners ss body, both_each (declarations_texts ds) (statements_texts ss) (declarations_placed ds (front first (events ++ Closes end ∷ []) whole)) (statements_placed ss body))
program_placed (Some x) b f = start x b (back (program_marks (Some x) (begin_of b)) (whole_events declaring b) f)
  where
    start : (x : Prefix) (b : Block) → Free (whole_events declaring b) → Each InPlace (program_texts (Some x) b)
    start x (Begin i ds ss end) f = prefixed_placed x.class x.arguments (Begin i ds ss end) f

pub each_at : (P : Text → Type 0) (xs : List Text) (k : ℕ) (x : Text) → Each P xs → slice_get xs k ≡ Some x → P x
each_at P [] k x a e = absurd (cc)
each_at P (y ∷ xs) zero x a e = let same : y ≡ x = cc in subst P same a.0
each_at P (y ∷ xs) (suc k) x a e = each_at P xs k x a.1 e

pub in_place : (s : Source) → TablesOf s → (k : ℕ) (x : Text) → text s k ≡ Some x → InPlace x
unfolding text
in_place s of k x e =
    each_at InPlace (program_texts s.program.prefix s.program.block) k x (program_placed s.program.prefix s.program.block (program_free s.program of.unbroken)) e
