-- Each connection that a program makes begins one of its bodies.
use Rattle.std.proofs.Common.{◌≡◌, ◌+◌, ◌⊎◌, inl, inr, ℕ, suc, arith, Bool, true, false, List, [], ◌∷◌, ◌++◌, length, map, Option, Some, None, refl, ap, ◌∙◌}
use Rattle.std.specs.Prelude.{slice_get}
use Rattle.sim_tree.specs.Syntax.{Also, Arms, Arrays, Begin, Block, Declaration, Declarations, DeclareClass, DeclareProcedure, Heading, Interface, NoArm, NoDeclaration, NoStatement, Prefix, Program, Statement, Statements, Variables, When, With, Expressions}
use Rattle.sim_tree.specs.declared.expr.Identifier.{Identifier}
use Rattle.sim_tree.specs.Syntax as syntax
use Rattle.sim_scope.specs.declared.types.BlockKind.{BlockKind}
use Rattle.sim_scope.specs.declared.types.BlockKind.TheVariants as kind
use Rattle.sim_scope.specs.declared.types.Position.{Position}
use Rattle.sim_scope.specs.declared.types.Position.TheVariants.{ClassBody, ClassStatement, Inside}
use Rattle.sim_scope.specs.Bodies.{Around, Body, OfConnection, arms_bodies, block_bodies, bodies_of, declaration_bodies, declarations_bodies, program_around, program_bodies, statement_bodies, statements_bodies, prefix_bodies, prefixed_bodies, standard_bodies}
use Rattle.sim_scope.specs.Declare.{declared_by}
use Rattle.sim_scope.specs.Laws.{Shape, outline, shape_of}
use Rattle.sim_scope.specs.Tables.{BlockOf, deeper}
use Rattle.sim_scope.specs.Walk.{arms_events, begin_of, block_events, declaration_events, declarations_events, program_events, statement_events, statements_events, whole_events}
use Rattle.sim_scope.proofs.BodiesOfTables.{blocks_are_bodies}
use Rattle.inspect_types.specs.Connecting.{Connecting, Connects, Looks, Names, connections}

-- a connection begins at this token
abbrev Begins : (opening : ℕ) → List Body → Type 0
Begins i [] = ⊥
Begins i (b ∷ bs) = ((b.kind ≡ kind.Connection) × (b.first ≡ i)) ⊎ Begins i bs

-- at each token at which something is connected
abbrev AllBegin : List Connecting → List Body → Type 0
AllBegin [] bs = Unit {0}
AllBegin (Looks e ∷ es) bs = AllBegin es bs
AllBegin (Names x ∷ es) bs = AllBegin es bs
AllBegin (Connects i ∷ es) bs = Begins i bs × AllBegin es bs

begins_left : (i : ℕ) (bs cs : List Body) → Begins i bs → Begins i (bs ++ cs)
begins_left i [] cs h = absurd h
begins_left i (b ∷ bs) cs (inl h) = inl h
begins_left i (b ∷ bs) cs (inr h) = inr (begins_left i bs cs h)

begins_right : (i : ℕ) (bs cs : List Body) → Begins i cs → Begins i (bs ++ cs)
begins_right i [] cs h = h
begins_right i (b ∷ bs) cs h = inr (begins_right i bs cs h)

all_mapped : (es : List Connecting) (bs cs : List Body) → ((i : ℕ) → Begins i bs → Begins i cs) → AllBegin es bs → AllBegin es cs
all_mapped [] bs cs f a = tt
all_mapped (Looks e ∷ es) bs cs f a = all_mapped es bs cs f a
all_mapped (Names x ∷ es) bs cs f a = all_mapped es bs cs f a
all_mapped (Connects i ∷ es) bs cs f a = (f i a.0, all_mapped es bs cs f a.1)

all_both : (es fs : List Connecting) (bs : List Body) → AllBegin es bs → AllBegin fs bs → AllBegin (es ++ fs) bs
all_both [] fs bs a b = b
all_both (Looks e ∷ es) fs bs a b = all_both es fs bs a b
all_both (Names x ∷ es) fs bs a b = all_both es fs bs a b
all_both (Connects i ∷ es) fs bs a b = (a.0, all_both es fs bs a.1 b)

-- one piece behind another
joined : (es fs : List Connecting) (bs cs : List Body) → AllBegin es bs → AllBegin fs cs → AllBegin (es ++ fs) (bs ++ cs)
joined es fs bs cs a b = all_both es fs (bs ++ cs) (all_mapped es bs (bs ++ cs) (λ i h. begins_left i bs cs h) a) (all_mapped fs cs (bs ++ cs) (λ i h. begins_right i bs cs h) b)

ahead : (es : List Connecting) (bs cs : List Body) → AllBegin es cs → AllBegin es (bs ++ cs)
ahead es bs cs a = all_mapped es cs (bs ++ cs) (λ i h. begins_right i bs cs h) a

behind : (es : List Connecting) (b : Body) (bs : List Body) → AllBegin es bs → AllBegin es (b ∷ bs)
behind es b bs a = all_mapped es bs (b ∷ bs) (λ i h. inr h) a

nothing_behind : (es : List Connecting) (bs : List Body) → AllBegin es bs → AllBegin (es ++ []) bs
nothing_behind es bs a = all_both es [] bs a tt

-- a statement stands in the body of a class, or elsewhere
abbrev place : (in_class : Bool) → Position
place true = ClassStatement
place false = Inside

-- the body of a connection
abbrev connection_body : Around → (opening end : ℕ) → Body
connection_body o opening end = record { kind = kind.Connection; encloser = Some o.number; level = deeper kind.Connection o.level; first = opening; end = end; prefix = None; part = OfConnection }

mutual
  unfolding connections

  statement_begins : (c : Bool) (a : Statement) → (o : Around) (next : ℕ) → AllBegin (statement_events connections (place c) a) (statement_bodies o a next)
  statement_begins c (syntax.Empty i) o next = tt
  statement_begins true (syntax.Compound b) o next = block_begins b o next
  statement_begins false (syntax.Compound b) o next = block_begins b o next
  statement_begins c (syntax.Prefixed x args b) o next = prefixed_begins x args b o next
  statement_begins c (syntax.Inner i) o next = tt
  statement_begins c (syntax.Call e) o next = tt
  statement_begins c (syntax.Assign e sides) o next = tt
  statement_begins c (syntax.Choose i e a rest) o next =
      joined (statement_events connections Inside a) (statements_events connections Inside rest) (statement_bodies o a next) (statements_bodies o rest (next + length (statement_bodies o a next)))
      (statement_begins false a o next) (statements_begin false rest o (next + length (statement_bodies o a next)))
  statement_begins c (syntax.Repeat i e a) o next = statement_begins false a o next
  statement_begins c (syntax.For i x sign j es a) o next = statement_begins false a o next
  statement_begins c (syntax.Inspect i object d a e rest) o next =
      let inner : Around = record { number = next; level = o.level } in
      let inside : List Body = connection_body o d e ∷ statement_bodies inner a (next + 1) in (
        inl (refl, refl),
        joined (statement_events connections Inside a) (statements_events connections Inside rest) inside (statements_bodies o rest (next + length inside))
            (behind (statement_events connections Inside a) (connection_body o d e) (statement_bodies inner a (next + 1)) (statement_begins false a inner (next + 1)))
            (statements_begin false rest o (next + length inside)),
      )
  statement_begins c (syntax.InspectWhen i object whens rest) o next =
      joined (arms_events connections whens) (statements_events connections Inside rest) (arms_bodies o whens next) (statements_bodies o rest (next + length (arms_bodies o whens next)))
      (arms_begin whens o next) (statements_begin false rest o (next + length (arms_bodies o whens next)))
  statement_begins c (syntax.Activate i word process schedule) o next = tt

  statements_begin : (c : Bool) (ss : Statements) → (o : Around) (next : ℕ) → AllBegin (statements_events connections (place c) ss) (statements_bodies o ss next)
  statements_begin c NoStatement o next = tt
  statements_begin c (Also a more) o next =
      joined (statement_events connections (place c) a) (statements_events connections (place c) more) (statement_bodies o a next) (statements_bodies o more (next + length (statement_bodies o a next)))
      (statement_begins c a o next) (statements_begin c more o (next + length (statement_bodies o a next)))

  arms_begin : (arms : Arms) → (o : Around) (next : ℕ) → AllBegin (arms_events connections arms) (arms_bodies o arms next)
  arms_begin NoArm o next = tt
  arms_begin (When i x d a e more) o next =
      let inner : Around = record { number = next; level = o.level } in
      let inside : List Body = connection_body o d e ∷ statement_bodies inner a (next + 1) in (
        inl (refl, refl),
        joined (statement_events connections Inside a ++ []) (arms_events connections more) inside (arms_bodies o more (next + length inside))
            (nothing_behind (statement_events connections Inside a) inside (behind (statement_events connections Inside a) (connection_body o d e) (statement_bodies inner a (next + 1)) (statement_begins false a inner (next + 1))))
            (arms_begin more o (next + length inside)),
      )

  prefixed_begins : (x : Identifier) (args : Expressions) (b : Block) → (o : Around) (next : ℕ) → AllBegin (whole_events connections b) (prefixed_bodies o x args b next)
  prefixed_begins x args (Begin i ds ss e) o next =
      let inner : Around = record { number = next; level = deeper kind.Prefixed o.level } in
      let standard : List Body = standard_bodies inner x.name (next + 1) in
      let first : List Body = declarations_bodies inner ds (next + 1 + length standard) in
      let second : List Body = statements_bodies inner ss (next + 1 + length standard + length first) in
      let E = declarations_events connections ds in
      let S = statements_events connections Inside ss in
      behind (E ++ (S ++ [])) _ (standard ++ (first ++ second))
      (ahead (E ++ (S ++ [])) standard (first ++ second)
      (joined E (S ++ []) first second (declarations_begin ds inner (next + 1 + length standard)) (nothing_behind S second (statements_begin false ss inner (next + 1 + length standard + length first)))))

  block_begins : (b : Block) → (o : Around) (next : ℕ) → AllBegin (block_events connections b) (block_bodies o b next)
  block_begins (Begin i NoDeclaration ss e) o next = statements_begin false ss o next
  block_begins (Begin i (With d ds) ss e) o next =
      let inner : Around = record { number = next; level = deeper kind.SubBlock o.level } in
      let first : List Body = declarations_bodies inner (With d ds) (next + 1) in
      nothing_behind (declarations_events connections (With d ds) ++ statements_events connections Inside ss) _
      (behind (declarations_events connections (With d ds) ++ statements_events connections Inside ss) _ (first ++ statements_bodies inner ss (next + 1 + length first))
      (joined (declarations_events connections (With d ds)) (statements_events connections Inside ss) first (statements_bodies inner ss (next + 1 + length first)) (declarations_begin (With d ds) inner (next + 1)) (statements_begin false ss inner (next + 1 + length first))))

  declarations_begin : (ds : Declarations) → (o : Around) (next : ℕ) → AllBegin (declarations_events connections ds) (declarations_bodies o ds next)
  declarations_begin NoDeclaration o next = tt
  declarations_begin (With d ds) o next =
      joined (declaration_events connections d) (declarations_events connections ds) (declaration_bodies o d next) (declarations_bodies o ds (next + length (declaration_bodies o d next)))
      (declaration_begins d o next) (declarations_begin ds o (next + length (declaration_bodies o d next)))

  declaration_begins : (d : Declaration) → (o : Around) (next : ℕ) → AllBegin (declaration_events connections d) (declaration_bodies o d next)
  declaration_begins (Variables type vs) o next = tt
  declaration_begins (Arrays type i segments) o next = tt
  declaration_begins (DeclareProcedure result i h a e) o next =
      let inner : Around = record { number = next; level = deeper kind.Procedure o.level } in
      nothing_behind (statement_events connections Inside a) _ (behind (statement_events connections Inside a) _ (statement_bodies inner a (next + 1)) (statement_begins false a inner (next + 1)))
  declaration_begins (DeclareClass prefix i h interface a e) o next =
      nothing_behind (statement_events connections ClassBody a) _ (class_begins prefix i h interface a e o next (λ inner m. statement_begins false a inner m))

  -- the body of a class
  class_begins : (prefix : Option Identifier) (i : ℕ) (h : Heading) (interface : Interface) (a : Statement) (e : ℕ) → (o : Around) (next : ℕ) → ((inner : Around) (m : ℕ) → AllBegin (statement_events connections Inside a) (statement_bodies inner a m))
      → AllBegin (statement_events connections ClassBody a) (declaration_bodies o (DeclareClass prefix i h interface a e) next)
  class_begins prefix i h interface (syntax.Compound (Begin j ds ss k)) e o next one =
      let inner : Around = record { number = next; level = deeper kind.Class o.level } in
      let first : List Body = declarations_bodies inner ds (next + 1 + length (prefix_bodies inner prefix (next + 1))) in
      behind (declarations_events connections ds ++ statements_events connections ClassStatement ss) _ (prefix_bodies inner prefix (next + 1) ++ (first ++ statements_bodies inner ss (next + 1 + length (prefix_bodies inner prefix (next + 1)) + length first)))
      (ahead (declarations_events connections ds ++ statements_events connections ClassStatement ss) (prefix_bodies inner prefix (next + 1)) (first ++ statements_bodies inner ss (next + 1 + length (prefix_bodies inner prefix (next + 1)) + length first)) (joined (declarations_events connections ds) (statements_events connections ClassStatement ss) first (statements_bodies inner ss (next + 1 + length (prefix_bodies inner prefix (next + 1)) + length first)) (declarations_begin ds inner (next + 1 + length (prefix_bodies inner prefix (next + 1)))) (statements_begin true ss inner (next + 1 + length (prefix_bodies inner prefix (next + 1)) + length first))))
  class_begins prefix i h interface (syntax.Empty n) e o next one = tt
  class_begins prefix i h interface (syntax.Inner n) e o next one = tt
  class_begins prefix i h interface (syntax.Call x) e o next one = tt
  class_begins prefix i h interface (syntax.Assign x sides) e o next one = tt
  class_begins prefix i h interface (syntax.Choose n c x rest) e o next one =
      let inner : Around = record { number = next; level = deeper kind.Class o.level } in
      behind (statement_events connections Inside (syntax.Choose n c x rest)) _ (prefix_bodies inner prefix (next + 1) ++ statement_bodies inner (syntax.Choose n c x rest) (next + 1 + length (prefix_bodies inner prefix (next + 1)))) (ahead (statement_events connections Inside (syntax.Choose n c x rest)) (prefix_bodies inner prefix (next + 1)) (statement_bodies inner (syntax.Choose n c x rest) (next + 1 + length (prefix_bodies inner prefix (next + 1)))) (one inner (next + 1 + length (prefix_bodies inner prefix (next + 1)))))
  class_begins prefix i h interface (syntax.Repeat n c x) e o next one =
      let inner : Around = record { number = next; level = deeper kind.Class o.level } in
      behind (statement_events connections Inside (syntax.Repeat n c x)) _ (prefix_bodies inner prefix (next + 1) ++ statement_bodies inner (syntax.Repeat n c x) (next + 1 + length (prefix_bodies inner prefix (next + 1)))) (ahead (statement_events connections Inside (syntax.Repeat n c x)) (prefix_bodies inner prefix (next + 1)) (statement_bodies inner (syntax.Repeat n c x) (next + 1 + length (prefix_bodies inner prefix (next + 1)))) (one inner (next + 1 + length (prefix_bodies inner prefix (next + 1)))))
  class_begins prefix i h interface (syntax.For n y sign m es x) e o next one =
      let inner : Around = record { number = next; level = deeper kind.Class o.level } in
      behind (statement_events connections Inside (syntax.For n y sign m es x)) _ (prefix_bodies inner prefix (next + 1) ++ statement_bodies inner (syntax.For n y sign m es x) (next + 1 + length (prefix_bodies inner prefix (next + 1)))) (ahead (statement_events connections Inside (syntax.For n y sign m es x)) (prefix_bodies inner prefix (next + 1)) (statement_bodies inner (syntax.For n y sign m es x) (next + 1 + length (prefix_bodies inner prefix (next + 1)))) (one inner (next + 1 + length (prefix_bodies inner prefix (next + 1)))))
  class_begins prefix i h interface (syntax.Inspect n object d x m rest) e o next one =
      let inner : Around = record { number = next; level = deeper kind.Class o.level } in
      behind (statement_events connections Inside (syntax.Inspect n object d x m rest)) _ (prefix_bodies inner prefix (next + 1) ++ statement_bodies inner (syntax.Inspect n object d x m rest) (next + 1 + length (prefix_bodies inner prefix (next + 1)))) (ahead (statement_events connections Inside (syntax.Inspect n object d x m rest)) (prefix_bodies inner prefix (next + 1)) (statement_bodies inner (syntax.Inspect n object d x m rest) (next + 1 + length (prefix_bodies inner prefix (next + 1)))) (one inner (next + 1 + length (prefix_bodies inner prefix (next + 1)))))
  class_begins prefix i h interface (syntax.InspectWhen n object arms rest) e o next one =
      let inner : Around = record { number = next; level = deeper kind.Class o.level } in
      behind (statement_events connections Inside (syntax.InspectWhen n object arms rest)) _ (prefix_bodies inner prefix (next + 1) ++ statement_bodies inner (syntax.InspectWhen n object arms rest) (next + 1 + length (prefix_bodies inner prefix (next + 1)))) (ahead (statement_events connections Inside (syntax.InspectWhen n object arms rest)) (prefix_bodies inner prefix (next + 1)) (statement_bodies inner (syntax.InspectWhen n object arms rest) (next + 1 + length (prefix_bodies inner prefix (next + 1)))) (one inner (next + 1 + length (prefix_bodies inner prefix (next + 1)))))
  class_begins prefix i h interface (syntax.Prefixed x args b) e o next one =
      let inner : Around = record { number = next; level = deeper kind.Class o.level } in
      behind (statement_events connections Inside (syntax.Prefixed x args b)) _ (prefix_bodies inner prefix (next + 1) ++ statement_bodies inner (syntax.Prefixed x args b) (next + 1 + length (prefix_bodies inner prefix (next + 1)))) (ahead (statement_events connections Inside (syntax.Prefixed x args b)) (prefix_bodies inner prefix (next + 1)) (statement_bodies inner (syntax.Prefixed x args b) (next + 1 + length (prefix_bodies inner prefix (next + 1)))) (one inner (next + 1 + length (prefix_bodies inner prefix (next + 1)))))
  class_begins prefix i h interface (syntax.Activate n w process schedule) e o next one = tt

whole_begins : (b : Block) → AllBegin (whole_events connections b) (bodies_of None b)
unfolding connections
whole_begins (Begin i ds ss end) =
    let first : List Body = declarations_bodies program_around ds 1 in
    behind (declarations_events connections ds ++ (statements_events connections Inside ss ++ [])) _ (first ++ statements_bodies program_around ss (1 + length first))
    (joined (declarations_events connections ds) (statements_events connections Inside ss ++ []) first (statements_bodies program_around ss (1 + length first)) (declarations_begin ds program_around 1)
    (nothing_behind (statements_events connections Inside ss) (statements_bodies program_around ss (1 + length first)) (statements_begin false ss program_around (1 + length first))))

-- with a prefix
start_begins : (x : Prefix) (b : Block) → AllBegin (whole_events connections b) (bodies_of (Some x) b)
unfolding connections
start_begins x (Begin i ds ss end) =
    let standard : List Body = standard_bodies program_around x.class.name 1 in
    let first : List Body = declarations_bodies program_around ds (1 + length standard) in
    let second : List Body = statements_bodies program_around ss (1 + length standard + length first) in
    let E = declarations_events connections ds in
    let S = statements_events connections Inside ss in
    behind (E ++ (S ++ [])) _ (standard ++ (first ++ second))
    (ahead (E ++ (S ++ [])) standard (first ++ second)
    (joined E (S ++ []) first second (declarations_begin ds program_around (1 + length standard)) (nothing_behind S second (statements_begin false ss program_around (1 + length standard + length first)))))

pub program_begins : (p : Program) → AllBegin (program_events connections p) (program_bodies p)
unfolding connections program_events program_bodies
program_begins p = go p.prefix p.block
  where
    go : (prefix : Option Prefix) (b : Block) → AllBegin (connections.program prefix (begin_of b) ++ whole_events connections b) (bodies_of prefix b)
    go (Some x) b = start_begins x b
    go None b = whole_begins b

-- ---- the blocks that begin so

-- a block that is a connection begins at this token
pub record Opened (bs : List BlockOf) (opening : ℕ) : Type 0 where
  pub number : ℕ
  pub row : BlockOf
  pub at : slice_get bs number ≡ Some row
  pub is : row.kind ≡ kind.Connection
  pub begins : row.first ≡ opening

abbrev kind_of_shape : Shape → BlockKind
kind_of_shape x = x.kind

opened : (bs : List BlockOf) (cs : List Body) (i : ℕ) → map shape_of bs ≡ map outline cs → Begins i cs → Opened bs i
opened bs [] i e h = absurd h
opened [] (c ∷ cs) i e h = absurd (cc)
opened (b ∷ bs) (c ∷ cs) i e h = go h (λ q. opened bs cs i (rest e) q)
  where
    head : shape_of b ∷ map shape_of bs ≡ outline c ∷ map outline cs → shape_of b ≡ outline c
    head q = cc

    rest : shape_of b ∷ map shape_of bs ≡ outline c ∷ map outline cs → map shape_of bs ≡ map outline cs
    rest q = cc

    go : ((c.kind ≡ kind.Connection) × (c.first ≡ i)) ⊎ Begins i cs → (Begins i cs → Opened bs i) → Opened (b ∷ bs) i
    go (inl q) later = record { number = 0; row = b; at = refl; is = ap (λ (z : Shape). z.kind) (head e) ∙ q.0; begins = ap (λ (z : Shape). z.first) (head e) ∙ q.1 }
    go (inr q) later = let w = later q in record { number = w.number + 1; row = w.row; at = later_at w.number w.row w.at; is = w.is; begins = w.begins }
      where
        later_at : (n : ℕ) (row : BlockOf) → slice_get bs n ≡ Some row → slice_get (b ∷ bs) (n + 1) ≡ Some row
        later_at n row at = ap (slice_get (b ∷ bs)) (let z : n + 1 ≡ suc n = omega arith in z) ∙ at

abbrev pub AllOpened : List Connecting → List BlockOf → Type 0
AllOpened [] bs = Unit {0}
AllOpened (Looks e ∷ es) bs = AllOpened es bs
AllOpened (Names x ∷ es) bs = AllOpened es bs
AllOpened (Connects i ∷ es) bs = Opened bs i × AllOpened es bs

all_opened : (es : List Connecting) (bs : List BlockOf) (cs : List Body) → map shape_of bs ≡ map outline cs → AllBegin es cs → AllOpened es bs
all_opened [] bs cs e a = tt
all_opened (Looks x ∷ es) bs cs e a = all_opened es bs cs e a
all_opened (Names x ∷ es) bs cs e a = all_opened es bs cs e a
all_opened (Connects i ∷ es) bs cs e a = (opened bs cs i e a.0, all_opened es bs cs e a.1)

pub program_opened : (p : Program) → AllOpened (program_events connections p) (declared_by p).tables.blocks
program_opened p = all_opened (program_events connections p) (declared_by p).tables.blocks (program_bodies p) (blocks_are_bodies p) (program_begins p)
