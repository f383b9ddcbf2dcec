-- What the first round finds is what breaks a clause of it.
use Rattle.std.proofs.Common.{◌≡◌, ◌⊎◌, inl, inr, ℕ, Bool, true, false, if◌then◌else◌, not, List, [], ◌∷◌, ◌++◌, length, Option, Some, None, refl, sym, ap, ◌∙◌, subst}
use Rattle.std.specs.Prelude.{◌&&◌, nat_eq, nat_lt, slice_get}
use Rattle.sim_base.specs.declared.numbering.DeclNo.{DeclNo}
use Rattle.sim_base.specs.declared.rule.Rule.TheVariants as r
use Rattle.sim_tree.specs.declared.expr.Identifier.{Identifier}
use Rattle.sim_tree.specs.Syntax.{Program}
use Rattle.prefix_bind.specs.Cells.{most_cells}
use Rattle.prefix_bind.specs.Prefixes as x
use Rattle.prefix_bind.specs.Prefixes.{block_faults, breaks_cells, breaks_prefix, faults_of, has_broken_chain, is_in_own_chain, is_known, is_prefixed_block, is_wrong_prefix, level_cells, numbers_to, prefix_faults, prefix_token, row_faults}
use Rattle.sim_scope.specs.Access.{is_kind}
use Rattle.sim_scope.specs.Breaks.{again_breaks, all_breaks, breaks, broken_by, counting_breaks, declaration_breaks, heading_breaks, inner_breaks, inner_breaks_in, inner_breaks_of, mode_breaks, mode_breaks_of, row_breaks, specification_breaks, specification_breaks_of, where_true, written_breaks}
use Rattle.sim_scope.specs.Building.{Breaks as BreaksMark, Brings, BuildingOf, Closes, Declares, DeclaresClass, DeclaresProcedure, Headed, Inner, Mark, Moded, Opens, Parameter, Prefixes, Protects, Provides, Qualifies, Specified, block_around, found_in, in_class, is_by_name, is_match, is_procedure, level_in, marked, mode_allowed, most_declarations, most_levels, token_in, unspecified_at, unspecified_in}
use Rattle.sim_scope.specs.Declare.{declaring, empty}
use Rattle.sim_scope.specs.Found.{fault}
use Rattle.sim_scope.specs.Least.{Among, here}
use Rattle.sim_scope.specs.Levels.{holds, is_standard_class, some_level}
use Rattle.sim_scope.specs.Runs.{run}
use Rattle.sim_scope.specs.Scopes.{declared_in, entry_of}
use Rattle.sim_scope.specs.Tables.{BlockOf, Tables}
use Rattle.sim_scope.specs.Walk.{program_events}
use Rattle.sim_scope.specs.declared.found.Fault.{Fault}
use Rattle.sim_scope.specs.declared.types.Entry.{Entry}
use Rattle.sim_scope.specs.declared.types.Entry.TheVariants as entry
use Rattle.sim_scope.specs.declared.types.FormalKind.{FormalKind}
use Rattle.sim_scope.specs.declared.types.Mode.{Mode}
use Rattle.sim_scope.specs.declared.types.SimType.{SimType}
use Rattle.sim_scope.specs.declared.types.WrittenMode.{WrittenMode}
use Rattle.static_rules.specs.FirstRound.{ClassInItsOwnChain, PrefixIsNoClass, TooManyCells, class_of_sets, in_a_cycle, no_class, too_large, with_prefixes}
use Rattle.static_rules.proofs.Converting.{disagrees_built, disagrees_read, inner_built, inner_read, levels_built, levels_read, many_built, many_read, modes_built, modes_read, twice_built, twice_read}
use Rattle.static_rules.proofs.Meeting.{DeclaredTwice, InnerOutOfPlace, IsDeclared, IsDouble, IsNew, IsOpen, Met, ModeNotAllowed, SpecificationDisagrees, TooManyDeclarations, TooManyLevels, as_class, as_itself, as_parameter, as_procedure, by_name_in_class, declared_twice, double, elsewhere, first_one, has_name, is_its_match, match, matches, no_parameter, no_specification, not_so, of_no_parameter, one_more, procedure_of_class, second_one, too_deep, twice, unspecified_there}
use Rattle.static_rules.specs.Rules.{Breaks, First, l1, l2, l3, s1, s2, s3, s4, s5, s6}
use Rattle.static_rules.proofs.Lists.{among_either, among_left, among_one, among_right, equal, from_row_test, from_test, is_equal, is_less, less, numbers_have, some_number, to_row_test, to_test, within}
use Rattle.static_rules.proofs.Marks.{only_inner}
use Rattle.static_rules.proofs.Tests.{and_both, and_first, and_second, not_false, not_true, or_first, or_second, or_true}

-- ---- what is met

split : (b : BuildingOf) (ms : List Mark) (y : Fault) → Among (all_breaks b ms) y → (before : List Mark) × (m : Mark) × (behind : List Mark) × (ms ≡ before ++ m ∷ behind) × Among (breaks (run marked b before) m) y
unfolding all_breaks run
split b [] y h = elim h [ ]
split b (m ∷ ms) y h = elim (among_either (breaks b m) (all_breaks (marked b m) ms) y h) [
  | inl l ↦ ([], m, ms, refl, l)
  | inr k ↦ (let d = split (marked b m) ms y k in (m ∷ d.0, d.1, d.2, ap (λ z. m ∷ z) d.3, d.4))
]

join : (b : BuildingOf) (before : List Mark) (m : Mark) (behind : List Mark) (y : Fault) → Among (breaks (run marked b before) m) y → Among (all_breaks b (before ++ m ∷ behind)) y
unfolding all_breaks run
join b [] m behind y h = among_left (all_breaks (marked b m) behind) h
join b (n ∷ before) m behind y h = among_right (breaks b n) (join (marked b n) before m behind y h)

met_breaks : (p : Program) (m : Mark) (b : BuildingOf) (y : Fault) → Met p m b → Among (breaks b m) y → Among (broken_by p) y
unfolding broken_by
met_breaks p m b y met h =
    subst (λ z. Among (all_breaks empty z) y) (sym met.all) (join empty met.before m met.behind y (subst (λ z. Among (breaks z m) y) met.known h))

-- ---- declarations

module _ (p : Program) (m : Mark) (b : BuildingOf) (x : Identifier) (e : Entry) (met : Met p m b) (is : IsDeclared b m x e) where
  counting_from : (y : Fault) → IsNew b m x → Among (counting_breaks b x) y → Breaks p First y
  counting_from y new h =
      let d = from_test (nat_eq b.own most_declarations) x.token.0 r.TooManyDeclarations y h in
      subst (Breaks p First) d.1 (l3 (many_read p _ (one_more met new (equal b.own most_declarations d.0))))

  double_from : (row : BlockOf) (y : Fault) → IsOpen b row → has_name row x.name ≡ true → is_its_match b row x.name e ≡ false → fault x.token.0 r.DeclaredTwice ≡ y → Breaks p First y
  double_from row y opened has fails same = subst (Breaks p First) same (s1 (twice_read p _ (declared_twice met (double is opened has fails))))

  again_from : (row : BlockOf) (y : Fault) → IsOpen b row → has_name row x.name ≡ true → (o : Option DeclNo) → declared_in (Some row) x.name ≡ o → Among (again_breaks b x e o) y → Breaks p First y
  again_from row y opened has None at h = double_from row y opened has (ap (matches b e) at) (among_one h)
  again_from row y opened has (Some d) at h = go (is_match e (entry_of b.tables d)) refl h
    where
      go : (c : Bool) → is_match e (entry_of b.tables d) ≡ c → Among (if c then counting_breaks b x else (fault x.token.0 r.DeclaredTwice ∷ [])) y → Breaks p First y
      go true same k = counting_from y (match is opened has (ap (matches b e) at ∙ same)) k
      go false same k = double_from row y opened has (ap (matches b e) at ∙ same) (among_one k)

  row_from : (block : ℕ) (y : Fault) → b.current ≡ Some block → (o : Option BlockOf) → slice_get b.tables.blocks block ≡ o → Among (row_breaks b x e o) y → Breaks p First y
  row_from block y current None at h = elim h [ ]
  row_from block y current (Some row) at h = go (has_name row x.name) refl h
    where
      open_row : IsOpen b row
      open_row = record { block = block; current = current; is = at }

      go : (c : Bool) → has_name row x.name ≡ c → Among (if c then again_breaks b x e (declared_in (Some row) x.name) else counting_breaks b x) y → Breaks p First y
      go true has k = again_from row y open_row has (declared_in (Some row) x.name) refl k
      go false has k = counting_from y (first_one is open_row has) k

  declaration_from : (y : Fault) (o : Option ℕ) → b.current ≡ o → Among (declaration_breaks b x e o) y → Breaks p First y
  declaration_from y None at h = elim h [ ]
  declaration_from y (Some block) at h = row_from block y at (slice_get b.tables.blocks block) refl h

-- ---- headings

mode_from : (p : Program) (b : BuildingOf) (x : Identifier) (m : Mode) (y : Fault) → Met p (Moded x m) b → (o : Option DeclNo) → found_in b.tables b.current x.name ≡ o → Among (mode_breaks b x.token m o) y → Breaks p First y
mode_from p b x m y met None at h = subst (Breaks p First) (among_one h) (s5 (modes_read p _ (of_no_parameter met (ap (unspecified_at b.tables) at))))
mode_from p b x m y met (Some d) at h = go (unspecified_in (entry_of b.tables d)) refl h
  where
    go : (q : Option (Option WrittenMode)) → unspecified_in (entry_of b.tables d) ≡ q → Among (mode_breaks_of b x.token m q) y → Breaks p First y
    go None same k = subst (Breaks p First) (among_one k) (s5 (modes_read p _ (of_no_parameter met (ap (unspecified_at b.tables) at ∙ same))))
    go (Some (Some w)) same k = subst (Breaks p First) (among_one k) (s5 (modes_read p _ (twice met (ap (unspecified_at b.tables) at ∙ same))))
    go (Some None) same k =
        let t = from_test (is_by_name m && in_class b) x.token.0 r.ModeNotAllowed y k in
        subst (Breaks p First) t.1 (s5 (modes_read p _ (by_name_in_class met (ap (unspecified_at b.tables) at ∙ same) (and_first (is_by_name m) (in_class b) t.0) (and_second (is_by_name m) (in_class b) t.0))))

written_from : (p : Program) (b : BuildingOf) (x : Identifier) (k : FormalKind) (ty : Option SimType) (y : Fault) → Met p (Specified x k ty) b → (w : Option WrittenMode) → unspecified_there b x.name ≡ Some w → Among (written_breaks k ty w) y → Breaks p First y
written_from p b x k ty y met None at h = elim h [ ]
written_from p b x k ty y met (Some w) at h =
    let t = from_test (not (mode_allowed w.mode k ty)) w.token.0 r.ModeNotAllowed y h in
    subst (Breaks p First) t.1 (s5 (modes_read p _ (not_so met at (not_true (mode_allowed w.mode k ty) t.0))))

specified_from : (p : Program) (b : BuildingOf) (x : Identifier) (k : FormalKind) (ty : Option SimType) (y : Fault) → Met p (Specified x k ty) b → (o : Option DeclNo) → found_in b.tables b.current x.name ≡ o → Among (specification_breaks b x.token k ty o) y → Breaks p First y
specified_from p b x k ty y met None at h = subst (Breaks p First) (among_one h) (s4 (disagrees_read p _ (no_parameter met (ap (unspecified_at b.tables) at))))
specified_from p b x k ty y met (Some d) at h = go (unspecified_in (entry_of b.tables d)) refl h
  where
    go : (q : Option (Option WrittenMode)) → unspecified_in (entry_of b.tables d) ≡ q → Among (specification_breaks_of b x.token k ty d q) y → Breaks p First y
    go None same j = subst (Breaks p First) (among_one j) (s4 (disagrees_read p _ (no_parameter met (ap (unspecified_at b.tables) at ∙ same))))
    go (Some w) same j =
        let there : unspecified_there b x.name ≡ Some w = ap (unspecified_at b.tables) at ∙ same in
        elim (among_either (written_breaks k ty w) (where_true (is_procedure k && in_class b) (token_in (slice_get b.tables.declarations d.0)) r.ModeNotAllowed) y j) [
          | inl l ↦ written_from p b x k ty y met w there l
          | inr l ↦ (let t = from_test (is_procedure k && in_class b) (token_in (slice_get b.tables.declarations d.0)) r.ModeNotAllowed y l in
              subst (Breaks p First) t.1 (s5 (modes_read p _ (procedure_of_class met at there (and_first (is_procedure k) (in_class b) t.0) (and_second (is_procedure k) (in_class b) t.0)))))
        ]

headed_from : (p : Program) (b : BuildingOf) (x : Identifier) (y : Fault) → Met p (Headed x) b → (q : Option (Option WrittenMode)) → unspecified_there b x.name ≡ q → Among (heading_breaks x.token q) y → Breaks p First y
headed_from p b x y met None at h = elim h [ ]
headed_from p b x y met (Some w) at h = subst (Breaks p First) (among_one h) (s4 (disagrees_read p _ (no_specification met at)))

-- ---- `inner`

inner_in_from : (p : Program) (b : BuildingOf) (token : ℕ) (row : BlockOf) (y : Fault) → Met p (Inner token) b → IsOpen b row → (o : Option ℕ) → row.inner ≡ o → Among (inner_breaks_in token o) y → Breaks p First y
inner_in_from p b token row y met opened None at h = elim h [ ]
inner_in_from p b token row y met opened (Some other) at h = subst (Breaks p First) (among_one h) (s6 (inner_read p _ (second_one met opened at)))

inner_row_from : (p : Program) (b : BuildingOf) (token block : ℕ) (y : Fault) → Met p (Inner token) b → b.current ≡ Some block → (o : Option BlockOf) → slice_get b.tables.blocks block ≡ o → Among (inner_breaks_of token o) y → Breaks p First y
inner_row_from p b token block y met current None at h = elim h [ ]
inner_row_from p b token block y met current (Some row) at h = inner_in_from p b token row y met (record { block = block; current = current; is = at }) row.inner refl h

inner_from : (p : Program) (b : BuildingOf) (token : ℕ) (y : Fault) → Met p (Inner token) b → (o : Option ℕ) → b.current ≡ o → Among (inner_breaks b token o) y → Breaks p First y
inner_from p b token y met None at h = elim h [ ]
inner_from p b token y met (Some block) at h = inner_row_from p b token block y met at (slice_get b.tables.blocks block) refl h

-- ---- each mark

mark_from : (p : Program) (m : Mark) (b : BuildingOf) (y : Fault) → Met p m b → Among (breaks b m) y → Breaks p First y
unfolding breaks
mark_from p (Opens k text first) b y met h =
    let level : ℕ = level_in k (block_around b.tables b.current) in
    let t = from_test (nat_lt most_levels level) text r.TooManyLevels y h in subst (Breaks p First) t.1 (l1 (levels_read p _ (too_deep met (less most_levels level t.0))))
mark_from p (Closes end) b y met h = elim h [ ]
mark_from p (Declares x e) b y met h = declaration_from p (Declares x e) b x e met as_itself y b.current refl h
mark_from p (DeclaresProcedure x result) b y met h = declaration_from p (DeclaresProcedure x result) b x (entry.Procedure result (length b.tables.blocks)) met as_procedure y b.current refl h
mark_from p (DeclaresClass x) b y met h = declaration_from p (DeclaresClass x) b x (entry.Class (length b.tables.blocks)) met as_class y b.current refl h
mark_from p (Parameter x) b y met h = declaration_from p (Parameter x) b x (entry.Unspecified None) met as_parameter y b.current refl h
mark_from p (Moded x m) b y met h = mode_from p b x m y met (found_in b.tables b.current x.name) refl h
mark_from p (Specified x k ty) b y met h = specified_from p b x k ty y met (found_in b.tables b.current x.name) refl h
mark_from p (Headed x) b y met h = headed_from p b x y met (unspecified_there b x.name) refl h
mark_from p (Qualifies class) b y met h = elim h [ ]
mark_from p (Prefixes class) b y met h = elim h [ ]
mark_from p (Brings which token) b y met h = elim h [ ]
mark_from p (Provides which name token) b y met h = elim h [ ]
mark_from p (Protects hides keeps x) b y met h = elim h [ ]
mark_from p (Inner token) b y met h = inner_from p b token y met b.current refl h
mark_from p (BreaksMark token rule) b y met h =
    let same : rule ≡ r.InnerOutOfPlace = only_inner p met.before met.behind token rule met.all in
    let there : Met p (BreaksMark token r.InnerOutOfPlace) b = subst (λ z. Met p (BreaksMark token z) b) same met in
    subst (Breaks p First) (ap (fault token) (sym same) ∙ among_one h) (s6 (inner_read p _ (elsewhere there)))

declarations_from : (p : Program) (y : Fault) → Among (broken_by p) y → Breaks p First y
unfolding broken_by
declarations_from p y h =
    let d = split empty (program_events declaring p) y h in
    mark_from p d.1 (run marked empty d.0) y (record { before = d.0; behind = d.2; all = d.3; known = refl }) d.4

-- ---- prefixes

module _ (p : Program) (block : ℕ) (row : BlockOf) (at : slice_get (with_prefixes p).blocks block ≡ Some row) where
  wrong_from : (y : Fault) (i : Identifier) → row.prefix ≡ Some i → is_wrong_prefix (with_prefixes p) row ≡ true → fault i.token.0 r.PrefixIsNoClass ≡ y → Breaks p First y
  wrong_from y i prefix wrong same = elim (or_true (not (is_known row)) (is_prefixed_block row.kind && holds sets row.base) wrong) [
    | inl h ↦ subst (Breaks p First) same (s2 (no_class block at prefix (not_true (is_known row) h)))
    | inr h ↦ (go row.base refl (and_first (is_prefixed_block row.kind) (holds sets row.base) h) (and_second (is_prefixed_block row.kind) (holds sets row.base) h))
  ]
    where
      sets : ℕ → Bool
      sets b = some_level (with_prefixes p) (is_kind is_standard_class (with_prefixes p)) b

      go : (o : Option ℕ) → row.base ≡ o → is_prefixed_block row.kind ≡ true → holds sets o ≡ true → Breaks p First y
      go None base kind e = absurd (cc)
      go (Some b) base kind e = subst (Breaks p First) same (s2 (class_of_sets block at prefix kind base e))

  prefix_from : (y : Fault) (o : Option Identifier) → row.prefix ≡ o → breaks_prefix (with_prefixes p) row o ≡ true → fault (prefix_token o) r.PrefixIsNoClass ≡ y → Breaks p First y
  prefix_from y None prefix wrong same = absurd (cc)
  prefix_from y (Some i) prefix wrong same = wrong_from y i prefix wrong same

  cells_from : (y : Fault) → breaks_cells (with_prefixes p) block ≡ true → fault row.first r.TooManyCells ≡ y → Breaks p First y
  cells_from y e same =
      let many : Bool = nat_lt most_cells (level_cells (with_prefixes p) block) in
      let whole : Bool = not (has_broken_chain (with_prefixes p) block) in
      subst (Breaks p First) same (l2 (too_large block at (less most_cells (level_cells (with_prefixes p) block) (and_first many whole e)) (not_true (has_broken_chain (with_prefixes p) block) (and_second many whole e))))

  row_faults_from : (y : Fault) → Among (row_faults (with_prefixes p) block row) y → Breaks p First y
  unfolding row_faults
  row_faults_from y h =
      let s : Tables = with_prefixes p in
      let wrong : List Fault = x.where_true (breaks_prefix s row row.prefix) (prefix_token row.prefix) r.PrefixIsNoClass in
      let cycle : List Fault = x.where_true (is_in_own_chain s block) row.first r.ClassInItsOwnChain in
      let cells : List Fault = x.where_true (breaks_cells s block) row.first r.TooManyCells in
      elim (among_either wrong (cycle ++ cells) y h) [
        | inl l ↦ (let t = from_row_test (breaks_prefix s row row.prefix) (prefix_token row.prefix) r.PrefixIsNoClass y l in prefix_from y row.prefix refl t.0 t.1)
        | inr k ↦ elim (among_either cycle cells y k) [
          | inl l ↦ (let t = from_row_test (is_in_own_chain s block) row.first r.ClassInItsOwnChain y l in subst (Breaks p First) t.1 (s3 (in_a_cycle block at t.0)))
          | inr l ↦ (let t = from_row_test (breaks_cells s block) row.first r.TooManyCells y l in cells_from y t.0 t.1)
        ]
      ]

block_from : (p : Program) (block : ℕ) (y : Fault) (o : Option BlockOf) → slice_get (with_prefixes p).blocks block ≡ o → Among (block_faults (with_prefixes p) block o) y → Breaks p First y
block_from p block y None at h = elim h [ ]
block_from p block y (Some row) at h = row_faults_from p block row at y h

prefixes_from : (p : Program) (y : Fault) → Among (prefix_faults (with_prefixes p)) y → Breaks p First y
unfolding prefix_faults faults_of
prefixes_from p y h =
    let d = some_number (faults_of (with_prefixes p)) (length (with_prefixes p).blocks) y h in
    block_from p d.0 y (slice_get (with_prefixes p).blocks d.0) refl d.1

pub first_found : (p : Program) (y : Fault) → Among (broken_by p) y ⊎ Among (prefix_faults (with_prefixes p)) y → Breaks p First y
first_found p y (inl h) = declarations_from p y h
first_found p y (inr h) = prefixes_from p y h

-- ---- the other way

declared_to : (m : Mark) (b : BuildingOf) (x : Identifier) (e : Entry) (y : Fault) → IsDeclared b m x e → Among (declaration_breaks b x e b.current) y → Among (breaks b m) y
unfolding breaks
declared_to _ b x e y as_itself h = h
declared_to _ b x e y as_procedure h = h
declared_to _ b x e y as_class h = h
declared_to _ b x e y as_parameter h = h

open_to : (b : BuildingOf) (x : Identifier) (e : Entry) (row : BlockOf) (y : Fault) → IsOpen b row → Among (row_breaks b x e (Some row)) y → Among (declaration_breaks b x e b.current) y
open_to b x e row y opened h = subst (λ o. Among (declaration_breaks b x e o) y) (sym opened.current) (subst (λ o. Among (row_breaks b x e o) y) (sym opened.is) h)

has_to : (b : BuildingOf) (x : Identifier) (e : Entry) (row : BlockOf) (y : Fault) → has_name row x.name ≡ true → Among (again_breaks b x e (declared_in (Some row) x.name)) y → Among (row_breaks b x e (Some row)) y
has_to b x e row y has h = subst (λ c. Among (if c then again_breaks b x e (declared_in (Some row) x.name) else counting_breaks b x) y) (sym has) h

lacks_to : (b : BuildingOf) (x : Identifier) (e : Entry) (row : BlockOf) (y : Fault) → has_name row x.name ≡ false → Among (counting_breaks b x) y → Among (row_breaks b x e (Some row)) y
lacks_to b x e row y has h = subst (λ c. Among (if c then again_breaks b x e (declared_in (Some row) x.name) else counting_breaks b x) y) (sym has) h

double_to : (b : BuildingOf) (x : Identifier) (e : Entry) (o : Option DeclNo) → matches b e o ≡ false → Among (again_breaks b x e o) (fault x.token.0 r.DeclaredTwice)
double_to b x e None fails = here
double_to b x e (Some d) fails = subst (λ c. Among (if c then counting_breaks b x else (fault x.token.0 r.DeclaredTwice ∷ [])) (fault x.token.0 r.DeclaredTwice)) (sym fails) here

match_to : (b : BuildingOf) (x : Identifier) (e : Entry) (o : Option DeclNo) (y : Fault) → matches b e o ≡ true → Among (counting_breaks b x) y → Among (again_breaks b x e o) y
match_to b x e None y agrees h = absurd (cc)
match_to b x e (Some d) y agrees h = subst (λ c. Among (if c then counting_breaks b x else (fault x.token.0 r.DeclaredTwice ∷ [])) y) (sym agrees) h

twice_to : (m : Mark) (b : BuildingOf) (x : Identifier) → IsDouble b m x → Among (breaks b m) (fault x.token.0 r.DeclaredTwice)
twice_to m b x (double {e = e} {row = row} is opened has fails) =
    let y : Fault = fault x.token.0 r.DeclaredTwice in
    declared_to m b x e y is (open_to b x e row y opened (has_to b x e row y has (double_to b x e (declared_in (Some row) x.name) fails)))

counted_to : (m : Mark) (b : BuildingOf) (x : Identifier) → IsNew b m x → b.own ≡ most_declarations → Among (breaks b m) (fault x.token.0 r.TooManyDeclarations)
counted_to m b x (first_one {e = e} {row = row} is opened has) many =
    let y : Fault = fault x.token.0 r.TooManyDeclarations in
    declared_to m b x e y is (open_to b x e row y opened (lacks_to b x e row y has (to_test (nat_eq b.own most_declarations) x.token.0 r.TooManyDeclarations (is_equal b.own most_declarations many))))
counted_to m b x (match {e = e} {row = row} is opened has agrees) many =
    let y : Fault = fault x.token.0 r.TooManyDeclarations in
    declared_to m b x e y is (open_to b x e row y opened (has_to b x e row y has (match_to b x e (declared_in (Some row) x.name) y agrees
    (to_test (nat_eq b.own most_declarations) x.token.0 r.TooManyDeclarations (is_equal b.own most_declarations many)))))

mode_to : (b : BuildingOf) (x : Identifier) (m : Mode) (y : Fault) (q : Option (Option WrittenMode)) (o : Option DeclNo) → unspecified_at b.tables o ≡ q → (o ≡ None → Among (fault x.token.0 r.ModeNotAllowed ∷ []) y) → Among (mode_breaks_of b x.token m q) y → Among (mode_breaks b x.token m o) y
mode_to b x m y q None at none h = none refl
mode_to b x m y q (Some d) at none h = subst (λ z. Among (mode_breaks_of b x.token m z) y) (sym at) h

modes_to : (p : Program) (token : ℕ) → ModeNotAllowed p token → Among (broken_by p) (fault token r.ModeNotAllowed)
unfolding breaks
modes_to p _ (of_no_parameter {x = x} {m = m} {front = b} met none) =
    let y : Fault = fault x.token.0 r.ModeNotAllowed in
    met_breaks p (Moded x m) b y met (mode_to b x m y None (found_in b.tables b.current x.name) none (λ e. here) here)
modes_to p _ (twice {x = x} {m = m} {front = b} {w = w} met there) =
    let y : Fault = fault x.token.0 r.ModeNotAllowed in
    met_breaks p (Moded x m) b y met (mode_to b x m y (Some (Some w)) (found_in b.tables b.current x.name) there (λ e. here) here)
modes_to p _ (by_name_in_class {x = x} {m = m} {front = b} met there name class) =
    let y : Fault = fault x.token.0 r.ModeNotAllowed in
    met_breaks p (Moded x m) b y met (mode_to b x m y (Some None) (found_in b.tables b.current x.name) there (λ e. here)
    (to_test (is_by_name m && in_class b) x.token.0 r.ModeNotAllowed (and_both (is_by_name m) (in_class b) name class)))
modes_to p _ (not_so {x = x} {k = k} {ty = ty} {front = b} {w = w} met there fails) =
    met_breaks p (Specified x k ty) b (fault w.token.0 r.ModeNotAllowed) met (go (found_in b.tables b.current x.name) there)
  where
    go : (o : Option DeclNo) → unspecified_at b.tables o ≡ Some (Some w) → Among (specification_breaks b x.token k ty o) (fault w.token.0 r.ModeNotAllowed)
    go None e = absurd (cc)
    go (Some d) e =
        subst (λ z. Among (specification_breaks_of b x.token k ty d z) (fault w.token.0 r.ModeNotAllowed)) (sym e)
        (among_left (where_true (is_procedure k && in_class b) (token_in (slice_get b.tables.declarations d.0)) r.ModeNotAllowed) (to_test (not (mode_allowed w.mode k ty)) w.token.0 r.ModeNotAllowed (not_false (mode_allowed w.mode k ty) fails)))
modes_to p _ (procedure_of_class {x = x} {k = k} {ty = ty} {front = b} {d = d} {mode = w} met found there procedure class) =
    met_breaks p (Specified x k ty) b y met
    (subst (λ o. Among (specification_breaks b x.token k ty o) y) (sym found)
    (subst (λ z. Among (specification_breaks_of b x.token k ty d z) y) (sym own)
    (among_right (written_breaks k ty w) (to_test (is_procedure k && in_class b) (token_in (slice_get b.tables.declarations d.0)) r.ModeNotAllowed (and_both (is_procedure k) (in_class b) procedure class)))))
  where
    y : Fault
    y = fault (token_in (slice_get b.tables.declarations d.0)) r.ModeNotAllowed

    own : unspecified_in (entry_of b.tables d) ≡ Some w
    own = sym (ap (unspecified_at b.tables) found) ∙ there

disagrees_to : (p : Program) (token : ℕ) → SpecificationDisagrees p token → Among (broken_by p) (fault token r.SpecificationDisagrees)
unfolding breaks
disagrees_to p _ (no_parameter {x = x} {k = k} {ty = ty} {front = b} met none) =
    met_breaks p (Specified x k ty) b (fault x.token.0 r.SpecificationDisagrees) met (go (found_in b.tables b.current x.name) none)
  where
    go : (o : Option DeclNo) → unspecified_at b.tables o ≡ None → Among (specification_breaks b x.token k ty o) (fault x.token.0 r.SpecificationDisagrees)
    go None e = here
    go (Some d) e = subst (λ z. Among (specification_breaks_of b x.token k ty d z) (fault x.token.0 r.SpecificationDisagrees)) (sym e) here
disagrees_to p _ (no_specification {x = x} {mode = w} {front = b} met there) =
    met_breaks p (Headed x) b (fault x.token.0 r.SpecificationDisagrees) met (subst (λ q. Among (heading_breaks x.token q) (fault x.token.0 r.SpecificationDisagrees)) (sym there) here)

inner_to : (p : Program) (token : ℕ) → InnerOutOfPlace p token → Among (broken_by p) (fault token r.InnerOutOfPlace)
unfolding breaks
inner_to p token (second_one {other = other} {front = b} {row = row} met opened at) =
    let y : Fault = fault token r.InnerOutOfPlace in
    met_breaks p (Inner token) b y met (subst (λ o. Among (inner_breaks b token o) y) (sym opened.current)
    (subst (λ o. Among (inner_breaks_of token o) y) (sym opened.is) (subst (λ o. Among (inner_breaks_in token o) y) (sym at) here)))
inner_to p token (elsewhere {front = b} met) = met_breaks p (BreaksMark token r.InnerOutOfPlace) b (fault token r.InnerOutOfPlace) met here

levels_to : (p : Program) (token : ℕ) → TooManyLevels p token → Among (broken_by p) (fault token r.TooManyLevels)
unfolding breaks
levels_to p _ (too_deep {k = k} {text = text} {first = first} {front = b} met deep) =
    let level : ℕ = level_in k (block_around b.tables b.current) in
    met_breaks p (Opens k text first) b (fault text r.TooManyLevels) met (to_test (nat_lt most_levels level) text r.TooManyLevels (is_less most_levels level deep))

-- of a block
row_to : (p : Program) (block : ℕ) (row : BlockOf) (y : Fault) → slice_get (with_prefixes p).blocks block ≡ Some row → Among (row_faults (with_prefixes p) block row) y → Among (prefix_faults (with_prefixes p)) y
unfolding prefix_faults faults_of
row_to p block row y at h =
    numbers_have (faults_of (with_prefixes p)) (length (with_prefixes p).blocks) block y (within (with_prefixes p).blocks block row at) (subst (λ o. Among (block_faults (with_prefixes p) block o) y) (sym at) h)

wrong_to : (p : Program) (block : ℕ) (row : BlockOf) (i : Identifier) → slice_get (with_prefixes p).blocks block ≡ Some row → row.prefix ≡ Some i → is_wrong_prefix (with_prefixes p) row ≡ true → Among (prefix_faults (with_prefixes p)) (fault i.token.0 r.PrefixIsNoClass)
unfolding row_faults
wrong_to p block row i at prefix wrong =
    let s : Tables = with_prefixes p in
    let y : Fault = fault i.token.0 r.PrefixIsNoClass in
    row_to p block row y at
    (among_left (x.where_true (is_in_own_chain s block) row.first r.ClassInItsOwnChain ++ x.where_true (breaks_cells s block) row.first r.TooManyCells)
    (subst (λ o. Among (x.where_true (breaks_prefix s row o) (prefix_token o) r.PrefixIsNoClass) y) (sym prefix) (to_row_test (is_wrong_prefix s row) i.token.0 r.PrefixIsNoClass wrong)))

prefix_to : (p : Program) (token : ℕ) → PrefixIsNoClass p token → Among (prefix_faults (with_prefixes p)) (fault token r.PrefixIsNoClass)
prefix_to p _ (no_class block {row = row} {x = i} at prefix unknown) = wrong_to p block row i at prefix (or_first (not (is_known row)) _ (not_false (is_known row) unknown))
prefix_to p _ (class_of_sets block {base = base} {row = row} {x = i} at prefix kind is_base sets) =
    let s : Tables = with_prefixes p in
    let test : ℕ → Bool = λ b. some_level s (is_kind is_standard_class s) b in
    wrong_to p block row i at prefix
    (or_second (not (is_known row)) (is_prefixed_block row.kind && holds test row.base) (and_both (is_prefixed_block row.kind) (holds test row.base) kind (ap (holds test) is_base ∙ sets)))

cycle_to : (p : Program) (token : ℕ) → ClassInItsOwnChain p token → Among (prefix_faults (with_prefixes p)) (fault token r.ClassInItsOwnChain)
unfolding row_faults
cycle_to p _ (in_a_cycle block {row = row} at cycle) =
    let s : Tables = with_prefixes p in
    row_to p block row (fault row.first r.ClassInItsOwnChain) at (among_right (x.where_true (breaks_prefix s row row.prefix) (prefix_token row.prefix) r.PrefixIsNoClass)
    (among_left (x.where_true (breaks_cells s block) row.first r.TooManyCells) (to_row_test (is_in_own_chain s block) row.first r.ClassInItsOwnChain cycle)))

cells_to : (p : Program) (token : ℕ) → TooManyCells p token → Among (prefix_faults (with_prefixes p)) (fault token r.TooManyCells)
unfolding row_faults
cells_to p _ (too_large block {row = row} at many whole) =
    let s : Tables = with_prefixes p in
    row_to p block row (fault row.first r.TooManyCells) at (among_right (x.where_true (breaks_prefix s row row.prefix) (prefix_token row.prefix) r.PrefixIsNoClass)
    (among_right (x.where_true (is_in_own_chain s block) row.first r.ClassInItsOwnChain)
    (to_row_test (breaks_cells s block) row.first r.TooManyCells (and_both (nat_lt most_cells (level_cells s block)) (not (has_broken_chain s block)) (is_less most_cells (level_cells s block) many) (not_false (has_broken_chain s block) whole)))))

double_at : (p : Program) (token : ℕ) → DeclaredTwice p token → Among (broken_by p) (fault token r.DeclaredTwice)
double_at p _ (declared_twice {m = m} {front = b} {x = x} met is) = met_breaks p m b (fault x.token.0 r.DeclaredTwice) met (twice_to m b x is)

counted_at : (p : Program) (token : ℕ) → TooManyDeclarations p token → Among (broken_by p) (fault token r.TooManyDeclarations)
counted_at p _ (one_more {m = m} {front = b} {x = x} met new many) = met_breaks p m b (fault x.token.0 r.TooManyDeclarations) met (counted_to m b x new many)

pub first_broken : (p : Program) (y : Fault) → Breaks p First y → Among (broken_by p) y ⊎ Among (prefix_faults (with_prefixes p)) y
first_broken p _ (s1 {token = t} h) = inl (double_at p t (twice_built p t h))
first_broken p _ (s2 {token = t} h) = inr (prefix_to p t h)
first_broken p _ (s3 {token = t} h) = inr (cycle_to p t h)
first_broken p _ (s4 {token = t} h) = inl (disagrees_to p t (disagrees_built p t h))
first_broken p _ (s5 {token = t} h) = inl (modes_to p t (modes_built p t h))
first_broken p _ (s6 {token = t} h) = inl (inner_to p t (inner_built p t h))
first_broken p _ (l1 {token = t} h) = inl (levels_to p t (levels_built p t h))
first_broken p _ (l2 {token = t} h) = inr (cells_to p t h)
first_broken p _ (l3 {token = t} h) = inl (counted_at p t (many_built p t h))
