-- The rows of a source stand in the order of its text.
use Rattle.std.proofs.Common.{◌≡◌, ◌<◌, arith, ℕ, ◌+◌, Bool, true, false, cond, if◌then◌else◌, List, [], ◌∷◌, ◌++◌, Option, Some, None, length, length-append, map, refl, sym, ap, ◌∙◌, subst, append_assoc}
use Rattle.std.proofs.lemmas.List.Elements.{All-cons, All-nil}
use Rattle.std.proofs.lemmas.List.Kept.{AllPairs-cons}
use Rattle.std.specs.List.{All, AllByRecursion, AllPairs, filter}
use Rattle.std.specs.Prelude.{not, slice_get}
use Rattle.sim_base.specs.declared.token.Token.{Token}
use Rattle.sim_scope.specs.Access.{is_kind}
use Rattle.sim_scope.specs.Declare.{declared_by, declaring, empty}
use Rattle.sim_scope.specs.Scopes.{entry_in, entry_of}
use Rattle.sim_scope.specs.Source.{Source, source_of}
use Rattle.sim_scope.specs.Tables.{Tables}
use Rattle.sim_scope.specs.Walk.{program_events}
use Rattle.sim_scope.specs.declared.bound.Bound.{Bound}
use Rattle.sim_scope.specs.declared.found.Fault.{Fault}
use Rattle.sim_scope.specs.declared.scopes.Declaration.{Declaration}
use Rattle.sim_scope.specs.declared.types.Entry.{Entry}
use Rattle.sim_scope.specs.declared.types.Entry.TheVariants as entry
use Rattle.sim_scope.specs.Found.{Findings}
use Rattle.sim_static.specs.Check.{Allowed, Checked, IsBound, Refused, answer, completed, first_answer, first_least, judged, last_answer, second_answer, second_least}
use Rattle.sim_tree.specs.Named.{IsAscending}
use Rattle.sim_tree.specs.Syntax.{Program}
use Rattle.sim_tree.specs.SyntaxOfProgram.{program_syntax}
use Rattle.sim_tree.specs.Tree.{IsTree}
use Rattle.sim_xref.specs.Rows.{RowOf, all_rows_of, is_brought, is_of_source, row, rows_from, rows_of}
use Rattle.xref_order.specs.Declared.{declared_tokens}
use Rattle.xref_order.specs.Order.{InFront}
use Rattle.xref_order.proofs.Completing.{completed_quiet}
use Rattle.xref_order.proofs.Declaring.{declared_ascend}
use Rattle.xref_order.proofs.Marks.{marks_add}
use Rattle.xref_order.proofs.OwnRows.{Some_of, along, ascend, brought, own_of, own_rows}

-- ---- rows are those of the source's own declarations

middle : (front : List Declaration) (d : Declaration) (rest : List Declaration) → slice_get (front ++ d ∷ rest) (length front) ≡ Some d
middle [] d rest = refl
middle (x ∷ front) d rest = middle front d rest

brought_is : (s : Tables) (e : Entry) → is_brought s (Some e) ≡ brought s.blocks e
unfolding is_kind
brought_is s (entry.Class n) = refl
brought_is s (entry.Attribute name parameter result) = refl
brought_is s _ = refl

abbrev row_token : RowOf → ℕ
row_token r = r.token.0

abbrev is_own : Source → RowOf → Bool
is_own s r = is_of_source s.tables r.decl

own_tokens : (s : Source) (front ds : List Declaration) → s.tables.declarations ≡ front ++ ds → map row_token (filter (is_own s) (rows_from s (length front) ds)) ≡ own_rows s.tables.blocks ds
unfolding is_of_source entry_of
own_tokens s front [] e = refl
own_tokens s front (d ∷ ds) e =
    let there : slice_get s.tables.declarations (length front) ≡ Some d = ap (λ l. slice_get l (length front)) e ∙ middle front d ds in
    let test : is_brought s.tables (entry_in (slice_get s.tables.declarations (length front))) ≡ brought s.tables.blocks d.entry = ap (λ o. is_brought s.tables (entry_in o)) there ∙ brought_is s.tables d.entry in
    let longer : length (front ++ d ∷ []) ≡ length front + 1 = length-append front (d ∷ []) in
    let more = own_tokens s (front ++ d ∷ []) ds (e ∙ sym (append_assoc front (d ∷ []) ds)) in
    let rest : map row_token (filter (is_own s) (rows_from s (length front + 1) ds)) ≡ own_rows s.tables.blocks ds = ap (λ n. map row_token (filter (is_own s) (rows_from s n ds))) (sym longer) ∙ more in
    let others = filter (is_own s) (rows_from s (length front + 1) ds) in
    ap (λ b. map row_token (cond (not b) (row s (length front) d ∷ others) others)) test ∙ by (brought s.tables.blocks d.entry) (row s (length front) d) others (own_rows s.tables.blocks ds) rest
  where
    by : (b : Bool) (r : RowOf) (others : List RowOf) (l : List ℕ) → map row_token others ≡ l → map row_token (cond (not b) (r ∷ others) others) ≡ (if b then l else r.token.0 ∷ l)
    by true r others l e = e
    by false r others l e = ap (λ z. r.token.0 ∷ z) e

rows_tokens : (s : Source) → map row_token (rows_of s) ≡ own_of s.tables
unfolding rows_of all_rows_of
rows_tokens s = own_tokens s [] s.tables.declarations refl

-- ---- pairs of rows

all_behind : (r : RowOf) (rows : List RowOf) → AllByRecursion (λ y. r.token.0 < y) (map row_token rows) → All (InFront r) rows
all_behind r [] all = All-nil (InFront r)
all_behind r (q ∷ rows) all = All-cons (InFront r) q rows all.0 (all_behind r rows all.1)

pairs : (rows : List RowOf) → IsAscending (map row_token rows) → AllPairs InFront rows
pairs [] h = λ i j d less lt. absurd (omega (arith, lt))
pairs (r ∷ rows) h = AllPairs-cons InFront r rows (all_behind r rows h.0) (pairs rows h.1)

-- ---- the tables of a program that is allowed

abbrev Completed : Program → Checked → Type 0
Completed p (Refused fault) = Unit {0}
Completed p (Allowed tables uses found_in types) = tables ≡ completed (declared_by p).tables p

last_completed : (p : Program) (tables : Tables) (f : Findings) (o : Option Fault) → tables ≡ completed (declared_by p).tables p → Completed p (last_answer tables f o)
last_completed p tables f (Some fault) e = tt
last_completed p tables f None e = e

second_completed : (n : ℕ) (p : Program) (o : Option Fault) → Completed p (second_answer n p (completed (declared_by p).tables p) o)
second_completed n p (Some fault) = tt
second_completed n p None =
    let tables = completed (declared_by p).tables p in last_completed p tables (judged n tables p) (judged n tables p).least refl

first_completed : (n : ℕ) (p : Program) (o : Option Fault) → Completed p (first_answer n p (declared_by p).tables o)
first_completed n p (Some fault) = tt
first_completed n p None = second_completed n p (second_least (completed (declared_by p).tables p))

tables_completed : (b : Bound) → IsBound b → b.scopes ≡ completed (declared_by (program_syntax b.program)).tables (program_syntax b.program)
unfolding IsBound answer
tables_completed b is =
    let p = program_syntax b.program in subst (Completed p) is (first_completed (length b.program.lines.items) p (first_least (declared_by p)))

declared_own : (p : Program) → Some_of (own_of (declared_by p).tables) (declared_tokens p)
unfolding declared_by
declared_own p = marks_add empty (program_events declaring p)

pub rows_in_front : (tokens : List Token) (b : Bound) → IsTree tokens b.program → IsBound b → AllPairs InFront (rows_of (source_of b))
unfolding source_of
rows_in_front tokens b tree is =
    let p = program_syntax b.program in
    let own : Some_of (own_of b.scopes) (declared_tokens p) =
    subst (λ s. Some_of (own_of s) (declared_tokens p)) (sym (tables_completed b is)) (along (completed_quiet (declared_by p).tables p) (declared_own p)) in
    pairs (rows_of (source_of b)) (subst IsAscending (sym (rows_tokens (source_of b))) (ascend own (declared_ascend tokens b.program tree)))
