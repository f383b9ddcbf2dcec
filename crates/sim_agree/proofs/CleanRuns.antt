-- Mark by mark, where no rule on declarations is broken: what a program declares comes into its tables.
use Rattle.std.proofs.Common.{◌≡◌, ◌<◌, ◌≤◌, ◌⊎◌, inl, inr, ℕ, Bool, true, false, List, [], ◌∷◌, ◌++◌, length, Option, Some, None, refl, sym, ap, ◌∙◌, subst, arith, append-nil, append_assoc}
use Rattle.std.specs.Prelude.{nat_lt, slice_get, slice_set}
use Rattle.std.proofs.lemmas.Option.{slice_get_within}
use Rattle.sim_base.specs.declared.numbering.DeclNo.{DeclNo}
use Rattle.sim_base.specs.declared.rule.Rule.{Rule}
use Rattle.sim_base.specs.declared.rule.Rule.TheVariants as r
use Rattle.sim_tree.specs.declared.expr.Identifier.{Identifier}
use Rattle.sim_tree.specs.declared.stmt.TypeName.{TypeName}
use Rattle.sim_tree.specs.Syntax.{Declarations, Heading, Statement, Statements}
use Rattle.sim_scope.specs.declared.scopes.Declaration.{Declaration}
use Rattle.sim_scope.specs.declared.types.BlockKind.{BlockKind}
use Rattle.sim_scope.specs.declared.types.BlockKind.TheVariants as kind
use Rattle.sim_scope.specs.declared.types.Entry.{Entry}
use Rattle.sim_scope.specs.declared.types.Entry.TheVariants as entry
use Rattle.sim_scope.specs.declared.types.FormalKind.{FormalKind}
use Rattle.sim_scope.specs.declared.types.SimType.{SimType}
use Rattle.sim_scope.specs.declared.types.StandardPrefix.{StandardPrefix}
use Rattle.sim_scope.specs.declared.types.StandardPrefix.TheVariants as prefix
use Rattle.sim_scope.specs.Building.{BuildingOf, Declares, Headed, Mark, Opens, block_around, broken, broken_if, changed, closed, closed_at, declared, formal, found_in, guards, headed as headed_of, holding_class, inner, level_in, marked, most_levels, opened, parameter as parameter_of, placed, prefixed_by, row_of as new_row, specified as specified_of, unspecified_at}
use Rattle.sim_scope.specs.Declare.{headed_marks, result_named}
use Rattle.sim_scope.specs.Found.{fault}
use Rattle.sim_scope.specs.Runs.{each, run}
use Rattle.sim_scope.specs.Access.{around}
use Rattle.sim_scope.specs.Tables.{BlockOf}
use Rattle.sim_scope.proofs.Kept.{kept_set, more_here}
use Rattle.sim_meaning.specs.Entries.{numbers_in}
use Rattle.sim_sound.specs.Held.{Among}
use Rattle.sim_meaning.specs.Texts.{BlockText, ClassText, ConnectionText, ProcedureText, Text, PrefixedText}
use Rattle.sim_agree.proofs.ByNames.{ByNames, OfName, changed_rows, closed_rows, declared_names, guards_rows, inner_rows, moded_names, opened_names, parameter_names, rows_stay, specified_names}
use Rattle.sim_agree.proofs.Calm.{class_calm, declared_calm, inner_calm, moded_calm, specified_calm, prefix_calm, guards_calm}
use Rattle.sim_agree.proofs.Groups.{AreReferences, Grouped, Has, NoBreaks, NoHeaded, OfReferences, Open, OwnEntry, Quals, block, breaks_rule, closes, connects, declared_in_text, declares, declares_class, headed, here, inner_mark, item, moded, nothing, own_marks, parameter, procedure, qualifies, specified, specifies_virtual, there, unqualified, prefixes, guarded, prefixed_block, standard_block, standard_class, whole_prefix}
use Rattle.sim_agree.proofs.Steps.{IsParameter, Nothing, Step}
use Rattle.sim_agree.proofs.Marks.{Declared, class_step, declared_latest, declared_step, headed_step, inner_step, last_cases, met, moded_step, own_unmatched, parameter_step, procedure_unmatched, quals_step, rule_step, specified_met, prefix_step, guards_step, virtual_unmatched}
use Rattle.sim_agree.proofs.Fine.{Agree, Fine, KindIs, Stack, With, begun_keeps, more_text, names_found, same_around, step_fine}
use Rattle.sim_agree.proofs.FineBlocks.{closed_agrees, fresh}
use Rattle.sim_agree.proofs.FineRuns.{Owes, block_agrees, class_agrees, declares_agrees, owes_heading, owes_none, parameter_agrees, procedure_agrees, quals_rows, quiet_agrees, run_both, standard_run_agree, step_agrees, prefix_kind, virtual_agrees}
use Rattle.sim_agree.proofs.Owned.{Owned, closed_owned, opened_owned, owned_step}
use Rattle.sim_agree.proofs.Covered.{Covered, closed_covers, covered_stays, declared_alone, declared_covered, holding_refs, inner_covers, moded_covers, opened_least, opened_same, specified_covered, prefix_covers, guards_covers}
use Rattle.sim_agree.proofs.Clean.{Clean, Counts, Made, Origin, OwedAt, RowFor, SpecifiedRow, WrittenFor, declared_clean, declared_refs, headed_clean, holding_same, if_clean, inner_quiet, moded_quiet, never_none, out, owed_kept, quals_clean, quals_least, quiet_clean, some_same, specified_at, specified_latest, specified_quiet, prefix_quiet, guards_quiet}
use Rattle.sim_agree.proofs.OwnedRuns.{class_owned, procedure_owned}
use Rattle.sim_agree.proofs.BroughtClean as brought
use Rattle.sim_agree.proofs.BroughtRows.{marks_are}
use Rattle.sim_agree.proofs.BroughtRuns.{FreshTop, brought_is, opened_top}
use Rattle.sim_agree.proofs.StandardPrefixes.{InFront, Spells, brought_texts}
use Rattle.sim_agree.proofs.CleanSteps.{counted_same, declares_clean, headed_step_clean, named_clean, parameter_clean, virtual_clean}

-- ---- a block begins

-- what is owed when a text begins
abbrev Begins : Text → List Mark → Type 0
Begins x owed = (y : Identifier) (e : Entry) → Has (Declares y e) (own_marks (declared_in_text x)) → Has (Declares y e) owed

begun_clean : (b : BuildingOf) (new : BlockOf) (places : List (Option ℕ)) (ts : List Text) (x : Text) (owed : List Mark) (os : List Open) → new.encloser ≡ b.current → new.numbers ≡ [] → new.formals ≡ 0 → Begins x owed
    → Fine b ts os → Clean b ts os → Clean (With b new places ts x) (ts ++ x ∷ []) (item x owed ∷ os)
begun_clean b new places ts x owed os around_is none uncounted begins g f = record {
  complete = λ m z at y e has. complete m z y e has (last_cases ts x m z at);
  heads = λ d row w at is. (let q = f.heads d row w at is in (q.0, q.1, inr (moved row.block (Headed q.0) q.2), q.3));
  early = λ m y q d row at is l. early m y d row at is l q;
  counts = λ m row at. counts m row (last_cases bs new m row at);
  refs = f.refs;
  origins = λ q z row ty n at is e. grown row z.class (f.origins q z row ty n at is e);
}
  where
    bs : List BlockOf
    bs = b.tables.blocks

    cs : List BlockOf
    cs = b.tables.blocks ++ new ∷ []

    keep : (n : ℕ) (y : Text) → slice_get ts n ≡ Some y → around (slice_get cs n) ≡ around (slice_get bs n)
    keep n y is = same_around (slice_get cs n) (slice_get bs n) (begun_keeps b new places ts x os g n y is).0

    grown : (row : Declaration) (class : Identifier) → WrittenFor ts row class → WrittenFor (ts ++ x ∷ []) row class
    grown row class w = record { text = w.text; at = (begun_keeps b new places ts x os g row.block w.text w.at).1; name = w.name; token = w.token; written = w.written }

    keep_back : (n : ℕ) (y : Text) → slice_get ts n ≡ Some y → around (slice_get bs n) ≡ around (slice_get cs n)
    keep_back n y is = sym (keep n y is)

    under : out cs (Some (length bs)) ≡ b.current
    under = ap around (more_here bs new) ∙ around_is

    moved : (n : ℕ) (m : Mark) → OwedAt bs b.current os n m → OwedAt cs (out cs (Some (length bs))) os n m
    moved n m q = subst (λ z. OwedAt cs z os n m) (sym under) (owed_kept bs cs ts keep os b.current n m g.stack q)

    stack_here : Stack cs ts b.current os
    stack_here = stack_more os b.current g.stack
      where
        stack_more : (os : List Open) (current : Option ℕ) → Stack bs ts current os → Stack cs ts current os
        stack_more [] current h = h
        stack_more (o ∷ os) current h = (h.0, h.1, h.2, subst (λ z. Stack cs ts z os) (sym (keep h.0 o.text h.2)) (stack_more os (around (slice_get bs h.0)) h.3))

    was : (n : ℕ) (m : Mark) → OwedAt cs (out cs (Some (length bs))) os n m → OwedAt bs b.current os n m
    was n m q = owed_kept cs bs ts keep_back os b.current n m stack_here (subst (λ z. OwedAt cs z os n m) under q)

    complete : (m : ℕ) (z : Text) (y : Identifier) (e : Entry) → Has (Declares y e) (own_marks (declared_in_text z)) → (slice_get ts m ≡ Some z) ⊎ ((m ≡ length ts) × (x ≡ z))
        → RowFor (With b new places ts x) m y e ⊎ OwedAt cs (Some (length bs)) (item x owed ∷ os) m (Declares y e)
    complete m z y e has (inl q) = go (f.complete m z q y e has)
      where
        go : RowFor b m y e ⊎ OwedAt bs b.current os m (Declares y e) → RowFor (With b new places ts x) m y e ⊎ OwedAt cs (Some (length bs)) (item x owed ∷ os) m (Declares y e)
        go (inl p) = inl (record { number = p.number; row = p.row; at = p.at; name = p.name; token = p.token; block = p.block; entry = p.entry; own = p.own })
        go (inr p) = inr (inr (moved m (Declares y e) p))
    complete m z y e has (inr q) =
        let here_now : length bs ≡ m = g.size ∙ sym q.0 in
        inr (inl (ap Some here_now, begins y e (subst (λ w. Has (Declares y e) (own_marks (declared_in_text w))) (sym q.1) has)))

    -- a declaration stands in an earlier block
    earlier : (d : ℕ) (row : Declaration) → slice_get b.tables.declarations d ≡ Some row → row.listed ≡ true → row.block < length bs
    earlier d row at l = go (slice_get bs row.block) refl (g.listed d row at l)
      where
        go : (o : Option BlockOf) → slice_get bs row.block ≡ o → Among (record { 0 = d }) (numbers_in o) → row.block < length bs
        go None is a = absurd (elim a [ ])
        go (Some found) is a = slice_get_within bs row.block found is

    early : (m : ℕ) (y : Identifier) (d : ℕ) (row : Declaration) → slice_get b.tables.declarations d ≡ Some row → row.block ≡ m → row.listed ≡ true → OwedAt cs (Some (length bs)) (item x owed ∷ os) m (Headed y) → IsParameter row.entry
    early m y d row at is l (inl q) = let lt : row.block < length bs = earlier d row at l in let e : length bs ≡ m = some_same (length bs) m q.0 in absurd (omega (arith, is))
    early m y d row at is l (inr q) = f.early m y (was m (Headed y) q) d row at is l

    counts : (m : ℕ) (row : BlockOf) → (slice_get bs m ≡ Some row) ⊎ ((m ≡ length bs) × (new ≡ row)) → Counts b.tables.declarations row
    counts m row (inl q) = f.counts m row q
    counts m row (inr q) = subst (Counts b.tables.declarations) q.1 (record {
      fits = omega (arith, uncounted);
      front = λ n d r p t lt. absurd (let e : slice_get no_numbers n ≡ Some d = ap (λ z. slice_get z n) (sym none) ∙ p in nothing_there n d e);
      back = λ n d r p t param. absurd (let e : slice_get no_numbers n ≡ Some d = ap (λ z. slice_get z n) (sym none) ∙ p in nothing_there n d e);
    })
      where
        no_numbers : List DeclNo
        no_numbers = []

        nothing_there : (n : ℕ) (d : DeclNo) → slice_get no_numbers n ≡ Some d → ⊥
        nothing_there n d e = cc

if_cleans : (a : Bool) (b : BuildingOf) (token : ℕ) (rule : Rule) (ts : List Text) (os : List Open) → Clean b ts os → Clean (broken_if a b token rule) ts os
if_cleans true b token rule ts os f = record {
  complete = λ n x at y e has. rows n y e (f.complete n x at y e has);
  heads = f.heads;
  early = f.early;
  counts = f.counts;
  refs = f.refs;
  origins = f.origins;
}
  where
    rows : (n : ℕ) (x : Identifier) (e : Entry) → RowFor b n x e ⊎ OwedAt b.tables.blocks b.current os n (Declares x e) → RowFor (broken b token rule) n x e ⊎ OwedAt b.tables.blocks b.current os n (Declares x e)
    rows n x e (inl p) = inl (record { number = p.number; row = p.row; at = p.at; name = p.name; token = p.token; block = p.block; entry = p.entry; own = p.own })
    rows n x e (inr q) = inr q
if_cleans false b token rule ts os f = f

opened_clean : (b : BuildingOf) (k : BlockKind) (text first : ℕ) (ts : List Text) (x : Text) (owed : List Mark) (os : List Open) → Begins x owed → Fine b ts os → (opened b k text first).least ≡ None
    → (b.least ≡ None) × (Clean b ts os → Clean (opened b k text first) (ts ++ x ∷ []) (item x owed ∷ os))
opened_clean b k text first ts x owed os begins g clean =
    let level : ℕ = level_in k (block_around b.tables b.current) in
    let c : BuildingOf = With b (fresh b k first) (placed b.tables b.current first).places ts x in
    let q = if_clean (nat_lt most_levels level) c text r.TooManyLevels clean in
    (q.1, λ f. if_cleans (nat_lt most_levels level) c text r.TooManyLevels (ts ++ x ∷ []) (item x owed ∷ os) (begun_clean b (fresh b k first) (placed b.tables b.current first).places ts x owed os refl refl refl begins g f))

-- ---- a block ends

abbrev pair : Option BlockOf → Option (ℕ × List DeclNo)
pair None = None
pair (Some row) = Some (row.formals, row.numbers)

pair_row : (o : Option BlockOf) (new : BlockOf) → pair o ≡ pair (Some new) → (old : BlockOf) × (o ≡ Some old) × (old.formals ≡ new.formals) × (old.numbers ≡ new.numbers)
pair_row None new e = absurd (cc)
pair_row (Some old) new e =
    let both : (old.formals, old.numbers) ≡ (new.formals, new.numbers) = some_same {A = ℕ × List DeclNo} (old.formals, old.numbers) (new.formals, new.numbers) e in
    (old, refl, ap (λ (z : ℕ × List DeclNo). z.0) both, ap (λ (z : ℕ × List DeclNo). z.1) both)

same_counts : (ds : List Declaration) (old new : BlockOf) → old.formals ≡ new.formals → old.numbers ≡ new.numbers → Counts ds old → Counts ds new
same_counts ds old new formals numbers k = record {
  fits = (let le : old.formals ≤ length old.numbers = k.fits in let e : length old.numbers ≡ length new.numbers = ap length numbers in omega (arith, formals));
  front = λ n d r p t lt. k.front n d r (ap (λ z. slice_get z n) numbers ∙ p) t (omega (arith, formals, lt));
  back = λ n d r p t param. (let lt : n < old.formals = k.back n d r (ap (λ z. slice_get z n) numbers ∙ p) t param in omega (arith, formals));
}

closed_row : (b : BuildingOf) (end n : ℕ) (o : Option BlockOf) (ts : List Text) (x : Text) (os : List Open) → b.current ≡ Some n → slice_get b.tables.blocks n ≡ o → Stack b.tables.blocks ts (around (slice_get b.tables.blocks n)) os
    → (closed_at b end n o).least ≡ None → (b.least ≡ None) × ((row : BlockOf) → o ≡ Some row → Clean b ts (item x [] ∷ os) → Clean (closed_at b end n o) ts os)
closed_row b end n None ts x os cur at k clean = (clean, λ row is f. absurd (cc))
closed_row b end n (Some row) ts x os cur at k clean = (
  clean,
  λ found is f. record {
    complete = λ m z top y e has. complete m y e (f.complete m z top y e has);
    heads = λ d found w a is. heads found (f.heads d found w a is);
    early = λ m y q. f.early m y (was m (Headed y) q);
    counts = λ m found at'. (let q = pair_row (slice_get bs m) found (sym (kept_set pair bs n row new at refl m) ∙ ap pair at') in same_counts b.tables.declarations q.0 found q.2 q.3 (f.counts m q.0 q.1));
    refs = f.refs;
    origins = f.origins;
  },
)
  where
    bs : List BlockOf
    bs = b.tables.blocks

    new : BlockOf
    new = record row { end = end }

    cs : List BlockOf
    cs = slice_set b.tables.blocks n (record row { end = end })

    keep : (j : ℕ) (y : Text) → slice_get ts j ≡ Some y → around (slice_get cs j) ≡ around (slice_get bs j)
    keep j y is = kept_set around bs n row new at refl j

    keep_back : (j : ℕ) (y : Text) → slice_get ts j ≡ Some y → around (slice_get bs j) ≡ around (slice_get cs j)
    keep_back j y is = sym (keep j y is)

    moved : (j : ℕ) (m : Mark) → OwedAt bs b.current (item x [] ∷ os) j m → OwedAt cs row.encloser os j m
    moved j m (inl q) = absurd (elim q.1 [ ])
    moved j m (inr q) =
        let e : out bs b.current ≡ around (slice_get bs n) = ap (out bs) cur in
        subst (λ z. OwedAt cs z os j m) (ap around at) (owed_kept bs cs ts keep os (around (slice_get bs n)) j m k (subst (λ z. OwedAt bs z os j m) e q))

    stack_here : Stack cs ts (around (slice_get bs n)) os
    stack_here = stack_more os (around (slice_get bs n)) k
      where
        stack_more : (os : List Open) (current : Option ℕ) → Stack bs ts current os → Stack cs ts current os
        stack_more [] current h = h
        stack_more (o ∷ os) current h = (h.0, h.1, h.2, subst (λ z. Stack cs ts z os) (sym (keep h.0 o.text h.2)) (stack_more os (around (slice_get bs h.0)) h.3))

    was : (j : ℕ) (m : Mark) → OwedAt cs row.encloser os j m → OwedAt bs b.current (item x [] ∷ os) j m
    was j m q =
        let e : out bs b.current ≡ around (slice_get bs n) = ap (out bs) cur in
        inr (subst (λ z. OwedAt bs z os j m) (sym e) (owed_kept cs bs ts keep_back os (around (slice_get bs n)) j m stack_here (subst (λ z. OwedAt cs z os j m) (sym (ap around at)) q)))

    complete : (m : ℕ) (y : Identifier) (e : Entry) → RowFor b m y e ⊎ OwedAt bs b.current (item x [] ∷ os) m (Declares y e) → RowFor (closed_at b end n (Some row)) m y e ⊎ OwedAt cs row.encloser os m (Declares y e)
    complete m y e (inl p) = inl (record { number = p.number; row = p.row; at = p.at; name = p.name; token = p.token; block = p.block; entry = p.entry; own = p.own })
    complete m y e (inr q) = inr (moved m (Declares y e) q)

    heads : (found : Declaration) → (y : Identifier) × (y.name ≡ found.name) × OwedAt bs b.current (item x [] ∷ os) found.block (Headed y) × (found.listed ≡ true) → (y : Identifier) × (y.name ≡ found.name) × OwedAt cs row.encloser os found.block (Headed y) × (found.listed ≡ true)
    heads found q = (q.0, q.1, moved found.block (Headed q.0) q.2, q.3)

closed_clean : (b : BuildingOf) (end : ℕ) (ts : List Text) (x : Text) (os : List Open) (row : BlockOf) → (g : Fine b ts (item x [] ∷ os)) → slice_get b.tables.blocks (g.stack.0) ≡ Some row → (closed b end b.current).least ≡ None
    → (b.least ≡ None) × (Clean b ts (item x [] ∷ os) → Clean (closed b end b.current) ts os)
closed_clean b end ts x os row g at clean =
    subst (λ o. (b.least ≡ None) × (Clean b ts (item x [] ∷ os) → Clean (closed b end o) ts os)) (sym g.stack.1)
    (let q = closed_row b end g.stack.0 (slice_get b.tables.blocks g.stack.0) ts x os g.stack.1 refl g.stack.3 (subst (λ o. (closed b end o).least ≡ None) g.stack.1 clean) in (q.0, q.1 row at))

-- ---- a procedure or a class is declared, and its block begins

-- behind the ends of a heading the declarations of a class are owed
begins_heading : (x : Text) (ys : List Identifier) (owed : List Mark) → Begins x owed → Begins x (each headed_marks ys ++ owed)
unfolding headed_marks
begins_heading x [] owed w y e h = w y e h
begins_heading x (z ∷ ys) owed w y e h = there (begins_heading x ys owed w y e h)

begins_none : (result : Option TypeName) (h : Heading) (a : Statement) → Begins (ProcedureText result h a) []
begins_none result h a y e q = q

procedure_clean : (b : BuildingOf) (text first : ℕ) (x : Text) (owed inner quals : List Mark) (result : Option TypeName) (h : Heading) (a : Statement) (ts : List Text) (os : List Open) (row : BlockOf) → NoHeaded owed → Quals (AreReferences (result_named result)) quals
    → Begins (ProcedureText result h a) inner → (f : Fine b ts (item x owed ∷ os)) → slice_get b.tables.blocks f.stack.0 ≡ Some row
    → (opened (run marked (declared b h.name (entry.Procedure (result_named result) (length b.tables.blocks))) quals) kind.Procedure text first).least ≡ None
    → (b.least ≡ None) × (Clean b ts (item x owed ∷ os) → Clean (opened (run marked (declared b h.name (entry.Procedure (result_named result) (length b.tables.blocks))) quals) kind.Procedure text first) (ts ++ ProcedureText result h a ∷ []) (item (ProcedureText result h a) inner ∷ item x owed ∷ os))
procedure_clean b text first x owed inner quals result h a ts os row free q begins f at clean =
    let p = opened_clean c kind.Procedure text first ts (ProcedureText result h a) inner (item x owed ∷ os) begins fine clean in
    let d = declared_clean b h.name e n row f.stack.1 at (sym (quals_least c0 (AreReferences (result_named result)) quals q) ∙ p.0) in (
      d.0,
      λ g. p.1 (quals_clean c0 (AreReferences (result_named result)) quals ts (item x owed ∷ os) q (last d.1) (origin d.1)
          (named_clean b c0 h.name e n ts x owed os s (declared_calm b h.name e).spans (declared_refs b h.name e n f.stack.1) (λ i. i) free f.stack.1 f g)),
    )
  where
    n : ℕ
    n = f.stack.0

    e : Entry
    e = entry.Procedure (result_named result) (length b.tables.blocks)

    c0 : BuildingOf
    c0 = declared b h.name e

    c : BuildingOf
    c = run marked c0 quals

    s : Step b c0 (Declared (length b.tables.declarations) h.name e n)
    s = declared_step b h.name e n (procedure_unmatched (result_named result) (length b.tables.blocks)) f.stack.1

    fine : Fine c ts (item x owed ∷ os)
    fine = step_fine b c (Declared (length b.tables.declarations) h.name e n) (quals_step b c0 (Declared (length b.tables.declarations) h.name e n) (AreReferences (result_named result)) quals q s) ts (item x owed ∷ os) f

    last : Made b h.name e n c0 → AreReferences (result_named result) → (d : DeclNo) × (c0.latest ≡ Some d) × (found : Declaration) × (slice_get c0.tables.declarations d.0 ≡ Some found) × OfReferences found.entry
    last m refs = (record { 0 = length b.tables.declarations }, declared_latest b h.name e n (new_row h.name e n m.0) f.stack.1 m.1, new_row h.name e n m.0, m.1, refs)

    -- a procedure is no array
    origin : Made b h.name e n c0 → Origin c0 quals ts
    origin m class are v is found ty i known array =
        let same : record { 0 = length b.tables.declarations } ≡ v = some_same (record { 0 = length b.tables.declarations }) v (sym (declared_latest b h.name e n (new_row h.name e n m.0) f.stack.1 m.1) ∙ is) in
        let one : new_row h.name e n m.0 ≡ found = some_same (new_row h.name e n m.0) found (sym m.1 ∙ subst (λ (z : DeclNo). slice_get c0.tables.declarations z.0 ≡ Some found) (sym same) known) in
        absurd (let other : entry.Procedure (result_named result) (length b.tables.blocks) ≡ entry.Array ty i = ap (λ (z : Declaration). z.entry) one ∙ array in cc)

class_clean : (b : BuildingOf) (text first : ℕ) (x : Text) (owed inner : List Mark) (prefix : Option Identifier) (h : Heading) (ds : Declarations) (ss : Statements) (ts : List Text) (os : List Open) (row : BlockOf) → NoHeaded owed
    → Begins (ClassText prefix h ds ss) inner → (f : Fine b ts (item x owed ∷ os)) → slice_get b.tables.blocks f.stack.0 ≡ Some row
    → (opened (changed (declared b h.name (entry.Class (length b.tables.blocks))) holding_class b.current) kind.Class text first).least ≡ None
    → (b.least ≡ None) × (Clean b ts (item x owed ∷ os) → Clean (opened (changed (declared b h.name (entry.Class (length b.tables.blocks))) holding_class b.current) kind.Class text first) (ts ++ ClassText prefix h ds ss ∷ []) (item (ClassText prefix h ds ss) inner ∷ item x owed ∷ os))
class_clean b text first x owed inner prefix h ds ss ts os row free begins f at clean =
    let p = opened_clean c kind.Class text first ts (ClassText prefix h ds ss) inner (item x owed ∷ os) begins fine clean in
    let d = declared_clean b h.name e n row f.stack.1 at (sym held.0 ∙ p.0) in
    (d.0, λ g. p.1 (named_clean b c h.name e n ts x owed os s (class_calm b h.name e b.current).spans (held.1 ∙ declared_refs b h.name e n f.stack.1) (λ i. i) free f.stack.1 f g))
  where
    n : ℕ
    n = f.stack.0

    e : Entry
    e = entry.Class (length b.tables.blocks)

    c0 : BuildingOf
    c0 = declared b h.name e

    c : BuildingOf
    c = changed c0 holding_class b.current

    held : (c.least ≡ c0.least) × (c.tables.qualifications ≡ c0.tables.qualifications) × (c.tables.declarations ≡ c0.tables.declarations)
    held = holding_same c0 b.current

    s : Step b c (Declared (length b.tables.declarations) h.name e n)
    s = class_step b h.name (length b.tables.blocks) n f.stack.1

    fine : Fine c ts (item x owed ∷ os)
    fine = step_fine b c (Declared (length b.tables.declarations) h.name e n) s ts (item x owed ∷ os) f

-- ---- the whole

-- a text has a row
row_of : (b : BuildingOf) (ts : List Text) (os : List Open) → Fine b ts os → (n : ℕ) (x : Text) → slice_get ts n ≡ Some x → (row : BlockOf) × (slice_get b.tables.blocks n ≡ Some row)
row_of b ts os f n x is = go (slice_get b.tables.blocks n) refl (subst (λ z. KindIs (slice_get b.tables.blocks n) z) is (f.kinds n))
  where
    go : (o : Option BlockOf) → slice_get b.tables.blocks n ≡ o → KindIs (slice_get b.tables.blocks n) (Some x) → (row : BlockOf) × (slice_get b.tables.blocks n ≡ Some row)
    go (Some row) e k = (row, e)
    go None e k = absurd (none (subst (λ z. KindIs z (Some x)) e k))
      where
        none : KindIs None (Some x) → ⊥
        none k = k

quals_unbroken : (R : Type 0) (quals ms : List Mark) → Quals R quals → NoBreaks ms → NoBreaks (quals ++ ms)
quals_unbroken R quals ms (unqualified free) h = h
quals_unbroken R quals ms (qualifies x q) h = h

-- a formal parameter is no array that is declared
no_origin : (c : BuildingOf) (d : DeclNo) (k : FormalKind) (ty : Option SimType) (quals : List Mark) (ts : List Text) → c.latest ≡ Some d → SpecifiedRow c d k ty → Origin c quals ts
no_origin c d k ty quals ts last p class are v is found a n known array =
    let same : d ≡ v = some_same d v (sym last ∙ is) in
    let one : p.row ≡ found = some_same p.row found (sym p.at ∙ subst (λ (z : DeclNo). slice_get c.tables.declarations z.0 ≡ Some found) (sym same) known) in
    absurd (let other : formal p.mode k ty ≡ entry.Array a n = sym p.entry ∙ ap (λ (z : Declaration). z.entry) one ∙ array in cc)

-- a standard prefix in front of the innermost block, which has just begun
module _ (p : StandardPrefix) (c : BuildingOf) (top : FreshTop c) (token : ℕ) (y : Identifier) (x : Text) (owed : List Mark) (ts : List Text) (os : List Open) (spelt : Spells p y) (in_front : InFront p x) (a : Agree c ts (item x owed ∷ os)) where
  standard_least : (run marked c (whole_prefix p token y)).least ≡ None → c.least ≡ None
  standard_least e = sym (ap (λ (k : BuildingOf). k.least) (brought_is p c top token y)) ∙ e

  standard_clean : Clean c ts (item x owed ∷ os) → Clean (run marked c (whole_prefix p token y)) (ts ++ brought_texts p) (item x owed ∷ os)
  standard_clean f = subst (λ d. Clean d (ts ++ brought_texts p) (item x owed ∷ os)) (sym (brought_is p c top token y)) (brought.standard_clean p y spelt c top.number token top.row top.last top.at ts x owed os a.fine top.current in_front f)

  standard_covered : Covered c → Covered (run marked c (whole_prefix p token y))
  standard_covered v = subst Covered (sym (brought_is p c top token y)) (brought.standard_covered p y spelt c top.number token top.row top.last top.at ts x owed os a.fine top.current in_front v)

  standard_owned : Owned c ts → Owned (run marked c (whole_prefix p token y)) (ts ++ brought_texts p)
  standard_owned v = subst (λ d. Owned d (ts ++ brought_texts p)) (sym (brought_is p c top token y)) (brought.standard_owned p y spelt c top.number token top.row top.last top.at ts x owed os a.fine top.current in_front v)

  standard_names : ByNames c ts → ByNames (run marked c (whole_prefix p token y)) (ts ++ brought_texts p)
  standard_names v = subst (λ d. ByNames d (ts ++ brought_texts p)) (sym (brought_is p c top token y)) (brought.standard_names p y spelt c top.number token top.row top.last top.at ts x owed os a.fine top.current in_front v)

-- a class begins
class_names : (b : BuildingOf) (text first : ℕ) (h : Heading) (ts : List Text) (z : Text) → ByNames b ts → ByNames (opened (changed (declared b h.name (entry.Class (length b.tables.blocks))) holding_class b.current) kind.Class text first) (ts ++ z ∷ [])
class_names b text first h ts z v =
    let c0 : BuildingOf = declared b h.name (entry.Class (length b.tables.blocks)) in
    opened_names (changed c0 holding_class b.current) kind.Class text first ts (ts ++ z ∷ []) (more_text ts (z ∷ []))
    (rows_stay c0 (changed c0 holding_class b.current) ts (changed_rows c0 holding_class b.current) (declared_names b h.name (entry.Class (length b.tables.blocks)) (λ q. q) ts v))

own_unnamed : (e : Entry) → OwnEntry e → OfName e → ⊥
own_unnamed (entry.Formal f) own q = own
own_unnamed (entry.Unspecified w) own q = own
own_unnamed (entry.Variable ty) own q = q
own_unnamed (entry.Constant ty) own q = q
own_unnamed (entry.Array ty n) own q = q
own_unnamed (entry.Procedure result k) own q = q
own_unnamed (entry.Class k) own q = q
own_unnamed (entry.Virtual result own_match) own q = q
own_unnamed (entry.Attribute name given result) own q = q

-- the marks break no rule by themselves
standard_unbroken : (p : StandardPrefix) (token : ℕ) (y : Identifier) (ms : List Mark) → NoBreaks ms → NoBreaks (whole_prefix p token y ++ ms)
standard_unbroken prefix.Simset token y ms h = subst (λ z. NoBreaks (z ++ ms)) (sym (marks_are prefix.Simset token)) h
standard_unbroken prefix.Simulation token y ms h = subst (λ z. NoBreaks (z ++ ms)) (sym (marks_are prefix.Simulation token)) h

pub run_clean : {os : List Open} {ms : List Mark} {xs : List Text} (b : BuildingOf) (ts : List Text) → Grouped os ms xs → Owes os → Agree b ts os → (run marked b ms).least ≡ None → (b.least ≡ None) × (Clean b ts os → Clean (run marked b ms) (ts ++ xs) []) × NoBreaks ms × (Covered b → Covered (run marked b ms)) × (Owned b ts → Owned (run marked b ms) (ts ++ xs)) × (ByNames b ts → ByNames (run marked b ms) (ts ++ xs))
unfolding run marked
run_clean {os = os} b ts (nothing e) w a clean = (clean, (λ f. subst (λ z. Clean b z []) (sym (append-nil ts)) (subst (Clean b ts) e f)), tt, (λ v. v), (λ v. subst (Owned b) (sym (append-nil ts)) v), λ v. subst (ByNames b) (sym (append-nil ts)) v)
run_clean {os = os} b ts (block {ms = ms} {xs = xs} k text first i ds ss p g) w a clean =
    let x : Text = BlockText i ds ss in
    let c : BuildingOf = opened b k text first in
    let later = run_clean c (ts ++ x ∷ []) g ((λ y e q. q), w) (block_agrees b k text first x (own_marks ds) ts os p tt a) clean in
    let q = opened_clean b k text first ts x (own_marks ds) os (λ y e h. h) a.fine later.0 in (
      q.0,
      (λ f. subst (λ z. Clean (run marked c ms) z []) (append_assoc ts (x ∷ []) xs) (later.1 (q.1 f))),
      later.2,
      (λ v. later.3 (covered_stays b c (opened_same b k text first) v)),
      (λ v. subst (Owned (run marked c ms)) (append_assoc ts (x ∷ []) xs) (later.4 (opened_owned b k text first ts x a.fine.size tt v))),
      λ v. subst (ByNames (run marked c ms)) (append_assoc ts (x ∷ []) xs) (later.5 (opened_names b k text first ts (ts ++ x ∷ []) (more_text ts (x ∷ [])) v)),
    )
run_clean {os = os} b ts (prefixed_block {ms = ms} {xs = xs} text first class es ds ss g) w a clean =
    let x : Text = PrefixedText class es ds ss in
    let c : BuildingOf = opened b kind.Prefixed text first in
    let later = run_clean c (ts ++ x ∷ []) g ((λ y e q. q), w) (block_agrees b kind.Prefixed text first x (own_marks ds) ts os refl tt a) clean in
    let q = opened_clean b kind.Prefixed text first ts x (own_marks ds) os (λ y e h. h) a.fine later.0 in (
      q.0,
      (λ f. subst (λ z. Clean (run marked c ms) z []) (append_assoc ts (x ∷ []) xs) (later.1 (q.1 f))),
      later.2,
      (λ v. later.3 (covered_stays b c (opened_same b kind.Prefixed text first) v)),
      (λ v. subst (Owned (run marked c ms)) (append_assoc ts (x ∷ []) xs) (later.4 (opened_owned b kind.Prefixed text first ts x a.fine.size tt v))),
      λ v. subst (ByNames (run marked c ms)) (append_assoc ts (x ∷ []) xs) (later.5 (opened_names b kind.Prefixed text first ts (ts ++ x ∷ []) (more_text ts (x ∷ [])) v)),
    )
run_clean {os = os} b ts (standard_block {ms = ms} {xs = xs} p text first class es ds ss e g) w a clean =
    let x : Text = PrefixedText class es ds ss in
    let c : BuildingOf = opened b kind.Prefixed text first in
    let k : BuildingOf = run marked c (whole_prefix p first class) in
    let top = opened_top b kind.Prefixed text first in
    let begun = block_agrees b kind.Prefixed text first x (own_marks ds) ts os refl tt a in
    let parts : run marked c (whole_prefix p first class ++ ms) ≡ run marked k ms = run_both c (whole_prefix p first class) ms in
    let later = run_clean k ((ts ++ x ∷ []) ++ brought_texts p) g ((λ y e q. q), w) (standard_run_agree p c top first class x (own_marks ds) (ts ++ x ∷ []) os e e begun) (ap (λ (d : BuildingOf). d.least) (sym parts) ∙ clean) in
    let all : ((ts ++ x ∷ []) ++ brought_texts p) ++ xs ≡ ts ++ (x ∷ (brought_texts p ++ xs)) = append_assoc (ts ++ x ∷ []) (brought_texts p) xs ∙ append_assoc ts (x ∷ []) (brought_texts p ++ xs) in
    let q = opened_clean b kind.Prefixed text first ts x (own_marks ds) os (λ y e h. h) a.fine (standard_least p c top first class x (own_marks ds) (ts ++ x ∷ []) os e e begun later.0) in (
      q.0,
      (λ f. subst (λ d. Clean d (ts ++ (x ∷ (brought_texts p ++ xs))) []) (sym parts) (subst (λ z. Clean (run marked k ms) z []) all (later.1 (standard_clean p c top first class x (own_marks ds) (ts ++ x ∷ []) os e e begun (q.1 f))))),
      standard_unbroken p first class ms later.2,
      (λ v. subst Covered (sym parts) (later.3 (standard_covered p c top first class x (own_marks ds) (ts ++ x ∷ []) os e e begun (covered_stays b c (opened_same b kind.Prefixed text first) v)))),
      (λ v. subst (λ d. Owned d (ts ++ (x ∷ (brought_texts p ++ xs)))) (sym parts) (subst (Owned (run marked k ms)) all (later.4 (standard_owned p c top first class x (own_marks ds) (ts ++ x ∷ []) os e e begun (opened_owned b kind.Prefixed text first ts x a.fine.size tt v))))),
      λ v. subst (λ d. ByNames d (ts ++ (x ∷ (brought_texts p ++ xs)))) (sym parts) (subst (ByNames (run marked k ms)) all (later.5 (standard_names p c top first class x (own_marks ds) (ts ++ x ∷ []) os e e begun (opened_names b kind.Prefixed text first ts (ts ++ x ∷ []) (more_text ts (x ∷ [])) v)))),
    )
run_clean {os = os} b ts (connects {ms = ms} {xs = xs} text first g) w a clean =
    let x : Text = ConnectionText in
    let c : BuildingOf = opened b kind.Connection text first in
    let later = run_clean c (ts ++ x ∷ []) g (owes_none x, w) (block_agrees b kind.Connection text first x [] ts os refl tt a) clean in
    let q = opened_clean b kind.Connection text first ts x [] os (λ y e h. h) a.fine later.0 in (
      q.0,
      (λ f. subst (λ z. Clean (run marked c ms) z []) (append_assoc ts (x ∷ []) xs) (later.1 (q.1 f))),
      later.2,
      (λ v. later.3 (covered_stays b c (opened_same b kind.Connection text first) v)),
      (λ v. subst (Owned (run marked c ms)) (append_assoc ts (x ∷ []) xs) (later.4 (opened_owned b kind.Connection text first ts x a.fine.size tt v))),
      λ v. subst (ByNames (run marked c ms)) (append_assoc ts (x ∷ []) xs) (later.5 (opened_names b kind.Connection text first ts (ts ++ x ∷ []) (more_text ts (x ∷ [])) v)),
    )
run_clean b ts (procedure {os = os} {ms = ms} {xs = xs} text first x owed quals result h body d n q g) w a clean =
    let z : Text = ProcedureText result h body in
    let c0 : BuildingOf = declared b h.name (entry.Procedure (result_named result) (length b.tables.blocks)) in
    let c : BuildingOf = opened (run marked c0 quals) kind.Procedure text first in
    let inner : List Mark = each headed_marks h.formals ++ [] in
    let row = row_of b ts _ a.fine a.fine.stack.0 x a.fine.stack.2 in
    let parts : run marked c0 (quals ++ Opens kind.Procedure text first ∷ ms) ≡ run marked c ms = run_both c0 quals (Opens kind.Procedure text first ∷ ms) in
    let later = run_clean c (ts ++ z ∷ []) g (owes_heading z h.formals [] (owes_none z), w) (procedure_agrees b text first x owed inner quals result h body ts os d q a) (ap (λ (k : BuildingOf). k.least) (sym parts) ∙ clean) in
    let p = procedure_clean b text first x owed inner quals result h body ts os row.0 n q (begins_heading z h.formals [] (begins_none result h body)) a.fine row.1 later.0 in (
      p.0,
      (λ f. subst (λ k. Clean k (ts ++ (z ∷ xs)) []) (sym parts) (subst (λ z. Clean (run marked c ms) z []) (append_assoc ts (z ∷ []) xs) (later.1 (p.1 f)))),
      quals_unbroken (AreReferences (result_named result)) quals (Opens kind.Procedure text first ∷ ms) q later.2,
      (λ v. subst Covered (sym parts) (later.3 (covered_stays (run marked c0 quals) c (opened_same (run marked c0 quals) kind.Procedure text first)
          (declared_covered b h.name (entry.Procedure (result_named result) (length b.tables.blocks)) a.fine.stack.0 row.0 a.fine.stack.1 row.1
          (sym (quals_least c0 (AreReferences (result_named result)) quals q) ∙ opened_least (run marked c0 quals) kind.Procedure text first later.0) quals q v)))),
      (λ v. subst (λ k. Owned k (ts ++ (z ∷ xs))) (sym parts) (subst (Owned (run marked c ms)) (append_assoc ts (z ∷ []) xs)
          (later.4 (procedure_owned b text first quals result h body ts row.0 q a.fine.stack.0 a.fine.stack.1 row.1 a.fine.size later.0 v)))),
      λ v. subst (λ k. ByNames k (ts ++ (z ∷ xs))) (sym parts) (subst (ByNames (run marked c ms)) (append_assoc ts (z ∷ []) xs)
          (later.5 (opened_names (run marked c0 quals) kind.Procedure text first ts (ts ++ z ∷ []) (more_text ts (z ∷ [])) (rows_stay c0 (run marked c0 quals) ts (quals_rows c0 (AreReferences (result_named result)) quals q)
          (declared_names b h.name (entry.Procedure (result_named result) (length b.tables.blocks)) (λ z. z) ts v))))),
    )
run_clean b ts (declares_class {os = os} {ms = ms} {xs = xs} text first x owed prefix h ds ss d n g) w a clean =
    let z : Text = ClassText prefix h ds ss in
    let c : BuildingOf = opened (changed (declared b h.name (entry.Class (length b.tables.blocks))) holding_class b.current) kind.Class text first in
    let inner : List Mark = each headed_marks h.formals ++ own_marks ds in
    let row = row_of b ts _ a.fine a.fine.stack.0 x a.fine.stack.2 in
    let later = run_clean c (ts ++ z ∷ []) g (owes_heading z h.formals (own_marks ds) (λ y e q. q), w) (class_agrees b text first x owed inner prefix h ds ss ts os d a) clean in
    let p = class_clean b text first x owed inner prefix h ds ss ts os row.0 n (begins_heading z h.formals (own_marks ds) (λ y e q. q)) a.fine row.1 later.0 in
    let c0 : BuildingOf = declared b h.name (entry.Class (length b.tables.blocks)) in (
      p.0,
      (λ f. subst (λ z. Clean (run marked c ms) z []) (append_assoc ts (z ∷ []) xs) (later.1 (p.1 f))),
      later.2,
      (λ v. later.3 (covered_stays (changed c0 holding_class b.current) c (opened_same (changed c0 holding_class b.current) kind.Class text first) (covered_stays c0 (changed c0 holding_class b.current) (holding_refs c0 b.current)
          (declared_alone b h.name (entry.Class (length b.tables.blocks)) a.fine.stack.0 row.0 a.fine.stack.1 row.1
          (sym (holding_same c0 b.current).0 ∙ opened_least (changed c0 holding_class b.current) kind.Class text first later.0) (λ z. z) v)))),
      (λ v. subst (Owned (run marked c ms)) (append_assoc ts (z ∷ []) xs)
          (later.4 (class_owned b text first prefix h ds ss ts row.0 a.fine.stack.0 a.fine.stack.1 row.1 a.fine.size later.0 v))),
      λ v. subst (ByNames (run marked c ms)) (append_assoc ts (z ∷ []) xs) (later.5 (class_names b text first h ts z v)),
    )
run_clean b ts (standard_class {os = os} {ms = ms} {xs = xs} p text first x owed y h ds ss e d n g) w a clean =
    let z : Text = ClassText (Some y) h ds ss in
    let c0 : BuildingOf = declared b h.name (entry.Class (length b.tables.blocks)) in
    let c1 : BuildingOf = changed c0 holding_class b.current in
    let c : BuildingOf = opened c1 kind.Class text first in
    let inner : List Mark = each headed_marks h.formals ++ own_marks ds in
    let k : BuildingOf = run marked c (whole_prefix p first y) in
    let top = opened_top c1 kind.Class text first in
    let row = row_of b ts _ a.fine a.fine.stack.0 x a.fine.stack.2 in
    let begun = class_agrees b text first x owed inner (Some y) h ds ss ts os d a in
    let parts : run marked c (whole_prefix p first y ++ ms) ≡ run marked k ms = run_both c (whole_prefix p first y) ms in
    let later = run_clean k ((ts ++ z ∷ []) ++ brought_texts p) g (owes_heading z h.formals (own_marks ds) (λ y e q. q), w) (standard_run_agree p c top first y z inner (ts ++ z ∷ []) (item x owed ∷ os) e e begun) (ap (λ (j : BuildingOf). j.least) (sym parts) ∙ clean) in
    let all : ((ts ++ z ∷ []) ++ brought_texts p) ++ xs ≡ ts ++ (z ∷ (brought_texts p ++ xs)) = append_assoc (ts ++ z ∷ []) (brought_texts p) xs ∙ append_assoc ts (z ∷ []) (brought_texts p ++ xs) in
    let c_clean : c.least ≡ None = standard_least p c top first y z inner (ts ++ z ∷ []) (item x owed ∷ os) e e begun later.0 in
    let q = class_clean b text first x owed inner (Some y) h ds ss ts os row.0 n (begins_heading z h.formals (own_marks ds) (λ y e q. q)) a.fine row.1 c_clean in (
      q.0,
      (λ f. subst (λ j. Clean j (ts ++ (z ∷ (brought_texts p ++ xs))) []) (sym parts) (subst (λ v. Clean (run marked k ms) v []) all (later.1 (standard_clean p c top first y z inner (ts ++ z ∷ []) (item x owed ∷ os) e e begun (q.1 f))))),
      standard_unbroken p first y ms later.2,
      (λ v. subst Covered (sym parts) (later.3 (standard_covered p c top first y z inner (ts ++ z ∷ []) (item x owed ∷ os) e e begun
          (covered_stays c1 c (opened_same c1 kind.Class text first) (covered_stays c0 c1 (holding_refs c0 b.current)
          (declared_alone b h.name (entry.Class (length b.tables.blocks)) a.fine.stack.0 row.0 a.fine.stack.1 row.1
          (sym (holding_same c0 b.current).0 ∙ opened_least c1 kind.Class text first c_clean) (λ z. z) v)))))),
      (λ v. subst (λ j. Owned j (ts ++ (z ∷ (brought_texts p ++ xs)))) (sym parts) (subst (Owned (run marked k ms)) all
          (later.4 (standard_owned p c top first y z inner (ts ++ z ∷ []) (item x owed ∷ os) e e begun (class_owned b text first (Some y) h ds ss ts row.0 a.fine.stack.0 a.fine.stack.1 row.1 a.fine.size c_clean v))))),
      λ v. subst (λ j. ByNames j (ts ++ (z ∷ (brought_texts p ++ xs)))) (sym parts) (subst (ByNames (run marked k ms)) all
          (later.5 (standard_names p c top first y z inner (ts ++ z ∷ []) (item x owed ∷ os) e e begun (class_names b text first h ts z v)))),
    )
run_clean b ts (declares {os = os} {ms = ms} {xs = xs} x owed quals y e d n own q written g) w a clean =
    let row = row_of b ts _ a.fine a.fine.stack.0 x a.fine.stack.2 in
    let c : BuildingOf = run marked (declared b y e) quals in
    let parts : run marked (declared b y e) (quals ++ ms) ≡ run marked c ms = run_both (declared b y e) quals ms in
    let later = run_clean c ts g ((λ z f p. w.0 z f (there p)), w.1) (declares_agrees b x owed quals y e ts os d own q (w.0 y e here) a) (ap (λ (k : BuildingOf). k.least) (sym parts) ∙ clean) in
    let p = declares_clean b x owed quals y e ts os row.0 n own q written a.fine row.1 later.0 in (
      p.0,
      (λ f. subst (λ k. Clean k (ts ++ xs) []) (sym parts) (later.1 (p.1 f))),
      quals_unbroken (OfReferences e) quals ms q later.2,
      (λ v. subst Covered (sym parts) (later.3 (declared_covered b y e a.fine.stack.0 row.0 a.fine.stack.1 row.1 (sym (quals_least (declared b y e) (OfReferences e) quals q) ∙ later.0) quals q v))),
      (λ v. subst (λ k. Owned k (ts ++ xs)) (sym parts) (later.4 (owned_step b c (Declared (length b.tables.declarations) y e a.fine.stack.0) ts
          (quals_step b (declared b y e) (Declared (length b.tables.declarations) y e a.fine.stack.0) (OfReferences e) quals q (declared_step b y e a.fine.stack.0 (own_unmatched e own) a.fine.stack.1)) v))),
      λ v. subst (λ k. ByNames k (ts ++ xs)) (sym parts) (later.5 (rows_stay (declared b y e) c ts (quals_rows (declared b y e) (OfReferences e) quals q) (declared_names b y e (own_unnamed e own) ts v))),
    )
run_clean b ts (specifies_virtual {os = os} {ms = ms} {xs = xs} x owed quals y result d n q g) w a clean =
    let row = row_of b ts _ a.fine a.fine.stack.0 x a.fine.stack.2 in
    let e : Entry = entry.Virtual (result_named result) None in
    let c : BuildingOf = run marked (declared b y e) quals in
    let parts : run marked (declared b y e) (quals ++ ms) ≡ run marked c ms = run_both (declared b y e) quals ms in
    let later = run_clean c ts g w (virtual_agrees b x owed quals y (result_named result) ts os d q a) (ap (λ (k : BuildingOf). k.least) (sym parts) ∙ clean) in
    let p = virtual_clean b x owed quals y (result_named result) ts os row.0 n q a.fine row.1 later.0 in (
      p.0,
      (λ f. subst (λ k. Clean k (ts ++ xs) []) (sym parts) (later.1 (p.1 f))),
      quals_unbroken (AreReferences (result_named result)) quals ms q later.2,
      (λ v. subst Covered (sym parts) (later.3 (declared_covered b y e a.fine.stack.0 row.0 a.fine.stack.1 row.1 (sym (quals_least (declared b y e) (AreReferences (result_named result)) quals q) ∙ later.0) quals q v))),
      (λ v. subst (λ k. Owned k (ts ++ xs)) (sym parts) (later.4 (owned_step b c (Declared (length b.tables.declarations) y e a.fine.stack.0) ts
          (quals_step b (declared b y e) (Declared (length b.tables.declarations) y e a.fine.stack.0) (AreReferences (result_named result)) quals q (declared_step b y e a.fine.stack.0 (virtual_unmatched (result_named result)) a.fine.stack.1)) v))),
      λ v. subst (λ k. ByNames k (ts ++ xs)) (sym parts) (later.5 (rows_stay (declared b y e) c ts (quals_rows (declared b y e) (AreReferences (result_named result)) quals q) (declared_names b y e (λ z. z) ts v))),
    )
run_clean b ts (parameter {os = os} x owed y d has g) w a clean =
    let row = row_of b ts _ a.fine a.fine.stack.0 x a.fine.stack.2 in
    let next = parameter_agrees b x owed y ts os d a in
    let later = run_clean (parameter_of b y) ts g w next clean in
    let d : BuildingOf = declared b y (entry.Unspecified None) in
    let same = counted_same d d.current in
    let q = parameter_clean b x owed y ts os row.0 has a.fine next.fine row.1 later.0 in (
      q.0,
      (λ f. later.1 (q.1 f)),
      later.2,
      (λ v. later.3 (covered_stays d (parameter_of b y) ((λ m found at refs. ap (λ z. slice_get z m) (sym same.1) ∙ at), same.2)
          (declared_alone b y (entry.Unspecified None) a.fine.stack.0 row.0 a.fine.stack.1 row.1 (sym same.0 ∙ later.0) (λ z. z) v))),
      (λ v. later.4 (owned_step b (parameter_of b y) (Declared (length b.tables.declarations) y (entry.Unspecified None) a.fine.stack.0) ts (parameter_step b y a.fine.stack.0 a.fine.stack.1) v)),
      λ v. later.5 (parameter_names b y ts v),
    )
run_clean b ts (moded {os = tail} x owed y m takes g) w a clean =
    let os : List Open = item x owed ∷ tail in
    let s = moded_step b y.token m (found_in b.tables b.current y.name) in
    let later = run_clean _ ts g w (quiet_agrees b _ ts os s a) clean in
    let q = moded_quiet b y.token m (found_in b.tables b.current y.name) in (q.1 later.0, (λ f. later.1 (quiet_clean b _ ts os s (moded_calm b y.token m (found_in b.tables b.current y.name)) q.0 a.fine f)), later.2, (λ v. later.3 (moded_covers b y.token m (found_in b.tables b.current y.name) v)), (λ v. later.4 (owned_step b _ Nothing ts s v)), λ v. later.5 (moded_names b ts x a.fine.stack.0 y (names_found b ts os a.fine) a.fine.stack.1 a.fine.stack.2 (a.fine.kinds a.fine.stack.0) takes v m))
run_clean b ts (specified {os = tail} {ms = ms} {xs = xs} x owed quals y k ty takes p q g) w a clean =
    let os : List Open = item x owed ∷ tail in
    let m : BuildingOf = met b (found_in b.tables b.current y.name) in
    let c0 : BuildingOf = specified_of m y.token k ty (found_in b.tables b.current y.name) in
    let c : BuildingOf = run marked c0 quals in
    let parts : run marked c0 (quals ++ ms) ≡ run marked c ms = run_both c0 quals ms in
    let s = specified_met b y.token k ty (found_in b.tables b.current y.name) p in
    let later = run_clean c ts g w (quiet_agrees b c ts os (quals_step b c0 Nothing (AreReferences ty) quals q s) a) (ap (λ (z : BuildingOf). z.least) (sym parts) ∙ clean) in
    let quiet = specified_quiet m y.token k ty (found_in b.tables b.current y.name) in
    let c0_clean : c0.least ≡ None = sym (quals_least c0 (AreReferences ty) quals q) ∙ later.0 in
    let there_ = specified_at m y.token k ty (found_in b.tables b.current y.name) c0_clean in (
      quiet.1 c0_clean,
      (λ f. subst (λ z. Clean z (ts ++ xs) []) (sym parts) (later.1 (quals_clean c0 (AreReferences ty) quals ts os q
          (λ refs. (there_.0, specified_latest m y.token k ty (found_in b.tables b.current y.name) ∙ there_.1, there_.2.row, there_.2.at, subst OfReferences (sym there_.2.entry) refs))
          (no_origin c0 there_.0 k ty quals ts (specified_latest m y.token k ty (found_in b.tables b.current y.name) ∙ there_.1) there_.2)
          (quiet_clean b c0 ts os s (specified_calm b y.token k ty (found_in b.tables b.current y.name)) quiet.0 a.fine f)))),
      quals_unbroken (AreReferences ty) quals ms q later.2,
      (λ v. subst Covered (sym parts) (later.3 (specified_covered m y.token k ty (found_in b.tables b.current y.name) there_.0 there_.1 (specified_latest m y.token k ty (found_in b.tables b.current y.name) ∙ there_.1) there_.2 quals q v))),
      (λ v. subst (λ k. Owned k (ts ++ xs)) (sym parts) (later.4 (owned_step b c Nothing ts (quals_step b c0 Nothing (AreReferences ty) quals q s) v))),
      λ v. subst (λ k. ByNames k (ts ++ xs)) (sym parts) (later.5 (rows_stay c0 c ts (quals_rows c0 (AreReferences ty) quals q) (specified_names m ts x a.fine.stack.0 y (names_found b ts os a.fine) a.fine.stack.1 a.fine.stack.2 (a.fine.kinds a.fine.stack.0) takes v k ty c0_clean))),
    )
run_clean b ts (headed {os = os} x owed y g) w a clean =
    let s = headed_step b y.token (unspecified_at b.tables (found_in b.tables b.current y.name)) in
    let later = run_clean _ ts g ((λ z f p. w.0 z f (there p)), w.1) (step_agrees b _ Nothing x (Headed y ∷ owed) owed ts os s (λ d row q. absurd q) a) clean in
    let o = unspecified_at b.tables (found_in b.tables b.current y.name) in
    let q = headed_step_clean b x owed y ts os a.fine later.0 in (q.0, (λ f. later.1 (q.1 f)), later.2, (λ v. later.3 (subst (λ z. Covered (headed_of b y.token z)) (sym (headed_clean b y.token o later.0).0) v)), (λ v. later.4 (owned_step b _ Nothing ts s v)), λ v. later.5 (subst (λ z. ByNames (headed_of b y.token z) ts) (sym (headed_clean b y.token o later.0).0) v))
run_clean b ts (prefixes {os = os} x owed y t p g) w a clean =
    let s = prefix_step b y a.fine.stack.0 a.fine.stack.1 p (prefix_kind b x owed ts os t a.fine) in
    let later = run_clean _ ts g w (quiet_agrees b _ ts (item x owed ∷ os) s a) clean in
    let q = prefix_quiet b y b.current in (q.1 later.0, (λ f. later.1 (quiet_clean b _ ts (item x owed ∷ os) s (prefix_calm b y b.current) q.0 a.fine f)), later.2, (λ v. later.3 (prefix_covers b y b.current v)), (λ v. later.4 (owned_step b _ Nothing ts s v)), λ v. later.5 (rows_stay b (changed b (prefixed_by y) b.current) ts (changed_rows b (prefixed_by y) b.current) v))
run_clean {os = os} b ts (inner_mark token g) w a clean =
    let s = inner_step b token b.current refl in
    let later = run_clean _ ts g w (quiet_agrees b _ ts os s a) clean in
    let q = inner_quiet b token b.current in (q.1 later.0, (λ f. later.1 (quiet_clean b _ ts os s (inner_calm b token b.current) q.0 a.fine f)), later.2, (λ v. later.3 (inner_covers b token b.current v)), (λ v. later.4 (owned_step b _ Nothing ts s v)), λ v. later.5 (rows_stay b (inner b token b.current) ts (inner_rows b token b.current) v))
run_clean {os = os} b ts (guarded hides keeps y g) w a clean =
    let s = guards_step b hides keeps y b.current refl in
    let later = run_clean _ ts g w (quiet_agrees b _ ts os s a) clean in
    let q = guards_quiet b hides keeps y b.current in (q.1 later.0, (λ f. later.1 (quiet_clean b _ ts os s (guards_calm b hides keeps y b.current) q.0 a.fine f)), later.2, (λ v. later.3 (guards_covers b hides keeps y b.current v)), (λ v. later.4 (owned_step b _ Nothing ts s v)), λ v. later.5 (rows_stay b (guards b hides keeps y b.current) ts (guards_rows b hides keeps y b.current) v))
run_clean {os = os} b ts (breaks_rule token rule g) w a clean =
    let later = run_clean (broken b token rule) ts g w (quiet_agrees b _ ts os (rule_step b token rule) a) clean in absurd (never_none b.least (fault token rule) later.0)
run_clean b ts (closes {os = os} x end g) w a clean =
    let row = row_of b ts _ a.fine a.fine.stack.0 x a.fine.stack.2 in
    let later = run_clean (closed b end b.current) ts g w.1 (closed_agrees b end ts x os a) clean in
    let q = closed_clean b end ts x os row.0 a.fine row.1 later.0 in (q.0, (λ f. later.1 (q.1 f)), later.2, (λ v. later.3 (closed_covers b end b.current v)), (λ v. later.4 (closed_owned b end b.current ts v)), λ v. later.5 (rows_stay b (closed b end b.current) ts (closed_rows b end b.current) v))
