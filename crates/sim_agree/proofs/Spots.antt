-- Where the tokens of a program are in order, the innermost block around each that is used in a text is the block of that text, each sub-block
-- and each connection stands in its text, blocks begin at tokens of their own, and declarations stand at tokens of their own.
use Rattle.std.proofs.Common.{◌≡◌, ◌<◌, ◌≤◌, ◌+◌, ◌-◌, ◌⊎◌, inl, inr, ℕ, zero, suc, Bool, true, false, List, [], ◌∷◌, ◌++◌, length, Option, Some, None, refl, sym, ap, ◌∙◌, subst, arith, append-nil, append_assoc}
use Rattle.std.specs.Prelude.{nat_eq, nat_lt, replicate, slice_get, slice_set}
use Rattle.std.proofs.lemmas.List.{length-append, length-replicate, length-set}
use Rattle.std.proofs.lemmas.Option.{slice_get_within}
use Rattle.std.proofs.lemmas.Bool.Decides.{nat_tests}
use Rattle.sim_base.specs.declared.numbering.DeclNo.{DeclNo}
use Rattle.sim_base.specs.declared.numbering.TokenNo.{TokenNo}
use Rattle.sim_base.specs.declared.rule.Rule.{Rule}
use Rattle.sim_base.specs.declared.rule.Rule.TheVariants as r
use Rattle.sim_tree.specs.declared.expr.Identifier.{Identifier}
use Rattle.sim_tree.specs.Syntax.{Declarations, Statement, Statements, Expressions}
use Rattle.sim_scope.specs.declared.scopes.Declaration.{Declaration}
use Rattle.sim_scope.specs.declared.scopes.Qualification.{Qualification}
use Rattle.sim_scope.specs.declared.types.BlockKind.{BlockKind}
use Rattle.sim_scope.specs.declared.types.BlockKind.TheVariants as kind
use Rattle.sim_scope.specs.declared.types.Entry.{Entry}
use Rattle.sim_scope.specs.declared.types.Entry.TheVariants as entry
use Rattle.sim_scope.specs.declared.types.WrittenMode.{WrittenMode}
use Rattle.sim_scope.specs.Building.{BuildingOf, Mark, Opens, block_around, broken, broken_if, changed, closed, closed_at, counted, counted_in, declared, found_in, guards, headed as headed_of, holding_class, inner as inner_of, level_in, marked, moded as moded_of, most_levels, opened, owner_of, parameter as parameter_of, placed, specified as specified_of, unspecified_at, prefixed_by}
use Rattle.sim_scope.specs.Declare.{result_named}
use Rattle.sim_scope.specs.Runs.{run}
use Rattle.sim_scope.specs.Access.{around}
use Rattle.sim_meaning.specs.Attributes.{first_in}
use Rattle.sim_meaning.specs.Entries.{numbers_in}
use Rattle.sim_sound.specs.Held.{Among}
use Rattle.sim_scope.specs.Tables.{BlockOf}
use Rattle.sim_scope.proofs.Kept.{kept_more, kept_set, more_here, more_other, set_here, set_other}
use Rattle.sim_meaning.specs.Texts.{BlockText, ClassText, ProcedureText, Text, PrefixedText}
use Rattle.sim_tree.specs.Order.{Ascends, Spot}
use Rattle.sim_agree.proofs.Laid.{Con, Frame, Held, Joined, Laid, Part, Sub, Use, Whole, block, breaks_rule, classes, closes, connects, declares, declares_class, frame, headed, inner_mark, leaves, moded, nothing, parameter, passes, procedure, program, specified, text_held, used_held, uses, Prefs, prefixed, unprefixed, text_used, guarded, Pre, prefixed_block, Stands, all_held, among, outermost, standard_block, standard_class}
use Rattle.sim_agree.proofs.BroughtFine as brought
use Rattle.sim_agree.proofs.BroughtKnown.{Added, a_class, an_attribute, an_own, row_added}
use Rattle.sim_agree.proofs.BroughtRows.{added_rows, bringing, with_standard}
use Rattle.sim_agree.proofs.BroughtRuns.{FreshTop, brought_is, opened_top}
use Rattle.sim_agree.proofs.Brought.{parts_get}
use Rattle.sim_agree.proofs.StandardPrefixes.{Spells, brought_texts, text_brought}
use Rattle.sim_agree.specs.TablesAgree.{IsOwn, is_attribute}
use Rattle.sim_scope.specs.Levels.{is_standard_class}
use Rattle.sim_scope.specs.declared.types.StandardPrefix.{StandardPrefix}
use Rattle.sim_scope.specs.declared.types.StandardPrefix.TheVariants as prefixes
use Rattle.sim_agree.proofs.Steps as steps
use Rattle.sim_agree.proofs.Steps.{Becomes, Changed, Fixed, Nothing, Step, fixed}
use Rattle.sim_agree.proofs.Marks.{Declared, class_step, declared_step, headed_step, inner_step, last_cases, met, moded_step, declarable_unmatched, parameter_step, procedure_unmatched, quals_step, rule_step, specified_met, prefix_step, guards_step}
use Rattle.sim_agree.proofs.Unprefixed.{extras_in, no_extras, is_prefixable}
use Rattle.sim_agree.proofs.Fine.{same_around}
use Rattle.sim_agree.proofs.FineBlocks.{fresh}
use Rattle.sim_agree.proofs.FineRuns.{run_both}
use Rattle.sim_agree.proofs.Clean.{declared_refs, guards_quiet, holding_same, inner_quiet, moded_quiet, prefix_quiet, specified_quiet}
use Rattle.sim_agree.proofs.Groups.{AreReferences, OfReferences, whole_prefix}
use Rattle.sim_agree.proofs.Latest.{InBlock, declared_latest, parameter_latest, step_block}
use Rattle.sim_agree.proofs.TokenBlocks.{AreRecent, Fact, Has, Here, Keeps, Lay, Lays, LeftAt, Stack, WrittenBy, fact_moves, has_cases, joins_kept, later_recent, left_kept, none_recent, one_recent, out, own_was, same_first, stack_kept, written_here, written_none}

-- ---- a use

use_laid : (b : BuildingOf) (ts : List Held) (x : Text) (u : List Part) (i : ℕ) (os : List Frame) (from : ℕ) → from ≤ i → Lay b ts (frame x (Use i ∷ u) ∷ os) from → Lay b ts (frame x u ∷ os) (i + 1)
use_laid b ts x u i os from le l = record {
  size = l.size;
  stack = l.stack;
  reach = (let q : length b.tables.places ≤ from = l.reach in omega arith);
  done = λ n y p at has. done n p (l.done n y p at has);
  firsts = λ k row at other. later k row.first (l.firsts k row at other);
  joins = l.joins;
  below = λ d row at. (let lt : row.token.0 < from = l.below d row at in omega arith);
  rising = l.rising;
  bare = l.bare;
  written = λ k q at. (let w = l.written k q at in (w.0, later w.0 q.class.token.0 w.1, w.2));
}
  where
    later : (n j : ℕ) → Here b from n j → Here b (i + 1) n j
    later n j (inl q) = inl q
    later n j (inr q) = inr (q.0, (let lt : j < from = q.1 in omega arith), q.2)

    done : (n : ℕ) (p : Part) → Fact b ts from n p ⊎ LeftAt b.tables.blocks b.current (frame x (Use i ∷ u) ∷ os) n p → Fact b ts (i + 1) n p ⊎ LeftAt b.tables.blocks b.current (frame x u ∷ os) n p
    done n p (inl f) = inl (fact_moves b b ts ts from (i + 1) (λ m y is. (refl, is, refl)) later n p f)
    done n p (inr (inr q)) = inr (inr q)
    done n p (inr (inl q)) = go (has_cases q.1)
      where
        go : (p ≡ Use i) ⊎ Has p u → Fact b ts (i + 1) n p ⊎ LeftAt b.tables.blocks b.current (frame x u ∷ os) n p
        go (inr h) = inr (inl (q.0, h))
        go (inl e) = inl (subst (Fact b ts (i + 1) n) (sym e) (inr ((let le' : length b.tables.places ≤ from = l.reach in omega arith), (let z : i < i + 1 = omega arith in z), q.0)))

-- a token that is no use
later_laid : (b : BuildingOf) (ts : List Held) (os : List Frame) (from high to : ℕ) → from ≤ to → high ≤ to → Lays b ts os from high → Lay b ts os to
later_laid b ts os from high to le up l = record {
  size = l.size;
  stack = l.stack;
  reach = (let q : length b.tables.places ≤ from = l.reach in omega arith);
  done = λ n y p at has. done n p (l.done n y p at has);
  firsts = λ k row at other. later k row.first (l.firsts k row at other);
  joins = l.joins;
  below = λ d row at. (let lt : row.token.0 < high = l.below d row at in omega arith);
  rising = l.rising;
  bare = l.bare;
  written = λ k q at. (let w = l.written k q at in (w.0, later w.0 q.class.token.0 w.1, w.2));
}
  where
    later : (n j : ℕ) → Here b from n j → Here b to n j
    later n j (inl q) = inl q
    later n j (inr q) = inr (q.0, (let lt : j < from = q.1 in omega arith), q.2)

    done : (n : ℕ) (p : Part) → Fact b ts from n p ⊎ LeftAt b.tables.blocks b.current os n p → Fact b ts to n p ⊎ LeftAt b.tables.blocks b.current os n p
    done n p (inl f) = inl (fact_moves b b ts ts from to (λ m y is. (refl, is, refl)) later n p f)
    done n p (inr q) = inr q

-- ---- marks that begin and end no block

-- a row is an old one, or the new one
abbrev RowIs : BuildingOf → (from to : ℕ) → ℕ → Declaration → Type 0
RowIs b from to d row = ((old : Declaration) × (slice_get b.tables.declarations d ≡ Some old) × (row.token ≡ old.token) × (IsOwn row → IsOwn old)) ⊎ ((d ≡ length b.tables.declarations) × (from ≤ row.token.0) × (row.token.0 < to))

row_is : (b c : BuildingOf) (New : ℕ → Declaration → Type 0) → Step b c New → (from to : ℕ) → ((d : ℕ) (row : Declaration) → New d row → (d ≡ length b.tables.declarations) × (from ≤ row.token.0) × (row.token.0 < to))
    → (d : ℕ) (row : Declaration) → slice_get c.tables.declarations d ≡ Some row → RowIs b from to d row
row_is b c New s from to new d row at = go (s.rows d row at)
  where
    go : steps.RowIs b c New d row → RowIs b from to d row
    go (inl q) = inl (q.0, q.1, q.2.token, own_was q.0 row q.2)
    go (inr q) = inr (new d row q.0)

step_laid : (b c : BuildingOf) (New : ℕ → Declaration → Type 0) (s : Step b c New) (ts : List Held) (os : List Frame) (from to : ℕ) → from ≤ to
    → ((d : ℕ) (row : Declaration) → New d row → (d ≡ length b.tables.declarations) × (from ≤ row.token.0) × (row.token.0 < to)) → WrittenBy b c from → Lay b ts os from → Lays c ts os from to
step_laid b c New s ts os from to le new by l = record {
  size = s.size ∙ l.size;
  stack = subst (λ z. Stack c.tables.blocks ts z os) (sym s.current) (stack_kept b.tables.blocks c.tables.blocks ts ts keep os b.current l.stack);
  reach = (let q : length b.tables.places ≤ from = l.reach in let e : length c.tables.places ≡ length b.tables.places = ap length s.places in omega arith);
  done = λ n y p at has. done n p (l.done n y p at has);
  firsts = λ k row at other. first_stays k row (slice_get b.tables.blocks k) refl at other;
  joins = λ n i a is. joins_kept b.tables.blocks c.tables.blocks ts ts keep l.joins n i a is;
  below = λ d row at. below row (row_of d row at);
  rising = λ d e row other at at' lt o. rising d e row other lt o (row_of d row at) (row_of e other at');
  bare = s.bare l.bare;
  written = λ i q at. written i q (by i q at);
}
  where
    keep : Keeps b.tables.blocks c.tables.blocks ts ts
    keep n x is = (same_around (slice_get c.tables.blocks n) (slice_get b.tables.blocks n) (s.fixes n), is, same_first (slice_get c.tables.blocks n) (slice_get b.tables.blocks n) (s.fixes n))

    later : (n j : ℕ) → Here b from n j → Here c from n j
    later n j (inl q) = inl (ap (λ z. slice_get z j) s.places ∙ q)
    later n j (inr q) = inr ((let le' : length b.tables.places ≤ j = q.0 in let e : length c.tables.places ≡ length b.tables.places = ap length s.places in omega arith), q.1, s.current ∙ q.2)

    done : (n : ℕ) (p : Part) → Fact b ts from n p ⊎ LeftAt b.tables.blocks b.current os n p → Fact c ts from n p ⊎ LeftAt c.tables.blocks c.current os n p
    done n p (inl f) = inl (fact_moves b c ts ts from from keep later n p f)
    done n p (inr q) = inr (subst (λ z. LeftAt c.tables.blocks z os n p) (sym s.current) (left_kept b.tables.blocks c.tables.blocks ts ts keep os b.current n p l.stack q))

    first_stays : (k : ℕ) (row : BlockOf) (o : Option BlockOf) → slice_get b.tables.blocks k ≡ o → slice_get c.tables.blocks k ≡ Some row → is_standard_class row.kind ≡ false → Here c from k row.first
    first_stays k row None is at other = absurd (let e : fixed (Some row) ≡ None = sym (ap fixed at) ∙ s.fixes k ∙ ap fixed is in cc)
    first_stays k row (Some old) is at other =
        let e : first_of (fixed (Some row)) ≡ first_of (fixed (Some old)) = ap first_of (sym (ap fixed at) ∙ s.fixes k ∙ ap fixed is) in
        let same : standard_of (fixed (Some row)) ≡ standard_of (fixed (Some old)) = ap standard_of (sym (ap fixed at) ∙ s.fixes k ∙ ap fixed is) in
        subst (λ z. Here c from k z) (sym e) (later k old.first (l.firsts k old is (sym same ∙ other)))
      where
        standard_of : Fixed → Bool
        standard_of None = false
        standard_of (Some x) = is_standard_class x.kind

        first_of : Fixed → ℕ
        first_of None = 0
        first_of (Some x) = x.first

    written : (i : ℕ) (q : Qualification) → (slice_get b.tables.qualifications i ≡ Some q) ⊎ ((n : ℕ) × Here c from n q.class.token.0 × InBlock c.tables q.declaration n) → (n : ℕ) × Here c from n q.class.token.0 × InBlock c.tables q.declaration n
    written i q (inl at) = let w = l.written i q at in (w.0, later w.0 q.class.token.0 w.1, step_block b c New s q.declaration w.0 w.2)
    written i q (inr w) = w

    row_of : (d : ℕ) (row : Declaration) → slice_get c.tables.declarations d ≡ Some row → RowIs b from to d row
    row_of d row at = row_is b c New s from to new d row at

    below : {d : ℕ} (row : Declaration) → RowIs b from to d row → row.token.0 < to
    below row (inl q) = (let lt : q.0.token.0 < from = l.below _ q.0 q.1 in let e : row.token.0 ≡ q.0.token.0 = ap (λ (z : TokenNo). z.0) q.2 in omega arith)
    below row (inr q) = q.2

    rising : (d e : ℕ) (row other : Declaration) → d < e → IsOwn other → RowIs b from to d row → RowIs b from to e other → row.token.0 < other.token.0
    rising d e row other lt o (inl p) (inl q) =
        let r : p.0.token.0 < q.0.token.0 = l.rising d e p.0 q.0 p.1 q.1 lt (q.3 o) in
        let f : row.token.0 ≡ p.0.token.0 = ap (λ (z : TokenNo). z.0) p.2 in
        let g : other.token.0 ≡ q.0.token.0 = ap (λ (z : TokenNo). z.0) q.2 in omega arith
    rising d e row other lt o (inl p) (inr q) =
        let r : p.0.token.0 < from = l.below d p.0 p.1 in
        let f : row.token.0 ≡ p.0.token.0 = ap (λ (z : TokenNo). z.0) p.2 in
        let g : from ≤ other.token.0 = q.1 in omega arith
    rising d e row other lt o (inr p) (inl q) =
        let f : d ≡ length b.tables.declarations = p.0 in
        let g : e < length b.tables.declarations = slice_get_within b.tables.declarations e q.0 q.1 in absurd (omega arith)
    rising d e row other lt o (inr p) (inr q) = let f : d ≡ length b.tables.declarations = p.0 in let g : e ≡ length b.tables.declarations = q.0 in absurd (omega arith)

-- ---- a block begins

pub filled_at : (xs : List (Option ℕ)) (o : Option ℕ) (m i : ℕ) → length xs ≤ i → i < length xs + m → slice_get (xs ++ replicate m o) i ≡ Some o
filled_at [] o m i le lt = repeated m i lt
  where
    repeated : (m i : ℕ) → i < length {A = Option ℕ} [] + m → slice_get (replicate m o) i ≡ Some o
    repeated zero i lt = absurd (omega arith)
    repeated (suc m) zero lt = refl
    repeated (suc m) (suc i) lt = repeated m i (omega arith)
filled_at (x ∷ xs) o m zero le lt = absurd (let e : length (x ∷ xs) ≡ suc (length xs) = omega arith in omega arith)
filled_at (x ∷ xs) o m (suc i) le lt = let e : length (x ∷ xs) ≡ suc (length xs) = omega arith in filled_at xs o m i (omega arith) (omega arith)

pub more_at : {A : Type 0} (xs ys : List A) (i : ℕ) (x : A) → slice_get xs i ≡ Some x → slice_get (xs ++ ys) i ≡ Some x
more_at [] ys i x is = absurd (cc)
more_at (y ∷ xs) ys zero x is = is
more_at (y ∷ xs) ys (suc i) x is = more_at xs ys i x is

some_same : {A : Type 0} (a b : A) → Some a ≡ Some b → a ≡ b
some_same a b e = cc

last_held : (ts : List Held) (x : Held) → slice_get (ts ++ x ∷ []) (length ts) ≡ Some x
last_held [] x = refl
last_held (t ∷ ts) x = let e : length (t ∷ ts) ≡ suc (length ts) = omega arith in ap (slice_get ((t ∷ ts) ++ x ∷ [])) e ∙ last_held ts x

pub reached : (xs : List (Option ℕ)) (o : Option ℕ) (to : ℕ) → length xs ≤ to → length (xs ++ replicate (to - length xs) o) ≡ to
reached xs o to le =
    let e : length (xs ++ replicate (to - length xs) o) ≡ length xs + (to - length xs) = length-append xs (replicate (to - length xs) o) ∙ ap (λ z. length xs + z) (length-replicate (to - length xs) o) in omega arith

-- the tokens in front of this one have their places
filled_here : (b : BuildingOf) (from to n i : ℕ) → from ≤ to → length b.tables.places ≤ from → Here b from n i → slice_get (placed b.tables b.current to).places i ≡ Some (Some n)
filled_here b from to n i le reach (inl q) = more_at b.tables.places _ i (Some n) q
filled_here b from to n i le reach (inr q) =
    let low : length b.tables.places ≤ i = q.0 in
    let lt : i < from = q.1 in
    filled_at b.tables.places b.current (to - length b.tables.places) i low (omega arith) ∙ ap Some q.2

-- what begins with this text is what the text around has at that token
abbrev Begun : (first : ℕ) → Held → Part → Type 0
Begun first x (Use i) = ⊥
Begun first x (Sub i) = (i ≡ first) × ((ds : Declarations) × (ss : Statements) × (x ≡ Whole (BlockText i ds ss)))
Begun first x (Pre i) = (i ≡ first) × ((class : Identifier) × (es : Expressions) × (ds : Declarations) × (ss : Statements) × (x ≡ Whole (PrefixedText class es ds ss)))
Begun first x (Con i v) = (i ≡ first) × (x ≡ Joined i v)

abbrev Pops : BuildingOf → Held → (first : ℕ) → (os ps : List Frame) → Type 0
Pops b x first os ps = (n : ℕ) (p : Part) → LeftAt b.tables.blocks b.current os n p → LeftAt b.tables.blocks b.current ps n p ⊎ ((b.current ≡ Some n) × Begun first x p)

-- what is joined begins with its own token, in a text
abbrev BeginsWith : Held → (first : ℕ) → (current : Option ℕ) → Type 0
BeginsWith (Whole x) first current = Unit {0}
BeginsWith (Joined i a) first current = (i ≡ first) × ((u : ℕ) × (current ≡ Some u))

begun_laid : (b : BuildingOf) (new : BlockOf) (first : ℕ) (ts : List Held) (x : Held) (os ps : List Frame) (from high : ℕ) → BeginsWith x first b.current → from ≤ first → high ≤ first + 1 → new.encloser ≡ b.current → new.first ≡ first → extras_in (Some new) ≡ no_extras
    → Lays b ts os from high → Stack b.tables.blocks ts b.current ps → Pops b x first os ps
    → Lay (record b { tables = record b.tables { blocks = b.tables.blocks ++ new ∷ []; places = (placed b.tables b.current first).places }; current = Some (length b.tables.blocks) }) (ts ++ x ∷ []) (frame (text_held x) (used_held x) ∷ ps) (first + 1)
begun_laid b new first ts x os ps from high own le up around_is first_is without l stack pop = record {
  size = length-append bs (new ∷ []) ∙ (let e : length bs ≡ length ts = l.size in ap (λ z. z + 1) e) ∙ sym (length-append ts (x ∷ []));
  stack = (length bs, refl, (x, at, refl), subst (λ z. Stack cs us z ps) (sym under) (stack_kept bs cs ts us keep ps b.current stack));
  reach = (let e : length (placed b.tables b.current first).places ≡ first = long in omega arith);
  done = λ n y p is has. done n y p has (last_cases ts x n y is);
  firsts = λ k row is other. firsts k row other (last_cases bs new k row is);
  joins = λ n i a is. joins n i a (last_cases ts x n (Joined i a) is);
  below = λ d row is. (let lt : row.token.0 < high = l.below d row is in omega arith);
  rising = l.rising;
  bare = record { blocks = λ k. kept_more extras_in bs new without k ∙ l.bare.blocks k };
  written = λ i q is. (let w = l.written i q is in (w.0, later w.0 q.class.token.0 w.1, in_block q.declaration w.0 w.2));
}
  where
    bs : List BlockOf
    bs = b.tables.blocks

    cs : List BlockOf
    cs = b.tables.blocks ++ new ∷ []

    us : List Held
    us = ts ++ x ∷ []

    c : BuildingOf
    c = record b { tables = record b.tables { blocks = b.tables.blocks ++ new ∷ []; places = (placed b.tables b.current first).places }; current = Some (length b.tables.blocks) }

    long : length (placed b.tables b.current first).places ≡ first
    long = reached b.tables.places b.current first (let q : length b.tables.places ≤ from = l.reach in omega arith)

    at : slice_get (ts ++ x ∷ []) (length b.tables.blocks) ≡ Some x
    at = ap (slice_get (ts ++ x ∷ [])) l.size ∙ last_held ts x

    under : around (slice_get (b.tables.blocks ++ new ∷ []) (length b.tables.blocks)) ≡ b.current
    under = ap around (more_here bs new) ∙ around_is

    begins_there : first_in (slice_get (b.tables.blocks ++ new ∷ []) (length b.tables.blocks)) ≡ first
    begins_there = ap first_in (more_here bs new) ∙ first_is

    keep : Keeps b.tables.blocks (b.tables.blocks ++ new ∷ []) ts (ts ++ x ∷ [])
    keep n y is =
        let lt : n < length ts = slice_get_within ts n y is in
        let same : length b.tables.blocks ≡ length ts = l.size in
        let other : slice_get (b.tables.blocks ++ new ∷ []) n ≡ slice_get b.tables.blocks n = more_other bs new n (let P : nat_eq n (length b.tables.blocks) ≡ false = grind (arith, nat_tests) in P) in
        (ap around other, more_at ts (x ∷ []) n y is, ap first_in other)

    later : (n j : ℕ) → Here b from n j → Here c (first + 1) n j
    later n j h = inl (filled_here b from first n j le l.reach h)

    in_block : (d : DeclNo) (n : ℕ) → InBlock b.tables d n → InBlock c.tables d n
    in_block d n (inr q) = inr q
    in_block d n (inl a) = go (slice_get bs n) refl a
      where
        go : (o : Option BlockOf) → slice_get bs n ≡ o → Among d (numbers_in o) → InBlock c.tables d n
        go None is a = elim a [ ]
        go (Some row) is a = inl (subst (λ o. Among d (numbers_in o)) (sym (more_at bs (new ∷ []) n row is)) a)

    -- the new block is where its first token stands
    new_here : Here c (first + 1) (length bs) first
    new_here = inr ((let z : length (placed b.tables b.current first).places ≡ first = long in omega arith), (let z : first < first + 1 = omega arith in z), refl)

    firsts : (k : ℕ) (row : BlockOf) → is_standard_class row.kind ≡ false → (slice_get bs k ≡ Some row) ⊎ ((k ≡ length bs) × (new ≡ row)) → Here c (first + 1) k row.first
    firsts k row other (inl q) = later k row.first (l.firsts k row q other)
    firsts k row other (inr q) = subst (λ z. Here c (first + 1) z row.first) (sym q.0) (subst (λ z. Here c (first + 1) (length bs) z) (sym first_is ∙ ap (λ (z : BlockOf). z.first) q.1) new_here)

    joins : (n i : ℕ) (a : Statement) → (slice_get ts n ≡ Some (Joined i a)) ⊎ ((n ≡ length ts) × (x ≡ Joined i a)) → (first_in (slice_get (b.tables.blocks ++ new ∷ []) n) ≡ i) × ((u : ℕ) × (around (slice_get (b.tables.blocks ++ new ∷ []) n) ≡ Some u))
    joins n i a (inl q) = joins_kept b.tables.blocks (b.tables.blocks ++ new ∷ []) ts (ts ++ x ∷ []) keep l.joins n i a q
    joins n i a (inr q) =
        let begins : (i ≡ first) × ((u : ℕ) × (b.current ≡ Some u)) = subst (λ z. BeginsWith z first b.current) q.1 own in
        let e : n ≡ length b.tables.blocks = q.0 ∙ sym l.size in
        (ap (λ z. first_in (slice_get (b.tables.blocks ++ new ∷ []) z)) e ∙ begins_there ∙ sym begins.0, (begins.1.0, ap (λ z. around (slice_get (b.tables.blocks ++ new ∷ []) z)) e ∙ under ∙ begins.1.1))

    moved : (n : ℕ) (p : Part) → LeftAt bs b.current ps n p → LeftAt cs (Some (length bs)) (frame (text_held x) (used_held x) ∷ ps) n p
    moved n p q = inr (subst (λ z. LeftAt cs z ps n p) (sym under) (left_kept bs cs ts us keep ps b.current n p stack q))

    -- it stands in the block around
    starts : (n : ℕ) (p : Part) → b.current ≡ Some n → Begun first x p → Fact c us (first + 1) n p
    starts n (Use i) cur q = absurd q
    starts n (Sub i) cur q =
        (q.1.0, q.1.1, record { number = length bs; text = at ∙ ap Some q.1.2; around = under ∙ cur; there = subst (λ z. Here c (first + 1) (length bs) z) (sym q.0) new_here; begins = begins_there ∙ sym q.0 })
    starts n (Pre i) cur q =
        (q.1.0, q.1.1, q.1.2, q.1.3, record { number = length bs; text = at ∙ ap Some q.1.4; around = under ∙ cur; there = subst (λ z. Here c (first + 1) (length bs) z) (sym q.0) new_here; begins = begins_there ∙ sym q.0 })
    starts n (Con i v) cur q = record { number = length bs; text = at ∙ ap Some q.1; around = under ∙ cur; there = subst (λ z. Here c (first + 1) (length bs) z) (sym q.0) new_here; begins = begins_there ∙ sym q.0 }

    done : (n : ℕ) (y : Held) (p : Part) → Has p (used_held y) → (slice_get ts n ≡ Some y) ⊎ ((n ≡ length ts) × (x ≡ y)) → Fact c us (first + 1) n p ⊎ LeftAt cs (Some (length bs)) (frame (text_held x) (used_held x) ∷ ps) n p
    done n y p has (inr q) =
        let here_now : length bs ≡ n = l.size ∙ sym q.0 in inr (inl (ap Some here_now, subst (λ z. Has p (used_held z)) (sym q.1) has))
    done n y p has (inl q) = go (l.done n y p q has)
      where
        go : Fact b ts from n p ⊎ LeftAt bs b.current os n p → Fact c us (first + 1) n p ⊎ LeftAt cs (Some (length bs)) (frame (text_held x) (used_held x) ∷ ps) n p
        go (inl f) = inl (fact_moves b c ts us from (first + 1) keep later n p f)
        go (inr h) = pick (pop n p h)
          where
            pick : LeftAt bs b.current ps n p ⊎ ((b.current ≡ Some n) × Begun first x p) → Fact c us (first + 1) n p ⊎ LeftAt cs (Some (length bs)) (frame (text_held x) (used_held x) ∷ ps) n p
            pick (inl k) = inr (moved n p k)
            pick (inr k) = inl (starts n p k.0 k.1)

-- ---- a broken rule changes no table

if_laid : (a : Bool) (b : BuildingOf) (token : ℕ) (rule : Rule) (ts : List Held) (os : List Frame) (from : ℕ) → Lay b ts os from → Lay (broken_if a b token rule) ts os from
if_laid false b token rule ts os from l = l
if_laid true b token rule ts os from l = record {
  size = l.size;
  stack = l.stack;
  reach = l.reach;
  done = λ n x p at has. done n p (l.done n x p at has);
  firsts = l.firsts;
  joins = l.joins;
  below = l.below;
  rising = l.rising;
  bare = l.bare;
  written = l.written;
}
  where
    done : (n : ℕ) (p : Part) → Fact b ts from n p ⊎ LeftAt b.tables.blocks b.current os n p → Fact (broken_if true b token rule) ts from n p ⊎ LeftAt b.tables.blocks b.current os n p
    done n p (inl f) = inl (fact_moves b (broken_if true b token rule) ts ts from from (λ m y is. (refl, is, refl)) (λ m i h. h) n p f)
    done n p (inr q) = inr q

opened_laid : (b : BuildingOf) (k : BlockKind) (text first : ℕ) (ts : List Held) (x : Held) (os ps : List Frame) (from high : ℕ) → BeginsWith x first b.current → from ≤ first → high ≤ first + 1 → Lays b ts os from high → Stack b.tables.blocks ts b.current ps → Pops b x first os ps
    → Lay (opened b k text first) (ts ++ x ∷ []) (frame (text_held x) (used_held x) ∷ ps) (first + 1)
opened_laid b k text first ts x os ps from high own le up l stack pop =
    if_laid (nat_lt most_levels (level_in k (block_around b.tables b.current))) _ text r.TooManyLevels (ts ++ x ∷ []) (frame (text_held x) (used_held x) ∷ ps) (first + 1)
    (begun_laid b (record { kind = k; first = first; end = first; encloser = b.current; level = level_in k (block_around b.tables b.current); owner = owner_of k b.latest; formals = 0; inner = None; prefix = None; base = None; standard = None; names = []; numbers = []; has_class = false; brought_names = []; brought = []; protected = []; hidden = [] }) first ts x os ps from high own le up refl refl refl l stack pop)

-- a sub-block and a connection stand among the parts of the text around
pop_part : (b : BuildingOf) (z : Held) (first : ℕ) (q : Part) → Begun first z q → (x : Text) (u : List Part) (os : List Frame) → Pops b z first (frame x (q ∷ u) ∷ os) (frame x u ∷ os)
pop_part b z first q begun x u os n p (inr h) = inl (inr h)
pop_part b z first q begun x u os n p (inl h) = go (has_cases h.1)
  where
    go : (p ≡ q) ⊎ Has p u → LeftAt b.tables.blocks b.current (frame x u ∷ os) n p ⊎ ((b.current ≡ Some n) × Begun first z p)
    go (inr k) = inl (inl (h.0, k))
    go (inl e) = inr (h.0, subst (Begun first z) (sym e) begun)

pop_none : (b : BuildingOf) (x : Held) (first : ℕ) (os : List Frame) → Pops b x first os os
pop_none b x first os n p q = inl q

-- ---- a block ends

closed_row : (b : BuildingOf) (end n : ℕ) (o : Option BlockOf) (ts : List Held) (x : Text) (os : List Frame) (from : ℕ) → from ≤ end → b.current ≡ Some n → slice_get b.tables.blocks n ≡ o → (row : BlockOf) → o ≡ Some row
    → Lay b ts (frame x [] ∷ os) from → Lay (closed_at b end n o) ts os end
closed_row b end n None ts x os from le cur at found is l = absurd (cc)
closed_row b end n (Some row) ts x os from le cur at found is l = record {
  size = length-set bs n new ∙ l.size;
  stack = subst (λ z. Stack cs ts z os) (ap around at) (stack_kept bs cs ts ts keep os (around (slice_get bs n)) (subst (λ z. Stack bs ts (around (slice_get bs z)) os) (some_same l.stack.0 n (sym l.stack.1 ∙ cur)) l.stack.3));
  reach = (let e : length (placed b.tables b.current end).places ≡ end = reached b.tables.places b.current end (let q : length b.tables.places ≤ from = l.reach in omega arith) in omega arith);
  done = λ m y p is has. done m p (l.done m y p is has);
  firsts = λ k found is other. first_stays k found other (nat_eq n k) refl is;
  joins = λ m i a is. joins_kept bs cs ts ts keep l.joins m i a is;
  below = λ d r is. (let lt : r.token.0 < from = l.below d r is in omega arith);
  rising = l.rising;
  bare = record { blocks = λ j. kept_set extras_in bs n row new at refl j ∙ l.bare.blocks j };
  written = λ i q is. (let w = l.written i q is in (w.0, later w.0 q.class.token.0 w.1, in_block q.declaration w.0 w.2));
}
  where
    bs : List BlockOf
    bs = b.tables.blocks

    new : BlockOf
    new = record row { end = end }

    cs : List BlockOf
    cs = slice_set b.tables.blocks n (record row { end = end })

    c : BuildingOf
    c = closed_at b end n (Some row)

    keep : Keeps b.tables.blocks (slice_set b.tables.blocks n (record row { end = end })) ts ts
    keep j y is = (kept_set around bs n row new at refl j, is, kept_set first_in bs n row new at refl j)

    later : (m j : ℕ) → Here b from m j → Here c end m j
    later m j h = inl (filled_here b from end m j le l.reach h)

    in_block : (d : DeclNo) (m : ℕ) → InBlock b.tables d m → InBlock c.tables d m
    in_block d m (inl a) = inl (subst (Among d) (sym (kept_set numbers_in bs n row new at refl m)) a)
    in_block d m (inr q) = inr q

    first_stays : (k : ℕ) (found : BlockOf) → is_standard_class found.kind ≡ false → (z : Bool) → nat_eq n k ≡ z → slice_get (slice_set b.tables.blocks n (record row { end = end })) k ≡ Some found → Here c end k found.first
    first_stays k found other true e is =
        let same : n ≡ k = grind (arith, nat_tests) in
        let one : new ≡ found = some_same new found (sym (set_here bs n row new at) ∙ subst (λ z. slice_get cs z ≡ Some found) (sym same) is) in
        later k found.first (subst (λ z. Here b from z found.first) same (subst (λ z. Here b from n z) (ap (λ (z : BlockOf). z.first) one) (l.firsts n row at (ap (λ (z : BlockOf). is_standard_class z.kind) one ∙ other))))
    first_stays k found other false e is = later k found.first (l.firsts k found (sym (set_other bs n k new e) ∙ is) other)

    under : Stack b.tables.blocks ts (around (slice_get b.tables.blocks n)) os
    under = subst (λ z. Stack bs ts (around (slice_get bs z)) os) (some_same l.stack.0 n (sym l.stack.1 ∙ cur)) l.stack.3

    done : (m : ℕ) (p : Part) → Fact b ts from m p ⊎ LeftAt bs b.current (frame x [] ∷ os) m p → Fact c ts end m p ⊎ LeftAt cs row.encloser os m p
    done m p (inl f) = inl (fact_moves b c ts ts from end keep later m p f)
    done m p (inr (inl q)) = absurd (elim q.1 [ ])
    done m p (inr (inr q)) =
        let e : out bs b.current ≡ around (slice_get bs n) = ap (out bs) cur in
        inr (subst (λ z. LeftAt cs z os m p) (ap around at) (left_kept bs cs ts ts keep os (around (slice_get bs n)) m p under (subst (λ z. LeftAt bs z os m p) e q)))

closed_laid : (b : BuildingOf) (end : ℕ) (ts : List Held) (x : Text) (os : List Frame) (from : ℕ) → from ≤ end → (l : Lay b ts (frame x [] ∷ os) from) → (row : BlockOf) → slice_get b.tables.blocks l.stack.0 ≡ Some row → Lay (closed b end b.current) ts os end
closed_laid b end ts x os from le l row at = subst (λ o. Lay (closed b end o) ts os end) (sym l.stack.1) (closed_row b end l.stack.0 (slice_get b.tables.blocks l.stack.0) ts x os from le l.stack.1 refl row at l)

-- ---- the classes of a standard prefix

standard_laid : (p : StandardPrefix) (front : Identifier) (spelt : Spells p front) (b : BuildingOf) (n token : ℕ) (r : BlockOf) → is_prefixable r.kind ≡ true → length b.tables.blocks ≡ n + 1 → slice_get b.tables.blocks n ≡ Some r → (ts : List Held) (x : Text) (u : List Part) (os : List Frame) (from : ℕ) → token < from
    → Lay b ts (frame x u ∷ os) from → Lay (with_standard p b n token (prefixed_by front r)) (ts ++ all_held (brought_texts p)) (frame x u ∷ os) from
standard_laid p front spelt b n token r able last at ts x u os from token_lt l = record {
  size = (let e : length (slice_set b.tables.blocks n (bringing p (length b.tables.declarations) (prefixed_by front r))) ≡ length b.tables.blocks = length-set b.tables.blocks n (bringing p (length b.tables.declarations) (prefixed_by front r)) in
      let s : length b.tables.blocks ≡ length ts = l.size in
      length-append (slice_set b.tables.blocks n (bringing p (length b.tables.declarations) (prefixed_by front r))) (added_rows n (length b.tables.declarations) r.level p) ∙ (let m : length (added_rows n (length b.tables.declarations) r.level p) ≡ length (all_held (brought_texts p)) = as_many p in let z : length (slice_set b.tables.blocks n (bringing p (length b.tables.declarations) (prefixed_by front r))) + length (added_rows n (length b.tables.declarations) r.level p) ≡ length ts + length (all_held (brought_texts p)) = omega arith in z) ∙ sym (length-append ts (all_held (brought_texts p))));
  stack = stack_kept bs cs ts us keep (frame x u ∷ os) b.current l.stack;
  reach = l.reach;
  done = λ m y q is has. done m y q has (parts_get ts (all_held (brought_texts p)) m y is);
  firsts = λ k row is other. firsts k row other is (brought.part p front spelt b n token r last at [] k);
  joins = λ m i v is. joins m i v (parts_get ts (all_held (brought_texts p)) m (Joined i v) is);
  below = λ d row is. below row (brought.row_part p front spelt b n token r last at [] d row is);
  rising = λ d e row other is to lt o. rising d e row other lt o (brought.row_part p front spelt b n token r last at [] d row is) (brought.row_part p front spelt b n token r last at [] e other to);
  bare = brought.standard_bare p front spelt b n token r last at [] able l.bare;
  written = λ i q is. (let w = l.written i q is in (w.0, later w.0 q.class.token.0 w.1, in_block q.declaration w.0 w.2));
}
  where
    bs : List BlockOf
    bs = b.tables.blocks

    cs : List BlockOf
    cs = (with_standard p b n token (prefixed_by front r)).tables.blocks

    us : List Held
    us = ts ++ all_held (brought_texts p)

    keep : Keeps b.tables.blocks (with_standard p b n token (prefixed_by front r)).tables.blocks ts (ts ++ all_held (brought_texts p))
    keep m y is =
        let lt : m < length ts = slice_get_within ts m y is in
        let s : length b.tables.blocks ≡ length ts = l.size in
        let inner : m < length b.tables.blocks = omega arith in
        (brought.old_same p front spelt b n token r last at [] around refl m inner, more_at ts (all_held (brought_texts p)) m y is, brought.old_same p front spelt b n token r last at [] first_in refl m inner)

    later : (m j : ℕ) → Here b from m j → Here (with_standard p b n token (prefixed_by front r)) from m j
    later m j h = h

    in_block : (d : DeclNo) (m : ℕ) → InBlock b.tables d m → InBlock (with_standard p b n token (prefixed_by front r)).tables d m
    in_block d m (inr q) = inr (q.0, brought.old_row p front spelt b n token r last at [] d.0 q.0 q.1, q.2)
    in_block d m (inl a) = go (slice_get b.tables.blocks m) refl a
      where
        go : (o : Option BlockOf) → slice_get b.tables.blocks m ≡ o → Among d (numbers_in o) → InBlock (with_standard p b n token (prefixed_by front r)).tables d m
        go None is a = elim a [ ]
        go (Some row) is a = inl (subst (Among d) (sym (brought.old_same p front spelt b n token r last at [] numbers_in refl m (slice_get_within b.tables.blocks m row is) ∙ ap numbers_in is)) a)

    as_many : (c : StandardPrefix) → length (added_rows n (length b.tables.declarations) r.level c) ≡ length (all_held (brought_texts c))
    as_many prefixes.Simset = refl
    as_many prefixes.Simulation = refl

    held_at : (xs : List Text) (i : ℕ) (y : Held) → slice_get (all_held xs) i ≡ Some y → (z : Text) × (slice_get xs i ≡ Some z) × (y ≡ Whole z)
    held_at [] i y e = absurd (cc)
    held_at (z ∷ xs) zero y e = (z, refl, sym (some_same (Whole z) y e))
    held_at (z ∷ xs) (suc i) y e = held_at xs i y e

    nothing_used : (i : ℕ) (y : Held) → slice_get (all_held (brought_texts p)) i ≡ Some y → used_held y ≡ []
    nothing_used i y e = let h = held_at (brought_texts p) i y e in ap used_held h.2 ∙ ap text_used (text_brought p i h.0 h.1).1

    done : (m : ℕ) (y : Held) (a : Part) → Has a (used_held y) → ((m < length ts) × (slice_get ts m ≡ Some y)) ⊎ ((i : ℕ) × (m ≡ length ts + i) × (slice_get (all_held (brought_texts p)) i ≡ Some y))
        → Fact (with_standard p b n token (prefixed_by front r)) (ts ++ all_held (brought_texts p)) from m a ⊎ LeftAt (with_standard p b n token (prefixed_by front r)).tables.blocks b.current (frame x u ∷ os) m a
    done m y a has (inl q) = go (l.done m y a q.1 has)
      where
        go : Fact b ts from m a ⊎ LeftAt b.tables.blocks b.current (frame x u ∷ os) m a → Fact (with_standard p b n token (prefixed_by front r)) (ts ++ all_held (brought_texts p)) from m a ⊎ LeftAt (with_standard p b n token (prefixed_by front r)).tables.blocks b.current (frame x u ∷ os) m a
        go (inl f) = inl (fact_moves b (with_standard p b n token (prefixed_by front r)) ts (ts ++ all_held (brought_texts p)) from from keep later m a f)
        go (inr k) = inr (left_kept b.tables.blocks (with_standard p b n token (prefixed_by front r)).tables.blocks ts (ts ++ all_held (brought_texts p)) keep (frame x u ∷ os) b.current m a l.stack k)
    done m y a has (inr q) = absurd (let h : Has a [] = subst (Has a) (nothing_used q.0 y q.2) has in elim h [ ])

    known : Option BlockOf → Option (ℕ × Bool)
    known None = None
    known (Some row) = Some (row.first, is_standard_class row.kind)

    same_row : (o : Option BlockOf) (new : BlockOf) → known o ≡ known (Some new) → (old : BlockOf) × (o ≡ Some old) × (old.first ≡ new.first) × (is_standard_class old.kind ≡ is_standard_class new.kind)
    same_row None new e = absurd (cc)
    same_row (Some old) new e =
        let both : (old.first, is_standard_class old.kind) ≡ (new.first, is_standard_class new.kind) = some_same {A = ℕ × Bool} (old.first, is_standard_class old.kind) (new.first, is_standard_class new.kind) e in
        (old, refl, ap (λ (z : ℕ × Bool). z.0) both, ap (λ (z : ℕ × Bool). z.1) both)

    firsts : (k : ℕ) (row : BlockOf) → is_standard_class row.kind ≡ false → slice_get (with_standard p b n token (prefixed_by front r)).tables.blocks k ≡ Some row → (k < length b.tables.blocks) ⊎ ((i : ℕ) × (k ≡ n + 1 + i)) → Here (with_standard p b n token (prefixed_by front r)) from k row.first
    firsts k row other is (inl lt) =
        let q = same_row (slice_get b.tables.blocks k) row (sym (brought.old_same p front spelt b n token r last at [] known refl k lt) ∙ ap known is) in
        subst (λ z. Here (with_standard p b n token (prefixed_by front r)) from k z) q.2 (l.firsts k q.0 q.1 (q.3 ∙ other))
    firsts k row other is (inr q) =
        let a = row_added n (length b.tables.declarations) token r.level p q.0 row (sym (brought.new_get p front spelt b n token r last at [] q.0) ∙ ap (slice_get (with_standard p b n token (prefixed_by front r)).tables.blocks) (sym q.1) ∙ is) in
        absurd (let z : true ≡ false = sym (ap is_standard_class a.kind) ∙ other in cc)

    joins : (m i : ℕ) (v : Statement) → ((m < length ts) × (slice_get ts m ≡ Some (Joined i v))) ⊎ ((j : ℕ) × (m ≡ length ts + j) × (slice_get (all_held (brought_texts p)) j ≡ Some (Joined i v)))
        → (first_in (slice_get (with_standard p b n token (prefixed_by front r)).tables.blocks m) ≡ i) × ((w : ℕ) × (around (slice_get (with_standard p b n token (prefixed_by front r)).tables.blocks m) ≡ Some w))
    joins m i v (inl q) = joins_kept b.tables.blocks (with_standard p b n token (prefixed_by front r)).tables.blocks ts (ts ++ all_held (brought_texts p)) keep l.joins m i v q.1
    joins m i v (inr q) = absurd (no_joined q.0 q.2)
      where
        no_joined : (j : ℕ) → slice_get (all_held (brought_texts p)) j ≡ Some (Joined i v) → ⊥
        no_joined j e = let h = held_at (brought_texts p) j (Joined i v) e in let z : Joined i v ≡ Whole h.0 = h.2 in cc

    RowPart : ℕ → Declaration → Type 0
    RowPart d row = ((d < length b.tables.declarations) × (slice_get b.tables.declarations d ≡ Some row)) ⊎ ((i : ℕ) × (d ≡ length b.tables.declarations + i) × Added p n (length b.tables.declarations) token r.level i row)

    added_token : (i : ℕ) (row : Declaration) → Added p n (length b.tables.declarations) token r.level i row → row.token.0 ≡ token
    added_token i row (a_class c) = c.token
    added_token i row (an_attribute c) = c.token
    added_token i row (an_own c) = c.token

    below : {d : ℕ} (row : Declaration) → RowPart d row → row.token.0 < from
    below row (inl q) = l.below _ row q.1
    below row (inr q) = let e : row.token.0 ≡ token = added_token q.0 row q.2 in omega arith

    rising : (d e : ℕ) (row other : Declaration) → d < e → IsOwn other → RowPart d row → RowPart e other → row.token.0 < other.token.0
    rising d e row other lt o (inl w) (inl q) = l.rising d e row other w.1 q.1 lt o
    rising d e row other lt o (inr w) (inl q) = let f : d ≡ length b.tables.declarations + w.0 = w.1 in let g : e < length b.tables.declarations = q.0 in absurd (omega arith)
    rising d e row other lt o q (inr (i, same, a_class c)) = absurd (let z : false ≡ true = sym c.listed ∙ o.0 in cc)
    rising d e row other lt o q (inr (i, same, an_attribute c)) = absurd (let z : true ≡ false = sym (ap is_attribute c.entry) ∙ o.1 in cc)
    rising d e row other lt o q (inr (i, same, an_own c)) = absurd (let z : false ≡ true = sym c.listed ∙ o.0 in cc)

-- ---- the whole

-- a text has a row
row_of_text : (b : BuildingOf) (ts : List Held) (os : List Frame) (from : ℕ) → Lay b ts os from → (n : ℕ) (x : Held) → slice_get ts n ≡ Some x → (row : BlockOf) × (slice_get b.tables.blocks n ≡ Some row)
row_of_text b ts os from l n x is =
    let lt : n < length ts = slice_get_within ts n x is in
    let e : length b.tables.blocks ≡ length ts = l.size in go b.tables.blocks n (omega arith)
  where
    go : (bs : List BlockOf) (n : ℕ) → n < length bs → (row : BlockOf) × (slice_get bs n ≡ Some row)
    go [] n lt = absurd (omega arith)
    go (c ∷ bs) zero lt = (c, refl)
    go (c ∷ bs) (suc n) lt = let e : length (c ∷ bs) ≡ suc (length bs) = omega arith in go bs n (omega arith)

-- where the marks lead, and how far the tokens reach
pub record Final (b : BuildingOf) (ts : List Held) : Type 0 where
  pub to : ℕ
  pub laid : Lay b ts [] to

-- an identifier is declared
named_laid : (b c : BuildingOf) (x : Identifier) (e : Entry) (n : ℕ) (ts : List Held) (o : Frame) (os : List Frame) (from : ℕ) → Step b c (Declared (length b.tables.declarations) x e n) → from ≤ x.token.0 → WrittenBy b c from → Lay b ts (o ∷ os) from → Lays c ts (o ∷ os) from (x.token.0 + 1)
named_laid b c x e n ts o os from s le by f =
    step_laid b c (Declared (length b.tables.declarations) x e n) s ts (o ∷ os) from (x.token.0 + 1) (omega arith)
    (λ d row q. (q.0, (let t : row.token.0 ≡ x.token.0 = ap (λ (z : TokenNo). z.0) q.1.1 in omega arith), (let t : row.token.0 ≡ x.token.0 = ap (λ (z : TokenNo). z.0) q.1.1 in omega arith))) by f

quiet_laid : (b c : BuildingOf) (ts : List Held) (os : List Frame) (from : ℕ) → Step b c Nothing → WrittenBy b c from → Lay b ts os from → Lay c ts os from
quiet_laid b c ts os from s by f = step_laid b c Nothing s ts os from from (let z : from ≤ from = omega arith in z) (λ d row q. absurd q) by f

-- the block that begins
opened_kind : (b : BuildingOf) (k : BlockKind) (text first n : ℕ) (row : BlockOf) → (opened b k text first).current ≡ Some n → slice_get (opened b k text first).tables.blocks n ≡ Some row → row.kind ≡ k
opened_kind b k text first n row = go (nat_lt most_levels (level_in k (block_around b.tables b.current)))
  where
    at_end : Some (length b.tables.blocks) ≡ Some n → slice_get (b.tables.blocks ++ fresh b k first ∷ []) n ≡ Some row → row.kind ≡ k
    at_end cur at =
        let same : length b.tables.blocks ≡ n = some_same (length b.tables.blocks) n cur in
        let one : fresh b k first ≡ row = some_same (fresh b k first) row (sym (more_here b.tables.blocks (fresh b k first)) ∙ subst (λ z. slice_get (b.tables.blocks ++ fresh b k first ∷ []) z ≡ Some row) (sym same) at) in
        sym (ap (λ (z : BlockOf). z.kind) one)

    made : BuildingOf
    made = record b { tables = record b.tables { blocks = b.tables.blocks ++ fresh b k first ∷ []; places = (placed b.tables b.current first).places }; current = Some (length b.tables.blocks) }

    go : (c : Bool) → (broken_if c made text r.TooManyLevels).current ≡ Some n → slice_get (broken_if c made text r.TooManyLevels).tables.blocks n ≡ Some row → row.kind ≡ k
    go true cur at = at_end cur at
    go false cur at = at_end cur at

-- classes that are written stay where a parameter is declared, and where a heading ends
parameter_refs : (b : BuildingOf) (x : Identifier) (n : ℕ) → b.current ≡ Some n → (parameter_of b x).tables.qualifications ≡ b.tables.qualifications
parameter_refs b x n cur = go (declared b x (entry.Unspecified None)) (declared b x (entry.Unspecified None)).current ∙ declared_refs b x (entry.Unspecified None) n cur
  where
    go : (c : BuildingOf) (o : Option ℕ) → (counted_in c o).tables.qualifications ≡ c.tables.qualifications
    go c None = refl
    go c (Some m) = row (slice_get c.tables.blocks m)
      where
        row : (o : Option BlockOf) → (counted c m o).tables.qualifications ≡ c.tables.qualifications
        row None = refl
        row (Some found) = refl

headed_refs : (b : BuildingOf) (token : TokenNo) (o : Option (Option WrittenMode)) → (headed_of b token o).tables.qualifications ≡ b.tables.qualifications
headed_refs b token None = refl
headed_refs b token (Some written) = refl

prefs_laid : (b : BuildingOf) (prefs : List Mark) (ts : List Held) (os : List Frame) (from : ℕ) → Prefs prefs → (n : ℕ) → b.current ≡ Some n → ((row : BlockOf) → slice_get b.tables.blocks n ≡ Some row → is_prefixable row.kind ≡ true) → Lay b ts os from → Lay (run marked b prefs) ts os from
unfolding run marked
prefs_laid b [] ts os from unprefixed n cur class l = l
prefs_laid b ms ts os from (prefixed y p) n cur class l = quiet_laid b (changed b (prefixed_by y) b.current) ts os from (prefix_step b y n cur p class) (written_none b (changed b (prefixed_by y) b.current) from (prefix_quiet b y b.current).0) l

-- a block with a prefix is a part of the text around, or the program
stands_stack : (bs : List BlockOf) (hs : List Held) (current : Option ℕ) (i : ℕ) (ps os : List Frame) → Stands i ps os → Stack bs hs current ps → Stack bs hs current os
stands_stack bs hs current i ps os (among x u) s = s
stands_stack bs hs current i ps os outermost s = s

stands_pops : (b : BuildingOf) (class : Identifier) (es : Expressions) (ds : Declarations) (ss : Statements) (i : ℕ) (ps os : List Frame) → Stands i ps os → Pops b (Whole (PrefixedText class es ds ss)) i ps os
stands_pops b class es ds ss i ps os (among {os = qs} x u) = pop_part b (Whole (PrefixedText class es ds ss)) i (Pre i) (refl, (class, es, ds, ss, refl)) x u qs
stands_pops b class es ds ss i ps os outermost = pop_none b (Whole (PrefixedText class es ds ss)) i []

-- a standard prefix in front of the innermost block, which has just begun
standard_run : (p : StandardPrefix) (c : BuildingOf) (top : FreshTop c) (token : ℕ) (y : Identifier) (ts : List Held) (x : Text) (u : List Part) (os : List Frame) (from : ℕ) → Spells p y → token < from → ((row : BlockOf) → slice_get c.tables.blocks top.number ≡ Some row → is_prefixable row.kind ≡ true)
    → Lay c ts (frame x u ∷ os) from → Lay (run marked c (whole_prefix p token y)) (ts ++ all_held (brought_texts p)) (frame x u ∷ os) from
standard_run p c top token y ts x u os from spelt lt class l =
    subst (λ d. Lay d (ts ++ all_held (brought_texts p)) (frame x u ∷ os) from) (sym (brought_is p c top token y))
    (standard_laid p y spelt c top.number token top.row (class top.row top.at) top.last top.at ts x u os from lt l)

pub run_laid : {r : List ℕ} {os : List Frame} {ms : List Mark} {l : List Spot} {xs : List Held} (b : BuildingOf) (ts : List Held) (from : ℕ) → Laid r os ms l xs → AreRecent b r from → Ascends from l → Lay b ts os from → Final (run marked b ms) (ts ++ xs)
unfolding run marked
run_laid {os = os} b ts from (nothing e) w a f = record { to = from; laid = subst (λ z. Lay b z [] from) (sym (append-nil ts)) (subst (λ z. Lay b ts z from) e f) }
run_laid b ts from (uses {os = os} x u i g) w a f = run_laid b ts (i + 1) g (later_recent b b _ from (i + 1) refl (let le : from ≤ i = a.0 in let z : from ≤ i + 1 = omega arith in z) w) a.1 (use_laid b ts x u i os from a.0 f)
run_laid {os = os} b ts from (passes i g) w a f = run_laid b ts (i + 1) g (later_recent b b _ from (i + 1) refl (let le : from ≤ i = a.0 in let z : from ≤ i + 1 = omega arith in z) w) a.1 (later_laid b ts os from from (i + 1) (let le : from ≤ i = a.0 in omega arith) (let le : from ≤ i = a.0 in omega arith) f)
run_laid {os = os} b ts from (classes i g) w a f = run_laid b ts (i + 1) g (one_recent b _ from i f.reach a.0 w) a.1 (later_laid b ts os from from (i + 1) (let le : from ≤ i = a.0 in omega arith) (let le : from ≤ i = a.0 in omega arith) f)
run_laid {os = os} b ts from (leaves i g) w a f = run_laid b ts i g (later_recent b b _ from i refl a.0 w) a.1 (later_laid b ts os from from i a.0 a.0 f)
run_laid b ts from (declares {r = r} {o = o} {os = os} {ms = ms} {hs = xs} quals x e may q now g) w a f =
    let n : ℕ = f.stack.0 in
    let c : BuildingOf = run marked (declared b x e) quals in
    let s : Step b c (Declared (length b.tables.declarations) x e n) = quals_step b (declared b x e) (Declared (length b.tables.declarations) x e n) (OfReferences e) quals q (declared_step b x e n (declarable_unmatched e may) f.stack.1) in
    let row = row_of_text b ts (o ∷ os) from f n f.stack.2.0 f.stack.2.1 in
    let by = written_here b (declared b x e) c r (OfReferences e) quals n from q now w (declared_latest b x e n row.0 f.stack.1 row.1) (declared_refs b x e n f.stack.1) refl s.places (s.current ∙ f.stack.1) in
    subst (λ z. Final z (ts ++ xs)) (sym (run_both (declared b x e) quals ms))
    (run_laid c ts (x.token.0 + 1) g (later_recent b c r from (x.token.0 + 1) s.places (let le : from ≤ x.token.0 = a.0 in let z : from ≤ x.token.0 + 1 = omega arith in z) w) a.1
    (later_laid c ts (o ∷ os) from (x.token.0 + 1) (x.token.0 + 1) (let le : from ≤ x.token.0 = a.0 in omega arith) (let z : x.token.0 + 1 ≤ x.token.0 + 1 = omega arith in z)
    (named_laid b c x e n ts o os from s a.0 by f)))
run_laid b ts from (parameter {o = o} {os = os} x g) w a f =
    let n : ℕ = f.stack.0 in
    let s = parameter_step b x n f.stack.1 in
    run_laid (parameter_of b x) ts (x.token.0 + 1) g (later_recent b (parameter_of b x) _ from (x.token.0 + 1) s.places (let le : from ≤ x.token.0 = a.0 in let z : from ≤ x.token.0 + 1 = omega arith in z) w) a.1
    (later_laid (parameter_of b x) ts (o ∷ os) from (x.token.0 + 1) (x.token.0 + 1) (let le : from ≤ x.token.0 = a.0 in omega arith) (let z : x.token.0 + 1 ≤ x.token.0 + 1 = omega arith in z)
    (named_laid b (parameter_of b x) x (entry.Unspecified None) n ts o os from s a.0 (written_none b (parameter_of b x) from (parameter_refs b x n f.stack.1)) f))
run_laid {os = os} b ts from (moded x m g) w a f = (
    let c : BuildingOf = moded_of b x.token m (found_in b.tables b.current x.name) in
    let s = moded_step b x.token m (found_in b.tables b.current x.name) in
    run_laid c ts from g (later_recent b c _ from from s.places (let z : from ≤ from = omega arith in z) w) a (quiet_laid b c ts os from s (written_none b c from (moded_quiet b x.token m (found_in b.tables b.current x.name)).0) f))
run_laid b ts from (specified {r = r} {o = o} {os = os} {ms = ms} {hs = xs} quals x k ty p q now g) w a f =
    let c : BuildingOf = specified_of (met b (found_in b.tables b.current x.name)) x.token k ty (found_in b.tables b.current x.name) in
    let n : ℕ = f.stack.0 in
    let s = quals_step b c Nothing (AreReferences ty) quals q (specified_met b x.token k ty (found_in b.tables b.current x.name) p) in
    let same = (specified_quiet (met b (found_in b.tables b.current x.name)) x.token k ty (found_in b.tables b.current x.name)).0 in
    let by = written_here b c (run marked c quals) r (AreReferences ty) quals n from q now w (parameter_latest b x x.token k ty n p f.stack.1) same refl s.places (s.current ∙ f.stack.1) in
    subst (λ z. Final z (ts ++ xs)) (sym (run_both c quals ms))
    (run_laid (run marked c quals) ts from g (later_recent b (run marked c quals) r from from s.places (let z : from ≤ from = omega arith in z) w) a (quiet_laid b (run marked c quals) ts (o ∷ os) from s by f))
run_laid {os = os} b ts from (headed x g) w a f = (
    let c : BuildingOf = headed_of b x.token (unspecified_at b.tables (found_in b.tables b.current x.name)) in
    let s = headed_step b x.token (unspecified_at b.tables (found_in b.tables b.current x.name)) in
    run_laid c ts from g (later_recent b c _ from from s.places (let z : from ≤ from = omega arith in z) w) a (quiet_laid b c ts os from s (written_none b c from (headed_refs b x.token (unspecified_at b.tables (found_in b.tables b.current x.name)))) f))
run_laid {os = os} b ts from (inner_mark token g) w a f = (
    let c : BuildingOf = inner_of b token b.current in
    let s = inner_step b token b.current refl in
    run_laid c ts from g (later_recent b c _ from from s.places (let z : from ≤ from = omega arith in z) w) a (quiet_laid b c ts os from s (written_none b c from (inner_quiet b token b.current).0) f))
run_laid {os = os} b ts from (guarded hides keeps y g) w a f = (
    let c : BuildingOf = guards b hides keeps y b.current in
    let s = guards_step b hides keeps y b.current refl in
    run_laid c ts from g (later_recent b c _ from from s.places (let z : from ≤ from = omega arith in z) w) a (quiet_laid b c ts os from s (written_none b c from (guards_quiet b hides keeps y b.current).0) f))
run_laid {os = os} b ts from (breaks_rule token rule g) w a f = (
    let c : BuildingOf = broken b token rule in
    let s = rule_step b token rule in
    run_laid c ts from g (later_recent b c _ from from s.places (let z : from ≤ from = omega arith in z) w) a (quiet_laid b c ts os from s (written_none b c from refl) f))
run_laid b ts from (program {ms = ms} {hs = xs} text i ds ss g) w a f =
    let x : Held = Whole (BlockText i ds ss) in
    let q = run_laid (opened b kind.Program text i) (ts ++ x ∷ []) (i + 1) g (none_recent (opened b kind.Program text i) (i + 1)) a.1 (opened_laid b kind.Program text i ts x [] [] from from tt a.0 (let le : from ≤ i = a.0 in omega arith) f f.stack (pop_none b x i [])) in
    record { to = q.to; laid = subst (λ z. Lay (run marked (opened b kind.Program text i) ms) z [] q.to) (append_assoc ts (x ∷ []) xs) q.laid }
run_laid b ts from (block {os = os} {ms = ms} {hs = xs} text i ds ss y u g) w a f =
    let x : Held = Whole (BlockText i ds ss) in
    let q = run_laid (opened b kind.SubBlock text i) (ts ++ x ∷ []) (i + 1) g (none_recent (opened b kind.SubBlock text i) (i + 1)) a.1 (opened_laid b kind.SubBlock text i ts x (frame y (Sub i ∷ u) ∷ os) (frame y u ∷ os) from from tt a.0 (let le : from ≤ i = a.0 in omega arith) f f.stack (pop_part b x i (Sub i) (refl, (ds, ss, refl)) y u os)) in
    record { to = q.to; laid = subst (λ z. Lay (run marked (opened b kind.SubBlock text i) ms) z [] q.to) (append_assoc ts (x ∷ []) xs) q.laid }
run_laid b ts from (prefixed_block {os = os} {ms = ms} {hs = xs} text i class es ds ss {ps = ps} plain stands g) w a f =
    let x : Held = Whole (PrefixedText class es ds ss) in
    let o : BuildingOf = opened b kind.Prefixed text i in
    let c : BuildingOf = changed o (prefixed_by class) o.current in
    let l = opened_laid b kind.Prefixed text i ts x ps os from from tt a.0 (let le : from ≤ i = a.0 in omega arith) f (stands_stack b.tables.blocks ts b.current i ps os stands f.stack) (stands_pops b class es ds ss i ps os stands) in
    let q = run_laid c (ts ++ x ∷ []) (i + 1) g (none_recent c (i + 1)) a.1
    (quiet_laid o c (ts ++ x ∷ []) (frame (PrefixedText class es ds ss) (text_used (PrefixedText class es ds ss)) ∷ os) (i + 1) (prefix_step o class l.stack.0 l.stack.1 plain (λ row at. ap is_prefixable (opened_kind b kind.Prefixed text i l.stack.0 row l.stack.1 at))) (written_none o c (i + 1) (prefix_quiet o class o.current).0) l) in
    record { to = q.to; laid = subst (λ z. Lay (run marked c ms) z [] q.to) (append_assoc ts (x ∷ []) xs) q.laid }
run_laid b ts from (standard_block {os = os} {ms = ms} {hs = xs} p text i class es ds ss {ps = ps} e stands g) w a f =
    let x : Held = Whole (PrefixedText class es ds ss) in
    let o : BuildingOf = opened b kind.Prefixed text i in
    let top = opened_top b kind.Prefixed text i in
    let k : BuildingOf = run marked o (whole_prefix p i class) in
    let l = opened_laid b kind.Prefixed text i ts x ps os from from tt a.0 (let le : from ≤ i = a.0 in omega arith) f (stands_stack b.tables.blocks ts b.current i ps os stands f.stack) (stands_pops b class es ds ss i ps os stands) in
    let q = run_laid k ((ts ++ x ∷ []) ++ all_held (brought_texts p)) (i + 1) g (none_recent k (i + 1)) a.1
    (standard_run p o top i class (ts ++ x ∷ []) (PrefixedText class es ds ss) (text_used (PrefixedText class es ds ss)) os (i + 1) e (let z : i < i + 1 = omega arith in z) (λ row at. ap is_prefixable (opened_kind b kind.Prefixed text i top.number row top.current at)) l) in
    subst (λ z. Final z (ts ++ (x ∷ (all_held (brought_texts p) ++ xs)))) (sym (run_both o (whole_prefix p i class) ms))
    (record { to = q.to; laid = subst (λ z. Lay (run marked k ms) z [] q.to) (append_assoc (ts ++ x ∷ []) (all_held (brought_texts p)) xs ∙ append_assoc ts (x ∷ []) (all_held (brought_texts p) ++ xs)) q.laid })
run_laid b ts from (connects {os = os} {ms = ms} {hs = xs} text i v y u g) w a f =
    let x : Held = Joined i v in
    let q = run_laid (opened b kind.Connection text i) (ts ++ x ∷ []) (i + 1) g (none_recent (opened b kind.Connection text i) (i + 1)) a.1 (opened_laid b kind.Connection text i ts x (frame y (Con i v ∷ u) ∷ os) (frame y u ∷ os) from from (refl, (f.stack.0, f.stack.1)) a.0 (let le : from ≤ i = a.0 in omega arith) f f.stack (pop_part b x i (Con i v) (refl, refl) y u os)) in
    record { to = q.to; laid = subst (λ z. Lay (run marked (opened b kind.Connection text i) ms) z [] q.to) (append_assoc ts (x ∷ []) xs) q.laid }
run_laid b ts from (procedure {r = r} {o = o} {os = os} {ms = ms} {hs = xs} text quals result h body q now g) w a f =
    let x : Held = Whole (ProcedureText result h body) in
    let n : ℕ = f.stack.0 in
    let i : ℕ = h.name.token.0 in
    let e : Entry = entry.Procedure (result_named result) (length b.tables.blocks) in
    let c0 : BuildingOf = declared b h.name (entry.Procedure (result_named result) (length b.tables.blocks)) in
    let c : BuildingOf = run marked c0 quals in
    let s : Step b c (Declared (length b.tables.declarations) h.name e n) = quals_step b c0 (Declared (length b.tables.declarations) h.name e n) (AreReferences (result_named result)) quals q (declared_step b h.name e n (procedure_unmatched (result_named result) (length b.tables.blocks)) f.stack.1) in
    let row = row_of_text b ts (o ∷ os) from f n f.stack.2.0 f.stack.2.1 in
    let by = written_here b c0 c r (AreReferences (result_named result)) quals n from q now w (declared_latest b h.name e n row.0 f.stack.1 row.1) (declared_refs b h.name e n f.stack.1) refl s.places (s.current ∙ f.stack.1) in
    let k = named_laid b c h.name e n ts o os from s a.0 by f in
    let p = run_laid (opened c kind.Procedure text i) (ts ++ x ∷ []) (i + 1) g (none_recent (opened c kind.Procedure text i) (i + 1)) a.1
    (opened_laid c kind.Procedure text i ts x (o ∷ os) (o ∷ os) from (i + 1) tt a.0 (let z : i + 1 ≤ i + 1 = omega arith in z) k k.stack (pop_none c x i (o ∷ os))) in
    subst (λ z. Final z (ts ++ (x ∷ xs))) (sym (run_both c0 quals (Opens kind.Procedure text i ∷ ms)))
    (record { to = p.to; laid = subst (λ z. Lay (run marked (opened c kind.Procedure text i) ms) z [] p.to) (append_assoc ts (x ∷ []) xs) p.laid })
run_laid b ts from (declares_class {o = o} {os = os} {ms = ms} {hs = xs} text prefs prefix h ds ss plain g) w a f =
    let x : Held = Whole (ClassText prefix h ds ss) in
    let n : ℕ = f.stack.0 in
    let i : ℕ = h.name.token.0 in
    let e : Entry = entry.Class (length b.tables.blocks) in
    let c0 : BuildingOf = changed (declared b h.name (entry.Class (length b.tables.blocks))) holding_class b.current in
    let c : BuildingOf = opened c0 kind.Class text i in
    let same = (holding_same (declared b h.name e) b.current).1 ∙ declared_refs b h.name e n f.stack.1 in
    let k = named_laid b c0 h.name e n ts o os from (class_step b h.name (length b.tables.blocks) n f.stack.1) a.0 (written_none b c0 from same) f in
    let l = opened_laid c0 kind.Class text i ts x (o ∷ os) (o ∷ os) from (i + 1) tt a.0 (let z : i + 1 ≤ i + 1 = omega arith in z) k k.stack (pop_none c0 x i (o ∷ os)) in
    let p = run_laid (run marked c prefs) (ts ++ x ∷ []) (i + 1) g (none_recent (run marked c prefs) (i + 1)) a.1
    (prefs_laid c prefs (ts ++ x ∷ []) (frame (ClassText prefix h ds ss) (text_used (ClassText prefix h ds ss)) ∷ o ∷ os) (i + 1) plain l.stack.0 l.stack.1 (λ row at. ap is_prefixable (opened_kind c0 kind.Class text i l.stack.0 row l.stack.1 at)) l) in
    subst (λ z. Final z (ts ++ (x ∷ xs))) (sym (run_both c prefs ms))
    (record { to = p.to; laid = subst (λ z. Lay (run marked (run marked c prefs) ms) z [] p.to) (append_assoc ts (x ∷ []) xs) p.laid })
run_laid b ts from (standard_class {o = o} {os = os} {ms = ms} {hs = xs} p text y h ds ss e g) w a f =
    let x : Held = Whole (ClassText (Some y) h ds ss) in
    let n : ℕ = f.stack.0 in
    let i : ℕ = h.name.token.0 in
    let c0 : BuildingOf = changed (declared b h.name (entry.Class (length b.tables.blocks))) holding_class b.current in
    let c : BuildingOf = opened c0 kind.Class text i in
    let top = opened_top c0 kind.Class text i in
    let j : BuildingOf = run marked c (whole_prefix p i y) in
    let e' : Entry = entry.Class (length b.tables.blocks) in
    let same = (holding_same (declared b h.name e') b.current).1 ∙ declared_refs b h.name e' n f.stack.1 in
    let k = named_laid b c0 h.name e' n ts o os from (class_step b h.name (length b.tables.blocks) n f.stack.1) a.0 (written_none b c0 from same) f in
    let l = opened_laid c0 kind.Class text i ts x (o ∷ os) (o ∷ os) from (i + 1) tt a.0 (let z : i + 1 ≤ i + 1 = omega arith in z) k k.stack (pop_none c0 x i (o ∷ os)) in
    let q = run_laid j ((ts ++ x ∷ []) ++ all_held (brought_texts p)) (i + 1) g (none_recent j (i + 1)) a.1
    (standard_run p c top i y (ts ++ x ∷ []) (ClassText (Some y) h ds ss) (text_used (ClassText (Some y) h ds ss)) (o ∷ os) (i + 1) e (let z : i < i + 1 = omega arith in z) (λ row at. ap is_prefixable (opened_kind c0 kind.Class text i top.number row top.current at)) l) in
    subst (λ z. Final z (ts ++ (x ∷ (all_held (brought_texts p) ++ xs)))) (sym (run_both c (whole_prefix p i y) ms))
    (record { to = q.to; laid = subst (λ z. Lay (run marked j ms) z [] q.to) (append_assoc (ts ++ x ∷ []) (all_held (brought_texts p)) xs ∙ append_assoc ts (x ∷ []) (all_held (brought_texts p) ++ xs)) q.laid })
run_laid b ts from (closes {os = os} x end g) w a f =
    let row = row_of_text b ts (frame x [] ∷ os) from f f.stack.0 f.stack.2.0 f.stack.2.1 in run_laid (closed b end b.current) ts end g (none_recent (closed b end b.current) end) a.1 (closed_laid b end ts x os from a.0 f row.0 row.1)
