-- The tables of an allowed program have an `inner` of a class just where one is among its statements, and never two.
use Rattle.std.proofs.Common.{◌≡◌, ℕ, zero, suc, Bool, true, false, List, [], ◌∷◌, ◌++◌, length, map, Option, Some, None, refl, sym, ap, ◌∙◌, subst, arith, append-nil, append_assoc}
use Rattle.std.specs.Prelude.{slice_get, slice_set}
use Rattle.std.proofs.lemmas.List.{length-map, map-append}
use Rattle.sim_base.specs.declared.rule.Rule.{Rule}
use Rattle.sim_base.specs.declared.rule.Rule.TheVariants as r
use Rattle.sim_tree.specs.declared.expr.Identifier.{Identifier}
use Rattle.sim_tree.specs.declared.stmt.TypeName.{TypeName}
use Rattle.sim_agree.specs.Order.{InOrder}
use Rattle.sim_tree.specs.Syntax.{Also, Arms, Arrays, Begin, Block, Declaration, Declarations, DeclareClass, DeclareProcedure, Heading, Interface, NoArm, NoDeclaration, NoStatement, Prefix, Program, Statement, Statements, Variables, When, With, Expressions}
use Rattle.sim_tree.specs.Syntax as syntax
use Rattle.sim_scope.specs.declared.found.Fault.{Fault}
use Rattle.sim_scope.specs.declared.types.BlockKind.{BlockKind}
use Rattle.sim_scope.specs.declared.types.BlockKind.TheVariants as kind
use Rattle.sim_scope.specs.declared.types.Position.TheVariants.{ClassBody, ClassStatement, Inside}
use Rattle.sim_scope.specs.Bodies.{body_declarations, body_statements}
use Rattle.sim_scope.specs.Breaks.{all_breaks, at, breaks, broken_by, inner_breaks, inner_breaks_in, inner_breaks_of}
use Rattle.sim_scope.specs.Standard.{standard_prefix}
use Rattle.sim_scope.specs.declared.types.StandardPrefix.{StandardPrefix}
use Rattle.sim_scope.specs.declared.types.StandardPrefix.TheVariants as prefixes
use Rattle.sim_scope.specs.Building.{BuildingOf, Closes, DeclaresClass, DeclaresProcedure, Inner, Mark, Opens, Prefixes, broken_if, block_around, closed, closed_at, inner, inner_at, inner_in, level_in, marked, owner_of, prefixed_by}
use Rattle.sim_scope.specs.Declare.{class_marks, class_prefix_marks, declared_by, declaring, empty, first_of_class, first_of_procedure, heading_marks, inner_marks, interface_marks, procedure_marks, program_marks, qualified_result, result_named, segment_marks, variable_marks, prefix_marks, prefixed_marks}
use Rattle.sim_scope.specs.Runs.{each, run}
use Rattle.sim_scope.specs.Source.{Source}
use Rattle.sim_scope.specs.Tables.{BlockOf}
use Rattle.sim_scope.specs.Walk.{arms_events, begin_of, block_events, declaration_events, declarations_events, program_events, statement_events, statements_events, whole_events}
use Rattle.sim_scope.proofs.Breaking.{least_declared}
use Rattle.sim_scope.proofs.Walks.{run-append}
use Rattle.sim_meaning.specs.Levels.{is_written, written_in}
use Rattle.sim_meaning.specs.Texts.{BlockText, ClassText, ConnectionText, ProcedureText, Text, arms_texts, block_texts, declaration_texts, declarations_texts, program_texts, statement_texts, statements_texts, text, PrefixedText, prefix_texts, prefixed_texts, standard_texts}
use Rattle.sim_agree.specs.Inners.{Inners, InnersIn, NoInner, NoInners, OneInner, here, behind}
use Rattle.sim_agree.specs.TablesOf.{TablesOf}
use Rattle.sim_agree.proofs.Completing.{bare_row}
use Rattle.sim_agree.proofs.BroughtRows.{added_rows, bringing}
use Rattle.sim_agree.proofs.BroughtRuns.{FreshTop, brought_is, brought_top, opened_top}
use Rattle.sim_agree.proofs.Groups.{class_texts, plain_prefix, standard_marks_are, whole_prefix}
use Rattle.sim_agree.proofs.InnerMarks.{AllKeep, InnerRow, Stays, all_stay, inner_row, row_stays, keep_heading, keep_result, keep_segments, keep_variables, keep_both, keep_interface}
use Rattle.sim_agree.proofs.InnerPlaces.{Free, all_free, back, no_fault, no_inner, no_inners, none_first, none_second}
use Rattle.sim_agree.proofs.Tables as t
use Rattle.sim_agree.proofs.StandardPrefixes.{brought_texts, no_texts, texts_of_standard}

-- ---- lists

get_behind : {A : Type 0} (xs ys : List A) (x : A) → slice_get (xs ++ x ∷ ys) (length xs) ≡ Some x
get_behind [] ys x = refl
get_behind (y ∷ xs) ys x = let e : length (y ∷ xs) ≡ suc (length xs) = omega arith in ap (slice_get ((y ∷ xs) ++ x ∷ ys)) e ∙ get_behind xs ys x

set_behind : {A : Type 0} (xs ys : List A) (x y : A) → slice_set (xs ++ x ∷ ys) (length xs) y ≡ xs ++ y ∷ ys
set_behind [] ys x y = refl
set_behind (z ∷ xs) ys x y = let e : length (z ∷ xs) ≡ suc (length xs) = omega arith in ap (λ n. slice_set ((z ∷ xs) ++ x ∷ ys) n y) e ∙ ap (λ w. z ∷ w) (set_behind xs ys x y)

map_set_any : {A B : Type 0} (f : A → B) (xs : List A) (k : ℕ) (x : A) → map f (slice_set xs k x) ≡ slice_set (map f xs) k (f x)
map_set_any f [] k x = refl
map_set_any f (y ∷ ys) zero x = refl
map_set_any f (y ∷ ys) (suc k) x = ap (λ z. f y ∷ z) (map_set_any f ys k x)

some_same : {A : Type 0} (x y : A) → Some x ≡ Some y → x ≡ y
some_same x y e = cc

-- the block of a row
record BlockAt (bs : List BlockOf) (k : ℕ) (x : InnerRow) : Type 0 where
  row : BlockOf
  at : slice_get bs k ≡ Some row
  alike : inner_row row ≡ x

block_of_row : (bs : List BlockOf) (k : ℕ) (x : InnerRow) → slice_get (map inner_row bs) k ≡ Some x → BlockAt bs k x
block_of_row [] k x e = absurd (cc)
block_of_row (b ∷ bs) zero x e = record { row = b; at = refl; alike = some_same (inner_row b) x e }
block_of_row (b ∷ bs) (suc k) x e = let it = block_of_row bs k x e in record { row = it.row; at = it.at; alike = it.alike }

-- ---- rules that are broken

none_both : (xs ys : List Fault) → xs ≡ [] → ys ≡ [] → xs ++ ys ≡ []
none_both xs ys e f = ap (λ z. z ++ ys) e ∙ f

breaks_first : (b : BuildingOf) (m : Mark) (ms : List Mark) → all_breaks b (m ∷ ms) ≡ [] → breaks b m ≡ []
unfolding all_breaks
breaks_first b m ms e = none_first (breaks b m) (all_breaks (marked b m) ms) e

breaks_more : (b : BuildingOf) (m : Mark) (ms : List Mark) → all_breaks b (m ∷ ms) ≡ [] → all_breaks (marked b m) ms ≡ []
unfolding all_breaks
breaks_more b m ms e = none_second (breaks b m) (all_breaks (marked b m) ms) e

breaks_both : (b : BuildingOf) (es fs : List Mark) → all_breaks b (es ++ fs) ≡ [] → (all_breaks b es ≡ []) × (all_breaks (run marked b es) fs ≡ [])
unfolding all_breaks run
breaks_both b [] fs e = (refl, e)
breaks_both b (m ∷ es) fs e =
    let q = breaks_both (marked b m) es fs (none_second (breaks b m) (all_breaks (marked b m) (es ++ fs)) e) in
    (none_both (breaks b m) (all_breaks (marked b m) es) (none_first (breaks b m) (all_breaks (marked b m) (es ++ fs)) e) q.0, q.1)

-- ---- what a piece of program adds

-- each block has an `inner` where its text has one
abbrev Fits : List InnerRow → List Text → Type 0
Fits [] [] = Unit {0}
Fits (x ∷ xs) (y ∷ ys) = InnersIn (is_written x.inner) y × Fits xs ys
Fits [] (y ∷ ys) = ⊥
Fits (x ∷ xs) [] = ⊥

fits_both : (xs : List InnerRow) (ys : List Text) (us : List InnerRow) (vs : List Text) → Fits xs ys → Fits us vs → Fits (xs ++ us) (ys ++ vs)
fits_both [] [] us vs a b = b
fits_both (x ∷ xs) (y ∷ ys) us vs a b = (a.0, fits_both xs ys us vs a.1 b)
fits_both [] (y ∷ ys) us vs a b = absurd a
fits_both (x ∷ xs) [] us vs a b = absurd a

-- behind the blocks so far stand those of these texts
record Grown (rs : List InnerRow) (now : Option ℕ) (ns : List Text) (c : BuildingOf) : Type 0 where
  more : List InnerRow
  stays : Stays (rs ++ more) now c
  fits : Fits more ns

Adds : List Mark → List Text → Type 0
Adds es ns = (b : BuildingOf) (rs : List InnerRow) (now : Option ℕ) → Stays rs now b → all_breaks b es ≡ [] → Grown rs now ns (run marked b es)

stays_as : {k : Option ℕ} {b : BuildingOf} (xs ys : List InnerRow) → xs ≡ ys → Stays xs k b → Stays ys k b
stays_as {k} {b} xs ys e a = subst (λ z. Stays z k b) e a

adds_kept : (es : List Mark) → AllKeep es → Adds es []
unfolding Adds
adds_kept es q b rs now a e = record { more = []; stays = stays_as rs (rs ++ []) (sym (append-nil rs)) (all_stay b es q a); fits = tt }

adds_both : (es fs : List Mark) (ns ms : List Text) → Adds es ns → Adds fs ms → Adds (es ++ fs) (ns ++ ms)
unfolding Adds
adds_both es fs ns ms p q b rs now a e =
    let s = breaks_both b es fs e in
    let one = p b rs now a s.0 in
    let two = q (run marked b es) (rs ++ one.more) now one.stays s.1 in record {
      more = one.more ++ two.more;
      stays = subst (Stays (rs ++ (one.more ++ two.more)) now) (sym (run-append marked b es fs)) (stays_as _ _ (append_assoc rs one.more two.more) two.stays);
      fits = fits_both one.more ns two.more ms one.fits two.fits;
    }

adds_as : (es fs : List Mark) (ns : List Text) → es ≡ fs → Adds es ns → Adds fs ns
adds_as es fs ns e p = subst (λ z. Adds z ns) e p

adds_texts : (es : List Mark) (ns ms : List Text) → ns ≡ ms → Adds es ns → Adds es ms
adds_texts es ns ms e p = subst (Adds es) e p

-- ---- a block

abbrev row : (inner around : Option ℕ) → InnerRow
row inner around = record { inner = inner; encloser = around }

abbrev new_block : BuildingOf → BlockKind → (first : ℕ) → BlockOf
new_block b k first = record {
  kind = k;
  first = first;
  end = first;
  encloser = b.current;
  level = level_in k (block_around b.tables b.current);
  owner = owner_of k b.latest;
  formals = 0;
  inner = None;
  prefix = None;
  base = None;
  standard = None;
  names = [];
  numbers = [];
  has_class = false;
  brought_names = [];
  brought = [];
  protected = [];
  hidden = [];
}

blocks_of_broken : (c : Bool) (b : BuildingOf) (token : ℕ) (rule : Rule) → (broken_if c b token rule).tables.blocks ≡ b.tables.blocks
blocks_of_broken true b token rule = refl
blocks_of_broken false b token rule = refl

current_of_broken : (c : Bool) (b : BuildingOf) (token : ℕ) (rule : Rule) → (broken_if c b token rule).current ≡ b.current
current_of_broken true b token rule = refl
current_of_broken false b token rule = refl

opened_blocks : (b : BuildingOf) (k : BlockKind) (text first : ℕ) → (marked b (Opens k text first)).tables.blocks ≡ b.tables.blocks ++ new_block b k first ∷ []
unfolding marked
opened_blocks b k text first = blocks_of_broken _ _ text r.TooManyLevels

opened_current : (b : BuildingOf) (k : BlockKind) (text first : ℕ) → (marked b (Opens k text first)).current ≡ Some (length b.tables.blocks)
unfolding marked
opened_current b k text first = current_of_broken _ _ text r.TooManyLevels

opens_stays : (k : BlockKind) (text first : ℕ) (b : BuildingOf) (rs : List InnerRow) (now : Option ℕ) → Stays rs now b → Stays (rs ++ row None now ∷ []) (Some (length rs)) (marked b (Opens k text first))
opens_stays k text first b rs now a =
    let n : length b.tables.blocks ≡ length rs = sym (length-map b.tables.blocks inner_row) ∙ ap length a.rows in record {
      rows = ap (map inner_row) (opened_blocks b k text first) ∙ map-append inner_row b.tables.blocks (new_block b k first ∷ []) ∙ ap (λ z. z ++ row None b.current ∷ []) a.rows
          ∙ ap (λ z. rs ++ row None z ∷ []) a.current;
      current = opened_current b k text first ∙ ap Some n;
    }

closes_stays : (rs more : List InnerRow) (within around : Option ℕ) (end : ℕ) (b : BuildingOf) → Stays (rs ++ row within around ∷ more) (Some (length rs)) b → Stays (rs ++ row within around ∷ more) around (marked b (Closes end))
unfolding marked
closes_stays rs more within around end b a = go (block_of_row b.tables.blocks (length rs) (row within around) (ap (λ z. slice_get z (length rs)) a.rows ∙ get_behind rs more (row within around)))
  where
    go : BlockAt b.tables.blocks (length rs) (row within around) → Stays (rs ++ row within around ∷ more) around (closed b end b.current)
    go it =
        let new : BlockOf = record it.row { end = end } in
        subst (Stays (rs ++ row within around ∷ more) around) (sym (ap (closed b end) a.current ∙ ap (closed_at b end (length rs)) it.at)) (record {
          rows = map_set_any inner_row b.tables.blocks (length rs) new ∙ ap (λ z. slice_set z (length rs) (inner_row new)) a.rows ∙ set_behind rs more (row within around) (inner_row new)
              ∙ ap (λ z. rs ++ z ∷ more) it.alike;
          current = ap (λ (z : InnerRow). z.encloser) it.alike;
        })

-- what stands inside a text, from its begin to its end
record Filled (rs old : List InnerRow) (around : Option ℕ) (x : Text) (ns : List Text) (c : BuildingOf) : Type 0 where
  within : Option ℕ
  more : List InnerRow
  stays : Stays (rs ++ row within around ∷ (old ++ more)) (Some (length rs)) c
  fits : Fits more ns
  this : InnersIn (is_written within) x

-- behind it some blocks stand already
Fills : Text → List Mark → List Text → Type 0
Fills x es ns = (b : BuildingOf) (rs old : List InnerRow) (around : Option ℕ) → Stays (rs ++ row None around ∷ old) (Some (length rs)) b → all_breaks b es ≡ [] → Filled rs old around x ns (run marked b es)

-- or it has just been begun
FillsFresh : Text → List Mark → List Text → Type 0
FillsFresh x es ns = (b : BuildingOf) (rs : List InnerRow) (around : Option ℕ) → FreshTop b → Stays (rs ++ row None around ∷ []) (Some (length rs)) b → all_breaks b es ≡ [] → Filled rs [] around x ns (run marked b es)

-- a text without `inner`
fills_plain : (x : Text) (es : List Mark) (ns : List Text) → (Free es → InnersIn false x) → Adds es ns → Fills x es ns
unfolding Adds Fills
fills_plain x es ns i p b rs old around a e =
    let g = p b (rs ++ row None around ∷ old) (Some (length rs)) a e in
    record { within = None; more = g.more; stays = stays_as _ _ (append_assoc rs (row None around ∷ old) g.more) g.stays; fits = g.fits; this = i (all_free b es e) }

fills_after : (x : Text) (es fs : List Mark) (ns : List Text) → AllKeep es → Fills x fs ns → Fills x (es ++ fs) ns
unfolding Fills
fills_after x es fs ns q p b rs old around a e = subst (Filled rs old around x ns) (sym (run-append marked b es fs)) (p (run marked b es) rs old around (all_stay b es q a) (breaks_both b es fs e).1)

fresh_fills : (x : Text) (es : List Mark) (ns : List Text) → Fills x es ns → FillsFresh x es ns
unfolding Fills FillsFresh
fresh_fills x es ns f b rs around top a e = f b rs [] around a e

-- what a prefix brings stands in front
abbrev brought_inners : StandardPrefix → ℕ → List InnerRow
brought_inners prefixes.Simset n = row None (Some n) ∷ row None (Some n) ∷ row None (Some n) ∷ []
brought_inners prefixes.Simulation n = row None (Some n) ∷ row None (Some n) ∷ row None (Some n) ∷ row None (Some n) ∷ []

added_inners : (p : StandardPrefix) (n next level : ℕ) → map inner_row (added_rows n next level p) ≡ brought_inners p n
added_inners prefixes.Simset n next level = refl
added_inners prefixes.Simulation n next level = refl

brought_fit : (p : StandardPrefix) (n : ℕ) (xs : List InnerRow) (ns : List Text) → Fits xs ns → Fits (brought_inners p n ++ xs) (brought_texts p ++ ns)
brought_fit prefixes.Simset n xs ns f = (tt, (tt, (tt, f)))
brought_fit prefixes.Simulation n xs ns f = (tt, (tt, (tt, (tt, f))))

standard_stays : (p : StandardPrefix) (b : BuildingOf) (top : FreshTop b) (first : ℕ) (y : Identifier) (rs : List InnerRow) (around : Option ℕ) → Stays (rs ++ row None around ∷ []) (Some (length rs)) b
    → Stays (rs ++ row None around ∷ brought_inners p (length rs)) (Some (length rs)) (run marked b (whole_prefix p first y))
standard_stays p b top first y rs around a =
    subst (Stays (rs ++ row None around ∷ brought_inners p (length rs)) (Some (length rs))) (sym (brought_is p b top first y))
    (subst (λ n. Stays (rs ++ row None around ∷ brought_inners p n) (Some (length rs)) (brought_top p b top first y)) (some_same top.number (length rs) (sym top.current ∙ a.current)) (record {
      rows = map-append inner_row (slice_set b.tables.blocks top.number new) (added_rows top.number (length b.tables.declarations) (top.row).level p)
          ∙ ap (λ z. map inner_row (slice_set b.tables.blocks top.number new) ++ z) (added_inners p top.number (length b.tables.declarations) (top.row).level)
          ∙ ap (λ z. z ++ brought_inners p top.number) changed_rows.rows ∙ append_assoc rs (row None around ∷ []) (brought_inners p top.number);
      current = a.current;
    }))
  where
    new : BlockOf
    new = bringing p (length b.tables.declarations) (prefixed_by y top.row)

    changed_rows : Stays (rs ++ row None around ∷ []) (Some (length rs)) (record b { tables = record b.tables { blocks = slice_set b.tables.blocks top.number new } })
    changed_rows = row_stays b top.number top.row new top.at refl a

standard_fills : (p : StandardPrefix) (x : Text) (first : ℕ) (y : Identifier) (es : List Mark) (ns : List Text) → Fills x es ns → FillsFresh x (whole_prefix p first y ++ es) (brought_texts p ++ ns)
unfolding Fills FillsFresh
standard_fills p x first y es ns f b rs around top a e =
    let g = f (run marked b (whole_prefix p first y)) rs (brought_inners p (length rs)) around (standard_stays p b top first y rs around a) (breaks_both b (whole_prefix p first y) es e).1 in
    subst (Filled rs [] around x (brought_texts p ++ ns)) (sym (run-append marked b (whole_prefix p first y) es))
    (record { within = g.within; more = brought_inners p (length rs) ++ g.more; stays = g.stays; fits = brought_fit p (length rs) g.more ns g.fits; this = g.this })

prefix_fills : (x : Text) (first : ℕ) (y : Identifier) (es : List Mark) (ns : List Text) → Fills x es ns → FillsFresh x (prefix_marks first y ++ es) (standard_texts y.name ++ ns)
prefix_fills x first y es ns f = go (standard_prefix y.name) refl
  where
    go : (o : Option StandardPrefix) → standard_prefix y.name ≡ o → FillsFresh x (prefix_marks first y ++ es) (standard_texts y.name ++ ns)
    go None e =
        subst (λ z. FillsFresh x (z ++ es) (standard_texts y.name ++ ns)) (sym (plain_prefix first y e))
        (subst (λ z. FillsFresh x ((Prefixes y ∷ []) ++ es) (z ++ ns)) (sym (no_texts y.name e)) (fresh_fills x ((Prefixes y ∷ []) ++ es) ns (fills_after x (Prefixes y ∷ []) es ns (tt, tt) f)))
    go (Some p) e =
        subst (λ z. FillsFresh x (z ++ es) (standard_texts y.name ++ ns)) (sym (standard_marks_are p first y e))
        (subst (λ z. FillsFresh x (whole_prefix p first y ++ es) (z ++ ns)) (sym (texts_of_standard p y.name e)) (standard_fills p x first y es ns f))

class_prefix_fills : (prefix : Option Identifier) (first : ℕ) (x : Text) (H B : List Mark) (ns : List Text) → AllKeep H → Fills x B ns → FillsFresh x ((class_prefix_marks first prefix ++ H) ++ B) (prefix_texts prefix ++ ns)
unfolding class_prefix_marks
class_prefix_fills None first x H B ns k p = fresh_fills x (H ++ B) ns (fills_after x H B ns k p)
class_prefix_fills (Some y) first x H B ns k p =
    subst (λ z. FillsFresh x z (standard_texts y.name ++ ns)) (sym (append_assoc (prefix_marks first y) H B)) (prefix_fills x first y (H ++ B) ns (fills_after x H B ns k p))

fills_texts : (x : Text) (es : List Mark) (ns ms : List Text) → ns ≡ ms → Fills x es ns → Fills x es ms
fills_texts x es ns ms e p = subst (Fills x es) e p

run_two : (b : BuildingOf) (m : Mark) (es : List Mark) (l : Mark) → run marked b (m ∷ (es ++ l ∷ [])) ≡ marked (run marked (marked b m) es) l
unfolding run
run_two b m es l = run-append marked (marked b m) es (l ∷ [])

begun_top : (b : BuildingOf) (k : BlockKind) (text first : ℕ) → FreshTop (marked b (Opens k text first))
unfolding marked
begun_top b k text first = opened_top b k text first

adds_one : (k : BlockKind) (text first end : ℕ) (x : Text) (es : List Mark) (ns : List Text) → FillsFresh x es ns → Adds (Opens k text first ∷ (es ++ Closes end ∷ [])) (x ∷ ns)
unfolding Adds FillsFresh
adds_one k text first end x es ns f b rs now a e =
    let c = marked b (Opens k text first) in
    let s = breaks_both c es (Closes end ∷ []) (breaks_more b (Opens k text first) (es ++ Closes end ∷ []) e) in
    let g = f c rs now (begun_top b k text first) (opens_stays k text first b rs now a) s.0 in record {
      more = row g.within now ∷ g.more;
      stays = subst (Stays (rs ++ row g.within now ∷ g.more) now) (sym (run_two b (Opens k text first) es (Closes end))) (closes_stays rs g.more g.within now end (run marked c es) g.stays);
      fits = (g.this, g.fits);
    }

adds_filled : (k : BlockKind) (text first end : ℕ) (x : Text) (es : List Mark) (ns : List Text) → Fills x es ns → Adds (Opens k text first ∷ (es ++ Closes end ∷ [])) (x ∷ ns)
adds_filled k text first end x es ns f = adds_one k text first end x es ns (fresh_fills x es ns f)

adds_connection : (opening end : ℕ) (es : List Mark) (ns : List Text) → Adds es ns → Adds (Opens kind.Connection opening opening ∷ (es ++ Closes end ∷ [])) (ConnectionText ∷ ns)
adds_connection opening end es ns p = adds_filled kind.Connection opening opening end ConnectionText es ns (fills_plain ConnectionText es ns (λ f. tt) p)

-- ---- the statements of a class

inner_stays : (rs more : List InnerRow) (around : Option ℕ) (token : ℕ) (b : BuildingOf) → Stays (rs ++ row None around ∷ more) (Some (length rs)) b → Stays (rs ++ row (Some token) around ∷ more) (Some (length rs)) (marked b (Inner token))
unfolding marked
inner_stays rs more around token b a = go (block_of_row b.tables.blocks (length rs) (row None around) (ap (λ z. slice_get z (length rs)) a.rows ∙ get_behind rs more (row None around)))
  where
    go : BlockAt b.tables.blocks (length rs) (row None around) → Stays (rs ++ row (Some token) around ∷ more) (Some (length rs)) (inner b token b.current)
    go it =
        let new : BlockOf = record it.row { inner = Some token } in
        let none : it.row.inner ≡ None = ap (λ (z : InnerRow). z.inner) it.alike in
        subst (Stays (rs ++ row (Some token) around ∷ more) (Some (length rs))) (sym (ap (inner b token) a.current ∙ ap (inner_at b token (length rs)) it.at ∙ ap (inner_in b token (length rs) it.row) none)) (record {
          rows = map_set_any inner_row b.tables.blocks (length rs) new ∙ ap (λ z. slice_set z (length rs) (inner_row new)) a.rows ∙ set_behind rs more (row None around) (inner_row new)
              ∙ ap (λ (z : InnerRow). rs ++ row (Some token) z.encloser ∷ more) it.alike;
          current = a.current;
        })

-- a second one breaks a rule
inner_second : (rs more : List InnerRow) (around : Option ℕ) (other token : ℕ) (b : BuildingOf) → Stays (rs ++ row (Some other) around ∷ more) (Some (length rs)) b → breaks b (Inner token) ≡ [] → ⊥
unfolding breaks
inner_second rs more around other token b a e = go (block_of_row b.tables.blocks (length rs) (row (Some other) around) (ap (λ z. slice_get z (length rs)) a.rows ∙ get_behind rs more (row (Some other) around)))
  where
    go : BlockAt b.tables.blocks (length rs) (row (Some other) around) → ⊥
    go it =
        let there : it.row.inner ≡ Some other = ap (λ (z : InnerRow). z.inner) it.alike in
        let broken : inner_breaks b token b.current ≡ at token r.InnerOutOfPlace = ap (inner_breaks b token) a.current ∙ ap (inner_breaks_of token) it.at ∙ ap (inner_breaks_in token) there in
        let f : at token r.InnerOutOfPlace ≡ [] = sym broken ∙ e in
        cc

abbrev Having : (written : Bool) → Statements → Type 0
Having true ss = OneInner ss
Having false ss = NoInners ss

-- what these statements have, where one is known of before them, or none
abbrev Seen : (before after : Option ℕ) → Statements → Type 0
Seen None after ss = Having (is_written after) ss
Seen (Some token) after ss = (after ≡ Some token) × NoInners ss

seen_none : (before : Option ℕ) → Seen before before NoStatement
seen_none None = tt
seen_none (Some token) = (refl, tt)

seen_more : (before after : Option ℕ) (a : Statement) (ss : Statements) → NoInner a → Seen before after ss → Seen before after (Also a ss)
seen_more None after a ss n h = go (is_written after) h
  where
    go : (c : Bool) → Having c ss → Having c (Also a ss)
    go true q = behind n q
    go false q = (n, q)
seen_more (Some token) after a ss n h = (h.0, (n, h.1))

seen_inner : (token : ℕ) (after : Option ℕ) (ss : Statements) → Seen (Some token) after ss → Seen None after (Also (syntax.Inner token) ss)
seen_inner token after ss h = subst (λ z. Having (is_written z) (Also (syntax.Inner token) ss)) (sym h.0) (here h.1)

record Further (rs more : List InnerRow) (around before : Option ℕ) (ss : Statements) (c : BuildingOf) : Type 0 where
  after : Option ℕ
  new : List InnerRow
  stays : Stays (rs ++ row after around ∷ (more ++ new)) (Some (length rs)) c
  fits : Fits new (statements_texts ss)
  seen : Seen before after ss

ClassAdds : Statements → Type 0
ClassAdds ss = (b : BuildingOf) (rs more : List InnerRow) (around before : Option ℕ) → Stays (rs ++ row before around ∷ more) (Some (length rs)) b → all_breaks b (statements_events declaring ClassStatement ss) ≡ []
    → Further rs more around before ss (run marked b (statements_events declaring ClassStatement ss))

class_none : ClassAdds NoStatement
unfolding ClassAdds run
class_none b rs more around before a e = record { after = before; new = []; stays = stays_as _ _ (ap (λ z. rs ++ row before around ∷ z) (sym (append-nil more))) a; fits = tt; seen = seen_none before }

class_inner : (token : ℕ) (ss : Statements) → ClassAdds ss → ClassAdds (Also (syntax.Inner token) ss)
unfolding ClassAdds run declaring inner_marks
class_inner token ss p b rs more around None a e =
    let g = p (marked b (Inner token)) rs more around (Some token) (inner_stays rs more around token b a) (breaks_more b (Inner token) (statements_events declaring ClassStatement ss) e) in
    record { after = g.after; new = g.new; stays = g.stays; fits = g.fits; seen = seen_inner token g.after ss g.seen }
class_inner token ss p b rs more around (Some other) a e = absurd (inner_second rs more around other token b a (breaks_first b (Inner token) (statements_events declaring ClassStatement ss) e))

class_also : (a : Statement) (ss : Statements) → statement_events declaring Inside a ≡ statement_events declaring ClassStatement a → Adds (statement_events declaring Inside a) (statement_texts a) → ClassAdds ss → ClassAdds (Also a ss)
unfolding Adds ClassAdds
class_also a ss same p q b rs more around before st e =
    let es = statement_events declaring Inside a in
    let fs = statements_events declaring ClassStatement ss in
    let none : all_breaks b (es ++ fs) ≡ [] = ap (λ z. all_breaks b (z ++ fs)) same ∙ e in
    let s = breaks_both b es fs none in
    let one = p b (rs ++ row before around ∷ more) (Some (length rs)) st s.0 in
    let two = q (run marked b es) rs (more ++ one.more) around before (stays_as _ _ (append_assoc rs (row before around ∷ more) one.more) one.stays) s.1 in record {
      after = two.after;
      new = one.more ++ two.new;
      stays = subst (Stays (rs ++ row two.after around ∷ (more ++ (one.more ++ two.new))) (Some (length rs))) (sym (run-append marked b es fs) ∙ ap (λ z. run marked b (z ++ fs)) same)
          (stays_as _ _ (ap (λ z. rs ++ row two.after around ∷ z) (append_assoc more one.more two.new)) two.stays);
      fits = fits_both one.more (statement_texts a) two.new (statements_texts ss) one.fits two.fits;
      seen = seen_more before two.after a ss (no_inner a (all_free b es s.0)) two.seen;
    }

-- `inner`, or a statement as elsewhere
class_statement : (a : Statement) (ss : Statements) → Adds (statement_events declaring Inside a) (statement_texts a) → ClassAdds ss → ClassAdds (Also a ss)
class_statement (syntax.Inner i) ss p q = class_inner i ss q
class_statement (syntax.Empty i) ss p q = class_also (syntax.Empty i) ss refl p q
class_statement (syntax.Compound b) ss p q = class_also (syntax.Compound b) ss refl p q
class_statement (syntax.Prefixed class arguments b) ss p q = class_also (syntax.Prefixed class arguments b) ss refl p q
class_statement (syntax.Call e) ss p q = class_also (syntax.Call e) ss refl p q
class_statement (syntax.Assign left rest) ss p q = class_also (syntax.Assign left rest) ss refl p q
class_statement (syntax.Choose i e a rest) ss p q = class_also (syntax.Choose i e a rest) ss refl p q
class_statement (syntax.Repeat i e a) ss p q = class_also (syntax.Repeat i e a) ss refl p q
class_statement (syntax.For i x sign j es a) ss p q = class_also (syntax.For i x sign j es a) ss refl p q
class_statement (syntax.Inspect i object d a e rest) ss p q = class_also (syntax.Inspect i object d a e rest) ss refl p q
class_statement (syntax.InspectWhen i object arms rest) ss p q = class_also (syntax.InspectWhen i object arms rest) ss refl p q
class_statement (syntax.Activate i word process schedule) ss p q = class_also (syntax.Activate i word process schedule) ss refl p q

-- ---- the text of a class

having_class : (written : Bool) (prefix : Option Identifier) (h : Heading) (ds : Declarations) (ss : Statements) → Having written ss → InnersIn written (ClassText prefix h ds ss)
having_class true prefix h ds ss q = q
having_class false prefix h ds ss q = q

-- whose body is `begin .. end`
class_fills : (prefix : Option Identifier) (h : Heading) (ds : Declarations) (ss : Statements) → Adds (declarations_events declaring ds) (declarations_texts ds) → ClassAdds ss
    → Fills (ClassText prefix h ds ss) (declarations_events declaring ds ++ statements_events declaring ClassStatement ss) (declarations_texts ds ++ statements_texts ss)
unfolding Adds ClassAdds Fills
class_fills prefix h ds ss p q b rs old around a e =
    let es = declarations_events declaring ds in
    let fs = statements_events declaring ClassStatement ss in
    let s = breaks_both b es fs e in
    let one = p b (rs ++ row None around ∷ old) (Some (length rs)) a s.0 in
    let two = q (run marked b es) rs (old ++ one.more) around None (stays_as _ _ (append_assoc rs (row None around ∷ old) one.more) one.stays) s.1 in record {
      within = two.after;
      more = one.more ++ two.new;
      stays = subst (Stays (rs ++ row two.after around ∷ (old ++ (one.more ++ two.new))) (Some (length rs))) (sym (run-append marked b es fs))
          (stays_as _ _ (ap (λ z. rs ++ row two.after around ∷ z) (append_assoc old one.more two.new)) two.stays);
      fits = fits_both one.more (declarations_texts ds) two.new (statements_texts ss) one.fits two.fits;
      this = having_class (is_written two.after) prefix h ds ss two.seen;
    }

-- or one statement
one_fills : (prefix : Option Identifier) (h : Heading) (a : Statement) → Adds (statement_events declaring Inside a) (statement_texts a) → Fills (ClassText prefix h NoDeclaration (Also a NoStatement)) (statement_events declaring Inside a) (statement_texts a ++ [])
one_fills prefix h a p =
    fills_plain (ClassText prefix h NoDeclaration (Also a NoStatement)) (statement_events declaring Inside a) (statement_texts a ++ []) (λ f. (no_inner a f, tt))
    (adds_texts (statement_events declaring Inside a) (statement_texts a) (statement_texts a ++ []) (sym (append-nil (statement_texts a))) p)

procedure_adds : (result : Option TypeName) (i : ℕ) (h : Heading) (a : Statement) (e : ℕ) → Adds (statement_events declaring Inside a) (statement_texts a)
    → Adds (declaration_events declaring (DeclareProcedure result i h a e)) (declaration_texts (DeclareProcedure result i h a e))
unfolding declaring procedure_marks
procedure_adds result i h a e p =
    let P = DeclaresProcedure h.name (result_named result) in
    let q = qualified_result result in
    let O = Opens kind.Procedure (first_of_procedure result i) h.name.token.0 in
    let H = heading_marks h in
    let B = statement_events declaring Inside a in
    let C = Closes e ∷ [] in
    let x : Text = ProcedureText result h a in
    adds_as ((P ∷ q) ++ (O ∷ ((H ++ B) ++ C))) _ (x ∷ statement_texts a)
    (ap (λ z. P ∷ (q ++ (O ∷ z))) (append_assoc H B C) ∙ sym (ap (λ z. P ∷ z) (append_assoc (q ++ O ∷ []) H (B ++ C) ∙ append_assoc q (O ∷ []) (H ++ (B ++ C)))))
    (adds_both (P ∷ q) (O ∷ ((H ++ B) ++ C)) [] (x ∷ statement_texts a) (adds_kept (P ∷ q) (tt, keep_result result))
    (adds_filled kind.Procedure (first_of_procedure result i) h.name.token.0 e x (H ++ B) (statement_texts a)
    (fills_plain x (H ++ B) (statement_texts a) (λ f. no_inner a (back H B f)) (adds_both H B [] (statement_texts a) (adds_kept H (keep_heading h)) p))))

class_adds : (prefix : Option Identifier) (i : ℕ) (h : Heading) (interface : Interface) (a : Statement) (e : ℕ)
    → Fills (ClassText prefix h (body_declarations a) (body_statements a)) (statement_events declaring ClassBody a) (declarations_texts (body_declarations a) ++ statements_texts (body_statements a))
    → Adds (declaration_events declaring (DeclareClass prefix i h interface a e)) (declaration_texts (DeclareClass prefix i h interface a e))
unfolding declaring class_marks
class_adds prefix i h interface a e p =
    let P = DeclaresClass h.name in
    let O = Opens kind.Class (first_of_class prefix i) h.name.token.0 in
    let K = class_prefix_marks h.name.token.0 prefix in
    let H = heading_marks h ++ interface_marks interface in
    let B = statement_events declaring ClassBody a in
    let C = Closes e ∷ [] in
    let x : Text = ClassText prefix h (body_declarations a) (body_statements a) in
    let ns : List Text = declarations_texts (body_declarations a) ++ statements_texts (body_statements a) in
    let ms : List Text = prefix_texts prefix ++ ns in
    adds_texts _ (x ∷ ms) _ (sym (class_texts prefix i h interface a e))
    (adds_as ((P ∷ []) ++ (O ∷ (((K ++ H) ++ B) ++ C))) _ (x ∷ ms) (ap (λ z. P ∷ O ∷ z) (append_assoc (K ++ H) B C))
    (adds_both (P ∷ []) (O ∷ (((K ++ H) ++ B) ++ C)) [] (x ∷ ms) (adds_kept (P ∷ []) (tt, tt))
    (adds_one kind.Class (first_of_class prefix i) h.name.token.0 e x ((K ++ H) ++ B) ms
    (class_prefix_fills prefix h.name.token.0 x H B ns (keep_both (heading_marks h) (interface_marks interface) (keep_heading h) (keep_interface interface)) p))))

-- ---- the whole program

mutual
  unfolding declaring inner_marks prefixed_marks

  statement_adds : (a : Statement) → Adds (statement_events declaring Inside a) (statement_texts a)
  statement_adds (syntax.Empty i) = adds_kept [] tt
  statement_adds (syntax.Compound b) = block_adds b
  statement_adds (syntax.Prefixed class arguments b) = prefixed_adds class arguments b
  statement_adds (syntax.Inner i) = adds_kept (inner_marks Inside i) (tt, tt)
  statement_adds (syntax.Call e) = adds_kept [] tt
  statement_adds (syntax.Assign left rest) = adds_kept [] tt
  statement_adds (syntax.Choose i e a rest) = adds_both (statement_events declaring Inside a) (statements_events declaring Inside rest) (statement_texts a) (statements_texts rest) (statement_adds a) (statements_add rest)
  statement_adds (syntax.Repeat i e a) = statement_adds a
  statement_adds (syntax.For i x sign j es a) = statement_adds a
  statement_adds (syntax.Inspect i object d a e rest) =
      let es = statement_events declaring Inside a in
      let fs = statements_events declaring Inside rest in
      adds_as ((Opens kind.Connection d d ∷ (es ++ Closes e ∷ [])) ++ fs) _ _ (ap (λ z. Opens kind.Connection d d ∷ z) (append_assoc es (Closes e ∷ []) fs))
      (adds_both (Opens kind.Connection d d ∷ (es ++ Closes e ∷ [])) fs (ConnectionText ∷ statement_texts a) (statements_texts rest) (adds_connection d e es (statement_texts a) (statement_adds a)) (statements_add rest))
  statement_adds (syntax.InspectWhen i object arms rest) = adds_both (arms_events declaring arms) (statements_events declaring Inside rest) (arms_texts arms) (statements_texts rest) (arms_add arms) (statements_add rest)
  statement_adds (syntax.Activate i word process schedule) = adds_kept [] tt

  statements_add : (ss : Statements) → Adds (statements_events declaring Inside ss) (statements_texts ss)
  statements_add NoStatement = adds_kept [] tt
  statements_add (Also a more) = adds_both (statement_events declaring Inside a) (statements_events declaring Inside more) (statement_texts a) (statements_texts more) (statement_adds a) (statements_add more)

  class_statements_add : (ss : Statements) → ClassAdds ss
  class_statements_add NoStatement = class_none
  class_statements_add (Also a more) = class_statement a more (statement_adds a) (class_statements_add more)

  arms_add : (arms : Arms) → Adds (arms_events declaring arms) (arms_texts arms)
  arms_add NoArm = adds_kept [] tt
  arms_add (When i x d a e more) =
      adds_both (Opens kind.Connection d d ∷ (statement_events declaring Inside a ++ Closes e ∷ [])) (arms_events declaring more) (ConnectionText ∷ statement_texts a) (arms_texts more)
      (adds_connection d e (statement_events declaring Inside a) (statement_texts a) (statement_adds a)) (arms_add more)

  prefixed_adds : (class : Identifier) (arguments : Expressions) (b : Block) → Adds (prefixed_marks class (begin_of b) ++ whole_events declaring b) (prefixed_texts class arguments b)
  prefixed_adds class arguments (Begin i ds ss e) =
      let P : List Mark = prefix_marks i class in
      let es = declarations_events declaring ds in
      let fs = statements_events declaring Inside ss in
      let x : Text = PrefixedText class arguments ds ss in
      let ns : List Text = declarations_texts ds ++ statements_texts ss in
      let O = Opens kind.Prefixed class.token.0 i in
      let ms : List Text = standard_texts class.name ++ ns in
      adds_as (O ∷ ((P ++ (es ++ fs)) ++ Closes e ∷ [])) (prefixed_marks class i ++ (es ++ (fs ++ Closes e ∷ []))) (x ∷ ms)
      (ap (λ z. O ∷ z) (append_assoc P (es ++ fs) (Closes e ∷ []) ∙ ap (λ z. P ++ z) (append_assoc es fs (Closes e ∷ []))))
      (adds_one kind.Prefixed class.token.0 i e x (P ++ (es ++ fs)) ms
      (prefix_fills x i class (es ++ fs) ns
      (fills_plain x (es ++ fs) ns (λ f. no_inners ss (back es fs f)) (adds_both es fs (declarations_texts ds) (statements_texts ss) (declarations_add ds) (statements_add ss)))))

  block_adds : (b : Block) → Adds (block_events declaring b) (block_texts b)
  block_adds (Begin i NoDeclaration ss e) = statements_add ss
  block_adds (Begin i (With d ds) ss e) =
      let es = declarations_events declaring (With d ds) in
      let fs = statements_events declaring Inside ss in
      let x : Text = BlockText i (With d ds) ss in
      let ns : List Text = declarations_texts (With d ds) ++ statements_texts ss in
      adds_texts _ (x ∷ ns) _ (ap (λ z. x ∷ z) (append_assoc (declaration_texts d) (declarations_texts ds) (statements_texts ss)))
      (adds_filled kind.SubBlock i i e x (es ++ fs) ns (fills_plain x (es ++ fs) ns (λ f. no_inners ss (back es fs f)) (adds_both es fs (declarations_texts (With d ds)) (statements_texts ss) (declarations_add (With d ds)) (statements_add ss))))

  declarations_add : (ds : Declarations) → Adds (declarations_events declaring ds) (declarations_texts ds)
  declarations_add NoDeclaration = adds_kept [] tt
  declarations_add (With d ds) = adds_both (declaration_events declaring d) (declarations_events declaring ds) (declaration_texts d) (declarations_texts ds) (declaration_adds d) (declarations_add ds)

  declaration_adds : (d : Declaration) → Adds (declaration_events declaring d) (declaration_texts d)
  declaration_adds (Variables type vs) = adds_kept (each (variable_marks type) vs) (keep_variables type vs)
  declaration_adds (Arrays type i segments) = adds_kept (each (segment_marks type) segments) (keep_segments type segments)
  declaration_adds (DeclareProcedure result i h a e) = procedure_adds result i h a e (statement_adds a)
  declaration_adds (DeclareClass prefix i h interface a e) = class_adds prefix i h interface a e (class_body prefix a h (statement_adds a))

  class_body : (prefix : Option Identifier) (a : Statement) (h : Heading) → Adds (statement_events declaring Inside a) (statement_texts a)
      → Fills (ClassText prefix h (body_declarations a) (body_statements a)) (statement_events declaring ClassBody a) (declarations_texts (body_declarations a) ++ statements_texts (body_statements a))
  class_body prefix (syntax.Compound (Begin i ds ss e)) h one = class_fills prefix h ds ss (declarations_add ds) (class_statements_add ss)
  class_body prefix (syntax.Empty i) h one = one_fills prefix h (syntax.Empty i) one
  class_body prefix (syntax.Prefixed class arguments b) h one = one_fills prefix h (syntax.Prefixed class arguments b) one
  class_body prefix (syntax.Inner i) h one = one_fills prefix h (syntax.Inner i) one
  class_body prefix (syntax.Call e) h one = one_fills prefix h (syntax.Call e) one
  class_body prefix (syntax.Assign left rest) h one = one_fills prefix h (syntax.Assign left rest) one
  class_body prefix (syntax.Choose i e a rest) h one = one_fills prefix h (syntax.Choose i e a rest) one
  class_body prefix (syntax.Repeat i e a) h one = one_fills prefix h (syntax.Repeat i e a) one
  class_body prefix (syntax.For i x sign j es a) h one = one_fills prefix h (syntax.For i x sign j es a) one
  class_body prefix (syntax.Inspect i object d a e rest) h one = one_fills prefix h (syntax.Inspect i object d a e rest) one
  class_body prefix (syntax.InspectWhen i object arms rest) h one = one_fills prefix h (syntax.InspectWhen i object arms rest) one
  class_body prefix (syntax.Activate i word process schedule) h one = one_fills prefix h (syntax.Activate i word process schedule) one

-- the program's block, which is around all
whole_program : (es : List Mark) (ns : List Text) → Adds es ns → all_breaks empty es ≡ [] → Grown [] None ns (run marked empty es)
unfolding Adds
whole_program es ns p e = p empty [] None (record { rows = refl; current = refl }) e

program_grown : (p : Program) → (declared_by p).least ≡ None → Grown [] None (program_texts p.prefix p.block) (declared_by p)
unfolding declared_by broken_by program_events declaring program_marks
program_grown p unbroken = go p.prefix p.block (no_fault (broken_by p) (declared_by p).least unbroken (least_declared p))
  where
    go : (prefix : Option Prefix) (b : Block) → all_breaks empty (program_marks prefix (begin_of b) ++ whole_events declaring b) ≡ []
        → Grown [] None (program_texts prefix b) (run marked empty (program_marks prefix (begin_of b) ++ whole_events declaring b))
    go (Some x) (Begin i ds ss end) none =
        whole_program (prefixed_marks x.class i ++ whole_events declaring (Begin i ds ss end)) (prefixed_texts x.class x.arguments (Begin i ds ss end)) (prefixed_adds x.class x.arguments (Begin i ds ss end)) none
    go None (Begin i ds ss end) none =
        let es = declarations_events declaring ds in
        let fs = statements_events declaring Inside ss in
        let x : Text = BlockText i ds ss in
        let ns : List Text = declarations_texts ds ++ statements_texts ss in
        let same : Opens kind.Program i i ∷ ((es ++ fs) ++ Closes end ∷ []) ≡ Opens kind.Program i i ∷ (es ++ (fs ++ Closes end ∷ [])) = ap (λ z. Opens kind.Program i i ∷ z) (append_assoc es fs (Closes end ∷ [])) in
        subst (λ z. Grown [] None (x ∷ ns) (run marked empty z)) same
        (whole_program (Opens kind.Program i i ∷ ((es ++ fs) ++ Closes end ∷ [])) (x ∷ ns)
        (adds_filled kind.Program i i end x (es ++ fs) ns (fills_plain x (es ++ fs) ns (λ f. no_inners ss (back es fs f)) (adds_both es fs (declarations_texts ds) (statements_texts ss) (declarations_add ds) (statements_add ss))))
        (ap (all_breaks empty) same ∙ none))

-- ---- each text

abbrev inner_at_row : Option InnerRow → Option ℕ
inner_at_row None = None
inner_at_row (Some x) = x.inner

fits_at : (xs : List InnerRow) (ys : List Text) (k : ℕ) (y : Text) → Fits xs ys → slice_get ys k ≡ Some y → InnersIn (is_written (inner_at_row (slice_get xs k))) y
fits_at [] [] k y f e = absurd (cc)
fits_at (x ∷ xs) (z ∷ ys) zero y f e = subst (InnersIn (is_written x.inner)) (some_same z y e) f.0
fits_at (x ∷ xs) (z ∷ ys) (suc k) y f e = fits_at xs ys k y f.1 e
fits_at [] (z ∷ ys) k y f e = absurd f
fits_at (x ∷ xs) [] k y f e = absurd f

row_written : (bs : List BlockOf) (k : ℕ) → inner_at_row (slice_get (map inner_row bs) k) ≡ written_in (slice_get bs k)
row_written [] k = refl
row_written (b ∷ bs) zero = refl
row_written (b ∷ bs) (suc k) = row_written bs k

bare_written : (o : Option BlockOf) → written_in (bare_row o) ≡ written_in o
bare_written None = refl
bare_written (Some b) = refl

pub inners : (s : Source) → TablesOf s → InOrder s.program → Inners s
unfolding text
inners s of order k y e =
    let g = program_grown s.program of.unbroken in
    let D = (declared_by s.program).tables.blocks in
    let declared : inner_at_row (slice_get g.more k) ≡ written_in (slice_get D k) = ap (λ z. inner_at_row (slice_get z k)) (sym g.stays.rows) ∙ row_written D k in
    let complete : written_in (slice_get s.tables.blocks k) ≡ written_in (slice_get D k) =
    sym (bare_written (slice_get s.tables.blocks k)) ∙ ap written_in ((t.completed_tables s of order).blocks k) ∙ bare_written (slice_get D k) in
    subst (λ z. InnersIn (is_written z) y) (declared ∙ sym complete) (fits_at g.more (program_texts s.program.prefix s.program.block) k y g.fits e)
