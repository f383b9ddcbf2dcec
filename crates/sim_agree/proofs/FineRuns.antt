-- The marks of a program, one after the other: behind each of them the tables agree with the texts.
use Rattle.std.proofs.Common.{◌≡◌, ◌⊎◌, inl, inr, ℕ, List, [], ◌∷◌, ◌++◌, length, Option, Some, None, refl, sym, ap, ◌∙◌, subst, append-nil, append_assoc, false, true}
use Rattle.std.specs.Prelude.{slice_get}
use Rattle.sim_base.specs.declared.numbering.DeclNo.{DeclNo}
use Rattle.sim_tree.specs.declared.expr.Identifier.{Identifier}
use Rattle.sim_tree.specs.declared.stmt.TypeName.{TypeName}
use Rattle.sim_tree.specs.Syntax.{Declarations, Heading, Statement, Statements}
use Rattle.sim_scope.specs.declared.scopes.Declaration.{Declaration}
use Rattle.sim_scope.specs.declared.types.BlockKind.{BlockKind}
use Rattle.sim_scope.specs.declared.types.BlockKind.TheVariants as kind
use Rattle.sim_scope.specs.declared.types.Entry.{Entry}
use Rattle.sim_scope.specs.declared.types.Entry.TheVariants as entry
use Rattle.sim_scope.specs.declared.types.SimType.{SimType}
use Rattle.sim_scope.specs.declared.types.StandardPrefix.{StandardPrefix}
use Rattle.sim_scope.specs.Building.{BuildingOf, Declares, Headed, Mark, Opens, changed, changed_row as changed_row_of, closed, declared, found_in, holding_class, marked, opened, parameter, placed, qualified, specified as specified_of, unspecified_at}
use Rattle.sim_scope.specs.Declare.{headed_marks, result_named}
use Rattle.sim_scope.specs.Runs.{each, run}
use Rattle.sim_scope.specs.Access.{around}
use Rattle.sim_scope.specs.Scopes.{is_procedure_entry, is_virtual}
use Rattle.sim_scope.specs.Tables.{BlockOf}
use Rattle.sim_scope.proofs.Kept.{more_here}
use Rattle.sim_meaning.specs.Texts.{BlockText, ClassText, ConnectionText, ProcedureText, Text, PrefixedText, StandardText}
use Rattle.sim_agree.proofs.Groups.{AreReferences, Declaring, Grouped, Has, Interfacing, OfReferences, Open, OwnEntry, Quals, Taking, block, breaks_rule, closes, connects, declared_in_text, declares, declares_class, has_cases, headed, here, inner_mark, item, moded, nothing, own_marks, parameter as parameter_mark, procedure, qualifies, specified, specifies_virtual, there, unqualified, prefixes, guarded, Prefixing, prefixed_block, standard_block, standard_class, whole_prefix}
use Rattle.sim_agree.proofs.Steps.{IsRow, Nothing, Parametric, RowIs, Step, Unmatched, shown}
use Rattle.sim_agree.proofs.Marks.{Declared, class_step, declared_latest, declared_step, headed_step, inner_step, met, moded_step, own_unmatched, parameter_step, procedure_unmatched, quals_latest, quals_step, rule_step, specified_met, prefix_step, guards_step, virtual_unmatched}
use Rattle.sim_agree.proofs.Fine.{Agree, Alike, Fine, Keeps, KindOf, OfClass, OfProcedure, Own, RowOf, alike_results, begun_keeps, begun_rows, changed_row, class_row, formal_row, more_text, own_row, owner_in, procedure_row, row_kept, row_text, step_fine, step_rows, KindIs, Ordinary, virtual_row}
use Rattle.sim_agree.proofs.FineBlocks.{closed_agrees, fresh, opened_agrees}
use Rattle.sim_agree.proofs.Unprefixed.{is_prefixable}
use Rattle.sim_agree.proofs.BroughtFine.{front_prefixing, standard_agree}
use Rattle.sim_agree.proofs.BroughtRuns.{FreshTop, brought_is, opened_top}
use Rattle.sim_agree.proofs.StandardPrefixes.{InFront, Spells, brought_texts}

-- ---- a procedure or a class is declared, and its block begins

-- a declaration whose block is the next one
module _ (b c : BuildingOf) (k : BlockKind) (text first : ℕ) (y : Identifier) (e : Entry) (n : ℕ) (x : Text) (owed inner : List Mark) (z : Text) (ts : List Text) (os : List Open)
    (s : Step b c (Declared (length b.tables.declarations) y e n)) (g : Agree b ts (item x owed ∷ os)) (same : n ≡ g.fine.stack.0) (fits : KindOf k z) where
  abbrev us : List Text
  us = ts ++ z ∷ []

  f : Fine c ts (item x owed ∷ os)
  f = step_fine b c (Declared (length b.tables.declarations) y e n) s ts (item x owed ∷ os) g.fine

  abbrev pub begun_blocks : List BlockOf
  begun_blocks = c.tables.blocks ++ fresh c k first ∷ []

  keeps : Keeps b.tables.blocks begun_blocks ts us
  keeps m y' is =
      let p = begun_keeps c (fresh c k first) (placed c.tables c.current first).places ts z (item x owed ∷ os) f m y' is in
      (p.0 ∙ s.fixes m, p.1)

  -- where the text of a new row begins
  pub here_text : (row : Declaration) → IsRow y e n row → slice_get us row.block ≡ Some x
  here_text row q = ap (slice_get us) (q.2 ∙ same) ∙ more_text ts (z ∷ []) g.fine.stack.0 x g.fine.stack.2

  pub next_text : slice_get us (length b.tables.blocks) ≡ Some z
  next_text = ap (slice_get us) g.fine.size ∙ row_text ts z

  pub next_block : slice_get begun_blocks (length b.tables.blocks) ≡ Some (fresh c k first)
  next_block = ap (slice_get begun_blocks) (sym s.size) ∙ more_here c.tables.blocks (fresh c k first)

  pub next_around : (row : Declaration) → IsRow y e n row → around (slice_get begun_blocks (length b.tables.blocks)) ≡ Some row.block
  next_around row q = ap around next_block ∙ s.current ∙ g.fine.stack.1 ∙ ap Some (sym (q.2 ∙ same))

  pub next_agrees : Ordinary z → ((d : ℕ) (row : Declaration) → slice_get c.tables.declarations d ≡ Some row → (d ≡ length b.tables.declarations) × IsRow y e n row → RowOf begun_blocks us (slice_get us row.block) d row)
      → Agree (opened c k text first) us (item z inner ∷ item x owed ∷ os)
  next_agrees ordinary made = opened_agrees c k text first ts z inner (item x owed ∷ os) fits ordinary f (λ d row is. go d row is (s.rows d row is))
    where
      go : (d : ℕ) (row : Declaration) → slice_get c.tables.declarations d ≡ Some row
          → RowIs b c (Declared (length b.tables.declarations) y e n) d row
          → RowOf begun_blocks us (slice_get us row.block) d row
      go d row is (inl q) = subst (λ m. RowOf begun_blocks us (slice_get us m) d row) (sym q.2.block) (changed_row begun_blocks us (slice_get us q.0.block) d q.0 row q.2 (row_kept b.tables.blocks begun_blocks ts us keeps d q.0 (g.rows d q.0 q.1)))
      go d row is (inr q) = made d row is q.0

-- what marks that write classes behind declarations leave as it is
pub quals_rows : (b : BuildingOf) (R : Type 0) (quals : List Mark) → Quals R quals → (run marked b quals).tables.declarations ≡ b.tables.declarations
unfolding run marked
quals_rows b R quals (unqualified free) = refl
quals_rows b R quals (qualifies x q) = go b.latest
  where
    go : (o : Option DeclNo) → (qualified b x o).tables.declarations ≡ b.tables.declarations
    go None = refl
    go (Some d) = refl

pub procedure_agrees : (b : BuildingOf) (text first : ℕ) (x : Text) (owed inner quals : List Mark) (result : Option TypeName) (h : Heading) (a : Statement) (ts : List Text) (os : List Open) → Declaring x → Quals (AreReferences (result_named result)) quals
    → Agree b ts (item x owed ∷ os)
    → Agree (opened (run marked (declared b h.name (entry.Procedure (result_named result) (length b.tables.blocks))) quals) kind.Procedure text first) (ts ++ ProcedureText result h a ∷ []) (item (ProcedureText result h a) inner ∷ item x owed ∷ os)
procedure_agrees b text first x owed inner quals result h a ts os d q g =
    next_agrees b c kind.Procedure text first h.name e n x owed inner z ts os s g refl refl tt (λ i row is p.
    subst (λ o. RowOf cs us o i row) (sym (here_text b c kind.Procedure text first h.name e n x owed inner z ts os s g refl refl row p.1)) (procedure_row d (made i row is p)))
  where
    n : ℕ
    n = g.fine.stack.0

    e : Entry
    e = entry.Procedure (result_named result) (length b.tables.blocks)

    c0 : BuildingOf
    c0 = declared b h.name e

    c : BuildingOf
    c = run marked c0 quals

    z : Text
    z = ProcedureText result h a

    us : List Text
    us = ts ++ z ∷ []

    alone : Unmatched e
    alone = procedure_unmatched (result_named result) (length b.tables.blocks)

    s : Step b c (Declared (length b.tables.declarations) h.name e n)
    s = quals_step b c0 (Declared (length b.tables.declarations) h.name e n) (AreReferences (result_named result)) quals q (declared_step b h.name e n alone g.fine.stack.1)

    cs : List BlockOf
    cs = begun_blocks b c kind.Procedure text first h.name e n x owed inner z ts os s g refl refl

    latest : (i : ℕ) (row : Declaration) → slice_get c.tables.declarations i ≡ Some row → i ≡ length b.tables.declarations → c.latest ≡ Some (record { 0 = i })
    latest i row is same =
        quals_latest c0 (AreReferences (result_named result)) quals q
        ∙ declared_latest b h.name e n row g.fine.stack.1 (subst (λ m. slice_get c0.tables.declarations m ≡ Some row) same (ap (λ ds. slice_get ds i) (sym (quals_rows c0 (AreReferences (result_named result)) quals q)) ∙ is))
        ∙ ap (λ m. let w : DeclNo = record { 0 = m } in Some w) (sym same)

    made : (i : ℕ) (row : Declaration) → slice_get c.tables.declarations i ≡ Some row → (i ≡ length b.tables.declarations) × IsRow h.name e n row → OfProcedure cs us i row
    made i row is p = record {
      result = result;
      heading = h;
      body = a;
      number = length b.tables.blocks;
      entry = subst (Alike e) (sym p.1.3) (alike_results (result_named result), refl);
      text = next_text b c kind.Procedure text first h.name e n x owed inner z ts os s g refl refl;
      around = next_around b c kind.Procedure text first h.name e n x owed inner z ts os s g refl refl row p.1;
      owner = ap owner_in (next_block b c kind.Procedure text first h.name e n x owed inner z ts os s g refl refl) ∙ latest i row is p.0;
    }

pub class_agrees : (b : BuildingOf) (text first : ℕ) (x : Text) (owed inner : List Mark) (prefix : Option Identifier) (h : Heading) (ds : Declarations) (ss : Statements) (ts : List Text) (os : List Open) → Declaring x
    → Agree b ts (item x owed ∷ os)
    → Agree (opened (changed (declared b h.name (entry.Class (length b.tables.blocks))) holding_class b.current) kind.Class text first) (ts ++ ClassText prefix h ds ss ∷ []) (item (ClassText prefix h ds ss) inner ∷ item x owed ∷ os)
class_agrees b text first x owed inner prefix h ds ss ts os d g =
    next_agrees b c kind.Class text first h.name e n x owed inner z ts os s g refl refl tt (λ i row is p.
    subst (λ o. RowOf cs us o i row) (sym (here_text b c kind.Class text first h.name e n x owed inner z ts os s g refl refl row p.1)) (class_row d (made i row is p)))
  where
    n : ℕ
    n = g.fine.stack.0

    e : Entry
    e = entry.Class (length b.tables.blocks)

    c0 : BuildingOf
    c0 = declared b h.name e

    c : BuildingOf
    c = changed c0 holding_class b.current

    z : Text
    z = ClassText prefix h ds ss

    us : List Text
    us = ts ++ z ∷ []

    s : Step b c (Declared (length b.tables.declarations) h.name e n)
    s = class_step b h.name (length b.tables.blocks) n g.fine.stack.1

    cs : List BlockOf
    cs = begun_blocks b c kind.Class text first h.name e n x owed inner z ts os s g refl refl

    kept : (o : Option ℕ) → ((changed c0 holding_class o).tables.declarations ≡ c0.tables.declarations) × ((changed c0 holding_class o).latest ≡ c0.latest)
    kept None = (refl, refl)
    kept (Some m) = go (slice_get c0.tables.blocks m)
      where
        go : (o : Option BlockOf) → ((changed_row_of c0 holding_class m o).tables.declarations ≡ c0.tables.declarations) × ((changed_row_of c0 holding_class m o).latest ≡ c0.latest)
        go None = (refl, refl)
        go (Some row) = (refl, refl)

    latest : (i : ℕ) (row : Declaration) → slice_get c.tables.declarations i ≡ Some row → i ≡ length b.tables.declarations → c.latest ≡ Some (record { 0 = i })
    latest i row is same =
        (kept b.current).1
        ∙ declared_latest b h.name e n row g.fine.stack.1 (subst (λ m. slice_get c0.tables.declarations m ≡ Some row) same (ap (λ rows. slice_get rows i) (sym (kept b.current).0) ∙ is))
        ∙ ap (λ m. let w : DeclNo = record { 0 = m } in Some w) (sym same)

    made : (i : ℕ) (row : Declaration) → slice_get c.tables.declarations i ≡ Some row → (i ≡ length b.tables.declarations) × IsRow h.name e n row → OfClass cs us i row
    made i row is p = record {
      class = ClassText prefix h ds ss;
      is = refl;
      number = length b.tables.blocks;
      entry = p.1.3;
      listed = inl (shown e row.listed refl p.1.4);
      hidden = λ q. absurd q;
      named = λ w q. absurd (cc);
      text = next_text b c kind.Class text first h.name e n x owed inner z ts os s g refl refl;
      around = next_around b c kind.Class text first h.name e n x owed inner z ts os s g refl refl row p.1;
      owner = ap owner_in (next_block b c kind.Class text first h.name e n x owed inner z ts os s g refl refl) ∙ latest i row is p.0;
    }

-- ---- declarations and headings

-- a mark that ends and begins no text
pub step_agrees : (b c : BuildingOf) (New : ℕ → Declaration → Type 0) (x : Text) (owed later : List Mark) (ts : List Text) (os : List Open) → Step b c New
    → ((d : ℕ) (row : Declaration) → New d row → RowOf c.tables.blocks ts (slice_get ts row.block) d row)
    → Agree b ts (item x owed ∷ os) → Agree c ts (item x later ∷ os)
step_agrees b c New x owed later ts os s new g = record {
  fine = step_fine b c New s ts (item x later ∷ os) (record { size = g.fine.size; stack = g.fine.stack; nested = g.fine.nested; levels = g.fine.levels; tops = g.fine.tops; kinds = g.fine.kinds; listed = g.fine.listed; evens = g.fine.evens; finds = g.fine.finds; own = g.fine.own; rising = g.fine.rising; based = g.fine.based; bare = g.fine.bare; known = g.fine.known; standards = g.fine.standards; headed = g.fine.headed; textless = g.fine.textless; brought = g.fine.brought; named = g.fine.named });
  rows = step_rows b c New s ts new g.rows;
}

pub quiet_agrees : (b c : BuildingOf) (ts : List Text) (os : List Open) → Step b c Nothing → Agree b ts os → Agree c ts os
quiet_agrees b c ts os s g = record { fine = step_fine b c Nothing s ts os g.fine; rows = step_rows b c Nothing s ts (λ d row q. absurd q) g.rows }

alike_own : (e : Entry) → OwnEntry e → Alike e e
alike_own (entry.Variable ty) own = refl
alike_own (entry.Constant ty) own = refl
alike_own (entry.Array ty n) own = (refl, refl)
alike_own (entry.Procedure result k) own = absurd own
alike_own (entry.Class k) own = absurd own
alike_own (entry.Virtual result k) own = absurd own
alike_own (entry.Formal f) own = absurd own
alike_own (entry.Unspecified v) own = absurd own
alike_own (entry.Attribute name parameter result) own = absurd own

own_no_procedure : (e : Entry) → OwnEntry e → is_procedure_entry e ≡ false
own_no_procedure (entry.Variable ty) own = refl
own_no_procedure (entry.Constant ty) own = refl
own_no_procedure (entry.Array ty n) own = refl
own_no_procedure (entry.Procedure result k) own = absurd own
own_no_procedure (entry.Class k) own = refl
own_no_procedure (entry.Virtual result k) own = refl
own_no_procedure (entry.Formal f) own = refl
own_no_procedure (entry.Unspecified v) own = refl
own_no_procedure (entry.Attribute name parameter result) own = refl

-- a mark of a text's own
pub declares_agrees : (b : BuildingOf) (x : Text) (owed quals : List Mark) (y : Identifier) (e : Entry) (ts : List Text) (os : List Open) → Declaring x → OwnEntry e → Quals (OfReferences e) quals → Has (Declares y e) (own_marks (declared_in_text x))
    → Agree b ts (item x (Declares y e ∷ owed) ∷ os) → Agree (run marked (declared b y e) quals) ts (item x owed ∷ os)
declares_agrees b x owed quals y e ts os d own q has a =
    step_agrees b (run marked (declared b y e) quals) (Declared (length b.tables.declarations) y e a.fine.stack.0) x (Declares y e ∷ owed) owed ts os
    (quals_step b (declared b y e) (Declared (length b.tables.declarations) y e a.fine.stack.0) (OfReferences e) quals q (declared_step b y e a.fine.stack.0 (own_unmatched e own) a.fine.stack.1))
    (λ i row p. made i row p.1) a
  where
    made : (i : ℕ) (row : Declaration) → IsRow y e a.fine.stack.0 row → RowOf (run marked (declared b y e) quals).tables.blocks ts (slice_get ts row.block) i row
    made i row p =
        let o : Own (declared_in_text x) row = record { entry = e; fits = own; alike = subst (Alike e) (sym p.3) (alike_own e own); name = y; named = sym p.0; token = sym p.1; listed = shown e row.listed (own_no_procedure e own) p.4; mark = has } in
        subst (λ z. RowOf (run marked (declared b y e) quals).tables.blocks ts z i row) (sym (ap (slice_get ts) p.2 ∙ a.fine.stack.2)) (own_row d o)

-- a virtual of a class
pub virtual_agrees : (b : BuildingOf) (x : Text) (owed quals : List Mark) (y : Identifier) (result : Option SimType) (ts : List Text) (os : List Open) → Interfacing x → Quals (AreReferences result) quals
    → Agree b ts (item x owed ∷ os) → Agree (run marked (declared b y (entry.Virtual result None)) quals) ts (item x owed ∷ os)
virtual_agrees b x owed quals y result ts os d q a =
    step_agrees b c (Declared (length b.tables.declarations) y (entry.Virtual result None) a.fine.stack.0) x owed owed ts os
    (quals_step b (declared b y (entry.Virtual result None)) (Declared (length b.tables.declarations) y (entry.Virtual result None) a.fine.stack.0) (AreReferences result) quals q (declared_step b y (entry.Virtual result None) a.fine.stack.0 (virtual_unmatched result) a.fine.stack.1))
    (λ i row p. made i row p.1) a
  where
    c : BuildingOf
    c = run marked (declared b y (entry.Virtual result None)) quals

    made : (i : ℕ) (row : Declaration) → IsRow y (entry.Virtual result None) a.fine.stack.0 row → RowOf c.tables.blocks ts (slice_get ts row.block) i row
    made i row p = subst (λ z. RowOf c.tables.blocks ts z i row) (sym (ap (slice_get ts) p.2 ∙ a.fine.stack.2)) (virtual_row d (ap is_virtual p.3) (shown (entry.Virtual result None) row.listed refl p.4))

pub parameter_agrees : (b : BuildingOf) (x : Text) (owed : List Mark) (y : Identifier) (ts : List Text) (os : List Open) → Taking x → Agree b ts (item x owed ∷ os) → Agree (parameter b y) ts (item x owed ∷ os)
parameter_agrees b x owed y ts os d a =
    step_agrees b (parameter b y) (Declared (length b.tables.declarations) y (entry.Unspecified None) a.fine.stack.0) x owed owed ts os (parameter_step b y a.fine.stack.0 a.fine.stack.1) (λ i row p. made i row p.1) a
  where
    made : (i : ℕ) (row : Declaration) → IsRow y (entry.Unspecified None) a.fine.stack.0 row → RowOf (parameter b y).tables.blocks ts (slice_get ts row.block) i row
    made i row p = subst (λ z. RowOf (parameter b y).tables.blocks ts z i row) (sym (ap (slice_get ts) p.2 ∙ a.fine.stack.2)) (formal_row d (subst Parametric (sym p.3) tt) (shown (entry.Unspecified None) row.listed refl p.4))

pub block_agrees : (b : BuildingOf) (k : BlockKind) (text first : ℕ) (x : Text) (owed : List Mark) (ts : List Text) (os : List Open) → KindOf k x → Ordinary x → Agree b ts os → Agree (opened b k text first) (ts ++ x ∷ []) (item x owed ∷ os)
block_agrees b k text first x owed ts os p ordinary a = opened_agrees b k text first ts x owed os p ordinary a.fine (begun_rows b (fresh b k first) (placed b.tables b.current first).places ts x os a.fine a.rows)

-- the innermost block may have a prefix
pub prefix_kind : (b : BuildingOf) (x : Text) (owed : List Mark) (ts : List Text) (os : List Open) → Prefixing x → (f : Fine b ts (item x owed ∷ os)) → (row : BlockOf) → slice_get b.tables.blocks f.stack.0 ≡ Some row → is_prefixable row.kind ≡ true
prefix_kind b x owed ts os p f row at = go x p (subst (λ z. KindIs (Some row) z) f.stack.2 (subst (λ z. KindIs z (slice_get ts f.stack.0)) at (f.kinds f.stack.0)))
  where
    go : (x : Text) → Prefixing x → KindOf row.kind x → is_prefixable row.kind ≡ true
    go (ClassText prefix h ds ss) q k = ap is_prefixable k
    go (PrefixedText class es ds ss) q k = ap is_prefixable k
    go (BlockText i ds ss) q k = absurd q
    go (ProcedureText result h a) q k = absurd q
    go ConnectionText q k = absurd q
    go (StandardText which) q k = absurd q

-- a standard prefix in front of the innermost block, which has just begun
pub standard_run_agree : (p : StandardPrefix) (c : BuildingOf) → FreshTop c → (token : ℕ) (y : Identifier) (x : Text) (owed : List Mark) (ts : List Text) (os : List Open) → Spells p y → InFront p x → Agree c ts (item x owed ∷ os) → Agree (run marked c (whole_prefix p token y)) (ts ++ brought_texts p) (item x owed ∷ os)
standard_run_agree p c t token y x owed ts os spelt in_front a =
    subst (λ d. Agree d (ts ++ brought_texts p) (item x owed ∷ os)) (sym (brought_is p c t token y))
    (standard_agree p y spelt c t.number token t.row t.last t.at ts x owed os a.fine t.current in_front (prefix_kind c x owed ts os (front_prefixing p x in_front) a.fine t.row (ap (slice_get c.tables.blocks) here ∙ t.at)) a.rows)
  where
    same_top : (m n : ℕ) → Some m ≡ Some n → m ≡ n
    same_top m n e = cc

    here : a.fine.stack.0 ≡ t.number
    here = same_top a.fine.stack.0 t.number (sym a.fine.stack.1 ∙ t.current)

-- ---- the whole

-- the declarations that are still to come in an open text are its own
abbrev pub OwesText : Text → List Mark → Type 0
OwesText x owed = (y : Identifier) (e : Entry) → Has (Declares y e) owed → Has (Declares y e) (own_marks (declared_in_text x))

abbrev pub Owes : List Open → Type 0
Owes [] = Unit {0}
Owes (o ∷ os) = OwesText o.text o.owed × Owes os

-- behind the ends of a heading
pub owes_heading : (x : Text) (ys : List Identifier) (owed : List Mark) → OwesText x owed → OwesText x (each headed_marks ys ++ owed)
unfolding headed_marks
owes_heading x [] owed w y e h = w y e h
owes_heading x (z ∷ ys) owed w y e h = go (has_cases h) (λ q. owes_heading x ys owed w y e q)
  where
    go : (Declares y e ≡ Headed z) ⊎ Has (Declares y e) (each headed_marks ys ++ owed) → (Has (Declares y e) (each headed_marks ys ++ owed) → Has (Declares y e) (own_marks (declared_in_text x))) → Has (Declares y e) (own_marks (declared_in_text x))
    go (inl q) rest = absurd (cc)
    go (inr q) rest = rest q

pub owes_none : (x : Text) → OwesText x []
owes_none x y e h = elim h [ ]

-- marks one after the other
pub run_both : (b : BuildingOf) (quals ms : List Mark) → run marked b (quals ++ ms) ≡ run marked (run marked b quals) ms
unfolding run
run_both b [] ms = refl
run_both b (m ∷ quals) ms = run_both (marked b m) quals ms

pub run_agrees : {os : List Open} {ms : List Mark} {xs : List Text} (b : BuildingOf) (ts : List Text) → Grouped os ms xs → Owes os → Agree b ts os → Agree (run marked b ms) (ts ++ xs) []
unfolding run marked
run_agrees {os = os} b ts (nothing e) w a = subst (λ z. Agree b z []) (sym (append-nil ts)) (subst (Agree b ts) e a)
run_agrees {os = os} b ts (block {ms = ms} {xs = xs} k text first i ds ss p g) w a =
    subst (λ z. Agree (run marked (opened b k text first) ms) z []) (append_assoc ts (BlockText i ds ss ∷ []) xs) (run_agrees (opened b k text first) (ts ++ BlockText i ds ss ∷ []) g ((λ y e q. q), w) (block_agrees b k text first (BlockText i ds ss) (own_marks ds) ts os p tt a))
run_agrees {os = os} b ts (prefixed_block {ms = ms} {xs = xs} text first class es ds ss g) w a =
    let x : Text = PrefixedText class es ds ss in
    subst (λ z. Agree (run marked (opened b kind.Prefixed text first) ms) z []) (append_assoc ts (x ∷ []) xs) (run_agrees (opened b kind.Prefixed text first) (ts ++ x ∷ []) g ((λ y e q. q), w) (block_agrees b kind.Prefixed text first x (own_marks ds) ts os refl tt a))
run_agrees {os = os} b ts (standard_block {ms = ms} {xs = xs} p text first class es ds ss e g) w a =
    let x : Text = PrefixedText class es ds ss in
    let c : BuildingOf = opened b kind.Prefixed text first in
    let d : BuildingOf = run marked c (whole_prefix p first class) in
    subst (λ k. Agree k (ts ++ (x ∷ (brought_texts p ++ xs))) []) (sym (run_both c (whole_prefix p first class) ms))
    (subst (λ z. Agree (run marked d ms) z []) (append_assoc (ts ++ x ∷ []) (brought_texts p) xs ∙ append_assoc ts (x ∷ []) (brought_texts p ++ xs))
    (run_agrees d ((ts ++ x ∷ []) ++ brought_texts p) g ((λ y e q. q), w) (standard_run_agree p c (opened_top b kind.Prefixed text first) first class x (own_marks ds) (ts ++ x ∷ []) os e e (block_agrees b kind.Prefixed text first x (own_marks ds) ts os refl tt a))))
run_agrees {os = os} b ts (connects {ms = ms} {xs = xs} text first g) w a =
    subst (λ z. Agree (run marked (opened b kind.Connection text first) ms) z []) (append_assoc ts (ConnectionText ∷ []) xs) (run_agrees (opened b kind.Connection text first) (ts ++ ConnectionText ∷ []) g (owes_none ConnectionText, w) (block_agrees b kind.Connection text first ConnectionText [] ts os refl tt a))
run_agrees b ts (procedure {os = os} {ms = ms} {xs = xs} text first x owed quals result h body d n q g) w a =
    let z : Text = ProcedureText result h body in
    let c : BuildingOf = run marked (declared b h.name (entry.Procedure (result_named result) (length b.tables.blocks))) quals in
    let inner : List Mark = each headed_marks h.formals ++ [] in
    subst (λ c. Agree c (ts ++ (z ∷ xs)) []) (sym (run_both (declared b h.name (entry.Procedure (result_named result) (length b.tables.blocks))) quals (Opens kind.Procedure text first ∷ ms)))
    (subst (λ z. Agree (run marked (opened c kind.Procedure text first) ms) z []) (append_assoc ts (z ∷ []) xs)
    (run_agrees (opened c kind.Procedure text first) (ts ++ z ∷ []) g (owes_heading z h.formals [] (owes_none z), w) (procedure_agrees b text first x owed inner quals result h body ts os d q a)))
run_agrees b ts (declares_class {os = os} {ms = ms} {xs = xs} text first x owed prefix h ds ss d n g) w a =
    let z : Text = ClassText prefix h ds ss in
    let c : BuildingOf = changed (declared b h.name (entry.Class (length b.tables.blocks))) holding_class b.current in
    subst (λ z. Agree (run marked (opened c kind.Class text first) ms) z []) (append_assoc ts (z ∷ []) xs)
    (run_agrees (opened c kind.Class text first) (ts ++ z ∷ []) g (owes_heading z h.formals (own_marks ds) (λ y e q. q), w) (class_agrees b text first x owed (each headed_marks h.formals ++ own_marks ds) prefix h ds ss ts os d a))
run_agrees b ts (standard_class {os = os} {ms = ms} {xs = xs} p text first x owed y h ds ss e d n g) w a =
    let z : Text = ClassText (Some y) h ds ss in
    let c0 : BuildingOf = changed (declared b h.name (entry.Class (length b.tables.blocks))) holding_class b.current in
    let c : BuildingOf = opened c0 kind.Class text first in
    let inner : List Mark = each headed_marks h.formals ++ own_marks ds in
    let k : BuildingOf = run marked c (whole_prefix p first y) in
    subst (λ q. Agree q (ts ++ (z ∷ (brought_texts p ++ xs))) []) (sym (run_both c (whole_prefix p first y) ms))
    (subst (λ q. Agree (run marked k ms) q []) (append_assoc (ts ++ z ∷ []) (brought_texts p) xs ∙ append_assoc ts (z ∷ []) (brought_texts p ++ xs))
    (run_agrees k ((ts ++ z ∷ []) ++ brought_texts p) g (owes_heading z h.formals (own_marks ds) (λ y e q. q), w) (standard_run_agree p c (opened_top c0 kind.Class text first) first y z inner (ts ++ z ∷ []) (item x owed ∷ os) e e (class_agrees b text first x owed inner (Some y) h ds ss ts os d a))))
run_agrees b ts (declares {os = os} {ms = ms} {xs = xs} x owed quals y e d n own q written g) w a =
    subst (λ c. Agree c (ts ++ xs) []) (sym (run_both (declared b y e) quals ms))
    (run_agrees (run marked (declared b y e) quals) ts g ((λ z f p. w.0 z f (there p)), w.1) (declares_agrees b x owed quals y e ts os d own q (w.0 y e here) a))
run_agrees b ts (specifies_virtual {os = os} {ms = ms} {xs = xs} x owed quals y result d n q g) w a =
    let e : Entry = entry.Virtual (result_named result) None in
    subst (λ c. Agree c (ts ++ xs) []) (sym (run_both (declared b y e) quals ms))
    (run_agrees (run marked (declared b y e) quals) ts g w (virtual_agrees b x owed quals y (result_named result) ts os d q a))
run_agrees b ts (parameter_mark {os = os} x owed y d has g) w a = run_agrees (parameter b y) ts g w (parameter_agrees b x owed y ts os d a)
run_agrees b ts (moded {os = os} x owed y m takes g) w a = run_agrees _ ts g w (quiet_agrees b _ ts (item x owed ∷ os) (moded_step b y.token m (found_in b.tables b.current y.name)) a)
run_agrees b ts (specified {os = os} {ms = ms} {xs = xs} x owed quals y k ty takes p q g) w a =
    let c : BuildingOf = specified_of (met b (found_in b.tables b.current y.name)) y.token k ty (found_in b.tables b.current y.name) in
    subst (λ c. Agree c (ts ++ xs) []) (sym (run_both c quals ms))
    (run_agrees (run marked c quals) ts g w (quiet_agrees b (run marked c quals) ts (item x owed ∷ os) (quals_step b c Nothing (AreReferences ty) quals q (specified_met b y.token k ty (found_in b.tables b.current y.name) p)) a))
run_agrees b ts (headed {os = os} x owed y g) w a =
    run_agrees _ ts g ((λ z f p. w.0 z f (there p)), w.1) (step_agrees b _ Nothing x (Headed y ∷ owed) owed ts os (headed_step b y.token (unspecified_at b.tables (found_in b.tables b.current y.name))) (λ d row q. absurd q) a)
run_agrees b ts (prefixes {os = os} x owed y q p g) w a =
    run_agrees _ ts g w (quiet_agrees b _ ts (item x owed ∷ os) (prefix_step b y a.fine.stack.0 a.fine.stack.1 p (prefix_kind b x owed ts os q a.fine)) a)
run_agrees {os = os} b ts (inner_mark token g) w a = run_agrees _ ts g w (quiet_agrees b _ ts os (inner_step b token b.current refl) a)
run_agrees {os = os} b ts (guarded hides keeps y g) w a = run_agrees _ ts g w (quiet_agrees b _ ts os (guards_step b hides keeps y b.current refl) a)
run_agrees {os = os} b ts (breaks_rule token rule g) w a = run_agrees _ ts g w (quiet_agrees b _ ts os (rule_step b token rule) a)
run_agrees b ts (closes {os = os} x end g) w a = run_agrees (closed b end b.current) ts g w.1 (closed_agrees b end ts x os a)
