-- Each declaration, each parameter and each part of a heading keeps what holds of clean declarations.
use Rattle.std.proofs.Common.{◌≡◌, ◌<◌, ◌⊎◌, inl, inr, ℕ, Bool, true, false, List, ◌∷◌, length, Option, Some, None, refl, sym, ap, ◌∙◌, subst, arith}
use Rattle.std.specs.Prelude.{nat_eq, slice_get}
use Rattle.std.proofs.lemmas.Option.{slice_get_within}
use Rattle.std.proofs.lemmas.Bool.Decides.{nat_tests}
use Rattle.sim_base.specs.declared.numbering.DeclNo.{DeclNo}
use Rattle.sim_tree.specs.declared.expr.Identifier.{Identifier}
use Rattle.sim_scope.specs.declared.scopes.Declaration.{Declaration}
use Rattle.sim_scope.specs.declared.types.Entry.{Entry}
use Rattle.sim_scope.specs.declared.types.Entry.TheVariants as entry
use Rattle.sim_scope.specs.declared.types.SimType.{SimType}
use Rattle.sim_scope.specs.declared.types.WrittenMode.{WrittenMode}
use Rattle.sim_scope.specs.Building.{BuildingOf, Declares, Headed, Mark, counted, counted_in, declared, found_in, headed as headed_of, marked, parameter as parameter_of, row_of as new_row, unspecified_at, unspecified_in}
use Rattle.sim_scope.specs.Runs.{run}
use Rattle.sim_scope.specs.Scopes.{declared_in, entry_in, entry_of, lookup}
use Rattle.sim_scope.specs.Tables.{BlockOf, Tables}
use Rattle.sim_scope.proofs.Kept.{set_here}
use Rattle.sim_meaning.specs.Entries.{numbers_in}
use Rattle.sim_sound.specs.Held.{Among}
use Rattle.sim_meaning.specs.Texts.{Text}
use Rattle.sim_agree.proofs.Calm.{declared_calm, headed_calm, span}
use Rattle.sim_agree.proofs.Groups.{AreReferences, ArrayWritten, Has, NoHeaded, OfReferences, Open, OwnEntry, Quals, declared_in_text, has_cases, item, there, Written}
use Rattle.sim_agree.proofs.Steps.{Becomes, IsParameter, Nothing, RowIs, Step, shown, among_at}
use Rattle.sim_agree.proofs.Marks.{Declared, declared_latest, declared_step, headed_step, own_unmatched, parameter_step, unspecified_unmatched, virtual_unmatched}
use Rattle.sim_agree.proofs.Fine.{Fine}
use Rattle.sim_agree.proofs.Clean.{Clean, Counts, Made, Origin, OwedAt, RowFor, WrittenFor, complete_stays, declared_clean, declared_refs, early_stays, headed_clean, heading_past, heads_stay, old_row, origins_stay, param_stays, param_was, quals_clean, quals_least, quiet_clean, references_stay, some_same, step_clean}

-- ---- a declaration that is no parameter

module _ (b c : BuildingOf) (y : Identifier) (e : Entry) (n : ℕ) (ts : List Text) (x : Text) (owed : List Mark) (os : List Open) (s : Step b c (Declared (length b.tables.declarations) y e n)) (spans : (j : ℕ) → span (slice_get c.tables.blocks j) ≡ span (slice_get b.tables.blocks j))
    (same : c.tables.qualifications ≡ b.tables.qualifications) (other : IsParameter e → ⊥) (free : NoHeaded owed) (cur : b.current ≡ Some n) where
  pub named_clean : Fine b ts (item x owed ∷ os) → Clean b ts (item x owed ∷ os) → Clean c ts (item x owed ∷ os)
  named_clean f g =
      step_clean b c (Declared (length b.tables.declarations) y e n) s ts (item x owed ∷ os) f (λ d row p. p.0) (λ d row p q. other (subst IsParameter p.1.3 q))
      (λ d row p z q. heading_past b ts x owed os f free n cur z (subst (λ m. OwedAt b.tables.blocks b.current (item x owed ∷ os) m (Headed z)) p.1.2 q)) spans same g

own_other : (e : Entry) → OwnEntry e → IsParameter e → ⊥
own_other (entry.Variable ty) own p = p
own_other (entry.Constant ty) own p = p
own_other (entry.Array ty n) own p = p
own_other (entry.Procedure result k) own p = own
own_other (entry.Class k) own p = own
own_other (entry.Virtual result k) own p = own
own_other (entry.Formal f) own p = own
own_other (entry.Unspecified v) own p = own
own_other (entry.Attribute name given result) own p = own

-- what is declared has come
pop_declares : (c : BuildingOf) (ts : List Text) (x : Text) (y : Identifier) (e : Entry) (owed : List Mark) (os : List Open) (n : ℕ) → c.current ≡ Some n → RowFor c n y e → Clean c ts (item x (Declares y e ∷ owed) ∷ os) → Clean c ts (item x owed ∷ os)
pop_declares c ts x y e owed os n cur made f = record {
  complete = λ m z at w k has. complete m w k (f.complete m z at w k has);
  heads = λ d row w at is. heads row (f.heads d row w at is);
  early = λ m w q. f.early m w (more m w q);
  counts = f.counts;
  refs = f.refs;
  origins = f.origins;
}
  where
    is_mark : (w : Identifier) (k : Entry) → Declares w k ≡ Declares y e → (w ≡ y) × (k ≡ e)
    is_mark w k is = (cc, cc)

    complete : (m : ℕ) (w : Identifier) (k : Entry) → RowFor c m w k ⊎ OwedAt c.tables.blocks c.current (item x (Declares y e ∷ owed) ∷ os) m (Declares w k) → RowFor c m w k ⊎ OwedAt c.tables.blocks c.current (item x owed ∷ os) m (Declares w k)
    complete m w k (inl q) = inl q
    complete m w k (inr (inr q)) = inr (inr q)
    complete m w k (inr (inl q)) = go (has_cases q.1)
      where
        go : (Declares w k ≡ Declares y e) ⊎ Has (Declares w k) owed → RowFor c m w k ⊎ OwedAt c.tables.blocks c.current (item x owed ∷ os) m (Declares w k)
        go (inr h) = inr (inl (q.0, h))
        go (inl h) =
            let both = is_mark w k h in
            let same : n ≡ m = some_same n m (sym cur ∙ q.0) in
            inl (subst (λ z. RowFor c m w z) (sym both.1) (subst (λ z. RowFor c m z e) (sym both.0) (subst (λ z. RowFor c z y e) same made)))

    heads : (row : Declaration) → (z : Identifier) × (z.name ≡ row.name) × OwedAt c.tables.blocks c.current (item x (Declares y e ∷ owed) ∷ os) row.block (Headed z) × (row.listed ≡ true)
        → (z : Identifier) × (z.name ≡ row.name) × OwedAt c.tables.blocks c.current (item x owed ∷ os) row.block (Headed z) × (row.listed ≡ true)
    heads row (z, name, inr q, l) = (z, name, inr q, l)
    heads row (z, name, inl q, l) = go (has_cases q.1)
      where
        go : (Headed z ≡ Declares y e) ⊎ Has (Headed z) owed → (w : Identifier) × (w.name ≡ row.name) × OwedAt c.tables.blocks c.current (item x owed ∷ os) row.block (Headed w) × (row.listed ≡ true)
        go (inl h) = absurd (cc)
        go (inr h) = (z, name, inl (q.0, h), l)

    more : (m : ℕ) (w : Identifier) → OwedAt c.tables.blocks c.current (item x owed ∷ os) m (Headed w) → OwedAt c.tables.blocks c.current (item x (Declares y e ∷ owed) ∷ os) m (Headed w)
    more m w (inl q) = inl (q.0, there q.1)
    more m w (inr q) = inr q

no_headed_under : (y : Identifier) (e : Entry) (owed : List Mark) → NoHeaded owed → NoHeaded (Declares y e ∷ owed)
no_headed_under y e owed free z h = go (has_cases h)
  where
    go : (Headed z ≡ Declares y e) ⊎ Has (Headed z) owed → ⊥
    go (inl q) = cc
    go (inr q) = free z q

-- a mark of a text's own
pub declares_clean : (b : BuildingOf) (x : Text) (owed quals : List Mark) (y : Identifier) (e : Entry) (ts : List Text) (os : List Open) (row : BlockOf) → NoHeaded owed → OwnEntry e → Quals (OfReferences e) quals → Written e y quals (declared_in_text x) → (f : Fine b ts (item x (Declares y e ∷ owed) ∷ os)) → slice_get b.tables.blocks f.stack.0 ≡ Some row
    → (run marked (declared b y e) quals).least ≡ None → (b.least ≡ None) × (Clean b ts (item x (Declares y e ∷ owed) ∷ os) → Clean (run marked (declared b y e) quals) ts (item x owed ∷ os))
declares_clean b x owed quals y e ts os row free own q written f at clean =
    let d = declared_clean b y e f.stack.0 row f.stack.1 at (sym (quals_least c (OfReferences e) quals q) ∙ clean) in (
      d.0,
      λ g. quals_clean c (OfReferences e) quals ts (item x owed ∷ os) q (last d.1) (origin d.1)
          (pop_declares c ts x y e owed os f.stack.0 (s.current ∙ f.stack.1) (made d.1)
          (named_clean b c y e f.stack.0 ts x (Declares y e ∷ owed) os s (declared_calm b y e).spans (declared_refs b y e f.stack.0 f.stack.1) (own_other e own) (no_headed_under y e owed free) f.stack.1 f g)),
    )
  where
    c : BuildingOf
    c = declared b y e

    s : Step b (declared b y e) (Declared (length b.tables.declarations) y e f.stack.0)
    s = declared_step b y e f.stack.0 (own_unmatched e own) f.stack.1

    made : Made b y e f.stack.0 (declared b y e) → RowFor (declared b y e) f.stack.0 y e
    made m = record { number = length b.tables.declarations; row = new_row y e f.stack.0 m.0; at = m.1; name = refl; token = refl; block = refl; entry = refl; own = own }

    last : Made b y e f.stack.0 (declared b y e) → OfReferences e → (d : DeclNo) × ((declared b y e).latest ≡ Some d) × (found : Declaration) × (slice_get (declared b y e).tables.declarations d.0 ≡ Some found) × OfReferences found.entry
    last m refs = (record { 0 = length b.tables.declarations }, declared_latest b y e f.stack.0 (new_row y e f.stack.0 m.0) f.stack.1 m.1, new_row y e f.stack.0 m.0, m.1, refs)

    origin : Made b y e f.stack.0 (declared b y e) → Origin (declared b y e) quals ts
    origin m class are d is found ty n known array =
        let same : record { 0 = length b.tables.declarations } ≡ d = some_same (record { 0 = length b.tables.declarations }) d (sym (declared_latest b y e f.stack.0 (new_row y e f.stack.0 m.0) f.stack.1 m.1) ∙ is) in
        let one : new_row y e f.stack.0 m.0 ≡ found = some_same (new_row y e f.stack.0 m.0) found (sym m.1 ∙ subst (λ (z : DeclNo). slice_get (declared b y e).tables.declarations z.0 ≡ Some found) (sym same) known) in
        subst (λ z. WrittenFor ts z class) one (record {
          text = x;
          at = f.stack.2;
          name = y;
          token = refl;
          written = subst (λ z. ArrayWritten y z (declared_in_text x)) are (subst (λ z. Written z y quals (declared_in_text x)) (ap (λ (z : Declaration). z.entry) one ∙ array) written);
        })

-- a virtual of a class
pub virtual_clean : (b : BuildingOf) (x : Text) (owed quals : List Mark) (y : Identifier) (result : Option SimType) (ts : List Text) (os : List Open) (row : BlockOf) → NoHeaded owed → Quals (AreReferences result) quals → (f : Fine b ts (item x owed ∷ os)) → slice_get b.tables.blocks f.stack.0 ≡ Some row
    → (run marked (declared b y (entry.Virtual result None)) quals).least ≡ None → (b.least ≡ None) × (Clean b ts (item x owed ∷ os) → Clean (run marked (declared b y (entry.Virtual result None)) quals) ts (item x owed ∷ os))
virtual_clean b x owed quals y result ts os row free q f at clean =
    let d = declared_clean b y (entry.Virtual result None) f.stack.0 row f.stack.1 at (sym (quals_least (declared b y (entry.Virtual result None)) (AreReferences result) quals q) ∙ clean) in (
      d.0,
      λ g. quals_clean c (AreReferences result) quals ts (item x owed ∷ os) q (last d.1) (origin d.1)
          (named_clean b c y e f.stack.0 ts x owed os s (declared_calm b y e).spans (declared_refs b y e f.stack.0 f.stack.1) (λ i. i) free f.stack.1 f g),
    )
  where
    e : Entry
    e = entry.Virtual result None

    c : BuildingOf
    c = declared b y (entry.Virtual result None)

    s : Step b (declared b y (entry.Virtual result None)) (Declared (length b.tables.declarations) y (entry.Virtual result None) f.stack.0)
    s = declared_step b y (entry.Virtual result None) f.stack.0 (virtual_unmatched result) f.stack.1

    last : Made b y (entry.Virtual result None) f.stack.0 (declared b y (entry.Virtual result None)) → AreReferences result → (d : DeclNo) × ((declared b y (entry.Virtual result None)).latest ≡ Some d) × (found : Declaration) × (slice_get (declared b y (entry.Virtual result None)).tables.declarations d.0 ≡ Some found) × OfReferences found.entry
    last m refs = (record { 0 = length b.tables.declarations }, declared_latest b y e f.stack.0 (new_row y e f.stack.0 m.0) f.stack.1 m.1, new_row y e f.stack.0 m.0, m.1, refs)

    -- a virtual is no array
    origin : Made b y (entry.Virtual result None) f.stack.0 (declared b y (entry.Virtual result None)) → Origin (declared b y (entry.Virtual result None)) quals ts
    origin m class are d is found ty n known array =
        let same : record { 0 = length b.tables.declarations } ≡ d = some_same (record { 0 = length b.tables.declarations }) d (sym (declared_latest b y e f.stack.0 (new_row y e f.stack.0 m.0) f.stack.1 m.1) ∙ is) in
        let one : new_row y e f.stack.0 m.0 ≡ found = some_same (new_row y e f.stack.0 m.0) found (sym m.1 ∙ subst (λ (z : DeclNo). slice_get c.tables.declarations z.0 ≡ Some found) (sym same) known) in
        absurd (let other : entry.Virtual result None ≡ entry.Array ty n = ap (λ (z : Declaration). z.entry) one ∙ array in cc)

-- ---- parameters

pub counted_same : (d : BuildingOf) (o : Option ℕ) → ((counted_in d o).least ≡ d.least) × ((counted_in d o).tables.declarations ≡ d.tables.declarations) × ((counted_in d o).tables.qualifications ≡ d.tables.qualifications)
counted_same d None = (refl, refl, refl)
counted_same d (Some n) = go (slice_get d.tables.blocks n)
  where
    go : (o : Option BlockOf) → ((counted d n o).least ≡ d.least) × ((counted d n o).tables.declarations ≡ d.tables.declarations) × ((counted d n o).tables.qualifications ≡ d.tables.qualifications)
    go None = (refl, refl, refl)
    go (Some row) = (refl, refl, refl)

counted_here : (d : BuildingOf) (n : ℕ) (row : BlockOf) → slice_get (counted_in d (Some n)).tables.blocks n ≡ Some row → row.formals ≡ length row.numbers
counted_here d n row is = go (slice_get d.tables.blocks n) refl is
  where
    go : (o : Option BlockOf) → slice_get d.tables.blocks n ≡ o → slice_get (counted d n o).tables.blocks n ≡ Some row → row.formals ≡ length row.numbers
    go None at is = absurd (let e : None ≡ Some row = sym at ∙ is in cc)
    go (Some old) at is =
        let e : record old { formals = length old.numbers } ≡ row = some_same (record old { formals = length old.numbers }) row (sym (set_here d.tables.blocks n old (record old { formals = length old.numbers }) at) ∙ is) in
        subst (λ (z : BlockOf). z.formals ≡ length z.numbers) e refl

pub parameter_clean : (b : BuildingOf) (x : Text) (owed : List Mark) (y : Identifier) (ts : List Text) (os : List Open) (row : BlockOf) → Has (Headed y) owed → (f : Fine b ts (item x owed ∷ os)) → Fine (parameter_of b y) ts (item x owed ∷ os) → slice_get b.tables.blocks f.stack.0 ≡ Some row
    → (parameter_of b y).least ≡ None → (b.least ≡ None) × (Clean b ts (item x owed ∷ os) → Clean (parameter_of b y) ts (item x owed ∷ os))
parameter_clean b x owed y ts os row has f fc at clean =
    let q = declared_clean b y (entry.Unspecified None) n row f.stack.1 at (sym (counted_same d d.current).0 ∙ clean) in (q.0, after)
  where
    n : ℕ
    n = f.stack.0

    d : BuildingOf
    d = declared b y (entry.Unspecified None)

    c : BuildingOf
    c = parameter_of b y

    stack : List Open
    stack = item x owed ∷ os

    New : ℕ → Declaration → Type 0
    New = Declared (length b.tables.declarations) y (entry.Unspecified None) n

    s : Step b (parameter_of b y) (Declared (length b.tables.declarations) y (entry.Unspecified None) n)
    s = parameter_step b y n f.stack.1

    kept : c.tables.qualifications ≡ b.tables.qualifications
    kept = (counted_same d d.current).2 ∙ declared_refs b y (entry.Unspecified None) n f.stack.1

    now : d.current ≡ Some n
    now = (declared_step b y (entry.Unspecified None) n (unspecified_unmatched None) f.stack.1).current ∙ f.stack.1

    after : Clean b ts (item x owed ∷ os) → Clean (parameter_of b y) ts (item x owed ∷ os)
    after g = record {
      complete = λ m z top w k q. complete_stays b c New s ts stack f.stack m w k (g.complete m z top w k q);
      heads = λ e found w is named. heads e found w named (s.rows e found is);
      early = early;
      counts = λ m found is. counts m found is (nat_eq n m) refl;
      refs = references_stay b c New s ts kept stack g;
      origins = origins_stay b c New s ts kept stack g;
    }
      where
        heads : (e : ℕ) (found : Declaration) (w : Option WrittenMode) → found.entry ≡ entry.Unspecified w
            → RowIs b c New e found
            → (z : Identifier) × (z.name ≡ found.name) × OwedAt c.tables.blocks c.current stack found.block (Headed z) × (found.listed ≡ true)
        heads e found w is (inl q) = heads_stay b c New s ts stack f.stack g e found q.0 w q.1 q.2 is
        heads e found w is (inr q) = (y, sym q.0.1.0, inl (s.current ∙ f.stack.1 ∙ ap Some (sym q.0.1.2), has), shown (entry.Unspecified None) found.listed refl q.0.1.4)

        early : (m : ℕ) (z : Identifier) → OwedAt c.tables.blocks c.current stack m (Headed z) → (e : ℕ) (found : Declaration) → slice_get c.tables.declarations e ≡ Some found → found.block ≡ m → found.listed ≡ true → IsParameter found.entry
        early = early_stays b c New s ts stack fc.stack (λ e found p z q. subst IsParameter (sym p.1.3) tt) g

        here_owed : OwedAt c.tables.blocks c.current (item x owed ∷ os) n (Headed y)
        here_owed = inl (s.current ∙ f.stack.1, has)

        counts : (m : ℕ) (found : BlockOf) → slice_get c.tables.blocks m ≡ Some found → (z : Bool) → nat_eq n m ≡ z → Counts c.tables.declarations found
        counts m found is true e =
            let same : n ≡ m = grind (arith, nat_tests) in
            let all : found.formals ≡ length found.numbers = counted_here d n found (subst (λ o. slice_get (counted_in d o).tables.blocks n ≡ Some found) now (ap (slice_get c.tables.blocks) same ∙ is)) in record {
              fits = omega (arith, all);
              front = λ i v r p t lt.
                  let o = fc.own m v (subst (λ z. Among v (numbers_in z)) (sym is) (among_at found.numbers i v p)) in
                  let one : o.0 ≡ r = some_same o.0 r (sym o.1 ∙ t) in
                  early n y here_owed v.0 r t (ap (λ (z : Declaration). z.block) (sym one) ∙ o.2 ∙ sym same) (ap (λ (z : Declaration). z.listed) (sym one) ∙ o.3);
              back = λ i v r p t param. (let lt : i < length found.numbers = slice_get_within found.numbers i v p in omega (arith, all));
            }
        counts m found is false e =
            let old : slice_get b.tables.blocks m ≡ Some found = sym (s.others m (λ q. (let same : n ≡ m = some_same n m (sym f.stack.1 ∙ q) in let P : nat_eq n m ≡ true = grind (arith, nat_tests) in let Q : true ≡ false = sym P ∙ e in cc))) ∙ is in
            let k = g.counts m found old in record {
              fits = k.fits;
              front = λ i v r p t lt.
                  let w = old_row b c New s ts stack f (λ a row u. u.0) m v r (subst (λ z. Among v (numbers_in z)) (sym old) (among_at found.numbers i v p)) t in
                  param_stays w.0.entry r.entry w.2.entry (k.front i v w.0 p w.1 lt);
              back = λ i v r p t param.
                  let w = old_row b c New s ts stack f (λ a row u. u.0) m v r (subst (λ z. Among v (numbers_in z)) (sym old) (among_at found.numbers i v p)) t in
                  k.back i v w.0 p w.1 (param_was w.0.entry r.entry w.2.entry param);
            }

-- the end of a heading
unspecified_found : (t : Tables) (n : ℕ) (name : List ℕ) (d : DeclNo) (row : Declaration) (w : Option WrittenMode) → declared_in (slice_get t.blocks n) name ≡ Some d → slice_get t.declarations d.0 ≡ Some row → row.entry ≡ entry.Unspecified w
    → unspecified_at t (found_in t (Some n) name) ≡ None → ⊥
unfolding lookup entry_of
unspecified_found t n name d row w found at is none =
    let e : unspecified_in (entry_in (slice_get t.declarations d.0)) ≡ None = sym (ap (unspecified_at t) found) ∙ none in
    let f : unspecified_in (Some row.entry) ≡ None = sym (ap (λ o. unspecified_in (entry_in o)) at) ∙ e in
    let g : Some w ≡ None = sym (ap (λ z. unspecified_in (Some z)) is) ∙ f in cc

pub headed_step_clean : (b : BuildingOf) (x : Text) (owed : List Mark) (y : Identifier) (ts : List Text) (os : List Open) → Fine b ts (item x (Headed y ∷ owed) ∷ os) → (headed_of b y.token (unspecified_at b.tables (found_in b.tables b.current y.name))).least ≡ None
    → (b.least ≡ None) × (Clean b ts (item x (Headed y ∷ owed) ∷ os) → Clean (headed_of b y.token (unspecified_at b.tables (found_in b.tables b.current y.name))) ts (item x owed ∷ os))
headed_step_clean b x owed y ts os g clean =
    let q = headed_clean b y.token (unspecified_at b.tables (found_in b.tables b.current y.name)) clean in
    (q.1.1 clean, λ f. after q.0 (quiet_clean b c ts before s (headed_calm b y.token (unspecified_at b.tables (found_in b.tables b.current y.name))) q.1.0 g f))
  where
    c : BuildingOf
    c = headed_of b y.token (unspecified_at b.tables (found_in b.tables b.current y.name))

    before : List Open
    before = item x (Headed y ∷ owed) ∷ os

    next : List Open
    next = item x owed ∷ os

    s : Step b (headed_of b y.token (unspecified_at b.tables (found_in b.tables b.current y.name))) Nothing
    s = headed_step b y.token (unspecified_at b.tables (found_in b.tables b.current y.name))

    after : unspecified_at b.tables (found_in b.tables b.current y.name) ≡ None → Clean (headed_of b y.token (unspecified_at b.tables (found_in b.tables b.current y.name))) ts (item x (Headed y ∷ owed) ∷ os)
        → Clean (headed_of b y.token (unspecified_at b.tables (found_in b.tables b.current y.name))) ts (item x owed ∷ os)
    after none f = record {
      complete = λ m z top w e has. complete m w e (f.complete m z top w e has);
      heads = λ d row w at is. heads d row w at is (f.heads d row w at is);
      early = λ m w q. f.early m w (more m w q);
      counts = f.counts;
      refs = f.refs;
      origins = f.origins;
    }
      where
        more : (m : ℕ) (w : Identifier) → OwedAt c.tables.blocks c.current next m (Headed w) → OwedAt c.tables.blocks c.current before m (Headed w)
        more m w (inl q) = inl (q.0, there q.1)
        more m w (inr q) = inr q

        complete : (m : ℕ) (w : Identifier) (e : Entry) → RowFor c m w e ⊎ OwedAt c.tables.blocks c.current before m (Declares w e) → RowFor c m w e ⊎ OwedAt c.tables.blocks c.current next m (Declares w e)
        complete m w e (inl q) = inl q
        complete m w e (inr (inr q)) = inr (inr q)
        complete m w e (inr (inl q)) = go (has_cases q.1)
          where
            go : (Declares w e ≡ Headed y) ⊎ Has (Declares w e) owed → RowFor c m w e ⊎ OwedAt c.tables.blocks c.current next m (Declares w e)
            go (inl p) = absurd (cc)
            go (inr p) = inr (inl (q.0, p))

        heads : (d : ℕ) (row : Declaration) (w : Option WrittenMode) → slice_get c.tables.declarations d ≡ Some row → row.entry ≡ entry.Unspecified w → (z : Identifier) × (z.name ≡ row.name) × OwedAt c.tables.blocks c.current before row.block (Headed z) × (row.listed ≡ true)
            → (z : Identifier) × (z.name ≡ row.name) × OwedAt c.tables.blocks c.current next row.block (Headed z) × (row.listed ≡ true)
        heads d row w at is (z, name, inr q, l) = (z, name, inr q, l)
        heads d row w at is (z, name, inl q, l) = go (has_cases q.1)
          where
            same_name : Headed z ≡ Headed y → z ≡ y
            same_name e = cc

            old : (row : Declaration) → RowIs b c Nothing d row
                → row.entry ≡ entry.Unspecified w → row.name ≡ y.name → b.current ≡ Some row.block → row.listed ≡ true → ⊥
            old row (inr p) is named cur l = p.0
            old row (inl p) is named cur l =
                unspecified_found b.tables row.block y.name (record { 0 = d }) p.0 (unspec p.2.entry).0
                (subst (λ z. declared_in (slice_get b.tables.blocks z) y.name ≡ Some (record { 0 = d })) (sym p.2.block) (subst (λ z. declared_in (slice_get b.tables.blocks p.0.block) z ≡ Some (record { 0 = d })) (sym p.2.name ∙ named) (g.finds d p.0 p.1 (sym p.2.listed ∙ l))))
                p.1 (unspec p.2.entry).1 (subst (λ z. unspecified_at b.tables (found_in b.tables z y.name) ≡ None) cur none)
              where
                unspec : Becomes p.0.entry row.entry → (v : Option WrittenMode) × (p.0.entry ≡ entry.Unspecified v)
                unspec (inl e) = (w, sym e ∙ is)
                unspec (inr (inl e)) = (e.0, e.1)
                unspec (inr (inr e)) = absurd (let v : entry.Virtual e.0 (Some e.1) ≡ entry.Unspecified w = sym e.3 ∙ is in cc)

            go : (Headed z ≡ Headed y) ⊎ Has (Headed z) owed → (v : Identifier) × (v.name ≡ row.name) × OwedAt c.tables.blocks c.current next row.block (Headed v) × (row.listed ≡ true)
            go (inr p) = (z, name, inl (q.0, p), l)
            go (inl p) = absurd (old row (s.rows d row at) is (sym name ∙ ap (λ (v : Identifier). v.name) (same_name p)) (sym s.current ∙ q.0) l)
