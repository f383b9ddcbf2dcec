-- Where no rule on declarations is broken: what the classes of a standard prefix and their attributes leave as it is.
use Rattle.std.proofs.Common.{◌≡◌, ◌<◌, ◌≤◌, ◌+◌, ◌⊎◌, inl, inr, ℕ, true, false, List, [], ◌∷◌, ◌++◌, length, Option, Some, None, refl, sym, ap, ◌∙◌, subst, arith}
use Rattle.std.specs.Prelude.{slice_get}
use Rattle.sim_base.specs.declared.numbering.DeclNo.{DeclNo}
use Rattle.sim_tree.specs.declared.expr.Identifier.{Identifier}
use Rattle.sim_tree.specs.Syntax.{NoDeclaration}
use Rattle.sim_scope.specs.declared.scopes.Declaration.{Declaration}
use Rattle.sim_scope.specs.declared.types.Entry.{Entry}
use Rattle.sim_scope.specs.declared.types.Entry.TheVariants as entry
use Rattle.sim_scope.specs.declared.types.SimType.{SimType}
use Rattle.sim_scope.specs.declared.types.StandardClass.{StandardClass}
use Rattle.sim_scope.specs.declared.types.StandardClass.TheVariants as standard
use Rattle.sim_scope.specs.declared.types.StandardPrefix.{StandardPrefix}
use Rattle.sim_scope.specs.declared.types.StandardPrefix.TheVariants as prefix
use Rattle.sim_scope.specs.declared.types.WrittenMode.{WrittenMode}
use Rattle.sim_scope.specs.Access.{around}
use Rattle.sim_scope.specs.Building.{BuildingOf, Declares, Headed, Mark, place_of, prefixed_by}
use Rattle.sim_scope.specs.Tables.{BlockOf}
use Rattle.sim_meaning.specs.Entries.{numbers_in}
use Rattle.sim_meaning.specs.Texts.{StandardText, Text}
use Rattle.sim_sound.specs.Held.{Among}
use Rattle.sim_values.specs.declared.standard.Standard.{Standard}
use Rattle.sim_agree.proofs.Brought.{parts_get}
use Rattle.sim_agree.proofs.BroughtFine as fine
use Rattle.sim_agree.proofs.BroughtKnown.{Added, Lists, RowAdded, a_class, added, among_all, an_attribute, an_own, row_added}
use Rattle.sim_agree.proofs.BroughtRows.{added_declarations, added_number, with_standard}
use Rattle.sim_agree.proofs.ByNames.{ByNames, OfName, named_stay}
use Rattle.sim_agree.proofs.Clean.{Clean, Counts, OwedAt, RowFor, WrittenFor, owed_below, owed_kept}
use Rattle.sim_agree.proofs.Covered.{Covered, covered_stays}
use Rattle.sim_agree.proofs.Fine.{Fine, Stack, owner_in, same_around, stack_kept}
use Rattle.sim_agree.proofs.Groups.{Has, OfReferences, Open, declared_in_text, item, own_marks}
use Rattle.sim_agree.proofs.Owned.{Owned, OwnedText, text_moves}
use Rattle.sim_agree.proofs.StandardPrefixes.{InFront, IsBrought, Spells, brought_texts, text_brought}
use Rattle.sim_agree.proofs.Steps.{IsParameter, among_at}

some_same : {A : Type 0} (a b : A) → Some a ≡ Some b → a ≡ b
some_same a b e = cc

-- the texts of the classes declare nothing
nothing_declared : (p : StandardPrefix) (i : ℕ) (x : Text) → slice_get (brought_texts p) i ≡ Some x → declared_in_text x ≡ NoDeclaration
nothing_declared p i x e = ap declared_in_text (text_brought p i x e).1

module _ (p : StandardPrefix) (n next token level : ℕ) where
  -- what is added is of no references, no parameter and no array
  added_entry : (P : Entry → Type 0) → ((k : ℕ) → P (entry.Class k)) → ((name : Standard) (given result : Option SimType) → P (entry.Attribute name given result)) → (i : ℕ) (row : Declaration) → Added p n next token level i row → P row.entry
  added_entry P class attribute i row (a_class c) = subst P (sym c.entry) (class _)
  added_entry P class attribute i row (an_attribute c) = subst P (sym c.entry) (attribute _ _ _)
  added_entry P class attribute i row (an_own c) = subst P (sym c.entry) (attribute _ _ _)

  pub added_no_reference : (i : ℕ) (row : Declaration) → Added p n next token level i row → OfReferences row.entry → ⊥
  added_no_reference = added_entry (λ e. OfReferences e → ⊥) (λ k p. p) (λ name given result p. p)

  added_no_name : (i : ℕ) (row : Declaration) → Added p n next token level i row → OfName row.entry → ⊥
  added_no_name = added_entry (λ e. OfName e → ⊥) (λ k p. p) (λ name given result p. p)

  pub added_no_parameter : (i : ℕ) (row : Declaration) → Added p n next token level i row → IsParameter row.entry → ⊥
  added_no_parameter = added_entry (λ e. IsParameter e → ⊥) (λ k p. p) (λ name given result p. p)

module _ (p : StandardPrefix) (front : Identifier) (spelt : Spells p front) (b : BuildingOf) (n token : ℕ) (r : BlockOf) (last : length b.tables.blocks ≡ n + 1) (at : slice_get b.tables.blocks n ≡ Some r) (ts : List Text) (x : Text) (owed : List Mark) (os : List Open) (g : Fine b ts (item x owed ∷ os)) (cur : b.current ≡ Some n) (in_front : InFront p x) where
  same : (m : ℕ) (y : Text) → slice_get ts m ≡ Some y → around (slice_get (with_standard p b n token (prefixed_by front r)).tables.blocks m) ≡ around (slice_get b.tables.blocks m)
  same m y is = same_around (slice_get (with_standard p b n token (prefixed_by front r)).tables.blocks m) (slice_get b.tables.blocks m) (fine.keeps p front spelt b n token r last at ts x owed os g cur in_front m y is).0

  back : (m : ℕ) (y : Text) → slice_get ts m ≡ Some y → around (slice_get b.tables.blocks m) ≡ around (slice_get (with_standard p b n token (prefixed_by front r)).tables.blocks m)
  back m y is = sym (same m y is)

  stack_now : Stack (with_standard p b n token (prefixed_by front r)).tables.blocks ts b.current (item x owed ∷ os)
  stack_now = stack_kept b.tables.blocks (with_standard p b n token (prefixed_by front r)).tables.blocks ts ts (λ m y is. ((fine.keeps p front spelt b n token r last at ts x owed os g cur in_front m y is).0, is)) (item x owed ∷ os) b.current g.stack

  moved : (m : ℕ) (k : Mark) → OwedAt b.tables.blocks b.current (item x owed ∷ os) m k → OwedAt (with_standard p b n token (prefixed_by front r)).tables.blocks b.current (item x owed ∷ os) m k
  moved m k q = owed_kept b.tables.blocks (with_standard p b n token (prefixed_by front r)).tables.blocks ts same (item x owed ∷ os) b.current m k g.stack q

  was : (m : ℕ) (k : Mark) → OwedAt (with_standard p b n token (prefixed_by front r)).tables.blocks b.current (item x owed ∷ os) m k → OwedAt b.tables.blocks b.current (item x owed ∷ os) m k
  was m k q = owed_kept (with_standard p b n token (prefixed_by front r)).tables.blocks b.tables.blocks ts back (item x owed ∷ os) b.current m k stack_now q

  old_row : (d : ℕ) (row : Declaration) → slice_get b.tables.declarations d ≡ Some row → slice_get (with_standard p b n token (prefixed_by front r)).tables.declarations d ≡ Some row
  old_row = fine.old_row p front spelt b n token r last at ts

  abbrev Part : ℕ → Declaration → Type 0
  Part d row = ((d < length b.tables.declarations) × (slice_get b.tables.declarations d ≡ Some row)) ⊎ ((i : ℕ) × (d ≡ length b.tables.declarations + i) × Added p n (length b.tables.declarations) token r.level i row)

  row_part : (d : ℕ) (row : Declaration) → slice_get (with_standard p b n token (prefixed_by front r)).tables.declarations d ≡ Some row → Part d row
  row_part = fine.row_part p front spelt b n token r last at ts

  -- what is owed is owed in blocks before
  owed_before : (m : ℕ) (k : Mark) → OwedAt b.tables.blocks b.current (item x owed ∷ os) m k → m < n + 1
  owed_before m k q = owed_below b.tables.blocks g.nested (item x owed ∷ os) b.current (n + 1) m k (λ u e. (let z : u ≡ n = some_same u n (sym e ∙ cur) in omega arith)) q

  row_for : (m : ℕ) (y : Identifier) (e : Entry) → RowFor b m y e → RowFor (with_standard p b n token (prefixed_by front r)) m y e
  row_for m y e p = record { number = p.number; row = p.row; at = old_row p.number p.row p.at; name = p.name; token = p.token; block = p.block; entry = p.entry; own = p.own }

  written : (row : Declaration) (class : Identifier) → WrittenFor ts row class → WrittenFor (ts ++ brought_texts p) row class
  written row class w = record { text = w.text; at = (fine.keeps p front spelt b n token r last at ts x owed os g cur in_front row.block w.text w.at).1; name = w.name; token = w.token; written = w.written }

  -- ---- the parameters in front of a block

  abbrev pair : Option BlockOf → Option (ℕ × List DeclNo)
  pair None = None
  pair (Some row) = Some (row.formals, row.numbers)

  same_row : (o : Option BlockOf) (new : BlockOf) → pair o ≡ pair (Some new) → (old : BlockOf) × (o ≡ Some old) × (old.formals ≡ new.formals) × (old.numbers ≡ new.numbers)
  same_row None new e = absurd (cc)
  same_row (Some old) new e =
      let both : (old.formals, old.numbers) ≡ (new.formals, new.numbers) = some_same {A = ℕ × List DeclNo} (old.formals, old.numbers) (new.formals, new.numbers) e in
      (old, refl, ap (λ (z : ℕ × List DeclNo). z.0) both, ap (λ (z : ℕ × List DeclNo). z.1) both)

  counts_old : (k : ℕ) (old row : BlockOf) → slice_get b.tables.blocks k ≡ Some old → old.formals ≡ row.formals → old.numbers ≡ row.numbers → Counts b.tables.declarations old → Counts (with_standard p b n token (prefixed_by front r)).tables.declarations row
  counts_old k old row is formals numbers q = record {
    fits = (let le : old.formals ≤ length old.numbers = q.fits in let e : length old.numbers ≡ length row.numbers = ap length numbers in omega (arith, formals));
    front = λ m d v p t lt. (let here : slice_get old.numbers m ≡ Some d = ap (λ z. slice_get z m) numbers ∙ p in q.front m d v here (row_was m d v here t) (omega (arith, formals, lt)));
    back = λ m d v p t param. (let here : slice_get old.numbers m ≡ Some d = ap (λ z. slice_get z m) numbers ∙ p in let lt : m < old.formals = q.back m d v here (row_was m d v here t) param in omega (arith, formals));
  }
    where
      row_was : (m : ℕ) (d : DeclNo) (v : Declaration) → slice_get old.numbers m ≡ Some d → slice_get (with_standard p b n token (prefixed_by front r)).tables.declarations d.0 ≡ Some v → slice_get b.tables.declarations d.0 ≡ Some v
      row_was m d v p t =
          let o = g.own k d (subst (λ z. Among d z) (sym (ap numbers_in is)) (among_at old.numbers m d p)) in
          o.1 ∙ ap Some (some_same o.0 v (sym (old_row d.0 o.0 o.1) ∙ t))

  counts_new : (i : ℕ) (row : BlockOf) → RowAdded n (length b.tables.declarations) token r.level p i row → Counts (with_standard p b n token (prefixed_by front r)).tables.declarations row
  counts_new i row k = record {
    fits = (let e : row.formals ≡ 0 = k.formals in omega arith);
    front = λ m d v is t lt. absurd (let e : row.formals ≡ 0 = k.formals in omega (arith, lt));
    back = λ m d v is t param.
        let q = among_all (Lists n (length b.tables.declarations) token r.level p (n + 1 + i)) row.numbers d k.lists (among_at row.numbers m d is) in
        let there : slice_get (with_standard p b n token (prefixed_by front r)).tables.declarations d.0 ≡ Some q.1 = ap (λ (z : DeclNo). slice_get (with_standard p b n token (prefixed_by front r)).tables.declarations z.0) q.2 ∙ fine.new_row p front spelt b n token r last at ts q.0 ∙ q.3 in
        let one : q.1 ≡ v = some_same q.1 v (sym there ∙ t) in
        absurd (added_no_parameter p n (length b.tables.declarations) token r.level q.0 q.1 (added n (length b.tables.declarations) token r.level p q.0 q.1 q.3) (subst (λ (z : Declaration). IsParameter z.entry) (sym one) param));
  }

  counts : Clean b ts (item x owed ∷ os) → (k : ℕ) (row : BlockOf) → slice_get (with_standard p b n token (prefixed_by front r)).tables.blocks k ≡ Some row → Counts (with_standard p b n token (prefixed_by front r)).tables.declarations row
  counts f k row is = go (fine.part p front spelt b n token r last at ts k)
    where
      go : (k < length b.tables.blocks) ⊎ ((i : ℕ) × (k ≡ n + 1 + i)) → Counts (with_standard p b n token (prefixed_by front r)).tables.declarations row
      go (inl lt) =
          let q = same_row (slice_get b.tables.blocks k) row (sym (fine.old_same p front spelt b n token r last at ts pair refl k lt) ∙ ap pair is) in
          counts_old k q.0 row q.1 q.2 q.3 (f.counts k q.0 q.1)
      go (inr q) = counts_new q.0 row (row_added n (length b.tables.declarations) token r.level p q.0 row (sym (fine.new_get p front spelt b n token r last at ts q.0) ∙ ap (slice_get (with_standard p b n token (prefixed_by front r)).tables.blocks) (sym q.1) ∙ is))

  -- ---- the whole

  pub standard_clean : Clean b ts (item x owed ∷ os) → Clean (with_standard p b n token (prefixed_by front r)) (ts ++ brought_texts p) (item x owed ∷ os)
  standard_clean f = record {
    complete = λ m z is y e has. complete m z y e has (parts_get ts (brought_texts p) m z is);
    heads = λ d row w is e. heads d row w e (row_part d row is);
    early = λ m y q d row is e l. early m y (was m (Headed y) q) d row e l (row_part d row is);
    counts = counts f;
    refs = λ q z is. (let o = f.refs q z is in (o.0, old_row z.declaration.0 o.0 o.1, o.2));
    origins = λ q z row ty m is here e.
        let o = f.refs q z is in
        let one : o.0 ≡ row = some_same o.0 row (sym (old_row z.declaration.0 o.0 o.1) ∙ here) in
        written row z.class (f.origins q z row ty m is (o.1 ∙ ap Some one) e);
  }
    where
      complete : (m : ℕ) (z : Text) (y : Identifier) (e : Entry) → Has (Declares y e) (own_marks (declared_in_text z)) → ((m < length ts) × (slice_get ts m ≡ Some z)) ⊎ ((i : ℕ) × (m ≡ length ts + i) × (slice_get (brought_texts p) i ≡ Some z))
          → RowFor (with_standard p b n token (prefixed_by front r)) m y e ⊎ OwedAt (with_standard p b n token (prefixed_by front r)).tables.blocks b.current (item x owed ∷ os) m (Declares y e)
      complete m z y e has (inl q) = go (f.complete m z q.1 y e has)
        where
          go : RowFor b m y e ⊎ OwedAt b.tables.blocks b.current (item x owed ∷ os) m (Declares y e) → RowFor (with_standard p b n token (prefixed_by front r)) m y e ⊎ OwedAt (with_standard p b n token (prefixed_by front r)).tables.blocks b.current (item x owed ∷ os) m (Declares y e)
          go (inl p) = inl (row_for m y e p)
          go (inr p) = inr (moved m (Declares y e) p)
      complete m z y e has (inr q) = absurd (let h : Has (Declares y e) [] = subst (λ ds. Has (Declares y e) (own_marks ds)) (nothing_declared p q.0 z q.2) has in elim h [ ])

      heads : (d : ℕ) (row : Declaration) (w : Option WrittenMode) → row.entry ≡ entry.Unspecified w → Part d row
          → (y : Identifier) × (y.name ≡ row.name) × OwedAt (with_standard p b n token (prefixed_by front r)).tables.blocks b.current (item x owed ∷ os) row.block (Headed y) × (row.listed ≡ true)
      heads d row w e (inl q) = let h = f.heads d row w q.1 e in (h.0, h.1, moved row.block (Headed h.0) h.2, h.3)
      heads d row w e (inr q) = absurd (added_no_parameter p n (length b.tables.declarations) token r.level q.0 row q.2 (subst IsParameter (sym e) tt))

      early : (m : ℕ) (y : Identifier) → OwedAt b.tables.blocks b.current (item x owed ∷ os) m (Headed y) → (d : ℕ) (row : Declaration) → row.block ≡ m → row.listed ≡ true → Part d row → IsParameter row.entry
      early m y q d row e l (inl p) = f.early m y q d row p.1 e l
      early m y q d row e l (inr (i, is, a_class c)) = absurd (let z : false ≡ true = sym c.listed ∙ l in cc)
      early m y q d row e l (inr (i, is, an_own c)) = absurd (let z : false ≡ true = sym c.listed ∙ l in cc)
      early m y q d row e l (inr (i, is, an_attribute c)) =
          let lt : m < n + 1 = owed_before m (Headed y) q in
          let k : n + 1 + place_of c.which ≡ m = sym c.block ∙ e in absurd (omega arith)

  pub standard_covered : Covered b → Covered (with_standard p b n token (prefixed_by front r))
  standard_covered v = covered_stays b (with_standard p b n token (prefixed_by front r)) ((λ d row is refs. old d row refs (row_part d row is)), refl) v
    where
      old : (d : ℕ) (row : Declaration) → OfReferences row.entry → Part d row → slice_get b.tables.declarations d ≡ Some row
      old d row refs (inl q) = q.1
      old d row refs (inr q) = absurd (added_no_reference p n (length b.tables.declarations) token r.level q.0 row q.2 refs)

  pub standard_names : ByNames b ts → ByNames (with_standard p b n token (prefixed_by front r)) (ts ++ brought_texts p)
  standard_names = named_stay b (with_standard p b n token (prefixed_by front r)) ts (ts ++ brought_texts p) (λ d row is named. old d row named (row_part d row is)) (λ m y is. (fine.keeps p front spelt b n token r last at ts x owed os g cur in_front m y is).1)
    where
      old : (d : ℕ) (row : Declaration) → OfName row.entry → Part d row → slice_get b.tables.declarations d ≡ Some row
      old d row named (inl q) = q.1
      old d row named (inr q) = absurd (added_no_name p n (length b.tables.declarations) token r.level q.0 row q.2 named)

  pub standard_owned : Owned b ts → Owned (with_standard p b n token (prefixed_by front r)) (ts ++ brought_texts p)
  standard_owned v m y is = go (parts_get ts (brought_texts p) m y is)
    where
      go : ((m < length ts) × (slice_get ts m ≡ Some y)) ⊎ ((i : ℕ) × (m ≡ length ts + i) × (slice_get (brought_texts p) i ≡ Some y)) → OwnedText (with_standard p b n token (prefixed_by front r)) (owner_in (slice_get (with_standard p b n token (prefixed_by front r)).tables.blocks m)) m y
      go (inl q) =
          let size : length b.tables.blocks ≡ length ts = g.size in
          let lt : m < length ts = q.0 in
          text_moves b (with_standard p b n token (prefixed_by front r)) _ _ m y (λ e firm o. (o.0, o.1, fine.old_same p front spelt b n token r last at ts owner_in refl m (omega arith) ∙ o.2, old_row o.0.0 o.1 o.3, o.4)) (v m y q.1)
      go (inr q) =
          let w = text_brought p q.0 y q.2 in
          let d = class_at p w.0 w.2 in
          let at_place : m ≡ length ts + q.0 = q.1 in
          subst (OwnedText (with_standard p b n token (prefixed_by front r)) (owner_in (slice_get (with_standard p b n token (prefixed_by front r)).tables.blocks m)) m) (sym w.1) (class w.0 w.2 d.0 d.1 d.2 (at_place ∙ ap (λ z. length ts + z) w.3))
        where
          -- the declaration of a class
          class_at : (c : StandardPrefix) (which : StandardClass) → IsBrought c which → (row : Declaration) × (slice_get (added_declarations n (length b.tables.declarations) token c) (place_of which) ≡ Some row) × (row.entry ≡ entry.Class (n + 1 + place_of which))
          class_at prefix.Simset standard.Linkage is = (_, refl, refl)
          class_at prefix.Simset standard.Link is = (_, refl, refl)
          class_at prefix.Simset standard.Head is = (_, refl, refl)
          class_at prefix.Simset standard.Process is = absurd (cc)
          class_at prefix.Simulation standard.Linkage is = (_, refl, refl)
          class_at prefix.Simulation standard.Link is = (_, refl, refl)
          class_at prefix.Simulation standard.Head is = (_, refl, refl)
          class_at prefix.Simulation standard.Process is = (_, refl, refl)

          class : (which : StandardClass) → IsBrought p which → (row : Declaration) → slice_get (added_declarations n (length b.tables.declarations) token p) (place_of which) ≡ Some row → row.entry ≡ entry.Class (n + 1 + place_of which)
              → m ≡ length ts + place_of which → OwnedText (with_standard p b n token (prefixed_by front r)) (owner_in (slice_get (with_standard p b n token (prefixed_by front r)).tables.blocks m)) m (StandardText which)
          class which is row here e place =
              let size : length b.tables.blocks ≡ length ts = g.size in
              let k : m ≡ n + 1 + place_of which = omega arith in
              let z : length b.tables.declarations + 0 + place_of which ≡ length b.tables.declarations + place_of which = omega arith in (
                added_number (length b.tables.declarations) (place_of which),
                row,
                ap (λ j. owner_in (slice_get (with_standard p b n token (prefixed_by front r)).tables.blocks j)) k ∙ (fine.group p front spelt b n token r last at ts x owed os g cur in_front).owners which is ∙ ap (λ j. let d : DeclNo = record { 0 = j } in Some d) z,
                fine.new_row p front spelt b n token r last at ts (place_of which) ∙ here,
                e ∙ ap entry.Class (sym k),
              )
