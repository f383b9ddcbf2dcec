-- The tables of a block with a standard prefix in front of it, with its classes and their attributes, agree with the texts.
use Rattle.std.proofs.Common.{◌≡◌, ◌<◌, ◌≤◌, ◌+◌, ◌⊎◌, inl, inr, ℕ, zero, suc, Bool, true, false, List, [], ◌∷◌, ◌++◌, length, Option, Some, None, refl, sym, ap, ◌∙◌, subst, arith}
use Rattle.std.specs.Prelude.{nat_eq, nat_lt, not, slice_get, slice_set}
use Rattle.std.proofs.lemmas.List.{length-append, length-set}
use Rattle.std.proofs.lemmas.Option.{slice_get_within}
use Rattle.std.proofs.lemmas.Bool.Decides.{nat_tests}
use Rattle.sim_base.specs.declared.numbering.DeclNo.{DeclNo}
use Rattle.sim_tree.specs.declared.expr.Identifier.{Identifier}
use Rattle.sim_scope.specs.declared.scopes.Declaration.{Declaration}
use Rattle.sim_scope.specs.declared.types.BlockKind.TheVariants as kind
use Rattle.sim_scope.specs.declared.types.StandardClass.{StandardClass}
use Rattle.sim_scope.specs.declared.types.StandardClass.TheVariants as standard
use Rattle.sim_scope.specs.declared.types.StandardPrefix.{StandardPrefix}
use Rattle.sim_scope.specs.declared.types.StandardPrefix.TheVariants as prefix
use Rattle.sim_scope.specs.Access.{around}
use Rattle.sim_scope.specs.Building.{BuildingOf, Mark, name_of, place_of, prefixed_by, standard_base}
use Rattle.sim_scope.specs.Levels.{base_in}
use Rattle.sim_scope.specs.Scopes.{declared_in, is_virtual}
use Rattle.sim_scope.specs.Source.{level_in as level_of_row}
use Rattle.sim_scope.specs.Tables.{BlockOf, deeper}
use Rattle.sim_scope.proofs.Kept.{kept_set, set_here, set_other}
use Rattle.sim_meaning.specs.Entries.{numbers_in}
use Rattle.sim_meaning.specs.Texts.{BlockText, ClassText, ConnectionText, PrefixedText, ProcedureText, StandardText, Text}
use Rattle.sim_sound.specs.Held.{Among}
use Rattle.sim_agree.proofs.Brought.{behind_get, front_get, parts_get}
use Rattle.sim_agree.proofs.BroughtKnown.{Added, RowAdded, a_class, added, among_all, an_attribute, an_own, brought_known, brought_named, row_added}
use Rattle.sim_agree.proofs.BroughtRows.{added_declarations, added_number, added_rows, bringing, with_standard}
use Rattle.sim_agree.proofs.Fine.{Agree, Fine, Headed, InGroup, KindIs, Rising, RowOf, Rows, StandardGroup, attribute_row, base_by, class_row, deeper_in, first_or_none, standard_first, headed_kept, in_group_kept, own_base, owner_in, row_kept, same_kind, simulation_row, stack_kept, TopFixed}
use Rattle.sim_agree.proofs.Groups.{Declaring, Open, Prefixing, item}
use Rattle.sim_agree.proofs.StandardPrefixes.{InFront, IsBrought, Spells, brought_text, brought_texts, text_brought}
use Rattle.sim_agree.proofs.Steps.{Even, fixed}
use Rattle.sim_agree.proofs.Unprefixed.{Extras, Known, MatchOf, Named, Unprefixed, brings_of, brought_of, extras_in, is_prefixable, no_extras, spelt_as, spelt_before}

some_same : {A : Type 0} (a b : A) → Some a ≡ Some b → a ≡ b
some_same a b e = cc

same_class : (u w : StandardClass) → StandardText u ≡ StandardText w → u ≡ w
same_class u w e = cc

difference : (m j : ℕ) → m ≤ j → (i : ℕ) × (j ≡ m + i)
difference zero j le = (j, (let z : j ≡ 0 + j = omega arith in z))
difference (suc m) zero le = absurd (omega arith)
difference (suc m) (suc j) le = let q = difference m j (omega arith) in let same : j ≡ m + q.0 = q.1 in (q.0, (let z : suc j ≡ suc m + q.0 = omega arith in z))

pub prefixing_declares : (x : Text) → Prefixing x → Declaring x
prefixing_declares (ClassText before h ds ss) q = tt
prefixing_declares (PrefixedText class es ds ss) q = tt
prefixing_declares (BlockText i ds ss) q = absurd q
prefixing_declares (ProcedureText result h a) q = absurd q
prefixing_declares ConnectionText q = absurd q
prefixing_declares (StandardText which) q = absurd q

pub front_prefixing : (p : StandardPrefix) (x : Text) → InFront p x → Prefixing x
front_prefixing p (ClassText (Some y) h ds ss) q = tt
front_prefixing p (ClassText None h ds ss) q = absurd q
front_prefixing p (PrefixedText class es ds ss) q = tt
front_prefixing p (BlockText i ds ss) q = absurd q
front_prefixing p (ProcedureText result h a) q = absurd q
front_prefixing p ConnectionText q = absurd q
front_prefixing p (StandardText which) q = absurd q

-- the innermost block is the last one, and gets a standard prefix
module _ (p : StandardPrefix) (front : Identifier) (spelt : Spells p front) (b : BuildingOf) (n token : ℕ) (r : BlockOf) (last : length b.tables.blocks ≡ n + 1) (at : slice_get b.tables.blocks n ≡ Some r) (ts : List Text) where
  -- blocks before, but for what is brought into the innermost one
  pub old_same : {X : Type 0} (g : Option BlockOf → X) → g (Some (bringing p (length b.tables.declarations) (prefixed_by front r))) ≡ g (Some r) → (j : ℕ) → j < length b.tables.blocks → g (slice_get (with_standard p b n token (prefixed_by front r)).tables.blocks j) ≡ g (slice_get b.tables.blocks j)
  old_same g e j lt =
      let l : length (slice_set b.tables.blocks n (bringing p (length b.tables.declarations) (prefixed_by front r))) ≡ length b.tables.blocks = length-set b.tables.blocks n (bringing p (length b.tables.declarations) (prefixed_by front r)) in
      ap g (front_get (slice_set b.tables.blocks n (bringing p (length b.tables.declarations) (prefixed_by front r))) (added_rows n (length b.tables.declarations) r.level p) j (omega arith))
      ∙ kept_set g b.tables.blocks n r (bringing p (length b.tables.declarations) (prefixed_by front r)) at e j

  -- and those behind them
  pub new_get : (i : ℕ) → slice_get (with_standard p b n token (prefixed_by front r)).tables.blocks (n + 1 + i) ≡ slice_get (added_rows n (length b.tables.declarations) r.level p) i
  new_get i =
      let l : length (slice_set b.tables.blocks n (bringing p (length b.tables.declarations) (prefixed_by front r))) ≡ length b.tables.blocks = length-set b.tables.blocks n (bringing p (length b.tables.declarations) (prefixed_by front r)) in
      let e : n + 1 + i ≡ length (slice_set b.tables.blocks n (bringing p (length b.tables.declarations) (prefixed_by front r))) + i = omega arith in
      ap (slice_get (with_standard p b n token (prefixed_by front r)).tables.blocks) e ∙ behind_get (slice_set b.tables.blocks n (bringing p (length b.tables.declarations) (prefixed_by front r))) (added_rows n (length b.tables.declarations) r.level p) i

  pub part : (j : ℕ) → (j < length b.tables.blocks) ⊎ ((i : ℕ) × (j ≡ n + 1 + i))
  part j = go (nat_lt j (length b.tables.blocks)) refl
    where
      go : (c : Bool) → nat_lt j (length b.tables.blocks) ≡ c → (j < length b.tables.blocks) ⊎ ((i : ℕ) × (j ≡ n + 1 + i))
      go true e = inl (let P : j < length b.tables.blocks = grind (arith, nat_tests) in P)
      go false e =
          let le : length b.tables.blocks ≤ j = grind (arith, nat_tests) in
          let q = difference (length b.tables.blocks) j le in
          let same : j ≡ length b.tables.blocks + q.0 = q.1 in inr (q.0, (let z : j ≡ n + 1 + q.0 = omega arith in z))

  -- declarations
  pub old_row : (d : ℕ) (row : Declaration) → slice_get b.tables.declarations d ≡ Some row → slice_get (with_standard p b n token (prefixed_by front r)).tables.declarations d ≡ Some row
  old_row d row e = front_get b.tables.declarations (added_declarations n (length b.tables.declarations) token p) d (slice_get_within b.tables.declarations d row e) ∙ e

  pub new_row : (i : ℕ) → slice_get (with_standard p b n token (prefixed_by front r)).tables.declarations (length b.tables.declarations + i) ≡ slice_get (added_declarations n (length b.tables.declarations) token p) i
  new_row i = behind_get b.tables.declarations (added_declarations n (length b.tables.declarations) token p) i

  pub row_part : (d : ℕ) (row : Declaration) → slice_get (with_standard p b n token (prefixed_by front r)).tables.declarations d ≡ Some row
      → ((d < length b.tables.declarations) × (slice_get b.tables.declarations d ≡ Some row)) ⊎ ((i : ℕ) × (d ≡ length b.tables.declarations + i) × Added p n (length b.tables.declarations) token r.level i row)
  row_part d row e = go (parts_get b.tables.declarations (added_declarations n (length b.tables.declarations) token p) d row e)
    where
      go : ((d < length b.tables.declarations) × (slice_get b.tables.declarations d ≡ Some row)) ⊎ ((i : ℕ) × (d ≡ length b.tables.declarations + i) × (slice_get (added_declarations n (length b.tables.declarations) token p) i ≡ Some row))
          → ((d < length b.tables.declarations) × (slice_get b.tables.declarations d ≡ Some row)) ⊎ ((i : ℕ) × (d ≡ length b.tables.declarations + i) × Added p n (length b.tables.declarations) token r.level i row)
      go (inl q) = inl q
      go (inr q) = inr (q.0, q.1, added n (length b.tables.declarations) token r.level p q.0 row q.2)

  -- a fact of all blocks: of those before, and of those behind them
  all_blocks : (P : ℕ → Type 0) → ((j : ℕ) → j < length b.tables.blocks → P j) → ((i : ℕ) → P (n + 1 + i)) → (j : ℕ) → P j
  all_blocks P old new j = go (part j)
    where
      go : (j < length b.tables.blocks) ⊎ ((i : ℕ) × (j ≡ n + 1 + i)) → P j
      go (inl lt) = old j lt
      go (inr q) = subst P (sym q.1) (new q.0)

  -- of those behind, by their rows
  of_rows : (Q : Option BlockOf → Type 0) (i : ℕ) → Q None → ((row : BlockOf) → RowAdded n (length b.tables.declarations) token r.level p i row → Q (Some row)) → Q (slice_get (with_standard p b n token (prefixed_by front r)).tables.blocks (n + 1 + i))
  of_rows Q i none some = subst Q (sym (new_get i)) (go (slice_get (added_rows n (length b.tables.declarations) r.level p) i) refl)
    where
      go : (o : Option BlockOf) → slice_get (added_rows n (length b.tables.declarations) r.level p) i ≡ o → Q o
      go None e = none
      go (Some row) e = some row (row_added n (length b.tables.declarations) token r.level p i row e)

  -- none of what is brought is a virtual
  still_known : Known b.tables.declarations → Known (with_standard p b n token (prefixed_by front r)).tables.declarations
  still_known old v row result d is en = go (row_part v row is)
    where
      other : is_virtual row.entry ≡ false → MatchOf (with_standard p b n token (prefixed_by front r)).tables.declarations row d
      other plain = absurd (let z : true ≡ false = sym (ap is_virtual en) ∙ plain in cc)

      go : ((v < length b.tables.declarations) × (slice_get b.tables.declarations v ≡ Some row)) ⊎ ((i : ℕ) × (v ≡ length b.tables.declarations + i) × Added p n (length b.tables.declarations) token r.level i row) → MatchOf (with_standard p b n token (prefixed_by front r)).tables.declarations row d
      go (inl q) = let m = old v row result d q.1 en in record { row = m.row; at = old_row d.0 m.row m.at; name = m.name; block = m.block; procedure = m.procedure }
      go (inr (i, same, a_class c)) = other (ap is_virtual c.entry)
      go (inr (i, same, an_attribute c)) = other (ap is_virtual c.entry)
      go (inr (i, same, an_own c)) = other (ap is_virtual c.entry)

  -- no prefix is wrong, and no standard prefix is known yet
  pub standard_bare : is_prefixable r.kind ≡ true → Unprefixed b.tables → Unprefixed (with_standard p b n token (prefixed_by front r)).tables
  standard_bare able w = record {
    blocks = all_blocks (λ k. extras_in (slice_get (with_standard p b n token (prefixed_by front r)).tables.blocks k) ≡ no_extras) (λ k lt. old_same extras_in same k lt ∙ w.blocks k) (λ i. of_rows (λ o. extras_in o ≡ no_extras) i refl (λ row k. k.extras));
  }
    where
      without : Extras → Extras
      without z = record { wrong = false; standard = z.standard }

      none : extras_in (Some r) ≡ no_extras
      none = sym (ap extras_in at) ∙ w.blocks n

      same : extras_in (Some (bringing p (length b.tables.declarations) (prefixed_by front r))) ≡ extras_in (Some r)
      same = ap (λ z. let q : Extras = record { wrong = not z; standard = r.standard } in q) able ∙ ap without none ∙ sym none

  -- the texts keep their places
  module _ (x : Text) (owed : List Mark) (os : List Open) (f : Fine b ts (item x owed ∷ os)) (cur : b.current ≡ Some n) (in_front : InFront p x) where
    pub keeps : (m : ℕ) (y : Text) → slice_get ts m ≡ Some y → (fixed (slice_get (with_standard p b n token (prefixed_by front r)).tables.blocks m) ≡ fixed (slice_get b.tables.blocks m)) × (slice_get (ts ++ brought_texts p) m ≡ Some y)
    keeps m y is =
        let lt : m < length ts = slice_get_within ts m y is in
        let same : length b.tables.blocks ≡ length ts = f.size in
        (old_same fixed refl m (let z : m < length b.tables.blocks = omega arith in z), front_get ts (brought_texts p) m lt ∙ is)

    text_new : (i : ℕ) → slice_get (ts ++ brought_texts p) (n + 1 + i) ≡ slice_get (brought_texts p) i
    text_new i =
        let same : length b.tables.blocks ≡ length ts = f.size in
        let e : n + 1 + i ≡ length ts + i = omega arith in ap (slice_get (ts ++ brought_texts p)) e ∙ behind_get ts (brought_texts p) i

    row_there : (c : StandardPrefix) (which : StandardClass) → IsBrought c which → (row : BlockOf) × (slice_get (added_rows n (length b.tables.declarations) r.level c) (place_of which) ≡ Some row)
    row_there prefix.Simset standard.Linkage is = (_, refl)
    row_there prefix.Simset standard.Link is = (_, refl)
    row_there prefix.Simset standard.Head is = (_, refl)
    row_there prefix.Simset standard.Process is = absurd (cc)
    row_there prefix.Simulation standard.Linkage is = (_, refl)
    row_there prefix.Simulation standard.Link is = (_, refl)
    row_there prefix.Simulation standard.Head is = (_, refl)
    row_there prefix.Simulation standard.Process is = (_, refl)

    -- no two have one place
    abbrev class_at : ℕ → StandardClass
    class_at zero = standard.Linkage
    class_at (suc zero) = standard.Link
    class_at (suc (suc zero)) = standard.Head
    class_at (suc (suc (suc m))) = standard.Process

    class_placed : (which : StandardClass) → class_at (place_of which) ≡ which
    class_placed standard.Linkage = refl
    class_placed standard.Link = refl
    class_placed standard.Head = refl
    class_placed standard.Process = refl

    same_place : (which other : StandardClass) → place_of which ≡ place_of other → which ≡ other
    same_place which other e = sym (class_placed which) ∙ ap class_at e ∙ class_placed other

    -- the row of a class
    known : (which : StandardClass) → IsBrought p which → (row : BlockOf) × (slice_get (with_standard p b n token (prefixed_by front r)).tables.blocks (n + 1 + place_of which) ≡ Some row) × (row.base ≡ standard_base which n) × (row.encloser ≡ Some n) × (row.owner ≡ Some (added_number (length b.tables.declarations) (place_of which)))
    known which is =
        let q = row_there p which is in
        let k = row_added n (length b.tables.declarations) token r.level p (place_of which) q.0 q.1 in
        let same : k.which ≡ which = sym (same_place which k.which k.place) in
        (q.0, new_get (place_of which) ∙ q.1, k.base ∙ ap (λ w. standard_base w n) same, k.encloser, k.owner ∙ ap (λ w. Some (added_number (length b.tables.declarations) (place_of w))) same)

    here_text : slice_get (ts ++ brought_texts p) n ≡ Some x
    here_text =
        let h : f.stack.0 ≡ n = some_same f.stack.0 n (sym f.stack.1 ∙ cur) in
        (keeps n x (subst (λ m. slice_get ts m ≡ Some x) h f.stack.2)).1

    pub group : StandardGroup p (with_standard p b n token (prefixed_by front r)).tables.blocks (ts ++ brought_texts p) n (added_number (length b.tables.declarations) 0)
    group = record {
      host = (x, here_text, in_front);
      texts = λ which is. text_new (place_of which) ∙ brought_text p which is;
      bases = λ which is. (let k = known which is in ap base_in k.1 ∙ k.2);
      around = λ which is. (let k = known which is in ap around k.1 ∙ k.3);
      owners = λ which is. (let k = known which is in
          let z : length b.tables.declarations + place_of which ≡ length b.tables.declarations + 0 + place_of which = omega arith in
          ap owner_in k.1 ∙ k.4 ∙ ap (λ m. let d : DeclNo = record { 0 = m } in Some d) z);
    }

    -- ---- the tables agree

    level_at : level_of_row (slice_get (with_standard p b n token (prefixed_by front r)).tables.blocks n) ≡ r.level
    level_at = old_same level_of_row refl n (omega arith) ∙ ap level_of_row at

    within : (t u : ℕ) → t < length b.tables.blocks → around (slice_get b.tables.blocks t) ≡ Some u → u < length b.tables.blocks
    within t u lt e = let v : u < t = f.nested t u e in omega arith

    kinds_new : (c : StandardPrefix) (i : ℕ) → KindIs (slice_get (added_rows n (length b.tables.declarations) r.level c) i) (slice_get (brought_texts c) i)
    kinds_new prefix.Simset zero = refl
    kinds_new prefix.Simset (suc zero) = refl
    kinds_new prefix.Simset (suc (suc zero)) = refl
    kinds_new prefix.Simset (suc (suc (suc i))) = tt
    kinds_new prefix.Simulation zero = refl
    kinds_new prefix.Simulation (suc zero) = refl
    kinds_new prefix.Simulation (suc (suc zero)) = refl
    kinds_new prefix.Simulation (suc (suc (suc zero))) = refl
    kinds_new prefix.Simulation (suc (suc (suc (suc i)))) = tt

    as_many : (c : StandardPrefix) → length (added_rows n (length b.tables.declarations) r.level c) ≡ length (brought_texts c)
    as_many prefix.Simset = refl
    as_many prefix.Simulation = refl

    old_around : (j : ℕ) → j < length b.tables.blocks → around (slice_get (with_standard p b n token (prefixed_by front r)).tables.blocks j) ≡ around (slice_get b.tables.blocks j)
    old_around j lt = old_same around refl j lt

    nested_new : (i : ℕ) (o : Option BlockOf) (u : ℕ) → ((row : BlockOf) → o ≡ Some row → row.encloser ≡ Some n) → around o ≡ Some u → u ≡ n
    nested_new i None u h e = absurd (cc)
    nested_new i (Some row) u h e = sym (some_same n u (sym (h row refl) ∙ e))

    new_encloser : (i : ℕ) (row : BlockOf) → slice_get (with_standard p b n token (prefixed_by front r)).tables.blocks (n + 1 + i) ≡ Some row → row.encloser ≡ Some n
    new_encloser i row e = (row_added n (length b.tables.declarations) token r.level p i row (sym (new_get i) ∙ e)).encloser

    around_new : (i u : ℕ) → around (slice_get (with_standard p b n token (prefixed_by front r)).tables.blocks (n + 1 + i)) ≡ Some u → u ≡ n
    around_new i u e = nested_new i (slice_get (with_standard p b n token (prefixed_by front r)).tables.blocks (n + 1 + i)) u (λ row at'. new_encloser i row at') e

    abbrev Nested : ℕ → Type 0
    Nested t = (u : ℕ) → around (slice_get (with_standard p b n token (prefixed_by front r)).tables.blocks t) ≡ Some u → u < t

    abbrev Level : ℕ → Type 0
    Level t = (u : ℕ) → around (slice_get (with_standard p b n token (prefixed_by front r)).tables.blocks t) ≡ Some u → level_of_row (slice_get (with_standard p b n token (prefixed_by front r)).tables.blocks t) ≡ deeper_in (slice_get (with_standard p b n token (prefixed_by front r)).tables.blocks t) (level_of_row (slice_get (with_standard p b n token (prefixed_by front r)).tables.blocks u))

    level_new : (i : ℕ) → Level (n + 1 + i)
    level_new i u e =
        let same : u ≡ n = around_new i u e in
        go (slice_get (with_standard p b n token (prefixed_by front r)).tables.blocks (n + 1 + i)) refl e ∙ ap (λ m. deeper_in (slice_get (with_standard p b n token (prefixed_by front r)).tables.blocks (n + 1 + i)) m) (sym (ap (λ m. level_of_row (slice_get (with_standard p b n token (prefixed_by front r)).tables.blocks m)) same ∙ level_at))
      where
        go : (o : Option BlockOf) → slice_get (with_standard p b n token (prefixed_by front r)).tables.blocks (n + 1 + i) ≡ o → around o ≡ Some u → level_of_row o ≡ deeper_in o r.level
        go None at' e = absurd (cc)
        go (Some row) at' e =
            let k = row_added n (length b.tables.declarations) token r.level p i row (sym (new_get i) ∙ at') in
            k.depth ∙ ap (λ z. deeper z r.level) (sym k.kind)

    level_old : (t : ℕ) → t < length b.tables.blocks → Level t
    level_old t lt u e =
        let was : around (slice_get b.tables.blocks t) ≡ Some u = sym (old_around t lt) ∙ e in
        old_same level_of_row refl t lt ∙ f.levels t u was ∙ ap (λ m. deeper_in (slice_get b.tables.blocks t) m) (sym (old_same level_of_row refl u (within t u lt was)))
        ∙ sym (old_same (λ o. deeper_in o (level_of_row (slice_get (with_standard p b n token (prefixed_by front r)).tables.blocks u))) refl t lt)

    abbrev Own : ℕ → Type 0
    Own k = (d : DeclNo) → Among d (numbers_in (slice_get (with_standard p b n token (prefixed_by front r)).tables.blocks k)) → (row : Declaration) × (slice_get (with_standard p b n token (prefixed_by front r)).tables.declarations d.0 ≡ Some row) × (row.block ≡ k) × (row.listed ≡ true)

    own_old : (k : ℕ) → k < length b.tables.blocks → Own k
    own_old k lt d a = let q = f.own k d (subst (λ z. Among d z) (old_same numbers_in refl k lt) a) in (q.0, old_row d.0 q.0 q.1, q.2, q.3)

    own_new : (i : ℕ) → Own (n + 1 + i)
    own_new i d a = go (slice_get (added_rows n (length b.tables.declarations) r.level p) i) refl (subst (λ o. Among d (numbers_in o)) (new_get i) a)
      where
        go : (o : Option BlockOf) → slice_get (added_rows n (length b.tables.declarations) r.level p) i ≡ o → Among d (numbers_in o) → (row : Declaration) × (slice_get (with_standard p b n token (prefixed_by front r)).tables.declarations d.0 ≡ Some row) × (row.block ≡ n + 1 + i) × (row.listed ≡ true)
        go None e a = elim a [ ]
        go (Some row) e a =
            let k = row_added n (length b.tables.declarations) token r.level p i row e in
            let q = among_all _ row.numbers d k.lists a in
            (q.1, ap (λ (z : DeclNo). slice_get (with_standard p b n token (prefixed_by front r)).tables.declarations z.0) q.2 ∙ new_row q.0 ∙ q.3, q.4, q.5)

    rising_none : Rising []
    rising_none n m d e at to lt = absurd (cc)

    listed : (d : ℕ) (row : Declaration) → slice_get (with_standard p b n token (prefixed_by front r)).tables.declarations d ≡ Some row → row.listed ≡ true → Among (record { 0 = d }) (numbers_in (slice_get (with_standard p b n token (prefixed_by front r)).tables.blocks row.block))
    listed d row is l = go (row_part d row is)
      where
        stands : (o : Option BlockOf) (k : ℕ) → slice_get b.tables.blocks k ≡ o → Among (record { 0 = d }) (numbers_in o) → k < length b.tables.blocks
        stands None k e a = elim a [ ]
        stands (Some found) k e a = slice_get_within b.tables.blocks k found e

        go : ((d < length b.tables.declarations) × (slice_get b.tables.declarations d ≡ Some row)) ⊎ ((i : ℕ) × (d ≡ length b.tables.declarations + i) × Added p n (length b.tables.declarations) token r.level i row)
            → Among (record { 0 = d }) (numbers_in (slice_get (with_standard p b n token (prefixed_by front r)).tables.blocks row.block))
        go (inl q) =
            let a = f.listed d row q.1 l in
            subst (λ z. Among (record { 0 = d }) z) (sym (old_same numbers_in refl row.block (stands (slice_get b.tables.blocks row.block) row.block refl a))) a
        go (inr (i, same, a_class c)) = absurd (let z : false ≡ true = sym c.listed ∙ l in cc)
        go (inr (i, same, an_own c)) = absurd (let z : false ≡ true = sym c.listed ∙ l in cc)
        go (inr (i, same, an_attribute c)) =
            subst (λ m. Among (record { 0 = m }) (numbers_in (slice_get (with_standard p b n token (prefixed_by front r)).tables.blocks row.block))) (sym same)
            (subst (λ k. Among (added_number (length b.tables.declarations) i) (numbers_in (slice_get (with_standard p b n token (prefixed_by front r)).tables.blocks k))) (sym c.block)
            (subst (λ o. Among (added_number (length b.tables.declarations) i) (numbers_in o)) (sym (new_get (place_of c.which) ∙ c.at)) c.among))

    finds : (d : ℕ) (row : Declaration) → slice_get (with_standard p b n token (prefixed_by front r)).tables.declarations d ≡ Some row → row.listed ≡ true → declared_in (slice_get (with_standard p b n token (prefixed_by front r)).tables.blocks row.block) row.name ≡ Some (record { 0 = d })
    finds d row is l = go (row_part d row is)
      where
        stands : (o : Option BlockOf) (k : ℕ) → slice_get b.tables.blocks k ≡ o → declared_in o row.name ≡ Some (record { 0 = d }) → k < length b.tables.blocks
        stands None k e a = absurd (cc)
        stands (Some found) k e a = slice_get_within b.tables.blocks k found e

        go : ((d < length b.tables.declarations) × (slice_get b.tables.declarations d ≡ Some row)) ⊎ ((i : ℕ) × (d ≡ length b.tables.declarations + i) × Added p n (length b.tables.declarations) token r.level i row)
            → declared_in (slice_get (with_standard p b n token (prefixed_by front r)).tables.blocks row.block) row.name ≡ Some (record { 0 = d })
        go (inl q) =
            let a = f.finds d row q.1 l in
            old_same (λ o. declared_in o row.name) refl row.block (stands (slice_get b.tables.blocks row.block) row.block refl a) ∙ a
        go (inr (i, same, a_class c)) = absurd (let z : false ≡ true = sym c.listed ∙ l in cc)
        go (inr (i, same, an_own c)) = absurd (let z : false ≡ true = sym c.listed ∙ l in cc)
        go (inr (i, same, an_attribute c)) =
            ap (λ k. declared_in (slice_get (with_standard p b n token (prefixed_by front r)).tables.blocks k) row.name) c.block ∙ ap (λ o. declared_in o row.name) (new_get (place_of c.which) ∙ c.at) ∙ c.found
            ∙ ap (λ m. let w : DeclNo = record { 0 = m } in Some w) (sym same)

    -- what is brought into the innermost block is declared in it
    brought_here : (d : DeclNo) → Among d (bringing p (length b.tables.declarations) (prefixed_by front r)).brought → (row : Declaration) × (slice_get (with_standard p b n token (prefixed_by front r)).tables.declarations d.0 ≡ Some row) × (row.block ≡ n)
    brought_here d a =
        let q = among_all _ (bringing p (length b.tables.declarations) (prefixed_by front r)).brought d (brought_known n (length b.tables.declarations) token r.level p) a in
        (q.1, ap (λ (z : DeclNo). slice_get (with_standard p b n token (prefixed_by front r)).tables.declarations z.0) q.2 ∙ new_row q.0 ∙ q.3, q.4)

    named_here : Named (with_standard p b n token (prefixed_by front r)).tables.declarations (brings_of (Some (bringing p (length b.tables.declarations) (prefixed_by front r))))
    named_here i name d x y =
        let q = brought_named n (length b.tables.declarations) token r.level p i name d x y in
        (q.1, ap (λ (z : DeclNo). slice_get (with_standard p b n token (prefixed_by front r)).tables.declarations z.0) q.2 ∙ new_row q.0 ∙ q.3, q.4)

    -- behind each block whose prefix is spelt as a standard one stand its classes
    headed_here : (c : StandardPrefix) → p ≡ c → Headed c (with_standard p b n token (prefixed_by front r)).tables.blocks (ts ++ brought_texts p) n
    headed_here c same = subst (λ z. Headed z (with_standard p b n token (prefixed_by front r)).tables.blocks (ts ++ brought_texts p) n) same (added_number (length b.tables.declarations) 0, group)

    headed_old : (k : ℕ) → k < length b.tables.blocks → (c : StandardPrefix) → spelt_before (slice_get (with_standard p b n token (prefixed_by front r)).tables.blocks k) ≡ Some c → Headed c (with_standard p b n token (prefixed_by front r)).tables.blocks (ts ++ brought_texts p) k
    headed_old k lt c e = go (nat_eq n k) refl
      where
        inside : n < length (slice_set b.tables.blocks n (bringing p (length b.tables.declarations) (prefixed_by front r)))
        inside = let l : length (slice_set b.tables.blocks n (bringing p (length b.tables.declarations) (prefixed_by front r))) ≡ length b.tables.blocks = length-set b.tables.blocks n (bringing p (length b.tables.declarations) (prefixed_by front r)) in omega arith

        within_front : k < length (slice_set b.tables.blocks n (bringing p (length b.tables.declarations) (prefixed_by front r)))
        within_front = let l : length (slice_set b.tables.blocks n (bringing p (length b.tables.declarations) (prefixed_by front r))) ≡ length b.tables.blocks = length-set b.tables.blocks n (bringing p (length b.tables.declarations) (prefixed_by front r)) in omega arith

        here : slice_get (with_standard p b n token (prefixed_by front r)).tables.blocks n ≡ Some (bringing p (length b.tables.declarations) (prefixed_by front r))
        here = front_get (slice_set b.tables.blocks n (bringing p (length b.tables.declarations) (prefixed_by front r))) (added_rows n (length b.tables.declarations) r.level p) n inside ∙ set_here b.tables.blocks n r (bringing p (length b.tables.declarations) (prefixed_by front r)) at

        go : (z : Bool) → nat_eq n k ≡ z → Headed c (with_standard p b n token (prefixed_by front r)).tables.blocks (ts ++ brought_texts p) k
        go true is =
            let same : n ≡ k = grind (arith, nat_tests) in
            subst (Headed c (with_standard p b n token (prefixed_by front r)).tables.blocks (ts ++ brought_texts p)) same
            (headed_here c (some_same p c (sym spelt ∙ sym (ap spelt_before here) ∙ ap (λ m. spelt_before (slice_get (with_standard p b n token (prefixed_by front r)).tables.blocks m)) same ∙ e)))
        go false is =
            let other : slice_get (with_standard p b n token (prefixed_by front r)).tables.blocks k ≡ slice_get b.tables.blocks k =
            front_get (slice_set b.tables.blocks n (bringing p (length b.tables.declarations) (prefixed_by front r))) (added_rows n (length b.tables.declarations) r.level p) k within_front ∙ set_other b.tables.blocks n k (bringing p (length b.tables.declarations) (prefixed_by front r)) is in
            headed_kept b.tables.blocks (with_standard p b n token (prefixed_by front r)).tables.blocks ts (ts ++ brought_texts p) keeps c k (f.headed k c (sym (ap spelt_before other) ∙ e))

    headed_new : (i : ℕ) (c : StandardPrefix) → spelt_before (slice_get (with_standard p b n token (prefixed_by front r)).tables.blocks (n + 1 + i)) ≡ Some c → Headed c (with_standard p b n token (prefixed_by front r)).tables.blocks (ts ++ brought_texts p) (n + 1 + i)
    headed_new i = of_rows (λ o. (c : StandardPrefix) → spelt_before o ≡ Some c → Headed c (with_standard p b n token (prefixed_by front r)).tables.blocks (ts ++ brought_texts p) (n + 1 + i)) i (λ c e. absurd (cc))
        (λ row k c e. absurd (let z : None ≡ Some c = sym (ap spelt_as k.unheaded) ∙ e in cc))

    pub standard_fine : is_prefixable r.kind ≡ true → Fine (with_standard p b n token (prefixed_by front r)) (ts ++ brought_texts p) (item x owed ∷ os)
    standard_fine able = record {
      size = (let l : length (slice_set b.tables.blocks n (bringing p (length b.tables.declarations) (prefixed_by front r))) ≡ length b.tables.blocks = length-set b.tables.blocks n (bringing p (length b.tables.declarations) (prefixed_by front r)) in
          let s : length b.tables.blocks ≡ length ts = f.size in
          length-append (slice_set b.tables.blocks n (bringing p (length b.tables.declarations) (prefixed_by front r))) (added_rows n (length b.tables.declarations) r.level p) ∙ (let m : length (added_rows n (length b.tables.declarations) r.level p) ≡ length (brought_texts p) = as_many p in let z : length (slice_set b.tables.blocks n (bringing p (length b.tables.declarations) (prefixed_by front r))) + length (added_rows n (length b.tables.declarations) r.level p) ≡ length ts + length (brought_texts p) = omega arith in z) ∙ sym (length-append ts (brought_texts p)));
      stack = stack_kept b.tables.blocks (with_standard p b n token (prefixed_by front r)).tables.blocks ts (ts ++ brought_texts p) keeps (item x owed ∷ os) b.current f.stack;
      nested = all_blocks Nested (λ t lt u e. f.nested t u (sym (old_around t lt) ∙ e)) (λ i u e. (let same : u ≡ n = around_new i u e in omega arith));
      levels = all_blocks Level level_old level_new;
      tops = all_blocks (λ t. TopFixed (fixed (slice_get (with_standard p b n token (prefixed_by front r)).tables.blocks t))) (λ t lt. subst TopFixed (sym (old_same fixed refl t lt)) (f.tops t))
          (λ i. of_rows (λ o. TopFixed (fixed o)) i tt (λ row k none. absurd (let z : None ≡ Some n = sym none ∙ k.encloser in cc)));
      kinds = all_blocks (λ t. KindIs (slice_get (with_standard p b n token (prefixed_by front r)).tables.blocks t) (slice_get (ts ++ brought_texts p) t))
          (λ t lt. (let s : length b.tables.blocks ≡ length ts = f.size in subst (λ z. KindIs (slice_get (with_standard p b n token (prefixed_by front r)).tables.blocks t) z) (sym (front_get ts (brought_texts p) t (omega arith))) (same_kind (slice_get (with_standard p b n token (prefixed_by front r)).tables.blocks t) (slice_get b.tables.blocks t) (slice_get ts t) (old_same fixed refl t lt) (f.kinds t))))
          (λ i. subst (λ z. KindIs z (slice_get (ts ++ brought_texts p) (n + 1 + i))) (sym (new_get i)) (subst (λ z. KindIs (slice_get (added_rows n (length b.tables.declarations) r.level p) i) z) (sym (text_new i)) (kinds_new p i)));
      listed = listed;
      evens = all_blocks (λ j. Even (slice_get (with_standard p b n token (prefixed_by front r)).tables.blocks j)) even_old (λ i. of_rows Even i tt (λ row k. k.even));
      finds = finds;
      own = all_blocks Own own_old own_new;
      rising = all_blocks (λ k. Rising (numbers_in (slice_get (with_standard p b n token (prefixed_by front r)).tables.blocks k))) (λ k lt. subst Rising (sym (old_same numbers_in refl k lt)) (f.rising k)) (λ i. of_rows (λ o. Rising (numbers_in o)) i rising_none (λ row k. k.rising));
      based = all_blocks (λ k. base_in (slice_get (with_standard p b n token (prefixed_by front r)).tables.blocks k) ≡ own_base (slice_get (with_standard p b n token (prefixed_by front r)).tables.blocks k)) (λ k lt. old_same base_in refl k lt ∙ f.based k ∙ sym (old_same own_base refl k lt))
          (λ i. of_rows (λ o. base_in o ≡ own_base o) i refl (λ row k. k.base ∙ sym (based_row i row k)));
      bare = standard_bare able f.bare;
      known = still_known f.known;
      standards = standards;
      headed = all_blocks (λ k. (c : StandardPrefix) → spelt_before (slice_get (with_standard p b n token (prefixed_by front r)).tables.blocks k) ≡ Some c → Headed c (with_standard p b n token (prefixed_by front r)).tables.blocks (ts ++ brought_texts p) k) headed_old headed_new;
      textless = all_blocks (λ k. first_or_none (slice_get (with_standard p b n token (prefixed_by front r)).tables.blocks k) ≡ 0) (λ k lt. old_same first_or_none refl k lt ∙ f.textless k) (λ i. of_rows (λ o. first_or_none o ≡ 0) i refl (λ row k. ap (λ z. standard_first z row.first) k.kind ∙ k.begins));
      named = all_blocks (λ k. Named (with_standard p b n token (prefixed_by front r)).tables.declarations (brings_of (slice_get (with_standard p b n token (prefixed_by front r)).tables.blocks k))) named_old
          (λ i. of_rows (λ o. Named (with_standard p b n token (prefixed_by front r)).tables.declarations (brings_of o)) i (λ j name d x y. absurd (cc)) (λ row k j name d x y. absurd (let q : slice_get [] j ≡ Some d = subst (λ z. slice_get z j ≡ Some d) k.brought y in cc)));
      brought = all_blocks (λ k. (d : DeclNo) → Among d (brought_of (slice_get (with_standard p b n token (prefixed_by front r)).tables.blocks k)) → (row : Declaration) × (slice_get (with_standard p b n token (prefixed_by front r)).tables.declarations d.0 ≡ Some row) × (row.block ≡ k)) brought_old
          (λ i. of_rows (λ o. (d : DeclNo) → Among d (brought_of o) → (row : Declaration) × (slice_get (with_standard p b n token (prefixed_by front r)).tables.declarations d.0 ≡ Some row) × (row.block ≡ n + 1 + i)) i (λ d a. elim a [ ])
          (λ row k d a. (let q : Among d [] = subst (λ z. Among d z) k.brought a in elim q [ ])));
    }
      where
        base_there : (k : Option ℕ) (which : StandardClass) → k ≡ Some n → base_by (kind.StandardClass which) k ≡ standard_base which n
        base_there None which e = absurd (cc)
        base_there (Some m) which e = ap (standard_base which) (some_same m n e)

        based_row : (i : ℕ) (row : BlockOf) → (k : RowAdded n (length b.tables.declarations) token r.level p i row) → own_base (Some row) ≡ standard_base k.which n
        based_row i row k = ap (λ z. base_by z row.encloser) k.kind ∙ base_there row.encloser k.which k.encloser

        even_old : (j : ℕ) → j < length b.tables.blocks → Even (slice_get (with_standard p b n token (prefixed_by front r)).tables.blocks j)
        even_old j lt = go (slice_get b.tables.blocks j) (slice_get (with_standard p b n token (prefixed_by front r)).tables.blocks j) (old_same pair refl j lt) (f.evens j)
          where
            pair : Option BlockOf → Option (List (List ℕ) × List DeclNo)
            pair None = None
            pair (Some row) = Some (row.names, row.numbers)

            go : (o m : Option BlockOf) → pair m ≡ pair o → Even o → Even m
            go None None e h = tt
            go (Some row) None e h = tt
            go None (Some row) e h = absurd (cc)
            go (Some old) (Some new) e h =
                let both : (new.names, new.numbers) ≡ (old.names, old.numbers) = some_same {A = List (List ℕ) × List DeclNo} (new.names, new.numbers) (old.names, old.numbers) e in
                ap (λ (z : List (List ℕ) × List DeclNo). length z.0) both ∙ h ∙ sym (ap (λ (z : List (List ℕ) × List DeclNo). length z.1) both)

        brought_old : (k : ℕ) → k < length b.tables.blocks → (d : DeclNo) → Among d (brought_of (slice_get (with_standard p b n token (prefixed_by front r)).tables.blocks k)) → (row : Declaration) × (slice_get (with_standard p b n token (prefixed_by front r)).tables.declarations d.0 ≡ Some row) × (row.block ≡ k)
        brought_old k lt d a = go (nat_eq n k) refl
          where
            go : (c : Bool) → nat_eq n k ≡ c → (row : Declaration) × (slice_get (with_standard p b n token (prefixed_by front r)).tables.declarations d.0 ≡ Some row) × (row.block ≡ k)
            go true e =
                let same : n ≡ k = grind (arith, nat_tests) in
                let here : slice_get (with_standard p b n token (prefixed_by front r)).tables.blocks n ≡ Some (bringing p (length b.tables.declarations) (prefixed_by front r)) =
                front_get (slice_set b.tables.blocks n (bringing p (length b.tables.declarations) (prefixed_by front r))) (added_rows n (length b.tables.declarations) r.level p) n
                (let l : length (slice_set b.tables.blocks n (bringing p (length b.tables.declarations) (prefixed_by front r))) ≡ length b.tables.blocks = length-set b.tables.blocks n (bringing p (length b.tables.declarations) (prefixed_by front r)) in omega arith)
                ∙ set_here b.tables.blocks n r (bringing p (length b.tables.declarations) (prefixed_by front r)) at in
                let q = brought_here d (subst (λ o. Among d (brought_of o)) here (subst (λ m. Among d (brought_of (slice_get (with_standard p b n token (prefixed_by front r)).tables.blocks m))) (sym same) a)) in
                (q.0, q.1, q.2 ∙ same)
            go false e =
                let other : slice_get (with_standard p b n token (prefixed_by front r)).tables.blocks k ≡ slice_get b.tables.blocks k =
                front_get (slice_set b.tables.blocks n (bringing p (length b.tables.declarations) (prefixed_by front r))) (added_rows n (length b.tables.declarations) r.level p) k
                (let l : length (slice_set b.tables.blocks n (bringing p (length b.tables.declarations) (prefixed_by front r))) ≡ length b.tables.blocks = length-set b.tables.blocks n (bringing p (length b.tables.declarations) (prefixed_by front r)) in omega arith)
                ∙ set_other b.tables.blocks n k (bringing p (length b.tables.declarations) (prefixed_by front r)) e in
                let q = f.brought k d (subst (λ o. Among d (brought_of o)) other a) in (q.0, old_row d.0 q.0 q.1, q.2)

        named_old : (k : ℕ) → k < length b.tables.blocks → Named (with_standard p b n token (prefixed_by front r)).tables.declarations (brings_of (slice_get (with_standard p b n token (prefixed_by front r)).tables.blocks k))
        named_old k lt = go (nat_eq n k) refl
          where
            go : (c : Bool) → nat_eq n k ≡ c → Named (with_standard p b n token (prefixed_by front r)).tables.declarations (brings_of (slice_get (with_standard p b n token (prefixed_by front r)).tables.blocks k))
            go true e =
                let same : n ≡ k = grind (arith, nat_tests) in
                let here : slice_get (with_standard p b n token (prefixed_by front r)).tables.blocks n ≡ Some (bringing p (length b.tables.declarations) (prefixed_by front r)) =
                front_get (slice_set b.tables.blocks n (bringing p (length b.tables.declarations) (prefixed_by front r))) (added_rows n (length b.tables.declarations) r.level p) n
                (let l : length (slice_set b.tables.blocks n (bringing p (length b.tables.declarations) (prefixed_by front r))) ≡ length b.tables.blocks = length-set b.tables.blocks n (bringing p (length b.tables.declarations) (prefixed_by front r)) in omega arith)
                ∙ set_here b.tables.blocks n r (bringing p (length b.tables.declarations) (prefixed_by front r)) at in
                subst (λ m. Named (with_standard p b n token (prefixed_by front r)).tables.declarations (brings_of (slice_get (with_standard p b n token (prefixed_by front r)).tables.blocks m))) same (subst (λ o. Named (with_standard p b n token (prefixed_by front r)).tables.declarations (brings_of o)) (sym here) named_here)
            go false e =
                let other : slice_get (with_standard p b n token (prefixed_by front r)).tables.blocks k ≡ slice_get b.tables.blocks k =
                front_get (slice_set b.tables.blocks n (bringing p (length b.tables.declarations) (prefixed_by front r))) (added_rows n (length b.tables.declarations) r.level p) k
                (let l : length (slice_set b.tables.blocks n (bringing p (length b.tables.declarations) (prefixed_by front r))) ≡ length b.tables.blocks = length-set b.tables.blocks n (bringing p (length b.tables.declarations) (prefixed_by front r)) in omega arith)
                ∙ set_other b.tables.blocks n k (bringing p (length b.tables.declarations) (prefixed_by front r)) e in
                subst (λ o. Named (with_standard p b n token (prefixed_by front r)).tables.declarations (brings_of o)) (sym other) (λ i name d x y. (let q = f.named k i name d x y in (q.0, old_row d.0 q.0 q.1, q.2)))

        standards : (k : ℕ) (which : StandardClass) → slice_get (ts ++ brought_texts p) k ≡ Some (StandardText which) → InGroup (with_standard p b n token (prefixed_by front r)).tables.blocks (ts ++ brought_texts p) k which
        standards k which is = go (parts_get ts (brought_texts p) k (StandardText which) is)
          where
            go : ((k < length ts) × (slice_get ts k ≡ Some (StandardText which))) ⊎ ((i : ℕ) × (k ≡ length ts + i) × (slice_get (brought_texts p) i ≡ Some (StandardText which))) → InGroup (with_standard p b n token (prefixed_by front r)).tables.blocks (ts ++ brought_texts p) k which
            go (inl q) = in_group_kept b.tables.blocks (with_standard p b n token (prefixed_by front r)).tables.blocks ts (ts ++ brought_texts p) keeps k which (f.standards k which q.1)
            go (inr q) =
                let w = text_brought p q.0 (StandardText which) q.2 in
                let one : which ≡ w.0 = same_class which w.0 w.1 in
                let s : length b.tables.blocks ≡ length ts = f.size in
                let at_place : k ≡ length ts + q.0 = q.1 in
                record {
                  prefix = p;
                  block = n;
                  first = added_number (length b.tables.declarations) 0;
                  group = group;
                  is = subst (IsBrought p) (sym one) w.2;
                  place = (let z : k ≡ n + 1 + q.0 = omega arith in z ∙ ap (λ m. n + 1 + m) (w.3 ∙ ap place_of (sym one)));
                }

    -- ---- and their declarations agree with the texts

    pub standard_rows : Rows b ts → Rows (with_standard p b n token (prefixed_by front r)) (ts ++ brought_texts p)
    standard_rows g d row is = go (row_part d row is)
      where
        prefixing : Prefixing x
        prefixing = front_prefixing p x in_front

        go : ((d < length b.tables.declarations) × (slice_get b.tables.declarations d ≡ Some row)) ⊎ ((i : ℕ) × (d ≡ length b.tables.declarations + i) × Added p n (length b.tables.declarations) token r.level i row)
            → RowOf (with_standard p b n token (prefixed_by front r)).tables.blocks (ts ++ brought_texts p) (slice_get (ts ++ brought_texts p) row.block) d row
        go (inl q) = row_kept b.tables.blocks (with_standard p b n token (prefixed_by front r)).tables.blocks ts (ts ++ brought_texts p) keeps d row (g d row q.1)
        go (inr (i, same, a_class c)) =
            subst (λ o. RowOf (with_standard p b n token (prefixed_by front r)).tables.blocks (ts ++ brought_texts p) o d row) (sym (ap (slice_get (ts ++ brought_texts p)) c.block ∙ here_text))
            (class_row (prefixing_declares x prefixing) (record {
              class = StandardText c.which;
              is = refl;
              number = n + 1 + place_of c.which;
              entry = c.entry;
              listed = inr tt;
              hidden = λ z. c.listed;
              named = λ w e. c.name ∙ ap name_of (same_class c.which w e);
              text = group.texts c.which c.is;
              around = group.around c.which c.is ∙ ap Some (sym c.block);
              owner = group.owners c.which c.is ∙ (let z : length b.tables.declarations + 0 + place_of c.which ≡ length b.tables.declarations + place_of c.which = omega arith in
                  ap (λ m. let w : DeclNo = record { 0 = m } in Some w) (z ∙ ap (λ m. length b.tables.declarations + m) (sym c.place) ∙ sym same));
            }))
        go (inr (i, same, an_attribute c)) =
            subst (λ o. RowOf (with_standard p b n token (prefixed_by front r)).tables.blocks (ts ++ brought_texts p) o d row) (sym (ap (slice_get (ts ++ brought_texts p)) c.block ∙ group.texts c.which c.is))
            (attribute_row tt (record { name = c.name; class = c.which; owner = c.owner; is_attribute = c.is_attribute; prefix = p; block = n; first = added_number (length b.tables.declarations) 0; group = group; is = c.is; entry = c.entry; listed = c.listed; stands = c.block }))
        go (inr (i, same, an_own c)) =
            subst (λ o. RowOf (with_standard p b n token (prefixed_by front r)).tables.blocks (ts ++ brought_texts p) o d row) (sym (ap (slice_get (ts ++ brought_texts p)) c.block ∙ here_text))
            (simulation_row prefixing (record {
              name = c.name;
              is_simulation = c.is_simulation;
              first = added_number (length b.tables.declarations) 0;
              group = subst (λ m. StandardGroup prefix.Simulation (with_standard p b n token (prefixed_by front r)).tables.blocks (ts ++ brought_texts p) m (added_number (length b.tables.declarations) 0)) (sym c.block)
                  (subst (λ z. StandardGroup z (with_standard p b n token (prefixed_by front r)).tables.blocks (ts ++ brought_texts p) n (added_number (length b.tables.declarations) 0)) c.simulates group);
              entry = c.entry;
              listed = c.listed;
            }))

    pub standard_agree : is_prefixable r.kind ≡ true → Rows b ts → Agree (with_standard p b n token (prefixed_by front r)) (ts ++ brought_texts p) (item x owed ∷ os)
    standard_agree able g = record { fine = standard_fine able; rows = standard_rows g }
