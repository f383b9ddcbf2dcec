-- The formal parameters of all levels of a class, outermost first: code finds their cells, each in the level that has it.
use Rattle.std.proofs.Common.{◌≡◌, ◌<◌, ◌≤◌, ◌+◌, ◌++◌, ℕ, zero, suc, Bool, true, false, List, [], ◌∷◌, length, map, Option, Some, None, refl, sym, ap, ◌∙◌, subst, arith, length-append}
use Rattle.std.proofs.lemmas.List.{length-map}
use Rattle.std.proofs.lemmas.Option.{slice_get_within}
use Rattle.std.specs.Prelude.{◌-◌, if◌then◌else◌, nat_lt, slice_get, take}
use Rattle.sim_base.specs.declared.numbering.DeclNo.{DeclNo}
use Rattle.sim_scope.specs.declared.types.Entry.{Entry}
use Rattle.sim_scope.specs.declared.types.Entry.TheVariants as entry
use Rattle.sim_scope.specs.declared.types.Formal.{Formal}
use Rattle.sim_scope.specs.Scopes.{class_formals, class_formals_of, entry_of, formals_at, formals_beyond, formals_in}
use Rattle.sim_scope.specs.Source.{Source}
use Rattle.sim_scope.specs.Tables as scope
use Rattle.sim_code.specs.Code.{BlockOf, ClassOf, CodeOf}
use Rattle.sim_code.specs.Classes.{block_in_record, class_numbered}
use Rattle.sim_code.specs.Levels.{extent, own_or_outer, parameter_by, parameter_cell, parameter_within}
use Rattle.sim_code.specs.Levels as code_levels
use Rattle.sim_meaning.specs.Closing.{class_parameters}
use Rattle.sim_meaning.specs.Closing as closing
use Rattle.sim_meaning.specs.Entries.{cells_from, numbers_in, numbers_of, of_formal}
use Rattle.sim_meaning.specs.Levels.{has_levels}
use Rattle.sim_meaning.specs.Pending.{Declared}
use Rattle.sim_meaning.specs.Pending as meaning
use Rattle.sim_meaning.specs.Texts.{text}
use Rattle.codegen_expr.specs.Sites.{block_in_front, block_of_text, cells_in, class_in, class_number, hidden_in, innermost, is_connected, outer, own_part, place_of, prefix_of, slot_of, start_of, types_in}
use Rattle.codegen.specs.Agrees.{Agrees, Ends, before, last}
use Rattle.codegen.specs.Compiled.{Compiled, code_formal}
use Rattle.sim_relate.proofs.ClassLevels.{levels_solid, number_is, numbered}
use Rattle.sim_relate.proofs.ClassTexts.{ClassHas, class_has}
use Rattle.sim_relate.proofs.Known.{is_constant, is_fixed}
use Rattle.sim_relate.proofs.Layouts.{less_or}
use Rattle.sim_relate.proofs.LevelCells.{FormalCell}
use Rattle.sim_relate.proofs.LevelCode.{front_has}
use Rattle.sim_relate.proofs.LevelLists.{base_front, solid_front}
use Rattle.sim_relate.proofs.Parameters.{AllFormal}
use Rattle.sim_relate.proofs.Reach.{if_false, if_true, same_some}
use Rattle.sim_relate.proofs.Slots.{less_true, place_first, same_is, same_self}

-- ---- one list behind another

pub get_before : {A : Type 0} (xs ys : List A) (n : ℕ) → n < length xs → slice_get (xs ++ ys) n ≡ slice_get xs n
get_before [] ys n lt = absurd (omega (arith, lt))
get_before (x ∷ xs) ys zero lt = refl
get_before (x ∷ xs) ys (suc n) lt = get_before xs ys n (omega (arith, lt))

pub get_behind : {A : Type 0} (xs ys : List A) (n m : ℕ) → m ≡ length xs + n → slice_get (xs ++ ys) m ≡ slice_get ys n
get_behind [] ys n m e = let same : m ≡ n = omega (arith, e) in ap (slice_get ys) same
get_behind (x ∷ xs) ys n zero e = absurd (omega (arith, e))
get_behind (x ∷ xs) ys n (suc m) e = get_behind xs ys n m (omega (arith, e))

-- ---- where the formal parameters of a text have their cells among those that it declares

module _ (s : Source) where
  abbrev Once : List DeclNo → Type 0
  Once ds = (n m : ℕ) (d : DeclNo) → slice_get ds n ≡ Some d → slice_get ds m ≡ Some d → n ≡ m

  taken_get : (f : ℕ) (ds : List DeclNo) (k : ℕ) (d : DeclNo) → slice_get (take f ds) k ≡ Some d → slice_get ds k ≡ Some d
  taken_get zero ds k d e = absurd (cc)
  taken_get (suc f) [] k d e = absurd (cc)
  taken_get (suc f) (x ∷ ds) zero d e = e
  taken_get (suc f) (x ∷ ds) (suc k) d e = taken_get f ds k d e

  -- with the cell of a formal in front
  front_cell : (x : DeclNo) (f : Formal) (ds : List DeclNo) → entry_of s.tables x ≡ Some (entry.Formal f) → cells_from s (x ∷ ds) ≡ record { key = Declared x.0; value = of_formal f.mode f.kind f.ty } ∷ cells_from s ds
  front_cell x f ds e = rw e

  same_number : (x d : DeclNo) → x.0 ≡ d.0 → x ≡ d
  same_number x d e = ap (λ z. let r : DeclNo = record { 0 = z } in r) e

  declared_same : {x d : ℕ} → Declared x ≡ Declared d → x ≡ d
  declared_same e = cc (e)

  place_if : (c : Bool) (p k : ℕ) → c ≡ false → p ≡ k → (if c then 0 else suc p) ≡ suc k
  place_if true p k e f = absurd (cc)
  place_if false p k e f = ap suc f

  not_same : (c : Bool) → (c ≡ true → ⊥) → c ≡ false
  not_same true f = absurd (f refl)
  not_same false f = refl

  formal_place : (f : ℕ) (ds : List DeclNo) → AllFormal s (take f ds) → Once ds → (k : ℕ) (d : DeclNo) → slice_get (take f ds) k ≡ Some d → place_of (Declared d.0) (cells_from s ds) ≡ k
  formal_place zero ds all once k d e = absurd (cc)
  formal_place (suc f) [] all once k d e = absurd (cc)
  formal_place (suc f) (x ∷ ds) all once zero d e =
      let cell = all 0 x refl in
      let same : x ≡ d = cc (e) in
      ap (place_of (Declared d.0)) (front_cell x cell.0 ds cell.1) ∙ ap (λ z. if z then 0 else suc (place_of (Declared d.0) (cells_from s ds))) (subst (λ z. meaning.same_key (Declared z.0) (Declared d.0) ≡ true) (sym same) (same_self (Declared d.0)))
  formal_place (suc f) (x ∷ ds) all once (suc k) d e =
      let cell = all 0 x refl in
      let there = taken_get f ds k d e in
      let apart = not_same (meaning.same_key (Declared x.0) (Declared d.0)) (λ yes. (let same : x ≡ d = same_number x d (declared_same (same_is (Declared x.0) (Declared d.0) yes)) in let no : 0 ≡ suc k = once 0 (suc k) d (ap Some same) there in let f : ⊥ = omega (arith, no) in f)) in
      let more = formal_place f ds (λ n c is. all (suc n) c is) (λ n m c en em. (let up : suc n ≡ suc m = once (suc n) (suc m) c en em in let down : n ≡ m = omega (arith, up) in down)) k d e in
      ap (place_of (Declared d.0)) (front_cell x cell.0 ds cell.1) ∙ place_if (meaning.same_key (Declared x.0) (Declared d.0)) (place_of (Declared d.0) (cells_from s ds)) k apart more

  formals_have : (f : ℕ) (ds : List DeclNo) → AllFormal s (take f ds) → length (take f ds) ≤ length (cells_from s ds)
  formals_have zero ds all = omega arith
  formals_have (suc f) [] all = omega arith
  formals_have (suc f) (x ∷ ds) all =
      let cell = all 0 x refl in
      let more = formals_have f ds (λ n c is. all (suc n) c is) in
      let n = ap length (front_cell x cell.0 ds cell.1) in
      omega (arith, more, n)

  -- each is one formal parameter
  formals_count : (ds : List DeclNo) → AllFormal s ds → length (closing.formals_from s ds) ≡ length ds
  formals_count [] all = refl
  formals_count (x ∷ ds) all = let cell = all 0 x refl in one x cell.0 ds (entry_of s.tables x) cell.1 refl (formals_count ds (λ n c is. all (suc n) c is))
    where
      one : (x : DeclNo) (f : Formal) (ds : List DeclNo) (o : Option Entry) → o ≡ Some (entry.Formal f) → entry_of s.tables x ≡ o → length (closing.formals_from s ds) ≡ length ds → length (closing.formals_from s (x ∷ ds)) ≡ suc (length ds)
      one x f ds o e is more = rw (is, e) (ap suc more)

  -- a formal parameter of a text among the cells that this declares
  pub record OwnFormal (k n : ℕ) (d : DeclNo) : Type 0 where
    pub place : place_of (Declared d.0) (cells_from s (numbers_of s k)) ≡ n
    pub within : n < length (cells_from s (numbers_of s k))
    pub varies : is_fixed s (Declared d.0) ≡ false

  module _ (agrees : Agrees s) where
    numbered_so : (k : ℕ) (o : Option scope.BlockOf) → slice_get s.tables.blocks k ≡ o → (n : ℕ) (d : DeclNo) → slice_get (formals_in o) n ≡ Some d → (place_of (Declared d.0) (cells_from s (numbers_in o)) ≡ n) × (n < length (cells_from s (numbers_in o))) × (is_fixed s (Declared d.0) ≡ false)
    numbered_so k None e n d is = absurd (cc)
    numbered_so k (Some row) e n d is =
        let all : AllFormal s (take row.formals row.numbers) = λ n d f. agrees.formals k n d (ap (λ z. slice_get (formals_in z) n) e ∙ f) in
        let once : Once row.numbers = λ n m d f g. agrees.once k n m d (ap (λ z. slice_get (numbers_in z) n) e ∙ f) (ap (λ z. slice_get (numbers_in z) m) e ∙ g) in
        let c = all n d is in
        let le = formals_have row.formals row.numbers all in
        let lt = slice_get_within (take row.formals row.numbers) n d is in
        (formal_place row.formals row.numbers all once n d is, omega (arith, le, lt), ap is_constant c.1)

    pub own_formal : (k n : ℕ) (d : DeclNo) → slice_get (formals_in (slice_get s.tables.blocks k)) n ≡ Some d → OwnFormal k n d
    own_formal k n d e =
        let r = numbered_so k (slice_get s.tables.blocks k) refl n d e in
        record { place = r.0; within = r.1; varies = r.2 }

    -- ---- the formal parameters of all levels

    enough : {n k : ℕ} → Ends s.tables n k → is_connected s.tables k ≡ false → (a b : ℕ) → n ≤ a → n ≤ b → class_formals_of s.tables a k ≡ class_formals_of s.tables b k
    unfolding class_formals_of
    enough (last e) c zero b le le' = absurd (omega (arith, le))
    enough (last e) c (suc a) zero le le' = absurd (omega (arith, le'))
    enough (last {k = k} e) c (suc a) (suc b) le le' =
        let none = base_front s k c ∙ e in
        ap (λ z. formals_beyond (λ x. class_formals_of s.tables a x) z ++ formals_at s.tables (Some k)) none ∙ sym (ap (λ z. formals_beyond (λ x. class_formals_of s.tables b x) z ++ formals_at s.tables (Some k)) none)
    enough (before e more) c zero b le le' = absurd (omega (arith, le))
    enough (before e more) c (suc a) zero le le' = absurd (omega (arith, le'))
    enough (before {n = n} {k = k} {u = u} e more) c (suc a) (suc b) le le' =
        let some = base_front s k c ∙ e in
        ap (λ z. formals_beyond (λ x. class_formals_of s.tables a x) z ++ formals_at s.tables (Some k)) some
        ∙ ap (λ z. z ++ formals_at s.tables (Some k)) (enough more (solid_front s agrees k u e) a b (omega (arith, le)) (omega (arith, le')))
        ∙ sym (ap (λ z. formals_beyond (λ x. class_formals_of s.tables b x) z ++ formals_at s.tables (Some k)) some)

    first_by : {n k : ℕ} → Ends s.tables n k → is_connected s.tables k ≡ false → prefix_of s.tables k ≡ None → class_formals_of s.tables n k ≡ formals_in (slice_get s.tables.blocks k)
    unfolding class_formals_of
    first_by (last {n = n} {k = k} e) c none = ap (λ z. formals_beyond (λ x. class_formals_of s.tables n x) z ++ formals_at s.tables (Some k)) (base_front s k c ∙ e)
    first_by (before e more) c none = absurd (cc)

    behind_by : {n k : ℕ} → Ends s.tables n k → is_connected s.tables k ≡ false → (u : ℕ) → prefix_of s.tables k ≡ Some u → class_formals_of s.tables n k ≡ class_formals_of s.tables n u ++ formals_in (slice_get s.tables.blocks k)
    unfolding class_formals_of
    behind_by (last e) c u f = absurd (cc)
    behind_by (before {n = n} {k = k} {u = v} e more) c u f =
        let same : v ≡ u = same_some (prefix_of s.tables k) v u e f in
        let le : n ≤ n = omega arith in
        let more_le : n ≤ suc n = omega arith in
        ap (λ z. formals_beyond (λ x. class_formals_of s.tables n x) z ++ formals_at s.tables (Some k)) (base_front s k c ∙ e)
        ∙ ap (λ z. z ++ formals_at s.tables (Some k)) (enough more (solid_front s agrees k v e) n (suc n) le more_le)
        ∙ ap (λ z. class_formals_of s.tables (suc n) z ++ formals_at s.tables (Some k)) same

    pub formals_first : (k : ℕ) → is_connected s.tables k ≡ false → prefix_of s.tables k ≡ None → class_formals s.tables k ≡ formals_in (slice_get s.tables.blocks k)
    unfolding class_formals
    formals_first k c none = first_by (agrees.ends k) c none

    pub formals_behind : (k : ℕ) → is_connected s.tables k ≡ false → (u : ℕ) → prefix_of s.tables k ≡ Some u → class_formals s.tables k ≡ class_formals s.tables u ++ formals_in (slice_get s.tables.blocks k)
    unfolding class_formals
    formals_behind k c u e = behind_by (agrees.ends k) c u e

    both_formal : (xs ys : List DeclNo) → AllFormal s xs → AllFormal s ys → AllFormal s (xs ++ ys)
    both_formal xs ys all more n d e =
        less_or n (length xs)
        (λ lt. all n d (sym (get_before xs ys n lt) ∙ e))
        (λ le. let at : n ≡ length xs + (n - length xs) = omega (arith, le) in more (n - length xs) d (sym (get_behind xs ys (n - length xs) n at) ∙ e))

    all_by : {n k : ℕ} → Ends s.tables n k → is_connected s.tables k ≡ false → AllFormal s (class_formals s.tables k)
    all_by (last {k = k} e) c = subst (AllFormal s) (sym (formals_first k c e)) (λ n d f. agrees.formals k n d f)
    all_by (before {k = k} {u = u} e more) c =
        subst (AllFormal s) (sym (formals_behind k c u e))
        (both_formal (class_formals s.tables u) (formals_in (slice_get s.tables.blocks k)) (all_by more (solid_front s agrees k u e)) (λ n d f. agrees.formals k n d f))

    pub parameters_count : (k : ℕ) → is_connected s.tables k ≡ false → length (class_parameters s (Some k)) ≡ length (class_formals s.tables k)
    parameters_count k c = formals_count (class_formals s.tables k) (all_by (agrees.ends k) c)

-- ---- code finds their cells

module _ (s : Source) (code : CodeOf) (compiled : Compiled s code) where
  agrees : Agrees s
  agrees = compiled.agrees

  -- how many formal parameters the record of a class has
  pub formals_many : (k : ℕ) (x : ClassHas s code k) → is_connected s.tables k ≡ false → length x.block.formals ≡ length (class_formals s.tables k)
  formals_many k x c =
      let heads = x.has.heads in
      let f = ap length (heads.formals ∙ ap (map (code_formal s code)) x.parameters) in
      let p = length-map (class_parameters s (Some k)) (code_formal s code) in
      let q = parameters_count s agrees k c in
      omega (arith, f, p, q)

  -- that of a level itself
  own_cell : (k : ℕ) (x : ClassHas s code k) (place : ℕ → Option ℕ) (m n : ℕ) (d : DeclNo) → slice_get (formals_in (slice_get s.tables.blocks k)) n ≡ Some d → place m ≡ Some (start_of s code k + n) → FormalCell s code k place m d
  unfolding slot_of
  own_cell k x place m n d e at =
      let o = own_formal s agrees k n d e in
      let cells : cells_in s k (text s k) ≡ cells_from s (numbers_of s k) = x.cells in
      let here : place_of (Declared d.0) (cells_in s k (text s k)) ≡ n = ap (place_of (Declared d.0)) cells ∙ o.place in
      let within = o.within in
      let many = ap length cells in
      let lt : place_of (Declared d.0) (cells_in s k (text s k)) < length (cells_in s k (text s k)) = omega (arith, here, within, many) in
      let first : place_of (Declared d.0) (own_part s k) ≡ n = place_first (Declared d.0) (cells_in s k (text s k)) (hidden_in s k) lt ∙ here in
      let long = length-append (cells_in s k (text s k)) (hidden_in s k) in
      record {
        level = k;
        is_level = innermost;
        has = omega (arith, first, lt, here, long);
        slot = at ∙ ap (λ z. Some (start_of s code k + z)) (sym first);
        varies = o.varies;
      }

  by_own : (outward : Option ℕ) (m front many : ℕ) → many ≤ m → own_or_outer outward m (Some (front, many)) ≡ Some (front + (m - many))
  by_own outward m front many le = if_false (nat_lt m many) outward (Some (front + (m - many))) (let e : nat_lt m many ≡ false = grind (arith, le) in e)

  by_outer : (outward : Option ℕ) (m front many : ℕ) → m < many → own_or_outer outward m (Some (front, many)) ≡ outward
  by_outer outward m front many lt = if_true (nat_lt m many) outward (Some (front + (m - many))) (less_true m many lt)

  -- a level within
  further_cell : (k u : ℕ) → prefix_of s.tables k ≡ Some u → (place place' : ℕ → Option ℕ) (m : ℕ) (d : DeclNo) → place m ≡ place' m → FormalCell s code u place' m d → FormalCell s code k place m d
  further_cell k u e place place' m d same f = record { level = f.level; is_level = outer e f.is_level; has = f.has; slot = same ∙ f.slot; varies = f.varies }

  class_front : (p : ℕ) (x : ClassOf) (b : BlockOf) → class_numbered code p ≡ Some x → slice_get code.blocks x.block ≡ Some b → code_levels.in_front code p ≡ Some (length b.types, length b.formals)
  class_front zero x b e f = absurd (cc)
  class_front (suc p) x b e f = ap (λ z. extent (block_in_record code z)) e ∙ ap extent f

  no_class : (k : ℕ) (x : ClassHas s code k) → class_number s code k ≤ 0 → ⊥
  unfolding class_number
  no_class k x le =
      let number : class_number s code k ≡ x.block.class = ap class_in x.found in
      let zero : x.block.class ≡ 0 = omega (arith, le, number) in
      let there = ap (class_numbered code) (sym zero) ∙ x.has.is.numbered in
      absurd (cc (there))

  -- what is in front of a class without a prefix, and of one with a prefix
  no_prefix : (k : ℕ) (x : ClassHas s code k) → prefix_of s.tables k ≡ None → x.has.class.prefix ≡ 0
  unfolding block_in_front
  no_prefix k x e = x.has.is.prefix ∙ ap (λ z. class_in (block_of_text s code z)) e

  no_start : (k m : ℕ) → prefix_of s.tables k ≡ None → 0 + (m - 0) ≡ start_of s code k + m
  unfolding block_in_front
  no_start k m e = let none : start_of s code k ≡ 0 = ap (λ z. length (types_in (block_of_text s code z))) e in omega (arith, none)

  prefix_is : (k : ℕ) (x : ClassHas s code k) (u : ℕ) → prefix_of s.tables k ≡ Some u → x.has.class.prefix ≡ class_number s code u
  unfolding block_in_front class_number
  prefix_is k x u e = x.has.is.prefix ∙ ap (λ z. class_in (block_of_text s code z)) e

  start_is : (k u : ℕ) → prefix_of s.tables k ≡ Some u → (x : ClassHas s code u) → (m many : ℕ) → many ≡ length (class_formals s.tables u) → length x.block.types + (m - many) ≡ start_of s code k + (m - length (class_formals s.tables u))
  unfolding block_in_front
  start_is k u e x m many same =
      let front : start_of s code k ≡ length x.block.types = ap (λ z. length (types_in (block_of_text s code z))) e ∙ ap (λ z. length (types_in z)) x.found in
      let less : m - many ≡ m - length (class_formals s.tables u) = ap (λ z. m - z) same in
      omega (arith, front, less)

  formal_by : {n k : ℕ} → Ends s.tables n k → (x : ClassHas s code k) → (bound : ℕ) → class_number s code k ≤ bound → (m : ℕ) (d : DeclNo) → slice_get (class_formals s.tables k) m ≡ Some d → FormalCell s code k (λ z. parameter_within bound code (class_number s code k) z) m d
  formal_by {k = k} e x zero le m d f = absurd (no_class k x le)
  formal_by (last {k = k} e) x (suc bound) le m d f =
      let connected = levels_solid s code compiled k x.levels in
      let own : slice_get (formals_in (slice_get s.tables.blocks k)) m ≡ Some d = sym (ap (λ z. slice_get z m) (formals_first s agrees k connected e)) ∙ f in
      own_cell k x (λ z. parameter_within (suc bound) code (class_number s code k) z) m m d own
      (ap (parameter_by (λ p. parameter_within bound code p m) code m) (numbered s code compiled k x)
      ∙ ap (λ p. own_or_outer (parameter_within bound code p m) m (code_levels.in_front code p)) (no_prefix k x e)
      ∙ by_own (parameter_within bound code 0 m) m 0 0 (omega arith)
      ∙ ap Some (no_start k m e))
  formal_by (before {n = n} {k = k} {u = u} e more) x (suc bound) le m d f =
      let connected = levels_solid s code compiled k x.levels in
      let there = front_has s code compiled k u e in
      let many = formals_many u there (levels_solid s code compiled u there.levels) in
      let front = class_front (class_number s code u) there.has.class there.block (numbered s code compiled u there) (ap (slice_get code.blocks) there.has.is.of_block ∙ there.found) in
      let prefix = prefix_is k x u e in
      let number = number_is s code compiled k x in
      let lower = x.has.is.lower in
      let both = formals_behind s agrees k connected u e in
      let by_class = ap (parameter_by (λ p. parameter_within bound code p m) code m) (numbered s code compiled k x)
      ∙ ap (λ p. own_or_outer (parameter_within bound code p m) m (code_levels.in_front code p)) prefix
      ∙ ap (own_or_outer (parameter_within bound code (class_number s code u) m) m) front in
      less_or m (length (class_formals s.tables u))
      (λ lt. let inward : slice_get (class_formals s.tables u) m ≡ Some d = sym (get_before (class_formals s.tables u) (formals_in (slice_get s.tables.blocks k)) m lt) ∙ sym (ap (λ z. slice_get z m) both) ∙ f in
      further_cell k u e (λ z. parameter_within (suc bound) code (class_number s code k) z) (λ z. parameter_within bound code (class_number s code u) z) m d
      (by_class ∙ by_outer (parameter_within bound code (class_number s code u) m) m (length there.block.types) (length there.block.formals) (omega (arith, lt, many)))
      (formal_by more there bound (omega (arith, le, prefix, number, lower)) m d inward))
      (λ past. let at : m ≡ length (class_formals s.tables u) + (m - length (class_formals s.tables u)) = omega (arith, past) in
      let own : slice_get (formals_in (slice_get s.tables.blocks k)) (m - length (class_formals s.tables u)) ≡ Some d = sym (get_behind (class_formals s.tables u) (formals_in (slice_get s.tables.blocks k)) (m - length (class_formals s.tables u)) m at) ∙ sym (ap (λ z. slice_get z m) both) ∙ f in
      own_cell k x (λ z. parameter_within (suc bound) code (class_number s code k) z) m (m - length (class_formals s.tables u)) d own
      (by_class ∙ by_own (parameter_within bound code (class_number s code u) m) m (length there.block.types) (length there.block.formals) (omega (arith, past, many))
      ∙ ap Some (start_is k u e there m (length there.block.formals) many)))

  pub formal_cell : (k : ℕ) → has_levels (text s k) ≡ true → (m : ℕ) (d : DeclNo) → slice_get (class_formals s.tables k) m ≡ Some d → FormalCell s code k (parameter_cell code (class_number s code k)) m d
  unfolding parameter_cell
  formal_cell k e m d f = let le : class_number s code k ≤ class_number s code k = omega arith in formal_by (agrees.ends k) (class_has s code compiled k e) (class_number s code k) le m d f
