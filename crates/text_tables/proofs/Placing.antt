-- Cells in their places.
use Rattle.std.proofs.Common.{◌≡◌, ◌≢◌, ◌<◌, ◌≤◌, ◌+◌, ⊎_elim, ◌⊎◌, inl, inr, ℕ, zero, suc, Bool, true, false, if◌then◌else◌, List, [], ◌∷◌, ◌++◌, length, map, drop, Option, Some, None, refl, sym, ap, ◌∙◌, subst, arith, length-append}
use Rattle.std.proofs.lemmas.Bool.{cases_eq, eq-eqb}
use Rattle.std.proofs.lemmas.Bool.Decides.{eqb_tells}
use Rattle.std.proofs.lemmas.List.{drop_more, drop_all}
use Rattle.std.specs.Option.{option_or}
use Rattle.std.specs.Prelude.{◌==◌, replicate, slice_get, slice_index_or, slice_set, option_map}
use Rattle.std.specs.Borrow.{Bor}
use Rattle.sim_base.specs.declared.numbering.DeclNo.{DeclNo}
use Rattle.sim_scope.specs.declared.bound.Bound.{Bound}
use Rattle.sim_scope.specs.declared.scopes.Declaration.{Declaration}
use Rattle.sim_scope.specs.declared.types.StandardClass.{StandardClass}
use Rattle.sim_scope.specs.declared.types.StandardClass.TheVariants as standard
use Rattle.sim_scope.specs.declared.types.Entry.{Entry}
use Rattle.sim_scope.specs.declared.types.Entry.TheVariants as entry
use Rattle.sim_scope.specs.Access.{joined}
use Rattle.sim_scope.specs.Scopes.{entry_in, entry_of}
use Rattle.sim_scope.specs.Source.{Source, block_of, block_of_row, source_of}
use Rattle.sim_tree.specs.declared.program.BlockPrefix.{BlockPrefix}
use Rattle.sim_tree.specs.declared.stmt.Block.{Block}
use Rattle.sim_tree.specs.declared.stmt.Class.{Class}
use Rattle.sim_tree.specs.declared.stmt.Procedure.{Procedure}
use Rattle.sim_tree.specs.declared.stmt.TypeName.{TypeName}
use Rattle.sim_tree.specs.declared.expr.Identifier.{Identifier}
use Rattle.sim_tree.specs.Syntax.{Also, Begin, Heading, NoDeclaration, NoStatement, Prefix, Statement}
use Rattle.sim_tree.specs.Syntax.{Block as BlockSyntax}
use Rattle.sim_tree.specs.SyntaxOfProgram.{block_syntax, prefix_syntax, statement_syntax}
use Rattle.sim_meaning.specs.Attributes.{is_connection}
use Rattle.sim_meaning.specs.Entries.{cells_from, first_cells, numbers_of, with_cell, with_result}
use Rattle.sim_meaning.specs.Levels.{is_class, is_process_class, is_process_itself, is_standard_text}
use Rattle.sim_meaning.specs.Pending.{Declared, Held, Key, Val, same_key}
use Rattle.sim_meaning.specs.Texts.{ClassText, ConnectionText, ProcedureText, StandardText, Text, text}
use Rattle.codegen_expr.specs.Built.{place_from}
use Rattle.codegen_expr.specs.Known.{has_result, number_or, place_in, truth_or_false}
use Rattle.codegen_expr.specs.Sites.{cells_in, own_cells}
use Rattle.program_texts.specs.declared.tree.TextTree.{TextTree}
use Rattle.program_texts.specs.declared.tree.TextTree.TheVariants as tree
use Rattle.program_texts.specs.TextTrees.{AreTexts, block_text, class_text, heading_of, prefixed_text, text_in}
use Rattle.text_tables.proofs.Passing.{get_map, pass_all, pass_end, pass_next}
use Rattle.text_tables.specs.Making.{FilledTo, IsPlaced, OwesPlaces, PlacedTo, Places, PlacesCells, cell_alone, has_cell, is_class_tree, is_connection_tree, is_process_tree, is_result, is_some, slot_at}

-- ---- lists

pub less : (m n : ℕ) → (m < n) ⊎ (n ≤ m)
less m zero = inr (omega arith)
less zero (suc n) = inl (omega arith)
less (suc m) (suc n) = ⊎_elim (λ le. inl (omega (arith, le))) (λ le. inr (omega (arith, le))) (less m n)

set_length : {A : Type 0} (xs : List A) (i : ℕ) (v : A) → length (slice_set xs i v) ≡ length xs
set_length [] i v = refl
set_length (x ∷ xs) zero v = refl
set_length (x ∷ xs) (suc i) v = ap suc (set_length xs i v)

pub set_there : {A : Type 0} (xs : List A) (i : ℕ) (v : A) → i < length xs → slice_get (slice_set xs i v) i ≡ Some v
set_there [] i v le = absurd (omega arith)
set_there (x ∷ xs) zero v le = refl
set_there (x ∷ xs) (suc i) v le = set_there xs i v (omega arith)

pub set_apart : {A : Type 0} (xs : List A) (i j : ℕ) (v : A) → j ≢ i → slice_get (slice_set xs i v) j ≡ slice_get xs j
set_apart [] i j v h = refl
set_apart (x ∷ xs) zero zero v h = absurd (h refl)
set_apart (x ∷ xs) zero (suc j) v h = refl
set_apart (x ∷ xs) (suc i) zero v h = refl
set_apart (x ∷ xs) (suc i) (suc j) v h = set_apart xs i j v (λ e. h (ap suc e))

get_within : {A : Type 0} (xs : List A) (i : ℕ) (x : A) → slice_get xs i ≡ Some x → i < length xs
get_within [] i x e = absurd (cc)
get_within (y ∷ ys) zero x e = omega arith
get_within (y ∷ ys) (suc i) x e = let le = get_within ys i x e in omega (arith, le)

pub get_past : {A : Type 0} (xs : List A) (i : ℕ) → length xs ≤ i → slice_get xs i ≡ None
get_past [] i le = refl
get_past (x ∷ xs) zero le = absurd (omega (arith, le))
get_past (x ∷ xs) (suc i) le = get_past xs i (omega (arith, le))

get_first : {A : Type 0} (xs ys : List A) (i : ℕ) → i < length xs → slice_get (xs ++ ys) i ≡ slice_get xs i
get_first [] ys i le = absurd (omega (arith, le))
get_first (x ∷ xs) ys zero le = refl
get_first (x ∷ xs) ys (suc i) le = get_first xs ys i (omega (arith, le))

get_last : {A : Type 0} (xs : List A) (y : A) → slice_get (xs ++ (y ∷ [])) (length xs) ≡ Some y
get_last [] y = refl
get_last (x ∷ xs) y = get_last xs y

pub get_at : {A : Type 0} (xs : List A) (i : ℕ) (d : A) → i < length xs → slice_get xs i ≡ Some (slice_index_or xs i d)
get_at [] i d le = absurd (omega (arith, le))
get_at (x ∷ xs) zero d le = refl
get_at (x ∷ xs) (suc i) d le = get_at xs i d (omega (arith, le))

abbrev nothing : Option ℕ
nothing = None

replicate_at : (n i : ℕ) → joined (slice_get (replicate n nothing) i) ≡ None
replicate_at zero i = refl
replicate_at (suc n) zero = refl
replicate_at (suc n) (suc i) = replicate_at n i

replicate_length : {A : Type 0} (n : ℕ) (x : A) → length (replicate n x) ≡ n
replicate_length zero x = refl
replicate_length (suc n) x = ap suc (replicate_length n x)

or_none : {A : Type 0} (x : Option A) → x ≡ option_or x None
or_none None = refl
or_none (Some x) = refl

or_assoc : {A : Type 0} (x y z : Option A) → option_or (option_or x y) z ≡ option_or x (option_or y z)
or_assoc None y z = refl
or_assoc (Some x) y z = refl

pub not_same : (a b : ℕ) → a ≢ b → (a == b) ≡ false
not_same a b other = ⊎_elim (λ x. absurd (other x.1)) (λ x. x.0) (eqb_tells a b)

-- ---- one declaration

module _ (s : Source) (k : ℕ) where
  pub placed_outside : (a : List (Option ℕ)) (d : DeclNo) (cell block : ℕ) → block ≡ block_of s d → block ≢ k → IsPlaced s k a a d cell
  placed_outside a d cell block eb other = record { as_long = refl; here = λ _ is. absurd (other (eb ∙ is)); elsewhere = λ _. refl; others = λ e _. refl }

  pub placed_before : (a : List (Option ℕ)) (d : DeclNo) (cell : ℕ) (u : Option ℕ) (x : ℕ) → u ≡ slot_at a d → u ≡ Some x → IsPlaced s k a a d cell
  placed_before a d cell u x eu some =
      let is : slot_at a d ≡ Some x = sym eu ∙ some in
      record { as_long = refl; here = λ _ _. is ∙ ap (λ z. option_or z (Some cell)) (sym is); elsewhere = λ _. refl; others = λ e _. refl }

  pub placed_beyond : (a : List (Option ℕ)) (d : DeclNo) (cell : ℕ) → length a ≤ d.0 → IsPlaced s k a a d cell
  placed_beyond a d cell le = record { as_long = refl; here = λ lt _. absurd (omega (arith, le, lt)); elsewhere = λ _. refl; others = λ e _. refl }

  pub placed_now : (a b : List (Option ℕ)) (d : DeclNo) (cell block : ℕ) (u : Option ℕ) → block ≡ block_of s d → block ≡ k → u ≡ slot_at a d → u ≡ None → d.0 < length a → b ≡ slice_set a d.0 (Some cell) → IsPlaced s k a b d cell
  placed_now a b d cell block u eb same eu none le e =
      let is : slot_at a d ≡ None = sym eu ∙ none in
      record {
        as_long = ap length e ∙ set_length a d.0 (Some cell);
        here = λ _ _. ap (λ z. slot_at z d) e ∙ ap joined (set_there a d.0 (Some cell) le) ∙ ap (λ z. option_or z (Some cell)) (sym is);
        elsewhere = λ other. absurd (other (sym eb ∙ same));
        others = λ x apart. ap (λ z. slot_at z x) e ∙ ap joined (set_apart a d.0 x.0 (Some cell) apart);
      }

  same_block : (d e : DeclNo) → d.0 ≡ e.0 → block_of s d ≡ block_of s e
  unfolding block_of
  same_block d e h = ap (λ n. block_of_row (slice_get s.tables.declarations n)) h

  declared : (d : DeclNo) → has_cell (entry_of s.tables d) ≡ true → d.0 < length s.tables.declarations
  unfolding entry_of
  declared d h = cases (slice_get s.tables.declarations d.0) refl h
    where
      cases : (o : Option Declaration) → slice_get s.tables.declarations d.0 ≡ o → has_cell (entry_in o) ≡ true → d.0 < length s.tables.declarations
      cases None e h = absurd (cc)
      cases (Some row) e h = get_within s.tables.declarations d.0 row e

  one_cell : (d : DeclNo) (e : Option Entry) → has_cell e ≡ true → (v : Option Val) × (with_cell d e [] ≡ (let h : Held = record { key = Declared d.0; value = v } in h) ∷ [])
  one_cell d None h = absurd (cc)
  one_cell d (Some (entry.Variable type)) h = (_, refl)
  one_cell d (Some (entry.Constant type)) h = (_, refl)
  one_cell d (Some (entry.Array element dimensions)) h = (_, refl)
  one_cell d (Some (entry.Formal f)) h = (_, refl)
  one_cell d (Some (entry.Procedure result block)) h = absurd (cc)
  one_cell d (Some (entry.Class block)) h = absurd (cc)
  one_cell d (Some (entry.Virtual result own)) h = absurd (cc)
  one_cell d (Some (entry.Unspecified written)) h = absurd (cc)
  one_cell d (Some (entry.Attribute name parameter result)) h = absurd (cc)

  no_cell : (d : DeclNo) (e : Option Entry) → has_cell e ≡ false → with_cell d e [] ≡ []
  no_cell d None h = refl
  no_cell d (Some (entry.Variable type)) h = absurd (cc)
  no_cell d (Some (entry.Constant type)) h = absurd (cc)
  no_cell d (Some (entry.Array element dimensions)) h = absurd (cc)
  no_cell d (Some (entry.Formal f)) h = absurd (cc)
  no_cell d (Some (entry.Procedure result block)) h = refl
  no_cell d (Some (entry.Class block)) h = refl
  no_cell d (Some (entry.Virtual result own)) h = refl
  no_cell d (Some (entry.Unspecified written)) h = refl
  no_cell d (Some (entry.Attribute name parameter result)) h = refl

  more_cells : (d : DeclNo) (e : Option Entry) (hs : List Held) → with_cell d e hs ≡ with_cell d e [] ++ hs
  more_cells d None hs = refl
  more_cells d (Some (entry.Variable type)) hs = refl
  more_cells d (Some (entry.Constant type)) hs = refl
  more_cells d (Some (entry.Array element dimensions)) hs = refl
  more_cells d (Some (entry.Formal f)) hs = refl
  more_cells d (Some (entry.Procedure result block)) hs = refl
  more_cells d (Some (entry.Class block)) hs = refl
  more_cells d (Some (entry.Virtual result own)) hs = refl
  more_cells d (Some (entry.Unspecified written)) hs = refl
  more_cells d (Some (entry.Attribute name parameter result)) hs = refl

  -- ---- cells behind cells

  place_append : (n : ℕ) (key : Key) (hs more : List Held) → place_from n key (hs ++ more) ≡ option_or (place_from n key hs) (place_from (n + length hs) key more)
  place_append n key [] more = let e : n ≡ n + 0 = omega arith in ap (λ z. place_from z key more) e
  place_append n key (h ∷ hs) more = cases (same_key h.key key) (place_append (suc n) key hs more)
    where
      cases : (b : Bool) → place_from (suc n) key (hs ++ more) ≡ option_or (place_from (suc n) key hs) (place_from (suc n + length hs) key more) → (if b then Some n else place_from (suc n) key (hs ++ more)) ≡ option_or (if b then Some n else place_from (suc n) key hs) (place_from (n + suc (length hs)) key more)
      cases true rest = refl
      cases false rest = let e : suc n + length hs ≡ n + suc (length hs) = omega arith in rest ∙ ap (λ z. option_or (place_from (suc n) key hs) (place_from z key more)) e

  places_none : (a : List (Option ℕ)) (n : ℕ) → Places s k a a n [] n
  unfolding Places
  places_none a n le = record { as_long = refl; counted = omega arith; here = λ d _. or_none (slot_at a d); elsewhere = λ d _. refl }

  places_then : (a b c : List (Option ℕ)) (n m o : ℕ) (hs more : List Held) → Places s k a b n hs m → Places s k b c m more o → Places s k a c n (hs ++ more) o
  unfolding Places
  places_then a b c n m o hs more f g le =
      let x = f le in
      let y = g (x.as_long ∙ le) in
      let em = x.counted in
      let eo = y.counted in
      let all = length-append hs more in
      record {
        as_long = y.as_long ∙ x.as_long;
        counted = omega (arith, em, eo, all);
        here = λ d is.
            y.here d is ∙ ap (λ z. option_or z (place_from m (Declared d.0) more)) (x.here d is) ∙ or_assoc (slot_at a d) (place_from n (Declared d.0) hs) (place_from m (Declared d.0) more)
            ∙ ap (λ z. option_or (slot_at a d) (option_or (place_from n (Declared d.0) hs) (place_from z (Declared d.0) more))) em ∙ ap (option_or (slot_at a d)) (sym (place_append n (Declared d.0) hs more));
        elsewhere = λ d other. y.elsewhere d other ∙ x.elsewhere d other;
      }

  places_as : (a b : List (Option ℕ)) (n m : ℕ) (hs more : List Held) → hs ≡ more → Places s k a b n hs m → Places s k a b n more m
  places_as a b n m hs more e f = subst (λ z. Places s k a b n z m) e f

  pub place_one : (a b : List (Option ℕ)) (d : DeclNo) (e : Option Entry) (cell n : ℕ) → e ≡ entry_of s.tables d → has_cell e ≡ true → IsPlaced s k a b d cell → n ≡ suc cell → Places s k a b cell (cell_alone s d) n
  unfolding Places
  place_one a b d e cell n ee has p en le =
      let has' : has_cell (entry_of s.tables d) ≡ true = ap has_cell (sym ee) ∙ has in
      let one = one_cell d (entry_of s.tables d) has' in
      let within : d.0 < length a = (let lt = declared d has' in omega (arith, lt, le)) in
      subst (λ z. PlacesCells s k a b cell z n) (sym one.1)
      (record {
        as_long = p.as_long;
        counted = omega (arith, en);
        here = λ x is.
            ⊎_elim
            (λ (same : d.0 ≡ x.0).
            let t : (d.0 == x.0) ≡ true = eq-eqb d.0 x.0 same in
            ap (λ z. joined (slice_get b z)) (sym same) ∙ p.here within (same_block d x same ∙ is) ∙ ap (λ z. option_or (joined (slice_get a z)) (Some cell)) same ∙ ap (λ z. option_or (slot_at a x) (if z then Some cell else None)) (sym t))
            (λ apart.
            let f : (d.0 == x.0) ≡ false = not_same d.0 x.0 apart in
            p.others x (λ e. apart (sym e)) ∙ or_none (slot_at a x) ∙ ap (λ z. option_or (slot_at a x) (if z then Some cell else None)) (sym f))
            (cases_eq d.0 x.0);
        elsewhere = λ x other.
            ⊎_elim
            (λ (same : d.0 ≡ x.0). ap (λ z. slot_at z x) (p.elsewhere (λ e. other (sym (same_block d x same) ∙ e))))
            (λ apart. p.others x (λ e. apart (sym e)))
            (cases_eq d.0 x.0);
      })

  pub place_nothing : (a : List (Option ℕ)) (d : DeclNo) (e : Option Entry) (cell : ℕ) → e ≡ entry_of s.tables d → has_cell e ≡ false → Places s k a a cell (cell_alone s d) cell
  place_nothing a d e cell ee has = places_as a a cell cell [] (cell_alone s d) (sym (no_cell d (entry_of s.tables d) (ap has_cell (sym ee) ∙ has))) (places_none a cell)

  pub owes_places_all : (a : List (Option ℕ)) (n : ℕ) (ds : List DeclNo) → OwesPlaces s k a n ds a n 0
  unfolding OwesPlaces
  owes_places_all a n ds new end h = h

  pub owes_places_next : (a b c : List (Option ℕ)) (n m o i : ℕ) (ds : List DeclNo) (d : DeclNo) → OwesPlaces s k a n ds b m i → i < length ds → d ≡ slice_index_or ds i d → Places s k b c m (cell_alone s d) o → OwesPlaces s k a n ds c o (i + 1)
  unfolding OwesPlaces
  owes_places_next a b c n m o i ds d owes le is one new end rest =
      let from : drop i ds ≡ d ∷ drop (i + 1) ds = drop_more ds i d le ∙ ap (λ y. y ∷ drop (i + 1) ds) (sym is) in
      owes new end (places_as b new m end (cell_alone s d ++ cells_from s (drop (i + 1) ds)) (cells_from s (drop i ds)) (sym (more_cells d (entry_of s.tables d) (cells_from s (drop (i + 1) ds))) ∙ ap (cells_from s) (sym from))
      (places_then b c new m o end (cell_alone s d) (cells_from s (drop (i + 1) ds)) one rest))

  pub owes_places_end : (a b : List (Option ℕ)) (n m i : ℕ) (ds : List DeclNo) → OwesPlaces s k a n ds b m i → length ds ≤ i → Places s k a b n (cells_from s ds) m
  unfolding OwesPlaces
  owes_places_end a b n m i ds owes le = owes b m (places_as b b m m [] (cells_from s (drop i ds)) (ap (cells_from s) (sym (drop_all i ds le))) (places_none b m))

  -- ---- one text

  block_cells : (z : BlockSyntax) → cells_from s (numbers_of s k) ≡ own_cells s k (block_text z)
  unfolding first_cells
  block_cells (Begin i ds ss e) = refl

  prefixed_cells : (p : Prefix) (z : BlockSyntax) → cells_from s (numbers_of s k) ≡ own_cells s k (prefixed_text p z)
  prefixed_cells p (Begin i ds ss e) = refl

  pub place_block : (a b : List (Option ℕ)) (n : ℕ) (ns : List DeclNo) (x : TextTree) (r : Bor Block) → x ≡ tree.Block r → ns ≡ numbers_of s k → Places s k a b 0 (cells_from s ns) n → Places s k a b 0 (own_cells s k (text_in x)) n
  place_block a b n ns x r is en f = places_as a b 0 n (cells_from s ns) (own_cells s k (text_in x)) (ap (cells_from s) en ∙ block_cells (block_syntax r.now) ∙ ap (λ z. own_cells s k (text_in z)) (sym is)) f

  procedure_cells : (r : Option TypeName) (h : Heading) (a : Statement) → with_result r (cells_from s (numbers_of s k)) ≡ own_cells s k (ProcedureText r h a)
  unfolding first_cells
  procedure_cells r h a = refl

  -- the result comes first, and no declaration has its cell
  result_first : (a b : List (Option ℕ)) (n : ℕ) (type : TypeName) (hs : List Held) → Places s k a b 1 hs n → Places s k a b 0 (with_result (Some type) hs) n
  unfolding Places
  result_first a b n type hs f le =
      let x = f le in
      let en = x.counted in
      record { as_long = x.as_long; counted = omega (arith, en); here = λ d is. x.here d is; elsewhere = λ d other. x.elsewhere d other }

  pub place_result : (a b : List (Option ℕ)) (n : ℕ) (ns : List DeclNo) (x : TextTree) (r : Bor (Option TypeName)) (q : Bor Procedure) (type : TypeName) → x ≡ tree.Procedure r q → r.now ≡ Some type → ns ≡ numbers_of s k → Places s k a b 1 (cells_from s ns) n → Places s k a b 0 (own_cells s k (text_in x)) n
  place_result a b n ns x r q type is some en f =
      let all = result_first a b n type (cells_from s (numbers_of s k)) (places_as_from a b n (cells_from s ns) (cells_from s (numbers_of s k)) (ap (cells_from s) en) f) in
      places_as a b 0 n (with_result (Some type) (cells_from s (numbers_of s k))) (own_cells s k (text_in x))
      (ap (λ z. with_result z (cells_from s (numbers_of s k))) (sym some) ∙ procedure_cells r.now _ _ ∙ ap (λ z. own_cells s k (text_in z)) (sym is)) all
    where
      places_as_from : (a b : List (Option ℕ)) (n : ℕ) (hs more : List Held) → hs ≡ more → Places s k a b 1 hs n → Places s k a b 1 more n
      places_as_from a b n hs more e f = places_as a b 1 n hs more e f

  pub place_plain : (a b : List (Option ℕ)) (n : ℕ) (ns : List DeclNo) (x : TextTree) (r : Bor (Option TypeName)) (q : Bor Procedure) → x ≡ tree.Procedure r q → r.now ≡ None → ns ≡ numbers_of s k → Places s k a b 0 (cells_from s ns) n → Places s k a b 0 (own_cells s k (text_in x)) n
  place_plain a b n ns x r q is none en f =
      places_as a b 0 n (cells_from s ns) (own_cells s k (text_in x))
      (ap (cells_from s) en ∙ ap (λ z. with_result z (cells_from s (numbers_of s k))) (sym none) ∙ procedure_cells r.now _ _ ∙ ap (λ z. own_cells s k (text_in z)) (sym is)) f

  class_cells : (prefix : Option Identifier) (h : Heading) (z : BlockSyntax) → cells_from s (numbers_of s k) ≡ own_cells s k (class_text prefix h z)
  class_cells prefix h (Begin i ds ss e) = refl

  statement_cells : (prefix : Option Identifier) (h : Heading) (a : Statement) → cells_from s (numbers_of s k) ≡ own_cells s k (ClassText prefix h NoDeclaration (Also a NoStatement))
  statement_cells prefix h a = refl

  connection_cells : [] ≡ own_cells s k ConnectionText
  unfolding first_cells
  connection_cells = refl

  standard_cells : (which : StandardClass) → cells_from s (numbers_of s k) ≡ own_cells s k (StandardText which)
  standard_cells which = refl

  pub place_class : (a c : List (Option ℕ)) (n : ℕ) (ns : List DeclNo) (x : TextTree) (r : Bor (Option Identifier)) (q : Bor Class) (z : Bor Block) → x ≡ tree.Class r q z → ns ≡ numbers_of s k → Places s k a c 0 (cells_from s ns) n → Places s k a c 0 (own_cells s k (text_in x)) n
  place_class a c n ns x r q z is en f = places_as a c 0 n (cells_from s ns) (own_cells s k (text_in x)) (ap (cells_from s) en ∙ class_cells r.now (heading_of q.now) (block_syntax z.now) ∙ ap (λ z. own_cells s k (text_in z)) (sym is)) f

  pub place_class_of_statement : (a c : List (Option ℕ)) (n : ℕ) (ns : List DeclNo) (x : TextTree) (r : Bor (Option Identifier)) (q : Bor Class) → x ≡ tree.ClassOfStatement r q → ns ≡ numbers_of s k → Places s k a c 0 (cells_from s ns) n → Places s k a c 0 (own_cells s k (text_in x)) n
  place_class_of_statement a c n ns x r q is en f = places_as a c 0 n (cells_from s ns) (own_cells s k (text_in x)) (ap (cells_from s) en ∙ statement_cells r.now (heading_of q.now) (statement_syntax q.now.body.value) ∙ ap (λ z. own_cells s k (text_in z)) (sym is)) f

  pub place_prefixed : (a c : List (Option ℕ)) (n : ℕ) (ns : List DeclNo) (x : TextTree) (p : Bor BlockPrefix) (q : Bor Block) → x ≡ tree.Prefixed p q → ns ≡ numbers_of s k → Places s k a c 0 (cells_from s ns) n → Places s k a c 0 (own_cells s k (text_in x)) n
  place_prefixed a c n ns x p q is en f = places_as a c 0 n (cells_from s ns) (own_cells s k (text_in x)) (ap (cells_from s) en ∙ prefixed_cells (prefix_syntax p.now) (block_syntax q.now) ∙ ap (λ z. own_cells s k (text_in z)) (sym is)) f

  pub place_connection : (a : List (Option ℕ)) (x : TextTree) → x ≡ tree.Connection → Places s k a a 0 (own_cells s k (text_in x)) 0
  place_connection a x is = places_as a a 0 0 [] (own_cells s k (text_in x)) (connection_cells ∙ ap (λ z. own_cells s k (text_in z)) (sym is)) (places_none a 0)

  pub place_standard : (a c : List (Option ℕ)) (n : ℕ) (ns : List DeclNo) (x : TextTree) (which : StandardClass) → x ≡ tree.Standard which → ns ≡ numbers_of s k → Places s k a c 0 (cells_from s ns) n → Places s k a c 0 (own_cells s k (text_in x)) n
  place_standard a c n ns x which is en f = places_as a c 0 n (cells_from s ns) (own_cells s k (text_in x)) (ap (cells_from s) en ∙ standard_cells which ∙ ap (λ z. own_cells s k (text_in z)) (sym is)) f

pub place_one_of : (b : Bound) (k : ℕ) (a c : List (Option ℕ)) (d : DeclNo) (e : Option Entry) (cell n : ℕ) (u : Bool) → e ≡ entry_of b.scopes d → u ≡ has_cell e → u ≡ true → IsPlaced (source_of b) k a c d cell → n ≡ suc cell → Places (source_of b) k a c cell (cell_alone (source_of b) d) n
unfolding source_of
place_one_of b k a c d e cell n u ee eu is p en = place_one (source_of b) k a c d e cell n ee (sym eu ∙ is) p en

pub place_nothing_of : (b : Bound) (k : ℕ) (a : List (Option ℕ)) (d : DeclNo) (e : Option Entry) (cell : ℕ) (u : Bool) → e ≡ entry_of b.scopes d → u ≡ has_cell e → u ≡ false → Places (source_of b) k a a cell (cell_alone (source_of b) d) cell
unfolding source_of
place_nothing_of b k a d e cell u ee eu is = place_nothing (source_of b) k a d e cell ee (sym eu ∙ is)

-- ---- all texts

pub text_at : (b : Bound) (ts : List TextTree) (k : ℕ) → AreTexts b.program ts → text (source_of b) k ≡ option_map text_in (slice_get ts k)
unfolding AreTexts text source_of
text_at b ts k are = ap (λ z. slice_get z k) (sym are) ∙ get_map text_in ts k

pub placed_first : (b : Bound) (ts : List TextTree) (a : List (Option ℕ)) → PlacedTo b ts a a [] 0
unfolding PlacedTo source_of
placed_first b ts a are e = record {
  as_long = ap length e ∙ replicate_length (length b.scopes.declarations) None;
  many = refl;
  filled = λ d le. absurd (omega (arith, le));
  free = λ d _. ap (λ z. slot_at z d) e ∙ replicate_at (length b.scopes.declarations) d.0;
  known = λ j le. absurd (omega (arith, le));
}

one_text : (s : Source) (slots slots' : List (Option ℕ)) (counts counts' : List ℕ) (i n : ℕ) (x : Text) → FilledTo s slots counts i → text s i ≡ Some x → Places s i slots slots' 0 (own_cells s i x) n → counts' ≡ counts ++ (n ∷ []) → FilledTo s slots' counts' (i + 1)
unfolding Places place_in
one_text s slots slots' counts counts' i n x f is p e =
    let q = p f.as_long in
    let many = f.many in
    let cells : own_cells s i x ≡ cells_in s i (text s i) = ap (cells_in s i) (sym is) in
    let count : n ≡ length (cells_in s i (text s i)) = q.counted ∙ zero_plus (length (own_cells s i x)) ∙ ap length cells in
    record {
      as_long = q.as_long ∙ f.as_long;
      many = ap length e ∙ length-append counts (n ∷ []) ∙ (let t : length counts + length (n ∷ []) ≡ i + 1 = omega (arith, many) in t);
      filled = λ d le.
          ⊎_elim
          (λ same. q.here d same ∙ ap (λ z. option_or z (place_from 0 (Declared d.0) (own_cells s i x))) (f.free d (omega (arith, same))) ∙ ap (place_from 0 (Declared d.0)) cells ∙ ap (λ z. place_from 0 (Declared d.0) (cells_in s z (text s z))) (sym same))
          (λ other. q.elsewhere d other ∙ f.filled d (omega (arith, le, other)))
          (cases_eq (block_of s d) i);
      free = λ d le. q.elsewhere d (λ same. absurd (omega (arith, le, same))) ∙ f.free d (omega (arith, le));
      known = λ j le.
          ⊎_elim
          (λ same. ap (λ z. slice_get z j) e ∙ ap (slice_get (counts ++ (n ∷ []))) (same ∙ sym many) ∙ get_last counts n ∙ ap Some (count ∙ ap (λ z. length (cells_in s z (text s z))) (sym same)))
          (λ other. ap (λ z. slice_get z j) e ∙ get_first counts (n ∷ []) j (omega (arith, le, other, many)) ∙ f.known j (omega (arith, le, other)))
          (cases_eq j i);
    }
  where
    zero_plus : (m : ℕ) → 0 + m ≡ m
    zero_plus m = omega arith

pub placed_next : (b : Bound) (ts : List TextTree) (a slots slots' : List (Option ℕ)) (counts counts' : List ℕ) (i m n : ℕ) (x : TextTree) → PlacedTo b ts a slots counts i → i < length ts → x ≡ slice_index_or ts i x → m ≡ i → Places (source_of b) m slots slots' 0 (own_cells (source_of b) m (text_in x)) n → counts' ≡ counts ++ (n ∷ []) → PlacedTo b ts a slots' counts' (i + 1)
unfolding PlacedTo
placed_next b ts a slots slots' counts counts' i m n x f le is em p e are ea =
    let s = source_of b in
    let there : text s i ≡ Some (text_in x) = text_at b ts i are ∙ ap (option_map text_in) (get_at ts i x le) ∙ ap (λ z. Some (text_in z)) (sym is) in
    one_text s slots slots' counts counts' i n (text_in x) (f are ea) there (subst (λ z. Places s z slots slots' 0 (own_cells s z (text_in x)) n) em p) e

pub placed_end : (b : Bound) (ts : List TextTree) (a slots : List (Option ℕ)) (counts : List ℕ) (i : ℕ) → PlacedTo b ts a slots counts i → i ≤ length ts → length ts ≤ i → PlacedTo b ts a slots counts (length ts)
placed_end b ts a slots counts i f lo hi = let e : i ≡ length ts = omega (arith, lo, hi) in subst (PlacedTo b ts a slots counts) e f

-- ---- what the tables say in the end

pub slots_known : (b : Bound) (ts : List TextTree) (slots : List (Option ℕ)) (counts : List ℕ) → AreTexts b.program ts → FilledTo (source_of b) slots counts (length ts) → (d : DeclNo) → joined (slice_get slots d.0) ≡ place_in (source_of b) (block_of (source_of b) d) (Declared d.0)
unfolding place_in
slots_known b ts slots counts are f d =
    ⊎_elim (λ le. f.filled d le) (λ le. f.free d le ∙ ap (λ z. place_from 0 (Declared d.0) (cells_in (source_of b) (block_of (source_of b) d) z)) (sym (text_at b ts (block_of (source_of b) d) are ∙ ap (option_map text_in) (get_past ts (block_of (source_of b) d) le)))) (less (block_of (source_of b) d) (length ts))

pub counts_known : (b : Bound) (ts : List TextTree) (slots : List (Option ℕ)) (counts : List ℕ) → AreTexts b.program ts → FilledTo (source_of b) slots counts (length ts) → (k : ℕ) → number_or 0 (slice_get counts k) ≡ length (cells_in (source_of b) k (text (source_of b) k))
counts_known b ts slots counts are f k =
    ⊎_elim
    (λ le. ap (number_or 0) (f.known k le))
    (λ le. ap (number_or 0) (get_past counts k (let many = f.many in omega (arith, le, many))) ∙ ap (λ z. length (cells_in (source_of b) k z)) (sym (text_at b ts k are ∙ ap (option_map text_in) (get_past ts k le))))
    (less k (length ts))

result_of : (x : TextTree) → is_result x ≡ has_result (Some (text_in x))
result_of (tree.Block r) = block (block_syntax r.now)
  where
    block : (z : BlockSyntax) → false ≡ has_result (Some (block_text z))
    block (Begin i ds ss e) = refl
result_of (tree.Procedure r q) = cases r.now _ _
  where
    cases : (o : Option TypeName) (h : Heading) (a : Statement) → is_some o ≡ has_result (Some (ProcedureText o h a))
    cases None h a = refl
    cases (Some type) h a = refl
result_of (tree.Class r q z) = block (block_syntax z.now)
  where
    block : (z : BlockSyntax) → false ≡ has_result (Some (class_text r.now (heading_of q.now) z))
    block (Begin i ds ss e) = refl
result_of (tree.Prefixed p r) = block (block_syntax r.now)
  where
    block : (z : BlockSyntax) → false ≡ has_result (Some (prefixed_text (prefix_syntax p.now) z))
    block (Begin i ds ss e) = refl
result_of _ = refl

pub results_known : (b : Bound) (ts : List TextTree) (results : List Bool) → AreTexts b.program ts → results ≡ map is_result ts → (k : ℕ) → truth_or_false (slice_get results k) ≡ has_result (text (source_of b) k)
results_known b ts results are e k = ap (λ z. truth_or_false (slice_get z k)) e ∙ ap truth_or_false (get_map is_result ts k) ∙ cases (slice_get ts k) ∙ ap has_result (sym (text_at b ts k are))
  where
    cases : (o : Option TextTree) → truth_or_false (option_map is_result o) ≡ has_result (option_map text_in o)
    cases None = refl
    cases (Some x) = result_of x

class_of_text : (x : TextTree) → is_class_tree x ≡ is_class (Some (text_in x))
class_of_text (tree.Block r) = block (block_syntax r.now)
  where
    block : (z : BlockSyntax) → false ≡ is_class (Some (block_text z))
    block (Begin i ds ss e) = refl
class_of_text (tree.Procedure r q) = refl
class_of_text (tree.Class r q z) = block (block_syntax z.now)
  where
    block : (z : BlockSyntax) → true ≡ is_class (Some (class_text r.now (heading_of q.now) z))
    block (Begin i ds ss e) = refl
class_of_text (tree.ClassOfStatement r q) = refl
class_of_text (tree.Prefixed p r) = block (block_syntax r.now)
  where
    block : (z : BlockSyntax) → false ≡ is_class (Some (prefixed_text (prefix_syntax p.now) z))
    block (Begin i ds ss e) = refl
class_of_text tree.Connection = refl
class_of_text (tree.Standard which) = refl

pub classes_known : (b : Bound) (ts : List TextTree) (classes : List Bool) → AreTexts b.program ts → classes ≡ map is_class_tree ts → (k : ℕ) → truth_or_false (slice_get classes k) ≡ is_class (text (source_of b) k)
classes_known b ts classes are e k = ap (λ z. truth_or_false (slice_get z k)) e ∙ ap truth_or_false (get_map is_class_tree ts k) ∙ cases (slice_get ts k) ∙ ap is_class (sym (text_at b ts k are))
  where
    cases : (o : Option TextTree) → truth_or_false (option_map is_class_tree o) ≡ is_class (option_map text_in o)
    cases None = refl
    cases (Some x) = class_of_text x

connection_of_text : (x : TextTree) → is_connection_tree x ≡ is_connection (Some (text_in x))
connection_of_text (tree.Block r) = block (block_syntax r.now)
  where
    block : (z : BlockSyntax) → false ≡ is_connection (Some (block_text z))
    block (Begin i ds ss e) = refl
connection_of_text (tree.Procedure r q) = refl
connection_of_text (tree.Class r q z) = block (block_syntax z.now)
  where
    block : (z : BlockSyntax) → false ≡ is_connection (Some (class_text r.now (heading_of q.now) z))
    block (Begin i ds ss e) = refl
connection_of_text (tree.ClassOfStatement r q) = refl
connection_of_text (tree.Prefixed p r) = block (block_syntax r.now)
  where
    block : (z : BlockSyntax) → false ≡ is_connection (Some (prefixed_text (prefix_syntax p.now) z))
    block (Begin i ds ss e) = refl
connection_of_text tree.Connection = refl
connection_of_text (tree.Standard which) = refl

pub connections_known : (b : Bound) (ts : List TextTree) (connections : List Bool) → AreTexts b.program ts → connections ≡ map is_connection_tree ts → (k : ℕ) → truth_or_false (slice_get connections k) ≡ is_connection (text (source_of b) k)
connections_known b ts connections are e k = ap (λ z. truth_or_false (slice_get z k)) e ∙ ap truth_or_false (get_map is_connection_tree ts k) ∙ cases (slice_get ts k) ∙ ap is_connection (sym (text_at b ts k are))
  where
    cases : (o : Option TextTree) → truth_or_false (option_map is_connection_tree o) ≡ is_connection (option_map text_in o)
    cases None = refl
    cases (Some x) = connection_of_text x

process_of_text : (x : TextTree) → is_process_tree x ≡ is_standard_text is_process_class (Some (text_in x))
process_of_text (tree.Block r) = block (block_syntax r.now)
  where
    block : (z : BlockSyntax) → false ≡ is_standard_text is_process_class (Some (block_text z))
    block (Begin i ds ss e) = refl
process_of_text (tree.Procedure r q) = refl
process_of_text (tree.Class r q z) = block (block_syntax z.now)
  where
    block : (z : BlockSyntax) → false ≡ is_standard_text is_process_class (Some (class_text r.now (heading_of q.now) z))
    block (Begin i ds ss e) = refl
process_of_text (tree.ClassOfStatement r q) = refl
process_of_text (tree.Prefixed p r) = block (block_syntax r.now)
  where
    block : (z : BlockSyntax) → false ≡ is_standard_text is_process_class (Some (prefixed_text (prefix_syntax p.now) z))
    block (Begin i ds ss e) = refl
process_of_text tree.Connection = refl
process_of_text (tree.Standard standard.Linkage) = refl
process_of_text (tree.Standard standard.Link) = refl
process_of_text (tree.Standard standard.Head) = refl
process_of_text (tree.Standard standard.Process) = refl

pub processes_known : (b : Bound) (ts : List TextTree) (processes : List Bool) → AreTexts b.program ts → processes ≡ map is_process_tree ts → (k : ℕ) → truth_or_false (slice_get processes k) ≡ is_process_itself (source_of b) k
unfolding is_process_itself
processes_known b ts processes are e k = ap (λ z. truth_or_false (slice_get z k)) e ∙ ap truth_or_false (get_map is_process_tree ts k) ∙ cases (slice_get ts k) ∙ ap (is_standard_text is_process_class) (sym (text_at b ts k are))
  where
    cases : (o : Option TextTree) → truth_or_false (option_map is_process_tree o) ≡ is_standard_text is_process_class (option_map text_in o)
    cases None = refl
    cases (Some x) = process_of_text x

pub ruleset placing = (pass_all, pass_next, pass_end, placed_outside, placed_before, placed_beyond, placed_now, owes_places_all, place_block, place_result, place_plain, place_class, place_prefixed, place_connection, place_class_of_statement, place_standard, placed_first, placed_next, placed_end)
