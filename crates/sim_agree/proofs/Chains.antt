-- The prefixes of the classes of an allowed program: each chain comes to an end, and what is around a class is, or has for a prefix, what is
-- around its prefix.
use Rattle.std.proofs.Common.{◌≡◌, ◌<◌, ◌≤◌, ◌+◌, ◌⊎◌, inl, inr, ℕ, zero, suc, Bool, true, false, List, [], ◌∷◌, ◌++◌, length, Option, Some, None, refl, sym, ap, ◌∙◌, subst, arith}
use Rattle.std.specs.Prelude.{◌||◌, nat_eq, slice_get}
use Rattle.std.specs.List.{AllByRecursion, IsDistinct, list_any}
use Rattle.std.proofs.lemmas.Bool.Decides.{nat_tests}
use Rattle.std.proofs.lemmas.Map.Steps.{length-le_from_distinct_below}
use Rattle.std.proofs.lemmas.Option.{slice_get_within}
use Rattle.sim_base.specs.declared.numbering.DeclNo.{DeclNo}
use Rattle.sim_base.specs.declared.rule.Rule.{Rule}
use Rattle.sim_base.specs.declared.rule.Rule.TheVariants as r
use Rattle.sim_agree.specs.Order.{InOrder}
use Rattle.sim_scope.specs.declared.found.Fault.{Fault}
use Rattle.sim_scope.specs.declared.scopes.Declaration.{Declaration}
use Rattle.sim_scope.specs.declared.types.Entry.TheVariants as entry
use Rattle.sim_scope.specs.declared.types.StandardPrefix.{StandardPrefix}
use Rattle.sim_scope.specs.Access.{around, encloser, is_connection as is_connection_kind, is_kind, is_so}
use Rattle.sim_scope.specs.Declare.{declared_by}
use Rattle.sim_scope.specs.Levels.{base, base_in, has_level, holds, some_level_of, owner_of_level}
use Rattle.sim_scope.specs.Runs.{each}
use Rattle.sim_scope.specs.Scopes.{entry_of}
use Rattle.sim_scope.specs.Source.{Source}
use Rattle.sim_scope.specs.Tables.{BlockOf, Tables}
use Rattle.prefix_bind.specs.Prefixes.{block_faults, breaks_prefix, faults_of, is_in_own_chain, numbers_to, prefix_faults, prefix_token, prefixed, row_faults, where_true}
use Rattle.prefix_bind.proofs.Numbers.{each-append}
use Rattle.sim_meaning.specs.Attributes.{is_connection}
use Rattle.sim_meaning.specs.Entries.{numbers_of}
use Rattle.sim_meaning.specs.Levels.{has_levels, is_class}
use Rattle.sim_meaning.specs.Texts.{BlockText, ClassText, ConnectionText, PrefixedText, ProcedureText, StandardText, Text, text, program_texts}
use Rattle.sim_sound.specs.Held.{Among}
use Rattle.sim_sound.specs.Typed as typed
use Rattle.sim_sound.specs.Typed.{Ends, PrefixTyped, Prefixes, outermost, prefixed as prefixed_by, Home}
use Rattle.sim_agree.specs.TablesOf.{TablesOf}
use Rattle.sim_agree.proofs.ClassRows.{no_class_connection}
use Rattle.sim_agree.proofs.Completing.{bare_row, kind_in, prefixable_base}
use Rattle.sim_agree.proofs.Fine.{Fine, InGroup, owner_in}
use Rattle.sim_agree.proofs.StandardPrefixes.{InFront}
use Rattle.sim_agree.proofs.Owned.{OwnerIs}
use Rattle.sim_agree.proofs.StandardBlocks.{StandardBase, standard_base_of}
use Rattle.sim_scope.specs.Building.{place_of}
use Rattle.sim_agree.proofs.Headings as headings
use Rattle.sim_agree.proofs.Insides as i
use Rattle.sim_agree.proofs.Prefixing.{PrefixOf, Reaches, itself, through, HomeFrom, connected, stands}
use Rattle.sim_agree.proofs.Qualified.{no_least}
use Rattle.sim_agree.proofs.Tables as t
use Rattle.sim_agree.proofs.Retypes.{class_new}

-- so many levels lead from one block to another
data Path (T : Tables) : (steps from to : ℕ) → Type 0 where
  stop : {k : ℕ} → Path T 0 k k
  more : {n k b l : ℕ} → base T k ≡ Some b → Path T n b l → Path T (suc n) k l

same_number : (k : ℕ) → nat_eq k k ≡ true
same_number k = grind (arith, nat_tests)

or_true : (x y : Bool) → y ≡ true → (x || y) ≡ true
or_true true y e = refl
or_true false y e = e

apart : (c : ℕ) (xs : List ℕ) → list_any (nat_eq c) xs ≡ false → AllByRecursion (λ y. nat_eq c y ≡ false) xs
apart c [] e = tt
apart c (x ∷ xs) e = go (nat_eq c x) refl e (λ f. apart c xs f)
  where
    go : (z : Bool) → nat_eq c x ≡ z → (z || list_any (nat_eq c) xs) ≡ false → (list_any (nat_eq c) xs ≡ false → AllByRecursion (λ y. nat_eq c y ≡ false) xs) → AllByRecursion (λ y. nat_eq c y ≡ false) (x ∷ xs)
    go true is f rest = absurd (cc)
    go false is f rest = (is, rest f)

module _ (T : Tables) where
  path_last : (n k l b : ℕ) → Path T n k l → base T l ≡ Some b → Path T (suc n) k b
  path_last n k l b stop e = more e stop
  path_last n k l b (more {n = m} {b = c} f p) e = more f (path_last m c l b p e)

  path_level : (n m k l : ℕ) → Path T n k l → n < m → some_level_of T m (λ c. nat_eq c l) k ≡ true
  unfolding some_level_of
  path_level n zero k l p lt = absurd (omega arith)
  path_level n (suc m) k l stop lt = ap (λ z. z || holds (λ c. some_level_of T m (λ c. nat_eq c l) c) (base T k)) (same_number k)
  path_level n (suc m) k l (more {n = i} {b = c} e p) lt = or_true (nat_eq k l) _ (ap (holds (λ c. some_level_of T m (λ c. nat_eq c l) c)) e ∙ path_level i m c l p (omega arith))

  -- from each of these, one step more from each next one
  abbrev AllTo : ℕ → ℕ → List ℕ → Type 0
  AllTo l n [] = Unit {0}
  AllTo l n (x ∷ xs) = Path T n x l × AllTo l (suc n) xs

  all_next : (xs : List ℕ) (n l b : ℕ) → AllTo l n xs → base T l ≡ Some b → AllTo b (suc n) xs
  all_next [] n l b a e = tt
  all_next (x ∷ xs) n l b a e = (path_last n x l b a.0 e, all_next xs (suc n) l b a.1 e)

  in_cycle : (xs : List ℕ) (n l : ℕ) → AllTo l (suc n) xs → list_any (nat_eq l) xs ≡ true → n + length xs ≤ length T.blocks → is_in_own_chain T l ≡ true
  unfolding is_in_own_chain
  in_cycle [] n l a h le = absurd (cc)
  in_cycle (x ∷ xs) n l a h le = go (nat_eq l x) refl h (λ f. in_cycle xs (suc n) l a.1 f (omega (arith, le)))
    where
      size : length (x ∷ xs) ≡ suc (length xs)
      size = omega arith

      round : (m : ℕ) → Path T (suc m) l l → m < length T.blocks → holds (λ b. some_level_of T (length T.blocks) (λ c. nat_eq c l) b) (base T l) ≡ true
      round m (more {b = b} e p) lt = ap (holds (λ b. some_level_of T (length T.blocks) (λ c. nat_eq c l) b)) e ∙ path_level m (length T.blocks) b l p lt

      go : (z : Bool) → nat_eq l x ≡ z → (z || list_any (nat_eq l) xs) ≡ true → (list_any (nat_eq l) xs ≡ true → holds (λ b. some_level_of T (length T.blocks) (λ c. nat_eq c l) b) (base T l) ≡ true) → holds (λ b. some_level_of T (length T.blocks) (λ c. nat_eq c l) b) (base T l) ≡ true
      go true is f rest = let same : x ≡ l = grind (arith, nat_tests) in round n (subst (λ z. Path T (suc n) z l) same a.0) (omega (arith, le, size))
      go false is f rest = rest f

  module _ (below : (k b : ℕ) → base T k ≡ Some b → b < length T.blocks) (free : (k : ℕ) → is_in_own_chain T k ≡ false) where
    abbrev Walks : ℕ → Type 0
    Walks zero = Unit {0}
    Walks (suc n) = (c : ℕ) (s : List ℕ) → IsDistinct nat_eq (c ∷ s) → ((q : ℕ) → list_any (nat_eq q) (c ∷ s) ≡ true → q < length T.blocks) → AllTo c 0 (c ∷ s) → length T.blocks ≤ suc n + length s → Ends T (suc n) c

    one_step : (m k : ℕ) (seen : List ℕ) → IsDistinct nat_eq (k ∷ seen) → ((q : ℕ) → list_any (nat_eq q) (k ∷ seen) ≡ true → q < length T.blocks) → AllTo k 0 (k ∷ seen) → length T.blocks ≤ suc m + length seen → Walks m → Ends T (suc m) k
    unfolding IsDistinct
    one_step m k seen d b a le rest = go (base T k) refl
      where
        count : length (k ∷ seen) ≤ length T.blocks
        count = length-le_from_distinct_below (k ∷ seen) (length T.blocks) d b

        fresh : (c : ℕ) → base T k ≡ Some c → list_any (nat_eq c) (k ∷ seen) ≡ false
        fresh c e = pick (list_any (nat_eq c) (k ∷ seen)) refl
          where
            pick : (z : Bool) → list_any (nat_eq c) (k ∷ seen) ≡ z → list_any (nat_eq c) (k ∷ seen) ≡ false
            pick false is = is
            pick true is = absurd (let f : true ≡ false = sym (in_cycle (k ∷ seen) 0 c (all_next (k ∷ seen) 0 k c a e) is (omega (arith, count))) ∙ free c in cc)

        both_below : (c : ℕ) → base T k ≡ Some c → (q : ℕ) → list_any (nat_eq q) (c ∷ k ∷ seen) ≡ true → q < length T.blocks
        both_below c e q h = pick (nat_eq q c) refl h
          where
            pick : (z : Bool) → nat_eq q c ≡ z → (z || list_any (nat_eq q) (k ∷ seen)) ≡ true → q < length T.blocks
            pick true is f = let same : q ≡ c = grind (arith, nat_tests) in let lt : c < length T.blocks = below k c e in omega arith
            pick false is f = b q f

        further : (n c : ℕ) → base T k ≡ Some c → length T.blocks ≤ suc n + length seen → length (c ∷ k ∷ seen) ≤ length T.blocks → Walks n → Ends T n c
        further zero c e le most rest =
            absurd (let one : length (k ∷ seen) ≡ suc (length seen) = omega arith in let two : length (c ∷ k ∷ seen) ≡ suc (length (k ∷ seen)) = omega arith in omega (arith, le, most, one, two))
        further (suc n) c e le most rest =
            rest c (k ∷ seen) (apart c (k ∷ seen) (fresh c e), d) (both_below c e) (stop, all_next (k ∷ seen) 0 k c a e)
            (let one : length (k ∷ seen) ≡ suc (length seen) = omega arith in omega (arith, le, one))

        go : (o : Option ℕ) → base T k ≡ o → Ends T (suc m) k
        go None e = outermost e
        go (Some c) e = prefixed_by e (further m c e le (length-le_from_distinct_below (c ∷ k ∷ seen) (length T.blocks) (apart c (k ∷ seen) (fresh c e), d) (both_below c e)) rest)

    walk : (m k : ℕ) (seen : List ℕ) → IsDistinct nat_eq (k ∷ seen) → ((q : ℕ) → list_any (nat_eq q) (k ∷ seen) ≡ true → q < length T.blocks) → AllTo k 0 (k ∷ seen) → length T.blocks ≤ suc m + length seen → Ends T (suc m) k
    walk zero k seen d b a le = one_step zero k seen d b a le tt
    walk (suc m) k seen d b a le = one_step (suc m) k seen d b a le (λ c s x y z w. walk m c s x y z w)

    chain_ends : (n : ℕ) → length T.blocks ≡ suc n → (k : ℕ) → Ends T (length T.blocks) k
    unfolding base IsDistinct
    chain_ends n size k = subst (λ z. Ends T z k) (sym size) (go (slice_get T.blocks k) refl)
      where
        one_below : (row : BlockOf) → slice_get T.blocks k ≡ Some row → (q : ℕ) → list_any (nat_eq q) (k ∷ []) ≡ true → q < length T.blocks
        one_below row at q h = pick (nat_eq q k) refl h
          where
            pick : (z : Bool) → nat_eq q k ≡ z → (z || false) ≡ true → q < length T.blocks
            pick true is f = let same : q ≡ k = grind (arith, nat_tests) in let lt : k < length T.blocks = slice_get_within T.blocks k row at in omega arith
            pick false is f = absurd (cc)

        go : (o : Option BlockOf) → slice_get T.blocks k ≡ o → Ends T (suc n) k
        go None at = outermost (ap base_in at)
        go (Some row) at = walk n k [] (tt, tt) (one_below row at) (stop, tt) (omega (arith, size))

  -- a chain that ends passes each level that it reaches
  pub reaches_level : (n k l : ℕ) → Ends T n k → Reaches T k l → some_level_of T n (λ c. nat_eq c l) k ≡ true
  unfolding some_level_of
  reaches_level n k l (outermost {n = m} e) itself = ap (λ z. z || holds (λ c. some_level_of T m (λ c. nat_eq c l) c) (base T k)) (same_number k)
  reaches_level n k l (prefixed_by {n = m} e ends) itself = ap (λ z. z || holds (λ c. some_level_of T m (λ c. nat_eq c l) c) (base T k)) (same_number k)
  reaches_level n k l (outermost {n = m} e) (through {b = b} f p) = absurd (let g : None ≡ Some b = sym e ∙ f in cc)
  reaches_level n k l (prefixed_by {n = m} {b = c} e ends) (through {b = b} f p) =
      let same : c ≡ b = cc in
      or_true (nat_eq k l) _ (ap (holds (λ c. some_level_of T m (λ c. nat_eq c l) c)) f ∙ reaches_level m b l (subst (Ends T m) same ends) p)

-- ---- no rule on prefixes is broken

both_none : (xs ys : List Fault) → xs ++ ys ≡ [] → (xs ≡ []) × (ys ≡ [])
both_none [] ys e = (refl, e)
both_none (x ∷ xs) ys e = absurd (cc)

all_none : (f : ℕ → List Fault) (n : ℕ) → each f (numbers_to n) ≡ [] → (k : ℕ) → k < n → f k ≡ []
all_none f zero e k lt = absurd (omega arith)
all_none f (suc n) e k lt = go (nat_eq k n) refl (λ l. all_none f n (both_none (each f (numbers_to n)) (f n ++ []) (sym (each-append f (numbers_to n) (n ∷ [])) ∙ e)).0 k l)
  where
    parts : (each f (numbers_to n) ≡ []) × (f n ++ [] ≡ [])
    parts = both_none (each f (numbers_to n)) (f n ++ []) (sym (each-append f (numbers_to n) (n ∷ [])) ∙ e)

    go : (z : Bool) → nat_eq k n ≡ z → (k < n → f k ≡ []) → f k ≡ []
    go true is rest = let same : k ≡ n = grind (arith, nat_tests) in subst (λ m. f m ≡ []) (sym same) (both_none (f n) [] parts.1).0
    go false is rest = rest (let P : k < n = grind (arith, nat_tests) in P)

-- a prefix that is written is known
pub prefix_known : (T : Tables) → prefix_faults T ≡ [] → (k : ℕ) (row : BlockOf) → slice_get T.blocks k ≡ Some row → breaks_prefix T row row.prefix ≡ false
unfolding prefix_faults faults_of row_faults
prefix_known T e k row at =
    let h : row_faults T k row ≡ [] = subst (λ o. block_faults T k o ≡ []) at (all_none (faults_of T) (length T.blocks) e k (slice_get_within T.blocks k row at)) in
    none_written (breaks_prefix T row row.prefix) (prefix_token row.prefix) r.PrefixIsNoClass (both_none (where_true (breaks_prefix T row row.prefix) (prefix_token row.prefix) r.PrefixIsNoClass) _ h).0
  where
    none_written : (c : Bool) (token : ℕ) (rule : Rule) → where_true c token rule ≡ [] → c ≡ false
    none_written true token rule f = absurd (cc)
    none_written false token rule f = refl

own_free : (T : Tables) → prefix_faults T ≡ [] → (k : ℕ) → is_in_own_chain T k ≡ false
unfolding prefix_faults faults_of row_faults is_in_own_chain base
own_free T e k = go (slice_get T.blocks k) refl
  where
    none_written : (c : Bool) (token : ℕ) (rule : Rule) → where_true c token rule ≡ [] → c ≡ false
    none_written true token rule f = absurd (cc)
    none_written false token rule f = refl

    no_base : slice_get T.blocks k ≡ None → is_in_own_chain T k ≡ false
    no_base at = ap (λ o. holds (λ b. some_level_of T (length T.blocks) (λ c. nat_eq c k) b) (base_in o)) at

    go : (o : Option BlockOf) → slice_get T.blocks k ≡ o → is_in_own_chain T k ≡ false
    go None at = no_base at
    go (Some row) at =
        let h : row_faults T k row ≡ [] = subst (λ o. block_faults T k o ≡ []) at (all_none (faults_of T) (length T.blocks) e k (slice_get_within T.blocks k row at)) in
        let a = both_none (where_true (breaks_prefix T row row.prefix) (prefix_token row.prefix) r.PrefixIsNoClass) _ h in
        none_written (is_in_own_chain T k) row.first r.ClassInItsOwnChain (both_none (where_true (is_in_own_chain T k) row.first r.ClassInItsOwnChain) _ a.1).0

-- ---- the tables of a program

module _ (s : Source) (of : TablesOf s) (order : InOrder s.program) where
  free : (k : ℕ) → is_in_own_chain (prefixed (declared_by s.program).tables) k ≡ false
  free k = own_free (prefixed (declared_by s.program).tables) (no_least (prefix_faults (prefixed (declared_by s.program).tables)) of.prefixes) k

  below : (k b : ℕ) → base (prefixed (declared_by s.program).tables) k ≡ Some b → b < length (prefixed (declared_by s.program).tables).blocks
  unfolding base
  below k b e = let size : length (prefixed (declared_by s.program).tables).blocks ≡ length (declared_by s.program).tables.blocks = (t.P s of order).size in subst (λ m. b < m) (sym size) (go ((t.P s of order).bases k b e))
    where
      within : {u : ℕ} (o : Option BlockOf) → slice_get (declared_by s.program).tables.blocks b ≡ o → around o ≡ Some u → b < length (declared_by s.program).tables.blocks
      within None at f = absurd (cc)
      within (Some row) at f = slice_get_within (declared_by s.program).tables.blocks b row at

      go : PrefixOf (declared_by s.program).tables (prefixed (declared_by s.program).tables) k b ⊎ (base (declared_by s.program).tables k ≡ Some b) → b < length (declared_by s.program).tables.blocks
      go (inl p) = let c = t.class_at s.program p.class b p.declares in within (slice_get (declared_by s.program).tables.blocks b) refl c.2
      go (inr was) =
          let fine = (t.program_agrees s.program).fine in
          let q = standard_base_of (declared_by s.program) (program_texts s.program.prefix s.program.block) [] fine k b was in
          let lt : b < length (program_texts s.program.prefix s.program.block) = slice_get_within (program_texts s.program.prefix s.program.block) b (StandardText q.2.above) q.2.above_text in
          subst (λ n. b < n) (sym fine.size) lt

  pub sizes : length s.tables.blocks ≡ length (prefixed (declared_by s.program).tables).blocks
  sizes = (t.completed_tables s of order).size ∙ sym (t.P s of order).size

  some_length : (n : ℕ) × (length (prefixed (declared_by s.program).tables).blocks ≡ suc n)
  some_length = go (length (prefixed (declared_by s.program).tables).blocks) refl
    where
      go : (m : ℕ) → length (prefixed (declared_by s.program).tables).blocks ≡ m → (n : ℕ) × (length (prefixed (declared_by s.program).tables).blocks ≡ suc n)
      go zero e = absurd (let lt : 0 < length s.tables.blocks = t.some_block s of order in omega (arith, lt, sizes, e))
      go (suc n) e = (n, e)

  ends_more : (n k : ℕ) → is_connection (text s k) ≡ false → Ends (prefixed (declared_by s.program).tables) n k → Ends s.tables n k
  ends_more n k other (outermost e) = outermost (t.own_base_of s of order k other ∙ e)
  ends_more n k other (prefixed_by {n = m} {b = b} e ends) =
      let f = t.base_stays s of order k b e in
      prefixed_by f (ends_more m b (no_class_connection (text s b) (t.connects s of order k b f)) ends)

  -- the levels of each block that is no connection come to an end
  pub ends : (k : ℕ) → is_connection (text s k) ≡ false → Ends s.tables (length s.tables.blocks) k
  ends k other =
      ends_more (length s.tables.blocks) k other
      (subst (λ z. Ends (prefixed (declared_by s.program).tables) z k) (sym sizes) (chain_ends (prefixed (declared_by s.program).tables) below free some_length.0 some_length.1 k))

  pub same_levels : (n : ℕ) (p : ℕ → Bool) (k : ℕ) → is_connection (text s k) ≡ false → some_level_of s.tables n p k ≡ some_level_of (prefixed (declared_by s.program).tables) n p k
  unfolding some_level_of
  same_levels zero p k other = refl
  same_levels (suc n) p k other = ap (λ z. p k || z) (go (base s.tables k) refl (λ b f. same_levels n p b f) ∙ ap (holds (λ b. some_level_of (prefixed (declared_by s.program).tables) n p b)) (t.own_base_of s of order k other))
    where
      go : (o : Option ℕ) → base s.tables k ≡ o → ((b : ℕ) → is_connection (text s b) ≡ false → some_level_of s.tables n p b ≡ some_level_of (prefixed (declared_by s.program).tables) n p b)
          → holds (λ b. some_level_of s.tables n p b) o ≡ holds (λ b. some_level_of (prefixed (declared_by s.program).tables) n p b) o
      go None e h = refl
      go (Some b) e h = h b (no_class_connection (text s b) (t.connects s of order k b e))

  -- no class is a level of its own prefix
  not_own : (k b : ℕ) → is_connection (text s k) ≡ false → base s.tables k ≡ Some b → has_level s.tables b k ≡ false
  unfolding has_level is_in_own_chain
  not_own k b other e =
      same_levels (length s.tables.blocks) (λ c. nat_eq c k) b (no_class_connection (text s b) (t.connects s of order k b e))
      ∙ ap (λ n. some_level_of (prefixed (declared_by s.program).tables) n (λ c. nat_eq c k) b) sizes
      ∙ ap (holds (λ c. some_level_of (prefixed (declared_by s.program).tables) (length (prefixed (declared_by s.program).tables).blocks) (λ d. nat_eq d k) c)) (sym (sym (t.own_base_of s of order k other) ∙ e))
      ∙ free k

  -- a level of what is no connection is none
  level_solid : (n b k : ℕ) → is_connection (text s b) ≡ false → some_level_of s.tables n (λ c. nat_eq c k) b ≡ true → is_connection (text s k) ≡ false
  unfolding some_level_of
  level_solid zero b k other e = absurd (cc)
  level_solid (suc n) b k other e = go (nat_eq b k) refl (base s.tables b) refl e (λ c solid f. level_solid n c k solid f)
    where
      go : (z : Bool) → nat_eq b k ≡ z → (o : Option ℕ) → base s.tables b ≡ o → (z || holds (λ c. some_level_of s.tables n (λ d. nat_eq d k) c) o) ≡ true
          → ((c : ℕ) → is_connection (text s c) ≡ false → some_level_of s.tables n (λ d. nat_eq d k) c ≡ true → is_connection (text s k) ≡ false) → is_connection (text s k) ≡ false
      go true is o up f rest = let same : b ≡ k = grind (arith, nat_tests) in subst (λ z. is_connection (text s z) ≡ false) same other
      go false is None up f rest = absurd (cc)
      go false is (Some c) up f rest = rest c (no_class_connection (text s c) (t.connects s of order b c up)) f

  own_apart : (k : ℕ) → is_in_own_chain s.tables k ≡ false
  unfolding has_level is_in_own_chain
  own_apart k = go (base s.tables k) refl
    where
      apart_from : (b : ℕ) → base s.tables k ≡ Some b → (c : Bool) → is_connection (text s k) ≡ c → (z : Bool) → some_level_of s.tables (length s.tables.blocks) (λ d. nat_eq d k) b ≡ z → some_level_of s.tables (length s.tables.blocks) (λ d. nat_eq d k) b ≡ false
      apart_from b up c is false e = e
      apart_from b up false is true e = not_own k b is up
      apart_from b up true is true e = absurd (let f : true ≡ false = sym is ∙ level_solid (length s.tables.blocks) b k (no_class_connection (text s b) (t.connects s of order k b up)) e in cc)

      go : (o : Option ℕ) → base s.tables k ≡ o → holds (λ b. some_level_of s.tables (length s.tables.blocks) (λ d. nat_eq d k) b) o ≡ false
      go None up = refl
      go (Some b) up = apart_from b up (is_connection (text s k)) refl (some_level_of s.tables (length s.tables.blocks) (λ d. nat_eq d k) b) refl

  next_within : (k b : ℕ) → base s.tables k ≡ Some b → b < length s.tables.blocks
  unfolding text
  next_within k b e = go (slice_get (program_texts s.program.prefix s.program.block) b) refl (t.connects s of order k b e)
    where
      go : (o : Option Text) → slice_get (program_texts s.program.prefix s.program.block) b ≡ o → is_class o ≡ true → b < length s.tables.blocks
      go None at f = absurd (cc)
      go (Some x) at f = subst (λ n. b < n) (sym (t.as_many s of order)) (slice_get_within (program_texts s.program.prefix s.program.block) b x at)

  -- so the levels of all blocks come to an end, also those of connections
  pub all_end : (k : ℕ) → Ends s.tables (length s.tables.blocks) k
  all_end k = chain_ends s.tables next_within own_apart some_length.0 (sizes ∙ some_length.1) k

  -- the declared tables have a connection where the text is one
  connection_is : (k : ℕ) → is_kind is_connection_kind (declared_by s.program).tables k ≡ is_connection (text s k)
  unfolding is_kind
  connection_is k = ap (is_so is_connection_kind) (sym (kind_bare (slice_get (declared_by s.program).tables.blocks k)) ∙ ap kind_in (sym ((t.completed_tables s of order).blocks k)) ∙ kind_bare (slice_get s.tables.blocks k)) ∙ i.connections s of order k
    where
      kind_bare : (o : Option BlockOf) → kind_in (bare_row o) ≡ kind_in o
      kind_bare None = refl
      kind_bare (Some row) = refl

  home_solid : (o : Option ℕ) (h : ℕ) → HomeFrom (declared_by s.program).tables o h → is_connection (text s h) ≡ false
  home_solid (Some u) h (stands other) = sym (connection_is h) ∙ other
  home_solid (Some u) h (connected is q) = home_solid (encloser (declared_by s.program).tables u) h q
  home_solid None h q = elim q [ ]

  home_typed : (k : ℕ) (o : Option ℕ) (h : ℕ) → encloser s.tables k ≡ o → HomeFrom (declared_by s.program).tables o h → Home s k h
  unfolding encloser
  home_typed k (Some u) h e (stands other) = typed.stands e (sym (connection_is h) ∙ other)
  home_typed k (Some u) h e (connected is q) = typed.connected e (sym (connection_is u) ∙ is) (home_typed u (encloser (declared_by s.program).tables u) h (t.same_around s of order u) q)
  home_typed k None h e q = elim q [ ]

  some_same : {A : Type 0} (a b : A) → Some a ≡ Some b → a ≡ b
  some_same a b e = cc

  -- of a prefix that is written
  written_typed : (k b : ℕ) → base s.tables k ≡ Some b → PrefixOf (declared_by s.program).tables s.tables k b → PrefixTyped s k b
  unfolding encloser has_level text
  written_typed k b e p = record {
    has = t.levels_there s of order k p.row p.at (prefixable_base p.row.kind p.kind);
    prefix = t.connects s of order k b e;
    outer = p.outer;
    outer_prefix = p.level;
    around = home_typed k p.row.encloser p.outer (t.same_around s of order k ∙ ap around p.at) p.around;
    around_prefix = t.same_around s of order b ∙ c.2 ∙ ap Some block;
    solid = solid_outer;
    declared = reaches_level s.tables (length s.tables.blocks) p.outer p.level (ends p.outer solid_outer) p.reaches;
  }
    where
      c : (row : Declaration) × (slice_get (declared_by s.program).tables.declarations p.class.0 ≡ Some row) × (around (slice_get (declared_by s.program).tables.blocks b) ≡ Some row.block)
      c = t.class_at s.program p.class b p.declares

      block : (c.0).block ≡ p.level
      block = ap (λ (z : Declaration). z.block) (some_same c.0 p.stands.0 (sym c.1 ∙ p.stands.1)) ∙ p.stands.2

      solid_outer : is_connection (text s p.outer) ≡ false
      solid_outer = home_solid p.row.encloser p.outer p.around

  -- a standard class and its prefix were brought together
  standard_typed : (k b : ℕ) → base s.tables k ≡ Some b → base (declared_by s.program).tables k ≡ Some b → PrefixTyped s k b
  unfolding base encloser has_level text
  standard_typed k b e was = record {
    has = ap has_levels q.2.text;
    prefix = t.connects s of order k b e;
    outer = g.block;
    outer_prefix = g.block;
    around = typed.stands (t.same_around s of order k ∙ there) solid_host;
    around_prefix = t.same_around s of order b ∙ ap (λ m. around (slice_get (declared_by s.program).tables.blocks m)) a.place ∙ a.group.around q.2.above a.is ∙ ap Some host_above;
    solid = solid_host;
    declared = reaches_level s.tables (length s.tables.blocks) g.block g.block (ends g.block solid_host) itself;
  }
    where
      fine : Fine (declared_by s.program) (program_texts s.program.prefix s.program.block) []
      fine = (t.program_agrees s.program).fine

      q : (row : BlockOf) × (slice_get (declared_by s.program).tables.blocks k ≡ Some row) × StandardBase (program_texts s.program.prefix s.program.block) k b row
      q = standard_base_of (declared_by s.program) (program_texts s.program.prefix s.program.block) [] fine k b was

      g : InGroup (declared_by s.program).tables.blocks (program_texts s.program.prefix s.program.block) k q.2.which
      g = fine.standards k q.2.which q.2.text

      a : InGroup (declared_by s.program).tables.blocks (program_texts s.program.prefix s.program.block) b q.2.above
      a = fine.standards b q.2.above q.2.above_text

      there : around (slice_get (declared_by s.program).tables.blocks k) ≡ Some g.block
      there = ap (λ m. around (slice_get (declared_by s.program).tables.blocks m)) g.place ∙ g.group.around q.2.which g.is

      block : q.2.block ≡ g.block
      block = some_same q.2.block g.block (sym (ap around q.1 ∙ q.2.encloser) ∙ there)

      same_front : (m n i : ℕ) → m + 1 + i ≡ n + 1 + i → m ≡ n
      same_front m n i e = omega (arith, e)

      host_above : a.block ≡ g.block
      host_above = same_front a.block q.2.block (place_of q.2.above) (sym a.place ∙ q.2.base) ∙ block

      host : (p : StandardPrefix) (x : Text) → InFront p x → is_connection (Some x) ≡ false
      host p (ClassText prefix h ds ss) i = refl
      host p (PrefixedText class es ds ss) i = refl
      host p (BlockText j ds ss) i = refl
      host p (ProcedureText result h a) i = refl
      host p ConnectionText i = absurd i
      host p (StandardText which) i = refl

      solid_host : is_connection (text s g.block) ≡ false
      solid_host = ap is_connection g.group.host.1 ∙ host g.prefix g.group.host.0 g.group.host.2

  prefix_typed : (k b : ℕ) → is_connection (text s k) ≡ false → base s.tables k ≡ Some b → PrefixTyped s k b
  prefix_typed k b other e = go (t.prefix_is s of order k b other e)
    where
      go : PrefixOf (declared_by s.program).tables s.tables k b ⊎ (base (declared_by s.program).tables k ≡ Some b) → PrefixTyped s k b
      go (inl p) = written_typed k b e p
      go (inr was) = standard_typed k b e was

  -- what a class declares is declared by no level of its prefix
  declares_apart : (k b u : ℕ) (d : DeclNo) → is_connection (text s k) ≡ false → base s.tables k ≡ Some b → has_level s.tables b u ≡ true → Among d (numbers_of s u) → Among d (numbers_of s k) → ⊥
  declares_apart k b u d other e level inside own =
      let same : u ≡ k = sym (t.owned_block s of order u d inside) ∙ t.owned_block s of order k d own in
      let f : true ≡ false = sym (subst (λ z. has_level s.tables b z ≡ true) same level) ∙ not_own k b other e in cc

  pub prefixes : Prefixes s
  prefixes = record { prefixed_by = prefix_typed; ends = ends; apart = declares_apart }

  -- the declaration to which the text of a class belongs is that of the class
  pub owners : (k : ℕ) (d : DeclNo) → is_class (text s k) ≡ true → owner_of_level s.tables (Some k) ≡ Some d → entry_of s.tables d ≡ Some (entry.Class k)
  unfolding text
  owners k d class e = go (slice_get (program_texts s.program.prefix s.program.block) k) refl class
    where
      of_class : (x : Text) → slice_get (program_texts s.program.prefix s.program.block) k ≡ Some x → OwnerIs (declared_by s.program) (owner_in (slice_get (declared_by s.program).tables.blocks k)) (entry.Class k) → entry_of s.tables d ≡ Some (entry.Class k)
      of_class x is q =
          let own : owner_of_level s.tables (Some k) ≡ Some q.0 = headings.owner_at s of order k q.0 (t.same_owner s of order k ∙ q.2) in
          let new = (t.completed_tables s of order).rows.stays q.0.0 q.1 q.3 in
          subst (λ z. entry_of s.tables z ≡ Some (entry.Class k)) (some_same q.0 d (sym own ∙ e))
          (t.row_entry s of order q.0 new.0 new.1 ∙ ap Some (class_new q.1.entry new.0.entry new.2.entry k q.4))

      go : (o : Option Text) → slice_get (program_texts s.program.prefix s.program.block) k ≡ o → is_class o ≡ true → entry_of s.tables d ≡ Some (entry.Class k)
      go None is c = absurd (cc)
      go (Some (BlockText i ds ss)) is c = absurd (cc)
      go (Some (ProcedureText result h a)) is c = absurd (cc)
      go (Some (ClassText prefix h ds ss)) is c = of_class (ClassText prefix h ds ss) is (t.program_owned s.program of.unbroken k (ClassText prefix h ds ss) is)
      go (Some ConnectionText) is c = absurd (cc)
      go (Some (PrefixedText class es ds ss)) is c = absurd (cc)
      go (Some (StandardText which)) is c = of_class (StandardText which) is (t.program_owned s.program of.unbroken k (StandardText which) is)
