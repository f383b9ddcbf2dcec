-- No block has a class of SIMSET for its prefix, or among the levels of it: a rule forbids it.
use Rattle.std.proofs.Common.{◌≡◌, ◌⊎◌, inl, inr, ℕ, zero, suc, Bool, true, false, length, Option, Some, None, refl, sym, ap, ◌∙◌, subst, arith}
use Rattle.std.specs.Prelude.{◌&&◌, ◌||◌, nat_eq, not, slice_get}
use Rattle.std.proofs.lemmas.Bool.Decides.{nat_tests}
use Rattle.sim_tree.specs.declared.expr.Identifier.{Identifier}
use Rattle.sim_agree.specs.Order.{InOrder}
use Rattle.sim_tree.specs.Syntax.{Declarations, Expressions, Statements}
use Rattle.sim_scope.specs.declared.types.BlockKind.TheVariants as kind
use Rattle.sim_scope.specs.declared.types.StandardClass.{StandardClass}
use Rattle.sim_scope.specs.Access.{is_kind, is_so, kind_in}
use Rattle.sim_scope.specs.Declare.{declared_by}
use Rattle.sim_scope.specs.Levels.{base, base_in, has_level, holds, is_standard_class, some_level, some_level_of}
use Rattle.sim_scope.specs.Source.{Source}
use Rattle.sim_scope.specs.Tables.{BlockOf, Tables}
use Rattle.prefix_bind.specs.Prefixes.{breaks_prefix, is_known, is_prefixed_block, prefix_faults, prefixed}
use Rattle.sim_meaning.specs.Attributes.{is_connection}
use Rattle.sim_meaning.specs.Texts.{PrefixedText, StandardText, text}
use Rattle.sim_agree.specs.TablesOf.{TablesOf}
use Rattle.sim_agree.proofs.BlockPrefixes as blocks
use Rattle.sim_agree.proofs.BlockPrefixes.{HasPrefix}
use Rattle.sim_agree.proofs.Chains as c
use Rattle.sim_agree.proofs.Chains.{prefix_known}
use Rattle.sim_agree.proofs.ClassRows.{no_class_connection}
use Rattle.sim_agree.proofs.Completing.{bare_row}
use Rattle.sim_agree.proofs.Fine.{KindIs}
use Rattle.sim_agree.proofs.Qualified.{no_least}
use Rattle.sim_agree.proofs.Tables as t

either_true : (a b : Bool) → (a || b) ≡ true → (a ≡ true) ⊎ (b ≡ true)
either_true true b e = inl refl
either_true false b e = inr e

or_right : (a b : Bool) → b ≡ true → (a || b) ≡ true
or_right true b e = refl
or_right false b e = e

holds_more : (f g : ℕ → Bool) (o : Option ℕ) → ((b : ℕ) → f b ≡ true → g b ≡ true) → holds f o ≡ true → holds g o ≡ true
holds_more f g None h e = e
holds_more f g (Some b) h e = h b e

-- a level of one kind is one of another
levels_are : (T : Tables) (n : ℕ) (p q : ℕ → Bool) → ((j : ℕ) → p j ≡ true → q j ≡ true) → (k : ℕ) → some_level_of T n p k ≡ true → some_level_of T n q k ≡ true
unfolding some_level_of
levels_are T zero p q h k e = absurd (cc)
levels_are T (suc n) p q h k e = go (λ b f. levels_are T n p q h b f) (either_true (p k) (holds (λ b. some_level_of T n p b) (base T k)) e)
  where
    go : ((b : ℕ) → some_level_of T n p b ≡ true → some_level_of T n q b ≡ true) → (p k ≡ true) ⊎ (holds (λ b. some_level_of T n p b) (base T k) ≡ true) → (q k || holds (λ b. some_level_of T n q b) (base T k)) ≡ true
    go rest (inl f) = ap (λ z. z || holds (λ b. some_level_of T n q b) (base T k)) (h k f)
    go rest (inr f) = or_right (q k) (holds (λ b. some_level_of T n q b) (base T k)) (holds_more (λ b. some_level_of T n p b) (λ b. some_level_of T n q b) (base T k) rest f)

levels_more : (T : Tables) (n : ℕ) (p : ℕ → Bool) (k : ℕ) → some_level_of T n p k ≡ true → some_level_of T (suc n) p k ≡ true
unfolding some_level_of
levels_more T zero p k e = absurd (cc)
levels_more T (suc n) p k e = go (λ b f. levels_more T n p b f) (either_true (p k) (holds (λ b. some_level_of T n p b) (base T k)) e)
  where
    go : ((b : ℕ) → some_level_of T n p b ≡ true → some_level_of T (suc n) p b ≡ true) → (p k ≡ true) ⊎ (holds (λ b. some_level_of T n p b) (base T k) ≡ true) → (p k || holds (λ b. some_level_of T (suc n) p b) (base T k)) ≡ true
    go rest (inl f) = ap (λ z. z || holds (λ b. some_level_of T (suc n) p b) (base T k)) f
    go rest (inr f) = or_right (p k) (holds (λ b. some_level_of T (suc n) p b) (base T k)) (holds_more (λ b. some_level_of T n p b) (λ b. some_level_of T (suc n) p b) (base T k) rest f)

clash : (a x y : Bool) → (a || x && y) ≡ false → x ≡ true → y ≡ true → ⊥
clash true x y e f g = cc
clash false true true e f g = cc
clash false false y e f g = cc
clash false true false e f g = cc

kind_bare : (o : Option BlockOf) → kind_in (bare_row o) ≡ kind_in o
kind_bare None = refl
kind_bare (Some row) = refl

some_row : (a b : BlockOf) → Some a ≡ Some b → a ≡ b
some_row a b e = cc

module _ (s : Source) (of : TablesOf s) (order : InOrder s.program) where
  abbrev T : Tables
  T = prefixed (declared_by s.program).tables

  -- the block of such a class is of its kind
  set_kind : (u : ℕ) (which : StandardClass) → text s u ≡ Some (StandardText which) → is_kind is_standard_class T u ≡ true
  unfolding text is_kind
  set_kind u which at =
      let same : kind_in (slice_get T.blocks u) ≡ kind_in (slice_get (declared_by s.program).tables.blocks u) = sym (kind_bare (slice_get T.blocks u)) ∙ ap kind_in ((t.P s of order).blocks u) ∙ kind_bare (slice_get (declared_by s.program).tables.blocks u) in
      ap (is_so is_standard_class) same ∙ go (slice_get (declared_by s.program).tables.blocks u) (subst (λ x. KindIs (slice_get (declared_by s.program).tables.blocks u) x) at ((t.program_agrees s.program).fine.kinds u))
    where
      go : (o : Option BlockOf) → KindIs o (Some (StandardText which)) → is_so is_standard_class (kind_in o) ≡ true
      go None q = absurd q
      go (Some row) q = ap is_standard_class q

  module _ (k : ℕ) (class : Identifier) (es : Expressions) (ds : Declarations) (ss : Statements) (is : text s k ≡ Some (PrefixedText class es ds ss)) where
    other : is_connection (text s k) ≡ false
    other = ap is_connection is

    -- the rule on its prefix
    rule : (b : ℕ) → base s.tables k ≡ Some b → some_level T (is_kind is_standard_class T) b ≡ true → ⊥
    unfolding base
    rule b based level = go (slice_get T.blocks k) refl
      where
        was : (row : BlockOf) × (slice_get (declared_by s.program).tables.blocks k ≡ Some row) × (row.kind ≡ kind.Prefixed)
        was = blocks.declared_row s of order k class es ds ss is

        broken : (row : BlockOf) → slice_get T.blocks k ≡ Some row → (o : Option Identifier) → row.prefix ≡ o → HasPrefix kind.Prefixed o
            → (not (is_known row) || is_prefixed_block row.kind && holds (λ b. some_level T (is_kind is_standard_class T) b) row.base) ≡ false
        broken row at None e has = absurd has
        broken row at (Some x) e has = sym (ap (breaks_prefix T row) e) ∙ prefix_known T (no_least (prefix_faults T) of.prefixes) k row at

        go : (o : Option BlockOf) → slice_get T.blocks k ≡ o → ⊥
        go None at = absurd (let f : None ≡ Some (record was.0 { base = None; standard = None }) = sym (ap bare_row at) ∙ (t.P s of order).blocks k ∙ ap bare_row was.1 in cc)
        go (Some row) at =
            let same : record row { base = None; standard = None } ≡ record was.0 { base = None; standard = None } = some_row (record row { base = None; standard = None }) (record was.0 { base = None; standard = None }) (sym (ap bare_row at) ∙ (t.P s of order).blocks k ∙ ap bare_row was.1) in
            let written : row.prefix ≡ (was.0).prefix = ap (λ (z : BlockOf). z.prefix) same in
            let kinds : row.kind ≡ kind.Prefixed = ap (λ (z : BlockOf). z.kind) same ∙ was.2 in
            let bases : row.base ≡ Some b = sym (ap base_in at) ∙ sym (t.own_base_of s of order k other) ∙ based in
            clash (not (is_known row)) (is_prefixed_block row.kind) (holds (λ b. some_level T (is_kind is_standard_class T) b) row.base)
            (broken row at (was.0).prefix written (blocks.has_prefix s of order k class es ds ss is)) (ap is_prefixed_block kinds) (ap (holds (λ b. some_level T (is_kind is_standard_class T) b)) bases ∙ level)

    pub no_set_level : (u : ℕ) (which : StandardClass) → has_level s.tables k u ≡ true → text s u ≡ Some (StandardText which) → ⊥
    unfolding has_level some_level_of
    no_set_level u which level at = by_count (length s.tables.blocks) refl level
      where
        stands : (j : ℕ) → nat_eq j u ≡ true → is_kind is_standard_class T j ≡ true
        stands j e = let same : j ≡ u = grind (arith, nat_tests, e) in subst (λ z. is_kind is_standard_class T z ≡ true) (sym same) (set_kind u which at)

        above : (n : ℕ) → length s.tables.blocks ≡ suc n → (b : ℕ) → base s.tables k ≡ Some b → some_level_of s.tables n (λ j. nat_eq j u) b ≡ true → ⊥
        above n size b based e =
            let solid : is_connection (text s b) ≡ false = no_class_connection (text s b) (t.connects s of order k b based) in
            let there : some_level_of T n (λ j. nat_eq j u) b ≡ true = sym (c.same_levels s of order n (λ j. nat_eq j u) b solid) ∙ e in
            let kinds : some_level_of T (suc n) (is_kind is_standard_class T) b ≡ true = levels_more T n (is_kind is_standard_class T) b (levels_are T n (λ j. nat_eq j u) (is_kind is_standard_class T) stands b there) in
            rule b based (subst (λ m. some_level_of T m (is_kind is_standard_class T) b ≡ true) (sym size ∙ c.sizes s of order) kinds)

        by_count : (n : ℕ) → length s.tables.blocks ≡ n → some_level_of s.tables n (λ j. nat_eq j u) k ≡ true → ⊥
        by_count zero size e = absurd (cc)
        by_count (suc n) size e = go (either_true (nat_eq k u) (holds (λ b. some_level_of s.tables n (λ j. nat_eq j u) b) (base s.tables k)) e)
          where
            further : (o : Option ℕ) → base s.tables k ≡ o → holds (λ b. some_level_of s.tables n (λ j. nat_eq j u) b) o ≡ true → ⊥
            further None based f = absurd (cc)
            further (Some b) based f = above n size b based f

            go : (nat_eq k u ≡ true) ⊎ (holds (λ b. some_level_of s.tables n (λ j. nat_eq j u) b) (base s.tables k) ≡ true) → ⊥
            go (inl same) = let equal : k ≡ u = grind (arith, nat_tests, same) in let f : Some (PrefixedText class es ds ss) ≡ Some (StandardText which) = sym is ∙ ap (text s) equal ∙ at in cc
            go (inr f) = further (base s.tables k) refl f
