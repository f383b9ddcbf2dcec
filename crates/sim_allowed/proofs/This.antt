-- What `this` is.
use Rattle.std.proofs.Common.{◌≡◌, ℕ, zero, suc, Bool, true, false, length, Option, Some, None, refl, sym, ap, ◌∙◌, subst, arith, if◌then◌else◌}
use Rattle.std.proofs.lemmas.Bool.{false≢true}
use Rattle.std.proofs.lemmas.Bool.Decides.{nat_tests}
use Rattle.std.specs.Prelude.{◌||◌, ◌&&◌, nat_eq}
use Rattle.sim_base.specs.declared.numbering.DeclNo.{DeclNo}
use Rattle.sim_base.specs.declared.rule.Rule.TheVariants as r
use Rattle.sim_scope.specs.declared.outcome.Extent.{Extent}
use Rattle.sim_scope.specs.declared.outcome.Extent.TheVariants as extent
use Rattle.sim_scope.specs.declared.outcome.Occurrence.{Occurrence}
use Rattle.sim_scope.specs.declared.scopes.Denotation.{Denotation}
use Rattle.sim_scope.specs.declared.scopes.Denotation.TheVariants as denotation
use Rattle.sim_scope.specs.declared.types.SimType.TheVariants as t
use Rattle.sim_scope.specs.Access.{block_at, encloser}
use Rattle.sim_scope.specs.Calls.{located}
use Rattle.sim_scope.specs.Judged.{bars, gives, next, telling}
use Rattle.sim_scope.specs.Levels.{base, has_level, holds, level_beyond, some_level_of}
use Rattle.sim_scope.specs.Outcomes.{has}
use Rattle.sim_scope.specs.References.{is_its_own, is_nowhere, is_only_prefix, is_this, level_is, this_barred, this_block, this_fits, this_found, this_object, this_of, this_of_class, this_value}
use Rattle.sim_scope.specs.Scopes.{shows_detach}
use Rattle.sim_scope.specs.Source.{Source, found_at}
use Rattle.sim_tree.specs.declared.expr.Identifier.{Identifier}
use Rattle.sim_tree.specs.Syntax as syntax
use Rattle.sim_meaning.specs.Attributes.{is_connection}
use Rattle.sim_meaning.specs.Closing.{is_placed, is_text, is_text_type, own_match, result_meant, stream_of}
use Rattle.sim_meaning.specs.Levels.{is_class, has_levels}
use Rattle.sim_meaning.specs.Texts.{text}
use Rattle.sim_sound.specs.Held.{Around, Fits, Holds, In, InBound, Place, Refers, StandsAround, further, itself, reference_to, text_of}
use Rattle.sim_sound.specs.Expressions.{ThisFound, ThisIs}
use Rattle.sim_agree.specs.Facts.{IsClass, Tabled}
use Rattle.sim_meaning.specs.Checks.{passed}
use Rattle.sim_allowed.proofs.Classes.{class_held, class_row, fits_inside, level_more, level_reached, levels_here, no_connection}
use Rattle.sim_allowed.proofs.Meant.{Means, Takes}
use Rattle.sim_allowed.proofs.References.{ClassIs, PrefixIs, kept, only}
use Rattle.sim_allowed.proofs.Said.{AllSay, next_says}
use Rattle.sim_allowed.proofs.Uses.{located_says}

-- statements stand in a text, and only bounds in a bound
abbrev pub extent_of : Place → Extent
extent_of (In t) = extent.Statement
extent_of (InBound t) = extent.Bound

-- ---- the block that it means

this_around : (s : Source) (n : ℕ) (class : Denotation) (k b : ℕ) → this_of s.tables n class k ≡ Some b → Around s.tables k b × (is_this s.tables class b ≡ true)
unfolding this_of
this_around s zero class k b e = absurd (cc)
this_around s (suc n) class k b e = go (λ u e. this_around s n class u b e) (is_this s.tables class k) refl e
  where
    outward : ((u : ℕ) → this_of s.tables n class u ≡ Some b → Around s.tables u b × (is_this s.tables class b ≡ true)) → (o : Option ℕ) → encloser s.tables k ≡ o → level_beyond (λ u. this_of s.tables n class u) o ≡ Some b
        → Around s.tables k b × (is_this s.tables class b ≡ true)
    outward deep None out e = absurd (cc)
    outward deep (Some u) out e = let rest = deep u e in (further out rest.0, rest.1)

    go : ((u : ℕ) → this_of s.tables n class u ≡ Some b → Around s.tables u b × (is_this s.tables class b ≡ true)) → (c : Bool) → is_this s.tables class k ≡ c → (if c then Some k else level_beyond (λ u. this_of s.tables n class u) (encloser s.tables k)) ≡ Some b
        → Around s.tables k b × (is_this s.tables class b ≡ true)
    go deep true is e = let same : k ≡ b = cc in (subst (λ z. Around s.tables k z) same itself, subst (λ z. is_this s.tables class z ≡ true) same is)
    go deep false is e = outward deep (encloser s.tables k) refl e

second : (a b : Bool) → (a && b) ≡ true → b ≡ true
second true b e = e
second false b e = absurd (false≢true e)

-- it has the class among its levels
this_level : (s : Source) (d : DeclNo) (c : IsClass s d) (b : ℕ) → is_this s.tables (denotation.Declared d) b ≡ true → has_level s.tables b c.block ≡ true
unfolding is_this
this_level s d c b e =
    second (shows_detach s.tables b) (has_level s.tables b c.block) (sym (ap (λ z. shows_detach s.tables b && level_is s.tables (denotation.Declared d) z b) (class_row s.tables d c.block c.declares)) ∙ e)

-- a connection that has a class among its levels connects it, or a class with that prefix
connects_it : (s : Source) → Tabled s → (b block : ℕ) → is_connection (text s b) ≡ true → is_class (text s block) ≡ true → has_level s.tables b block ≡ true → (c : ℕ) × (base s.tables b ≡ Some c) × (has_level s.tables c block ≡ true)
unfolding has_level some_level_of
connects_it s known b block connection class e = go (length s.tables.blocks) e
  where
    other : nat_eq b block ≡ true → ⊥
    other is = let same : b ≡ block = grind (arith, nat_tests) in false≢true (sym (no_connection (text s block) class) ∙ subst (λ z. is_connection (text s z) ≡ true) same connection)

    behind : (n : ℕ) (o : Option ℕ) → base s.tables b ≡ o → holds (λ y. some_level_of s.tables n (λ x. nat_eq x block) y) o ≡ true → (c : ℕ) × (base s.tables b ≡ Some c) × (some_level_of s.tables (suc n) (λ x. nat_eq x block) c ≡ true)
    behind n None is e = absurd (false≢true e)
    behind n (Some c) is e = (c, is, level_more s.tables n (λ x. nat_eq x block) c e)

    tested : (n : ℕ) (g : Bool) → nat_eq b block ≡ g → (g || holds (λ y. some_level_of s.tables n (λ x. nat_eq x block) y) (base s.tables b)) ≡ true → (c : ℕ) × (base s.tables b ≡ Some c) × (some_level_of s.tables (suc n) (λ x. nat_eq x block) c ≡ true)
    tested n true is e = absurd (other is)
    tested n false is e = behind n (base s.tables b) refl e

    go : (n : ℕ) → some_level_of s.tables n (λ z. nat_eq z block) b ≡ true → (c : ℕ) × (base s.tables b ≡ Some c) × (some_level_of s.tables n (λ z. nat_eq z block) c ≡ true)
    go zero e = absurd (false≢true e)
    go (suc n) e = tested n (nat_eq b block) refl e

-- ---- where it stands

stands : (s : Source) (from : Place) (token b : ℕ) → block_at s.tables token ≡ Some (text_of from) → Around s.tables (text_of from) b → this_barred s.tables (extent_of from) token (Some b) ≡ false → StandsAround s from b
unfolding this_barred
stands s (In t) token b placed around open_to = around
stands s (InBound t) token b placed around open_to = beyond b around (sym (ap (λ z. is_its_own z b) placed) ∙ open_to)
  where
    same : (n : ℕ) → nat_eq n n ≡ true
    same n = grind (arith, nat_tests)

    beyond : (b : ℕ) → Around s.tables t b → nat_eq t b ≡ false → StandsAround s (InBound t) b
    beyond b itself other = absurd (false≢true (sym other ∙ same b))
    beyond b (further {u = u} out a) other = record { next = u; stands_in = out; around = a }

this_is : (s : Source) → Tabled s → (from : Place) (d : DeclNo) (c : IsClass s d) (b : ℕ) → has_level s.tables b c.block ≡ true → StandsAround s from b → (h : Holds) → Fits s (Refers c.block) h → ThisIs s from (is_connection (text s b)) (has_levels (text s b)) b h
unfolding has_level
this_is s known from d c b level stands h f = go (is_connection (text s b)) refl
  where
    go : (g : Bool) → is_connection (text s b) ≡ g → ThisIs s from g (has_levels (text s b)) b h
    go true is =
        let q = connects_it s known b c.block is c.is level in
        (stands, subst (λ z. Fits s (reference_to z) h) (sym q.1) (fits_inside s known q.0 c.block (no_connection (text s q.0) (known.connects b q.0 q.1)) q.2 h f))
    go false is =
        let levels = levels_here s known b c.block is c.is (level_reached s.tables (length s.tables.blocks) b c.block level) in
        subst (λ z. ThisIs s from false z b h) (sym levels) (stands, fits_inside s known b c.block is level h f)

pub this_means : (s : Source) → Tabled s → (from : Place) (i : ℕ) (class : Identifier) (o : Occurrence) → ClassIs s (extent_of from) class o → block_at s.tables class.token.0 ≡ Some (text_of from)
    → AllSay s (this_object s.tables (extent_of from) i class o).events → Means true s from (syntax.This i class) (this_object s.tables (extent_of from) i class o).value
unfolding this_object next gives telling has this_fits is_text is_placed own_match result_meant stream_of passed this_block
this_means s known from i class o c placed said =
    subst (λ (z : Occurrence). Means true s from (syntax.This i class) (this_of_class s.tables (extent_of from) i class.token.0 z.denotes z.barred).value) (sym c.is)
    (go (this_block s.tables class.token.0 d) refl (subst (λ (z : Occurrence). AllSay s (this_of_class s.tables (extent_of from) i class.token.0 z.denotes z.barred).events) c.is said))
  where
    d : Denotation
    d = denotation.Declared c.declaration

    token : ℕ
    token = class.token.0

    found : (b : ℕ) → this_block s.tables class.token.0 d ≡ Some b → Around s.tables (text_of from) b × (is_this s.tables d b ≡ true)
    found b e = this_around s (length s.tables.blocks) d (text_of from) b (sym (ap (λ z. level_beyond (λ u. this_of s.tables (length s.tables.blocks) d u) z) placed) ∙ e)

    go : (block : Option ℕ) → this_block s.tables class.token.0 d ≡ block → AllSay s (this_found s.tables (extent_of from) i class.token.0 d false block).events → Means true s from (syntax.This i class) (this_found s.tables (extent_of from) i class.token.0 d false block).value
    go block e said =
        let first = next_says s (located i block) (λ n. next (this_fits s.tables (extent_of from) token d block) (λ b. this_value i d (b || false))) said in
        let last = next_says s (this_fits s.tables (extent_of from) token d block) (λ b. this_value i d (b || false)) first.1 in
        let one = next_says s (bars (is_nowhere block) token r.ThisOutsideItsClass) (λ a. next (bars (is_only_prefix s.tables d) token r.OnlyForPrefixing) (λ b. next (bars (this_barred s.tables (extent_of from) token block) token r.BoundDependsOnItsBlock) (λ c. gives (a || b || c)))) last.0 in
        let a = (bars (is_nowhere block) token r.ThisOutsideItsClass).value in
        let two = next_says s (bars (is_only_prefix s.tables d) token r.OnlyForPrefixing) (λ b. next (bars (this_barred s.tables (extent_of from) token block) token r.BoundDependsOnItsBlock) (λ c. gives (a || b || c))) one.1 in
        let b = (bars (is_only_prefix s.tables d) token r.OnlyForPrefixing).value in
        let three = next_says s (bars (this_barred s.tables (extent_of from) token block) token r.BoundDependsOnItsBlock) (λ c. gives (a || b || c)) two.1 in
        let k1 = kept s (is_nowhere block) token r.ThisOutsideItsClass one.0 in
        let k2 = kept s (is_only_prefix s.tables d) token r.OnlyForPrefixing two.0 in
        let k3 = kept s (this_barred s.tables (extent_of from) token block) token r.BoundDependsOnItsBlock three.0 in
        let barred : ((this_fits s.tables (extent_of from) token d block).value || false) ≡ false =
        ap (λ z. (z || b || (bars (this_barred s.tables (extent_of from) token block) token r.BoundDependsOnItsBlock).value) || false) k1.1
        ∙ ap (λ z. (z || (bars (this_barred s.tables (extent_of from) token block) token r.BoundDependsOnItsBlock).value) || false) k2.1 ∙ ap (λ z. z || false) k3.1 in
        let typed = (subst (λ z. AllSay s (this_value i d z).events) barred last.1).0 in
        subst (λ z. Means true s from (syntax.This i class) (this_value i d z).value) (sym barred) (
          record {
            proper = c.class;
            texts = ap is_text_type typed;
            stream = refl;
            typed = typed;
            value = λ h f. value block e k1.0 k3.0 (located_says s i block first.0) h f;
          },
          (refl, refl),
          refl,
          refl,
        )
      where
        value : (block : Option ℕ) → this_block s.tables class.token.0 d ≡ block → is_nowhere block ≡ false → this_barred s.tables (extent_of from) token block ≡ false → ((b : ℕ) → block ≡ Some b → found_at s i ≡ Some b)
            → (h : Holds) → Takes s (t.Ref c.declaration) h → ThisFound s from (found_at s i) h
        value None e somewhere open_to at h f = absurd (false≢true (sym somewhere))
        value (Some b) e somewhere open_to at h f =
            let there = found b e in
            subst (λ z. ThisFound s from z h) (sym (at b refl))
            (this_is s known from c.declaration c.class b (this_level s c.declaration c.class b there.1) (stands s from token b placed there.0 open_to) h (subst (λ z. Fits s z h) (class_held s c.declaration c.class) f))

-- `this simset` stands nowhere
pub this_refused : (s : Source) (x : Extent) (i : ℕ) (class : Identifier) (o : Occurrence) → PrefixIs o → AllSay s (this_object s.tables x i class o).events → ⊥
unfolding this_object next gives this_fits
this_refused s x i class o p said =
    let d = denotation.Standard p.name in
    let token = class.token.0 in
    let block = this_block s.tables token d in
    let events = subst (λ (z : Occurrence). AllSay s (this_of_class s.tables x i token z.denotes z.barred).events) p.is said in
    let first = next_says s (located i block) (λ n. next (this_fits s.tables x token d block) (λ b. this_value i d (b || false))) events in
    let last = next_says s (this_fits s.tables x token d block) (λ b. this_value i d (b || false)) first.1 in
    let one = next_says s (bars (is_nowhere block) token r.ThisOutsideItsClass) (λ a. next (bars (is_only_prefix s.tables d) token r.OnlyForPrefixing) (λ b. next (bars (this_barred s.tables x token block) token r.BoundDependsOnItsBlock) (λ c. gives (a || b || c)))) last.0 in
    let a = (bars (is_nowhere block) token r.ThisOutsideItsClass).value in
    let two = next_says s (bars (is_only_prefix s.tables d) token r.OnlyForPrefixing) (λ b. next (bars (this_barred s.tables x token block) token r.BoundDependsOnItsBlock) (λ c. gives (a || b || c))) one.1 in
    false≢true (sym (kept s (is_only_prefix s.tables d) token r.OnlyForPrefixing two.0).0 ∙ only s token o p)
