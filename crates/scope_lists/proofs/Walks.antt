-- The walks of today's definitions over the lists of tables.
use Rattle.std.proofs.Common.{◌≡◌, ◌<◌, ◌≤◌, ℕ, Bool, false, List, Option, Some, None, refl, sym, ap, ◌∙◌, arith, length}
use Rattle.std.proofs.lemmas.Option.{slice_get_within}
use Rattle.std.specs.Prelude.{slice_get}
use Rattle.std.specs.List.{list_any}
use Rattle.sim_scope.specs.Access.{around as around_row, block_at, encloser, holds_at, some_around, some_around_of}
use Rattle.sim_scope.specs.Along.{first_along}
use Rattle.sim_scope.specs.Levels.{base, base_in, some_level}
use Rattle.sim_scope.specs.Tables.{BlockOf, Tables}
use Rattle.sim_scope.proofs.Alongs.{around_along, levels_along}
use Rattle.scope_lists.specs.Lists.{Lists, around, first, of_block}
use Rattle.scope_lists.proofs.Chains.{Bounded, finds_first, finds_some}
use Rattle.scope_lists.proofs.Exist.{is_made, made, made_is}

pub absent : {A : Type 0} (xs : List A) (k : ℕ) → length xs ≤ k → slice_get xs k ≡ None
absent xs k far = go (slice_get xs k) refl
  where
    go : (o : Option _) → slice_get xs k ≡ o → slice_get xs k ≡ None
    go None e = e
    go (Some x) e = absurd (let le = slice_get_within xs k x e in omega arith)

pub base_bounded : (s : Tables) → Bounded (length s.blocks) (base s)
unfolding base
base_bounded s b p to = go (slice_get s.blocks b) refl
  where
    go : (o : Option BlockOf) → slice_get s.blocks b ≡ o → b < length s.blocks
    go None e = absurd (let h = ap base_in (sym e) ∙ to in cc)
    go (Some row) e = slice_get_within s.blocks b row e

pub base_none : (s : Tables) (b : ℕ) → length s.blocks ≤ b → base s b ≡ None
unfolding base
base_none s b far = ap base_in (absent s.blocks b far)

pub encloser_bounded : (s : Tables) → Bounded (length s.blocks) (encloser s)
unfolding encloser
encloser_bounded s b p to = go (slice_get s.blocks b) refl
  where
    go : (o : Option BlockOf) → slice_get s.blocks b ≡ o → b < length s.blocks
    go None e = absurd (let h = ap around_row (sym e) ∙ to in cc)
    go (Some row) e = slice_get_within s.blocks b row e

-- each table has its lists, and only one of each
unfoldable pub lists_of : (s : Tables) → Lists s
lists_of s = record {
  levels = made (base s) (length s.blocks) (base_bounded s);
  of_levels = made_is (base s) (length s.blocks) (base_bounded s);
  outward = made (encloser s) (length s.blocks) (encloser_bounded s);
  of_outward = made_is (encloser s) (length s.blocks) (encloser_bounded s);
}

pub same_lists : (s : Tables) (k l : Lists s) (block : ℕ) → (k.levels block ≡ l.levels block) × (k.outward block ≡ l.outward block)
same_lists s k l block = (
  is_made (base s) (length s.blocks) (base_bounded s) k.levels k.of_levels block ∙ sym (is_made (base s) (length s.blocks) (base_bounded s) l.levels l.of_levels block),
  is_made (encloser s) (length s.blocks) (encloser_bounded s) k.outward k.of_outward block ∙ sym (is_made (encloser s) (length s.blocks) (encloser_bounded s) l.outward l.of_outward block),
)

module _ (s : Tables) (l : Lists s) where
  pub first_of_levels : {A : Type 0} (look : ℕ → Option A) → ((b : ℕ) → length s.blocks ≤ b → look b ≡ None) → (b : ℕ) → first_along (base s) (length s.blocks) look b ≡ first look (l.levels b)
  first_of_levels look within b = finds_first (base s) look (length s.blocks) (base_bounded s) l.levels l.of_levels within b

  pub some_of_levels : (test : ℕ → Bool) → ((b : ℕ) → length s.blocks ≤ b → test b ≡ false) → (b : ℕ) → some_level s test b ≡ list_any test (l.levels b)
  some_of_levels test within b =
      sym (levels_along s (length s.blocks) test b) ∙ finds_some (base s) test (length s.blocks) (base_bounded s) l.levels l.of_levels within b

  pub first_around : {A : Type 0} (look : ℕ → Option A) → ((b : ℕ) → length s.blocks ≤ b → look b ≡ None) → (b : ℕ) → first_along (encloser s) (length s.blocks) look b ≡ first look (l.outward b)
  first_around look within b = finds_first (encloser s) look (length s.blocks) (encloser_bounded s) l.outward l.of_outward within b

  pub some_of_scopes : (test : ℕ → Bool) → ((b : ℕ) → length s.blocks ≤ b → test b ≡ false) → (token : ℕ) → some_around s test token ≡ list_any test (around s l token)
  unfolding some_around
  some_of_scopes test within token = go (block_at s token)
    where
      go : (o : Option ℕ) → holds_at (λ b. some_around_of s (length s.blocks) test b) o ≡ list_any test (of_block l.outward o)
      go None = refl
      go (Some b) = sym (around_along s (length s.blocks) test b) ∙ finds_some (encloser s) test (length s.blocks) (encloser_bounded s) l.outward l.of_outward within b
