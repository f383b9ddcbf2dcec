-- Where nothing comes again, a list is the block and then the list of the next one.
use Rattle.std.proofs.Common.{◌≡◌, ◌<◌, ℕ, zero, suc, Bool, true, false, List, [], ◌∷◌, Option, Some, None, refl, sym, ap, ◌∙◌, arith, length, if◌then◌else◌, ◌||◌}
use Rattle.std.proofs.lemmas.Bool.Decides.{nat_tests}
use Rattle.std.specs.Prelude.{nat_eq}
use Rattle.std.specs.List.{list_any}
use Rattle.sim_scope.specs.Access.{encloser}
use Rattle.sim_scope.specs.Along.{at_next, some_along}
use Rattle.sim_scope.specs.Laws.{Nested}
use Rattle.sim_scope.specs.Levels.{base, holds, some_level}
use Rattle.sim_scope.specs.Tables.{Tables}
use Rattle.prefix_bind.specs.Prefixes.{is_in_own_chain}
use Rattle.scope_lists.specs.Lists.{Lists, of_block, up_to}
use Rattle.scope_lists.proofs.Access.{has_level_same}
use Rattle.scope_lists.proofs.Chains.{finds_some}
use Rattle.scope_lists.proofs.Walks.{base_bounded, encloser_bounded}

or_left : (t u : Bool) → (t || u) ≡ false → t ≡ false
or_left false u h = refl
or_left true u h = h

or_right : (t u : Bool) → (t || u) ≡ false → u ≡ false
or_right false u h = h
or_right true u h = absurd (cc)

up_to_all : (b : ℕ) (bs : List ℕ) → list_any (λ c. nat_eq c b) bs ≡ false → up_to b bs ≡ bs
unfolding up_to
up_to_all b [] h = refl
up_to_all b (c ∷ bs) h =
    ap (λ t. if t then [] else c ∷ up_to b bs) (or_left (nat_eq c b) (list_any (λ c. nat_eq c b) bs) h)
    ∙ ap (λ l. c ∷ l) (up_to_all b bs (or_right (nat_eq c b) (list_any (λ c. nat_eq c b) bs) h))

up_to_none : (b : ℕ) → up_to b [] ≡ []
unfolding up_to
up_to_none b = refl

further : (s : Tables) → Nested s.blocks → (b p : ℕ) → encloser s b ≡ Some p → p < b
unfolding encloser Nested
further s nested b p to = nested b p to

module _ (s : Tables) (l : Lists s) where
  pub levels_of_prefix : (b : ℕ) → is_in_own_chain s b ≡ false → l.levels b ≡ b ∷ of_block l.levels (base s b)
  unfolding is_in_own_chain
  levels_of_prefix b apart = l.of_levels b ∙ ap (λ l. b ∷ l) (go (base s b) refl apart)
    where
      go : (o : Option ℕ) → base s b ≡ o → holds (λ p. some_level s (λ c. nat_eq c b) p) o ≡ false → up_to b (of_block l.levels o) ≡ of_block l.levels o
      go None to h = up_to_none b
      go (Some p) to h = up_to_all b (l.levels p) (sym (has_level_same s l b (base_bounded s b p to) p) ∙ h)

  -- no walk outward comes to a block further inside
  never : Nested s.blocks → (b k p : ℕ) → p < b → some_along (encloser s) k (λ c. nat_eq c b) p ≡ false
  unfolding some_along
  never nested b zero p less = refl
  never nested b (suc k) p less = ap (λ t. t || at_next (λ c. some_along (encloser s) k (λ c. nat_eq c b) c) (encloser s p)) (other p b less) ∙ go (λ q near. never nested b k q near) (encloser s p) refl
    where
      other : (p b : ℕ) → p < b → nat_eq p b ≡ false
      other p b less = grind (arith, nat_tests)

      go : ((q : ℕ) → q < b → some_along (encloser s) k (λ c. nat_eq c b) q ≡ false) → (o : Option ℕ) → encloser s p ≡ o → at_next (λ c. some_along (encloser s) k (λ c. nat_eq c b) c) o ≡ false
      go deep None to = refl
      go deep (Some q) to = deep q (let near : q < p = further s nested p q to in omega arith)

  pub scopes_of_around : Nested s.blocks → (b : ℕ) → l.outward b ≡ b ∷ of_block l.outward (encloser s b)
  scopes_of_around nested b = l.of_outward b ∙ ap (λ l. b ∷ l) (go (encloser s b) refl)
    where
      go : (o : Option ℕ) → encloser s b ≡ o → up_to b (of_block l.outward o) ≡ of_block l.outward o
      go None to = up_to_none b
      go (Some p) to =
          up_to_all b (l.outward p)
          (sym (finds_some (encloser s) (λ c. nat_eq c b) (length s.blocks) (encloser_bounded s) l.outward l.of_outward (λ c far. (let less : b < length s.blocks = encloser_bounded s b p to in above c b (omega arith))) p)
          ∙ never nested b (length s.blocks) p (further s nested b p to))
        where
          above : (c b : ℕ) → b < c → nat_eq c b ≡ false
          above c b less = grind (arith, nat_tests)
