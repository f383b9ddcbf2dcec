-- What is seen from an instance that lives with its enclosers is found from it.
use Rattle.std.proofs.Common.{◌≡◌, ℕ, zero, suc, Bool, true, length, Option, Some, false, refl, sym, ap, ◌∙◌, subst}
use Rattle.std.proofs.lemmas.Option.{slice_get_within}
use Rattle.std.specs.Prelude.{◌==◌, if◌then◌else◌, slice_get}
use Rattle.sim_chains.specs.Components.{Standing}
use Rattle.sim_scope.specs.Source.{Source, level_of}
use Rattle.sim_code.specs.Instances.{Instance, Memory, at_level, entered, found_at, level_within, live, outward}
use Rattle.sim_meaning.specs.Pending.{Instances}
use Rattle.sim_meaning.specs.Sane.{Lives, lives_alone, lives_inside}
use Rattle.codegen_expr.specs.Sites.{Inside}
use Rattle.codegen.specs.Agrees.{Agrees}
use Rattle.sim_relate.proofs.Heads.{is_live_at, lives_in}
use Rattle.sim_relate.proofs.Lists.{append_at, append_before}
use Rattle.sim_relate.proofs.Reach.{equal_numbers, if_true, is_there, reach}
use Rattle.sim_relate.proofs.Known.{Finds, Reaches, Stands, seen_at, seen_within}

module _ {C A : Type 0} (m : Memory C A) where
  pub lives_now : (j : ℕ) → Lives m j → (x : Instance C) × (live m j ≡ Some x)
  lives_now j (lives_alone {x = x} lives alone) = (x, lives)
  lives_now j (lives_inside {x = x} lives out more) = (x, lives)

  found_as_seen : (look look' : ℕ → Option ℕ) (level j : ℕ) (x : Instance C) → live m j ≡ Some x → outward look x.encloser ≡ outward look' x.encloser → found_at level look j (live m j) ≡ found_at level look' j (slice_get m.instances j)
  found_as_seen look look' level j x lives out =
      ap (found_at level look j) lives ∙ ap (λ o. if x.level == level then Some j else o) out ∙ sym (ap (found_at level look' j) (is_live_at (slice_get m.instances j) x lives).there)

  within_as_seen : (n level j : ℕ) → Lives m j → level_within n m level j ≡ seen_within n m level j
  within_as_seen zero level j lives = refl
  within_as_seen (suc n) level j (lives_alone {x = x} lives alone) =
      found_as_seen (level_within n m level) (seen_within n m level) level j x lives (ap (outward (level_within n m level)) alone ∙ sym (ap (outward (seen_within n m level)) alone))
  within_as_seen (suc n) level j (lives_inside {e = e} {x = x} lives out more) =
      found_as_seen (level_within n m level) (seen_within n m level) level j x lives (ap (outward (level_within n m level)) out ∙ within_as_seen n level e more ∙ sym (ap (outward (seen_within n m level)) out))

  level_as_seen : (level j : ℕ) → Lives m j → at_level m level j ≡ seen_at m level j
  unfolding at_level seen_at
  level_as_seen level j lives = within_as_seen (suc j) level j lives

-- what is found from an instance that lives with its enclosers does so too
found_lives_in : {C A : Type 0} (m : Memory C A) (c : Bool) (j k : ℕ) (other : Option ℕ) → Lives m j → (other ≡ Some k → Lives m k) → (if c then Some j else other) ≡ Some k → Lives m k
found_lives_in m true j k other lives f e = let same : j ≡ k = cc (e) in subst (Lives m) same lives
found_lives_in m false j k other lives f e = f e

found_within : {C A : Type 0} (m : Memory C A) (n level j k : ℕ) → Lives m j → level_within n m level j ≡ Some k → Lives m k
found_within m zero level j k lives e = absurd (cc (e))
found_within m (suc n) level j k (lives_alone {x = x} lives alone) e =
    found_lives_in m (x.level == level) j k (outward (level_within n m level) x.encloser) (lives_alone lives alone) (λ f. absurd (cc (sym f ∙ ap (outward (level_within n m level)) alone)))
    (sym (ap (found_at level (level_within n m level) j) lives) ∙ e)
found_within m (suc n) level j k (lives_inside {e = o} {x = x} lives out more) e =
    found_lives_in m (x.level == level) j k (outward (level_within n m level) x.encloser) (lives_inside lives out more)
    (λ f. found_within m n level o k more (sym (ap (outward (level_within n m level)) out) ∙ f)) (sym (ap (found_at level (level_within n m level) j) lives) ∙ e)

pub found_lives : {C A : Type 0} (m : Memory C A) (level j k : ℕ) → Lives m j → at_level m level j ≡ Some k → Lives m k
unfolding at_level
found_lives m level j k lives e = found_within m (suc j) level j k lives e

-- what is reached is found
pub reached : (s : Source) (m : Instances) (from text j : ℕ) → Lives m from → Reaches s m from text j → at_level m (level_of s text) from ≡ Some j
reached s m from text j lives r = level_as_seen m (level_of s text) from lives ∙ r.found

pub reach_found : (s : Source) (m : Instances) (from t u : ℕ) → Agrees s → Stands s m from t → Lives m from → Inside s.tables t u → Finds s m from u
reach_found s m from t u agrees st lives within = let r = reach s m from t u agrees st within in (r.0, r.1, reached s m from u r.0 lives r.1)

-- an instance that lives is found at its own level
pub own_level : (s : Source) (m : Instances) (j t : ℕ) → Stands s m j t → Lives m j → at_level m (level_of s t) j ≡ Some j
unfolding seen_at
own_level s m j t st lives =
    let x = is_there s m st in
    level_as_seen m (level_of s t) j lives ∙ ap (found_at (level_of s t) (seen_within j m (level_of s t)) j) x.is ∙ if_true (x.now.level == level_of s t) (Some j) (outward (seen_within j m (level_of s t)) x.now.encloser) (equal_numbers x.now.level (level_of s t) x.level)

-- ---- behind an entry

module _ {C A : Type 0} (m : Memory C A) (x : Instance C) (p : Standing A) where
  -- an instance that was entered lives
  pub new_lives : x.given_back ≡ false → live (entered m x p) (length m.instances) ≡ Some x
  new_lives e = lives_in (slice_get (entered m x p).instances (length m.instances)) x (append_at m.instances x) e

  still_lives : (j : ℕ) (y : Instance C) → live m j ≡ Some y → live (entered m x p) j ≡ Some y
  still_lives j y e =
      let a = is_live_at (slice_get m.instances j) y e in
      lives_in (slice_get (entered m x p).instances j) y (append_before m.instances x j (slice_get_within m.instances j y a.there) ∙ a.there) a.stays

  -- and what lived before does
  lives_entered : (j : ℕ) → Lives m j → Lives (entered m x p) j
  lives_entered j (lives_alone {x = y} e alone) = lives_alone (still_lives j y e) alone
  lives_entered j (lives_inside {e = o} {x = y} e out more) = lives_inside (still_lives j y e) out (lives_entered o more)

  pub new_lives_inside : x.given_back ≡ false → (e : ℕ) → x.encloser ≡ Some e → Lives m e → Lives (entered m x p) (length m.instances)
  new_lives_inside stays e out lives = lives_inside (new_lives stays) out (lives_entered e lives)
