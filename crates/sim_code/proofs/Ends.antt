-- The end of an object among the components.
use Rattle.std.proofs.Common.{◌≡◌, ℕ, Bool, true, false, List, [], ◌∷◌, ◌++◌, Option, Some, None, refl, sym, ap, subst, ◌∙◌}
use Rattle.std.proofs.lemmas.Bool.{eqb-true}
use Rattle.std.proofs.lemmas.Option.{get_or_from_slice_get}
use Rattle.std.specs.Prelude.{if◌then◌else◌, slice_get, slice_index_or, slice_set}
use Rattle.std.specs.Option.{option_map}
use Rattle.sim_chains.specs.Chains.{Cut, cut_at, is_instance, under}
use Rattle.sim_chains.specs.Components.{AttachedObject, Components, NoObject, ResumedObject, Standing, TerminatedObject, dropped, finish, finish_by, returned, with_standing}
use Rattle.sim_chains.proofs.Cuts.{is_itself}
use Rattle.sim_code.specs.Outcome.{World}
use Rattle.sim_code.specs.Instances.{Memory, ended_as, going_below, main_goes_on, object_ended, system_head}
use Rattle.sim_code.specs.Transfers.{EndsAsComponent, Finishes, GoesOn, before}
use Rattle.sim_code.proofs.Moves.{goes_on}

-- ---- cuts below the object on top

module _ (A : Type 0) (owner : A → Option ℕ) (j : ℕ) (top : A) (below : List A) (is : owner top ≡ Some j) where
  abbrev At : ℕ → Bool → Option (Cut A)
  At x here = if here then Some (record { above = []; here = top; below = below }) else option_map (under top) (cut_at owner x below)

  top_cut : cut_at owner j (top ∷ below) ≡ Some (record { above = []; here = top; below = below })
  top_cut = ap (At j) (ap (is_instance j) is ∙ is_itself j)

  other_cut : (s : ℕ) (k : Cut A) → (s ≡ j → ⊥) → cut_at owner s below ≡ Some k → cut_at owner s (top ∷ below) ≡ Some (under top k)
  other_cut s k other cut = ap (At s) (ap (is_instance s) is ∙ by_test (is_instance s (Some j)) refl) ∙ ap (option_map (under top)) cut
    where
      by_test : (b : Bool) → is_instance s (Some j) ≡ b → is_instance s (Some j) ≡ false
      by_test true same = absurd (other (sym (eqb-true j s same)))
      by_test false differ = differ

-- ---- ends

module _ (C A : Type 0) (owner : A → Option ℕ) (o : World) (top : A) (below : List A) (m : Memory C A) (j : ℕ) (is : owner top ≡ Some j) where
  -- what is left of the components
  leaves : (operating : List A) (standings : List (Standing A)) → finish owner (system_head m) (before (top ∷ below) m) j ≡ record { operating = operating; standings = standings }
      → object_ended owner o m j below ≡ going_below o operating (record m { standings = standings }) → Finishes owner o top below m j
  leaves operating standings finished ended =
      subst (λ (c : Components A). GoesOn o m c c.operating (object_ended owner o m j below)) (sym finished)
      (subst (λ r. GoesOn o m (record { operating = operating; standings = standings }) operating r) (sym ended) (goes_on C A o m operating standings))

  attached_ends : slice_get m.standings j ≡ Some AttachedObject → Finishes owner o top below m j
  unfolding object_ended
  attached_ends at =
      let c = before (top ∷ below) m in
      let finished : finish owner (system_head m) c j ≡ record { operating = below; standings = slice_set m.standings j TerminatedObject } =
      ap (λ x. finish_by owner x c (system_head m j) j) (get_or_from_slice_get m.standings j AttachedObject (NoObject None) at)
      ∙ ap (λ k. with_standing j TerminatedObject (returned owner k c)) (top_cut A owner j top below is) in
      leaves below (slice_set m.standings j TerminatedObject) finished (ap (ended_as owner o m j below) at)

  resumed_ends : (main : List A) (k : Cut A) → slice_get m.standings j ≡ Some ResumedObject → slice_get m.standings (system_head m j) ≡ Some (NoObject (Some main)) → cut_at owner (system_head m j) below ≡ Some k → (system_head m j ≡ j → ⊥) → Finishes owner o top below m j
  unfolding object_ended
  resumed_ends main k at kept cut other =
      let c = before (top ∷ below) m in
      let s = system_head m j in
      let left = slice_set (slice_set m.standings s (NoObject None)) j TerminatedObject in
      let finished : finish owner (system_head m) c j ≡ record { operating = main ++ k.here ∷ k.below; standings = left } =
      ap (λ x. finish_by owner x c s j) (get_or_from_slice_get m.standings j ResumedObject (NoObject None) at)
      ∙ ap (λ z. with_standing j TerminatedObject (dropped owner z (slice_index_or m.standings s (NoObject None)) s c)) (other_cut A owner j top below is s k other cut)
      ∙ ap (λ z. with_standing j TerminatedObject (dropped owner (Some (under top k)) z s c)) (get_or_from_slice_get m.standings s (NoObject (Some main)) (NoObject None) kept) in
      leaves (main ++ k.here ∷ k.below) left finished
      (ap (ended_as owner o m j below) at ∙ ap (λ z. main_goes_on owner o m j s z (slice_get m.standings s)) cut ∙ ap (main_goes_on owner o m j s (Some k)) kept)

  pub object_ends : EndsAsComponent owner o top below m j
  object_ends = record { attached = attached_ends; resumed = resumed_ends }
