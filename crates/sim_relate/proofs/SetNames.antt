-- The names that are done on linkages: their rows, and that they give a value where these say so.
use Rattle.std.proofs.Common.{◌≡◌, ℕ, Bool, true, false, List, Option, Some, None, refl, ap, sym}
use Rattle.std.specs.Prelude.{if◌then◌else◌}
use Rattle.simset.specs.Instances.{Memberships}
use Rattle.simset.specs.Sets.{Linkage, clear, follow, into, is_head_at, is_link_at, out, precede}
use Rattle.sim_values.specs.declared.standard.Standard.{Standard}
use Rattle.sim_values.specs.declared.standard.Standard.TheVariants as name
use Rattle.sim_values.specs.Plain.{Plain}
use Rattle.sim_values.specs.Standard.{elsewhere, row_of}
use Rattle.sim_code.specs.Sets.{SetEffect, becomes, gives, is_set_name, set_effect, to_head}
use Rattle.sim_meaning.specs.Statements.{has_value}
use Rattle.sim_relate.proofs.Standards.{is_some}

-- what they do is told elsewhere
pub set_elsewhere : (n : Standard) → is_set_name n ≡ true → (row_of n).function ≡ elsewhere
unfolding row_of
set_elsewhere name.Suc e = refl
set_elsewhere name.Pred e = refl
set_elsewhere name.Prev e = refl
set_elsewhere name.Out e = refl
set_elsewhere name.Follow e = refl
set_elsewhere name.Precede e = refl
set_elsewhere name.Into e = refl
set_elsewhere name.First e = refl
set_elsewhere name.Last e = refl
set_elsewhere name.Empty e = refl
set_elsewhere name.Cardinal e = refl
set_elsewhere name.Clear e = refl
set_elsewhere _ e = absurd (cc (e))

-- ---- values

-- an effect has a value, or has none
abbrev Valued : Bool → Option SetEffect → Type 0
Valued b r = (e : SetEffect) → r ≡ Some e → is_some e.value ≡ b

gives_value : (m : Memberships) (p : Plain) → Valued true (gives m p)
gives_value m p e h = let f : record { members = m; value = Some p } ≡ e = cc (h) in ap (λ z. is_some z.value) (sym f)

becomes_none : (m : Memberships) (sets : List Linkage) → Valued false (becomes m sets)
becomes_none m sets e h = let f : record { members = record m { sets = sets }; value = None } ≡ e = cc (h) in ap (λ z. is_some z.value) (sym f)

valued_if : (b c : Bool) (r : Option SetEffect) → Valued b r → Valued b (if c then r else None)
valued_if b true r f e h = f e h
valued_if b false r f e h = absurd (cc (h))

valued_head : (b : Bool) (m : Memberships) (p : Option ℕ) (r : Option SetEffect) → Valued b r → Valued b (to_head m p r)
valued_head b m None r f e h = f e h
valued_head b m (Some x) r f e h = valued_if b (is_head_at m.sets x) r f e h

pub set_valued : (n : Standard) (naming : ℕ → Plain) (m : Memberships) (x : ℕ) (p : Option ℕ) (e : SetEffect) → set_effect n naming m x p ≡ Some e → is_some e.value ≡ has_value (row_of n).result
unfolding row_of
set_valued name.Suc naming m x p e h = gives_value m _ e h
set_valued name.Pred naming m x p e h = gives_value m _ e h
set_valued name.Prev naming m x p e h = gives_value m _ e h
set_valued name.Out naming m x p e h = valued_if false (is_link_at m.sets x) _ (becomes_none m (out m.sets x)) e h
set_valued name.Follow naming m x p e h = valued_if false (is_link_at m.sets x) _ (becomes_none m (follow m.sets x p)) e h
set_valued name.Precede naming m x p e h = valued_if false (is_link_at m.sets x) _ (becomes_none m (precede m.sets x p)) e h
set_valued name.Into naming m x p e h = valued_if false (is_link_at m.sets x) _ (valued_head false m p _ (becomes_none m (into m.sets x p))) e h
set_valued name.First naming m x p e h = valued_if true (is_head_at m.sets x) _ (gives_value m _) e h
set_valued name.Last naming m x p e h = valued_if true (is_head_at m.sets x) _ (gives_value m _) e h
set_valued name.Empty naming m x p e h = valued_if true (is_head_at m.sets x) _ (gives_value m _) e h
set_valued name.Cardinal naming m x p e h = valued_if true (is_head_at m.sets x) _ (gives_value m _) e h
set_valued name.Clear naming m x p e h = valued_if false (is_head_at m.sets x) _ (becomes_none m (clear m.sets x)) e h
set_valued _ naming m x p e h = absurd (cc (h))
