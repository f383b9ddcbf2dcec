-- Whether a head has no link is told by whether it has a first one.
use Rattle.std.proofs.Common.{◌≡◌, ℕ, suc, List, [], ◌∷◌, length, refl, sym, ap, ◌∙◌, arith}
use Rattle.std.proofs.lemmas.Bool.Decides.{nat_tests}
use Rattle.std.specs.Prelude.{Bool, true, false, if◌then◌else◌, ◌==◌, Option, Some, None}
use Rattle.simset.specs.declared.rings.LinkageNo.{LinkageNo}
use Rattle.simset.specs.Instances.{Memberships, number_of}
use Rattle.simset.specs.Sets.{Head, Link, Linkage, cardinal_of, first, is_head, is_head_at, links_in, suc_of}
use Rattle.sim_values.specs.declared.standard.Standard.TheVariants as name
use Rattle.sim_values.specs.Plain.{Plain, Truth}
use Rattle.sim_code.specs.Sets.{gives, set_effect}
use Rattle.object_machine.specs.declared.sets.Came.TheVariants as came
use Rattle.object_machine.specs.SetRows.{CameAs}

none_in : (l : Option Linkage) (other : Option ℕ) (r : Option LinkageNo) → is_head l ≡ true → number_of r ≡ (if is_head l then first (links_in l) else other) → r ≡ None → (length (links_in l) == 0) ≡ true
none_in (Some (Head [])) other r h e none = refl
none_in (Some (Head (x ∷ xs))) other r h e none = let z : None ≡ Some x = sym (ap number_of none) ∙ e in absurd (cc)
none_in (Some Link) other r h e none = absurd (cc)
none_in None other r h e none = absurd (cc)

some_in : (l : Option Linkage) (other : Option ℕ) (r : Option LinkageNo) (y : LinkageNo) → is_head l ≡ true → number_of r ≡ (if is_head l then first (links_in l) else other) → r ≡ Some y → (length (links_in l) == 0) ≡ false
some_in (Some (Head [])) other r y h e some = let z : Some y.0 ≡ None = sym (ap number_of some) ∙ e in absurd (cc)
some_in (Some (Head (x ∷ xs))) other r y h e some = let z : (suc (length xs) == 0) ≡ false = grind (arith, nat_tests) in z
some_in (Some Link) other r y h e some = absurd (cc)
some_in None other r y h e some = absurd (cc)

told : (naming : ℕ → Plain) (o : Memberships) (x : ℕ) (p : Option ℕ) (b : Bool) → is_head_at o.sets x ≡ true → (cardinal_of o.sets x == 0) ≡ b → set_effect name.Empty naming o x p ≡ gives o (Truth b)
told naming o x p b h e = ap (λ z. if z then gives o (Truth (cardinal_of o.sets x == 0)) else None) h ∙ ap (λ z. gives o (Truth z)) e

pub without_links : (sets : List Linkage) (x : ℕ) (r : Option LinkageNo) → is_head_at sets x ≡ true → number_of r ≡ suc_of sets x → r ≡ None → (naming : ℕ → Plain) (o : Memberships) (p : Option ℕ) → o.sets ≡ sets → CameAs (came.Truth true) naming (set_effect name.Empty naming o x p) o sets
unfolding suc_of cardinal_of
without_links sets x r h e none naming o p same =
    (told naming o x p true (ap (λ z. is_head_at z x) same ∙ h) (none_in _ _ r (ap (λ z. is_head_at z x) same ∙ h) (e ∙ ap (λ z. suc_of z x) (sym same)) none), sym same)

pub with_links : (sets : List Linkage) (x : ℕ) (r : Option LinkageNo) (y : LinkageNo) → is_head_at sets x ≡ true → number_of r ≡ suc_of sets x → r ≡ Some y → (naming : ℕ → Plain) (o : Memberships) (p : Option ℕ) → o.sets ≡ sets → CameAs (came.Truth false) naming (set_effect name.Empty naming o x p) o sets
unfolding suc_of cardinal_of
with_links sets x r y h e some naming o p same =
    (told naming o x p false (ap (λ z. is_head_at z x) same ∙ h) (some_in _ _ r y (ap (λ z. is_head_at z x) same ∙ h) (e ∙ ap (λ z. suc_of z x) (sym same)) some), sym same)
