-- What the number of a class is for on both sides: a reference may stand where those of the class stand, or E7.
use Rattle.std.proofs.Common.{◌≡◌, ℕ, suc, Bool, Some, sym, ◌∙◌, subst}
use Rattle.std.specs.Prelude.{pos}
use Rattle.sim_scope.specs.Source.{Source}
use Rattle.sim_values.specs.Plain.{Character, Integer, Nothing, Object, Plain, Text, Truth, MainOf}
use Rattle.sim_code.specs.Classes as classes
use Rattle.sim_code.specs.Code.{CodeOf}
use Rattle.sim_code.specs.Events.{choosing, having, qualifying}
use Rattle.sim_code.specs.Machine.{Frames, Machine}
use Rattle.sim_code.specs.Machine as machine
use Rattle.sim_code.specs.Outcome.{Run, World}
use Rattle.sim_code.specs.Rows as rows
use Rattle.sim_code.proofs.Lifts.{alike_choosing, alike_found, alike_stopping, alike_unruled}
use Rattle.sim_code.proofs.Simulation.{Alike}
use Rattle.sim_meaning.specs.Levels.{stands_in}
use Rattle.sim_meaning.specs.Pending.{Configuration, Instances}
use Rattle.sim_meaning.specs.Pending as meaning
use Rattle.sim_meaning.specs.Sane.{Names}
use Rattle.codegen_expr.specs.Sites.{class_number}
use Rattle.codegen.specs.Compiled.{Compiled}
use Rattle.sim_relate.proofs.ClassLevels.{class_levels, counts, number_is}
use Rattle.sim_relate.proofs.ClassTexts.{class_has}
use Rattle.sim_relate.proofs.ObjectsHere.{class_named, main_in_same, object_in_same}
use Rattle.sim_relate.proofs.Relation.{StateAt, StoreAt}
use Rattle.sim_relate.proofs.Trees.{Classed}

-- the number of a class is not 0
pub class_counts : (s : Source) (code : CodeOf) → Compiled s code → (c : ℕ) → Classed s c → (n : ℕ) × (class_number s code c ≡ suc n)
class_counts s code compiled c h =
    let x = class_has s code compiled c (class_levels s code compiled c h) in
    let y = counts s code compiled c x in
    (y.0, number_is s code compiled c x ∙ y.1)

module _ (s : Source) (code : CodeOf) (compiled : Compiled s code) (o : World) (m : Instances) (fs : Frames) (store : StoreAt s code m fs) (c : ℕ) (h : Classed s c) where
  abbrev R : Configuration → Machine → Type 0
  R = StateAt s code

  -- the record of a class is there
  pub number_found : (r : Run Configuration) (z : ℕ → Run Machine) → Alike R r (z (class_number s code c)) → Alike R r (rows.qualified code (pos (class_number s code c)) o z)
  number_found r z f = let n = class_counts s code compiled c h in by_number n.0 n.1
    where
      by_number : (n : ℕ) → class_number s code c ≡ suc n → Alike R r (rows.qualified code (pos (class_number s code c)) o z)
      by_number n e =
          let named : classes.class_named code (pos (suc n)) ≡ Some (class_number s code c) = subst (λ y. classes.class_named code (pos y) ≡ Some (class_number s code c)) e (class_named s code compiled m fs store c h) in
          subst (λ y. Alike R r (rows.qualified code (pos y) o z)) (sym e) (alike_found Configuration Machine R ℕ (classes.class_named code (pos (suc n))) (class_number s code c) o r z named f)

  stands_alike : (line : ℕ) (p : Plain) → Names s m (meaning.Of p) → (r : Run Configuration) (z : Run Machine) → Alike R r z → Alike R (qualifying line (stands_in s m c) p o r) (classes.qualifying line (classes.may_stand code fs (class_number s code c) (Some p)) o z)
  unfolding qualifying having choosing
  stands_alike line (Object j) n r z f =
      alike_found Configuration Machine R Bool (classes.in_class code fs (class_number s code c) j) (stands_in s m c (Object j)) o _ _ (object_in_same s code compiled m fs store j c n h) (alike_choosing Configuration Machine R (stands_in s m c (Object j)) r _ z _ f (alike_stopping Configuration Machine R _ o))
  stands_alike line (MainOf j) n r z f =
      alike_found Configuration Machine R Bool (classes.main_in_class code fs (class_number s code c) j) (stands_in s m c (MainOf j)) o _ _ (main_in_same s code compiled m fs store j c n h) (alike_choosing Configuration Machine R (stands_in s m c (MainOf j)) r _ z _ f (alike_stopping Configuration Machine R _ o))
  stands_alike line Nothing n r z f = f
  stands_alike line (Integer x) n r z f = alike_unruled Configuration Machine R o _
  stands_alike line (Truth x) n r z f = alike_unruled Configuration Machine R o _
  stands_alike line (Character x) n r z f = alike_unruled Configuration Machine R o _
  stands_alike line (Text x) n r z f = alike_unruled Configuration Machine R o _

  pub admitting_alike : (line : ℕ) (p : Plain) → Names s m (meaning.Of p) → (r : Run Configuration) (z : Run Machine) → Alike R r z → Alike R (qualifying line (stands_in s m c) p o r) (classes.admitting code fs line (class_number s code c) (machine.Of p) o z)
  admitting_alike line p n r z f = let y = class_counts s code compiled c h in by_count y.0 y.1
    where
      by_count : (i : ℕ) → class_number s code c ≡ suc i → Alike R (qualifying line (stands_in s m c) p o r) (classes.admitting code fs line (class_number s code c) (machine.Of p) o z)
      by_count i e =
          subst (λ d. Alike R (qualifying line (stands_in s m c) p o r) (classes.admitting code fs line d (machine.Of p) o z)) (sym e)
          (subst (λ d. Alike R (qualifying line (stands_in s m c) p o r) (classes.qualifying line (classes.may_stand code fs d (Some p)) o z)) e (stands_alike line p n r z f))
