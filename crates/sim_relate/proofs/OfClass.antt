-- What has the level of the class `process` is an object of a class.
use Rattle.std.proofs.Common.{◌≡◌, ◌⊎◌, inl, inr, ℕ, Bool, true, false, Option, Some, None, refl, sym, ap, ◌∙◌}
use Rattle.sim_scope.specs.declared.types.StandardClass.TheVariants as standard
use Rattle.sim_scope.specs.Source.{Source}
use Rattle.sim_meaning.specs.Levels.{is_class, is_process_class, is_process_itself, is_standard_text}
use Rattle.sim_meaning.specs.Texts.{BlockText, ClassText, ConnectionText, PrefixedText, ProcedureText, StandardText, Text, text}
use Rattle.codegen_expr.specs.Sites.{LevelOf, innermost, outer, prefix_of}
use Rattle.codegen.specs.Agrees.{Agrees, is_prefixed}
use Rattle.codegen.specs.CodeStm.{is_class_text}
use Rattle.sim_relate.proofs.Known.{HasClass, is_process_in}

pub process_is : (x : Option Text) → is_standard_text is_process_class x ≡ true → x ≡ Some (StandardText standard.Process)
process_is None e = absurd (cc (e))
process_is (Some (BlockText begin ds ss)) e = absurd (cc (e))
process_is (Some (ProcedureText result h a)) e = absurd (cc (e))
process_is (Some (ClassText prefix h ds ss)) e = absurd (cc (e))
process_is (Some (PrefixedText class es ds ss)) e = absurd (cc (e))
process_is (Some ConnectionText) e = absurd (cc (e))
process_is (Some (StandardText standard.Linkage)) e = absurd (cc (e))
process_is (Some (StandardText standard.Link)) e = absurd (cc (e))
process_is (Some (StandardText standard.Head)) e = absurd (cc (e))
process_is (Some (StandardText standard.Process)) e = refl

module _ (s : Source) (agrees : Agrees s) where
  pub class_owns : (k : ℕ) → is_class (text s k) ≡ true → HasClass s k
  class_owns k class p level process = by (text s k) refl class
    where
      by : (x : Option Text) → text s k ≡ x → is_class x ≡ true → (is_class_text (text s k) ≡ true) ⊎ (k ≡ p)
      by None e c = absurd (cc (c))
      by (Some (BlockText begin ds ss)) e c = absurd (cc (c))
      by (Some (ProcedureText result h a)) e c = absurd (cc (c))
      by (Some (PrefixedText class es ds ss)) e c = absurd (cc (c))
      by (Some ConnectionText) e c = absurd (cc (c))
      by (Some (ClassText prefix h ds ss)) e c = inl (ap is_class_text e)
      by (Some (StandardText which)) e c = inr (agrees.standards k p which e (process_is (text s p) process) level)

  -- a block with a prefix does not have it
  pub block_owns : (k : ℕ) → is_prefixed s.tables k ≡ true → HasClass s k
  block_owns k prefixed p level process = absurd (agrees.blocks k p standard.Process prefixed level (process_is (text s p) process))

  pub block_ordinary : (k : ℕ) → is_prefixed s.tables k ≡ true → (p : ℕ) → LevelOf s.tables k p → is_process_itself s p ≡ false
  unfolding is_process_itself
  block_ordinary k prefixed p level = by (is_process_in s p) refl
    where
      by : (c : Bool) → is_process_in s p ≡ c → is_process_in s p ≡ false
      by true e = absurd (agrees.blocks k p standard.Process prefixed level (process_is (text s p) e))
      by false e = e

-- nor has what has nothing in front of it
pub alone_ordinary : (s : Source) (k : ℕ) → prefix_of s.tables k ≡ None → is_process_in s k ≡ false → (p : ℕ) → LevelOf s.tables k p → is_process_itself s p ≡ false
unfolding is_process_itself
alone_ordinary s k alone made _ innermost = made
alone_ordinary s k alone made p (outer e more) = let none = sym alone ∙ e in absurd (cc (none))

pub alone_owns : (s : Source) (k : ℕ) → prefix_of s.tables k ≡ None → is_process_in s k ≡ false → HasClass s k
alone_owns s k alone made _ innermost process = let bare : false ≡ true = sym made ∙ process in absurd (cc (bare))
alone_owns s k alone made p (outer e more) process = let none = sym alone ∙ e in absurd (cc (none))
