-- The innermost class that the prefix chains of two classes share.
use Rattle.std.specs.Prelude.{◌≡◌, ℕ, true, Some, None}
use Rattle.sim_base.specs.declared.numbering.DeclNo.{DeclNo}
use Rattle.sim_scope.specs.Levels.{class_block, has_level, owner_of_level, shared_class}
use Rattle.sim_scope.specs.Tables.{Tables}

-- Two classes have a class in common: it is a level of both, and each further level of both is one of its own levels, which lie further out.
pub record HaveInCommon (s : Tables) (c d class : DeclNo) : Type 0 where
  pub first : ℕ
  pub first_is : class_block s c ≡ Some first
  pub other : ℕ
  pub other_is : class_block s d ≡ Some other
  pub level : ℕ
  pub owned : owner_of_level s (Some level) ≡ Some class
  pub of_first : has_level s first level ≡ true
  pub of_other : has_level s other level ≡ true
  pub innermost : (block : ℕ) → has_level s first block ≡ true → has_level s other block ≡ true → has_level s level block ≡ true

-- each level of a class is a class
abbrev pub HasClasses : Tables → (block : ℕ) → Type 0
HasClasses s block = (level : ℕ) → has_level s block level ≡ true → owner_of_level s (Some level) ≡ None → ⊥

abbrev pub InnermostInCommon : Type 0
InnermostInCommon = (s : Tables) (c d class : DeclNo) → shared_class s c d ≡ Some class → HaveInCommon s c d class

-- where they have none in common, no level is of both
abbrev pub NoneInCommon : Type 0
NoneInCommon =
    (s : Tables) (c d : DeclNo) (first other level : ℕ) → shared_class s c d ≡ None → class_block s c ≡ Some first → class_block s d ≡ Some other
    → HasClasses s first → has_level s first level ≡ true → has_level s other level ≡ true → ⊥
