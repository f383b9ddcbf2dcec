-- What reading answers, by what the bytes are.
use Rattle.std.specs.Prelude.{◌≡◌, ◌⊎◌, ℕ, ◌<◌, List, Result, Ok, Err}
use Rattle.std.specs.List.{AllByRecursion}
use Rattle.sim_code.specs.Code.{CodeOf}
use Rattle.code_file.specs.declared.fault.CodeRefusal.{CodeRefusal}
use Rattle.code_file.specs.declared.fault.CodeRefusal.TheVariants.{Broken, Memory}
use Rattle.code_file.specs.declared.rule.CodeRule.{CodeRule}
use Rattle.code_file.specs.Faults.{Breaks}
use Rattle.code_file.specs.Spelling.{Spells}

-- this code, or want of memory
abbrev pub Answers : CodeOf → Result CodeOf CodeRefusal → Type 0
Answers code (Ok given) = given ≡ code
Answers code (Err refusal) = refusal ≡ Memory

-- this rule at this place, or want of memory
abbrev pub IsRefusal : CodeRule → (place : ℕ) → CodeRefusal → Type 0
IsRefusal rule place Memory = Unit {0}
IsRefusal rule place (Broken r p) = (r ≡ rule) × (p ≡ place)

abbrev pub Refuses : CodeRule → (place : ℕ) → Result CodeOf CodeRefusal → Type 0
Refuses rule place (Ok code) = ⊥
Refuses rule place (Err refusal) = IsRefusal rule place refusal

-- the rule that is told is broken there
abbrev pub IsTold : List ℕ → CodeRefusal → Type 0
IsTold bytes Memory = Unit {0}
IsTold bytes (Broken rule place) = Breaks bytes rule place

-- one code and nothing wrong, or one rule that is broken at one place and no code
pub record IsSpelt (bytes : List ℕ) : Type 0 where
  pub code : CodeOf
  pub spells : Spells bytes code
  pub only : (other : CodeOf) → Spells bytes other → other ≡ code
  pub unbroken : (rule : CodeRule) (place : ℕ) → Breaks bytes rule place → ⊥

pub record IsBroken (bytes : List ℕ) : Type 0 where
  pub rule : CodeRule
  pub place : ℕ
  pub breaks : Breaks bytes rule place
  pub only_rule : (other : CodeRule) (at : ℕ) → Breaks bytes other at → other ≡ rule
  pub only_place : (other : CodeRule) (at : ℕ) → Breaks bytes other at → at ≡ place
  pub no_code : (code : CodeOf) → Spells bytes code → ⊥

abbrev pub OneOutcome : List ℕ → Type 0
OneOutcome bytes = AllByRecursion (λ b. b < 256) bytes → IsSpelt bytes ⊎ IsBroken bytes
