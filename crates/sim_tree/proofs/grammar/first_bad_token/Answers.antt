use Rattle.std.proofs.Common.{◌≡◌, ℕ, ◌<◌, List, refl, arith}
use native.Mathlib.Decide.{dec_lt}
use Rattle.sim_base.specs.declared.token.Token.{Token}
use Rattle.sim_tree.specs.Grammar.{Symbol}
use Rattle.sim_tree.specs.Reading.{TooDeep}
use Rattle.sim_tree.specs.Claim.{IsFirstBad}
use Rattle.sim_tree.proofs.Completion.{begun, first_bad}
use Rattle.sim_tree.proofs.Bounded.{too_deep}
use Rattle.sim_tree.proofs.grammar.first_bad_token.Goals as goal

-- a bad token before another would have to be good
no_earlier : (ws : List Token) (s : List Symbol) (i k m : ℕ) → IsFirstBad ws s i k → IsFirstBad ws s i m → k < m → ⊥
no_earlier ws s i k m x y lt =
    let b = y.before in x.not_with b.whole (λ o le. b.same o (omega (arith, le, lt))) b.limit b.forest _ b.reads

pub returns-clause-unexpected : goal.returns-clause-unexpected
returns-clause-unexpected c = λ most ws d i k n h. first_bad most d ws n i k h

pub returns-clause-too_deep : goal.returns-clause-too_deep
returns-clause-too_deep c = λ most ws d i k n h. begun most d ws n i (TooDeep k) h

pub returns-clause-deep : goal.returns-clause-deep
returns-clause-deep c = λ most ws d i k n h whole same other f end r. too_deep most d ws _ i k h whole same other f end r

pub returns-clause-one_bad : goal.returns-clause-one_bad
returns-clause-one_bad c = λ ws s i k m x y. same ws s i k m x y (dec_lt k m) (dec_lt m k)
  where
    same : (ws : List Token) (s : List Symbol) (i k m : ℕ) → IsFirstBad ws s i k → IsFirstBad ws s i m → Dec (k < m) → Dec (m < k) → k ≡ m
    same ws s i k m x y (yes h) b = absurd (no_earlier ws s i k m x y h)
    same ws s i k m x y (no h) (yes l) = absurd (no_earlier ws s i m k y x l)
    same ws s i k m x y (no h) (no l) = omega (arith, h, l)

pub returns-clause-no_program : goal.returns-clause-no_program
returns-clause-no_program c = λ ws p k x b. b.not_with ws (λ o le. refl) _ _ _ x.reads
