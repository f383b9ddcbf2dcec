use Rattle.std.proofs.Common.{◌≡◌, ℕ, List, refl, subst}
use Rattle.sim_base.specs.declared.token.Token.{Token}
use Rattle.sim_tree.specs.Grammar as g
use Rattle.sim_tree.specs.Grammar.{Symbol, right_side, is}
use Rattle.sim_tree.specs.Reading.{Forest, kind_at, value_at, Reads, Fails, Fault, Unexpected}
use Rattle.sim_tree.specs.Claim.{IsFirstBad, one}
use Rattle.sim_tree.specs.Derivation.{raise}
use Rattle.sim_tree.specs.Tree.{limit}
use Rattle.sim_tree.proofs.Completion.{first_bad}
use Rattle.sim_tree.proofs.Decide.{Answer, Read, Faulty, run, Sound, sound}
use Rattle.sim_tree.proofs.grammar.examples.Goals as goal

-- what the grammar computes, it gives
tree : {ws : List Token} {f : Forest} {j : ℕ} → run 200 limit ws 0 (one g.Program) 0 ≡ Read f j → Reads limit ws 0 (one g.Program) 0 f j
tree {ws} {f} {j} e = let P : Answer → Type 0 = Sound limit ws 0 (one g.Program) 0 in subst P e (sound limit ws 200 0 (one g.Program) 0)

fault : {most : ℕ} {ws : List Token} {x : Fault} → run 200 most ws 0 (one g.Program) 0 ≡ Faulty x → Fails most ws 0 (one g.Program) 0 x
fault {most} {ws} {x} e = let P : Answer → Type 0 = Sound most ws 0 (one g.Program) 0 in subst P e (sound most ws 200 0 (one g.Program) 0)

bad : {ws : List Token} {k : ℕ} → run 200 limit ws 0 (one g.Program) 0 ≡ Faulty (Unexpected k) → IsFirstBad ws (one g.Program) 0 k
bad {ws} {k} e = first_bad limit 0 ws g.Program 0 k (fault e)

pub returns-clause-empty : goal.returns-clause-empty
unfolding run right_side is kind_at value_at raise
returns-clause-empty c = tree refl

pub returns-clause-two : goal.returns-clause-two
unfolding run right_side is kind_at value_at raise
returns-clause-two c = tree refl

pub returns-clause-nearest : goal.returns-clause-nearest
unfolding run right_side is kind_at value_at raise
returns-clause-nearest c = tree refl

pub returns-clause-prefix : goal.returns-clause-prefix
unfolding run right_side is kind_at value_at raise
returns-clause-prefix c = tree refl

pub returns-clause-prefixed : goal.returns-clause-prefixed
unfolding run right_side is kind_at value_at raise
returns-clause-prefixed c = tree refl

pub returns-clause-nothing : goal.returns-clause-nothing
unfolding run right_side is kind_at value_at raise
returns-clause-nothing c = bad refl

pub returns-clause-no_value : goal.returns-clause-no_value
unfolding run right_side is kind_at value_at raise
returns-clause-no_value c = bad refl

pub returns-clause-late : goal.returns-clause-late
unfolding run right_side is kind_at value_at raise
returns-clause-late c = bad refl

pub returns-clause-no_comma : goal.returns-clause-no_comma
unfolding run right_side is kind_at value_at raise
returns-clause-no_comma c = bad refl

pub returns-clause-chained : goal.returns-clause-chained
unfolding run right_side is kind_at value_at raise
returns-clause-chained c = bad refl

pub returns-clause-no_class : goal.returns-clause-no_class
unfolding run right_side is kind_at value_at raise
returns-clause-no_class c = bad refl

pub returns-clause-behind : goal.returns-clause-behind
unfolding run right_side is kind_at value_at raise
returns-clause-behind c = bad refl

pub returns-clause-deep_expression : goal.returns-clause-deep_expression
unfolding run right_side is kind_at value_at raise
returns-clause-deep_expression c = fault refl

pub returns-clause-deep_statement : goal.returns-clause-deep_statement
unfolding run right_side is kind_at value_at raise
returns-clause-deep_statement c = fault refl

pub returns-clause-deep_body : goal.returns-clause-deep_body
unfolding run right_side is kind_at value_at raise
returns-clause-deep_body c = fault refl
