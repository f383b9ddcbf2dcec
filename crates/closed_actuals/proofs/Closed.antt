-- An actual parameter that is closed later has the tree that it would have had where it was passed.
use Rattle.std.proofs.Common.{◌≡◌, ℕ, ◌+◌, List, [], ◌∷◌, refl, sym, ap, ◌∙◌, subst}
use Rattle.sim_scope.specs.Source.{Source}
use Rattle.sim_code.specs.Instances.{at_level}
use Rattle.sim_code.specs.Outcome.{after}
use Rattle.sim_code.proofs.Growing.{after_more}
use Rattle.sim_meaning.specs.Meaning.{do_chain, opening, step}
use Rattle.sim_meaning.specs.Pending.{Activation, Configuration, Do, Eval, Instances}
use Rattle.sim_meaning.specs.Sane.{Lives, SaneOn, StaysSane}
use Rattle.sim_meaning.specs.Steps.{go}
use Rattle.closed_actuals.specs.Closed.{ClosesAlike, ClosesAsWherePassed, EvaluatesTheTree, Moments, Operates, OperatesOn, WasEntered}
use Rattle.closed_actuals.proofs.Closing.{close_passed_same, close_same}
use Rattle.closed_actuals.proofs.Paths.{later_last, lives_within, reached_enclosed, same_level}

-- who operates lives
operates_lives : (m : Instances) (chain : List Activation) (home : ℕ) → SaneOn m chain → OperatesOn home chain → Lives m home
operates_lives m [] home sane is = absurd is
operates_lives m (a ∷ rest) home sane is = subst (Lives m) is sane.0

module _ (s : Source) (sane : StaysSane s) (t : Moments s) (home : ℕ) (before : WasEntered home t.earlier) where
  level_same : Operates home t.later → (level : ℕ) → at_level (t.later).memory level home ≡ at_level (t.earlier).memory level home
  level_same behind level =
      let lives = operates_lives (t.later).memory (t.later).chain home (sane t.limits t.input (t.steps + t.more) t.later_world t.later t.comes_later) behind in
      let steps = sym (after_more Configuration (step s t.limits) t.steps t.more (opening s t.limits t.input)) ∙ t.comes_later in
      let from_then = ap (after (step s t.limits) t.more) (sym t.reaches) ∙ steps in
      same_level (t.earlier).memory (t.later).memory (later_last s t.limits t.more t.world t.later_world t.earlier t.later from_then) (reached_enclosed s sane t.limits t.input t.steps t.world t.earlier t.reaches) level home before lives

  alike_there : Operates home t.later → ClosesAlike s t home
  alike_there behind = record {
    passed = λ as_procedure e. close_passed_same s (t.earlier).memory (t.later).memory home (level_same behind) as_procedure e;
    itself = λ e. close_same s (t.earlier).memory (t.later).memory home (level_same behind) e;
  }

  evaluates_there : EvaluatesTheTree s t home
  evaluates_there as_procedure e w vals below is o =
      ap (do_chain s t.limits o (t.later).memory) is
      ∙ ap (λ x. go o (t.later).memory home (Do (Eval x) ∷ w) vals below) ((alike_there (subst (OperatesOn home) (sym is) refl)).passed as_procedure e)

operates_entered : (s : Source) → StaysSane s → (t : Moments s) (home : ℕ) → Operates home t.earlier → WasEntered home t.earlier
operates_entered s sane t home is = lives_within (t.earlier).memory home (operates_lives (t.earlier).memory (t.earlier).chain home (sane t.limits t.input t.steps t.world t.earlier t.reaches) is)

pub closes_as_where_passed : (s : Source) → StaysSane s → ClosesAsWherePassed s
closes_as_where_passed s sane = record {
  operating = operates_entered s sane;
  alike = λ t home before behind. alike_there s sane t home before behind;
  evaluates = λ t home before. evaluates_there s sane t home before;
}
