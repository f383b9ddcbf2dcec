use Rattle.std.proofs.Common.{◌≡◌, ℕ, None, MatchOption, sym, ap, subst}
use Rattle.std.specs.Option.{is_some}
use Rattle.sim_tree.specs.Grammar as g
use Rattle.sim_tree.specs.Grammar.{right_side}
use Rattle.sim_tree.specs.Reading.{kind_at}
use Rattle.sim_tree.specs.ProgramDerivation.{protecting}
use Rattle.sim_parser.specs.Fronts.{ReadsFront, names_row}
use Rattle.sim_parser.proofs.HeadingSteps.{hidden-front, protected-front, no-words}
use Rattle.sim_parser.proofs.heading.protecting_words.Goals as goal

pub returns-then-is_some : goal.returns-then-is_some
returns-then-is_some c = λ d.
    hidden-front c.args.source.now d c.args.at c.word-hidden.result.1 c.word-protected.result.1 c.word-hidden.result.0 c.word-protected.result.0 c.requires.within c.word-hidden.ensures c.word-protected.ensures (sym c.if-is_some.ensures)

pub returns-in_err-protected : goal.returns-in_err-protected
returns-in_err-protected c =
    let ws = c.args.source.now in
    subst (λ r. MatchOption r (right_side g.Protection (kind_at ws c.args.at) ≡ None) (λ r. (d : ℕ) → ReadsFront ws d g.Protection c.args.at (protecting r.0.hidden r.0.protected) names_row r.1)) (sym c.from_residual.ensures)
    (no-words ws c.args.at c.word-hidden.result.1 c.word-protected.result.1 c.word-hidden.result.0 c.word-protected.result.0 c.word-hidden.ensures (sym c.if-is_some.ensures) c.word-protected.ensures (ap is_some c.in_err-protected.was))

pub returns : goal.returns
returns c = λ d.
    protected-front c.args.source.now d c.args.at c.word-hidden.result.1 c.word-protected.result.1 c.word-hidden-2.result.1 c.word-hidden.result.0 c.word-protected.result.0 c.word-hidden-2.result.0 c.requires.within
    c.word-hidden.ensures (sym c.if-is_some.ensures) c.word-protected.ensures (ap is_some c.in_ok-protected.was) c.word-hidden-2.ensures
