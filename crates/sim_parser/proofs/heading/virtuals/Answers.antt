use Rattle.std.proofs.Common.{map, refl, sym, ap}
use Rattle.sim_base.specs.declared.token.TokenKind.TheVariants as k
use Rattle.sim_tree.specs.Grammar as g
use Rattle.sim_tree.specs.Grammar.{Of, Maybe}
use Rattle.sim_tree.specs.Reading.{done, node}
use Rattle.sim_tree.specs.Derivation.{row}
use Rattle.sim_tree.specs.ProgramDerivation.{virtual_derivation, virtuals_derivation}
use Rattle.sim_expr_parser.specs.Parsing.{GivesTo}
use Rattle.sim_expr_parser.proofs.Steps.{to, to-as, stops-in, stops-at, exit, passed, maybe, marked, mark-stops}
use Rattle.sim_parser.specs.Fronts.{GivesSome}
use Rattle.sim_parser.proofs.Along.{closed-by}
use Rattle.sim_parser.proofs.HeadingSteps.{open-virtual, no-virtual, virtuals-some}
use Rattle.sim_parser.proofs.heading.virtuals.Goals as goal

pub returns-in_default : goal.returns-in_default
returns-in_default c = λ d.
    to-as (λ f. f) (virtuals_derivation c.new.result.items) (λ f. ap (λ l. virtuals_derivation l f) (sym c.new.ensures.items))
    (no-virtual c.args.source.now d c.args.at c.in_default.ensures c.requires.within)

pub returns-in_err-next : goal.returns-in_err-next
returns-in_err-next c = λ d.
    let ws = c.args.source.now in
    let i = c.args.at in
    let e = c.in_err-next.field-0.0 in
    let r = c.from_residual in
    exit (λ r. GivesTo ws d (Of Maybe g.Virtuals) i (λ v. virtuals_derivation v.items) r) r.result e r.ensures.1
    (stops-in Maybe (open-virtual ws d i c.in-Some.next c.requires.within c.in-Some.ensures) e (mark-stops ws d c.in-Some.next k.Colon e c.in_err-next.ensures))

pub returns : goal.returns
returns c = λ d.
    let ws = c.args.source.now in
    let i = c.args.at in
    let w = to (open-virtual ws d i c.in-Some.next c.requires.within c.in-Some.ensures) (marked c.in_ok-next.ensures) in
    passed (GivesSome ws d g.VirtualSpecification c.in_ok-next.next virtual_derivation) (GivesTo ws d (Of Maybe g.Virtuals) i (λ v. virtuals_derivation v.items))
    (λ x h. to-as (node g.Virtuals (row g.VirtualSpecification (map virtual_derivation x.0.items) done)) (virtuals_derivation x.0.items) (λ f. virtuals-some x.0.items f h.0) (maybe (closed-by w _ h.1 _ refl)))
    (λ e h. stops-at Maybe w e h)
    c.virtual_list.result (c.virtual_list.ensures d)
