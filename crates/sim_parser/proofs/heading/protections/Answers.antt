use Rattle.std.proofs.Common.{arith, refl, map}
use Rattle.sim_tree.specs.Grammar as g
use Rattle.sim_tree.specs.Grammar.{Many}
use Rattle.sim_tree.specs.Reading.{done, node}
use Rattle.sim_tree.specs.ProgramDerivation.{ids, protecting, protection_derivation}
use Rattle.sim_expr_parser.specs.Parsing.{GivesRow}
use Rattle.sim_expr_parser.proofs.Steps.{exit, row-more, row-end, row-stops}
use Rattle.sim_parser.proofs.HeadingSteps.{names-end, names-first-stop, names-last-stop}
use Rattle.sim_parser.proofs.heading.protections.Goals as goal

pub identifiers-requires : goal.identifiers-requires
identifiers-requires c = record { within = (c.in-Some.ensures 0).within }

pub returns-in_err-names : goal.returns-in_err-names
returns-in_err-names c = λ d.
    let ws = c.args.source.now in
    let l = c.loop-words in
    let e = c.in_err-names.field-0.0 in
    let r = c.from_residual in
    exit (λ r. GivesRow ws d g.Protection c.args.start (λ v. map protection_derivation v.items) r) r.result e r.ensures.1
    (row-stops ws d c.args.start l.at g.Protection _ (l.invariant.goes d) e (λ s. (c.in-Some.ensures d).fails e (names-first-stop ws d c.in-Some.next e (c.in_err-names.ensures d)) s Many))

pub expect-requires-clause-within : goal.expect-requires-clause-within
expect-requires-clause-within c = (c.in_ok-names.ensures 0).within

pub returns-in_err-end : goal.returns-in_err-end
returns-in_err-end c = λ d.
    let ws = c.args.source.now in
    let l = c.loop-words in
    let e = c.in_err-end.field-0.0 in
    let r = c.from_residual-in_err-end in
    let q = c.in-Some.ensures d in
    exit (λ r. GivesRow ws d g.Protection c.args.start (λ v. map protection_derivation v.items) r) r.result e r.ensures.1
    (row-stops ws d c.args.start l.at g.Protection _ (l.invariant.goes d) e (λ s. q.fails e (names-last-stop e q.within (c.in_ok-names.ensures d) c.in_err-end.ensures) s Many))

pub loop-words-smaller : goal.loop-words-smaller
loop-words-smaller c = omega (arith, (c.in-Some.ensures 0).ahead, (c.in_ok-names.ensures 0).ahead, c.in_ok-end.ensures.1, c.in_ok-end.ensures.2)

pub loop-words-preserved : goal.loop-words-preserved
loop-words-preserved c =
    let l = c.loop-words in
    let x = c.in-Some.words in
    let f = protecting x.hidden x.protected (node g.Identifiers (ids c.in_ok-names.names.items) done) in
    record {
      goes = λ d.
          let q = c.in-Some.ensures d in
          row-more protection_derivation l.list.items c.push.new.self.items _ f (l.invariant.goes d) (q.reads _ _ (names-end c.in_ok-names.names.items q.within (c.in_ok-names.ensures d) c.in_ok-end.ensures)) c.in_ok-push.ensures.items refl;
      ahead = omega (arith, l.invariant.ahead, (c.in-Some.ensures 0).ahead, (c.in_ok-names.ensures 0).ahead, c.in_ok-end.ensures.1);
      within = c.in_ok-end.ensures.2;
    }

pub returns : goal.returns
returns c = λ d.
    let l = c.loop-words in
    row-end protection_derivation l.list.items (l.invariant.goes d) c.in_default.ensures l.invariant.ahead l.invariant.within
