use Rattle.std.proofs.Common.{◌∷◌, arith, Ok, Err}
use Rattle.sim_tree.specs.Grammar.{Many, Of}
use Rattle.sim_expr_parser.proofs.Steps.{exit}
use Rattle.sim_parser.specs.CommaLists.{GivesItems}
use Rattle.sim_parser.proofs.ListSteps.{list-first, list-more, list-stops, list-ends}
use Rattle.sim_parser.proofs.lists.comma_list.Goals as goal

pub returns-in_err-first : goal.returns-in_err-first
returns-in_err-first g c = λ d item next view f each.
    let ws = c.args.source.now in
    let i = c.args.start in
    let e = c.in_err-first.field-0.0 in
    let r = c.from_residual in
    exit (λ r. GivesItems ws d item next i view r) r.result e r.ensures.1 (λ s. each i (Err e) c.requires.within c.in_err-first.ensures (Of Many next ∷ s))

pub loop-next-init : goal.loop-next-init
loop-next-init g c =
    let i = c.args.start in
    let x = c.in_ok-first.first in
    let j = c.in_ok-first.at in
    let gone = c.requires.reader.ahead i x j c.requires.within c.in_ok-first.ensures in
    record {
      goes = λ d item next view f each. list-first view c.new-list.result.items c.add.new.list.items x (each i (Ok (x, j)) c.requires.within c.in_ok-first.ensures) c.new-list.ensures.items c.in_ok-add.ensures;
      ahead = gone.0;
      within = gone.1;
    }

pub eat-requires-clause-within : goal.eat-requires-clause-within
eat-requires-clause-within g c = c.loop-next.invariant.within

pub returns-in_err-item : goal.returns-in_err-item
returns-in_err-item g c = λ d item next view f each.
    let ws = c.args.source.now in
    let i = c.args.start in
    let l = c.loop-next in
    let e = c.in_err-item.field-0.0 in
    let r = c.from_residual-in_err-item in
    exit (λ r. GivesItems ws d item next i view r) r.result e r.ensures.1
    (list-stops view l.list.items f (l.invariant.goes d item next view f each) l.invariant.within c.in-Some.ensures e (each c.in-Some.next (Err e) c.in-Some.ensures.2 c.in_err-item.ensures))

pub loop-next-smaller : goal.loop-next-smaller
loop-next-smaller g c =
    let w = c.in-Some.ensures in
    let gone = c.requires.reader.ahead c.in-Some.next c.in_ok-item.item c.in_ok-item.end w.2 c.in_ok-item.ensures in
    omega (arith, w.1, gone.0, gone.1)

pub loop-next-preserved : goal.loop-next-preserved
loop-next-preserved g c =
    let l = c.loop-next in
    let w = c.in-Some.ensures in
    let x = c.in_ok-item.item in
    let j = c.in_ok-item.end in
    let gone = c.requires.reader.ahead c.in-Some.next x j w.2 c.in_ok-item.ensures in
    record {
      goes = λ d item next view f each.
          list-more view l.list.items c.add-in-Some.new.list.items x f (l.invariant.goes d item next view f each) l.invariant.within w (each c.in-Some.next (Ok (x, j)) w.2 c.in_ok-item.ensures) c.in_ok-add-2.ensures;
      ahead = omega (arith, l.invariant.ahead, w.1, gone.0);
      within = gone.1;
    }

pub returns : goal.returns
returns g c = λ d item next view f each.
    let l = c.loop-next in
    list-ends view l.list.items f (l.invariant.goes d item next view f each) c.in_default.ensures l.invariant.ahead l.invariant.within
