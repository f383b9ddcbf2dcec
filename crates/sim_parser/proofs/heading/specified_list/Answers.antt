use Rattle.std.proofs.Common.{◌≡◌, ◌∷◌, [], ◌++◌, length, arith, ap, sym, ◌∙◌, Ok, Err}
use Rattle.sim_tree.specs.Grammar.{Many, Of, one_of}
use Rattle.sim_tree.specs.Reading.{kind_at}
use Rattle.sim_expr_parser.proofs.Steps.{exit, leads-stops, once-stops}
use Rattle.sim_parser.specs.Fronts.{GivesSome, begins_specification}
use Rattle.sim_parser.proofs.HeadingSteps.{rows-start, rows-more, rows-end, more-some, many-stops}
use Rattle.sim_parser.proofs.heading.specified_list.Goals as goal

pub returns-in_err-first : goal.returns-in_err-first
returns-in_err-first g c = λ d n view b each.
    let ws = c.args.source.now in
    let i = c.args.start in
    let e = c.in_err-first.field-0.0 in
    let r = c.from_residual in
    exit (λ r. GivesSome ws d n i view r) r.result e r.ensures.1 (once-stops ws d i n e (each i (Err e) c.requires.within c.in_err-first.ensures) (Of Many n ∷ []))

pub loop-item_at-init : goal.loop-item_at-init
loop-item_at-init g c =
    let i = c.args.start in
    let x = c.in_ok-first.first in
    let j = c.in_ok-first.at in
    let items : c.push.new.self.items ≡ x ∷ [] = c.in_ok-push.ensures.items ∙ ap (λ l. l ++ x ∷ []) c.new-list.ensures.items in
    let gone = c.requires.reader.ahead i x j c.requires.within c.in_ok-first.ensures in
    record {
      goes = λ d n view b each. rows-start view c.push.new.self.items x items (each i (Ok (x, j)) c.requires.within c.in_ok-first.ensures);
      some = omega (arith, ap length items);
      ahead = gone.0;
      within = gone.1;
    }

pub returns-in_err-next : goal.returns-in_err-next
returns-in_err-next g c = λ d n view b each.
    let ws = c.args.source.now in
    let i = c.args.start in
    let l = c.loop-item_at in
    let e = c.in_err-next.field-0.0 in
    let r = c.from_residual-in_err-next in
    let row = (b (kind_at ws l.at)).0 (ap (one_of begins_specification) (sym c.kind_at.ensures) ∙ sym c.loop-item_at-test.ensures) in
    exit (λ r. GivesSome ws d n i view r) r.result e r.ensures.1
    (leads-stops (l.invariant.goes d n view b each) e (many-stops ws d l.at n row.0 row.1 e (each l.at (Err e) l.invariant.within c.in_err-next.ensures) []))

pub loop-item_at-smaller : goal.loop-item_at-smaller
loop-item_at-smaller g c =
    let l = c.loop-item_at in
    let x = c.in_ok-next.next in
    let j = c.in_ok-next.end in
    omega (arith, c.requires.ahead l.at x j l.invariant.within c.in_ok-next.ensures, (c.requires.reader.ahead l.at x j l.invariant.within c.in_ok-next.ensures).1)

pub loop-item_at-preserved : goal.loop-item_at-preserved
loop-item_at-preserved g c =
    let l = c.loop-item_at in
    let y = c.in_ok-next.next in
    let j = c.in_ok-next.end in
    let ys = c.push-in-loop-item_at.new.self.items in
    let gone = c.requires.reader.ahead l.at y j l.invariant.within c.in_ok-next.ensures in
    record {
      goes = λ d n view b each. rows-more view l.list.items ys y (l.invariant.goes d n view b each) (each l.at (Ok (y, j)) l.invariant.within c.in_ok-next.ensures) c.in_ok-push-2.ensures.items;
      some = more-some l.list.items ys y c.in_ok-push-2.ensures.items;
      ahead = omega (arith, l.invariant.ahead, gone.0);
      within = gone.1;
    }

pub returns : goal.returns
returns g c = λ d n view b each.
    let ws = c.args.source.now in
    let l = c.loop-item_at in
    let none = (b (kind_at ws l.at)).1 (ap (one_of begins_specification) (sym c.kind_at.ensures) ∙ sym c.loop-item_at-test.ensures) in
    (l.invariant.some, rows-end view l.list.items (l.invariant.goes d n view b each) none l.invariant.ahead l.invariant.within)
