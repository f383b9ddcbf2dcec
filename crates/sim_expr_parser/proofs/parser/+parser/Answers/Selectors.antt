-- Selectors, and lists of actual parameters.
use Rattle.std.proofs.Common.{◌≡◌, length, true, false, [], ◌∷◌, ◌++◌, refl, map, sym, ap, ◌∙◌, subst, arith, length-append, Ok}
use Rattle.std.proofs.lemmas.Bool.{eqb-true}
use Rattle.std.specs.Prelude.{vec_len}
use Rattle.sim_base.specs.declared.token.TokenKind.TheVariants as k
use Rattle.sim_tree.specs.Grammar as g
use Rattle.sim_tree.specs.Grammar.{Once, Maybe, Many, Of, Mark, is, just}
use Rattle.sim_tree.specs.Reading.{done, node, kind_at, reads-skip, after-skip}
use Rattle.sim_tree.specs.Derivation.{derivation_of, raise, row, selector_derivation, whole, argument, arguments}
use Rattle.sim_tree.proofs.DerivationLemmas.{derivation-Dot, derivation-Qua, derivation-Postfix}
use Rattle.sim_expr_parser.specs.Parsing.{listed, GivesLevel, GivesRow, GivesTo, GivesNext, GivesList}
use Rattle.sim_expr_parser.proofs.Tables.{by_test, args_symbols, more_symbols, dot_symbols, qua_symbols, selected_dot, selected_qua, no_selected, only, one_row, just_is}
use Rattle.sim_tree.proofs.Steps.{start, past-one, leads-as}
use Rattle.sim_expr_parser.proofs.Tokens.{took_one}
use Rattle.sim_expr_parser.proofs.Shapes.{arguments-some, listed-more, selected-some, some-mapped}
use Rattle.sim_expr_parser.proofs.Steps.{to-as, to-list, stops-at, leads-stops, opened, to, stops, stops-in, gone, level-made, level-up, once, maybe, skipped, marked, kept, once-stops, mark-stops, exit, row-start, row-more, row-end, row-stops, no-items, some-items}
use Rattle.sim_expr_parser.proofs.parser.+parser.Goals as goal

pub postfix-returns-in_err-first : goal.postfix-returns-in_err-first
postfix-returns-in_err-first u c =
    let ws = c.args.source.now in
    let d = c.args.depth in
    let i = c.args.at in
    let sy = Of Once g.Primary ∷ Of Many g.Selection ∷ [] in
    let w0 = opened ws d i g.Postfix sy refl (only g.Postfix sy (kind_at ws i) refl) c.requires.within in
    let e = c.in_err-first.field-0.0 in
    let r = c.from_residual in
    exit (λ r. GivesLevel ws d 1 i r) r.result e r.ensures.1
    (stops w0 e (once-stops ws d i g.Primary e c.in_err-first.ensures))

pub postfix-returns-in_err-rest : goal.postfix-returns-in_err-rest
postfix-returns-in_err-rest u c =
    let ws = c.args.source.now in
    let d = c.args.depth in
    let i = c.args.at in
    let sy = Of Once g.Primary ∷ Of Many g.Selection ∷ [] in
    let w0 = opened ws d i g.Postfix sy refl (only g.Postfix sy (kind_at ws i) refl) c.requires.within in
    let w1 = to w0 (once c.in_ok-first.ensures.1) in
    let e = c.in_err-rest.field-0.0 in
    let r = c.from_residual-in_err-rest in
    exit (λ r. GivesLevel ws d 1 i r) r.result e r.ensures.1
    (stops w1 e c.in_err-rest.ensures)

pub postfix-returns-then-is_empty : goal.postfix-returns-then-is_empty
postfix-returns-then-is_empty u c =
    let ws = c.args.source.now in
    let d = c.args.depth in
    let i = c.args.at in
    let sy = Of Once g.Primary ∷ Of Many g.Selection ∷ [] in
    let w0 = opened ws d i g.Postfix sy refl (only g.Postfix sy (kind_at ws i) refl) c.requires.within in
    let w1 = to w0 (once c.in_ok-first.ensures.1) in
    let w2 = to w1 c.in_ok-rest.ensures in
    let none = no-items c.in_ok-rest.rest.items (sym c.in_ok-rest.rest.ok.0 ∙ eqb-true (vec_len c.in_ok-rest.rest) 0 (sym c.if-is_empty.ensures)) in
    level-up 0 c.in_ok-first.first c.in_ok-first.ensures.0 w2 (ap (λ l. node g.Primary (raise 0 (derivation_of c.in_ok-first.first)) (row g.Selection (map selector_derivation l) done)) none)

pub postfix-returns : goal.postfix-returns
postfix-returns u c =
    let ws = c.args.source.now in
    let d = c.args.depth in
    let i = c.args.at in
    let sy = Of Once g.Primary ∷ Of Many g.Selection ∷ [] in
    let w0 = opened ws d i g.Postfix sy refl (only g.Postfix sy (kind_at ws i) refl) c.requires.within in
    let w1 = to w0 (once c.in_ok-first.ensures.1) in
    let w2 = to w1 c.in_ok-rest.ensures in
    let some = some-items c.in_ok-rest.rest.items (vec_len c.in_ok-rest.rest) c.in_ok-rest.rest.ok.0 (sym c.if-is_empty.ensures) in
    let y = c.in_ok-primary.primary in
    let v = c.in_ok-rest.rest in
    level-made 1 _ _ (derivation-Postfix y v ∙ selected-some (derivation_of y.value) (map selector_derivation v.items) (some-mapped selector_derivation v.items some)) refl w2
    (ap (λ z. node g.Primary (raise 0 (derivation_of z)) (row g.Selection (map selector_derivation v.items) done)) (sym c.in_ok-primary.ensures.ok))

pub selectors-loop-rest-init : goal.selectors-loop-rest-init
selectors-loop-rest-init u c =
    record {
      goes = row-start selector_derivation c.new-rest.result.items c.new-rest.ensures.items;
      ahead = omega arith;
      within = c.requires.within;
    }

pub selectors-returns-in_err-taken : goal.selectors-returns-in_err-taken
selectors-returns-in_err-taken u c =
    let ws = c.args.source.now in
    let d = c.args.depth in
    let i = c.args.start in
    let e = c.in_err-taken.field-0.0 in
    let r = c.from_residual in
    exit (λ r. GivesRow ws d g.Selection i (λ v. map selector_derivation v.items) r) r.result e r.ensures.1
    (row-stops ws d i c.loop-rest.at g.Selection _ c.loop-rest.invariant.goes e c.in_err-taken.ensures)

pub selectors-loop-rest-preserved : goal.selectors-loop-rest-preserved
selectors-loop-rest-preserved u c =
    let ws = c.args.source.now in
    let d = c.args.depth in
    let l = c.loop-rest in
    let p = (subst (λ r. GivesNext ws d g.Selection l.at selector_derivation (Ok r)) c.in-Some.is c.in_ok-taken.ensures).1 in
    record {
      goes = row-more selector_derivation l.rest.items c.add.new.list.items c.in-Some.taken (selector_derivation c.in-Some.taken) l.invariant.goes p c.in_ok-add.ensures refl;
      ahead = omega (arith, l.invariant.ahead, p.ahead);
      within = p.within;
    }

pub selectors-returns : goal.selectors-returns
selectors-returns u c =
    let ws = c.args.source.now in
    let d = c.args.depth in
    let l = c.loop-rest in
    row-end selector_derivation l.rest.items l.invariant.goes (subst (λ r. GivesNext ws d g.Selection l.at selector_derivation (Ok r)) c.in_default.is c.in_ok-taken.ensures) l.invariant.ahead l.invariant.within

pub selector-returns-in_err-name : goal.selector-returns-in_err-name
selector-returns-in_err-name u c =
    let ws = c.args.source.now in
    let d = c.args.depth in
    let i = c.args.at in
    let w = c.in-Some.ensures in
    let n = c.token_no-token.result in
    let m0 = opened ws d i g.Selection dot_symbols refl (by_test g.Selection (kind_at ws i) k.Dot dot_symbols w.0 selected_dot) c.requires.within in
    let m1 = to m0 (kept n.0 c.token_no-token.ensures (took_one ws i c.in-Some.next k.Dot refl w)) in
    let e = c.in_err-name.field-0.0 in
    let r = c.from_residual in
    exit (λ r. GivesNext ws d g.Selection i selector_derivation r) r.result e r.ensures.1
    (stops-in Many m1 e (c.in_err-name.ensures d))

pub selector-returns-in_err-arguments : goal.selector-returns-in_err-arguments
selector-returns-in_err-arguments u c =
    let ws = c.args.source.now in
    let d = c.args.depth in
    let i = c.args.at in
    let w = c.in-Some.ensures in
    let n = c.token_no-token.result in
    let m0 = opened ws d i g.Selection dot_symbols refl (by_test g.Selection (kind_at ws i) k.Dot dot_symbols w.0 selected_dot) c.requires.within in
    let m1 = to m0 (kept n.0 c.token_no-token.ensures (took_one ws i c.in-Some.next k.Dot refl w)) in
    let m2 = to m1 (c.in_ok-name.ensures d) in
    let e = c.in_err-arguments.field-0.0 in
    let r = c.from_residual-in_err-arguments in
    exit (λ r. GivesNext ws d g.Selection i selector_derivation r) r.result e r.ensures.1
    (stops-in Many m2 e c.in_err-arguments.ensures)

pub selector-returns-in-Some : goal.selector-returns-in-Some
selector-returns-in-Some u c =
    let ws = c.args.source.now in
    let d = c.args.depth in
    let i = c.args.at in
    let w = c.in-Some.ensures in
    let n = c.token_no-token.result in
    let m0 = opened ws d i g.Selection dot_symbols refl (by_test g.Selection (kind_at ws i) k.Dot dot_symbols w.0 selected_dot) c.requires.within in
    let m1 = to m0 (kept n.0 c.token_no-token.ensures (took_one ws i c.in-Some.next k.Dot refl w)) in
    let m2 = to m1 (c.in_ok-name.ensures d) in
    let m3 = to m2 c.in_ok-arguments.ensures in
    (omega (arith, w.1, (c.in_ok-name.ensures d).ahead, c.in_ok-arguments.ensures.ahead), gone m3 _ (sym (derivation-Dot n c.in_ok-name.name c.in_ok-arguments.arguments)))

pub selector-returns-in_default-eat : goal.selector-returns-in_default-eat
selector-returns-in_default-eat u c =
    let ws = c.args.source.now in
    let i = c.args.at in
    no_selected (kind_at ws i) c.in_default.ensures c.in_default-eat.ensures

pub selector-returns-in_err-class : goal.selector-returns-in_err-class
selector-returns-in_err-class u c =
    let ws = c.args.source.now in
    let d = c.args.depth in
    let i = c.args.at in
    let w = c.in-Some-eat.ensures in
    let n = c.token_no-token.result in
    let m0 = opened ws d i g.Selection qua_symbols refl (by_test g.Selection (kind_at ws i) k.Qua qua_symbols w.0 selected_qua) c.requires.within in
    let m1 = to m0 (kept n.0 c.token_no-token.ensures (took_one ws i c.in-Some-eat.next k.Qua refl w)) in
    let e = c.in_err-class.field-0.0 in
    let r = c.from_residual-in_err-class in
    exit (λ r. GivesNext ws d g.Selection i selector_derivation r) r.result e r.ensures.1
    (stops-in Many m1 e (c.in_err-class.ensures d))

pub selector-returns : goal.selector-returns
selector-returns u c =
    let ws = c.args.source.now in
    let d = c.args.depth in
    let i = c.args.at in
    let w = c.in-Some-eat.ensures in
    let n = c.token_no-token.result in
    let m0 = opened ws d i g.Selection qua_symbols refl (by_test g.Selection (kind_at ws i) k.Qua qua_symbols w.0 selected_qua) c.requires.within in
    let m1 = to m0 (kept n.0 c.token_no-token.ensures (took_one ws i c.in-Some-eat.next k.Qua refl w)) in
    let m2 = to m1 (c.in_ok-class.ensures d) in
    (omega (arith, w.1, (c.in_ok-class.ensures d).ahead), gone m2 _ (sym (derivation-Qua n c.in_ok-class.class)))

pub arguments-returns-in_default : goal.arguments-returns-in_default
arguments-returns-in_default u c =
    let ws = c.args.source.now in
    let i = c.args.at in
    to-as (λ f. f) (arguments (map derivation_of c.new.result.items)) (λ f. ap (λ l. arguments (map derivation_of l) f) (sym c.new.ensures.items))
    (skipped (one_row g.Arguments (just k.Open) args_symbols (kind_at ws i) false refl (just_is _ _ _ c.in_default.ensures)) c.requires.within)

pub arguments-returns-in_err-list : goal.arguments-returns-in_err-list
arguments-returns-in_err-list u c =
    let ws = c.args.source.now in
    let d = c.args.depth in
    let i = c.args.at in
    let w = c.in-Some.ensures in
    let m0 = opened ws d i g.Arguments args_symbols refl (one_row g.Arguments (just k.Open) args_symbols (kind_at ws i) true refl (just_is _ _ _ w.0)) c.requires.within in
    let m1 = to m0 (marked w) in
    let e = c.in_err-list.field-0.0 in
    let r = c.from_residual in
    exit (λ r. GivesTo ws d (Of Maybe g.Arguments) i (λ v. arguments (map derivation_of v.items)) r) r.result e r.ensures.1
    (stops-at Maybe m1 e (c.in_err-list.ensures (Mark k.Close ∷ [])))

pub arguments-returns-in_err-end : goal.arguments-returns-in_err-end
arguments-returns-in_err-end u c =
    let ws = c.args.source.now in
    let d = c.args.depth in
    let i = c.args.at in
    let w = c.in-Some.ensures in
    let m0 = opened ws d i g.Arguments args_symbols refl (one_row g.Arguments (just k.Open) args_symbols (kind_at ws i) true refl (just_is _ _ _ w.0)) c.requires.within in
    let m1 = to m0 (marked w) in
    let m2 = to-list m1 c.in_ok-list.ensures.1 in
    let e = c.in_err-end.field-0.0 in
    let r = c.from_residual-in_err-end in
    exit (λ r. GivesTo ws d (Of Maybe g.Arguments) i (λ v. arguments (map derivation_of v.items)) r) r.result e r.ensures.1
    (stops-in Maybe m2 e (mark-stops ws d c.in_ok-list.next k.Close e c.in_err-end.ensures))

pub arguments-returns : goal.arguments-returns
arguments-returns u c =
    let ws = c.args.source.now in
    let d = c.args.depth in
    let i = c.args.at in
    let w = c.in-Some.ensures in
    let m0 = opened ws d i g.Arguments args_symbols refl (one_row g.Arguments (just k.Open) args_symbols (kind_at ws i) true refl (just_is _ _ _ w.0)) c.requires.within in
    let m1 = to m0 (marked w) in
    let m2 = to-list m1 c.in_ok-list.ensures.1 in
    let m3 = to m2 (marked c.in_ok-end.ensures) in
    let l = map derivation_of c.in_ok-list.list.items in
    to-as (node g.Arguments (listed l done)) (arguments l) (λ f. sym (arguments-some l f (some-mapped derivation_of c.in_ok-list.list.items c.in_ok-list.ensures.0)))
    (maybe (gone m3 (listed l done) refl))

pub argument_list-returns-in_err-first : goal.argument_list-returns-in_err-first
argument_list-returns-in_err-first u c =
    let ws = c.args.source.now in
    let d = c.args.depth in
    let i = c.args.start in
    let e = c.in_err-first.field-0.0 in
    let r = c.from_residual in
    exit (λ r. GivesList ws d i r) r.result e r.ensures.1
    (λ s. once-stops ws d i g.Expression e c.in_err-first.ensures (Of Many g.NextArgument ∷ s))

pub argument_list-loop-next-init : goal.argument_list-loop-next-init
argument_list-loop-next-init u c =
    let d = c.args.depth in
    let i = c.args.start in
    let x = c.in_ok-first.first in
    let p = c.in_ok-first.ensures.1 in
    let items : c.add.new.list.items ≡ x ∷ [] = c.in_ok-add.ensures ∙ ap (λ l. l ++ x ∷ []) c.new-list.ensures.items in
    record {
      goes = λ s. leads-as (λ f. node g.Expression (whole (derivation_of x)) f) (listed (map derivation_of c.add.new.list.items)) (λ f. ap (λ l. listed (map derivation_of l) f) (sym items))
          (past-one (start d (Of Once g.Expression ∷ Of Many g.NextArgument ∷ s) i) p);
      some = omega (arith, ap length items);
      ahead = p.ahead;
      within = p.within;
    }

pub argument_list-returns-in_err-argument : goal.argument_list-returns-in_err-argument
argument_list-returns-in_err-argument u c =
    let ws = c.args.source.now in
    let d = c.args.depth in
    let i = c.args.start in
    let l = c.loop-next in
    let at = l.at in
    let w = c.in-Some.ensures in
    let m0 = opened ws d at g.NextArgument more_symbols refl (one_row g.NextArgument (just k.Comma) more_symbols (kind_at ws at) true refl (just_is _ _ _ w.0)) l.invariant.within in
    let m1 = to m0 (marked w) in
    let e = c.in_err-argument.field-0.0 in
    let r = c.from_residual-in_err-argument in
    exit (λ r. GivesList ws d i r) r.result e r.ensures.1
    (λ s. leads-stops (l.invariant.goes s) e (stops-in Many m1 e (once-stops ws d c.in-Some.next g.Expression e c.in_err-argument.ensures) s))

pub argument_list-loop-next-preserved : goal.argument_list-loop-next-preserved
argument_list-loop-next-preserved u c =
    let ws = c.args.source.now in
    let d = c.args.depth in
    let l = c.loop-next in
    let at = l.at in
    let w = c.in-Some.ensures in
    let m0 = opened ws d at g.NextArgument more_symbols refl (one_row g.NextArgument (just k.Comma) more_symbols (kind_at ws at) true refl (just_is _ _ _ w.0)) l.invariant.within in
    let m1 = to m0 (marked w) in
    let x = c.in_ok-argument.argument in
    let p = c.in_ok-argument.ensures.1 in
    let items = c.in_ok-add-2.ensures in
    let part = gone (to m1 (once p)) (node g.Expression (whole (derivation_of x)) done) refl in
    record {
      goes = λ s. leads-as (λ h. listed (map derivation_of l.list.items) (node g.NextArgument (argument (derivation_of x)) h)) (listed (map derivation_of c.add-in-Some.new.list.items)) (λ h. listed-more l.list.items c.add-in-Some.new.list.items x h l.invariant.some items)
          (past-one (l.invariant.goes s) part);
      some = omega (arith, ap length items, length-append l.list.items (x ∷ []));
      ahead = omega (arith, l.invariant.ahead, w.1, p.ahead);
      within = p.within;
    }

pub argument_list-returns : goal.argument_list-returns
argument_list-returns u c =
    let ws = c.args.source.now in
    let l = c.loop-next in
    let none = one_row g.NextArgument (just k.Comma) more_symbols (kind_at ws l.at) false refl (just_is _ _ _ c.in_default.ensures) in (
      l.invariant.some,
      record {
        reads = λ s f m q. (l.invariant.goes s).reads f m (reads-skip none refl q);
        fails = λ s e q. (l.invariant.goes s).fails e (after-skip none refl q);
        ahead = l.invariant.ahead;
        within = l.invariant.within;
      },
    )

pub selector-arguments-requires : goal.selector-arguments-requires
selector-arguments-requires u c =
    let q = c.in_ok-name.ensures 0 in
    (omega (arith, c.decreases), (q.within, c.requires.shallow))

pub selectors-loop-rest-smaller : goal.selectors-loop-rest-smaller
selectors-loop-rest-smaller u c =
    let p = subst (λ r. GivesNext c.args.source.now c.args.depth g.Selection c.loop-rest.at selector_derivation (Ok r)) c.in-Some.is c.in_ok-taken.ensures in
    omega (arith, p.0, p.1.within)
