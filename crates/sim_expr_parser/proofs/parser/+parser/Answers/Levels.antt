-- Levels of operators and their operands.
use Rattle.std.proofs.Common.{◌≡◌, ◌+◌, ◌-◌, true, false, [], ◌∷◌, Some, None, refl, map, sym, ap, ◌∙◌, subst, arith, Ok, lit≤, add-one}
use Rattle.std.specs.Prelude.{nat_le}
use Rattle.sim_base.specs.declared.token.TokenKind.TheVariants as k
use Rattle.sim_tree.specs.Grammar as g
use Rattle.sim_tree.specs.Grammar.{Once, Maybe, Many, Of, Kept, is, one_of, signs}
use Rattle.sim_tree.specs.Reading.{done, node, kind_at, bare_leaf}
use Rattle.sim_tree.specs.Claim.{one}
use Rattle.sim_tree.specs.Derivation.{derivation_of, raise, row, item, operand_derivation, term_derivation, factor_derivation, sign_kind, multiplication_kind, relation_kind, membership_kind, identifier, level_part}
use Rattle.sim_tree.proofs.DerivationLemmas.{derivation-Member, derivation-Related, derivation-Sum, derivation-Product, derivation-Not, derivation-operand, derivation-term, derivation-factor}
use Rattle.sim_expr_parser.specs.Level.{under, operator, many}
use Rattle.sim_expr_parser.specs.Parsing.{GivesLevel, GivesRow, multiplications}
use Rattle.sim_expr_parser.proofs.Tables.{no_end, related, related_symbols, member_symbols, test_alone, only, one_row, open-item, no-item, took-item}
use Rattle.sim_expr_parser.specs.Level.{below_of, level_of}
use Rattle.sim_expr_parser.specs.declared.operators.Operators.TheVariants as operators
use Rattle.sim_expr_parser.specs.Operators.{GivesTail, IsRead}
use Rattle.sim_expr_parser.specs.Parsing.{Stops}
use Rattle.sim_expr_parser.proofs.Climbing.{climb, climb-stops, higher, with-tail, tail-stops, none-below, some-read, mapped-some, not-read, tail-stands, relation-stands, tail-at, tail-fails, extended-as, and-split, le-of, and-not, negated-plain, signed-plain, bare-plain, sign-stands}
use Rattle.sim_expr_parser.proofs.Shapes.{summed-is, operated-some, negated-some, multiplied-some, summed-some, sign-to, some-mapped}
use Rattle.sim_expr_parser.proofs.Steps.{opened, to, stops, stops-in, gone, level-made, once, maybe, kept, once-stops, exit, row-start, row-more, row-end, row-stops, map-twice}
use Rattle.sim_expr_parser.proofs.parser.+parser.Goals as goal

pub up_to_level-returns-in_err-negated : goal.up_to_level-returns-in_err-negated
up_to_level-returns-in_err-negated u c =
    let ws = c.args.source.now in
    let d = c.args.depth in
    let i = c.args.at in
    let top = c.args.top in
    let w = and-split (nat_le 7 top) (is (kind_at ws i) k.Not) (sym c.if-begins_with_not.ensures) in
    let e = c.in_err-negated.field-0.0 in
    let r = c.from_residual in
    exit (λ r. GivesLevel ws d top i r) r.result e r.ensures.1
    (climb-stops ws d i (top - 7) 7 top top e (omega (arith, le-of _ _ w.0)) (lit≤ tt) c.requires.simple (omega arith) (negated-plain ws i top) c.requires.within (c.in_err-negated.ensures w.1))

pub up_to_level-returns-then-begins_with_not : goal.up_to_level-returns-then-begins_with_not
up_to_level-returns-then-begins_with_not u c =
    let ws = c.args.source.now in
    let i = c.args.at in
    let top = c.args.top in
    let w = and-split (nat_le 7 top) (is (kind_at ws i) k.Not) (sym c.if-begins_with_not.ensures) in
    let p = c.in_ok-negated.ensures w.1 in
    c.raised.ensures i (record { low = p.0; part = p.1; plain = negated-plain ws i top })

pub up_to_level-returns-in_err-sum : goal.up_to_level-returns-in_err-sum
up_to_level-returns-in_err-sum u c =
    let ws = c.args.source.now in
    let d = c.args.depth in
    let i = c.args.at in
    let top = c.args.top in
    let w = and-split (nat_le 4 top) (one_of signs (kind_at ws i)) (sym c.if-begins_with_sign.ensures) in
    let not = and-not 7 top (is (kind_at ws i) k.Not) (sym c.if-begins_with_not.ensures) in
    let e = c.in_err-sum.field-0.0 in
    let r = c.from_residual-in_err-sum in
    exit (λ r. GivesLevel ws d top i r) r.result e r.ensures.1
    (climb-stops ws d i (top - 4) 4 top top e (omega (arith, le-of _ _ w.0)) (lit≤ tt) c.requires.simple (omega arith) (signed-plain ws i top not) c.requires.within (c.in_err-sum.ensures w.1))

pub up_to_level-returns-then-begins_with_sign : goal.up_to_level-returns-then-begins_with_sign
up_to_level-returns-then-begins_with_sign u c =
    let ws = c.args.source.now in
    let i = c.args.at in
    let top = c.args.top in
    let w = and-split (nat_le 4 top) (one_of signs (kind_at ws i)) (sym c.if-begins_with_sign.ensures) in
    let not = and-not 7 top (is (kind_at ws i) k.Not) (sym c.if-begins_with_not.ensures) in
    let p = c.in_ok-sum.ensures w.1 in
    c.raised-then-begins_with_sign.ensures i (record { low = p.0; part = p.1; plain = signed-plain ws i top not })

pub up_to_level-returns-in_err-operand : goal.up_to_level-returns-in_err-operand
up_to_level-returns-in_err-operand u c =
    let ws = c.args.source.now in
    let d = c.args.depth in
    let i = c.args.at in
    let top = c.args.top in
    let plain = bare-plain ws i top (and-not 4 top (one_of signs (kind_at ws i)) (sym c.if-begins_with_sign.ensures)) (and-not 7 top (is (kind_at ws i) k.Not) (sym c.if-begins_with_not.ensures)) in
    let e = c.in_err-operand.field-0.0 in
    let r = c.from_residual-in_err-operand in
    exit (λ r. GivesLevel ws d top i r) r.result e r.ensures.1
    (climb-stops ws d i (top - 1) 1 top top e (omega (arith, c.requires.level)) (lit≤ tt) c.requires.simple (omega arith) plain c.requires.within c.in_err-operand.ensures)

pub up_to_level-returns : goal.up_to_level-returns
up_to_level-returns u c =
    let ws = c.args.source.now in
    let i = c.args.at in
    let top = c.args.top in
    let plain = bare-plain ws i top (and-not 4 top (one_of signs (kind_at ws i)) (sym c.if-begins_with_sign.ensures)) (and-not 7 top (is (kind_at ws i) k.Not) (sym c.if-begins_with_not.ensures)) in
    let p = c.in_ok-operand.ensures in
    c.raised-2.ensures i (record { low = p.0; part = p.1; plain = plain })

pub raised-loop-operators-init : goal.raised-loop-operators-init
raised-loop-operators-init u c =
    record { goes = λ i r. r; within = c.requires.within; some = c.requires.level; low = c.requires.low }

pub raised-extended-requires : goal.raised-extended-requires
raised-extended-requires u c =
    (omega (arith, c.decreases, c.in-Some.ensures.within), (c.loop-operators.invariant.within, c.requires.shallow))

pub raised-returns-in_err-whole : goal.raised-returns-in_err-whole
raised-returns-in_err-whole u c =
    let ws = c.args.source.now in
    let d = c.args.depth in
    let top = c.args.top in
    let l = c.loop-operators in
    let o = c.in-Some.operators in
    let f = c.in-Some.ensures in
    let e = c.in_err-whole.field-0.0 in
    let r = c.from_residual-in_err-whole in
    λ i h. let p = l.invariant.goes i h in
    let q = climb (below_of o - l.reached) l.reached (below_of o) top (omega (arith, f.above)) l.invariant.some (omega (arith, f.within, c.requires.simple)) (omega (arith, f.within)) (none-below f) p in
    exit (λ r. GivesLevel ws d top i r) r.result e r.ensures.1
    (climb-stops ws d i (top - level_of o) (level_of o) top top e (omega (arith, f.within)) (omega arith) c.requires.simple (omega arith) (higher (omega (arith, f.above)) p.plain) (omega (arith, p.part.ahead, p.part.within))
    (tail-stops o top e f.within (subst (λ x. IsRead ws d i (below_of o) top x l.at) (sym c.in_ok-new.ensures.ok) q) (c.in_err-whole.ensures f.stand)))

pub raised-loop-operators-preserved : goal.raised-loop-operators-preserved
raised-loop-operators-preserved u c =
    let ws = c.args.source.now in
    let d = c.args.depth in
    let top = c.args.top in
    let l = c.loop-operators in
    let o = c.in-Some.operators in
    let f = c.in-Some.ensures in
    let tail = c.in_ok-whole.ensures f.stand in
    let number = c.operand-reached.ensures.number in
    record {
      goes = λ i h. let p = l.invariant.goes i h in
          let q = climb (below_of o - l.reached) l.reached (below_of o) top (omega (arith, f.above)) l.invariant.some (omega (arith, f.within, c.requires.simple)) (omega (arith, f.within)) (none-below f) p in
          let s = with-tail o top f.within (subst (λ x. IsRead ws d i (below_of o) top x l.at) (sym c.in_ok-new.ensures.ok) q) tail in
          let same : level_of o ≡ c.operand-reached.result + 1 = omega (arith, number) in
          subst (λ z. IsRead ws d i z top c.in_ok-whole.whole c.in_ok-whole.end) same s;
      within = tail.reads.within;
      some = omega arith;
      low = omega (arith, number, f.within);
    }

pub raised-loop-operators-smaller : goal.raised-loop-operators-smaller
raised-loop-operators-smaller u c =
    let f = c.in-Some.ensures in
    omega (arith, f.above, f.within, c.operand-reached.ensures.number, c.requires.simple)

pub raised-returns : goal.raised-returns
raised-returns u c =
    let top = c.args.top in
    let l = c.loop-operators in
    λ i h.
    let q = climb (top - l.reached) l.reached top top (omega (arith, l.invariant.low)) l.invariant.some c.requires.simple (omega arith) c.in_default.ensures (l.invariant.goes i h) in
    (q.low, q.part)

pub extended-returns-in-Relations : goal.extended-returns-in-Relations
extended-returns-in-Relations u c =
    λ h. extended-as c.args.source.now c.args.depth c.args.at c.args.first.value c.in-Relations.is c.relation.result (c.relation.ensures (h ∙ ap Some c.in-Relations.is))

pub extended-returns-in_err-terms-in-Signs : goal.extended-returns-in_err-terms-in-Signs
extended-returns-in_err-terms-in-Signs u c =
    let ws = c.args.source.now in
    let d = c.args.depth in
    let i = c.args.at in
    let y = c.args.first in
    let e = c.in_err-terms-in-Signs.field-0.0 in
    let r = c.from_residual in
    λ h. exit (λ r. GivesTail ws d i c.args.operators y.value r) r.result e r.ensures.1 (tail-fails ws d i {o = operators.Signs} e c.in-Signs.is c.in_err-terms-in-Signs.ensures)

pub extended-returns-in_err-factors-in-Multiplications : goal.extended-returns-in_err-factors-in-Multiplications
extended-returns-in_err-factors-in-Multiplications u c =
    let ws = c.args.source.now in
    let d = c.args.depth in
    let i = c.args.at in
    let y = c.args.first in
    let e = c.in_err-factors-in-Multiplications.field-0.0 in
    let r = c.from_residual-in_err-factors-in-Multiplications in
    λ h. exit (λ r. GivesTail ws d i c.args.operators y.value r) r.result e r.ensures.1 (tail-fails ws d i {o = operators.Multiplications} e c.in-Multiplications.is c.in_err-factors-in-Multiplications.ensures)

pub extended-returns-in_err-operands-in-Single : goal.extended-returns-in_err-operands-in-Single
extended-returns-in_err-operands-in-Single u c =
    let ws = c.args.source.now in
    let d = c.args.depth in
    let i = c.args.at in
    let y = c.args.first in
    let e = c.in_err-operands-in-Single.field-0.0 in
    let r = c.from_residual-in_err-operands-in-Single in
    λ h. exit (λ r. GivesTail ws d i c.args.operators y.value r) r.result e r.ensures.1 (tail-fails ws d i {o = operators.Single c.in-Single.level} e c.in-Single.is c.in_err-operands-in-Single.ensures)

pub extended-returns-in_ok-terms-in-Signs : goal.extended-returns-in_ok-terms-in-Signs
extended-returns-in_ok-terms-in-Signs u c =
    let ws = c.args.source.now in
    let i = c.args.at in
    let y = c.args.first in
    let v = c.in_ok-terms-in-Signs.terms in
    let fs = map term_derivation v.items in
    let read = c.in_ok-terms-in-Signs.ensures in
    λ h. let some = some-read fs read (tail-stands (kind_at ws i) operators.Signs (h ∙ ap Some c.in-Signs.is)) in
    let made = derivation-Sum None y v ∙ summed-some None (derivation_of y.value) fs some in
    tail-at {o = operators.Signs} c.in-Signs.is (record { tail = λ f. row g.NextTerm fs f; reads = read; level_is = ap (λ s. s.level) made; inside_is = ap (λ s. s.inside) made })

pub extended-returns-in_ok-factors-in-Multiplications : goal.extended-returns-in_ok-factors-in-Multiplications
extended-returns-in_ok-factors-in-Multiplications u c =
    let ws = c.args.source.now in
    let i = c.args.at in
    let y = c.args.first in
    let v = c.in_ok-factors-in-Multiplications.factors in
    let fs = map factor_derivation v.items in
    let read = c.in_ok-factors-in-Multiplications.ensures in
    λ h. let some = some-read fs read (tail-stands (kind_at ws i) operators.Multiplications (h ∙ ap Some c.in-Multiplications.is)) in
    let made = derivation-Product y v ∙ multiplied-some (derivation_of y.value) fs some in
    tail-at {o = operators.Multiplications} c.in-Multiplications.is (record { tail = λ f. row g.NextFactor fs f; reads = read; level_is = ap (λ s. s.level) made; inside_is = ap (λ s. s.inside) made })

pub extended-returns-in_ok-operands-in-Single : goal.extended-returns-in_ok-operands-in-Single
extended-returns-in_ok-operands-in-Single u c =
    let ws = c.args.source.now in
    let i = c.args.at in
    let y = c.args.first in
    let lv = c.in-Single.level in
    let v = c.in_ok-operands-in-Single.operands in
    let x = under lv in
    let kind = operator lv in
    let fs = map (λ o. item x kind (operand_derivation o)) v.items in
    let read = c.in_ok-operands-in-Single.ensures in
    λ h. let some = mapped-some (λ o. item x kind (operand_derivation o)) v.items (some-read fs read (tail-stands (kind_at ws i) (operators.Single lv) (h ∙ ap Some c.in-Single.is))) in
    let made = c.node.ensures ∙ operated-some x kind (many lv) (derivation_of y.value) (map operand_derivation v.items) (some-mapped operand_derivation v.items some) in
    tail-at {o = operators.Single lv} c.in-Single.is (record {
      tail = λ f. row (many lv) fs f;
      reads = read;
      level_is = ap (λ s. s.level) made ∙ add-one x;
      inside_is = ap (λ s. s.inside) made ∙ ap (λ l. node (level_part x) (raise x (derivation_of y.value)) (row (many lv) l done)) (sym (map-twice (item x kind) operand_derivation v.items));
    })

pub operands-loop-next-init : goal.operands-loop-next-init
operands-loop-next-init u c =
    let lv = c.args.level in
    record {
      goes = row-start (λ o. item (under lv) (operator lv) (operand_derivation o)) c.new-rest.result.items c.new-rest.ensures.items;
      ahead = omega arith;
      within = c.requires.within;
    }

pub operands-returns : goal.operands-returns
operands-returns u c =
    let ws = c.args.source.now in
    let lv = c.args.level in
    let l = c.loop-next in
    row-end (λ o. item (under lv) (operator lv) (operand_derivation o)) l.rest.items l.invariant.goes (no-item lv (kind_at ws l.at) (ap (λ z. is (kind_at ws l.at) z) (sym c.operator.ensures) ∙ c.in_default.ensures)) l.invariant.ahead l.invariant.within

pub operands-eat-requires-clause-no_end : goal.operands-eat-requires-clause-no_end
operands-eat-requires-clause-no_end u c = ap (is k.EndOfSource) c.operator.ensures ∙ no_end c.args.level

pub operands-returns-in_err-operand : goal.operands-returns-in_err-operand
operands-returns-in_err-operand u c =
    let ws = c.args.source.now in
    let d = c.args.depth in
    let lv = c.args.level in
    let l = c.loop-next in
    let at = l.at in
    let w = c.in-Some.ensures in
    let wi = ap (λ z. is (kind_at ws at) z) (sym c.operator.ensures) ∙ w.0 in
    let e = c.in_err-operand.field-0.0 in
    let r = c.from_residual in
    let m0 = open-item lv ws d at wi l.invariant.within in
    let m1 = to m0 (kept at refl (took-item lv ws at c.in-Some.next (wi, w.1, w.2))) in
    exit (λ r. GivesRow ws d (many lv) c.args.start (λ v. map (λ o. item (under lv) (operator lv) (operand_derivation o)) v.items) r) r.result e r.ensures.1
    (row-stops ws d c.args.start at (many lv) _ l.invariant.goes e (stops-in Many m1 e (once-stops ws d c.in-Some.next (level_part (under lv)) e (subst (λ l. Stops ws d (one (level_part l)) c.in-Some.next e) c.operand.ensures.number c.in_err-operand.ensures))))

pub operands-loop-next-preserved : goal.operands-loop-next-preserved
operands-loop-next-preserved u c =
    let ws = c.args.source.now in
    let d = c.args.depth in
    let lv = c.args.level in
    let l = c.loop-next in
    let at = l.at in
    let w = c.in-Some.ensures in
    let wi = ap (λ z. is (kind_at ws at) z) (sym c.operator.ensures) ∙ w.0 in
    let n = c.token_no-token.result in
    let m0 = open-item lv ws d at wi l.invariant.within in
    let p = (subst (λ l. GivesLevel ws d l c.in-Some.next (Ok (c.in_ok-operand.operand, c.in_ok-operand.end))) c.operand.ensures.number c.in_ok-operand.ensures).1 in
    let m2 = to (to m0 (kept n.0 c.token_no-token.ensures (took-item lv ws at c.in-Some.next (wi, w.1, w.2)))) (once p) in
    record {
      goes = row-more (λ o. item (under lv) (operator lv) (operand_derivation o)) l.rest.items c.add.new.list.items _ (bare_leaf n.0 (operator lv) (node (level_part (under lv)) (raise (under lv) (derivation_of c.in_ok-operand.operand)) done)) l.invariant.goes (gone m2 (bare_leaf n.0 (operator lv) (node (level_part (under lv)) (raise (under lv) (derivation_of c.in_ok-operand.operand)) done)) refl) c.in_ok-add.ensures (ap (item (under lv) (operator lv)) (derivation-operand n c.in_ok-operand.operand));
      ahead = omega (arith, l.invariant.ahead, w.1, p.ahead);
      within = p.within;
    }

pub negation-returns-in_err-marks : goal.negation-returns-in_err-marks
negation-returns-in_err-marks u c =
    let ws = c.args.source.now in
    let d = c.args.depth in
    let i = c.args.at in
    let sy = Of Many g.NotSign ∷ Of Once g.Relation ∷ [] in
    let w0 = opened ws d i g.Negation sy refl (only g.Negation sy (kind_at ws i) refl) c.requires.within in
    let e = c.in_err-marks.field-0.0 in
    let r = c.from_residual in
    λ h. exit (λ r. GivesLevel ws d 7 i r) r.result e r.ensures.1
    (stops w0 e (c.in_err-marks.ensures d))

pub negation-returns-in_err-operand : goal.negation-returns-in_err-operand
negation-returns-in_err-operand u c =
    let ws = c.args.source.now in
    let d = c.args.depth in
    let i = c.args.at in
    let sy = Of Many g.NotSign ∷ Of Once g.Relation ∷ [] in
    let w0 = opened ws d i g.Negation sy refl (only g.Negation sy (kind_at ws i) refl) c.requires.within in
    let w1 = to w0 (c.in_ok-marks.ensures d) in
    let e = c.in_err-operand.field-0.0 in
    let r = c.from_residual-in_err-operand in
    λ h. exit (λ r. GivesLevel ws d 7 i r) r.result e r.ensures.1
    (stops w1 e (once-stops ws d c.in_ok-marks.next g.Relation e c.in_err-operand.ensures))

pub negation-returns : goal.negation-returns
negation-returns u c =
    let ws = c.args.source.now in
    let d = c.args.depth in
    let i = c.args.at in
    let sy = Of Many g.NotSign ∷ Of Once g.Relation ∷ [] in
    let w0 = opened ws d i g.Negation sy refl (only g.Negation sy (kind_at ws i) refl) c.requires.within in
    let w1 = to w0 (c.in_ok-marks.ensures d) in
    let w2 = to w1 (once c.in_ok-operand.ensures.1) in
    let v = c.in_ok-marks.marks in
    let y = c.in_ok-operand.operand in
    λ h. let some = not-read v.items (c.in_ok-marks.ensures d) h in
    level-made 7 _ _ (derivation-Not v y ∙ negated-some v.items (derivation_of y.value) some) refl w2 refl

pub negation-boxed_up_to_level-requires : goal.negation-boxed_up_to_level-requires
negation-boxed_up_to_level-requires u c =
    let q = c.in_ok-marks.ensures 0 in
    (omega (arith, c.decreases), (q.within, (c.requires.shallow, (lit≤ tt, lit≤ tt))))

pub relation-returns-in_err-class : goal.relation-returns-in_err-class
relation-returns-in_err-class u c =
    let ws = c.args.source.now in
    let d = c.args.depth in
    let i = c.args.at in
    let n = c.token_no-token.result in
    let took = c.in-Some.ensures in
    let m0 = opened ws d i g.RelationTail member_symbols refl (test_alone (kind_at ws i) took.among) c.requires.within in
    let m1 = to m0 (kept n.0 c.token_no-token.ensures took) in
    let e = c.in_err-class.field-0.0 in
    let r = c.from_residual in
    λ h. exit (λ r. GivesTail ws d i operators.Relations c.args.left.value r) r.result e r.ensures.1
    (stops-in Maybe m1 e (c.in_err-class.ensures d))

pub relation-returns-in-Some : goal.relation-returns-in-Some
relation-returns-in-Some u c =
    let ws = c.args.source.now in
    let d = c.args.depth in
    let i = c.args.at in
    let n = c.token_no-token.result in
    let took = c.in-Some.ensures in
    let m0 = opened ws d i g.RelationTail member_symbols refl (test_alone (kind_at ws i) took.among) c.requires.within in
    let m1 = to m0 (kept n.0 c.token_no-token.ensures took) in
    let m = c.in-Some.membership in
    let class = c.in_ok-class.class in
    let inside = bare_leaf n.0 (membership_kind m) (identifier class done) in
    let m2 = to m1 (c.in_ok-class.ensures d) in
    λ h. record {
      tail = λ f. node g.RelationTail inside f;
      reads = maybe (gone m2 inside refl);
      level_is = ap (λ s. s.level) (derivation-Member c.args.left n m class);
      inside_is = ap (λ s. s.inside) (derivation-Member c.args.left n m class);
    }

pub relation-returns-in_default-relation_at : goal.relation-returns-in_default-relation_at
relation-returns-in_default-relation_at u c =
    let ws = c.args.source.now in
    let i = c.args.at in
    λ h. absurd (relation-stands (kind_at ws i) h c.in_default.ensures c.in_default-relation_at.ensures)

pub relation-returns-in_err-right : goal.relation-returns-in_err-right
relation-returns-in_err-right u c =
    let ws = c.args.source.now in
    let d = c.args.depth in
    let i = c.args.at in
    let n = c.token_no-token.result in
    let took = c.in-Some-relation_at.ensures in
    let m0 = opened ws d i g.RelationTail related_symbols refl (related (kind_at ws i) true _ took.among refl) c.requires.within in
    let m1 = to m0 (kept n.0 c.token_no-token.ensures took) in
    let e = c.in_err-right.field-0.0 in
    let r = c.from_residual-in_err-right in
    λ h. exit (λ r. GivesTail ws d i operators.Relations c.args.left.value r) r.result e r.ensures.1
    (stops-in Maybe m1 e (once-stops ws d c.in-Some-relation_at.next g.Concatenation e c.in_err-right.ensures))

pub relation-returns : goal.relation-returns
relation-returns u c =
    let ws = c.args.source.now in
    let d = c.args.depth in
    let i = c.args.at in
    let n = c.token_no-token.result in
    let took = c.in-Some-relation_at.ensures in
    let m0 = opened ws d i g.RelationTail related_symbols refl (related (kind_at ws i) true _ took.among refl) c.requires.within in
    let m1 = to m0 (kept n.0 c.token_no-token.ensures took) in
    let m = c.in-Some-relation_at.relation in
    let right = c.in_ok-right.right in
    let m2 = to m1 (once c.in_ok-right.ensures.1) in
    let inside = bare_leaf n.0 (relation_kind m) (node g.Concatenation (raise 5 (derivation_of right.value)) done) in
    λ h. record {
      tail = λ f. node g.RelationTail inside f;
      reads = maybe (gone m2 inside refl);
      level_is = ap (λ s. s.level) (derivation-Related c.args.left n m right);
      inside_is = ap (λ s. s.inside) (derivation-Related c.args.left n m right);
    }

pub relation-boxed_up_to_level-requires : goal.relation-boxed_up_to_level-requires
relation-boxed_up_to_level-requires u c =
    let t = c.in-Some-relation_at.ensures in
    (omega (arith, c.decreases), (t.within, (c.requires.shallow, (lit≤ tt, lit≤ tt))))

pub signed_sum-returns-in_err-first : goal.signed_sum-returns-in_err-first
signed_sum-returns-in_err-first u c =
    let ws = c.args.source.now in
    let d = c.args.depth in
    let i = c.args.at in
    let sy = Of Maybe g.LeadingSign ∷ Of Once g.Term ∷ Of Many g.NextTerm ∷ [] in
    let sign = c.leading_sign-sign.result.0 in
    let start = c.leading_sign-sign.result.1 in
    let w0 = opened ws d i g.Sum sy refl (only g.Sum sy (kind_at ws i) refl) c.requires.within in
    let w1 = to w0 (sign-to ws d i start sign c.leading_sign-sign.ensures c.requires.within) in
    let e = c.in_err-first.field-0.0 in
    let r = c.from_residual in
    λ h. exit (λ r. GivesLevel ws d 4 i r) r.result e r.ensures.1
    (stops w1 e (once-stops ws d start g.Term e c.in_err-first.ensures))

pub signed_sum-returns-in_err-rest : goal.signed_sum-returns-in_err-rest
signed_sum-returns-in_err-rest u c =
    let ws = c.args.source.now in
    let d = c.args.depth in
    let i = c.args.at in
    let sy = Of Maybe g.LeadingSign ∷ Of Once g.Term ∷ Of Many g.NextTerm ∷ [] in
    let sign = c.leading_sign-sign.result.0 in
    let start = c.leading_sign-sign.result.1 in
    let w0 = opened ws d i g.Sum sy refl (only g.Sum sy (kind_at ws i) refl) c.requires.within in
    let w1 = to w0 (sign-to ws d i start sign c.leading_sign-sign.ensures c.requires.within) in
    let w2 = to w1 (once c.in_ok-first.ensures.1) in
    let e = c.in_err-rest.field-0.0 in
    let r = c.from_residual-in_err-rest in
    λ h. exit (λ r. GivesLevel ws d 4 i r) r.result e r.ensures.1
    (stops w2 e c.in_err-rest.ensures)

pub signed_sum-returns : goal.signed_sum-returns
signed_sum-returns u c =
    let ws = c.args.source.now in
    let d = c.args.depth in
    let i = c.args.at in
    let sy = Of Maybe g.LeadingSign ∷ Of Once g.Term ∷ Of Many g.NextTerm ∷ [] in
    let sign = c.leading_sign-sign.result.0 in
    let start = c.leading_sign-sign.result.1 in
    let w0 = opened ws d i g.Sum sy refl (only g.Sum sy (kind_at ws i) refl) c.requires.within in
    let w1 = to w0 (sign-to ws d i start sign c.leading_sign-sign.ensures c.requires.within) in
    let w2 = to w1 (once c.in_ok-first.ensures.1) in
    let w3 = to w2 c.in_ok-rest.ensures in
    let v = c.in_ok-rest.rest in
    let y = c.in_ok-first.first in
    let fs = map term_derivation v.items in
    λ h. level-made 4 _ _ (derivation-Sum sign y v ∙ summed-is sign (derivation_of y.value) fs (sign-stands ws i start sign h c.leading_sign-sign.ensures)) refl w3 refl

pub terms-loop-sign-init : goal.terms-loop-sign-init
terms-loop-sign-init u c =
    record {
      goes = row-start term_derivation c.new-rest.result.items c.new-rest.ensures.items;
      ahead = omega arith;
      within = c.requires.within;
    }

pub terms-returns-in_err-term : goal.terms-returns-in_err-term
terms-returns-in_err-term u c =
    let ws = c.args.source.now in
    let d = c.args.depth in
    let l = c.loop-sign in
    let at = l.at in
    let w = c.in-Some.ensures in
    let e = c.in_err-term.field-0.0 in
    let r = c.from_residual in
    let m0 = opened ws d at g.NextTerm (Kept signs ∷ Of Once g.Term ∷ []) refl (one_row g.NextTerm signs (Kept signs ∷ Of Once g.Term ∷ []) (kind_at ws at) true refl w.among) l.invariant.within in
    let m1 = to m0 (kept at refl w) in
    exit (λ r. GivesRow ws d g.NextTerm c.args.start (λ v. map term_derivation v.items) r) r.result e r.ensures.1
    (row-stops ws d c.args.start at g.NextTerm _ l.invariant.goes e (stops-in Many m1 e (once-stops ws d c.in-Some.next g.Term e c.in_err-term.ensures)))

pub terms-loop-sign-preserved : goal.terms-loop-sign-preserved
terms-loop-sign-preserved u c =
    let ws = c.args.source.now in
    let d = c.args.depth in
    let l = c.loop-sign in
    let at = l.at in
    let w = c.in-Some.ensures in
    let n = c.token_no-token.result in
    let m0 = opened ws d at g.NextTerm (Kept signs ∷ Of Once g.Term ∷ []) refl (one_row g.NextTerm signs (Kept signs ∷ Of Once g.Term ∷ []) (kind_at ws at) true refl w.among) l.invariant.within in
    let p = c.in_ok-term.ensures.1 in
    let m2 = to (to m0 (kept n.0 c.token_no-token.ensures w)) (once p) in
    record {
      goes = row-more term_derivation l.rest.items c.add.new.list.items _ (bare_leaf n.0 (sign_kind c.in-Some.sign) (node g.Term (raise 3 (derivation_of c.in_ok-term.term)) done)) l.invariant.goes (gone m2 (bare_leaf n.0 (sign_kind c.in-Some.sign) (node g.Term (raise 3 (derivation_of c.in_ok-term.term)) done)) refl) c.in_ok-add.ensures (derivation-term n c.in-Some.sign c.in_ok-term.term);
      ahead = omega (arith, l.invariant.ahead, w.ahead, p.ahead);
      within = p.within;
    }

pub terms-returns : goal.terms-returns
terms-returns u c =
    let ws = c.args.source.now in
    let l = c.loop-sign in
    row-end term_derivation l.rest.items l.invariant.goes (one_row g.NextTerm signs (Kept signs ∷ Of Once g.Term ∷ []) (kind_at ws l.at) false refl c.in_default.ensures) l.invariant.ahead l.invariant.within

pub factors-loop-operator-init : goal.factors-loop-operator-init
factors-loop-operator-init u c =
    record {
      goes = row-start factor_derivation c.new-rest.result.items c.new-rest.ensures.items;
      ahead = omega arith;
      within = c.requires.within;
    }

pub factors-returns-in_err-factor : goal.factors-returns-in_err-factor
factors-returns-in_err-factor u c =
    let ws = c.args.source.now in
    let d = c.args.depth in
    let l = c.loop-operator in
    let at = l.at in
    let w = c.in-Some.ensures in
    let e = c.in_err-factor.field-0.0 in
    let r = c.from_residual in
    let m0 = opened ws d at g.NextFactor (Kept multiplications ∷ Of Once g.Factor ∷ []) refl (one_row g.NextFactor multiplications (Kept multiplications ∷ Of Once g.Factor ∷ []) (kind_at ws at) true refl w.among) l.invariant.within in
    let m1 = to m0 (kept at refl w) in
    exit (λ r. GivesRow ws d g.NextFactor c.args.start (λ v. map factor_derivation v.items) r) r.result e r.ensures.1
    (row-stops ws d c.args.start at g.NextFactor _ l.invariant.goes e (stops-in Many m1 e (once-stops ws d c.in-Some.next g.Factor e c.in_err-factor.ensures)))

pub factors-loop-operator-preserved : goal.factors-loop-operator-preserved
factors-loop-operator-preserved u c =
    let ws = c.args.source.now in
    let d = c.args.depth in
    let l = c.loop-operator in
    let at = l.at in
    let w = c.in-Some.ensures in
    let n = c.token_no-token.result in
    let m0 = opened ws d at g.NextFactor (Kept multiplications ∷ Of Once g.Factor ∷ []) refl (one_row g.NextFactor multiplications (Kept multiplications ∷ Of Once g.Factor ∷ []) (kind_at ws at) true refl w.among) l.invariant.within in
    let p = c.in_ok-factor.ensures.1 in
    let m2 = to (to m0 (kept n.0 c.token_no-token.ensures w)) (once p) in
    record {
      goes = row-more factor_derivation l.rest.items c.add.new.list.items _ (bare_leaf n.0 (multiplication_kind c.in-Some.operator) (node g.Factor (raise 2 (derivation_of c.in_ok-factor.factor)) done)) l.invariant.goes (gone m2 (bare_leaf n.0 (multiplication_kind c.in-Some.operator) (node g.Factor (raise 2 (derivation_of c.in_ok-factor.factor)) done)) refl) c.in_ok-add.ensures (derivation-factor n c.in-Some.operator c.in_ok-factor.factor);
      ahead = omega (arith, l.invariant.ahead, w.ahead, p.ahead);
      within = p.within;
    }

pub factors-returns : goal.factors-returns
factors-returns u c =
    let ws = c.args.source.now in
    let l = c.loop-operator in
    row-end factor_derivation l.rest.items l.invariant.goes (one_row g.NextFactor multiplications (Kept multiplications ∷ Of Once g.Factor ∷ []) (kind_at ws l.at) false refl c.in_default.ensures) l.invariant.ahead l.invariant.within
