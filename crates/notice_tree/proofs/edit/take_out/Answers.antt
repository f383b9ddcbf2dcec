use Rattle.std.proofs.Common.{◌≡◌, true, false, not, is_some, List, ap, sym, ◌∙◌, subst}
use Rattle.notices.specs.declared.notice.Notice.{Notice}
use Rattle.notices.specs.Notices.{has_notice}
use Rattle.notice_tree.specs.declared.node.Node.{Node}
use Rattle.notice_tree.specs.Held.{IsHeld}
use Rattle.notice_tree.proofs.HeldLemmas.{has_held, count_from_has, lacks_from_has}
use Rattle.notice_tree.proofs.edit.take_out.Goals as goal

pub returns-then-is_none : goal.returns-then-is_none
returns-then-is_none c = λ l h s.
    let has : has_notice c.args.process.0 l ≡ false =
    sym (has_held c.args.nodes.now c.args.root l c.args.process.0 h s.once) ∙ ap (λ (d : Node). is_some d.time) (sym c.node_at.ensures) ∙ c.is_none.ensures ∙ ap not c.if-is_none.true in
    subst (λ (k : List Notice). IsHeld c.args.nodes.now c.args.root k) (sym (lacks_from_has c.args.process.0 l has)) h

pub returns-else-is_none : goal.returns-else-is_none
returns-else-is_none c = λ l h s.
    let has : has_notice c.args.process.0 l ≡ true =
    sym (has_held c.args.nodes.now c.args.root l c.args.process.0 h s.once) ∙ ap (λ (d : Node). is_some d.time) (sym c.node_at.ensures) ∙ c.is_none.ensures ∙ ap not c.if-is_none.false in
    c.remove.ensures c.args.root l h s (count_from_has c.args.process.0 l has)
