use Rattle.std.proofs.Common.{ℤ, true, List, sym, ◌∙◌, subst, rules, w64, SFits}
use Rattle.std.proofs.lemmas.Int.{to_z-of_z}
use Rattle.notices.specs.declared.notice.Notice.{Notice}
use Rattle.notices.specs.Notices.{placed_at}
use Rattle.notice_tree.specs.Held.{IsHeld}
use Rattle.notice_tree.proofs.TreeLemmas.{direct_list, no_first}
use Rattle.notice_tree.proofs.order.put_direct.Goals as goal

pub returns-in-None : goal.returns-in-None
returns-in-None c = λ l h s within begun.
    absurd (begun (no_first l (sym c.in-None.is ∙ c.first_time.ensures l h s)))

pub returns-in-Some : goal.returns-in-Some
returns-in-Some c = λ l h s within begun.
    let fits : SFits w64 c.in-Some.time = search rules in
    subst (λ (k : List Notice). IsHeld c.put_at.new.nodes c.put_at.result k)
    (direct_list l c.args.process.0 c.in-Some.time s.ordered (sym c.in-Some.is ∙ c.first_time.ensures l h s))
    (subst (λ (t : ℤ). IsHeld c.put_at.new.nodes c.put_at.result (placed_at t true c.args.process.0 l)) (to_z-of_z w64 c.in-Some.time fits) (c.put_at.ensures l h s within))
