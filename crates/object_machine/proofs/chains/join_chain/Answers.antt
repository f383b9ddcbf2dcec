use Rattle.std.proofs.Common.{rules, ◌<◌, ◌≤◌, [], ◌∷◌, ◌++◌, length, sym, subst, ap, ◌∙◌, arith}
use Rattle.std.proofs.lemmas.List.{append_assoc}
use Rattle.object_machine.specs.Transferring.{operating}
use Rattle.object_machine.proofs.Covered.{more_fit}
use Rattle.object_machine.proofs.Cutting.{step_up}
use Rattle.object_machine.proofs.chains.join_chain.Goals as goal

pub returns-then-next-len-clause-joins : goal.returns-then-next-len-clause-joins
returns-then-next-len-clause-joins c =
    let rest = c.pop.new.self.items in
    let next = c.in-Some.next in
    let back = c.loop-next.invariant.back in (
      rest,
      next,
      back.0,
      back.1 ∙ ap (λ w. w ++ back.0) c.in-Some.ensures.items ∙ append_assoc rest (next ∷ []) back.0,
      λ h. let n : length next.stack.items < next.registers.depth = search rules in omega (arith, h, n),
    )

pub loop-next-preserved : goal.loop-next-preserved
loop-next-preserved c =
    let rest = c.pop.new.self.items in
    let next = c.in-Some.next in
    let top = c.loop-next.top in
    let below = c.loop-next.below.items in
    let dest = c.replace-under.new.dest in
    let back = c.loop-next.invariant.back in
    let fit : next.registers.depth ≤ length next.stack.items = search rules in
    record {
      fits = subst (λ t. t.registers.depth ≤ length t.stack.items) (sym c.replace-under.ensures.after) fit;
      others = more_fit below c.push.new.self.items c.replace-under.result c.in-Ok.ensures.items c.loop-next.invariant.others (subst (λ t. t.registers.depth ≤ length t.stack.items) (sym c.replace-under.ensures.value) c.loop-next.invariant.fits);
      whole = step_up (c.args.kept.now.items ++ operating c.args.top.now c.args.below.now.items) c.loop-next.kept.items rest top below next c.loop-next.invariant.whole c.in-Some.ensures.items
          ∙ ap (λ t. rest ++ operating t (below ++ top ∷ [])) (sym c.replace-under.ensures.after) ∙ ap (λ u. rest ++ operating dest (below ++ u ∷ [])) (sym c.replace-under.ensures.value) ∙ ap (λ b. rest ++ operating dest b) (sym c.in-Ok.ensures.items);
      back = (next ∷ back.0, back.1 ∙ ap (λ w. w ++ back.0) c.in-Some.ensures.items ∙ append_assoc rest (next ∷ []) back.0);
    }
