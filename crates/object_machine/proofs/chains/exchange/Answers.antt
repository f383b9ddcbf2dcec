use Rattle.std.proofs.Common.{rules, ◌≡◌, ◌∷◌, [], sym, subst, ◌∙◌}
use Rattle.std.specs.Vec.{with_items}
use Rattle.std.proofs.lemmas.List.{with_items_is, places}
use Rattle.object_machine.specs.Transferring.{StandAlone}
use Rattle.object_machine.proofs.Exchanging.{alone_exchanged}
use Rattle.object_machine.proofs.chains.exchange.Goals as goal

pub returns-then-stand_alone-clause-exchanges : goal.returns-then-stand_alone-clause-exchanges
returns-then-stand_alone-clause-exchanges c =
    let kept = c.args.kept.now in
    let top = c.args.top.now in
    let below = c.args.below.now.items in
    let top2 = c.change_places.new.top in
    let kept2 = with_items kept c.change_places.new.kept in
    let items : kept2.items ≡ c.change_places.new.kept = with_items_is kept c.change_places.new.kept (search (rules, places)) in
    let alone : StandAlone c.args.instance kept.items top below =
    subst (λ w. StandAlone c.args.instance kept.items top w) c.deref-2.ensures.value (subst (λ w. StandAlone c.args.instance w top c.deref-2.result.now) c.deref.ensures.value (c.stand_alone.ensures.yes c.if-stand_alone.true)) in
    alone_exchanged c.args.instance kept.items kept2.items top top2 below alone (sym c.deref_mut.ensures.value ∙ c.change_places.ensures.top) (items ∙ c.change_places.ensures.kept)

pub returns-clause-exchanges : goal.returns-clause-exchanges
returns-clause-exchanges c = (c.cut_above.new.top, c.cut_above.new.below.items, c.cut_above.ensures.cut c.if-not-cut_above.false, c.in-On.ensures.joins.1)
