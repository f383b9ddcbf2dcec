use Rattle.std.proofs.Common.{◌≡◌, ◌+◌, ◌<◌, length, suc, arith, ap, sym, ◌∙◌}
use Rattle.std.specs.Prelude.{slice_get, Some}
use Rattle.std.proofs.lemmas.Option.{slice_get_within}
use Rattle.simset.specs.Sets.{Simset, links_of, cardinal_of}
use Rattle.simset.specs.Nodes.{KeepsSets}
use Rattle.simset.proofs.Walks.{length-proper}
use Rattle.simset.proofs.Closings.{kept-view}
use Rattle.simset.proofs.Effects.{suc_of-head, suc_of-along, member_made, list_of_head, none_past}
use Rattle.simset.proofs.rings.Rings.cardinal.Goals as goal

pub loop-next-init : goal.loop-next-init
loop-next-init c = record { at = c.next_link-next.ensures ∙ suc_of-head _ _ c.requires; within = omega arith }

pub overflow_add-count : goal.overflow_add-count
overflow_add-count c =
    let kept : KeepsSets c.self.inside.nodes.items c.args.self.now.sets = kept-view _ _ (ap (λ (v : Simset). v.sets) c.self.view_is) c.self.invariant in
    let few : length (links_of c.args.self.now.sets c.args.head.0) < 4294967296 =
    omega (arith, kept.few, kept.made, length-proper c.args.self.now.sets c.args.head.0 (links_of c.args.self.now.sets c.args.head.0) kept.proper (list_of_head c.args.self.now.sets c.args.head.0 c.requires))
    in
    omega (arith, slice_get_within (links_of c.args.self.now.sets c.args.head.0) c.loop-next.count c.in-Some.link (sym c.loop-next.invariant.at ∙ c.in-Some.is))

pub next_link-next-requires-in-Some : goal.next_link-next-requires-in-Some
next_link-next-requires-in-Some c =
    let kept : KeepsSets c.self.inside.nodes.items c.args.self.now.sets = kept-view _ _ (ap (λ (v : Simset). v.sets) c.self.view_is) c.self.invariant in
    member_made _ _ _ _ kept.proper c.requires (sym c.loop-next.invariant.at ∙ c.in-Some.is)

pub loop-next-smaller : goal.loop-next-smaller
loop-next-smaller c =
    omega (arith, slice_get_within (links_of c.args.self.now.sets c.args.head.0) c.loop-next.count c.in-Some.link (sym c.loop-next.invariant.at ∙ c.in-Some.is))

pub loop-next-preserved : goal.loop-next-preserved
loop-next-preserved c =
    let kept : KeepsSets c.self.inside.nodes.items c.args.self.now.sets = kept-view _ _ (ap (λ (v : Simset). v.sets) c.self.view_is) c.self.invariant in
    let here : slice_get (links_of c.args.self.now.sets c.args.head.0) c.loop-next.count ≡ Some c.in-Some.link = sym c.loop-next.invariant.at ∙ c.in-Some.is in
    let more : suc c.loop-next.count ≡ c.loop-next.count + 1 = omega arith in
    record {
      at = c.next_link-next-in-Some.ensures ∙ suc_of-along _ _ _ _ kept.proper c.requires here ∙ ap (slice_get (links_of c.args.self.now.sets c.args.head.0)) more;
      within = omega (arith, slice_get_within (links_of c.args.self.now.sets c.args.head.0) c.loop-next.count c.in-Some.link here);
    }

pub returns : goal.returns
unfolding cardinal_of
returns c = omega (arith, c.loop-next.invariant.within, none_past (links_of c.args.self.now.sets c.args.head.0) c.loop-next.count (sym c.loop-next.invariant.at ∙ c.in_default.is))
