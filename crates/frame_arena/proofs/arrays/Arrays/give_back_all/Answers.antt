use Rattle.std.proofs.Common.{rules, ◌≡◌, ◌+◌, ◌<◌, ◌≤◌, length, sym, subst, refl, ap, ◌∙◌, arith}
use Rattle.frame_arena.specs.Arrays.{ElementsLead}
use Rattle.frame_arena.proofs.Giving.{Between, ends_holds, ends_leading, ends_words, gives_one, keeps_one}
use Rattle.frame_arena.proofs.arrays.Arrays.give_back_all.Goals as goal
use Rattle.frame_arena.proofs.arrays.Arrays.give_back_all.Goals.{then-goes, else-goes}

pub loop-place-preserved : goal.loop-place-preserved
loop-place-preserved c =
    let old = c.args.self.now in
    let now = c.loop-place.self in
    let place = c.loop-place.place in
    let inv = c.loop-place.invariant in
    let e1 = c.len-place-end.ensures in
    let e2 = inv.0 in
    let e3 : length c.self.inside.regions.items ≡ length old.regions = ap (λ a. length a.regions) c.self.view_is in
    let there : place < length now.regions = omega (arith, c.loop-place-test.true, e1, e2, e3) in
    elim c.if-goes.branch [
      | then-goes w ↦
          subst (λ s. Between old s c.args.owner c.args.used c.if-goes.left c.if-goes.newest (place + 1)) (sym w.self-is)
          (subst (λ n. Between old w.give_back_at-left.new.self c.args.owner c.args.used n c.if-goes.newest (place + 1)) (sym w.left-is)
          (subst (λ n. Between old w.give_back_at-left.new.self c.args.owner c.args.used w.give_back_at-left.result n (place + 1)) (sym w.newest-is) (
            w.give_back_at-left.ensures.same ∙ inv.0,
            λ frames m all. w.give_back_at-left.ensures.elements frames m (inv.1 frames m all),
            λ arrays h.
                gives_one old now w.give_back_at-left.new.self arrays c.args.owner c.loop-place.left w.give_back_at-left.result c.args.used c.loop-place.newest place (inv.2 arrays h) there (sym c.goes.ensures ∙ w.if-goes.true)
                w.give_back_at-left.ensures.holds w.give_back_at-left.ensures.words w.give_back_at-left.ensures.leads w.give_back_at-left.ensures.others w.give_back_at-left.ensures.free w.give_back_at-left.ensures.same,
          )))
      | else-goes w ↦
          let top : w.owner_at.result ≤ w.max-newest.result = search rules in
          let top2 : c.loop-place.newest ≤ w.max-newest.result = search rules in
          subst (λ s. Between old s c.args.owner c.args.used c.if-goes.left c.if-goes.newest (place + 1)) (sym w.self-is)
          (subst (λ n. Between old now c.args.owner c.args.used n c.if-goes.newest (place + 1)) (sym w.left-is)
          (subst (λ n. Between old now c.args.owner c.args.used c.loop-place.left n (place + 1)) (sym w.newest-is) (
            inv.0,
            inv.1,
            λ arrays h.
                keeps_one old now arrays c.args.owner c.loop-place.left c.args.used c.loop-place.newest w.max-newest.result place w.owner_at.result (inv.2 arrays h) (sym c.goes.ensures ∙ w.if-goes.false) w.owner_at.ensures top top2,
          )))
    ]

pub returns-clause-holds : goal.returns-clause-holds
returns-clause-holds c arrays h =
    let inv = c.loop-place.invariant in
    let e1 = c.len-place-end.ensures in
    let e2 = inv.0 in
    let e3 : length c.self.inside.regions.items ≡ length c.args.self.now.regions = ap (λ a. length a.regions) c.self.view_is in
    let all : length c.loop-place.self.regions ≤ c.loop-place.place = omega (arith, c.loop-place-test.false, e1, e2, e3) in
    ends_holds c.args.self.now c.loop-place.self arrays c.args.owner c.loop-place.left c.args.used c.loop-place.newest c.loop-place.place (inv.2 arrays h) all _ (ap (λ a. a.regions) c.self-2.view_is) (ap (λ a. a.made) c.self-2.view_is) refl

pub returns-clause-words : goal.returns-clause-words
returns-clause-words c arrays h =
    let inv = c.loop-place.invariant in
    let e1 = c.len-place-end.ensures in
    let e2 = inv.0 in
    let e3 : length c.self.inside.regions.items ≡ length c.args.self.now.regions = ap (λ a. length a.regions) c.self.view_is in
    let all : length c.loop-place.self.regions ≤ c.loop-place.place = omega (arith, c.loop-place-test.false, e1, e2, e3) in
    ends_words c.args.self.now c.loop-place.self arrays c.args.owner c.loop-place.left c.args.used c.loop-place.newest c.loop-place.place (inv.2 arrays h) all

pub returns-clause-leads : goal.returns-clause-leads
returns-clause-leads c arrays h =
    let inv = c.loop-place.invariant in
    let e1 = c.len-place-end.ensures in
    let e2 = inv.0 in
    let e3 : length c.self.inside.regions.items ≡ length c.args.self.now.regions = ap (λ a. length a.regions) c.self.view_is in
    let all : length c.loop-place.self.regions ≤ c.loop-place.place = omega (arith, c.loop-place-test.false, e1, e2, e3) in
    ends_leading c.args.self.now c.loop-place.self arrays c.args.owner c.loop-place.left c.args.used c.loop-place.newest c.loop-place.place (inv.2 arrays h) all
    (record { regions = c.self-2.inside.regions.items; made = 0; newest = 0; free = 0 }) (ap (λ a. a.regions) c.self-2.view_is)

pub returns-clause-elements : goal.returns-clause-elements
returns-clause-elements c frames m all =
    let same : c.self-2.inside.regions.items ≡ c.loop-place.self.regions = ap (λ a. a.regions) c.self-2.view_is in
    subst (λ rs. ElementsLead frames m rs) (sym same) (c.loop-place.invariant.1 frames m all)
