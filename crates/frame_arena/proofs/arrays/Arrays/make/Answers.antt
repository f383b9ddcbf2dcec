use Rattle.std.proofs.Common.{◌≡◌, [], ◌∷◌, ◌++◌, length, map, replicate, sym, subst, ap, ◌∙◌, arith}
use Rattle.sim_values.specs.Plain.{initial}
use Rattle.sim_values.specs.Words.{element_count}
use Rattle.frame_arena.specs.Arrays.{HoldsArrays, IsSound, array_of, entering, made_array}
use Rattle.frame_arena.specs.Slots.{plain_of}
use Rattle.frame_arena.proofs.ArrayCalls.{words_are}
use Rattle.frame_arena.proofs.arrays.Arrays.make.Goals as goal

pub returns-clause-holds : goal.returns-clause-holds
returns-clause-holds c arrays h =
    let w = words_are c.args.bounds.items c.args.words c.requires.words in
    let few = w.0 in
    let are = w.1 in
    let bounds = c.args.bounds.items in
    let els = c.in_ok-elements.elements.items in
    let made = c.take_free.new.self.made in
    let size : length els ≡ element_count bounds = c.in_ok-elements.ensures.long ∙ omega (arith, are, few) in
    let sound : IsSound (entering made c.args.owner bounds els) = record { plain = c.in_ok-elements.ensures.plain; sized = size; short = omega (arith, size, few) } in
    let values : map plain_of els ≡ replicate (element_count bounds) (initial c.args.kind) = c.in_ok-elements.ensures.values ∙ ap (λ n. replicate n (initial c.args.kind)) (sym c.in_ok-elements.ensures.long ∙ size) in
    let is : array_of (entering made c.args.owner bounds els) ≡ made_array bounds c.args.kind c.args.owner = ap (λ l. record (array_of (entering made c.args.owner bounds els)) { elements = l }) values in
    subst (λ x. HoldsArrays c.enter.new.self (arrays ++ x ∷ [])) is (c.enter.ensures.holds arrays (c.in_ok-place.ensures.holds arrays h) sound)

pub returns-clause-elements : goal.returns-clause-elements
returns-clause-elements c frames m all = c.enter.ensures.elements frames m (c.in_ok-place.ensures.elements frames m all) (c.in_ok-elements.ensures.leads frames m)
