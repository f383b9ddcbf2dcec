use Rattle.std.proofs.Common.{rules, ◌≡◌, ◌-◌, ◌<◌, ℕ, length, map, sym, subst, refl, ap, ◌∙◌, arith}
use Rattle.std.specs.Prelude.{Some, None, slice_get, slice_index_or}
use Rattle.sim_chains.specs.Chains.{outermost}
use Rattle.sim_chains.specs.Components.{DetachedObject, kept_as}
use Rattle.sim_code.specs.Machine.{owner}
use Rattle.frame_arena.specs.Frames.{Has, Leads}
use Rattle.object_machine.specs.Standing.{activation_of}
use Rattle.object_machine.specs.Transferring.{Anew, frame_of}
use Rattle.object_machine.proofs.Anew.{anew_gone, anew_same}
use Rattle.object_machine.proofs.Cutting.{got, outermost_at, outermost_none}
use Rattle.object_machine.proofs.kept_chains.keep_by_object.Goals as goal

pub returns-then-len-eq0-clause-stands : goal.returns-then-len-eq0-clause-stands
returns-then-len-eq0-clause-stands c l before now o m chain s work =
    let p = c.args.storage.now in
    let none : length c.args.chain.items ≡ 0 = search rules in
    subst (λ z. Anew l p p before now o m (kept_as owner z (map activation_of c.args.chain.items) (record { operating = chain; standings = m.standings })).standings) (sym (outermost_none c.args.chain.items none)) (anew_same l p before now o m s)

pub returns-then-is_thunk-clause-stands : goal.returns-then-is_thunk-clause-stands
returns-then-is_thunk-clause-stands c l before now o m chain s work =
    let p = c.args.storage.now in
    let items = c.args.chain.items in
    let d = c.index.result.now in
    let ne : length items ≡ 0 → ⊥ = λ z. (let some = c.if-len-eq0.false in let long = c.len.ensures in omega (arith, z, some, long)) in
    let same : d ≡ slice_index_or items (length items - 1) d = search rules in
    let out : outermost owner (map activation_of items) ≡ None = outermost_at items d ne ∙ ap frame_of (sym same) ∙ c.is_thunk.ensures.yes c.if-is_thunk.true in
    subst (λ z. Anew l p p before now o m (kept_as owner z (map activation_of items) (record { operating = chain; standings = m.standings })).standings) (sym out) (anew_same l p before now o m s)

pub returns-in_default-clause-stands : goal.returns-in_default-clause-stands
returns-in_default-clause-stands c l before now o m chain s work =
    let p = c.args.storage.now in
    let items = c.args.chain.items in
    let d = c.index.result.now in
    let j : ℕ = d.registers.home.stamp in
    let owned : frame_of d ≡ Some j = c.is_thunk.ensures.no c.if-is_thunk.false in
    let ne : length items ≡ 0 → ⊥ = λ z. (let some = c.if-len-eq0.false in let long = c.len.ensures in omega (arith, z, some, long)) in
    let same : d ≡ slice_index_or items (length items - 1) d = search rules in
    let within : length items - 1 < length items = omega (arith, ne) in
    let out : outermost owner (map activation_of items) ≡ Some j = outermost_at items d ne ∙ ap frame_of (sym same) ∙ owned in
    let there : slice_get items (length items - 1) ≡ Some d = got items (length items - 1) d within ∙ ap (λ t. Some t) (sym same) in
    let leads : Leads p.frames.items m d.registers.home = (work (length items - 1) d there).home in
    subst (λ z. Anew l p p before now o m (kept_as owner z (map activation_of items) (record { operating = chain; standings = m.standings })).standings) (sym out)
    (anew_gone l p before now o m s d.registers.home (DetachedObject (map activation_of items)) leads (c.in_default.ensures.gone m (subst (λ f. Leads f m d.registers.home) (sym c.deref.ensures.value) leads) refl))

pub returns-clause-stands : goal.returns-clause-stands
returns-clause-stands c l before now o m chain s work =
    let p = c.args.storage.now in
    let items = c.args.chain.items in
    let d = c.index.result.now in
    let j : ℕ = d.registers.home.stamp in
    let owned : frame_of d ≡ Some j = c.is_thunk.ensures.no c.if-is_thunk.false in
    let ne : length items ≡ 0 → ⊥ = λ z. (let some = c.if-len-eq0.false in let long = c.len.ensures in omega (arith, z, some, long)) in
    let same : d ≡ slice_index_or items (length items - 1) d = search rules in
    let out : outermost owner (map activation_of items) ≡ Some j = outermost_at items d ne ∙ ap frame_of (sym same) ∙ owned in
    let has : Has p.frames.items c.in-Some.place j = subst (λ f. Has f c.in-Some.place j) c.deref.ensures.value c.in-Some.ensures.there in
    subst (λ z. Anew l p c.keep_chain.new.storage before now o m (kept_as owner z (map activation_of items) (record { operating = chain; standings = m.standings })).standings) (sym out) (c.keep_chain.ensures.stands j l before now o m has s work)
