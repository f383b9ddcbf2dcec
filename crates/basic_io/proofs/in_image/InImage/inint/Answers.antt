use Rattle.std.proofs.Common.{◌≡◌, ℤ, pos, ◌+ℤ◌, ◌-ℤ◌, to_z, of_z, w64, SFits, sym, subst, rules, arith}
use Rattle.std.proofs.lemmas.Int.{ints, to_z-of_z}
use Rattle.std.proofs.lemmas.Result.{err_from_is_err_and}
use Rattle.basic_io.specs.Image.{IsImage}
use Rattle.basic_io.specs.Input.{HeldInput, reading}
use Rattle.basic_io.proofs.ItemReads.{item_read, item_refused, sub_is_rest}
use Rattle.basic_io.proofs.in_image.InImage.inint.Goals as goal

pub returns-in_err-value-clause-outcome : goal.returns-in_err-value-clause-outcome
returns-in_err-value-clause-outcome g c =
    let source = g.I.Source.left in
    let frames = c.lastitem.new.texts in
    let old = reading c.args.texts.now c.args.self.now (source c.args.input.now) in
    let i : HeldInput = record { image = c.self.inside.image; endfile = c.self.inside.endfile; held = c.self.inside.held } in
    let was : i ≡ c.lastitem.new.self = c.self.view_is in
    let image : IsImage frames i.image = subst (λ (j : HeldInput). IsImage frames j.image) (sym was) c.lastitem.ensures.valid in
    let place : ℤ = to_z w64 (of_z w64 c.from-place.result) in
    let count : ℤ = to_z w64 (of_z w64 (to_z w64 (of_z w64 (to_z w64 (of_z w64 c.from-end.result) +ℤ pos 1)) -ℤ place)) in
    let rest = sub_is_rest frames i.image c.in_ok-rest.rest place count image (omega (arith, ints)) (omega (arith, ints)) c.in_ok-rest.ensures.part in
    let p = err_from_is_err_and c.from_residual-in_err-value.result c.from_residual-in_err-value.ensures.1 in
    rw (p.1, p.2) (item_refused old frames i c.lastitem.new.self (source c.lastitem.new.input) _ c.in_ok-rest.rest c.getint.new.t c.in_err-value.field-0.0 was c.if-branch.false image c.in_ok-lastitem.ensures.outcome rest c.in_err-value.ensures.step)

pub returns-clause-outcome : goal.returns-clause-outcome
returns-clause-outcome g c =
    let source = g.I.Source.left in
    let frames = c.lastitem.new.texts in
    let old = reading c.args.texts.now c.args.self.now (source c.args.input.now) in
    let i : HeldInput = record { image = c.self.inside.image; endfile = c.self.inside.endfile; held = c.self.inside.held } in
    let was : i ≡ c.lastitem.new.self = c.self.view_is in
    let image : IsImage frames i.image = subst (λ (j : HeldInput). IsImage frames j.image) (sym was) c.lastitem.ensures.valid in
    let place : ℤ = to_z w64 (of_z w64 c.from-place.result) in
    let count : ℤ = to_z w64 (of_z w64 (to_z w64 (of_z w64 (to_z w64 (of_z w64 c.from-end.result) +ℤ pos 1)) -ℤ place)) in
    let rest = sub_is_rest frames i.image c.in_ok-rest.rest place count image (omega (arith, ints)) (omega (arith, ints)) c.in_ok-rest.ensures.part in
    let fits : SFits w64 c.in_ok-value.value = search rules in
    rw to_z-of_z (item_read old frames i c.lastitem.new.self (source c.lastitem.new.input) _ c.in_ok-rest.rest c.getint.new.t c.in_ok-value.value was c.if-branch.false image c.in_ok-lastitem.ensures.outcome rest c.in_ok-value.ensures.step)
