use Rattle.std.proofs.Common.{rules, to_z, of_z, w64, ◌≡◌, sym, ap, ◌∙◌}
use Rattle.std.specs.Prelude.{Bool, Some}
use Rattle.sim_code.specs.Machine.{Machine, at, pushing}
use Rattle.sim_code.specs.Outcome.{Run}
use Rattle.sim_code.specs.Rows.{truth_of}
use Rattle.sim_code.specs.Thunks.{is_place, locating}
use Rattle.frame_arena.specs.Slots.{value_of}
use Rattle.object_machine.proofs.Having.{having_none, having_some}
use Rattle.object_machine.proofs.ThunkRows.{either_will_do, no_variable, place_will_do}
use Rattle.object_machine.proofs.thunks.place_asked.Goals as goal

pub returns-in_default-clause-row : goal.returns-in_default-clause-row
returns-in_default-clause-row c code l o m level cell b rest =
    let ez : to_z w64 (of_z w64 c.args.value_too) ≡ c.args.value_too = search rules in
    let v = value_of c.args.given in
    let Push : Run Machine = pushing b.room b.stack v o (λ stack. at o m b b.pc stack rest) in
    let K : Bool → Run Machine = λ either. locating c.args.line.0 (is_place v) either o Push in
    having_none (truth_of c.args.value_too) o K (c.in_default.ensures ∙ ap truth_of ez)

pub returns-then-either-clause-row : goal.returns-then-either-clause-row
returns-then-either-clause-row c code l o m level cell b rest =
    let ez : to_z w64 (of_z w64 c.args.value_too) ≡ c.args.value_too = search rules in
    let v = value_of c.args.given in
    let Push : Run Machine = pushing b.room b.stack v o (λ stack. at o m b b.pc stack rest) in
    let K : Bool → Run Machine = λ either. locating c.args.line.0 (is_place v) either o Push in
    having_some (truth_of c.args.value_too) c.in-Some.either o K (c.in-Some.ensures ∙ ap truth_of ez) ∙ ap K c.if-either.true ∙ either_will_do c.args.line.0 o Push (is_place v)

pub returns-then-is_address-clause-row : goal.returns-then-is_address-clause-row
returns-then-is_address-clause-row c code l o m level cell b rest =
    let ez : to_z w64 (of_z w64 c.args.value_too) ≡ c.args.value_too = search rules in
    let v = value_of c.args.given in
    let Push : Run Machine = pushing b.room b.stack v o (λ stack. at o m b b.pc stack rest) in
    let K : Bool → Run Machine = λ either. locating c.args.line.0 (is_place v) either o Push in
    having_some (truth_of c.args.value_too) c.in-Some.either o K (c.in-Some.ensures ∙ ap truth_of ez) ∙ place_will_do c.args.line.0 o Push (is_place v) c.in-Some.either (sym c.is_address.ensures ∙ c.if-is_address.true)

pub returns-clause-row : goal.returns-clause-row
returns-clause-row c code l o m level cell b rest =
    let ez : to_z w64 (of_z w64 c.args.value_too) ≡ c.args.value_too = search rules in
    let v = value_of c.args.given in
    let Push : Run Machine = pushing b.room b.stack v o (λ stack. at o m b b.pc stack rest) in
    let K : Bool → Run Machine = λ either. locating c.args.line.0 (is_place v) either o Push in
    having_some (truth_of c.args.value_too) c.in-Some.either o K (c.in-Some.ensures ∙ ap truth_of ez) ∙ ap K c.if-either.false ∙ no_variable c.args.line.0 o Push (is_place v) (sym c.is_address.ensures ∙ c.if-is_address.false)
