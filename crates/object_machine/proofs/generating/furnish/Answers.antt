use Rattle.std.proofs.Common.{◌≡◌, length, ◌∙◌, ap, sym, subst, refl}
use Rattle.std.specs.Prelude.{Some}
use Rattle.sim_code.specs.Arrays.{handed_over}
use Rattle.sim_code.specs.Levels.{filled_by, parameter_cell}
use Rattle.sim_code.specs.Machine.{arrays_among, first_cells}
use Rattle.frame_arena.specs.Stacks.{values_from}
use Rattle.object_machine.specs.declared.machine.Storage.{Storage}
use Rattle.object_machine.specs.Calling.{OpensWith, opened_with}
use Rattle.object_machine.proofs.BlockFacts.{same_found}
use Rattle.object_machine.proofs.Supplied.{handed}
use Rattle.object_machine.proofs.generating.furnish.Goals as goal

pub returns-clause-row : goal.returns-clause-row
returns-clause-row c on code l before now p o m k b g parent cells t r eb ec eh h w is =
    let stack = c.args.stack.now in
    let at = c.args.actuals.at in
    let count = c.args.actuals.count in
    let vs = values_from stack at count in
    let p2 = c.supply_levels.new.storage in
    let s1 = c.supply_levels.ensures.row c.if-not-supply_levels.false code l before now p o m k b g parent t r eb ec eh h w in
    let opens : OpensWith l p p2 k b g parent cells t before now o o m = subst (λ cs. OpensWith l p p2 k b g parent cs t before now o o m) (same_found (filled_by (parameter_cell code c.args.class) 0 vs (Some (first_cells b))) s1.cells cells s1.is is) s1.opens in
    let w1 = opens.others r stack w in
    let stamp : c.args.home.stamp ≡ length m.instances = ap (λ f. f.stamp) (sym eh) ∙ ap (λ a. a.home) h.top in
    let p3 : Storage = record p2 { arrays = c.hand_over_all.new.arrays } in
    let o3 = handed_over c.args.home.stamp (arrays_among vs) o in
    let o2 = handed_over (length m.instances) (arrays_among vs) o in
    let same : o3 ≡ o2 = ap (λ n. handed_over n (arrays_among vs) o) stamp in
    subst (λ x. OpensWith l p p3 k b g parent cells t before now o x m) same
    (handed l p p2 p3 k b g parent cells t before now o m opens c.args.home.stamp (arrays_among vs) refl refl refl refl refl refl refl refl refl refl
    (c.hand_over_all.ensures.holds o opens.stores.arrays w1.arrays_lead) (c.hand_over_all.ensures.leads o opens.stores.arrays w1.arrays_lead) (c.hand_over_all.ensures.elements p2.frames.items (opened_with m k b g parent cells) opens.stores.elements))
