use Rattle.std.proofs.Common.{rules, ◌≡◌, sym, subst, refl, ap, ◌∙◌, to_z, of_z, w64}
use Rattle.std.specs.Prelude.{[], Some, None, Ok}
use Rattle.sim_values.specs.declared.standard.Standard.TheVariants as name
use Rattle.sim_values.specs.Images.{inchar, inimage, inint, lastitem}
use Rattle.sim_values.specs.Plain.{Character, Integer, Truth}
use Rattle.sim_values.specs.Store.{unvalued, valued}
use Rattle.sim_code.specs.Machine.{plain}
use Rattle.basic_io.specs.Input.{WantsCharacter, WantsImage, WantsItem}
use Rattle.standard_calls.specs.Calls.{CameAs, reading_name}
use Rattle.standard_calls.specs.Performed.{parts, store_of}
use Rattle.standard_calls.proofs.Images.{images_kept}
use Rattle.standard_calls.proofs.Effects.{does_inchar, does_inimage, does_inint, does_lastitem}
use Rattle.standard_calls.proofs.InputSteps.{reads_done, reads_refused}
use Rattle.standard_calls.proofs.input.of_input.Goals as goal

pub returns-in-Ok-clause-came : goal.returns-in-Ok-clause-came
returns-in-Ok-clause-came g c = λ budget words image sink s told.
    let t = reads_done name.Inimage [] budget c.args.texts.now c.inimage.new.texts c.args.sysin.now c.inimage.new.self image sink words unvalued inimage WantsImage (λ s written. does_inimage (store_of (parts c.args.texts.now c.args.sysin.now s image sink words) written)) (g.I.Source.left c.args.input.now) (g.I.Source.left c.inimage.new.input) tt None refl c.in-Ok.ensures.outcome s told in
    (t.0, t.1, subst (λ f. CameAs c.done.result budget (reading_name f) [] (parts c.args.texts.now c.args.sysin.now s image sink words) (parts c.inimage.new.texts c.inimage.new.self t.0 image sink words)) (sym c.in-Inimage.is) (subst (λ z. CameAs z budget name.Inimage [] (parts c.args.texts.now c.args.sysin.now s image sink words) (parts c.inimage.new.texts c.inimage.new.self t.0 image sink words)) (sym c.done.ensures) t.2))

pub returns-in-Err-clause-came : goal.returns-in-Err-clause-came
returns-in-Err-clause-came g c = λ budget words image sink s told.
    let t = reads_refused name.Inimage [] budget c.args.texts.now c.inimage.new.texts c.args.sysin.now c.inimage.new.self image sink words unvalued inimage WantsImage (λ s written. does_inimage (store_of (parts c.args.texts.now c.args.sysin.now s image sink words) written)) (g.I.Source.left c.args.input.now) (g.I.Source.left c.inimage.new.input) (λ x. refl) c.in-Err.fault c.in-Err.ensures.outcome s told in
    (t.0, t.1, subst (λ f. CameAs c.refused.result budget (reading_name f) [] (parts c.args.texts.now c.args.sysin.now s image sink words) (parts c.inimage.new.texts c.inimage.new.self t.0 image sink words)) (sym c.in-Inimage.is) (subst (λ z. CameAs z budget name.Inimage [] (parts c.args.texts.now c.args.sysin.now s image sink words) (parts c.inimage.new.texts c.inimage.new.self t.0 image sink words)) (sym c.refused.ensures) t.2))

pub returns-in-Ok-clause-images : goal.returns-in-Ok-clause-images
returns-in-Ok-clause-images g c = images_kept c.args.texts.now c.inimage.new.texts c.args.sysin.now.image c.inimage.new.self.image c.requires.image c.inimage.ensures.valid c.inimage.ensures.same c.inimage.ensures.others

pub returns-in-Err-clause-images : goal.returns-in-Err-clause-images
returns-in-Err-clause-images g c = images_kept c.args.texts.now c.inimage.new.texts c.args.sysin.now.image c.inimage.new.self.image c.requires.image c.inimage.ensures.valid c.inimage.ensures.same c.inimage.ensures.others

pub returns-in-Ok-inchar-clause-came : goal.returns-in-Ok-inchar-clause-came
returns-in-Ok-inchar-clause-came g c = λ budget words image sink s told.
    let t = reads_done name.Inchar [] budget c.args.texts.now c.inchar.new.texts c.args.sysin.now c.inchar.new.self image sink words (valued Character) inchar WantsCharacter (λ s written. does_inchar (store_of (parts c.args.texts.now c.args.sysin.now s image sink words) written)) (g.I.Source.left c.args.input.now) (g.I.Source.left c.inchar.new.input) c.in-Ok-inchar.c (Some c.character.result) (ap (λ m. Ok m) (sym (ap plain c.character.ensures.value))) c.in-Ok-inchar.ensures.outcome s told in
    (t.0, t.1, subst (λ f. CameAs c.value.result budget (reading_name f) [] (parts c.args.texts.now c.args.sysin.now s image sink words) (parts c.inchar.new.texts c.inchar.new.self t.0 image sink words)) (sym c.in-Inchar.is) (subst (λ z. CameAs z budget name.Inchar [] (parts c.args.texts.now c.args.sysin.now s image sink words) (parts c.inchar.new.texts c.inchar.new.self t.0 image sink words)) (sym c.value.ensures) t.2))

pub returns-in-Err-inchar-clause-came : goal.returns-in-Err-inchar-clause-came
returns-in-Err-inchar-clause-came g c = λ budget words image sink s told.
    let t = reads_refused name.Inchar [] budget c.args.texts.now c.inchar.new.texts c.args.sysin.now c.inchar.new.self image sink words (valued Character) inchar WantsCharacter (λ s written. does_inchar (store_of (parts c.args.texts.now c.args.sysin.now s image sink words) written)) (g.I.Source.left c.args.input.now) (g.I.Source.left c.inchar.new.input) (λ x. refl) c.in-Err-inchar.fault c.in-Err-inchar.ensures.outcome s told in
    (t.0, t.1, subst (λ f. CameAs c.refused-in-Err-inchar.result budget (reading_name f) [] (parts c.args.texts.now c.args.sysin.now s image sink words) (parts c.inchar.new.texts c.inchar.new.self t.0 image sink words)) (sym c.in-Inchar.is) (subst (λ z. CameAs z budget name.Inchar [] (parts c.args.texts.now c.args.sysin.now s image sink words) (parts c.inchar.new.texts c.inchar.new.self t.0 image sink words)) (sym c.refused-in-Err-inchar.ensures) t.2))

pub returns-in-Ok-inchar-clause-images : goal.returns-in-Ok-inchar-clause-images
returns-in-Ok-inchar-clause-images g c = images_kept c.args.texts.now c.inchar.new.texts c.args.sysin.now.image c.inchar.new.self.image c.requires.image c.inchar.ensures.valid c.inchar.ensures.same c.inchar.ensures.others

pub returns-in-Err-inchar-clause-images : goal.returns-in-Err-inchar-clause-images
returns-in-Err-inchar-clause-images g c = images_kept c.args.texts.now c.inchar.new.texts c.args.sysin.now.image c.inchar.new.self.image c.requires.image c.inchar.ensures.valid c.inchar.ensures.same c.inchar.ensures.others

pub returns-in-Ok-inint-clause-came : goal.returns-in-Ok-inint-clause-came
returns-in-Ok-inint-clause-came g c = let whole : to_z w64 (of_z w64 c.in-Ok-inint.z) ≡ c.in-Ok-inint.z = search rules in λ budget words image sink s told.
    let t = reads_done name.Inint [] budget c.args.texts.now c.inint.new.texts c.args.sysin.now c.inint.new.self image sink words (valued Integer) inint WantsItem (λ s written. does_inint (store_of (parts c.args.texts.now c.args.sysin.now s image sink words) written)) (g.I.Source.left c.args.input.now) (g.I.Source.left c.inint.new.input) c.in-Ok-inint.z (Some c.integer.result) (ap (λ k. Ok (Some (Integer k))) (sym whole) ∙ ap (λ m. Ok m) (sym (ap plain c.integer.ensures.value))) c.in-Ok-inint.ensures.outcome s told in
    (t.0, t.1, subst (λ f. CameAs c.value-in-Ok-inint.result budget (reading_name f) [] (parts c.args.texts.now c.args.sysin.now s image sink words) (parts c.inint.new.texts c.inint.new.self t.0 image sink words)) (sym c.in-Inint.is) (subst (λ z. CameAs z budget name.Inint [] (parts c.args.texts.now c.args.sysin.now s image sink words) (parts c.inint.new.texts c.inint.new.self t.0 image sink words)) (sym c.value-in-Ok-inint.ensures) t.2))

pub returns-in-Err-inint-clause-came : goal.returns-in-Err-inint-clause-came
returns-in-Err-inint-clause-came g c = λ budget words image sink s told.
    let t = reads_refused name.Inint [] budget c.args.texts.now c.inint.new.texts c.args.sysin.now c.inint.new.self image sink words (valued Integer) inint WantsItem (λ s written. does_inint (store_of (parts c.args.texts.now c.args.sysin.now s image sink words) written)) (g.I.Source.left c.args.input.now) (g.I.Source.left c.inint.new.input) (λ x. refl) c.in-Err-inint.fault c.in-Err-inint.ensures.outcome s told in
    (t.0, t.1, subst (λ f. CameAs c.refused-in-Err-inint.result budget (reading_name f) [] (parts c.args.texts.now c.args.sysin.now s image sink words) (parts c.inint.new.texts c.inint.new.self t.0 image sink words)) (sym c.in-Inint.is) (subst (λ z. CameAs z budget name.Inint [] (parts c.args.texts.now c.args.sysin.now s image sink words) (parts c.inint.new.texts c.inint.new.self t.0 image sink words)) (sym c.refused-in-Err-inint.ensures) t.2))

pub returns-in-Ok-inint-clause-images : goal.returns-in-Ok-inint-clause-images
returns-in-Ok-inint-clause-images g c = images_kept c.args.texts.now c.inint.new.texts c.args.sysin.now.image c.inint.new.self.image c.requires.image c.inint.ensures.valid c.inint.ensures.same c.inint.ensures.others

pub returns-in-Err-inint-clause-images : goal.returns-in-Err-inint-clause-images
returns-in-Err-inint-clause-images g c = images_kept c.args.texts.now c.inint.new.texts c.args.sysin.now.image c.inint.new.self.image c.requires.image c.inint.ensures.valid c.inint.ensures.same c.inint.ensures.others

pub returns-in-Ok-lastitem-clause-came : goal.returns-in-Ok-lastitem-clause-came
returns-in-Ok-lastitem-clause-came g c = λ budget words image sink s told.
    let t = reads_done name.Lastitem [] budget c.args.texts.now c.lastitem.new.texts c.args.sysin.now c.lastitem.new.self image sink words (valued Truth) lastitem WantsItem (λ s written. does_lastitem (store_of (parts c.args.texts.now c.args.sysin.now s image sink words) written)) (g.I.Source.left c.args.input.now) (g.I.Source.left c.lastitem.new.input) c.in-Ok-lastitem.last (Some c.truth.result) (ap (λ m. Ok m) (sym (ap plain c.truth.ensures.value))) c.in-Ok-lastitem.ensures.outcome s told in
    (t.0, t.1, subst (λ f. CameAs c.value-in-Ok-lastitem.result budget (reading_name f) [] (parts c.args.texts.now c.args.sysin.now s image sink words) (parts c.lastitem.new.texts c.lastitem.new.self t.0 image sink words)) (sym c.in-Lastitem.is) (subst (λ z. CameAs z budget name.Lastitem [] (parts c.args.texts.now c.args.sysin.now s image sink words) (parts c.lastitem.new.texts c.lastitem.new.self t.0 image sink words)) (sym c.value-in-Ok-lastitem.ensures) t.2))

pub returns-in-Err-lastitem-clause-came : goal.returns-in-Err-lastitem-clause-came
returns-in-Err-lastitem-clause-came g c = λ budget words image sink s told.
    let t = reads_refused name.Lastitem [] budget c.args.texts.now c.lastitem.new.texts c.args.sysin.now c.lastitem.new.self image sink words (valued Truth) lastitem WantsItem (λ s written. does_lastitem (store_of (parts c.args.texts.now c.args.sysin.now s image sink words) written)) (g.I.Source.left c.args.input.now) (g.I.Source.left c.lastitem.new.input) (λ x. refl) c.in-Err-lastitem.fault c.in-Err-lastitem.ensures.outcome s told in
    (t.0, t.1, subst (λ f. CameAs c.refused-in-Err-lastitem.result budget (reading_name f) [] (parts c.args.texts.now c.args.sysin.now s image sink words) (parts c.lastitem.new.texts c.lastitem.new.self t.0 image sink words)) (sym c.in-Lastitem.is) (subst (λ z. CameAs z budget name.Lastitem [] (parts c.args.texts.now c.args.sysin.now s image sink words) (parts c.lastitem.new.texts c.lastitem.new.self t.0 image sink words)) (sym c.refused-in-Err-lastitem.ensures) t.2))

pub returns-in-Ok-lastitem-clause-images : goal.returns-in-Ok-lastitem-clause-images
returns-in-Ok-lastitem-clause-images g c = images_kept c.args.texts.now c.lastitem.new.texts c.args.sysin.now.image c.lastitem.new.self.image c.requires.image c.lastitem.ensures.valid c.lastitem.ensures.same c.lastitem.ensures.others

pub returns-in-Err-lastitem-clause-images : goal.returns-in-Err-lastitem-clause-images
returns-in-Err-lastitem-clause-images g c = images_kept c.args.texts.now c.lastitem.new.texts c.args.sysin.now.image c.lastitem.new.self.image c.requires.image c.lastitem.ensures.valid c.lastitem.ensures.same c.lastitem.ensures.others
