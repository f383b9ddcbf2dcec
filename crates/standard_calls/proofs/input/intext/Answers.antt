use Rattle.std.proofs.Common.{rules, ◌≡◌, ◌^◌, ◌<◌, sym, subst, ap, to_z, of_z, w64}
use Rattle.std.specs.Prelude.{[], ◌∷◌}
use Rattle.sim_values.specs.declared.standard.Standard.TheVariants as name
use Rattle.sim_base.specs.declared.run_error.RunError.TheVariants.{NegativeLength}
use Rattle.sim_values.specs.Plain.{Integer}
use Rattle.sim_code.specs.Machine.{plain}
use Rattle.standard_calls.specs.declared.came.Came.TheVariants as came
use Rattle.standard_calls.specs.Calls.{CameAs}
use Rattle.standard_calls.specs.Performed.{parts}
use Rattle.standard_calls.proofs.Images.{images_kept_both}
use Rattle.standard_calls.proofs.InputSteps.{intext_done, intext_negative, intext_refused}
use Rattle.standard_calls.proofs.Taking.{text_done, text_refused}
use Rattle.standard_calls.specs.Taking.{CallTakes}
use Rattle.standard_calls.proofs.input.intext.Goals as goal

pub returns-then-n-lt0-clause-came : goal.returns-then-n-lt0-clause-came
returns-then-n-lt0-clause-came g c =
    let e : to_z w64 (of_z w64 c.args.n) ≡ c.args.n = search rules in
    λ image sink s told. (s, told, subst (λ n. CameAs (came.Fault NegativeLength) c.args.budget name.Intext (Integer n ∷ []) (parts c.args.texts.now c.args.sysin.now s image sink c.args.words.now) (parts c.args.texts.now c.args.sysin.now s image sink c.args.words.now)) e (intext_negative c.args.budget c.args.words.now (to_z w64 (of_z w64 c.args.n)) c.args.texts.now c.args.sysin.now image sink s c.if-n-lt0.true))

pub returns-in-Ok-clause-came : goal.returns-in-Ok-clause-came
returns-in-Ok-clause-came g c =
    let e : to_z w64 (of_z w64 c.args.n) ≡ c.args.n = search rules in
    let n2 = to_z w64 (of_z w64 c.args.n) in
    let top : c.args.budget < 2 ^ 64 = c.ranges.budget.fits in
    let r = c.in-Some.ensures.room in
    λ image sink s told.
    let t = intext_done c.args.budget c.args.words.now c.saturating_add.result c.words_for-taken.result c.in-Some.room n2 c.args.texts.now c.intext.new.texts c.args.sysin.now c.intext.new.self image sink (g.I.Source.left c.args.input.now) (g.I.Source.left c.intext.new.input) r.1 r.0 c.words_for-taken.ensures.words top c.saturating_add.ensures c.in-Ok.text c.text.result (ap plain c.text.ensures.value) c.in-Ok.ensures.outcome s told in
    (t.0, t.1, subst (λ n. CameAs c.value.result c.args.budget name.Intext (Integer n ∷ []) (parts c.args.texts.now c.args.sysin.now s image sink c.args.words.now) (parts c.intext.new.texts c.intext.new.self t.0 image sink c.saturating_add.result)) e (subst (λ z. CameAs z c.args.budget name.Intext (Integer n2 ∷ []) (parts c.args.texts.now c.args.sysin.now s image sink c.args.words.now) (parts c.intext.new.texts c.intext.new.self t.0 image sink c.saturating_add.result)) (sym c.value.ensures) t.2))

pub returns-in-Err-clause-came : goal.returns-in-Err-clause-came
returns-in-Err-clause-came g c =
    let e : to_z w64 (of_z w64 c.args.n) ≡ c.args.n = search rules in
    let n2 = to_z w64 (of_z w64 c.args.n) in
    let top : c.args.budget < 2 ^ 64 = c.ranges.budget.fits in
    let r = c.in-Some.ensures.room in
    λ image sink s told.
    let t = intext_refused c.args.budget c.args.words.now c.unread.new.words c.words_for-taken.result c.in-Some.room n2 c.args.texts.now c.intext.new.texts c.args.sysin.now c.intext.new.self image sink (g.I.Source.left c.args.input.now) (g.I.Source.left c.intext.new.input) r.1 r.0 c.words_for-taken.ensures.words top c.in-Err.fault c.unread.ensures.words c.in-Err.ensures.outcome
    (λ y is. let u = c.in-Err.ensures.untouched y is in (u.0, u.1, ap (λ i. g.I.Source.left i) u.2)) s told in
    (t.0, t.1, subst (λ n. CameAs c.unread.result c.args.budget name.Intext (Integer n ∷ []) (parts c.args.texts.now c.args.sysin.now s image sink c.args.words.now) (parts c.intext.new.texts c.intext.new.self t.0 image sink c.unread.new.words)) e (subst (λ z. CameAs z c.args.budget name.Intext (Integer n2 ∷ []) (parts c.args.texts.now c.args.sysin.now s image sink c.args.words.now) (parts c.intext.new.texts c.intext.new.self t.0 image sink c.unread.new.words)) (sym c.unread.ensures.came) t.2))

pub returns-in-Ok-clause-images : goal.returns-in-Ok-clause-images
returns-in-Ok-clause-images g c = images_kept_both c.args.texts.now c.intext.new.texts c.args.sysin.now.image c.intext.new.self.image c.requires.image c.intext.ensures.valid c.intext.ensures.same c.intext.ensures.others

pub returns-in-Err-clause-images : goal.returns-in-Err-clause-images
returns-in-Err-clause-images g c = images_kept_both c.args.texts.now c.intext.new.texts c.args.sysin.now.image c.intext.new.self.image c.requires.image c.intext.ensures.valid c.intext.ensures.same c.intext.ensures.others

pub returns-in-Ok-clause-takes : goal.returns-in-Ok-clause-takes
returns-in-Ok-clause-takes g c =
    let e : to_z w64 (of_z w64 c.args.n) ≡ c.args.n = search rules in
    let n2 = to_z w64 (of_z w64 c.args.n) in
    let r = c.in-Some.ensures.room in
    λ image sink s told.
    subst (λ n. CallTakes c.args.budget name.Intext (Integer n ∷ []) (parts c.args.texts.now c.args.sysin.now s image sink c.args.words.now) c.args.input.now c.intext.new.input) e
    (text_done c.args.budget c.args.words.now c.in-Some.room n2 c.args.texts.now c.intext.new.texts c.args.sysin.now c.intext.new.self image sink (g.I.Source.left c.args.input.now) (g.I.Source.left c.intext.new.input) r.0 r.1 c.args.input.now c.intext.new.input c.intext.ensures.unread c.in-Ok.text c.in-Ok.ensures.outcome s told)

pub returns-in-Err-clause-takes : goal.returns-in-Err-clause-takes
returns-in-Err-clause-takes g c =
    let e : to_z w64 (of_z w64 c.args.n) ≡ c.args.n = search rules in
    let n2 = to_z w64 (of_z w64 c.args.n) in
    let r = c.in-Some.ensures.room in
    λ image sink s told.
    subst (λ n. CallTakes c.args.budget name.Intext (Integer n ∷ []) (parts c.args.texts.now c.args.sysin.now s image sink c.args.words.now) c.args.input.now c.intext.new.input) e
    (text_refused c.args.budget c.args.words.now c.in-Some.room n2 c.args.texts.now c.intext.new.texts c.args.sysin.now c.intext.new.self image sink (g.I.Source.left c.args.input.now) (g.I.Source.left c.intext.new.input) r.0 r.1 c.args.input.now c.intext.new.input c.intext.ensures.unread c.in-Err.fault c.in-Err.ensures.outcome
    (λ y is. (c.in-Err.ensures.untouched y is).2) s told)
