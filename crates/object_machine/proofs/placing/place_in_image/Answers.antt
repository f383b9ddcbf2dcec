use Rattle.std.proofs.Common.{rules, ◌≡◌, ◌∙◌, [], ap, refl, sym, subst}
use Rattle.std.specs.Prelude.{Some, None, pos}
use Rattle.sim_values.specs.declared.value.TextVal.{TextVal}
use Rattle.sim_values.specs.Plain.{Text}
use Rattle.sim_values.specs.Store.{image_at, with_image}
use Rattle.sim_code.specs.Machine.{Machine, Of, plain}
use Rattle.sim_code.specs.Outcome.{Run, World}
use Rattle.frame_arena.specs.Slots.{count_of, value_by, value_of}
use Rattle.object_machine.specs.Images.{image_in}
use Rattle.object_machine.specs.Standing.{Stands, ports_in, ports_of}
use Rattle.object_machine.proofs.ImageRows.{image_found, moving, no_image, no_text, other_text, same_image, stands_image}
use Rattle.object_machine.proofs.Putting.{put_image_is}
use Rattle.object_machine.proofs.placing.place_in_image.Goals as goal

pub returns-in_default-clause-row : goal.returns-in_default-clause-row
returns-in_default-clause-row c l p p2 r stack below before now o m e ep s go =
    let a = c.args.address in
    let v = value_of c.args.value in
    let T : World → Run Machine = λ w. go w m in
    let found : image_at o.store a.more ≡ None = image_found p.image o.store now.source a.more s.stores.world.image ∙ ap (λ i. image_in i a.more) e ∙ sym c.in_default.ensures in
    put_image_is o m (λ rest. go) a v [] c.requires.kind ∙ ap (λ i. moving o a.more T (plain v) i) found ∙ no_image o a.more T (plain v)

pub returns-in_default-kind : goal.returns-in_default-kind
returns-in_default-kind c = record {
  valid = λ texts h. h;
  row = λ l p p2 r stack below before now o m e ep s go.
      let a = c.args.address in
      let v = value_of c.args.value in
      let T : World → Run Machine = λ w. go w m in
      let found : image_at o.store a.more ≡ Some c.in-Some.image = image_found p.image o.store now.source a.more s.stores.world.image ∙ ap (λ i. image_in i a.more) e ∙ sym c.in-Some.ensures in
      put_image_is o m (λ rest. go) a v [] c.requires.kind ∙ ap (λ i. moving o a.more T (plain v) i) found ∙ no_text o a.more T c.args.value.kind c.args.value c.in-Some.image c.in_default-kind.not-Text;
}

pub returns-then-not-is_same-clause-row : goal.returns-then-not-is_same-clause-row
returns-then-not-is_same-clause-row c l p p2 r stack below before now o m e ep s go =
    let a = c.args.address in
    let v = value_of c.args.value in
    let T : World → Run Machine = λ w. go w m in
    let found : image_at o.store a.more ≡ Some c.in-Some.image = image_found p.image o.store now.source a.more s.stores.world.image ∙ ap (λ i. image_in i a.more) e ∙ sym c.in-Some.ensures in
    let t : TextVal = record { text_frame = c.args.value.name; start = c.args.value.more; length = c.args.value.class; pos = c.in-Ok.pos } in
    let ed : pos c.in-Ok.pos ≡ c.args.value.«data» = search rules in
    let is : v ≡ Of (Text t) = ap (λ j. value_by j c.args.value) c.in-Text.is ∙ ap (λ z. Of (Text (record { text_frame = c.args.value.name; start = c.args.value.more; length = c.args.value.class; pos = count_of z }))) (sym ed) in
    put_image_is o m (λ rest. go) a v [] c.requires.kind ∙ ap (λ i. moving o a.more T (plain v) i) found ∙ ap (λ x. moving o a.more T (plain x) (Some c.in-Some.image)) is ∙ other_text o a.more T c.in-Some.image t (sym c.if-not-is_same.ensures)

pub returns-clause-row : goal.returns-clause-row
returns-clause-row c l p p2 r stack below before now o m e ep s =
    let a = c.args.address in
    let v = value_of c.args.value in
    let found : image_at o.store a.more ≡ Some c.in-Some.image = image_found p.image o.store now.source a.more s.stores.world.image ∙ ap (λ i. image_in i a.more) e ∙ sym c.in-Some.ensures in
    let t : TextVal = record { text_frame = c.args.value.name; start = c.args.value.more; length = c.args.value.class; pos = c.in-Ok.pos } in
    let ed : pos c.in-Ok.pos ≡ c.args.value.«data» = search rules in
    let is : v ≡ Of (Text t) = ap (λ j. value_by j c.args.value) c.in-Text.is ∙ ap (λ z. Of (Text (record { text_frame = c.args.value.name; start = c.args.value.more; length = c.args.value.class; pos = count_of z }))) (sym ed) in
    let ports = c.set_pos.ensures.moved o.store now.source t refl (subst (λ i. ports_in o.store ≡ ports_of i now.source) e s.stores.world.image) in
    record {
      world = record o { store = with_image o.store a.more t };
      memory = m;
      is = λ go. let T : World → Run Machine = λ w. go w m in
          put_image_is o m (λ rest. go) a v [] c.requires.kind ∙ ap (λ i. moving o a.more T (plain v) i) found ∙ ap (λ x. moving o a.more T (plain x) (Some c.in-Some.image)) is ∙ same_image o a.more T c.in-Some.image t (sym c.if-not-is_same.ensures);
      stands = subst (λ z. Stands l z r stack below before now (record o { store = with_image o.store a.more t }) m) (sym ep) (stands_image l p r stack below before now o m c.set_pos.new.self a.more t s ports);
    }
