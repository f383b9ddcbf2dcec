use Rattle.std.proofs.Common.{[], refl}
use Rattle.object_machine.proofs.Putting.{put_other}
use Rattle.frame_arena.specs.Slots.{value_of}
use Rattle.object_machine.proofs.placing.place.Goals as goal

pub returns-in_default : goal.returns-in_default
returns-in_default c = record {
  texts = refl;
  frames = refl;
  valid = λ h. h;
  row = λ l r stack below before now o m s la lv go. put_other o m (λ rest. go) c.args.address.kind c.args.address (value_of c.args.value) [] c.in_default.not-Cell c.in_default.not-Element c.in_default.not-Image;
}
