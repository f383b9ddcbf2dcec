use Rattle.std.proofs.Common.{rules, ◌≡◌, ◌∙◌, ap, refl, sym}
use Rattle.std.specs.Prelude.{pos}
use Rattle.sim_values.specs.Plain.{Text}
use Rattle.sim_code.specs.Machine.{Of}
use Rattle.frame_arena.specs.Slots.{count_of, value_by}
use Rattle.object_machine.proofs.PairRows.{no_text_kind}
use Rattle.object_machine.proofs.pairs.text_in.Goals as goal

pub returns-in_default : goal.returns-in_default
returns-in_default c = record { read = no_text_kind c.args.slot.kind c.args.slot c.in_default.not-Text }

pub returns-then-is_text : goal.returns-then-is_text
returns-then-is_text c =
    let s = c.args.slot in
    let ed : pos c.in-Ok.pos ≡ s.«data» = search rules in
    record {
      read = (
        ap (λ j. value_by j s) c.in-Text.is ∙ ap (λ z. Of (Text (record { text_frame = s.name; start = s.more; length = s.class; pos = count_of z }))) (sym ed),
        c.if-is_text.ensures.text.0 refl,
      );
    }
