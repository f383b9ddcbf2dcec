use Rattle.std.proofs.Common.{◌≡◌, ◌<◌, ◌-◌, ℕ, [], List, true, length, set, sym, ap, ◌∙◌}
use Rattle.std.proofs.lemmas.List.{set-set, get_or_default}
use Rattle.sim_values.specs.Texts.{Frame, frame_at, characters, replaced}
use Rattle.text_objects.specs.Frames.{with_bytes}
use Rattle.text_objects.proofs.FrameLemmas.{characters-set_other}
use Rattle.text_objects.proofs.texts.Texts.copy_between.Goals as goal

pub returns : goal.returns
returns c =
    let now = c.args.self.now in
    let l = c.args.left.text_frame in
    let at : ℕ = c.args.left.start - 1 in
    let items = c.self.inside.frames.items in
    let same : items ≡ now = c.self.view_is in
    let made : l < length items = rw same c.requires.left.made in
    let taken : c.replace-target.result ≡ frame_at now l =
    c.replace-target.ensures.value
    ∙ c.index_mut.ensures.value
    ∙ get_or_default items l _ (record { bytes = []; constant = true }) made
    ∙ ap (λ (fs : List Frame). frame_at fs l) same
    in
    let read : c.characters.result.now ≡ characters now c.args.right =
    c.characters.ensures.characters
    ∙ characters-set_other items l c.replace-target.new.dest c.args.right (λ e. c.requires.apart (sym e))
    ∙ ap (λ (fs : List Frame). characters fs c.args.right) same
    in
    set-set items l c.replace-target.new.dest c.write.new.self
    ∙ ap (λ (f : Frame). set items l f)
    (c.write.ensures
    ∙ ap (λ (f : Frame). with_bytes f (replaced f.bytes at c.characters.result.now)) taken
    ∙ ap (λ (cs : List ℕ). with_bytes (frame_at now l) (replaced (frame_at now l).bytes at cs)) read)
    ∙ ap (λ (fs : List Frame). set fs l (with_bytes (frame_at now l) (replaced (frame_at now l).bytes at (characters now c.args.right)))) same
