use Rattle.std.proofs.Common.{◌≡◌, ◌<◌, ◌+◌, ◌-◌, ℕ, [], List, true, length, replicate, set, refl, ap, ◌∙◌, arith}
use Rattle.std.proofs.lemmas.List.{get_or_default}
use Rattle.sim_values.specs.Texts.{Frame, frame_at, replaced, padded}
use Rattle.text_objects.specs.Frames.{with_bytes}
use Rattle.text_objects.proofs.FrameLemmas.{twice_written, padded_write}
use Rattle.text_objects.proofs.texts.Texts.fill.Goals as goal

pub returns-clause-filled : goal.returns-clause-filled
returns-clause-filled c =
    let now = c.args.self.now in
    let l = c.args.t.text_frame in
    let at : ℕ = c.args.t.start - 1 in
    let cs : List ℕ = c.args.characters.now in
    let room = c.args.t.length in
    let items = c.self.inside.frames.items in
    let same : items ≡ now = c.self.view_is in
    let made : l < length items = rw same c.requires.text.made in
    let target = c.index_mut-frame.result.now in
    let is : target ≡ frame_at now l =
    c.index_mut-frame.ensures.value
    ∙ get_or_default items l _ (record { bytes = []; constant = true }) made
    ∙ ap (λ (fs : List Frame). frame_at fs l) same
    in
    let both : c.blank.new.self ≡ twice_written target at cs (length cs) room =
    c.blank.ensures
    ∙ ap (λ (f : Frame). with_bytes f (replaced f.bytes (at + length cs) (replicate (room - length cs) 32))) c.write.ensures
    in
    ap (λ (f : Frame). set items l f)
    (both
    ∙ ap (λ (f : Frame). twice_written f at cs (length cs) room) is
    ∙ padded_write (frame_at now l) at cs (length cs) room refl (omega (arith, c.requires.text.within, c.requires.start, c.requires.fits)))
    ∙ ap (λ (fs : List Frame). set fs l (with_bytes (frame_at now l) (replaced (frame_at now l).bytes at (padded room cs)))) same
