use Rattle.std.proofs.Common.{◌≡◌, ◌<◌, ◌≤◌, ◌+◌, ◌-◌, ℕ, [], List, true, length, take, drop, replicate, get_or, set, sym, ap, ◌∙◌, subst, arith}
use Rattle.std.proofs.lemmas.List.{set-set, get_or_default, get_or-set_same, length-take, length-drop}
use Rattle.sim_values.specs.Texts.{Frame, LiesIn, frame_at, characters, replaced, padded}
use Rattle.text_objects.specs.Frames.{with_bytes}
use Rattle.text_objects.proofs.FrameLemmas.{twice_written, padded_write}
use Rattle.text_objects.proofs.texts.Texts.write_padded.Goals as goal

pub returns-then-left-right : goal.returns-then-left-right
returns-then-left-right c =
    let now = c.args.self.now in
    let l = c.args.left.text_frame in
    let at : ℕ = c.args.left.start - 1 in
    let from : ℕ = c.args.right.start - 1 in
    let count = c.args.right.length in
    let room = c.args.left.length in
    let items = c.self-then-left-right.inside.frames.items in
    let same : items ≡ now = c.self-then-left-right.view_is in
    let made : l < length items = rw same c.requires.left.made in
    let target = c.index_mut-target-then-left-right.result.now in
    let is : target ≡ frame_at now l =
    c.index_mut-target-then-left-right.ensures.value
    ∙ get_or_default items l _ (record { bytes = []; constant = true }) made
    ∙ ap (λ (fs : List Frame). frame_at fs l) same
    in
    let lies : LiesIn now c.args.right = c.requires.right.lies (omega (arith, c.requires.right.starts)) in
    let together : l ≡ c.args.right.text_frame = c.if-left-right.true in
    let old : List ℕ = (frame_at now l).bytes in
    let within_right : c.args.right.start + count ≤ length old + 1 =
    let P : ℕ → Type 0 = λ n. c.args.right.start + count ≤ length (frame_at now n).bytes + 1 in
    subst P (sym together) lies.within
    in
    let source : List ℕ = take count (drop from old) in
    let counted : length source ≡ count =
    length-take count (drop from old) ∙ omega (arith, length-drop from old, c.requires.right.starts)
    in
    let read : source ≡ characters now c.args.right = ap (λ (n : ℕ). take count (drop from (frame_at now n).bytes)) together in
    let moved : c.blank-then-left-right.new.self ≡ twice_written target at (take count (drop from target.bytes)) count room =
    c.blank-then-left-right.ensures
    ∙ ap (λ (f : Frame). with_bytes f (replaced f.bytes (at + count) (replicate (room - count) 32))) c.move_within.ensures
    in
    ap (λ (f : Frame). set items l f)
    (moved
    ∙ ap (λ (f : Frame). twice_written f at (take count (drop from f.bytes)) count room) is
    ∙ padded_write (frame_at now l) at source count room counted (omega (arith, c.requires.left.within, c.requires.start))
    ∙ ap (λ (cs : List ℕ). with_bytes (frame_at now l) (replaced old at (padded room cs))) read)
    ∙ ap (λ (fs : List Frame). set fs l (with_bytes (frame_at now l) (replaced old at (padded room (characters now c.args.right))))) same

pub returns-else-left-right : goal.returns-else-left-right
returns-else-left-right c =
    let now = c.args.self.now in
    let l = c.args.left.text_frame in
    let at : ℕ = c.args.left.start - 1 in
    let count = c.args.right.length in
    let room = c.args.left.length in
    let items = c.self-else-left-right.inside.frames.items in
    let cs : List ℕ = characters now c.args.right in
    let old : Frame = frame_at now l in
    let first : Frame = with_bytes old (replaced old.bytes at cs) in
    let same : items ≡ set now l first = c.self-else-left-right.view_is ∙ c.copy_between.ensures in
    let none : Frame = record { bytes = []; constant = true } in
    let target = c.index_mut-target-else-left-right.result.now in
    let is : target ≡ first =
    c.index_mut-target-else-left-right.ensures.value
    ∙ ap (λ (fs : List Frame). get_or fs l target) same
    ∙ get_or-set_same now l first target c.requires.left.made
    in
    let lies : LiesIn now c.args.right = c.requires.right.lies (omega (arith, c.requires.right.starts)) in
    let counted : length cs ≡ count =
    length-take count (drop (c.args.right.start - 1) (frame_at now c.args.right.text_frame).bytes)
    ∙ omega (arith, length-drop (c.args.right.start - 1) (frame_at now c.args.right.text_frame).bytes, c.requires.right.starts, lies.within)
    in
    ap (λ (f : Frame). set items l f)
    (c.blank-else-left-right.ensures
    ∙ ap (λ (f : Frame). with_bytes f (replaced f.bytes (at + count) (replicate (room - count) 32))) is
    ∙ padded_write old at cs count room counted (omega (arith, c.requires.left.within, c.requires.start)))
    ∙ ap (λ (fs : List Frame). set fs l (with_bytes old (replaced old.bytes at (padded room cs)))) same
    ∙ set-set now l first (with_bytes old (replaced old.bytes at (padded room cs)))
