-- Characters of a text written one after another.
use Rattle.std.proofs.Common.{◌≡◌, ℕ, zero, suc, ◌+◌, Bool, true, false, cond, List, ◌++◌, Result, Ok, Err, take, slice_index, append-nil, refl, sym, ap, ◌∙◌, subst, arith}
use Rattle.std.specs.Io.KnownBytes.{Appends}
use Rattle.std.proofs.KnownBytes.{Appends-trans}
use Rattle.std.specs.Result.{IsErrAnd}
use Rattle.sim_values.specs.declared.value.TextVal.{TextVal}
use Rattle.sim_values.specs.Images.{OutputState, is_used_up, outchar, outchars, outimage, placed}
use Rattle.sim_values.specs.Texts.{Frame, characters}
use Rattle.basic_io.specs.declared.fault.IoFault.{IoFault}
use Rattle.basic_io.specs.declared.fault.IoFault.TheVariants as fault
use Rattle.basic_io.specs.Output.{IsAt, IsCut, Performs, Writing, line_of, output_state}
use Rattle.basic_io.proofs.OutputLines.{cut_at}

-- the character of a text that is read in a state
abbrev read_at : TextVal → OutputState → ℕ → ℕ
read_at t s k = slice_index (characters s.frames t) k

-- one more character
outchars_more : (n k : ℕ) (t : TextVal) (s : OutputState) → outchars (suc n) k t s ≡ outchar (outchars n k t s) (read_at t (outchars n k t s) (k + n))
outchars_more zero k t s = let here : k ≡ k + 0 = omega arith in ap (λ (j : ℕ). outchar s (read_at t s j)) here
outchars_more (suc n) k t s =
    let r : OutputState = outchar s (read_at t s k) in
    let there : suc k + n ≡ k + suc n = omega arith in
    outchars_more n (suc k) t r ∙ ap (λ (j : ℕ). outchar (outchars n (suc k) t r) (read_at t (outchars n (suc k) t r) j)) there

pub next_outchar : (n : ℕ) (t : TextVal) (s : OutputState) → outchars (n + 1) 0 t s ≡ outchar (outchars n 0 t s) (read_at t (outchars n 0 t s) n)
next_outchar n t s =
    let one : n + 1 ≡ suc n = omega arith in
    let same : 0 + n ≡ n = omega arith in
    ap (λ (j : ℕ). outchars j 0 t s) one ∙ outchars_more n 0 t s ∙ ap (λ (j : ℕ). outchar (outchars n 0 t s) (read_at t (outchars n 0 t s) j)) same

-- what a character does to the texts and the image does not depend on what was written before, and it adds to that
record Apart (alone after : OutputState) (before : List ℕ) : Type 0 where
  pub frames : alone.frames ≡ after.frames
  pub image : alone.image ≡ after.image
  pub written : before ++ alone.written ≡ after.written

by_test : (full : Bool) (s : OutputState) (c : ℕ) → Apart (placed (cond full (outimage (output_state s.frames s.image)) (output_state s.frames s.image)) c) (placed (cond full (outimage s) s) c) s.written
by_test true s c = record { frames = refl; image = refl; written = refl }
by_test false s c = record { frames = refl; image = refl; written = append-nil s.written }

outchar_apart : (s : OutputState) (c : ℕ) → Apart (outchar (output_state s.frames s.image) c) (outchar s c) s.written
outchar_apart s c = by_test (is_used_up s.image) s c

same_place : (s : OutputState) (old mid : Writing) → IsAt s s.written old mid → output_state mid.frames mid.image ≡ output_state s.frames s.image
same_place s old mid there = ap (λ (fs : List Frame). output_state fs mid.image) there.frames ∙ ap (output_state s.frames) there.image

-- a call came to a state, and wrote one more character from there on
pub outchar_there : (s : OutputState) (c : ℕ) (old mid new : Writing) → IsAt s s.written old mid → IsAt (outchar (output_state mid.frames mid.image) c) (outchar (output_state mid.frames mid.image) c).written mid new
    → IsAt (outchar s c) (outchar s c).written old new
outchar_there s c old mid new there next =
    let alone : OutputState = outchar (output_state s.frames s.image) c in
    let apart : Apart alone (outchar s c) s.written = outchar_apart s c in
    let step : IsAt alone alone.written mid new = subst (λ (o : OutputState). IsAt (outchar o c) (outchar o c).written mid new) (same_place s old mid there) next in
    record {
      frames = step.frames ∙ apart.frames;
      image = step.image ∙ apart.image;
      sink = subst (Appends old.sink new.sink) apart.written (Appends-trans old.sink mid.sink new.sink s.written alone.written there.sink step.sink);
    }

-- a call came to a state, and the sink failed there
cut_there : (s r : OutputState) (old mid new : Writing) → IsAt s s.written old mid → r ≡ output_state mid.frames mid.image → IsCut r mid new → IsCut s old new
cut_there s r old mid new there here (count, cut) =
    let line : List ℕ = take count (line_of s) in
    let at_cut : IsAt (output_state s.frames s.image) line mid new =
    subst (λ (o : OutputState). IsAt o (o.written ++ take count (line_of o)) mid new) (here ∙ same_place s old mid there) cut
    in (
      count,
      record {
        frames = at_cut.frames;
        image = at_cut.image;
        sink = Appends-trans old.sink mid.sink new.sink s.written line there.sink at_cut.sink;
      },
    )

-- a character at which the sink failed
pub outchar_fault : (s t : OutputState) (c : ℕ) (Writes : OutputState → Type 0) (old mid new : Writing) (e : IoFault) (result : Result (Unit {0}) IoFault) → IsAt s s.written old mid
    → Performs {A = Unit {0}} (Ok (outchar (output_state mid.frames mid.image) c)) (λ r. (is_used_up mid.image ≡ true) × (r ≡ output_state mid.frames mid.image)) mid new (Err e)
    → (is_used_up s.image ≡ true → Writes s) → IsErrAnd result (λ f. f ≡ e) → Performs (Ok t) Writes old new result
outchar_fault s t c Writes old mid new (fault.Run e) result there failed writes is = absurd failed
outchar_fault s t c Writes old mid new fault.InputFault result there failed writes is = absurd failed
outchar_fault s t c Writes old mid new fault.WriteFault result there (r, full, cut) writes is =
    cut_at t s Writes old new result is (writes (ap is_used_up (sym there.image) ∙ full.0)) (cut_there s r old mid new there full.1 cut)
