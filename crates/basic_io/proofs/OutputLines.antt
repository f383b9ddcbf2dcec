-- The line that `outimage` writes, and calls that fail in the midst of one.
use Rattle.std.proofs.Common.{◌≡◌, ℕ, zero, suc, ◌+◌, ◌-◌, ◌≤◌, Bool, false, cond, ◌==◌, List, [], ◌∷◌, ◌++◌, Option, Result, Ok, Err, length, take, drop, refl, sym, ap, ◌∙◌, subst, arith}
use Rattle.std.proofs.lemmas.List.{take-append-le, take-take, length-take}
use Rattle.std.proofs.lemmas.Bool.Decides.{nat_tests}
use Rattle.std.proofs.Math.Seq.{take-append-add}
use Rattle.std.specs.Io.KnownBytes.{Appends}
use Rattle.std.proofs.KnownBytes.{Appends-trans}
use Rattle.std.specs.Result.{IsErrAnd}
use Rattle.sim_values.specs.declared.value.TextVal.{TextVal}
use Rattle.sim_values.specs.Images.{OutputState}
use Rattle.sim_values.specs.Texts.{Frame, characters, content_length, frame_at, notext, part, strip}
use Rattle.basic_io.specs.declared.fault.IoFault.{IoFault}
use Rattle.basic_io.specs.declared.fault.IoFault.TheVariants as fault
use Rattle.basic_io.specs.Image.{IsImage}
use Rattle.basic_io.specs.Output.{IsCut, Performs, Writing}

-- ---- the line

content_within : (cs : List ℕ) → content_length cs ≤ length cs
content_within [] = omega arith
content_within (c ∷ cs) = let rest = content_within cs in grind (arith, nat_tests)

part_characters : (frames : List Frame) (image : TextVal) (n : ℕ) → 1 ≤ image.start → n ≤ image.length → characters frames (part image 1 n) ≡ take n (characters frames image)
part_characters frames image zero start within = refl
part_characters frames image (suc n) start within =
    let bytes : List ℕ = (frame_at frames image.text_frame).bytes in
    let first : image.start + 1 - 1 - 1 ≡ image.start - 1 = omega arith in
    let some : (suc n == 0) ≡ false = grind (arith, nat_tests) in
    ap (λ (none : Bool). characters frames (cond none notext (record { text_frame = image.text_frame; start = image.start + 1 - 1; length = suc n; pos = 1 }))) some
    ∙ ap (λ (at : ℕ). take (suc n) (drop at bytes)) first
    ∙ sym (take-take (suc n) image.length (drop (image.start - 1) bytes) within)

-- the characters of an image without trailing blanks
pub stripped_characters : (frames : List Frame) (image inside content : TextVal) (read : List ℕ) → IsImage frames image → inside ≡ image → content ≡ strip frames inside → read ≡ characters frames content
    → read ≡ take (content_length (characters frames image)) (characters frames image)
stripped_characters frames image inside content read h same part is =
    let cs : List ℕ = characters frames image in
    let bytes : List ℕ = (frame_at frames image.text_frame).bytes in
    is
    ∙ ap (λ (t : TextVal). characters frames t) (part ∙ ap (λ (t : TextVal). strip frames t) same)
    ∙ part_characters frames image (content_length cs) (omega (arith, h.start)) (omega (arith, content_within cs, length-take image.length (drop (image.start - 1) bytes)))

-- a part of the line was written
pub within_content : (a b : Option (List ℕ)) (content line : List ℕ) (n : ℕ) → content ≡ line → n ≤ length content → Appends a b (take n content) → Appends a b (take n (line ++ 10 ∷ []))
within_content a b content line n is within adds =
    subst (Appends a b) (sym (take-append-le n content (10 ∷ []) within) ∙ ap (λ (xs : List ℕ). take n (xs ++ 10 ∷ [])) is) adds

pub behind_content : (a b c : Option (List ℕ)) (content line : List ℕ) (n : ℕ) → content ≡ line → Appends a b content → Appends b c (take n (10 ∷ [])) → Appends a c (take (length content + n) (line ++ 10 ∷ []))
behind_content a b c content line n is first second =
    subst (Appends a c) (sym (take-append-add content (10 ∷ []) n) ∙ ap (λ (xs : List ℕ). take (length content + n) (xs ++ 10 ∷ [])) is) (Appends-trans a b c content (take n (10 ∷ [])) first second)

-- ---- a call that hands a fault of the output on

pub cut_at : {A : Type 0} (s r : OutputState) (Writes : OutputState → Type 0) (old new : Writing) (result : Result A IoFault) → IsErrAnd result (λ f. f ≡ fault.WriteFault) → Writes r → IsCut r old new → Performs (Ok s) Writes old new result
cut_at s r Writes old new (Ok a) failed writes cut = absurd failed
cut_at {A = A} s r Writes old new (Err f) failed writes cut = subst (λ (e : IoFault). Performs {A = A} (Ok s) Writes old new (Err e)) (sym failed) (r, writes, cut)

-- a fault of one output by images is one of another that writes where it does
pub handed_on : (A : Type 0) {B : Type 0} (s t : OutputState) (Writes Others : OutputState → Type 0) (old new : Writing) (e : IoFault) (result : Result B IoFault)
    → Performs {A = A} (Ok s) Writes old new (Err e) → ((r : OutputState) → Writes r → Others r) → IsErrAnd result (λ f. f ≡ e) → Performs (Ok t) Others old new result
handed_on A s t Writes Others old new (fault.Run e) result done more is = absurd done
handed_on A s t Writes Others old new fault.InputFault result done more is = absurd done
handed_on A s t Writes Others old new fault.WriteFault result (r, writes, cut) more is = cut_at t r Others old new result is (more r writes) cut
