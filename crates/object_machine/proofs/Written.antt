-- What is added to a sink.
use Rattle.std.proofs.Common.{◌≡◌, ℕ, List, [], ◌∷◌, ◌++◌, take, drop, sym, subst, refl, ap, ◌∙◌, ◌<◌, arith}
use Rattle.std.proofs.lemmas.List.{append_assoc, take-append-drop}
use Rattle.std.specs.Prelude.{Option, Some, None, Ok, Err, true, nat_lt, if◌then◌else◌}
use Rattle.sim_values.specs.declared.value.TextVal.{TextVal}
use Rattle.sim_values.specs.Images.{OutputState, last_image, outimage}
use Rattle.sim_values.specs.Store.{Store, output_of}
use Rattle.sim_values.specs.Texts.{Frame}
use Rattle.basic_io.specs.declared.fault.IoFault.{IoFault}
use Rattle.basic_io.specs.declared.fault.IoFault.TheVariants as fault
use Rattle.basic_io.specs.Output.{IsCut, Performs, Writing, line_of, output_state}
use Rattle.object_machine.specs.Standing.{WrotePart}
use Rattle.std.specs.Io.KnownBytes.{Appends}

pub append_two : (a b c : Option (List ℕ)) (xs ys : List ℕ) → Appends a b xs → Appends b c ys → Appends a c (xs ++ ys)
append_two None b c xs ys h h2 = tt
append_two (Some a) None c xs ys h h2 = absurd h
append_two (Some a) (Some b) None xs ys h h2 = absurd h2
append_two (Some a) (Some b) (Some c) xs ys h h2 = h2 ∙ ap (λ l. l ++ ys) h ∙ append_assoc a xs ys

pub append_none : {X : Type 0} (xs : List X) → xs ++ [] ≡ xs
append_none [] = refl
append_none (x ∷ xs) = ap (λ l. x ∷ l) (append_none xs)

pub append_nothing : (a : Option (List ℕ)) → Appends a a []
append_nothing None = tt
append_nothing (Some xs) = sym (append_none xs)

-- what was written stays where nothing is added
pub nothing_more : (before old new : Option (List ℕ)) (written : List ℕ) → Appends before old written → Appends old new [] → Appends before new written
nothing_more before old new written h h2 = subst (λ l. Appends before new l) (append_none written) (append_two before old new written [] h h2)

-- ---- the image at the end of a run

-- the end of a run writes the line of the image where its position is above 1
pub last_written : (s : Store) (fr : List Frame) (im : TextVal) → s.frames ≡ fr → s.sysout ≡ im → 1 < im.pos → (last_image (output_of s)).written ≡ s.written ++ line_of (output_state fr im)
last_written s fr im e e2 h =
    let on : nat_lt 1 im.pos ≡ true = grind (arith, h) in
    ap (λ f. (last_image (record { frames = f; image = s.sysout; written = s.written })).written) e
    ∙ ap (λ i. (last_image (record { frames = fr; image = i; written = s.written })).written) e2
    ∙ ap (λ b. (if b then outimage (record { frames = fr; image = im; written = s.written }) else record { frames = fr; image = im; written = s.written }).written) on

pub cut_line : (s : OutputState) (old new : Writing) (f : IoFault) → s.written ≡ [] → Performs {A = Unit {0}} (Ok (outimage s)) (λ r. r ≡ s) old new (Err f) → (count : ℕ) × Appends old.sink new.sink (take count (line_of s))
cut_line s old new fault.WriteFault none h =
    let at : IsCut s old new = subst (λ r. IsCut r old new) h.1 h.2 in
    (at.0, subst (λ w. Appends old.sink new.sink (w ++ take at.0 (line_of s))) none at.1.sink)
cut_line s old new fault.InputFault none h = absurd h
cut_line s old new (fault.Run f) none h = absurd h

pub cut_part : (before old new : Option (List ℕ)) (written line whole : List ℕ) (count : ℕ) → Appends before old written → Appends old new (take count line) → whole ≡ written ++ line → WrotePart before new whole
cut_part before old new written line whole count h h2 e =
    (written ++ take count line, drop count line, append_two before old new written (take count line) h h2, e ∙ ap (λ l. written ++ l) (sym (take-append-drop count line)) ∙ sym (append_assoc written (take count line) (drop count line)))
