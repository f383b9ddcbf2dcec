-- What begins a list begins a longer one.
use Rattle.std.proofs.Common.{ℕ, List, ◌++◌, Option, length, inl, inr, sym, ◌∙◌, subst, arith}
use Rattle.std.proofs.Math.Seq.{take-append_seam, take-length}
use Rattle.std.proofs.lemmas.Bool.{cases_lt}
use Rattle.std.proofs.lemmas.List.{take-append-le, take_all}
use Rattle.std.specs.Io.KnownBytes.{Appends}
use Rattle.sim_ports.specs.Bytes.{AddsPrefix}

pub adds_more : (a b : Option (List ℕ)) (xs ys : List ℕ) → AddsPrefix a b xs → AddsPrefix a b (xs ++ ys)
adds_more a b xs ys (count, adds) =
    elim (cases_lt (length xs) count) [
      | inl past ↦ (length xs, subst (Appends a b) (take_all count xs (omega arith) ∙ sym (take-append_seam xs ys)) adds)
      | inr within ↦ (count, subst (Appends a b) (sym (take-append-le count xs ys within)) adds)
    ]

-- all of it is a prefix
pub adds_all : (a b : Option (List ℕ)) (xs : List ℕ) → Appends a b xs → AddsPrefix a b xs
adds_all a b xs whole = (length xs, subst (Appends a b) (sym (take-length xs)) whole)
