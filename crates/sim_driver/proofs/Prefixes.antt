-- What is written piece by piece.
use Rattle.std.proofs.Common.{ℕ, List, Option, length, sym, subst}
use Rattle.std.proofs.Math.Seq.{take-length}
use Rattle.std.proofs.KnownBytes.{Appends-nil}
use Rattle.std.specs.Io.KnownBytes.{Appends}
use Rattle.sim_ports.specs.Bytes.{AddsPrefix}

-- all of it is a prefix
pub AddsPrefix-whole : (a b : Option (List ℕ)) (xs : List ℕ) → Appends a b xs → AddsPrefix a b xs
AddsPrefix-whole a b xs whole = (length xs, subst (Appends a b) (sym (take-length xs)) whole)

-- nothing is a prefix
pub AddsPrefix-none : (a : Option (List ℕ)) (xs : List ℕ) → AddsPrefix a a xs
AddsPrefix-none a xs = (0, Appends-nil a)
