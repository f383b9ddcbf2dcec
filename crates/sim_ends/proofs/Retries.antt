-- A call that is made again moves the bytes that the first one left.
use Rattle.std.proofs.Common.{ℕ, List, ◌++◌, Option, Some, None, sym, ◌∙◌, ap}
use Rattle.std.specs.Io.KnownBytes.{Appends, Consumes, Keeps}

pub Keeps-Consumes : (a b c : Option (List ℕ)) (bs : List ℕ) → Keeps a b → Consumes b c bs → Consumes a c bs
Keeps-Consumes None b c bs kept moved = tt
Keeps-Consumes (Some x) None c bs kept moved = absurd kept
Keeps-Consumes (Some x) (Some y) None bs kept moved = absurd moved
Keeps-Consumes (Some x) (Some y) (Some z) bs kept moved = sym kept ∙ moved

pub Keeps-Appends : (a b c : Option (List ℕ)) (bs : List ℕ) → Keeps a b → Appends b c bs → Appends a c bs
Keeps-Appends None b c bs kept moved = tt
Keeps-Appends (Some x) None c bs kept moved = absurd kept
Keeps-Appends (Some x) (Some y) None bs kept moved = absurd moved
Keeps-Appends (Some x) (Some y) (Some z) bs kept moved = moved ∙ ap (λ l. l ++ bs) kept
