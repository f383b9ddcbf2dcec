-- What is written at the end.
use Rattle.std.specs.Prelude.{◌≡◌, ℕ, List, ◌++◌}
use Rattle.std.specs.List.{AllByRecursion}
use Rattle.code_file.specs.Fields.{Field, Fits, bytes_of}

-- the new bytes are the old ones with these fields behind them, and each of the fields can be held
pub record Appends (old new : List ℕ) (fields : List Field) : Type 0 where
  pub bytes : new ≡ old ++ bytes_of fields
  pub fits : AllByRecursion Fits fields
