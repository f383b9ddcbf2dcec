-- Lines of a source.
use Rattle.std.specs.Prelude.{ℕ, ◌+◌, List, take, nat_eq}
use Rattle.std.specs.List.{count_by}

-- the line of a place: one more than the line feeds before it
unfoldable pub line_at : List ℕ → ℕ → ℕ
line_at source place = 1 + count_by (nat_eq 10) (take place source)
