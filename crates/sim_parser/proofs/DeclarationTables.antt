-- Rows of the grammar for declarations of constants and arrays.
use Rattle.std.proofs.Common.{List, [], ◌∷◌}
use Rattle.sim_base.specs.declared.token.TokenKind.TheVariants as k
use Rattle.sim_tree.specs.Grammar as g
use Rattle.sim_tree.specs.Grammar.{Symbol, Mark, Of, Once, Many}

abbrev pub value_symbols : List Symbol
value_symbols = Mark k.Equal ∷ Of Once g.Constant ∷ []

abbrev pub segment_symbols : List Symbol
segment_symbols = Of Once g.Identifiers ∷ Mark k.Open ∷ Of Once g.Bounds ∷ Of Many g.NextBounds ∷ Mark k.Close ∷ []

abbrev pub bounds_symbols : List Symbol
bounds_symbols = Of Once g.Expression ∷ Mark k.Colon ∷ Of Once g.Expression ∷ []
