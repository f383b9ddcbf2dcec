-- The tokens of the identifiers that a program declares, in the order in which it is read.
use Rattle.std.specs.Prelude.{ℕ, List, [], ◌∷◌}
use Rattle.sim_scope.specs.Building.{Declares, DeclaresClass, DeclaresProcedure, Mark, Parameter}
use Rattle.sim_scope.specs.Declare.{declaring}
use Rattle.sim_scope.specs.Runs.{each}
use Rattle.sim_scope.specs.Walk.{program_events}
use Rattle.sim_tree.specs.Syntax.{Program}

-- the token of the identifier that is declared, if one is
abbrev pub own_token : Mark → List ℕ
own_token (Declares x e) = x.token.0 ∷ []
own_token (DeclaresProcedure x result) = x.token.0 ∷ []
own_token (DeclaresClass x) = x.token.0 ∷ []
own_token (Parameter x) = x.token.0 ∷ []
own_token mark = []

-- variables, arrays, procedures, classes, formal parameters and virtual procedures
abbrev pub declared_tokens : Program → List ℕ
declared_tokens p = each own_token (program_events declaring p)
