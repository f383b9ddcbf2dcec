-- The standard names of classes, of sets and of simulation.
use Rattle.std.specs.Prelude.{ℕ, Bool, ◌||◌, List, [], ◌∷◌, codes}
use Rattle.std.specs.List.{list_any}
use Rattle.std.specs.Str.{bytes_eq}

abbrev pub names_of_classes : List (List ℕ)
names_of_classes =
    codes "detach" ∷ codes "call" ∷ codes "resume" ∷ codes "simset" ∷ codes "linkage" ∷ codes "suc" ∷ codes "pred" ∷ codes "prev" ∷
    codes "link" ∷ codes "out" ∷ codes "follow" ∷ codes "precede" ∷ codes "into" ∷ codes "head" ∷ codes "first" ∷ codes "last" ∷
    codes "empty" ∷ codes "cardinal" ∷ codes "clear" ∷ []

abbrev pub names_of_simulation : List (List ℕ)
names_of_simulation =
    codes "process" ∷ codes "idle" ∷ codes "terminated" ∷ codes "evtime" ∷ codes "nextev" ∷ codes "simulation" ∷ codes "time" ∷
    codes "current" ∷ codes "main" ∷ codes "hold" ∷ codes "passivate" ∷ codes "wait" ∷ codes "cancel" ∷ []

unfoldable pub is_name_of_classes : List ℕ → Bool
is_name_of_classes name = list_any (bytes_eq name) names_of_classes || list_any (bytes_eq name) names_of_simulation
