-- The formal parameters of a procedure, by the tables and by the texts.
use Rattle.sim_base.specs.declared.numbering.DeclNo.{DeclNo}
use Rattle.sim_scope.specs.declared.types.Entry.{Entry}
use Rattle.sim_scope.specs.declared.types.Entry.TheVariants as entry
use Rattle.sim_scope.specs.declared.types.Formal.{Formal}
use Rattle.sim_scope.specs.declared.types.SimType.{SimType}
use Rattle.sim_scope.specs.Scopes as scopes
use Rattle.sim_scope.specs.Tables.{BlockOf}
use Rattle.sim_meaning.specs.Closing as closing
use Rattle.std.proofs.Common.{◌≡◌, ℕ, List, [], ◌∷◌, Option, Some, None, refl, ap, ◌∙◌}
use Rattle.std.specs.Prelude.{slice_get, take}
use Rattle.sim_scope.specs.Scopes.{entry_of, formal_in}
use Rattle.sim_scope.specs.Source.{Source}
use Rattle.sim_meaning.specs.Entries.{formal_before, formals_from, formals_of}

before_same : (e : Option Entry) (fs : List Formal) → closing.formal_before (formal_in e) fs ≡ formal_before e fs
before_same (Some (entry.Formal f)) fs = refl
before_same _ fs = refl

from_same : (s : Source) (ds : List DeclNo) → closing.formals_from s ds ≡ formals_from s ds
from_same s [] = refl
from_same s (d ∷ ds) = before_same (entry_of s.tables d) (closing.formals_from s ds) ∙ ap (formal_before (entry_of s.tables d)) (from_same s ds)

block_same : (s : Source) (k : ℕ) (o : Option BlockOf) → slice_get s.tables.blocks k ≡ o → closing.formals_from s (scopes.formals_at s.tables (Some k)) ≡ formals_of s k
block_same s k None e = rw e
block_same s k (Some b) e = rw e (from_same s (take b.formals b.numbers))

pub formals_same : (s : Source) (d : DeclNo) (result : Option SimType) (k : ℕ) → entry_of s.tables d ≡ Some (entry.Procedure result k) → closing.formals_at s d ≡ formals_of s k
unfolding scopes.formals_of
formals_same s d result k e = ap (closing.formals_declared s d) e ∙ ap (λ o. closing.formals_from s (scopes.formals_at s.tables (scopes.block_in o))) e ∙ block_same s k (slice_get s.tables.blocks k) refl
