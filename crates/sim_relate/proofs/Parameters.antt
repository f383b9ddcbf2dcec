-- The cells of formal parameters come first, and are no constants'.
use Rattle.std.proofs.Common.{◌≡◌, ◌+◌, ℕ, zero, suc, List, [], ◌∷◌, length, Option, Some, None, refl, ap, subst, arith}
use Rattle.std.specs.Prelude.{slice_get, take}
use Rattle.sim_base.specs.declared.numbering.DeclNo.{DeclNo}
use Rattle.sim_scope.specs.declared.types.Entry.{Entry}
use Rattle.sim_scope.specs.declared.types.Entry.TheVariants as entry
use Rattle.sim_scope.specs.declared.types.Formal.{Formal}
use Rattle.sim_scope.specs.Scopes.{entry_of, formals_in}
use Rattle.sim_scope.specs.Source.{Source}
use Rattle.sim_scope.specs.Tables.{BlockOf}
use Rattle.sim_tree.specs.declared.stmt.TypeName.{TypeName}
use Rattle.sim_meaning.specs.Entries.{cells_from, formals_from, formals_of, numbers_of, with_result}
use Rattle.sim_meaning.specs.Pending.{Held}
use Rattle.codegen.specs.Agrees.{Agrees}
use Rattle.sim_relate.proofs.Known.{is_constant}
use Rattle.sim_relate.proofs.Slots.{VaryFirst, results}

module _ (s : Source) where
  abbrev pub AllFormal : List DeclNo → Type 0
  AllFormal ds = (n : ℕ) (d : DeclNo) → slice_get ds n ≡ Some d → (f : Formal) × (entry_of s.tables d ≡ Some (entry.Formal f))

  one_varies : (d : DeclNo) (f : Formal) (o : Option Entry) → o ≡ Some (entry.Formal f) → entry_of s.tables d ≡ o → (n : ℕ) (ds ds' : List DeclNo) → VaryFirst s n (cells_from s ds) → n ≡ length (formals_from s ds') → VaryFirst s (length (formals_from s (d ∷ ds'))) (cells_from s (d ∷ ds))
  one_varies d f o e is n ds ds' more count = rw (is, e) (ap is_constant (is_it o e is), subst (λ z. VaryFirst s z (cells_from s ds)) count more)
    where
      is_it : (o : Option Entry) → o ≡ Some (entry.Formal f) → entry_of s.tables d ≡ o → entry_of s.tables d ≡ Some (entry.Formal f)
      is_it o e is = cc

  from_vary : (n : ℕ) (ds : List DeclNo) → AllFormal (take n ds) → VaryFirst s (length (formals_from s (take n ds))) (cells_from s ds)
  from_vary zero ds all = tt
  from_vary (suc n) [] all = tt
  from_vary (suc n) (d ∷ ds) all =
      let f = all 0 d refl in
      one_varies d f.0 (entry_of s.tables d) f.1 refl (length (formals_from s (take n ds))) ds (take n ds) (from_vary n ds (λ k e is. all (suc k) e is)) refl

  block_vary : (k : ℕ) (o : Option BlockOf) → slice_get s.tables.blocks k ≡ o → AllFormal (formals_in o) → VaryFirst s (length (formals_of s k)) (cells_from s (numbers_of s k))
  block_vary k None e all = rw e tt
  block_vary k (Some b) e all = rw e (from_vary b.formals b.numbers all)

  pub formals_vary : Agrees s → (k : ℕ) → VaryFirst s (length (formals_of s k)) (cells_from s (numbers_of s k))
  formals_vary a k = block_vary k (slice_get s.tables.blocks k) refl (λ n d e. a.formals k n d e)

  pub result_vary : (result : Option TypeName) (n : ℕ) (hs : List Held) → VaryFirst s n hs → VaryFirst s (results result + n) (with_result result hs)
  result_vary None n hs a = let same : n ≡ 0 + n = omega arith in subst (λ z. VaryFirst s z hs) same a
  result_vary (Some type) n hs a = let same : suc n ≡ 1 + n = omega arith in subst (λ z. VaryFirst s z (with_result (Some type) hs)) same (refl, a)
