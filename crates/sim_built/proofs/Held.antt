-- Whether a formal parameter for which instances are kept is among declarations.
use Rattle.std.proofs.Common.{◌≡◌, ◌||◌, Bool, true, false, List, [], ◌∷◌, Option, Some, None, refl, sym, ap, ◌∙◌}
use Rattle.std.specs.List.{list_any}
use Rattle.sim_base.specs.declared.numbering.DeclNo.{DeclNo}
use Rattle.sim_scope.specs.declared.bound.Bound.{Bound}
use Rattle.sim_scope.specs.declared.types.Entry.{Entry}
use Rattle.sim_scope.specs.declared.types.Entry.TheVariants as entry
use Rattle.sim_scope.specs.declared.types.Formal.{Formal}
use Rattle.sim_scope.specs.Scopes.{entry_of}
use Rattle.sim_scope.specs.Source.{Source, source_of}
use Rattle.sim_meaning.specs.Entries.{formal_before, formals_from, is_held}

before : (o : Option Entry) (fs : List Formal) → list_any is_held (formal_before o fs) ≡ (list_any is_held (formal_before o []) || list_any is_held fs)
before None fs = refl
before (Some (entry.Formal f)) fs = go (is_held f)
  where
    go : (b : Bool) → (b || list_any is_held fs) ≡ ((b || false) || list_any is_held fs)
    go true = refl
    go false = refl
before (Some (entry.Variable x)) fs = refl
before (Some (entry.Constant x)) fs = refl
before (Some (entry.Array x n)) fs = refl
before (Some (entry.Procedure x n)) fs = refl
before (Some (entry.Class n)) fs = refl
before (Some (entry.Virtual x n)) fs = refl
before (Some (entry.Unspecified x)) fs = refl
before (Some (entry.Attribute name parameter result)) fs = refl

-- one declaration, and those behind it
first : (s : Source) (x : DeclNo) (xs ys : List DeclNo) (o : Option Entry) (r : Bool) → ys ≡ x ∷ xs → o ≡ entry_of s.tables x → r ≡ list_any is_held (formal_before o []) → list_any is_held (formals_from s ys) ≡ (r || list_any is_held (formals_from s xs))
first s x xs ys o r is at e =
    ap (λ z. list_any is_held (formals_from s z)) is ∙ before (entry_of s.tables x) (formals_from s xs)
    ∙ ap (λ z. list_any is_held (formal_before z []) || list_any is_held (formals_from s xs)) (sym at) ∙ ap (λ c. c || list_any is_held (formals_from s xs)) (sym e)

pub held_here : (b : Bound) (x : DeclNo) (xs ys all : List DeclNo) (o : Option Entry) (r : Bool) → list_any is_held (formals_from (source_of b) all) ≡ list_any is_held (formals_from (source_of b) ys) → ys ≡ x ∷ xs → o ≡ entry_of b.scopes x
    → r ≡ list_any is_held (formal_before o []) → r ≡ true → true ≡ list_any is_held (formals_from (source_of b) all)
unfolding source_of
held_here b x xs ys all o r rest is at e so = sym (rest ∙ first (source_of b) x xs ys o r is at e ∙ ap (λ c. c || list_any is_held (formals_from (source_of b) xs)) so)

pub held_further : (b : Bound) (x : DeclNo) (xs ys all : List DeclNo) (o : Option Entry) (r : Bool) → list_any is_held (formals_from (source_of b) all) ≡ list_any is_held (formals_from (source_of b) ys) → ys ≡ x ∷ xs → o ≡ entry_of b.scopes x
    → r ≡ list_any is_held (formal_before o []) → r ≡ false → list_any is_held (formals_from (source_of b) all) ≡ list_any is_held (formals_from (source_of b) xs)
unfolding source_of
held_further b x xs ys all o r rest is at e so = rest ∙ first (source_of b) x xs ys o r is at e ∙ ap (λ c. c || list_any is_held (formals_from (source_of b) xs)) so
