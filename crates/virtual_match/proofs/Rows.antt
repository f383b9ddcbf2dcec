-- What the parts of a round find, one row after the other.
use Rattle.std.proofs.Common.{◌≡◌, ◌<◌, ◌+◌, ℕ, List, ◌∷◌, ◌++◌, Option, Some, None, refl, sym, ap, ◌∙◌, drop, length, arith, ⊎_elim}
use Rattle.std.proofs.lemmas.List.{drop_more}
use Rattle.std.proofs.lemmas.Option.{get_or_from_slice_get, slice_get_cases}
use Rattle.std.specs.Prelude.{slice_get}
use Rattle.sim_base.specs.declared.numbering.DeclNo.{DeclNo}
use Rattle.sim_scope.specs.declared.scopes.Declaration.{Declaration}
use Rattle.sim_scope.specs.declared.types.Entry.{Entry}
use Rattle.sim_scope.specs.declared.found.Fault.{Fault}
use Rattle.sim_scope.specs.declared.scopes.Qualification.{Qualification}
use Rattle.sim_scope.specs.Runs.{Runs, run}
use Rattle.sim_scope.specs.Scopes.{entry_of}
use Rattle.sim_scope.specs.Tables.{Tables, with_declaration, with_entry_at}
use Rattle.virtual_match.specs.Qualifying.{class_written, declaration_to, entry_to, qualified_to, with_qualification, with_written}
use Rattle.sim_scope.proofs.Walks.{leads_all, leads_end, leads_next, runs_both}
use Rattle.prefix_bind.specs.Prefixes.{least_of, noted}

pub ruleset rows = (leads_all, leads_next, leads_end)

-- the three parts of the round
pub round : (a b c : Option Fault) (xs ys zs : List Fault) → Runs noted None a xs → Runs noted a b ys → Runs noted b c zs → c ≡ least_of (xs ++ (ys ++ zs))
unfolding Runs least_of
round a b c xs ys zs f g h = runs_both noted None a c xs (ys ++ zs) f (runs_both noted a b c ys zs g h)

-- Qualifications stay as they are while the classes become known.
pub kept : (s : Tables) (o : Option Qualification) → (with_written s o).qualifications ≡ s.qualifications
unfolding with_qualification with_entry_at
kept s None = refl
kept s (Some q) = class_kept (class_written s q)
  where
    row_kept : (d : DeclNo) (e : Entry) (r : Option Declaration) → (elim r as (λ _. Tables) [ None ↦ s | Some row ↦ with_declaration s d.0 (record row { entry = e }) ]).qualifications ≡ s.qualifications
    row_kept d e None = refl
    row_kept d e (Some row) = refl

    entry_kept : (d class : DeclNo) (e : Option Entry) → (declaration_to s d class e).qualifications ≡ s.qualifications
    entry_kept d class None = refl
    entry_kept d class (Some e) = row_kept d (entry_to class e) (slice_get s.declarations d.0)

    class_kept : (c : Option DeclNo) → (qualified_to s q.declaration c).qualifications ≡ s.qualifications
    class_kept None = refl
    class_kept (Some class) = entry_kept q.declaration class (entry_of s q.declaration)

none_past : {X : Type 0} (xs : List X) (i : ℕ) → slice_get xs i ≡ None → i < length xs → ⊥
none_past xs i e le = let h = slice_get_cases xs i in ⊎_elim (λ x. let a = x.2 in cc) (λ x. let a = x.0 in omega arith) h.1

pub one_written : (s now next : Tables) (i : ℕ) → now.qualifications ≡ s.qualifications → i < length s.qualifications → next ≡ with_written now (slice_get now.qualifications i)
    → run with_qualification now (drop i s.qualifications) ≡ run with_qualification next (drop (i + 1) s.qualifications)
unfolding run
one_written s now next i same le is = go (slice_get s.qualifications i) refl
  where
    go : (o : Option Qualification) → slice_get s.qualifications i ≡ o → run with_qualification now (drop i s.qualifications) ≡ run with_qualification next (drop (i + 1) s.qualifications)
    go None e = absurd (none_past s.qualifications i e le)
    go (Some q) e =
        ap (run with_qualification now) (drop_more s.qualifications i q le ∙ ap (λ x. x ∷ drop (i + 1) s.qualifications) (get_or_from_slice_get s.qualifications i q q e))
        ∙ ap (λ z. run with_qualification z (drop (i + 1) s.qualifications)) (sym (is ∙ ap (with_written now) (ap (λ z. slice_get z i) same ∙ e)))
