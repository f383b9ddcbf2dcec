-- The headings of the tables.
use Rattle.std.proofs.Common.{◌≡◌, ◌+◌, ◌<◌, ◌≤◌, ℕ, zero, suc, List, [], ◌∷◌, ◌++◌, length, drop, Option, Some, None, refl, sym, ap, ◌∙◌, subst, append_assoc, append-nil}
use Rattle.std.proofs.lemmas.List.{drop_all}
use Rattle.std.proofs.lemmas.Option.{slice_get-get_or}
use Rattle.std.specs.Prelude.{slice_get, slice_index_or}
use Rattle.sim_base.specs.declared.numbering.DeclNo.{DeclNo}
use Rattle.sim_scope.specs.declared.types.Entry.{Entry}
use Rattle.sim_scope.specs.declared.types.Entry.TheVariants as entry
use Rattle.sim_scope.specs.declared.types.Formal.{Formal}
use Rattle.sim_scope.specs.declared.types.SimType.{SimType}
use Rattle.sim_scope.specs.Scopes.{class_formal, class_formals, entry_of, formal_declared, formal_in, formal_of, formals_of}
use Rattle.sim_scope.specs.Tables.{Tables}
use Rattle.param_modes.specs.Headings.{Gathers, HasHeading, HeadingOf, IsHeading, OfClass, OfProcedure, ahead, formals_among, heading_in, heading_of, with_formal, with_result}

-- The loop.
in_front : (x : Option (List Formal)) → ahead [] x ≡ x
in_front None = refl
in_front (Some fs) = refl

turn : (found : List Formal) (f : Formal) (x : Option (List Formal)) → ahead (found ++ f ∷ []) x ≡ ahead found (with_formal (Some f) x)
turn found f None = refl
turn found f (Some gs) = ap (λ zs. let r : Option (List Formal) = Some zs in r) (append_assoc found (f ∷ []) gs)

pub gathers_all : (s : Tables) (ds : List DeclNo) (found : List Formal) → found ≡ [] → Gathers s ds found 0
unfolding Gathers
gathers_all s ds found none = ap (λ z. ahead z (formals_among s ds)) none ∙ in_front (formals_among s ds)

-- what the next one makes of the rest
next_one : (s : Tables) (ds : List DeclNo) (found : List Formal) (i : ℕ) (d : DeclNo) (o : Option Formal) → Gathers s ds found i → drop i ds ≡ d ∷ drop (i + 1) ds → o ≡ formal_in (entry_of s d)
    → ahead found (with_formal o (formals_among s (drop (i + 1) ds))) ≡ formals_among s ds
unfolding Gathers formals_among
next_one s ds found i d o so from is =
    ap (λ z. ahead found (with_formal z (formals_among s (drop (i + 1) ds)))) is ∙ ap (λ z. ahead found (formals_among s z)) (sym from) ∙ so

pub gathers_next : (s : Tables) (ds : List DeclNo) (found next : List Formal) (i : ℕ) (d : DeclNo) (o : Option Formal) (f : Formal) → Gathers s ds found i → drop i ds ≡ d ∷ drop (i + 1) ds → o ≡ formal_in (entry_of s d)
    → o ≡ Some f → next ≡ found ++ f ∷ [] → Gathers s ds next (i + 1)
unfolding Gathers
gathers_next s ds found next i d o f so from is some now =
    let rest = formals_among s (drop (i + 1) ds) in
    ap (λ z. ahead z rest) now ∙ turn found f rest ∙ ap (λ z. ahead found (with_formal z rest)) (sym some) ∙ next_one s ds found i d o so from is

pub gathers_none : (s : Tables) (ds : List DeclNo) (found : List Formal) (i : ℕ) (d : DeclNo) (o : Option Formal) → Gathers s ds found i → drop i ds ≡ d ∷ drop (i + 1) ds → o ≡ formal_in (entry_of s d)
    → o ≡ None → None ≡ formals_among s ds
gathers_none s ds found i d o so from is none =
    ap (λ z. ahead found (with_formal z (formals_among s (drop (i + 1) ds)))) (sym none) ∙ next_one s ds found i d o so from is

pub gathers_end : (s : Tables) (ds : List DeclNo) (found : List Formal) (i : ℕ) → Gathers s ds found i → length ds ≤ i → Some found ≡ formals_among s ds
unfolding Gathers formals_among
gathers_end s ds found i so le =
    ap (λ zs. let r : Option (List Formal) = Some zs in r) (sym (append-nil found)) ∙ ap (λ z. ahead found (formals_among s z)) (sym (drop_all i ds le)) ∙ so

-- The heading in other words.
record Listed (s : Tables) (ds : List DeclNo) (fs : List Formal) : Type 0 where
  as_many : length ds ≡ length fs
  each : (place : ℕ) → formal_declared s (slice_get ds place) ≡ slice_get fs place

first_in : Formal → Option (List Formal) → Formal
first_in f (Some (x ∷ xs)) = x
first_in f (Some []) = f
first_in f None = f

rest_in : Option (List Formal) → List Formal
rest_in (Some (x ∷ xs)) = xs
rest_in (Some []) = []
rest_in None = []

listed_here : (s : Tables) (d : DeclNo) (ds : List DeclNo) (f : Formal) (fs : List Formal) → formal_in (entry_of s d) ≡ Some f → Listed s ds fs → Listed s (d ∷ ds) (f ∷ fs)
listed_here s d ds f fs is l = record { as_many = ap suc l.as_many; each = at }
  where
    at : (place : ℕ) → formal_declared s (slice_get (d ∷ ds) place) ≡ slice_get (f ∷ fs) place
    at zero = is
    at (suc place) = l.each place

listed_next : (s : Tables) (d : DeclNo) (ds : List DeclNo) (o : Option Formal) (r : Option (List Formal)) (fs : List Formal) → ((gs : List Formal) → formals_among s ds ≡ Some gs → Listed s ds gs)
    → formal_in (entry_of s d) ≡ o → formals_among s ds ≡ r → with_formal o r ≡ Some fs → Listed s (d ∷ ds) fs
unfolding first_in rest_in
listed_next s d ds None r fs more eo er is = absurd (cc)
listed_next s d ds (Some f) None fs more eo er is = absurd (cc)
listed_next s d ds (Some f) (Some gs) [] more eo er is = absurd (cc)
listed_next s d ds (Some f) (Some gs) (x ∷ xs) more eo er is =
    listed_here s d ds x xs (eo ∙ ap (λ z. let r : Option Formal = Some z in r) (ap (first_in f) is))
    (more xs (er ∙ ap (λ z. let r : Option (List Formal) = Some z in r) (ap rest_in is)))

listed : (s : Tables) (ds : List DeclNo) (fs : List Formal) → formals_among s ds ≡ Some fs → Listed s ds fs
unfolding formals_among
listed s [] [] is = record { as_many = refl; each = λ place. refl }
listed s [] (f ∷ fs) is = absurd (cc)
listed s (d ∷ ds) fs is = listed_next s d ds (formal_in (entry_of s d)) (formals_among s ds) fs (listed s ds) refl refl is

or_heading : HeadingOf → Option HeadingOf → HeadingOf
or_heading h (Some x) = x
or_heading h None = h

procedure_has : (s : Tables) (d : DeclNo) (h : HeadingOf) (result : Option SimType) (block : ℕ) (r : Option (List Formal)) → entry_of s d ≡ Some (entry.Procedure result block) → formals_among s (formals_of s d) ≡ r
    → with_result result r ≡ Some h → HasHeading s d h.result h.formals
unfolding formal_of or_heading
procedure_has s d h result block None at among is = absurd (cc)
procedure_has s d h result block (Some fs) at among is =
    let l = listed s (formals_of s d) fs among in
    subst (λ z. HasHeading s d z.result z.formals) (ap (or_heading h) is) (record { block = block; procedure = at; as_many = l.as_many; each = l.each })

class_has : (s : Tables) (d : DeclNo) (h : HeadingOf) (block : ℕ) (r : Option (List Formal)) → entry_of s d ≡ Some (entry.Class block) → formals_among s (class_formals s block) ≡ r → with_result None r ≡ Some h → IsHeading s d h
unfolding class_formal or_heading
class_has s d h block None at among is = absurd (cc)
class_has s d h block (Some fs) at among is =
    let l = listed s (class_formals s block) fs among in
    subst (λ z. IsHeading s d z) (ap (or_heading h) is) (OfClass refl (record { block = block; class = at; as_many = l.as_many; each = l.each }))

entry_has : (s : Tables) (d : DeclNo) (h : HeadingOf) (e : Option Entry) → entry_of s d ≡ e → heading_in s d e ≡ Some h → IsHeading s d h
entry_has s d h None at is = absurd (cc)
entry_has s d h (Some (entry.Variable ty)) at is = absurd (cc)
entry_has s d h (Some (entry.Constant ty)) at is = absurd (cc)
entry_has s d h (Some (entry.Array element dimensions)) at is = absurd (cc)
entry_has s d h (Some (entry.Procedure result block)) at is = OfProcedure (procedure_has s d h result block (formals_among s (formals_of s d)) at refl is)
entry_has s d h (Some (entry.Class block)) at is = class_has s d h block (formals_among s (class_formals s block)) at refl is
entry_has s d h (Some (entry.Virtual result own)) at is = absurd (cc)
entry_has s d h (Some (entry.Formal f)) at is = absurd (cc)
entry_has s d h (Some (entry.Attribute name parameter result)) at is = absurd (cc)
entry_has s d h (Some (entry.Unspecified written)) at is = absurd (cc)

pub is_heading : (s : Tables) (d : DeclNo) (h : HeadingOf) → heading_of s d ≡ Some h → IsHeading s d h
unfolding heading_of
is_heading s d h is = entry_has s d h (entry_of s d) refl is

-- The parameter of a class at a place.
pub class_formal_here : (s : Tables) (block place : ℕ) (d : DeclNo) (o : Option Formal) → place < length (class_formals s block) → o ≡ class_formal s block place → o ≡ formal_in (entry_of s (slice_index_or (class_formals s block) place d))
unfolding class_formal
class_formal_here s block place d o le is = is ∙ ap (formal_declared s) (slice_get-get_or (class_formals s block) place d le)
