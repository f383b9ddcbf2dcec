-- The characters of text constants, copied.
use Rattle.std.proofs.Common.{◌≡◌, ◌<◌, ◌≤◌, ◌+◌, ℕ, suc, List, [], ◌∷◌, ◌++◌, length, map, take, Some, refl, sym, ap, ◌∙◌, arith}
use Rattle.std.specs.Prelude.{slice_index_or}
use Rattle.sim_scope.specs.declared.bound.Bound.{Bound}
use Rattle.sim_scope.specs.Source.{source_of}
use Rattle.sim_meaning.specs.Constants.{bytes_of, constants_of, text_constants}
use Rattle.program_texts.specs.declared.constants.ConstantTree.{ConstantTree}
use Rattle.program_texts.specs.ConstantTrees.{AreConstants, constant_in}
use Rattle.text_tables.specs.TokenTable.{CopiesTo, bytes_in}
use Rattle.text_tables.proofs.ByTokens.{take_all, take_more}
use Rattle.text_tables.proofs.Placing.{get_at}

map-append : {A B : Type 0} (f : A → B) (xs ys : List A) → map f (xs ++ ys) ≡ map f xs ++ map f ys
map-append f [] ys = refl
map-append f (x ∷ xs) ys = ap (λ z. f x ∷ z) (map-append f xs ys)

pub copies_first : (cs : List ConstantTree) (texts : List (List ℕ)) → texts ≡ [] → CopiesTo cs texts 0
unfolding CopiesTo
copies_first cs texts e = e

pub copies_next : (cs : List ConstantTree) (texts texts' : List (List ℕ)) (i : ℕ) (x : ConstantTree) (copy : List ℕ) → CopiesTo cs texts i → i < length cs → x ≡ slice_index_or cs i x → copy ≡ x.value.now → texts' ≡ texts ++ (copy ∷ []) → CopiesTo cs texts' (i + 1)
unfolding CopiesTo
copies_next cs texts texts' i x copy f le is ec e =
    let r = take_more cs i x (get_at cs i x le ∙ ap Some (sym is)) in
    let one : i + 1 ≡ suc i = omega arith in
    e ∙ ap (λ z. z ++ (copy ∷ [])) f ∙ ap (λ z. map bytes_in (take i cs) ++ (z ∷ [])) ec ∙ sym (ap (λ z. map bytes_in (take z cs)) one ∙ ap (map bytes_in) r.0 ∙ map-append bytes_in (take i cs) (x ∷ []))

pub copies_end : (cs : List ConstantTree) (texts : List (List ℕ)) (i : ℕ) → CopiesTo cs texts i → length cs ≤ i → texts ≡ map bytes_in cs
unfolding CopiesTo
copies_end cs texts i f le = f ∙ ap (map bytes_in) (take_all cs i le)

map-map : (cs : List ConstantTree) → map bytes_in cs ≡ map bytes_of (map constant_in cs)
map-map [] = refl
map-map (c ∷ cs) = ap (λ z. bytes_in c ∷ z) (map-map cs)

constants_are : (b : Bound) (cs : List ConstantTree) → AreConstants b.program cs → map constant_in cs ≡ text_constants (source_of b)
unfolding AreConstants text_constants source_of
constants_are b cs f = f

pub copies_all : (b : Bound) (cs ds : List ConstantTree) (texts : List (List ℕ)) → AreConstants b.program cs → ds ≡ cs → texts ≡ map bytes_in ds → texts ≡ constants_of (source_of b)
unfolding constants_of
copies_all b cs ds texts are ed e = e ∙ ap (map bytes_in) ed ∙ map-map cs ∙ ap (map bytes_of) (constants_are b cs are)

pub ruleset copies = (copies_first, copies_next, copies_end, copies_all)
