-- what the list of a head becomes by each procedure
use Rattle.std.proofs.Common.{◌≡◌, ℕ, List, arith, true, refl, ap, ◌∙◌, sym}
use Rattle.std.specs.Prelude.{Some, None}
use Rattle.simset.specs.Sets.{Linkage, IsProper, each_from, emptied, following, going_into, is_head_at, links_in, links_of, preceding, without, put_after, put_before, put_last, out, follow, precede, into, clear}
use Rattle.simset.proofs.Changes.{changed, get-each_from}
use Rattle.simset.proofs.Effects.{is_head_at-out, list_of_head, put_before-last}
use Rattle.simset.proofs.Keeps.{head_nowhere, proper-out}
use Rattle.simset.proofs.Stepwise as steps

pub links_of-becomes : (sets : List Linkage) (change : ℕ → List ℕ → List ℕ) (h : ℕ) → is_head_at sets h ≡ true → links_of (each_from change 0 sets) h ≡ change h (links_of sets h)
links_of-becomes sets change h head = ap links_in (get-each_from change 0 sets h h (omega arith) ∙ ap (changed (change h)) (list_of_head sets h head))

pub links_of-out : (sets : List Linkage) (x h : ℕ) → is_head_at sets h ≡ true → links_of (out sets x) h ≡ without x (links_of sets h)
unfolding out
links_of-out sets x h head = links_of-becomes sets (λ _ xs. without x xs) h head

pub links_of-follow : (sets : List Linkage) (x p h : ℕ) → is_head_at sets h ≡ true → links_of (follow sets x (Some p)) h ≡ put_after x p h (without x (links_of sets h))
unfolding follow
links_of-follow sets x p h head = links_of-becomes sets (following x (Some p)) h head

pub links_of-precede : (sets : List Linkage) (x p h : ℕ) → is_head_at sets h ≡ true → links_of (precede sets x (Some p)) h ≡ put_before x p h (without x (links_of sets h))
unfolding precede
links_of-precede sets x p h head = links_of-becomes sets (preceding x (Some p)) h head

pub links_of-into : (sets : List Linkage) (x p h : ℕ) → is_head_at sets h ≡ true → links_of (into sets x (Some p)) h ≡ put_last x p h (without x (links_of sets h))
unfolding into
links_of-into sets x p h head = links_of-becomes sets (going_into x (Some p)) h head

pub links_of-clear : (sets : List Linkage) (p h : ℕ) → is_head_at sets h ≡ true → links_of (clear sets p) h ≡ emptied p h (links_of sets h)
unfolding clear
links_of-clear sets p h head = links_of-becomes sets (emptied p) h head

pub follow-none : (sets : List Linkage) (x : ℕ) → follow sets x None ≡ out sets x
unfolding follow out
follow-none sets x = refl

pub precede-none : (sets : List Linkage) (x : ℕ) → precede sets x None ≡ out sets x
unfolding precede out
precede-none sets x = refl

pub into-none : (sets : List Linkage) (x : ℕ) → into sets x None ≡ out sets x
unfolding into out
into-none sets x = refl

-- before a head is the last place of its set
stepwise_precede-head : (sets : List Linkage) (x h : ℕ) → IsProper sets → is_head_at sets h ≡ true → steps.precede sets x (Some h) ≡ steps.into sets x (Some h)
unfolding steps.precede steps.into
stepwise_precede-head sets x h proper head = put_before-last x h 0 (out sets x) (head_nowhere (out sets x) h (proper-out sets x proper) (is_head_at-out sets x h ∙ head))

pub precede-head : (sets : List Linkage) (x h : ℕ) → IsProper sets → is_head_at sets h ≡ true → precede sets x (Some h) ≡ into sets x (Some h)
precede-head sets x h proper head = steps.precede-is sets x (Some h) ∙ stepwise_precede-head sets x h proper head ∙ sym (steps.into-is sets x (Some h))
