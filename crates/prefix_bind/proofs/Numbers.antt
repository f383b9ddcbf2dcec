-- One block after the other.
use Rattle.std.proofs.Common.{◌≡◌, ◌≤◌, ◌+◌, ℕ, suc, List, [], ◌∷◌, ◌++◌, refl, sym, ap, ◌∙◌, arith, length, append-nil, append_assoc}
use Rattle.sim_scope.specs.Runs.{Leads, Runs, each, run}
use Rattle.sim_scope.proofs.Walks.{leads_all, leads_end, leads_next, run-append, runs_both, runs_one}
use Rattle.prefix_bind.specs.Prefixes.{numbers_to}

numbers_more : (i : ℕ) → numbers_to (i + 1) ≡ numbers_to i ++ i ∷ []
numbers_more i = let e : i + 1 ≡ suc i = omega arith in ap numbers_to e

pub run_none : {S : Type 0} (step : S → ℕ → S) (s : S) → s ≡ run step s (numbers_to 0)
unfolding run
run_none step s = refl

pub run_more : {S : Type 0} (step : S → ℕ → S) (s now next : S) (i : ℕ) → now ≡ run step s (numbers_to i) → next ≡ step now i → next ≡ run step s (numbers_to (i + 1))
unfolding run
run_more step s now next i so_far one =
    one ∙ ap (λ z. step z i) so_far ∙ sym (run-append step s (numbers_to i) (i ∷ [])) ∙ ap (λ z. run step s z) (sym (numbers_more i))

pub each-append : {A E : Type 0} (f : A → List E) (xs ys : List A) → each f (xs ++ ys) ≡ each f xs ++ each f ys
each-append f [] ys = refl
each-append f (x ∷ xs) ys = ap (λ z. f x ++ z) (each-append f xs ys) ∙ sym (append_assoc (f x) (each f xs) (each f ys))

pub each_none : {S E : Type 0} (step : S → E → S) (s : S) (f : ℕ → List E) → s ≡ run step s (each f (numbers_to 0))
unfolding run
each_none step s f = refl

pub each_more : {S E : Type 0} (step : S → E → S) (s now next : S) (f : ℕ → List E) (i : ℕ) → now ≡ run step s (each f (numbers_to i)) → Runs step now next (f i) → next ≡ run step s (each f (numbers_to (i + 1)))
unfolding run Runs
each_more step s now next f i so_far one =
    one ∙ ap (λ z. run step z (f i)) so_far ∙ sym (run-append step s (each f (numbers_to i)) (f i))
    ∙ ap (λ z. run step s (each f (numbers_to i) ++ z)) (sym (append-nil (f i)))
    ∙ ap (λ z. run step s z) (sym (each-append f (numbers_to i) (i ∷ [])))
    ∙ ap (λ z. run step s (each f z)) (sym (numbers_more i))

-- each of a list by itself
abbrev pub alone : {A : Type 0} → A → List A
alone x = x ∷ []

each_alone : {A : Type 0} (xs : List A) → each alone xs ≡ xs
each_alone [] = refl
each_alone (x ∷ xs) = ap (λ z. x ∷ z) (each_alone xs)

pub runs_alone : {A S : Type 0} (step : S → A → S) (s now : S) (xs : List A) (i : ℕ) → Leads step alone s xs now i → length xs ≤ i → now ≡ run step s xs
unfolding Runs
runs_alone step s now xs i lead le = leads_end step alone s now xs i lead le ∙ ap (run step s) (each_alone xs)

pub ruleset numbers = (run_none, run_more, each_none, each_more)

pub ruleset rows = (leads_all, leads_next, runs_one, runs_alone)

pub ruleset faults = (runs_both)
