-- The first notice, and the list without it.
use Rattle.std.proofs.Common.{◌≡◌, ◌≢◌, ℕ, ℤ, ◌<◌, not, eqb, cond, Some, List, [], ◌∷◌, Ok, Err, Result, refl, sym, ap, ◌∙◌, subst, arith, zero, suc}
use Rattle.std.specs.List.{All}
use Rattle.std.proofs.lemmas.Bool.{cond-true, cond-false, eq-eqb, ne_eqb, not_from_true, not_from_false}
use Rattle.std.proofs.lemmas.List.Elements.{All-head, All-tail}
use Rattle.sim_base.specs.declared.run_error.RunError.{RunError}
use Rattle.notices.specs.declared.notice.Notice.{Notice}
use Rattle.notices.specs.declared.notice.ProcessNo.{ProcessNo}
use Rattle.notices.specs.Notices.{is_of, first_event, removed}
use Rattle.notices.specs.Schedule.{IsOnce, IsSchedule}
use Rattle.notices.specs.Scheduling.{passivated, next_of, answer_of, list_after}
use Rattle.simulation.specs.Steps.{next_after, refusal_of}
use Rattle.notices.specs.declared.next.Next.TheVariants.{Stay, Resume}

-- the process of the first notice
process_of_first : (n : Notice) (l : List Notice) (event : ℤ × ProcessNo) → first_event (n ∷ l) ≡ Some event → event.1.0 ≡ n.process.0
process_of_first n l event first = let same : (n.time, n.process) ≡ event = cc in ap (λ (p : ℤ × ProcessNo). p.1.0) (sym same)

pub first-within : (l : List Notice) (room : ℕ) (event : ℤ × ProcessNo) → IsSchedule l room → first_event l ≡ Some event → event.1.0 < room
first-within [] room event s first = absurd (cc)
first-within (n ∷ l) room event s first =
    subst (λ x. x < room) (sym (process_of_first n l event first)) (All-head (λ m. m.process.0 < room) n l s.within)

others_stay : (x : ℕ) (l : List Notice) → All (λ m. m.process.0 ≢ x) l → removed x l ≡ l
others_stay x [] others = refl
others_stay x (n ∷ l) others =
    cond-true (not (is_of x n)) (n ∷ removed x l) (removed x l) (not_from_false _ (ne_eqb n.process.0 x (All-head (λ m. m.process.0 ≢ x) n l others)))
    ∙ ap (λ k. n ∷ k) (others_stay x l (All-tail (λ m. m.process.0 ≢ x) n l others))

-- without the notice of its process, the list has lost its first one
pub removed-first : (l : List Notice) (event : ℤ × ProcessNo) → IsOnce l → first_event l ≡ Some event → removed event.1.0 l ≡ passivated l
removed-first [] event once first = absurd (cc)
removed-first (n ∷ l) event once first =
    let same = process_of_first n l event first in
    ap (λ x. removed x (n ∷ l)) same
    ∙ cond-false (not (is_of n.process.0 n)) (n ∷ removed n.process.0 l) (removed n.process.0 l) (not_from_true _ (eq-eqb n.process.0 n.process.0 refl))
    ∙ others_stay n.process.0 l (λ k d h e. once zero (suc k) d (omega arith) (omega arith) (sym e))

-- who goes on, by the process that operated or by the list before
pub next_after-first : (old new : List Notice) (event : ℤ × ProcessNo) → first_event old ≡ Some event → next_after event.1.0 new ≡ next_of old new
next_after-first [] new event first = absurd (cc)
next_after-first (m ∷ old) [] event first = refl
next_after-first (m ∷ old) (n ∷ new) event first =
    ap (λ x. Ok (cond (eqb n.process.0 x) Stay (Resume n.process))) (process_of_first m old event first)

-- the answer of a procedure that was refused, and of one that was not
pub answer-refused : (old : List Notice) (r : Result (List Notice) RunError) (e : RunError) → refusal_of r ≡ Err e → answer_of old r ≡ Err e
answer-refused old (Ok new) e is = absurd (cc)
answer-refused old (Err d) e is = let same : d ≡ e = cc in ap (λ (x : RunError). Err x) same

pub answer-done : (old : List Notice) (r : Result (List Notice) RunError) (u : Unit {0}) → refusal_of r ≡ Ok u → next_of old (list_after old r) ≡ answer_of old r
answer-done old (Ok new) u is = refl
answer-done old (Err d) u is = absurd (cc)
