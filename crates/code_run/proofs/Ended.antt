-- What the machine's answer says of the run of the code.
use Rattle.std.proofs.Common.{◌≡◌, ◌∙◌, ◌<◌, ℕ, zero, suc, ◌+◌, ◌-◌, List, ◌++◌, Option, Result, Ok, IfOk, length, take, inl, inr, refl, sym, ap, subst, arith}
use Rattle.std.proofs.Math.Seq.{take-append_seam, take-length}
use Rattle.std.proofs.lemmas.Bool.{cases_lt}
use Rattle.std.proofs.lemmas.List.{take-append-le, take_all}
use Rattle.std.specs.Io.KnownBytes.{Appends}
use Rattle.sim_base.specs.declared.limits.Limits.{Limits}
use Rattle.sim_ports.specs.Bytes.{AddsPrefix}
use Rattle.sim_code.specs.declared.ending.Ending.{Ending as Answer}
use Rattle.sim_code.specs.declared.ending.Ending.TheVariants as answer
use Rattle.sim_code.specs.Code.{CodeOf}
use Rattle.sim_code.specs.Growing.{OutputGrows, written}
use Rattle.sim_code.specs.Machine.{Machine}
use Rattle.sim_code.specs.Outcome.{Ended, Ending, Going, Normal, NoRule, Run, RunFault, StorageExhausted, TickLimit, World, after, answer_of}
use Rattle.sim_code.specs.Rows.{mrun, mstep, next_place, opening}
use Rattle.sim_code.proofs.Growing.{after_more}
use Rattle.object_machine.specs.Running.{FaultsAs, HasEnded, InputAs, RanAs, WasBroken, WasCut}
use Rattle.object_machine.specs.Standing.{WrotePart, world_of}
use Rattle.code_finite.specs.Coming.{ComesToAnEnd}
use Rattle.code_run.specs.declared.running.CodeEnd.{CodeEnd}
use Rattle.code_run.specs.declared.running.CodeEnd.TheVariants as end
use Rattle.code_run.specs.declared.running.CodeFailure.{CodeFailure}
use Rattle.code_run.specs.declared.running.CodeFailure.TheVariants as failure
use Rattle.code_run.specs.CodeEnds.{BeforeARead, Begins, Broken, CodeEnds, HasEnd, InputAfter, OutputAfter, Ran, end_of, told}

-- ---- one end

stays : (f : World → Machine → Run Machine) (k : ℕ) (o : World) (e : Ending) → after f k (Ended o e) ≡ Ended o e
stays f zero o e = refl
stays f (suc k) o e = stays f k o e

ended_later : (f : World → Machine → Run Machine) (n k : ℕ) (r : Run Machine) (o : World) (e : Ending) → after f n r ≡ Ended o e → after f (n + k) r ≡ Ended o e
ended_later f n k r o e is = after_more Machine f n k r ∙ ap (after f k) is ∙ stays f k o e

not_both : (r : Run Machine) (o p : World) (s : Machine) (e : Ending) → r ≡ Ended o e → r ≡ Going p s → ⊥
not_both r o p s e x y = cc

-- a run that has ended goes on no more
over : (code : CodeOf) (l : Limits) (input : List ℕ) (m n : ℕ) (o p : World) (s : Machine) (e : Ending) → m < n → mrun code l input (suc m) ≡ Ended o e → mrun code l input n ≡ Going p s → ⊥
over code l input m n o p s e sooner ended going =
    let k : n ≡ suc m + (n - suc m) = omega (arith, sooner) in
    not_both (mrun code l input n) o p s e (ap (mrun code l input) k ∙ ended_later (mstep code l) (suc m) (n - suc m) (opening code l input) o e ended) going

same_state : (r : Run Machine) (o p : World) (s t : Machine) → r ≡ Going o s → r ≡ Going p t → s ≡ t
same_state r o p s t x y = cc

same_end : (r : Run Machine) (o p : World) (e d : Ending) → r ≡ Ended o e → r ≡ Ended p d → (o ≡ p) × (e ≡ d)
same_end r o p e d x y = (cc, cc)

-- the run of a code ends in one way, with one output
pub one_end : (code : CodeOf) (l : Limits) (input : List ℕ) (e d : CodeEnd) (xs ys : List ℕ) → CodeEnds code l input e xs → CodeEnds code l input d ys → (e ≡ d) × (xs ≡ ys)
one_end code l input e d xs ys x y =
    elim (cases_lt x.steps y.steps) [
      | inl sooner ↦ absurd (over code l input x.steps y.steps x.last y.world y.state x.ending sooner x.ended y.come)
      | inr at_least ↦ elim (cases_lt y.steps x.steps) [
        | inl later ↦ absurd (over code l input y.steps x.steps y.last x.world x.state y.ending later y.ended x.come)
        | inr at_most ↦ (
            let same : y.steps ≡ x.steps = omega (arith, at_least, at_most) in
            let state : x.state ≡ y.state = same_state (mrun code l input x.steps) x.world y.world x.state y.state x.come (subst (λ n. mrun code l input n ≡ Going y.world y.state) same y.come) in
            let last = same_end (mrun code l input (suc x.steps)) x.last y.last x.ending y.ending x.ended (subst (λ n. mrun code l input (suc n) ≡ Ended y.last y.ending) same y.ended) in (
              x.is ∙ ap (λ (s : Machine). end_of x.ending (next_place s)) state ∙ ap (λ g. end_of g (next_place y.state)) last.1 ∙ sym y.is,
              x.writes ∙ ap (λ (o : World). o.store.written) last.0 ∙ sym y.writes,
            )
            )
      ]
    ]

-- it has ended at its end, and nowhere else
pub ended_as : (code : CodeOf) (l : Limits) (input : List ℕ) (e : CodeEnd) (xs : List ℕ) (x : CodeEnds code l input e xs) (n : ℕ) (o : World) (d : Ending) → mrun code l input n ≡ Ended o d → (x.last ≡ o) × (x.ending ≡ d)
ended_as code l input e xs x n o d is =
    elim (cases_lt x.steps n) [
      | inl later ↦ (
          let k : n ≡ suc x.steps + (n - suc x.steps) = omega (arith, later) in
          same_end (mrun code l input n) x.last o x.ending d (ap (mrun code l input) k ∙ ended_later (mstep code l) (suc x.steps) (n - suc x.steps) (opening code l input) x.last x.ending x.ended) is
          )
      | inr sooner ↦ (
          let k : x.steps ≡ n + (x.steps - n) = omega (arith, sooner) in
          absurd (not_both (mrun code l input x.steps) o x.world x.state d (ap (mrun code l input) k ∙ ended_later (mstep code l) n (x.steps - n) (opening code l input) o d is) x.come)
          )
    ]

pub has_end : (code : CodeOf) (l : Limits) (input : List ℕ) → ComesToAnEnd code l input → HasEnd code l input
has_end code l input x = (
  end_of x.ending (next_place x.state),
  x.last.store.written,
  record {
    steps = x.steps;
    world = x.world;
    state = x.state;
    last = x.last;
    ending = x.ending;
    come = x.come;
    ended = x.ended;
    is = refl;
    writes = refl;
  },
)

-- ---- what was written

adds_more : (a b : Option (List ℕ)) (xs ys : List ℕ) → AddsPrefix a b xs → AddsPrefix a b (xs ++ ys)
adds_more a b xs ys (count, adds) =
    elim (cases_lt (length xs) count) [
      | inl past ↦ (length xs, subst (Appends a b) (take_all count xs (omega arith) ∙ sym (take-append_seam xs ys)) adds)
      | inr within ↦ (count, subst (Appends a b) (sym (take-append-le count xs ys within)) adds)
    ]

adds_all : (a b : Option (List ℕ)) (xs : List ℕ) → Appends a b xs → AddsPrefix a b xs
adds_all a b xs whole = (length xs, subst (Appends a b) (sym (take-length xs)) whole)

part_adds : (old new : Option (List ℕ)) (xs : List ℕ) → WrotePart old new xs → AddsPrefix old new xs
part_adds old new xs (bytes, more, adds, is) =
    (length bytes, subst (λ (l : List ℕ). Appends old new (take (length bytes) l)) (sym is) (subst (Appends old new) (sym (take-append_seam bytes more)) adds))

world_written : (r : Run Machine) → (world_of r).store.written ≡ written r
world_written (Going o s) = refl
world_written (Ended o e) = refl

module _ (code : CodeOf) (l : Limits) (input : List ℕ) (old new : Option (List ℕ)) where
  -- what begins the output of a moment begins that of the end
  adds_end : OutputGrows → (n : ℕ) → AddsPrefix old new (written (mrun code l input n)) → (e : CodeEnd) (output : List ℕ) → CodeEnds code l input e output → AddsPrefix old new output
  adds_end grows n adds e output ends =
      let whole : output ≡ written (mrun code l input (suc ends.steps)) = ends.writes ∙ sym (ap written ends.ended) in
      subst (λ xs. AddsPrefix old new xs) (sym whole)
      (elim (cases_lt (suc ends.steps) n) [
        | inl later ↦ (
            let k : n ≡ suc ends.steps + (n - suc ends.steps) = omega (arith, later) in
            let stays_so : mrun code l input n ≡ mrun code l input (suc ends.steps) =
            ap (mrun code l input) k ∙ ended_later (mstep code l) (suc ends.steps) (n - suc ends.steps) (opening code l input) ends.last ends.ending ends.ended ∙ sym ends.ended in
            subst (λ (r : Run Machine). AddsPrefix old new (written r)) stays_so adds
            )
        | inr sooner ↦ (
            let k : suc ends.steps ≡ n + (suc ends.steps - n) = omega (arith, sooner) in
            let more = grows code l input n (suc ends.steps - n) in
            let longer : written (mrun code l input (suc ends.steps)) ≡ written (mrun code l input n) ++ more.0 = ap (λ z. written (mrun code l input z)) k ∙ more.1 in
            subst (λ xs. AddsPrefix old new xs) (sym longer) (adds_more old new (written (mrun code l input n)) more.0 adds)
            )
      ])

  begins_end : OutputGrows → HasEnd code l input → (n : ℕ) → AddsPrefix old new (written (mrun code l input n)) → Begins code l input old new
  begins_end grows (e, output, ends) n adds = (e, output, ends, adds_end grows n adds e output ends)

  -- ---- by the machine's answer

  told_end : (e : Ending) (at : ℕ) → told (answer_of e at) ≡ Ok (end_of e at)
  told_end Normal at = refl
  told_end (RunFault error line) at = refl
  told_end (StorageExhausted line used wanted) at = refl
  told_end (TickLimit ticks) at = refl
  told_end NoRule at = refl

  same_ok : (r : Result CodeEnd CodeFailure) (e d : CodeEnd) → r ≡ Ok e → r ≡ Ok d → e ≡ d
  same_ok r e d x y = cc

  ended_so : (a : Answer) (e : CodeEnd) → told a ≡ Ok e → HasEnded code l (opening code l input) a old new → Ran code l input e old new
  ended_so a e is h = record {
    output = h.last.store.written;
    ends = record {
      steps = h.steps;
      world = h.world;
      state = h.state;
      last = h.last;
      ending = h.ending;
      come = h.come;
      ended = h.ended;
      is = same_ok (told a) e (end_of h.ending (next_place h.state)) is (ap told h.answer ∙ told_end h.ending (next_place h.state));
      writes = refl;
    };
    writes = h.written;
  }

  pub ran_of : (faults now : ℕ) (a : Answer) → RanAs faults now code l input a old new → IfOk (told a) (λ e. Ran code l input e old new)
  unfolding RanAs
  ran_of faults now answer.Normal h = ended_so answer.Normal end.Normal refl h
  ran_of faults now (answer.RunFault error line) h = ended_so (answer.RunFault error line) (end.RunFault error line) refl h
  ran_of faults now (answer.StorageExhausted line used wanted) h = ended_so (answer.StorageExhausted line used wanted) (end.StorageExhausted line used wanted) refl h
  ran_of faults now (answer.TickLimit ticks) h = ended_so (answer.TickLimit ticks) (end.TickLimit ticks) refl h
  ran_of faults now answer.InputFault h = tt
  ran_of faults now answer.WriteFault h = tt
  ran_of faults now answer.Memory h = tt
  ran_of faults now (answer.BadCode at) h = ended_so (answer.BadCode at) (end.BadCode at) refl h

  was_broken : OutputGrows → HasEnd code l input → WasBroken code l (opening code l input) old new → Begins code l input old new
  was_broken grows has (steps, part) =
      begins_end grows has steps (subst (λ xs. AddsPrefix old new xs) (world_written (mrun code l input steps)) (part_adds old new _ part))

  was_cut : OutputGrows → HasEnd code l input → (faults now : ℕ) → WasCut faults now code l (opening code l input) old new → BeforeARead faults now code l input old new × Begins code l input old new
  was_cut grows has faults now h = (
    record { steps = h.steps; world = h.world; state = h.state; come = h.come; writes = h.written; reads = h.reads },
    begins_end grows has h.steps (subst (λ (r : Run Machine). AddsPrefix old new (written r)) (sym h.come) (adds_all old new h.world.store.written h.written)),
  )

  pub broken_of : OutputGrows → HasEnd code l input → (faults now : ℕ) (a : Answer) → RanAs faults now code l input a old new → Broken faults now code l input old new (told a)
  unfolding RanAs
  broken_of grows has faults now answer.Normal h = tt
  broken_of grows has faults now (answer.RunFault error line) h = tt
  broken_of grows has faults now (answer.StorageExhausted line used wanted) h = tt
  broken_of grows has faults now (answer.TickLimit ticks) h = tt
  broken_of grows has faults now answer.InputFault h = was_cut grows has faults now h
  broken_of grows has faults now answer.WriteFault h = was_broken grows has h
  broken_of grows has faults now answer.Memory h = was_broken grows has h
  broken_of grows has faults now (answer.BadCode at) h = tt

pub output_of : {S : Type 0} (written : S → Option (List ℕ)) (faults : S → ℕ) (old new : S) (a : Answer) → FaultsAs written faults a old new → OutputAfter written faults old new (told a)
output_of written faults old new answer.Normal h = h
output_of written faults old new (answer.RunFault error line) h = h
output_of written faults old new (answer.StorageExhausted line used wanted) h = h
output_of written faults old new (answer.TickLimit ticks) h = h
output_of written faults old new answer.InputFault h = h
output_of written faults old new answer.WriteFault h = h
output_of written faults old new answer.Memory h = h
output_of written faults old new (answer.BadCode at) h = h

pub input_of : (before now : ℕ) (a : Answer) → InputAs before now a → InputAfter before now (told a)
input_of before now answer.Normal h = h
input_of before now (answer.RunFault error line) h = h
input_of before now (answer.StorageExhausted line used wanted) h = h
input_of before now (answer.TickLimit ticks) h = h
input_of before now answer.InputFault h = h
input_of before now answer.WriteFault h = h
input_of before now answer.Memory h = h
input_of before now (answer.BadCode at) h = h
