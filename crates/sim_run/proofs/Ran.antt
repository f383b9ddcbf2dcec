-- What the machine's run of compiled code says of the program.
use Rattle.std.proofs.Common.{◌≡◌, ◌∙◌, ℕ, suc, List, Option, Some, None, Result, Err, length, take, refl, sym, ap, subst}
use Rattle.std.proofs.Math.Seq.{take-append_seam}
use Rattle.std.specs.Io.KnownBytes.{Appends}
use Rattle.sim_base.specs.declared.limits.Limits.{Limits}
use Rattle.sim_code.specs.declared.ending.Ending.{Ending as Answer}
use Rattle.sim_code.specs.declared.ending.Ending.TheVariants as answer
use Rattle.sim_code.specs.Code.{CodeOf}
use Rattle.sim_code.specs.Growing.{OutputGrows, written}
use Rattle.sim_code.specs.Machine.{Machine}
use Rattle.sim_code.specs.Outcome.{Ended, Ending, Going, Normal, NoRule, Run, RunFault, StorageExhausted, TickLimit, answer_of}
use Rattle.sim_code.specs.Rows.{mrun, next_place, opening}
use Rattle.sim_ports.specs.Bytes.{AddsPrefix}
use Rattle.sim_scope.specs.Source.{Source}
use Rattle.object_machine.specs.Running.{HasEnded, RanAs, WasBroken, WasCut}
use Rattle.object_machine.specs.Standing.{WrotePart, world_of}
use Rattle.sim_relate.specs.SameRuns.{SameRuns}
use Rattle.sim_run.specs.declared.running.RunFailure.{RunFailure}
use Rattle.sim_run.specs.declared.running.RunFailure.TheVariants as failure
use Rattle.sim_run.specs.declared.running.RunEnd.{RunEnd}
use Rattle.sim_run.specs.declared.running.RunEnd.TheVariants as end
use Rattle.sim_run.specs.RunEnds.{BeforeARead, Begins, Broken, CodeBroken, CodeRan, IsRuled, Ran, end_of}
use Rattle.sim_run.proofs.Reading.{before_read}
use Rattle.sim_run.proofs.Showing.{EndsIn, begins_end, program_ends}
use Rattle.sim_run.proofs.Prefixes.{adds_all}

-- ---- the machine's answer

-- the end of a run by this answer
abbrev pub end_by : Answer → Option RunEnd
end_by answer.Normal = Some end.Normal
end_by (answer.RunFault error line) = Some (end.RunFault error line)
end_by (answer.StorageExhausted line used wanted) = Some (end.StorageExhausted line used wanted)
end_by (answer.TickLimit ticks) = Some (end.TickLimit ticks)
end_by _ = None

end_by_ending : (e : Ending) (at : ℕ) → end_by (answer_of e at) ≡ end_of e
end_by_ending Normal at = refl
end_by_ending (RunFault error line) at = refl
end_by_ending (StorageExhausted line used wanted) at = refl
end_by_ending (TickLimit ticks) at = refl
end_by_ending NoRule at = refl

ended_so : (code : CodeOf) (l : Limits) (input : List ℕ) (a : Answer) (end : RunEnd) (old new : Option (List ℕ)) → end_by a ≡ Some end → HasEnded code l (opening code l input) a old new → CodeRan code l input end old new
ended_so code l input a e old new is h = record {
  steps = suc h.steps;
  world = h.last;
  ending = h.ending;
  is = sym (end_by_ending h.ending (next_place h.state)) ∙ ap end_by (sym h.answer) ∙ is;
  ends = h.ended;
  writes = h.written;
}

-- code that the machine ran to its end
pub code_ran : (faults now : ℕ) (code : CodeOf) (l : Limits) (input : List ℕ) (a : Answer) (end : RunEnd) (old new : Option (List ℕ)) → end_by a ≡ Some end → RanAs faults now code l input a old new → CodeRan code l input end old new
unfolding RanAs
code_ran faults now code l input answer.Normal e old new is h = ended_so code l input answer.Normal e old new is h
code_ran faults now code l input (answer.RunFault error line) e old new is h = ended_so code l input (answer.RunFault error line) e old new is h
code_ran faults now code l input (answer.StorageExhausted line used wanted) e old new is h = ended_so code l input (answer.StorageExhausted line used wanted) e old new is h
code_ran faults now code l input (answer.TickLimit ticks) e old new is h = ended_so code l input (answer.TickLimit ticks) e old new is h
code_ran faults now code l input answer.InputFault e old new is h = cc is
code_ran faults now code l input answer.WriteFault e old new is h = cc is
code_ran faults now code l input answer.Memory e old new is h = cc is
code_ran faults now code l input (answer.BadCode at) e old new is h = cc is

-- it has a rule for each step
never_lost : (e : Ending) (at place : ℕ) → answer.BadCode at ≡ answer_of e place → e ≡ NoRule
never_lost Normal at place is = cc is
never_lost (RunFault error line) at place is = cc is
never_lost (StorageExhausted line used wanted) at place is = cc is
never_lost (TickLimit ticks) at place is = cc is
never_lost NoRule at place is = refl

pub not_lost : (faults now : ℕ) (code : CodeOf) (l : Limits) (input : List ℕ) (at : ℕ) (old new : Option (List ℕ)) → IsRuled code l → RanAs faults now code l input (answer.BadCode at) old new → ⊥
unfolding RanAs
not_lost faults now code l input at old new ruled h =
    ruled input (suc h.steps) h.last (h.ended ∙ ap (λ e. Ended h.last e) (never_lost h.ending at (next_place h.state) h.answer))

pub broken_by_memory : (faults now : ℕ) (code : CodeOf) (l : Limits) (input : List ℕ) (old new : Option (List ℕ)) → RanAs faults now code l input answer.Memory old new → WasBroken code l (opening code l input) old new
unfolding RanAs
broken_by_memory faults now code l input old new h = h

pub broken_by_output : (faults now : ℕ) (code : CodeOf) (l : Limits) (input : List ℕ) (old new : Option (List ℕ)) → RanAs faults now code l input answer.WriteFault old new → WasBroken code l (opening code l input) old new
unfolding RanAs
broken_by_output faults now code l input old new h = h

pub cut_by_input : (faults now : ℕ) (code : CodeOf) (l : Limits) (input : List ℕ) (old new : Option (List ℕ)) → RanAs faults now code l input answer.InputFault old new → WasCut faults now code l (opening code l input) old new
unfolding RanAs
cut_by_input faults now code l input old new h = h

-- ---- the program

-- the code has ended, so the program has
pub has_ended : (s : Source) (code : CodeOf) → SameRuns s code → (l : Limits) (input : List ℕ) (end : RunEnd) (old new : Option (List ℕ)) → CodeRan code l input end old new → Ran s l input end old new
has_ended s code same l input e old new h =
    let ends : EndsIn (mrun code l input h.steps) h.ending h.world.store.written = record { world = h.world; is = h.ends; writes = refl } in
    record {
      output = h.world.store.written;
      ends = record { ending = h.ending; is = h.is; ends = program_ends s code same l input h.steps h.ending h.world.store.written ends };
      writes = h.writes;
    }

world_written : (r : Run Machine) → (world_of r).store.written ≡ written r
world_written (Going o s) = refl
world_written (Ended o e) = refl

part_adds : (old new : Option (List ℕ)) (xs : List ℕ) → WrotePart old new xs → AddsPrefix old new xs
part_adds old new xs (bytes, more, adds, is) =
    (length bytes, subst (λ (l : List ℕ). Appends old new (take (length bytes) l)) (sym is) (subst (Appends old new) (sym (take-append_seam bytes more)) adds))

-- what was broken off wrote a part of what the program writes
pub was_broken : OutputGrows → (s : Source) (code : CodeOf) → SameRuns s code → (l : Limits) (input : List ℕ) (old new : Option (List ℕ)) → WasBroken code l (opening code l input) old new → Begins s l input old new
was_broken grows s code same l input old new (steps, part) =
    let r : Run Machine = mrun code l input steps in
    begins_end s code same l input grows old new steps (subst (λ xs. AddsPrefix old new xs) (world_written r) (part_adds old new (world_of r).store.written part))

-- what was cut off had written what the program has written before a step that takes something of the input
cut_written : (faults now : ℕ) (code : CodeOf) (l : Limits) (input : List ℕ) (old new : Option (List ℕ)) (cut : WasCut faults now code l (opening code l input) old new) → Appends old new (written (mrun code l input cut.steps))
cut_written faults now code l input old new cut = subst (λ (r : Run Machine). Appends old new (written r)) (sym cut.come) cut.written

pub was_cut : OutputGrows → (s : Source) (code : CodeOf) → SameRuns s code → (faults now : ℕ) (l : Limits) (input : List ℕ) (old new : Option (List ℕ)) → WasCut faults now code l (opening code l input) old new → BeforeARead faults now s l input old new × Begins s l input old new
was_cut grows s code same faults now l input old new cut = (
  before_read s code same l input faults now old new cut,
  begins_end s code same l input grows old new cut.steps (adds_all old new (written (mrun code l input cut.steps)) (cut_written faults now code l input old new cut)),
)

-- what is known of the code's run where it was broken off is so of the program's
pub broken_of : {A : Type 0} → OutputGrows → (s : Source) (code : CodeOf) → SameRuns s code → (faults now : ℕ) (l : Limits) (input : List ℕ) (old new : Option (List ℕ)) (r : Result A RunFailure) (e : RunFailure) → r ≡ Err e → CodeBroken faults now code l input old new (Err e)
    → Broken faults now s l input old new r
broken_of grows s code same faults now l input old new r failure.Memory is h = rw is (was_broken grows s code same l input old new h)
broken_of grows s code same faults now l input old new r failure.Input is h = rw is (was_cut grows s code same faults now l input old new h)
broken_of grows s code same faults now l input old new r failure.Output is h = rw is (was_broken grows s code same l input old new h)
