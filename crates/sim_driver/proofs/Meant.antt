-- What a program means, from how it was run.
use Rattle.std.proofs.Common.{◌≡◌, ◌⊎◌, inl, inr, ℕ, Bool, true, false, List, [], Option, IfOk, OnErr, OnOk, Result, Ok, Err, refl, sym, ap, ◌∙◌, subst}
use Rattle.std.proofs.KnownBytes.{Appends-nil}
use Rattle.std.specs.Io.KnownBytes.{Appends}
use Rattle.sim_base.specs.declared.limits.Limits.{Limits}
use Rattle.sim_base.specs.declared.numbering.Line.{Line}
use Rattle.sim_base.specs.declared.rule.Rule.{Rule}
use Rattle.sim_ports.specs.Bytes.{AddsPrefix}
use Rattle.sim_driver.specs.Output.{Begins, Exactly, SomeCodeFile, SomeListing, Writes}
use Rattle.sim_run.specs.declared.running.ProgramRun.{ProgramRun}
use Rattle.sim_run.specs.declared.running.RunFailure.{RunFailure as NotRun}
use Rattle.sim_run.specs.declared.running.RunEnd.{RunEnd}
use Rattle.sim_run.specs.RunEnds.{BeforeARead, Begins as BeginsRun, Broken, Ran, TakesNothing}
use Rattle.sim_run.proofs.OneEnd.{one_end}
use Rattle.sim_run.proofs.Ran.{has_ended}
use Rattle.sim_xref.specs.Text.{references_text}
use Rattle.sim_scope.specs.Source.{Source}
use Rattle.sim_driver.specs.Compiling.{BoundCompiles, Coded, Compiled, Listed, Printed, Rejected, Runnable, Sound, SourceBinds, SourceCompiles, SourcePrints, SourceRejects}
use Rattle.sim_driver.specs.OutputAfter.{InputAfter}
use Rattle.sim_driver.specs.declared.failure.RunFailure.{RunFailure}
use Rattle.sim_driver.specs.declared.failure.RunFailure.TheVariants.{Input, Memory, Output}
use Rattle.sim_driver.specs.SourceMeaning.{BoundMeans, Does, IsCutOff, Meaning, Means, RanCode, RunMeans, SourceMeans, ending_of}
use Rattle.sim_driver.specs.declared.status.Ending.{Ending}
use Rattle.sim_driver.specs.declared.status.Ending.TheVariants.{Normal, Refused}
use Rattle.command_line.specs.declared.words.Command.{Command}
use Rattle.command_line.specs.declared.words.Command.TheVariants.{Check, Compile, Listing, Print, References, Run}

-- ---- a run

-- what was run to its end has a meaning
ran_means : (l : Limits) (s : Source) (input : List ℕ) (end : RunEnd) (old new : Option (List ℕ)) → Ran s l input end old new → (meaning : Meaning) × BoundMeans Run l s input meaning
ran_means l s input end old new ran = (
  record { ending = ending_of l end; output = Exactly ran.output },
  record { compiled = Runnable s; compiles = refl; means = record { end = end; output = ran.output; ends = ran.ends; same = refl } },
)

run_of : (l : Limits) (s : Source) (input : List ℕ) (meaning : Meaning) → BoundMeans Run l s input meaning → RunMeans l s input meaning
run_of l s input meaning is = subst (λ (c : Compiled). Means l input c meaning) is.compiles is.means

-- it ended and wrote as every meaning says
ran_does : (l : Limits) (s : Source) (input : List ℕ) (end : RunEnd) (ending : Ending) (old new : Option (List ℕ)) → Ran s l input end old new → ending ≡ ending_of l end
    → (meaning : Meaning) → BoundMeans Run l s input meaning → (ending ≡ meaning.ending) × Writes old new meaning.output
ran_does l s input end ending old new ran says meaning is =
    let means = run_of l s input meaning is in
    let same = one_end s l input end means.end ran.output means.output ran.ends means.ends in
    subst (λ (m : Meaning). (ending ≡ m.ending) × Writes old new m.output) (sym means.same)
    (says ∙ ap (ending_of l) same.0, (means.output, refl, subst (λ xs. Appends old new xs) same.1 ran.writes))

-- what failed wrote a part of it
failed_begins : (l : Limits) (s : Source) (input : List ℕ) (old new : Option (List ℕ)) → BeginsRun s l input old new → (meaning : Meaning) → BoundMeans Run l s input meaning → Begins old new meaning.output
failed_begins l s input old new part meaning is =
    let means = run_of l s input meaning is in
    subst (λ (m : Meaning). Begins old new m.output) (sym means.same) (inr (means.output, refl, part means.end means.output means.ends))

-- the code has ended, so the program has
program_ran : (l : Limits) (s : Source) (input : List ℕ) (ending : Ending) (old new : Option (List ℕ)) (ran : RanCode l s input ending old new) → Ran s l input ran.end old new
program_ran l s input ending old new ran = has_ended s ran.code ran.shows l input ran.end old new ran.ran

-- so what was run has a meaning, and did what every meaning says
pub run_known : {E : Type 0} (l : Limits) (s : Source) (input : List ℕ) (old new : Option (List ℕ)) (r : Result Ending E) → IfOk r (λ ending. RanCode l s input ending old new) → OnOk r ((meaning : Meaning) × BoundMeans Run l s input meaning)
run_known l s input old new (Ok ending) ran = ran_means l s input ran.end old new (program_ran l s input ending old new ran)
run_known l s input old new (Err e) ran = tt

pub run_does : {E : Type 0} (l : Limits) (s : Source) (input : List ℕ) (old new : Option (List ℕ)) (r : Result Ending E) → IfOk r (λ ending. RanCode l s input ending old new) → OnErr r (BeginsRun s l input old new)
    → (meaning : Meaning) → BoundMeans Run l s input meaning → Does meaning old new r
run_does l s input old new (Ok ending) ran begins meaning is = ran_does l s input ran.end ending old new (program_ran l s input ending old new ran) ran.same meaning is
run_does l s input old new (Err e) ran begins meaning is = failed_begins l s input old new begins meaning is

-- what is known of a run that failed, by its cause
pub broken_by : (faults now : ℕ) (l : Limits) (s : Source) (input : List ℕ) (old new : Option (List ℕ)) (e f : NotRun) → e ≡ f → Broken {A = ProgramRun} faults now s l input old new (Err e) → Broken {A = ProgramRun} faults now s l input old new (Err f)
broken_by faults now l s input old new e f is broken = subst (λ x. Broken {A = ProgramRun} faults now s l input old new (Err x)) is broken

-- ---- what is checked and not run

-- a program that breaks no rule is all that is asked for
abbrev writes_nothing : Command → Bool
writes_nothing Check = true
writes_nothing Print = true
writes_nothing command = false

pub only_checked : (command : Command) → (command ≡ Check) ⊎ (command ≡ Print) → writes_nothing command ≡ true
only_checked command (inl is) = ap writes_nothing is
only_checked command (inr is) = ap writes_nothing is

abbrev says_nothing : Meaning
says_nothing = record { ending = Normal; output = Exactly [] }

-- what writes nothing wrote all of it
nothing_more : (old : Option (List ℕ)) → Writes old old (Exactly [])
nothing_more old = ([], refl, Appends-nil old)

pub checked_means : (command : Command) (l : Limits) (s : Source) (input : List ℕ) → writes_nothing command ≡ true → (meaning : Meaning) × BoundMeans command l s input meaning
checked_means Run l s input idle = absurd (cc idle)
checked_means Compile l s input idle = absurd (cc idle)
checked_means Listing l s input idle = absurd (cc idle)
checked_means References l s input idle = absurd (cc idle)
checked_means Check l s input idle = (says_nothing, record { compiled = Sound; compiles = refl; means = refl })
checked_means Print l s input idle = (says_nothing, record { compiled = Sound; compiles = refl; means = refl })

sound_of : (command : Command) (s : Source) (c : Compiled) → writes_nothing command ≡ true → BoundCompiles command s c → c ≡ Sound
sound_of Run s c idle is = absurd (cc idle)
sound_of Compile s c idle is = absurd (cc idle)
sound_of Listing s c idle is = absurd (cc idle)
sound_of References s c idle is = absurd (cc idle)
sound_of Check s c idle is = is
sound_of Print s c idle is = is

pub checked_does : (command : Command) (l : Limits) (s : Source) (input : List ℕ) (old : Option (List ℕ)) (meaning : Meaning) → writes_nothing command ≡ true → BoundMeans command l s input meaning → (Normal ≡ meaning.ending) × Writes old old meaning.output
checked_does command l s input old meaning idle is =
    let sound : Means l input Sound meaning = subst (λ (c : Compiled). Means l input c meaning) (sound_of command s is.compiled idle is.compiles) is.means in
    subst (λ (m : Meaning). (Normal ≡ m.ending) × Writes old old m.output) (sym sound) (refl, nothing_more old)

-- ---- what is said of the code

pub coded_means : (l : Limits) (s : Source) (input : List ℕ) → (meaning : Meaning) × BoundMeans Compile l s input meaning
coded_means l s input = (record { ending = Normal; output = SomeCodeFile s }, record { compiled = Coded s; compiles = refl; means = refl })

pub listed_means : (l : Limits) (s : Source) (input : List ℕ) → (meaning : Meaning) × BoundMeans Listing l s input meaning
listed_means l s input = (record { ending = Normal; output = SomeListing s }, record { compiled = Listed s; compiles = refl; means = refl })

pub coded_does : {E : Type 0} (l : Limits) (s : Source) (input : List ℕ) (old new : Option (List ℕ)) (r : Result Ending E) → Does (record { ending = Normal; output = SomeCodeFile s }) old new r
    → (meaning : Meaning) → BoundMeans Compile l s input meaning → Does meaning old new r
coded_does l s input old new r does meaning is =
    let means : Means l input (Coded s) meaning = subst (λ (c : Compiled). Means l input c meaning) is.compiles is.means in
    subst (λ (m : Meaning). Does m old new r) (sym means) does

pub listed_does : {E : Type 0} (l : Limits) (s : Source) (input : List ℕ) (old new : Option (List ℕ)) (r : Result Ending E) → Does (record { ending = Normal; output = SomeListing s }) old new r
    → (meaning : Meaning) → BoundMeans Listing l s input meaning → Does meaning old new r
listed_does l s input old new r does meaning is =
    let means : Means l input (Listed s) meaning = subst (λ (c : Compiled). Means l input c meaning) is.compiles is.means in
    subst (λ (m : Meaning). Does m old new r) (sym means) does

-- ---- cross references

pub references_means : (l : Limits) (s : Source) (input : List ℕ) → (meaning : Meaning) × BoundMeans References l s input meaning
references_means l s input =
    (record { ending = Normal; output = Exactly (references_text s) }, record { compiled = Printed (references_text s); compiles = refl; means = refl })

pub references_does : {E : Type 0} (l : Limits) (s : Source) (input : List ℕ) (old new : Option (List ℕ)) (r : Result Ending E) → Does (record { ending = Normal; output = Exactly (references_text s) }) old new r
    → (meaning : Meaning) → BoundMeans References l s input meaning → Does meaning old new r
references_does l s input old new r does meaning is =
    let means : Means l input (Printed (references_text s)) meaning = subst (λ (c : Compiled). Means l input c meaning) is.compiles is.means in
    subst (λ (m : Meaning). Does m old new r) (sym means) does

-- ---- what is printed

pub printed_means : (l : Limits) (source input text : List ℕ) → SourcePrints source text → (meaning : Meaning) × SourceMeans Print l source input meaning
printed_means l source input text prints = (record { ending = Normal; output = Exactly text }, record { compiled = Printed text; compiles = (prints (Printed text)).back refl; means = refl })

printed_as : (l : Limits) (source input text : List ℕ) (meaning : Meaning) → SourcePrints source text → SourceMeans Print l source input meaning → Means l input (Printed text) meaning
printed_as l source input text meaning prints is = subst (λ (c : Compiled). Means l input c meaning) ((prints is.compiled).there is.compiles) is.means

pub printed_does : (l : Limits) (source input text : List ℕ) (old new : Option (List ℕ)) → SourcePrints source text → Appends old new text → (meaning : Meaning) → SourceMeans Print l source input meaning → (Normal ≡ meaning.ending) × Writes old new meaning.output
printed_does l source input text old new prints wrote meaning is =
    subst (λ (m : Meaning). (Normal ≡ m.ending) × Writes old new m.output) (sym (printed_as l source input text meaning prints is)) (refl, (text, refl, wrote))

-- what does not fail by the input leaves it as it was
pub unread : (faults : ℕ) (r : Result Ending RunFailure) → (r ≡ Err Input → ⊥) → InputAfter faults faults r
unread faults (Ok ending) sound = refl
unread faults (Err Memory) sound = refl
unread faults (Err Input) sound = absurd (sound refl)
unread faults (Err Output) sound = refl

-- what failed wrote a part of it
pub printed_part : (l : Limits) (source input text : List ℕ) (old new : Option (List ℕ)) → SourcePrints source text → AddsPrefix old new text → (meaning : Meaning) → SourceMeans Print l source input meaning → Begins old new meaning.output
printed_part l source input text old new prints wrote meaning is =
    subst (λ (m : Meaning). Begins old new m.output) (sym (printed_as l source input text meaning prints is)) (inr (text, refl, wrote))

-- ---- what was cut off, and what is rejected

-- a program that breaks no rule is not rejected
not_rejected : (s : Source) (rule : Rule) (line : Line) → Rejected rule line ≡ Runnable s → ⊥
not_rejected s rule line is = cc

-- the same for whichever command: one that runs nothing leaves the input as it is, and ends normally
pub untouched_by : {P : Type 0} (command : Command) (source : List ℕ) (s : Source) (rule : Rule) (line : Line) → SourceBinds command source s → ((command ≡ Run → ⊥) → P) → SourceCompiles Run source (Rejected rule line) → P
untouched_by Run source s rule line binds idle compiles = absurd (not_rejected s rule line ((binds (Rejected rule line)).there compiles))
untouched_by Check source s rule line binds idle compiles = idle (λ is. cc is)
untouched_by Compile source s rule line binds idle compiles = idle (λ is. cc is)
untouched_by Listing source s rule line binds idle compiles = idle (λ is. cc is)
untouched_by References source s rule line binds idle compiles = idle (λ is. cc is)
untouched_by Print source s rule line binds idle compiles = idle (λ is. cc is)

-- and one that runs a program does what is known of the run of that program
pub takes_by : {P : Type 0} (command : Command) (l : Limits) (source input : List ℕ) (s t : Source) → SourceBinds command source t → ((command ≡ Run → ⊥) → P) → (TakesNothing t l input → P) → SourceCompiles Run source (Runnable s) → TakesNothing s l input → P
takes_by Run l source input s t binds idle takes compiles never = takes (subst (λ u. TakesNothing u l input) (same_program ((binds (Runnable s)).there compiles)) never)
  where
    same_program : {s t : Source} → Runnable s ≡ Runnable t → s ≡ t
    same_program is = cc is
takes_by Check l source input s t binds idle takes compiles never = idle (λ is. cc is)
takes_by Compile l source input s t binds idle takes compiles never = idle (λ is. cc is)
takes_by Listing l source input s t binds idle takes compiles never = idle (λ is. cc is)
takes_by References l source input s t binds idle takes compiles never = idle (λ is. cc is)
takes_by Print l source input s t binds idle takes compiles never = idle (λ is. cc is)

pub cut_by : {E P : Type 0} (faults now : ℕ) (command : Command) (l : Limits) (source input : List ℕ) (s : Source) (old new : Option (List ℕ)) (r : Result Ending E) (e : E) → SourceBinds command source s → ((command ≡ Run → ⊥) → (r ≡ Err e → ⊥) × P) → r ≡ Err e → BeforeARead faults now s l input old new
    → IsCutOff faults now command l source input old new
cut_by faults now Run l source input s old new r e binds idle is at = (refl, s, (binds (Runnable s)).back refl, at)
cut_by faults now Check l source input s old new r e binds idle is at = absurd ((idle (λ same. cc same)).0 is)
cut_by faults now Compile l source input s old new r e binds idle is at = absurd ((idle (λ same. cc same)).0 is)
cut_by faults now Listing l source input s old new r e binds idle is at = absurd ((idle (λ same. cc same)).0 is)
cut_by faults now References l source input s old new r e binds idle is at = absurd ((idle (λ same. cc same)).0 is)
cut_by faults now Print l source input s old new r e binds idle is at = absurd ((idle (λ same. cc same)).0 is)

-- ---- a source

-- the source means what its program means
pub bound_means : (command : Command) (l : Limits) (source input : List ℕ) (s : Source) → SourceBinds command source s → (meaning : Meaning) × BoundMeans command l s input meaning → (meaning : Meaning) × SourceMeans command l source input meaning
bound_means command l source input s binds (meaning, is) = (meaning, record { compiled = is.compiled; compiles = (binds is.compiled).back is.compiles; means = is.means })

pub means_bound : (command : Command) (l : Limits) (source input : List ℕ) (s : Source) → SourceBinds command source s → (meaning : Meaning) → SourceMeans command l source input meaning → BoundMeans command l s input meaning
means_bound command l source input s binds meaning is = record { compiled = is.compiled; compiles = (binds is.compiled).there is.compiles; means = is.means }

pub binds_ok : {E : Type 0} (command : Command) (l : Limits) (source input : List ℕ) (s : Source) (r : Result Ending E) → SourceBinds command source s → OnOk r ((meaning : Meaning) × BoundMeans command l s input meaning) → OnOk r ((meaning : Meaning) × SourceMeans command l source input meaning)
binds_ok command l source input s (Ok x) binds means = bound_means command l source input s binds means
binds_ok command l source input s (Err e) binds means = tt

-- a source that is rejected
pub rejected_means : (command : Command) (l : Limits) (source input : List ℕ) (rule : Rule) (line : Line) → SourceRejects command source rule line → (meaning : Meaning) × SourceMeans command l source input meaning
rejected_means command l source input rule line rejects =
    (record { ending = Refused rule line; output = Exactly [] }, record { compiled = Rejected rule line; compiles = (rejects (Rejected rule line)).back refl; means = refl })

pub rejected_does : (command : Command) (l : Limits) (source input : List ℕ) (rule : Rule) (line : Line) (old : Option (List ℕ)) → SourceRejects command source rule line
    → (meaning : Meaning) → SourceMeans command l source input meaning → (Refused rule line ≡ meaning.ending) × Writes old old meaning.output
rejected_does command l source input rule line old rejects meaning is =
    let same : is.compiled ≡ Rejected rule line = (rejects is.compiled).there is.compiles in
    let means : Means l input (Rejected rule line) meaning = subst (λ (c : Compiled). Means l input c meaning) same is.means in
    subst (λ (m : Meaning). (Refused rule line ≡ m.ending) × Writes old old m.output) (sym means) (refl, nothing_more old)
