-- When a transfer of control is refused, and what is done where it is not: first the state is tested, then the chain. That the
-- reference is not `none`, E40, goes before all of them.
use Rattle.std.specs.Prelude.{Bool, true, false, Option, Some, None, Result, Ok, Err}
use Rattle.sim_base.specs.declared.run_error.RunError.{RunError}
use Rattle.sim_base.specs.declared.run_error.RunError.TheVariants.{ComponentIsAttached, ComponentIsTerminated, ComponentIsResumed, ObjectNotOperating, SystemNotOperating, ResumedIsAttached}
use Rattle.sim_chains.specs.declared.state.State.{State}
use Rattle.sim_chains.specs.declared.state.State.TheVariants.{Attached, Detached, Resumed, Terminated}
use Rattle.sim_chains.specs.declared.refusals.Transfer.{Transfer}
use Rattle.sim_chains.specs.declared.refusals.Transfer.TheVariants.{Stay, Call, Leave, Resume, ResumeMain}

-- `call` of an object in this state; an instance that is no object, as a prefixed block, counts as attached
abbrev pub answer_to_call : Option State → Result Transfer RunError
answer_to_call None = Err ComponentIsAttached
answer_to_call (Some Attached) = Err ComponentIsAttached
answer_to_call (Some Terminated) = Err ComponentIsTerminated
answer_to_call (Some Resumed) = Err ComponentIsResumed
answer_to_call (Some Detached) = Ok Call

abbrev pub where_operating : Transfer → Bool → Result Transfer RunError
where_operating transfer true = Ok transfer
where_operating transfer false = Err SystemNotOperating

-- `resume` of an object in this state, whose system head stands on the operating chain or does not; an instance that is no object
-- counts as attached, and a resumed object goes on as it is, wherever its head stands
abbrev pub answer_to_resume : Option State → Bool → Result Transfer RunError
answer_to_resume None operates = Err ResumedIsAttached
answer_to_resume (Some Attached) operates = Err ResumedIsAttached
answer_to_resume (Some Terminated) operates = Err ComponentIsTerminated
answer_to_resume (Some Resumed) operates = Ok Stay
answer_to_resume (Some Detached) operates = where_operating Resume operates

-- the main component of a system, which waits or operates, where the head stands on the operating chain or does not
abbrev pub answer_to_main : Bool → Bool → Result Transfer RunError
answer_to_main false operates = Ok Stay
answer_to_main true operates = where_operating ResumeMain operates

-- `detach` in an object in this state, which stands on the operating chain or does not; in an instance that is no object nothing
-- is done
abbrev pub answer_to_detach : Option State → Bool → Result Transfer RunError
answer_to_detach None operates = Ok Stay
answer_to_detach (Some Attached) true = Ok Leave
answer_to_detach (Some Resumed) true = Ok ResumeMain
answer_to_detach (Some other) operates = Err ObjectNotOperating

-- the error of a refusal
abbrev pub error_of : {X : Type 0} → Result X RunError → Option RunError
error_of (Ok x) = None
error_of (Err e) = Some e
