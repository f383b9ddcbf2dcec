use Rattle.std.proofs.Common.{subst}
use Rattle.object_machine.specs.Running.{Stops, StopsAtRead}
use Rattle.object_machine.specs.Standing.{outside}
use Rattle.object_machine.specs.Named.{InputEnds}
use Rattle.object_machine.proofs.Closings.{cut_before, broken_jump, broken_off, broken_on, broken_write, fault_at_closing, fault_closing, normal_closing, ticks_closing, words_at_closing, words_closing}
use Rattle.object_machine.proofs.Whole.{input_answers}
use Rattle.object_machine.proofs.ending.answer.Goals as goal

pub returns-in-Normal-clause-ran : goal.returns-in-Normal-clause-ran
returns-in-Normal-clause-ran g c code from r stack below before source faults faults_now s =
    c.closed.ensures.ran code c.args.limits.now from before source faults faults_now
    (normal_closing code c.args.limits.now from c.args.stop.line.0 c.args.stop.at c.args.storage.now r stack below before _ faults faults_now (subst (λ f. Stops code c.args.limits.now from f c.args.stop.line.0 c.args.stop.at c.args.storage.now r stack below before (outside (g.O.Sink.written c.args.out.now) source)) c.in-Normal.is s.stops))

pub returns-in-TickLimit-clause-ran : goal.returns-in-TickLimit-clause-ran
returns-in-TickLimit-clause-ran g c code from r stack below before source faults faults_now s =
    c.closed-in-TickLimit.ensures.ran code c.args.limits.now from before source faults faults_now
    (ticks_closing code c.args.limits.now from c.args.stop.line.0 c.args.stop.at c.args.storage.now r stack below before _ faults faults_now (subst (λ f. Stops code c.args.limits.now from f c.args.stop.line.0 c.args.stop.at c.args.storage.now r stack below before (outside (g.O.Sink.written c.args.out.now) source)) c.in-TickLimit.is s.stops))

pub returns-in-Exhausted-clause-ran : goal.returns-in-Exhausted-clause-ran
returns-in-Exhausted-clause-ran g c code from r stack below before source faults faults_now s =
    c.closed-in-Exhausted.ensures.ran code c.args.limits.now from before source faults faults_now
    (words_closing code c.args.limits.now from c.args.stop.line.0 c.args.stop.at c.args.storage.now r stack below before _ faults faults_now (subst (λ f. Stops code c.args.limits.now from f c.args.stop.line.0 c.args.stop.at c.args.storage.now r stack below before (outside (g.O.Sink.written c.args.out.now) source)) c.in-Exhausted.is s.stops))

pub returns-in-ExhaustedAt-clause-ran : goal.returns-in-ExhaustedAt-clause-ran
returns-in-ExhaustedAt-clause-ran g c code from r stack below before source faults faults_now s =
    c.closed-in-ExhaustedAt.ensures.ran code c.args.limits.now from before source faults faults_now
    (words_at_closing code c.args.limits.now from c.args.stop.line.0 c.args.stop.at c.args.storage.now r stack below before _ c.in-ExhaustedAt.line faults faults_now (subst (λ f. Stops code c.args.limits.now from f c.args.stop.line.0 c.args.stop.at c.args.storage.now r stack below before (outside (g.O.Sink.written c.args.out.now) source)) c.in-ExhaustedAt.is s.stops))

pub returns-in-Fault-clause-ran : goal.returns-in-Fault-clause-ran
returns-in-Fault-clause-ran g c code from r stack below before source faults faults_now s =
    c.closed-in-Fault.ensures.ran code c.args.limits.now from before source faults faults_now
    (fault_closing code c.args.limits.now from c.args.stop.line.0 c.args.stop.at c.args.storage.now r stack below before _ faults faults_now c.in-Fault.error (subst (λ f. Stops code c.args.limits.now from f c.args.stop.line.0 c.args.stop.at c.args.storage.now r stack below before (outside (g.O.Sink.written c.args.out.now) source)) c.in-Fault.is s.stops))

pub returns-in-FaultAt-clause-ran : goal.returns-in-FaultAt-clause-ran
returns-in-FaultAt-clause-ran g c code from r stack below before source faults faults_now s =
    c.closed-in-FaultAt.ensures.ran code c.args.limits.now from before source faults faults_now
    (fault_at_closing code c.args.limits.now from c.args.stop.line.0 c.args.stop.at c.args.storage.now r stack below before _ faults faults_now c.in-FaultAt.error c.in-FaultAt.line (subst (λ f. Stops code c.args.limits.now from f c.args.stop.line.0 c.args.stop.at c.args.storage.now r stack below before (outside (g.O.Sink.written c.args.out.now) source)) c.in-FaultAt.is s.stops))

pub returns-in-NoRule-clause-ran : goal.returns-in-NoRule-clause-ran
returns-in-NoRule-clause-ran g c code from r stack below before source faults faults_now s =
    c.without_rule.ensures.ran code c.args.limits.now from c.args.stop.line.0 c.args.storage.now r stack below before _ faults faults_now (subst (λ f. Stops code c.args.limits.now from f c.args.stop.line.0 c.args.stop.at c.args.storage.now r stack below before (outside (g.O.Sink.written c.args.out.now) source)) c.in-NoRule.is s.stops)

pub returns-in-On-clause-ran : goal.returns-in-On-clause-ran
returns-in-On-clause-ran g c code from r stack below before source faults faults_now s = broken_on code c.args.limits.now from c.args.stop.line.0 c.args.stop.at c.args.storage.now r stack below before (outside (g.O.Sink.written c.args.out.now) source) (subst (λ f. Stops code c.args.limits.now from f c.args.stop.line.0 c.args.stop.at c.args.storage.now r stack below before (outside (g.O.Sink.written c.args.out.now) source)) c.in-On.is s.stops)

pub returns-in-Jumped-clause-ran : goal.returns-in-Jumped-clause-ran
returns-in-Jumped-clause-ran g c code from r stack below before source faults faults_now s = broken_jump code c.args.limits.now from c.args.stop.line.0 c.args.stop.at c.args.storage.now r stack below before (outside (g.O.Sink.written c.args.out.now) source) (subst (λ f. Stops code c.args.limits.now from f c.args.stop.line.0 c.args.stop.at c.args.storage.now r stack below before (outside (g.O.Sink.written c.args.out.now) source)) c.in-Jumped.is s.stops)

pub returns-in-Memory-clause-ran : goal.returns-in-Memory-clause-ran
returns-in-Memory-clause-ran g c code from r stack below before source faults faults_now s = broken_off code c.args.limits.now from c.args.stop.line.0 c.args.stop.at c.args.storage.now r stack below before (outside (g.O.Sink.written c.args.out.now) source) (subst (λ f. Stops code c.args.limits.now from f c.args.stop.line.0 c.args.stop.at c.args.storage.now r stack below before (outside (g.O.Sink.written c.args.out.now) source)) c.in-Memory.is s.stops)

pub returns-in-WriteFault-clause-ran : goal.returns-in-WriteFault-clause-ran
returns-in-WriteFault-clause-ran g c code from r stack below before source faults faults_now s = broken_write code c.args.limits.now from c.args.stop.line.0 c.args.stop.at c.args.storage.now r stack below before (outside (g.O.Sink.written c.args.out.now) source) (subst (λ f. Stops code c.args.limits.now from f c.args.stop.line.0 c.args.stop.at c.args.storage.now r stack below before (outside (g.O.Sink.written c.args.out.now) source)) c.in-WriteFault.is s.stops)

pub returns-in-InputFault-clause-ran : goal.returns-in-InputFault-clause-ran
returns-in-InputFault-clause-ran g c code from r stack below before source faults faults_now s = cut_before code c.args.limits.now from c.args.stop.line.0 c.args.stop.at c.args.storage.now r stack below before (outside (g.O.Sink.written c.args.out.now) source) faults faults_now (subst (λ f. StopsAtRead faults faults_now code c.args.limits.now from f c.args.stop.line.0 c.args.stop.at c.args.storage.now r stack below before (outside (g.O.Sink.written c.args.out.now) source)) c.in-InputFault.is s)

pub returns-in-Normal-clause-input : goal.returns-in-Normal-clause-input
returns-in-Normal-clause-input g c before now h = c.closed.ensures.input before now (subst (λ f. InputEnds before now f) c.in-Normal.is h)

pub returns-in-TickLimit-clause-input : goal.returns-in-TickLimit-clause-input
returns-in-TickLimit-clause-input g c before now h = c.closed-in-TickLimit.ensures.input before now (subst (λ f. InputEnds before now f) c.in-TickLimit.is h)

pub returns-in-Exhausted-clause-input : goal.returns-in-Exhausted-clause-input
returns-in-Exhausted-clause-input g c before now h = c.closed-in-Exhausted.ensures.input before now (subst (λ f. InputEnds before now f) c.in-Exhausted.is h)

pub returns-in-ExhaustedAt-clause-input : goal.returns-in-ExhaustedAt-clause-input
returns-in-ExhaustedAt-clause-input g c before now h = c.closed-in-ExhaustedAt.ensures.input before now (subst (λ f. InputEnds before now f) c.in-ExhaustedAt.is h)

pub returns-in-Fault-clause-input : goal.returns-in-Fault-clause-input
returns-in-Fault-clause-input g c before now h = c.closed-in-Fault.ensures.input before now (subst (λ f. InputEnds before now f) c.in-Fault.is h)

pub returns-in-FaultAt-clause-input : goal.returns-in-FaultAt-clause-input
returns-in-FaultAt-clause-input g c before now h = c.closed-in-FaultAt.ensures.input before now (subst (λ f. InputEnds before now f) c.in-FaultAt.is h)

pub returns-in-NoRule-clause-input : goal.returns-in-NoRule-clause-input
returns-in-NoRule-clause-input g c before now h = input_answers before now _ c.without_rule.ensures.read (subst (λ f. InputEnds before now f) c.in-NoRule.is h)

pub returns-in-Memory-clause-input : goal.returns-in-Memory-clause-input
returns-in-Memory-clause-input g c before now h = subst (λ f. InputEnds before now f) c.in-Memory.is h

pub returns-in-InputFault-clause-input : goal.returns-in-InputFault-clause-input
returns-in-InputFault-clause-input g c before now h = subst (λ f. InputEnds before now f) c.in-InputFault.is h

pub returns-in-WriteFault-clause-input : goal.returns-in-WriteFault-clause-input
returns-in-WriteFault-clause-input g c before now h = subst (λ f. InputEnds before now f) c.in-WriteFault.is h

pub returns-in-On-clause-input : goal.returns-in-On-clause-input
returns-in-On-clause-input g c before now h = subst (λ f. InputEnds before now f) c.in-On.is h

pub returns-in-Jumped-clause-input : goal.returns-in-Jumped-clause-input
returns-in-Jumped-clause-input g c before now h = subst (λ f. InputEnds before now f) c.in-Jumped.is h
