use Rattle.std.proofs.Common.{sym, ◌∙◌}
use Rattle.object_machine.proofs.Fitted.{chain_inside, chain_outside, no_class_given}
use Rattle.object_machine.proofs.fitting.on_one_chain.Goals as goal

pub returns-then-given-eq0 : goal.returns-then-given-eq0
returns-then-given-eq0 c = record { row = λ code e. no_class_given code c.args.wanted c.args.given c.if-given-eq0.true }

pub returns-then-is_within : goal.returns-then-is_within
returns-then-is_within c = record { row = λ code e. chain_inside code c.args.wanted c.args.given c.if-given-eq0.false (sym (c.is_within.ensures.row code e) ∙ c.if-is_within.true) }

pub returns : goal.returns
returns c = record { row = λ code e. c.is_within-2.ensures.row code e ∙ chain_outside code c.args.wanted c.args.given c.if-given-eq0.false (sym (c.is_within.ensures.row code e) ∙ c.if-is_within.false) }
