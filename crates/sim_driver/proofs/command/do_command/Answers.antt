use Rattle.sim_driver.proofs.Meant.{unread}
use Rattle.sim_driver.proofs.command.do_command.Goals as goal

pub returns-in-Print-clause-known : goal.returns-in-Print-clause-known
returns-in-Print-clause-known g c given told = rw c.in-Print.is (c.print_source.ensures.known c.args.limits.now given)

pub returns-in-Print-clause-does : goal.returns-in-Print-clause-does
returns-in-Print-clause-does g c given meaning told means = c.print_source.ensures.does c.args.limits.now given meaning (rw c.in-Print.is at means)

pub returns-in-Print-clause-cut : goal.returns-in-Print-clause-cut
returns-in-Print-clause-cut g c given told is = absurd (c.print_source.ensures.no_input is)

pub returns-in-Print-clause-input : goal.returns-in-Print-clause-input
returns-in-Print-clause-input g c = unread (g.I.Source.faults c.args.input.now) c.print_source.result c.print_source.ensures.no_input
