use Rattle.sim_scope.specs.Source.{source_of}
use Rattle.sim_xref.specs.Text.{references_text}
use Rattle.sim_driver.specs.Output.{Exactly, SomeCodeFile, SomeListing}
use Rattle.sim_driver.proofs.Known.{holds_on_ok}
use Rattle.sim_driver.proofs.Meant.{checked_does, checked_means, coded_does, coded_means, listed_does, listed_means, only_checked, references_does, references_means, run_does, run_known}
use Rattle.sim_driver.proofs.command.do_bound.Goals as goal

pub returns-in-Check-clause-known : goal.returns-in-Check-clause-known
returns-in-Check-clause-known g c given told = checked_means c.args.command c.args.limits.now (source_of c.args.bound.now) given (only_checked c.args.command c.in-Check.is)

pub returns-in-Check-clause-does : goal.returns-in-Check-clause-does
returns-in-Check-clause-does g c given meaning told is = checked_does c.args.command c.args.limits.now (source_of c.args.bound.now) given _ meaning (only_checked c.args.command c.in-Check.is) is

pub returns-in-Run-clause-known : goal.returns-in-Run-clause-known
returns-in-Run-clause-known g c given told = rw c.in-Run.is (run_known c.args.limits.now (source_of c.args.bound.now) given _ _ c.run.result (c.run.ensures.ran given told))

pub returns-in-Run-clause-does : goal.returns-in-Run-clause-does
returns-in-Run-clause-does g c given meaning told is =
    run_does c.args.limits.now (source_of c.args.bound.now) given _ _ c.run.result (c.run.ensures.ran given told) (c.run.ensures.begins given told) meaning (rw c.in-Run.is at is)

pub returns-in-Compile-clause-known : goal.returns-in-Compile-clause-known
returns-in-Compile-clause-known g c given told = rw c.in-Compile.is (holds_on_ok c.write_made.result (coded_means c.args.limits.now (source_of c.args.bound.now) given))

pub returns-in-Compile-clause-does : goal.returns-in-Compile-clause-does
returns-in-Compile-clause-does g c given meaning told is =
    coded_does c.args.limits.now (source_of c.args.bound.now) given _ _ c.write_made.result (c.write_made.ensures.does (SomeCodeFile (source_of c.args.bound.now)) c.code_file_of.ensures) meaning (rw c.in-Compile.is at is)

pub returns-in-Listing-clause-known : goal.returns-in-Listing-clause-known
returns-in-Listing-clause-known g c given told = rw c.in-Listing.is (holds_on_ok c.write_made-in-Listing.result (listed_means c.args.limits.now (source_of c.args.bound.now) given))

pub returns-in-Listing-clause-does : goal.returns-in-Listing-clause-does
returns-in-Listing-clause-does g c given meaning told is =
    listed_does c.args.limits.now (source_of c.args.bound.now) given _ _ c.write_made-in-Listing.result (c.write_made-in-Listing.ensures.does (SomeListing (source_of c.args.bound.now)) c.listing_of.ensures) meaning (rw c.in-Listing.is at is)

pub returns-in-References-clause-known : goal.returns-in-References-clause-known
returns-in-References-clause-known g c given told = rw c.in-References.is (holds_on_ok c.write_made-in-References.result (references_means c.args.limits.now (source_of c.args.bound.now) given))

pub returns-in-References-clause-does : goal.returns-in-References-clause-does
returns-in-References-clause-does g c given meaning told is =
    references_does c.args.limits.now (source_of c.args.bound.now) given _ _ c.write_made-in-References.result (c.write_made-in-References.ensures.does (Exactly (references_text (source_of c.args.bound.now))) c.cross_references.ensures) meaning (rw c.in-References.is at is)
