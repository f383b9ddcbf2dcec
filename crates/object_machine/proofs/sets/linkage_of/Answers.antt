use Rattle.std.proofs.Common.{rules, ◌≡◌}
use Rattle.object_machine.proofs.SetRows.{main_linkage, main_no_linkage, object_linkage, object_no_linkage}
use Rattle.object_machine.proofs.sets.linkage_of.Goals as goal

pub returns-in_default : goal.returns-in_default
returns-in_default c = record {
  object = λ o rises same. object_no_linkage o c.args.objects.now c.args.object.stamp same (c.in_default.ensures.is rises);
  main = λ o rises same. main_no_linkage o c.args.objects.now c.args.object.stamp same (c.in_default.ensures.is rises);
}

pub returns : goal.returns
returns c =
    let number : c.in-Some.place ≡ c.in-Ok.number = search rules in record {
      object = λ o rises same. object_linkage o c.args.objects.now c.args.object.stamp c.in-Some.place (record { 0 = c.in-Ok.number }) same (c.in-Some.ensures.is rises) number;
      main = λ o rises same. main_linkage o c.args.objects.now c.args.object.stamp c.in-Some.place (record { 0 = c.in-Ok.number }) same (c.in-Some.ensures.is rises) number;
    }
