use Rattle.std.proofs.Common.{◌<◌, ◌∙◌, length, length-set, refl, sym, arith}
use Rattle.object_machine.proofs.ArrayRows.{lead_arrays_put, lead_put}
use Rattle.object_machine.proofs.ReadOperands.{all_read, one_unread, read_more, read_none, read_same}
use Rattle.object_machine.proofs.reading.read_operands.Goals as goal

pub returns-in_default-clause-leads : goal.returns-in_default-clause-leads
returns-in_default-clause-leads c m all = c.loop-at.invariant.2 m all

pub returns-in_default-clause-leads_arrays : goal.returns-in_default-clause-leads_arrays
returns-in_default-clause-leads_arrays c list all = c.loop-at.invariant.3 list all

pub returns-in_default-clause-read : goal.returns-in_default-clause-read
returns-in_default-clause-read c o m source h ha ports lead leads =
    one_unread o m c.args.first c.loop-at.at c.args.end c.args.stack.now c.loop-at.stack c.loop-at.invariant.1 c.loop-at-test.true (c.loop-at.invariant.4 o m source h ha ports lead leads)
    (c.in_default.ensures.value o m source h ha ports (c.loop-at.invariant.2 m lead c.loop-at.at) (c.loop-at.invariant.3 o.arrays leads c.loop-at.at))

pub loop-at-preserved : goal.loop-at-preserved
loop-at-preserved c =
    let at = c.loop-at.at in
    let cur = c.loop-at.stack in
    let slot = c.in-Some.slot in
    let test = c.loop-at-test.true in
    let there = c.requires.there in
    let same = c.loop-at.invariant.0 in
    let within : at < length cur = omega (arith, test, there, same) in (
      length-set cur at slot ∙ same,
      omega (arith, c.loop-at.invariant.1),
      λ m all. lead_put c.args.frames.now m cur at slot within (c.loop-at.invariant.2 m all) (c.in-Some.ensures.leads m (c.loop-at.invariant.2 m all at)),
      λ list all. lead_arrays_put c.args.arrays.now.regions list cur at slot within (c.loop-at.invariant.3 list all) (c.in-Some.ensures.leads_arrays list (c.loop-at.invariant.3 list all at)),
      λ o m source h ha ports lead leads. read_more o m c.args.first at c.args.stack.now cur slot c.loop-at.invariant.1 within (c.loop-at.invariant.4 o m source h ha ports lead leads)
          (c.in-Some.ensures.value o m source h ha ports (c.loop-at.invariant.2 m lead at) (c.loop-at.invariant.3 o.arrays leads at)),
    )

pub loop-at-preserved-then-is_plain : goal.loop-at-preserved-then-is_plain
loop-at-preserved-then-is_plain c = (
  c.loop-at.invariant.0,
  omega (arith, c.loop-at.invariant.1),
  c.loop-at.invariant.2,
  c.loop-at.invariant.3,
  λ o m source h ha ports lead leads.
      read_same o m c.args.first c.loop-at.at c.args.stack.now c.loop-at.stack c.loop-at.invariant.1 (c.loop-at.invariant.4 o m source h ha ports lead leads) (sym c.is_plain.ensures ∙ c.if-is_plain.true),
)

pub loop-at-init : goal.loop-at-init
loop-at-init c = (refl, omega arith, λ m h. h, λ list h. h, λ o m source h ha ports lead leads. read_none o m c.args.first c.args.stack.now)

pub returns-clause-leads : goal.returns-clause-leads
returns-clause-leads c m all = c.loop-at.invariant.2 m all

pub returns-clause-leads_arrays : goal.returns-clause-leads_arrays
returns-clause-leads_arrays c list all = c.loop-at.invariant.3 list all

pub returns-clause-read : goal.returns-clause-read
returns-clause-read c o m source h ha ports lead leads = all_read o m c.args.first c.loop-at.at c.args.end c.args.stack.now c.loop-at.stack c.loop-at-test.false (c.loop-at.invariant.4 o m source h ha ports lead leads)
