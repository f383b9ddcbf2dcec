use Rattle.std.proofs.Common.{subst, sym}
use Rattle.simset.specs.Instances.{number_of}
use Rattle.sim_code.specs.Sets.{set_effect}
use Rattle.object_machine.specs.SetRows.{CameAs}
use Rattle.object_machine.proofs.sets.perform.Goals as goal

pub returns-in-Suc : goal.returns-in-Suc
returns-in-Suc c naming o same = subst (λ n. CameAs c.successor.result naming (set_effect n naming o c.args.x.0 (number_of c.args.given)) o c.args.rings.now.sets) (sym c.in-Suc.is) (c.successor.ensures naming o (number_of c.args.given) same)

pub returns-in-Pred : goal.returns-in-Pred
returns-in-Pred c naming o same = subst (λ n. CameAs c.predecessor.result naming (set_effect n naming o c.args.x.0 (number_of c.args.given)) o c.args.rings.now.sets) (sym c.in-Pred.is) (c.predecessor.ensures naming o (number_of c.args.given) same)

pub returns-in-Prev : goal.returns-in-Prev
returns-in-Prev c naming o same = subst (λ n. CameAs c.previous.result naming (set_effect n naming o c.args.x.0 (number_of c.args.given)) o c.args.rings.now.sets) (sym c.in-Prev.is) (c.previous.ensures naming o (number_of c.args.given) same)

pub returns-in-Out : goal.returns-in-Out
returns-in-Out c naming o same = subst (λ n. CameAs c.take_out.result naming (set_effect n naming o c.args.x.0 (number_of c.args.given)) o c.take_out.new.rings.sets) (sym c.in-Out.is) (c.take_out.ensures naming o (number_of c.args.given) same)

pub returns-in-First : goal.returns-in-First
returns-in-First c naming o same = subst (λ n. CameAs c.first_link.result naming (set_effect n naming o c.args.x.0 (number_of c.args.given)) o c.args.rings.now.sets) (sym c.in-First.is) (c.first_link.ensures naming o (number_of c.args.given) same)

pub returns-in-Last : goal.returns-in-Last
returns-in-Last c naming o same = subst (λ n. CameAs c.last_link.result naming (set_effect n naming o c.args.x.0 (number_of c.args.given)) o c.args.rings.now.sets) (sym c.in-Last.is) (c.last_link.ensures naming o (number_of c.args.given) same)

pub returns-in-Empty : goal.returns-in-Empty
returns-in-Empty c naming o same = subst (λ n. CameAs c.is_without_links.result naming (set_effect n naming o c.args.x.0 (number_of c.args.given)) o c.args.rings.now.sets) (sym c.in-Empty.is) (c.is_without_links.ensures naming o (number_of c.args.given) same)

pub returns-in-Cardinal : goal.returns-in-Cardinal
returns-in-Cardinal c naming o same = subst (λ n. CameAs c.link_count.result naming (set_effect n naming o c.args.x.0 (number_of c.args.given)) o c.args.rings.now.sets) (sym c.in-Cardinal.is) (c.link_count.ensures naming o (number_of c.args.given) same)

pub returns-in-Clear : goal.returns-in-Clear
returns-in-Clear c naming o same = subst (λ n. CameAs c.take_all_out.result naming (set_effect n naming o c.args.x.0 (number_of c.args.given)) o c.take_all_out.new.rings.sets) (sym c.in-Clear.is) (c.take_all_out.ensures naming o (number_of c.args.given) same)
