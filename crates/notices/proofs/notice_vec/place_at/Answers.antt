use Rattle.std.proofs.Common.{◌≡◌, sym, subst, rules, take, drop}
use Rattle.std.proofs.lemmas.List.Sorted.{IsPartitionPoint-from_clause}
use Rattle.notices.specs.Notices.{front_at, back_at, is_earlier_than, is_at_most, is_at_least, is_later_than}
use Rattle.notices.proofs.ListLemmas.{filter-front, filter-back}
use Rattle.notices.proofs.ScheduleLemmas.{earlier-split, at_most-split, IsPartitionedBy-down, earlier-down, at_most-down}
use Rattle.notices.proofs.notice_vec.place_at.Goals as goal

pub returns-then-prior-clause-front : goal.returns-then-prior-clause-front
returns-then-prior-clause-front c =
    let point = IsPartitionPoint-from_clause (is_earlier_than c.args.time) _ _ c.partition_point.ensures.partitioned (IsPartitionedBy-down (is_earlier_than c.args.time) (earlier-down c.args.time) c.args.items.now c.requires) (λ a r q k. search rules) in
    subst (λ b. take c.partition_point.result c.args.items.now ≡ front_at c.args.time b c.args.items.now) (sym c.if-prior.true) (sym (filter-front (is_earlier_than c.args.time) c.args.items.now c.partition_point.result point.0 point.1))

pub returns-then-prior-clause-back : goal.returns-then-prior-clause-back
returns-then-prior-clause-back c =
    let point = IsPartitionPoint-from_clause (is_earlier_than c.args.time) _ _ c.partition_point.ensures.partitioned (IsPartitionedBy-down (is_earlier_than c.args.time) (earlier-down c.args.time) c.args.items.now c.requires) (λ a r q k. search rules) in
    subst (λ b. drop c.partition_point.result c.args.items.now ≡ back_at c.args.time b c.args.items.now) (sym c.if-prior.true) (sym (filter-back (is_earlier_than c.args.time) (is_at_least c.args.time) (earlier-split c.args.time) c.args.items.now c.partition_point.result point.0 point.1))

pub returns-else-prior-clause-front : goal.returns-else-prior-clause-front
returns-else-prior-clause-front c =
    let point = IsPartitionPoint-from_clause (is_at_most c.args.time) _ _ c.partition_point-else-prior.ensures.partitioned (IsPartitionedBy-down (is_at_most c.args.time) (at_most-down c.args.time) c.args.items.now c.requires) (λ a r q k. search rules) in
    subst (λ b. take c.partition_point-else-prior.result c.args.items.now ≡ front_at c.args.time b c.args.items.now) (sym c.if-prior.false) (sym (filter-front (is_at_most c.args.time) c.args.items.now c.partition_point-else-prior.result point.0 point.1))

pub returns-else-prior-clause-back : goal.returns-else-prior-clause-back
returns-else-prior-clause-back c =
    let point = IsPartitionPoint-from_clause (is_at_most c.args.time) _ _ c.partition_point-else-prior.ensures.partitioned (IsPartitionedBy-down (is_at_most c.args.time) (at_most-down c.args.time) c.args.items.now c.requires) (λ a r q k. search rules) in
    subst (λ b. drop c.partition_point-else-prior.result c.args.items.now ≡ back_at c.args.time b c.args.items.now) (sym c.if-prior.false) (sym (filter-back (is_at_most c.args.time) (is_later_than c.args.time) (at_most-split c.args.time) c.args.items.now c.partition_point-else-prior.result point.0 point.1))
