use Rattle.std.proofs.Common.{ltb, rules, arith, ◌∙◌}
use Rattle.std.proofs.lemmas.Bool.{ltb-true, ltb-false}
use Rattle.std.proofs.lemmas.List.Sorted.{IsPartitionPoint-from_clause, IsPartitionedBy-ltb}
use Rattle.bd_space.specs.declared.space.Process.{Process}
use Rattle.bd_keys.proofs.Rising.{non_decreasing}
use Rattle.bd_processes.proofs.First.{first_at, got}
use Rattle.bd_processes.proofs.list.first_from.Goals as goal

pub returns : goal.returns
returns c = λ rising.
    let made = λ (q : Process). q.made in
    let from = c.args.from in
    let ps = c.args.processes.now in
    let i = c.partition_point-i.result in
    let parted = IsPartitionedBy-ltb made ps from (non_decreasing made ps rising) in
    let point = IsPartitionPoint-from_clause (λ (q : Process). ltb q.made from) _ _ c.partition_point-i.ensures.partitioned parted (λ a r q k. search rules) in
    c.copied.ensures ∙ got c.get.result ps i c.get.ensures.lookup.0 c.get.ensures.lookup.1
    ∙ first_at made from ps i (λ k d lt. ltb-true _ _ (point.0 k d (omega arith) lt)) (λ k d le lt. ltb-false _ _ (point.1 k d le lt))
