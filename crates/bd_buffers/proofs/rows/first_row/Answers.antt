use Rattle.bd_buffers.proofs.Words.{IsPartitionPoint-from_clause, Record, ltb, non_decreasing, rules}
use Rattle.bd_buffers.proofs.Made.{searched}
use Rattle.bd_buffers.proofs.rows.first_row.Goals as goal

pub returns : goal.returns
returns c =
    let key = λ (r : Record). r.made in let rows = c.args.rows.now in
    searched key c.args.from c.partition_point.result rows (non_decreasing key rows c.requires.order)
    (λ parted. IsPartitionPoint-from_clause (λ (r : Record). ltb r.made c.args.from) _ _ c.partition_point.ensures.partitioned parted (λ a r q k. search rules))
