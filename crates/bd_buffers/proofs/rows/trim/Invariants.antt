use Rattle.bd_buffers.proofs.Words.{live, vec_capacity, vec_len, ◌≡◌, ◌≤◌}
use Rattle.bd_buffers.proofs.Live.{InOrder}
use Rattle.bd_buffers.proofs.rows.trim.Given as goal

abbrev pub invariant-loop-rows : goal.invariant-loop-rows
invariant-loop-rows l = record {
  same : live l.rows.items ≡ live l.fn.rows.items;
  in_order : InOrder l.rows.items;
  len : vec_len l.rows ≤ vec_len l.fn.rows;
  capacity : vec_capacity l.rows ≡ vec_capacity l.fn.rows;
}

abbrev pub decreases-loop-rows : goal.decreases-loop-rows
decreases-loop-rows l = vec_len l.rows
