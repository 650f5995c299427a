use Rattle.std.proofs.Common.{◌≡◌, ◌≤◌, drop, length}
use Rattle.bd_bridge_live.specs.Deferring.{all_can_wait}
use Rattle.bd_bridge_live.proofs.deferring.all_can_wait.Given as goal

abbrev pub invariant-loop-left : goal.invariant-loop-left
invariant-loop-left l = record {
  within : l.at ≤ length l.bytes;
  same : all_can_wait l.left (drop l.at l.bytes) ≡ all_can_wait (length l.bytes) l.bytes;
}

abbrev pub decreases-loop-left : goal.decreases-loop-left
decreases-loop-left l = l.left
