use Rattle.std.proofs.Common.{◌≡◌, ◌≤◌, ℕ, true, Some, drop, length}
use Rattle.bd_bridge.specs.{Suspects.{is_suspect}, Named.{has_seat}, Waiting.{at}}
use Rattle.bd_bridge.specs.declared.waiters.Waiter.{Waiter}
use Rattle.bd_bridge.proofs.reach.mark_seats.Given as goal

abbrev pub invariant-loop-left : goal.invariant-loop-left
invariant-loop-left l = record {
  within : l.left ≤ length l.these;
  named : (t : ℕ) (w : Waiter) → at l.waiters t ≡ Some w → has_seat (drop l.left l.these) t ≡ true → is_suspect l.suspects t ≡ true;
  kept : (t : ℕ) → is_suspect l.initial.suspects t ≡ true → is_suspect l.suspects t ≡ true;
}

abbrev pub decreases-loop-left : goal.decreases-loop-left
decreases-loop-left l = l.left
