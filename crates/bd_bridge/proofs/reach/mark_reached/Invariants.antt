use Rattle.std.proofs.Common.{◌≡◌, ℕ, true, Some, take}
use Rattle.std.specs.List.{list_any}
use Rattle.bd_bridge.specs.{Suspects.{is_suspect}, Waiting.{at}, Reached.{is_read_by}}
use Rattle.bd_bridge.specs.declared.waiters.Waiter.{Waiter}
use Rattle.bd_bridge.proofs.reach.mark_reached.Given as goal

abbrev pub invariant-loop-list : goal.invariant-loop-list
invariant-loop-list l = record {
  named : (t : ℕ) (w : Waiter) → at l.waiters t ≡ Some w → list_any (is_read_by t w.process) (take l.list-index l.reached.lists.items) ≡ true → is_suspect l.suspects t ≡ true;
  kept : (t : ℕ) → is_suspect l.initial.suspects t ≡ true → is_suspect l.suspects t ≡ true;
}
