use Rattle.std.proofs.Common.{◌≡◌}
use Rattle.bd_audit.specs.GiftSearch.{AreReceivers}
use Rattle.bd_audit.specs.Replays.{beginning}
use Rattle.bd_audit.proofs.gifts.receivers_of.Given as goal

abbrev pub invariant-loop-entry : goal.invariant-loop-entry
invariant-loop-entry l = record {
  engine : l.engine ≡ beginning l.entry-index (record { seats = l.fn.seats; entries = l.fn.entries });
  receivers : AreReceivers l.engine.entries l.receivers.items;
}
