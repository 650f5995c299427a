use Rattle.std.proofs.Common.{◌≡◌}
use Rattle.bd_audit.specs.GiftSearch.{AreGifts}
use Rattle.bd_audit.specs.Replays.{beginning}
use Rattle.bd_audit.proofs.gifts.gifts_of.Given as goal

abbrev pub invariant-loop-entry : goal.invariant-loop-entry
invariant-loop-entry l = record {
  engine : l.engine ≡ beginning l.entry-index (record { seats = l.fn.seats; entries = l.fn.entries });
  gifts : AreGifts l.engine.entries l.object l.gifts.items;
}
