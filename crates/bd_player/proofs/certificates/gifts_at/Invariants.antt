use Rattle.std.proofs.Common.{◌≡◌, All}
use Rattle.bd_spelling.specs.Records.{history_in}
use Rattle.bd_audit.specs.Replays.{beginning}
use Rattle.bd_player.specs.Certified.{IsGiftOf, Rise}
use Rattle.bd_player.proofs.Gifts.{AreSoFar}
use Rattle.bd_player.proofs.certificates.gifts_at.Given as goal

abbrev pub invariant-loop-entry : goal.invariant-loop-entry
invariant-loop-entry l = record {
  engine : l.engine ≡ beginning l.entry-index (history_in l.fn.record);
  each : All (IsGiftOf (history_in l.fn.record)) l.gifts.items;
  so_far : Rise 0 l.fn.record.entries l.places → AreSoFar l.entry-index l.fn.record.entries l.places l.gifts.items;
}
