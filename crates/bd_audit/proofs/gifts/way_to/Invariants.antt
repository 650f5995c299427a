use Rattle.std.proofs.Common.{length}
use Rattle.bd_audit.proofs.NamesHaveGiftChains.GiftSteps.{WayBack}
use Rattle.bd_audit.proofs.gifts.way_to.Given as goal

abbrev pub invariant-loop-gift : goal.invariant-loop-gift
invariant-loop-gift l = WayBack l.fn.gifts.items l.left.items l.places.items l.fn.receiver l.next

abbrev pub decreases-loop-gift : goal.decreases-loop-gift
decreases-loop-gift l = length l.left.items
