use Rattle.std.proofs.Common.{◌≡◌, ℕ, [], length}
use Rattle.bd_tickets.specs.Shelves.{held_on, parcels_at}
use Rattle.bd_tickets.proofs.shelves.empty_lists.Given as goal

abbrev pub invariant-loop-made : goal.invariant-loop-made
invariant-loop-made l = record {
  held : (d : ℕ) → held_on l.lists.items d ≡ 0;
  none : (i : ℕ) → parcels_at l.lists.items i ≡ [];
  many : length l.lists.items ≡ l.made;
}
