use Rattle.std.proofs.Common.{◌≡◌, ◌<◌, ℕ, []}
use Rattle.bd_tickets.specs.Shelves.{parcels_at}
use Rattle.bd_tickets.proofs.shelves.Shelves.some_step.Given as goal

abbrev pub invariant-loop-index : goal.invariant-loop-index
invariant-loop-index l = (i : ℕ) → i < l.index → parcels_at l.self.lists.items i ≡ []
