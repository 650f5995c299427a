use Rattle.std.proofs.Common.{◌≡◌, drop}
use Rattle.bd_tickets.specs.Held.{descriptors_of}
use Rattle.bd_tickets.proofs.tickets.Tickets.get.Given as goal

abbrev pub invariant-loop-index : goal.invariant-loop-index
invariant-loop-index l = descriptors_of l.step (drop l.index l.self.parcels.items) ≡ descriptors_of l.fn.step l.fn.self.parcels.items
