use Rattle.std.proofs.Common.{◌≡◌, drop}
use Rattle.bd_tickets.specs.Held.{descriptors_of}
use Rattle.bd_tickets.proofs.tickets.Tickets.take.Given as goal

abbrev pub invariant-loop-index : goal.invariant-loop-index
invariant-loop-index l = record {
  same : descriptors_of l.step (drop l.index l.self.parcels.items) ≡ descriptors_of l.fn.step l.fn.self.parcels.items;
  parcels : l.self.parcels.items ≡ l.fn.self.parcels.items;
}
