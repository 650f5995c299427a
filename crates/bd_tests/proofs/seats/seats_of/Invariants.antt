use Rattle.std.proofs.Common.{◌≡◌, All}
use Rattle.std.specs.Vec.Iter.{into_iter_items}
use Rattle.bd_tests.proofs.seats.seats_of.Given as goal

abbrev pub invariant-loop-part : goal.invariant-loop-part
invariant-loop-part l = All (λ p. p.seat.table ≡ l.driver.table) (into_iter_items l.part-iterator) × All (λ s. s.table ≡ l.driver.table) l.seats.items
