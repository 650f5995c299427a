use Rattle.std.proofs.Common.{◌≡◌, ℕ, ◌≤◌, ◌<◌, None}
use Rattle.bd_places.specs.Places.{at}
use Rattle.bd_places.proofs.places.Places.next.Given as goal

abbrev pub invariant-loop-i : goal.invariant-loop-i
invariant-loop-i g l = (i : ℕ) → l.from ≤ i → i < l.i → at l.self i ≡ None
