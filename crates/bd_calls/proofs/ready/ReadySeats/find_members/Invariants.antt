use Rattle.std.proofs.Common.{◌≡◌, ℕ, ◌<◌, true, None, get_or}
use Rattle.std.specs.Int.{bit_at}
use Rattle.bd_calls.specs.Grouped.{is_member}
use Rattle.bd_calls.proofs.ready.ReadySeats.find_members.Given as goal

abbrev pub invariant-loop-at : goal.invariant-loop-at
invariant-loop-at l = (i : ℕ) → i < l.at → is_member l.process (get_or l.self.seats.items i None) ≡ true → bit_at l.members i ≡ 1
