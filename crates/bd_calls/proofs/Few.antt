-- How many todo lists changes fill or empty, one after the other.
use Rattle.std.proofs.Common.{◌≤◌, ◌+◌, ℕ, arith}
use Rattle.bd_calls.specs.{declared.table.CallTable.{CallTable}, Told.{HasRoomToTell, ReachesFew}}

room_less : (t : CallTable) (m n : ℕ) → m ≤ n → HasRoomToTell t n → HasRoomToTell t m
unfolding HasRoomToTell
room_less t m n less room = (room.0, (let fits = room.1 in omega (arith, less, fits)))

-- nothing was done
pub few_same : (t : CallTable) (n : ℕ) → ReachesFew n t t
few_same t n = λ more room. room_less t more (n + more) (omega arith) room

pub few_less : (t u : CallTable) (m n : ℕ) → m ≤ n → ReachesFew m t u → ReachesFew n t u
few_less t u m n less few = λ more room. few more (room_less t (m + more) (n + more) (omega (arith, less)) room)

pub few_both : (t u v : CallTable) (m n k : ℕ) → m + n ≤ k → ReachesFew m t u → ReachesFew n u v → ReachesFew k t v
few_both t u v m n k less first second = λ more room.
    second more (first (n + more) (room_less t (m + (n + more)) (k + more) (omega (arith, less)) room))
