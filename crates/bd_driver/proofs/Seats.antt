-- Seats of one table, in lists.
use Rattle.bd_driver.proofs.Words.{All, All-append, All-drop, All-from_recursion, All-same, All-take, AllByRecursion, List, SeatState, TableId, drop, length, new_seats, refl, suc, take, zero, ℕ, ◌++◌, ◌+◌, ◌≡◌}

abbrev pub own : TableId → SeatState → Type 0
own table s = s.table ≡ table

own_from : (table : TableId) (seats who k : ℕ) → AllByRecursion (own table) (new_seats table seats who k)
own_from table seats who zero = tt
own_from table seats who (suc k) = (refl, own_from table seats (who + 1) k)

pub own_all : (table : TableId) (seats : ℕ) (dealt : List SeatState) → dealt ≡ new_seats table seats 0 seats → All (own table) dealt
own_all table seats dealt is = All-same (own table) dealt (new_seats table seats 0 seats) is (All-from_recursion (own table) (new_seats table seats 0 seats) (own_from table seats 0 seats))

-- what a slice leaves in its vector
pub left_in : (table : TableId) (n : ℕ) (new old : List SeatState) → All (own table) new → All (own table) old → All (own table) (take n (new ++ drop (length new) old))
left_in table n new old all were = All-take (own table) n (new ++ drop (length new) old) (All-append (own table) new (drop (length new) old) all (All-drop (own table) (length new) old were))
