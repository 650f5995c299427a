-- How a seat's thread waits.
use Rattle.std.specs.Prelude.{ℕ, Option}
use Rattle.bd_bridge.specs.declared.waiters.{Waiter.{Waiter}, Waiters.{Waiters}}
use Rattle.bd_bridge.specs.Rows.{row_at}

-- None: it doesn't
abbrev pub at : Waiters → ℕ → Option Waiter
at waiters seat = row_at waiters.rows.items seat

abbrev pub seats_in : Waiters → ℕ
seats_in waiters = waiters.seats
