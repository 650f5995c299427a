-- What contracts see of a driver and of a seat.
use Rattle.std.specs.Prelude.{ℕ}
use Rattle.atomic_table.specs.Seated.{TableId}
use Rattle.bd_driver.specs.declared.view.View.{View}

-- a driver is told by its table
pub record DriverState : Type 0 where
  pub table : TableId
  pub seats : ℕ

-- a seat is told by the table that it is of, and by its view
pub record SeatState : Type 0 where
  pub table : TableId
  pub view : View
