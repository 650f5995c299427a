use Rattle.bd_driver.proofs.Words.{ServedAll, Serving, rest, view_of, ◌≡◌, ◌≤◌}
use Rattle.bd_driver.proofs.driver.Driver.serve_all.Given as goal

abbrev pub invariant-loop-number : goal.invariant-loop-number
invariant-loop-number l = record {
  table : l.table_seat.table_id ≡ l.initial.table_seat.table_id;
  serving : Serving l.table_seat.me l.engine;
  seats_are : l.engine.seats ≡ l.initial.engine.seats;
  all : ServedAll (view_of l.initial.table_seat.me.0) (rest l.initial.table_seat.me.1) l.number l.table_seat.me l.picked;
  few : l.picked ≤ l.number;
}
