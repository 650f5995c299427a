use Rattle.std.proofs.Common.{◌≡◌, ◌+◌, ◌≤◌, length, take, drop}
use Rattle.bd_threads.specs.{Listed.{listed}, Room.{thread_room}, Rows.{live}}
use Rattle.bd_threads.proofs.table.ThreadTable.rebuilt.Given as goal

abbrev pub invariant-loop-row : goal.invariant-loop-row
invariant-loop-row l = record {
  shown : listed l.fresh ≡ live (take l.row-index l.self.rows.items);
  rows : length l.fresh.rows.items ≡ length (live (take l.row-index l.self.rows.items));
  room : length (live (drop l.row-index l.self.rows.items)) + l.more ≤ thread_room l.fresh;
}
