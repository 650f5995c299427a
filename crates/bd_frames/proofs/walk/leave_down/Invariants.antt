use Rattle.std.proofs.Common.{ℕ, ◌≡◌, ◌≤◌, ◌<◌, length, get_or, take, vec_len, vec_capacity}
use Rattle.bd_frames.specs.{declared.frame.Row.{Row}, Words.{left_row}, Places.{AreRising}, Linked.{IsStack}}
use Rattle.bd_frames.proofs.walk.leave_down.Given as goal

abbrev pub invariant-loop-i : goal.invariant-loop-i
invariant-loop-i l = record {
  within : l.way.end ≤ vec_len l.fn.rows;
  same : take l.way.end l.rows.items ≡ take l.way.end l.fn.rows.items;
  way : AreRising l.fn.rows.items → IsStack l.seat l.fn.bound l.fn.rows.items → IsStack l.seat l.way.bound (take l.way.end l.fn.rows.items);
  so_far : AreRising l.fn.rows.items → IsStack l.seat l.fn.bound l.fn.rows.items
      → (k : ℕ) (d : Row) → l.way.end ≤ k → k < length l.fn.rows.items → get_or l.rows.items k d ≡ left_row l.seat (get_or l.fn.rows.items k d);
  len : vec_len l.rows ≡ vec_len l.fn.rows;
  capacity : vec_capacity l.rows ≡ vec_capacity l.fn.rows;
}

abbrev pub decreases-loop-i : goal.decreases-loop-i
decreases-loop-i l = l.way.end
