use Rattle.std.proofs.Common.{◌≡◌, ◌≤◌, ◌++◌, length, map, filter, reverse, take, drop, vec_len, vec_capacity}
use Rattle.bd_space.specs.{declared.space.Frame.{Frame}, Frames.{serves, made_of}}
use Rattle.bd_frames.specs.{Places.{frames_of, AreRising}, Linked.{IsStack}}
use Rattle.bd_frames.proofs.walk.push_served_down.Given as goal

abbrev pub invariant-loop-i : goal.invariant-loop-i
invariant-loop-i l = record {
  within : l.way.end ≤ length l.rows;
  way : AreRising l.rows → IsStack l.seat l.fn.bound l.rows → IsStack l.seat l.way.bound (take l.way.end l.rows);
  so_far : AreRising l.rows → IsStack l.seat l.fn.bound l.rows
      → l.served.items
      ≡ l.fn.served.items ++ reverse (map made_of (filter (λ (f : Frame). serves l.seat f.server) (frames_of (drop l.way.end l.rows))));
  longer : vec_len l.fn.served ≤ vec_len l.served;
  room : vec_capacity l.fn.served ≤ vec_capacity l.served;
}

abbrev pub decreases-loop-i : goal.decreases-loop-i
decreases-loop-i l = l.way.end
