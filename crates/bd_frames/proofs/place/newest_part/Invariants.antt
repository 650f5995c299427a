use Rattle.std.proofs.Common.{◌≡◌, ◌≤◌, false, length}
use Rattle.std.specs.List.{AllWithin}
use Rattle.bd_space.specs.Frames.{takes_part}
use Rattle.bd_frames.specs.{declared.frame.Row.{Row}, Places.{AreRising}, Linked.{IsStack}}
use Rattle.bd_frames.proofs.place.newest_part.Given as goal

abbrev pub invariant-loop-from : goal.invariant-loop-from
invariant-loop-from l = record {
  within : l.from ≤ length l.rows;
  after : AreRising l.rows → IsStack l.seat l.fn.bound l.rows
      → AllWithin (λ (r : Row). takes_part l.seat r.frame ≡ false) l.rows l.from (length l.rows);
}

abbrev pub decreases-loop-from : goal.decreases-loop-from
decreases-loop-from l = l.from
