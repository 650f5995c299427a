use Rattle.std.proofs.Common.{◌≡◌, ◌-◌, ◌≤◌, drop, length}
use Rattle.bd_ways.specs.Words.{Space}
use Rattle.bd_calls.specs.{Closing.{IsClosing, close_due}, Stands.{StandsFor}, Room.{Uses, nothing, frame_count}, Told.{KeepsTold, ReachesFew}}
use Rattle.bd_calls.proofs.table.CallTable.close_among.Given as goal

abbrev pub invariant-loop-made : goal.invariant-loop-made
invariant-loop-made l = record {
  closing : (s : Space) → StandsFor l.fn.self s → s.steps ≡ l.place
      → IsClosing l.self l.place l.left (drop l.made-index l.made-items) (close_due (length s.frames) l.made-items s);
  left : l.left ≤ frame_count l.fn.self;
  uses : Uses l.fn.self l.self (record nothing { works = frame_count l.fn.self - l.left });
  told : KeepsTold l.fn.self l.self;
  few : ReachesFew (frame_count l.fn.self - l.left) l.fn.self l.self;
}
