use Rattle.bd_frames.specs.{declared.table.FrameTable.{FrameTable}, Stands.{Makes}, Room.{Uses}, Words.{lost_frame}}
use Rattle.bd_calls.proofs.OneByOne.{along}
use Rattle.bd_calls.proofs.frame.lose_unread.Given as goal

-- what is still to be lost makes of these frames what the whole makes of the first
abbrev pub invariant-loop-work : goal.invariant-loop-work
invariant-loop-work l = record {
  stands : (t : FrameTable) → Makes l.frames t (along lost_frame l.work-iterator) → Makes l.initial.frames t (along lost_frame l.initial.work-iterator);
  uses : Uses l.initial.frames l.frames 0;
}
