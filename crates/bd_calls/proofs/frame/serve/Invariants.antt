use Rattle.std.proofs.Common.{drop}
use Rattle.bd_space.specs.ReadItems.{serve}
use Rattle.bd_frames.specs.{declared.table.FrameTable.{FrameTable}, Stands.{Makes}, Room.{Uses}}
use Rattle.bd_calls.proofs.OneByOne.{along}
use Rattle.bd_calls.proofs.frame.serve.Given as goal

-- what is still to be served makes of these frames what the whole makes of the first
abbrev pub invariant-loop-work : goal.invariant-loop-work
invariant-loop-work l = record {
  stands : (t : FrameTable) → Makes l.frames t (along (serve l.seat) (drop l.work-index l.taken)) → Makes l.initial.frames t (along (serve l.seat) l.taken);
  uses : Uses l.initial.frames l.frames 0;
}
