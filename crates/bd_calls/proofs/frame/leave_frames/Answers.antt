use Rattle.std.proofs.Common.{subst}
use Rattle.bd_frames.specs.Stands.{FramesAre}
use Rattle.bd_calls.proofs.OneByOne.{frames_left}
use Rattle.bd_calls.proofs.frame.leave_frames.Goals as goal

pub returns-clause-frames : goal.returns-clause-frames
returns-clause-frames c = λ works stand l are.
    subst (FramesAre c.leave.new.self) (frames_left works c.args.seat l) (c.leave.ensures.stands _ (c.lose_unread.ensures.frames works stand l are))
