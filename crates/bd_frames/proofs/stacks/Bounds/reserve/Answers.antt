use Rattle.std.proofs.Common.{unwrap_or, ap}
use Rattle.bd_frames.proofs.stacks.Bounds.reserve.Goals as goal

pub returns : goal.returns
returns c = λ s. ap (λ o. unwrap_or o c.args.self.now.rest) (c.reserve-refused.ensures.entries.2 s)
