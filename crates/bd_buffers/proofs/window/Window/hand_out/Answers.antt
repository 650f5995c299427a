use Rattle.bd_buffers.proofs.Noted.{keeps_handed}
use Rattle.bd_buffers.proofs.window.Window.hand_out.Goals as goal

pub invariant_of-self : goal.invariant_of-self
invariant_of-self c = rw c.hand_out.ensures.records (keeps_handed c.args.made c.self.inside.buffers.records c.self.inside.ground c.self.invariant)
