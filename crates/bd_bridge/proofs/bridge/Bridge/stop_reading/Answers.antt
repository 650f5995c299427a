use Rattle.bd_bridge.proofs.Forgetting.{all_but}
use Rattle.bd_bridge.proofs.bridge.Bridge.stop_reading.Goals as goal

pub returns-in-Some-clause-watched : goal.returns-in-Some-clause-watched
returns-in-Some-clause-watched g c = λ h was.
    let e = g.E.Engine in
    c.awake.ensures.watched h (all_but (e.Sees h) (e.IsOf h) (e.CanRest h) c.args.self.now.waiters c.args.self.now.suspects c.args.self.now.resting c.args.seat was)
