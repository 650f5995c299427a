use Rattle.std.proofs.Common.{◌<◌}
use Rattle.bd_bridge.proofs.Forgetting.{with_that}
use Rattle.bd_bridge.proofs.bridge.Bridge.mark_again.Goals as goal

pub returns-clause-watched : goal.returns-clause-watched
returns-clause-watched g c = λ h was.
    let e = g.E.Engine in
    let inside : c.args.seat < c.seats-seats.result = rw c.seats-seats.ensures c.requires in
    with_that (e.Sees h) (e.IsOf h) (e.CanRest h) c.args.self.now.waiters c.args.self.now.suspects c.add.new.self c.args.self.now.resting c.args.seat (c.add.ensures.added inside) c.add.ensures.kept was
