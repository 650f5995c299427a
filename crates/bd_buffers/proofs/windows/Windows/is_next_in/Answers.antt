use Rattle.bd_buffers.proofs.AllWindows.{older, stands_there}
use Rattle.bd_buffers.proofs.windows.Windows.is_next_in.Goals as goal

pub returns-clause-always : goal.returns-clause-always
returns-clause-always c = λ s stands e.
    let there = stands_there c.self.inside.windows.items c.args.at c.index.result.now c.self.invariant (rw (← c.self.view_is) at c.requires) c.index.ensures in
    c.is_newest.ensures.1 (rw e at (older c.args.self.now s.steps c.index.result.now.owner s.processes s.buffers c.index.result.now stands (rw (← c.self.view_is) there)))
