use Rattle.bd_buffers.proofs.Words.{◌+◌}
use Rattle.bd_buffers.proofs.AllWindows.{told_of}
use Rattle.bd_buffers.proofs.windows.Windows.owned.Goals as goal

pub returns-clause-lives : goal.returns-clause-lives
returns-clause-lives c = λ s q stands lives.
    (told_of c.args.self.now (s.steps + 1) c.args.p s.processes s.buffers c.owned_by.result stands (rw (← c.self.view_is, ← c.deref.ensures.value) c.owned_by.ensures)).0 q lives

pub returns-clause-gone : goal.returns-clause-gone
returns-clause-gone c = λ s stands gone.
    (told_of c.args.self.now (s.steps + 1) c.args.p s.processes s.buffers c.owned_by.result stands (rw (← c.self.view_is, ← c.deref.ensures.value) c.owned_by.ensures)).1 gone
